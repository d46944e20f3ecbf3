-- How the forms are found, from the words of a model and the tables that say where its records and values stand.
use Rattle.std.specs.Prelude.{ℕ, ◌+◌, ◌*◌, ◌%◌, ◌≤◌, ◌<◌, ◌≡◌, Bool, List, ◌∷◌, [], eqb, length, get_or, take, drop}
use Rattle.std.specs.Prelude.{Option, None, Some}
use Rattle.std.proofs.lemmas.List.Edits.{sets}
use Rattle.simulation.specs.Tick.{given, assigns}
use Rattle.simulation.specs.Index.{records_in, offset, clipped, stmts_in, tabled, Indexed, Starts, Driven}
use Rattle.evaluation.specs.Ready.{Prepared}
use Rattle.fusing.specs.declared.join.Lut.{Lut}
use Rattle.fusing.specs.Form.{form_bit, form_at, Means, Formed}
use Rattle.fusing.specs.Join.{form_of, gate_bit, Matches}

-- WHAT IS ASSUMED

-- a model without a fault, and its tables
pub record Known (signals exprs stmts starts expr_table signal_table driver_table : List ℕ) : Type 0 where
  pub prepared : Prepared signals exprs stmts expr_table signal_table
  pub started : Starts exprs starts
  pub driven : Driven stmts driver_table

-- all of its n expressions have room for their forms
pub record Formable (signals exprs stmts starts expr_table signal_table driver_table : List ℕ) (n from : ℕ) (forms : List ℕ) : Type 0 where
  pub prepared : Prepared signals exprs stmts expr_table signal_table
  pub started : Starts exprs starts
  pub driven : Driven stmts driver_table
  pub count : n ≡ length (records_in exprs)
  pub room : from + 6 * n ≤ length forms

-- WHERE A BIT STANDS

-- what a table says at k; the largest word stands for what it does not say
abbrev pub Entry : List ℕ → ℕ → ℕ → Type 0
Entry table k r = Some r ≡ tabled table k Some None

-- bit l of signal s, to which an expression or nothing is assigned
abbrev pub spot_of : List ℕ → List ℕ → ℕ → ℕ → Option ℕ → ℕ
spot_of ew sw s l None = offset ew (length ew) + offset sw s + l
spot_of ew sw s l (Some d) = offset ew d + l

pub record Spotted (stmts expr_table signal_table driver_table : List ℕ) (base s l r : ℕ) : Type 0 where
  pub spotted : (ew sw : List ℕ) → Indexed ew expr_table → Indexed sw signal_table → Driven stmts driver_table → base ≡ clipped (offset ew (length ew)) → s ≤ length sw → ((d : ℕ) → given assigns (stmts_in stmts) s ≡ Some d → d ≤ length ew) → r ≡ spot_of ew sw s l (given assigns (stmts_in stmts) s)

-- BY KIND

-- the lowest bit of v
pub record Constant (v : ℕ) (z : Lut) : Type 0 where
  pub bit : (x : ℕ → Bool) → form_bit x (form_of z) ≡ eqb (v % 2) 1

-- the bit at the own position of o is what its form shows
abbrev pub Own : (ℕ → Bool) → List ℕ → ℕ → Type 0
Own x forms o = x (get_or forms (6 * o + 1) 0) ≡ form_bit x (form_at forms o)

-- a gate of three operands that have forms
pub record Fused (forms : List ℕ) (kind a b c : ℕ) (z : Lut) : Type 0 where
  pub first : get_or forms (6 * a) 0 < 65536
  pub second : get_or forms (6 * b) 0 < 65536
  pub third : get_or forms (6 * c) 0 < 65536
  pub shows : (x : ℕ → Bool) → Own x forms a → Own x forms b → Own x forms c → form_bit x (form_of z) ≡ gate_bit kind (form_bit x (form_at forms a)) (form_bit x (form_at forms b)) (form_bit x (form_at forms c))

-- operand a has the value of b, a constant whose record begins at a word
pub record Compared (exprs starts expr_table : List ℕ) (a b : ℕ) (z : Lut) : Type 0 where
  pub begin : ℕ
  pub begins : Entry starts b begin
  pub constant : get_or exprs (begin + 1) 0 ≡ 0
  pub own : ℕ
  pub owned : Entry expr_table a own
  pub matches : Matches (get_or exprs (begin + 2) 0) (get_or exprs (begin + 3) 0) own z

-- ALL OF THEM

-- expression e, where those before it have theirs
pub record Finds (signals exprs stmts forms : List ℕ) (e : ℕ) (z : Lut) : Type 0 where
  pub finds : Formed signals exprs stmts forms e → Means signals exprs stmts e (form_of z)

-- six words: the table, the own position, the inputs; without a form or a position only a table that is none
abbrev pub form_words : Option ℕ → Option Lut → List ℕ
form_words None z = 65536 ∷ []
form_words (Some own) None = 65536 ∷ []
form_words (Some own) (Some z) = z.table ∷ own ∷ get_or z.inputs 0 0 ∷ get_or z.inputs 1 0 ∷ get_or z.inputs 2 0 ∷ get_or z.inputs 3 0 ∷ []

-- they are stored for expression e
pub record Puts (e : ℕ) (own : Option ℕ) (z : Option Lut) (forms forms' : List ℕ) : Type 0 where
  pub stored : forms' ≡ sets forms (6 * e) (form_words own z)

-- from word n on a list is as it was
pub record Behind (n : ℕ) (l l' : List ℕ) : Type 0 where
  pub kept : drop n l' ≡ drop n l

-- WHAT IS FILLED IN, for any words: from a word on six for each of n expressions, if there is room; all others are kept. Which forms there are is
-- left open, but each that is there is right, where model and tables are
pub record Fills (signals exprs stmts starts expr_table signal_table driver_table : List ℕ) (n from : ℕ) (forms forms' : List ℕ) : Type 0 where
  pub before : take from forms' ≡ take from forms
  pub behind : Behind (from + 6 * n) forms forms'
  pub no_room : length forms < from + 6 * n → forms' ≡ forms
  pub formed : Formable signals exprs stmts starts expr_table signal_table driver_table n from forms → Formed signals exprs stmts (drop from forms') n
