-- The text of a model's records, one line each, without the line's end.
-- A line is the record's letter and number, the name of its first field, then its other fields as they stand, each behind a
-- space and its mark. Every record has a text: what is missing prints nothing, and a field past the marks has the last one.
use Rattle.std.specs.Prelude.{List, [], ◌∷◌, ◌++◌, ℕ, zero, suc, eqb, ltb, get_or, take}
use Rattle.bits.specs.Bits.{pick}
use Rattle.text.specs.Decimal.{decimal}
use Rattle.lines.specs.Ascii.{space, dash, b, c, e, p, s, t}
use Rattle.lines.specs.Names.{labels, kinds, statements, model, refused, named}

-- FIELDS

-- a number behind a space and its mark: a letter, or a dash for none
unfoldable pub field : ℕ → ℕ → List ℕ
field mark n = (space ∷ pick (eqb mark dash) [] (mark ∷ [])) ++ decimal n

-- each field with its mark; those past the marks have the last
abbrev pub fields_text : List ℕ → ℕ → List ℕ → List ℕ
fields_text marks last [] = []
fields_text [] last (n ∷ f) = field last n ++ fields_text [] last f
fields_text (m ∷ marks) last (n ∷ f) = field m n ++ fields_text marks last f

-- the first field by its name, the others as rest writes them
abbrev pub fields_named : List (List ℕ) → (ℕ → List ℕ → List ℕ) → List ℕ → List ℕ
fields_named names rest [] = []
fields_named names rest (k ∷ f) = (space ∷ named names k) ++ rest k f

-- letter and number, then the fields
unfoldable pub record_text : ℕ → List (List ℕ) → (ℕ → List ℕ → List ℕ) → ℕ → List ℕ → List ℕ
record_text letter names rest n f = (letter ∷ decimal n) ++ fields_named names rest f

-- RECORDS

-- the owner's letter: the port of an input or output, the bank of a flip-flop, else the cell
unfoldable pub owner_mark : ℕ → ℕ
owner_mark label = pick (ltb label 2) p (pick (eqb label 7) b c)

-- zero and one belong to nothing, so that only their width is written
abbrev pub owned : ℕ → List ℕ → List ℕ
owned label f = pick (eqb label 14) (take 1 f) (pick (eqb label 15) (take 1 f) f)

-- width and owner
unfoldable pub signal_fields : ℕ → List ℕ → List ℕ
signal_fields label f = fields_text (dash ∷ owner_mark label ∷ []) dash (owned label f)

abbrev pub signal_text : ℕ → List ℕ → List ℕ
signal_text = record_text s labels signal_fields

-- the width; then a const's value, a read's signal and lowest bit, or operands
unfoldable pub expr_fields : ℕ → List ℕ → List ℕ
expr_fields zero f = fields_text [] dash f
expr_fields (suc zero) f = fields_text (dash ∷ s ∷ []) dash f
expr_fields (suc (suc k)) f = fields_text (dash ∷ []) e f

abbrev pub expr_text : ℕ → List ℕ → List ℕ
expr_text = record_text e kinds expr_fields

-- a flag, and behind a flag of 1 the marks of what it announces
abbrev pub optional : ℕ → List ℕ → List ℕ
optional flag marks = dash ∷ pick (eqb flag 1) marks []

-- target, next, clock and edge; the reset's flag, signal, level and value; the enable's flag, signal and level
abbrev pub reg_marks : List ℕ → List ℕ
reg_marks f =
    (s ∷ e ∷ s ∷ dash ∷ [])
    ++ optional (get_or f 4 0) (s ∷ dash ∷ e ∷ [])
    ++ optional (get_or f (pick (eqb (get_or f 4 0) 1) 8 5) 0) (s ∷ dash ∷ [])

-- an assignment's target and value; any other statement is written as a register
unfoldable pub stmt_fields : ℕ → List ℕ → List ℕ
stmt_fields zero f = fields_text (s ∷ e ∷ []) dash f
stmt_fields (suc k) f = fields_text (reg_marks f) dash f

abbrev pub stmt_text : ℕ → List ℕ → List ℕ
stmt_text = record_text t statements stmt_fields

-- THE FIRST LINE, OR THE ONLY ONE

unfoldable pub counts_text : ℕ → ℕ → ℕ → List ℕ
counts_text signals exprs stmts = model ++ fields_text [] dash (signals ∷ exprs ∷ stmts ∷ [])

unfoldable pub refused_text : ℕ → ℕ → List ℕ
refused_text number place = refused ++ field dash number ++ field dash place
