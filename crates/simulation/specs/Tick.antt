-- What a tick does to the signals, and which signals are on a loop.
use Rattle.std.specs.Prelude.{ℕ, Bool, true, ◌&&◌, List, [], ◌∷◌, ◌++◌, eqb, length, get_or, take, drop}
use Rattle.std.specs.Prelude.{Option, None, Some}
use Rattle.bits.specs.Bits.{pick, Bits, digit, lowest}
use Rattle.settle.specs.Settle.{iterate}
use Rattle.settle.specs.Table.{at, tab_from}
use Rattle.settle.specs.Loop.{lowest_on_loop}
use Rattle.recorder.specs.Record.{Signal, Expr, RegReset, RegEnable, Stmt, Model}
use Rattle.recorder.specs.Record.{const, read, concat, not, and, or, xor, mux, eq, mul, assign, reg}
pub use Rattle.recorder.specs.Record.{target}
use Rattle.recorder.specs.Read.{only}
use Rattle.recorder.specs.Evaluate.{Signals, eval_all}
use Rattle.simulation.specs.Wellformed.{or_else}

-- THE TICK. The state is the bits of each signal, in order.

-- the value of each expression
abbrev pub values_in : Model → List Bits → List Bits
values_in m now = eval_all (at [] now) [] m.exprs

-- the expression that the statements on signal s give it, by a rule for each statement
abbrev pub given : (Stmt → Option ℕ) → List Stmt → ℕ → Option ℕ
given rule [] s = None
given rule (t ∷ ts) s = pick (eqb (target t) s) (or_else (rule t) (given rule ts s)) (given rule ts s)

abbrev pub assigns : Stmt → Option ℕ
assigns (assign t e) = Some e
assigns (reg t n c d r e) = None

-- signal s has the level that a control asks for
abbrev pub asserted : Signals → ℕ → ℕ → Bool
asserted v s active = eqb (digit (lowest (v s))) active

abbrev pub reset_loads : Signals → Option RegReset → Option ℕ
reset_loads v None = None
reset_loads v (Some r) = only (asserted v r.signal r.active) (Some r.value)

abbrev pub enabled : Signals → Option RegEnable → Bool
enabled v None = true
enabled v (Some e) = asserted v e.signal e.active

-- which edges fire: a test of a clock signal and an edge
abbrev pub Firing : Type 0
Firing = ℕ → ℕ → Bool

-- a register loads its reset's value if that is asserted, else the next value if its clock and edge fire and it is enabled
abbrev pub loads : Firing → Signals → Stmt → Option ℕ
loads f v (assign t e) = None
loads f v (reg t n c d r e) = or_else (reset_loads v r) (only (f c d && enabled v e) (Some n))

abbrev pub become : List Bits → Option ℕ → Bits → Bits
become vs None old = old
become vs (Some e) old = get_or vs e []

-- all together: a signal to which `choice` gives an expression takes its value, with the signals at `now`; the others take `old`
abbrev pub set_by : Model → (ℕ → Option ℕ) → List Bits → List Bits → List Bits
set_by m choice old now =
    let vs = values_in m now in
    tab_from (λ s. become vs (choice s) (get_or old s [])) 0 (length m.signals)

-- all assignments once
abbrev pub sweep : Model → List Bits → List Bits → List Bits
sweep m old now = set_by m (given assigns m.stmts) old now

-- as often as there are signals
unfoldable pub settle : Model → List Bits → List Bits
settle m t = iterate (length m.signals) (sweep m t) t

unfoldable pub commit : Model → Firing → List Bits → List Bits
commit m f t = set_by m (given (loads f (at [] t)) m.stmts) t t

-- the input signals take the tick's bits in order
abbrev pub set_inputs : List Signal → Bits → List Bits → List Bits
set_inputs [] bs t = []
set_inputs (s ∷ ss) bs [] = []
set_inputs (s ∷ ss) bs (v ∷ t) = pick (eqb s.label 0) (take s.width bs ∷ set_inputs ss (drop s.width bs) t) (v ∷ set_inputs ss bs t)

unfoldable pub tick : Model → Bits → Firing → List Bits → List Bits
tick m bs f t = settle m (commit m f (settle m (set_inputs m.signals bs t)))

-- LOOPS. The signals that an expression reads, itself or through its operands; rs has those of the earlier ones.

abbrev pub joined_reads : List (List ℕ) → List ℕ → List ℕ
joined_reads rs [] = []
joined_reads rs (p ∷ ps) = joined_reads rs ps ++ get_or rs p []

abbrev pub reads_expr : List (List ℕ) → Expr → List ℕ
reads_expr rs (const w n) = []
reads_expr rs (read w s l) = s ∷ []
reads_expr rs (concat w ps) = joined_reads rs ps
reads_expr rs (not a) = get_or rs a []
reads_expr rs (and a b) = get_or rs a [] ++ get_or rs b []
reads_expr rs (or a b) = get_or rs a [] ++ get_or rs b []
reads_expr rs (xor a b) = get_or rs a [] ++ get_or rs b []
reads_expr rs (mux w s t f) = get_or rs s [] ++ get_or rs t [] ++ get_or rs f []
reads_expr rs (eq a b) = get_or rs a [] ++ get_or rs b []
reads_expr rs (mul a b) = get_or rs a [] ++ get_or rs b []

unfoldable pub reads_all : List (List ℕ) → List Expr → List (List ℕ)
reads_all rs [] = rs
reads_all rs (x ∷ xs) = reads_all (rs ++ (reads_expr rs x ∷ [])) xs

-- an assigned signal depends on those that its expression reads
abbrev pub reads_by : List (List ℕ) → Option ℕ → List ℕ
reads_by rs None = []
reads_by rs (Some e) = get_or rs e []

abbrev pub depends : Model → ℕ → List ℕ
depends m = let rs = reads_all [] m.exprs in λ s. reads_by rs (given assigns m.stmts s)

-- refusal 13
unfoldable pub looped : Model → Option ℕ
looped m = lowest_on_loop (length m.signals) (depends m)
