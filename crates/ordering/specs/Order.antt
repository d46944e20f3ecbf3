-- What an expression needs first, and an order of all expressions in which it comes first.
use Rattle.std.specs.Prelude.{ℕ, get_or}
use mathlib.Core.List.{List, [], ◌∷◌}
use Rattle.std.specs.Prelude.{Option, None, Some}
use Rattle.recorder.specs.Record.{Expr, Stmt, Model}
use Rattle.recorder.specs.Record.{const, read, concat, not, and, or, xor, mux, eq, mul}
use Rattle.settle.specs.Loop.{Reads}
use Rattle.simulation.specs.Tick.{given, assigns}

abbrev pub listed : Option ℕ → List ℕ
listed None = []
listed (Some e) = e ∷ []

-- its operands; a read of an assigned signal needs that signal's expression
abbrev pub needs_of : List Stmt → Expr → List ℕ
needs_of ts (const w v) = []
needs_of ts (read w s l) = listed (given assigns ts s)
needs_of ts (concat w ps) = ps
needs_of ts (not a) = a ∷ []
needs_of ts (and a b) = a ∷ b ∷ []
needs_of ts (or a b) = a ∷ b ∷ []
needs_of ts (xor a b) = a ∷ b ∷ []
needs_of ts (mux w s t f) = s ∷ t ∷ f ∷ []
needs_of ts (eq a b) = a ∷ b ∷ []
needs_of ts (mul a b) = a ∷ b ∷ []

-- expression number e; one that is not there needs nothing
abbrev pub needs : Model → ℕ → List ℕ
needs m e = needs_of m.stmts (get_or m.exprs e (const 0 0))

abbrev pub Needs : Model → ℕ → ℕ → Type 0
Needs m = Reads (needs m)
