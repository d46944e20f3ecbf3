-- Marks: a byte for each expression, not zero once all that it needs is marked.
use Rattle.std.specs.Prelude.{ℕ, zero, suc, ◌+◌, ◌≤◌, ◌<◌, ◌≡◌, Bool, true, false, ◌||◌, ◌⊎◌, eqb, leb, length, get_or, take}
use mathlib.Core.List.{List, [], Memᴰ as Mem}
use Rattle.bits.specs.Bits.{pick}
use Rattle.recorder.specs.Record.{Expr, Model}
use Rattle.recorder.specs.Record.{const, read, concat, not, and, or, xor, mux, eq, mul}
use Rattle.settle.specs.Ground.{Grounded}
use Rattle.settle.specs.Walk.{Way}
use Rattle.settle.specs.Loop.{Reads}
use Rattle.settle.specs.Tests.{all, any}
use Rattle.simulation.specs.Tick.{reads_all, depends}
use Rattle.ordering.specs.Order.{needs, Needs}

abbrev pub marked : List ℕ → ℕ → Bool
marked marks e = leb 1 (get_or marks e 0)

-- expression e can be marked
abbrev pub ready : Model → List ℕ → ℕ → Bool
ready m marks e = all (marked marks) (needs m e)

-- from what is marked one comes to an end
pub record Reached (m : Model) (marks : List ℕ) : Type 0 where
  pub ends : (e : ℕ) → marked marks e ≡ true → Grounded (Needs m) e

-- nothing can be added
pub record Stuck (m : Model) (marks : List ℕ) : Type 0 where
  pub none_ready : (e : ℕ) → e < length m.exprs → marked marks e ≡ false → ready m marks e ≡ false

-- WAYS TO A SIGNAL. Here an expression is marked once signal s is found behind it.

abbrev pub reads_it : ℕ → Expr → Bool
reads_it s (const w v) = false
reads_it s (read w y l) = eqb y s
reads_it s (concat w ps) = false
reads_it s (not a) = false
reads_it s (and a b) = false
reads_it s (or a b) = false
reads_it s (xor a b) = false
reads_it s (mux w a b c) = false
reads_it s (eq a b) = false
reads_it s (mul a b) = false

-- it reads s, or needs a marked one
abbrev pub touched : Model → List ℕ → ℕ → ℕ → Bool
touched m marks s e = reads_it s (get_or m.exprs e (const 0 0)) || any (marked marks) (needs m e)

-- signal s is behind expression e
abbrev pub Leads : Model → ℕ → ℕ → Type 0
Leads m s e = Mem s (get_or (reads_all [] m.exprs) e []) ⊎ ((y : ℕ) × Mem y (get_or (reads_all [] m.exprs) e []) × Way (Reads (depends m)) y s)

pub record Backed (m : Model) (s : ℕ) (marks : List ℕ) : Type 0 where
  pub leads : (e : ℕ) → marked marks e ≡ true → Leads m s e

pub record Full (m : Model) (s : ℕ) (marks : List ℕ) : Type 0 where
  pub none_touched : (e : ℕ) → e < length m.exprs → marked marks e ≡ false → touched m marks s e ≡ false

-- MARKING ALL

-- how many of the first n expressions are not marked
abbrev pub left : List ℕ → ℕ → ℕ
left marks zero = 0
left marks (suc n) = pick (marked marks n) 0 1 + left marks n

-- expression e is marked, and noted as number k of the order, if it is ready and not marked yet
abbrev pub adds : Model → List ℕ → ℕ → Bool
adds m marks e = pick (marked marks e) false (ready m marks e)

-- the first k of the order: all that is marked, each behind what it needs
pub record Noted (m : Model) (marks order : List ℕ) (k : ℕ) : Type 0 where
  pub each : (e : ℕ) → marked marks e ≡ true → Mem e (take k order)
  pub behind : (j : ℕ) → j < k → (d : ℕ) → Mem d (needs m (get_or order j 0)) → Mem d (take j order)

-- k are marked; what is marked can be reached, and stands in an order that is long enough
pub record Sorting (m : Model) (n : ℕ) (marks order : List ℕ) (k : ℕ) : Type 0 where
  pub reached : Reached m marks
  pub counted : k + left marks n ≡ n
  pub noted : n ≤ length order → Noted m marks order k
