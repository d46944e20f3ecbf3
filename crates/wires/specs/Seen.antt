-- What a cell has read so far: a wire that it reads a second time is not recorded again, the first read's expression stands for it.
use Rattle.std.specs.Prelude.{List, ℕ, get_or}
use Rattle.std.proofs.Math.ListN.{set, replicate}
use Rattle.std.specs.Prelude.{Option, None, Some}
use Rattle.recorder.specs.Writer.{Writer, pure, ◌>>=◌}

-- of each wire, the expression that reads it in this cell. Wires past the end are read anew each time, so the empty list shares nothing
abbrev pub Seen : Type 0
Seen = List (Option ℕ)

-- a cell begins; it shares its reads of so many wires
unfoldable pub nothing_seen : ℕ → Seen
nothing_seen wires = replicate wires None

-- the expression that reads wire w already
unfoldable pub standing : Seen → ℕ → Option ℕ
standing seen w = get_or seen w None

-- expression e reads wire w from now on
unfoldable pub noted : Seen → ℕ → ℕ → Seen
noted seen w e = set seen w (Some e)

-- a value, and what has been read by then
pub record Reading (A : Type 0) : Type 0 where
  pub value : A
  pub seen : Seen

abbrev pub with_seen : {A : Type 0} → A → Seen → Reading A
with_seen a seen = record { value = a; seen = seen }

-- a step that reads nothing
abbrev pub keeping : {A : Type 0} → Seen → Writer A → Writer (Reading A)
keeping seen w = w >>= λ a. pure (with_seen a seen)

-- the last step: what has been read is forgotten
abbrev pub forgetting : {A : Type 0} → Writer (Reading A) → Writer A
forgetting w = w >>= λ r. pure r.value
