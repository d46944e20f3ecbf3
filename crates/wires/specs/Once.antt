-- What a cell has read, in a table by wire; and what a call that may read writes and leaves there.
use Rattle.std.specs.Prelude.{List, [], ◌∷◌, ◌≡◌, ◌⊎◌, ◌<◌, ◌≤◌, ◌-◌, ℕ, leb, min, get_or, length, Bool, cond}
use Rattle.std.specs.Prelude.{Option, None, Some}
use Rattle.bits.specs.Bits.{pick}
use Rattle.wires.specs.declared.Emitter.{Emitter}
use Rattle.std.proofs.Math.ListN.{set}
use Rattle.recorder.specs.declared.Tapes.{Tapes}
use Rattle.recorder.specs.Writer.{Writer, End, End.ok, End.no}
use Rattle.recorder.specs.Calls.{Writes}
use Rattle.recorder.specs.Words.{zeroed}
use Rattle.wires.specs.Seen.{Seen, Reading, with_seen}

-- a word of the table is an expression's number plus 1, or 0; of this cell are those above the number of its first expression
unfoldable pub seen_by : ℕ → ℕ → Option ℕ
seen_by first x = pick (leb x first) None (Some (x - 1))

unfoldable pub seen_of : ℕ → List ℕ → Seen
seen_of first [] = []
seen_of first (x ∷ xs) = seen_by first x ∷ seen_of first xs

-- the number of the cell's first expression, or of the next one if there are not so many yet
abbrev pub begun : ℕ → Tapes → ℕ
begun first t = min first t.exprs.count

-- what the cell has read by now
abbrev pub seen_in : Emitter → Seen
seen_in e = seen_of e.first e.seen.now

abbrev pub reading : {A : Type 0} → End A → Seen → End (Reading A)
reading (ok a) seen = ok (with_seen a seen)
reading (no number place) seen = no number place

-- it still has what it was lent, and is in the same cell
pub record SameCell (e e' : Emitter) : Type 0 where
  pub recorder : e'.recorder.ghost_name ≡ e.recorder.ghost_name
  pub seen : e'.seen.ghost_name ≡ e.seen.ghost_name
  pub first : e'.first ≡ e.first
  pub map : e'.map ≡ e.map
  pub size : length e'.seen.now ≡ length e.seen.now

-- a word of the table is the old one, or of this cell
abbrev pub Aged : ℕ → ℕ → List ℕ → List ℕ → Type 0
Aged first count table table' = (w : ℕ) → (get_or table' w 0 ≡ get_or table w 0) ⊎ ((first < get_or table' w 0) × (get_or table' w 0 ≤ count))

-- after a refusal the table holds zeros
abbrev pub swept : {A : Type 0} → End A → List ℕ → List ℕ
swept (ok a) table = table
swept (no number place) table = zeroed table

abbrev pub Leaves : {A : Type 0} → Emitter → End A → Emitter → Type 0
Leaves e (ok a) e' = Aged e.first e'.recorder.now.tapes.exprs.count e.seen.now e'.seen.now
Leaves e (no number place) e' = e'.seen.now ≡ zeroed e.seen.now

-- A call wrote w, and what it read is in the table, where nothing else has changed; after a refusal the table holds zeros.
pub record Once {A : Type 0} (e : Emitter) (w : Writer (Reading A)) (r : End A) (e' : Emitter) : Type 0 where
  pub same : SameCell e e'
  pub wrote : Writes e.recorder.now w (reading r (seen_in e')) e'.recorder.now
  pub leaves : Leaves e r e'

-- of a call that reads nothing
pub record Plain {A : Type 0} (e : Emitter) (w : Writer A) (r : End A) (e' : Emitter) : Type 0 where
  pub same : SameCell e e'
  pub wrote : Writes e.recorder.now w r e'.recorder.now
  pub table : e'.seen.now ≡ swept r e.seen.now

-- a cell begins with the next expression
pub record Begins (e e' : Emitter) : Type 0 where
  pub recorder : e'.recorder ≡ e.recorder
  pub seen : e'.seen ≡ e.seen
  pub first : e'.first ≡ e.recorder.now.tapes.exprs.count
  pub map : e'.map ≡ e.map

-- of a cell, which shares no read with what was recorded before it
pub record CellOnce {A : Type 0} (e : Emitter) (w : Seen → Writer (Reading A)) (r : End A) (e' : Emitter) : Type 0 where
  pub start : Emitter
  pub begins : Begins e start
  pub does : Once start (w (seen_in start)) r e'

-- the table is cleared, or not
pub record Sweeps (refused : Bool) (e e' : Emitter) : Type 0 where
  pub same : SameCell e e'
  pub recorder : e'.recorder.now ≡ e.recorder.now
  pub table : e'.seen.now ≡ cond refused (zeroed e.seen.now) e.seen.now

-- the last expression reads a wire
pub record Notes (w : ℕ) (e e' : Emitter) : Type 0 where
  pub same : SameCell e e'
  pub recorder : e'.recorder.now ≡ e.recorder.now
  pub table : e'.seen.now ≡ set e.seen.now w e.recorder.now.tapes.exprs.count
