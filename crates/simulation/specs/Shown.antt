-- A list of calls on one model: what each answers, and what the output signals show after it.
use Rattle.std.specs.Prelude.{List, [], ◌∷◌, ℕ, eqb, take, drop}
use Rattle.std.specs.Prelude.{Option}
use Rattle.bits.specs.Bits.{pick}
use Rattle.recorder.specs.Record.{Signal}
use Rattle.recorder.specs.Lists.{Lists}
use Rattle.simulation.specs.Run.{Call, run}

-- A CALL: tick bits, the fired signal and edge or none, and the three works that it is lent, of any length and contents
pub record Entry : Type 0 where
  pub ticks : List ℕ
  pub fired : Option (ℕ × ℕ)
  pub work_bits : List ℕ
  pub work_exprs : List ℕ
  pub work_signals : List ℕ

abbrev pub entry_call : Lists → List ℕ → Entry → Call
entry_call l bytes e = record { lists = l; bytes = bytes; ticks = e.ticks; fired = e.fired; work_bits = e.work_bits; work_exprs = e.work_exprs; work_signals = e.work_signals }

-- the bytes of the output ports' signals (label 1), in order
abbrev pub shown_bytes : List Signal → List ℕ → List (List ℕ)
shown_bytes [] bytes = []
shown_bytes (s ∷ ss) bytes = pick (eqb s.label 1) (take s.width bytes ∷ shown_bytes ss (drop s.width bytes)) (shown_bytes ss (drop s.width bytes))

-- after a call: how it ended, and what the output ports show
pub record ByModel : Type 0 where
  pub answer : Option (ℕ × ℕ)
  pub outputs : List (List ℕ)

-- each call gets the signal bytes as the last one left them
abbrev pub shown_by_model : ℕ → Lists → List Signal → List ℕ → List Entry → List ByModel
shown_by_model widest l ss bytes [] = []
shown_by_model widest l ss bytes (e ∷ es) =
    let o = run widest (entry_call l bytes e) in
    record { answer = o.answer; outputs = shown_bytes ss o.bytes } ∷ shown_by_model widest l ss o.bytes es

-- the signal bytes after all of them
abbrev pub bytes_after_all : ℕ → Lists → List ℕ → List Entry → List ℕ
bytes_after_all widest l bytes [] = bytes
bytes_after_all widest l bytes (e ∷ es) = bytes_after_all widest l (run widest (entry_call l bytes e)).bytes es
