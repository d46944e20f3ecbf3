-- What an accepted call has, and what it leaves.
use Rattle.std.specs.Prelude.{ℕ, ◌≤◌, ◌≡◌, List, [], ◌∷◌, length, take}
use Rattle.std.specs.Prelude.{None}
use Rattle.bits.specs.Bits.{Bits}
use Rattle.recorder.specs.Record.{Signal}
use Rattle.recorder.specs.Words.{raw_of}
use Rattle.simulation.specs.Wellformed.{first_fault}
use Rattle.simulation.specs.Tick.{looped}
use Rattle.simulation.specs.Run.{Call, call_model, signal_bytes, expr_bits, tick_bits, no_bit, wrong_fired}

-- each signal has as many bits as it is wide
abbrev pub Fits : List Signal → List Bits → Type 0
Fits [] [] = Unit {0}
Fits [] (v ∷ t) = ⊥
Fits (s ∷ ss) [] = ⊥
Fits (s ∷ ss) (v ∷ t) = (length v ≡ s.width) × Fits ss t

-- what an accepted call has
pub record Good (widest : ℕ) (c : Call) : Type 0 where
  pub faultless : first_fault widest (raw_of c.lists) ≡ None
  pub enough : signal_bytes (call_model c) ≤ length c.bytes
  pub exprs_enough : (expr_bits (call_model c) ≤ length c.work_bits) × (length (call_model c).exprs ≤ length c.work_exprs) × (length (call_model c).signals ≤ length c.work_signals)
  pub all_bits : no_bit 0 (take (signal_bytes (call_model c)) c.bytes) ≡ None
  pub right_count : length c.ticks ≡ tick_bits (call_model c)
  pub all_tick_bits : no_bit 0 c.ticks ≡ None
  pub right_fired : wrong_fired (length (call_model c).signals) c.fired ≡ None
  pub loopless : looped (call_model c) ≡ None

-- bytes that are bits
abbrev pub AllBits : List ℕ → Type 0
AllBits [] = Unit {0}
AllBits (b ∷ bs) = (b ≤ 1) × AllBits bs
