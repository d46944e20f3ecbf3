-- What the functions of next.rt and register.rt promise.
use Rattle.std.specs.Prelude.{◌≡◌, List, [], ◌∷◌, ℕ, length, Option, None}
use Rattle.netlist.specs.Netlist.{FlipFlop}
use Rattle.netlist.specs.Fields.{cells_at}
use Rattle.behaviour.specs.Banks.{Member, collect_flip_flop_banks}
use Rattle.recorder.specs.declared.Recorder.{Recorder}
use Rattle.recorder.specs.Record.{RegReset, Stmt.reg}
use Rattle.recorder.specs.Writer.{Writer, End, state, ◌>>=◌}
use Rattle.recorder.specs.Calls.{SameLists, Writes}
use Rattle.wires.specs.declared.Constants.{Constants}
use Rattle.wires.specs.declared.WireMap.{WireMap}
use Rattle.wires.specs.Wires.{Wires, wires_in}
use Rattle.wires.specs.Expressions.{bit_signal, concat_parts, roomy}
use Rattle.lowering.specs.Emit.{next_bits, emit_flip_flop_bank, emit_banks}
use Rattle.converter.specs.declared.members.Banks.{Banks}
use Rattle.converter.specs.Reserved.{Noted}

-- the next value of a bank's members
abbrev pub next_value : Wires → List Member → Writer ℕ
next_value m ms = next_bits m ms [] >>= concat_parts

-- the register of a bank whose leader is f
abbrev pub clock_bank : Wires → Constants → FlipFlop → ℕ → ℕ → Option RegReset → Writer (Unit {0})
clock_bank m z f target next reset = bit_signal m z f.clock >>= λ clock. state (reg target next clock f.edge reset None)

-- the bank of these members, one at least
pub record EmitsBank (r : Recorder) (parts : List ℕ) (m : WireMap) (ms : List Member) (e : End (Unit {0})) (r' : Recorder) : Type 0 where
  pub same : SameLists r r'
  pub so : (leader : Member) (more : List Member) → ms ≡ leader ∷ more
      → Writes r (roomy (length ms) parts (emit_flip_flop_bank (wires_in m) m.constants (record { leader = leader; members = ms }))) e r'

-- all banks, whose numbers are noted
pub record EmitsBanks (r : Recorder) (parts : List ℕ) (m : WireMap) (b : Banks) (e : End (Unit {0})) (r' : Recorder) : Type 0 where
  pub same : SameLists r r'
  pub so : Noted b → Writes r (roomy b.n parts (emit_banks (wires_in m) m.constants (collect_flip_flop_banks (cells_at b.cells.words.now b.cells.at b.n)))) e r'
