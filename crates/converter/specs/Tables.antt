-- What the methods of a `Reserver` promise.
use Rattle.std.specs.Prelude.{◌≡◌, List, ℕ, ◌<◌, ◌≤◌, length, Result, Ok, Err}
use Rattle.netlist.specs.declared.Limits.{Limits}
use Rattle.netlist.specs.declared.Bit.{Bit}
use Rattle.netlist.specs.declared.Bit.TheVariants.{Wire}
use Rattle.netlist.specs.Fields.{records_at, after, word_at, bit_at}
use Rattle.refusal.specs.declared.Refusal.{Refusal}
use Rattle.refusal.specs.Refusal.{number_of, place_of}
use Rattle.recorder.specs.declared.SignalId.{SignalId}
use Rattle.recorder.specs.Writer.{Writer, End, End.ok, End.no, declare, ◌>>=◌}
use Rattle.recorder.specs.Record.{Signal}
use Rattle.recorder.specs.Calls.{SameLists, Writes, ended}
use Rattle.wires.specs.declared.WireRef.{WireRef}
use Rattle.wires.specs.Wires.{Wires, wires_of}
use Rattle.lowering.specs.Reserve.{signal_of, insert_bits}
use Rattle.converter.specs.declared.Reserver.{Reserver}
use Rattle.converter.specs.declared.Content.{Content}
use Rattle.converter.specs.declared.Content.TheVariants as C

-- the wire map in the tables
abbrev pub map_in : Reserver → Wires
map_in r = wires_of r.wires.now r.places.now

-- it still has what it was lent
pub record SameTables (r r' : Reserver) : Type 0 where
  pub recorder : r'.recorder.ghost_name ≡ r.recorder.ghost_name
  pub lists : SameLists r.recorder.now r'.recorder.now
  pub wires : r'.wires.ghost_name ≡ r.wires.ghost_name
  pub places : r'.places.ghost_name ≡ r.places.ghost_name
  pub wires_size : length r'.wires.now ≡ length r.wires.now
  pub places_size : length r'.places.now ≡ length r.places.now

-- the tables have the wires, and hold the widths
pub record Room (limits : Limits) (r : Reserver) : Type 0 where
  pub wires_long : limits.wires ≤ length r.wires.now
  pub places_long : limits.wires ≤ length r.places.now
  pub narrow : limits.width < 65536

-- the answer, with the map that the tables then hold
abbrev pub mapped : Result (Unit {0}) Refusal → Wires → End Wires
mapped q m = ended (λ (u : Unit {0}). m) q

-- with tables that have room, and if P holds, a call wrote w, and the tables hold its map
pub record Reserves (P : Limits → Type 0) (r : Reserver) (w : Writer Wires) (q : Result (Unit {0}) Refusal) (r' : Reserver) : Type 0 where
  pub same : SameTables r r'
  pub so : (limits : Limits) → Room limits r → P limits → Writes r.recorder.now w (mapped q (map_in r')) r'.recorder.now

-- the signal's number, or the refusal, handed on
abbrev pub signalled : Result SignalId Refusal → End ℕ
signalled (Ok s) = ok s.0
signalled (Err x) = no (number_of x) (place_of x)

-- a signal was declared, and the tables hold the map that they held
pub record Declares (r : Reserver) (x : Signal) (e : End ℕ) (r' : Reserver) : Type 0 where
  pub same : SameTables r r'
  pub map : map_in r' ≡ map_in r
  pub wrote : Writes r.recorder.now (declare x) e r'.recorder.now

-- an entry that the tables can hold
pub record Small (r : WireRef) : Type 0 where
  pub numbered : r.signal.0 < 4294967295
  pub placed : r.lsb < 65536
  pub narrow : r.width < 65536

-- the fields hold bits or wires
abbrev pub held_bit : List ℕ → Content → ℕ → Bit
held_bit words C.Bits i = bit_at words i
held_bit words C.Wires i = Wire (word_at words i)

abbrev pub held_bits : List ℕ → Content → ℕ → ℕ → List Bit
held_bits words content at n = records_at (held_bit words content) after n at

-- a signal of n bits
abbrev pub reserve_bits : Wires → ℕ → ℕ → ℕ → List Bit → Writer Wires
reserve_bits m label owner n bits = declare (signal_of label n owner) >>= λ s. insert_bits m s n 0 bits
