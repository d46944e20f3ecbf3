-- The signals of a port.
use mathlib.Core.Path.{◌≡◌, ap, sym, ◌∙◌, subst}
use mathlib.Core.Bool.{Bool}
use mathlib.Core.List.{List}
use Prim.Native.Nat.{ℕ, ◌+◌}
use native.Mathlib.Nat.{add-zero}
use native.Mathlib.Omega.{arith}
use lib.ListN.{length}
use borrow.Author.Tests.{eq-eqb, ne_eqb}
use Rattle.std.specs.Prelude.{Result, Ok, IsErrAnd}
use Rattle.bits.specs.Bits.{pick}
use Rattle.netlist.specs.declared.Bit.{Bit}
use Rattle.netlist.specs.declared.fields.Fields.{Fields}
use Rattle.netlist.specs.Fields.{word_at, bits_at, port_at}
use Rattle.netlist.specs.Shape.{FitsPort}
use Rattle.netlist.proofs.RecordLaws.{bits_length}
use Rattle.refusal.specs.declared.Refusal.{Refusal}
use Rattle.refusal.specs.Refusal.{number_of, place_of}
use Rattle.recorder.specs.Writer.{Writer, End.ok, End.no, pure, declare, ◌>>=◌}
use Rattle.wires.specs.Wires.{Wires}
use Rattle.lowering.specs.Reserve.{signal_of, insert_bits, reserve_port}
use Rattle.converter.specs.declared.Reserver.{Reserver}
use Rattle.converter.specs.declared.Content.TheVariants as C
use Rattle.converter.specs.Tables.{map_in, Reserves, Declares, held_bits, reserve_bits}
use Rattle.converter.proofs.Reserving.{reserves_none, reserves_as, reserves_under, declared_then, declared_err}
use Rattle.converter.proofs.Rows.{held_from}
use Rattle.converter.proofs.CellSignals.{From, Vector}

module _ (port : Fields) (p : ℕ) (r : Reserver) {width d : ℕ} (wide : width ≡ word_at port.words.now (port.at + 1)) (direction : d ≡ word_at port.words.now (port.at + 0)) where
  abbrev words : List ℕ
  words = port.words.now

  abbrev at : ℕ
  at = port.at

  abbrev m : Wires
  m = map_in r

  abbrev pub PortDone : Result (Unit {0}) Refusal → Reserver → Type 0
  PortDone q r' = Reserves (λ limits. FitsPort limits (port_at words at)) r (reserve_port m p (port_at words at)) q r'

  dir : d ≡ (port_at words at).direction
  unfolding port_at
  dir = direction ∙ ap (word_at words) (add-zero at)

  bits_are : length (port_at words at).bits ≡ width
  unfolding port_at
  bits_are = bits_length words (at + 2) (word_at words (at + 1)) ∙ sym wide

  abbrev out : Wires → ℕ → Writer Wires
  out n s = pure n

  output_is : d ≡ 1 → reserve_port m p (port_at words at) ≡ (declare (signal_of 1 width p) >>= out m)
  unfolding reserve_port
  output_is z =
      ap (λ (b : Bool). pick b (declare (signal_of 1 (length (port_at words at).bits) p) >>= λ s. pure m) (declare (signal_of 0 (length (port_at words at).bits) p) >>= λ s. insert_bits m s (length (port_at words at).bits) 0 (port_at words at).bits)) (eq-eqb (port_at words at).direction 1 (sym dir ∙ z))
      ∙ ap (λ (n : ℕ). declare (signal_of 1 n p) >>= λ s. pure m) bits_are

  input_is : (d ≡ 1 → ⊥) → reserve_port m p (port_at words at) ≡ reserve_bits m 0 p width (port_at words at).bits
  unfolding reserve_port
  input_is z =
      ap (λ (b : Bool). pick b (declare (signal_of 1 (length (port_at words at).bits) p) >>= λ s. pure m) (declare (signal_of 0 (length (port_at words at).bits) p) >>= λ s. insert_bits m s (length (port_at words at).bits) 0 (port_at words at).bits)) (ne_eqb (port_at words at).direction 1 (λ e. z (dir ∙ e)))
      ∙ ap (λ (n : ℕ). declare (signal_of 0 n p) >>= λ s. insert_bits m s n 0 (port_at words at).bits) bits_are

  pub output_err : d ≡ 1 → {r₁ : Reserver} (y : Refusal) → Declares r (signal_of 1 width p) (no (number_of y) (place_of y)) r₁ → (q : Result (Unit {0}) Refusal) → IsErrAnd q (λ z. z ≡ y) → PortDone q r₁
  output_err z y h q e = reserves_as (λ limits f. output_is z) (declared_err out y h q e)

  pub output_done : d ≡ 1 → {r₁ : Reserver} {s : ℕ} → Declares r (signal_of 1 width p) (ok s) r₁ → PortDone (Ok tt) r₁
  output_done z h = reserves_as (λ limits f. output_is z) (declared_then out h (λ limits room f s. f) reserves_none)

  pub input_done : (d ≡ 1 → ⊥) → {f : Fields} → From port p r f 2 → {q : Result (Unit {0}) Refusal} {r' : Reserver} → Vector port p r q r' 0 width (held_bits f.words.now C.Bits f.at width) → PortDone q r'
  unfolding port_at
  input_done z is {q} {r'} h =
      reserves_as (λ limits f. input_is z)
      (reserves_under (λ limits room f. (f.bits, omega (arith, f.width.1, room.narrow, bits_are)))
      (subst (λ (bits : List Bit). Vector port p r q r' 0 width bits) (held_from port 2 is C.Bits width ∙ ap (bits_at words (at + 2)) wide) h))
