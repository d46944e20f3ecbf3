-- An output port.
use mathlib.Core.Path.{◌≡◌, refl, ap, sym, ◌∙◌}
use mathlib.Core.Bool.{Bool}
use mathlib.Core.List.{List}
use Prim.Native.Nat.{ℕ, ◌+◌, ◌≤◌, min}
use native.Mathlib.Nat.{add-zero}
use native.Mathlib.Omega.{arith}
use lib.ListN.{length, take}
use lib.Seq.{length-take-le}
use borrow.Author.Tests.{eq-eqb, ne_eqb}
use Rattle.std.specs.Prelude.{Result, IsErrAnd}
use Rattle.bits.specs.Bits.{pick}
use Rattle.refusal.specs.declared.Refusal.{Refusal}
use Rattle.refusal.specs.Refusal.{number_of, place_of}
use Rattle.netlist.specs.declared.Bit.{Bit}
use Rattle.netlist.specs.declared.fields.Fields.{Fields}
use Rattle.netlist.specs.Fields.{word_at, bits_at, port_at}
use Rattle.netlist.proofs.RecordLaws.{bits_length}
use Rattle.recorder.specs.Record.{Stmt.assign}
use Rattle.recorder.specs.declared.Recorder.{Recorder}
use Rattle.recorder.specs.Writer.{Writer, End, End.ok, End.no, pure, state, ◌>>=◌}
use Rattle.recorder.specs.Calls.{Writes, ended}
use Rattle.recorder.proofs.Calls.{same_lists, writes_as, writes_pure, writes_then, writes_err}
use Rattle.wires.specs.Wires.{Wires}
use Rattle.wires.specs.Expressions.{vector_expression, bits_expression, roomy}
use Rattle.wires.proofs.Laws.{roomy_yes}
use Rattle.cells.proofs.Laws.{bits_moved}
use Rattle.converter.specs.Emits.{emit_output, EmitsPort}

module _ (m : Wires) (p : ℕ) (port : Fields) {d : ℕ} (direction : d ≡ word_at port.words.now (port.at + 0)) where
  abbrev words : List ℕ
  words = port.words.now

  abbrev at : ℕ
  at = port.at

  way : d ≡ (port_at words at).direction
  unfolding port_at
  way = direction ∙ ap (word_at words) (add-zero at)

  -- the writer of an output's value
  abbrev driven : List Bit → Writer (Unit {0})
  driven bits = bits_expression m bits >>= λ e. state (assign p e)

  pub port_other : (d ≡ 1 → ⊥) → (parts : List ℕ) {r : Recorder} → EmitsPort r parts m p (port_at words at) (ok tt) r
  port_other n parts = record {
    same = record { signals = refl; exprs = refl; stmts = refl };
    so = λ limits f. writes_as (ap (λ (b : Bool). pick b (driven (port_at words at).bits) (pure tt)) (ne_eqb (port_at words at).direction 1 (λ q. n (way ∙ q)))) writes_pure;
  }

  module _ (is : d ≡ 1) {width : ℕ} (wide_is : width ≡ word_at words (at + 1)) {from : Fields} (on : from ≡ record port { at = min (at + 2) (length words) }) {k : ℕ} (parts : List ℕ) (k_is : k ≡ min width (length parts)) where
    bits_are : bits_at from.words.now from.at width ≡ (port_at words at).bits
    unfolding port_at
    bits_are = bits_moved port from 2 on width ∙ ap (bits_at words (at + 2)) wide_is

    width_is : length (port_at words at).bits ≡ width
    unfolding port_at
    width_is = bits_length words (at + 2) (word_at words (at + 1)) ∙ sym wide_is

    abbrev pub read : Writer ℕ
    read = roomy width (take k parts) (vector_expression m (bits_at from.words.now from.at width) 0 width)

    output_is : {most : ℕ} → most ≤ length parts → length (port_at words at).bits ≤ most → emit_output m p (port_at words at) ≡ (read >>= λ e. state (assign p e))
    output_is a b =
        let room : width ≤ length (take k parts) = omega (arith, length-take-le k parts (omega (arith, k_is)), k_is, a, b, width_is) in
        ap (λ (b : Bool). pick b (driven (port_at words at).bits) (pure tt)) (eq-eqb (port_at words at).direction 1 (sym way ∙ is))
        ∙ ap (λ (w : Writer ℕ). w >>= λ e. state (assign p e))
        (ap (λ (k : ℕ). vector_expression m (port_at words at).bits 0 k) width_is ∙ ap (λ (bits : List Bit). vector_expression m bits 0 width) (sym bits_are) ∙ sym (roomy_yes width (take k parts) (vector_expression m (bits_at from.words.now from.at width) 0 width) room))

    module _ {r r₁ : Recorder} where
      pub port_err : (y : Refusal) → Writes r read (no (number_of y) (place_of y)) r₁ → {C : Type 0} (g : C → Unit {0}) (q : Result C Refusal) → IsErrAnd q (λ z. z ≡ y) → EmitsPort r parts m p (port_at words at) (ended g q) r₁
      port_err y h g q e = record { same = h.same; so = λ limits f. writes_as (output_is f.0 f.1.width.1) (writes_err h (λ v. state (assign p v)) g q _ refl e) }

      pub port_done : {v : ℕ} → Writes r read (ok v) r₁ → {e : End (Unit {0})} {r₂ : Recorder} → Writes r₁ (state (assign p v)) e r₂ → EmitsPort r parts m p (port_at words at) e r₂
      port_done h g = record { same = same_lists h.same g.same; so = λ limits f. writes_as (output_is f.0 f.1.width.1) (writes_then h (λ v. state (assign p v)) refl g) }
