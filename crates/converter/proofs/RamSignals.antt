-- The signals of a block RAM.
use mathlib.Core.Path.{◌≡◌, refl, ap, sym, ◌∙◌, subst}
use mathlib.Core.List.{List}
use Prim.Native.Nat.{ℕ, zero, suc, ◌+◌, ◌≤◌, ◌<◌, min}
use native.Mathlib.Omega.{arith}
use lib.ListN.{length}
use Rattle.std.specs.Prelude.{Result, Ok, Err, Option, Some, IsErrAnd}
use Rattle.netlist.specs.declared.Limits.{Limits}
use Rattle.netlist.specs.declared.fields.Fields.{Fields}
use Rattle.netlist.specs.Netlist.{SecondPort}
use Rattle.netlist.specs.Fields.{word_at, wires_at, when_set, block_ram_at, first_size, second_port_at}
use Rattle.netlist.specs.Shape.{Each, FitsWire, FitsCell, FitsOption, FitsSecond}
use Rattle.refusal.specs.declared.Refusal.{Refusal}
use Rattle.recorder.specs.Writer.{◌>>=◌}
use Rattle.wires.specs.Wires.{Wires}
use Rattle.lowering.specs.Reserve.{reserve_vector, reserve_second, reserve_cell_output}
use Rattle.converter.specs.declared.Reserver.{Reserver}
use Rattle.converter.specs.declared.Content.TheVariants as C
use Rattle.converter.specs.Tables.{map_in, Reserves, held_bits}
use Rattle.converter.proofs.Reserving.{reserves_none, reserves_as, reserves_then, reserves_err}
use Rattle.converter.proofs.CellSignals.{From, CellDone, Vector, vector_wires}

one_there : (n : ℕ) (x : SecondPort) → (n ≡ 0 → ⊥) → when_set n x ≡ Some x
one_there zero x q = absurd (q refl)
one_there (suc n) x q = refl

module _ (cell : Fields) (owner : ℕ) (r : Reserver) where
  abbrev words : List ℕ
  words = cell.words.now

  abbrev at : ℕ
  at = cell.at

  abbrev m : Wires
  m = map_in r

  abbrev width : ℕ
  width = word_at words (at + 2)

  abbrev port : SecondPort
  port = second_port_at words (at + first_size words width) width

  abbrev second : Option SecondPort
  second = when_set (word_at words (at + 42)) port

  abbrev Fit : Limits → Type 0
  Fit limits = FitsCell limits (block_ram_at words at)

  ram_is : reserve_cell_output m owner (block_ram_at words at) ≡ (reserve_vector m 8 owner (wires_at words (at + (43 + width)) width) >>= λ m₁. reserve_second m₁ owner second)
  unfolding reserve_cell_output
  ram_is = refl

  module _ {f : Fields} {w : ℕ} (wide : w ≡ width) (is : From cell owner r f (43 + w)) {r₁ : Reserver} where
    first_port : {q : Result (Unit {0}) Refusal} → Vector cell owner r q r₁ 8 w (held_bits f.words.now C.Wires f.at w) → Reserves Fit r (reserve_vector m 8 owner (wires_at words (at + (43 + width)) width)) q r₁
    first_port {q} h =
        subst (λ (k : ℕ). Reserves Fit r (reserve_vector m 8 owner (wires_at words (at + (43 + k)) k)) q r₁) wide
        (vector_wires cell owner r 8 (43 + w) w is (λ limits p. subst (λ (k : ℕ). Each (FitsWire limits) (wires_at words (at + (43 + k)) k) × (k < 65536)) (sym wide) (p.output.1, omega (arith, p.width.1))) h)

    pub ram_err : {x : Refusal} → Vector cell owner r (Err x) r₁ 8 w (held_bits f.words.now C.Wires f.at w) → (q : Result (Unit {0}) Refusal) → IsErrAnd q (λ y. y ≡ x) → CellDone cell owner r q r₁ (block_ram_at words at)
    ram_err h q e = reserves_as (λ limits p. ram_is) (reserves_err (λ limits room p. p) _ (first_port h) q e)

    module _ (h : Vector cell owner r (Ok tt) r₁ 8 w (held_bits f.words.now C.Wires f.at w)) {flag : ℕ} (set : flag ≡ word_at words (at + 42)) where
      pub ram_one : flag ≡ 0 → CellDone cell owner r (Ok tt) r₁ (block_ram_at words at)
      ram_one z =
          reserves_as (λ limits p. ram_is)
          (reserves_then (λ limits room p. p) _ (first_port h) (λ limits room p. p)
          (reserves_as (λ limits p. ap (λ (k : ℕ). reserve_second (map_in r₁) owner (when_set k port)) (sym set ∙ z)) reserves_none))

      module _ (nz : flag ≡ 0 → ⊥) {g s : Fields} (start : s ≡ record cell { at = min (at + first_size words width) (length words) }) (on : g ≡ record s { at = min (s.at + (24 + w)) (length s.words.now) }) where
        there : second ≡ Some port
        there = one_there (word_at words (at + 42)) port (λ e. nz (set ∙ e))

        abbrev offset : ℕ
        offset = first_size words width + (24 + w)

        is₂ : From cell owner r g offset
        is₂ =
            let a : min (min (at + first_size words width) (length words) + (24 + w)) (length words) ≡ min (at + offset) (length words) = omega arith in
            on ∙ ap (λ (x : Fields). record x { at = min (x.at + (24 + w)) (length x.words.now) }) start ∙ ap (λ (k : ℕ). record cell { at = k }) a

        abbrev Later : Limits → Type 0
        Later limits = FitsOption (FitsSecond limits width) (Some port) × (width ≤ 18)

        pub ram_two : {q : Result (Unit {0}) Refusal} {r₂ : Reserver} → Vector cell owner r₁ q r₂ 8 w (held_bits g.words.now C.Wires g.at w) → CellDone cell owner r q r₂ (block_ram_at words at)
        ram_two {q} {r₂} x =
            let a : at + offset ≡ at + first_size words width + (24 + w) = omega arith in
            reserves_as (λ limits p. ram_is)
            (reserves_then (λ limits room p. p) _ (first_port h) (λ limits room p. (subst (FitsOption (FitsSecond limits width)) there p.second, p.width.1))
            (reserves_as {P = Later} (λ limits p. ap (reserve_second (map_in r₁) owner) there)
            (subst (λ (k : ℕ). Reserves Later r₁ (reserve_vector (map_in r₁) 8 owner (wires_at words (at + first_size words width + (24 + k)) k)) q r₂) wide
            (subst (λ (i : ℕ). Reserves Later r₁ (reserve_vector (map_in r₁) 8 owner (wires_at words i w)) q r₂) a
            (vector_wires cell owner r₁ 8 offset w is₂
            (λ limits p. (
              subst (λ (i : ℕ). Each (FitsWire limits) (wires_at words i w)) (sym a) (subst (λ (k : ℕ). Each (FitsWire limits) (wires_at words (at + first_size words width + (24 + k)) k)) (sym wide) p.0.output.1),
              omega (arith, p.1, wide),
            )) x)))))
