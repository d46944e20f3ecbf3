-- Slots by their numbers: held ones stay where cells reserve more, and a wire is found at the bit of a slot that stands there.
-- Assumes nothing.
use mathlib.Core.Path.{◌≡◌, refl, ap, sym, ◌∙◌, subst}
use mathlib.Core.Logic.{◌⊎◌, inl, inr}
use mathlib.Core.Bool.{Bool, true, false}
use mathlib.Core.List.Memᴰ.{append_left as mem-left}
use mathlib.Core.List.Memᴰ.{cases_cons}
use mathlib.Core.List.Memᴰ.{not-nil}
use mathlib.Core.List.{List, [], ◌∷◌, ◌++◌, Memᴰ as Mem}
use Rattle.std.specs.Prelude.{Option, None, Some}
use Rattle.bits.proofs.Options.{some_ne_none}
use Prim.Native.Nat.{ℕ, suc, ◌<◌}
use native.Mathlib.Omega.{arith}
use lib.ListN.{length, get_or}
use Rattle.bits.specs.Bits.{pick}
use Rattle.netlist.specs.declared.Bit.TheVariants.{Zero, Wire}
use Rattle.netlist.specs.Netlist.{Netlist, Cell, lut4, pfumx, l6mux21, ccu2c, multiplier, flip_flop, block_ram, distributed_ram, io, jtagg, pll}
use Rattle.netlist.specs.Shape.{Each}
use Rattle.recorder.specs.Record.{Signal}
use Rattle.behaviour.specs.WireMap.{Source, Slot, WireRef, find, is_some, single, together, second_slot, pll_wires, reserve_fresh, reserve, reserve_all, slots}
use Rattle.behaviour.proofs.MapLaws.{FoundAt, FoundIs, found_is}
use Rattle.wires.specs.Wires.{Wires, WireRef as Ref}
use Rattle.meaning.specs.Mapped.{ref_of, no_slot, Mapping}

-- FOUND BY NUMBER

pub record Placed (held : List Slot) (x : Slot) : Type 0 where
  pub number : ℕ
  pub inside : number < length held
  pub is : get_or held number no_slot ≡ x

pub placed : (held : List Slot) (x : Slot) → Mem x held → Placed held x
placed [] x m = absurd (not-nil m)
placed (y ∷ held) x m = go (cases_cons m) (placed held x)
  where
    go : (x ≡ y) ⊎ Mem x held → (Mem x held → Placed held x) → Placed (y ∷ held) x
    go (inl e) f = record { number = 0; inside = omega arith; is = sym e }
    go (inr q) f = let r = f q in record { number = suc r.number; inside = omega (arith, r.inside); is = r.is }

pub each_mem : {A : Type 0} (P : A → Type 0) (xs : List A) → Each P xs → (x : A) → Mem x xs → P x
each_mem P [] e x h = absurd (not-nil h)
each_mem P (y ∷ xs) e x h = go (cases_cons h) (each_mem P xs e.1 x)
  where
    go : (x ≡ y) ⊎ Mem x xs → (Mem x xs → P x) → P x
    go (inl p) f = subst P (sym p) e.0
    go (inr q) f = f q

-- STAYING

fresh_keeps : (c : ℕ) (ws : List ℕ) (k : ℕ) (held : List Slot) (x : Slot) → Mem x held → Mem x (reserve_fresh c ws k held)
fresh_keeps c [] k held x m = m
fresh_keeps c (w ∷ ws) k held x m = fresh_keeps c ws (suc k) (pick (is_some (find w held 0)) held (held ++ single c (w ∷ []) k)) x (go (is_some (find w held 0)))
  where
    go : (b : Bool) → Mem x (pick b held (held ++ single c (w ∷ []) k))
    go true = m
    go false = mem-left (single c (w ∷ []) k) m

reserve_keeps : (c : ℕ) (y : Cell) (held : List Slot) (x : Slot) → Mem x held → Mem x (reserve c y held)
reserve_keeps c (lut4 i o t) held x m = mem-left (single c (o ∷ []) 0) m
reserve_keeps c (pfumx t f s o) held x m = mem-left (single c (o ∷ []) 0) m
reserve_keeps c (l6mux21 z y s o) held x m = mem-left (single c (o ∷ []) 0) m
reserve_keeps c (ccu2c u) held x m = mem-left (single c (u.sum0 ∷ u.sum1 ∷ u.carry ∷ []) 0) m
reserve_keeps c (multiplier l r p) held x m = mem-left (together c p 0) m
reserve_keeps c (flip_flop f) held x m = m
reserve_keeps c (block_ram r) held x m = mem-left (together c r.output 0 ++ second_slot c r.width r.second) m
reserve_keeps c (distributed_ram r) held x m = mem-left (together c r.output 0) m
reserve_keeps c (io p d i t) held x m = mem-left (single c (i ∷ []) 0) m
reserve_keeps c (jtagg ws) held x m = mem-left (single c ws 0) m
reserve_keeps c (pll p) held x m = fresh_keeps c (pll_wires p) 0 held x m

pub all_keeps : (cells : List Cell) (c : ℕ) (held : List Slot) (x : Slot) → Mem x held → Mem x (reserve_all cells c held)
all_keeps [] c held x m = m
all_keeps (y ∷ cells) c held x m = all_keeps cells (suc c) (reserve c y held) x (reserve_keeps c y held x m)

-- WIRES

-- where a wire is: the slot, and its bit there
pub record Located (n : Netlist) (w : ℕ) (r : Ref) : Type 0 where
  pub inside : r.signal < length (slots n)
  pub width : r.width ≡ length (get_or (slots n) r.signal no_slot).bits
  pub within : r.lsb < length (get_or (slots n) r.signal no_slot).bits
  pub is : get_or (get_or (slots n) r.signal no_slot).bits r.lsb Zero ≡ Wire w
  pub found : find w (slots n) 0 ≡ Some (record { signal = r.signal; lowest = r.lsb; width = r.width; source = (get_or (slots n) r.signal no_slot).source })

located_as : (n : Netlist) (w : ℕ) (q : WireRef) → find w (slots n) 0 ≡ Some q → Located n w (record { signal = q.signal; lsb = q.lowest; width = q.width })
located_as n w q e =
    let f : FoundAt w (slots n) 0 no_slot q = subst (FoundIs w (slots n) 0 no_slot) e (found_is w (slots n) 0 no_slot) in
    let z : f.at ≡ q.signal = omega (arith, f.signal) in
    record {
      inside = omega (arith, f.inside, z);
      width = f.holds.width ∙ ap (λ (s : ℕ). length (get_or (slots n) s no_slot).bits) z;
      within = subst (λ (s : ℕ). q.lowest < length (get_or (slots n) s no_slot).bits) z f.holds.inside;
      is = ap (λ (s : ℕ). get_or (get_or (slots n) s no_slot).bits q.lowest Zero) (sym z) ∙ f.holds.is;
      found = e ∙ ap (λ (x : Source). Some (record { signal = q.signal; lowest = q.lowest; width = q.width; source = x })) (f.holds.source ∙ ap (λ (s : ℕ). (get_or (slots n) s no_slot).source) z);
    }

pub located : (n : Netlist) (m : Wires) (ss : List Signal) → Mapping (slots n) ss m → (w : ℕ) (r : Ref) → m w ≡ Some r → Located n w r
located n m ss h w r e = go (find w (slots n) 0) refl
  where
    go : (o : Option WireRef) → find w (slots n) 0 ≡ o → Located n w r
    go None q = absurd (some_ne_none r (sym e ∙ h.finds w ∙ ap ref_of q))
    go (Some x) q =
        let y : Some r ≡ Some (record { signal = x.signal; lsb = x.lowest; width = x.width }) = sym e ∙ h.finds w ∙ ap ref_of q in
        let z : r ≡ record { signal = x.signal; lsb = x.lowest; width = x.width } = cc in
        subst (Located n w) (sym z) (located_as n w x q)
