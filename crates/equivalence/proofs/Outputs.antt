-- Where the model's statements hold, each output of a cell has what the tick rule gives for what the wires and the registers hold.
-- Assumes nothing.
use mathlib.Core.Path.{◌≡◌, refl, ap, ap₂, sym, ◌∙◌, subst}
use mathlib.Core.Logic.{◌⊎◌, inl, inr}
use mathlib.Core.Bool.{Bool, true, false}
use mathlib.Core.List.Memᴰ.{append_left as mem-left}
use mathlib.Core.List.Memᴰ.{append_right as mem-right}
use mathlib.Core.List.Memᴰ.{cases_cons}
use mathlib.Core.List.Memᴰ.{head as here}
use mathlib.Core.List.Memᴰ.{not-nil}
use mathlib.Core.List.Memᴰ.{tail as there}
use mathlib.Core.List.{List, [], ◌∷◌, ◌++◌, map, Memᴰ as Mem}
use Rattle.std.specs.Prelude.{Option, None, Some}
use Prim.Native.Nat.{ℕ, zero, suc, ◌+◌, ◌-◌, ◌*◌, ◌^◌, ◌≤◌, ◌<◌}
use native.Mathlib.Nat.{not-suc-le-zero, pow-succ'}
use native.Mathlib.Omega.{arith}
use native.Mathlib.Decide.{dec_lt, ℕ_discrete}
use lib.Dec.{eqb}
use lib.ListN.{length, get_or, take, drop, length-map, length-take, length-drop, get_or-append}
use lib.Seq.{get_or-take, get_or-drop, get_or-append-add}
use borrow.Author.Tests.{eq-eqb, ne_eqb}
use Rattle.bits.specs.Bits.{pick, Bits, number, binary, table_bit}
use Rattle.netlist.specs.declared.Bit.{Bit}
use Rattle.netlist.specs.declared.Limits.{Limits}
use Rattle.netlist.specs.Netlist.{SecondPort, Pll, Cell, lut4, pfumx, l6mux21, ccu2c, multiplier, flip_flop, block_ram, distributed_ram, io, jtagg, pll}
use Rattle.netlist.specs.Shape.{FitsOption, FitsSecond, FitsCell}
use Rattle.recorder.specs.Evaluate.{Signals}
use Rattle.behaviour.specs.WireMap.{pll_wires, word_signals}
use Rattle.behaviour.specs.Behaviour.{Valuation, value, values, output, ccu_bits}
use Rattle.simulation.proofs.Bounds.{length_window}
use Rattle.wires.specs.declared.Constants.{Constants}
use Rattle.wires.specs.Wires.{Wires, WireRef as Ref}
use Rattle.meaning.specs.Held.{held, values_at, Driven, last_choice}
use Rattle.meaning.specs.Settles.{Tick}
use Rattle.meaning.proofs.Equations.{AllDriven}
use Rattle.meaning.proofs.Memories.{dram_value, choices}
use Rattle.meaning.proofs.Whole.{Does}
use Rattle.forms.specs.Groups.{Group, apiece, second_group, groups}
use Rattle.forms.specs.Acts.{aim}
use Rattle.forms.proofs.Counting.{only_one}
use Rattle.equivalence.specs.Registers.{bits_of, read_of, second_read, registers_of}
use Rattle.equivalence.proofs.Vectors.{values_all, number_at, binary_at, window_at}
use Rattle.equivalence.proofs.Words.{word_chosen}

-- LISTS

mem_at : (l : List ℕ) (i : ℕ) → i < length l → Mem (get_or l i 0) l
mem_at [] i h = absurd (not-suc-le-zero h)
mem_at (x ∷ l) zero h = here refl
mem_at (x ∷ l) (suc i) h = there (mem_at l i (omega arith))

-- the pin and the wire of a group that is apiece
pub pin_wire : (ws : List ℕ) (k : ℕ) (g : Group) → Mem g (apiece ws k) → (k ≤ g.pin) × (g.pin - k < length ws) × (g.wires ≡ get_or ws (g.pin - k) 0 ∷ [])
pin_wire [] k g h = absurd (not-nil h)
pin_wire (w ∷ ws) k g h = go (cases_cons h) (pin_wire ws (suc k) g)
  where
    go : (g ≡ record { pin = k; wires = w ∷ [] }) ⊎ Mem g (apiece ws (suc k)) → (Mem g (apiece ws (suc k)) → (suc k ≤ g.pin) × (g.pin - suc k < length ws) × (g.wires ≡ get_or ws (g.pin - suc k) 0 ∷ []))
        → (k ≤ g.pin) × (g.pin - k < suc (length ws)) × (g.wires ≡ get_or (w ∷ ws) (g.pin - k) 0 ∷ [])
    go (inl e) f =
        let p : g.pin ≡ k = ap (λ (y : Group). y.pin) e in
        let z : g.pin - k ≡ 0 = omega (arith, p) in
        (omega (arith, p), omega (arith, z), ap (λ (y : Group). y.wires) e ∙ ap (λ (i : ℕ). get_or (w ∷ ws) i 0 ∷ []) (sym z))
    go (inr q) f =
        let r = f q in
        let z : g.pin - k ≡ suc (g.pin - suc k) = omega (arith, r.0) in
        (omega (arith, r.0), omega (arith, r.1, z), r.2 ∙ ap (λ (i : ℕ). get_or (w ∷ ws) i 0 ∷ []) (sym z))

-- ONE BIT

module _ (σ : Signals) (m : Wires) where
  -- the only wire of a group has the one bit of its signal
  one_bit : (w : ℕ) (b : Bool) (g : Group) → g.wires ≡ w ∷ [] → Driven σ m w (b ∷ []) → (r : Ref) → m (get_or g.wires 0 0) ≡ Some r → (i : ℕ) → i < length g.wires → (i ≡ 0) × (b ≡ get_or (σ r.signal) i false)
  one_bit w b g e d r q i h =
      let z : i ≡ 0 = omega (arith, h, ap length e) in
      let s : σ r.signal ≡ b ∷ [] = d r (ap m (sym (ap (λ (l : List ℕ). get_or l 0 0) e)) ∙ q) in
      (z, sym (ap₂ (λ (l : Bits) (j : ℕ). get_or l j false) s z))

  all_driven : (ws : List ℕ) (v : Bits) → AllDriven σ m ws v → (w : ℕ) → Mem w ws → Driven σ m w v
  all_driven [] v h w k = absurd (not-nil k)
  all_driven (x ∷ ws) v h w k = go (cases_cons k) (all_driven ws v h.1 w)
    where
      go : (w ≡ x) ⊎ Mem w ws → (Mem w ws → Driven σ m w v) → Driven σ m w v
      go (inl e) f = subst (λ (u : ℕ). Driven σ m u v) (sym e) h.0
      go (inr q) f = f q

-- all but the seventh
not_seventh : (ws : List ℕ) (i : ℕ) → i < length ws → (i ≡ 6 → ⊥) → Mem (get_or ws i 0) (take 6 ws ++ drop 7 ws)
not_seventh ws i h ne = go (dec_lt i 6)
  where
    go : Dec (i < 6) → Mem (get_or ws i 0) (take 6 ws ++ drop 7 ws)
    go (yes l) = mem-left (drop 7 ws) (subst (λ (x : ℕ). Mem x (take 6 ws)) (get_or-take 6 ws i 0 l) (mem_at (take 6 ws) i (omega (arith, length-take 6 ws))))
    go (no l) =
        let k : 7 + (i - 7) ≡ i = omega arith in
        mem-right (take 6 ws) (subst (λ (x : ℕ). Mem x (drop 7 ws)) (get_or-drop 7 ws (i - 7) 0 ∙ ap (λ (j : ℕ). get_or ws j 0) k) (mem_at (drop 7 ws) (i - 7) (omega (arith, length-drop 7 ws))))

number_under : (l : Bits) → number l < 2 ^ length l
number_under [] = omega arith
number_under (true ∷ l) = let twice : 2 ^ length (true ∷ l) ≡ 2 * 2 ^ length l = pow-succ' 2 (length l) in omega (arith, number_under l, twice)
number_under (false ∷ l) = let twice : 2 ^ length (false ∷ l) ≡ 2 * 2 ^ length l = pow-succ' 2 (length l) in omega (arith, number_under l, twice)

any_default : (l : List Bits) (i : ℕ) (d e : Bits) → i < length l → get_or l i d ≡ get_or l i e
any_default [] i d e h = absurd (not-suc-le-zero h)
any_default (x ∷ l) zero d e h = refl
any_default (x ∷ l) (suc i) d e h = any_default l i d e (omega arith)

-- EVERY KIND

module _ (limits : Limits) (κ : Tick) (m : Wires) (z : Constants) where
  abbrev σ : Signals
  σ = κ.before

  abbrev v : Valuation
  v = held κ.before m

  abbrev Gives : Cell → List ℕ → Type 0
  Gives x ws = (g : Group) → Mem g (groups x) → (r : Ref) → m (get_or g.wires 0 0) ≡ Some r → (i : ℕ) → i < length g.wires → output v (registers_of σ m x ws) x (g.pin + i) ≡ get_or (σ r.signal) i false

  -- a cell of one output
  single : (o : ℕ) (b : Bool) → Driven σ m o (b ∷ []) → (g : Group) → Mem g (apiece (o ∷ []) 0) → (r : Ref) → m (get_or g.wires 0 0) ≡ Some r → (i : ℕ) → i < length g.wires → b ≡ get_or (σ r.signal) i false
  single o b d g h r q i l = (one_bit σ m o b g (ap (λ (y : Group). y.wires) (only_one h)) d r q i l).1

  ccu_gives : (u : Rattle.netlist.specs.Netlist.Ccu2c) (ws : List ℕ) → Does κ m z (ccu2c u) ws → Gives (ccu2c u) ws
  ccu_gives u ws d g h r q i l = one (cases_cons h)
    where
      abbreviated : (k : ℕ) (w : ℕ) (b : Bool) → g ≡ record { pin = k; wires = w ∷ [] } → Driven σ m w (b ∷ []) → get_or (ccu_bits u (values v u.row0) (values v u.row1) (value v u.carry_in)) k false ≡ b
          → get_or (ccu_bits u (values v u.row0) (values v u.row1) (value v u.carry_in)) (g.pin + i) false ≡ get_or (σ r.signal) i false
      abbreviated k w b e dr f =
          let s = one_bit σ m w b g (ap (λ (y : Group). y.wires) e) dr r q i l in
          let p : g.pin + i ≡ k = omega (arith, ap (λ (y : Group). y.pin) e, s.0) in
          ap (λ (j : ℕ). get_or (ccu_bits u (values v u.row0) (values v u.row1) (value v u.carry_in)) j false) p ∙ f ∙ s.1

      two : (g ≡ record { pin = 1; wires = u.sum1 ∷ [] }) ⊎ Mem g (record { pin = 2; wires = u.carry ∷ [] } ∷ []) → output v (registers_of σ m (ccu2c u) ws) (ccu2c u) (g.pin + i) ≡ get_or (σ r.signal) i false
      two (inl e) = abbreviated 1 u.sum1 _ e d.sum1_is refl
      two (inr k) = abbreviated 2 u.carry _ (only_one k) d.carry_is refl

      one : (g ≡ record { pin = 0; wires = u.sum0 ∷ [] }) ⊎ Mem g (apiece (u.sum1 ∷ u.carry ∷ []) 1) → output v (registers_of σ m (ccu2c u) ws) (ccu2c u) (g.pin + i) ≡ get_or (σ r.signal) i false
      one (inl e) = abbreviated 0 u.sum0 _ e d.sum0_is refl
      one (inr k) = two (cases_cons k)

  multiplier_gives : (a b : List Bit) (p ws : List ℕ) → length a ≡ 18 → length b ≡ 18 → length p ≡ 36 → Does κ m z (multiplier a b p) ws → Gives (multiplier a b p) ws
  multiplier_gives a b p ws ha hb hp d g h r q i l =
      let e : g ≡ record { pin = 0; wires = p } = only_one h in
      let k : i < 36 = omega (arith, l, ap (λ (y : Group). length y.wires) e, hp) in
      let s : σ r.signal ≡ binary 36 (number (values_at v a 0 36) * number (values_at v b 0 36)) = d r (ap m (sym (ap (λ (y : Group). get_or y.wires 0 0) e)) ∙ q) in
      let na : number (values_at v a 0 36) ≡ number (values v a) = ap (λ (j : ℕ). number (values_at v a 0 j)) (let y : 36 ≡ length a + 18 = omega (arith, ha) in y) ∙ number_at v a 18 in
      let nb : number (values_at v b 0 36) ≡ number (values v b) = ap (λ (j : ℕ). number (values_at v b 0 j)) (let y : 36 ≡ length b + 18 = omega (arith, hb) in y) ∙ number_at v b 18 in
      let y : g.pin + i ≡ i = omega (arith, ap (λ (x : Group). x.pin) e) in
      ap (table_bit (number (values v a) * number (values v b))) y
      ∙ ap₂ (λ (x₁ x₂ : ℕ). table_bit (x₁ * x₂) i) (sym na) (sym nb)
      ∙ sym (binary_at 36 (number (values_at v a 0 36) * number (values_at v b 0 36)) i k)
      ∙ ap (λ (x : Bits). get_or x i false) (sym s)

  ram_gives : (x : Rattle.netlist.specs.Netlist.BlockRam) (ws : List ℕ) → FitsCell limits (block_ram x) → Gives (block_ram x) ws
  ram_gives x ws f g h r q i l = go (cases_cons h)
    where
      A : Bits
      A = read_of σ m x.width (get_or x.output 0 0)

      a_long : length (read_of σ m x.width (get_or x.output 0 0)) ≡ x.width
      a_long = length_window (σ (aim (m (get_or x.output 0 0)))) 0 x.width

      first : g ≡ record { pin = 0; wires = x.output } → get_or (read_of σ m x.width (get_or x.output 0 0) ++ second_read σ m x.width x.second) (g.pin + i) false ≡ get_or (σ r.signal) i false
      first e =
          let k : i < x.width = omega (arith, l, ap (λ (y : Group). length y.wires) e, f.output.0) in
          let p : g.pin + i ≡ i = omega (arith, ap (λ (y : Group). y.pin) e) in
          let s : aim (m (get_or x.output 0 0)) ≡ r.signal = ap (λ (y : Group). aim (m (get_or y.wires 0 0))) (sym e) ∙ ap aim q in
          ap (λ (j : ℕ). get_or (read_of σ m x.width (get_or x.output 0 0) ++ second_read σ m x.width x.second) j false) p
          ∙ get_or-append (read_of σ m x.width (get_or x.output 0 0)) (second_read σ m x.width x.second) false i (omega (arith, k, a_long))
          ∙ window_at (σ (aim (m (get_or x.output 0 0)))) 0 x.width i k ∙ ap₂ (λ (t j : ℕ). get_or (σ t) j false) s (let y : 0 + i ≡ i = omega arith in y)

      second : (o : Option SecondPort) → FitsOption (FitsSecond limits x.width) o → Mem g (second_group x.width o) → get_or (read_of σ m x.width (get_or x.output 0 0) ++ second_read σ m x.width o) (g.pin + i) false ≡ get_or (σ r.signal) i false
      second None fo k = absurd (not-nil k)
      second (Some p) fo k =
          let e : g ≡ record { pin = x.width; wires = p.output } = only_one k in
          let j : i < x.width = omega (arith, l, ap (λ (y : Group). length y.wires) e, fo.output.0) in
          let t : g.pin + i ≡ length (read_of σ m x.width (get_or x.output 0 0)) + i = omega (arith, ap (λ (y : Group). y.pin) e, a_long) in
          let s : aim (m (get_or p.output 0 0)) ≡ r.signal = ap (λ (y : Group). aim (m (get_or y.wires 0 0))) (sym e) ∙ ap aim q in
          ap (λ (c : ℕ). get_or (read_of σ m x.width (get_or x.output 0 0) ++ read_of σ m x.width (get_or p.output 0 0)) c false) t
          ∙ get_or-append-add (read_of σ m x.width (get_or x.output 0 0)) (read_of σ m x.width (get_or p.output 0 0)) i false
          ∙ window_at (σ (aim (m (get_or p.output 0 0)))) 0 x.width i j ∙ ap₂ (λ (c d : ℕ). get_or (σ c) d false) s (let y : 0 + i ≡ i = omega arith in y)

      go : (g ≡ record { pin = 0; wires = x.output }) ⊎ Mem g (second_group x.width x.second) → output v (registers_of σ m (block_ram x) ws) (block_ram x) (g.pin + i) ≡ get_or (σ r.signal) i false
      go (inl e) = first e
      go (inr k) = second x.second f.second k

  dram_gives : (x : Rattle.netlist.specs.Netlist.DistributedRam) (ws : List ℕ) → FitsCell limits (distributed_ram x) → length ws ≡ 16 → Does κ m z (distributed_ram x) ws → Gives (distributed_ram x) ws
  dram_gives x ws f n16 d g h r q i l =
      let e : g ≡ record { pin = 0; wires = x.output } = only_one h in
      let at_is : values_at v x.read_address 0 4 ≡ values v x.read_address = ap (λ (k : ℕ). values_at v x.read_address 0 k) (sym f.read_address.0) ∙ values_all v x.read_address in
      let long : length (values_at v x.read_address 0 4) ≡ 4 = ap length at_is ∙ length-map x.read_address (value v) ∙ f.read_address.0 in
      let s : σ r.signal ≡ last_choice (choices σ 4 4 (dram_value v x) None (values_at v x.read_address 0 4) 0 ws) (binary 4 0) = d.shown r (ap m (sym (ap (λ (y : Group). get_or y.wires 0 0) e)) ∙ q) in
      let c : last_choice (choices σ 4 4 (dram_value v x) None (values_at v x.read_address 0 4) 0 ws) (binary 4 0) ≡ get_or (map (bits_of σ 4) ws) (number (values_at v x.read_address 0 4)) (binary 4 0) =
      word_chosen σ 4 4 (dram_value v x) None (values_at v x.read_address 0 4) ws (binary 4 0) long (omega (arith, n16)) in
      let few : number (values v x.read_address) < length (map (bits_of σ 4) ws) = omega (
        arith,
        number_under (values v x.read_address),
        length-map x.read_address (value v),
        f.read_address.0,
        length-map ws (bits_of σ 4),
        n16,
        ap (λ (k : ℕ). 2 ^ k) (length-map x.read_address (value v) ∙ f.read_address.0),
      ) in
      let y : g.pin + i ≡ i = omega (arith, ap (λ (k : Group). k.pin) e) in
      ap (λ (j : ℕ). get_or (get_or (map (bits_of σ 4) ws) (number (values v x.read_address)) []) j false) y
      ∙ ap (λ (w : Bits). get_or w i false) (any_default (map (bits_of σ 4) ws) (number (values v x.read_address)) [] (binary 4 0) few ∙ ap (λ (b : Bits). get_or (map (bits_of σ 4) ws) (number b) (binary 4 0)) (sym at_is) ∙ sym c ∙ sym s)

  jtagg_gives : (o ws : List ℕ) → length o ≡ 9 → Does κ m z (jtagg o) ws → Gives (jtagg o) ws
  jtagg_gives o ws n9 d g h r q i l = go (ℕ_discrete g.pin 6)
    where
      w : (0 ≤ g.pin) × (g.pin - 0 < length o) × (g.wires ≡ get_or o (g.pin - 0) 0 ∷ [])
      w = pin_wire o 0 g h

      wires_are : g.wires ≡ get_or o g.pin 0 ∷ []
      wires_are = w.2 ∙ ap (λ (j : ℕ). get_or o j 0 ∷ []) (let y : g.pin - 0 ≡ g.pin = omega arith in y)

      go : Dec (g.pin ≡ 6) → eqb (g.pin + i) 6 ≡ get_or (σ r.signal) i false
      go (yes e) =
          let s = one_bit σ m (get_or o 6 0) true g (wires_are ∙ ap (λ (j : ℕ). get_or o j 0 ∷ []) e) d.1 r q i l in
          eq-eqb (g.pin + i) 6 (omega (arith, e, s.0)) ∙ s.1
      go (no e) =
          let k : g.pin < length o = omega (arith, w.1) in
          let s = one_bit σ m (get_or o g.pin 0) false g wires_are (all_driven σ m (take 6 o ++ drop 7 o) (false ∷ []) d.0 (get_or o g.pin 0) (not_seventh o g.pin k e)) r q i l in
          ne_eqb (g.pin + i) 6 (λ t. e (omega (arith, t, s.0))) ∙ s.1

  pll_gives : (p : Pll) (ws : List ℕ) → Does κ m z (pll p) ws → Gives (pll p) ws
  pll_gives p ws d g h r q i l = go g.pin refl
    where
      w : (0 ≤ g.pin) × (g.pin - 0 < length (pll_wires p)) × (g.wires ≡ get_or (pll_wires p) (g.pin - 0) 0 ∷ [])
      w = pin_wire (pll_wires p) 0 g h

      at_pin : (k u : ℕ) → g.pin ≡ k → get_or (pll_wires p) k 0 ≡ u → g.wires ≡ u ∷ []
      at_pin k u e f = w.2 ∙ ap (λ (j : ℕ). get_or (pll_wires p) j 0 ∷ []) (let y : g.pin - 0 ≡ k = omega (arith, e) in y) ∙ ap (λ (j : ℕ). j ∷ []) f

      clock : (k u : ℕ) → g.pin ≡ k → get_or (pll_wires p) k 0 ≡ u → (k ≡ 2 → ⊥) → Driven σ m u (value v p.reference ∷ []) → pick (eqb (g.pin + i) 2) true (value v p.reference) ≡ get_or (σ r.signal) i false
      clock k u e f ne dr =
          let s = one_bit σ m u (value v p.reference) g (at_pin k u e f) dr r q i l in
          ap (λ (b : Bool). pick b true (value v p.reference)) (ne_eqb (g.pin + i) 2 (λ t. ne (omega (arith, t, e, s.0)))) ∙ s.1

      go : (k : ℕ) → g.pin ≡ k → pick (eqb (g.pin + i) 2) true (value v p.reference) ≡ get_or (σ r.signal) i false
      go zero e = clock 0 p.feedback e refl (omega arith) d.feedback_is
      go (suc zero) e = clock 1 p.output e refl (omega arith) d.output_is
      go (suc (suc zero)) e =
          let s = one_bit σ m p.locked true g (at_pin 2 p.locked e refl) d.locked_is r q i l in
          ap (λ (b : Bool). pick b true (value v p.reference)) (eq-eqb (g.pin + i) 2 (omega (arith, e, s.0))) ∙ s.1
      go (suc (suc (suc k))) e =
          clock (suc (suc (suc k))) (get_or p.more k 0) e refl (omega arith) (all_driven σ m p.more (value v p.reference ∷ []) d.more_is (get_or p.more k 0) (mem_at p.more k (omega (arith, w.1, e))))

  pub cell_gives : (x : Cell) (ws : List ℕ) → FitsCell limits x → length ws ≡ word_signals x → Does κ m z x ws → Gives x ws
  cell_gives (lut4 i o t) ws f n d g h r q j l = single o _ d g h r q j l
  cell_gives (pfumx t e s o) ws f n d g h r q j l = single o _ d g h r q j l
  cell_gives (l6mux21 e t s o) ws f n d g h r q j l = single o _ d g h r q j l
  cell_gives (ccu2c u) ws f n d g h r q j l = ccu_gives u ws d g h r q j l
  cell_gives (multiplier a b p) ws f n d g h r q j l = multiplier_gives a b p ws f.0.0 f.1.0 f.2.0 d g h r q j l
  cell_gives (flip_flop e) ws f n d g h r q j l = absurd (not-nil h)
  cell_gives (block_ram x) ws f n d g h r q j l = ram_gives x ws f g h r q j l
  cell_gives (distributed_ram x) ws f n d g h r q j l = dram_gives x ws f n d g h r q j l
  cell_gives (io p e i t) ws f n d g h r q j l = single i _ d g h r q j l
  cell_gives (jtagg o) ws f n d g h r q j l = jtagg_gives o ws f.0 d g h r q j l
  cell_gives (pll p) ws f n d g h r q j l = pll_gives p ws d g h r q j l
