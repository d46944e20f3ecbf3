-- A commit of the model changes the registers as the tick rule says.
-- Assumes nothing.
use mathlib.Core.Path.{◌≡◌, refl, ap, ap₂, sym, ◌∙◌, subst}
use mathlib.Core.Logic.{◌⊎◌, inl, inr}
use mathlib.Core.Bool.{Bool, true, false, ◌&&◌}
use mathlib.Core.List.Memᴰ.{cases_cons}
use mathlib.Core.List.Memᴰ.{head as here}
use mathlib.Core.List.Memᴰ.{not-nil}
use mathlib.Core.List.Memᴰ.{tail as there}
use mathlib.Core.List.{List, [], ◌∷◌, map, Memᴰ as Mem}
use Rattle.std.specs.Prelude.{Option, None, Some}
use Prim.Native.Nat.{ℕ, zero, suc, ◌+◌, ◌^◌, ◌≤◌, ◌<◌}
use native.Mathlib.Nat.{not-suc-le-zero}
use native.Mathlib.Omega.{arith}
use lib.Dec.{eqb}
use lib.ListN.{length, get_or, take, drop, replicate, length-map, length-take, length-drop, length-replicate}
use Rattle.bits.specs.Bits.{pick, Bits, number, binary, lowest, same, window}
use Rattle.netlist.specs.declared.Bit.{Bit}
use Rattle.netlist.specs.declared.Bit.TheVariants.{Zero, One, Wire}
use Rattle.netlist.specs.declared.Control.{Control}
use Rattle.netlist.specs.declared.Reset.{Reset}
use Rattle.netlist.specs.declared.Limits.{Limits}
use Rattle.netlist.specs.Netlist.{FlipFlop, SecondPort, BlockRam, DistributedRam, Netlist, Cell, lut4, pfumx, l6mux21, ccu2c, multiplier, flip_flop, block_ram, distributed_ram, io, jtagg, pll}
use Rattle.netlist.specs.Reader.{address_width, shift_of}
use Rattle.netlist.specs.Shape.{each_at, FitsOption, FitsSecond, FitsCell, FitsBlockRam, FitsDistributedRam}
use Rattle.recorder.specs.Record.{RegEnable}
use Rattle.recorder.specs.Evaluate.{Signals}
use Rattle.behaviour.specs.Banks.{Member, Bank, outputs_of, async_reset, filter_async, flip_flops_of, leaders_of, bank_in, members_of, collect_flip_flop_banks}
use Rattle.behaviour.specs.WireMap.{word_signals}
use Rattle.behaviour.specs.Behaviour.{Valuation, Registers, value, values, zeros, asserted, enabled, resetting, reset_value, loaded_flop, next_flop, shift_in, address, written, loaded, written_a, written_b, loaded_a, loaded_b, next_ram, next_distributed, next, commit, absent}
use Rattle.behaviour.proofs.BankLaws.{Mates, mates_reset, flop_banked, is_member, cell_is_flop, bank_at, bank_count}
use Rattle.simulation.proofs.Bounds.{length_window}
use Rattle.wires.specs.declared.Constants.{Constants}
use Rattle.wires.specs.Wires.{Wires, WireRef as Ref}
use Rattle.meaning.specs.Held.{ref_bit, held, values_at, last_choice}
use Rattle.meaning.specs.Settles.{Tick, asserts, enable_now}
use Rattle.meaning.specs.Runs.{Laid}
use Rattle.meaning.proofs.BitReads.{IsSignal}
use Rattle.meaning.proofs.Equations.{some_is}
use Rattle.meaning.proofs.Registers.{loaded_all, reset_values, ResetNow, Banked}
use Rattle.meaning.proofs.Memories.{PortValue, choices, EnableIs, ReadPort, shift_for, first_value, second_value, SecondRead, Remembered, dram_value, Distributed}
use Rattle.meaning.proofs.Whole.{Does, AllDo, AllBanked}
use Rattle.forms.specs.Acts.{aim}
use Rattle.forms.specs.Lowered.{Lowered}
use Rattle.forms.proofs.Slots.{bank_slot_lem}
use Rattle.forms.proofs.Counting.{wire_at, bank_is, leader_first, leader_there}
use Rattle.forms.proofs.FitRams.{addressed}
use Rattle.equivalence.specs.Registers.{bits_of, read_of, second_read, registers_of, registers_all}
use Rattle.equivalence.proofs.Vectors.{values_at_lem, values_all, window_all, pick_at, pick_map}
use Rattle.equivalence.proofs.Words.{word_chosen, written_second, SecondSized, words_after}
use Rattle.equivalence.proofs.Driving.{laid_at, does_at}

same_registers : {fl : Bool} {w w' : List Bits} {a a' b b' : Bits} → w ≡ w' → a ≡ a' → b ≡ b' → ◌≡◌ {A = Registers} (record { flop = fl; words = w; read_a = a; read_b = b }) (record { flop = fl; words = w'; read_a = a'; read_b = b' })
same_registers {fl} p q r = λ i. record { flop = fl; words = p i; read_a = q i; read_b = r i }

-- CONTROLS

module _ (κ : Tick) (m : Wires) (z : Constants) (zero_is : κ.before z.zero.0 ≡ false ∷ []) (one_is : κ.before z.one.0 ≡ true ∷ []) where
  abbrev σ : Signals
  σ = κ.before

  abbrev σ' : Signals
  σ' = κ.next

  abbrev v : Valuation
  v = held κ.before m

  signal_holds : (b : Bit) (s : ℕ) → IsSignal m z b s → lowest (σ s) ≡ value v b
  signal_holds Zero s h = ap (λ (t : ℕ). lowest (σ t)) h ∙ ap lowest zero_is
  signal_holds One s h = ap (λ (t : ℕ). lowest (σ t)) h ∙ ap lowest one_is
  signal_holds (Wire w) s h = sym (ap (ref_bit σ) h.alone)

  pub control_asserts : (b : Bit) (s active : ℕ) → IsSignal m z b s → asserts σ s active ≡ asserted v b active
  control_asserts b s active h = ap (λ (x : Bool). same x (eqb active 1)) (signal_holds b s h)

  enable_holds : (o : Option Control) (e : Option RegEnable) → EnableIs m z o e → enable_now σ e ≡ enabled v o
  enable_holds None e h = ap (enable_now σ) h
  enable_holds (Some c) e h = ap (enable_now σ) h.2 ∙ control_asserts c.signal h.0 c.active h.1

  -- ADDRESSES AND WORDS

  binary_zeros : (w : ℕ) → binary w 0 ≡ zeros w
  binary_zeros zero = refl
  binary_zeros (suc w) = ap (λ (l : Bits). false ∷ l) (binary_zeros w)

  address_is : (limits : Limits) (r : BlockRam) (bits : List Bit) → FitsBlockRam limits r → length bits ≡ 14 → values_at v bits (shift_for r) (address_width r.depth) ≡ values v (take (address_width r.depth) (drop (shift_in (shift_of r.physical)) bits))
  address_is limits r bits f h = values_at_lem v bits (shift_for r) (address_width r.depth) (omega (arith, h, (addressed limits r f).few_bits))

  length_at : (bits : List Bit) (at k : ℕ) → length (values_at v bits at k) ≡ k
  length_at bits at zero = refl
  length_at bits at (suc k) = omega (arith, lib.ListN.length-append (values_at v bits at k) (value v (get_or bits (at + k) Zero) ∷ []), length_at bits at k)

  -- BLOCK RAM

  module _ (limits : Limits) (r : BlockRam) (ws : List ℕ) (f : FitsBlockRam limits r) (count : length ws ≡ r.depth) (d : Remembered κ m z r ws) where
    abbrev wide : ℕ
    wide = r.width

    abbrev A : PortValue
    A = first_value v r

    abbrev B : Option PortValue
    B = second_value v (shift_for r) (address_width r.depth) r.second

    abbrev old : List Bits
    old = map (bits_of σ r.width) ws

    abbrev F : Bool
    F = κ.fires d.clock r.edge

    few : length ws ≤ 2 ^ address_width r.depth
    few = omega (arith, count, (addressed limits r f).covers)

    a_word : A.word ≡ values v r.input
    a_word = values_all v r.input

    sized : (o : Option SecondPort) → FitsOption (FitsSecond limits r.width) o → SecondSized (address_width r.depth) r.width (second_value v (shift_for r) (address_width r.depth) o)
    sized None q = tt
    sized (Some p) q = (length_at p.address (shift_for r) (address_width r.depth), length_at p.input 0 (length p.input) ∙ q.input.0)

    first_written : written A.asserted (number A.address) A.word old ≡ written_a v r old
    first_written = ap₂ (λ (x y : Bits). written A.asserted (number x) y old) (address_is limits r r.write_address f f.write_address.0) a_word

    second_written : (o : Option SecondPort) (l : List Bits) → FitsOption (FitsSecond limits r.width) o → written_second (second_value v (shift_for r) (address_width r.depth) o) l ≡ written_b v r o l
    second_written None l q = refl
    second_written (Some p) l q = ap₂ (λ (x y : Bits). written (enabled v (Some p.write) && enabled v p.clock_enable) (number x) y l) (address_is limits r p.address f q.address.0) (values_all v p.input)

    words_next : map (bits_of σ' r.width) ws ≡ pick F (written_b v r r.second (written_a v r old)) old
    words_next =
        words_after κ r.width (address_width r.depth) A B d.clock r.edge (length_at r.input 0 (length r.input) ∙ f.input.0) (sized r.second f.second) ws (length_at r.write_address (shift_for r) (address_width r.depth)) few d.updated
        ∙ ap (λ (l : List Bits). pick F l old) (ap (written_second B) first_written ∙ second_written r.second (written_a v r old) f.second)

    -- what a port reads
    read_next : (outputs : List ℕ) (o c : Option Control) (bits : List Bit) → length bits ≡ 14 → ReadPort κ m z r.width (address_width r.depth) A B outputs o c (values_at v bits (shift_for r) (address_width r.depth)) ws d.clock r.edge
        → read_of σ' m r.width (get_or outputs 0 0) ≡ pick F (loaded (enabled v o && enabled v c) (address v r bits) r old (read_of σ m r.width (get_or outputs 0 0))) (read_of σ m r.width (get_or outputs 0 0))
    read_next outputs o c bits h p =
        let at : Bits = values_at v bits (shift_for r) (address_width r.depth) in
        let s : aim (m (get_or outputs 0 0)) ≡ p.target.signal = ap aim p.target_is in
        let X : Bits = last_choice (choices σ r.width (address_width r.depth) A B (values_at v bits (shift_for r) (address_width r.depth)) 0 ws) (binary r.width 0) in
        let chosen : last_choice (choices σ r.width (address_width r.depth) A B (values_at v bits (shift_for r) (address_width r.depth)) 0 ws) (binary r.width 0) ≡ get_or old (address v r bits) (zeros r.width) =
        word_chosen σ r.width (address_width r.depth) A B (values_at v bits (shift_for r) (address_width r.depth)) ws (binary r.width 0) (length_at bits (shift_for r) (address_width r.depth)) few
        ∙ ap₂ (λ (x y : Bits). get_or old (number x) y) (address_is limits r bits f h) (binary_zeros r.width) in
        ap (λ (t : ℕ). window (σ' t) 0 r.width) s
        ∙ ap (λ (x : Bits). window x 0 r.width) p.taken
        ∙ pick_map (λ (x : Bits). window x 0 r.width) (F && enable_now σ p.enable) (pick (enabled v c) X (bits_of σ r.width p.target.signal)) (σ p.target.signal)
        ∙ ap₂ (λ (t : Bool) (x : Bits). pick (F && t) x (window (σ p.target.signal) 0 r.width)) (enable_holds o p.enable p.enable_is)
        (pick_map (λ (x : Bits). window x 0 r.width) (enabled v c) X (bits_of σ r.width p.target.signal)
        ∙ ap₂ (λ (x y : Bits). pick (enabled v c) x y) (ap (λ (x : Bits). window x 0 r.width) chosen ∙ window_all (get_or old (address v r bits) (zeros r.width)) r.width (old_wide (address v r bits)))
        (window_all (bits_of σ r.width p.target.signal) r.width (length_window (σ p.target.signal) 0 r.width)))
        ∙ ap (λ (t : ℕ). pick (F && enabled v o) (pick (enabled v c) (get_or old (address v r bits) (zeros r.width)) (window (σ t) 0 r.width)) (window (σ t) 0 r.width)) (sym s)
        ∙ both F (enabled v o) (enabled v c)
      where
        old_wide : (i : ℕ) → length (get_or (map (bits_of σ r.width) ws) i (zeros r.width)) ≡ r.width
        old_wide i = go ws i
          where
            go : (l : List ℕ) (i : ℕ) → length (get_or (map (bits_of σ r.width) l) i (zeros r.width)) ≡ r.width
            go [] i = length-replicate r.width false
            go (x ∷ l) zero = length_window (σ x) 0 r.width
            go (x ∷ l) (suc i) = go l i

        both : (x y e : Bool) → pick (x && y) (pick e (get_or old (address v r bits) (zeros r.width)) (read_of σ m r.width (get_or outputs 0 0))) (read_of σ m r.width (get_or outputs 0 0)) ≡ pick x (loaded (y && e) (address v r bits) r old (read_of σ m r.width (get_or outputs 0 0))) (read_of σ m r.width (get_or outputs 0 0))
        both true true true = refl
        both true true false = refl
        both true false e = refl
        both false y e = refl

    second_next : (o : Option SecondPort) → FitsOption (FitsSecond limits r.width) o → SecondRead κ m z r.width (address_width r.depth) (shift_for r) A B o ws d.clock r.edge
        → second_read σ' m r.width o ≡ pick F (loaded_b v r o old (second_read σ m r.width o)) (second_read σ m r.width o)
    second_next None q h = go F
      where
        go : (t : Bool) → zeros r.width ≡ pick t (zeros r.width) (zeros r.width)
        go true = refl
        go false = refl
    second_next (Some p) q h = read_next p.output p.read_enable p.clock_enable p.address q.address.0 h

    ram_next : (t : Bool) → F ≡ t → registers_of σ' m (block_ram r) ws ≡ next_ram t v r (registers_of σ m (block_ram r) ws)
    ram_next t e = go t (ap (λ (b : Bool). pick b (written_b v r r.second (written_a v r old)) old) e)
        (ap (λ (b : Bool). pick b (loaded_a v r old (read_of σ m r.width (get_or r.output 0 0))) (read_of σ m r.width (get_or r.output 0 0))) e)
        (ap (λ (b : Bool). pick b (loaded_b v r r.second old (second_read σ m r.width r.second)) (second_read σ m r.width r.second)) e)
      where
        go : (t : Bool) → pick F (written_b v r r.second (written_a v r old)) old ≡ pick t (written_b v r r.second (written_a v r old)) old
            → pick F (loaded_a v r old (read_of σ m r.width (get_or r.output 0 0))) (read_of σ m r.width (get_or r.output 0 0)) ≡ pick t (loaded_a v r old (read_of σ m r.width (get_or r.output 0 0))) (read_of σ m r.width (get_or r.output 0 0))
            → pick F (loaded_b v r r.second old (second_read σ m r.width r.second)) (second_read σ m r.width r.second) ≡ pick t (loaded_b v r r.second old (second_read σ m r.width r.second)) (second_read σ m r.width r.second)
            → registers_of σ' m (block_ram r) ws ≡ next_ram t v r (registers_of σ m (block_ram r) ws)
        go true x y u = same_registers (words_next ∙ x) (read_next r.output r.read_enable r.clock_enable r.read_address f.read_address.0 d.first ∙ y) (second_next r.second f.second d.second_port ∙ u)
        go false x y u = same_registers (words_next ∙ x) (read_next r.output r.read_enable r.clock_enable r.read_address f.read_address.0 d.first ∙ y) (second_next r.second f.second d.second_port ∙ u)

  -- DISTRIBUTED RAM

  dram_next : (limits : Limits) (r : DistributedRam) (ws : List ℕ) → FitsDistributedRam limits r → length ws ≡ 16 → (d : Distributed κ m z r ws) (t : Bool) → κ.fires d.clock r.edge ≡ t
      → registers_of σ' m (distributed_ram r) ws ≡ next_distributed t v r (registers_of σ m (distributed_ram r) ws)
  dram_next limits r ws f count d t e =
      let A : PortValue = dram_value v r in
      let at_is : values_at v r.write_address 0 4 ≡ values v r.write_address = ap (λ (k : ℕ). values_at v r.write_address 0 k) (sym f.write_address.0) ∙ values_all v r.write_address in
      let word_is : values_at v r.input 0 4 ≡ values v r.input = ap (λ (k : ℕ). values_at v r.input 0 k) (sym f.input.0) ∙ values_all v r.input in
      same_registers
      (words_after κ 4 4 (dram_value v r) None d.clock r.edge (length_at r.input 0 4) tt ws (length_at r.write_address 0 4) (omega (arith, count)) d.updated
      ∙ ap₂ (λ (x y : Bits). pick (κ.fires d.clock r.edge) (written (asserted v r.write.signal r.write.active) (number x) y (map (bits_of σ 4) ws)) (map (bits_of σ 4) ws)) at_is word_is
      ∙ ap (λ (b : Bool). pick b (written (asserted v r.write.signal r.write.active) (number (values v r.write_address)) (values v r.input) (map (bits_of σ 4) ws)) (map (bits_of σ 4) ws)) e
      ∙ both t (asserted v r.write.signal r.write.active)) refl refl
    where
      both : (x y : Bool) → pick x (written y (number (values v r.write_address)) (values v r.input) (map (bits_of σ 4) ws)) (map (bits_of σ 4) ws) ≡ written (x && y) (number (values v r.write_address)) (values v r.input) (map (bits_of σ 4) ws)
      both true y = refl
      both false y = refl

-- FLIP-FLOPS

member_at : (ms : List Member) (x d : Member) → Mem x ms → (i : ℕ) × (i < length ms) × (get_or ms i d ≡ x)
member_at [] x d h = absurd (not-nil h)
member_at (y ∷ ms) x d h = go (cases_cons h) (member_at ms x d)
  where
    go : (x ≡ y) ⊎ Mem x ms → (Mem x ms → (i : ℕ) × (i < length ms) × (get_or ms i d ≡ x)) → (i : ℕ) × (i < suc (length ms)) × (get_or (y ∷ ms) i d ≡ x)
    go (inl e) f = (0, omega arith, sym e)
    go (inr q) f = let r = f q in (suc r.0, omega (arith, r.1), r.2)

pub outputs_at : (ms : List Member) (i : ℕ) (d : Member) → i < length ms → get_or (outputs_of ms) i 0 ≡ (get_or ms i d).flop.output
outputs_at [] i d h = absurd (not-suc-le-zero h)
outputs_at (x ∷ ms) zero d h = refl
outputs_at (x ∷ ms) (suc i) d h = outputs_at ms i d (omega arith)

loaded_at : (σ : Signals) (m : Wires) (ms : List Member) (i : ℕ) (d : Member) → i < length ms → get_or (loaded_all σ m ms) i false ≡ loaded_flop (held σ m) (get_or ms i d).flop (held σ m (get_or ms i d).flop.output)
loaded_at σ m [] i d h = absurd (not-suc-le-zero h)
loaded_at σ m (x ∷ ms) zero d h = refl
loaded_at σ m (x ∷ ms) (suc i) d h = loaded_at σ m ms i d (omega arith)

reset_at : (ms : List Member) (i : ℕ) (d : Member) → i < length ms → get_or (reset_values ms) i false ≡ reset_value (get_or ms i d).flop.reset
reset_at [] i d h = absurd (not-suc-le-zero h)
reset_at (x ∷ ms) zero d h = refl
reset_at (x ∷ ms) (suc i) d h = reset_at ms i d (omega arith)

pub banked_at : (κ : Tick) (m : Wires) (z : Constants) (bs : List Bank) → AllBanked κ m z bs → (b : Bank) → Mem b bs → Banked κ m z b
banked_at κ m z [] h b q = absurd (not-nil q)
banked_at κ m z (x ∷ bs) h b q = go (cases_cons q) (banked_at κ m z bs h.1 b)
  where
    go : (b ≡ x) ⊎ Mem b bs → (Mem b bs → Banked κ m z b) → Banked κ m z b
    go (inl e) f = subst (Banked κ m z) (sym e) h.0
    go (inr k) f = f k

bank_there : (bs : List Bank) (i : ℕ) (d : Bank) → i < length bs → Mem (get_or bs i d) bs
bank_there [] i d h = absurd (not-suc-le-zero h)
bank_there (b ∷ bs) zero d h = here refl
bank_there (b ∷ bs) (suc i) d h = there (bank_there bs i d (omega arith))

-- the bank of a flip-flop, and its place there
pub record InBank (n : Netlist) (c : ℕ) (f : FlipFlop) : Type 0 where
  pub bank : Bank
  pub one_of : Mem bank (collect_flip_flop_banks n.cells)
  pub place : ℕ
  pub inside : place < length bank.members
  pub is : get_or bank.members place bank.leader ≡ record { cell = c; flop = f }

pub in_bank : (n : Netlist) (c : ℕ) (f : FlipFlop) → get_or n.cells c absent ≡ flip_flop f → InBank n c f
in_bank n c f e =
    let cells : List Cell = n.cells in
    let me : Member = record { cell = c; flop = f } in
    let listed : Mem (record { cell = c; flop = f }) (flip_flops_of n.cells) = subst (λ (k : ℕ). Mem (record { cell = k; flop = f }) (flip_flops_of n.cells)) (let z : 0 + c ≡ c = omega arith in z) (cell_is_flop n.cells 0 c f e) in
    let b : ℕ = bank_in (leaders_of n.cells) f in
    let there_is : bank_in (leaders_of n.cells) f < length (leaders_of n.cells) = flop_banked n.cells (record { cell = c; flop = f }) listed in
    let d : Bank = record { leader = me; members = [] } in
    let B : Bank = get_or (collect_flip_flop_banks n.cells) (bank_in (leaders_of n.cells) f) (record { leader = record { cell = c; flop = f }; members = [] }) in
    let is : get_or (collect_flip_flop_banks n.cells) (bank_in (leaders_of n.cells) f) (record { leader = record { cell = c; flop = f }; members = [] }) ≡ record { leader = get_or (leaders_of n.cells) (bank_in (leaders_of n.cells) f) (record { cell = c; flop = f }); members = members_of (leaders_of n.cells) (bank_in (leaders_of n.cells) f) (flip_flops_of n.cells) } =
    bank_at n.cells (bank_in (leaders_of n.cells) f) (record { cell = c; flop = f }) (record { leader = record { cell = c; flop = f }; members = [] }) there_is in
    let among : Mem (record { cell = c; flop = f }) B.members = subst (λ (x : Bank). Mem (record { cell = c; flop = f }) x.members) (sym is) (is_member (leaders_of n.cells) (bank_in (leaders_of n.cells) f) (flip_flops_of n.cells) (record { cell = c; flop = f }) listed refl) in
    let at = member_at B.members (record { cell = c; flop = f }) B.leader among in
    record {
      bank = B;
      one_of = bank_there (collect_flip_flop_banks n.cells) (bank_in (leaders_of n.cells) f) (record { leader = record { cell = c; flop = f }; members = [] }) (omega (arith, there_is, bank_count n.cells));
      place = at.0;
      inside = at.1;
      is = at.2;
    }

module _ {shared : ℕ} {limits : Limits} {n : Netlist} (a : Lowered shared limits n) (κ : Tick) (z : Constants) (zero_is : κ.before z.zero.0 ≡ false ∷ []) (one_is : κ.before z.one.0 ≡ true ∷ []) where
  abbrev m : Wires
  m = a.wires

  abbrev u : Valuation
  u = held κ.before a.wires

  -- the clocks that fire for the model fire for the cells
  abbrev pub Fires : (Bit → ℕ → Bool) → Type 0
  Fires on = (b : Bit) (s : ℕ) → IsSignal m z b s → (d : ℕ) → κ.fires s d ≡ on b d

  resets_are : (f : FlipFlop) (t : Bool) → ResetNow κ.before m z (async_reset f) t → t ≡ resetting u 1 f.reset
  resets_are f t h = go f.reset h
    where
      two : (q : Reset) (b : Bool) → eqb q.asynchronous 1 ≡ b → ResetNow κ.before m z (pick b (Some q) None) t → t ≡ eqb q.asynchronous 1 && asserted u q.signal q.active
      two q true e k = k.2 ∙ control_asserts κ m z zero_is one_is q.signal k.0 q.active k.1 ∙ ap (λ (b : Bool). b && asserted u q.signal q.active) (sym e)
      two q false e k = k ∙ ap (λ (b : Bool). b && asserted u q.signal q.active) (sym e)

      go : (o : Option Reset) → ResetNow κ.before m z (filter_async o) t → t ≡ resetting u 1 o
      go None k = k
      go (Some q) k = two q (eqb q.asynchronous 1) refl k

  flop_next : (on : Bit → ℕ → Bool) → Fires on → AllBanked κ m z (collect_flip_flop_banks n.cells) → (c : ℕ) (f : FlipFlop) → get_or n.cells c absent ≡ flip_flop f
      → held κ.next m f.output ≡ next_flop (on f.clock f.edge) u f (u f.output)
  flop_next on fires banked c f e =
      let b = in_bank n c f e in
      let B : Bank = (in_bank n c f e).bank in
      let i : ℕ = (in_bank n c f e).place in
      let p = bank_slot_lem n (in_bank n c f e).bank (in_bank n c f e).one_of in
      let first = (bank_is a (in_bank n c f e).bank (in_bank n c f e).one_of).first in
      let bk = banked_at κ m z (collect_flip_flop_banks n.cells) banked (in_bank n c f e).bank (in_bank n c f e).one_of in
      let mates : Mates (in_bank n c f e).bank.leader.flop f = subst (λ (x : Member). Mates (in_bank n c f e).bank.leader.flop x.flop) (in_bank n c f e).is ((bank_is a (in_bank n c f e).bank (in_bank n c f e).one_of).member (get_or (in_bank n c f e).bank.members (in_bank n c f e).place (in_bank n c f e).bank.leader) (member_there (in_bank n c f e).bank.members (in_bank n c f e).place (in_bank n c f e).bank.leader (in_bank n c f e).inside)).1 in
      let long : i < length (outputs_of B.members) = omega (arith, (in_bank n c f e).inside, length-map (in_bank n c f e).bank.members (λ (x : Member). x.flop.output)) in
      let mine : m f.output ≡ Some (record { signal = p.number; lsb = i; width = length (outputs_of B.members) }) =
      ap m (sym (outputs_at (in_bank n c f e).bank.members (in_bank n c f e).place (in_bank n c f e).bank.leader (in_bank n c f e).inside ∙ ap (λ (x : Member). x.flop.output) (in_bank n c f e).is)) ∙ wire_at a _ (outputs_of (in_bank n c f e).bank.members) p i long in
      let leads : m B.leader.flop.output ≡ Some (record { signal = p.number; lsb = 0; width = length (outputs_of B.members) }) = ap m (sym (leader_first a (in_bank n c f e).bank first)) ∙ wire_at a _ (outputs_of (in_bank n c f e).bank.members) p 0 (leader_there a (in_bank n c f e).bank first) in
      let target : bk.target.signal ≡ p.number = ap (λ (x : Ref). x.signal) (some_is bk.target (record { signal = p.number; lsb = 0; width = length (outputs_of B.members) }) (sym bk.target_is ∙ leads)) in
      let now : u f.output ≡ get_or (κ.before p.number) i false = ap (ref_bit κ.before) mine in
      ap (ref_bit κ.next) mine
      ∙ ap (λ (s : ℕ). get_or (κ.next s) i false) (sym target)
      ∙ ap (λ (x : Bits). get_or x i false) bk.taken
      ∙ pick_at bk.resets (reset_values B.members) (pick (κ.fires bk.clock B.leader.flop.edge) (loaded_all κ.before m B.members) (κ.before bk.target.signal)) i
      ∙ ap₂ (λ (x y : Bool). pick bk.resets x y)
      (reset_at B.members i B.leader (in_bank n c f e).inside ∙ ap (λ (x : Member). reset_value x.flop.reset) (in_bank n c f e).is)
      (pick_at (κ.fires bk.clock B.leader.flop.edge) (loaded_all κ.before m B.members) (κ.before bk.target.signal) i
      ∙ ap₂ (λ (x y : Bool). pick (κ.fires bk.clock B.leader.flop.edge) x y)
      (loaded_at κ.before m B.members i B.leader (in_bank n c f e).inside ∙ ap (λ (x : Member). loaded_flop u x.flop (u x.flop.output)) (in_bank n c f e).is)
      (ap (λ (s : ℕ). get_or (κ.before s) i false) target ∙ sym now))
      ∙ ap₂ (λ (x y : Bool). pick x (reset_value f.reset) (pick y (loaded_flop u f (u f.output)) (u f.output)))
      (resets_are B.leader.flop bk.resets bk.resets_is ∙ mates_reset u B.leader.flop f mates)
      (fires B.leader.flop.clock bk.clock bk.clock_is B.leader.flop.edge ∙ ap₂ (λ (x : Bit) (y : ℕ). on x y) mates.clock mates.edge)
    where
      member_there : (ms : List Member) (j : ℕ) (d : Member) → j < length ms → Mem (get_or ms j d) ms
      member_there [] j d l = absurd (not-suc-le-zero l)
      member_there (x ∷ ms) zero d l = here refl
      member_there (x ∷ ms) (suc j) d l = there (member_there ms j d (omega arith))

  -- EVERY CELL

  cell_next : (on : Bit → ℕ → Bool) → Fires on → AllBanked κ m z (collect_flip_flop_banks n.cells) → (c : ℕ) (x : Cell) (ws : List ℕ) → get_or n.cells c absent ≡ x → FitsCell limits x → length ws ≡ word_signals x → Does κ m z x ws
      → registers_of κ.next m x ws ≡ next on u x (registers_of κ.before m x ws)
  cell_next on fires banked c (lut4 i o t) ws e f k d = refl
  cell_next on fires banked c (pfumx t g s o) ws e f k d = refl
  cell_next on fires banked c (l6mux21 g t s o) ws e f k d = refl
  cell_next on fires banked c (ccu2c y) ws e f k d = refl
  cell_next on fires banked c (multiplier l r p) ws e f k d = refl
  cell_next on fires banked c (flip_flop g) ws e f k d = ap (λ (b : Bool). record { flop = b; words = []; read_a = []; read_b = [] }) (flop_next on fires banked c g e)
  cell_next on fires banked c (block_ram r) ws e f k d = ram_next κ m z zero_is one_is limits r ws f k d (on r.clock r.edge) (fires r.clock d.clock d.clock_is r.edge)
  cell_next on fires banked c (distributed_ram r) ws e f k d = dram_next κ m z zero_is one_is limits r ws f k d (on r.clock r.edge) (fires r.clock d.clock d.clock_is r.edge)
  cell_next on fires banked c (io p g i t) ws e f k d = refl
  cell_next on fires banked c (jtagg o) ws e f k d = refl
  cell_next on fires banked c (pll p) ws e f k d = refl

  all_next : (on : Bit → ℕ → Bool) (xs : List Cell) (ws : List (List ℕ)) → Laid xs ws → ((i : ℕ) → i < length xs → registers_of κ.next m (get_or xs i absent) (get_or ws i []) ≡ next on u (get_or xs i absent) (registers_of κ.before m (get_or xs i absent) (get_or ws i [])))
      → registers_all κ.next m xs ws ≡ commit on u xs (registers_all κ.before m xs ws)
  all_next on [] [] h f = refl
  all_next on [] (w ∷ ws) h f = absurd h
  all_next on (x ∷ xs) [] h f = absurd h
  all_next on (x ∷ xs) (w ∷ ws) h f = ap₂ (λ (y : Registers) (l : List Registers). y ∷ l) (f 0 (omega arith)) (all_next on xs ws h.1 (λ i l. f (suc i) (omega arith)))

  -- the registers after a commit are those that the tick rule gives
  pub committed : (on : Bit → ℕ → Bool) → Fires on → (words : List (List ℕ)) → Laid n.cells words → AllDo κ m z n.cells words → AllBanked κ m z (collect_flip_flop_banks n.cells)
      → registers_all κ.next m n.cells words ≡ commit on u n.cells (registers_all κ.before m n.cells words)
  committed on fires words laid do_all banked =
      all_next on n.cells words laid (λ c h.
      cell_next on fires banked c (get_or n.cells c absent) (get_or words c []) refl (each_at (FitsCell limits) n.cells c absent a.fits.cells h) (laid_at n.cells words c laid h) (does_at κ m z n.cells words c do_all h))
