-- One tick of the model is one tick of the cells.
-- Assumes nothing.
use mathlib.Core.Path.{◌≡◌, refl, ap, ap₂, sym, ◌∙◌, subst, fun_ext}
use mathlib.Core.Bool.{Bool, true, false, ◌&&◌}
use mathlib.Core.List.{List, [], ◌∷◌, ◌++◌, map, append_assoc}
use Rattle.std.specs.Prelude.{Option, None, Some}
use Prim.Native.Nat.{ℕ, suc, ◌≤◌, ◌<◌}
use native.Mathlib.Omega.{arith}
use native.Mathlib.Decide.{ℕ_discrete}
use lib.Dec.{eqb}
use lib.ListN.{length, get_or, take, drop, length-map}
use borrow.Author.Tests.{eq-eqb, ne_eqb}
use Rattle.bits.specs.Bits.{pick, Bits}
use Rattle.settle.specs.Table.{at}
use Rattle.netlist.specs.declared.Bit.{Bit}
use Rattle.netlist.specs.declared.Bit.TheVariants.{Zero, One, Wire}
use Rattle.netlist.specs.declared.Limits.{Limits}
use Rattle.netlist.specs.Netlist.{SecondPort, Port, Netlist, Cell, lut4, pfumx, l6mux21, ccu2c, multiplier, flip_flop, block_ram, distributed_ram, io, jtagg, pll}
use Rattle.recorder.specs.Record.{Signal, Model}
use Rattle.recorder.specs.Evaluate.{Signals}
use Rattle.behaviour.specs.Banks.{Member, outputs_of, collect_flip_flop_banks}
use Rattle.behaviour.specs.WireMap.{Source, inputs, Slot, WireRef, find, signal_in, clock_signal, slots}
use Rattle.behaviour.specs.Behaviour.{Valuation, Registers, is_signal, on_fired, absent, settle, commit, NoWireLoop}
use Rattle.simulation.specs.Tick.{Firing, assigns, set_inputs, tick}
use Rattle.simulation.specs.Tick.{settle as settle_model, commit as commit_model}
use Rattle.simulation.specs.Run.{firing}
use Rattle.simulation.specs.Sound.{drivers, Sound}
use Rattle.simulation.proofs.Settles.{settle_settled}
use Rattle.wires.specs.Wires.{Wires, WireRef as Ref}
use Rattle.lowering.specs.Lower.{allowed}
use Rattle.meaning.specs.Held.{ref_bit, held}
use Rattle.meaning.specs.Settles.{Tick, RegOn}
use Rattle.meaning.specs.Mapped.{LabelFits, no_slot, port_signals}
use Rattle.meaning.specs.Runs.{Laid}
use Rattle.meaning.proofs.BitReads.{IsSignal}
use Rattle.meaning.proofs.Equations.{some_is, Shown}
use Rattle.meaning.proofs.Memories.{Updated, ReadPort, SecondRead, PortValue}
use Rattle.meaning.proofs.Whole.{Does, Runs, model_runs}
use Rattle.forms.specs.Acts.{aim, netlist_words}
use Rattle.forms.specs.Lowered.{lowered_model, Lowered, Roomy}
use Rattle.meaning.proofs.Placing.{located}
use Rattle.forms.proofs.Slots.{ports_first, ports_within, bank_slot_lem}
use Rattle.forms.proofs.Counting.{no_signal, kept, mapping, slot_signals, signals_are, slot_fits, slots_within, wire_at, bank_is, leader_first, leader_there}
use Rattle.forms.proofs.Sounds.{lowered_sound, drivers_are}
use Rattle.equivalence.specs.Settled.{Settling, tick_of}
use Rattle.equivalence.specs.Registers.{bits_of, read_of, second_read, registers_of, registers_all}
use Rattle.equivalence.specs.Demand.{fired_by}
use Rattle.equivalence.proofs.Holding.{given_none, all_hold, commit_keeps, settle_keeps, register_free}
use Rattle.equivalence.proofs.Loops.{no_loops, deps_under}
use Rattle.equivalence.proofs.Driving.{InputsHold, does_at, wires_settled}
use Rattle.equivalence.proofs.Committing.{in_bank, banked_at, outputs_at, Fires, committed}
use Rattle.equivalence.proofs.Inputs.{not_input_kept, input_set}

eqb_same : (x y : ℕ) → eqb x y ≡ eqb y x
eqb_same x y = go (ℕ_discrete x y)
  where
    go : Dec (x ≡ y) → eqb x y ≡ eqb y x
    go (yes e) = eq-eqb x y e ∙ sym (eq-eqb y x (sym e))
    go (no e) = ne_eqb x y e ∙ sym (ne_eqb y x (λ q. e (sym q)))

module _ {shared : ℕ} {limits : Limits} {n : Netlist} (a : Lowered shared limits n) {widest : ℕ} (r : Roomy limits widest) where
  abbrev M : Model
  M = lowered_model shared n

  abbrev m : Wires
  m = a.wires

  sound : Sound widest (lowered_model shared n)
  sound = lowered_sound a r

  abbrev κ : Settling (lowered_model shared n) → Tick
  κ = tick_of (lowered_model shared n)

  -- what lowering decided, and what every settled state does
  pub runs : Runs (tick_of (lowered_model shared n)) n a.wires
  runs = model_runs shared limits n a.fits.cells a.wires a.reserved (tick_of (lowered_model shared n)) a.ended (λ k. all_hold sound k)

  -- REGISTERS STAND ON REGISTER SIGNALS

  module _ (k : Settling (lowered_model shared n)) (τ ρ : Signals) (alike : (s : ℕ) → RegOn (tick_of (lowered_model shared n) k) s → τ s ≡ ρ s) where
    words_alike : (width aw : ℕ) (x : PortValue) (y : Option PortValue) (clock edge i : ℕ) (ws : List ℕ) → Updated (κ k) width aw x y clock edge i ws → map (bits_of τ width) ws ≡ map (bits_of ρ width) ws
    words_alike width aw x y clock edge i [] h = refl
    words_alike width aw x y clock edge i (w ∷ ws) h =
        ap₂ (λ (b : Bits) (l : List Bits). b ∷ l) (ap (λ (v : Bits). Rattle.bits.specs.Bits.window v 0 width) (alike w h.0.registered)) (words_alike width aw x y clock edge (suc i) ws h.1)

    read_alike : (width aw : ℕ) (x : PortValue) (y : Option PortValue) (outputs : List ℕ) (o c : Option Rattle.netlist.specs.declared.Control.Control) (bits : Bits) (ws : List ℕ) (clock edge : ℕ)
        → ReadPort (κ k) m runs.constants width aw x y outputs o c bits ws clock edge → read_of τ m width (get_or outputs 0 0) ≡ read_of ρ m width (get_or outputs 0 0)
    read_alike width aw x y outputs o c bits ws clock edge p =
        let s : aim (m (get_or outputs 0 0)) ≡ p.target.signal = ap aim p.target_is in
        ap (λ (t : ℕ). bits_of τ width t) s ∙ ap (λ (v : Bits). Rattle.bits.specs.Bits.window v 0 width) (alike p.target.signal p.registered) ∙ ap (λ (t : ℕ). bits_of ρ width t) (sym s)

    second_alike : (width aw shift : ℕ) (x : PortValue) (y : Option PortValue) (o : Option SecondPort) (ws : List ℕ) (clock edge : ℕ) → SecondRead (κ k) m runs.constants width aw shift x y o ws clock edge → second_read τ m width o ≡ second_read ρ m width o
    second_alike width aw shift x y None ws clock edge h = refl
    second_alike width aw shift x y (Some p) ws clock edge h = read_alike width aw x y p.output p.read_enable p.clock_enable _ ws clock edge h

    flop_alike : (c : ℕ) (f : Rattle.netlist.specs.Netlist.FlipFlop) → get_or n.cells c absent ≡ flip_flop f → held τ m f.output ≡ held ρ m f.output
    flop_alike c f e =
        let b = in_bank n c f e in
        let p = bank_slot_lem n b.bank b.one_of in
        let first = (bank_is a b.bank b.one_of).first in
        let bk = banked_at (κ k) m runs.constants (collect_flip_flop_banks n.cells) (runs.banks_do k) b.bank b.one_of in
        let long : b.place < length (outputs_of b.bank.members) = omega (arith, b.inside, length-map b.bank.members (λ (x : Member). x.flop.output)) in
        let mine : m f.output ≡ Some (record { signal = p.number; lsb = b.place; width = length (outputs_of b.bank.members) }) =
        ap m (sym (outputs_at b.bank.members b.place b.bank.leader b.inside ∙ ap (λ (x : Member). x.flop.output) b.is)) ∙ wire_at a _ (outputs_of b.bank.members) p b.place long in
        let leads : m b.bank.leader.flop.output ≡ Some (record { signal = p.number; lsb = 0; width = length (outputs_of b.bank.members) }) = ap m (sym (leader_first a b.bank first)) ∙ wire_at a _ (outputs_of b.bank.members) p 0 (leader_there a b.bank first) in
        let target : bk.target.signal ≡ p.number = ap (λ (x : Ref). x.signal) (some_is bk.target (record { signal = p.number; lsb = 0; width = length (outputs_of b.bank.members) }) (sym bk.target_is ∙ leads)) in
        ap (ref_bit τ) mine ∙ ap (λ (v : Bits). get_or v b.place false) (alike p.number (subst (RegOn (κ k)) target bk.registered)) ∙ sym (ap (ref_bit ρ) mine)

    cell_alike : (c : ℕ) (x : Cell) (ws : List ℕ) → get_or n.cells c absent ≡ x → Does (κ k) m runs.constants x ws → registers_of τ m x ws ≡ registers_of ρ m x ws
    cell_alike c (lut4 i o t) ws e d = refl
    cell_alike c (pfumx t f s o) ws e d = refl
    cell_alike c (l6mux21 f t s o) ws e d = refl
    cell_alike c (ccu2c u) ws e d = refl
    cell_alike c (multiplier x y p) ws e d = refl
    cell_alike c (flip_flop f) ws e d = ap (λ (b : Bool). record { flop = b; words = []; read_a = []; read_b = [] }) (flop_alike c f e)
    cell_alike c (block_ram x) ws e d =
        let p = words_alike _ _ _ _ _ _ 0 ws d.updated in
        let q = read_alike _ _ _ _ x.output x.read_enable x.clock_enable _ ws _ _ d.first in
        let s = second_alike _ _ _ _ _ x.second ws _ _ d.second_port in
        λ i. record { flop = false; words = p i; read_a = q i; read_b = s i }
    cell_alike c (distributed_ram x) ws e d = ap (λ (l : List Bits). record { flop = false; words = l; read_a = []; read_b = [] }) (words_alike _ _ _ _ _ _ 0 ws d.updated)
    cell_alike c (io p f i t) ws e d = refl
    cell_alike c (jtagg o) ws e d = refl
    cell_alike c (pll p) ws e d = refl

    all_alike : (xs : List Cell) (ws : List (List ℕ)) → Laid xs ws → ((i : ℕ) → i < length xs → registers_of τ m (get_or xs i absent) (get_or ws i []) ≡ registers_of ρ m (get_or xs i absent) (get_or ws i [])) → registers_all τ m xs ws ≡ registers_all ρ m xs ws
    all_alike [] [] h f = refl
    all_alike [] (w ∷ ws) h f = absurd h
    all_alike (x ∷ xs) [] h f = absurd h
    all_alike (x ∷ xs) (w ∷ ws) h f = ap₂ (λ (y : Registers) (l : List Registers). y ∷ l) (f 0 (omega arith)) (all_alike xs ws h.1 (λ i l. f (suc i) (omega arith)))

    registers_alike : registers_all τ m n.cells runs.words ≡ registers_all ρ m n.cells runs.words
    registers_alike = all_alike n.cells runs.words runs.laid (λ c h. cell_alike c (get_or n.cells c absent) (get_or runs.words c []) refl (does_at (κ k) m runs.constants n.cells runs.words c (runs.cells_do k) h))

  -- CLOCKS

  clock_fires : (k : Settling (lowered_model shared n)) (f : Option (ℕ × ℕ)) → k.fires ≡ firing f → Fires a (κ k) runs.constants (runs.zero_is k) (runs.one_is k) (on_fired (slots n) (fired_by f))
  clock_fires k f e b s h d = ap (λ (g : Firing). g s d) e ∙ go f
    where
      clock_is : (b : Bit) → IsSignal m runs.constants b s → clock_signal (slots n) b ≡ Some s
      clock_is Zero q = ap Some (sym (q ∙ runs.zero_number))
      clock_is One q = ap Some (sym (q ∙ runs.one_number))
      clock_is (Wire w) q = ap signal_in (located n m (slot_signals a) (mapping a) w (record { signal = s; lsb = 0; width = 1 }) q.alone).found

      go : (f : Option (ℕ × ℕ)) → firing f s d ≡ on_fired (slots n) (fired_by f) b d
      go None = refl
      go (Some x) = ap₂ (λ (p q : Bool). p && q) (eqb_same x.0 s) (eqb_same x.1 d) ∙ ap (λ (o : Option ℕ). is_signal o x.0 && eqb d x.1) (sym (clock_is b h))

  -- INPUTS

  pub all_signals : (lowered_model shared n).signals ≡ port_signals 0 n.ports ++ ((kept a).more ++ netlist_words n)
  unfolding slot_signals
  all_signals = signals_are a ∙ append_assoc (port_signals 0 n.ports) (kept a).more (netlist_words n)

  inputs_set : (bs : Bits) (t : List Bits) → length t ≡ length M.signals → InputsHold n (at [] (set_inputs M.signals bs t)) bs
  inputs_set bs t l = record {
    input_is = λ s k h e.
        let q : get_or (slots n) s no_slot ≡ get_or (Rattle.behaviour.specs.WireMap.port_slots n.ports 0) s no_slot = ports_first n s h in
        ap (λ (ss : List Signal). get_or (set_inputs ss bs t) s []) all_signals
        ∙ input_set n.ports 0 0 ((kept a).more ++ netlist_words n) bs t s k (l ∙ ap length all_signals) h (ap (λ (x : Slot). x.source) (sym q) ∙ e)
        ∙ ap (λ (x : Slot). take (length x.bits) (drop k bs)) (sym q);
  }

  -- an input has no statement
  input_free : (s k : ℕ) → s < length n.ports → (get_or (slots n) s no_slot).source ≡ inputs k → (s < length M.signals) × (drivers (lowered_model shared n) s ≡ 0)
  input_free s k h e =
      let i : s < length (slots n) = omega (arith, h, ports_within n) in
      let j : s < length M.signals = omega (arith, i, slots_within a) in
      let f : (get_or M.signals s no_signal).label ≡ 0 = subst (λ (x : Source). LabelFits x (get_or M.signals s no_signal).label) e (slot_fits a s i).label in
      (j, drivers_are a r s j ∙ ap {B = ℕ} (λ (b : Bool). pick b 0 1) (eq-eqb (get_or M.signals s no_signal).label 0 f))

  inputs_move : (σ τ : Signals) (bs : Bits) → ((s : ℕ) → s < length M.signals → drivers (lowered_model shared n) s ≡ 0 → τ s ≡ σ s) → InputsHold n σ bs → InputsHold n τ bs
  inputs_move σ τ bs f h = record { input_is = λ s k l e. let q = input_free s k l e in f s q.0 q.1 ∙ h.input_is s k l e }

  -- a register is no input
  register_kept : (k : Settling (lowered_model shared n)) (bs : Bits) (t : List Bits) → length t ≡ length M.signals → (s : ℕ) → RegOn (κ k) s → at [] (set_inputs M.signals bs t) s ≡ at [] t s
  register_kept k bs t l s h =
      let q = register_free sound h.statement s h.one_of h.register in
      not_input_kept M.signals bs t s l q.1 (no_label (eqb (get_or M.signals s no_signal).label 0) refl (omega (arith, q.2, drivers_are a r s q.1)))
    where
      no_label : (b : Bool) → eqb (get_or M.signals s no_signal).label 0 ≡ b → 1 ≤ allowed (get_or M.signals s no_signal) → eqb (get_or M.signals s no_signal).label 0 ≡ false
      no_label false e l = e
      no_label true e l = absurd (omega (arith, l, ap {B = ℕ} (λ (x : Bool). pick x 0 1) e))

  -- ONE TICK

  module _ (loopless : NoWireLoop n) (bs : Bits) (f : Option (ℕ × ℕ)) (t : List Bits) (long : length t ≡ length (lowered_model shared n).signals) where
    abbrev t₁ : List Bits
    t₁ = set_inputs (lowered_model shared n).signals bs t

    abbrev k₂ : Settling (lowered_model shared n)
    k₂ = record { old = set_inputs (lowered_model shared n).signals bs t; state = settle_model (lowered_model shared n) (set_inputs (lowered_model shared n).signals bs t); settled = settle_settled (lowered_model shared n) (set_inputs (lowered_model shared n).signals bs t) (deps_under a r loopless) (no_loops a r loopless); fires = firing f }

    abbrev t₃ : List Bits
    t₃ = commit_model (lowered_model shared n) (firing f) (settle_model (lowered_model shared n) (set_inputs (lowered_model shared n).signals bs t))

    abbrev k₄ : Settling (lowered_model shared n)
    k₄ = record { old = commit_model (lowered_model shared n) (firing f) (settle_model (lowered_model shared n) (set_inputs (lowered_model shared n).signals bs t)); state = settle_model (lowered_model shared n) (commit_model (lowered_model shared n) (firing f) (settle_model (lowered_model shared n) (set_inputs (lowered_model shared n).signals bs t))); settled = settle_settled (lowered_model shared n) (commit_model (lowered_model shared n) (firing f) (settle_model (lowered_model shared n) (set_inputs (lowered_model shared n).signals bs t))) (deps_under a r loopless) (no_loops a r loopless); fires = λ c d. false }

    abbrev regs_of : Signals → List Registers
    regs_of σ = registers_all σ a.wires n.cells runs.words

    abbrev v₂ : Valuation
    v₂ = held (at [] k₂.state) a.wires

    -- an unassigned signal keeps its bits in settling
    free_kept : (k : Settling (lowered_model shared n)) (s : ℕ) → s < length M.signals → drivers (lowered_model shared n) s ≡ 0 → at [] k.state s ≡ at [] k.old s
    free_kept k s h e = settle_keeps sound k s h (given_none assigns M.stmts s e)

    reg_kept : (k : Settling (lowered_model shared n)) (s : ℕ) → RegOn (κ k) s → at [] k.state s ≡ at [] k.old s
    reg_kept k s h = let q = register_free sound h.statement s h.one_of h.register in settle_keeps sound k s q.1 q.0

    before_is : regs_of (at [] k₂.state) ≡ regs_of (at [] t)
    before_is = registers_alike k₂ (at [] k₂.state) (at [] t) (λ s h. reg_kept k₂ s h ∙ register_kept k₂ bs t long s h)

    after_is : regs_of (at [] k₄.state) ≡ regs_of (at [] t₃)
    after_is = registers_alike k₄ (at [] k₄.state) (at [] t₃) (λ s h. reg_kept k₄ s h)

    in₂ : InputsHold n (at [] k₂.state) bs
    in₂ = inputs_move (at [] t₁) (at [] k₂.state) bs (λ s h e. free_kept k₂ s h e) (inputs_set bs t long)

    in₄ : InputsHold n (at [] k₄.state) bs
    in₄ = inputs_move (at [] k₂.state) (at [] k₄.state) bs (λ s h e. free_kept k₄ s h e ∙ commit_keeps sound k₂ s h e) in₂

    settled₂ : v₂ ≡ settle (slots n) n.cells bs (regs_of (at [] t))
    settled₂ = fun_ext (wires_settled a κ runs k₂ bs in₂ loopless) ∙ ap (settle (slots n) n.cells bs) before_is

    -- the registers after the tick
    pub registers_after : regs_of (at [] (tick (lowered_model shared n) bs (firing f) t)) ≡ commit (on_fired (slots n) (fired_by f)) (settle (slots n) n.cells bs (regs_of (at [] t))) n.cells (regs_of (at [] t))
    unfolding tick
    registers_after =
        after_is
        ∙ committed a (κ k₂) runs.constants (runs.zero_is k₂) (runs.one_is k₂) (on_fired (slots n) (fired_by f)) (clock_fires k₂ f refl) runs.words runs.laid (runs.cells_do k₂) (runs.banks_do k₂)
        ∙ ap₂ (λ (v : Valuation) (l : List Registers). commit (on_fired (slots n) (fired_by f)) v n.cells l) settled₂ before_is

    -- the wires after the tick
    pub wires_after : held (at [] (tick (lowered_model shared n) bs (firing f) t)) a.wires ≡ settle (slots n) n.cells bs (regs_of (at [] (tick (lowered_model shared n) bs (firing f) t)))
    unfolding tick
    wires_after = fun_ext (wires_settled a κ runs k₄ bs in₄ loopless)

    pub ports_after : Shown (at [] (tick (lowered_model shared n) bs (firing f) t)) a.wires 0 n.ports
    unfolding tick
    ports_after = runs.outputs_show k₄
