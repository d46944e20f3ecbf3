-- Demand 3 and each call's answer, by induction over the list: the signal bytes hold what the cells hold.
-- Assumes nothing.
use mathlib.Core.Path.{◌≡◌, refl, ap, ap₂, sym, ◌∙◌, subst}
use mathlib.Core.Bool.{Bool, true, false, ◌&&◌}
use mathlib.Core.List.{List, [], ◌∷◌, ◌++◌, map}
use Rattle.std.specs.Prelude.{Option, None, Some}
use Prim.Native.Nat.{ℕ, zero, suc, ◌+◌, ◌≤◌, ◌<◌}
use native.Mathlib.Omega.{arith}
use lib.ListN.{length, get_or, take, drop, replicate, length-append, length-replicate, length-map, length-take}
use lib.Seq.{get_or-append-add, drop_at}
use borrow.Author.Tests.{ne_eqb}
use Rattle.bits.specs.Bits.{pick, Bits, digit, window, flat}
use Rattle.settle.specs.Table.{at}
use Rattle.netlist.specs.declared.Limits.{Limits}
use Rattle.netlist.specs.Netlist.{SecondPort, Netlist, Cell, lut4, pfumx, l6mux21, ccu2c, multiplier, flip_flop, block_ram, distributed_ram, io, jtagg, pll}
use Rattle.netlist.specs.Reader.{netlist, read_words}
use Rattle.netlist.specs.Shape.{Each}
use Rattle.recorder.specs.Record.{Signal, Model}
use Rattle.recorder.specs.Evaluate.{Signals}
use Rattle.recorder.specs.Lists.{Lists}
use Rattle.recorder.specs.Words.{words_of}
use Rattle.recorder.proofs.Roundtrip.{model_read}
use Rattle.wires.specs.Wires.{Wires, WireRef as Ref}
use Rattle.lowering.specs.Lower.{Accepted, lowered, lowered_read}
use Rattle.behaviour.specs.WireMap.{slots, word_signals}
use Rattle.behaviour.specs.WireMap.{tick_bits as port_bits}
use Rattle.behaviour.specs.Behaviour.{Registers, State, zeros, initial, start, tick, settled_by, committed_by, values, output_ports, accepts, NoWireLoop, absent}
use Rattle.simulation.specs.Tick.{tick as tick_model}
use Rattle.simulation.specs.Run.{Call, call_model, total, input_width, signal_bytes, per_signal, is_one, firing, verdict, refusal, answer, run, state_after, bytes_after, ticked}
use Rattle.simulation.specs.Run.{tick_bits as input_bits}
use Rattle.simulation.specs.Kept.{Fits, AllBits}
use Rattle.simulation.proofs.Sound.{sound_words}
use Rattle.simulation.proofs.Kept.{fits_cut, flat_length, accepted_good, after_fits, length_kept, bytes_are_bits, left_behind, refused_keeps}
use Rattle.meaning.specs.Held.{ref_bit, held}
use Rattle.meaning.specs.Mapped.{LabelFits, no_slot, port_signals}
use Rattle.meaning.specs.Runs.{Laid}
use Rattle.memories.specs.Memories.{word_signal}
use Rattle.forms.specs.Acts.{aim, cell_words, all_words, netlist_words}
use Rattle.forms.specs.Lowered.{lowered_model, Lowered, Roomy}
use Rattle.forms.proofs.Slots.{Late, of_cell, of_bank, slot_late}
use Rattle.forms.proofs.Counting.{no_signal, kept, slot_signals, slot_count, slot_signal, signals_count, slot_fits, ports_long}
use Rattle.forms.proofs.Suiting.{each_from}
use Rattle.forms.proofs.Sounds.{lowered_sound, each_append, each_same}
use Rattle.equivalence.specs.Registers.{bits_of, read_of, second_read, registers_of, registers_all}
use Rattle.equivalence.specs.Demand.{tick_by, made, after, ByCells, bytes_of, shown_by_cells, Agrees, done, refused, AllAgree, answer_to, Answered, Fresh, Always, Demand3, AllAnswered, AllEnough, outputs_shown, SharingShowsTheSame, BehindKept}
use Rattle.simulation.specs.Shown.{Entry, entry_call, shown_bytes, ByModel, shown_by_model}
use Rattle.equivalence.proofs.Loops.{never_looped}
use Rattle.equivalence.proofs.Inputs.{port_bits_lem, total_append}
use Rattle.equivalence.proofs.Ticking.{runs, all_signals, registers_after, wires_after, ports_after}
use Rattle.equivalence.proofs.Acceptance.{read_fits, accepted_kept, used_words, is_lowered}
use Rattle.equivalence.proofs.Answering.{Tested, passes, fails, refusal_is, answer_tested}
use Rattle.equivalence.proofs.Shows.{shown_bits, BitsIn, bytes_shown, bits_pass, NoneShown, ports_shown, Same, same_split, zero_bytes, zeros_fresh, zero_bits, zeros_shown}

fits_long : (ss : List Signal) (t : List Bits) → Fits ss t → length t ≡ length ss
fits_long [] [] h = refl
fits_long [] (v ∷ t) h = absurd h
fits_long (s ∷ ss) [] h = absurd h
fits_long (s ∷ ss) (v ∷ t) h = ap suc (fits_long ss t h.1)

-- ZEROS

abbrev AllFalse : List Bits → Type 0
AllFalse t = (s i : ℕ) → get_or (get_or t s []) i false ≡ false

same_false : (k : ℕ) (bs : Bits) → Same false k bs → (i : ℕ) → get_or (take k bs) i false ≡ false
same_false k bs h i = ap (λ (l : Bits). get_or l i false) h ∙ all_same k i
  where
    all_same : (k i : ℕ) → get_or (replicate k false) i false ≡ false
    all_same zero i = refl
    all_same (suc k) zero = refl
    all_same (suc k) (suc i) = all_same k i

all_false : (ss : List Signal) (bs : Bits) → Same false (total (λ (s : Signal). s.width) ss) bs → AllFalse (per_signal ss bs)
all_false [] bs h s i = refl
all_false (x ∷ ss) bs h zero i = same_false x.width bs (same_split false x.width (total (λ (s : Signal). s.width) ss) bs h).0 i
all_false (x ∷ ss) bs h (suc s) i = all_false ss (drop x.width bs) (same_split false x.width (total (λ (s : Signal). s.width) ss) bs h).1 s i

window_false : (v : Bits) (l w : ℕ) → ((i : ℕ) → get_or v i false ≡ false) → window v l w ≡ zeros w
window_false v l zero h = refl
window_false v l (suc w) h = ap₂ (λ (b : Bool) (r : Bits). b ∷ r) (h l) (window_false v (suc l) w h)

module _ (σ : Signals) (m : Wires) (none_set : (s i : ℕ) → get_or (σ s) i false ≡ false) where
  held_false : (w : ℕ) → false ≡ held σ m w
  held_false w = go (m w)
    where
      go : (o : Option Ref) → false ≡ ref_bit σ o
      go None = refl
      go (Some r) = sym (none_set r.signal r.lsb)

  words_false : (width k : ℕ) (ws : List ℕ) → length ws ≡ k → replicate k (zeros width) ≡ map (bits_of σ width) ws
  words_false width zero [] e = refl
  words_false width zero (w ∷ ws) e = absurd (omega (arith, e))
  words_false width (suc k) [] e = absurd (omega (arith, e))
  words_false width (suc k) (w ∷ ws) e = ap₂ (λ (a : Bits) (l : List Bits). a ∷ l) (sym (window_false (σ w) 0 width (none_set w))) (words_false width k ws (omega (arith, e)))

  read_false : (width w : ℕ) → zeros width ≡ read_of σ m width w
  read_false width w = sym (window_false (σ (aim (m w))) 0 width (none_set (aim (m w))))

  second_false : (width : ℕ) (o : Option SecondPort) → zeros width ≡ second_read σ m width o
  second_false width None = refl
  second_false width (Some p) = read_false width (get_or p.output 0 0)

  cell_initial : (x : Cell) (ws : List ℕ) → length ws ≡ word_signals x → initial x ≡ registers_of σ m x ws
  cell_initial (lut4 i o t) ws e = refl
  cell_initial (pfumx t f s o) ws e = refl
  cell_initial (l6mux21 f t s o) ws e = refl
  cell_initial (ccu2c u) ws e = refl
  cell_initial (multiplier l r p) ws e = refl
  cell_initial (flip_flop f) ws e = ap (λ (b : Bool). record { flop = b; words = []; read_a = []; read_b = [] }) (held_false f.output)
  cell_initial (block_ram r) ws e =
      let p = words_false r.width r.depth ws e in
      let q = read_false r.width (get_or r.output 0 0) in
      let s = second_false r.width r.second in
      λ i. record { flop = false; words = p i; read_a = q i; read_b = s i }
  cell_initial (distributed_ram r) ws e = ap (λ (l : List Bits). record { flop = false; words = l; read_a = []; read_b = [] }) (words_false 4 16 ws e)
  cell_initial (io p d i t) ws e = refl
  cell_initial (jtagg o) ws e = refl
  cell_initial (pll p) ws e = refl

  all_initial : (xs : List Cell) (ws : List (List ℕ)) → Laid xs ws → map initial xs ≡ registers_all σ m xs ws
  all_initial [] [] h = refl
  all_initial [] (w ∷ ws) h = absurd h
  all_initial (x ∷ xs) [] h = absurd h
  all_initial (x ∷ xs) (w ∷ ws) h = ap₂ (λ (y : Registers) (l : List Registers). y ∷ l) (cell_initial x w h.0) (all_initial xs ws h.1)

-- neither an input's label nor an output port's
abbrev Inner : List Signal → Type 0
Inner ss = Each (λ (s : Signal). 2 ≤ s.label) ss

inner_hidden : (ss : List Signal) → Inner ss → NoneShown ss
inner_hidden [] h = tt
inner_hidden (s ∷ ss) h = (ne_eqb s.label 1 (omega (arith, h.0)), inner_hidden ss h.1)

words_hidden : (c : ℕ) (xs : List Cell) → Inner (all_words c xs)
words_hidden c [] = tt
words_hidden c (x ∷ xs) = each_append (λ (s : Signal). 2 ≤ s.label) (cell_words c x) (all_words (suc c) xs) (go x) (words_hidden (suc c) xs)
  where
    go : (x : Cell) → Inner (cell_words c x)
    go (lut4 i o t) = tt
    go (pfumx t f s o) = tt
    go (l6mux21 f t s o) = tt
    go (ccu2c u) = tt
    go (multiplier l r p) = tt
    go (flip_flop f) = tt
    go (block_ram r) = each_same (λ (s : Signal). 2 ≤ s.label) r.depth (word_signal r.width c) (omega arith)
    go (distributed_ram r) = each_same (λ (s : Signal). 2 ≤ s.label) 16 (word_signal 4 c) (omega arith)
    go (io p d i t) = tt
    go (jtagg o) = tt
    go (pll p) = tt

-- THE INVARIANT

module _ {shared : ℕ} {limits : Limits} {n : Netlist} (a : Lowered shared limits n) {widest : ℕ} (r : Roomy limits widest) (loopless : NoWireLoop n) where
  abbrev M : Model
  M = lowered_model shared n

  abbrev rest : List Signal
  rest = (kept a).more ++ netlist_words n

  more_at : (i : ℕ) → i < length (kept a).more → 2 ≤ (get_or (kept a).more i no_signal).label
  unfolding slot_signals
  more_at i h =
      let s : ℕ = length n.ports + i in
      let k : length (port_signals 0 n.ports) ≡ length n.ports = ports_long 0 n.ports in
      let inside : length n.ports + i < length (slots n) = omega (arith, h, k, slot_count a, length-append (port_signals 0 n.ports) (kept a).more) in
      let is : get_or (slot_signals a) (length n.ports + i) no_signal ≡ get_or (kept a).more i no_signal = ap (λ (j : ℕ). get_or (port_signals 0 n.ports ++ (kept a).more) (j + i) no_signal) (sym k) ∙ get_or-append-add (port_signals 0 n.ports) (kept a).more i no_signal in
      let fits = slot_fits a (length n.ports + i) inside in
      let two : 2 ≤ (get_or (lowered_model shared n).signals (length n.ports + i) no_signal).label = late (length n.ports + i) (slot_late n (length n.ports + i) (omega arith) inside) fits.label in
      omega (arith, two, ap (λ (x : Signal). x.label) (slot_signal a (length n.ports + i) inside ∙ is))
    where
      late : (s : ℕ) {l : ℕ} → Late n (get_or (slots n) s no_slot) → LabelFits (get_or (slots n) s no_slot).source l → 2 ≤ l
      late s {l} (of_cell o) h = (subst (λ (x : Rattle.behaviour.specs.WireMap.Slot). LabelFits x.source l) o.of_group.is h).0
      late s {l} (of_bank b q e) h = (subst (λ (x : Rattle.behaviour.specs.WireMap.Slot). LabelFits x.source l) e h).0

  rest_inner : Inner rest
  rest_inner = each_append (λ (s : Signal). 2 ≤ s.label) (kept a).more (netlist_words n) (each_from a (λ (s : Signal). 2 ≤ s.label) no_signal (kept a).more more_at) (omega arith, (omega arith, words_hidden 0 n.cells))

  rest_hidden : NoneShown rest
  rest_hidden = inner_hidden rest rest_inner

  abbrev state_of : List ℕ → List Bits
  state_of bytes = per_signal (lowered_model shared n).signals (map is_one bytes)

  abbrev regs_of : List Bits → List Registers
  regs_of t = registers_all (at [] t) a.wires n.cells (runs a r).words

  record Good (bytes : List ℕ) (S : State) : Type 0 where
    long : signal_bytes (lowered_model shared n) ≤ length bytes
    bits : BitsIn (signal_bytes (lowered_model shared n)) bytes
    regs : S.registers ≡ regs_of (state_of bytes)
    shows : shown_bytes (lowered_model shared n).signals bytes ≡ bytes_of S.outputs

  -- the start
  at_start : (bytes : List ℕ) → Fresh (signal_bytes (lowered_model shared n)) bytes → Good bytes (start n)
  at_start bytes h = record {
    long = let z = length-take (signal_bytes (lowered_model shared n)) bytes in let y = length-replicate {A = ℕ} (signal_bytes (lowered_model shared n)) 0 in omega (arith, ap length h, z, y);
    bits = let k = signal_bytes (lowered_model shared n) in subst AllBits (zeros_fresh k k (omega arith) ∙ sym h) (zero_bytes k k);
    regs = all_initial (at [] (state_of bytes)) a.wires (all_false M.signals (map is_one bytes) (zero_bits (signal_bytes (lowered_model shared n)) bytes h)) n.cells (runs a r).words (runs a r).laid;
    shows = ap (λ (ss : List Signal). shown_bytes ss bytes) (all_signals a r) ∙ zeros_shown n.ports 0 rest bytes (subst (λ (ss : List Signal). Same {A = ℕ} 0 (total (λ (s : Signal). s.width) ss) bytes) (all_signals a r) h) rest_hidden;
  }

  -- as many tick bits as the input ports have
  hidden_inputs : (ss : List Signal) → Inner ss → total input_width ss ≡ 0
  hidden_inputs [] h = refl
  hidden_inputs (s ∷ ss) h = ap (λ (b : Bool). pick b s.width 0 + total input_width ss) (ne_eqb s.label 0 (omega (arith, h.0))) ∙ omega (arith, hidden_inputs ss h.1)

  -- THE STEP

  module _ (bytes : List ℕ) (S : State) (g : Good bytes S) (e : Entry) where
    abbrev c : Call
    c = entry_call (words_of (lowered_model shared n)) bytes e

    model_is : call_model (entry_call (words_of (lowered_model shared n)) bytes e) ≡ lowered_model shared n
    model_is = model_read (lowered_model shared n)

    abbrev bytes' : List ℕ
    bytes' = (run widest (entry_call (words_of (lowered_model shared n)) bytes e)).bytes

    -- an accepted tick
    module _ (q : answer widest (entry_call (words_of (lowered_model shared n)) bytes e) ≡ None) where
      abbrev t : List Bits
      t = state_of bytes

      abbrev t' : List Bits
      t' = tick_model (lowered_model shared n) (map is_one e.ticks) (firing e.fired) (state_of bytes)

      state_is : state_of bytes' ≡ t'
      state_is = subst (λ (X : Model). per_signal X.signals (map is_one bytes') ≡ tick_model X (map is_one e.ticks) (firing e.fired) (per_signal X.signals (map is_one bytes))) model_is (left_behind widest c q)

      before_long : length (state_of bytes) ≡ length M.signals
      before_long = fits_long M.signals (state_of bytes) (fits_cut M.signals (map is_one bytes) (omega (arith, g.long, length-map bytes is_one)))

      after_long : length t' ≡ length M.signals
      after_long = ap length (sym state_is) ∙ fits_long M.signals (state_of bytes') (fits_cut M.signals (map is_one bytes') (omega (arith, g.long, length-map bytes' is_one, length_kept widest c)))

      bits_after : BitsIn (signal_bytes (lowered_model shared n)) bytes'
      bits_after = subst (λ (X : Model). AllBits (take (signal_bytes X) bytes')) model_is (bytes_are_bits widest c q)

      regs_after : (tick n S (tick_by e)).registers ≡ regs_of (state_of bytes')
      regs_after =
          ap (committed_by n (tick_by e)) g.regs
          ∙ sym (registers_after a r loopless (map is_one e.ticks) e.fired (state_of bytes) before_long)
          ∙ ap regs_of (sym state_is)

      shows_after : shown_bytes M.signals bytes' ≡ bytes_of (tick n S (tick_by e)).outputs
      shows_after =
          bytes_shown M.signals bytes' bits_after
          ∙ ap (λ (x : List Bits). bytes_of (shown_bits M.signals x)) state_is
          ∙ ap bytes_of
          (ap (λ (ss : List Signal). shown_bits ss t') (all_signals a r)
          ∙ ports_shown n.ports 0 rest t' (at [] t') a.wires (λ i. ap (at [] t') (let z : i ≡ 0 + i = omega arith in z)) (after_long ∙ ap length (all_signals a r)) rest_hidden (ports_after a r loopless (map is_one e.ticks) e.fired (state_of bytes) before_long)
          ∙ ap (λ (v : Rattle.behaviour.specs.Behaviour.Valuation). map (values v) (output_ports n.ports))
          (wires_after a r loopless (map is_one e.ticks) e.fired (state_of bytes) before_long ∙ ap (Rattle.behaviour.specs.Behaviour.settle (slots n) n.cells (map is_one e.ticks)) (ap regs_of (sym state_is) ∙ sym regs_after)))

      good_after : Good bytes' (tick n S (tick_by e))
      good_after = record { long = omega (arith, g.long, length_kept widest c); bits = bits_after; regs = regs_after; shows = shows_after }

    -- how the call ends
    answered : answer widest c ≡ answer_to (lowered_model shared n) e
    unfolding answer
    answered =
        ap (verdict (call_model c) c) (sound_words (lowered_model shared n) widest (lowered_sound a r))
        ∙ ap (λ (X : Model). refusal X c) model_is
        ∙ refusal_is (lowered_model shared n) (words_of (lowered_model shared n)) bytes e g.long (bits_pass 0 (take (signal_bytes (lowered_model shared n)) bytes) g.bits) (never_looped a r loopless)

    said : (run widest c).answer ≡ answer_to (lowered_model shared n) e
    unfolding run
    said = answered

    tested : Tested (answer widest c) (made shared n e)
    tested = subst (λ (o : Option (ℕ × ℕ)). Tested o (made shared n e)) (sym answered) (answer_tested n (lowered_model shared n) e tick_bits_lem (signals_count a))
      where
        tick_bits_lem : input_bits (lowered_model shared n) ≡ port_bits n.ports
        tick_bits_lem = ap (total input_width) (all_signals a r) ∙ total_append input_width (port_signals 0 n.ports) rest ∙ omega (arith, port_bits_lem 0 n.ports, hidden_inputs rest rest_inner)

    stepped : (o : Option (ℕ × ℕ)) (b : Bool) → Tested o b → answer widest c ≡ o → made shared n e ≡ b
        → Agrees (record { answer = (run widest c).answer; outputs = shown_bytes M.signals bytes' }) (record { made = made shared n e; outputs = bytes_of (after shared n S e).outputs }) × Good bytes' (after shared n S e)
    unfolding run
    stepped None false x q p = elim x [ ]
    stepped (Some x) true y q p = elim y [ ]
    stepped None true passes q p =
        let s : after shared n S e ≡ tick n S (tick_by e) = ap (λ (x : Bool). pick x (tick n S (tick_by e)) S) p in
        let k = good_after q in (
          subst (λ (x : ByModel). Agrees x (record { made = made shared n e; outputs = bytes_of (after shared n S e).outputs })) (λ i. record { answer = sym q i; outputs = (sym k.shows ∙ refl) i })
              (subst (λ (x : ByCells). Agrees (record { answer = None; outputs = bytes_of (tick n S (tick_by e)).outputs }) x) (λ i. record { made = sym p i; outputs = bytes_of (sym s i).outputs }) (done (bytes_of (tick n S (tick_by e)).outputs))),
          subst (Good bytes') (sym s) k,
        )
    stepped (Some x) false (fails number place why) q p =
        let s : after shared n S e ≡ S = ap (λ (y : Bool). pick y (tick n S (tick_by e)) S) p in
        let same : bytes' ≡ bytes = refused_keeps widest c (number, place) q in
        let k : Good bytes' S = subst (λ (l : List ℕ). Good l S) (sym same) g in (
          subst (λ (y : ByModel). Agrees y (record { made = made shared n e; outputs = bytes_of (after shared n S e).outputs })) (λ i. record { answer = sym q i; outputs = sym k.shows i })
              (subst (λ (y : ByCells). Agrees (record { answer = Some (number, place); outputs = bytes_of S.outputs }) y) (λ i. record { made = sym p i; outputs = bytes_of (sym s i).outputs }) (refused number place (bytes_of S.outputs) why)),
          subst (Good bytes') (sym s) k,
        )

  -- every call answers as said, and shows what the cells show
  abbrev Follow : List Entry → List ℕ → State → Type 0
  Follow es bytes S =
      let ms = shown_by_model widest (words_of (lowered_model shared n)) (lowered_model shared n).signals bytes es in
      AllAgree ms (shown_by_cells shared n S es) × Answered (lowered_model shared n) es ms

  all_follow : (es : List Entry) (bytes : List ℕ) (S : State) → Good bytes S → Follow es bytes S
  all_follow [] bytes S g = (tt, refl)
  all_follow (e ∷ es) bytes S g =
      let k = stepped bytes S g e (answer widest (entry_call (words_of (lowered_model shared n)) bytes e)) (made shared n e) (tested bytes S g e) refl refl in
      let f = all_follow es (run widest (entry_call (words_of (lowered_model shared n)) bytes e)).bytes (after shared n S e) k.1 in
      ((k.0, f.0), ap₂ (λ (o : Option (ℕ × ℕ)) (os : List (Option (ℕ × ℕ))). o ∷ os) (said bytes S g e) f.1)

both : Always (λ (shared : ℕ) (n : Netlist) (es : List Entry) (ms : List ByModel). AllAgree ms (shown_by_cells shared n (start n) es) × Answered (lowered_model shared n) es ms)
both shared limits widest room words s e t tapes l h n q loopless bytes fresh entries =
    let low : lowered shared n s e t ≡ record { answer = Accepted tapes; lists = l } = ap (λ (x : Rattle.netlist.specs.Reader.Read). lowered_read shared x s e t) (sym q) ∙ h in
    let k = accepted_kept shared n s e t tapes l low in
    let a = is_lowered shared limits n s e t tapes l (read_fits limits words n q) k in
    subst (λ (x : Lists). let ms = shown_by_model widest x (lowered_model shared n).signals bytes entries in AllAgree ms (shown_by_cells shared n (start n) entries) × Answered (lowered_model shared n) entries ms) (sym (used_words shared n s e t tapes l k))
    (all_follow a room loopless entries bytes (start n) (at_start a room loopless bytes fresh))

-- the statements
pub demand3 : Demand3
demand3 shared limits widest room words s e t tapes l h n q loopless bytes fresh entries = (both shared limits widest room words s e t tapes l h n q loopless bytes fresh entries).0

pub all_answered : AllAnswered
all_answered shared limits widest room words s e t tapes l h n q loopless bytes fresh entries = (both shared limits widest room words s e t tapes l h n q loopless bytes fresh entries).1

-- SHARED OR NOT: both models show what the cells show, and the cells share nothing

outputs_agree : (ms : List ByModel) (cs : List ByCells) → AllAgree ms cs → outputs_shown ms ≡ map (λ (c : ByCells). c.outputs) cs
outputs_agree [] [] h = refl
outputs_agree [] (c ∷ cs) h = absurd h
outputs_agree (m ∷ ms) [] h = absurd h
outputs_agree (m ∷ ms) (c ∷ cs) h = ap₂ (λ (o : List (List ℕ)) (os : List (List (List ℕ))). o ∷ os) (one m c h.0) (outputs_agree ms cs h.1)
  where
    one : (m : ByModel) (c : ByCells) → Agrees m c → m.outputs ≡ c.outputs
    one m c (done o) = refl
    one m c (refused number place o why) = refl

same_cells : (a b : ℕ) (n : Netlist) (S : State) (es : List Entry) → AllEnough (lowered_model a n) es → AllEnough (lowered_model b n) es → shown_by_cells a n S es ≡ shown_by_cells b n S es
same_cells a b n S [] h g = refl
same_cells a b n S (e ∷ es) h g =
    let p : made a n e ≡ made b n e = ap (λ (x : Bool). x && accepts n (tick_by e)) (h.0 ∙ sym g.0) in
    let s : after a n S e ≡ after b n S e = ap (λ (x : Bool). pick x (tick n S (tick_by e)) S) p in
    ap₂ (λ (c : ByCells) (cs : List ByCells). c ∷ cs) (λ i. record { made = p i; outputs = bytes_of (s i).outputs })
    (same_cells a b n (after a n S e) es h.1 g.1 ∙ ap (λ (x : State). shown_by_cells b n x es) s)

pub sharing_shows_the_same : SharingShowsTheSame
sharing_shows_the_same a b limits widest room words s e t tapes l h s' e' t' tapes' l' h' n q loopless bytes bytes' fresh fresh' entries k k' =
    outputs_agree _ _ (demand3 a limits widest room words s e t tapes l h n q loopless bytes fresh entries)
    ∙ ap (map (λ (c : ByCells). c.outputs)) (same_cells a b n (start n) entries k k')
    ∙ sym (outputs_agree _ _ (demand3 b limits widest room words s' e' t' tapes' l' h' n q loopless bytes' fresh' entries))

-- THE BYTES BEHIND

one_keeps : (widest : ℕ) (c : Call) → drop (signal_bytes (call_model c)) (run widest c).bytes ≡ drop (signal_bytes (call_model c)) c.bytes
unfolding run ticked
one_keeps widest c = go (answer widest c) refl
  where
    go : (o : Option (ℕ × ℕ)) → answer widest c ≡ o → drop (signal_bytes (call_model c)) (bytes_after c o) ≡ drop (signal_bytes (call_model c)) c.bytes
    go (Some r) e = refl
    go None e =
        drop_at (map digit (flat (state_after c))) (drop (signal_bytes (call_model c)) c.bytes) (signal_bytes (call_model c))
        (length-map (flat (state_after c)) digit ∙ flat_length (call_model c).signals (state_after c) (after_fits widest c (accepted_good widest c e)))

pub behind_kept : BehindKept
behind_kept widest l bytes [] = refl
behind_kept widest l bytes (e ∷ es) = behind_kept widest l (run widest (entry_call l bytes e)).bytes es ∙ one_keeps widest (entry_call l bytes e)
