-- In an accepted model every signal that is no input has exactly one statement, and a PLL drives only signals of its own.
-- Assumes nothing.
use mathlib.Core.Path.{◌≡◌, refl, ap, ap₂, sym, ◌∙◌, subst}
use mathlib.Core.Logic.{◌⊎◌, inl, inr}
use mathlib.Core.Bool.{Bool, true, false, ◌||◌}
use mathlib.Core.List.Memᴰ.{append_cases}
use mathlib.Core.List.Memᴰ.{append_left as mem-left}
use mathlib.Core.List.Memᴰ.{append_right as mem-right}
use mathlib.Core.List.Memᴰ.{cases_cons}
use mathlib.Core.List.Memᴰ.{head as here}
use mathlib.Core.List.Memᴰ.{not-nil}
use mathlib.Core.List.Memᴰ.{tail as there}
use mathlib.Core.List.{List, [], ◌∷◌, ◌++◌, map, Memᴰ as Mem}
use Rattle.std.specs.Prelude.{Option, None, Some}
use Rattle.bits.proofs.Options.{some_ne_none}
use Prim.Native.Nat.{ℕ, zero, suc, ◌+◌, ◌≤◌, ◌<◌}
use native.Mathlib.Nat.{not-suc-le-zero}
use native.Mathlib.Omega.{arith}
use native.Mathlib.Decide.{dec_lt, ℕ_discrete}
use lib.Dec.{eqb, leb}
use lib.ListN.{length, get_or, take, drop, length-append, length-map, get_or-append}
use borrow.Author.Tests.{eqb-true, eq-eqb, leb-true}
use Rattle.bits.specs.Bits.{pick}
use Rattle.netlist.specs.declared.Bit.TheVariants.{Zero, Wire}
use Rattle.netlist.specs.declared.Limits.{Limits}
use Rattle.netlist.specs.Netlist.{Port, SecondPort, Pll, Netlist, Cell, lut4, pfumx, l6mux21, ccu2c, multiplier, flip_flop, block_ram, distributed_ram, io, jtagg, pll}
use Rattle.netlist.specs.Shape.{Each, each_at, FitsOption, FitsSecond, FitsCell}
use Rattle.recorder.specs.Record.{Signal, Stmt, target}
use Rattle.recorder.specs.Writer.{signals_of, further, Out}
use Rattle.recorder.proofs.Events.{signals_append}
use Rattle.behaviour.specs.Banks.{Member, Bank, outputs_of, collect_flip_flop_banks}
use Rattle.behaviour.specs.WireMap.{Source, inputs, shown, pins, Slot, find, port_slots, pll_wires, bank_slot, slots, total, word_signals, signal_count}
use Rattle.behaviour.specs.Behaviour.{absent}
use Rattle.behaviour.proofs.BankLaws.{IsBank, banks_are, Begins}
use Rattle.wires.specs.Wires.{Wires, WireRef as Ref}
use Rattle.lowering.specs.Lower.{statements_on, allowed, overdriven_from, reserve_netlist, emit_netlist}
use Rattle.meaning.specs.Mapped.{ref_of, LabelFits, SignalFits, SignalsFit, no_slot, Mapping, port_signals, Reserved}
use Rattle.meaning.proofs.Writing.{written}
use Rattle.meaning.proofs.Reserving.{mapping_count, reserved_is}
use Rattle.meaning.proofs.Whole.{lowering_is, stmts_are}
use Rattle.forms.specs.Groups.{Group, apiece, second_group, groups, slot_of}
use Rattle.forms.specs.Acts.{targets, Done, aim, range, second_aim, aims, clock_aims, cell_aims, cell_words, all_aims, all_words, bank_aims, port_aims, netlist_words, netlist_aims}
use Rattle.forms.specs.Lowered.{none_yet, lowered_model, Lowered}
use Rattle.meaning.proofs.Placing.{Placed, each_mem, Located, located}
use Rattle.forms.proofs.Slots.{Late, of_cell, of_bank, ports_first, ports_within, slot_late}
use Rattle.forms.proofs.Aims.{netlist_acts, words_count}

-- HOW OFTEN A NUMBER OCCURS

abbrev pub occurs : ℕ → List ℕ → ℕ
occurs s [] = 0
occurs s (t ∷ l) = pick (eqb t s) 1 0 + occurs s l

pub occurs_append : (s : ℕ) (a b : List ℕ) → occurs s (a ++ b) ≡ occurs s a + occurs s b
occurs_append s [] b = omega arith
occurs_append s (t ∷ a) b = omega (arith, occurs_append s a b)

pub occurs_in : (s : ℕ) (l : List ℕ) → Mem s l → 1 ≤ occurs s l
occurs_in s [] m = absurd (not-nil m)
occurs_in s (t ∷ l) m = go (cases_cons m) (occurs_in s l)
  where
    go : (s ≡ t) ⊎ Mem s l → (Mem s l → 1 ≤ occurs s l) → 1 ≤ pick (eqb t s) 1 0 + occurs s l
    go (inl e) f = omega (arith, ap {B = ℕ} (λ (b : Bool). pick b 1 0) (eq-eqb t s (sym e)))
    go (inr q) f = omega (arith, f q)

statements_occur : (s : ℕ) (ts : List Stmt) → statements_on s ts ≡ occurs s (targets ts)
unfolding statements_on
statements_occur s [] = refl
statements_occur s (t ∷ ts) = ap (λ (k : ℕ). pick (eqb (target t) s) 1 0 + k) (statements_occur s ts)

-- 11 did not come
not_overdriven : (k : ℕ) (xs : List Signal) (ts : List Stmt) → overdriven_from k xs ts ≡ None → (i : ℕ) (d : Signal) → i < length xs → statements_on (k + i) ts ≤ allowed (get_or xs i d)
unfolding overdriven_from
not_overdriven k [] ts h i d l = absurd (not-suc-le-zero l)
not_overdriven k (x ∷ xs) ts h i d l = go (leb (statements_on k ts) (allowed x)) refl (not_overdriven (suc k) xs ts) h i l
  where
    go : (b : Bool) → leb (statements_on k ts) (allowed x) ≡ b → (overdriven_from (suc k) xs ts ≡ None → (i : ℕ) (d : Signal) → i < length xs → statements_on (suc k + i) ts ≤ allowed (get_or xs i d))
        → pick b (overdriven_from (suc k) xs ts) (Some k) ≡ None → (i : ℕ) → i < length (x ∷ xs) → statements_on (k + i) ts ≤ allowed (get_or (x ∷ xs) i d)
    go false e f q i l = absurd (some_ne_none k q)
    go true e f q zero l = subst (λ (j : ℕ). statements_on j ts ≤ allowed x) (let z : k ≡ k + 0 = omega arith in z) (leb-true _ _ e)
    go true e f q (suc i) l = subst (λ (j : ℕ). statements_on j ts ≤ allowed (get_or xs i d)) (let z : suc k + i ≡ k + suc i = omega arith in z) (f q i d (omega arith))

-- WHAT A CELL DRIVES

-- of two pieces, or of one
piece_in : (m : Wires) (s₀ : ℕ) (xs : List Cell) (c s : ℕ) → c < length xs → ((base : ℕ) → 1 ≤ occurs s (cell_aims m base (get_or xs c absent))) → 1 ≤ occurs s (all_aims m s₀ xs)
piece_in m s₀ [] c s h p = absurd (not-suc-le-zero h)
piece_in m s₀ (x ∷ xs) zero s h p = omega (arith, occurs_append s (cell_aims m s₀ x) (all_aims m (s₀ + word_signals x) xs), p s₀)
piece_in m s₀ (x ∷ xs) (suc c) s h p = omega (arith, occurs_append s (cell_aims m s₀ x) (all_aims m (s₀ + word_signals x) xs), piece_in m (s₀ + word_signals x) xs c s (omega arith) p)

piece_many : (m : Wires) (s₀ : ℕ) (xs : List Cell) (c s k : ℕ) → c < length xs → ((base : ℕ) → k ≤ occurs s (cell_aims m base (get_or xs c absent))) → k ≤ occurs s (all_aims m s₀ xs)
piece_many m s₀ [] c s k h p = absurd (not-suc-le-zero h)
piece_many m s₀ (x ∷ xs) zero s k h p = omega (arith, occurs_append s (cell_aims m s₀ x) (all_aims m (s₀ + word_signals x) xs), p s₀)
piece_many m s₀ (x ∷ xs) (suc c) s k h p = omega (arith, occurs_append s (cell_aims m s₀ x) (all_aims m (s₀ + word_signals x) xs), piece_many m (s₀ + word_signals x) xs c s k (omega arith) p)

pieces_in : (m : Wires) (s₀ : ℕ) (xs : List Cell) (c d s : ℕ) → (c ≡ d → ⊥) → c < length xs → d < length xs → ((base : ℕ) → 1 ≤ occurs s (cell_aims m base (get_or xs c absent)))
    → ((base : ℕ) → 1 ≤ occurs s (cell_aims m base (get_or xs d absent))) → 2 ≤ occurs s (all_aims m s₀ xs)
pieces_in m s₀ [] c d s ne h g p q = absurd (not-suc-le-zero h)
pieces_in m s₀ (x ∷ xs) zero zero s ne h g p q = absurd (ne refl)
pieces_in m s₀ (x ∷ xs) zero (suc d) s ne h g p q = omega (arith, occurs_append s (cell_aims m s₀ x) (all_aims m (s₀ + word_signals x) xs), p s₀, piece_in m (s₀ + word_signals x) xs d s (omega arith) q)
pieces_in m s₀ (x ∷ xs) (suc c) zero s ne h g p q = omega (arith, occurs_append s (cell_aims m s₀ x) (all_aims m (s₀ + word_signals x) xs), q s₀, piece_in m (s₀ + word_signals x) xs c s (omega arith) p)
pieces_in m s₀ (x ∷ xs) (suc c) (suc d) s ne h g p q =
    omega (arith, occurs_append s (cell_aims m s₀ x) (all_aims m (s₀ + word_signals x) xs), pieces_in m (s₀ + word_signals x) xs c d s (λ e. ne (ap suc e)) (omega arith) (omega arith) p q)

-- a group of a list of wires that are apiece
pub apiece_wire : (ws : List ℕ) (k : ℕ) (g : Group) → Mem g (apiece ws k) → (w : ℕ) × Mem w ws × (g.wires ≡ w ∷ [])
apiece_wire [] k g m = absurd (not-nil m)
apiece_wire (w ∷ ws) k g m = go (cases_cons m) (apiece_wire ws (suc k) g)
  where
    go : (g ≡ record { pin = k; wires = w ∷ [] }) ⊎ Mem g (apiece ws (suc k)) → (Mem g (apiece ws (suc k)) → (v : ℕ) × Mem v ws × (g.wires ≡ v ∷ [])) → (v : ℕ) × Mem v (w ∷ ws) × (g.wires ≡ v ∷ [])
    go (inl e) f = (w, here refl, ap (λ (x : Group). x.wires) e)
    go (inr q) f = let r = f q in (r.0, there r.1, r.2)

aim_in : (m : Wires) (ws : List ℕ) (w : ℕ) → Mem w ws → Mem (aim (m w)) (aims m ws)
aim_in m [] w h = absurd (not-nil h)
aim_in m (v ∷ ws) w h = go (cases_cons h) (aim_in m ws w)
  where
    go : (w ≡ v) ⊎ Mem w ws → (Mem w ws → Mem (aim (m w)) (aims m ws)) → Mem (aim (m w)) (aim (m v) ∷ aims m ws)
    go (inl e) f = here (ap (λ (u : ℕ). aim (m u)) e)
    go (inr q) f = there (f q)

-- all but the seventh, and the seventh
all_but : (ws : List ℕ) (w : ℕ) → length ws ≡ 9 → Mem w ws → Mem w (take 6 ws ++ drop 7 ws) ⊎ (w ≡ get_or ws 6 0)
all_but [] w l m = absurd (not-nil m)
all_but (a ∷ []) w l m = absurd (omega (arith, l))
all_but (a ∷ b ∷ []) w l m = absurd (omega (arith, l))
all_but (a ∷ b ∷ c ∷ []) w l m = absurd (omega (arith, l))
all_but (a ∷ b ∷ c ∷ d ∷ []) w l m = absurd (omega (arith, l))
all_but (a ∷ b ∷ c ∷ d ∷ e ∷ []) w l m = absurd (omega (arith, l))
all_but (a ∷ b ∷ c ∷ d ∷ e ∷ f ∷ []) w l m = absurd (omega (arith, l))
all_but (a ∷ b ∷ c ∷ d ∷ e ∷ f ∷ g ∷ ws) w l m = go (append_cases six m)
  where
    six : List ℕ
    six = a ∷ b ∷ c ∷ d ∷ e ∷ f ∷ []

    rest : List ℕ
    rest = g ∷ ws

    last : (w ≡ g) ⊎ Mem w ws → Mem w (a ∷ b ∷ c ∷ d ∷ e ∷ f ∷ ws) ⊎ (w ≡ g)
    last (inl q) = inr q
    last (inr q) = inl (there (there (there (there (there (there q))))))

    go : Mem w (a ∷ b ∷ c ∷ d ∷ e ∷ f ∷ []) ⊎ Mem w (g ∷ ws) → Mem w (a ∷ b ∷ c ∷ d ∷ e ∷ f ∷ ws) ⊎ (w ≡ g)
    go (inl q) = inl (mem-left ws q)
    go (inr q) = last (cases_cons q)

-- a PLL drives each of its wires
clock_in : (m : Wires) (f o : ℕ) (ws : List ℕ) (w : ℕ) → Mem w ws → Mem (aim (m w)) (clock_aims m f o ws) ⊎ ((w ≡ f) ⊎ (w ≡ o))
clock_in m f o [] w h = absurd (not-nil h)
clock_in m f o (v ∷ ws) w h = go (cases_cons h) (clock_in m f o ws w)
  where
    alike : (b c : Bool) → eqb v f ≡ b → eqb v o ≡ c → w ≡ v → Mem (aim (m w)) (pick (b || c) [] (aim (m v) ∷ []) ++ clock_aims m f o ws) ⊎ ((w ≡ f) ⊎ (w ≡ o))
    alike true c p q e = inr (inl (e ∙ eqb-true v f p))
    alike false true p q e = inr (inr (e ∙ eqb-true v o q))
    alike false false p q e = inl (here (ap (λ (u : ℕ). aim (m u)) e))

    go : (w ≡ v) ⊎ Mem w ws → (Mem w ws → Mem (aim (m w)) (clock_aims m f o ws) ⊎ ((w ≡ f) ⊎ (w ≡ o))) → Mem (aim (m w)) (pick (eqb v f || eqb v o) [] (aim (m v) ∷ []) ++ clock_aims m f o ws) ⊎ ((w ≡ f) ⊎ (w ≡ o))
    go (inl e) g = alike (eqb v f) (eqb v o) refl refl e
    go (inr q) g = later (g q)
      where
        later : Mem (aim (m w)) (clock_aims m f o ws) ⊎ ((w ≡ f) ⊎ (w ≡ o)) → Mem (aim (m w)) (pick (eqb v f || eqb v o) [] (aim (m v) ∷ []) ++ clock_aims m f o ws) ⊎ ((w ≡ f) ⊎ (w ≡ o))
        later (inl x) = inl (mem-right (pick (eqb v f || eqb v o) [] (aim (m v) ∷ [])) x)
        later (inr y) = inr y

module _ (m : Wires) (p : Pll) (base : ℕ) where
  abbrev out : List ℕ
  out = pick (eqb p.output p.feedback) [] (aim (m p.output) ∷ [])

  abbrev clocks : List ℕ
  clocks = clock_aims m p.feedback p.output p.more

  feedback_driven : Mem (aim (m p.feedback)) (cell_aims m base (pll p))
  feedback_driven = here refl

  output_driven : Mem (aim (m p.output)) (cell_aims m base (pll p))
  output_driven = go (eqb p.output p.feedback) refl
    where
      go : (b : Bool) → eqb p.output p.feedback ≡ b → Mem (aim (m p.output)) (aim (m p.feedback) ∷ (pick b [] (aim (m p.output) ∷ []) ++ (clocks ++ (aim (m p.locked) ∷ []))))
      go true e = here (ap (λ (w : ℕ). aim (m w)) (eqb-true _ _ e))
      go false e = there (here refl)

  locked_driven : Mem (aim (m p.locked)) (cell_aims m base (pll p))
  locked_driven = there (mem-right out (mem-right clocks (here refl)))

  more_driven : (w : ℕ) → Mem w p.more → Mem (aim (m w)) (cell_aims m base (pll p))
  more_driven w h = go (clock_in m p.feedback p.output p.more w h)
    where
      same : (v : ℕ) → w ≡ v → Mem (aim (m v)) (cell_aims m base (pll p)) → Mem (aim (m w)) (cell_aims m base (pll p))
      same v e x = subst (λ (u : ℕ). Mem (aim (m u)) (cell_aims m base (pll p))) (sym e) x

      go : Mem (aim (m w)) clocks ⊎ ((w ≡ p.feedback) ⊎ (w ≡ p.output)) → Mem (aim (m w)) (cell_aims m base (pll p))
      go (inl x) = there (mem-right out (mem-left (aim (m p.locked) ∷ []) x))
      go (inr (inl e)) = same p.feedback e feedback_driven
      go (inr (inr e)) = same p.output e output_driven

  pub pll_drives : (w : ℕ) → Mem w (pll_wires p) → Mem (aim (m w)) (cell_aims m base (pll p))
  pll_drives w h = one (cases_cons h)
    where
      same : (v : ℕ) → w ≡ v → Mem (aim (m v)) (cell_aims m base (pll p)) → Mem (aim (m w)) (cell_aims m base (pll p))
      same v e x = subst (λ (u : ℕ). Mem (aim (m u)) (cell_aims m base (pll p))) (sym e) x

      three : (w ≡ p.locked) ⊎ Mem w p.more → Mem (aim (m w)) (cell_aims m base (pll p))
      three (inl e) = same p.locked e locked_driven
      three (inr x) = more_driven w x

      two : (w ≡ p.output) ⊎ Mem w (p.locked ∷ p.more) → Mem (aim (m w)) (cell_aims m base (pll p))
      two (inl e) = same p.output e output_driven
      two (inr x) = three (cases_cons x)

      one : (w ≡ p.feedback) ⊎ Mem w (p.output ∷ p.locked ∷ p.more) → Mem (aim (m w)) (cell_aims m base (pll p))
      one (inl e) = same p.feedback e feedback_driven
      one (inr x) = two (cases_cons x)

pub only_one : {A : Type 0} {a b : A} → Mem a (b ∷ []) → a ≡ b
only_one {A} {a} {b} m = go (cases_cons m)
  where
    go : (a ≡ b) ⊎ Mem a [] → a ≡ b
    go (inl e) = e
    go (inr q) = absurd (not-nil q)

-- every group of a cell is driven at its first wire
pub cell_drives : (limits : Limits) (m : Wires) (base : ℕ) (x : Cell) (g : Group) → FitsCell limits x → Mem g (groups x) → Mem (aim (m (get_or g.wires 0 0))) (cell_aims m base x)
cell_drives limits m base (lut4 i o t) g f h = here (ap (λ (y : Group). aim (m (get_or y.wires 0 0))) (only_one h))
cell_drives limits m base (pfumx t f' s o) g f h = here (ap (λ (y : Group). aim (m (get_or y.wires 0 0))) (only_one h))
cell_drives limits m base (l6mux21 z y' s o) g f h = here (ap (λ (y : Group). aim (m (get_or y.wires 0 0))) (only_one h))
cell_drives limits m base (ccu2c u) g f h =
    let r = apiece_wire (u.sum0 ∷ u.sum1 ∷ u.carry ∷ []) 0 g h in
    subst (λ (l : List ℕ). Mem (aim (m (get_or l 0 0))) (cell_aims m base (ccu2c u))) (sym r.2) (aim_in m (u.sum0 ∷ u.sum1 ∷ u.carry ∷ []) r.0 r.1)
cell_drives limits m base (multiplier l r p) g f h = here (ap (λ (y : Group). aim (m (get_or y.wires 0 0))) (only_one h))
cell_drives limits m base (flip_flop f') g f h = absurd (not-nil h)
cell_drives limits m base (block_ram r) g f h = go (cases_cons h)
  where
    second : (o : Option SecondPort) → Mem g (second_group r.width o) → Mem (aim (m (get_or g.wires 0 0))) (second_aim m o)
    second None q = absurd (not-nil q)
    second (Some p) q = here (ap (λ (y : Group). aim (m (get_or y.wires 0 0))) (only_one q))

    go : (g ≡ record { pin = 0; wires = r.output }) ⊎ Mem g (second_group r.width r.second) → Mem (aim (m (get_or g.wires 0 0))) (cell_aims m base (block_ram r))
    go (inl e) = here (ap (λ (y : Group). aim (m (get_or y.wires 0 0))) e)
    go (inr q) = there (mem-left (range base r.depth) (second r.second q))
cell_drives limits m base (distributed_ram r) g f h = mem-right (range base 16) (here (ap (λ (y : Group). aim (m (get_or y.wires 0 0))) (only_one h)))
cell_drives limits m base (io p d i t) g f h = here (ap (λ (y : Group). aim (m (get_or y.wires 0 0))) (only_one h))
cell_drives limits m base (jtagg ws) g f h =
    let r = apiece_wire ws 0 g h in
    subst (λ (l : List ℕ). Mem (aim (m (get_or l 0 0))) (cell_aims m base (jtagg ws))) (sym r.2) (go r.0 (all_but ws r.0 f.0 r.1))
  where
    go : (w : ℕ) → Mem w (take 6 ws ++ drop 7 ws) ⊎ (w ≡ get_or ws 6 0) → Mem (aim (m w)) (cell_aims m base (jtagg ws))
    go w (inl q) = mem-left (aim (m (get_or ws 6 0)) ∷ []) (aim_in m (take 6 ws ++ drop 7 ws) w q)
    go w (inr e) = mem-right (aims m (take 6 ws ++ drop 7 ws)) (here (ap (λ (u : ℕ). aim (m u)) e))
cell_drives limits m base (pll p) g f h =
    let r = apiece_wire (pll_wires p) 0 g h in
    subst (λ (l : List ℕ). Mem (aim (m (get_or l 0 0))) (cell_aims m base (pll p))) (sym r.2) (pll_drives m p base r.0 r.1)

-- every group has a wire
pub group_some : (limits : Limits) (x : Cell) (g : Group) → FitsCell limits x → Mem g (groups x) → 1 ≤ length g.wires
group_some limits (lut4 i o t) g f h = omega (arith, ap (λ (y : Group). length y.wires) (only_one h))
group_some limits (pfumx t f' s o) g f h = omega (arith, ap (λ (y : Group). length y.wires) (only_one h))
group_some limits (l6mux21 z y' s o) g f h = omega (arith, ap (λ (y : Group). length y.wires) (only_one h))
group_some limits (ccu2c u) g f h = let r = apiece_wire (u.sum0 ∷ u.sum1 ∷ u.carry ∷ []) 0 g h in omega (arith, ap length r.2)
group_some limits (multiplier l r p) g f h = omega (arith, ap (λ (y : Group). length y.wires) (only_one h), f.2.0)
group_some limits (flip_flop f') g f h = absurd (not-nil h)
group_some limits (block_ram r) g f h = go (cases_cons h)
  where
    second : (o : Option SecondPort) → FitsOption (FitsSecond limits r.width) o → Mem g (second_group r.width o) → 1 ≤ length g.wires
    second None k q = absurd (not-nil q)
    second (Some p) k q = omega (arith, ap (λ (y : Group). length y.wires) (only_one q), k.output.0, f.width.0)

    go : (g ≡ record { pin = 0; wires = r.output }) ⊎ Mem g (second_group r.width r.second) → 1 ≤ length g.wires
    go (inl e) = omega (arith, ap (λ (y : Group). length y.wires) e, f.output.0, f.width.0)
    go (inr q) = second r.second f.second q
group_some limits (distributed_ram r) g f h = omega (arith, ap (λ (y : Group). length y.wires) (only_one h), f.output.0)
group_some limits (io p d i t) g f h = omega (arith, ap (λ (y : Group). length y.wires) (only_one h))
group_some limits (jtagg ws) g f h = let r = apiece_wire ws 0 g h in omega (arith, ap length r.2)
group_some limits (pll p) g f h = let r = apiece_wire (pll_wires p) 0 g h in omega (arith, ap length r.2)

-- AN ACCEPTED NETLIST

fit_at : (held : List Slot) (ss : List Signal) (s : ℕ) (d : Signal) → SignalsFit held ss → s < length held → SignalFits (get_or held s no_slot) (get_or ss s d)
fit_at [] ss s d h l = absurd (not-suc-le-zero l)
fit_at (x ∷ xs) [] s d h l = absurd h
fit_at (x ∷ xs) (t ∷ ss) zero d h l = h.0
fit_at (x ∷ xs) (t ∷ ss) (suc s) d h l = fit_at xs ss s d h.1 (omega arith)

few_allowed : (s : Signal) → allowed s ≤ 1
few_allowed s = go (eqb s.label 0)
  where
    go : (b : Bool) → pick b 0 1 ≤ 1
    go true = omega arith
    go false = omega arith

abbrev pub no_signal : Signal
no_signal = record { label = 0; width = 0; owner = 0 }

module _ {shared : ℕ} {limits : Limits} {n : Netlist} (a : Lowered shared limits n) where
  abbrev m : Wires
  m = a.wires

  abbrev cell_fits : Each (FitsCell limits) n.cells
  cell_fits = a.fits.cells

  pub kept : Reserved n m (reserve_netlist n none_yet).events
  kept = reserved_is n m a.reserved

  unfoldable pub slot_signals : List Signal
  slot_signals = port_signals 0 n.ports ++ kept.more

  pub mapping : Mapping (slots n) slot_signals m
  unfolding slot_signals
  mapping = kept.mapping

  emission : Out (Unit {0})
  emission = emit_netlist shared n m (further none_yet (reserve_netlist n none_yet).events)

  started : (further none_yet (reserve_netlist n none_yet).events).signals ≡ length (slots n)
  started = omega (arith, ap length kept.signals, mapping_count kept.mapping)

  emitted : Done (netlist_words n) (netlist_aims m (length (slots n)) n) emission.events
  unfolding emission
  emitted =
      subst (λ (k : ℕ). Done (netlist_words n) (netlist_aims m k n) emission.events) started
      (written (netlist_acts shared n m) (ap (λ (o : Out (Unit {0})). o.end) (sym (lowering_is shared limits n cell_fits m a.reserved)) ∙ a.ended)).1

  -- the signals: those of the slots, zero and one, those of the RAM words
  pub signals_are : (lowered_model shared n).signals ≡ slot_signals ++ netlist_words n
  unfolding emission slot_signals
  signals_are =
      ap (λ (o : Out (Unit {0})). signals_of o.events) (lowering_is shared limits n cell_fits m a.reserved)
      ∙ signals_append (reserve_netlist n none_yet).events emission.events ∙ ap₂ (λ (x y : List Signal). x ++ y) kept.signals emitted.signals

  -- the targets of the statements
  pub targets_are : targets (lowered_model shared n).stmts ≡ netlist_aims m (length (slots n)) n
  unfolding emission
  targets_are = ap targets (stmts_are shared limits n cell_fits m a.reserved) ∙ emitted.stmts

  pub slot_count : length slot_signals ≡ length (slots n)
  slot_count = sym (mapping_count mapping)

  -- statements on a signal
  unfoldable pub on_signal : ℕ → ℕ
  on_signal s = occurs s (netlist_aims m (length (slots n)) n)

  few : (s : ℕ) → s < length (lowered_model shared n).signals → on_signal s ≤ allowed (get_or (lowered_model shared n).signals s no_signal)
  unfolding on_signal
  few s h =
      let z : 0 + s ≡ s = omega arith in
      subst (λ (k : ℕ). k ≤ allowed (get_or (lowered_model shared n).signals s no_signal)) (ap (λ (k : ℕ). statements_on k (lowered_model shared n).stmts) z ∙ statements_occur s (lowered_model shared n).stmts ∙ ap (occurs s) targets_are)
      (not_overdriven 0 (lowered_model shared n).signals (lowered_model shared n).stmts a.single s no_signal h)

  -- THE PARTS OF THE STATEMENTS

  abbrev cell_part : List ℕ
  cell_part = all_aims m (suc (suc (length (slots n)))) n.cells

  abbrev bank_part : List ℕ
  bank_part = bank_aims m (collect_flip_flop_banks n.cells)

  parts : (s : ℕ) → occurs s cell_part + (occurs s bank_part + occurs s (port_aims 0 n.ports)) ≤ on_signal s
  unfolding on_signal
  parts s = omega (arith, occurs_append s cell_part (bank_part ++ port_aims 0 n.ports), occurs_append s bank_part (port_aims 0 n.ports))

  -- a wire of a slot is found there
  pub found_in : (x : Slot) (p : Placed (slots n) x) (i w : ℕ) → i < length x.bits → get_or x.bits i Zero ≡ Wire w → find w (slots n) 0 ≡ Some (record { signal = p.number; lowest = i; width = length x.bits; source = x.source })
  found_in x p i w l q =
      mapping.apart p.number i w p.inside (subst (λ (y : Slot). i < length y.bits) (sym p.is) l) (ap (λ (y : Slot). get_or y.bits i Zero) p.is ∙ q)
      ∙ ap (λ (y : Slot). Some (record { signal = p.number; lowest = i; width = length y.bits; source = y.source })) p.is

  wires_bit : (ws : List ℕ) (i : ℕ) → i < length ws → get_or (map Wire ws) i Zero ≡ Wire (get_or ws i 0)
  wires_bit [] i h = absurd (not-suc-le-zero h)
  wires_bit (w ∷ ws) zero h = refl
  wires_bit (w ∷ ws) (suc i) h = wires_bit ws i (omega arith)

  -- the i-th wire of a slot of several wires
  pub wire_at : (source : Source) (ws : List ℕ) (p : Placed (slots n) (record { source = source; bits = map Wire ws })) (i : ℕ) → i < length ws → m (get_or ws i 0) ≡ Some (record { signal = p.number; lsb = i; width = length ws })
  wire_at source ws p i h =
      mapping.finds (get_or ws i 0)
      ∙ ap ref_of (found_in (record { source = source; bits = map Wire ws }) p i (get_or ws i 0) (omega (arith, h, length-map ws Wire)) (wires_bit ws i h))
      ∙ ap (λ (k : ℕ). Some (record { signal = p.number; lsb = i; width = k })) (length-map ws Wire)

  aim_is : (source : Source) (ws : List ℕ) (p : Placed (slots n) (record { source = source; bits = map Wire ws })) → 1 ≤ length ws → aim (m (get_or ws 0 0)) ≡ p.number
  aim_is source ws p h = ap aim (wire_at source ws p 0 h)

  -- the slot of a cell's group is driven by that cell
  own : (c : ℕ) (g : Group) (p : Placed (slots n) (slot_of c g)) → c < length n.cells → Mem g (groups (get_or n.cells c absent)) → (base : ℕ) → 1 ≤ occurs p.number (cell_aims m base (get_or n.cells c absent))
  own c g p h q base =
      let f = each_at (FitsCell limits) n.cells c absent cell_fits h in
      occurs_in p.number (cell_aims m base (get_or n.cells c absent))
      (subst (λ (s : ℕ). Mem s (cell_aims m base (get_or n.cells c absent))) (aim_is (pins c g.pin) g.wires p (group_some limits (get_or n.cells c absent) g f q)) (cell_drives limits m base (get_or n.cells c absent) g f q))

  -- banks
  pub leader_first : (b : Bank) → Begins b.leader b.members → get_or (outputs_of b.members) 0 0 ≡ b.leader.flop.output
  leader_first b f = ap (λ (l : List Member). get_or (outputs_of l) 0 0) f.1

  pub leader_there : (b : Bank) → Begins b.leader b.members → 1 ≤ length (outputs_of b.members)
  leader_there b f = subst (λ (l : List Member). 1 ≤ length (outputs_of l)) (sym f.1) (omega arith)

  bank_aim : (bs : List Bank) (b : Bank) → Mem b bs → Mem (aim (m b.leader.flop.output)) (bank_aims m bs)
  bank_aim [] b h = absurd (not-nil h)
  bank_aim (x ∷ bs) b h = go (cases_cons h) (bank_aim bs b)
    where
      go : (b ≡ x) ⊎ Mem b bs → (Mem b bs → Mem (aim (m b.leader.flop.output)) (bank_aims m bs)) → Mem (aim (m b.leader.flop.output)) (bank_aims m (x ∷ bs))
      go (inl e) f = here (ap (λ (y : Bank). aim (m y.leader.flop.output)) e)
      go (inr q) f = there (f q)

  pub bank_is : (b : Bank) → Mem b (collect_flip_flop_banks n.cells) → IsBank n.cells b
  bank_is b h = each_mem (IsBank n.cells) (collect_flip_flop_banks n.cells) (banks_are n.cells) b h

  bank_own : (b : Bank) (p : Placed (slots n) (bank_slot b)) → Mem b (collect_flip_flop_banks n.cells) → 1 ≤ occurs p.number bank_part
  bank_own b p h =
      let f = (bank_is b h).first in
      occurs_in p.number bank_part (subst (λ (s : ℕ). Mem s bank_part) (ap (λ (w : ℕ). aim (m w)) (sym (leader_first b f)) ∙ aim_is _ (outputs_of b.members) p (leader_there b f)) (bank_aim (collect_flip_flop_banks n.cells) b h))

-- PORTS

-- an input's slot, or an output's, which holds nothing
pub data PortSlot (x : Slot) : Type 0 where
  gives : (k : ℕ) → x.source ≡ inputs k → PortSlot x
  shows : x.bits ≡ [] → PortSlot x

pub port_slot : (ports : List Port) (k s : ℕ) → s < length ports → PortSlot (get_or (port_slots ports k) s no_slot)
port_slot [] k s h = absurd (not-suc-le-zero h)
port_slot (p ∷ ports) k zero h = go (eqb p.direction 1)
  where
    go : (b : Bool) → PortSlot (get_or (pick b (record { source = shown; bits = [] } ∷ port_slots ports k) (record { source = inputs k; bits = p.bits } ∷ port_slots ports (k + length p.bits))) 0 no_slot)
    go true = shows refl
    go false = gives k refl
port_slot (p ∷ ports) k (suc s) h = go (eqb p.direction 1) (port_slot ports k s (omega arith)) (port_slot ports (k + length p.bits) s (omega arith))
  where
    go : (b : Bool) → PortSlot (get_or (port_slots ports k) s no_slot) → PortSlot (get_or (port_slots ports (k + length p.bits)) s no_slot)
        → PortSlot (get_or (pick b (record { source = shown; bits = [] } ∷ port_slots ports k) (record { source = inputs k; bits = p.bits } ∷ port_slots ports (k + length p.bits))) (suc s) no_slot)
    go true x y = x
    go false x y = y

-- A PLL DRIVES SIGNALS OF ITS OWN

pub record OwnSlot (n : Netlist) (c : ℕ) (p : Pll) (s : ℕ) : Type 0 where
  pub group : Group
  pub one_of : Mem group (apiece (pll_wires p) 0)
  pub slot : get_or (slots n) s no_slot ≡ slot_of c group

module _ {shared : ℕ} {limits : Limits} {n : Netlist} (a : Lowered shared limits n) where
  abbrev wires : Wires
  wires = a.wires

  pub slot_signal : (s : ℕ) → s < length (slots n) → get_or (lowered_model shared n).signals s no_signal ≡ get_or (slot_signals a) s no_signal
  slot_signal s h = ap (λ (l : List Signal). get_or l s no_signal) (signals_are a) ∙ get_or-append (slot_signals a) (netlist_words n) no_signal s (omega (arith, h, slot_count a))

  pub slots_within : length (slots n) ≤ length (lowered_model shared n).signals
  slots_within = omega (arith, ap length (signals_are a), length-append (slot_signals a) (netlist_words n), slot_count a)

  pub slot_fits : (s : ℕ) → s < length (slots n) → SignalFits (get_or (slots n) s no_slot) (get_or (lowered_model shared n).signals s no_signal)
  slot_fits s h = subst (SignalFits (get_or (slots n) s no_slot)) (sym (slot_signal s h)) (fit_at (slots n) (slot_signals a) s no_signal (mapping a).fits h)

  -- no statement may stand on an input's signal
  input_free : (s k : ℕ) → s < length (slots n) → (get_or (slots n) s no_slot).source ≡ inputs k → on_signal a s ≡ 0
  input_free s k h e =
      let f : (get_or (lowered_model shared n).signals s no_signal).label ≡ 0 = subst (λ (x : Source). LabelFits x (get_or (lowered_model shared n).signals s no_signal).label) e (slot_fits s h).label in
      let z : allowed (get_or (lowered_model shared n).signals s no_signal) ≡ 0 = ap {B = ℕ} (λ (b : Bool). pick b 0 1) (eq-eqb _ 0 f) in
      omega (arith, few a s (omega (arith, h, slots_within)), z)

  at_most : (s : ℕ) → s < length (slots n) → on_signal a s ≤ 1
  at_most s h = omega (arith, few a s (omega (arith, h, slots_within)), few_allowed (get_or (lowered_model shared n).signals s no_signal))

  module _ (c : ℕ) (p : Pll) (inside : c < length n.cells) (is : get_or n.cells c absent ≡ pll p) (w : ℕ) (one_of : Mem w (pll_wires p)) (r : Ref) (e : wires w ≡ Some r) where
    at : Located n w r
    at = located n wires (slot_signals a) (mapping a) w r e

    drives : (base : ℕ) → 1 ≤ occurs r.signal (cell_aims wires base (get_or n.cells c absent))
    drives base =
        occurs_in r.signal (cell_aims wires base (get_or n.cells c absent))
        (subst (λ (x : Cell). Mem r.signal (cell_aims wires base x)) (sym is) (subst (λ (s : ℕ). Mem s (cell_aims wires base (pll p))) (ap aim e) (pll_drives wires p base w one_of)))

    some_statement : 1 ≤ on_signal a r.signal
    some_statement = omega (arith, piece_in wires (suc (suc (length (slots n)))) n.cells c r.signal inside drives, parts a r.signal)

    late : Late n (get_or (slots n) r.signal no_slot) → OwnSlot n c p r.signal
    late (of_cell o) = go (ℕ_discrete c o.place)
      where
        slot_is : get_or (slots n) r.signal no_slot ≡ slot_of o.place o.of_group.group
        slot_is = o.of_group.is ∙ ap (λ (k : ℕ). slot_of k o.of_group.group) (let z : 0 + o.place ≡ o.place = omega arith in z)

        go : Dec (c ≡ o.place) → OwnSlot n c p r.signal
        go (yes q) = record {
          group = o.of_group.group;
          one_of = subst (λ (x : Cell). Mem o.of_group.group (groups x)) (ap (λ (k : ℕ). get_or n.cells k absent) (sym q) ∙ is) o.of_group.one_of;
          slot = slot_is ∙ ap (λ (k : ℕ). slot_of k o.of_group.group) (sym q);
        }
        go (no q) = absurd (omega (
          arith,
          at_most r.signal at.inside,
          parts a r.signal,
          pieces_in wires (suc (suc (length (slots n)))) n.cells c o.place r.signal q inside o.inside drives
              (own a o.place o.of_group.group (record { number = r.signal; inside = at.inside; is = slot_is }) o.inside o.of_group.one_of),
        ))
    late (of_bank b h q) =
        absurd (omega (
          arith,
          at_most r.signal at.inside,
          parts a r.signal,
          piece_in wires (suc (suc (length (slots n)))) n.cells c r.signal inside drives,
          bank_own a b (record { number = r.signal; inside = at.inside; is = q }) h,
        ))

    ported : PortSlot (get_or (slots n) r.signal no_slot) → OwnSlot n c p r.signal
    ported (gives k q) = absurd (omega (arith, input_free r.signal k at.inside q, some_statement))
    ported (shows q) = absurd (omega (arith, at.within, ap length q))

    pub pll_own : OwnSlot n c p r.signal
    pll_own = go (dec_lt r.signal (length n.ports))
      where
        go : Dec (r.signal < length n.ports) → OwnSlot n c p r.signal
        go (yes h) = ported (subst PortSlot (sym (ports_first n r.signal h)) (port_slot n.ports 0 r.signal h))
        go (no h) = late (slot_late n r.signal (omega arith) at.inside)

    -- and it drives each of them once: no clock is the locked wire
    pub pll_apart : Mem w (p.feedback ∷ p.output ∷ p.more) → w ≡ p.locked → ⊥
    pll_apart h same = omega (arith, at_most r.signal at.inside, parts a r.signal, piece_many wires (suc (suc (length (slots n)))) n.cells c r.signal 2 inside twice)
      where
        s : ℕ
        s = r.signal

        hit : (v : ℕ) → w ≡ v → ◌≡◌ {A = ℕ} (pick (eqb (aim (wires v)) r.signal) 1 0) 1
        hit v q = ap {B = ℕ} (λ (b : Bool). pick b 1 0) (eq-eqb (aim (wires v)) r.signal (ap (λ (u : ℕ). aim (wires u)) (sym q) ∙ ap aim e))

        clock_part : List ℕ
        clock_part = clock_aims wires p.feedback p.output p.more

        out_part : Bool → List ℕ
        out_part b = pick b [] (aim (wires p.output) ∷ [])

        first : (w ≡ p.feedback) → (b : Bool) → 1 ≤ pick (eqb (aim (wires p.feedback)) r.signal) 1 0 + (occurs r.signal (out_part b) + occurs r.signal clock_part)
        first q b = omega (arith, hit p.feedback q)

        second : (w ≡ p.output) → (b : Bool) → eqb p.output p.feedback ≡ b → 1 ≤ pick (eqb (aim (wires p.feedback)) r.signal) 1 0 + (occurs r.signal (out_part b) + occurs r.signal clock_part)
        second q true t = first (q ∙ eqb-true p.output p.feedback t) true
        second q false t = omega (arith, hit p.output q)

        third : Mem (aim (wires w)) clock_part ⊎ ((w ≡ p.feedback) ⊎ (w ≡ p.output)) → (b : Bool) → eqb p.output p.feedback ≡ b → 1 ≤ pick (eqb (aim (wires p.feedback)) r.signal) 1 0 + (occurs r.signal (out_part b) + occurs r.signal clock_part)
        third (inl q) b t = omega (arith, occurs_in r.signal clock_part (subst (λ (k : ℕ). Mem k clock_part) (ap aim e) q))
        third (inr (inl q)) b t = first q b
        third (inr (inr q)) b t = second q b t

        some_clock : (b : Bool) → eqb p.output p.feedback ≡ b → 1 ≤ pick (eqb (aim (wires p.feedback)) r.signal) 1 0 + (occurs r.signal (out_part b) + occurs r.signal clock_part)
        some_clock b t = one (cases_cons h)
          where
            two : (w ≡ p.output) ⊎ Mem w p.more → 1 ≤ pick (eqb (aim (wires p.feedback)) r.signal) 1 0 + (occurs r.signal (out_part b) + occurs r.signal clock_part)
            two (inl q) = second q b t
            two (inr q) = third (clock_in wires p.feedback p.output p.more w q) b t

            one : (w ≡ p.feedback) ⊎ Mem w (p.output ∷ p.more) → 1 ≤ pick (eqb (aim (wires p.feedback)) r.signal) 1 0 + (occurs r.signal (out_part b) + occurs r.signal clock_part)
            one (inl q) = first q b
            one (inr q) = two (cases_cons q)

        in_pll : (base : ℕ) → 2 ≤ occurs r.signal (cell_aims wires base (pll p))
        in_pll base =
            omega (
              arith,
              some_clock (eqb p.output p.feedback) refl,
              hit p.locked same,
              occurs_append r.signal (out_part (eqb p.output p.feedback)) (clock_part ++ (aim (wires p.locked) ∷ [])),
              occurs_append r.signal clock_part (aim (wires p.locked) ∷ []),
            )

        twice : (base : ℕ) → 2 ≤ occurs r.signal (cell_aims wires base (get_or n.cells c absent))
        twice base = subst (λ (x : Cell). 2 ≤ occurs r.signal (cell_aims wires base x)) (sym is) (in_pll base)

-- EVERY OTHER SIGNAL HAS A STATEMENT

range_in : (base k s : ℕ) → base ≤ s → s < base + k → Mem s (range base k)
range_in base zero s l h = absurd (omega (arith, l, h))
range_in base (suc k) s l h = go (ℕ_discrete s base) (range_in (suc base) k s)
  where
    go : Dec (s ≡ base) → (suc base ≤ s → s < suc base + k → Mem s (range (suc base) k)) → Mem s (base ∷ range (suc base) k)
    go (yes e) f = here e
    go (no e) f = there (f (omega arith) (omega arith))

-- a word's signal is among its cell's targets
word_in : (m : Wires) (base s : ℕ) (x : Cell) → base ≤ s → s < base + word_signals x → Mem s (cell_aims m base x)
word_in m base s (lut4 i o t) l h = absurd (omega (arith, l, h))
word_in m base s (pfumx t f y o) l h = absurd (omega (arith, l, h))
word_in m base s (l6mux21 z y v o) l h = absurd (omega (arith, l, h))
word_in m base s (ccu2c u) l h = absurd (omega (arith, l, h))
word_in m base s (multiplier y r p) l h = absurd (omega (arith, l, h))
word_in m base s (flip_flop f) l h = absurd (omega (arith, l, h))
word_in m base s (block_ram r) l h = there (mem-right (second_aim m r.second) (range_in base r.depth s l h))
word_in m base s (distributed_ram r) l h = mem-left (aim (m (get_or r.output 0 0)) ∷ []) (range_in base 16 s l h)
word_in m base s (io p d i t) l h = absurd (omega (arith, l, h))
word_in m base s (jtagg ws) l h = absurd (omega (arith, l, h))
word_in m base s (pll p) l h = absurd (omega (arith, l, h))

words_in : (m : Wires) (base : ℕ) (xs : List Cell) (s : ℕ) → base ≤ s → s < base + total (map word_signals xs) → 1 ≤ occurs s (all_aims m base xs)
words_in m base [] s l h = absurd (omega (arith, l, h))
words_in m base (x ∷ xs) s l h = go (words_in m (base + word_signals x) xs s) (dec_lt s (base + word_signals x))
  where
    go : (base + word_signals x ≤ s → s < base + word_signals x + total (map word_signals xs) → 1 ≤ occurs s (all_aims m (base + word_signals x) xs)) → Dec (s < base + word_signals x) → 1 ≤ occurs s (cell_aims m base x ++ all_aims m (base + word_signals x) xs)
    go f (yes q) = omega (arith, occurs_append s (cell_aims m base x) (all_aims m (base + word_signals x) xs), occurs_in s (cell_aims m base x) (word_in m base s x l q))
    go f (no q) = omega (arith, occurs_append s (cell_aims m base x) (all_aims m (base + word_signals x) xs), f (omega arith) (omega (arith, h)))

words_length : (c : ℕ) (xs : List Cell) → length (all_words c xs) ≡ total (map word_signals xs)
words_length c [] = refl
words_length c (x ∷ xs) = omega (arith, length-append (cell_words c x) (all_words (suc c) xs), words_count c x, words_length (suc c) xs)

-- a port's signal: an input's, or an output's, on which a statement stands
port_driven : (p : ℕ) (ports : List Port) (i : ℕ) → i < length ports → ((get_or (port_signals p ports) i no_signal).label ≡ 0) ⊎ (1 ≤ occurs (p + i) (port_aims p ports))
port_driven p [] i h = absurd (not-suc-le-zero h)
port_driven p (x ∷ ports) zero h = go (eqb x.direction 1)
  where
    go : (b : Bool) → ((pick b (Rattle.lowering.specs.Reserve.signal_of 1 (length x.bits) p) (Rattle.lowering.specs.Reserve.signal_of 0 (length x.bits) p)).label ≡ 0) ⊎ (1 ≤ occurs (p + 0) (pick b (p ∷ []) [] ++ port_aims (suc p) ports))
    go true = inr (occurs_in (p + 0) (p ∷ port_aims (suc p) ports) (here (let z : p + 0 ≡ p = omega arith in z)))
    go false = inl refl
port_driven p (x ∷ ports) (suc i) h = go (port_driven (suc p) ports i (omega arith))
  where
    go : ((get_or (port_signals (suc p) ports) i no_signal).label ≡ 0) ⊎ (1 ≤ occurs (suc p + i) (port_aims (suc p) ports)) → ((get_or (port_signals (suc p) ports) i no_signal).label ≡ 0) ⊎ (1 ≤ occurs (p + suc i) (pick (eqb x.direction 1) (p ∷ []) [] ++ port_aims (suc p) ports))
    go (inl e) = inl e
    go (inr q) =
        let z : suc p + i ≡ p + suc i = omega arith in
        let q' : 1 ≤ occurs (p + suc i) (port_aims (suc p) ports) = subst (λ (k : ℕ). 1 ≤ occurs k (port_aims (suc p) ports)) z q in
        inr (omega (arith, occurs_append (p + suc i) (pick (eqb x.direction 1) (p ∷ []) []) (port_aims (suc p) ports), q'))

pub ports_long : (p : ℕ) (ports : List Port) → length (port_signals p ports) ≡ length ports
ports_long p [] = refl
ports_long p (x ∷ ports) = ap suc (ports_long (suc p) ports)

module _ {shared : ℕ} {limits : Limits} {n : Netlist} (a : Lowered shared limits n) where
  abbrev k₀ : ℕ
  k₀ = length (slots n)

  pub signals_count : length (lowered_model shared n).signals ≡ signal_count n
  signals_count = omega (arith, ap length (signals_are a), length-append (slot_signals a) (netlist_words n), slot_count a, words_length 0 n.cells)

  pub port_signal : (s : ℕ) → s < length n.ports → get_or (lowered_model shared n).signals s no_signal ≡ get_or (port_signals 0 n.ports) s no_signal
  unfolding slot_signals
  port_signal s h =
      slot_signal a s (omega (arith, h, ports_within n)) ∙ get_or-append (port_signals 0 n.ports) (kept a).more no_signal s (omega (arith, h, ports_long 0 n.ports))

  ported_driven : (s : ℕ) → s < length n.ports → ((get_or (lowered_model shared n).signals s no_signal).label ≡ 0) ⊎ (1 ≤ on_signal a s)
  ported_driven s h = go (port_driven 0 n.ports s h)
    where
      z : 0 + s ≡ s
      z = omega arith

      go : ((get_or (port_signals 0 n.ports) s no_signal).label ≡ 0) ⊎ (1 ≤ occurs (0 + s) (port_aims 0 n.ports)) → ((get_or (lowered_model shared n).signals s no_signal).label ≡ 0) ⊎ (1 ≤ on_signal a s)
      go (inl e) = inl (ap (λ (x : Signal). x.label) (port_signal s h) ∙ e)
      go (inr q) = let q' : 1 ≤ occurs s (port_aims 0 n.ports) = subst (λ (k : ℕ). 1 ≤ occurs k (port_aims 0 n.ports)) z q in inr (omega (arith, parts a s, q'))

  late_driven : (s : ℕ) → s < k₀ → Late n (get_or (slots n) s no_slot) → 1 ≤ on_signal a s
  late_driven s h (of_cell o) =
      let z : 0 + o.place ≡ o.place = omega arith in
      let p : Placed (slots n) (slot_of o.place o.of_group.group) = record { number = s; inside = h; is = o.of_group.is ∙ ap (λ (k : ℕ). slot_of k o.of_group.group) z } in
      omega (arith, parts a s, piece_in a.wires (suc (suc k₀)) n.cells o.place s o.inside (own a o.place o.of_group.group p o.inside o.of_group.one_of))
  late_driven s h (of_bank b q e) = omega (arith, parts a s, bank_own a b (record { number = s; inside = h; is = e }) q)

  constant_driven : (s : ℕ) → (s ≡ k₀) ⊎ (s ≡ suc k₀) → 1 ≤ on_signal a s
  unfolding on_signal
  constant_driven s (inl e) = occurs_in s (netlist_aims a.wires k₀ n) (here e)
  constant_driven s (inr e) = occurs_in s (netlist_aims a.wires k₀ n) (there (here e))

  word_driven : (s : ℕ) → suc (suc k₀) ≤ s → s < length (lowered_model shared n).signals → 1 ≤ on_signal a s
  word_driven s l h = omega (arith, parts a s, words_in a.wires (suc (suc k₀)) n.cells s l (omega (arith, h, signals_count)))

  driven : (s : ℕ) → s < length (lowered_model shared n).signals → ((get_or (lowered_model shared n).signals s no_signal).label ≡ 0) ⊎ (1 ≤ on_signal a s)
  driven s h = one (dec_lt s (length n.ports))
    where
      three : Dec (s ≡ k₀) → Dec (s ≡ suc k₀) → k₀ ≤ s → 1 ≤ on_signal a s
      three (yes e) d l = constant_driven s (inl e)
      three (no e) (yes d) l = constant_driven s (inr d)
      three (no e) (no d) l = word_driven s (omega arith) h

      two : length n.ports ≤ s → Dec (s < k₀) → 1 ≤ on_signal a s
      two p (yes l) = late_driven s l (slot_late n s p l)
      two p (no l) = three (ℕ_discrete s k₀) (ℕ_discrete s (suc k₀)) (omega arith)

      one : Dec (s < length n.ports) → ((get_or (lowered_model shared n).signals s no_signal).label ≡ 0) ⊎ (1 ≤ on_signal a s)
      one (yes p) = ported_driven s p
      one (no p) = inr (two (omega arith) (dec_lt s k₀))

  -- exactly one statement stands on a signal that is no input, and none on an input
  pub one_statement : (s : ℕ) → s < length (lowered_model shared n).signals → on_signal a s ≡ allowed (get_or (lowered_model shared n).signals s no_signal)
  one_statement s h = go (driven s h)
    where
      go : ((get_or (lowered_model shared n).signals s no_signal).label ≡ 0) ⊎ (1 ≤ on_signal a s) → on_signal a s ≡ allowed (get_or (lowered_model shared n).signals s no_signal)
      go (inl e) =
          let z : allowed (get_or (lowered_model shared n).signals s no_signal) ≡ 0 = ap {B = ℕ} (λ (b : Bool). pick b 0 1) (eq-eqb _ 0 e) in
          omega (arith, few a s h, z)
      go (inr q) = omega (arith, few a s h, q, few_allowed (get_or (lowered_model shared n).signals s no_signal))
