-- The model of an accepted netlist is sound: 12 never comes.
-- Assumes nothing.
use mathlib.Core.Path.{◌≡◌, refl, ap, ap₂, sym, ◌∙◌, subst}
use mathlib.Core.Logic.{◌⊎◌, inl, inr}
use mathlib.Core.Bool.{Bool, true, false, ◌&&◌}
use mathlib.Core.List.Memᴰ.{cases_cons}
use mathlib.Core.List.Memᴰ.{head as here}
use mathlib.Core.List.Memᴰ.{not-nil}
use mathlib.Core.List.{List, [], ◌∷◌, ◌++◌, map, append-nil, append_assoc, Memᴰ as Mem}
use Rattle.std.specs.Prelude.{Option, None, Some}
use Prim.Native.Nat.{ℕ, zero, suc, ◌+◌, ◌^◌, ◌≤◌, ◌<◌}
use native.Mathlib.Nat.{not-suc-le-zero}
use native.Mathlib.Omega.{arith}
use native.Mathlib.Decide.{dec_lt}
use lib.Dec.{eqb}
use lib.ListN.{length, get_or, replicate, length-append, length-map, get_or-map}
use borrow.Author.Tests.{eq-eqb, ne_eqb, le-leb, lt-ltb}
use Rattle.bits.specs.Bits.{pick}
use Rattle.netlist.specs.declared.Bit.TheVariants.{Wire}
use Rattle.netlist.specs.declared.Limits.{Limits}
use Rattle.netlist.specs.declared.Reset.{Reset}
use Rattle.netlist.specs.Netlist.{Port, SecondPort, FlipFlop, Netlist, Cell, lut4, pfumx, l6mux21, ccu2c, multiplier, flip_flop, block_ram, distributed_ram, io, jtagg, pll}
use Rattle.netlist.specs.Shape.{Each, each_at, FitsOption, FitsReset, FitsSecond, FitsCell, FitsPort}
use Rattle.recorder.specs.Record.{Signal, Expr, Expr.const, Expr.read, Expr.concat, Expr.not, Expr.and, Expr.or, Expr.xor, Expr.mux, Expr.eq, Expr.mul, RegReset, RegEnable, Stmt, Stmt.assign, Stmt.reg, target}
use Rattle.recorder.specs.Writer.{Event, Event.signal, Event.expr, Event.stmt, signals_of, exprs_of, stmts_of, further, Out}
use Rattle.behaviour.specs.Banks.{Member, Bank, outputs_of, async_reset, filter_async, collect_flip_flop_banks}
use Rattle.behaviour.specs.WireMap.{Source, inputs, shown, pins, bank, Slot, bank_slot, slots}
use Rattle.behaviour.specs.Behaviour.{absent}
use Rattle.behaviour.proofs.BankLaws.{Begins}
use Rattle.lowering.specs.Lower.{allowed, reserve_netlist, emit_netlist, lower_netlist}
use Rattle.simulation.specs.Wellformed.{count_of, statements, in_range, wide, broad, earlier, width_sum, expr_fits, suits, reset_fits, enable_fits, stmt_fits, signal_fits}
use Rattle.simulation.specs.Tick.{reads_all}
use Rattle.simulation.specs.Run.{expr_width}
use Rattle.simulation.specs.Sound.{AllFrom, signal_widths, expr_widths, on, drivers, Sound}
use Rattle.meaning.specs.Mapped.{LabelFits, WidthFits, no_slot, port_signals}
use Rattle.meaning.proofs.Whole.{lowering_is}
use Rattle.forms.specs.Groups.{Group, second_group, groups}
use Rattle.forms.specs.Acts.{targets, cell_words, all_words, netlist_words}
use Rattle.forms.specs.Typed.{Context, grow, grow_all, At, Sig, Typed₁, Grows, Numbered, Wide, GoodExpr, GoodReset, GoodEnable, GoodStmt, GoodAll, Wired}
use Rattle.forms.specs.Lowered.{none_yet, lowered_model, Lowered, Roomy}
use Rattle.forms.specs.Dependent.{first_word, MayRead}
use Rattle.forms.proofs.Slots.{Late, of_cell, of_bank, ports_first, ports_within, slot_late}
use Rattle.forms.proofs.Counting.{no_signal, occurs, kept, slot_signals, slot_count, signals_are, targets_are, on_signal, one_statement, slot_fits, slot_signal, PortSlot, gives, shows, port_slot, bank_is, apiece_wire, group_some, leader_there, port_signal, only_one}
use Rattle.forms.proofs.Fits.{grows_trans, grows_all, good_append}
use Rattle.forms.proofs.FitCells.{Levelled}
use Rattle.forms.proofs.FitLower.{FitsBank, PortsThere, Suited, fit_netlist}
use Rattle.forms.proofs.Suiting.{each_from, each_mem_in, at_wire, cells_suit, bank_suits, ports_suit}

-- WHAT A CONTEXT HOLDS

pub grown_signals : (c : Context) (es : List Event) → (grow_all c es).signals ≡ c.signals ++ map (λ (s : Signal). s.width) (signals_of es)
grown_signals c [] = sym (append-nil c.signals)
grown_signals c (signal s ∷ es) = grown_signals (grow c (signal s)) es ∙ append_assoc c.signals (s.width ∷ []) (map (λ (x : Signal). x.width) (signals_of es))
grown_signals c (expr x ∷ es) = grown_signals (grow c (expr x)) es
grown_signals c (stmt t ∷ es) = grown_signals (grow c (stmt t)) es

pub grown_exprs : (c : Context) (es : List Event) → (grow_all c es).exprs ≡ c.exprs ++ map expr_width (exprs_of es)
grown_exprs c [] = sym (append-nil c.exprs)
grown_exprs c (signal s ∷ es) = grown_exprs (grow c (signal s)) es
grown_exprs c (expr x ∷ es) = grown_exprs (grow c (expr x)) es ∙ append_assoc c.exprs (expr_width x ∷ []) (map expr_width (exprs_of es))
grown_exprs c (stmt t ∷ es) = grown_exprs (grow c (stmt t)) es

pub grown_reads : (c : Context) (es : List Event) → (grow_all c es).reads ≡ reads_all c.reads (exprs_of es)
unfolding reads_all
grown_reads c [] = refl
grown_reads c (signal s ∷ es) = grown_reads (grow c (signal s)) es
grown_reads c (expr x ∷ es) = grown_reads (grow c (expr x)) es
grown_reads c (stmt t ∷ es) = grown_reads (grow c (stmt t)) es

abbrev pub empty : Context
empty = record { signals = []; exprs = []; reads = [] }

-- TESTS

both : {a b : Bool} → a ≡ true → b ≡ true → a && b ≡ true
both {a} {b} p q = ap₂ ◌&&◌ p q

in_range_lem : {widest w : ℕ} → Wide widest w → in_range widest w ≡ true
in_range_lem {widest} {w} h = both (le-leb 1 w h.0) (le-leb w widest h.1)

-- F is the context in the end
module _ (widest words : ℕ) (D : ℕ → ℕ → Type 0) (F : Context) where
  abbrev sw : List ℕ
  sw = F.signals

  abbrev ew : List ℕ
  ew = F.exprs

  module _ (c : Context) (g : Grows c F) where
    abbrev k : ℕ
    k = length c.exprs

    is_wide : {a w : ℕ} → At c.exprs a w → wide ew k a w ≡ true
    is_wide {a} {w} h = both (lt-ltb a k h.there) (eq-eqb (get_or ew a 0) w (g.exprs a w h).width)

    is_earlier : (ps : List ℕ) → Typed₁ c ps → earlier k ps ≡ true
    is_earlier [] h = refl
    is_earlier (p ∷ ps) h = both (lt-ltb p k h.0.there) (is_earlier ps h.1)

    sum_is : (ps : List ℕ) → Typed₁ c ps → width_sum ew ps ≡ length ps
    sum_is [] h = refl
    sum_is (p ∷ ps) h = omega (arith, (g.exprs p 1 h.0).width, sum_is ps h.1)

    expr_fits_lem : (x : Expr) → GoodExpr widest words D c x → expr_fits widest sw ew k x ≡ true
    expr_fits_lem (const w v) h = both (in_range_lem h.0) (lt-ltb v (2 ^ w) h.1)
    expr_fits_lem (read w s l) h =
        let t = g.signals s h.1.0 h.1.1 in
        both (both (in_range_lem h.0) (lt-ltb s (length sw) t.there)) (le-leb (l + w) (get_or sw s 0) (omega (arith, h.1.2, t.width)))
    expr_fits_lem (concat w ps) h = both (both (in_range_lem h.0) (is_earlier ps h.2)) (eq-eqb (width_sum ew ps) w (sum_is ps h.2 ∙ sym h.1))
    expr_fits_lem (not a) h = is_wide h
    expr_fits_lem (and a b) h = both (is_wide h.0) (is_wide h.1)
    expr_fits_lem (or a b) h = both (is_wide h.0) (is_wide h.1)
    expr_fits_lem (xor a b) h = both (is_wide h.0) (is_wide h.1)
    expr_fits_lem (mux w s t f) h = both (both (both (in_range_lem h.0) (is_wide h.1)) (is_wide h.2)) (is_wide h.3)
    expr_fits_lem (eq a b) h = both (lt-ltb a k h.1.there) (subst (λ (w : ℕ). wide ew k b w ≡ true) (sym (g.exprs a h.0 h.1).width) (is_wide h.2))
    expr_fits_lem (mul a b) h = both (is_wide h.0) (is_wide h.1)

    is_broad : {s w : ℕ} → Sig c s w → broad sw s w ≡ true
    is_broad {s} {w} h = let t = g.signals s w h in both (lt-ltb s (length sw) t.there) (eq-eqb (get_or sw s 0) w t.width)

    is_suited : {t e w : ℕ} → Sig c t w → At c.exprs e w → suits sw ew t e ≡ true
    is_suited {t} {e} {w} ht he =
        let x = g.signals t w ht in
        let y = g.exprs e w he in
        both (lt-ltb t (length sw) x.there) (both (lt-ltb e (length ew) y.there) (eq-eqb (get_or ew e 0) (get_or sw t 0) (y.width ∙ sym x.width)))

    reset_fits_lem : (t w : ℕ) (r : Option RegReset) → Sig c t w → GoodReset c w r → reset_fits sw ew t r ≡ true
    reset_fits_lem t w None ht h = refl
    reset_fits_lem t w (Some r) ht h = both (both (is_broad h.0) (le-leb r.active 1 h.1)) (is_suited ht h.2)

    enable_fits_lem : (e : Option RegEnable) → GoodEnable c e → enable_fits sw e ≡ true
    enable_fits_lem None h = refl
    enable_fits_lem (Some e) h = both (is_broad h.0) (le-leb e.active 1 h.1)

    stmt_fits_lem : (t : Stmt) → GoodStmt widest words D c t → stmt_fits sw ew t ≡ true
    stmt_fits_lem (assign t e) h = is_suited h.1 h.2.typed
    stmt_fits_lem (reg t x q d r e) h = both (both (both (both (is_suited h.1 h.2) (is_broad h.3)) (le-leb d 1 h.4)) (reset_fits_lem t h.0 r h.1 h.5)) (enable_fits_lem e h.6)

  all_exprs : (c : Context) (es : List Event) → Grows (grow_all c es) F → GoodAll widest words D c es → AllFrom (expr_fits widest sw ew) (length c.exprs) (exprs_of es)
  all_exprs c [] g h = tt
  all_exprs c (signal s ∷ es) g h = all_exprs (grow c (signal s)) es g h.1
  all_exprs c (expr x ∷ es) g h = (
    expr_fits_lem c (grows_trans (grows_all c (expr x ∷ es)) g) x h.0,
    subst (λ (j : ℕ). AllFrom (expr_fits widest sw ew) j (exprs_of es)) (let q : length (c.exprs ++ (expr_width x ∷ [])) ≡ suc (length c.exprs) = omega (arith, length-append c.exprs (expr_width x ∷ [])) in q) (all_exprs (grow c (expr x)) es g h.1),
  )
  all_exprs c (stmt t ∷ es) g h = all_exprs c es g h.1

  all_stmts : (c : Context) (es : List Event) (j : ℕ) → Grows (grow_all c es) F → GoodAll widest words D c es → AllFrom (λ (i : ℕ). stmt_fits sw ew) j (stmts_of es)
  all_stmts c [] j g h = tt
  all_stmts c (signal s ∷ es) j g h = all_stmts (grow c (signal s)) es j g h.1
  all_stmts c (expr x ∷ es) j g h = all_stmts (grow c (expr x)) es j g h.1
  all_stmts c (stmt t ∷ es) j g h = (stmt_fits_lem c (grows_trans (grows_all c es) g) t h.0, all_stmts c es (suc j) g h.1)

  -- what an assignment's expression reads in the end
  pub assign_reads : (c : Context) (es : List Event) → Grows (grow_all c es) F → GoodAll widest words D c es → (t e : ℕ) → Mem (assign t e) (stmts_of es) → (y : ℕ) → Mem y (get_or F.reads e []) → D t y
  assign_reads c [] g h t e m y q = absurd (not-nil m)
  assign_reads c (signal s ∷ es) g h t e m y q = assign_reads (grow c (signal s)) es g h.1 t e m y q
  assign_reads c (expr x ∷ es) g h t e m y q = assign_reads (grow c (expr x)) es g h.1 t e m y q
  assign_reads c (stmt s ∷ es) g h t e m y q = go s h.0 (cases_cons m) (λ p. assign_reads c es g h.1 t e p y q)
    where
      go : (s : Stmt) → GoodStmt widest words D c s → (assign t e ≡ s) ⊎ Mem (assign t e) (stmts_of es) → (Mem (assign t e) (stmts_of es) → D t y) → D t y
      go s k (inr p) f = f p
      go (assign u v) k (inl p) f =
          let same_target : t ≡ u = cc in
          let same_expr : e ≡ v = cc in
          let r = (grows_trans (grows_all c es) g).reads v k.2.recorded in
          subst (λ (i : ℕ). D i y) (sym same_target) (k.2.only y (subst (λ (l : List ℕ). Mem y l) (ap (λ (i : ℕ). get_or F.reads i []) same_expr ∙ r.1) q))
      go (reg u a b d r x) k (inl p) f = absurd (let z : ◌≡◌ {A = ℕ} 0 1 = cc in omega arith)

  -- no assignment stands on a RAM word
  pub assign_under : (c : Context) (es : List Event) → GoodAll widest words D c es → (t e : ℕ) → Mem (assign t e) (stmts_of es) → t < words
  assign_under c [] h t e m = absurd (not-nil m)
  assign_under c (signal s ∷ es) h t e m = assign_under (grow c (signal s)) es h.1 t e m
  assign_under c (expr x ∷ es) h t e m = assign_under (grow c (expr x)) es h.1 t e m
  assign_under c (stmt s ∷ es) h t e m = go s h.0 (cases_cons m) (assign_under c es h.1 t e)
    where
      go : (s : Stmt) → GoodStmt widest words D c s → (assign t e ≡ s) ⊎ Mem (assign t e) (stmts_of es) → (Mem (assign t e) (stmts_of es) → t < words) → t < words
      go s k (inr p) f = f p
      go (assign u v) k (inl p) f = let same : t ≡ u = cc in omega (arith, k.3, same)
      go (reg u a b d r x) k (inl p) f = absurd (let z : ◌≡◌ {A = ℕ} 0 1 = cc in omega arith)

-- THE SIGNALS' WIDTHS AND LABELS

pub group_few : (limits : Limits) (x : Cell) (g : Group) → FitsCell limits x → Mem g (groups x) → length g.wires ≤ 36
group_few limits (lut4 i o t) g f h = omega (arith, ap (λ (y : Group). length y.wires) (only_one h))
group_few limits (pfumx t f' s o) g f h = omega (arith, ap (λ (y : Group). length y.wires) (only_one h))
group_few limits (l6mux21 z y' s o) g f h = omega (arith, ap (λ (y : Group). length y.wires) (only_one h))
group_few limits (ccu2c u) g f h = let r = apiece_wire (u.sum0 ∷ u.sum1 ∷ u.carry ∷ []) 0 g h in omega (arith, ap length r.2)
group_few limits (multiplier l r p) g f h = omega (arith, ap (λ (y : Group). length y.wires) (only_one h), f.2.0)
group_few limits (flip_flop f') g f h = absurd (not-nil h)
group_few limits (block_ram r) g f h = go (cases_cons h)
  where
    second : (o : Option SecondPort) → FitsOption (FitsSecond limits r.width) o → Mem g (second_group r.width o) → length g.wires ≤ 36
    second None k q = absurd (not-nil q)
    second (Some p) k q = omega (arith, ap (λ (y : Group). length y.wires) (only_one q), k.output.0, f.width.1)

    go : (g ≡ record { pin = 0; wires = r.output }) ⊎ Mem g (second_group r.width r.second) → length g.wires ≤ 36
    go (inl e) = omega (arith, ap (λ (y : Group). length y.wires) e, f.output.0, f.width.1)
    go (inr q) = second r.second f.second q
group_few limits (distributed_ram r) g f h = omega (arith, ap (λ (y : Group). length y.wires) (only_one h), f.output.0)
group_few limits (io p d i t) g f h = omega (arith, ap (λ (y : Group). length y.wires) (only_one h))
group_few limits (jtagg ws) g f h = let r = apiece_wire ws 0 g h in omega (arith, ap length r.2)
group_few limits (pll p) g f h = let r = apiece_wire (Rattle.behaviour.specs.WireMap.pll_wires p) 0 g h in omega (arith, ap length r.2)

abbrev pub no_port' : Port
no_port' = record { direction = 0; bits = [] }

pub port_width : (p : ℕ) (ports : List Port) (i : ℕ) → i < length ports → (get_or (port_signals p ports) i no_signal).width ≡ length (get_or ports i no_port').bits
port_width p [] i h = absurd (not-suc-le-zero h)
port_width p (x ∷ ports) zero h = go (eqb x.direction 1)
  where
    go : (b : Bool) → (pick b (Rattle.lowering.specs.Reserve.signal_of 1 (length x.bits) p) (Rattle.lowering.specs.Reserve.signal_of 0 (length x.bits) p)).width ≡ length x.bits
    go true = refl
    go false = refl
port_width p (x ∷ ports) (suc i) h = port_width (suc p) ports i (omega arith)

-- a signal that simulation accepts, but for its statements
pub record Plain (widest : ℕ) (s : Signal) : Type 0 where
  pub label : s.label ≤ 15
  pub width : Wide widest s.width

pub each_append : {A : Type 0} (P : A → Type 0) (xs ys : List A) → Each P xs → Each P ys → Each P (xs ++ ys)
each_append P [] ys f g = g
each_append P (x ∷ xs) ys f g = (f.0, each_append P xs ys f.1 g)

pub each_same : {A : Type 0} (P : A → Type 0) (k : ℕ) (x : A) → P x → Each P (replicate k x)
each_same P zero x h = tt
each_same P (suc k) x h = (h, each_same P k x h)

module _ (widest : ℕ) (limits : Limits) (room : 36 ≤ widest) where
  cell_words_plain : (c : ℕ) (x : Cell) → FitsCell limits x → Each (Plain widest) (cell_words c x)
  cell_words_plain c (lut4 i o t) f = tt
  cell_words_plain c (pfumx t g s o) f = tt
  cell_words_plain c (l6mux21 g t s o) f = tt
  cell_words_plain c (ccu2c u) f = tt
  cell_words_plain c (multiplier l r p) f = tt
  cell_words_plain c (flip_flop g) f = tt
  cell_words_plain c (block_ram r) f = each_same (Plain widest) r.depth _ (record { label = omega arith; width = (f.width.0, omega (arith, f.width.1, room)) })
  cell_words_plain c (distributed_ram r) f = each_same (Plain widest) 16 _ (record { label = omega arith; width = (omega arith, omega (arith, room)) })
  cell_words_plain c (io p d i t) f = tt
  cell_words_plain c (jtagg ws) f = tt
  cell_words_plain c (pll p) f = tt

  all_words_plain : (c : ℕ) (xs : List Cell) → Each (FitsCell limits) xs → Each (Plain widest) (all_words c xs)
  all_words_plain c [] f = tt
  all_words_plain c (x ∷ xs) f = each_append (Plain widest) (cell_words c x) (all_words (suc c) xs) (cell_words_plain c x f.0) (all_words_plain (suc c) xs f.1)

module _ {shared : ℕ} {limits : Limits} {n : Netlist} (a : Lowered shared limits n) {widest : ℕ} (r : Roomy limits widest) where
  abbrev s₀ : Signal
  s₀ = no_signal

  port_plain : (s : ℕ) → s < length n.ports → Wide widest (length (get_or n.ports s no_port').bits)
  port_plain s h = let f = each_at (FitsPort limits) n.ports s no_port' a.fits.ports h in (f.width.0, omega (arith, f.width.1, r.ports))

  bank_wide : (b : Bank) → Mem b (collect_flip_flop_banks n.cells) → Wide widest (length b.members)
  bank_wide b h =
      let f = bank_is a b h in
      (omega (arith, leader_there a b f.first, length-map b.members (λ (m : Member). m.flop.output)), omega (arith, f.few, a.fits.cell_count, r.banks))

  label_few : (x : Source) (l : ℕ) → LabelFits x l → l ≤ 15
  label_few (inputs k) l h = omega (arith, h)
  label_few shown l h = omega (arith, h)
  label_few (pins c k) l h = h.1
  label_few (bank cells) l h = h.1

  late_wide : (s : ℕ) → s < length (slots n) → Late n (get_or (slots n) s no_slot) → Wide widest (get_or (lowered_model shared n).signals s s₀).width
  late_wide s h (of_cell o) =
      let f = slot_fits a s h in
      let g = o.of_group.group in
      let e : (get_or (lowered_model shared n).signals s s₀).width ≡ length g.wires = subst (λ (x : Slot). WidthFits x.source (length x.bits) (get_or (lowered_model shared n).signals s s₀).width) o.of_group.is f.width ∙ length-map g.wires Wire in
      let q = each_at (FitsCell limits) n.cells o.place absent a.fits.cells o.inside in
      (omega (arith, e, group_some limits (get_or n.cells o.place absent) g q o.of_group.one_of), omega (arith, e, group_few limits (get_or n.cells o.place absent) g q o.of_group.one_of, r.products))
  late_wide s h (of_bank b q is) =
      let f = slot_fits a s h in
      let e : (get_or (lowered_model shared n).signals s s₀).width ≡ length b.members = subst (λ (x : Slot). WidthFits x.source (length x.bits) (get_or (lowered_model shared n).signals s s₀).width) is f.width ∙ length-map (outputs_of b.members) Wire ∙ length-map b.members (λ (m : Member). m.flop.output) in
      let w = bank_wide b q in
      (omega (arith, e, w.0), omega (arith, e, w.1))

  slot_wide : (s : ℕ) → s < length (slots n) → Wide widest (get_or (lowered_model shared n).signals s s₀).width
  slot_wide s h = go (dec_lt s (length n.ports))
    where
      go : Dec (s < length n.ports) → Wide widest (get_or (lowered_model shared n).signals s s₀).width
      go (yes q) =
          let e : (get_or (lowered_model shared n).signals s s₀).width ≡ length (get_or n.ports s no_port').bits = ap (λ (x : Signal). x.width) (port_signal a s q) ∙ port_width 0 n.ports s q in
          let w = port_plain s q in
          (omega (arith, e, w.0), omega (arith, e, w.1))
      go (no q) = late_wide s h (slot_late n s (omega arith) h)

  slot_plain : (s : ℕ) → s < length (slots n) → Plain widest (get_or (slot_signals a) s s₀)
  slot_plain s h = subst (Plain widest) (slot_signal a s h) (record { label = label_few (get_or (slots n) s no_slot).source _ (slot_fits a s h).label; width = slot_wide s h })

  slots_plain : Each (Plain widest) (slot_signals a)
  slots_plain = each_from a (Plain widest) s₀ (slot_signals a) (λ i h. slot_plain i (omega (arith, h, slot_count a)))

  pub signals_plain : Each (Plain widest) (lowered_model shared n).signals
  signals_plain =
      subst (Each (Plain widest)) (sym (signals_are a))
      (each_append (Plain widest) (slot_signals a) (netlist_words n) slots_plain
      (record { label = omega arith; width = (omega arith, omega (arith, r.products)) }, (record { label = omega arith; width = (omega arith, omega (arith, r.products)) }, all_words_plain widest limits r.products 0 n.cells a.fits.cells)))

  -- AFTER RESERVING

  abbrev es : List Event
  es = (reserve_netlist n none_yet).events

  abbrev c₀ : Context
  c₀ = grow_all empty es

  abbrev D : ℕ → ℕ → Type 0
  D = MayRead n a.wires

  reserved_signals : signals_of es ≡ slot_signals a
  unfolding slot_signals
  reserved_signals = (kept a).signals

  there_signals : c₀.signals ≡ map (λ (s : Signal). s.width) (slot_signals a)
  there_signals = grown_signals empty es ∙ ap (λ (l : List Signal). map (λ (s : Signal). s.width) l) reserved_signals

  there_count : length c₀.signals ≡ length (slots n)
  there_count = ap length there_signals ∙ length-map (slot_signals a) _ ∙ slot_count a

  signal_at : (s w : ℕ) → s < length (slots n) → (get_or (lowered_model shared n).signals s s₀).width ≡ w → Sig c₀ s w
  signal_at s w h e = record {
    there = omega (arith, h, there_count);
    width = ap (λ (l : List ℕ). get_or l s 0) there_signals ∙ get_or-map (λ (x : Signal). x.width) (slot_signals a) s s₀ ∙ ap (λ (x : Signal). x.width) (sym (slot_signal a s h)) ∙ e;
  }

  held_width : (s : ℕ) → s < length (slots n) → 1 ≤ length (get_or (slots n) s no_slot).bits → (get_or (lowered_model shared n).signals s s₀).width ≡ length (get_or (slots n) s no_slot).bits
  held_width s h some_bits = go (dec_lt s (length n.ports))
    where
      by_source : (x : Source) → (get_or (slots n) s no_slot).source ≡ x → WidthFits x (length (get_or (slots n) s no_slot).bits) (get_or (lowered_model shared n).signals s s₀).width
      by_source x e = subst (λ (y : Source). WidthFits y (length (get_or (slots n) s no_slot).bits) (get_or (lowered_model shared n).signals s s₀).width) e (slot_fits a s h).width

      ported : PortSlot (get_or (slots n) s no_slot) → (get_or (lowered_model shared n).signals s s₀).width ≡ length (get_or (slots n) s no_slot).bits
      ported (gives k e) = by_source (inputs k) e
      ported (shows e) = absurd (omega (arith, some_bits, ap length e))

      late : Late n (get_or (slots n) s no_slot) → (get_or (lowered_model shared n).signals s s₀).width ≡ length (get_or (slots n) s no_slot).bits
      late (of_cell o) = by_source (pins (0 + o.place) o.of_group.group.pin) (ap (λ (x : Slot). x.source) o.of_group.is)
      late (of_bank b q e) = by_source _ (ap (λ (x : Slot). x.source) e)

      go : Dec (s < length n.ports) → (get_or (lowered_model shared n).signals s s₀).width ≡ length (get_or (slots n) s no_slot).bits
      go (yes q) = ported (subst PortSlot (sym (ports_first n s q)) (port_slot n.ports 0 s q))
      go (no q) = late (slot_late n s (omega arith) h)

  wired : Wired c₀ a.wires
  wired w q e =
      let l = at_wire a w q e in
      (signal_at q.signal q.width l.inside (held_width q.signal l.inside (omega (arith, l.within)) ∙ sym l.width), omega (arith, l.within, l.width))

  leader_level : (f : FlipFlop) → FitsOption (FitsReset limits) f.reset → Levelled (async_reset f)
  leader_level f h = go f.reset h
    where
      two : (b : Bool) (q : Reset) → q.active ≤ 1 → Levelled (pick b (Some q) None)
      two true q l = l
      two false q l = tt

      go : (o : Option Reset) → FitsOption (FitsReset limits) o → Levelled (filter_async o)
      go None k = tt
      go (Some q) k = two (eqb q.asynchronous 1) q (omega (arith, k.active))

  leader_in : (b : Bank) → Begins b.leader b.members → Mem b.leader b.members
  leader_in b f = subst (λ (l : List Member). Mem b.leader l) (sym f.1) (here refl)

  fits_bank : (b : Bank) → Mem b (collect_flip_flop_banks n.cells) → FitsBank widest b
  fits_bank b h =
      let i = bank_is a b h in
      let c = (i.member b.leader (leader_in b i.first)).0 in
      let f = subst (FitsCell limits) c.is (each_at (FitsCell limits) n.cells b.leader.cell absent a.fits.cells c.inside) in
      record { wide = bank_wide b h; levelled = leader_level b.leader.flop f.reset; edge = omega (arith, f.edge) }

  ports_there : (p : ℕ) (xs : List Port) → ((i : ℕ) → i < length xs → Sig c₀ (p + i) (length (get_or xs i no_port').bits)) → PortsThere c₀ p xs
  ports_there p [] f = tt
  ports_there p (x ∷ xs) f = (
    subst (λ (k : ℕ). Sig c₀ k (length x.bits)) (let z : p + 0 ≡ p = omega arith in z) (f 0 (omega arith)),
    ports_there (suc p) xs (λ i h. subst (λ (k : ℕ). Sig c₀ k (length (get_or xs i no_port').bits)) (let z : p + suc i ≡ suc p + i = omega arith in z) (f (suc i) (omega arith))),
  )

  suited : Suited widest D (first_word n) limits n a.wires c₀
  suited = record {
    room = r.products;
    none_yet = grown_exprs empty es ∙ ap (λ (l : List Expr). map expr_width l) (kept a).exprs;
    wired = wired;
    many = omega (arith, there_count);
    under = λ w q e. omega (arith, (at_wire a w q e).inside);
    cells = a.fits.cells;
    cells_suit = cells_suit a;
    banks = each_mem_in a (FitsBank widest) (collect_flip_flop_banks n.cells) fits_bank;
    banks_suit = each_mem_in a _ (collect_flip_flop_banks n.cells) (bank_suits a);
    ports = each_from a (λ (x : Port). Wide widest (length x.bits)) no_port' n.ports port_plain;
    ports_suit = ports_suit a;
    ports_there = ports_there 0 n.ports (λ i h. signal_at (0 + i) (length (get_or n.ports i no_port').bits) (omega (arith, h, ports_within n))
        (ap (λ (k : ℕ). (get_or (lowered_model shared n).signals k s₀).width) (let z : 0 + i ≡ i = omega arith in z) ∙ ap (λ (x : Signal). x.width) (port_signal a i h) ∙ port_width 0 n.ports i h));
  }

  -- ALL RECORDS ARE GOOD

  signals_good : (c : Context) (xs : List Event) → exprs_of xs ≡ [] → stmts_of xs ≡ [] → Each (Plain widest) (signals_of xs) → GoodAll widest (first_word n) D c xs
  signals_good c [] e f h = tt
  signals_good c (signal s ∷ xs) e f h = (h.0.width, signals_good (grow c (signal s)) xs e f h.1)
  signals_good c (expr x ∷ xs) e f h = absurd (let z : suc (length (exprs_of xs)) ≡ 0 = ap length e in omega (arith, z))
  signals_good c (stmt t ∷ xs) e f h = absurd (let z : suc (length (stmts_of xs)) ≡ 0 = ap length f in omega (arith, z))

  abbrev rest : List Event
  rest = (emit_netlist shared n a.wires (further none_yet es)).events

  events_are : (lower_netlist shared n none_yet).events ≡ es ++ rest
  events_are = ap (λ (o : Out (Unit {0})). o.events) (lowering_is shared limits n a.fits.cells a.wires a.reserved)

  nothing_read : length (reads_all [] []) ≡ 0
  unfolding reads_all
  nothing_read = refl

  numbered : Numbered c₀ (further none_yet es)
  numbered = record {
    signals = omega (arith, there_count, ap length reserved_signals, slot_count a);
    exprs = omega (arith, ap length (kept a).exprs, ap length (grown_exprs empty es), length-map (exprs_of es) expr_width);
    reads = omega (arith, ap length (kept a).exprs, ap length (grown_reads empty es ∙ ap (reads_all []) (kept a).exprs), nothing_read);
  }

  pub lowering_good : GoodAll widest (first_word n) D empty (lower_netlist shared n none_yet).events
  lowering_good =
      subst (GoodAll widest (first_word n) D empty) (sym events_are)
      (good_append widest (first_word n) D empty es rest (signals_good empty es (kept a).exprs (kept a).stmts (subst (Each (Plain widest)) (sym reserved_signals) slots_plain))
      ((fit_netlist shared n a.wires suited).fit (further none_yet es) numbered).0)

  -- SOUND

  abbrev F : Context
  F = grow_all empty (lower_netlist shared n none_yet).events

  f_signals : F.signals ≡ signal_widths (lowered_model shared n)
  f_signals = grown_signals empty (lower_netlist shared n none_yet).events

  f_exprs : F.exprs ≡ expr_widths (lowered_model shared n)
  f_exprs = grown_exprs empty (lower_netlist shared n none_yet).events

  f_reads : F.reads ≡ reads_all [] (lowered_model shared n).exprs
  f_reads = grown_reads empty (lower_netlist shared n none_yet).events

  stays : Grows F F
  stays = record { signals = λ s w h. h; exprs = λ e w h. h; reads = λ e h. (h, refl); many = omega arith }

  count_occurs : (s : ℕ) (ts : List Stmt) → count_of (on s) ts ≡ occurs s (targets ts)
  count_occurs s [] = refl
  count_occurs s (t ∷ ts) = go (eqb (target t) s) (count_occurs s ts)
    where
      go : (b : Bool) → count_of (on s) ts ≡ occurs s (targets ts) → pick b (suc (count_of (on s) ts)) (count_of (on s) ts) ≡ pick b 1 0 + occurs s (targets ts)
      go true e = omega (arith, e)
      go false e = omega (arith, e)

  pub drivers_are : (s : ℕ) → s < length (lowered_model shared n).signals → drivers (lowered_model shared n) s ≡ allowed (get_or (lowered_model shared n).signals s s₀)
  unfolding on_signal
  drivers_are s h = count_occurs s (lowered_model shared n).stmts ∙ ap (occurs s) (targets_are a) ∙ one_statement a s h

  allowed_is : (x : Signal) → allowed x ≡ statements x.label
  allowed_is x = go x.label refl
    where
      go : (l : ℕ) → x.label ≡ l → allowed x ≡ statements l
      go zero e = ap {B = ℕ} (λ (b : Bool). pick b 0 1) (eq-eqb x.label 0 e)
      go (suc l) e = ap {B = ℕ} (λ (b : Bool). pick b 0 1) (ne_eqb x.label 0 (omega (arith, e)))

  signals_from : (j : ℕ) (xs : List Signal) → Each (Plain widest) xs → ((i : ℕ) → i < length xs → drivers (lowered_model shared n) (j + i) ≡ allowed (get_or xs i s₀)) → AllFrom (λ k. signal_fits widest (drivers (lowered_model shared n) k)) j xs
  signals_from j [] f g = tt
  signals_from j (x ∷ xs) f g = (
    both (both (le-leb x.label 15 f.0.label) (in_range_lem f.0.width)) (eq-eqb (drivers (lowered_model shared n) j) (statements x.label) (ap (drivers (lowered_model shared n)) (let z : j ≡ j + 0 = omega arith in z) ∙ g 0 (omega arith) ∙ allowed_is x)),
    signals_from (suc j) xs f.1 (λ i h. ap (drivers (lowered_model shared n)) (let z : suc j + i ≡ j + suc i = omega arith in z) ∙ g (suc i) (omega arith)),
  )

  -- every accepted model is sound
  pub lowered_sound : Sound widest (lowered_model shared n)
  lowered_sound = record {
    signals_fit = signals_from 0 (lowered_model shared n).signals signals_plain (λ i h. ap (drivers (lowered_model shared n)) (let z : 0 + i ≡ i = omega arith in z) ∙ drivers_are i h);
    exprs_fit = subst (λ (sw : List ℕ). AllFrom (expr_fits widest sw (expr_widths (lowered_model shared n))) 0 (lowered_model shared n).exprs) f_signals
        (subst (λ (ew : List ℕ). AllFrom (expr_fits widest F.signals ew) 0 (lowered_model shared n).exprs) f_exprs (all_exprs widest (first_word n) D F empty (lower_netlist shared n none_yet).events stays lowering_good));
    stmts_fit = subst (λ (sw : List ℕ). AllFrom (λ (i : ℕ). stmt_fits sw (expr_widths (lowered_model shared n))) 0 (lowered_model shared n).stmts) f_signals
        (subst (λ (ew : List ℕ). AllFrom (λ (i : ℕ). stmt_fits F.signals ew) 0 (lowered_model shared n).stmts) f_exprs (all_stmts widest (first_word n) D F empty (lower_netlist shared n none_yet).events 0 stays lowering_good));
  }

  -- and an assignment reads only what its target may depend on
  pub assigned_reads : (t e : ℕ) → Mem (assign t e) (lowered_model shared n).stmts → (y : ℕ) → Mem y (get_or (reads_all [] (lowered_model shared n).exprs) e []) → MayRead n a.wires t y
  assigned_reads t e h y q = assign_reads widest (first_word n) D F empty (lower_netlist shared n none_yet).events stays lowering_good t e h y (subst (λ (l : List (List ℕ)). Mem y (get_or l e [])) (sym f_reads) q)

  pub assigned_under : (t e : ℕ) → Mem (assign t e) (lowered_model shared n).stmts → t < first_word n
  assigned_under t e h = assign_under widest (first_word n) D F empty (lower_netlist shared n none_yet).events lowering_good t e h
