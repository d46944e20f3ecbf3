-- Ticks by a plan: inputs, registers and outputs make a tick, late; and the list of them. Assumes nothing.
use Prim.Native.Nat.{ℕ, suc, ◌+◌, ◌-◌, ◌*◌, ◌/◌, ◌≤◌, ◌<◌, min}
use mathlib.Core.Path.{◌≡◌, refl, sym, ◌∙◌, ap, ap₂, subst}
use mathlib.Core.Bool.{Bool, true, false, not, ◌||◌, false≢true}
use mathlib.Core.List.{List, [], ◌∷◌, ◌++◌, map, append_assoc}
use Rattle.std.specs.Prelude.{Option, None, Some, IfSome}
use native.Mathlib.Omega.{arith}
use lib.Dec.{eqb}
use borrow.Author.Tests.{eqb-true}
use lib.ListN.{length, get_or, take, drop, length-map, length-append}
use lib.Seq.{take_at, drop_at}
use Rattle.bits.specs.Bits.{Bits, digit, pick}
use Rattle.settle.specs.Table.{length_tab}
use Rattle.recorder.specs.Record.{Signal, Model}
use Rattle.recorder.specs.Lists.{Lists, lists, over}
use Rattle.recorder.specs.Read.{model_of}
use Rattle.recorder.specs.Words.{raw_of}
use Rattle.simulation.specs.Wellformed.{largest, malformed, first_fault}
use Rattle.simulation.specs.Tick.{Firing, settle, commit, set_inputs, tick, looped}
use Rattle.simulation.specs.Run.{is_one, firing, input_width, total, tick_bits, flat}
use Rattle.simulation.specs.Shown.{shown_bytes}
use Rattle.simulation.specs.Index.{records_in, widths_in, offset}
use Rattle.simulation.specs.Sound.{Sound}
use Rattle.simulation.proofs.Flat.{Wide}
use Rattle.simulation.proofs.Sound.{sound}
use Rattle.simulation.proofs.Found.{faultless, signals_wide, signals_count, stmts_count}
use Rattle.simulation.proofs.Steps.{length_widths}
use Rattle.evaluation.specs.Bytes.{Holds}
use Rattle.evaluation.specs.Ready.{Prepared, model_in}
use Rattle.evaluation.specs.Ticks.{Filled, signals_in, Inputs, Settled, Ticks}
use Rattle.evaluation.specs.Late.{SameFree, Output, Late, StoresListed, LoadsListed, TicksLate}
use Rattle.evaluation.proofs.Held.{holds_length, map_append, flat_total}
use Rattle.evaluation.proofs.Whole.{is_sound}
use Rattle.evaluation.proofs.Calling.{holds_same, holds_state as state_of, holds_behind as behind_of, holds_ticked}
use Rattle.evaluation.proofs.Late.{settle_free, settled_so, loaded_late, shown_late, tick_free, late_itself, late_free}
use Rattle.coding.specs.Coded.{SettlesCode}
use Rattle.runner.specs.declared.code.Code.{Code}
use Rattle.runner.specs.Calls.{fired_by, handed, output_width, answer_words}
use Rattle.runner.specs.Plan.{controls_at, outputs_at, first_at, second_at, Planned}
use Rattle.runner.specs.Parts.{tick_causes, RunsTick, LoadsAfter, ShowsAfter, RunsLate, is_made, finished, Finishes, RunsTicks}
use Rattle.runner.proofs.Ticking.{good_ticks, handed_made}
use Rattle.runner.proofs.Running.{Running, running_start, running_end, running_step}

-- WHAT IS FILLED STAYS SO

pub code_fills : {signals exprs stmts order : List ℕ} {from k : ℕ} {bytes values' : List ℕ} → Filled (widths_in signals) bytes → SettlesCode signals exprs stmts order from k bytes values' → Filled (widths_in exprs) values'
code_fills f s = let v = s.settles_code f.values f.rest f.holds in record { values = v.0; rest = v.1; holds = v.2 }

pub after_fills : {signals exprs stmts : List ℕ} {fires : Firing} {bytes bytes' : List ℕ} → Filled (widths_in signals) bytes → LoadsAfter signals exprs stmts fires bytes bytes' → Filled (widths_in signals) bytes'
after_fills f s = let v = s.loads_after f.values f.rest f.holds in record { values = v.0; rest = f.rest; holds = v.1 }

-- a plan asks only for room in the values
pub planned_kept : {signals exprs stmts : List ℕ} {n s : ℕ} {c : Code} {order values values' : List ℕ} → Planned signals exprs stmts n s c order values → length values' ≡ length values → Planned signals exprs stmts n s c order values'
planned_kept p l = record {
  room = p.room;
  base_is = p.base_is;
  state_is = p.state_is;
  values_room = let h = p.values_room in omega (arith, h, l);
  registers = p.registers;
  controls = p.controls;
  outputs = p.outputs;
  registers_few = p.registers_few;
  controls_few = p.controls_few;
  outputs_few = p.outputs_few;
  first = p.first;
  second = p.second;
  loaded_coded = p.loaded_coded;
  controls_coded = p.controls_coded;
  outputs_coded = p.outputs_coded;
}

pub plan_kept : (signals exprs stmts order values values' : List ℕ) (n s : ℕ) (o : Option Code) → IfSome o (λ c. Planned signals exprs stmts n s c order values) → length values' ≡ length values → IfSome o (λ c. Planned signals exprs stmts n s c order values')
plan_kept signals exprs stmts order values values' n s None p l = tt
plan_kept signals exprs stmts order values values' n s (Some c) p l = planned_kept p l

-- THE PARTS OF A TICK

module _ {signals exprs stmts expr_table signal_table : List ℕ} (p : Prepared signals exprs stmts expr_table signal_table) (q : looped (model_in signals exprs stmts) ≡ None) where
  abbrev m : Model
  m = model_in signals exprs stmts

  held_long : {old : List Bits} {behind bytes : List ℕ} → Holds (widths_in signals) old behind bytes → length old ≡ length (model_in signals exprs stmts).signals
  held_long h = holds_length h ∙ length_widths signals ∙ sym (signals_count p.widest (lists signals exprs stmts) p.faultless)

  stmts_are : length (model_in signals exprs stmts).stmts ≡ length (records_in stmts)
  stmts_are = stmts_count p.widest (lists signals exprs stmts) p.faultless

  module _ {n s : ℕ} {c : Code} {order values₀ : List ℕ} (pl : Planned signals exprs stmts n s c order values₀) where
    -- the registers
    pub loads_late : {fires : Firing} {bytes b₁ b₂ values : List ℕ} → SettlesCode signals exprs stmts order (first_at n s) c.first bytes values → StoresListed signals exprs stmts order (controls_at n s) c.controls values bytes b₁ → LoadsListed signals exprs stmts fires values b₁ b₂ → LoadsAfter signals exprs stmts fires bytes b₂
    unfolding model_of
    loads_late {fires} {bytes} {b₁} {b₂} {values} sc st ld = record { loads_after = after }
      where
        after : (old : List Bits) (behind : List ℕ) → Holds (widths_in signals) old behind bytes → (late : List Bits) × Holds (widths_in signals) late behind b₂ × SameFree (model_in signals exprs stmts) late (commit (model_in signals exprs stmts) fires (settle (model_in signals exprs stmts) old))
        after old behind ho =
            let t = sc.settles_code old behind ho in
            let a = st.stores_listed old t.0 behind t.1 ho t.2 in
            let b = ld.loads_listed a.0 t.0 behind t.1 a.1 t.2 in (
              b.0,
              b.1,
              loaded_late p.widest m (is_sound p) q old (held_long ho) t.0 a.0 (held_long a.1) a.3 fires
                  (λ k x l z. settled_so p.widest m (is_sound p) q old (held_long ho) t.0 a.0 (held_long a.1) a.3 x
                  (λ d w. a.2 x d (pl.controls.all_asked k x (omega (arith, l, stmts_are)) z) w)
                  (λ d w. t.3 d (pl.controls_coded x d (pl.controls.all_asked k x (omega (arith, l, stmts_are)) z) w)))
                  (λ k e l z. t.3 e (pl.loaded_coded e (record { number = k; there = omega (arith, l, stmts_are); loaded = z })))
                  (held_long b.1) b.2,
            )

    -- the outputs
    pub shows_late : {bytes b₁ values : List ℕ} → SettlesCode signals exprs stmts order (second_at n s) c.second bytes values → StoresListed signals exprs stmts order (outputs_at n s) c.outputs values bytes b₁ → ShowsAfter signals exprs stmts bytes b₁
    unfolding model_of
    shows_late {bytes} {b₁} {values} sc st = record { shows_after = after }
      where
        after : (old : List Bits) (behind : List ℕ) → Holds (widths_in signals) old behind bytes → (late : List Bits) × Holds (widths_in signals) late behind b₁ × Late (model_in signals exprs stmts) (settle (model_in signals exprs stmts) old) late
        after old behind ho =
            let t = sc.settles_code old behind ho in
            let a = st.stores_listed old t.0 behind t.1 ho t.2 in (
              a.0,
              a.1,
              shown_late p.widest m (is_sound p) q old (held_long ho) t.0 a.0 (held_long a.1) a.3
                  (λ x d o w. a.2 x d (pl.outputs.all_outputs x o) w)
                  (λ x d o w. t.3 d (pl.outputs_coded x d (pl.outputs.all_outputs x o) w)),
            )

  -- all of it
  pub late_made : {ticks : List ℕ} {fires : Firing} {bytes b₁ b₂ b₃ : List ℕ} → Inputs signals ticks bytes b₁ → LoadsAfter signals exprs stmts fires b₁ b₂ → ShowsAfter signals exprs stmts b₂ b₃ → TicksLate signals exprs stmts ticks fires bytes b₃
  unfolding tick model_of
  late_made {ticks} {fires} {bytes} {b₁} {b₂} {b₃} i a b = record { ticks_late = made }
    where
      made : (old : List Bits) (behind : List ℕ) → Holds (widths_in signals) old behind bytes → (late : List Bits) × Holds (widths_in signals) late behind b₃ × Late (model_in signals exprs stmts) (tick (model_in signals exprs stmts) (map is_one ticks) fires old) late
      made old behind ho =
          let h₁ = i.inputs old behind ho in
          let x = a.loads_after _ behind h₁ in
          let y = b.shows_after x.0 behind x.1 in
          (y.0, y.1, subst (λ (t : List Bits). Late m t y.0) (settle_free p.widest m (is_sound p) q (held_long x.1) x.2) y.2)

  -- a tick that stores everything
  pub late_whole : {ticks : List ℕ} {fires : Firing} {bytes bytes' : List ℕ} → Ticks signals exprs stmts ticks fires bytes bytes' → TicksLate signals exprs stmts ticks fires bytes bytes'
  unfolding tick commit
  late_whole {ticks} {fires} t = record {
    ticks_late = λ old behind ho. (tick m (map is_one ticks) fires old, t.ticks_to old behind ho, late_itself p.widest m (is_sound p) q (commit m fires (settle m (set_inputs m.signals (map is_one ticks) old))) (length_tab _ 0 (length m.signals)));
  }

  -- behind the last tick
  pub finishes_late : {late : Bool} {bytes bytes' values' : List ℕ} → not late ≡ false → Settled signals exprs stmts bytes bytes' values' → Finishes signals exprs stmts late bytes bytes'
  finishes_late {late = true} z s = record { finishes = s.signals_hold }
  finishes_late {late = false} z s = absurd (false≢true (sym z))

pub finishes_none : {signals exprs stmts bytes : List ℕ} {late : Bool} → not late ≡ true → Finishes signals exprs stmts late bytes bytes
finishes_none {late = false} z = record { finishes = λ old behind h. h }
finishes_none {late = true} z = absurd (false≢true z)

module _ {signals exprs stmts ticks : List ℕ} {fired : Option (ℕ × ℕ)} {bytes : List ℕ} where
  pub late_refused : (r : ℕ × ℕ) → RunsLate signals exprs stmts ticks fired (Some r) bytes bytes
  late_refused r = record { runs_late = λ old behind ho. (old, ho, refl) }

  late_runs : {bytes' : List ℕ} → TicksLate signals exprs stmts ticks (firing fired) bytes bytes' → RunsLate signals exprs stmts ticks fired None bytes bytes'
  late_runs t = record { runs_late = λ old behind ho. t.ticks_late old behind ho }

-- of a tick that is made all bits were there
pub late_handed : {signals exprs stmts ticks : List ℕ} {fired : Option (ℕ × ℕ)} {bytes bytes' : List ℕ} (inputs asked count : ℕ) → None ≡ tick_causes count inputs (handed inputs asked ticks) fired → TicksLate signals exprs stmts ticks (firing fired) bytes bytes' → RunsLate signals exprs stmts (handed inputs asked ticks) fired None bytes bytes'
late_handed {signals} {exprs} {stmts} {ticks} {fired} {bytes} {bytes'} inputs asked count h t =
    subst (λ (x : List ℕ). RunsLate signals exprs stmts x fired None bytes bytes') (sym (handed_made inputs asked ticks count fired h)) (late_runs t)

-- A LIST OF THEM

-- bytes that hold a state, and those that are held for it
pub record Lags (l : Lists) (late : Bool) (meant bytes : List ℕ) : Type 0 where
  pub state : List Bits
  pub held : List Bits
  pub behind : List ℕ
  pub holds_state : Holds (widths_in l.signals) state behind meant
  pub holds_held : Holds (widths_in l.signals) held behind bytes
  pub free : SameFree (model_of (raw_of l)) state held
  pub settles_to : finished (model_of (raw_of l)) late held ≡ state
  pub outputs : (s : ℕ) → Output (model_of (raw_of l)).signals s → get_or held s [] ≡ get_or state s []

pub lags_start : {l : Lists} {bytes : List ℕ} → Filled (widths_in l.signals) bytes → Lags l false bytes bytes
lags_start f = record { state = f.values; held = f.values; behind = f.rest; holds_state = f.holds; holds_held = f.holds; free = record { as_many = refl; free = λ s z. refl }; settles_to = refl; outputs = λ s o. refl }

pub lags_filled : {l : Lists} {late : Bool} {meant bytes : List ℕ} → Lags l late meant bytes → Filled (widths_in l.signals) bytes
lags_filled g = record { values = g.held; rest = g.behind; holds = g.holds_held }

pub lags_meant : {l : Lists} {late : Bool} {meant bytes : List ℕ} → Lags l late meant bytes → Filled (widths_in l.signals) meant
lags_meant g = record { values = g.state; rest = g.behind; holds = g.holds_state }

-- the outputs' bytes

shown_same : (ss : List Signal) (a b : List Bits) (x y : List ℕ) → Wide (map (λ (s : Signal). s.width) ss) a → Wide (map (λ (s : Signal). s.width) ss) b → ((i : ℕ) → Output ss i → get_or a i [] ≡ get_or b i []) → shown_bytes ss (map digit (flat a) ++ x) ≡ shown_bytes ss (map digit (flat b) ++ y)
shown_same [] a b x y u v g = refl
shown_same (s ∷ ss) [] b x y u v g = elim u [ ]
shown_same (s ∷ ss) (p ∷ a) [] x y u v g = elim v [ ]
shown_same (s ∷ ss) (p ∷ a) (q ∷ b) x y u v g = go (eqb s.label 1) refl (shown_same ss a b x y u.1 v.1 (λ i o. g (suc i) (record { there = omega (arith, o.there); labelled = o.labelled })))
  where
    front : (p : Bits) (a : List Bits) (x : List ℕ) → map digit (flat (p ∷ a)) ++ x ≡ map digit p ++ (map digit (flat a) ++ x)
    front p a x = ap (λ (l : List ℕ). l ++ x) (map_append digit p (flat a)) ∙ append_assoc (map digit p) (map digit (flat a)) x

    taken : (p : Bits) (a : List Bits) (x : List ℕ) → length p ≡ s.width → take s.width (map digit (flat (p ∷ a)) ++ x) ≡ map digit p
    taken p a x l = ap (take s.width) (front p a x) ∙ take_at (map digit p) (map digit (flat a) ++ x) s.width (length-map p digit ∙ l)

    dropped : (p : Bits) (a : List Bits) (x : List ℕ) → length p ≡ s.width → drop s.width (map digit (flat (p ∷ a)) ++ x) ≡ map digit (flat a) ++ x
    dropped p a x l = ap (drop s.width) (front p a x) ∙ drop_at (map digit p) (map digit (flat a) ++ x) s.width (length-map p digit ∙ l)

    rest : shown_bytes ss (map digit (flat a) ++ x) ≡ shown_bytes ss (map digit (flat b) ++ y) → shown_bytes ss (drop s.width (map digit (flat (p ∷ a)) ++ x)) ≡ shown_bytes ss (drop s.width (map digit (flat (q ∷ b)) ++ y))
    rest ih = ap (shown_bytes ss) (dropped p a x u.0) ∙ ih ∙ sym (ap (shown_bytes ss) (dropped q b y v.0))

    go : (t : Bool) → eqb s.label 1 ≡ t → shown_bytes ss (map digit (flat a) ++ x) ≡ shown_bytes ss (map digit (flat b) ++ y)
        → pick t (take s.width (map digit (flat (p ∷ a)) ++ x) ∷ shown_bytes ss (drop s.width (map digit (flat (p ∷ a)) ++ x))) (shown_bytes ss (drop s.width (map digit (flat (p ∷ a)) ++ x)))
        ≡ pick t (take s.width (map digit (flat (q ∷ b)) ++ y) ∷ shown_bytes ss (drop s.width (map digit (flat (q ∷ b)) ++ y))) (shown_bytes ss (drop s.width (map digit (flat (q ∷ b)) ++ y)))
    go true z ih =
        ap₂ ◌∷◌ (taken p a x u.0 ∙ ap (map digit) (g 0 (record { there = omega arith; labelled = eqb-true s.label 1 z })) ∙ sym (taken q b y v.0)) (rest ih)
    go false z ih = rest ih

-- after one tick
pub record Next (l : Lists) (ticks : List ℕ) (fired : Option (ℕ × ℕ)) (meant : List ℕ) (a : Option (ℕ × ℕ)) (late : Bool) (bytes : List ℕ) : Type 0 where
  pub meant' : List ℕ
  pub ran : RunsTick l.signals l.exprs l.stmts ticks fired a meant meant'
  pub lags : Lags l late meant' bytes

module _ (l : Lists) (h : malformed largest l ≡ None) (u : looped (model_of (raw_of l)) ≡ None) where
  abbrev M : Model
  M = model_of (raw_of l)

  fine : first_fault largest (raw_of l) ≡ None
  fine = faultless largest l h

  good : Sound largest (model_of (raw_of l))
  good = sound largest (raw_of l) (faultless largest l h)

  long : {old : List Bits} {behind bytes : List ℕ} → Holds (widths_in l.signals) old behind bytes → length old ≡ length (model_of (raw_of l)).signals
  long ho = holds_length ho ∙ length_widths l.signals ∙ sym (signals_count largest l fine)

  -- the same outputs
  pub lags_shown : {late : Bool} {meant bytes : List ℕ} → Lags l late meant bytes → shown_bytes (signals_in l.signals) bytes ≡ shown_bytes (signals_in l.signals) meant
  unfolding model_of
  lags_shown {late} {meant} {bytes} g =
      ap (shown_bytes (signals_in l.signals)) g.holds_held.begin
      ∙ shown_same (signals_in l.signals) g.held g.state g.behind g.behind
      (subst (λ (ws : List ℕ). Wide ws g.held) (signals_wide largest l fine) g.holds_held.wide)
      (subst (λ (ws : List ℕ). Wide ws g.state) (signals_wide largest l fine) g.holds_state.wide)
      g.outputs
      ∙ sym (ap (shown_bytes (signals_in l.signals)) g.holds_state.begin)

  -- the state in the end
  pub lags_end : {late : Bool} {meant bytes bytes' : List ℕ} → Lags l late meant bytes → Finishes l.signals l.exprs l.stmts late bytes bytes' → bytes' ≡ meant
  lags_end {late} {meant} {bytes} {bytes'} g f = holds_same (subst (λ (t : List Bits). Holds (widths_in l.signals) t g.behind bytes') g.settles_to (f.finishes g.held g.behind g.holds_held)) g.holds_state

  -- one tick
  module _ {late : Bool} {meant bytes : List ℕ} (g : Lags l late meant bytes) (count : ℕ) {inputs : ℕ} (hi : inputs ≡ total input_width (signals_in l.signals)) {ticks : List ℕ} {fired : Option (ℕ × ℕ)} where
    next : {bytes' : List ℕ} (a : Option (ℕ × ℕ)) → a ≡ tick_causes count inputs ticks fired → RunsLate l.signals l.exprs l.stmts ticks fired a bytes bytes' → {late' : Bool} → late' ≡ (late || is_made a) → Next l ticks fired meant a late' bytes'
    unfolding model_of
    next {bytes'} (Some r) ha w {late'} e = record {
      meant' = meant;
      ran = record { runs = λ old behind ho. ho };
      lags =
          let t = w.runs_late g.held g.behind g.holds_held in
          subst (λ (b : Bool). Lags l b meant bytes') (same late ∙ sym e)
          (record { state = g.state; held = g.held; behind = g.behind; holds_state = g.holds_state; holds_held = subst (λ (x : List Bits). Holds (widths_in l.signals) x g.behind bytes') t.2 t.1; free = g.free; settles_to = g.settles_to; outputs = g.outputs });
    }
      where
        same : (b : Bool) → b ≡ (b || false)
        same true = refl
        same false = refl
    next {bytes'} None ha w {late'} e = record {
      meant' = map digit (flat T) ++ g.behind;
      ran = record { runs = λ old behind ho. moved old behind ho };
      lags = subst (λ (b : Bool). Lags l b (map digit (flat T) ++ g.behind) bytes') (same late ∙ sym e)
          (record { state = T; held = t.0; behind = g.behind; holds_state = held; holds_held = t.1; free = late_free largest M good u (long t.1) lately; settles_to = lately.settles_to; outputs = lately.outputs });
    }
      where
        same : (b : Bool) → true ≡ (b || true)
        same true = refl
        same false = refl

        T : List Bits
        T = tick (model_of (raw_of l)) (map is_one ticks) (firing fired) g.state

        enough : tick_bits (model_of (raw_of l)) ≤ length (map is_one ticks)
        enough = omega (arith, length-map ticks is_one, (good_ticks l.signals ticks fired count inputs hi (sym ha)).right_count)

        held : Holds (widths_in l.signals) (tick (model_of (raw_of l)) (map is_one ticks) (firing fired) g.state) g.behind (map digit (flat (tick (model_of (raw_of l)) (map is_one ticks) (firing fired) g.state)) ++ g.behind)
        held = holds_ticked largest l fine g.holds_state (map is_one ticks) (firing fired) enough

        t : (x : List Bits) × Holds (widths_in l.signals) x g.behind bytes' × Late (model_of (raw_of l)) (tick (model_of (raw_of l)) (map is_one ticks) (firing fired) g.held) x
        t = w.runs_late g.held g.behind g.holds_held

        lately : Late (model_of (raw_of l)) (tick (model_of (raw_of l)) (map is_one ticks) (firing fired) g.state) (w.runs_late g.held g.behind g.holds_held).0
        lately = subst (λ (x : List Bits). Late M x (w.runs_late g.held g.behind g.holds_held).0) (sym (tick_free largest M good u (long g.holds_state) g.free (map is_one ticks) (firing fired))) t.2

        moved : (old : List Bits) (behind : List ℕ) → Holds (widths_in l.signals) old behind meant → Holds (widths_in l.signals) (tick (model_of (raw_of l)) (map is_one ticks) (firing fired) old) behind (map digit (flat (tick (model_of (raw_of l)) (map is_one ticks) (firing fired) g.state)) ++ g.behind)
        moved old behind ho =
            subst (λ (x : List Bits). Holds (widths_in l.signals) (tick M (map is_one ticks) (firing fired) x) behind (map digit (flat T) ++ g.behind)) (sym (state_of largest l fine g.holds_state) ∙ state_of largest l fine ho)
            (subst (λ (b : List ℕ). Holds (widths_in l.signals) T b (map digit (flat T) ++ g.behind)) (sym (behind_of largest l fine g.holds_state) ∙ behind_of largest l fine ho) held)

    pub lags_next : {bytes' : List ℕ} {a : Option (ℕ × ℕ)} → a ≡ tick_causes count inputs ticks fired → RunsLate l.signals l.exprs l.stmts ticks fired a bytes bytes' → {late' : Bool} → late' ≡ (late || is_made a) → Next l ticks fired meant a late' bytes'
    lags_next {bytes'} {a} ha w e = next a ha w e

  -- as many bytes
  pub lags_long : {late : Bool} {meant bytes : List ℕ} → Lags l late meant bytes → length bytes ≡ length meant
  lags_long g = count g.holds_held ∙ sym (count g.holds_state)
    where
      count : {old : List Bits} {behind bytes : List ℕ} → Holds (widths_in l.signals) old behind bytes → length bytes ≡ offset (widths_in l.signals) (length (widths_in l.signals)) + length behind
      count {old} {behind} ho = ap length ho.begin ∙ length-append (map digit (flat old)) behind ∙ ap (λ (i : ℕ). i + length behind) (length-map (flat old) digit ∙ flat_total (widths_in l.signals) old ho.wide)

-- ALL TICKS

-- i ticks are made, late
pub record Along (l : Lists) (heads bits bytes₀ bytes answers₀ answers shown₀ shown : List ℕ) (at pos to i : ℕ) (late : Bool) : Type 0 where
  pub meant : List ℕ
  pub running : Running l heads bits bytes₀ meant answers₀ answers shown₀ shown at pos to i
  pub lags : Lags l late meant bytes

pub along_start : {l : Lists} (heads bits : List ℕ) {bytes₀ : List ℕ} (answers₀ shown₀ : List ℕ) → Filled (widths_in l.signals) bytes₀ → Along l heads bits bytes₀ bytes₀ answers₀ answers₀ shown₀ shown₀ 0 0 0 0 false
along_start heads bits {bytes₀} answers₀ shown₀ f = record { meant = bytes₀; running = running_start heads bits bytes₀ answers₀ shown₀; lags = lags_start f }

module _ {l : Lists} {heads bits bytes₀ bytes answers₀ answers shown₀ shown : List ℕ} {at pos to i : ℕ} {late : Bool} (g : Along l heads bits bytes₀ bytes answers₀ answers shown₀ shown at pos to i late)
    (h : malformed largest l ≡ None) (u : looped (model_of (raw_of l)) ≡ None) where
  pub along_long : length bytes ≡ length bytes₀
  along_long = lags_long l h u g.lags ∙ g.running.bytes_long

  pub along_end : length heads / 3 ≤ i → {bytes' : List ℕ} → Finishes l.signals l.exprs l.stmts late bytes bytes' → RunsTicks l heads bits bytes₀ bytes' answers₀ answers shown₀ shown
  along_end q {bytes'} f = subst (λ (b : List ℕ). RunsTicks l heads bits bytes₀ b answers₀ answers shown₀ shown) (sym (lags_end l h u g.lags f)) (running_end g.running q)

  pub along_next : (q : i < length heads / 3) {count inputs : ℕ} (hc : count ≡ length (records_in l.signals)) (hi : inputs ≡ total input_width (signals_in l.signals))
      {end : ℕ} (he : end ≡ min (pos + get_or heads at 0) (length bits)) {ticks : List ℕ} (ht : ticks ≡ handed inputs (get_or heads at 0) (take (end - pos) (drop pos bits))) {fired : Option (ℕ × ℕ)} (hf : fired ≡ fired_by (get_or heads (at + 1) 0) (get_or heads (at + 2) 0))
      {a : Option (ℕ × ℕ)} {bytes' answers' shown' : List ℕ} (ha : a ≡ tick_causes count inputs ticks fired) (hr : RunsLate l.signals l.exprs l.stmts ticks fired a bytes bytes')
      (wa : answers' ≡ over answers (2 * i) (answer_words a)) (hs : shown' ≡ over shown to (flat (shown_bytes (signals_in l.signals) bytes'))) {late' : Bool} (e : late' ≡ (late || is_made a))
      → length bytes' ≡ length bytes → length answers' ≡ length answers → length shown' ≡ length shown → Along l heads bits bytes₀ bytes' answers₀ answers' shown₀ shown' (at + 3) end (to + total output_width (signals_in l.signals)) (i + 1) late'
  along_next q {count} {inputs} hc hi he ht hf {a} {bytes'} {answers'} {shown'} ha hr wa hs e lb la ls =
      let x = lags_next l h u g.lags count hi ha hr e in
      record {
        meant = x.meant';
        running = running_step g.running q (lags_meant g.lags) h u hc hi he ht hf ha x.ran wa (hs ∙ ap (λ (o : List (List ℕ)). over shown to (flat o)) (lags_shown l h u x.lags)) (sym (lags_long l h u x.lags) ∙ lb ∙ lags_long l h u g.lags) la ls;
        lags = x.lags;
      }
