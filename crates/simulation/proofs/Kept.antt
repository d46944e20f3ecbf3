-- What an accepted run leaves: as many signal bytes as before, the needed ones bits, in a state in which every assignment holds.
-- Assumes nothing.
use Prim.Native.Nat.{ℕ, zero, suc, ◌+◌, ◌≤◌, ◌<◌, min}
use mathlib.Core.Path.{◌≡◌, refl, sym, ◌∙◌, ap, ap₂, subst}
use mathlib.Core.Bool.{Bool, true, false, ◌&&◌}
use mathlib.Core.List.{List, [], ◌∷◌, ◌++◌, map, append_assoc}
use Rattle.std.specs.Prelude.{Option, None, Some}
use Rattle.bits.proofs.Options.{none_ne_some, some_ne_none, some_injective}
use native.Mathlib.Omega.{arith}
use native.Mathlib.Nat.{not-suc-le-zero, zero-add}
use lib.Dec.{eqb, leb, ltb}
use lib.ListN.{length, get_or, take, drop, length-append, length-drop, length-map}
use lib.Seq.{length-take-le, take_at, drop_at}
use borrow.Author.Tests.{eqb-true, ltb-true, ltb-false}
use Rattle.bits.specs.Bits.{pick, Bits, digit}
use Rattle.recorder.specs.Record.{Signal, RegReset, Stmt, Model}
use Rattle.recorder.specs.Record.{assign, reg}
use Rattle.recorder.specs.Read.{only}
use Rattle.recorder.specs.Words.{raw_of}
use Rattle.settle.specs.Settle.{iterate}
use Rattle.settle.specs.Table.{at, tab_from}
use Rattle.settle.specs.Tests.{and_left, and_right}
use Rattle.settle.specs.Loop.{LowestOnLoop}
use Rattle.simulation.specs.Wellformed.{wide, broad, suits, reset_fits, enable_fits, stmt_fits, or_else, unsplit_all, first_fault, malformed}
use Rattle.simulation.specs.Tick.{values_in, target, given, assigns, asserted, reset_loads, enabled, Firing, loads, become, set_by, sweep, settle, commit, set_inputs, tick, depends, looped}
use Rattle.simulation.specs.Run.{Call, firing, expr_width, total, signal_bytes, input_width, tick_bits, expr_bits, short, wrong_count, on_loop, first_of, causes, refusal, per_signal, flat, is_one, state_before, state_after, ticked, bytes_after, verdict, call_model, answer, run}
use Rattle.simulation.specs.Sound.{AllFrom, Sound, signal_widths, expr_widths}
use Rattle.simulation.specs.Settled.{IsSettled}
use Rattle.simulation.specs.Kept.{Fits, Good, AllBits}
use Rattle.simulation.proofs.Settles.{settle_settled, looped_says}
use Rattle.simulation.proofs.Sound.{sound, or_else_second}
use Rattle.simulation.proofs.Bounds.{reads_under, values_width}

abbrev widths_of : List Signal → List ℕ
widths_of ss = map (λ (s : Signal). s.width) ss

pub fits_at : (ss : List Signal) (t : List Bits) → Fits ss t → (i : ℕ) → i < length ss → length (get_or t i []) ≡ get_or (widths_of ss) i 0
fits_at [] t h i q = absurd (not-suc-le-zero q)
fits_at (s ∷ ss) [] h i q = absurd h
fits_at (s ∷ ss) (v ∷ t) h zero q = h.0
fits_at (s ∷ ss) (v ∷ t) h (suc i) q = fits_at ss t h.1 i (omega arith)

fits_tab : (ss : List Signal) (g : ℕ → Bits) (k : ℕ) → ((i : ℕ) → i < length ss → length (g (k + i)) ≡ get_or (widths_of ss) i 0) → Fits ss (tab_from g k (length ss))
fits_tab [] g k h = tt
fits_tab (s ∷ ss) g k h = (
  ap (λ (j : ℕ). length (g j)) (omega arith) ∙ h 0 (omega arith),
  fits_tab ss g (suc k) (λ i q. ap (λ (j : ℕ). length (g j)) (omega arith) ∙ h (suc i) (omega arith)),
)

pub flat_length : (ss : List Signal) (t : List Bits) → Fits ss t → length (flat t) ≡ total (λ (s : Signal). s.width) ss
flat_length [] [] h = refl
flat_length [] (v ∷ t) h = absurd h
flat_length (s ∷ ss) [] h = absurd h
flat_length (s ∷ ss) (v ∷ t) h = length-append v (flat t) ∙ ap₂ ◌+◌ h.0 (flat_length ss t h.1)

pub fits_cut : (ss : List Signal) (bs : Bits) → total (λ (s : Signal). s.width) ss ≤ length bs → Fits ss (per_signal ss bs)
fits_cut [] bs h = tt
fits_cut (s ∷ ss) bs h = (length-take-le s.width bs (omega arith), fits_cut ss (drop s.width bs) (simp length-drop (omega arith)))

pub fits_inputs : (ss : List Signal) (bs : Bits) (t : List Bits) → total input_width ss ≤ length bs → Fits ss t → Fits ss (set_inputs ss bs t)
fits_inputs [] bs [] q h = tt
fits_inputs [] bs (v ∷ t) q h = tt
fits_inputs (s ∷ ss) bs [] q h = absurd h
fits_inputs (s ∷ ss) bs (v ∷ t) q h =
    go (eqb s.label 0) (λ b' (k : total input_width ss ≤ length b'). fits_inputs ss b' t k h.1) q
  where
    go : (b : Bool) → ((b' : Bits) → total input_width ss ≤ length b' → Fits ss (set_inputs ss b' t)) → (pick b s.width 0) + total input_width ss ≤ length bs → Fits (s ∷ ss) (pick b (take s.width bs ∷ set_inputs ss (drop s.width bs) t) (v ∷ set_inputs ss bs t))
    go true ih k = (length-take-le s.width bs (omega arith), ih (drop s.width bs) (simp length-drop (omega arith)))
    go false ih k = (h.0, ih bs (omega arith))

-- what a statement gives its target is as wide as that
module _ (sw ew : List ℕ) where
  abbrev pub Gives : (Stmt → Option ℕ) → Type 0
  Gives rule = (t : Stmt) → stmt_fits sw ew t ≡ true → (e : ℕ) → rule t ≡ Some e → suits sw ew (target t) e ≡ true

  pub assigns_gives : Gives assigns
  assigns_gives (assign t x) h e q = subst (λ (k : ℕ). suits sw ew t k ≡ true) (some_injective x e q) h
  assigns_gives (reg t n c d r x) h e q = absurd (none_ne_some e q)

  module _ (v : ℕ → Bits) where
    reset_gives : (t : ℕ) (r : Option RegReset) → reset_fits sw ew t r ≡ true → (e : ℕ) → reset_loads v r ≡ Some e → suits sw ew t e ≡ true
    reset_gives t None h e q = absurd (none_ne_some e q)
    reset_gives t (Some r) h e q = go (asserted v r.signal r.active) q
      where
        go : (b : Bool) → only b (Some r.value) ≡ Some e → suits sw ew t e ≡ true
        go true k = subst (λ (x : ℕ). suits sw ew t x ≡ true) (some_injective r.value e k) (and_right (broad sw r.signal 1 && leb r.active 1) (suits sw ew t r.value) h)
        go false k = absurd (none_ne_some e k)

    pub loads_gives : (f : Firing) → Gives (loads f v)
    loads_gives f (assign t x) h e q = absurd (none_ne_some e q)
    loads_gives f (reg t n c d r x) h e q = go (reset_loads v r) (f c d && enabled v x) (reset_gives t r hr e) q
      where
        h1 : (suits sw ew t n && broad sw c 1 && leb d 1 && reset_fits sw ew t r) ≡ true
        h1 = and_left (suits sw ew t n && broad sw c 1 && leb d 1 && reset_fits sw ew t r) (enable_fits sw x) h

        hr : reset_fits sw ew t r ≡ true
        hr = and_right (suits sw ew t n && broad sw c 1 && leb d 1) (reset_fits sw ew t r) h1

        hn : suits sw ew t n ≡ true
        hn = and_left (suits sw ew t n) (broad sw c 1) (and_left (suits sw ew t n && broad sw c 1) (leb d 1) (and_left (suits sw ew t n && broad sw c 1 && leb d 1) (reset_fits sw ew t r) h1))

        go : (o : Option ℕ) (b : Bool) → (o ≡ Some e → suits sw ew t e ≡ true) → or_else o (only b (Some n)) ≡ Some e → suits sw ew t e ≡ true
        go (Some y) b ih k = ih k
        go None true ih k = subst (λ (y : ℕ). suits sw ew t y ≡ true) (some_injective n e k) hn
        go None false ih k = absurd (none_ne_some e k)

  pub given_suits : (rule : Stmt → Option ℕ) → Gives rule → (k : ℕ) (ts : List Stmt) → AllFrom (λ (n : ℕ). stmt_fits sw ew) k ts → (s e : ℕ) → given rule ts s ≡ Some e → suits sw ew s e ≡ true
  given_suits rule g k [] h s e q = absurd (none_ne_some e q)
  given_suits rule g k (t ∷ ts) h s e q = go (eqb (target t) s) refl (given_suits rule g (suc k) ts h.1 s e) q
    where
      choose : (o : Option ℕ) → rule t ≡ o → eqb (target t) s ≡ true → (given rule ts s ≡ Some e → suits sw ew s e ≡ true) → or_else o (given rule ts s) ≡ Some e → suits sw ew s e ≡ true
      choose None w z ih k = ih k
      choose (Some y) w z ih k = subst (λ (x : ℕ). suits sw ew x e ≡ true) (eqb-true (target t) s z) (g t h.0 e (w ∙ k))

      go : (b : Bool) → eqb (target t) s ≡ b → (given rule ts s ≡ Some e → suits sw ew s e ≡ true) → ◌≡◌ {A = Option ℕ} (pick b (or_else (rule t) (given rule ts s)) (given rule ts s)) (Some e) → suits sw ew s e ≡ true
      go true z ih k = choose (rule t) refl z ih k
      go false z ih k = ih k

module _ (widest : ℕ) (m : Model) (h : Sound widest m) where
  abbrev pub Suited : (ℕ → Option ℕ) → Type 0
  Suited choice = (s e : ℕ) → choice s ≡ Some e → suits (signal_widths m) (expr_widths m) s e ≡ true

  fits_set : (choice : ℕ → Option ℕ) → Suited choice → (old now : List Bits) → Fits m.signals old → Fits m.signals now → Fits m.signals (set_by m choice old now)
  fits_set choice g old now ho hn = fits_tab m.signals (λ s. become vs (choice s) (get_or old s [])) 0 (λ i q. ap (λ (j : ℕ). length (become vs (choice j) (get_or old j []))) (zero-add i) ∙ go i q (choice i) (g i))
    where
      vs : List Bits
      vs = values_in m now

      widths_are : length (signal_widths m) ≡ length m.signals
      widths_are = length-map m.signals (λ (s : Signal). s.width)

      go : (i : ℕ) → i < length m.signals → (o : Option ℕ) → ((e : ℕ) → o ≡ Some e → suits (signal_widths m) (expr_widths m) i e ≡ true) → length (become (values_in m now) o (get_or old i [])) ≡ get_or (signal_widths m) i 0
      go i q None k = fits_at m.signals old ho i q
      go i q (Some e) k =
          let w = and_right (ltb i (length (signal_widths m))) (wide (expr_widths m) (length (expr_widths m)) e (get_or (signal_widths m) i 0)) (k e refl) in
          let there = ltb-true e (length (expr_widths m)) (and_left (ltb e (length (expr_widths m))) (eqb (get_or (expr_widths m) e 0) (get_or (signal_widths m) i 0)) w) in
          values_width widest m h (at [] now) e (omega (arith, there, length-map m.exprs expr_width))
          ∙ eqb-true (get_or (expr_widths m) e 0) (get_or (signal_widths m) i 0) (and_right (ltb e (length (expr_widths m))) (eqb (get_or (expr_widths m) e 0) (get_or (signal_widths m) i 0)) w)

  pub assigned_suits : Suited (given assigns m.stmts)
  assigned_suits = given_suits (signal_widths m) (expr_widths m) assigns (assigns_gives (signal_widths m) (expr_widths m)) 0 m.stmts h.stmts_fit

  fits_iterate : (k : ℕ) (t : List Bits) → Fits m.signals t → Fits m.signals (iterate k (sweep m t) t)
  fits_iterate zero t q = q
  fits_iterate (suc k) t q = fits_set (given assigns m.stmts) assigned_suits t (iterate k (sweep m t) t) q (fits_iterate k t q)

  pub fits_settle : (t : List Bits) → Fits m.signals t → Fits m.signals (settle m t)
  unfolding settle
  fits_settle t q = fits_iterate (length m.signals) t q

  pub fits_commit : (f : Firing) (t : List Bits) → Fits m.signals t → Fits m.signals (commit m f t)
  unfolding commit
  fits_commit f t q = fits_set (given (loads f (at [] t)) m.stmts) (given_suits (signal_widths m) (expr_widths m) (loads f (at [] t)) (loads_gives (signal_widths m) (expr_widths m) (at [] t) f) 0 m.stmts h.stmts_fit) t t q q

  pub fits_tick : (bs : Bits) (f : Firing) (t : List Bits) → tick_bits m ≤ length bs → Fits m.signals t → Fits m.signals (tick m bs f t)
  unfolding tick
  fits_tick bs f t q k = fits_settle (commit m f (settle m (set_inputs m.signals bs t))) (fits_commit f (settle m (set_inputs m.signals bs t)) (fits_settle (set_inputs m.signals bs t) (fits_inputs m.signals bs t q k)))

-- THE WHOLE CALL
abbrev pub AllNone : List (Option (ℕ × ℕ)) → Type 0
AllNone [] = Unit {0}
AllNone (o ∷ os) = (o ≡ None) × AllNone os

pub all_none : (os : List (Option (ℕ × ℕ))) → first_of os ≡ None → AllNone os
all_none [] h = tt
all_none (None ∷ os) h = (refl, all_none os h)
all_none (Some r ∷ os) h = absurd (some_ne_none r h)

pub short_none : (n : ℕ) (b : List ℕ) → short n b ≡ None → n ≤ length b
short_none n b h = go (ltb (length b) n) refl h
  where
    go : (z : Bool) → ltb (length b) n ≡ z → ◌≡◌ {A = Option (ℕ × ℕ)} (only z (Some (1, min n 18446744073709551615))) None → n ≤ length b
    go true e k = absurd (some_ne_none _ k)
    go false e k = ltb-false (length b) n e

pub count_none : (n : ℕ) (b : List ℕ) → wrong_count n b ≡ None → length b ≡ n
count_none n b h = go (eqb (length b) n) refl h
  where
    go : (z : Bool) → eqb (length b) n ≡ z → ◌≡◌ {A = Option (ℕ × ℕ)} (pick z None (Some (14, n))) None → length b ≡ n
    go true e k = eqb-true (length b) n e
    go false e k = absurd (some_ne_none _ k)

verdict_none : (m : Model) (c : Call) (o : Option ℕ) → verdict m c o ≡ None → (o ≡ None) × (refusal m c ≡ None)
verdict_none m c None h = (refl, h)
verdict_none m c (Some n) h = absurd (some_ne_none _ h)

loop_none : (o : Option ℕ) → on_loop o ≡ None → o ≡ None
loop_none None h = refl
loop_none (Some s) h = absurd (some_ne_none _ h)

pub accepted_good : (widest : ℕ) (c : Call) → answer widest c ≡ None → Good widest c
unfolding answer malformed refusal
accepted_good widest c h =
    let m : Model = call_model c in
    let v = verdict_none m c (malformed widest c.lists) h in
    let s : Option ℕ = unsplit_all c.lists in
    let a : AllNone (causes m c) = all_none (causes m c) v.1 in
    record {
      faultless = or_else_second s (first_fault widest (raw_of c.lists)) v.0;
      enough = short_none (signal_bytes m) c.bytes a.0;
      exprs_enough = (short_none (expr_bits m) c.work_bits a.1.0, short_none (length m.exprs) c.work_exprs a.1.1.0, short_none (length m.signals) c.work_signals a.1.1.1.0);
      all_bits = a.1.1.1.1.0;
      right_count = count_none (tick_bits m) c.ticks a.1.1.1.1.1.0;
      all_tick_bits = a.1.1.1.1.1.1.0;
      right_fired = a.1.1.1.1.1.1.1.0;
      loopless = loop_none (looped m) a.1.1.1.1.1.1.1.1.0;
    }

pub after_fits : (widest : ℕ) (c : Call) → Good widest c → Fits (call_model c).signals (state_after c)
after_fits widest c g =
    fits_tick widest (call_model c) (sound widest (raw_of c.lists) g.faultless) (map is_one c.ticks) (firing c.fired) (state_before c)
    (omega (arith, length-map c.ticks is_one, g.right_count))
    (fits_cut (call_model c).signals (map is_one c.bytes) (omega (arith, length-map c.bytes is_one, g.enough)))

new_length : (widest : ℕ) (c : Call) → Good widest c → length (map digit (flat (state_after c))) ≡ signal_bytes (call_model c)
new_length widest c g = length-map (flat (state_after c)) digit ∙ flat_length (call_model c).signals (state_after c) (after_fits widest c g)

-- each call keeps the length of the signal bytes
pub length_kept : (widest : ℕ) (c : Call) → length (run widest c).bytes ≡ length c.bytes
unfolding run ticked
length_kept widest c = go (answer widest c) refl
  where
    go : (o : Option (ℕ × ℕ)) → answer widest c ≡ o → length (bytes_after c o) ≡ length c.bytes
    go (Some r) e = refl
    go None e =
        let g = accepted_good widest c e in
        length-append (map digit (flat (state_after c))) (drop (signal_bytes (call_model c)) c.bytes)
        ∙ ap₂ ◌+◌ (new_length widest c g) (length-drop (signal_bytes (call_model c)) c.bytes)
        ∙ omega (arith, g.enough)

digits : (bs : Bits) → AllBits (map digit bs)
digits [] = tt
digits (true ∷ bs) = (omega arith, digits bs)
digits (false ∷ bs) = (omega arith, digits bs)

pub bytes_are_bits : (widest : ℕ) (c : Call) → answer widest c ≡ None → AllBits (take (signal_bytes (call_model c)) (run widest c).bytes)
unfolding run ticked
bytes_are_bits widest c e =
    rw e (subst AllBits (sym (take_at (map digit (flat (state_after c))) (drop (signal_bytes (call_model c)) c.bytes) (signal_bytes (call_model c)) (new_length widest c (accepted_good widest c e)))) (digits (flat (state_after c))))

-- after an accepted call every assignment holds: a sweep changes nothing
pub ends_settled : (widest : ℕ) (c : Call) → answer widest c ≡ None → (old : List Bits) × (state_after c ≡ settle (call_model c) old) × IsSettled (call_model c) old (state_after c)
unfolding tick
ends_settled widest c e =
    let g = accepted_good widest c e in
    let m : Model = call_model c in
    let under = reads_under widest m (sound widest (raw_of c.lists) g.faultless) in
    let old : List Bits = commit m (firing c.fired) (settle m (set_inputs m.signals (map is_one c.ticks) (state_before c))) in
    (old, refl, settle_settled m old under (subst (LowestOnLoop (length m.signals) (depends m)) g.loopless (looped_says m old under)))

-- THE NEXT CALL FINDS WHAT THIS ONE LEFT
is_one_digit : (b : Bool) → is_one (digit b) ≡ b
is_one_digit true = refl
is_one_digit false = refl

pub back_bits : (bs : Bits) (rest : List ℕ) → map is_one (map digit bs ++ rest) ≡ bs ++ map is_one rest
back_bits [] rest = refl
back_bits (b ∷ bs) rest = ap₂ ◌∷◌ (is_one_digit b) (back_bits bs rest)

pub cut_flat : (ss : List Signal) (t : List Bits) (rest : Bits) → Fits ss t → per_signal ss (flat t ++ rest) ≡ t
cut_flat [] [] rest h = refl
cut_flat [] (v ∷ t) rest h = absurd h
cut_flat (s ∷ ss) [] rest h = absurd h
cut_flat (s ∷ ss) (v ∷ t) rest h =
    ap (λ (l : Bits). take s.width l ∷ per_signal ss (drop s.width l)) (append_assoc v (flat t) rest)
    ∙ ap₂ ◌∷◌ (take_at v (flat t ++ rest) s.width h.0) (ap (per_signal ss) (drop_at v (flat t ++ rest) s.width h.0) ∙ cut_flat ss t rest h.1)

pub left_behind : (widest : ℕ) (c : Call) → answer widest c ≡ None → per_signal (call_model c).signals (map is_one (run widest c).bytes) ≡ state_after c
unfolding run ticked
left_behind widest c e =
    rw e
    (ap (per_signal (call_model c).signals) (back_bits (flat (state_after c)) (drop (signal_bytes (call_model c)) c.bytes))
    ∙ cut_flat (call_model c).signals (state_after c) (map is_one (drop (signal_bytes (call_model c)) c.bytes)) (after_fits widest c (accepted_good widest c e)))

-- a refused call leaves the signal bytes
pub refused_keeps : (widest : ℕ) (c : Call) (r : ℕ × ℕ) → answer widest c ≡ Some r → (run widest c).bytes ≡ c.bytes
unfolding run
refused_keeps widest c r e = rw e
