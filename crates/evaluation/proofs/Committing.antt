-- Laws of the registers' loads: the words that the code reads of a statement, what they say it loads, and that noting all loads and storing
-- them is the commit. Assumes nothing.
use Prim.Native.Nat.{ℕ, zero, suc, ◌+◌, ◌≤◌, ◌<◌}
use mathlib.Core.Path.{◌≡◌, refl, sym, ◌∙◌, ap, ap₂, subst}
use mathlib.Core.Bool.{Bool, true, false, ◌&&◌, true≢false, false≢true}
use mathlib.Core.List.{List, [], ◌∷◌}
use mathlib.Core.Logic.{◌⊎◌, inl, inr}
use Rattle.std.specs.Prelude.{Option, None, Some}
use Rattle.bits.proofs.Options.{some_injective, none_ne_some}
use native.Mathlib.Omega.{arith}
use native.Mathlib.Numerals.{add-one}
use native.Mathlib.Nat.{not-suc-le-zero}
use native.Mathlib.Decide.{dec_lt}
use lib.Dec.{eqb, leb, ltb}
use lib.ListN.{length, get_or, drop, set, length-map, drop_of_length-le}
use lib.Seq.{drop-cons, get_or-set_same, get_or-set_other}
use borrow.Author.Tests.{eqb-true, ltb-true, eq-eqb, ne_eqb}
use Rattle.bits.specs.Bits.{pick, Bits}
use Rattle.settle.specs.Table.{at as signals_at}
use Rattle.settle.specs.Tests.{and_left, and_right}
use Rattle.recorder.specs.Record.{Signal, RegReset, RegEnable, Stmt, Model, assign, reg, sized, stmt_words}
use Rattle.recorder.specs.Lists.{lists}
use Rattle.recorder.specs.Words.{raw_of}
use Rattle.recorder.specs.Read.{only, read_stmt, model_of}
use Rattle.recorder.specs.Evaluate.{Signals}
use Rattle.recorder.proofs.Roundtrip.{stmt_said}
use Rattle.simulation.specs.Wellformed.{wide, broad, suits, reset_fits, enable_fits, stmt_fits, count_of, or_else}
use Rattle.simulation.specs.Tick.{target, values_in, asserted, reset_loads, enabled, Firing, loads}
use Rattle.simulation.specs.Sound.{AllFrom, on, signal_widths}
use Rattle.simulation.specs.Index.{size_at, records_in, widths_in, offset, start_of, Indexed, stmts_in}
use Rattle.simulation.proofs.Steps.{Walked, walked_start, walked_next, walked_there, walked_out, length_widths}
use Rattle.simulation.proofs.Sound.{stmts_read}
use Rattle.simulation.proofs.Stores.{store, stores, one_each, stores_is_commit}
use Rattle.simulation.proofs.Kept.{Gives}
use Rattle.evaluation.specs.Bytes.{Holds}
use Rattle.evaluation.specs.Ready.{model_in, Prepared, Room}
use Rattle.evaluation.specs.Ticks.{StoresOne, Commits}
use Rattle.evaluation.specs.Late.{is_register, Asks}
use Rattle.evaluation.specs.Loads.{stmt_in, Stated, Begins, Control, control_at, enable_at, reset_value, marked, by_marks, MarkOf, NotesOne, Noted, StoresMarked, StoresLoad, Names}
use Rattle.evaluation.proofs.Held.{holds_length, holds_bit}
use Rattle.evaluation.proofs.Evaluating.{offset_before}
use Rattle.evaluation.proofs.Whole.{read_length, read_at, all_at, record_inside, record_word, is_sound, signals_wide, exprs_wide}

-- THE LEVEL OF A SIGNAL OF ONE BIT

module _ (signals bytes : List ℕ) {s : ℕ} (room : offset (widths_in signals) (length (records_in signals)) ≤ length bytes) (q : s < length (records_in signals)) (w : get_or (widths_in signals) s 0 ≡ 1) where
  pub level_inside : offset (widths_in signals) s < length bytes
  level_inside = omega (arith, offset_before (widths_in signals) s (length (records_in signals)) q, w, room)

  pub level_is : {level : ℕ} (active : ℕ) → level ≡ get_or bytes (offset (widths_in signals) s) 0 → (t : List Bits) (behind : List ℕ) → Holds (widths_in signals) t behind bytes → eqb level active ≡ asserted (signals_at [] t) s active
  level_is active e t behind h = ap (λ (n : ℕ). eqb n active) (e ∙ holds_bit h s (omega (arith, length_widths signals)) (omega (arith, w)))

-- A STATEMENT'S WORDS

-- they stand in a list from a word on
record Spelled (l : List ℕ) (word : ℕ) (x : Stmt) : Type 0 where
  pub inside : word + length (stmt_words x) ≤ length l
  pub words : (j : ℕ) → j < length (stmt_words x) → get_or l (word + j) 0 ≡ get_or (stmt_words x) j 0

least : (x : Stmt) → 4 ≤ length (stmt_words x)
least (assign t e) = omega arith
least (reg t n c d None None) = omega arith
least (reg t n c d None (Some e)) = omega arith
least (reg t n c d (Some r) None) = omega arith
least (reg t n c d (Some r) (Some e)) = omega arith

register_least : (x : Stmt) → get_or (stmt_words x) 1 0 ≡ 1 → 8 ≤ length (stmt_words x)
register_least (assign t e) h = absurd (omega arith)
register_least (reg t n c d None None) h = omega arith
register_least (reg t n c d None (Some e)) h = omega arith
register_least (reg t n c d (Some r) None) h = omega arith
register_least (reg t n c d (Some r) (Some e)) h = omega arith

target_word : (x : Stmt) → get_or (stmt_words x) 2 0 ≡ target x
target_word (assign t e) = refl
target_word (reg t n c d r e) = refl

module _ {l : List ℕ} {word : ℕ} {x : Stmt} (p : Spelled l word x) where
  kind_is : get_or l (word + 1) 0 ≡ get_or (stmt_words x) 1 0
  kind_is = p.words 1 (omega (arith, least x))

  four_inside : word + 3 < length l
  four_inside = omega (arith, p.inside, least x)

  eight_inside : get_or l (word + 1) 0 ≡ 1 → word + 7 < length l
  eight_inside k = omega (arith, p.inside, register_least x (sym kind_is ∙ k))

  target_is : get_or l (word + 2) 0 ≡ target x
  target_is = p.words 2 (omega (arith, least x)) ∙ target_word x

-- CONTROLS

module _ (l : List ℕ) (p : ℕ) where
  pub control_none : get_or l p 0 ≡ 0 → (v : Signals) (absent : Bool) → control_at v l p absent ≡ absent
  control_none z v absent = ap (λ (b : Bool). pick b absent (asserted v (get_or l (p + 1) 0) (get_or l (p + 2) 0))) (eq-eqb (get_or l p 0) 0 z)

  pub control_one : (get_or l p 0 ≡ 0 → ⊥) → (v : Signals) (absent : Bool) → control_at v l p absent ≡ asserted v (get_or l (p + 1) 0) (get_or l (p + 2) 0)
  control_one d v absent = ap (λ (b : Bool). pick b absent (asserted v (get_or l (p + 1) 0) (get_or l (p + 2) 0))) (ne_eqb (get_or l p 0) 0 d)

  record Absent : Type 0 where
    pub first : get_or l p 0 ≡ 0
    pub inside : p < length l

  record Given (s a : ℕ) : Type 0 where
    pub first : get_or l p 0 ≡ 1
    pub signal : get_or l (p + 1) 0 ≡ s
    pub active : get_or l (p + 2) 0 ≡ a
    pub inside : p + 2 < length l

module _ {l : List ℕ} {p : ℕ} (z : Absent l p) where
  absent_asks : (signals : List ℕ) → Control signals l p
  absent_asks signals = record { inside = z.inside; one_bit = λ d. absurd (d z.first) }

  absent_says : (v : Signals) (absent : Bool) → control_at v l p absent ≡ absent
  absent_says = control_none l p z.first

module _ {l : List ℕ} {p s a : ℕ} (g : Given l p s a) where
  given_asks : (signals : List ℕ) → broad (widths_in signals) s 1 ≡ true → Control signals l p
  given_asks signals h = record {
    inside = omega (arith, g.inside);
    one_bit = λ d. (
      g.inside,
      omega (arith, g.signal, length_widths signals, ltb-true s (length (widths_in signals)) (and_left (ltb s (length (widths_in signals))) (eqb (get_or (widths_in signals) s 0) 1) h)),
      ap (λ (i : ℕ). get_or (widths_in signals) i 0) g.signal ∙ eqb-true (get_or (widths_in signals) s 0) 1 (and_right (ltb s (length (widths_in signals))) (eqb (get_or (widths_in signals) s 0) 1) h),
    );
  }

  given_says : (v : Signals) (absent : Bool) → control_at v l p absent ≡ asserted v s a
  given_says v absent = control_one l p (λ z. absurd (omega (arith, g.first, z))) v absent ∙ ap₂ (asserted v) g.signal g.active

module _ {l : List ℕ} {word : ℕ} {x : Stmt} (p : Spelled l word x) (i : ℕ) where
  absent_from : i < length (stmt_words x) → get_or (stmt_words x) i 0 ≡ 0 → Absent l (word + i)
  absent_from h z = record { first = p.words i h ∙ z; inside = omega (arith, p.inside) }

  word_behind : (j : ℕ) → i + j < length (stmt_words x) → get_or l (word + i + j) 0 ≡ get_or (stmt_words x) (i + j) 0
  word_behind j h =
      let e : word + i + j ≡ word + (i + j) = omega arith in
      ap (λ (k : ℕ). get_or l k 0) e ∙ p.words (i + j) h

  given_from : i + 2 < length (stmt_words x) → get_or (stmt_words x) i 0 ≡ 1 → Given l (word + i) (get_or (stmt_words x) (i + 1) 0) (get_or (stmt_words x) (i + 2) 0)
  given_from h z = record { first = p.words i (omega arith) ∙ z; signal = word_behind 1 (omega arith); active = word_behind 2 h; inside = omega (arith, p.inside) }

-- A REGISTER'S MARK

-- from whether its reset is asserted, its clock fires, it is enabled
abbrev load_code : Bool → Bool → Bool → ℕ
load_code a b e = pick a 2 (pick b (pick e 1 0) 0)

-- by its words
abbrev code_at : Signals → List ℕ → ℕ → Bool → ℕ
code_at v l word b = load_code (control_at v l (word + 6) false) b (control_at v l (enable_at l word) true)

code_reset : (a b e : Bool) → a ≡ true → 2 ≡ load_code a b e
code_reset true b e h = refl
code_reset false b e h = absurd (false≢true h)

code_still : (a b e : Bool) → a ≡ false → b ≡ false → 0 ≡ load_code a b e
code_still true b e h i = absurd (true≢false h)
code_still false true e h i = absurd (true≢false i)
code_still false false e h i = refl

code_next : (a b e : Bool) → a ≡ false → b ≡ true → e ≡ true → 1 ≡ load_code a b e
code_next true b e h i j = absurd (true≢false h)
code_next false false e h i j = absurd (false≢true i)
code_next false true false h i j = absurd (false≢true j)
code_next false true true h i j = refl

code_off : (a b e : Bool) → a ≡ false → e ≡ false → 0 ≡ load_code a b e
code_off true b e h i = absurd (true≢false h)
code_off false b true h i = absurd (true≢false i)
code_off false true false h i = refl
code_off false false false h i = refl

-- A REGISTER'S WORDS

-- where its enable stands
abbrev enable_from : ℕ → Option RegReset → ℕ
enable_from word None = word + 7
enable_from word (Some r) = word + 10

module _ (l : List ℕ) (word t n c d : ℕ) where
  no_reset : (e : Option RegEnable) → Spelled l word (reg t n c d None e) → Absent l (word + 6)
  no_reset None p = absent_from p 6 (omega arith) refl
  no_reset (Some e) p = absent_from p 6 (omega arith) refl

  reset_words : (r : RegReset) (e : Option RegEnable) → Spelled l word (reg t n c d (Some r) e) → Given l (word + 6) r.signal r.active
  reset_words r None p = given_from p 6 (omega arith) refl
  reset_words r (Some e) p = given_from p 6 (omega arith) refl

  reset_value_lem : (r : RegReset) (e : Option RegEnable) → Spelled l word (reg t n c d (Some r) e) → get_or l (word + 9) 0 ≡ r.value
  reset_value_lem r None p = p.words 9 (omega arith)
  reset_value_lem r (Some e) p = p.words 9 (omega arith)

  reset_inside : (r : RegReset) (e : Option RegEnable) → Spelled l word (reg t n c d (Some r) e) → word + 9 < length l
  reset_inside r None p = omega (arith, p.inside)
  reset_inside r (Some e) p = omega (arith, p.inside)

  no_enable : (r : Option RegReset) → Spelled l word (reg t n c d r None) → Absent l (enable_from word r)
  no_enable None p = absent_from p 7 (omega arith) refl
  no_enable (Some r) p = absent_from p 10 (omega arith) refl

  enable_words : (r : Option RegReset) (e : RegEnable) → Spelled l word (reg t n c d r (Some e)) → Given l (enable_from word r) e.signal e.active
  enable_words None e p = given_from p 7 (omega arith) refl
  enable_words (Some r) e p = given_from p 10 (omega arith) refl

  enable_from_lem : (r : Option RegReset) (e : Option RegEnable) → Spelled l word (reg t n c d r e) → enable_at l word ≡ enable_from word r
  enable_from_lem None e p = ap (λ (b : Bool). pick b (word + 7) (word + 10)) (eq-eqb (get_or l (word + 6) 0) 0 (no_reset e p).first)
  enable_from_lem (Some r) e p = ap (λ (b : Bool). pick b (word + 7) (word + 10)) (ne_eqb (get_or l (word + 6) 0) 0 (λ z. absurd (omega (arith, (reset_words r e p).first, z))))

  clock_word : (r : Option RegReset) (e : Option RegEnable) → Spelled l word (reg t n c d r e) → get_or l (word + 4) 0 ≡ c
  clock_word r e p = p.words 4 (omega (arith, register_least (reg t n c d r e) refl))

  edge_word : (r : Option RegReset) (e : Option RegEnable) → Spelled l word (reg t n c d r e) → get_or l (word + 5) 0 ≡ d
  edge_word r e p = p.words 5 (omega (arith, register_least (reg t n c d r e) refl))

  -- what is asked of its controls
  module _ (signals ew : List ℕ) where
    reset_asks : (r : Option RegReset) (e : Option RegEnable) → Spelled l word (reg t n c d r e) → reset_fits (widths_in signals) ew t r ≡ true → Control signals l (word + 6)
    reset_asks None e p h = absent_asks (no_reset e p) signals
    reset_asks (Some r) e p h =
        let b : Bool = broad (widths_in signals) r.signal 1 in
        given_asks (reset_words r e p) signals (and_left b (leb r.active 1) (and_left (b && leb r.active 1) (suits (widths_in signals) ew t r.value) h))

    enable_stands : (r : Option RegReset) (e : Option RegEnable) → Spelled l word (reg t n c d r e) → enable_fits (widths_in signals) e ≡ true → Control signals l (enable_from word r)
    enable_stands r None p h = absent_asks (no_enable r p) signals
    enable_stands r (Some e) p h = given_asks (enable_words r e p) signals (and_left (broad (widths_in signals) e.signal 1) (leb e.active 1) h)

    enable_asks : (r : Option RegReset) (e : Option RegEnable) → Spelled l word (reg t n c d r e) → enable_fits (widths_in signals) e ≡ true → Control signals l (enable_at l word)
    enable_asks r e p h = subst (Control signals l) (sym (enable_from_lem r e p)) (enable_stands r e p h)

  -- what they say
  module _ (v : Signals) where
    enable_says : (r : Option RegReset) (e : Option RegEnable) → Spelled l word (reg t n c d r e) → control_at v l (enable_at l word) true ≡ enabled v e
    enable_says r None p = ap (λ (i : ℕ). control_at v l i true) (enable_from_lem r None p) ∙ absent_says (no_enable r p) v true
    enable_says r (Some e) p = ap (λ (i : ℕ). control_at v l i true) (enable_from_lem r (Some e) p) ∙ given_says (enable_words r e p) v true

    reset_says : (r : Option RegReset) (e : Option RegEnable) → Spelled l word (reg t n c d r e) → (b b' : Bool) → marked (load_code (control_at v l (word + 6) false) b b') (reg t n c d r e) ≡ or_else (reset_loads v r) (only (b && b') (Some n))
    reset_says None e p b b' = ap (λ (a : Bool). marked (load_code a b b') (reg t n c d None e)) (absent_says (no_reset e p) v false) ∙ go b b'
      where
        go : (b b' : Bool) → marked (load_code false b b') (reg t n c d None e) ≡ only (b && b') (Some n)
        go true true = refl
        go true false = refl
        go false b' = refl
    reset_says (Some r) e p b b' = ap (λ (a : Bool). marked (load_code a b b') (reg t n c d (Some r) e)) (given_says (reset_words r e p) v false) ∙ go (asserted v r.signal r.active) b b'
      where
        go : (a b b' : Bool) → marked (load_code a b b') (reg t n c d (Some r) e) ≡ or_else (only a (Some r.value)) (only (b && b') (Some n))
        go true b b' = refl
        go false true true = refl
        go false true false = refl
        go false false b' = refl

    register_loads : (r : Option RegReset) (e : Option RegEnable) → Spelled l word (reg t n c d r e) → (f : Firing) → marked (code_at v l word (f (get_or l (word + 4) 0) (get_or l (word + 5) 0))) (reg t n c d r e) ≡ loads f v (reg t n c d r e)
    register_loads r e p f =
        reset_says r e p (f (get_or l (word + 4) 0) (get_or l (word + 5) 0)) (control_at v l (enable_at l word) true)
        ∙ ap₂ (λ (b b' : Bool). or_else (reset_loads v r) (only (b && b') (Some n))) (ap₂ f (clock_word r e p) (edge_word r e p)) (enable_says r e p)

-- ANY STATEMENT, by its words

other_kind : (x : Stmt) → (get_or (stmt_words x) 1 0 ≡ 1 → ⊥) → (mark : ℕ) → None ≡ marked mark x
other_kind (assign t e) h mark = refl
other_kind (reg t n c d r e) h mark = absurd (h refl)

module _ (l : List ℕ) (word : ℕ) where
  abbrev Register : Type 0
  Register = get_or l (word + 1) 0 ≡ 1

  no_register : {C : Type 0} {t e : ℕ} → Spelled l word (assign t e) → get_or l (word + 1) 0 ≡ 1 → C
  no_register p k = absurd (omega (arith, kind_is p, k))

  loads_by : (x : Stmt) → Spelled l word x → Register → (v : Signals) (f : Firing) → marked (code_at v l word (f (get_or l (word + 4) 0) (get_or l (word + 5) 0))) x ≡ loads f v x
  loads_by (assign t e) p k v f = no_register p k
  loads_by (reg t n c d r e) p k v f = register_loads l word t n c d v r e p f

  module _ (signals ew : List ℕ) where
    reset_control : (x : Stmt) → Spelled l word x → Register → stmt_fits (widths_in signals) ew x ≡ true → Control signals l (word + 6)
    reset_control (assign t e) p k h = no_register p k
    reset_control (reg t n c d r e) p k h =
        let a : Bool = suits (widths_in signals) ew t n && broad (widths_in signals) c 1 && leb d 1 in
        reset_asks l word t n c d signals ew r e p (and_right a (reset_fits (widths_in signals) ew t r) (and_left (a && reset_fits (widths_in signals) ew t r) (enable_fits (widths_in signals) e) h))

    enable_control : (x : Stmt) → Spelled l word x → Register → stmt_fits (widths_in signals) ew x ≡ true → Control signals l (enable_at l word)
    enable_control (assign t e) p k h = no_register p k
    enable_control (reg t n c d r e) p k h =
        let a : Bool = suits (widths_in signals) ew t n && broad (widths_in signals) c 1 && leb d 1 in
        enable_asks l word t n c d signals ew r e p (and_right (a && reset_fits (widths_in signals) ew t r) (enable_fits (widths_in signals) e) h)

  -- what a mark makes it load

  module _ {mark : ℕ} where
    by_next : (x : Stmt) → Spelled l word x → Register → mark ≡ 1 → Some (get_or l (word + 3) 0) ≡ marked mark x
    by_next (assign t e) p k m = no_register p k
    by_next (reg t n c d r e) p k m = ap Some (p.words 3 (omega (arith, least (reg t n c d r e)))) ∙ ap (λ (i : ℕ). marked i (reg t n c d r e)) (sym m)

    by_none : (x : Stmt) → (mark ≡ 1 → ⊥) → (mark ≡ 2 → ⊥) → None ≡ marked mark x
    by_none (assign t e) a b = refl
    by_none (reg t n c d r e) a b =
        sym (ap₂ (λ (y z : Bool). pick y (Some n) (pick z (reset_value r) None)) (ne_eqb mark 1 a) (ne_eqb mark 2 b))

    by_absent : (x : Stmt) → Spelled l word x → mark ≡ 2 → get_or l (word + 6) 0 ≡ 0 → None ≡ marked mark x
    by_absent (assign t e) p m z = refl
    by_absent (reg t n c d None e) p m z = ap (λ (i : ℕ). marked i (reg t n c d None e)) (sym m)
    by_absent (reg t n c d (Some r) e) p m z = absurd (omega (arith, (reset_words l word t n c d r e p).first, z))

    by_reset : (x : Stmt) → Spelled l word x → Register → mark ≡ 2 → (get_or l (word + 6) 0 ≡ 0 → ⊥) → Some (get_or l (word + 9) 0) ≡ marked mark x
    by_reset (assign t e) p k m z = no_register p k
    by_reset (reg t n c d None e) p k m z = absurd (z (no_reset l word t n c d e p).first)
    by_reset (reg t n c d (Some r) e) p k m z = ap Some (reset_value_lem l word t n c d r e p) ∙ ap (λ (i : ℕ). marked i (reg t n c d (Some r) e)) (sym m)

  value_inside : (x : Stmt) → Spelled l word x → Register → (get_or l (word + 6) 0 ≡ 0 → ⊥) → word + 9 < length l
  value_inside (assign t e) p k z = no_register p k
  value_inside (reg t n c d None e) p k z = absurd (z (no_reset l word t n c d e p).first)
  value_inside (reg t n c d (Some r) e) p k z = reset_inside l word t n c d r e p

-- the target is there, and what it loads is as wide

module _ (sw ew : List ℕ) where
  suits_there : (t e : ℕ) → suits sw ew t e ≡ true → t < length sw
  suits_there t e h = ltb-true t (length sw) (and_left (ltb t (length sw)) (wide ew (length ew) e (get_or sw t 0)) h)

  next_suits : (t n c d : ℕ) (r : Option RegReset) (e : Option RegEnable) → stmt_fits sw ew (reg t n c d r e) ≡ true → suits sw ew t n ≡ true
  next_suits t n c d r e h = and_left (suits sw ew t n) (broad sw c 1) (and_left (suits sw ew t n && broad sw c 1) (leb d 1) (and_left (suits sw ew t n && broad sw c 1 && leb d 1) (reset_fits sw ew t r) (and_left (suits sw ew t n && broad sw c 1 && leb d 1 && reset_fits sw ew t r) (enable_fits sw e) h)))

  target_there : (x : Stmt) → stmt_fits sw ew x ≡ true → target x < length sw
  target_there (assign t e) h = suits_there t e h
  target_there (reg t n c d r e) h = suits_there t n (next_suits t n c d r e h)

  marked_gives : (mark : ℕ) → Gives sw ew (marked mark)
  marked_gives mark (assign t x) h e q = absurd (none_ne_some e q)
  marked_gives mark (reg t n c d r x) h e q = go (eqb mark 1) q
    where
      fits : reset_fits sw ew t r ≡ true
      fits = and_right (suits sw ew t n && broad sw c 1 && leb d 1) (reset_fits sw ew t r) (and_left (suits sw ew t n && broad sw c 1 && leb d 1 && reset_fits sw ew t r) (enable_fits sw x) h)

      value : (o : Option RegReset) → reset_fits sw ew t o ≡ true → reset_value o ≡ Some e → suits sw ew t e ≡ true
      value None f k = absurd (none_ne_some e k)
      value (Some o) f k = subst (λ (i : ℕ). suits sw ew t i ≡ true) (some_injective o.value e k) (and_right (broad sw o.signal 1 && leb o.active 1) (suits sw ew t o.value) f)

      by_two : (b : Bool) → pick b (reset_value r) None ≡ Some e → suits sw ew t e ≡ true
      by_two true k = value r fits k
      by_two false k = absurd (none_ne_some e k)

      go : (b : Bool) → pick b (Some n) (pick (eqb mark 2) (reset_value r) None) ≡ Some e → suits sw ew t e ≡ true
      go true k = subst (λ (i : ℕ). suits sw ew t i ≡ true) (some_injective n e k) (next_suits t n c d r x h)
      go false k = by_two (eqb mark 2) k

-- STATEMENT k OF A LIST

-- a control as the code tells it
abbrev Told : List ℕ → List ℕ → List ℕ → ℕ → Bool → Bool → Type 0
Told signals stmts bytes i absent a = (t : List Bits) (behind : List ℕ) → Holds (widths_in signals) t behind bytes → a ≡ control_at (signals_at [] t) stmts i absent

module _ {signals stmts : List ℕ} (s : Stated signals stmts) where
  module _ {k word : ℕ} (q : k < length (records_in stmts)) (b : word ≡ start_of stmts k) where
    spelled : Spelled stmts word (stmt_in stmts k)
    spelled =
        let said : stmt_words (stmt_in stmts k) ≡ sized (get_or (records_in stmts) k []) = stmt_said (get_or (records_in stmts) k []) (read_at read_stmt (records_in stmts) s.readable k q (assign 0 0)) in
        record {
          inside = subst (λ (i : ℕ). i + length (stmt_words (stmt_in stmts k)) ≤ length stmts) (sym b) (subst (λ (ws : List ℕ). start_of stmts k + length ws ≤ length stmts) (sym said) (record_inside stmts k q));
          words = λ j h. ap (λ (i : ℕ). get_or stmts (i + j) 0) b ∙ record_word stmts k q j (subst (λ (ws : List ℕ). j < length ws) said h) ∙ ap (λ (ws : List ℕ). get_or ws j 0) (sym said);
        }

  fitting : {k : ℕ} → k < length (records_in stmts) → stmt_fits (widths_in signals) s.expr_widths_lem (stmt_in stmts k) ≡ true
  fitting {k} q = all_at (λ (n : ℕ). stmt_fits (widths_in signals) s.expr_widths_lem) 0 (stmts_in stmts) (assign 0 0) s.fit k (omega (arith, read_length read_stmt (records_in stmts) s.readable))

  pub target_known : {k : ℕ} → k < length (records_in stmts) → target (stmt_in stmts k) < length (records_in signals)
  target_known {k} q = omega (arith, length_widths signals, target_there (widths_in signals) s.expr_widths_lem (stmt_in stmts k) (fitting q))

  -- what the code reads
  module _ {word : ℕ} (b : Begins stmts word) where
    here : Spelled stmts word (stmt_in stmts b.number)
    here = spelled b.there b.begins

    pub fields_inside : word + 3 < length stmts
    fields_inside = four_inside here

    pub target_marked : {n : ℕ} → length (records_in signals) ≤ n → get_or stmts (word + 2) 0 < n
    target_marked h = omega (arith, target_is here, target_known b.there, h)

    module _ (k : get_or stmts (word + 1) 0 ≡ 1) where
      pub register_inside : word + 7 < length stmts
      register_inside = eight_inside here k

      pub value_read : (get_or stmts (word + 6) 0 ≡ 0 → ⊥) → word + 9 < length stmts
      value_read z = value_inside stmts word (stmt_in stmts b.number) here k z

      pub control_reset : Control signals stmts (word + 6)
      control_reset = reset_control stmts word signals s.expr_widths_lem (stmt_in stmts b.number) here k (fitting b.there)

      pub control_enable : {i : ℕ} → i ≡ enable_at stmts word → Control signals stmts i
      control_enable e = subst (Control signals stmts) (sym e) (enable_control stmts word signals s.expr_widths_lem (stmt_in stmts b.number) here k (fitting b.there))

  -- THE MARK OF A REGISTER

  module _ {word : ℕ} {bytes : List ℕ} (f : Firing) (r : get_or stmts (word + 1) 0 ≡ 1) {k : ℕ} (q : k < length (records_in stmts)) (b : word ≡ start_of stmts k) where
    by_code : {mark : ℕ} → ((t : List Bits) (behind : List ℕ) → Holds (widths_in signals) t behind bytes → mark ≡ code_at (signals_at [] t) stmts word (f (get_or stmts (word + 4) 0) (get_or stmts (word + 5) 0))) → MarkOf signals stmts f bytes k mark
    by_code g = record { means = λ t behind h. ap (λ (i : ℕ). marked i (stmt_in stmts k)) (g t behind h) ∙ loads_by stmts word (stmt_in stmts k) (spelled q b) r (signals_at [] t) f }

    module _ {a : Bool} (ha : Told signals stmts bytes (word + 6) false a) where
      pub mark_reset : a ≡ true → MarkOf signals stmts f bytes k 2
      mark_reset e = by_code (λ t behind h. code_reset (control_at (signals_at [] t) stmts (word + 6) false) (f (get_or stmts (word + 4) 0) (get_or stmts (word + 5) 0)) (control_at (signals_at [] t) stmts (enable_at stmts word) true) (sym (ha t behind h) ∙ e))

      module _ (n : a ≡ false) {c : Bool} (hc : c ≡ f (get_or stmts (word + 4) 0) (get_or stmts (word + 5) 0)) where
        pub mark_still : c ≡ false → MarkOf signals stmts f bytes k 0
        mark_still e = by_code (λ t behind h. code_still (control_at (signals_at [] t) stmts (word + 6) false) (f (get_or stmts (word + 4) 0) (get_or stmts (word + 5) 0)) (control_at (signals_at [] t) stmts (enable_at stmts word) true) (sym (ha t behind h) ∙ n) (sym hc ∙ e))

        module _ {i : ℕ} (hi : i ≡ enable_at stmts word) {e : Bool} (he : Told signals stmts bytes i true e) where
          enabling : Told signals stmts bytes (enable_at stmts word) true e
          enabling t behind h = he t behind h ∙ ap (λ (n : ℕ). control_at (signals_at [] t) stmts n true) hi

          pub mark_next : c ≡ true → e ≡ true → MarkOf signals stmts f bytes k 1
          mark_next x j = by_code (λ t behind h. code_next (control_at (signals_at [] t) stmts (word + 6) false) (f (get_or stmts (word + 4) 0) (get_or stmts (word + 5) 0)) (control_at (signals_at [] t) stmts (enable_at stmts word) true) (sym (ha t behind h) ∙ n) (sym hc ∙ x) (sym (enabling t behind h) ∙ j))

          pub mark_off : e ≡ false → MarkOf signals stmts f bytes k 0
          mark_off j = by_code (λ t behind h. code_off (control_at (signals_at [] t) stmts (word + 6) false) (f (get_or stmts (word + 4) 0) (get_or stmts (word + 5) 0)) (control_at (signals_at [] t) stmts (enable_at stmts word) true) (sym (ha t behind h) ∙ n) (sym (enabling t behind h) ∙ j))

  -- ONE NOTE

  module _ {word : ℕ} (f : Firing) {bytes marks : List ℕ} {k : ℕ} (q : k < length (records_in stmts)) (b : word ≡ start_of stmts k) where
    pub notes_none : (get_or stmts (word + 1) 0 ≡ 1 → ⊥) → NotesOne signals stmts f bytes k marks marks
    notes_none r = record {
      own = record { means = λ t behind h. sym (other (get_or marks (target (stmt_in stmts k)) 0)) ∙ nothing (stmt_in stmts k) (λ e. r (kind_is (spelled q b) ∙ e)) (signals_at [] t) };
      others = λ i d. refl;
    }
      where
        other : (mark : ℕ) → None ≡ marked mark (stmt_in stmts k)
        other = other_kind (stmt_in stmts k) (λ e. r (kind_is (spelled q b) ∙ e))

        nothing : (x : Stmt) → (get_or (stmt_words x) 1 0 ≡ 1 → ⊥) → (v : Signals) → None ≡ loads f v x
        nothing (assign t e) d v = refl
        nothing (reg t n c d r e) z v = absurd (z refl)

    pub notes_set : {t : ℕ} (mark : ℕ) → t ≡ get_or stmts (word + 2) 0 → length (records_in signals) ≤ length marks → MarkOf signals stmts f bytes k mark → NotesOne signals stmts f bytes k marks (set marks t mark)
    notes_set {t} mark e h m = record {
      own = subst (MarkOf signals stmts f bytes k) (sym (ap (λ (i : ℕ). get_or (set marks i mark) (target (stmt_in stmts k)) 0) it ∙ get_or-set_same marks (target (stmt_in stmts k)) mark 0 (omega (arith, target_known q, h)))) m;
      others = λ i d. get_or-set_other marks t i mark 0 (λ z. d (z ∙ it));
    }
      where
        it : t ≡ target (stmt_in stmts k)
        it = e ∙ target_is (spelled q b)

-- no two statements on one signal

pub count_some : (ss : List Stmt) (i j : ℕ) (d : Stmt) → j < length ss → target (get_or ss j d) ≡ i → 1 ≤ count_of (on i) ss
count_some [] i j d h e = absurd (not-suc-le-zero h)
count_some (x ∷ ss) i zero d h e = subst (λ (b : Bool). 1 ≤ pick b (suc (count_of (on i) ss)) (count_of (on i) ss)) (sym (eq-eqb (target x) i e)) (omega arith)
count_some (x ∷ ss) i (suc j) d h e = go (eqb (target x) i) (count_some ss i j d (omega arith) e)
  where
    go : (b : Bool) → 1 ≤ count_of (on i) ss → 1 ≤ pick b (suc (count_of (on i) ss)) (count_of (on i) ss)
    go true k = omega arith
    go false k = k

pub alone : (ss : List Stmt) (i j k : ℕ) (d : Stmt) → count_of (on i) ss ≤ 1 → j < k → k < length ss → target (get_or ss j d) ≡ i → target (get_or ss k d) ≡ i → ⊥
alone [] i j k d c q h a b = not-suc-le-zero h
alone (x ∷ ss) i j zero d c q h a b = not-suc-le-zero q
alone (x ∷ ss) i zero (suc k) d c q h a b =
    let n = count_some ss i k d (omega arith) b in
    let z : suc (count_of (on i) ss) ≤ 1 = subst (λ (y : Bool). pick y (suc (count_of (on i) ss)) (count_of (on i) ss) ≤ 1) (eq-eqb (target x) i a) c in
    omega arith
alone (x ∷ ss) i (suc j) (suc k) d c q h a b = alone ss i j k d (go (eqb (target x) i) c) (omega arith) (omega arith) a b
  where
    go : (y : Bool) → pick y (suc (count_of (on i) ss)) (count_of (on i) ss) ≤ 1 → count_of (on i) ss ≤ 1
    go true z = omega arith
    go false z = z

-- EVERY NOTE

-- the loop stands at a word
pub record Noting (signals stmts : List ℕ) (f : Firing) (bytes marks₀ : List ℕ) (word : ℕ) (marks : List ℕ) : Type 0 where
  pub number : ℕ
  pub walked : Walked stmts word number
  pub so_far : Noted signals stmts f bytes number marks
  pub as_long : length marks ≡ length marks₀

pub noting_start : (signals stmts : List ℕ) (f : Firing) (bytes marks : List ℕ) → Noting signals stmts f bytes marks 0 marks
noting_start signals stmts f bytes marks = record { number = 0; walked = walked_start stmts; so_far = record { noted = λ k q. absurd (not-suc-le-zero q) }; as_long = refl }

module _ {signals stmts : List ℕ} {f : Firing} {bytes marks₀ : List ℕ} {word : ℕ} {marks : List ℕ} (g : Noting signals stmts f bytes marks₀ word marks) where
  pub noting_out : {size : ℕ} → size ≡ size_at stmts word → size ≡ 0 → Noted signals stmts f bytes (length (records_in stmts)) marks
  noting_out {size} e z = subst (λ (n : ℕ). Noted signals stmts f bytes n marks) (walked_out g.walked size e z) g.so_far

  module _ {size : ℕ} (e : size ≡ size_at stmts word) (d : size ≡ 0 → ⊥) where
    pub noting_begins : Begins stmts word
    noting_begins = record { number = g.number; there = walked_there g.walked size e d; begins = g.walked.begins }

    pub noting_next : Stated signals stmts → {marks' : List ℕ} → length marks' ≡ length marks → ((k : ℕ) → k < length (records_in stmts) → word ≡ start_of stmts k → NotesOne signals stmts f bytes k marks marks') → Noting signals stmts f bytes marks₀ (word + size) marks'
    noting_next s {marks'} h note = record { number = g.number + 1; walked = walked_next g.walked size e d; so_far = record { noted = λ k q. more k (dec_lt k g.number) q }; as_long = h ∙ g.as_long }
      where
        there : g.number < length (records_in stmts)
        there = walked_there g.walked size e d

        one : NotesOne signals stmts f bytes g.number marks marks'
        one = note g.number there g.walked.begins

        -- another statement has another signal
        apart : (k : ℕ) → k < g.number → target (stmt_in stmts k) ≡ target (stmt_in stmts g.number) → ⊥
        apart k q z = alone (stmts_in stmts) (target (stmt_in stmts g.number)) k g.number (assign 0 0) (s.one_each (target (stmt_in stmts g.number)) (target_known s there)) q (omega (arith, there, read_length read_stmt (records_in stmts) s.readable)) z refl

        more : (k : ℕ) → Dec (k < g.number) → k < g.number + 1 → MarkOf signals stmts f bytes k (get_or marks' (target (stmt_in stmts k)) 0)
        more k (yes y) q = subst (MarkOf signals stmts f bytes k) (sym (one.others (target (stmt_in stmts k)) (apart k y))) (g.so_far.noted k y)
        more k (no n) q = let z : g.number ≡ k = omega arith in subst (λ (i : ℕ). MarkOf signals stmts f bytes i (get_or marks' (target (stmt_in stmts i)) 0)) z one.own

-- WHAT IS LOADED, by the marks

module _ {signals stmts : List ℕ} (s : Stated signals stmts) {word : ℕ} (marks : List ℕ) {k : ℕ} (q : k < length (records_in stmts)) (b : word ≡ start_of stmts k) where
  abbrev x : Stmt
  x = stmt_in stmts k

  pub loaded_other : (get_or stmts (word + 1) 0 ≡ 1 → ⊥) → None ≡ by_marks marks (stmt_in stmts k)
  loaded_other r = other_kind x (λ e. r (kind_is (spelled s q b) ∙ e)) (get_or marks (target x) 0)

  module _ (r : get_or stmts (word + 1) 0 ≡ 1) {t mark : ℕ} (ht : t ≡ get_or stmts (word + 2) 0) (hm : mark ≡ get_or marks t 0) where
    own : marked mark (stmt_in stmts k) ≡ by_marks marks (stmt_in stmts k)
    own = ap (λ (i : ℕ). marked i x) (hm ∙ ap (λ (i : ℕ). get_or marks i 0) (ht ∙ target_is (spelled s q b)))

    pub loaded_next : mark ≡ 1 → Some (get_or stmts (word + 3) 0) ≡ by_marks marks (stmt_in stmts k)
    loaded_next m = by_next stmts word x (spelled s q b) r m ∙ own

    pub loaded_none : (mark ≡ 1 → ⊥) → (mark ≡ 2 → ⊥) → None ≡ by_marks marks (stmt_in stmts k)
    loaded_none m n = by_none stmts word x m n ∙ own

    pub loaded_absent : mark ≡ 2 → get_or stmts (word + 6) 0 ≡ 0 → None ≡ by_marks marks (stmt_in stmts k)
    loaded_absent m z = by_absent stmts word x (spelled s q b) m z ∙ own

    pub loaded_reset : mark ≡ 2 → (get_or stmts (word + 6) 0 ≡ 0 → ⊥) → Some (get_or stmts (word + 9) 0) ≡ by_marks marks (stmt_in stmts k)
    loaded_reset m z = by_reset stmts word x (spelled s q b) r m z ∙ own

-- STORING, in a prepared model

module _ {signals exprs stmts expr_table signal_table : List ℕ} (p : Prepared signals exprs stmts expr_table signal_table) where
  abbrev m : Model
  m = model_in signals exprs stmts

  count : length (signal_widths (model_in signals exprs stmts)) ≡ length (model_in signals exprs stmts).signals
  count = length-map m.signals (λ (y : Signal). y.width)

  all_fit : AllFrom (λ (n : ℕ). stmt_fits (widths_in signals) (widths_in exprs)) 0 (stmts_in stmts)
  unfolding model_of
  all_fit =
      subst (λ (sw : List ℕ). AllFrom (λ (n : ℕ). stmt_fits sw (widths_in exprs)) 0 (stmts_in stmts)) (sym (signals_wide p))
      (subst (λ (ew : List ℕ). AllFrom (λ (n : ℕ). stmt_fits (signal_widths m) ew) 0 (stmts_in stmts)) (sym (exprs_wide p)) (is_sound p).stmts_fit)

  pub stated : Stated signals stmts
  unfolding model_of
  stated = record {
    expr_widths_lem = widths_in exprs;
    readable = stmts_read p.widest (raw_of (lists signals exprs stmts)) p.faultless;
    fit = all_fit;
    one_each = λ i q. one_each p.widest m (is_sound p) i (omega (arith, count, ap length (signals_wide p), length_widths signals));
  }

  module _ (marks : List ℕ) {word : ℕ} (d : ℕ) (b : Begins stmts word) (g : (k : ℕ) → k < length (records_in stmts) → word ≡ start_of stmts k → Some d ≡ by_marks marks (stmt_in stmts k)) where
    abbrev y : Stmt
    y = stmt_in stmts b.number

    suited : suits (widths_in signals) (widths_in exprs) (target (stmt_in stmts b.number)) d ≡ true
    suited = marked_gives (widths_in signals) (widths_in exprs) (get_or marks (target y) 0) y (all_at (λ (n : ℕ). stmt_fits (widths_in signals) (widths_in exprs)) 0 (stmts_in stmts) (assign 0 0) all_fit b.number (omega (arith, b.there, read_length read_stmt (records_in stmts) stated.readable))) d (sym (g b.number b.there b.begins))

    wide_there : wide (widths_in exprs) (length (widths_in exprs)) d (get_or (widths_in signals) (target (stmt_in stmts b.number)) 0) ≡ true
    wide_there = and_right (ltb (target y) (length (widths_in signals))) (wide (widths_in exprs) (length (widths_in exprs)) d (get_or (widths_in signals) (target y) 0)) suited

    pub load_asks : {bytes values : List ℕ} {t e : ℕ} → Room signals exprs bytes values → t ≡ get_or stmts (word + 2) 0 → e ≡ d → Indexed (widths_in exprs) expr_table × Indexed (widths_in signals) signal_table × Room signals exprs bytes values × (t < length (records_in signals)) × (e < length (records_in exprs)) × (get_or (widths_in exprs) e 0 ≡ get_or (widths_in signals) t 0)
    load_asks r ht he = (
      p.expr_offsets,
      p.signal_offsets,
      r,
      omega (arith, ht, target_is (spelled stated b.there b.begins), target_known stated b.there),
      omega (arith, he, length_widths exprs, ltb-true d (length (widths_in exprs)) (and_left (ltb d (length (widths_in exprs))) (eqb (get_or (widths_in exprs) d 0) (get_or (widths_in signals) (target y) 0)) wide_there)),
      ap (λ (i : ℕ). get_or (widths_in exprs) i 0) he
          ∙ eqb-true (get_or (widths_in exprs) d 0) (get_or (widths_in signals) (target y) 0) (and_right (ltb d (length (widths_in exprs))) (eqb (get_or (widths_in exprs) d 0) (get_or (widths_in signals) (target y) 0)) wide_there)
          ∙ ap (λ (i : ℕ). get_or (widths_in signals) i 0) (sym (ht ∙ target_is (spelled stated b.there b.begins))),
    )

  -- one statement
  module _ {values marks bytes : List ℕ} {word k : ℕ} (q : k < length (records_in stmts)) (b : word ≡ start_of stmts k) where
    pub load_stored : {t d e : ℕ} {bytes' : List ℕ} → Some d ≡ by_marks marks (stmt_in stmts k) → t ≡ get_or stmts (word + 2) 0 → e ≡ d → StoresOne signals exprs values t e bytes bytes' → StoresLoad signals exprs stmts values marks k bytes bytes'
    load_stored {t} {d} {e} {bytes'} g ht he o = record {
      stores_load = λ old vs behind rest ho hv.
          subst (λ (z : Option ℕ). Holds (widths_in signals) (store vs z (target (stmt_in stmts k)) old) behind bytes') g
          (subst (λ (i : ℕ). Holds (widths_in signals) (set old i (get_or vs d [])) behind bytes') (ht ∙ target_is (spelled stated q b))
          (subst (λ (i : ℕ). Holds (widths_in signals) (set old t (get_or vs i [])) behind bytes') he (o.stores_one old vs behind rest ho hv)));
    }

    pub load_none : None ≡ by_marks marks (stmt_in stmts k) → StoresLoad signals exprs stmts values marks k bytes bytes
    load_none g = record { stores_load = λ old vs behind rest ho hv. subst (λ (z : Option ℕ). Holds (widths_in signals) (store vs z (target (stmt_in stmts k)) old) behind bytes) g ho }

-- every statement: what is left to store leads to the same
pub record Loading (signals exprs stmts values marks bytes₀ : List ℕ) (word : ℕ) (bytes : List ℕ) : Type 0 where
  pub number : ℕ
  pub walked : Walked stmts word number
  pub left : (old vs : List Bits) (behind rest : List ℕ) → Holds (widths_in signals) old behind bytes₀ → Holds (widths_in exprs) vs rest values → (cur : List Bits) × Holds (widths_in signals) cur behind bytes × (stores (by_marks marks) vs (drop number (stmts_in stmts)) cur ≡ stores (by_marks marks) vs (stmts_in stmts) old)
  pub as_long : length bytes ≡ length bytes₀

pub loading_start : (signals exprs stmts values marks bytes : List ℕ) → Loading signals exprs stmts values marks bytes 0 bytes
loading_start signals exprs stmts values marks bytes = record { number = 0; walked = walked_start stmts; left = λ old vs behind rest ho hv. (old, ho, refl); as_long = refl }

module _ {signals exprs stmts values marks bytes₀ : List ℕ} {word : ℕ} {bytes : List ℕ} (s : Stated signals stmts) (g : Loading signals exprs stmts values marks bytes₀ word bytes) where
  done : g.number ≡ length (records_in stmts) → StoresMarked signals exprs stmts values marks bytes₀ bytes
  done e = record {
    stores_marked = λ old vs behind rest ho hv.
        let l = g.left old vs behind rest ho hv in
        let z : drop g.number (stmts_in stmts) ≡ [] = drop_of_length-le (stmts_in stmts) {i = g.number} (omega (arith, e, read_length read_stmt (records_in stmts) s.readable)) in
        subst (λ (t : List Bits). Holds (widths_in signals) t behind bytes) (ap (λ (ss : List Stmt). stores (by_marks marks) vs ss l.0) (sym z) ∙ l.2) l.1;
  }

  pub loading_out : {size : ℕ} → size ≡ size_at stmts word → size ≡ 0 → StoresMarked signals exprs stmts values marks bytes₀ bytes
  loading_out {size} e z = done (walked_out g.walked size e z)

  pub loading_room : Room signals exprs bytes₀ values → Room signals exprs bytes values
  loading_room r = record { bytes_room = omega (arith, r.bytes_room, g.as_long); values_room = r.values_room }

  module _ {size : ℕ} (e : size ≡ size_at stmts word) (d : size ≡ 0 → ⊥) where
    there : g.number < length (records_in stmts)
    there = walked_there g.walked size e d

    pub loading_begins : Begins stmts word
    loading_begins = record { number = g.number; there = there; begins = g.walked.begins }

    pub loading_next : {bytes' : List ℕ} → length bytes' ≡ length bytes → ((k : ℕ) → k < length (records_in stmts) → word ≡ start_of stmts k → StoresLoad signals exprs stmts values marks k bytes bytes') → Loading signals exprs stmts values marks bytes₀ (word + size) bytes'
    loading_next {bytes'} h one = record {
      number = g.number + 1;
      walked = walked_next g.walked size e d;
      left = λ old vs behind rest ho hv.
          let l = g.left old vs behind rest ho hv in (
            store vs (by_marks marks (stmt_in stmts g.number)) (target (stmt_in stmts g.number)) l.0,
            (one g.number there g.walked.begins).stores_load l.0 vs behind rest l.1 hv,
            sym (ap (λ (ss : List Stmt). stores (by_marks marks) vs ss l.0) next) ∙ l.2,
          );
      as_long = h ∙ g.as_long;
    }
      where
        next : drop g.number (stmts_in stmts) ≡ stmt_in stmts g.number ∷ drop (g.number + 1) (stmts_in stmts)
        next = drop-cons (stmts_in stmts) g.number (assign 0 0) (omega (arith, there, read_length read_stmt (records_in stmts) s.readable)) ∙ ap (λ (n : ℕ). stmt_in stmts g.number ∷ drop n (stmts_in stmts)) (sym (add-one g.number))

-- THE WORDS THAT NAME AN EXPRESSION: the fourth, and a register's tenth if it has a reset

module _ (l : List ℕ) (word e : ℕ) where
  abbrev NamedBy : Type 0
  NamedBy = (get_or l (word + 3) 0 ≡ e) ⊎ ((get_or l (word + 1) 0 ≡ 1) × (get_or l (word + 6) 0 ≡ 0 → ⊥) × (get_or l (word + 9) 0 ≡ e))

  names_by : (x : Stmt) → Spelled l word x → Names x e → NamedBy
  names_by (assign t n) p (inl h) = inl (p.words 3 (omega arith) ∙ some_injective n e h)
  names_by (assign t n) p (inr (inl h)) = absurd (none_ne_some e h)
  names_by (assign t n) p (inr (inr h)) = absurd (none_ne_some e h)
  names_by (reg t n c d r v) p (inl h) = absurd (none_ne_some e h)
  names_by (reg t n c d r v) p (inr (inl h)) = inl (p.words 3 (omega (arith, least (reg t n c d r v))) ∙ some_injective n e h)
  names_by (reg t n c d None v) p (inr (inr h)) = absurd (none_ne_some e h)
  names_by (reg t n c d (Some r) v) p (inr (inr h)) = inr (kind_is p, (λ z. absurd (omega (arith, (reset_words l word t n c d r v p).first, z))), reset_value_lem l word t n c d r v p ∙ some_injective r.value e h)

pub names_word : {signals stmts : List ℕ} → Stated signals stmts → {word k : ℕ} → k < length (records_in stmts) → word ≡ start_of stmts k → (e : ℕ) → Names (stmt_in stmts k) e → (get_or stmts (word + 3) 0 ≡ e) ⊎ ((get_or stmts (word + 1) 0 ≡ 1) × (get_or stmts (word + 6) 0 ≡ 0 → ⊥) × (get_or stmts (word + 9) 0 ≡ e))
names_word {stmts = stmts} s {word} {k} q b e h = names_by stmts word e (stmt_in stmts k) (spelled s q b) h

-- WHAT A STATEMENT'S WORDS SAY: its signal, that it is a register, the signals that it asks for

kind_word : (x : Stmt) → is_register x ≡ true → get_or (stmt_words x) 1 0 ≡ 1
kind_word (assign t e) h = absurd (false≢true h)
kind_word (reg t n c d r e) h = refl

module _ (l : List ℕ) (word s : ℕ) where
  abbrev AskedBy : Type 0
  AskedBy = (get_or l (word + 1) 0 ≡ 1) × (((get_or l (word + 6) 0 ≡ 0 → ⊥) × (get_or l (word + 6 + 1) 0 ≡ s)) ⊎ ((get_or l (enable_at l word) 0 ≡ 0 → ⊥) × (get_or l (enable_at l word + 1) 0 ≡ s)))

  asked_by : (x : Stmt) → Spelled l word x → Asks x s → AskedBy
  asked_by (assign t n) p h = absurd h
  asked_by (reg t n c d None e) p (inl h) = absurd (none_ne_some s h)
  asked_by (reg t n c d (Some r) e) p (inl h) =
      let g = reset_words l word t n c d r e p in
      (kind_is p, inl ((λ z. absurd (omega (arith, g.first, z))), g.signal ∙ some_injective r.signal s h))
  asked_by (reg t n c d r None) p (inr h) = absurd (none_ne_some s h)
  asked_by (reg t n c d r (Some e)) p (inr h) =
      let g = enable_words l word t n c d r e p in
      let i = enable_from_lem l word t n c d r (Some e) p in
      (kind_is p, inr ((λ z. absurd (omega (arith, g.first, ap (λ (j : ℕ). get_or l j 0) (sym i) ∙ z))), ap (λ (j : ℕ). get_or l (j + 1) 0) i ∙ g.signal ∙ some_injective e.signal s h))

module _ {signals stmts : List ℕ} (s : Stated signals stmts) {word k : ℕ} (q : k < length (records_in stmts)) (b : word ≡ start_of stmts k) where
  pub target_of : get_or stmts (word + 2) 0 ≡ target (stmt_in stmts k)
  target_of = target_is (spelled s q b)

  pub register_word : is_register (stmt_in stmts k) ≡ true → get_or stmts (word + 1) 0 ≡ 1
  register_word h = kind_is (spelled s q b) ∙ kind_word (stmt_in stmts k) h

  pub asks_word : (x : ℕ) → Asks (stmt_in stmts k) x → (get_or stmts (word + 1) 0 ≡ 1) × (((get_or stmts (word + 6) 0 ≡ 0 → ⊥) × (get_or stmts (word + 6 + 1) 0 ≡ x)) ⊎ ((get_or stmts (enable_at stmts word) 0 ≡ 0 → ⊥) × (get_or stmts (enable_at stmts word + 1) 0 ≡ x)))
  asks_word x h = asked_by stmts word x (stmt_in stmts k) (spelled s q b) h

-- THE COMMIT

-- rules that agree on some statements store the same
same_stores : (rule rule' : Stmt → Option ℕ) (vs : List Bits) (ss : List Stmt) (t : List Bits) → ((k : ℕ) → k < length ss → rule (get_or ss k (assign 0 0)) ≡ rule' (get_or ss k (assign 0 0))) → stores rule vs ss t ≡ stores rule' vs ss t
same_stores rule rule' vs [] t h = refl
same_stores rule rule' vs (x ∷ ss) t h =
    ap (λ (o : Option ℕ). stores rule vs ss (store vs o (target x) t)) (h 0 (omega arith))
    ∙ same_stores rule rule' vs ss (store vs (rule' x) (target x) t) (λ k q. h (suc k) (omega arith))

-- and so do values that agree on what the rule gives
pub same_values : (rule : Stmt → Option ℕ) (a b : List Bits) (ss : List Stmt) (t : List Bits) → ((k : ℕ) → k < length ss → (e : ℕ) → rule (get_or ss k (assign 0 0)) ≡ Some e → get_or a e [] ≡ get_or b e []) → stores rule a ss t ≡ stores rule b ss t
same_values rule a b [] t h = refl
same_values rule a b (x ∷ ss) t h =
    ap (stores rule a ss) (one (rule x) (λ e k. h 0 (omega arith) e k))
    ∙ same_values rule a b ss (store b (rule x) (target x) t) (λ k q. h (suc k) (omega arith))
  where
    one : (o : Option ℕ) → ((e : ℕ) → o ≡ Some e → get_or a e [] ≡ get_or b e []) → store a o (target x) t ≡ store b o (target x) t
    one None g = refl
    one (Some e) g = ap (set t (target x)) (g e refl)

-- what a register loads by a mark it names
names_marked : (mark : ℕ) (x : Stmt) (e : ℕ) → marked mark x ≡ Some e → Names x e
names_marked mark (assign t n) e h = absurd (none_ne_some e h)
names_marked mark (reg t n c d r v) e h = go (eqb mark 1) (eqb mark 2) h
  where
    go : (y z : Bool) → pick y (Some n) (pick z (reset_value r) None) ≡ Some e → Names (reg t n c d r v) e
    go true z k = inr (inl k)
    go false true k = inr (inr k)
    go false false k = absurd (none_ne_some e k)

module _ {signals exprs stmts expr_table signal_table : List ℕ} (p : Prepared signals exprs stmts expr_table signal_table) where
  pub committed : {f : Firing} {values marks bytes bytes' : List ℕ} → Noted signals stmts f bytes (length (records_in stmts)) marks → StoresMarked signals exprs stmts values marks bytes bytes' → Commits signals exprs stmts f values bytes bytes'
  unfolding model_of
  committed {f} {values} {marks} {bytes} {bytes'} n w = record {
    commits = λ t vs behind rest ht hv z.
        subst (λ (l : List Bits). Holds (widths_in signals) l behind bytes')
        (same_values (by_marks marks) vs (values_in m t) (stmts_in stmts) t (λ k q e r. z e (record { number = k; there = omega (arith, read_length read_stmt (records_in stmts) (stated p).readable); names = names_marked (get_or marks (target (stmt_in stmts k)) 0) (stmt_in stmts k) e r }))
        ∙ same_stores (by_marks marks) (loads f (signals_at [] t)) (values_in m t) (stmts_in stmts) t (λ k q. (n.noted k (omega (arith, read_length read_stmt (records_in stmts) (stated p).readable))).means t behind ht)
        ∙ stores_is_commit m (one_each p.widest m (is_sound p)) f t (holds_length ht ∙ ap length (signals_wide p) ∙ count p))
        (w.stores_marked t vs behind rest ht hv);
  }
    where
      m : Model
      m = model_in signals exprs stmts
