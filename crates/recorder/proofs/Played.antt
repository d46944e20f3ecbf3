-- Playing events into lists of zeros: where all records fit, the lists hold them, and else the first that does not fit ends it.
-- Assumes nothing.
use mathlib.Core.Path.{◌≡◌, refl, ap, ap₂, sym, ◌∙◌, subst}
use mathlib.Core.Bool.{Bool, true, false}
use mathlib.Core.List.{List, [], ◌∷◌, ◌++◌, append-nil, append_assoc}
use mathlib.Core.Logic.{◌⊎◌, inl, inr, ⊎_elim}
use Prim.Native.Nat.{ℕ, zero, suc, ◌+◌, ◌-◌, ◌≤◌, min}
use native.Mathlib.Omega.{arith}
use lib.Dec.{leb}
use lib.ListN.{length, drop, replicate, length-append, length-replicate}
use lib.Seq.{sets-eq, take-append_seam, drop-append-add, append_snoc}
use borrow.Author.Tests.{le-leb, leb-true}
use Rattle.bits.specs.Bits.{pick}
use Rattle.recorder.specs.declared.Tapes.{Tapes}
use Rattle.recorder.specs.Record.{Signal, Expr, Stmt, Model, signal_words, expr_words, stmt_words}
use Rattle.recorder.specs.Writer.{Event, Event.signal, Event.expr, Event.stmt, signals_of, exprs_of, stmts_of, model_of}
use Rattle.recorder.specs.Lists.{fits, over, behind, Lists, lists, tapes, Played, Played.going, Played.full, list_of, has_room, laid, advanced, put, onward, play}
use Rattle.recorder.proofs.Wrote.{play_append}
use Rattle.recorder.specs.Words.{list_words, words_of, holding, holding_all, tape_of, tapes_of, nothing, blank, unwritten, plus, Fit, Filled}

-- ONE LIST

module _ {A : Type 0} (f : A → List ℕ) where
  pub words_append : (xs ys : List A) → list_words f (xs ++ ys) ≡ list_words f xs ++ list_words f ys
  words_append [] ys = refl
  words_append (x ∷ xs) ys = ap (λ (l : List ℕ). f x ++ l) (words_append xs ys) ∙ sym (append_assoc (f x) (list_words f xs) (list_words f ys))

  pub words_snoc : (xs : List A) (x : A) → list_words f (xs ++ (x ∷ [])) ≡ list_words f xs ++ f x
  words_snoc xs x = words_append xs (x ∷ []) ∙ ap (λ (l : List ℕ). list_words f xs ++ l) (append-nil (f x))

  pub size_snoc : (xs : List A) (x : A) → length (list_words f (xs ++ (x ∷ []))) ≡ length (list_words f xs) + length (f x)
  size_snoc xs x = ap length (words_snoc xs x) ∙ length-append (list_words f xs) (f x)

  pub size_append : (xs ys : List A) → length (list_words f (xs ++ ys)) ≡ length (list_words f xs) + length (list_words f ys)
  size_append xs ys = ap length (words_append xs ys) ∙ length-append (list_words f xs) (list_words f ys)

drop_zeros : (k n : ℕ) → drop {A = ℕ} k (replicate n 0) ≡ replicate (n - k) 0
drop_zeros zero n = let e : n ≡ n - 0 = omega arith in ap (λ (j : ℕ). replicate {A = ℕ} j 0) e
drop_zeros (suc k) zero = let e : 0 ≡ 0 - suc k = omega arith in ap (λ (j : ℕ). replicate {A = ℕ} j 0) e
drop_zeros (suc k) (suc n) = let e : n - k ≡ suc n - suc k = omega arith in drop_zeros k n ∙ ap (λ (j : ℕ). replicate {A = ℕ} j 0) e

pub length_holding : (len : ℕ) (ws : List ℕ) → length ws ≤ len → length (holding len ws) ≡ len
length_holding len ws h = omega (arith, length-append ws (replicate (len - length ws) 0), length-replicate {A = ℕ} (len - length ws) 0)

-- words laid behind those that are there
holding_more : (len : ℕ) (ws vs : List ℕ) → length ws + length vs ≤ len → over (holding len ws) (length ws) vs ≡ holding len (ws ++ vs)
unfolding over
holding_more len ws vs h =
    let n : length ws + length vs ≤ length (holding len ws) = omega (arith, length_holding len ws (omega arith)) in
    let k : len - length ws - length vs ≡ len - length (ws ++ vs) = omega (arith, length-append ws vs) in
    sets-eq vs (holding len ws) (length ws) n
    ∙ ap₂ (λ (x y : List ℕ). x ++ vs ++ y) (take-append_seam ws _) (drop-append-add ws _ (length vs) ∙ drop_zeros (length vs) (len - length ws) ∙ ap (λ (j : ℕ). replicate {A = ℕ} j 0) k)

module _ {A : Type 0} (f : A → List ℕ) (some : (a : A) → 1 ≤ length (f a)) (len : ℕ) (rs : List A) (x : A) where
  counted : (l : List A) → length l ≤ length (list_words f l)
  counted [] = omega arith
  counted (a ∷ l) = omega (arith, some a, counted l, length-append (f a) (list_words f l))

  -- whether one record more fits goes by the words alone
  one_fits : length (list_words f rs) ≤ min len 2147483648 → fits (length (holding len (list_words f rs))) (tape_of f rs) (length (f x)) ≡ leb (length (list_words f (rs ++ (x ∷ [])))) (min len 2147483648)
  unfolding fits
  one_fits h =
      let n : length (list_words f rs) ≤ len = omega arith in
      rw (le-leb (length rs) (length (list_words f rs)) (counted rs)) (ap₂ (λ (i j : ℕ). leb i (min j 2147483648)) (sym (size_snoc f rs x)) (length_holding len (list_words f rs) n))

  one_laid : length (list_words f (rs ++ (x ∷ []))) ≤ min len 2147483648 → over (holding len (list_words f rs)) (length (list_words f rs)) (f x) ≡ holding len (list_words f (rs ++ (x ∷ [])))
  one_laid h = holding_more len (list_words f rs) (f x) (omega (arith, size_snoc f rs x)) ∙ ap (holding len) (sym (words_snoc f rs x))

  one_behind : behind (tape_of f rs) (length (f x)) ≡ tape_of f (rs ++ (x ∷ []))
  one_behind =
      let k : length rs + 1 ≡ length (rs ++ (x ∷ [])) = omega (arith, length-append rs (x ∷ [])) in
      λ i. record { used = sym (size_snoc f rs x) i; count = k i }

signal_some : (s : Signal) → 1 ≤ length (signal_words s)
signal_some s = omega arith

expr_some : (x : Expr) → 1 ≤ length (expr_words x)
expr_some (Expr.const w v) = omega arith
expr_some (Expr.read w s l) = omega arith
expr_some (Expr.concat w ps) = omega arith
expr_some (Expr.not a) = omega arith
expr_some (Expr.and a b) = omega arith
expr_some (Expr.or a b) = omega arith
expr_some (Expr.xor a b) = omega arith
expr_some (Expr.mux w s t f) = omega arith
expr_some (Expr.eq a b) = omega arith
expr_some (Expr.mul a b) = omega arith

stmt_some : (x : Stmt) → 1 ≤ length (stmt_words x)
stmt_some (Stmt.assign t e) = omega arith
stmt_some (Stmt.reg t n c d r e) = omega arith

-- ALL THREE

-- the records of events behind those of a model
abbrev adding : Model → List Event → Model
adding m es = record { signals = m.signals ++ signals_of es; exprs = m.exprs ++ exprs_of es; stmts = m.stmts ++ stmts_of es }

adding_nil : (m : Model) → adding m [] ≡ m
adding_nil m = λ i. record { signals = append-nil m.signals i; exprs = append-nil m.exprs i; stmts = append-nil m.stmts i }

adding_one : (m : Model) (e : Event) (es : List Event) → adding (plus m e) es ≡ adding m (e ∷ es)
adding_one m (signal s) es = λ i. record { signals = append_snoc m.signals s (signals_of es) i; exprs = m.exprs ++ exprs_of es; stmts = m.stmts ++ stmts_of es }
adding_one m (expr x) es = λ i. record { signals = m.signals ++ signals_of es; exprs = append_snoc m.exprs x (exprs_of es) i; stmts = m.stmts ++ stmts_of es }
adding_one m (stmt t) es = λ i. record { signals = m.signals ++ signals_of es; exprs = m.exprs ++ exprs_of es; stmts = append_snoc m.stmts t (stmts_of es) i }

module _ (a b c : ℕ) where
  fit_less : (m : Model) (es : List Event) → Fit a b c (adding m es) → Fit a b c m
  fit_less m es h = record {
    signals = omega (arith, h.signals, size_append signal_words m.signals (signals_of es));
    exprs = omega (arith, h.exprs, size_append expr_words m.exprs (exprs_of es));
    stmts = omega (arith, h.stmts, size_append stmt_words m.stmts (stmts_of es));
  }

  -- one record more, where what is there fits
  abbrev room_for : Model → Event → Bool
  room_for m (signal s) = leb (length (words_of (plus m (signal s))).signals) (min a 2147483648)
  room_for m (expr x) = leb (length (words_of (plus m (expr x))).exprs) (min b 2147483648)
  room_for m (stmt t) = leb (length (words_of (plus m (stmt t))).stmts) (min c 2147483648)

  room_is : (m : Model) (e : Event) → Fit a b c m → has_room (holding_all a b c m) (tapes_of m) e ≡ room_for m e
  room_is m (signal s) h = one_fits signal_words signal_some a m.signals s h.signals
  room_is m (expr x) h = one_fits expr_words expr_some b m.exprs x h.exprs
  room_is m (stmt t) h = one_fits stmt_words stmt_some c m.stmts t h.stmts

  room_fit : (m : Model) (e : Event) → Fit a b c m → room_for m e ≡ true → Fit a b c (plus m e)
  room_fit m (signal s) h q = record { signals = leb-true _ _ q; exprs = h.exprs; stmts = h.stmts }
  room_fit m (expr x) h q = record { signals = h.signals; exprs = leb-true _ _ q; stmts = h.stmts }
  room_fit m (stmt t) h q = record { signals = h.signals; exprs = h.exprs; stmts = leb-true _ _ q }

  fit_room : (m : Model) (e : Event) → Fit a b c (plus m e) → room_for m e ≡ true
  fit_room m (signal s) h = le-leb _ _ h.signals
  fit_room m (expr x) h = le-leb _ _ h.exprs
  fit_room m (stmt t) h = le-leb _ _ h.stmts

  laid_is : (m : Model) (e : Event) → Fit a b c (plus m e) → going (laid (holding_all a b c m) (tapes_of m) e) (advanced (tapes_of m) e) ≡ going (holding_all a b c (plus m e)) (tapes_of (plus m e))
  laid_is m (signal s) h = λ i. going
      (lists (one_laid signal_words signal_some a m.signals s h.signals i) (holding b (words_of m).exprs) (holding c (words_of m).stmts))
      (tapes (one_behind signal_words signal_some a m.signals s i) (tape_of expr_words m.exprs) (tape_of stmt_words m.stmts))
  laid_is m (expr x) h = λ i. going
      (lists (holding a (words_of m).signals) (one_laid expr_words expr_some b m.exprs x h.exprs i) (holding c (words_of m).stmts))
      (tapes (tape_of signal_words m.signals) (one_behind expr_words expr_some b m.exprs x i) (tape_of stmt_words m.stmts))
  laid_is m (stmt t) h = λ i. going
      (lists (holding a (words_of m).signals) (holding b (words_of m).exprs) (one_laid stmt_words stmt_some c m.stmts t h.stmts i))
      (tapes (tape_of signal_words m.signals) (tape_of expr_words m.exprs) (one_behind stmt_words stmt_some c m.stmts t i))

  put_fit : (m : Model) (e : Event) → Fit a b c m → Fit a b c (plus m e) → put (holding_all a b c m) (tapes_of m) e ≡ going (holding_all a b c (plus m e)) (tapes_of (plus m e))
  put_fit m e h g =
      let q : has_room (holding_all a b c m) (tapes_of m) e ≡ true = room_is m e h ∙ fit_room m e g in
      ap (λ (t : Bool). pick t (going (laid (holding_all a b c m) (tapes_of m) e) (advanced (tapes_of m) e)) (full (list_of e) (holding_all a b c m))) q ∙ laid_is m e g

  put_unfit : (m : Model) (e : Event) → Fit a b c m → (Fit a b c (plus m e) → ⊥) → put (holding_all a b c m) (tapes_of m) e ≡ full (list_of e) (holding_all a b c m)
  put_unfit m e h g = ap (λ (t : Bool). pick t (going (laid (holding_all a b c m) (tapes_of m) e) (advanced (tapes_of m) e)) (full (list_of e) (holding_all a b c m))) (room_is m e h ∙ go (room_for m e) refl)
    where
      go : (t : Bool) → room_for m e ≡ t → t ≡ false
      go true q = absurd (g (room_fit m e h q))
      go false q = refl

  -- ---- all records fit

  fit_play : (es : List Event) (m : Model) → Fit a b c m → Fit a b c (adding m es) → play (holding_all a b c m) (tapes_of m) es ≡ going (holding_all a b c (adding m es)) (tapes_of (adding m es))
  unfolding play
  fit_play [] m h g = ap (λ (k : Model). going (holding_all a b c k) (tapes_of k)) (sym (adding_nil m))
  fit_play (e ∷ es) m h g =
      let g' : Fit a b c (adding (plus m e) es) = subst (Fit a b c) (sym (adding_one m e es)) g in
      let one : Fit a b c (plus m e) = fit_less (plus m e) es g' in
      ap (λ (p : Played). onward p (λ l t. play l t es)) (put_fit m e h one) ∙ fit_play es (plus m e) one g'
      ∙ ap (λ (k : Model). going (holding_all a b c k) (tapes_of k)) (adding_one m e es)

  -- ---- or one does not

  record First (m : Model) (es : List Event) : Type 0 where
    pub done : List Event
    pub next : Event
    pub rest : List Event
    pub events : es ≡ done ++ (next ∷ rest)
    pub fit : Fit a b c (adding m done)
    pub unfit : Fit a b c (plus (adding m done) next) → ⊥

  which : (es : List Event) (m : Model) → Fit a b c m → Fit a b c (adding m es) ⊎ First m es
  which [] m h = inl (subst (Fit a b c) (sym (adding_nil m)) h)
  which (e ∷ es) m h = go (room_for m e) refl (which es (plus m e))
    where
      later : First (plus m e) es → First m (e ∷ es)
      later f = record {
        done = e ∷ f.done;
        next = f.next;
        rest = f.rest;
        events = ap (λ (l : List Event). e ∷ l) f.events;
        fit = subst (Fit a b c) (adding_one m e f.done) f.fit;
        unfit = λ g. f.unfit (subst (λ (k : Model). Fit a b c (plus k f.next)) (sym (adding_one m e f.done)) g);
      }

      go : (t : Bool) → room_for m e ≡ t → (Fit a b c (plus m e) → Fit a b c (adding (plus m e) es) ⊎ First (plus m e) es) → Fit a b c (adding m (e ∷ es)) ⊎ First m (e ∷ es)
      go true q f = ⊎_elim (λ g. inl (subst (Fit a b c) (adding_one m e es) g)) (λ g. inr (later g)) (f (room_fit m e h q))
      go false q f = inr (record {
        done = [];
        next = e;
        rest = es;
        events = refl;
        fit = subst (Fit a b c) (sym (adding_nil m)) h;
        unfit = λ g. let r : room_for m e ≡ true = fit_room m e (subst (λ (k : Model). Fit a b c (plus k e)) (adding_nil m) g) in let z : ◌≡◌ {A = Bool} true false = sym r ∙ q in let o : ◌≡◌ {A = ℕ} 0 1 = cc in omega arith;
      })

  empty_fits : Fit a b c nothing
  empty_fits = record { signals = omega arith; exprs = omega arith; stmts = omega arith }

  blank_is : blank a b c ≡ holding_all a b c nothing
  blank_is =
      let whole : (n : ℕ) → n ≡ n - 0 = λ n. omega arith in
      λ i. lists (replicate (whole a i) 0) (replicate (whole b i) 0) (replicate (whole c i) 0)

  -- WHAT PLAYING INTO LISTS OF ZEROS GIVES

  -- records that fit lie in the lists, one after the other, with zeros behind them
  pub played_fit : (es : List Event) → Fit a b c (model_of es) → play (blank a b c) unwritten es ≡ going (holding_all a b c (model_of es)) (tapes_of (model_of es))
  played_fit es h = ap (λ (l : Lists). play l unwritten es) blank_is ∙ fit_play es nothing empty_fits h

  -- the first that does not fit ends it
  pub played_full : (es : List Event) {i : ℕ} {l : Lists} → Filled a b c es i l → play (blank a b c) unwritten es ≡ full i l
  unfolding play
  played_full es {i} {l} f =
      ap (play (blank a b c) unwritten) f.events
      ∙ play_append f.done (f.next ∷ f.rest) (blank a b c) unwritten
      ∙ ap (λ (p : Played). onward p (λ l' t'. play l' t' (f.next ∷ f.rest))) (played_fit f.done f.fit)
      ∙ ap (λ (p : Played). onward p (λ l' t'. play l' t' f.rest)) (put_unfit (model_of f.done) f.next f.fit f.unfit)
      ∙ (λ j. full (f.list j) (f.held j))

  -- there is no third way
  pub fit_or_filled : (es : List Event) → Fit a b c (model_of es) ⊎ ((i : ℕ) × (l : Lists) × Filled a b c es i l)
  fit_or_filled es = ⊎_elim (λ h. inl h) (λ f. inr (list_of f.next, holding_all a b c (model_of f.done), filled f)) (which es nothing empty_fits)
    where
      filled : (f : First nothing es) → Filled a b c es (list_of f.next) (holding_all a b c (model_of f.done))
      filled f = record { done = f.done; next = f.next; rest = f.rest; events = f.events; fit = f.fit; unfit = f.unfit; list = refl; held = refl }

  -- so playing tells which of the two it was
  pub going_fit : (es : List Event) {l : Lists} {t : Tapes} → play (blank a b c) unwritten es ≡ going l t → Fit a b c (model_of es) × (l ≡ holding_all a b c (model_of es)) × (t ≡ tapes_of (model_of es))
  going_fit es {l} {t} q =
      ⊎_elim
      (λ h. let p = played_fit es h in (h, cc, cc))
      (λ f. let p = played_full es f.2 in let z : ◌≡◌ {A = ℕ} 0 1 = cc in absurd (omega arith))
      (fit_or_filled es)
