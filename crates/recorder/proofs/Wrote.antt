-- Laws of `Wrote`: one call after another, a call that stops, one record, none.
use mathlib.Core.Path.{◌≡◌, refl, ap, sym, ◌∙◌, subst}
use mathlib.Core.Bool.{Bool, true, false}
use mathlib.Core.List.{List, [], ◌∷◌, ◌++◌}
use Prim.Native.Nat.{ℕ, suc, ◌+◌}
use native.Mathlib.Nat.{add-zero}
use native.Mathlib.Omega.{arith}
use lib.ListN.{length}
use Rattle.bits.specs.Bits.{pick}
use Rattle.recorder.specs.declared.Tapes.{Tapes}
use Rattle.recorder.specs.Writer.{Event, Event.signal, Event.expr, Event.stmt, signals_of, exprs_of, stmts_of, Count, further, End, End.ok, End.no, Writer, pure, refuse, after, ◌>>=◌}
use Rattle.recorder.specs.Lists.{Lists, count_of, Played, Played.going, Played.full, list_of, has_room, laid, advanced, put, onward, play, Answer, Answer.Done, Answer.Failed, Left, finish, writing, Wrote}

one_more : (a b : ℕ) → a + 1 + b ≡ a + suc b
one_more a b = omega arith

-- PLAYING

pub play_append : (xs ys : List Event) (l : Lists) (t : Tapes) → play l t (xs ++ ys) ≡ onward (play l t xs) (λ l' t'. play l' t' ys)
unfolding play
play_append [] ys l t = refl
play_append (e ∷ xs) ys l t = go (put l t e) (λ l' t'. play_append xs ys l' t')
  where
    go : (p : Played) → ((l' : Lists) (t' : Tapes) → play l' t' (xs ++ ys) ≡ onward (play l' t' xs) (λ k u. play k u ys))
        → onward p (λ l' t'. play l' t' (xs ++ ys)) ≡ onward (onward p (λ l' t'. play l' t' xs)) (λ l' t'. play l' t' ys)
    go (going l' t') ih = ih l' t'
    go (full i l') ih = refl

-- each record takes the next number of its list
count_one : (t : Tapes) (e : Event) (xs : List Event) → further (count_of (advanced t e)) xs ≡ further (count_of t) (e ∷ xs)
count_one t (signal s) xs = λ i. record { signals = one_more t.signals.count (length (signals_of xs)) i; exprs = t.exprs.count + length (exprs_of xs); stmts = t.stmts.count + length (stmts_of xs) }
count_one t (expr x) xs = λ i. record { signals = t.signals.count + length (signals_of xs); exprs = one_more t.exprs.count (length (exprs_of xs)) i; stmts = t.stmts.count + length (stmts_of xs) }
count_one t (stmt x) xs = λ i. record { signals = t.signals.count + length (signals_of xs); exprs = t.exprs.count + length (exprs_of xs); stmts = one_more t.stmts.count (length (stmts_of xs)) i }

pub play_counts : (es : List Event) (l : Lists) (t : Tapes) {l' : Lists} {t' : Tapes} → play l t es ≡ going l' t' → count_of t' ≡ further (count_of t) es
unfolding play
play_counts [] l t {l'} {t'} q =
    let e : t ≡ t' = cc in
    sym (ap count_of e)
    ∙ (λ i. record { signals = sym (add-zero t.signals.count) i; exprs = sym (add-zero t.exprs.count) i; stmts = sym (add-zero t.stmts.count) i })
play_counts (e ∷ es) l t {l'} {t'} q = go (has_room l t e) (λ h. play_counts es (laid l t e) (advanced t e) h ∙ count_one t e es) q
  where
    go : (b : Bool) → (play (laid l t e) (advanced t e) es ≡ going l' t' → count_of t' ≡ further (count_of t) (e ∷ es))
        → onward (pick b (going (laid l t e) (advanced t e)) (full (list_of e) l)) (λ k u. play k u es) ≡ going l' t' → count_of t' ≡ further (count_of t) (e ∷ es)
    go true f h = f h
    go false f h = let z : ◌≡◌ {A = ℕ} 0 1 = cc in absurd (omega arith)

-- ONE CALL AFTER ANOTHER

abbrev pub chained : {A B : Type 0} → Answer A → Lists → (A → Tapes → Lists → Left B) → Left B
chained (Done a t) l k = k a t l
chained (Failed number place) l k = record { answer = Failed number place; lists = l }

module _ {A B : Type 0} (l : Lists) (t : Tapes) (w : Writer A) (k : A → Writer B) where
  abbrev es : List Event
  es = (w (count_of t)).events

  abbrev m : Count
  m = further (count_of t) es

  goes : (a : A) (p : Played) → play l t es ≡ p
      → finish (onward p (λ l' t'. play l' t' (k a m).events)) (k a m).end ≡ chained (finish p (ok a)).answer (finish p (ok a)).lists (λ b u l'. writing l' u (k b))
  goes a (going l' t') q = ap (λ (n : Count). finish (play l' t' (k a n).events) (k a n).end) (sym (play_counts es l t q))
  goes a (full i l') q = refl

  stops : (number place : ℕ) (p : Played)
      → finish {A = B} p (no number place) ≡ chained (finish {A = A} p (no number place)).answer (finish {A = A} p (no number place)).lists (λ b u l'. writing l' u (k b))
  stops number place (going l' t') = refl
  stops number place (full i l') = refl

  go : (y : End A) → finish (play l t (after es y m k).events) (after es y m k).end ≡ chained (finish (play l t es) y).answer (finish (play l t es) y).lists (λ b u l'. writing l' u (k b))
  go (ok a) = ap (λ (p : Played). finish p (k a m).end) (play_append es (k a m).events l t) ∙ goes a (play l t es) refl
  go (no number place) = stops number place (play l t es)

  pub writing_bind : writing l t (w >>= k) ≡ chained (writing l t w).answer (writing l t w).lists (λ b u l'. writing l' u (k b))
  unfolding ◌>>=◌
  writing_bind = go (w (count_of t)).end

module _ {A B : Type 0} {l : Lists} {t : Tapes} {w : Writer A} {r : Answer A} {l₁ : Lists} (first : Wrote l t w r l₁) (k : A → Writer B) where
  joined : {r₂ : Answer B} {l₂ : Lists} → chained r l₁ (λ b u l'. writing l' u (k b)) ≡ record { answer = r₂; lists = l₂ } → Wrote l t (w >>= k) r₂ l₂
  joined q = record { wrote = writing_bind l t w k ∙ ap (λ (x : Left A). chained x.answer x.lists (λ b u l'. writing l' u (k b))) first.wrote ∙ q }

  -- it went well: the next goes on from its tapes and lists
  pub then_done : {a : A} {u : Tapes} {r₂ : Answer B} {l₂ : Lists} → r ≡ Done a u → Wrote l₁ u (k a) r₂ l₂ → Wrote l t (w >>= k) r₂ l₂
  then_done d next = joined (ap (λ (x : Answer A). chained x l₁ (λ b u l'. writing l' u (k b))) d ∙ next.wrote)

  -- it did not: that is the answer of both
  pub then_stop : {number place : ℕ} → r ≡ Failed number place → Wrote l t (w >>= k) (Failed number place) l₁
  then_stop d = joined (ap (λ (x : Answer A). chained x l₁ (λ b u l'. writing l' u (k b))) d)

-- the same where both answer alike, and the first's answer is handed on
pub then_same : {A : Type 0} {l : Lists} {t : Tapes} {w : Writer A} {r : Answer A} {l₁ : Lists} → Wrote l t w r l₁ → (k : A → Writer A) {number place : ℕ} → r ≡ Failed number place → Wrote l t (w >>= k) r l₁
then_same {l = l} {t = t} {w = w} {l₁ = l₁} h k d = subst (λ (x : Answer _). Wrote l t (w >>= k) x l₁) (sym d) (then_stop h k d)

-- another name for what is written
pub wrote_as : {A : Type 0} {l : Lists} {t : Tapes} {w w' : Writer A} {r : Answer A} {l' : Lists} → w' ≡ w → Wrote l t w r l' → Wrote l t w' r l'
wrote_as {l = l} {t = t} {r = r} {l' = l'} e h = subst (λ (x : Writer _). Wrote l t x r l') (sym e) h

-- NO RECORD

pub wrote_pure : {A : Type 0} {l : Lists} {t : Tapes} {a : A} → Wrote l t (pure a) (Done a t) l
unfolding play
wrote_pure = record { wrote = refl }

pub wrote_refuse : {A : Type 0} {l : Lists} {t : Tapes} {number place : ℕ} → Wrote {A = A} l t (refuse number place) (Failed number place) l
unfolding play
wrote_refuse = record { wrote = refl }

-- LOOPS: whoever writes what is left has written the whole

pub record Going {A : Type 0} (l₀ : Lists) (t₀ : Tapes) (whole : Writer A) (l : Lists) (t : Tapes) (left : Writer A) : Type 0 where
  pub ends : (r : Answer A) (l' : Lists) → Wrote l t left r l' → Wrote l₀ t₀ whole r l'

module _ {A : Type 0} {l₀ : Lists} {t₀ : Tapes} {whole : Writer A} where
  pub going_start : {w : Writer A} → whole ≡ w → Going l₀ t₀ whole l₀ t₀ w
  going_start e = record { ends = λ r l' h. wrote_as e h }

  module _ {l : Lists} {t : Tapes} {B : Type 0} {w : Writer B} (k : B → Writer A) {left : Writer A} (going_on : Going l₀ t₀ whole l t left) (is : left ≡ (w >>= k)) {r : Answer B} {l₁ : Lists} (h : Wrote l t w r l₁) where
    pub going_step : {a : B} {u : Tapes} → r ≡ Done a u → Going l₀ t₀ whole l₁ u (k a)
    going_step d = record { ends = λ q l' g. going_on.ends q l' (wrote_as is (then_done h k d g)) }

    pub going_stop : {number place : ℕ} → r ≡ Failed number place → Wrote l₀ t₀ whole (Failed number place) l₁
    going_stop d = going_on.ends _ _ (wrote_as is (then_stop h k d))

  pub going_same : {l : Lists} {t : Tapes} {w : Writer A} (k : A → Writer A) {left : Writer A} → Going l₀ t₀ whole l t left → left ≡ (w >>= k) → {r : Answer A} {l₁ : Lists} → Wrote l t w r l₁ → {number place : ℕ} → r ≡ Failed number place → Wrote l₀ t₀ whole r l₁
  going_same k g is {l₁ = l₁} h d = subst (λ (x : Answer A). Wrote l₀ t₀ whole x l₁) (sym d) (going_stop k g is h d)

  pub going_end : {l : Lists} {t : Tapes} {w left : Writer A} {r : Answer A} {l' : Lists} → Going l₀ t₀ whole l t left → left ≡ w → Wrote l t w r l' → Wrote l₀ t₀ whole r l'
  going_end g is h = g.ends _ _ (wrote_as is h)
