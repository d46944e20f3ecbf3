-- Laws of `Writes`: one call after another, a call that stops, none, a loop.
use Rattle.std.specs.Prelude.{◌≡◌, Bool, true, false, List, [], ◌∷◌, ◌++◌, ℕ, Result, IsErrAnd}
use Rattle.std.proofs.Common.{refl, ap, sym, ◌∙◌, subst, arith}
use Rattle.std.proofs.lemmas.Result.{err_from_is_err_and}
use Rattle.bits.specs.Bits.{pick}
use Rattle.refusal.specs.declared.Refusal.{Refusal}
use Rattle.refusal.specs.Refusal.{number_of, place_of}
use Rattle.recorder.specs.declared.Tapes.{Tapes}
use Rattle.recorder.specs.declared.Recorder.{Recorder}
use Rattle.recorder.specs.Writer.{Event, Count, further, End, End.ok, End.no, Writer, pure, refuse, after, ◌>>=◌}
use Rattle.recorder.specs.Lists.{Lists, count_of, Played, Played.going, Played.full, has_room, laid, advanced, list_of, onward, play, reached, Answer, Answer.Done, Answer.Failed, Left, finish, Wrote}
use Rattle.recorder.specs.Calls.{lists_in, tapes_in, SameLists, answered, Writes, ended}
use Rattle.recorder.proofs.Wrote.{play_counts, then_done, then_stop, wrote_pure, wrote_refuse}

-- ---- where the tapes stand

pub reached_going : (es : List Event) (l : Lists) (t : Tapes) {l' : Lists} {t' : Tapes} → play l t es ≡ going l' t' → reached l t es ≡ t'
unfolding play reached
reached_going [] l t q = cc
reached_going (e ∷ es) l t {l'} {t'} q = go (has_room l t e) (λ h. reached_going es (laid l t e) (advanced t e) h) q
  where
    go : (b : Bool) → (play (laid l t e) (advanced t e) es ≡ going l' t' → reached (laid l t e) (advanced t e) es ≡ t') → onward (pick b (going (laid l t e) (advanced t e)) (full (list_of e) l)) (λ k u. play k u es) ≡ going l' t' → pick b (reached (laid l t e) (advanced t e) es) t ≡ t'
    go true f h = f h
    go false f h = let z : ◌≡◌ {A = ℕ} 0 1 = cc in absurd (omega arith)

pub reached_on : (es fs : List Event) (l : Lists) (t : Tapes) {l' : Lists} {t' : Tapes} → play l t es ≡ going l' t' → reached l t (es ++ fs) ≡ reached l' t' fs
unfolding play reached
reached_on [] fs l t {l'} {t'} q = let p : l ≡ l' = cc in let r : t ≡ t' = cc in λ i. reached (p i) (r i) fs
reached_on (e ∷ es) fs l t {l'} {t'} q = go (has_room l t e) (λ h. reached_on es fs (laid l t e) (advanced t e) h) q
  where
    go : (b : Bool) → (play (laid l t e) (advanced t e) es ≡ going l' t' → reached (laid l t e) (advanced t e) (es ++ fs) ≡ reached l' t' fs) → onward (pick b (going (laid l t e) (advanced t e)) (full (list_of e) l)) (λ k u. play k u es) ≡ going l' t' → pick b (reached (laid l t e) (advanced t e) (es ++ fs)) t ≡ reached l' t' fs
    go true f h = f h
    go false f h = let z : ◌≡◌ {A = ℕ} 0 1 = cc in absurd (omega arith)

pub reached_full : (es fs : List Event) (l : Lists) (t : Tapes) {i : ℕ} {l' : Lists} → play l t es ≡ full i l' → reached l t (es ++ fs) ≡ reached l t es
unfolding play reached
reached_full [] fs l t q = let z : ◌≡◌ {A = ℕ} 0 1 = cc in absurd (omega arith)
reached_full (e ∷ es) fs l t {i} {l'} q = go (has_room l t e) (λ h. reached_full es fs (laid l t e) (advanced t e) h) q
  where
    go : (b : Bool) → (play (laid l t e) (advanced t e) es ≡ full i l' → reached (laid l t e) (advanced t e) (es ++ fs) ≡ reached (laid l t e) (advanced t e) es) → onward (pick b (going (laid l t e) (advanced t e)) (full (list_of e) l)) (λ k u. play k u es) ≡ full i l' → pick b (reached (laid l t e) (advanced t e) (es ++ fs)) t ≡ pick b (reached (laid l t e) (advanced t e) es) t
    go true f h = f h
    go false f h = refl

-- ---- a call that went well: all its records fit, and its writer ends well

pub wrote_went : {A : Type 0} {l : Lists} {t : Tapes} {w : Writer A} {a : A} {u : Tapes} {l' : Lists} → Wrote l t w (Done a u) l' → ((w (count_of t)).end ≡ ok a) × (play l t (w (count_of t)).events ≡ going l' u)
wrote_went {A} {l} {t} {w} {a} {u} {l'} h = go (play l t (w (count_of t)).events) (w (count_of t)).end refl refl h.wrote
  where
    go : (p : Played) (y : End A) → play l t (w (count_of t)).events ≡ p → (w (count_of t)).end ≡ y → finish p y ≡ record { answer = Done a u; lists = l' } → ((w (count_of t)).end ≡ ok a) × (play l t (w (count_of t)).events ≡ going l' u)
    go (going k v) (ok b) e z q =
        let q₁ : Done b v ≡ Done a u = ap (λ (x : Left A). x.answer) q in
        let g : v ≡ u = cc in
        let f : b ≡ a = cc in
        let m : k ≡ l' = ap (λ (x : Left A). x.lists) q in
        (z ∙ ap (λ (x : A). ok x) f, e ∙ (λ i. going (m i) (g i)))
    go (going k v) (no x y) e z q = let r : Answer A = Failed x y in let f : r ≡ Done a u = ap (λ (x : Left A). x.answer) q in cc
    go (full i k) y e z q = let r : Answer A = Failed 2 i in let f : r ≡ Done a u = ap (λ (x : Left A). x.answer) q in cc

pub writes_value : {A : Type 0} {r : Recorder} {w : Writer A} {a : A} {r' : Recorder} → Writes r w (ok a) r' → ((w (count_of (tapes_in r))).end ≡ ok a) × (count_of (tapes_in r') ≡ further (count_of (tapes_in r)) (w (count_of (tapes_in r))).events)
writes_value {r = r} {w = w} h = let g = wrote_went h.wrote in (g.0, play_counts (w (count_of (tapes_in r))).events (lists_in r) (tapes_in r) g.1)

-- ---- what a `?` hands on

pub handed : {A C : Type 0} (f : C → A) (r : Result C Refusal) (x : Refusal) → IsErrAnd r (λ y. y ≡ x) → ended f r ≡ no (number_of x) (place_of x)
handed f r x h = let p = err_from_is_err_and r h in ap (ended f) p.1 ∙ ap (λ (z : Refusal). no (number_of z) (place_of z)) p.2

-- ---- one call after another

pub same_lists : {r r' r'' : Recorder} → SameLists r r' → SameLists r' r'' → SameLists r r''
same_lists h g = record { signals = g.signals ∙ h.signals; exprs = g.exprs ∙ h.exprs; stmts = g.stmts ∙ h.stmts }

module _ {A B : Type 0} {r : Recorder} {w : Writer A} {e : End A} {r₁ : Recorder} (first : Writes r w e r₁) (k : A → Writer B) where
  abbrev n : Count
  n = count_of (tapes_in r)

  -- it went well: the next goes on
  pub writes_then : {a : A} {q : End B} {r₂ : Recorder} → e ≡ ok a → Writes r₁ (k a) q r₂ → Writes r (w >>= k) q r₂
  unfolding ◌>>=◌
  writes_then {a} {q} {r₂} d next =
      let h = subst (λ (y : End A). Wrote (lists_in r) (tapes_in r) w (answered y (tapes_in r₁)) (lists_in r₁)) d first.wrote in
      let g = wrote_went h in
      let c = play_counts (w n).events (lists_in r) (tapes_in r) g.1 in
      record {
        same = same_lists first.same next.same;
        wrote = then_done h k refl next.wrote;
        stands =
            next.stands ∙ ap (λ (m : Count). reached (lists_in r₁) (tapes_in r₁) (k a m).events) c
            ∙ sym (reached_on (w n).events (k a (further n (w n).events)).events (lists_in r) (tapes_in r) g.1)
            ∙ ap (λ (y : End A). reached (lists_in r) (tapes_in r) (after (w n).events y (further n (w n).events) k).events) (sym g.0);
        grows = omega (arith, first.grows, next.grows);
      }

  -- it did not: that is the answer of both
  pub writes_stop : {number place : ℕ} → e ≡ no number place → Writes r (w >>= k) (no number place) r₁
  unfolding ◌>>=◌
  writes_stop {number} {place} d =
      let h = subst (λ (y : End A). Wrote (lists_in r) (tapes_in r) w (answered y (tapes_in r₁)) (lists_in r₁)) d first.wrote in
      record { same = first.same; wrote = then_stop h k refl; stands = first.stands ∙ go (play (lists_in r) (tapes_in r) (w n).events) (w n).end refl refl h.wrote; grows = first.grows }
    where
      go : (p : Played) (y : End A) → play (lists_in r) (tapes_in r) (w n).events ≡ p → (w n).end ≡ y → finish p y ≡ record { answer = Failed number place; lists = lists_in r₁ }
          → reached (lists_in r) (tapes_in r) (w n).events ≡ reached (lists_in r) (tapes_in r) (after (w n).events (w n).end (further n (w n).events) k).events
      go (going l' t') (ok a) p z q = let f : Done a t' ≡ Failed number place = ap (λ (x : Left A). x.answer) q in cc
      go p (no x y) v z q = ap (λ (y : End A). reached (lists_in r) (tapes_in r) (after (w n).events y (further n (w n).events) k).events) (sym z)
      go (full i l') (ok a) p z q =
          sym (reached_full (w n).events (k a (further n (w n).events)).events (lists_in r) (tapes_in r) p)
          ∙ ap (λ (y : End A). reached (lists_in r) (tapes_in r) (after (w n).events y (further n (w n).events) k).events) (sym z)

  -- the same where a `?` hands the refusal on
  pub writes_err : {C : Type 0} (f : C → B) (q : Result C Refusal) (x : Refusal) → e ≡ no (number_of x) (place_of x) → IsErrAnd q (λ y. y ≡ x) → Writes r (w >>= k) (ended f q) r₁
  writes_err f q x d h = subst (λ (y : End B). Writes r (w >>= k) y r₁) (sym (handed f q x h)) (writes_stop d)

-- ---- another name for what is written; no record

pub writes_as : {A : Type 0} {r : Recorder} {w w' : Writer A} {e : End A} {r' : Recorder} → w' ≡ w → Writes r w e r' → Writes r w' e r'
writes_as {r = r} {e = e} {r' = r'} q h = subst (λ (x : Writer _). Writes r x e r') (sym q) h

pub writes_pure : {A : Type 0} {r : Recorder} {a : A} → Writes r (pure a) (ok a) r
unfolding reached
writes_pure = record { same = record { signals = refl; exprs = refl; stmts = refl }; wrote = wrote_pure; stands = refl; grows = omega arith }

pub writes_refuse : {A : Type 0} {r : Recorder} {number place : ℕ} → Writes {A = A} r (refuse number place) (no number place) r
unfolding reached
writes_refuse = record { same = record { signals = refl; exprs = refl; stmts = refl }; wrote = wrote_refuse; stands = refl; grows = omega arith }

-- ---- loops: whoever writes what is left has written the whole

pub record Underway {A : Type 0} (r₀ : Recorder) (whole : Writer A) (r : Recorder) (left : Writer A) : Type 0 where
  pub ends : (e : End A) (r' : Recorder) → Writes r left e r' → Writes r₀ whole e r'

module _ {A : Type 0} {r₀ : Recorder} {whole : Writer A} where
  pub underway_start : {w : Writer A} → whole ≡ w → Underway r₀ whole r₀ w
  underway_start e = record { ends = λ q r' h. writes_as e h }

  module _ {r : Recorder} {B : Type 0} {w : Writer B} (k : B → Writer A) {left : Writer A} (on : Underway r₀ whole r left) (is : left ≡ (w >>= k)) {e : End B} {r₁ : Recorder} (h : Writes r w e r₁) where
    pub underway_step : {a : B} → e ≡ ok a → Underway r₀ whole r₁ (k a)
    underway_step d = record { ends = λ q r' g. on.ends q r' (writes_as is (writes_then h k d g)) }

    pub underway_stop : {number place : ℕ} → e ≡ no number place → Writes r₀ whole (no number place) r₁
    underway_stop d = on.ends _ _ (writes_as is (writes_stop h k d))

  pub underway_end : {r : Recorder} {w left : Writer A} {e : End A} {r' : Recorder} → Underway r₀ whole r left → left ≡ w → Writes r w e r' → Writes r₀ whole e r'
  underway_end g is h = g.ends _ _ (writes_as is h)
