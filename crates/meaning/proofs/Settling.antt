-- Laws of what writers settle and of what they get.
-- Assumes nothing.
use mathlib.Core.Path.{◌≡◌, ap, sym, ◌∙◌, subst, fun_ext}
use mathlib.Core.List.{List, [], ◌∷◌, ◌++◌}
use Prim.Native.Nat.{ℕ}
use native.Mathlib.Omega.{arith}
use lib.ListN.{length}
use Rattle.bits.specs.Bits.{Bits}
use Rattle.recorder.specs.Record.{Stmt, Stmt.assign}
use Rattle.recorder.specs.Writer.{Event, exprs_of, stmts_of, Count, further, End, End.ok, End.no, Writer, pure, refuse, state, after, ◌>>=◌}
use Rattle.recorder.specs.Evaluate.{Values, eval_all}
use Rattle.recorder.specs.Meaning.{Is, Keeps, Ends, Makes}
use Rattle.recorder.proofs.Events.{exprs_append, stmts_append}
use Rattle.recorder.proofs.Makes.{keeps_all, length_all, eval_append}
use Rattle.wires.specs.Seen.{Seen, Reading, keeping, forgetting}
use Rattle.meaning.specs.Settles.{Tick, Holds, AllHold, values_after, Settles, Gets}

-- WHAT A WRITER GETS

module _ {A : Type 0} {P : A → Type 0} where
  pub gets_pure : {a : A} → P a → Gets (pure a) P
  gets_pure h = record { gets = λ n. h }

  pub gets_refuse : {a b : ℕ} → Gets (refuse {A = A} a b) P
  gets_refuse = record { gets = λ n. tt }

module _ {A B : Type 0} {w : Writer A} {k : A → Writer B} {P : A → Type 0} {Q : B → Type 0} where
  pub gets_bind : Gets w P → ((a : A) → P a → Gets (k a) Q) → Gets (w >>= k) Q
  unfolding ◌>>=◌
  gets_bind f g = record { gets = λ n. go (w n).end n (f.gets n) }
    where
      go : (y : End A) (n : Count) → Ends y P → Ends (after (w n).events y (further n (w n).events) k).end Q
      go (ok a) n h = (g a h).gets (further n (w n).events)
      go (no x y) n h = tt

module _ {A : Type 0} {w : Writer A} {P Q : A → Type 0} where
  pub gets_so : Gets w P → ((a : A) → P a → Q a) → Gets w Q
  gets_so f g = record { gets = λ n. so (w n).end (f.gets n) }
    where
      so : (y : End A) → Ends y P → Ends y Q
      so (ok a) h = g a h
      so (no x y) h = tt

pub gets_any : {A : Type 0} (w : Writer A) → Gets w (λ a. Unit {0})
gets_any {A} w = record { gets = λ n. go (w n).end }
  where
    go : (y : End A) → Ends y (λ a. Unit {0})
    go (ok a) = tt
    go (no x y) = tt

-- STATEMENTS THAT HOLD

hold_left : (κ : Tick) (Ω : Values) (xs ys : List Stmt) → AllHold κ Ω (xs ++ ys) → AllHold κ Ω xs
hold_left κ Ω [] ys h = tt
hold_left κ Ω (x ∷ xs) ys h = (h.0, hold_left κ Ω xs ys h.1)

pub hold_right : (κ : Tick) (Ω : Values) (xs ys : List Stmt) → AllHold κ Ω (xs ++ ys) → AllHold κ Ω ys
hold_right κ Ω [] ys h = h
hold_right κ Ω (x ∷ xs) ys h = hold_right κ Ω xs ys h.1

-- WHAT A WRITER SETTLES

module _ {K : Type 0} {κ : K → Tick} {Ω env : K → Values} where
  -- what it makes in each tick
  pub settles_makes : {A : Type 0} {w : Writer A} {P : K → A → Values → Type 0} → ((k : K) → Makes (κ k).before (env k) w (P k)) → Settles κ Ω env w (λ a env'. (k : K) → P k a (env' k))
  settles_makes {A} {w} {P} f = record { settles = λ n q kp h. collect n (w n).end (λ k. (f k).makes n (q k)) }
    where
      collect : (n : Count) (y : End A) → ((k : K) → Ends y (λ a. P k a (values_after κ env (w n).events k))) → Ends y (λ a. (k : K) → P k a (values_after κ env (w n).events k))
      collect n (ok a) h = h
      collect n (no x y) h = tt

  pub settles_gets : {A : Type 0} {w : Writer A} {P : A → Type 0} → Gets w P → Settles κ Ω env w (λ a env'. P a)
  settles_gets f = record { settles = λ n q kp h. f.gets n }

  -- any statement, whose operands keep their values
  pub settles_state : {t : Stmt} {P : Unit {0} → (K → Values) → Type 0} → (((k : K) → Keeps (env k) (Ω k)) → ((k : K) → Holds (κ k) (Ω k) t) → P tt env) → Settles κ Ω env (state t) P
  unfolding eval_all
  settles_state f = record { settles = λ n q kp h. f kp (λ k. (h k).0) }

  pub settles_assign : {t e : ℕ} {v : K → Bits} {P : Unit {0} → (K → Values) → Type 0} → ((k : K) → Is (env k) e (v k)) → (((k : K) → (κ k).before t ≡ v k) → P tt env) → Settles κ Ω env (state (assign t e)) P
  settles_assign {t} {e} {v} i f = settles_state (λ kp h. f (λ k. h k ∙ (kp k e (v k) (i k)).value))

  pub settles_pure : {A : Type 0} {a : A} {P : A → (K → Values) → Type 0} → P a env → Settles κ Ω env (pure a) P
  unfolding eval_all
  settles_pure h = record { settles = λ n q kp e. h }

  pub settles_refuse : {A : Type 0} {a b : ℕ} {P : A → (K → Values) → Type 0} → Settles κ Ω env (refuse {A = A} a b) P
  settles_refuse = record { settles = λ n q kp e. tt }

module _ {A B K : Type 0} (κ : K → Tick) (Ω env : K → Values) (w : Writer A) (c : A → Writer B) (P : A → (K → Values) → Type 0) (Q : B → (K → Values) → Type 0)
    (g : (a : A) (env₁ : K → Values) → ((k : K) → Keeps (env k) (env₁ k)) → P a env₁ → Settles κ Ω env₁ (c a) Q) (n : Count) (q : (k : K) → n.exprs ≡ length (env k)) where
  abbrev es : List Event
  es = (w n).events

  abbrev m : Count
  m = further n es

  abbrev env₂ : K → Values
  env₂ = values_after κ env es

  there_m : (k : K) → m.exprs ≡ length (env₂ k)
  there_m k = omega (arith, q k, length_all (κ k).before (exprs_of es) (env k))

  joined : (ys : List Event) (k : K) → values_after κ env (es ++ ys) k ≡ values_after κ env₂ ys k
  joined ys k = ap (eval_all (κ k).before (env k)) (exprs_append es ys) ∙ eval_append (κ k).before (exprs_of es) (exprs_of ys) (env k)

  move : (y : End B) (ys : List Event) → Ends y (λ b. Q b (values_after κ env₂ ys)) → Ends y (λ b. Q b (values_after κ env (es ++ ys)))
  move (ok b) ys h = subst (Q b) (sym (fun_ext (joined ys))) h
  move (no x y) ys h = tt

  go : (y : End A) → (((k : K) → Keeps (env₂ k) (Ω k)) → ((k : K) → AllHold (κ k) (Ω k) (stmts_of es)) → Ends y (λ a. P a env₂)) → ((k : K) → Keeps (values_after κ env (after es y m c).events k) (Ω k))
      → ((k : K) → AllHold (κ k) (Ω k) (stmts_of (after es y m c).events)) → Ends (after es y m c).end (λ b. Q b (values_after κ env (after es y m c).events))
  go (ok a) first kp h =
      let ys : List Event = (c a m).events in
      let kp₂ : (k : K) → Keeps (values_after κ env₂ ys k) (Ω k) = λ k. subst (λ (x : Values). Keeps x (Ω k)) (joined ys k) (kp k) in
      let kp₁ : (k : K) → Keeps (env₂ k) (Ω k) = λ k e v i. kp₂ k e v (keeps_all (κ k).before (exprs_of ys) (env₂ k) e v i) in
      let hs : (k : K) → AllHold (κ k) (Ω k) (stmts_of es ++ stmts_of ys) = λ k. subst (AllHold (κ k) (Ω k)) (stmts_append es ys) (h k) in
      move (c a m).end ys
      ((g a env₂ (λ k. keeps_all (κ k).before (exprs_of es) (env k)) (first kp₁ (λ k. hold_left (κ k) (Ω k) (stmts_of es) (stmts_of ys) (hs k)))).settles m there_m kp₂
      (λ k. hold_right (κ k) (Ω k) (stmts_of es) (stmts_of ys) (hs k)))
  go (no x y) first kp h = tt

module _ {A B K : Type 0} {κ : K → Tick} {Ω env : K → Values} {w : Writer A} {c : A → Writer B} {P : A → (K → Values) → Type 0} {Q : B → (K → Values) → Type 0} where
  -- one writer after another
  pub settles_bind : Settles κ Ω env w P → ((a : A) (env₁ : K → Values) → ((k : K) → Keeps (env k) (env₁ k)) → P a env₁ → Settles κ Ω env₁ (c a) Q) → Settles κ Ω env (w >>= c) Q
  unfolding ◌>>=◌
  settles_bind f g = record { settles = λ n q. go κ Ω env w c P Q g n q (w n).end (f.settles n q) }

module _ {A B K : Type 0} {κ : K → Tick} {Ω env : K → Values} {w : Writer A} (c : A → Writer B) {P : A → (K → Values) → Type 0} {Q : B → (K → Values) → Type 0} where
  -- the same at a count at which the first is known to give a
  pub settles_bind_at : {a : A} (n : Count) → (w n).end ≡ ok a → Settles κ Ω env w P → ((env₁ : K → Values) → ((k : K) → Keeps (env k) (env₁ k)) → P a env₁ → Settles κ Ω env₁ (c a) Q)
      → ((k : K) → n.exprs ≡ length (env k)) → ((k : K) → Keeps (values_after κ env ((w >>= c) n).events k) (Ω k)) → ((k : K) → AllHold (κ k) (Ω k) (stmts_of ((w >>= c) n).events))
      → Ends ((w >>= c) n).end (λ b. Q b (values_after κ env ((w >>= c) n).events))
  unfolding ◌>>=◌
  settles_bind_at {a} n e f g q = go κ Ω env w c (λ x env₁. P x env₁ × (x ≡ a)) Q (λ x env₁ kp h. subst (λ (y : A). Settles κ Ω env₁ (c y) Q) (sym h.1) (g env₁ kp (subst (λ (y : A). P y env₁) h.1 h.0))) n q (w n).end
      (λ kp h. known (λ x. P x (values_after κ env (w n).events)) (w n).end e (f.settles n q kp h))
    where
      known : (R : A → Type 0) (y : End A) → y ≡ ok a → Ends y R → Ends y (λ x. R x × (x ≡ a))
      known R (ok x) e r = (r, cc)
      known R (no x y) e r = tt

module _ {A K : Type 0} {κ : K → Tick} {Ω env : K → Values} {w : Writer A} {P Q : A → (K → Values) → Type 0} where
  pub settles_so : Settles κ Ω env w P → ((a : A) (env₁ : K → Values) → ((k : K) → Keeps (env k) (env₁ k)) → P a env₁ → Q a env₁) → Settles κ Ω env w Q
  settles_so f g = record { settles = λ n q kp h. so n (w n).end (f.settles n q kp h) }
    where
      so : (n : Count) (y : End A) → Ends y (λ a. P a (values_after κ env (w n).events)) → Ends y (λ a. Q a (values_after κ env (w n).events))
      so n (ok a) h = g a _ (λ k. keeps_all (κ k).before (exprs_of (w n).events) (env k)) h
      so n (no x y) h = tt

module _ {A K : Type 0} {κ : K → Tick} {Ω env : K → Values} {P : A → (K → Values) → Type 0} where
  -- a step that reads nothing
  pub settles_keeping : (seen : Seen) {w : Writer A} → Settles κ Ω env w P → Settles κ Ω env (keeping seen w) (λ r env'. P r.value env')
  settles_keeping seen f = settles_bind f (λ a env₁ kp p. settles_pure p)

  -- what has been read is forgotten
  pub settles_forgetting : {w : Writer (Reading A)} → Settles κ Ω env w (λ r env'. P r.value env') → Settles κ Ω env (forgetting w) P
  settles_forgetting f = settles_bind f (λ r env₁ kp p. settles_pure p)

module _ {A K : Type 0} {κ : K → Tick} {Ω env : K → Values} {w : Writer A} {P Q : A → (K → Values) → Type 0} where
  pub settles_both : Settles κ Ω env w P → Settles κ Ω env w Q → Settles κ Ω env w (λ a env'. P a env' × Q a env')
  settles_both f g = record { settles = λ n q kp h. go n (w n).end (f.settles n q kp h) (g.settles n q kp h) }
    where
      go : (n : Count) (y : End A) → Ends y (λ a. P a (values_after κ env (w n).events)) → Ends y (λ a. Q a (values_after κ env (w n).events))
          → Ends y (λ a. P a (values_after κ env (w n).events) × Q a (values_after κ env (w n).events))
      go n (ok a) x y = (x, y)
      go n (no i j) x y = tt
