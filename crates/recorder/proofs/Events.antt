-- Laws of writers: the records of one after another.
use mathlib.Core.Path.{◌≡◌, refl, ap, sym, ◌∙◌, fun_ext}
use mathlib.Core.List.{List, [], ◌∷◌, ◌++◌, append_assoc}
use Prim.Native.Nat.{ℕ, ◌+◌}
use native.Mathlib.Nat.{add-zero}
use native.Mathlib.Omega.{arith}
use lib.ListN.{length, length-append}
use Rattle.recorder.specs.Record.{Signal, Expr, Stmt}
use Rattle.recorder.specs.Writer.{Event, Event.signal, Event.expr, Event.stmt, signals_of, exprs_of, stmts_of, Count, further, End, End.ok, End.no, Writer, pure, refuse, after, ◌>>=◌}

-- ---- the lists of joined events

pub signals_append : (xs ys : List Event) → signals_of (xs ++ ys) ≡ signals_of xs ++ signals_of ys
signals_append [] ys = refl
signals_append (signal s ∷ xs) ys = ap (λ (l : List Signal). s ∷ l) (signals_append xs ys)
signals_append (expr x ∷ xs) ys = signals_append xs ys
signals_append (stmt t ∷ xs) ys = signals_append xs ys

pub exprs_append : (xs ys : List Event) → exprs_of (xs ++ ys) ≡ exprs_of xs ++ exprs_of ys
exprs_append [] ys = refl
exprs_append (signal s ∷ xs) ys = exprs_append xs ys
exprs_append (expr x ∷ xs) ys = ap (λ (l : List Expr). x ∷ l) (exprs_append xs ys)
exprs_append (stmt t ∷ xs) ys = exprs_append xs ys

pub stmts_append : (xs ys : List Event) → stmts_of (xs ++ ys) ≡ stmts_of xs ++ stmts_of ys
stmts_append [] ys = refl
stmts_append (signal s ∷ xs) ys = stmts_append xs ys
stmts_append (expr x ∷ xs) ys = stmts_append xs ys
stmts_append (stmt t ∷ xs) ys = ap (λ (l : List Stmt). t ∷ l) (stmts_append xs ys)

pub further_append : (n : Count) (xs ys : List Event) → further n (xs ++ ys) ≡ further (further n xs) ys
further_append n xs ys =
    let p : n.signals + length (signals_of (xs ++ ys)) ≡ n.signals + length (signals_of xs) + length (signals_of ys) =
    omega (arith, ap length (signals_append xs ys) ∙ length-append (signals_of xs) (signals_of ys)) in
    let q : n.exprs + length (exprs_of (xs ++ ys)) ≡ n.exprs + length (exprs_of xs) + length (exprs_of ys) =
    omega (arith, ap length (exprs_append xs ys) ∙ length-append (exprs_of xs) (exprs_of ys)) in
    let r : n.stmts + length (stmts_of (xs ++ ys)) ≡ n.stmts + length (stmts_of xs) + length (stmts_of ys) =
    omega (arith, ap length (stmts_append xs ys) ∙ length-append (stmts_of xs) (stmts_of ys)) in
    λ i. record { signals = p i; exprs = q i; stmts = r i }

-- ---- one writer after another

module _ {A B : Type 0} where
  pub bind_ok : {a : A} (w : Writer A) (k : A → Writer B) (n : Count) → (w n).end ≡ ok a
      → (w >>= k) n ≡ record { events = (w n).events ++ (k a (further n (w n).events)).events; end = (k a (further n (w n).events)).end }
  unfolding ◌>>=◌
  bind_ok w k n h = ap (λ (y : End A). after (w n).events y (further n (w n).events) k) h

  pub bind_no : {a b : ℕ} (w : Writer A) (k : A → Writer B) (n : Count) → (w n).end ≡ no a b
      → (w >>= k) n ≡ record { events = (w n).events; end = no a b }
  unfolding ◌>>=◌
  bind_no w k n h = ap (λ (y : End A). after (w n).events y (further n (w n).events) k) h

  -- nothing first, or a refusal
  pub bind_pure : (a : A) (k : A → Writer B) → (pure a >>= k) ≡ k a
  unfolding ◌>>=◌
  bind_pure a k = fun_ext (λ n. ap (k a) (λ i. record { signals = add-zero n.signals i; exprs = add-zero n.exprs i; stmts = add-zero n.stmts i }))

  pub bind_refuse : (x y : ℕ) (k : A → Writer B) → (refuse x y >>= k) ≡ refuse x y
  unfolding ◌>>=◌
  bind_refuse x y k = refl

-- three in a row
module _ {A B C : Type 0} (w : Writer A) (f : A → Writer B) (g : B → Writer C) where
  inner : (n : Count) (es fs : List Event) (m : Count) → m ≡ further (further n es) fs → (y : End B)
      → after (es ++ fs) y (further n (es ++ fs)) g ≡ record { events = es ++ (after fs y m g).events; end = (after fs y m g).end }
  inner n es fs m e (ok b) =
      let q : further n (es ++ fs) ≡ m = further_append n es fs ∙ sym e in
      ap (λ (k : Count). record { events = (es ++ fs) ++ (g b k).events; end = (g b k).end }) q ∙ ap (λ (l : List Event). record { events = l; end = (g b m).end }) (append_assoc es fs (g b m).events)
  inner n es fs m e (no x y) = refl

  outer : (n : Count) (es : List Event) (m : Count) → m ≡ further n es → (y : End A)
      → after (after es y m f).events (after es y m f).end (further n (after es y m f).events) g ≡ after es y m (λ a k. after (f a k).events (f a k).end (further k (f a k).events) g)
  outer n es m e (ok a) = inner n es (f a m).events (further m (f a m).events) (ap (λ (k : Count). further k (f a m).events) e) (f a m).end
  outer n es m e (no x y) = refl

  pub bind_assoc : (w >>= f >>= g) ≡ (w >>= λ a. f a >>= g)
  unfolding ◌>>=◌
  bind_assoc = fun_ext (λ n. outer n (w n).events (further n (w n).events) refl (w n).end)
