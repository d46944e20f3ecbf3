-- Laws of what a writer writes.
-- Assumes nothing.
use mathlib.Core.Path.{◌≡◌, subst}
use mathlib.Core.List.{List, [], ◌∷◌, ◌++◌}
use Prim.Native.Nat.{ℕ}
use Rattle.recorder.specs.Record.{Signal, Stmt}
use Rattle.recorder.specs.Writer.{Event, Event.signal, Event.stmt, Count, further, End, End.ok, End.no, Writer, pure, refuse, declare, state, after, ◌>>=◌}
use Rattle.recorder.specs.Meaning.{Ends}
use Rattle.meaning.specs.Settles.{Gets}
use Rattle.meaning.specs.Writes.{Writes}

module _ {n : Count} where
  pub writes_pure : {A : Type 0} {a : A} {P : A → List Event → Type 0} → P a [] → Writes n (pure a) P
  writes_pure h = record { writes = h }

  pub writes_refuse : {A : Type 0} {a b : ℕ} {P : A → List Event → Type 0} → Writes n (refuse {A = A} a b) P
  writes_refuse = record { writes = tt }

  pub writes_declare : {s : Signal} {P : ℕ → List Event → Type 0} → P n.signals (signal s ∷ []) → Writes n (declare s) P
  writes_declare h = record { writes = h }

  pub writes_state : {t : Stmt} {P : Unit {0} → List Event → Type 0} → P tt (stmt t ∷ []) → Writes n (state t) P
  writes_state h = record { writes = h }

module _ {A B : Type 0} {n : Count} {w : Writer A} {k : A → Writer B} {P : A → List Event → Type 0} {Q : B → List Event → Type 0} where
  pub writes_bind : Writes n w P → ((a : A) (es : List Event) → P a es → Writes (further n es) (k a) (λ b fs. Q b (es ++ fs))) → Writes n (w >>= k) Q
  unfolding ◌>>=◌
  writes_bind f g = record { writes = go (w n).end f.writes }
    where
      es : List Event
      es = (w n).events

      go : (y : End A) → Ends y (λ a. P a es) → Ends (after es y (further n es) k).end (λ b. Q b (after es y (further n es) k).events)
      go (ok a) h = (g a es h).writes
      go (no x y) h = tt

module _ {A : Type 0} {n : Count} {w : Writer A} {P Q : A → List Event → Type 0} where
  pub writes_so : Writes n w P → ((a : A) (es : List Event) → P a es → Q a es) → Writes n w Q
  writes_so f g = record { writes = go (w n).end f.writes }
    where
      go : (y : End A) → Ends y (λ a. P a (w n).events) → Ends y (λ a. Q a (w n).events)
      go (ok a) h = g a (w n).events h
      go (no x y) h = tt

  pub writes_both : Writes n w P → Writes n w Q → Writes n w (λ a es. P a es × Q a es)
  writes_both f g = record { writes = go (w n).end f.writes g.writes }
    where
      go : (y : End A) → Ends y (λ a. P a (w n).events) → Ends y (λ a. Q a (w n).events) → Ends y (λ a. P a (w n).events × Q a (w n).events)
      go (ok a) h i = (h, i)
      go (no x y) h i = tt

-- what it writes whatever its end
pub writes_always : {A : Type 0} {n : Count} {w : Writer A} {P : List Event → Type 0} → P (w n).events → Writes n w (λ a es. P es)
writes_always {A} {n} {w} {P} h = record { writes = go (w n).end }
  where
    go : (y : End A) → Ends y (λ a. P (w n).events)
    go (ok a) = h
    go (no x y) = tt

pub writes_gets : {A : Type 0} {n : Count} {w : Writer A} {P : A → Type 0} → Gets w P → Writes n w (λ a es. P a)
writes_gets {n = n} f = record { writes = f.gets n }

-- at the end of a writer that did not refuse
pub written : {A : Type 0} {n : Count} {w : Writer A} {P : A → List Event → Type 0} {a : A} → Writes n w P → (w n).end ≡ ok a → P a (w n).events
written {n = n} {w} {P} f q = subst (λ (y : End _). Ends y (λ a. P a (w n).events)) q f.writes
