-- A call that wrote into lists of zeros has ended in one of three ways.
-- Assumes nothing.
use Prim.Native.Nat.{ℕ}
use mathlib.Core.Path.{◌≡◌, refl, sym, ap, subst}
use mathlib.Core.Logic.{⊎_elim}
use Rattle.recorder.specs.Writer.{model_of, End, End.ok, End.no, Out, Writer}
use Rattle.recorder.specs.Lists.{Lists, Played, Played.going, play, Answer, Left, finish, Wrote}
use Rattle.recorder.specs.Words.{holding_all, tapes_of, blank, unwritten, Fit}
use Rattle.recorder.proofs.Played.{played_fit, played_full, fit_or_filled}
use Rattle.recorder.specs.Outcome.{none_yet, Ended, done, refused, filled}

module _ {A : Type 0} (a b c : ℕ) (o : Out A) where
  abbrev left : Left A
  left = finish (play (blank a b c) unwritten o.events) o.end

  all_fit : Fit a b c (model_of o.events) → (e : End A) → o.end ≡ e
      → Ended a b c o (finish (going (holding_all a b c (model_of o.events)) (tapes_of (model_of o.events))) e).answer (finish (going (holding_all a b c (model_of o.events)) (tapes_of (model_of o.events))) e).lists
  all_fit h (ok x) q = done h q
  all_fit h (no number place) q = refused h q

  ended : Ended a b c o left.answer left.lists
  ended =
      ⊎_elim
      (λ h. subst (λ (x : Left A). Ended a b c o x.answer x.lists) (ap (λ (p : Played). finish p o.end) (sym (played_fit a b c o.events h))) (all_fit h o.end refl))
      (λ f. subst (λ (x : Left A). Ended a b c o x.answer x.lists) (ap (λ (p : Played). finish p o.end) (sym (played_full a b c o.events f.2))) (filled f.2))
      (fit_or_filled a b c o.events)

pub wrote_ended : {A : Type 0} (a b c : ℕ) (w : Writer A) {r : Answer A} {l : Lists} → Wrote (blank a b c) unwritten w r l → Ended a b c (w none_yet) r l
wrote_ended {A} a b c w h = subst (λ (x : Left A). Ended a b c (w none_yet) x.answer x.lists) h.wrote (ended a b c (w none_yet))
