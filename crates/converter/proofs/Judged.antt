-- The judgement. Assumes nothing.
use Prim.Native.Nat.{ℕ}
use mathlib.Core.Path.{◌≡◌, ◌∙◌, ap, ap₂}
use mathlib.Core.List.{List}
use Rattle.std.specs.Prelude.{Option, Result, Ok, Err}
use native.Mathlib.Omega.{arith}
use Rattle.refusal.specs.Refusal.{number_of, place_of}
use Rattle.refusal.specs.declared.Refusal as x
use Rattle.recorder.specs.declared.Tapes.{Tapes}
use Rattle.recorder.specs.Lists.{Lists}
use Rattle.lowering.specs.Lower.{Refused, judged}
use Rattle.conflict.specs.Counting.{counted, lowest_from, restored}
use Rattle.conflict.proofs.Marked.{judges}
use Rattle.converter.specs.Entry.{answer_of, AnswersTo}

-- THE JUDGEMENT

module _ (s m : List ℕ) {p : Result Tapes x.Refusal} where
  pub answered_done : {t : Tapes} (o : Option ℕ) {q : Result Tapes x.Refusal} {s' : List ℕ} → p ≡ Ok t → o ≡ lowest_from 0 (counted s m) → s' ≡ restored (counted s m) → ((l : Lists) → answer_of q ≡ (judged (o) t l l).answer) → AnswersTo s m p q s'
  answered_done {t} o d found left a = record {
    refused = λ x e. let z : ◌≡◌ {A = ℕ} 0 1 = cc in absurd (omega arith);
    recorded = λ u e k n xs ts g h l.
        let same : t ≡ u = cc in
        a l ∙ ap₂ (λ (w : Tapes) (d : Option ℕ). (judged d w l l).answer) same (found ∙ (judges s m k n xs ts g h).answer);
    same = λ u e k n xs ts g h. left ∙ (judges s m k n xs ts g h).kept;
  }

  pub answered_refused : {w : x.Refusal} {s' : List ℕ} → p ≡ Err w → AnswersTo s m p (Err w) s'
  answered_refused {w} d = record {
    refused = λ y e. let same : w ≡ y = cc in ap (λ (z : x.Refusal). Refused (number_of z) (place_of z)) same;
    recorded = λ u e k n xs ts g h l. let z : ◌≡◌ {A = ℕ} 0 1 = cc in absurd (omega arith);
    same = λ u e k n xs ts g h. let z : ◌≡◌ {A = ℕ} 0 1 = cc in absurd (omega arith);
  }
