-- The first fault of three lists, from those of each. Assumes nothing.
use Prim.Native.Nat.{ℕ, suc, ◌+◌, ◌≤◌, ◌<◌}
use mathlib.Core.Path.{◌≡◌, refl, sym, ◌∙◌, ap, ap₂}
use mathlib.Core.Bool.{Bool, true, false}
use mathlib.Core.List.{List, [], ◌∷◌}
use Rattle.std.specs.Prelude.{Option, None, Some, Result, Ok, Err}
use native.Mathlib.Omega.{arith}
use lib.ListN.{length}
use Rattle.bits.specs.Bits.{pick}
use Rattle.recorder.specs.Lists.{Lists}
use Rattle.recorder.specs.Read.{split}
use Rattle.recorder.specs.Words.{raw_of}
use Rattle.simulation.specs.Wellformed.{first_failing, or_else, behind, first_fault, unsplit, unsplit_all, malformed}
use Rattle.simulation.specs.Index.{records_in, counted}
use Rattle.simulation.specs.Fault.{signal_fault_of, expr_fault_of, stmt_fault_of}
use Rattle.recorder.proofs.Left.{records_count}

-- HOW MANY RECORDS THERE ARE

counted_by : (b : Bool) (k n : ℕ) (r : Result ℕ ℕ) → r ≡ pick b (Ok k) (Err k) → (r ≡ Ok n → (n ≡ k) × (b ≡ true)) × (r ≡ Err n → (n ≡ k) × (b ≡ false))
counted_by true k n r e = ((λ q. let z : Ok k ≡ Ok n = sym e ∙ q in (cc, refl)), (λ q. let z : ◌≡◌ {A = Result ℕ ℕ} (Ok k) (Err n) = sym e ∙ q in absurd cc))
counted_by false k n r e = ((λ q. let z : ◌≡◌ {A = Result ℕ ℕ} (Err k) (Ok n) = sym e ∙ q in absurd cc), (λ q. let z : Err k ≡ Err n = sym e ∙ q in (cc, refl)))

module _ (l : List ℕ) {n : ℕ} where
  whole_count : Ok n ≡ counted l → (n ≡ length (records_in l)) × ((split l).whole ≡ true)
  whole_count q = (counted_by (split l).whole (length (records_in l)) n (Ok n) q).0 refl

  cut_count : Err n ≡ counted l → (n ≡ length (records_in l)) × ((split l).whole ≡ false)
  cut_count q = (counted_by (split l).whole (length (records_in l)) n (Err n) q).1 refl

  -- no more than there are words
  pub whole_small : Ok n ≡ counted l → n ≤ length l
  whole_small q = let w = (whole_count q).0 in omega (arith, records_count l)

  pub cut_small : Err n ≡ counted l → n ≤ length l
  cut_small q = let w = (cut_count q).0 in omega (arith, records_count l)

  whole_on : Ok n ≡ counted l → (o : Option ℕ) → unsplit (split l) o ≡ behind n o
  whole_on q o = let w = whole_count q in ap₂ (λ (b : Bool) (k : ℕ). pick b (behind k o) (Some k)) w.1 (sym w.0)

  cut_on : Err n ≡ counted l → (o : Option ℕ) → unsplit (split l) o ≡ Some n
  cut_on q o = let w = cut_count q in ap₂ (λ (b : Bool) (k : ℕ). pick b (behind k o) (Some k)) w.1 (sym w.0)

-- NO FAULT LIES BEHIND THE LAST RECORD

failing_below : (p : ℕ → List ℕ → Bool) (k : ℕ) (rs : List (List ℕ)) (n : ℕ) → Some n ≡ first_failing p k rs → n < k + length rs
failing_below p k [] n e = let z : ◌≡◌ {A = ℕ} 0 1 = cc in absurd (omega arith)
failing_below p k (r ∷ rs) n e = go (p k r) (failing_below p (suc k) rs n) e
  where
    go : (b : Bool) → (Some n ≡ first_failing p (suc k) rs → n < suc k + length rs) → Some n ≡ pick b (first_failing p (suc k) rs) (Some k) → n < k + suc (length rs)
    go true ih q = let z = ih q in omega arith
    go false ih q = let z : n ≡ k = cc in omega arith

pub fault_below : (p : ℕ → List ℕ → Bool) (l : List ℕ) (n : ℕ) → Some n ≡ first_failing p 0 (records_in l) → n < length l
fault_below p l n e = let z = failing_below p 0 (records_in l) n e in omega (arith, records_count l)

-- THE WHOLE

module _ (widest : ℕ) (l : Lists) where
  at_once : {n : ℕ} → unsplit_all l ≡ Some n → Some n ≡ malformed widest l
  unfolding malformed
  at_once e = sym (ap (λ (o : Option ℕ). or_else o (first_fault widest (raw_of l))) e)

  pub cut_signals : {n : ℕ} → Err n ≡ counted l.signals → Some n ≡ malformed widest l
  cut_signals q = at_once (cut_on l.signals q _)

  module _ {s : ℕ} (qs : Ok s ≡ counted l.signals) where
    pub cut_exprs : {n : ℕ} → Err n ≡ counted l.exprs → Some (s + n) ≡ malformed widest l
    cut_exprs q = at_once (whole_on l.signals qs _ ∙ ap (behind s) (cut_on l.exprs q _))

    module _ {e : ℕ} (qe : Ok e ≡ counted l.exprs) where
      pub cut_stmts : {n : ℕ} → Err n ≡ counted l.stmts → Some (s + (e + n)) ≡ malformed widest l
      cut_stmts q = at_once (whole_on l.signals qs _ ∙ ap (behind s) (whole_on l.exprs qe _ ∙ ap (behind e) (cut_on l.stmts q None)))

      -- all stand whole
      module _ {t : ℕ} (qt : Ok t ≡ counted l.stmts) where
        pub first_of_all : {a b d : Option ℕ}
            → a ≡ signal_fault_of widest (records_in l.signals) (records_in l.stmts)
            → b ≡ expr_fault_of widest (records_in l.signals) (records_in l.exprs)
            → d ≡ stmt_fault_of (records_in l.signals) (records_in l.exprs) (records_in l.stmts)
            → or_else a (behind s (or_else b (behind e d))) ≡ malformed widest l
        unfolding malformed first_fault
        first_of_all qa qb qd =
            ap₂ or_else qa (ap₂ behind (whole_count l.signals qs).0 (ap₂ or_else qb (ap₂ behind (whole_count l.exprs qe).0 qd)))
            ∙ sym (ap (λ (o : Option ℕ). or_else o (first_fault widest (raw_of l))) (whole_on l.signals qs _ ∙ ap (behind s) (whole_on l.exprs qe _ ∙ ap (behind e) (whole_on l.stmts qt None))))
