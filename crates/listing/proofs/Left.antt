-- Laws of the records that are left.
-- Assumes nothing.
use mathlib.Core.Path.{◌≡◌, sym, ◌∙◌, ap, ap₂}
use mathlib.Core.List.{List, [], ◌∷◌, ◌++◌}
use Prim.Native.Nat.{ℕ, suc, ◌+◌, ◌^◌, ◌<◌}
use native.Mathlib.Omega.{arith}
use Rattle.recorder.specs.Read as read
use Rattle.listing.specs.Listing.{line_text, lines_from, lines_of}
use Rattle.recorder.specs.Records.{left}
use Rattle.recorder.specs.declared.records.Records.{Records}

-- THE LINES THAT ARE LEFT

module _ (text : ℕ → List ℕ → List ℕ) where
  pub lines_start : (ws : List ℕ) {n : ℕ} (r : Records) → n ≡ 0 → r.rest.now ≡ ws → lines_of text ws ≡ lines_from text n (left r)
  unfolding lines_of
  lines_start ws r e q = ap₂ (λ (k : ℕ) (l : List ℕ). lines_from text k (read.split l).records) (sym e) (sym q)

  pub lines_none : (n : ℕ) {ls : List (List ℕ)} → ls ≡ [] → lines_from text n ls ≡ []
  lines_none n e = ap (lines_from text n) e

  pub lines_next : {n m p : ℕ} {f : List ℕ} {ls rest : List (List ℕ)} → (ls ≡ f ∷ rest) × (p ≡ n) × (m ≡ n + 1) × (p + 1 < 2 ^ 64) → lines_from text n ls ≡ line_text text p f ++ lines_from text m rest
  lines_next {n} {m} {p} {f} {ls} {rest} turn =
      let u : suc n ≡ m = omega (arith, turn.2) in
      ap (lines_from text n) turn.0 ∙ ap₂ (λ (i k : ℕ). line_text text i f ++ lines_from text k rest) (sym turn.1) u
