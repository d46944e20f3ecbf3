-- A list's records, one after the other. Assumes nothing.
use Rattle.std.proofs.Common.{ℕ, zero, suc, ◌+◌, ◌≤◌, ◌<◌, ◌≡◌, Bool, true, false, ap, List, [], ◌∷◌, length, take, drop, leb, Option, None, Some, arith, MatchOption, Bor}
use Rattle.std.specs.List.{IsSplitAt}
use Rattle.std.specs.declared.iter.Enumerate.{Enumerate}
use lib.ListN.{length-drop}
use Rattle.recorder.specs.Read as read
use Rattle.recorder.specs.Read.{split}
use Rattle.recorder.specs.Records.{left, is_empty, Splits}
use Rattle.recorder.specs.declared.records.Records.{Records}
use Rattle.recorder.proofs.Roundtrip.{split_nil, split_zero, split_record, split_short}

-- THE FIRST RECORD

pub splits_nothing : (ws : List ℕ) → length ws ≡ 0 → split ws ≡ record { records = []; whole = is_empty ws }
splits_nothing [] h = split_nil
splits_nothing (w ∷ ws) h = absurd (omega (arith, h))

pub splits_none : {ws rest : List ℕ} {n : ℕ} → ws ≡ n ∷ rest → n ≡ 0 → split ws ≡ record { records = []; whole = is_empty ws }
splits_none {rest = rest} e z = rw (e, z) (split_zero rest)

pub splits_at : {ws rest : List ℕ} {n k : ℕ} (r : Option (Bor (List ℕ) × Bor (List ℕ))) → ws ≡ n ∷ rest → n ≡ suc k → MatchOption r (length rest < k) (λ p. IsSplitAt rest k p.0.now p.1.now) → Splits ws r
splits_at {rest = rest} {k = k} None e z m = rw (e, z) (split_short k rest m)
splits_at {rest = rest} {k = k} (Some p) e z m = rw (e, z, m.1, m.2) (split_record k rest m.0)

-- HOW MANY THERE ARE

-- no more than words
cut_count : (k : ℕ) (ws : List ℕ) → length (read.cut k ws).records ≤ length ws
cut_count zero ws = omega arith
cut_count (suc k) [] = omega arith
cut_count (suc k) (zero ∷ ws) = omega arith
cut_count (suc k) (suc n ∷ ws) = go (leb n (length ws)) (cut_count k (drop n ws))
  where
    go : (b : Bool) → length (read.cut k (drop n ws)).records ≤ length (drop n ws) → length (elim b as (λ (x : Bool). read.Cut) [ true ↦ read.before (take n ws) (read.cut k (drop n ws)) | false ↦ read.stopped ]).records ≤ length (suc n ∷ ws)
    go true h = omega (arith, length-drop n ws)
    go false h = omega arith

pub records_count : (l : List ℕ) → length (split l).records ≤ length l
unfolding split
records_count l = cut_count (length l) l

-- there are few enough to number
pub few : {s z : Enumerate Records} {w : Records} {l : List ℕ} → s ≡ z → z.iter ≡ w → z.count ≡ 0 → w.rest.now ≡ l → length l < 18446744073709551616 → s.count + length (left s.iter) < 18446744073709551616
few {l = l} g f q e h = omega (arith, ap (λ (z : Enumerate Records). z.count) g, q, ap (λ (z : Enumerate Records). length (left z.iter)) g, ap (λ (w : Records). length (left w)) f, ap (λ (l : List ℕ). length ((split l).records)) e, records_count l, h)
