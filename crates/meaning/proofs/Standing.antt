-- What stands in what a cell has read: nothing at first, and then what is noted besides what stood.
-- Assumes nothing.
use mathlib.Core.Path.{◌≡◌, refl, sym, ◌∙◌, subst}
use mathlib.Core.List.{[], ◌∷◌}
use Rattle.std.specs.Prelude.{None, Some}
use Rattle.bits.proofs.Options.{some_ne_none}
use Prim.Native.Nat.{ℕ, zero, suc, ◌<◌}
use native.Mathlib.Nat.{not-suc-le-zero, le_of_suc-le-suc}
use lib.ListN.{length, length-set, length-replicate}
use Rattle.wires.specs.Seen.{Seen, nothing_seen, standing, noted}

-- what P says of each wire that stands, and of the expression that reads it
abbrev pub AllStand : (ℕ → ℕ → Type 0) → Seen → Type 0
AllStand P seen = (w e : ℕ) → standing seen w ≡ Some e → P w e

pub none_stand : (P : ℕ → ℕ → Type 0) → AllStand P []
unfolding standing
none_stand P w e q = absurd (some_ne_none e (sym q))

pub nothing_stands : (P : ℕ → ℕ → Type 0) (wires : ℕ) → AllStand P (nothing_seen wires)
unfolding standing nothing_seen
nothing_stands P zero w e q = absurd (some_ne_none e (sym q))
nothing_stands P (suc k) zero e q = absurd (some_ne_none e (sym q))
nothing_stands P (suc k) (suc w) e q = nothing_stands (λ (x : ℕ). P (suc x)) k w e q

pub noted_stand : (P : ℕ → ℕ → Type 0) (seen : Seen) (w e : ℕ) → AllStand P seen → P w e → AllStand P (noted seen w e)
unfolding standing noted
noted_stand P [] w e h p v f q = absurd (some_ne_none f (sym q))
noted_stand P (o ∷ seen) zero e h p zero f q = subst (P zero) (let z : e ≡ f = cc in z) p
noted_stand P (o ∷ seen) zero e h p (suc v) f q = h (suc v) f q
noted_stand P (o ∷ seen) (suc w) e h p zero f q = h zero f q
noted_stand P (o ∷ seen) (suc w) e h p (suc v) f q = noted_stand (λ (x : ℕ). P (suc x)) seen w e (λ x. h (suc x)) p v f q

-- IN THE RANGE of what is kept

pub nothing_long : (wires : ℕ) → length (nothing_seen wires) ≡ wires
unfolding nothing_seen
nothing_long wires = length-replicate wires None

pub noted_long : (seen : Seen) (w e : ℕ) → length (noted seen w e) ≡ length seen
unfolding noted
noted_long seen w e = length-set seen w (Some e)

pub noted_stands : (seen : Seen) (w e : ℕ) → w < length seen → standing (noted seen w e) w ≡ Some e
unfolding standing noted
noted_stands [] w e h = absurd (not-suc-le-zero h)
noted_stands (o ∷ seen) zero e h = refl
noted_stands (o ∷ seen) (suc w) e h = noted_stands seen w e (le_of_suc-le-suc h)

-- what stood stands
pub still_stands : (seen : Seen) (w e v : ℕ) {f : ℕ} → standing seen w ≡ None → standing seen v ≡ Some f → standing (noted seen w e) v ≡ Some f
unfolding standing noted
still_stands [] w e v p q = q
still_stands (o ∷ seen) zero e zero {f} p q = absurd (some_ne_none f (sym q ∙ p))
still_stands (o ∷ seen) zero e (suc v) p q = q
still_stands (o ∷ seen) (suc w) e zero p q = q
still_stands (o ∷ seen) (suc w) e (suc v) p q = still_stands seen w e v p q
