-- Rules for a choice by a test on numbers: what a test on the way showed picks the case.
-- Assumes nothing.
use mathlib.Core.Path.{◌≡◌}
use mathlib.Core.Bool.{Bool, true, false, ◌||◌}
use Prim.Native.Nat.{ℕ}
use lib.Dec.{eqb}
use borrow.Author.Tests.{eq-eqb, ne_eqb}
use Rattle.bits.specs.Bits.{pick}

pub pick_yes : {A : Type 0} (a b : ℕ) (x y z : A) → a ≡ b → z ≡ x → z ≡ pick (eqb a b) x y
pick_yes a b x y z h e = rw (eq-eqb a b h) e

pub pick_no : {A : Type 0} (a b : ℕ) (x y z : A) → (a ≡ b → ⊥) → z ≡ y → z ≡ pick (eqb a b) x y
pick_no a b x y z h e = rw (ne_eqb a b h) e

-- a choice by a test whose result r a call returned
pub pick_flag_yes : {A : Type 0} (r b : Bool) (x y z : A) → r ≡ b → r ≡ true → z ≡ x → z ≡ pick b x y
pick_flag_yes r b x y z h t e = rw (← h, t) e

pub pick_flag_no : {A : Type 0} (r b : Bool) (x y z : A) → r ≡ b → r ≡ false → z ≡ y → z ≡ pick b x y
pick_flag_no r b x y z h t e = rw (← h, t) e

-- a choice by either of two tests
pub pick_either_left : {A : Type 0} (a b : ℕ) (q : Bool) (x y z : A) → a ≡ b → z ≡ x → z ≡ pick (eqb a b || q) x y
pick_either_left a b q x y z h e = rw (eq-eqb a b h) e

pub pick_either_right : {A : Type 0} (a b c d : ℕ) (x y z : A) → (a ≡ b → ⊥) → z ≡ pick (eqb c d) x y → z ≡ pick (eqb a b || eqb c d) x y
pick_either_right a b c d x y z h e = rw (ne_eqb a b h) e

pub ruleset picks = (pick_yes, pick_no, pick_flag_yes, pick_flag_no, pick_either_left, pick_either_right)
