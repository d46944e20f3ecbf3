-- Bytes put behind a text in its buffer: those that fit, and whether all did. And a buffer's bytes sent outside.
use Rattle.std.specs.Prelude.{Bool, false, cond, List, ◌≡◌, ℕ, ◌+◌, ◌≤◌, ◌<◌, leb, length, max, min, Result, MatchResult}
use Rattle.std.proofs.lemmas.List.Edits.{sets}
use Rattle.text.specs.declared.Full.{Full}
use Rattle.text.specs.declared.Text.{Text}

-- the buffer behind it; `sets` passes over what lies past the end
unfoldable pub text_in : List ℕ → ℕ → List ℕ → List ℕ
text_in out used bytes = sets out used bytes

-- a text that is full ends with its buffer; past the end nothing fits, and all stays
pub record Appended (t : Text) (bytes : List ℕ) (r : Result (Unit {0}) Full) (t' : Text) : Type 0 where
  pub kept : t'.out.ghost_name ≡ t.out.ghost_name
  pub said : MatchResult r (λ _. t.used + length bytes ≤ length t.out.now) (λ _. length t.out.now < t.used + length bytes)
  pub used : t'.used ≡ max t.used (min (t.used + length bytes) (length t.out.now))
  pub held : t'.out.now ≡ text_in t.out.now t.used bytes

-- the bytes before a place were handed to the outside, which took them all or not. None are where the place lies past the end
pub record Flushed (out : List ℕ) (at : ℕ) (r : Bool) : Type 0 where
  pub taken : Bool
  pub said : r ≡ cond (leb at (length out)) taken false
