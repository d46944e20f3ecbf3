-- A loop that puts one text after another: what is left to put.
-- Assumes nothing.
use mathlib.Core.Path.{◌≡◌, subst}
use mathlib.Core.List.{List, [], ◌++◌}
use Prim.Native.Nat.{ℕ}
use Rattle.std.specs.Prelude.{Result, Ok, Err, IsErr}
use Rattle.text.specs.declared.Full.{Full}
use Rattle.text.specs.declared.Text.{Text}
use Rattle.text.specs.Text.{Appended}
use Rattle.text.proofs.Appending.{then_text, then_full}

-- whoever puts the rest has put the whole
pub record Going (t₀ : Text) (whole : List ℕ) (t : Text) (rest : List ℕ) : Type 0 where
  pub on : {r : Result (Unit {0}) Full} {t' : Text} → Appended t rest r t' → Appended t₀ whole r t'

pub going_start : {t : Text} {whole : List ℕ} → Going t whole t whole
going_start = record { on = λ a. a }

module _ {t₀ t : Text} {whole : List ℕ} where
  -- another name for the rest
  pub going_as : {bs cs : List ℕ} → bs ≡ cs → Going t₀ whole t bs → Going t₀ whole t cs
  going_as e g = subst (λ (x : List ℕ). Going t₀ whole t x) e g

  -- a part was put
  pub going_step : {bs rest : List ℕ} {x : Unit {0}} {t' : Text} → Going t₀ whole t (bs ++ rest) → Appended t bs (Ok x) t' → Going t₀ whole t' rest
  going_step g a = record { on = λ b. g.on (then_text a b) }

  -- a part did not fit
  pub going_stop : {bs : List ℕ} (rest : List ℕ) {x : Full} {r : Result (Unit {0}) Full} {t' : Text} → Going t₀ whole t (bs ++ rest) → Appended t bs (Err x) t' → IsErr r → Appended t₀ whole r t'
  going_stop rest g a q = g.on (then_full rest a q)

  -- nothing is left: to put that says whether the text stands within its buffer
  pub going_end : {r : Result (Unit {0}) Full} {t' : Text} → Going t₀ whole t [] → Appended t [] r t' → Appended t₀ whole r t'
  going_end g a = g.on a
