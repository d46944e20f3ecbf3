-- Writers in a row, regrouped; and a loop that is refused.
use mathlib.Core.Path.{◌≡◌, ap, ◌∙◌, fun_ext}
use Rattle.recorder.specs.Writer.{Writer, pure, ◌>>=◌}
use Rattle.recorder.proofs.Events.{bind_pure, bind_assoc}
use mathlib.Core.Path.{refl, sym, subst}
use Rattle.std.specs.Prelude.{Result, IsErrAnd}
use Rattle.refusal.specs.declared.Refusal.{Refusal}
use Rattle.refusal.specs.Refusal.{number_of, place_of}
use Rattle.recorder.specs.Writer.{End, End.no}
use Rattle.recorder.specs.declared.Recorder.{Recorder}
use Rattle.recorder.specs.Calls.{ended, Writes}
use Rattle.recorder.proofs.Calls.{handed, Underway, underway_stop}

-- the same first, and then the same
pub bind_cong : {A B : Type 0} (w : Writer A) {f g : A → Writer B} → ((a : A) → f a ≡ g a) → (w >>= f) ≡ (w >>= g)
bind_cong w h = ap (λ (k : _ → Writer _). w >>= k) (fun_ext h)

-- one that ends in a value, and then k
pub bind_one : {A B C : Type 0} (w : Writer A) (f : A → B) (k : B → Writer C) → (w >>= (λ a. pure (f a)) >>= k) ≡ (w >>= λ a. k (f a))
bind_one w f k = bind_assoc w (λ a. pure (f a)) k ∙ bind_cong w (λ a. bind_pure (f a) k)

-- two
pub bind_two : {A B C D : Type 0} (w : Writer A) (v : A → Writer B) (f : A → B → C) (k : C → Writer D)
    → ((w >>= λ a. v a >>= λ b. pure (f a b)) >>= k) ≡ (w >>= λ a. v a >>= λ b. k (f a b))
bind_two w v f k = bind_assoc w (λ a. v a >>= λ b. pure (f a b)) k ∙ bind_cong w (λ a. bind_one (v a) (f a) k)

-- three, and four
pub bind_three : {A B C D E : Type 0} (w : Writer A) (v : A → Writer B) (u : A → B → Writer C) (f : A → B → C → D) (k : D → Writer E)
    → ((w >>= λ a. v a >>= λ b. u a b >>= λ c. pure (f a b c)) >>= k) ≡ (w >>= λ a. v a >>= λ b. u a b >>= λ c. k (f a b c))
bind_three w v u f k = bind_assoc w (λ a. v a >>= λ b. u a b >>= λ c. pure (f a b c)) k ∙ bind_cong w (λ a. bind_two (v a) (u a) (f a) k)

pub bind_four : {A B C D E F : Type 0} (w : Writer A) (v : A → Writer B) (u : A → B → Writer C) (x : A → B → C → Writer D) (f : A → B → C → D → E) (k : E → Writer F)
    → ((w >>= λ a. v a >>= λ b. u a b >>= λ c. x a b c >>= λ d. pure (f a b c d)) >>= k) ≡ (w >>= λ a. v a >>= λ b. u a b >>= λ c. x a b c >>= λ d. k (f a b c d))
bind_four w v u x f k = bind_assoc w (λ a. v a >>= λ b. u a b >>= λ c. x a b c >>= λ d. pure (f a b c d)) k ∙ bind_cong w (λ a. bind_three (v a) (u a) (x a) (f a) k)

-- what a `?` in a loop hands on
pub underway_err : {A B C : Type 0} {r₀ : Recorder} {whole : Writer A} {r : Recorder} {w : Writer B} (k : B → Writer A) {left : Writer A} → Underway r₀ whole r left → left ≡ (w >>= k) → (f : C → A) (q : Result C Refusal) (x : Refusal) → IsErrAnd q (λ y. y ≡ x)
    → {r₁ : Recorder} → Writes r w (no (number_of x) (place_of x)) r₁ → Writes r₀ whole (ended f q) r₁
underway_err {r₀ = r₀} {whole} k on is f q x e {r₁} h = subst (λ (y : End _). Writes r₀ whole y r₁) (sym (handed f q x e)) (underway_stop k on is h refl)
