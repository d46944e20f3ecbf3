-- Laws of text put into a buffer, and of one text after another.
-- Assumes nothing.
use mathlib.Core.Path.{◌≡◌, refl, ap, ap₂, sym, ◌∙◌, subst}
use mathlib.Core.Bool.{Bool, true, false}
use mathlib.Core.List.{List, [], ◌∷◌, ◌++◌, append-nil, append_assoc}
use mathlib.Core.Logic.{◌⊎◌, inl, inr}
use Rattle.std.specs.Prelude.{Result, Ok, Err, MatchResult, IsErr}
use Prim.Native.Nat.{ℕ, suc, ◌+◌, ◌-◌, ◌≤◌, ◌<◌, min}
use native.Mathlib.Nat.{add-zero, add-suc, suc-add}
use native.Mathlib.Omega.{arith}
use lib.Dec.{leb}
use lib.ListN.{length, take, drop, set, length-append, length-drop}
use lib.Seq.{sets, length-sets, set_out, length-take-le, drop-drop}
use Rattle.std.proofs.lemmas.List.{take-append-drop}
use Rattle.std.proofs.lemmas.List.Edits.{sets-eq}
use borrow.Author.Tests.{leb-true, leb-false}
use borrow.Rule.Slice.PartMut.{put_mid, post_of}
use Rattle.text.specs.declared.Full.{Full}
use Rattle.text.specs.declared.Text.{Text}
use Rattle.text.specs.Text.{text_in, Appended}

-- past the end nothing is put
pub text_past : (bs out : List ℕ) (at : ℕ) → length out ≤ at → text_in out at bs ≡ out
unfolding text_in
text_past [] out at h = refl
text_past (b ∷ bs) out at h = ap (λ (l : List ℕ). sets l (suc at) bs) (set_out out at b h) ∙ text_past bs out (suc at) (omega arith)

text_append : (bs cs out : List ℕ) (at : ℕ) → text_in (text_in out at bs) (at + length bs) cs ≡ text_in out at (bs ++ cs)
unfolding text_in
text_append [] cs out at = ap (λ (k : ℕ). sets out k cs) (add-zero at)
text_append (b ∷ bs) cs out at = ap (λ (k : ℕ). sets (sets (set out at b) (suc at) bs) k cs) (add-suc at (length bs) ∙ sym (suc-add at (length bs))) ∙ text_append bs cs (set out at b) (suc at)

length_text : (bs out : List ℕ) (at : ℕ) → length (text_in out at bs) ≡ length out
unfolding text_in
length_text bs out at = length-sets out at bs

-- nothing is left over, or it lies past the end
text_left : (bs out : List ℕ) (at : ℕ) → length bs ≡ 0 ⊎ length out ≤ at → text_in out at bs ≡ out
unfolding text_in
text_left bs out at (inr h) = text_past bs out at h
text_left [] out at (inl h) = refl
text_left (b ∷ bs) out at (inl h) = absurd (omega arith)

all_or_room : (a b : ℕ) → a - min a b ≡ 0 ⊎ b ≡ min a b
all_or_room a b = go (leb a b) refl
  where
    go : (t : Bool) → leb a b ≡ t → a - min a b ≡ 0 ⊎ b ≡ min a b
    go true q = let h = leb-true a b q in inl (omega arith)
    go false q = let h = leb-false a b q in inr (omega arith)

-- a part of the buffer is put back with as many bytes as fit
pub put_fitting : (used fits : ℕ) (out bs : List ℕ) {k : ℕ} {ys : List ℕ} → used ≤ length out → fits ≡ min (length bs) (length out - used) → k ≡ fits → ys ≡ take fits bs → put_mid used k out ys ≡ text_in out used bs
unfolding text_in
put_fitting used fits out bs {k} {ys} h e f q =
    let cs = take fits bs in
    let l : length cs ≡ fits = length-take-le fits bs (omega arith) in
    let n : length (drop fits bs) ≡ length bs - fits = length-drop fits bs in
    let m : length (text_in out used cs) ≡ length out = length_text cs out used in
    let rest : length (drop fits bs) ≡ 0 ⊎ length (text_in out used cs) ≤ used + length cs = elim (all_or_room (length bs) (length out - used)) [ inl g ↦ inl (omega arith) | inr g ↦ inr (omega arith) ] in
    ap (λ (x : List ℕ). take used out ++ (x ++ post_of used k out)) q
    ∙ sym (append_assoc (take used out) cs (post_of used k out))
    ∙ ap (λ (x : List ℕ). (take used out ++ cs) ++ x) (drop-drop k used out ∙ ap (λ (i : ℕ). drop (used + i) out) (f ∙ sym l))
    ∙ sym (sets-eq cs out used (omega arith))
    ∙ sym (text_left (drop fits bs) (text_in out used cs) (used + length cs) rest)
    ∙ text_append cs (drop fits bs) out used
    ∙ ap (text_in out used) (take-append-drop fits bs)

-- ONE TEXT AFTER ANOTHER

module _ {t t₁ : Text} {bs : List ℕ} where
  -- all of the first fitted: the second goes behind it
  pub then_text : {x : Unit {0}} {cs : List ℕ} {r : Result (Unit {0}) Full} {t₂ : Text} → Appended t bs (Ok x) t₁ → Appended t₁ cs r t₂ → Appended t (bs ++ cs) r t₂
  then_text {x} {cs} {r} {t₂} first second =
      let l : length t₁.out.now ≡ length t.out.now = ap length first.held ∙ length_text bs t.out.now t.used in
      let u : t₁.used ≡ t.used + length bs = omega (arith, first.said, first.used) in
      let n : t₁.used + length cs ≡ t.used + length (bs ++ cs) = omega (arith, u, length-append bs cs) in
      record {
        kept = second.kept ∙ first.kept;
        said = subst (λ (k : ℕ). MatchResult r (λ _. k ≤ length t.out.now) (λ _. length t.out.now < k)) n (subst (λ (k : ℕ). MatchResult r (λ _. t₁.used + length cs ≤ k) (λ _. k < t₁.used + length cs)) l second.said);
        used = omega (arith, second.used, l, n);
        held = second.held ∙ ap₂ (λ (o : List ℕ) (k : ℕ). text_in o k cs) first.held u ∙ text_append bs cs t.out.now t.used;
      }

  -- all of it fitted, and nothing follows
  pub then_nothing : {x : Unit {0}} → Appended t bs (Ok x) t₁ → Appended t (bs ++ []) (Ok x) t₁
  then_nothing {x} first = subst (λ (l : List ℕ). Appended t l (Ok x) t₁) (sym (append-nil bs)) first

  -- not all of the first fitted: nothing of what follows does
  pub then_full : {x : Full} {r : Result (Unit {0}) Full} (cs : List ℕ) → Appended t bs (Err x) t₁ → IsErr r → Appended t (bs ++ cs) r t₁
  then_full {x} {r} cs first q =
      let n = length-append bs cs in
      let k : length t.out.now < t.used + length (bs ++ cs) = omega (arith, first.said, n) in
      record {
        kept = first.kept;
        said = cut r q k;
        used = omega (arith, k, first.said, first.used);
        held = first.held ∙ sym (text_past cs (text_in t.out.now t.used bs) (t.used + length bs) (omega (arith, first.said, length_text bs t.out.now t.used))) ∙ text_append bs cs t.out.now t.used;
      }
    where
      cut : (r : Result (Unit {0}) Full) → IsErr r → length t.out.now < t.used + length (bs ++ cs) → MatchResult r (λ _. t.used + length (bs ++ cs) ≤ length t.out.now) (λ _. length t.out.now < t.used + length (bs ++ cs))
      cut (Ok x) q k = absurd (cc (q))
      cut (Err x) q k = k

-- another name for the text
pub appended_as : {t t' : Text} {bs cs : List ℕ} {r : Result (Unit {0}) Full} → bs ≡ cs → Appended t bs r t' → Appended t cs r t'
appended_as {t} {t'} {r = r} e h = subst (λ (x : List ℕ). Appended t x r t') e h
