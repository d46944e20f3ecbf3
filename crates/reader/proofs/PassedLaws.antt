-- Laws of parsers that code only checks: one field after the other, and a loop over fields or records.
use Rattle.std.proofs.Common.{◌≡◌, refl, sym, ◌∙◌, ap, subst, ℕ, zero, suc, ◌+◌, ◌-◌, ◌<◌, ◌≤◌, List, [], ◌∷◌, ◌++◌, add-one, Bool, true, false, ltb, arith}
use Rattle.std.specs.Prelude.{Result, Ok, Err}
use Rattle.std.specs.Result.{IsErrAnd}
use Rattle.refusal.specs.declared.Refusal.{Refusal}
use Rattle.refusal.specs.declared.Refusal.TheVariants.{WordCount, WordValue}
use Rattle.netlist.specs.declared.Limits.{Limits}
use Rattle.netlist.specs.Fields.{word_at}
use Rattle.netlist.specs.Reader
use Rattle.netlist.specs.Reader.{base, judged, fetched, Step, got, fault, Parser, and_then, ◌>>=◌, done, many}
use Rattle.netlist.specs.ReaderLaws.{word_missing, below_taken, below_wrong, many_more, many_fault, many_faulty}
use Rattle.reader.specs.Passed.{refusal_of, end_of, Passed}

-- what a parser that went on got
pub record Took {A : Type 0} (s : Step A) (j : ℕ) : Type 0 where
  pub value : A
  pub is : s ≡ got value j

pub took : {A : Type 0} (s : Step A) (j : ℕ) → Ok j ≡ end_of s → Took s j
took (got a m) j e = record { value = a; is = cc }
took (fault n q) j e = cc

-- what a parser that was refused met
pub record Met {A : Type 0} (s : Step A) (x : Refusal) : Type 0 where
  pub number : ℕ
  pub place : ℕ
  pub is : s ≡ fault number place
  pub same : refusal_of number place ≡ x

pub met : {A : Type 0} (s : Step A) (x : Refusal) → Err x ≡ end_of s → Met s x
met (got a m) x e = cc
met (fault n q) x e = record { number = n; place = q; is = refl; same = cc }

-- what a `?` hands on
abbrev pub Handed : {A : Type 0} → Result A Refusal → Refusal → Type 0
Handed q x = IsErrAnd q (λ y. y ≡ x)

pub handed : {A : Type 0} (q : Result A Refusal) {x : Refusal} → Handed q x → q ≡ Err x
handed (Ok a) h = absurd h
handed (Err y) h = ap Err h

-- one parser, then another
module _ {A B : Type 0} {p : Parser A} {i : ℕ} {r : Result ℕ Refusal} (f : A → Parser B) (h : Passed p i r) where
  pub then_go : {j : ℕ} {r' : Result ℕ Refusal} → r ≡ Ok j → ((a : A) → Passed (f a) j r') → Passed (p >>= f) i r'
  then_go {j} {r'} e g =
      let t = took (p i) j (sym e ∙ h.is) in
      record { is = (g t.value).is ∙ sym (ap (λ (s : Step A). end_of (and_then s f)) t.is) }

  pub then_stop : {x : Refusal} {q : Result ℕ Refusal} → r ≡ Err x → Handed q x → Passed (p >>= f) i q
  then_stop {x} e c =
      let t = met (p i) x (sym e ∙ h.is) in
      record { is = handed _ c ∙ ap Err (sym t.same) ∙ sym (ap (λ (s : Step A). end_of (and_then s f)) t.is) }

-- a word, and what its value decides; code has it as x
module _ (limits : Limits) (words : List ℕ) (end : ℕ) where
  pub then_word : {B : Type 0} (ok : ℕ → Bool) {i j x : ℕ} {r r' : Result ℕ Refusal} (f : ℕ → Parser B) → Passed (Reader.word limits words end ok) i r → r ≡ Ok j → x ≡ word_at words i → Passed (f x) j r'
      → Passed (Reader.word limits words end ok >>= f) i r'
  then_word {B} ok {i} {j} {x} {r} {r'} f h e v g = record { is = there (ltb i end) (sym e ∙ h.is) }
    where
      value : (t : Bool) → Ok j ≡ end_of (judged t (word_at words i) i) → r' ≡ end_of (and_then (judged t (word_at words i) i) f)
      value true z = let m : j ≡ i + 1 = cc in g.is ∙ ap (λ (y : ℕ). end_of (f y j)) v ∙ ap (λ (n : ℕ). end_of (f (word_at words i) n)) m
      value false z = cc

      there : (b : Bool) → Ok j ≡ end_of (fetched b ok (word_at words i) i) → r' ≡ end_of (and_then (fetched b ok (word_at words i) i) f)
      there true z = value (ok (word_at words i)) z
      there false z = cc

  pub with_second : {i : ℕ} {r : Result ℕ Refusal} (flag width : ℕ) → (flag ≡ 0 → ⊥) → Passed (Reader.second_if limits words end 1 width) i r → Passed (Reader.second_if limits words end flag width) i r
  with_second zero width h p = absurd (h refl)
  with_second (suc n) width h p = p

-- the last one: what is made of its value changes nothing
pub then_done : {A B : Type 0} {p : Parser A} {i : ℕ} {r : Result ℕ Refusal} (f : A → B) → Passed p i r → Passed (p >>= (λ a. done (f a))) i r
then_done {A} {B} {p} {i} {r} f h = record { is = h.is ∙ go (p i) }
  where
    go : (s : Step A) → end_of s ≡ end_of (and_then s (λ a. done (f a)))
    go (got a j) = refl
    go (fault n q) = refl

-- A LOOP: k records were read, and the next stands at i

module _ {A : Type 0} (p : Parser A) (start : ℕ) where
  pub record Gone (k i : ℕ) : Type 0 where
    pub list : List A
    pub read : many k p start ≡ got list i

  pub gone_more : (k i j : ℕ) (r : Result ℕ Refusal) → Gone k i → Passed p i r → r ≡ Ok j → Gone (k + 1) j
  gone_more k i j r g h e =
      let t = took (p i) j (sym e ∙ h.is) in
      subst (λ (n : ℕ). Gone n j) (sym (add-one k)) (record { list = g.list ++ (t.value ∷ []); read = many_more p start k i j g.list t.value g.read t.is })

  -- the fault of one record is the whole's
  pub gone_stop : (k i n : ℕ) (r : Result ℕ Refusal) (x : Refusal) {q : Result ℕ Refusal} → Gone k i → k < n → Passed p i r → r ≡ Err x → Handed q x → Passed (many n p) start q
  gone_stop k i n r x g l h e c =
      let t = met (p i) x (sym e ∙ h.is) in
      let z : n ≡ suc k + (n - suc k) = omega arith in
      record {
        is =
            handed _ c ∙ ap Err (sym t.same)
            ∙ sym (ap end_of (ap (λ (a : ℕ). many a p start) z ∙ many_faulty p start (n - suc k) (suc k) t.number t.place (many_fault p start k i t.number t.place g.list g.read t.is)));
      }

-- one word of a run
module _ (words : List ℕ) (end bound i : ℕ) where
  pub run_missing : end ≤ i → Passed (Reader.below base words end bound) i (Err (WordCount i))
  run_missing h = record { is = sym (ap end_of (word_missing base words end (λ x. ltb x bound) i h)) }

  pub run_wrong : i < end → bound ≤ word_at words i → Passed (Reader.below base words end bound) i (Err (WordValue i))
  run_wrong h l = record { is = sym (ap end_of (below_wrong base words end bound i h l)) }

  pub run_taken : i < end → word_at words i < bound → Passed (Reader.below base words end bound) i (Ok (i + 1))
  run_taken h l = record { is = sym (ap end_of (below_taken base words end bound i h l)) }

-- many times the same, where what is made of each value changes nothing
pub many_done : {A B : Type 0} (p : Parser A) {i : ℕ} {r : Result ℕ Refusal} (f : A → B) (n : ℕ) → Passed (many n p) i r → Passed (many n (p >>= (λ a. done (f a)))) i r
many_done {A} {B} p {i} {r} f n h = record { is = h.is ∙ go n i }
  where
    go : (n i : ℕ) → end_of (many n p i) ≡ end_of (many n (p >>= (λ a. done (f a))) i)
    go zero i = refl
    go (suc n) i = step (p i) (λ j. go n j)
      where
        forget : {C : Type 0} (c : C) (s : Step (List C)) → end_of (and_then s (λ l. done (c ∷ l))) ≡ end_of s
        forget c (got l j) = refl
        forget c (fault k q) = refl

        step : (s : Step A) → ((j : ℕ) → end_of (many n p j) ≡ end_of (many n (p >>= (λ a. done (f a))) j))
            → end_of (and_then s (λ a. many n p >>= (λ l. done (a ∷ l)))) ≡ end_of (and_then (and_then s (λ a. done (f a))) (λ b. many n (p >>= (λ a. done (f a))) >>= (λ l. done (b ∷ l))))
        step (fault k q) ih = refl
        step (got a j) ih = forget a (many n p j) ∙ ih j ∙ sym (forget (f a) (many n (p >>= (λ a. done (f a))) j))
