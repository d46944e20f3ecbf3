-- Laws of calls that may read: one after another, one that stops, one that reads nothing, a loop; and of the table that keeps what was read.
use mathlib.Core.Path.{◌≡◌, refl, ap, sym, ◌∙◌, subst}
use Rattle.std.specs.Prelude.{Bool, true, false, List, [], ◌∷◌, ◌⊎◌, ◌+◌, ◌-◌, ◌≤◌, ◌<◌, ℕ, zero, suc, leb, length, get_or, Result, Ok, Err, IsErrAnd, is_err}
use Rattle.std.proofs.Common.{arith, inl, inr, replicate}
use Rattle.std.proofs.Math.ListN.{set}
use Rattle.std.specs.Prelude.{Option, None, Some}
use borrow.Author.Tests.{le-leb, lt-leb}
use Rattle.bits.specs.Bits.{pick}
use Rattle.refusal.specs.declared.Refusal.{Refusal}
use Rattle.refusal.specs.Refusal.{number_of, place_of}
use Rattle.recorder.specs.Writer.{Count, End, End.ok, End.no, exprs_of, further, Writer, pure, refuse, ◌>>=◌}
use Rattle.recorder.specs.Lists.{count_of}
use Rattle.recorder.specs.Words.{zeroed}
use Rattle.recorder.specs.Calls.{tapes_in, ended, Writes}
use Rattle.recorder.proofs.Calls.{writes_then, writes_stop, writes_as, writes_pure, writes_refuse, writes_value, handed}
use Rattle.recorder.proofs.Events.{bind_refuse}
use Rattle.netlist.specs.declared.Bit.TheVariants.{Wire}
use Rattle.wires.specs.declared.Emitter.{Emitter}
use Rattle.wires.specs.Seen.{Seen, nothing_seen, standing, noted, Reading, with_seen, keeping, forgetting}
use Rattle.wires.specs.Wires.{WireRef, Wires}
use Rattle.wires.specs.Once.{seen_by, seen_of, seen_in, reading, SameCell, Aged, swept, Leaves, Once, Plain, Sweeps, Notes}
use Rattle.wires.specs.Expressions.{ref_of, wire_ref, read_ref, bit_expression, read_once, bit_once, roomy}

-- THE TABLE

pub seen_at : (first : ℕ) (table : List ℕ) (w : ℕ) → standing (seen_of first table) w ≡ seen_by first (get_or table w 0)
unfolding standing seen_of seen_by
seen_at first [] w =
    let b : leb 0 first ≡ true = le-leb 0 first (omega arith) in
    rw b
seen_at first (x ∷ xs) zero = refl
seen_at first (x ∷ xs) (suc w) = seen_at first xs w

pub seen_noted : (first : ℕ) (table : List ℕ) (w e x : ℕ) → first ≤ e → x ≡ suc e → seen_of first (set table w x) ≡ noted (seen_of first table) w e
unfolding noted seen_of seen_by
seen_noted first [] w e x h q = refl
seen_noted first (y ∷ ys) zero e x h q =
    let k : (x - 1) ≡ e = omega arith in
    let b : leb x first ≡ false = lt-leb x first (omega arith) in
    rw (b, k)
seen_noted first (y ∷ ys) (suc w) e x h q = ap (λ (s : Seen). seen_by first y ∷ s) (seen_noted first ys w e x h q)

pub seen_known : (first : ℕ) (table : List ℕ) (w : ℕ) → first < get_or table w 0 → standing (seen_of first table) w ≡ Some (get_or table w 0 - 1)
unfolding seen_by
seen_known first table w h =
    let b : leb (get_or table w 0) first ≡ false = lt-leb (get_or table w 0) first h in
    seen_at first table w ∙ (rw b)

pub seen_unknown : (first : ℕ) (table : List ℕ) (w : ℕ) → get_or table w 0 ≤ first → standing (seen_of first table) w ≡ None
unfolding seen_by
seen_unknown first table w h =
    let b : leb (get_or table w 0) first ≡ true = le-leb (get_or table w 0) first h in
    seen_at first table w ∙ (rw b)

-- no word is of this cell
pub seen_nothing : (first : ℕ) (table : List ℕ) → ((w : ℕ) → get_or table w 0 ≤ first) → seen_of first table ≡ nothing_seen (length table)
unfolding seen_of seen_by nothing_seen
seen_nothing first [] h = refl
seen_nothing first (x ∷ xs) h =
    let b : leb x first ≡ true = le-leb x first (h 0) in
    rw (b, seen_nothing first xs (λ w. h (suc w)))

-- ONE AFTER ANOTHER

pub same_cell : {e e' e'' : Emitter} → SameCell e e' → SameCell e' e'' → SameCell e e''
same_cell h g = record { recorder = g.recorder ∙ h.recorder; seen = g.seen ∙ h.seen; first = g.first ∙ h.first; map = g.map ∙ h.map; size = g.size ∙ h.size }

pub cell_itself : {e : Emitter} → SameCell e e
cell_itself = record { recorder = refl; seen = refl; first = refl; map = refl; size = refl }

zeroed_alike : (l l' : List ℕ) → length l' ≡ length l → zeroed l' ≡ zeroed l
zeroed_alike l l' q = ap (λ (n : ℕ). replicate n 0) q

aged_then : (first c d : ℕ) (a b e : List ℕ) → c ≤ d → Aged first c a b → Aged first d b e → Aged first d a e
aged_then first c d a b e h f g w = go (f w) (g w)
  where
    go : (get_or b w 0 ≡ get_or a w 0) ⊎ ((first < get_or b w 0) × (get_or b w 0 ≤ c)) → (get_or e w 0 ≡ get_or b w 0) ⊎ ((first < get_or e w 0) × (get_or e w 0 ≤ d))
        → (get_or e w 0 ≡ get_or a w 0) ⊎ ((first < get_or e w 0) × (get_or e w 0 ≤ d))
    go (inl p) (inl q) = inl (q ∙ p)
    go (inr p) (inl q) = let k : first < get_or b w 0 = p.0 in let m : get_or b w 0 ≤ c = p.1 in inr (omega arith, omega arith)
    go x (inr q) = inr q

-- a call that went well, or that read nothing, and then another: what the other leaves
leaves_then : {B : Type 0} (e e₁ e₂ : Emitter) → SameCell e e₁ → e₁.recorder.now.tapes.exprs.count ≤ e₂.recorder.now.tapes.exprs.count → Aged e.first e₁.recorder.now.tapes.exprs.count e.seen.now e₁.seen.now
    → (q : End B) → Leaves e₁ q e₂ → Leaves e q e₂
leaves_then e e₁ e₂ s g m (ok b) n = aged_then e.first e₁.recorder.now.tapes.exprs.count e₂.recorder.now.tapes.exprs.count e.seen.now e₁.seen.now e₂.seen.now g m (subst (λ (f : ℕ). Aged f e₂.recorder.now.tapes.exprs.count e₁.seen.now e₂.seen.now) s.first n)
leaves_then e e₁ e₂ s g m (no x y) n = n ∙ zeroed_alike e.seen.now e₁.seen.now s.size

module _ {A B : Type 0} {e e₁ : Emitter} where
  -- it went well: the next goes on
  pub once_then : {w : Writer (Reading A)} {a : A} → Once e w (ok a) e₁ → (k : Reading A → Writer (Reading B)) {q : End B} {e₂ : Emitter} → Once e₁ (k (with_seen a (seen_in e₁))) q e₂ → Once e (w >>= k) q e₂
  once_then h k {q} {e₂} next = record { same = same_cell h.same next.same; wrote = writes_then h.wrote k refl next.wrote; leaves = leaves_then e e₁ e₂ h.same next.wrote.grows h.leaves q next.leaves }

  -- it did not: that is the answer of both
  pub once_stop : {w : Writer (Reading A)} {number place : ℕ} → Once e w (no number place) e₁ → (k : Reading A → Writer (Reading B)) → Once e (w >>= k) (no number place) e₁
  once_stop h k = record { same = h.same; wrote = writes_stop h.wrote k refl; leaves = h.leaves }

  -- the same behind a call that reads nothing
  pub plain_then : {w : Writer A} {a : A} → Plain e w (ok a) e₁ → (k : A → Writer (Reading B)) {q : End B} {e₂ : Emitter} → Once e₁ (k a) q e₂ → Once e (w >>= k) q e₂
  plain_then h k {q} {e₂} next =
      record { same = same_cell h.same next.same; wrote = writes_then h.wrote k refl next.wrote; leaves = leaves_then e e₁ e₂ h.same next.wrote.grows (λ v. inl (ap (λ (l : List ℕ). get_or l v 0) h.table)) q next.leaves }

  pub plain_stop : {w : Writer A} {number place : ℕ} → Plain e w (no number place) e₁ → (k : A → Writer (Reading B)) → Once e (w >>= k) (no number place) e₁
  plain_stop h k = record { same = h.same; wrote = writes_stop h.wrote k refl; leaves = h.table }

module _ {A : Type 0} {e : Emitter} where
  pub once_pure : {a : A} → Once e (pure (with_seen a (seen_in e))) (ok a) e
  once_pure = record { same = cell_itself; wrote = writes_pure; leaves = λ v. inl refl }

  -- another name for what is written
  pub once_as : {w w' : Writer (Reading A)} {r : End A} {e' : Emitter} → w' ≡ w → Once e w r e' → Once e w' r e'
  once_as q h = record { same = h.same; wrote = writes_as q h.wrote; leaves = h.leaves }

  pub once_answer : {w : Writer (Reading A)} {r r' : End A} {e' : Emitter} → r' ≡ r → Once e w r e' → Once e w r' e'
  once_answer {w} {r} {r'} {e'} q h = subst (λ (x : End A). Once e w x e') (sym q) h

module _ {A : Type 0} {e : Emitter} where
  pub plain_as : {w w' : Writer A} {r : End A} {e' : Emitter} → w' ≡ w → Plain e w r e' → Plain e w' r e'
  plain_as q h = record { same = h.same; wrote = writes_as q h.wrote; table = h.table }

  -- a call that reads nothing leaves what has been read
  pub seen_plain : {w : Writer A} {a : A} {e' : Emitter} → Plain e w (ok a) e' → seen_in e' ≡ seen_in e
  seen_plain h = λ i. seen_of (h.same.first i) (h.table i)

  -- the last call reads nothing
  pub plain_keep : {w : Writer A} {r : End A} {e' : Emitter} {s : Seen} → s ≡ seen_in e → Plain e w r e' → Once e (keeping s w) r e'
  plain_keep {w} {r} {e'} {s} q h = go r h
    where
      go : (r : End A) → Plain e w r e' → Once e (keeping s w) r e'
      go (ok a) h = plain_then h (λ x. pure (with_seen x s)) (once_as (ap (λ (z : Seen). pure (with_seen a z)) (q ∙ sym (seen_plain h))) once_pure)
      go (no x y) h = plain_stop h (λ z. pure (with_seen z s))

  -- what has been read is forgotten
  pub once_forget : {w : Writer (Reading A)} (r : End A) {e' : Emitter} → Once e w r e' → Writes e.recorder.now (forgetting w) r e'.recorder.now
  once_forget (ok a) h = writes_then h.wrote (λ x. pure x.value) refl writes_pure
  once_forget (no x y) h = writes_stop h.wrote (λ z. pure z.value) refl

-- what a `?` hands on
module _ {A C : Type 0} {B : Type 0} {e e₁ : Emitter} (f : C → B) (q : Result C Refusal) (x : Refusal) (h : IsErrAnd q (λ y. y ≡ x)) where
  pub once_err : {w : Writer (Reading A)} → Once e w (no (number_of x) (place_of x)) e₁ → (k : Reading A → Writer (Reading B)) → Once e (w >>= k) (ended f q) e₁
  once_err g k = once_answer (handed f q x h) (once_stop g k)

  pub plain_err : {w : Writer A} → Plain e w (no (number_of x) (place_of x)) e₁ → (k : A → Writer (Reading B)) → Once e (w >>= k) (ended f q) e₁
  plain_err g k = once_answer (handed f q x h) (plain_stop g k)

-- A CALL ON THE RECORDER, and the table cleared if it was refused

pub plain_swept : {A C : Type 0} (f : C → A) {w : Writer A} {e e₁ e₂ : Emitter} (q : Result C Refusal) {p : Result C Refusal} → p ≡ q → Writes e.recorder.now w (ended f q) e₁.recorder.now → SameCell e e₁ → e₁.seen.now ≡ e.seen.now → Sweeps (is_err q) e₁ e₂ → Plain e w (ended f p) e₂
plain_swept {A} {C} f {w} {e} {e₁} {e₂} q {p} z h s t sw = subst (λ (y : Result C Refusal). Plain e w (ended f y) e₂) (sym z) (go q h sw)
  where
    go : (q : Result C Refusal) → Writes e.recorder.now w (ended f q) e₁.recorder.now → Sweeps (is_err q) e₁ e₂ → Plain e w (ended f q) e₂
    go (Ok c) h sw = record { same = same_cell s sw.same; wrote = subst (λ r. Writes e.recorder.now w (ok (f c)) r) (sym sw.recorder) h; table = sw.table ∙ t }
    go (Err x) h sw = record { same = same_cell s sw.same; wrote = subst (λ r. Writes e.recorder.now w (no (number_of x) (place_of x)) r) (sym sw.recorder) h; table = sw.table ∙ ap zeroed t }

-- a call that is refused before anything is recorded
pub once_refused : {A C : Type 0} (f : C → A) (x : Refusal) {p : Result C Refusal} {e e' : Emitter} → p ≡ Err x → Sweeps true e e' → Once e (refuse (number_of x) (place_of x)) (ended f p) e'
once_refused {A} {C} f x {p} {e} {e'} z sw =
    subst (λ (y : Result C Refusal). Once e (refuse (number_of x) (place_of x)) (ended f y) e') (sym z)
    (record { same = sw.same; wrote = subst (λ r. Writes {A = Reading A} e.recorder.now (refuse (number_of x) (place_of x)) (no (number_of x) (place_of x)) r) (sym sw.recorder) writes_refuse; leaves = sw.table })

-- LOOPS: whoever writes what is left has written the whole

pub record GoingOnce {A : Type 0} (e₀ : Emitter) (whole : Writer (Reading A)) (e : Emitter) (left : Writer (Reading A)) : Type 0 where
  pub ends : (r : End A) (e' : Emitter) → Once e left r e' → Once e₀ whole r e'

module _ {A : Type 0} {e₀ : Emitter} {whole : Writer (Reading A)} where
  pub going_once : {w : Writer (Reading A)} → whole ≡ w → GoingOnce e₀ whole e₀ w
  going_once q = record { ends = λ r e' h. once_as q h }

  module _ {e : Emitter} {B : Type 0} {w : Writer (Reading B)} (k : Reading B → Writer (Reading A)) {left : Writer (Reading A)} (on : GoingOnce e₀ whole e left) (is : left ≡ (w >>= k)) {e₁ : Emitter} where
    pub once_more : {a : B} → Once e w (ok a) e₁ → GoingOnce e₀ whole e₁ (k (with_seen a (seen_in e₁)))
    once_more h = record { ends = λ q e' g. on.ends q e' (once_as is (once_then h k g)) }

    pub once_no_more : {number place : ℕ} → Once e w (no number place) e₁ → Once e₀ whole (no number place) e₁
    once_no_more h = on.ends _ _ (once_as is (once_stop h k))

-- ONE READ

module _ (m : Wires) (f : ℕ) (table : List ℕ) (w : ℕ) {x : ℕ} (is : x ≡ get_or table w 0) where
  pub wire_known : f < x → bit_once m (seen_of f table) (Wire w) ≡ pure (with_seen (x - 1) (seen_of f table))
  unfolding bit_once
  wire_known h = ap (λ (o : Option ℕ). read_once o m (seen_of f table) w) (seen_known f table w (subst (λ (k : ℕ). f < k) is h) ∙ ap (λ (k : ℕ). Some (k - 1)) (sym is))

  pub wire_new : x ≤ f → bit_once m (seen_of f table) (Wire w) ≡ (bit_expression m (Wire w) >>= λ e. pure (with_seen e (noted (seen_of f table) w e)))
  unfolding bit_once
  wire_new h = ap (λ (o : Option ℕ). read_once o m (seen_of f table) w) (seen_unknown f table w (subst (λ (k : ℕ). k ≤ f) is h))

-- a new read has the next number
read_next : (m : Wires) (w : ℕ) (n : Count) {e : ℕ} → (bit_expression m (Wire w) n).end ≡ ok e → (e ≡ n.exprs) × (length (exprs_of (bit_expression m (Wire w) n).events) ≡ 1)
unfolding bit_expression wire_ref ◌>>=◌
read_next m w n {e} h = go (m w) h
  where
    go : (o : Option WireRef) → ((ref_of o w >>= read_ref) n).end ≡ ok e → (e ≡ n.exprs) × (length (exprs_of ((ref_of o w >>= read_ref) n).events) ≡ 1)
    go None h = let x : End ℕ = no 8 w in let z : x ≡ ok e = h in cc
    go (Some r) h = let z : ok (n.exprs + 0) ≡ ok e = h in (let k : n.exprs + 0 ≡ e = cc in omega arith, refl)

noted_ages : (f c w : ℕ) (table : List ℕ) → f < c → Aged f c table (set table w c)
noted_ages f c w table h v = go table w v
  where
    go : (l : List ℕ) (i j : ℕ) → (get_or (set l i c) j 0 ≡ get_or l j 0) ⊎ ((f < get_or (set l i c) j 0) × (get_or (set l i c) j 0 ≤ c))
    go [] i j = inl refl
    go (x ∷ xs) zero zero = inr (h, omega arith)
    go (x ∷ xs) zero (suc j) = inl refl
    go (x ∷ xs) (suc i) zero = inl refl
    go (x ∷ xs) (suc i) (suc j) = go xs i j

-- a read that is new
module _ (m : Wires) (w : ℕ) {e e₁ e₂ : Emitter} {x : ℕ} (begun : e.first ≤ e.recorder.now.tapes.exprs.count) (h : Plain e (bit_expression m (Wire w)) (ok x) e₁) (note : Notes w e₁ e₂) where
  abbrev rest : ℕ → Writer (Reading ℕ)
  rest y = pure (with_seen y (noted (seen_in e) w y))

  abbrev whole : Writer (Reading ℕ)
  whole = bit_expression m (Wire w) >>= rest

  pub once_noted : Once e whole (ok x) e₂
  once_noted =
      let v = writes_value h.wrote in
      let n = read_next m w (count_of (tapes_in e.recorder.now)) v.0 in
      let i : e₁.recorder.now.tapes.exprs.count ≡ e.recorder.now.tapes.exprs.count + length (exprs_of (bit_expression m (Wire w) (count_of (tapes_in e.recorder.now))).events) = ap (λ (c : Count). c.exprs) v.1 in
      let j : x ≡ e.recorder.now.tapes.exprs.count = n.0 in
      let k : length (exprs_of (bit_expression m (Wire w) (count_of (tapes_in e.recorder.now))).events) ≡ 1 = n.1 in
      let c : e₁.recorder.now.tapes.exprs.count ≡ suc x = omega arith in
      let z : e₂.seen.now ≡ set e.seen.now w e₁.recorder.now.tapes.exprs.count = note.table ∙ ap (λ (l : List ℕ). set l w e₁.recorder.now.tapes.exprs.count) h.table in
      let f : e₂.first ≡ e.first = note.same.first ∙ h.same.first in
      let s : seen_in e₂ ≡ noted (seen_in e) w x = (λ t. seen_of (f t) (z t)) ∙ seen_noted e.first e.seen.now w x e₁.recorder.now.tapes.exprs.count (omega arith) c in
      record {
        same = same_cell h.same note.same;
        wrote = subst (λ r. Writes e.recorder.now whole (ok (with_seen x (seen_in e₂))) r) (sym note.recorder)
            (writes_then h.wrote rest refl (writes_as (ap (λ (y : Seen). pure (with_seen x y)) (sym s)) writes_pure));
        leaves = subst (λ (l : List ℕ). Aged e.first e₂.recorder.now.tapes.exprs.count e.seen.now l) (sym z)
            (subst (λ (y : ℕ). Aged e.first y e.seen.now (set e.seen.now w e₁.recorder.now.tapes.exprs.count)) (sym (ap (λ r. r.tapes.exprs.count) note.recorder)) (noted_ages e.first e₁.recorder.now.tapes.exprs.count w e.seen.now (omega arith)));
      }

-- outside of cells: a vector that is read with nothing shared
pub forgot : (n : ℕ) (work : List ℕ) (w : Writer (Reading ℕ)) {e : Emitter} (r : End ℕ) {e' : Emitter} → Once e (roomy n work w) r e' → Writes e.recorder.now (roomy n work (forgetting w)) r e'.recorder.now
unfolding roomy
forgot n work w {e} r {e'} h = go (leb n (length work)) h
  where
    go : (b : Bool) → Once e (pick b w (refuse 1 n)) r e' → Writes e.recorder.now (pick b (forgetting w) (refuse 1 n)) r e'.recorder.now
    go true h = once_forget r h
    go false h = writes_as (sym (bind_refuse 1 n (λ x. pure x.value))) (once_forget r h)
