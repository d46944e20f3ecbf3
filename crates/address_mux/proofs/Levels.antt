-- Levels of an address mux, worked in place in two slices.
use mathlib.Core.Path.{◌≡◌, refl, ap, ap₂, sym, ◌∙◌, subst}
use mathlib.Core.List.{List, [], ◌∷◌, ◌++◌}
use Prim.Native.Nat.{ℕ, zero, suc, ◌+◌, ◌-◌, ◌/◌, ◌%◌, ◌≤◌, ◌<◌}
use native.Mathlib.Nat.{add-zero, zero-add}
use native.Mathlib.Numerals.{add-one}
use native.Mathlib.Omega.{arith}
use lib.ListN.{length, get_or, set}
use lib.Seq.{get_or-set_same, get_or-set_other}
use Rattle.recorder.specs.Record.{Expr.mux}
use Rattle.recorder.specs.Writer.{Writer, End, End.ok, End.no, pure, refuse, emit, ◌>>=◌}
use Rattle.std.specs.Prelude.{Result, IsErrAnd}
use Rattle.refusal.specs.declared.Refusal.{Refusal}
use Rattle.refusal.specs.Refusal.{number_of, place_of}
use Rattle.recorder.specs.declared.Recorder.{Recorder}
use Rattle.recorder.specs.Calls.{ended, Writes}
use Rattle.recorder.proofs.Calls.{writes_pure, Underway, underway_start, underway_step, underway_end}
use Rattle.wires.specs.Expressions.{roomy}
use Rattle.wires.proofs.Laws.{roomy_yes, roomy_no}
use Rattle.address_mux.specs.AddressMux.{Node, mux_level, mux_levels}
use Rattle.address_mux.specs.declared.Works.{Works}
use Rattle.address_mux.specs.Candidates.{node_at, nodes_from, candidates_in, join_nodes, Puts, SameWorks}
use Rattle.address_mux.proofs.Binds.{bind_two, underway_err}

-- CANDIDATES

pub nodes_length : (ms vs : List ℕ) (i n : ℕ) → length (nodes_from ms vs i n) ≡ n
unfolding nodes_from
nodes_length ms vs i zero = refl
nodes_length ms vs i (suc n) = ap suc (nodes_length ms vs (suc i) n)

-- one more
nodes_snoc : (ms vs : List ℕ) (i n : ℕ) → nodes_from ms vs i (suc n) ≡ nodes_from ms vs i n ++ (node_at ms vs (i + n) ∷ [])
unfolding nodes_from
nodes_snoc ms vs i zero = ap (λ (k : ℕ). node_at ms vs k ∷ []) (sym (add-zero i))
nodes_snoc ms vs i (suc n) =
    let e : suc i + n ≡ i + suc n = omega arith in
    ap (λ (l : List Node). node_at ms vs i ∷ l) (nodes_snoc ms vs (suc i) n ∙ ap (λ (k : ℕ). nodes_from ms vs (suc i) n ++ (node_at ms vs k ∷ [])) e)

-- the same where the slices agree
nodes_same : (ms vs ms' vs' : List ℕ) (i n : ℕ) → ((k : ℕ) → i ≤ k → k < i + n → get_or ms' k 0 ≡ get_or ms k 0) → ((k : ℕ) → i ≤ k → k < i + n → get_or vs' k 0 ≡ get_or vs k 0)
    → nodes_from ms' vs' i n ≡ nodes_from ms vs i n
unfolding nodes_from
nodes_same ms vs ms' vs' i zero f g = refl
nodes_same ms vs ms' vs' i (suc n) f g =
    ap₂ (λ (d : Node) (l : List Node). d ∷ l)
    (ap₂ (λ (a b : ℕ). record { matched = a; value = b }) (f i (omega arith) (omega arith)) (g i (omega arith) (omega arith)))
    (nodes_same ms vs ms' vs' (suc i) n (λ k p q. f k (omega arith) (omega arith)) (λ k p q. g k (omega arith) (omega arith)))

module _ (ms vs : List ℕ) (at a b : ℕ) where
  -- those that end before the place stored to, and those behind it
  pub nodes_below : (i n : ℕ) → i + n ≤ at → nodes_from (set ms at a) (set vs at b) i n ≡ nodes_from ms vs i n
  nodes_below i n h = nodes_same ms vs (set ms at a) (set vs at b) i n
      (λ k p q. get_or-set_other ms at k a 0 (λ (e : k ≡ at). omega arith))
      (λ k p q. get_or-set_other vs at k b 0 (λ (e : k ≡ at). omega arith))

  pub nodes_above : (i n : ℕ) → at < i → nodes_from (set ms at a) (set vs at b) i n ≡ nodes_from ms vs i n
  nodes_above i n h = nodes_same ms vs (set ms at a) (set vs at b) i n
      (λ k p q. get_or-set_other ms at k a 0 (λ (e : k ≡ at). omega arith))
      (λ k p q. get_or-set_other vs at k b 0 (λ (e : k ≡ at). omega arith))

  -- one stored behind the first ones
  pub nodes_put : at < length ms → at < length vs → nodes_from (set ms at a) (set vs at b) 0 (at + 1) ≡ nodes_from ms vs 0 at ++ (record { matched = a; value = b } ∷ [])
  nodes_put p q =
      ap (λ (k : ℕ). nodes_from (set ms at a) (set vs at b) 0 k) (add-one at)
      ∙ nodes_snoc (set ms at a) (set vs at b) 0 at
      ∙ ap₂ (λ (l : List Node) (d : Node). l ++ (d ∷ [])) (nodes_below 0 at (omega arith))
      (ap (λ (k : ℕ). node_at (set ms at a) (set vs at b) k) (zero-add at) ∙ ap₂ (λ (x y : ℕ). record { matched = x; value = y }) (get_or-set_same ms at a 0 p) (get_or-set_same vs at b 0 q))

-- ONE LEVEL

module _ (width : ℕ) (ms vs : List ℕ) where
  level_two : (i n : ℕ) (next : List Node)
      → mux_level width (nodes_from ms vs i (suc (suc n))) next ≡ (join_nodes width (node_at ms vs i) (node_at ms vs (suc i)) >>= λ d. mux_level width (nodes_from ms vs (suc (suc i)) n) (next ++ (d ∷ [])))
  unfolding nodes_from mux_level join_nodes
  level_two i n next = sym (bind_two _ _ _ _)

  level_more : (i left : ℕ) (next : List Node) → 2 ≤ left
      → mux_level width (nodes_from ms vs i left) next ≡ (join_nodes width (node_at ms vs i) (node_at ms vs (i + 1)) >>= λ d. mux_level width (nodes_from ms vs (i + 2) (left - 2)) (next ++ (d ∷ [])))
  level_more i left next h =
      let e : left ≡ suc (suc (left - 2)) = omega arith in
      let f : suc i ≡ i + 1 = omega arith in
      let g : suc (suc i) ≡ i + 2 = omega arith in
      ap (λ (k : ℕ). mux_level width (nodes_from ms vs i k) next) e ∙ level_two i (left - 2) next
      ∙ ap₂ (λ (k j : ℕ). join_nodes width (node_at ms vs i) (node_at ms vs k) >>= λ d. mux_level width (nodes_from ms vs j (left - 2)) (next ++ (d ∷ []))) f g

  level_one : (i left : ℕ) (next : List Node) → left ≡ 1 → mux_level width (nodes_from ms vs i left) next ≡ pure (next ++ (node_at ms vs i ∷ []))
  unfolding nodes_from mux_level
  level_one i left next e = ap (λ (k : ℕ). mux_level width (nodes_from ms vs i k) next) e

  level_none : (i left : ℕ) (next : List Node) → left ≡ 0 → mux_level width (nodes_from ms vs i left) next ≡ pure next
  unfolding nodes_from mux_level
  level_none i left next e = ap (λ (k : ℕ). mux_level width (nodes_from ms vs i k) next) e

-- of n candidates those from at + at on are left; the first `at` are the next level's
pub record Levelling (width n : ℕ) (whole : Writer (List Node)) (r₀ r : Recorder) (w : Works) (at : ℕ) : Type 0 where
  pub does : Underway r₀ whole r (mux_level width (nodes_from w.parts.now w.values.now (at + at) (n - (at + at))) (candidates_in w at))

module _ {width n : ℕ} {whole : Writer (List Node)} {r₀ : Recorder} where
  pub levelling_start : (w : Works) → whole ≡ mux_level width (candidates_in w n) [] → Levelling width n whole r₀ r₀ w 0
  unfolding nodes_from
  levelling_start w q = let j : n ≡ n - 0 = omega arith in record { does = underway_start (q ∙ ap (λ (j : ℕ). mux_level width (candidates_in w j) []) j) }

  module _ {r : Recorder} {w : Works} {at : ℕ} (doing : Levelling width n whole r₀ r w at) where
    abbrev ms : List ℕ
    ms = w.parts.now

    abbrev vs : List ℕ
    vs = w.values.now

    module _ (more : at < n / 2) {l k : Node} (is_l : l ≡ node_at ms vs (at + at)) (is_k : k ≡ node_at ms vs (at + at + 1)) where
      two_left : mux_level width (nodes_from ms vs (at + at) (n - (at + at))) (nodes_from ms vs 0 at)
          ≡ (join_nodes width l k >>= λ d. mux_level width (nodes_from ms vs (at + at + 2) (n - (at + at) - 2)) (nodes_from ms vs 0 at ++ (d ∷ [])))
      two_left =
          level_more width ms vs (at + at) (n - (at + at)) (nodes_from ms vs 0 at) (omega arith)
          ∙ ap₂ (λ (x z : Node). join_nodes width x z >>= λ d. mux_level width (nodes_from ms vs (at + at + 2) (n - (at + at) - 2)) (nodes_from ms vs 0 at ++ (d ∷ []))) (sym is_l) (sym is_k)

      pub levelling_step : n ≤ length ms → n ≤ length vs → {d : Node} {r₁ : Recorder} → Writes r (join_nodes width l k) (ok d) r₁ → {w' : Works} → Puts at d w w' → Levelling width n whole r₀ r₁ w' (at + 1)
      levelling_step lm lv {d} {r₁} h {w'} put =
          let i : at + 1 + (at + 1) ≡ at + at + 2 = omega arith in
          let j : n - (at + at) - 2 ≡ n - (at + 1 + (at + 1)) = omega arith in
          let p : nodes_from w'.parts.now w'.values.now (at + 1 + (at + 1)) (n - (at + 1 + (at + 1))) ≡ nodes_from ms vs (at + at + 2) (n - (at + at) - 2) =
          ap₂ (λ (l k : List ℕ). nodes_from l k (at + 1 + (at + 1)) (n - (at + 1 + (at + 1)))) put.parts put.values
          ∙ nodes_above ms vs at d.matched d.value (at + 1 + (at + 1)) (n - (at + 1 + (at + 1))) (omega arith)
          ∙ ap₂ (λ (x z : ℕ). nodes_from ms vs x z) i (sym j) in
          let q : candidates_in w' (at + 1) ≡ nodes_from ms vs 0 at ++ (d ∷ []) =
          ap₂ (λ (l k : List ℕ). nodes_from l k 0 (at + 1)) put.parts put.values ∙ nodes_put ms vs at d.matched d.value (omega arith) (omega arith) in
          record { does = subst (λ (v : Writer (List Node)). Underway r₀ whole r₁ v) (sym (ap₂ (λ (l m : List Node). mux_level width l m) p q)) (underway_step _ doing.does two_left h refl) }

      pub levelling_err : {C : Type 0} (f : C → List Node) (q : Result C Refusal) (x : Refusal) → IsErrAnd q (λ y. y ≡ x) → {r₁ : Recorder} → Writes r (join_nodes width l k) (no (number_of x) (place_of x)) r₁ → Writes r₀ whole (ended f q) r₁
      levelling_err f q x e h = underway_err _ doing.does two_left f q x e h

    -- an odd last one is carried over
    pub levelling_odd : at ≡ n / 2 → n % 2 ≡ 1 → n ≤ length ms → n ≤ length vs → {d : Node} → d ≡ node_at ms vs (n - 1) → {w' : Works} → Puts (n / 2) d w w' → Writes r₀ whole (ok (candidates_in w' ((n + 1) / 2))) r
    levelling_odd p z lm lv {d} is {w'} put =
        let j : n - (at + at) ≡ 1 = omega arith in
        let i : n - 1 ≡ at + at = omega arith in
        let o : (n + 1) / 2 ≡ n / 2 + 1 = omega arith in
        let e : candidates_in w' ((n + 1) / 2) ≡ nodes_from ms vs 0 at ++ (node_at ms vs (at + at) ∷ []) =
        ap₂ (λ (l k : List ℕ). nodes_from l k 0 ((n + 1) / 2)) put.parts put.values
        ∙ ap (λ (m : ℕ). nodes_from (set ms (n / 2) d.matched) (set vs (n / 2) d.value) 0 m) o
        ∙ nodes_put ms vs (n / 2) d.matched d.value (omega arith) (omega arith)
        ∙ ap₂ (λ (m : ℕ) (y : Node). nodes_from ms vs 0 m ++ (y ∷ [])) (sym p) (is ∙ ap (node_at ms vs) i) in
        underway_end doing.does (level_one width ms vs (at + at) (n - (at + at)) (nodes_from ms vs 0 at) j ∙ ap pure (sym e)) writes_pure

    pub levelling_even : at ≡ n / 2 → (n % 2 ≡ 1 → ⊥) → Writes r₀ whole (ok (candidates_in w ((n + 1) / 2))) r
    levelling_even p z =
        let j : n - (at + at) ≡ 0 = omega (arith, z) in
        let o : (n + 1) / 2 ≡ at = omega (arith, z) in
        underway_end doing.does (level_none width ms vs (at + at) (n - (at + at)) (nodes_from ms vs 0 at) j ∙ ap (λ (m : ℕ). pure (nodes_from ms vs 0 m)) (sym o)) writes_pure

-- ALL LEVELS

module _ (width e : ℕ) (ms vs : List ℕ) where
  top_more : (fuel n : ℕ) → 2 ≤ n → 1 ≤ fuel → mux_levels fuel width (nodes_from ms vs 0 n) e ≡ (mux_level width (nodes_from ms vs 0 n) [] >>= λ next. mux_levels (fuel - 1) width next e)
  unfolding nodes_from mux_levels
  top_more fuel n h g =
      let p : fuel ≡ suc (fuel - 1) = omega arith in
      let q : n ≡ suc (suc (n - 2)) = omega arith in
      subst (λ (m : ℕ). mux_levels fuel width (nodes_from ms vs 0 m) e ≡ (mux_level width (nodes_from ms vs 0 m) [] >>= λ next. mux_levels (fuel - 1) width next e)) (sym q)
      (subst (λ (f : ℕ). mux_levels f width (nodes_from ms vs 0 (suc (suc (n - 2)))) e ≡ (mux_level width (nodes_from ms vs 0 (suc (suc (n - 2)))) [] >>= λ next. mux_levels (fuel - 1) width next e)) (sym p) refl)

  top_one : (fuel n : ℕ) → n ≡ 1 → mux_levels fuel width (nodes_from ms vs 0 n) e ≡ emit (mux width (get_or ms 0 0) (get_or vs 0 0) e)
  unfolding nodes_from mux_levels
  top_one zero n h = ap (λ (m : ℕ). mux_levels zero width (nodes_from ms vs 0 m) e) h
  top_one (suc fuel) n h = ap (λ (m : ℕ). mux_levels (suc fuel) width (nodes_from ms vs 0 m) e) h

  top_none : (fuel n : ℕ) → n ≡ 0 → mux_levels fuel width (nodes_from ms vs 0 n) e ≡ pure e
  unfolding nodes_from mux_levels
  top_none zero n h = ap (λ (m : ℕ). mux_levels zero width (nodes_from ms vs 0 m) e) h
  top_none (suc fuel) n h = ap (λ (m : ℕ). mux_levels (suc fuel) width (nodes_from ms vs 0 m) e) h

-- n candidates are left, and the levels that the definition still has are enough
pub record Muxing (width zero : ℕ) (whole : Writer ℕ) (r₀ r : Recorder) (w : Works) (n : ℕ) : Type 0 where
  pub fuel : ℕ
  pub enough : n ≤ fuel + 1
  pub does : Underway r₀ whole r (mux_levels fuel width (candidates_in w n) zero)

module _ {width z : ℕ} {whole : Writer ℕ} {r₀ : Recorder} where
  pub muxing_start : (w : Works) (n : ℕ) → whole ≡ mux_levels (length (candidates_in w n)) width (candidates_in w n) z → Muxing width z whole r₀ r₀ w n
  muxing_start w n q = record {
    fuel = n;
    enough = omega arith;
    does = underway_start (q ∙ ap (λ (f : ℕ). mux_levels f width (candidates_in w n) z) (nodes_length w.parts.now w.values.now 0 n));
  }

  module _ {r : Recorder} {w : Works} {n : ℕ} (doing : Muxing width z whole r₀ r w n) where
    module _ (more : 1 < n) where
      more_left : mux_levels doing.fuel width (candidates_in w n) z ≡ (mux_level width (candidates_in w n) [] >>= λ next. mux_levels (doing.fuel - 1) width next z)
      more_left = let g = doing.enough in top_more width z w.parts.now w.values.now doing.fuel n (omega arith) (omega arith)

      pub muxing_step : {w' : Works} {r₁ : Recorder} → Writes r (mux_level width (candidates_in w n) []) (ok (candidates_in w' ((n + 1) / 2))) r₁ → Muxing width z whole r₀ r₁ w' ((n + 1) / 2)
      muxing_step h = record {
        fuel = doing.fuel - 1;
        enough = let g = doing.enough in omega arith;
        does = underway_step _ doing.does more_left h refl;
      }

      pub muxing_err : {C : Type 0} (f : C → ℕ) (q : Result C Refusal) (x : Refusal) → IsErrAnd q (λ y. y ≡ x) → {r₁ : Recorder} → Writes r (mux_level width (candidates_in w n) []) (no (number_of x) (place_of x)) r₁ → Writes r₀ whole (ended f q) r₁
      muxing_err f q x e h = underway_err _ doing.does more_left f q x e h

    pub muxing_one : n ≡ 1 → {d : Node} → d ≡ node_at w.parts.now w.values.now 0 → {a : End ℕ} {r₁ : Recorder} → Writes r (emit (mux width d.matched d.value z)) a r₁ → Writes r₀ whole a r₁
    muxing_one p is h = underway_end doing.does (top_one width z w.parts.now w.values.now doing.fuel n p ∙ ap (λ (y : Node). emit (mux width y.matched y.value z)) (sym is)) h

    pub muxing_none : n ≡ 0 → Writes r₀ whole (ok z) r
    muxing_none p = underway_end doing.does (top_none width z w.parts.now w.values.now doing.fuel n p) writes_pure

-- LENT WORKS

pub works_itself : {w : Works} → SameWorks w w
works_itself = record { parts = refl; values = refl; parts_size = refl; values_size = refl }

pub same_works : {w w' w'' : Works} → SameWorks w w' → SameWorks w' w'' → SameWorks w w''
same_works h g = record { parts = g.parts ∙ h.parts; values = g.values ∙ h.values; parts_size = g.parts_size ∙ h.parts_size; values_size = g.values_size ∙ h.values_size }

-- both slices have n words, or the first that has not says so
module _ {A : Type 0} (n : ℕ) (ms vs : List ℕ) (w : Writer A) where
  pub both_yes : n ≤ length ms → n ≤ length vs → roomy n ms (roomy n vs w) ≡ w
  both_yes p q = roomy_yes n ms _ p ∙ roomy_yes n vs w q

  pub both_first : length ms < n → roomy n ms (roomy n vs w) ≡ refuse 1 n
  both_first p = roomy_no n ms _ p

  pub both_second : n ≤ length ms → length vs < n → roomy n ms (roomy n vs w) ≡ refuse 1 n
  both_second p q = roomy_yes n ms _ p ∙ roomy_no n vs w q
