-- What the tree of an address makes: the word of the last candidate that is the one, or zero.
-- Assumes nothing.
use mathlib.Core.Path.{◌≡◌, refl, ap, sym, ◌∙◌}
use mathlib.Core.Bool.{Bool, true, false, ◌||◌}
use mathlib.Core.List.{List, [], ◌∷◌, ◌++◌, append-nil, append_assoc}
use Prim.Native.Nat.{ℕ, zero, suc, ◌+◌, ◌*◌, ◌≤◌}
use native.Mathlib.Omega.{arith}
use lib.ListN.{length, length-append}
use Rattle.bits.specs.Bits.{pick, Bits}
use Rattle.address_mux.specs.AddressMux.{Node, mux_level, mux_levels, balanced_address_mux}
use Rattle.recorder.specs.Evaluate.{Signals, Values}
use Rattle.recorder.specs.Meaning.{Is, Keeps, Makes, Means}
use Rattle.meaning.specs.Held.{Choice, last_choice}
use Rattle.recorder.proofs.Makes.{is_as, makes_pure, makes_bind, makes_so}
use Rattle.optimize.proofs.Muxes.{or_value, mux_value}

-- the candidates have these values
abbrev pub Nodes : Values → List Node → List Choice → Type 0
Nodes env [] [] = Unit {0}
Nodes env [] (c ∷ cs) = ⊥
Nodes env (n ∷ ns) [] = ⊥
Nodes env (n ∷ ns) (c ∷ cs) = Is env n.matched (c.hit ∷ []) × Is env n.value c.word × Nodes env ns cs

pub nodes_keep : {env env' : Values} → Keeps env env' → (ns : List Node) (cs : List Choice) → Nodes env ns cs → Nodes env' ns cs
nodes_keep k [] [] h = tt
nodes_keep k [] (c ∷ cs) h = absurd h
nodes_keep k (n ∷ ns) [] h = absurd h
nodes_keep k (n ∷ ns) (c ∷ cs) h = (k _ _ h.0, k _ _ h.1, nodes_keep k ns cs h.2)

pub nodes_snoc : (env : Values) (ns : List Node) (cs : List Choice) (n : Node) (c : Choice) → Nodes env ns cs → Is env n.matched (c.hit ∷ []) → Is env n.value c.word → Nodes env (ns ++ (n ∷ [])) (cs ++ (c ∷ []))
nodes_snoc env [] [] n c h a b = (a, b, tt)
nodes_snoc env [] (d ∷ cs) n c h a b = absurd h
nodes_snoc env (m ∷ ns) [] n c h a b = absurd h
nodes_snoc env (m ∷ ns) (d ∷ cs) n c h a b = (h.0, h.1, nodes_snoc env ns cs n c h.2 a b)

-- two neighbours in one
abbrev pub merged : Choice → Choice → Choice
merged l r = record { hit = l.hit || r.hit; word = pick r.hit r.word l.word }

merge_last : (l r : Choice) (v : Bits) → pick (merged l r).hit (merged l r).word v ≡ pick r.hit r.word (pick l.hit l.word v)
merge_last l r v = go l.hit r.hit
  where
    go : (a b : Bool) → pick (a || b) (pick b r.word l.word) v ≡ pick b r.word (pick a l.word v)
    go true true = refl
    go true false = refl
    go false true = refl
    go false false = refl

last_append : (cs ds : List Choice) (v : Bits) → last_choice (cs ++ ds) v ≡ last_choice ds (last_choice cs v)
last_append [] ds v = refl
last_append (c ∷ cs) ds v = last_append cs ds (pick c.hit c.word v)

-- candidates of which the last that is the one is that of cs, at most half as many
pub record Level (env : Values) (ns : List Node) (cs : List Choice) (bound : ℕ) : Type 0 where
  pub choices : List Choice
  pub nodes : Nodes env ns choices
  pub last : (v : Bits) → last_choice choices v ≡ last_choice cs v
  pub short : 2 * length ns ≤ bound

module _ {σ : Signals} (width : ℕ) where
  pub level_makes : (ns : List Node) (cs : List Choice) (next : List Node) (ds : List Choice) {env : Values} → Nodes env ns cs → Nodes env next ds
      → Makes σ env (mux_level width ns next) (λ ms env'. Level env' ms (ds ++ cs) (2 * length next + length ns + 1))
  unfolding mux_level
  level_makes [] [] next ds h g = makes_pure (record { choices = ds; nodes = g; last = λ v. ap (λ (l : List Choice). last_choice l v) (sym (append-nil ds)); short = omega arith })
  level_makes [] (c ∷ cs) next ds h g = absurd h
  level_makes (l ∷ []) [] next ds h g = absurd h
  level_makes (l ∷ []) (c ∷ []) next ds {env} h g =
      makes_pure (record { choices = ds ++ (c ∷ []); nodes = nodes_snoc env next ds l c g h.0 h.1; last = λ v. refl; short = omega (arith, length-append next (l ∷ [])) })
  level_makes (l ∷ []) (c ∷ d ∷ cs) next ds h g = absurd h.2
  level_makes (l ∷ r ∷ ns) [] next ds h g = absurd h
  level_makes (l ∷ r ∷ ns) (c ∷ []) next ds h g = absurd h.2
  level_makes (l ∷ r ∷ ns) (c ∷ d ∷ cs) next ds h g =
      makes_bind (or_value σ h.0 h.2.0) (λ a env₁ k₁ ha.
      makes_bind (mux_value σ (k₁ _ _ h.2.0) (k₁ _ _ h.2.1) (k₁ _ _ h.1)) (λ v env₂ k₂ hv.
      makes_so
      (level_makes ns cs (next ++ (record { matched = a; value = v } ∷ [])) (ds ++ (merged c d ∷ [])) (nodes_keep k₂ ns cs (nodes_keep k₁ ns cs h.2.2))
      (nodes_snoc env₂ next ds (record { matched = a; value = v }) (merged c d) (nodes_keep k₂ next ds (nodes_keep k₁ next ds g)) (k₂ _ _ ha) hv))
      (λ ms env₃ k₃ lv. record {
        choices = lv.choices;
        nodes = lv.nodes;
        last = λ u. lv.last u ∙ ap (λ (x : List Choice). last_choice x u) (append_assoc ds (merged c d ∷ []) cs) ∙ last_append ds (merged c d ∷ cs) u
            ∙ ap (last_choice cs) (merge_last c d (last_choice ds u)) ∙ sym (last_append ds (c ∷ d ∷ cs) u);
        short = omega (arith, lv.short, length-append next (record { matched = a; value = v } ∷ []));
      })))

  pub levels_means : (fuel : ℕ) (ns : List Node) (cs : List Choice) (e : ℕ) (z : Bits) {env : Values} → Nodes env ns cs → Is env e z → length ns ≤ fuel + 1
      → Means σ env (mux_levels fuel width ns e) (last_choice cs z)
  unfolding mux_levels
  levels_means zero [] [] e z h i q = makes_pure i
  levels_means zero [] (c ∷ cs) e z h i q = absurd h
  levels_means zero (n ∷ []) [] e z h i q = absurd h
  levels_means zero (n ∷ []) (c ∷ []) e z h i q = mux_value σ h.0 h.1 i
  levels_means zero (n ∷ []) (c ∷ d ∷ cs) e z h i q = absurd h.2
  levels_means zero (l ∷ r ∷ ns) cs e z h i q = absurd (omega (arith, q))
  levels_means (suc fuel) [] [] e z h i q = makes_pure i
  levels_means (suc fuel) [] (c ∷ cs) e z h i q = absurd h
  levels_means (suc fuel) (n ∷ []) [] e z h i q = absurd h
  levels_means (suc fuel) (n ∷ []) (c ∷ []) e z h i q = mux_value σ h.0 h.1 i
  levels_means (suc fuel) (n ∷ []) (c ∷ d ∷ cs) e z h i q = absurd h.2
  levels_means (suc fuel) (l ∷ r ∷ ns) cs e z h i q =
      makes_bind (level_makes (l ∷ r ∷ ns) cs [] [] h tt) (λ ms env₁ k lv.
      makes_so (levels_means fuel ms lv.choices e z lv.nodes (k _ _ i) (omega (arith, lv.short, q))) (λ x env₂ k₂ g. is_as (lv.last z) g))

  pub tree_means : (ns : List Node) (cs : List Choice) (e : ℕ) (z : Bits) {env : Values} → Nodes env ns cs → Is env e z
      → Means σ env (balanced_address_mux width ns e) (last_choice cs z)
  tree_means ns cs e z h i = levels_means (length ns) ns cs e z h i (omega arith)
