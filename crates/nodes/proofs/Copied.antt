-- Nodes that became the first candidates of two works, and the mux that is made there.
use mathlib.Core.Path.{◌≡◌, refl, ap, ap₂, sym, ◌∙◌}
use mathlib.Core.List.{List, [], ◌∷◌, ◌++◌, map}
use Prim.Native.Nat.{ℕ, zero, suc, ◌+◌, ◌≤◌, ◌<◌}
use native.Mathlib.Numerals.{add-one}
use native.Mathlib.Omega.{arith}
use lib.ListN.{length, take, get_or}
use Rattle.wires.specs.Expressions.{roomy}
use Rattle.address_mux.specs.declared.AddressMuxNode.{AddressMuxNode}
use Rattle.address_mux.specs.declared.Works.{Works}
use Rattle.address_mux.specs.AddressMux.{Node, balanced_address_mux}
use Rattle.address_mux.specs.Candidates.{node_of, nodes_from, candidates_in, SameWorks, Puts}
use Rattle.address_mux.proofs.Levels.{nodes_put, both_yes}
use Rattle.nodes.specs.Nodes.{mux_of_nodes}

pub copied_none : (w : Works) (ns : List AddressMuxNode) → candidates_in w 0 ≡ map node_of (take 0 ns)
unfolding nodes_from
copied_none w ns = refl

-- one node more of a list
one_more : (ns : List AddressMuxNode) (i : ℕ) (d : AddressMuxNode) → i < length ns → map node_of (take (suc i) ns) ≡ map node_of (take i ns) ++ (node_of (get_or ns i d) ∷ [])
one_more [] i d h = absurd (omega (arith, h))
one_more (x ∷ ns) zero d h = refl
one_more (x ∷ ns) (suc i) d h = ap (λ (l : List Node). node_of x ∷ l) (one_more ns i d (omega (arith, h)))

pub copied_more : (w : Works) (ns : List AddressMuxNode) {i : ℕ} (d : AddressMuxNode) {x : AddressMuxNode} {w' : Works}
    → candidates_in w i ≡ map node_of (take i ns) → i < length ns → x ≡ get_or ns i d → i < length w.parts.now → i < length w.values.now → Puts i (node_of x) w w' → candidates_in w' (i + 1) ≡ map node_of (take (i + 1) ns)
copied_more w ns {i} d {x} {w'} q h is lp lv put =
    ap₂ (λ (l k : List ℕ). nodes_from l k 0 (i + 1)) put.parts put.values
    ∙ nodes_put w.parts.now w.values.now i x.matched.0 x.value.0 lp lv
    ∙ ap₂ (λ (l : List Node) (y : AddressMuxNode). l ++ (node_of y ∷ [])) q is
    ∙ sym (ap (λ (k : ℕ). map node_of (take k ns)) (add-one i) ∙ one_more ns i d h)

take_all : (ns : List AddressMuxNode) → take (length ns) ns ≡ ns
take_all [] = refl
take_all (x ∷ ns) = ap (λ (l : List AddressMuxNode). x ∷ l) (take_all ns)

pub copied_all : (w : Works) (ns : List AddressMuxNode) {i : ℕ} → i ≡ length ns → candidates_in w i ≡ map node_of (take i ns) → candidates_in w (length ns) ≡ map node_of ns
copied_all w ns q h = ap (candidates_in w) (sym q) ∙ h ∙ ap (λ (k : ℕ). map node_of (take k ns)) q ∙ ap (map node_of) (take_all ns)

-- the mux of the nodes is that of the candidates
pub mux_copied : (ns : List AddressMuxNode) (w w' : Works) (width e : ℕ) → length ns ≤ length w.parts.now → length ns ≤ length w.values.now → SameWorks w w' → candidates_in w' (length ns) ≡ map node_of ns
    → mux_of_nodes w.parts.now w.values.now width ns e ≡ roomy (length ns) w'.parts.now (roomy (length ns) w'.values.now (balanced_address_mux width (candidates_in w' (length ns)) e))
mux_copied ns w w' width e p q s c =
    both_yes (length ns) w.parts.now w.values.now _ p q
    ∙ ap (λ (l : List Node). balanced_address_mux width l e) (sym c)
    ∙ sym (both_yes (length ns) w'.parts.now w'.values.now _ (omega (arith, p, s.parts_size)) (omega (arith, q, s.values_size)))
