-- Candidates in two works, and the code's answers that hand them over.
use Rattle.std.specs.Prelude.{List, [], ◌∷◌, ◌≡◌, ◌<◌, ℕ, zero, suc, ◌+◌, ◌/◌, get_or, length, Result}
use Rattle.std.proofs.Math.ListN.{set}
use Rattle.refusal.specs.declared.Refusal.{Refusal}
use Rattle.recorder.specs.Words.{zeroed}
use Rattle.recorder.specs.Record.{Expr.or, Expr.mux}
use Rattle.recorder.specs.Writer.{End, Writer, pure, emit, ◌>>=◌}
use Rattle.recorder.specs.Calls.{ended}
use Rattle.address_mux.specs.declared.AddressMuxNode.{AddressMuxNode}
use Rattle.address_mux.specs.declared.Works.{Works}
use Rattle.address_mux.specs.AddressMux.{Node}

-- the candidate at an index of the two slices
abbrev pub node_at : List ℕ → List ℕ → ℕ → Node
node_at ms vs i = record { matched = get_or ms i 0; value = get_or vs i 0 }

-- so many from an index on
unfoldable pub nodes_from : List ℕ → List ℕ → ℕ → ℕ → List Node
nodes_from ms vs i zero = []
nodes_from ms vs i (suc n) = node_at ms vs i ∷ nodes_from ms vs (suc i) n

-- the first n that two works hold
abbrev pub candidates_in : Works → ℕ → List Node
candidates_in w n = nodes_from w.parts.now w.values.now 0 n

abbrev pub node_of : AddressMuxNode → Node
node_of d = record { matched = d.matched.0; value = d.value.0 }

-- two neighbours become one, the later one wins
unfoldable pub join_nodes : ℕ → Node → Node → Writer Node
join_nodes width l r = do
  a ← emit (or l.matched r.matched)
  v ← emit (mux width r.matched r.value l.value)
  pure (record { matched = a; value = v })

abbrev pub joined : Result AddressMuxNode Refusal → End Node
joined r = ended node_of r

-- n candidates became the next level's, which are the first of two works
abbrev pub levelled : Works → ℕ → Result (Unit {0}) Refusal → End (List Node)
levelled w n r = ended (λ u. candidates_in w ((n + 1) / 2)) r

-- ---- two works that were lent

-- both have a word at an index
abbrev pub Holds : Works → ℕ → Type 0
Holds w i = (i < length w.parts.now) × (i < length w.values.now)

-- a struct still has both, and they are as long as before
pub record SameWorks (w w' : Works) : Type 0 where
  pub parts : w'.parts.ghost_name ≡ w.parts.ghost_name
  pub values : w'.values.ghost_name ≡ w.values.ghost_name
  pub parts_size : length w'.parts.now ≡ length w.parts.now
  pub values_size : length w'.values.now ≡ length w.values.now

-- a candidate was put at an index
pub record Puts (i : ℕ) (d : Node) (w w' : Works) : Type 0 where
  pub same : SameWorks w w'
  pub parts : w'.parts.now ≡ set w.parts.now i d.matched
  pub values : w'.values.now ≡ set w.values.now i d.value

-- both hold zeros
pub record Cleared (w w' : Works) : Type 0 where
  pub same : SameWorks w w'
  pub parts : w'.parts.now ≡ zeroed w.parts.now
  pub values : w'.values.now ≡ zeroed w.values.now
