-- The balanced mux of a list of candidates, with two works.
use Rattle.std.specs.Prelude.{List, map, ℕ, length}
use Rattle.recorder.specs.Writer.{Writer}
use Rattle.wires.specs.Expressions.{roomy}
use Rattle.address_mux.specs.declared.AddressMuxNode.{AddressMuxNode}
use Rattle.address_mux.specs.AddressMux.{balanced_address_mux}
use Rattle.address_mux.specs.Candidates.{node_of}

-- both works have a word for each candidate, or the call is refused: works, words' width, candidates, the expression of zero
abbrev pub mux_of_nodes : List ℕ → List ℕ → ℕ → List AddressMuxNode → ℕ → Writer ℕ
mux_of_nodes ms vs width ns e = roomy (length ns) ms (roomy (length ns) vs (balanced_address_mux width (map node_of ns) e))
