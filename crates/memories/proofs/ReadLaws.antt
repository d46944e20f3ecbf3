-- Laws of a read port.
use mathlib.Core.Path.{◌≡◌, sym, ◌∙◌}
use mathlib.Core.List.{List, [], map}
use Rattle.std.specs.Prelude.{Option}
use Prim.Native.Nat.{ℕ, ◌≤◌}
use native.Mathlib.Omega.{arith}
use lib.ListN.{length, take, get_or}
use lib.Seq.{length-take-le}
use Rattle.recorder.specs.Writer.{◌>>=◌}
use Rattle.recorder.proofs.Events.{bind_assoc}
use Rattle.wires.specs.declared.Constants.{Constants}
use Rattle.wires.specs.Wires.{Wires}
use Rattle.address_mux.specs.declared.AddressMuxNode.{AddressMuxNode}
use Rattle.address_mux.specs.Address.{at_most}
use Rattle.address_mux.specs.AddressMux.{balanced_address_mux}
use Rattle.address_mux.specs.Candidates.{node_of}
use Rattle.address_mux.proofs.Addresses.{at_most_yes}
use Rattle.address_mux.proofs.Binds.{bind_cong}
use Rattle.address_mux.proofs.Levels.{both_yes}
use Rattle.nodes.specs.Nodes.{mux_of_nodes}
use Rattle.memories.specs.Memories.{Word, PortExprs, candidates_from, emit_block_ram_read_port}
use Rattle.memories.specs.Rams.{select_word, read_register}

-- the mux of the first nodes of an array, in two works with room
pub mux_as : (most depth : ℕ) (ms vs : List ℕ) (ns : List AddressMuxNode) (width z : ℕ) → depth ≤ most → depth ≤ length ns → depth ≤ length ms → depth ≤ length vs
    → balanced_address_mux width (map node_of (take depth ns)) z ≡ at_most most depth (mux_of_nodes ms vs width (take depth ns) z)
mux_as most depth ms vs ns width z fits long p q =
    let len : length (take depth ns) ≡ depth = length-take-le depth ns long in
    sym (at_most_yes most depth _ fits ∙ both_yes (length (take depth ns)) ms vs _ (omega (arith, len, p)) (omega (arith, len, q)))

-- the register comes behind the word
pub read_port : (m : Wires) (z : Constants) (own : Option ℕ) (words : List Word) (width aw clock edge : ℕ) (p : PortExprs)
    → emit_block_ram_read_port m z p own words width aw clock edge ≡ (select_word p.read_address words width aw >>= λ v. read_register m z (get_or p.read_data 0 0) p.read_enable p.clock_enabled own width v clock edge)
unfolding emit_block_ram_read_port select_word read_register
read_port m z own words width aw clock edge p = sym (bind_assoc _ _ _ ∙ bind_cong _ (λ e. bind_assoc (candidates_from p.read_address aw 0 words []) (λ nodes. balanced_address_mux width nodes e) _))
