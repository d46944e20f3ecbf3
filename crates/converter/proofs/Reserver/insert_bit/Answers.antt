use Rattle.std.proofs.Common.{◌≡◌, ap, ⊎_elim}
use Rattle.netlist.specs.declared.Bit.{Bit}
use Rattle.netlist.specs.declared.Bit.TheVariants.{Zero, One}
use Rattle.wires.specs.Wires.{ref_in}
use Rattle.lowering.specs.Reserve.{insert_wire}
use Rattle.converter.specs.Tables.{map_in}
use Rattle.converter.proofs.Reserving.{reserves_none, reserves_as}
use Rattle.converter.proofs.Reserver.insert_bit.Goals as goal

pub returns-in-Zero : goal.returns-in-Zero
unfolding insert_wire
returns-in-Zero c =
    ⊎_elim (λ (e : c.args.bit ≡ Zero). reserves_as (λ limits p. ap (λ (b : Bit). insert_wire (map_in c.args.self.now) b (ref_in c.args.held)) e) reserves_none)
    (λ (e : c.args.bit ≡ One). reserves_as (λ limits p. ap (λ (b : Bit). insert_wire (map_in c.args.self.now) b (ref_in c.args.held)) e) reserves_none) c.in-Zero.is
