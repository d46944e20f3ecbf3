use Rattle.netlist.proofs.RamLaws.{width_is}
use Rattle.netlist.proofs.ram.address_width.Goals as goal

pub returns : goal.returns
returns c = width_is _ _ c.if-depth-le2.false c.ilog2.ensures.power_le c.ilog2.ensures.next_power_gt c.ilog2.ensures.bound
