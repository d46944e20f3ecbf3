use Rattle.std.proofs.Common.{arith, ◌+◌, length}
use Rattle.simulation.specs.Index.{records_in, widths_in}
use Rattle.simulation.proofs.Offsets.{offset_next, offset_le}
use Rattle.coding.proofs.Emitting.{put_emitted}
use Rattle.runner.proofs.code.put.Goals as goal

pub place-requires : goal.place-requires
place-requires c = (omega (arith, c.expr_offset-begin.ensures, c.expr_offset-end.ensures, offset_next (widths_in c.args.m.now.exprs.now) c.wide-x.result), omega (arith, c.expr_offset-end.ensures, c.wide-x.ensures, c.requires.4.there, offset_le (widths_in c.args.m.now.exprs.now) (c.wide-x.result + 1) (length (records_in c.args.m.now.exprs.now)) (omega (arith, c.wide-x.ensures, c.requires.4.there))))

pub returns-clause-emitted : goal.returns-clause-emitted
returns-clause-emitted c = put_emitted c.requires.2 c.args.m.now.expr_counted c.requires.3 c.requires.4 c.wide-x.ensures c.expr_offset-begin.ensures c.expr_offset-end.ensures c.place.ensures
