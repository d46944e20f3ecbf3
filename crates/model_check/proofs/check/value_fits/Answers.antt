use Rattle.simulation.proofs.Exprs.{value_wide, value_shifted}
use Rattle.model_check.proofs.check.value_fits.Goals as goal

pub returns-then-w-ge32 : goal.returns-then-w-ge32
returns-then-w-ge32 c = value_wide c.args.v c.args.w c.ranges.v.fits c.if-w-ge32.true

pub returns : goal.returns
returns c = value_shifted c.args.v c.args.w
