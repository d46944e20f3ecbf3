use Rattle.std.proofs.Common.{refl}
use Rattle.evaluation.proofs.InBytes.{product_low}
use Rattle.runner.proofs.bytes.product.Goals as goal

pub returns : goal.returns
returns c = product_low c.args.a c.args.b _ refl
