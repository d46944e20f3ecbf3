use Rattle.std.proofs.Common.{refl, sym, arith}
use Rattle.text.proofs.Appending.{text_past, put_fitting}
use Rattle.text.proofs.Text.put.Goals as goal

pub returns-then-self : goal.returns-then-self
returns-then-self c = record { kept = refl; said = omega arith; used = omega arith; held = sym (text_past _ _ _ (omega arith)) }

pub returns-then-fits-bytes : goal.returns-then-fits-bytes
returns-then-fits-bytes c = record { kept = refl; said = omega arith; used = omega arith; held = put_fitting c.args.self.now.used c.min-fits.result c.args.self.now.out.now c.args.bytes.now (omega arith) (omega arith) (omega arith) cc }

pub returns-else-fits-bytes : goal.returns-else-fits-bytes
returns-else-fits-bytes c = record { kept = refl; said = omega arith; used = omega arith; held = put_fitting c.args.self.now.used c.min-fits.result c.args.self.now.out.now c.args.bytes.now (omega arith) (omega arith) (omega arith) cc }
