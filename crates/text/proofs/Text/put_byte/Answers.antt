use Rattle.std.proofs.Common.{refl, sym, arith}
use Rattle.text.specs.Text.{text_in}
use Rattle.text.proofs.Appending.{text_past}
use Rattle.text.proofs.Text.put_byte.Goals as goal

pub returns-then-self : goal.returns-then-self
unfolding text_in
returns-then-self c = record { kept = refl; said = omega arith; used = omega arith; held = refl }

pub returns-else-self : goal.returns-else-self
returns-else-self c = record { kept = refl; said = omega arith; used = omega arith; held = sym (text_past _ _ _ (omega arith)) }
