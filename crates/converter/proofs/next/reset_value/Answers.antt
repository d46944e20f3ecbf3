use Rattle.std.proofs.Common.{arith}
use Rattle.converter.specs.Members.{members_left}
use Rattle.converter.proofs.NextBits.{loaded}
use Rattle.converter.proofs.next.reset_value.Goals as goal

pub returns : goal.returns
returns c = loaded c.reset_bits.new.parts (members_left c.args.members) (omega (arith, c.requires.0, c.reset_bits.auto.parts)) c.reset_bits.ensures c.concat_parts.ensures
