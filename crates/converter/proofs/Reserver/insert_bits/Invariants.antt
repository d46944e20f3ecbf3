use Rattle.converter.proofs.Rows.{BitsLoop}
use Rattle.converter.proofs.Reserver.insert_bits.Given as goal

abbrev pub invariant-loop-lsb : goal.invariant-loop-lsb
invariant-loop-lsb l = BitsLoop l.fields.words.now l.content l.fields.at l.n l.signal.0 l.fn.self l.self l.lsb
