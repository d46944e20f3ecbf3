use Rattle.std.proofs.Common.{refl, arith, length-set}
use Rattle.recorder.proofs.Calls.{writes_as, writes_pure, writes_refuse}
use Rattle.converter.proofs.Tables.{insert_free, insert_taken}
use Rattle.converter.proofs.Reserving.{tables_themselves}
use Rattle.converter.proofs.Reserver.insert_wire.Goals as goal

pub returns-then-self-i-ne0 : goal.returns-then-self-i-ne0
returns-then-self-i-ne0 c = record { same = tables_themselves; so = λ limits room p. writes_as (insert_taken _ _ c.args.wire _ c.if-self-i-ne0.true) writes_refuse }

pub returns : goal.returns
returns c = record {
  same = record { recorder = refl; lists = record { signals = refl; exprs = refl; stmts = refl }; wires = refl; places = refl; wires_size = simp length-set refl; places_size = simp length-set refl };
  so = λ limits room p. writes_as (insert_free _ _ c.args.wire c.args.held.signal.0 c.args.held.lsb c.args.held.width c.if-self-i-ne0.false c.if-self-i.false c.if-self-i-2.false (omega arith)) writes_pure;
}
