use Rattle.std.proofs.Common.{arith, subst, sym}
use Rattle.netlist.specs.Fields.{port_at, port_end, port_size}
use Rattle.netlist.specs.Shape.{FitsPort}
use Rattle.converter.proofs.Reserving.{loop_step, loop_err, loop_end, port_sized, stands_start, stands_is, stands_step}
use Rattle.converter.proofs.Rows.{ports_start}
use Rattle.converter.proofs.Reserver.reserve_ports.Goals as goal

pub loop-p-init : goal.loop-p-init
loop-p-init c = (ports_start c.args.ports.words.now c.args.ports.at c.args.n c.args.self.now, λ limits p. stands_start (port_end c.args.ports.words.now))

pub returns-in_err-reserve_port : goal.returns-in_err-reserve_port
returns-in_err-reserve_port c =
    loop_err c.loop-p.invariant.0 c.loop-p-test.true (λ limits p. stands_is port_at (c.loop-p.invariant.1 limits p))
    (λ limits room p. subst (FitsPort limits) (sym (stands_is port_at (c.loop-p.invariant.1 limits p))) (p.fit c.loop-p.p c.loop-p-test.true))
    c.in_err-reserve_port.ensures c.from_residual.result c.from_residual.ensures.1

pub loop-p-preserved : goal.loop-p-preserved
loop-p-preserved c = (
  loop_step c.loop-p.invariant.0 c.loop-p-test.true (λ limits p. stands_is port_at (c.loop-p.invariant.1 limits p))
      (λ limits room p. subst (FitsPort limits) (sym (stands_is port_at (c.loop-p.invariant.1 limits p))) (p.fit c.loop-p.p c.loop-p-test.true))
      c.in_ok-reserve_port.ensures,
  λ limits p. stands_step port_size p c.loop-p-test.true (c.loop-p.invariant.1 limits p) (port_sized c.loop-p.port c.word.ensures) c.from-port.ensures,
)

pub returns : goal.returns
returns c = loop_end c.loop-p.invariant.0 (omega arith)
