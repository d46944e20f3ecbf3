use Rattle.std.proofs.Common.{refl, ap}
use Rattle.std.specs.Prelude.{Option}
use Rattle.recorder.specs.declared.ExprId.{ExprId}
use Rattle.recorder.proofs.Calls.{writes_then, writes_err, writes_as, writes_pure}
use Rattle.memories.specs.Memories.{next_read}
use Rattle.memories.specs.Rams.{expr_in}
use Rattle.memories.proofs.read_port.next_read.Goals as goal

pub returns-in_err-kept-in-Some : goal.returns-in_err-kept-in-Some
returns-in_err-kept-in-Some c = writes_as (ap (λ (o : Option ExprId). next_read (expr_in o) (expr_in c.args.own) c.args.width c.args.target.0 c.args.value.0) c.in-Some.is) (writes_err c.in_err-kept-in-Some.ensures _ _ c.from_residual.result _ refl c.from_residual.ensures.1)

pub returns-in_ok-kept-in-Some : goal.returns-in_ok-kept-in-Some
returns-in_ok-kept-in-Some c = writes_as (ap (λ (o : Option ExprId). next_read (expr_in o) (expr_in c.args.own) c.args.width c.args.target.0 c.args.value.0) c.in-Some.is) (writes_then c.in_ok-kept-in-Some.ensures _ refl c.mux.ensures)

pub returns-in-None : goal.returns-in-None
returns-in-None c = writes_as (ap (λ (o : Option ExprId). next_read (expr_in o) (expr_in c.args.own) c.args.width c.args.target.0 c.args.value.0) c.in-None.is) writes_pure
