use Rattle.std.proofs.Common.{arith, subst, sym, ◌+◌}
use Rattle.evaluation.specs.Loads.{Begins}
use Rattle.coding.proofs.Emitting.{emitting_start}
use Rattle.coding.proofs.Frame.{word_kept, registers_kept}
use Rattle.runner.proofs.code.piece.Goals as goal

pub emit_all-requires : goal.emit_all-requires
emit_all-requires c = (omega arith, c.requires.1, c.requires.2, omega arith, emitting_start c.args.marks.now c.requires.4 c.requires.5 c.requires.6 c.want_needed.ensures (c.fill-2.ensures.after (λ _ e. e)))

pub loads_marked-requires : goal.loads_marked-requires
loads_marked-requires c = (omega arith, λ j q. subst (Begins c.args.m.now.stmts.now) (sym (word_kept c.args.from c.args.order.now c.emit_all.new.order c.in_ok-k.ensures.kept (c.args.loads + j) (omega (arith, c.requires.7, q)))) (c.requires.8 j q))

pub returns-clause-loaded : goal.returns-clause-loaded
returns-clause-loaded c = λ r e l. c.in_ok-k.ensures.made.in_marks e ((c.loads_marked.ensures c.if-not-loads_marked.false (registers_kept c.args.from c.args.order.now c.emit_all.new.order c.in_ok-k.ensures.kept c.requires.7 r)).marks_loaded e l)
