use Rattle.converter.proofs.Collecting.{Gathers}
use Rattle.converter.proofs.collect.collect_flip_flop_banks.Given as goal

abbrev pub invariant-loop-i : goal.invariant-loop-i
invariant-loop-i l = Gathers l.cells.words.now l.cells.at l.n l.initial.numbers l.initial.parts l.initial.values l.i l.count l.cell l.numbers l.parts l.values
