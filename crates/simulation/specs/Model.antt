-- A model's three lists of words.
use Rattle.recorder.specs.Lists.{Lists, lists}
use Rattle.simulation.specs.declared.Model.{Model}

abbrev pub lists_of : Model → Lists
lists_of m = lists m.signals.now m.exprs.now m.stmts.now
