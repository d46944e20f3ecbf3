-- What the facts of a model and its tables come to.
use Rattle.std.proofs.Common.{◌≡◌, length}
use Rattle.recorder.specs.Lists.{lists}
use Rattle.recorder.specs.Words.{raw_of}
use Rattle.simulation.specs.Wellformed.{largest}
use Rattle.simulation.proofs.Sound.{signals_read}
use Rattle.ordering.specs.Words.{model_with, Tabled, Faultless}
use Rattle.evaluation.specs.Ready.{Prepared}
use Rattle.evaluation.specs.Loads.{Stated}
use Rattle.evaluation.specs.Ticks.{NoFault, ReadSignals}
use Rattle.evaluation.proofs.Preparing.{tabled, faultless, prepared, counted}
use Rattle.evaluation.proofs.Committing.{stated}
use Rattle.runner.specs.declared.tables.CheckedModel.{CheckedModel}

pub no_fault_of : (m : CheckedModel) → NoFault m.signals.now m.exprs.now m.stmts.now
no_fault_of m = record { widest = largest; faultless = m.faultless }

pub prepared_of : (m : CheckedModel) → Prepared m.signals.now m.exprs.now m.stmts.now m.expr_table.now m.signal_table.now
prepared_of m = prepared (no_fault_of m) m.expr_offsets m.signal_offsets

pub tabled_of : (m : CheckedModel) → Tabled m.exprs.now m.starts.now m.stmts.now m.driver_table.now
tabled_of m = tabled (no_fault_of m) m.started m.driven

pub faultless_of : (m : CheckedModel) → Faultless m.signals.now m.exprs.now m.stmts.now
faultless_of m = faultless (no_fault_of m)

pub counted_of : (m : CheckedModel) → m.signal_count ≡ length (model_with m.signals.now m.exprs.now m.stmts.now).signals
counted_of m = counted (no_fault_of m) m.signal_counted

pub stated_of : (m : CheckedModel) → Stated m.signals.now m.stmts.now
stated_of m = stated (prepared_of m)

pub read_signals_of : (m : CheckedModel) → ReadSignals m.signals.now
read_signals_of m = record { readable = signals_read largest (raw_of (lists m.signals.now m.exprs.now m.stmts.now)) m.faultless }
