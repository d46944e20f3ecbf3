-- A run's tables: what they hold of a model, and that they are the buffers that were lent.
use Rattle.std.specs.Prelude.{◌≡◌, length}
use Rattle.simulation.specs.declared.Model.{Model}
use Rattle.simulation.specs.Index.{widths_in, Indexed, Starts, Driven}
use Rattle.simulation.specs.Run.{zeroed}
use Rattle.runner.specs.declared.tables.Tables.{Tables}

-- the buffers are still those that were lent, as long as they were
pub record SameTables (t t' : Tables) : Type 0 where
  pub starts : t'.starts.ghost_name ≡ t.starts.ghost_name
  pub expr_table : t'.expr_table.ghost_name ≡ t.expr_table.ghost_name
  pub signal_table : t'.signal_table.ghost_name ≡ t.signal_table.ghost_name
  pub driver_table : t'.driver_table.ghost_name ≡ t.driver_table.ghost_name
  pub starts_long : length t'.starts.now ≡ length t.starts.now
  pub expr_table_long : length t'.expr_table.now ≡ length t.expr_table.now
  pub signal_table_long : length t'.signal_table.now ≡ length t.signal_table.now
  pub driver_table_long : length t'.driver_table.now ≡ length t.driver_table.now

-- filled for a model
pub record TablesOf (m : Model) (t : Tables) : Type 0 where
  pub started : Starts m.exprs.now t.starts.now
  pub expr_offsets : Indexed (widths_in m.exprs.now) t.expr_table.now
  pub signal_offsets : Indexed (widths_in m.signals.now) t.signal_table.now
  pub driven : Driven m.stmts.now t.driver_table.now

pub record ZeroedTables (t t' : Tables) : Type 0 where
  pub starts : t'.starts.now ≡ zeroed t.starts.now
  pub expr_table : t'.expr_table.now ≡ zeroed t.expr_table.now
  pub signal_table : t'.signal_table.now ≡ zeroed t.signal_table.now
  pub driver_table : t'.driver_table.now ≡ zeroed t.driver_table.now
