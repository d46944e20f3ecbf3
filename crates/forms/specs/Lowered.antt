-- A netlist that lowering accepts, and its model.
use Rattle.std.specs.Prelude.{◌≡◌, ℕ, ◌≤◌}
use Rattle.std.specs.Prelude.{None}
use Rattle.netlist.specs.declared.Limits.{Limits}
use Rattle.netlist.specs.Netlist.{Netlist}
use Rattle.netlist.specs.Shape.{Fits}
use Rattle.recorder.specs.Record.{Model}
use Rattle.recorder.specs.Writer.{Count, End.ok, model_of}
use Rattle.wires.specs.Wires.{Wires}
use Rattle.lowering.specs.Lower.{overdriven_from, reserve_netlist, lower_netlist}

abbrev pub none_yet : Count
none_yet = record { signals = 0; exprs = 0; stmts = 0 }

-- the model of a netlist whose cells share their reads of so many wires
abbrev pub lowered_model : ℕ → Netlist → Model
lowered_model shared n = model_of (lower_netlist shared n none_yet).events

-- reading let it through, no step refused it, and 11 did not
pub record Lowered (shared : ℕ) (limits : Limits) (n : Netlist) : Type 0 where
  pub fits : Fits limits n
  pub wires : Wires
  pub reserved : (reserve_netlist n none_yet).end ≡ ok wires
  pub ended : (lower_netlist shared n none_yet).end ≡ ok tt
  pub single : overdriven_from 0 (lowered_model shared n).signals (lowered_model shared n).stmts ≡ None

-- the widths of ports, banks and products stay within the largest width of a model
pub record Roomy (limits : Limits) (widest : ℕ) : Type 0 where
  pub ports : limits.width ≤ widest
  pub banks : limits.cells ≤ widest
  pub products : 36 ≤ widest
