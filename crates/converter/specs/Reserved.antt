-- What banks are to be, so that their signals can be reserved.
use Rattle.std.specs.Prelude.{◌<◌, length}
use Rattle.netlist.specs.declared.Limits.{Limits}
use Rattle.netlist.specs.Fields.{cell_at, cell_end}
use Rattle.netlist.specs.Shape.{FitsCell}
use Rattle.converter.specs.declared.members.Banks.{Banks}
use Rattle.converter.specs.Banked.{Collected}
use Rattle.converter.specs.Reserves.{Fitting}

-- the banks' numbers are those of the cells
abbrev pub Noted : Banks → Type 0
Noted b = Collected b.cells.words.now b.cells.at b.n b.count b.numbers.now

-- the cells fit, and their banks' numbers are noted
abbrev pub BanksFit : Banks → Limits → Type 0
BanksFit b limits = Fitting (cell_at b.cells.words.now) (cell_end b.cells.words.now) (FitsCell limits) (length b.cells.words.now) b.n b.cells.at × (b.n < 65536) × Noted b
