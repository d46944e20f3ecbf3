-- What holds of words that were read: where the records stand, and that they end where their sections end.
use Rattle.std.specs.Prelude.{◌≡◌, List, ℕ, ◌+◌, ◌≤◌, length}
use Rattle.netlist.specs.Reader
use Rattle.netlist.specs.Reader.{Limits, got}
use Rattle.netlist.specs.Fields.{end_at, word_at, cell_at, cell_end, port_at, port_end, layout_of}
use Rattle.netlist.specs.Shape.{FitsCell, FitsPort}

-- where port k and cell k stand, counted from 0
abbrev pub port_place : List ℕ → ℕ → ℕ
port_place words k = end_at (port_end words) k 0

abbrev pub cell_place : List ℕ → ℕ → ℕ
cell_place words k = end_at (cell_end words) k (layout_of words).start

pub record Laid (limits : Limits) (words : List ℕ) : Type 0 where
  pub trailer : (layout_of words).end + 4 ≡ length words
  pub zero : word_at words (layout_of words).end ≡ 0
  pub ports : (layout_of words).ports ≤ limits.ports
  pub cells : (layout_of words).cells ≤ limits.cells
  pub start : (layout_of words).start ≤ (layout_of words).end
  pub ports_end : port_place words (layout_of words).ports ≡ (layout_of words).start
  pub cells_end : cell_place words (layout_of words).cells ≡ (layout_of words).end

pub record PortPlaced (limits : Limits) (words : List ℕ) (i : ℕ) : Type 0 where
  pub read : Reader.read_port limits words (layout_of words).start i ≡ got (port_at words i) (port_end words i)
  pub inside : port_end words i ≤ (layout_of words).start
  pub fits : FitsPort limits (port_at words i)

pub record CellPlaced (limits : Limits) (words : List ℕ) (i : ℕ) : Type 0 where
  pub read : Reader.read_cell limits words (layout_of words).end i ≡ got (cell_at words i) (cell_end words i)
  pub inside : cell_end words i ≤ (layout_of words).end
  pub fits : FitsCell limits (cell_at words i)
