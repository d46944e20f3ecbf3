-- What `check` answers: a netlist's layout, or the refusal that the reader gives.
use Rattle.std.specs.Prelude.{◌≡◌, List, ℕ, Option, Result, Ok, Err}
use Rattle.refusal.specs.declared.Refusal.{Refusal}
use Rattle.refusal.specs.Refusal.{number_of, place_of}
use Rattle.netlist.specs.declared.Layout.{Layout}
use Rattle.netlist.specs.Netlist.{Cell, Netlist}
use Rattle.netlist.specs.Reader
use Rattle.netlist.specs.Reader.{Step, Read, netlist, refused, got, one_clock, first_not, with_ports, read_words}
use Rattle.netlist.specs.declared.Limits.{Limits}
use Rattle.netlist.specs.Fields.{layout_of, netlist_at}
use Rattle.reader.specs.Passed.{end_of}

abbrev pub Checks : Limits → List ℕ → Result Layout Refusal → Type 0
Checks limits words (Ok layout) = (read_words limits words ≡ netlist (netlist_at words)) × (layout ≡ layout_of words)
Checks limits words (Err x) = read_words limits words ≡ refused (number_of x) (place_of x)

-- FOR THE PARTS of the check

-- cells that were read, and the first of them with 6
pub record CellsRead (s : Step (List Cell)) (six : Option ℕ) : Type 0 where
  pub cells : List Cell
  pub next : ℕ
  pub read : s ≡ got cells next
  pub first : six ≡ first_not one_clock cells 0

abbrev pub CellsChecked : Limits → List ℕ → ℕ → ℕ → ℕ → Result (Option ℕ) Refusal → Type 0
CellsChecked limits words end start count (Ok six) = CellsRead (Reader.read_cells limits words end count start) six
CellsChecked limits words end start count (Err x) = Err x ≡ end_of (Reader.read_cells limits words end count start)

abbrev pub sections_of : Limits → List ℕ → Layout → Read
sections_of limits words l = with_ports limits words l.start l.end l.cells (Reader.read_ports limits words l.start l.ports 0)

pub record Reads (r : Read) : Type 0 where
  pub value : Netlist
  pub is : r ≡ netlist value

abbrev pub SectionsChecked : Limits → List ℕ → Layout → Result Layout Refusal → Type 0
SectionsChecked limits words l (Ok layout) = Reads (sections_of limits words l) × (layout ≡ l)
SectionsChecked limits words l (Err x) = sections_of limits words l ≡ refused (number_of x) (place_of x)
