-- What the steps promise: of a checked netlist, with works that have room, they write what the definitions say.
use Rattle.std.specs.Prelude.{◌≡◌, List, ℕ, ◌≤◌, length, Result, Ok, Err}
use Rattle.netlist.specs.declared.Limits.{Limits}
use Rattle.netlist.specs.declared.Layout.{Layout}
use Rattle.netlist.specs.declared.fields.Fields.{Fields}
use Rattle.netlist.specs.Netlist.{Netlist}
use Rattle.netlist.specs.Fields.{port_at, port_end, ports_at, cell_at, cell_end, cells_at}
use Rattle.netlist.specs.Shape.{FitsPort, FitsCell}
use Rattle.refusal.specs.declared.Refusal.{Refusal}
use Rattle.refusal.specs.Refusal.{number_of, place_of}
use Rattle.recorder.specs.declared.Recorder.{Recorder}
use Rattle.recorder.specs.declared.Tapes.{Tapes}
use Rattle.recorder.specs.Writer.{End}
use Rattle.recorder.specs.Lists.{Lists, Answer, Answer.Done, Answer.Failed, Wrote}
use Rattle.recorder.specs.Calls.{lists_in, tapes_in, SameLists, Writes, ended}
use Rattle.wires.specs.Wires.{no_wires, wires_of}
use Rattle.address_mux.specs.declared.Works.{Works}
use Rattle.lowering.specs.Lower.{start, reserve_netlist, emit_netlist, lower_netlist}
use Rattle.converter.specs.declared.members.Banks.{Banks}
use Rattle.converter.specs.Reserves.{Fitting}
use Rattle.converter.specs.Reserved.{Noted}
use Rattle.converter.specs.Emits.{Work}

-- the netlist that stands in the words as a layout says
abbrev pub netlist_by : List ℕ → Layout → Netlist
netlist_by words l = record { ports = ports_at words 0 l.ports; cells = cells_at words l.start l.cells }

-- n ports, and the cells of banks
abbrev pub netlist_of : Fields → ℕ → Banks → Netlist
netlist_of ports n b = record { ports = ports_at ports.words.now ports.at n; cells = cells_at b.cells.words.now b.cells.at b.n }

-- limits that works of 16,384 words serve
pub record Within (limits : Limits) : Type 0 where
  pub wires : limits.wires ≤ 16384
  pub width : limits.width ≤ 16384
  pub cells : limits.cells ≤ 16384

-- its records fit
pub record Checked (limits : Limits) (words : List ℕ) (l : Layout) : Type 0 where
  pub within : Within limits
  pub ports : Fitting (port_at words) (port_end words) (FitsPort limits) (length words) l.ports 0
  pub cells : Fitting (cell_at words) (cell_end words) (FitsCell limits) (length words) l.cells l.start
  pub few : l.cells ≤ 16384

-- ports and cells that fit, and the numbers of the cells' banks
pub record Ordered (limits : Limits) (ports : Fields) (n : ℕ) (b : Banks) : Type 0 where
  pub within : Within limits
  pub ports_fit : Fitting (port_at ports.words.now) (port_end ports.words.now) (FitsPort limits) (length ports.words.now) n ports.at
  pub cells_fit : Fitting (cell_at b.cells.words.now) (cell_end b.cells.words.now) (FitsCell limits) (length b.cells.words.now) b.n b.cells.at
  pub few : b.n ≤ 16384
  pub noted : Noted b

-- tables that have the wires, and no wire yet
pub record Unmapped (wires places : List ℕ) : Type 0 where
  pub wires_long : 16384 ≤ length wires
  pub places_long : 16384 ≤ length places
  pub none_yet : wires_of wires places ≡ no_wires

-- the recorder and the tables, what was asked; the answer, the recorder and the tables at exit
pub record ReservesNetlist (r : Recorder) (wires places : List ℕ) (ports : Fields) (n : ℕ) (b : Banks) (q : Result (Unit {0}) Refusal) (r' : Recorder) (wires' places' : List ℕ) : Type 0 where
  pub same : SameLists r r'
  pub so : (limits : Limits) → Ordered limits ports n b → Unmapped wires places → Writes r (reserve_netlist (netlist_of ports n b)) (ended (λ (u : Unit {0}). wires_of wires' places') q) r'

pub record EmitsNetlist (r : Recorder) (works : Works) (wires places : List ℕ) (ports : Fields) (n : ℕ) (b : Banks) (shared : ℕ) (e : End (Unit {0})) (r' : Recorder) : Type 0 where
  pub same : SameLists r r'
  pub so : shared ≤ 16384 → (limits : Limits) → Ordered limits ports n b → Work works.parts.now → Work works.values.now → Writes r (emit_netlist shared (netlist_of ports n b) (wires_of wires places)) e r'

-- how far the lists are written, or the refusal
abbrev pub recorded : Result Tapes Refusal → Answer (Unit {0})
recorded (Ok t) = Done tt t
recorded (Err x) = Failed (number_of x) (place_of x)

-- the answer, with how far the lists are written
pub record RecordsParts (r : Recorder) (wires places : List ℕ) (works : Works) (ports : Fields) (n : ℕ) (b : Banks) (shared : ℕ) (q : Result Tapes Refusal) (r' : Recorder) : Type 0 where
  pub same : SameLists r r'
  pub so : shared ≤ 16384 → (limits : Limits) → Ordered limits ports n b → Unmapped wires places → Work works.parts.now → Work works.values.now → Wrote (lists_in r) (tapes_in r) (lower_netlist shared (netlist_of ports n b)) (recorded q) (lists_in r')

-- works for the parts of records, for values and for the banks' numbers
pub record Roomy (parts values banks : List ℕ) : Type 0 where
  pub parts_long : 16384 ≤ length parts
  pub values_long : 16384 ≤ length values
  pub banks_long : 16384 ≤ length banks

pub record RecordsNetlist (l₀ : Lists) (wires places parts values banks words : List ℕ) (l : Layout) (shared : ℕ) (r : Result Tapes Refusal) (l₁ : Lists) : Type 0 where
  pub so : shared ≤ 16384 → (limits : Limits) → Checked limits words l → Unmapped wires places → Roomy parts values banks → Wrote l₀ start (lower_netlist shared (netlist_by words l)) (recorded r) l₁
