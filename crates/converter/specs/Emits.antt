-- What emitting promises: of a cell or a port that fits, and with works that have room, it writes what the definitions say.
use Rattle.std.specs.Prelude.{List, ◌≡◌, ℕ, ◌≤◌, eqb, length, get_or}
use Rattle.bits.specs.Bits.{pick}
use Rattle.netlist.specs.declared.Limits.{Limits}
use Rattle.netlist.specs.Netlist.{Cell, Port}
use Rattle.netlist.specs.Fields.{cell_at, cell_end, cells_at, port_at, port_end, ports_at}
use Rattle.netlist.specs.Shape.{FitsCell, FitsPort}
use Rattle.recorder.specs.declared.Recorder.{Recorder}
use Rattle.recorder.specs.Record.{Stmt.assign}
use Rattle.recorder.specs.Writer.{Writer, End, End.ok, End.no, pure, state, ◌>>=◌}
use Rattle.recorder.specs.Calls.{SameLists, Writes}
use Rattle.wires.specs.declared.Emitter.{Emitter}
use Rattle.wires.specs.declared.WireMap.{WireMap}
use Rattle.wires.specs.Wires.{Wires, wires_in}
use Rattle.wires.specs.Expressions.{bits_expression}
use Rattle.address_mux.specs.declared.Works.{Works}
use Rattle.lowering.specs.Emit.{emit_cell, emit_cells, emit_outputs}
use Rattle.converter.specs.Reserves.{Fitting}

-- if P holds, w was written
pub record Emits (P : Limits → Type 0) (r : Recorder) (w : Writer (Unit {0})) (e : End (Unit {0})) (r' : Recorder) : Type 0 where
  pub same : SameLists r r'
  pub so : (limits : Limits) → P limits → Writes r w e r'

-- a lent work has as many words as any cell takes
abbrev pub Work : List ℕ → Type 0
Work work = 16384 ≤ length work

-- an emitter still has what it was lent
pub record SameEmitter (e e' : Emitter) : Type 0 where
  pub recorder : e'.recorder.ghost_name ≡ e.recorder.ghost_name
  pub lists : SameLists e.recorder.now e'.recorder.now
  pub seen : e'.seen.ghost_name ≡ e.seen.ghost_name
  pub map : e'.map ≡ e.map
  pub size : length e'.seen.now ≡ length e.seen.now

-- every word of the table of what cells have read is of an earlier expression: the next cell has read nothing
abbrev pub Old : Emitter → Type 0
Old e = (w : ℕ) → get_or e.seen.now w 0 ≤ e.recorder.now.tapes.exprs.count

abbrev pub OldAfter : End (Unit {0}) → Emitter → Type 0
OldAfter (ok u) e = Old e
OldAfter (no number place) e = Unit {0}

-- if P holds and the table is old, w was written, and the table is old again
pub record Shares (P : Limits → Type 0) (e : Emitter) (w : Writer (Unit {0})) (r : End (Unit {0})) (e' : Emitter) : Type 0 where
  pub same : SameEmitter e e'
  pub so : (limits : Limits) → P limits → Old e → Writes e.recorder.now w r e'.recorder.now
  pub old : (limits : Limits) → P limits → Old e → OldAfter r e'

-- A CELL, which shares the reads of the wires that the table has

abbrev pub cell_writer : Emitter → ℕ → Cell → Writer (Unit {0})
cell_writer e owner x = emit_cell (length e.seen.now) (wires_in e.map) e.map.constants owner x

abbrev pub CellFits : List ℕ → List ℕ → Cell → Limits → Type 0
CellFits parts values x limits = Work parts × Work values × FitsCell limits x

abbrev pub EmitsCell : Emitter → Works → ℕ → Cell → End (Unit {0}) → Emitter → Type 0
EmitsCell e works owner x r e' = Shares (CellFits works.parts.now works.values.now x) e (cell_writer e owner x) r e'

-- one whose works come as slices
abbrev pub EmitsBlockRam : Emitter → List ℕ → List ℕ → ℕ → Cell → End (Unit {0}) → Emitter → Type 0
EmitsBlockRam e parts values owner x r e' = Shares (CellFits parts values x) e (cell_writer e owner x) r e'

-- one that takes no work
abbrev pub EmitsAlone : Emitter → ℕ → Cell → End (Unit {0}) → Emitter → Type 0
EmitsAlone e owner x r e' = Shares (λ limits. FitsCell limits x) e (cell_writer e owner x) r e'

-- one that takes none, whatever its number
abbrev pub EmitsKind : Emitter → Cell → End (Unit {0}) → Emitter → Type 0
EmitsKind e x r e' = (owner : ℕ) → EmitsAlone e owner x r e'

-- n cells that fit, from an index on
abbrev pub CellsFit : Works → List ℕ → ℕ → ℕ → Limits → Type 0
CellsFit works words at n limits = Work works.parts.now × Work works.values.now × Fitting (cell_at words) (cell_end words) (FitsCell limits) (length words) n at

abbrev pub EmitsCells : Emitter → Works → List ℕ → ℕ → ℕ → End (Unit {0}) → Emitter → Type 0
EmitsCells e works words at n r e' = Shares (CellsFit works words at n) e (emit_cells (length e.seen.now) (wires_in e.map) e.map.constants 0 (cells_at words at n)) r e'

-- with a table of their own for so many wires
pub record EmitsAll (r : Recorder) (works : Works) (m : WireMap) (words : List ℕ) (at n shared : ℕ) (e : End (Unit {0})) (r' : Recorder) : Type 0 where
  pub same : SameLists r r'
  pub so : shared ≤ 16384 → (limits : Limits) → CellsFit works words at n limits → Writes r (emit_cells shared (wires_in m) m.constants 0 (cells_at words at n)) e r'

-- A PORT
-- the work has the widest port's width

abbrev pub PortFits : List ℕ → Port → Limits → Type 0
PortFits parts x limits = (limits.width ≤ length parts) × FitsPort limits x

-- port number p, if it is an output: a step of emit_outputs
abbrev pub emit_output : Wires → ℕ → Port → Writer (Unit {0})
emit_output m p port = pick (eqb port.direction 1) (bits_expression m port.bits >>= λ e. state (assign p e)) (pure tt)

abbrev pub EmitsPort : Recorder → List ℕ → Wires → ℕ → Port → End (Unit {0}) → Recorder → Type 0
EmitsPort r parts m p x e r' = Emits (PortFits parts x) r (emit_output m p x) e r'

abbrev pub PortsFit : List ℕ → List ℕ → ℕ → ℕ → Limits → Type 0
PortsFit parts words at n limits = (limits.width ≤ length parts) × Fitting (port_at words) (port_end words) (FitsPort limits) (length words) n at

abbrev pub EmitsPorts : Recorder → List ℕ → Wires → List ℕ → ℕ → ℕ → End (Unit {0}) → Recorder → Type 0
EmitsPorts r parts m words at n e r' = Emits (PortsFit parts words at n) r (emit_outputs m 0 (ports_at words at n)) e r'
