-- A cell records no read twice. Sharing goes by wire; in a netlist's map that is the same as by signal, lowest bit and width.
use Rattle.std.specs.Prelude.{◌≡◌, ◌⊎◌, List, [], ◌∷◌, ◌≤◌, ℕ, zero, suc, ◌+◌, eqb, length}
use mathlib.Core.List.{Memᴰ as Mem}
use Rattle.std.specs.Prelude.{Option, None, Some}
use Rattle.bits.specs.Bits.{pick}
use Rattle.netlist.specs.declared.Bit.{Bit}
use Rattle.netlist.specs.declared.Bit.TheVariants.{Zero, One, Wire}
use Rattle.netlist.specs.declared.Control.{Control}
use Rattle.netlist.specs.declared.Reset.{Reset}
use Rattle.netlist.specs.declared.Limits.{Limits}
use Rattle.netlist.specs.Netlist.{Netlist, Cell, FlipFlop}
use Rattle.netlist.specs.Shape.{Fits}
use Rattle.recorder.specs.Record.{Expr, Expr.const, Expr.read, Expr.concat, Expr.not, Expr.and, Expr.or, Expr.xor, Expr.mux, Expr.eq, Expr.mul, Stmt, Stmt.assign, Stmt.reg}
use Rattle.recorder.specs.Writer.{Count, End.ok, Writer, exprs_of, stmts_of}
use Rattle.recorder.specs.Meaning.{Ends}
use Rattle.recorder.specs.Outcome.{none_yet}
use Rattle.behaviour.specs.WireMap.{slots}
use Rattle.wires.specs.declared.Constants.{Constants}
use Rattle.wires.specs.Wires.{WireRef, Wires}
use Rattle.wires.specs.Expressions.{vector_bit, bits_expression}
use Rattle.lowering.specs.Emit.{next_bit, emit_cell}
use Rattle.lowering.specs.Lower.{reserve_netlist}

-- what a read record says
pub record Read : Type 0 where
  pub width : ℕ
  pub signal : ℕ
  pub lowest : ℕ

-- the reads among records
abbrev pub reads_in : List Expr → List Read
reads_in [] = []
reads_in (const w v ∷ xs) = reads_in xs
reads_in (read w s l ∷ xs) = record { width = w; signal = s; lowest = l } ∷ reads_in xs
reads_in (concat w ps ∷ xs) = reads_in xs
reads_in (not a ∷ xs) = reads_in xs
reads_in (and a b ∷ xs) = reads_in xs
reads_in (or a b ∷ xs) = reads_in xs
reads_in (xor a b ∷ xs) = reads_in xs
reads_in (mux w s t f ∷ xs) = reads_in xs
reads_in (eq a b ∷ xs) = reads_in xs
reads_in (mul a b ∷ xs) = reads_in xs

-- no two are equal
abbrev pub NoTwo : List Read → Type 0
NoTwo [] = Unit {0}
NoTwo (x ∷ xs) = (Mem x xs → ⊥) × NoTwo xs

-- in the map of a netlist each wire has a place of its own
abbrev pub WiresApart : Type 0
WiresApart = (n : Netlist) (m : Wires) → (reserve_netlist n none_yet).end ≡ ok m → (v w : ℕ) (q r : WireRef) → m v ≡ Some q → m w ≡ Some r → q.signal ≡ r.signal → q.lsb ≡ r.lsb → v ≡ w

-- a cell of a netlist, emitted once the signals of all slots are declared, records no read twice
abbrev pub ReadOnceEach : Type 0
ReadOnceEach =
    (limits : Limits) (n : Netlist) → Fits limits n → (m : Wires) → (reserve_netlist n none_yet).end ≡ ok m
    → (shared : ℕ) → limits.wires ≤ shared → (z : Constants) (owner : ℕ) (x : Cell) → Mem x n.cells
    → (count : Count) → length (slots n) ≤ count.signals → NoTwo (reads_in (exprs_of (emit_cell shared m z owner x count).events))

-- NOTHING FROM OTHERS: a cell's records work on the constants and on its own records alone, so a read is shared within one cell

-- the expressions that a record works on
abbrev pub operands : Expr → List ℕ
operands (const w v) = []
operands (read w s l) = []
operands (concat w ps) = ps
operands (not a) = a ∷ []
operands (and a b) = a ∷ b ∷ []
operands (or a b) = a ∷ b ∷ []
operands (xor a b) = a ∷ b ∷ []
operands (mux w s t f) = s ∷ t ∷ f ∷ []
operands (eq a b) = a ∷ b ∷ []
operands (mul a b) = a ∷ b ∷ []

-- the constants are expressions 0 and 1; the cell's first expression has number `first`
abbrev pub OfTheCell : ℕ → ℕ → Type 0
OfTheCell first e = (e ≤ 1) ⊎ (first ≤ e)

abbrev pub AllOf : ℕ → List ℕ → Type 0
AllOf first [] = Unit {0}
AllOf first (e ∷ es) = OfTheCell first e × AllOf first es

abbrev pub WorkOn : ℕ → List Expr → Type 0
WorkOn first [] = Unit {0}
WorkOn first (x ∷ xs) = AllOf first (operands x) × WorkOn first xs

-- and those that a statement takes
abbrev pub values : Stmt → List ℕ
values (assign s e) = e ∷ []
values (reg s n c d None x) = n ∷ []
values (reg s n c d (Some r) x) = n ∷ r.value ∷ []

abbrev pub Take : ℕ → List Stmt → Type 0
Take first [] = Unit {0}
Take first (t ∷ ts) = AllOf first (values t) × Take first ts

abbrev pub NothingFromOthers : Type 0
NothingFromOthers =
    (shared : ℕ) (m : Wires) (z : Constants) (owner : ℕ) (x : Cell) (count : Count)
    → let events = (emit_cell shared m z owner x count).events in WorkOn count.exprs (exprs_of events) × Take count.exprs (stmts_of events)

-- BANKS AND PORTS share nothing: a bank's flip-flop and an output port record a read for each wire that they name

abbrev pub bit_reads : Bit → ℕ
bit_reads Zero = 0
bit_reads One = 0
bit_reads (Wire w) = 1

abbrev pub enable_reads : Option Control → ℕ
enable_reads None = 0
-- the bit that is held, and the control's
enable_reads (Some c) = 1 + bit_reads c.signal

abbrev pub reset_reads : Option Reset → ℕ
reset_reads None = 0
reset_reads (Some r) = pick (eqb r.asynchronous 1) 0 (bit_reads r.signal)

abbrev pub flop_reads : FlipFlop → ℕ
flop_reads f = bit_reads f.input + (enable_reads f.enable + reset_reads f.reset)

-- of k bits from place `at` on
abbrev pub vector_reads : List Bit → ℕ → ℕ → ℕ
vector_reads bits at zero = 0
vector_reads bits at (suc k) = bit_reads (vector_bit bits (at + k)) + vector_reads bits at k

-- unless it is refused, a writer records so many reads
abbrev pub Records : {A : Type 0} → Writer A → ℕ → Type 0
Records w k = (count : Count) → Ends (w count).end (λ a. length (reads_in (exprs_of (w count).events)) ≡ k)

abbrev pub BanksReadAnew : Type 0
BanksReadAnew = (m : Wires) (f : FlipFlop) → Records (next_bit m f) (flop_reads f)

abbrev pub PortsReadAnew : Type 0
PortsReadAnew = (m : Wires) (bits : List Bit) → Records (bits_expression m bits) (vector_reads bits 0 (length bits))
