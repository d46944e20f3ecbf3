-- Reading wires: a definition for each function of lib.rs that reads through the wire map.
use Rattle.std.specs.Prelude.{Bool, ◌&&◌, List, [], ◌∷◌, ◌++◌, ◌≡◌, ℕ, zero, suc, ◌+◌, eqb, leb, length, get_or}
use Rattle.std.specs.Prelude.{Option, None, Some}
use Rattle.bits.specs.Bits.{pick}
use Rattle.std.specs.Prelude.{Result}
use Rattle.refusal.specs.declared.Refusal.{Refusal}
use Rattle.recorder.specs.Calls.{ended}
use Rattle.netlist.specs.declared.Bit.{Bit}
use Rattle.netlist.specs.declared.Bit.TheVariants.{Zero, One, Wire}
use Rattle.netlist.specs.declared.Control.{Control}
use Rattle.recorder.specs.Record.{Expr.read, Expr.concat, Expr.not as complement, Stmt.assign}
use Rattle.recorder.specs.Writer.{Count, End, End.ok, End.no, Writer, pure, refuse, emit, state, ◌>>=◌}
use Rattle.wires.specs.declared.Constants.{Constants}
use Rattle.wires.specs.declared.WireRef as code
use Rattle.wires.specs.Wires.{WireRef, Wires, ref_in}
use Rattle.wires.specs.Seen.{Seen, standing, noted, Reading, with_seen, keeping, forgetting}

abbrev pub ref_of : Option WireRef → ℕ → Writer WireRef
ref_of None w = refuse 8 w
ref_of (Some r) w = pure r

unfoldable pub wire_ref : Wires → ℕ → Writer WireRef
wire_ref m w = ref_of (m w) w

abbrev pub read_ref : WireRef → Writer ℕ
read_ref r = emit (read 1 r.signal r.lsb)

-- the expression of a bit; 0 and 1 are those of the constants
unfoldable pub bit_expression : Wires → Bit → Writer ℕ
bit_expression m Zero = pure 0
bit_expression m One = pure 1
bit_expression m (Wire w) = do
  r ← wire_ref m w
  read_ref r

abbrev pub whole : WireRef → Bool
whole r = eqb r.lsb 0 && eqb r.width 1

-- the signal of a control, which must be a whole signal of one bit
unfoldable pub bit_signal : Wires → Constants → Bit → Writer ℕ
bit_signal m z Zero = pure z.zero.0
bit_signal m z One = pure z.one.0
bit_signal m z (Wire w) = do
  r ← wire_ref m w
  pick (whole r) (pure r.signal) (refuse 9 w)

-- a control that is asserted when it is low has a not
abbrev pub levelled : ℕ → ℕ → Writer ℕ
levelled active e = pick (eqb active 1) (pure e) (emit (complement e))

unfoldable pub asserted_expression : Wires → Control → Writer ℕ
asserted_expression m c = do
  e ← bit_expression m c.signal
  levelled c.active e

-- ---- in a cell, where a wire is read one time

-- the read that stands; or a new one, which stands from then on
abbrev pub read_once : Option ℕ → Wires → Seen → ℕ → Writer (Reading ℕ)
read_once (Some e) m seen w = pure (with_seen e seen)
read_once None m seen w = bit_expression m (Wire w) >>= λ e. pure (with_seen e (noted seen w e))

unfoldable pub bit_once : Wires → Seen → Bit → Writer (Reading ℕ)
bit_once m seen Zero = pure (with_seen 0 seen)
bit_once m seen One = pure (with_seen 1 seen)
bit_once m seen (Wire w) = read_once (standing seen w) m seen w

unfoldable pub asserted_once : Wires → Seen → Control → Writer (Reading ℕ)
asserted_once m seen c = do
  r ← bit_once m seen c.signal
  keeping r.seen (levelled c.active r.value)

-- the bits in order, the lowest first, after those in `done`
unfoldable pub read_bits : Wires → Seen → List Bit → List ℕ → Writer (Reading (List ℕ))
read_bits m seen [] done = pure (with_seen done seen)
read_bits m seen (b ∷ bs) done = do
  r ← bit_once m seen b
  read_bits m r.seen bs (done ++ (r.value ∷ []))

-- ---- vectors

-- one part stands for itself
unfoldable pub concat_parts : List ℕ → Writer ℕ
concat_parts [] = emit (concat 0 [])
concat_parts (e ∷ []) = pure e
concat_parts (e ∷ f ∷ es) = emit (concat (length (e ∷ f ∷ es)) (e ∷ f ∷ es))

-- past the end stand zeros
abbrev pub vector_bit : List Bit → ℕ → Bit
vector_bit bits i = get_or bits i Zero

-- the k bits from place `at` on that are still to read, the highest first, after those in `parts`
unfoldable pub vector_parts : Wires → Seen → List Bit → ℕ → ℕ → List ℕ → Writer (Reading (List ℕ))
vector_parts m seen bits at zero parts = pure (with_seen parts seen)
vector_parts m seen bits at (suc k) parts = do
  r ← bit_once m seen (vector_bit bits (at + k))
  vector_parts m r.seen bits at k (parts ++ (r.value ∷ []))

-- k bits from place `at` on
unfoldable pub vector_once : Wires → Seen → List Bit → ℕ → ℕ → Writer (Reading ℕ)
vector_once m seen bits at k = do
  r ← vector_parts m seen bits at k []
  keeping r.seen (concat_parts r.value)

abbrev pub bits_once : Wires → Seen → List Bit → Writer (Reading ℕ)
bits_once m seen bits = vector_once m seen bits 0 (length bits)

-- the same outside of cells: each bit is read anew
unfoldable pub vector_expression : Wires → List Bit → ℕ → ℕ → Writer ℕ
vector_expression m bits at k = forgetting (vector_once m [] bits at k)

abbrev pub bits_expression : Wires → List Bit → Writer ℕ
bits_expression m bits = vector_expression m bits 0 (length bits)

-- the whole signal of a wire is assigned e
unfoldable pub assign_wire : Wires → ℕ → ℕ → Writer (Unit {0})
assign_wire m w e = do
  r ← wire_ref m w
  state (assign r.signal e)

-- ---- lent work

-- a work of too few words is 1
unfoldable pub roomy : {A : Type 0} → ℕ → List ℕ → Writer A → Writer A
roomy n work w = pick (leb n (length work)) w (refuse 1 n)

-- ---- a call that adds no record: its end says all

pub record Reads {A : Type 0} (w : Writer A) (r : End A) : Type 0 where
  pub reads : (n : Count) → w n ≡ record { events = []; end = r }

abbrev pub referred : Result code.WireRef Refusal → End WireRef
referred r = ended ref_in r
