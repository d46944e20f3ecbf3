-- What each small cell emits: a definition for each function of lib.rs, in its order of events.
use Rattle.std.specs.Prelude.{◌||◌, List, [], ◌∷◌, ◌++◌, ℕ, eqb, get_or, take, drop}
use Rattle.bits.specs.Bits.{pick}
use Rattle.netlist.specs.declared.Bit.{Bit}
use Rattle.netlist.specs.declared.Bit.TheVariants.{Wire}
use Rattle.netlist.specs.Netlist.{Ccu2c, Pll}
use Rattle.recorder.specs.Record.{Expr.mul}
use Rattle.recorder.specs.Writer.{Writer, pure, emit, ◌>>=◌, ◌>>◌}
use Rattle.optimize.specs.Rewrite.{xor_of, mux_of}
use Rattle.optimize.specs.Lut.{lut_cofactor}
use Rattle.wires.specs.Wires.{Wires}
use Rattle.wires.specs.Seen.{Seen, Reading, keeping}
use Rattle.wires.specs.Expressions.{bit_expression, bit_once, vector_once, read_bits, assign_wire}

-- Each cell begins with what it has read so far, and ends with what it has read then.

unfoldable pub emit_multiplier : Wires → Seen → List Bit → List Bit → List ℕ → Writer (Reading (Unit {0}))
emit_multiplier m seen lhs rhs product = do
  a ← vector_once m seen lhs 0 36
  b ← vector_once m a.seen rhs 0 36
  v ← emit (mul a.value b.value)
  keeping b.seen (assign_wire m (get_or product 0 0) v)

unfoldable pub emit_lut4 : Wires → Seen → List Bit → ℕ → ℕ → Writer (Reading (Unit {0}))
emit_lut4 m seen inputs output init = do
  es ← read_bits m seen inputs []
  v ← lut_cofactor es.value init
  keeping es.seen (assign_wire m output v)

unfoldable pub emit_pfumx : Wires → Seen → Bit → Bit → Bit → ℕ → Writer (Reading (Unit {0}))
emit_pfumx m seen high low select output = do
  s ← bit_once m seen select
  t ← bit_once m s.seen high
  f ← bit_once m t.seen low
  v ← mux_of s.value t.value f.value
  keeping f.seen (assign_wire m output v)

unfoldable pub emit_l6mux21 : Wires → Seen → Bit → Bit → Bit → ℕ → Writer (Reading (Unit {0}))
emit_l6mux21 m seen low high select output = do
  s ← bit_once m seen select
  f ← bit_once m s.seen low
  t ← bit_once m f.seen high
  v ← mux_of s.value t.value f.value
  keeping t.seen (assign_wire m output v)

unfoldable pub emit_io : Wires → Seen → ℕ → Bit → ℕ → Bit → Writer (Reading (Unit {0}))
emit_io m seen pad driven input tristate = do
  p ← bit_once m seen (Wire pad)
  d ← bit_once m p.seen driven
  t ← bit_once m d.seen tristate
  v ← mux_of t.value p.value d.value
  keeping t.seen (assign_wire m input v)

-- a row of a CCU2C: inputs, table, inject, the sum's wire, the carry; the next carry
unfoldable pub ccu_row : Wires → Seen → List Bit → ℕ → ℕ → ℕ → ℕ → Writer (Reading ℕ)
ccu_row m seen inputs init inject sum carry = do
  es ← read_bits m seen inputs []
  l ← lut_cofactor es.value init
  k ← lut_cofactor (get_or es.value 0 0 ∷ get_or es.value 1 0 ∷ 0 ∷ 0 ∷ []) init
  let g = pick (eqb inject 1) 0 carry
  s ← xor_of l g
  assign_wire m sum s
  keeping es.seen (mux_of l g k)

unfoldable pub emit_ccu2c : Wires → Seen → Ccu2c → Writer (Reading (Unit {0}))
emit_ccu2c m seen c = do
  c₀ ← bit_once m seen c.carry_in
  c₁ ← ccu_row m c₀.seen c.row0 c.init0 c.inject0 c.sum0 c₀.value
  c₂ ← ccu_row m c₁.seen c.row1 c.init1 c.inject1 c.sum1 c₁.value
  keeping c₂.seen (assign_wire m c.carry c₂.value)

-- A JTAGG reads nothing, and a PLL one bit: nothing is shared there.

unfoldable pub assign_all : Wires → List ℕ → ℕ → Writer (Unit {0})
assign_all m [] e = pure tt
assign_all m (w ∷ ws) e = do
  assign_wire m w e
  assign_all m ws e

-- the seventh wire, reset_n, comes last
unfoldable pub emit_idle_jtagg : Wires → List ℕ → Writer (Unit {0})
emit_idle_jtagg m ws = do
  assign_all m (take 6 ws ++ drop 7 ws) 0
  assign_wire m (get_or ws 6 0) 1

-- the further clocks of a PLL that are neither its feedback nor its output
unfoldable pub pll_clocks : Wires → ℕ → ℕ → List ℕ → ℕ → Writer (Unit {0})
pll_clocks m feedback output [] e = pure tt
pll_clocks m feedback output (w ∷ ws) e = do
  pick (eqb w feedback || eqb w output) (pure tt) (assign_wire m w e)
  pll_clocks m feedback output ws e

unfoldable pub emit_cycle_pll : Wires → Pll → Writer (Unit {0})
emit_cycle_pll m p = do
  e ← bit_expression m p.reference
  assign_wire m p.feedback e
  pick (eqb p.output p.feedback) (pure tt) (assign_wire m p.output e)
  pll_clocks m p.feedback p.output p.more e
  assign_wire m p.locked 1
