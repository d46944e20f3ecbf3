-- The banks of flip-flops: those of one clock, edge and asynchronous reset control, in the order of their first flip-flops.
-- A flip-flop's bank is found by scanning the banks' first flip-flops.
use Rattle.std.specs.Prelude.{Bool, true, false, ◌&&◌, List, [], ◌∷◌, ◌++◌, map, ℕ, suc, eqb, ltb, length}
use Rattle.std.specs.Prelude.{Option, None, Some}
use Rattle.bits.specs.Bits.{pick}
use Rattle.netlist.specs.declared.Reset.{Reset}
use Rattle.netlist.specs.Netlist.{FlipFlop, Cell, lut4, pfumx, l6mux21, ccu2c, multiplier, flip_flop, block_ram, distributed_ram, io, jtagg, pll}
use Rattle.netlist.specs.Reader.{same_bit}

-- a flip-flop and the number of its cell
pub record Member : Type 0 where
  pub cell : ℕ
  pub flop : FlipFlop

pub record Bank : Type 0 where
  -- its first flip-flop, whose clock, edge and asynchronous reset control are those of all
  pub leader : Member
  -- all its flip-flops in cell order: bit i of the bank's signal is the i-th
  pub members : List Member

abbrev pub filter_async : Option Reset → Option Reset
filter_async None = None
filter_async (Some r) = pick (eqb r.asynchronous 1) (Some r) None

-- the asynchronous reset of a flip-flop
abbrev pub async_reset : FlipFlop → Option Reset
async_reset f = filter_async f.reset

-- the value that a reset loads does not count
abbrev pub same_reset_control : Option Reset → Option Reset → Bool
same_reset_control None None = true
same_reset_control None (Some r) = false
same_reset_control (Some q) None = false
same_reset_control (Some q) (Some r) = same_bit q.signal r.signal && (eqb q.active r.active && eqb q.asynchronous r.asynchronous)

abbrev pub same_bank : FlipFlop → FlipFlop → Bool
same_bank l f = same_bit l.clock f.clock && (eqb l.edge f.edge && same_reset_control (async_reset l) (async_reset f))

abbrev pub flip_flop_of : Cell → Option FlipFlop
flip_flop_of (lut4 is o t) = None
flip_flop_of (pfumx a b s o) = None
flip_flop_of (l6mux21 a b s o) = None
flip_flop_of (ccu2c u) = None
flip_flop_of (multiplier a b o) = None
flip_flop_of (flip_flop f) = Some f
flip_flop_of (block_ram r) = None
flip_flop_of (distributed_ram r) = None
flip_flop_of (io p a o t) = None
flip_flop_of (jtagg o) = None
flip_flop_of (pll p) = None

abbrev pub also : Option FlipFlop → ℕ → List Member → List Member
also None c ms = ms
also (Some f) c ms = record { cell = c; flop = f } ∷ ms

-- the flip-flops among the cells, which are numbered from c on
unfoldable pub flip_flops_from : List Cell → ℕ → List Member
flip_flops_from [] c = []
flip_flops_from (x ∷ cells) c = also (flip_flop_of x) c (flip_flops_from cells (suc c))

-- the bank that a flip-flop finds among the banks' first flip-flops; their number if it finds none
unfoldable pub bank_in : List Member → FlipFlop → ℕ
bank_in [] f = 0
bank_in (l ∷ ls) f = pick (same_bank l.flop f) 0 (suc (bank_in ls f))

-- the first flip-flops of the banks, with m if it founds one
abbrev pub joined : List Member → Member → List Member
joined ls m = pick (ltb (bank_in ls m.flop) (length ls)) ls (ls ++ (m ∷ []))

unfoldable pub leaders_from : List Member → List Member → List Member
leaders_from ls [] = ls
leaders_from ls (m ∷ ms) = leaders_from (joined ls m) ms

abbrev pub kept : Bool → Member → List Member → List Member
kept true m ms = m ∷ ms
kept false m ms = ms

-- those that are in bank b, in order
unfoldable pub members_of : List Member → ℕ → List Member → List Member
members_of ls b [] = []
members_of ls b (m ∷ ms) = kept (eqb (bank_in ls m.flop) b) m (members_of ls b ms)

-- the banks from number b on, whose first flip-flops are the last list
unfoldable pub banks_from : List Member → List Member → ℕ → List Member → List Bank
banks_from ls ms b [] = []
banks_from ls ms b (l ∷ more) = record { leader = l; members = members_of ls b ms } ∷ banks_from ls ms (suc b) more

abbrev pub flip_flops_of : List Cell → List Member
flip_flops_of cells = flip_flops_from cells 0

abbrev pub leaders_of : List Cell → List Member
leaders_of cells = leaders_from [] (flip_flops_of cells)

unfoldable pub collect_flip_flop_banks : List Cell → List Bank
collect_flip_flop_banks cells = banks_from (leaders_of cells) (flip_flops_of cells) 0 (leaders_of cells)

abbrev pub cells_of : List Member → List ℕ
cells_of ms = map (λ (m : Member). m.cell) ms

abbrev pub outputs_of : List Member → List ℕ
outputs_of ms = map (λ (m : Member). m.flop.output) ms
