-- What the functions of collect.rt say: keys of banks, and the bank of each cell by number.
use Rattle.std.specs.Prelude.{◌≡◌, Bool, ◌&&◌, List, [], ℕ, zero, suc, ◌+◌, ◌*◌, ◌<◌, ◌≤◌, eqb, ltb, length, get_or}
use Rattle.std.specs.Prelude.{Option, None, Some}
use Rattle.bits.specs.Bits.{pick}
use Rattle.netlist.specs.declared.Limits.{Limits}
use Rattle.netlist.specs.declared.Bit.{Bit}
use Rattle.netlist.specs.declared.Bit.TheVariants.{Zero, One, Wire}
use Rattle.netlist.specs.declared.Reset.{Reset}
use Rattle.netlist.specs.Netlist.{FlipFlop, Cell}
use Rattle.netlist.specs.Fields.{end_at, word_at, bit_at, optional_control_at, optional_reset_at, cell_at, cell_end, cells_at}
use Rattle.netlist.specs.Shape.{FitsCell, FitsFlipFlop}
use Rattle.behaviour.specs.Banks.{Member, async_reset, flip_flop_of, also, bank_in, leaders_from, leaders_of}
use Rattle.converter.specs.Reserves.{Fitting}

-- a bit's word
abbrev pub word_of : Bit → ℕ
word_of Zero = 0
word_of One = 1
word_of (Wire w) = suc (suc w)

abbrev pub clock_key : FlipFlop → ℕ
clock_key f = word_of f.clock * 2 + f.edge

abbrev pub control_key : Option Reset → ℕ
control_key None = 0
control_key (Some r) = suc (word_of r.signal * 2 + r.active)

abbrev pub reset_key : FlipFlop → ℕ
reset_key f = control_key (async_reset f)

-- the flip-flop at an index
abbrev pub flop_at : List ℕ → ℕ → FlipFlop
flop_at words i = record {
  input = bit_at words (i + 1);
  output = word_at words (i + 2);
  clock = bit_at words (i + 3);
  edge = word_at words (i + 4);
  enable = optional_control_at words (i + 5);
  reset = optional_reset_at words (i + 8);
}

-- a word and a flag that fit
pub record KeyOf (word flag r : ℕ) : Type 0 where
  pub small : r < 2147483648
  pub is : word < 1073741824 → flag < 2 → r ≡ word * 2 + flag

pub record ResetKeyOf (words : List ℕ) (i r : ℕ) : Type 0 where
  pub is : (limits : Limits) → limits.wires < 1000000000 → FitsFlipFlop limits (flop_at words i) → r ≡ reset_key (flop_at words i)

abbrev pub key_is : List ℕ → List ℕ → ℕ → ℕ → ℕ → Bool
key_is parts values i a b = eqb (get_or parts i 0) a && eqb (get_or values i 0) b

-- the steps to the first of n numbers from i on that passes
unfoldable pub first_with : (ℕ → Bool) → ℕ → ℕ → ℕ
first_with p zero i = 0
first_with p (suc n) i = pick (p i) 0 (suc (first_with p n (suc i)))

-- to the first key that is a and b
abbrev pub find_key : List ℕ → List ℕ → ℕ → ℕ → ℕ → ℕ → ℕ
find_key parts values a b n i = first_with (λ j. key_is parts values j a b) n i

abbrev pub larger : ℕ → ℕ → ℕ
larger a b = pick (ltb a b) b a

-- the keys of the banks' first flip-flops are noted, and those fit
pub record Keyed (limits : Limits) (ls : List Member) (parts values : List ℕ) (count : ℕ) : Type 0 where
  pub long : count ≡ length ls
  pub clocks : (b : ℕ) (d : Member) → b < length ls → get_or parts b 0 ≡ clock_key (get_or ls b d).flop
  pub resets : (b : ℕ) (d : Member) → b < length ls → get_or values b 0 ≡ reset_key (get_or ls b d).flop
  pub fits : (b : ℕ) (d : Member) → b < length ls → FitsFlipFlop limits (get_or ls b d).flop

-- 0, or 1 and the bank's number
abbrev pub number_of : List Member → Option FlipFlop → ℕ
number_of ls None = 0
number_of ls (Some f) = suc (bank_in ls f)

abbrev pub number_in : List Member → Cell → ℕ
number_in ls x = number_of ls (flip_flop_of x)

-- the banks once cell c is there too
abbrev pub with_cell : List Member → ℕ → Cell → List Member
with_cell ls c x = leaders_from ls (also (flip_flop_of x) c [])

-- cell x finds its bank, or founds one
pub record JoinedBank (limits : Limits) (ls : List Member) (c : ℕ) (x : Cell) (count r : ℕ) (parts values : List ℕ) : Type 0 where
  pub number : r ≡ number_in (with_cell ls c x) x
  pub keyed : Keyed limits (with_cell ls c x) parts values (larger count r)

abbrev pub Joins : List ℕ → ℕ → List ℕ → List ℕ → ℕ → ℕ → List ℕ → List ℕ → Type 0
Joins words i parts values count r parts' values' = (limits : Limits) (ls : List Member) (c : ℕ) → limits.wires < 1000000000 → FitsCell limits (cell_at words i) → Keyed limits ls parts values count
    → count < length parts → count < length values → count < 4294967295 → JoinedBank limits ls c (cell_at words i) count r parts' values'

-- the bank of each of the n cells from an index on
pub record Collected (words : List ℕ) (i n count : ℕ) (banks : List ℕ) : Type 0 where
  pub long : count ≡ length (leaders_of (cells_at words i n))
  pub numbers : (k : ℕ) → k < n → get_or banks k 0 ≡ number_in (leaders_of (cells_at words i n)) (cell_at words (end_at (cell_end words) k i))

-- work for so many
pub record Work (n : ℕ) (banks parts values : List ℕ) : Type 0 where
  pub numbers : n ≤ length banks
  pub clocks : n ≤ length parts
  pub resets : n ≤ length values

abbrev pub Collects : List ℕ → ℕ → ℕ → List ℕ → List ℕ → List ℕ → ℕ → List ℕ → Type 0
Collects words i n banks parts values r banks' = (limits : Limits) → limits.wires < 1000000000 → Fitting (cell_at words) (cell_end words) (FitsCell limits) (length words) n i → Work n banks parts values → Collected words i n r banks'
