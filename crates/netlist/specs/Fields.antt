-- What the words say, read without a check: the fields of the record that begins at an index. Past the last word all is 0.
use Rattle.std.specs.Prelude.{List, [], ◌∷◌, ℕ, zero, suc, ◌+◌, ◌-◌, length, get_or}
use Rattle.std.specs.Prelude.{Option, None, Some}
use Rattle.netlist.specs.declared.Bit.{Bit}
use Rattle.netlist.specs.declared.Layout.{Layout}
use Rattle.netlist.specs.declared.Kind.{Kind}
use Rattle.netlist.specs.declared.Kind.TheVariants as K
use Rattle.netlist.specs.Kinds.{kind_of}
use Rattle.netlist.specs.Netlist.{bit_of, Control, Reset, SecondPort, BlockRam, Cell, Port, Netlist}
use Rattle.netlist.specs.Netlist.{lut4, pfumx, l6mux21, ccu2c, multiplier, flip_flop, block_ram, distributed_ram, io, jtagg, pll}

-- so many records from an index on, each beginning where the one before ends; and where the last one ends
unfoldable pub records_at : {A : Type 0} → (ℕ → A) → (ℕ → ℕ) → ℕ → ℕ → List A
records_at value next zero i = []
records_at value next (suc n) i = value i ∷ records_at value next n (next i)

unfoldable pub end_at : (ℕ → ℕ) → ℕ → ℕ → ℕ
end_at next zero i = i
end_at next (suc n) i = end_at next n (next i)

abbrev pub after : ℕ → ℕ
after i = i + 1

-- a flag says whether the field is there
abbrev pub when_set : {A : Type 0} → ℕ → A → Option A
when_set zero a = None
when_set (suc n) a = Some a

-- `second` if the flag is set
abbrev pub size_if : ℕ → ℕ → ℕ
size_if zero second = 0
size_if (suc n) second = second

module _ (words : List ℕ) where
  abbrev pub word_at : ℕ → ℕ
  word_at i = get_or words i 0

  abbrev pub bit_at : ℕ → Bit
  bit_at i = bit_of (word_at i)

  -- n bits, n wires
  abbrev pub bits_at : ℕ → ℕ → List Bit
  bits_at i n = records_at bit_at after n i

  abbrev pub wires_at : ℕ → ℕ → List ℕ
  wires_at i n = records_at word_at after n i

  abbrev pub control_at : ℕ → Control
  control_at i = record { signal = bit_at i; active = word_at (i + 1) }

  abbrev pub optional_control_at : ℕ → Option Control
  optional_control_at i = when_set (word_at i) (control_at (i + 1))

  abbrev pub reset_at : ℕ → Reset
  reset_at i = record { signal = bit_at i; active = word_at (i + 1); asynchronous = word_at (i + 2); value = word_at (i + 3) }

  abbrev pub optional_reset_at : ℕ → Option Reset
  optional_reset_at i = when_set (word_at i) (reset_at (i + 1))

  -- A CELL: index i has its kind

  abbrev pub lut4_at : ℕ → Cell
  lut4_at i = lut4 (bits_at (i + 1) 4) (word_at (i + 5)) (word_at (i + 6))

  abbrev pub pfumx_at : ℕ → Cell
  pfumx_at i = pfumx (bit_at (i + 1)) (bit_at (i + 2)) (bit_at (i + 3)) (word_at (i + 4))

  abbrev pub l6mux21_at : ℕ → Cell
  l6mux21_at i = l6mux21 (bit_at (i + 1)) (bit_at (i + 2)) (bit_at (i + 3)) (word_at (i + 4))

  abbrev pub ccu2c_at : ℕ → Cell
  ccu2c_at i = ccu2c (record {
    row0 = bits_at (i + 1) 4;
    row1 = bits_at (i + 5) 4;
    carry_in = bit_at (i + 9);
    sum0 = word_at (i + 10);
    sum1 = word_at (i + 11);
    carry = word_at (i + 12);
    init0 = word_at (i + 13);
    init1 = word_at (i + 14);
    inject0 = word_at (i + 15);
    inject1 = word_at (i + 16);
  })

  abbrev pub multiplier_at : ℕ → Cell
  multiplier_at i = multiplier (bits_at (i + 1) 18) (bits_at (i + 19) 18) (wires_at (i + 37) 36)

  abbrev pub flip_flop_at : ℕ → Cell
  flip_flop_at i = flip_flop (record {
    input = bit_at (i + 1);
    output = word_at (i + 2);
    clock = bit_at (i + 3);
    edge = word_at (i + 4);
    enable = optional_control_at (i + 5);
    reset = optional_reset_at (i + 8);
  })

  -- the words of a block RAM's first port, and of its second
  abbrev pub first_size : ℕ → ℕ
  first_size width = 43 + width + width

  abbrev pub second_size : ℕ → ℕ
  second_size width = 24 + width + width

  -- the second port, which begins at index s
  abbrev pub second_port_at : ℕ → ℕ → SecondPort
  second_port_at s width = record {
    address = bits_at s 14;
    write = control_at (s + 14);
    read_enable = optional_control_at (s + 16);
    clock_enable = optional_control_at (s + 19);
    clock = bit_at (s + 22);
    edge = word_at (s + 23);
    input = bits_at (s + 24) width;
    output = wires_at (s + (24 + width)) width;
  }

  abbrev pub ram_at : ℕ → BlockRam
  ram_at i =
      let width = word_at (i + 2) in
      record {
        depth = word_at (i + 1);
        width = width;
        physical = word_at (i + 3);
        write_address = bits_at (i + 4) 14;
        write = control_at (i + 18);
        read_address = bits_at (i + 20) 14;
        read_enable = optional_control_at (i + 34);
        clock_enable = optional_control_at (i + 37);
        clock = bit_at (i + 40);
        edge = word_at (i + 41);
        second = when_set (word_at (i + 42)) (second_port_at (i + first_size width) width);
        input = bits_at (i + 43) width;
        output = wires_at (i + (43 + width)) width;
      }

  abbrev pub block_ram_at : ℕ → Cell
  block_ram_at i = block_ram (ram_at i)

  abbrev pub distributed_ram_at : ℕ → Cell
  distributed_ram_at i = distributed_ram (record {
    write_address = bits_at (i + 1) 4;
    input = bits_at (i + 5) 4;
    write = control_at (i + 9);
    read_address = bits_at (i + 11) 4;
    output = wires_at (i + 15) 4;
    clock = bit_at (i + 19);
    edge = word_at (i + 20);
    second = word_at (i + 21);
  })

  abbrev pub io_at : ℕ → Cell
  io_at i = io (word_at (i + 1)) (bit_at (i + 2)) (word_at (i + 3)) (bit_at (i + 4))

  abbrev pub jtagg_at : ℕ → Cell
  jtagg_at i = jtagg (wires_at (i + 1) 9)

  abbrev pub pll_at : ℕ → Cell
  pll_at i = pll (record {
    reference = bit_at (i + 1);
    feedback = word_at (i + 2);
    output = word_at (i + 3);
    locked = word_at (i + 4);
    more = wires_at (i + 6) (word_at (i + 5));
  })

  abbrev pub kind_at : ℕ → Kind
  kind_at i = kind_of (word_at i)

  -- a cell of each kind
  abbrev pub cell_as : Kind → ℕ → Cell
  cell_as K.Lut4 i = lut4_at i
  cell_as K.Pfumx i = pfumx_at i
  cell_as K.L6mux21 i = l6mux21_at i
  cell_as K.Ccu2c i = ccu2c_at i
  cell_as K.Multiplier i = multiplier_at i
  cell_as K.FlipFlop i = flip_flop_at i
  cell_as K.BlockRam i = block_ram_at i
  cell_as K.DistributedRam i = distributed_ram_at i
  cell_as K.Io i = io_at i
  cell_as K.Jtagg i = jtagg_at i
  cell_as K.Pll i = pll_at i

  unfoldable pub cell_at : ℕ → Cell
  cell_at i = cell_as (kind_at i) i

  abbrev pub block_ram_size : ℕ → ℕ
  block_ram_size i = let width = word_at (i + 2) in first_size width + size_if (word_at (i + 42)) (second_size width)

  -- how many words each kind has
  abbrev pub size_as : Kind → ℕ → ℕ
  size_as K.Lut4 i = 7
  size_as K.Pfumx i = 5
  size_as K.L6mux21 i = 5
  size_as K.Ccu2c i = 17
  size_as K.Multiplier i = 73
  size_as K.FlipFlop i = 13
  size_as K.BlockRam i = block_ram_size i
  size_as K.DistributedRam i = 22
  size_as K.Io i = 5
  size_as K.Jtagg i = 10
  size_as K.Pll i = 6 + word_at (i + 5)

  unfoldable pub cell_size : ℕ → ℕ
  cell_size i = size_as (kind_at i) i

  abbrev pub cell_end : ℕ → ℕ
  cell_end i = i + cell_size i

  abbrev pub cells_at : ℕ → ℕ → List Cell
  cells_at i n = records_at cell_at cell_end n i

  -- A PORT

  unfoldable pub port_at : ℕ → Port
  port_at i = record { direction = word_at i; bits = bits_at (i + 2) (word_at (i + 1)) }

  unfoldable pub port_size : ℕ → ℕ
  port_size i = 2 + word_at (i + 1)

  abbrev pub port_end : ℕ → ℕ
  port_end i = i + port_size i

  abbrev pub ports_at : ℕ → ℕ → List Port
  ports_at i n = records_at port_at port_end n i

  -- THE WHOLE, by the trailer

  unfoldable pub layout_of : Layout
  layout_of =
      let end = length words - 4 in
      record { ports = word_at (end + 1); start = word_at (end + 2); cells = word_at (end + 3); end = end }

  unfoldable pub netlist_at : Netlist
  netlist_at = record { ports = ports_at 0 layout_of.ports; cells = cells_at layout_of.start layout_of.cells }
