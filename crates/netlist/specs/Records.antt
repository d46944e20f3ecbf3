-- A cell of what a reader of records hands over, and of the vectors that the words have.
use Rattle.std.specs.Prelude.{List, ℕ, ◌+◌}
use Rattle.netlist.specs.declared.records.Pfumx.{Pfumx}
use Rattle.netlist.specs.declared.records.L6mux21.{L6mux21}
use Rattle.netlist.specs.declared.records.Ccu2c as code_ccu2c
use Rattle.netlist.specs.declared.records.Io.{Io}
use Rattle.netlist.specs.Netlist.{Cell, pfumx, l6mux21, ccu2c, io}
use Rattle.netlist.specs.Fields.{bits_at}

abbrev pub pfumx_of : Pfumx → Cell
pfumx_of r = pfumx r.lut_true r.lut_false r.select r.output

abbrev pub l6mux21_of : L6mux21 → Cell
l6mux21_of r = l6mux21 r.data_zero r.data_one r.select r.output

abbrev pub io_of : Io → Cell
io_of r = io r.pad r.fabric_output r.fabric_input r.tristate

module _ (words : List ℕ) (i : ℕ) where
  abbrev pub ccu2c_with : code_ccu2c.Ccu2c → Cell
  ccu2c_with r = ccu2c (record {
    row0 = bits_at words (i + 1) 4;
    row1 = bits_at words (i + 5) 4;
    carry_in = r.carry_in;
    sum0 = r.sum0;
    sum1 = r.sum1;
    carry = r.carry;
    init0 = r.init0;
    init1 = r.init1;
    inject0 = r.inject0;
    inject1 = r.inject1;
  })
