-- How the functions of the cells answer.
use Rattle.std.specs.Prelude.{List, [], ◌∷◌, ℕ, ◌+◌, get_or}
use Rattle.netlist.specs.declared.Bit.{Bit}
use Rattle.netlist.specs.Netlist.{Ccu2c, Pll}
use Rattle.netlist.specs.Fields.{word_at, bit_at, wires_at}
use Rattle.std.specs.Prelude.{Result, Ok, Err}
use Rattle.refusal.specs.Refusal.{number_of, place_of}
use Rattle.refusal.specs.declared.Refusal.{Refusal}
use Rattle.recorder.specs.declared.ExprId.{ExprId}
use Rattle.recorder.specs.Writer.{End, End.ok, End.no}
use Rattle.optimize.specs.Lut.{numbers}

-- four inputs read, as a value
abbrev pub read_of : Result (List ExprId) Refusal → End (List ℕ)
read_of (Ok ids) = ok (numbers ids)
read_of (Err x) = no (number_of x) (place_of x)

-- THE FIELDS OF A CELL, as a function is handed them

-- two rows of four inputs, the carry, and two of each other field
abbrev pub ccu_of : List (List Bit) → Bit → List ℕ → ℕ → List ℕ → List ℕ → Ccu2c
ccu_of inputs carry_in sums carry init inject = record {
  row0 = get_or inputs 0 [];
  row1 = get_or inputs 1 [];
  carry_in = carry_in;
  sum0 = get_or sums 0 0;
  sum1 = get_or sums 1 0;
  carry = carry;
  init0 = get_or init 0 0;
  init1 = get_or init 1 0;
  inject0 = get_or inject 0 0;
  inject1 = get_or inject 1 0;
}

-- the PLL at an index
abbrev pub pll_of : List ℕ → ℕ → Pll
pll_of words i = record {
  reference = bit_at words (i + 1);
  feedback = word_at words (i + 2);
  output = word_at words (i + 3);
  locked = word_at words (i + 4);
  more = wires_at words (i + 6) (word_at words (i + 5));
}
