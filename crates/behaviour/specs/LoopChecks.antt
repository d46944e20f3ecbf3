-- Which netlists are without a loop, as an independent reference says.
use Rattle.std.specs.Prelude.{true, false, ◌≡◌, refl, List, [], ◌∷◌, map}
use Rattle.behaviour.specs.Banks.{collect_flip_flop_banks, banks_from, leaders_from, flip_flops_from, bank_in, members_of}
use Rattle.behaviour.specs.Checking.{LoopRow, loopless}

abbrev pub loop_rows : List LoopRow
loop_rows =
    -- a LUT4 that reads itself, though its table does not
    record {
      words =
          0 ∷ 2 ∷ 0 ∷ 0 ∷ 0 ∷ 0 ∷ 0 ∷
          0 ∷ 0 ∷ 0 ∷ 1 ∷ [];
      without = false;
    } ∷
    -- two LUT4 in a ring
    record {
      words =
          0 ∷ 3 ∷ 0 ∷ 0 ∷ 0 ∷ 0 ∷ 1 ∷
          0 ∷ 2 ∷ 0 ∷ 0 ∷ 0 ∷ 1 ∷ 1 ∷
          0 ∷ 0 ∷ 0 ∷ 2 ∷ [];
      without = false;
    } ∷
    -- the second row takes the first row's sum
    record {
      words =
          1 ∷ 3 ∷ 2 ∷ 3 ∷ 4 ∷
          3 ∷ 0 ∷ 0 ∷ 0 ∷ 0 ∷ 2 ∷ 0 ∷ 0 ∷ 0 ∷ 0 ∷ 0 ∷ 1 ∷ 2 ∷ 65535 ∷ 43690 ∷ 1 ∷ 1 ∷
          0 ∷ 1 ∷ 5 ∷ 1 ∷ [];
      without = false;
    } ∷
    -- through a flip-flop is no loop
    record {
      words =
          0 ∷ 1 ∷ 2 ∷
          1 ∷ 1 ∷ 3 ∷
          5 ∷ 4 ∷ 1 ∷ 2 ∷ 0 ∷ 0 ∷ 0 ∷ 0 ∷ 0 ∷ 0 ∷ 0 ∷ 0 ∷ 0 ∷
          0 ∷ 3 ∷ 0 ∷ 0 ∷ 0 ∷ 2 ∷ 1 ∷
          0 ∷ 2 ∷ 6 ∷ 2 ∷ [];
      without = true;
    } ∷
    -- through a block RAM is no loop
    record {
      words =
          0 ∷ 1 ∷ 2 ∷
          6 ∷ 1 ∷ 1 ∷ 1 ∷ 3 ∷ 0 ∷ 0 ∷ 0 ∷ 0 ∷ 0 ∷ 0 ∷ 0 ∷ 0 ∷ 0 ∷ 0 ∷ 0 ∷ 0 ∷ 0 ∷ 3 ∷ 1 ∷ 3 ∷ 0 ∷ 0 ∷ 0 ∷ 0 ∷ 0 ∷ 0 ∷ 0 ∷ 0 ∷ 0 ∷ 0 ∷ 0 ∷ 0 ∷ 0 ∷ 0 ∷ 0 ∷ 0 ∷ 0 ∷ 0 ∷ 0 ∷ 2 ∷ 0 ∷ 0 ∷ 3 ∷ 1 ∷
          0 ∷ 1 ∷ 3 ∷ 1 ∷ [];
      without = true;
    } ∷
    -- a distributed RAM's reads into its writes are no loop
    record {
      words =
          0 ∷ 1 ∷ 2 ∷
          7 ∷ 3 ∷ 4 ∷ 5 ∷ 6 ∷ 3 ∷ 4 ∷ 5 ∷ 6 ∷ 3 ∷ 1 ∷ 0 ∷ 0 ∷ 0 ∷ 0 ∷ 1 ∷ 2 ∷ 3 ∷ 4 ∷ 2 ∷ 0 ∷ 0 ∷
          0 ∷ 1 ∷ 3 ∷ 1 ∷ [];
      without = true;
    } ∷
    -- into its read address they are one
    record {
      words =
          0 ∷ 1 ∷ 2 ∷
          7 ∷ 0 ∷ 0 ∷ 0 ∷ 0 ∷ 0 ∷ 0 ∷ 0 ∷ 0 ∷ 0 ∷ 1 ∷ 3 ∷ 0 ∷ 0 ∷ 0 ∷ 1 ∷ 2 ∷ 3 ∷ 4 ∷ 2 ∷ 0 ∷ 0 ∷
          0 ∷ 1 ∷ 3 ∷ 1 ∷ [];
      without = false;
    } ∷
    -- an IO whose fabric_output is its own fabric_input
    record {
      words =
          0 ∷ 1 ∷ 2 ∷
          8 ∷ 0 ∷ 3 ∷ 1 ∷ 0 ∷
          0 ∷ 1 ∷ 3 ∷ 1 ∷ [];
      without = false;
    } ∷
    -- a PLL whose reference is its own locked
    record {
      words =
          10 ∷ 4 ∷ 0 ∷ 1 ∷ 2 ∷ 0 ∷
          0 ∷ 0 ∷ 0 ∷ 1 ∷ [];
      without = true;
    } ∷
    -- a PLL whose reference is its own feedback
    record {
      words =
          10 ∷ 2 ∷ 0 ∷ 1 ∷ 2 ∷ 0 ∷
          0 ∷ 0 ∷ 0 ∷ 1 ∷ [];
      without = false;
    } ∷
    -- PFUMX and L6MUX21 in a ring, by select
    record {
      words =
          0 ∷ 1 ∷ 2 ∷
          1 ∷ 2 ∷ 2 ∷ 4 ∷ 1 ∷
          2 ∷ 2 ∷ 2 ∷ 3 ∷ 2 ∷
          0 ∷ 1 ∷ 3 ∷ 2 ∷ [];
      without = false;
    } ∷
    -- a product into its own factor
    record {
      words =
          4 ∷ 2 ∷ 0 ∷ 0 ∷ 0 ∷ 0 ∷ 0 ∷ 0 ∷ 0 ∷ 0 ∷ 0 ∷ 0 ∷ 0 ∷ 0 ∷ 0 ∷ 0 ∷ 0 ∷ 0 ∷ 0 ∷ 1 ∷ 1 ∷ 1 ∷ 1 ∷ 1 ∷ 1 ∷ 1 ∷ 1 ∷ 1 ∷ 1 ∷ 1 ∷ 1 ∷ 1 ∷ 1 ∷ 1 ∷ 1 ∷ 1 ∷ 1 ∷ 0 ∷ 1 ∷ 2 ∷ 3 ∷ 4 ∷ 5 ∷ 6 ∷ 7 ∷ 8 ∷ 9 ∷ 10 ∷ 11 ∷ 12 ∷ 13 ∷ 14 ∷ 15 ∷ 16 ∷ 17 ∷ 18 ∷ 19 ∷ 20 ∷ 21 ∷ 22 ∷ 23 ∷ 24 ∷ 25 ∷ 26 ∷ 27 ∷ 28 ∷ 29 ∷ 30 ∷ 31 ∷ 32 ∷ 33 ∷ 34 ∷ 35 ∷
          0 ∷ 0 ∷ 0 ∷ 1 ∷ [];
      without = false;
    } ∷
    []

pub loops_hold : map loopless loop_rows ≡ map (λ (r : LoopRow). r.without) loop_rows
unfolding collect_flip_flop_banks banks_from leaders_from flip_flops_from bank_in members_of
loops_hold = refl
