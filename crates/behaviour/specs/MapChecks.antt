-- The wire map of example netlists, as the listings of the Rust over a recorder show it.
use Rattle.std.specs.Prelude.{Some}
use Rattle.std.specs.Prelude.{◌≡◌, refl, List, [], ◌∷◌, map}
use Rattle.behaviour.specs.Banks.{collect_flip_flop_banks, banks_from, leaders_from, flip_flops_from, bank_in, members_of}
use Rattle.behaviour.specs.Checking.{MapRow, map_of}
use Rattle.behaviour.specs.Netlists.{and2, ccu_add, banks_row, ff_swap, ff_divider, ram_both_write, dram_rows, jtagg_row, pll_row, pll_shared, constants_shown}

abbrev pub map_rows : List MapRow
map_rows =
    record { words = and2; wires = 2 ∷ []; entries = record { signals = 5; of = (Some (2, 0, 1)) ∷ [] } } ∷
    record { words = ccu_add; wires = 9 ∷ 10 ∷ 11 ∷ []; entries = record { signals = 7; of = (Some (2, 0, 1)) ∷ (Some (3, 0, 1)) ∷ (Some (4, 0, 1)) ∷ [] } } ∷
    record { words = banks_row; wires = 3 ∷ 4 ∷ 5 ∷ 6 ∷ []; entries = record { signals = 9; of = (Some (4, 0, 2)) ∷ (Some (5, 0, 1)) ∷ (Some (6, 0, 1)) ∷ (Some (4, 1, 2)) ∷ [] } } ∷
    record { words = ff_swap; wires = 1 ∷ 2 ∷ []; entries = record { signals = 6; of = (Some (3, 0, 2)) ∷ (Some (3, 1, 2)) ∷ [] } } ∷
    record { words = ff_divider; wires = 1 ∷ 2 ∷ []; entries = record { signals = 8; of = (Some (4, 0, 1)) ∷ (Some (5, 0, 1)) ∷ [] } } ∷
    record { words = ram_both_write; wires = 7 ∷ 8 ∷ []; entries = record { signals = 11; of = (Some (5, 0, 1)) ∷ (Some (6, 0, 1)) ∷ [] } } ∷
    record { words = dram_rows; wires = 14 ∷ 15 ∷ 16 ∷ 17 ∷ []; entries = record { signals = 24; of = (Some (5, 0, 4)) ∷ (Some (5, 1, 4)) ∷ (Some (5, 2, 4)) ∷ (Some (5, 3, 4)) ∷ [] } } ∷
    record { words = jtagg_row; wires = 0 ∷ 1 ∷ 2 ∷ 3 ∷ []; entries = record { signals = 12; of = (Some (1, 0, 1)) ∷ (Some (2, 0, 1)) ∷ (Some (3, 0, 1)) ∷ (Some (4, 0, 1)) ∷ [] } } ∷
    record { words = pll_row; wires = 1 ∷ 2 ∷ 3 ∷ 4 ∷ []; entries = record { signals = 9; of = (Some (3, 0, 1)) ∷ (Some (4, 0, 1)) ∷ (Some (5, 0, 1)) ∷ (Some (6, 0, 1)) ∷ [] } } ∷
    record { words = constants_shown; wires = 2 ∷ 1 ∷ []; entries = record { signals = 5; of = (Some (1, 0, 1)) ∷ (Some (0, 2, 3)) ∷ [] } } ∷
    -- a wire that two pins of a PLL drive is the first pin's, in the order feedback, output, locked, further clocks
    record { words = pll_shared; wires = 1 ∷ 2 ∷ 3 ∷ 4 ∷ []; entries = record { signals = 8; of = (Some (2, 0, 1)) ∷ (Some (3, 0, 1)) ∷ (Some (4, 0, 1)) ∷ (Some (5, 0, 1)) ∷ [] } } ∷
    []

pub maps_hold : map map_of map_rows ≡ map (λ (r : MapRow). r.entries) map_rows
unfolding collect_flip_flop_banks banks_from leaders_from flip_flops_from bank_in members_of
maps_hold = refl
