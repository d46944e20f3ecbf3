-- Rows of ticks that an independent simulator wrote: model and netlist were both run there, and agreed.
use Rattle.std.specs.Prelude.{◌≡◌, refl, List, [], ◌∷◌, map}
use Rattle.behaviour.specs.Banks.{collect_flip_flop_banks, banks_from, leaders_from, flip_flops_from, bank_in, members_of}
use Rattle.behaviour.specs.Checking.{Row, shown_by, still, fire}
use Rattle.behaviour.specs.Netlists.{and2, lut_table, lut_chain, pfumx_row, l6mux_row, ccu_add, ccu_inject, product, ff_plain, ff_falling, ff_enable, ff_sync, ff_async, ff_resets_itself, ff_clock_moves, ff_swap, ff_constant_clock, ff_divider, ram_depth3, ram_physical18, ram_read_enable, ram_clock_enable, ram_gated, ram_both_write, dram_rows, io_row, jtagg_row, pll_row, pll_shared, pll_own_locked, constants_shown, refused_ticks, banks_row, ff_fired_output}

abbrev pub tick_rows : List Row
tick_rows =
    -- document 01's netlist
    record { words = and2; ticks = still (0 ∷ 0 ∷ []) ∷ still (1 ∷ 0 ∷ []) ∷ still (0 ∷ 1 ∷ []) ∷ still (1 ∷ 1 ∷ []) ∷ []; shown = 0 ∷ 0 ∷ 0 ∷ 1 ∷ [] } ∷
    -- LUT4: bit a + 2b + 4c + 8d of the table
    record { words = lut_table; ticks = still (0 ∷ 0 ∷ 0 ∷ 0 ∷ []) ∷ still (1 ∷ 0 ∷ 0 ∷ 0 ∷ []) ∷ still (0 ∷ 1 ∷ 0 ∷ 0 ∷ []) ∷ still (1 ∷ 1 ∷ 0 ∷ 0 ∷ []) ∷ still (0 ∷ 0 ∷ 1 ∷ 0 ∷ []) ∷ still (1 ∷ 0 ∷ 1 ∷ 0 ∷ []) ∷ still (0 ∷ 1 ∷ 1 ∷ 0 ∷ []) ∷ still (1 ∷ 1 ∷ 1 ∷ 0 ∷ []) ∷ still (0 ∷ 0 ∷ 0 ∷ 1 ∷ []) ∷ still (1 ∷ 0 ∷ 0 ∷ 1 ∷ []) ∷ still (0 ∷ 1 ∷ 0 ∷ 1 ∷ []) ∷ still (1 ∷ 1 ∷ 0 ∷ 1 ∷ []) ∷ still (0 ∷ 0 ∷ 1 ∷ 1 ∷ []) ∷ still (1 ∷ 0 ∷ 1 ∷ 1 ∷ []) ∷ still (0 ∷ 1 ∷ 1 ∷ 1 ∷ []) ∷ still (1 ∷ 1 ∷ 1 ∷ 1 ∷ []) ∷ []; shown = 1 ∷ 0 ∷ 1 ∷ 0 ∷ 1 ∷ 1 ∷ 0 ∷ 0 ∷ 0 ∷ 1 ∷ 0 ∷ 1 ∷ 1 ∷ 0 ∷ 0 ∷ 0 ∷ [] } ∷
    -- three LUT4 in a row, the last one first among the cells
    record { words = lut_chain; ticks = still (0 ∷ 0 ∷ []) ∷ still (1 ∷ 0 ∷ []) ∷ still (0 ∷ 1 ∷ []) ∷ still (1 ∷ 1 ∷ []) ∷ []; shown = 0 ∷ 0 ∷ 0 ∷ 1 ∷ [] } ∷
    -- PFUMX: the first arm when select is 1
    record { words = pfumx_row; ticks = still (0 ∷ 0 ∷ 0 ∷ []) ∷ still (1 ∷ 0 ∷ 0 ∷ []) ∷ still (0 ∷ 1 ∷ 0 ∷ []) ∷ still (1 ∷ 1 ∷ 0 ∷ []) ∷ still (0 ∷ 0 ∷ 1 ∷ []) ∷ still (1 ∷ 0 ∷ 1 ∷ []) ∷ still (0 ∷ 1 ∷ 1 ∷ []) ∷ still (1 ∷ 1 ∷ 1 ∷ []) ∷ []; shown = 0 ∷ 0 ∷ 1 ∷ 1 ∷ 0 ∷ 1 ∷ 0 ∷ 1 ∷ [] } ∷
    -- L6MUX21: the second arm when select is 1
    record { words = l6mux_row; ticks = still (0 ∷ 0 ∷ 0 ∷ []) ∷ still (1 ∷ 0 ∷ 0 ∷ []) ∷ still (0 ∷ 1 ∷ 0 ∷ []) ∷ still (1 ∷ 1 ∷ 0 ∷ []) ∷ still (0 ∷ 0 ∷ 1 ∷ []) ∷ still (1 ∷ 0 ∷ 1 ∷ []) ∷ still (0 ∷ 1 ∷ 1 ∷ []) ∷ still (1 ∷ 1 ∷ 1 ∷ []) ∷ []; shown = 0 ∷ 1 ∷ 0 ∷ 1 ∷ 0 ∷ 0 ∷ 1 ∷ 1 ∷ [] } ∷
    -- CCU2C: an adder
    record { words = ccu_add; ticks = still (0 ∷ 0 ∷ 1 ∷ 1 ∷ 0 ∷ 0 ∷ 1 ∷ 1 ∷ 0 ∷ []) ∷ still (0 ∷ 1 ∷ 1 ∷ 1 ∷ 0 ∷ 0 ∷ 0 ∷ 1 ∷ 0 ∷ []) ∷ still (0 ∷ 0 ∷ 0 ∷ 1 ∷ 0 ∷ 1 ∷ 1 ∷ 1 ∷ 1 ∷ []) ∷ still (1 ∷ 1 ∷ 0 ∷ 1 ∷ 0 ∷ 0 ∷ 0 ∷ 1 ∷ 0 ∷ []) ∷ still (1 ∷ 1 ∷ 1 ∷ 1 ∷ 1 ∷ 1 ∷ 1 ∷ 0 ∷ 1 ∷ []) ∷ still (0 ∷ 1 ∷ 0 ∷ 1 ∷ 0 ∷ 0 ∷ 1 ∷ 1 ∷ 0 ∷ []) ∷ still (0 ∷ 1 ∷ 1 ∷ 0 ∷ 1 ∷ 0 ∷ 1 ∷ 0 ∷ 0 ∷ []) ∷ still (1 ∷ 1 ∷ 1 ∷ 0 ∷ 0 ∷ 0 ∷ 1 ∷ 1 ∷ 1 ∷ []) ∷ still (0 ∷ 0 ∷ 1 ∷ 0 ∷ 0 ∷ 0 ∷ 0 ∷ 0 ∷ 1 ∷ []) ∷ still (1 ∷ 1 ∷ 0 ∷ 0 ∷ 1 ∷ 1 ∷ 1 ∷ 0 ∷ 1 ∷ []) ∷ []; shown = 3 ∷ 0 ∷ 1 ∷ 2 ∷ 4 ∷ 3 ∷ 2 ∷ 4 ∷ 1 ∷ 4 ∷ [] } ∷
    -- CCU2C: inject in row 0 only
    record { words = ccu_inject; ticks = still (0 ∷ 0 ∷ 1 ∷ 1 ∷ 0 ∷ 0 ∷ 1 ∷ 1 ∷ 0 ∷ []) ∷ still (0 ∷ 1 ∷ 1 ∷ 1 ∷ 0 ∷ 0 ∷ 0 ∷ 1 ∷ 0 ∷ []) ∷ still (0 ∷ 0 ∷ 0 ∷ 1 ∷ 0 ∷ 1 ∷ 1 ∷ 1 ∷ 1 ∷ []) ∷ still (1 ∷ 1 ∷ 0 ∷ 1 ∷ 0 ∷ 0 ∷ 0 ∷ 1 ∷ 0 ∷ []) ∷ still (1 ∷ 1 ∷ 1 ∷ 1 ∷ 1 ∷ 1 ∷ 1 ∷ 0 ∷ 1 ∷ []) ∷ still (0 ∷ 1 ∷ 0 ∷ 1 ∷ 0 ∷ 0 ∷ 1 ∷ 1 ∷ 0 ∷ []) ∷ still (0 ∷ 1 ∷ 1 ∷ 0 ∷ 1 ∷ 0 ∷ 1 ∷ 0 ∷ 0 ∷ []) ∷ still (1 ∷ 1 ∷ 1 ∷ 0 ∷ 0 ∷ 0 ∷ 1 ∷ 1 ∷ 1 ∷ []) ∷ still (0 ∷ 0 ∷ 1 ∷ 0 ∷ 0 ∷ 0 ∷ 0 ∷ 0 ∷ 1 ∷ []) ∷ still (1 ∷ 1 ∷ 0 ∷ 0 ∷ 1 ∷ 1 ∷ 1 ∷ 0 ∷ 1 ∷ []) ∷ []; shown = 2 ∷ 3 ∷ 4 ∷ 3 ∷ 4 ∷ 4 ∷ 6 ∷ 4 ∷ 1 ∷ 3 ∷ [] } ∷
    -- multiplier, unsigned
    record { words = product; ticks = still (1 ∷ 1 ∷ 0 ∷ 0 ∷ 0 ∷ 0 ∷ 0 ∷ 0 ∷ 0 ∷ 0 ∷ 0 ∷ 0 ∷ 0 ∷ 0 ∷ 0 ∷ 0 ∷ 0 ∷ 0 ∷ 1 ∷ 0 ∷ 1 ∷ 0 ∷ 0 ∷ 0 ∷ 0 ∷ 0 ∷ 0 ∷ 0 ∷ 0 ∷ 0 ∷ 0 ∷ 0 ∷ 0 ∷ 0 ∷ 0 ∷ 0 ∷ []) ∷ still (1 ∷ 1 ∷ 1 ∷ 1 ∷ 1 ∷ 1 ∷ 1 ∷ 1 ∷ 1 ∷ 1 ∷ 1 ∷ 1 ∷ 1 ∷ 1 ∷ 1 ∷ 1 ∷ 1 ∷ 1 ∷ 1 ∷ 1 ∷ 1 ∷ 1 ∷ 1 ∷ 1 ∷ 1 ∷ 1 ∷ 1 ∷ 1 ∷ 1 ∷ 1 ∷ 1 ∷ 1 ∷ 1 ∷ 1 ∷ 1 ∷ 1 ∷ []) ∷ still (0 ∷ 0 ∷ 0 ∷ 0 ∷ 0 ∷ 0 ∷ 0 ∷ 0 ∷ 0 ∷ 0 ∷ 0 ∷ 0 ∷ 0 ∷ 0 ∷ 0 ∷ 0 ∷ 0 ∷ 1 ∷ 0 ∷ 1 ∷ 0 ∷ 0 ∷ 0 ∷ 0 ∷ 0 ∷ 0 ∷ 0 ∷ 0 ∷ 0 ∷ 0 ∷ 0 ∷ 0 ∷ 0 ∷ 0 ∷ 0 ∷ 0 ∷ []) ∷ still (0 ∷ 0 ∷ 0 ∷ 1 ∷ 0 ∷ 1 ∷ 1 ∷ 1 ∷ 1 ∷ 1 ∷ 0 ∷ 0 ∷ 0 ∷ 0 ∷ 0 ∷ 0 ∷ 0 ∷ 0 ∷ 1 ∷ 0 ∷ 0 ∷ 1 ∷ 0 ∷ 0 ∷ 0 ∷ 0 ∷ 1 ∷ 1 ∷ 0 ∷ 0 ∷ 0 ∷ 0 ∷ 0 ∷ 0 ∷ 0 ∷ 0 ∷ []) ∷ []; shown = 15 ∷ 68718952449 ∷ 262144 ∷ 777000 ∷ [] } ∷
    -- flip-flop: its clock and edge, another edge, another signal, none
    record { words = ff_plain; ticks = still (0 ∷ 1 ∷ []) ∷ fire (0 ∷ 1 ∷ []) 0 1 ∷ fire (0 ∷ 1 ∷ []) 1 0 ∷ fire (0 ∷ 1 ∷ []) 0 0 ∷ still (0 ∷ 0 ∷ []) ∷ fire (0 ∷ 0 ∷ []) 0 0 ∷ []; shown = 0 ∷ 0 ∷ 0 ∷ 1 ∷ 1 ∷ 0 ∷ [] } ∷
    -- falling edge
    record { words = ff_falling; ticks = fire (0 ∷ 1 ∷ []) 0 0 ∷ fire (0 ∷ 1 ∷ []) 0 1 ∷ fire (0 ∷ 0 ∷ []) 0 0 ∷ []; shown = 0 ∷ 1 ∷ 1 ∷ [] } ∷
    -- enable, active low
    record { words = ff_enable; ticks = fire (0 ∷ 1 ∷ 1 ∷ []) 0 0 ∷ fire (0 ∷ 1 ∷ 0 ∷ []) 0 0 ∷ fire (0 ∷ 0 ∷ 1 ∷ []) 0 0 ∷ fire (0 ∷ 0 ∷ 0 ∷ []) 0 0 ∷ []; shown = 0 ∷ 1 ∷ 1 ∷ 0 ∷ [] } ∷
    -- a synchronous reset beats the enable, and waits for the clock
    record { words = ff_sync; ticks = still (1 ∷ 0 ∷ 0 ∷ 0 ∷ 0 ∷ []) ∷ fire (1 ∷ 0 ∷ 0 ∷ 0 ∷ 0 ∷ []) 1 0 ∷ fire (0 ∷ 1 ∷ 0 ∷ 0 ∷ 0 ∷ []) 1 0 ∷ fire (0 ∷ 1 ∷ 1 ∷ 0 ∷ 0 ∷ []) 1 0 ∷ fire (0 ∷ 0 ∷ 1 ∷ 0 ∷ 0 ∷ []) 1 0 ∷ fire (1 ∷ 1 ∷ 1 ∷ 0 ∷ 0 ∷ []) 1 0 ∷ []; shown = 0 ∷ 1 ∷ 1 ∷ 1 ∷ 0 ∷ 1 ∷ [] } ∷
    -- an asynchronous reset loads whatever fires, or nothing
    record { words = ff_async; ticks = still (0 ∷ 0 ∷ 0 ∷ []) ∷ fire (0 ∷ 0 ∷ 1 ∷ []) 0 0 ∷ fire (0 ∷ 1 ∷ 1 ∷ []) 0 0 ∷ fire (0 ∷ 0 ∷ 1 ∷ []) 0 0 ∷ fire (0 ∷ 0 ∷ 0 ∷ []) 1 0 ∷ fire (0 ∷ 1 ∷ 1 ∷ []) 0 1 ∷ fire (0 ∷ 1 ∷ 0 ∷ []) 0 0 ∷ []; shown = 1 ∷ 0 ∷ 1 ∷ 0 ∷ 1 ∷ 1 ∷ 1 ∷ [] } ∷
    -- a reset that the commit itself asserts waits for the next tick
    record { words = ff_resets_itself; ticks = fire (1 ∷ []) 0 0 ∷ still (1 ∷ []) ∷ fire (0 ∷ []) 0 0 ∷ []; shown = 1 ∷ 0 ∷ 1 ∷ [] } ∷
    -- the clock's wire moves, and nothing fires
    record { words = ff_clock_moves; ticks = still (0 ∷ []) ∷ still (1 ∷ []) ∷ fire (1 ∷ []) 0 0 ∷ []; shown = 0 ∷ 0 ∷ 1 ∷ [] } ∷
    -- all registers change together
    record { words = ff_swap; ticks = fire (0 ∷ []) 0 0 ∷ fire (0 ∷ []) 0 0 ∷ fire (0 ∷ []) 0 0 ∷ fire (0 ∷ []) 0 0 ∷ fire (0 ∷ []) 0 0 ∷ []; shown = 2 ∷ 3 ∷ 1 ∷ 0 ∷ 2 ∷ [] } ∷
    -- a clock that is Zero: the signal zero fires it, the signal one does not
    record { words = ff_constant_clock; ticks = fire (1 ∷ []) 4 0 ∷ fire (1 ∷ []) 3 1 ∷ fire (1 ∷ []) 3 0 ∷ fire (0 ∷ []) 3 0 ∷ []; shown = 0 ∷ 0 ∷ 1 ∷ 0 ∷ [] } ∷
    -- a flip-flop as clock: its signal fires, its own change does not; nor does the port that copies the clock
    record { words = ff_divider; ticks = fire (0 ∷ []) 0 0 ∷ fire (0 ∷ []) 0 0 ∷ fire (0 ∷ []) 1 0 ∷ fire (0 ∷ []) 4 0 ∷ []; shown = 1 ∷ 0 ∷ 0 ∷ 2 ∷ [] } ∷
    -- block RAM of 3 words: the word before the edge; beyond the depth writes are lost and reads give 0
    record { words = ram_depth3; ticks = fire (0 ∷ 1 ∷ 1 ∷ 0 ∷ 1 ∷ 0 ∷ 1 ∷ 1 ∷ 0 ∷ 0 ∷ []) 0 0 ∷ fire (0 ∷ 0 ∷ 0 ∷ 0 ∷ 1 ∷ 0 ∷ 0 ∷ 0 ∷ 0 ∷ 0 ∷ []) 0 0 ∷ fire (0 ∷ 1 ∷ 1 ∷ 0 ∷ 1 ∷ 0 ∷ 0 ∷ 1 ∷ 0 ∷ 0 ∷ []) 0 0 ∷ fire (0 ∷ 0 ∷ 0 ∷ 0 ∷ 1 ∷ 0 ∷ 0 ∷ 0 ∷ 0 ∷ 0 ∷ []) 0 0 ∷ fire (0 ∷ 1 ∷ 1 ∷ 1 ∷ 1 ∷ 1 ∷ 1 ∷ 1 ∷ 0 ∷ 0 ∷ []) 0 0 ∷ fire (0 ∷ 0 ∷ 0 ∷ 0 ∷ 1 ∷ 1 ∷ 0 ∷ 0 ∷ 0 ∷ 0 ∷ []) 0 0 ∷ still (0 ∷ 0 ∷ 0 ∷ 0 ∷ 1 ∷ 0 ∷ 0 ∷ 0 ∷ 0 ∷ 0 ∷ []) ∷ fire (0 ∷ 0 ∷ 0 ∷ 0 ∷ 1 ∷ 0 ∷ 0 ∷ 0 ∷ 0 ∷ 0 ∷ []) 0 1 ∷ fire (0 ∷ 0 ∷ 0 ∷ 0 ∷ 1 ∷ 0 ∷ 0 ∷ 0 ∷ 0 ∷ 0 ∷ []) 0 0 ∷ []; shown = 0 ∷ 3 ∷ 3 ∷ 2 ∷ 0 ∷ 0 ∷ 0 ∷ 0 ∷ 2 ∷ [] } ∷
    -- the address begins at the shift
    record { words = ram_physical18; ticks = fire (0 ∷ 1 ∷ 1 ∷ 0 ∷ 1 ∷ 0 ∷ 1 ∷ 1 ∷ 0 ∷ 0 ∷ []) 0 0 ∷ fire (0 ∷ 0 ∷ 0 ∷ 0 ∷ 1 ∷ 0 ∷ 0 ∷ 0 ∷ 0 ∷ 0 ∷ []) 0 0 ∷ fire (0 ∷ 1 ∷ 1 ∷ 0 ∷ 1 ∷ 0 ∷ 0 ∷ 1 ∷ 0 ∷ 0 ∷ []) 0 0 ∷ fire (0 ∷ 0 ∷ 0 ∷ 0 ∷ 1 ∷ 0 ∷ 0 ∷ 0 ∷ 0 ∷ 0 ∷ []) 0 0 ∷ fire (0 ∷ 1 ∷ 1 ∷ 1 ∷ 1 ∷ 1 ∷ 1 ∷ 1 ∷ 0 ∷ 0 ∷ []) 0 0 ∷ fire (0 ∷ 0 ∷ 0 ∷ 0 ∷ 1 ∷ 1 ∷ 0 ∷ 0 ∷ 0 ∷ 0 ∷ []) 0 0 ∷ still (0 ∷ 0 ∷ 0 ∷ 0 ∷ 1 ∷ 0 ∷ 0 ∷ 0 ∷ 0 ∷ 0 ∷ []) ∷ fire (0 ∷ 0 ∷ 0 ∷ 0 ∷ 1 ∷ 0 ∷ 0 ∷ 0 ∷ 0 ∷ 0 ∷ []) 0 1 ∷ fire (0 ∷ 0 ∷ 0 ∷ 0 ∷ 1 ∷ 0 ∷ 0 ∷ 0 ∷ 0 ∷ 0 ∷ []) 0 0 ∷ []; shown = 0 ∷ 3 ∷ 3 ∷ 2 ∷ 0 ∷ 0 ∷ 0 ∷ 0 ∷ 2 ∷ [] } ∷
    -- the old word stays while the read enable is off
    record { words = ram_read_enable; ticks = fire (0 ∷ 1 ∷ 1 ∷ 0 ∷ 1 ∷ 0 ∷ 1 ∷ 1 ∷ 1 ∷ 0 ∷ []) 0 0 ∷ fire (0 ∷ 0 ∷ 0 ∷ 0 ∷ 1 ∷ 0 ∷ 0 ∷ 0 ∷ 0 ∷ 0 ∷ []) 0 0 ∷ fire (0 ∷ 0 ∷ 0 ∷ 0 ∷ 1 ∷ 0 ∷ 0 ∷ 0 ∷ 1 ∷ 0 ∷ []) 0 0 ∷ fire (0 ∷ 0 ∷ 0 ∷ 0 ∷ 0 ∷ 0 ∷ 0 ∷ 0 ∷ 0 ∷ 0 ∷ []) 0 0 ∷ fire (0 ∷ 0 ∷ 0 ∷ 0 ∷ 0 ∷ 0 ∷ 0 ∷ 0 ∷ 1 ∷ 0 ∷ []) 0 0 ∷ []; shown = 0 ∷ 0 ∷ 3 ∷ 3 ∷ 0 ∷ [] } ∷
    -- while its clock enable is off a port neither writes nor reads
    record { words = ram_clock_enable; ticks = fire (0 ∷ 1 ∷ 1 ∷ 0 ∷ 1 ∷ 0 ∷ 1 ∷ 1 ∷ 1 ∷ 0 ∷ []) 0 0 ∷ fire (0 ∷ 0 ∷ 0 ∷ 0 ∷ 1 ∷ 0 ∷ 0 ∷ 0 ∷ 0 ∷ 1 ∷ []) 0 0 ∷ fire (0 ∷ 1 ∷ 1 ∷ 0 ∷ 1 ∷ 0 ∷ 1 ∷ 1 ∷ 1 ∷ 1 ∷ []) 0 0 ∷ fire (0 ∷ 0 ∷ 0 ∷ 0 ∷ 1 ∷ 0 ∷ 0 ∷ 0 ∷ 0 ∷ 0 ∷ []) 0 0 ∷ fire (0 ∷ 0 ∷ 0 ∷ 0 ∷ 1 ∷ 0 ∷ 0 ∷ 0 ∷ 0 ∷ 1 ∷ []) 0 0 ∷ []; shown = 0 ∷ 0 ∷ 0 ∷ 0 ∷ 3 ∷ [] } ∷
    -- each port by its own: A is off and B writes and reads, then A reads what B wrote, and A's word was never written
    record { words = ram_gated (0 ∷ 0 ∷ 0 ∷ []) (1 ∷ 11 ∷ 1 ∷ []) (1 ∷ 12 ∷ 1 ∷ []); ticks = fire (0 ∷ 1 ∷ 0 ∷ 1 ∷ 1 ∷ 1 ∷ 1 ∷ 0 ∷ 1 ∷ []) 0 0 ∷ fire (0 ∷ 0 ∷ 1 ∷ 0 ∷ 0 ∷ 1 ∷ 0 ∷ 0 ∷ 1 ∷ []) 0 0 ∷ fire (0 ∷ 0 ∷ 1 ∷ 0 ∷ 0 ∷ 0 ∷ 0 ∷ 1 ∷ 0 ∷ []) 0 0 ∷ fire (0 ∷ 0 ∷ 0 ∷ 0 ∷ 0 ∷ 0 ∷ 0 ∷ 0 ∷ 1 ∷ []) 0 0 ∷ []; shown = 0 ∷ 2 ∷ 3 ∷ 1 ∷ [] } ∷
    -- the same, active low
    record { words = ram_gated (0 ∷ 0 ∷ 0 ∷ []) (1 ∷ 11 ∷ 0 ∷ []) (1 ∷ 12 ∷ 0 ∷ []); ticks = fire (0 ∷ 1 ∷ 0 ∷ 1 ∷ 1 ∷ 1 ∷ 1 ∷ 1 ∷ 0 ∷ []) 0 0 ∷ fire (0 ∷ 0 ∷ 1 ∷ 0 ∷ 0 ∷ 1 ∷ 0 ∷ 1 ∷ 0 ∷ []) 0 0 ∷ fire (0 ∷ 0 ∷ 1 ∷ 0 ∷ 0 ∷ 0 ∷ 0 ∷ 0 ∷ 1 ∷ []) 0 0 ∷ fire (0 ∷ 0 ∷ 0 ∷ 0 ∷ 0 ∷ 0 ∷ 0 ∷ 1 ∷ 0 ∷ []) 0 0 ∷ []; shown = 0 ∷ 2 ∷ 3 ∷ 1 ∷ [] } ∷
    -- both ports write one word: while B is off A's word stays; with both on B wins
    record { words = ram_gated (0 ∷ 0 ∷ 0 ∷ []) (1 ∷ 11 ∷ 1 ∷ []) (1 ∷ 12 ∷ 1 ∷ []); ticks = fire (0 ∷ 1 ∷ 0 ∷ 1 ∷ 1 ∷ 0 ∷ 0 ∷ 1 ∷ 0 ∷ []) 0 0 ∷ fire (0 ∷ 0 ∷ 0 ∷ 0 ∷ 0 ∷ 0 ∷ 0 ∷ 1 ∷ 1 ∷ []) 0 0 ∷ fire (0 ∷ 1 ∷ 0 ∷ 1 ∷ 1 ∷ 0 ∷ 0 ∷ 1 ∷ 1 ∷ []) 0 0 ∷ fire (0 ∷ 0 ∷ 0 ∷ 0 ∷ 0 ∷ 0 ∷ 0 ∷ 1 ∷ 1 ∷ []) 0 0 ∷ []; shown = 0 ∷ 3 ∷ 3 ∷ 0 ∷ [] } ∷
    -- a read register loads only if read enable and clock enable let it: neither alone does (the read enable is the clock's own wire)
    record { words = ram_gated (1 ∷ 2 ∷ 1 ∷ []) (1 ∷ 11 ∷ 1 ∷ []) (1 ∷ 12 ∷ 1 ∷ []); ticks = fire (1 ∷ 1 ∷ 0 ∷ 1 ∷ 0 ∷ 0 ∷ 0 ∷ 1 ∷ 0 ∷ []) 0 0 ∷ fire (1 ∷ 0 ∷ 0 ∷ 0 ∷ 0 ∷ 0 ∷ 0 ∷ 0 ∷ 0 ∷ []) 0 0 ∷ fire (0 ∷ 0 ∷ 0 ∷ 0 ∷ 0 ∷ 0 ∷ 0 ∷ 1 ∷ 0 ∷ []) 0 0 ∷ fire (1 ∷ 0 ∷ 0 ∷ 0 ∷ 0 ∷ 0 ∷ 0 ∷ 1 ∷ 0 ∷ []) 0 0 ∷ fire (1 ∷ 0 ∷ 1 ∷ 0 ∷ 0 ∷ 0 ∷ 0 ∷ 0 ∷ 0 ∷ []) 0 0 ∷ fire (1 ∷ 0 ∷ 1 ∷ 0 ∷ 0 ∷ 0 ∷ 0 ∷ 1 ∷ 0 ∷ []) 0 0 ∷ []; shown = 0 ∷ 0 ∷ 0 ∷ 1 ∷ 1 ∷ 0 ∷ [] } ∷
    -- constants: A's clock enable never lets it, B's always does
    record { words = ram_gated (0 ∷ 0 ∷ 0 ∷ []) (1 ∷ 0 ∷ 1 ∷ []) (1 ∷ 0 ∷ 0 ∷ []); ticks = fire (0 ∷ 1 ∷ 0 ∷ 1 ∷ 1 ∷ 1 ∷ 1 ∷ 1 ∷ 0 ∷ []) 0 0 ∷ fire (0 ∷ 0 ∷ 1 ∷ 0 ∷ 0 ∷ 1 ∷ 0 ∷ 1 ∷ 0 ∷ []) 0 0 ∷ fire (0 ∷ 0 ∷ 1 ∷ 0 ∷ 0 ∷ 0 ∷ 0 ∷ 1 ∷ 0 ∷ []) 0 0 ∷ []; shown = 0 ∷ 2 ∷ 0 ∷ [] } ∷
    -- both ports write the same word: the second port's value is kept, and both reads are older
    record { words = ram_both_write; ticks = fire (0 ∷ 1 ∷ 1 ∷ 1 ∷ 1 ∷ 1 ∷ 0 ∷ []) 0 0 ∷ fire (0 ∷ 0 ∷ 1 ∷ 0 ∷ 0 ∷ 1 ∷ 0 ∷ []) 0 0 ∷ fire (0 ∷ 1 ∷ 1 ∷ 1 ∷ 1 ∷ 1 ∷ 1 ∷ []) 0 0 ∷ fire (0 ∷ 0 ∷ 1 ∷ 0 ∷ 0 ∷ 1 ∷ 0 ∷ []) 0 0 ∷ fire (0 ∷ 1 ∷ 0 ∷ 1 ∷ 1 ∷ 0 ∷ 1 ∷ []) 0 0 ∷ fire (0 ∷ 0 ∷ 0 ∷ 0 ∷ 0 ∷ 0 ∷ 0 ∷ []) 0 0 ∷ []; shown = 0 ∷ 0 ∷ 0 ∷ 3 ∷ 0 ∷ 3 ∷ [] } ∷
    -- distributed RAM: written on the clock, read at once
    record { words = dram_rows; ticks = still (0 ∷ 1 ∷ 1 ∷ 0 ∷ 1 ∷ 0 ∷ 1 ∷ 0 ∷ 0 ∷ 1 ∷ 1 ∷ 0 ∷ 1 ∷ 0 ∷ []) ∷ fire (0 ∷ 1 ∷ 1 ∷ 0 ∷ 1 ∷ 0 ∷ 1 ∷ 0 ∷ 0 ∷ 1 ∷ 1 ∷ 0 ∷ 1 ∷ 0 ∷ []) 0 0 ∷ fire (0 ∷ 1 ∷ 0 ∷ 1 ∷ 1 ∷ 0 ∷ 1 ∷ 1 ∷ 1 ∷ 1 ∷ 1 ∷ 0 ∷ 1 ∷ 0 ∷ []) 0 0 ∷ still (0 ∷ 1 ∷ 0 ∷ 0 ∷ 0 ∷ 0 ∷ 0 ∷ 0 ∷ 0 ∷ 0 ∷ 0 ∷ 1 ∷ 1 ∷ 0 ∷ []) ∷ fire (0 ∷ 1 ∷ 1 ∷ 1 ∷ 1 ∷ 0 ∷ 1 ∷ 1 ∷ 0 ∷ 0 ∷ 1 ∷ 1 ∷ 1 ∷ 0 ∷ []) 0 1 ∷ fire (0 ∷ 0 ∷ 1 ∷ 0 ∷ 1 ∷ 0 ∷ 0 ∷ 1 ∷ 0 ∷ 0 ∷ 1 ∷ 0 ∷ 1 ∷ 0 ∷ []) 0 0 ∷ []; shown = 0 ∷ 9 ∷ 9 ∷ 15 ∷ 0 ∷ 9 ∷ [] } ∷
    -- IO: the pad when tristate is 1
    record { words = io_row; ticks = still (0 ∷ 0 ∷ 0 ∷ []) ∷ still (1 ∷ 0 ∷ 0 ∷ []) ∷ still (0 ∷ 1 ∷ 0 ∷ []) ∷ still (1 ∷ 1 ∷ 0 ∷ []) ∷ still (0 ∷ 0 ∷ 1 ∷ []) ∷ still (1 ∷ 0 ∷ 1 ∷ []) ∷ still (0 ∷ 1 ∷ 1 ∷ []) ∷ still (1 ∷ 1 ∷ 1 ∷ []) ∷ []; shown = 0 ∷ 0 ∷ 1 ∷ 1 ∷ 0 ∷ 1 ∷ 0 ∷ 1 ∷ [] } ∷
    -- JTAGG: only reset_n is 1
    record { words = jtagg_row; ticks = still [] ∷ []; shown = 64 ∷ [] } ∷
    -- PLL: clocks copy the reference, locked is 1; output and feedback share a wire; its signal fires
    record { words = pll_row; ticks = still (0 ∷ []) ∷ still (1 ∷ []) ∷ fire (1 ∷ []) 0 0 ∷ fire (1 ∷ []) 3 0 ∷ []; shown = 2 ∷ 7 ∷ 7 ∷ 15 ∷ [] } ∷
    -- further clocks that share the wires of feedback and output
    record { words = pll_shared; ticks = still (0 ∷ []) ∷ still (1 ∷ []) ∷ []; shown = 4 ∷ 15 ∷ [] } ∷
    -- a PLL whose reference is its own locked
    record { words = pll_own_locked; ticks = still [] ∷ []; shown = 3 ∷ [] } ∷
    -- constant bits in ports; inout ports count among the tick bits
    record { words = constants_shown; ticks = still (1 ∷ 1 ∷ 0 ∷ 1 ∷ []) ∷ still (0 ∷ 0 ∷ 1 ∷ 0 ∷ []) ∷ still (0 ∷ 1 ∷ 1 ∷ 1 ∷ []) ∷ []; shown = 3 ∷ 9 ∷ 11 ∷ [] } ∷
    -- zeros before the first accepted tick, constants too
    record { words = constants_shown; ticks = still (1 ∷ []) ∷ still (1 ∷ 1 ∷ 0 ∷ 1 ∷ []) ∷ []; shown = 0 ∷ 3 ∷ [] } ∷
    -- too few bits, too many, a bit that is 2, a signal that is not there, edge 2: each changes nothing
    record { words = refused_ticks; ticks = fire (0 ∷ 1 ∷ []) 0 0 ∷ fire (0 ∷ []) 0 0 ∷ fire (0 ∷ 0 ∷ 0 ∷ []) 0 0 ∷ fire (2 ∷ 0 ∷ []) 0 0 ∷ fire (0 ∷ 0 ∷ []) 7 0 ∷ fire (0 ∷ 0 ∷ []) 0 2 ∷ fire (0 ∷ 0 ∷ []) 6 0 ∷ fire (0 ∷ 0 ∷ []) 0 0 ∷ []; shown = 3 ∷ 3 ∷ 3 ∷ 3 ∷ 3 ∷ 3 ∷ 1 ∷ 0 ∷ [] } ∷
    -- banks by clock, edge and asynchronous reset: the first and last flip-flop share one
    record { words = banks_row; ticks = fire (0 ∷ 1 ∷ 0 ∷ []) 0 0 ∷ fire (0 ∷ 0 ∷ 0 ∷ []) 0 1 ∷ still (0 ∷ 0 ∷ 1 ∷ []) ∷ fire (0 ∷ 0 ∷ 1 ∷ []) 0 0 ∷ fire (0 ∷ 1 ∷ 0 ∷ []) 0 1 ∷ []; shown = 13 ∷ 13 ∷ 13 ∷ 12 ∷ 14 ∷ [] } ∷
    -- the output port that copies the clock does not fire it
    record { words = ff_fired_output; ticks = fire (1 ∷ 1 ∷ []) 2 0 ∷ fire (1 ∷ 1 ∷ []) 0 0 ∷ []; shown = 1 ∷ 3 ∷ [] } ∷
    []

pub ticks_hold : map shown_by tick_rows ≡ map (λ (r : Row). r.shown) tick_rows
unfolding collect_flip_flop_banks banks_from leaders_from flip_flops_from bank_in members_of
ticks_hold = refl
