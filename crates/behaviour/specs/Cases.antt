-- The P cases of document 01 that the tick rule decides.
use Rattle.std.specs.Prelude.{◌≡◌, refl, List, [], ◌∷◌, map, ℕ}
use Rattle.behaviour.specs.Banks.{collect_flip_flop_banks, banks_from, leaders_from, flip_flops_from, bank_in, members_of}
use Rattle.behaviour.specs.Checking.{Row, shown_by, fire}

-- a block RAM of one word of one bit, which writes a 1 at address 0 on every edge of its clock
abbrev pub depth1 : List ℕ
depth1 =
    -- the clock, the lowest bit of the read address, what is read
    0 ∷ 1 ∷ 2 ∷
    0 ∷ 1 ∷ 3 ∷
    1 ∷ 1 ∷ 4 ∷
    -- depth, width, physical width; write address; write control; read address; enables, clock, edge, one port; data, read wire
    6 ∷ 1 ∷ 1 ∷ 1 ∷
    0 ∷ 0 ∷ 0 ∷ 0 ∷ 0 ∷ 0 ∷ 0 ∷ 0 ∷ 0 ∷ 0 ∷ 0 ∷ 0 ∷ 0 ∷ 0 ∷
    1 ∷ 1 ∷
    3 ∷ 0 ∷ 0 ∷ 0 ∷ 0 ∷ 0 ∷ 0 ∷ 0 ∷ 0 ∷ 0 ∷ 0 ∷ 0 ∷ 0 ∷ 0 ∷
    0 ∷ 0 ∷ 0 ∷ 0 ∷ 0 ∷ 0 ∷ 2 ∷ 0 ∷ 0 ∷
    1 ∷ 2 ∷
    0 ∷ 3 ∷ 9 ∷ 1 ∷ []

-- a block RAM of one word of one bit, which both ports write on every edge of their clock
abbrev pub both_write : List ℕ
both_write =
    -- the clock, A's data, B's data, what A and B read
    0 ∷ 1 ∷ 2 ∷
    0 ∷ 1 ∷ 3 ∷
    0 ∷ 1 ∷ 4 ∷
    1 ∷ 2 ∷ 5 ∷ 6 ∷
    6 ∷ 1 ∷ 1 ∷ 1 ∷
    0 ∷ 0 ∷ 0 ∷ 0 ∷ 0 ∷ 0 ∷ 0 ∷ 0 ∷ 0 ∷ 0 ∷ 0 ∷ 0 ∷ 0 ∷ 0 ∷
    1 ∷ 1 ∷
    0 ∷ 0 ∷ 0 ∷ 0 ∷ 0 ∷ 0 ∷ 0 ∷ 0 ∷ 0 ∷ 0 ∷ 0 ∷ 0 ∷ 0 ∷ 0 ∷
    0 ∷ 0 ∷ 0 ∷ 0 ∷ 0 ∷ 0 ∷ 2 ∷ 0 ∷ 1 ∷
    3 ∷ 3 ∷
    -- B: address; write control; enables, clock, edge; data, read wire
    0 ∷ 0 ∷ 0 ∷ 0 ∷ 0 ∷ 0 ∷ 0 ∷ 0 ∷ 0 ∷ 0 ∷ 0 ∷ 0 ∷ 0 ∷ 0 ∷
    1 ∷ 1 ∷
    0 ∷ 0 ∷ 0 ∷ 0 ∷ 0 ∷ 0 ∷ 2 ∷ 0 ∷
    4 ∷ 4 ∷
    0 ∷ 4 ∷ 13 ∷ 1 ∷ []

abbrev pub cases : List Row
cases =
    -- one word: address 0 gives it (0 until it is written), address 1 gives 0
    record { words = depth1; ticks = fire (0 ∷ 0 ∷ []) 0 0 ∷ fire (0 ∷ 0 ∷ []) 0 0 ∷ fire (0 ∷ 1 ∷ []) 0 0 ∷ fire (0 ∷ 0 ∷ []) 0 0 ∷ []; shown = 0 ∷ 1 ∷ 0 ∷ 1 ∷ [] } ∷
    -- both ports write: A 0 and B 1, then A 1 and B 0; the next tick reads B's (3: both ports read 1)
    record { words = both_write; ticks = fire (0 ∷ 0 ∷ 1 ∷ []) 0 0 ∷ fire (0 ∷ 1 ∷ 0 ∷ []) 0 0 ∷ fire (0 ∷ 0 ∷ 0 ∷ []) 0 0 ∷ []; shown = 0 ∷ 3 ∷ 0 ∷ [] } ∷
    []

pub cases_hold : map shown_by cases ≡ map (λ (r : Row). r.shown) cases
unfolding collect_flip_flop_banks banks_from leaders_from flip_flops_from bank_in members_of
cases_hold = refl
