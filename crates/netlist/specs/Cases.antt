-- The P cases of document 01 that reading decides, and the largest wire.
use Rattle.std.specs.Prelude.{◌≡◌, refl, List, [], ◌∷◌, map, ℕ}
use Rattle.std.specs.Prelude.{None, Some}
use Rattle.netlist.specs.ReaderChecks.{reading, Row}

-- a block RAM alone, of this depth and physical width, one bit wide, with one port; its read wire is 7
abbrev pub ram_of : ℕ → ℕ → List ℕ
ram_of depth physical =
    6 ∷ depth ∷ 1 ∷ physical ∷
    -- write address; write control; read address
    0 ∷ 0 ∷ 0 ∷ 0 ∷ 0 ∷ 0 ∷ 0 ∷ 0 ∷ 0 ∷ 0 ∷ 0 ∷ 0 ∷ 0 ∷ 0 ∷
    0 ∷ 1 ∷
    0 ∷ 0 ∷ 0 ∷ 0 ∷ 0 ∷ 0 ∷ 0 ∷ 0 ∷ 0 ∷ 0 ∷ 0 ∷ 0 ∷ 0 ∷ 0 ∷
    -- enables, clock, edge, no second port; data, read wire; the trailer
    0 ∷ 0 ∷ 0 ∷ 0 ∷ 0 ∷ 0 ∷ 0 ∷ 0 ∷ 0 ∷
    0 ∷ 7 ∷
    0 ∷ 0 ∷ 0 ∷ 1 ∷ []

-- a LUT4 alone, with this output wire
abbrev pub lut_to : ℕ → List ℕ
lut_to wire = 0 ∷ 0 ∷ 0 ∷ 0 ∷ 0 ∷ wire ∷ 0 ∷ 0 ∷ 0 ∷ 0 ∷ 1 ∷ []

abbrev pub cases : List Row
cases =
    -- no ports, no cells
    record { words = 0 ∷ 0 ∷ 0 ∷ 0 ∷ []; refused = None } ∷
    -- depth 0; depth 1
    record { words = ram_of 0 1; refused = Some (5, 1) } ∷
    record { words = ram_of 1 1; refused = None } ∷
    -- physical 18: depth 1,024 and 1,025; the fault is the physical width's
    record { words = ram_of 1024 18; refused = None } ∷
    record { words = ram_of 1025 18; refused = Some (5, 3) } ∷
    -- wire 16,383 and 16,384
    record { words = lut_to 16383; refused = None } ∷
    record { words = lut_to 16384; refused = Some (5, 5) } ∷
    []

pub cases_hold : map (λ (r : Row). reading r.words) cases ≡ map (λ (r : Row). r.refused) cases
cases_hold = refl
