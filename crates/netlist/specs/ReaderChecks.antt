-- Computed rows: netlist words and the refusal's number and place, or none for a netlist that is read (lowering may refuse it later).
-- The answers were written by the reference (the Rust behind its reader), not by hand.
use Rattle.std.specs.Prelude.{◌≡◌, refl, List, [], ◌∷◌, map, ℕ}
use Rattle.std.specs.Prelude.{Option, None, Some}
use Rattle.netlist.specs.declared.Bit.TheVariants.{Zero, Wire}
use Rattle.netlist.specs.Netlist.{lut4}
use Rattle.netlist.specs.Reader.{Read, netlist, refused, read_words, base, address_width}

-- a refusal's number and place
abbrev pub refusal : Read → Option (ℕ × ℕ)
refusal (netlist n) = None
refusal (refused k p) = Some (k, p)

abbrev pub reading : List ℕ → Option (ℕ × ℕ)
reading words = refusal (read_words base words)

-- document 01's netlist
worked_example : read_words base (0 ∷ 2 ∷ 2 ∷ 3 ∷ 1 ∷ 1 ∷ 4 ∷ 0 ∷ 2 ∷ 3 ∷ 0 ∷ 0 ∷ 2 ∷ 8 ∷ 0 ∷ 2 ∷ 7 ∷ 1 ∷ []) ≡ netlist (record {
  ports = record { direction = 0; bits = Wire 0 ∷ Wire 1 ∷ [] } ∷ record { direction = 1; bits = Wire 2 ∷ [] } ∷ [];
  cells = lut4 (Wire 0 ∷ Wire 1 ∷ Zero ∷ Zero ∷ []) 2 8 ∷ [];
})
worked_example = refl

-- address width by depth
widths : map address_width (1 ∷ 2 ∷ 3 ∷ 4 ∷ 5 ∷ 1024 ∷ 1025 ∷ 16384 ∷ []) ≡ (1 ∷ 1 ∷ 2 ∷ 2 ∷ 3 ∷ 10 ∷ 11 ∷ 14 ∷ [])
widths = refl

-- words, and the refusal's number and place, or none
pub record Row : Type 0 where
  pub words : List ℕ
  pub refused : Option (ℕ × ℕ)

abbrev pub rows : List Row
rows =
    -- empty input
    record { words = []; refused = Some (3, 0) } ∷
    -- three words
    record { words = 0 ∷ 0 ∷ 0 ∷ []; refused = Some (3, 0) } ∷
    -- no ports no cells
    record { words = 0 ∷ 0 ∷ 0 ∷ 0 ∷ []; refused = None } ∷
    -- ports start 1
    record { words = 1 ∷ 0 ∷ 0 ∷ 0 ∷ []; refused = Some (3, 0) } ∷
    -- ports 257
    record { words = 0 ∷ 257 ∷ 0 ∷ 0 ∷ []; refused = Some (3, 0) } ∷
    -- cells 4097
    record { words = 0 ∷ 0 ∷ 0 ∷ 4097 ∷ []; refused = Some (3, 0) } ∷
    -- cells start past
    record { words = 0 ∷ 0 ∷ 1 ∷ 0 ∷ []; refused = Some (3, 0) } ∷
    -- cells start huge
    record { words = 0 ∷ 0 ∷ 4294967295 ∷ 0 ∷ []; refused = Some (3, 0) } ∷
    -- port missing
    record { words = 0 ∷ 1 ∷ 0 ∷ 0 ∷ []; refused = Some (4, 0) } ∷
    -- cell missing
    record { words = 0 ∷ 0 ∷ 0 ∷ 1 ∷ []; refused = Some (4, 0) } ∷
    -- left in ports
    record { words = 0 ∷ 0 ∷ 0 ∷ 1 ∷ 0 ∷ []; refused = Some (4, 0) } ∷
    -- left in cells
    record { words = 0 ∷ 0 ∷ 0 ∷ 0 ∷ 0 ∷ []; refused = Some (4, 0) } ∷
    -- left after port
    record { words = 0 ∷ 1 ∷ 2 ∷ 7 ∷ 0 ∷ 1 ∷ 4 ∷ 0 ∷ []; refused = Some (4, 3) } ∷
    -- left after cell
    record { words = 0 ∷ 0 ∷ 0 ∷ 0 ∷ 0 ∷ 0 ∷ 0 ∷ 9 ∷ 0 ∷ 0 ∷ 0 ∷ 1 ∷ []; refused = Some (4, 7) } ∷
    -- port runs into cells
    record { words = 0 ∷ 2 ∷ 2 ∷ 0 ∷ 1 ∷ 3 ∷ 0 ∷ []; refused = Some (4, 3) } ∷
    -- port runs into cells 2
    record { words = 0 ∷ 2 ∷ 2 ∷ 0 ∷ 0 ∷ 0 ∷ 0 ∷ 0 ∷ 0 ∷ 0 ∷ 0 ∷ 1 ∷ 3 ∷ 1 ∷ []; refused = Some (4, 3) } ∷
    -- bad before missing
    record { words = 0 ∷ 9 ∷ 2 ∷ 99999 ∷ 0 ∷ 1 ∷ 4 ∷ 0 ∷ []; refused = Some (5, 3) } ∷
    -- ports before cells
    record { words = 0 ∷ 1 ∷ 2 ∷ 7 ∷ 77 ∷ 0 ∷ 1 ∷ 4 ∷ 1 ∷ []; refused = Some (4, 3) } ∷
    -- direction 3
    record { words = 3 ∷ 1 ∷ 2 ∷ 0 ∷ 1 ∷ 3 ∷ 0 ∷ []; refused = Some (5, 0) } ∷
    -- width 0
    record { words = 0 ∷ 0 ∷ 0 ∷ 1 ∷ 2 ∷ 0 ∷ []; refused = Some (5, 1) } ∷
    -- width 257
    record { words = 0 ∷ 257 ∷ 0 ∷ 1 ∷ 2 ∷ 0 ∷ []; refused = Some (5, 1) } ∷
    -- width 256 short
    record { words = 0 ∷ 256 ∷ 0 ∷ 1 ∷ 2 ∷ 0 ∷ []; refused = Some (4, 2) } ∷
    -- bit 16385
    record { words = 0 ∷ 1 ∷ 16385 ∷ 0 ∷ 1 ∷ 3 ∷ 0 ∷ []; refused = None } ∷
    -- bit 16386
    record { words = 0 ∷ 1 ∷ 16386 ∷ 0 ∷ 1 ∷ 3 ∷ 0 ∷ []; refused = Some (5, 2) } ∷
    -- kind 11
    record { words = 11 ∷ 0 ∷ 0 ∷ 0 ∷ 1 ∷ []; refused = Some (5, 0) } ∷
    -- lut wire 16383
    record { words = 0 ∷ 0 ∷ 0 ∷ 0 ∷ 0 ∷ 16383 ∷ 0 ∷ 0 ∷ 0 ∷ 0 ∷ 1 ∷ []; refused = None } ∷
    -- lut wire 16384
    record { words = 0 ∷ 0 ∷ 0 ∷ 0 ∷ 0 ∷ 16384 ∷ 0 ∷ 0 ∷ 0 ∷ 0 ∷ 1 ∷ []; refused = Some (5, 5) } ∷
    -- lut init 65536
    record { words = 0 ∷ 0 ∷ 0 ∷ 0 ∷ 0 ∷ 0 ∷ 65536 ∷ 0 ∷ 0 ∷ 0 ∷ 1 ∷ []; refused = Some (5, 6) } ∷
    -- ff absent enable word
    record { words = 5 ∷ 0 ∷ 0 ∷ 0 ∷ 0 ∷ 0 ∷ 0 ∷ 1 ∷ 0 ∷ 0 ∷ 0 ∷ 0 ∷ 0 ∷ 0 ∷ 0 ∷ 0 ∷ 1 ∷ []; refused = Some (5, 7) } ∷
    -- ff absent enable wire
    record { words = 5 ∷ 0 ∷ 0 ∷ 0 ∷ 0 ∷ 0 ∷ 2 ∷ 0 ∷ 0 ∷ 0 ∷ 0 ∷ 0 ∷ 0 ∷ 0 ∷ 0 ∷ 0 ∷ 1 ∷ []; refused = Some (5, 6) } ∷
    -- ff absent reset value
    record { words = 5 ∷ 0 ∷ 0 ∷ 0 ∷ 0 ∷ 0 ∷ 0 ∷ 0 ∷ 0 ∷ 0 ∷ 0 ∷ 0 ∷ 1 ∷ 0 ∷ 0 ∷ 0 ∷ 1 ∷ []; refused = Some (5, 12) } ∷
    -- ff edge 2
    record { words = 5 ∷ 0 ∷ 0 ∷ 0 ∷ 2 ∷ 0 ∷ 0 ∷ 0 ∷ 0 ∷ 0 ∷ 0 ∷ 0 ∷ 0 ∷ 0 ∷ 0 ∷ 0 ∷ 1 ∷ []; refused = Some (5, 4) } ∷
    -- pll count 5
    record { words = 10 ∷ 0 ∷ 0 ∷ 1 ∷ 2 ∷ 5 ∷ 0 ∷ 0 ∷ 0 ∷ 1 ∷ []; refused = Some (5, 5) } ∷
    -- ram depth 0
    record { words = 6 ∷ 0 ∷ 1 ∷ 1 ∷ 0 ∷ 0 ∷ 0 ∷ 1 ∷ []; refused = Some (5, 1) } ∷
    -- ram depth 16385
    record { words = 6 ∷ 16385 ∷ 1 ∷ 1 ∷ 0 ∷ 0 ∷ 0 ∷ 1 ∷ []; refused = Some (5, 1) } ∷
    -- ram width 0
    record { words = 6 ∷ 1 ∷ 0 ∷ 1 ∷ 0 ∷ 0 ∷ 0 ∷ 1 ∷ []; refused = Some (5, 2) } ∷
    -- ram width 19
    record { words = 6 ∷ 1 ∷ 19 ∷ 1 ∷ 0 ∷ 0 ∷ 0 ∷ 1 ∷ []; refused = Some (5, 2) } ∷
    -- ram physical 3
    record { words = 6 ∷ 1 ∷ 1 ∷ 3 ∷ 0 ∷ 0 ∷ 0 ∷ 1 ∷ []; refused = Some (5, 3) } ∷
    -- ram 18 1025
    record { words = 6 ∷ 1025 ∷ 1 ∷ 18 ∷ 0 ∷ 0 ∷ 0 ∷ 1 ∷ []; refused = Some (5, 3) } ∷
    -- ram 18 1024 form
    record { words = 6 ∷ 1024 ∷ 1 ∷ 18 ∷ 0 ∷ 0 ∷ 0 ∷ 1 ∷ []; refused = Some (4, 4) } ∷
    -- ram 9 2048 form
    record { words = 6 ∷ 2048 ∷ 1 ∷ 9 ∷ 0 ∷ 0 ∷ 0 ∷ 1 ∷ []; refused = Some (4, 4) } ∷
    -- ram 9 2049
    record { words = 6 ∷ 2049 ∷ 1 ∷ 9 ∷ 0 ∷ 0 ∷ 0 ∷ 1 ∷ []; refused = Some (5, 3) } ∷
    -- ram 1 16384 form
    record { words = 6 ∷ 16384 ∷ 1 ∷ 1 ∷ 0 ∷ 0 ∷ 0 ∷ 1 ∷ []; refused = Some (4, 4) } ∷
    -- ram 2 16384
    record { words = 6 ∷ 16384 ∷ 1 ∷ 2 ∷ 0 ∷ 0 ∷ 0 ∷ 1 ∷ []; refused = Some (5, 3) } ∷
    -- ccu zero
    record { words = 3 ∷ 0 ∷ 0 ∷ 0 ∷ 0 ∷ 0 ∷ 0 ∷ 0 ∷ 0 ∷ 0 ∷ 0 ∷ 1 ∷ 2 ∷ 0 ∷ 0 ∷ 0 ∷ 0 ∷ 0 ∷ 0 ∷ 0 ∷ 1 ∷ []; refused = None } ∷
    -- mul constants
    record { words = 4 ∷ 0 ∷ 0 ∷ 0 ∷ 0 ∷ 0 ∷ 0 ∷ 0 ∷ 0 ∷ 0 ∷ 0 ∷ 0 ∷ 0 ∷ 0 ∷ 0 ∷ 0 ∷ 0 ∷ 0 ∷ 0 ∷ 1 ∷ 1 ∷ 1 ∷ 1 ∷ 1 ∷ 1 ∷ 1 ∷ 1 ∷ 1 ∷ 1 ∷ 1 ∷ 1 ∷ 1 ∷ 1 ∷ 1 ∷ 1 ∷ 1 ∷ 1 ∷ 0 ∷ 1 ∷ 2 ∷ 3 ∷ 4 ∷ 5 ∷ 6 ∷ 7 ∷ 8 ∷ 9 ∷ 10 ∷ 11 ∷ 12 ∷ 13 ∷ 14 ∷ 15 ∷ 16 ∷ 17 ∷ 18 ∷ 19 ∷ 20 ∷ 21 ∷ 22 ∷ 23 ∷ 24 ∷ 25 ∷ 26 ∷ 27 ∷ 28 ∷ 29 ∷ 30 ∷ 31 ∷ 32 ∷ 33 ∷ 34 ∷ 35 ∷ 0 ∷ 0 ∷ 0 ∷ 1 ∷ []; refused = None } ∷
    -- jtagg
    record { words = 9 ∷ 0 ∷ 1 ∷ 2 ∷ 3 ∷ 4 ∷ 5 ∷ 6 ∷ 7 ∷ 8 ∷ 0 ∷ 0 ∷ 0 ∷ 1 ∷ []; refused = None } ∷
    -- io
    record { words = 2 ∷ 1 ∷ 2 ∷ 8 ∷ 0 ∷ 1 ∷ 4 ∷ 0 ∷ 0 ∷ 1 ∷ 3 ∷ 1 ∷ []; refused = None } ∷
    -- ff sync enable
    record { words = 0 ∷ 1 ∷ 2 ∷ 0 ∷ 1 ∷ 3 ∷ 5 ∷ 0 ∷ 4 ∷ 2 ∷ 0 ∷ 1 ∷ 3 ∷ 0 ∷ 1 ∷ 3 ∷ 1 ∷ 0 ∷ 1 ∷ 0 ∷ 2 ∷ 6 ∷ 1 ∷ []; refused = None } ∷
    -- ram depth 1
    record { words = 6 ∷ 1 ∷ 1 ∷ 1 ∷ 0 ∷ 0 ∷ 0 ∷ 0 ∷ 0 ∷ 0 ∷ 0 ∷ 0 ∷ 0 ∷ 0 ∷ 0 ∷ 0 ∷ 0 ∷ 0 ∷ 0 ∷ 1 ∷ 0 ∷ 0 ∷ 0 ∷ 0 ∷ 0 ∷ 0 ∷ 0 ∷ 0 ∷ 0 ∷ 0 ∷ 0 ∷ 0 ∷ 0 ∷ 0 ∷ 0 ∷ 0 ∷ 0 ∷ 0 ∷ 0 ∷ 0 ∷ 0 ∷ 0 ∷ 0 ∷ 0 ∷ 7 ∷ 0 ∷ 0 ∷ 0 ∷ 1 ∷ []; refused = None } ∷
    -- dram second
    record { words = 7 ∷ 0 ∷ 0 ∷ 0 ∷ 0 ∷ 0 ∷ 0 ∷ 0 ∷ 0 ∷ 0 ∷ 1 ∷ 0 ∷ 0 ∷ 0 ∷ 0 ∷ 0 ∷ 1 ∷ 2 ∷ 3 ∷ 0 ∷ 0 ∷ 1 ∷ 0 ∷ 0 ∷ 0 ∷ 1 ∷ []; refused = None } ∷
    -- ram clock differs
    record { words = 6 ∷ 1 ∷ 1 ∷ 1 ∷ 0 ∷ 0 ∷ 0 ∷ 0 ∷ 0 ∷ 0 ∷ 0 ∷ 0 ∷ 0 ∷ 0 ∷ 0 ∷ 0 ∷ 0 ∷ 0 ∷ 0 ∷ 1 ∷ 0 ∷ 0 ∷ 0 ∷ 0 ∷ 0 ∷ 0 ∷ 0 ∷ 0 ∷ 0 ∷ 0 ∷ 0 ∷ 0 ∷ 0 ∷ 0 ∷ 0 ∷ 0 ∷ 0 ∷ 0 ∷ 0 ∷ 0 ∷ 0 ∷ 0 ∷ 1 ∷ 0 ∷ 7 ∷ 0 ∷ 0 ∷ 0 ∷ 0 ∷ 0 ∷ 0 ∷ 0 ∷ 0 ∷ 0 ∷ 0 ∷ 0 ∷ 0 ∷ 0 ∷ 0 ∷ 0 ∷ 1 ∷ 0 ∷ 0 ∷ 0 ∷ 0 ∷ 0 ∷ 0 ∷ 1 ∷ 0 ∷ 0 ∷ 8 ∷ 0 ∷ 0 ∷ 0 ∷ 1 ∷ []; refused = Some (6, 0) } ∷
    -- ram edge differs
    record { words = 6 ∷ 1 ∷ 1 ∷ 1 ∷ 0 ∷ 0 ∷ 0 ∷ 0 ∷ 0 ∷ 0 ∷ 0 ∷ 0 ∷ 0 ∷ 0 ∷ 0 ∷ 0 ∷ 0 ∷ 0 ∷ 0 ∷ 1 ∷ 0 ∷ 0 ∷ 0 ∷ 0 ∷ 0 ∷ 0 ∷ 0 ∷ 0 ∷ 0 ∷ 0 ∷ 0 ∷ 0 ∷ 0 ∷ 0 ∷ 0 ∷ 0 ∷ 0 ∷ 0 ∷ 0 ∷ 0 ∷ 0 ∷ 0 ∷ 1 ∷ 0 ∷ 7 ∷ 0 ∷ 0 ∷ 0 ∷ 0 ∷ 0 ∷ 0 ∷ 0 ∷ 0 ∷ 0 ∷ 0 ∷ 0 ∷ 0 ∷ 0 ∷ 0 ∷ 0 ∷ 1 ∷ 0 ∷ 0 ∷ 0 ∷ 0 ∷ 0 ∷ 0 ∷ 0 ∷ 1 ∷ 0 ∷ 8 ∷ 0 ∷ 0 ∷ 0 ∷ 1 ∷ []; refused = Some (6, 0) } ∷
    -- six before seven
    record { words = 0 ∷ 2 ∷ 2 ∷ 2 ∷ 6 ∷ 1 ∷ 1 ∷ 1 ∷ 0 ∷ 0 ∷ 0 ∷ 0 ∷ 0 ∷ 0 ∷ 0 ∷ 0 ∷ 0 ∷ 0 ∷ 0 ∷ 0 ∷ 0 ∷ 0 ∷ 0 ∷ 1 ∷ 0 ∷ 0 ∷ 0 ∷ 0 ∷ 0 ∷ 0 ∷ 0 ∷ 0 ∷ 0 ∷ 0 ∷ 0 ∷ 0 ∷ 0 ∷ 0 ∷ 0 ∷ 0 ∷ 0 ∷ 0 ∷ 0 ∷ 0 ∷ 0 ∷ 0 ∷ 1 ∷ 0 ∷ 7 ∷ 0 ∷ 0 ∷ 0 ∷ 0 ∷ 0 ∷ 0 ∷ 0 ∷ 0 ∷ 0 ∷ 0 ∷ 0 ∷ 0 ∷ 0 ∷ 0 ∷ 0 ∷ 1 ∷ 0 ∷ 0 ∷ 0 ∷ 0 ∷ 0 ∷ 0 ∷ 0 ∷ 1 ∷ 0 ∷ 8 ∷ 0 ∷ 1 ∷ 4 ∷ 1 ∷ []; refused = Some (6, 0) } ∷
    -- pll more feedback
    record { words = 0 ∷ 1 ∷ 2 ∷ 10 ∷ 2 ∷ 1 ∷ 2 ∷ 3 ∷ 2 ∷ 1 ∷ 2 ∷ 0 ∷ 1 ∷ 3 ∷ 1 ∷ []; refused = None } ∷
    []

pub rows_hold : map (λ (r : Row). reading r.words) rows ≡ map (λ (r : Row). r.refused) rows
rows_hold = refl
