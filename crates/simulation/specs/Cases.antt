-- Calls whose answers come from a reference program, as rows of tables.
use Rattle.std.specs.Prelude.{ℕ, ◌≡◌, refl, List, [], ◌∷◌, map, replicate}
use Rattle.std.specs.Prelude.{Option, None, Some}
use Rattle.recorder.specs.Lists.{lists}
use Rattle.recorder.specs.Read.{split, model_of}
use Rattle.recorder.specs.Evaluate.{eval_all}
use Rattle.simulation.specs.Wellformed.{largest, malformed, first_fault}
use Rattle.simulation.specs.Tick.{settle, commit, tick, reads_all, looped}
use Rattle.simulation.specs.Run.{Call, Outcome, run, answer, refusal, ticked}

-- a call, and what is due
pub record Case : Type 0 where
  pub asked : Call
  pub due : Outcome

-- three lists, signal bytes, tick bits, what fires, the lengths of the works; the answer and the signal bytes afterwards
abbrev pub row : List ℕ → List ℕ → List ℕ → List ℕ → List ℕ → Option (ℕ × ℕ) → ℕ → ℕ → ℕ → Option (ℕ × ℕ) → List ℕ → Case
row s e t b k f i j n a b' = record {
  asked = record { lists = lists s e t; bytes = b; ticks = k; fired = f; work_bits = replicate i 7; work_exprs = replicate j 7; work_signals = replicate n 7 };
  due = record { answer = a; bytes = b'; work_bits = replicate i 0; work_exprs = replicate j 0; work_signals = replicate n 0 };
}

-- inputs s0 (2 bits), s4 and s5; s2 is the and of s0's bits, s1 is s2 xor s3, and s3 a register of s2 on s4, set to 1 by s5
abbrev pub signals : List ℕ
signals = 4 ∷ 0 ∷ 2 ∷ 0 ∷ 4 ∷ 1 ∷ 1 ∷ 1 ∷ 4 ∷ 2 ∷ 1 ∷ 0 ∷ 4 ∷ 7 ∷ 1 ∷ 0 ∷ 4 ∷ 0 ∷ 1 ∷ 2 ∷ 4 ∷ 0 ∷ 1 ∷ 3 ∷ []

abbrev pub exprs : List ℕ
exprs = 4 ∷ 0 ∷ 1 ∷ 0 ∷ 4 ∷ 0 ∷ 1 ∷ 1 ∷ 5 ∷ 1 ∷ 1 ∷ 0 ∷ 0 ∷ 5 ∷ 1 ∷ 1 ∷ 0 ∷ 1 ∷ 5 ∷ 4 ∷ 1 ∷ 2 ∷ 3 ∷ 5 ∷ 1 ∷ 1 ∷ 2 ∷ 0 ∷ 5 ∷ 1 ∷ 1 ∷ 3 ∷ 0 ∷ 5 ∷ 6 ∷ 1 ∷ 5 ∷ 6 ∷ []

abbrev pub stmts : List ℕ
stmts = 4 ∷ 0 ∷ 2 ∷ 4 ∷ 4 ∷ 0 ∷ 1 ∷ 7 ∷ 11 ∷ 1 ∷ 3 ∷ 5 ∷ 4 ∷ 0 ∷ 1 ∷ 5 ∷ 1 ∷ 1 ∷ 0 ∷ []

-- ACCEPTED

abbrev pub ticks : List Case
ticks =
    -- nothing fires: the output follows the inputs, the register keeps
    row signals exprs stmts (0 ∷ 0 ∷ 0 ∷ 0 ∷ 0 ∷ 0 ∷ 0 ∷ []) (1 ∷ 1 ∷ 0 ∷ 0 ∷ []) None 8 8 6 None (1 ∷ 1 ∷ 1 ∷ 1 ∷ 0 ∷ 0 ∷ 0 ∷ [])
    -- one input bit only
    ∷ row signals exprs stmts (0 ∷ 0 ∷ 0 ∷ 0 ∷ 0 ∷ 0 ∷ 0 ∷ []) (1 ∷ 0 ∷ 0 ∷ 0 ∷ []) None 8 8 6 None (1 ∷ 0 ∷ 0 ∷ 0 ∷ 0 ∷ 0 ∷ 0 ∷ [])
    -- its clock rises: the register loads, and the output follows it
    ∷ row signals exprs stmts (0 ∷ 0 ∷ 0 ∷ 0 ∷ 0 ∷ 0 ∷ 0 ∷ []) (1 ∷ 1 ∷ 0 ∷ 0 ∷ []) (Some (4, 0)) 8 8 6 None (1 ∷ 1 ∷ 0 ∷ 1 ∷ 1 ∷ 0 ∷ 0 ∷ [])
    -- the other edge
    ∷ row signals exprs stmts (0 ∷ 0 ∷ 0 ∷ 0 ∷ 0 ∷ 0 ∷ 0 ∷ []) (1 ∷ 1 ∷ 0 ∷ 0 ∷ []) (Some (4, 1)) 8 8 6 None (1 ∷ 1 ∷ 1 ∷ 1 ∷ 0 ∷ 0 ∷ 0 ∷ [])
    -- another signal of one bit
    ∷ row signals exprs stmts (0 ∷ 0 ∷ 0 ∷ 0 ∷ 0 ∷ 0 ∷ 0 ∷ []) (1 ∷ 1 ∷ 0 ∷ 0 ∷ []) (Some (2, 0)) 8 8 6 None (1 ∷ 1 ∷ 1 ∷ 1 ∷ 0 ∷ 0 ∷ 0 ∷ [])
    -- an asserted reset loads whatever fires
    ∷ row signals exprs stmts (0 ∷ 0 ∷ 0 ∷ 0 ∷ 0 ∷ 0 ∷ 0 ∷ []) (0 ∷ 0 ∷ 0 ∷ 1 ∷ []) None 8 8 6 None (0 ∷ 0 ∷ 1 ∷ 0 ∷ 1 ∷ 0 ∷ 1 ∷ [])
    -- and before the clock
    ∷ row signals exprs stmts (0 ∷ 0 ∷ 0 ∷ 0 ∷ 0 ∷ 0 ∷ 0 ∷ []) (0 ∷ 0 ∷ 0 ∷ 1 ∷ []) (Some (4, 0)) 8 8 6 None (0 ∷ 0 ∷ 1 ∷ 0 ∷ 1 ∷ 0 ∷ 1 ∷ [])
    -- falling edge, enable low: loads
    ∷ row signals exprs (4 ∷ 0 ∷ 2 ∷ 4 ∷ 4 ∷ 0 ∷ 1 ∷ 7 ∷ 10 ∷ 1 ∷ 3 ∷ 5 ∷ 4 ∷ 1 ∷ 0 ∷ 1 ∷ 5 ∷ 0 ∷ []) (0 ∷ 0 ∷ 0 ∷ 0 ∷ 0 ∷ 0 ∷ 0 ∷ []) (1 ∷ 1 ∷ 0 ∷ 0 ∷ []) (Some (4, 1)) 8 8 6 None (1 ∷ 1 ∷ 0 ∷ 1 ∷ 1 ∷ 0 ∷ 0 ∷ [])
    -- falling edge, enable high: keeps
    ∷ row signals exprs (4 ∷ 0 ∷ 2 ∷ 4 ∷ 4 ∷ 0 ∷ 1 ∷ 7 ∷ 10 ∷ 1 ∷ 3 ∷ 5 ∷ 4 ∷ 1 ∷ 0 ∷ 1 ∷ 5 ∷ 0 ∷ []) (0 ∷ 0 ∷ 0 ∷ 0 ∷ 0 ∷ 0 ∷ 0 ∷ []) (1 ∷ 1 ∷ 0 ∷ 1 ∷ []) (Some (4, 1)) 8 8 6 None (1 ∷ 1 ∷ 1 ∷ 1 ∷ 0 ∷ 0 ∷ 1 ∷ [])
    -- a register on the other level keeps what it has
    ∷ row signals exprs (4 ∷ 0 ∷ 2 ∷ 4 ∷ 4 ∷ 0 ∷ 1 ∷ 7 ∷ 10 ∷ 1 ∷ 3 ∷ 5 ∷ 4 ∷ 1 ∷ 0 ∷ 1 ∷ 5 ∷ 0 ∷ []) (0 ∷ 0 ∷ 0 ∷ 0 ∷ 1 ∷ 0 ∷ 0 ∷ []) (0 ∷ 0 ∷ 0 ∷ 1 ∷ []) (Some (4, 1)) 8 8 6 None (0 ∷ 0 ∷ 1 ∷ 0 ∷ 1 ∷ 0 ∷ 1 ∷ [])
    -- all change together: two registers swap
    ∷ row (4 ∷ 0 ∷ 1 ∷ 0 ∷ 4 ∷ 7 ∷ 1 ∷ 0 ∷ 4 ∷ 7 ∷ 1 ∷ 1 ∷ []) (5 ∷ 1 ∷ 1 ∷ 1 ∷ 0 ∷ 5 ∷ 1 ∷ 1 ∷ 2 ∷ 0 ∷ []) (8 ∷ 1 ∷ 1 ∷ 1 ∷ 0 ∷ 0 ∷ 0 ∷ 0 ∷ 8 ∷ 1 ∷ 2 ∷ 0 ∷ 0 ∷ 0 ∷ 0 ∷ 0 ∷ []) (0 ∷ 1 ∷ 0 ∷ []) (0 ∷ []) (Some (0, 0)) 2 2 3 None (0 ∷ 0 ∷ 1 ∷ [])
    -- a chain against the order of the statements
    ∷ row (4 ∷ 0 ∷ 1 ∷ 0 ∷ 4 ∷ 1 ∷ 1 ∷ 1 ∷ 4 ∷ 2 ∷ 1 ∷ 0 ∷ 4 ∷ 2 ∷ 1 ∷ 1 ∷ []) (5 ∷ 1 ∷ 1 ∷ 2 ∷ 0 ∷ 5 ∷ 1 ∷ 1 ∷ 3 ∷ 0 ∷ 5 ∷ 1 ∷ 1 ∷ 0 ∷ 0 ∷ 4 ∷ 3 ∷ 1 ∷ 2 ∷ []) (4 ∷ 0 ∷ 1 ∷ 0 ∷ 4 ∷ 0 ∷ 2 ∷ 1 ∷ 4 ∷ 0 ∷ 3 ∷ 3 ∷ []) (0 ∷ 0 ∷ 0 ∷ 0 ∷ []) (0 ∷ []) None 4 4 4 None (0 ∷ 1 ∷ 1 ∷ 1 ∷ [])
    -- concat with the highest part first, eq, mux, or
    ∷ row (4 ∷ 0 ∷ 3 ∷ 0 ∷ 4 ∷ 1 ∷ 5 ∷ 1 ∷ 4 ∷ 1 ∷ 1 ∷ 2 ∷ 4 ∷ 1 ∷ 3 ∷ 3 ∷ []) (5 ∷ 1 ∷ 3 ∷ 0 ∷ 0 ∷ 4 ∷ 0 ∷ 3 ∷ 5 ∷ 5 ∷ 8 ∷ 1 ∷ 0 ∷ 1 ∷ 5 ∷ 1 ∷ 2 ∷ 0 ∷ 1 ∷ 5 ∷ 2 ∷ 5 ∷ 0 ∷ 3 ∷ 6 ∷ 7 ∷ 3 ∷ 2 ∷ 1 ∷ 0 ∷ 5 ∷ 1 ∷ 1 ∷ 0 ∷ 1 ∷ 5 ∷ 5 ∷ 1 ∷ 2 ∷ 6 ∷ []) (4 ∷ 0 ∷ 1 ∷ 4 ∷ 4 ∷ 0 ∷ 2 ∷ 7 ∷ 4 ∷ 0 ∷ 3 ∷ 5 ∷ []) (0 ∷ 0 ∷ 0 ∷ 0 ∷ 0 ∷ 0 ∷ 0 ∷ 0 ∷ 0 ∷ 0 ∷ 0 ∷ 0 ∷ []) (1 ∷ 0 ∷ 1 ∷ []) None 19 8 4 None (1 ∷ 0 ∷ 1 ∷ 0 ∷ 1 ∷ 1 ∷ 0 ∷ 1 ∷ 1 ∷ 1 ∷ 0 ∷ 1 ∷ [])
    -- the same at another value
    ∷ row (4 ∷ 0 ∷ 3 ∷ 0 ∷ 4 ∷ 1 ∷ 5 ∷ 1 ∷ 4 ∷ 1 ∷ 1 ∷ 2 ∷ 4 ∷ 1 ∷ 3 ∷ 3 ∷ []) (5 ∷ 1 ∷ 3 ∷ 0 ∷ 0 ∷ 4 ∷ 0 ∷ 3 ∷ 5 ∷ 5 ∷ 8 ∷ 1 ∷ 0 ∷ 1 ∷ 5 ∷ 1 ∷ 2 ∷ 0 ∷ 1 ∷ 5 ∷ 2 ∷ 5 ∷ 0 ∷ 3 ∷ 6 ∷ 7 ∷ 3 ∷ 2 ∷ 1 ∷ 0 ∷ 5 ∷ 1 ∷ 1 ∷ 0 ∷ 1 ∷ 5 ∷ 5 ∷ 1 ∷ 2 ∷ 6 ∷ []) (4 ∷ 0 ∷ 1 ∷ 4 ∷ 4 ∷ 0 ∷ 2 ∷ 7 ∷ 4 ∷ 0 ∷ 3 ∷ 5 ∷ []) (0 ∷ 0 ∷ 0 ∷ 0 ∷ 0 ∷ 0 ∷ 0 ∷ 0 ∷ 0 ∷ 0 ∷ 0 ∷ 0 ∷ []) (1 ∷ 1 ∷ 0 ∷ []) None 19 8 4 None (1 ∷ 1 ∷ 0 ∷ 1 ∷ 0 ∷ 1 ∷ 1 ∷ 0 ∷ 1 ∷ 1 ∷ 1 ∷ 0 ∷ [])
    -- mul: the low 36 bits of the product
    ∷ row (4 ∷ 0 ∷ 36 ∷ 0 ∷ 4 ∷ 6 ∷ 36 ∷ 0 ∷ []) (5 ∷ 1 ∷ 36 ∷ 0 ∷ 0 ∷ 4 ∷ 0 ∷ 36 ∷ 4294967295 ∷ 5 ∷ 9 ∷ 36 ∷ 0 ∷ 1 ∷ []) (4 ∷ 0 ∷ 1 ∷ 2 ∷ []) (0 ∷ 0 ∷ 0 ∷ 0 ∷ 0 ∷ 0 ∷ 0 ∷ 0 ∷ 0 ∷ 0 ∷ 0 ∷ 0 ∷ 0 ∷ 0 ∷ 0 ∷ 0 ∷ 0 ∷ 0 ∷ 0 ∷ 0 ∷ 0 ∷ 0 ∷ 0 ∷ 0 ∷ 0 ∷ 0 ∷ 0 ∷ 0 ∷ 0 ∷ 0 ∷ 0 ∷ 0 ∷ 0 ∷ 0 ∷ 0 ∷ 0 ∷ 0 ∷ 0 ∷ 0 ∷ 0 ∷ 0 ∷ 0 ∷ 0 ∷ 0 ∷ 0 ∷ 0 ∷ 0 ∷ 0 ∷ 0 ∷ 0 ∷ 0 ∷ 0 ∷ 0 ∷ 0 ∷ 0 ∷ 0 ∷ 0 ∷ 0 ∷ 0 ∷ 0 ∷ 0 ∷ 0 ∷ 0 ∷ 0 ∷ 0 ∷ 0 ∷ 0 ∷ 0 ∷ 0 ∷ 0 ∷ 0 ∷ 0 ∷ []) (1 ∷ 1 ∷ 1 ∷ 1 ∷ 1 ∷ 1 ∷ 1 ∷ 1 ∷ 1 ∷ 1 ∷ 1 ∷ 1 ∷ 1 ∷ 1 ∷ 1 ∷ 1 ∷ 1 ∷ 1 ∷ 1 ∷ 1 ∷ 1 ∷ 1 ∷ 1 ∷ 1 ∷ 1 ∷ 1 ∷ 1 ∷ 1 ∷ 1 ∷ 1 ∷ 1 ∷ 1 ∷ 1 ∷ 1 ∷ 1 ∷ 1 ∷ []) None 108 3 2 None (1 ∷ 1 ∷ 1 ∷ 1 ∷ 1 ∷ 1 ∷ 1 ∷ 1 ∷ 1 ∷ 1 ∷ 1 ∷ 1 ∷ 1 ∷ 1 ∷ 1 ∷ 1 ∷ 1 ∷ 1 ∷ 1 ∷ 1 ∷ 1 ∷ 1 ∷ 1 ∷ 1 ∷ 1 ∷ 1 ∷ 1 ∷ 1 ∷ 1 ∷ 1 ∷ 1 ∷ 1 ∷ 1 ∷ 1 ∷ 1 ∷ 1 ∷ 1 ∷ 0 ∷ 0 ∷ 0 ∷ 0 ∷ 0 ∷ 0 ∷ 0 ∷ 0 ∷ 0 ∷ 0 ∷ 0 ∷ 0 ∷ 0 ∷ 0 ∷ 0 ∷ 0 ∷ 0 ∷ 0 ∷ 0 ∷ 0 ∷ 0 ∷ 0 ∷ 0 ∷ 0 ∷ 0 ∷ 0 ∷ 0 ∷ 0 ∷ 0 ∷ 0 ∷ 0 ∷ 1 ∷ 1 ∷ 1 ∷ 1 ∷ [])
    -- a dead read of itself is no loop
    ∷ row (4 ∷ 2 ∷ 1 ∷ 0 ∷ []) (5 ∷ 1 ∷ 1 ∷ 0 ∷ 0 ∷ 4 ∷ 0 ∷ 1 ∷ 1 ∷ []) (4 ∷ 0 ∷ 0 ∷ 1 ∷ []) (0 ∷ []) [] None 2 2 1 None (1 ∷ [])
    -- longer buffers; the bytes behind are kept
    ∷ row signals exprs stmts (0 ∷ 0 ∷ 0 ∷ 0 ∷ 0 ∷ 0 ∷ 0 ∷ 9 ∷ 8 ∷ []) (1 ∷ 1 ∷ 0 ∷ 0 ∷ []) None 9 10 11 None (1 ∷ 1 ∷ 1 ∷ 1 ∷ 0 ∷ 0 ∷ 0 ∷ 9 ∷ 8 ∷ [])
    -- no records at all
    ∷ row [] [] [] (5 ∷ []) [] None 0 0 0 None (5 ∷ [])
    -- a concat of one part
    ∷ row (4 ∷ 0 ∷ 1 ∷ 0 ∷ 4 ∷ 1 ∷ 1 ∷ 1 ∷ []) (5 ∷ 1 ∷ 1 ∷ 0 ∷ 0 ∷ 4 ∷ 2 ∷ 1 ∷ 0 ∷ []) (4 ∷ 0 ∷ 1 ∷ 1 ∷ []) (0 ∷ 0 ∷ []) (1 ∷ []) None 2 2 2 None (1 ∷ 1 ∷ [])
    -- a register breaks a loop
    ∷ row (4 ∷ 0 ∷ 1 ∷ 0 ∷ 4 ∷ 2 ∷ 1 ∷ 0 ∷ 4 ∷ 2 ∷ 1 ∷ 1 ∷ 4 ∷ 2 ∷ 1 ∷ 2 ∷ 4 ∷ 2 ∷ 1 ∷ 3 ∷ []) (5 ∷ 1 ∷ 1 ∷ 0 ∷ 0 ∷ 5 ∷ 1 ∷ 1 ∷ 1 ∷ 0 ∷ 5 ∷ 1 ∷ 1 ∷ 2 ∷ 0 ∷ 5 ∷ 1 ∷ 1 ∷ 3 ∷ 0 ∷ 5 ∷ 1 ∷ 1 ∷ 4 ∷ 0 ∷ []) (4 ∷ 0 ∷ 1 ∷ 2 ∷ 4 ∷ 0 ∷ 2 ∷ 3 ∷ 4 ∷ 0 ∷ 3 ∷ 4 ∷ 8 ∷ 1 ∷ 4 ∷ 3 ∷ 0 ∷ 0 ∷ 0 ∷ 0 ∷ []) (0 ∷ 0 ∷ 0 ∷ 0 ∷ 1 ∷ []) (1 ∷ []) (Some (0, 0)) 5 5 5 None (1 ∷ 1 ∷ 1 ∷ 1 ∷ 1 ∷ [])
    ∷ []

pub ticks_hold : map (λ c. run largest c.asked) ticks ≡ map (λ c. c.due) ticks
unfolding run answer malformed first_fault split model_of refusal looped reads_all ticked tick settle commit eval_all
ticks_hold = refl

-- 12

abbrev pub malformed_models : List Case
malformed_models =
    -- 12: a length of 0; the split is checked first
    row (4 ∷ 16 ∷ 2 ∷ 0 ∷ 4 ∷ 1 ∷ 1 ∷ 1 ∷ 4 ∷ 2 ∷ 1 ∷ 0 ∷ 4 ∷ 7 ∷ 1 ∷ 0 ∷ 4 ∷ 0 ∷ 1 ∷ 2 ∷ 4 ∷ 0 ∷ 1 ∷ 3 ∷ []) (4 ∷ 0 ∷ 1 ∷ 0 ∷ 4 ∷ 0 ∷ 1 ∷ 1 ∷ 5 ∷ 1 ∷ 1 ∷ 0 ∷ 0 ∷ 5 ∷ 1 ∷ 1 ∷ 0 ∷ 1 ∷ 5 ∷ 4 ∷ 1 ∷ 2 ∷ 3 ∷ 5 ∷ 1 ∷ 1 ∷ 2 ∷ 0 ∷ 5 ∷ 1 ∷ 1 ∷ 3 ∷ 0 ∷ 5 ∷ 6 ∷ 1 ∷ 5 ∷ 6 ∷ 0 ∷ 1 ∷ []) stmts (0 ∷ 0 ∷ 0 ∷ 0 ∷ 0 ∷ 0 ∷ 0 ∷ []) (1 ∷ 1 ∷ 0 ∷ 0 ∷ []) None 8 8 6 (Some (12, 14)) (0 ∷ 0 ∷ 0 ∷ 0 ∷ 0 ∷ 0 ∷ 0 ∷ [])
    -- 12: a record that runs past its list
    ∷ row (4 ∷ 0 ∷ 2 ∷ 0 ∷ 4 ∷ 16 ∷ 1 ∷ 1 ∷ 4 ∷ 2 ∷ 1 ∷ 0 ∷ 4 ∷ 7 ∷ 1 ∷ 0 ∷ 4 ∷ 0 ∷ 1 ∷ 2 ∷ 4 ∷ 0 ∷ 1 ∷ 3 ∷ []) exprs (4 ∷ 0 ∷ 2 ∷ 4 ∷ 4 ∷ 0 ∷ 1 ∷ 7 ∷ 11 ∷ 1 ∷ 3 ∷ 5 ∷ 4 ∷ 0 ∷ 1 ∷ 5 ∷ 1 ∷ 1 ∷ []) (0 ∷ 0 ∷ 0 ∷ 0 ∷ 0 ∷ 0 ∷ 0 ∷ []) (1 ∷ 1 ∷ 0 ∷ 0 ∷ []) None 8 8 6 (Some (12, 16)) (0 ∷ 0 ∷ 0 ∷ 0 ∷ 0 ∷ 0 ∷ 0 ∷ [])
    -- 12: the first list that does not split
    ∷ row (4 ∷ 0 ∷ 2 ∷ 0 ∷ 4 ∷ 1 ∷ 1 ∷ 1 ∷ 4 ∷ 2 ∷ 1 ∷ 0 ∷ 4 ∷ 7 ∷ 1 ∷ 0 ∷ 4 ∷ 0 ∷ 1 ∷ 2 ∷ 4 ∷ 0 ∷ 1 ∷ 3 ∷ 4 ∷ 0 ∷ []) exprs (0 ∷ []) (0 ∷ 0 ∷ 0 ∷ 0 ∷ 0 ∷ 0 ∷ 0 ∷ []) (1 ∷ 1 ∷ 0 ∷ 0 ∷ []) None 8 8 6 (Some (12, 6)) (0 ∷ 0 ∷ 0 ∷ 0 ∷ 0 ∷ 0 ∷ 0 ∷ [])
    -- 12: a label above 15
    ∷ row (4 ∷ 0 ∷ 2 ∷ 0 ∷ 4 ∷ 16 ∷ 1 ∷ 1 ∷ 4 ∷ 2 ∷ 1 ∷ 0 ∷ 4 ∷ 7 ∷ 1 ∷ 0 ∷ 4 ∷ 0 ∷ 1 ∷ 2 ∷ 4 ∷ 0 ∷ 1 ∷ 3 ∷ []) exprs stmts (0 ∷ 0 ∷ 0 ∷ 0 ∷ 0 ∷ 0 ∷ 0 ∷ []) (1 ∷ 1 ∷ 0 ∷ 0 ∷ []) None 8 8 6 (Some (12, 1)) (0 ∷ 0 ∷ 0 ∷ 0 ∷ 0 ∷ 0 ∷ 0 ∷ [])
    -- 12: width 0
    ∷ row (4 ∷ 0 ∷ 2 ∷ 0 ∷ 4 ∷ 1 ∷ 1 ∷ 1 ∷ 4 ∷ 2 ∷ 0 ∷ 0 ∷ 4 ∷ 7 ∷ 1 ∷ 0 ∷ 4 ∷ 0 ∷ 1 ∷ 2 ∷ 4 ∷ 0 ∷ 1 ∷ 3 ∷ []) exprs stmts (0 ∷ 0 ∷ 0 ∷ 0 ∷ 0 ∷ 0 ∷ []) (1 ∷ 1 ∷ 0 ∷ 0 ∷ []) None 8 8 6 (Some (12, 2)) (0 ∷ 0 ∷ 0 ∷ 0 ∷ 0 ∷ 0 ∷ [])
    -- 12: width 4,097
    ∷ row (4 ∷ 0 ∷ 2 ∷ 0 ∷ 4 ∷ 1 ∷ 1 ∷ 1 ∷ 4 ∷ 2 ∷ 4097 ∷ 0 ∷ 4 ∷ 7 ∷ 1 ∷ 0 ∷ 4 ∷ 0 ∷ 1 ∷ 2 ∷ 4 ∷ 0 ∷ 1 ∷ 3 ∷ []) exprs stmts (0 ∷ 0 ∷ 0 ∷ 0 ∷ 0 ∷ 0 ∷ 0 ∷ []) (1 ∷ 1 ∷ 0 ∷ 0 ∷ []) None 8 8 6 (Some (12, 2)) (0 ∷ 0 ∷ 0 ∷ 0 ∷ 0 ∷ 0 ∷ 0 ∷ [])
    -- 12: a signal record with a field more
    ∷ row (4 ∷ 0 ∷ 2 ∷ 0 ∷ 5 ∷ 1 ∷ 1 ∷ 1 ∷ 0 ∷ 4 ∷ 2 ∷ 1 ∷ 0 ∷ 4 ∷ 7 ∷ 1 ∷ 0 ∷ 4 ∷ 0 ∷ 1 ∷ 2 ∷ 4 ∷ 0 ∷ 1 ∷ 3 ∷ []) exprs stmts (0 ∷ 0 ∷ 0 ∷ 0 ∷ 0 ∷ 0 ∷ 0 ∷ []) (1 ∷ 1 ∷ 0 ∷ 0 ∷ []) None 8 8 6 (Some (12, 1)) (0 ∷ 0 ∷ 0 ∷ 0 ∷ 0 ∷ 0 ∷ 0 ∷ [])
    -- 12: an input with a statement
    ∷ row signals exprs (4 ∷ 0 ∷ 2 ∷ 4 ∷ 4 ∷ 0 ∷ 1 ∷ 7 ∷ 11 ∷ 1 ∷ 3 ∷ 5 ∷ 4 ∷ 0 ∷ 1 ∷ 5 ∷ 1 ∷ 1 ∷ 0 ∷ 4 ∷ 0 ∷ 4 ∷ 0 ∷ []) (0 ∷ 0 ∷ 0 ∷ 0 ∷ 0 ∷ 0 ∷ 0 ∷ []) (1 ∷ 1 ∷ 0 ∷ 0 ∷ []) None 8 8 6 (Some (12, 4)) (0 ∷ 0 ∷ 0 ∷ 0 ∷ 0 ∷ 0 ∷ 0 ∷ [])
    -- 12: no statement
    ∷ row signals exprs (4 ∷ 0 ∷ 1 ∷ 7 ∷ 11 ∷ 1 ∷ 3 ∷ 5 ∷ 4 ∷ 0 ∷ 1 ∷ 5 ∷ 1 ∷ 1 ∷ 0 ∷ []) (0 ∷ 0 ∷ 0 ∷ 0 ∷ 0 ∷ 0 ∷ 0 ∷ []) (1 ∷ 1 ∷ 0 ∷ 0 ∷ []) None 8 8 6 (Some (12, 2)) (0 ∷ 0 ∷ 0 ∷ 0 ∷ 0 ∷ 0 ∷ 0 ∷ [])
    -- 12: two statements
    ∷ row signals exprs (4 ∷ 0 ∷ 2 ∷ 4 ∷ 4 ∷ 0 ∷ 1 ∷ 7 ∷ 11 ∷ 1 ∷ 3 ∷ 5 ∷ 4 ∷ 0 ∷ 1 ∷ 5 ∷ 1 ∷ 1 ∷ 0 ∷ 4 ∷ 0 ∷ 1 ∷ 7 ∷ []) (0 ∷ 0 ∷ 0 ∷ 0 ∷ 0 ∷ 0 ∷ 0 ∷ []) (1 ∷ 1 ∷ 0 ∷ 0 ∷ []) None 8 8 6 (Some (12, 1)) (0 ∷ 0 ∷ 0 ∷ 0 ∷ 0 ∷ 0 ∷ 0 ∷ [])
    -- 12: a statement counts though its expression is unknown
    ∷ row signals exprs (4 ∷ 0 ∷ 2 ∷ 4 ∷ 4 ∷ 0 ∷ 1 ∷ 99 ∷ 11 ∷ 1 ∷ 3 ∷ 5 ∷ 4 ∷ 0 ∷ 1 ∷ 5 ∷ 1 ∷ 1 ∷ 0 ∷ []) (0 ∷ 0 ∷ 0 ∷ 0 ∷ 0 ∷ 0 ∷ 0 ∷ []) (1 ∷ 1 ∷ 0 ∷ 0 ∷ []) None 8 8 6 (Some (12, 15)) (0 ∷ 0 ∷ 0 ∷ 0 ∷ 0 ∷ 0 ∷ 0 ∷ [])
    -- 12: a statement of an unknown kind counts for no signal
    ∷ row signals exprs (4 ∷ 2 ∷ 2 ∷ 4 ∷ 4 ∷ 0 ∷ 1 ∷ 7 ∷ 11 ∷ 1 ∷ 3 ∷ 5 ∷ 4 ∷ 0 ∷ 1 ∷ 5 ∷ 1 ∷ 1 ∷ 0 ∷ []) (0 ∷ 0 ∷ 0 ∷ 0 ∷ 0 ∷ 0 ∷ 0 ∷ []) (1 ∷ 1 ∷ 0 ∷ 0 ∷ []) None 8 8 6 (Some (12, 2)) (0 ∷ 0 ∷ 0 ∷ 0 ∷ 0 ∷ 0 ∷ 0 ∷ [])
    -- 12: a constant that does not fit
    ∷ row signals (4 ∷ 0 ∷ 1 ∷ 0 ∷ 4 ∷ 0 ∷ 1 ∷ 2 ∷ 5 ∷ 1 ∷ 1 ∷ 0 ∷ 0 ∷ 5 ∷ 1 ∷ 1 ∷ 0 ∷ 1 ∷ 5 ∷ 4 ∷ 1 ∷ 2 ∷ 3 ∷ 5 ∷ 1 ∷ 1 ∷ 2 ∷ 0 ∷ 5 ∷ 1 ∷ 1 ∷ 3 ∷ 0 ∷ 5 ∷ 6 ∷ 1 ∷ 5 ∷ 6 ∷ []) stmts (0 ∷ 0 ∷ 0 ∷ 0 ∷ 0 ∷ 0 ∷ 0 ∷ []) (1 ∷ 1 ∷ 0 ∷ 0 ∷ []) None 8 8 6 (Some (12, 7)) (0 ∷ 0 ∷ 0 ∷ 0 ∷ 0 ∷ 0 ∷ 0 ∷ [])
    -- 12: a read past the end of its signal
    ∷ row signals (4 ∷ 0 ∷ 1 ∷ 0 ∷ 4 ∷ 0 ∷ 1 ∷ 1 ∷ 5 ∷ 1 ∷ 1 ∷ 0 ∷ 0 ∷ 5 ∷ 1 ∷ 1 ∷ 0 ∷ 2 ∷ 5 ∷ 4 ∷ 1 ∷ 2 ∷ 3 ∷ 5 ∷ 1 ∷ 1 ∷ 2 ∷ 0 ∷ 5 ∷ 1 ∷ 1 ∷ 3 ∷ 0 ∷ 5 ∷ 6 ∷ 1 ∷ 5 ∷ 6 ∷ []) stmts (0 ∷ 0 ∷ 0 ∷ 0 ∷ 0 ∷ 0 ∷ 0 ∷ []) (1 ∷ 1 ∷ 0 ∷ 0 ∷ []) None 8 8 6 (Some (12, 9)) (0 ∷ 0 ∷ 0 ∷ 0 ∷ 0 ∷ 0 ∷ 0 ∷ [])
    -- 12: a read of an unknown signal
    ∷ row signals (4 ∷ 0 ∷ 1 ∷ 0 ∷ 4 ∷ 0 ∷ 1 ∷ 1 ∷ 5 ∷ 1 ∷ 1 ∷ 0 ∷ 0 ∷ 5 ∷ 1 ∷ 1 ∷ 6 ∷ 0 ∷ 5 ∷ 4 ∷ 1 ∷ 2 ∷ 3 ∷ 5 ∷ 1 ∷ 1 ∷ 2 ∷ 0 ∷ 5 ∷ 1 ∷ 1 ∷ 3 ∷ 0 ∷ 5 ∷ 6 ∷ 1 ∷ 5 ∷ 6 ∷ []) stmts (0 ∷ 0 ∷ 0 ∷ 0 ∷ 0 ∷ 0 ∷ 0 ∷ []) (1 ∷ 1 ∷ 0 ∷ 0 ∷ []) None 8 8 6 (Some (12, 9)) (0 ∷ 0 ∷ 0 ∷ 0 ∷ 0 ∷ 0 ∷ 0 ∷ [])
    -- 12: an operand that is not earlier
    ∷ row signals (4 ∷ 0 ∷ 1 ∷ 0 ∷ 4 ∷ 0 ∷ 1 ∷ 1 ∷ 5 ∷ 1 ∷ 1 ∷ 0 ∷ 0 ∷ 5 ∷ 1 ∷ 1 ∷ 0 ∷ 1 ∷ 5 ∷ 4 ∷ 1 ∷ 2 ∷ 4 ∷ 5 ∷ 1 ∷ 1 ∷ 2 ∷ 0 ∷ 5 ∷ 1 ∷ 1 ∷ 3 ∷ 0 ∷ 5 ∷ 6 ∷ 1 ∷ 5 ∷ 6 ∷ []) stmts (0 ∷ 0 ∷ 0 ∷ 0 ∷ 0 ∷ 0 ∷ 0 ∷ []) (1 ∷ 1 ∷ 0 ∷ 0 ∷ []) None 8 8 6 (Some (12, 10)) (0 ∷ 0 ∷ 0 ∷ 0 ∷ 0 ∷ 0 ∷ 0 ∷ [])
    -- 12: an operand of two bits
    ∷ row signals (4 ∷ 0 ∷ 1 ∷ 0 ∷ 4 ∷ 0 ∷ 1 ∷ 1 ∷ 5 ∷ 1 ∷ 2 ∷ 0 ∷ 0 ∷ 5 ∷ 1 ∷ 1 ∷ 0 ∷ 1 ∷ 5 ∷ 4 ∷ 1 ∷ 2 ∷ 3 ∷ 5 ∷ 1 ∷ 1 ∷ 2 ∷ 0 ∷ 5 ∷ 1 ∷ 1 ∷ 3 ∷ 0 ∷ 5 ∷ 6 ∷ 1 ∷ 5 ∷ 6 ∷ []) stmts (0 ∷ 0 ∷ 0 ∷ 0 ∷ 0 ∷ 0 ∷ 0 ∷ []) (1 ∷ 1 ∷ 0 ∷ 0 ∷ []) None 9 8 6 (Some (12, 10)) (0 ∷ 0 ∷ 0 ∷ 0 ∷ 0 ∷ 0 ∷ 0 ∷ [])
    -- 12: an unknown kind
    ∷ row signals (4 ∷ 0 ∷ 1 ∷ 0 ∷ 4 ∷ 0 ∷ 1 ∷ 1 ∷ 5 ∷ 1 ∷ 1 ∷ 0 ∷ 0 ∷ 5 ∷ 1 ∷ 1 ∷ 0 ∷ 1 ∷ 5 ∷ 4 ∷ 1 ∷ 2 ∷ 3 ∷ 5 ∷ 1 ∷ 1 ∷ 2 ∷ 0 ∷ 5 ∷ 1 ∷ 1 ∷ 3 ∷ 0 ∷ 5 ∷ 10 ∷ 1 ∷ 5 ∷ 6 ∷ []) stmts (0 ∷ 0 ∷ 0 ∷ 0 ∷ 0 ∷ 0 ∷ 0 ∷ []) (1 ∷ 1 ∷ 0 ∷ 0 ∷ []) None 8 8 6 (Some (12, 13)) (0 ∷ 0 ∷ 0 ∷ 0 ∷ 0 ∷ 0 ∷ 0 ∷ [])
    -- 12: an and of width 2
    ∷ row signals (4 ∷ 0 ∷ 1 ∷ 0 ∷ 4 ∷ 0 ∷ 1 ∷ 1 ∷ 5 ∷ 1 ∷ 1 ∷ 0 ∷ 0 ∷ 5 ∷ 1 ∷ 1 ∷ 0 ∷ 1 ∷ 5 ∷ 4 ∷ 1 ∷ 2 ∷ 3 ∷ 5 ∷ 1 ∷ 1 ∷ 2 ∷ 0 ∷ 5 ∷ 1 ∷ 1 ∷ 3 ∷ 0 ∷ 5 ∷ 4 ∷ 2 ∷ 5 ∷ 6 ∷ []) stmts (0 ∷ 0 ∷ 0 ∷ 0 ∷ 0 ∷ 0 ∷ 0 ∷ []) (1 ∷ 1 ∷ 0 ∷ 0 ∷ []) None 9 8 6 (Some (12, 13)) (0 ∷ 0 ∷ 0 ∷ 0 ∷ 0 ∷ 0 ∷ 0 ∷ [])
    -- 12: a field too few
    ∷ row signals (4 ∷ 0 ∷ 1 ∷ 0 ∷ 4 ∷ 0 ∷ 1 ∷ 1 ∷ 5 ∷ 1 ∷ 1 ∷ 0 ∷ 0 ∷ 5 ∷ 1 ∷ 1 ∷ 0 ∷ 1 ∷ 5 ∷ 4 ∷ 1 ∷ 2 ∷ 3 ∷ 5 ∷ 1 ∷ 1 ∷ 2 ∷ 0 ∷ 5 ∷ 1 ∷ 1 ∷ 3 ∷ 0 ∷ 4 ∷ 6 ∷ 1 ∷ 5 ∷ []) stmts (0 ∷ 0 ∷ 0 ∷ 0 ∷ 0 ∷ 0 ∷ 0 ∷ []) (1 ∷ 1 ∷ 0 ∷ 0 ∷ []) None 8 8 6 (Some (12, 13)) (0 ∷ 0 ∷ 0 ∷ 0 ∷ 0 ∷ 0 ∷ 0 ∷ [])
    -- 12: a concat of another sum
    ∷ row signals (4 ∷ 0 ∷ 1 ∷ 0 ∷ 4 ∷ 0 ∷ 1 ∷ 1 ∷ 5 ∷ 1 ∷ 1 ∷ 0 ∷ 0 ∷ 5 ∷ 1 ∷ 1 ∷ 0 ∷ 1 ∷ 5 ∷ 4 ∷ 1 ∷ 2 ∷ 3 ∷ 5 ∷ 1 ∷ 1 ∷ 2 ∷ 0 ∷ 5 ∷ 1 ∷ 1 ∷ 3 ∷ 0 ∷ 5 ∷ 6 ∷ 1 ∷ 5 ∷ 6 ∷ 5 ∷ 2 ∷ 3 ∷ 0 ∷ 1 ∷ []) stmts (0 ∷ 0 ∷ 0 ∷ 0 ∷ 0 ∷ 0 ∷ 0 ∷ []) (1 ∷ 1 ∷ 0 ∷ 0 ∷ []) None 11 9 6 (Some (12, 14)) (0 ∷ 0 ∷ 0 ∷ 0 ∷ 0 ∷ 0 ∷ 0 ∷ [])
    -- 12: a concat of nothing
    ∷ row signals (4 ∷ 0 ∷ 1 ∷ 0 ∷ 4 ∷ 0 ∷ 1 ∷ 1 ∷ 5 ∷ 1 ∷ 1 ∷ 0 ∷ 0 ∷ 5 ∷ 1 ∷ 1 ∷ 0 ∷ 1 ∷ 5 ∷ 4 ∷ 1 ∷ 2 ∷ 3 ∷ 5 ∷ 1 ∷ 1 ∷ 2 ∷ 0 ∷ 5 ∷ 1 ∷ 1 ∷ 3 ∷ 0 ∷ 5 ∷ 6 ∷ 1 ∷ 5 ∷ 6 ∷ 3 ∷ 2 ∷ 0 ∷ []) stmts (0 ∷ 0 ∷ 0 ∷ 0 ∷ 0 ∷ 0 ∷ 0 ∷ []) (1 ∷ 1 ∷ 0 ∷ 0 ∷ []) None 8 9 6 (Some (12, 14)) (0 ∷ 0 ∷ 0 ∷ 0 ∷ 0 ∷ 0 ∷ 0 ∷ [])
    -- 12: the sides of an eq differ
    ∷ row signals (4 ∷ 0 ∷ 1 ∷ 0 ∷ 4 ∷ 0 ∷ 1 ∷ 1 ∷ 5 ∷ 1 ∷ 1 ∷ 0 ∷ 0 ∷ 5 ∷ 1 ∷ 1 ∷ 0 ∷ 1 ∷ 5 ∷ 4 ∷ 1 ∷ 2 ∷ 3 ∷ 5 ∷ 1 ∷ 1 ∷ 2 ∷ 0 ∷ 5 ∷ 1 ∷ 1 ∷ 3 ∷ 0 ∷ 5 ∷ 6 ∷ 1 ∷ 5 ∷ 6 ∷ 5 ∷ 1 ∷ 2 ∷ 0 ∷ 0 ∷ 5 ∷ 8 ∷ 1 ∷ 0 ∷ 8 ∷ []) stmts (0 ∷ 0 ∷ 0 ∷ 0 ∷ 0 ∷ 0 ∷ 0 ∷ []) (1 ∷ 1 ∷ 0 ∷ 0 ∷ []) None 11 10 6 (Some (12, 15)) (0 ∷ 0 ∷ 0 ∷ 0 ∷ 0 ∷ 0 ∷ 0 ∷ [])
    -- 12: an arm of a mux is wider
    ∷ row signals (4 ∷ 0 ∷ 1 ∷ 0 ∷ 4 ∷ 0 ∷ 1 ∷ 1 ∷ 5 ∷ 1 ∷ 1 ∷ 0 ∷ 0 ∷ 5 ∷ 1 ∷ 1 ∷ 0 ∷ 1 ∷ 5 ∷ 4 ∷ 1 ∷ 2 ∷ 3 ∷ 5 ∷ 1 ∷ 1 ∷ 2 ∷ 0 ∷ 5 ∷ 1 ∷ 1 ∷ 3 ∷ 0 ∷ 5 ∷ 6 ∷ 1 ∷ 5 ∷ 6 ∷ 5 ∷ 1 ∷ 2 ∷ 0 ∷ 0 ∷ 6 ∷ 7 ∷ 1 ∷ 0 ∷ 8 ∷ 1 ∷ []) stmts (0 ∷ 0 ∷ 0 ∷ 0 ∷ 0 ∷ 0 ∷ 0 ∷ []) (1 ∷ 1 ∷ 0 ∷ 0 ∷ []) None 11 10 6 (Some (12, 15)) (0 ∷ 0 ∷ 0 ∷ 0 ∷ 0 ∷ 0 ∷ 0 ∷ [])
    -- 12: a select of two bits
    ∷ row signals (4 ∷ 0 ∷ 1 ∷ 0 ∷ 4 ∷ 0 ∷ 1 ∷ 1 ∷ 5 ∷ 1 ∷ 1 ∷ 0 ∷ 0 ∷ 5 ∷ 1 ∷ 1 ∷ 0 ∷ 1 ∷ 5 ∷ 4 ∷ 1 ∷ 2 ∷ 3 ∷ 5 ∷ 1 ∷ 1 ∷ 2 ∷ 0 ∷ 5 ∷ 1 ∷ 1 ∷ 3 ∷ 0 ∷ 5 ∷ 6 ∷ 1 ∷ 5 ∷ 6 ∷ 5 ∷ 1 ∷ 2 ∷ 0 ∷ 0 ∷ 6 ∷ 7 ∷ 1 ∷ 8 ∷ 0 ∷ 1 ∷ []) stmts (0 ∷ 0 ∷ 0 ∷ 0 ∷ 0 ∷ 0 ∷ 0 ∷ []) (1 ∷ 1 ∷ 0 ∷ 0 ∷ []) None 11 10 6 (Some (12, 15)) (0 ∷ 0 ∷ 0 ∷ 0 ∷ 0 ∷ 0 ∷ 0 ∷ [])
    -- 12: a mul of 1 bit
    ∷ row signals (4 ∷ 0 ∷ 1 ∷ 0 ∷ 4 ∷ 0 ∷ 1 ∷ 1 ∷ 5 ∷ 1 ∷ 1 ∷ 0 ∷ 0 ∷ 5 ∷ 1 ∷ 1 ∷ 0 ∷ 1 ∷ 5 ∷ 4 ∷ 1 ∷ 2 ∷ 3 ∷ 5 ∷ 1 ∷ 1 ∷ 2 ∷ 0 ∷ 5 ∷ 1 ∷ 1 ∷ 3 ∷ 0 ∷ 5 ∷ 6 ∷ 1 ∷ 5 ∷ 6 ∷ 5 ∷ 9 ∷ 36 ∷ 0 ∷ 1 ∷ []) stmts (0 ∷ 0 ∷ 0 ∷ 0 ∷ 0 ∷ 0 ∷ 0 ∷ []) (1 ∷ 1 ∷ 0 ∷ 0 ∷ []) None 44 9 6 (Some (12, 14)) (0 ∷ 0 ∷ 0 ∷ 0 ∷ 0 ∷ 0 ∷ 0 ∷ [])
    -- 12: a target of another width
    ∷ row signals (4 ∷ 0 ∷ 1 ∷ 0 ∷ 4 ∷ 0 ∷ 1 ∷ 1 ∷ 5 ∷ 1 ∷ 1 ∷ 0 ∷ 0 ∷ 5 ∷ 1 ∷ 1 ∷ 0 ∷ 1 ∷ 5 ∷ 4 ∷ 1 ∷ 2 ∷ 3 ∷ 5 ∷ 1 ∷ 1 ∷ 2 ∷ 0 ∷ 5 ∷ 1 ∷ 1 ∷ 3 ∷ 0 ∷ 5 ∷ 6 ∷ 1 ∷ 5 ∷ 6 ∷ 5 ∷ 1 ∷ 2 ∷ 0 ∷ 0 ∷ []) (4 ∷ 0 ∷ 2 ∷ 8 ∷ 4 ∷ 0 ∷ 1 ∷ 7 ∷ 11 ∷ 1 ∷ 3 ∷ 5 ∷ 4 ∷ 0 ∷ 1 ∷ 5 ∷ 1 ∷ 1 ∷ 0 ∷ []) (0 ∷ 0 ∷ 0 ∷ 0 ∷ 0 ∷ 0 ∷ 0 ∷ []) (1 ∷ 1 ∷ 0 ∷ 0 ∷ []) None 10 9 6 (Some (12, 15)) (0 ∷ 0 ∷ 0 ∷ 0 ∷ 0 ∷ 0 ∷ 0 ∷ [])
    -- 12: a clock of two bits
    ∷ row signals exprs (4 ∷ 0 ∷ 2 ∷ 4 ∷ 4 ∷ 0 ∷ 1 ∷ 7 ∷ 8 ∷ 1 ∷ 3 ∷ 5 ∷ 0 ∷ 0 ∷ 0 ∷ 0 ∷ []) (0 ∷ 0 ∷ 0 ∷ 0 ∷ 0 ∷ 0 ∷ 0 ∷ []) (1 ∷ 1 ∷ 0 ∷ 0 ∷ []) None 8 8 6 (Some (12, 16)) (0 ∷ 0 ∷ 0 ∷ 0 ∷ 0 ∷ 0 ∷ 0 ∷ [])
    -- 12: edge 2
    ∷ row signals exprs (4 ∷ 0 ∷ 2 ∷ 4 ∷ 4 ∷ 0 ∷ 1 ∷ 7 ∷ 8 ∷ 1 ∷ 3 ∷ 5 ∷ 4 ∷ 2 ∷ 0 ∷ 0 ∷ []) (0 ∷ 0 ∷ 0 ∷ 0 ∷ 0 ∷ 0 ∷ 0 ∷ []) (1 ∷ 1 ∷ 0 ∷ 0 ∷ []) None 8 8 6 (Some (12, 16)) (0 ∷ 0 ∷ 0 ∷ 0 ∷ 0 ∷ 0 ∷ 0 ∷ [])
    -- 12: a level of 2
    ∷ row signals exprs (4 ∷ 0 ∷ 2 ∷ 4 ∷ 4 ∷ 0 ∷ 1 ∷ 7 ∷ 11 ∷ 1 ∷ 3 ∷ 5 ∷ 4 ∷ 0 ∷ 1 ∷ 5 ∷ 2 ∷ 1 ∷ 0 ∷ []) (0 ∷ 0 ∷ 0 ∷ 0 ∷ 0 ∷ 0 ∷ 0 ∷ []) (1 ∷ 1 ∷ 0 ∷ 0 ∷ []) None 8 8 6 (Some (12, 16)) (0 ∷ 0 ∷ 0 ∷ 0 ∷ 0 ∷ 0 ∷ 0 ∷ [])
    -- 12: an enable of level 2
    ∷ row signals exprs (4 ∷ 0 ∷ 2 ∷ 4 ∷ 4 ∷ 0 ∷ 1 ∷ 7 ∷ 10 ∷ 1 ∷ 3 ∷ 5 ∷ 4 ∷ 0 ∷ 0 ∷ 1 ∷ 5 ∷ 2 ∷ []) (0 ∷ 0 ∷ 0 ∷ 0 ∷ 0 ∷ 0 ∷ 0 ∷ []) (1 ∷ 1 ∷ 0 ∷ 0 ∷ []) None 8 8 6 (Some (12, 16)) (0 ∷ 0 ∷ 0 ∷ 0 ∷ 0 ∷ 0 ∷ 0 ∷ [])
    -- 12: an enable of two bits
    ∷ row signals exprs (4 ∷ 0 ∷ 2 ∷ 4 ∷ 4 ∷ 0 ∷ 1 ∷ 7 ∷ 10 ∷ 1 ∷ 3 ∷ 5 ∷ 4 ∷ 0 ∷ 0 ∷ 1 ∷ 0 ∷ 1 ∷ []) (0 ∷ 0 ∷ 0 ∷ 0 ∷ 0 ∷ 0 ∷ 0 ∷ []) (1 ∷ 1 ∷ 0 ∷ 0 ∷ []) None 8 8 6 (Some (12, 16)) (0 ∷ 0 ∷ 0 ∷ 0 ∷ 0 ∷ 0 ∷ 0 ∷ [])
    -- 12: a reset of two bits
    ∷ row signals exprs (4 ∷ 0 ∷ 2 ∷ 4 ∷ 4 ∷ 0 ∷ 1 ∷ 7 ∷ 11 ∷ 1 ∷ 3 ∷ 5 ∷ 4 ∷ 0 ∷ 1 ∷ 0 ∷ 1 ∷ 1 ∷ 0 ∷ []) (0 ∷ 0 ∷ 0 ∷ 0 ∷ 0 ∷ 0 ∷ 0 ∷ []) (1 ∷ 1 ∷ 0 ∷ 0 ∷ []) None 8 8 6 (Some (12, 16)) (0 ∷ 0 ∷ 0 ∷ 0 ∷ 0 ∷ 0 ∷ 0 ∷ [])
    -- 12: a reset value of another width
    ∷ row signals (4 ∷ 0 ∷ 1 ∷ 0 ∷ 4 ∷ 0 ∷ 1 ∷ 1 ∷ 5 ∷ 1 ∷ 1 ∷ 0 ∷ 0 ∷ 5 ∷ 1 ∷ 1 ∷ 0 ∷ 1 ∷ 5 ∷ 4 ∷ 1 ∷ 2 ∷ 3 ∷ 5 ∷ 1 ∷ 1 ∷ 2 ∷ 0 ∷ 5 ∷ 1 ∷ 1 ∷ 3 ∷ 0 ∷ 5 ∷ 6 ∷ 1 ∷ 5 ∷ 6 ∷ 5 ∷ 1 ∷ 2 ∷ 0 ∷ 0 ∷ []) (4 ∷ 0 ∷ 2 ∷ 4 ∷ 4 ∷ 0 ∷ 1 ∷ 7 ∷ 11 ∷ 1 ∷ 3 ∷ 5 ∷ 4 ∷ 0 ∷ 1 ∷ 5 ∷ 1 ∷ 8 ∷ 0 ∷ []) (0 ∷ 0 ∷ 0 ∷ 0 ∷ 0 ∷ 0 ∷ 0 ∷ []) (1 ∷ 1 ∷ 0 ∷ 0 ∷ []) None 10 9 6 (Some (12, 17)) (0 ∷ 0 ∷ 0 ∷ 0 ∷ 0 ∷ 0 ∷ 0 ∷ [])
    -- 12: a clock that is not there
    ∷ row signals exprs (4 ∷ 0 ∷ 2 ∷ 4 ∷ 4 ∷ 0 ∷ 1 ∷ 7 ∷ 8 ∷ 1 ∷ 3 ∷ 5 ∷ 6 ∷ 0 ∷ 0 ∷ 0 ∷ []) (0 ∷ 0 ∷ 0 ∷ 0 ∷ 0 ∷ 0 ∷ 0 ∷ []) (1 ∷ 1 ∷ 0 ∷ 0 ∷ []) None 8 8 6 (Some (12, 16)) (0 ∷ 0 ∷ 0 ∷ 0 ∷ 0 ∷ 0 ∷ 0 ∷ [])
    -- 12: words after the enable
    ∷ row signals exprs (4 ∷ 0 ∷ 2 ∷ 4 ∷ 4 ∷ 0 ∷ 1 ∷ 7 ∷ 9 ∷ 1 ∷ 3 ∷ 5 ∷ 4 ∷ 0 ∷ 0 ∷ 0 ∷ 0 ∷ []) (0 ∷ 0 ∷ 0 ∷ 0 ∷ 0 ∷ 0 ∷ 0 ∷ []) (1 ∷ 1 ∷ 0 ∷ 0 ∷ []) None 8 8 6 (Some (12, 16)) (0 ∷ 0 ∷ 0 ∷ 0 ∷ 0 ∷ 0 ∷ 0 ∷ [])
    ∷ []

pub malformed_models_hold : map (λ c. run largest c.asked) malformed_models ≡ map (λ c. c.due) malformed_models
unfolding run answer malformed first_fault split model_of refusal looped reads_all ticked tick settle commit eval_all
malformed_models_hold = refl

-- 1

abbrev pub short_buffers : List Case
short_buffers =
    -- 1: signal bytes come first
    row signals exprs stmts (0 ∷ 0 ∷ 0 ∷ 0 ∷ 0 ∷ 0 ∷ []) (1 ∷ 1 ∷ 0 ∷ 0 ∷ []) None 7 8 6 (Some (1, 7)) (0 ∷ 0 ∷ 0 ∷ 0 ∷ 0 ∷ 0 ∷ [])
    -- 1: expression bits
    ∷ row signals exprs stmts (0 ∷ 0 ∷ 0 ∷ 0 ∷ 0 ∷ 0 ∷ 0 ∷ []) (1 ∷ 1 ∷ 0 ∷ 0 ∷ []) None 7 7 5 (Some (1, 8)) (0 ∷ 0 ∷ 0 ∷ 0 ∷ 0 ∷ 0 ∷ 0 ∷ [])
    -- 1: expressions
    ∷ row signals exprs stmts (0 ∷ 0 ∷ 0 ∷ 0 ∷ 0 ∷ 0 ∷ 0 ∷ []) (1 ∷ 1 ∷ 0 ∷ 0 ∷ []) None 8 7 5 (Some (1, 8)) (0 ∷ 0 ∷ 0 ∷ 0 ∷ 0 ∷ 0 ∷ 0 ∷ [])
    -- 1: signals; before 14
    ∷ row signals exprs stmts (2 ∷ 0 ∷ 0 ∷ 0 ∷ 0 ∷ 0 ∷ 0 ∷ []) (1 ∷ 1 ∷ 0 ∷ 0 ∷ []) None 8 8 5 (Some (1, 6)) (2 ∷ 0 ∷ 0 ∷ 0 ∷ 0 ∷ 0 ∷ 0 ∷ [])
    -- 1: a constant of 4,096 bits is taken
    ∷ row signals (4 ∷ 0 ∷ 1 ∷ 0 ∷ 4 ∷ 0 ∷ 1 ∷ 1 ∷ 5 ∷ 1 ∷ 1 ∷ 0 ∷ 0 ∷ 5 ∷ 1 ∷ 1 ∷ 0 ∷ 1 ∷ 5 ∷ 4 ∷ 1 ∷ 2 ∷ 3 ∷ 5 ∷ 1 ∷ 1 ∷ 2 ∷ 0 ∷ 5 ∷ 1 ∷ 1 ∷ 3 ∷ 0 ∷ 5 ∷ 6 ∷ 1 ∷ 5 ∷ 6 ∷ 4 ∷ 0 ∷ 4096 ∷ 7 ∷ []) stmts (0 ∷ 0 ∷ 0 ∷ 0 ∷ 0 ∷ 0 ∷ 0 ∷ []) (1 ∷ 1 ∷ 0 ∷ 0 ∷ []) None 8 9 6 (Some (1, 4104)) (0 ∷ 0 ∷ 0 ∷ 0 ∷ 0 ∷ 0 ∷ 0 ∷ [])
    ∷ []

pub short_buffers_hold : map (λ c. run largest c.asked) short_buffers ≡ map (λ c. c.due) short_buffers
unfolding run answer malformed first_fault split model_of refusal looped reads_all ticked tick settle commit eval_all
short_buffers_hold = refl

-- 14

abbrev pub bad_ticks : List Case
bad_ticks =
    -- 14: a signal byte
    row signals exprs stmts (0 ∷ 0 ∷ 0 ∷ 2 ∷ 0 ∷ 0 ∷ 3 ∷ []) (1 ∷ []) (Some (9, 0)) 8 8 6 (Some (14, 3)) (0 ∷ 0 ∷ 0 ∷ 2 ∷ 0 ∷ 0 ∷ 3 ∷ [])
    -- 14: the count of tick bits
    ∷ row signals exprs stmts (0 ∷ 0 ∷ 0 ∷ 0 ∷ 0 ∷ 0 ∷ 0 ∷ []) (1 ∷ 2 ∷ 0 ∷ []) (Some (9, 0)) 8 8 6 (Some (14, 4)) (0 ∷ 0 ∷ 0 ∷ 0 ∷ 0 ∷ 0 ∷ 0 ∷ [])
    -- 14: a tick bit
    ∷ row signals exprs stmts (0 ∷ 0 ∷ 0 ∷ 0 ∷ 0 ∷ 0 ∷ 0 ∷ []) (1 ∷ 1 ∷ 4 ∷ 0 ∷ []) (Some (9, 0)) 8 8 6 (Some (14, 2)) (0 ∷ 0 ∷ 0 ∷ 0 ∷ 0 ∷ 0 ∷ 0 ∷ [])
    -- 14: the fired signal
    ∷ row signals exprs stmts (0 ∷ 0 ∷ 0 ∷ 0 ∷ 0 ∷ 0 ∷ 0 ∷ []) (1 ∷ 1 ∷ 0 ∷ 0 ∷ []) (Some (6, 0)) 8 8 6 (Some (14, 0)) (0 ∷ 0 ∷ 0 ∷ 0 ∷ 0 ∷ 0 ∷ 0 ∷ [])
    -- 14: the edge
    ∷ row signals exprs stmts (0 ∷ 0 ∷ 0 ∷ 0 ∷ 0 ∷ 0 ∷ 0 ∷ []) (1 ∷ 1 ∷ 0 ∷ 0 ∷ []) (Some (4, 2)) 8 8 6 (Some (14, 0)) (0 ∷ 0 ∷ 0 ∷ 0 ∷ 0 ∷ 0 ∷ 0 ∷ [])
    -- 14 before 13
    ∷ row (4 ∷ 0 ∷ 1 ∷ 0 ∷ 4 ∷ 2 ∷ 1 ∷ 0 ∷ 4 ∷ 2 ∷ 1 ∷ 1 ∷ 4 ∷ 2 ∷ 1 ∷ 2 ∷ 4 ∷ 2 ∷ 1 ∷ 3 ∷ []) (5 ∷ 1 ∷ 1 ∷ 0 ∷ 0 ∷ 5 ∷ 1 ∷ 1 ∷ 1 ∷ 0 ∷ 5 ∷ 1 ∷ 1 ∷ 2 ∷ 0 ∷ 5 ∷ 1 ∷ 1 ∷ 3 ∷ 0 ∷ 5 ∷ 1 ∷ 1 ∷ 4 ∷ 0 ∷ []) (4 ∷ 0 ∷ 1 ∷ 2 ∷ 4 ∷ 0 ∷ 2 ∷ 3 ∷ 4 ∷ 0 ∷ 3 ∷ 4 ∷ 4 ∷ 0 ∷ 4 ∷ 3 ∷ []) (0 ∷ 0 ∷ 0 ∷ 0 ∷ 0 ∷ []) (1 ∷ []) (Some (0, 2)) 5 5 5 (Some (14, 0)) (0 ∷ 0 ∷ 0 ∷ 0 ∷ 0 ∷ [])
    ∷ []

pub bad_ticks_hold : map (λ c. run largest c.asked) bad_ticks ≡ map (λ c. c.due) bad_ticks
unfolding run answer malformed first_fault split model_of refusal looped reads_all ticked tick settle commit eval_all
bad_ticks_hold = refl

-- 13

abbrev pub loops : List Case
loops =
    -- 13: the lowest signal on a loop, not one that only reads it
    row (4 ∷ 0 ∷ 1 ∷ 0 ∷ 4 ∷ 2 ∷ 1 ∷ 0 ∷ 4 ∷ 2 ∷ 1 ∷ 1 ∷ 4 ∷ 2 ∷ 1 ∷ 2 ∷ 4 ∷ 2 ∷ 1 ∷ 3 ∷ []) (5 ∷ 1 ∷ 1 ∷ 0 ∷ 0 ∷ 5 ∷ 1 ∷ 1 ∷ 1 ∷ 0 ∷ 5 ∷ 1 ∷ 1 ∷ 2 ∷ 0 ∷ 5 ∷ 1 ∷ 1 ∷ 3 ∷ 0 ∷ 5 ∷ 1 ∷ 1 ∷ 4 ∷ 0 ∷ []) (4 ∷ 0 ∷ 1 ∷ 2 ∷ 4 ∷ 0 ∷ 2 ∷ 3 ∷ 4 ∷ 0 ∷ 3 ∷ 4 ∷ 4 ∷ 0 ∷ 4 ∷ 3 ∷ []) (0 ∷ 0 ∷ 0 ∷ 0 ∷ 0 ∷ []) (1 ∷ []) None 5 5 5 (Some (13, 3)) (0 ∷ 0 ∷ 0 ∷ 0 ∷ 0 ∷ [])
    ∷ []

pub loops_hold : map (λ c. run largest c.asked) loops ≡ map (λ c. c.due) loops
unfolding run answer malformed first_fault split model_of refusal looped reads_all ticked tick settle commit eval_all
loops_hold = refl
