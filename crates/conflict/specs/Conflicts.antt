-- 11, judged on the words of a model.
use Rattle.std.specs.Prelude.{◌≡◌, List, ℕ}
use Rattle.recorder.specs.Record.{Signal, Stmt}
use Rattle.lowering.specs.Lower.{overdriven_from}
use Rattle.conflict.specs.Counting.{counted, lowest_from, restored}

-- THE LAW (proofs/Marked): where the words hold the signals xs and the statements ts, zeros behind both, the answer is the
-- lowest overdriven signal, and the signals are left as they were
pub record Judges (s m : List ℕ) (xs : List Signal) (ts : List Stmt) : Type 0 where
  pub answer : lowest_from 0 (counted s m) ≡ overdriven_from 0 xs ts
  pub kept : restored (counted s m) ≡ s
