-- The call as a value, with five works of 16,384 words.
use Rattle.std.specs.Prelude.{List, [], ◌∷◌, ◌≡◌, ℕ, length, Result}
use Rattle.refusal.specs.declared.Refusal.{Refusal}
use Rattle.netlist.specs.Reader.{base}
use Rattle.recorder.specs.declared.Tapes.{Tapes}
use Rattle.recorder.specs.Lists.{Lists}
use Rattle.lowering.specs.Lower.{Lowering}
use Rattle.converter.specs.Entry.{answer_of, lower_call}

abbrev pub lower_lent : List ℕ → Lists → Lowering
lower_lent words l = lower_call base words (length l.signals) (length l.exprs) (length l.stmts) (16384 ∷ 16384 ∷ 16384 ∷ 16384 ∷ 16384 ∷ [])

-- words and lists at entry; the answer and the lists at exit
pub record LowersWords (words : List ℕ) (l : Lists) (r : Result Tapes Refusal) (l' : Lists) : Type 0 where
  pub value : record { answer = answer_of r; lists = l' } ≡ lower_lent words l
