-- The program's call as a value: the answer and the three lists, for whatever bytes come in.
use Rattle.std.specs.Prelude.{Bool, false, List, ◌≡◌, ℕ, ◌%◌, leb, eqb, length, Result}
use Rattle.bits.specs.Bits.{pick}
use Rattle.refusal.specs.declared.Refusal.{Refusal}
use Rattle.recorder.specs.declared.Tapes.{Tapes}
use Rattle.recorder.specs.Lists.{Lists}
use Rattle.recorder.specs.Words.{zeroed}
use Rattle.lowering.specs.Lower.{Refused, Lowering}
use Rattle.converter.specs.Entry.{answer_of, blank_of}
use Rattle.lower_words.specs.Entry.{lower_lent}
use Rattle.words.specs.Words.{words_of}

-- so many bytes are whole words, 16,384 at most
unfoldable pub whole_words : ℕ → Bool
whole_words n = pick (leb n 65536) (eqb (n % 4) 0) false

-- no words are made of the bytes: the refusal, with lists of zeros
abbrev pub unread : Lists → Lowering
unread l = record { answer = Refused 3 0; lists = blank_of l }

-- THE CALL
abbrev pub lower_bytes : List ℕ → Lists → Lowering
lower_bytes bytes l = pick (whole_words (length bytes)) (lower_lent (words_of bytes) l) (unread l)

-- bytes and lists at entry; the answer and the lists at exit

pub record Unread (l : Lists) (r : Result Tapes Refusal) (l' : Lists) : Type 0 where
  pub said : answer_of r ≡ Refused 3 0
  pub signals : l'.signals ≡ zeroed l.signals
  pub exprs : l'.exprs ≡ zeroed l.exprs
  pub stmts : l'.stmts ≡ zeroed l.stmts

pub record LowersBytes (bytes : List ℕ) (l : Lists) (r : Result Tapes Refusal) (l' : Lists) : Type 0 where
  pub value : record { answer = answer_of r; lists = l' } ≡ lower_bytes bytes l
