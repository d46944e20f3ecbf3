-- The call of `lower` as a value: the answer, the three lists and the five works, for whatever is lent.
use Rattle.std.specs.Prelude.{Bool, true, false, List, [], ◌∷◌, map, Result, Ok, Err, ◌≡◌, ℕ, ◌≤◌, ltb, length}
use Rattle.bits.specs.Bits.{pick}
use Rattle.refusal.specs.Refusal.{number_of, place_of}
use Rattle.refusal.specs.declared.Refusal as x
use Rattle.netlist.specs.declared.Limits.{Limits}
use Rattle.recorder.specs.declared.Tapes.{Tapes}
use Rattle.recorder.specs.Record.{Signal, Stmt, signal_words, stmt_words}
use Rattle.recorder.specs.Lists.{Lists}
use Rattle.recorder.specs.Words.{list_words, holding, blank, zeroed}
use Rattle.lowering.specs.Lower.{Lowered, Accepted, Refused, Lowering, overdriven_from, judged, lower_words}
use Rattle.converter.specs.declared.Buffers.{Buffers}
use Rattle.converter.specs.Steps.{Within}

-- the code's answer by number and values
abbrev pub answer_of : Result Tapes x.Refusal → Lowered
answer_of (Ok t) = Accepted t
answer_of (Err x) = Refused (number_of x) (place_of x)

-- a work of so many words is too short
unfoldable pub short : ℕ → Bool
short n = ltb n 16384

unfoldable pub any_short : List ℕ → Bool
any_short [] = false
any_short (n ∷ ns) = pick (short n) true (any_short ns)

-- THE CALL: limits and words, and the lengths of lists and works. 1 comes first
abbrev pub lower_call : Limits → List ℕ → ℕ → ℕ → ℕ → List ℕ → Lowering
lower_call limits words s e t works = pick (any_short works) (record { answer = Refused 1 16384; lists = blank s e t }) (lower_words limits words s e t)

abbrev pub call_of : Limits → List ℕ → Lists → List (List ℕ) → Lowering
call_of limits words l works = lower_call limits words (length l.signals) (length l.exprs) (length l.stmts) (map length works)

-- words, lists and works at entry; the answer, lists and works at exit
pub record Lowers (limits : Limits) (words : List ℕ) (l : Lists) (works : List (List ℕ)) (r : Result Tapes x.Refusal) (l' : Lists) (works' : List (List ℕ)) : Type 0 where
  pub value : record { answer = answer_of r; lists = l' } ≡ call_of limits words l works
  pub zeros : works' ≡ map zeroed works

-- the works, one by one
abbrev pub buffers_in : Buffers → List (List ℕ)
buffers_in b = b.wires.now ∷ b.places.now ∷ b.parts.now ∷ b.values.now ∷ b.banks.now ∷ []

-- they are still those that were lent
pub record SameBuffers (b b' : Buffers) : Type 0 where
  pub wires : b'.wires.ghost_name ≡ b.wires.ghost_name
  pub places : b'.places.ghost_name ≡ b.places.ghost_name
  pub parts : b'.parts.ghost_name ≡ b.parts.ghost_name
  pub values : b'.values.ghost_name ≡ b.values.ghost_name
  pub banks : b'.banks.ghost_name ≡ b.banks.ghost_name
  pub sizes : map length (buffers_in b') ≡ map length (buffers_in b)

pub record LowersWithin (limits : Limits) (words : List ℕ) (l : Lists) (works : List (List ℕ)) (r : Result Tapes x.Refusal) (l' : Lists) (works' : List (List ℕ)) : Type 0 where
  pub so : Within limits → Lowers limits words l works r l' works'

-- FOR ITS PARTS

-- all but the works' zeroing
pub record LowersLists (limits : Limits) (words : List ℕ) (l : Lists) (works : List (List ℕ)) (r : Result Tapes x.Refusal) (l' : Lists) : Type 0 where
  pub so : Within limits → record { answer = answer_of r; lists = l' } ≡ call_of limits words l works

-- a refusal leaves zeros
abbrev pub kept : Lowered → Lists → Lists → Lists
kept (Accepted t) l zeroed = l
kept (Refused number place) l zeroed = zeroed

abbrev pub blank_of : Lists → Lists
blank_of l = blank (length l.signals) (length l.exprs) (length l.stmts)

-- what the works hold once they are known to be long enough: the first two are the wire map's tables, and empty
pub record Ready (b : Buffers) : Type 0 where
  pub no_signals : b.wires.now ≡ zeroed b.wires.now
  pub no_places : b.places.now ≡ zeroed b.places.now
  pub wires_long : 16384 ≤ length b.wires.now
  pub places_long : 16384 ≤ length b.places.now
  pub parts_long : 16384 ≤ length b.parts.now
  pub values_long : 16384 ≤ length b.values.now
  pub banks_long : 16384 ≤ length b.banks.now

-- from lists of zeros: the answer, and the lists if it is a model
pub record Attempts (limits : Limits) (words : List ℕ) (l : Lists) (b : Buffers) (r : Result Tapes x.Refusal) (l' : Lists) : Type 0 where
  pub value : Within limits → Ready b → (s e t : ℕ) → l ≡ blank s e t → record { answer = answer_of r; lists = kept (answer_of r) l' (blank s e t) } ≡ lower_words limits words s e t

-- what was recorded, p, judged on the signals s and the statements m
pub record AnswersTo (s m : List ℕ) (p q : Result Tapes x.Refusal) (s' : List ℕ) : Type 0 where
  pub refused : (x : x.Refusal) → p ≡ Err x → answer_of q ≡ Refused (number_of x) (place_of x)
  pub recorded : (t : Tapes) → p ≡ Ok t → (a b : ℕ) (xs : List Signal) (ts : List Stmt) → s ≡ holding a (list_words signal_words xs) → m ≡ holding b (list_words stmt_words ts)
      → (l : Lists) → answer_of q ≡ (judged (overdriven_from 0 xs ts) t l l).answer
  pub same : (t : Tapes) → p ≡ Ok t → (a b : ℕ) (xs : List Signal) (ts : List Stmt) → s ≡ holding a (list_words signal_words xs) → m ≡ holding b (list_words stmt_words ts) → s' ≡ s
