-- The three lent lists: what playing a writer's events into them leaves, and how the call ends.
use Rattle.std.specs.Prelude.{Bool, ◌&&◌, List, [], ◌∷◌, ◌≡◌, ℕ, ◌+◌, min, leb, length}
use Rattle.std.specs.Prelude.{Option, None, Some}
use Rattle.std.proofs.lemmas.List.Edits.{sets}
use Rattle.bits.specs.Bits.{pick}
use Rattle.recorder.specs.declared.Tape.{Tape}
use Rattle.recorder.specs.declared.Tapes.{Tapes}
use Rattle.recorder.specs.Record.{signal_words, expr_words, stmt_words}
use Rattle.recorder.specs.Writer.{Event, Event.signal, Event.expr, Event.stmt, Count, End, End.ok, End.no, Writer}

-- ONE LIST

-- so many words more fit a list of this length: within it, and within 2,147,483,648 words. A tape with more records than words is
-- none of ours, and nothing fits behind it
unfoldable pub fits : ℕ → Tape → ℕ → Bool
fits len t n = leb t.count t.used && leb (t.used + n) (min len 2147483648)

-- a list with words laid over it from a place on
unfoldable pub over : List ℕ → ℕ → List ℕ → List ℕ
over l i ws = sets l i ws

abbrev pub behind : Tape → ℕ → Tape
behind t n = record { used = t.used + n; count = t.count + 1 }

abbrev pub put_in : List ℕ → Tape → List ℕ → List ℕ
put_in l t ws = pick (fits (length l) t (length ws)) (over l t.used ws) l

-- a record of these words was to go to a list: the tape behind it, if it fits, and the list as it is left
pub record Puts (l : List ℕ) (t : Tape) (ws : List ℕ) (r : Option Tape) (l' : List ℕ) : Type 0 where
  pub said : r ≡ pick (fits (length l) t (length ws)) (Some (behind t (length ws))) None
  pub held : l' ≡ put_in l t ws

-- ALL THREE

pub record Lists : Type 0 where
  pub signals : List ℕ
  pub exprs : List ℕ
  pub stmts : List ℕ

abbrev pub lists : List ℕ → List ℕ → List ℕ → Lists
lists s e t = record { signals = s; exprs = e; stmts = t }

abbrev pub tapes : Tape → Tape → Tape → Tapes
tapes s e t = record { signals = s; exprs = e; stmts = t }

-- no record yet
abbrev pub unwritten : Tape
unwritten = record { used = 0; count = 0 }

abbrev pub count_of : Tapes → Count
count_of t = record { signals = t.signals.count; exprs = t.exprs.count; stmts = t.stmts.count }

-- the lists are not full yet, or one is, by its number
pub data Played : Type 0 where
  going : Lists → Tapes → Played
  full : ℕ → Lists → Played

-- the list that a record goes to
abbrev pub list_of : Event → ℕ
list_of (signal s) = 0
list_of (expr x) = 1
list_of (stmt x) = 2

abbrev pub has_room : Lists → Tapes → Event → Bool
has_room l t (signal s) = fits (length l.signals) t.signals (length (signal_words s))
has_room l t (expr x) = fits (length l.exprs) t.exprs (length (expr_words x))
has_room l t (stmt x) = fits (length l.stmts) t.stmts (length (stmt_words x))

abbrev pub laid : Lists → Tapes → Event → Lists
laid l t (signal s) = lists (over l.signals t.signals.used (signal_words s)) l.exprs l.stmts
laid l t (expr x) = lists l.signals (over l.exprs t.exprs.used (expr_words x)) l.stmts
laid l t (stmt x) = lists l.signals l.exprs (over l.stmts t.stmts.used (stmt_words x))

abbrev pub advanced : Tapes → Event → Tapes
advanced t (signal s) = tapes (behind t.signals (length (signal_words s))) t.exprs t.stmts
advanced t (expr x) = tapes t.signals (behind t.exprs (length (expr_words x))) t.stmts
advanced t (stmt x) = tapes t.signals t.exprs (behind t.stmts (length (stmt_words x)))

abbrev pub put : Lists → Tapes → Event → Played
put l t e = pick (has_room l t e) (going (laid l t e) (advanced t e)) (full (list_of e) l)

abbrev pub onward : Played → (Lists → Tapes → Played) → Played
onward (going l t) k = k l t
onward (full i l) k = full i l

-- the records one after the other, up to the first that does not fit
unfoldable pub play : Lists → Tapes → List Event → Played
play l t [] = going l t
play l t (e ∷ es) = onward (put l t e) (λ l' t'. play l' t' es)

-- the tapes behind the records up to the first that does not fit
unfoldable pub reached : Lists → Tapes → List Event → Tapes
reached l t [] = t
reached l t (e ∷ es) = pick (has_room l t e) (reached (laid l t e) (advanced t e) es) t

-- HOW A CALL ENDS

pub data Answer (A : Type 0) : Type 0 where
  Done : A → Tapes → Answer A
  Failed : ℕ → ℕ → Answer A

pub record Left (A : Type 0) : Type 0 where
  pub answer : Answer A
  pub lists : Lists

-- a full list is 2, and comes before a refusal that the writer ends with
abbrev pub finish : {A : Type 0} → Played → End A → Left A
finish (going l t) (ok a) = record { answer = Done a t; lists = l }
finish (going l t) (no number place) = record { answer = Failed number place; lists = l }
finish (full i l) e = record { answer = Failed 2 i; lists = l }

abbrev pub writing : {A : Type 0} → Lists → Tapes → Writer A → Left A
writing l t w =
    let o = w (count_of t) in
    finish (play l t o.events) o.end

-- A call wrote w from the tapes t on: it answered r and left the lists l', whether it went well or not.
pub record Wrote {A : Type 0} (l : Lists) (t : Tapes) (w : Writer A) (r : Answer A) (l' : Lists) : Type 0 where
  pub wrote : writing l t w ≡ record { answer = r; lists = l' }

-- of a call that was lent some of the lists: whatever the others hold
abbrev pub WroteSignals : {A : Type 0} → List ℕ → Tapes → Writer A → Answer A → List ℕ → Type 0
WroteSignals s t w r s' = (e m : List ℕ) → Wrote (lists s e m) t w r (lists s' e m)

abbrev pub WroteExprs : {A : Type 0} → List ℕ → Tapes → Writer A → Answer A → List ℕ → Type 0
WroteExprs e t w r e' = (s m : List ℕ) → Wrote (lists s e m) t w r (lists s e' m)

abbrev pub WroteStmts : {A : Type 0} → List ℕ → Tapes → Writer A → Answer A → List ℕ → Type 0
WroteStmts m t w r m' = (s e : List ℕ) → Wrote (lists s e m) t w r (lists s e m')

abbrev pub WroteBoth : {A : Type 0} → List ℕ → List ℕ → Tapes → Writer A → Answer A → List ℕ → List ℕ → Type 0
WroteBoth e m t w r e' m' = (s : List ℕ) → Wrote (lists s e m) t w r (lists s e' m')
