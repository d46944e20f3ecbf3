-- Whole lists: the words of records one after the other, and lists of given lengths that hold a model's records.
use Rattle.std.specs.Prelude.{ℕ, ◌-◌, ◌≤◌, min, List, [], ◌∷◌, ◌++◌, ◌≡◌, length, replicate}
use Rattle.std.specs.Prelude.{Option, Some}
use Rattle.recorder.specs.declared.Tape.{Tape}
use Rattle.recorder.specs.declared.Tapes.{Tapes}
use Rattle.recorder.specs.Record.{Model, signal_words, expr_words, stmt_words}
use Rattle.recorder.specs.Writer.{Event, Event.signal, Event.expr, Event.stmt, model_of}
use Rattle.recorder.specs.Lists.{Lists, lists, tapes, list_of}
use Rattle.recorder.specs.Read.{Raw, split}

abbrev pub list_words : {A : Type 0} → (A → List ℕ) → List A → List ℕ
list_words f [] = []
list_words f (a ∷ l) = f a ++ list_words f l

-- the words of a model's three lists
abbrev pub words_of : Model → Lists
words_of m = lists (list_words signal_words m.signals) (list_words expr_words m.exprs) (list_words stmt_words m.stmts)

-- WORDS THAT ARE A MODEL'S

-- the records of three lists of words
abbrev pub raw_of : Lists → Raw
raw_of l = record { signals = (split l.signals).records; exprs = (split l.exprs).records; stmts = (split l.stmts).records }

pub record Reads {A : Type 0} (g : List ℕ → Option A) (r : List ℕ) : Type 0 where
  pub as_this : A
  pub reads : g r ≡ Some as_this

-- every record reads as something
abbrev pub EachReads : {A : Type 0} → (List ℕ → Option A) → List (List ℕ) → Type 0
EachReads g [] = Unit {0}
EachReads {A} g (r ∷ rs) = Reads g r × EachReads g rs

-- LISTS WITH ROOM

-- a list of len words: these, and zeros behind them
abbrev pub holding : ℕ → List ℕ → List ℕ
holding len ws = ws ++ replicate (len - length ws) 0

-- lists of a, b and c words that hold a model
abbrev pub holding_all : ℕ → ℕ → ℕ → Model → Lists
holding_all a b c m = lists (holding a (words_of m).signals) (holding b (words_of m).exprs) (holding c (words_of m).stmts)

-- the tape behind so many records
abbrev pub tape_of : {A : Type 0} → (A → List ℕ) → List A → Tape
tape_of f rs = record { used = length (list_words f rs); count = length rs }

abbrev pub tapes_of : Model → Tapes
tapes_of m = tapes (tape_of signal_words m.signals) (tape_of expr_words m.exprs) (tape_of stmt_words m.stmts)

abbrev pub nothing : Model
nothing = record { signals = []; exprs = []; stmts = [] }

-- zeros in the place of a list's words
abbrev pub zeroed : List ℕ → List ℕ
zeroed l = replicate (length l) 0

-- lists of zeros, and their tapes
abbrev pub blank : ℕ → ℕ → ℕ → Lists
blank a b c = lists (replicate a 0) (replicate b 0) (replicate c 0)

abbrev pub unwritten : Tapes
unwritten = tapes_of nothing

-- one record more
abbrev pub plus : Model → Event → Model
plus m (signal s) = record { signals = m.signals ++ (s ∷ []); exprs = m.exprs; stmts = m.stmts }
plus m (expr x) = record { signals = m.signals; exprs = m.exprs ++ (x ∷ []); stmts = m.stmts }
plus m (stmt t) = record { signals = m.signals; exprs = m.exprs; stmts = m.stmts ++ (t ∷ []) }

-- a model has room in lists of a, b and c words, none of which takes more than 2,147,483,648
pub record Fit (a b c : ℕ) (m : Model) : Type 0 where
  pub signals : length (words_of m).signals ≤ min a 2147483648
  pub exprs : length (words_of m).exprs ≤ min b 2147483648
  pub stmts : length (words_of m).stmts ≤ min c 2147483648

-- list i is full: the records before one fit and lie in the lists l, and that one, which goes to list i, does not fit behind them
pub record Filled (a b c : ℕ) (es : List Event) (i : ℕ) (l : Lists) : Type 0 where
  pub done : List Event
  pub next : Event
  pub rest : List Event
  pub events : es ≡ done ++ (next ∷ rest)
  pub fit : Fit a b c (model_of done)
  pub unfit : Fit a b c (plus (model_of done) next) → ⊥
  pub list : list_of next ≡ i
  pub held : holding_all a b c (model_of done) ≡ l
