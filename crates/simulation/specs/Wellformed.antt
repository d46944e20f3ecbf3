-- Refusal 12: the first faulty record, counted through signals, expressions, statements.
use Rattle.std.specs.Prelude.{ℕ, zero, suc, ◌+◌, ◌^◌, Bool, true, false, ◌&&◌, List, [], ◌∷◌, map, eqb, leb, ltb, length, get_or}
use Rattle.std.specs.Prelude.{Option, None, Some}
use Rattle.bits.specs.Bits.{pick}
use Rattle.recorder.specs.Record.{Signal, Expr, RegReset, RegEnable, Stmt}
use Rattle.recorder.specs.Record.{const, read, concat, not, and, or, xor, mux, eq, mul, assign, reg}
use Rattle.recorder.specs.Lists.{Lists}
use Rattle.recorder.specs.Read.{Cut, Raw, split, read_signal, read_expr, read_stmt}
use Rattle.recorder.specs.Words.{raw_of}

-- the largest width of this delivery
abbrev pub largest : ℕ
largest = 4_096

-- the widths of signals or of expressions, which both stand in the second field
abbrev pub widths : List (List ℕ) → List ℕ
widths rs = map (λ r. get_or r 1 0) rs

-- Below, sw and ew are the widths of all signals and of all expressions.

-- expression a comes before expression n and is w wide
abbrev pub wide : List ℕ → ℕ → ℕ → ℕ → Bool
wide ew n a w = ltb a n && eqb (get_or ew a 0) w

-- signal s is there and is w wide
abbrev pub broad : List ℕ → ℕ → ℕ → Bool
broad sw s w = ltb s (length sw) && eqb (get_or sw s 0) w

abbrev pub in_range : ℕ → ℕ → Bool
in_range widest w = leb 1 w && leb w widest

-- a statement, an assignment or a register, on signal s; whatever else is wrong with it
abbrev pub drives : ℕ → List ℕ → Bool
drives s [] = false
drives s (k ∷ []) = false
drives s (k ∷ t ∷ l) = leb k 1 && eqb t s

abbrev pub count_of : {A : Type 0} → (A → Bool) → List A → ℕ
count_of p [] = 0
count_of p (x ∷ l) = pick (p x) (suc (count_of p l)) (count_of p l)

-- an input has no statement, any other signal one
abbrev pub statements : ℕ → ℕ
statements zero = 0
statements (suc label) = 1

-- a signal on which k statements stand
abbrev pub signal_fits : ℕ → ℕ → Signal → Bool
signal_fits widest k s = leb s.label 15 && in_range widest s.width && eqb k (statements s.label)

abbrev pub earlier : ℕ → List ℕ → Bool
earlier n [] = true
earlier n (p ∷ ps) = ltb p n && earlier n ps

abbrev pub width_sum : List ℕ → List ℕ → ℕ
width_sum ew [] = 0
width_sum ew (p ∷ ps) = get_or ew p 0 + width_sum ew ps

-- expression n; the kinds that have one width only (not, and, or, xor, eq: 1, mul: 36) are read with that width or not at all
abbrev pub expr_fits : ℕ → List ℕ → List ℕ → ℕ → Expr → Bool
expr_fits widest sw ew n (const w v) = in_range widest w && ltb v (2 ^ w)
expr_fits widest sw ew n (read w s l) = in_range widest w && ltb s (length sw) && leb (l + w) (get_or sw s 0)
expr_fits widest sw ew n (concat w ps) = in_range widest w && earlier n ps && eqb (width_sum ew ps) w
expr_fits widest sw ew n (not a) = wide ew n a 1
expr_fits widest sw ew n (and a b) = wide ew n a 1 && wide ew n b 1
expr_fits widest sw ew n (or a b) = wide ew n a 1 && wide ew n b 1
expr_fits widest sw ew n (xor a b) = wide ew n a 1 && wide ew n b 1
expr_fits widest sw ew n (mux w s t f) = in_range widest w && wide ew n s 1 && wide ew n t w && wide ew n f w
expr_fits widest sw ew n (eq a b) = ltb a n && wide ew n b (get_or ew a 0)
expr_fits widest sw ew n (mul a b) = wide ew n a 36 && wide ew n b 36

-- signal t and expression e are there, and equally wide
abbrev pub suits : List ℕ → List ℕ → ℕ → ℕ → Bool
suits sw ew t e = ltb t (length sw) && wide ew (length ew) e (get_or sw t 0)

abbrev pub reset_fits : List ℕ → List ℕ → ℕ → Option RegReset → Bool
reset_fits sw ew t None = true
reset_fits sw ew t (Some r) = broad sw r.signal 1 && leb r.active 1 && suits sw ew t r.value

abbrev pub enable_fits : List ℕ → Option RegEnable → Bool
enable_fits sw None = true
enable_fits sw (Some e) = broad sw e.signal 1 && leb e.active 1

abbrev pub stmt_fits : List ℕ → List ℕ → Stmt → Bool
stmt_fits sw ew (assign t e) = suits sw ew t e
stmt_fits sw ew (reg t n c d r e) = suits sw ew t n && broad sw c 1 && leb d 1 && reset_fits sw ew t r && enable_fits sw e

-- a record that cannot be read is a fault
abbrev pub fits : {A : Type 0} → (A → Bool) → Option A → Bool
fits p None = false
fits p (Some a) = p a

-- the first record, counted from n, that fails a test of its number and its fields
abbrev pub first_failing : (ℕ → List ℕ → Bool) → ℕ → List (List ℕ) → Option ℕ
first_failing p n [] = None
first_failing p n (r ∷ rs) = pick (p n r) (first_failing p (suc n) rs) (Some n)

abbrev pub or_else : {A : Type 0} → Option A → Option A → Option A
or_else (Some a) o = Some a
or_else None o = o

abbrev pub behind : ℕ → Option ℕ → Option ℕ
behind k None = None
behind k (Some n) = Some (k + n)

abbrev pub signal_fault : ℕ → Raw → Option ℕ
signal_fault widest c = first_failing (λ n r. fits (signal_fits widest (count_of (drives n) c.stmts)) (read_signal r)) 0 c.signals

abbrev pub expr_fault : ℕ → Raw → Option ℕ
expr_fault widest c = first_failing (λ n r. fits (expr_fits widest (widths c.signals) (widths c.exprs) n) (read_expr r)) 0 c.exprs

abbrev pub stmt_fault : Raw → Option ℕ
stmt_fault c = first_failing (λ n r. fits (stmt_fits (widths c.signals) (widths c.exprs)) (read_stmt r)) 0 c.stmts

unfoldable pub first_fault : ℕ → Raw → Option ℕ
first_fault widest c =
    or_else (signal_fault widest c) (behind (length c.signals) (or_else (expr_fault widest c) (behind (length c.exprs) (stmt_fault c))))

-- the first record of three lists that does not stand whole
abbrev pub unsplit : Cut → Option ℕ → Option ℕ
unsplit c o = pick c.whole (behind (length c.records) o) (Some (length c.records))

abbrev pub unsplit_all : Lists → Option ℕ
unsplit_all l = unsplit (split l.signals) (unsplit (split l.exprs) (unsplit (split l.stmts) None))

-- three lists of words: that they split is checked first
unfoldable pub malformed : ℕ → Lists → Option ℕ
malformed widest l = or_else (unsplit_all l) (first_fault widest (raw_of l))
