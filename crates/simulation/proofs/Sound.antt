-- A model without a fault is sound, and the words of a sound model have no fault: what a lowering has to show so that no run of its
-- model gives 12. Assumes nothing.
use Prim.Native.Nat.{ℕ, suc}
use mathlib.Core.Path.{◌≡◌, refl, sym, ◌∙◌, ap, ap₂, subst, fun_ext}
use mathlib.Core.Bool.{Bool, true, false}
use mathlib.Core.List.{List, [], ◌∷◌, map, tail}
use Rattle.std.specs.Prelude.{Option, None, Some}
use Rattle.bits.proofs.Options.{some_ne_none}
use lib.ListN.{length, get_or}
use Rattle.bits.specs.Bits.{pick}
use Rattle.recorder.specs.Record.{Signal, Expr, Stmt, Model, signal_words, expr_words, stmt_words}
use Rattle.recorder.specs.Record.{const, read, concat, not, and, or, xor, mux, eq, mul, assign, reg}
use Rattle.recorder.specs.Read.{read_signal, read_expr, read_stmt, read_all, Raw, model_of}
use Rattle.recorder.specs.Words.{words_of, EachReads}
use Rattle.recorder.proofs.Roundtrip.{signal_said, expr_said, stmt_said, signal_kind, expr_kind, stmt_kind, words_split}
use Rattle.simulation.specs.Wellformed.{widths, drives, count_of, signal_fits, expr_fits, stmt_fits, fits, first_failing, or_else, behind, signal_fault, expr_fault, stmt_fault, first_fault, malformed}
use Rattle.simulation.specs.Run.{expr_width}
use Rattle.simulation.specs.Sound.{AllFrom, signal_widths, expr_widths, on, drivers, Sound}

some_none : {A : Type 0} {a : A} {C : Type 0} → ◌≡◌ {A = Option A} (Some a) None → C
some_none {a = a} h = absurd (some_ne_none a h)

-- NO FAILING RECORD

module _ {A : Type 0} (p : ℕ → A → Bool) (g : List ℕ → Option A) where
  abbrev test : ℕ → List ℕ → Bool
  test n r = fits (p n) (g r)

  pub passes : (n : ℕ) (rs : List (List ℕ)) → first_failing test n rs ≡ None → AllFrom p n (read_all g rs)
  passes n [] h = tt
  passes n (r ∷ rs) h = go (g r) (passes (suc n) rs) h
    where
      go2 : (b : Bool) (a : A) → p n a ≡ b → (first_failing test (suc n) rs ≡ None → AllFrom p (suc n) (read_all g rs)) → pick b (first_failing test (suc n) rs) (Some n) ≡ None → AllFrom p n (a ∷ read_all g rs)
      go2 true a e ih k = (e, ih k)
      go2 false a e ih k = some_none k

      go : (o : Option A) → (first_failing test (suc n) rs ≡ None → AllFrom p (suc n) (read_all g rs)) → pick (fits (p n) o) (first_failing test (suc n) rs) (Some n) ≡ None → AllFrom p n (elim o [ None ↦ read_all g rs | Some a ↦ a ∷ read_all g rs ])
      go None ih k = some_none k
      go (Some a) ih k = go2 (p n a) a refl ih k

  pub reads_all : (n : ℕ) (rs : List (List ℕ)) → first_failing test n rs ≡ None → EachReads g rs
  reads_all n [] h = tt
  reads_all n (r ∷ rs) h = go (g r) refl (reads_all (suc n) rs) h
    where
      go2 : (b : Bool) → (first_failing test (suc n) rs ≡ None → EachReads g rs) → pick b (first_failing test (suc n) rs) (Some n) ≡ None → EachReads g rs
      go2 true ih k = ih k
      go2 false ih k = some_none k

      go : (o : Option A) → g r ≡ o → (first_failing test (suc n) rs ≡ None → EachReads g rs) → pick (fits (p n) o) (first_failing test (suc n) rs) (Some n) ≡ None → EachReads g (r ∷ rs)
      go None e ih k = some_none k
      go (Some a) e ih k = (record { as_this = a; reads = e }, go2 (p n a) ih k)

  none_fails : (f : A → List ℕ) → ((a : A) → g (f a) ≡ Some a) → (n : ℕ) (l : List A) → AllFrom p n l → first_failing test n (map f l) ≡ None
  none_fails f h n [] t = refl
  none_fails f h n (a ∷ l) t = rw (h a) (rw t.0 (none_fails f h (suc n) l t.1))

-- WORDS AND FIELDS

pub expr_second : (e : Expr) → get_or (tail (expr_words e)) 1 0 ≡ expr_width e
expr_second (const w v) = refl
expr_second (read w s l) = refl
expr_second (concat w ps) = refl
expr_second (not a) = refl
expr_second (and a b) = refl
expr_second (or a b) = refl
expr_second (xor a b) = refl
expr_second (mux w s t f) = refl
expr_second (eq a b) = refl
expr_second (mul a b) = refl

stmt_drives : (s : ℕ) (t : Stmt) → drives s (tail (stmt_words t)) ≡ on s t
stmt_drives s (assign t e) = refl
stmt_drives s (reg t n c d r e) = refl

pub signal_width : (r : List ℕ) (s : Signal) → read_signal r ≡ Some s → get_or r 1 0 ≡ s.width
signal_width r s h = ap (λ (ws : List ℕ). get_or (tail ws) 1 0) (sym (signal_said r h))

pub expr_width_lem : (r : List ℕ) (e : Expr) → read_expr r ≡ Some e → get_or r 1 0 ≡ expr_width e
expr_width_lem r e h = ap (λ (ws : List ℕ). get_or (tail ws) 1 0) (sym (expr_said r h)) ∙ expr_second e

pub stmt_on : (s : ℕ) (r : List ℕ) (x : Stmt) → read_stmt r ≡ Some x → drives s r ≡ on s x
stmt_on s r x h = ap (λ (ws : List ℕ). drives s (tail ws)) (sym (stmt_said r h)) ∙ stmt_drives s x

read_cons : {A : Type 0} (g : List ℕ → Option A) (r : List ℕ) (rs : List (List ℕ)) (a : A) → g r ≡ Some a → read_all g (r ∷ rs) ≡ a ∷ read_all g rs
read_cons g r rs a e = rw (e, read_all)

-- a field of the words is the field of what was read
pub same_field : {A B : Type 0} (g : List ℕ → Option A) (f : List ℕ → B) (k : A → B) → ((r : List ℕ) (a : A) → g r ≡ Some a → f r ≡ k a) → (rs : List (List ℕ)) → EachReads g rs → map f rs ≡ map k (read_all g rs)
same_field g f k h [] t = refl
same_field g f k h (r ∷ rs) t =
    ap₂ ◌∷◌ (h r t.0.as_this t.0.reads) (same_field g f k h rs t.1) ∙ ap (map k) (sym (read_cons g r rs t.0.as_this t.0.reads))

pub count_map : {A : Type 0} (p : A → Bool) (l : List A) → count_of p l ≡ count_of (λ b. b) (map p l)
count_map p [] = refl
count_map p (a ∷ l) = ap (λ (n : ℕ). pick (p a) (suc n) n) (count_map p l)

-- NO FAULT: SOUND

or_else_first : {A : Type 0} (o q : Option A) → or_else o q ≡ None → o ≡ None
or_else_first None q h = refl
or_else_first (Some a) q h = h

pub or_else_second : {A : Type 0} (o q : Option A) → or_else o q ≡ None → q ≡ None
or_else_second None q h = h
or_else_second (Some a) q h = some_none h

behind_none : (k : ℕ) (o : Option ℕ) → behind k o ≡ None → o ≡ None
behind_none k None h = refl
behind_none k (Some n) h = some_none h

module _ (widest : ℕ) (c : Raw) (h : first_fault widest c ≡ None) where
  abbrev later : Option ℕ
  later = or_else (expr_fault widest c) (behind (length c.exprs) (stmt_fault c))

  signals_ok : signal_fault widest c ≡ None
  unfolding first_fault
  signals_ok = or_else_first (signal_fault widest c) (behind (length c.signals) later) h

  rest_ok : later ≡ None
  unfolding first_fault
  rest_ok = behind_none (length c.signals) later (or_else_second (signal_fault widest c) (behind (length c.signals) later) h)

  exprs_ok : expr_fault widest c ≡ None
  exprs_ok = or_else_first (expr_fault widest c) (behind (length c.exprs) (stmt_fault c)) rest_ok

  stmts_ok : stmt_fault c ≡ None
  stmts_ok = behind_none (length c.exprs) (stmt_fault c) (or_else_second (expr_fault widest c) (behind (length c.exprs) (stmt_fault c)) rest_ok)

  -- nothing was dropped
  pub signals_read : EachReads read_signal c.signals
  signals_read = reads_all (λ n. signal_fits widest (count_of (drives n) c.stmts)) read_signal 0 c.signals signals_ok

  pub exprs_read : EachReads read_expr c.exprs
  exprs_read = reads_all (λ n. expr_fits widest (widths c.signals) (widths c.exprs) n) read_expr 0 c.exprs exprs_ok

  pub stmts_read : EachReads read_stmt c.stmts
  stmts_read = reads_all (λ (n : ℕ). stmt_fits (widths c.signals) (widths c.exprs)) read_stmt 0 c.stmts stmts_ok

  pub signal_widths_lem : widths c.signals ≡ signal_widths (model_of c)
  unfolding model_of
  signal_widths_lem = same_field read_signal (λ r. get_or r 1 0) (λ (s : Signal). s.width) signal_width c.signals signals_read

  pub expr_widths_lem : widths c.exprs ≡ expr_widths (model_of c)
  unfolding model_of
  expr_widths_lem = same_field read_expr (λ r. get_or r 1 0) expr_width expr_width_lem c.exprs exprs_read

  pub same_drivers : (λ (s : ℕ). count_of (drives s) c.stmts) ≡ drivers (model_of c)
  unfolding model_of
  same_drivers = fun_ext (λ s. count_map (drives s) c.stmts ∙ ap (count_of (λ b. b)) (same_field read_stmt (drives s) (on s) (stmt_on s) c.stmts stmts_read) ∙ sym (count_map (on s) (read_all read_stmt c.stmts)))

  pub sound : Sound widest (model_of c)
  unfolding model_of
  sound = record {
    signals_fit = subst (λ (k : ℕ → ℕ). AllFrom (λ n. signal_fits widest (k n)) 0 (read_all read_signal c.signals)) same_drivers
        (passes (λ n. signal_fits widest (count_of (drives n) c.stmts)) read_signal 0 c.signals signals_ok);
    exprs_fit = subst (λ (sw : List ℕ). AllFrom (expr_fits widest sw (expr_widths (model_of c))) 0 (read_all read_expr c.exprs)) signal_widths_lem
        (subst (λ (ew : List ℕ). AllFrom (expr_fits widest (widths c.signals) ew) 0 (read_all read_expr c.exprs)) expr_widths_lem
        (passes (λ n. expr_fits widest (widths c.signals) (widths c.exprs) n) read_expr 0 c.exprs exprs_ok));
    stmts_fit = subst (λ (sw : List ℕ). AllFrom (λ (n : ℕ). stmt_fits sw (expr_widths (model_of c))) 0 (read_all read_stmt c.stmts)) signal_widths_lem
        (subst (λ (ew : List ℕ). AllFrom (λ (n : ℕ). stmt_fits (widths c.signals) ew) 0 (read_all read_stmt c.stmts)) expr_widths_lem
        (passes (λ (n : ℕ). stmt_fits (widths c.signals) (widths c.exprs)) read_stmt 0 c.stmts stmts_ok));
  }

-- SOUND: NO FAULT

map_map : {A B C : Type 0} (f : A → B) (g : B → C) (k : A → C) → ((a : A) → g (f a) ≡ k a) → (l : List A) → map g (map f l) ≡ map k l
map_map f g k h [] = refl
map_map f g k h (a ∷ l) = ap₂ ◌∷◌ (h a) (map_map f g k h l)

module _ (m : Model) where
  abbrev fields : Raw
  fields = record { signals = map (λ s. tail (signal_words s)) m.signals; exprs = map (λ e. tail (expr_words e)) m.exprs; stmts = map (λ t. tail (stmt_words t)) m.stmts }

  signals_wide : widths fields.signals ≡ signal_widths m
  signals_wide = map_map (λ s. tail (signal_words s)) (λ r. get_or r 1 0) (λ (s : Signal). s.width) (λ s. refl) m.signals

  exprs_wide : widths fields.exprs ≡ expr_widths m
  exprs_wide = map_map (λ e. tail (expr_words e)) (λ r. get_or r 1 0) expr_width expr_second m.exprs

  drivers_same : (s : ℕ) → count_of (drives s) fields.stmts ≡ drivers m s
  drivers_same s = count_map (drives s) fields.stmts ∙ ap (count_of (λ b. b)) (map_map (λ t. tail (stmt_words t)) (drives s) (on s) (stmt_drives s) m.stmts) ∙ sym (count_map (on s) m.stmts)

  module _ (widest : ℕ) (h : Sound widest m) where
    no_signal : signal_fault widest fields ≡ None
    no_signal = none_fails (λ n. signal_fits widest (count_of (drives n) fields.stmts)) read_signal (λ s. tail (signal_words s)) signal_kind.back 0 m.signals
        (subst (λ (k : ℕ → ℕ). AllFrom (λ n. signal_fits widest (k n)) 0 m.signals) (sym (fun_ext drivers_same)) h.signals_fit)

    no_expr : expr_fault widest fields ≡ None
    no_expr = rw (signals_wide, exprs_wide) (none_fails (λ n. expr_fits widest (signal_widths m) (expr_widths m) n) read_expr (λ e. tail (expr_words e)) expr_kind.back 0 m.exprs h.exprs_fit)

    no_stmt : stmt_fault fields ≡ None
    no_stmt = rw (signals_wide, exprs_wide) (none_fails (λ (n : ℕ). stmt_fits (signal_widths m) (expr_widths m)) read_stmt (λ t. tail (stmt_words t)) stmt_kind.back 0 m.stmts h.stmts_fit)

    no_fault : first_fault widest fields ≡ None
    unfolding first_fault
    no_fault = rw no_signal (rw no_expr (rw no_stmt))

    -- the words of a sound model are never malformed
    pub sound_words : malformed widest (words_of m) ≡ None
    unfolding malformed
    sound_words = rw (words_split signal_kind m.signals, words_split expr_kind m.exprs, words_split stmt_kind m.stmts) no_fault
