-- Laws of one record: copying its words, and what a list with or without room for it answers.
use mathlib.Core.Path.{◌≡◌, refl, ap, ap₂, sym, ◌∙◌, subst}
use mathlib.Core.Bool.{Bool, true, false, ◌&&◌}
use mathlib.Core.List.{List, [], ◌∷◌, ◌++◌, append-nil, append_assoc}
use Prim.Native.Nat.{ℕ, suc, ◌+◌, ◌≤◌, ◌<◌, min}
use native.Mathlib.Nat.{add-zero, add-suc, suc-add}
use native.Mathlib.Numerals.{add-one}
use native.Mathlib.Omega.{arith}
use denote.MutBor.{MutBor}
use lib.Dec.{leb}
use lib.ListN.{length, take, drop, get_or, set, length-append, drop_of_length-le}
use lib.Seq.{sets, sets-eq, drop-cons, drop-drop}
use borrow.Rule.Slice.PartMut.{put_mid}
use borrow.Author.Tests.{le-leb, lt-leb}
use Rattle.recorder.specs.declared.Tape.{Tape}
use Rattle.recorder.specs.declared.Tapes.{Tapes}
use Rattle.recorder.specs.declared.Recorder.{Recorder}
use Rattle.recorder.specs.declared.AsyncReset.{AsyncReset}
use Rattle.recorder.specs.declared.Enable.{Enable}
use Rattle.std.specs.Prelude.{Option, Some, None}
use Rattle.recorder.specs.Record.{Stmt.reg, sized, signal_words, expr_words, stmt_words}
use Rattle.bits.specs.Bits.{pick}
use Rattle.recorder.specs.Writer.{Event, Event.signal, Event.expr, Event.stmt, declare, emit, state, Count, End, End.ok, End.no}
use Rattle.recorder.specs.Lists.{fits, over, behind, Puts, lists, tapes, list_of, has_room, laid, advanced, count_of, play, reached}
use Rattle.recorder.specs.Calls.{lists_in, tapes_in, SameLists, Writes, PushedSignal, PushedExpr, PushedStmt, reset_of, enable_of}

-- WORDS OVER A LIST

pub over_over : (vs ws l : List ℕ) (i : ℕ) → over (over l i vs) (i + length vs) ws ≡ over l i (vs ++ ws)
unfolding over
over_over [] ws l i = ap (λ (k : ℕ). over l k ws) (add-zero i)
over_over (v ∷ vs) ws l i = ap (λ (k : ℕ). sets (sets (set l i v) (suc i) vs) k ws) (add-suc i (length vs) ∙ sym (suc-add i (length vs))) ∙ over_over vs ws (set l i v) (suc i)

-- a loop that copies: what is left to lay over the list
pub copy_start : (l : List ℕ) (at : ℕ) (ws : List ℕ) → over l (at + 0) (drop 0 ws) ≡ over l at ws
copy_start l at ws = ap (λ (k : ℕ). over l k ws) (add-zero at)

pub copy_step : (l : List ℕ) (at : ℕ) (ws : List ℕ) (i : ℕ) → i < length ws → over (set l (at + i) (get_or ws i 0)) (at + (i + 1)) (drop (i + 1) ws) ≡ over l (at + i) (drop i ws)
unfolding over
copy_step l at ws i h = rw (add-one i, add-suc at i) (ap (λ (r : List ℕ). sets l (at + i) r) (sym (drop-cons ws i 0 h)))

pub copy_end : (l : List ℕ) (at : ℕ) (ws : List ℕ) (i : ℕ) → length ws ≤ i → over l (at + i) (drop i ws) ≡ l
unfolding over
copy_end l at ws i h = ap (λ (r : List ℕ). sets l (at + i) r) (drop_of_length-le ws h)

-- a part of a list that is written anew
pub pasted : (l ws new : List ℕ) (at k : ℕ) → at + length ws ≤ length l → k ≡ length ws → new ≡ ws → put_mid at k l new ≡ over l at ws
unfolding over
pasted l ws new at k h q p = ap₂ (λ (x y : List ℕ). take at l ++ (x ++ y)) p (drop-drop k at l ∙ ap (λ (m : ℕ). drop (at + m) l) q) ∙ sym (append_assoc (take at l) ws (drop (at + length ws) l)) ∙ sym (sets-eq ws l at h)

-- length word, fields, more fields
pub over_record : (l : List ℕ) (i : ℕ) (fields more : List ℕ) {l₁ l₂ : List ℕ} → l₁ ≡ over (set l i (1 + length fields + length more)) (i + 1) fields → l₂ ≡ over l₁ (i + 1 + length fields) more
    → l₂ ≡ over l i (sized (fields ++ more))
unfolding over
over_record l i fields more {l₁} p q =
    let n : 1 + length fields + length more ≡ 1 + length (fields ++ more) = omega (arith, length-append fields more) in
    q ∙ ap (λ (x : List ℕ). over x (i + 1 + length fields) more) p
    ∙ over_over fields more (set l i (1 + length fields + length more)) (i + 1)
    ∙ ap₂ (λ (k m : ℕ). sets (set l i m) k (fields ++ more)) (add-one i) n

-- ROOM

module _ {l : List ℕ} {t : Tape} {ws : List ℕ} where
  no_room : fits (length l) t (length ws) ≡ false → Puts l t ws None l
  no_room q = record { said = sym (rw q); held = sym (rw q) }

  -- more records than words: none of ours
  pub puts_odd : t.used < t.count → Puts l t ws None l
  unfolding fits
  puts_odd h = no_room (rw (lt-leb t.count t.used h))

  pub puts_full : min (length l) 2147483648 < t.used + length ws → Puts l t ws None l
  unfolding fits
  puts_full h = no_room (go (leb t.count t.used))
    where
      go : (b : Bool) → (b && leb (t.used + length ws) (min (length l) 2147483648)) ≡ false
      go true = lt-leb (t.used + length ws) (min (length l) 2147483648) h
      go false = refl

  pub puts_at : {l' : List ℕ} {t' : Tape} → t.count ≤ t.used → t.used + length ws ≤ min (length l) 2147483648 → l' ≡ over l t.used ws → t' ≡ behind t (length ws) → Puts l t ws (Some t') l'
  unfolding fits
  puts_at h g p e =
      let q : (leb t.count t.used && leb (t.used + length ws) (min (length l) 2147483648)) ≡ true = rw (le-leb t.count t.used h, le-leb (t.used + length ws) (min (length l) 2147483648) g) in
      record { said = ap Some e ∙ sym (rw q); held = p ∙ sym (rw q) }

-- ONE RECORD, whichever list it goes to

module _ {A : Type 0} (r r' : Recorder) (e : Event) (number : Count → A) (same : SameLists r r') where
  abbrev room : Bool
  room = has_room (lists_in r) (tapes_in r) e

  -- the record is one more expression, or none
  one_grows : (x : Event) → (tapes_in r).exprs.count ≤ (advanced (tapes_in r) x).exprs.count
  one_grows (signal s) = omega arith
  one_grows (expr x) = omega arith
  one_grows (stmt x) = omega arith

  grown : (b : Bool) → tapes_in r' ≡ pick b (advanced (tapes_in r) e) (tapes_in r) → r.tapes.exprs.count ≤ r'.tapes.exprs.count
  grown true t = let k : r'.tapes.exprs.count ≡ (advanced (tapes_in r) e).exprs.count = ap (λ (u : Tapes). u.exprs.count) t in omega (arith, k, one_grows e)
  grown false t = let k : r'.tapes.exprs.count ≡ r.tapes.exprs.count = ap (λ (u : Tapes). u.exprs.count) t in omega (arith, k)

  writes_one : (b : Bool) → room ≡ b → lists_in r' ≡ pick b (laid (lists_in r) (tapes_in r) e) (lists_in r) → tapes_in r' ≡ pick b (advanced (tapes_in r) e) (tapes_in r)
      → Writes r (λ n. record { events = e ∷ []; end = ok (number n) }) (pick b (ok (number (count_of (tapes_in r)))) (no 2 (list_of e))) r'
  unfolding play reached
  writes_one true q h t = record { same = same; wrote = record { wrote = rw (q, h, t) }; stands = t ∙ sym (rw q); grows = grown true t }
  writes_one false q h t = record { same = same; wrote = record { wrote = rw (q, h) }; stands = t ∙ sym (rw q); grows = grown false t }

-- the number of a record that was put, or that list i is full
abbrev pub full_or : ℕ → ℕ → Option Tape → End ℕ
full_or i n (Some t) = ok n
full_or i n None = no 2 i

abbrev pub full_stmt : Option Tape → End (Unit {0})
full_stmt (Some t) = ok tt
full_stmt None = no 2 2

-- the tape that a list then has
abbrev pub tape_of : Tape → Option Tape → Tape
tape_of t (Some t') = t'
tape_of t None = t

full_pick : (i n : ℕ) (t : Tape) (b : Bool) → full_or i n (pick b (Some t) None) ≡ pick b (ok n) (no 2 i)
full_pick i n t true = refl
full_pick i n t false = refl

tape_pick : (t t' : Tape) (b : Bool) → tape_of t (pick b (Some t') None) ≡ pick b t' t
tape_pick t t' true = refl
tape_pick t t' false = refl

-- a choice of one field is a choice of the whole
chosen : {A B : Type 0} (f : A → B) (b : Bool) (x y : A) → f (pick b x y) ≡ pick b (f x) (f y)
chosen f true x y = refl
chosen f false x y = refl

-- a list's name at exit, as a parameter gives it
module _ {r : Recorder} {ws : List ℕ} {o : Option Tape} {l' : MutBor (List ℕ)} where
  pub pushed_signal : Puts r.signals.now r.tapes.signals ws o l'.now → l'.ghost_name ≡ r.signals.ghost_name
      → PushedSignal ws r (full_or 0 r.tapes.signals.count o) (record { signals = l'; exprs = r.exprs; stmts = r.stmts; tapes = tapes (tape_of r.tapes.signals o) r.tapes.exprs r.tapes.stmts })
  pushed_signal h g x e =
      let p = subst (λ (w : List ℕ). Puts r.signals.now r.tapes.signals w o l'.now) (sym e) h in
      let r' : Recorder = record { signals = l'; exprs = r.exprs; stmts = r.stmts; tapes = tapes (tape_of r.tapes.signals o) r.tapes.exprs r.tapes.stmts } in
      let b = fits (length r.signals.now) r.tapes.signals (length (signal_words x)) in
      subst (λ (y : End ℕ). Writes r (declare x) y r') (sym (ap (full_or 0 r.tapes.signals.count) p.said ∙ full_pick 0 _ _ b))
      (writes_one r r' (signal x) (λ n. n.signals) (record { signals = g; exprs = refl; stmts = refl }) b refl
      (ap (λ (w : List ℕ). lists w r.exprs.now r.stmts.now) p.held ∙ chosen (λ (w : List ℕ). lists w r.exprs.now r.stmts.now) b _ _)
      (ap (λ (u : Tape). tapes u r.tapes.exprs r.tapes.stmts) (ap (tape_of r.tapes.signals) p.said ∙ tape_pick _ _ b) ∙ chosen (λ (u : Tape). tapes u r.tapes.exprs r.tapes.stmts) b _ _))

  pub pushed_expr : Puts r.exprs.now r.tapes.exprs ws o l'.now → l'.ghost_name ≡ r.exprs.ghost_name
      → PushedExpr ws r (full_or 1 r.tapes.exprs.count o) (record { signals = r.signals; exprs = l'; stmts = r.stmts; tapes = tapes r.tapes.signals (tape_of r.tapes.exprs o) r.tapes.stmts })
  pushed_expr h g x e =
      let p = subst (λ (w : List ℕ). Puts r.exprs.now r.tapes.exprs w o l'.now) (sym e) h in
      let r' : Recorder = record { signals = r.signals; exprs = l'; stmts = r.stmts; tapes = tapes r.tapes.signals (tape_of r.tapes.exprs o) r.tapes.stmts } in
      let b = fits (length r.exprs.now) r.tapes.exprs (length (expr_words x)) in
      subst (λ (y : End ℕ). Writes r (emit x) y r') (sym (ap (full_or 1 r.tapes.exprs.count) p.said ∙ full_pick 1 _ _ b))
      (writes_one r r' (expr x) (λ n. n.exprs) (record { signals = refl; exprs = g; stmts = refl }) b refl
      (ap (λ (w : List ℕ). lists r.signals.now w r.stmts.now) p.held ∙ chosen (λ (w : List ℕ). lists r.signals.now w r.stmts.now) b _ _)
      (ap (λ (u : Tape). tapes r.tapes.signals u r.tapes.stmts) (ap (tape_of r.tapes.exprs) p.said ∙ tape_pick _ _ b) ∙ chosen (λ (u : Tape). tapes r.tapes.signals u r.tapes.stmts) b _ _))

  pub pushed_stmt : Puts r.stmts.now r.tapes.stmts ws o l'.now → l'.ghost_name ≡ r.stmts.ghost_name
      → PushedStmt ws r (full_stmt o) (record { signals = r.signals; exprs = r.exprs; stmts = l'; tapes = tapes r.tapes.signals r.tapes.exprs (tape_of r.tapes.stmts o) })
  pushed_stmt h g x e =
      let p = subst (λ (w : List ℕ). Puts r.stmts.now r.tapes.stmts w o l'.now) (sym e) h in
      let r' : Recorder = record { signals = r.signals; exprs = r.exprs; stmts = l'; tapes = tapes r.tapes.signals r.tapes.exprs (tape_of r.tapes.stmts o) } in
      let b = fits (length r.stmts.now) r.tapes.stmts (length (stmt_words x)) in
      subst (λ (y : End (Unit {0})). Writes r (state x) y r') (sym (ap full_stmt p.said ∙ chosen full_stmt b _ _))
      (writes_one r r' (stmt x) (λ n. tt) (record { signals = refl; exprs = refl; stmts = g }) b refl
      (ap (λ (w : List ℕ). lists r.signals.now r.exprs.now w) p.held ∙ chosen (λ (w : List ℕ). lists r.signals.now r.exprs.now w) b _ _)
      (ap (λ (u : Tape). tapes r.tapes.signals r.tapes.exprs u) (ap (tape_of r.tapes.stmts) p.said ∙ tape_pick _ _ b) ∙ chosen (λ (u : Tape). tapes r.tapes.signals r.tapes.exprs u) b _ _))

-- no more fields
pub sized_nil : (ws : List ℕ) → sized (ws ++ []) ≡ sized ws
sized_nil ws = ap sized (append-nil ws)

pub puts_nil : {l : List ℕ} {t : Tape} (ws : List ℕ) {o : Option Tape} {l' : List ℕ} → Puts l t (sized (ws ++ [])) o l' → Puts l t (sized ws) o l'
puts_nil {l} {t} ws {o} {l'} h = subst (λ (x : List ℕ). Puts l t x o l') (sized_nil ws) h

pub sized_length : (fields more : List ℕ) → length (sized (fields ++ more)) ≡ 1 + length fields + length more
sized_length fields more = omega (arith, length-append fields more)

-- a register's words by what its controls are
pub reg_words : (t n k d : ℕ) {a a' : Option AsyncReset} {e e' : Option Enable} → a ≡ a' → e ≡ e' → stmt_words (reg t n k d (reset_of a) (enable_of e)) ≡ stmt_words (reg t n k d (reset_of a') (enable_of e'))
reg_words t n k d p q = ap₂ (λ (a : Option AsyncReset) (e : Option Enable). stmt_words (reg t n k d (reset_of a) (enable_of e))) p q
