-- A model without a fault has its records, each read, and their widths. Assumes nothing.
use Prim.Native.Nat.{ℕ, zero, suc, ◌<◌}
use mathlib.Core.Path.{◌≡◌, refl, sym, ◌∙◌, ap}
use mathlib.Core.List.{List, [], ◌∷◌}
use Rattle.std.specs.Prelude.{Option, None, Some}
use native.Mathlib.Omega.{arith}
use native.Mathlib.Nat.{not-suc-le-zero}
use lib.ListN.{length, get_or}
use Rattle.recorder.specs.Lists.{Lists}
use Rattle.recorder.specs.Read.{read_signal, read_expr, read_stmt, read_all, model_of}
use Rattle.recorder.specs.Words.{raw_of, EachReads}
use Rattle.simulation.specs.Wellformed.{first_fault, malformed, unsplit_all}
use Rattle.simulation.specs.Sound.{signal_widths, expr_widths}
use Rattle.simulation.specs.Index.{records_in, widths_in}
use Rattle.simulation.proofs.Sound.{signals_read, exprs_read, stmts_read, signal_widths_lem, expr_widths_lem, or_else_second}

module _ {A : Type 0} (g : List ℕ → Option A) where
  pub read_head : (r : List ℕ) (rs : List (List ℕ)) (a : A) → g r ≡ Some a → read_all g (r ∷ rs) ≡ a ∷ read_all g rs
  read_head r rs a e = rw (e, read_all)

  pub read_count : (rs : List (List ℕ)) → EachReads g rs → length (read_all g rs) ≡ length rs
  read_count [] t = refl
  read_count (r ∷ rs) t = ap length (read_head r rs t.0.as_this t.0.reads) ∙ ap suc (read_count rs t.1)

  pub read_at : (rs : List (List ℕ)) → EachReads g rs → (k : ℕ) → k < length rs → (d : A) → g (get_or rs k []) ≡ Some (get_or (read_all g rs) k d)
  read_at [] t k h d = absurd (not-suc-le-zero h)
  read_at (r ∷ rs) t zero h d = t.0.reads ∙ ap (λ (l : List A). Some (get_or l 0 d)) (sym (read_head r rs t.0.as_this t.0.reads))
  read_at (r ∷ rs) t (suc k) h d = read_at rs t.1 k (omega arith) d ∙ ap (λ (l : List A). Some (get_or l (suc k) d)) (sym (read_head r rs t.0.as_this t.0.reads))

-- A MODEL WITHOUT A FAULT

pub faultless : (widest : ℕ) (l : Lists) → malformed widest l ≡ None → first_fault widest (raw_of l) ≡ None
unfolding malformed
faultless widest l h = or_else_second (unsplit_all l) (first_fault widest (raw_of l)) h

module _ (widest : ℕ) (l : Lists) (h : first_fault widest (raw_of l) ≡ None) where
  pub signals_count : length (model_of (raw_of l)).signals ≡ length (records_in l.signals)
  unfolding model_of
  signals_count = read_count read_signal (records_in l.signals) (signals_read widest (raw_of l) h)

  pub exprs_count : length (model_of (raw_of l)).exprs ≡ length (records_in l.exprs)
  unfolding model_of
  exprs_count = read_count read_expr (records_in l.exprs) (exprs_read widest (raw_of l) h)

  pub stmts_count : length (model_of (raw_of l)).stmts ≡ length (records_in l.stmts)
  unfolding model_of
  stmts_count = read_count read_stmt (records_in l.stmts) (stmts_read widest (raw_of l) h)

  pub signals_wide : widths_in l.signals ≡ signal_widths (model_of (raw_of l))
  signals_wide = signal_widths_lem widest (raw_of l) h

  pub exprs_wide : widths_in l.exprs ≡ expr_widths (model_of (raw_of l))
  exprs_wide = expr_widths_lem widest (raw_of l) h
