-- What the tables and an order of all expressions say of a model without a fault. Assumes nothing.
use Prim.Native.Nat.{ℕ, ◌≤◌}
use mathlib.Core.Path.{◌≡◌, refl, sym, ◌∙◌, subst}
use mathlib.Core.List.{List, Memᴰ as Mem}
use Rattle.std.specs.Prelude.{None}
use native.Mathlib.Omega.{arith}
use native.Mathlib.Nat.{not-suc-le-zero, le_trans}
use lib.ListN.{length, take}
use lib.Seq.{take-take, get_or-take}
use Rattle.recorder.specs.Record.{Model}
use Rattle.recorder.specs.Lists.{lists}
use Rattle.recorder.specs.Read.{model_of}
use Rattle.recorder.specs.Words.{raw_of}
use Rattle.simulation.specs.Index.{records_in, widths_in, Indexed, Starts, Driven}
use Rattle.simulation.specs.Tick.{looped}
use Rattle.simulation.specs.Run.{zeroed}
use Rattle.simulation.proofs.Sound.{exprs_read, sound}
use Rattle.simulation.proofs.Found.{signals_count, exprs_count}
use Rattle.ordering.specs.Order.{needs}
use Rattle.ordering.specs.Marks.{left, Noted, Sorting}
use Rattle.ordering.specs.Words.{model_with, Tabled, Faultless}
use Rattle.ordering.specs.Words.{model_in as part_in}
use Rattle.ordering.specs.Sorts.{SortsAll}
use Rattle.ordering.proofs.Marking.{marked_unlooped}
use Rattle.ordering.proofs.Sorted.{sorting_none, left_all}
use Rattle.evaluation.specs.Ready.{model_in, Prepared}
use Rattle.evaluation.specs.Ticks.{NoFault, Ordered}

-- the same model by both readings
pub model_is : (signals exprs stmts : List ℕ) → model_with signals exprs stmts ≡ model_in signals exprs stmts
unfolding model_of
model_is signals exprs stmts = refl

-- an order of none
pub unordered : (m : Model) (n : ℕ) (order : List ℕ) → Ordered m n (take 0 order)
unordered m n order = record { all = λ p e h. absurd (not-suc-le-zero (le_trans h p)); behind = λ p j h. absurd (not-suc-le-zero (le_trans h p)) }

-- before the first pass
pub sorting_zeroed : (m : Model) (n : ℕ) (marks : List ℕ) {marks' order : List ℕ} → marks' ≡ zeroed marks → Sorting m n marks' order 0
sorting_zeroed m n marks {marks'} {order} e = subst (λ (l : List ℕ). Sorting m n l order 0) (sym e) (sorting_none m n (length marks) order)

module _ {signals exprs stmts : List ℕ} (f : NoFault signals exprs stmts) where
  pub tabled : {starts drivers : List ℕ} → Starts exprs starts → Driven stmts drivers → Tabled exprs starts stmts drivers
  tabled s d = record { readable = exprs_read f.widest (raw_of (lists signals exprs stmts)) f.faultless; started = s; driven = d }

  pub faultless : Faultless signals exprs stmts
  unfolding model_of
  faultless = record { widest = f.widest; sound = sound f.widest (raw_of (lists signals exprs stmts)) f.faultless }

  pub prepared : {expr_table signal_table : List ℕ} → Indexed (widths_in exprs) expr_table → Indexed (widths_in signals) signal_table → Prepared signals exprs stmts expr_table signal_table
  prepared e s = record { widest = f.widest; faultless = f.faultless; expr_offsets = e; signal_offsets = s }

  pub counted : {count : ℕ} → count ≡ length (records_in signals) → count ≡ length (model_with signals exprs stmts).signals
  unfolding model_of
  counted e = e ∙ sym (signals_count f.widest (lists signals exprs stmts) f.faultless)

  exprs_counted : {n : ℕ} → n ≡ length (records_in exprs) → length (model_in signals exprs stmts).exprs ≡ n
  exprs_counted e = exprs_count f.widest (lists signals exprs stmts) f.faultless ∙ sym e

  -- all n were noted: there is no loop
  module _ {n k : ℕ} {marks order : List ℕ} (c : n ≡ length (records_in exprs)) (s : SortsAll (part_in exprs stmts) n k marks order) (e : k ≡ n) where
    pub sorted_unlooped : None ≡ looped (model_in signals exprs stmts)
    unfolding model_of
    sorted_unlooped =
        sym (marked_unlooped f.widest (model_in signals exprs stmts) (sound f.widest (raw_of (lists signals exprs stmts)) f.faultless) marks
        (record { ends = λ d h. s.sorted.reached.ends d h })
        (λ d h. left_all marks n (let z = s.sorted.counted in omega (arith, z, e)) d (let q = exprs_counted c in omega (arith, q, h))))

    -- and they stand in order
    pub sorted_ordered : n ≤ length order → Ordered (model_in signals exprs stmts) n (take n order)
    unfolding model_of
    sorted_ordered r = record {
      all = λ p d h. subst (λ (l : List ℕ). Mem d l) (sym (take-take n n order (omega arith))) (subst (λ (i : ℕ). Mem d (take i order)) e (noted.each d (left_all marks n none_left d h)));
      behind = λ p j h d q. subst (λ (l : List ℕ). Mem d l) (sym (take-take j n order (omega (arith, h)))) (noted.behind j (omega (arith, h, e)) d (subst (λ (x : ℕ). Mem d (needs (part_in exprs stmts) x)) (get_or-take n order j 0 h) q));
    }
      where
        noted : Noted (part_in exprs stmts) marks order k
        noted = s.sorted.noted r

        none_left : left marks n ≡ 0
        none_left = let z = s.sorted.counted in omega (arith, z, e)
