-- What the parts of `simulate` leave, of a model's lists, a list of ticks and the run's tables.
use Rattle.std.specs.Prelude.{◌≡◌, List, [], ◌∷◌, map, ℕ}
use Rattle.std.specs.Prelude.{Option, None, Some, Result}
use Rattle.refusal.specs.declared.Refusal.{Refusal}
use Rattle.recorder.specs.declared.Tapes.{Tapes}
use Rattle.recorder.specs.Lists.{Lists, lists}
use Rattle.lowering.specs.Lower.{Lowered, Accepted, Refused, Lowering}
use Rattle.simulation.specs.Wellformed.{largest}
use Rattle.simulation.specs.Run.{zeroed}
use Rattle.converter.specs.Entry.{answer_of, blank_of}
use Rattle.runner.specs.Calls.{ListCall, ListOutcome, run_list}
use Rattle.runner.specs.Whole.{list_call}
use Rattle.equivalence.specs.Demand.{used_lists}
use Rattle.simulator.specs.declared.Lists as d
use Rattle.simulator.specs.declared.Ticks.{Ticks}
use Rattle.simulator.specs.declared.Tables.{Tables}
use Rattle.simulator.specs.Entry.{Simulated}

abbrev pub lists_in : d.Lists → Lists
lists_in l = lists l.signals.now l.exprs.now l.stmts.now

abbrev pub call_in : Lists → Ticks → ListCall
call_in l k = list_call l k.heads.now k.bits.now k.bytes.now k.work_bits.now k.work_exprs.now k.work_signals.now k.answers.now k.shown.now

abbrev pub works_in : Ticks → List (List ℕ)
works_in k = k.work_bits.now ∷ k.work_exprs.now ∷ k.work_signals.now ∷ []

-- the works, and what is shown
abbrev pub shown_in : Ticks → List (List ℕ)
shown_in k = k.work_bits.now ∷ k.work_exprs.now ∷ k.work_signals.now ∷ k.answers.now ∷ k.shown.now ∷ []

abbrev pub tables_in : Tables → List (List ℕ)
tables_in t = t.starts.now ∷ t.expr_table.now ∷ t.signal_table.now ∷ t.driver_table.now ∷ t.order.now ∷ []

-- the buffers are still those that were lent

pub record SameLists (l l' : d.Lists) : Type 0 where
  pub signals : l'.signals.ghost_name ≡ l.signals.ghost_name
  pub exprs : l'.exprs.ghost_name ≡ l.exprs.ghost_name
  pub stmts : l'.stmts.ghost_name ≡ l.stmts.ghost_name

pub record SameTicks (k k' : Ticks) : Type 0 where
  pub bytes : k'.bytes.ghost_name ≡ k.bytes.ghost_name
  pub work_bits : k'.work_bits.ghost_name ≡ k.work_bits.ghost_name
  pub work_exprs : k'.work_exprs.ghost_name ≡ k.work_exprs.ghost_name
  pub work_signals : k'.work_signals.ghost_name ≡ k.work_signals.ghost_name
  pub answers : k'.answers.ghost_name ≡ k.answers.ghost_name
  pub shown : k'.shown.ghost_name ≡ k.shown.ghost_name

pub record SameTables (t t' : Tables) : Type 0 where
  pub starts : t'.starts.ghost_name ≡ t.starts.ghost_name
  pub expr_table : t'.expr_table.ghost_name ≡ t.expr_table.ghost_name
  pub signal_table : t'.signal_table.ghost_name ≡ t.signal_table.ghost_name
  pub driver_table : t'.driver_table.ghost_name ≡ t.driver_table.ghost_name
  pub order : t'.order.ghost_name ≡ t.order.ghost_name

-- lists of zeros
pub record Blanked (l l' : d.Lists) : Type 0 where
  pub same : SameLists l l'
  pub blank : lists_in l' ≡ blank_of (lists_in l)

-- works of zeros are left so
pub record StaysZero (works works' : List (List ℕ)) : Type 0 where
  pub stays : works ≡ map zeroed works → works' ≡ map zeroed works

-- on the words that lowering used
abbrev pub on_used : ListCall → Tapes → ListCall
on_used k t = list_call (used_lists k.lists t) k.heads k.bits k.bytes k.work_bits k.work_exprs k.work_signals k.answers k.shown

-- how the ticks' answer ends the whole: a refusal leaves no model
abbrev pub concluded : Lists → Tapes → Option (ℕ × ℕ) → Lowering
concluded l t None = record { answer = Accepted t; lists = l }
concluded l t (Some r) = record { answer = Refused r.0 r.1; lists = blank_of l }

-- lists that hold a model: its ticks
abbrev pub ends : ListCall → Tapes → ListOutcome → Simulated
ends k t o = let z = concluded k.lists t o.answer in record { answer = z.answer; lists = z.lists; answers = o.answers; shown = o.shown }

pub record RunsAccepted (k : ListCall) (t : Tapes) (r : Result Tapes Refusal) (l' : Lists) (answers' shown' : List ℕ) : Type 0 where
  pub value : record { answer = answer_of r; lists = l'; answers = answers'; shown = shown' } ≡ ends k t (run_list largest (on_used k t))

-- what lowering answered: ticks, or nothing to show
abbrev pub follows : ListCall → Lowered → Simulated
follows k (Accepted t) = ends k t (run_list largest (on_used k t))
follows k (Refused number place) = record { answer = Refused number place; lists = k.lists; answers = zeroed k.answers; shown = zeroed k.shown }

pub record RunsLowered (k : ListCall) (a r : Result Tapes Refusal) (l' : Lists) (answers' shown' : List ℕ) : Type 0 where
  pub value : record { answer = answer_of r; lists = l'; answers = answers'; shown = shown' } ≡ follows k (answer_of a)
