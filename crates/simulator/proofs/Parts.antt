-- What the parts of `simulate` leave, joined. Assumes nothing.
use mathlib.Core.Path.{◌≡◌, refl, sym, ◌∙◌, ap, subst}
use mathlib.Core.Bool.{Bool, true, false}
use mathlib.Core.List.{List, map}
use Rattle.std.specs.Prelude.{Option, None, Some, Result}
use Prim.Native.Nat.{ℕ}
use native.Mathlib.Omega.{arith}
use lib.ListN.{length}
use Rattle.bits.specs.Bits.{pick}
use Rattle.netlist.specs.Netlist.{Netlist}
use Rattle.netlist.specs.Reader.{base, netlist, refused, read_words, Read}
use Rattle.recorder.specs.declared.Tapes.{Tapes}
use Rattle.recorder.specs.Lists.{Lists, lists, Answer, Answer.Done, Answer.Failed, writing}
use Rattle.recorder.specs.Words.{blank}
use Rattle.lowering.specs.Lower.{start, Lowered, Accepted, Refused, Lowering, overdriven_from, lower_netlist, ended, lowered, lowered_read, lower_words}
use Rattle.simulation.specs.Wellformed.{largest}
use Rattle.simulation.specs.Run.{zeroed}
use Rattle.forms.specs.Lowered.{lowered_model}
use Rattle.refusal.specs.declared.Refusal.{Refusal}
use Rattle.converter.specs.Entry.{answer_of, any_short, call_of, blank_of, Lowers}
use Rattle.runner.specs.Calls.{ListCall, list_answer, list_outcome, run_list}
use Rattle.runner.specs.Whole.{list_call}
use Rattle.simulator.specs.Entry.{Simulation, simulation, Simulated, ticks_on, simulate_call, ShowsCells, Simulates}
use Rattle.simulator.specs.Parts.{ends, follows, RunsLowered}
use Rattle.simulator.specs.Entry.{lowered as lowered_to}
use Rattle.simulator.specs.Entry.{ran as ran_to}
use Rattle.simulator.proofs.Cells.{IsAccepted, cells_shown}
use Rattle.simulator.proofs.Refusals.{refused_short}

-- a refusal by lowering leaves zeros
abbrev Blanks : ℕ → ℕ → ℕ → Lowering → Type 0
Blanks s e m r = (number place : ℕ) → r.answer ≡ Refused number place → r.lists ≡ blank s e m

module _ (s e m : ℕ) where
  ended_blank : (a : Answer (Unit {0})) (o : Option ℕ) (l : Lists) → Blanks s e m (ended a o l (blank s e m))
  ended_blank (Done a t) None l number place h = absurd (let z : ◌≡◌ {A = ℕ} 0 1 = cc in omega arith)
  ended_blank (Done a t) (Some k) l number place h = refl
  ended_blank (Failed n p) o l number place h = refl

  lowered_blank : (shared : ℕ) (n : Netlist) → Blanks s e m (lowered shared n s e m)
  unfolding lowered
  lowered_blank shared n =
      let left = writing (blank s e m) start (lower_netlist shared n) in
      ended_blank left.answer (overdriven_from 0 (lowered_model shared n).signals (lowered_model shared n).stmts) left.lists

  read_blank : (shared : ℕ) (r : Read) → Blanks s e m (lowered_read shared r s e m)
  read_blank shared (netlist n) number place h = lowered_blank shared n number place h
  read_blank shared (refused i j) number place h = refl

call_blank : (words : List ℕ) (l : Lists) (works : List (List ℕ)) → Blanks (length l.signals) (length l.exprs) (length l.stmts) (call_of base words l works)
call_blank words l works = go (any_short (map length works))
  where
    go : (b : Bool) → Blanks (length l.signals) (length l.exprs) (length l.stmts) (pick b (record { answer = Refused 1 16384; lists = blank_of l }) (lower_words base words (length l.signals) (length l.exprs) (length l.stmts)))
    go true number place h = refl
    go false number place h = read_blank (length l.signals) (length l.exprs) (length l.stmts) base.wires (read_words base words) number place h

module _ (x : Simulation) (l : Lists) (lengths : blank_of l ≡ blank_of x.lists) where
  abbrev k : ListCall
  k = list_call l x.heads x.bits (zeroed x.bytes) x.work_bits x.work_exprs x.work_signals x.answers x.shown

  ticks_follow : (t : Tapes) → follows k (Accepted t) ≡ lowered_to x l (Accepted t)
  unfolding run_list
  ticks_follow t = go (list_answer largest (ticks_on x l t))
    where
      go : (o : Option (ℕ × ℕ)) → ends k t (list_outcome largest (ticks_on x l t) o) ≡ ran_to x l t (list_outcome largest (ticks_on x l t) o).answer (list_outcome largest (ticks_on x l t) o)
      go None = refl
      go (Some r) = ap (λ (y : Lists). record { answer = Refused r.0 r.1; lists = y; answers = zeroed x.answers; shown = zeroed x.shown }) lengths

  all_follow : (a : Lowered) → ((number place : ℕ) → a ≡ Refused number place → l ≡ blank_of x.lists) → follows k a ≡ lowered_to x l a
  all_follow (Accepted t) h = ticks_follow t
  all_follow (Refused number place) h = ap (λ (y : Lists). record { answer = Refused number place; lists = y; answers = zeroed x.answers; shown = zeroed x.shown }) (h number place refl)

module _ (words heads bits : List ℕ) (l : Lists) (works : List (List ℕ)) (bytes wb we ws answers shown : List ℕ) where
  abbrev call : Simulation
  call = simulation words heads bits l works bytes wb we ws answers shown

  simulates_value : {a r : Result Tapes Refusal} {l₁ l' : Lists} {works₁ : List (List ℕ)} {bytes₁ answers' shown' : List ℕ}
      → Lowers base words l works a l₁ works₁ → bytes₁ ≡ zeroed bytes → blank_of l₁ ≡ blank_of l → RunsLowered (list_call l₁ heads bits bytes₁ wb we ws answers shown) a r l' answers' shown'
      → record { answer = answer_of r; lists = l'; answers = answers'; shown = shown' } ≡ simulate_call base (simulation words heads bits l works bytes wb we ws answers shown)
  unfolding simulate_call
  simulates_value {a} {l₁ = l₁} h z n f =
      f.value
      ∙ ap (λ (b : List ℕ). follows (list_call l₁ heads bits b wb we ws answers shown) (answer_of a)) z
      ∙ all_follow call l₁ n (answer_of a) (λ number place e. ap (λ (y : Lowering). y.lists) h.value ∙ call_blank words l works number place (sym (ap (λ (y : Lowering). y.answer) h.value) ∙ e))
      ∙ ap (λ (y : Lowering). lowered_to call y.lists y.answer) h.value

  simulates_so : {r : Result Tapes Refusal} {l' : Lists} {answers' shown' : List ℕ}
      → record { answer = answer_of r; lists = l'; answers = answers'; shown = shown' } ≡ simulate_call base (simulation words heads bits l works bytes wb we ws answers shown)
      → Simulates base (simulation words heads bits l works bytes wb we ws answers shown) r l' answers' shown'
  simulates_so v = record {
    value = v;
    cells = λ n q loopless t e. subst (λ (y : Simulated). IsAccepted y.answer → ShowsCells base.wires n call y.answers y.shown) (sym v) (cells_shown call n q loopless) (subst IsAccepted (sym e) tt);
    only_short = λ n q t d e number place h. refused_short call n q t d e number place (sym (ap (λ (y : Simulated). y.answer) v) ∙ h);
  }

  pub simulates : {a r : Result Tapes Refusal} {signals₁ exprs₁ stmts₁ : List ℕ} {l' : Lists} {works₁ : List (List ℕ)} {bytes₁ answers' shown' : List ℕ}
      → Lowers base words l works a (lists signals₁ exprs₁ stmts₁) works₁ → length signals₁ ≡ length l.signals → length exprs₁ ≡ length l.exprs → length stmts₁ ≡ length l.stmts → bytes₁ ≡ zeroed bytes
      → RunsLowered (list_call (lists signals₁ exprs₁ stmts₁) heads bits bytes₁ wb we ws answers shown) a r l' answers' shown'
      → Simulates base (simulation words heads bits l works bytes wb we ws answers shown) r l' answers' shown'
  simulates h p q n z f = simulates_so (simulates_value h z (λ i. blank (p i) (q i) (n i)) f)
