-- What an accepted call shows is what the netlist's own cells show, and what each tick answers: demand 3 on the call's buffers. Assumes nothing.
use mathlib.Core.Path.{◌≡◌, refl, sym, ◌∙◌, ap, subst}
use mathlib.Core.Bool.{Bool, true, false}
use mathlib.Core.List.{List, map}
use Rattle.std.specs.Prelude.{Option, None, Some}
use Prim.Native.Nat.{ℕ, ◌≤◌}
use native.Mathlib.Omega.{arith}
use lib.ListN.{length, length-replicate}
use Rattle.bits.specs.Bits.{pick}
use Rattle.netlist.specs.Netlist.{Netlist}
use Rattle.netlist.specs.Reader.{base, netlist, read_words, Read}
use Rattle.recorder.specs.declared.Tapes.{Tapes}
use Rattle.recorder.specs.Record.{Model}
use Rattle.recorder.specs.Lists.{Lists}
use Rattle.recorder.specs.Read.{model_of}
use Rattle.recorder.specs.Words.{raw_of, blank}
use Rattle.recorder.proofs.Roundtrip.{model_read}
use Rattle.lowering.specs.Lower.{Lowered, Accepted, Refused, Lowering, lowered, lowered_read, lower_words}
use Rattle.behaviour.specs.Behaviour.{NoWireLoop}
use Rattle.simulation.specs.Wellformed.{largest, malformed}
use Rattle.simulation.specs.Run.{zeroed, signal_bytes, tick_bits}
use Rattle.simulation.specs.Shown.{ByModel, shown_by_model}
use Rattle.simulation.proofs.Kept.{all_none, short_none}
use Rattle.forms.specs.Lowered.{lowered_model, Roomy}
use Rattle.equivalence.specs.Demand.{used_lists, Fresh}
use Rattle.equivalence.proofs.Acceptance.{accepted_kept, used_words}
use Rattle.equivalence.proofs.Shows.{zeros_fresh}
use Rattle.equivalence.proofs.Demanded.{demand3, all_answered}
use Rattle.converter.specs.Entry.{any_short}
use Rattle.runner.specs.Calls.{ListCall, entries, list_model, list_causes, list_verdict, list_answer, answers_of, outputs_of, filled, list_outcome, run_list}
use Rattle.simulator.specs.Entry.{Simulation, Simulated, ShowsCells, entries_of, ticks_on, ran, simulate_call}
use Rattle.simulator.specs.Entry.{lowered as lowered_to}
use Rattle.bits.proofs.Options.{some_ne_none}

abbrev pub IsAccepted : Lowered → Type 0
IsAccepted (Accepted t) = Unit {0}
IsAccepted (Refused number place) = ⊥

pub room : Roomy base largest
room = record { ports = omega arith; banks = omega arith; products = omega arith }

-- a list is accepted only if the signal bytes are long enough
bytes_long : (c : ListCall) → list_answer largest c ≡ None → signal_bytes (list_model c) ≤ length c.bytes
unfolding list_answer
bytes_long c = go (malformed largest c.lists)
  where
    go : (o : Option ℕ) → list_verdict (list_model c) c o ≡ None → signal_bytes (list_model c) ≤ length c.bytes
    go (Some n) h = absurd (some_ne_none (12, n) h)
    go None h = short_none (signal_bytes (list_model c)) c.bytes (all_none (list_causes (list_model c) c) h).0

module _ (x : Simulation) (n : Netlist) (q : read_words base x.words ≡ netlist n) (loopless : NoWireLoop n) where
  abbrev s : ℕ
  s = length x.lists.signals

  abbrev e : ℕ
  e = length x.lists.exprs

  abbrev m : ℕ
  m = length x.lists.stmts

  -- lowered, and the list accepted
  shows : (t : Tapes) (l : Lists) → lower_words base x.words s e m ≡ record { answer = Accepted t; lists = l } → list_answer largest (ticks_on x l t) ≡ None
      → ShowsCells base.wires n x (run_list largest (ticks_on x l t)).answers (run_list largest (ticks_on x l t)).shown
  unfolding run_list
  shows t l h a = record {
    ticks = shown_by_model largest (used_lists l t) (lowered_model base.wires n).signals (zeroed x.bytes) (entries_of base.wires n x);
    agree = demand3 base.wires base largest room x.words s e m t l h n q loopless (zeroed x.bytes) fresh (entries_of base.wires n x);
    answered = all_answered base.wires base largest room x.words s e m t l h n q loopless (zeroed x.bytes) fresh (entries_of base.wires n x);
    answers_are = ap (λ (o : Option (ℕ × ℕ)). (list_outcome largest (ticks_on x l t) o).answers) a ∙ ap (λ (M : Model). filled x.answers (answers_of (ticks_by M))) model_is;
    shown_are = ap (λ (o : Option (ℕ × ℕ)). (list_outcome largest (ticks_on x l t) o).shown) a ∙ ap (λ (M : Model). filled x.shown (outputs_of (ticks_by M))) model_is;
  }
    where
      low : lowered base.wires n s e m ≡ record { answer = Accepted t; lists = l }
      low = ap (λ (r : Read). lowered_read base.wires r s e m) (sym q) ∙ h

      model_is : list_model (ticks_on x l t) ≡ lowered_model base.wires n
      model_is = ap (λ (w : Lists). model_of (raw_of w)) (used_words base.wires n s e m t l (accepted_kept base.wires n s e m t l low)) ∙ model_read (lowered_model base.wires n)

      -- a model's signals and inputs are what the ticks are read and shown by
      ticks_by : Model → List ByModel
      ticks_by M = shown_by_model largest (used_lists l t) M.signals (zeroed x.bytes) (entries (tick_bits M) x.work_bits x.work_exprs x.work_signals x.heads x.bits)

      long : signal_bytes (lowered_model base.wires n) ≤ length x.bytes
      long = let b = bytes_long (ticks_on x l t) a in let k = ap signal_bytes model_is in let z = length-replicate {A = ℕ} (length x.bytes) 0 in omega (arith, b, k, z)

      fresh : Fresh (signal_bytes (lowered_model base.wires n)) (zeroed x.bytes)
      fresh = zeros_fresh (signal_bytes (lowered_model base.wires n)) (length x.bytes) long

  abbrev Shown : Simulated → Type 0
  Shown r = IsAccepted r.answer → ShowsCells base.wires n x r.answers r.shown

  by_answer : (t : Tapes) (l : Lists) → lower_words base x.words s e m ≡ record { answer = Accepted t; lists = l } → Shown (ran x l t (run_list largest (ticks_on x l t)).answer (run_list largest (ticks_on x l t)))
  unfolding run_list
  by_answer t l h = go (list_answer largest (ticks_on x l t)) refl
    where
      go : (o : Option (ℕ × ℕ)) → list_answer largest (ticks_on x l t) ≡ o → Shown (ran x l t (list_outcome largest (ticks_on x l t) o).answer (list_outcome largest (ticks_on x l t) o))
      go (Some r) a y = absurd y
      go None a y = subst (λ (o : Option (ℕ × ℕ)). ShowsCells base.wires n x (list_outcome largest (ticks_on x l t) o).answers (list_outcome largest (ticks_on x l t) o).shown) a (shows t l h a)

  by_lowering : (r : Lowering) → lower_words base x.words s e m ≡ r → Shown (lowered_to x r.lists r.answer)
  by_lowering r h = go r.answer r.lists h
    where
      go : (a : Lowered) (l : Lists) → lower_words base x.words s e m ≡ record { answer = a; lists = l } → Shown (lowered_to x l a)
      go (Refused number place) l k y = absurd y
      go (Accepted t) l k y = by_answer t l k y

  pub cells_shown : Shown (simulate_call base x)
  unfolding simulate_call
  cells_shown = go (any_short (map length x.works))
    where
      go : (b : Bool) → Shown (lowered_to x (pick b (record { answer = Refused 1 16384; lists = blank s e m }) (lower_words base x.words s e m)).lists (pick b (record { answer = Refused 1 16384; lists = blank s e m }) (lower_words base x.words s e m)).answer)
      go true y = absurd y
      go false y = by_lowering (lower_words base x.words s e m) refl y
