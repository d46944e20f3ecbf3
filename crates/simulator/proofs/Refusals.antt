-- A netlist that lowering accepts is refused only for a short buffer. Assumes nothing.
use mathlib.Core.Path.{◌≡◌, sym, ◌∙◌, ap, subst}
use mathlib.Core.Bool.{Bool, true, false}
use mathlib.Core.List.{List, map}
use Rattle.std.specs.Prelude.{Option, None, Some}
use Prim.Native.Nat.{ℕ}
use native.Mathlib.Omega.{arith}
use lib.Dec.{ltb}
use lib.ListN.{length}
use Rattle.bits.specs.Bits.{pick}
use Rattle.netlist.specs.Netlist.{Netlist}
use Rattle.netlist.specs.Reader.{base, netlist, read_words, Read}
use Rattle.recorder.specs.declared.Tapes.{Tapes}
use Rattle.recorder.specs.Lists.{Lists}
use Rattle.recorder.specs.Read.{only}
use Rattle.recorder.specs.Words.{words_of, blank}
use Rattle.lowering.specs.Lower.{Accepted, Refused, Lowering, lowered, lowered_read, lower_words}
use Rattle.simulation.specs.Wellformed.{largest, malformed, or_else}
use Rattle.simulation.specs.Run.{short, first_of}
use Rattle.simulation.proofs.Sound.{sound_words}
use Rattle.forms.specs.Lowered.{lowered_model}
use Rattle.forms.proofs.Sounds.{lowered_sound}
use Rattle.equivalence.specs.Demand.{used_lists}
use Rattle.equivalence.proofs.Acceptance.{read_fits, accepted_kept, used_words, is_lowered}
use Rattle.converter.specs.Entry.{any_short, call_of}
use Rattle.runner.specs.Calls.{ListCall, list_model, list_causes, list_verdict, list_answer, list_outcome, run_list}
use Rattle.simulator.specs.Entry.{Simulation, ticks_on, ran, simulate_call}
use Rattle.simulator.specs.Entry.{lowered as lowered_to}
use Rattle.simulator.proofs.Cells.{room}

-- 1, if anything
data One : Option (ℕ × ℕ) → Type 0 where
  nothing : One None
  one : (place : ℕ) → One (Some (1, place))

one_then : {a b : Option (ℕ × ℕ)} → One a → One b → One (or_else a b)
one_then nothing q = q
one_then (one place) q = one place

short_one : (n : ℕ) (buffer : List ℕ) → One (short n buffer)
short_one n buffer = go (ltb (length buffer) n)
  where
    go : (b : Bool) → One (only b (Some (1, Prim.Native.Nat.min n 18446744073709551615)))
    go true = one _
    go false = nothing

-- six buffers
causes_one : (k : ListCall) → One (first_of (list_causes (list_model k) k))
causes_one k =
    one_then (short_one _ k.bytes)
    (one_then (short_one _ k.work_bits)
    (one_then (short_one _ k.work_exprs)
    (one_then (short_one _ k.work_signals)
    (one_then (short_one _ k.answers)
    (one_then (short_one _ k.shown) nothing)))))

module _ (x : Simulation) (n : Netlist) (q : read_words base x.words ≡ netlist n) where
  abbrev s : ℕ
  s = length x.lists.signals

  abbrev e : ℕ
  e = length x.lists.exprs

  abbrev m : ℕ
  m = length x.lists.stmts

  module _ (t : Tapes) (l : Lists) (h : lower_words base x.words s e m ≡ record { answer = Accepted t; lists = l }) where
    list_one : One (list_answer largest (ticks_on x l t))
    unfolding list_answer
    list_one =
        let low : lowered base.wires n s e m ≡ record { answer = Accepted t; lists = l } = ap (λ (r : Read). lowered_read base.wires r s e m) (sym q) ∙ h in
        let k = accepted_kept base.wires n s e m t l low in
        let a = is_lowered base.wires base n s e m t l (read_fits base x.words n q) k in
        let words : used_lists l t ≡ words_of (lowered_model base.wires n) = used_words base.wires n s e m t l k in
        subst (λ (o : Option ℕ). One (list_verdict (list_model (ticks_on x l t)) (ticks_on x l t) o)) (sym (ap (malformed largest) words ∙ sound_words (lowered_model base.wires n) largest (lowered_sound a room)))
        (causes_one (ticks_on x l t))

    ran_one : (number place : ℕ) → (ran x l t (run_list largest (ticks_on x l t)).answer (run_list largest (ticks_on x l t))).answer ≡ Refused number place → number ≡ 1
    unfolding run_list
    ran_one = go (list_answer largest (ticks_on x l t)) list_one
      where
        go : (o : Option (ℕ × ℕ)) → One o → (number place : ℕ) → (ran x l t (list_outcome largest (ticks_on x l t) o).answer (list_outcome largest (ticks_on x l t) o)).answer ≡ Refused number place → number ≡ 1
        go None nothing number place h = absurd (let z : ◌≡◌ {A = ℕ} 0 1 = cc in omega arith)
        go (Some r) (one p) number place h = cc

  pub refused_short : (t : Tapes) (l : Lists) → call_of base x.words x.lists x.works ≡ record { answer = Accepted t; lists = l } → (number place : ℕ) → (simulate_call base x).answer ≡ Refused number place → number ≡ 1
  unfolding simulate_call
  refused_short t l h number place k = ran_one t l (go (any_short (map length x.works)) h) number place (sym (ap (λ (y : Lowering). (lowered_to x y.lists y.answer).answer) h) ∙ k)
    where
      go : (b : Bool) → ◌≡◌ {A = Lowering} (pick b (record { answer = Refused 1 16384; lists = blank s e m }) (lower_words base x.words s e m)) (record { answer = Accepted t; lists = l }) → lower_words base x.words s e m ≡ record { answer = Accepted t; lists = l }
      go false h = h
      go true h = absurd (let w : Refused 1 16384 ≡ Accepted t = ap (λ (y : Lowering). y.answer) h in let z : ◌≡◌ {A = ℕ} 0 1 = cc in omega arith)
