-- A whole list: what refuses it, and what its run leaves. Assumes nothing.
use Prim.Native.Nat.{ℕ, zero, suc, ◌*◌, ◌/◌, ◌≤◌, ◌<◌, min}
use mathlib.Core.Path.{◌≡◌, refl, sym, ◌∙◌, ap, ap₂, subst}
use mathlib.Core.Bool.{Bool, false}
use mathlib.Core.List.{List, [], ◌∷◌}
use Rattle.std.specs.Prelude.{Option, None, Some}
use Rattle.bits.proofs.Options.{some_ne_none}
use native.Mathlib.Omega.{arith}
use native.Mathlib.Nat.{le_trans, le_of_eq}
use lib.Dec.{ltb}
use lib.ListN.{length, take, drop, replicate, length-replicate}
use borrow.Author.Tests.{lt-ltb, le-ltb}
use Rattle.recorder.specs.Lists.{Lists, lists}
use Rattle.recorder.specs.Record.{Model}
use Rattle.recorder.specs.Read.{only, model_of}
use Rattle.recorder.specs.Words.{raw_of}
use Rattle.simulation.specs.Run.{Ran}
use Rattle.simulation.specs.Wellformed.{largest, malformed, or_else}
use Rattle.simulation.specs.Tick.{looped}
use Rattle.simulation.specs.Index.{records_in, widths_in, offset}
use Rattle.simulation.specs.Run.{Call, answer_of, total, input_width, signal_bytes, expr_bits, tick_bits, short, no_bit, on_loop, first_of, zeroed}
use Rattle.simulation.specs.Fault.{call_of, second_field, width_total, input_total, length_causes}
use Rattle.simulation.proofs.Sound.{signals_read}
use Rattle.simulation.proofs.Steps.{length_widths}
use Rattle.simulation.proofs.Found.{faultless, signals_count, exprs_count}
use Rattle.simulation.proofs.Kept.{AllNone, all_none, short_none}
use Rattle.simulation.proofs.Calls.{firsts_append, or_else_none, only_true, count_right, short_min, long_enough, bytes_same, bits_same, ticks_same, input_fits}
use Rattle.evaluation.specs.Ready.{model_in}
use Rattle.evaluation.specs.Ticks.{signals_in, ReadSignals}
use Rattle.runner.specs.Calls.{ListCall, list_model, entries, entries_of, output_width, output_bytes, list_causes, list_verdict, list_answer, list_outcome, ListOutcome, run_list, RunsList}
use Rattle.runner.specs.Parts.{is_made, Unrefused, RunsTicks}
use Rattle.runner.specs.Whole.{list_call, shown_causes, fault_causes, ListFits, ListUnrefused, among, Stopped, leaves, Leaves}
use Rattle.runner.proofs.Ticking.{short_so}
use Rattle.runner.proofs.Call.{total_offset}

-- as many ticks as whole heads
pub entries_count : (inputs : ℕ) (wb we ws heads bits : List ℕ) → length (entries inputs wb we ws heads bits) ≡ length heads / 3
entries_count inputs wb we ws [] bits = refl
entries_count inputs wb we ws (n ∷ []) bits = refl
entries_count inputs wb we ws (n ∷ f ∷ []) bits = refl
entries_count inputs wb we ws (n ∷ f ∷ s ∷ heads) bits = let z = entries_count inputs wb we ws heads (drop n bits) in omega (arith, z)

-- 1 FOR THE TWO BUFFERS OF WHAT IS SHOWN

module _ (signals heads answers shown : List ℕ) where
  abbrev k : ℕ
  k = length heads / 3

  pub answers_short : length answers < 2 * (length heads / 3) → 2 * (length heads / 3) ≤ 18446744073709551615 → Some (1, 2 * (length heads / 3)) ≡ first_of (shown_causes signals heads answers shown)
  answers_short h q =
      let z : 2 * k ≡ min (2 * k) 18446744073709551615 = omega arith in
      ap (λ (n : ℕ). Some (1, n)) z
      ∙ ap (λ (o : Option (ℕ × ℕ)). or_else o (first_of (short (total output_width (signals_in signals) * k) shown ∷ []))) (only_true (Some (1, min (2 * k) 18446744073709551615)) (lt-ltb (length answers) (2 * k) h))

  module _ (h : 2 * (length heads / 3) ≤ length answers) {outputs needed : ℕ} (ho : outputs ≡ total output_width (signals_in signals)) (hn : needed ≡ min (outputs * (length heads / 3)) 18446744073709551615) (hl : length shown < 18446744073709551615) where
    left_short : only (ltb (length shown) needed) (Some (1, needed)) ≡ first_of (shown_causes signals heads answers shown)
    left_short =
        short_min (total output_width (signals_in signals) * k) shown needed (hn ∙ ap (λ (n : ℕ). min (n * k) 18446744073709551615) ho) hl
        ∙ sym (or_else_none (short (total output_width (signals_in signals) * k) shown))
        ∙ ap (λ (o : Option (ℕ × ℕ)). or_else o (first_of (short (total output_width (signals_in signals) * k) shown ∷ []))) (sym (short_so (2 * k) answers h))

    pub shown_short : length shown < needed → Some (1, needed) ≡ first_of (shown_causes signals heads answers shown)
    shown_short q = only_true (Some (1, needed)) (lt-ltb (length shown) needed q) ∙ left_short

    pub shown_long : needed ≤ length shown → None ≡ first_of (shown_causes signals heads answers shown)
    shown_long q = sym (ap (λ (b : Bool). only b (Some (1, needed))) (le-ltb (length shown) needed q)) ∙ left_short

-- 1

-- the first of two answers
module _ (x b : Option (ℕ × ℕ)) where
  pub first_refuses : {a : Option (ℕ × ℕ)} {r : ℕ × ℕ} → a ≡ Some r → a ≡ x → a ≡ or_else x b
  first_refuses e q = e ∙ ap (λ (o : Option (ℕ × ℕ)). or_else o b) (sym e ∙ q)

  pub second_answers : {a : Option (ℕ × ℕ)} → None ≡ x → a ≡ b → a ≡ or_else x b
  second_answers n q = q ∙ ap (λ (o : Option (ℕ × ℕ)). or_else o b) n

-- bytes that are enough: the widths' sum can be named
pub sum_named : (signals exprs bytes wb we ws : List ℕ) → None ≡ first_of (length_causes signals exprs bytes wb we ws) → length bytes < 18446744073709551615 → offset (widths_in signals) (length (records_in signals)) ≤ 18446744073709551615
sum_named signals exprs bytes wb we ws h q =
    let z = long_enough (width_total signals) bytes (short (width_total exprs) wb ∷ short (length (records_in exprs)) we ∷ short (length (records_in signals)) ws ∷ []) h in
    let e = total_offset second_field (records_in signals) in
    let k = ap (offset (widths_in signals)) (length_widths signals) in omega (arith, z, e, k, q)

-- of the work on signals only the length counts
pub work_same : (l : Lists) (heads bits bytes wb we ws other answers shown : List ℕ) → length other ≡ length ws → fault_causes (list_call l heads bits bytes wb we other answers shown) ≡ fault_causes (list_call l heads bits bytes wb we ws answers shown)
work_same l heads bits bytes wb we ws other answers shown h =
    ap (λ (n : ℕ). or_else (first_of (short (width_total l.signals) bytes ∷ short (width_total l.exprs) wb ∷ short (length (records_in l.exprs)) we ∷ only (ltb n (length (records_in l.signals))) (Some (1, min (length (records_in l.signals)) 18446744073709551615)) ∷ []))
    (first_of (shown_causes l.signals heads answers shown))) h

-- 12 AND 1

-- the causes, by the numbers that they ask for
abbrev six : ℕ → ℕ → ℕ → ℕ → ℕ → ℕ → ListCall → List (Option (ℕ × ℕ))
six sb eb ne ns k out c =
    short sb c.bytes ∷ short eb c.work_bits ∷ short ne c.work_exprs ∷ short ns c.work_signals
    ∷ short (2 * k) c.answers ∷ short (out * k) c.shown ∷ []

outputs_same : (l : Lists) → output_bytes (model_of (raw_of l)) ≡ total output_width (signals_in l.signals)
unfolding model_of
outputs_same l = refl

pub signals_readable : (l : Lists) → None ≡ malformed largest l → ReadSignals l.signals
signals_readable l h = record { readable = signals_read largest (raw_of l) (faultless largest l (sym h)) }

-- a call on the same model
abbrev other : Lists → Call
other l = call_of l [] [] None [] [] []

pub outcome_same : {a a' : Option (ℕ × ℕ)} {b b' w w' s s' : List ℕ} → a ≡ a' → b ≡ b' → w ≡ w' → s ≡ s' → ◌≡◌ {A = ListOutcome} (record { answer = a; bytes = b; answers = w; shown = s }) (record { answer = a'; bytes = b'; answers = w'; shown = s' })
outcome_same p q r t = rw (p, q, r, t)

module _ (c : ListCall) where
  abbrev m : Model
  m = list_model c

  causes_so : malformed largest c.lists ≡ None → fault_causes c ≡ first_of (list_causes (list_model c) c)
  causes_so h =
      let sb = width_total c.lists.signals in
      let eb = width_total c.lists.exprs in
      let ne = length (records_in c.lists.exprs) in
      let ns = length (records_in c.lists.signals) in
      let k = length c.heads / 3 in
      sym (ap (λ (n : ℕ). first_of (six n (expr_bits m) (length m.exprs) (length m.signals) (length (entries_of c)) (output_bytes m) c)) (bytes_same largest (other c.lists) h)
      ∙ ap (λ (n : ℕ). first_of (six sb n (length m.exprs) (length m.signals) (length (entries_of c)) (output_bytes m) c)) (bits_same largest (other c.lists) h)
      ∙ ap (λ (n : ℕ). first_of (six sb eb n (length m.signals) (length (entries_of c)) (output_bytes m) c)) (exprs_count largest c.lists (faultless largest c.lists h))
      ∙ ap (λ (n : ℕ). first_of (six sb eb ne n (length (entries_of c)) (output_bytes m) c)) (signals_count largest c.lists (faultless largest c.lists h))
      ∙ ap (λ (n : ℕ). first_of (six sb eb ne ns n (output_bytes m) c)) (entries_count (tick_bits m) c.work_bits c.work_exprs c.work_signals c.heads c.bits)
      ∙ ap (λ (n : ℕ). first_of (six sb eb ne ns k n c)) (outputs_same c.lists)
      ∙ firsts_append (length_causes c.lists.signals c.lists.exprs c.bytes c.work_bits c.work_exprs c.work_signals) (shown_causes c.lists.signals c.heads c.answers c.shown))

  pub checked_fault : (n : ℕ) → Some n ≡ malformed largest c.lists → Some (12, n) ≡ list_answer largest c
  unfolding list_answer
  checked_fault n h = ap (list_verdict (list_model c) c) h

  pub checked_fine : {o : Option (ℕ × ℕ)} → None ≡ malformed largest c.lists → o ≡ fault_causes c → o ≡ list_answer largest c
  unfolding list_answer
  checked_fine h e = e ∙ causes_so (sym h) ∙ ap (list_verdict (list_model c) c) h

  -- nothing refuses it as a whole
  pub fitting : None ≡ list_answer largest c → ListFits c.lists c.heads c.bytes c.work_bits c.work_exprs c.work_signals c.answers c.shown
  unfolding list_answer
  fitting = go (malformed largest c.lists) refl
    where
      go : (o : Option ℕ) → malformed largest c.lists ≡ o → None ≡ list_verdict (list_model c) c o → ListFits c.lists c.heads c.bytes c.work_bits c.work_exprs c.work_signals c.answers c.shown
      go (Some n) e h = absurd (some_ne_none (12, n) (sym h))
      go None e h =
          let a : AllNone (list_causes (list_model c) c) = all_none (list_causes (list_model c) c) (sym h) in
          let k = entries_count (tick_bits (list_model c)) c.work_bits c.work_exprs c.work_signals c.heads c.bits in
          record {
            well_formed = e;
            bytes_enough = short_none (signal_bytes (list_model c)) c.bytes a.0;
            enough = (short_none (expr_bits (list_model c)) c.work_bits a.1.0, short_none (length (list_model c).exprs) c.work_exprs a.1.1.0, short_none (length (list_model c).signals) c.work_signals a.1.1.1.0);
            answers_enough = subst (λ (n : ℕ). 2 * n ≤ length c.answers) k (short_none (2 * length (entries_of c)) c.answers a.1.1.1.1.0);
            shown_enough = subst (λ (n : ℕ). output_bytes (list_model c) * n ≤ length c.shown) k (short_none (output_bytes (list_model c) * length (entries_of c)) c.shown a.1.1.1.1.1.0);
          }

  -- with works of the same length
  pub checked_none : {k r : Ran} {wb we ws : List ℕ} → answer_of k ≡ list_answer largest c → k ≡ r → answer_of r ≡ None → length wb ≡ length c.work_bits → length we ≡ length c.work_exprs → length ws ≡ length c.work_signals → ListFits c.lists c.heads c.bytes wb we ws c.answers c.shown
  checked_none q e n wb_long we_long ws_long =
      let u = fitting (sym n ∙ ap answer_of (sym e) ∙ q) in
      record { well_formed = u.well_formed; bytes_enough = u.bytes_enough; enough = ((let h = u.enough.0 in omega (arith, h, wb_long)), (let h = u.enough.1 in omega (arith, h, we_long)), (let h = u.enough.2 in omega (arith, h, ws_long))); answers_enough = u.answers_enough; shown_enough = u.shown_enough }

  -- refused
  pub list_refused : (x : ℕ × ℕ) {k r : Ran} → answer_of k ≡ list_answer largest c → k ≡ r → answer_of r ≡ Some x → Leaves c (list_answer largest c) r c.bytes c.answers c.shown
  list_refused x q e n =
      record { left = ap (λ (o : Option (ℕ × ℕ)). record { answer = o; bytes = c.bytes; answers = c.answers; shown = c.shown }) n ∙ ap (leaves c) (sym n ∙ ap answer_of (sym e) ∙ q) }

  -- or not
  pub list_made : {k d r : Ran} {bytes' answers' shown' : List ℕ} → answer_of k ≡ list_answer largest c → k ≡ d → answer_of d ≡ None → RunsTicks c.lists c.heads c.bits c.bytes bytes' c.answers answers' c.shown shown' → answer_of r ≡ None → Leaves c (list_answer largest c) r bytes' answers' shown'
  list_made q e n t a =
      let f : None ≡ list_answer largest c = sym n ∙ ap answer_of (sym e) ∙ q in
      let w = (fitting f).enough in
      record { left = outcome_same a (t.bytes_are c.work_bits c.work_exprs c.work_signals w) (t.answers_are c.work_bits c.work_exprs c.work_signals w) (t.shown_are c.work_bits c.work_exprs c.work_signals w) ∙ ap (leaves c) f }

-- how many bits a tick has, if there are signal bytes enough
pub inputs_in : (l : Lists) → malformed largest l ≡ None → (bytes : List ℕ) → signal_bytes (model_of (raw_of l)) ≤ length bytes → {sum : ℕ} → sum ≡ min (input_total l.signals) 18446744073709551615 → length bytes < 18446744073709551615 → sum ≡ total input_width (signals_in l.signals)
unfolding model_of
inputs_in l h bytes b {sum} e q = input_fits l.signals sum (length bytes) e (le_trans (le_of_eq (sym (bytes_same largest (other l) h))) b) q ∙ sym (ticks_same largest (other l) h)

-- THE TICKS OF A LIST THAT NOTHING REFUSES AS A WHOLE

zeros_bits : (k n : ℕ) → no_bit k (replicate n 0) ≡ None
zeros_bits k zero = refl
zeros_bits k (suc n) = zeros_bits (suc k) n

module _ {signals exprs stmts heads bytes wb we ws answers shown : List ℕ} (u : ListFits (lists signals exprs stmts) heads bytes wb we ws answers shown) where
  abbrev l : Lists
  l = lists signals exprs stmts

  pub inputs_are : {sum : ℕ} → sum ≡ min (input_total signals) 18446744073709551615 → length bytes < 18446744073709551615 → sum ≡ total input_width (signals_in signals)
  inputs_are e q = inputs_in l u.well_formed bytes u.bytes_enough e q

  pub shown_room : total output_width (signals_in signals) * (length heads / 3) ≤ length shown
  shown_room = le_trans (le_of_eq (ap (λ (n : ℕ). n * (length heads / 3)) (sym (outputs_same l)))) u.shown_enough

  -- 14 for a signal byte, by the words
  byte_so : {o : Option (ℕ × ℕ)} → o ≡ no_bit 0 (take (width_total signals) bytes) → o ≡ no_bit 0 (take (signal_bytes (model_of (raw_of (lists signals exprs stmts)))) bytes)
  byte_so e = e ∙ ap (λ (n : ℕ). no_bit 0 (take n bytes)) (sym (bytes_same largest (other l) u.well_formed))

  -- it refuses every tick
  pub stopped_byte : (x : ℕ × ℕ) (k ahead behind : Ran) → answer_of k ≡ no_bit 0 (take (width_total signals) bytes) → k ≡ ahead → answer_of ahead ≡ Some x → answer_of behind ≡ None → Stopped (lists signals exprs stmts) bytes (answer_of ahead) (answer_of behind)
  stopped_byte x k ahead behind q e b n =
      let z : Some x ≡ no_bit 0 (take (signal_bytes (model_of (raw_of l))) bytes) = byte_so (sym b ∙ ap answer_of (sym e) ∙ q) in
      record {
        stops = λ own. ap (λ (o : Option (ℕ × ℕ)). among o own (answer_of behind)) b ∙ ap (λ (o : Option (ℕ × ℕ)). among o own (on_loop (looped (model_of (raw_of l))))) z;
        refuses = λ own. ap (λ (o : Option (ℕ × ℕ)). is_made (among o own (answer_of behind))) b;
      }

  -- all signal bytes are bits
  pub unrefused : {k d : Ran} → answer_of k ≡ no_bit 0 (take (width_total signals) bytes) → k ≡ d → answer_of d ≡ None → ListUnrefused (lists signals exprs stmts) heads bytes wb we ws answers shown
  unrefused q e n = record { fits = u; bits = sym (byte_so (sym n ∙ ap answer_of (sym e) ∙ q)) }

-- on the same lists
pub same_list : {l l' : Lists} {heads bytes wb we ws answers shown : List ℕ} → l ≡ l' → ListUnrefused l' heads bytes wb we ws answers shown → ListUnrefused l heads bytes wb we ws answers shown
same_list {heads = heads} {bytes} {wb} {we} {ws} {answers} {shown} e u = subst (λ (x : Lists). ListUnrefused x heads bytes wb we ws answers shown) (sym e) u

pub stopped_same : {l l' : Lists} {bytes : List ℕ} {ahead behind : Option (ℕ × ℕ)} → l ≡ l' → Stopped l bytes ahead behind → Stopped l' bytes ahead behind
stopped_same {bytes = bytes} {ahead} {behind} e s = subst (λ (x : Lists). Stopped x bytes ahead behind) e s

pub ran_same : {l l' : Lists} {heads bits bytes bytes' answers answers' shown shown' : List ℕ} → l ≡ l' → RunsTicks l heads bits bytes bytes' answers answers' shown shown' → RunsTicks l' heads bits bytes bytes' answers answers' shown shown'
ran_same {heads = heads} {bits} {bytes} {bytes'} {answers} {answers'} {shown} {shown'} e t = subst (λ (x : Lists). RunsTicks x heads bits bytes bytes' answers answers' shown shown') e t

module _ {signals exprs stmts heads bytes wb we ws answers shown : List ℕ} (u : ListUnrefused (lists signals exprs stmts) heads bytes wb we ws answers shown) where
  abbrev l₁ : Lists
  l₁ = lists signals exprs stmts

  -- a tick of zeros, in which nothing fires, would not be refused
  pub quiet : Unrefused (lists signals exprs stmts) bytes (replicate (tick_bits (model_of (raw_of (lists signals exprs stmts)))) 0) None wb we ws
  quiet = record {
    well_formed = u.fits.well_formed;
    bytes_enough = u.fits.bytes_enough;
    enough = u.fits.enough;
    bits = u.bits;
    no_cause = ap₂ (λ (a b : Option (ℕ × ℕ)). first_of (a ∷ b ∷ None ∷ [])) (sym (count_right (tick_bits (model_of (raw_of l₁))) (replicate (tick_bits (model_of (raw_of l₁))) 0) (length-replicate (tick_bits (model_of (raw_of l₁))) 0))) (zeros_bits 0 (tick_bits (model_of (raw_of l₁))));
  }

  -- a loop refuses every tick
  pub stopped_loop : (x : ℕ) {found : Option ℕ} → found ≡ Some x → found ≡ looped (model_in signals exprs stmts) → (ahead behind : Ran) → answer_of ahead ≡ None → answer_of behind ≡ Some (13, x) → Stopped (lists signals exprs stmts) bytes (answer_of ahead) (answer_of behind)
  stopped_loop x {found} e f ahead behind n b =
      let z : on_loop (looped (model_of (raw_of l₁))) ≡ Some (13, x) = ap on_loop (sym f ∙ e) in
      record {
        stops = λ own. ap₂ (λ (o p : Option (ℕ × ℕ)). among o own p) (n ∙ sym u.bits) (b ∙ sym z);
        refuses = λ own. ap₂ (λ (o p : Option (ℕ × ℕ)). is_made (among o own p)) n b ∙ never own;
      }
    where
      never : (own : Option (ℕ × ℕ)) → is_made (or_else own (Some (13, x))) ≡ false
      never None = refl
      never (Some r) = refl

-- ALL OF A LIST

module _ (l : Lists) (heads bits bytes wb we ws answers shown : List ℕ) where
  abbrev call : List ℕ → List ℕ → ListCall
  call a s = list_call l heads bits bytes wb we ws a s

  -- of the two buffers only the lengths count
  answer_same : list_answer largest (list_call l heads bits bytes wb we ws (zeroed answers) (zeroed shown)) ≡ list_answer largest (list_call l heads bits bytes wb we ws answers shown)
  unfolding list_answer
  answer_same = go (malformed largest l)
    where
      go : (o : Option ℕ) → list_verdict (model_of (raw_of l)) (list_call l heads bits bytes wb we ws (zeroed answers) (zeroed shown)) o ≡ list_verdict (model_of (raw_of l)) (list_call l heads bits bytes wb we ws answers shown) o
      go (Some n) = refl
      go None = rw (length-replicate {A = ℕ} (length answers) 0, length-replicate {A = ℕ} (length shown) 0)

  outcome_so : (o : Option (ℕ × ℕ)) → leaves (list_call l heads bits bytes wb we ws (zeroed answers) (zeroed shown)) o ≡ list_outcome largest (list_call l heads bits bytes wb we ws answers shown) o
  outcome_so None = refl
  outcome_so (Some r) = refl

  pub runs_list : {answers₀ shown₀ : List ℕ} → answers₀ ≡ zeroed answers → shown₀ ≡ zeroed shown → {r : Ran} {bytes' answers' shown' : List ℕ} → Leaves (list_call l heads bits bytes wb we ws answers₀ shown₀) (list_answer largest (list_call l heads bits bytes wb we ws answers₀ shown₀)) r bytes' answers' shown' → RunsList (list_call l heads bits bytes wb we ws answers shown) r bytes' answers' shown'
  unfolding run_list
  runs_list qa qs t = record {
    value =
        t.left
        ∙ ap₂ (λ (a s : List ℕ). leaves (call a s) (list_answer largest (call a s))) qa qs
        ∙ ap (leaves (call (zeroed answers) (zeroed shown))) answer_same
        ∙ outcome_so (list_answer largest (call answers shown));
  }
