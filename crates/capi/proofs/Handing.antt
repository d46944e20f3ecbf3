-- What is handed out where `answer` has room, and where it has none. Assumes nothing.
use mathlib.Core.Path.{◌≡◌, refl, sym, ◌∙◌, ap, subst}
use mathlib.Core.Bool.{Bool, true, false, ◌&&◌}
use mathlib.Core.List.{List, [], ◌∷◌, ◌++◌, map}
use Rattle.std.specs.Prelude.{Option, None, Some, Result}
use Rattle.bits.proofs.Options.{some_ne_none}
use Prim.Native.Nat.{ℕ, suc}
use native.Mathlib.Omega.{arith}
use lib.Dec.{eqb, leb, ltb}
use lib.ListN.{length, take, drop}
use lib.Seq.{take-length}
use borrow.Author.Tests.{ltb-true}
use Rattle.bits.specs.Bits.{pick}
use Rattle.netlist.specs.Reader.{base}
use Rattle.recorder.specs.Record.{Model}
use Rattle.recorder.specs.Lists.{Lists}
use Rattle.recorder.specs.Read.{only}
use Rattle.lowering.specs.Lower.{Lowered, Refused, Lowering, lower_words}
use Rattle.simulation.specs.Run as s
use Rattle.simulation.specs.Wellformed.{or_else, largest, malformed}
use Rattle.simulation.specs.Tick.{looped}
use Rattle.simulation.specs.Run.{Call, call_model, Outcome, signal_bytes, expr_bits, tick_bits, no_bit, on_loop, first_of, causes, refusal, verdict, answer, run, bytes_after}
use Rattle.simulation.specs.Run.{answer_of as ran_of}
use Rattle.simulation.specs.Fault.{call_of}
use Rattle.simulation.proofs.Kept.{accepted_good}
use Rattle.runner.specs.Calls.{Runs}
use Rattle.refusal.specs.declared.Refusal.{Refusal}
use Rattle.recorder.specs.declared.Tapes.{Tapes}
use Rattle.converter.specs.Entry.{answer_of, any_short, blank_of, Lowers}
use Rattle.converter.specs.Entry as lowers
use Rattle.simulator.specs.Entry.{Simulation, simulation, Simulated, Simulates, refused_by}
use Rattle.simulator.specs.Entry as simulator
use Rattle.capi.specs.Answer.{refusal_numbers, numbers_of, Hands, HandsLowered, HandsSimulated, HandsRan, or_no_room, or_no_room_ran}
use Rattle.capi.specs.Answer as handed

picked : (s : Bool) {A : Type 0} (x y : A) → y ≡ pick (pick s false false) x y
picked true x y = refl
picked false x y = refl

read_all : {used : ℕ} (words : List ℕ) → used ≡ length words → take used words ≡ words
read_all words u = ap (λ (n : ℕ). take n words) u ∙ take-length words

-- lowering: of no words it is refused for a short work, or with 3

abbrev of_none : Bool → Lists → Lowering
of_none s l = pick s (record { answer = Refused 1 16384; lists = blank_of l }) (record { answer = Refused 3 0; lists = blank_of l })

lowering_is : (b : Bool) (words : List ℕ) {l l' : Lists} {works works' : List (List ℕ)} {used : ℕ} {r : Result Tapes Refusal} {x : Lowered}
    → used ≡ pick b 0 (length words) → Lowers base (take used words) l works r l' works' → x ≡ pick b (or_no_room (answer_of r)) (answer_of r)
    → record { answer = x; lists = l' } ≡ pick (pick (any_short (map length works)) false b) (record { answer = Refused 1 8; lists = blank_of l }) (lowers.call_of base words l works)
lowering_is false words {l} {l'} {works} u h e =
    ap (λ (y : Lowered). record { answer = y; lists = l' }) e
    ∙ h.value
    ∙ ap (λ (w : List ℕ). lowers.call_of base w l works) (read_all words u)
    ∙ picked (any_short (map length works)) (record { answer = Refused 1 8; lists = blank_of l }) (lowers.call_of base words l works)
lowering_is true words {l} {l'} {works} {r = r} u h e =
    ap (λ (y : Lowered). record { answer = y; lists = l' }) e
    ∙ go (any_short (map length works)) (h.value ∙ ap (λ (n : ℕ). lowers.call_of base (take n words) l works) u)
  where
    go : (s : Bool) → record { answer = answer_of r; lists = l' } ≡ of_none s l
        → record { answer = or_no_room (answer_of r); lists = l' } ≡ pick (pick s false true) (record { answer = Refused 1 8; lists = blank_of l }) (pick s (record { answer = Refused 1 16384; lists = blank_of l }) (lower_words base words (length l.signals) (length l.exprs) (length l.stmts)))
    go true v = ap (λ (y : Lowering). record { answer = or_no_room y.answer; lists = y.lists }) v
    go false v = ap (λ (y : Lowering). record { answer = or_no_room y.answer; lists = y.lists }) v

pub lowered_by : (words : List ℕ) {l l' : Lists} {works works' : List (List ℕ)} {used : ℕ} {r : Result Tapes Refusal} {x : Lowered} (buffer : List ℕ) {code : ℕ} {buffer' : List ℕ}
    → used ≡ pick (ltb (length buffer) 8) 0 (length words) → Lowers base (take used words) l works r l' works' → x ≡ pick (ltb (length buffer) 8) (or_no_room (answer_of r)) (answer_of r)
    → Hands (numbers_of x) buffer code buffer' → HandsLowered words l works buffer code l' works' buffer'
lowered_by words buffer {code} {buffer'} u h e k =
    let v = lowering_is (ltb (length buffer) 8) words u h e in
    record {
      lists = ap (λ (y : Lowering). y.lists) v;
      zeros = h.zeros;
      hands = subst (λ (y : Lowering). Hands (numbers_of y.answer) buffer code buffer') v k;
    }

-- a netlist and ticks: likewise

module _ (words heads bits : List ℕ) (l : Lists) (works : List (List ℕ)) (bytes wb we ws answers shown : List ℕ) where
  abbrev call : List ℕ → Simulation
  call w = simulation w heads bits l works bytes wb we ws answers shown

  simulating_is : (b : Bool) {used : ℕ} {r : Result Tapes Refusal} {x : Lowered} {l' : Lists} {answers' shown' : List ℕ}
      → used ≡ pick b 0 (length words) → Simulates base (call (take used words)) r l' answers' shown' → x ≡ pick b (or_no_room (answer_of r)) (answer_of r)
      → record { answer = x; lists = l'; answers = answers'; shown = shown' } ≡ pick (pick (any_short (map length works)) false b) (refused_by (call words) 1 8) (simulator.simulate_call base (call words))
  unfolding simulator.simulate_call
  simulating_is false {l' = l'} {answers'} {shown'} u h e =
      ap (λ (y : Lowered). record { answer = y; lists = l'; answers = answers'; shown = shown' }) e
      ∙ h.value
      ∙ ap (λ (w : List ℕ). simulator.simulate_call base (call w)) (read_all words u)
      ∙ picked (any_short (map length works)) (refused_by (call words) 1 8) (simulator.simulate_call base (call words))
  simulating_is true {r = r} {l' = l'} {answers'} {shown'} u h e =
      ap (λ (y : Lowered). record { answer = y; lists = l'; answers = answers'; shown = shown' }) e
      ∙ go (any_short (map length works)) (h.value ∙ ap (λ (n : ℕ). simulator.simulate_call base (call (take n words))) u)
    where
      go : (s : Bool) → record { answer = answer_of r; lists = l'; answers = answers'; shown = shown' } ≡ simulator.lowered (call []) (of_none s l).lists (of_none s l).answer
          → record { answer = or_no_room (answer_of r); lists = l'; answers = answers'; shown = shown' }
          ≡ pick (pick s false true) (refused_by (call words) 1 8) (let y = pick s (record { answer = Refused 1 16384; lists = blank_of l }) (lower_words base words (length l.signals) (length l.exprs) (length l.stmts)) in simulator.lowered (call words) y.lists y.answer)
      go true v = ap (λ (y : Simulated). record { answer = or_no_room y.answer; lists = y.lists; answers = y.answers; shown = y.shown }) v
      go false v = ap (λ (y : Simulated). record { answer = or_no_room y.answer; lists = y.lists; answers = y.answers; shown = y.shown }) v

  pub simulated_by : (buffer : List ℕ) (a : Result Tapes Refusal) {used : ℕ} {r : Result Tapes Refusal} {l' : Lists} {answers' shown' : List ℕ} {code : ℕ} {buffer' : List ℕ}
      → used ≡ pick (ltb (length buffer) 8) 0 (length words) → Simulates base (call (take used words)) r l' answers' shown'
      → answer_of a ≡ pick (ltb (length buffer) 8) (or_no_room (answer_of r)) (answer_of r) → Hands (numbers_of (answer_of a)) buffer code buffer'
      → HandsSimulated (call words) buffer code l' answers' shown' buffer'
  simulated_by buffer a {used} {r} {l'} {answers'} {shown'} {code} {buffer'} u h e k = go (ltb (length buffer) 8) refl u e (simulating_is (ltb (length buffer) 8) u h e)
    where
      go : (b : Bool) → ltb (length buffer) 8 ≡ b → used ≡ pick b 0 (length words) → answer_of a ≡ pick b (or_no_room (answer_of r)) (answer_of r)
          → record { answer = answer_of a; lists = l'; answers = answers'; shown = shown' } ≡ handed.simulate_call (call words) buffer → HandsSimulated (call words) buffer code l' answers' shown' buffer'
      go true t v f z = record { answer = a; value = z; simulates = λ room. absurd (omega (arith, room, ltb-true (length buffer) 8 t)); hands = k }
      go false t v f z = record {
        answer = r;
        value = ap (λ (y : Lowered). record { answer = y; lists = l'; answers = answers'; shown = shown' }) (sym f) ∙ z;
        simulates = λ room. subst (λ (w : List ℕ). Simulates base (call w) r l' answers' shown') (read_all words v) h;
        hands = subst (λ (y : Lowered). Hands (numbers_of y) buffer code buffer') f k;
      }

-- a tick: with an edge that there is not it is refused, for the model, a short buffer, or with 14

or_short : (b : Bool) (p : ℕ) (rest rest' : Option (ℕ × ℕ)) → or_no_room_ran rest ≡ rest' → or_no_room_ran (or_else (only b (Some (1, p))) rest) ≡ or_else (only b (Some (1, p))) rest'
or_short true p rest rest' h = refl
or_short false p rest rest' h = h

or_14 : (t : Bool) (p : ℕ) (o rest : Option (ℕ × ℕ)) → or_no_room_ran (or_else o rest) ≡ Some (1, 8) → or_no_room_ran (or_else (pick t o (Some (14, p))) rest) ≡ Some (1, 8)
or_14 true p o rest h = h
or_14 false p o rest h = refl

or_bit : (i : ℕ) (bytes : List ℕ) (rest : Option (ℕ × ℕ)) → or_no_room_ran rest ≡ Some (1, 8) → or_no_room_ran (or_else (no_bit i bytes) rest) ≡ Some (1, 8)
or_bit i [] rest h = h
or_bit i (b ∷ bytes) rest h = or_14 (leb b 1) i (no_bit (suc i) bytes) rest (or_bit (suc i) bytes rest h)

or_loop : (o : Option ℕ) → or_no_room_ran (or_else (on_loop o) None) ≡ Some (1, 8)
or_loop None = refl
or_loop (Some s) = refl

module _ (l : Lists) (bytes ticks wb we ws : List ℕ) (g : Option (ℕ × ℕ)) where
  abbrev tick : Option (ℕ × ℕ) → Call
  tick o = call_of l bytes ticks o wb we ws

  no_edge : answer largest (tick (Some (0, 2))) ≡ None → ⊥
  no_edge h = go (ltb 0 (length (call_model (tick g)).signals)) (accepted_good largest (tick (Some (0, 2))) h).right_fired
    where
      go : (b : Bool) → ◌≡◌ {A = Option (ℕ × ℕ)} (pick (b && leb 2 1) None (Some (14, 0))) None → ⊥
      go true e = some_ne_none (14, 0) e
      go false e = some_ne_none (14, 0) e

  abbrev verdict_for : Bool → Model → Option ℕ → Option (ℕ × ℕ)
  verdict_for b m (Some n) = Some (12, n)
  verdict_for b m None = first_of (take 4 (causes m (tick g)) ++ (only b (Some (1, 8)) ∷ drop 4 (causes m (tick g))))

  answer_is : (b : Bool) → pick b (or_no_room_ran (answer largest (tick (pick b (Some (0, 2)) g)))) (answer largest (tick (pick b (Some (0, 2)) g))) ≡ verdict_for b (call_model (tick g)) (malformed largest l)
  unfolding answer refusal
  answer_is false = go (malformed largest l)
    where
      go : (o : Option ℕ) → verdict (call_model (tick g)) (tick g) o ≡ verdict_for false (call_model (tick g)) o
      go (Some n) = refl
      go None = refl
  answer_is true = go (call_model (tick g)) (malformed largest l)
    where
      go : (m : Model) (o : Option ℕ) → or_no_room_ran (verdict m (tick (Some (0, 2))) o) ≡ verdict_for true m o
      go m (Some n) = refl
      go m None =
          or_short (ltb (length bytes) (signal_bytes m)) _ _ _
          (or_short (ltb (length wb) (expr_bits m)) _ _ _
          (or_short (ltb (length we) (length m.exprs)) _ _ _
          (or_short (ltb (length ws) (length m.signals)) _ _ _
          (or_bit 0 (take (signal_bytes m) bytes) _
          (or_14 (eqb (length ticks) (tick_bits m)) _ None _
          (or_bit 0 ticks _
          (or_14 (ltb 0 (length m.signals) && leb 2 1) _ None _
          (or_loop (looped m)))))))))

  verdict_is : (buffer : List ℕ) (o : Option ℕ) → verdict_for (ltb (length buffer) 8) (call_model (tick g)) o ≡ handed.run_verdict (tick g) buffer o
  verdict_is buffer (Some n) = refl
  verdict_is buffer None = refl

  bytes_are : (b : Bool) → (run largest (tick (pick b (Some (0, 2)) g))).bytes ≡ bytes_after (tick g) (pick b (or_no_room_ran (answer largest (tick (pick b (Some (0, 2)) g)))) (answer largest (tick (pick b (Some (0, 2)) g))))
  unfolding run
  bytes_are false = refl
  bytes_are true = go (answer largest (tick (Some (0, 2)))) refl
    where
      kept : (t : Bool) (r : ℕ × ℕ) → bytes ≡ bytes_after (tick g) (pick t (Some r) (Some (1, 8)))
      kept true r = refl
      kept false r = refl

      go : (o : Option (ℕ × ℕ)) → answer largest (tick (Some (0, 2))) ≡ o → bytes_after (tick (Some (0, 2))) o ≡ bytes_after (tick g) (or_no_room_ran o)
      go None e = absurd (no_edge e)
      go (Some r) e = kept (ltb r.0 13) r

  pub ran_by : (buffer : List ℕ) {f x : Option (ℕ × ℕ)} {code : ℕ} {r : s.Ran} {bytes' wb' we' ws' buffer' : List ℕ} → f ≡ pick (ltb (length buffer) 8) (Some (0, 2)) g
      → Runs (call_of l bytes ticks f wb we ws) r bytes' wb' we' ws' → x ≡ pick (ltb (length buffer) 8) (or_no_room_ran (ran_of r)) (ran_of r) → Hands (refusal_numbers x) buffer code buffer'
      → HandsRan (call_of l bytes ticks g wb we ws) buffer code bytes' wb' we' ws' buffer'
  unfolding run
  ran_by buffer {f} {x} {code} {r} {bytes'} {wb'} {we'} {ws'} {buffer'} e h q k =
      let b : Bool = ltb (length buffer) 8 in
      let a = answer_is b ∙ verdict_is buffer (malformed largest l) in
      let v = (subst (λ (o : Option (ℕ × ℕ)). Runs (call_of l bytes ticks o wb we ws) r bytes' wb' we' ws') e h).value in
      record {
        bytes = ap (λ (o : Outcome). o.bytes) v ∙ bytes_are b ∙ ap (bytes_after (tick g)) a;
        bits_zeros = ap (λ (o : Outcome). o.work_bits) v;
        exprs_zeros = ap (λ (o : Outcome). o.work_exprs) v;
        signals_zeros = ap (λ (o : Outcome). o.work_signals) v;
        hands = subst (λ (o : Option (ℕ × ℕ)). Hands (refusal_numbers o) buffer code buffer') (q ∙ ap (λ (o : Option (ℕ × ℕ)). pick b (or_no_room_ran o) o) (ap (λ (o : Outcome). o.answer) v) ∙ a) k;
      }
