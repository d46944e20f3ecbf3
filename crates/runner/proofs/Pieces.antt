-- A list of ticks in pieces. Assumes nothing.
use Prim.Native.Nat.{ℕ, zero, suc, ◌+◌, ◌*◌, ◌/◌, ◌≤◌}
use mathlib.Core.Path.{◌≡◌, refl, sym, ◌∙◌, ap, ap₂, subst}
use mathlib.Core.List.{List, [], ◌∷◌, ◌++◌, append_assoc}
use Rattle.std.specs.Prelude.{Option, None, Some}
use native.Mathlib.Omega.{arith}
use native.Mathlib.Nat.{le_trans, le_of_eq, mul-suc, mul-zero, mul-add, zero-add}
use lib.ListN.{length, take, drop, set, replicate, length-append, length-drop, length-replicate}
use lib.Seq.{sets, sets-eq, take_at, take-append-le, drop-append-le}
use Rattle.recorder.specs.Record.{Signal, Model}
use Rattle.recorder.specs.Lists.{Lists, over}
use Rattle.recorder.specs.Words.{zeroed}
use Rattle.recorder.proofs.Room.{over_over}
use Rattle.simulation.specs.Wellformed.{malformed}
use Rattle.simulation.specs.Run.{total, signal_bytes, tick_bits, first_of, flat, run}
use Rattle.simulation.specs.Shown.{Entry, ByModel, entry_call, shown_bytes, shown_by_model, bytes_after_all}
use Rattle.simulation.proofs.Kept.{AllNone, all_none, short_none, length_kept}
use Rattle.runner.specs.Calls.{ListCall, list_model, handed, fired_by, entries, entries_of, output_width, output_bytes, list_causes, list_verdict, list_answer, answer_words, answers_of, outputs_of, ListOutcome, filled, list_outcome, run_list}
use Rattle.runner.specs.Pieces.{asked, piece, behind_of, InPieces}
use Rattle.runner.proofs.Ticking.{short_so}
use Rattle.runner.proofs.Running.{words_two, shown_length}
use Rattle.runner.proofs.WholeList.{entries_count, outcome_same}

-- THE TICKS

-- the bits of the first n are taken from the first piece
handed_front : (inputs n : ℕ) (bits more : List ℕ) → n ≤ length bits → handed inputs n (take n (bits ++ more)) ≡ handed inputs n (take n bits)
handed_front inputs n bits more h = ap (handed inputs n) (take-append-le n bits more h)

entries_append : (inputs : ℕ) (wb we ws : List ℕ) (k : ℕ) (heads bits more_heads more_bits : List ℕ) → length heads ≡ 3 * k → length bits ≡ asked heads
    → entries inputs wb we ws (heads ++ more_heads) (bits ++ more_bits) ≡ entries inputs wb we ws heads bits ++ entries inputs wb we ws more_heads more_bits
entries_append inputs wb we ws k [] [] more_heads more_bits h b = refl
entries_append inputs wb we ws k [] (x ∷ bits) more_heads more_bits h b = absurd (omega (arith, b))
entries_append inputs wb we ws k (n ∷ []) bits more_heads more_bits h b = absurd (omega (arith, h))
entries_append inputs wb we ws k (n ∷ f ∷ []) bits more_heads more_bits h b = absurd (omega (arith, h))
entries_append inputs wb we ws zero (n ∷ f ∷ s ∷ heads) bits more_heads more_bits h b = absurd (omega (arith, h))
entries_append inputs wb we ws (suc k) (n ∷ f ∷ s ∷ heads) bits more_heads more_bits h b =
    let long : n ≤ length bits = omega (arith, b) in
    ap₂ (λ (t : List ℕ) (es : List Entry). record { ticks = t; fired = fired_by f s; work_bits = wb; work_exprs = we; work_signals = ws } ∷ es) (handed_front inputs n bits more_bits long)
    (ap (entries inputs wb we ws (heads ++ more_heads)) (drop-append-le n bits more_bits long)
    ∙ entries_append inputs wb we ws k heads (drop n bits) more_heads more_bits (omega (arith, h)) (omega (arith, b, length-drop n bits)))

-- WHAT THEY LEAVE AND SHOW

module _ (widest : ℕ) (l : Lists) where
  bytes_append : (bytes : List ℕ) (es fs : List Entry) → bytes_after_all widest l bytes (es ++ fs) ≡ bytes_after_all widest l (bytes_after_all widest l bytes es) fs
  bytes_append bytes [] fs = refl
  bytes_append bytes (e ∷ es) fs = bytes_append (run widest (entry_call l bytes e)).bytes es fs

  bytes_length : (bytes : List ℕ) (es : List Entry) → length (bytes_after_all widest l bytes es) ≡ length bytes
  bytes_length bytes [] = refl
  bytes_length bytes (e ∷ es) = bytes_length (run widest (entry_call l bytes e)).bytes es ∙ length_kept widest (entry_call l bytes e)

  module _ (ss : List Signal) where
    shown_append : (bytes : List ℕ) (es fs : List Entry) → shown_by_model widest l ss bytes (es ++ fs) ≡ shown_by_model widest l ss bytes es ++ shown_by_model widest l ss (bytes_after_all widest l bytes es) fs
    shown_append bytes [] fs = refl
    shown_append bytes (e ∷ es) fs =
        let o = run widest (entry_call l bytes e) in
        ap (λ (ts : List ByModel). record { answer = o.answer; outputs = shown_bytes ss o.bytes } ∷ ts) (shown_append o.bytes es fs)

    answers_length : (bytes : List ℕ) (es : List Entry) → length (answers_of (shown_by_model widest l ss bytes es)) ≡ 2 * length es
    answers_length bytes [] = refl
    answers_length bytes (e ∷ es) =
        let o = run widest (entry_call l bytes e) in
        length-append (answer_words o.answer) (answers_of (shown_by_model widest l ss o.bytes es))
        ∙ omega (arith, words_two o.answer, answers_length o.bytes es)

    outputs_length : (bytes : List ℕ) (es : List Entry) → total (λ (s : Signal). s.width) ss ≤ length bytes → length (outputs_of (shown_by_model widest l ss bytes es)) ≡ total output_width ss * length es
    outputs_length bytes [] h = sym (mul-zero (total output_width ss))
    outputs_length bytes (e ∷ es) h =
        let o = run widest (entry_call l bytes e) in
        let room : total (λ (s : Signal). s.width) ss ≤ length o.bytes = le_trans h (le_of_eq (sym (length_kept widest (entry_call l bytes e)))) in
        let one = shown_length ss o.bytes room in
        let rest = outputs_length o.bytes es room in
        let all = mul-suc (total output_width ss) (length es) in
        length-append (flat (shown_bytes ss o.bytes)) (outputs_of (shown_by_model widest l ss o.bytes es)) ∙ omega (arith, one, rest, all)

answers_append : (ts us : List ByModel) → answers_of (ts ++ us) ≡ answers_of ts ++ answers_of us
answers_append [] us = refl
answers_append (t ∷ ts) us = ap (λ (l : List ℕ). answer_words t.answer ++ l) (answers_append ts us) ∙ sym (append_assoc (answer_words t.answer) (answers_of ts) (answers_of us))

outputs_append : (ts us : List ByModel) → outputs_of (ts ++ us) ≡ outputs_of ts ++ outputs_of us
outputs_append [] us = refl
outputs_append (t ∷ ts) us = ap (λ (l : List ℕ). flat t.outputs ++ l) (outputs_append ts us) ∙ sym (append_assoc (flat t.outputs) (outputs_of ts) (outputs_of us))

-- THE BUFFERS

-- zeros over zeros
zero_set : (n i : ℕ) → set {A = ℕ} (replicate n 0) i 0 ≡ replicate n 0
zero_set zero i = refl
zero_set (suc n) zero = refl
zero_set (suc n) (suc i) = ap (λ (l : List ℕ). 0 ∷ l) (zero_set n i)

zero_over : (n i k : ℕ) → over (replicate n 0) i (replicate k 0) ≡ replicate n 0
unfolding over
zero_over n i zero = refl
zero_over n i (suc k) = ap (λ (l : List ℕ). sets l (suc i) (replicate k 0)) (zero_set n i) ∙ zero_over n (suc i) k

zero_take : (n k : ℕ) → (j : ℕ) × (take {A = ℕ} k (replicate n 0) ≡ replicate j 0)
zero_take n zero = (0, refl)
zero_take zero (suc k) = (0, refl)
zero_take (suc n) (suc k) = let r = zero_take n k in (suc r.0, ap (λ (l : List ℕ). 0 ∷ l) r.1)

nothing_over : (buffer : List ℕ) (i k : ℕ) → zeroed buffer ≡ over (zeroed buffer) i (take k (zeroed buffer))
nothing_over buffer i k = let r = zero_take (length buffer) k in sym (ap (over (zeroed buffer) i) r.1 ∙ zero_over (length buffer) i r.0)

-- what a buffer begins with is read back
filled_front : (buffer ws : List ℕ) (n : ℕ) → length ws ≡ n → n ≤ length buffer → take n (filled buffer ws) ≡ ws
unfolding over
filled_front buffer ws n e h =
    let z = length-replicate {A = ℕ} (length buffer) 0 in
    ap (take n) (sets-eq ws (zeroed buffer) 0 (omega (arith, e, h, z))) ∙ take_at ws (drop (0 + length ws) (zeroed buffer)) n e

filled_more : (buffer ws vs : List ℕ) (i n : ℕ) → length ws ≡ i → length vs ≡ n → n ≤ length buffer → filled buffer (ws ++ vs) ≡ over (filled buffer ws) i (take n (filled buffer vs))
filled_more buffer ws vs i n e d h =
    sym (over_over ws vs (zeroed buffer) 0)
    ∙ ap₂ (over (filled buffer ws)) (zero-add (length ws) ∙ e) (sym (filled_front buffer vs n d h))

-- THE LAW

six_none : {a b c d e f : Option (ℕ × ℕ)} → a ≡ None → b ≡ None → c ≡ None → d ≡ None → e ≡ None → f ≡ None → first_of (a ∷ b ∷ c ∷ d ∷ e ∷ f ∷ []) ≡ None
six_none qa qb qc qd qe qf = rw (qa, qb, qc, qd, qe, qf)

runs_to : (widest : ℕ) (x : ListCall) (o : Option ℕ) → malformed widest x.lists ≡ o → run_list widest x ≡ list_outcome widest x (list_verdict (list_model x) x o)
unfolding run_list list_answer
runs_to widest x o e = ap (λ (p : Option ℕ). list_outcome widest x (list_verdict (list_model x) x p)) e

module _ (widest : ℕ) (c : ListCall) (k : ℕ) (heads bits more_heads more_bits : List ℕ) (hk : length heads ≡ 3 * k) (hb : length bits ≡ asked heads)
    (enough : let whole = piece c (heads ++ more_heads) (bits ++ more_bits) c.bytes in first_of (list_causes (list_model whole) whole) ≡ None) where
  abbrev m : Model
  m = list_model c

  abbrev n : ℕ
  n = length more_heads / 3

  abbrev whole : ListCall
  whole = piece c (heads ++ more_heads) (bits ++ more_bits) c.bytes

  abbrev es : List Entry
  es = entries (tick_bits (list_model c)) c.work_bits c.work_exprs c.work_signals heads bits

  abbrev fs : List Entry
  fs = entries (tick_bits (list_model c)) c.work_bits c.work_exprs c.work_signals more_heads more_bits

  all_ticks : entries_of (piece c (heads ++ more_heads) (bits ++ more_bits) c.bytes) ≡ entries (tick_bits (list_model c)) c.work_bits c.work_exprs c.work_signals heads bits ++ entries (tick_bits (list_model c)) c.work_bits c.work_exprs c.work_signals more_heads more_bits
  all_ticks = entries_append (tick_bits m) c.work_bits c.work_exprs c.work_signals k heads bits more_heads more_bits hk hb

  first_count : length (entries (tick_bits (list_model c)) c.work_bits c.work_exprs c.work_signals heads bits) ≡ k
  first_count = entries_count (tick_bits m) c.work_bits c.work_exprs c.work_signals heads bits ∙ omega (arith, hk)

  more_count : length (entries (tick_bits (list_model c)) c.work_bits c.work_exprs c.work_signals more_heads more_bits) ≡ length more_heads / 3
  more_count = entries_count (tick_bits m) c.work_bits c.work_exprs c.work_signals more_heads more_bits

  all_count : length (entries_of (piece c (heads ++ more_heads) (bits ++ more_bits) c.bytes)) ≡ k + length more_heads / 3
  all_count = ap length all_ticks ∙ length-append es fs ∙ ap₂ ◌+◌ first_count more_count

  -- what the buffers do for
  causes : AllNone (list_causes (list_model c) (piece c (heads ++ more_heads) (bits ++ more_bits) c.bytes))
  causes = all_none (list_causes m whole) enough

  answers_long : 2 * k + 2 * (length more_heads / 3) ≤ length c.answers
  answers_long = let z = short_none (2 * length (entries_of whole)) c.answers causes.1.1.1.1.0 in omega (arith, z, all_count)

  shown_long : output_bytes (list_model c) * k + output_bytes (list_model c) * (length more_heads / 3) ≤ length c.shown
  shown_long =
      le_trans (le_of_eq (sym (mul-add (output_bytes m) k n) ∙ ap (λ (i : ℕ). output_bytes m * i) (sym all_count))) (short_none (output_bytes m * length (entries_of whole)) c.shown causes.1.1.1.1.1.0)

  -- and for a part of the ticks, from as many bytes
  part_enough : (h b bytes : List ℕ) (i : ℕ) → length (entries_of (piece c h b bytes)) ≡ i → 2 * i ≤ length c.answers → output_bytes (list_model c) * i ≤ length c.shown → length bytes ≡ length c.bytes → first_of (list_causes (list_model c) (piece c h b bytes)) ≡ None
  part_enough h b bytes i e qa qs q =
      six_none
      (short_so (signal_bytes m) bytes (le_trans (short_none (signal_bytes m) c.bytes causes.0) (le_of_eq (sym q))))
      causes.1.0
      causes.1.1.0
      causes.1.1.1.0
      (short_so (2 * length (entries_of (piece c h b bytes))) c.answers (omega (arith, qa, e)))
      (short_so (output_bytes m * length (entries_of (piece c h b bytes))) c.shown (le_trans (le_of_eq (ap (λ (j : ℕ). output_bytes m * j) e)) qs))

  abbrev Joined : ListOutcome → ListOutcome → Type 0
  Joined a b = (a.answer ≡ b.answer) × (run_list widest (piece c (heads ++ more_heads) (bits ++ more_bits) c.bytes) ≡ behind_of c k a (length more_heads / 3) b)

  abbrev Follows : ListOutcome → Type 0
  Follows a = Joined a (run_list widest (piece c more_heads more_bits a.bytes))

  -- a malformed model refuses all three
  malformed_so : (x : ℕ) → malformed widest c.lists ≡ Some x → Follows (run_list widest (piece c heads bits c.bytes))
  malformed_so x e =
      subst Follows (sym (runs_to widest (piece c heads bits c.bytes) (Some x) e))
      (subst (Joined (list_outcome widest (piece c heads bits c.bytes) (Some (12, x)))) (sym (runs_to widest (piece c more_heads more_bits c.bytes) (Some x) e))
      (refl, runs_to widest whole (Some x) e ∙ outcome_same refl refl (nothing_over c.answers (2 * k) (2 * n)) (nothing_over c.shown (output_bytes m * k) (output_bytes m * n))))

  abbrev left : List ℕ
  left = bytes_after_all widest c.lists c.bytes es

  abbrev ts : List ByModel
  ts = shown_by_model widest c.lists m.signals c.bytes es

  abbrev us : List ByModel
  us = shown_by_model widest c.lists m.signals left fs

  left_length : length (bytes_after_all widest c.lists c.bytes (entries (tick_bits (list_model c)) c.work_bits c.work_exprs c.work_signals heads bits)) ≡ length c.bytes
  left_length = bytes_length widest c.lists c.bytes es

  all_shown : shown_by_model widest c.lists (list_model c).signals c.bytes (entries_of (piece c (heads ++ more_heads) (bits ++ more_bits) c.bytes)) ≡ ts ++ us
  all_shown = ap (shown_by_model widest c.lists m.signals c.bytes) all_ticks ∙ shown_append widest c.lists m.signals c.bytes es fs

  room : total (λ (s : Signal). s.width) (list_model c).signals ≤ length c.bytes
  room = short_none (signal_bytes m) c.bytes causes.0

  all_so : list_outcome widest (piece c (heads ++ more_heads) (bits ++ more_bits) c.bytes) None ≡ behind_of c k (list_outcome widest (piece c heads bits c.bytes) None) (length more_heads / 3) (list_outcome widest (piece c more_heads more_bits (bytes_after_all widest c.lists c.bytes (entries (tick_bits (list_model c)) c.work_bits c.work_exprs c.work_signals heads bits))) None)
  all_so =
      outcome_same refl
      (ap (bytes_after_all widest c.lists c.bytes) all_ticks ∙ bytes_append widest c.lists c.bytes es fs)
      (ap (λ (xs : List ByModel). filled c.answers (answers_of xs)) all_shown
      ∙ ap (filled c.answers) (answers_append ts us)
      ∙ filled_more c.answers (answers_of ts) (answers_of us) (2 * k) (2 * n)
      (answers_length widest c.lists m.signals c.bytes es ∙ ap (λ (i : ℕ). 2 * i) first_count)
      (answers_length widest c.lists m.signals left fs ∙ ap (λ (i : ℕ). 2 * i) more_count)
      (omega (arith, answers_long)))
      (ap (λ (xs : List ByModel). filled c.shown (outputs_of xs)) all_shown
      ∙ ap (filled c.shown) (outputs_append ts us)
      ∙ filled_more c.shown (outputs_of ts) (outputs_of us) (output_bytes m * k) (output_bytes m * n)
      (outputs_length widest c.lists m.signals c.bytes es room ∙ ap (λ (i : ℕ). output_bytes m * i) first_count)
      (outputs_length widest c.lists m.signals left fs (le_trans room (le_of_eq (sym left_length))) ∙ ap (λ (i : ℕ). output_bytes m * i) more_count)
      (omega (arith, shown_long)))

  -- the ticks of a model without a fault
  formed_so : malformed widest c.lists ≡ None → Follows (run_list widest (piece c heads bits c.bytes))
  formed_so e =
      let a = part_enough heads bits c.bytes k first_count (omega (arith, answers_long)) (omega (arith, shown_long)) refl in
      let b = part_enough more_heads more_bits left n more_count (omega (arith, answers_long)) (omega (arith, shown_long)) left_length in
      subst Follows (sym (runs_to widest (piece c heads bits c.bytes) None e ∙ ap (list_outcome widest (piece c heads bits c.bytes)) a))
      (subst (Joined (list_outcome widest (piece c heads bits c.bytes) None)) (sym (runs_to widest (piece c more_heads more_bits left) None e ∙ ap (list_outcome widest (piece c more_heads more_bits left)) b))
      (refl, runs_to widest whole None e ∙ ap (list_outcome widest whole) enough ∙ all_so))

  joined : (o : Option ℕ) → malformed widest c.lists ≡ o → Follows (run_list widest (piece c heads bits c.bytes))
  joined None e = formed_so e
  joined (Some x) e = malformed_so x e

pub in_pieces : InPieces
in_pieces widest c k heads bits more_heads more_bits hk hb enough = joined widest c k heads bits more_heads more_bits hk hb enough (malformed widest c.lists) refl
