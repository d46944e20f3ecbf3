-- A list of ticks in pieces: a ++ b is a, and then b from the bytes that a left.
use Rattle.std.specs.Prelude.{ℕ, ◌+◌, ◌*◌, ◌/◌, ◌≡◌, List, [], ◌∷◌, ◌++◌, length, take}
use Rattle.std.specs.Prelude.{None}
use Rattle.recorder.specs.Lists.{over}
use Rattle.simulation.specs.Run.{first_of}
use Rattle.runner.specs.Calls.{ListCall, ListOutcome, list_model, list_causes, output_bytes, run_list}

-- how many bits the heads of some ticks ask for
abbrev pub asked : List ℕ → ℕ
asked (n ∷ f ∷ s ∷ heads) = n + asked heads
asked (n ∷ f ∷ []) = 0
asked (n ∷ []) = 0
asked [] = 0

-- other ticks in the same buffers, from these bytes
abbrev pub piece : ListCall → List ℕ → List ℕ → List ℕ → ListCall
piece c heads bits bytes = record {
  lists = c.lists;
  heads = heads;
  bits = bits;
  bytes = bytes;
  work_bits = c.work_bits;
  work_exprs = c.work_exprs;
  work_signals = c.work_signals;
  answers = c.answers;
  shown = c.shown;
}

-- what b leaves, with the answers and outputs of k ticks before those of b's n
abbrev pub behind_of : ListCall → ℕ → ListOutcome → ℕ → ListOutcome → ListOutcome
behind_of c k a n b = record {
  answer = b.answer;
  bytes = b.bytes;
  answers = over a.answers (2 * k) (take (2 * n) b.answers);
  shown = over a.shown (output_bytes (list_model c) * k) (take (output_bytes (list_model c) * n) b.shown);
}

-- a is k ticks with as many bits as they ask for, and the buffers do for a ++ b
abbrev pub InPieces : Type 0
InPieces =
    (widest : ℕ) (c : ListCall) (k : ℕ) (heads bits more_heads more_bits : List ℕ)
    → length heads ≡ 3 * k → length bits ≡ asked heads
    → let whole = piece c (heads ++ more_heads) (bits ++ more_bits) c.bytes in first_of (list_causes (list_model whole) whole) ≡ None
    → let a = run_list widest (piece c heads bits c.bytes) in
    let b = run_list widest (piece c more_heads more_bits a.bytes) in
    (a.answer ≡ b.answer) × (run_list widest whole ≡ behind_of c k a (length more_heads / 3) b)
