-- Laws of what a plan lists, and of loads and stores along a list. Assumes nothing.
use Prim.Native.Nat.{ℕ, zero, suc, ◌+◌, ◌≤◌, ◌<◌}
use mathlib.Core.Path.{◌≡◌, refl, sym, ◌∙◌, ap, subst}
use mathlib.Core.Bool.{Bool, true, false, true≢false, false≢true}
use mathlib.Core.List.{List, [], ◌∷◌}
use mathlib.Core.Logic.{◌⊎◌, inl, inr, ◌≢◌}
use Rattle.std.specs.Prelude.{Option, None, Some}
use Rattle.bits.proofs.Options.{none_ne_some}
use native.Mathlib.Omega.{arith}
use native.Mathlib.Nat.{not-suc-le-zero}
use native.Mathlib.Decide.{dec_lt, ℕ_discrete}
use lib.Dec.{eqb, leb}
use lib.ListN.{length, get_or, take, set, length-set}
use lib.Seq.{get_or-set_same, get_or-set_other, get_or-take, take-set-le}
use borrow.Author.Tests.{eqb-true, eq-eqb, le-leb}
use Rattle.bits.specs.Bits.{pick, Bits}
use Rattle.settle.specs.Table.{at as signals_at}
use Rattle.recorder.specs.Record.{Stmt, assign, reg}
use Rattle.recorder.specs.Read.{read_stmt}
use Rattle.recorder.specs.Evaluate.{Signals}
use Rattle.simulation.specs.Wellformed.{count_of, or_else}
use Rattle.simulation.specs.Sound.{on}
use Rattle.simulation.specs.Run.{zeroed}
use Rattle.simulation.specs.Tick.{Firing, target, given, assigns, loads, become}
use Rattle.simulation.specs.Index.{records_in, widths_in, start_of, Indexed, stmts_in}
use Rattle.simulation.proofs.Steps.{Walked, walked_start, walked_next, walked_out, length_widths}
use Rattle.simulation.proofs.Stores.{store}
use Rattle.simulation.proofs.Tally.{get_d_zeros}
use Rattle.ordering.specs.Marks.{marked as is_marked}
use Rattle.evaluation.specs.Bytes.{Holds}
use Rattle.evaluation.specs.Ready.{Prepared, Room}
use Rattle.evaluation.specs.Ticks.{ReadSignals, StoresOne}
use Rattle.evaluation.specs.Loads.{stmt_in, Stated, Begins, Control, enable_at, marked, by_marks, MarkOf, NotesOne, Noted, StoresLoad}
use Rattle.evaluation.specs.Late.{Among, is_register, Asks, Registers, StoresDriven, StoresListed, LoadsMarked, LoadsListed, signal_at}
use Rattle.evaluation.proofs.Held.{holds_length}
use Rattle.evaluation.proofs.Whole.{read_length, driver_there, driver_wide}
use Rattle.evaluation.proofs.Signals.{signals_long, label_is}
use Rattle.evaluation.proofs.Committing.{stated, target_known, target_of, register_word, asks_word, count_some, alone}
use Rattle.runner.proofs.Turns.{Ahead, turns_out, turn_size, turn_some, turn_next, turn_there, turn_first, signal_turn, signal_first, stmt_turn}
use Rattle.runner.specs.Plan.{Listing, Controls, Outputs}

-- A WORD PUT BEHIND k OTHERS

module _ (order : List ℕ) (from k v : ℕ) where
  put_own : from + k < length order → Among (set order (from + k) v) from (k + 1) v
  put_own h = record { place = k; before = omega arith; stands = get_or-set_same order (from + k) v 0 h }

  put_before : (i : ℕ) → i < k → get_or (set order (from + k) v) (from + i) 0 ≡ get_or order (from + i) 0
  put_before i q = get_or-set_other order (from + k) (from + i) v 0 (λ z. absurd (omega arith))

  put_kept : {x : ℕ} → Among order from k x → Among (set order (from + k) v) from (k + 1) x
  put_kept a = record { place = a.place; before = omega (arith, a.before); stands = put_before a.place a.before ∙ a.stands }

  put_take : take from (set order (from + k) v) ≡ take from order
  put_take = take-set-le from order (from + k) v (omega arith)

-- REGISTERS: those before word `at` are listed

pub record ListsRegisters (stmts order₀ : List ℕ) (from room : ℕ) (order : List ℕ) (k at : ℕ) (rest : List (List ℕ)) : Type 0 where
  pub number : ℕ
  pub walked : Walked stmts at number
  pub ahead : Ahead stmts at rest
  pub few : k ≤ room
  pub as_long : length order ≡ length order₀
  pub kept : take from order ≡ take from order₀
  pub each : (j : ℕ) → j < k → Begins stmts (get_or order (from + j) 0)
  pub all : (i : ℕ) → i < number → is_register (stmt_in stmts i) ≡ true → Among order from k (start_of stmts i)

pub registers_start : {stmts : List ℕ} (order : List ℕ) (from room : ℕ) {rest : List (List ℕ)} → Ahead stmts 0 rest → ListsRegisters stmts order from room order 0 0 rest
registers_start {stmts} order from room a = record { number = 0; walked = walked_start stmts; ahead = a; few = omega arith; as_long = refl; kept = refl; each = λ j q. absurd (not-suc-le-zero q); all = λ i q h. absurd (not-suc-le-zero q) }

module _ {stmts order₀ : List ℕ} {from room : ℕ} {order : List ℕ} {k at : ℕ} {rest : List (List ℕ)} (g : ListsRegisters stmts order₀ from room order k at rest) where
  pub registers_end : rest ≡ [] → (take from order ≡ take from order₀) × Registers stmts order from k
  registers_end n = let e = walked_out g.walked 0 (turns_out g.ahead n) refl in (g.kept, record { each = g.each; all = λ i q h. g.all i (omega arith) h })

  -- the next one
  module _ {signals : List ℕ} (s : Stated signals stmts) {r : List ℕ} {rest' : List (List ℕ)} (q : rest ≡ r ∷ rest') where
    register_there : g.number < length (records_in stmts)
    register_there = turn_there g.ahead q g.walked

    register_begins : Begins stmts at
    register_begins = record { number = g.number; there = register_there; begins = g.walked.begins }

    pub registers_three : 3 ≤ length r
    registers_three = stmt_turn g.ahead q s g.walked

    stepped : Walked stmts (at + (length r + 1)) (g.number + 1)
    stepped = walked_next g.walked (length r + 1) (turn_size g.ahead q) (turn_some g.ahead q)

    pub registers_other : (get_or r 0 0 ≡ 1 → ⊥) → ListsRegisters stmts order₀ from room order k (at + (length r + 1)) rest'
    registers_other n = record { number = g.number + 1; walked = stepped; ahead = turn_next g.ahead q; few = g.few; as_long = g.as_long; kept = g.kept; each = g.each; all = λ i q h. more i (dec_lt i g.number) q h }
      where
        more : (i : ℕ) → Dec (i < g.number) → i < g.number + 1 → is_register (stmt_in stmts i) ≡ true → Among order from k (start_of stmts i)
        more i (yes y) q h = g.all i y h
        more i (no z) j h =
            let same : g.number ≡ i = omega arith in
            absurd (n (turn_first g.ahead q (omega (arith, registers_three)) ∙ register_word s (omega (arith, register_there, same)) (g.walked.begins ∙ ap (start_of stmts) same) h))

    pub registers_taken : {order' : List ℕ} {k' : ℕ} → k' ≤ room → from + room ≤ length order₀ → (k' ≡ k + 1) × (order' ≡ set order (from + k) at) → ListsRegisters stmts order₀ from room order' k' (at + (length r + 1)) rest'
    registers_taken {order'} {k'} u v p = subst (λ (l : List ℕ). ListsRegisters stmts order₀ from room l k' (at + (length r + 1)) rest') (sym p.1) (subst (λ (i : ℕ). ListsRegisters stmts order₀ from room (set order (from + k) at) i (at + (length r + 1)) rest') (sym p.0) record {
      number = g.number + 1;
      walked = stepped;
      ahead = turn_next g.ahead q;
      few = omega (arith, u, p.0);
      as_long = length-set order (from + k) at ∙ g.as_long;
      kept = put_take order from k at ∙ g.kept;
      each = λ j h. begins j (dec_lt j k) h;
      all = λ i h. more i (dec_lt i g.number) h;
    })
      where
        inside : from + k < length order
        inside = omega (arith, g.as_long, u, v, p.0)

        begins : (j : ℕ) → Dec (j < k) → j < k + 1 → Begins stmts (get_or (set order (from + k) at) (from + j) 0)
        begins j (yes y) h = subst (Begins stmts) (sym (put_before order from k at j y)) (g.each j y)
        begins j (no z) h =
            let same : k ≡ j = omega arith in
            subst (λ (i : ℕ). Begins stmts (get_or (set order (from + k) at) (from + i) 0)) same (subst (Begins stmts) (sym (get_or-set_same order (from + k) at 0 inside)) register_begins)

        more : (i : ℕ) → Dec (i < g.number) → i < g.number + 1 → is_register (stmt_in stmts i) ≡ true → Among (set order (from + k) at) from (k + 1) (start_of stmts i)
        more i (yes y) h x = put_kept order from k at (g.all i y x)
        more i (no z) h x =
            let same : g.number ≡ i = omega arith in
            subst (Among (set order (from + k) at) from (k + 1)) (g.walked.begins ∙ ap (start_of stmts) same) (put_own order from k at inside)

-- OUTPUTS: those of the first s signals are listed

pub record ListsOutputs (signals order₀ : List ℕ) (from room : ℕ) (order : List ℕ) (k s : ℕ) (rest : List (List ℕ)) : Type 0 where
  pub at : ℕ
  pub walked : Walked signals at s
  pub ahead : Ahead signals at rest
  pub few : k ≤ room
  pub as_long : length order ≡ length order₀
  pub kept : take from order ≡ take from order₀
  pub all : (x : ℕ) → x < s → (signal_at signals x).label ≡ 1 → Among order from k x

pub outputs_start : {signals : List ℕ} (order : List ℕ) (from room : ℕ) {s : ℕ} {rest : List (List ℕ)} → s ≡ 0 → Ahead signals 0 rest → ListsOutputs signals order from room order 0 s rest
outputs_start {signals} order from room e a = rw e record { at = 0; walked = walked_start signals; ahead = a; few = omega arith; as_long = refl; kept = refl; all = λ x q h. absurd (not-suc-le-zero q) }

module _ {signals order₀ : List ℕ} {from room : ℕ} {order : List ℕ} {k s : ℕ} {rest : List (List ℕ)} (f : ReadSignals signals) (g : ListsOutputs signals order₀ from room order k s rest) where
  pub outputs_end : rest ≡ [] → (take from order ≡ take from order₀) × Outputs signals order from k
  outputs_end n = (g.kept, record { all_outputs = λ x o. g.all x (omega (arith, o.there, signals_long f, walked_out g.walked 0 (turns_out g.ahead n) refl)) o.labelled })

  -- the next one
  module _ {r : List ℕ} {rest' : List (List ℕ)} (q : rest ≡ r ∷ rest') where
    pub outputs_three : length r ≡ 3
    outputs_three = signal_turn g.ahead q f g.walked

    labelled : get_or r 0 0 ≡ (signal_at signals s).label
    labelled = signal_first g.ahead q f g.walked ∙ label_is f g.walked (turn_size g.ahead q) (turn_some g.ahead q)

    past : Walked signals (g.at + (length r + 1)) (s + 1)
    past = walked_next g.walked (length r + 1) (turn_size g.ahead q) (turn_some g.ahead q)

    pub outputs_other : (get_or r 0 0 ≡ 1 → ⊥) → ListsOutputs signals order₀ from room order k (s + 1) rest'
    outputs_other n = record { at = g.at + (length r + 1); walked = past; ahead = turn_next g.ahead q; few = g.few; as_long = g.as_long; kept = g.kept; all = λ x q h. more x (dec_lt x s) q h }
      where
        more : (x : ℕ) → Dec (x < s) → x < s + 1 → (signal_at signals x).label ≡ 1 → Among order from k x
        more x (yes y) q h = g.all x y h
        more x (no z) q h =
            let same : s ≡ x = omega arith in
            absurd (n (labelled ∙ ap (λ (i : ℕ). (signal_at signals i).label) same ∙ h))

    pub outputs_taken : {order' : List ℕ} {k' : ℕ} → k' ≤ room → from + room ≤ length order₀ → (k' ≡ k + 1) × (order' ≡ set order (from + k) s) → ListsOutputs signals order₀ from room order' k' (s + 1) rest'
    outputs_taken {order'} {k'} u v p = subst (λ (l : List ℕ). ListsOutputs signals order₀ from room l k' (s + 1) rest') (sym p.1) (subst (λ (i : ℕ). ListsOutputs signals order₀ from room (set order (from + k) s) i (s + 1) rest') (sym p.0) record {
      at = g.at + (length r + 1);
      walked = past;
      ahead = turn_next g.ahead q;
      few = omega (arith, u, p.0);
      as_long = length-set order (from + k) s ∙ g.as_long;
      kept = put_take order from k s ∙ g.kept;
      all = λ x h. more x (dec_lt x s) h;
    })
      where
        more : (x : ℕ) → Dec (x < s) → x < s + 1 → (signal_at signals x).label ≡ 1 → Among (set order (from + k) s) from (k + 1) x
        more x (yes y) h l = put_kept order from k s (g.all x y l)
        more x (no z) h l =
            let same : s ≡ x = omega arith in
            subst (Among (set order (from + k) s) from (k + 1)) same (put_own order from k s (omega (arith, g.as_long, u, v, p.0)))

-- A SIGNAL ONCE

module _ {order : List ℕ} {from k x : ℕ} {marks : List ℕ} (l : Listing order from k marks) {i : ℕ} (e : i ≡ x) where
  pub once_marked : (get_or marks i 0 ≡ 0 → ⊥) → (take from order ≡ take from order) × (Listing order from k marks × Among order from k x × ((y : ℕ) → Among order from k y → Among order from k y))
  once_marked n =
      let z : get_or marks x 0 ≡ 0 → ⊥ = λ h. n (ap (λ (j : ℕ). get_or marks j 0) e ∙ h) in
      (refl, (l, l.listed x (le-leb 1 (get_or marks x 0) (omega (arith, z))), λ y a. a))

  pub once_put : from + k < length order → (take from (set order (from + k) x) ≡ take from order) × (Listing (set order (from + k) x) from (k + 1) (set marks i 1) × Among (set order (from + k) x) from (k + 1) x × ((y : ℕ) → Among order from k y → Among (set order (from + k) x) from (k + 1) y))
  once_put h = (put_take order from k x, (record { listed = λ y m. by y (ℕ_discrete y i) m }, put_own order from k x h, λ y a. put_kept order from k x a))
    where
      by : (y : ℕ) → Dec (y ≡ i) → is_marked (set marks i 1) y ≡ true → Among (set order (from + k) x) from (k + 1) y
      by y (yes z) m = subst (Among (set order (from + k) x) from (k + 1)) (sym (z ∙ e)) (put_own order from k x h)
      by y (no z) m = put_kept order from k x (l.listed y (subst (λ (n : ℕ). leb 1 n ≡ true) (get_or-set_other marks i y 1 0 z) m))

-- WHAT A STATEMENT ASKS FOR

-- the control at a word is listed
abbrev pub ListsControl : List ℕ → ℕ → List ℕ → List ℕ → ℕ → ℕ → ℕ → List ℕ → Type 0
ListsControl stmts word order order' from k r marks' = (take from order' ≡ take from order) × (Listing order' from r marks' × ((get_or stmts word 0 ≡ 0 → ⊥) → Among order' from r (get_or stmts (word + 1) 0)) × ((y : ℕ) → Among order from k y → Among order' from r y))

-- all that the statement at a word asks for
abbrev pub ListsAsked : List ℕ → ℕ → List ℕ → List ℕ → ℕ → ℕ → ℕ → List ℕ → Type 0
ListsAsked stmts at order order' from k r marks' = (take from order' ≡ take from order) × (Listing order' from r marks' × ((number x : ℕ) → number < length (records_in stmts) → at ≡ start_of stmts number → Asks (stmt_in stmts number) x → Among order' from r x) × ((y : ℕ) → Among order from k y → Among order' from r y))

pub control_absent : {order marks : List ℕ} {from k : ℕ} (stmts : List ℕ) (word : ℕ) → Listing order from k marks → get_or stmts word 0 ≡ 0 → ListsControl stmts word order order from k k marks
control_absent stmts word l z = (refl, (l, (λ n. absurd (n z)), λ y a. a))

pub control_given : {order order' marks' : List ℕ} {from k r : ℕ} (stmts : List ℕ) (word : ℕ) → (take from order' ≡ take from order) → Listing order' from r marks' × Among order' from r (get_or stmts (word + 1) 0) × ((y : ℕ) → Among order from k y → Among order' from r y) → ListsControl stmts word order order' from k r marks'
control_given stmts word t f = (t, (f.0, (λ n. f.1), f.2))

pub control_asks : {signals stmts : List ℕ} {word : ℕ} (marks : List ℕ) → Control signals stmts word → length (records_in signals) ≤ length marks → (word < length stmts) × ((get_or stmts word 0 ≡ 0 → ⊥) → (word + 2 < length stmts) × (get_or stmts (word + 1) 0 < length marks))
control_asks marks h r = (h.inside, λ n. ((h.one_bit n).0, omega (arith, (h.one_bit n).1, r)))

module _ {signals stmts : List ℕ} (s : Stated signals stmts) {at from k : ℕ} {order : List ℕ} where
  pub asked_none : {marks : List ℕ} → Listing order from k marks → (get_or stmts (at + 1) 0 ≡ 1 → ⊥) → ListsAsked stmts at order order from k k marks
  asked_none l n = (refl, (l, (λ number x h b a. absurd (n (asks_word s h b x a).0)), λ y a. a))

  pub asked_both : {a r i : ℕ} {order₁ marks₁ order₂ marks₂ : List ℕ} → ListsControl stmts (at + 6) order order₁ from k a marks₁ → i ≡ enable_at stmts at → ListsControl stmts i order₁ order₂ from a r marks₂ → ListsAsked stmts at order order₂ from k r marks₂
  asked_both {a} {r} {i} {order₁} {marks₁} {order₂} {marks₂} f e g = (g.0 ∙ f.0, (g.1.0, (λ number x w b y. by x (asks_word s w b x y).1), λ y z. g.1.2 y (f.1.2 y z)))
    where
      by : (x : ℕ) → ((get_or stmts (at + 6) 0 ≡ 0 → ⊥) × (get_or stmts (at + 6 + 1) 0 ≡ x)) ⊎ ((get_or stmts (enable_at stmts at) 0 ≡ 0 → ⊥) × (get_or stmts (enable_at stmts at + 1) 0 ≡ x)) → Among order₂ from r x
      by x (inl z) = subst (Among order₂ from r) z.1 (g.1.2 (get_or stmts (at + 6 + 1) 0) (f.1.1 z.0))
      by x (inr z) = subst (Among order₂ from r) (ap (λ (j : ℕ). get_or stmts (j + 1) 0) e ∙ z.1) (g.1.1 (λ n. z.0 (ap (λ (j : ℕ). get_or stmts j 0) (sym e) ∙ n)))

-- CONTROLS: what the first j of a list of registers ask for is listed

pub record ListsControls (stmts order₀ : List ℕ) (loads from room : ℕ) (marks₀ order marks : List ℕ) (k j : ℕ) : Type 0 where
  pub as_long : length order ≡ length order₀
  pub marks_long : length marks ≡ length marks₀
  pub few : k ≤ room
  pub kept : take from order ≡ take from order₀
  pub listing : Listing order from k marks
  pub asked : (i : ℕ) → i < j → (number x : ℕ) → number < length (records_in stmts) → get_or order₀ (loads + i) 0 ≡ start_of stmts number → Asks (stmt_in stmts number) x → Among order from k x

pub controls_start : {marks : List ℕ} (l stmts order : List ℕ) (loads from room : ℕ) → marks ≡ zeroed l → ListsControls stmts order loads from room marks order marks 0 0
controls_start {marks} l stmts order loads from room z = record { as_long = refl; marks_long = refl; few = omega arith; kept = refl; listing = record { listed = λ x h. absurd (false≢true (subst (λ (n : ℕ). leb 1 n ≡ true) (ap (λ (m : List ℕ). get_or m x 0) z ∙ get_d_zeros (length l) x) h)) }; asked = λ i q. absurd (not-suc-le-zero q) }

module _ {stmts order₀ : List ℕ} {loads from room : ℕ} {marks₀ order marks : List ℕ} {k j : ℕ} (g : ListsControls stmts order₀ loads from room marks₀ order marks k j) where
  module _ {count : ℕ} (r : Registers stmts order₀ loads count) where
    module _ (b : loads + count ≤ from) (q : j < count) where
      pub controls_word : get_or order (loads + j) 0 ≡ get_or order₀ (loads + j) 0
      controls_word = sym (get_or-take from order (loads + j) 0 (omega arith)) ∙ ap (λ (l : List ℕ). get_or l (loads + j) 0) g.kept ∙ get_or-take from order₀ (loads + j) 0 (omega arith)

      pub controls_begins : {at : ℕ} → at ≡ get_or order (loads + j) 0 → Begins stmts at
      controls_begins e = subst (Begins stmts) (sym (e ∙ controls_word)) (r.each j q)

      pub controls_next : {at r' : ℕ} {order' marks' : List ℕ} → at ≡ get_or order (loads + j) 0 → length order' ≡ length order → length marks' ≡ length marks → r' ≤ room → ListsAsked stmts at order order' from k r' marks' → ListsControls stmts order₀ loads from room marks₀ order' marks' r' (j + 1)
      controls_next {at} {r'} {order'} e lo lm h f = record {
        as_long = lo ∙ g.as_long;
        marks_long = lm ∙ g.marks_long;
        few = h;
        kept = f.0 ∙ g.kept;
        listing = f.1.0;
        asked = λ i z. more i (dec_lt i j) z;
      }
        where
          more : (i : ℕ) → Dec (i < j) → i < j + 1 → (number x : ℕ) → number < length (records_in stmts) → get_or order₀ (loads + i) 0 ≡ start_of stmts number → Asks (stmt_in stmts number) x → Among order' from r' x
          more i (yes y) z number x t w a = f.1.2 x (g.asked i y number x t w a)
          more i (no n) z number x t w a =
              let same : j ≡ i = omega arith in
              f.1.1 number x t (e ∙ controls_word ∙ ap (λ (m : ℕ). get_or order₀ (loads + m) 0) same ∙ w) a

    pub controls_end : count ≤ j → (take from order ≡ take from order₀) × Controls stmts order from k
    controls_end h = (g.kept, record { all_asked = λ number x t a. let p = r.all number t (asks_register x (stmt_in stmts number) a) in g.asked p.place (omega (arith, p.before)) number x t p.stands a })
      where
        asks_register : (x : ℕ) (y : Stmt) → Asks y x → is_register y ≡ true
        asks_register x (assign t n) a = absurd a
        asks_register x (reg t n c d r e) a = refl

-- NO TWO STATEMENTS ON ONE SIGNAL

module _ {signals stmts : List ℕ} (s : Stated signals stmts) where
  stmts_long : length (stmts_in stmts) ≡ length (records_in stmts)
  stmts_long = read_length read_stmt (records_in stmts) s.readable

  apart : {a b : ℕ} → a < length (records_in stmts) → b < length (records_in stmts) → (a ≡ b → ⊥) → target (stmt_in stmts a) ≡ target (stmt_in stmts b) → ⊥
  apart {a} {b} p q n e = go (dec_lt a b)
    where
      go : Dec (a < b) → ⊥
      go (yes y) = alone (stmts_in stmts) (target (stmt_in stmts b)) a b (assign 0 0) (s.one_each (target (stmt_in stmts b)) (target_known s q)) y (omega (arith, stmts_long)) e refl
      go (no z) = alone (stmts_in stmts) (target (stmt_in stmts b)) b a (assign 0 0) (s.one_each (target (stmt_in stmts b)) (target_known s q)) (omega (arith, z, n)) (omega (arith, stmts_long)) refl e

  same_target : {word a b : ℕ} → a < length (records_in stmts) → b < length (records_in stmts) → word ≡ start_of stmts a → word ≡ start_of stmts b → target (stmt_in stmts a) ≡ target (stmt_in stmts b)
  same_target p q x y = sym (target_of s p x) ∙ target_of s q y

-- what a rule gives a signal

or_else_none : (o : Option ℕ) → or_else o None ≡ o
or_else_none None = refl
or_else_none (Some e) = refl

module _ (rule : Stmt → Option ℕ) where
  given_nothing : (ss : List Stmt) (i : ℕ) → count_of (on i) ss ≤ 0 → given rule ss i ≡ None
  given_nothing [] i h = refl
  given_nothing (x ∷ ss) i h = go (eqb (target x) i) (given_nothing ss i) h
    where
      go : (b : Bool) → (count_of (on i) ss ≤ 0 → given rule ss i ≡ None) → pick b (suc (count_of (on i) ss)) (count_of (on i) ss) ≤ 0 → ◌≡◌ {A = Option ℕ} (pick b (or_else (rule x) (given rule ss i)) (given rule ss i)) None
      go true f k = absurd (not-suc-le-zero k)
      go false f k = f k

  -- a statement that is alone on its signal gives what it loads
  given_own : (ss : List Stmt) (i k : ℕ) → k < length ss → target (get_or ss k (assign 0 0)) ≡ i → count_of (on i) ss ≤ 1 → given rule ss i ≡ rule (get_or ss k (assign 0 0))
  given_own [] i k q e c = absurd (not-suc-le-zero q)
  given_own (x ∷ ss) i zero q e c =
      let b : eqb (target x) i ≡ true = eq-eqb (target x) i e in
      let z : suc (count_of (on i) ss) ≤ 1 = subst (λ (y : Bool). pick y (suc (count_of (on i) ss)) (count_of (on i) ss) ≤ 1) b c in
      ap (λ (y : Bool). pick y (or_else (rule x) (given rule ss i)) (given rule ss i)) b ∙ ap (or_else (rule x)) (given_nothing ss i (omega arith)) ∙ or_else_none (rule x)
  given_own (x ∷ ss) i (suc k) q e c = go (eqb (target x) i) (count_some ss i k (assign 0 0) (omega arith) e) (given_own ss i k (omega arith) e) c
    where
      go : (b : Bool) → 1 ≤ count_of (on i) ss → (count_of (on i) ss ≤ 1 → given rule ss i ≡ rule (get_or ss k (assign 0 0))) → pick b (suc (count_of (on i) ss)) (count_of (on i) ss) ≤ 1 → pick b (or_else (rule x) (given rule ss i)) (given rule ss i) ≡ rule (get_or ss k (assign 0 0))
      go true m f h = absurd (omega arith)
      go false m f h = f h

  record Giver (ss : List Stmt) (i e : ℕ) : Type 0 where
    pub number : ℕ
    pub there : number < length ss
    pub onto : target (get_or ss number (assign 0 0)) ≡ i
    pub gives : rule (get_or ss number (assign 0 0)) ≡ Some e

  giver : (ss : List Stmt) (i e : ℕ) → given rule ss i ≡ Some e → Giver ss i e
  giver [] i e h = absurd (none_ne_some e h)
  giver (x ∷ ss) i e h = go (eqb (target x) i) refl (rule x) refl (giver ss i e) h
    where
      later : Giver ss i e → Giver (x ∷ ss) i e
      later g = record { number = suc g.number; there = omega (arith, g.there); onto = g.onto; gives = g.gives }

      go : (b : Bool) → eqb (target x) i ≡ b → (o : Option ℕ) → rule x ≡ o → (given rule ss i ≡ Some e → Giver ss i e) → pick b (or_else o (given rule ss i)) (given rule ss i) ≡ Some e → Giver (x ∷ ss) i e
      go true t None r f k = later (f k)
      go true t (Some d) r f k = record { number = 0; there = omega arith; onto = eqb-true (target x) i t; gives = r ∙ k }
      go false t o r f k = later (f k)

same_given : (rule rule' : Stmt → Option ℕ) (ss : List Stmt) (i : ℕ) → ((k : ℕ) → k < length ss → rule (get_or ss k (assign 0 0)) ≡ rule' (get_or ss k (assign 0 0))) → given rule ss i ≡ given rule' ss i
same_given rule rule' [] i h = refl
same_given rule rule' (x ∷ ss) i h =
    ap (λ (o : Option ℕ). pick (eqb (target x) i) (or_else o (given rule ss i)) (given rule ss i)) (h 0 (omega arith))
    ∙ ap (λ (o : Option ℕ). pick (eqb (target x) i) (or_else (rule' x) o) o) (same_given rule rule' ss i (λ k q. h (suc k) (omega arith)))

store_at : (vs : List Bits) (o : Option ℕ) (x i : ℕ) (t : List Bits) → x ≡ i → i < length t → get_or (store vs o x t) i [] ≡ become vs o (get_or t i [])
store_at vs None x i t e h = refl
store_at vs (Some k) x i t e h = ap (λ (j : ℕ). get_or (set t j (get_or vs k [])) i []) e ∙ get_or-set_same t i (get_or vs k []) [] h

store_off : (vs : List Bits) (o : Option ℕ) (x i : ℕ) (t : List Bits) → i ≢ x → get_or (store vs o x t) i [] ≡ get_or t i []
store_off vs None x i t e = refl
store_off vs (Some k) x i t e = get_or-set_other t x i (get_or vs k []) [] e

-- NOTES: the first j of a list of registers have their marks

pub record NotesListed (signals stmts : List ℕ) (f : Firing) (bytes order : List ℕ) (from : ℕ) (marks₀ marks : List ℕ) (j : ℕ) : Type 0 where
  pub as_long : length marks ≡ length marks₀
  pub so_far : (i : ℕ) → i < j → (number : ℕ) → number < length (records_in stmts) → get_or order (from + i) 0 ≡ start_of stmts number → MarkOf signals stmts f bytes number (get_or marks (target (stmt_in stmts number)) 0)

pub notes_start : (signals stmts : List ℕ) (f : Firing) (bytes order : List ℕ) (from : ℕ) (marks : List ℕ) → NotesListed signals stmts f bytes order from marks marks 0
notes_start signals stmts f bytes order from marks = record { as_long = refl; so_far = λ i q. absurd (not-suc-le-zero q) }

-- the next word of a list of registers
pub next_begins : {stmts order : List ℕ} {from k j at : ℕ} → Registers stmts order from k → j < k → at ≡ get_or order (from + j) 0 → Begins stmts at
next_begins {stmts} r q e = subst (Begins stmts) (sym e) (r.each _ q)

module _ {signals stmts : List ℕ} {f : Firing} {bytes order : List ℕ} {from : ℕ} {marks₀ marks : List ℕ} {j : ℕ} (s : Stated signals stmts) (g : NotesListed signals stmts f bytes order from marks₀ marks j) {k : ℕ} (r : Registers stmts order from k) where
  pub notes_next : {at : ℕ} {marks' : List ℕ} → j < k → at ≡ get_or order (from + j) 0 → length marks' ≡ length marks → ((n : ℕ) → n < length (records_in stmts) → at ≡ start_of stmts n → NotesOne signals stmts f bytes n marks marks') → NotesListed signals stmts f bytes order from marks₀ marks' (j + 1)
  notes_next {at} {marks'} q e h note = record { as_long = h ∙ g.as_long; so_far = λ i z. more i (dec_lt i j) z }
    where
      b : Begins stmts at
      b = next_begins r q e

      one : NotesOne signals stmts f bytes b.number marks marks'
      one = note b.number b.there b.begins

      before : (n : ℕ) → Dec (n ≡ b.number) → n < length (records_in stmts) → MarkOf signals stmts f bytes n (get_or marks (target (stmt_in stmts n)) 0) → MarkOf signals stmts f bytes n (get_or marks' (target (stmt_in stmts n)) 0)
      before n (yes y) t m = subst (λ (i : ℕ). MarkOf signals stmts f bytes i (get_or marks' (target (stmt_in stmts i)) 0)) (sym y) one.own
      before n (no z) t m = subst (MarkOf signals stmts f bytes n) (sym (one.others (target (stmt_in stmts n)) (apart s t b.there z))) m

      more : (i : ℕ) → Dec (i < j) → i < j + 1 → (n : ℕ) → n < length (records_in stmts) → get_or order (from + i) 0 ≡ start_of stmts n → MarkOf signals stmts f bytes n (get_or marks' (target (stmt_in stmts n)) 0)
      more i (yes y) z n t w = before n (ℕ_discrete n b.number) t (g.so_far i y n t w)
      more i (no y) z n t w =
          let same : j ≡ i = omega arith in
          (note n t (e ∙ ap (λ (m : ℕ). get_or order (from + m) 0) same ∙ w)).own

  pub notes_end : k ≤ j → Noted signals stmts f bytes (length (records_in stmts)) marks
  notes_end h = record { noted = λ n q. by n q (is_register (stmt_in stmts n)) refl }
    where
      nothing : (v : Signals) (mark : ℕ) (x : Stmt) → is_register x ≡ false → marked mark x ≡ loads f v x
      nothing v mark (assign t e) z = refl
      nothing v mark (reg t n c d r e) z = absurd (true≢false z)

      by : (n : ℕ) → n < length (records_in stmts) → (y : Bool) → is_register (stmt_in stmts n) ≡ y → MarkOf signals stmts f bytes n (get_or marks (target (stmt_in stmts n)) 0)
      by n q true z = let a = r.all n q z in g.so_far a.place (omega (arith, a.before)) n q a.stands
      by n q false z = record { means = λ t behind ht. nothing (signals_at [] t) (get_or marks (target (stmt_in stmts n)) 0) (stmt_in stmts n) z }

-- LOADS: the first j of a list of registers have what they load by the marks, and no other signal is changed

pub record LoadsSome (stmts marks order : List ℕ) (from j : ℕ) (old vs cur : List Bits) : Type 0 where
  pub either : (s : ℕ) → (get_or cur s [] ≡ get_or old s []) ⊎ (get_or cur s [] ≡ become vs (given (by_marks marks) (stmts_in stmts) s) (get_or old s []))
  pub those : (i : ℕ) → i < j → (n : ℕ) → n < length (records_in stmts) → get_or order (from + i) 0 ≡ start_of stmts n → get_or cur (target (stmt_in stmts n)) [] ≡ become vs (given (by_marks marks) (stmts_in stmts) (target (stmt_in stmts n))) (get_or old (target (stmt_in stmts n)) [])

pub record LoadsFirst (signals exprs stmts values marks order : List ℕ) (from : ℕ) (bytes₀ bytes : List ℕ) (j : ℕ) : Type 0 where
  pub as_long : length bytes ≡ length bytes₀
  pub so_far : (old vs : List Bits) (behind rest : List ℕ) → Holds (widths_in signals) old behind bytes₀ → Holds (widths_in exprs) vs rest values → (cur : List Bits) × Holds (widths_in signals) cur behind bytes × LoadsSome stmts marks order from j old vs cur

pub loads_start : (signals exprs stmts values marks order : List ℕ) (from : ℕ) (bytes : List ℕ) → LoadsFirst signals exprs stmts values marks order from bytes bytes 0
loads_start signals exprs stmts values marks order from bytes = record { as_long = refl; so_far = λ old vs behind rest ho hv. (old, ho, record { either = λ s. inl refl; those = λ i q. absurd (not-suc-le-zero q) }) }

by_register : (mark e : ℕ) (x : Stmt) → marked mark x ≡ Some e → is_register x ≡ true
by_register mark e (assign t n) h = absurd (none_ne_some e h)
by_register mark e (reg t n c d r v) h = refl

module _ {signals exprs stmts values marks order : List ℕ} {from : ℕ} {bytes₀ bytes : List ℕ} {j : ℕ} (s : Stated signals stmts) (g : LoadsFirst signals exprs stmts values marks order from bytes₀ bytes j) {k : ℕ} (r : Registers stmts order from k) where
  pub loads_room : Room signals exprs bytes₀ values → Room signals exprs bytes values
  loads_room h = record { bytes_room = omega (arith, h.bytes_room, g.as_long); values_room = h.values_room }

  module _ {at : ℕ} (q : j < k) (e : at ≡ get_or order (from + j) 0) where
    abbrev b : Begins stmts at
    b = next_begins r q e

    abbrev t : ℕ
    t = target (stmt_in stmts (next_begins r q e).number)

    own_given : given (by_marks marks) (stmts_in stmts) t ≡ by_marks marks (stmt_in stmts b.number)
    own_given = given_own (by_marks marks) (stmts_in stmts) t b.number (omega (arith, b.there, stmts_long s)) refl (s.one_each t (target_known s b.there))

    load_some : {old vs cur : List Bits} → length cur ≡ length (records_in signals) → LoadsSome stmts marks order from j old vs cur → LoadsSome stmts marks order from (j + 1) old vs (store vs (by_marks marks (stmt_in stmts b.number)) t cur)
    load_some {old} {vs} {cur} h p = record { either = λ i. anew i (ℕ_discrete i t); those = λ i z. more i (dec_lt i j) z }
      where
        after : List Bits
        after = store vs (by_marks marks (stmt_in stmts b.number)) t cur

        settled : (o : Option ℕ) → (get_or cur t [] ≡ get_or old t []) ⊎ (get_or cur t [] ≡ become vs o (get_or old t [])) → become vs o (get_or cur t []) ≡ become vs o (get_or old t [])
        settled None (inl z) = z
        settled None (inr z) = z
        settled (Some d) z = refl

        own : get_or after t [] ≡ become vs (given (by_marks marks) (stmts_in stmts) t) (get_or old t [])
        own =
            store_at vs (by_marks marks (stmt_in stmts b.number)) t t cur refl (omega (arith, h, target_known s b.there))
            ∙ ap (λ (o : Option ℕ). become vs o (get_or cur t [])) (sym own_given)
            ∙ settled (given (by_marks marks) (stmts_in stmts) t) (p.either t)

        at_own : (i : ℕ) → i ≡ t → get_or after i [] ≡ become vs (given (by_marks marks) (stmts_in stmts) i) (get_or old i [])
        at_own i z = subst (λ (x : ℕ). get_or after x [] ≡ become vs (given (by_marks marks) (stmts_in stmts) x) (get_or old x [])) (sym z) own

        off : (i : ℕ) → (i ≡ t → ⊥) → get_or after i [] ≡ get_or cur i []
        off i z = store_off vs (by_marks marks (stmt_in stmts b.number)) t i cur z

        anew : (i : ℕ) → Dec (i ≡ t) → (get_or after i [] ≡ get_or old i []) ⊎ (get_or after i [] ≡ become vs (given (by_marks marks) (stmts_in stmts) i) (get_or old i []))
        anew i (yes y) = inr (at_own i y)
        anew i (no z) = as_before (p.either i)
          where
            as_before : (get_or cur i [] ≡ get_or old i []) ⊎ (get_or cur i [] ≡ become vs (given (by_marks marks) (stmts_in stmts) i) (get_or old i [])) → (get_or after i [] ≡ get_or old i []) ⊎ (get_or after i [] ≡ become vs (given (by_marks marks) (stmts_in stmts) i) (get_or old i []))
            as_before (inl x) = inl (off i z ∙ x)
            as_before (inr x) = inr (off i z ∙ x)

        earlier : (x : ℕ) → Dec (x ≡ t) → get_or cur x [] ≡ become vs (given (by_marks marks) (stmts_in stmts) x) (get_or old x []) → get_or after x [] ≡ become vs (given (by_marks marks) (stmts_in stmts) x) (get_or old x [])
        earlier x (yes y) w = at_own x y
        earlier x (no z) w = off x z ∙ w

        more : (i : ℕ) → Dec (i < j) → i < j + 1 → (n : ℕ) → n < length (records_in stmts) → get_or order (from + i) 0 ≡ start_of stmts n → get_or after (target (stmt_in stmts n)) [] ≡ become vs (given (by_marks marks) (stmts_in stmts) (target (stmt_in stmts n))) (get_or old (target (stmt_in stmts n)) [])
        more i (yes y) z n w x = earlier (target (stmt_in stmts n)) (ℕ_discrete (target (stmt_in stmts n)) t) (p.those i y n w x)
        more i (no y) z n w x =
            let same : j ≡ i = omega arith in
            at_own (target (stmt_in stmts n)) (same_target s w b.there (e ∙ ap (λ (m : ℕ). get_or order (from + m) 0) same ∙ x) b.begins)

    pub loads_next : {bytes' : List ℕ} → length bytes' ≡ length bytes → ((n : ℕ) → n < length (records_in stmts) → at ≡ start_of stmts n → StoresLoad signals exprs stmts values marks n bytes bytes') → LoadsFirst signals exprs stmts values marks order from bytes₀ bytes' (j + 1)
    loads_next h one = record {
      as_long = h ∙ g.as_long;
      so_far = λ old vs behind rest ho hv.
          let p = g.so_far old vs behind rest ho hv in
          (store vs (by_marks marks (stmt_in stmts b.number)) t p.0, (one b.number b.there b.begins).stores_load p.0 vs behind rest p.1 hv, load_some (holds_length p.1 ∙ length_widths signals) p.2);
    }

  pub loads_end : k ≤ j → LoadsMarked signals exprs stmts values marks bytes₀ bytes
  loads_end h = record {
    loads_marked = λ old vs behind rest ho hv.
        let p = g.so_far old vs behind rest ho hv in
        (p.0, p.1, λ i. every p.2 i (given (by_marks marks) (stmts_in stmts) i) refl (p.2.either i));
  }
    where
      every : {old vs cur : List Bits} → LoadsSome stmts marks order from j old vs cur → (i : ℕ) (o : Option ℕ) → given (by_marks marks) (stmts_in stmts) i ≡ o → (get_or cur i [] ≡ get_or old i []) ⊎ (get_or cur i [] ≡ become vs (given (by_marks marks) (stmts_in stmts) i) (get_or old i [])) → get_or cur i [] ≡ become vs (given (by_marks marks) (stmts_in stmts) i) (get_or old i [])
      every p i o z (inr x) = x
      every {old} {vs} p i None z (inl x) = x ∙ sym (ap (λ (y : Option ℕ). become vs y (get_or old i [])) z)
      every {old} {vs} {cur} p i (Some d) z (inl x) =
          let w = giver (by_marks marks) (stmts_in stmts) i d z in
          let n : w.number < length (records_in stmts) = omega (arith, w.there, stmts_long s) in
          let a = r.all w.number n (by_register (get_or marks (target (stmt_in stmts w.number)) 0) d (stmt_in stmts w.number) w.gives) in
          subst (λ (y : ℕ). get_or cur y [] ≡ become vs (given (by_marks marks) (stmts_in stmts) y) (get_or old y [])) w.onto (p.those a.place (omega (arith, a.before)) w.number n a.stands)

pub loads_listed_by : {signals exprs stmts values marks bytes bytes' : List ℕ} {f : Firing} → Stated signals stmts → Noted signals stmts f bytes (length (records_in stmts)) marks → LoadsMarked signals exprs stmts values marks bytes bytes' → LoadsListed signals exprs stmts f values bytes bytes'
loads_listed_by {stmts = stmts} {marks = marks} {f = f} s n l = record {
  loads_listed = λ old vs behind rest ho hv.
      let p = l.loads_marked old vs behind rest ho hv in
      (p.0, p.1, λ i. p.2 i ∙ ap (λ (o : Option ℕ). become vs o (get_or old i [])) (same_given (by_marks marks) (loads f (signals_at [] old)) (stmts_in stmts) i (λ k q. (n.noted k (omega (arith, stmts_long s))).means old behind ho)));
}

-- DRIVERS

driven_there : {signals stmts : List ℕ} → Stated signals stmts → {i d : ℕ} → given assigns (stmts_in stmts) i ≡ Some d → i < length (records_in signals)
driven_there {stmts = stmts} s {i} {d} h =
    let w = giver assigns (stmts_in stmts) i d h in
    omega (arith, w.onto, target_known s {k = w.number} (omega (arith, w.there, stmts_long s)))

module _ {signals exprs stmts expr_table signal_table : List ℕ} (p : Prepared signals exprs stmts expr_table signal_table) {values bytes : List ℕ} {x : ℕ} where
  pub driven_by : {d : ℕ} {bytes' : List ℕ} → given assigns (stmts_in stmts) x ≡ Some d → StoresOne signals exprs values x d bytes bytes' → StoresDriven signals exprs stmts x values bytes bytes'
  driven_by {d} {bytes'} h o = record { stores_driven = λ old vs behind rest ho hv. subst (λ (y : Option ℕ). Holds (widths_in signals) (store vs y x old) behind bytes') (sym h) (o.stores_one old vs behind rest ho hv) }

  pub driven_none : given assigns (stmts_in stmts) x ≡ None → StoresDriven signals exprs stmts x values bytes bytes
  driven_none h = record { stores_driven = λ old vs behind rest ho hv. subst (λ (y : Option ℕ). Holds (widths_in signals) (store vs y x old) behind bytes) (sym h) ho }

  -- no such signal
  pub driven_past : length (records_in signals) ≤ x → StoresDriven signals exprs stmts x values bytes bytes
  driven_past h = driven_none (by (given assigns (stmts_in stmts) x) refl)
    where
      by : (o : Option ℕ) → given assigns (stmts_in stmts) x ≡ o → given assigns (stmts_in stmts) x ≡ None
      by None z = z
      by (Some d) z = absurd (omega (arith, driven_there (stated p) z))

  pub driven_asks : {d : ℕ} → Room signals exprs bytes values → given assigns (stmts_in stmts) x ≡ Some d → Indexed (widths_in exprs) expr_table × Indexed (widths_in signals) signal_table × Room signals exprs bytes values × (x < length (records_in signals)) × (d < length (records_in exprs)) × (get_or (widths_in exprs) d 0 ≡ get_or (widths_in signals) x 0)
  driven_asks r h = (p.expr_offsets, p.signal_offsets, r, driven_there (stated p) h, omega (arith, driver_there p x h, length_widths exprs), driver_wide p x h)

-- STORES: the first j signals of a list have the values of what is assigned to them, free ones are kept

pub record StoresSome (stmts order : List ℕ) (from j : ℕ) (old vs cur : List Bits) : Type 0 where
  pub those : (i d : ℕ) → i < j → given assigns (stmts_in stmts) (get_or order (from + i) 0) ≡ Some d → get_or cur (get_or order (from + i) 0) [] ≡ get_or vs d []
  pub free : (x : ℕ) → given assigns (stmts_in stmts) x ≡ None → get_or cur x [] ≡ get_or old x []

pub record StoresFirst (signals exprs stmts values order : List ℕ) (from : ℕ) (bytes₀ bytes : List ℕ) (j : ℕ) : Type 0 where
  pub as_long : length bytes ≡ length bytes₀
  pub so_far : (old vs : List Bits) (behind rest : List ℕ) → Holds (widths_in signals) old behind bytes₀ → Holds (widths_in exprs) vs rest values → (cur : List Bits) × Holds (widths_in signals) cur behind bytes × StoresSome stmts order from j old vs cur

pub stores_start : (signals exprs stmts values order : List ℕ) (from : ℕ) (bytes : List ℕ) → StoresFirst signals exprs stmts values order from bytes bytes 0
stores_start signals exprs stmts values order from bytes = record { as_long = refl; so_far = λ old vs behind rest ho hv. (old, ho, record { those = λ i d q. absurd (not-suc-le-zero q); free = λ x h. refl }) }

module _ {signals exprs stmts values order : List ℕ} {from : ℕ} {bytes₀ bytes : List ℕ} {j : ℕ} (g : StoresFirst signals exprs stmts values order from bytes₀ bytes j) where
  pub stores_room : Room signals exprs bytes₀ values → Room signals exprs bytes values
  stores_room h = record { bytes_room = omega (arith, h.bytes_room, g.as_long); values_room = h.values_room }

  store_some : {old vs cur : List Bits} {x : ℕ} → Stated signals stmts → x ≡ get_or order (from + j) 0 → length cur ≡ length (records_in signals) → StoresSome stmts order from j old vs cur → StoresSome stmts order from (j + 1) old vs (store vs (given assigns (stmts_in stmts) x) x cur)
  store_some {old} {vs} {cur} {x} s e h p = record { those = λ i d q. more i d (dec_lt i j) (ℕ_discrete (get_or order (from + i) 0) x) q; free = λ y z. kept y (ℕ_discrete y x) z }
    where
      after : List Bits
      after = store vs (given assigns (stmts_in stmts) x) x cur

      own : (d : ℕ) → given assigns (stmts_in stmts) x ≡ Some d → get_or after x [] ≡ get_or vs d []
      own d z = store_at vs (given assigns (stmts_in stmts) x) x x cur refl (omega (arith, h, driven_there s z)) ∙ ap (λ (o : Option ℕ). become vs o (get_or cur x [])) z

      more : (i d : ℕ) → Dec (i < j) → Dec (get_or order (from + i) 0 ≡ x) → i < j + 1 → given assigns (stmts_in stmts) (get_or order (from + i) 0) ≡ Some d → get_or after (get_or order (from + i) 0) [] ≡ get_or vs d []
      more i d a (yes y) q z = subst (λ (n : ℕ). get_or after n [] ≡ get_or vs d []) (sym y) (own d (ap (given assigns (stmts_in stmts)) (sym y) ∙ z))
      more i d (yes a) (no n) q z = store_off vs (given assigns (stmts_in stmts) x) x (get_or order (from + i) 0) cur n ∙ p.those i d a z
      more i d (no a) (no n) q z =
          let same : i ≡ j = omega arith in
          absurd (n (ap (λ (m : ℕ). get_or order (from + m) 0) same ∙ sym e))

      kept : (y : ℕ) → Dec (y ≡ x) → given assigns (stmts_in stmts) y ≡ None → get_or after y [] ≡ get_or old y []
      kept y (yes a) z = ap (λ (o : Option ℕ). get_or (store vs o x cur) y []) (ap (given assigns (stmts_in stmts)) (sym a) ∙ z) ∙ p.free y z
      kept y (no n) z = store_off vs (given assigns (stmts_in stmts) x) x y cur n ∙ p.free y z

  pub stores_next : {x : ℕ} {bytes' : List ℕ} → Stated signals stmts → x ≡ get_or order (from + j) 0 → length bytes' ≡ length bytes → StoresDriven signals exprs stmts x values bytes bytes' → StoresFirst signals exprs stmts values order from bytes₀ bytes' (j + 1)
  stores_next {x} s e h one = record {
    as_long = h ∙ g.as_long;
    so_far = λ old vs behind rest ho hv.
        let p = g.so_far old vs behind rest ho hv in
        (store vs (given assigns (stmts_in stmts) x) x p.0, one.stores_driven p.0 vs behind rest p.1 hv, store_some s e (holds_length p.1 ∙ length_widths signals) p.2);
  }

  pub stores_end : {k : ℕ} → k ≤ j → StoresListed signals exprs stmts order from k values bytes₀ bytes
  stores_end {k} h = record {
    stores_listed = λ old vs behind rest ho hv.
        let p = g.so_far old vs behind rest ho hv in
        (p.0, p.1, (λ x d a z. subst (λ (y : ℕ). get_or p.0 y [] ≡ get_or vs d []) a.stands (p.2.those a.place d (omega (arith, a.before)) (ap (given assigns (stmts_in stmts)) a.stands ∙ z))), p.2.free);
  }
