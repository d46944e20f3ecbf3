-- Runs of lists of ticks: they go tick by tick, refused ticks might as well not be there, and what is shown after each tick is what
-- is shown after the list up to it.
use Rattle.std.specs.Prelude.{◌≡◌, refl, List, [], ◌∷◌, ◌++◌, Bool, true, false, ℕ, zero, suc, ◌<◌, length, get_or, take}
use Rattle.std.proofs.Common.{◌∙◌, ap, not-suc-le-zero, le_of_suc-le-suc}
use Rattle.bits.specs.Bits.{pick, Bits}
use Rattle.netlist.specs.Netlist.{Netlist}
use Rattle.behaviour.specs.Behaviour.{Tick, State, start, tick, accepts, step, run, shown_after, shows_from, shows}

pub run_append : (n : Netlist) (s : State) (a b : List Tick) → run n s (a ++ b) ≡ run n (run n s a) b
run_append n s [] b = refl
run_append n s (t ∷ a) b = run_append n (step n s t) a b

-- an accepted tick is made, a refused one leaves the state
pub step_made : (n : Netlist) (s : State) (t : Tick) → accepts n t ≡ true → step n s t ≡ tick n s t
step_made n s t h = ap (λ (b : Bool). pick b (tick n s t) s) h

pub step_refused : (n : Netlist) (s : State) (t : Tick) → accepts n t ≡ false → step n s t ≡ s
step_refused n s t h = ap (λ (b : Bool). pick b (tick n s t) s) h

-- those of a list that are accepted
abbrev pub accepted : Netlist → List Tick → List Tick
accepted n [] = []
accepted n (t ∷ l) = pick (accepts n t) (t ∷ accepted n l) (accepted n l)

pub run_accepted : (n : Netlist) (s : State) (l : List Tick) → run n s l ≡ run n s (accepted n l)
run_accepted n s [] = refl
run_accepted n s (t ∷ l) = go (accepts n t) refl (run_accepted n (step n s t) l)
  where
    go : (b : Bool) → accepts n t ≡ b → run n (step n s t) l ≡ run n (step n s t) (accepted n l) → run n (step n s t) l ≡ run n s (pick b (t ∷ accepted n l) (accepted n l))
    go true h ih = ih
    go false h ih = ih ∙ ap (λ (x : State). run n x (accepted n l)) (step_refused n s t h)

-- zeros before the first accepted tick
pub shown_zeros : (n : Netlist) (l : List Tick) → accepted n l ≡ [] → shown_after n l ≡ (start n).outputs
shown_zeros n l h = ap (λ (x : State). x.outputs) (run_accepted n (start n) l ∙ ap (run n (start n)) h)

pub shows_length : (n : Netlist) (s : State) (l : List Tick) → length (shows_from n s l) ≡ length l
shows_length n s [] = refl
shows_length n s (t ∷ l) = ap suc (shows_length n (step n s t) l)

shows_from_at : (n : Netlist) (s : State) (l : List Tick) (i : ℕ) (d : List Bits) → i < length l → get_or (shows_from n s l) i d ≡ (run n s (take (suc i) l)).outputs
shows_from_at n s [] i d h = absurd (not-suc-le-zero h)
shows_from_at n s (t ∷ l) zero d h = refl
shows_from_at n s (t ∷ l) (suc i) d h = shows_from_at n (step n s t) l i d (le_of_suc-le-suc h)

pub shows_at : (n : Netlist) (l : List Tick) (i : ℕ) (d : List Bits) → i < length l → get_or (shows n l) i d ≡ shown_after n (take (suc i) l)
shows_at n l i d h = shows_from_at n (start n) l i d h
