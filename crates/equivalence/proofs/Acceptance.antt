-- What an accepting answer of lowering says: the netlist is lowered, and the used words are its model's.
-- Assumes nothing.
use mathlib.Core.Path.{◌≡◌, refl, ap, ap₂, sym, ◌∙◌, subst}
use mathlib.Core.List.{List}
use Rattle.std.specs.Prelude.{Option, None, Some}
use Prim.Native.Nat.{ℕ, ◌-◌}
use native.Mathlib.Omega.{arith}
use lib.ListN.{length, take, replicate}
use lib.Seq.{take_at}
use Rattle.netlist.specs.declared.Limits.{Limits}
use Rattle.netlist.specs.Netlist.{Netlist}
use Rattle.netlist.specs.Reader.{netlist, read_words}
use Rattle.netlist.specs.Shape.{Fits, Answer as ReadAnswer}
use Rattle.netlist.proofs.ReaderFits.{answer}
use Rattle.recorder.specs.declared.Tapes.{Tapes}
use Rattle.recorder.specs.Record.{Model}
use Rattle.recorder.specs.Writer.{End, End.ok, End.no, Out}
use Rattle.recorder.specs.Lists.{Lists, lists, Played, going, full, play, finish}
use Rattle.recorder.specs.Words.{words_of, holding, blank}
use Rattle.recorder.proofs.Events.{bind_no}
use Rattle.recorder.proofs.Played.{going_fit}
use Rattle.wires.specs.Wires.{Wires}
use Rattle.lowering.specs.Lower.{overdriven_from, reserve_netlist, emit_netlist, lower_netlist, start, Accepted, Refused, Lowering, ended, lowered}
use Rattle.forms.specs.Lowered.{none_yet, lowered_model, Lowered}
use Rattle.equivalence.specs.Demand.{used_lists}

-- READING

pub read_fits : (limits : Limits) (words : List ℕ) (n : Netlist) → read_words limits words ≡ netlist n → Fits limits n
read_fits limits words n e = subst (ReadAnswer limits (length words)) e (answer limits words)

-- THE STEPS

reserve_no : (shared : ℕ) (n : Netlist) {x y : ℕ} → (reserve_netlist n none_yet).end ≡ no x y → (lower_netlist shared n none_yet).end ≡ no x y
unfolding lower_netlist
reserve_no shared n q = ap (λ (o : Out (Unit {0})). o.end) (bind_no (reserve_netlist n) (emit_netlist shared n) none_yet q)

reserve_ok : (shared : ℕ) (n : Netlist) → (lower_netlist shared n none_yet).end ≡ ok tt → (m : Wires) × ((reserve_netlist n none_yet).end ≡ ok m)
reserve_ok shared n e = go (reserve_netlist n none_yet).end refl
  where
    go : (y : End Wires) → (reserve_netlist n none_yet).end ≡ y → (m : Wires) × ((reserve_netlist n none_yet).end ≡ ok m)
    go (ok m) q = (m, q)
    go (no x y) q = let p : ok tt ≡ no x y = sym e ∙ reserve_no shared n q in absurd (let z : ◌≡◌ {A = ℕ} 0 1 = cc in omega arith)

-- THE VERDICT

-- what an accepting end says
pub record Kept (shared : ℕ) (n : Netlist) (s e t : ℕ) (tapes : Tapes) (l : Lists) : Type 0 where
  pub ended_well : (lower_netlist shared n none_yet).end ≡ ok tt
  pub no_conflict : overdriven_from 0 (lowered_model shared n).signals (lowered_model shared n).stmts ≡ None
  pub played : play (blank s e t) start (lower_netlist shared n none_yet).events ≡ going l tapes

accepted_is : {tapes tapes' : Tapes} {l l' : Lists} → ◌≡◌ {A = Lowering} (record { answer = Accepted tapes'; lists = l' }) (record { answer = Accepted tapes; lists = l }) → (tapes' ≡ tapes) × (l' ≡ l)
accepted_is {tapes} {tapes'} {l} {l'} q =
    let p : Accepted tapes' ≡ Accepted tapes = ap (λ (x : Lowering). x.answer) q in
    (cc, ap (λ (x : Lowering). x.lists) q)

refused_not : {tapes : Tapes} {l l' : Lists} {x y : ℕ} → ◌≡◌ {A = Lowering} (record { answer = Refused x y; lists = l' }) (record { answer = Accepted tapes; lists = l }) → ⊥
refused_not {tapes} {x = x} {y} q = let p : Refused x y ≡ Accepted tapes = ap (λ (z : Lowering). z.answer) q in let z : ◌≡◌ {A = ℕ} 0 1 = cc in omega arith

pub accepted_kept : (shared : ℕ) (n : Netlist) (s e t : ℕ) (tapes : Tapes) (l : Lists) → lowered shared n s e t ≡ record { answer = Accepted tapes; lists = l } → Kept shared n s e t tapes l
unfolding lowered
accepted_kept shared n s e t tapes l h = go (play (blank s e t) start (lower_netlist shared n none_yet).events) refl (lower_netlist shared n none_yet).end refl (overdriven_from 0 (lowered_model shared n).signals (lowered_model shared n).stmts) refl h
  where
    go : (p : Played) → play (blank s e t) start (lower_netlist shared n none_yet).events ≡ p → (y : End (Unit {0})) → (lower_netlist shared n none_yet).end ≡ y → (o : Option ℕ) → overdriven_from 0 (lowered_model shared n).signals (lowered_model shared n).stmts ≡ o
        → ended (finish p y).answer o (finish p y).lists (blank s e t) ≡ record { answer = Accepted tapes; lists = l } → Kept shared n s e t tapes l
    go (going l' t') p (ok tt) y None o q = let r = accepted_is q in record { ended_well = y; no_conflict = o; played = p ∙ ap₂ going r.1 r.0 }
    go (going l' t') p (ok tt) y (Some k) o q = absurd (refused_not q)
    go (going l' t') p (no i j) y k o q = absurd (refused_not q)
    go (full i l') p y y' k o q = absurd (refused_not q)

-- THE WORDS

held_words : (k : ℕ) (ws : List ℕ) → take (length ws) (holding k ws) ≡ ws
held_words k ws = take_at ws (replicate (k - length ws) 0) (length ws) refl

pub used_words : (shared : ℕ) (n : Netlist) (s e t : ℕ) (tapes : Tapes) (l : Lists) → Kept shared n s e t tapes l → used_lists l tapes ≡ words_of (lowered_model shared n)
used_words shared n s e t tapes l h =
    let M : Model = lowered_model shared n in
    let g = going_fit s e t (lower_netlist shared n none_yet).events h.played in
    ap₂ used_lists g.1 g.2
    ∙ (λ i. lists (held_words s (words_of (lowered_model shared n)).signals i) (held_words e (words_of (lowered_model shared n)).exprs i) (held_words t (words_of (lowered_model shared n)).stmts i))

-- the netlist is lowered
pub is_lowered : (shared : ℕ) (limits : Limits) (n : Netlist) (s e t : ℕ) (tapes : Tapes) (l : Lists) → Fits limits n → Kept shared n s e t tapes l → Lowered shared limits n
is_lowered shared limits n s e t tapes l f h =
    let r = reserve_ok shared n h.ended_well in
    record { fits = f; wires = r.0; reserved = r.1; ended = h.ended_well; single = h.no_conflict }
