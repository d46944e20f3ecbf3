-- Without a loop in the netlist there is none in the model: 13 never comes.
-- Assumes nothing.
use mathlib.Core.Path.{◌≡◌, refl, ap, sym, ◌∙◌, subst}
use mathlib.Core.Bool.{Bool, true, false}
use mathlib.Core.List.Memᴰ.{head as here}
use mathlib.Core.List.Memᴰ.{not-nil}
use mathlib.Core.List.Memᴰ.{tail as there}
use mathlib.Core.List.{List, [], ◌∷◌, Memᴰ as Mem}
use Rattle.std.specs.Prelude.{Option, None, Some}
use Rattle.bits.proofs.Options.{none_ne_some}
use Prim.Native.Nat.{ℕ, ◌≤◌, ◌<◌}
use native.Mathlib.Omega.{arith}
use lib.Dec.{eqb}
use lib.ListN.{length}
use borrow.Author.Tests.{eqb-true}
use Rattle.bits.specs.Bits.{pick}
use Rattle.settle.specs.Ground.{Grounded, ground, grounded→no_loop}
use Rattle.settle.specs.Loop.{Reads, Under, DepsUnder, NoLoops, LowestOnLoop}
use Rattle.netlist.specs.declared.Limits.{Limits}
use Rattle.netlist.specs.Netlist.{Netlist}
use Rattle.recorder.specs.Record.{Stmt, Stmt.assign, Stmt.reg, Model}
use Rattle.behaviour.specs.Behaviour.{Depends, NoWireLoop}
use Rattle.behaviour.proofs.Settled.{wires_grounded}
use Rattle.wires.specs.Wires.{WireRef}
use Rattle.simulation.specs.Wellformed.{or_else}
use Rattle.simulation.specs.Tick.{target, given, assigns, reads_all, reads_by, depends, looped}
use Rattle.simulation.proofs.Bounds.{reads_under}
use Rattle.simulation.proofs.Settles.{looped_says}
use Rattle.forms.specs.Lowered.{lowered_model, Lowered, Roomy}
use Rattle.forms.specs.Dependent.{first_word, MayRead, a_word, a_wire}
use Rattle.forms.proofs.Sounds.{lowered_sound, assigned_reads, assigned_under}

-- what is given is assigned
given_assign : (ts : List Stmt) (s e : ℕ) → given assigns ts s ≡ Some e → Mem (assign s e) ts
given_assign [] s e h = absurd (none_ne_some e h)
given_assign (t ∷ ts) s e h = go t (eqb (target t) s) refl (given_assign ts s e) h
  where
    go : (t : Stmt) (b : Bool) → eqb (target t) s ≡ b → (given assigns ts s ≡ Some e → Mem (assign s e) ts) → pick b (or_else (assigns t) (given assigns ts s)) (given assigns ts s) ≡ Some e → Mem (assign s e) (t ∷ ts)
    go t false q f k = there (f k)
    go (assign u v) true q f k =
        let x : u ≡ s = eqb-true u s q in
        let w : Some v ≡ Some e = k in
        let y : v ≡ e = cc in
        here (sym (ap (λ (i : ℕ). assign i v) x ∙ ap (λ (i : ℕ). assign s i) y))
    go (reg u a c d r x) true q f k = there (f k)

module _ {shared : ℕ} {limits : Limits} {n : Netlist} (a : Lowered shared limits n) {widest : ℕ} (r : Roomy limits widest) where
  abbrev M : Model
  M = lowered_model shared n

  abbrev E : ℕ → ℕ → Type 0
  E = Reads (depends M)

  may_read : (x y : ℕ) → E x y → (MayRead n a.wires x y) × (x < first_word n)
  may_read x y k = go (given assigns M.stmts x) refl k
    where
      go : (o : Option ℕ) → given assigns M.stmts x ≡ o → Mem y (reads_by (reads_all [] M.exprs) o) → MayRead n a.wires x y × (x < first_word n)
      go None q m = absurd (not-nil m)
      go (Some e) q m = let h = given_assign M.stmts x e q in (assigned_reads a r x e h y m, assigned_under a r x e h)

  word_grounded : (y : ℕ) → first_word n ≤ y → Grounded E y
  word_grounded y l = ground (λ z k. absurd (omega (arith, l, (may_read y z k).1)))

  wire_grounded : {w : ℕ} → Grounded (Depends n) w → (q : WireRef) → a.wires w ≡ Some q → Grounded E q.signal
  wire_grounded (ground {x = w} h) q e = ground (λ y k. go y (may_read q.signal y k).0 (λ b d s z. wire_grounded (h b d) s z))
    where
      go : (y : ℕ) → MayRead n a.wires q.signal y → ((b : ℕ) → Depends n w b → (s : WireRef) → a.wires b ≡ Some s → Grounded E s.signal) → Grounded E y
      go y (a_word l) f = word_grounded y l
      go y (a_wire b s z t d) f = subst (Grounded E) t (f b (d w q e refl) s z)

  module _ (loopless : NoWireLoop n) where
    all_grounded : (x : ℕ) → Grounded E x
    all_grounded x = ground (λ y k. go y (may_read x y k).0)
      where
        go : (y : ℕ) → MayRead n a.wires x y → Grounded E y
        go y (a_word l) = word_grounded y l
        go y (a_wire b s z t d) = subst (Grounded E) t (wire_grounded (wires_grounded n loopless b) s z)

    pub no_loops : NoLoops (length M.signals) (depends M)
    no_loops = grounded→no_loop E (Under (length M.signals)) (λ x h. all_grounded x)

    pub deps_under : DepsUnder (length M.signals) (depends M)
    deps_under = reads_under widest M (lowered_sound a r)

    -- 13 never comes
    pub never_looped : looped M ≡ None
    never_looped = go (looped M) (looped_says M [] deps_under)
      where
        go : (o : Option ℕ) → LowestOnLoop (length M.signals) (depends M) o → o ≡ None
        go None h = refl
        go (Some x) h = absurd (no_loops x h.0 h.1)
