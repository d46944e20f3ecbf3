-- A plan is made in steps, each of which writes behind what stands already. Assumes nothing.
use Prim.Native.Nat.{ℕ, ◌+◌, ◌*◌, ◌≤◌, ◌<◌}
use mathlib.Core.Path.{◌≡◌, refl, sym, ◌∙◌, ap, subst}
use mathlib.Core.Bool.{true}
use mathlib.Core.Logic.{◌⊎◌, inl, inr}
use mathlib.Core.List.{List}
use Rattle.std.specs.Prelude.{Option, None, Some, IfSome}
use Rattle.bits.proofs.Options.{some_ne_none}
use native.Mathlib.Omega.{arith}
use native.Mathlib.Decide.{ℕ_discrete}
use lib.ListN.{length, get_or, take, drop}
use lib.Seq.{take-length}
use Rattle.recorder.specs.Record.{Stmt, assign, reg}
use Rattle.simulation.specs.Tick.{given, assigns}
use Rattle.simulation.specs.Index.{records_in, start_of, stmts_in}
use Rattle.ordering.specs.Marks.{marked}
use Rattle.ordering.specs.Words.{driver_marked, mark_of}
use Rattle.evaluation.specs.Loads.{stmt_in, Names, marked as loaded_by}
use Rattle.evaluation.specs.Late.{Among, Loaded, Registers, is_register}
use Rattle.fusing.specs.Form.{Formed}
use Rattle.coding.specs.Coded.{bits_in, Coded}
use Rattle.coding.specs.Emitting.{MarksLoaded, MarksDrivers}
use Rattle.coding.proofs.Frame.{take_less, among_kept, registers_kept, formed_kept, coded_kept}
use Rattle.runner.specs.declared.code.Code.{Code}
use Rattle.runner.specs.Plan.{controls_at, outputs_at, first_at, second_at, Controls, Outputs, Planned}

-- WHAT IS MARKED

-- what the statements name that begin at the first words
pub record LoadsSoFar (stmts order : List ℕ) (from : ℕ) (marks : List ℕ) (j : ℕ) : Type 0 where
  pub so_far : (i : ℕ) → i < j → (number : ℕ) → number < length (records_in stmts) → get_or order (from + i) 0 ≡ start_of stmts number → (x : ℕ) → Names (stmt_in stmts number) x → marked marks x ≡ true

pub loads_start : (stmts order : List ℕ) (from : ℕ) (marks : List ℕ) → LoadsSoFar stmts order from marks 0
loads_start stmts order from marks = record { so_far = λ i h. absurd (omega arith) }

-- what may be loaded stands in a register
loads_register : (x : Stmt) (e : ℕ) → (loaded_by 1 x ≡ Some e) ⊎ (loaded_by 2 x ≡ Some e) → is_register x ≡ true
loads_register (assign t d) e (inl h) = absurd (some_ne_none e (sym h))
loads_register (assign t d) e (inr h) = absurd (some_ne_none e (sym h))
loads_register (reg t n c d r y) e h = refl

module _ {stmts order : List ℕ} {from : ℕ} {marks : List ℕ} {j : ℕ} (g : LoadsSoFar stmts order from marks j) where
  pub loads_next : {at : ℕ} → at ≡ get_or order (from + j) 0 → ((number : ℕ) → number < length (records_in stmts) → at ≡ start_of stmts number → (x : ℕ) → Names (stmt_in stmts number) x → marked marks x ≡ true) → LoadsSoFar stmts order from marks (j + 1)
  loads_next {at} e f = record { so_far = λ i h. go i h (ℕ_discrete i j) }
    where
      go : (i : ℕ) → i < j + 1 → Dec (i ≡ j) → (number : ℕ) → number < length (records_in stmts) → get_or order (from + i) 0 ≡ start_of stmts number → (x : ℕ) → Names (stmt_in stmts number) x → marked marks x ≡ true
      go i h (yes z) number q b = f number q (e ∙ ap (λ (p : ℕ). get_or order (from + p) 0) (sym z) ∙ b)
      go i h (no z) number q b = g.so_far i (omega (arith, h, z)) number q b

  pub loads_end : {k : ℕ} → k ≤ j → Registers stmts order from k → MarksLoaded stmts marks
  loads_end h r = record {
    marks_loaded = λ e l.
        let a = r.all l.number l.there (loads_register (stmt_in stmts l.number) e l.loaded) in
        g.so_far a.place (omega (arith, h, a.before)) l.number l.there a.stands e (inr l.loaded);
  }

-- what is assigned to the first signals
pub record DriversSoFar (stmts order : List ℕ) (from : ℕ) (marks : List ℕ) (j : ℕ) : Type 0 where
  pub so_far : (i : ℕ) → i < j → driver_marked stmts marks (get_or order (from + i) 0) true ≡ true

pub drivers_start : (stmts order : List ℕ) (from : ℕ) (marks : List ℕ) → DriversSoFar stmts order from marks 0
drivers_start stmts order from marks = record { so_far = λ i h. absurd (omega arith) }

module _ {stmts order : List ℕ} {from : ℕ} {marks : List ℕ} {j : ℕ} (g : DriversSoFar stmts order from marks j) where
  pub drivers_next : {s : ℕ} → s ≡ get_or order (from + j) 0 → driver_marked stmts marks s true ≡ true → DriversSoFar stmts order from marks (j + 1)
  drivers_next {s} e f = record { so_far = λ i h. go i h (ℕ_discrete i j) }
    where
      go : (i : ℕ) → i < j + 1 → Dec (i ≡ j) → driver_marked stmts marks (get_or order (from + i) 0) true ≡ true
      go i h (yes z) = subst (λ (p : ℕ). driver_marked stmts marks p true ≡ true) (e ∙ ap (λ (p : ℕ). get_or order (from + p) 0) (sym z)) f
      go i h (no z) = g.so_far i (omega (arith, h, z))

  pub drivers_end : {k : ℕ} → k ≤ j → MarksDrivers stmts order from k marks
  drivers_end h = record {
    marks_drivers = λ s d a q.
        ap (mark_of marks true) (sym q)
        ∙ ap (λ (x : ℕ). driver_marked stmts marks x true) (sym a.stands)
        ∙ g.so_far a.place (omega (arith, h, a.before));
  }

-- THE PLAN

-- a table that is lent whole
pub planned_whole : (signals exprs stmts order values : List ℕ) (n s : ℕ) {used : ℕ} (o : Option Code) → used ≡ length order → IfSome o (λ c. Planned signals exprs stmts n s c order values) → IfSome o (λ c. Planned signals exprs stmts n s c (take used order) values)
planned_whole signals exprs stmts order values n s {used} None z p = tt
planned_whole signals exprs stmts order values n s {used} (Some c) z p = subst (λ (l : List ℕ). Planned signals exprs stmts n s c l values) (sym (ap (λ (i : ℕ). take i order) z ∙ take-length order)) p

-- the table behind the forms, the registers, the controls, the outputs
module _ (n s : ℕ) (o₁ o₂ o₃ o₄ : List ℕ) (k₂ : take (7 * n) o₂ ≡ take (7 * n) o₁) (k₃ : take (7 * n + s) o₃ ≡ take (7 * n + s) o₂) (k₄ : take (7 * n + s + s) o₄ ≡ take (7 * n + s + s) o₃) where
  formed_listed : take (7 * n) o₄ ≡ take (7 * n) o₁
  formed_listed = take_less {n = 7 * n} {m = 7 * n + s + s} o₄ o₃ (omega arith) k₄ ∙ take_less {n = 7 * n} {m = 7 * n + s} o₃ o₂ (omega arith) k₃ ∙ k₂

  pub listed_formed : {signals exprs stmts : List ℕ} → Formed signals exprs stmts (drop n o₁) n → Formed signals exprs stmts (drop n o₄) n
  listed_formed f = formed_kept (7 * n) o₁ o₄ formed_listed {n = n} (omega arith) f

  registers_listed : take (7 * n + s) o₄ ≡ take (7 * n + s) o₂
  registers_listed = take_less {n = 7 * n + s} {m = 7 * n + s + s} o₄ o₃ (omega arith) k₄ ∙ k₃

  pub listed_registers : {stmts : List ℕ} {r : ℕ} → r ≤ s → Registers stmts o₂ (7 * n) r → Registers stmts o₄ (7 * n) r
  listed_registers h g = registers_kept (7 * n + s) o₂ o₄ registers_listed (omega (arith, h)) g

  -- the first code
  module _ (o₅ : List ℕ) (k₅ : take (7 * n + s + s + s) o₅ ≡ take (7 * n + s + s + s) o₄) where
    pub first_formed : {signals exprs stmts : List ℕ} → Formed signals exprs stmts (drop n o₁) n → Formed signals exprs stmts (drop n o₅) n
    first_formed f = formed_kept (7 * n) o₁ o₅ (take_less {n = 7 * n} {m = 7 * n + s + s + s} o₅ o₄ (omega arith) k₅ ∙ formed_listed) {n = n} (omega arith) f

    -- the second
    module _ (o₆ : List ℕ) (k₆ : take (7 * n + s + s + s + n) o₆ ≡ take (7 * n + s + s + s + n) o₅) where
      less : (m : ℕ) → m ≤ 7 * n + s + s + s → take m o₆ ≡ take m o₄
      less m h = take_less {n = m} {m = 7 * n + s + s + s + n} o₆ o₅ (omega (arith, h)) k₆ ∙ take_less {n = m} {m = 7 * n + s + s + s} o₅ o₄ h k₅

      registers_still : take (7 * n + s) o₆ ≡ take (7 * n + s) o₂
      registers_still = less (7 * n + s) (omega arith) ∙ registers_listed

      controls_still : take (7 * n + s + s) o₆ ≡ take (7 * n + s + s) o₃
      controls_still = less (7 * n + s + s) (omega arith) ∙ k₄

      outputs_still : take (7 * n + s + s + s) o₆ ≡ take (7 * n + s + s + s) o₄
      outputs_still = less (7 * n + s + s + s) (omega arith)

      outputs_place : 7 * n + s + s ≡ outputs_at n s
      outputs_place = omega arith

      first_place : 7 * n + s + s + s ≡ first_at n s
      first_place = omega arith

      second_place : 7 * n + s + s + s + n ≡ second_at n s
      second_place = omega arith

      first_kept : (k e : ℕ) → k ≤ n → Among o₅ (7 * n + s + s + s) k e → Among o₆ (first_at n s) k e
      first_kept k e h a = subst (λ (p : ℕ). Among o₆ p k e) first_place (among_kept (7 * n + s + s + s + n) o₅ o₆ k₆ (omega (arith, h)) a)

      controls_back : (k x : ℕ) → k ≤ s → Among o₆ (controls_at n s) k x → Among o₅ (7 * n + s) k x
      controls_back k x h a = among_kept (7 * n + s + s + s + n) o₆ o₅ (sym k₆) (omega (arith, h)) a

      pub planned_all : {signals exprs stmts values : List ℕ} {base state registers controls outputs first second : ℕ}
          → n ≡ length (records_in exprs) → registers ≤ s → controls ≤ s → outputs ≤ s → first ≤ n
          → 9 * n + 3 * s ≤ length o₆ → length o₆ ≡ length o₅ → base ≡ bits_in exprs → state ≡ bits_in signals → base + state ≤ length values
          → Registers stmts o₂ (7 * n) registers → Controls stmts o₃ (7 * n + s) controls → Outputs signals o₄ (7 * n + s + s) outputs
          → Coded signals exprs stmts n (7 * n + s + s + s) first o₅ → ((e : ℕ) → Loaded stmts e → Among o₅ (7 * n + s + s + s) first e) → ((x d : ℕ) → Among o₅ (7 * n + s) controls x → given assigns (stmts_in stmts) x ≡ Some d → Among o₅ (7 * n + s + s + s) first d)
          → Coded signals exprs stmts n (7 * n + s + s + s + n) second o₆ → ((x d : ℕ) → Among o₆ (7 * n + s + s) outputs x → given assigns (stmts_in stmts) x ≡ Some d → Among o₆ (7 * n + s + s + s + n) second d)
          → Planned signals exprs stmts n s (record { base = base; state = state; registers = registers; controls = controls; outputs = outputs; first = first; second = second }) o₆ values
      planned_all {signals} {exprs} {stmts} {values} {base} {state} {registers} {controls} {outputs} {first} {second} hn hr hc ho hf room same hb hs hv rs cs os coded loaded driven coded₂ shown = record {
        room = room;
        base_is = hb;
        state_is = hs;
        values_room = omega (arith, hb, hs, hv);
        registers = registers_kept (7 * n + s) o₂ o₆ registers_still (omega (arith, hr)) rs;
        controls = record { all_asked = λ number x q a. among_kept (7 * n + s + s) o₃ o₆ controls_still (omega (arith, hc)) (cs.all_asked number x q a) };
        outputs = record { all_outputs = λ x h. subst (λ (p : ℕ). Among o₆ p outputs x) outputs_place (among_kept (7 * n + s + s + s) o₄ o₆ outputs_still (omega (arith, ho)) (os.all_outputs x h)) };
        registers_few = hr;
        controls_few = hc;
        outputs_few = ho;
        first = subst (λ (p : ℕ). Coded signals exprs stmts n p first o₆) first_place (coded_kept (7 * n + s + s + s + n) o₅ o₆ k₆ hn (omega (arith, hf)) same coded);
        second = subst (λ (p : ℕ). Coded signals exprs stmts n p second o₆) second_place coded₂;
        loaded_coded = λ e l. first_kept first e hf (loaded e l);
        controls_coded = λ x d a q. first_kept first d hf (driven x d (controls_back controls x hc a) q);
        outputs_coded = λ x d a q. subst (λ (p : ℕ). Among o₆ p second d) second_place (shown x d (subst (λ (p : ℕ). Among o₆ p outputs x) (sym outputs_place) a) q);
      }

-- THE ORDER is kept by every step
module _ (n s : ℕ) (o₀ o o' : List ℕ) (k : take n o ≡ take n o₀) where
  pub order_by_registers : take (7 * n) o' ≡ take (7 * n) o → take n o' ≡ take n o₀
  order_by_registers z = take_less {n = n} {m = 7 * n} o' o (omega arith) z ∙ k

  pub order_by_controls : take (7 * n + s) o' ≡ take (7 * n + s) o → take n o' ≡ take n o₀
  order_by_controls z = take_less {n = n} {m = 7 * n + s} o' o (omega arith) z ∙ k

  pub order_by_outputs : take (7 * n + s + s) o' ≡ take (7 * n + s + s) o → take n o' ≡ take n o₀
  order_by_outputs z = take_less {n = n} {m = 7 * n + s + s} o' o (omega arith) z ∙ k

  pub order_by_first : take (7 * n + s + s + s) o' ≡ take (7 * n + s + s + s) o → take n o' ≡ take n o₀
  order_by_first z = take_less {n = n} {m = 7 * n + s + s + s} o' o (omega arith) z ∙ k

  pub order_by_second : take (7 * n + s + s + s + n) o' ≡ take (7 * n + s + s + s + n) o → take n o' ≡ take n o₀
  order_by_second z = take_less {n = n} {m = 7 * n + s + s + s + n} o' o (omega arith) z ∙ k
