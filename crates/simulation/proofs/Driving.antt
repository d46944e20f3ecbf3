-- Which expression is assigned to a signal: by walking the statements, and by a table. Assumes nothing.
use Prim.Native.Nat.{ℕ, zero, suc, ◌+◌, ◌<◌}
use mathlib.Core.Path.{◌≡◌, refl, sym, ◌∙◌, ap, subst}
use mathlib.Core.Bool.{Bool, true, false, ◌&&◌}
use mathlib.Core.List.{List, [], ◌∷◌, tail}
use Rattle.std.specs.Prelude.{Option, None, Some}
use native.Mathlib.Omega.{arith}
use native.Mathlib.Decide.{ℕ_discrete}
use lib.Dec.{eqb}
use lib.ListN.{length, get_or, set, replicate, length-set}
use lib.Seq.{get_or-set_same, get_or-set_other}
use borrow.Author.Tests.{eq-eqb, ne_eqb, eqb-true}
use Rattle.bits.specs.Bits.{pick}
use Rattle.recorder.specs.Record.{Stmt, assign, reg}
use Rattle.recorder.specs.Read.{read_stmt, read_all}
use Rattle.recorder.proofs.Roundtrip.{stmt_said}
use Rattle.simulation.specs.Tick.{given, assigns}
use Rattle.simulation.specs.Index.{records_in, stmts_in, clipped, coded, Driven, is_assign, assigns_to, noted}
use Rattle.simulation.proofs.Ands.{and_false, long}
use Rattle.simulation.proofs.Tally.{get_d_zeros}

-- ONE RECORD

-- what assigns nothing is passed over
passed : (o : Option Stmt) (ts : List Stmt) (s : ℕ) → ((x : Stmt) → o ≡ Some x → assigns x ≡ None) → given assigns (elim o as (λ (p : Option Stmt). List Stmt) [ None ↦ ts | Some x ↦ x ∷ ts ]) s ≡ given assigns ts s
passed None ts s h = refl
passed (Some (assign t e)) ts s h = let z : ◌≡◌ {A = ℕ} 0 1 = cc (h (assign t e) refl) in absurd (omega arith)
passed (Some (reg t n c d r e)) ts s h = same (eqb t s)
  where
    same : (b : Bool) → pick b (given assigns ts s) (given assigns ts s) ≡ given assigns ts s
    same true = refl
    same false = refl

-- a record of a kind other than 0 assigns nothing
other_kind : (k : ℕ) (l : List ℕ) → (k ≡ 0 → ⊥) → (x : Stmt) → read_stmt (k ∷ l) ≡ Some x → assigns x ≡ None
other_kind k l d (reg t n c p r e) h = refl
other_kind k l d (assign t e) h = let z : ◌≡◌ {A = ℕ} k 0 = ap (λ (ws : List ℕ). get_or (tail ws) 0 0) (sym (stmt_said (k ∷ l) h)) in absurd (d z)

no_assign : (k : ℕ) (l : List ℕ) (s : ℕ) → (k ≡ 0 → ⊥) → assigns_to s (k ∷ l) ≡ false
no_assign k l s d = ap (λ (b : Bool). (eqb (suc (length l)) 3 && b) && eqb (get_or l 0 0) s) (ne_eqb k 0 d) ∙ ap (λ (b : Bool). b && eqb (get_or l 0 0) s) (and_false (eqb (suc (length l)) 3))

pub given_step : (s : ℕ) (r : List ℕ) (rs : List (List ℕ)) → given assigns (read_all read_stmt (r ∷ rs)) s ≡ pick (assigns_to s r) (Some (get_or r 2 0)) (given assigns (read_all read_stmt rs) s)
given_step s [] rs = refl
given_step s (zero ∷ []) rs = refl
given_step s (zero ∷ t ∷ []) rs = refl
given_step s (zero ∷ t ∷ e ∷ []) rs = refl
given_step s (zero ∷ t ∷ e ∷ x ∷ l) rs =
    sym (ap (λ (b : Bool). pick (b && eqb t s) (Some e) (given assigns (read_all read_stmt rs) s)) (sym (long (suc (suc (suc (suc (length l))))) 3 true (omega arith))))
given_step s (suc k ∷ l) rs =
    passed (read_stmt (suc k ∷ l)) (read_all read_stmt rs) s (other_kind (suc k) l (λ z. absurd (omega arith)))
    ∙ sym (ap (λ (b : Bool). pick b (Some (get_or (suc k ∷ l) 2 0)) (given assigns (read_all read_stmt rs) s)) (no_assign (suc k) l s (λ z. absurd (omega arith))))

-- WALKING

-- what is still to be found is what there is to find
pub record Driving (l : List ℕ) (rest : List (List ℕ)) (s : ℕ) : Type 0 where
  pub sought : given assigns (read_all read_stmt rest) s ≡ given assigns (stmts_in l) s

module _ {l : List ℕ} {rest : List (List ℕ)} {s : ℕ} (w : Driving l rest s) where
  module _ {r : List ℕ} {rest' : List (List ℕ)} (q : rest ≡ r ∷ rest') where
    driving_step : pick (assigns_to s r) (Some (get_or r 2 0)) (given assigns (read_all read_stmt rest') s) ≡ given assigns (stmts_in l) s
    driving_step = sym (ap (λ (rs : List (List ℕ)). given assigns (read_all read_stmt rs) s) q ∙ given_step s r rest') ∙ w.sought

    pub driving_next : assigns_to s r ≡ false → Driving l rest' s
    driving_next h = record { sought = sym (ap (λ (b : Bool). pick b (Some (get_or r 2 0)) (given assigns (read_all read_stmt rest') s)) h) ∙ driving_step }

    pub driving_here : assigns_to s r ≡ true → Some (get_or r 2 0) ≡ given assigns (stmts_in l) s
    driving_here h = sym (ap (λ (b : Bool). pick b (Some (get_or r 2 0)) (given assigns (read_all read_stmt rest') s)) h) ∙ driving_step

-- THE TABLE

-- what is noted already, or else what comes
abbrev pub known : ℕ → Option ℕ → ℕ
known v o = pick (eqb v 0) (coded o) v

pub record Noting (l : List ℕ) (rest : List (List ℕ)) (table : List ℕ) : Type 0 where
  pub so_far : (i : ℕ) → i < length table → known (get_or table i 0) (given assigns (read_all read_stmt rest) i) ≡ coded (given assigns (stmts_in l) i)

pub noting_start : (l : List ℕ) (n : ℕ) → Noting l (records_in l) (replicate n 0)
noting_start l n = record { so_far = λ i h. ap (λ (v : ℕ). known v (given assigns (stmts_in l) i)) (get_d_zeros n i) }

known_set : (e : ℕ) (o : Option ℕ) → known (clipped (e + 1)) o ≡ clipped (e + 1)
known_set e o = ap (λ (b : Bool). pick b (coded o) (clipped (e + 1))) (ne_eqb (clipped (e + 1)) 0 (λ z. absurd (omega arith)))

known_none : (v : ℕ) → known v None ≡ v
known_none v = go (eqb v 0) refl
  where
    go : (b : Bool) → eqb v 0 ≡ b → pick b 0 v ≡ v
    go true e = sym (eqb-true v 0 e)
    go false e = refl

module _ (r table : List ℕ) (i : ℕ) (h : i < length table) (o : Option ℕ) where
  abbrev t : ℕ
  t = get_or r 1 0

  abbrev e : ℕ
  e = get_or r 2 0

  abbrev Same : Bool → Bool → Bool → Type 0
  Same a z x = known (get_or (pick (a && z) (set table t (clipped (e + 1))) table) i 0) o ≡ known (get_or table i 0) (pick (a && x) (Some e) o)

  -- another signal's
  elsewhere : (a z : Bool) → (i ≡ t → ⊥) → Same a z false
  elsewhere false z d = refl
  elsewhere true false d = refl
  elsewhere true true d = ap (λ (v : ℕ). known v o) (get_or-set_other table t i (clipped (e + 1)) 0 d)

  -- its own
  at_home : (a z : Bool) → i ≡ t → eqb (get_or table t 0) 0 ≡ z → Same a z true
  at_home false z d q = refl
  at_home true true d q =
      ap (λ (v : ℕ). known v o) (ap (λ (j : ℕ). get_or (set table t (clipped (e + 1))) j 0) d ∙ get_or-set_same table t (clipped (e + 1)) 0 (subst (λ (j : ℕ). j < length table) d h))
      ∙ known_set e o
      ∙ sym (ap (λ (v : ℕ). known v (Some e)) (ap (λ (j : ℕ). get_or table j 0) d ∙ eqb-true (get_or table t 0) 0 q))
  at_home true false d q =
      let n : eqb (get_or table i 0) 0 ≡ false = ap (λ (j : ℕ). eqb (get_or table j 0) 0) d ∙ q in
      ap (λ (b : Bool). pick b (coded o) (get_or table i 0)) n ∙ sym (ap (λ (b : Bool). pick b (coded (Some e)) (get_or table i 0)) n)

  noted_at : known (get_or (noted r table) i 0) o ≡ known (get_or table i 0) (pick (assigns_to i r) (Some e) o)
  noted_at = go (ℕ_discrete i t)
    where
      go : Dec (i ≡ t) → known (get_or (noted r table) i 0) o ≡ known (get_or table i 0) (pick (assigns_to i r) (Some e) o)
      go (yes d) = at_home (is_assign r) (eqb (get_or table t 0) 0) d refl ∙ ap (λ (b : Bool). known (get_or table i 0) (pick (is_assign r && b) (Some e) o)) (sym (eq-eqb t i (sym d)))
      go (no d) = elsewhere (is_assign r) (eqb (get_or table t 0) 0) d ∙ ap (λ (b : Bool). known (get_or table i 0) (pick (is_assign r && b) (Some e) o)) (sym (ne_eqb t i (λ z. d (sym z))))

pub noted_length : (r table : List ℕ) → length (noted r table) ≡ length table
noted_length r table = go (is_assign r && eqb (get_or table (get_or r 1 0) 0) 0)
  where
    go : (b : Bool) → length (pick b (set table (get_or r 1 0) (clipped (get_or r 2 0 + 1))) table) ≡ length table
    go true = length-set table (get_or r 1 0) (clipped (get_or r 2 0 + 1))
    go false = refl

pub noting_next : {l : List ℕ} {rest : List (List ℕ)} {table : List ℕ} → Noting l rest table → (r : List ℕ) (rest' : List (List ℕ)) → rest ≡ r ∷ rest' → {table' : List ℕ} → table' ≡ noted r table → Noting l rest' table'
noting_next {l} {rest} {table} w r rest' e {table'} q = subst (λ (x : List ℕ). Noting l rest' x) (sym q) (record {
  so_far = λ i h.
      let k = subst (λ (n : ℕ). i < n) (noted_length r table) h in
      noted_at r table i k (given assigns (read_all read_stmt rest') i)
      ∙ ap (known (get_or table i 0)) (sym (ap (λ (rs : List (List ℕ)). given assigns (read_all read_stmt rs) i) e ∙ given_step i r rest'))
      ∙ w.so_far i k;
})

pub noting_end : {l : List ℕ} {rest : List (List ℕ)} {table : List ℕ} → Noting l rest table → rest ≡ [] → Driven l table
noting_end {l} {rest} {table} w e = record {
  driver_at = λ s h. sym (known_none (get_or table s 0)) ∙ ap (λ (rs : List (List ℕ)). known (get_or table s 0) (given assigns (read_all read_stmt rs) s)) (sym e) ∙ w.so_far s h;
}
