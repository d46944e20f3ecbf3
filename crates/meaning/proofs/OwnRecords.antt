-- A cell's records work on the constants and on the cell's own records alone.
-- Assumes nothing.
use mathlib.Core.Path.{◌≡◌, refl, sym, subst}
use mathlib.Core.Logic.{inl, inr}
use mathlib.Core.Bool.{Bool, true, false, ◌||◌, ◌&&◌}
use mathlib.Core.List.{List, [], ◌∷◌, ◌++◌}
use Rattle.std.specs.Prelude.{Option, None, Some}
use Prim.Native.Nat.{ℕ, zero, suc, ◌+◌, ◌≤◌}
use native.Mathlib.Omega.{arith}
use lib.Dec.{eqb}
use lib.Bits.{bit_xor}
use lib.ListN.{length, get_or, take, drop}
use Rattle.bits.specs.Bits.{pick}
use Rattle.netlist.specs.declared.Bit.{Bit}
use Rattle.netlist.specs.declared.Bit.TheVariants.{Zero, One, Wire}
use Rattle.netlist.specs.declared.Control.{Control}
use Rattle.netlist.specs.Netlist.{Ccu2c, SecondPort, BlockRam, DistributedRam, Pll, Cell, lut4, pfumx, l6mux21, ccu2c, multiplier, flip_flop, block_ram, distributed_ram, io, jtagg, pll}
use Rattle.netlist.specs.Reader.{address_width, shift_of}
use Rattle.behaviour.specs.Behaviour.{shift_in}
use Rattle.recorder.specs.Record.{Signal, Expr, Stmt}
use Rattle.recorder.specs.Writer.{Event, Event.signal, Event.expr, Event.stmt, exprs_of, stmts_of, Count, further, End, End.ok, End.no, Writer, pure, refuse, declare, emit, state, after, ◌>>=◌}
use Rattle.recorder.specs.Meaning.{Ends}
use Rattle.recorder.proofs.Events.{exprs_append, stmts_append}
use Rattle.optimize.specs.declared.optimizer.Rewrite.{Rewrite}
use Rattle.optimize.specs.Rewrite.{emit_rewrite, xor_of, mux_of}
use Rattle.optimize.specs.Lut.{low_of, high_of, full_table, join_cofactors, lut_cofactor}
use Rattle.optimize.proofs.Muxes.{by_test}
use Rattle.wires.specs.declared.Constants.{Constants}
use Rattle.wires.specs.Seen.{Seen, nothing_seen, standing, Reading, keeping, forgetting}
use Rattle.wires.specs.Wires.{WireRef, Wires}
use Rattle.wires.specs.Expressions.{ref_of, wire_ref, bit_expression, whole, bit_signal, read_once, bit_once, asserted_once, concat_parts, vector_parts, vector_once, read_bits, assign_wire}
use Rattle.cells.specs.Cells.{emit_multiplier, emit_lut4, emit_pfumx, emit_l6mux21, emit_io, ccu_row, emit_ccu2c, assign_all, emit_idle_jtagg, pll_clocks, emit_cycle_pll}
use Rattle.address_mux.specs.AddressMux.{Node, mux_level, mux_levels}
use Rattle.memories.specs.Memories.{Word, PortExprs, gate, write_word, write_second, ram_word, ram_words, candidates_from, enable_of, own_read, own_expression, next_read, emit_block_ram_read_port, emit_second_read_port, update_words, second_output, second_exprs, emit_block_ram, dram_words, dram_select, emit_distributed_ram}
use Rattle.lowering.specs.Emit.{emit_cell}
use Rattle.meaning.specs.Shared.{operands, OfTheCell, AllOf, WorkOn, values, Take, NothingFromOthers}
use Rattle.meaning.proofs.Standing.{AllStand, nothing_stands, noted_stand}

-- THE LOGIC

work_append : (f : ℕ) (xs ys : List Expr) → WorkOn f xs → WorkOn f ys → WorkOn f (xs ++ ys)
work_append f [] ys h g = g
work_append f (x ∷ xs) ys h g = (h.0, work_append f xs ys h.1 g)

take_append : (f : ℕ) (xs ys : List Stmt) → Take f xs → Take f ys → Take f (xs ++ ys)
take_append f [] ys h g = g
take_append f (x ∷ xs) ys h g = (h.0, take_append f xs ys h.1 g)

counted : (n : Count) (es : List Event) → n.exprs ≤ (further n es).exprs
counted n [] = omega arith
counted n (signal s ∷ es) = omega (arith, counted (record { signals = n.signals + 1; exprs = n.exprs; stmts = n.stmts }) es)
counted n (expr x ∷ es) = omega (arith, counted (record { signals = n.signals; exprs = n.exprs + 1; stmts = n.stmts }) es)
counted n (stmt t ∷ es) = omega (arith, counted (record { signals = n.signals; exprs = n.exprs; stmts = n.stmts + 1 }) es)

-- its records are the cell's own
abbrev Owned : ℕ → List Event → Type 0
Owned f es = WorkOn f (exprs_of es) × Take f (stmts_of es)

-- from the cell's first expression on: such records, and a result as P says
record Local (f : ℕ) {A : Type 0} (w : Writer A) (P : A → Type 0) : Type 0 where
  local : (n : Count) → f ≤ n.exprs → Owned f (w n).events × Ends (w n).end P

module _ {f : ℕ} where
  local_pure : {A : Type 0} {a : A} {P : A → Type 0} → P a → Local f (pure a) P
  local_pure h = record { local = λ n q. ((tt, tt), h) }

  local_refuse : {A : Type 0} {a b : ℕ} {P : A → Type 0} → Local f (refuse {A = A} a b) P
  local_refuse = record { local = λ n q. ((tt, tt), tt) }

  local_emit : {x : Expr} → AllOf f (operands x) → Local f (emit x) (OfTheCell f)
  local_emit h = record { local = λ n q. (((h, tt), tt), inr q) }

  local_declare : {s : Signal} → Local f (declare s) (λ i. Unit {0})
  local_declare = record { local = λ n q. ((tt, tt), tt) }

  local_state : {t : Stmt} → AllOf f (values t) → Local f (state t) (λ u. Unit {0})
  local_state h = record { local = λ n q. ((tt, (h, tt)), tt) }

module _ {f : ℕ} {A B : Type 0} {w : Writer A} {k : A → Writer B} {P : A → Type 0} {Q : B → Type 0} where
  local_bind : Local f w P → ((a : A) → P a → Local f (k a) Q) → Local f (w >>= k) Q
  unfolding ◌>>=◌
  local_bind h g = record { local = λ n q. go n q (w n).end (h.local n q).0 (h.local n q).1 }
    where
      go : (n : Count) → f ≤ n.exprs → (y : End A) → Owned f (w n).events → Ends y P → Owned f (after (w n).events y (further n (w n).events) k).events × Ends (after (w n).events y (further n (w n).events) k).end Q
      go n q (ok a) u e =
          let r = (g a e).local (further n (w n).events) (omega (arith, q, counted n (w n).events)) in (
            (
              subst (WorkOn f) (sym (exprs_append (w n).events (k a (further n (w n).events)).events)) (work_append f (exprs_of (w n).events) (exprs_of (k a (further n (w n).events)).events) u.0 r.0.0),
              subst (Take f) (sym (stmts_append (w n).events (k a (further n (w n).events)).events)) (take_append f (stmts_of (w n).events) (stmts_of (k a (further n (w n).events)).events) u.1 r.0.1),
            ),
            r.1,
          )
      go n q (no x y) u e = (u, tt)

-- READS

-- what stands is of the cell
record Stood (f : ℕ) (seen : Seen) : Type 0 where
  all : AllStand (λ (w e : ℕ). OfTheCell f e) seen

abbrev Once : ℕ → Reading ℕ → Type 0
Once f r = OfTheCell f r.value × Stood f r.seen

module _ {f : ℕ} where
  zero_is : OfTheCell f 0
  zero_is = inl (omega arith)

  one_is : OfTheCell f 1
  one_is = inl (omega arith)

  keep_local : {A : Type 0} {w : Writer A} {P : A → Type 0} (seen : Seen) → Stood f seen → Local f w P → Local f (keeping seen w) (λ r. P r.value × Stood f r.seen)
  keep_local seen stood h = local_bind h (λ a p. local_pure (p, stood))

  last_local : {A : Type 0} {w : Writer A} {P : A → Type 0} (seen : Seen) → Local f w P → Local f (keeping seen w) (λ r. Unit {0})
  last_local seen h = local_bind h (λ a p. local_pure tt)

  forget_local : {A : Type 0} {w : Writer (Reading A)} {P : Reading A → Type 0} → Local f w P → Local f (forgetting w) (λ a. Unit {0})
  forget_local h = local_bind h (λ a p. local_pure tt)

  stood_nothing : (k : ℕ) → Stood f (nothing_seen k)
  stood_nothing k = record { all = nothing_stands (λ (w e : ℕ). OfTheCell f e) k }

  all_snoc : (es : List ℕ) (e : ℕ) → AllOf f es → OfTheCell f e → AllOf f (es ++ (e ∷ []))
  all_snoc [] e h g = (g, tt)
  all_snoc (x ∷ es) e h g = (h.0, all_snoc es e h.1 g)

  all_get : (es : List ℕ) (i : ℕ) → AllOf f es → OfTheCell f (get_or es i 0)
  all_get [] i h = zero_is
  all_get (e ∷ es) zero h = h.0
  all_get (e ∷ es) (suc i) h = all_get es i h.1

module _ {f : ℕ} (m : Wires) where
  local_ref : (w : ℕ) → Local f (wire_ref m w) (λ r. Unit {0})
  unfolding wire_ref
  local_ref w = go (m w)
    where
      go : (o : Option WireRef) → Local f (ref_of o w) (λ r. Unit {0})
      go None = local_refuse
      go (Some r) = local_pure tt

  local_bit : (b : Bit) → Local f (bit_expression m b) (OfTheCell f)
  unfolding bit_expression
  local_bit Zero = local_pure zero_is
  local_bit One = local_pure one_is
  local_bit (Wire w) = local_bind (local_ref w) (λ r u. local_emit tt)

  local_signal : (z : Constants) (b : Bit) → Local f (bit_signal m z b) (λ s. Unit {0})
  unfolding bit_signal
  local_signal z Zero = local_pure tt
  local_signal z One = local_pure tt
  local_signal z (Wire w) = local_bind (local_ref w) (λ r u. by_test (λ (x : Writer ℕ). Local f x (λ s. Unit {0})) (whole r) (λ q. local_pure tt) (λ q. local_refuse))

  local_once : {seen : Seen} → Stood f seen → (b : Bit) → Local f (bit_once m seen b) (Once f)
  unfolding bit_once
  local_once stood Zero = local_pure (zero_is, stood)
  local_once stood One = local_pure (one_is, stood)
  local_once {seen} stood (Wire w) = go (standing seen w) refl
    where
      go : (o : Option ℕ) → standing seen w ≡ o → Local f (read_once o m seen w) (Once f)
      go None q = local_bind (local_bit (Wire w)) (λ e h. local_pure (h, record { all = noted_stand (λ (v d : ℕ). OfTheCell f d) seen w e stood.all h }))
      go (Some e) q = local_pure (stood.all w e q, stood)

  local_asserted : {seen : Seen} → Stood f seen → (c : Control) → Local f (asserted_once m seen c) (Once f)
  unfolding asserted_once
  local_asserted stood c = local_bind (local_once stood c.signal) (λ r h. keep_local r.seen h.1 (by_test (λ (x : Writer ℕ). Local f x (OfTheCell f)) (eqb c.active 1) (λ q. local_pure h.0) (λ q. local_emit (h.0, tt))))

  local_concat : (ps : List ℕ) → AllOf f ps → Local f (concat_parts ps) (OfTheCell f)
  unfolding concat_parts
  local_concat [] h = local_emit tt
  local_concat (e ∷ []) h = local_pure h.0
  local_concat (e ∷ g ∷ es) h = local_emit h

  local_parts : {seen : Seen} → Stood f seen → (bits : List Bit) (at k : ℕ) (ps : List ℕ) → AllOf f ps → Local f (vector_parts m seen bits at k ps) (λ r. AllOf f r.value × Stood f r.seen)
  unfolding vector_parts
  local_parts stood bits at zero ps h = local_pure (h, stood)
  local_parts stood bits at (suc k) ps h = local_bind (local_once stood (get_or bits (at + k) Zero)) (λ r g. local_parts g.1 bits at k (ps ++ (r.value ∷ [])) (all_snoc ps r.value h g.0))

  local_vector : {seen : Seen} → Stood f seen → (bits : List Bit) (at k : ℕ) → Local f (vector_once m seen bits at k) (Once f)
  unfolding vector_once
  local_vector stood bits at k = local_bind (local_parts stood bits at k [] tt) (λ r h. keep_local r.seen h.1 (local_concat r.value h.0))

  local_reads : {seen : Seen} → Stood f seen → (bits : List Bit) (ps : List ℕ) → AllOf f ps → Local f (read_bits m seen bits ps) (λ r. AllOf f r.value × Stood f r.seen)
  unfolding read_bits
  local_reads stood [] ps h = local_pure (h, stood)
  local_reads stood (b ∷ bs) ps h = local_bind (local_once stood b) (λ r g. local_reads g.1 bs (ps ++ (r.value ∷ [])) (all_snoc ps r.value h g.0))

  local_assign : (w e : ℕ) → OfTheCell f e → Local f (assign_wire m w e) (λ u. Unit {0})
  unfolding assign_wire
  local_assign w e h = local_bind (local_ref w) (λ r u. local_state (h, tt))

-- REWRITES AND TABLES

module _ {f : ℕ} where
  local_mux : {s t e : ℕ} → OfTheCell f s → OfTheCell f t → OfTheCell f e → Local f (mux_of s t e) (OfTheCell f)
  unfolding mux_of emit_rewrite
  local_mux {s} {t} {e} hs ht he =
      by_test R (eqb s 0) (λ q. local_pure he) (λ n₁. by_test R (eqb s 1 || eqb t e) (λ q. local_pure ht) (λ n₂. by_test R (eqb e 0 && eqb t 1) (λ q. local_pure hs) (λ n₃.
      by_test R (eqb e 1 && eqb t 0) (λ q. local_emit (hs, tt)) (λ n₄. by_test R (eqb e 0) (λ q. local_emit (hs, (ht, tt))) (λ n₅. by_test R (eqb t 1) (λ q. local_emit (hs, (he, tt))) (λ n₆.
      by_test R (eqb t 0) (λ q. local_bind (local_emit (hs, tt)) (λ i h. local_emit (h, (he, tt)))) (λ n₇.
      by_test R (eqb e 1) (λ q. local_bind (local_emit (hs, tt)) (λ i h. local_emit (h, (ht, tt)))) (λ n₈. local_emit (hs, (ht, (he, tt)))))))))))
    where
      R : Rewrite → Type 0
      R r = Local f (unfold emit_rewrite in emit_rewrite r) (OfTheCell f)

  local_xor : {a b : ℕ} → OfTheCell f a → OfTheCell f b → Local f (xor_of a b) (OfTheCell f)
  unfolding xor_of emit_rewrite
  local_xor {a} {b} ha hb =
      by_test R (eqb a b) (λ q. local_pure zero_is) (λ n₁. by_test R (eqb a 0) (λ q. local_pure hb) (λ n₂. by_test R (eqb b 0) (λ q. local_pure ha) (λ n₃.
      by_test R (eqb a 1) (λ q. local_emit (hb, tt)) (λ n₄. by_test R (eqb b 1) (λ q. local_emit (ha, tt)) (λ n₅. local_emit (ha, (hb, tt)))))))
    where
      R : Rewrite → Type 0
      R r = Local f (unfold emit_rewrite in emit_rewrite r) (OfTheCell f)

  local_lut : (xs : List ℕ) (t : ℕ) → AllOf f xs → Local f (lut_cofactor xs t) (OfTheCell f)
  unfolding lut_cofactor join_cofactors
  local_lut [] t h = by_test (λ (w : Writer ℕ). Local f w (OfTheCell f)) (eqb t 0) (λ q. local_pure zero_is) (λ q. local_pure one_is)
  local_lut (x ∷ xs) t h =
      by_test R (eqb t 0) (λ q. local_pure zero_is) (λ n₁. by_test R (eqb t (full_table (suc (length xs)))) (λ q. local_pure one_is) (λ n₂.
      by_test R (eqb x 0) (λ q. local_lut xs (low_of t) h.1) (λ n₃. by_test R (eqb x 1) (λ q. local_lut xs (high_of t) h.1) (λ n₄.
      local_bind (local_lut xs (low_of t) h.1) (λ l hl. by_test R (eqb (low_of t) (high_of t)) (λ q. local_pure hl) (λ n₅.
      by_test R (eqb (bit_xor (low_of t) (high_of t)) (full_table (length xs))) (λ q. local_xor h.0 hl) (λ n₆.
      local_bind (local_lut xs (high_of t) h.1) (λ k hk. local_mux h.0 hk hl))))))))
    where
      R : Writer ℕ → Type 0
      R w = Local f w (OfTheCell f)

-- SMALL CELLS

module _ {f : ℕ} (m : Wires) {seen : Seen} (stood : Stood f seen) where
  local_multiplier : (l r : List Bit) (p : List ℕ) → Local f (emit_multiplier m seen l r p) (λ u. Unit {0})
  unfolding emit_multiplier
  local_multiplier l r p = local_bind (local_vector m stood l 0 36) (λ a ha. local_bind (local_vector m ha.1 r 0 36) (λ b hb. local_bind (local_emit (ha.0, (hb.0, tt))) (λ v hv. last_local _ (local_assign m (get_or p 0 0) v hv))))

  local_lut4 : (i : List Bit) (o t : ℕ) → Local f (emit_lut4 m seen i o t) (λ u. Unit {0})
  unfolding emit_lut4
  local_lut4 i o t = local_bind (local_reads m stood i [] tt) (λ es h. local_bind (local_lut es.value t h.0) (λ v hv. last_local _ (local_assign m o v hv)))

  local_pfumx : (h l s : Bit) (o : ℕ) → Local f (emit_pfumx m seen h l s o) (λ u. Unit {0})
  unfolding emit_pfumx
  local_pfumx h l s o = local_bind (local_once m stood s) (λ a ha. local_bind (local_once m ha.1 h) (λ b hb. local_bind (local_once m hb.1 l) (λ c hc. local_bind (local_mux ha.0 hb.0 hc.0) (λ v hv. last_local _ (local_assign m o v hv)))))

  local_l6mux21 : (l h s : Bit) (o : ℕ) → Local f (emit_l6mux21 m seen l h s o) (λ u. Unit {0})
  unfolding emit_l6mux21
  local_l6mux21 l h s o = local_bind (local_once m stood s) (λ a ha. local_bind (local_once m ha.1 l) (λ b hb. local_bind (local_once m hb.1 h) (λ c hc. local_bind (local_mux ha.0 hc.0 hb.0) (λ v hv. last_local _ (local_assign m o v hv)))))

  local_io : (p : ℕ) (d : Bit) (i : ℕ) (t : Bit) → Local f (emit_io m seen p d i t) (λ u. Unit {0})
  unfolding emit_io
  local_io p d i t = local_bind (local_once m stood (Wire p)) (λ a ha. local_bind (local_once m ha.1 d) (λ b hb. local_bind (local_once m hb.1 t) (λ c hc. local_bind (local_mux hc.0 ha.0 hb.0) (λ v hv. last_local _ (local_assign m i v hv)))))

module _ {f : ℕ} (m : Wires) where
  local_row : {seen : Seen} → Stood f seen → (i : List Bit) (t j s c : ℕ) → OfTheCell f c → Local f (ccu_row m seen i t j s c) (Once f)
  unfolding ccu_row
  local_row stood i t j s c hc =
      local_bind (local_reads m stood i [] tt) (λ es h.
      local_bind (local_lut es.value t h.0) (λ l hl.
      local_bind (local_lut (get_or es.value 0 0 ∷ get_or es.value 1 0 ∷ 0 ∷ 0 ∷ []) t (all_get es.value 0 h.0, (all_get es.value 1 h.0, (zero_is, (zero_is, tt))))) (λ k hk.
      let g : OfTheCell f (pick (eqb j 1) 0 c) = by_test (OfTheCell f) (eqb j 1) (λ q. zero_is) (λ q. hc) in
      local_bind (local_xor hl g) (λ x hx.
      local_bind (local_assign m s x hx) (λ u v. keep_local es.seen h.1 (local_mux hl g hk))))))

  local_ccu2c : {seen : Seen} → Stood f seen → (u : Ccu2c) → Local f (emit_ccu2c m seen u) (λ u. Unit {0})
  unfolding emit_ccu2c
  local_ccu2c stood u =
      local_bind (local_once m stood u.carry_in) (λ c₀ h₀.
      local_bind (local_row h₀.1 u.row0 u.init0 u.inject0 u.sum0 c₀.value h₀.0) (λ c₁ h₁.
      local_bind (local_row h₁.1 u.row1 u.init1 u.inject1 u.sum1 c₁.value h₁.0) (λ c₂ h₂. last_local _ (local_assign m u.carry c₂.value h₂.0))))

  local_all : (ws : List ℕ) (e : ℕ) → OfTheCell f e → Local f (assign_all m ws e) (λ u. Unit {0})
  unfolding assign_all
  local_all [] e h = local_pure tt
  local_all (w ∷ ws) e h = local_bind (local_assign m w e h) (λ u v. local_all ws e h)

  local_jtagg : (ws : List ℕ) → Local f (emit_idle_jtagg m ws) (λ u. Unit {0})
  unfolding emit_idle_jtagg
  local_jtagg ws = local_bind (local_all (take 6 ws ++ drop 7 ws) 0 zero_is) (λ u v. local_assign m (get_or ws 6 0) 1 one_is)

  local_unless : (b : Bool) (w e : ℕ) → OfTheCell f e → Local f (pick b (pure tt) (assign_wire m w e)) (λ u. Unit {0})
  local_unless true w e h = local_pure tt
  local_unless false w e h = local_assign m w e h

  local_clocks : (g o : ℕ) (ws : List ℕ) (e : ℕ) → OfTheCell f e → Local f (pll_clocks m g o ws e) (λ u. Unit {0})
  unfolding pll_clocks
  local_clocks g o [] e h = local_pure tt
  local_clocks g o (w ∷ ws) e h = local_bind (local_unless (eqb w g || eqb w o) w e h) (λ u v. local_clocks g o ws e h)

  local_pll : (p : Pll) → Local f (emit_cycle_pll m p) (λ u. Unit {0})
  unfolding emit_cycle_pll
  local_pll p =
      local_bind (local_bit m p.reference) (λ e h. local_bind (local_assign m p.feedback e h) (λ u v. local_bind (local_unless (eqb p.output p.feedback) p.output e h) (λ u v.
      local_bind (local_clocks p.feedback p.output p.more e h) (λ u v. local_assign m p.locked 1 one_is))))

-- MEMORIES

unfoldable OfNodes : ℕ → List Node → Type 0
OfNodes f [] = Unit {0}
OfNodes f (n ∷ ns) = (OfTheCell f n.matched × OfTheCell f n.value) × OfNodes f ns

unfoldable OfWords : ℕ → List Word → Type 0
OfWords f [] = Unit {0}
OfWords f (w ∷ ws) = (OfTheCell f w.current × OfTheCell f w.next) × OfWords f ws

unfoldable OfOption : ℕ → Option ℕ → Type 0
OfOption f None = Unit {0}
OfOption f (Some e) = OfTheCell f e

record OfPort (f : ℕ) (p : PortExprs) : Type 0 where
  write_address : OfTheCell f p.write_address
  write_data : OfTheCell f p.write_data
  write_asserted : OfTheCell f p.write_asserted
  read_address : OfTheCell f p.read_address
  clock_enabled : OfOption f p.clock_enabled

unfoldable OfSecond : ℕ → Option PortExprs → Type 0
OfSecond f None = Unit {0}
OfSecond f (Some p) = OfPort f p

module _ {f : ℕ} where
  nodes_snoc : (ns : List Node) (n : Node) → OfNodes f ns → OfTheCell f n.matched → OfTheCell f n.value → OfNodes f (ns ++ (n ∷ []))
  unfolding OfNodes
  nodes_snoc [] n h a b = ((a, b), tt)
  nodes_snoc (x ∷ ns) n h a b = (h.0, nodes_snoc ns n h.1 a b)

  words_snoc : (ws : List Word) (w : Word) → OfWords f ws → OfTheCell f w.current × OfTheCell f w.next → OfWords f (ws ++ (w ∷ []))
  unfolding OfWords
  words_snoc [] w h a = (a, tt)
  words_snoc (x ∷ ws) w h a = (h.0, words_snoc ws w h.1 a)

  local_level : (width : ℕ) (ns next : List Node) → OfNodes f ns → OfNodes f next → Local f (mux_level width ns next) (OfNodes f)
  unfolding mux_level OfNodes
  local_level width [] next h k = local_pure k
  local_level width (l ∷ []) next h k = local_pure (nodes_snoc next l k h.0.0 h.0.1)
  local_level width (l ∷ r ∷ ns) next h k =
      local_bind (local_emit (h.0.0, (h.1.0.0, tt))) (λ a ha. local_bind (local_emit (h.1.0.0, (h.1.0.1, (h.0.1, tt)))) (λ v hv.
      local_level width ns (next ++ (record { matched = a; value = v } ∷ [])) h.1.1 (nodes_snoc next (record { matched = a; value = v }) k ha hv)))

  local_levels : (fuel width : ℕ) (ns : List Node) (e : ℕ) → OfNodes f ns → OfTheCell f e → Local f (mux_levels fuel width ns e) (OfTheCell f)
  unfolding mux_levels OfNodes
  local_levels zero width [] e h k = local_pure k
  local_levels zero width (n ∷ []) e h k = local_emit (h.0.0, (h.0.1, (k, tt)))
  local_levels zero width (l ∷ r ∷ ns) e h k = local_bind (local_level width (l ∷ r ∷ ns) [] h tt) (λ next q. local_pure k)
  local_levels (suc fuel) width [] e h k = local_pure k
  local_levels (suc fuel) width (n ∷ []) e h k = local_emit (h.0.0, (h.0.1, (k, tt)))
  local_levels (suc fuel) width (l ∷ r ∷ ns) e h k = local_bind (local_level width (l ∷ r ∷ ns) [] h tt) (λ next q. local_levels fuel width next e q k)

  local_write : (p : PortExprs) (width aw index now : ℕ) → OfPort f p → OfTheCell f now → Local f (write_word p width aw index now) (OfTheCell f)
  unfolding write_word
  local_write p width aw index now h k =
      local_bind (local_emit tt) (λ c hc. local_bind (local_emit (h.write_address, (hc, tt))) (λ e he. local_bind (local_emit (h.write_asserted, (he, tt))) (λ y hy. local_emit (hy, (h.write_data, (k, tt))))))

  local_second : (o : Option PortExprs) (width aw index now : ℕ) → OfSecond f o → OfTheCell f now → Local f (write_second o width aw index now) (OfTheCell f)
  unfolding OfSecond
  local_second None width aw index now h k = local_pure k
  local_second (Some p) width aw index now h k = local_write p width aw index now h k

  local_word : (a : PortExprs) (b : Option PortExprs) (owner width aw index : ℕ) → OfPort f a → OfSecond f b → Local f (ram_word a b owner width aw index) (λ w. OfTheCell f w.current × OfTheCell f w.next)
  unfolding ram_word
  local_word a b owner width aw index ha hb =
      local_bind local_declare (λ s u. local_bind (local_emit tt) (λ q hq. local_bind (local_write a width aw index q ha hq) (λ n hn. local_bind (local_second b width aw index n hb hn) (λ n₂ h₂. local_pure (hq, h₂)))))

  local_words : (a : PortExprs) (b : Option PortExprs) (owner width aw left index : ℕ) (ws : List Word) → OfPort f a → OfSecond f b → OfWords f ws → Local f (ram_words a b owner width aw left index ws) (OfWords f)
  unfolding ram_words
  local_words a b owner width aw zero index ws ha hb h = local_pure h
  local_words a b owner width aw (suc left) index ws ha hb h = local_bind (local_word a b owner width aw index ha hb) (λ w q. local_words a b owner width aw left (suc index) (ws ++ (w ∷ [])) ha hb (words_snoc ws w h q))

  local_candidates : (address aw index : ℕ) (ws : List Word) (ns : List Node) → OfTheCell f address → OfWords f ws → OfNodes f ns → Local f (candidates_from address aw index ws ns) (OfNodes f)
  unfolding candidates_from OfWords
  local_candidates address aw index [] ns ha h k = local_pure k
  local_candidates address aw index (w ∷ ws) ns ha h k =
      local_bind (local_emit tt) (λ c hc. local_bind (local_emit (ha, (hc, tt))) (λ e he.
      local_candidates address aw (suc index) ws (ns ++ (record { matched = e; value = w.current } ∷ [])) ha h.1 (nodes_snoc ns (record { matched = e; value = w.current }) k he h.0.0)))

  local_own : (o : Option ℕ) (width target : ℕ) → OfOption f o → Local f (own_expression o width target) (OfTheCell f)
  unfolding OfOption
  local_own None width target h = local_emit tt
  local_own (Some e) width target h = local_pure h

  local_next : (o own : Option ℕ) (width target word : ℕ) → OfOption f o → OfOption f own → OfTheCell f word → Local f (next_read o own width target word) (OfTheCell f)
  unfolding OfOption
  local_next None own width target word h g k = local_pure k
  local_next (Some c) own width target word h g k = local_bind (local_own own width target g) (λ o ho. local_emit (h, (k, (ho, tt))))

  own_stands : {seen : Seen} → Stood f seen → (ws : List ℕ) → OfOption f (own_read seen ws)
  unfolding OfOption
  own_stands stood [] = tt
  own_stands {seen} stood (w ∷ []) = go (standing seen w) refl
    where
      go : (o : Option ℕ) → standing seen w ≡ o → OfOption f o
      go None q = tt
      go (Some e) q = stood.all w e q
  own_stands stood (w ∷ v ∷ ws) = tt

module _ {f : ℕ} (m : Wires) (z : Constants) where
  local_enable : (o : Option Control) → Local f (enable_of m z o) (λ e. Unit {0})
  local_enable None = local_pure tt
  local_enable (Some c) = local_bind (local_signal m z c.signal) (λ s u. local_pure tt)

  local_port : (p : PortExprs) (own : Option ℕ) (ws : List Word) (width aw clock edge : ℕ) → OfPort f p → OfOption f own → OfWords f ws → Local f (emit_block_ram_read_port m z p own ws width aw clock edge) (λ u. Unit {0})
  unfolding emit_block_ram_read_port
  local_port p own ws width aw clock edge hp ho hw =
      local_bind (local_emit tt) (λ e he. local_bind (local_candidates p.read_address aw 0 ws [] hp.read_address hw (unfold OfNodes in tt)) (λ ns hn. local_bind (local_levels (length ns) width ns e hn he) (λ v hv.
      local_bind (local_ref m (get_or p.read_data 0 0)) (λ r u. local_bind (local_enable p.read_enable) (λ en u. local_bind (local_next p.clock_enabled own width r.signal v hp.clock_enabled ho hv) (λ n hx. local_state (hx, tt)))))))

  local_second_port : (o : Option PortExprs) (own : Option ℕ) (ws : List Word) (width aw clock edge : ℕ) → OfSecond f o → OfOption f own → OfWords f ws → Local f (emit_second_read_port m z o own ws width aw clock edge) (λ u. Unit {0})
  unfolding OfSecond
  local_second_port None own ws width aw clock edge hp ho hw = local_pure tt
  local_second_port (Some p) own ws width aw clock edge hp ho hw = local_port p own ws width aw clock edge hp ho hw

  local_updates : (ws : List Word) (clock edge : ℕ) → OfWords f ws → Local f (update_words ws clock edge) (λ u. Unit {0})
  unfolding update_words OfWords
  local_updates [] clock edge h = local_pure tt
  local_updates (w ∷ ws) clock edge h = local_bind (local_state (h.0.1, tt)) (λ u v. local_updates ws clock edge h.1)

  local_gate : {seen : Seen} → Stood f seen → (write : Control) (o : Option Control) → Local f (gate m seen write o) (λ r. (OfTheCell f r.value.write_asserted × OfOption f r.value.clock_enabled) × Stood f r.seen)
  unfolding gate OfOption
  local_gate stood write None = local_bind (local_asserted m stood write) (λ y h. local_pure ((h.0, tt), h.1))
  local_gate stood write (Some c) = local_bind (local_asserted m stood write) (λ y h. local_bind (local_asserted m h.1 c) (λ e he. local_bind (local_emit (h.0, (he.0, tt))) (λ g hg. local_pure ((hg, he.0), he.1))))

  local_exprs : {seen : Seen} → Stood f seen → (shift aw : ℕ) (o : Option SecondPort) → Local f (second_exprs m seen shift aw o) (λ r. OfSecond f r.value × Stood f r.seen)
  unfolding OfSecond
  local_exprs stood shift aw None = local_pure (tt, stood)
  local_exprs stood shift aw (Some p) =
      local_bind (local_vector m stood p.address shift aw) (λ a ha. local_bind (local_vector m ha.1 p.input 0 (length p.input)) (λ d hd. local_bind (local_gate hd.1 p.write p.clock_enable) (λ g hg.
      local_pure (record { write_address = ha.0; write_data = hd.0; write_asserted = hg.0.0; read_address = ha.0; clock_enabled = hg.0.1 }, hg.1))))

  local_ram : {seen : Seen} → Stood f seen → (owner : ℕ) (r : BlockRam) → Local f (emit_block_ram m z seen owner r) (λ u. Unit {0})
  unfolding emit_block_ram
  local_ram stood owner r =
      let aw : ℕ = address_width r.depth in
      let shift : ℕ = shift_in (shift_of r.physical) in
      local_bind (local_vector m stood r.write_address shift aw) (λ wa hwa. local_bind (local_vector m hwa.1 r.read_address shift aw) (λ ra hra. local_bind (local_vector m hra.1 r.input 0 (length r.input)) (λ d hd.
      local_bind (local_gate hd.1 r.write r.clock_enable) (λ g hg. local_bind (local_exprs hg.1 shift aw r.second) (λ b hb. local_bind (local_signal m z r.clock) (λ clock u.
      let a : PortExprs = record { write_address = wa.value; write_data = d.value; write_asserted = g.value.write_asserted; read_address = ra.value; read_data = r.output; read_enable = r.read_enable; clock_enabled = g.value.clock_enabled } in
      let ha : OfPort f a = record { write_address = hwa.0; write_data = hd.0; write_asserted = hg.0.0; read_address = hra.0; clock_enabled = hg.0.1 } in
      local_bind (local_words a b.value owner r.width aw r.depth 0 [] ha hb.0 (unfold OfWords in tt)) (λ ws hw.
      local_bind (local_port a (own_read b.seen r.output) ws r.width aw clock r.edge ha (own_stands hb.1 r.output) hw) (λ u v.
      local_bind (local_second_port b.value (own_read b.seen (second_output r.second)) ws r.width aw clock r.edge hb.0 (own_stands hb.1 (second_output r.second)) hw) (λ u v. last_local _ (local_updates ws clock r.edge hw))))))))))

  local_dram_words : (p : PortExprs) (owner clock edge left index : ℕ) (ws : List Word) → OfPort f p → OfWords f ws → Local f (dram_words p owner clock edge left index ws) (OfWords f)
  unfolding dram_words
  local_dram_words p owner clock edge zero index ws hp h = local_pure h
  local_dram_words p owner clock edge (suc left) index ws hp h =
      local_bind (local_word p None owner 4 4 index hp (unfold OfSecond in tt)) (λ w q. local_bind (local_state (q.1, tt)) (λ u v. local_dram_words p owner clock edge left (suc index) (ws ++ (w ∷ [])) hp (words_snoc ws w h q)))

  local_select : (address index : ℕ) (ws : List Word) (now : ℕ) → OfTheCell f address → OfWords f ws → OfTheCell f now → Local f (dram_select address index ws now) (OfTheCell f)
  unfolding dram_select OfWords
  local_select address index [] now ha h k = local_pure k
  local_select address index (w ∷ ws) now ha h k =
      local_bind (local_emit tt) (λ c hc. local_bind (local_emit (ha, (hc, tt))) (λ e he. local_bind (local_emit (he, (h.0.0, (k, tt)))) (λ v hv. local_select address (suc index) ws v ha h.1 hv)))

  local_dram : {seen : Seen} → Stood f seen → (owner : ℕ) (r : DistributedRam) → Local f (emit_distributed_ram m z seen owner r) (λ u. Unit {0})
  unfolding emit_distributed_ram
  local_dram stood owner r =
      local_bind (local_vector m stood r.write_address 0 4) (λ wa hwa. local_bind (local_vector m hwa.1 r.read_address 0 4) (λ ra hra. local_bind (local_vector m hra.1 r.input 0 4) (λ d hd. local_bind (local_asserted m hd.1 r.write) (λ y hy.
      local_bind (local_signal m z r.clock) (λ clock u.
      let p : PortExprs = record { write_address = wa.value; write_data = d.value; write_asserted = y.value; read_address = ra.value; read_data = r.output; read_enable = None; clock_enabled = None } in
      let hp : OfPort f p = record { write_address = hwa.0; write_data = hd.0; write_asserted = hy.0; read_address = hra.0; clock_enabled = unfold OfOption in tt } in
      local_bind (local_dram_words p owner clock r.edge 16 0 [] hp (unfold OfWords in tt)) (λ ws hw.
      local_bind (local_emit tt) (λ e he. local_bind (local_select ra.value 0 ws e hra.0 hw he) (λ v hv. last_local _ (local_assign m (get_or r.output 0 0) v hv)))))))))

-- EVERY CELL

local_cell : (f shared : ℕ) (m : Wires) (z : Constants) (owner : ℕ) (x : Cell) → Local f (emit_cell shared m z owner x) (λ u. Unit {0})
unfolding emit_cell
local_cell f k m z owner (lut4 i o t) = forget_local (local_lut4 m (stood_nothing k) i o t)
local_cell f k m z owner (pfumx t g s o) = forget_local (local_pfumx m (stood_nothing k) t g s o)
local_cell f k m z owner (l6mux21 g t s o) = forget_local (local_l6mux21 m (stood_nothing k) g t s o)
local_cell f k m z owner (ccu2c u) = forget_local (local_ccu2c m (stood_nothing k) u)
local_cell f k m z owner (multiplier l r p) = forget_local (local_multiplier m (stood_nothing k) l r p)
local_cell f k m z owner (flip_flop g) = local_pure tt
local_cell f k m z owner (block_ram r) = forget_local (local_ram m z (stood_nothing k) owner r)
local_cell f k m z owner (distributed_ram r) = by_test (λ (w : Writer (Unit {0})). Local f w (λ u. Unit {0})) (eqb r.second 1) (λ q. local_refuse) (λ q. forget_local (local_dram m z (stood_nothing k) owner r))
local_cell f k m z owner (io p d i t) = forget_local (local_io m (stood_nothing k) p d i t)
local_cell f k m z owner (jtagg ws) = local_jtagg m ws
local_cell f k m z owner (pll p) = local_pll m p

pub nothing_from_others : NothingFromOthers
nothing_from_others shared m z owner x count = ((local_cell count.exprs shared m z owner x).local count (omega arith)).0
