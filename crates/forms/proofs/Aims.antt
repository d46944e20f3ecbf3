-- The signals and the statements' targets of every emitter, exactly.
-- Assumes nothing.
use mathlib.Core.Path.{◌≡◌, refl, ap, ap₂, sym, ◌∙◌}
use mathlib.Core.Bool.{Bool, true, false, ◌||◌}
use mathlib.Core.List.{List, [], ◌∷◌, ◌++◌, append-nil, append_assoc}
use Rattle.std.specs.Prelude.{Option, None, Some}
use Prim.Native.Nat.{ℕ, zero, suc, ◌+◌}
use native.Mathlib.Omega.{arith}
use lib.Dec.{eqb}
use lib.ListN.{length, get_or, take, drop, replicate, length-replicate}
use Rattle.bits.specs.Bits.{pick}
use Rattle.netlist.specs.declared.Bit.{Bit}
use Rattle.netlist.specs.declared.Bit.TheVariants.{Wire}
use Rattle.netlist.specs.Netlist.{Port, SecondPort, BlockRam, DistributedRam, Ccu2c, Pll, Netlist, Cell, lut4, pfumx, l6mux21, ccu2c, multiplier, flip_flop, block_ram, distributed_ram, io, jtagg, pll}
use Rattle.netlist.specs.Reader.{address_width, shift_of}
use Rattle.recorder.specs.Record.{Signal, Stmt, Stmt.assign, target}
use Rattle.recorder.specs.Writer.{Event, stmts_of, Count, further, Writer, pure, declare, state, ◌>>=◌}
use Rattle.recorder.proofs.Events.{signals_append, stmts_append}
use Rattle.optimize.proofs.Muxes.{by_test}
use Rattle.behaviour.specs.Banks.{Bank, async_reset, collect_flip_flop_banks}
use Rattle.behaviour.specs.WireMap.{word_signals}
use Rattle.behaviour.specs.Behaviour.{shift_in}
use Rattle.wires.specs.declared.Constants.{Constants}
use Rattle.wires.specs.Wires.{WireRef, Wires}
use Rattle.wires.specs.Seen.{Seen, nothing_seen, Reading, keeping, forgetting}
use Rattle.wires.specs.Expressions.{assign_wire, bits_expression}
use Rattle.cells.specs.Cells.{emit_lut4, emit_pfumx, emit_l6mux21, emit_io, emit_multiplier, ccu_row, emit_ccu2c, assign_all, emit_idle_jtagg, pll_clocks, emit_cycle_pll}
use Rattle.memories.specs.Memories.{word_signal, Word, PortExprs, ram_word, ram_words, emit_block_ram_read_port, emit_second_read_port, update_words, emit_block_ram, dram_words, emit_distributed_ram}
use Rattle.lowering.specs.Reserve.{signal_of}
use Rattle.lowering.specs.Emit.{emit_flip_flop_bank, emit_banks, emit_cell, emit_cells, emit_outputs}
use Rattle.lowering.specs.Lower.{emit_constants, emit_netlist}
use Rattle.meaning.specs.Settles.{Gets}
use Rattle.meaning.proofs.Writing.{writes_pure, writes_refuse, writes_declare, writes_state, writes_bind, writes_so, writes_both, writes_always, writes_gets}
use Rattle.meaning.proofs.Settling.{gets_any}
use Rattle.meaning.proofs.BitReads.{ref_gets}
use Rattle.meaning.proofs.Memories.{signals_in}
use Rattle.forms.specs.Acts.{Quiet, targets, Done, Acts, aim, range, second_aim, aims, clock_aims, cell_aims, cell_words, all_aims, all_words, bank_aims, port_aims, netlist_words, netlist_aims}
use Rattle.forms.proofs.Quiets.{quiet_emit, quiet_keeping, quiet_ref, quiet_bit, quiet_signal, quiet_once, quiet_asserted_once, quiet_concat, quiet_vector_once, quiet_vector, quiet_reads, quiet_mux, quiet_xor, quiet_lut, quiet_levels, quiet_gate, quiet_write, quiet_second, quiet_candidates, quiet_enable, quiet_next_read, quiet_exprs, quiet_select, quiet_nexts, quiet_bank_reset}

-- THE LOGIC

targets_append : (xs ys : List Stmt) → targets (xs ++ ys) ≡ targets xs ++ targets ys
targets_append [] ys = refl
targets_append (x ∷ xs) ys = ap (λ (l : List ℕ). target x ∷ l) (targets_append xs ys)

done_append : {ss ss' : List Signal} {ts ts' : List ℕ} {es fs : List Event} → Done ss ts es → Done ss' ts' fs → Done (ss ++ ss') (ts ++ ts') (es ++ fs)
done_append {es = es} {fs} f g = record {
  signals = signals_append es fs ∙ ap₂ (λ (x y : List Signal). x ++ y) f.signals g.signals;
  stmts = ap targets (stmts_append es fs) ∙ targets_append (stmts_of es) (stmts_of fs) ∙ ap₂ (λ (x y : List ℕ). x ++ y) f.stmts g.stmts;
}

done_as : {ss ss' : List Signal} {ts ts' : List ℕ} {es : List Event} → ss ≡ ss' → ts ≡ ts' → Done ss ts es → Done ss' ts' es
done_as p q d = record { signals = d.signals ∙ p; stmts = d.stmts ∙ q }

done_none : Done [] [] []
done_none = record { signals = refl; stmts = refl }

module _ {n : Count} where
  acts_pure : {A : Type 0} {a : A} {R : A → Type 0} → R a → Acts n (pure a) R [] []
  acts_pure h = writes_pure (h, done_none)

  acts_state : {t : Stmt} → Acts n (state t) (λ u. Unit {0}) [] (target t ∷ [])
  acts_state = writes_state (tt, record { signals = refl; stmts = refl })

  acts_declare : {s : Signal} → Acts n (declare s) (λ i. i ≡ n.signals) (s ∷ []) []
  acts_declare = writes_declare (refl, record { signals = refl; stmts = refl })

  acts_known : {A : Type 0} {w : Writer A} {R : A → Type 0} → Quiet w → Gets w R → Acts n w R [] []
  acts_known {w = w} q g = writes_both (writes_gets g) (writes_always (record { signals = q.signals n; stmts = ap targets (q.stmts n) }))

  acts_quiet : {A : Type 0} {w : Writer A} → Quiet w → Acts n w (λ a. Unit {0}) [] []
  acts_quiet {w = w} q = acts_known q (gets_any w)

module _ {A B : Type 0} {n : Count} {w : Writer A} {k : A → Writer B} {R : A → Type 0} {R' : B → Type 0} {ss ss' : List Signal} {ts ts' : List ℕ} where
  acts_bind : Acts n w R ss ts → ((a : A) → R a → (n' : Count) → n'.signals ≡ n.signals + length ss → Acts n' (k a) R' ss' ts') → Acts n (w >>= k) R' (ss ++ ss') (ts ++ ts')
  acts_bind f g = writes_bind f (λ a es p. writes_so (g a p.0 (further n es) (omega (arith, ap length p.1.signals))) (λ b fs q. (q.0, done_append p.1 q.1)))

module _ {A : Type 0} {n : Count} {w : Writer A} {R R' : A → Type 0} {ss ss' : List Signal} {ts ts' : List ℕ} where
  acts_as : ss ≡ ss' → ts ≡ ts' → ((a : A) → R a → R' a) → Acts n w R ss ts → Acts n w R' ss' ts'
  acts_as p q f h = writes_so h (λ a es d. (f a d.0, done_as p q d.1))

module _ {A B : Type 0} {n : Count} {w : Writer A} {k : A → Writer B} {R' : B → Type 0} {ss : List Signal} {ts : List ℕ} where
  -- after a quiet writer
  quietly : Quiet w → ((a : A) (n' : Count) → n'.signals ≡ n.signals → Acts n' (k a) R' ss ts) → Acts n (w >>= k) R' ss ts
  quietly q g = acts_bind (acts_quiet q) (λ a u n' e. g a n' (omega (arith, e)))

-- the last step of a cell's, and of a cell
module _ {A : Type 0} {n : Count} {ss : List Signal} {ts : List ℕ} where
  acts_keeping : {w : Writer A} {R : A → Type 0} (seen : Seen) → Acts n w R ss ts → Acts n (keeping seen w) (λ r. Unit {0}) ss ts
  acts_keeping seen h = acts_as (append-nil ss) (append-nil ts) (λ b u. u) (acts_bind h (λ a r n' e. acts_pure tt))

  acts_forgetting : {w : Writer (Reading A)} {R : Reading A → Type 0} → Acts n w R ss ts → Acts n (forgetting w) (λ a. Unit {0}) ss ts
  acts_forgetting h = acts_as (append-nil ss) (append-nil ts) (λ b u. u) (acts_bind h (λ a r n' e. acts_pure tt))

abbrev Unit₀ : {A : Type 0} → A → Type 0
Unit₀ a = Unit {0}

-- ASSIGNMENTS

module _ (m : Wires) where
  aim_at : (w e : ℕ) {n : Count} → Acts n (assign_wire m w e) Unit₀ [] (aim (m w) ∷ [])
  unfolding assign_wire
  aim_at w e = acts_bind (acts_known (quiet_ref m w) (ref_gets m w)) (λ r q n' u. acts_as refl (ap (λ (o : Option WireRef). aim o ∷ []) (sym q)) (λ a h. h) acts_state)

  -- CELLS

  lut4_acts : (seen : Seen) (i : List Bit) (o t : ℕ) {n : Count} → Acts n (emit_lut4 m seen i o t) Unit₀ [] (aim (m o) ∷ [])
  unfolding emit_lut4
  lut4_acts seen i o t = quietly (quiet_reads m seen i []) (λ es n₁ e₁. quietly (quiet_lut es.value t) (λ v n₂ e₂. acts_keeping _ (aim_at o v)))

  pfumx_acts : (seen : Seen) (h l s : Bit) (o : ℕ) {n : Count} → Acts n (emit_pfumx m seen h l s o) Unit₀ [] (aim (m o) ∷ [])
  unfolding emit_pfumx
  pfumx_acts seen h l s o = quietly (quiet_once m seen s) (λ a n₁ e₁. quietly (quiet_once m a.seen h) (λ b n₂ e₂. quietly (quiet_once m b.seen l) (λ c n₃ e₃. quietly (quiet_mux a.value b.value c.value) (λ v n₄ e₄. acts_keeping _ (aim_at o v)))))

  l6mux21_acts : (seen : Seen) (l h s : Bit) (o : ℕ) {n : Count} → Acts n (emit_l6mux21 m seen l h s o) Unit₀ [] (aim (m o) ∷ [])
  unfolding emit_l6mux21
  l6mux21_acts seen l h s o = quietly (quiet_once m seen s) (λ a n₁ e₁. quietly (quiet_once m a.seen l) (λ b n₂ e₂. quietly (quiet_once m b.seen h) (λ c n₃ e₃. quietly (quiet_mux a.value c.value b.value) (λ v n₄ e₄. acts_keeping _ (aim_at o v)))))

  io_acts : (seen : Seen) (p : ℕ) (d : Bit) (i : ℕ) (t : Bit) {n : Count} → Acts n (emit_io m seen p d i t) Unit₀ [] (aim (m i) ∷ [])
  unfolding emit_io
  io_acts seen p d i t = quietly (quiet_once m seen (Wire p)) (λ a n₁ e₁. quietly (quiet_once m a.seen d) (λ b n₂ e₂. quietly (quiet_once m b.seen t) (λ c n₃ e₃. quietly (quiet_mux c.value a.value b.value) (λ v n₄ e₄. acts_keeping _ (aim_at i v)))))

  multiplier_acts : (seen : Seen) (l r : List Bit) (p : List ℕ) {n : Count} → Acts n (emit_multiplier m seen l r p) Unit₀ [] (aim (m (get_or p 0 0)) ∷ [])
  unfolding emit_multiplier
  multiplier_acts seen l r p = quietly (quiet_vector_once m seen l 0 36) (λ a n₁ e₁. quietly (quiet_vector_once m a.seen r 0 36) (λ b n₂ e₂. quietly quiet_emit (λ v n₃ e₃. acts_keeping _ (aim_at (get_or p 0 0) v))))

  row_acts : (seen : Seen) (i : List Bit) (t j s c : ℕ) {n : Count} → Acts n (ccu_row m seen i t j s c) Unit₀ [] (aim (m s) ∷ [])
  unfolding ccu_row
  row_acts seen i t j s c =
      quietly (quiet_reads m seen i []) (λ es n₁ e₁. quietly (quiet_lut es.value t) (λ l n₂ e₂. quietly (quiet_lut (get_or es.value 0 0 ∷ get_or es.value 1 0 ∷ 0 ∷ 0 ∷ []) t) (λ k n₃ e₃. quietly (quiet_xor l (pick (eqb j 1) 0 c)) (λ x n₄ e₄.
      acts_bind (aim_at s x) (λ u v n₅ e₅. acts_quiet (quiet_keeping _ (quiet_mux l (pick (eqb j 1) 0 c) k)))))))

  ccu2c_acts : (seen : Seen) (u : Ccu2c) {n : Count} → Acts n (emit_ccu2c m seen u) Unit₀ [] (aim (m u.sum0) ∷ aim (m u.sum1) ∷ aim (m u.carry) ∷ [])
  unfolding emit_ccu2c
  ccu2c_acts seen u =
      quietly (quiet_once m seen u.carry_in) (λ c₀ n₁ e₁.
      acts_bind (row_acts c₀.seen u.row0 u.init0 u.inject0 u.sum0 c₀.value) (λ c₁ x n₂ e₂.
      acts_bind (row_acts c₁.seen u.row1 u.init1 u.inject1 u.sum1 c₁.value) (λ c₂ y n₃ e₃. acts_keeping _ (aim_at u.carry c₂.value))))

  all_acts : (ws : List ℕ) (e : ℕ) {n : Count} → Acts n (assign_all m ws e) Unit₀ [] (aims m ws)
  unfolding assign_all
  all_acts [] e = acts_pure tt
  all_acts (w ∷ ws) e = acts_bind (aim_at w e) (λ u v n₁ e₁. all_acts ws e)

  jtagg_acts : (ws : List ℕ) {n : Count} → Acts n (emit_idle_jtagg m ws) Unit₀ [] (aims m (take 6 ws ++ drop 7 ws) ++ (aim (m (get_or ws 6 0)) ∷ []))
  unfolding emit_idle_jtagg
  jtagg_acts ws = acts_bind (all_acts (take 6 ws ++ drop 7 ws) 0) (λ u v n₁ e₁. aim_at (get_or ws 6 0) 1)

  unless_acts : (b : Bool) (w e : ℕ) {n : Count} → Acts n (pick b (pure tt) (assign_wire m w e)) Unit₀ [] (pick b [] (aim (m w) ∷ []))
  unless_acts true w e = acts_pure tt
  unless_acts false w e = aim_at w e

  clocks_acts : (f o : ℕ) (ws : List ℕ) (e : ℕ) {n : Count} → Acts n (pll_clocks m f o ws e) Unit₀ [] (clock_aims m f o ws)
  unfolding pll_clocks
  clocks_acts f o [] e = acts_pure tt
  clocks_acts f o (w ∷ ws) e = acts_bind (unless_acts (eqb w f || eqb w o) w e) (λ u v n₁ e₁. clocks_acts f o ws e)

  pll_acts : (p : Pll) {n : Count} → Acts n (emit_cycle_pll m p) Unit₀ []
      (aim (m p.feedback) ∷ (pick (eqb p.output p.feedback) [] (aim (m p.output) ∷ []) ++ (clock_aims m p.feedback p.output p.more ++ (aim (m p.locked) ∷ []))))
  unfolding emit_cycle_pll
  pll_acts p =
      quietly (quiet_bit m p.reference) (λ e n₁ e₁.
      acts_bind (aim_at p.feedback e) (λ u v n₂ e₂.
      acts_bind (unless_acts (eqb p.output p.feedback) p.output e) (λ u v n₃ e₃.
      acts_bind (clocks_acts p.feedback p.output p.more e) (λ u v n₄ e₄. aim_at p.locked 1))))

-- MEMORIES

word_acts : (a : PortExprs) (b : Option PortExprs) (owner width aw index : ℕ) {n : Count} → Acts n (ram_word a b owner width aw index) (λ w. w.signal ≡ n.signals) (word_signal width owner ∷ []) []
unfolding ram_word
word_acts a b owner width aw index =
    acts_bind acts_declare (λ s q n₁ e₁. quietly quiet_emit (λ x n₂ e₂. quietly (quiet_write a width aw index x) (λ y n₃ e₃. quietly (quiet_second b width aw index y) (λ z n₄ e₄. acts_pure q))))

signals_snoc : (ws : List Word) (w : Word) → signals_in (ws ++ (w ∷ [])) ≡ signals_in ws ++ (w.signal ∷ [])
signals_snoc [] w = refl
signals_snoc (v ∷ ws) w = ap (λ (l : List ℕ). v.signal ∷ l) (signals_snoc ws w)

further_range : (ws vs : List Word) (w : Word) (s left : ℕ) → w.signal ≡ s → signals_in vs ≡ signals_in (ws ++ (w ∷ [])) ++ range (suc s) left → signals_in vs ≡ signals_in ws ++ range s (suc left)
further_range ws vs w s left e q =
    q ∙ ap (λ (l : List ℕ). l ++ range (suc s) left) (signals_snoc ws w) ∙ append_assoc (signals_in ws) (w.signal ∷ []) (range (suc s) left) ∙ ap (λ (k : ℕ). signals_in ws ++ (k ∷ range (suc s) left)) e

words_acts : (a : PortExprs) (b : Option PortExprs) (owner width aw left index : ℕ) (ws : List Word) {n : Count}
    → Acts n (ram_words a b owner width aw left index ws) (λ vs. signals_in vs ≡ signals_in ws ++ range n.signals left) (replicate left (word_signal width owner)) []
unfolding ram_words
words_acts a b owner width aw zero index ws = acts_pure (sym (append-nil (signals_in ws)))
words_acts a b owner width aw (suc left) index ws {n} =
    acts_bind (word_acts a b owner width aw index) (λ w q n₁ e₁.
    acts_as refl refl (λ vs r. further_range ws vs w n.signals left q (r ∙ ap (λ (k : ℕ). signals_in (ws ++ (w ∷ [])) ++ range k left) (let z : n₁.signals ≡ suc n.signals = omega (arith, e₁) in z)))
    (words_acts a b owner width aw left (suc index) (ws ++ (w ∷ []))))

updates_acts : (ws : List Word) (clock edge : ℕ) {n : Count} → Acts n (update_words ws clock edge) Unit₀ [] (signals_in ws)
unfolding update_words
updates_acts [] clock edge = acts_pure tt
updates_acts (w ∷ ws) clock edge = acts_bind acts_state (λ u v n₁ e₁. updates_acts ws clock edge)

module _ (m : Wires) (z : Constants) where
  port_acts : (p : PortExprs) (o : Option ℕ) (ws : List Word) (width aw clock edge : ℕ) {n : Count} → Acts n (emit_block_ram_read_port m z p o ws width aw clock edge) Unit₀ [] (aim (m (get_or p.read_data 0 0)) ∷ [])
  unfolding emit_block_ram_read_port
  port_acts p o ws width aw clock edge =
      quietly quiet_emit (λ e n₁ e₁. quietly (quiet_candidates p.read_address aw 0 ws []) (λ ns n₂ e₂. quietly (quiet_levels (length ns) width ns e) (λ v n₃ e₃.
      acts_bind (acts_known (quiet_ref m (get_or p.read_data 0 0)) (ref_gets m (get_or p.read_data 0 0))) (λ r q n₄ e₄.
      quietly (quiet_enable m z p.read_enable) (λ en n₅ e₅. quietly (quiet_next_read p.clock_enabled o width r.signal v) (λ n n₆ e₆. acts_as refl (ap (λ (o : Option WireRef). aim o ∷ []) (sym q)) (λ a h. h) acts_state))))))

  -- the second port's expressions, where it is there
  IsPort : Option SecondPort → Option PortExprs → Type 0
  IsPort None p = p ≡ None
  IsPort (Some q) p = (x : PortExprs) × (p ≡ Some x) × (x.read_data ≡ q.output)

  is_port : (seen : Seen) (shift aw : ℕ) (o : Option SecondPort) → Gets (Rattle.memories.specs.Memories.second_exprs m seen shift aw o) (λ r. IsPort o r.value)
  unfolding IsPort
  is_port seen shift aw None = Rattle.meaning.proofs.Settling.gets_pure refl
  is_port seen shift aw (Some q) =
      Rattle.meaning.proofs.Settling.gets_bind (gets_any _) (λ a u. Rattle.meaning.proofs.Settling.gets_bind (gets_any _) (λ d v. Rattle.meaning.proofs.Settling.gets_bind (gets_any _) (λ y w. Rattle.meaning.proofs.Settling.gets_pure (_, refl, refl))))

  second_acts : (o : Option SecondPort) (p : Option PortExprs) (k : Option ℕ) (ws : List Word) (width aw clock edge : ℕ) {n : Count} → IsPort o p → Acts n (emit_second_read_port m z p k ws width aw clock edge) Unit₀ [] (second_aim m o)
  unfolding IsPort
  second_acts None None k ws width aw clock edge h = acts_pure tt
  second_acts None (Some p) k ws width aw clock edge h = absurd (let e : ◌≡◌ {A = ℕ} 0 1 = cc in omega arith)
  second_acts (Some q) None k ws width aw clock edge h = absurd (let y : None ≡ Some h.0 = h.1 in let e : ◌≡◌ {A = ℕ} 0 1 = cc in omega arith)
  second_acts (Some q) (Some p) k ws width aw clock edge h =
      let y : Some p ≡ Some h.0 = h.1 in
      let same : p ≡ h.0 = cc in
      acts_as refl (ap (λ (l : List ℕ). aim (m (get_or l 0 0)) ∷ []) (ap (λ (x : PortExprs). x.read_data) same ∙ h.2)) (λ a u. u) (port_acts p k ws width aw clock edge)

  ram_acts : (seen : Seen) (owner : ℕ) (r : BlockRam) {n : Count}
      → Acts n (emit_block_ram m z seen owner r) Unit₀ (replicate r.depth (word_signal r.width owner)) (aim (m (get_or r.output 0 0)) ∷ (second_aim m r.second ++ range n.signals r.depth))
  unfolding emit_block_ram
  ram_acts seen owner r {n} =
      let aw : ℕ = address_width r.depth in
      let shift : ℕ = shift_in (shift_of r.physical) in
      quietly (quiet_vector_once m seen r.write_address shift aw) (λ wa n₁ e₁. quietly (quiet_vector_once m wa.seen r.read_address shift aw) (λ ra n₂ e₂. quietly (quiet_vector_once m ra.seen r.input 0 (length r.input)) (λ d n₃ e₃. quietly (quiet_gate m d.seen r.write r.clock_enable) (λ g n₄ e₄.
      acts_bind (acts_known (quiet_exprs m g.seen shift aw r.second) (is_port g.seen shift aw r.second)) (λ b hb n₅ e₅.
      quietly (quiet_signal m z r.clock) (λ clock n₆ e₆.
      let a : PortExprs = record { write_address = wa.value; write_data = d.value; write_asserted = g.value.write_asserted; read_address = ra.value; read_data = r.output; read_enable = r.read_enable; clock_enabled = g.value.clock_enabled } in
      acts_as (append-nil (replicate r.depth (word_signal r.width owner))) refl (λ u v. v)
      (acts_bind (words_acts a b.value owner r.width aw r.depth 0 []) (λ ws hw n₇ e₇.
      acts_bind (port_acts a _ ws r.width aw clock r.edge) (λ u v n₈ e₈.
      acts_bind (second_acts r.second b.value _ ws r.width aw clock r.edge hb) (λ u v n₉ e₉.
      acts_as refl (hw ∙ ap (λ (k : ℕ). range k r.depth) (let q : n₆.signals ≡ n.signals = omega (arith, e₁, e₂, e₃, e₄, e₅, e₆) in q)) (λ u v. v) (acts_keeping _ (updates_acts ws clock r.edge))))))))))))

dram_words_acts : (p : PortExprs) (owner clock edge left index : ℕ) (ws : List Word) {n : Count}
    → Acts n (dram_words p owner clock edge left index ws) Unit₀ (replicate left (word_signal 4 owner)) (range n.signals left)
unfolding dram_words
dram_words_acts p owner clock edge zero index ws = acts_pure tt
dram_words_acts p owner clock edge (suc left) index ws {n} =
    acts_bind (word_acts p None owner 4 4 index) (λ w q n₁ e₁.
    acts_as refl (ap₂ (λ (a b : ℕ). a ∷ range b left) q (let z : n₁.signals ≡ suc n.signals = omega (arith, e₁) in z)) (λ u v. v)
    (acts_bind acts_state (λ u v n₂ e₂.
    acts_as refl (ap (λ (k : ℕ). range k left) (let z : n₂.signals ≡ n₁.signals = omega (arith, e₂) in z)) (λ u v. v) (dram_words_acts p owner clock edge left (suc index) (ws ++ (w ∷ []))))))

pub words_count : (owner : ℕ) (x : Cell) → length (cell_words owner x) ≡ word_signals x
words_count owner (lut4 i o t) = refl
words_count owner (pfumx t f s o) = refl
words_count owner (l6mux21 f t s o) = refl
words_count owner (ccu2c u) = refl
words_count owner (multiplier l r p) = refl
words_count owner (flip_flop f) = refl
words_count owner (block_ram r) = length-replicate r.depth _
words_count owner (distributed_ram r) = refl
words_count owner (io p d i t) = refl
words_count owner (jtagg ws) = refl
words_count owner (pll p) = refl

module _ (m : Wires) (z : Constants) where
  dram_acts : (seen : Seen) (owner : ℕ) (r : DistributedRam) {n : Count} → Acts n (emit_distributed_ram m z seen owner r) Unit₀ (replicate 16 (word_signal 4 owner)) (range n.signals 16 ++ (aim (m (get_or r.output 0 0)) ∷ []))
  unfolding emit_distributed_ram
  dram_acts seen owner r {n} =
      quietly (quiet_vector_once m seen r.write_address 0 4) (λ wa n₁ e₁. quietly (quiet_vector_once m wa.seen r.read_address 0 4) (λ ra n₂ e₂. quietly (quiet_vector_once m ra.seen r.input 0 4) (λ d n₃ e₃. quietly (quiet_asserted_once m d.seen r.write) (λ y n₄ e₄.
      quietly (quiet_signal m z r.clock) (λ clock n₅ e₅.
      let p : PortExprs = record { write_address = wa.value; write_data = d.value; write_asserted = y.value; read_address = ra.value; read_data = r.output; read_enable = None; clock_enabled = None } in
      acts_as (append-nil (replicate 16 (word_signal 4 owner))) (ap (λ (k : ℕ). range k 16 ++ (aim (m (get_or r.output 0 0)) ∷ [])) (let q : n₅.signals ≡ n.signals = omega (arith, e₁, e₂, e₃, e₄, e₅) in q)) (λ u v. v)
      (acts_bind (dram_words_acts p owner clock r.edge 16 0 []) (λ ws u n₆ e₆.
      quietly quiet_emit (λ e n₇ e₇. quietly (quiet_select ra.value 0 ws e) (λ v n₈ e₈. acts_keeping _ (aim_at m (get_or r.output 0 0) v))))))))))

  cell_acts : (shared owner : ℕ) (x : Cell) {n : Count} → Acts n (emit_cell shared m z owner x) Unit₀ (cell_words owner x) (cell_aims m n.signals x)
  unfolding emit_cell
  cell_acts k owner (lut4 i o t) = acts_forgetting (lut4_acts m (nothing_seen k) i o t)
  cell_acts k owner (pfumx t f s o) = acts_forgetting (pfumx_acts m (nothing_seen k) t f s o)
  cell_acts k owner (l6mux21 f t s o) = acts_forgetting (l6mux21_acts m (nothing_seen k) f t s o)
  cell_acts k owner (ccu2c u) = acts_forgetting (ccu2c_acts m (nothing_seen k) u)
  cell_acts k owner (multiplier l r p) = acts_forgetting (multiplier_acts m (nothing_seen k) l r p)
  cell_acts k owner (flip_flop f) = acts_pure tt
  cell_acts k owner (block_ram r) = acts_forgetting (ram_acts m z (nothing_seen k) owner r)
  cell_acts k owner (distributed_ram r) {n} = by_test (λ (w : Writer (Unit {0})). Acts n w Unit₀ (cell_words owner (distributed_ram r)) (cell_aims m n.signals (distributed_ram r))) (eqb r.second 1) (λ q. writes_refuse) (λ q. acts_forgetting (dram_acts (nothing_seen k) owner r))
  cell_acts k owner (io p d i t) = acts_forgetting (io_acts m (nothing_seen k) p d i t)
  cell_acts k owner (jtagg ws) = jtagg_acts m ws
  cell_acts k owner (pll p) = pll_acts m p

  cells_act : (shared c : ℕ) (xs : List Cell) {n : Count} → Acts n (emit_cells shared m z c xs) Unit₀ (all_words c xs) (all_aims m n.signals xs)
  unfolding emit_cells
  cells_act k c [] = acts_pure tt
  cells_act k c (x ∷ xs) {n} =
      acts_bind (cell_acts k c x) (λ u v n₁ e₁.
      acts_as refl (ap (λ (s : ℕ). all_aims m s xs) (let q : n₁.signals ≡ n.signals + word_signals x = omega (arith, e₁, words_count c x) in q)) (λ a h. h) (cells_act k (suc c) xs))

  bank_acts : (b : Bank) {n : Count} → Acts n (emit_flip_flop_bank m z b) Unit₀ [] (aim (m b.leader.flop.output) ∷ [])
  unfolding emit_flip_flop_bank
  bank_acts b =
      acts_bind (acts_known (quiet_ref m b.leader.flop.output) (ref_gets m b.leader.flop.output)) (λ r q n₁ e₁.
      quietly (quiet_nexts m b.members []) (λ ps n₂ e₂. quietly (quiet_concat m ps) (λ x n₃ e₃. quietly (quiet_bank_reset m z (async_reset b.leader.flop) b.members) (λ s n₄ e₄. quietly (quiet_signal m z b.leader.flop.clock) (λ c n₅ e₅.
      acts_as refl (ap (λ (o : Option WireRef). aim o ∷ []) (sym q)) (λ a h. h) acts_state)))))

  banks_act : (bs : List Bank) {n : Count} → Acts n (emit_banks m z bs) Unit₀ [] (bank_aims m bs)
  unfolding emit_banks
  banks_act [] = acts_pure tt
  banks_act (b ∷ bs) = acts_bind (bank_acts b) (λ u v n₁ e₁. banks_act bs)

outputs_act : (m : Wires) (p : ℕ) (ports : List Port) {n : Count} → Acts n (emit_outputs m p ports) Unit₀ [] (port_aims p ports)
unfolding emit_outputs
outputs_act m p [] = acts_pure tt
outputs_act m p (x ∷ xs) {n} = acts_bind (go (eqb x.direction 1)) (λ u v n₁ e₁. outputs_act m (suc p) xs)
  where
    go : (b : Bool) → Acts n (pick b (bits_expression m x.bits >>= λ e. state (assign p e)) (pure tt)) Unit₀ [] (pick b (p ∷ []) [])
    go true = quietly (quiet_vector m x.bits 0 (length x.bits)) (λ e n₁ e₁. acts_state)
    go false = acts_pure tt

-- THE WHOLE

-- zero and one take the next two numbers
pub record AreNext (s : ℕ) (z : Constants) : Type 0 where
  pub zero_is : z.zero.0 ≡ s
  pub one_is : z.one.0 ≡ suc s

constants_act : {n : Count} → Acts n emit_constants (AreNext n.signals) (signal_of 14 1 0 ∷ signal_of 15 1 0 ∷ []) (n.signals ∷ suc n.signals ∷ [])
unfolding emit_constants
constants_act {n} =
    acts_bind acts_declare (λ z hz n₁ e₁. acts_bind acts_declare (λ o ho n₂ e₂. quietly quiet_emit (λ e₀ n₃ e₃. quietly quiet_emit (λ x n₄ e₄.
    let one : o ≡ suc n.signals = omega (arith, ho, e₁) in
    acts_as refl (ap₂ (λ (a b : ℕ). a ∷ b ∷ []) hz one) (λ a h. h)
    (acts_bind acts_state (λ u v n₅ e₅. acts_bind acts_state (λ u v n₆ e₆. acts_pure (record { zero_is = hz; one_is = one }))))))))

pub netlist_acts : (shared : ℕ) (n : Netlist) (m : Wires) {c : Count} → Acts c (emit_netlist shared n m) Unit₀ (netlist_words n) (netlist_aims m c.signals n)
unfolding emit_netlist
netlist_acts shared n m {c} =
    acts_as (ap (λ (l : List Signal). signal_of 14 1 0 ∷ signal_of 15 1 0 ∷ l) (append-nil (all_words 0 n.cells))) refl (λ a h. h)
    (acts_bind constants_act (λ z hz n₁ e₁.
    acts_as refl (ap (λ (k : ℕ). all_aims m k n.cells ++ (bank_aims m (collect_flip_flop_banks n.cells) ++ port_aims 0 n.ports)) (let q : n₁.signals ≡ suc (suc c.signals) = omega (arith, e₁) in q)) (λ a h. h)
    (acts_bind (cells_act m z shared 0 n.cells) (λ u v n₂ e₂.
    acts_bind (banks_act m z (collect_flip_flop_banks n.cells)) (λ u v n₃ e₃. outputs_act m 0 n.ports)))))
