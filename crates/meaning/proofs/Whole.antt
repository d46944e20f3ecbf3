-- The whole: in ticks in which every statement of the model holds, each cell, bank and output port of the netlist does its part.
-- Assumes nothing.
use mathlib.Core.Path.{◌≡◌, refl, ap, sym, ◌∙◌, subst}
use mathlib.Core.Bool.{true, false}
use mathlib.Core.List.Memᴰ.{head as here}
use mathlib.Core.List.Memᴰ.{tail as there}
use mathlib.Core.List.{List, [], ◌∷◌, ◌++◌, Memᴰ as Mem}
use Rattle.std.specs.Prelude.{Option, None, Some}
use Prim.Native.Nat.{ℕ, suc, ◌+◌, ◌*◌}
use native.Mathlib.Omega.{arith}
use lib.Dec.{eqb}
use lib.ListN.{length, get_or, take, drop}
use Rattle.bits.specs.Bits.{pick, number, binary}
use Rattle.netlist.specs.declared.Bit.TheVariants.{Wire}
use Rattle.netlist.specs.declared.Limits.{Limits}
use Rattle.netlist.specs.declared.Reset.{Reset}
use Rattle.netlist.specs.Netlist.{Netlist, FlipFlop, Cell, Cell.lut4, Cell.pfumx, Cell.l6mux21, Cell.ccu2c, Cell.multiplier, Cell.flip_flop, Cell.block_ram, Cell.distributed_ram, Cell.io, Cell.jtagg, Cell.pll}
use Rattle.netlist.specs.Shape.{Each, each_at, FitsCell, FitsOption, FitsReset}
use Rattle.recorder.specs.Record.{Expr, Expr.const, Stmt}
use Rattle.recorder.specs.Writer.{Event, exprs_of, stmts_of, Count, further, End, End.ok, Out, Writer, declare, emit, ◌>>=◌}
use Rattle.recorder.specs.Evaluate.{Values, eval_expr, eval_all}
use Rattle.recorder.specs.Meaning.{Is, Base, Ends}
use Rattle.recorder.proofs.Events.{exprs_append, stmts_append, bind_ok}
use Rattle.recorder.proofs.Makes.{makes_emit, makes_declare}
use Rattle.optimize.proofs.Muxes.{by_test}
use Rattle.behaviour.specs.Banks.{Member, Bank, collect_flip_flop_banks}
use Rattle.behaviour.specs.WireMap.{word_signals, slots}
use Rattle.behaviour.specs.Behaviour.{value, values, look_table, absent}
use Rattle.behaviour.proofs.BankLaws.{IsBank, IsCell, banks_are}
use Rattle.wires.specs.declared.Constants.{Constants}
use Rattle.wires.specs.Seen.{nothing_seen, Reading, forgetting}
use Rattle.wires.specs.Wires.{Wires}
use Rattle.lowering.specs.Emit.{emit_cell, emit_cells, emit_banks, emit_outputs}
use Rattle.lowering.specs.Lower.{emit_constants, reserve_netlist, emit_netlist, lower_netlist}
use Rattle.meaning.specs.Held.{values_at, Driven}
use Rattle.meaning.specs.Settles.{Tick, AllHold, Settles}
use Rattle.meaning.specs.Runs.{Laid}
use Rattle.meaning.proofs.Settling.{settles_makes, settles_assign, settles_pure, settles_refuse, settles_bind, settles_bind_at, settles_so, settles_forgetting}
use Rattle.meaning.proofs.BitReads.{known_nothing}
use Rattle.meaning.proofs.Equations.{now, Bases, bases_keep, Knowns, AllDriven, Added, Locked, Shown, lut4_equation, pfumx_equation, l6mux21_equation, io_equation, multiplier_equation, ccu2c_equation, jtagg_equation, pll_equation, outputs_equation}
use Rattle.meaning.proofs.Registers.{Banked, PlainReset, PlainResets, bank_equation}
use Rattle.meaning.proofs.Memories.{Remembered, Distributed, Stored, block_ram_equation, distributed_ram_equation}
use Rattle.meaning.proofs.Reserving.{reserved_is, mapping_count}
use Rattle.meaning.proofs.Owned.{ReadsOwned, reads_owned}

-- what a cell does, by the tick rule, on the signals of its wires and on those of its RAM words
abbrev pub Does : Tick → Wires → Constants → Cell → List ℕ → Type 0
Does κ m z (lut4 i o t) ws = Driven κ.before m o (look_table t (values (now κ m) i) ∷ [])
Does κ m z (pfumx h l s o) ws = Driven κ.before m o (pick (value (now κ m) s) (value (now κ m) h) (value (now κ m) l) ∷ [])
Does κ m z (l6mux21 l h s o) ws = Driven κ.before m o (pick (value (now κ m) s) (value (now κ m) h) (value (now κ m) l) ∷ [])
Does κ m z (ccu2c u) ws = Added κ.before m u
Does κ m z (multiplier l r p) ws = Driven κ.before m (get_or p 0 0) (binary 36 (number (values_at (now κ m) l 0 36) * number (values_at (now κ m) r 0 36)))
Does κ m z (flip_flop f) ws = Unit {0}
Does κ m z (block_ram r) ws = Remembered κ m z r ws
Does κ m z (distributed_ram r) ws = Distributed κ m z r ws
Does κ m z (io p d i t) ws = Driven κ.before m i (pick (value (now κ m) t) (value (now κ m) (Wire p)) (value (now κ m) d) ∷ [])
Does κ m z (jtagg o) ws = AllDriven κ.before m (take 6 o ++ drop 7 o) (false ∷ []) × Driven κ.before m (get_or o 6 0) (true ∷ [])
Does κ m z (pll p) ws = Locked κ.before m p

abbrev pub AllDo : Tick → Wires → Constants → List Cell → List (List ℕ) → Type 0
AllDo κ m z [] ws = Unit {0}
AllDo κ m z (x ∷ xs) [] = ⊥
AllDo κ m z (x ∷ xs) (w ∷ ws) = Does κ m z x w × AllDo κ m z xs ws

abbrev pub AllBanked : Tick → Wires → Constants → List Bank → Type 0
AllBanked κ m z [] = Unit {0}
AllBanked κ m z (b ∷ bs) = Banked κ m z b × AllBanked κ m z bs

-- all of a netlist, in each of some ticks; what lowering decided is the same in all of them
pub record Runs {K : Type 0} (κ : K → Tick) (n : Netlist) (m : Wires) : Type 0 where
  pub constants : Constants
  -- zero and one come right after the slots
  pub zero_number : constants.zero.0 ≡ length (slots n)
  pub one_number : constants.one.0 ≡ suc (length (slots n))
  pub words : List (List ℕ)
  pub laid : Laid n.cells words
  pub zero_is : (k : K) → (κ k).before constants.zero.0 ≡ false ∷ []
  pub one_is : (k : K) → (κ k).before constants.one.0 ≡ true ∷ []
  pub cells_do : (k : K) → AllDo (κ k) m constants n.cells words
  pub banks_do : (k : K) → AllBanked (κ k) m constants (collect_flip_flop_banks n.cells)
  pub outputs_show : (k : K) → Shown (κ k).before m 0 n.ports

-- CELLS

record Done {K : Type 0} (κ : K → Tick) (m : Wires) (z : Constants) (xs : List Cell) : Type 0 where
  words : List (List ℕ)
  laid : Laid xs words
  do_all : (k : K) → AllDo (κ k) m z xs words

module _ {K : Type 0} (κ : K → Tick) (Ω : K → Values) (m : Wires) (z : Constants) (limits : Limits) (shared : ℕ) where
  no_words : (x : Cell) {env : K → Values} {w : Writer (Unit {0})} → word_signals x ≡ 0 → Settles κ Ω env w (λ u env'. (k : K) → Does (κ k) m z x []) → Settles κ Ω env w (λ u env'. Stored (λ k. Does (κ k) m z x) (word_signals x))
  no_words x e f = settles_so f (λ u env₁ kp d. record { words = []; count = sym e; stored = d })

  -- it begins with nothing read, and what it has read is forgotten
  alone : (x : Cell) {env : K → Values} {w : Writer (Reading (Unit {0}))} → word_signals x ≡ 0 → (Knowns κ m env (nothing_seen shared) → Settles κ Ω env w (λ u env'. (k : K) → Does (κ k) m z x []))
      → Settles κ Ω env (forgetting w) (λ u env'. Stored (λ k. Does (κ k) m z x) (word_signals x))
  alone x e f = no_words x e (settles_forgetting (f (λ k. known_nothing shared)))

  cell_does : (owner : ℕ) (x : Cell) {env : K → Values} → FitsCell limits x → ReadsOwned m x → Bases env → Settles κ Ω env (emit_cell shared m z owner x) (λ u env'. Stored (λ k. Does (κ k) m z x) (word_signals x))
  unfolding emit_cell
  cell_does owner (lut4 i o t) h own base = alone (lut4 i o t) refl (λ known. lut4_equation κ Ω m base known i o t h.0.0 h.2)
  cell_does owner (pfumx t f s o) h own base = alone (pfumx t f s o) refl (λ known. pfumx_equation κ Ω m base known t f s o)
  cell_does owner (l6mux21 f t s o) h own base = alone (l6mux21 f t s o) refl (λ known. l6mux21_equation κ Ω m base known f t s o)
  cell_does owner (ccu2c u) h own base = alone (ccu2c u) refl (λ known. ccu2c_equation κ Ω m u h.row0.0 h.row1.0 h.init0 h.init1 base known)
  cell_does owner (multiplier l r p) h own base = alone (multiplier l r p) refl (λ known. multiplier_equation κ Ω m base known l r p)
  cell_does owner (flip_flop f) h own base = no_words (flip_flop f) refl (settles_pure (λ k. tt))
  cell_does owner (block_ram r) h own base = settles_forgetting (block_ram_equation κ Ω m z owner r base (λ k. known_nothing shared) own.0 own.1)
  cell_does owner (distributed_ram r) {env} h own base =
      by_test (λ (w : Writer (Unit {0})). Settles κ Ω env w (λ u env'. Stored (λ k. Distributed (κ k) m z r) 16)) (eqb r.second 1) (λ q. settles_refuse)
      (λ q. settles_forgetting (distributed_ram_equation κ Ω m z owner r base (λ k. known_nothing shared)))
  cell_does owner (io p d i t) h own base = alone (io p d i t) refl (λ known. io_equation κ Ω m base known p d i t)
  cell_does owner (jtagg ws) h own base = no_words (jtagg ws) refl (jtagg_equation κ Ω m ws base)
  cell_does owner (pll p) h own base = no_words (pll p) refl (pll_equation κ Ω m p base)

  all_do : (c : ℕ) (xs : List Cell) {env : K → Values} → Each (FitsCell limits) xs → ((x : Cell) → Mem x xs → ReadsOwned m x) → Bases env → Settles κ Ω env (emit_cells shared m z c xs) (λ u env'. Done κ m z xs)
  unfolding emit_cells
  all_do c [] h own base = settles_pure (record { words = []; laid = tt; do_all = λ k. tt })
  all_do c (x ∷ xs) h own base = settles_bind (cell_does c x h.0 (own x (here refl)) base) (λ u env₁ kp d.
      settles_so (all_do (suc c) xs h.1 (λ y e. own y (there e)) (bases_keep kp base)) (λ v env₂ k₂ r. record { words = d.words ∷ r.words; laid = (d.count, r.laid); do_all = λ k. (d.stored k, r.do_all k) }))

-- BANKS

flop_reset : (limits : Limits) (x : Cell) (f : FlipFlop) → x ≡ flip_flop f → FitsCell limits x → PlainReset f.reset
flop_reset limits x f e h = go f.reset (subst (FitsCell limits) e h).reset
  where
    go : (o : Option Reset) → FitsOption (FitsReset limits) o → PlainReset o
    go None g = tt
    go (Some r) g = g.asynchronous

plain_members : (limits : Limits) (cells : List Cell) → Each (FitsCell limits) cells → (ms : List Member) → ((m : Member) → Mem m ms → IsCell cells m) → PlainResets ms
plain_members limits cells h [] f = tt
plain_members limits cells h (m ∷ ms) f =
    let c = f m (here refl) in
    (flop_reset limits (get_or cells m.cell absent) m.flop c.is (each_at (FitsCell limits) cells m.cell absent h c.inside), plain_members limits cells h ms (λ x e. f x (there e)))

abbrev PlainBanks : List Bank → Type 0
PlainBanks bs = Each (λ (b : Bank). PlainResets b.members) bs

plain_banks : (limits : Limits) (cells : List Cell) → Each (FitsCell limits) cells → (bs : List Bank) → Each (IsBank cells) bs → PlainBanks bs
plain_banks limits cells h [] f = tt
plain_banks limits cells h (b ∷ bs) f = (plain_members limits cells h b.members (λ m e. (f.0.member m e).0), plain_banks limits cells h bs f.1)

banks_do : {K : Type 0} (κ : K → Tick) (Ω : K → Values) (m : Wires) (z : Constants) (bs : List Bank) {env : K → Values} → PlainBanks bs → Bases env → Settles κ Ω env (emit_banks m z bs) (λ u env'. (k : K) → AllBanked (κ k) m z bs)
unfolding emit_banks
banks_do κ Ω m z [] h base = settles_pure (λ k. tt)
banks_do κ Ω m z (b ∷ bs) h base = settles_bind (bank_equation κ Ω m z b h.0 base) (λ u env₁ kp d. settles_so (banks_do κ Ω m z bs h.1 (bases_keep kp base)) (λ v env₂ k₂ r k. (d k, r k)))

-- THE CONSTANTS are the first two expressions

record Constant {K : Type 0} (κ : K → Tick) (env : K → Values) (z : Constants) : Type 0 where
  base : Bases env
  zero_is : (k : K) → (κ k).before z.zero.0 ≡ false ∷ []
  one_is : (k : K) → (κ k).before z.one.0 ≡ true ∷ []

two : Base ((false ∷ []) ∷ (true ∷ []) ∷ [])
two = record { zero_is = record { there = omega arith; value = refl }; one_is = record { there = omega arith; value = refl } }

module _ {K : Type 0} (κ : K → Tick) (Ω : K → Values) where
  -- a record of a known place
  exactly : (env : K → Values) (x : Expr) → Settles κ Ω env (emit x) (λ e env'. (k : K) → (e ≡ length (env k)) × (env' k ≡ env k ++ (eval_expr (κ k).before (env k) x ∷ [])))
  exactly env x = settles_makes {P = λ k e env'. (e ≡ length (env k)) × (env' ≡ env k ++ (eval_expr (κ k).before (env k) x ∷ []))} (λ k. makes_emit (refl, refl))

  signal_only : (env : K → Values) {s : Rattle.recorder.specs.Record.Signal} → Settles κ Ω env (declare s) (λ i env'. (k : K) → env' k ≡ env k)
  signal_only env = settles_makes {P = λ k i env'. env' ≡ env k} (λ k. makes_declare (λ i. refl))

  constants_settle : (env : K → Values) → ((k : K) → env k ≡ []) → Settles κ Ω env emit_constants (λ z env'. Constant κ env' z)
  unfolding emit_constants
  constants_settle env q =
      settles_bind (signal_only env) (λ z env₁ k₁ h₁.
      settles_bind (signal_only env₁) (λ o env₂ k₂ h₂.
      let none₂ : (k : K) → env₂ k ≡ [] = λ k. h₂ k ∙ h₁ k ∙ q k in
      settles_bind (exactly env₂ (const 1 0)) (λ e₀ env₃ k₃ h₃.
      settles_bind (exactly env₃ (const 1 1)) (λ e₁ env₄ k₄ h₄.
      let three : (k : K) → env₃ k ≡ (false ∷ []) ∷ [] = λ k. (h₃ k).1 ∙ ap (λ (x : Values). x ++ ((false ∷ []) ∷ [])) (none₂ k) in
      let four : (k : K) → env₄ k ≡ (false ∷ []) ∷ (true ∷ []) ∷ [] = λ k. (h₄ k).1 ∙ ap (λ (x : Values). x ++ ((true ∷ []) ∷ [])) (three k) in
      let base : Bases env₄ = λ k. subst Base (sym (four k)) two in
      let i₀ : (k : K) → Is (env₄ k) e₀ (false ∷ []) = λ k. subst (λ (e : ℕ). Is (env₄ k) e (false ∷ [])) (sym ((h₃ k).0 ∙ ap length (none₂ k))) (base k).zero_is in
      let i₁ : (k : K) → Is (env₄ k) e₁ (true ∷ []) = λ k. subst (λ (e : ℕ). Is (env₄ k) e (true ∷ [])) (sym ((h₄ k).0 ∙ ap length (three k))) (base k).one_is in
      settles_bind (settles_assign {P = λ u x. (k : K) → (κ k).before z ≡ false ∷ []} i₀ (λ p. p)) (λ u env₅ k₅ p₀.
      settles_bind (settles_assign {P = λ u x. (k : K) → (κ k).before o ≡ true ∷ []} (λ k. k₅ k _ _ (i₁ k)) (λ p. p)) (λ u env₆ k₆ p₁.
      settles_pure (record { base = bases_keep k₆ (bases_keep k₅ base); zero_is = p₀; one_is = p₁ })))))))

  -- what follows the constants
  after_constants : (limits : Limits) (shared : ℕ) (n : Netlist) (m : Wires) (z : Constants) (env : K → Values) → Each (FitsCell limits) n.cells → ((x : Cell) → Mem x n.cells → ReadsOwned m x) → Constant κ env z
      → z.zero.0 ≡ length (slots n) → z.one.0 ≡ suc (length (slots n))
      → Settles κ Ω env (emit_cells shared m z 0 n.cells >>= λ u. emit_banks m z (collect_flip_flop_banks n.cells) >>= λ v. emit_outputs m 0 n.ports) (λ u env'. Runs κ n m)
  after_constants limits shared n m z env h own c p q =
      settles_bind (all_do κ Ω m z limits shared 0 n.cells h own c.base) (λ u env₅ k₅ dc.
      settles_bind (banks_do κ Ω m z (collect_flip_flop_banks n.cells) (plain_banks limits n.cells h (collect_flip_flop_banks n.cells) (banks_are n.cells)) (bases_keep k₅ c.base)) (λ u env₆ k₆ db.
      settles_so (outputs_equation κ Ω m 0 n.ports (bases_keep k₆ (bases_keep k₅ c.base))) (λ u env₇ k₇ ds. record {
        constants = z;
        zero_number = p;
        one_number = q;
        words = dc.words;
        laid = dc.laid;
        zero_is = c.zero_is;
        one_is = c.one_is;
        cells_do = dc.do_all;
        banks_do = db;
        outputs_show = ds;
      })))

-- the numbers that the constants take
constants_end : (n : Count) → (emit_constants n).end ≡ ok (record { zero = record { 0 = n.signals }; one = record { 0 = n.signals + 1 } })
unfolding emit_constants ◌>>=◌
constants_end n = refl

-- LOWERING

abbrev pub none_yet : Count
none_yet = record { signals = 0; exprs = 0; stmts = 0 }

-- The wire map is m, and lowering was not refused on the way: in all ticks in which the model's statements hold, by the values of its own
-- expressions, the netlist runs.
module _ (shared : ℕ) (limits : Limits) (n : Netlist) (fits : Each (FitsCell limits) n.cells) (m : Wires) (reserved : (reserve_netlist n none_yet).end ≡ ok m) where
  abbrev es : List Event
  es = (reserve_netlist n none_yet).events

  abbrev rest : Out (Unit {0})
  rest = emit_netlist shared n m (further none_yet es)

  pub lowering_is : lower_netlist shared n none_yet ≡ record { events = es ++ rest.events; end = rest.end }
  unfolding lower_netlist
  lowering_is = bind_ok (reserve_netlist n) (emit_netlist shared n) none_yet reserved

  pub exprs_are : exprs_of (lower_netlist shared n none_yet).events ≡ exprs_of rest.events
  exprs_are = ap (λ (o : Out (Unit {0})). exprs_of o.events) lowering_is ∙ exprs_append es rest.events ∙ ap (λ (x : List Expr). x ++ exprs_of rest.events) (reserved_is n m reserved).exprs

  pub stmts_are : stmts_of (lower_netlist shared n none_yet).events ≡ stmts_of rest.events
  stmts_are = ap (λ (o : Out (Unit {0})). stmts_of o.events) lowering_is ∙ stmts_append es rest.events ∙ ap (λ (x : List Stmt). x ++ stmts_of rest.events) (reserved_is n m reserved).stmts

  counted : (further none_yet es).signals ≡ length (slots n)
  counted =
      let r = reserved_is n m reserved in
      omega (arith, ap length r.signals, mapping_count r.mapping)

  pub model_runs : {K : Type 0} (κ : K → Tick) → (lower_netlist shared n none_yet).end ≡ ok tt
      → ((k : K) → AllHold (κ k) (eval_all (κ k).before [] (exprs_of (lower_netlist shared n none_yet).events)) (stmts_of (lower_netlist shared n none_yet).events)) → Runs κ n m
  unfolding emit_netlist
  model_runs {K} κ q h =
      let Ω : K → Values = λ k. eval_all (κ k).before [] (exprs_of rest.events) in
      let hs : (k : K) → AllHold (κ k) (Ω k) (stmts_of rest.events) = λ k. subst (λ (x : List Expr). AllHold (κ k) (eval_all (κ k).before [] x) (stmts_of rest.events)) exprs_are
      (subst (AllHold (κ k) (eval_all (κ k).before [] (exprs_of (lower_netlist shared n none_yet).events))) stmts_are (h k)) in
      let None : length (exprs_of es) ≡ 0 = ap length (reserved_is n m reserved).exprs in
      subst (λ (y : End (Unit {0})). Ends y (λ u. Runs κ n m)) (ap (λ (o : Out (Unit {0})). o.end) (sym lowering_is) ∙ q)
      (settles_bind_at (λ z. emit_cells shared m z 0 n.cells >>= λ u. emit_banks m z (collect_flip_flop_banks n.cells) >>= λ v. emit_outputs m 0 n.ports) {Q = λ u env'. Runs κ n m} (further none_yet es) (constants_end (further none_yet es)) (constants_settle κ Ω (λ k. []) (λ k. refl))
      (λ env₁ kp c. after_constants κ Ω limits shared n m _ env₁ fits (reads_owned limits n fits m (reserved_is n m reserved).mapping) c counted (omega (arith, counted)))
      (λ k. omega (arith, None)) (λ k e v i. i) hs)
