-- Both RAM kinds make good records.
-- Assumes nothing.
use mathlib.Core.Path.{◌≡◌, refl, subst}
use mathlib.Core.Logic.{◌⊎◌, inl, inr}
use mathlib.Core.Bool.{Bool, true, false, false≢true}
use mathlib.Core.List.{List, [], ◌∷◌, ◌++◌}
use Rattle.std.specs.Prelude.{Option, None, Some}
use Prim.Native.Nat.{ℕ, zero, suc, ◌+◌, ◌^◌, ◌≤◌, ◌<◌}
use native.Mathlib.Omega.{arith}
use lib.Dec.{leb}
use lib.Pow.{pow_pos}
use lib.ListN.{length, get_or, length-append}
use borrow.Author.Tests.{leb-true}
use Rattle.netlist.specs.declared.Control.{Control}
use Rattle.netlist.specs.declared.Limits.{Limits}
use Rattle.netlist.specs.Netlist.{SecondPort, BlockRam, DistributedRam}
use Rattle.netlist.specs.Reader.{bits_from, address_width, shift_of, shift_fits}
use Rattle.netlist.specs.Shape.{FitsOption, FitsControl, FitsSecond, FitsBlockRam}
use Rattle.recorder.specs.Record.{RegEnable}
use Rattle.behaviour.specs.Behaviour.{shift_in}
use Rattle.wires.specs.declared.Constants.{Constants}
use Rattle.wires.specs.Wires.{Wires}
use Rattle.address_mux.specs.AddressMux.{Node, mux_level, mux_levels}
use Rattle.wires.specs.Seen.{Seen, standing}
use Rattle.memories.specs.Memories.{Word, PortExprs, gate, write_word, write_second, ram_word, ram_words, candidates_from, enable_of, own_read, own_expression, next_read, emit_block_ram_read_port, emit_second_read_port, update_words, second_output, second_exprs, emit_block_ram, dram_words, dram_select, emit_distributed_ram}
use Rattle.forms.specs.Typed.{Context, Sig, Exp, Grows, Wide, Fit, Any, GoodEnable}
use Rattle.forms.specs.Suits.{From, WideAs, Suits, SecondSuits}
use Rattle.forms.proofs.Fits.{grow_exp, exp_so, grow_sig, fit_pure, fit_declare, fit_state, fit_bind, fit_so, emit_const, emit_read, emit_and, emit_or, emit_mux, emit_eq}
use Rattle.forms.proofs.FitCells.{Ready, grow_ready, Stood, grow_stood, fit_ref, fit_signal, fit_asserted_once, fit_vector_once, fit_assign, fit_last}

-- THE ADDRESS'S WIDTH

width_covers : (fuel k d : ℕ) → d ≤ 2 ^ (k + fuel) → d ≤ 2 ^ bits_from fuel k d
width_covers zero k d h = subst (λ (x : ℕ). d ≤ 2 ^ x) (let p : k + 0 ≡ k = omega arith in p) h
width_covers (suc fuel) k d h = go (leb d (2 ^ k)) refl (width_covers fuel (suc k) d)
  where
    go : (b : Bool) → leb d (2 ^ k) ≡ b → (d ≤ 2 ^ (suc k + fuel) → d ≤ 2 ^ bits_from fuel (suc k) d) → d ≤ 2 ^ (elim b [ true ↦ k | false ↦ bits_from fuel (suc k) d ])
    go true q f = leb-true d (2 ^ k) q
    go false q f = f (subst (λ (x : ℕ). d ≤ 2 ^ x) (let p : k + suc fuel ≡ suc k + fuel = omega arith in p) h)

width_least : (fuel k d : ℕ) → k ≤ bits_from fuel k d
width_least zero k d = omega arith
width_least (suc fuel) k d = go (leb d (2 ^ k)) (width_least fuel (suc k) d)
  where
    go : (b : Bool) → suc k ≤ bits_from fuel (suc k) d → k ≤ elim b [ true ↦ k | false ↦ bits_from fuel (suc k) d ]
    go true q = omega arith
    go false q = omega (arith, q)

-- what a block RAM's address has
pub record Addressed (r : BlockRam) : Type 0 where
  pub some_bits : 1 ≤ address_width r.depth
  pub few_bits : shift_in (shift_of r.physical) + address_width r.depth ≤ 14
  pub covers : r.depth ≤ 2 ^ address_width r.depth

pub addressed : (limits : Limits) (r : BlockRam) → FitsBlockRam limits r → Addressed r
addressed limits r f = record {
  some_bits = width_least 32 1 r.depth;
  few_bits = go (shift_of r.physical) f.physical;
  covers = width_covers 32 1 r.depth (omega (arith, f.depth.1));
}
  where
    go : (o : Option ℕ) → shift_fits r.depth o ≡ true → shift_in o + address_width r.depth ≤ 14
    go None q = absurd (false≢true q)
    go (Some s) q = leb-true (s + address_width r.depth) 14 q

-- THE TREE

pub data FitNodes (c : Context) (width : ℕ) : List Node → Type 0 where
  no_node : FitNodes c width []
  node : {n : Node} {ns : List Node} → Exp c n.matched 1 Any → Exp c n.value width Any → FitNodes c width ns → FitNodes c width (n ∷ ns)

grow_nodes : {c c' : Context} {width : ℕ} {ns : List Node} → Grows c c' → FitNodes c width ns → FitNodes c' width ns
grow_nodes g no_node = no_node
grow_nodes g (node x y h) = node (grow_exp g x) (grow_exp g y) (grow_nodes g h)

nodes_snoc : {c : Context} {width : ℕ} {ns : List Node} {n : Node} → FitNodes c width ns → Exp c n.matched 1 Any → Exp c n.value width Any → FitNodes c width (ns ++ (n ∷ []))
nodes_snoc no_node a b = node a b no_node
nodes_snoc (node x y h) a b = node x y (nodes_snoc h a b)

module _ {widest words : ℕ} {D : ℕ → ℕ → Type 0} (width : ℕ) (wide : Wide widest width) where
  fit_level : (ns next : List Node) {c : Context} → FitNodes c width ns → FitNodes c width next → Fit widest words D c (mux_level width ns next) (λ ms c'. FitNodes c' width ms)
  unfolding mux_level
  fit_level [] next h k = fit_pure k
  fit_level (l ∷ []) next (node x y h) k = fit_pure (nodes_snoc k x y)
  fit_level (l ∷ r ∷ ns) next (node x y (node u v h)) k =
      fit_bind (emit_or x u) (λ a c₁ g₁ ha.
      fit_bind (emit_mux wide (grow_exp g₁ u) (grow_exp g₁ v) (grow_exp g₁ y)) (λ b c₂ g₂ hb.
      fit_level ns (next ++ (record { matched = a; value = b } ∷ [])) (grow_nodes g₂ (grow_nodes g₁ h)) (nodes_snoc (grow_nodes g₂ (grow_nodes g₁ k)) (grow_exp g₂ ha) hb)))

  fit_levels : (fuel : ℕ) (ns : List Node) {e : ℕ} {c : Context} → FitNodes c width ns → Exp c e width Any → Fit widest words D c (mux_levels fuel width ns e) (λ v c'. Exp c' v width Any)
  unfolding mux_levels
  fit_levels zero [] h k = fit_pure k
  fit_levels zero (n ∷ []) (node x y h) k = emit_mux wide x y k
  fit_levels zero (l ∷ r ∷ ns) h k = fit_bind (fit_level (l ∷ r ∷ ns) [] h no_node) (λ ms c₁ g hm. fit_pure (grow_exp g k))
  fit_levels (suc fuel) [] h k = fit_pure k
  fit_levels (suc fuel) (n ∷ []) (node x y h) k = emit_mux wide x y k
  fit_levels (suc fuel) (l ∷ r ∷ ns) h k = fit_bind (fit_level (l ∷ r ∷ ns) [] h no_node) (λ ms c₁ g hm. fit_levels fuel ms hm (grow_exp g k))

-- WORDS

-- a clock enable asserted, where it is there
data FitEnabled (c : Context) : Option ℕ → Type 0 where
  no_enable : FitEnabled c None
  enable : {e : ℕ} → Exp c e 1 Any → FitEnabled c (Some e)

grow_enabled : {c c' : Context} {o : Option ℕ} → Grows c c' → FitEnabled c o → FitEnabled c' o
grow_enabled g no_enable = no_enable
grow_enabled g (enable h) = enable (grow_exp g h)

-- a register's own read, where it stands
data FitOwn (c : Context) (width : ℕ) : Option ℕ → Type 0 where
  no_own : FitOwn c width None
  stands : {e : ℕ} → Exp c e width Any → FitOwn c width (Some e)

grow_own : {c c' : Context} {width : ℕ} {o : Option ℕ} → Grows c c' → FitOwn c width o → FitOwn c' width o
grow_own g no_own = no_own
grow_own g (stands h) = stands (grow_exp g h)

-- it reads one wire, so the register has one bit
fit_own_read : {c : Context} {m : Wires} {seen : Seen} (width : ℕ) (ws : List ℕ) → Stood c m seen → (length ws ≡ 1 → width ≡ 1) → FitOwn c width (own_read seen ws)
fit_own_read width [] stood h = no_own
fit_own_read width (w ∷ v ∷ ws) stood h = no_own
fit_own_read {c} {m} {seen} width (w ∷ []) stood h = go (standing seen w) refl
  where
    go : (o : Option ℕ) → standing seen w ≡ o → FitOwn c width o
    go None q = no_own
    go (Some e) q = stands (subst (λ (k : ℕ). Exp c e k Any) (let p : 1 ≡ width = omega (arith, h refl) in p) (exp_so (λ y x. tt) (stood.all w e q)))

record FitPort (c : Context) (width aw : ℕ) (p : PortExprs) : Type 0 where
  write_address_lem : Exp c p.write_address aw Any
  write_data_lem : Exp c p.write_data width Any
  write_asserted_lem : Exp c p.write_asserted 1 Any
  read_address_lem : Exp c p.read_address aw Any
  clock_enabled_lem : FitEnabled c p.clock_enabled

grow_port : {c c' : Context} {width aw : ℕ} {p : PortExprs} → Grows c c' → FitPort c width aw p → FitPort c' width aw p
grow_port g h = record { write_address_lem = grow_exp g h.write_address_lem; write_data_lem = grow_exp g h.write_data_lem; write_asserted_lem = grow_exp g h.write_asserted_lem; read_address_lem = grow_exp g h.read_address_lem; clock_enabled_lem = grow_enabled g h.clock_enabled_lem }

data FitSecond (c : Context) (width aw : ℕ) : Option PortExprs → Type 0 where
  no_second : FitSecond c width aw None
  second : {p : PortExprs} → FitPort c width aw p → FitSecond c width aw (Some p)

grow_second : {c c' : Context} {width aw : ℕ} {o : Option PortExprs} → Grows c c' → FitSecond c width aw o → FitSecond c' width aw o
grow_second g no_second = no_second
grow_second g (second h) = second (grow_port g h)

-- a word's read reads its own signal, which comes after those that have wires
record FitWord (c : Context) (words width : ℕ) (w : Word) : Type 0 where
  signal : Sig c w.signal width
  current : Exp c w.current width (λ y. words ≤ y)
  next : Exp c w.next width Any

data FitWords (c : Context) (words width : ℕ) : List Word → Type 0 where
  no_word : FitWords c words width []
  word : {w : Word} {ws : List Word} → FitWord c words width w → FitWords c words width ws → FitWords c words width (w ∷ ws)

grow_word : {c c' : Context} {words width : ℕ} {w : Word} → Grows c c' → FitWord c words width w → FitWord c' words width w
grow_word g h = record { signal = grow_sig g h.signal; current = grow_exp g h.current; next = grow_exp g h.next }

grow_words : {c c' : Context} {words width : ℕ} {ws : List Word} → Grows c c' → FitWords c words width ws → FitWords c' words width ws
grow_words g no_word = no_word
grow_words g (word x h) = word (grow_word g x) (grow_words g h)

words_snoc : {c : Context} {words width : ℕ} {ws : List Word} {w : Word} → FitWords c words width ws → FitWord c words width w → FitWords c words width (ws ++ (w ∷ []))
words_snoc no_word k = word k no_word
words_snoc (word x h) k = word x (words_snoc h k)

any : {c : Context} {e w : ℕ} {S : ℕ → Type 0} → Exp c e w S → Exp c e w Any
any h = exp_so (λ y q. tt) h

module _ {widest words : ℕ} {D : ℕ → ℕ → Type 0} (room : 36 ≤ widest) (width aw : ℕ) (wide : Wide widest width) (aw_wide : Wide widest aw) where
  fit_write : (p : PortExprs) (index : ℕ) {now : ℕ} {c : Context} → FitPort c width aw p → index < 2 ^ aw → Exp c now width Any → Fit widest words D c (write_word p width aw index now) (λ e c'. Exp c' e width Any)
  unfolding write_word
  fit_write p index hp hi h =
      fit_bind (emit_const aw_wide hi) (λ k c₁ g₁ hk.
      fit_bind (emit_eq (grow_exp g₁ hp.write_address_lem) hk) (λ e c₂ g₂ he.
      fit_bind (emit_and (grow_exp g₂ (grow_exp g₁ hp.write_asserted_lem)) he) (λ y c₃ g₃ hy.
      emit_mux wide hy (grow_exp g₃ (grow_exp g₂ (grow_exp g₁ hp.write_data_lem))) (grow_exp g₃ (grow_exp g₂ (grow_exp g₁ h))))))

  fit_second : (o : Option PortExprs) (index : ℕ) {now : ℕ} {c : Context} → FitSecond c width aw o → index < 2 ^ aw → Exp c now width Any → Fit widest words D c (write_second o width aw index now) (λ e c'. Exp c' e width Any)
  fit_second None index hp hi h = fit_pure h
  fit_second (Some p) index (second hp) hi h = fit_write p index hp hi h

  fit_word : (a : PortExprs) (b : Option PortExprs) (owner index : ℕ) {c : Context} → words ≤ length c.signals → FitPort c width aw a → FitSecond c width aw b → index < 2 ^ aw
      → Fit widest words D c (ram_word a b owner width aw index) (λ w c'. FitWord c' words width w)
  unfolding ram_word
  fit_word a b owner index many ha hb hi =
      fit_bind (fit_declare wide) (λ s c₁ g₁ hs.
      fit_bind (emit_read {S = λ y. words ≤ y} wide hs.0 (omega arith) (omega (arith, many, hs.1))) (λ q c₂ g₂ hq.
      fit_bind (fit_write a index (grow_port g₂ (grow_port g₁ ha)) hi (any hq)) (λ n c₃ g₃ hn.
      fit_bind (fit_second b index (grow_second g₃ (grow_second g₂ (grow_second g₁ hb))) hi hn) (λ n₂ c₄ g₄ h₂.
      fit_pure (record { signal = grow_sig g₄ (grow_sig g₃ (grow_sig g₂ hs.0)); current = grow_exp g₄ (grow_exp g₃ hq); next = h₂ })))))

  fit_words : (a : PortExprs) (b : Option PortExprs) (owner left index : ℕ) (ws : List Word) {c : Context} → words ≤ length c.signals → FitPort c width aw a → FitSecond c width aw b → index + left ≤ 2 ^ aw → FitWords c words width ws
      → Fit widest words D c (ram_words a b owner width aw left index ws) (λ vs c'. FitWords c' words width vs × (length vs ≡ length ws + left))
  unfolding ram_words
  fit_words a b owner zero index ws many ha hb hi h = fit_pure (h, omega arith)
  fit_words a b owner (suc left) index ws many ha hb hi h =
      fit_bind (fit_word a b owner index many ha hb (omega (arith, hi))) (λ w c₁ g hw.
      fit_so (fit_words a b owner left (suc index) (ws ++ (w ∷ [])) (omega (arith, many, g.many)) (grow_port g ha) (grow_second g hb) (omega (arith, hi)) (words_snoc (grow_words g h) hw))
      (λ vs c₂ g₂ r. (r.0, omega (arith, r.1, length-append ws (w ∷ [])))))

  fit_candidates : (address index : ℕ) (ws : List Word) (ns : List Node) {c : Context} → Exp c address aw Any → index + length ws ≤ 2 ^ aw → FitWords c words width ws → FitNodes c width ns
      → Fit widest words D c (candidates_from address aw index ws ns) (λ ms c'. FitNodes c' width ms)
  unfolding candidates_from
  fit_candidates address index [] ns ha hi h k = fit_pure k
  fit_candidates address index (w ∷ ws) ns ha hi (word x h) k =
      fit_bind (emit_const aw_wide (omega (arith, hi))) (λ i c₁ g₁ hc.
      fit_bind (emit_eq (grow_exp g₁ ha) hc) (λ e c₂ g₂ he.
      fit_candidates address (suc index) ws (ns ++ (record { matched = e; value = w.current } ∷ [])) (grow_exp g₂ (grow_exp g₁ ha)) (omega (arith, hi))
      (grow_words g₂ (grow_words g₁ h)) (nodes_snoc (grow_nodes g₂ (grow_nodes g₁ k)) he (any (grow_exp g₂ (grow_exp g₁ x.current))))))

  fit_updates : (ws : List Word) (clock edge : ℕ) {c : Context} → FitWords c words width ws → Sig c clock 1 → edge ≤ 1 → Fit widest words D c (update_words ws clock edge) (λ x c'. Unit {0})
  unfolding update_words
  fit_updates [] clock edge h k e = fit_pure tt
  fit_updates (w ∷ ws) clock edge (word x h) k e = fit_bind (fit_state (width, x.signal, x.next.typed, k, e, tt, tt)) (λ u c₁ g v. fit_updates ws clock edge (grow_words g h) (grow_sig g k) e)

-- a second port's own read
second_one_bit : (limits : Limits) (width : ℕ) (o : Option SecondPort) → FitsOption (FitsSecond limits width) o → length (second_output o) ≡ 1 → width ≡ 1
second_one_bit limits width None h q = absurd (omega (arith, q))
second_one_bit limits width (Some p) h q = omega (arith, q, h.output.0)

abbrev pub LevelledControl : Option Control → Type 0
LevelledControl None = Unit {0}
LevelledControl (Some k) = k.active ≤ 1

-- the second port: its expressions, its level and its wires
abbrev SecondIs : Wires → ℕ → Option PortExprs → Type 0
SecondIs m width None = Unit {0}
SecondIs m width (Some p) = LevelledControl p.read_enable × WideAs m (get_or p.read_data 0 0) width

control_level : (limits : Limits) (o : Option Control) → FitsOption (FitsControl limits) o → LevelledControl o
control_level limits None h = tt
control_level limits (Some k) h = omega (arith, h.active)

grow_reg_enable : {c c' : Context} → Grows c c' → (e : Option RegEnable) → GoodEnable c e → GoodEnable c' e
grow_reg_enable g None h = tt
grow_reg_enable g (Some e) h = (grow_sig g h.0, h.1)

module _ {widest words : ℕ} {D : ℕ → ℕ → Type 0} (room : 36 ≤ widest) (m : Wires) (z : Constants) where
  fit_enable : (o : Option Control) {c : Context} → Ready words c m → Sig c z.zero.0 1 → Sig c z.one.0 1 → LevelledControl o → Fit widest words D c (enable_of m z o) (λ e c'. GoodEnable c' e)
  fit_enable None ready hz ho l = fit_pure tt
  fit_enable (Some k) ready hz ho l = fit_bind (fit_signal room m ready hz ho k.signal) (λ s c₁ g h. fit_pure (h, l))

  fit_own : (width : ℕ) {o : Option ℕ} {target : ℕ} {c : Context} → Wide widest width → FitOwn c width o → Sig c target width → Fit widest words D c (own_expression o width target) (λ e c'. Exp c' e width Any)
  fit_own width wide no_own hs = emit_read wide hs (omega arith) tt
  fit_own width wide (stands h) hs = fit_pure h

  fit_next_read : (width : ℕ) {o own : Option ℕ} {target word : ℕ} {c : Context} → Wide widest width → FitEnabled c o → FitOwn c width own → Sig c target width → Exp c word width Any → Fit widest words D c (next_read o own width target word) (λ e c'. Exp c' e width Any)
  fit_next_read width wide no_enable hw hs hv = fit_pure hv
  fit_next_read width wide (enable h) hw hs hv = fit_bind (fit_own width wide hw hs) (λ e c₁ g ho. emit_mux wide (grow_exp g h) (grow_exp g hv) ho)

  fit_read_port : (p : PortExprs) (o : Option ℕ) (ws : List Word) (width aw clock edge : ℕ) {c : Context} → FitOwn c width o → Wide widest width → Wide widest aw → Ready words c m → Sig c z.zero.0 1 → Sig c z.one.0 1 → FitPort c width aw p
      → length ws ≤ 2 ^ aw → FitWords c words width ws → Sig c clock 1 → edge ≤ 1 → LevelledControl p.read_enable → WideAs m (get_or p.read_data 0 0) width
      → Fit widest words D c (emit_block_ram_read_port m z p o ws width aw clock edge) (λ x c'. Unit {0})
  unfolding emit_block_ram_read_port
  fit_read_port p o ws width aw clock edge own wide aww ready hz ho hp hl hw hk he hen hwide =
      fit_bind (emit_const wide (pow_pos width)) (λ e c₁ g₁ h₁.
      fit_bind (fit_candidates room width aw wide aww p.read_address 0 ws [] (grow_exp g₁ hp.read_address_lem) (omega (arith, hl)) (grow_words g₁ hw) no_node) (λ ns c₂ g₂ hn.
      fit_bind (fit_levels width wide (length ns) ns hn (grow_exp g₂ h₁)) (λ v c₃ g₃ hv.
      let r₃ = grow_ready g₃ (grow_ready g₂ (grow_ready g₁ ready)) in
      fit_bind (fit_ref room m r₃ (get_or p.read_data 0 0)) (λ r c₄ g₄ hr.
      fit_bind (fit_enable p.read_enable (grow_ready g₄ r₃) (grow_sig g₄ (grow_sig g₃ (grow_sig g₂ (grow_sig g₁ hz)))) (grow_sig g₄ (grow_sig g₃ (grow_sig g₂ (grow_sig g₁ ho)))) hen) (λ en c₅ g₅ h₅.
      let hs : Sig c₅ r.signal width = subst (λ (k : ℕ). Sig c₅ r.signal k) (hwide r hr.0) (grow_sig g₅ hr.1) in
      fit_bind (fit_next_read width wide (grow_enabled g₅ (grow_enabled g₄ (grow_enabled g₃ (grow_enabled g₂ (grow_enabled g₁ hp.clock_enabled_lem))))) (grow_own g₅ (grow_own g₄ (grow_own g₃ (grow_own g₂ (grow_own g₁ own))))) hs (grow_exp g₅ (grow_exp g₄ hv))) (λ n c₆ g₆ hx.
      fit_state (width, grow_sig g₆ hs, hx.typed, grow_sig g₆ (grow_sig g₅ (grow_sig g₄ (grow_sig g₃ (grow_sig g₂ (grow_sig g₁ hk))))), he, tt, grow_reg_enable g₆ en h₅)))))))

  fit_second_port : (o : Option PortExprs) (k : Option ℕ) (ws : List Word) (width aw clock edge : ℕ) {c : Context} → FitOwn c width k → Wide widest width → Wide widest aw → Ready words c m → Sig c z.zero.0 1 → Sig c z.one.0 1 → FitSecond c width aw o
      → length ws ≤ 2 ^ aw → FitWords c words width ws → Sig c clock 1 → edge ≤ 1 → SecondIs m width o → Fit widest words D c (emit_second_read_port m z o k ws width aw clock edge) (λ x c'. Unit {0})
  fit_second_port None k ws width aw clock edge own wide aww ready hz ho hp hl hw hk he hs = fit_pure tt
  fit_second_port (Some p) k ws width aw clock edge own wide aww ready hz ho (second hp) hl hw hk he hs = fit_read_port p k ws width aw clock edge own wide aww ready hz ho hp hl hw hk he hs.0 hs.1

  fit_gate : {c : Context} {seen : Seen} → Ready words c m → Stood c m seen → (write : Control) (o : Option Control) → Fit widest words D c (gate m seen write o) (λ r c'. (Exp c' r.value.write_asserted 1 Any × FitEnabled c' r.value.clock_enabled) × Stood c' m r.seen)
  unfolding gate
  fit_gate ready stood write None = fit_bind (fit_asserted_once room m {S = Any} ready stood write (λ y q. tt)) (λ y c₁ g₁ hy. fit_pure ((hy.0, no_enable), hy.1))
  fit_gate ready stood write (Some k) =
      fit_bind (fit_asserted_once room m {S = Any} ready stood write (λ y q. tt)) (λ y c₁ g₁ hy.
      fit_bind (fit_asserted_once room m {S = Any} (grow_ready g₁ ready) hy.1 k (λ y q. tt)) (λ e c₂ g₂ he.
      fit_bind (emit_and (grow_exp g₂ hy.0) he.0) (λ g c₃ g₃ hg. fit_pure ((hg, enable (grow_exp g₃ he.0)), grow_stood g₃ he.1))))

  fit_second_exprs : (limits : Limits) (shift aw width : ℕ) (o : Option SecondPort) {c : Context} {seen : Seen} → Ready words c m → Stood c m seen → Wide widest aw → Wide widest width → FitsOption (FitsSecond limits width) o → SecondSuits D words m width o
      → Fit widest words D c (second_exprs m seen shift aw o) (λ r c'. (FitSecond c' width aw r.value × SecondIs m width r.value) × Stood c' m r.seen)
  fit_second_exprs limits shift aw width None ready stood aww wide sh su = fit_pure ((no_second, tt), stood)
  fit_second_exprs limits shift aw width (Some p) ready stood aww wide sh su =
      let k : length p.input ≡ width = sh.input.0 in
      fit_bind (fit_vector_once room m {S = Any} p.address shift aw ready stood aww (λ y q. tt)) (λ a c₁ g₁ ha.
      let r₁ = grow_ready g₁ ready in
      fit_bind (fit_vector_once room m {S = Any} p.input 0 (length p.input) r₁ ha.1 (omega (arith, k, wide.0), omega (arith, k, wide.1)) (λ y q. tt)) (λ d c₂ g₂ hd.
      fit_bind (fit_gate (grow_ready g₂ r₁) hd.1 p.write p.clock_enable) (λ g c₃ g₃ hg.
      fit_pure (
        (
          second (record { write_address_lem = grow_exp g₃ (grow_exp g₂ ha.0); write_data_lem = subst (λ (j : ℕ). Exp c₃ d.value j Any) k (grow_exp g₃ hd.0); write_asserted_lem = hg.0.0; read_address_lem = grow_exp g₃ (grow_exp g₂ ha.0); clock_enabled_lem = hg.0.1 }),
          (control_level limits p.read_enable sh.read_enable, su),
        ),
        hg.1,
      ))))

  pub fit_block_ram : (limits : Limits) (owner : ℕ) (r : BlockRam) {c : Context} → FitsBlockRam limits r → Ready words c m → {seen : Seen} → Stood c m seen → Sig c z.zero.0 1 → Sig c z.one.0 1 → WideAs m (get_or r.output 0 0) r.width → SecondSuits D words m r.width r.second
      → Fit widest words D c (emit_block_ram m z seen owner r) (λ x c'. Unit {0})
  unfolding emit_block_ram
  fit_block_ram limits owner r sh ready stood hz ho su ss =
      let aw : ℕ = address_width r.depth in
      let shift : ℕ = shift_in (shift_of r.physical) in
      let ad = addressed limits r sh in
      let k : length r.input ≡ r.width = sh.input.0 in
      let wide : Wide widest r.width = (sh.width.0, omega (arith, sh.width.1, room)) in
      let aww : Wide widest aw = (ad.some_bits, omega (arith, ad.few_bits, room)) in
      let edge : r.edge ≤ 1 = omega (arith, sh.edge) in
      fit_bind (fit_vector_once room m {S = Any} r.write_address shift aw ready stood aww (λ y q. tt)) (λ wa c₁ g₁ hwa.
      let r₁ = grow_ready g₁ ready in
      fit_bind (fit_vector_once room m {S = Any} r.read_address shift aw r₁ hwa.1 aww (λ y q. tt)) (λ ra c₂ g₂ hra.
      let r₂ = grow_ready g₂ r₁ in
      fit_bind (fit_vector_once room m {S = Any} r.input 0 (length r.input) r₂ hra.1 (omega (arith, k, wide.0), omega (arith, k, wide.1)) (λ y q. tt)) (λ d c₃ g₃ hd.
      let r₃ = grow_ready g₃ r₂ in
      fit_bind (fit_gate r₃ hd.1 r.write r.clock_enable) (λ g c₄ g₄ hg.
      let r₄ = grow_ready g₄ r₃ in
      fit_bind (fit_second_exprs limits shift aw r.width r.second r₄ hg.1 aww wide sh.second ss) (λ b c₅ g₅ hb.
      let r₅ = grow_ready g₅ r₄ in
      let z₅ = grow_sig g₅ (grow_sig g₄ (grow_sig g₃ (grow_sig g₂ (grow_sig g₁ hz)))) in
      let o₅ = grow_sig g₅ (grow_sig g₄ (grow_sig g₃ (grow_sig g₂ (grow_sig g₁ ho)))) in
      let a : PortExprs = record { write_address = wa.value; write_data = d.value; write_asserted = g.value.write_asserted; read_address = ra.value; read_data = r.output; read_enable = r.read_enable; clock_enabled = g.value.clock_enabled } in
      let ha : FitPort c₅ r.width aw a = record {
        write_address_lem = grow_exp g₅ (grow_exp g₄ (grow_exp g₃ (grow_exp g₂ hwa.0)));
        write_data_lem = subst (λ (j : ℕ). Exp c₅ d.value j Any) k (grow_exp g₅ (grow_exp g₄ hd.0));
        write_asserted_lem = grow_exp g₅ hg.0.0;
        read_address_lem = grow_exp g₅ (grow_exp g₄ (grow_exp g₃ hra.0));
        clock_enabled_lem = grow_enabled g₅ hg.0.1;
      } in
      fit_bind (fit_signal room m r₅ z₅ o₅ r.clock) (λ clock c₆ g₆ hk.
      let r₆ = grow_ready g₆ r₅ in
      fit_bind (fit_words room r.width aw wide aww a b.value owner r.depth 0 [] r₆.many (grow_port g₆ ha) (grow_second g₆ hb.0.0) (omega (arith, ad.covers)) no_word) (λ ws c₇ g₇ hw.
      let r₇ = grow_ready g₇ r₆ in
      let fits : length ws ≤ 2 ^ aw = omega (arith, hw.1, ad.covers) in
      let own : FitOwn c₇ r.width (own_read b.seen r.output) = grow_own g₇ (grow_own g₆ (fit_own_read {m = m} r.width r.output hb.1 (λ q. omega (arith, q, sh.output.0)))) in
      let own₂ : FitOwn c₇ r.width (own_read b.seen (second_output r.second)) = grow_own g₇ (grow_own g₆ (fit_own_read {m = m} r.width (second_output r.second) hb.1 (second_one_bit limits r.width r.second sh.second))) in
      fit_bind (fit_read_port a (own_read b.seen r.output) ws r.width aw clock r.edge own wide aww r₇ (grow_sig g₇ (grow_sig g₆ z₅)) (grow_sig g₇ (grow_sig g₆ o₅)) (grow_port g₇ (grow_port g₆ ha)) fits hw.0 (grow_sig g₇ hk) edge (control_level limits r.read_enable sh.read_enable) su) (λ x c₈ g₈ u.
      fit_bind (fit_second_port b.value (own_read b.seen (second_output r.second)) ws r.width aw clock r.edge (grow_own g₈ own₂) wide aww (grow_ready g₈ r₇) (grow_sig g₈ (grow_sig g₇ (grow_sig g₆ z₅))) (grow_sig g₈ (grow_sig g₇ (grow_sig g₆ o₅))) (grow_second g₈ (grow_second g₇ (grow_second g₆ hb.0.0))) fits (grow_words g₈ hw.0) (grow_sig g₈ (grow_sig g₇ hk)) edge hb.0.1) (λ x c₉ g₉ u.
      fit_last _ (fit_updates room r.width aw wide aww ws clock r.edge (grow_words g₉ (grow_words g₈ hw.0)) (grow_sig g₉ (grow_sig g₈ (grow_sig g₇ hk))) edge))))))))))

-- DISTRIBUTED RAM

four_wide : {widest : ℕ} → 36 ≤ widest → Wide widest 4
four_wide room = (omega arith, omega (arith, room))

module _ {widest words : ℕ} {D : ℕ → ℕ → Type 0} (room : 36 ≤ widest) where
  fit_dram_words : (p : PortExprs) (owner clock edge left index : ℕ) (ws : List Word) {c : Context} → words ≤ length c.signals → FitPort c 4 4 p → Sig c clock 1 → edge ≤ 1 → index + left ≤ 16 → FitWords c words 4 ws
      → Fit widest words D c (dram_words p owner clock edge left index ws) (λ vs c'. FitWords c' words 4 vs × (length vs ≡ length ws + left))
  unfolding dram_words
  fit_dram_words p owner clock edge zero index ws many hp hk he hi h = fit_pure (h, omega arith)
  fit_dram_words p owner clock edge (suc left) index ws many hp hk he hi h =
      fit_bind (fit_word room 4 4 (four_wide room) (four_wide room) p None owner index many hp no_second (omega (arith, hi))) (λ w c₁ g₁ hw.
      fit_bind (fit_state (4, hw.signal, hw.next.typed, grow_sig g₁ hk, he, tt, tt)) (λ x c₂ g₂ u.
      fit_so (fit_dram_words p owner clock edge left (suc index) (ws ++ (w ∷ [])) (omega (arith, many, g₁.many, g₂.many)) (grow_port g₂ (grow_port g₁ hp)) (grow_sig g₂ (grow_sig g₁ hk)) he (omega (arith, hi)) (words_snoc (grow_words g₂ (grow_words g₁ h)) (grow_word g₂ hw)))
      (λ vs c₃ g₃ r. (r.0, omega (arith, r.1, length-append ws (w ∷ []))))))

  fit_dram_select : {S : ℕ → Type 0} (address index : ℕ) (ws : List Word) (now : ℕ) {c : Context} → ((y : ℕ) → words ≤ y → S y) → Exp c address 4 S → index + length ws ≤ 16 → FitWords c words 4 ws → Exp c now 4 S
      → Fit widest words D c (dram_select address index ws now) (λ e c'. Exp c' e 4 S)
  unfolding dram_select
  fit_dram_select address index [] now f ha hi h k = fit_pure k
  fit_dram_select address index (w ∷ ws) now f ha hi (word x h) k =
      fit_bind (emit_const (four_wide room) (omega (arith, hi))) (λ i c₁ g₁ hc.
      fit_bind (emit_eq (grow_exp g₁ ha) hc) (λ e c₂ g₂ he.
      fit_bind (emit_mux (four_wide room) he (exp_so f (grow_exp g₂ (grow_exp g₁ x.current))) (grow_exp g₂ (grow_exp g₁ k))) (λ v c₃ g₃ hv.
      fit_dram_select address (suc index) ws v f (grow_exp g₃ (grow_exp g₂ (grow_exp g₁ ha))) (omega (arith, hi)) (grow_words g₃ (grow_words g₂ (grow_words g₁ h))) hv)))

  pub fit_distributed_ram : (m : Wires) (z : Constants) (owner : ℕ) (r : DistributedRam) {c : Context} → Ready words c m → {seen : Seen} → Stood c m seen → Sig c z.zero.0 1 → Sig c z.one.0 1 → r.edge ≤ 1
      → Suits D words m (get_or r.output 0 0) 4 (λ y. From m r.read_address y ⊎ (words ≤ y)) → Fit widest words D c (emit_distributed_ram m z seen owner r) (λ x c'. Unit {0})
  unfolding emit_distributed_ram
  fit_distributed_ram m z owner r ready stood hz ho edge su =
      let four : Wide widest 4 = four_wide room in
      fit_bind (fit_vector_once room m {S = Any} r.write_address 0 4 ready stood four (λ y q. tt)) (λ wa c₁ g₁ hwa.
      let r₁ = grow_ready g₁ ready in
      fit_bind (fit_vector_once room m {S = λ y. From m r.read_address y ⊎ (words ≤ y)} r.read_address 0 4 r₁ hwa.1 four (λ y q. inl q)) (λ ra c₂ g₂ hra.
      let r₂ = grow_ready g₂ r₁ in
      fit_bind (fit_vector_once room m {S = Any} r.input 0 4 r₂ hra.1 four (λ y q. tt)) (λ d c₃ g₃ hd.
      let r₃ = grow_ready g₃ r₂ in
      fit_bind (fit_asserted_once room m {S = Any} r₃ hd.1 r.write (λ y q. tt)) (λ y c₄ g₄ hy.
      let r₄ = grow_ready g₄ r₃ in
      fit_bind (fit_signal room m r₄ (grow_sig g₄ (grow_sig g₃ (grow_sig g₂ (grow_sig g₁ hz)))) (grow_sig g₄ (grow_sig g₃ (grow_sig g₂ (grow_sig g₁ ho)))) r.clock) (λ clock c₅ g₅ hk.
      let r₅ = grow_ready g₅ r₄ in
      let ra₅ = grow_exp g₅ (grow_exp g₄ (grow_exp g₃ hra.0)) in
      let p : PortExprs = record { write_address = wa.value; write_data = d.value; write_asserted = y.value; read_address = ra.value; read_data = r.output; read_enable = None; clock_enabled = None } in
      let hp : FitPort c₅ 4 4 p = record { write_address_lem = grow_exp g₅ (grow_exp g₄ (grow_exp g₃ (grow_exp g₂ hwa.0))); write_data_lem = grow_exp g₅ (grow_exp g₄ hd.0); write_asserted_lem = grow_exp g₅ hy.0; read_address_lem = any ra₅; clock_enabled_lem = no_enable } in
      fit_bind (fit_dram_words p owner clock r.edge 16 0 [] r₅.many hp hk edge (omega arith) no_word) (λ ws c₆ g₆ hw.
      fit_bind (emit_const {S = λ y. From m r.read_address y ⊎ (words ≤ y)} four (pow_pos 4)) (λ e c₇ g₇ he.
      fit_bind (fit_dram_select ra.value 0 ws e (λ y q. inr q) (grow_exp g₇ (grow_exp g₆ ra₅)) (omega (arith, hw.1)) (grow_words g₇ hw.0) he) (λ v c₈ g₈ hv.
      fit_last _ (fit_assign room m (get_or r.output 0 0) (grow_ready g₈ (grow_ready g₇ (grow_ready g₆ r₅))) su hv)))))))))
