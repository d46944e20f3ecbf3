-- Block RAM and distributed RAM, in a tick.
-- Assumes nothing.
use mathlib.Core.Path.{◌≡◌, refl, ap, ap₂, sym, ◌∙◌, subst}
use mathlib.Core.Bool.{Bool, true, false, ◌&&◌}
use mathlib.Core.List.{List, [], ◌∷◌, ◌++◌, append-nil, append_assoc, map}
use Rattle.std.specs.Prelude.{Option, None, Some}
use Prim.Native.Nat.{ℕ, zero, suc, ◌+◌}
use native.Mathlib.Omega.{arith}
use lib.ListN.{length, get_or, length-append, length-map}
use Rattle.bits.specs.Bits.{pick, Bits, window, binary, same_bits}
use Rattle.netlist.specs.declared.Control.{Control}
use Rattle.netlist.specs.Netlist.{SecondPort, BlockRam, DistributedRam}
use Rattle.netlist.specs.Reader.{address_width, shift_of}
use Rattle.netlist.specs.Shape.{FitsOption}
use Rattle.recorder.specs.Record.{Expr.const, Expr.read, RegEnable}
use Rattle.recorder.specs.Evaluate.{Signals, Values}
use Rattle.recorder.specs.Meaning.{Is, Keeps, Base, Makes, Means}
use Rattle.recorder.proofs.Makes.{base_keeps, makes_pure, makes_bind, makes_so, makes_declare, means_emit}
use Rattle.optimize.proofs.Muxes.{and_value, mux_value}
use Rattle.behaviour.specs.Behaviour.{Valuation, asserted, enabled, shift_in}
use Rattle.wires.specs.declared.Constants.{Constants}
use Rattle.wires.specs.Wires.{WireRef, Wires}
use Rattle.wires.specs.Seen.{Seen, standing}
use Rattle.address_mux.specs.AddressMux.{Node}
use Rattle.memories.specs.Memories.{Word, PortExprs, gate, write_word, write_second, ram_word, ram_words, candidates_from, enable_of, own_read, next_read, emit_block_ram_read_port, emit_second_read_port, update_words, second_exprs, second_output, emit_block_ram, dram_words, dram_select, emit_distributed_ram}
use Rattle.meaning.specs.Held.{ref_bit, held, values_at, Driven, Choice, last_choice}
use Rattle.meaning.specs.Settles.{Tick, enable_now, RegOn, Settles, Gets}
use Rattle.meaning.proofs.Settling.{gets_pure, gets_bind, gets_so, gets_any, settles_both, settles_makes, settles_gets, settles_state, settles_pure, settles_bind, settles_so, settles_keeping}
use Rattle.meaning.proofs.BitReads.{ref_gets, IsSignal, signal_gets, Known, known_keeps, asserted_once_lem, vector_once_lem}
use Rattle.meaning.proofs.Tree.{Nodes, nodes_keep, nodes_snoc, tree_means}
use Rattle.meaning.proofs.Equations.{now, some_is, Bases, bases_keep, Knowns, assign_settles}
use Rattle.meaning.proofs.Registers.{and_yes}
use Rattle.meaning.proofs.Owned.{Owned, SecondOwned}

-- what a port brings to a tick; `asserted` is of its write control and its clock enable together
pub record PortValue : Type 0 where
  pub address : Bits
  pub word : Bits
  pub asserted : Bool
  pub read_at : Bits
  pub enabled : Bool

-- a clock enable that is not there is always asserted
data EnabledIs (env : Values) : Option ℕ → Bool → Type 0 where
  always : EnabledIs env None true
  given : {c : ℕ} {b : Bool} → Is env c (b ∷ []) → EnabledIs env (Some c) b

keep_enabled : {env env' : Values} {o : Option ℕ} {b : Bool} → Keeps env env' → EnabledIs env o b → EnabledIs env' o b
keep_enabled k always = always
keep_enabled k (given h) = given (k _ _ h)

record PortIs (env : Values) (p : PortExprs) (v : PortValue) : Type 0 where
  address_is : Is env p.write_address v.address
  word_is : Is env p.write_data v.word
  asserted_is : Is env p.write_asserted (v.asserted ∷ [])
  read_is : Is env p.read_address v.read_at
  enabled_is : EnabledIs env p.clock_enabled v.enabled

keep_port : {env env' : Values} {p : PortExprs} {v : PortValue} → Keeps env env' → PortIs env p v → PortIs env' p v
keep_port k h = record { address_is = k _ _ h.address_is; word_is = k _ _ h.word_is; asserted_is = k _ _ h.asserted_is; read_is = k _ _ h.read_is; enabled_is = keep_enabled k h.enabled_is }

abbrev SecondIs : Values → Option PortExprs → Option PortValue → Type 0
SecondIs env None None = Unit {0}
SecondIs env None (Some v) = ⊥
SecondIs env (Some p) None = ⊥
SecondIs env (Some p) (Some v) = PortIs env p v

keep_second : {env env' : Values} → Keeps env env' → (p : Option PortExprs) (v : Option PortValue) → SecondIs env p v → SecondIs env' p v
keep_second k None None h = tt
keep_second k None (Some v) h = absurd h
keep_second k (Some p) None h = absurd h
keep_second k (Some p) (Some v) h = keep_port k h

-- WORDS

-- a word after a port's write
abbrev pub wrote : PortValue → ℕ → ℕ → Bits → Bits
wrote v aw index now = pick (v.asserted && same_bits v.address (binary aw index)) v.word now

abbrev pub wrote_second : Option PortValue → ℕ → ℕ → Bits → Bits
wrote_second None aw index now = now
wrote_second (Some v) aw index now = wrote v aw index now

module _ (σ : Signals) (width aw : ℕ) where
  write_means : (p : PortExprs) (v : PortValue) (index : ℕ) {now : ℕ} {x : Bits} {env : Values} → PortIs env p v → Is env now x → Means σ env (write_word p width aw index now) (wrote v aw index x)
  unfolding write_word
  write_means p v index h i =
      makes_bind (means_emit {x = const aw index} refl) (λ k env₁ k₁ hk.
      makes_bind (means_emit (ap₂ (λ (a b : Bits). same_bits a b ∷ []) (k₁ _ _ h.address_is).value hk.value)) (λ e env₂ k₂ he.
      makes_bind (and_value σ (k₂ _ _ (k₁ _ _ h.asserted_is)) he) (λ y env₃ k₃ hy.
      mux_value σ hy (k₃ _ _ (k₂ _ _ (k₁ _ _ h.word_is))) (k₃ _ _ (k₂ _ _ (k₁ _ _ i))))))

  second_means : (p : Option PortExprs) (v : Option PortValue) (index : ℕ) {now : ℕ} {x : Bits} {env : Values} → SecondIs env p v → Is env now x → Means σ env (write_second p width aw index now) (wrote_second v aw index x)
  second_means None None index h i = makes_pure i
  second_means None (Some v) index h i = absurd h
  second_means (Some p) None index h i = absurd h
  second_means (Some p) (Some v) index h i = write_means p v index h i

-- the bits of a word's signal before the commit
abbrev pub word_of : Signals → ℕ → ℕ → Bits
word_of σ width s = window (σ s) 0 width

record WordIs (σ : Signals) (width aw : ℕ) (a : PortValue) (b : Option PortValue) (env : Values) (index : ℕ) (w : Word) : Type 0 where
  current_is : Is env w.current (word_of σ width w.signal)
  next_is : Is env w.next (wrote_second b aw index (wrote a aw index (word_of σ width w.signal)))

abbrev WordsAre : Signals → ℕ → ℕ → PortValue → Option PortValue → Values → ℕ → List Word → Type 0
WordsAre σ width aw a b env index [] = Unit {0}
WordsAre σ width aw a b env index (w ∷ ws) = WordIs σ width aw a b env index w × WordsAre σ width aw a b env (suc index) ws

abbrev pub signals_in : List Word → List ℕ
signals_in ws = map (λ (w : Word). w.signal) ws

module _ (σ : Signals) (width aw : ℕ) (a : PortValue) (b : Option PortValue) where
  keep_words : {env env' : Values} → Keeps env env' → (index : ℕ) (ws : List Word) → WordsAre σ width aw a b env index ws → WordsAre σ width aw a b env' index ws
  keep_words k index [] h = tt
  keep_words k index (w ∷ ws) h = (record { current_is = k _ _ h.0.current_is; next_is = k _ _ h.0.next_is }, keep_words k (suc index) ws h.1)

  words_snoc : (env : Values) (index i : ℕ) (ws : List Word) (w : Word) → i ≡ index + length ws → WordsAre σ width aw a b env index ws → WordIs σ width aw a b env i w → WordsAre σ width aw a b env index (ws ++ (w ∷ []))
  words_snoc env index i [] w p h k = (subst (λ (j : ℕ). WordIs σ width aw a b env j w) (let q : i ≡ index = omega (arith, p) in q) k, tt)
  words_snoc env index i (x ∷ ws) w p h k = (h.0, words_snoc env (suc index) i ws w (omega (arith, p)) h.1 k)

  word_makes : (pa : PortExprs) (pb : Option PortExprs) (owner index : ℕ) {env : Values} → PortIs env pa a → SecondIs env pb b → Makes σ env (ram_word pa pb owner width aw index) (λ w env'. WordIs σ width aw a b env' index w)
  unfolding ram_word
  word_makes pa pb owner index {env} ha hb =
      makes_bind (makes_declare {P = λ s env'. Keeps env env'} (λ s e v i. i)) (λ s env₁ k₁ u.
      makes_bind (means_emit {x = read width s 0} refl) (λ q env₂ k₂ hq.
      makes_bind (write_means σ width aw pa a index (keep_port k₂ (keep_port k₁ ha)) hq) (λ n env₃ k₃ hn.
      makes_bind (second_means σ width aw pb b index (keep_second k₃ pb b (keep_second k₂ pb b (keep_second k₁ pb b hb))) hn) (λ n₂ env₄ k₄ h₂.
      makes_pure (record { current_is = k₄ _ _ (k₃ _ _ hq); next_is = h₂ })))))

  words_make : (pa : PortExprs) (pb : Option PortExprs) (owner left index : ℕ) (ws : List Word) {env : Values} → index ≡ length ws → PortIs env pa a → SecondIs env pb b → WordsAre σ width aw a b env 0 ws
      → Makes σ env (ram_words pa pb owner width aw left index ws) (λ vs env'. WordsAre σ width aw a b env' 0 vs)
  unfolding ram_words
  words_make pa pb owner zero index ws p ha hb h = makes_pure h
  words_make pa pb owner (suc left) index ws p ha hb h =
      makes_bind (word_makes pa pb owner index ha hb) (λ w env₁ k hw.
      words_make pa pb owner left (suc index) (ws ++ (w ∷ [])) (omega (arith, p, length-append ws (w ∷ []))) (keep_port k ha) (keep_second k pb b hb)
      (words_snoc env₁ 0 index ws w (omega (arith, p)) (keep_words k 0 ws h) hw))

  -- the candidates of a read address
  abbrev pub choices : Bits → ℕ → List ℕ → List Choice
  choices at index [] = []
  choices at index (s ∷ ss) = record { hit = same_bits at (binary aw index); word = word_of σ width s } ∷ choices at (suc index) ss

  candidates_make : (address : ℕ) (at : Bits) (index : ℕ) (ws : List Word) (ns : List Node) (cs : List Choice) {env : Values} → Is env address at → WordsAre σ width aw a b env index ws → Nodes env ns cs
      → Makes σ env (candidates_from address aw index ws ns) (λ ms env'. Nodes env' ms (cs ++ choices at index (signals_in ws)))
  unfolding candidates_from
  candidates_make address at index [] ns cs i h g = makes_pure (subst (Nodes _ ns) (sym (append-nil cs)) g)
  candidates_make address at index (w ∷ ws) ns cs i h g =
      let c : Choice = record { hit = same_bits at (binary aw index); word = word_of σ width w.signal } in
      makes_bind (means_emit {x = const aw index} refl) (λ k env₁ k₁ hk.
      makes_bind (means_emit (ap₂ (λ (x y : Bits). same_bits x y ∷ []) (k₁ _ _ i).value hk.value)) (λ e env₂ k₂ he.
      makes_so
      (candidates_make address at (suc index) ws (ns ++ (record { matched = e; value = w.current } ∷ [])) (cs ++ (c ∷ [])) (k₂ _ _ (k₁ _ _ i))
      (keep_words k₂ (suc index) ws (keep_words k₁ (suc index) ws h.1))
      (nodes_snoc env₂ ns cs (record { matched = e; value = w.current }) c (nodes_keep k₂ ns cs (nodes_keep k₁ ns cs g)) he (k₂ _ _ (k₁ _ _ h.0.current_is))))
      (λ ms env₃ k₃ r. subst (Nodes env₃ ms) (append_assoc cs (c ∷ []) (choices at (suc index) (signals_in ws))) r)))

-- so many words
words_get : (pa : PortExprs) (pb : Option PortExprs) (owner width aw left index : ℕ) (ws : List Word) → Gets (ram_words pa pb owner width aw left index ws) (λ vs. length vs ≡ length ws + left)
unfolding ram_words
words_get pa pb owner width aw zero index ws = gets_pure (omega arith)
words_get pa pb owner width aw (suc left) index ws =
    gets_bind (gets_any (ram_word pa pb owner width aw index)) (λ w u.
    gets_so (words_get pa pb owner width aw left (suc index) (ws ++ (w ∷ []))) (λ vs q. omega (arith, q, length-append ws (w ∷ []))))

-- A READ PORT

abbrev pub EnableIs : Wires → Constants → Option Control → Option RegEnable → Type 0
EnableIs m z None e = e ≡ None
EnableIs m z (Some c) e = (s : ℕ) × IsSignal m z c.signal s × (e ≡ Some (record { signal = s; active = c.active }))

enable_gets : (m : Wires) (z : Constants) (o : Option Control) → Gets (enable_of m z o) (EnableIs m z o)
enable_gets m z None = gets_pure refl
enable_gets m z (Some c) = gets_bind (signal_gets m z c.signal) (λ s h. gets_pure (s, h, refl))

-- the read of a read register's own signal, where it stands; w is its first wire
data OwnIs (σ : Signals) (m : Wires) (width w : ℕ) (env : Values) : Option ℕ → Type 0 where
  unread : OwnIs σ m width w env None
  stands : {e : ℕ} → ((r : WireRef) → m w ≡ Some r → Is env e (word_of σ width r.signal)) → OwnIs σ m width w env (Some e)

keep_own : {σ : Signals} {m : Wires} {width w : ℕ} {env env' : Values} {o : Option ℕ} → Keeps env env' → OwnIs σ m width w env o → OwnIs σ m width w env' o
keep_own k unread = unread
keep_own k (stands h) = stands (λ r q. k _ _ (h r q))

-- it is that of its one wire, of which the register has the one bit
own_is : {σ : Signals} {m : Wires} {env : Values} {seen : Seen} {width : ℕ} (output : List ℕ) → Known σ m env seen → Owned m width output → OwnIs σ m width (get_or output 0 0) env (own_read seen output)
own_is [] h f = unread
own_is {σ} {m} {env} {seen} {width} (w ∷ []) h f = go (standing seen w) refl
  where
    bit : (e : ℕ) → Is env e (ref_bit σ (m w) ∷ []) → (r : WireRef) → m w ≡ Some r → Is env e (word_of σ width r.signal)
    bit e i r q = subst (λ (k : ℕ). Is env e (word_of σ k r.signal)) f.wide
        (subst (λ (k : ℕ). Is env e (get_or (σ r.signal) k false ∷ [])) (f.lowest r q) (subst (λ (o : Option WireRef). Is env e (ref_bit σ o ∷ [])) q i))

    go : (o : Option ℕ) → standing seen w ≡ o → OwnIs σ m width w env o
    go None q = unread
    go (Some e) q = stands (bit e (h.known w e q))
own_is (w ∷ v ∷ ws) h f = unread

next_read_means : (σ : Signals) (m : Wires) (width w : ℕ) {target : WireRef} {o own : Option ℕ} {word : ℕ} {b : Bool} {x : Bits} {env : Values} → m w ≡ Some target → EnabledIs env o b → OwnIs σ m width w env own → Is env word x
    → Means σ env (next_read o own width target.signal word) (pick b x (word_of σ width target.signal))
next_read_means σ m width w q always own i = makes_pure i
next_read_means σ m width w {target} q (given h) unread i = makes_bind (means_emit {x = read width target.signal 0} refl) (λ o env₁ k₁ ho. mux_value σ (k₁ _ _ h) (k₁ _ _ i) ho)
next_read_means σ m width w {target} q (given h) (stands {e = e} f) i = makes_bind (makes_pure {a = e} {P = λ o env'. Is env' o (word_of σ width target.signal)} (f target q)) (λ o env₁ k₁ ho. mux_value σ (k₁ _ _ h) (k₁ _ _ i) ho)

-- the read register takes the word that its address names, before the commit, or 0; its own while the clock enable is not asserted
pub record ReadPort (κ : Tick) (m : Wires) (z : Constants) (width aw : ℕ) (a : PortValue) (b : Option PortValue) (outputs : List ℕ) (read_enable clock_enable : Option Control) (at : Bits) (words : List ℕ) (clock edge : ℕ) : Type 0 where
  pub target : WireRef
  pub target_is : m (get_or outputs 0 0) ≡ Some target
  pub enable : Option RegEnable
  pub enable_is : EnableIs m z read_enable enable
  pub registered : RegOn κ target.signal
  pub taken : κ.next target.signal
      ≡ pick (κ.fires clock edge && enable_now κ.before enable) (pick (enabled (now κ m) clock_enable) (last_choice (choices κ.before width aw a b at 0 words) (binary width 0)) (word_of κ.before width target.signal)) (κ.before target.signal)

-- a word that a port may write takes its next value
pub record NewWord (κ : Tick) (width aw : ℕ) (a : PortValue) (b : Option PortValue) (clock edge index s : ℕ) : Type 0 where
  pub registered : RegOn κ s
  pub taken : κ.next s ≡ pick (κ.fires clock edge) (wrote_second b aw index (wrote a aw index (word_of κ.before width s))) (κ.before s)

abbrev pub Updated : Tick → ℕ → ℕ → PortValue → Option PortValue → ℕ → ℕ → ℕ → List ℕ → Type 0
Updated κ width aw a b clock edge index [] = Unit {0}
Updated κ width aw a b clock edge index (s ∷ ss) =
    NewWord κ width aw a b clock edge index s × Updated κ width aw a b clock edge (suc index) ss

module _ {K : Type 0} (κ : K → Tick) (Ω : K → Values) (m : Wires) (z : Constants) (width aw : ℕ) (a : K → PortValue) (b : K → Option PortValue) where
  read_port_equation : (p : PortExprs) (own : Option ℕ) (o : Option Control) (at : K → Bits) (ws : List Word) (clock edge : ℕ) {env : K → Values} → ((k : K) → EnabledIs (env k) p.clock_enabled (enabled (now (κ k) m) o)) → ((k : K) → OwnIs (κ k).before m width (get_or p.read_data 0 0) (env k) own) → ((k : K) → Is (env k) p.read_address (at k)) → ((k : K) → WordsAre (κ k).before width aw (a k) (b k) (env k) 0 ws)
      → Settles κ Ω env (emit_block_ram_read_port m z p own ws width aw clock edge) (λ u env'. (k : K) → ReadPort (κ k) m z width aw (a k) (b k) p.read_data p.read_enable o (at k) (signals_in ws) clock edge)
  unfolding emit_block_ram_read_port
  read_port_equation p own o at ws clock edge c s i h =
      settles_bind (settles_makes (λ k. means_emit {x = const width 0} refl)) (λ e env₁ k₁ he.
      settles_bind (settles_makes (λ k. candidates_make (κ k).before width aw (a k) (b k) p.read_address (at k) 0 ws [] [] (k₁ k _ _ (i k)) (keep_words (κ k).before width aw (a k) (b k) (k₁ k) 0 ws (h k)) tt)) (λ ns env₂ k₂ hn.
      settles_bind (settles_makes (λ k. tree_means width ns (choices (κ k).before width aw (a k) (b k) (at k) 0 (signals_in ws)) e (binary width 0) (hn k) (k₂ k _ _ (he k)))) (λ v env₃ k₃ hv.
      settles_bind (settles_gets (ref_gets m (get_or p.read_data 0 0))) (λ r env₄ k₄ hr.
      settles_bind (settles_gets (enable_gets m z p.read_enable)) (λ en env₅ k₅ hen.
      settles_bind (settles_makes (λ k. next_read_means (κ k).before m width (get_or p.read_data 0 0) hr (keep_enabled (k₅ k) (keep_enabled (k₄ k) (keep_enabled (k₃ k) (keep_enabled (k₂ k) (keep_enabled (k₁ k) (c k)))))) (keep_own (k₅ k) (keep_own (k₄ k) (keep_own (k₃ k) (keep_own (k₂ k) (keep_own (k₁ k) (s k)))))) (k₅ k _ _ (k₄ k _ _ (hv k))))) (λ n env₆ k₆ hn'.
      settles_state (λ kp q k. record {
        target = r;
        target_is = hr;
        enable = en;
        enable_is = hen;
        registered = (q k).1;
        taken = (q k).0 ∙ ap (λ (x : Bits). pick ((κ k).fires clock edge && enable_now (κ k).before en) x ((κ k).before r.signal)) (kp k _ _ (hn' k)).value;
      })))))))

  updates_equation : (ws : List Word) (clock edge index : ℕ) {env : K → Values} → ((k : K) → WordsAre (κ k).before width aw (a k) (b k) (env k) index ws)
      → Settles κ Ω env (update_words ws clock edge) (λ u env'. (k : K) → Updated (κ k) width aw (a k) (b k) clock edge index (signals_in ws))
  unfolding update_words
  updates_equation [] clock edge index h = settles_pure (λ k. tt)
  updates_equation (w ∷ ws) clock edge index {env} h =
      settles_bind
      (settles_state {env = env} {P = λ u env'. (k : K) → NewWord (κ k) width aw (a k) (b k) clock edge index w.signal}
      (λ kp q k. record { registered = (q k).1; taken = (q k).0 ∙ ap₂ (λ (x : Bool) (y : Bits). pick x y ((κ k).before w.signal)) (and_yes ((κ k).fires clock edge)) (kp k _ _ (h k).0.next_is).value }))
      (λ u env₁ k₁ t. settles_so (updates_equation ws clock edge (suc index) (λ k. keep_words (κ k).before width aw (a k) (b k) (k₁ k) (suc index) ws (h k).1)) (λ x env₂ k₂ r k. (t k, r k)))

-- BLOCK RAM

abbrev pub shift_for : BlockRam → ℕ
shift_for r = shift_in (shift_of r.physical)

abbrev pub first_value : Valuation → BlockRam → PortValue
first_value v r = record {
  address = values_at v r.write_address (shift_for r) (address_width r.depth);
  word = values_at v r.input 0 (length r.input);
  asserted = enabled v (Some r.write) && enabled v r.clock_enable;
  read_at = values_at v r.read_address (shift_for r) (address_width r.depth);
  enabled = enabled v r.clock_enable;
}

abbrev pub port_value : Valuation → ℕ → ℕ → SecondPort → PortValue
port_value v shift aw p = record {
  address = values_at v p.address shift aw;
  word = values_at v p.input 0 (length p.input);
  asserted = enabled v (Some p.write) && enabled v p.clock_enable;
  read_at = values_at v p.address shift aw;
  enabled = enabled v p.clock_enable;
}

abbrev pub second_value : Valuation → ℕ → ℕ → Option SecondPort → Option PortValue
second_value v shift aw None = None
second_value v shift aw (Some p) = Some (port_value v shift aw p)

-- the second port's expressions, and its wires and read enable
abbrev pub IsSecond : Option SecondPort → Option PortExprs → Type 0
IsSecond None p = p ≡ None
IsSecond (Some q) p = (x : PortExprs) × (p ≡ Some x) × (x.read_data ≡ q.output) × (x.read_enable ≡ q.read_enable)

pub second_gets : (m : Wires) (seen : Seen) (shift aw : ℕ) (o : Option SecondPort) → Gets (second_exprs m seen shift aw o) (λ b. IsSecond o b.value)
second_gets m seen shift aw None = gets_pure refl
second_gets m seen shift aw (Some q) = gets_bind (gets_any _) (λ a u. gets_bind (gets_any _) (λ d v. gets_bind (gets_any _) (λ g w. gets_pure (_, refl, refl, refl))))

-- what the second port reads
abbrev pub SecondRead : Tick → Wires → Constants → ℕ → ℕ → ℕ → PortValue → Option PortValue → Option SecondPort → List ℕ → ℕ → ℕ → Type 0
SecondRead κ m z width aw shift a b None ws clock edge = Unit {0}
SecondRead κ m z width aw shift a b (Some q) ws clock edge = ReadPort κ m z width aw a b q.output q.read_enable q.clock_enable (values_at (now κ m) q.address shift aw) ws clock edge

gate_makes : (σ : Signals) (m : Wires) {env : Values} {seen : Seen} → Base env → Known σ m env seen → (write : Control) (o : Option Control)
    → Makes σ env (gate m seen write o) (λ g env'. Is env' g.value.write_asserted ((enabled (held σ m) (Some write) && enabled (held σ m) o) ∷ []) × EnabledIs env' g.value.clock_enabled (enabled (held σ m) o) × Known σ m env' g.seen)
unfolding gate
gate_makes σ m base known write None = makes_bind (asserted_once_lem m base known write) (λ y env₁ k₁ hy. makes_pure (subst (λ (b : Bool). Is env₁ y.value (b ∷ [])) (sym (and_yes (enabled (held σ m) (Some write)))) hy.0, always, hy.1))
gate_makes σ m base known write (Some enable) =
    makes_bind (asserted_once_lem m base known write) (λ y env₁ k₁ hy.
    makes_bind (asserted_once_lem m (base_keeps k₁ base) hy.1 enable) (λ c env₂ k₂ hc.
    makes_bind (and_value σ (k₂ _ _ hy.0) hc.0) (λ g env₃ k₃ hg. makes_pure (hg, given (k₃ _ _ hc.0), known_keeps k₃ hc.1))))

module _ {K : Type 0} (κ : K → Tick) (Ω : K → Values) (m : Wires) (z : Constants) (shift aw : ℕ) where
  abbrev second : Option SecondPort → K → Option PortValue
  second o k = second_value (now (κ k) m) shift aw o

  second_exprs_lem : (o : Option SecondPort) {env : K → Values} {seen : Seen} → Bases env → Knowns κ m env seen
      → Settles κ Ω env (second_exprs m seen shift aw o) (λ p env'. ((k : K) → SecondIs (env' k) p.value (second o k)) × Knowns κ m env' p.seen)
  second_exprs_lem None base known = settles_pure (λ k. tt, known)
  second_exprs_lem (Some q) base known =
      settles_bind (settles_makes (λ k. vector_once_lem m q.address shift aw (base k) (known k))) (λ a env₁ k₁ ha.
      let b₁ = bases_keep k₁ base in
      settles_bind (settles_makes (λ k. vector_once_lem m q.input 0 (length q.input) (b₁ k) (ha k).1)) (λ d env₂ k₂ hd.
      settles_bind (settles_makes (λ k. gate_makes (κ k).before m (base_keeps (k₂ k) (b₁ k)) (hd k).1 q.write q.clock_enable)) (λ g env₃ k₃ hg.
      settles_pure (
        λ k. record { address_is = k₃ k _ _ (k₂ k _ _ (ha k).0); word_is = k₃ k _ _ (hd k).0; asserted_is = (hg k).0; read_is = k₃ k _ _ (k₂ k _ _ (ha k).0); enabled_is = (hg k).1 },
        λ k. (hg k).2,
      ))))

  second_read : (r : BlockRam) (a : K → PortValue) (o : Option SecondPort) (p : Option PortExprs) (seen : Seen) (ws : List Word) (clock edge : ℕ) {env : K → Values} → IsSecond o p → ((k : K) → SecondIs (env k) p (second o k))
      → Knowns κ m env seen → FitsOption (SecondOwned m r) o → ((k : K) → WordsAre (κ k).before r.width aw (a k) (second o k) (env k) 0 ws)
      → Settles κ Ω env (emit_second_read_port m z p (own_read seen (second_output o)) ws r.width aw clock edge) (λ u env'. (k : K) → SecondRead (κ k) m z r.width aw shift (a k) (second o k) o (signals_in ws) clock edge)
  second_read r a None None seen ws clock edge q h known f w = settles_pure (λ k. tt)
  second_read r a None (Some p) seen ws clock edge q h known f w = absurd (let e : ◌≡◌ {A = ℕ} 0 1 = cc in omega arith)
  second_read r a (Some q) None seen ws clock edge e h known f w = absurd (let y : None ≡ Some e.0 = e.1 in let x : ◌≡◌ {A = ℕ} 0 1 = cc in omega arith)
  second_read r a (Some q) (Some p) seen ws clock edge {env} e h known f w =
      let same : p ≡ e.0 = some_is p e.0 e.1 in
      let outputs : p.read_data ≡ q.output = ap (λ (x : PortExprs). x.read_data) same ∙ e.2 in
      let own : (k : K) → OwnIs (κ k).before m r.width (get_or p.read_data 0 0) (env k) (own_read seen q.output) = λ k. subst (λ (o : List ℕ). OwnIs (κ k).before m r.width (get_or o 0 0) (env k) (own_read seen q.output)) (sym outputs) (own_is q.output (known k) f.owned) in
      settles_so (read_port_equation κ Ω m z r.width aw a (second (Some q)) p (own_read seen q.output) q.clock_enable (λ k. values_at (now (κ k) m) q.address shift aw) ws clock edge (λ k. (h k).enabled_is) own (λ k. (h k).read_is) w) (λ u env₁ k₁ x k.
      subst (λ (o : List ℕ). ReadPort (κ k) m z r.width aw (a k) (second (Some q) k) o q.read_enable q.clock_enable (values_at (now (κ k) m) q.address shift aw) (signals_in ws) clock edge) outputs
      (subst (λ (o : Option Control). ReadPort (κ k) m z r.width aw (a k) (second (Some q) k) p.read_data o q.clock_enable (values_at (now (κ k) m) q.address shift aw) (signals_in ws) clock edge) (ap (λ (x : PortExprs). x.read_enable) same ∙ e.3) (x k)))

-- a block RAM in a tick, whose words have these signals
pub record Remembered (κ : Tick) (m : Wires) (z : Constants) (r : BlockRam) (words : List ℕ) : Type 0 where
  pub clock : ℕ
  pub clock_is : IsSignal m z r.clock clock
  pub first : ReadPort κ m z r.width (address_width r.depth) (first_value (now κ m) r) (second_value (now κ m) (shift_for r) (address_width r.depth) r.second) r.output r.read_enable r.clock_enable (first_value (now κ m) r).read_at words clock r.edge
  pub second_port : SecondRead κ m z r.width (address_width r.depth) (shift_for r) (first_value (now κ m) r) (second_value (now κ m) (shift_for r) (address_width r.depth) r.second) r.second words clock r.edge
  pub updated : Updated κ r.width (address_width r.depth) (first_value (now κ m) r) (second_value (now κ m) (shift_for r) (address_width r.depth) r.second) clock r.edge 0 words

-- words that are there whatever the tick, and so many
pub record Stored {K : Type 0} (P : K → List ℕ → Type 0) (depth : ℕ) : Type 0 where
  pub words : List ℕ
  pub count : length words ≡ depth
  pub stored : (k : K) → P k words

module _ {K : Type 0} (κ : K → Tick) (Ω : K → Values) (m : Wires) (z : Constants) where
  pub block_ram_equation : (owner : ℕ) (r : BlockRam) {env : K → Values} {seen : Seen} → Bases env → Knowns κ m env seen → Owned m r.width r.output → FitsOption (SecondOwned m r) r.second
      → Settles κ Ω env (emit_block_ram m z seen owner r) (λ u env'. Stored (λ k. Remembered (κ k) m z r) r.depth)
  unfolding emit_block_ram
  block_ram_equation owner r base known owned owned₂ =
      let aw : ℕ = address_width r.depth in
      let shift : ℕ = shift_for r in
      let va : K → PortValue = λ k. first_value (now (κ k) m) r in
      let vb : K → Option PortValue = λ k. second_value (now (κ k) m) shift aw r.second in
      settles_bind (settles_makes (λ k. vector_once_lem m r.write_address shift aw (base k) (known k))) (λ wa env₁ k₁ hwa.
      let b₁ = bases_keep k₁ base in
      settles_bind (settles_makes (λ k. vector_once_lem m r.read_address shift aw (b₁ k) (hwa k).1)) (λ ra env₂ k₂ hra.
      let b₂ = bases_keep k₂ b₁ in
      settles_bind (settles_makes (λ k. vector_once_lem m r.input 0 (length r.input) (b₂ k) (hra k).1)) (λ d env₃ k₃ hd.
      let b₃ = bases_keep k₃ b₂ in
      settles_bind (settles_makes (λ k. gate_makes (κ k).before m (b₃ k) (hd k).1 r.write r.clock_enable)) (λ g env₄ k₄ hg.
      let b₄ = bases_keep k₄ b₃ in
      settles_bind (settles_both (settles_gets (second_gets m g.seen shift aw r.second)) (second_exprs_lem κ Ω m z shift aw r.second b₄ (λ k. (hg k).2))) (λ b env₅ k₅ hb.
      settles_bind (settles_gets (signal_gets m z r.clock)) (λ clock env₆ k₆ hc.
      let a : PortExprs = record { write_address = wa.value; write_data = d.value; write_asserted = g.value.write_asserted; read_address = ra.value; read_data = r.output; read_enable = r.read_enable; clock_enabled = g.value.clock_enabled } in
      let ha : (k : K) → PortIs (env₆ k) a (va k) = λ k. record {
        address_is = k₆ k _ _ (k₅ k _ _ (k₄ k _ _ (k₃ k _ _ (k₂ k _ _ (hwa k).0))));
        word_is = k₆ k _ _ (k₅ k _ _ (k₄ k _ _ (hd k).0));
        asserted_is = k₆ k _ _ (k₅ k _ _ (hg k).0);
        read_is = k₆ k _ _ (k₅ k _ _ (k₄ k _ _ (k₃ k _ _ (hra k).0)));
        enabled_is = keep_enabled (k₆ k) (keep_enabled (k₅ k) (hg k).1);
      } in
      let hb₆ : (k : K) → SecondIs (env₆ k) b.value (vb k) = λ k. keep_second (k₆ k) b.value (vb k) (hb.1.0 k) in
      settles_bind (settles_both (settles_gets (words_get a b.value owner r.width aw r.depth 0 [])) (settles_makes (λ k. words_make (κ k).before r.width aw (va k) (vb k) a b.value owner r.depth 0 [] refl (ha k) (hb₆ k) tt))) (λ ws env₇ k₇ hw.
      let s₇ : Knowns κ m env₇ b.seen = λ k. known_keeps (k₇ k) (known_keeps (k₆ k) (hb.1.1 k)) in
      settles_bind (read_port_equation κ Ω m z r.width aw va vb a (own_read b.seen r.output) r.clock_enable (λ k. (va k).read_at) ws clock r.edge (λ k. keep_enabled (k₇ k) (ha k).enabled_is) (λ k. own_is r.output (s₇ k) owned) (λ k. k₇ k _ _ (ha k).read_is) hw.1) (λ u env₈ k₈ first.
      settles_bind (second_read κ Ω m z shift aw r va r.second b.value b.seen ws clock r.edge hb.0 (λ k. keep_second (k₈ k) b.value (vb k) (keep_second (k₇ k) b.value (vb k) (hb₆ k))) (λ k. known_keeps (k₈ k) (s₇ k)) owned₂ (λ k. keep_words (κ k).before r.width aw (va k) (vb k) (k₈ k) 0 ws (hw.1 k))) (λ u env₉ k₉ second.
      settles_keeping b.seen (settles_so (updates_equation κ Ω m z r.width aw va vb ws clock r.edge 0 (λ k. keep_words (κ k).before r.width aw (va k) (vb k) (k₉ k) 0 ws (keep_words (κ k).before r.width aw (va k) (vb k) (k₈ k) 0 ws (hw.1 k)))) (λ x env₁₀ k₁₀ updated.
      record { words = signals_in ws; count = length-map ws _ ∙ hw.0 ∙ omega arith; stored = λ k. record { clock = clock; clock_is = hc; first = first k; second_port = second k; updated = updated k } })))))))))))

-- DISTRIBUTED RAM

updated_snoc : (κ : Tick) (width aw : ℕ) (a : PortValue) (b : Option PortValue) (clock edge index i : ℕ) (ws : List Word) (w : Word) → i ≡ index + length ws → Updated κ width aw a b clock edge index (signals_in ws)
    → NewWord κ width aw a b clock edge i w.signal → Updated κ width aw a b clock edge index (signals_in (ws ++ (w ∷ [])))
updated_snoc κ width aw a b clock edge index i [] w p h t =
    (subst (λ (j : ℕ). NewWord κ width aw a b clock edge j w.signal) (let q : i ≡ index = omega (arith, p) in q) t, tt)
updated_snoc κ width aw a b clock edge index i (x ∷ ws) w p h t = (h.0, updated_snoc κ width aw a b clock edge (suc index) i ws w (omega (arith, p)) h.1 t)

record DramWords {K : Type 0} (κ : K → Tick) (a : K → PortValue) (clock edge left : ℕ) (before : List Word) (env : K → Values) (ws : List Word) : Type 0 where
  words_are : (k : K) → WordsAre (κ k).before 4 4 (a k) None (env k) 0 ws
  updated : (k : K) → Updated (κ k) 4 4 (a k) None clock edge 0 (signals_in ws)
  count : length ws ≡ length before + left

module _ {K : Type 0} (κ : K → Tick) (Ω : K → Values) (p : PortExprs) (a : K → PortValue) (owner clock edge : ℕ) where
  dram_words_lem : (left index : ℕ) (ws : List Word) {env : K → Values} → index ≡ length ws → ((k : K) → PortIs (env k) p (a k)) → ((k : K) → WordsAre (κ k).before 4 4 (a k) None (env k) 0 ws) → ((k : K) → Updated (κ k) 4 4 (a k) None clock edge 0 (signals_in ws))
      → Settles κ Ω env (dram_words p owner clock edge left index ws) (λ vs env'. DramWords κ a clock edge left ws env' vs)
  unfolding dram_words
  dram_words_lem zero index ws q hp h u = settles_pure (record { words_are = h; updated = u; count = omega arith })
  dram_words_lem (suc left) index ws q hp h u =
      settles_bind (settles_makes (λ k. word_makes (κ k).before 4 4 (a k) None p None owner index (hp k) tt)) (λ w env₁ k₁ hw.
      settles_bind
      (settles_state {env = env₁} {P = λ x env'. (k : K) → NewWord (κ k) 4 4 (a k) None clock edge index w.signal}
      (λ kp s k. record { registered = (s k).1; taken = (s k).0 ∙ ap₂ (λ (x : Bool) (y : Bits). pick x y ((κ k).before w.signal)) (and_yes ((κ k).fires clock edge)) (kp k _ _ (hw k).next_is).value }))
      (λ x env₂ k₂ t.
      settles_so
      (dram_words_lem left (suc index) (ws ++ (w ∷ [])) (omega (arith, q, length-append ws (w ∷ []))) (λ k. keep_port (k₂ k) (keep_port (k₁ k) (hp k)))
      (λ k. words_snoc (κ k).before 4 4 (a k) None (env₂ k) 0 index ws w (omega (arith, q)) (keep_words (κ k).before 4 4 (a k) None (k₂ k) 0 ws (keep_words (κ k).before 4 4 (a k) None (k₁ k) 0 ws (h k))) (record { current_is = k₂ k _ _ (hw k).current_is; next_is = k₂ k _ _ (hw k).next_is }))
      (λ k. updated_snoc (κ k) 4 4 (a k) None clock edge 0 index ws w (omega (arith, q)) (u k) (t k)))
      (λ vs env₃ k₃ r. record { words_are = r.words_are; updated = r.updated; count = omega (arith, r.count, length-append ws (w ∷ [])) })))

dram_select_lem : (σ : Signals) (a : PortValue) (address : ℕ) (at : Bits) (index : ℕ) (ws : List Word) (now : ℕ) (v : Bits) {env : Values} → Is env address at → WordsAre σ 4 4 a None env index ws → Is env now v
    → Means σ env (dram_select address index ws now) (last_choice (choices σ 4 4 a None at index (signals_in ws)) v)
unfolding dram_select
dram_select_lem σ a address at index [] now v i h n = makes_pure n
dram_select_lem σ a address at index (w ∷ ws) now v i h n =
    makes_bind (means_emit {x = const 4 index} refl) (λ k env₁ k₁ hk.
    makes_bind (means_emit (ap₂ (λ (x y : Bits). same_bits x y ∷ []) (k₁ _ _ i).value hk.value)) (λ e env₂ k₂ he.
    makes_bind (mux_value σ he (k₂ _ _ (k₁ _ _ h.0.current_is)) (k₂ _ _ (k₁ _ _ n))) (λ x env₃ k₃ hx.
    dram_select_lem σ a address at (suc index) ws x _ (k₃ _ _ (k₂ _ _ (k₁ _ _ i))) (keep_words σ 4 4 a None k₃ (suc index) ws (keep_words σ 4 4 a None k₂ (suc index) ws (keep_words σ 4 4 a None k₁ (suc index) ws h.1))) hx)))

abbrev pub dram_value : Valuation → DistributedRam → PortValue
dram_value v r = record { address = values_at v r.write_address 0 4; word = values_at v r.input 0 4; asserted = asserted v r.write.signal r.write.active; read_at = values_at v r.read_address 0 4; enabled = true }

-- its read is combinational; its words are registers
pub record Distributed (κ : Tick) (m : Wires) (z : Constants) (r : DistributedRam) (words : List ℕ) : Type 0 where
  pub clock : ℕ
  pub clock_is : IsSignal m z r.clock clock
  pub updated : Updated κ 4 4 (dram_value (now κ m) r) None clock r.edge 0 words
  pub shown : Driven κ.before m (get_or r.output 0 0) (last_choice (choices κ.before 4 4 (dram_value (now κ m) r) None (values_at (now κ m) r.read_address 0 4) 0 words) (binary 4 0))

module _ {K : Type 0} (κ : K → Tick) (Ω : K → Values) (m : Wires) (z : Constants) where
  pub distributed_ram_equation : (owner : ℕ) (r : DistributedRam) {env : K → Values} {seen : Seen} → Bases env → Knowns κ m env seen → Settles κ Ω env (emit_distributed_ram m z seen owner r) (λ u env'. Stored (λ k. Distributed (κ k) m z r) 16)
  unfolding emit_distributed_ram
  distributed_ram_equation owner r base known =
      let va : K → PortValue = λ k. dram_value (now (κ k) m) r in
      settles_bind (settles_makes (λ k. vector_once_lem m r.write_address 0 4 (base k) (known k))) (λ wa env₁ k₁ hwa.
      let b₁ = bases_keep k₁ base in
      settles_bind (settles_makes (λ k. vector_once_lem m r.read_address 0 4 (b₁ k) (hwa k).1)) (λ ra env₂ k₂ hra.
      let b₂ = bases_keep k₂ b₁ in
      settles_bind (settles_makes (λ k. vector_once_lem m r.input 0 4 (b₂ k) (hra k).1)) (λ d env₃ k₃ hd.
      let b₃ = bases_keep k₃ b₂ in
      settles_bind (settles_makes (λ k. asserted_once_lem m (b₃ k) (hd k).1 r.write)) (λ y env₄ k₄ hy.
      settles_bind (settles_gets (signal_gets m z r.clock)) (λ clock env₅ k₅ hc.
      let p : PortExprs = record { write_address = wa.value; write_data = d.value; write_asserted = y.value; read_address = ra.value; read_data = r.output; read_enable = None; clock_enabled = None } in
      let hp : (k : K) → PortIs (env₅ k) p (va k) = λ k. record { address_is = k₅ k _ _ (k₄ k _ _ (k₃ k _ _ (k₂ k _ _ (hwa k).0))); word_is = k₅ k _ _ (k₄ k _ _ (hd k).0); asserted_is = k₅ k _ _ (hy k).0; read_is = k₅ k _ _ (k₄ k _ _ (k₃ k _ _ (hra k).0)); enabled_is = always } in
      settles_bind (dram_words_lem κ Ω p va owner clock r.edge 16 0 [] refl hp (λ k. tt) (λ k. tt)) (λ ws env₆ k₆ hw.
      settles_bind (settles_makes (λ k. means_emit {x = const 4 0} refl)) (λ e env₇ k₇ he.
      settles_bind (settles_makes (λ k. dram_select_lem (κ k).before (va k) ra.value (values_at (now (κ k) m) r.read_address 0 4) 0 ws e (binary 4 0) (k₇ k _ _ (k₆ k _ _ (hp k).read_is)) (keep_words (κ k).before 4 4 (va k) None (k₇ k) 0 ws (hw.words_are k)) (he k))) (λ v env₈ k₈ hv.
      settles_keeping y.seen (settles_so (assign_settles κ Ω m (get_or r.output 0 0) hv) (λ u env₉ k₉ dr.
      record { words = signals_in ws; count = length-map ws _ ∙ hw.count ∙ omega arith; stored = λ k. record { clock = clock; clock_is = hc; updated = hw.updated k; shown = dr k } }))))))))))
