-- Laws of the cells: the ports' expressions come first, and what has been read is kept behind the rest.
use mathlib.Core.Path.{◌≡◌, refl, ap, ap₂, sym, ◌∙◌, subst}
use mathlib.Core.List.{List, [], ◌∷◌, ◌++◌}
use Rattle.std.specs.Prelude.{Option, None, Some, IfSome}
use Prim.Native.Nat.{ℕ, zero, suc}
use lib.ListN.{get_or}
use Rattle.netlist.specs.declared.Bit.{Bit}
use Rattle.netlist.specs.Netlist.{SecondPort, BlockRam, DistributedRam}
use Rattle.netlist.specs.Reader.{address_width, shift_of}
use Rattle.behaviour.specs.Behaviour.{shift_in}
use Rattle.recorder.specs.Record.{Expr.const, Stmt.reg}
use Rattle.recorder.specs.Writer.{Writer, End, emit, state, ◌>>=◌}
use Rattle.recorder.proofs.Events.{bind_assoc}
use Rattle.wires.specs.declared.Constants.{Constants}
use Rattle.wires.specs.declared.Emitter.{Emitter}
use Rattle.wires.specs.declared.WireMap.{WireMap}
use Rattle.wires.specs.Once.{Once}
use Rattle.wires.specs.Wires.{Wires}
use Rattle.wires.specs.Seen.{Seen, Reading, with_seen, keeping}
use Rattle.wires.specs.Expressions.{bit_signal, asserted_once, vector_once, bits_once, assign_wire}
use Rattle.address_mux.proofs.Binds.{bind_cong, bind_four}
use Rattle.memories.specs.declared.Port.{Port}
use Rattle.memories.specs.Memories.{Word, PortExprs, gate, write_word, ram_word, ram_words, own_read, emit_block_ram_read_port, emit_second_read_port, update_words, second_exprs, second_output, emit_block_ram, dram_words, dram_select, emit_distributed_ram}
use Rattle.memories.specs.Rams.{port_with, port_in, second_with, second_in, first_exprs, dram_exprs, second_addressed, addressed, dram_addressed}
use Rattle.memories.specs.Steps.{ram_body, dram_body}

-- another name for the map
pub map_as : {A : Type 0} {e e' : Emitter} {r : End A} {m m' : WireMap} (w : WireMap → Writer (Reading A)) → m ≡ m' → Once e (w m) r e' → Once e (w m') r e'
map_as {e = e} {e' = e'} {r = r} w q h = subst (λ (x : WireMap). Once e (w x) r e') q h

-- A BLOCK RAM

-- of the wires that a port reads to only the first counts
module _ (m : Wires) (z : Constants) (own : Option ℕ) (words : List Word) (width aw clock edge : ℕ) where
  reads_first : (out : List ℕ) (p : Port) → p.read_data ≡ get_or out 0 0 → emit_block_ram_read_port m z (port_with out p) own words width aw clock edge ≡ emit_block_ram_read_port m z (port_in p) own words width aw clock edge
  unfolding emit_block_ram_read_port
  reads_first out p q = ap (λ (x : ℕ). emit_block_ram_read_port m z (port_with (x ∷ []) p) own words width aw clock edge) (sym q)

  reads_second : (out : List ℕ) (b : Option Port) → IfSome b (λ p. p.read_data ≡ get_or out 0 0) → emit_second_read_port m z (second_with out b) own words width aw clock edge ≡ emit_second_read_port m z (second_in b) own words width aw clock edge
  reads_second out None q = refl
  reads_second out (Some p) q = reads_first out p q

module _ (out out' : List ℕ) (p : Port) (owner width aw : ℕ) where
  word_first : (b : Option Port) (i : ℕ) → ram_word (port_with out p) (second_with out' b) owner width aw i ≡ ram_word (port_in p) (second_in b) owner width aw i
  unfolding ram_word write_word
  word_first None i = refl
  word_first (Some q) i = refl

  words_first : (b : Option Port) (left i : ℕ) (ws : List Word) → ram_words (port_with out p) (second_with out' b) owner width aw left i ws ≡ ram_words (port_in p) (second_in b) owner width aw left i ws
  unfolding ram_words
  words_first b zero i ws = refl
  words_first b (suc left) i ws =
      ap (λ (x : Writer Word). x >>= λ w. ram_words (port_with out p) (second_with out' b) owner width aw left (suc i) (ws ++ (w ∷ []))) (word_first b i)
      ∙ bind_cong (ram_word (port_in p) (second_in b) owner width aw i) (λ w. words_first b left (suc i) (ws ++ (w ∷ [])))

pub body_first : (m : Wires) (z : Constants) (owner : ℕ) {own_a own_a' own_b own_b' : Option ℕ} (out out' : List ℕ) (p : Port) (b : Option Port) (aw : ℕ) (r : BlockRam) → p.read_data ≡ get_or out 0 0 → IfSome b (λ p. p.read_data ≡ get_or out' 0 0) → own_a ≡ own_a' → own_b ≡ own_b'
    → ram_body m z owner (port_with out p) own_a' (second_with out' b) own_b' aw r ≡ ram_body m z owner (port_in p) own_a (second_in b) own_b aw r
unfolding ram_body
body_first m z owner {own_a} {own_a'} {own_b} {own_b'} out out' p b aw r f g e h =
    bind_cong _ (λ clock.
    ap (λ (x : Writer (List Word)). x >>= λ words. emit_block_ram_read_port m z (port_with out p) own_a' words r.width aw clock r.edge >>= λ x. emit_second_read_port m z (second_with out' b) own_b' words r.width aw clock r.edge >>= λ y. update_words words clock r.edge) (words_first out out' p owner r.width aw b r.depth 0 [])
    ∙ bind_cong _ (λ words.
    ap₂ (λ (x y : Writer (Unit {0})). x >>= λ u. y >>= λ v. update_words words clock r.edge)
    (reads_first m z own_a' words r.width aw clock r.edge out p f ∙ ap (λ (o : Option ℕ). emit_block_ram_read_port m z (port_in p) o words r.width aw clock r.edge) (sym e))
    (reads_second m z own_b' words r.width aw clock r.edge out' b g ∙ ap (λ (o : Option ℕ). emit_second_read_port m z (second_in b) o words r.width aw clock r.edge) (sym h))))

module _ (m : Wires) (z : Constants) (owner : ℕ) (r : BlockRam) where
  -- all behind the ports' expressions
  abbrev after_all : ℕ → PortExprs → Reading (Option PortExprs) → Writer (Reading (Unit {0}))
  after_all aw a b = bit_signal m z r.clock >>= λ clock. ram_words a b.value owner r.width aw r.depth 0 [] >>= λ words. emit_block_ram_read_port m z a (own_read b.seen r.output) words r.width aw clock r.edge
      >>= λ x. emit_second_read_port m z b.value (own_read b.seen (second_output r.second)) words r.width aw clock r.edge >>= λ y. keeping b.seen (update_words words clock r.edge)

  abbrev pub after_ports : ℕ → PortExprs → Reading (Option PortExprs) → Writer (Reading (Unit {0}))
  after_ports aw a b = keeping b.seen (ram_body m z owner a (own_read b.seen r.output) b.value (own_read b.seen (second_output r.second)) aw r)

  kept : (aw : ℕ) (a : PortExprs) (b : Reading (Option PortExprs)) → after_all aw a b ≡ after_ports aw a b
  unfolding ram_body
  kept aw a b = sym (bind_assoc _ _ _ ∙ bind_cong _ (λ clock. bind_assoc _ _ _ ∙ bind_cong _ (λ words. bind_assoc _ _ _ ∙ bind_cong _ (λ x. bind_assoc _ _ _))))

  split : (seen : Seen) → emit_block_ram m z seen owner r
      ≡ (first_exprs m seen (shift_in (shift_of r.physical)) (address_width r.depth) r >>= λ a. second_exprs m a.seen (shift_in (shift_of r.physical)) (address_width r.depth) r.second >>= λ b. after_all (address_width r.depth) a.value b)
  unfolding emit_block_ram first_exprs
  split seen = sym (bind_four
      (vector_once m seen r.write_address (shift_in (shift_of r.physical)) (address_width r.depth))
      (λ wa. vector_once m wa.seen r.read_address (shift_in (shift_of r.physical)) (address_width r.depth))
      (λ wa ra. bits_once m ra.seen r.input)
      (λ wa ra d. gate m d.seen r.write r.clock_enable)
      (λ wa ra d g. with_seen (record { write_address = wa.value; write_data = d.value; write_asserted = g.value.write_asserted; read_address = ra.value; read_data = r.output; read_enable = r.read_enable; clock_enabled = g.value.clock_enabled }) g.seen)
      (λ a. second_exprs m a.seen (shift_in (shift_of r.physical)) (address_width r.depth) r.second >>= λ b. after_all (address_width r.depth) a.value b))

  block_split : (seen : Seen) {shift aw : ℕ} → shift ≡ shift_in (shift_of r.physical) → aw ≡ address_width r.depth
      → emit_block_ram m z seen owner r ≡ (first_exprs m seen shift aw r >>= λ a. second_exprs m a.seen shift aw r.second >>= λ b. after_ports aw a.value b)
  block_split seen p q =
      split seen
      ∙ bind_cong _ (λ a. bind_cong _ (λ b. kept (address_width r.depth) a.value b))
      ∙ ap₂ (λ (s w : ℕ). first_exprs m seen s w r >>= λ a. second_exprs m a.seen s w r.second >>= λ b. after_ports w a.value b) (sym p) (sym q)

-- addresses come by themselves, and the first port has nothing of the second
pub addressed_split : (m : Wires) (z : Constants) (seen : Seen) (owner : ℕ) (r : BlockRam) (written read second : List Bit) {shift aw : ℕ} → shift ≡ shift_in (shift_of r.physical) → aw ≡ address_width r.depth
    → emit_block_ram m z seen owner (addressed r written read second)
    ≡ (first_exprs m seen shift aw (addressed r written read []) >>= λ a. second_exprs m a.seen shift aw (second_addressed r.second second) >>= λ b. after_ports m z owner (addressed r written read second) aw a.value b)
unfolding first_exprs
addressed_split m z seen owner r written read second p q = block_split m z owner (addressed r written read second) seen p q

-- the address is none of what it reads
pub output_addressed : (o : Option SecondPort) (a : List Bit) → second_output o ≡ second_output (second_addressed o a)
output_addressed None a = refl
output_addressed (Some p) a = refl

-- what follows the ports does not name the addresses
pub body_addressed : (m : Wires) (z : Constants) (owner : ℕ) (a : PortExprs) (own_a : Option ℕ) (b : Option PortExprs) (own_b : Option ℕ) (aw : ℕ) (r : BlockRam) (written read second : List Bit)
    → ram_body m z owner a own_a b own_b aw (addressed r written read second) ≡ ram_body m z owner a own_a b own_b aw r
unfolding ram_body
body_addressed m z owner a own_a b own_b aw r written read second = refl

-- A DISTRIBUTED RAM

module _ (m : Wires) (z : Constants) (seen : Seen) (owner : ℕ) (r : DistributedRam) where
  abbrev after_port : Reading PortExprs → Writer (Reading (Unit {0}))
  after_port p = bit_signal m z r.clock >>= λ clock. dram_words p.value owner clock r.edge 16 0 [] >>= λ words. emit (const 4 0) >>= λ e. dram_select p.value.read_address 0 words e >>= λ v. keeping p.seen (assign_wire m (get_or r.output 0 0) v)

  split_dram : emit_distributed_ram m z seen owner r ≡ (dram_exprs m seen r >>= after_port)
  unfolding emit_distributed_ram dram_exprs
  split_dram = sym (bind_four
      (vector_once m seen r.write_address 0 4)
      (λ wa. vector_once m wa.seen r.read_address 0 4)
      (λ wa ra. vector_once m ra.seen r.input 0 4)
      (λ wa ra d. asserted_once m d.seen r.write)
      (λ wa ra d y. with_seen (record { write_address = wa.value; write_data = d.value; write_asserted = y.value; read_address = ra.value; read_data = r.output; read_enable = None; clock_enabled = None }) y.seen)
      after_port)

  kept_dram : (p : Reading PortExprs) → after_port p ≡ keeping p.seen (dram_body m z owner p.value r)
  unfolding dram_body
  kept_dram p = sym (bind_assoc _ _ _ ∙ bind_cong _ (λ clock. bind_assoc _ _ _ ∙ bind_cong _ (λ words. bind_assoc _ _ _ ∙ bind_cong _ (λ e. bind_assoc _ _ _))))

  pub dram_split : emit_distributed_ram m z seen owner r ≡ (dram_exprs m seen r >>= λ p. keeping p.seen (dram_body m z owner p.value r))
  dram_split = split_dram ∙ bind_cong _ kept_dram

-- the wires that the port reads to do not count
module _ (out : List ℕ) (p : Port) (owner clock edge : ℕ) where
  dram_words_first : (left i : ℕ) (ws : List Word) → dram_words (port_with out p) owner clock edge left i ws ≡ dram_words (port_in p) owner clock edge left i ws
  unfolding dram_words ram_word write_word
  dram_words_first zero i ws = refl
  dram_words_first (suc left) i ws = bind_cong (ram_word (port_in p) None owner 4 4 i) (λ w. bind_cong (state (reg w.signal w.next clock edge None None)) (λ x. dram_words_first left (suc i) (ws ++ (w ∷ []))))

pub dram_first : (m : Wires) (z : Constants) (owner : ℕ) (out : List ℕ) (p : Port) (r : DistributedRam) → dram_body m z owner (port_with out p) r ≡ dram_body m z owner (port_in p) r
unfolding dram_body
dram_first m z owner out p r =
    bind_cong _ (λ clock. ap (λ (w : Writer (List Word)). w >>= λ words. emit (const 4 0) >>= λ e. dram_select p.read_address.0 0 words e >>= λ v. assign_wire m (get_or r.output 0 0) v) (dram_words_first out p owner clock r.edge 16 0 []))

-- the code reads the clock, its edge and the wire by themselves
pub dram_read : (m : Wires) (z : Constants) (owner : ℕ) (p : PortExprs) (r : DistributedRam) {clock : Bit} {edge output : ℕ} → clock ≡ r.clock → edge ≡ r.edge → output ≡ get_or r.output 0 0
    → dram_body m z owner p r ≡ (bit_signal m z clock >>= λ s. dram_words p owner s edge 16 0 [] >>= λ words. emit (const 4 0) >>= λ e. dram_select p.read_address 0 words e >>= λ v. assign_wire m output v)
unfolding dram_body
dram_read m z owner p r {clock} {edge} {output} f g h = λ i. bit_signal m z (sym f i) >>= λ s. dram_words p owner s (sym g i) 16 0 [] >>= λ words. emit (const 4 0) >>= λ e. dram_select p.read_address 0 words e >>= λ v. assign_wire m (sym h i) v

pub ram_read : (m : Wires) (z : Constants) (owner : ℕ) (a : PortExprs) (own_a : Option ℕ) (b : Option PortExprs) (own_b : Option ℕ) (aw : ℕ) (r : BlockRam) {clock : Bit} {edge width depth : ℕ} → clock ≡ r.clock → edge ≡ r.edge → width ≡ r.width → depth ≡ r.depth
    → ram_body m z owner a own_a b own_b aw r
    ≡ (bit_signal m z clock >>= λ s. ram_words a b owner width aw depth 0 [] >>= λ words. emit_block_ram_read_port m z a own_a words width aw s edge >>= λ x. emit_second_read_port m z b own_b words width aw s edge >>= λ y. update_words words s edge)
unfolding ram_body
ram_read m z owner a own_a b own_b aw r f g h k = λ i. bit_signal m z (sym f i) >>= λ s. ram_words a b owner (sym h i) aw (sym k i) 0 [] >>= λ words. emit_block_ram_read_port m z a own_a words (sym h i) aw s (sym g i)
    >>= λ x. emit_second_read_port m z b own_b words (sym h i) aw s (sym g i) >>= λ y. update_words words s (sym g i)

pub dram_addressed_same : (m : Wires) (z : Constants) (owner : ℕ) (p : PortExprs) (r : DistributedRam) (written read : List Bit) → dram_body m z owner p (dram_addressed r written read) ≡ dram_body m z owner p r
unfolding dram_body
dram_addressed_same m z owner p r written read = refl
