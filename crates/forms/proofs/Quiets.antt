-- Writers that make neither signals nor statements.
-- Assumes nothing.
use mathlib.Core.Path.{◌≡◌, refl, ap₂, ◌∙◌}
use mathlib.Core.List.{List, [], ◌∷◌, ◌++◌}
use Rattle.std.specs.Prelude.{Option, None, Some}
use Prim.Native.Nat.{ℕ, zero, suc, ◌+◌}
use lib.Dec.{eqb}
use lib.ListN.{length, get_or}
use Rattle.netlist.specs.declared.Bit.{Bit}
use Rattle.netlist.specs.declared.Bit.TheVariants.{Zero, One, Wire}
use Rattle.netlist.specs.declared.Control.{Control}
use Rattle.netlist.specs.declared.Reset.{Reset}
use Rattle.netlist.specs.Netlist.{SecondPort}
use Rattle.recorder.specs.Record.{Signal, Expr, Stmt}
use Rattle.recorder.specs.Writer.{Event, Event.signal, Event.expr, Event.stmt, signals_of, stmts_of, Count, further, End, End.ok, End.no, Writer, pure, emit, after, ◌>>=◌}
use Rattle.recorder.proofs.Events.{signals_append, stmts_append}
use Rattle.optimize.proofs.Muxes.{by_test}
use Rattle.optimize.specs.Rewrite.{xor_of, mux_of}
use Rattle.optimize.specs.Lut.{lut_cofactor}
use Rattle.behaviour.specs.Banks.{Member}
use Rattle.wires.specs.declared.Constants.{Constants}
use Rattle.wires.specs.Wires.{Wires}
use Rattle.wires.specs.Seen.{Seen, standing, Reading, keeping, forgetting}
use Rattle.wires.specs.Expressions.{wire_ref, bit_expression, bit_signal, asserted_expression, read_once, bit_once, asserted_once, concat_parts, vector_parts, vector_once, vector_expression, read_bits}
use Rattle.address_mux.specs.AddressMux.{Node, mux_levels}
use Rattle.memories.specs.Memories.{Word, PortExprs, gate, write_word, write_second, candidates_from, enable_of, own_expression, next_read, second_exprs, dram_select}
use Rattle.lowering.specs.Emit.{with_enable, with_reset, next_bit, next_bits, reset_bits, bank_reset}
use Rattle.meaning.proofs.Plains.{AllPlain, Plain, plain_ref, plain_signal, plain_levelled, plain_concat, plain_mux, plain_xor, plain_lut, plain_levels, plain_write, plain_second, plain_candidates, plain_enable, plain_select}
use Rattle.forms.specs.Acts.{Quiet}

pub quiet_pure : {A : Type 0} {a : A} → Quiet (pure a)
quiet_pure = record { signals = λ n. refl; stmts = λ n. refl }

pub quiet_emit : {x : Expr} → Quiet (emit x)
quiet_emit = record { signals = λ n. refl; stmts = λ n. refl }

pub quiet_bind : {A B : Type 0} {w : Writer A} {k : A → Writer B} → Quiet w → ((a : A) → Quiet (k a)) → Quiet (w >>= k)
unfolding ◌>>=◌
quiet_bind {A} {B} {w} {k} f g = record { signals = λ n. one n (w n).end; stmts = λ n. two n (w n).end }
  where
    one : (n : Count) (y : End A) → signals_of (after (w n).events y (further n (w n).events) k).events ≡ []
    one n (ok a) = signals_append (w n).events (k a (further n (w n).events)).events ∙ ap₂ (λ (x y : List Signal). x ++ y) (f.signals n) ((g a).signals (further n (w n).events))
    one n (no x y) = f.signals n

    two : (n : Count) (y : End A) → stmts_of (after (w n).events y (further n (w n).events) k).events ≡ []
    two n (ok a) = stmts_append (w n).events (k a (further n (w n).events)).events ∙ ap₂ (λ (x y : List Stmt). x ++ y) (f.stmts n) ((g a).stmts (further n (w n).events))
    two n (no x y) = f.stmts n

-- what makes expressions alone makes neither
plain_events : (es : List Event) → AllPlain es → (signals_of es ≡ []) × (stmts_of es ≡ [])
plain_events [] h = (refl, refl)
plain_events (signal s ∷ es) h = absurd h.0
plain_events (expr x ∷ es) h = plain_events es h.1
plain_events (stmt t ∷ es) h = absurd h.0

quiet_plain : {A : Type 0} {w : Writer A} → Plain w → Quiet w
quiet_plain {w = w} h = record { signals = λ n. (plain_events (w n).events (h.plain n)).0; stmts = λ n. (plain_events (w n).events (h.plain n)).1 }

-- the last step of a cell's, and of a cell
pub quiet_keeping : {A : Type 0} {w : Writer A} (seen : Seen) → Quiet w → Quiet (keeping seen w)
quiet_keeping seen q = quiet_bind q (λ a. quiet_pure)

pub quiet_forgetting : {A : Type 0} {w : Writer (Reading A)} → Quiet w → Quiet (forgetting w)
quiet_forgetting q = quiet_bind q (λ r. quiet_pure)

-- WIRES

module _ (m : Wires) where
  pub quiet_ref : (w : ℕ) → Quiet (wire_ref m w)
  quiet_ref w = quiet_plain (plain_ref m w)

  pub quiet_bit : (b : Bit) → Quiet (bit_expression m b)
  unfolding bit_expression
  quiet_bit Zero = quiet_pure
  quiet_bit One = quiet_pure
  quiet_bit (Wire w) = quiet_bind (quiet_ref w) (λ r. quiet_emit)

  pub quiet_signal : (z : Constants) (b : Bit) → Quiet (bit_signal m z b)
  quiet_signal z b = quiet_plain (plain_signal m z b)

  pub quiet_asserted : (c : Control) → Quiet (asserted_expression m c)
  unfolding asserted_expression
  quiet_asserted c = quiet_bind (quiet_bit c.signal) (λ e. by_test (λ (x : Writer ℕ). Quiet x) (eqb c.active 1) (λ q. quiet_pure) (λ q. quiet_emit))

  -- in a cell

  pub quiet_once : (seen : Seen) (b : Bit) → Quiet (bit_once m seen b)
  unfolding bit_once
  quiet_once seen Zero = quiet_pure
  quiet_once seen One = quiet_pure
  quiet_once seen (Wire w) = go (standing seen w)
    where
      go : (o : Option ℕ) → Quiet (read_once o m seen w)
      go None = quiet_bind (quiet_bit (Wire w)) (λ e. quiet_pure)
      go (Some e) = quiet_pure

  pub quiet_asserted_once : (seen : Seen) (c : Control) → Quiet (asserted_once m seen c)
  unfolding asserted_once
  quiet_asserted_once seen c = quiet_bind (quiet_once seen c.signal) (λ r. quiet_keeping r.seen (quiet_plain (plain_levelled c.active r.value)))

  quiet_parts : (seen : Seen) (bits : List Bit) (at k : ℕ) (ps : List ℕ) → Quiet (vector_parts m seen bits at k ps)
  unfolding vector_parts
  quiet_parts seen bits at zero ps = quiet_pure
  quiet_parts seen bits at (suc k) ps = quiet_bind (quiet_once seen (get_or bits (at + k) Zero)) (λ r. quiet_parts r.seen bits at k (ps ++ (r.value ∷ [])))

  pub quiet_concat : (ps : List ℕ) → Quiet (concat_parts ps)
  quiet_concat ps = quiet_plain (plain_concat ps)

  pub quiet_vector_once : (seen : Seen) (bits : List Bit) (at k : ℕ) → Quiet (vector_once m seen bits at k)
  unfolding vector_once
  quiet_vector_once seen bits at k = quiet_bind (quiet_parts seen bits at k []) (λ r. quiet_keeping r.seen (quiet_concat r.value))

  pub quiet_vector : (bits : List Bit) (at k : ℕ) → Quiet (vector_expression m bits at k)
  unfolding vector_expression
  quiet_vector bits at k = quiet_forgetting (quiet_vector_once [] bits at k)

  pub quiet_reads : (seen : Seen) (bits : List Bit) (ps : List ℕ) → Quiet (read_bits m seen bits ps)
  unfolding read_bits
  quiet_reads seen [] ps = quiet_pure
  quiet_reads seen (b ∷ bs) ps = quiet_bind (quiet_once seen b) (λ r. quiet_reads r.seen bs (ps ++ (r.value ∷ [])))

-- REWRITES AND TABLES

pub quiet_mux : (s t f : ℕ) → Quiet (mux_of s t f)
quiet_mux s t f = quiet_plain (plain_mux s t f)

pub quiet_xor : (a b : ℕ) → Quiet (xor_of a b)
quiet_xor a b = quiet_plain (plain_xor a b)

pub quiet_lut : (xs : List ℕ) (t : ℕ) → Quiet (lut_cofactor xs t)
quiet_lut xs t = quiet_plain (plain_lut xs t)

-- MEMORIES

pub quiet_levels : (fuel width : ℕ) (ns : List Node) (e : ℕ) → Quiet (mux_levels fuel width ns e)
quiet_levels fuel width ns e = quiet_plain (plain_levels fuel width ns e)

pub quiet_gate : (m : Wires) (seen : Seen) (write : Control) (o : Option Control) → Quiet (gate m seen write o)
unfolding gate
quiet_gate m seen write None = quiet_bind (quiet_asserted_once m seen write) (λ y. quiet_pure)
quiet_gate m seen write (Some enable) = quiet_bind (quiet_asserted_once m seen write) (λ y. quiet_bind (quiet_asserted_once m y.seen enable) (λ c. quiet_bind quiet_emit (λ g. quiet_pure)))

pub quiet_write : (p : PortExprs) (width aw index now : ℕ) → Quiet (write_word p width aw index now)
quiet_write p width aw index now = quiet_plain (plain_write p width aw index now)

pub quiet_second : (o : Option PortExprs) (width aw index now : ℕ) → Quiet (write_second o width aw index now)
quiet_second o width aw index now = quiet_plain (plain_second o width aw index now)

pub quiet_candidates : (address aw index : ℕ) (ws : List Word) (ns : List Node) → Quiet (candidates_from address aw index ws ns)
quiet_candidates address aw index ws ns = quiet_plain (plain_candidates address aw index ws ns)

pub quiet_enable : (m : Wires) (z : Constants) (o : Option Control) → Quiet (enable_of m z o)
quiet_enable m z o = quiet_plain (plain_enable m z o)

quiet_own : (o : Option ℕ) (width target : ℕ) → Quiet (own_expression o width target)
quiet_own None width target = quiet_emit
quiet_own (Some e) width target = quiet_pure

pub quiet_next_read : (o own : Option ℕ) (width target word : ℕ) → Quiet (next_read o own width target word)
quiet_next_read None own width target word = quiet_pure
quiet_next_read (Some c) own width target word = quiet_bind (quiet_own own width target) (λ e. quiet_emit)

pub quiet_exprs : (m : Wires) (seen : Seen) (shift aw : ℕ) (o : Option SecondPort) → Quiet (second_exprs m seen shift aw o)
quiet_exprs m seen shift aw None = quiet_pure
quiet_exprs m seen shift aw (Some p) = quiet_bind (quiet_vector_once m seen p.address shift aw) (λ a. quiet_bind (quiet_vector_once m a.seen p.input 0 (length p.input)) (λ d. quiet_bind (quiet_gate m d.seen p.write p.clock_enable) (λ g. quiet_pure)))

pub quiet_select : (address index : ℕ) (ws : List Word) (now : ℕ) → Quiet (dram_select address index ws now)
quiet_select address index ws now = quiet_plain (plain_select address index ws now)

-- FLIP-FLOPS

module _ (m : Wires) where
  quiet_next : (f : Rattle.netlist.specs.Netlist.FlipFlop) → Quiet (next_bit m f)
  unfolding next_bit
  quiet_next f = quiet_bind (quiet_bit m f.input) (λ d. quiet_bind (enable f.enable d) (λ e. reset f.reset e))
    where
      enable : (o : Option Control) (d : ℕ) → Quiet (with_enable m f.output o d)
      enable None d = quiet_pure
      enable (Some c) d = quiet_bind (quiet_ref m f.output) (λ r. quiet_bind quiet_emit (λ q. quiet_bind (quiet_asserted m c) (λ y. quiet_emit)))

      reset : (o : Option Reset) (d : ℕ) → Quiet (with_reset m o d)
      reset None d = quiet_pure
      reset (Some r) d = by_test (λ (x : Writer ℕ). Quiet x) (eqb r.asynchronous 1) (λ q. quiet_pure) (λ q. quiet_bind (quiet_asserted m (record { signal = r.signal; active = r.active })) (λ y. quiet_emit))

  pub quiet_nexts : (fs : List Member) (ps : List ℕ) → Quiet (next_bits m fs ps)
  unfolding next_bits
  quiet_nexts [] ps = quiet_pure
  quiet_nexts (f ∷ fs) ps = quiet_bind (quiet_next f.flop) (λ e. quiet_nexts fs (e ∷ ps))

  pub quiet_bank_reset : (z : Constants) (o : Option Reset) (fs : List Member) → Quiet (bank_reset m z o fs)
  quiet_bank_reset z None fs = quiet_pure
  quiet_bank_reset z (Some r) fs = quiet_bind (quiet_concat m (reset_bits fs [])) (λ v. quiet_bind (quiet_signal m z r.signal) (λ s. quiet_pure))
