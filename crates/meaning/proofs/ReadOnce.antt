-- A cell of a netlist records no read twice.
-- Assumes nothing.
use mathlib.Core.Path.{◌≡◌, refl, ap, ap₂, sym, ◌∙◌, subst}
use mathlib.Core.Logic.{◌⊎◌, inl, inr}
use mathlib.Core.Bool.{Bool, true, false, ◌||◌}
use mathlib.Core.List.Memᴰ.{append_cases}
use mathlib.Core.List.Memᴰ.{cases_cons}
use mathlib.Core.List.Memᴰ.{head as here}
use mathlib.Core.List.Memᴰ.{not-nil}
use mathlib.Core.List.Memᴰ.{tail as there}
use mathlib.Core.List.{List, [], ◌∷◌, ◌++◌, append_assoc, Memᴰ as Mem}
use Rattle.std.specs.Prelude.{Option, None, Some}
use Rattle.bits.proofs.Options.{some_ne_none}
use Prim.Native.Nat.{ℕ, zero, suc, ◌+◌, ◌≤◌, ◌<◌}
use native.Mathlib.Omega.{arith}
use lib.Dec.{eqb}
use lib.ListN.{length, get_or, take, drop}
use Rattle.bits.specs.Bits.{pick}
use Rattle.netlist.specs.declared.Bit.{Bit}
use Rattle.netlist.specs.declared.Bit.TheVariants.{Zero, One, Wire}
use Rattle.netlist.specs.declared.Control.{Control}
use Rattle.netlist.specs.declared.Limits.{Limits}
use Rattle.netlist.specs.Netlist.{SecondPort, BlockRam, DistributedRam, Cell, lut4, pfumx, l6mux21, ccu2c, multiplier, flip_flop, block_ram, distributed_ram, io, jtagg, pll}
use Rattle.netlist.specs.Reader.{address_width, shift_of}
use Rattle.netlist.specs.Shape.{Each, FitsBit, FitsOption, FitsControl, FitsSecond, FitsBlockRam, FitsDistributedRam, FitsCell}
use Rattle.recorder.specs.Record.{Signal, Expr, Expr.const, Expr.read, Expr.concat, Expr.not, Expr.and, Expr.or, Expr.xor, Expr.mux, Expr.eq, Expr.mul, Stmt}
use Rattle.recorder.specs.Writer.{Event, Event.signal, Event.expr, Event.stmt, signals_of, exprs_of, Count, further, End, End.ok, End.no, Out, Writer, pure, refuse, declare, emit, state, after, ◌>>=◌}
use Rattle.recorder.specs.Meaning.{Ends}
use Rattle.recorder.proofs.Events.{signals_append, exprs_append, further_append}
use Rattle.optimize.specs.Rewrite.{mux_of}
use Rattle.optimize.proofs.Muxes.{by_test}
use Rattle.behaviour.specs.WireMap.{slots}
use Rattle.behaviour.specs.Behaviour.{shift_in}
use Rattle.wires.specs.declared.Constants.{Constants}
use Rattle.wires.specs.Seen.{Seen, nothing_seen, standing, noted, Reading, with_seen, keeping, forgetting}
use Rattle.wires.specs.Wires.{WireRef, Wires}
use Rattle.wires.specs.Expressions.{bit_expression, read_once, bit_once, asserted_once, read_bits, vector_parts, vector_once, assign_wire}
use Rattle.cells.specs.Cells.{emit_lut4, emit_pfumx, emit_l6mux21, emit_io, emit_multiplier, ccu_row, emit_ccu2c, assign_all, emit_idle_jtagg, pll_clocks, emit_cycle_pll}
use Rattle.memories.specs.Memories.{Word, PortExprs, gate, ram_word, ram_words, own_read, next_read, emit_block_ram_read_port, emit_second_read_port, update_words, second_exprs, second_output, emit_block_ram, dram_words, emit_distributed_ram}
use Rattle.lowering.specs.Emit.{emit_cell}
use Rattle.meaning.specs.Settles.{Gets}
use Rattle.meaning.specs.Mapped.{no_slot}
use Rattle.meaning.specs.Shared.{Read, reads_in, NoTwo, WiresApart, ReadOnceEach}
use Rattle.meaning.proofs.Settling.{gets_any}
use Rattle.meaning.proofs.Standing.{nothing_long, noted_long, noted_stands, still_stands}
use Rattle.meaning.proofs.BitReads.{ref_gets}
use Rattle.meaning.proofs.Reserving.{reserved_is}
use Rattle.meaning.proofs.Placing.{each_mem, located}
use Rattle.meaning.proofs.Equations.{some_is}
use Rattle.meaning.proofs.Memories.{IsSecond, second_gets}
use Rattle.meaning.proofs.Owned.{Owned, SecondOwned, ReadsOwned, reads_owned}
use Rattle.meaning.proofs.Plains.{AllPlain, Plain, plain_pure, plain_emit, plain_bind, plain_ref, plain_signal, plain_levelled, plain_concat, plain_mux, plain_xor, plain_lut, plain_levels, plain_write, plain_second, plain_candidates, plain_enable, plain_select}

-- WIRES STAND APART

pub wires_apart : WiresApart
wires_apart n m e v w q r i j s l =
    let h = (reserved_is n m e).mapping in
    let a = located n m _ h v q i in
    let b = located n m _ h w r j in
    let z : Wire v ≡ Wire w = sym a.is ∙ ap₂ (λ (x y : ℕ). get_or (get_or (slots n) x no_slot).bits y Zero) s l ∙ b.is in
    cc

-- THE READS OF EVENTS

abbrev reads_of : List Event → List Read
reads_of es = reads_in (exprs_of es)

reads_cons : (x : Expr) (xs : List Expr) → reads_in (x ∷ xs) ≡ reads_in (x ∷ []) ++ reads_in xs
reads_cons (const w v) xs = refl
reads_cons (read w s l) xs = refl
reads_cons (concat w ps) xs = refl
reads_cons (not a) xs = refl
reads_cons (and a b) xs = refl
reads_cons (or a b) xs = refl
reads_cons (xor a b) xs = refl
reads_cons (mux w s t f) xs = refl
reads_cons (eq a b) xs = refl
reads_cons (mul a b) xs = refl

pub reads_append : (xs ys : List Expr) → reads_in (xs ++ ys) ≡ reads_in xs ++ reads_in ys
reads_append [] ys = refl
reads_append (x ∷ xs) ys =
    reads_cons x (xs ++ ys) ∙ ap (λ (l : List Read). reads_in (x ∷ []) ++ l) (reads_append xs ys) ∙ sym (append_assoc (reads_in (x ∷ [])) (reads_in xs) (reads_in ys))
    ∙ ap (λ (l : List Read). l ++ reads_in ys) (sym (reads_cons x xs))

events_append : (es fs : List Event) → reads_of (es ++ fs) ≡ reads_of es ++ reads_of fs
events_append es fs = ap reads_in (exprs_append es fs) ∙ reads_append (exprs_of es) (exprs_of fs)

two_append : (xs ys : List Read) → NoTwo xs → NoTwo ys → ((r : Read) → Mem r xs → Mem r ys → ⊥) → NoTwo (xs ++ ys)
two_append [] ys f g h = g
two_append (x ∷ xs) ys f g h = (λ e. go (append_cases xs e), two_append xs ys f.1 g (λ r a b. h r (there a) b))
  where
    go : Mem x xs ⊎ Mem x ys → ⊥
    go (inl e) = f.0 e
    go (inr e) = h x (here refl) e

-- WRITERS THAT NEITHER READ NOR DECLARE

record Skips {A : Type 0} (w : Writer A) : Type 0 where
  reads : (n : Count) → reads_of (w n).events ≡ []
  signals : (n : Count) → signals_of (w n).events ≡ []

skip_bind : {A B : Type 0} {w : Writer A} {k : A → Writer B} → Skips w → ((a : A) → Skips (k a)) → Skips (w >>= k)
unfolding ◌>>=◌
skip_bind {A} {B} {w} {k} f g = record { reads = λ n. one n (w n).end; signals = λ n. two n (w n).end }
  where
    one : (n : Count) (y : End A) → reads_of (after (w n).events y (further n (w n).events) k).events ≡ []
    one n (ok a) = events_append (w n).events (k a (further n (w n).events)).events ∙ ap₂ (λ (x y : List Read). x ++ y) (f.reads n) ((g a).reads (further n (w n).events))
    one n (no x y) = f.reads n

    two : (n : Count) (y : End A) → signals_of (after (w n).events y (further n (w n).events) k).events ≡ []
    two n (ok a) = signals_append (w n).events (k a (further n (w n).events)).events ∙ ap₂ (λ (x y : List Signal). x ++ y) (f.signals n) ((g a).signals (further n (w n).events))
    two n (no x y) = f.signals n

skip_plain : {A : Type 0} {w : Writer A} → Plain w → Skips w
skip_plain {A} {w} p = record { reads = λ n. none_read (w n).events (p.plain n); signals = λ n. none_made (w n).events (p.plain n) }
  where
    none_read : (es : List Event) → AllPlain es → reads_of es ≡ []
    none_read [] h = refl
    none_read (signal s ∷ es) h = absurd h.0
    none_read (expr x ∷ es) h = reads_cons x (exprs_of es) ∙ ap₂ (λ (a b : List Read). a ++ b) h.0 (none_read es h.1)
    none_read (stmt t ∷ es) h = absurd h.0

    none_made : (es : List Event) → AllPlain es → signals_of es ≡ []
    none_made [] h = refl
    none_made (signal s ∷ es) h = absurd h.0
    none_made (expr x ∷ es) h = none_made es h.1
    none_made (stmt t ∷ es) h = absurd h.0

skip_state : {t : Stmt} → Skips (state t)
skip_state = record { reads = λ n. refl; signals = λ n. refl }

assign_skips : (m : Wires) (w e : ℕ) → Skips (assign_wire m w e)
unfolding assign_wire
assign_skips m w e = skip_bind (skip_plain (plain_ref m w)) (λ r. skip_state)

-- ONE TIME: T says what has been read, by the number of signals so far. No read is of those, and no two are equal

record Leaves {A : Type 0} (T : ℕ → Read → Type 0) (n : Count) (es : List Event) (P : A → ℕ → Type 0) (T' : A → ℕ → Read → Type 0) (a : A) : Type 0 where
  holds : P a (further n es).signals
  reads : (r : Read) → Mem r (reads_of es) → T' a (further n es).signals r
  kept : (r : Read) → T n.signals r → T' a (further n es).signals r

record Told {A : Type 0} (T : ℕ → Read → Type 0) (n : Count) (o : Out A) (P : A → ℕ → Type 0) (T' : A → ℕ → Read → Type 0) : Type 0 where
  two : NoTwo (reads_of o.events)
  new : (r : Read) → Mem r (reads_of o.events) → T n.signals r → ⊥
  leaves : Ends o.end (λ a. Leaves T n o.events P T' a)

record Once {A : Type 0} (T : ℕ → Read → Type 0) (n : Count) (w : Writer A) (P : A → ℕ → Type 0) (T' : A → ℕ → Read → Type 0) : Type 0 where
  told : Told T n (w n) P T'

same_count : (n : Count) (es : List Event) → signals_of es ≡ [] → n.signals ≡ (further n es).signals
same_count n es e = omega (arith, ap length e)

module _ {T : ℕ → Read → Type 0} {n : Count} where
  once_skip : {A : Type 0} {w : Writer A} {R : A → Type 0} → Skips w → Gets w R → Once T n w (λ a k. R a × (k ≡ n.signals)) (λ a. T)
  once_skip {A} {w} {R} s g = record {
    told = record {
      two = subst NoTwo (sym (s.reads n)) tt;
      new = λ r e t. not-nil (subst (λ (l : List Read). Mem r l) (s.reads n) e);
      leaves = go (w n).end (g.gets n);
    };
  }
    where
      es : List Event
      es = (w n).events

      go : (y : End A) → Ends y R → Ends y (λ a. Leaves T n (w n).events (λ a k. R a × (k ≡ n.signals)) (λ a. T) a)
      go (ok a) h = record {
        holds = (h, sym (same_count n (w n).events (s.signals n)));
        reads = λ r e. absurd (not-nil (subst (λ (l : List Read). Mem r l) (s.reads n) e));
        kept = λ r t. subst (λ (k : ℕ). T k r) (same_count n (w n).events (s.signals n)) t;
      }
      go (no x y) h = tt

  once_pure : {A : Type 0} {a : A} {P : A → ℕ → Type 0} {T' : A → ℕ → Read → Type 0} → P a n.signals → ((r : Read) → T n.signals r → T' a n.signals r) → Once T n (pure a) P T'
  once_pure {A} {a} {P} {T'} h f = record {
    told = record {
      two = tt;
      new = λ r e t. not-nil e;
      leaves = record {
        holds = subst (P a) (same_count n [] refl) h;
        reads = λ r e. absurd (not-nil e);
        kept = λ r t. subst (λ (k : ℕ). T' a k r) (same_count n [] refl) (f r t);
      };
    };
  }

  once_refuse : {A : Type 0} {x y : ℕ} {P : A → ℕ → Type 0} {T' : A → ℕ → Read → Type 0} → Once T n (refuse {A = A} x y) P T'
  once_refuse = record { told = record { two = tt; new = λ r e t. not-nil e; leaves = tt } }

  once_declare : {s : Signal} → Once T n (declare s) (λ i k. (i ≡ n.signals) × (k ≡ suc n.signals)) (λ i k. T n.signals)
  once_declare = record { told = record { two = tt; new = λ r e t. not-nil e; leaves = record { holds = (refl, omega arith); reads = λ r e. absurd (not-nil e); kept = λ r t. t } } }

  once_read : {w s l : ℕ} → let r : Read = record { width = w; signal = s; lowest = l } in (T n.signals r → ⊥) → Once T n (emit (read w s l)) (λ e k. k ≡ n.signals) (λ e k x. T k x ⊎ (x ≡ r))
  once_read {w} {s} {l} f = record {
    told = record {
      two = (λ e. not-nil e, tt);
      new = λ r e t. go r (cases_cons e) t;
      leaves = record { holds = omega arith; reads = λ r e. inr (one r (cases_cons e)); kept = λ r t. inl (subst (λ (k : ℕ). T k r) (same_count n (expr (read w s l) ∷ []) refl) t) };
    };
  }
    where
      x : Read
      x = record { width = w; signal = s; lowest = l }

      one : (r : Read) → (r ≡ x) ⊎ Mem r [] → r ≡ x
      one r (inl e) = e
      one r (inr e) = absurd (not-nil e)

      go : (r : Read) → (r ≡ x) ⊎ Mem r [] → T n.signals r → ⊥
      go r e t = f (subst (T n.signals) (one r e) t)

module _ {A B : Type 0} (T : ℕ → Read → Type 0) (n : Count) (w : Writer A) (c : A → Writer B) (P : A → ℕ → Type 0) (T₁ : A → ℕ → Read → Type 0) (Q : B → ℕ → Type 0) (T₂ : B → ℕ → Read → Type 0)
    (f : Told T n (w n) P T₁) (g : (a : A) (n₁ : Count) → P a n₁.signals → Once (T₁ a) n₁ (c a) Q T₂) where
  abbrev es : List Event
  es = (w n).events

  abbrev m : Count
  m = further n es

  joined : (a : A) → Leaves T n es P T₁ a → Told (T₁ a) m (c a m) Q T₂ → Told T n (record { events = es ++ (c a m).events; end = (c a m).end }) Q T₂
  joined a h o = record {
    two = subst NoTwo (sym (events_append es fs)) (two_append (reads_of es) (reads_of fs) f.two o.two (λ r x y. o.new r y (h.reads r x)));
    new = λ r e t. split r (parted r e) (f.new r) (o.new r) t;
    leaves = last (c a m).end o.leaves;
  }
    where
      fs : List Event
      fs = (c a m).events

      parted : (r : Read) → Mem r (reads_of (es ++ fs)) → Mem r (reads_of es) ⊎ Mem r (reads_of fs)
      parted r e = append_cases (reads_of es) (subst (λ (l : List Read). Mem r l) (events_append es fs) e)

      split : (r : Read) → Mem r (reads_of es) ⊎ Mem r (reads_of fs) → (Mem r (reads_of es) → T n.signals r → ⊥) → (Mem r (reads_of fs) → T₁ a m.signals r → ⊥) → T n.signals r → ⊥
      split r (inl e) i j t = i e t
      split r (inr e) i j t = j e (h.kept r t)

      count : (further m fs).signals ≡ (further n (es ++ fs)).signals
      count = ap (λ (k : Count). k.signals) (sym (further_append n es fs))

      end : (b : B) → Leaves (T₁ a) m fs Q T₂ b → Leaves T n (es ++ fs) Q T₂ b
      end b l = record {
        holds = subst (Q b) count l.holds;
        reads = λ r e. subst (λ (k : ℕ). T₂ b k r) count (late r (parted r e));
        kept = λ r t. subst (λ (k : ℕ). T₂ b k r) count (l.kept r (h.kept r t));
      }
        where
          late : (r : Read) → Mem r (reads_of es) ⊎ Mem r (reads_of fs) → T₂ b (further m fs).signals r
          late r (inl e) = l.kept r (h.reads r e)
          late r (inr e) = l.reads r e

      last : (y : End B) → Ends y (λ b. Leaves (T₁ a) m fs Q T₂ b) → Ends y (λ b. Leaves T n (es ++ fs) Q T₂ b)
      last (ok b) l = end b l
      last (no x y) l = tt

  go : (y : End A) → Ends y (λ a. Leaves T n es P T₁ a) → Told T n (after es y m c) Q T₂
  go (ok a) h = joined a h (g a m h.holds).told
  go (no x y) h = record { two = f.two; new = f.new; leaves = tt }

module _ {A B : Type 0} {T : ℕ → Read → Type 0} {n : Count} {w : Writer A} {c : A → Writer B} {P : A → ℕ → Type 0} {T₁ : A → ℕ → Read → Type 0} {Q : B → ℕ → Type 0} {T₂ : B → ℕ → Read → Type 0} where
  once_bind : Once T n w P T₁ → ((a : A) (n₁ : Count) → P a n₁.signals → Once (T₁ a) n₁ (c a) Q T₂) → Once T n (w >>= c) Q T₂
  unfolding ◌>>=◌
  once_bind f g = record { told = go T n w c P T₁ Q T₂ f.told g (w n).end f.told.leaves }

module _ {A : Type 0} {T : ℕ → Read → Type 0} {n : Count} {w : Writer A} {P : A → ℕ → Type 0} {T' : A → ℕ → Read → Type 0} where
  -- more may have been read
  once_from : (T₀ : ℕ → Read → Type 0) → ((r : Read) → T₀ n.signals r → T n.signals r) → Once T n w P T' → Once T₀ n w P T'
  once_from T₀ i f = record { told = record { two = f.told.two; new = λ r e t. f.told.new r e (i r t); leaves = go (w n).end f.told.leaves } }
    where
      go : (y : End A) → Ends y (λ a. Leaves T n (w n).events P T' a) → Ends y (λ a. Leaves T₀ n (w n).events P T' a)
      go (ok a) h = record { holds = h.holds; reads = h.reads; kept = λ r t. h.kept r (i r t) }
      go (no x y) h = tt

  once_so : {Q : A → ℕ → Type 0} {U : A → ℕ → Read → Type 0} → ((a : A) (k : ℕ) → P a k → Q a k) → ((a : A) (k : ℕ) (r : Read) → T' a k r → U a k r) → Once T n w P T' → Once T n w Q U
  once_so {Q} {U} g h f = record { told = record { two = f.told.two; new = f.told.new; leaves = go (w n).end f.told.leaves } }
    where
      go : (y : End A) → Ends y (λ a. Leaves T n (w n).events P T' a) → Ends y (λ a. Leaves T n (w n).events Q U a)
      go (ok a) l = record { holds = g a _ l.holds; reads = λ r e. h a _ r (l.reads r e); kept = λ r t. h a _ r (l.kept r t) }
      go (no x y) l = tt

  once_gets : {R : A → Type 0} → Gets w R → Once T n w P T' → Once T n w (λ a k. R a × P a k) T'
  once_gets {R} g f = record { told = record { two = f.told.two; new = f.told.new; leaves = go (w n).end f.told.leaves (g.gets n) } }
    where
      go : (y : End A) → Ends y (λ a. Leaves T n (w n).events P T' a) → Ends y R → Ends y (λ a. Leaves T n (w n).events (λ b k. R b × P b k) T' a)
      go (ok a) h i = record { holds = (i, h.holds); reads = h.reads; kept = h.kept }
      go (no x y) h i = tt

-- whatever is read after it
abbrev Clean : {A : Type 0} → (ℕ → Read → Type 0) → Count → Writer A → Type 0
Clean T n w = Once T n w (λ a k. Unit {0}) (λ a k r. Unit {0})

clean_skip : {A : Type 0} {T : ℕ → Read → Type 0} {n : Count} {w : Writer A} → Skips w → Clean T n w
clean_skip {w = w} s = once_so (λ a k p. tt) (λ a k r t. tt) (once_skip s (gets_any w))

-- the last steps of a cell
clean_last : {A B : Type 0} {T : ℕ → Read → Type 0} {n : Count} (seen : Seen) {w : Writer A} {v : A → Writer B} → Plain w → ((a : A) → Skips (v a)) → Clean T n (w >>= λ a. keeping seen (v a))
clean_last seen p s = clean_skip (skip_bind (skip_plain p) (λ a. skip_bind (s a) (λ b. skip_plain plain_pure)))

-- READS OF WIRES

-- a read of the signal of wire w
record ReadOf (m : Wires) (f : WireRef → Read) (w : ℕ) (r : Read) : Type 0 where
  ref : WireRef
  found : m w ≡ Some ref
  is : r ≡ f ref

-- of its bit, and of the whole of a signal of this width
abbrev bit_of : WireRef → Read
bit_of q = record { width = 1; signal = q.signal; lowest = q.lsb }

abbrev whole_of : ℕ → WireRef → Read
whole_of width q = record { width = width; signal = q.signal; lowest = 0 }

-- a wire that stands has been read
record Taken (m : Wires) (seen : Seen) (r : Read) : Type 0 where
  wire : ℕ
  expr : ℕ
  stands : standing seen wire ≡ Some expr
  read : ReadOf m bit_of wire r

module _ (m : Wires) {T : ℕ → Read → Type 0} {n : Count} where
  wire_once : (w : ℕ) → ((q : WireRef) → m w ≡ Some q → T n.signals (bit_of q) → ⊥) → Once T n (bit_expression m (Wire w)) (λ e k. k ≡ n.signals) (λ e k r. T k r ⊎ ReadOf m bit_of w r)
  unfolding bit_expression
  wire_once w f = once_bind (once_skip (skip_plain (plain_ref m w)) (ref_gets m w)) (λ q n₁ p.
      once_so (λ e k z. z ∙ p.1) (λ e k r t. of q p.0 k r t) (once_read (λ t. f q p.0 (subst (λ (k : ℕ). T k (bit_of q)) p.1 t))))
    where
      of : (q : WireRef) → m w ≡ Some q → (k : ℕ) (r : Read) → T k r ⊎ (r ≡ bit_of q) → T k r ⊎ ReadOf m bit_of w r
      of q i k r (inl t) = inl t
      of q i k r (inr e) = inr (record { ref = q; found = i; is = e })

-- READING A CELL'S BITS: what it shares has room for every wire

module _ (limits : Limits) (m : Wires) where
  abbrev ReadsOnce : {A : Type 0} → Seen → Count → Writer (Reading A) → Type 0
  ReadsOnce seen n w = Once (λ k. Taken m seen) n w (λ r k. (limits.wires ≤ length r.seen) × (k ≡ n.signals)) (λ r k. Taken m r.seen)

  module _ {A : Type 0} {seen : Seen} {n : Count} (long : limits.wires ≤ length seen) where
    reads_pure : {a : A} → ReadsOnce seen n (pure (with_seen a seen))
    reads_pure = once_pure (long, refl) (λ r t. t)

    -- steps that read nothing, and a value of theirs
    reads_skip : {B : Type 0} {w : Writer B} (f : B → A) → Skips w → ReadsOnce seen n (w >>= λ b. pure (with_seen (f b) seen))
    reads_skip {w = w} f s = once_bind (once_skip s (gets_any w)) (λ b n₁ p. once_pure (long, p.1) (λ r t. t))

  module _ {A B : Type 0} {seen : Seen} {n : Count} {w : Writer (Reading A)} {k : Reading A → Writer (Reading B)} where
    reads_bind : ReadsOnce seen n w → ((r : Reading A) (n₁ : Count) → limits.wires ≤ length r.seen → ReadsOnce r.seen n₁ (k r)) → ReadsOnce seen n (w >>= k)
    reads_bind f g = once_bind f (λ r n₁ p. once_so (λ a k q. (q.0, q.1 ∙ p.1)) (λ a k r t. t) (g r n₁ p.0))

  module _ {A B : Type 0} {seen : Seen} {n : Count} {w : Writer A} {k : A → Writer (Reading B)} where
    reads_after : Skips w → ((a : A) (n₁ : Count) → ReadsOnce seen n₁ (k a)) → ReadsOnce seen n (w >>= k)
    reads_after s g = once_bind (once_skip s (gets_any w)) (λ a n₁ p. once_so (λ b k q. (q.0, q.1 ∙ p.1)) (λ b k r t. t) (g a n₁))

module _ (limits : Limits) (m : Wires) (apart : (v w : ℕ) (q r : WireRef) → m v ≡ Some q → m w ≡ Some r → q.signal ≡ r.signal → q.lsb ≡ r.lsb → v ≡ w) where
  -- a wire that does not stand has not been read
  not_taken : {seen : Seen} (w : ℕ) → standing seen w ≡ None → (q : WireRef) → m w ≡ Some q → Taken m seen (bit_of q) → ⊥
  not_taken {seen} w s q i t =
      let e = t.read.is in
      let z : w ≡ t.wire = apart w t.wire q t.read.ref i t.read.found (ap (λ (r : Read). r.signal) e) (ap (λ (r : Read). r.lowest) e) in
      some_ne_none t.expr (sym t.stands ∙ ap (standing seen) (sym z) ∙ s)

  once_bit : (b : Bit) {seen : Seen} {n : Count} → limits.wires ≤ length seen → FitsBit limits b → ReadsOnce limits m seen n (bit_once m seen b)
  unfolding bit_once
  once_bit Zero long f = reads_pure limits m long
  once_bit One long f = reads_pure limits m long
  once_bit (Wire w) {seen} {n} long f = go (standing seen w) refl
    where
      go : (o : Option ℕ) → standing seen w ≡ o → ReadsOnce limits m seen n (read_once o m seen w)
      go (Some e) q = reads_pure limits m long
      go None q =
          once_bind (wire_once m w (not_taken w q)) (λ e n₁ p. once_pure (omega (arith, noted_long seen w e, long), p) (λ r t. then e r t))
        where
          then : (e : ℕ) (r : Read) → Taken m seen r ⊎ ReadOf m bit_of w r → Taken m (noted seen w e) r
          then e r (inl t) = record { wire = t.wire; expr = t.expr; stands = still_stands seen w e t.wire q t.stands; read = t.read }
          then e r (inr t) = record { wire = w; expr = e; stands = noted_stands seen w e (omega (arith, f, long)); read = t }

  fits_bit : (bits : List Bit) (i : ℕ) → Each (FitsBit limits) bits → FitsBit limits (get_or bits i Zero)
  fits_bit [] i f = tt
  fits_bit (b ∷ bits) zero f = f.0
  fits_bit (b ∷ bits) (suc i) f = fits_bit bits i f.1

  once_asserted : (c : Control) {seen : Seen} {n : Count} → limits.wires ≤ length seen → FitsControl limits c → ReadsOnce limits m seen n (asserted_once m seen c)
  unfolding asserted_once
  once_asserted c long f = reads_bind limits m (once_bit c.signal long f.signal) (λ r n₁ l. reads_skip limits m l (λ e. e) (skip_plain (plain_levelled c.active r.value)))

  once_reads : (bits : List Bit) (done : List ℕ) {seen : Seen} {n : Count} → limits.wires ≤ length seen → Each (FitsBit limits) bits → ReadsOnce limits m seen n (read_bits m seen bits done)
  unfolding read_bits
  once_reads [] done long f = reads_pure limits m long
  once_reads (b ∷ bits) done long f = reads_bind limits m (once_bit b long f.0) (λ r n₁ l. once_reads bits (done ++ (r.value ∷ [])) l f.1)

  module _ (bits : List Bit) (at : ℕ) (fits : Each (FitsBit limits) bits) where
    once_parts : (k : ℕ) (ps : List ℕ) {seen : Seen} {n : Count} → limits.wires ≤ length seen → ReadsOnce limits m seen n (vector_parts m seen bits at k ps)
    unfolding vector_parts
    once_parts zero ps long = reads_pure limits m long
    once_parts (suc k) ps long = reads_bind limits m (once_bit (get_or bits (at + k) Zero) long (fits_bit bits (at + k) fits)) (λ r n₁ l. once_parts k (ps ++ (r.value ∷ [])) l)

    once_vector : (k : ℕ) {seen : Seen} {n : Count} → limits.wires ≤ length seen → ReadsOnce limits m seen n (vector_once m seen bits at k)
    unfolding vector_once
    once_vector k long = reads_bind limits m (once_parts k [] long) (λ r n₁ l. reads_skip limits m l (λ e. e) (skip_plain (plain_concat r.value)))

  -- CELLS

  three_clean : (first second third : Bit) (output : ℕ) (s t f : (a b c : ℕ) → ℕ) {seen : Seen} {n : Count} → limits.wires ≤ length seen → FitsBit limits first → FitsBit limits second → FitsBit limits third
      → Clean (λ k. Taken m seen) n (bit_once m seen first >>= λ a. bit_once m a.seen second >>= λ b. bit_once m b.seen third >>= λ c. mux_of (s a.value b.value c.value) (t a.value b.value c.value) (f a.value b.value c.value) >>= λ v. keeping c.seen (assign_wire m output v))
  three_clean first second third output s t f long f₁ f₂ f₃ =
      once_bind (once_bit first long f₁) (λ a n₁ p. once_bind (once_bit second p.0 f₂) (λ b n₂ q. once_bind (once_bit third q.0 f₃) (λ c n₃ r.
      clean_last c.seen (plain_mux (s a.value b.value c.value) (t a.value b.value c.value) (f a.value b.value c.value)) (λ v. assign_skips m output v))))

  row_once : (inputs : List Bit) (init inject sum carry : ℕ) {seen : Seen} {n : Count} → limits.wires ≤ length seen → Each (FitsBit limits) inputs → ReadsOnce limits m seen n (ccu_row m seen inputs init inject sum carry)
  unfolding ccu_row
  row_once inputs init inject sum carry long f =
      reads_bind limits m (once_reads inputs [] long f) (λ es n₁ l.
      reads_after limits m (skip_plain (plain_lut es.value init)) (λ x n₂.
      reads_after limits m (skip_plain (plain_lut (get_or es.value 0 0 ∷ get_or es.value 1 0 ∷ 0 ∷ 0 ∷ []) init)) (λ k n₃.
      reads_after limits m (skip_plain (plain_xor x (pick (eqb inject 1) 0 carry))) (λ s n₄.
      reads_after limits m (assign_skips m sum s) (λ u n₅.
      reads_skip limits m l (λ e. e) (skip_plain (plain_mux x (pick (eqb inject 1) 0 carry) k)))))))

  -- MEMORIES

  once_gate : (write : Control) (o : Option Control) {seen : Seen} {n : Count} → limits.wires ≤ length seen → FitsControl limits write → FitsOption (FitsControl limits) o → ReadsOnce limits m seen n (gate m seen write o)
  unfolding gate
  once_gate write None long f g = reads_bind limits m (once_asserted write long f) (λ y n₁ l. reads_pure limits m l)
  once_gate write (Some enable) long f g =
      reads_bind limits m (once_asserted write long f) (λ y n₁ l.
      reads_bind limits m (once_asserted enable l g) (λ c n₂ l₂.
      reads_skip limits m l₂ (λ g. record { write_asserted = g; clock_enabled = Some c.value }) (skip_plain (plain_emit refl))))

  once_second : (shift aw width : ℕ) (o : Option SecondPort) {seen : Seen} {n : Count} → limits.wires ≤ length seen → FitsOption (FitsSecond limits width) o → ReadsOnce limits m seen n (second_exprs m seen shift aw o)
  once_second shift aw width None long f = reads_pure limits m long
  once_second shift aw width (Some p) long f =
      reads_bind limits m (once_vector p.address shift f.address.1 aw long) (λ a n₁ l.
      reads_bind limits m (once_vector p.input 0 f.input.1 (length p.input) l) (λ d n₂ l₂.
      reads_bind limits m (once_gate p.write p.clock_enable l₂ f.write f.clock_enable) (λ g n₃ l₃. reads_pure limits m l₃)))

-- words that are declared from number `base` on, besides those of S
abbrev Words : ℕ → (Read → Type 0) → ℕ → Read → Type 0
Words base S k r = S r ⊎ ((base ≤ r.signal) × (r.signal < k))

module _ (base : ℕ) (S : Read → Type 0) (below : (r : Read) → S r → r.signal < base) where
  word_new : (width k s : ℕ) → base ≤ k → s ≡ k → Words base S k (record { width = width; signal = s; lowest = 0 }) → ⊥
  word_new width k s h e (inl t) = let l : s < base = below (record { width = width; signal = s; lowest = 0 }) t in omega arith
  word_new width k s h e (inr p) = omega (arith, p.1)

  word_kept : (width k s : ℕ) → base ≤ k → s ≡ k → (r : Read) → Words base S k r ⊎ (r ≡ record { width = width; signal = s; lowest = 0 }) → Words base S (suc k) r
  word_kept width k s h e r (inl (inl t)) = inl t
  word_kept width k s h e r (inl (inr p)) = inr (p.0, omega (arith, p.1))
  word_kept width k s h e r (inr q) = let z : r.signal ≡ s = ap (λ (x : Read). x.signal) q in inr (omega arith, omega arith)

  once_word : (a : PortExprs) (b : Option PortExprs) (owner width aw index : ℕ) {n : Count} → base ≤ n.signals → Once (Words base S) n (ram_word a b owner width aw index) (λ w k. base ≤ k) (λ w. Words base S)
  unfolding ram_word
  once_word a b owner width aw index {n} h =
      once_bind once_declare (λ s n₁ p.
      once_bind (once_read (word_new width n.signals s h p.0)) (λ q n₂ e.
      once_from _ (λ r t. subst (λ (k : ℕ). Words base S k r) (sym (e ∙ p.1)) (word_kept width n.signals s h p.0 r t))
      (once_so (λ w k z. omega (arith, z.1, e, p.1, h)) (λ w k r t. t) (once_skip (skip_plain (plain_bind (plain_write a width aw index q) (λ x. plain_bind (plain_second b width aw index x) (λ y. plain_pure)))) (gets_any _)))))

  once_words : (a : PortExprs) (b : Option PortExprs) (owner width aw left index : ℕ) (ws : List Word) {n : Count} → base ≤ n.signals → Once (Words base S) n (ram_words a b owner width aw left index ws) (λ vs k. base ≤ k) (λ vs. Words base S)
  unfolding ram_words
  once_words a b owner width aw zero index ws h = once_pure h (λ r t. t)
  once_words a b owner width aw (suc left) index ws h = once_bind (once_word a b owner width aw index h) (λ w n₁ p. once_words a b owner width aw left (suc index) (ws ++ (w ∷ [])) p)

  once_dram : (p : PortExprs) (owner clock edge left index : ℕ) (ws : List Word) {n : Count} → base ≤ n.signals → Once (Words base S) n (dram_words p owner clock edge left index ws) (λ vs k. base ≤ k) (λ vs. Words base S)
  unfolding dram_words
  once_dram p owner clock edge zero index ws h = once_pure h (λ r t. t)
  once_dram p owner clock edge (suc left) index ws h =
      once_bind (once_word p None owner 4 4 index h) (λ w n₁ l.
      once_bind (once_skip skip_state (gets_any _)) (λ u n₂ e. once_dram p owner clock edge left (suc index) (ws ++ (w ∷ [])) (omega (arith, e.1, l))))

updates_skip : (ws : List Word) (clock edge : ℕ) → Skips (update_words ws clock edge)
unfolding update_words
updates_skip [] clock edge = skip_plain plain_pure
updates_skip (w ∷ ws) clock edge = skip_bind skip_state (λ u. updates_skip ws clock edge)

-- a read port reads nothing, or its own signal
module _ (m : Wires) (z : Constants) (S : Read → Type 0) where
  once_next : (o own : Option ℕ) (width w word : ℕ) (q : WireRef) {n : Count} → m w ≡ Some q → (own ≡ None → S (whole_of width q) → ⊥) → Once (λ k. S) n (next_read o own width q.signal word) (λ e k. Unit {0}) (λ e k r. S r ⊎ ReadOf m (whole_of width) w r)
  once_next None own width w word q i f = once_pure tt (λ r t. inl t)
  once_next (Some c) (Some e) width w word q i f = once_so (λ a k p. tt) (λ a k r t. inl t) (once_skip (skip_plain (plain_bind plain_pure (λ o. plain_emit refl))) (gets_any _))
  once_next (Some c) None width w word q i f =
      once_bind (once_read (f refl)) (λ o n₁ p. once_so (λ a k p. tt) (λ a k r t. of r t) (once_skip (skip_plain (plain_emit refl)) (gets_any _)))
    where
      of : (r : Read) → S r ⊎ (r ≡ whole_of width q) → S r ⊎ ReadOf m (whole_of width) w r
      of r (inl t) = inl t
      of r (inr e) = inr (record { ref = q; found = i; is = e })

  once_port : (p : PortExprs) (own : Option ℕ) (ws : List Word) (width aw clock edge : ℕ) {n : Count} → (own ≡ None → (q : WireRef) → m (get_or p.read_data 0 0) ≡ Some q → S (whole_of width q) → ⊥)
      → Once (λ k. S) n (emit_block_ram_read_port m z p own ws width aw clock edge) (λ u k. Unit {0}) (λ u k r. S r ⊎ ReadOf m (whole_of width) (get_or p.read_data 0 0) r)
  unfolding emit_block_ram_read_port
  once_port p own ws width aw clock edge f =
      once_bind (once_skip (skip_plain (plain_emit refl)) (gets_any _)) (λ e n₁ p₁.
      once_bind (once_skip (skip_plain (plain_candidates p.read_address aw 0 ws [])) (gets_any _)) (λ ns n₂ p₂.
      once_bind (once_skip (skip_plain (plain_levels (length ns) width ns e)) (gets_any _)) (λ v n₃ p₃.
      once_bind (once_skip (skip_plain (plain_ref m (get_or p.read_data 0 0))) (ref_gets m (get_or p.read_data 0 0))) (λ q n₄ p₄.
      once_bind (once_skip (skip_plain (plain_enable m z p.read_enable)) (gets_any _)) (λ en n₅ p₅.
      once_bind (once_next p.clock_enabled own width (get_or p.read_data 0 0) v q p₄.0 (λ e. f e q p₄.0)) (λ x n₆ p₆.
      once_so (λ a k p. tt) (λ a k r t. t) (once_skip skip_state (gets_any _))))))))

module _ (m : Wires) (apart : (v w : ℕ) (q r : WireRef) → m v ≡ Some q → m w ≡ Some r → q.signal ≡ r.signal → q.lsb ≡ r.lsb → v ≡ w) where
  -- a read register's own signal has been read only if its one wire stands
  own_new : {seen : Seen} {width : ℕ} (output : List ℕ) → Owned m width output → 1 ≤ width → own_read seen output ≡ None → (q : WireRef) → m (get_or output 0 0) ≡ Some q → Taken m seen (whole_of width q) → ⊥
  own_new [] f h o q i t = omega (arith, f.wide, h)
  own_new {seen} (w ∷ []) f h o q i t =
      let e = t.read.is in
      let z : w ≡ t.wire = apart w t.wire q t.read.ref i t.read.found (ap (λ (r : Read). r.signal) e) (f.lowest q i ∙ ap (λ (r : Read). r.lowest) e) in
      some_ne_none t.expr (sym t.stands ∙ ap (standing seen) (sym z) ∙ o)
  own_new (w ∷ v ∷ ws) f h o q i t = let e : length (w ∷ v ∷ ws) ≡ 1 = f.wide ∙ ap (λ (r : Read). r.width) t.read.is in omega (arith, e)

abbrev NoRead : ℕ → Read → Type 0
NoRead k r = ⊥

-- EVERY CELL: no two wires have the same place, and those of wires are the signals below `base`
module _ (limits : Limits) (m : Wires) (apart : (v w : ℕ) (q r : WireRef) → m v ≡ Some q → m w ≡ Some r → q.signal ≡ r.signal → q.lsb ≡ r.lsb → v ≡ w) (base : ℕ) (below : (w : ℕ) (q : WireRef) → m w ≡ Some q → q.signal < base) (z : Constants) where
  taken_below : {seen : Seen} (r : Read) → Taken m seen r → r.signal < base
  taken_below r t = let e : r.signal ≡ t.read.ref.signal = ap (λ (x : Read). x.signal) t.read.is in omega (arith, below t.wire t.read.ref t.read.found)

  second_clean : (S : Read → Type 0) (r : BlockRam) (o : Option SecondPort) (b : Option PortExprs) (own : Option ℕ) (ws : List Word) (aw clock edge : ℕ) {n : Count} → IsSecond o b
      → ((p : SecondPort) → o ≡ Some p → own ≡ None → (q : WireRef) → m (get_or p.output 0 0) ≡ Some q → S (whole_of r.width q) → ⊥)
      → Clean (λ k. S) n (emit_second_read_port m z b own ws r.width aw clock edge)
  second_clean S r None None own ws aw clock edge h f = clean_skip (skip_plain plain_pure)
  second_clean S r None (Some p) own ws aw clock edge h f = absurd (let e : ◌≡◌ {A = ℕ} 0 1 = cc in omega arith)
  second_clean S r (Some q) None own ws aw clock edge h f = absurd (let y : None ≡ Some h.0 = h.1 in let e : ◌≡◌ {A = ℕ} 0 1 = cc in omega arith)
  second_clean S r (Some q) (Some p) own ws aw clock edge h f =
      let outputs : q.output ≡ p.read_data = sym (ap (λ (x : PortExprs). x.read_data) (some_is p h.0 h.1) ∙ h.2) in
      once_so (λ a k p. tt) (λ a k r t. tt) (once_port m z S p own ws r.width aw clock edge (λ e s i. f q refl e s (subst (λ (l : List ℕ). m (get_or l 0 0) ≡ Some s) (sym outputs) i)))

  -- what has been read before the second port's own read: bits of wires, words, and the first port's own
  abbrev BeforeSecond : Seen → BlockRam → ℕ → Read → Type 0
  BeforeSecond seen r k x = Words base (Taken m seen) k x ⊎ ReadOf m (whole_of r.width) (get_or r.output 0 0) x

  own_unread : {seen : Seen} (width k : ℕ) (output : List ℕ) → Owned m width output → 1 ≤ width → own_read seen output ≡ None → (q : WireRef) → m (get_or output 0 0) ≡ Some q → Words base (Taken m seen) k (whole_of width q) → ⊥
  own_unread width k output f h o q i (inl t) = own_new m apart output f h o q i t
  own_unread width k output f h o q i (inr p) = omega (arith, p.0, below (get_or output 0 0) q i)

  second_unread : {seen : Seen} (r : BlockRam) (p : SecondPort) (k : ℕ) → SecondOwned m r p → 1 ≤ r.width → own_read seen p.output ≡ None → (q : WireRef) → m (get_or p.output 0 0) ≡ Some q
      → BeforeSecond seen r k (whole_of r.width q) → ⊥
  second_unread r p k f h o q i (inl t) = own_unread r.width k p.output f.owned h o q i t
  second_unread r p k f h o q i (inr t) = f.apart t.ref q t.found i (ap (λ (x : Read). x.signal) (sym t.is))

  ram_clean : (owner : ℕ) (r : BlockRam) {seen : Seen} {n : Count} → limits.wires ≤ length seen → base ≤ n.signals → FitsBlockRam limits r → ReadsOwned m (block_ram r) → Clean (λ k. Taken m seen) n (emit_block_ram m z seen owner r)
  unfolding emit_block_ram
  ram_clean owner r {seen} {n} long many f own =
      let aw : ℕ = address_width r.depth in
      let shift : ℕ = shift_in (shift_of r.physical) in
      once_bind (once_vector limits m apart r.write_address shift f.write_address.1 aw long) (λ wa n₁ p₁.
      once_bind (once_vector limits m apart r.read_address shift f.read_address.1 aw p₁.0) (λ ra n₂ p₂.
      once_bind (once_vector limits m apart r.input 0 f.input.1 (length r.input) p₂.0) (λ d n₃ p₃.
      once_bind (once_gate limits m apart r.write r.clock_enable p₃.0 f.write f.clock_enable) (λ g n₄ p₄.
      once_bind (once_gets (second_gets m g.seen shift aw r.second) (once_second limits m apart shift aw r.width r.second p₄.0 f.second)) (λ b n₅ p₅.
      once_bind (once_skip (skip_plain (plain_signal m z r.clock)) (gets_any _)) (λ clock n₆ p₆.
      let a : PortExprs = record { write_address = wa.value; write_data = d.value; write_asserted = g.value.write_asserted; read_address = ra.value; read_data = r.output; read_enable = r.read_enable; clock_enabled = g.value.clock_enabled } in
      let many₆ : base ≤ n₆.signals = omega (arith, p₆.1, p₅.1.1, p₄.1, p₃.1, p₂.1, p₁.1, many) in
      once_from _ (λ x t. inl t) (once_bind (once_words base (Taken m b.seen) taken_below a b.value owner r.width aw r.depth 0 [] many₆) (λ ws n₇ p₇.
      once_from _ (λ x t. t) (once_bind (once_port m z (Words base (Taken m b.seen) n₇.signals) a (own_read b.seen r.output) ws r.width aw clock r.edge (own_unread r.width n₇.signals r.output own.0 f.width.0)) (λ u n₈ p₈.
      once_bind (second_clean (BeforeSecond b.seen r n₇.signals) r r.second b.value (own_read b.seen (second_output r.second)) ws aw clock r.edge p₅.0
      (λ p e o q i. second_unread r p n₇.signals (subst (FitsOption (SecondOwned m r)) e own.1) f.width.0 (subst (λ (x : Option SecondPort). own_read b.seen (second_output x) ≡ None) e o) q i)) (λ u n₉ p₉.
      clean_skip (skip_bind (updates_skip ws clock r.edge) (λ u. skip_plain plain_pure)))))))))))))

  dram_clean : (owner : ℕ) (r : DistributedRam) {seen : Seen} {n : Count} → limits.wires ≤ length seen → base ≤ n.signals → FitsDistributedRam limits r → Clean (λ k. Taken m seen) n (emit_distributed_ram m z seen owner r)
  unfolding emit_distributed_ram
  dram_clean owner r long many f =
      once_bind (once_vector limits m apart r.write_address 0 f.write_address.1 4 long) (λ wa n₁ p₁.
      once_bind (once_vector limits m apart r.read_address 0 f.read_address.1 4 p₁.0) (λ ra n₂ p₂.
      once_bind (once_vector limits m apart r.input 0 f.input.1 4 p₂.0) (λ d n₃ p₃.
      once_bind (once_asserted limits m apart r.write p₃.0 f.write) (λ y n₄ p₄.
      once_bind (once_skip (skip_plain (plain_signal m z r.clock)) (gets_any _)) (λ clock n₅ p₅.
      once_from _ (λ x t. inl t) (once_bind (once_dram base (Taken m y.seen) taken_below _ owner clock r.edge 16 0 [] (omega (arith, p₅.1, p₄.1, p₃.1, p₂.1, p₁.1, many))) (λ ws n₆ p₆.
      clean_skip
      (skip_bind (skip_plain (plain_emit refl)) (λ e.
      skip_bind (skip_plain (plain_select ra.value 0 ws e)) (λ v.
      skip_bind (assign_skips m (get_or r.output 0 0) v) (λ u. skip_plain plain_pure)))))))))))

  all_skip : (ws : List ℕ) (e : ℕ) → Skips (assign_all m ws e)
  unfolding assign_all
  all_skip [] e = skip_plain plain_pure
  all_skip (w ∷ ws) e = skip_bind (assign_skips m w e) (λ u. all_skip ws e)

  unless_skip : (b : Bool) (w e : ℕ) → Skips (pick b (pure tt) (assign_wire m w e))
  unless_skip true w e = skip_plain plain_pure
  unless_skip false w e = assign_skips m w e

  clocks_skip : (f o : ℕ) (ws : List ℕ) (e : ℕ) → Skips (pll_clocks m f o ws e)
  unfolding pll_clocks
  clocks_skip f o [] e = skip_plain plain_pure
  clocks_skip f o (w ∷ ws) e = skip_bind (unless_skip (eqb w f || eqb w o) w e) (λ u. clocks_skip f o ws e)

  bit_clean : {A : Type 0} (b : Bit) {k : ℕ → Writer A} {n : Count} → ((e : ℕ) → Skips (k e)) → Clean NoRead n (bit_expression m b >>= k)
  unfolding bit_expression
  bit_clean Zero s = clean_skip (skip_bind (skip_plain plain_pure) s)
  bit_clean One s = clean_skip (skip_bind (skip_plain plain_pure) s)
  bit_clean (Wire w) s = once_bind (wire_once m w (λ q i t. t)) (λ e n₁ p. clean_skip (s e))

  -- with nothing read before, what a cell reads is forgotten after it
  module _ (shared : ℕ) (room : limits.wires ≤ shared) where
    long : limits.wires ≤ length (nothing_seen shared)
    long = omega (arith, room, nothing_long shared)

    forgets : {n : Count} {w : Writer (Reading (Unit {0}))} → Clean (λ k. Taken m (nothing_seen shared)) n w → Clean NoRead n (forgetting w)
    forgets f = once_from NoRead (λ r t. absurd t) (once_bind f (λ r n₁ p. clean_skip (skip_plain plain_pure)))

    cell_clean : (owner : ℕ) (x : Cell) {n : Count} → base ≤ n.signals → FitsCell limits x → ReadsOwned m x → Clean NoRead n (emit_cell shared m z owner x)
    unfolding emit_cell emit_lut4 emit_pfumx emit_l6mux21 emit_ccu2c emit_multiplier emit_io emit_idle_jtagg emit_cycle_pll
    cell_clean owner (lut4 i o t) many f own = forgets (once_bind (once_reads limits m apart i [] long f.0.1) (λ es n₁ p. clean_last es.seen (plain_lut es.value t) (λ v. assign_skips m o v)))
    cell_clean owner (pfumx t f s o) many h own = forgets (three_clean limits m apart s t f o (λ a b c. a) (λ a b c. b) (λ a b c. c) long h.2 h.0 h.1)
    cell_clean owner (l6mux21 f t s o) many h own = forgets (three_clean limits m apart s f t o (λ a b c. a) (λ a b c. c) (λ a b c. b) long h.2 h.0 h.1)
    cell_clean owner (ccu2c u) many f own =
        forgets
        (once_bind (once_bit limits m apart u.carry_in long f.carry_in) (λ c₀ n₁ p₁.
        once_bind (row_once limits m apart u.row0 u.init0 u.inject0 u.sum0 c₀.value p₁.0 f.row0.1) (λ c₁ n₂ p₂.
        once_bind (row_once limits m apart u.row1 u.init1 u.inject1 u.sum1 c₁.value p₂.0 f.row1.1) (λ c₂ n₃ p₃.
        clean_skip (skip_bind (assign_skips m u.carry c₂.value) (λ v. skip_plain plain_pure))))))
    cell_clean owner (multiplier l r p) many f own =
        forgets
        (once_bind (once_vector limits m apart l 0 f.0.1 36 long) (λ a n₁ p₁.
        once_bind (once_vector limits m apart r 0 f.1.1 36 p₁.0) (λ b n₂ p₂.
        clean_last b.seen (plain_emit refl) (λ v. assign_skips m (get_or p 0 0) v))))
    cell_clean owner (flip_flop f) many h own = clean_skip (skip_plain plain_pure)
    cell_clean owner (block_ram r) many f own = forgets (ram_clean owner r long many f own)
    cell_clean owner (distributed_ram r) {n} many f own = by_test (λ (w : Writer (Unit {0})). Clean NoRead n w) (eqb r.second 1) (λ q. once_refuse) (λ q. forgets (dram_clean owner r long many f))
    cell_clean owner (io p d i t) many h own = forgets (three_clean limits m apart (Wire p) d t i (λ a b c. c) (λ a b c. a) (λ a b c. b) long h.0 h.1 h.3)
    cell_clean owner (jtagg ws) many f own = clean_skip (skip_bind (all_skip (take 6 ws ++ drop 7 ws) 0) (λ u. assign_skips m (get_or ws 6 0) 1))
    cell_clean owner (pll p) many f own =
        bit_clean p.reference (λ e.
        skip_bind (assign_skips m p.feedback e) (λ u.
        skip_bind (unless_skip (eqb p.output p.feedback) p.output e) (λ u.
        skip_bind (clocks_skip p.feedback p.output p.more e) (λ u. assign_skips m p.locked 1))))

pub read_once_each : ReadOnceEach
read_once_each limits n fits m reserved shared room z owner x one count many =
    let h = (reserved_is n m reserved).mapping in
    (cell_clean limits m (wires_apart n m reserved) (length (slots n)) (λ w q i. (located n m _ h w q i).inside) z shared room owner x many (each_mem (FitsCell limits) n.cells fits.cells x one) (reads_owned limits n fits.cells m h x one)).told.two
