-- Writers that only make expressions, none of them a read.
-- Assumes nothing.
use mathlib.Core.Path.{◌≡◌, refl}
use mathlib.Core.List.{List, [], ◌∷◌, ◌++◌}
use Rattle.std.specs.Prelude.{Option, None, Some}
use Prim.Native.Nat.{ℕ, zero, suc}
use lib.Dec.{eqb}
use lib.Bits.{bit_xor}
use lib.ListN.{length}
use Rattle.netlist.specs.declared.Bit.{Bit}
use Rattle.netlist.specs.declared.Bit.TheVariants.{Zero, One, Wire}
use Rattle.netlist.specs.declared.Control.{Control}
use Rattle.recorder.specs.Record.{Expr}
use Rattle.recorder.specs.Writer.{Event, Event.signal, Event.expr, Event.stmt, Count, further, End, End.ok, End.no, Writer, pure, refuse, emit, after, ◌>>=◌}
use Rattle.optimize.proofs.Muxes.{by_test}
use Rattle.optimize.specs.declared.optimizer.Rewrite.{Rewrite}
use Rattle.optimize.specs.declared.optimizer.Rewrite.TheVariants.{Value, Not, And, Or, Xor, AndNot, OrNot, Mux}
use Rattle.optimize.specs.Rewrite.{expr as expr_id, simplify_xor, simplify_mux, emit_rewrite, xor_of, mux_of}
use Rattle.optimize.specs.Lut.{low_of, high_of, full_table, join_cofactors, lut_cofactor}
use Rattle.wires.specs.declared.Constants.{Constants}
use Rattle.wires.specs.Wires.{WireRef, Wires}
use Rattle.wires.specs.Expressions.{ref_of, wire_ref, whole, bit_signal, levelled, concat_parts}
use Rattle.address_mux.specs.AddressMux.{Node, mux_level, mux_levels}
use Rattle.memories.specs.Memories.{Word, PortExprs, write_word, write_second, candidates_from, enable_of, dram_select}
use Rattle.meaning.specs.Shared.{reads_in}

abbrev pub PlainEvent : Event → Type 0
PlainEvent (signal s) = ⊥
PlainEvent (expr x) = reads_in (x ∷ []) ≡ []
PlainEvent (stmt t) = ⊥

abbrev pub AllPlain : List Event → Type 0
AllPlain [] = Unit {0}
AllPlain (e ∷ es) = PlainEvent e × AllPlain es

pub record Plain {A : Type 0} (w : Writer A) : Type 0 where
  pub plain : (n : Count) → AllPlain (w n).events

-- THE LOGIC

all_append : (xs ys : List Event) → AllPlain xs → AllPlain ys → AllPlain (xs ++ ys)
all_append [] ys f g = g
all_append (x ∷ xs) ys f g = (f.0, all_append xs ys f.1 g)

pub plain_pure : {A : Type 0} {a : A} → Plain (pure a)
plain_pure = record { plain = λ n. tt }

pub plain_refuse : {A : Type 0} {a b : ℕ} → Plain (refuse {A = A} a b)
plain_refuse = record { plain = λ n. tt }

pub plain_emit : {x : Expr} → reads_in (x ∷ []) ≡ [] → Plain (emit x)
plain_emit h = record { plain = λ n. (h, tt) }

pub plain_bind : {A B : Type 0} {w : Writer A} {k : A → Writer B} → Plain w → ((a : A) → Plain (k a)) → Plain (w >>= k)
unfolding ◌>>=◌
plain_bind {A} {B} {w} {k} f g = record { plain = λ n. go n (w n).end }
  where
    go : (n : Count) (y : End A) → AllPlain (after (w n).events y (further n (w n).events) k).events
    go n (ok a) = all_append (w n).events (k a (further n (w n).events)).events (f.plain n) ((g a).plain (further n (w n).events))
    go n (no x y) = f.plain n

-- WIRES

module _ (m : Wires) where
  pub plain_ref : (w : ℕ) → Plain (wire_ref m w)
  unfolding wire_ref
  plain_ref w = go (m w)
    where
      go : (o : Option WireRef) → Plain (ref_of o w)
      go None = plain_refuse
      go (Some r) = plain_pure

  pub plain_signal : (z : Constants) (b : Bit) → Plain (bit_signal m z b)
  unfolding bit_signal
  plain_signal z Zero = plain_pure
  plain_signal z One = plain_pure
  plain_signal z (Wire w) = plain_bind (plain_ref w) (λ r. by_test (λ (x : Writer ℕ). Plain x) (whole r) (λ q. plain_pure) (λ q. plain_refuse))

pub plain_levelled : (active e : ℕ) → Plain (levelled active e)
plain_levelled active e = by_test (λ (x : Writer ℕ). Plain x) (eqb active 1) (λ q. plain_pure) (λ q. plain_emit refl)

pub plain_concat : (ps : List ℕ) → Plain (concat_parts ps)
unfolding concat_parts
plain_concat [] = plain_emit refl
plain_concat (e ∷ []) = plain_pure
plain_concat (e ∷ f ∷ es) = plain_emit refl

-- REWRITES AND TABLES

plain_rewrite : (r : Rewrite) → Plain (emit_rewrite r)
unfolding emit_rewrite
plain_rewrite (Value v) = plain_pure
plain_rewrite (Not a) = plain_emit refl
plain_rewrite (And a b) = plain_emit refl
plain_rewrite (Or a b) = plain_emit refl
plain_rewrite (Xor a b) = plain_emit refl
plain_rewrite (AndNot a b) = plain_bind (plain_emit refl) (λ i. plain_emit refl)
plain_rewrite (OrNot a b) = plain_bind (plain_emit refl) (λ i. plain_emit refl)
plain_rewrite (Mux s t f) = plain_emit refl

pub plain_mux : (s t f : ℕ) → Plain (mux_of s t f)
unfolding mux_of
plain_mux s t f = plain_rewrite (simplify_mux (expr_id s) (expr_id t) (expr_id f))

pub plain_xor : (a b : ℕ) → Plain (xor_of a b)
unfolding xor_of
plain_xor a b = plain_rewrite (simplify_xor (expr_id a) (expr_id b))

pub plain_lut : (xs : List ℕ) (t : ℕ) → Plain (lut_cofactor xs t)
unfolding lut_cofactor join_cofactors
plain_lut [] t = by_test (λ (w : Writer ℕ). Plain w) (eqb t 0) (λ q. plain_pure) (λ q. plain_pure)
plain_lut (x ∷ xs) t =
    by_test S (eqb t 0) (λ q. plain_pure) (λ n₁. by_test S (eqb t (full_table (suc (length xs)))) (λ q. plain_pure) (λ n₂.
    by_test S (eqb x 0) (λ q. plain_lut xs (low_of t)) (λ n₃. by_test S (eqb x 1) (λ q. plain_lut xs (high_of t)) (λ n₄.
    plain_bind (plain_lut xs (low_of t)) (λ l. by_test S (eqb (low_of t) (high_of t)) (λ q. plain_pure) (λ n₅.
    by_test S (eqb (bit_xor (low_of t) (high_of t)) (full_table (length xs))) (λ q. plain_xor x l) (λ n₆.
    plain_bind (plain_lut xs (high_of t)) (λ h. plain_mux x h l))))))))
  where
    S : Writer ℕ → Type 0
    S w = Plain w

-- MEMORIES

plain_level : (width : ℕ) (ns next : List Node) → Plain (mux_level width ns next)
unfolding mux_level
plain_level width [] next = plain_pure
plain_level width (l ∷ []) next = plain_pure
plain_level width (l ∷ r ∷ ns) next = plain_bind (plain_emit refl) (λ a. plain_bind (plain_emit refl) (λ v. plain_level width ns (next ++ (record { matched = a; value = v } ∷ []))))

pub plain_levels : (fuel width : ℕ) (ns : List Node) (e : ℕ) → Plain (mux_levels fuel width ns e)
unfolding mux_levels
plain_levels zero width [] e = plain_pure
plain_levels zero width (n ∷ []) e = plain_emit refl
plain_levels zero width (l ∷ r ∷ ns) e = plain_bind (plain_level width (l ∷ r ∷ ns) []) (λ next. plain_pure)
plain_levels (suc fuel) width [] e = plain_pure
plain_levels (suc fuel) width (n ∷ []) e = plain_emit refl
plain_levels (suc fuel) width (l ∷ r ∷ ns) e = plain_bind (plain_level width (l ∷ r ∷ ns) []) (λ next. plain_levels fuel width next e)

pub plain_write : (p : PortExprs) (width aw index now : ℕ) → Plain (write_word p width aw index now)
unfolding write_word
plain_write p width aw index now = plain_bind (plain_emit refl) (λ k. plain_bind (plain_emit refl) (λ e. plain_bind (plain_emit refl) (λ y. plain_emit refl)))

pub plain_second : (o : Option PortExprs) (width aw index now : ℕ) → Plain (write_second o width aw index now)
plain_second None width aw index now = plain_pure
plain_second (Some p) width aw index now = plain_write p width aw index now

pub plain_candidates : (address aw index : ℕ) (ws : List Word) (ns : List Node) → Plain (candidates_from address aw index ws ns)
unfolding candidates_from
plain_candidates address aw index [] ns = plain_pure
plain_candidates address aw index (w ∷ ws) ns = plain_bind (plain_emit refl) (λ k. plain_bind (plain_emit refl) (λ e. plain_candidates address aw (suc index) ws (ns ++ (record { matched = e; value = w.current } ∷ []))))

pub plain_enable : (m : Wires) (z : Constants) (o : Option Control) → Plain (enable_of m z o)
plain_enable m z None = plain_pure
plain_enable m z (Some c) = plain_bind (plain_signal m z c.signal) (λ s. plain_pure)

pub plain_select : (address index : ℕ) (ws : List Word) (now : ℕ) → Plain (dram_select address index ws now)
unfolding dram_select
plain_select address index [] now = plain_pure
plain_select address index (w ∷ ws) now = plain_bind (plain_emit refl) (λ k. plain_bind (plain_emit refl) (λ e. plain_bind (plain_emit refl) (λ v. plain_select address (suc index) ws v)))
