-- The wire map that lowering reserves is the tick rule's: slot by slot, with the same signal numbers.
-- Assumes nothing.
use mathlib.Core.Path.{◌≡◌, refl, ap, ap₂, sym, ◌∙◌, subst}
use mathlib.Core.Bool.{Bool, true, false}
use mathlib.Core.List.{List, [], ◌∷◌, ◌++◌, append-nil, append_assoc, map}
use Rattle.std.specs.Prelude.{Option, None, Some}
use Rattle.bits.proofs.Options.{some_ne_none}
use Prim.Native.Nat.{ℕ, suc, ◌+◌, ◌≤◌, ◌<◌}
use native.Mathlib.Nat.{not-suc-le-zero}
use native.Mathlib.Omega.{arith}
use native.Mathlib.Decide.{dec_lt}
use lib.Dec.{eqb}
use lib.ListN.{length, get_or, length-append, length-map, get_or-append}
use lib.Seq.{get_or-append_seam}
use borrow.Author.Tests.{eqb-true, eq-eqb}
use Rattle.bits.specs.Bits.{pick}
use Rattle.netlist.specs.declared.Bit.{Bit}
use Rattle.netlist.specs.declared.Bit.TheVariants.{Zero, One, Wire}
use Rattle.netlist.specs.Netlist.{Port, SecondPort, Netlist, Cell, lut4, pfumx, l6mux21, ccu2c, multiplier, flip_flop, block_ram, distributed_ram, io, jtagg, pll}
use Rattle.netlist.specs.Reader.{same_bit}
use Rattle.recorder.specs.Record.{Signal, Expr, Stmt}
use Rattle.recorder.specs.Writer.{Event, Event.signal, signals_of, exprs_of, stmts_of, Count, further, End.ok, Writer, pure, declare, ◌>>=◌}
use Rattle.recorder.proofs.Events.{signals_append, exprs_append, stmts_append}
use Rattle.behaviour.specs.Banks.{Bank, outputs_of, collect_flip_flop_banks}
use Rattle.behaviour.specs.WireMap.{inputs, shown, pins, Slot, WireRef, port_slots, place_of, held_at, find, is_some, single, together, second_slot, pll_wires, reserve_fresh, reserve, reserve_all, bank_slot}
use Rattle.behaviour.proofs.MapLaws.{or_else, find_one_more}
use Rattle.wires.specs.Wires.{Wires, no_wires, put, WireRef as Ref}
use Rattle.lowering.specs.Reserve.{insert_at, insert_wire, insert_bits, insert_wires, reserve_scalar, reserve_vector, signal_of, reserve_scalars, reserve_unless, reserve_absent, reserve_second, reserve_cell_output, reserve_cells, reserve_port, reserve_ports, reserve_flip_flop_banks}
use Rattle.lowering.specs.Lower.{reserve_netlist}
use Rattle.meaning.specs.Writes.{Writes}
use Rattle.meaning.specs.Mapped.{ref_of, LabelFits, WidthFits, SignalFits, SignalsFit, no_slot, Mapping, port_signals, Reserved}
use Rattle.meaning.proofs.Writing.{writes_pure, writes_refuse, writes_declare, writes_bind, writes_so, written}

-- PLACES

abbrev or_place : Option ℕ → Option ℕ → Option ℕ
or_place None later = later
or_place (Some i) later = Some i

place_append : (w : ℕ) (a b : List Bit) (i : ℕ) → place_of w (a ++ b) i ≡ or_place (place_of w a i) (place_of w b (i + length a))
place_append w [] b i = ap (place_of w b) (omega arith)
place_append w (x ∷ a) b i = go (same_bit (Wire w) x) (place_append w a b (suc i) ∙ ap (λ (k : ℕ). or_place (place_of w a (suc i)) (place_of w b k)) (omega arith))
  where
    go : (t : Bool) → place_of w (a ++ b) (suc i) ≡ or_place (place_of w a (suc i)) (place_of w b (i + suc (length a))) → pick t (Some i) (place_of w (a ++ b) (suc i)) ≡ or_place (pick t (Some i) (place_of w a (suc i))) (place_of w b (i + suc (length a)))
    go true h = refl
    go false h = h

abbrev placed_in : ℕ → ℕ → Option ℕ → Option Ref
placed_in s width None = None
placed_in s width (Some i) = Some (record { signal = s; lsb = i; width = width })

abbrev or_ref : Option Ref → Option Ref → Option Ref
or_ref None later = later
or_ref (Some r) later = Some r

-- BITS OF ONE SIGNAL: those done stand in the map behind what was there, and none of them was there or stands twice
record Inserted (m : Wires) (s width : ℕ) (done : List Bit) (m₁ : Wires) : Type 0 where
  finds : (w : ℕ) → m₁ w ≡ or_ref (m w) (placed_in s width (place_of w done 0))
  fresh : (i w : ℕ) → i < length done → get_or done i Zero ≡ Wire w → (m w ≡ None) × (place_of w done 0 ≡ Some i)

inserted_none : (m : Wires) (s width : ℕ) → Inserted m s width [] m
inserted_none m s width = record { finds = λ w. go (m w); fresh = λ i w h q. absurd (not-suc-le-zero h) }
  where
    go : (o : Option Ref) → o ≡ or_ref o None
    go None = refl
    go (Some r) = refl

-- the last of a list with one more
last_or : {A : Type 0} (l : List A) (a d : A) (i : ℕ) (P : ℕ → A → Type 0) → ((i : ℕ) → i < length l → P i (get_or l i d)) → P (length l) a → i < length (l ++ (a ∷ [])) → P i (get_or (l ++ (a ∷ [])) i d)
last_or l a d i P f g h = go (dec_lt i (length l))
  where
    go : Dec (i < length l) → P i (get_or (l ++ (a ∷ [])) i d)
    go (yes q) = subst (P i) (sym (get_or-append l (a ∷ []) d i q)) (f i q)
    go (no q) =
        let z : i ≡ length l = omega (arith, length-append l (a ∷ [])) in
        subst (λ (k : ℕ). P k (get_or (l ++ (a ∷ [])) k d)) (sym z) (subst (P (length l)) (sym (get_or-append_seam l a [] d)) g)

or_none : (a b : Option Ref) → or_ref a b ≡ None → (a ≡ None) × (b ≡ None)
or_none None b h = (refl, h)
or_none (Some r) b h = absurd (some_ne_none r h)

placed_none : (s width : ℕ) (o : Option ℕ) → placed_in s width o ≡ None → o ≡ None
placed_none s width None h = refl
placed_none s width (Some i) h = absurd (some_ne_none _ h)

-- a bit that is no wire changes no place
place_plain : (w : ℕ) (done : List Bit) (b : Bit) → same_bit (Wire w) b ≡ false → place_of w (done ++ (b ∷ [])) 0 ≡ place_of w done 0
place_plain w done b e = place_append w done (b ∷ []) 0 ∙ ap (λ (t : Bool). or_place (place_of w done 0) (pick t (Some (0 + length done)) None)) e ∙ go (place_of w done 0)
  where
    go : (o : Option ℕ) → or_place o None ≡ o
    go None = refl
    go (Some i) = refl

inserted_plain : (m : Wires) (s width : ℕ) (done : List Bit) (b : Bit) (m₁ : Wires) → ((w : ℕ) → same_bit (Wire w) b ≡ false) → ((w : ℕ) → b ≡ Wire w → ⊥) → Inserted m s width done m₁ → Inserted m s width (done ++ (b ∷ [])) m₁
inserted_plain m s width done b m₁ e ne h = record {
  finds = λ w. h.finds w ∙ ap (λ (o : Option ℕ). or_ref (m w) (placed_in s width o)) (sym (place_plain w done b (e w)));
  fresh = λ i w g q. last_or done b Zero i (λ j x. x ≡ Wire w → (m w ≡ None) × (place_of w (done ++ (b ∷ [])) 0 ≡ Some j))
      (λ j l p. let r = h.fresh j w l p in (r.0, place_plain w done b (e w) ∙ r.1)) (λ p. absurd (ne w p)) g q;
}

zero_wire : (w : ℕ) → Zero ≡ Wire w → ⊥
zero_wire w h = let z : ◌≡◌ {A = ℕ} 0 1 = cc in omega arith

one_wire : (w : ℕ) → One ≡ Wire w → ⊥
one_wire w h = let z : ◌≡◌ {A = ℕ} 0 1 = cc in omega arith

wire_is : (v w : ℕ) → Wire v ≡ Wire w → v ≡ w
wire_is v w h = cc

module _ (m : Wires) (s width : ℕ) (done : List Bit) (x : ℕ) (m₁ : Wires) (h : Inserted m s width done m₁) (absent : m₁ x ≡ None) where
  abbrev r : Ref
  r = record { signal = s; lsb = length done; width = width }

  not_there : (m x ≡ None) × (place_of x done 0 ≡ None)
  not_there = let q = or_none (m x) _ (sym (h.finds x) ∙ absent) in (q.0, placed_none s width (place_of x done 0) q.1)

  place_more : (w : ℕ) → place_of w (done ++ (Wire x ∷ [])) 0 ≡ or_place (place_of w done 0) (pick (eqb w x) (Some (length done)) None)
  place_more w = place_append w done (Wire x ∷ []) 0 ∙ ap (λ (k : ℕ). or_place (place_of w done 0) (pick (eqb w x) (Some k) None)) (omega arith)

  place_at : place_of x (done ++ (Wire x ∷ [])) 0 ≡ Some (length done)
  place_at = place_more x ∙ ap₂ (λ (o : Option ℕ) (t : Bool). or_place o (pick t (Some (length done)) None)) not_there.1 (eq-eqb x x refl)

  inserted_wire : Inserted m s width (done ++ (Wire x ∷ [])) (put m₁ x r)
  inserted_wire = record {
    finds = λ w. one w (eqb w x) refl ∙ ap (λ (o : Option ℕ). or_ref (m w) (placed_in s width o)) (sym (place_more w));
    fresh = λ i w g q. last_or done (Wire x) Zero i (λ j y. y ≡ Wire w → (m w ≡ None) × (place_of w (done ++ (Wire x ∷ [])) 0 ≡ Some j))
        (λ j l p. let k = h.fresh j w l p in (k.0, place_more w ∙ ap (λ (o : Option ℕ). or_place o (pick (eqb w x) (Some (length done)) None)) k.1))
        (λ p. let e : x ≡ w = wire_is x w p in subst (λ (y : ℕ). (m y ≡ None) × (place_of y (done ++ (Wire x ∷ [])) 0 ≡ Some (length done))) e (not_there.0, place_at)) g q;
  }
    where
      one : (w : ℕ) (t : Bool) → eqb w x ≡ t → pick t (Some (record { signal = s; lsb = length done; width = width })) (m₁ w) ≡ or_ref (m w) (placed_in s width (or_place (place_of w done 0) (pick t (Some (length done)) None)))
      one w true e =
          let z : w ≡ x = eqb-true w x e in
          sym (ap₂ (λ (a : Option Ref) (o : Option ℕ). or_ref a (placed_in s width (or_place o (Some (length done))))) (ap m z ∙ not_there.0) (ap (λ (y : ℕ). place_of y done 0) z ∙ not_there.1))
      one w false e = h.finds w ∙ ap (λ (o : Option ℕ). or_ref (m w) (placed_in s width o)) (go (place_of w done 0))
        where
          go : (o : Option ℕ) → o ≡ or_place o None
          go None = refl
          go (Some i) = refl

-- nothing but signals, and those
record Only (ss : List Signal) (es : List Event) : Type 0 where
  signals : signals_of es ≡ ss
  exprs : exprs_of es ≡ []
  stmts : stmts_of es ≡ []

only_none : Only [] []
only_none = record { signals = refl; exprs = refl; stmts = refl }

only_one : (s : Signal) → Only (s ∷ []) (signal s ∷ [])
only_one s = record { signals = refl; exprs = refl; stmts = refl }

only_append : {new more : List Signal} {xs ys : List Event} → Only new xs → Only more ys → Only (new ++ more) (xs ++ ys)
only_append {xs = xs} {ys} f g = record {
  signals = signals_append xs ys ∙ ap₂ (λ (a b : List Signal). a ++ b) f.signals g.signals;
  exprs = exprs_append xs ys ∙ ap₂ (λ (a b : List Expr). a ++ b) f.exprs g.exprs;
  stmts = stmts_append xs ys ∙ ap₂ (λ (a b : List Stmt). a ++ b) f.stmts g.stmts;
}

insert_one : {n : Count} (m : Wires) (s width : ℕ) (done : List Bit) (b : Bit) (m₁ : Wires) → Inserted m s width done m₁
    → Writes n (insert_wire m₁ b (record { signal = s; lsb = length done; width = width })) (λ m₂ es. Inserted m s width (done ++ (b ∷ [])) m₂ × Only [] es)
unfolding insert_wire
insert_one m s width done Zero m₁ h = writes_pure (inserted_plain m s width done Zero m₁ (λ w. refl) zero_wire h, only_none)
insert_one m s width done One m₁ h = writes_pure (inserted_plain m s width done One m₁ (λ w. refl) one_wire h, only_none)
insert_one {n} m s width done (Wire x) m₁ h = go (m₁ x) refl
  where
    go : (o : Option Ref) → m₁ x ≡ o → Writes n (insert_at o m₁ x (record { signal = s; lsb = length done; width = width })) (λ m₂ es. Inserted m s width (done ++ (Wire x ∷ [])) m₂ × Only [] es)
    go None e = writes_pure (inserted_wire m s width done x m₁ h e, only_none)
    go (Some q) e = writes_refuse

insert_bits_lem : {n : Count} (m : Wires) (s width lsb : ℕ) (done bits : List Bit) (m₁ : Wires) → lsb ≡ length done → Inserted m s width done m₁
    → Writes n (insert_bits m₁ s width lsb bits) (λ m₂ es. Inserted m s width (done ++ bits) m₂ × Only [] es)
unfolding insert_bits
insert_bits_lem m s width lsb done [] m₁ e h = writes_pure (subst (λ (l : List Bit). Inserted m s width l m₁) (sym (append-nil done)) h, only_none)
insert_bits_lem {n} m s width lsb done (b ∷ bits) m₁ e h =
    writes_bind (subst (λ (k : ℕ). Writes n (insert_wire m₁ b (record { signal = s; lsb = k; width = width })) (λ m₂ es. Inserted m s width (done ++ (b ∷ [])) m₂ × Only [] es)) (sym e) (insert_one m s width done b m₁ h)) (λ m₂ es p.
    writes_so (insert_bits_lem {n = further n es} m s width (suc lsb) (done ++ (b ∷ [])) bits m₂ (omega (arith, e, length-append done (b ∷ []))) p.0) (λ m₃ fs q.
    (subst (λ (l : List Bit). Inserted m s width l m₃) (append_assoc done (b ∷ []) bits) q.0, only_append p.1 q.1)))

insert_wires_lem : {n : Count} (m : Wires) (s width lsb : ℕ) (done : List Bit) (ws : List ℕ) (m₁ : Wires) → lsb ≡ length done → Inserted m s width done m₁
    → Writes n (insert_wires m₁ s width lsb ws) (λ m₂ es. Inserted m s width (done ++ map Wire ws) m₂ × Only [] es)
unfolding insert_wires
insert_wires_lem m s width lsb done [] m₁ e h = writes_pure (subst (λ (l : List Bit). Inserted m s width l m₁) (sym (append-nil done)) h, only_none)
insert_wires_lem {n} m s width lsb done (w ∷ ws) m₁ e h =
    writes_bind (subst (λ (k : ℕ). Writes n (insert_wire m₁ (Wire w) (record { signal = s; lsb = k; width = width })) (λ m₂ es. Inserted m s width (done ++ (Wire w ∷ [])) m₂ × Only [] es)) (sym e) (insert_one m s width done (Wire w) m₁ h)) (λ m₂ es p.
    writes_so (insert_wires_lem {n = further n es} m s width (suc lsb) (done ++ (Wire w ∷ [])) ws m₂ (omega (arith, e, length-append done (Wire w ∷ []))) p.0) (λ m₃ fs q.
    (subst (λ (l : List Bit). Inserted m s width l m₃) (append_assoc done (Wire w ∷ []) (map Wire ws)) q.0, only_append p.1 q.1)))

-- ONE SLOT MORE

fit_count : (held : List Slot) (ss : List Signal) → SignalsFit held ss → length held ≡ length ss
fit_count [] [] h = refl
fit_count [] (s ∷ ss) h = absurd h
fit_count (x ∷ xs) [] h = absurd h
fit_count (x ∷ xs) (s ∷ ss) h = ap suc (fit_count xs ss h.1)

fit_more : (held : List Slot) (ss : List Signal) (x : Slot) (s : Signal) → SignalsFit held ss → SignalFits x s → SignalsFit (held ++ (x ∷ [])) (ss ++ (s ∷ []))
fit_more [] [] x s h f = (f, tt)
fit_more [] (t ∷ ss) x s h f = absurd h
fit_more (y ∷ ys) [] x s h f = absurd h
fit_more (y ∷ ys) (t ∷ ss) x s h f = (h.0, fit_more ys ss x s h.1 f)

ref_or : (a b : Option WireRef) → ref_of (or_else a b) ≡ or_ref (ref_of a) (ref_of b)
ref_or None b = refl
ref_or (Some r) b = refl

ref_held : (o : Option ℕ) (x : Slot) (n : ℕ) → ref_of (held_at o x n None) ≡ placed_in n (length x.bits) o
ref_held None x n = refl
ref_held (Some i) x n = refl

ref_none : (o : Option WireRef) → ref_of o ≡ None → o ≡ None
ref_none None h = refl
ref_none (Some r) h = absurd (some_ne_none _ h)

module _ {held : List Slot} {ss : List Signal} {m : Wires} (h : Mapping held ss m) where
  pub mapping_count : length held ≡ length ss
  mapping_count = fit_count held ss h.fits

  mapping_more : (x : Slot) (s : Signal) (m' : Wires) → SignalFits x s → Inserted m (length held) (length x.bits) x.bits m' → Mapping (held ++ (x ∷ [])) (ss ++ (s ∷ [])) m'
  mapping_more x s m' f i = record {
    finds = λ w. i.finds w
        ∙ ap₂ or_ref (h.finds w) (sym (ref_held (place_of w x.bits 0) x (length held)))
        ∙ sym (ref_or (find w held 0) (held_at (place_of w x.bits 0) x (length held) None))
        ∙ ap ref_of (sym (find_one_more w held x));
    apart = λ s j w l b q. last_or held x no_slot s (λ k y. j < length y.bits → get_or y.bits j Zero ≡ Wire w → find w (held ++ (x ∷ [])) 0 ≡ Some (record { signal = k; lowest = j; width = length y.bits; source = y.source }))
        (λ k u v p. find_one_more w held x ∙ ap (λ (o : Option WireRef). or_else o (held_at (place_of w x.bits 0) x (length held) None)) (h.apart k j w u v p))
        (λ v p. let r = i.fresh j w v p in find_one_more w held x ∙ ap₂ (λ (o : Option WireRef) (u : Option ℕ). or_else o (held_at u x (length held) None)) (ref_none (find w held 0) (sym (h.finds w) ∙ r.0)) r.1)
        l b q;
    fits = fit_more held ss x s h.fits f;
  }

mapping_as : {held held' : List Slot} {ss ss' : List Signal} {m : Wires} → held ≡ held' → ss ≡ ss' → Mapping held ss m → Mapping held' ss' m
mapping_as {held} {held'} {ss} {ss'} {m} e f h = subst (λ (l : List Slot). Mapping l ss' m) e (subst (λ (l : List Signal). Mapping held l m) f h)

-- what a reserving writer leaves: these slots, their signals behind those that were there, and nothing else
record Adds (held : List Slot) (ss : List Signal) (m : Wires) (es : List Event) : Type 0 where
  new : List Signal
  only : Only new es
  mapping : Mapping held (ss ++ new) m

adds_none : {held : List Slot} {ss : List Signal} {m : Wires} → Mapping held ss m → Adds held ss m []
adds_none {held} {ss} {m} h = record { new = []; only = only_none; mapping = mapping_as refl (sym (append-nil ss)) h }

adds_then : {held : List Slot} {ss new : List Signal} {m : Wires} {es fs : List Event} → Only new es → Adds held (ss ++ new) m fs → Adds held ss m (es ++ fs)
adds_then {ss = ss} {new} o a = record { new = new ++ a.new; only = only_append o a.only; mapping = mapping_as refl (append_assoc ss new a.new) a.mapping }

adds_as : {held held' : List Slot} {ss : List Signal} {m : Wires} {es : List Event} → held ≡ held' → Adds held ss m es → Adds held' ss m es
adds_as {ss = ss} {m} {es} e a = subst (λ (l : List Slot). Adds l ss m es) e a

-- signals are numbered behind those that are there
record At (n : Count) (ss : List Signal) : Type 0 where
  here : n.signals ≡ length ss

at_more : (n : Count) (ss new : List Signal) (es : List Event) → At n ss → Only new es → At (further n es) (ss ++ new)
at_more n ss new es a o = record { here = omega (arith, a.here, ap length o.signals, length-append ss new) }

module _ {n : Count} {held : List Slot} {ss : List Signal} {m : Wires} (at : At n ss) (h : Mapping held ss m) where
  reserve_known : (x : Slot) (s : Signal) (k : ℕ → Writer Wires) → SignalFits x s → ((i : ℕ) (n' : Count) → Writes n' (k i) (λ m' es. Inserted m i (length x.bits) x.bits m' × Only [] es))
      → Writes n (declare s >>= k) (λ m' es. (a : Adds (held ++ (x ∷ [])) ss m' es) × (a.new ≡ s ∷ []))
  reserve_known x s k f g =
      writes_bind (writes_declare {P = λ i es. (i ≡ length held) × Only (s ∷ []) es} (at.here ∙ sym (mapping_count h), only_one s)) (λ i es p.
      writes_so (g i (further n es)) (λ m' fs q. (
        record {
          new = s ∷ [];
          only = only_append p.1 q.1;
          mapping = mapping_more h x s m' f (subst (λ (j : ℕ). Inserted m j (length x.bits) x.bits m') p.0 q.0);
        },
        refl,
      )))

  reserve_bits : (x : Slot) (s : Signal) (k : ℕ → Writer Wires) → SignalFits x s → ((i : ℕ) (n' : Count) → Writes n' (k i) (λ m' es. Inserted m i (length x.bits) x.bits m' × Only [] es))
      → Writes n (declare s >>= k) (λ m' es. Adds (held ++ (x ∷ [])) ss m' es)
  reserve_bits x s k f g = writes_so (reserve_known x s k f g) (λ m' es a. a.0)

  reserve_scalar_lem : (label owner w c k : ℕ) → 2 ≤ label → label ≤ 15 → Writes n (reserve_scalar m label owner w) (λ m' es. Adds (held ++ single c (w ∷ []) k) ss m' es)
  unfolding reserve_scalar
  reserve_scalar_lem label owner w c k l u =
      reserve_bits (record { source = pins c k; bits = Wire w ∷ [] }) (signal_of label 1 owner) _ (record { label = (l, u); width = refl })
      (λ i n'. insert_one m i 1 [] (Wire w) m (inserted_none m i 1))

  reserve_vector_lem : (label owner : ℕ) (ws : List ℕ) (x : Slot) → x.bits ≡ map Wire ws → LabelFits x.source label → ((k : ℕ) → WidthFits x.source k k) → Writes n (reserve_vector m label owner ws) (λ m' es. Adds (held ++ (x ∷ [])) ss m' es)
  unfolding reserve_vector
  reserve_vector_lem label owner ws x e l f =
      let long : length ws ≡ length x.bits = sym (length-map ws Wire) ∙ ap length (sym e) in
      reserve_bits x (signal_of label (length ws) owner) _ (record { label = l; width = subst (λ (k : ℕ). WidthFits x.source (length x.bits) k) (sym long) (f (length x.bits)) })
      (λ i n'. writes_so (insert_wires_lem m i (length ws) 0 [] ws m refl (inserted_none m i (length ws))) (λ m' es p.
      (subst (λ (l : List Bit). Inserted m i (length x.bits) l m') (sym e) (subst (λ (k : ℕ). Inserted m i k (map Wire ws) m') long p.0), p.1)))

-- SEVERAL

reserve_scalars_lem : (label owner c : ℕ) → 2 ≤ label → label ≤ 15 → (ws : List ℕ) (k : ℕ) {n : Count} {held : List Slot} {ss : List Signal} {m : Wires} → At n ss → Mapping held ss m
    → Writes n (reserve_scalars m label owner ws) (λ m' es. Adds (held ++ single c ws k) ss m' es)
unfolding reserve_scalars
reserve_scalars_lem label owner c l u [] k {held = held} at h = writes_pure (adds_as (sym (append-nil held)) (adds_none h))
reserve_scalars_lem label owner c l u (w ∷ ws) k {n} {held} {ss} at h =
    writes_bind (reserve_scalar_lem at h label owner w c k l u) (λ m₁ es a.
    writes_so (reserve_scalars_lem label owner c l u ws (suc k) (at_more n ss a.new es at a.only) a.mapping) (λ m₂ fs b.
    adds_then a.only (adds_as (append_assoc held (single c (w ∷ []) k) (single c ws (suc k))) b)))

abbrev is_ref : {A : Type 0} → Option A → Bool
is_ref None = false
is_ref (Some r) = true

ref_there : (o : Option WireRef) → is_ref (ref_of o) ≡ is_some o
ref_there None = refl
ref_there (Some r) = refl

-- a PLL's pin whose wire is held adds nothing
reserve_absent_lem : (owner c : ℕ) (ws : List ℕ) (k : ℕ) {n : Count} {held : List Slot} {ss : List Signal} {m : Wires} → At n ss → Mapping held ss m
    → Writes n (reserve_absent m 12 owner ws) (λ m' es. Adds (reserve_fresh c ws k held) ss m' es)
unfolding reserve_absent
reserve_absent_lem owner c [] k at h = writes_pure (adds_none h)
reserve_absent_lem owner c (w ∷ ws) k {n} {held} {ss} {m} at h =
    writes_bind (go (m w) (sym (ap is_ref (h.finds w) ∙ ref_there (find w held 0)))) (λ m₁ es a.
    writes_so (reserve_absent_lem owner c ws (suc k) (at_more n ss a.new es at a.only) a.mapping) (λ m₂ fs b. adds_then a.only b))
  where
    go : (o : Option Ref) → is_some (find w held 0) ≡ is_ref o → Writes n (reserve_unless o m 12 owner w) (λ m' es. Adds (pick (is_some (find w held 0)) held (held ++ single c (w ∷ []) k)) ss m' es)
    go None e = writes_so (reserve_scalar_lem at h 12 owner w c k (omega arith) (omega arith)) (λ m₁ es a. adds_as (ap (λ (t : Bool). pick t held (held ++ single c (w ∷ []) k)) (sym e)) a)
    go (Some r) e = writes_pure (adds_as (ap (λ (t : Bool). pick t held (held ++ single c (w ∷ []) k)) (sym e)) (adds_none h))

-- CELLS

module _ {n : Count} {held : List Slot} {ss : List Signal} {m : Wires} (at : At n ss) (h : Mapping held ss m) where
  pinned : (label owner c k : ℕ) (ws : List ℕ) → 2 ≤ label → label ≤ 15 → Writes n (reserve_vector m label owner ws) (λ m' es. Adds (held ++ together c ws k) ss m' es)
  pinned label owner c k ws l u = reserve_vector_lem at h label owner ws (record { source = pins c k; bits = map Wire ws }) refl (l, u) (λ j. refl)

  reserve_cell : (c : ℕ) (x : Cell) → Writes n (reserve_cell_output m c x) (λ m' es. Adds (reserve c x held) ss m' es)
  unfolding reserve_cell_output
  reserve_cell c (lut4 i o t) = reserve_scalar_lem at h 2 c o c 0 (omega arith) (omega arith)
  reserve_cell c (pfumx t f s o) = reserve_scalar_lem at h 3 c o c 0 (omega arith) (omega arith)
  reserve_cell c (l6mux21 z y s o) = reserve_scalar_lem at h 4 c o c 0 (omega arith) (omega arith)
  reserve_cell c (ccu2c u) = reserve_scalars_lem 5 c c (omega arith) (omega arith) (u.sum0 ∷ u.sum1 ∷ u.carry ∷ []) 0 at h
  reserve_cell c (multiplier l r p) = pinned 6 c c 0 p (omega arith) (omega arith)
  reserve_cell c (flip_flop f) = writes_pure (adds_none h)
  reserve_cell c (block_ram r) =
      writes_bind (pinned 8 c c 0 r.output (omega arith) (omega arith)) (λ m₁ es a. second r.second m₁ es a)
    where
      second : (o : Option SecondPort) (m₁ : Wires) (es : List Event) (a : Adds (held ++ together c r.output 0) ss m₁ es) → Writes (further n es) (reserve_second m₁ c o) (λ m' fs. Adds (held ++ (together c r.output 0 ++ second_slot c r.width o)) ss m' (es ++ fs))
      second None m₁ es a = writes_pure (adds_then a.only (adds_none a.mapping))
      second (Some p) m₁ es a =
          writes_so (reserve_vector_lem (at_more n ss a.new es at a.only) a.mapping 8 c p.output (record { source = pins c r.width; bits = map Wire p.output }) refl (omega arith, omega arith) (λ j. refl)) (λ m₂ fs b.
          adds_then a.only (adds_as (append_assoc held (together c r.output 0) (together c p.output r.width)) b))
  reserve_cell c (distributed_ram r) = pinned 9 c c 0 r.output (omega arith) (omega arith)
  reserve_cell c (io p d i t) = reserve_scalar_lem at h 10 c i c 0 (omega arith) (omega arith)
  reserve_cell c (jtagg ws) = reserve_scalars_lem 11 c c (omega arith) (omega arith) ws 0 at h
  reserve_cell c (pll p) = reserve_absent_lem c c (pll_wires p) 0 at h

reserve_cells_lem : (c : ℕ) (xs : List Cell) {n : Count} {held : List Slot} {ss : List Signal} {m : Wires} → At n ss → Mapping held ss m → Writes n (reserve_cells m c xs) (λ m' es. Adds (reserve_all xs c held) ss m' es)
unfolding reserve_cells
reserve_cells_lem c [] at h = writes_pure (adds_none h)
reserve_cells_lem c (x ∷ xs) {n} {held} {ss} at h =
    writes_bind (reserve_cell at h c x) (λ m₁ es a.
    writes_so (reserve_cells_lem (suc c) xs (at_more n ss a.new es at a.only) a.mapping) (λ m₂ fs b. adds_then a.only b))

-- BANKS

reserve_banks : (k : ℕ) (bs : List Bank) {n : Count} {held : List Slot} {ss : List Signal} {m : Wires} → At n ss → Mapping held ss m → Writes n (reserve_flip_flop_banks m k bs) (λ m' es. Adds (held ++ map bank_slot bs) ss m' es)
unfolding reserve_flip_flop_banks
reserve_banks k [] {held = held} at h = writes_pure (adds_as (sym (append-nil held)) (adds_none h))
reserve_banks k (b ∷ bs) {n} {held} {ss} at h =
    writes_bind (reserve_vector_lem at h 7 k (outputs_of b.members) (bank_slot b) refl (omega arith, omega arith) (λ j. refl)) (λ m₁ es a.
    writes_so (reserve_banks (suc k) bs (at_more n ss a.new es at a.only) a.mapping) (λ m₂ fs c.
    adds_then a.only (adds_as (append_assoc held (bank_slot b ∷ []) (map bank_slot bs)) c)))

-- PORTS

reserve_port_lem : (p k : ℕ) (port : Port) {n : Count} {held : List Slot} {ss : List Signal} {m : Wires} → At n ss → Mapping held ss m
    → Writes n (reserve_port m p port) (λ m' es. (a : Adds (held ++ port_slots (port ∷ []) k) ss m' es) × (a.new ≡ port_signals p (port ∷ [])))
unfolding reserve_port
reserve_port_lem p k port {n} {held} {ss} {m} at h = go (eqb port.direction 1)
  where
    bits : List Bit
    bits = port.bits

    go : (b : Bool) → Writes n (pick b (declare (signal_of 1 (length bits) p) >>= λ s. pure m) (declare (signal_of 0 (length bits) p) >>= λ s. insert_bits m s (length bits) 0 bits))
        (λ m' es. (a : Adds (held ++ pick b (record { source = shown; bits = [] } ∷ []) (record { source = inputs k; bits = bits } ∷ [])) ss m' es) × (a.new ≡ pick b (signal_of 1 (length bits) p) (signal_of 0 (length bits) p) ∷ []))
    go true = reserve_known at h (record { source = shown; bits = [] }) (signal_of 1 (length bits) p) _ (record { label = refl; width = tt }) (λ i n'. writes_pure (inserted_none m i 0, only_none))
    go false = reserve_known at h (record { source = inputs k; bits = bits }) (signal_of 0 (length bits) p) _ (record { label = refl; width = refl }) (λ i n'. insert_bits_lem m i (length bits) 0 [] bits m refl (inserted_none m i (length bits)))

reserve_ports_lem : (p k : ℕ) (ports : List Port) {n : Count} {held : List Slot} {ss : List Signal} {m : Wires} → At n ss → Mapping held ss m
    → Writes n (reserve_ports m p ports) (λ m' es. (a : Adds (held ++ port_slots ports k) ss m' es) × (a.new ≡ port_signals p ports))
unfolding reserve_ports
reserve_ports_lem p k [] {held = held} {ss} at h = writes_pure (record { new = []; only = only_none; mapping = mapping_as (sym (append-nil held)) (sym (append-nil ss)) h }, refl)
reserve_ports_lem p k (port ∷ ports) {n} {held} {ss} at h =
    writes_bind (reserve_port_lem p k port at h) (λ m₁ es a.
    writes_so (reserve_ports_lem (suc p) next ports (at_more n ss a.0.new es at a.0.only) a.0.mapping) (λ m₂ fs b. (
      record {
        new = a.0.new ++ b.0.new;
        only = only_append a.0.only b.0.only;
        mapping = mapping_as (append_assoc held (port_slots (port ∷ []) k) (port_slots ports next) ∙ ap (λ (l : List Slot). held ++ l) (joined (eqb port.direction 1))) (append_assoc ss a.0.new b.0.new) b.0.mapping;
      },
      ap₂ (λ (x y : List Signal). x ++ y) a.1 b.1,
    )))
  where
    next : ℕ
    next = pick (eqb port.direction 1) k (k + length port.bits)

    joined : (b : Bool) → pick b (record { source = shown; bits = [] } ∷ []) (record { source = inputs k; bits = port.bits } ∷ []) ++ port_slots ports (pick b k (k + length port.bits))
        ≡ pick b (record { source = shown; bits = [] } ∷ port_slots ports k) (record { source = inputs k; bits = port.bits } ∷ port_slots ports (k + length port.bits))
    joined true = refl
    joined false = refl

-- THE WHOLE

nothing_mapped : Mapping [] [] no_wires
nothing_mapped = record { finds = λ w. refl; apart = λ s i w l. absurd (not-suc-le-zero l); fits = tt }

reserve_netlist_lem : (n : Netlist) → Writes (record { signals = 0; exprs = 0; stmts = 0 }) (reserve_netlist n) (λ m es. Reserved n m es)
unfolding reserve_netlist
reserve_netlist_lem n =
    let at : At (record { signals = 0; exprs = 0; stmts = 0 }) [] = record { here = refl } in
    writes_bind (reserve_ports_lem 0 0 n.ports at nothing_mapped) (λ m₁ es a.
    let at₁ = at_more _ [] a.0.new es at a.0.only in
    writes_bind (reserve_cells_lem 0 n.cells at₁ a.0.mapping) (λ m₂ fs b.
    let at₂ = at_more _ a.0.new b.new fs at₁ b.only in
    writes_so (reserve_banks 0 (collect_flip_flop_banks n.cells) at₂ b.mapping) (λ m gs c.
    let o = only_append a.0.only (only_append b.only c.only) in record {
      more = b.new ++ c.new;
      signals = o.signals ∙ ap (λ (l : List Signal). l ++ (b.new ++ c.new)) a.1;
      exprs = o.exprs;
      stmts = o.stmts;
      mapping = mapping_as refl (append_assoc a.0.new b.new c.new ∙ ap (λ (l : List Signal). l ++ (b.new ++ c.new)) a.1) c.mapping;
    })))

-- the map that lowering reserves is that of the tick rule
pub reserved_is : (n : Netlist) (m : Wires) → (reserve_netlist n (record { signals = 0; exprs = 0; stmts = 0 })).end ≡ ok m → Reserved n m (reserve_netlist n (record { signals = 0; exprs = 0; stmts = 0 })).events
reserved_is n m q = written (reserve_netlist_lem n) q
