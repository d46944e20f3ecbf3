-- For the checks of sections: the cells' second ports (6), and the answer.
use Rattle.std.proofs.Common.{◌≡◌, refl, sym, ◌∙◌, ap, subst, ℕ, zero, suc, ◌+◌, ◌-◌, ◌≤◌, ◌<◌, min, List, [], ◌∷◌, ◌++◌, length, Bool, true, false, not, ◌&&◌, leb, eqb, eq-eqb, ne_eqb, le-leb, add-zero, add-one, length-append, zero-le, arith}
use Rattle.std.specs.Prelude.{Option, None, Some, Result, Ok, Err}
use Rattle.std.specs.Option.{option_or}
use Rattle.std.specs.Bool.{then_some}
use Rattle.refusal.specs.declared.Refusal.{Refusal}
use Rattle.refusal.specs.Refusal.{number_of, place_of}
use Rattle.netlist.specs.declared.Layout.{Layout}
use Rattle.netlist.specs.declared.Limits.{Limits}
use Rattle.netlist.specs.declared.Kind.{Kind}
use Rattle.netlist.specs.declared.Kind.TheVariants as K
use Rattle.netlist.specs.Netlist.{bit_of, Cell, Port}
use Rattle.netlist.specs.Reader
use Rattle.netlist.specs.Reader.{netlist, refused, Step, got, fault, Parser, and_then, ◌>>=◌, many, closed, same_bit, clocks_agree, one_clock, first_not, clocked, with_cells, with_ports, trailer_fits, sections, with_trailer, read_words}
use Rattle.netlist.specs.ReaderLaws.{many_more}
use Rattle.netlist.specs.Shape.{Row, FitsPort, FitsCell}
use Rattle.netlist.specs.Fields.{word_at, bit_at, kind_at, when_set, first_size, second_port_at, ram_at, cell_as, cell_at, layout_of}
use Rattle.netlist.proofs.WordLaws.{word_ahead, cell_is}
use Rattle.netlist.proofs.ReaderFits.{Outcome, ports_sound, cells_sound}
use Rattle.netlist.proofs.FieldLaws.{cell_law, netlist_law}
use Rattle.reader.specs.Passed.{refusal_of, Passed}
use Rattle.reader.specs.Checks.{Checks, CellsChecked, sections_of, SectionsChecked}
use Rattle.reader.proofs.PassedLaws.{took, met, Handed, handed, Gone, gone_stop, then_stop}

-- 6

-- equal words are equal bits
same_words : (x y : ℕ) → same_bit (bit_of x) (bit_of y) ≡ eqb x y
same_words zero zero = refl
same_words zero (suc zero) = refl
same_words zero (suc (suc y)) = grind arith
same_words (suc zero) zero = refl
same_words (suc zero) (suc zero) = refl
same_words (suc zero) (suc (suc y)) = grind arith
same_words (suc (suc x)) zero = grind arith
same_words (suc (suc x)) (suc zero) = grind arith
same_words (suc (suc x)) (suc (suc y)) = grind arith

module _ (words : List ℕ) (i : ℕ) where
  pub clock_other : (kind_at words i ≡ K.BlockRam → ⊥) → true ≡ one_clock (cell_at words i)
  clock_other h = go (kind_at words i) h ∙ sym (ap one_clock (cell_is words i _ refl))
    where
      go : (k : Kind) → (k ≡ K.BlockRam → ⊥) → true ≡ one_clock (cell_as words k i)
      go K.Lut4 q = refl
      go K.Pfumx q = refl
      go K.L6mux21 q = refl
      go K.Ccu2c q = refl
      go K.Multiplier q = refl
      go K.FlipFlop q = refl
      go K.BlockRam q = absurd (q refl)
      go K.DistributedRam q = refl
      go K.Io q = refl
      go K.Jtagg q = refl
      go K.Pll q = refl

  module _ (ram : kind_at words i ≡ K.BlockRam) where
    is_ram : one_clock (cell_at words i) ≡ clocks_agree (ram_at words i) (ram_at words i).second
    is_ram = ap one_clock (cell_is words i _ ram)

    pub clock_single : word_at words (i + 42) ≡ 0 → true ≡ one_clock (cell_at words i)
    clock_single z =
        sym (is_ram ∙ ap (λ (n : ℕ). clocks_agree (ram_at words i) (when_set n (second_port_at words (i + first_size words (word_at words (i + 2))) (word_at words (i + 2))))) z)

    -- two ports: index s is the second's, or the number of words; code has the clocks as x and y, the edges as u and v
    module _ (s : ℕ) (cut : s ≡ min (i + first_size words (word_at words (i + 2))) (length words)) (there : word_at words (i + 42) ≡ 0 → ⊥) (x y : ℕ) (p : x ≡ word_at words (i + 40)) (q : y ≡ word_at words (s + 22)) where
      agrees : one_clock (cell_at words i) ≡ (eqb x y && eqb (word_at words (i + 41)) (word_at words (s + 23)))
      agrees =
          let at = i + first_size words (word_at words (i + 2)) in
          is_ram ∙ present (word_at words (i + 42)) there
          ∙ ap (λ (b : Bool). b && eqb (word_at words (i + 41)) (word_at words (at + 23))) (same_words (word_at words (i + 40)) (word_at words (at + 22)))
          ∙ ap (λ (n : ℕ). eqb n (word_at words (at + 22)) && eqb (word_at words (i + 41)) (word_at words (at + 23))) (sym p)
          ∙ ap (λ (n : ℕ). eqb x n && eqb (word_at words (i + 41)) (word_at words (at + 23))) (sym (word_ahead words at s cut 22) ∙ sym q)
          ∙ ap (λ (n : ℕ). eqb x y && eqb (word_at words (i + 41)) n) (sym (word_ahead words at s cut 23))
        where
          present : (n : ℕ) → (n ≡ 0 → ⊥)
              → clocks_agree (ram_at words i) (when_set n (second_port_at words (i + first_size words (word_at words (i + 2))) (word_at words (i + 2))))
              ≡ (same_bit (bit_at words (i + 40)) (bit_at words (i + first_size words (word_at words (i + 2)) + 22)) && eqb (word_at words (i + 41)) (word_at words (i + first_size words (word_at words (i + 2)) + 23)))
          present zero h = absurd (h refl)
          present (suc n) h = refl

      pub clock_same : (u v : ℕ) → x ≡ y → u ≡ word_at words (i + 41) → v ≡ word_at words (s + 23) → eqb u v ≡ one_clock (cell_at words i)
      clock_same u v e a b =
          ap (λ (n : ℕ). eqb n v) a ∙ ap (λ (n : ℕ). eqb (word_at words (i + 41)) n) b ∙ sym (agrees ∙ ap (λ (t : Bool). t && eqb (word_at words (i + 41)) (word_at words (s + 23))) (eq-eqb x y e))

      pub clock_differs : (x ≡ y → ⊥) → eqb x y ≡ one_clock (cell_at words i)
      clock_differs h = let z = ne_eqb x y h in z ∙ sym (agrees ∙ ap (λ (t : Bool). t && eqb (word_at words (i + 41)) (word_at words (s + 23))) z)

-- the first that fails, one cell more
first_more : {A : Type 0} (ok : A → Bool) (l : List A) (a : A) (i : ℕ) → first_not ok (l ++ (a ∷ [])) i ≡ option_or (first_not ok l i) (then_some (not (ok a)) (i + length l))
first_more {A} ok [] a i = go (ok a) ∙ ap (λ (n : ℕ). then_some (not (ok a)) n) (sym (add-zero i))
  where
    go : (b : Bool) → elim b [ true ↦ None | false ↦ Some i ] ≡ then_some (not b) i
    go true = refl
    go false = refl
first_more {A} ok (x ∷ l) a i = go (ok x) (first_more ok l a (suc i))
  where
    shift : suc i + length l ≡ i + suc (length l)
    shift = omega arith

    go : (b : Bool) → first_not ok (l ++ (a ∷ [])) (suc i) ≡ option_or (first_not ok l (suc i)) (then_some (not (ok a)) (suc i + length l))
        → elim b [ true ↦ first_not ok (l ++ (a ∷ [])) (suc i) | false ↦ Some i ] ≡ option_or (elim b [ true ↦ first_not ok l (suc i) | false ↦ Some i ]) (then_some (not (ok a)) (i + suc (length l)))
    go true e = e ∙ ap (λ (n : ℕ). option_or (first_not ok l (suc i)) (then_some (not (ok a)) n)) shift
    go false e = refl

-- THE LOOP over cells, and the first cell with 6

module _ (limits : Limits) (words : List ℕ) (end start : ℕ) where
  abbrev cell : Parser Cell
  cell = Reader.read_cell limits words end

  pub record CellsGone (k i : ℕ) (six : Option ℕ) : Type 0 where
    pub list : List Cell
    pub read : many k cell start ≡ got list i
    pub count : length list ≡ k
    pub first : six ≡ first_not one_clock list 0

  gone : {k i : ℕ} {six : Option ℕ} → CellsGone k i six → Gone cell start k i
  gone g = record { list = g.list; read = g.read }

  pub cells_more : {k i j : ℕ} {r : Result ℕ Refusal} {six six' : Option ℕ} → CellsGone k i six → Passed cell i r → r ≡ Ok j → six' ≡ option_or six (then_some (not (one_clock (cell_at words i))) k) → CellsGone (k + 1) j six'
  cells_more {k} {i} {j} {r} {six} {six'} g h e f =
      let t = took (cell i) j (sym e ∙ h.is) in
      let v = cell_law limits words end i j t.value t.is in
      let z : 0 + length g.list ≡ k = omega (arith, g.count) in
      subst (λ (n : ℕ). CellsGone n j six') (sym (add-one k)) (record {
        list = g.list ++ (t.value ∷ []);
        read = many_more cell start k i j g.list t.value g.read t.is;
        count = length-append g.list (t.value ∷ []) ∙ ap (λ (n : ℕ). n + 1) g.count ∙ add-one k;
        first =
            f ∙ ap (λ (o : Option ℕ). option_or o (then_some (not (one_clock (cell_at words i))) k)) g.first
            ∙ ap (λ (c : Cell). option_or (first_not one_clock g.list 0) (then_some (not (one_clock c)) k)) (sym v.0)
            ∙ ap (λ (n : ℕ). option_or (first_not one_clock g.list 0) (then_some (not (one_clock t.value)) n)) (sym z) ∙ sym (first_more one_clock g.list t.value 0);
      })

  pub cells_stop : {k i : ℕ} (count : ℕ) {r : Result ℕ Refusal} {x : Refusal} {six : Option ℕ} (q : Result (Option ℕ) Refusal) → CellsGone k i six → k < count → Passed cell i r → r ≡ Err x → Handed q x
      → CellsChecked limits words end start count q
  cells_stop count {r} {x} {six} q g l h e c =
      subst (CellsChecked limits words end start count) (sym (handed q c))
      (then_stop (λ r. Reader.section_end limits words end r) (gone_stop cell start _ _ count _ x {q = Err x} (gone g) l h e refl) refl refl).is

-- THE ANSWER

refused_as : (n q : ℕ) (x : Refusal) → refusal_of n q ≡ x → 4 ≤ n → n ≤ 5 → refused n q ≡ refused (number_of x) (place_of x)
refused_as n q x e a b = go (eqb n 4) refl ∙ ap (λ (y : Refusal). refused (number_of y) (place_of y)) e
  where
    go : (t : Bool) → eqb n 4 ≡ t → refused n q ≡ refused (number_of (refusal_of n q)) (place_of (refusal_of n q))
    go true h = grind arith
    go false h = grind arith

module _ (limits : Limits) (words : List ℕ) (l : Layout) (q : Result Layout Refusal) (x : Refusal) (c : Handed q x) where
  as_refused : sections_of limits words l ≡ refused (number_of x) (place_of x) → SectionsChecked limits words l q
  as_refused h = subst (SectionsChecked limits words l) (sym (handed q c)) h

  pub ports_refused : {r : Result ℕ Refusal} → Passed (Reader.read_ports limits words l.start l.ports) 0 r → r ≡ Err x → SectionsChecked limits words l q
  ports_refused {r} h e =
      let t = met (Reader.read_ports limits words l.start l.ports 0) x (sym e ∙ h.is) in
      let o = subst (λ (s : Step (List Port)). Outcome limits words l.start (Row (FitsPort limits) l.ports) 0 s) t.is ((ports_sound limits words l.start l.ports).at 0 zero-le) in
      as_refused (ap (λ (s : Step (List Port)). with_ports limits words l.start l.end l.cells s) t.is ∙ refused_as t.number t.place x t.same o.0 o.1)

  pub cells_refused : l.start ≤ l.end → {r : Result ℕ Refusal} {i : ℕ} {s : Result (Option ℕ) Refusal} → Passed (Reader.read_ports limits words l.start l.ports) 0 r → r ≡ Ok i
      → CellsChecked limits words l.end l.start l.cells s → s ≡ Err x → SectionsChecked limits words l q
  cells_refused inside {r} {i} {s} h e k z =
      let p = took (Reader.read_ports limits words l.start l.ports 0) i (sym e ∙ h.is) in
      let t = met (Reader.read_cells limits words l.end l.cells l.start) x (subst (CellsChecked limits words l.end l.start l.cells) z k) in
      let o = subst (λ (s : Step (List Cell)). Outcome limits words l.end (Row (FitsCell limits) l.cells) l.start s) t.is ((cells_sound limits words l.end l.cells).at l.start inside) in
      as_refused
      (ap (λ (s : Step (List Port)). with_ports limits words l.start l.end l.cells s) p.is ∙ ap (λ (s : Step (List Cell)). with_cells p.value s) t.is ∙ refused_as t.number t.place x t.same o.0 o.1)

-- THE TRAILER, as code read it

module _ (limits : Limits) (words : List ℕ) (end at ports start cells : ℕ) (long : end + 4 ≡ length words) (z : at ≡ word_at words (end + 0)) (p : ports ≡ word_at words (end + 1)) (q : start ≡ word_at words (end + 2))
    (r : cells ≡ word_at words (end + 3)) (fits : trailer_fits limits end at ports start cells ≡ true) where
  l : Layout
  l = record { ports = ports; start = start; cells = cells; end = end }

  ends : length words - 4 ≡ end
  ends = omega arith

  laid_out : l ≡ layout_of words
  unfolding layout_of l
  laid_out = rw (ends, p, q, r) refl

  whole : read_words limits words ≡ sections_of limits words l
  unfolding l
  whole =
      let h : 4 ≤ length words = omega arith in
      let w : word_at words end ≡ at = ap (λ (n : ℕ). word_at words n) (sym (add-zero end)) ∙ sym z in
      ap (λ (n : ℕ). with_trailer limits words n (leb 4 (length words))) ends ∙ ap (with_trailer limits words end) (le-leb 4 (length words) h)
      ∙ (rw (w, ← p, ← q, ← r) (ap (sections limits words end ports start cells) fits))

  pub answers : (x : Result Layout Refusal) → SectionsChecked limits words (record { ports = ports; start = start; cells = cells; end = end }) x → Checks limits words x
  unfolding l
  answers (Ok y) h =
      let read = whole ∙ h.0.is in
      (read ∙ ap netlist (netlist_law limits words h.0.value read), h.1 ∙ laid_out)
  answers (Err y) h = whole ∙ h
