-- A netlist with no loop settles: `settle` gives the one valuation in which every wire holds what its driver gives. So what a tick
-- means does not hang on the number of sweeps, on the values from which they start, or on the order in which wires are evaluated.
use Rattle.std.specs.Prelude.{◌≡◌, refl, ◌⊎◌, Bool, true, false, ℕ, zero, suc, ◌*◌, ◌≤◌, ◌<◌, length, get_or, eqb}
use Rattle.std.proofs.Common.{sym, ◌∙◌, ap, ap₂, subst, inl, inr, arith}
use Rattle.std.proofs.Math.Path.{fun_ext}
use mathlib.Core.List.Memᴰ.{cases_cons}
use mathlib.Core.List.Memᴰ.{head as here}
use mathlib.Core.List.Memᴰ.{not-nil}
use mathlib.Core.List.Memᴰ.{tail as there}
use mathlib.Core.List.{List, [], ◌∷◌, ◌++◌, Memᴰ as Mem}
use Rattle.std.proofs.Math.Decide.{dec_lt, ℕ_discrete}
use Rattle.std.proofs.Math.ListN.{get_or-eq_default}
use Rattle.bits.specs.Bits.{pick, Bits, number, table_bit}
use Rattle.settle.specs.Walk.{Way, edge, more, Walk, NoLoop}
use Rattle.settle.specs.Ground.{Ends, ends_suc, Grounded, ends→grounded, below, length_below, mem_below, long_walk_loops}
use Rattle.settle.specs.Settle.{iterate, sweep, Respects, settled_at, forgets}
use Rattle.settle.specs.Loop.{Reads, Under}
use Rattle.settle.specs.InPlace.{sweep_at, sweeps_level}
use Rattle.netlist.specs.declared.Bit.{Bit}
use Rattle.netlist.specs.declared.Bit.TheVariants.{Zero, One, Wire}
use Rattle.netlist.specs.Netlist.{Netlist, Cell, lut4, pfumx, l6mux21, ccu2c, multiplier, flip_flop, block_ram, distributed_ram, io, jtagg, pll}
use Rattle.behaviour.specs.WireMap.{Slot, slots}
use Rattle.behaviour.specs.Behaviour.{Valuation, value, values, look_table, ccu_bits, Registers, output, depends, unused, absent}
use Rattle.behaviour.specs.Behaviour.{Driver, tick_bit, pin, nobody, driver, driver_reads, wires_of, gives, drive, settle, Depends, NoWireLoop}

-- an output hangs only on the bits that it depends on

mem_left : (a b : List Bit) {y : ℕ} → Mem y (wires_of a) → Mem y (wires_of (a ++ b))
mem_left [] b m = absurd (not-nil m)
mem_left (Zero ∷ a) b m = mem_left a b m
mem_left (One ∷ a) b m = mem_left a b m
mem_left (Wire w ∷ a) b {y} m = go (λ (q : Mem y (wires_of a)). mem_left a b q) (cases_cons m)
  where
    go : (Mem y (wires_of a) → Mem y (wires_of (a ++ b))) → (y ≡ w) ⊎ Mem y (wires_of a) → Mem y (w ∷ wires_of (a ++ b))
    go f (inl p) = here p
    go f (inr q) = there (f q)

mem_right : (a b : List Bit) {y : ℕ} → Mem y (wires_of b) → Mem y (wires_of (a ++ b))
mem_right [] b m = m
mem_right (Zero ∷ a) b m = mem_right a b m
mem_right (One ∷ a) b m = mem_right a b m
mem_right (Wire w ∷ a) b m = there (mem_right a b m)

module _ (v w : Valuation) where
  abbrev Agree : List Bit → Type 0
  Agree l = (y : ℕ) → Mem y (wires_of l) → v y ≡ w y

  values_agree : (l : List Bit) → Agree l → values v l ≡ values w l
  values_agree [] h = refl
  values_agree (Zero ∷ l) h = ap {B = List Bool} (λ r. false ∷ r) (values_agree l h)
  values_agree (One ∷ l) h = ap {B = List Bool} (λ r. true ∷ r) (values_agree l h)
  values_agree (Wire x ∷ l) h = ap₂ {C = List Bool} (λ b r. b ∷ r) (h x (here refl)) (values_agree l (λ y m. h y (there m)))

  pub output_agrees : (r : Registers) (c : Cell) (k : ℕ) → Agree (depends c k) → output v r c k ≡ output w r c k
  output_agrees r (lut4 is o t) k h = ap (look_table t) (values_agree is h)
  output_agrees r (pfumx a b s o) k h = ap (λ (l : List Bool). pick (get_or l 2 false) (get_or l 0 false) (get_or l 1 false)) (values_agree (a ∷ b ∷ s ∷ []) h)
  output_agrees r (l6mux21 a b s o) k h = ap (λ (l : List Bool). pick (get_or l 2 false) (get_or l 1 false) (get_or l 0 false)) (values_agree (a ∷ b ∷ s ∷ []) h)
  output_agrees r (ccu2c u) k h =
      ap (λ (l : List Bool). get_or (ccu_bits u l (values v u.row1) (value v u.carry_in)) k false) p0
      ∙ ap (λ (l : List Bool). get_or (ccu_bits u (values w u.row0) l (value v u.carry_in)) k false) p1
      ∙ ap (λ (l : List Bool). get_or (ccu_bits u (values w u.row0) (values w u.row1) (get_or l 0 false)) k false) p2
    where
      p0 : values v u.row0 ≡ values w u.row0
      p0 = values_agree u.row0 (λ y m. h y (mem_left u.row0 (u.row1 ++ (u.carry_in ∷ [])) m))

      p1 : values v u.row1 ≡ values w u.row1
      p1 = values_agree u.row1 (λ y m. h y (mem_right u.row0 (u.row1 ++ (u.carry_in ∷ [])) (mem_left u.row1 (u.carry_in ∷ []) m)))

      p2 : values v (u.carry_in ∷ []) ≡ values w (u.carry_in ∷ [])
      p2 = values_agree (u.carry_in ∷ []) (λ y m. h y (mem_right u.row0 (u.row1 ++ (u.carry_in ∷ [])) (mem_right u.row1 (u.carry_in ∷ []) m)))
  output_agrees r (multiplier a b o) k h =
      ap₂ (λ (x y : List Bool). table_bit (number x * number y) k) (values_agree a (λ y m. h y (mem_left a b m))) (values_agree b (λ y m. h y (mem_right a b m)))
  output_agrees r (flip_flop f) k h = refl
  output_agrees r (block_ram m) k h = refl
  output_agrees r (distributed_ram m) k h = ap (λ (l : List Bool). get_or (get_or r.words (number l) []) k false) (values_agree m.read_address h)
  output_agrees r (io p a o t) k h = ap (λ (l : List Bool). pick (get_or l 2 false) (get_or l 0 false) (get_or l 1 false)) (values_agree (Wire p ∷ a ∷ t ∷ []) h)
  output_agrees r (jtagg o) k h = refl
  output_agrees r (pll p) k h = go (eqb k 2) h
    where
      go : (b : Bool) → Agree (pick b [] (p.reference ∷ [])) → pick b true (value v p.reference) ≡ pick b true (value w p.reference)
      go true h' = refl
      go false h' = ap (λ (l : List Bool). get_or l 0 false) (values_agree (p.reference ∷ []) h')

-- every output of a cell depends on the same, or on nothing
depends_alike : (c : Cell) (k z : ℕ) → Mem z (wires_of (depends c k)) → depends c k ≡ depends c 0
depends_alike (lut4 is o t) k z m = refl
depends_alike (pfumx a b s o) k z m = refl
depends_alike (l6mux21 a b s o) k z m = refl
depends_alike (ccu2c u) k z m = refl
depends_alike (multiplier a b o) k z m = refl
depends_alike (flip_flop f) k z m = refl
depends_alike (block_ram r) k z m = refl
depends_alike (distributed_ram r) k z m = refl
depends_alike (io p a o t) k z m = refl
depends_alike (jtagg o) k z m = refl
depends_alike (pll p) k z m = go (eqb k 2) m
  where
    go : (b : Bool) → Mem z (wires_of (pick b [] (p.reference ∷ []))) → pick b [] (p.reference ∷ []) ≡ (p.reference ∷ [])
    go true n = absurd (not-nil n)
    go false n = refl

module _ (held : List Slot) (cells : List Cell) where
  abbrev E : ℕ → ℕ → Type 0
  E = Reads (λ x. driver_reads cells (driver held x))

  pub drive_respects : (bits : Bits) (regs : List Registers) → Respects E (drive held cells bits regs)
  drive_respects bits regs x v w = go (driver held x)
    where
      go : (d : Driver) → ((y : ℕ) → Mem y (driver_reads cells d) → v y ≡ w y) → gives cells bits regs d v ≡ gives cells bits regs d w
      go (tick_bit i) h = refl
      go (pin c k) h = output_agrees v w (get_or regs c unused) (get_or cells c absent) k h
      go nobody h = refl

  -- THE CELLS' GRAPH. A walk over wires is a walk over the cells that drive them, and a loop of cells is a loop of wires.

  abbrev cell_reads : ℕ → List ℕ
  cell_reads c = wires_of (depends (get_or cells c absent) 0)

  -- cell c drives wire y at a pin that depends on what the cell reads
  record Live (y c : ℕ) : Type 0 where
    k : ℕ
    drives : driver held y ≡ pin c k
    same : depends (get_or cells c absent) k ≡ depends (get_or cells c absent) 0
    inside : c < length cells

  abbrev CellEdge : ℕ → ℕ → Type 0
  CellEdge c d = (y : ℕ) × Mem y (cell_reads c) × Live y d

  edge→live : (x z : ℕ) → E x z → (c : ℕ) × Live x c × Mem z (cell_reads c)
  edge→live x z = go (driver held x) refl
    where
      place : (c k : ℕ) → Mem z (wires_of (depends (get_or cells c absent) k)) → Dec (c < length cells) → c < length cells
      place c k m (yes h) = h
      place c k m (no h) = absurd (not-nil (subst (λ (u : Cell). Mem z (wires_of (depends u k))) (get_or-eq_default cells absent (omega arith)) m))

      go : (d : Driver) → driver held x ≡ d → Mem z (driver_reads cells d) → (c : ℕ) × Live x c × Mem z (cell_reads c)
      go (tick_bit i) e m = absurd (not-nil m)
      go nobody e m = absurd (not-nil m)
      go (pin c k) e m =
          let s = depends_alike (get_or cells c absent) k z m in
          (c, record { k = k; drives = e; same = s; inside = place c k m (dec_lt c (length cells)) }, subst (λ (l : List Bit). Mem z (wires_of l)) s m)

  live→edge : (x c z : ℕ) → Live x c → Mem z (cell_reads c) → E x z
  live→edge x c z l m = subst (λ (d : Driver). Mem z (driver_reads cells d)) (sym l.drives) (subst (λ (b : List Bit). Mem z (wires_of b)) (sym l.same) m)

  live_reads : (x c z : ℕ) → Live x c → E x z → Mem z (cell_reads c)
  live_reads x c z l m = subst (λ (b : List Bit). Mem z (wires_of b)) l.same (subst (λ (d : Driver). Mem z (driver_reads cells d)) l.drives m)

  cell_walk : (m x y : ℕ) → Walk E (suc m) x y → (c : ℕ) × Live x c × ((d : ℕ) × Walk CellEdge m c d)
  cell_walk zero x y w = let r = edge→live x w.0 w.1 in (r.0, r.1, (r.0, refl))
  cell_walk (suc m) x y w =
      let q = cell_walk m w.0 y w.2 in
      let r = edge→live x w.0 w.1 in
      (r.0, r.1, (q.2.0, (q.0, (w.0, r.2, q.1), q.2.1)))

  last_wire : {c d : ℕ} → Way CellEdge c d → (y : ℕ) × Live y d
  last_wire (edge e) = (e.0, e.2)
  last_wire (more e w) = last_wire w

  wire_way : {c d : ℕ} → Way CellEdge c d → (x : ℕ) → Live x c → (y : ℕ) × Live y d × Way E x y
  wire_way (edge {x = c} e) x l = (e.0, e.2, edge (live→edge x c e.0 l e.1))
  wire_way (more {x = c} e w) x l = let r = wire_way w e.0 e.2 in (r.0, r.1, more (live→edge x c e.0 l e.1) r.2)

  -- two wires of one cell begin the same ways
  begin_at : {x z : ℕ} (y c : ℕ) → Live x c → Live y c → Way E x z → Way E y z
  begin_at y c lx ly (edge {x = x} {y = z} e) = edge (live→edge y c z ly (live_reads x c z lx e))
  begin_at y c lx ly (more {x = x} {y = u} e w) = more (live→edge y c u ly (live_reads x c u lx e)) w

  wire_loop : (c : ℕ) → Way CellEdge c c → (y : ℕ) × Way E y y
  wire_loop c w =
      let a = last_wire w in
      let r = wire_way w a.0 a.1 in
      (r.0, begin_at r.0 c a.1 r.1 r.2)

  -- a walk has at most as many edges as there are cells
  pub walks_end : NoLoop E → (x : ℕ) → Ends E (suc (length cells)) x
  walks_end loopless x y w =
      let r = cell_walk (length cells) x y w in
      let q = long_walk_loops CellEdge (Under (length cells)) (λ a b h e. e.2.inside) ℕ_discrete (below (length cells)) (λ a h. mem_below (length cells) a h) (length cells) r.0 r.2.0 r.2.1 r.1.inside (omega (arith, length_below (length cells))) in
      let u = wire_loop q.0 q.2 in
      loopless u.0 u.1

-- every walk over wires ends
pub wires_grounded : (n : Netlist) → NoWireLoop n → (w : ℕ) → Grounded (Depends n) w
wires_grounded n loopless w = ends→grounded (Depends n) (suc (length n.cells)) w (walks_end (slots n) n.cells loopless w)

-- no walk of so many edges begins at x, nor one of more
ends_more : (E' : ℕ → ℕ → Type 0) (j k : ℕ) → j ≤ k → (x : ℕ) → Ends E' j x → Ends E' k x
ends_more E' j zero h x e = let z : j ≡ 0 = omega arith in subst (λ (i : ℕ). Ends E' i x) z e
ends_more E' j (suc k) h x e = go (λ (q : j ≤ k). ends_more E' j k q x e) (dec_lt j (suc k))
  where
    go : (j ≤ k → Ends E' k x) → Dec (j < suc k) → Ends E' (suc k) x
    go ih (yes q) = ends_suc E' k x (ih (omega arith))
    go ih (no q) = let z : j ≡ suc k = omega arith in subst (λ (i : ℕ). Ends E' i x) z e

-- each wire holds what its driver gives
pub settled : (n : Netlist) → NoWireLoop n → (bits : Bits) (regs : List Registers) (w : ℕ)
    → drive (slots n) n.cells bits regs w (settle (slots n) n.cells bits regs) ≡ settle (slots n) n.cells bits regs w
settled n loopless bits regs w =
    settled_at (Depends n) (drive (slots n) n.cells bits regs) (drive_respects (slots n) n.cells bits regs) (suc (length n.cells)) w (walks_end (slots n) n.cells loopless w) (λ x. false)

-- and no other valuation does so
pub settled_only : (n : Netlist) → NoWireLoop n → (bits : Bits) (regs : List Registers) (v : Valuation)
    → ((w : ℕ) → drive (slots n) n.cells bits regs w v ≡ v w) → (w : ℕ) → v w ≡ settle (slots n) n.cells bits regs w
settled_only n loopless bits regs v h w =
    ap (λ (u : Valuation). u w) (sym (still (suc (length n.cells))))
    ∙ forgets (Depends n) (drive (slots n) n.cells bits regs) (drive_respects (slots n) n.cells bits regs) (suc (length n.cells)) w (walks_end (slots n) n.cells loopless w) v (λ x. false)
  where
    still : (k : ℕ) → iterate k (sweep (drive (slots n) n.cells bits regs)) v ≡ v
    still zero = refl
    still (suc k) = ap (sweep (drive (slots n) n.cells bits regs)) (still k) ∙ fun_ext h

-- whatever the start, and however many sweeps more
pub settled_alike : (n : Netlist) → NoWireLoop n → (bits : Bits) (regs : List Registers) (k : ℕ) → suc (length n.cells) ≤ k → (v : Valuation) (w : ℕ)
    → iterate k (sweep (drive (slots n) n.cells bits regs)) v w ≡ settle (slots n) n.cells bits regs w
settled_alike n loopless bits regs k h v w =
    settled_only n loopless bits regs (iterate k (sweep (drive (slots n) n.cells bits regs)) v)
    (λ x. settled_at (Depends n) (drive (slots n) n.cells bits regs) (drive_respects (slots n) n.cells bits regs) k x (ends_more (Depends n) (suc (length n.cells)) k h x (walks_end (slots n) n.cells loopless x)) v) w

-- in any order: wires set one after the other, each from the values as they then stand, over any list of wires that holds what its
-- wires depend on
pub settled_in_any_order : (n : Netlist) → NoWireLoop n → (bits : Bits) (regs : List Registers)
    → (wires : List ℕ) → ((x y : ℕ) → Mem x wires → Depends n x y → Mem y wires)
    → (k : ℕ) → suc (length n.cells) ≤ k → (v : Valuation) (w : ℕ) → Mem w wires
    → iterate k (sweep_at ℕ_discrete (drive (slots n) n.cells bits regs) wires) v w ≡ settle (slots n) n.cells bits regs w
settled_in_any_order n loopless bits regs wires closed k h v w m =
    sweeps_level (Depends n) (drive (slots n) n.cells bits regs) (drive_respects (slots n) n.cells bits regs) (λ x. Mem x wires) closed
    (settle (slots n) n.cells bits regs) (λ x e. settled n loopless bits regs x) ℕ_discrete wires (λ x e. e) k v w m
    (ends_more (Depends n) (suc (length n.cells)) k h w (walks_end (slots n) n.cells loopless w))
