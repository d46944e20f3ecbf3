-- What the reader takes is what the fields say: a cell, a port, the whole netlist.
use mathlib.Core.Path.{◌≡◌, refl, sym, ◌∙◌, ap, subst}
use mathlib.Core.List.{List, ◌∷◌}
use Rattle.std.specs.Prelude.{Option}
use mathlib.Core.Bool.{Bool, true, false, ◌&&◌}
use Prim.Native.Nat.{ℕ, zero, suc, ◌+◌, ◌≤◌, ◌<◌}
use native.Mathlib.Omega.{arith}
use lib.Dec.{ltb, leb, eqb}
use borrow.Author.Tests.{leb-true, eqb-true}
use Rattle.settle.specs.Tests.{and_left, and_right}
use Rattle.netlist.specs.declared.Bit.{Bit}
use Rattle.netlist.specs.declared.Kind.{Kind}
use Rattle.netlist.specs.declared.Kind.TheVariants as K
use Rattle.netlist.specs.Netlist.{bit_of, Control, Reset, Cell, Port, Netlist}
use Rattle.netlist.specs.Reader
use Rattle.netlist.specs.Reader.{Limits, netlist, Step, got, fault, Parser, and_then, ◌>>=◌, done, many, judged, fetched, closed}
use Rattle.netlist.specs.Shape.{FitsCell, FitsPort, Row}
use Rattle.netlist.specs.ReaderLaws.{parts, went, many_at, trailer_at, port_count_of, cells_at_of, cell_count_of}
use Rattle.netlist.proofs.ReaderFits.{Outcome, Sound, many_sound, cell_sound, port_sound}
use Rattle.netlist.specs.Placed.{port_place, cell_place, Laid, PortPlaced, CellPlaced}
use Rattle.netlist.proofs.RecordLaws.{end_after}
use Rattle.netlist.specs.Fields.{records_at, end_at, after, when_set, size_if, word_at, bit_at, bits_at, wires_at, control_at, optional_control_at, reset_at, optional_reset_at}
use Rattle.netlist.specs.Fields.{lut4_at, pfumx_at, l6mux21_at, ccu2c_at, multiplier_at, flip_flop_at, first_size, second_size, second_port_at, block_ram_at, distributed_ram_at, io_at, jtagg_at, pll_at, kind_at, cell_as, cell_at, block_ram_size, size_as, cell_size, cell_end, port_at, port_size, port_end, ports_at, layout_of, netlist_at}

-- a step that got something got this, and ends there
abbrev pub Gives : {A : Type 0} → Step A → A → ℕ → Type 0
Gives (got a j) value next = (a ≡ value) × (j ≡ next)
Gives (fault n q) value next = Unit {0}

pub gives_bind : {A B : Type 0} (p : Parser A) (f : A → Parser B) (i j k : ℕ) (a : A) (b : B) → Gives (p i) a j → Gives (f a j) b k → Gives ((p >>= f) i) b k
gives_bind {A} {B} p f i j k a b hp hf = go (p i) hp
  where
    go : (s : Step A) → Gives s a j → Gives (and_then s f) b k
    go (got x m) h = subst (λ (y : A). Gives (f y m) b k) (sym h.0) (subst (λ (n : ℕ). Gives (f a n) b k) (sym h.1) hf)
    go (fault n q) h = tt

pub gives_got : {A : Type 0} (s : Step A) (v : A) (n : ℕ) (a : A) (j : ℕ) → Gives s v n → s ≡ got a j → (a ≡ v) × (j ≡ n)
gives_got {A} s v n a j g e = subst (λ (t : Step A). Gives t v n) e g

-- a list of records: as many as were asked for
pub gives_many : {A : Type 0} (p : Parser A) (value : ℕ → A) (next : ℕ → ℕ) → ((i : ℕ) → Gives (p i) (value i) (next i)) → (n i : ℕ) → Gives (many n p i) (records_at value next n i) (end_at next n i)
unfolding records_at end_at
gives_many p value next h zero i = (refl, refl)
gives_many p value next h (suc n) i =
    gives_bind p (λ a. many n p >>= (λ l. done (a ∷ l))) i (next i) (end_at next n (next i)) (value i) (value i ∷ records_at value next n (next i)) (h i)
    (gives_bind (many n p) (λ l. done (value i ∷ l)) (next i) (end_at next n (next i)) (end_at next n (next i)) (records_at value next n (next i)) (value i ∷ records_at value next n (next i)) (gives_many p value next h n (next i)) (refl, refl))

module _ (limits : Limits) (words : List ℕ) (end : ℕ) where
  gives_word : (ok : ℕ → Bool) (i j : ℕ) → j ≡ i + 1 → Gives (Reader.word limits words end ok i) (word_at words i) j
  gives_word ok i j e = there (ltb i end)
    where
      value : (b : Bool) → Gives (judged b (word_at words i) i) (word_at words i) j
      value true = (refl, sym e)
      value false = tt

      there : (b : Bool) → Gives (fetched b ok (word_at words i) i) (word_at words i) j
      there true = value (ok (word_at words i))
      there false = tt

  gives_bit : (i j : ℕ) → j ≡ i + 1 → Gives (Reader.bit limits words end i) (bit_at words i) j
  gives_bit i j e = gives_bind (Reader.below limits words end (2 + limits.wires)) (λ x. done (bit_of x)) i j j (word_at words i) (bit_at words i) (gives_word (λ x. ltb x (2 + limits.wires)) i j e) (refl, refl)

  gives_bits : (n i j : ℕ) → j ≡ i + n → Gives (many n (Reader.bit limits words end) i) (bits_at words i n) j
  gives_bits n i j e = subst (λ (k : ℕ). Gives (many n (Reader.bit limits words end) i) (bits_at words i n) k) (end_after n i ∙ sym e)
      (gives_many (Reader.bit limits words end) (bit_at words) after (λ k. gives_bit k (k + 1) refl) n i)

  gives_wire : (i j : ℕ) → j ≡ i + 1 → Gives (Reader.wire limits words end i) (word_at words i) j
  gives_wire i j e = gives_word (λ x. ltb x limits.wires) i j e

  gives_wires : (n i j : ℕ) → j ≡ i + n → Gives (many n (Reader.wire limits words end) i) (wires_at words i n) j
  gives_wires n i j e = subst (λ (k : ℕ). Gives (many n (Reader.wire limits words end) i) (wires_at words i n) k) (end_after n i ∙ sym e)
      (gives_many (Reader.wire limits words end) (word_at words) after (λ k. gives_wire k (k + 1) refl) n i)

  then_word : {B : Type 0} (ok : ℕ → Bool) (i j : ℕ) (f : ℕ → Parser B) (b : B) (k : ℕ) → j ≡ i + 1 → Gives (f (word_at words i) j) b k → Gives ((Reader.word limits words end ok >>= f) i) b k
  then_word ok i j f b k e h = gives_bind (Reader.word limits words end ok) f i j k (word_at words i) b (gives_word ok i j e) h

  then_bit : {B : Type 0} (i j : ℕ) (f : Bit → Parser B) (b : B) (k : ℕ) → j ≡ i + 1 → Gives (f (bit_at words i) j) b k → Gives ((Reader.bit limits words end >>= f) i) b k
  then_bit i j f b k e h = gives_bind (Reader.bit limits words end) f i j k (bit_at words i) b (gives_bit i j e) h

  then_bits : {B : Type 0} (n : ℕ) (i j : ℕ) (f : List Bit → Parser B) (b : B) (k : ℕ) → j ≡ i + n → Gives (f (bits_at words i n) j) b k → Gives ((many n (Reader.bit limits words end) >>= f) i) b k
  then_bits n i j f b k e h = gives_bind (many n (Reader.bit limits words end)) f i j k (bits_at words i n) b (gives_bits n i j e) h

  then_wire : {B : Type 0} (i j : ℕ) (f : ℕ → Parser B) (b : B) (k : ℕ) → j ≡ i + 1 → Gives (f (word_at words i) j) b k → Gives ((Reader.wire limits words end >>= f) i) b k
  then_wire i j f b k e h = gives_bind (Reader.wire limits words end) f i j k (word_at words i) b (gives_wire i j e) h

  then_wires : {B : Type 0} (n : ℕ) (i j : ℕ) (f : List ℕ → Parser B) (b : B) (k : ℕ) → j ≡ i + n → Gives (f (wires_at words i n) j) b k → Gives ((many n (Reader.wire limits words end) >>= f) i) b k
  then_wires n i j f b k e h = gives_bind (many n (Reader.wire limits words end)) f i j k (wires_at words i n) b (gives_wires n i j e) h

  gives_control : (i j : ℕ) → j ≡ i + 2 → Gives (Reader.control limits words end i) (control_at words i) j
  gives_control i j e = then_bit i (i + 1) _ _ _ refl (then_word _ (i + 1) j _ _ _ (omega arith) (refl, refl))

  then_control : {B : Type 0} (i j : ℕ) (f : Control → Parser B) (b : B) (k : ℕ) → j ≡ i + 2 → Gives (f (control_at words i) j) b k → Gives ((Reader.control limits words end >>= f) i) b k
  then_control i j f b k e h = gives_bind (Reader.control limits words end) f i j k (control_at words i) b (gives_control i j e) h

  gives_optional_control : (i j : ℕ) → j ≡ i + 3 → Gives (Reader.optional_control limits words end i) (optional_control_at words i) j
  gives_optional_control i j e = then_word _ i (i + 1) _ _ _ refl (go (word_at words i))
    where
      go : (n : ℕ) → Gives (Reader.control_if limits words end n (i + 1)) (when_set n (control_at words (i + 1))) j
      go zero = then_word _ (i + 1) (i + 2) _ _ _ (omega arith) (then_word _ (i + 2) j _ _ _ (omega arith) (refl, refl))
      go (suc n) = then_control (i + 1) j _ _ _ (omega arith) (refl, refl)

  then_optional_control : {B : Type 0} (i j : ℕ) (f : Option Control → Parser B) (b : B) (k : ℕ) → j ≡ i + 3 → Gives (f (optional_control_at words i) j) b k → Gives ((Reader.optional_control limits words end >>= f) i) b k
  then_optional_control i j f b k e h = gives_bind (Reader.optional_control limits words end) f i j k (optional_control_at words i) b (gives_optional_control i j e) h

  gives_optional_reset : (i j : ℕ) → j ≡ i + 5 → Gives (Reader.optional_reset limits words end i) (optional_reset_at words i) j
  gives_optional_reset i j e = then_word _ i (i + 1) _ _ _ refl (go (word_at words i))
    where
      go : (n : ℕ) → Gives (Reader.reset_if limits words end n (i + 1)) (when_set n (reset_at words (i + 1))) j
      go zero =
          then_word _ (i + 1) (i + 2) _ _ _ (omega arith) (then_word _ (i + 2) (i + 3) _ _ _ (omega arith)
          (then_word _ (i + 3) (i + 4) _ _ _ (omega arith) (then_word _ (i + 4) j _ _ _ (omega arith) (refl, refl))))
      go (suc n) =
          then_bit (i + 1) (i + 1 + 1) _ _ _ (omega arith) (then_word _ (i + 1 + 1) (i + 1 + 2) _ _ _ (omega arith)
          (then_word _ (i + 1 + 2) (i + 1 + 3) _ _ _ (omega arith) (then_word _ (i + 1 + 3) j _ _ _ (omega arith) (refl, refl))))

  then_optional_reset : {B : Type 0} (i j : ℕ) (f : Option Reset → Parser B) (b : B) (k : ℕ) → j ≡ i + 5 → Gives (f (optional_reset_at words i) j) b k → Gives ((Reader.optional_reset limits words end >>= f) i) b k
  then_optional_reset i j f b k e h = gives_bind (Reader.optional_reset limits words end) f i j k (optional_reset_at words i) b (gives_optional_reset i j e) h

  gives_lut4 : (i : ℕ) → Gives (Reader.read_lut4 limits words end (i + 1)) (lut4_at words i) (i + 7)
  gives_lut4 i =
      (then_bits 4 (i + 1) (i + 5) _ _ _ (omega arith)
      (then_wire (i + 5) (i + 6) _ _ _ (omega arith)
      (then_word _ (i + 6) (i + 7) _ _ _ (omega arith)
      (refl, refl))))

  gives_pfumx : (i : ℕ) → Gives (Reader.read_pfumx limits words end (i + 1)) (pfumx_at words i) (i + 5)
  gives_pfumx i =
      (then_bit (i + 1) (i + 2) _ _ _ (omega arith)
      (then_bit (i + 2) (i + 3) _ _ _ (omega arith)
      (then_bit (i + 3) (i + 4) _ _ _ (omega arith)
      (then_wire (i + 4) (i + 5) _ _ _ (omega arith)
      (refl, refl)))))

  gives_l6mux21 : (i : ℕ) → Gives (Reader.read_l6mux21 limits words end (i + 1)) (l6mux21_at words i) (i + 5)
  gives_l6mux21 i =
      (then_bit (i + 1) (i + 2) _ _ _ (omega arith)
      (then_bit (i + 2) (i + 3) _ _ _ (omega arith)
      (then_bit (i + 3) (i + 4) _ _ _ (omega arith)
      (then_wire (i + 4) (i + 5) _ _ _ (omega arith)
      (refl, refl)))))

  gives_ccu2c : (i : ℕ) → Gives (Reader.read_ccu2c limits words end (i + 1)) (ccu2c_at words i) (i + 17)
  gives_ccu2c i =
      (then_bits 4 (i + 1) (i + 5) _ _ _ (omega arith)
      (then_bits 4 (i + 5) (i + 9) _ _ _ (omega arith)
      (then_bit (i + 9) (i + 10) _ _ _ (omega arith)
      (then_wire (i + 10) (i + 11) _ _ _ (omega arith)
      (then_wire (i + 11) (i + 12) _ _ _ (omega arith)
      (then_wire (i + 12) (i + 13) _ _ _ (omega arith)
      (then_word _ (i + 13) (i + 14) _ _ _ (omega arith)
      (then_word _ (i + 14) (i + 15) _ _ _ (omega arith)
      (then_word _ (i + 15) (i + 16) _ _ _ (omega arith)
      (then_word _ (i + 16) (i + 17) _ _ _ (omega arith)
      (refl, refl)))))))))))

  gives_multiplier : (i : ℕ) → Gives (Reader.read_multiplier limits words end (i + 1)) (multiplier_at words i) (i + 73)
  gives_multiplier i =
      (then_bits 18 (i + 1) (i + 19) _ _ _ (omega arith)
      (then_bits 18 (i + 19) (i + 37) _ _ _ (omega arith)
      (then_wires 36 (i + 37) (i + 73) _ _ _ (omega arith)
      (refl, refl))))

  gives_flip_flop : (i : ℕ) → Gives (Reader.read_flip_flop limits words end (i + 1)) (flip_flop_at words i) (i + 13)
  gives_flip_flop i =
      (then_bit (i + 1) (i + 2) _ _ _ (omega arith)
      (then_wire (i + 2) (i + 3) _ _ _ (omega arith)
      (then_bit (i + 3) (i + 4) _ _ _ (omega arith)
      (then_word _ (i + 4) (i + 5) _ _ _ (omega arith)
      (then_optional_control (i + 5) (i + 8) _ _ _ (omega arith)
      (then_optional_reset (i + 8) (i + 13) _ _ _ (omega arith)
      (refl, refl)))))))

  gives_distributed_ram : (i : ℕ) → Gives (Reader.read_distributed_ram limits words end (i + 1)) (distributed_ram_at words i) (i + 22)
  gives_distributed_ram i =
      (then_bits 4 (i + 1) (i + 5) _ _ _ (omega arith)
      (then_bits 4 (i + 5) (i + 9) _ _ _ (omega arith)
      (then_control (i + 9) (i + 11) _ _ _ (omega arith)
      (then_bits 4 (i + 11) (i + 15) _ _ _ (omega arith)
      (then_wires 4 (i + 15) (i + 19) _ _ _ (omega arith)
      (then_bit (i + 19) (i + 20) _ _ _ (omega arith)
      (then_word _ (i + 20) (i + 21) _ _ _ (omega arith)
      (then_word _ (i + 21) (i + 22) _ _ _ (omega arith)
      (refl, refl)))))))))

  gives_io : (i : ℕ) → Gives (Reader.read_io limits words end (i + 1)) (io_at words i) (i + 5)
  gives_io i =
      (then_wire (i + 1) (i + 2) _ _ _ (omega arith)
      (then_bit (i + 2) (i + 3) _ _ _ (omega arith)
      (then_wire (i + 3) (i + 4) _ _ _ (omega arith)
      (then_bit (i + 4) (i + 5) _ _ _ (omega arith)
      (refl, refl)))))

  gives_jtagg : (i : ℕ) → Gives (Reader.read_jtagg limits words end (i + 1)) (jtagg_at words i) (i + 10)
  gives_jtagg i =
      (then_wires 9 (i + 1) (i + 10) _ _ _ (omega arith)
      (refl, refl))

  gives_pll : (i : ℕ) → Gives (Reader.read_pll limits words end (i + 1)) (pll_at words i) (i + size_as words K.Pll i)
  gives_pll i =
      (then_bit (i + 1) (i + 2) _ _ _ (omega arith)
      (then_wire (i + 2) (i + 3) _ _ _ (omega arith)
      (then_wire (i + 3) (i + 4) _ _ _ (omega arith)
      (then_wire (i + 4) (i + 5) _ _ _ (omega arith)
      (then_word _ (i + 5) (i + 6) _ _ _ (omega arith)
      (then_wires (word_at words (i + 5)) (i + 6) (i + size_as words K.Pll i) _ _ _ (omega arith)
      (refl, refl)))))))

  gives_second : (width s flag : ℕ) → Gives (Reader.second_if limits words end flag width s) (when_set flag (second_port_at words s width)) (s + size_if flag (second_size words width))
  gives_second width s zero = (refl, omega arith)
  gives_second width s (suc n) =
      (then_bits 14 s (s + 14) _ _ _ (omega arith)
      (then_control (s + 14) (s + 16) _ _ _ (omega arith)
      (then_optional_control (s + 16) (s + 19) _ _ _ (omega arith)
      (then_optional_control (s + 19) (s + 22) _ _ _ (omega arith)
      (then_bit (s + 22) (s + 23) _ _ _ (omega arith)
      (then_word _ (s + 23) (s + 24) _ _ _ (omega arith)
      (then_bits width (s + 24) (s + (24 + width)) _ _ _ (omega arith)
      (then_wires width (s + (24 + width)) (s + second_size words width) _ _ _ (omega arith)
      (refl, refl)))))))))

  gives_block_ram : (i : ℕ) → Gives (Reader.read_block_ram limits words end (i + 1)) (block_ram_at words i) (i + block_ram_size words i)
  gives_block_ram i =
      let width = word_at words (i + 2) in
      (then_word _ (i + 1) (i + 2) _ _ _ (omega arith)
      (then_word _ (i + 2) (i + 3) _ _ _ (omega arith)
      (then_word _ (i + 3) (i + 4) _ _ _ (omega arith)
      (then_bits 14 (i + 4) (i + 18) _ _ _ (omega arith)
      (then_control (i + 18) (i + 20) _ _ _ (omega arith)
      (then_bits 14 (i + 20) (i + 34) _ _ _ (omega arith)
      (then_optional_control (i + 34) (i + 37) _ _ _ (omega arith)
      (then_optional_control (i + 37) (i + 40) _ _ _ (omega arith)
      (then_bit (i + 40) (i + 41) _ _ _ (omega arith)
      (then_word _ (i + 41) (i + 42) _ _ _ (omega arith)
      (then_word _ (i + 42) (i + 43) _ _ _ (omega arith)
      (then_bits width (i + 43) (i + (43 + width)) _ _ _ (omega arith)
      (then_wires width (i + (43 + width)) (i + first_size words width) _ _ _ (omega arith)
      (gives_bind (Reader.second_if limits words end (word_at words (i + 42)) width) _ (i + first_size words width) (i + first_size words width + size_if (word_at words (i + 42)) (second_size words width)) _ _ _ (gives_second width (i + first_size words width) (word_at words (i + 42)))
      (refl, omega arith)))))))))))))))

  gives_kind : (k : Kind) (i : ℕ) → Gives (Reader.read_as limits words end k (i + 1)) (cell_as words k i) (i + size_as words k i)
  gives_kind K.Lut4 i = gives_lut4 i
  gives_kind K.Pfumx i = gives_pfumx i
  gives_kind K.L6mux21 i = gives_l6mux21 i
  gives_kind K.Ccu2c i = gives_ccu2c i
  gives_kind K.Multiplier i = gives_multiplier i
  gives_kind K.FlipFlop i = gives_flip_flop i
  gives_kind K.BlockRam i = gives_block_ram i
  gives_kind K.DistributedRam i = gives_distributed_ram i
  gives_kind K.Io i = gives_io i
  gives_kind K.Jtagg i = gives_jtagg i
  gives_kind K.Pll i = gives_pll i

  pub gives_cell : (i : ℕ) → Gives (Reader.read_cell limits words end i) (cell_at words i) (cell_end words i)
  unfolding cell_at cell_size
  gives_cell i = then_word _ i (i + 1) _ _ _ refl (gives_kind (kind_at words i) i)

  pub gives_port : (i : ℕ) → Gives (Reader.read_port limits words end i) (port_at words i) (port_end words i)
  unfolding port_at port_size
  gives_port i =
      then_word _ i (i + 1) _ _ _ refl (then_word _ (i + 1) (i + 2) _ _ _ (omega arith) (then_bits (word_at words (i + 1)) (i + 2) (port_end words i) _ _ _ (omega arith) (refl, refl)))

  -- THE LAW

  pub cell_law : (i j : ℕ) (c : Cell) → Reader.read_cell limits words end i ≡ got c j → (c ≡ cell_at words i) × (j ≡ cell_end words i)
  cell_law i j c e = gives_got _ _ _ c j (gives_cell i) e

  -- a section that was read: its records, and its end
  pub record Section {A : Type 0} (p : Parser A) (value : ℕ → A) (next : ℕ → ℕ) (count start : ℕ) (l : List A) : Type 0 where
    pub all : many count p start ≡ got l end
    pub list : l ≡ records_at value next count start
    pub last : end_at next count start ≡ end

  section : {A : Type 0} (p : Parser A) (value : ℕ → A) (next : ℕ → ℕ) (count start : ℕ) (l : List A) (j : ℕ) → ((i : ℕ) → Gives (p i) (value i) (next i))
      → (many count p >>= (λ r. Reader.section_end limits words end r)) start ≡ got l j → Section p value next count start l
  section {A} p value next count start l j g e =
      let w = went (many count p start) (λ r. Reader.section_end limits words end r) l j e in
      let h = gives_got _ _ _ w.value w.next (gives_many p value next g count start) w.first in
      let c = ends w.value w.next l j (eqb w.next end) refl w.rest in
      record {
        all = w.first ∙ ap (λ (r : List A). got r w.next) c.0 ∙ ap (λ (n : ℕ). got l n) c.1;
        list = sym c.0 ∙ h.0;
        last = sym h.1 ∙ c.1;
      }
    where
      ends : (r : List A) (m : ℕ) (l : List A) (j : ℕ) (b : Bool) → eqb m end ≡ b → closed b r m ≡ got l j → (r ≡ l) × (m ≡ end)
      ends r m l j true q e = (cc, eqb-true m end q)
      ends r m l j false q e = let z : ◌≡◌ {A = ℕ} 0 1 = cc in absurd (omega arith)

  -- record k of a section stands where the k before it end, and is inside
  pub record Stands {A : Type 0} (p : Parser A) (value : ℕ → A) (next : ℕ → ℕ) (fits : A → Type 0) (i : ℕ) : Type 0 where
    pub read : p i ≡ got (value i) (next i)
    pub inside : next i ≤ end
    pub fit : fits (value i)

  stands : {A : Type 0} (p : Parser A) (value : ℕ → A) (next : ℕ → ℕ) (fits : A → Type 0) (count start : ℕ) (l : List A) → ((i : ℕ) → Gives (p i) (value i) (next i))
      → Sound limits words end fits p → many count p start ≡ got l end → start ≤ end → (k : ℕ) → k < count → Stands p value next fits (end_at next k start)
  stands {A} p value next fits count start l g s e hs k hk =
      let a = many_at p (value start) count start end l e k hk in
      let b = gives_got _ _ _ _ _ (gives_many p value next g k start) a.before in
      subst (λ (n : ℕ). Stands p value next fits n) b.1 (at a.place a.after _ a.here (inside a.before))
    where
      inside : {r : List A} {m : ℕ} → many k p start ≡ got r m → m ≤ end
      inside {r} {m} q = (subst (λ (t : Step (List A)). Outcome limits words end (Row fits k) start t) q ((many_sound limits words end k s).at start hs)).1

      at : (m n : ℕ) (x : A) → p m ≡ got x n → m ≤ end → Stands p value next fits m
      at m n x q h =
          let o = subst (λ (t : Step A). Outcome limits words end fits m t) q (s.at m h) in
          let v = gives_got _ _ _ x n (g m) q in
          record { read = q ∙ ap (λ (y : A). got y n) v.0 ∙ ap (λ (y : ℕ). got (value m) y) v.1; inside = subst (λ (y : ℕ). y ≤ end) v.1 o.1; fit = subst fits v.0 o.2 }

module _ (limits : Limits) (words : List ℕ) (n : Netlist) (read : Reader.read_words limits words ≡ netlist n) where
  ports_section : Section limits words (cells_at_of words) (Reader.read_port limits words (cells_at_of words)) (port_at words) (port_end words) (port_count_of words) 0 n.ports
  ports_section = section limits words (cells_at_of words) _ _ _ _ _ _ _ (gives_port limits words (cells_at_of words)) (parts limits words n read).ports

  cells_section : Section limits words (trailer_at words) (Reader.read_cell limits words (trailer_at words)) (cell_at words) (cell_end words) (cell_count_of words) (cells_at_of words) n.cells
  cells_section = section limits words (trailer_at words) _ _ _ _ _ _ _ (gives_cell limits words (trailer_at words)) (parts limits words n read).cells

  -- the netlist that was read is the one that the words say
  pub netlist_law : n ≡ netlist_at words
  unfolding netlist_at layout_of
  netlist_law = ap (λ (ps : List Port). record { ports = ps; cells = n.cells }) ports_section.list ∙ ap (λ (cs : List Cell). record { ports = ports_at words 0 (port_count_of words); cells = cs }) cells_section.list

  pub laid : Laid limits words
  unfolding layout_of
  laid =
      let p = parts limits words n read in
      let z = eqb (word_at words (trailer_at words)) 0 in
      let a = leb (port_count_of words) limits.ports in
      let s = leb (cells_at_of words) (trailer_at words) in
      let b = leb (cell_count_of words) limits.cells in
      let e3 = and_left (z && a && s) b p.trailer in
      let e2 = and_left (z && a) s e3 in
      let long = p.long in
      record {
        trailer = omega arith;
        zero = eqb-true _ 0 (and_left z a e2);
        ports = leb-true _ _ (and_right z a e2);
        cells = leb-true _ _ (and_right (z && a && s) b p.trailer);
        start = leb-true _ _ (and_right (z && a) s e3);
        ports_end = ports_section.last;
        cells_end = cells_section.last;
      }

  pub port_placed : (k : ℕ) → k < (layout_of words).ports → PortPlaced limits words (port_place words k)
  unfolding layout_of
  port_placed k h =
      let s = stands limits words (cells_at_of words) _ _ _ (FitsPort limits) (port_count_of words) 0 n.ports (gives_port limits words (cells_at_of words)) (port_sound limits words (cells_at_of words)) ports_section.all (omega arith) k h in
      record { read = s.read; inside = s.inside; fits = s.fit }

  pub cell_placed : (k : ℕ) → k < (layout_of words).cells → CellPlaced limits words (cell_place words k)
  unfolding layout_of
  cell_placed k h =
      let s = stands limits words (trailer_at words) _ _ _ (FitsCell limits) (cell_count_of words) (cells_at_of words) n.cells (gives_cell limits words (trailer_at words)) (cell_sound limits words (trailer_at words)) cells_section.all laid.start k h in
      record { read = s.read; inside = s.inside; fits = s.fit }
