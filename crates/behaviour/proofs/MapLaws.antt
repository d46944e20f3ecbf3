-- What an entry of the wire map says, and how the map grows: slots that are added change no entry that is there.
-- Assumes nothing.
use mathlib.Core.Path.{◌≡◌, refl, sym, ◌∙◌, ap}
use mathlib.Core.Bool.{Bool, true, false}
use mathlib.Core.List.{List, [], ◌∷◌, ◌++◌, map}
use Rattle.std.specs.Prelude.{Option, None, Some}
use Prim.Native.Nat.{ℕ, zero, suc, ◌+◌, ◌<◌}
use native.Mathlib.Nat.{not-suc-le-zero, le_of_suc-le-suc}
use native.Mathlib.Omega.{arith}
use lib.ListN.{length, get_or}
use Rattle.bits.specs.Bits.{pick}
use Rattle.netlist.specs.declared.Bit.{Bit}
use Rattle.netlist.specs.declared.Bit.TheVariants.{Zero, One, Wire}
use Rattle.netlist.specs.Reader.{same_bit}
use Rattle.behaviour.specs.Banks.{Member, Bank, cells_of, outputs_of}
use Rattle.behaviour.specs.WireMap.{Source, Slot, WireRef, place_of, held_at, find, bank_slot}
use Rattle.behaviour.specs.Behaviour.{pin, bit_source}
use Rattle.behaviour.proofs.BankLaws.{same_bit_is}

-- GROWING

abbrev pub or_else : Option WireRef → Option WireRef → Option WireRef
or_else None later = later
or_else (Some r) later = Some r

held_later : (o : Option ℕ) (s : Slot) (n : ℕ) (a b : Option WireRef) → held_at o s n (or_else a b) ≡ or_else (held_at o s n a) b
held_later None s n a b = refl
held_later (Some i) s n a b = refl

pub find_append : (w : ℕ) (a b : List Slot) (n : ℕ) → find w (a ++ b) n ≡ or_else (find w a n) (find w b (n + length a))
find_append w [] b n = ap (find w b) (omega arith)
find_append w (s ∷ a) b n =
    ap (held_at (place_of w s.bits 0) s n) (find_append w a b (suc n) ∙ ap (λ (k : ℕ). or_else (find w a (suc n)) (find w b k)) (omega arith))
    ∙ held_later (place_of w s.bits 0) s n (find w a (suc n)) (find w b (n + suc (length a)))

-- one slot more, whose signal has the next number
pub find_one_more : (w : ℕ) (held : List Slot) (s : Slot) → find w (held ++ (s ∷ [])) 0 ≡ or_else (find w held 0) (held_at (place_of w s.bits 0) s (length held) None)
find_one_more w held s = find_append w held (s ∷ []) 0 ∙ ap (λ (k : ℕ). or_else (find w held 0) (held_at (place_of w s.bits 0) s k None)) (omega arith)

-- ENTRIES

-- wire w stands at place k of the bits, which are counted from i
pub record PlacedAt (w : ℕ) (bits : List Bit) (i k : ℕ) : Type 0 where
  pub at : ℕ
  pub place : k ≡ i + at
  pub inside : at < length bits
  pub is : get_or bits at Zero ≡ Wire w

abbrev pub PlaceIs : ℕ → List Bit → ℕ → Option ℕ → Type 0
PlaceIs w bits i None = Unit {0}
PlaceIs w bits i (Some k) = PlacedAt w bits i k

pub place_is : (w : ℕ) (bits : List Bit) (i : ℕ) → PlaceIs w bits i (place_of w bits i)
place_is w [] i = tt
place_is w (b ∷ bits) i = go (same_bit (Wire w) b) refl (place_of w bits (suc i)) (place_is w bits (suc i))
  where
    later : (o : Option ℕ) → PlaceIs w bits (suc i) o → PlaceIs w (b ∷ bits) i o
    later None h = tt
    later (Some k) h = record { at = suc h.at; place = omega (arith, h.place); inside = omega (arith, h.inside); is = h.is }

    go : (t : Bool) → same_bit (Wire w) b ≡ t → (o : Option ℕ) → PlaceIs w bits (suc i) o → PlaceIs w (b ∷ bits) i (pick t (Some i) o)
    go true e o h = record { at = 0; place = omega arith; inside = omega arith; is = sym (same_bit_is (Wire w) b e) }
    go false e o h = later o h

-- slot s holds wire w, and the entry says so
pub record Holds (w : ℕ) (s : Slot) (r : WireRef) : Type 0 where
  pub width : r.width ≡ length s.bits
  pub source : r.source ≡ s.source
  pub inside : r.lowest < length s.bits
  pub is : get_or s.bits r.lowest Zero ≡ Wire w

-- the entry is that of slot number `at`, counted from n
pub record FoundAt (w : ℕ) (l : List Slot) (n : ℕ) (d : Slot) (r : WireRef) : Type 0 where
  pub at : ℕ
  pub signal : r.signal ≡ n + at
  pub inside : at < length l
  pub holds : Holds w (get_or l at d) r

abbrev pub FoundIs : ℕ → List Slot → ℕ → Slot → Option WireRef → Type 0
FoundIs w l n d None = Unit {0}
FoundIs w l n d (Some r) = FoundAt w l n d r

pub found_is : (w : ℕ) (l : List Slot) (n : ℕ) (d : Slot) → FoundIs w l n d (find w l n)
found_is w [] n d = tt
found_is w (s ∷ l) n d = go (place_of w s.bits 0) (place_is w s.bits 0) (find w l (suc n)) (found_is w l (suc n) d)
  where
    later : (o : Option WireRef) → FoundIs w l (suc n) d o → FoundIs w (s ∷ l) n d o
    later None h = tt
    later (Some r) h = record { at = suc h.at; signal = omega (arith, h.signal); inside = omega (arith, h.inside); holds = h.holds }

    go : (p : Option ℕ) → PlaceIs w s.bits 0 p → (o : Option WireRef) → FoundIs w l (suc n) d o → FoundIs w (s ∷ l) n d (held_at p s n o)
    go None q o h = later o h
    go (Some i) q o h =
        let z : q.at ≡ i = omega (arith, q.place) in
        record {
          at = 0;
          signal = omega arith;
          inside = omega arith;
          holds = record { width = refl; source = refl; inside = omega (arith, q.inside, z); is = ap (λ (k : ℕ). get_or s.bits k Zero) (sym z) ∙ q.is };
        }

-- BANKS

cells_at : (ms : List Member) (d : Member) (i : ℕ) → i < length ms → get_or (cells_of ms) i 0 ≡ (get_or ms i d).cell
cells_at [] d i h = absurd (not-suc-le-zero h)
cells_at (m ∷ ms) d zero h = refl
cells_at (m ∷ ms) d (suc i) h = cells_at ms d i (le_of_suc-le-suc h)

outputs_at : (ms : List Member) (d : Member) (i : ℕ) → i < length ms → get_or (map Wire (outputs_of ms)) i Zero ≡ Wire (get_or ms i d).flop.output
outputs_at [] d i h = absurd (not-suc-le-zero h)
outputs_at (m ∷ ms) d zero h = refl
outputs_at (m ∷ ms) d (suc i) h = outputs_at ms d i (le_of_suc-le-suc h)

bank_wide : (ms : List Member) → length (map Wire (outputs_of ms)) ≡ length ms
bank_wide [] = refl
bank_wide (m ∷ ms) = ap suc (bank_wide ms)

wire_of : Bit → ℕ
wire_of Zero = 0
wire_of One = 0
wire_of (Wire w) = w

-- a wire that a bank's slot holds is the output of the member at its bit, and that member's cell drives it
pub record BankHolds (b : Bank) (w : ℕ) (d : Member) (r : WireRef) : Type 0 where
  pub inside : r.lowest < length b.members
  pub output : (get_or b.members r.lowest d).flop.output ≡ w
  pub drives : bit_source r.source r.lowest ≡ pin (get_or b.members r.lowest d).cell 0

pub bank_holds : (b : Bank) (w : ℕ) (d : Member) (r : WireRef) → Holds w (bank_slot b) r → BankHolds b w d r
unfolding wire_of
bank_holds b w d r h =
    let inside : r.lowest < length b.members = omega (arith, h.inside, bank_wide b.members) in
    record {
      inside = inside;
      output = ap wire_of (sym (outputs_at b.members d r.lowest inside) ∙ h.is);
      drives = ap (λ (s : Source). bit_source s r.lowest) h.source ∙ ap (λ (c : ℕ). pin c 0) (cells_at b.members d r.lowest inside);
    }
