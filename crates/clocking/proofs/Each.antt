-- One value assigned to several wires: a loop over them, and two lists one after the other.
use mathlib.Core.Path.{◌≡◌, refl, ap, sym, ◌∙◌, subst}
use mathlib.Core.Bool.{◌||◌}
use mathlib.Core.List.{List, [], ◌∷◌, ◌++◌}
use Prim.Native.Nat.{ℕ, suc, ◌+◌, ◌≤◌, ◌<◌, min}
use native.Mathlib.Numerals.{add-one}
use native.Mathlib.Omega.{arith}
use lib.Dec.{eqb}
use lib.ListN.{length, get_or, drop, drop_of_length-le}
use lib.Seq.{drop-cons}
use Rattle.bits.specs.Bits.{pick}
use Rattle.netlist.specs.Fields.{records_at, word_at, wires_at}
use Rattle.netlist.proofs.RecordLaws.{wires_length, wires_get}
use Rattle.netlist.proofs.WordLaws.{word_ahead}
use Rattle.std.specs.Prelude.{Result, IsErrAnd}
use Rattle.refusal.specs.declared.Refusal.{Refusal}
use Rattle.refusal.specs.Refusal.{number_of, place_of}
use Rattle.netlist.specs.declared.fields.Fields.{Fields}
use Rattle.recorder.specs.declared.Recorder.{Recorder}
use Rattle.recorder.specs.Writer.{Writer, End, End.ok, End.no, pure, ◌>>=◌}
use Rattle.recorder.specs.Calls.{Writes, ended}
use Rattle.recorder.proofs.Calls.{writes_pure, handed, Underway, underway_start, underway_step, underway_stop, underway_end}
use Rattle.recorder.proofs.Events.{bind_pure, bind_assoc}
use Rattle.wires.specs.Wires.{Wires}
use Rattle.wires.specs.Expressions.{assign_wire}
use Rattle.cells.specs.Cells.{assign_all, emit_idle_jtagg, pll_clocks}

-- the same for each wire
unfoldable pub each : (ℕ → Writer (Unit {0})) → List ℕ → Writer (Unit {0})
each f [] = pure tt
each f (w ∷ ws) = f w >>= λ x. each f ws

pub assign_each : (m : Wires) (ws : List ℕ) (e : ℕ) → assign_all m ws e ≡ each (λ w. assign_wire m w e) ws
unfolding assign_all each
assign_each m [] e = refl
assign_each m (w ∷ ws) e = ap (λ (v : Writer (Unit {0})). assign_wire m w e >>= λ x. v) (assign_each m ws e)

abbrev pub clock : Wires → ℕ → ℕ → ℕ → ℕ → Writer (Unit {0})
clock m feedback output e w = pick (eqb w feedback || eqb w output) (pure tt) (assign_wire m w e)

pub clocks_each : (m : Wires) (feedback output : ℕ) (ws : List ℕ) (e : ℕ) → pll_clocks m feedback output ws e ≡ each (clock m feedback output e) ws
unfolding pll_clocks each
clocks_each m feedback output [] e = refl
clocks_each m feedback output (w ∷ ws) e = ap (λ (v : Writer (Unit {0})). clock m feedback output e w >>= λ x. v) (clocks_each m feedback output ws e)

-- A LOOP over wires: i of them are done

pub record Doing (f : ℕ → Writer (Unit {0})) (ws : List ℕ) (whole : Writer (Unit {0})) (r₀ r : Recorder) (i : ℕ) : Type 0 where
  pub does : Underway r₀ whole r (each f (drop i ws))

module _ {f : ℕ → Writer (Unit {0})} {ws : List ℕ} {whole : Writer (Unit {0})} {r₀ : Recorder} where
  pub doing_start : whole ≡ each f ws → Doing f ws whole r₀ r₀ 0
  doing_start w = record { does = underway_start w }

  module _ {r : Recorder} {i : ℕ} (doing : Doing f ws whole r₀ r i) where
    module _ (some : i < length ws) {w : ℕ} (is : w ≡ get_or ws i 0) where
      more : each f (drop i ws) ≡ (f w >>= λ x. each f (drop (i + 1) ws))
      unfolding each
      more = ap (each f) (drop-cons ws i 0 some) ∙ ap (λ (v : ℕ). f v >>= λ x. each f (drop (suc i) ws)) (sym is) ∙ ap (λ (k : ℕ). f w >>= λ x. each f (drop k ws)) (sym (add-one i))

      pub doing_step : {x : Unit {0}} {r₁ : Recorder} → Writes r (f w) (ok x) r₁ → Doing f ws whole r₀ r₁ (i + 1)
      doing_step h = record { does = underway_step _ doing.does more h refl }

      pub doing_err : {C : Type 0} (g : C → Unit {0}) (q : Result C Refusal) (x : Refusal) → IsErrAnd q (λ y. y ≡ x) → {r₁ : Recorder} → Writes r (f w) (no (number_of x) (place_of x)) r₁ → Writes r₀ whole (ended g q) r₁
      doing_err g q x e {r₁} h = subst (λ (y : End (Unit {0})). Writes r₀ whole y r₁) (sym (handed g q x e)) (underway_stop _ doing.does more h refl)

    pub doing_end : length ws ≤ i → Writes r₀ whole (ok tt) r
    unfolding each
    doing_end all = underway_end doing.does (ap (each f) (drop_of_length-le ws all)) writes_pure

-- wire i of those that a record has from an offset on
pub wire_there : (f g : Fields) (offset n i : ℕ) {w : ℕ} → g ≡ record f { at = min (f.at + offset) (length f.words.now) } → i < n → w ≡ word_at g.words.now (g.at + i) → w ≡ get_or (wires_at f.words.now (f.at + offset) n) i 0
wire_there f g offset n i {w} q h e =
    e ∙ ap (λ (x : Fields). word_at x.words.now (x.at + i)) q
    ∙ word_ahead f.words.now (f.at + offset) (min (f.at + offset) (length f.words.now)) refl i ∙ sym (wires_get f.words.now (f.at + offset) n 0 i h)

pub wire_some : (words : List ℕ) (at n i : ℕ) → i < n → i < length (wires_at words at n)
wire_some words at n i h = subst (λ (k : ℕ). i < k) (sym (wires_length words at n)) h

pub wires_all : (words : List ℕ) (at n i : ℕ) → n ≤ i → length (wires_at words at n) ≤ i
wires_all words at n i h = subst (λ (k : ℕ). k ≤ i) (sym (wires_length words at n)) h

-- TWO LISTS one after the other

assign_append : (m : Wires) (xs ys : List ℕ) (e : ℕ) → assign_all m (xs ++ ys) e ≡ (assign_all m xs e >>= λ u. assign_all m ys e)
unfolding assign_all
assign_append m [] ys e = sym (bind_pure tt (λ u. assign_all m ys e))
assign_append m (x ∷ xs) ys e = ap (λ (v : Writer (Unit {0})). assign_wire m x e >>= λ u. v) (assign_append m xs ys e) ∙ sym (bind_assoc (assign_wire m x e) (λ u. assign_all m xs e) (λ u. assign_all m ys e))

pub jtagg_split : (m : Wires) (words : List ℕ) (at : ℕ) {reset : ℕ} → reset ≡ word_at words (at + 7)
    → emit_idle_jtagg m (wires_at words (at + 1) 9) ≡ (assign_all m (wires_at words (at + 1) 6) 0 >>= λ u. assign_all m (wires_at words (at + 8) 2) 0 >>= λ v. assign_wire m reset 1)
unfolding emit_idle_jtagg records_at
jtagg_split m words at {reset} e =
    ap (λ (i : ℕ). assign_all m (wires_at words (at + 1) 6 ++ wires_at words i 2) 0 >>= λ u. assign_wire m (get_or (wires_at words (at + 1) 9) 6 0) 1) eight
    ∙ ap (λ (v : Writer (Unit {0})). v >>= λ u. assign_wire m (get_or (wires_at words (at + 1) 9) 6 0) 1) (assign_append m (wires_at words (at + 1) 6) (wires_at words (at + 8) 2) 0)
    ∙ bind_assoc (assign_all m (wires_at words (at + 1) 6) 0) (λ u. assign_all m (wires_at words (at + 8) 2) 0) (λ u. assign_wire m (get_or (wires_at words (at + 1) 9) 6 0) 1)
    ∙ ap (λ (w : ℕ). assign_all m (wires_at words (at + 1) 6) 0 >>= λ u. assign_all m (wires_at words (at + 8) 2) 0 >>= λ v. assign_wire m w 1) (ap (λ (i : ℕ). word_at words i) seven ∙ sym e)
  where
    eight : at + 1 + 1 + 1 + 1 + 1 + 1 + 1 + 1 ≡ at + 8
    eight = omega arith

    seven : at + 1 + 1 + 1 + 1 + 1 + 1 + 1 ≡ at + 7
    seven = omega arith
