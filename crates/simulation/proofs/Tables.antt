-- Tables of numbers: what filling one leaves, and what is read from one. Assumes nothing.
use Prim.Native.Nat.{ℕ, zero, suc, ◌+◌, ◌-◌, ◌≤◌, ◌<◌, min}
use mathlib.Core.Path.{◌≡◌, refl, sym, ◌∙◌, ap}
use mathlib.Core.Bool.{Bool, true, false}
use mathlib.Core.List.{List, [], ◌∷◌}
use Rattle.std.specs.Prelude.{Option, None, Some}
use Rattle.std.specs.Option.{SomeIff}
use native.Mathlib.Omega.{arith}
use native.Mathlib.Numerals.{add-one}
use native.Mathlib.Nat.{not-suc-le-zero}
use native.Mathlib.Decide.{dec_lt}
use lib.Dec.{ltb}
use lib.ListN.{length, get_or, set}
use lib.Seq.{ext_get_or}
use borrow.Author.Tests.{ltb-true}
use Rattle.bits.specs.Bits.{pick}
use Rattle.bits.proofs.Options.{none_ne_some, some_ne_none, some_injective}
use Rattle.simulation.specs.Tick.{given, assigns}
use Rattle.simulation.specs.Index.{records_in, widths_in, offset, start_of, Listed, Indexed, Starts, filling, width_entry, width_table, start_entry, start_table, offset_entry, offset_table, tabled, start_by, offset_by, stmts_in, coded, uncoded, Driven, driver_entry, driver_table, driver_by}
use Rattle.simulation.proofs.Offsets.{offset_le}
use Rattle.simulation.proofs.Steps.{length_widths}

-- FILLING

pub filling_none : (f : ℕ → ℕ) (t : List ℕ) → t ≡ filling f 0 t
unfolding filling
filling_none f t = refl

filling_length : (f : ℕ → ℕ) (n : ℕ) (t : List ℕ) → length (filling f n t) ≡ length t
unfolding filling
filling_length f zero t = refl
filling_length f (suc n) [] = refl
filling_length f (suc n) (w ∷ t) = ap suc (filling_length (λ (i : ℕ). f (suc i)) n t)

filling_at : (f : ℕ → ℕ) (n : ℕ) (t : List ℕ) (i : ℕ) → i < n → i < length t → get_or (filling f n t) i 0 ≡ f i
unfolding filling
filling_at f zero t i h q = absurd (not-suc-le-zero h)
filling_at f (suc n) [] i h q = absurd (not-suc-le-zero q)
filling_at f (suc n) (w ∷ t) zero h q = refl
filling_at f (suc n) (w ∷ t) (suc i) h q = filling_at (λ (j : ℕ). f (suc j)) n t i (omega arith) (omega arith)

filling_suc : (f : ℕ → ℕ) (k : ℕ) (t : List ℕ) → set (filling f k t) k (f k) ≡ filling f (suc k) t
unfolding filling
filling_suc f zero [] = refl
filling_suc f (suc k) [] = refl
filling_suc f zero (w ∷ t) = refl
filling_suc f (suc k) (w ∷ t) = ap (λ (r : List ℕ). f 0 ∷ r) (filling_suc (λ (i : ℕ). f (suc i)) k t)

pub filling_more : (f : ℕ → ℕ) (k : ℕ) (t₀ : List ℕ) {t : List ℕ} (w : ℕ) → t ≡ filling f k t₀ → w ≡ f k → set t k w ≡ filling f (k + 1) t₀
filling_more f k t₀ {t} w e v =
    ap (λ (r : List ℕ). set r k w) e ∙ ap (set (filling f k t₀) k) v ∙ filling_suc f k t₀ ∙ ap (λ (j : ℕ). filling f j t₀) (sym (add-one k))

-- a table that is full takes no more
filling_past : (f : ℕ → ℕ) (k n : ℕ) (t : List ℕ) → length t ≤ k → k ≤ n → filling f k t ≡ filling f n t
unfolding filling
filling_past f zero zero [] h q = refl
filling_past f zero (suc n) [] h q = refl
filling_past f (suc k) zero t h q = absurd (not-suc-le-zero q)
filling_past f (suc k) (suc n) [] h q = refl
filling_past f zero n (w ∷ t) h q = absurd (not-suc-le-zero h)
filling_past f (suc k) (suc n) (w ∷ t) h q = ap (λ (r : List ℕ). f 0 ∷ r) (filling_past (λ (i : ℕ). f (suc i)) k n t (omega arith) (omega arith))

filled_length : (f : ℕ → ℕ) (k : ℕ) (t₀ : List ℕ) {t : List ℕ} → t ≡ filling f k t₀ → length t ≡ length t₀
filled_length f k t₀ e = ap length e ∙ filling_length f k t₀

-- what a filled table says
filled_at : (f : ℕ → ℕ) (n : ℕ) (t₀ : List ℕ) {t : List ℕ} → t ≡ filling f n t₀ → (i : ℕ) → i < n → i < length t → get_or t i 0 ≡ f i
filled_at f n t₀ {t} e i h q = ap (λ (r : List ℕ). get_or r i 0) e ∙ filling_at f n t₀ i h (omega (arith, filled_length f n t₀ e))

pub filling_full : (f : ℕ → ℕ) (k n : ℕ) (t₀ : List ℕ) {t : List ℕ} → t ≡ filling f k t₀ → length t ≤ k → k ≤ n → t ≡ filling f n t₀
filling_full f k n t₀ e h q = e ∙ filling_past f k n t₀ (omega (arith, filled_length f k t₀ e)) q

-- as many as the table has room for
pub filling_end : (f : ℕ → ℕ) (m : ℕ) (t₀ : List ℕ) {n : ℕ} {t : List ℕ} → t ≡ filling f n t₀ → n ≡ min (length t₀) m → t ≡ filling f m t₀
filling_end f m t₀ {n} {t} e h = go (dec_lt m (length t₀))
  where
    go : Dec (m < length t₀) → t ≡ filling f m t₀
    go (yes q) = let z : n ≡ m = omega arith in e ∙ ap (λ (j : ℕ). filling f j t₀) z
    go (no q) = filling_full f n m t₀ e (omega (arith, filled_length f n t₀ e)) (omega arith)

module _ (l t₀ : List ℕ) {t : List ℕ} where
  pub widths_filled : t ≡ width_table l t₀ → Listed (widths_in l) t
  unfolding width_table
  widths_filled e = record { width_at = λ i q h. filled_at (width_entry l) (length (records_in l)) t₀ e i (omega (arith, length_widths l)) q }

  pub starts_filled : t ≡ start_table l t₀ → Starts l t
  unfolding start_table
  starts_filled e = record { start_at = λ k q h. filled_at (start_entry l) (length (records_in l)) t₀ e k h q }

  pub offsets_filled : t ≡ offset_table l t₀ → Indexed (widths_in l) t
  unfolding offset_table
  offsets_filled e = record { offset_at = λ i q h. filled_at (offset_entry l) (length (records_in l) + 1) t₀ e i (omega (arith, length_widths l)) q }

  pub drivers_filled : t ≡ driver_table l t₀ → Driven l t
  unfolding driver_table
  drivers_filled e =
      record { driver_at = λ s q. filled_at (driver_entry l) (length t₀) t₀ e s (omega (arith, filled_length (driver_entry l) (length t₀) t₀ e)) q }

  -- a table that says every signal's driver is that table
  pub drivers_are : Driven l t → length t ≡ length t₀ → t ≡ driver_table l t₀
  unfolding driver_table
  drivers_are d e =
      ext_get_or 0 t (filling (driver_entry l) (length t₀) t₀) (e ∙ sym (filling_length (driver_entry l) (length t₀) t₀)) (λ s h. d.driver_at s h ∙ sym (filling_at (driver_entry l) (length t₀) t₀ s (omega arith) (omega arith)))

-- READING: what is less than the largest word is said as it is

pub starts_read : {l table : List ℕ} → Starts l table → (k : ℕ) → k < length table → k < length (records_in l) → get_or table k 0 < 4294967295 → get_or table k 0 ≡ start_of l k
starts_read s k h q w = let e = s.start_at k h q in omega arith

pub indexed_read : {ws table : List ℕ} → Indexed ws table → (k : ℕ) → k < length table → k ≤ length ws → get_or table k 0 < 4294967295 → get_or table k 0 ≡ offset ws k
indexed_read s k h q w = let e = s.offset_at k h q in omega arith

pub coded_is : (w : ℕ) (o : Option ℕ) → w ≡ coded o → w < 4294967295 → uncoded w ≡ o
coded_is zero None e h = refl
coded_is (suc w) None e h = absurd (omega arith)
coded_is zero (Some x) e h = absurd (omega arith)
coded_is (suc w) (Some x) e h = let z : w ≡ x = omega arith in ap Some z

-- by what it says at k, or by what is found where it says nothing
module _ {A : Type 0} (t : List ℕ) (k : ℕ) (said : ℕ → A) (found : A) where
  tabled_said : (w : ℕ) → Some w ≡ tabled t k Some None → said w ≡ tabled t k said found
  tabled_said w = go (ltb (get_or t k 4294967295) 4294967295)
    where
      go : (b : Bool) → Some w ≡ pick b (Some (get_or t k 4294967295)) None → said w ≡ pick b (said (get_or t k 4294967295)) found
      go true e = ap said (some_injective w (get_or t k 4294967295) e)
      go false e = absurd (some_ne_none w e)

  tabled_found : None ≡ tabled t k Some None → found ≡ tabled t k said found
  tabled_found = go (ltb (get_or t k 4294967295) 4294967295)
    where
      go : (b : Bool) → None ≡ pick b (Some (get_or t k 4294967295)) None → found ≡ pick b (said (get_or t k 4294967295)) found
      go true e = absurd (none_ne_some (get_or t k 4294967295) e)
      go false e = refl

-- within a table, what stands for its end does not matter
pub entry_in : (t : List ℕ) (k : ℕ) → k < length t → get_or t k 0 ≡ get_or t k 4294967295
entry_in [] k h = absurd (not-suc-le-zero h)
entry_in (x ∷ t) zero h = refl
entry_in (x ∷ t) (suc k) h = entry_in t k (omega arith)

-- a table says something only within
said_inside : (t : List ℕ) (k : ℕ) → get_or t k 4294967295 < 4294967295 → k < length t
said_inside [] k h = absurd (omega arith)
said_inside (x ∷ t) zero h = omega arith
said_inside (x ∷ t) (suc k) h = let r = said_inside t k h in omega arith

-- what a table says is one of its entries, and less than the largest word
pub entry_said : (t : List ℕ) (k w : ℕ) → Some w ≡ tabled t k Some None → (k < length t) × (w ≡ get_or t k 0) × (w < 4294967295)
entry_said t k w = go (ltb (get_or t k 4294967295) 4294967295) refl
  where
    go : (b : Bool) → ltb (get_or t k 4294967295) 4294967295 ≡ b → Some w ≡ pick b (Some (get_or t k 4294967295)) None → (k < length t) × (w ≡ get_or t k 0) × (w < 4294967295)
    go true l e =
        let h = ltb-true (get_or t k 4294967295) 4294967295 l in
        let i = said_inside t k h in
        let z : w ≡ get_or t k 4294967295 = some_injective w (get_or t k 4294967295) e in
        (i, z ∙ sym (entry_in t k i), omega arith)
    go false l e = absurd (some_ne_none w e)

-- what holds of what the table says, and of what is found, holds of what is read
tabled_is : {A : Type 0} (t : List ℕ) (k : ℕ) (said : ℕ → A) (found v : A) → (k < length t → get_or t k 0 < 4294967295 → said (get_or t k 0) ≡ v) → found ≡ v → tabled t k said found ≡ v
tabled_is {A} t k said found v s f = go (ltb (get_or t k 4294967295) 4294967295) refl
  where
    go : (b : Bool) → ltb (get_or t k 4294967295) 4294967295 ≡ b → pick b (said (get_or t k 4294967295)) found ≡ v
    go true h =
        let l = ltb-true (get_or t k 4294967295) 4294967295 h in
        let i = said_inside t k l in
        let e = entry_in t k i in
        ap said (sym e) ∙ s i (omega arith)
    go false h = f

-- an entry less one, where it is not 0
pub less_one : (w : ℕ) (o : Option ℕ) → SomeIff o (1 ≤ w) (w - 1) → o ≡ uncoded w
less_one zero None h = refl
less_one (suc w) None h = absurd (h (omega arith))
less_one zero (Some e) h = absurd (omega (arith, h.0))
less_one (suc w) (Some e) h = let z : e ≡ w = omega (arith, h.1) in ap Some z

module _ (l t : List ℕ) (k : ℕ) where
  pub start_said : (w : ℕ) → Some w ≡ tabled t k Some None → w ≡ start_by l t k
  unfolding start_by
  start_said = tabled_said t k (λ (v : ℕ). v) (start_of l k)

  pub start_found : None ≡ tabled t k Some None → start_of l k ≡ start_by l t k
  unfolding start_by
  start_found = tabled_found t k (λ (v : ℕ). v) (start_of l k)

  pub offset_said : (w : ℕ) → Some w ≡ tabled t k Some None → w ≡ offset_by l t k
  unfolding offset_by
  offset_said = tabled_said t k (λ (v : ℕ). v) (min (offset (widths_in l) k) 18446744073709551615)

  pub offset_found : None ≡ tabled t k Some None → min (offset (widths_in l) k) 18446744073709551615 ≡ offset_by l t k
  unfolding offset_by
  offset_found = tabled_found t k (λ (v : ℕ). v) (min (offset (widths_in l) k) 18446744073709551615)

  pub driver_said : (w : ℕ) → Some w ≡ tabled t k Some None → uncoded w ≡ driver_by l t k
  unfolding driver_by
  driver_said = tabled_said t k uncoded (given assigns (stmts_in l) k)

  pub driver_found : None ≡ tabled t k Some None → given assigns (stmts_in l) k ≡ driver_by l t k
  unfolding driver_by
  driver_found = tabled_found t k uncoded (given assigns (stmts_in l) k)

-- WHERE THE TABLE IS RIGHT

module _ (l t : List ℕ) (k : ℕ) where
  pub start_right : {r : ℕ} → r ≡ start_by l t k → Starts l t → k < length (records_in l) → r ≡ start_of l k
  unfolding start_by
  start_right e s h = e ∙ tabled_is t k (λ (v : ℕ). v) (start_of l k) (start_of l k) (λ q w. starts_read s k q h w) refl

  pub offset_right : {r : ℕ} → r ≡ offset_by l t k → Indexed (widths_in l) t → k ≤ length (records_in l) → offset (widths_in l) (length (records_in l)) ≤ 18446744073709551615 → r ≡ offset (widths_in l) k
  unfolding offset_by
  offset_right e s h f =
      let g = offset_le (widths_in l) k (length (records_in l)) h in
      e ∙ tabled_is t k (λ (v : ℕ). v) (min (offset (widths_in l) k) 18446744073709551615) (offset (widths_in l) k) (λ q w. indexed_read s k q (omega (arith, length_widths l)) w) (omega arith)

  pub driver_right : {o : Option ℕ} → o ≡ driver_by l t k → Driven l t → o ≡ given assigns (stmts_in l) k
  unfolding driver_by
  driver_right e d = e ∙ tabled_is t k uncoded (given assigns (stmts_in l) k) (given assigns (stmts_in l) k) (λ q w. coded_is (get_or t k 0) (given assigns (stmts_in l) k) (d.driver_at k q) w) refl
