-- The loop that reserves the banks' signals.
use mathlib.Core.Path.{◌≡◌, refl, ap, ap₂, sym, ◌∙◌, subst, fun_ext}
use mathlib.Core.List.{List}
use Prim.Native.Nat.{ℕ, ◌+◌, ◌≤◌, ◌<◌}
use native.Mathlib.Numerals.{add-one}
use native.Mathlib.Omega.{arith}
use lib.ListN.{length, drop, drop_of_length-le}
use Rattle.std.specs.Prelude.{Result, Ok, Err, IsErrAnd}
use Rattle.netlist.specs.declared.Limits.{Limits}
use Rattle.netlist.specs.Fields.{cells_at}
use Rattle.netlist.specs.Shape.{Each, FitsWire}
use Rattle.refusal.specs.declared.Refusal.{Refusal}
use Rattle.behaviour.specs.Banks.{Member, Bank, outputs_of, collect_flip_flop_banks}
use Rattle.recorder.specs.Writer.{Writer, ◌>>=◌}
use Rattle.wires.specs.Wires.{Wires}
use Rattle.lowering.specs.Reserve.{reserve_vector, reserve_flip_flop_banks}
use Rattle.converter.specs.declared.Reserver.{Reserver}
use Rattle.converter.specs.declared.members.Banks.{Banks}
use Rattle.converter.specs.declared.members.Members.{Members}
use Rattle.converter.specs.Tables.{map_in, Reserves}
use Rattle.converter.specs.Members.{members_left}
use Rattle.converter.specs.Reserved.{Noted, BanksFit}
use Rattle.converter.proofs.Reserving.{Under, Reserving, reserving_start, reserving_step, reserving_err, reserving_end}
use Rattle.converter.proofs.Noted.{members_are, bank_of, bank_next, banks_end, outputs_fit, members_few}

module _ (banks : Banks) where
  abbrev bs : List Bank
  bs = collect_flip_flop_banks (cells_at banks.cells.words.now banks.cells.at banks.n)

  -- what is left from bank b on
  unfoldable pub left : Wires → ℕ → Writer Wires
  left m b = reserve_flip_flop_banks m b (drop b bs)

  -- the members that the code goes over
  abbrev pub TheMembers : ℕ → Members → Type 0
  TheMembers b m = m ≡ record { cell = record { number = 0; fields = banks.cells }; end = banks.n; numbers = banks.numbers; bank = b + 1 }

  pub members_of_bank : (b : ℕ) {m : Members} → TheMembers b m → (so : Noted banks) → members_left m ≡ (bank_of so b).members
  unfolding bank_of
  members_of_bank b {m} e so =
      members_are so b m (ap (λ (x : Members). x.cell.fields.words.now) e) (ap (λ (x : Members). x.cell.fields.at) e) (ap (λ (x : Members). x.cell.number) e) (ap (λ (x : Members). x.end) e) (ap (λ (x : Members). x.numbers.now) e) (ap (λ (x : Members). x.bank) e)

  pub record BanksLoop (r₀ r : Reserver) (b : ℕ) : Type 0 where
    pub goes : Reserving (BanksFit banks) r₀ (reserve_flip_flop_banks (map_in r₀) 0 bs) r (left (map_in r) b)

  pub banks_start : (r₀ : Reserver) → BanksLoop r₀ r₀ 0
  unfolding left
  banks_start r₀ = record { goes = reserving_start refl }

  module _ {r₀ r : Reserver} {b : ℕ} (now : BanksLoop r₀ r b) where
    module _ (less : b < banks.count) {m : Members} (are : TheMembers b m) where
      abbrev Fit : Limits → Type 0
      Fit limits = Each (FitsWire limits) (outputs_of (members_left m)) × (length (members_left m) < 65536)

      begins : (limits : Limits) → BanksFit banks limits → left (map_in r) b ≡ (reserve_vector (map_in r) 7 b (outputs_of (members_left m)) >>= λ m₁. left m₁ (b + 1))
      unfolding left reserve_flip_flop_banks
      begins limits p =
          let so : Noted banks = p.2 in
          ap (reserve_flip_flop_banks (map_in r) b) (bank_next so b less)
          ∙ ap₂ (λ (ms : List Member) (k : Wires → Writer Wires). reserve_vector (map_in r) 7 b (outputs_of ms) >>= k) (sym (members_of_bank b are so)) (fun_ext (λ m₁. ap (λ (k : ℕ). reserve_flip_flop_banks m₁ k (drop (b + 1) bs)) (sym (add-one b))))

      under : Under r (BanksFit banks) Fit
      under limits room p =
          let so : Noted banks = p.2 in
          subst (λ (ms : List Member). Each (FitsWire limits) (outputs_of ms) × (length ms < 65536)) (sym (members_of_bank b are so)) (outputs_fit so limits b less p.0, omega (arith, members_few so b less, p.1))

      pub banks_step : {r₁ : Reserver} → Reserves Fit r (reserve_vector (map_in r) 7 b (outputs_of (members_left m))) (Ok tt) r₁ → BanksLoop r₀ r₁ (b + 1)
      banks_step h = record { goes = reserving_step now.goes (λ m₁. left m₁ (b + 1)) begins under h }

      pub banks_err : {y : Refusal} {r₁ : Reserver} → Reserves Fit r (reserve_vector (map_in r) 7 b (outputs_of (members_left m))) (Err y) r₁ → (q : Result (Unit {0}) Refusal) → IsErrAnd q (λ z. z ≡ y) → Reserves (BanksFit banks) r₀ (reserve_flip_flop_banks (map_in r₀) 0 bs) q r₁
      banks_err h q e = reserving_err now.goes (λ m₁. left m₁ (b + 1)) begins under h q e

    pub banks_done : banks.count ≤ b → Reserves (BanksFit banks) r₀ (reserve_flip_flop_banks (map_in r₀) 0 bs) (Ok tt) r
    unfolding left reserve_flip_flop_banks
    banks_done h = reserving_end now.goes (λ limits p. ap (reserve_flip_flop_banks (map_in r) b) (drop_of_length-le bs (banks_end p.2 b h)))
