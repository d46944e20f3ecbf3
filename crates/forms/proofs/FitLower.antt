-- The emission of a netlist makes good records, where the wire map suits it.
-- Assumes nothing.
use mathlib.Core.Path.{◌≡◌, refl, ap, ◌∙◌, subst}
use mathlib.Core.Bool.{Bool, true, false}
use mathlib.Core.List.{List, [], ◌∷◌, ◌++◌}
use Rattle.std.specs.Prelude.{Some}
use Prim.Native.Nat.{ℕ, suc, ◌≤◌, ◌<◌}
use native.Mathlib.Omega.{arith}
use lib.Dec.{eqb}
use lib.ListN.{length}
use Rattle.bits.specs.Bits.{pick}
use Rattle.netlist.specs.declared.Limits.{Limits}
use Rattle.netlist.specs.Netlist.{Port, Netlist, Cell, lut4, pfumx, l6mux21, ccu2c, multiplier, flip_flop, block_ram, distributed_ram, io, jtagg, pll}
use Rattle.netlist.specs.Shape.{Each, FitsCell}
use Rattle.recorder.specs.Record.{Stmt.assign, Expr.const}
use Rattle.recorder.specs.Writer.{Writer, pure, state, ◌>>=◌}
use Rattle.optimize.proofs.Muxes.{by_test}
use Rattle.behaviour.specs.Banks.{Bank, async_reset, collect_flip_flop_banks}
use Rattle.wires.specs.declared.Constants.{Constants}
use Rattle.wires.specs.Wires.{WireRef, Wires}
use Rattle.wires.specs.Expressions.{bits_expression}
use Rattle.lowering.specs.Emit.{emit_cell, emit_cells, emit_banks, emit_outputs}
use Rattle.lowering.specs.Lower.{emit_constants, emit_netlist}
use Rattle.forms.specs.Typed.{Context, Sig, Exp, Grows, Wide, Fit, NoSignal, Wired}
use Rattle.forms.specs.Suits.{CellSuits, BankSuits, PortsSuit}
use Rattle.forms.proofs.Fits.{grows_trans, grow_exp, exp_so, grow_sig, fit_pure, fit_refuse, fit_new, fit_declare, fit_state, fit_bind}
use Rattle.forms.proofs.FitCells.{Ready, grow_ready, one_wide, Levelled, stood_nothing, fit_forgetting, fit_vector, fit_multiplier, fit_lut4, fit_pfumx, fit_l6mux21, fit_io, fit_ccu2c, fit_jtagg, fit_pll, fit_bank}
use Rattle.forms.proofs.FitRams.{fit_block_ram, fit_distributed_ram}

-- the constants are there too
pub record Set (words : ℕ) (c : Context) (m : Wires) (z : Constants) : Type 0 where
  pub ready : Ready words c m
  pub zero_is : Sig c z.zero.0 1
  pub one_is : Sig c z.one.0 1

grow_set : {words : ℕ} {c c' : Context} {m : Wires} {z : Constants} → Grows c c' → Set words c m z → Set words c' m z
grow_set g s = record { ready = grow_ready g s.ready; zero_is = grow_sig g s.zero_is; one_is = grow_sig g s.one_is }

-- what a bank needs
pub record FitsBank (widest : ℕ) (b : Bank) : Type 0 where
  pub wide : Wide widest (length b.members)
  pub levelled : Levelled (async_reset b.leader.flop)
  pub edge : b.leader.flop.edge ≤ 1

-- a port's signal has its number
abbrev pub PortsThere : Context → ℕ → List Port → Type 0
PortsThere c p [] = Unit {0}
PortsThere c p (x ∷ xs) = Sig c p (length x.bits) × PortsThere c (suc p) xs

grow_ports : {c c' : Context} → Grows c c' → (p : ℕ) (xs : List Port) → PortsThere c p xs → PortsThere c' p xs
grow_ports g p [] h = tt
grow_ports g p (x ∷ xs) h = (grow_sig g h.0, grow_ports g (suc p) xs h.1)

module _ {widest words : ℕ} {D : ℕ → ℕ → Type 0} (room : 36 ≤ widest) (limits : Limits) (m : Wires) (z : Constants) where
  fit_cell : (shared owner : ℕ) (x : Cell) {c : Context} → FitsCell limits x → CellSuits D words m x → Set words c m z → Fit widest words D c (emit_cell shared m z owner x) (λ u c'. Unit {0})
  unfolding emit_cell
  fit_cell k owner (lut4 i o t) {c} f su s = fit_forgetting (fit_lut4 room m s.ready (stood_nothing c m k) i o t su)
  fit_cell k owner (pfumx t g l o) {c} f su s = fit_forgetting (fit_pfumx room m s.ready (stood_nothing c m k) t g l o su)
  fit_cell k owner (l6mux21 g t l o) {c} f su s = fit_forgetting (fit_l6mux21 room m s.ready (stood_nothing c m k) g t l o su)
  fit_cell k owner (ccu2c u) {c} f su s = fit_forgetting (fit_ccu2c room m u s.ready (stood_nothing c m k) su)
  fit_cell k owner (multiplier l r p) {c} f su s = fit_forgetting (fit_multiplier room m s.ready (stood_nothing c m k) l r p su)
  fit_cell k owner (flip_flop g) f su s = fit_pure tt
  fit_cell k owner (block_ram r) {c} f su s = fit_forgetting (fit_block_ram room m z limits owner r f s.ready (stood_nothing c m k) s.zero_is s.one_is su.0 su.1)
  fit_cell k owner (distributed_ram r) {c} f su s =
      by_test (λ (w : Writer (Unit {0})). Fit widest words D c w (λ u c'. Unit {0})) (eqb r.second 1) (λ q. fit_refuse) (λ q. fit_forgetting (fit_distributed_ram room m z owner r s.ready (stood_nothing c m k) s.zero_is s.one_is (omega (arith, f.edge)) su))
  fit_cell k owner (io p d i t) {c} f su s = fit_forgetting (fit_io room m s.ready (stood_nothing c m k) p d i t su)
  fit_cell k owner (jtagg ws) f su s = fit_jtagg room m ws s.ready f.0 su
  fit_cell k owner (pll p) f su s = fit_pll room m p s.ready su.0 su.1

  fit_cells : (shared owner : ℕ) (xs : List Cell) {c : Context} → Each (FitsCell limits) xs → Each (CellSuits D words m) xs → Set words c m z → Fit widest words D c (emit_cells shared m z owner xs) (λ u c'. Unit {0})
  unfolding emit_cells
  fit_cells k owner [] f su s = fit_pure tt
  fit_cells k owner (x ∷ xs) f su s = fit_bind (fit_cell k owner x f.0 su.0 s) (λ u c₁ g v. fit_cells k (suc owner) xs f.1 su.1 (grow_set g s))

  fit_banks : (bs : List Bank) {c : Context} → Each (FitsBank widest) bs → Each (BankSuits D words m) bs → Set words c m z → Fit widest words D c (emit_banks m z bs) (λ u c'. Unit {0})
  unfolding emit_banks
  fit_banks [] f su s = fit_pure tt
  fit_banks (b ∷ bs) f su s =
      fit_bind (fit_bank room m z b s.ready s.zero_is s.one_is f.0.wide su.0 f.0.levelled f.0.edge) (λ u c₁ g v. fit_banks bs f.1 su.1 (grow_set g s))

  fit_outputs : (p : ℕ) (xs : List Port) {c : Context} → Each (λ (x : Port). Wide widest (length x.bits)) xs → PortsSuit D words m p xs → PortsThere c p xs → Ready words c m → Fit widest words D c (emit_outputs m p xs) (λ u c'. Unit {0})
  unfolding emit_outputs
  fit_outputs p [] f su h r = fit_pure tt
  fit_outputs p (x ∷ xs) {c} f su h r = fit_bind (go (eqb x.direction 1) refl) (λ u c₁ g v. fit_outputs (suc p) xs f.1 su.1 (grow_ports g (suc p) xs h.1) (grow_ready g r))
    where
      go : (b : Bool) → eqb x.direction 1 ≡ b → Fit widest words D c (pick b (bits_expression m x.bits >>= λ e. state (assign p e)) (pure tt)) (λ u c'. Unit {0})
      go true q = fit_bind (fit_vector room m x.bits 0 (length x.bits) r f.0 (su.0 q).1) (λ e c₁ g he. fit_state (length x.bits, grow_sig g h.0, he, (su.0 q).0))
      go false q = fit_pure tt

-- THE CONSTANTS are the first two expressions

module _ {widest words : ℕ} {D : ℕ → ℕ → Type 0} (room : 36 ≤ widest) where
  fit_constants : (m : Wires) {c : Context} → c.exprs ≡ [] → Wired c m → words ≡ suc (suc (length c.signals)) → ((w : ℕ) (r : WireRef) → m w ≡ Some r → r.signal < words) → Fit widest words D c emit_constants (λ z c'. Set words c' m z)
  unfolding emit_constants
  fit_constants m {c} none_yet h many under =
      let one : Wide widest 1 = one_wide room in
      fit_bind (fit_declare one) (λ z c₁ g₁ hz.
      fit_bind (fit_declare one) (λ o c₂ g₂ ho.
      let count₁ : length c₁.signals ≡ suc (length c.signals) = hz.3 in
      let empty : length c₂.exprs ≡ 0 = ap length (ho.2 ∙ hz.2 ∙ none_yet) in
      fit_bind (fit_new {x = const 1 0} {S = NoSignal} (one, omega arith) (λ y m. absurd (mathlib.Core.List.Memᴰ.not-nil m))) (λ e₀ c₃ g₃ h₀.
      fit_bind (fit_new {x = const 1 1} {S = NoSignal} (one, omega arith) (λ y m. absurd (mathlib.Core.List.Memᴰ.not-nil m))) (λ e₁ c₄ g₄ h₁.
      let one_under : o < words = omega (arith, many, ho.1, hz.1, count₁) in
      let z₄ = grow_sig g₄ (grow_sig g₃ (grow_sig g₂ hz.0)) in
      let o₄ = grow_sig g₄ (grow_sig g₃ ho.0) in
      let x₄ : Exp c₄ e₀ 1 NoSignal = grow_exp g₄ h₀.exp in
      let zero₄ : Exp c₄ 0 1 NoSignal = subst (λ (e : ℕ). Exp c₄ e 1 NoSignal) (let p : e₀ ≡ 0 = omega (arith, h₀.number, empty) in p) x₄ in
      let one₄ : Exp c₄ 1 1 NoSignal = subst (λ (e : ℕ). Exp c₄ e 1 NoSignal) (let p : e₁ ≡ 1 = omega (arith, h₁.number, h₀.count, empty) in p) h₁.exp in
      fit_bind (fit_state (1, z₄, exp_so (λ y q. absurd q) x₄, omega (arith, many, hz.1))) (λ u c₅ g₅ v.
      fit_bind (fit_state (1, grow_sig g₅ o₄, exp_so (λ y q. absurd q) (grow_exp g₅ h₁.exp), one_under)) (λ u c₆ g₆ v.
      let g = grows_trans g₁ (grows_trans g₂ (grows_trans g₃ (grows_trans g₄ (grows_trans g₅ g₆)))) in
      let k : suc (suc (length c.signals)) ≤ length c₂.signals = omega (arith, ho.0.there, ho.1, hz.0.there, hz.1) in
      fit_pure (record {
        ready = record {
          wired = λ w r q. (grow_sig g (h w r q).0, (h w r q).1);
          based = record { zero_is = grow_exp g₆ (grow_exp g₅ zero₄); one_is = grow_exp g₆ (grow_exp g₅ one₄) };
          many = omega (arith, many, k, g₃.many, g₄.many, g₅.many, g₆.many);
          under = under;
        };
        zero_is = grow_sig g₆ (grow_sig g₅ z₄);
        one_is = grow_sig g₆ (grow_sig g₅ o₄);
      })))))))

-- what emission needs of the netlist, of the wire map and of the signals that are reserved
pub record Suited (widest : ℕ) (D : ℕ → ℕ → Type 0) (words : ℕ) (limits : Limits) (n : Netlist) (m : Wires) (c : Context) : Type 0 where
  pub room : 36 ≤ widest
  pub none_yet : c.exprs ≡ []
  pub wired : Wired c m
  pub many : words ≡ suc (suc (length c.signals))
  pub under : (w : ℕ) (r : WireRef) → m w ≡ Some r → r.signal < words
  pub cells : Each (FitsCell limits) n.cells
  pub cells_suit : Each (CellSuits D words m) n.cells
  pub banks : Each (FitsBank widest) (collect_flip_flop_banks n.cells)
  pub banks_suit : Each (BankSuits D words m) (collect_flip_flop_banks n.cells)
  pub ports : Each (λ (x : Port). Wide widest (length x.bits)) n.ports
  pub ports_suit : PortsSuit D words m 0 n.ports
  pub ports_there : PortsThere c 0 n.ports

pub fit_netlist : {widest words : ℕ} {D : ℕ → ℕ → Type 0} {limits : Limits} (shared : ℕ) (n : Netlist) (m : Wires) {c : Context} → Suited widest D words limits n m c → Fit widest words D c (emit_netlist shared n m) (λ u c'. Unit {0})
unfolding emit_netlist
fit_netlist {limits = limits} shared n m s =
    fit_bind (fit_constants s.room m s.none_yet s.wired s.many s.under) (λ z c₁ g₁ h₁.
    fit_bind (fit_cells s.room limits m z shared 0 n.cells s.cells s.cells_suit h₁) (λ u c₂ g₂ v.
    fit_bind (fit_banks s.room limits m z (collect_flip_flop_banks n.cells) s.banks s.banks_suit (grow_set g₂ h₁)) (λ u c₃ g₃ v.
    fit_outputs s.room limits m z 0 n.ports s.ports s.ports_suit (grow_ports g₃ 0 n.ports (grow_ports g₂ 0 n.ports (grow_ports g₁ 0 n.ports s.ports_there))) (grow_ready g₃ (grow_ready g₂ h₁.ready)))))
