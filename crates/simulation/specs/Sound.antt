-- What a model without a fault has: each rule holds of its records.
use Rattle.std.specs.Prelude.{ℕ, suc, ◌≡◌, Bool, true, List, [], ◌∷◌, map, eqb}
use Rattle.recorder.specs.Record.{Signal, Stmt, Model}
use Rattle.simulation.specs.Wellformed.{count_of, signal_fits, expr_fits, stmt_fits}
use Rattle.simulation.specs.Tick.{target}
use Rattle.simulation.specs.Run.{expr_width}

-- each passes, counted from n
abbrev pub AllFrom : {A : Type 0} → (ℕ → A → Bool) → ℕ → List A → Type 0
AllFrom p n [] = Unit {0}
AllFrom p n (a ∷ l) = (p n a ≡ true) × AllFrom p (suc n) l

abbrev pub signal_widths : Model → List ℕ
signal_widths m = map (λ (s : Signal). s.width) m.signals

abbrev pub expr_widths : Model → List ℕ
expr_widths m = map expr_width m.exprs

-- a statement on signal s
abbrev pub on : ℕ → Stmt → Bool
on s t = eqb (target t) s

-- how many there are
abbrev pub drivers : Model → ℕ → ℕ
drivers m s = count_of (on s) m.stmts

pub record Sound (widest : ℕ) (m : Model) : Type 0 where
  pub signals_fit : AllFrom (λ n. signal_fits widest (drivers m n)) 0 m.signals
  pub exprs_fit : AllFrom (expr_fits widest (signal_widths m) (expr_widths m)) 0 m.exprs
  pub stmts_fit : AllFrom (λ (n : ℕ). stmt_fits (signal_widths m) (expr_widths m)) 0 m.stmts
