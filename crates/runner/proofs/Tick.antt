-- Inputs, settle, commit and settle make a tick. Assumes nothing.
use Prim.Native.Nat.{ℕ}
use mathlib.Core.Path.{◌≡◌}
use mathlib.Core.List.{List}
use native.Mathlib.Omega.{arith}
use lib.ListN.{length}
use Rattle.recorder.specs.Read.{model_of}
use Rattle.simulation.specs.Index.{widths_in}
use Rattle.simulation.specs.Tick.{Firing, tick}
use Rattle.evaluation.specs.Ready.{Room}
use Rattle.evaluation.specs.Ticks.{Filled, Inputs, Settled, Commits, Ticks}

-- bytes and values of the same lengths
pub room_kept : {signals exprs bytes bytes' values values' : List ℕ} → Room signals exprs bytes values → length bytes' ≡ length bytes → length values' ≡ length values → Room signals exprs bytes' values'
room_kept r b v = record { bytes_room = let h = r.bytes_room in omega (arith, h, b); values_room = let h = r.values_room in omega (arith, h, v) }

pub inputs_fill : {signals ticks bytes bytes' : List ℕ} → Filled (widths_in signals) bytes → Inputs signals ticks bytes bytes' → Filled (widths_in signals) bytes'
inputs_fill f i = record { values = _; rest = f.rest; holds = i.inputs f.values f.rest f.holds }

pub settled_values : {signals exprs stmts bytes bytes' values' : List ℕ} → Filled (widths_in signals) bytes → Settled signals exprs stmts bytes bytes' values' → Filled (widths_in exprs) values'
settled_values f s = let v = s.values_hold.settles_named f.values f.rest f.holds in record { values = v.0; rest = v.1; holds = v.2 }

module _ {signals exprs stmts ticks : List ℕ} {fires : Firing} where
  module _ {bytes b₁ b₂ b₃ b₄ v₂ v₄ : List ℕ} (i : Inputs signals ticks bytes b₁) (s : Settled signals exprs stmts b₁ b₂ v₂) (c : Commits signals exprs stmts fires v₂ b₂ b₃) (t : Settled signals exprs stmts b₃ b₄ v₄) where
    pub made : Ticks signals exprs stmts ticks fires bytes b₄
    unfolding model_of tick
    made = record {
      ticks_to = λ old behind h.
          let h₁ = i.inputs old behind h in
          let v = s.values_hold.settles_named _ behind h₁ in
          t.signals_hold _ behind (c.commits _ v.0 behind v.1 (s.signals_hold _ behind h₁) v.2 v.3);
    }

    pub values_fill : Filled (widths_in signals) bytes → Filled (widths_in exprs) v₄
    values_fill f =
        let h₁ = i.inputs f.values f.rest f.holds in
        let v = s.values_hold.settles_named _ f.rest h₁ in
        let w = t.values_hold.settles_named _ f.rest (c.commits _ v.0 f.rest v.1 (s.signals_hold _ f.rest h₁) v.2 v.3) in
        record { values = w.0; rest = w.1; holds = w.2 }
