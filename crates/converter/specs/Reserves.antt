-- Records of a netlist that stand one behind another, and fit.
use Rattle.std.specs.Prelude.{ℕ, ◌<◌, ◌≤◌}
use Rattle.netlist.specs.Fields.{end_at}

-- n records that fit, from an index on, and end inside the words
pub record Fitting {A : Type 0} (value : ℕ → A) (next : ℕ → ℕ) (fits : A → Type 0) (end n at : ℕ) : Type 0 where
  pub fit : (k : ℕ) → k < n → fits (value (end_at next k at))
  pub inside : (k : ℕ) → k < n → next (end_at next k at) ≤ end
