use Rattle.std.proofs.Common.{ℕ, sym, ◌∙◌}
use Rattle.std.proofs.Math.ListN.{length-replicate}
use Rattle.simulate.proofs.run.run.Goals as goal

pub slice_bounds-simulate-end : goal.slice_bounds-simulate-end
slice_bounds-simulate-end g c = sym (length-replicate {A = ℕ} 65536 0)

pub slice_bounds-simulate-end-2 : goal.slice_bounds-simulate-end-2
slice_bounds-simulate-end-2 g c = sym (length-replicate {A = ℕ} 1000000 0)

pub slice_bounds-simulate-end-3 : goal.slice_bounds-simulate-end-3
slice_bounds-simulate-end-3 g c = sym (length-replicate {A = ℕ} 98304 0)

pub slice_bounds-simulate-end-4 : goal.slice_bounds-simulate-end-4
slice_bounds-simulate-end-4 g c = sym (length-replicate {A = ℕ} 98304 0)

pub slice_bounds-simulate-end-5 : goal.slice_bounds-simulate-end-5
slice_bounds-simulate-end-5 g c = sym (length-replicate {A = ℕ} 98304 0)

pub slice_bounds-simulate-end-6 : goal.slice_bounds-simulate-end-6
slice_bounds-simulate-end-6 g c = sym (length-replicate {A = ℕ} 16384 0)

pub slice_bounds-simulate-end-7 : goal.slice_bounds-simulate-end-7
slice_bounds-simulate-end-7 g c = sym (length-replicate {A = ℕ} 16384 0)

pub slice_bounds-simulate-end-8 : goal.slice_bounds-simulate-end-8
slice_bounds-simulate-end-8 g c = sym (length-replicate {A = ℕ} 131072 0)

pub slice_bounds-simulate-end-9 : goal.slice_bounds-simulate-end-9
slice_bounds-simulate-end-9 g c = sym (length-replicate {A = ℕ} 65536 0)

pub slice_bounds-simulate-end-10 : goal.slice_bounds-simulate-end-10
slice_bounds-simulate-end-10 g c = sym (length-replicate {A = ℕ} 327680 0)

pub slice_bounds-simulate-end-11 : goal.slice_bounds-simulate-end-11
slice_bounds-simulate-end-11 g c = sym (length-replicate {A = ℕ} 98304 0)

pub slice_bounds-simulate-end-12 : goal.slice_bounds-simulate-end-12
slice_bounds-simulate-end-12 g c = sym (length-replicate {A = ℕ} 16384 0)

pub slice_bounds-simulate-end-13 : goal.slice_bounds-simulate-end-13
slice_bounds-simulate-end-13 g c = sym (length-replicate {A = ℕ} 8192 0)

pub slice_bounds-simulate-end-14 : goal.slice_bounds-simulate-end-14
slice_bounds-simulate-end-14 g c = sym (length-replicate {A = ℕ} 393216 0)

pub slice_bounds-outcome-end : goal.slice_bounds-outcome-end
slice_bounds-outcome-end g c = sym (c.simulate-answer.auto.signals ∙ length-replicate {A = ℕ} 65536 0)

pub slice_bounds-outcome-end-2 : goal.slice_bounds-outcome-end-2
slice_bounds-outcome-end-2 g c = sym (c.simulate-answer.auto.answers ∙ length-replicate {A = ℕ} 8192 0)

pub slice_bounds-outcome-end-3 : goal.slice_bounds-outcome-end-3
slice_bounds-outcome-end-3 g c = sym (c.simulate-answer.auto.shown ∙ length-replicate {A = ℕ} 393216 0)
