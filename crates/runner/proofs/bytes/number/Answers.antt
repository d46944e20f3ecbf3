use Rattle.std.proofs.Common.{ℕ, ◌≡◌, ◌+◌, ◌-◌, arith, ap, ◌∙◌, drop, map, get_or}
use Rattle.bits.specs.Bits as bits
use Rattle.evaluation.specs.Bytes.{part}
use Rattle.simulation.specs.Run.{is_one}
use Rattle.evaluation.proofs.InBytes.{bit_small, number_start, number_step, number_small}
use Rattle.runner.proofs.bytes.number.Goals as goal

pub loop-i-init : goal.loop-i-init
loop-i-init c = number_start _ c.args.at c.requires

pub overflow_mul-n : goal.overflow_mul-n
overflow_mul-n c = let k = number_small _ c.args.at c.requires c.loop-i.i _ c.loop-i.invariant in record { fits = omega arith }

pub overflow_add-n : goal.overflow_add-n
overflow_add-n c = let k = number_small _ c.args.at c.requires c.loop-i.i _ c.loop-i.invariant in let b = bit_small (get_or c.args.bytes.now (c.args.at + (c.loop-i.i - 1)) 0) c.bit.ensures in record { fits = omega arith }

pub loop-i-preserved : goal.loop-i-preserved
loop-i-preserved c =
    let z : c.loop-i.i ≡ c.loop-i.i - 1 + 1 = omega arith in
    number_step _ c.args.at c.requires (c.loop-i.i - 1) c.loop-i.n _ (omega arith) (c.loop-i.invariant ∙ ap (λ (k : ℕ). bits.number (drop k (map is_one (part c.args.bytes.now c.args.at 36)))) z) c.bit.ensures
