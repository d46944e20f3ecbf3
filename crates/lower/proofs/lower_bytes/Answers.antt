use Rattle.std.proofs.Common.{ℕ}
use Rattle.std.proofs.Math.ListN.{length-replicate}
use Rattle.lower.proofs.Laws.{too_long, part_left, whole}
use Rattle.lower.proofs.lower_bytes.Goals as goal
use Rattle.lower.proofs.lower_bytes.Goals.{then-bytes-gt65536-via-then-bytes-gt65536, then-bytes-gt65536-via-else-bytes-gt65536+then-bytes-ne0}

pub returns-then-bytes-gt65536 : goal.returns-then-bytes-gt65536
returns-then-bytes-gt65536 c = elim c.then-bytes-gt65536.branch [
  | then-bytes-gt65536-via-then-bytes-gt65536 w ↦ too_long _ _ w.if-bytes-gt65536.true c.refuse_bytes.ensures
  | then-bytes-gt65536-via-else-bytes-gt65536+then-bytes-ne0 w ↦ part_left _ _ w.if-bytes-gt65536.false w.if-bytes-ne0.true c.refuse_bytes.ensures
]

pub returns : goal.returns
returns c = whole _ _ _ _ _ c.if-bytes-gt65536.false c.if-bytes-ne0.false (length-replicate {A = ℕ} 16384 0) c.words_of-n.ensures.laid c.lower_words.ensures
