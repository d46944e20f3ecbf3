use Rattle.std.proofs.Common.{sym, ◌∙◌, refl}
use Rattle.wires.proofs.OnceLaws.{once_then, once_err, plain_then, plain_err, plain_keep, seen_plain}
use Rattle.wires.proofs.OnMap.{map_begun, map_on, bits_on, assign_on}
use Rattle.cells.specs.Cells.{emit_lut4}
use Rattle.cells.proofs.emit.emit_lut4.Goals as goal

pub returns-in_err-ids : goal.returns-in_err-ids
unfolding emit_lut4
returns-in_err-ids c =
    let q0 = map_begun c.begin.ensures in
    record {
      start = c.begin.new.self;
      begins = c.begin.ensures;
      does =
          once_err _ c.from_residual.result _ c.from_residual.ensures.1 (bits_on q0 _ _ c.in_err-ids.ensures) _;
    }

pub returns-in_err-value : goal.returns-in_err-value
unfolding emit_lut4
returns-in_err-value c =
    let q0 = map_begun c.begin.ensures in
    let q1 = map_on q0 c.in_ok-ids.ensures.same in
    record {
      start = c.begin.new.self;
      begins = c.begin.ensures;
      does =
          once_then (bits_on q0 _ _ c.in_ok-ids.ensures) _
          (plain_err _ c.from_residual-in_err-value.result _ c.from_residual-in_err-value.ensures.1 c.in_err-value.ensures _);
    }

pub returns : goal.returns
unfolding emit_lut4
returns c =
    let q0 = map_begun c.begin.ensures in
    let q1 = map_on q0 c.in_ok-ids.ensures.same in
    let q2 = map_on q1 c.in_ok-value.ensures.same in
    record {
      start = c.begin.new.self;
      begins = c.begin.ensures;
      does =
          once_then (bits_on q0 _ _ c.in_ok-ids.ensures) _
          (plain_then c.in_ok-value.ensures _
          (plain_keep (sym (seen_plain c.in_ok-value.ensures)) (assign_on q2 _ _ c.assign_wire.ensures)));
    }
