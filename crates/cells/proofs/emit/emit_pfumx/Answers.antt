use Rattle.std.proofs.Common.{sym, ◌∙◌, refl}
use Rattle.wires.proofs.OnceLaws.{once_then, once_err, plain_then, plain_err, plain_keep, seen_plain}
use Rattle.wires.proofs.OnMap.{map_begun, map_on, bit_on, assign_on}
use Rattle.cells.specs.Cells.{emit_pfumx}
use Rattle.cells.proofs.emit.emit_pfumx.Goals as goal

pub returns-in_err-select : goal.returns-in_err-select
unfolding emit_pfumx
returns-in_err-select c =
    let q0 = map_begun c.begin.ensures in
    record {
      start = c.begin.new.self;
      begins = c.begin.ensures;
      does =
          once_err _ c.from_residual.result _ c.from_residual.ensures.1 (bit_on q0 _ c.in_err-select.ensures) _;
    }

pub returns-in_err-high : goal.returns-in_err-high
unfolding emit_pfumx
returns-in_err-high c =
    let q0 = map_begun c.begin.ensures in
    let q1 = map_on q0 c.in_ok-select.ensures.same in
    record {
      start = c.begin.new.self;
      begins = c.begin.ensures;
      does =
          once_then (bit_on q0 _ c.in_ok-select.ensures) _
          (once_err _ c.from_residual-in_err-high.result _ c.from_residual-in_err-high.ensures.1 (bit_on q1 _ c.in_err-high.ensures) _);
    }

pub returns-in_err-low : goal.returns-in_err-low
unfolding emit_pfumx
returns-in_err-low c =
    let q0 = map_begun c.begin.ensures in
    let q1 = map_on q0 c.in_ok-select.ensures.same in
    let q2 = map_on q1 c.in_ok-high.ensures.same in
    record {
      start = c.begin.new.self;
      begins = c.begin.ensures;
      does =
          once_then (bit_on q0 _ c.in_ok-select.ensures) _
          (once_then (bit_on q1 _ c.in_ok-high.ensures) _
          (once_err _ c.from_residual-in_err-low.result _ c.from_residual-in_err-low.ensures.1 (bit_on q2 _ c.in_err-low.ensures) _));
    }

pub returns-in_err-value : goal.returns-in_err-value
unfolding emit_pfumx
returns-in_err-value c =
    let q0 = map_begun c.begin.ensures in
    let q1 = map_on q0 c.in_ok-select.ensures.same in
    let q2 = map_on q1 c.in_ok-high.ensures.same in
    let q3 = map_on q2 c.in_ok-low.ensures.same in
    record {
      start = c.begin.new.self;
      begins = c.begin.ensures;
      does =
          once_then (bit_on q0 _ c.in_ok-select.ensures) _
          (once_then (bit_on q1 _ c.in_ok-high.ensures) _
          (once_then (bit_on q2 _ c.in_ok-low.ensures) _
          (plain_err _ c.from_residual-in_err-value.result _ c.from_residual-in_err-value.ensures.1 c.in_err-value.ensures _)));
    }

pub returns : goal.returns
unfolding emit_pfumx
returns c =
    let q0 = map_begun c.begin.ensures in
    let q1 = map_on q0 c.in_ok-select.ensures.same in
    let q2 = map_on q1 c.in_ok-high.ensures.same in
    let q3 = map_on q2 c.in_ok-low.ensures.same in
    let q4 = map_on q3 c.in_ok-value.ensures.same in
    record {
      start = c.begin.new.self;
      begins = c.begin.ensures;
      does =
          once_then (bit_on q0 _ c.in_ok-select.ensures) _
          (once_then (bit_on q1 _ c.in_ok-high.ensures) _
          (once_then (bit_on q2 _ c.in_ok-low.ensures) _
          (plain_then c.in_ok-value.ensures _
          (plain_keep (sym (seen_plain c.in_ok-value.ensures)) (assign_on q4 _ _ c.assign_wire.ensures)))));
    }
