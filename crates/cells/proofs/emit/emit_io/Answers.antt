use Rattle.std.proofs.Common.{sym, ◌∙◌, refl}
use Rattle.wires.proofs.OnceLaws.{once_then, once_err, plain_then, plain_err, plain_keep, seen_plain}
use Rattle.wires.proofs.OnMap.{map_begun, map_on, bit_on, assign_on}
use Rattle.cells.specs.Cells.{emit_io}
use Rattle.cells.proofs.emit.emit_io.Goals as goal

pub returns-in_err-pad : goal.returns-in_err-pad
unfolding emit_io
returns-in_err-pad c =
    let q0 = map_begun c.begin.ensures in
    record {
      start = c.begin.new.self;
      begins = c.begin.ensures;
      does =
          once_err _ c.from_residual.result _ c.from_residual.ensures.1 (bit_on q0 _ c.in_err-pad.ensures) _;
    }

pub returns-in_err-driven : goal.returns-in_err-driven
unfolding emit_io
returns-in_err-driven c =
    let q0 = map_begun c.begin.ensures in
    let q1 = map_on q0 c.in_ok-pad.ensures.same in
    record {
      start = c.begin.new.self;
      begins = c.begin.ensures;
      does =
          once_then (bit_on q0 _ c.in_ok-pad.ensures) _
          (once_err _ c.from_residual-in_err-driven.result _ c.from_residual-in_err-driven.ensures.1 (bit_on q1 _ c.in_err-driven.ensures) _);
    }

pub returns-in_err-tristate : goal.returns-in_err-tristate
unfolding emit_io
returns-in_err-tristate c =
    let q0 = map_begun c.begin.ensures in
    let q1 = map_on q0 c.in_ok-pad.ensures.same in
    let q2 = map_on q1 c.in_ok-driven.ensures.same in
    record {
      start = c.begin.new.self;
      begins = c.begin.ensures;
      does =
          once_then (bit_on q0 _ c.in_ok-pad.ensures) _
          (once_then (bit_on q1 _ c.in_ok-driven.ensures) _
          (once_err _ c.from_residual-in_err-tristate.result _ c.from_residual-in_err-tristate.ensures.1 (bit_on q2 _ c.in_err-tristate.ensures) _));
    }

pub returns-in_err-resolved : goal.returns-in_err-resolved
unfolding emit_io
returns-in_err-resolved c =
    let q0 = map_begun c.begin.ensures in
    let q1 = map_on q0 c.in_ok-pad.ensures.same in
    let q2 = map_on q1 c.in_ok-driven.ensures.same in
    let q3 = map_on q2 c.in_ok-tristate.ensures.same in
    record {
      start = c.begin.new.self;
      begins = c.begin.ensures;
      does =
          once_then (bit_on q0 _ c.in_ok-pad.ensures) _
          (once_then (bit_on q1 _ c.in_ok-driven.ensures) _
          (once_then (bit_on q2 _ c.in_ok-tristate.ensures) _
          (plain_err _ c.from_residual-in_err-resolved.result _ c.from_residual-in_err-resolved.ensures.1 c.in_err-resolved.ensures _)));
    }

pub returns : goal.returns
unfolding emit_io
returns c =
    let q0 = map_begun c.begin.ensures in
    let q1 = map_on q0 c.in_ok-pad.ensures.same in
    let q2 = map_on q1 c.in_ok-driven.ensures.same in
    let q3 = map_on q2 c.in_ok-tristate.ensures.same in
    let q4 = map_on q3 c.in_ok-resolved.ensures.same in
    record {
      start = c.begin.new.self;
      begins = c.begin.ensures;
      does =
          once_then (bit_on q0 _ c.in_ok-pad.ensures) _
          (once_then (bit_on q1 _ c.in_ok-driven.ensures) _
          (once_then (bit_on q2 _ c.in_ok-tristate.ensures) _
          (plain_then c.in_ok-resolved.ensures _
          (plain_keep (sym (seen_plain c.in_ok-resolved.ensures)) (assign_on q4 _ _ c.assign_wire.ensures)))));
    }
