use Rattle.std.proofs.Common.{sym, ◌∙◌, refl}
use Rattle.wires.proofs.OnceLaws.{once_then, once_err, plain_then, plain_err, plain_keep, seen_plain}
use Rattle.wires.proofs.OnMap.{map_begun, map_on, bit_on, assign_on}
use Rattle.cells.specs.Cells.{emit_ccu2c}
use Rattle.carry.proofs.Rows.{row_on}
use Rattle.carry.proofs.ccu2c.emit_ccu2c.Goals as goal

pub returns-in_err-carry : goal.returns-in_err-carry
unfolding emit_ccu2c
returns-in_err-carry c =
    let q0 = map_begun c.begin.ensures in
    record {
      start = c.begin.new.self;
      begins = c.begin.ensures;
      does =
          once_err _ c.from_residual.result _ c.from_residual.ensures.1 (bit_on q0 _ c.in_err-carry.ensures) _;
    }

pub returns-in_err-carry1 : goal.returns-in_err-carry1
unfolding emit_ccu2c
returns-in_err-carry1 c =
    let q0 = map_begun c.begin.ensures in
    let q1 = map_on q0 c.in_ok-carry.ensures.same in
    record {
      start = c.begin.new.self;
      begins = c.begin.ensures;
      does =
          once_then (bit_on q0 _ c.in_ok-carry.ensures) _
          (once_err _ c.from_residual-in_err-carry1.result _ c.from_residual-in_err-carry1.ensures.1 (row_on q1 _ _ _ _ _ c.in_err-carry1.ensures) _);
    }

pub returns-in_err-carry2 : goal.returns-in_err-carry2
unfolding emit_ccu2c
returns-in_err-carry2 c =
    let q0 = map_begun c.begin.ensures in
    let q1 = map_on q0 c.in_ok-carry.ensures.same in
    let q2 = map_on q1 c.in_ok-carry1.ensures.same in
    record {
      start = c.begin.new.self;
      begins = c.begin.ensures;
      does =
          once_then (bit_on q0 _ c.in_ok-carry.ensures) _
          (once_then (row_on q1 _ _ _ _ _ c.in_ok-carry1.ensures) _
          (once_err _ c.from_residual-in_err-carry2.result _ c.from_residual-in_err-carry2.ensures.1 (row_on q2 _ _ _ _ _ c.in_err-carry2.ensures) _));
    }

pub returns : goal.returns
unfolding emit_ccu2c
returns c =
    let q0 = map_begun c.begin.ensures in
    let q1 = map_on q0 c.in_ok-carry.ensures.same in
    let q2 = map_on q1 c.in_ok-carry1.ensures.same in
    let q3 = map_on q2 c.in_ok-carry2.ensures.same in
    record {
      start = c.begin.new.self;
      begins = c.begin.ensures;
      does =
          once_then (bit_on q0 _ c.in_ok-carry.ensures) _
          (once_then (row_on q1 _ _ _ _ _ c.in_ok-carry1.ensures) _
          (once_then (row_on q2 _ _ _ _ _ c.in_ok-carry2.ensures) _
          (plain_keep refl (assign_on q3 _ _ c.assign_wire.ensures))));
    }
