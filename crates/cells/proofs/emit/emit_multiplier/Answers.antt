use Rattle.std.proofs.Common.{sym, ◌∙◌, refl}
use Rattle.wires.proofs.OnceLaws.{once_then, once_err, plain_then, plain_err, plain_keep, seen_plain, once_as}
use Rattle.wires.proofs.OnMap.{map_begun, map_on, vector_on, assign_on}
use Rattle.std.proofs.Common.{replicate, min, ◌+◌, length}
use Rattle.wires.specs.Once.{seen_in}
use Rattle.cells.proofs.Laws.{multiplier_from}
use Rattle.cells.proofs.emit.emit_multiplier.Goals as goal

pub returns-in_err-lhs : goal.returns-in_err-lhs
returns-in_err-lhs c =
    let q0 = map_begun c.begin.ensures in
    record {
      start = c.begin.new.self;
      begins = c.begin.ensures;
      does =
          once_as (multiplier_from _ (seen_in c.begin.new.self) c.args.fields c.from.result (record c.args.fields { at = min (c.args.fields.at + 19) (length c.args.fields.words.now) }) c.from.ensures refl refl _ (replicate 36 0) refl refl)
          (once_err _ c.from_residual.result _ c.from_residual.ensures.1 (vector_on q0 _ _ _ _ _ c.in_err-lhs.ensures.wrote) _);
    }

pub returns-in_err-rhs : goal.returns-in_err-rhs
returns-in_err-rhs c =
    let q0 = map_begun c.begin.ensures in
    let q1 = map_on q0 c.in_ok-lhs.ensures.wrote.same in
    record {
      start = c.begin.new.self;
      begins = c.begin.ensures;
      does =
          once_as (multiplier_from _ (seen_in c.begin.new.self) c.args.fields c.from.result c.from-2.result c.from.ensures c.from-2.ensures refl _ _ refl c.bits_once.auto.parts)
          (once_then (vector_on q0 _ _ _ _ _ c.in_ok-lhs.ensures.wrote) _
          (once_err _ c.from_residual-in_err-rhs.result _ c.from_residual-in_err-rhs.ensures.1 (vector_on q1 _ _ _ _ _ c.in_err-rhs.ensures.wrote) _));
    }

pub returns-in_err-product : goal.returns-in_err-product
returns-in_err-product c =
    let q0 = map_begun c.begin.ensures in
    let q1 = map_on q0 c.in_ok-lhs.ensures.wrote.same in
    let q2 = map_on q1 c.in_ok-rhs.ensures.wrote.same in
    record {
      start = c.begin.new.self;
      begins = c.begin.ensures;
      does =
          once_as (multiplier_from _ (seen_in c.begin.new.self) c.args.fields c.from.result c.from-2.result c.from.ensures c.from-2.ensures refl _ _ refl c.bits_once.auto.parts)
          (once_then (vector_on q0 _ _ _ _ _ c.in_ok-lhs.ensures.wrote) _
          (once_then (vector_on q1 _ _ _ _ _ c.in_ok-rhs.ensures.wrote) _
          (plain_err _ c.from_residual-in_err-product.result _ c.from_residual-in_err-product.ensures.1 c.in_err-product.ensures _)));
    }

pub returns : goal.returns
returns c =
    let q0 = map_begun c.begin.ensures in
    let q1 = map_on q0 c.in_ok-lhs.ensures.wrote.same in
    let q2 = map_on q1 c.in_ok-rhs.ensures.wrote.same in
    let q3 = map_on q2 c.in_ok-product.ensures.same in
    record {
      start = c.begin.new.self;
      begins = c.begin.ensures;
      does =
          once_as (multiplier_from _ (seen_in c.begin.new.self) c.args.fields c.from.result c.from-2.result c.from.ensures c.from-2.ensures c.word.ensures _ _ refl c.bits_once.auto.parts)
          (once_then (vector_on q0 _ _ _ _ _ c.in_ok-lhs.ensures.wrote) _
          (once_then (vector_on q1 _ _ _ _ _ c.in_ok-rhs.ensures.wrote) _
          (plain_then c.in_ok-product.ensures _
          (plain_keep (sym (seen_plain c.in_ok-product.ensures)) (assign_on q3 _ _ c.assign_wire.ensures)))));
    }
