use Rattle.std.proofs.Common.{ap, sym, ◌∙◌, ◌≡◌, length, rules, refl}
use Rattle.recorder.proofs.Calls.{writes_as, writes_pure, writes_then, writes_err}
use Rattle.optimize.specs.Lut.{full_table}
use Rattle.optimize.proofs.Lutlaws.{split_of, rest_length, lut_none, lut_done, lut_full, lut_low, lut_high, lut_both, join_same, join_xor, join_mux}
use Rattle.std.proofs.lemmas.Bool.{eqb-false, eqb-true}
use Rattle.optimize.proofs.lut.+lut_cofactor.Goals as goal

pub returns-then-table-eq0 : goal.returns-then-table-eq0
returns-then-table-eq0 t c =
    writes_as (lut_none _ _ c.if-table-eq0.true) writes_pure

pub returns-then-left-eq0 : goal.returns-then-left-eq0
returns-then-left-eq0 t c =
    let four : length c.args.inputs ≡ 4 = search rules in
    writes_as (lut_done c.args.inputs c.args.left c.args.table four c.if-left-eq0.true c.if-table-eq0.false) writes_pure

pub returns-then-table-full_table : goal.returns-then-table-full_table
returns-then-table-full_table t c =
    let four : length c.args.inputs ≡ 4 = search rules in
    writes_as (lut_full c.args.inputs c.args.left c.args.table c.full_table.result four c.requires c.if-table-eq0.false c.if-left-eq0.false c.full_table.ensures c.if-table-full_table.true) writes_pure

pub returns-then-eq : goal.returns-then-eq
returns-then-eq t c =
    let four : length c.args.inputs ≡ 4 = search rules in
    let sp = (split_of c.args.inputs c.args.left c.args.table c.cofactors-low.result.0 c.cofactors-low.result.1 c.full_table.result four c.requires c.if-table-eq0.false c.if-left-eq0.false c.full_table.ensures c.if-table-full_table.false c.cofactors-low.ensures.0 c.cofactors-low.ensures.1) in
    writes_as (lut_low sp (eqb-true _ _ (sym c.if-eq.ensures))) c.lut_cofactor.ensures

pub returns-then-eq-2 : goal.returns-then-eq-2
returns-then-eq-2 t c =
    let four : length c.args.inputs ≡ 4 = search rules in
    let sp = (split_of c.args.inputs c.args.left c.args.table c.cofactors-low.result.0 c.cofactors-low.result.1 c.full_table.result four c.requires c.if-table-eq0.false c.if-left-eq0.false c.full_table.ensures c.if-table-full_table.false c.cofactors-low.ensures.0 c.cofactors-low.ensures.1) in
    writes_as (lut_high sp (eqb-false _ _ (sym c.if-eq.ensures)) (eqb-true _ _ (sym c.if-eq-2.ensures))) c.lut_cofactor-then-eq-2.ensures

pub returns-in_err-low_expr : goal.returns-in_err-low_expr
returns-in_err-low_expr t c =
    let four : length c.args.inputs ≡ 4 = search rules in
    let sp = (split_of c.args.inputs c.args.left c.args.table c.cofactors-low.result.0 c.cofactors-low.result.1 c.full_table.result four c.requires c.if-table-eq0.false c.if-left-eq0.false c.full_table.ensures c.if-table-full_table.false c.cofactors-low.ensures.0 c.cofactors-low.ensures.1) in
    writes_as (lut_both sp (eqb-false _ _ (sym c.if-eq.ensures)) (eqb-false _ _ (sym c.if-eq-2.ensures))) (writes_err c.in_err-low_expr.ensures _ _ c.from_residual.result _ refl c.from_residual.ensures.1)

pub returns-then-low-high : goal.returns-then-low-high
returns-then-low-high t c =
    let four : length c.args.inputs ≡ 4 = search rules in
    let sp = (split_of c.args.inputs c.args.left c.args.table c.cofactors-low.result.0 c.cofactors-low.result.1 c.full_table.result four c.requires c.if-table-eq0.false c.if-left-eq0.false c.full_table.ensures c.if-table-full_table.false c.cofactors-low.ensures.0 c.cofactors-low.ensures.1) in
    writes_as (lut_both sp (eqb-false _ _ (sym c.if-eq.ensures)) (eqb-false _ _ (sym c.if-eq-2.ensures))) (writes_then c.in_ok-low_expr.ensures _ refl (writes_as (join_same _ _ _ _ _ _ c.if-low-high.true) writes_pure))

pub returns-then-low-high-2 : goal.returns-then-low-high-2
returns-then-low-high-2 t c =
    let four : length c.args.inputs ≡ 4 = search rules in
    let sp = (split_of c.args.inputs c.args.left c.args.table c.cofactors-low.result.0 c.cofactors-low.result.1 c.full_table.result four c.requires c.if-table-eq0.false c.if-left-eq0.false c.full_table.ensures c.if-table-full_table.false c.cofactors-low.ensures.0 c.cofactors-low.ensures.1) in
    writes_as (lut_both sp (eqb-false _ _ (sym c.if-eq.ensures)) (eqb-false _ _ (sym c.if-eq-2.ensures))) (writes_then c.in_ok-low_expr.ensures _ refl (writes_as (join_xor _ _ _ _ _ _ c.if-low-high.false (c.if-low-high-2.true ∙ (c.full_table-2.ensures ∙ ap full_table (sym (rest_length c.args.inputs c.args.left four c.if-left-eq0.false c.requires))))) c.xor.ensures))

pub returns-in_err-high_expr : goal.returns-in_err-high_expr
returns-in_err-high_expr t c =
    let four : length c.args.inputs ≡ 4 = search rules in
    let sp = (split_of c.args.inputs c.args.left c.args.table c.cofactors-low.result.0 c.cofactors-low.result.1 c.full_table.result four c.requires c.if-table-eq0.false c.if-left-eq0.false c.full_table.ensures c.if-table-full_table.false c.cofactors-low.ensures.0 c.cofactors-low.ensures.1) in
    writes_as (lut_both sp (eqb-false _ _ (sym c.if-eq.ensures)) (eqb-false _ _ (sym c.if-eq-2.ensures))) (writes_then c.in_ok-low_expr.ensures _ refl (writes_as (join_mux _ _ _ _ _ _ c.if-low-high.false (λ q. c.if-low-high-2.false (q ∙ sym (c.full_table-2.ensures ∙ ap full_table (sym (rest_length c.args.inputs c.args.left four c.if-left-eq0.false c.requires)))))) (writes_err c.in_err-high_expr.ensures _ _ c.from_residual-in_err-high_expr.result _ refl c.from_residual-in_err-high_expr.ensures.1)))

pub returns : goal.returns
returns t c =
    let four : length c.args.inputs ≡ 4 = search rules in
    let sp = (split_of c.args.inputs c.args.left c.args.table c.cofactors-low.result.0 c.cofactors-low.result.1 c.full_table.result four c.requires c.if-table-eq0.false c.if-left-eq0.false c.full_table.ensures c.if-table-full_table.false c.cofactors-low.ensures.0 c.cofactors-low.ensures.1) in
    writes_as (lut_both sp (eqb-false _ _ (sym c.if-eq.ensures)) (eqb-false _ _ (sym c.if-eq-2.ensures))) (writes_then c.in_ok-low_expr.ensures _ refl (writes_as (join_mux _ _ _ _ _ _ c.if-low-high.false (λ q. c.if-low-high-2.false (q ∙ sym (c.full_table-2.ensures ∙ ap full_table (sym (rest_length c.args.inputs c.args.left four c.if-left-eq0.false c.requires)))))) (writes_then c.in_ok-high_expr.ensures _ refl c.mux.ensures)))
