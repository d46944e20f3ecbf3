use Rattle.std.proofs.Common.{◌∙◌, ap, inl, arith}
use Rattle.std.specs.Iterator.Adapters.{enumerate_source, enumerate_count}
use Rattle.text.proofs.Going.{going_start, going_as, going_step, going_stop, going_end}
use Rattle.recorder.specs.declared.records.Records.{Records}
use Rattle.recorder.proofs.Left.{few}
use Rattle.listing.proofs.Left.{lines_start, lines_none, lines_next}
use Rattle.listing.proofs.put_list.Goals as goal

pub loop-number-init : goal.loop-number-init
loop-number-init g c =
    let counted = c.enumerate-number-items.ensures in
    let same = c.into_iter-number-iterator.ensures.into_iter_gives in
    let words = c.new.ensures in
    let source = ap (λ it. enumerate_source {I = Records} it) same ∙ counted.source in
    record {
      can = (tt, tt, inl (few same counted.source counted.count words (omega (arith, c.well_formed))));
      finite = tt;
      going = going_as (lines_start _ _ (enumerate_source {I = Records} c.into_iter-number-iterator.result) (ap enumerate_count same ∙ counted.count) (ap (λ (r : Records). r.rest.now) source ∙ words)) going_start;
    }

pub returns-in_err-put_line : goal.returns-in_err-put_line
returns-in_err-put_line g c = going_stop _ (going_as (lines_next _ c.in-Some.ensures.steps) c.loop-number.invariant.going) c.in_err-put_line.ensures c.from_residual.ensures.0

pub loop-number-preserved : goal.loop-number-preserved
loop-number-preserved g c = record {
  can = c.in-Some.ensures.goes.keeps;
  finite = tt;
  going = going_step (going_as (lines_next _ c.in-Some.ensures.steps) c.loop-number.invariant.going) c.in_ok-put_line.ensures;
}

pub returns : goal.returns
returns g c = going_end (going_as (lines_none _ _ c.in-None.ensures.steps.0.0) c.loop-number.invariant.going) c.put.ensures
