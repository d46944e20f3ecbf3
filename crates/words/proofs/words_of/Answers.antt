use Rattle.std.proofs.Common.{◌≡◌, ◌++◌, ◌∷◌, ◌<◌, length, take, drop, set, sym, ap, ◌∙◌, arith, length-set}
use Rattle.std.specs.Iterator.Adapters.{enumerate_source, enumerate_count, take_source, take_count}
use Rattle.std.specs.Slice.Iter.{chunks_exact_rest}
use Rattle.words.specs.Words.{words_of}
use Rattle.words.proofs.Laws.{words_next, laid_more, drop_more, laid_end}
use Rattle.words.proofs.words_of.Goals as goal

pub loop-k-preserved : goal.loop-k-preserved
loop-k-preserved c =
    let i = c.loop-k.invariant in
    let turn = c.in-Some.ensures.steps in
    let ws = words_of c.args.bytes.now in
    let k = enumerate_count c.loop-k.k-iterator in
    let four = c.in-Some.four.now in
    let rest = chunks_exact_rest (take_source (enumerate_source c.next.new.self)) in
    let first : drop k ws ≡ c.from_le_bytes.result ∷ words_of rest = i.left ∙ ap words_of turn.0.0.1.0 ∙ words_next four rest (turn.0.0.1.1 ∙ i.size) ∙ ap (λ v. v ∷ words_of rest) (omega arith) in
    record {
      can = c.in-Some.ensures.goes.keeps;
      finite = tt;
      size = turn.0.0.0 ∙ i.size;
      room = simp length-set (omega (arith, turn.0.1, turn.2, i.room));
      left = ap (λ n. drop n ws) turn.2 ∙ drop_more ws k _ first;
      laid = ap (λ n. set c.loop-k.out n c.from_le_bytes.result) turn.1 ∙ laid_more ws c.args.out.now c.loop-k.out k _ i.laid first (omega (arith, turn.0.1, i.room, c.loop-k.auto.out)) ∙ sym (ap (λ n. take n ws ++ drop n c.args.out.now) turn.2);
    }

pub returns-clause-laid : goal.returns-clause-laid
returns-clause-laid c =
    let i = c.loop-k.invariant in
    let ends : 0 < take_count (enumerate_source c.loop-k.k-iterator) → length (chunks_exact_rest (take_source (enumerate_source c.loop-k.k-iterator))) < 4 = λ h. omega (arith, (c.in-None.ensures.steps.0 h).1.0, i.size) in
    laid_end c.args.bytes.now c.args.out.now c.loop-k.out _ _ _ (i.room ∙ c.loop-k.auto.out) c.loop-k.auto.out i.left ends i.laid c.min.ensures
