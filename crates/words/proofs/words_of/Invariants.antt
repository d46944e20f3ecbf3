-- The words of the chunks that have come are laid.
use Rattle.std.proofs.Common.{◌≡◌, ◌+◌, ◌++◌, length, take, drop}
use Rattle.std.specs.Iterator.Adapters.{enumerate_source, enumerate_count, take_source, take_count}
use Rattle.std.specs.Slice.Iter.{chunks_exact_size, chunks_exact_rest}
use Rattle.words.specs.Words.{words_of}
use Rattle.words.proofs.words_of.Given as goal

abbrev pub invariant-loop-k : goal.invariant-loop-k
invariant-loop-k l = record {
  can : (goal.iterator-loop-k).can_next l.k-iterator;
  finite : (goal.iterator-loop-k).is_finite l.k-iterator;
  size : chunks_exact_size (take_source (enumerate_source l.k-iterator)) ≡ 4;
  room : enumerate_count l.k-iterator + take_count (enumerate_source l.k-iterator) ≡ length l.out;
  left : drop (enumerate_count l.k-iterator) (words_of l.bytes) ≡ words_of (chunks_exact_rest (take_source (enumerate_source l.k-iterator)));
  laid : l.out ≡ take (enumerate_count l.k-iterator) (words_of l.bytes) ++ drop (enumerate_count l.k-iterator) l.initial.out;
}
