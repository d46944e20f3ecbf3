-- The records that the iterator has left are left to put.
use Rattle.std.specs.Iterator.Adapters.{enumerate_source, enumerate_count}
use Rattle.text.proofs.Going.{Going}
use Rattle.lines.specs.Lines.{record_text}
use Rattle.listing.specs.Listing.{lines_of, lines_from}
use Rattle.recorder.specs.Records.{left}
use Rattle.listing.proofs.put_list.Given as goal

abbrev pub invariant-loop-number : goal.invariant-loop-number
invariant-loop-number g l = record {
  can : (goal.iterator-loop-number g).can_next l.number-iterator;
  finite : (goal.iterator-loop-number g).is_finite l.number-iterator;
  going : Going l.fn.text (lines_of (record_text g.R.Record.letter g.R.Record.names g.R.Record.rest) l.list) l.text (lines_from (record_text g.R.Record.letter g.R.Record.names g.R.Record.rest) (enumerate_count l.number-iterator) (left (enumerate_source l.number-iterator)));
}
