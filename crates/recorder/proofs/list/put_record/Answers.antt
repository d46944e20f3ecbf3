use Rattle.recorder.proofs.Room.{puts_odd, puts_full, puts_at, over_record, sized_length}
use Rattle.std.proofs.Common.{arith, ◌≡◌, ◌+◌, ◌++◌, length}
use Rattle.recorder.specs.Record.{sized}
use Rattle.recorder.proofs.list.put_record.Goals as goal

pub returns-then-used-count : goal.returns-then-used-count
returns-then-used-count c = puts_odd c.if-used-count.true

pub returns-then-cap-used : goal.returns-then-cap-used
returns-then-cap-used c = puts_full (omega (arith, sized_length c.args.fields.now c.args.more.now))

pub returns-then-left-fields : goal.returns-then-left-fields
returns-then-left-fields c = puts_full (omega (arith, sized_length c.args.fields.now c.args.more.now))

pub returns-then-left-fields-2 : goal.returns-then-left-fields-2
returns-then-left-fields-2 c = puts_full (omega (arith, sized_length c.args.fields.now c.args.more.now))

pub returns : goal.returns
returns c = let a = c.args in
    let e = sized_length a.fields.now a.more.now in
    let n : a.tape.used + (1 + length a.fields.now + length a.more.now) ≡ a.tape.used + length (sized (a.fields.now ++ a.more.now)) = omega (arith, e) in
    puts_at c.if-used-count.false (omega (arith, e, c.min-cap.ensures))
    (over_record a.list.now a.tape.used a.fields.now a.more.now c.copy_in.ensures c.copy_in-2.ensures)
    (λ i. record { used = n i; count = a.tape.count + 1 })
