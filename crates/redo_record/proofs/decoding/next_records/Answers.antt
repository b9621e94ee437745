use Rattle.std.proofs.lemmas.Result.{err_from_is_err_and}
use Rattle.redo_record.specs.Decoding.{records_at}
use Rattle.redo_record.proofs.RecordLoop.{goes_on, ends, is_done}
use Rattle.redo_record.proofs.decoding.next_records.Goals as goal

pub returns-in_err-record : goal.returns-in_err-record
returns-in_err-record c =
    let p = err_from_is_err_and c.from_residual.result c.from_residual.ensures.1 in
    rw (p.1, p.2)
    (ends c.in_err-record.field-0.0 c.args.end c.args.count c.loop.counter c.loop.records c.loop.reader c.next_record.new.reader c.next_record.new.reader (records_at c.args.end c.args.count c.args.reader.now) c.loop-test.true c.in_err-record.ensures c.loop.invariant)

pub loop-preserved : goal.loop-preserved
loop-preserved c =
    rw c.in_ok-push.ensures.ok
    (goes_on c.args.end c.args.count c.loop.counter c.loop.records c.loop.reader c.in_ok-record.record c.next_record.new.reader (records_at c.args.end c.args.count c.args.reader.now) c.loop-test.true c.in_ok-record.ensures c.loop.invariant)

pub returns : goal.returns
returns c = is_done c.args.end c.args.count c.loop.counter c.loop.records c.loop.reader (records_at c.args.end c.args.count c.args.reader.now) c.loop-test.false c.loop.invariant
