use Rattle.redo_record.specs.Decoding.{records_at}
use Rattle.redo_record.proofs.RecordLoop.{IsReading}
use Rattle.redo_record.proofs.decoding.next_records.Given as goal

abbrev pub invariant-loop : goal.invariant-loop
invariant-loop l = IsReading l.end l.count l.counter l.records l.reader (records_at l.end l.count l.initial.reader)
