use Rattle.std.proofs.Common.{List, length, ap, ◌∙◌, arith}
use Rattle.redo_record.specs.declared.redo.Record.{Record}
use Rattle.redo_record.specs.Spelling.{records_bytes}
use Rattle.redo_record.proofs.GroupReading.{records_bound}
use Rattle.redo_record.proofs.encoding.encode.Goals as goal

pub overflow_cast-len : goal.overflow_cast-len
overflow_cast-len c =
    let size = ap length c.in_ok-records.ensures.spelled ∙ ap (λ (rs : List Record). length (records_bytes rs)) c.as_slice.ensures in
    omega (arith, size, records_bound c.args.g.now.records c.requires.each, c.requires.most)
