use Rattle.std.proofs.Common.{◌≤◌, [], take, flat_map}
use Rattle.std.specs.Io.KnownBytes.{Appends}
use Rattle.reply_text.specs.Texts.{row_line}
use Rattle.rmem_db.proofs.reply_writing.write_rows.Given as goal

-- the sink took the lines of the rows so far
abbrev pub invariant-loop-row : goal.invariant-loop-row
invariant-loop-row g l =
    record {
      taken : Appends (g.K.Sink.taken l.initial.sink) (g.K.Sink.taken l.sink) (flat_map (row_line []) (take l.row-index l.rows));
      count : g.K.Sink.faults l.initial.sink ≤ g.K.Sink.faults l.sink;
    }
