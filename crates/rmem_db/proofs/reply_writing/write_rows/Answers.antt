use Rattle.std.proofs.Common.{List, [], subst, arith}
use Rattle.sql_values.specs.declared.values.Value.{Value}
use Rattle.rmem_db.specs.Writing.{AppendsFront}
use Rattle.reply_text.specs.Texts.{row_line}
use Rattle.rmem_db.proofs.KnownText.{OnErr-any, AppendsFront-items, AppendsFront-item}
use Rattle.rmem_db.proofs.reply_writing.write_rows.Goals as goal

pub returns-in_err-text-clause-err : goal.returns-in_err-text-clause-err
returns-in_err-text-clause-err g c =
    OnErr-any _ (AppendsFront-items _ _ (row_line []) c.args.rows.now c.loop-row.row-index c.loop-row.invariant.taken)

pub returns-in_err-write_piece-clause-err : goal.returns-in_err-write_piece-clause-err
returns-in_err-write_piece-clause-err g c =
    let more = rw (c.as_slice.ensures, c.in_ok-text.ensures) at c.in_err-write_piece.ensures.err in
    let here = subst (λ (r : List Value). AppendsFront (g.K.Sink.taken c.loop-row.sink) (g.K.Sink.taken c.write_piece.new.sink) (row_line [] r)) c.row-item.is more in
    OnErr-any _ (AppendsFront-item _ _ _ (row_line []) c.args.rows.now c.loop-row.row-index c.row-item.result (omega arith) c.loop-row.invariant.taken here)
