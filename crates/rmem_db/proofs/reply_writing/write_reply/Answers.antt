use Rattle.std.proofs.lemmas.Result.{on_err_weaker}
use Rattle.rmem_db.proofs.KnownText.{OnErr-any, AppendsFront-append, AppendsFront-all, AppendsFront-behind}
use Rattle.rmem_db.proofs.reply_writing.write_reply.Goals as goal

pub returns-in_err-write_rows-clause-err : goal.returns-in_err-write_rows-clause-err
returns-in_err-write_rows-clause-err g c =
    OnErr-any _ (AppendsFront-append _ _ _ _ (rw c.rows_of.ensures at c.in_err-write_rows.ensures.err))

pub returns-in_err-text-clause-err : goal.returns-in_err-text-clause-err
returns-in_err-text-clause-err g c =
    OnErr-any _ (AppendsFront-all _ _ _ _ (rw c.rows_of.ensures at c.in_ok-write_rows.ensures.ok))

pub returns-clause-err : goal.returns-clause-err
returns-clause-err g c =
    let first = rw c.rows_of.ensures at c.in_ok-write_rows.ensures.ok in
    let last = rw (c.as_slice.ensures, c.in_ok-text.ensures) at c.write_piece.ensures.err in
    on_err_weaker c.write_piece.result (λ more. AppendsFront-behind _ _ _ _ _ first more) last
