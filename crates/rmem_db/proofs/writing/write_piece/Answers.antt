use Rattle.std.proofs.Common.{◌+◌, arith}
use Rattle.std.proofs.lemmas.Grind.{common_steps}
use Rattle.rmem_db.proofs.KnownText.{AppendsFront-take, AppendsFront-kept, Appends-take_more}
use Rattle.rmem_db.proofs.writing.write_piece.Goals as goal

pub returns-in-Ok-eq0-clause-err : goal.returns-in-Ok-eq0-clause-err
returns-in-Ok-eq0-clause-err g c =
    AppendsFront-take _ _ (c.loop-at.at + c.in-Ok-eq0.field-0) _ (Appends-take_more _ (g.K.Sink.taken c.loop-at.sink) _ c.loop-at.at c.in-Ok-eq0.field-0 c.args.piece.now c.loop-at.invariant.inside c.loop-at.invariant.taken c.in-Ok-eq0.ensures.bytes)

pub loop-at-preserved : goal.loop-at-preserved
loop-at-preserved g c = record {
  inside = grind (arith, common_steps, c.in-Ok.ensures.bound);
  taken = Appends-take_more _ (g.K.Sink.taken c.loop-at.sink) _ c.loop-at.at c.in-Ok.n c.args.piece.now c.loop-at.invariant.inside c.loop-at.invariant.taken c.in-Ok.ensures.bytes;
  count = omega (arith, c.in-Ok.ensures.count);
}

pub returns-in-Err-clause-err : goal.returns-in-Err-clause-err
returns-in-Err-clause-err g c =
    AppendsFront-kept _ (g.K.Sink.taken c.loop-at.sink) _ c.loop-at.at c.args.piece.now c.loop-at.invariant.taken c.in-Err.ensures.bytes
