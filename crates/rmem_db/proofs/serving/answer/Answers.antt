use Rattle.std.proofs.Common.{[], ◌∷◌, sym, ◌∙◌}
use Rattle.std.proofs.lemmas.Result.{on_ok_weaker, on_err_weaker}
use Rattle.rmem_db.specs.Lines.{filled}
use Rattle.rmem_db.specs.Session.{Stands}
use Rattle.rmem_db.proofs.KnownText.{OnErr-any}
use Rattle.rmem_db.proofs.OneLine.{Answered-blank, Answered-one, StoppedIn-none, StoppedIn-one}
use Rattle.rmem_db.proofs.serving.answer.Goals as goal

pub returns-then-is_blank-clause-ok : goal.returns-then-is_blank-clause-ok
returns-then-is_blank-clause-ok g c = λ t h.
    Answered-blank t c.args.line.now (Stands g.W.TableStore.kept g.W.TableStore.tables c.args.session.now) (g.K.Sink.taken c.args.sink.now) (sym c.is_blank.ensures ∙ c.if-is_blank.true) h

pub returns-in_err-reply-clause-err : goal.returns-in_err-reply-clause-err
returns-in_err-reply-clause-err g c = λ t h.
    OnErr-any _ (StoppedIn-none t (filled (c.args.line.now ∷ [])) (g.W.TableStore.kept c.answer.new.self.tables) (g.K.Sink.taken c.args.sink.now) (c.in_err-reply.ensures.err t h))

pub returns-clause-ok : goal.returns-clause-ok
returns-clause-ok g c = λ t h.
    on_ok_weaker c.write_reply.result (Answered-one g.W.TableStore.kept g.W.TableStore.tables t c.args.line.now _ _ (c.in_ok-reply.ensures.ok t h) (sym c.is_blank.ensures ∙ c.if-is_blank.false) _ _) c.write_reply.ensures.ok

pub returns-clause-err : goal.returns-clause-err
returns-clause-err g c = λ t h.
    on_err_weaker c.write_reply.result (StoppedIn-one g.W.TableStore.kept g.W.TableStore.tables t c.args.line.now _ _ (c.in_ok-reply.ensures.ok t h) (sym c.is_blank.ensures ∙ c.if-is_blank.false) _ _) c.write_reply.ensures.err
