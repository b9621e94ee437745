use Rattle.std.proofs.Common.{Ok, Err, ap, ◌∙◌}
use Rattle.rmem_db.specs.Session.{Stands}
use Rattle.rmem_db.proofs.ServingLaws.{Serves-more, IsBroken-kept, IsCutOff-read, Ends-last, Ends-past}
use Rattle.rmem_db.proofs.serving.turn.Goals as goal

pub returns-in-Ok-More-clause-serves : goal.returns-in-Ok-More-clause-serves
returns-in-Ok-More-clause-serves g c = λ left taken before.
    Serves-more c.serving_laws.ensures.more_turns c.serving_laws.ensures.lines left _ taken _ (Stands g.W.TableStore.kept g.W.TableStore.tables c.answer_held.new.session) c.answer_held.new.input (c.in_default.ensures.serves left _ taken before) _ c.fill.new.self
    (c.fill.ensures.more (c.in-Ok-More.is ∙ ap Ok c.in-Ok-More.field-0-is)) c.fill.ensures.few

pub returns-in-Ok-End-clause-ends : goal.returns-in-Ok-End-clause-ends
returns-in-Ok-End-clause-ends g c = λ left taken before.
    Ends-last c.serving_laws.ensures.more_turns c.serving_laws.ensures.lines left _ taken _ (Stands g.W.TableStore.kept g.W.TableStore.tables c.answer_held.new.session) c.answer_held.new.input (c.in_default.ensures.serves left _ taken before) _ _ c.fill.new.self
    (Stands g.W.TableStore.kept g.W.TableStore.tables c.answer.new.session) (g.W.TableStore.kept c.answer.new.session.tables) (λ t h. h.kept) c.in_default.ensures.none (c.fill.ensures.end (c.in-Ok-End.is ∙ ap Ok c.in-Ok-End.field-0-is)) c.rest.result.now c.rest.ensures
    c.answer.result c.status_after-in-Ok-End.result c.status_after-in-Ok-End.ensures c.answer.ensures.ok c.answer.ensures.err

pub returns-in-Ok-TooLong-clause-ends : goal.returns-in-Ok-TooLong-clause-ends
returns-in-Ok-TooLong-clause-ends g c = λ left taken before.
    let too_long = c.in-Ok-TooLong.is ∙ ap Ok c.in-Ok-TooLong.field-0-is in
    Ends-past c.serving_laws.ensures.more_turns c.serving_laws.ensures.lines left _ taken _ (Stands g.W.TableStore.kept g.W.TableStore.tables c.answer_held.new.session) c.answer_held.new.input (c.in_default.ensures.serves left _ taken before) _ _ (g.W.TableStore.kept c.answer_held.new.session.tables) (λ t h. h.kept) c.fill.new.self
    c.in_default.ensures.none (c.fill.ensures.limit too_long) (c.fill.ensures.past too_long)
    c.write_piece.result c.status_after-in-Ok-TooLong.result c.status_after-in-Ok-TooLong.ensures c.write_piece.ensures.ok c.write_piece.ensures.err

pub returns-in-Err-Failed-clause-ends : goal.returns-in-Err-Failed-clause-ends
returns-in-Err-Failed-clause-ends g c = λ left taken before.
    IsBroken-kept c.serving_laws.ensures.more_turns c.serving_laws.ensures.lines left _ taken _ (Stands g.W.TableStore.kept g.W.TableStore.tables c.answer_held.new.session) c.answer_held.new.input (c.in_default.ensures.serves left _ taken before) _ (g.W.TableStore.kept c.answer_held.new.session.tables) (λ t h. h.kept) c.in_default.ensures.none
    (c.fill.ensures.failed (c.in-Err-Failed.is ∙ ap Err c.in-Err-Failed.field-0-is))

pub returns-in-Err-WantOfMemory-clause-ends : goal.returns-in-Err-WantOfMemory-clause-ends
returns-in-Err-WantOfMemory-clause-ends g c = λ left taken before.
    IsCutOff-read c.serving_laws.ensures.more_turns c.serving_laws.ensures.lines left _ taken _ (Stands g.W.TableStore.kept g.W.TableStore.tables c.answer_held.new.session) c.answer_held.new.input (c.in_default.ensures.serves left _ taken before) _ (g.W.TableStore.kept c.answer_held.new.session.tables) (λ t h. h.kept)
    (c.fill.ensures.memory (c.in-Err-WantOfMemory.is ∙ ap Err c.in-Err-WantOfMemory.field-0-is))
