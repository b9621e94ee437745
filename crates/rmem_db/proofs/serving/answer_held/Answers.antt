use Rattle.std.proofs.Common.{◌≡◌, ◌+◌, List, ℕ, ap, ◌∙◌, arith, take, drop}
use Rattle.rmem_db.specs.Reading.{Held}
use Rattle.rmem_db.specs.Session.{Stands}
use Rattle.rmem_db.proofs.KnownText.{OnErr-any}
use Rattle.rmem_db.proofs.ServingLaws.{Serves-line, IsCutOff-line}
use Rattle.rmem_db.proofs.serving.answer_held.Goals as goal

pub loop-n-preserved : goal.loop-n-preserved
loop-n-preserved g c =
    let n : ℕ = c.in-Some.n in
    let held : Held = c.loop-n.input in
    let line : List ℕ = c.front.result.now in
    let is : line ≡ take n held.bytes = c.front.ensures ∙ ap (λ (h : Held). take n h.bytes) c.line_end.ensures.same in
    let same : c.pass.new.self.taken ≡ held.taken = ap (λ (h : Held). h.taken) c.pass.ensures ∙ ap (λ (h : Held). h.taken) c.line_end.ensures.same in
    let bytes : c.pass.new.self.bytes ≡ drop (n + 1) held.bytes = ap (λ (h : Held). h.bytes) c.pass.ensures ∙ ap (λ (h : Held). drop (n + 1) h.bytes) c.line_end.ensures.same in
    let told = c.in_ok-answer.ensures.ok c.loop-n.invariant.stands.0 c.loop-n.invariant.stands.1 in
    record {
      stands = (told.new, told.stands);
      taken = same ∙ c.loop-n.invariant.taken;
      serves = λ left left' taken before.
          Serves-line c.serving_laws.ensures.more_turns c.serving_laws.ensures.lines left left' taken _ (Stands g.W.TableStore.kept g.W.TableStore.tables c.loop-n.session) held (c.loop-n.invariant.serves left left' taken before) n c.in-Some.ensures.found line is
          (Stands g.W.TableStore.kept g.W.TableStore.tables c.answer.new.session) _ c.pass.new.self c.in_ok-answer.ensures.ok bytes same;
      count = omega (arith, c.in_ok-answer.ensures.count);
    }

pub returns-in_err-answer-clause-cut : goal.returns-in_err-answer-clause-cut
returns-in_err-answer-clause-cut g c = λ left left' taken before.
    let n : ℕ = c.in-Some.n in
    let held : Held = c.loop-n.input in
    let line : List ℕ = c.front.result.now in
    let is : line ≡ take n held.bytes = c.front.ensures ∙ ap (λ (h : Held). take n h.bytes) c.line_end.ensures.same in
    OnErr-any _ (IsCutOff-line c.serving_laws.ensures.more_turns c.serving_laws.ensures.lines left left' taken _ (Stands g.W.TableStore.kept g.W.TableStore.tables c.loop-n.session) held (c.loop-n.invariant.serves left left' taken before) n c.in-Some.ensures.found line is
    (g.W.TableStore.kept c.answer.new.session.tables) _ c.in_err-answer.ensures.err)
