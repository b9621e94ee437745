use Rattle.std.proofs.Common.{ℕ, sym, ◌∙◌, ap, subst}
use Rattle.page_pool.specs.declared.events.PoolEvent.{PoolEvent}
use Rattle.page_pool.specs.declared.events.PoolEvent.TheVariants.{Act}
use Rattle.page_pool.specs.declared.answers.PoolAnswer.{PoolAnswer}
use Rattle.std.specs.Result.{IfOk}
use Rattle.page_pool.specs.Steps.{Steps}
use Rattle.plain_pool.specs.Seen.{state_of}
use Rattle.plain_pool.proofs.Showing.{not_act, suited}
use Rattle.plain_pool.proofs.Moving.{refused}
use Rattle.plain_pool.proofs.serving.PlainPoolPagePool.step.Goals as goal

pub act-requires : goal.act-requires
act-requires c = record {
  may = (suited c.args.self.now c.args.event.now c.in-Act.field-0 c.in-Act.action c.in-Act.how c.in-Act.is c.requires.suits).1;
}

pub returns-in-Act-clause-steps : goal.returns-in-Act-clause-steps
returns-in-Act-clause-steps c =
    let zero = (suited c.args.self.now c.args.event.now c.in-Act.field-0 c.in-Act.action c.in-Act.how c.in-Act.is c.requires.suits).0 in
    let is = c.in-Act.is ∙ ap (λ (n : ℕ). Act n c.in-Act.action c.in-Act.how) zero in
    subst (λ (x : PoolEvent). IfOk c.act.result (λ (answer : PoolAnswer). Steps x answer (state_of c.args.self.now) (state_of c.act.new.self))) (sym is) c.act.ensures.steps

pub returns-in_default : goal.returns-in_default
returns-in_default c = record {
  steps = refused c.args.event.now c.args.self.now (not_act c.args.self.now c.args.event.now c.in_default.not-Act);
  err = tt;
}
