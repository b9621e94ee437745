use Rattle.std.proofs.Common.{◌≡◌, ◌≢◌, inl, inr, sym, ◌∙◌}
use Rattle.page_pool.specs.declared.events.How.{How}
use Rattle.page_pool.specs.declared.events.How.TheVariants as how
use Rattle.page_pool.specs.declared.answers.Obstacle.TheVariants.{Lost}
use Rattle.plain_pool.proofs.Moving.{lost_steps}
use Rattle.plain_pool.proofs.plain.PlainPool.act.Goals as goal

not-lost : how.Lost ≡ how.Made → ⊥
not-lost e = cc

not-unseen : how.Unseen ≡ how.Made → ⊥
not-unseen e = cc

pub returns-in-Lost : goal.returns-in-Lost
returns-in-Lost c =
    let ne : c.args.how ≢ how.Made =
    elim c.in-Lost.is [ inl e ↦ λ q. not-lost (sym e ∙ q) | inr e ↦ λ q. not-unseen (sym e ∙ q) ] in
    record {
      steps = lost_steps c.args.self.now c.args.action.now c.args.how Lost ne (sym c.can_end.ensures ∙ c.if-not-can_end.false);
      err = tt;
    }
