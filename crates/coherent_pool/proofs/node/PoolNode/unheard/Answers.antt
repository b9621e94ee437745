use Rattle.fetch_steps.specs.declared.acts.Told.TheVariants.{NoAnswer}
use Rattle.coherent_pool.specs.Node.{state_at}
use Rattle.coherent_pool.specs.Changing.{told_at}
use Rattle.coherent_pool.proofs.Quitting.{same_at, unheard_stays, unheard_keeps}
use Rattle.coherent_pool.proofs.Steps.{kept_at}
use Rattle.coherent_pool.proofs.node.PoolNode.unheard.Goals as goal

pub returns-clause-same : goal.returns-clause-same
returns-clause-same c =
    let N = c.args.self.now in
    let p = c.args.page in
    let S = state_at N p in
    same_at p (told_at (NoAnswer) S) N c.tell.new.self c.tell.ensures (λ call. unheard_stays N.up S call)

pub returns-clause-kept : goal.returns-clause-kept
returns-clause-kept c =
    let N = c.args.self.now in
    let p = c.args.page in
    let S = state_at N p in
    kept_at p (told_at (NoAnswer) S) N c.tell.new.self c.tell.ensures c.requires (unheard_keeps N.writer S (c.requires p))
