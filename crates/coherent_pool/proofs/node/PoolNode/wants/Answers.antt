use Rattle.std.proofs.Common.{Option, sym, ap, ◌∙◌}
use Rattle.node_model.specs.Call.{Call}
use Rattle.coherent_pool.specs.declared.works.FetchWork.{FetchWork}
use Rattle.coherent_pool.specs.Node.{step_in}
use Rattle.coherent_pool.specs.Wanting.{wants_of}
use Rattle.coherent_pool.proofs.WhatIsWanted.{wants_work}
use Rattle.coherent_pool.proofs.node.PoolNode.wants.Goals as goal

pub returns-in-Some : goal.returns-in-Some
returns-in-Some c =
    let w : FetchWork = c.in-Some.work.now in
    c.wants_of.ensures ∙ (sym (wants_work w) ∙ ap (λ (o : Option FetchWork). wants_of (step_in o Call.Quiet)) c.in-Some.ensures)
