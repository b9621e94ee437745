use Rattle.page_latches.proofs.Sets.{kept_set, has_others}
use Rattle.page_latches.proofs.node_set.NodeSet.remove.Goals as goal

pub invariant_of-self : goal.invariant_of-self
invariant_of-self c = rw (c.others-self-inside.ensures, c.as_slice.ensures.value) (kept_set c.self.inside.nodes.items c.args.node c.self.invariant)

pub returns-clause-members : goal.returns-clause-members
returns-clause-members c = rw (c.others-self-inside.ensures, c.as_slice.ensures.value, ← c.self.view_is) (has_others c.self.inside.nodes.items c.args.node)
