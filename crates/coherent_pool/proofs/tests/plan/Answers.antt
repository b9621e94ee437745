use Rattle.std.proofs.Common.{true, sym, ◌∙◌}
use Rattle.coherent_pool.proofs.tests.plan.Goals as goal

pub invalidated-requires : goal.invalidated-requires
invalidated-requires c = record {
  rules = c.requires;
  waits = sym (c.takes_invalidate.ensures true) ∙ c.if-takes_invalidate.true;
}
