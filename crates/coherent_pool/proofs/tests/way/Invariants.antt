use Rattle.coherent_pool.specs.Keeping.{IsNode}
use Rattle.coherent_pool.proofs.tests.way.Given as goal

abbrev pub invariant-acts : goal.invariant-acts
invariant-acts l = IsNode l.node
