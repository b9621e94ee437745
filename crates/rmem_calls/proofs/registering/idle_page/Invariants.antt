use Rattle.std.proofs.Common.{take}
use Rattle.rmem_calls.specs.Giving.{may_give, IsLeastPage}
use Rattle.rmem_calls.proofs.registering.idle_page.Given as goal

abbrev pub invariant-loop-slab : goal.invariant-loop-slab
invariant-loop-slab l = IsLeastPage (may_give l.home (take l.slab-index l.slabs)) l.least
