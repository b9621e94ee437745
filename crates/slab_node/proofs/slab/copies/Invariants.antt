use Rattle.std.proofs.Common.{◌≡◌, replicate}
use Rattle.slab_node.proofs.slab.copies.Given as goal

abbrev pub invariant-loop : goal.invariant-loop
invariant-loop l = l.pages.items ≡ replicate l.counter l.page
