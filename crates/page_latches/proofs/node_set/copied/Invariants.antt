use Rattle.std.proofs.Common.{◌≡◌, take}
use Rattle.page_latches.proofs.node_set.copied.Given as goal

abbrev pub invariant-loop-node : goal.invariant-loop-node
invariant-loop-node l = l.copied.items ≡ take l.node-index l.nodes
