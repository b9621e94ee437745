use Rattle.std.proofs.Common.{◌≡◌, ◌≤◌, take, length}
use Rattle.page_latches.specs.Set.{without_node}
use Rattle.page_latches.proofs.node_set.others.Given as goal

abbrev pub invariant-loop-other : goal.invariant-loop-other
invariant-loop-other l = record {
  sofar : l.others.items ≡ without_node (take l.other-index l.nodes) l.node;
  few : length l.others.items ≤ l.other-index;
}
