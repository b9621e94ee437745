use Rattle.std.proofs.Common.{◌≡◌, ◌≤◌, ◌*◌, take}
use Rattle.rmem_calls.specs.Invalidating.{due_pairs}
use Rattle.rmem_calls.proofs.invalidating.due_pairs.Given as goal

abbrev pub invariant-loop-page : goal.invariant-loop-page
invariant-loop-page l = record {
  sum : l.due ≡ due_pairs l.home (take l.page-index l.pages);
  bound : l.due ≤ 16 * l.page-index;
}
