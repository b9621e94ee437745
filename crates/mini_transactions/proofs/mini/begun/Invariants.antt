use Rattle.std.proofs.Common.{◌≡◌, length}
use Rattle.mini_transactions.specs.Beginning.{AllBegin}
use Rattle.mini_transactions.proofs.mini.begun.Given as goal

abbrev pub invariant-loop-i : goal.invariant-loop-i
invariant-loop-i l = record {
  long : length l.works.items ≡ l.i;
  begun : AllBegin l.plan l.known l.works.items;
}
