use Rattle.std.proofs.Common.{◌≡◌, take}
use Rattle.std.specs.List.{best_of}
use Rattle.mini_transactions.specs.Work.{is_before}
use Rattle.mini_transactions.proofs.mini.next_of.Given as goal

abbrev pub invariant-loop-work : goal.invariant-loop-work
invariant-loop-work l = l.next ≡ best_of is_before l.initial.next (take l.work-index l.rest)
