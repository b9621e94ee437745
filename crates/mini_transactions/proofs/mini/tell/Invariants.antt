use Rattle.std.proofs.Common.{◌≡◌, ◌<◌, ◌≤◌, ℕ, slice_index_or}
use Rattle.mini_transactions.specs.declared.page_work.PageWork.{PageWork}
use Rattle.mini_transactions.specs.Together.{Takes}
use Rattle.mini_transactions.proofs.mini.tell.Given as goal

abbrev pub invariant-loop-work : goal.invariant-loop-work
invariant-loop-work l = record {
  told : (k : ℕ) → k < l.work-index → (d : PageWork) → Takes l.page l.joint l.told (slice_index_or l.initial.works k d) (slice_index_or l.works k d);
  rest : (k : ℕ) → l.work-index ≤ k → (d : PageWork) → slice_index_or l.works k d ≡ slice_index_or l.initial.works k d;
}
