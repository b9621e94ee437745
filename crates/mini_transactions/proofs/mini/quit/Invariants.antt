use Rattle.std.proofs.Common.{◌≡◌, ◌<◌, ◌≤◌, ℕ, slice_index_or}
use Rattle.fetch_steps.specs.Fetch.{may_hold}
use Rattle.mini_transactions.specs.declared.page_work.PageWork.{PageWork}
use Rattle.mini_transactions.specs.Hearing.{quit}
use Rattle.mini_transactions.proofs.mini.quit.Given as goal

abbrev pub invariant-loop-work : goal.invariant-loop-work
invariant-loop-work l = record {
  quit : (k : ℕ) → k < l.work-index → (d : PageWork) → slice_index_or l.works k d ≡ quit (slice_index_or l.initial.works k d) (may_hold (slice_index_or l.initial.works k d).fetch);
  rest : (k : ℕ) → l.work-index ≤ k → (d : PageWork) → slice_index_or l.works k d ≡ slice_index_or l.initial.works k d;
}
