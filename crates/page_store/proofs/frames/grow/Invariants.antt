use Rattle.std.proofs.Common.{◌≡◌, ◌≤◌, ℕ, length}
use Rattle.page_store.specs.Frames.{frame_at}
use Rattle.page_store.proofs.frames.grow.Given as goal

-- each page has the frame that it had, and there are as many frames as were counted
abbrev pub invariant-loop : goal.invariant-loop
invariant-loop l = record {
  same : (q : ℕ) → frame_at l.frames.items q ≡ frame_at l.initial.frames.items q;
  longer : length l.initial.frames.items ≤ length l.frames.items;
  counted : length l.frames.items ≡ l.counter;
}
