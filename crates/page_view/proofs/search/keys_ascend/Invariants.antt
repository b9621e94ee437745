use Rattle.std.proofs.Common.{◌≡◌, ◌<◌, ◌+◌, ℕ, [], slice_index_or, Less}
use Rattle.page_view.specs.Keys.{keys_of, key_cmp}
use Rattle.page_view.proofs.search.keys_ascend.Given as goal

-- each key before the one looked at is less than the next
abbrev pub invariant-loop-next : goal.invariant-loop-next
invariant-loop-next l =
    (k : ℕ) → k + 1 < l.next
    → key_cmp (slice_index_or (keys_of l.page.items) k []) (slice_index_or (keys_of l.page.items) (k + 1) []) ≡ Less
