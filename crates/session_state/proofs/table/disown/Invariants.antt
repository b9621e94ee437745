use Rattle.std.proofs.Common.{◌≡◌, ◌≤◌, ℕ, List, length}
use Rattle.session_state.specs.declared.queue.Queued.{Queued}
use Rattle.session_state.specs.Waiting.{disowned_item}
use Rattle.session_state.proofs.Lists.{in_part}
use Rattle.session_state.proofs.table.disown.Given as goal

pub record Changed (now then : List Queued) (spare_now before : ℕ) (f : Queued → Queued) (at : ℕ) : Type 0 where
  pub items : now ≡ in_part f then at
  pub long : length now ≡ length then
  pub spare : before ≤ spare_now

abbrev pub invariant-loop-at : goal.invariant-loop-at
invariant-loop-at l = Changed l.queue.items l.initial.queue.items l.queue.spare l.initial.queue.spare (disowned_item l.session) l.at
