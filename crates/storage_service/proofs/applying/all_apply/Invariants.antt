use Rattle.std.proofs.Common.{◌<◌, ℕ}
use Rattle.page_image.specs.Image.{unmade}
use Rattle.redo_record.specs.Effect.{GroupsApply}
use Rattle.storage_service.proofs.applying.all_apply.Given as goal

abbrev pub invariant-loop-number : goal.invariant-loop-number
invariant-loop-number l = (p : ℕ) → p < l.number → GroupsApply l.groups (unmade p)
