-- Stated: any list of appends and fences.
use Rattle.std.specs.Prelude.{◌≡◌, ◌≤◌, ℕ, true, List, [], ◌∷◌, ◌++◌, length, if◌then◌else◌}
use Rattle.message_model.specs.declared.Appended.{Appended}
use Rattle.redo_record.specs.declared.redo.Group.{Group}
use Rattle.redo_record.specs.Spelling.{log_bytes, IsLog}
use Rattle.redo_record.specs.Effect.{CountsFrom}
use Rattle.log_chunks.specs.Log.{Log, answer_to, is_kept, longer}

-- an append of groups in an epoch at an offset, or a fence
pub data Call : Type 0 where
  append : ℕ → ℕ → List Group → Call
  fence : ℕ → Call

-- the answer to an append of groups
abbrev pub reply : Log → ℕ → ℕ → List Group → Appended
reply log epoch offset groups = answer_to log epoch offset (length (log_bytes groups))

-- the groups that a call adds: those of an append that is kept
abbrev pub added : Log → Call → List Group
added log (append epoch offset groups) = if is_kept (reply log epoch offset groups) then groups else []
added log (fence epoch) = []

abbrev pub after : Log → Call → Log
after log (append epoch offset groups) = longer log (added log (append epoch offset groups))
after log (fence epoch) = record log { epoch = epoch }

abbrev pub after_all : Log → List Call → Log
after_all log [] = log
after_all log (call ∷ calls) = after_all (after log call) calls

-- the groups of the appends that are kept, in order
abbrev pub kept : Log → List Call → List Group
kept log [] = []
kept log (call ∷ calls) = added log call ++ kept (after log call) calls

-- what is kept are groups with the next LSNs, and no fence lowers the epoch
abbrev pub MayCall : Log → Call → Type 0
MayCall log (append epoch offset groups) =
    is_kept (reply log epoch offset groups) ≡ true → IsLog groups × CountsFrom (length log.groups) groups
MayCall log (fence epoch) = log.epoch ≤ epoch

-- each call may be made where it is made
abbrev pub MayCallAll : Log → List Call → Type 0
MayCallAll log [] = Unit {0}
MayCallAll log (call ∷ calls) = MayCall log call × MayCallAll (after log call) calls
