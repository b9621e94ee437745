-- Stated: what is written into the account for what a turn comes to.
use Rattle.std.specs.Prelude.{ℕ, Bool, true, false, if◌then◌else◌, slice_get}
use Rattle.std.specs.Option.{option_map_or}
use Rattle.session_state.specs.declared.classes.StatementClass.{StatementClass}
use Rattle.session_state.specs.declared.classes.StatementClass.TheVariants.{Wrong, Reads, Writes, Begins, Ends}
use Rattle.session_state.specs.declared.places.SessionRow.{SessionRow}
use Rattle.cluster_core.specs.Ledgers.{Account, executed, numbered, queued, replied, rested, settled, snapped, used}
use Rattle.cluster_core.specs.declared.stages.Report.{Report}
use Rattle.cluster_core.specs.declared.stages.Report.TheVariants.{Went, Used, Snapped, Numbered, Queued, Kept, Replied, Rested}
use Rattle.cluster_core.specs.declared.recording.Purpose.{Purpose}
use Rattle.cluster_core.specs.declared.recording.Purpose.TheVariants.{Serving, Undoing}

abbrev pub class_in : SessionRow → StatementClass
class_in row = option_map_or (λ q. q.class) row.asked Wrong

abbrev pub is_evaluated : StatementClass → Bool
is_evaluated Wrong = false
is_evaluated Reads = true
is_evaluated Writes = true
is_evaluated Begins = false
is_evaluated Ends = false

-- the session's statement is evaluated over its snapshot
abbrev pub evaluates : Account → ℕ → Bool
evaluates a s = option_map_or (λ row. is_evaluated (class_in row)) (slice_get a.sessions s) false

-- a snapshot is taken; a statement that is evaluated over it is so at once
abbrev pub opened : ℕ → ℕ → Account → Account
opened s stamp a = if evaluates a s then executed s (snapped s stamp a) else snapped s stamp a

-- a turn for the session's statement
abbrev pub served : ℕ → Report → Account → Account
served s Went a = a
served s (Used page lsn origin) a = used s page lsn origin a
served s (Snapped stamp) a = opened s stamp a
served s (Numbered trx) a = numbered s trx a
served s (Queued end) a = queued s end a
served s (Kept tail) a = settled tail a
served s (Replied r) a = replied s r a
served s Rested a = a

-- a turn with what is undone
abbrev pub undone : Report → Account → Account
undone Went a = a
undone (Used page lsn origin) a = a
undone (Snapped stamp) a = a
undone (Numbered trx) a = a
undone (Queued end) a = a
undone (Kept tail) a = settled tail a
undone (Replied r) a = a
undone Rested a = rested a

abbrev pub recorded : Purpose → Report → Account → Account
recorded (Serving s) r a = served s r a
recorded (Undoing s) r a = undone r a
