-- Stated: what a statement is answered by a node that only reads.
use Rattle.std.specs.Prelude.{◌≡◌, true, List, []}
use Rattle.sql_database.specs.Statements.{is_select, is_write}
use Rattle.sql_database.specs.declared.replies.SqlReply.{SqlReply}
use Rattle.sql_database.specs.declared.replies.SqlReply.TheVariants as reply
use Rattle.sql_exec.specs.declared.outcomes.Outcome.{Outcome}
use Rattle.sql_exec.specs.declared.outcomes.Outcome.TheVariants as outcome
use Rattle.statement_reader.specs.Reads.{IsOutcomeOver}
use Rattle.statement_work.specs.declared.acts.Job.{Job}
use Rattle.statement_work.specs.Works.{Input, uses}
use Rattle.statement_work.specs.Replies.{IsReplyOver}
use Rattle.ro_worker.specs.Reads.{reply_for}
use Rattle.ro_worker.specs.Serving.{ro_finds, ro_serves, snapshot_for}
use Rattle.ro_worker.specs.Wishes.{reads_only}

-- it was given just this, and replied that
abbrev pub IsServed : Job → List Input → SqlReply → Type 0
IsServed job xs r = IsReplyOver reads_only (ro_serves job) (ro_finds job) xs r

-- rows, or a refusal
abbrev pub ChangesNothing : Outcome → Type 0
ChangesNothing (outcome.Rows rs) = Unit {0}
ChangesNothing (outcome.Changes cs) = ⊥
ChangesNothing (outcome.Duplicate d) = ⊥
ChangesNothing (outcome.Refused r) = Unit {0}

-- a SELECT is answered by its outcome over what is found, at its snapshot, in just the images that were
-- handed in, in their order; it wants no changes
abbrev pub SelectsAreAnswered : Type 0
SelectsAreAnswered =
    (job : Job) (xs : List Input) (r : SqlReply) → is_select job.statement ≡ true → IsServed job xs r
    → (o : Outcome) × IsOutcomeOver (snapshot_for job xs) job.statement (uses xs) o
    × ChangesNothing o × (r ≡ reply_for o)

-- a change is refused at once, whatever stands in the pages
abbrev pub WritesAreRefused : Type 0
WritesAreRefused =
    (job : Job) (xs : List Input) (r : SqlReply) → is_write job.statement ≡ true → IsServed job xs r
    → (r ≡ reply.ReadOnly) × (xs ≡ [])
