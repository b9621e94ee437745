-- Stated: what may be replied to what a statement read.
use Rattle.std.specs.Prelude.{◌≡◌}
use Rattle.sql_database.specs.declared.replies.SqlReply.{SqlReply}
use Rattle.sql_database.specs.declared.replies.SqlReply.TheVariants as reply
use Rattle.sql_exec.specs.declared.outcomes.Outcome.{Outcome}
use Rattle.sql_exec.specs.declared.outcomes.Outcome.TheVariants as outcome
use Rattle.statement_reader.specs.declared.asking.Read.{Read}
use Rattle.statement_reader.specs.Reads.{IsOutcomeOf}

-- an outcome as a reply; a node that only reads makes no changes
abbrev pub reply_for : Outcome → SqlReply
reply_for (outcome.Rows rs) = reply.Rows rs
reply_for (outcome.Changes cs) = reply.ReadOnly
reply_for (outcome.Duplicate d) = reply.ReadOnly
reply_for (outcome.Refused r) = r

-- the statement's outcome over what was read is replied
abbrev pub IsReplyTo : Read → SqlReply → Type 0
IsReplyTo a r = (o : Outcome) × IsOutcomeOf a o × (r ≡ reply_for o)
