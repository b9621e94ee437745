-- A reply.
use Rattle.std.proofs.Common.{◌≡◌}
use Rattle.sql_database.specs.declared.replies.SqlReply.{SqlReply}
use Rattle.sql_exec.specs.declared.outcomes.Outcome.{Outcome}
use Rattle.statement_reader.specs.declared.asking.Read.{Read}
use Rattle.statement_reader.specs.Reads.{IsOutcomeOf}
use Rattle.ro_worker.specs.Reads.{IsReplyTo, reply_for}

pub replies : (read : Read) (o : Outcome) (r : SqlReply) → IsOutcomeOf read o → r ≡ reply_for o → IsReplyTo read r
replies read o r c e = (o, c, e)
