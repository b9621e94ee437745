-- Stated: what sort of reply it is.
use Rattle.std.specs.Prelude.{Bool, true, false}
use Rattle.sql_database.specs.declared.replies.SqlReply.{SqlReply}
use Rattle.sql_database.specs.declared.replies.SqlReply.TheVariants as reply

abbrev pub is_done : SqlReply → Bool
is_done (reply.Ok n) = true
is_done _ = false

-- replies that take the transaction along
abbrev pub is_giving_up : SqlReply → Bool
is_giving_up (reply.Conflict v) = true
is_giving_up (reply.PoolFull k) = true
is_giving_up reply.SpaceFull = true
is_giving_up reply.TrxFull = true
is_giving_up _ = false
