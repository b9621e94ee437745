-- Stated: what a worker's plans are for, and what it finds; each worker has its own.
use Rattle.redo_record.specs.declared.plans.Plan.{Plan}
use Rattle.sql_database.specs.declared.replies.SqlReply.{SqlReply}

pub record Terms : Type 1 where
  -- what a plan is for, and which plans serve that
  pub Aim : Type 0
  pub Serves : Aim → Plan → Type 0
  -- what a statement finds, and what may be replied to it
  pub Finding : Type 0
  pub Replies : Finding → SqlReply → Type 0
