use Rattle.std.proofs.Common.{◌≡◌}
use Rattle.sql_plan.proofs.Statements.{join_right}
use Rattle.sql_plan.proofs.planning.right_ranges.Goals as goal

pub returns-in-Some : goal.returns-in-Some
returns-in-Some c =
    join_right c.right_range.result c.args.schemas.now c.args.statement.now c.args.action.now c.in-Select.select c.in-Some.join c.args.row.now c.in-Select.is c.in-Some.is c.requires c.right_range.ensures
