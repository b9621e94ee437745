use Rattle.std.proofs.Common.{◌≡◌}
use Rattle.sql_plan.proofs.Statements.{insert_left, update_left, delete_left, select_left, join_left}
use Rattle.sql_plan.proofs.planning.left_ranges.Goals as goal

pub returns-in-Insert : goal.returns-in-Insert
returns-in-Insert c =
    insert_left c.insert_ranges.result c.args.schemas.now c.args.statement.now c.args.action.now c.in-Insert.table c.in-Insert.columns c.in-Insert.rows c.key_place.result
    c.in-Insert.is c.requires c.key_place.ensures.place c.insert_ranges.ensures

pub returns-in-Update : goal.returns-in-Update
returns-in-Update c =
    update_left c.left_range.result c.args.schemas.now c.args.statement.now c.args.action.now c.in-Update.table c.in-Update.sets c.in-Update.test c.in-Update.is c.requires c.left_range.ensures

pub returns-in-Delete : goal.returns-in-Delete
returns-in-Delete c =
    delete_left c.left_range-in-Delete.result c.args.schemas.now c.args.statement.now c.args.action.now c.in-Delete.table c.in-Delete.test c.in-Delete.is c.requires c.left_range-in-Delete.ensures

pub returns-in-Some : goal.returns-in-Some
returns-in-Some c =
    join_left c.left_range-in-Some.result c.args.schemas.now c.args.statement.now c.args.action.now c.in-Select.select c.in-Some.join c.in-Select.is c.in-Some.is c.requires c.left_range-in-Some.ensures

pub returns-in-None : goal.returns-in-None
returns-in-None c =
    select_left c.left_range-in-None.result c.args.schemas.now c.args.statement.now c.args.action.now c.in-Select.select c.in-Select.is c.in-None.is c.requires c.left_range-in-None.ensures
