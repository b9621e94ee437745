use Rattle.row_edits.proofs.PlanLaws.{put_fits}
use Rattle.row_edits.proofs.row_plans.row_plan.Goals as goal

pub unwrap-put-requires : goal.unwrap-put-requires
unwrap-put-requires c =
    put_fits c.args.basis.now c.naming-item.result c.in_ok-pointing.pointing c.unwrap-step.result c.next_page-next.result c.in_ok-put_in.field-0
    c.requires c.in_ok-pointing.ensures.is c.naming-item.ensures.is c.in_ok-put_in.ensures.room
