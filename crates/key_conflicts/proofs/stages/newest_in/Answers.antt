use Rattle.std.proofs.Common.{rules, ◌≡◌}
use Rattle.key_conflicts.proofs.ItemLaws.{none_is}
use Rattle.key_conflicts.proofs.stages.newest_in.Goals as goal

pub returns-in-Err : goal.returns-in-Err
returns-in-Err c =
    let same : c.unwrap.result ≡ c.args.page.now = search rules in
    rw (← same) (none_is c.unwrap.result.items c.args.key.now c.in-Err.field-0 c.in-Err.ensures.1 c.in-Err.ensures.2)
