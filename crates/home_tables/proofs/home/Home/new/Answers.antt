use Rattle.std.proofs.Common.{◌≡◌, length, arith}
use Rattle.home_tables.proofs.Entries.{kept_none}
use Rattle.home_tables.proofs.home.Home.new.Goals as goal

pub invariant_of-result : goal.invariant_of-result
invariant_of-result c =
    let idle : length c.in_ok-idle.idle ≡ 524288 = c.in_ok-idle.ensures.bound in
    let due : length c.in_ok-due.due ≡ 524288 = c.in_ok-due.ensures.bound in
    kept_none c.new.result.entries c.in_ok-idle.idle c.in_ok-due.due c.new.ensures.empty c.in_ok-idle.ensures.none c.in_ok-due.ensures.none (omega (arith, idle)) (omega (arith, due))
