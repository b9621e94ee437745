use Rattle.std.proofs.Common.{sym, ◌∙◌}
use Rattle.home_tables.specs.Home.{kept, entry_at}
use Rattle.rmem_calls.proofs.Answers.{seated, joins}
use Rattle.rmem_calls.proofs.registering.register.Goals as goal

pub told-requires : goal.told-requires
told-requires c =
    let H = c.args.home.now in
    let join = joins H c.access.new.self c.args.slabs.now c.args.node c.args.page (sym c.takes_slot.ensures ∙ c.if-takes_slot.false) c.access.ensures in
    seated c.access.new.self (entry_at H) (kept H c.args.page) c.args.page H.watermark 0 c.args.node join.entry
