use Rattle.home_tables.specs.Table.{address_number}
use Rattle.home_tables.specs.Home.{kept, entry_at}
use Rattle.slab_node.proofs.SlabLists.{took_least}
use Rattle.rmem_calls.proofs.Answers.{seated, free_answer}
use Rattle.rmem_calls.proofs.registering.take_slot.Goals as goal

pub told-requires : goal.told-requires
told-requires c =
    let H = c.args.home.now in
    seated c.enter.new.self (entry_at H) (kept H c.args.page) c.args.page H.watermark (address_number c.in-Some.slot) c.args.node c.in_ok-enter.ensures.entered

pub returns-clause-answer : goal.returns-clause-answer
returns-clause-answer c =
    let H = c.args.home.now in
    let S = c.args.slabs.now in
    let a = c.in-Some.slot in
    free_answer H c.enter.new.self S c.take_slot.new.self c.args.node c.args.page a c.told.result
    (
    record {
      takes = c.requires;
      least = c.in-Some.ensures.least;
      entry = c.in_ok-enter.ensures.entered;
      watermark = c.enter.ensures.watermark;
      taken = took_least S c.take_slot.new.self c.take_slot.result a c.in-Some.ensures.least c.take_slot.ensures.none c.take_slot.ensures.least c.take_slot.ensures.taken;
    }
    )
    c.told.ensures
