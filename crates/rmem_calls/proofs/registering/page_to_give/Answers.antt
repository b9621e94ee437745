use Rattle.rmem_calls.proofs.Choosing.{seated_when}
use Rattle.rmem_calls.proofs.registering.page_to_give.Goals as goal

pub slot_of-slot-requires : goal.slot_of-slot-requires
slot_of-slot-requires c = seated_when c.args.home.now c.as_slice.result.now c.in_ok-page.page c.in_ok-page.ensures.0
