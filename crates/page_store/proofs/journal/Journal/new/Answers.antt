use Rattle.page_store.proofs.JournalLaws.{new_parted, new_seen}
use Rattle.page_store.proofs.journal.Journal.new.Goals as goal

pub invariant_of-result : goal.invariant_of-result
invariant_of-result c = new_parted c.new.result.items c.new-3.result c.new-2.result c.new.ensures.items c.new-3.ensures c.new-2.ensures

pub returns : goal.returns
returns c = new_seen c.new.result.items c.new.ensures.items
