use Rattle.page_store.proofs.HoldLaws.{held_number, held_follows, held_more}
use Rattle.page_store.proofs.store.PageStore.run.Goals as goal

pub change_all-requires-clause-numbers : goal.change_all-requires-clause-numbers
change_all-requires-clause-numbers c = held_number c.self.inside.frames c.prepare_all.new.self c.self.inside.journal c.self.invariant c.prepare_all.ensures.pages

pub change_all-requires-clause-follows : goal.change_all-requires-clause-follows
change_all-requires-clause-follows c =
    held_follows c.self.inside.frames c.prepare_all.new.self c.self.inside.journal c.in_ok-next_lsn.field-0 c.self.invariant c.prepare_all.ensures.pages
    c.next_lsn.ensures.counted c.in_ok-next_lsn.ensures.next

pub invariant_of-self-2 : goal.invariant_of-self-2
invariant_of-self-2 c =
    held_more c.self.inside.frames c.prepare_all.new.self c.change_all.new.self c.self.inside.journal c.append.new.self c.in_ok-next_lsn.field-0 c.args.records
    c.self.invariant c.prepare_all.ensures.kept c.prepare_all.ensures.pages c.change_all.ensures.kept c.change_all.ensures.pages
    c.in_ok-next_lsn.ensures.next c.in_ok-append.ensures.ok
