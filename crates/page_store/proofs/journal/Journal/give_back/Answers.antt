use Rattle.std.proofs.Common.{ap, ◌∙◌}
use Rattle.page_store.specs.Stored.{given_back}
use Rattle.page_store.proofs.JournalLaws.{cut_parted, cut_seen}
use Rattle.page_store.proofs.journal.Journal.give_back.Goals as goal

pub invariant_of-self : goal.invariant_of-self
invariant_of-self c =
    cut_parted c.self.inside.bytes.items c.truncate.new.self.items c.self.inside.kept_bytes c.self.inside.kept_last c.self.inside.last c.self.invariant c.truncate.ensures.items

pub returns : goal.returns
returns c =
    cut_seen c.self.inside.bytes.items c.truncate.new.self.items c.self.inside.kept_bytes c.self.inside.kept_last c.self.inside.last c.self.invariant c.truncate.ensures.items
    ∙ ap given_back c.self.view_is
