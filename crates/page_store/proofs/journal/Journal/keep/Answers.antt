use Rattle.std.proofs.Common.{ap, ◌∙◌, rules}
use Rattle.page_store.specs.Stored.{all_kept}
use Rattle.page_store.proofs.JournalLaws.{kept_parted, kept_seen}
use Rattle.page_store.proofs.journal.Journal.keep.Goals as goal

pub invariant_of-self : goal.invariant_of-self
invariant_of-self c =
    kept_parted c.self.inside.bytes.items c.self.inside.kept_bytes c.len-self-inside.result c.self.inside.kept_last c.self.inside.last c.self.invariant (search rules)

pub returns : goal.returns
returns c =
    kept_seen c.self.inside.bytes.items c.self.inside.kept_bytes c.len-self-inside.result c.self.inside.kept_last c.self.inside.last c.self.invariant (search rules)
    ∙ ap all_kept c.self.view_is
