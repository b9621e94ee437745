use Rattle.std.proofs.Common.{◌≡◌, ◌++◌, ◌∷◌, [], sym, ap, ◌∙◌, rules}
use Rattle.redo_record.specs.Spelling.{group_bytes}
use Rattle.page_store.specs.Stored.{Stored, next_lsn}
use Rattle.page_store.proofs.JournalLaws.{grown_parted, grown_seen}
use Rattle.page_store.proofs.journal.Journal.append.Goals as goal

more : (c : goal.After-drop-spelled-inside-2) → c.extend_from_slice.new.self.items ≡ c.self.inside.bytes.items ++ group_bytes c.args.group.now
more c = search rules

pub invariant_of-self-2 : goal.invariant_of-self-2
invariant_of-self-2 c =
    grown_parted c.self.inside.bytes.items c.extend_from_slice.new.self.items c.self.inside.kept_bytes c.self.inside.kept_last c.self.inside.last c.args.group.now
    c.self.invariant c.in_ok-encode.ensures.is_group (c.requires.next ∙ ap next_lsn (sym c.self.view_is)) (more c)

pub returns-clause-ok : goal.returns-clause-ok
returns-clause-ok c =
    grown_seen c.self.inside.bytes.items c.extend_from_slice.new.self.items c.self.inside.kept_bytes c.self.inside.kept_last c.self.inside.last c.args.group.now
    c.self.invariant c.in_ok-encode.ensures.is_group (more c)
    ∙ ap (λ (s : Stored). let t : Stored = record { kept = s.kept; own = s.own ++ c.args.group.now ∷ [] } in t) c.self.view_is
