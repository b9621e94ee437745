use Rattle.undo_versions.specs.Reading.{undone_of}
use Rattle.undo_versions.proofs.ReadLaws.{undo_in-bytes}
use Rattle.undo_versions.proofs.StepLaws.{appends_at_end, appends_on_new}
use Rattle.undo_versions.proofs.appending.append_changes.Goals as goal

pub returns-clause-at_end : goal.returns-clause-at_end
returns-clause-at_end c =
    let bytes = c.args.bytes.now in
    let item = c.args.item.now in
    appends_at_end c.args.undo.now item bytes c.requires.undo c.requires.item c.requires.bytes
    (undo_in-bytes bytes (undone_of item) (λ k. (c.type_inv.bytes k).fits) c.requires.item c.requires.bytes)

pub returns-clause-on_new : goal.returns-clause-on_new
returns-clause-on_new c =
    let bytes = c.args.bytes.now in
    let item = c.args.item.now in
    λ page. appends_on_new c.args.undo.now item bytes page c.requires.item c.requires.bytes
    (undo_in-bytes bytes (undone_of item) (λ k. (c.type_inv.bytes k).fits) c.requires.item c.requires.bytes)
