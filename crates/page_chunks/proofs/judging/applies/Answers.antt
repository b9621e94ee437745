use Rattle.std.proofs.Common.{◌≡◌, ◌≤◌, ◌-◌, ℕ, false, sym, subst, ◌∙◌, refl, arith}
use Rattle.page_image.specs.Image.{Image, Follows}
use Rattle.redo_record.specs.Effect.{changes, RecordsApply}
use Rattle.page_chunks.specs.Entries.{image_of}
use Rattle.page_chunks.proofs.EntryLaws.{image-page, image-lsn_le}
use Rattle.page_chunks.proofs.ChunkLaws.{records_elsewhere}
use Rattle.page_chunks.proofs.judging.applies.Goals as goal

pub returns-then-not-concerns : goal.returns-then-not-concerns
returns-then-not-concerns c =
    let im : Image = image_of c.args.p c.args.e.now in
    let none : changes c.args.p c.args.g.now ≡ false = sym c.concerns.ensures ∙ c.if-not-concerns.true in
    let away : changes im.page c.args.g.now ≡ false =
    subst (λ (p : ℕ). changes p c.args.g.now ≡ false) (sym (image-page c.args.p c.args.e.now c.requires.stands.replays)) none in
    let fits : RecordsApply c.args.g.now.lsn c.args.g.now.records im = records_elsewhere c.args.g.now.lsn c.args.g.now.records im away in
    ((λ t. fits), (λ h. refl))

pub replay-requires : goal.replay-requires
replay-requires c =
    let low : (image_of c.args.p c.args.e.now).lsn ≤ c.args.g.now.lsn - 1 = image-lsn_le c.args.p (c.args.g.now.lsn - 1) c.args.e.now c.requires.stands in
    let follows : Follows (image_of c.args.p c.args.e.now) c.args.g.now.lsn = record { some = c.requires.some; later = omega arith } in
    subst (λ (im : Image). Follows im c.args.g.now.lsn) (sym c.in_ok-page.ensures) follows
