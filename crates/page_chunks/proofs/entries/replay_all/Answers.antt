use Rattle.std.proofs.Common.{◌≡◌, ◌+◌, ℕ, List, drop, subst, sym, ◌∙◌}
use Rattle.page_image.specs.Image.{Image}
use Rattle.redo_record.specs.declared.redo.Group.{Group}
use Rattle.redo_record.specs.Effect.{after_records}
use Rattle.materialiser.proofs.MergeLaws.{here}
use Rattle.page_chunks.proofs.EntryLaws.{Left, left_follows, left_next, on_ok}
use Rattle.page_chunks.proofs.entries.replay_all.Goals as goal

pub replay-requires : goal.replay-requires
replay-requires c =
    let gs : List Group = c.args.groups.now in
    let i : ℕ = c.loop-group.group-index in
    let g : Group = c.group-item.result in
    let P : List Group → Type 0 = λ q. Left gs c.args.page.now q c.loop-group.page in
    left_follows gs c.args.page.now g (drop (i + 1) gs) c.loop-group.page
    (subst P (here gs i g c.loop-group-test.true c.group-item.is) c.loop-group.invariant)

pub loop-group-preserved : goal.loop-group-preserved
loop-group-preserved c =
    let gs : List Group = c.args.groups.now in
    let i : ℕ = c.loop-group.group-index in
    let g : Group = c.group-item.result in
    let P : List Group → Type 0 = λ q. Left gs c.args.page.now q c.loop-group.page in
    let N : Image → Type 0 = λ q. Left gs c.args.page.now (drop (i + 1) gs) q in
    let done : c.replay.new.page ≡ after_records g.lsn g.records c.loop-group.page =
    on_ok c.replay.result _ (sym c.is_err.ensures.value ∙ c.if-is_err.false) c.replay.ensures.ok in
    subst N (sym done)
    (left_next gs c.args.page.now g (drop (i + 1) gs) c.loop-group.page
    (subst P (here gs i g c.loop-group-test.true c.group-item.is) c.loop-group.invariant))
