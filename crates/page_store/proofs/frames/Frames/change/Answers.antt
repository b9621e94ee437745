use Rattle.std.proofs.Common.{◌≡◌, ℕ, List, set, sym, ap, subst, ◌∙◌}
use Rattle.redo_record.specs.Effect.{page_of}
use Rattle.page_store.specs.declared.frame.Frame.{Frame}
use Rattle.page_store.specs.Frames.{frame_at, kept_at, page_at, HasCopy}
use Rattle.page_store.proofs.FrameLaws.{Changed, changed_at, frame_read, copy_within}
use Rattle.page_store.proofs.frames.Frames.change.Goals as goal

done : (c : goal.After-self-1) → Changed c.args.r.now c.args.lsn c.self.inside.frames.items (set c.self.inside.frames.items c.number-place.result c.change.new.self)
done c =
    let frames : List Frame = c.self.inside.frames.items in
    let place : ℕ = c.number-place.result in
    let f : Frame = c.index_mut.result.now in
    let at : place ≡ page_of c.args.r.now = c.number-place.ensures.value ∙ c.page.ensures in
    let copy : HasCopy frames (page_of c.args.r.now) = subst (λ (fs : List Frame). HasCopy fs (page_of c.args.r.now)) (sym c.self.view_is) c.requires.copy in
    let mine = c.requires.fits.mine ∙ ap (λ (fs : List Frame). (page_at fs (page_of c.args.r.now)).page) (sym c.self.view_is) in
    let is : f ≡ frame_at frames place = frame_read frames place f (copy_within frames place (subst (HasCopy frames) (sym at) copy)) c.index_mut.ensures.value in
    changed_at frames place c.args.lsn c.args.r.now f c.change.new.self is at copy mine c.change.ensures

pub returns-clause-kept : goal.returns-clause-kept
returns-clause-kept c p = (done c).kept p ∙ ap (λ (fs : List Frame). kept_at fs p) c.self.view_is

pub returns-clause-copies : goal.returns-clause-copies
returns-clause-copies c p h = (done c).copies p (subst (λ (fs : List Frame). HasCopy fs p) (sym c.self.view_is) h)
