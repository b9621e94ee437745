use Rattle.std.proofs.Common.{◌≡◌, ◌<◌, ◌∷◌, [], ◌++◌, ℕ, List, Some, length, set, sym, ap, subst, ◌∙◌, arith}
use Rattle.page_store.specs.declared.frame.Frame.{Frame}
use Rattle.page_store.specs.Frames.{AreFrames}
use Rattle.page_store.proofs.FrameLaws.{grown_frames, copied_frames}
use Rattle.page_store.proofs.frames.Frames.prepare.Goals as goal

pub invariant_of-self-2 : goal.invariant_of-self-2
invariant_of-self-2 c =
    let frames : List Frame = c.grow.new.frames.items in
    let pages : List ℕ = c.self.inside.changed.items in
    let place : ℕ = c.number-place.result in
    let new : Frame = record { kept = c.index_mut.result.now.kept; working = Some c.in_ok-copy.copy } in
    let are = grown_frames c.self.inside.frames.items frames pages c.self.invariant c.grow.ensures.same c.grow.ensures.longer in
    let there : c.args.p < length frames = c.in_ok-grow.ensures.ok in
    let lt : place < length frames = omega (arith, there, c.number-place.ensures.value) in
    let more : c.push.new.self.items ≡ pages ++ place ∷ [] =
    c.in_ok-push.ensures.items ∙ ap (λ (q : ℕ). pages ++ q ∷ []) (sym c.number-place.ensures.value) in
    subst (λ (ps : List ℕ). AreFrames (set frames place new) ps) (sym more) (copied_frames frames pages place new are lt)
