use Rattle.std.proofs.Common.{◌≡◌, ◌+◌, ◌++◌, ◌&&◌, ℕ, Bool, true, cond, List, [], ◌∷◌, take, sym, ap, ◌∙◌}
use Rattle.std.proofs.lemmas.List.{take_more}
use Rattle.home_model.specs.Numbered.{put}
use Rattle.page_latches.specs.Set.{has}
use Rattle.home_service.proofs.DuePages.{both_more}
use Rattle.home_service.proofs.expecting.both.Goals as goal

pub loop-node-preserved : goal.loop-node-preserved
loop-node-preserved c n =
    let items : List ℕ = c.as_slice-node-items.result.now in
    let i : ℕ = c.loop-node.node-index in
    let m : ℕ = c.node-item.result in
    let more : take (i + 1) items ≡ take i items ++ m ∷ [] =
    take_more items i m c.loop-node-test.true ∙ ap (λ (x : ℕ). take i items ++ x ∷ []) (sym c.node-item.is) in
    let is : has c.insert_where.new.nodes ≡ cond (has c.args.other.now m) (put (has c.loop-node.nodes) m true) (has c.loop-node.nodes) =
    c.insert_where.ensures ∙ ap (λ (b : Bool). cond b (put (has c.loop-node.nodes) m true) (has c.loop-node.nodes)) c.contains.ensures in
    both_more (take i items) (has c.args.other.now) (has c.loop-node.nodes) (has c.insert_where.new.nodes) m n is (c.loop-node.invariant n)
    ∙ ap (λ (xs : List ℕ). has xs n && has c.args.other.now n) (sym more)
