use Rattle.std.proofs.Common.{◌≡◌, ◌+◌, ◌++◌, ◌&&◌, ℕ, Bool, not, List, [], ◌∷◌, take, sym, ap, ◌∙◌}
use Rattle.std.proofs.lemmas.List.{take_more}
use Rattle.page_latches.specs.Set.{has}
use Rattle.home_service.proofs.DuePages.{taken_more}
use Rattle.home_service.proofs.expecting.take_out.Goals as goal

pub loop-node-preserved : goal.loop-node-preserved
loop-node-preserved c n =
    let items : List ℕ = c.as_slice-node-items.result.now in
    let i : ℕ = c.loop-node.node-index in
    let m : ℕ = c.node-item.result in
    let more : take (i + 1) items ≡ take i items ++ m ∷ [] =
    take_more items i m c.loop-node-test.true ∙ ap (λ (x : ℕ). take i items ++ x ∷ []) (sym c.node-item.is) in
    ap (λ (k : ℕ → Bool). k n) c.remove.ensures.members
    ∙ taken_more (has c.args.nodes.now n) (take i items) (has c.loop-node.nodes) m n (c.loop-node.invariant n)
    ∙ ap (λ (xs : List ℕ). has c.args.nodes.now n && not (has xs n)) (sym more)
