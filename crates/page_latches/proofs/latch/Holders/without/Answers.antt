use Rattle.std.proofs.Common.{◌≡◌, ℕ, Bool, false, None, List, [], ap, sym, ◌∙◌}
use Rattle.home_model.specs.Numbered.{put, nobody}
use Rattle.home_model.specs.Latch.{Latch}
use Rattle.page_latches.specs.Set.{has}
use Rattle.page_latches.proofs.latch.Holders.without.Goals as goal

shared_latch : (ℕ → Bool) → Latch
shared_latch s = record { shared = s; exclusive = None }

none_left : (before after : List ℕ) (n : ℕ) → has after ≡ put (has before) n false → after ≡ [] → nobody ≡ put (has before) n false
none_left before after n members empty = ap (λ (q : List ℕ). has q) (sym empty) ∙ members

pub returns-then-is_empty-clause-latch : goal.returns-then-is_empty-clause-latch
unfolding shared_latch
returns-then-is_empty-clause-latch c = rw c.in-Shared.is (let e = none_left c.in-Shared.nodes c.remove.new.self c.args.node c.remove.ensures.members (c.is_empty.ensures.0 c.if-is_empty.true) in ap (λ s. shared_latch s) e)
