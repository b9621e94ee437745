use Rattle.std.proofs.Common.{◌≡◌, true, Option, is_some, sym, ◌∙◌, ap, refl}
use Rattle.local_cache.specs.declared.cache.Cached.{Cached}
use Rattle.local_cache.specs.Cache.{copy_of}
use Rattle.coherent_pool.specs.Node.{PageState, state_at}
use Rattle.coherent_pool.proofs.Copies.{here_pinned, beside_pinned}
use Rattle.coherent_pool.proofs.node.PoolNode.pin.Goals as goal

pub returns-then-has_copy : goal.returns-then-has_copy
returns-then-has_copy c =
    let N = c.args.self.now in
    let p = c.args.page in
    let some : is_some (copy_of N.cache p) ≡ true = sym c.has_copy.ensures ∙ c.if-has_copy.true in
    record {
      here = ap (λ (o : Option Cached). let S : PageState = record (state_at N p) { copy = o } in S) (here_pinned N.cache c.pin.new.self p c.pin.ensures some);
      beside = λ q ne. ap (λ (o : Option Cached). let S : PageState = record (state_at N q) { copy = o } in S) (beside_pinned N.cache c.pin.new.self p q c.pin.ensures some ne);
      up = refl;
      writer = refl;
    }
