use Rattle.std.proofs.Common.{◌<◌, ℕ, Option, subst, ap, refl}
use Rattle.local_cache.specs.declared.cache.Cached.{Cached}
use Rattle.local_cache.specs.Cache.{copy_of}
use Rattle.coherent_pool.specs.Node.{PageState, state_at}
use Rattle.coherent_pool.specs.Changing.{pins_in}
use Rattle.coherent_pool.proofs.Copies.{here_unpinned, beside_unpinned}
use Rattle.coherent_pool.proofs.node.PoolNode.unpin.Goals as goal

pub returns-then-pins-gt0 : goal.returns-then-pins-gt0
returns-then-pins-gt0 c =
    let N = c.args.self.now in
    let p = c.args.page in
    let some : 0 < pins_in (copy_of N.cache p) = subst (λ (k : ℕ). 0 < k) c.pins.ensures c.if-pins-gt0.true in
    record {
      here = ap (λ (o : Option Cached). let S : PageState = record (state_at N p) { copy = o } in S) (here_unpinned N.cache c.unpin.new.self p c.unpin.ensures some);
      beside = λ q ne. ap (λ (o : Option Cached). let S : PageState = record (state_at N q) { copy = o } in S) (beside_unpinned N.cache c.unpin.new.self p q c.unpin.ensures some ne);
      up = refl;
      writer = refl;
    }
