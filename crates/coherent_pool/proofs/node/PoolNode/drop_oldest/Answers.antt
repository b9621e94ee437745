use Rattle.std.proofs.Common.{Option, ap, ◌∙◌, refl}
use Rattle.local_cache.specs.declared.cache.Cached.{Cached}
use Rattle.local_cache.specs.Cache.{Cache, copy_of}
use Rattle.coherent_pool.specs.Node.{PageState, state_at}
use Rattle.coherent_pool.proofs.Copies.{here_dropped, beside_dropped, oldest_free}
use Rattle.coherent_pool.proofs.node.PoolNode.drop_oldest.Goals as goal

pub returns-clause-dropped : goal.returns-clause-dropped
returns-clause-dropped c =
    let N = c.args.self.now in
    let p = c.in_ok-page.page in
    let D : Cache = c.evict.new.self in
    record {
      here = ap (λ (o : Option Cached). let S : PageState = record (state_at N p) { copy = o } in S) (ap (λ (E : Cache). copy_of E p) c.in_ok-page.ensures.dropped ∙ here_dropped N.cache p c.len-count.ensures.rules);
      beside = λ q ne. ap (λ (o : Option Cached). let S : PageState = record (state_at N q) { copy = o } in S) (ap (λ (E : Cache). copy_of E q) c.in_ok-page.ensures.dropped ∙ beside_dropped N.cache p q ne);
      up = refl;
      writer = refl;
    }

pub returns-clause-free : goal.returns-clause-free
returns-clause-free c = oldest_free c.args.self.now.cache c.in_ok-page.page c.len-count.ensures.rules c.in_ok-page.ensures.page
