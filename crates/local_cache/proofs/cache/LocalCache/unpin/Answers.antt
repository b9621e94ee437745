use Rattle.std.proofs.Common.{◌<◌, IsSomeAnd}
use Rattle.local_cache.specs.Cache.{Cache, copy_of}
use Rattle.local_cache.specs.declared.cache.Cached.{Cached}
use Rattle.local_cache.proofs.cache.LocalCache.unpin.Goals as goal
use Rattle.std.proofs.Common.{Option, sym, subst, ap, ◌∙◌, arith}

pub overflow_sub-copy : goal.overflow_sub-copy
overflow_sub-copy c =
    let P : Option Cached → Type 0 = λ o. IsSomeAnd o (λ copy. 0 < copy.pins) in
    let some : 0 < c.in-Some.copy.now.pins = subst P (sym (c.in-Some.ensures.value ∙ ap (λ (C : Cache). copy_of C c.args.page) c.self.view_is)) c.requires in
    omega arith
