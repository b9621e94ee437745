use Rattle.std.proofs.Common.{◌<◌, IsSomeAnd}
use Rattle.local_cache.specs.Cache.{Cache, copy_of}
use Rattle.local_cache.specs.declared.cache.Cached.{Cached}
use Rattle.local_cache.proofs.cache.LocalCache.pin.Goals as goal
use Rattle.std.proofs.Common.{Option, sym, subst, ap, ◌∙◌, arith}

pub overflow_add-copy : goal.overflow_add-copy
overflow_add-copy c =
    let P : Option Cached → Type 0 = λ o. IsSomeAnd o (λ copy. copy.pins < 255) in
    let few : c.in-Some.copy.now.pins < 255 = subst P (sym (c.in-Some.ensures.value ∙ ap (λ (C : Cache). copy_of C c.args.page) c.self.view_is)) c.requires in
    omega arith
