use Rattle.std.proofs.Common.{IsSome}
use Rattle.local_cache.specs.Cache.{Cache, cache_with, IsFull, copy_of}
use Rattle.local_cache.proofs.cache.LocalCache.put.Goals as goal
use Rattle.std.proofs.Common.{sym, subst}
use Rattle.local_cache.proofs.Copies.{put_with_room, length_put}

pub invariant_of-self-2 : goal.invariant_of-self-2
invariant_of-self-2 c =
    let room : IsFull (cache_with c.self.inside.copies.entries c.self.inside.capacity) → IsSome (copy_of (cache_with c.self.inside.copies.entries c.self.inside.capacity) c.args.page) = subst (λ (C : Cache). IsFull C → IsSome (copy_of C c.args.page)) (sym c.self.view_is) c.requires in
    let first = put_with_room c.self.inside.copies c.self.inside.capacity c.args.page c.args.copy c.self.invariant.1 room in
    let short = length_put c.self.inside.copies.entries c.self.inside.capacity c.args.page c.args.copy c.self.invariant.0 room in
    rw (c.in_ok-put.ensures.entries, first) (short, c.self.invariant.1)

pub returns-clause-kept : goal.returns-clause-kept
returns-clause-kept c =
    let room : IsFull (cache_with c.self.inside.copies.entries c.self.inside.capacity) → IsSome (copy_of (cache_with c.self.inside.copies.entries c.self.inside.capacity) c.args.page) = subst (λ (C : Cache). IsFull C → IsSome (copy_of C c.args.page)) (sym c.self.view_is) c.requires in
    let first = put_with_room c.self.inside.copies c.self.inside.capacity c.args.page c.args.copy c.self.invariant.1 room in
    rw (c.in_ok-put.ensures.entries, first, ← c.self.view_is)
