use Rattle.std.proofs.Common.{◌≡◌, reverse}
use Rattle.std.specs.List.{find}
use Rattle.local_cache.specs.Cache.{is_unpinned}
use Rattle.local_cache.proofs.cache.LocalCache.oldest_unpinned.Given as goal

abbrev pub invariant-loop-page : goal.invariant-loop-page
invariant-loop-page l = find is_unpinned (reverse l.page-iterator.iter) ≡ find is_unpinned (reverse l.self.copies)
