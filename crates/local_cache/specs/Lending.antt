-- Stated: what a cache is once a reference into it has ended.
use Rattle.std.specs.Prelude.{◌≡◌, ℕ, Option, Some, None, ⊤}
use Rattle.std.specs.Borrow.{Fml, MutBor, LendsIf, follows_so}
use mathlib.Core.Option.{none}
use Rattle.page_image.specs.Image.{Image}
use Rattle.page_image.specs.contracts.page.Page.{the_row as page_row}
use Rattle.local_cache.specs.Cache.{Cache, used, copy_of, with_copy}
use Rattle.local_cache.specs.contracts.cache.LocalCache.{the_row}
use Rattle.local_cache.specs.declared.cache.Cached.{Cached}

-- the copy of page p has the image; nothing changes where there is no copy of it
abbrev pub with_image : Cache → ℕ → Image → Cache
with_image C p image = in_case (copy_of C p)
  where
    in_case : Option Cached → Cache
    in_case None = C
    in_case (Some c) = with_copy C p (record c { page = image })

-- the copy of page p has the last image behind r
abbrev pub LendsImage : MutBor Cache → ℕ → Option (MutBor Image) → Fml
LendsImage s p r = LendsIf the_row page_row s r (with_image s.now p) s.now

-- page p becomes the most recently used
abbrev pub EndsUsed : MutBor Cache → ℕ → Fml
EndsUsed s p = follows_so the_row the_row s.ghost_name none (λ _ _. ⊤) (λ new. new ≡ used s.now p)
