-- Stated: a local cache as its pages in the order of their last use.
use Rattle.std.specs.Prelude.{ℕ, Bool, ◌≤◌, ◌+◌, ◌-◌, ◌==◌, List, ◌∷◌, length, reverse, nat_eq, Option, option_map}
use Rattle.std.specs.List.{IsDistinct, find}
use Rattle.std.specs.Map.{keys_of, lookup, remove_entry, set_value}
use Rattle.lru.specs.LruCache.{promoted}
use Rattle.local_cache.specs.declared.cache.Cached.{Cached}

-- the copies by page, the most recently used first, and how many there may be
pub record Cache : Type 0 where
  pub copies : List (ℕ × Cached)
  pub capacity : ℕ

abbrev pub cache_with : List (ℕ × Cached) → ℕ → Cache
cache_with copies capacity = record { copies = copies; capacity = capacity }

-- each page has one copy, and no more are kept than there may be
pub record IsCache (C : Cache) : Type 0 where
  pub distinct : IsDistinct nat_eq (keys_of C.copies)
  pub bound : length C.copies ≤ C.capacity

-- no further page has room
abbrev pub IsFull : Cache → Type 0
IsFull C = C.capacity ≤ length C.copies

-- the copy of page p
abbrev pub copy_of : Cache → ℕ → Option Cached
copy_of C p = lookup (nat_eq p) C.copies

-- page p is the most recently used; nothing changes where there is no copy of it
abbrev pub used : Cache → ℕ → Cache
used C p = cache_with (promoted (nat_eq p) C.copies) C.capacity

-- c is the copy of page p, which is the most recently used
abbrev pub put_first : Cache → ℕ → Cached → Cache
put_first C p c = cache_with ((p, c) ∷ remove_entry (nat_eq p) C.copies) C.capacity

-- c is the copy of page p, in the place of the one that was there
abbrev pub with_copy : Cache → ℕ → Cached → Cache
with_copy C p c = cache_with (set_value (nat_eq p) C.copies c) C.capacity

-- without page p
abbrev pub dropped : Cache → ℕ → Cache
dropped C p = cache_with (remove_entry (nat_eq p) C.copies) C.capacity

abbrev pub is_unpinned : ℕ × Cached → Bool
is_unpinned entry = entry.1.pins == 0

-- the least recently used page without a pin
abbrev pub oldest_unpinned : Cache → Option ℕ
oldest_unpinned C = option_map (λ entry. entry.0) (find is_unpinned (reverse C.copies))

abbrev pub pinned : Cached → Cached
pinned c = record c { pins = c.pins + 1 }

abbrev pub unpinned : Cached → Cached
unpinned c = record c { pins = c.pins - 1 }

abbrev pub with_bit : Cached → Bool → Cached
with_bit c bit = record c { bit = bit }
