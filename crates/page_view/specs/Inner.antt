-- Stated: an inner item and its bytes.
use Rattle.std.specs.Prelude.{◌≡◌, ◌≤◌, ◌+◌, ℕ, List, ◌∷◌, ◌++◌, length, take, drop, slice_index, Option, MatchOption}
use Rattle.rm_base.specs.declared.limits.TheConstants.{MAX_PAGE_ID}
use Rattle.rm_base.specs.Fields.{field, number}

-- a key, and the page of the child that holds the keys from it on
pub record InnerItem : Type 0 where
  pub key : List ℕ
  pub child : ℕ

-- key length, key, child
abbrev pub inner_bytes : InnerItem → List ℕ
inner_bytes inner = length inner.key ∷ (inner.key ++ field 4 inner.child)

-- a key of at most 255 bytes and a page that there can be
pub record IsInner (inner : InnerItem) : Type 0 where
  pub short_key : length inner.key ≤ 255
  pub child : inner.child ≤ MAX_PAGE_ID

-- the item's parts, by where they stand in the bytes
abbrev pub inner_of : List ℕ → InnerItem
inner_of item =
    record { key = take (slice_index item 0) (drop 1 item); child = number 4 (drop (1 + slice_index item 0) item) }

-- bytes that spell an inner item
pub record HoldsInner (item : List ℕ) : Type 0 where
  pub long : length item ≡ 5 + slice_index item 0
  pub child : number 4 (drop (1 + slice_index item 0) item) ≤ MAX_PAGE_ID

-- the inner item that the bytes spell, or none where they spell none
abbrev pub IsInnerOrNone : List ℕ → Option InnerItem → Type 0
IsInnerOrNone item result =
    MatchOption result ((inner : InnerItem) → IsInner inner → ¬ (item ≡ inner_bytes inner)) (λ inner. IsInner inner × (item ≡ inner_bytes inner))

-- bytes spell one inner item alone
abbrev pub OneInner : Type 0
OneInner = (a b : InnerItem) → IsInner a → IsInner b → inner_bytes a ≡ inner_bytes b → a ≡ b
