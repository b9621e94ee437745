-- Stated: A leaf item and its bytes.
use Rattle.std.specs.Prelude.{◌≡◌, ◌≤◌, ◌<◌, ◌+◌, ◌^◌, ◌==◌, ℕ, List, ◌∷◌, ◌++◌, length, take, drop, slice_index, Option, MatchOption, if◌then◌else◌}
use Rattle.rm_base.specs.declared.limits.TheConstants.{MAX_KEY_BYTES, MAX_RECORD_BYTES, RECORD_OVERHEAD_BYTES}
use Rattle.rm_base.specs.Fields.{field, number}
use Rattle.page_view.specs.declared.leaf.LeafItem.{LeafItem}

-- key length, key, 1 where it is deleted, transaction, the page and place of the older version, value
abbrev pub leaf_bytes : LeafItem → List ℕ
leaf_bytes leaf =
    length leaf.key ∷ (leaf.key ++ ((if leaf.deleted then 1 else 0)
    ∷ (field 8 leaf.trx ++ (field 4 leaf.older.page ++ (field 2 leaf.older.slot ++ leaf.value)))))

-- a leaf item within its limits, whose numbers fit their fields
pub record IsLeaf (leaf : LeafItem) : Type 0 where
  pub short_key : length leaf.key ≤ MAX_KEY_BYTES
  pub short : RECORD_OVERHEAD_BYTES + length leaf.key + length leaf.value ≤ MAX_RECORD_BYTES
  pub trx : leaf.trx < 2 ^ 64
  pub older_page : leaf.older.page < 2 ^ 32
  pub older_slot : leaf.older.slot < 2 ^ 16

-- the item's parts, by where they stand in the bytes
abbrev pub leaf_of : List ℕ → LeafItem
leaf_of item =
    record {
      key = take (slice_index item 0) (drop 1 item);
      deleted = slice_index item (1 + slice_index item 0) == 1;
      trx = number 8 (drop (2 + slice_index item 0) item);
      older = record {
        page = number 4 (drop (10 + slice_index item 0) item);
        slot = number 2 (drop (14 + slice_index item 0) item);
      };
      value = drop (RECORD_OVERHEAD_BYTES + slice_index item 0) item;
    }

-- bytes that spell a leaf item
pub record HoldsLeaf (item : List ℕ) : Type 0 where
  pub short_key : slice_index item 0 ≤ MAX_KEY_BYTES
  pub long : RECORD_OVERHEAD_BYTES + slice_index item 0 ≤ length item
  pub short : length item ≤ MAX_RECORD_BYTES
  pub flag : slice_index item (1 + slice_index item 0) ≤ 1

-- the leaf item that the bytes spell, or none where they spell none
abbrev pub IsLeafOrNone : List ℕ → Option LeafItem → Type 0
IsLeafOrNone item result =
    MatchOption result ((leaf : LeafItem) → IsLeaf leaf → ¬ (item ≡ leaf_bytes leaf)) (λ leaf. IsLeaf leaf × (item ≡ leaf_bytes leaf))

-- bytes spell one leaf item alone
abbrev pub OneLeaf : Type 0
OneLeaf = (a b : LeafItem) → IsLeaf a → IsLeaf b → leaf_bytes a ≡ leaf_bytes b → a ≡ b
