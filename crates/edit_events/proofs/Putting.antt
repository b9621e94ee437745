-- For the proofs: the plan that puts an item inserts it or replaces the one with its key.
use Rattle.std.proofs.Common.{◌≡◌, ℕ, suc, List, [], ◌∷◌, slice_get, Some, false, refl, sym, ap}
use Rattle.std.specs.List.{AllByRecursion}
use Rattle.std.specs.Ordering.{is_eq}
use Rattle.std.specs.declared.cmp.Ordering.{Ordering}
use Rattle.std.specs.declared.cmp.Ordering.TheVariants.{Less, Equal, Greater}
use Rattle.page_image.specs.Image.{Image}
use Rattle.page_view.specs.declared.leaf.LeafItem.{LeafItem}
use Rattle.page_view.specs.Keys.{key_in, keys_of, key_cmp}
use Rattle.tree_change.specs.Changes.{IsPut}
use Rattle.tree_change.specs.Places.{leaf_on, with_key}
use Rattle.tree_change.specs.Way.{IsWayTo}
use Rattle.tree_change.proofs.ListLaws.{keep_none}
use Rattle.tree_change.proofs.PlaceLaws.{equal_from}
use Rattle.tree_change.proofs.WayLaws.{leaf_rows}
use Rattle.tree_timeline.specs.Types.{Items, Key}
use Rattle.row_edits.specs.RowPlans.{first_of, old_in, put_by, put_plan}
use Rattle.row_edits.proofs.LeafLaws.{put_found}

abbrev HasItem : Key → Items → Type 0
HasItem key items = (i : ℕ) × (slice_get (keys_of items) i ≡ Some key)

all_others : (key : Key) (items : Items) → (HasItem key items → ⊥)
    → AllByRecursion (λ (x : List ℕ). is_eq (key_cmp (key_in x) key) ≡ false) items
all_others key [] none = tt
all_others key (x ∷ items) none =
    (by_order (key_cmp (key_in x) key) refl, all_others key items (λ h. none (suc h.0, h.1)))
  where
    by_order : (o : Ordering) → key_cmp (key_in x) key ≡ o → is_eq o ≡ false
    by_order Less e = refl
    by_order Equal e = absurd (none (0, ap (λ (k : Key). Some k) (equal_from (key_in x) key e)))
    by_order Greater e = refl

none_with : (key : Key) (items : Items) → (HasItem key items → ⊥) → with_key key items ≡ []
none_with key items none =
    keep_none (λ (x : List ℕ). is_eq (key_cmp (key_in x) key)) items (all_others key items none)

put_new : (leaf : Image) (item : LeafItem) → (HasItem item.key leaf.items → ⊥)
    → put_plan leaf item ≡ put_by (first_of []) leaf item
unfolding old_in
put_new leaf item none =
    ap (λ (xs : Items). put_by (first_of xs) leaf item) (none_with item.key leaf.items none)

pub is_put : (key : Key) (path : List Image) (item : LeafItem) → IsWayTo key path
    → IsPut (leaf_on path) item (put_plan (leaf_on path) item)
is_put key path item w = record {
  inserts = λ none. put_new (leaf_on path) item none;
  replaces = λ has. sym (put_found (leaf_on path) item has.0 (leaf_rows key path w) has.1);
}
