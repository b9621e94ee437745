-- A page with too little room takes more than half a page.
use Rattle.std.proofs.Common.{◌≡◌, ◌<◌, ◌-◌, ℕ, true, false, List, refl, ap, arith, inl, inr}
use Rattle.rm_base.specs.declared.limits.TheConstants.{PAGE_BYTES, PAGE_HEADER_BYTES}
use Rattle.std.proofs.lemmas.Bool.Decides.{nat_tests}
use Rattle.page_image.specs.declared.kind.Kind.TheVariants.{Leaf, Inner}
use Rattle.page_image.specs.Image.{Image, used, is_inner, is_slotted, free_of}
use Rattle.page_view.specs.declared.leaf.LeafItem.{LeafItem}
use Rattle.page_view.specs.Leaf.{IsLeaf, HoldsLeaf}
use Rattle.tree_change.specs.Pages.{HoldsChild, IsTreePage}
use Rattle.tree_change.specs.Room.{size_of, room_for, lacks_room}
use Rattle.tree_change.specs.Splits.{IsSmall, IsHeavy}
use Rattle.tree_change.proofs.ListLaws.{all_weaker}

small_row : (item : List ℕ) → HoldsLeaf item → IsSmall item
small_row item h = record {
  key = (let long = h.long in omega (arith, long));
  short_key = (let k = h.short_key in omega (arith, k));
  short = h.short;
}

small_child : (item : List ℕ) → HoldsChild item → IsSmall item
small_child item h = record {
  key = (let long = h.inner.long in omega (arith, long));
  short_key = (let long = h.inner.long in let short = h.short in omega (arith, long, short));
  short = (let short = h.short in omega (arith, short));
}

inner_full : (item : LeafItem) (page : Image) → page.kind ≡ Inner → lacks_room item page ≡ true → free_of page < 71
inner_full item page e h =
    let i : is_inner page.kind ≡ true = ap is_inner e in
    let g = rw i at h in
    grind (arith, nat_tests)

leaf_full : (item : LeafItem) (page : Image) → page.kind ≡ Leaf → lacks_room item page ≡ true → room_for item.key page < size_of item
leaf_full item page e h =
    let i : is_inner page.kind ≡ false = ap is_inner e in
    let g = rw i at h in
    grind (arith, nat_tests)

free_is : (page : Image) → is_slotted page.kind ≡ true → free_of page ≡ PAGE_BYTES - PAGE_HEADER_BYTES - used page.items
free_is page e = rw e refl

pub heavy : (item : LeafItem) (page : Image) → IsTreePage page → IsLeaf item → lacks_room item page ≡ true → IsHeavy page.items
heavy item page (inl rows) is h = record {
  small = all_weaker HoldsLeaf IsSmall small_row page.items rows.items;
  enough = (let free = free_is page (ap is_slotted rows.kind) in let full = leaf_full item page rows.kind h in let short = is.short in omega (arith, free, full, short));
}
heavy item page (inr children) is h = record {
  small = all_weaker HoldsChild IsSmall small_child page.items children.items;
  enough = (let free = free_is page (ap is_slotted children.kind) in let full = inner_full item page children.kind h in omega (arith, free, full));
}
