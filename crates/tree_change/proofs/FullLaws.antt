-- The first page with too little room.
use Rattle.std.proofs.Common.{◌≡◌, ◌≤◌, ℕ, Bool, true, false, List, Option, Some, None, sym, ap, ◌∙◌, arith, inl, inr}
use Rattle.std.proofs.lemmas.Bool.{cases_lt}
use Rattle.std.proofs.lemmas.Bool.Decides.{nat_tests}
use Rattle.page_image.specs.declared.kind.Kind.TheVariants.{Inner}
use Rattle.page_image.specs.Image.{Image, is_inner, free_of}
use Rattle.page_view.specs.declared.leaf.LeafItem.{LeafItem}
use Rattle.tree_change.specs.Room.{lacks_room}
use Rattle.tree_change.specs.Splits.{IsFirstFull, IsFirstFullOrNone}

both : (b : Bool) → b ≡ true → b ≡ false → ⊥
both b e f = let h : true ≡ false = sym e ∙ f in cc

pub one_first : (item : LeafItem) (path : List Image) (i j : ℕ) → IsFirstFull item path i → IsFirstFull item path j → i ≡ j
one_first item path i j h k =
    elim (cases_lt i j) [
      | inl less ↦ absurd (both _ h.full (k.others i less))
      | inr more ↦ elim (cases_lt j i) [ inl less ↦ absurd (both _ k.full (h.others j less)) | inr same ↦ omega arith ]
    ]

pub first_found : (item : LeafItem) (path : List Image) (found : Option ℕ) (i : ℕ) → IsFirstFullOrNone item path found → IsFirstFull item path i → found ≡ Some i
first_found item path None i h k = absurd (both _ k.full (h i k.within))
first_found item path (Some j) i h k = ap Some (one_first item path j i h k)

-- an inner page that has room has it for one more of its items
pub inner_room : (item : LeafItem) (page : Image) → page.kind ≡ Inner → lacks_room item page ≡ false → 71 ≤ free_of page
inner_room item page e h =
    let i : is_inner page.kind ≡ true = ap is_inner e in
    let g = rw i at h in
    grind (arith, nat_tests)
