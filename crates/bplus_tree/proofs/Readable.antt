-- Pages that can be read, item by item.
use Rattle.std.proofs.Common.{◌≡◌, ◌+◌, true, false, ℕ, zero, suc, List, [], ◌∷◌, map, take, slice_get, Option, Some, None, refl, sym, ◌∙◌, ap, subst, arith}
use Rattle.std.specs.Prelude.{IsSome}
use Rattle.std.specs.List.{AllByRecursion}
use Rattle.rm_base.specs.Fields.{AreBytes}
use Rattle.page_view.specs.Inner.{InnerItem, inner_bytes, IsInner, IsInnerOrNone}
use Rattle.page_view.specs.Leaf.{leaf_of, HoldsLeaf, IsLeafOrNone}
use Rattle.page_view.specs.declared.leaf.LeafItem.{LeafItem}
use Rattle.page_view.proofs.LeafLaws.{leaf_reads, leaf_holds}
use Rattle.page_image.specs.Image.{Image}
use Rattle.page_image.specs.declared.kind.Kind.TheVariants as kind
use Rattle.page_view.specs.Keys.{Ascend, keys_of}
use Rattle.bplus_tree.specs.Walk.{SpellsInner, IsInnerToRead}

pub leaf_there : (item : List ℕ) (lent : Option LeafItem) → IsLeafOrNone item lent → IsSome lent → HoldsLeaf item
leaf_there item None part some = absurd (nothing some)
  where
    nothing : false ≡ true → ⊥
    nothing q = cc
leaf_there item (Some leaf) part some = subst HoldsLeaf (sym part.1) (leaf_holds leaf part.0)

pub leaf_not_there : (item : List ℕ) (lent : Option LeafItem) → AreBytes item → IsLeafOrNone item lent → HoldsLeaf item → IsSome lent
leaf_not_there item None bytes part holds = let r = leaf_reads item bytes holds in absurd (part (leaf_of item) r.0 r.1)
leaf_not_there item (Some leaf) bytes part holds = refl

pub inner_there : (item : List ℕ) (lent : Option InnerItem) → IsInnerOrNone item lent → IsSome lent → SpellsInner item
inner_there item None part some = absurd (nothing some)
  where
    nothing : false ≡ true → ⊥
    nothing q = cc
inner_there item (Some entry) part some = (entry, part.0, part.1)

pub inner_not_there : (item : List ℕ) (lent : Option InnerItem) → IsInnerOrNone item lent → SpellsInner item → IsSome lent
inner_not_there item None part spells = absurd (part spells.0 spells.1 spells.2)
inner_not_there item (Some entry) part spells = refl

-- one more item
pub one_more : (P : List ℕ → Type 0) (items : List (List ℕ)) (i : ℕ) (item : List ℕ) → slice_get items i ≡ Some item
    → AllByRecursion P (take i items) → P item → AllByRecursion P (take (suc i) items)
one_more P [] i item e all p = tt
one_more P (x ∷ xs) zero item e all p = (subst P (sym (only e)) p, tt)
  where
    only : Some x ≡ Some item → x ≡ item
    only q = cc
one_more P (x ∷ xs) (suc i) item e all p = (all.0, one_more P xs i item e all.1 p)

-- the same, by the next place
pub one_further : (P : List ℕ → Type 0) (items : List (List ℕ)) (i : ℕ) (item : List ℕ) → slice_get items i ≡ Some item
    → AllByRecursion P (take i items) → P item → AllByRecursion P (take (i + 1) items)
one_further P items i item e all p = let next : suc i ≡ i + 1 = omega arith in
    subst (λ (n : ℕ). AllByRecursion P (take n items)) next (one_more P items i item e all p)

pub all_at : (P : List ℕ → Type 0) (items : List (List ℕ)) (i : ℕ) (item : List ℕ) → slice_get items i ≡ Some item → AllByRecursion P items → P item
all_at P [] i item e all = absurd (nothing e)
  where
    nothing : None ≡ Some item → ⊥
    nothing q = cc
all_at P (x ∷ xs) zero item e all = subst P (only e) all.0
  where
    only : Some x ≡ Some item → x ≡ item
    only q = cc
all_at P (x ∷ xs) (suc i) item e all = all_at P xs i item e all.1

-- items that each spell an entry are the spelling of entries
pub entries_of : (items : List (List ℕ)) → AllByRecursion SpellsInner items
    → (entries : List InnerItem) × (items ≡ map inner_bytes entries) × AllByRecursion IsInner entries
entries_of [] all = ([], refl, tt)
entries_of (x ∷ xs) all =
    let r = entries_of xs all.1 in
    (all.0.0 ∷ r.0, ap (λ (y : List ℕ). y ∷ xs) all.0.2 ∙ ap (λ (ys : List (List ℕ)). inner_bytes all.0.0 ∷ ys) r.1, (all.0.1, r.2))

pub entries_spell : (entries : List InnerItem) → AllByRecursion IsInner entries → AllByRecursion SpellsInner (map inner_bytes entries)
entries_spell [] all = tt
entries_spell (entry ∷ rest) all = ((entry, all.0, refl), entries_spell rest all.1)

pub inner_readable : (im : Image) → im.kind ≡ kind.Inner → AllByRecursion SpellsInner im.items → slice_get (keys_of im.items) 0 ≡ Some []
    → Ascend (keys_of im.items) → IsInnerToRead im
inner_readable im inner all least ascend =
    let r = entries_of im.items all in
    record { kind = inner; entries = r.0; has = r.1; each = r.2; least = least; ascend = ascend }

pub inner_spells : (im : Image) → IsInnerToRead im → AllByRecursion SpellsInner im.items
inner_spells im inner = subst (λ (xs : List (List ℕ)). AllByRecursion SpellsInner xs) (sym inner.has) (entries_spell inner.entries inner.each)
