-- The items of a part of a tree ascend within its bounds, and are those of its leaves in order.
use Rattle.std.proofs.Common.{◌≡◌, ◌≢◌, ℕ, zero, suc, List, [], ◌∷◌, ◌++◌, Option, Some, None, refl, sym, ◌∙◌, ap, subst, append-nil}
use Rattle.std.specs.List.{AllByRecursion, flat_map}
use Rattle.std.specs.declared.cmp.Ordering.TheVariants.{Less, Greater}
use Rattle.std.proofs.lemmas.List.Elements.{filter-append}
use Rattle.std.proofs.lemmas.Grind.{flat_map-append}
use Rattle.page_image.specs.Image.{Image}
use Rattle.page_image.specs.declared.kind.Kind.TheVariants as kind
use Rattle.page_view.specs.Inner.{InnerItem}
use Rattle.page_view.specs.Keys.{key_in, key_cmp}
use Rattle.bplus_tree.specs.Tree.{NotBelow, Beyond, Below, Parts, Stands, is_leaf, leaves_of}
use Rattle.bplus_tree.proofs.Order.{less_less, less_upto, not_greater, Sorted, all_map, all_join, sorted_join, sorted_from}

-- below a key that is below the bound
pub below_less : (high : Option (List ℕ)) (a b : List ℕ) → key_cmp a b ≡ Less → Below high b → Below high a
below_less None a b e h = tt
below_less (Some high) a b e h = less_less a b high e h

-- from a key on that is past the bound
pub beyond_upto : (low : Option (List ℕ)) (a b : List ℕ) → Beyond low a → key_cmp a b ≢ Greater → NotBelow low b
beyond_upto None a b h e = tt
beyond_upto (Some low) a b h e = not_greater low b (less_upto low a b h e)

pub record Within (pages : ℕ → Image) (low high : Option (List ℕ)) (items : List (List ℕ)) (nodes : List ℕ) : Type 0 where
  pub from : AllByRecursion (λ item. NotBelow low (key_in item)) items
  pub below : AllByRecursion (λ item. Below high (key_in item)) items
  pub sorted : Sorted items
  pub joined : items ≡ flat_map (λ page. (pages page).items) (leaves_of pages nodes)

abbrev pub IsWithin : (ℕ → Image) → ℕ → Type 0
IsWithin pages level =
    (page : ℕ) (low high : Option (List ℕ)) (items : List (List ℕ)) (nodes : List ℕ)
    → Stands pages level page low high items nodes → Within pages low high items nodes

pub parts_within : (pages : ℕ → Image) (level : ℕ) → IsWithin pages level → (entries : List InnerItem)
    (low high : Option (List ℕ)) (items : List (List ℕ)) (nodes : List ℕ)
    → Parts (Stands pages level) entries low high items nodes → Within pages low high items nodes
parts_within pages level ih [] low high items nodes parts = absurd parts
parts_within pages level ih (entry ∷ []) low high items nodes parts = ih entry.child low high items nodes parts
parts_within pages level ih (entry ∷ (next ∷ rest)) low high items nodes (first, others, left, right, child, beyond, below, parts, joined, made) =
    let a : Within pages low (Some next.key) first left = ih entry.child low (Some next.key) first left child in
    let b : Within pages (Some next.key) high others right = parts_within pages level ih (next ∷ rest) (Some next.key) high others right parts in
    subst (λ (ns : List ℕ). Within pages low high items ns) (sym made) (subst (λ (xs : List (List ℕ)). Within pages low high xs (left ++ right)) (sym joined) (record {
      from = all_join (λ item. NotBelow low (key_in item)) first others a.from (all_map _ _ others (λ item h. beyond_upto low next.key (key_in item) beyond h) b.from);
      below = all_join (λ item. Below high (key_in item)) first others (all_map _ _ first (λ item h. below_less high (key_in item) next.key h below) a.below) b.below;
      sorted = sorted_join first others a.sorted b.sorted (all_map _ _ first (λ x l. all_map _ _ others (λ y h. less_upto (key_in x) next.key (key_in y) l h) b.from) a.below);
      joined = ap (λ (xs : List (List ℕ)). xs ++ others) a.joined
          ∙ (ap (λ (ys : List (List ℕ)). flat_map (λ page. (pages page).items) (leaves_of pages left) ++ ys) b.joined
          ∙ (sym (flat_map-append (λ page. (pages page).items) (leaves_of pages left) (leaves_of pages right))
          ∙ ap (flat_map (λ page. (pages page).items)) (sym (filter-append (λ page. is_leaf (pages page).kind) left right))));
    }))

-- the page itself is the one leaf
pub one_leaf : (pages : ℕ → Image) (page : ℕ) → (pages page).kind ≡ kind.Leaf → leaves_of pages (page ∷ []) ≡ page ∷ []
one_leaf pages page e = rw e refl

-- an inner page is no leaf
pub no_leaf : (pages : ℕ → Image) (page : ℕ) (below : List ℕ) → (pages page).kind ≡ kind.Inner → leaves_of pages (page ∷ below) ≡ leaves_of pages below
no_leaf pages page below e = rw e refl

pub within : (pages : ℕ → Image) (level : ℕ) → IsWithin pages level
within pages zero page low high items nodes (leaf, one) =
    subst (λ (ns : List ℕ). Within pages low high items ns) (sym one) (record {
      from = leaf.from;
      below = leaf.below;
      sorted = sorted_from items leaf.ascend;
      joined = sym leaf.has ∙ (sym (append-nil (pages page).items) ∙ ap (flat_map (λ page. (pages page).items)) (sym (one_leaf pages page leaf.kind)));
    })
within pages (suc level) page low high items nodes (entries, below, inner, parts, made) =
    let w : Within pages low high items below = parts_within pages level (within pages level) entries low high items below parts in
    subst (λ (ns : List ℕ). Within pages low high items ns) (sym made) (record {
      from = w.from;
      below = w.below;
      sorted = w.sorted;
      joined = w.joined ∙ ap (flat_map (λ page. (pages page).items)) (sym (no_leaf pages page below inner.kind));
    })
