-- The tree of the example is a timeline, with a split as its first step.
use Rattle.std.proofs.Common.{◌≡◌, ◌≢◌, ◌≤◌, ◌+◌, ◌++◌, ℕ, zero, suc, Bool, true, false, cond, [], ◌∷◌, List, Some, None, refl, ap, arith, inl, inr}
use Rattle.std.specs.Prelude.{nat_eq, Contains}
use Rattle.std.specs.List.{AllByRecursion}
use Rattle.std.proofs.lemmas.List.Elements.{All-from_recursion, All-contains}
use Rattle.page_image.specs.Image.{unmade}
use Rattle.page_view.specs.Inner.{InnerItem}
use Rattle.bplus_tree.specs.Tree.{Tree}
use Rattle.tree_timeline.specs.Fences.{cut}
use Rattle.tree_timeline.specs.Ranges.{Covers}
use Rattle.tree_timeline.specs.Steps.{Splits, Step}
use Rattle.tree_timeline.specs.Timeline.{Timeline}
use Rattle.tree_timeline.specs.Example.{item, first_entry, second_entry, third_entry, root_page, leaf_page, whole, halved, splitting, three_items}
use Rattle.tree_timeline.proofs.Heights.{true_false}
use Rattle.tree_timeline.proofs.ExampleTrees.{whole_tree, halved_tree, whole_entries, halved_entries}

pub member : (P : ℕ → Type 0) (xs : List ℕ) (q : ℕ) → AllByRecursion P xs → Contains xs q → P q
member P xs q all c = All-contains P xs q (All-from_recursion P xs all) c

split : Splits whole halved (1 ∷ 2 ∷ 3 ∷ []) 1
split = record {
  parent = 1;
  page = 3;
  new = 4;
  separator = 3 ∷ [];
  before = first_entry ∷ [];
  entry = second_entry;
  behind = [];
  here = (0, omega arith, refl);
  over = refl;
  child = refl;
  was = whole_entries;
  is = halved_entries;
  parent_kind = refl;
  parent_level = refl;
  page_kind = refl;
  halves = λ e. absurd (true_false true refl e);
  parent_marked = refl;
  page_marked = refl;
  same = λ q c a b.
      member (λ p. p ≢ 1 → p ≢ 3 → halved p ≡ whole p) (1 ∷ 2 ∷ 3 ∷ []) q
      ((λ x y. absurd (x refl)), ((λ x y. refl), ((λ x y. absurd (y refl)), tt))) c a b;
}

pub whole_structure : (q : ℕ) → (whole q).structure ≡ 0
whole_structure q = go (nat_eq q 1) (nat_eq q 2) (nat_eq q 3)
  where
    go : (a b c : Bool)
        → (cond a (root_page (first_entry ∷ second_entry ∷ []) 0)
        (cond b (leaf_page 2 (item 1 ∷ []) 3 0)
        (cond c (leaf_page 3 (item 2 ∷ item 3 ∷ []) 0 0) (unmade q)))).structure ≡ 0
    go true b c = refl
    go false true c = refl
    go false false true = refl
    go false false false = refl

pub halved_structure : (q : ℕ) → (halved q).structure ≤ 1
halved_structure q = go (nat_eq q 1) (nat_eq q 2) (nat_eq q 3) (nat_eq q 4)
  where
    go : (a b c d : Bool)
        → (cond a (root_page (first_entry ∷ second_entry ∷ third_entry ∷ []) 1)
        (cond b (leaf_page 2 (item 1 ∷ []) 3 0)
        (cond c (leaf_page 3 (item 2 ∷ []) 4 1)
        (cond d (leaf_page 4 (item 3 ∷ []) 0 1) (unmade q))))).structure ≤ 1
    go true b c d = omega arith
    go false true c d = omega arith
    go false false true d = omega arith
    go false false false true = omega arith
    go false false false false = omega arith

abbrev trees : (t : ℕ) → Tree (splitting t) 1 (three_items t)
trees zero = whole_tree
trees (suc t) = halved_tree

pub timeline : Timeline splitting 1 0 three_items
timeline = record { tree = trees; step = steps; stamped = stamps }
  where
    steps : (t : ℕ) → Step (splitting t) (splitting (suc t)) 1 (trees t).nodes (0 + suc t)
    steps zero = inr (inl split)
    steps (suc t) = inl (record { inner = λ q c e. refl; leaf = λ q c e. (e, refl) })

    stamps : (t q : ℕ) → (splitting t q).structure ≤ 0 + t
    stamps zero q = let e = whole_structure q in omega (arith, e)
    stamps (suc t) q = let e = halved_structure q in omega (arith, e)

-- ---- the range of the page that is split

pub covers_whole : Covers whole 1 0 3 (Some (2 ∷ [])) None
covers_whole = record {
  depth = 1;
  left = record { low = None; page = 2 } ∷ [];
  right = [];
  deep = refl;
  are = ap (λ (entries : List InnerItem). cut None entries ++ []) whole_entries;
  high_is = refl;
}

pub covers_left : Covers halved 1 0 3 (Some (2 ∷ [])) (Some (3 ∷ []))
covers_left = record {
  depth = 1;
  left = record { low = None; page = 2 } ∷ [];
  right = record { low = Some (3 ∷ []); page = 4 } ∷ [];
  deep = refl;
  are = ap (λ (entries : List InnerItem). cut None entries ++ []) halved_entries;
  high_is = refl;
}

pub covers_right : Covers halved 1 0 4 (Some (3 ∷ [])) None
covers_right = record {
  depth = 1;
  left = record { low = None; page = 2 } ∷ (record { low = Some (2 ∷ []); page = 3 } ∷ []);
  right = [];
  deep = refl;
  are = ap (λ (entries : List InnerItem). cut None entries ++ []) halved_entries;
  high_is = refl;
}
