-- The pages that the example's log leaves are a timeline, with a split as its first step.
use Rattle.std.proofs.Common.{◌≡◌, ◌≢◌, ◌+◌, ◌++◌, ℕ, zero, suc, true, [], ◌∷◌, List, length, Some, None, refl, sym, ap, subst, arith, inl, inr}
use Rattle.std.proofs.lemmas.List.{length-append}
use Rattle.bplus_tree.specs.Tree.{IsLeafPage, IsInnerPage, Tree}
use Rattle.redo_record.specs.declared.redo.Group.{Group}
use Rattle.redo_record.specs.Effect.{CountsFrom}
use Rattle.redo_record.proofs.Fold.{page_at-all, CountsFrom-up_to}
use Rattle.tree_change.specs.Effects.{pages_after}
use Rattle.tree_timeline.specs.Types.{Pages}
use Rattle.tree_timeline.specs.Steps.{Splits, Step}
use Rattle.tree_timeline.specs.Timeline.{Timeline}
use Rattle.tree_timeline.specs.Example.{item, first_entry, second_entry, third_entry, three_items}
use Rattle.tree_timeline.proofs.Heights.{true_false}
use Rattle.tree_timeline.proofs.Rows.{entries_are}
use Rattle.tree_timeline.proofs.ExampleTrees.{is_first, is_second, is_third, whole_root, whole_left, whole_right, distinct_three, halved_root, halved_first, halved_second, halved_third, distinct_four}
use Rattle.tree_timeline.proofs.ExampleTimes.{member}
use Rattle.tree_steps.specs.Groups.{left_at}
use Rattle.tree_steps.specs.Example.{split_group, split_log}
use Rattle.tree_steps.proofs.Logs.{ext, log_timeline}

abbrev made_pages : Pages
made_pages = left_at split_log 1 0

abbrev split_pages : Pages
split_pages = left_at split_log 1 1

made_root : IsInnerPage (made_pages 1) 1 1 (first_entry ∷ second_entry ∷ [])
made_root = record {
  kind = refl;
  number = refl;
  height = refl;
  has = refl;
  each = whole_root.each;
  short = whole_root.short;
  least = refl;
  ascend = whole_root.ascend;
}

made_left : IsLeafPage (made_pages 2) 2 None (Some (2 ∷ [])) (item 1 ∷ [])
made_left = record {
  kind = refl;
  number = refl;
  has = refl;
  each = whole_left.each;
  ascend = whole_left.ascend;
  from = whole_left.from;
  below = whole_left.below;
}

made_right : IsLeafPage (made_pages 3) 3 (Some (2 ∷ [])) None (item 2 ∷ item 3 ∷ [])
made_right = record {
  kind = refl;
  number = refl;
  has = refl;
  each = whole_right.each;
  ascend = whole_right.ascend;
  from = whole_right.from;
  below = whole_right.below;
}

abbrev made_tree : Tree made_pages 1 (item 1 ∷ item 2 ∷ item 3 ∷ [])
made_tree = record {
  level = 1;
  nodes = 1 ∷ 2 ∷ 3 ∷ [];
  low_enough = omega arith;
  stands = (
    first_entry ∷ second_entry ∷ [],
    2 ∷ 3 ∷ [],
    made_root,
    (
      item 1 ∷ [],
      item 2 ∷ item 3 ∷ [],
      2 ∷ [],
      3 ∷ [],
      (made_left, refl),
      tt,
      tt,
      (made_right, refl),
      refl,
      refl,
    ),
    refl,
  );
  linked = (refl, omega arith, refl);
  apart = distinct_three;
}

split_root : IsInnerPage (split_pages 1) 1 1 (first_entry ∷ second_entry ∷ third_entry ∷ [])
split_root = record {
  kind = refl;
  number = refl;
  height = refl;
  has = refl;
  each = halved_root.each;
  short = halved_root.short;
  least = refl;
  ascend = halved_root.ascend;
}

split_first : IsLeafPage (split_pages 2) 2 None (Some (2 ∷ [])) (item 1 ∷ [])
split_first = record {
  kind = refl;
  number = refl;
  has = refl;
  each = halved_first.each;
  ascend = halved_first.ascend;
  from = halved_first.from;
  below = halved_first.below;
}

split_second : IsLeafPage (split_pages 3) 3 (Some (2 ∷ [])) (Some (3 ∷ [])) (item 2 ∷ [])
split_second = record {
  kind = refl;
  number = refl;
  has = refl;
  each = halved_second.each;
  ascend = halved_second.ascend;
  from = halved_second.from;
  below = halved_second.below;
}

split_third : IsLeafPage (split_pages 4) 4 (Some (3 ∷ [])) None (item 3 ∷ [])
split_third = record {
  kind = refl;
  number = refl;
  has = refl;
  each = halved_third.each;
  ascend = halved_third.ascend;
  from = halved_third.from;
  below = halved_third.below;
}

split_tree : Tree split_pages 1 (item 1 ∷ item 2 ∷ item 3 ∷ [])
split_tree = record {
  level = 1;
  nodes = 1 ∷ 2 ∷ 3 ∷ 4 ∷ [];
  low_enough = omega arith;
  stands = (
    first_entry ∷ second_entry ∷ third_entry ∷ [],
    2 ∷ 3 ∷ 4 ∷ [],
    split_root,
    (
      item 1 ∷ [],
      item 2 ∷ item 3 ∷ [],
      2 ∷ [],
      3 ∷ 4 ∷ [],
      (split_first, refl),
      tt,
      tt,
      (
        item 2 ∷ [],
        item 3 ∷ [],
        3 ∷ [],
        4 ∷ [],
        (split_second, refl),
        refl,
        tt,
        (split_third, refl),
        refl,
        refl,
      ),
      refl,
      refl,
    ),
    refl,
  );
  linked = (refl, omega arith, (refl, omega arith, refl));
  apart = distinct_four;
}

-- ---- the group is a split

split : Splits made_pages (pages_after 2 split_group.records made_pages) (1 ∷ 2 ∷ 3 ∷ []) 2
split = record {
  parent = 1;
  page = 3;
  new = 4;
  separator = 3 ∷ [];
  before = first_entry ∷ [];
  entry = second_entry;
  behind = [];
  here = (0, omega arith, refl);
  over = refl;
  child = refl;
  was = entries_are (made_pages 1) (first_entry ∷ (second_entry ∷ [])) refl
      (is_first, (is_second, tt));
  is = entries_are (pages_after 2 split_group.records made_pages 1)
      (first_entry ∷ (second_entry ∷ (third_entry ∷ []))) refl
      (is_first, (is_second, (is_third, tt)));
  parent_kind = refl;
  parent_level = refl;
  page_kind = refl;
  halves = λ e. absurd (true_false true refl e);
  parent_marked = refl;
  page_marked = refl;
  same = λ q c a b.
      member
      (λ p. p ≢ 1 → p ≢ 3 → pages_after 2 split_group.records made_pages p ≡ made_pages p)
      (1 ∷ 2 ∷ 3 ∷ []) q
      ((λ x y. absurd (x refl)), ((λ x y. refl), ((λ x y. absurd (y refl)), tt))) c a b;
}

-- ---- past the log's end the pages stand still

counts : CountsFrom 0 split_log
counts = (refl, (refl, tt))

still : (t : ℕ) → left_at split_log 1 (suc t) ≡ split_pages
still t = ext (left_at split_log 1 (suc t)) split_pages same
  where
    same : (q : ℕ) → left_at split_log 1 (suc t) q ≡ split_pages q
    same q =
        page_at-all split_log q (1 + suc t)
        (CountsFrom-up_to 0 (1 + suc t) split_log (omega arith) counts)

abbrev trees : (t : ℕ) → Tree (left_at split_log 1 t) 1 (three_items t)
trees zero = made_tree
trees (suc t) =
    subst (λ (pages : Pages). Tree pages 1 (three_items (suc t))) (sym (still t)) split_tree

second_of : Group → List Group → Group
second_of group [] = group
second_of group (x ∷ []) = group
second_of group (x ∷ (y ∷ xs)) = y

second_is : (x group : Group) (behind : List Group) → split_log ≡ x ∷ (group ∷ behind)
    → split_group ≡ group
unfolding second_of
second_is x group behind e = ap (second_of split_group) e

steps : (before : List Group) (group : Group) (behind : List Group)
    → split_log ≡ before ++ (group ∷ behind) → (t : ℕ) → 1 + t ≡ length before
    → Step (left_at split_log 1 t) (pages_after (1 + suc t) group.records (left_at split_log 1 t))
    1 (trees t).nodes (1 + suc t)
steps [] group behind e t f = absurd (omega (arith, f))
steps (x ∷ []) group behind e zero f =
    subst (λ (g : Group). Step made_pages (pages_after 2 g.records made_pages) 1 made_tree.nodes 2)
    (second_is x group behind e) (inr (inl split))
steps (x ∷ []) group behind e (suc t) f = absurd (omega (arith, f))
steps (x ∷ (y ∷ more)) group behind e t f =
    let long : 2 ≡ length (x ∷ (y ∷ (more ++ (group ∷ behind)))) = ap length e in
    let joined = length-append more (group ∷ behind) in
    absurd (omega (arith, long, joined))

pub example_timeline : Timeline (left_at split_log 1) 1 1 three_items
example_timeline = log_timeline split_log 1 1 three_items counts trees steps
