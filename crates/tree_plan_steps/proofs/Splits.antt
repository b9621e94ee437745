-- For the proofs: plans of splits.
use Rattle.std.proofs.Common.{◌≡◌, ◌≤◌, ◌<◌, ◌+◌, ℕ, List, length, ◌⊎◌, inl, inr, sym, ap, subst, ◌∙◌, arith}
use Rattle.std.specs.Prelude.{Contains}
use Rattle.std.proofs.lemmas.List.Elements.{All-contains, All-from_recursion}
use Rattle.page_image.specs.Image.{Image, unmade}
use Rattle.redo_record.specs.declared.plans.Plan.{Plan}
use Rattle.redo_record.specs.Effect.{after_records}
use Rattle.bplus_tree.specs.Tree.{Tree}
use Rattle.bplus_tree.proofs.Order.{all_map}
use Rattle.commit_stamps.specs.Effects.{SetsCounters}
use Rattle.page_image.specs.Meta.{IsMeta, counters_of, page_count}
use Rattle.tree_change.specs.Effects.{IsFresh, Keeps}
use Rattle.tree_change.specs.Way.{IsWayTo}
use Rattle.version_store.specs.Stores.{Store}
use Rattle.held_versions.specs.Holds.{Holds}
use Rattle.held_versions.specs.Trees.{IsRoot}
use Rattle.tree_timeline.specs.Types.{Items, Key, Pages}
use Rattle.plan_steps.specs.Splitting.{IsSplit}
use Rattle.tree_plan_steps.specs.Ways.{IsPath, way_in}
use Rattle.tree_plan_steps.specs.Laws.{RootSplitIsSplit, SplitIsSplit}
use Rattle.tree_plan_steps.proofs.Counts.{root_split_counts, split_counts}

module _ (items : ℕ → Items) (pages : Pages) (S : Store) (lsn root : ℕ) (key : Key)
    (path : List Image) (plan : Plan) (h : Holds items pages S) (is_root : IsRoot S root)
    (p : IsPath pages root (items root) key path) (keeps : Keeps key path (pages 0) plan) where
  abbrev way : Tree pages root (items root) → IsWayTo key path
  way tree = way_in pages root (items root) key path p tree

  pub is_meta : IsMeta (pages 0)
  is_meta = record { kind = h.counters.meta.kind; number = h.counters.meta.number }

  -- the pages that the plan makes are not made yet
  pub fresh : IsFresh pages (pages 0) plan
  fresh = record {
    meta_is = ap pages h.counters.meta.number;
    unmade =
        all_map
        (λ q. (page_count (pages 0) ≤ q) × (q < page_count (pages 0) + length plan.made))
        (λ q. pages q ≡ unmade q) plan.made
        (λ q new.
        (let count = h.counters.pages_are in
        h.counters.free q (omega (arith, count, new.0)))) keeps.made.next;
  }

  new_page : (q : ℕ) → Contains plan.made q
      → (page_count (pages 0) ≤ q) × (q < page_count (pages 0) + length plan.made)
  new_page q c =
      All-contains (λ x. (page_count (pages 0) ≤ x) × (x < page_count (pages 0) + length plan.made))
      plan.made q
      (All-from_recursion
      (λ x. (page_count (pages 0) ≤ x) × (x < page_count (pages 0) + length plan.made)) plan.made
      keeps.made.next) c

  pub splits_by : (count : ℕ) → page_count (pages 0) + length plan.made ≡ count
      → SetsCounters (after_records lsn plan.records (pages 0))
      (record (counters_of (pages 0)) { pages = count })
      → IsSplit items pages lsn root count plan.pages plan.made plan.records
  splits_by count sum counts = record {
    only = keeps.only;
    within = λ tree q c. by_case q (keeps.within (way tree) q c);
    new = λ q c. (let n = new_page q c in (n.0, omega (arith, n.1, sum)));
    more = omega (arith, sum);
    most = (let b = keeps.made.bound in omega (arith, b, sum));
    stands = λ tree.
        (let s = keeps.stands (way tree) fresh lsn in (s.tree, λ q c. (s.nodes_are q).0 c));
    counts = counts;
  }
    where
      by_case : {A B : Type 0} (q : ℕ) → A ⊎ (B ⊎ (q ≡ (pages 0).page)) → A ⊎ (B ⊎ (q ≡ 0))
      by_case q (inl a) = inl a
      by_case q (inr (inl b)) = inr (inl b)
      by_case q (inr (inr e)) = inr (inr (e ∙ h.counters.meta.number))

few : (count m n : ℕ) → count + m ≤ 32768 → m ≡ n → count + n ≤ 32768
few count m n h e = omega (arith, h, e)

pub split_is_split : SplitIsSplit
split_is_split items pages S lsn root item path plan h is_root p rules is keeps =
    let e = is.plan_is in
    let one : length plan.made ≡ 1 = ap (λ (q : Plan). length q.made) e in
    let bound = few (page_count (pages 0)) (length plan.made) 1 keeps.made.bound one in
    let w = way_in pages root (items root) item.key path p (h.trees.trees root is_root) in
    splits_by items pages S lsn root item.key path plan h is_root p keeps (page_count (pages 0) + 1)
    (omega (arith, one))
    (subst
    (λ (q : Plan). SetsCounters (after_records lsn q.records (pages 0))
    (record (counters_of (pages 0)) { pages = page_count (pages 0) + 1 })) (sym e)
    (split_counts item.key path is.above is.at (pages 0) is.first.within is.place
    (is_meta items pages S lsn root item.key path plan h is_root p keeps) rules
    (omega (arith, bound)) w
    (subst (IsFresh pages (pages 0)) e
    (fresh items pages S lsn root item.key path plan h is_root p keeps)) lsn))

pub root_split_is_split : RootSplitIsSplit
root_split_is_split items pages S lsn root key path plan h is_root p rules image low is keeps =
    let e = is.plan_is in
    let two : length plan.made ≡ 2 = ap (λ (q : Plan). length q.made) e in
    let bound = few (page_count (pages 0)) (length plan.made) 2 keeps.made.bound two in
    let w = way_in pages root (items root) key path p (h.trees.trees root is_root) in
    splits_by items pages S lsn root key path plan h is_root p keeps (page_count (pages 0) + 2)
    (omega (arith, two))
    (subst
    (λ (q : Plan). SetsCounters (after_records lsn q.records (pages 0))
    (record (counters_of (pages 0)) { pages = page_count (pages 0) + 2 })) (sym e)
    (root_split_counts key path is.at (pages 0) is.place image low
    (is_meta items pages S lsn root key path plan h is_root p keeps) rules (omega (arith, bound)) w
    (subst (IsFresh pages (pages 0)) e
    (fresh items pages S lsn root key path plan h is_root p keeps)) lsn))
