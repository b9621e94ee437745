-- The plans of a tree's changes are steps.
use Rattle.std.proofs.Common.{◌≡◌, ◌≢◌, ◌≤◌, ◌<◌, ◌+◌, ◌∷◌, [], ℕ, zero, suc, false, List, slice_get, Some, refl, sym, ap, subst, ◌∙◌, arith, inl, inr}
use Rattle.std.specs.Prelude.{◌⊎◌}
use Rattle.std.specs.List.{AllByRecursion}
use Rattle.std.specs.declared.cmp.Ordering.{Ordering}
use Rattle.std.specs.declared.cmp.Ordering.TheVariants.{Less, Equal, Greater}
use Rattle.std.proofs.lemmas.Option.{same_Some, slice_get_within}
use Rattle.page_image.specs.Meta.{IsMeta, page_count}
use Rattle.page_image.specs.Image.{Image}
use Rattle.page_image.specs.Rules.{IsImage}
use Rattle.page_view.specs.declared.leaf.LeafItem.{LeafItem}
use Rattle.page_view.specs.Keys.{key_in, keys_of, key_cmp}
use Rattle.redo_record.specs.declared.plans.Plan.{Plan}
use Rattle.tree_change.specs.Way.{IsWayTo}
use Rattle.tree_change.specs.Places.{HasKey, page_on, leaf_on}
use Rattle.tree_change.specs.Changes.{insert_plan, update_plan, remove_plan, IsPut, with_root}
use Rattle.tree_change.specs.Splits.{IsSplit, IsRootSplit}
use Rattle.tree_change.specs.Effects.{pages_after, IsFresh}
use Rattle.tree_change.proofs.PlaceLaws.{same_key, equal_from}
use Rattle.tree_change.proofs.ListLaws.{all_join}
use Rattle.tree_timeline.specs.Types.{Key, Items}
use Rattle.tree_timeline.specs.Steps.{KeepsShape, Splits, RootSplits}
use Rattle.tree_steps.specs.Groups.{FitsLeaf, is_tree_kind}
use Rattle.tree_steps.proofs.ItemSteps.{row_stays}
use Rattle.tree_steps.proofs.SplitSteps.{split_step}
use Rattle.tree_steps.proofs.RootSteps.{root_split_step}

pub insert_keeps : (key : Key) (path : List Image) (w : IsWayTo key path) (item : LeafItem)
    (lsn : ℕ)
    → KeepsShape w.pages
    (pages_after lsn (insert_plan (leaf_on path) item).records w.pages) w.tree.nodes
insert_keeps key path w item lsn =
    row_stays key path w (insert_plan (leaf_on path) item).records lsn (inl (refl, tt), tt)

pub update_keeps : (key : Key) (path : List Image) (w : IsWayTo key path) (item : LeafItem)
    (lsn : ℕ)
    → KeepsShape w.pages
    (pages_after lsn (update_plan (leaf_on path) item).records w.pages) w.tree.nodes
update_keeps key path w item lsn =
    row_stays key path w (update_plan (leaf_on path) item).records lsn
    (inl (refl, tt), (inl (refl, tt), tt))

pub remove_keeps : (key : Key) (path : List Image) (w : IsWayTo key path) (lsn : ℕ)
    → KeepsShape w.pages
    (pages_after lsn (remove_plan (leaf_on path) key).records w.pages) w.tree.nodes
remove_keeps key path w lsn =
    row_stays key path w (remove_plan (leaf_on path) key).records lsn (inl (refl, tt), tt)

-- ---- an item is put in, or in the place of one

-- an item among these has the key, or none has
abbrev HasItem : Key → Items → Type 0
HasItem key items = (i : ℕ) × (slice_get (keys_of items) i ≡ Some key)

has_or_not : (key : Key) (items : Items) → HasItem key items ⊎ (HasItem key items → ⊥)
has_or_not key [] =
    inr (λ h. let within = slice_get_within [] h.0 key h.1 in omega (arith, within))
has_or_not key (x ∷ xs) = go (has_or_not key xs) (key_cmp (key_in x) key) refl
  where
    apart : (o : Ordering) → key_cmp (key_in x) key ≡ o → o ≢ Equal → (HasItem key xs → ⊥)
        → HasItem key (x ∷ xs) → ⊥
    apart o e n none (zero, get) =
        let same : key_in x ≡ key = same_Some (key_in x) key get in
        n (sym e ∙ (ap (λ (k : Key). key_cmp k key) same ∙ same_key key))
    apart o e n none (suc i, get) = none (i, get)

    later : (o : Ordering) → key_cmp (key_in x) key ≡ o → o ≢ Equal
        → HasItem key xs ⊎ (HasItem key xs → ⊥)
        → HasItem key (x ∷ xs) ⊎ (HasItem key (x ∷ xs) → ⊥)
    later o e n (inl h) = inl (suc h.0, h.1)
    later o e n (inr none) = inr (apart o e n none)

    go : HasItem key xs ⊎ (HasItem key xs → ⊥) → (o : Ordering) → key_cmp (key_in x) key ≡ o
        → HasItem key (x ∷ xs) ⊎ (HasItem key (x ∷ xs) → ⊥)
    go rest Equal e = inl (0, ap (λ (k : Key). Some k) (equal_from (key_in x) key e))
    go rest Less e = later Less e (λ f. let h : Less ≡ Equal = f in cc) rest
    go rest Greater e = later Greater e (λ f. let h : Greater ≡ Equal = f in cc) rest

put_fits : (pages : ℕ → Image) (leaf : Image) (item : LeafItem) (plan : Plan) → IsPut leaf item plan
    → AllByRecursion (FitsLeaf pages leaf.page) plan.records
put_fits pages leaf item plan is = go (has_or_not item.key leaf.items)
  where
    go : HasKey item.key leaf ⊎ (HasKey item.key leaf → ⊥)
        → AllByRecursion (FitsLeaf pages leaf.page) plan.records
    go (inl there) =
        subst (λ (p : Plan). AllByRecursion (FitsLeaf pages leaf.page) p.records)
        (sym (is.replaces there)) (inl (refl, tt), (inl (refl, tt), tt))
    go (inr absent) =
        subst (λ (p : Plan). AllByRecursion (FitsLeaf pages leaf.page) p.records)
        (sym (is.inserts absent)) (inl (refl, tt), tt)

pub put_keeps : (key : Key) (path : List Image) (w : IsWayTo key path) (item : LeafItem)
    (plan : Plan)
    → IsPut (leaf_on path) item plan → (lsn : ℕ)
    → KeepsShape w.pages (pages_after lsn plan.records w.pages) w.tree.nodes
put_keeps key path w item plan is lsn =
    row_stays key path w plan.records lsn (put_fits w.pages (leaf_on path) item plan is)

pub begin_keeps : (key : Key) (path : List Image) (w : IsWayTo key path) (item : LeafItem)
    (put : Plan)
    → IsPut (leaf_on path) item put
    → (meta : Image) → IsMeta meta → IsFresh w.pages meta (with_root put meta) → (lsn : ℕ)
    → KeepsShape w.pages (pages_after lsn (with_root put meta).records w.pages) w.tree.nodes
begin_keeps key path w item put is meta is_meta fresh lsn =
    row_stays key path w (with_root put meta).records lsn
    (all_join (FitsLeaf w.pages (leaf_on path).page) put.records _
    (put_fits w.pages (leaf_on path) item put is) (inr new, (inr counted, tt)))
  where
    new : is_tree_kind (w.pages (page_count meta)).kind ≡ false
    new = ap (λ (im : Image). is_tree_kind im.kind) fresh.unmade.0

    counted : is_tree_kind (w.pages meta.page).kind ≡ false
    counted = ap (λ (im : Image). is_tree_kind im.kind) fresh.meta_is ∙ ap is_tree_kind is_meta.kind

-- ---- splits

pub split_splits : (item : LeafItem) (path : List Image) (meta : Image) (plan : Plan) → IsMeta meta
    → IsSplit item path meta plan → page_count meta ≤ 32767
    → (w : IsWayTo item.key path) → IsFresh w.pages meta plan → (lsn : ℕ)
    → Splits w.pages (pages_after lsn plan.records w.pages) w.tree.nodes lsn
split_splits item path meta plan is_meta is bound w fresh lsn =
    subst (λ (p : Plan). Splits w.pages (pages_after lsn p.records w.pages) w.tree.nodes lsn)
    (sym is.plan_is)
    (split_step item.key path is.above is.at meta is.first.within is.place is_meta bound w
    (subst (IsFresh w.pages meta) is.plan_is fresh) lsn)

pub root_split_splits : (key : Key) (path : List Image) (meta : Image) (plan : Plan) → IsMeta meta
    → IsRootSplit path meta plan → page_count meta + 1 ≤ 32767
    → IsImage (page_on path 0) → (page_on path 0).level < 8
    → (w : IsWayTo key path) → IsFresh w.pages meta plan → (lsn : ℕ)
    → RootSplits w.pages (pages_after lsn plan.records w.pages) w.root w.tree.nodes lsn
root_split_splits key path meta plan is_meta is bound image low w fresh lsn =
    subst
    (λ (p : Plan). RootSplits w.pages (pages_after lsn p.records w.pages) w.root w.tree.nodes lsn)
    (sym is.plan_is)
    (root_split_step key path is.at meta is.place image low is_meta bound w
    (subst (IsFresh w.pages meta) is.plan_is fresh) lsn)
