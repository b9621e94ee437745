-- For the proofs: a plan that puts an item or takes one out names one page, its leaf.
use Rattle.std.proofs.Common.{◌≡◌, ◌≢◌, ℕ, zero, suc, List, [], ◌∷◌, slice_get, Some, refl, sym, ap, ◌∙◌, ◌⊎◌, inl, inr, arith}
use Rattle.std.specs.declared.cmp.Ordering.{Ordering}
use Rattle.std.specs.declared.cmp.Ordering.TheVariants.{Less, Equal, Greater}
use Rattle.std.proofs.lemmas.Option.{same_Some, slice_get_within}
use Rattle.page_image.specs.Image.{Image}
use Rattle.page_view.specs.declared.leaf.LeafItem.{LeafItem}
use Rattle.page_view.specs.Keys.{key_in, keys_of, key_cmp}
use Rattle.tree_change.proofs.PlaceLaws.{equal_from, same_key}
use Rattle.redo_record.specs.declared.plans.Plan.{Plan}
use Rattle.tree_change.specs.Changes.{IsPut}
use Rattle.tree_change.specs.Places.{HasKey, leaf_on}
use Rattle.tree_timeline.specs.Types.{Items, Key}
use Rattle.tree_plan_steps.specs.Planned.{PutsItem, TakesItem}

abbrev HasItem : Key → Items → Type 0
HasItem key items = (i : ℕ) × (slice_get (keys_of items) i ≡ Some key)

-- a key is there or not
has_or_not : (key : Key) (items : Items) → HasItem key items ⊎ (HasItem key items → ⊥)
has_or_not key [] =
    inr (λ h. let within = slice_get_within [] h.0 key h.1 in omega (arith, within))
has_or_not key (x ∷ xs) = go (has_or_not key xs) (key_cmp (key_in x) key) refl
  where
    apart : (o : Ordering) → key_cmp (key_in x) key ≡ o → o ≢ Equal → (HasItem key xs → ⊥)
        → HasItem key (x ∷ xs) → ⊥
    apart o e n none (zero, get) =
        let same : key_in x ≡ key = same_Some (key_in x) key get in
        n (sym e ∙ (ap (λ (k : Key). key_cmp k key) same ∙ same_key key))
    apart o e n none (suc i, get) = none (i, get)

    later : (o : Ordering) → key_cmp (key_in x) key ≡ o → o ≢ Equal
        → HasItem key xs ⊎ (HasItem key xs → ⊥)
        → HasItem key (x ∷ xs) ⊎ (HasItem key (x ∷ xs) → ⊥)
    later o e n (inl h) = inl (suc h.0, h.1)
    later o e n (inr none) = inr (apart o e n none)

    go : HasItem key xs ⊎ (HasItem key xs → ⊥) → (o : Ordering) → key_cmp (key_in x) key ≡ o
        → HasItem key (x ∷ xs) ⊎ (HasItem key (x ∷ xs) → ⊥)
    go rest Equal e = inl (0, ap (λ (k : Key). Some k) (equal_from (key_in x) key e))
    go rest Less e = later Less e (λ f. let h : Less ≡ Equal = f in cc) rest
    go rest Greater e = later Greater e (λ f. let h : Greater ≡ Equal = f in cc) rest

put_names : (leaf : Image) (item : LeafItem) (plan : Plan) → IsPut leaf item plan
    → plan.pages ≡ leaf.page ∷ []
put_names leaf item plan is = go (has_or_not item.key leaf.items)
  where
    go : HasKey item.key leaf ⊎ (HasKey item.key leaf → ⊥) → plan.pages ≡ leaf.page ∷ []
    go (inl there) = ap (λ (p : Plan). p.pages) (is.replaces there)
    go (inr absent) = ap (λ (p : Plan). p.pages) (is.inserts absent)

pub puts_in_one : (path : List Image) (item : LeafItem) (plan : Plan) → PutsItem path item plan
    → plan.pages ≡ (leaf_on path).page ∷ []
puts_in_one path item plan is = put_names (leaf_on path) item plan is.puts

pub takes_from_one : (path : List Image) (key : Key) (plan : Plan) → TakesItem path key plan
    → plan.pages ≡ (leaf_on path).page ∷ []
takes_from_one path key plan is = ap (λ (p : Plan). p.pages) is.takes
