-- A child is asked for only right after the page above it.
use Rattle.std.proofs.Common.{◌≡◌, ◌==◌, ◌⊎◌, inl, inr, ℕ, zero, suc, Bool, true, false, List, [], ◌∷◌, ◌++◌, Option, Some, None, refl, sym, ◌∙◌, ap, subst}
use Rattle.rm_base.specs.declared.key_range.KeyRange.{KeyRange}
use Rattle.page_image.specs.Image.{Image}
use Rattle.page_image.specs.declared.kind.Kind.{Kind}
use Rattle.page_image.specs.declared.kind.Kind.TheVariants as kind
use Rattle.page_view.specs.declared.leaf.LeafItem.{LeafItem}
use Rattle.bplus_tree.specs.declared.want.Want.{Want}
use Rattle.bplus_tree.specs.declared.want.Want.TheVariants as want
use Rattle.bplus_tree.specs.Tree.{is_leaf}
use Rattle.bplus_tree.specs.Walk.{Walking, start, after_leaf, is_last}
use Rattle.commit_stamps.specs.Stamping.{stamp_in, visible}
use Rattle.undo_versions.specs.Walking.{is_page, replaced}
use Rattle.version_store.specs.Versions.{is_own}
use Rattle.question_tree.specs.Questions.{Ask, tells, asks, stops, then_on, collect}
use Rattle.range_reader.specs.declared.fetch.Fetch.{Fetch}
use Rattle.range_reader.specs.declared.fetch.Fetch.TheVariants as fetch
use Rattle.range_reader.specs.declared.fetch.Snapshot.{Snapshot}
use Rattle.range_reader.specs.declared.fetch.TheConstants.{MOST_FETCHES, MOST_VERSIONS}
use Rattle.range_reader.specs.Walked.{walked, walked_at}
use Rattle.range_reader.specs.Finding.{Finding, look, look_by, look_at, has_stamp, stamp_by, judged_by, older_by, back_to, walk, go_on, end_at, items_in, find, fetch_at, down_to}
use Rattle.range_reader.specs.Laws.{IsOrderly, FindsOrderly}

-- two works in a row
pub orderly_on : {A B : Type 0} (c : Bool) (m : Ask Fetch Image A) (f : A → Ask Fetch Image B) → IsOrderly c m → ((d : Bool) (a : A) → IsOrderly d (f a))
    → IsOrderly c (then_on m f)
orderly_on c (tells a) f h g = g c a
orderly_on c (asks (fetch.Root p) k) f h g = λ im. orderly_on true (k im) f (h im) g
orderly_on c (asks (fetch.Child p) k) f h g = (h.0, λ im. orderly_on true (k im) f (h.1 im) g)
orderly_on c (asks (fetch.Next p) k) f h g = λ im. orderly_on false (k im) f (h im) g
orderly_on c (asks (fetch.Stamps p) k) f h g = λ im. orderly_on false (k im) f (h im) g
orderly_on c (asks (fetch.Undo p) k) f h g = λ im. orderly_on false (k im) f (h im) g
orderly_on c stops f h g = tt

-- the works of a list
pub collect_orderly : {X A B : Type 0} (f : X → Ask Fetch Image (List A)) (k : List A → Ask Fetch Image B) (seen : List A) (xs : List X)
    → ((c : Bool) (x : X) → IsOrderly c (f x)) → ((c : Bool) (found : List A) → IsOrderly c (k found)) → (c : Bool) → IsOrderly c (collect f k seen xs)
unfolding collect
collect_orderly f k seen [] h g c = g c seen
collect_orderly f k seen (x ∷ xs) h g c =
    orderly_on c (f x) (λ found. collect f k (seen ++ found) xs) (h c x) (λ d found. collect_orderly f k (seen ++ found) xs h g d)

-- ---- one item

abbrev Each : (LeafItem → Finding) → Type 0
Each k = (c : Bool) (item : LeafItem) → IsOrderly c (k item)

back : (k : LeafItem → Finding) (o : Option LeafItem) → Each k → IsOrderly false (back_to k o)
back k None h = tt
back k (Some old) h = h false old

older : (k : LeafItem → Finding) (b : Bool) (item : LeafItem) → Each k → IsOrderly false (older_by b k item)
older k true item h = λ im. back k (replaced im item.older) h
older k false item h = tt

judge : (k : LeafItem → Finding) (b : Bool) (item : LeafItem) → Each k → IsOrderly false (judged_by b k item)
judge k true item h = tt
judge k false item h = older k (is_page item.older.page) item h

stamp : (k : LeafItem → Finding) (s : Snapshot) (b : Bool) (item : LeafItem) (c : Bool) → Each k → IsOrderly c (stamp_by b k s item)
stamp k s true item c h = λ im. judge k (visible (stamp_in im item.trx) s.stamp) item h
stamp k s false item c h = tt

own : (k : LeafItem → Finding) (s : Snapshot) (b : Bool) (item : LeafItem) (c : Bool) → Each k → IsOrderly c (look_by b k s item)
own k s true item c h = tt
own k s false item c h = stamp k s (has_stamp item.trx) item c h

look_orderly : (n : ℕ) (s : Snapshot) (c : Bool) (item : LeafItem) → IsOrderly c (look n s item)
unfolding look
look_orderly zero s c item = tt
look_orderly (suc n) s c item = own (look n s) s (is_own s.own item.trx) item c (λ d old. look_orderly n s d old)

-- ---- page after page

-- a search that goes down does so from the page that was given last
abbrev Down : Want → ℕ → Bool → Type 0
Down (want.Need p) n c = (n ≡ MOST_FETCHES) ⊎ (c ≡ true)
Down (want.Leaf p) n c = Unit {0}
Down want.Finished n c = Unit {0}

last_or_next : (w : Walking) (im : Image) (n : ℕ) (c : Bool) (b : Bool) → is_last w im ≡ b → Down (after_leaf w im).want n c
last_or_next w im n c true e = rw e tt
last_or_next w im n c false e = rw e tt

after_next : (p : ℕ) (k : Kind) (w : Walking) (im : Image) (n : ℕ) (c : Bool) → Down (walked_at (want.Leaf p) k w im).want n c
after_next p kind.Leaf w im n c = last_or_next w im n c (is_last w im) refl
after_next p kind.Unmade w im n c = tt
after_next p kind.Meta w im n c = tt
after_next p kind.Slots w im n c = tt
after_next p kind.Stamps w im n c = tt
after_next p kind.Inner w im n c = tt
after_next p kind.Undo w im n c = tt

-- of an inner page nothing is taken, and after any other page on its way down a search does not go down
down_or_none : (p : ℕ) (k : Kind) (w : Walking) (im : Image) (n : ℕ)
    → (is_leaf k ≡ false) ⊎ ((c : Bool) → Down (walked_at (want.Need p) k w im).want n c)
down_or_none p kind.Leaf w im n = inr (λ c. last_or_next (record w { want = want.Leaf p }) im n c (is_last (record w { want = want.Leaf p }) im) refl)
down_or_none p kind.Inner w im n = inl refl
down_or_none p kind.Unmade w im n = inl refl
down_or_none p kind.Meta w im n = inl refl
down_or_none p kind.Slots w im n = inl refl
down_or_none p kind.Stamps w im n = inl refl
down_or_none p kind.Undo w im n = inl refl

root_or_child : (b : Bool) (p n : ℕ) (c : Bool) (k : Image → Finding) → (n == MOST_FETCHES) ≡ b → ((n ≡ MOST_FETCHES) ⊎ (c ≡ true))
    → ((im : Image) → IsOrderly true (k im)) → IsOrderly c (asks (down_to p b) k)
root_or_child true p n c k e d h = h
root_or_child false p n c k e (inr t) h = (t, h)
root_or_child false p n c k e (inl same) h = absurd (apart (sym e ∙ ap (λ (m : ℕ). m == MOST_FETCHES) same))
  where
    apart : false ≡ true → ⊥
    apart q = cc

collect_none : {X A B : Type 0} (f : X → Ask Fetch Image (List A)) (k : List A → Ask Fetch Image B) (seen : List A) → collect f k seen [] ≡ k seen
unfolding collect
collect_none f k seen = refl

none_taken : (range : KeyRange) (im : Image) → is_leaf im.kind ≡ false → items_in range im ≡ []
none_taken range im e = rw e refl

end_orderly : (v : Want) (seen : List LeafItem) (c : Bool) → IsOrderly c (end_at v seen)
end_orderly (want.Need p) seen c = tt
end_orderly (want.Leaf p) seen c = tt
end_orderly want.Finished seen c = tt

walk_orderly : (n : ℕ) (s : Snapshot) (range : KeyRange) (w : Walking) (c : Bool) → Down w.want n c → (seen : List LeafItem) → IsOrderly c (walk n s range w seen)
unfolding walk
walk_orderly zero s range w c d seen = end_orderly w.want seen c
walk_orderly (suc n) s range w c d seen = at w.want refl d (λ im e g xs. walk_orderly n s range (walked w im) e g xs)
  where
    next : Image → Finding
    next im = collect (look_at s) (walk n s range (walked w im)) seen (items_in range im)

    any : (im : Image) → ((b : Bool) (xs : List LeafItem) → IsOrderly b (walk n s range (walked w im) xs)) → (b : Bool) → IsOrderly b (next im)
    any im h b = collect_orderly (look_at s) (walk n s range (walked w im)) seen (items_in range im) (λ e item. look_orderly MOST_VERSIONS s e item) h b

    none : (im : Image) → items_in range im ≡ [] → IsOrderly true (walk n s range (walked w im) seen) → IsOrderly true (next im)
    none im e h =
        let P : Finding → Type 0 = λ m. IsOrderly true m in
        subst P (sym (ap (collect (look_at s) (walk n s range (walked w im)) seen) e ∙ collect_none (look_at s) (walk n s range (walked w im)) seen)) h

    at : (v : Want) → w.want ≡ v → Down v (suc n) c
        → ((im : Image) (e : Bool) → Down (walked w im).want n e → (xs : List LeafItem) → IsOrderly e (walk n s range (walked w im) xs))
        → IsOrderly c (go_on (fetch_at v (suc n)) next seen)
    at want.Finished e d rec = tt
    at (want.Leaf p) e d rec = λ im.
        any im (λ b xs. rec im b (subst (λ (v : Want). Down (walked_at v im.kind w im).want n b) (sym e) (after_next p im.kind w im n b)) xs) false
    at (want.Need p) e d rec = root_or_child (suc n == MOST_FETCHES) p (suc n) c next refl d (λ im. below im)
      where
        any_down : (v : Want) → Down v n true
        any_down (want.Need q) = inr refl
        any_down (want.Leaf q) = tt
        any_down want.Finished = tt

        below : (im : Image) → IsOrderly true (next im)
        below im = elim (down_or_none p im.kind w im n) [
          | inl nothing ↦ none im (none_taken range im nothing) (rec im true (any_down (walked w im).want) seen)
          | inr other ↦ any im (λ b xs. rec im b (subst (λ (v : Want). Down (walked_at v im.kind w im).want n b) (sym e) (other b)) xs) true
        ]

pub finds_orderly : FindsOrderly
unfolding find
finds_orderly s root range c = walk_orderly MOST_FETCHES s range (start root range.low range.high) c (inl refl) []
