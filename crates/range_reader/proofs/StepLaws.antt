-- A search that is told of a page, as a function.
use Rattle.std.proofs.Common.{◌≡◌, ◌≢◌, ◌<◌, ◌≤◌, ◌+◌, ℕ, zero, suc, true, false, List, [], ◌∷◌, length, slice_get, slice_index_or, Some, None, ◌⊎◌, inl, inr, refl, sym, ◌∙◌, ap, subst, arith, nat_le}
use Rattle.rm_base.specs.declared.limits.TheConstants.{MAX_TREE_LEVEL}
use Rattle.std.specs.declared.cmp.Ordering.{Ordering}
use Rattle.std.specs.declared.cmp.Ordering.TheVariants.{Less, Equal, Greater}
use Rattle.std.proofs.lemmas.Bool.{cases_lt}
use Rattle.page_image.specs.Image.{Image}
use Rattle.page_image.specs.declared.kind.Kind.{Kind}
use Rattle.page_image.specs.declared.kind.Kind.TheVariants as kind
use Rattle.page_view.specs.Inner.{InnerItem, inner_bytes, inner_of}
use Rattle.page_view.specs.Keys.{key_in, keys_of, key_cmp}
use Rattle.page_view.proofs.InnerLaws.{inner_back}
use Rattle.bplus_tree.specs.declared.want.Want.{Want}
use Rattle.bplus_tree.specs.declared.want.Want.TheVariants as want
use Rattle.bplus_tree.specs.Walk.{Walking, Told, Moves, LeadsTo, sought, after_leaf, after_inner, IsToRead, wanted}
use Rattle.range_reader.specs.Walked.{child_from, child_under, child_in, walked, walked_at, down_from}
use Rattle.range_reader.specs.Landing.{lands}

-- where all keys are greater the child stays
stays : (items : List (List ℕ)) (best : ℕ) (key : List ℕ)
    → ((i : ℕ) → i < length (keys_of items) → key_cmp (slice_index_or (keys_of items) i []) key ≡ Greater)
    → child_from best items key ≡ best
unfolding child_from
stays [] best key h = refl
stays (item ∷ items) best key h =
    let first : key_cmp (key_in item) key ≡ Greater = h 0 (omega arith) in
    ap (λ (o : Ordering). child_from (child_under o best (inner_of item).child) items key) first
    ∙ stays items best key (λ i l. h (suc i) (omega (arith, l)))

under : (o : Ordering) (best child : ℕ) → o ≢ Greater → child_under o best child ≡ child
under Less best child h = refl
under Equal best child h = refl
under Greater best child h = absurd (h refl)

last_under : (items : List (List ℕ)) (best : ℕ) (key : List ℕ) (place : ℕ) (item : List ℕ)
    → slice_get items place ≡ Some item → key_cmp (slice_index_or (keys_of items) place []) key ≢ Greater
    → ((i : ℕ) → place < i → i < length (keys_of items) → key_cmp (slice_index_or (keys_of items) i []) key ≡ Greater)
    → child_from best items key ≡ (inner_of item).child
unfolding child_from
last_under [] best key place item e n g = absurd (none e)
  where
    none : None ≡ Some item → ⊥
    none p = cc
last_under (x ∷ items) best key zero item e n g =
    let same : x ≡ item = some e in
    stays items (child_under (key_cmp (key_in x) key) best (inner_of x).child) key (λ i l. g (suc i) (omega arith) (omega (arith, l)))
    ∙ (under (key_cmp (key_in x) key) best (inner_of x).child n ∙ ap (λ (b : List ℕ). (inner_of b).child) same)
  where
    some : Some x ≡ Some item → x ≡ item
    some p = cc
last_under (x ∷ items) best key (suc place) item e n g =
    last_under items (child_under (key_cmp (key_in x) key) best (inner_of x).child) key place item e n
    (λ i l m. g (suc i) (omega (arith, l)) (omega (arith, m)))

pub leads_in : (im : Image) (key : List ℕ) (child : ℕ) → LeadsTo im key child → child ≡ child_in im key
leads_in im key child (place, entry, for, here, is, named) =
    sym (last_under im.items 0 key place (inner_bytes entry) here for.1 (λ i l m. for.2 i (omega (arith, l)) m)
    ∙ (ap (λ (x : InnerItem). x.child) (inner_back entry is) ∙ sym named))

-- ---- steps

deep : (d : ℕ) → (8 ≤ d) ⊎ (d < 8)
deep d = elim (cases_lt d 8) [ inl h ↦ inr h | inr h ↦ inl h ]

le_true : (d : ℕ) → 8 ≤ d → nat_le MAX_TREE_LEVEL d ≡ true
le_true d h = grind (arith, h)

le_false : (d : ℕ) → d < 8 → nat_le MAX_TREE_LEVEL d ≡ false
le_false d h = grind (arith, h)

down : (w : Walking) (im : Image) (new : Walking) → after_inner w im new → new ≡ down_from w im
down w im new h = elim (deep w.depth) [
  | inl l ↦ h.0 l ∙ rw (le_true w.depth l) refl
  | inr l ↦ let moved = h.1 l in
      moved.2 ∙ (ap (λ (c : ℕ). record w { want = want.Need c; depth = w.depth + 1 }) (leads_in im (sought w.low) moved.0 moved.1)
      ∙ rw (le_false w.depth l) refl)
]

not_kind : (im : Image) (k : Kind) → im.kind ≡ k → IsToRead im → k ≢ kind.Leaf → k ≢ kind.Inner → ⊥
not_kind im k e read a b = elim read [ inl leaf ↦ a (sym e ∙ leaf.kind) | inr inner ↦ b (sym e ∙ inner.kind) ]

-- one page, where the search does not land on it
pub one_step : (w : Walking) (im : Image) (mid : Walking) → IsToRead im → wanted w.want ≡ Some im.page → lands w.want im.kind ≡ false → Told w im mid → mid ≡ walked w im
one_step w im mid read named l told = go w.want im.kind refl refl named l told
  where
    go : (v : Want) (k : Kind) → w.want ≡ v → im.kind ≡ k → wanted v ≡ Some im.page → lands v k ≡ false → Moves v k w im mid → mid ≡ walked_at v k w im
    go (want.Need p) kind.Leaf e f n l t = absurd (apart l)
      where
        apart : true ≡ false → ⊥
        apart q = cc
    go (want.Need p) kind.Inner e f n l t = down w im mid t
    go (want.Leaf p) kind.Leaf e f n l t = t
    go (want.Leaf p) kind.Inner e f n l t = t
    go want.Finished k e f n l t = absurd (nothing n)
      where
        nothing : None ≡ Some im.page → ⊥
        nothing q = cc
    go v kind.Unmade e f n l t = absurd (not_kind im kind.Unmade f read (λ q. cc) (λ q. cc))
    go v kind.Meta e f n l t = absurd (not_kind im kind.Meta f read (λ q. cc) (λ q. cc))
    go v kind.Slots e f n l t = absurd (not_kind im kind.Slots f read (λ q. cc) (λ q. cc))
    go v kind.Stamps e f n l t = absurd (not_kind im kind.Stamps f read (λ q. cc) (λ q. cc))
    go v kind.Undo e f n l t = absurd (not_kind im kind.Undo f read (λ q. cc) (λ q. cc))

-- a leaf on the way down is named once more
landed : (w : Walking) (im : Image) (mid : Walking) → lands w.want im.kind ≡ true → Told w im mid
    → (p : ℕ) × (w.want ≡ want.Need p) × (im.kind ≡ kind.Leaf) × (mid ≡ record w { want = want.Leaf p })
landed w im mid l told = go w.want im.kind refl refl l told
  where
    go : (v : Want) (k : Kind) → w.want ≡ v → im.kind ≡ k → lands v k ≡ true → Moves v k w im mid
        → (p : ℕ) × (w.want ≡ want.Need p) × (im.kind ≡ kind.Leaf) × (mid ≡ record w { want = want.Leaf p })
    go (want.Need p) kind.Leaf e f l t = (p, e, f, t)
    go v k e f l t = absurd (apart l)
      where
        apart : false ≡ true → ⊥
        apart q = cc

pub still : (w : Walking) (im : Image) (mid : Walking) → lands w.want im.kind ≡ true → wanted w.want ≡ Some im.page → Told w im mid → wanted mid.want ≡ Some im.page
still w im mid l named told =
    let h = landed w im mid l told in
    ap (λ (v : Walking). wanted v.want) h.3 ∙ (sym (ap wanted h.1) ∙ named)

pub two_steps : (w : Walking) (im : Image) (mid new : Walking) → lands w.want im.kind ≡ true → Told w im mid → Told mid im new → new ≡ walked w im
two_steps w im mid new l first second =
    let h = landed w im mid l first in
    let at : Moves (want.Leaf h.0) kind.Leaf mid im new =
    subst (λ (k : Kind). Moves (want.Leaf h.0) k mid im new) h.2 (subst (λ (v : Want). Moves v im.kind mid im new) (ap (λ (v : Walking). v.want) h.3) second) in
    at ∙ (ap (λ (v : Walking). after_leaf v im) h.3
    ∙ sym (ap (λ (v : Want). walked_at v im.kind w im) h.1 ∙ ap (λ (k : Kind). walked_at (want.Need h.0) k w im) h.2))
