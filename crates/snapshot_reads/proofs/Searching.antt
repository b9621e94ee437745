-- Uses at rising times, with the latches, are a search that is told of images of different times.
use Rattle.std.proofs.Common.{◌≡◌, ◌≤◌, ◌+◌, ◌-◌, ℕ, Bool, true, false, List, [], ◌∷◌, ◌++◌, filter, if◌then◌else◌, Option, Some, None, refl, sym, ap, subst, ◌∙◌, arith, nat_le, ◌⊎◌, inl, inr, le_trans}
use Rattle.rm_base.specs.declared.limits.TheConstants.{MAX_TREE_LEVEL}
use Rattle.std.specs.Prelude.{⊤}
use Rattle.page_image.specs.Image.{Image}
use Rattle.page_image.specs.declared.kind.Kind.{Kind}
use Rattle.page_image.specs.declared.kind.Kind.TheVariants as kind
use Rattle.bplus_tree.specs.declared.want.Want.{Want}
use Rattle.bplus_tree.specs.declared.want.Want.TheVariants as want
use Rattle.bplus_tree.specs.Tree.{is_leaf}
use Rattle.bplus_tree.specs.Walk.{Walking, Told, Moves, sought, after_inner, in_range, IsToRead, IsInnerToRead, wanted}
use Rattle.tree_timeline.specs.Types.{Bound, PagesAt}
use Rattle.tree_timeline.specs.Timeline.{Unchanged}
use Rattle.tree_timeline.specs.Searching.{HoldsTo, HoldsToNext, Searches, above_after, read_by}
use Rattle.tree_timeline.specs.Walks.{Visit}
use Rattle.range_reader.specs.Uses.{LooksEach, Step, Steps, uses_of}
use Rattle.range_reader.specs.Walked.{child_in, down_from, walked, walked_at}
use Rattle.snapshot_reads.specs.Times.{from_on, image_at, Kept, Latched, Rises}
use Rattle.snapshot_reads.proofs.Chains.{Numbered}
use Rattle.snapshot_reads.proofs.Leading.{leads}
use Rattle.snapshot_reads.proofs.Rising.{latched_right, rises_end, rises_right}

down_told : (w : Walking) (im : Image) → IsInnerToRead im → after_inner w im (down_from w im)
down_told w im i = (
  λ deep. ap pick (let x : nat_le MAX_TREE_LEVEL w.depth ≡ true = grind (arith, deep) in x),
  λ low. (
    child_in im (sought w.low),
    leads im (sought w.low) i,
    ap pick (let x : nat_le MAX_TREE_LEVEL w.depth ≡ false = grind (arith, low) in x),
  ),
)
  where
    pick : Bool → Walking
    pick b =
        if b then record w { want = want.Finished }
        else record w { want = want.Need (child_in im (sought w.low)); depth = w.depth + 1 }

-- a use by the time that has passed since the search began
abbrev pub rel : ℕ → Visit → Visit
rel from v = record { time = v.time - from; page = v.page }

-- the leaves of the range among the pages that were used
abbrev pub Matches : PagesAt → ℕ → List Visit → List (Step Visit) → Type 0
Matches at from reads [] = reads ≡ []
Matches at from reads (p ∷ steps) =
    ((is_leaf (image_at at p.use_of).kind ≡ false) × Matches at from reads steps)
    ⊎ ((rest : List Visit) × (reads ≡ rel from p.use_of ∷ rest) × Matches at from rest steps)

abbrev Heads : ℕ → List Visit → List (Step Visit) → Type 0
Heads from [] steps = ⊤
Heads from (v ∷ vs) [] = ⊥
Heads from (v ∷ vs) (p ∷ steps) = v ≡ rel from p.use_of

pub record Ran (at : PagesAt) (from : ℕ) (w : Walking) (t : ℕ) (steps : List (Step Visit))
    : Type 0 where
  pub visits : List Visit
  pub reads : List Visit
  pub searches : Searches (from_on at from) from w t visits reads
  pub heads : Heads from visits steps
  pub matches : Matches at from reads steps

module _ (at : PagesAt) (base end n : ℕ) (own : Option ℕ) (numbered : Numbered at base end)
    (from : ℕ) (low_from : base ≤ from) (low high : Bound)
  where
    back : (t : ℕ) → from ≤ t → from + (t - from) ≡ t
    back t l = omega (arith, l)

    same_image : (v : Visit) → from ≤ v.time
        → from_on at from (v.time - from) v.page ≡ at v.time v.page
    same_image v l = ap (λ t. at t v.page) (back v.time l)

    -- a page that stays, from the first time on
    unchanged : (v u : Visit) → from ≤ v.time → from ≤ u.time → Unchanged at v.page v.time u.time
        → Unchanged (from_on at from) v.page (v.time - from) (u.time - from)
    unchanged v u l m h x a b =
        h (from + x) (omega (arith, a, l)) (omega (arith, b, m)) ∙ sym (same_image v l)

    same_time : (q t : ℕ) → Unchanged (from_on at from) q t t
    same_time q t x a b = ap (λ y. from_on at from y q) (let e : x ≡ t = omega (arith, a, b) in e)

    pub ran : (steps : List (Step Visit)) (w : Walking) (t : ℕ)
        → Steps (image_at at) n own low high w steps
        → Rises end (from + t) (uses_of steps) → Latched at (uses_of steps) → Ran at from w t steps
    ran [] w t goes rise latched = record {
      visits = [];
      reads = [];
      searches = (goes, refl);
      heads = tt;
      matches = refl;
    }
    ran (p ∷ rest) w t (wants, reads, looks, goes) rise latched =
        let v : Visit = p.use_of in
        let lo : from ≤ v.time = let r = rise.0 in omega (arith, r) in
        let hi : v.time ≤ end = rises_end end v.time (p.asides ++ uses_of rest) rise.1 in
        let more : Rises end v.time (uses_of rest) =
        rises_right end v.time p.asides (uses_of rest) rise.1 in
        let ih = ran rest (walked w (image_at at v)) (v.time - from) goes
        (subst (λ x. Rises end x (uses_of rest)) (sym (back v.time lo)) more)
        (latched_right at (v ∷ p.asides) (uses_of rest) latched) in
        by_want w.want refl reads lo (numbered v.time v.page (le_trans low_from lo) hi)
        (let r = rise.0 in omega (arith, r, lo)) ih
      where
        im : Image
        im = image_at at p.use_of

        r : Visit
        r = rel from p.use_of

        named : im.page ≡ p.use_of.page → wanted w.want ≡ Some p.use_of.page
        named nu = wants ∙ ap Some nu

        named_by : im.page ≡ p.use_of.page → (v : Want) → w.want ≡ v → wanted v ≡ Some p.use_of.page
        named_by nu v e = ap wanted (sym e) ∙ named nu

        told : (a : Walking) (k : Kind) (b : Walking) → from ≤ p.use_of.time → im.kind ≡ k
            → (v : Want) → a.want ≡ v → Moves v k a im b → Told a (from_on at from r.time r.page) b
        told a k b lo e v f m =
            subst (λ i. Told a i b) (sym (same_image p.use_of lo))
            (subst (λ x. Moves a.want x a im b) (sym e)
            (subst (λ x. Moves x k a im b) (sym f) m))

        -- where the next page of the tree is read
        holds : from ≤ p.use_of.time → im.kind ≡ kind.Inner → (visits : List Visit)
            → Heads from visits rest → HoldsToNext (from_on at from) from (Some r) visits
        holds lo e [] h = tt
        holds lo e (u ∷ us) h = at_next rest h p.asides none rise latched
          where
            none : p.asides ≡ []
            none = first (is_leaf im.kind) (ap is_leaf e) looks
              where
                first : (b : Bool) → b ≡ false
                    → LooksEach (image_at at) n own
                    (if b then filter (in_range low high) im.items else [])
                    p.asides p.found → p.asides ≡ []
                first true f l = absurd (let x : true ≡ false = f in cc)
                first false f l = l.0

            at_next : (steps : List (Step Visit)) → Heads from (u ∷ us) steps
                → (asides : List Visit) → asides ≡ []
                → Rises end (from + t) (p.use_of ∷ (asides ++ uses_of steps))
                → Latched at (p.use_of ∷ (asides ++ uses_of steps))
                → HoldsTo (from_on at from) from (Some r) u
            at_next [] h asides e rise latched = absurd h
            at_next (q ∷ steps) h (a ∷ others) e2 rise latched =
                absurd (let x : a ∷ others ≡ [] = e2 in cc)
            at_next (q ∷ steps) h [] e2 rise latched = kept (latched.0 e)
              where
                lo3 : from ≤ q.use_of.time
                lo3 = le_trans lo rise.1.0

                kept : Kept at p.use_of q.use_of → HoldsTo (from_on at from) from (Some r) u
                kept (inl c) =
                    inl (subst (λ x. Unchanged (from_on at from) r.page r.time x)
                    (sym (ap (λ x. x.time) h)) (unchanged p.use_of q.use_of lo lo3 c))
                kept (inr c) =
                    inr (subst (λ (x : Visit).
                    (from_on at from x.time x.page).structure ≤ from + r.time)
                    (sym h)
                    (subst (λ (i : Image). i.structure ≤ from + r.time)
                    (sym (same_image q.use_of lo3))
                    (subst (λ x. (at q.use_of.time q.use_of.page).structure ≤ x)
                    (sym (back p.use_of.time lo)) c)))

        goes_to : (k : Kind) (v : Want) → im.kind ≡ k → w.want ≡ v
            → walked w im ≡ walked_at v k w im
        goes_to k v f e = ap (λ x. walked_at x im.kind w im) e ∙ ap (λ x. walked_at v x w im) f

        by_want : (v : Want) → w.want ≡ v → IsToRead im → from ≤ p.use_of.time
            → im.page ≡ p.use_of.page → t ≤ r.time → Ran at from (walked w im) r.time rest
            → Ran at from w t (p ∷ rest)
        by_want (want.Need q) e (inr inner) lo nu le ih = record {
          visits = r ∷ ih.visits;
          reads = ih.reads;
          searches = (
            walked w im,
            ih.reads,
            named nu,
            le,
            told w kind.Inner (walked w im) lo inner.kind (want.Need q) e
                (subst (λ x. after_inner w im x)
                (sym (goes_to kind.Inner (want.Need q) inner.kind e))
                (down_told w im inner)),
            subst (λ x. HoldsToNext (from_on at from) from (above_after x r) ih.visits) (sym e)
                (holds lo inner.kind ih.visits ih.heads),
            subst (λ x. ih.reads ≡ read_by x r ++ ih.reads) (sym e) refl,
            ih.searches,
          );
          heads = refl;
          matches = inl (ap is_leaf inner.kind, ih.matches);
        }
        by_want (want.Need q) e (inl leaf) lo nu le ih =
            let mid : Walking = record w { want = want.Leaf q } in
            record {
              visits = r ∷ (r ∷ ih.visits);
              reads = r ∷ ih.reads;
              searches = (
                mid,
                r ∷ ih.reads,
                named nu,
                le,
                told w kind.Leaf mid lo leaf.kind (want.Need q) e refl,
                subst (λ x. HoldsToNext (from_on at from) from (above_after x r) (r ∷ ih.visits))
                    (sym e) (inl (same_time r.page r.time)),
                subst (λ x. r ∷ ih.reads ≡ read_by x r ++ (r ∷ ih.reads)) (sym e) refl,
                (
                  walked w im,
                  ih.reads,
                  named_by nu (want.Need q) e,
                  omega arith,
                  told mid kind.Leaf (walked w im) lo leaf.kind (want.Leaf q) refl
                      (goes_to kind.Leaf (want.Need q) leaf.kind e),
                  nothing ih.visits,
                  refl,
                  ih.searches,
                ),
              );
              heads = refl;
              matches = inr (ih.reads, refl, ih.matches);
            }
          where
            nothing : (vs : List Visit) → HoldsToNext (from_on at from) from None vs
            nothing [] = tt
            nothing (v ∷ vs) = tt
        by_want (want.Leaf q) e read lo nu le ih = record {
          visits = r ∷ ih.visits;
          reads = r ∷ ih.reads;
          searches = (
            walked w im,
            ih.reads,
            named nu,
            le,
            by_kind read,
            subst (λ x. HoldsToNext (from_on at from) from (above_after x r) ih.visits) (sym e)
                (nothing ih.visits),
            subst (λ x. r ∷ ih.reads ≡ read_by x r ++ ih.reads) (sym e) refl,
            ih.searches,
          );
          heads = refl;
          matches = inr (ih.reads, refl, ih.matches);
        }
          where
            nothing : (vs : List Visit) → HoldsToNext (from_on at from) from None vs
            nothing [] = tt
            nothing (v ∷ vs) = tt

            by_kind : IsToRead im → Told w (from_on at from r.time r.page) (walked w im)
            by_kind (inl leaf) =
                told w kind.Leaf (walked w im) lo leaf.kind (want.Leaf q) e
                (goes_to kind.Leaf (want.Leaf q) leaf.kind e)
            by_kind (inr inner) =
                told w kind.Inner (walked w im) lo inner.kind (want.Leaf q) e
                (goes_to kind.Inner (want.Leaf q) inner.kind e)
        by_want want.Finished e read lo nu le ih =
            absurd (let x : None ≡ Some p.use_of.page = named_by nu want.Finished e in cc)
