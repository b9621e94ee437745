-- A search over pages of different times tells what was seen of each key at one time.
use Rattle.std.proofs.Common.{◌≡◌, ◌≤◌, ◌+◌, ◌-◌, ℕ, Bool, true, false, List, [], ◌∷◌, ◌++◌, filter, if◌then◌else◌, Option, refl, sym, ap, subst, ◌∙◌, arith, append_assoc, inl, inr, le_trans}
use Rattle.std.specs.List.{AllByRecursion}
use Rattle.std.proofs.lemmas.List.Elements.{filter-append}
use Rattle.page_image.specs.Image.{Image}
use Rattle.page_view.specs.declared.leaf.LeafItem.{LeafItem}
use Rattle.page_view.specs.Leaf.{leaf_of}
use Rattle.page_view.specs.Keys.{key_in}
use Rattle.bplus_tree.specs.Tree.{is_leaf}
use Rattle.bplus_tree.specs.Walk.{Walking, start, in_range}
use Rattle.bplus_tree.proofs.Order.{Sorted, sorted_from, all_left, all_right}
use Rattle.tree_timeline.specs.Found.{FindsEach, ReadAt, SearchFinds, of_key}
use Rattle.tree_timeline.specs.Timeline.{Timeline}
use Rattle.tree_timeline.specs.Types.{Bound, Items, PagesAt}
use Rattle.tree_timeline.specs.Walks.{Visit, items_read, last_of}
use Rattle.tree_timeline.proofs.WholeSearch.{search_finds}
use Rattle.version_store.specs.Stores.{Store}
use Rattle.held_versions.specs.Keeping.{KeepsUndo}
use Rattle.held_versions.specs.Versions.{Versions, VersionsAt}
use Rattle.range_reader.specs.Uses.{FoundBy, LooksEach, Step, Steps, found_of, live, uses_of}
use Rattle.range_reader.specs.Walked.{taken, walked}
use Rattle.snapshot_reads.specs.Times.{from_on, image_at, Latched, Rises}
use Rattle.snapshot_reads.specs.Pasts.{StampsLater}
use Rattle.snapshot_reads.specs.Told.{Saying, TellsEach, TellsRange, VersionsBy}
use Rattle.snapshot_reads.proofs.Chains.{Numbered, StampsOf, reads_chain}
use Rattle.snapshot_reads.proofs.Rising.{rises_end, rises_left, rises_right}
use Rattle.snapshot_reads.proofs.Searching.{Matches, Ran, ran, rel}
use Rattle.snapshot_reads.proofs.Sorting.{all_both, all_filter, filter_all, only_one}
use Rattle.snapshot_reads.proofs.Ranges.{range_of}

tells_append : (Says : Saying) (versions : VersionsBy) (S : ℕ → Store) (n : ℕ) (own : Option ℕ)
    (from end : ℕ) (xs ys : Items) (f g : List LeafItem)
    → TellsEach Says versions S n own from end xs f → TellsEach Says versions S n own from end ys g
    → TellsEach Says versions S n own from end (xs ++ ys) (f ++ g)
tells_append Says versions S n own from end [] ys f g a b =
    subst (λ h. TellsEach Says versions S n own from end ys (h ++ g)) (sym a) b
tells_append Says versions S n own from end (x ∷ xs) ys f g (
  r,
  more,
  j,
  lo,
  hi,
  tells,
  rest,
  is,
) b = (
  r,
  more ++ g,
  j,
  lo,
  hi,
  tells,
  tells_append Says versions S n own from end xs ys more g rest b,
  ap (λ h. h ++ g) is ∙ append_assoc (live r) more g,
)

-- ---- a search

module _ (at : PagesAt) (S : ℕ → Store) (base end n : ℕ) (own : Option ℕ)
    (later : (i j t : ℕ) → base ≤ i → i ≤ j → j ≤ end → StampsLater (S i) (S j) t)
    (stamps : StampsOf at S base end) (numbered : Numbered at base end)
    (keeps : (i j : ℕ) → base ≤ i → i ≤ j → j ≤ end → KeepsUndo (at i) (at j))
    (Says : Saying) (versions : VersionsBy) (from : ℕ) (low_from : base ≤ from)
    (past : (j : ℕ) → from ≤ j → j ≤ end → n ≤ (S j).last) (low high : Bound)
  where
    abbrev Telling : Items → List LeafItem → Type 0
    Telling xs found = TellsEach Says versions S n own from end xs found

    looks_each : (j t : ℕ) → from ≤ j → j ≤ end → j ≤ t → (xs : Items) (us : List Visit)
        (found : List LeafItem) → Rises end t us
        → AllByRecursion (λ x. Versions Says (at j) (leaf_of x) (versions j (key_in x))) xs
        → LooksEach (image_at at) n own xs us found → Telling xs found
    looks_each j t lo hi le [] us found rise held looks = looks.1
    looks_each j t lo hi le (x ∷ xs) us found rise held
        (here, rest, r, more, parts, look, others, is) =
        let all : Rises end t (here ++ rest) = subst (λ vs. Rises end t vs) parts rise in (
          r,
          more,
          j,
          lo,
          hi,
          reads_chain at S base end n own later stamps numbered keeps Says j (le_trans low_from lo)
              (past j lo hi) here t (leaf_of x) (versions j (key_in x)) r le
              (rises_left end t here rest all) held.0 look,
          looks_each j t lo hi le xs rest more (rises_right end t here rest all) held.1 others,
          is,
        )

    leaf_taken : (im : Image) → is_leaf im.kind ≡ true
        → taken low high im ≡ filter (in_range low high) im.items
    leaf_taken im e = ap (λ b. if b then filter (in_range low high) im.items else []) e

    no_leaf : (im : Image) (us : List Visit) (found : List LeafItem) → is_leaf im.kind ≡ false
        → LooksEach (image_at at) n own (taken low high im) us found → found ≡ []
    no_leaf im us found e looks = by_test (is_leaf im.kind) e looks
      where
        by_test : (b : Bool) → b ≡ false
            → LooksEach (image_at at) n own
            (if b then filter (in_range low high) im.items else []) us found
            → found ≡ []
        by_test true f l = absurd (let x : true ≡ false = f in cc)
        by_test false f l = l.1

    module _ (root : ℕ) (items : ℕ → ℕ → Items) (when : List ℕ → ℕ)
        (held : (j : ℕ) → from ≤ j → j ≤ end → (k : List ℕ)
        → VersionsAt Says (at j) (of_key k (items j root)) (versions j k))
      where
        -- at its time an item was the only one with its key
        abbrev Alone : List ℕ → Type 0
        Alone x = of_key (key_in x) (items (from + when (key_in x)) root) ≡ x ∷ []

        abbrev AreAlone : List Visit → Type 0
        AreAlone reads =
            AllByRecursion Alone (filter (in_range low high) (items_read (from_on at from) reads))

        steps_told : (steps : List (Step Visit)) (reads : List Visit) (w : Walking) (t : ℕ)
            → from ≤ t
            → Matches at from reads steps → ReadAt (from_on at from) when reads → AreAlone reads
            → Steps (image_at at) n own low high w steps → Rises end t (uses_of steps)
            → Telling (filter (in_range low high) (items_read (from_on at from) reads))
            (found_of steps)
        steps_told [] reads w t lo m ra th goes rise =
            subst (λ vs. Telling (filter (in_range low high) (items_read (from_on at from) vs)) [])
            (sym m)
            refl
        steps_told (p ∷ rest) reads w t lo (inl (not_leaf, m)) ra th (
          wants,
          read,
          looks,
          goes,
        ) rise =
            let none : p.found ≡ [] =
            no_leaf (image_at at p.use_of) p.asides p.found not_leaf looks in
            subst
            (λ f. Telling (filter (in_range low high) (items_read (from_on at from) reads))
            (f ++ found_of rest)) (sym none)
            (steps_told rest reads (walked w (image_at at p.use_of)) p.use_of.time
            (le_trans lo rise.0) m ra
            th goes (rises_right end p.use_of.time p.asides (uses_of rest) rise.1))
        steps_told (p ∷ rest) reads w t lo (inr (more, are, m)) ra th (
          wants,
          read,
          looks,
          goes,
        ) rise =
            let lo2 : from ≤ p.use_of.time = le_trans lo rise.0 in
            let ra2 : ReadAt (from_on at from) when (rel from p.use_of ∷ more) =
            subst (λ vs. ReadAt (from_on at from) when vs) are ra in
            let th2 : AreAlone (rel from p.use_of ∷ more) = subst (λ vs. AreAlone vs) are th in
            subst
            (λ vs. Telling (filter (in_range low high) (items_read (from_on at from) vs))
            (p.found ++ found_of rest)) (sym are)
            (both lo2 ra2 th2
            (λ th3. steps_told rest more
            (walked w (image_at at p.use_of)) p.use_of.time lo2 m ra2.1 th3 goes
            (rises_right end p.use_of.time p.asides (uses_of rest) rise.1)))
          where
            im : Image
            im = image_at at p.use_of

            both : from ≤ p.use_of.time → ReadAt (from_on at from) when (rel from p.use_of ∷ more)
                → AreAlone (rel from p.use_of ∷ more)
                → (AreAlone more → Telling
                (filter (in_range low high) (items_read (from_on at from) more))
                (found_of rest))
                → Telling
                (filter (in_range low high)
                (items_read (from_on at from) (rel from p.use_of ∷ more)))
                (p.found ++ found_of rest)
            both lo2 ra2 th2 rec =
                let back : from + (p.use_of.time - from) ≡ p.use_of.time = omega (arith, lo2) in
                let same : from_on at from (p.use_of.time - from) p.use_of.page ≡ im =
                ap (λ x. at x p.use_of.page) back in
                let all : Items = (from_on at from (p.use_of.time - from) p.use_of.page).items in
                let others : Items = items_read (from_on at from) more in
                let parts : filter (in_range low high) (all ++ others)
                ≡ filter (in_range low high) all ++ filter (in_range low high) others =
                filter-append (in_range low high) all others in
                let th4 : AllByRecursion Alone
                (filter (in_range low high) all ++ filter (in_range low high) others) =
                subst (λ zs. AllByRecursion Alone zs) parts th2 in
                let ones = all_left Alone (filter (in_range low high) all)
                (filter (in_range low high) others) th4 in
                let times = all_filter (λ x. when (key_in x) ≡ p.use_of.time - from)
                (in_range low high) all
                ra2.0.1 in
                let hi : p.use_of.time ≤ end =
                rises_end end p.use_of.time p.asides
                (rises_left end p.use_of.time p.asides (uses_of rest) rise.1) in
                let there : AllByRecursion
                (λ x. Versions Says (at p.use_of.time) (leaf_of x)
                (versions p.use_of.time (key_in x)))
                (filter (in_range low high) all) =
                all_both (λ x. when (key_in x) ≡ p.use_of.time - from) Alone
                (λ x. Versions Says (at p.use_of.time) (leaf_of x)
                (versions p.use_of.time (key_in x)))
                (filter (in_range low high) all)
                (λ x e o. subst
                (λ zs. VersionsAt Says (at p.use_of.time) zs (versions p.use_of.time (key_in x)))
                (ap (λ y. of_key (key_in x) (items y root)) (sym back ∙ ap (λ y. from + y) (sym e))
                ∙ o)
                (held p.use_of.time lo2 hi (key_in x)))
                times ones in
                let leaf : is_leaf im.kind ≡ true =
                ap (λ i. is_leaf (Image.kind i)) (sym same) ∙ ra2.0.0 in
                let took : taken low high im ≡ filter (in_range low high) all =
                leaf_taken im leaf ∙ ap (λ i. filter (in_range low high) (Image.items i))
                (sym same) in
                let first : Telling (filter (in_range low high) all) p.found =
                looks_each p.use_of.time p.use_of.time lo2 hi (omega arith)
                (filter (in_range low high) all) p.asides p.found
                (rises_left end p.use_of.time p.asides (uses_of rest) rise.1) there
                (subst (λ zs. LooksEach (image_at at) n own zs p.asides p.found) took looks) in
                subst (λ zs. Telling zs (p.found ++ found_of rest)) (sym parts)
                (tells_append Says versions S n own from end (filter (in_range low high) all)
                (filter (in_range low high) others) p.found (found_of rest) first
                (rec (all_right Alone (filter (in_range low high) all)
                (filter (in_range low high) others) th4)))

    -- the leaves are read before the end
    in_time : (steps : List (Step Visit)) (reads : List Visit) (t : ℕ) → from ≤ t
        → Matches at from reads steps → Rises end t (uses_of steps)
        → AllByRecursion (λ (v : Visit). from + v.time ≤ end) reads
    in_time [] reads t lo m rise =
        subst (λ vs. AllByRecursion (λ (v : Visit). from + v.time ≤ end) vs) (sym m) tt
    in_time (p ∷ rest) reads t lo (inl (nl, m)) rise =
        in_time rest reads p.use_of.time (le_trans lo rise.0) m
        (rises_right end p.use_of.time p.asides (uses_of rest) rise.1)
    in_time (p ∷ rest) reads t lo (inr (more, are, m)) rise =
        let lo2 : from ≤ p.use_of.time = le_trans lo rise.0 in
        let hi : p.use_of.time ≤ end =
        rises_end end p.use_of.time p.asides
        (rises_left end p.use_of.time p.asides (uses_of rest) rise.1) in
        subst (λ vs. AllByRecursion (λ (v : Visit). from + v.time ≤ end) vs) (sym are) (
          (let x : from + (p.use_of.time - from) ≤ end = omega (arith, lo2, hi) in x),
          in_time rest more p.use_of.time lo2 m
              (rises_right end p.use_of.time p.asides (uses_of rest) rise.1),
        )

    last_in : (P : Visit → Type 0) (v : Visit) (rest : List Visit) → P v → AllByRecursion P rest
        → P (last_of v rest)
    last_in P v [] a b = a
    last_in P v (w ∷ rest) a b = last_in P w rest b.0 b.1

    pub tells_range : (root : ℕ) (items : ℕ → ℕ → Items) → root ≤ 32767
        → Timeline (from_on at from) root from (λ t. items (from + t) root)
        → ((j : ℕ) → from ≤ j → j ≤ end → (k : List ℕ)
        → VersionsAt Says (at j) (of_key k (items j root)) (versions j k))
        → (us : List Visit) (found : List LeafItem)
        → FoundBy (image_at at) n own root low high us found → Rises end from us → Latched at us
        → TellsRange Says versions S n own from end low high found
    tells_range root items small tl held us found f rise latched =
        let rise2 : Rises end from (uses_of f.steps) =
        subst (λ vs. Rises end from vs) f.used rise in
        let rise3 : Rises end (from + 0) (uses_of f.steps) =
        subst (λ x. Rises end x (uses_of f.steps)) (let e : from ≡ from + 0 = omega arith in e)
        rise2 in
        let r : Ran at from (start root low high) 0 f.steps =
        ran at base end n own numbered from low_from low high f.steps
        (start root low high) 0 f.goes
        rise3 (subst (λ vs. Latched at vs) f.used latched) in
        let s : SearchFinds (from_on at from) r.reads (λ t. items (from + t) root) low high 0 =
        search_finds (from_on at from) root from (λ t. items (from + t) root) tl small low high 0
        r.visits r.reads r.searches in
        let fe : FindsEach (from_on at from) r.reads (λ t. items (from + t) root) low high 0
        (last_of s.first s.rest).time = s.finds in
        let xs : Items = filter (in_range low high) (items_read (from_on at from) r.reads) in
        let sorted : Sorted xs = sorted_from xs fe.ascend in
        let inside : AllByRecursion (λ x. in_range low high x ≡ true) xs =
        filter_all (in_range low high) (items_read (from_on at from) r.reads) in
        let alone = all_both (λ x. in_range low high x ≡ true) (λ x. of_key (key_in x) xs ≡ x ∷ [])
        (λ x. of_key (key_in x) (items (from + fe.when (key_in x)) root) ≡ x ∷ []) xs
        (λ x i o. sym (fe.each (key_in x) (range_of low high x i)) ∙ o) inside
        (only_one xs sorted) in
        let timely = in_time f.steps r.reads from (omega arith) r.matches rise2 in
        let last : from + (last_of s.first s.rest).time ≤ end =
        (let tm = subst (λ vs. AllByRecursion (λ (v : Visit). from + v.time ≤ end) vs) s.reads_are
        timely in last_in (λ v. from + v.time ≤ end) s.first s.rest tm.0 tm.1) in
        record {
          items = xs;
          ascend = fe.ascend;
          inside = inside;
          each = subst (λ g. Telling xs g) (sym f.seen)
              (steps_told root items fe.when held f.steps r.reads (start root low high) from
              (omega arith) r.matches fe.there alone f.goes rise2);
          absent = λ k i e.
              let hi : from + fe.when k ≤ end = (let u = fe.until k in omega (arith, u, last)) in
              let lo : from ≤ from + fe.when k = omega arith in (
                from + fe.when k,
                lo,
                hi,
                subst (λ zs. VersionsAt Says (at (from + fe.when k)) zs
                    (versions (from + fe.when k) k))
                    (sym (fe.each k i) ∙ e) (held (from + fe.when k) lo hi k),
              );
        }
