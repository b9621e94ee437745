-- A search goes on from leaf to leaf, and ends only where its range does.
use Rattle.std.proofs.Common.{◌≡◌, ◌≢◌, ◌≤◌, ◌<◌, ◌+◌, ℕ, zero, suc, Bool, true, false, eqb, List, [], ◌∷◌, Some, None, refl, sym, ap, subst, ◌∙◌, arith, inl, inr, length, ◌||◌}
use Rattle.std.specs.Prelude.{◌⊎◌, nat_eq, if◌then◌else◌, ◌==◌, nat_le}
use Rattle.std.specs.List.{AllByRecursion, IsDistinct}
use Rattle.std.specs.declared.cmp.Ordering.TheVariants.{Less, Greater}
use Rattle.std.proofs.lemmas.Bool.{eqb-true, ne_eqb, lt-leb}
use Rattle.std.proofs.lemmas.Map.Keys.{IsDistinct-cons}
use Rattle.std.proofs.lemmas.Map.Steps.{length-le_from_distinct_below}
use Rattle.std.proofs.lemmas.Option.{same_Some}
use Rattle.page_image.specs.declared.kind.Kind.{Kind}
use Rattle.page_view.specs.Keys.{key_cmp}
use Rattle.bplus_tree.proofs.Order.{turned, less_less, all_map}
use Rattle.bplus_tree.specs.Tree.{Beyond, Tree}
use Rattle.bplus_tree.specs.Walk.{reaches, one_key, Walking, wanted, Moves, Told, is_last}
use Rattle.bplus_tree.specs.declared.want.TheConstants.{MOST_STEPS}
use Rattle.bplus_tree.specs.declared.want.Want.TheVariants.{Leaf, Finished}
use Rattle.tree_timeline.specs.Ranges.{height, Covers}
use Rattle.tree_timeline.specs.Searching.{Searches}
use Rattle.tree_timeline.specs.Timeline.{Timeline}
use Rattle.tree_timeline.specs.Types.{Key, Bound, Items, PagesAt, ItemsAt}
use Rattle.tree_timeline.specs.Walks.{Visit, Follows, Ends}
use Rattle.tree_timeline.proofs.Bounded.{same_range, page_bound, among_all}
use Rattle.tree_timeline.proofs.ComingDown.{leaf_kind, walking}
use Rattle.tree_timeline.proofs.Heights.{Tall, tall_height, true_false}
use Rattle.tree_timeline.proofs.Members.{covers_member, covers_root}
use Rattle.tree_timeline.proofs.Neighbours.{Neighbour, neighbour}
use Rattle.tree_timeline.proofs.Passing.{stays_there}

-- a leaf that was read before: it stands to the left
pub record Seen (at : PagesAt) (root t : ℕ) (low : Bound) (q : ℕ) : Type 0 where
  pub bound : q ≤ 32767
  pub below_root : q ≢ root
  pub own : Bound
  pub end : Bound
  pub covers : Covers (at t) root 0 q own end
  pub key : Key
  pub low_is : low ≡ Some key
  pub beyond : Beyond own key

apart_seen : (at : PagesAt) (root : ℕ) (t : ℕ) (items : Items) (tree : Tree (at t) root items)
    (q : ℕ) (low high : Bound)
    → Covers (at t) root 0 q low high → (x : ℕ) → Seen at root t low x → q ≢ x
apart_seen at root t items tree q low high c x s e =
    let same : s.own ≡ low =
    (same_range (at t) root items tree 0 q s.own s.end low high
    (subst (λ (y : ℕ). Covers (at t) root 0 y s.own s.end) (sym e) s.covers) c).0 in
    let less : key_cmp s.key s.key ≡ Less =
    subst (λ (o : Bound). Beyond o s.key) (same ∙ s.low_is) s.beyond in
    let x : Less ≡ Greater = sym less ∙ turned s.key s.key less in
    cc

-- how the search goes on from a leaf of the range
pub record Trail (at : PagesAt) (low high : Bound) (v : Visit) (reads : List Visit) : Type 0 where
  pub more : List Visit
  pub are : reads ≡ v ∷ more
  pub follows : Follows at v more
  pub ends : Ends at low high v more

-- which of the tests hold
tests : (a b c d : Bool) → (a || (b || (c || d))) ≡ true → a ≡ false → d ≡ false
    → (b ≡ true) ⊎ (c ≡ true)
tests true b c d e f g = absurd (true_false true refl f)
tests false true c d e f g = inl refl
tests false false true d e f g = inr refl
tests false false false d e f g = absurd (true_false d e g)

goes_by : (a b c d : Bool) → (a || (b || (c || d))) ≡ false → (a ≡ false) × (c ≡ false)
goes_by true b c d e = absurd (let h : true ≡ false = e in cc)
goes_by false true c d e = absurd (let h : true ≡ false = e in cc)
goes_by false false true d e = absurd (let h : true ≡ false = e in cc)
goes_by false false false d e = (refl, refl)

few_seen : (at : PagesAt) (root t : ℕ) (low : Bound) (q : ℕ) (seen : List ℕ) → q ≤ 32767
    → AllByRecursion (Seen at root t low) seen
    → ((x : ℕ) → Seen at root t low x → q ≢ x) → IsDistinct nat_eq seen → length (q ∷ seen) ≤ 32768
few_seen at root t low q seen bound all apart d =
    let nums : AllByRecursion (λ n. n ≤ 32767) seen =
    all_map (Seen at root t low) _ seen (λ x s. s.bound) all in
    let d' : IsDistinct nat_eq (q ∷ seen) =
    IsDistinct-cons eqb q seen
    (all_map (Seen at root t low) _ seen (λ x s. ne_eqb q x (apart x s)) all) d in
    length-le_from_distinct_below (q ∷ seen) 32768 d'
    (λ p e. among_all p (q ∷ seen) (bound, nums) e)

not_zero : (n : ℕ) → (n == 0) ≡ false → 0 < n
not_zero zero e = absurd (let h : true ≡ false = e in cc)
not_zero (suc n) e = omega arith

-- what a leaf with a neighbour has
record Onward (at : PagesAt) (root t q next : ℕ) (seen : List ℕ) (low high : Bound) : Type 0 where
  pub near : Neighbour (at t) root next low high
  pub distinct : IsDistinct nat_eq (q ∷ seen)
  pub all : AllByRecursion (Seen at root t high) (q ∷ seen)
  pub few : nat_le MOST_STEPS (length seen) ≡ false

onward : (at : PagesAt) (root t : ℕ) (items : Items) (tree : Tree (at t) root items) (q : ℕ)
    (low high : Bound) (seen : List ℕ) → root ≤ 32767
    → Covers (at t) root 0 q low high → IsDistinct nat_eq seen
    → AllByRecursion (Seen at root t low) seen → 0 < (at t q).next
    → Onward at root t q (at t q).next seen low high
onward at root t items tree q low high seen small c distinct all some =
    let n = neighbour (at t) root items tree q (at t q).next low high c refl some in
    let m = covers_member (at t) root items tree 0 q low high c in
    let o = covers_member (at t) root items tree 0 (at t q).next high n.end n.covers in
    let distinct' : IsDistinct nat_eq (q ∷ seen) =
    IsDistinct-cons eqb q seen
    (all_map (Seen at root t low) _ seen
    (λ x s. ne_eqb q x (apart_seen at root t items tree q low high c x s)) all) distinct in
    let own : Seen at root t high q = record {
      bound = page_bound (at t) root items tree q small m.0;
      below_root = λ e. leaf_root e n;
      own = low;
      end = high;
      covers = c;
      key = n.key;
      low_is = n.high_is;
      beyond = n.beyond;
    } in
    let all' : AllByRecursion (Seen at root t high) (q ∷ seen) =
    (own, all_map (Seen at root t low) (Seen at root t high) seen (λ x s. further x s n) all) in
    let few =
    few_seen at root t high (at t q).next (q ∷ seen)
    (page_bound (at t) root items tree (at t q).next small o.0) all'
    (λ x s. apart_seen at root t items tree (at t q).next high n.end n.covers x s) distinct' in
    record {
      near = n;
      distinct = distinct';
      all = all';
      few = lt-leb_false (length seen) (omega (arith, few));
    }
  where
    lt-leb_false : (n : ℕ) → n < 32767 → nat_le MOST_STEPS n ≡ false
    lt-leb_false n h = lt-leb 32767 n h

    -- the root has the whole range
    leaf_root : q ≡ root → Neighbour (at t) root (at t q).next low high → ⊥
    leaf_root e n = whole (same_range (at t) root items tree 0 q low high None None c own).1 n
      where
        flat : height (at t root) ≡ 0
        flat =
            tall_height (at t) 0 root
            (subst (Tall (at t) 0) e (covers_member (at t) root items tree 0 q low high c).1)

        own : Covers (at t) root 0 q None None
        own =
            subst (λ (k : ℕ). Covers (at t) root k q None None) flat
            (subst (λ (y : ℕ). Covers (at t) root (height (at t root)) y None None) (sym e)
            (covers_root (at t) root))

        whole : high ≡ None → Neighbour (at t) root (at t q).next low high → ⊥
        whole e n = let h : None ≡ Some n.key = sym e ∙ n.high_is in cc

    further : (x : ℕ) → Seen at root t low x → Neighbour (at t) root (at t q).next low high
        → Seen at root t high x
    further x s n = record {
      bound = s.bound;
      below_root = s.below_root;
      own = s.own;
      end = s.end;
      covers = s.covers;
      key = n.key;
      low_is = n.high_is;
      beyond =
          beyond_less s.own s.key n.key s.beyond
          (subst (λ (o : Bound). Beyond o n.key) s.low_is n.beyond);
    }
      where
        beyond_less : (o : Bound) (a b : Key) → Beyond o a → key_cmp a b ≡ Less → Beyond o b
        beyond_less None a b x y = tt
        beyond_less (Some k) a b x y = less_less k a b x y

abbrev after_last : Bool → Walking → ℕ → Walking
after_last b w next =
    if b then record w { want = Finished } else record w { want = Leaf next; passed = w.passed + 1 }

-- what a search wants after a leaf of the range
now_wants : (at : PagesAt) (root t : ℕ) (items : Items) (tree : Tree (at t) root items) (q : ℕ)
    (l h low high : Bound) (d passed : ℕ) (new : Walking)
    → Covers (at t) root 0 q l h → Told (walking low high (Leaf q) d passed) (at t q) new
    → new
    ≡ after_last (is_last (walking low high (Leaf q) d passed) (at t q))
    (walking low high (Leaf q) d passed) (at t q).next
now_wants at root t items tree q l h low high d passed new c told =
    subst (λ (y : Kind). Moves (Leaf q) y (walking low high (Leaf q) d passed) (at t q) new)
    (leaf_kind (at t q).kind (covers_member (at t) root items tree 0 q l h c).1) told

last_ends : (at : PagesAt) (root t : ℕ) (items : Items) (tree : Tree (at t) root items) (q : ℕ)
    (l h low high : Bound) (d : ℕ) (seen : List ℕ) → root ≤ 32767
    → Covers (at t) root 0 q l h → IsDistinct nat_eq seen → AllByRecursion (Seen at root t l) seen
    → is_last (walking low high (Leaf q) d (length seen)) (at t q) ≡ true
    → ((at t q).next ≡ 0) ⊎ ((reaches high (at t q).items ≡ true) ⊎ (one_key low high ≡ true))
last_ends at root t items tree q l h low high d seen small c distinct all e =
    go ((at t q).next == 0) refl
  where
    go : (b : Bool) → ((at t q).next == 0) ≡ b
        → ((at t q).next ≡ 0) ⊎ ((reaches high (at t q).items ≡ true) ⊎ (one_key low high ≡ true))
    go true f = inl (eqb-true (at t q).next 0 f)
    go false f =
        let o =
        onward at root t items tree q l h seen small c distinct all
        (not_zero (at t q).next f) in
        inr (tests ((at t q).next == 0) (reaches high (at t q).items) (one_key low high)
        (nat_le MOST_STEPS (length seen)) e f o.few)

pub go_on : (at : PagesAt) (root from : ℕ) (items : ItemsAt) → Timeline at root from items
    → root ≤ 32767
    → (low high : Bound) (d t : ℕ) (v : Visit) (rest reads : List Visit) (seen : List ℕ)
    (l h : Bound)
    → Covers (at v.time) root 0 v.page l h → IsDistinct nat_eq seen
    → AllByRecursion (Seen at root v.time l) seen
    → Searches at from (walking low high (Leaf v.page) d (length seen)) t (v ∷ rest) reads
    → Trail at low high v reads
go_on at root from items tl small low high d t v [] reads seen l h c distinct all
    (new, more, wants, later, told, holds, adds, run) =
    go (is_last (walking low high (Leaf v.page) d (length seen)) (at v.time v.page)) refl
    (now_wants at root v.time (items v.time) (tl.tree v.time) v.page l h low high d
    (length seen) new c told)
  where
    go : (b : Bool)
        → is_last (walking low high (Leaf v.page) d (length seen)) (at v.time v.page) ≡ b
        → new
        ≡ after_last
        (is_last (walking low high (Leaf v.page) d (length seen)) (at v.time v.page))
        (walking low high (Leaf v.page) d (length seen)) (at v.time v.page).next
        → Trail at low high v reads
    go true e n = record {
      more = [];
      are = adds ∙ ap (λ (x : List Visit). v ∷ x) run.1;
      follows = tt;
      ends =
          with_one
          (last_ends at root v.time (items v.time)
          (tl.tree v.time) v.page l h low high d seen small c distinct all e);
    }
      where
        with_one : ((at v.time v.page).next ≡ 0)
            ⊎ ((reaches high (at v.time v.page).items ≡ true) ⊎ (one_key low high ≡ true))
            → Ends at low high v []
        with_one (inl x) = inl x
        with_one (inr (inl x)) = inr (inl x)
        with_one (inr (inr x)) = inr (inr (refl, x))
    go false e n =
        let f : new.want ≡ Leaf (at v.time v.page).next =
        ap (λ (w : Walking). w.want) n
        ∙ ap
        (λ (b : Bool).
        (after_last b (walking low high (Leaf v.page) d (length seen))
        (at v.time v.page).next).want) e in
        absurd (let g : Leaf (at v.time v.page).next ≡ Finished = sym f ∙ run.0 in cc)
go_on at root from items tl small low high d t v (y ∷ rest) reads seen l h c distinct all
    (new, more, wants, later, told, holds, adds, run) =
    go (λ l' h' c' distinct' all' r'.
    go_on at root from items tl small low high d v.time y rest more
    (v.page ∷ seen) l' h' c' distinct' all' r')
    (is_last (walking low high (Leaf v.page) d (length seen)) (at v.time v.page)) refl
    (now_wants at root v.time (items v.time) (tl.tree v.time) v.page l h low high d
    (length seen) new c told)
  where
    go : ((l' h' : Bound) → Covers (at y.time) root 0 y.page l' h'
        → IsDistinct nat_eq (v.page ∷ seen)
        → AllByRecursion (Seen at root y.time l') (v.page ∷ seen)
        → Searches at from (walking low high (Leaf y.page) d (length (v.page ∷ seen))) v.time
        (y ∷ rest) more → Trail at low high y more)
        → (b : Bool)
        → is_last (walking low high (Leaf v.page) d (length seen)) (at v.time v.page) ≡ b
        → new
        ≡ after_last
        (is_last (walking low high (Leaf v.page) d (length seen)) (at v.time v.page))
        (walking low high (Leaf v.page) d (length seen)) (at v.time v.page).next
        → Trail at low high v reads
    go deeper true e n =
        let f : new.want ≡ Finished =
        ap (λ (w : Walking). w.want) n
        ∙ ap
        (λ (b : Bool).
        (after_last b (walking low high (Leaf v.page) d (length seen))
        (at v.time v.page).next).want) e in
        absurd (let g : None ≡ Some y.page = sym (ap wanted f) ∙ run.2 in cc)
    go deeper false e n =
        let next : ℕ = (at v.time v.page).next in
        let by =
        goes_by (next == 0) (reaches high (at v.time v.page).items) (one_key low high)
        (nat_le MOST_STEPS (length seen)) e in
        let some : 0 < next = not_zero next by.0 in
        let o =
        onward at root v.time (items v.time)
        (tl.tree v.time) v.page l h seen small c distinct all some in
        let new_is : new ≡ walking low high (Leaf next) d (length seen + 1) =
        n
        ∙ ap
        (λ (b : Bool). after_last b (walking low high (Leaf v.page) d (length seen)) next) e in
        let page_is : next ≡ y.page =
        same_Some next y.page (sym (ap (λ (w : Walking). wanted w.want) new_is) ∙ run.2) in
        let le : v.time ≤ y.time = run.3 in
        let longer : length seen + 1 ≡ length (v.page ∷ seen) = omega arith in
        let want : new ≡ walking low high (Leaf y.page) d (length (v.page ∷ seen)) =
        new_is
        ∙ (ap (λ (q : ℕ). walking low high (Leaf q) d (length seen + 1)) page_is
        ∙ ap (λ (k : ℕ). walking low high (Leaf y.page) d k) longer) in
        let s =
        stays_there at root from items tl v.time y.time 0 next h o.near.end o.near.covers
        o.near.below_root le in
        let tr =
        deeper h s.now
        (subst (λ (q : ℕ). Covers (at y.time) root 0 q h s.now) page_is s.covers) o.distinct
        (all_map (Seen at root v.time h) (Seen at root y.time h) (v.page ∷ seen)
        (λ x q. moved x q le) o.all)
        (subst (λ (w : Walking). Searches at from w v.time (y ∷ rest) more) want run) in
        record {
          more = y ∷ tr.more;
          are = adds ∙ ap (λ (x : List Visit). v ∷ x) tr.are;
          follows = (le, page_is, subst (λ (q : ℕ). 0 < q) page_is some, tr.follows);
          ends = not_one by.1 tr.ends;
        }
      where
        moved : (x : ℕ) → Seen at root v.time h x → v.time ≤ y.time → Seen at root y.time h x
        moved x q le =
            let s =
            stays_there at root from items tl v.time y.time 0 x q.own q.end q.covers
            q.below_root le in
            record {
              bound = q.bound;
              below_root = q.below_root;
              own = q.own;
              end = s.now;
              covers = s.covers;
              key = q.key;
              low_is = q.low_is;
              beyond = q.beyond;
            }

        not_one : {more' : List Visit} → one_key low high ≡ false → Ends at low high y more'
            → Ends at low high v (y ∷ more')
        not_one f (inl x) = inl x
        not_one f (inr (inl x)) = inr (inl x)
        not_one f (inr (inr x)) = absurd (true_false (one_key low high) x.1 f)
