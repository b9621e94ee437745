-- Leaves that are read one after the other have the items of the tree, each key at its time.
use Rattle.std.proofs.Common.{◌≡◌, ◌≢◌, ◌≤◌, ℕ, List, [], ◌∷◌, ◌++◌, Some, None, refl, sym, ap, subst, ◌∙◌, arith, inl, inr}
use Rattle.std.specs.Prelude.{◌⊎◌}
use Rattle.std.specs.List.{AllByRecursion}
use Rattle.std.specs.declared.cmp.Ordering.TheVariants.{Less, Greater}
use Rattle.std.proofs.lemmas.List.{append-nil}
use Rattle.page_image.specs.Image.{Image}
use Rattle.page_view.specs.Keys.{key_in, key_cmp}
use Rattle.bplus_tree.proofs.Order.{all_left, all_right, turned, less_upto, all_map, all_join, less_or_not, Sorted, sorted_from, sorted_join}
use Rattle.bplus_tree.proofs.Ranges.{beyond_upto}
use Rattle.bplus_tree.specs.Tree.{NotBelow, Beyond, Below, is_leaf}
use Rattle.tree_timeline.specs.Found.{of_key, ReadAt}
use Rattle.tree_timeline.specs.Ranges.{Covers}
use Rattle.tree_timeline.specs.Timeline.{Timeline}
use Rattle.tree_timeline.specs.Types.{Key, Bound, Items, PagesAt, ItemsAt}
use Rattle.tree_timeline.specs.Walks.{Visit, Follows, items_read, last_of}
use Rattle.tree_timeline.proofs.KeyItems.{of_key-behind, of_key-before}
use Rattle.tree_timeline.proofs.Leaves.{LeafOf, leaf_of}
use Rattle.tree_timeline.proofs.Neighbours.{neighbour, no_neighbour}
use Rattle.tree_timeline.proofs.Passing.{stays_there}

pub record Reads (at : PagesAt) (root : ℕ) (items : ItemsAt) (low : Bound) (v : Visit)
    (rest : List Visit) : Type 0 where
  pub end : Bound
  pub when : Key → ℕ
  pub since : (key : Key) → v.time ≤ when key
  pub until : (key : Key) → when key ≤ (last_of v rest).time
  pub each : (key : Key) → NotBelow low key → Below end key
      → of_key key (items_read at (v ∷ rest)) ≡ of_key key (items (when key))
  pub from : AllByRecursion (λ item. NotBelow low (key_in item)) (items_read at (v ∷ rest))
  pub sorted : Sorted (items_read at (v ∷ rest))
  pub no_more : (at (last_of v rest).time (last_of v rest).page).next ≡ 0 → end ≡ None
  pub below : AllByRecursion (λ item. Below end (key_in item))
      (at (last_of v rest).time (last_of v rest).page).items
  pub there : ReadAt at when (v ∷ rest)

-- the times of keys: a key that is less than this one was read here
abbrev either_time : {A B : Type 0} → A ⊎ B → ℕ → ℕ → ℕ
either_time (inl a) here later = here
either_time (inr b) here later = later

abbrev time_of : Key → ℕ → (Key → ℕ) → Key → ℕ
time_of k here when key = either_time (less_or_not key k) here (when key)

less_time : (k : Key) (here : ℕ) (when : Key → ℕ) (key : Key) → key_cmp key k ≡ Less
    → time_of k here when key ≡ here
less_time k here when key less = go (less_or_not key k)
  where
    go : (d : (key_cmp key k ≡ Less) ⊎ (key_cmp k key ≢ Greater))
        → either_time d here (when key) ≡ here
    go (inl l) = refl
    go (inr n) = absurd (n (turned key k less))

more_time : (k : Key) (here : ℕ) (when : Key → ℕ) (key : Key) → key_cmp k key ≢ Greater
    → time_of k here when key ≡ when key
more_time k here when key more = go (less_or_not key k)
  where
    go : (d : (key_cmp key k ≡ Less) ⊎ (key_cmp k key ≢ Greater))
        → either_time d here (when key) ≡ when key
    go (inl l) = absurd (more (turned key k l))
    go (inr n) = refl

-- items keep their time where their keys do
same_times : (P : Key → Type 0) (when other : Key → ℕ) (time : ℕ)
    → ((key : Key) → P key → other key ≡ when key) → (xs : Items)
    → AllByRecursion (λ item. P (key_in item)) xs
    → AllByRecursion (λ item. when (key_in item) ≡ time) xs
    → AllByRecursion (λ item. other (key_in item) ≡ time) xs
same_times P when other time f [] p a = tt
same_times P when other time f (x ∷ xs) p a =
    (f (key_in x) p.0 ∙ a.0, same_times P when other time f xs p.1 a.1)

same_reads : (at : PagesAt) (P : Key → Type 0) (when other : Key → ℕ)
    → ((key : Key) → P key → other key ≡ when key) → (visits : List Visit)
    → AllByRecursion (λ item. P (key_in item)) (items_read at visits)
    → ReadAt at when visits → ReadAt at other visits
same_reads at P when other f [] p r = tt
same_reads at P when other f (v ∷ vs) p r =
    let items : Items = (at v.time v.page).items in (
      (
        r.0.0,
        same_times P when other v.time f items
            (all_left (λ item. P (key_in item)) items (items_read at vs) p) r.0.1,
      ),
      same_reads at P when other f vs
          (all_right (λ item. P (key_in item)) items (items_read at vs) p) r.1,
    )

all_of : {X : Type 0} (P : X → Type 0) (xs : List X) → ((x : X) → P x) → AllByRecursion P xs
all_of P [] f = tt
all_of P (x ∷ xs) f = (f x, all_of P xs f)

pub along : (at : PagesAt) (root from : ℕ) (items : ItemsAt) → Timeline at root from items
    → (v : Visit) (rest : List Visit) (low high : Bound) → Covers (at v.time) root 0 v.page low high
    → Follows at v rest → Reads at root items low v rest
along at root from items tl v [] low high c f =
    let l = leaf_of (at v.time) root (items v.time) (tl.tree v.time) v.page low high c in
    let im : Image = at v.time v.page in
    let one : im.items ≡ im.items ++ [] = sym (append-nil im.items) in
    record {
      end = high;
      when = λ k. v.time;
      since = λ k. omega arith;
      until = λ k. omega arith;
      each = λ k n b. ap (of_key k) (sym one) ∙ sym (l.each k n b);
      from = subst (AllByRecursion (λ item. NotBelow low (key_in item))) one l.leaf.from;
      sorted = subst Sorted one (sorted_from im.items l.leaf.ascend);
      no_more =
          λ e. no_neighbour (at v.time) root (items v.time) (tl.tree v.time) v.page low high c e;
      below = l.leaf.below;
      there =
          ((ap is_leaf l.leaf.kind, all_of (λ item. v.time ≡ v.time) im.items (λ item. refl)), tt);
    }
along at root from items tl v (w ∷ rest) low high c (later, named, some, more) =
    let n =
    neighbour (at v.time) root (items v.time)
    (tl.tree v.time) v.page w.page low high c named some in
    let k : Key = n.key in
    let s =
    stays_there at root from items tl v.time w.time 0 w.page high n.end n.covers n.below_root
    later in
    let c' : Covers (at w.time) root 0 w.page (Some k) s.now =
    subst (λ (o : Bound). Covers (at w.time) root 0 w.page o s.now) n.high_is s.covers in
    joined n.key n.high_is n.beyond (along at root from items tl w rest (Some k) s.now c' more)
  where
    im : Image
    im = at v.time v.page

    l : LeafOf (at v.time) (items v.time) v.page low high
    l = leaf_of (at v.time) root (items v.time) (tl.tree v.time) v.page low high c

    joined : (k : Key) → high ≡ Some k → Beyond low k → Reads at root items (Some k) w rest
        → Reads at root items low v (w ∷ rest)
    joined k high_is beyond r =
        let others : Items = items_read at (w ∷ rest) in
        let below : AllByRecursion (λ item. Below (Some k) (key_in item)) im.items =
        subst
        (λ (o : Bound). AllByRecursion (λ item. Below o (key_in item)) im.items) high_is
        l.leaf.below in
        record {
          end = r.end;
          when = time_of k v.time r.when;
          since = λ key. first key (less_or_not key k);
          until = λ key. last key (less_or_not key k);
          each = λ key n b. either key (less_or_not key k) n b;
          from = all_join (λ item. NotBelow low (key_in item)) im.items others l.leaf.from
              (all_map (λ item. NotBelow (Some k) (key_in item)) _ others
              (λ item h. beyond_upto low k (key_in item) beyond h) r.from);
          sorted = sorted_join im.items others (sorted_from im.items l.leaf.ascend) r.sorted
              (all_map (λ item. Below (Some k) (key_in item)) _ im.items
              (λ x b.
              all_map (λ item. NotBelow (Some k) (key_in item)) _ others
              (λ y h. less_upto (key_in x) k (key_in y) b h) r.from) below);
          no_more = r.no_more;
          below = r.below;
          there = (
            (
              ap is_leaf l.leaf.kind,
              all_map (λ item. Below (Some k) (key_in item)) _ im.items
                  (λ item less. less_time k v.time r.when (key_in item) less) below,
            ),
            same_reads at (λ key. NotBelow (Some k) key) r.when (time_of k v.time r.when)
                (λ key more. more_time k v.time r.when key more) (w ∷ rest) r.from r.there,
          );
        }
      where
        first : (key : Key) (d : (key_cmp key k ≡ Less) ⊎ (key_cmp k key ≢ Greater))
            → v.time ≤ either_time d v.time (r.when key)
        first key (inl a) = omega arith
        first key (inr b) = let s = r.since key in omega (arith, s, later)

        last : (key : Key) (d : (key_cmp key k ≡ Less) ⊎ (key_cmp k key ≢ Greater))
            → either_time d v.time (r.when key) ≤ (last_of w rest).time
        last key (inl a) = let s = r.since key in let u = r.until key in omega (arith, s, u, later)
        last key (inr b) = r.until key

        either : (key : Key) (d : (key_cmp key k ≡ Less) ⊎ (key_cmp k key ≢ Greater))
            → NotBelow low key → Below r.end key
            → of_key key (im.items ++ items_read at (w ∷ rest))
            ≡ of_key key (items (either_time d v.time (r.when key)))
        either key (inl less) n b =
            let here : Below high key = subst (λ (o : Bound). Below o key) (sym high_is) less in
            of_key-before key im.items (items_read at (w ∷ rest))
            (all_map (λ item. NotBelow (Some k) (key_in item)) _ (items_read at (w ∷ rest))
            (λ item h. less_upto key k (key_in item) less h) r.from)
            ∙ sym (l.each key n here)
        either key (inr upto) n b =
            let below : AllByRecursion (λ item. Below (Some k) (key_in item)) im.items =
            subst (λ (o : Bound). AllByRecursion (λ item. Below o (key_in item)) im.items) high_is
            l.leaf.below in
            of_key-behind key im.items (items_read at (w ∷ rest))
            (all_map (λ item. Below (Some k) (key_in item)) _ im.items
            (λ item h. less_upto (key_in item) k key h upto) below)
            ∙ r.each key upto b

-- the last high end is the first leaf's, where it is the only one
pub one_end : (at : PagesAt) (root from : ℕ) (items : ItemsAt) (tl : Timeline at root from items)
    → (v : Visit) (rest : List Visit) (low high : Bound)
    (c : Covers (at v.time) root 0 v.page low high) (f : Follows at v rest)
    → rest ≡ [] → (along at root from items tl v rest low high c f).end ≡ high
unfolding along
one_end at root from items tl v [] low high c f e = refl
one_end at root from items tl v (w ∷ rest) low high c f e = absurd (let x : w ∷ rest ≡ [] = e in cc)
