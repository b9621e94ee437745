-- What a read of a range finds.
use Rattle.std.proofs.Common.{◌≡◌, ◌≢◌, ◌≤◌, ℕ, zero, suc, true, false, List, [], ◌∷◌, Some, None, refl, sym, subst, ◌∙◌, arith, ◌-◌, inl, inr, length, slice_get}
use Rattle.std.specs.Prelude.{filter}
use Rattle.std.specs.List.{AllByRecursion}
use Rattle.std.specs.Ordering.{is_eq}
use Rattle.std.specs.declared.cmp.Ordering.{Ordering}
use Rattle.std.specs.declared.cmp.Ordering.TheVariants.{Less, Greater, Equal}
use Rattle.std.proofs.lemmas.Cmp.{nat_list_cmp_total}
use Rattle.page_view.specs.Keys.{key_in, key_cmp}
use Rattle.bplus_tree.proofs.Order.{turned, turned_back}
use Rattle.bplus_tree.specs.Tree.{Below}
use Rattle.bplus_tree.specs.Walk.{in_range, reaches_with, sought, start}
use Rattle.tree_timeline.specs.Found.{InRange, FindsEach}
use Rattle.tree_timeline.specs.Ranges.{height, StandsFor}
use Rattle.tree_timeline.specs.Timeline.{Timeline}
use Rattle.tree_timeline.specs.Types.{Key, Bound, Items, PagesAt, ItemsAt}
use Rattle.tree_timeline.specs.Walks.{Visit, Follows, items_read, last_of, Ends, Walk, LightWalk}
use Rattle.tree_timeline.proofs.Descents.{descends, descends_lightly}
use Rattle.tree_timeline.proofs.Members.{covers_root}
use Rattle.tree_timeline.proofs.Order.{not_less_upto, upto_upto, from_upto, below_upto, sought_upto}
use Rattle.tree_timeline.proofs.RangeItems.{filter_sorted, ascend_of, of_range}
use Rattle.tree_timeline.proofs.Walking.{Reads, along, one_end}

-- an item whose key is at least the high end
reached : (high : Key) (P : List ℕ → Type 0) (xs : Items) (n : ℕ) → AllByRecursion P xs
    → reaches_with high (slice_get xs n) ≡ true
    → (x : List ℕ) × P x × (key_cmp high (key_in x) ≢ Greater)
reached high P [] n a e = absurd (let h : false ≡ true = e in cc)
reached high P (x ∷ xs) zero a e = (x, a.0, not_less_upto (key_in x) high e)
reached high P (x ∷ xs) (suc n) a e = reached high P xs n a.1 e

reads_to_end : (at : PagesAt) (root : ℕ) (items : ItemsAt) (low high l h : Bound) (v : Visit)
    (rest : List Visit) (r : Reads at root items l v rest)
    → Ends at low high v rest → (rest ≡ [] → r.end ≡ h) → Below h (sought low) → (k : Key)
    → InRange low high k → Below r.end k
reads_to_end at root items low high l h v rest r (inl e) one b k i =
    subst (λ (o : Bound). Below o k) (sym (r.no_more e)) tt
reads_to_end at root items low None l h v rest r (inr (inl e)) one b k i =
    absurd (let x : false ≡ true = e in cc)
reads_to_end at root items low (Some hi) l h v rest r (inr (inl e)) one b k i =
    let its : Items = (at (last_of v rest).time (last_of v rest).page).items in
    let x = reached hi (λ item. Below r.end (key_in item)) its (length its - 1) r.below e in
    below_upto r.end k (key_in x.0) (upto_upto k hi (key_in x.0) i.1 x.2) x.1
reads_to_end at root items None high l h v rest r (inr (inr e)) one b k i =
    absurd (let x : false ≡ true = e.1 in cc)
reads_to_end at root items (Some lo) None l h v rest r (inr (inr e)) one b k i =
    absurd (let x : false ≡ true = e.1 in cc)
reads_to_end at root items (Some lo) (Some hi) l h v rest r (inr (inr e)) one b k i =
    subst (λ (o : Bound). Below o k) (sym (one e.0)) (below_upto h k lo upto b)
  where
    upto : key_cmp k lo ≢ Greater
    upto = go (key_cmp lo hi) refl e.1
      where
        go : (o : Ordering) → key_cmp lo hi ≡ o → is_eq o ≡ true → key_cmp k lo ≢ Greater
        go Less f t = absurd (let x : false ≡ true = t in cc)
        go Greater f t = absurd (let x : false ≡ true = t in cc)
        go Equal f t =
            λ g. i.1 (turned hi k (sym (nat_list_cmp_total.congr lo hi k f) ∙ turned_back k lo g))

-- from a leaf that has the low end on
pub finds_from : (at : PagesAt) (root from : ℕ) (items : ItemsAt) → Timeline at root from items
    → (low high : Bound) (start : ℕ) (v : Visit) (rest : List Visit) → start ≤ v.time
    → StandsFor (at v.time) root 0 v.page (sought low)
    → Follows at v rest → Ends at low high v rest
    → FindsEach at (v ∷ rest) items low high start (last_of v rest).time
finds_from at root from items tl low high start v rest after d follows ends =
    let r = along at root from items tl v rest d.low d.high d.covers follows in
    let to_end =
    reads_to_end at root items low high d.low d.high v rest r ends
    (one_end at root from items tl v rest d.low d.high d.covers follows) d.below in
    record {
      when = r.when;
      since = λ k. let s = r.since k in omega (arith, s, after);
      until = r.until;
      each = λ k i. of_range low high k (items_read at (v ∷ rest)) i
          ∙ r.each k (from_upto d.low (sought low) k d.from (sought_upto low k i.0)) (to_end k i);
      ascend =
          ascend_of (filter (in_range low high) (items_read at (v ∷ rest)))
          (filter_sorted (in_range low high) (items_read at (v ∷ rest)) r.sorted);
      there = r.there;
    }

-- A read finds, for each key of its range, what the tree had for the key at one time of the walk.
pub finds : (at : PagesAt) (root from : ℕ) (items : ItemsAt) → Timeline at root from items
    → (low high : Bound) (start : ℕ) (v : Visit) (rest : List Visit)
    → Walk at root low high start v rest
    → FindsEach at (v ∷ rest) items low high start (last_of v rest).time
finds at root from items tl low high start v rest w =
    let d =
    descends at root from items tl (sought low)
    (height (at start root)) root start v.page v.time None None
    (covers_root (at start) root) tt tt w.down in
    finds_from at root from items tl low high start v rest d.0 d.1 w.along w.ends

pub light_finds : (at : PagesAt) (root from : ℕ) (items : ItemsAt) → Timeline at root from items
    → (low high : Bound) (start first : ℕ) (v : Visit) (rest : List Visit)
    → LightWalk at root from low high start first v rest
    → FindsEach at (v ∷ rest) items low high start (last_of v rest).time
light_finds at root from items tl low high start first v rest w =
    let d =
    descends_lightly at root from items tl start (sought low)
    (height (at first root)) root first v.page v.time None None w.after
    (covers_root (at first) root) tt tt w.down in
    finds_from at root from items tl low high start v rest d.0 d.1 w.along w.ends
