-- The child of an inner page for a key of its range stands for a range with the key.
use Rattle.std.proofs.Common.{◌≡◌, ◌≢◌, ◌<◌, ◌+◌, ℕ, zero, suc, List, [], ◌∷◌, ◌++◌, map, Some, None, refl, sym, ap, subst, ◌∙◌, arith, append_assoc, length, get_or, slice_get}
use Rattle.std.specs.List.{AllByRecursion, flat_map}
use Rattle.std.specs.declared.cmp.Ordering.TheVariants.{Less, Greater}
use Rattle.std.proofs.lemmas.Grind.{flat_map-append}
use Rattle.std.proofs.lemmas.List.{map-append, length-map, length-append, get_or_at, take_at}
use Rattle.std.proofs.lemmas.Option.{slice_get_within, same_Some}
use Rattle.rm_base.specs.Fields.{field}
use Rattle.page_view.proofs.InnerLaws.{one_inner}
use Rattle.page_view.specs.Inner.{InnerItem, inner_bytes, IsInner}
use Rattle.page_view.specs.Keys.{key_in, key_cmp, keys_of, IsChildFor}
use Rattle.bplus_tree.proofs.Order.{turned_back}
use Rattle.bplus_tree.specs.Tree.{IsInnerPage, NotBelow, Below, Tree}
use Rattle.bplus_tree.specs.Walk.{LeadsTo}
use Rattle.tree_timeline.specs.Fences.{Fence, entries_in, fence_of, cut, children, layer, low_after}
use Rattle.tree_timeline.specs.Ranges.{height, Covers, StandsFor}
use Rattle.tree_timeline.specs.Types.{Key, Bound, Items, Pages}
use Rattle.tree_timeline.proofs.Neighbours.{Rest, right_of}
use Rattle.tree_timeline.proofs.Places.{fence}
use Rattle.tree_timeline.proofs.Rows.{entries_are, down}
use Rattle.page_image.specs.declared.kind.Kind.TheVariants as kind

-- the entry that an item spells, with the entries before and behind it
pub record Entry (es : List InnerItem) (place : ℕ) (entry : InnerItem) : Type 0 where
  pub xs : List InnerItem
  pub ys : List InnerItem
  pub are : es ≡ xs ++ (entry ∷ ys)
  pub count : length xs ≡ place

entry_at : (es : List InnerItem) (place : ℕ) (entry : InnerItem) → AllByRecursion IsInner es
    → IsInner entry
    → slice_get (map inner_bytes es) place ≡ Some (inner_bytes entry) → Entry es place entry
entry_at [] place entry all is e =
    absurd (let h = slice_get_within [] place (inner_bytes entry) e in omega (arith, h))
entry_at (x ∷ es) zero entry all is e =
    let same : x ≡ entry =
    one_inner x entry all.0 is (same_Some (inner_bytes x) (inner_bytes entry) e) in record {
      xs = [];
      ys = es;
      are = ap (λ (y : InnerItem). y ∷ es) same;
      count = refl;
    }
entry_at (x ∷ es) (suc place) entry all is e =
    let p = entry_at es place entry all.1 is e in record {
      xs = x ∷ p.xs;
      ys = p.ys;
      are = ap (λ (l : List InnerItem). x ∷ l) p.are;
      count = ap suc p.count;
    }

key_of_entry : (e : InnerItem) → key_in (inner_bytes e) ≡ e.key
key_of_entry e = take_at e.key (field 4 e.child) (length e.key) refl

abbrev bytes_keys : List InnerItem → List (List ℕ)
bytes_keys es = keys_of (map inner_bytes es)

key_at : (es xs : List InnerItem) (entry : InnerItem) (ys : List InnerItem) (place : ℕ)
    → es ≡ xs ++ (entry ∷ ys) → length xs ≡ place
    → get_or (bytes_keys es) place [] ≡ entry.key
key_at es xs entry ys place e c =
    ap (λ (l : List InnerItem). get_or (bytes_keys l) place []) e
    ∙ (ap (λ (l : Items). get_or (keys_of l) place []) (map-append inner_bytes xs (entry ∷ ys))
    ∙ (ap (λ (l : Items). get_or l place [])
    (map-append key_in (map inner_bytes xs) (map inner_bytes (entry ∷ ys)))
    ∙ (get_or_at (bytes_keys xs) (key_in (inner_bytes entry)) (bytes_keys ys) [] place
    (length-map (map inner_bytes xs) key_in ∙ (length-map xs inner_bytes ∙ c))
    ∙ key_of_entry entry)))

abbrev pub NextAbove : List ℕ → List InnerItem → Type 0
NextAbove key [] = Unit {0}
NextAbove key (y ∷ ys) = key_cmp key y.key ≡ Less

next_above : (es xs : List InnerItem) (entry : InnerItem) (ys : List InnerItem) (place : ℕ)
    (key : Key) → es ≡ xs ++ (entry ∷ ys) → length xs ≡ place
    → IsChildFor (bytes_keys es) key place → NextAbove key ys
next_above es xs entry [] place key e c child = tt
next_above es xs entry (y ∷ ys) place key e c child =
    let regroup : es ≡ (xs ++ entry ∷ []) ++ (y ∷ ys) =
    e ∙ sym (append_assoc xs (entry ∷ []) (y ∷ ys)) in
    let l = length-append xs (entry ∷ []) in
    let more : length (xs ++ entry ∷ []) ≡ place + 1 = omega (arith, l, c) in
    let here : get_or (bytes_keys es) (place + 1) [] ≡ y.key =
    key_at es (xs ++ entry ∷ []) y ys (place + 1) regroup more in
    let n = length-map (map inner_bytes es) key_in in
    let o = length-map es inner_bytes in
    let p = ap length e ∙ length-append xs (entry ∷ (y ∷ ys)) in
    let inside : place + 1 < length (bytes_keys es) = omega (arith, n, o, p, c) in
    turned_back y.key key
    (subst (λ (k : Key). key_cmp k key ≡ Greater) here
    (child.2 (place + 1) (omega arith) inside))

low_below : (pages : Pages) (l : ℕ) (f : Fence) (right : List Fence) → Rest pages (suc l) f right
    → low_after (flat_map (children pages) right) ≡ low_after right
low_below pages l f [] r = refl
low_below pages l f (g ∷ right) r =
    let d = down pages l g right None r.row.2 r.row.4 r.row.9 in
    ap low_after d.are ∙ d.low_is

-- the entry on the way to a key
pub record Leads (es : List InnerItem) (key : Key) (child : ℕ) : Type 0 where
  pub xs : List InnerItem
  pub entry : InnerItem
  pub ys : List InnerItem
  pub are : es ≡ xs ++ (entry ∷ ys)
  pub own : key_cmp entry.key key ≢ Greater
  pub next : NextAbove key ys
  pub child_is : child ≡ entry.child

pub leads_of : (pages : Pages) (root : ℕ) (items : Items) (tree : Tree pages root items)
    (tall q child : ℕ) (low high : Bound) (key : Key)
    → Covers pages root (suc tall) q low high → LeadsTo (pages q) key child
    → Leads (entries_in (pages q)) key child
leads_of pages root items tree tall q child low high key c
    (place, entry, is_child, get, is, child_is) =
    by_inner (inner_of_rest c.right (right_of pages root items tree (suc tall) q low high c))
  where
    inner_of_rest : (right : List Fence) → Rest pages (suc tall) (fence low q) right
        → (es : List InnerItem) × IsInnerPage (pages q) q (suc tall) es
    inner_of_rest [] r = (r.row.0, r.row.2)
    inner_of_rest (g ∷ right) r = (r.row.6.0, r.row.6.2)

    by_inner : (es : List InnerItem) × IsInnerPage (pages q) q (suc tall) es
        → Leads (entries_in (pages q)) key child
    by_inner (es, inner) =
        let get' : slice_get (map inner_bytes es) place ≡ Some (inner_bytes entry) =
        subst (λ (k : Items). slice_get k place ≡ Some (inner_bytes entry)) inner.has get in
        let p = entry_at es place entry inner.each is get' in
        let for_child : IsChildFor (bytes_keys es) key place =
        subst (λ (k : Items). IsChildFor (keys_of k) key place) inner.has is_child in
        let own : key_cmp entry.key key ≢ Greater =
        subst (λ (k : Key). key_cmp k key ≢ Greater)
        (key_at es p.xs entry p.ys place p.are p.count) for_child.1 in
        record {
          xs = p.xs;
          entry = entry;
          ys = p.ys;
          are = entries_are (pages q) es inner.has inner.each ∙ p.are;
          own = own;
          next = next_above es p.xs entry p.ys place key p.are p.count for_child;
          child_is = child_is;
        }

pub child_of : (pages : Pages) (root : ℕ) (items : Items) (tree : Tree pages root items)
    (tall q child : ℕ) (low high : Bound) (key : Key)
    → Covers pages root (suc tall) q low high → NotBelow low key → Below high key
    → Leads (entries_in (pages q)) key child → StandsFor pages root tall child key
child_of pages root items tree tall q child low high key c from below leads =
    subst (λ (n : ℕ). StandsFor pages root tall n key) (sym leads.child_is)
    (at_place leads.xs leads.ys leads.are leads.own leads.next)
  where
    A : List Fence
    A = flat_map (children pages) c.left

    B : List Fence
    B = flat_map (children pages) c.right

    layer_is : layer pages root (suc c.depth) ≡ A ++ (cut low (entries_in (pages q)) ++ B)
    layer_is =
        ap (flat_map (children pages)) c.are
        ∙ flat_map-append (children pages) c.left (fence low q ∷ c.right)

    deep : suc c.depth + tall ≡ height (pages root)
    deep = let d = c.deep in omega (arith, d)

    ends : low_after B ≡ high
    ends =
        low_below pages tall (fence low q) c.right
        (right_of pages root items tree (suc tall) q low high c) ∙ sym c.high_is

    high_of : (ys : List InnerItem) → NextAbove key ys
        → Below (low_after (map fence_of ys ++ B)) key
    high_of [] n = subst (λ (o : Bound). Below o key) (sym ends) below
    high_of (y ∷ ys) n = n

    at_place : (xs ys : List InnerItem) → entries_in (pages q) ≡ xs ++ (leads.entry ∷ ys)
        → key_cmp leads.entry.key key ≢ Greater → NextAbove key ys
        → StandsFor pages root tall leads.entry.child key
    at_place [] ys e n a = record {
      low = low;
      high = low_after (map fence_of ys ++ B);
      covers = record {
        depth = suc c.depth;
        left = A;
        right = map fence_of ys ++ B;
        deep = deep;
        are = layer_is ∙ ap (λ (x : List InnerItem). A ++ (cut low x ++ B)) e;
        high_is = refl;
      };
      from = from;
      below = high_of ys a;
    }
    at_place (x ∷ xs) ys e n a = record {
      low = Some leads.entry.key;
      high = low_after (map fence_of ys ++ B);
      covers = record {
        depth = suc c.depth;
        left = A ++ cut low (x ∷ xs);
        right = map fence_of ys ++ B;
        deep = deep;
        are = layer_is ∙ (ap (λ (z : List InnerItem). A ++ (cut low z ++ B)) e
            ∙ (ap (λ (z : List Fence). A ++ ((fence low x.child ∷ z) ++ B))
            (map-append fence_of xs (leads.entry ∷ ys))
            ∙ (ap (λ (z : List Fence). A ++ z)
            (append_assoc (cut low (x ∷ xs)) (fence_of leads.entry ∷ map fence_of ys) B)
            ∙ sym
            (append_assoc A (cut low (x ∷ xs))
            (fence_of leads.entry ∷ (map fence_of ys ++ B))))));
        high_is = refl;
      };
      from = n;
      below = high_of ys a;
    }

-- the kinds
pub inner_kind : (pages : Pages) (root : ℕ) (items : Items) (tree : Tree pages root items)
    (tall q : ℕ) (low high : Bound)
    → Covers pages root (suc tall) q low high → (pages q).kind ≡ kind.Inner
inner_kind pages root items tree tall q low high c =
    go c.right (right_of pages root items tree (suc tall) q low high c)
  where
    go : (right : List Fence) → Rest pages (suc tall) (fence low q) right
        → (pages q).kind ≡ kind.Inner
    go [] r = r.row.2.kind
    go (g ∷ right) r = r.row.6.2.kind
