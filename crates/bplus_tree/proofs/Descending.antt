-- The way down a tree that stands ends at the leaf whose range holds the key.
use Rattle.std.proofs.Common.{◌≡◌, ◌≢◌, ◌<◌, ◌+◌, ℕ, zero, suc, List, [], ◌∷◌, ◌++◌, length, map, slice_get, slice_index_or, Option, Some, inl, inr, refl, sym, ◌∙◌, ap, subst, arith}
use Rattle.std.specs.List.{AllByRecursion}
use Rattle.std.specs.declared.cmp.Ordering.TheVariants.{Less, Greater}
use Rattle.std.proofs.lemmas.List.Elements.{filter-append}
use Rattle.std.proofs.lemmas.Grind.{flat_map-append}
use Rattle.page_image.specs.Image.{Image}
use Rattle.page_image.specs.declared.kind.Kind.TheVariants as kind
use Rattle.page_view.specs.Inner.{InnerItem, inner_bytes, IsInner}
use Rattle.page_view.specs.Keys.{key_in, keys_of, key_cmp, Ascend, IsChildFor, GreaterFrom}
use Rattle.page_view.specs.Leaf.{HoldsLeaf}
use Rattle.page_view.proofs.SearchLaws.{greater_from}
use Rattle.bplus_tree.specs.Tree.{NotBelow, Below, IsLeafPage, IsInnerPage, Parts, Stands, is_leaf, leaves_of, Way}
use Rattle.bplus_tree.specs.Walk.{IsLeafToRead, LeadsTo, Answers}
use Rattle.bplus_tree.specs.Found.{AllLess, AllMore, items_of}
use Rattle.bplus_tree.proofs.Order.{turned, less_upto, less_or_not, least_key, all_map, all_join}
use Rattle.bplus_tree.proofs.Ranges.{Within, within, parts_within, one_leaf, no_leaf}
use Rattle.bplus_tree.proofs.Entries.{key_at, each_at, lengths}

-- the steps down from a page to a leaf, as a search makes them
abbrev pub Steps : (ℕ → Image) → ℕ → List ℕ → List ℕ → ℕ → Type 0
Steps pages page key [] leaf = (page ≡ leaf) × ((pages page).kind ≡ kind.Leaf) × Answers pages page
Steps pages page key (p ∷ rest) leaf =
    (page ≡ p) × ((pages page).kind ≡ kind.Inner) × Answers pages page × (child : ℕ) × LeadsTo (pages page) key child × Steps pages child key rest leaf

-- the leaf whose range holds the key, between the leaves to its left and to its right
pub record Holds (pages : ℕ → Image) (key : List ℕ) (nodes : List ℕ) (leaf : ℕ) : Type 0 where
  pub left : List ℕ
  pub right : List ℕ
  pub among : leaves_of pages nodes ≡ left ++ leaf ∷ right
  pub readable : IsLeafToRead (pages leaf)
  pub number : (pages leaf).page ≡ leaf
  pub less : AllLess key (items_of pages left)
  pub more : AllMore key (items_of pages right)

-- the entry whose range holds the key: at which place it stands
pub record Sought (entries : List InnerItem) (key : List ℕ) (place : ℕ) (entry : InnerItem) : Type 0 where
  pub here : slice_get entries place ≡ Some entry
  pub upto : (0 < place) → key_cmp entry.key key ≢ Greater
  pub next : (e : InnerItem) → slice_get entries (suc place) ≡ Some e → key_cmp key e.key ≡ Less

abbrev pub Descends : (ℕ → Image) → ℕ → Type 0
Descends pages level =
    (page : ℕ) (low high : Option (List ℕ)) (items : List (List ℕ)) (nodes : List ℕ) (key : List ℕ)
    → Stands pages level page low high items nodes → NotBelow low key → Below high key
    → (way : List ℕ) × (leaf : ℕ) × Way pages level page key (way ++ leaf ∷ []) × Holds pages key nodes leaf
    × Steps pages page key way leaf × (length way ≡ level)

-- the leaves of a part at its left or right join
joined_left : (pages : ℕ → Image) (key : List ℕ) (a b : List ℕ) (leaf : ℕ) → Holds pages key a leaf
    → AllMore key (items_of pages (leaves_of pages b)) → Holds pages key (a ++ b) leaf
joined_left pages key a b leaf h more = record {
  left = h.left;
  right = h.right ++ leaves_of pages b;
  among = filter-append (λ page. is_leaf (pages page).kind) a b ∙ (ap (λ (xs : List ℕ). xs ++ leaves_of pages b) h.among ∙ shift h.left);
  readable = h.readable;
  number = h.number;
  less = h.less;
  more = subst (λ (xs : List (List ℕ)). AllMore key xs) (sym (flat_map-append (λ page. (pages page).items) h.right (leaves_of pages b)))
      (all_join (λ item. key_cmp key (key_in item) ≡ Less) (items_of pages h.right) (items_of pages (leaves_of pages b)) h.more more);
}
  where
    shift : (xs : List ℕ) → (xs ++ leaf ∷ h.right) ++ leaves_of pages b ≡ xs ++ leaf ∷ (h.right ++ leaves_of pages b)
    shift [] = refl
    shift (x ∷ xs) = ap (λ (ys : List ℕ). x ∷ ys) (shift xs)

joined_right : (pages : ℕ → Image) (key : List ℕ) (a b : List ℕ) (leaf : ℕ) → Holds pages key b leaf
    → AllLess key (items_of pages (leaves_of pages a)) → Holds pages key (a ++ b) leaf
joined_right pages key a b leaf h less = record {
  left = leaves_of pages a ++ h.left;
  right = h.right;
  among = filter-append (λ page. is_leaf (pages page).kind) a b ∙ (ap (λ (xs : List ℕ). leaves_of pages a ++ xs) h.among ∙ shift (leaves_of pages a));
  readable = h.readable;
  number = h.number;
  less = subst (λ (xs : List (List ℕ)). AllLess key xs) (sym (flat_map-append (λ page. (pages page).items) (leaves_of pages a) h.left))
      (all_join (λ item. key_cmp (key_in item) key ≡ Less) (items_of pages (leaves_of pages a)) (items_of pages h.left) less h.less);
  more = h.more;
}
  where
    shift : (xs : List ℕ) → xs ++ (h.left ++ leaf ∷ h.right) ≡ (xs ++ h.left) ++ leaf ∷ h.right
    shift [] = refl
    shift (x ∷ xs) = ap (λ (ys : List ℕ). x ∷ ys) (shift xs)

abbrev Seeks : (ℕ → Image) → ℕ → List InnerItem → List ℕ → List ℕ → Type 0
Seeks pages level entries nodes key =
    (place : ℕ) × (entry : InnerItem) × Sought entries key place entry × (way : List ℕ) × (leaf : ℕ)
    × Way pages level entry.child key (way ++ leaf ∷ []) × Holds pages key nodes leaf
    × Steps pages entry.child key way leaf × (length way ≡ level)

seek : (pages : ℕ → Image) (level : ℕ) → Descends pages level → (entries : List InnerItem)
    (low high : Option (List ℕ)) (items : List (List ℕ)) (nodes : List ℕ) (key : List ℕ)
    → Parts (Stands pages level) entries low high items nodes → NotBelow low key → Below high key → Seeks pages level entries nodes key
seek pages level ih [] low high items nodes key parts from below = absurd parts
seek pages level ih (entry ∷ []) low high items nodes key parts from below =
    let d = ih entry.child low high items nodes key parts from below in
    (zero, entry, record { here = refl; upto = λ h. absurd (omega (arith, h)); next = λ e q. absurd (nothing e q) }, d.0, d.1, d.2, d.3, d.4, d.5)
  where
    nothing : (e : InnerItem) → slice_get (entry ∷ []) 1 ≡ Some e → ⊥
    nothing e q = cc
seek pages level ih (entry ∷ (next ∷ rest)) low high items nodes key (first, others, left, right, child, beyond, under, parts, joined, made) from below =
    subst (λ (ns : List ℕ). Seeks pages level (entry ∷ (next ∷ rest)) ns key) (sym made) (elim (less_or_not key next.key) [
      | inl before ↦
          let d = ih entry.child low (Some next.key) first left key child from before in
          let w : Within pages (Some next.key) high others right = parts_within pages level (within pages level) (next ∷ rest) (Some next.key) high others right parts in (
            zero,
            entry,
            record { here = refl; upto = λ h. absurd (omega (arith, h)); next = λ e q. subst (λ (e : InnerItem). key_cmp key e.key ≡ Less) (only next e q) before },
            d.0,
            d.1,
            d.2,
            joined_left pages key left right d.1 d.3 (subst (λ (xs : List (List ℕ)). AllMore key xs) w.joined
                (all_map _ _ others (λ item h. less_upto key next.key (key_in item) before h) w.from)),
            d.4,
            d.5,
          )
      | inr after ↦
          let s = seek pages level ih (next ∷ rest) (Some next.key) high others right key parts after below in
          let w : Within pages low (Some next.key) first left = within pages level entry.child low (Some next.key) first left child in (
            suc s.0,
            s.1,
            record { here = s.2.here; upto = λ h. later s.0 s.1 s.2 after; next = λ e q. s.2.next e q },
            s.3,
            s.4,
            s.5,
            joined_right pages key left right s.4 s.6 (subst (λ (xs : List (List ℕ)). AllLess key xs) w.joined
                (all_map _ _ first (λ item h. less_upto (key_in item) next.key key h after) w.below)),
            s.7,
            s.8,
          )
    ])
  where
    only : (n e : InnerItem) → Some n ≡ Some e → n ≡ e
    only n e q = cc

    later : (place : ℕ) (found : InnerItem) → Sought (next ∷ rest) key place found → key_cmp next.key key ≢ Greater
        → key_cmp found.key key ≢ Greater
    later zero found s after = subst (λ (e : InnerItem). key_cmp e.key key ≢ Greater) (only next found s.here) after
    later (suc place) found s after = s.upto (omega arith)

-- the child at that place is the one for the key
pub child_of : (im : Image) (page level : ℕ) (entries : List InnerItem) (key : List ℕ) (place : ℕ) (entry : InnerItem)
    → IsInnerPage im page level entries → Sought entries key place entry
    → IsChildFor (keys_of im.items) key place × (slice_get im.items place ≡ Some (inner_bytes entry)) × IsInner entry
child_of im page level entries key place entry inner s =
    let at = key_at entries place entry s.here in (
      subst (λ (xs : List (List ℕ)). IsChildFor (keys_of xs) key place) (sym inner.has) (
        subst (λ (n : ℕ). place < n) (sym (lengths entries)) at.0,
        subst (λ (k : List ℕ). key_cmp k key ≢ Greater) (sym at.1) (not_less_than place refl at.1),
        λ i h inside. after i h inside,
      ),
      subst (λ (xs : List (List ℕ)). slice_get xs place ≡ Some (inner_bytes entry)) (sym inner.has) at.2,
      each_at IsInner entries place entry s.here inner.each,
    )
  where
    keys : List (List ℕ)
    keys = keys_of (map inner_bytes entries)

    ascend : Ascend keys
    ascend = subst (λ (xs : List (List ℕ)). Ascend (keys_of xs)) inner.has inner.ascend

    first : slice_get keys 0 ≡ Some []
    first = subst (λ (xs : List (List ℕ)). slice_get (keys_of xs) 0 ≡ Some []) inner.has inner.least

    empty_first : (ks : List (List ℕ)) → slice_get ks 0 ≡ Some [] → slice_index_or ks 0 [] ≡ []
    empty_first [] e = refl
    empty_first (k ∷ ks) e = cc

    not_less_than : (n : ℕ) → n ≡ place → slice_index_or keys place [] ≡ entry.key → key_cmp entry.key key ≢ Greater
    not_less_than zero e same =
        let empty : entry.key ≡ [] = sym same ∙ (ap (λ (n : ℕ). slice_index_or keys n []) (sym e) ∙ empty_first keys first) in
        subst (λ (k : List ℕ). key_cmp k key ≢ Greater) (sym empty) (least_key key)
    not_less_than (suc n) e same = s.upto (omega (arith, e))

    entry_there : (es : List InnerItem) (n : ℕ) → n < length es → (e : InnerItem) × (slice_get es n ≡ Some e)
    entry_there [] n h = absurd (omega (arith, h))
    entry_there (e ∷ es) zero h = (e, refl)
    entry_there (e ∷ es) (suc n) h = entry_there es n (omega (arith, h))

    after : GreaterFrom keys (place + 1) key
    after i h inside =
        let more : suc place < length entries = omega (arith, h, inside, lengths entries) in
        let found = entry_there entries (suc place) more in
        let there = key_at entries (suc place) found.0 found.1 in
        let beyond : key_cmp (slice_index_or keys (suc place) []) key ≡ Greater =
        subst (λ (k : List ℕ). key_cmp k key ≡ Greater) (sym there.1) (turned key found.0.key (s.next found.0 found.1)) in
        greater_from keys key (suc place) ascend beyond i (omega (arith, h)) inside

-- the same leaf, where an inner page is above the part
under_inner : (pages : ℕ → Image) (key : List ℕ) (page : ℕ) (below nodes : List ℕ) (leaf : ℕ) → (pages page).kind ≡ kind.Inner
    → nodes ≡ page ∷ below → Holds pages key below leaf → Holds pages key nodes leaf
under_inner pages key page below nodes leaf inner made h = record {
  left = h.left;
  right = h.right;
  among = ap (leaves_of pages) made ∙ (no_leaf pages page below inner ∙ h.among);
  readable = h.readable;
  number = h.number;
  less = h.less;
  more = h.more;
}

-- the pages of a tree can be read
pub leaf_answers : (pages : ℕ → Image) (page : ℕ) (low high : Option (List ℕ)) (items : List (List ℕ)) → IsLeafPage (pages page) page low high items
    → IsLeafToRead (pages page)
leaf_answers pages page low high items leaf = record {
  kind = leaf.kind;
  each = subst (λ (xs : List (List ℕ)). AllByRecursion HoldsLeaf xs) (sym leaf.has) leaf.each;
  ascend = subst (λ (xs : List (List ℕ)). Ascend (keys_of xs)) (sym leaf.has) leaf.ascend;
}

pub inner_answers : (pages : ℕ → Image) (page level : ℕ) (entries : List InnerItem) → IsInnerPage (pages page) page level entries → Answers pages page
inner_answers pages page level entries inner = (
  inr (record {
    kind = inner.kind;
    entries = entries;
    has = inner.has;
    each = inner.each;
    least = inner.least;
    ascend = inner.ascend;
  }),
  inner.number,
)

parts_answer : (pages : ℕ → Image) (level : ℕ) → ((page : ℕ) (low high : Option (List ℕ)) (items : List (List ℕ)) (nodes : List ℕ)
    → Stands pages level page low high items nodes → AllByRecursion (Answers pages) nodes) → (entries : List InnerItem)
    (low high : Option (List ℕ)) (items : List (List ℕ)) (nodes : List ℕ)
    → Parts (Stands pages level) entries low high items nodes → AllByRecursion (Answers pages) nodes
parts_answer pages level ih [] low high items nodes parts = absurd parts
parts_answer pages level ih (entry ∷ []) low high items nodes parts = ih entry.child low high items nodes parts
parts_answer pages level ih (entry ∷ (next ∷ rest)) low high items nodes (first, others, left, right, child, beyond, below, parts, joined, made) =
    subst (λ (ns : List ℕ). AllByRecursion (Answers pages) ns) (sym made) (all_join (Answers pages) left right
    (ih entry.child low (Some next.key) first left child)
    (parts_answer pages level ih (next ∷ rest) (Some next.key) high others right parts))

pub answering : (pages : ℕ → Image) (level page : ℕ) (low high : Option (List ℕ)) (items : List (List ℕ)) (nodes : List ℕ)
    → Stands pages level page low high items nodes → AllByRecursion (Answers pages) nodes
answering pages zero page low high items nodes (leaf, one) =
    subst (λ (ns : List ℕ). AllByRecursion (Answers pages) ns) (sym one) ((inl (leaf_answers pages page low high items leaf), leaf.number), tt)
answering pages (suc level) page low high items nodes (entries, below, inner, parts, made) =
    subst (λ (ns : List ℕ). AllByRecursion (Answers pages) ns) (sym made)
    (inner_answers pages page (suc level) entries inner, parts_answer pages level (answering pages level) entries low high items below parts)

pub descend : (pages : ℕ → Image) (level : ℕ) → Descends pages level
descend pages zero page low high items nodes key (leaf, one) from below = (
  [],
  page,
  refl,
  record {
    left = [];
    right = [];
    among = ap (leaves_of pages) one ∙ one_leaf pages page leaf.kind;
    readable = leaf_answers pages page low high items leaf;
    number = leaf.number;
    less = tt;
    more = tt;
  },
  (refl, leaf.kind, (inl (leaf_answers pages page low high items leaf), leaf.number)),
  refl,
)
descend pages (suc level) page low high items nodes key (entries, under, inner, parts, made) from below =
    let s = seek pages level (descend pages level) entries low high items under key parts from below in
    let c = child_of (pages page) page (suc level) entries key s.0 s.1 inner s.2 in (
      page ∷ s.3,
      s.4,
      (s.0, s.1, s.3 ++ s.4 ∷ [], c.0, c.1, c.2, s.5, refl),
      under_inner pages key page under nodes s.4 inner.kind made s.6,
      (refl, inner.kind, inner_answers pages page (suc level) entries inner, s.1.child, (s.0, s.1, c.0, c.1, c.2, refl), s.7),
      ap suc s.8,
    )
