-- The two halves of a page of a tree.
use Rattle.std.proofs.Common.{◌≡◌, ◌≢◌, ◌≤◌, ℕ, zero, suc, List, [], ◌∷◌, ◌++◌, length, map, drop, get_or, slice_get, Option, Some, None, refl, sym, ap, subst, ◌∙◌, arith}
use Rattle.rm_base.specs.declared.limits.TheConstants.{MAX_KEY_BYTES}
use Rattle.std.specs.List.{AllByRecursion}
use Rattle.std.proofs.lemmas.List as lists
use Rattle.std.proofs.lemmas.List.{take-append-drop, drop_more, take_at, drop_at, drop-drop, length-take-le, append_assoc, append-nil, map-append, length-map, length-append}
use Rattle.std.proofs.lemmas.Option.{same_Some}
use Rattle.std.specs.declared.cmp.Ordering.TheVariants.{Less, Equal, Greater}
use Rattle.rm_base.specs.Fields.{field}
use Rattle.page_image.specs.declared.kind.Kind.TheVariants.{Leaf, Inner}
use Rattle.page_image.specs.Image.{Image}
use Rattle.page_view.specs.Leaf.{HoldsLeaf}
use Rattle.page_view.specs.Inner.{InnerItem, inner_bytes, IsInner}
use Rattle.page_view.specs.Keys.{key_in, keys_of, key_cmp, Ascend}
use Rattle.bplus_tree.specs.Tree.{NotBelow, Beyond, Below, IsLeafPage, IsInnerPage, Parts, Stands}
use Rattle.tree_change.specs.Splits.{without_key, entry_of}
use Rattle.tree_change.proofs.PlaceLaws.{then_less, same_key, not_greater_from}
use Rattle.tree_change.proofs.ListLaws.{all_front, all_back, all_weaker}
use Rattle.tree_change.proofs.SortLaws.{Sorted, sorted_from, ascend_from, sorted_front, sorted_back, front_less_than}
use Rattle.tree_change.proofs.PartLaws.{Child, Focus, focus, join_back, parts_frame}
use Rattle.tree_change.proofs.SpotLaws.{SameAt, stands_frame}
use Rattle.tree_change.proofs.EntryLaws.{key_of_entry}

-- what is greater than a key is greater than the empty one
pub above_empty : (a b : List ℕ) → key_cmp a b ≡ Less → key_cmp [] b ≡ Less
above_empty [] b e = e
above_empty (x ∷ a) [] e = let h : Greater ≡ Less = e in cc
above_empty (x ∷ a) (y ∷ b) e = refl

-- the two halves, parted at a separator: the page keeps the left one, and page `new` gets the right one
pub record Halves (others : ℕ → Image) (level page new : ℕ) (lo hi : Option (List ℕ)) (sep : List ℕ) (items : List (List ℕ)) (nodes : List ℕ) : Type 0 where
  pub left_items : List (List ℕ)
  pub right_items : List (List ℕ)
  pub left_nodes : List ℕ
  pub right_nodes : List ℕ
  pub items_are : items ≡ left_items ++ right_items
  pub left : Stands others level page lo (Some sep) left_items left_nodes
  pub right : Stands others level new (Some sep) hi right_items right_nodes
  pub beyond : Beyond lo sep
  pub below : Below hi sep
  pub above : key_cmp [] sep ≡ Less
  pub short : length sep ≤ MAX_KEY_BYTES
  pub old_left : List ℕ
  pub old_right : List ℕ
  pub nodes_were : nodes ≡ page ∷ (old_left ++ old_right)
  pub nodes_are : left_nodes ++ right_nodes ≡ page ∷ (old_left ++ (new ∷ old_right))

-- ---- a leaf

beyond_from : (lo : Option (List ℕ)) (a b : List ℕ) → NotBelow lo a → key_cmp a b ≡ Less → Beyond lo b
beyond_from None a b h e = tt
beyond_from (Some lo) a b h e = then_less lo a b h e

short_key : (item : List ℕ) → HoldsLeaf item → length (key_in item) ≤ MAX_KEY_BYTES
short_key item h =
    let long = lists.length-take (get_or item 0 0) (drop 1 item) in
    let short = h.short_key in
    omega (arith, long, short)

pub leaf_parts : (others : ℕ → Image) (page new : ℕ) (lo hi : Option (List ℕ)) (a : List ℕ) (as' : List (List ℕ)) (b : List ℕ) (bs : List (List ℕ)) (im : Image)
    → IsLeafPage im page lo hi ((a ∷ as') ++ (b ∷ bs))
    → (others page).kind ≡ Leaf → (others page).page ≡ page → (others page).items ≡ a ∷ as'
    → (others new).kind ≡ Leaf → (others new).page ≡ new → (others new).items ≡ b ∷ bs
    → Halves others zero page new lo hi (key_in b) ((a ∷ as') ++ (b ∷ bs)) (page ∷ [])
leaf_parts others page new lo hi a as' b bs im h lk lp li rk rp ri =
    let s : Sorted ((a ∷ as') ++ (b ∷ bs)) = sorted_from ((a ∷ as') ++ (b ∷ bs)) h.ascend in
    let less : AllByRecursion (λ x. key_cmp (key_in x) (key_in b) ≡ Less) (a ∷ as') = front_less_than (a ∷ as') b bs s in
    let back : Sorted (b ∷ bs) = sorted_back (a ∷ as') (b ∷ bs) s in
    record {
      left_items = a ∷ as';
      right_items = b ∷ bs;
      left_nodes = page ∷ [];
      right_nodes = new ∷ [];
      items_are = refl;
      left = (
        record {
          kind = lk;
          number = lp;
          has = li;
          each = all_front HoldsLeaf (a ∷ as') (b ∷ bs) h.each;
          ascend = ascend_from (a ∷ as') (sorted_front (a ∷ as') (b ∷ bs) s);
          from = all_front (λ item. NotBelow lo (key_in item)) (a ∷ as') (b ∷ bs) h.from;
          below = less;
        },
        refl,
      );
      right = (
        record {
          kind = rk;
          number = rp;
          has = ri;
          each = all_back HoldsLeaf (a ∷ as') (b ∷ bs) h.each;
          ascend = ascend_from (b ∷ bs) back;
          from = (
            (λ e. let q : Equal ≡ Greater = sym (same_key (key_in b)) ∙ e in cc),
            all_weaker (λ y. key_cmp (key_in b) (key_in y) ≡ Less) (λ y. key_cmp (key_in b) (key_in y) ≢ Greater)
                (λ y l. not_greater_from (key_cmp (key_in b) (key_in y)) l) bs back.0,
          );
          below = all_back (λ item. Below hi (key_in item)) (a ∷ as') (b ∷ bs) h.below;
        },
        refl,
      );
      beyond = beyond_from lo (key_in a) (key_in b) h.from.0 less.0;
      below = (all_back (λ item. Below hi (key_in item)) (a ∷ as') (b ∷ bs) h.below).0;
      above = above_empty (key_in a) (key_in b) less.0;
      short = short_key b (all_back HoldsLeaf (a ∷ as') (b ∷ bs) h.each).0;
      old_left = [];
      old_right = [];
      nodes_were = refl;
      nodes_are = refl;
    }

-- ---- an inner page

pub without_first_key : (y : InnerItem) → without_key (inner_bytes y) ≡ entry_of [] y.child
without_first_key y =
    ap (λ (l : List ℕ). 0 ∷ l) (sym (drop-drop (length y.key) 1 (inner_bytes y)) ∙ drop_at y.key (field 4 y.child) (length y.key) refl)

-- the parts do not speak of the first key
first_key : (C : Child) (y z : InnerItem) (vs : List InnerItem) (lo hi : Option (List ℕ)) (items : List (List ℕ)) (nodes : List ℕ)
    → z.child ≡ y.child → Parts C (y ∷ vs) lo hi items nodes → Parts C (z ∷ vs) lo hi items nodes
first_key C y z [] lo hi items nodes e p = subst (λ (c : ℕ). C c lo hi items nodes) (sym e) p
first_key C y z (v ∷ vs) lo hi items nodes e p =
    (p.0, p.1, p.2, p.3, subst (λ (c : ℕ). C c lo (Some v.key) p.0 p.2) (sym e) p.4, p.5, p.6, p.7, p.8, p.9)

pub sorted_items : (im : Image) (page level : ℕ) (es : List InnerItem) → IsInnerPage im page level es → Sorted (map inner_bytes es)
sorted_items im page level es h = subst Sorted h.has (sorted_from im.items h.ascend)

right_sorted : (y : InnerItem) (vs : List InnerItem) → Sorted (map inner_bytes (y ∷ vs)) → Sorted (entry_of [] y.child ∷ map inner_bytes vs)
right_sorted y vs s = (
  all_weaker (λ v. key_cmp (key_in (inner_bytes y)) (key_in v) ≡ Less) (λ v. key_cmp (key_in (entry_of [] y.child)) (key_in v) ≡ Less)
      (λ v l. subst (λ (k : List ℕ). key_cmp k (key_in v) ≡ Less) (sym (key_of_entry (record { key = []; child = y.child })))
      (above_empty (key_in (inner_bytes y)) (key_in v) l))
      (map inner_bytes vs) s.0,
  s.1,
)

pub ascend_at : (im : Image) (items : List (List ℕ)) → im.items ≡ items → Sorted items → Ascend (keys_of im.items)
ascend_at im items e s = subst (λ (l : List (List ℕ)). Ascend (keys_of l)) (sym e) (ascend_from items s)

pub inner_parts : (pages others : ℕ → Image) (m page new : ℕ) (lo hi : Option (List ℕ)) (x : InnerItem) (us : List InnerItem) (y : InnerItem) (vs : List InnerItem)
    (items : List (List ℕ)) (below : List ℕ) (im : Image)
    → IsInnerPage im page (suc m) ((x ∷ us) ++ (y ∷ vs)) → Parts (Stands pages m) ((x ∷ us) ++ (y ∷ vs)) lo hi items below → SameAt pages others below
    → (others page).kind ≡ Inner → (others page).page ≡ page → (others page).level ≡ suc m → (others page).items ≡ map inner_bytes (x ∷ us)
    → (others new).kind ≡ Inner → (others new).page ≡ new → (others new).level ≡ suc m → (others new).items ≡ entry_of [] y.child ∷ map inner_bytes vs
    → Halves others (suc m) page new lo hi y.key items (page ∷ below)
inner_parts pages others m page new lo hi x us y vs items below im h parts same lk lp ll li rk rp rl ri =
    let z : InnerItem = record { key = []; child = y.child } in
    let f : Focus (Stands pages m) (x ∷ us) y vs lo hi items below = focus (Stands pages m) (x ∷ us) y vs lo hi items below parts in
    let P : ℕ → Type 0 = λ q. others q ≡ pages q in
    let each = λ (p : ℕ) (l k : Option (List ℕ)) (its : List (List ℕ)) (ns : List ℕ) (all : AllByRecursion P ns) (c : Stands pages m p l k its ns).
    stands_frame pages others m p l k its ns all c in
    let same' : SameAt pages others (f.left ++ (f.own ++ f.right)) = subst (SameAt pages others) f.nodes_are same in
    let left : Parts (Stands others m) (x ∷ us) lo (Some y.key) f.ahead f.left =
    parts_frame (Stands pages m) (Stands others m) P each (x ∷ us) lo (Some y.key) f.ahead f.left (all_front P f.left (f.own ++ f.right) same') f.front.3 in
    let right0 : Parts (Stands pages m) (y ∷ vs) f.lo hi (f.mid ++ f.after) (f.own ++ f.right) =
    join_back (Stands pages m) (y ∷ []) vs f.lo hi f.hi f.mid f.after f.own f.right f.child f.back in
    let right1 : Parts (Stands pages m) (y ∷ vs) (Some y.key) hi (f.mid ++ f.after) (f.own ++ f.right) =
    subst (λ (k : Option (List ℕ)). Parts (Stands pages m) (y ∷ vs) k hi (f.mid ++ f.after) (f.own ++ f.right)) f.front.0 right0 in
    let right2 : Parts (Stands others m) (y ∷ vs) (Some y.key) hi (f.mid ++ f.after) (f.own ++ f.right) =
    parts_frame (Stands pages m) (Stands others m) P each (y ∷ vs) (Some y.key) hi (f.mid ++ f.after) (f.own ++ f.right) (all_back P f.left (f.own ++ f.right) same') right1 in
    let right : Parts (Stands others m) (z ∷ vs) (Some y.key) hi (f.mid ++ f.after) (f.own ++ f.right) =
    first_key (Stands others m) y z vs (Some y.key) hi (f.mid ++ f.after) (f.own ++ f.right) refl right2 in
    let s0 : Sorted (map inner_bytes ((x ∷ us) ++ (y ∷ vs))) = sorted_items im page (suc m) ((x ∷ us) ++ (y ∷ vs)) h in
    let s : Sorted (map inner_bytes (x ∷ us) ++ (inner_bytes y ∷ map inner_bytes vs)) = subst Sorted (map-append inner_bytes (x ∷ us) (y ∷ vs)) s0 in
    let less = (front_less_than (map inner_bytes (x ∷ us)) (inner_bytes y) (map inner_bytes vs) s).0 in
    let back : Sorted (map inner_bytes (y ∷ vs)) = sorted_back (map inner_bytes (x ∷ us)) (inner_bytes y ∷ map inner_bytes vs) s in
    let all_right = all_back IsInner (x ∷ us) (y ∷ vs) h.each in
    let first : key_in (inner_bytes x) ≡ [] = same_Some (key_in (inner_bytes x)) [] (subst (λ (l : List (List ℕ)). slice_get (keys_of l) 0 ≡ Some []) h.has h.least) in
    record {
      left_items = f.ahead;
      right_items = f.mid ++ f.after;
      left_nodes = page ∷ f.left;
      right_nodes = new ∷ (f.own ++ f.right);
      items_are = f.items_are;
      left = (
        x ∷ us,
        f.left,
        record {
          kind = lk;
          number = lp;
          height = ll;
          has = li;
          each = all_front IsInner (x ∷ us) (y ∷ vs) h.each;
          short = all_front (λ entry. length entry.key ≤ MAX_KEY_BYTES) (x ∷ us) (y ∷ vs) h.short;
          least = subst (λ (l : List (List ℕ)). slice_get (keys_of l) 0 ≡ Some []) (sym li) (ap Some first);
          ascend = ascend_at (others page) (map inner_bytes (x ∷ us)) li (sorted_front (map inner_bytes (x ∷ us)) (inner_bytes y ∷ map inner_bytes vs) s);
        },
        left,
        refl,
      );
      right = (
        z ∷ vs,
        f.own ++ f.right,
        record {
          kind = rk;
          number = rp;
          height = rl;
          has = ri;
          each = (record { short_key = omega arith; child = all_right.0.child }, all_right.1);
          short = (omega arith, (all_back (λ entry. length entry.key ≤ MAX_KEY_BYTES) (x ∷ us) (y ∷ vs) h.short).1);
          least = subst (λ (l : List (List ℕ)). slice_get (keys_of l) 0 ≡ Some []) (sym ri) (ap Some (key_of_entry z));
          ascend = ascend_at (others new) (entry_of [] y.child ∷ map inner_bytes vs) ri (right_sorted y vs back);
        },
        right,
        refl,
      );
      beyond = f.front.1;
      below = f.front.2;
      above = above_empty (key_in (inner_bytes x)) y.key (subst (λ (k : List ℕ). key_cmp (key_in (inner_bytes x)) k ≡ Less) (key_of_entry y) less);
      short = (all_back (λ entry. length entry.key ≤ MAX_KEY_BYTES) (x ∷ us) (y ∷ vs) h.short).0;
      old_left = f.left;
      old_right = f.own ++ f.right;
      nodes_were = ap (λ (l : List ℕ). page ∷ l) f.nodes_are;
      nodes_are = refl;
    }
