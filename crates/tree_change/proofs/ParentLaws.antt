-- An inner page with an entry for the new half of a child.
use Rattle.std.proofs.Common.{◌≡◌, ◌≤◌, ◌+◌, ℕ, suc, List, [], ◌∷◌, ◌++◌, length, map, drop, slice_get, Option, Some, refl, sym, ap, subst, ◌∙◌, arith}
use Rattle.rm_base.specs.declared.limits.TheConstants.{MAX_KEY_BYTES}
use Rattle.std.specs.Prelude.{insert}
use Rattle.std.specs.List.{AllByRecursion}
use Rattle.std.proofs.lemmas.List.{take_at, drop_at, append_assoc, map-append, length-map, length-append}
use Rattle.std.proofs.lemmas.Option.{same_Some}
use Rattle.std.specs.declared.cmp.Ordering.TheVariants.{Less}
use Rattle.page_image.specs.declared.kind.Kind.TheVariants.{Inner}
use Rattle.page_image.specs.Image.{Image}
use Rattle.page_view.specs.Inner.{InnerItem, inner_bytes, IsInner}
use Rattle.page_view.specs.Keys.{key_in, keys_of, key_cmp}
use Rattle.bplus_tree.specs.Tree.{Beyond, Below, IsInnerPage, Parts, Stands}
use Rattle.tree_change.proofs.PlaceLaws.{less_trans}
use Rattle.tree_change.proofs.ListLaws.{all_front, all_back, all_join, all_weaker}
use Rattle.tree_change.proofs.SortLaws.{Sorted, sorted_front, sorted_back, front_less_than, sorted_at}
use Rattle.tree_change.proofs.PartLaws.{Child, Front, Back, Focus, rejoin, front_frame, back_frame}
use Rattle.tree_change.proofs.SpotLaws.{SameAt, stands_frame}
use Rattle.tree_change.proofs.EntryLaws.{key_of_entry}
use Rattle.tree_change.proofs.SplitLaws.{Halves, sorted_items, ascend_at}

-- the entry joins the others behind the one of the child
pub entry_joins : (xs : List InnerItem) (entry e : InnerItem) (ys : List InnerItem) (items : List (List ℕ)) (n : ℕ)
    → items ≡ map inner_bytes (xs ++ (entry ∷ ys)) → n ≡ length xs + 1
    → insert items n (inner_bytes e) ≡ map inner_bytes (xs ++ (entry ∷ (e ∷ ys)))
entry_joins xs entry e ys items n has at =
    let front : List (List ℕ) = map inner_bytes (xs ++ entry ∷ []) in
    let back : List (List ℕ) = map inner_bytes ys in
    let parts : items ≡ front ++ back =
    has ∙ ap (map inner_bytes) (sym (append_assoc xs (entry ∷ []) ys)) ∙ map-append inner_bytes (xs ++ entry ∷ []) ys in
    let long : length front ≡ n = (let a = length-map (xs ++ entry ∷ []) inner_bytes in let b = length-append xs (entry ∷ []) in omega (arith, a, b, at)) in
    ap (λ (l : List (List ℕ)). insert l n (inner_bytes e)) parts
    ∙ ap (λ (l : List (List ℕ)). l ++ (inner_bytes e ∷ drop n (front ++ back))) (take_at front back n long)
    ∙ ap (λ (l : List (List ℕ)). front ++ (inner_bytes e ∷ l)) (drop_at front back n long)
    ∙ sym (map-append inner_bytes (xs ++ entry ∷ []) (e ∷ ys))
    ∙ ap (map inner_bytes) (append_assoc xs (entry ∷ []) (e ∷ ys))

-- ---- the keys still ascend

own_less : (C : Child) (xs : List InnerItem) (entry : InnerItem) (ys : List InnerItem) (low high lo : Option (List ℕ)) (items : List (List ℕ)) (nodes : List ℕ) (sep : List ℕ) (im : Image)
    → Front C xs entry.key low high lo items nodes → Beyond lo sep → key_cmp [] sep ≡ Less
    → im.items ≡ map inner_bytes (xs ++ (entry ∷ ys)) → slice_get (keys_of im.items) 0 ≡ Some [] → key_cmp entry.key sep ≡ Less
own_less C [] entry ys low high lo items nodes sep im f b a has least =
    let first : entry.key ≡ [] =
    sym (key_of_entry entry) ∙ same_Some (key_in (inner_bytes entry)) [] (subst (λ (l : List (List ℕ)). slice_get (keys_of l) 0 ≡ Some []) has least) in
    subst (λ (k : List ℕ). key_cmp k sep ≡ Less) (sym first) a
own_less C (x ∷ xs) entry ys low high lo items nodes sep im f b a has least = subst (λ (k : Option (List ℕ)). Beyond k sep) f.0 b

behind_less : (C : Child) (ys : List InnerItem) (lo high hi : Option (List ℕ)) (items : List (List ℕ)) (nodes : List ℕ) (sep : List ℕ)
    → Back C ys lo high hi items nodes → Below hi sep → Sorted (map inner_bytes ys) → AllByRecursion (λ y. key_cmp sep (key_in y) ≡ Less) (map inner_bytes ys)
behind_less C [] lo high hi items nodes sep b h s = tt
behind_less C (y ∷ ys) lo high hi items nodes sep b h s =
    let first : key_cmp sep y.key ≡ Less = subst (λ (k : Option (List ℕ)). Below k sep) b.0 h in
    let first' : key_cmp sep (key_in (inner_bytes y)) ≡ Less = subst (λ (k : List ℕ). key_cmp sep k ≡ Less) (sym (key_of_entry y)) first in (
      first',
      all_weaker (λ z. key_cmp (key_in (inner_bytes y)) (key_in z) ≡ Less) (λ z. key_cmp sep (key_in z) ≡ Less)
          (λ z l. less_trans sep (key_in (inner_bytes y)) (key_in z) first' l) (map inner_bytes ys) s.0,
    )

sorted_again : (xs : List InnerItem) (entry e : InnerItem) (ys : List InnerItem) → Sorted (map inner_bytes (xs ++ (entry ∷ ys)))
    → key_cmp entry.key e.key ≡ Less → AllByRecursion (λ y. key_cmp e.key (key_in y) ≡ Less) (map inner_bytes ys)
    → Sorted (map inner_bytes (xs ++ (entry ∷ (e ∷ ys))))
sorted_again xs entry e ys s0 less more =
    let X : List (List ℕ) = map inner_bytes xs in
    let Y : List (List ℕ) = map inner_bytes ys in
    let s : Sorted (X ++ (inner_bytes entry ∷ Y)) = subst Sorted (map-append inner_bytes xs (entry ∷ ys)) s0 in
    let back : Sorted (inner_bytes entry ∷ Y) = sorted_back X (inner_bytes entry ∷ Y) s in
    let less1 : key_cmp (key_in (inner_bytes entry)) e.key ≡ Less = subst (λ (k : List ℕ). key_cmp k e.key ≡ Less) (sym (key_of_entry entry)) less in
    let less' : key_cmp (key_in (inner_bytes entry)) (key_in (inner_bytes e)) ≡ Less =
    subst (λ (k : List ℕ). key_cmp (key_in (inner_bytes entry)) k ≡ Less) (sym (key_of_entry e)) less1 in
    let more' : AllByRecursion (λ y. key_cmp (key_in (inner_bytes e)) (key_in y) ≡ Less) Y =
    subst (λ (k : List ℕ). AllByRecursion (λ y. key_cmp k (key_in y) ≡ Less) Y) (sym (key_of_entry e)) more in
    let joined : Sorted (X ++ (inner_bytes entry ∷ (inner_bytes e ∷ Y))) =
    sorted_at X (inner_bytes entry) (inner_bytes e ∷ Y) (sorted_front X (inner_bytes entry ∷ Y) s) ((less', back.0), (more', back.1)) (front_less_than X (inner_bytes entry) Y s) in
    subst Sorted (sym (map-append inner_bytes xs (entry ∷ (e ∷ ys)))) joined

all_again : (P : InnerItem → Type 0) (xs : List InnerItem) (entry e : InnerItem) (ys : List InnerItem) → P e → AllByRecursion P (xs ++ (entry ∷ ys)) → AllByRecursion P (xs ++ (entry ∷ (e ∷ ys)))
all_again P xs entry e ys h all =
    let back = all_back P xs (entry ∷ ys) all in
    all_join P xs (entry ∷ (e ∷ ys)) (all_front P xs (entry ∷ ys) all) (back.0, (h, back.1))

least_again : (xs : List InnerItem) (entry e : InnerItem) (ys : List InnerItem) (im om : Image)
    → im.items ≡ map inner_bytes (xs ++ (entry ∷ ys)) → om.items ≡ map inner_bytes (xs ++ (entry ∷ (e ∷ ys)))
    → slice_get (keys_of im.items) 0 ≡ Some [] → slice_get (keys_of om.items) 0 ≡ Some []
least_again [] entry e ys im om has has' least =
    subst (λ (l : List (List ℕ)). slice_get (keys_of l) 0 ≡ Some []) (sym has') (subst (λ (l : List (List ℕ)). slice_get (keys_of l) 0 ≡ Some []) has least)
least_again (x ∷ xs) entry e ys im om has has' least =
    subst (λ (l : List (List ℕ)). slice_get (keys_of l) 0 ≡ Some []) (sym has') (subst (λ (l : List (List ℕ)). slice_get (keys_of l) 0 ≡ Some []) has least)

-- ---- and the page stands for the same items

pub parent_stands : (pages others : ℕ → Image) (l parent page new : ℕ) (low high : Option (List ℕ)) (xs : List InnerItem) (entry : InnerItem) (ys : List InnerItem)
    (items : List (List ℕ)) (below : List ℕ) (sep : List ℕ) (f : Focus (Stands pages l) xs entry ys low high items below)
    → IsInnerPage (pages parent) parent (suc l) (xs ++ (entry ∷ ys))
    → (h : Halves others l page new f.lo f.hi sep f.mid f.own) → entry.child ≡ page → SameAt pages others f.left → SameAt pages others f.right
    → (others parent).kind ≡ Inner → (others parent).page ≡ parent → (others parent).level ≡ suc l
    → (others parent).items ≡ map inner_bytes (xs ++ (entry ∷ (record { key = sep; child = new } ∷ ys))) → new ≤ 32767
    → Stands others (suc l) parent low high items (parent ∷ (f.left ++ ((h.left_nodes ++ h.right_nodes) ++ f.right)))
parent_stands pages others l parent page new low high xs entry ys items below sep f ip h is sl sr k p lv has bound =
    let e : InnerItem = record { key = sep; child = new } in
    let P : ℕ → Type 0 = λ q. others q ≡ pages q in
    let each = λ (q : ℕ) (lo hi : Option (List ℕ)) (its : List (List ℕ)) (ns : List ℕ) (all : AllByRecursion P ns) (c : Stands pages l q lo hi its ns).
    stands_frame pages others l q lo hi its ns all c in
    let front = front_frame (Stands pages l) (Stands others l) P each xs entry.key low high f.lo f.ahead f.left sl f.front in
    let back = back_frame (Stands pages l) (Stands others l) P each ys f.lo high f.hi f.after f.right sr f.back in
    let left : Stands others l entry.child f.lo (Some sep) h.left_items h.left_nodes =
    subst (λ (c : ℕ). Stands others l c f.lo (Some sep) h.left_items h.left_nodes) (sym is) h.left in
    let two : Parts (Stands others l) (entry ∷ (e ∷ [])) f.lo f.hi (h.left_items ++ h.right_items) (h.left_nodes ++ h.right_nodes) =
    (h.left_items, h.right_items, h.left_nodes, h.right_nodes, left, h.beyond, h.below, h.right, refl, refl) in
    let parts : Parts (Stands others l) (xs ++ (entry ∷ (e ∷ ys))) low high (f.ahead ++ ((h.left_items ++ h.right_items) ++ f.after)) (f.left ++ ((h.left_nodes ++ h.right_nodes) ++ f.right)) =
    rejoin (Stands others l) xs (entry ∷ (e ∷ [])) ys entry.key low high f.lo f.hi f.ahead (h.left_items ++ h.right_items) f.after f.left (h.left_nodes ++ h.right_nodes) f.right front back refl two in
    let items_are : items ≡ f.ahead ++ ((h.left_items ++ h.right_items) ++ f.after) = f.items_are ∙ ap (λ (m : List (List ℕ)). f.ahead ++ (m ++ f.after)) h.items_are in
    let sorted0 = sorted_items (pages parent) parent (suc l) (xs ++ (entry ∷ ys)) ip in
    let sorted1 : Sorted (map inner_bytes xs ++ (inner_bytes entry ∷ map inner_bytes ys)) = subst Sorted (map-append inner_bytes xs (entry ∷ ys)) sorted0 in
    let ys_sorted : Sorted (map inner_bytes ys) = (sorted_back (map inner_bytes xs) (inner_bytes entry ∷ map inner_bytes ys) sorted1).1 in
    let less = own_less (Stands pages l) xs entry ys low high f.lo f.ahead f.left sep (pages parent) f.front h.beyond h.above ip.has ip.least in
    let more = behind_less (Stands pages l) ys f.lo high f.hi f.after f.right sep f.back h.below ys_sorted in (
      xs ++ (entry ∷ (e ∷ ys)),
      f.left ++ ((h.left_nodes ++ h.right_nodes) ++ f.right),
      record {
        kind = k;
        number = p;
        height = lv;
        has = has;
        each = all_again IsInner xs entry e ys (record { short_key = (let s = h.short in omega (arith, s)); child = bound }) ip.each;
        short = all_again (λ x. length x.key ≤ MAX_KEY_BYTES) xs entry e ys h.short ip.short;
        least = least_again xs entry e ys (pages parent) (others parent) ip.has has ip.least;
        ascend = ascend_at (others parent) (map inner_bytes (xs ++ (entry ∷ (e ∷ ys)))) has (sorted_again xs entry e ys sorted0 less more);
      },
      subst (λ (m : List (List ℕ)). Parts (Stands others l) (xs ++ (entry ∷ (e ∷ ys))) low high m (f.left ++ ((h.left_nodes ++ h.right_nodes) ++ f.right))) (sym items_are) parts,
      refl,
    )
