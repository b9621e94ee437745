-- The records of a plan are those of one group, and the meta page's count after them.
use Rattle.std.proofs.Common.{◌≡◌, ◌≢◌, ◌<◌, ◌≤◌, ◌+◌, ◌-◌, ◌*◌, ◌^◌, ℕ, suc, Bool, true, false, cond, eqb, List, [], ◌∷◌, ◌++◌, length, take, drop, get_or, refl, sym, ap, subst, ◌∙◌, arith, inl, inr}
use Rattle.rm_base.specs.declared.limits.TheConstants.{PAGE_BYTES, PAGE_HEADER_BYTES}
use Rattle.std.specs.Prelude.{◌⊎◌}
use Rattle.std.specs.List.{AllByRecursion}
use Rattle.std.proofs.lemmas.List.{length-append, length-take, length-take-le, length-drop, drop_at}
use Rattle.std.proofs.lemmas.List.Elements.{All-from_recursion, All-get_or}
use Rattle.rm_base.specs.Fields.{field, number}
use Rattle.rm_base.proofs.FieldLaws.{length-field, number-field}
use Rattle.page_image.specs.Meta.{IsMeta, page_count}
use Rattle.page_image.specs.declared.kind.Kind.TheVariants.{Unmade, Leaf, Inner}
use Rattle.page_image.specs.Image.{Image, used, is_inner, LevelFits, patched}
use Rattle.page_view.specs.Leaf.{HoldsLeaf}
use Rattle.page_view.specs.Keys.{key_in}
use Rattle.redo_record.specs.declared.redo.Record.{Record}
use Rattle.redo_record.specs.declared.redo.Record.TheVariants.{Make, InsertSlot, Cut, Link}
use Rattle.redo_record.specs.Spelling.{IsAdmitted}
use Rattle.page_image.specs.declared.meta.TheConstants.{PAGE_COUNT_AT}
use Rattle.tree_change.specs.Pages.{HoldsChild, IsTreePage}
use Rattle.tree_change.specs.Places.{not_greater}
use Rattle.tree_change.specs.Splits.{counts, inserts, right_half, separator, entry_of, linked_on, linked_to, made_right, split_records, made_halves, made_root, root_split_records}
use Rattle.tree_change.specs.Effects.{MakeGroup, Counts}
use Rattle.tree_change.proofs.ListLaws.{all_join}
use Rattle.tree_change.proofs.MoveLaws.{used-cons}

abbrev AllAdmitted : List Record → Type 0
AllAdmitted records = AllByRecursion IsAdmitted records

-- ---- items that join a page

admitted_inserts : (page at : ℕ) (xs : List (List ℕ)) → AllByRecursion (λ x. 1 ≤ length x) xs → used xs ≤ PAGE_BYTES - PAGE_HEADER_BYTES → AllAdmitted (inserts page at xs)
admitted_inserts page at [] some room = tt
admitted_inserts page at (x ∷ xs) some room =
    let all = used-cons x xs in (
      (some.0, omega (arith, all, room)),
      admitted_inserts page (at + 1) xs some.1 (omega (arith, all, room)),
    )

length-inserts : (page at : ℕ) (xs : List (List ℕ)) → length (inserts page at xs) ≡ length xs
length-inserts page at [] = refl
length-inserts page at (x ∷ xs) = ap suc (length-inserts page (at + 1) xs)

few : (xs : List (List ℕ)) → length xs ≤ used xs
few [] = omega arith
few (x ∷ xs) = let all = used-cons x xs in let rest = few xs in omega (arith, all, rest)

-- ---- links

admitted_on : (page next : ℕ) → next ≤ 32767 → AllAdmitted (linked_on page next)
admitted_on page next bound = by_test (eqb next 0)
  where
    by_test : (b : Bool) → AllAdmitted (cond b [] (Link page next ∷ []))
    by_test true = tt
    by_test false = (bound, tt)

length_on : (page next : ℕ) → length (linked_on page next) ≤ 1
length_on page next = by_test (eqb next 0)
  where
    by_test : (b : Bool) → length (cond b [] (Link page next ∷ [])) ≤ 1
    by_test true = omega arith
    by_test false = omega arith

admitted_to : (split : Image) (page right : ℕ) → right ≤ 32767 → AllAdmitted (linked_to split page right)
admitted_to split page right bound = by_test (is_inner split.kind)
  where
    by_test : (b : Bool) → AllAdmitted (cond b [] (Link page right ∷ []))
    by_test true = tt
    by_test false = (bound, tt)

length_to : (split : Image) (page right : ℕ) → length (linked_to split page right) ≤ 1
length_to split page right = by_test (is_inner split.kind)
  where
    by_test : (b : Bool) → length (cond b [] (Link page right ∷ [])) ≤ 1
    by_test true = omega arith
    by_test false = omega arith

-- ---- the separator

short_row : (item : List ℕ) → HoldsLeaf item → length item ≤ 1000
short_row item h = h.short

short_child : (item : List ℕ) → HoldsChild item → length item ≤ 1000
short_child item h = let short = h.short in omega (arith, short)

short_item : (page : Image) (at : ℕ) → IsTreePage page → at < length page.items → length (get_or page.items at []) ≤ 1000
short_item page at (inl rows) within = short_row (get_or page.items at []) (All-get_or HoldsLeaf page.items at [] within (All-from_recursion HoldsLeaf page.items rows.items))
short_item page at (inr children) within =
    short_child (get_or page.items at []) (All-get_or HoldsChild page.items at [] within (All-from_recursion HoldsChild page.items children.items))

length-key_in : (item : List ℕ) → length (key_in item) ≤ length item
length-key_in item =
    let a = length-take (get_or item 0 0) (drop 1 item) in
    let b = length-drop 1 item in
    omega (arith, a, b)

fits_entry : (key : List ℕ) (child : ℕ) → length key ≤ 1000 → (1 ≤ length (entry_of key child)) × (length (entry_of key child) ≤ PAGE_BYTES - PAGE_HEADER_BYTES)
fits_entry key child short =
    let a = length-append key (field 4 child) in
    let f = length-field 4 child in
    (omega arith, omega (arith, a, f, short))

fits_separator : (page : Image) (at child : ℕ) → IsTreePage page → at < length page.items
    → (1 ≤ length (entry_of (separator page at) child)) × (length (entry_of (separator page at) child) ≤ PAGE_BYTES - PAGE_HEADER_BYTES)
fits_separator page at child tree within =
    let item = short_item page at tree within in
    let key = length-key_in (get_or page.items at []) in
    fits_entry (separator page at) child (omega (arith, item, key))

pub fits_count : (n : ℕ) → (1 ≤ length (field 4 n)) × (length (field 4 n) ≤ PAGE_BYTES - PAGE_HEADER_BYTES)
fits_count n = let f = length-field 4 n in (omega (arith, f), omega (arith, f))

-- ---- the plans

made_of : (page : Image) → IsTreePage page → page.kind ≢ Unmade
made_of page (inl rows) e = let h : Leaf ≡ Unmade = sym rows.kind ∙ e in cc
made_of page (inr children) e = let h : Inner ≡ Unmade = sym children.kind ∙ e in cc

pub split_group : (key : List ℕ) (parent page meta : Image) (at : ℕ) → IsTreePage page → at < length page.items → LevelFits page.kind page.level
    → AllByRecursion (λ x. 1 ≤ length x) (right_half page at) → used (right_half page at) ≤ PAGE_BYTES - PAGE_HEADER_BYTES → page.next ≤ 32767 → page_count meta ≤ 32767
    → MakeGroup (split_records key parent page at meta)
split_group key parent page meta at tree within level some room next bound =
    let new : ℕ = page_count meta in
    let moved : List Record = inserts new 0 (right_half page at) in
    let on : List Record = linked_on new page.next in
    let to : List Record = linked_to page page.page new in
    let last : List Record =
    Cut page.page at ∷ InsertSlot parent.page (not_greater key parent.items) (entry_of (separator page at) new) ∷ counts meta (new + 1) ∷ [] in
    let l1 = length-append moved on in
    let l2 = length-append (Make new page.kind page.level ∷ (moved ++ on)) (to ++ last) in
    let l3 = length-append to last in
    let n1 = length-inserts new 0 (right_half page at) in
    let n2 = few (right_half page at) in
    let n3 = length_on new page.next in
    let n4 = length_to page page.page new in
    record {
      some = omega arith;
      most = omega (arith, l1, l2, l3, n1, n2, n3, n4, room);
      each = all_join IsAdmitted (Make new page.kind page.level ∷ (moved ++ on)) (to ++ last)
          ((made_of page tree, level), all_join IsAdmitted moved on (admitted_inserts new 0 (right_half page at) some room) (admitted_on new page.next next))
          (all_join IsAdmitted to last (admitted_to page page.page new bound) (tt, (fits_separator page at new tree within, (fits_count (new + 1), tt))));
    }

pub root_group : (root meta : Image) (at : ℕ) → IsTreePage root → at < length root.items → LevelFits root.kind root.level → root.level < 8
    → AllByRecursion (λ x. 1 ≤ length x) (take at root.items) → used (take at root.items) ≤ PAGE_BYTES - PAGE_HEADER_BYTES
    → AllByRecursion (λ x. 1 ≤ length x) (right_half root at) → used (right_half root at) ≤ PAGE_BYTES - PAGE_HEADER_BYTES → page_count meta + 1 ≤ 32767
    → MakeGroup (root_split_records root at meta)
root_group root meta at tree within level low some_left room_left some_right room_right bound =
    let left : ℕ = page_count meta in
    let right : ℕ = page_count meta + 1 in
    let a : List Record = inserts left 0 (take at root.items) in
    let b : List Record = inserts right 0 (right_half root at) in
    let to : List Record = linked_to root left right in
    let top : List Record = made_root root at left right in
    let last : List Record = counts meta (right + 1) ∷ [] in
    let halves : List Record = Make left root.kind root.level ∷ Make right root.kind root.level ∷ (a ++ b) in
    let l1 = length-append a b in
    let l2 = length-append halves (to ++ (top ++ last)) in
    let l3 = length-append to (top ++ last) in
    let l4 = length-append top last in
    let n1 = length-inserts left 0 (take at root.items) in
    let n2 = few (take at root.items) in
    let n3 = length-inserts right 0 (right_half root at) in
    let n4 = few (right_half root at) in
    let n5 = length_to root left right in
    let inner : (Inner ≢ Unmade) × ((1 ≤ root.level + 1) × (root.level + 1 ≤ 8)) = ((λ e. cc), (omega arith, omega arith)) in
    record {
      some = omega arith;
      most = omega (arith, l1, l2, l3, l4, n1, n2, n3, n4, n5, room_left, room_right);
      each = all_join IsAdmitted halves (to ++ (top ++ last)) (
        (made_of root tree, level),
        (
          (made_of root tree, level),
          all_join IsAdmitted a b (admitted_inserts left 0 (take at root.items) some_left room_left) (admitted_inserts right 0 (right_half root at) some_right room_right),
        ),
      )
          (all_join IsAdmitted to (top ++ last) (admitted_to root left right bound)
          (all_join IsAdmitted top last (tt, (inner, (fits_entry [] left (omega arith), (fits_separator root at right tree within, tt)))) (fits_count (right + 1), tt)));
    }

-- ---- the count

pub counted : (meta : Image) (n lsn : ℕ) → IsMeta meta → length meta.body ≡ PAGE_BYTES - PAGE_HEADER_BYTES → n < 256 ^ 4 → Counts (patched meta PAGE_COUNT_AT (field 4 n) lsn) n
counted meta n lsn is long fits =
    let rest : List ℕ = drop (4 + length (field 4 n)) meta.body in
    let front : length (take 4 meta.body) ≡ 4 = length-take-le 4 meta.body (omega (arith, long)) in
    record {
      is_meta = record { kind = is.kind; number = is.number };
      count_is = ap (number 4) (drop_at (take 4 meta.body) (field 4 n ++ rest) 4 front) ∙ number-field 4 n rest fits;
    }
