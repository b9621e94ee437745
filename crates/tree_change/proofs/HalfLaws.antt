-- The items of a page one after another.
use Rattle.std.proofs.Common.{◌≡◌, ◌<◌, ◌≤◌, ◌+◌, ◌-◌, ℕ, zero, suc, true, List, [], ◌∷◌, ◌++◌, length, take, drop, get_or, sym, ap, ◌∙◌, arith, subst, inl, inr}
use Rattle.std.proofs.lemmas.List as lists
use Rattle.std.proofs.lemmas.List.{length-append, length-take-le, length-drop, take_more, take_all, take_rest, drop_more, append_assoc}
use Rattle.std.proofs.lemmas.List.Sums.{sum_by_more}
use Rattle.std.proofs.lemmas.List.Elements.{All-get_or, All-from_recursion}
use Rattle.std.proofs.lemmas.Bool.{cases_lt}
use Rattle.page_image.specs.declared.kind.Kind.TheVariants.{Inner}
use Rattle.page_image.specs.Image.{Image, used, is_inner}
use Rattle.redo_record.specs.declared.redo.Record.{Record}
use Rattle.redo_record.specs.declared.redo.Record.TheVariants.{InsertSlot}
use Rattle.tree_change.specs.declared.halves.TheConstants.{HALF_BYTES}
use Rattle.tree_change.specs.Splits.{inserts, right_half, without_key, first_without_key, IsSmall, IsHeavy, IsSplitPlace}

add_nothing : (n : ℕ) → n ≡ n + 0
add_nothing n = omega arith

pub inserts-append : (page n : ℕ) (xs ys : List (List ℕ)) → inserts page n (xs ++ ys) ≡ inserts page n xs ++ inserts page (n + length xs) ys
inserts-append page n [] ys = ap (λ (k : ℕ). inserts page k ys) (add_nothing n)
inserts-append page n (x ∷ xs) ys =
    ap (λ (l : List Record). InsertSlot page n x ∷ l)
    (inserts-append page (n + 1) xs ys
    ∙ ap (λ (k : ℕ). inserts page (n + 1) xs ++ inserts page k ys) (let e : n + 1 + length xs ≡ n + length (x ∷ xs) = omega arith in e))

-- one more item
pub inserts_more : (page from shift i index : ℕ) (items : List (List ℕ)) (item : List ℕ) → from ≤ i → i < length items → shift ≤ from → index ≡ i - shift → get_or items i [] ≡ item
    → inserts page (from - shift) (take (i + 1 - from) (drop from items)) ≡ inserts page (from - shift) (take (i - from) (drop from items)) ++ InsertSlot page index item ∷ []
inserts_more page from shift i index items item h w s e is =
    let k : ℕ = i - from in
    let rest : List (List ℕ) = drop from items in
    let long = length-drop from items in
    let inside : k < length rest = omega (arith, long) in
    let next : i + 1 - from ≡ k + 1 = omega arith in
    let here : get_or rest k [] ≡ item = lists.get_or-drop from items k [] ∙ ap (λ (n : ℕ). get_or items n []) (let q : from + k ≡ i = omega arith in q) ∙ is in
    let n : from - shift + length (take k rest) ≡ index = (let l = length-take-le k rest (omega arith) in omega (arith, l)) in
    ap (λ (n : ℕ). inserts page (from - shift) (take n rest)) next
    ∙ ap (inserts page (from - shift)) (take_more rest k [] inside)
    ∙ inserts-append page (from - shift) (take k rest) (get_or rest k [] ∷ [])
    ∙ ap (λ (m : ℕ). inserts page (from - shift) (take k rest) ++ InsertSlot page m (get_or rest k []) ∷ []) n
    ∙ ap (λ (x : List ℕ). inserts page (from - shift) (take k rest) ++ InsertSlot page index x ∷ []) here

pub used_more : (items : List (List ℕ)) (i : ℕ) → i < length items → used (take (i + 1) items) ≡ used (take i items) + (length (get_or items i []) + 2)
used_more items i h = sum_by_more (λ (x : List ℕ). length x + 2) items i [] h

pub small_at : (items : List (List ℕ)) (i : ℕ) → IsHeavy items → i < length items → IsSmall (get_or items i [])
small_at items i h w = All-get_or IsSmall items i [] w (All-from_recursion IsSmall items h.small)

-- a number of items that take half a page, where no lesser number does, is the split place
pub place_found : (items : List (List ℕ)) (n : ℕ) → IsHeavy items → n ≤ length items → HALF_BYTES ≤ used (take n items)
    → ((k : ℕ) → k < n → used (take k items) < HALF_BYTES) → IsSplitPlace items n
place_found items zero h w e less = absurd (omega arith)
place_found items (suc n) h w e less =
    let small = small_at items n h (omega arith) in
    let before = less n (omega arith) in
    let more = used_more items n (omega arith) in
    let next : n + 1 ≡ suc n = omega arith in
    let used_all = ap (λ (k : ℕ). used (take k items)) next in
    record {
      some = omega arith;
      within = inside items n h w (omega (arith, used_all, more, before, small.short));
      enough = e;
      least = less;
    }
  where
    inside : (items : List (List ℕ)) (n : ℕ) → IsHeavy items → suc n ≤ length items → used (take (suc n) items) < 3034 → suc n < length items
    inside items n h w lt =
        elim (cases_lt (suc n) (length items)) [
          | inl less ↦ less
          | inr all ↦ let same = ap used (take_all (suc n) items all) in absurd (let enough = h.enough in omega (arith, same, enough, lt))
        ]

-- the right half of an inner page
pub right_of_inner : (page : Image) (at : ℕ) (item : List ℕ) → page.kind ≡ Inner → at < length page.items → get_or page.items at [] ≡ item
    → right_half page at ≡ without_key item ∷ drop (at + 1) page.items
right_of_inner page at item e h is =
    let inner : is_inner page.kind ≡ true = ap is_inner e in
    rw inner (ap first_without_key (drop_more page.items at [] h) ∙ ap (λ (x : List ℕ). without_key x ∷ drop (at + 1) page.items) is)

-- what is put there record by record
pub moved_of_inner : (page : Image) (at new slots : ℕ) (item : List ℕ) (rs : List Record) → page.kind ≡ Inner → at < length page.items → get_or page.items at [] ≡ item → slots ≡ length page.items
    → (rs ++ InsertSlot new 0 (without_key item) ∷ []) ++ inserts new (at + 1 - at) (take (slots - (at + 1)) (drop (at + 1) page.items)) ≡ rs ++ inserts new 0 (right_half page at)
moved_of_inner page at new slots item rs e h is long =
    let one : at + 1 - at ≡ 1 = omega arith in
    append_assoc rs (InsertSlot new 0 (without_key item) ∷ []) (inserts new (at + 1 - at) (take (slots - (at + 1)) (drop (at + 1) page.items)))
    ∙ ap (λ (n : ℕ). rs ++ (InsertSlot new 0 (without_key item) ∷ inserts new n (take (slots - (at + 1)) (drop (at + 1) page.items)))) one
    ∙ ap (λ (l : List (List ℕ)). rs ++ (InsertSlot new 0 (without_key item) ∷ inserts new 1 l))
    (ap (λ (n : ℕ). take (n - (at + 1)) (drop (at + 1) page.items)) long ∙ take_rest page.items (at + 1))
    ∙ ap (λ (l : List (List ℕ)). rs ++ inserts new 0 l) (sym (right_of_inner page at item e h is))

-- the items of a heavy page reach half a page
pub full_without_place : (items : List (List ℕ)) (slots n : ℕ) → IsHeavy items → slots ≡ length items → length items ≤ n
    → ((k : ℕ) → k < n → used (take k items) < HALF_BYTES) → IsSplitPlace items slots
full_without_place items slots n h e le less =
    subst (λ (k : ℕ). IsSplitPlace items k) (sym e)
    (place_found items (length items) h (omega arith)
    (let all = ap used (take_all (length items) items (omega arith)) in let enough = h.enough in omega (arith, all, enough))
    (λ k lt. less k (omega arith)))
