-- Items that join a page one by one.
use Rattle.std.proofs.Common.{◌≡◌, ◌≤◌, ◌+◌, ◌-◌, ℕ, true, List, [], ◌∷◌, ◌++◌, length, take, drop, refl, sym, ap, subst, ◌∙◌, arith}
use Rattle.rm_base.specs.declared.limits.TheConstants.{PAGE_BYTES, PAGE_HEADER_BYTES}
use Rattle.std.specs.Prelude.{insert}
use Rattle.std.specs.List.{AllByRecursion}
use Rattle.std.proofs.lemmas.List.{append_assoc, append-nil, length-append}
use Rattle.std.proofs.lemmas.List.Edits.{insert_end}
use Rattle.std.proofs.lemmas.List.Sums.{sum_by-append, sum_by-cons, sum_by-take-drop}
use Rattle.page_image.specs.Image.{Image, used, free_of, is_slotted, inserted}
use Rattle.redo_record.specs.declared.redo.Record.TheVariants.{InsertSlot}
use Rattle.redo_record.specs.Effect.{page_of, after_records, RecordsApply}
use Rattle.tree_change.specs.Splits.{inserts}
use Rattle.tree_change.proofs.EffectLaws.{own_apply, own_after}

-- a page with more items at its end, and all else as before
pub record Filled (im : Image) (more : List (List ℕ)) (om : Image) : Type 0 where
  pub kind : om.kind ≡ im.kind
  pub page : om.page ≡ im.page
  pub next : om.next ≡ im.next
  pub level : om.level ≡ im.level
  pub items : om.items ≡ im.items ++ more

inserted_last : (im : Image) (n lsn : ℕ) (item : List ℕ) → length im.items ≡ n → (inserted im n item lsn).items ≡ im.items ++ item ∷ []
inserted_last im n lsn item e = ap (λ (k : ℕ). insert im.items k item) (sym e) ∙ insert_end im.items item

pub inserts_pages : (page n : ℕ) (xs : List (List ℕ)) → AllByRecursion (λ r. page_of r ≡ page) (inserts page n xs)
inserts_pages page n [] = tt
inserts_pages page n (x ∷ xs) = (refl, inserts_pages page (n + 1) xs)

pub filled : (page n lsn : ℕ) (xs : List (List ℕ)) (im : Image) → im.page ≡ page → length im.items ≡ n → Filled im xs (after_records lsn (inserts page n xs) im)
filled page n lsn [] im p e = record { kind = refl; page = refl; next = refl; level = refl; items = sym (append-nil im.items) }
filled page n lsn (x ∷ xs) im p e =
    let one : Image = inserted im n x lsn in
    let items : one.items ≡ im.items ++ x ∷ [] = inserted_last im n lsn x e in
    let long : length one.items ≡ n + 1 = (let a = ap length items in let b = length-append im.items (x ∷ []) in omega (arith, a, b, e)) in
    let rest : Filled one xs (after_records lsn (inserts page (n + 1) xs) one) = filled page (n + 1) lsn xs one p long in
    let all : Filled im (x ∷ xs) (after_records lsn (inserts page (n + 1) xs) one) = record {
      kind = rest.kind;
      page = rest.page;
      next = rest.next;
      level = rest.level;
      items = rest.items ∙ ap (λ (l : List (List ℕ)). l ++ xs) items ∙ append_assoc im.items (x ∷ []) xs;
    } in
    subst (λ (i : Image). Filled im (x ∷ xs) i) (sym (own_after lsn (InsertSlot page n x) (inserts page (n + 1) xs) im (sym p))) all

pub free_is : (im : Image) → is_slotted im.kind ≡ true → free_of im ≡ PAGE_BYTES - PAGE_HEADER_BYTES - used im.items
free_is im e = rw e refl

pub used-append : (xs ys : List (List ℕ)) → used (xs ++ ys) ≡ used xs + used ys
used-append xs ys = sum_by-append (λ (x : List ℕ). length x + 2) xs ys

pub used-cons : (x : List ℕ) (xs : List (List ℕ)) → used (x ∷ xs) ≡ length x + 2 + used xs
used-cons x xs = sum_by-cons (λ (y : List ℕ). length y + 2) x xs

pub used_halves : (n : ℕ) (xs : List (List ℕ)) → used (take n xs) + used (drop n xs) ≡ used xs
used_halves n xs = sum_by-take-drop (λ (x : List ℕ). length x + 2) xs n

pub inserts_apply : (page n lsn : ℕ) (xs : List (List ℕ)) (im : Image) → im.page ≡ page → length im.items ≡ n → is_slotted im.kind ≡ true
    → AllByRecursion (λ x. 1 ≤ length x) xs → used im.items + used xs ≤ PAGE_BYTES - PAGE_HEADER_BYTES → RecordsApply lsn (inserts page n xs) im
inserts_apply page n lsn [] im p e s some fits = tt
inserts_apply page n lsn (x ∷ xs) im p e s some fits =
    let one : Image = inserted im n x lsn in
    let items : one.items ≡ im.items ++ x ∷ [] = inserted_last im n lsn x e in
    let long : length one.items ≡ n + 1 = (let a = ap length items in let b = length-append im.items (x ∷ []) in omega (arith, a, b, e)) in
    let all = used-cons x xs in
    let last = used-cons x [] in
    let more = ap used items ∙ used-append im.items (x ∷ []) in
    let free = free_is im s in
    own_apply lsn (InsertSlot page n x) (inserts page (n + 1) xs) im (sym p)
    (record { slotted = s; some = some.0; place = (let q = e in omega (arith, q)); room = omega (arith, free, fits, all) })
    (inserts_apply page (n + 1) lsn xs one p long s some.1 (omega (arith, more, last, all, fits)))
