-- Tables by their names, and one table more.
use Rattle.std.proofs.Common.{◌≡◌, ◌≢◌, ℕ, Bool, true, false, cond, List, [], ◌∷◌, ◌++◌, Option, Some, None, ◌⊎◌, inl, inr, refl, sym, ap, subst, ◌∙◌}
use Rattle.std.specs.Prelude.{filter, find, bytes_eq}
use Rattle.std.specs.Option.{option_or}
use Rattle.std.specs.List.{AllByRecursion}
use Rattle.std.specs.declared.cmp.Ordering.{Ordering}
use Rattle.std.specs.declared.cmp.Ordering.TheVariants.{Less, Equal, Greater}
use Rattle.std.specs.Ordering.{is_lt, is_gt, is_eq}
use Rattle.std.proofs.lemmas.Cmp.{nat_list_cmp_total, tied_itself}
use Rattle.std.proofs.lemmas.List.{map-append}
use Rattle.std.proofs.lemmas.List.Folds.{find-append}
use Rattle.std.proofs.lemmas.Slice.Eq.{bytes_eq-Decides}
use Rattle.std.proofs.lemmas.Map.Text.{is_eq-slice_cmp}
use Rattle.sql_values.specs.Order.{text_cmp}
use Rattle.page_view.specs.Keys.{key_in, key_cmp}
use Rattle.tree_change.specs.Effects.{with_item}
use Rattle.sql_catalog.specs.Catalog.{catalog_row}
use Rattle.paged_tables.specs.Items.{Entry, entry_item, entry_items, entry_named}
use Rattle.paged_tables.proofs.ItemLaws.{filter-map, filter_alike, key_of_row}

-- ---- names

pub same_name : (a b : List ℕ) → bytes_eq a b ≡ true → a ≡ b
same_name a b e = (bytes_eq-Decides a b).0 e

pub name_is : (a b : List ℕ) → a ≡ b → bytes_eq a b ≡ true
name_is a b e = (bytes_eq-Decides a b).1 e

pub other_name : (a b : List ℕ) → a ≢ b → bytes_eq a b ≡ false
other_name a b ne = go (bytes_eq a b) refl
  where
    go : (t : Bool) → bytes_eq a b ≡ t → t ≡ false
    go true e = absurd (ne (same_name a b e))
    go false e = refl

pub name_cases : (a b : List ℕ) → (a ≡ b) ⊎ (a ≢ b)
name_cases a b = go (bytes_eq a b) refl
  where
    go : (t : Bool) → bytes_eq a b ≡ t → (a ≡ b) ⊎ (a ≢ b)
    go true e = inl (same_name a b e)
    go false e = inr (λ same. let yes = name_is a b same in absurd cc)

-- ---- a table that is found

abbrev pub has_name : List ℕ → Entry → Bool
has_name t e = bytes_eq e.schema.table t

found_first : (P : Entry → Type 0) (t : List ℕ) (x e : Entry) (rest : Option Entry) (b : Bool) → has_name t x ≡ b → P x → (rest ≡ Some e → P e)
    → cond b (Some x) rest ≡ Some e → P e
found_first P t x e rest true is here others found = let same : x ≡ e = cc in subst P same here
found_first P t x e rest false is here others found = others found

-- what holds of each table holds of the one that is found
pub each_found : (P : Entry → Type 0) (entries : List Entry) (t : List ℕ) (e : Entry) → AllByRecursion P entries → entry_named entries t ≡ Some e → P e
each_found P [] t e all found = absurd cc
each_found P (x ∷ xs) t e all found =
    found_first P t x e (entry_named xs t) (has_name t x) refl all.0 (λ f. each_found P xs t e all.1 f) found

named_first : (t : List ℕ) (x e : Entry) (rest : Option Entry) (b : Bool) → has_name t x ≡ b → (rest ≡ Some e → e.schema.table ≡ t)
    → cond b (Some x) rest ≡ Some e → e.schema.table ≡ t
named_first t x e rest true is others found = let same : x ≡ e = cc in subst (λ (f : Entry). f.schema.table ≡ t) same (same_name x.schema.table t is)
named_first t x e rest false is others found = others found

-- it has the name
pub found_name : (entries : List Entry) (t : List ℕ) (e : Entry) → entry_named entries t ≡ Some e → e.schema.table ≡ t
found_name [] t e found = absurd cc
found_name (x ∷ xs) t e found = named_first t x e (entry_named xs t) (has_name t x) refl (λ f. found_name xs t e f) found

-- ---- the first that passes a test, among those that pass another

kept_first : {A : Type 0} (x : A) (b c : Bool) (p : A → Bool) (found : Option A) (kept : List A) → (b ≡ true → c ≡ true) → p x ≡ b → find p kept ≡ found
    → find p (cond c (x ∷ kept) kept) ≡ cond b (Some x) found
kept_first {A} x true true p found kept h is e = ap (λ (t : Bool). cond t (Some x) (find p kept)) is
kept_first {A} x true false p found kept h is e = let no = h refl in absurd cc
kept_first {A} x false true p found kept h is e = ap (λ (t : Bool). cond t (Some x) (find p kept)) is ∙ e
kept_first {A} x false false p found kept h is e = e

pub find_kept : {A : Type 0} (p q : A → Bool) → ((x : A) → p x ≡ true → q x ≡ true) → (xs : List A) → find p (filter q xs) ≡ find p xs
find_kept p q h [] = refl
find_kept p q h (x ∷ xs) = kept_first x (p x) (q x) p (find p xs) (filter q xs) (h x) refl (find_kept p q h xs)

dropped_first : {A : Type 0} (x : A) (b c : Bool) (p : A → Bool) (kept : List A) → (b ≡ true → c ≡ false) → p x ≡ b → find p kept ≡ None
    → find p (cond c (x ∷ kept) kept) ≡ None
dropped_first {A} x true true p kept h is e = let no = h refl in absurd cc
dropped_first {A} x true false p kept h is e = e
dropped_first {A} x false true p kept h is e = ap (λ (t : Bool). cond t (Some x) (find p kept)) is ∙ e
dropped_first {A} x false false p kept h is e = e

pub find_dropped : {A : Type 0} (p q : A → Bool) → ((x : A) → p x ≡ true → q x ≡ false) → (xs : List A) → find p (filter q xs) ≡ None
find_dropped p q h [] = refl
find_dropped p q h (x ∷ xs) = dropped_first x (p x) (q x) p (filter q xs) (h x) refl (find_dropped p q h xs)

-- ---- one table more, by its name

abbrev pub with_entry : Entry → List Entry → List Entry
with_entry e entries =
    filter (λ f. is_lt (text_cmp f.schema.table e.schema.table)) entries ++ e ∷ filter (λ f. is_gt (text_cmp f.schema.table e.schema.table)) entries

abbrev lesser : Entry → Entry → Bool
lesser e f = is_lt (text_cmp f.schema.table e.schema.table)

abbrev greater : Entry → Entry → Bool
greater e f = is_gt (text_cmp f.schema.table e.schema.table)

-- the test of an order at a table of that name
test_at : (test : Ordering → Bool) (t : List ℕ) (e f : Entry) (o : Ordering) → text_cmp t e.schema.table ≡ o → has_name t f ≡ true
    → test (text_cmp f.schema.table e.schema.table) ≡ test o
test_at test t e f o is named =
    ap (λ (name : List ℕ). test (text_cmp name e.schema.table)) (same_name f.schema.table t named) ∙ ap test is

or_none : {A : Type 0} (o : Option A) → option_or o None ≡ o
or_none None = refl
or_none (Some x) = refl

pub named_same : (e : Entry) (entries : List Entry) → entry_named (with_entry e entries) e.schema.table ≡ Some e
named_same e entries =
    let t : List ℕ = e.schema.table in
    let none : find (has_name t) (filter (lesser e) entries) ≡ None =
    find_dropped (has_name t) (lesser e) (λ f named. test_at is_lt t e f Equal (tied_itself nat_list_cmp_total t) named) entries in
    find-append (has_name t) (filter (lesser e) entries) (e ∷ filter (greater e) entries)
    ∙ ap (λ (o : Option Entry). option_or o (find (has_name t) (e ∷ filter (greater e) entries))) none
    ∙ ap (λ (b : Bool). cond b (Some e) (find (has_name t) (filter (greater e) entries))) (name_is t t refl)

named_in : (e : Entry) (entries : List Entry) (t : List ℕ) (o : Ordering) → t ≢ e.schema.table → text_cmp t e.schema.table ≡ o
    → entry_named (with_entry e entries) t ≡ entry_named entries t
named_in e entries t Less ne is =
    let front = find_kept (has_name t) (lesser e) (λ f named. test_at is_lt t e f Less is named) entries in
    let back = find_dropped (has_name t) (greater e) (λ f named. test_at is_gt t e f Less is named) entries in
    find-append (has_name t) (filter (lesser e) entries) (e ∷ filter (greater e) entries)
    ∙ ap (λ (o : Option Entry). option_or o (find (has_name t) (e ∷ filter (greater e) entries))) front
    ∙ ap (λ (b : Bool). option_or (entry_named entries t) (cond b (Some e) (find (has_name t) (filter (greater e) entries)))) (other_name e.schema.table t (λ same. ne (sym same)))
    ∙ ap (λ (o : Option Entry). option_or (entry_named entries t) o) back
    ∙ or_none (entry_named entries t)
named_in e entries t Greater ne is =
    let front = find_dropped (has_name t) (lesser e) (λ f named. test_at is_lt t e f Greater is named) entries in
    let back = find_kept (has_name t) (greater e) (λ f named. test_at is_gt t e f Greater is named) entries in
    find-append (has_name t) (filter (lesser e) entries) (e ∷ filter (greater e) entries)
    ∙ ap (λ (o : Option Entry). option_or o (find (has_name t) (e ∷ filter (greater e) entries))) front
    ∙ ap (λ (b : Bool). cond b (Some e) (find (has_name t) (filter (greater e) entries))) (other_name e.schema.table t (λ same. ne (sym same)))
    ∙ back
named_in e entries t Equal ne is =
    absurd (ne (same_name t e.schema.table (sym (is_eq-slice_cmp t e.schema.table) ∙ ap is_eq is)))

pub named_other : (e : Entry) (entries : List Entry) (t : List ℕ) → t ≢ e.schema.table → entry_named (with_entry e entries) t ≡ entry_named entries t
named_other e entries t ne = named_in e entries t (text_cmp t e.schema.table) ne refl

kept_chosen : {A : Type 0} (P : A → Type 0) (x : A) (b : Bool) (kept : List A) → P x → AllByRecursion P kept → AllByRecursion P (cond b (x ∷ kept) kept)
kept_chosen P x true kept here all = (here, all)
kept_chosen P x false kept here all = all

pub filter_all : {A : Type 0} (P : A → Type 0) (q : A → Bool) (xs : List A) → AllByRecursion P xs → AllByRecursion P (filter q xs)
filter_all P q [] all = tt
filter_all P q (x ∷ xs) all = kept_chosen P x (q x) (filter q xs) all.0 (filter_all P q xs all.1)

pub both_all : {A : Type 0} (P : A → Type 0) (xs ys : List A) → AllByRecursion P xs → AllByRecursion P ys → AllByRecursion P (xs ++ ys)
both_all P [] ys a b = b
both_all P (x ∷ xs) ys a b = (a.0, both_all P xs ys a.1 b)

pub each_with_entry : (P : Entry → Type 0) (e : Entry) (entries : List Entry) → AllByRecursion P entries → P e → AllByRecursion P (with_entry e entries)
each_with_entry P e entries all here =
    both_all P (filter (lesser e) entries) (e ∷ filter (greater e) entries) (filter_all P (lesser e) entries all) (here, filter_all P (greater e) entries all)

-- its item joins the items of the others
entries_filtered : (test : List ℕ → Bool) (entries : List Entry)
    → filter (λ item. test (key_in item)) (entry_items entries) ≡ entry_items (filter (λ f. test f.schema.table) entries)
entries_filtered test entries =
    filter-map (λ item. test (key_in item)) entry_item entries
    ∙ ap entry_items (filter_alike (λ f. test (key_in (entry_item f))) (λ f. test f.schema.table) (λ f. ap test (key_of_row 0 (catalog_row f.schema f.root))) entries)

pub items_with_entry : (e : Entry) (entries : List Entry) → entry_items (with_entry e entries) ≡ with_item e.schema.table (entry_item e) (entry_items entries)
items_with_entry e entries =
    let name : List ℕ = e.schema.table in
    map-append entry_item (filter (lesser e) entries) (e ∷ filter (greater e) entries)
    ∙ ap (λ (xs : List (List ℕ)). xs ++ entry_item e ∷ entry_items (filter (greater e) entries)) (sym (entries_filtered (λ x. is_lt (text_cmp x name)) entries))
    ∙ ap (λ (xs : List (List ℕ)). filter (λ item. is_lt (key_cmp (key_in item) name)) (entry_items entries) ++ entry_item e ∷ xs)
    (sym (entries_filtered (λ x. is_gt (text_cmp x name)) entries))
