-- What the records of a split do to each page.
use Rattle.std.proofs.Common.{◌≡◌, ◌≢◌, ◌≤◌, ◌+◌, ◌-◌, ℕ, Bool, true, false, cond, eqb, List, [], ◌∷◌, ◌++◌, length, refl, sym, ap, subst, ◌∙◌, arith, inl}
use Rattle.rm_base.specs.declared.limits.TheConstants.{PAGE_BYTES, PAGE_HEADER_BYTES}
use Rattle.std.specs.List.{AllByRecursion}
use Rattle.std.proofs.lemmas.Bool.{eqb-true}
use Rattle.rm_base.specs.Fields.{field}
use Rattle.rm_base.proofs.FieldLaws.{length-field}
use Rattle.page_image.specs.Meta.{page_count}
use Rattle.page_image.specs.declared.kind.Kind.{Kind}
use Rattle.page_image.specs.declared.kind.Kind.TheVariants.{Unmade, Meta}
use Rattle.page_image.specs.Image.{Image, unmade, used, is_slotted, is_inner, has_body, LevelFits, made, CanInsert, inserted, cut_from, linked, CanPatch, patched}
use Rattle.redo_record.specs.declared.redo.Record.{Record}
use Rattle.redo_record.specs.declared.redo.Record.TheVariants.{Make, InsertSlot, Cut, Link}
use Rattle.redo_record.specs.Effect.{page_of, after_records, RecordsApply}
use Rattle.redo_record.proofs.Fold.{after_records-append, RecordsApply-append}
use Rattle.page_image.specs.declared.meta.TheConstants.{PAGE_COUNT_AT}
use Rattle.tree_change.specs.Places.{not_greater}
use Rattle.tree_change.specs.Splits.{right_half, separator, inserts, linked_on, linked_to, counts, entry_of, made_right, split_records}
use Rattle.tree_change.proofs.ListLaws.{all_join}
use Rattle.tree_change.proofs.EffectLaws.{NoneFor, none_of, untouched, none_apply, skip, skip_apply, own_apply, other_apply, own_after, other_after}
use Rattle.tree_change.proofs.MoveLaws.{inserts_pages, filled, inserts_apply}

-- ---- the pages of the records

pub linked_on_pages : (page next : ℕ) → AllByRecursion (λ r. page_of r ≡ page) (linked_on page next)
linked_on_pages page next = by_test (eqb next 0)
  where
    by_test : (b : Bool) → AllByRecursion (λ r. page_of r ≡ page) (cond b [] (Link page next ∷ []))
    by_test true = tt
    by_test false = (refl, tt)

pub linked_to_pages : (split : Image) (page right : ℕ) → AllByRecursion (λ r. page_of r ≡ page) (linked_to split page right)
linked_to_pages split page right = by_test (is_inner split.kind)
  where
    by_test : (b : Bool) → AllByRecursion (λ r. page_of r ≡ page) (cond b [] (Link page right ∷ []))
    by_test true = tt
    by_test false = (refl, tt)

pub made_right_pages : (page : Image) (at new : ℕ) → AllByRecursion (λ r. page_of r ≡ new) (made_right page at new)
made_right_pages page at new =
    (refl, all_join (λ r. page_of r ≡ new) (inserts new 0 (right_half page at)) (linked_on new page.next) (inserts_pages new 0 (right_half page at)) (linked_on_pages new page.next))

-- ---- a new page

-- a page that was made with these items
pub record IsMade (kind : Kind) (page level next : ℕ) (items : List (List ℕ)) (om : Image) : Type 0 where
  pub kind_is : om.kind ≡ kind
  pub number : om.page ≡ page
  pub level_is : om.level ≡ level
  pub next_is : om.next ≡ next
  pub items_are : om.items ≡ items

after_linked_on : (lsn page next : ℕ) (kind : Kind) (level : ℕ) (items : List (List ℕ)) (om : Image) → IsMade kind page level 0 items om
    → IsMade kind page level next items (after_records lsn (linked_on page next) om)
after_linked_on lsn page next kind level items om h = by_test (eqb next 0) refl
  where
    by_test : (b : Bool) → eqb next 0 ≡ b → IsMade kind page level next items (after_records lsn (cond b [] (Link page next ∷ [])) om)
    by_test true e = record { kind_is = h.kind_is; number = h.number; level_is = h.level_is; next_is = h.next_is ∙ sym (eqb-true next 0 e); items_are = h.items_are }
    by_test false e =
        subst (IsMade kind page level next items) (sym (own_after lsn (Link page next) [] om (sym h.number)))
        (record { kind_is = h.kind_is; number = h.number; level_is = h.level_is; next_is = refl; items_are = h.items_are })

filled_is_made : (kind : Kind) (page level lsn : ℕ) (xs : List (List ℕ)) → IsMade kind page level 0 xs (after_records lsn (inserts page 0 xs) (made (unmade page) kind level lsn))
filled_is_made kind page level lsn xs =
    let f = filled page 0 lsn xs (made (unmade page) kind level lsn) refl refl in
    record { kind_is = f.kind; number = f.page; level_is = f.level; next_is = f.next; items_are = f.items }

-- a page that is made, filled and linked on
pub after_made : (kind : Kind) (page level next lsn : ℕ) (xs : List (List ℕ))
    → IsMade kind page level next xs (after_records lsn (Make page kind level ∷ (inserts page 0 xs ++ linked_on page next)) (unmade page))
after_made kind page level next lsn xs =
    let one : Image = made (unmade page) kind level lsn in
    subst (IsMade kind page level next xs)
    (sym (own_after lsn (Make page kind level) (inserts page 0 xs ++ linked_on page next) (unmade page) refl ∙ after_records-append lsn (inserts page 0 xs) (linked_on page next) one))
    (after_linked_on lsn page next kind level xs (after_records lsn (inserts page 0 xs) one) (filled_is_made kind page level lsn xs))

apply_linked_on : (lsn page next : ℕ) (om : Image) → is_slotted om.kind ≡ true → next ≤ 32767 → RecordsApply lsn (linked_on page next) om
apply_linked_on lsn page next om s b = by_test (eqb next 0)
  where
    by_test : (t : Bool) → RecordsApply lsn (cond t [] (Link page next ∷ [])) om
    by_test true = tt
    by_test false = ((λ _. record { slotted = s; bound = b }), tt)

pub apply_made : (kind : Kind) (page level next lsn : ℕ) (xs : List (List ℕ)) → kind ≢ Unmade → LevelFits kind level → is_slotted kind ≡ true
    → AllByRecursion (λ x. 1 ≤ length x) xs → used xs ≤ PAGE_BYTES - PAGE_HEADER_BYTES → next ≤ 32767
    → RecordsApply lsn (Make page kind level ∷ (inserts page 0 xs ++ linked_on page next)) (unmade page)
apply_made kind page level next lsn xs some fits slotted each room bound =
    let one : Image = made (unmade page) kind level lsn in
    let f = filled_is_made kind page level lsn xs in
    own_apply lsn (Make page kind level) (inserts page 0 xs ++ linked_on page next) (unmade page) refl
    (record { some = some; fits = fits; from = inl refl })
    (RecordsApply-append lsn (inserts page 0 xs) (linked_on page next) one
    (inserts_apply page 0 lsn xs one refl refl slotted each (omega (arith, room)))
    (apply_linked_on lsn page next (after_records lsn (inserts page 0 xs) one) (ap is_slotted f.kind_is ∙ slotted) bound))

-- ---- the pages of a split

-- four pages that differ
pub record Apart (a b c d : ℕ) : Type 0 where
  pub ab : a ≢ b
  pub ac : a ≢ c
  pub ad : a ≢ d
  pub bc : b ≢ c
  pub bd : b ≢ d
  pub cd : c ≢ d

turn : (a b : ℕ) → a ≢ b → b ≢ a
turn a b h e = h (sym e)

abbrev pub last_records : List ℕ → Image → Image → ℕ → Image → List Record
last_records key parent page at meta =
    Cut page.page at ∷ InsertSlot parent.page (not_greater key parent.items) (entry_of (separator page at) (page_count meta)) ∷ counts meta (page_count meta + 1) ∷ []

pub on_new : (key : List ℕ) (parent page meta : Image) (at lsn : ℕ) → Apart parent.page page.page (page_count meta) meta.page
    → IsMade page.kind (page_count meta) page.level page.next (right_half page at) (after_records lsn (split_records key parent page at meta) (unmade (page_count meta)))
on_new key parent page meta at lsn d =
    let new : ℕ = page_count meta in
    let rest : List Record = linked_to page page.page new ++ last_records key parent page at meta in
    let om : Image = after_records lsn (made_right page at new) (unmade new) in
    let m : IsMade page.kind new page.level page.next (right_half page at) om = after_made page.kind new page.level page.next lsn (right_half page at) in
    let other = λ (p : ℕ) (ne : p ≢ new) (e : p ≡ om.page). ne (e ∙ m.number) in
    let none : NoneFor om.page rest =
    all_join (λ r. page_of r ≢ om.page) (linked_to page page.page new) (last_records key parent page at meta)
    (none_of page.page om.page (linked_to page page.page new) (linked_to_pages page page.page new) (other page.page d.bc))
    (other page.page d.bc, (other parent.page d.ac, (other meta.page (turn (page_count meta) meta.page d.cd), tt))) in
    subst (IsMade page.kind new page.level page.next (right_half page at))
    (sym (after_records-append lsn (made_right page at new) rest (unmade new) ∙ untouched lsn rest om none)) m

pub apply_new : (key : List ℕ) (parent page meta : Image) (at lsn : ℕ) → Apart parent.page page.page (page_count meta) meta.page
    → page.kind ≢ Unmade → LevelFits page.kind page.level → is_slotted page.kind ≡ true
    → AllByRecursion (λ x. 1 ≤ length x) (right_half page at) → used (right_half page at) ≤ PAGE_BYTES - PAGE_HEADER_BYTES → page.next ≤ 32767
    → RecordsApply lsn (split_records key parent page at meta) (unmade (page_count meta))
apply_new key parent page meta at lsn d some fits slotted each room bound =
    let new : ℕ = page_count meta in
    let rest : List Record = linked_to page page.page new ++ last_records key parent page at meta in
    let om : Image = after_records lsn (made_right page at new) (unmade new) in
    let m : IsMade page.kind new page.level page.next (right_half page at) om = after_made page.kind new page.level page.next lsn (right_half page at) in
    let other = λ (p : ℕ) (ne : p ≢ new) (e : p ≡ om.page). ne (e ∙ m.number) in
    let none : NoneFor om.page rest =
    all_join (λ r. page_of r ≢ om.page) (linked_to page page.page new) (last_records key parent page at meta)
    (none_of page.page om.page (linked_to page page.page new) (linked_to_pages page page.page new) (other page.page d.bc))
    (other page.page d.bc, (other parent.page d.ac, (other meta.page (turn (page_count meta) meta.page d.cd), tt))) in
    RecordsApply-append lsn (made_right page at new) rest (unmade new) (apply_made page.kind new page.level page.next lsn (right_half page at) some fits slotted each room bound)
    (none_apply lsn rest om none)

none_made : (page im : Image) (at new : ℕ) → new ≢ im.page → NoneFor im.page (made_right page at new)
none_made page im at new ne = none_of new im.page (made_right page at new) (made_right_pages page at new) ne

none_linked : (page im : Image) (p new : ℕ) → p ≢ im.page → NoneFor im.page (linked_to page p new)
none_linked page im p new ne = none_of p im.page (linked_to page p new) (linked_to_pages page p new) ne

pub on_parent : (key : List ℕ) (parent page meta : Image) (at lsn : ℕ) → Apart parent.page page.page (page_count meta) meta.page
    → after_records lsn (split_records key parent page at meta) parent ≡ inserted parent (not_greater key parent.items) (entry_of (separator page at) (page_count meta)) lsn
on_parent key parent page meta at lsn d =
    let new : ℕ = page_count meta in
    let n : ℕ = not_greater key parent.items in
    let entry : List ℕ = entry_of (separator page at) new in
    let last : List Record = last_records key parent page at meta in
    skip lsn (made_right page at new) (linked_to page page.page new ++ last) parent (none_made page parent at new (turn parent.page new d.ac))
    ∙ skip lsn (linked_to page page.page new) last parent (none_linked page parent page.page new (turn parent.page page.page d.ab))
    ∙ other_after lsn (Cut page.page at) (InsertSlot parent.page n entry ∷ counts meta (new + 1) ∷ []) parent (turn parent.page page.page d.ab)
    ∙ own_after lsn (InsertSlot parent.page n entry) (counts meta (new + 1) ∷ []) parent refl
    ∙ other_after lsn (counts meta (new + 1)) [] (inserted parent n entry lsn) (turn parent.page meta.page d.ad)

pub apply_parent : (key : List ℕ) (parent page meta : Image) (at lsn : ℕ) → Apart parent.page page.page (page_count meta) meta.page
    → CanInsert parent (not_greater key parent.items) (entry_of (separator page at) (page_count meta)) → RecordsApply lsn (split_records key parent page at meta) parent
apply_parent key parent page meta at lsn d can =
    let new : ℕ = page_count meta in
    let n : ℕ = not_greater key parent.items in
    let entry : List ℕ = entry_of (separator page at) new in
    let last : List Record = last_records key parent page at meta in
    skip_apply lsn (made_right page at new) (linked_to page page.page new ++ last) parent (none_made page parent at new (turn parent.page new d.ac))
    (skip_apply lsn (linked_to page page.page new) last parent (none_linked page parent page.page new (turn parent.page page.page d.ab))
    (other_apply lsn (Cut page.page at) (InsertSlot parent.page n entry ∷ counts meta (new + 1) ∷ []) parent (turn parent.page page.page d.ab)
    (own_apply lsn (InsertSlot parent.page n entry) (counts meta (new + 1) ∷ []) parent refl can
    (other_apply lsn (counts meta (new + 1)) [] (inserted parent n entry lsn) (turn parent.page meta.page d.ad) tt))))

-- the page that is split, linked to the new one where it is a leaf
abbrev pub linked_page : Image → ℕ → ℕ → Image
linked_page page new lsn = cond (is_inner page.kind) page (linked page new lsn)

linked_step : (page : Image) (new lsn : ℕ) → after_records lsn (linked_to page page.page new) page ≡ linked_page page new lsn
linked_step page new lsn = by_test (is_inner page.kind)
  where
    by_test : (b : Bool) → after_records lsn (cond b [] (Link page.page new ∷ [])) page ≡ cond b page (linked page new lsn)
    by_test true = refl
    by_test false = own_after lsn (Link page.page new) [] page refl

linked_number : (page : Image) (new lsn : ℕ) → (linked_page page new lsn).page ≡ page.page
linked_number page new lsn = by_test (is_inner page.kind)
  where
    by_test : (b : Bool) → (cond b page (linked page new lsn)).page ≡ page.page
    by_test true = refl
    by_test false = refl

pub on_page : (key : List ℕ) (parent page meta : Image) (at lsn : ℕ) → Apart parent.page page.page (page_count meta) meta.page
    → after_records lsn (split_records key parent page at meta) page ≡ cut_from (linked_page page (page_count meta) lsn) at lsn
on_page key parent page meta at lsn d =
    let new : ℕ = page_count meta in
    let n : ℕ = not_greater key parent.items in
    let entry : List ℕ = entry_of (separator page at) new in
    let last : List Record = last_records key parent page at meta in
    let one : Image = linked_page page new lsn in
    let number : one.page ≡ page.page = linked_number page new lsn in
    skip lsn (made_right page at new) (linked_to page page.page new ++ last) page (none_made page page at new (turn page.page new d.bc))
    ∙ after_records-append lsn (linked_to page page.page new) last page
    ∙ ap (λ (i : Image). after_records lsn last i) (linked_step page new lsn)
    ∙ own_after lsn (Cut page.page at) (InsertSlot parent.page n entry ∷ counts meta (new + 1) ∷ []) one (sym number)
    ∙ other_after lsn (InsertSlot parent.page n entry) (counts meta (new + 1) ∷ []) (cut_from one at lsn) (λ e. d.ab (e ∙ number))
    ∙ other_after lsn (counts meta (new + 1)) [] (cut_from one at lsn) (λ e. d.bd (sym (e ∙ number)))

linked_apply : (lsn new : ℕ) (page : Image) → is_slotted page.kind ≡ true → new ≤ 32767 → RecordsApply lsn (linked_to page page.page new) page
linked_apply lsn new page s b = by_test (is_inner page.kind)
  where
    by_test : (t : Bool) → RecordsApply lsn (cond t [] (Link page.page new ∷ [])) page
    by_test true = tt
    by_test false = ((λ _. record { slotted = s; bound = b }), tt)

linked_kind : (page : Image) (new lsn : ℕ) → (linked_page page new lsn).kind ≡ page.kind
linked_kind page new lsn = by_test (is_inner page.kind)
  where
    by_test : (b : Bool) → (cond b page (linked page new lsn)).kind ≡ page.kind
    by_test true = refl
    by_test false = refl

linked_items : (page : Image) (new lsn : ℕ) → (linked_page page new lsn).items ≡ page.items
linked_items page new lsn = by_test (is_inner page.kind)
  where
    by_test : (b : Bool) → (cond b page (linked page new lsn)).items ≡ page.items
    by_test true = refl
    by_test false = refl

pub apply_page : (key : List ℕ) (parent page meta : Image) (at lsn : ℕ) → Apart parent.page page.page (page_count meta) meta.page
    → is_slotted page.kind ≡ true → page_count meta ≤ 32767 → at ≤ length page.items → RecordsApply lsn (split_records key parent page at meta) page
apply_page key parent page meta at lsn d s b within =
    let new : ℕ = page_count meta in
    let n : ℕ = not_greater key parent.items in
    let entry : List ℕ = entry_of (separator page at) new in
    let last : List Record = last_records key parent page at meta in
    let one : Image = linked_page page new lsn in
    let number : one.page ≡ page.page = linked_number page new lsn in
    let long = ap length (linked_items page new lsn) in
    skip_apply lsn (made_right page at new) (linked_to page page.page new ++ last) page (none_made page page at new (turn page.page new d.bc))
    (RecordsApply-append lsn (linked_to page page.page new) last page (linked_apply lsn new page s b)
    (subst (λ (i : Image). RecordsApply lsn last i) (sym (linked_step page new lsn))
    (own_apply lsn (Cut page.page at) (InsertSlot parent.page n entry ∷ counts meta (new + 1) ∷ []) one (sym number)
    (record { slotted = ap is_slotted (linked_kind page new lsn) ∙ s; within = omega (arith, long, within) })
    (other_apply lsn (InsertSlot parent.page n entry) (counts meta (new + 1) ∷ []) (cut_from one at lsn) (λ e. d.ab (e ∙ number))
    (other_apply lsn (counts meta (new + 1)) [] (cut_from one at lsn) (λ e. d.bd (sym (e ∙ number))) tt)))))

pub can_count : (meta : Image) (n : ℕ) → meta.kind ≡ Meta → CanPatch meta PAGE_COUNT_AT (field 4 n)
can_count meta n e =
    let long = length-field 4 n in
    record { fields = ap has_body e; past_header = omega arith; within = omega (arith, long) }

pub apply_meta : (key : List ℕ) (parent page meta : Image) (at lsn : ℕ) → Apart parent.page page.page (page_count meta) meta.page → meta.kind ≡ Meta
    → RecordsApply lsn (split_records key parent page at meta) meta
apply_meta key parent page meta at lsn d e =
    let new : ℕ = page_count meta in
    let n : ℕ = not_greater key parent.items in
    let entry : List ℕ = entry_of (separator page at) new in
    let last : List Record = last_records key parent page at meta in
    skip_apply lsn (made_right page at new) (linked_to page page.page new ++ last) meta (none_made page meta at new d.cd)
    (skip_apply lsn (linked_to page page.page new) last meta (none_linked page meta page.page new d.bd)
    (other_apply lsn (Cut page.page at) (InsertSlot parent.page n entry ∷ counts meta (new + 1) ∷ []) meta d.bd
    (other_apply lsn (InsertSlot parent.page n entry) (counts meta (new + 1) ∷ []) meta d.ad
    (own_apply lsn (counts meta (new + 1)) [] meta refl (can_count meta (new + 1) e) tt))))

pub on_meta : (key : List ℕ) (parent page meta : Image) (at lsn : ℕ) → Apart parent.page page.page (page_count meta) meta.page
    → after_records lsn (split_records key parent page at meta) meta ≡ patched meta PAGE_COUNT_AT (field 4 (page_count meta + 1)) lsn
on_meta key parent page meta at lsn d =
    let new : ℕ = page_count meta in
    let n : ℕ = not_greater key parent.items in
    let entry : List ℕ = entry_of (separator page at) new in
    let last : List Record = last_records key parent page at meta in
    skip lsn (made_right page at new) (linked_to page page.page new ++ last) meta (none_made page meta at new d.cd)
    ∙ skip lsn (linked_to page page.page new) last meta (none_linked page meta page.page new d.bd)
    ∙ other_after lsn (Cut page.page at) (InsertSlot parent.page n entry ∷ counts meta (new + 1) ∷ []) meta d.bd
    ∙ other_after lsn (InsertSlot parent.page n entry) (counts meta (new + 1) ∷ []) meta d.ad
    ∙ own_after lsn (counts meta (new + 1)) [] meta refl

-- pages that are none of the four
pub none_else : (key : List ℕ) (parent page meta : Image) (at other : ℕ) → parent.page ≢ other → page.page ≢ other → page_count meta ≢ other → meta.page ≢ other
    → NoneFor other (split_records key parent page at meta)
none_else key parent page meta at other p q n m =
    let new : ℕ = page_count meta in
    all_join (λ r. page_of r ≢ other) (made_right page at new) (linked_to page page.page new ++ last_records key parent page at meta)
    (none_of new other (made_right page at new) (made_right_pages page at new) n)
    (all_join (λ r. page_of r ≢ other) (linked_to page page.page new) (last_records key parent page at meta)
    (none_of page.page other (linked_to page page.page new) (linked_to_pages page page.page new) q) (q, (p, (m, tt))))
