-- What the records of a root split do to each page.
use Rattle.std.proofs.Common.{◌≡◌, ◌≢◌, ◌<◌, ◌≤◌, ◌+◌, ◌-◌, ℕ, Bool, true, false, cond, List, [], ◌∷◌, ◌++◌, length, take, refl, sym, ap, subst, ◌∙◌, arith, inl, inr}
use Rattle.rm_base.specs.declared.limits.TheConstants.{PAGE_BYTES, PAGE_HEADER_BYTES}
use Rattle.std.specs.Prelude.{◌⊎◌}
use Rattle.std.specs.List.{AllByRecursion}
use Rattle.std.proofs.lemmas.List.{length-append}
use Rattle.rm_base.specs.Fields.{field}
use Rattle.rm_base.proofs.FieldLaws.{length-field}
use Rattle.page_image.specs.Meta.{page_count}
use Rattle.page_image.specs.declared.kind.Kind.{Kind}
use Rattle.page_image.specs.declared.kind.Kind.TheVariants.{Unmade, Meta, Leaf, Inner}
use Rattle.page_image.specs.Image.{Image, unmade, used, is_slotted, is_inner, LevelFits, made, inserted, cut_from, patched}
use Rattle.redo_record.specs.declared.redo.Record.{Record}
use Rattle.redo_record.specs.declared.redo.Record.TheVariants.{Make, InsertSlot, Cut, Link}
use Rattle.redo_record.specs.Effect.{page_of, after_records, RecordsApply}
use Rattle.redo_record.proofs.Fold.{after_records-append, RecordsApply-append}
use Rattle.page_image.specs.declared.meta.TheConstants.{PAGE_COUNT_AT}
use Rattle.tree_change.specs.Splits.{right_half, separator, inserts, linked_to, counts, entry_of, made_halves, made_root, root_split_records}
use Rattle.tree_change.proofs.ListLaws.{all_join}
use Rattle.tree_change.proofs.EffectLaws.{NoneFor, none_of, untouched, none_apply, skip, skip_apply, own_apply, other_apply, own_after, other_after}
use Rattle.tree_change.proofs.MoveLaws.{inserts_pages, filled, inserts_apply}
use Rattle.tree_change.proofs.SplitEffects.{IsMade, Apart, linked_to_pages, can_count}

turn : (a b : ℕ) → a ≢ b → b ≢ a
turn a b h e = h (sym e)

abbrev pub rest_records : Image → ℕ → Image → List Record
rest_records root at meta =
    made_root root at (page_count meta) (page_count meta + 1) ++ counts meta (page_count meta + 1 + 1) ∷ []

-- the records are for the four pages alone
pub none_root : (root meta : Image) (at other : ℕ) → root.page ≢ other → page_count meta ≢ other → page_count meta + 1 ≢ other → meta.page ≢ other
    → NoneFor other (root_split_records root at meta)
none_root root meta at other r a b m =
    let left : ℕ = page_count meta in
    let right : ℕ = page_count meta + 1 in
    let Q = λ (x : Record). page_of x ≢ other in
    all_join Q (made_halves root at left right) (linked_to root left right ++ rest_records root at meta) (
      a,
      (
        b,
        all_join Q (inserts left 0 (take at root.items)) (inserts right 0 (right_half root at))
            (none_of left other (inserts left 0 (take at root.items)) (inserts_pages left 0 (take at root.items)) a)
            (none_of right other (inserts right 0 (right_half root at)) (inserts_pages right 0 (right_half root at)) b),
      ),
    )
    (all_join Q (linked_to root left right) (rest_records root at meta)
    (none_of left other (linked_to root left right) (linked_to_pages root left right) a)
    (r, (r, (r, (r, (m, tt))))))

-- ---- the left page

abbrev pub left_next : Image → ℕ → ℕ
left_next root right = cond (is_inner root.kind) 0 right

linked_left : (root : Image) (left right lsn level : ℕ) (items : List (List ℕ)) (om : Image) → IsMade root.kind left level 0 items om
    → IsMade root.kind left level (left_next root right) items (after_records lsn (linked_to root left right) om)
linked_left root left right lsn level items om h = by_test (is_inner root.kind)
  where
    by_test : (b : Bool) → IsMade root.kind left level (cond b 0 right) items (after_records lsn (cond b [] (Link left right ∷ [])) om)
    by_test true = h
    by_test false =
        subst (IsMade root.kind left level right items) (sym (own_after lsn (Link left right) [] om (sym h.number)))
        (record { kind_is = h.kind_is; number = h.number; level_is = h.level_is; next_is = refl; items_are = h.items_are })

one_page : (kind : Kind) (page level lsn : ℕ) (xs : List (List ℕ)) → IsMade kind page level 0 xs (after_records lsn (inserts page 0 xs) (made (unmade page) kind level lsn))
one_page kind page level lsn xs =
    let f = filled page 0 lsn xs (made (unmade page) kind level lsn) refl refl in
    record { kind_is = f.kind; number = f.page; level_is = f.level; next_is = f.next; items_are = f.items }

rest_none : (root meta : Image) (at other : ℕ) → root.page ≢ other → meta.page ≢ other → NoneFor other (rest_records root at meta)
rest_none root meta at other r m = (r, (r, (r, (r, (m, tt)))))

left_after : (root meta : Image) (at lsn : ℕ) → page_count meta ≢ page_count meta + 1
    → after_records lsn (made_halves root at (page_count meta) (page_count meta + 1)) (unmade (page_count meta))
    ≡ after_records lsn (inserts (page_count meta) 0 (take at root.items)) (made (unmade (page_count meta)) root.kind root.level lsn)
left_after root meta at lsn ne =
    let left : ℕ = page_count meta in
    let right : ℕ = page_count meta + 1 in
    let one : Image = made (unmade left) root.kind root.level lsn in
    let a : List Record = inserts left 0 (take at root.items) in
    let b : List Record = inserts right 0 (right_half root at) in
    let om : Image = after_records lsn a one in
    let m = one_page root.kind left root.level lsn (take at root.items) in
    own_after lsn (Make left root.kind root.level) (Make right root.kind root.level ∷ (a ++ b)) (unmade left) refl
    ∙ other_after lsn (Make right root.kind root.level) (a ++ b) one (turn left right ne)
    ∙ after_records-append lsn a b one
    ∙ untouched lsn b om (none_of right om.page b (inserts_pages right 0 (right_half root at)) (λ e. ne (sym (e ∙ m.number))))

pub on_left : (root meta : Image) (at lsn : ℕ) → Apart root.page (page_count meta) (page_count meta + 1) meta.page
    → IsMade root.kind (page_count meta) root.level (left_next root (page_count meta + 1)) (take at root.items) (after_records lsn (root_split_records root at meta) (unmade (page_count meta)))
on_left root meta at lsn d =
    let left : ℕ = page_count meta in
    let right : ℕ = page_count meta + 1 in
    let one : Image = made (unmade left) root.kind root.level lsn in
    let om : Image = after_records lsn (inserts left 0 (take at root.items)) one in
    let m = one_page root.kind left root.level lsn (take at root.items) in
    let m2 = linked_left root left right lsn root.level (take at root.items) om m in
    let om2 : Image = after_records lsn (linked_to root left right) om in
    subst (IsMade root.kind left root.level (left_next root right) (take at root.items))
    (sym (after_records-append lsn (made_halves root at left right) (linked_to root left right ++ rest_records root at meta) (unmade left)
    ∙ ap (after_records lsn (linked_to root left right ++ rest_records root at meta)) (left_after root meta at lsn d.bc)
    ∙ after_records-append lsn (linked_to root left right) (rest_records root at meta) om
    ∙ untouched lsn (rest_records root at meta) om2 (rest_none root meta at om2.page (λ e. d.ab (e ∙ m2.number)) (λ e. d.bd (sym (e ∙ m2.number))))))
    m2

-- ---- the right page

right_after : (root meta : Image) (at lsn : ℕ) → page_count meta ≢ page_count meta + 1
    → after_records lsn (made_halves root at (page_count meta) (page_count meta + 1)) (unmade (page_count meta + 1))
    ≡ after_records lsn (inserts (page_count meta + 1) 0 (right_half root at)) (made (unmade (page_count meta + 1)) root.kind root.level lsn)
right_after root meta at lsn ne =
    let left : ℕ = page_count meta in
    let right : ℕ = page_count meta + 1 in
    let one : Image = made (unmade right) root.kind root.level lsn in
    let a : List Record = inserts left 0 (take at root.items) in
    let b : List Record = inserts right 0 (right_half root at) in
    other_after lsn (Make left root.kind root.level) (Make right root.kind root.level ∷ (a ++ b)) (unmade right) ne
    ∙ own_after lsn (Make right root.kind root.level) (a ++ b) (unmade right) refl
    ∙ skip lsn a b one (none_of left right a (inserts_pages left 0 (take at root.items)) ne)

pub on_right : (root meta : Image) (at lsn : ℕ) → Apart root.page (page_count meta) (page_count meta + 1) meta.page
    → IsMade root.kind (page_count meta + 1) root.level 0 (right_half root at) (after_records lsn (root_split_records root at meta) (unmade (page_count meta + 1)))
on_right root meta at lsn d =
    let left : ℕ = page_count meta in
    let right : ℕ = page_count meta + 1 in
    let one : Image = made (unmade right) root.kind root.level lsn in
    let om : Image = after_records lsn (inserts right 0 (right_half root at)) one in
    let m = one_page root.kind right root.level lsn (right_half root at) in
    let none : NoneFor om.page (linked_to root left right ++ rest_records root at meta) =
    all_join (λ x. page_of x ≢ om.page) (linked_to root left right) (rest_records root at meta)
    (none_of left om.page (linked_to root left right) (linked_to_pages root left right) (λ e. d.bc (e ∙ m.number)))
    (rest_none root meta at om.page (λ e. d.ac (e ∙ m.number)) (λ e. d.cd (sym (e ∙ m.number)))) in
    subst (IsMade root.kind right root.level 0 (right_half root at))
    (sym (after_records-append lsn (made_halves root at left right) (linked_to root left right ++ rest_records root at meta) (unmade right)
    ∙ ap (after_records lsn (linked_to root left right ++ rest_records root at meta)) (right_after root meta at lsn d.bc)
    ∙ untouched lsn (linked_to root left right ++ rest_records root at meta) om none))
    m

-- ---- the root

-- the root as an inner page over its halves
abbrev pub new_root : Image → ℕ → ℕ → ℕ → ℕ → Image
new_root root at left right lsn =
    inserted (inserted (made (cut_from root 0 lsn) Inner (root.level + 1) lsn) 0 (entry_of [] left) lsn) 1 (entry_of (separator root at) right) lsn

none_halves : (root meta : Image) (at other : ℕ) → page_count meta ≢ other → page_count meta + 1 ≢ other → NoneFor other (made_halves root at (page_count meta) (page_count meta + 1))
none_halves root meta at other a b =
    let left : ℕ = page_count meta in
    let right : ℕ = page_count meta + 1 in (
      a,
      (
        b,
        all_join (λ x. page_of x ≢ other) (inserts left 0 (take at root.items)) (inserts right 0 (right_half root at))
            (none_of left other (inserts left 0 (take at root.items)) (inserts_pages left 0 (take at root.items)) a)
            (none_of right other (inserts right 0 (right_half root at)) (inserts_pages right 0 (right_half root at)) b),
      ),
    )

pub on_root : (root meta : Image) (at lsn : ℕ) → Apart root.page (page_count meta) (page_count meta + 1) meta.page
    → after_records lsn (root_split_records root at meta) root ≡ new_root root at (page_count meta) (page_count meta + 1) lsn
on_root root meta at lsn d =
    let left : ℕ = page_count meta in
    let right : ℕ = page_count meta + 1 in
    let p : ℕ = root.page in
    let r1 : Image = cut_from root 0 lsn in
    let r2 : Image = made r1 Inner (root.level + 1) lsn in
    let r3 : Image = inserted r2 0 (entry_of [] left) lsn in
    let last : List Record = counts meta (right + 1) ∷ [] in
    let i1 : Record = InsertSlot p 1 (entry_of (separator root at) right) in
    let i0 : Record = InsertSlot p 0 (entry_of [] left) in
    let mk : Record = Make p Inner (root.level + 1) in
    skip lsn (made_halves root at left right) (linked_to root left right ++ rest_records root at meta) root (none_halves root meta at p (turn p left d.ab) (turn p right d.ac))
    ∙ skip lsn (linked_to root left right) (rest_records root at meta) root (none_of left p (linked_to root left right) (linked_to_pages root left right) (turn p left d.ab))
    ∙ own_after lsn (Cut p 0) (mk ∷ i0 ∷ i1 ∷ last) root refl
    ∙ own_after lsn mk (i0 ∷ i1 ∷ last) r1 refl
    ∙ own_after lsn i0 (i1 ∷ last) r2 refl
    ∙ own_after lsn i1 last r3 refl
    ∙ other_after lsn (counts meta (right + 1)) [] (new_root root at left right lsn) (turn p meta.page d.ad)

-- ---- the records apply

linked_left_apply : (root : Image) (left right lsn : ℕ) (om : Image) → is_slotted om.kind ≡ true → right ≤ 32767 → RecordsApply lsn (linked_to root left right) om
linked_left_apply root left right lsn om s b = by_test (is_inner root.kind)
  where
    by_test : (t : Bool) → RecordsApply lsn (cond t [] (Link left right ∷ [])) om
    by_test true = tt
    by_test false = ((λ _. record { slotted = s; bound = b }), tt)

pub apply_left : (root meta : Image) (at lsn : ℕ) → Apart root.page (page_count meta) (page_count meta + 1) meta.page
    → root.kind ≢ Unmade → LevelFits root.kind root.level → is_slotted root.kind ≡ true
    → AllByRecursion (λ x. 1 ≤ length x) (take at root.items) → used (take at root.items) ≤ PAGE_BYTES - PAGE_HEADER_BYTES → page_count meta + 1 ≤ 32767
    → RecordsApply lsn (root_split_records root at meta) (unmade (page_count meta))
apply_left root meta at lsn d some fits slotted each room bound =
    let left : ℕ = page_count meta in
    let right : ℕ = page_count meta + 1 in
    let one : Image = made (unmade left) root.kind root.level lsn in
    let a : List Record = inserts left 0 (take at root.items) in
    let b : List Record = inserts right 0 (right_half root at) in
    let om : Image = after_records lsn a one in
    let m = one_page root.kind left root.level lsn (take at root.items) in
    let m2 = linked_left root left right lsn root.level (take at root.items) om m in
    let om2 : Image = after_records lsn (linked_to root left right) om in
    RecordsApply-append lsn (made_halves root at left right) (linked_to root left right ++ rest_records root at meta) (unmade left)
    (own_apply lsn (Make left root.kind root.level) (Make right root.kind root.level ∷ (a ++ b)) (unmade left) refl
    (record { some = some; fits = fits; from = inl refl })
    (other_apply lsn (Make right root.kind root.level) (a ++ b) one (turn left right d.bc)
    (RecordsApply-append lsn a b one (inserts_apply left 0 lsn (take at root.items) one refl refl slotted each (omega (arith, room)))
    (none_apply lsn b om (none_of right om.page b (inserts_pages right 0 (right_half root at)) (λ e. d.bc (sym (e ∙ m.number))))))))
    (subst (RecordsApply lsn (linked_to root left right ++ rest_records root at meta)) (sym (left_after root meta at lsn d.bc))
    (RecordsApply-append lsn (linked_to root left right) (rest_records root at meta) om
    (linked_left_apply root left right lsn om (ap is_slotted m.kind_is ∙ slotted) bound)
    (none_apply lsn (rest_records root at meta) om2 (rest_none root meta at om2.page (λ e. d.ab (e ∙ m2.number)) (λ e. d.bd (sym (e ∙ m2.number)))))))

pub apply_right : (root meta : Image) (at lsn : ℕ) → Apart root.page (page_count meta) (page_count meta + 1) meta.page
    → root.kind ≢ Unmade → LevelFits root.kind root.level → is_slotted root.kind ≡ true
    → AllByRecursion (λ x. 1 ≤ length x) (right_half root at) → used (right_half root at) ≤ PAGE_BYTES - PAGE_HEADER_BYTES
    → RecordsApply lsn (root_split_records root at meta) (unmade (page_count meta + 1))
apply_right root meta at lsn d some fits slotted each room =
    let left : ℕ = page_count meta in
    let right : ℕ = page_count meta + 1 in
    let one : Image = made (unmade right) root.kind root.level lsn in
    let a : List Record = inserts left 0 (take at root.items) in
    let b : List Record = inserts right 0 (right_half root at) in
    let om : Image = after_records lsn b one in
    let m = one_page root.kind right root.level lsn (right_half root at) in
    RecordsApply-append lsn (made_halves root at left right) (linked_to root left right ++ rest_records root at meta) (unmade right)
    (other_apply lsn (Make left root.kind root.level) (Make right root.kind root.level ∷ (a ++ b)) (unmade right) d.bc
    (own_apply lsn (Make right root.kind root.level) (a ++ b) (unmade right) refl
    (record { some = some; fits = fits; from = inl refl })
    (skip_apply lsn a b one (none_of left right a (inserts_pages left 0 (take at root.items)) d.bc)
    (inserts_apply right 0 lsn (right_half root at) one refl refl slotted each (omega (arith, room))))))
    (subst (RecordsApply lsn (linked_to root left right ++ rest_records root at meta)) (sym (right_after root meta at lsn d.bc))
    (none_apply lsn (linked_to root left right ++ rest_records root at meta) om
    (all_join (λ x. page_of x ≢ om.page) (linked_to root left right) (rest_records root at meta)
    (none_of left om.page (linked_to root left right) (linked_to_pages root left right) (λ e. d.bc (e ∙ m.number)))
    (rest_none root meta at om.page (λ e. d.ac (e ∙ m.number)) (λ e. d.cd (sym (e ∙ m.number)))))))

pub apply_root : (root meta : Image) (at lsn : ℕ) → Apart root.page (page_count meta) (page_count meta + 1) meta.page
    → (root.kind ≡ Leaf) ⊎ (root.kind ≡ Inner) → is_slotted root.kind ≡ true → root.level < 8 → length (separator root at) ≤ 64
    → RecordsApply lsn (root_split_records root at meta) root
apply_root root meta at lsn d kind slotted low short =
    let left : ℕ = page_count meta in
    let right : ℕ = page_count meta + 1 in
    let p : ℕ = root.page in
    let r1 : Image = cut_from root 0 lsn in
    let r2 : Image = made r1 Inner (root.level + 1) lsn in
    let r3 : Image = inserted r2 0 (entry_of [] left) lsn in
    let last : List Record = counts meta (right + 1) ∷ [] in
    let i1 : Record = InsertSlot p 1 (entry_of (separator root at) right) in
    let i0 : Record = InsertSlot p 0 (entry_of [] left) in
    let mk : Record = Make p Inner (root.level + 1) in
    let f0 = length-field 4 left in
    let f1 = length-field 4 right in
    let a1 = length-append (separator root at) (field 4 right) in
    skip_apply lsn (made_halves root at left right) (linked_to root left right ++ rest_records root at meta) root (none_halves root meta at p (turn p left d.ab) (turn p right d.ac))
    (skip_apply lsn (linked_to root left right) (rest_records root at meta) root (none_of left p (linked_to root left right) (linked_to_pages root left right) (turn p left d.ab))
    (own_apply lsn (Cut p 0) (mk ∷ i0 ∷ i1 ∷ last) root refl (record { slotted = slotted; within = omega arith })
    (own_apply lsn mk (i0 ∷ i1 ∷ last) r1 refl
    (record { some = (λ e. let h : Inner ≡ Unmade = e in cc); fits = (omega arith, omega arith); from = inr (kind, refl, refl) })
    (own_apply lsn i0 (i1 ∷ last) r2 refl (record { slotted = refl; some = omega arith; place = omega arith; room = omega (arith, f0) })
    (own_apply lsn i1 last r3 refl (record { slotted = refl; some = omega arith; place = omega arith; room = omega (arith, f0, f1, a1, short) })
    (other_apply lsn (counts meta (right + 1)) [] (new_root root at left right lsn) (turn p meta.page d.ad) tt))))))

pub apply_root_meta : (root meta : Image) (at lsn : ℕ) → Apart root.page (page_count meta) (page_count meta + 1) meta.page → meta.kind ≡ Meta
    → RecordsApply lsn (root_split_records root at meta) meta
apply_root_meta root meta at lsn d e =
    let left : ℕ = page_count meta in
    let right : ℕ = page_count meta + 1 in
    let m : ℕ = meta.page in
    skip_apply lsn (made_halves root at left right) (linked_to root left right ++ rest_records root at meta) meta (none_halves root meta at m d.bd d.cd)
    (skip_apply lsn (linked_to root left right) (rest_records root at meta) meta (none_of left m (linked_to root left right) (linked_to_pages root left right) d.bd)
    (skip_apply lsn (made_root root at left right) (counts meta (right + 1) ∷ []) meta (d.ad, (d.ad, (d.ad, (d.ad, tt))))
    (own_apply lsn (counts meta (right + 1)) [] meta refl (can_count meta (right + 1) e) tt)))

pub on_root_meta : (root meta : Image) (at lsn : ℕ) → Apart root.page (page_count meta) (page_count meta + 1) meta.page
    → after_records lsn (root_split_records root at meta) meta ≡ patched meta PAGE_COUNT_AT (field 4 (page_count meta + 1 + 1)) lsn
on_root_meta root meta at lsn d =
    let left : ℕ = page_count meta in
    let right : ℕ = page_count meta + 1 in
    let m : ℕ = meta.page in
    skip lsn (made_halves root at left right) (linked_to root left right ++ rest_records root at meta) meta (none_halves root meta at m d.bd d.cd)
    ∙ skip lsn (linked_to root left right) (rest_records root at meta) meta (none_of left m (linked_to root left right) (linked_to_pages root left right) d.bd)
    ∙ skip lsn (made_root root at left right) (counts meta (right + 1) ∷ []) meta (d.ad, (d.ad, (d.ad, (d.ad, tt))))
    ∙ own_after lsn (counts meta (right + 1)) [] meta refl
