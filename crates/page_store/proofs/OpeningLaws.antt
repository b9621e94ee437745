-- For the proofs: the pages of a log of the opening alone.
use Rattle.std.proofs.Common.{◌-◌, drop, nat_eq, false, append_assoc, ◌≡◌, ◌≢◌, ℕ, List, [], ◌∷◌, length, refl, ap, subst, ◌∙◌, inl, length-append, arith, ◌<◌, ◌≤◌, ◌++◌, ◌+◌}
use Rattle.rm_base.specs.declared.limits.TheConstants.{CATALOG_ROOT_PAGE_ID, FIRST_FREE_PAGE_ID, FIRST_UNDO_PAGE_ID, META_PAGE_ID, PAGE_BYTES, PAGE_HEADER_BYTES, SLOTS_PAGE_ID}
use Rattle.std.specs.List.{AllByRecursion}
use Rattle.std.proofs.lemmas.List.{drop_at}
use Rattle.std.proofs.lemmas.Bool.Decides.{nat_tests}
use Rattle.rm_base.specs.Fields.{field, number}
use Rattle.rm_base.proofs.FieldLaws.{length-field, number-field}
use Rattle.page_image.specs.declared.kind.Kind.{Kind}
use Rattle.page_image.specs.declared.kind.Kind.TheVariants.{Unmade, Meta, Slots, Leaf, Undo}
use Rattle.page_image.specs.Image.{made, zeros, unmade, kind_number, LevelFits, CanMake, CanPatch}
use Rattle.redo_record.specs.declared.redo.Record.{Record}
use Rattle.redo_record.specs.declared.redo.Record.TheVariants.{Make, Patch}
use Rattle.redo_record.specs.Spelling.{IsAdmitted}
use Rattle.redo_record.specs.Effect.{after_records, RecordsApply}
use Rattle.redo_record.proofs.Fold.{after_records-page, after_records-other}
use Rattle.redo_record.specs.declared.opening.TheConstants.{META_FIELDS_AT, FORMAT_NUMBER, FIRST_TRX_ID, NO_STAMP}
use Rattle.page_store.specs.Stored.{pages_of}
use Rattle.redo_record.specs.Opening.{meta_fields, opening_records}
use Rattle.redo_record.proofs.OpeningLaws.{length-meta_fields}
use Rattle.page_store.specs.Opening.{opened}

-- ---- the pages of a log of the opening alone

pub opened_root : pages_of opened CATALOG_ROOT_PAGE_ID ≡ made (unmade CATALOG_ROOT_PAGE_ID) Leaf 0 1
opened_root = refl

pub opened_meta : (pages_of opened META_PAGE_ID).kind ≡ Meta
opened_meta = refl

-- the meta page's fields stand at the front of its body
opened_body : (pages_of opened META_PAGE_ID).body ≡ meta_fields ++ drop (0 + length meta_fields) (zeros (PAGE_BYTES - PAGE_HEADER_BYTES))
opened_body = refl

pub opened_count : number 4 (drop 4 (pages_of opened META_PAGE_ID).body) ≡ FIRST_FREE_PAGE_ID
opened_count =
    let others : List ℕ = field 4 FIRST_UNDO_PAGE_ID ++ (field 8 FIRST_TRX_ID ++ field 8 NO_STAMP) in
    let rest : List ℕ = drop (0 + length meta_fields) (zeros (PAGE_BYTES - PAGE_HEADER_BYTES)) in
    let parts : meta_fields ++ rest ≡ field 4 FORMAT_NUMBER ++ (field 4 FIRST_FREE_PAGE_ID ++ (others ++ rest)) =
    append_assoc (field 4 FORMAT_NUMBER) (field 4 FIRST_FREE_PAGE_ID ++ others) rest ∙ ap (λ (b : List ℕ). field 4 FORMAT_NUMBER ++ b) (append_assoc (field 4 FIRST_FREE_PAGE_ID) others rest) in
    ap (λ (b : List ℕ). number 4 (drop 4 b)) (opened_body ∙ parts)
    ∙ ap (number 4) (drop_at (field 4 FORMAT_NUMBER) (field 4 FIRST_FREE_PAGE_ID ++ (others ++ rest)) 4 (length-field 4 FORMAT_NUMBER))
    ∙ number-field 4 FIRST_FREE_PAGE_ID (others ++ rest) (omega arith)

not_page : (n p : ℕ) → n < 1028 → 1028 ≤ p → nat_eq n p ≡ false
not_page n p lt le = let ne : n ≢ p = omega arith in grind (arith, nat_tests)

-- a page that the opening does not count is not made
pub opened_unmade : (p : ℕ) → FIRST_FREE_PAGE_ID ≤ p → pages_of opened p ≡ unmade p
opened_unmade p le =
    let meta = not_page META_PAGE_ID p (omega arith) le in
    let slots = not_page SLOTS_PAGE_ID p (omega arith) le in
    let root = not_page CATALOG_ROOT_PAGE_ID p (omega arith) le in
    let undo = not_page FIRST_UNDO_PAGE_ID p (omega arith) le in
    after_records-other 1 opening_records (unmade p) (simp (meta, slots, root, undo))
