-- The opening's records: what they do to each page.
use Rattle.std.proofs.Common.{◌-◌, drop, nat_eq, false, append_assoc, ◌≡◌, ◌≢◌, ℕ, List, [], ◌∷◌, length, refl, ap, subst, ◌∙◌, inl, length-append, arith, ◌<◌, ◌≤◌, ◌++◌, ◌+◌}
use Rattle.rm_base.specs.declared.limits.TheConstants.{CATALOG_ROOT_PAGE_ID, FIRST_FREE_PAGE_ID, FIRST_UNDO_PAGE_ID, META_PAGE_ID, PAGE_BYTES, PAGE_HEADER_BYTES, SLOTS_PAGE_ID}
use Rattle.std.specs.List.{AllByRecursion}
use Rattle.std.proofs.lemmas.List.{drop_at}
use Rattle.std.proofs.lemmas.Bool.Decides.{nat_tests}
use Rattle.rm_base.specs.Fields.{field, number}
use Rattle.rm_base.proofs.FieldLaws.{length-field, number-field}
use Rattle.page_image.specs.declared.kind.Kind.{Kind}
use Rattle.page_image.specs.declared.kind.Kind.TheVariants.{Unmade, Meta, Slots, Leaf, Undo}
use Rattle.page_image.specs.Image.{made, zeros, unmade, kind_number, LevelFits, CanMake, CanPatch}
use Rattle.redo_record.specs.declared.redo.Record.{Record}
use Rattle.redo_record.specs.declared.redo.Record.TheVariants.{Make, Patch}
use Rattle.redo_record.specs.Spelling.{IsAdmitted}
use Rattle.redo_record.specs.Effect.{after_records, RecordsApply}
use Rattle.redo_record.proofs.Fold.{after_records-page, after_records-other}
use Rattle.redo_record.specs.declared.opening.TheConstants.{META_FIELDS_AT, FORMAT_NUMBER, FIRST_TRX_ID, NO_STAMP}
use Rattle.redo_record.specs.Opening.{meta_fields, opening_records}

pub length-meta_fields : length meta_fields ≡ 28
length-meta_fields = simp (length-append, length-field)

other_kind : (kind : Kind) → kind_number kind ≢ 0 → kind ≢ Unmade
other_kind kind ne same = ne (ap kind_number same)

pub opening_admitted : AllByRecursion IsAdmitted opening_records
opening_admitted =
    let size = length-meta_fields in (
      (other_kind Meta (λ e. absurd (omega arith)), refl),
      (
        (omega arith, omega arith),
        (
          (other_kind Slots (λ e. absurd (omega arith)), refl),
          (
            (other_kind Leaf (λ e. absurd (omega arith)), refl),
            ((other_kind Undo (λ e. absurd (omega arith)), refl), tt),
          ),
        ),
      ),
    )

-- an unmade page can be made one of a kind without levels
makes : (p : ℕ) (kind : Kind) → kind_number kind ≢ 0 → LevelFits kind 0 → CanMake (unmade p) kind 0
makes p kind ne fits = record { some = other_kind kind ne; fits = fits; from = inl refl }

-- the records before one, and what these leave of a page keeps its number
abbrev meta_made : List Record
meta_made = Make META_PAGE_ID Meta 0 ∷ []

abbrev meta_filled : List Record
meta_filled = Make META_PAGE_ID Meta 0 ∷ Patch META_PAGE_ID META_FIELDS_AT meta_fields ∷ []

abbrev slots_made : List Record
slots_made = Make META_PAGE_ID Meta 0 ∷ Patch META_PAGE_ID META_FIELDS_AT meta_fields ∷ Make SLOTS_PAGE_ID Slots 0 ∷ []

abbrev root_made : List Record
root_made = Make META_PAGE_ID Meta 0 ∷ Patch META_PAGE_ID META_FIELDS_AT meta_fields ∷ Make SLOTS_PAGE_ID Slots 0 ∷ Make CATALOG_ROOT_PAGE_ID Leaf 0 ∷ []

keeps_number : (lsn p : ℕ) (records : List Record) → (after_records lsn records (unmade p)).page ≡ p
keeps_number lsn p records = after_records-page lsn records (unmade p)

meta_fits : (lsn : ℕ) → CanPatch (after_records lsn meta_made (unmade META_PAGE_ID)) META_FIELDS_AT meta_fields
meta_fits lsn = let size = length-meta_fields in record { fields = refl; past_header = omega arith; within = omega arith }

pub opening_applies : (lsn p : ℕ) → RecordsApply lsn opening_records (unmade p)
opening_applies lsn p =
    let meta = λ (e : META_PAGE_ID ≡ p). subst (λ (q : ℕ). CanMake (unmade q) Meta 0) e (makes META_PAGE_ID Meta (λ e. absurd (omega arith)) refl) in
    let fields = λ (e : META_PAGE_ID ≡ (after_records lsn meta_made (unmade p)).page).
    subst (λ (q : ℕ). CanPatch (after_records lsn meta_made (unmade q)) META_FIELDS_AT meta_fields) (e ∙ keeps_number lsn p meta_made) (meta_fits lsn) in
    let slots = λ (e : SLOTS_PAGE_ID ≡ (after_records lsn meta_filled (unmade p)).page).
    subst (λ (q : ℕ). CanMake (after_records lsn meta_filled (unmade q)) Slots 0) (e ∙ keeps_number lsn p meta_filled) (makes SLOTS_PAGE_ID Slots (λ e. absurd (omega arith)) refl) in
    let root = λ (e : CATALOG_ROOT_PAGE_ID ≡ (after_records lsn slots_made (unmade p)).page).
    subst (λ (q : ℕ). CanMake (after_records lsn slots_made (unmade q)) Leaf 0) (e ∙ keeps_number lsn p slots_made) (makes CATALOG_ROOT_PAGE_ID Leaf (λ e. absurd (omega arith)) refl) in
    let undo = λ (e : FIRST_UNDO_PAGE_ID ≡ (after_records lsn root_made (unmade p)).page).
    subst (λ (q : ℕ). CanMake (after_records lsn root_made (unmade q)) Undo 0) (e ∙ keeps_number lsn p root_made) (makes FIRST_UNDO_PAGE_ID Undo (λ e. absurd (omega arith)) refl) in
    (meta, (fields, (slots, (root, (undo, tt)))))
