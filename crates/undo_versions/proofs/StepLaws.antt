-- For the proofs: what the records of an undo item do, and the record of the undo page in use.
use Rattle.std.proofs.Common.{◌≡◌, ◌≢◌, ◌≤◌, ◌<◌, ◌+◌, ◌^◌, ℕ, Bool, true, false, nat_eq, ◌&&◌, eqb, List, [], ◌∷◌, ◌++◌, length, take, drop, Option, Some, None, inl, refl, sym, ◌∙◌, ap, subst, arith, append_assoc, length-append}
use Rattle.std.specs.Prelude.{if◌then◌else◌, option_and_then, slice_get}
use Rattle.std.proofs.lemmas.Bool.{leb-true, eq-eqb, ne_eqb, and_from}
use Rattle.std.proofs.lemmas.List.{drop-drop, drop_at, length-take-le}
use Rattle.std.proofs.lemmas.List.Edits.{insert_end}
use Rattle.rm_base.specs.Fields.{field, number}
use Rattle.rm_base.proofs.FieldLaws.{length-field, number-field}
use Rattle.rm_base.specs.declared.places.UndoPtr.{UndoPtr}
use Rattle.page_image.specs.declared.kind.Kind.TheVariants.{Unmade, Meta, Undo}
use Rattle.page_image.specs.Image.{Image, is_slotted, has_body, free_of, unmade, CanMake, made, CanInsert, inserted, CanPatch}
use Rattle.page_image.specs.Rules.{IsImage}
use Rattle.page_view.specs.declared.leaf.LeafItem.{LeafItem}
use Rattle.page_view.specs.Undo.{old_bytes, IsOld, IsUndo}
use Rattle.redo_record.specs.declared.redo.Record.{Record}
use Rattle.redo_record.specs.declared.redo.Record.TheVariants.{Make, InsertSlot}
use Rattle.redo_record.specs.Effect.{page_of, Applies, effect, step, after_records, RecordsApply}
use Rattle.undo_versions.specs.declared.items.UndoItem.{UndoItem}
use Rattle.undo_versions.specs.Reading.{undone_of, undo_in, is_undo, item_or_none, older}
use Rattle.undo_versions.specs.Appending.{bytes_of, fits_bytes, appended_bytes, begun_with, counts_undo}
use Rattle.undo_versions.specs.Effects.{RunsOn, HasNext, Appends, CountsUndo, Uses}

-- ---- records for a page and for others

step_own : (r : Record) (lsn : ℕ) (im : Image) → page_of r ≡ im.page → step lsn im r ≡ effect r lsn im
step_own r lsn im e = let same : eqb (page_of r) im.page ≡ true = eq-eqb (page_of r) im.page e in rw same refl

step_other : (r : Record) (lsn : ℕ) (im : Image) → page_of r ≢ im.page → step lsn im r ≡ im
step_other r lsn im e = let other : eqb (page_of r) im.page ≡ false = ne_eqb (page_of r) im.page e in rw other refl

own_apply : (lsn : ℕ) (r : Record) (ss : List Record) (im : Image) → page_of r ≡ im.page → Applies r im → RecordsApply lsn ss (effect r lsn im) → RecordsApply lsn (r ∷ ss) im
own_apply lsn r ss im e a rest = ((λ _. a), subst (λ (i : Image). RecordsApply lsn ss i) (sym (step_own r lsn im e)) rest)

own_after : (lsn : ℕ) (r : Record) (ss : List Record) (im : Image) → page_of r ≡ im.page → after_records lsn (r ∷ ss) im ≡ after_records lsn ss (effect r lsn im)
own_after lsn r ss im e = ap (λ (i : Image). after_records lsn ss i) (step_own r lsn im e)

other_after : (lsn : ℕ) (r : Record) (ss : List Record) (im : Image) → page_of r ≢ im.page → after_records lsn (r ∷ ss) im ≡ after_records lsn ss im
other_after lsn r ss im ne = ap (λ (i : Image). after_records lsn ss i) (step_other r lsn im ne)

-- ---- an item's bytes

old_most : (key : List ℕ) (old : Option LeafItem) → IsOld key old → length key ≤ 64 → length (old_bytes key old) ≤ 1001
old_most key None is h = omega arith
old_most key (Some leaf) is h = let short = is.0.short in simp (length-append, length-field) (omega arith)

-- an item is not empty, and fits a page of its own
item_most : (item : UndoItem) → IsUndo (undone_of item) → (1 ≤ length (bytes_of item)) × (length (bytes_of item) ≤ 1019)
item_most item is =
    let most = old_most item.key item.old is.old is.short_key in
    let whole : length (bytes_of item) ≡ 18 + length (old_bytes item.key item.old) = simp (length-append, length-field) (omega arith) in
    ((omega arith), (omega arith))

-- ---- the item is read where it was put

reads_at : (new : Image) (at : UndoPtr) (item : UndoItem) (bytes : List ℕ) → new.kind ≡ Undo → new.page ≡ at.page → slice_get new.items at.slot ≡ Some bytes
    → undo_in bytes ≡ Some (undone_of item) → older new at ≡ Some item
reads_at new at item bytes kind page there said =
    let found : (is_undo new.kind && nat_eq new.page at.page) ≡ true = and_from (is_undo new.kind) (nat_eq new.page at.page) (ap is_undo kind) (eq-eqb new.page at.page page) in
    ap (λ (b : Bool). item_or_none (if b then option_and_then undo_in (slice_get new.items at.slot) else None)) found
    ∙ ap (λ (o : Option (List ℕ)). item_or_none (option_and_then undo_in o)) there
    ∙ ap item_or_none said

last_is : (xs : List (List ℕ)) (x : List ℕ) → slice_get (xs ++ x ∷ []) (length xs) ≡ Some x
last_is [] x = refl
last_is (y ∷ ys) x = last_is ys x

-- ---- at the end of the undo page in use

pub appends_at_end : (undo : Image) (item : UndoItem) (bytes : List ℕ) → undo.kind ≡ Undo → IsUndo (undone_of item) → bytes ≡ bytes_of item
    → undo_in bytes ≡ Some (undone_of item) → fits_bytes undo bytes ≡ true → Appends undo item (appended_bytes undo bytes)
appends_at_end undo item bytes kind is spelt said fit =
    let size = item_most item is in
    let long = ap length spelt in
    let room : length bytes + 2 ≤ free_of undo = leb-true (length bytes + 2) (free_of undo) fit in
    let one : Record = InsertSlot undo.page (length undo.items) bytes in
    let can : CanInsert undo (length undo.items) bytes = record { slotted = ap is_slotted kind; some = omega arith; place = omega arith; room = room } in
    record {
      runs = record {
        some = omega arith;
        most = omega arith;
        each = (((omega arith), (omega arith)), tt);
        applies = λ lsn. own_apply lsn one [] undo refl can tt;
        only = λ lsn im ne. other_after lsn one [] im ne;
      };
      next = λ lsn. (
          let new : Image = inserted undo (length undo.items) bytes lsn in
          let items : new.items ≡ undo.items ++ bytes ∷ [] = insert_end undo.items bytes in
          subst (λ (im : Image). HasNext undo im item (appended_bytes undo bytes)) (sym (own_after lsn one [] undo refl)) (record {
            kind = kind;
            number = refl;
            items = items ∙ ap (λ (b : List ℕ). undo.items ++ b ∷ []) spelt;
            place = refl;
            reads = reads_at new (record { page = undo.page; slot = length undo.items }) item bytes kind refl (ap (λ (xs : List (List ℕ)). slice_get xs (length undo.items)) items ∙ last_is undo.items bytes) said;
          }));
    }

-- ---- on a page of its own

can_make : (p : ℕ) → CanMake (unmade p) Undo 0
can_make p = record { some = λ e. (let f : Undo ≡ Unmade = e in cc); fits = refl; from = inl refl }

pub appends_on_new : (undo : Image) (item : UndoItem) (bytes : List ℕ) (p : ℕ) → IsUndo (undone_of item) → bytes ≡ bytes_of item
    → undo_in bytes ≡ Some (undone_of item) → Appends undo item (begun_with p bytes)
appends_on_new undo item bytes p is spelt said =
    let size = item_most item is in
    let long = ap length spelt in
    let one : Record = Make p Undo 0 in
    let two : Record = InsertSlot p 0 bytes in
    record {
      runs = record {
        some = omega arith;
        most = omega arith;
        each = (((λ e. (let f : Undo ≡ Unmade = e in cc)), refl), (((omega arith), (omega arith)), tt));
        applies = λ lsn. own_apply lsn one (two ∷ []) (unmade p) refl (can_make p)
            (own_apply lsn two [] (made (unmade p) Undo 0 lsn) refl (record { slotted = refl; some = omega arith; place = omega arith; room = omega arith }) tt);
        only = λ lsn im ne. other_after lsn one (two ∷ []) im ne ∙ other_after lsn two [] im ne;
      };
      next = λ lsn. (
          let new : Image = inserted (made (unmade p) Undo 0 lsn) 0 bytes lsn in
          subst (λ (im : Image). HasNext (unmade p) im item (begun_with p bytes)) (sym (own_after lsn one (two ∷ []) (unmade p) refl ∙ own_after lsn two [] (made (unmade p) Undo 0 lsn) refl)) (record {
            kind = refl;
            number = refl;
            items = ap (λ (b : List ℕ). b ∷ []) spelt;
            place = refl;
            reads = reads_at new (record { page = p; slot = 0 }) item bytes refl refl refl said;
          }));
    }

-- ---- the undo page in use

abbrev pub use_bytes : ℕ → ℕ → List ℕ
use_bytes count page = field 4 count ++ field 4 page

length-use : (count page : ℕ) → length (use_bytes count page) ≡ 8
length-use count page = simp (length-append, length-field)

can_use : (meta : Image) (count page : ℕ) → meta.kind ≡ Meta → CanPatch meta 36 (use_bytes count page)
can_use meta count page kind =
    let size = length-use count page in record { fields = ap has_body kind; past_header = omega arith; within = omega arith }

use_runs : (meta : Image) (count page : ℕ) → meta.kind ≡ Meta → RunsOn meta (counts_undo meta count page ∷ [])
use_runs meta count page kind =
    let size = length-use count page in
    let one : Record = counts_undo meta count page in
    record {
      some = omega arith;
      most = omega arith;
      each = (((omega arith), (omega arith)), tt);
      applies = λ lsn. own_apply lsn one [] meta refl (can_use meta count page kind) tt;
      only = λ lsn im ne. other_after lsn one [] im ne;
    }

use_counts : (meta : Image) (count page lsn : ℕ) → meta.kind ≡ Meta → IsImage meta → count < 2 ^ 32 → page < 2 ^ 32
    → CountsUndo meta (after_records lsn (counts_undo meta count page ∷ []) meta) count page
use_counts meta count page lsn kind rules a b =
    let size = length-use count page in
    let long : length meta.body ≡ 4064 = rules.whole_body (ap has_body kind) in
    let body : List ℕ = meta.body in
    let rest : List ℕ = drop (4 + length (use_bytes count page)) body in
    let new : List ℕ = take 4 body ++ (use_bytes count page ++ rest) in
    let four : drop 4 new ≡ field 4 count ++ (field 4 page ++ rest) =
    drop_at (take 4 body) (use_bytes count page ++ rest) 4 (length-take-le 4 body (omega arith)) ∙ append_assoc (field 4 count) (field 4 page) rest in
    let eight : drop 8 new ≡ field 4 page ++ rest =
    sym (drop-drop 4 4 new) ∙ ap (drop 4) four ∙ drop_at (field 4 count) (field 4 page ++ rest) 4 (length-field 4 count) in
    let twelve : drop 12 new ≡ rest = sym (drop-drop 4 8 new) ∙ ap (drop 4) eight ∙ drop_at (field 4 page) rest 4 (length-field 4 page) in
    subst (λ (im : Image). CountsUndo meta im count page) (sym (own_after lsn (counts_undo meta count page) [] meta refl)) (record {
      kind = kind;
      number = refl;
      count_is = ap (number 4) four ∙ number-field 4 count (field 4 page ++ rest) a;
      page_is = ap (number 4) eight ∙ number-field 4 page rest b;
      rest = twelve ∙ ap (λ (n : ℕ). drop (4 + n) body) size;
    })

pub uses : (meta : Image) (count page : ℕ) → meta.kind ≡ Meta → IsImage meta → count < 2 ^ 32 → page < 2 ^ 32
    → Uses meta count page (counts_undo meta count page ∷ [])
uses meta count page kind rules a b =
    record { runs = use_runs meta count page kind; counts = λ lsn. use_counts meta count page lsn kind rules a b }
