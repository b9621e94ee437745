use Rattle.std.proofs.Common.{◌≡◌, ◌≢◌, ℕ, List, [], ◌∷◌, refl, sym, subst, ◌∙◌, inl, arith}
use Rattle.page_image.specs.declared.kind.Kind.TheVariants.{Unmade, Leaf}
use Rattle.page_image.specs.Image.{CanMake, CanInsert}
use Rattle.redo_record.specs.declared.redo.Record.{Record}
use Rattle.redo_record.specs.declared.redo.Record.TheVariants.{Make, InsertSlot}
use Rattle.redo_record.specs.Effect.{after_records, RecordsApply}
use Rattle.redo_record.proofs.Fold.{after_records-page}
use Rattle.page_store.specs.Stored.{Stored, pages_of}
use Rattle.page_store.specs.Opening.{opened}
use Rattle.page_store.proofs.StoredLaws.{page_number}
use Rattle.page_store.proofs.tests.run_leaf.Goals as goal

abbrev leaf_made : List Record
leaf_made = Make 1028 Leaf 0 ∷ []

abbrev leaf_records : List Record
leaf_records = Make 1028 Leaf 0 ∷ InsertSlot 1028 0 (104 ∷ 105 ∷ []) ∷ []

no_leaf : Leaf ≢ Unmade
no_leaf e = cc

leaf_applies : (lsn p : ℕ) → RecordsApply lsn leaf_records (pages_of opened p)
leaf_applies lsn p =
    let can_make : CanMake (pages_of opened 1028) Leaf 0 = record { some = no_leaf; fits = refl; from = inl refl } in
    let can_insert : CanInsert (after_records lsn leaf_made (pages_of opened 1028)) 0 (104 ∷ 105 ∷ []) =
    record { slotted = refl; some = omega arith; place = omega arith; room = omega arith } in
    let made = λ (e : 1028 ≡ (pages_of opened p).page). subst (λ (q : ℕ). CanMake (pages_of opened q) Leaf 0) (e ∙ page_number opened p) can_make in
    let joined = λ (e : 1028 ≡ (after_records lsn leaf_made (pages_of opened p)).page).
    subst (λ (q : ℕ). CanInsert (after_records lsn leaf_made (pages_of opened q)) 0 (104 ∷ 105 ∷ []))
    (e ∙ after_records-page lsn leaf_made (pages_of opened p) ∙ page_number opened p) can_insert in
    (made, (joined, tt))

pub run-requires-clause-apply : goal.run-requires-clause-apply
run-requires-clause-apply c lsn p =
    subst (λ (rs : List Record). RecordsApply lsn rs (pages_of c.args.store.now p)) (sym c.in_ok-leaf_records.ensures)
    (subst (λ (s : Stored). RecordsApply lsn leaf_records (pages_of s p)) (sym c.requires) (leaf_applies lsn p))
