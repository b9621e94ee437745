-- For the proofs: records that are for a page, and records for others.
use Rattle.std.proofs.Common.{◌≡◌, ◌≢◌, ℕ, true, false, eqb, List, [], ◌∷◌, refl, sym, ap, subst, ◌∙◌}
use Rattle.std.specs.List.{AllByRecursion}
use Rattle.std.proofs.lemmas.Bool.{eq-eqb, ne_eqb}
use Rattle.page_image.specs.Image.{Image}
use Rattle.redo_record.specs.declared.redo.Record.{Record}
use Rattle.redo_record.specs.Effect.{page_of, Applies, effect, step, after_records, RecordsApply}

step_own : (r : Record) (lsn : ℕ) (im : Image) → page_of r ≡ im.page → step lsn im r ≡ effect r lsn im
step_own r lsn im e = let same : eqb (page_of r) im.page ≡ true = eq-eqb (page_of r) im.page e in rw same refl

step_other : (r : Record) (lsn : ℕ) (im : Image) → page_of r ≢ im.page → step lsn im r ≡ im
step_other r lsn im e = let other : eqb (page_of r) im.page ≡ false = ne_eqb (page_of r) im.page e in rw other refl

-- no record is for the page
abbrev pub NoneFor : ℕ → List Record → Type 0
NoneFor page records = AllByRecursion (λ r. page_of r ≢ page) records

pub untouched : (lsn : ℕ) (rs : List Record) (im : Image) → NoneFor im.page rs → after_records lsn rs im ≡ im
untouched lsn [] im h = refl
untouched lsn (r ∷ rs) im h =
    ap (λ (i : Image). after_records lsn rs i) (step_other r lsn im h.0) ∙ untouched lsn rs im h.1

-- one record of the page, and then others
pub own_apply : (lsn : ℕ) (r : Record) (ss : List Record) (im : Image) → page_of r ≡ im.page → Applies r im → RecordsApply lsn ss (effect r lsn im) → RecordsApply lsn (r ∷ ss) im
own_apply lsn r ss im e a rest = ((λ _. a), subst (λ (i : Image). RecordsApply lsn ss i) (sym (step_own r lsn im e)) rest)

pub other_apply : (lsn : ℕ) (r : Record) (ss : List Record) (im : Image) → page_of r ≢ im.page → RecordsApply lsn ss im → RecordsApply lsn (r ∷ ss) im
other_apply lsn r ss im ne rest = ((λ e. absurd (ne e)), subst (λ (i : Image). RecordsApply lsn ss i) (sym (step_other r lsn im ne)) rest)

pub own_after : (lsn : ℕ) (r : Record) (ss : List Record) (im : Image) → page_of r ≡ im.page → after_records lsn (r ∷ ss) im ≡ after_records lsn ss (effect r lsn im)
own_after lsn r ss im e = ap (λ (i : Image). after_records lsn ss i) (step_own r lsn im e)

pub other_after : (lsn : ℕ) (r : Record) (ss : List Record) (im : Image) → page_of r ≢ im.page → after_records lsn (r ∷ ss) im ≡ after_records lsn ss im
other_after lsn r ss im ne = ap (λ (i : Image). after_records lsn ss i) (step_other r lsn im ne)
