-- The records of a group, done one by one.
use Rattle.std.proofs.Common.{◌≡◌, ◌≤◌, ℕ, List, [], ◌∷◌, ◌++◌, sym, ap, subst, ◌∙◌}
use Rattle.std.specs.List.{AllByRecursion}
use Rattle.page_image.specs.Image.{Image, Follows}
use Rattle.redo_record.specs.declared.redo.Record.{Record}
use Rattle.redo_record.specs.Effect.{page_of, step, after_records, RecordsApply}
use Rattle.redo_record.proofs.Fold.{step-page, after_records-lsn_le}
use Rattle.page_store.specs.declared.frame.Frame.{Frame}
use Rattle.page_store.specs.Frames.{page_at, HasCopy, SameKept, SameCopies, Fits}

-- the records that are left do to each page what all of them do to the first one
pub record Left (lsn : ℕ) (all : List Record) (first : List Frame) (records : List Record) (frames : List Frame) : Type 0 where
  pub kept : SameKept first frames
  pub whole : (p : ℕ) → after_records lsn records (page_at frames p) ≡ after_records lsn all (page_at first p)
  pub copies : AllByRecursion (λ r. HasCopy frames (page_of r)) records
  pub numbers : (p : ℕ) → (page_at frames p).page ≡ p
  pub follows : (p : ℕ) → Follows (page_at frames p) lsn
  pub apply : (p : ℕ) → RecordsApply lsn records (page_at frames p)

-- the first of them can be done
pub left_fits : (lsn : ℕ) (all : List Record) (first : List Frame) (r : Record) (rs : List Record) (frames : List Frame)
    → Left lsn all first (r ∷ rs) frames → Fits r lsn (page_at frames (page_of r))
left_fits lsn all first r rs frames left = record {
  mine = sym (left.numbers (page_of r));
  follows = left.follows (page_of r);
  applies = (left.apply (page_of r)).0 (sym (left.numbers (page_of r)));
}

still : (old new : List Frame) (rs : List Record) → SameCopies old new → AllByRecursion (λ r. HasCopy old (page_of r)) rs
    → AllByRecursion (λ r. HasCopy new (page_of r)) rs
still old new [] same h = tt
still old new (r ∷ rs) same h = (same (page_of r) h.0, still old new rs same h.1)

-- and leaves the others
pub left_next : (lsn : ℕ) (all : List Record) (first : List Frame) (r : Record) (rs : List Record) (frames new : List Frame)
    → Left lsn all first (r ∷ rs) frames → SameKept frames new → SameCopies frames new
    → ((p : ℕ) → (page_at frames p).page ≡ p → page_at new p ≡ step lsn (page_at frames p) r) → Left lsn all first rs new
left_next lsn all first r rs frames new left kept copies pages =
    let at : (p : ℕ) → page_at new p ≡ step lsn (page_at frames p) r = λ p. pages p (left.numbers p) in
    record {
      kept = λ p. kept p ∙ left.kept p;
      whole = λ p. ap (after_records lsn rs) (at p) ∙ left.whole p;
      copies = still frames new rs copies left.copies.1;
      numbers = λ p. ap (λ (im : Image). im.page) (at p) ∙ step-page lsn (page_at frames p) r ∙ left.numbers p;
      follows = λ p.
          let some = (left.follows p).some in
          let later : (step lsn (page_at frames p) r).lsn ≤ lsn = after_records-lsn_le lsn (r ∷ []) (page_at frames p) (left.follows p).later in
          record { some = some; later = subst (λ (im : Image). im.lsn ≤ lsn) (sym (at p)) later };
      apply = λ p. subst (λ (im : Image). RecordsApply lsn rs im) (sym (at p)) (left.apply p).1;
    }

-- working copies that are there still, and one more
pub copies_more : (old new : List Frame) (rs : List Record) (r : Record) → SameCopies old new → AllByRecursion (λ r. HasCopy old (page_of r)) rs
    → HasCopy new (page_of r) → AllByRecursion (λ r. HasCopy new (page_of r)) (rs ++ r ∷ [])
copies_more old new [] r same h here = (here, tt)
copies_more old new (s ∷ rs) r same h here = (same (page_of s) h.0, copies_more old new rs r same h.1 here)
