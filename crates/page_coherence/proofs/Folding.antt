-- A page's history in a log ends at the page that the log leaves.
use Rattle.std.proofs.Common.{◌≡◌, ◌≤◌, ◌<◌, ℕ, Bool, true, false, List, [], ◌∷◌, ◌++◌, if◌then◌else◌, nat_le, arith, refl, sym, subst, ap, ◌∙◌, eqb}
use Rattle.std.specs.List.{list_any}
use Rattle.page_image.specs.Image.{Image, unmade}
use Rattle.redo_record.specs.declared.redo.Group.{Group}
use Rattle.redo_record.specs.Effect.{page_of, changes, after_records, after_groups, up_to, page_at, last, Ascends}
use Rattle.redo_record.proofs.Fold.{after_records-page, after_records-lsn, after_records-lsn_le, after_records-other, after_groups-lsn, at_most, not_at_most}
use Rattle.page_coherence.specs.History.{current, image_at, cut_to}
use Rattle.page_coherence.specs.Fold.{grown, history_after, history_of}

one_group : (p : ℕ) (older : List Image) (g : Group) → (current p older).page ≡ p → current p (grown p older g) ≡ after_records g.lsn g.records (current p older)
one_group p older g e = by_test (changes p g) refl
  where
    by_test : (b : Bool) → changes p g ≡ b → current p (if b then after_records g.lsn g.records (current p older) ∷ older else older) ≡ after_records g.lsn g.records (current p older)
    by_test true c = refl
    by_test false c = sym (after_records-other g.lsn g.records (current p older) (subst (λ k. list_any (λ r. eqb (page_of r) k) g.records ≡ false) (sym e) c))

page_stays : (p : ℕ) (older : List Image) (g : Group) → (current p older).page ≡ p → (current p (grown p older g)).page ≡ p
page_stays p older g e = ap (λ (im : Image). im.page) (one_group p older g e) ∙ after_records-page g.lsn g.records (current p older) ∙ e

folds_from : (p : ℕ) (older : List Image) (gs : List Group) → (current p older).page ≡ p → current p (history_after p older gs) ≡ after_groups gs (current p older)
folds_from p older [] e = refl
folds_from p older (g ∷ gs) e = folds_from p (grown p older g) gs (page_stays p older g e) ∙ ap (λ (im : Image). after_groups gs im) (one_group p older g e)

pub folds : (p : ℕ) (groups : List Group) → current p (history_of p groups) ≡ after_groups groups (unmade p)
folds p groups = folds_from p [] groups refl

pub lsn_of : (p : ℕ) (groups : List Group) → (current p (history_of p groups)).lsn ≡ last groups p
lsn_of p groups = ap (λ (im : Image). im.lsn) (folds p groups) ∙ after_groups-lsn groups (unmade p)

grows_from : (p : ℕ) (older : List Image) (gs : List Group) (g : Group) → history_after p older (gs ++ g ∷ []) ≡ grown p (history_after p older gs) g
grows_from p older [] g = refl
grows_from p older (x ∷ xs) g = grows_from p (grown p older x) xs g

pub grows : (p : ℕ) (groups : List Group) (g : Group) → history_of p (groups ++ g ∷ []) ≡ grown p (history_of p groups) g
grows p groups g = grows_from p [] groups g

-- ---------------- the image at an LSN

head_at : (p : ℕ) (older : List Image) (n : ℕ) → (current p older).lsn ≤ n → image_at p older n ≡ current p older
head_at p [] n le = refl
head_at p (x ∷ xs) n le = rw (at_most x.lsn n le) refl

head_kept : (p : ℕ) (older : List Image) (n : ℕ) → (current p older).lsn ≤ n → cut_to n older ≡ older
head_kept p [] n le = refl
head_kept p (x ∷ xs) n le = rw (at_most x.lsn n le) refl

grown_le : (p b : ℕ) (older : List Image) (g : Group) → (current p older).page ≡ p → (current p older).lsn ≤ b → b < g.lsn → (current p (grown p older g)).lsn ≤ g.lsn
grown_le p b older g e le lt = subst (λ (im : Image). im.lsn ≤ g.lsn) (sym (one_group p older g e)) (after_records-lsn_le g.lsn g.records (current p older) (omega arith))

changed_lsn : (p : ℕ) (g : Group) (im : Image) → im.page ≡ p → changes p g ≡ true → (after_records g.lsn g.records im).lsn ≡ g.lsn
changed_lsn p g im e c =
    after_records-lsn g.lsn g.records im
    ∙ ap (λ b. if b then g.lsn else im.lsn) (subst (λ k. list_any (λ r. eqb (page_of r) k) g.records ≡ true) (sym e) c)

-- a group past n adds nothing at n
skipped : (p n : ℕ) (older : List Image) (g : Group) → (current p older).page ≡ p → n < g.lsn → image_at p (grown p older g) n ≡ image_at p older n
skipped p n older g e lt = by_test (changes p g) refl
  where
    by_test : (b : Bool) → changes p g ≡ b → image_at p (if b then after_records g.lsn g.records (current p older) ∷ older else older) n ≡ image_at p older n
    by_test true c = rw (changed_lsn p g (current p older) e c, not_at_most g.lsn n lt) refl
    by_test false c = refl

skipped_cut : (p n : ℕ) (older : List Image) (g : Group) → (current p older).page ≡ p → n < g.lsn → cut_to n (grown p older g) ≡ cut_to n older
skipped_cut p n older g e lt = by_test (changes p g) refl
  where
    by_test : (b : Bool) → changes p g ≡ b → cut_to n (if b then after_records g.lsn g.records (current p older) ∷ older else older) ≡ cut_to n older
    by_test true c = rw (changed_lsn p g (current p older) e c, not_at_most g.lsn n lt) refl
    by_test false c = refl

taken_at : (p n b : ℕ) (older : List Image) (g : Group) → (current p older).page ≡ p → (current p older).lsn ≤ b → b < g.lsn → g.lsn ≤ n
    → image_at p (grown p older g) n ≡ after_records g.lsn g.records (image_at p older n)
taken_at p n b older g e le lt at =
    head_at p (grown p older g) n (le_on (grown_le p b older g e le lt) at)
    ∙ one_group p older g e
    ∙ ap (λ (im : Image). after_records g.lsn g.records im) (sym (head_at p older n (omega arith)))
  where
    le_on : (current p (grown p older g)).lsn ≤ g.lsn → g.lsn ≤ n → (current p (grown p older g)).lsn ≤ n
    le_on x y = omega arith

folds_at_from : (p n b : ℕ) (older : List Image) (gs : List Group) → (current p older).page ≡ p → (current p older).lsn ≤ b → Ascends b gs
    → image_at p (history_after p older gs) n ≡ after_groups (up_to n gs) (image_at p older n)
folds_at_from p n b older [] e le a = refl
folds_at_from p n b older (g ∷ gs) e le a =
    folds_at_from p n g.lsn (grown p older g) gs (page_stays p older g e) (grown_le p b older g e le a.0) a.1 ∙ by_test (nat_le g.lsn n) refl
  where
    by_test : (c : Bool) → nat_le g.lsn n ≡ c → after_groups (up_to n gs) (image_at p (grown p older g) n) ≡ after_groups (if c then g ∷ up_to n gs else up_to n gs) (image_at p older n)
    by_test true c = ap (λ (im : Image). after_groups (up_to n gs) im) (taken_at p n b older g e le a.0 (grind arith))
    by_test false c = ap (λ (im : Image). after_groups (up_to n gs) im) (skipped p n older g e (grind arith))

pub folds_at : (p n : ℕ) (groups : List Group) → Ascends 0 groups → image_at p (history_of p groups) n ≡ page_at groups p n
folds_at p n groups a = folds_at_from p n 0 [] groups refl (omega arith) a

cuts_from : (p n b : ℕ) (older : List Image) (gs : List Group) → (current p older).page ≡ p → (current p older).lsn ≤ b → Ascends b gs
    → cut_to n (history_after p older gs) ≡ history_after p (cut_to n older) (up_to n gs)
cuts_from p n b older [] e le a = refl
cuts_from p n b older (g ∷ gs) e le a =
    cuts_from p n g.lsn (grown p older g) gs (page_stays p older g e) (grown_le p b older g e le a.0) a.1 ∙ by_test (nat_le g.lsn n) refl
  where
    le_on : (current p (grown p older g)).lsn ≤ g.lsn → g.lsn ≤ n → (current p (grown p older g)).lsn ≤ n
    le_on x y = omega arith

    by_test : (c : Bool) → nat_le g.lsn n ≡ c → history_after p (cut_to n (grown p older g)) (up_to n gs) ≡ history_after p (cut_to n older) (if c then g ∷ up_to n gs else up_to n gs)
    by_test true c =
        let at : g.lsn ≤ n = grind arith in
        let old : cut_to n older ≡ older = head_kept p older n (omega arith) in
        let new : cut_to n (grown p older g) ≡ grown p older g = head_kept p (grown p older g) n (le_on (grown_le p b older g e le a.0) at) in
        ap (λ h. history_after p h (up_to n gs)) new ∙ sym (ap (λ h. history_after p (grown p h g) (up_to n gs)) old)
    by_test false c = ap (λ h. history_after p h (up_to n gs)) (skipped_cut p n older g e (grind arith))

pub cuts : (p n : ℕ) (groups : List Group) → Ascends 0 groups → cut_to n (history_of p groups) ≡ history_of p (up_to n groups)
cuts p n groups a = cuts_from p n 0 [] groups refl (omega arith) a
