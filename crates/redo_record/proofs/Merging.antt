-- A base image brought up to an LSN is the page that the whole log leaves there.
use Rattle.std.proofs.Common.{◌≡◌, ◌≤◌, ◌<◌, ℕ, Bool, true, false, cond, leb, ltb, List, [], ◌∷◌, ◌++◌, inl, inr, refl, sym, ap, subst, ◌∙◌, arith}
use Rattle.std.proofs.lemmas.Bool.{cases_lt, ltb-true}
use Rattle.std.proofs.lemmas.List.Elements.{filter-append}
use Rattle.page_image.specs.Image.{Image, unmade}
use Rattle.redo_record.specs.declared.redo.Group.{Group}
use Rattle.redo_record.specs.Effect.{after_groups, up_to, past, page_at, merged, changes, last_from, last, ArePast, LeaveAlone, Ascends}
use Rattle.redo_record.proofs.Fold.{after_groups-append, after_groups-other, page_at-page, page_at-lsn, page_at-lsn_le, kept, left_out, at_most, not_below, up_to-past, past-all, ArePast-weaker, Ascends-past}

-- ---- the groups up to n are those up to m and then those past m

all_past : (n : ℕ) (gs : List Group) (b : Bool) (g : Group) → (b ≡ true → n < g.lsn) → ArePast n gs → ArePast n (cond b (g ∷ gs) gs)
all_past n gs true g h hs = (h refl, hs)
all_past n gs false g h hs = hs

-- what is kept of groups past m is past m
up_to-keeps_past : (m n : ℕ) (gs : List Group) → ArePast m gs → ArePast m (up_to n gs)
up_to-keeps_past m n [] h = tt
up_to-keeps_past m n (g ∷ gs) h = all_past m (up_to n gs) (leb g.lsn n) g (λ _. h.0) (up_to-keeps_past m n gs h.1)

past-is_past : (n : ℕ) (gs : List Group) → ArePast n (past n gs)
past-is_past n [] = tt
past-is_past n (g ∷ gs) = all_past n (past n gs) (ltb n g.lsn) g (λ e. ltb-true n g.lsn e) (past-is_past n gs)

-- a first group up to m
first_kept : (m n : ℕ) (g : Group) (gs : List Group) → g.lsn ≤ m → m ≤ n → up_to n gs ≡ up_to m gs ++ past m (up_to n gs)
    → up_to n (g ∷ gs) ≡ up_to m (g ∷ gs) ++ past m (up_to n (g ∷ gs))
first_kept m n g gs early le rest =
    let here : up_to n (g ∷ gs) ≡ g ∷ up_to n gs = kept (leb g.lsn n) g (up_to n gs) (at_most g.lsn n (omega arith)) in
    let there : up_to m (g ∷ gs) ≡ g ∷ up_to m gs = kept (leb g.lsn m) g (up_to m gs) (at_most g.lsn m early) in
    let out : past m (up_to n (g ∷ gs)) ≡ past m (up_to n gs) =
    ap (past m) here ∙ left_out (ltb m g.lsn) g (past m (up_to n gs)) (not_below m g.lsn early) in
    here ∙ ap (λ (ls : List Group). g ∷ ls) rest
    ∙ sym (ap (λ (ls : List Group). ls ++ past m (up_to n (g ∷ gs))) there ∙ ap (λ (ls : List Group). g ∷ (up_to m gs ++ ls)) out)

-- groups past m alone
all_late : (m n : ℕ) (gs : List Group) → ArePast m gs → up_to n gs ≡ up_to m gs ++ past m (up_to n gs)
all_late m n gs late =
    sym (ap (λ (ls : List Group). ls ++ past m (up_to n gs)) (up_to-past m gs late) ∙ past-all m (up_to n gs) (up_to-keeps_past m n gs late))

pub up_to-split : (k m n : ℕ) (gs : List Group) → m ≤ n → Ascends k gs → up_to n gs ≡ up_to m gs ++ past m (up_to n gs)
up_to-split k m n [] le h = refl
up_to-split k m n (g ∷ gs) le h =
    elim (cases_lt m g.lsn) [
      | inl late ↦ all_late m n (g ∷ gs) (late, ArePast-weaker m g.lsn gs (omega arith) (Ascends-past g.lsn gs h.1))
      | inr early ↦ first_kept m n g gs early le (up_to-split g.lsn m n gs le h.1)
    ]

-- ---- past the last record for the page no group changes it

Ascends-up_to : (k n : ℕ) (gs : List Group) → Ascends k gs → Ascends k (up_to n gs)
Ascends-up_to k n [] h = tt
Ascends-up_to k n (g ∷ gs) h =
    elim (cases_lt n g.lsn) [
      | inl late ↦
          let P : List Group → Type 0 = λ ls. Ascends k ls in
          subst P (sym (up_to-past n (g ∷ gs) (late, ArePast-weaker n g.lsn gs (omega arith) (Ascends-past g.lsn gs h.1)))) tt
      | inr early ↦
          let P : List Group → Type 0 = λ ls. Ascends k ls in
          subst P (sym (kept (leb g.lsn n) g (up_to n gs) (at_most g.lsn n early))) (h.0, Ascends-up_to g.lsn n gs h.1)
    ]

chosen_rises : (b : Bool) (g : Group) (before : ℕ) (gs : List Group) (p : ℕ) → before ≤ g.lsn → g.lsn ≤ last_from g.lsn gs p → before ≤ last_from before gs p
    → before ≤ last_from (cond b g.lsn before) gs p
chosen_rises true g before gs p le h i = omega arith
chosen_rises false g before gs p le h i = i

dropped_or_alone : (c : Bool) (p : ℕ) (g : Group) (gs : List Group) → changes p g ≡ false → LeaveAlone p gs → LeaveAlone p (cond c (g ∷ gs) gs)
dropped_or_alone true p g gs h hs = (h, hs)
dropped_or_alone false p g gs h hs = hs

chosen_alone : (b : Bool) (g : Group) (before : ℕ) (gs : List Group) (p : ℕ) → changes p g ≡ b → g.lsn ≤ last_from g.lsn gs p
    → LeaveAlone p (past (last_from g.lsn gs p) gs) → LeaveAlone p (past (last_from before gs p) gs)
    → LeaveAlone p (past (last_from (cond b g.lsn before) gs p) (g ∷ gs))
chosen_alone true g before gs p is rises h i =
    let P : List Group → Type 0 = λ ls. LeaveAlone p ls in
    subst P (sym (left_out (ltb (last_from g.lsn gs p) g.lsn) g (past (last_from g.lsn gs p) gs) (not_below (last_from g.lsn gs p) g.lsn rises))) h
chosen_alone false g before gs p is rises h i =
    dropped_or_alone (ltb (last_from before gs p) g.lsn) p g (past (last_from before gs p) gs) is i

-- the last LSN is not below the one before, where the LSNs ascend from there
last_from-rises : (k before : ℕ) (gs : List Group) (p : ℕ) → before ≤ k → Ascends k gs → before ≤ last_from before gs p
last_from-rises k before [] p le h = omega arith
last_from-rises k before (g ∷ gs) p le h = chosen_rises (changes p g) g before gs p (omega (arith, h.0)) (last_from-rises g.lsn g.lsn gs p (omega arith) h.1) (last_from-rises g.lsn before gs p (omega (arith, h.0)) h.1)

-- the groups past the last LSN have no record for the page
alone_after : (k before : ℕ) (gs : List Group) (p : ℕ) → before ≤ k → Ascends k gs → LeaveAlone p (past (last_from before gs p) gs)
alone_after k before [] p le h = tt
alone_after k before (g ∷ gs) p le h =
    chosen_alone (changes p g) g before gs p refl (last_from-rises g.lsn g.lsn gs p (omega arith) h.1)
    (alone_after g.lsn g.lsn gs p (omega arith) h.1) (alone_after g.lsn before gs p (omega (arith, h.0)) h.1)

-- ---- the law

pub merged-page_at : (gs : List Group) (p m n : ℕ) → Ascends 0 gs → m ≤ n → merged (page_at gs p m) gs n ≡ page_at gs p n
merged-page_at gs p m n ascends le =
    let base : Image = page_at gs p m in
    let early : List Group = up_to m gs in
    let late : List Group = past m (up_to n gs) in
    let same : base.lsn ≡ last early p = page_at-lsn gs p m in
    let split : up_to n gs ≡ early ++ late = up_to-split 0 m n gs le ascends in
    let bound : base.lsn ≤ m = page_at-lsn_le gs p m in
    let late_stays : past base.lsn late ≡ late = past-all base.lsn late (ArePast-weaker base.lsn m late bound (past-is_past m (up_to n gs))) in
    let parts : past base.lsn (up_to n gs) ≡ past base.lsn early ++ late =
    ap (past base.lsn) split ∙ filter-append (λ g. ltb base.lsn g.lsn) early late ∙ ap (λ (ls : List Group). past base.lsn early ++ ls) late_stays in
    let by_last : LeaveAlone p (past (last early p) early) = alone_after 0 0 early p (omega arith) (Ascends-up_to 0 m gs ascends) in
    let by_lsn : LeaveAlone p (past base.lsn early) = subst (λ (k : ℕ). LeaveAlone p (past k early)) (sym same) by_last in
    let alone : LeaveAlone base.page (past base.lsn early) = subst (λ (q : ℕ). LeaveAlone q (past base.lsn early)) (sym (page_at-page gs p m)) by_lsn in
    ap (λ (ls : List Group). after_groups ls base) parts ∙ after_groups-append (past base.lsn early) late base
    ∙ ap (after_groups late) (after_groups-other (past base.lsn early) base alone)
    ∙ sym (ap (λ (ls : List Group). after_groups ls (unmade p)) split ∙ after_groups-append early late (unmade p))
