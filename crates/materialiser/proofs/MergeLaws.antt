-- One step of a merge.
use Rattle.std.proofs.Common.{◌≡◌, ◌≤◌, ◌<◌, ◌+◌, max, ℕ, suc, List, [], ◌∷◌, ◌++◌, drop, length, get_or, sym, ◌∙◌, ap, subst, arith, ◌⊎◌, inl, inr, nat_lt, nat_le}
use Rattle.std.proofs.Math.Seq.{drop-cons}
use Rattle.std.proofs.lemmas.Bool.{cases_lt}
use Rattle.page_image.specs.Image.{Image, Follows}
use Rattle.redo_record.specs.declared.redo.Group.{Group}
use Rattle.redo_record.specs.Effect.{after_groups, past, up_to, Ascends, GroupsApply}
use Rattle.redo_record.proofs.Fold.{kept, left_out, at_most, not_at_most, below, not_below, after_records-lsn_le, after_groups-append, GroupsApply-append, GroupsApply-first, GroupsApply-rest}
use Rattle.materialiser.specs.Merging.{between}

-- the groups that are left do to the page what all do to the base, and apply where all do
pub record Merges (b n : ℕ) (all : List Group) (base : Image) (gs : List Group) (page : Image) : Type 0 where
  pub whole : after_groups (between b n gs) page ≡ after_groups (between b n all) base
  pub only : GroupsApply (between b n all) base → GroupsApply (between b n gs) page
  pub enough : GroupsApply (between b n gs) page → GroupsApply (between b n all) base
  pub before : ℕ
  pub ascend : Ascends before gs
  pub bound : page.lsn ≤ max before b

-- a group past b and up to n is the first
pub chosen : (b n : ℕ) (g : Group) (gs : List Group) → b < g.lsn → g.lsn ≤ n → past b (up_to n (g ∷ gs)) ≡ g ∷ past b (up_to n gs)
chosen b n g gs lo hi =
    ap (past b) (kept (nat_le g.lsn n) g (up_to n gs) (at_most g.lsn n hi))
    ∙ kept (nat_lt b g.lsn) g (past b (up_to n gs)) (below b g.lsn lo)

-- another is passed over
pub passed : (b n : ℕ) (g : Group) (gs : List Group) → ((g.lsn ≤ b) ⊎ (n < g.lsn)) → past b (up_to n (g ∷ gs)) ≡ past b (up_to n gs)
passed b n g gs (inr hi) = ap (past b) (left_out (nat_le g.lsn n) g (up_to n gs) (not_at_most g.lsn n hi))
passed b n g gs (inl lo) =
    elim (cases_lt n g.lsn) [
      | inl hi ↦ ap (past b) (left_out (nat_le g.lsn n) g (up_to n gs) (not_at_most g.lsn n hi))
      | inr fits ↦ ap (past b) (kept (nat_le g.lsn n) g (up_to n gs) (at_most g.lsn n fits))
          ∙ left_out (nat_lt b g.lsn) g (past b (up_to n gs)) (not_below b g.lsn lo)
    ]

-- the groups between are the first, where it is, and those of the rest
split : (b n : ℕ) (g : Group) (gs : List Group) → between b n (g ∷ gs) ≡ between b n (g ∷ []) ++ between b n gs
split b n g gs =
    elim (cases_lt b g.lsn) [
      | inr low ↦ passed b n g gs (inl low) ∙ sym (ap (λ q. q ++ between b n gs) (passed b n g [] (inl low)))
      | inl lo ↦ elim (cases_lt n g.lsn) [
        | inl out ↦ passed b n g gs (inr out) ∙ sym (ap (λ q. q ++ between b n gs) (passed b n g [] (inr out)))
        | inr hi ↦ chosen b n g gs lo hi ∙ sym (ap (λ q. q ++ between b n gs) (chosen b n g [] lo hi))
      ]
    ]

lsn_after : (b n before : ℕ) (g : Group) (page : Image) → before < g.lsn → page.lsn ≤ max before b
    → (after_groups (between b n (g ∷ [])) page).lsn ≤ max g.lsn b
lsn_after b n before g page first bound =
    elim (cases_lt b g.lsn) [
      | inr low ↦ rw (passed b n g [] (inl low)) (omega arith)
      | inl lo ↦ elim (cases_lt n g.lsn) [
        | inl out ↦ rw (passed b n g [] (inr out)) (omega arith)
        | inr hi ↦ rw (chosen b n g [] lo hi) (let after = after_records-lsn_le g.lsn g.records page (omega arith) in omega (arith, after))
      ]
    ]

-- a group past b follows the page
pub follows : (b n : ℕ) (all : List Group) (base : Image) (g : Group) (gs : List Group) (page : Image)
    → Merges b n all base (g ∷ gs) page → b < g.lsn → Follows page g.lsn
follows b n all base g gs page m lo =
    let first = m.ascend.0 in let bound = m.bound in record { some = omega arith; later = omega arith }

-- after a group that applies
pub advanced : (b n : ℕ) (all : List Group) (base : Image) (g : Group) (gs : List Group) (page : Image) → Merges b n all base (g ∷ gs) page
    → GroupsApply (between b n (g ∷ [])) page → Merges b n all base gs (after_groups (between b n (g ∷ [])) page)
advanced b n all base g gs page m fits =
    let one : List Group = between b n (g ∷ []) in
    let rest : List Group = between b n gs in
    let P : List Group → Type 0 = λ q. GroupsApply q page in
    record {
      whole = sym (after_groups-append one rest page) ∙ sym (ap (λ q. after_groups q page) (split b n g gs)) ∙ m.whole;
      only = λ a. GroupsApply-rest one rest page (subst P (split b n g gs) (m.only a));
      enough = λ a. m.enough (subst P (sym (split b n g gs)) (GroupsApply-append one rest page fits a));
      before = g.lsn;
      ascend = m.ascend.1;
      bound = lsn_after b n m.before g page m.ascend.0 m.bound;
    }

-- where a group does not apply, not all do
pub stopped : (b n : ℕ) (all : List Group) (base : Image) (g : Group) (gs : List Group) (page : Image) → Merges b n all base (g ∷ gs) page
    → ¬ GroupsApply (between b n (g ∷ [])) page → ¬ GroupsApply (between b n all) base
stopped b n all base g gs page m no_one a =
    let P : List Group → Type 0 = λ q. GroupsApply q page in
    no_one (GroupsApply-first (between b n (g ∷ [])) (between b n gs) page (subst P (split b n g gs) (m.only a)))

-- the groups from a place on begin with the one there
pub here : (gs : List Group) (i : ℕ) (g : Group) → i < length gs → g ≡ get_or gs i g → drop i gs ≡ g ∷ drop (i + 1) gs
here gs i g inside is =
    let one : suc i ≡ i + 1 = omega arith in
    drop-cons gs i g inside ∙ ap (λ q. q ∷ drop (suc i) gs) (sym is) ∙ ap (λ q. g ∷ drop q gs) one
