-- The laws of the fold of records over a page.
use Rattle.std.proofs.Common.{◌≡◌, ◌≤◌, ◌<◌, ◌+◌, ℕ, suc, Bool, true, false, cond, eqb, leb, ltb, List, [], ◌∷◌, ◌++◌, length, refl, sym, ap, subst, ◌∙◌, arith}
use Rattle.std.specs.Prelude.{◌||◌}
use Rattle.std.specs.List.{list_any}
use Rattle.std.proofs.lemmas.Bool.{or_parts}
use Rattle.std.proofs.lemmas.Bool.Decides.{nat_tests}
use Rattle.std.proofs.lemmas.List.Elements.{filter-append}
use Rattle.page_image.specs.Image.{Image, unmade}
use Rattle.redo_record.specs.declared.redo.Record.{Record}
use Rattle.redo_record.specs.declared.redo.Record.TheVariants.{Make, Patch, InsertSlot, RemoveSlot, Cut, Link}
use Rattle.redo_record.specs.declared.redo.Group.{Group}
use Rattle.redo_record.specs.Effect.{page_of, effect, step, after_records, after_groups, up_to, past, page_at, changes, last_from, last, ArePast, AreUpTo, LeaveAlone, Ascends, CountsFrom, RecordsApply, GroupsApply}

-- ---- one list after another

pub after_records-append : (lsn : ℕ) (rs ss : List Record) (im : Image) → after_records lsn (rs ++ ss) im ≡ after_records lsn ss (after_records lsn rs im)
after_records-append lsn [] ss im = refl
after_records-append lsn (r ∷ rs) ss im = after_records-append lsn rs ss (step lsn im r)

pub after_groups-append : (gs hs : List Group) (im : Image) → after_groups (gs ++ hs) im ≡ after_groups hs (after_groups gs im)
after_groups-append [] hs im = refl
after_groups-append (g ∷ gs) hs im = after_groups-append gs hs (after_records g.lsn g.records im)

pub page_at-append : (gs hs : List Group) (p n : ℕ) → page_at (gs ++ hs) p n ≡ after_groups (up_to n hs) (page_at gs p n)
page_at-append gs hs p n =
    ap (λ (ls : List Group). after_groups ls (unmade p)) (filter-append (λ g. leb g.lsn n) gs hs)
    ∙ after_groups-append (up_to n gs) (up_to n hs) (unmade p)

-- ---- the page keeps its number

effect-page : (r : Record) (lsn : ℕ) (im : Image) → (effect r lsn im).page ≡ im.page
effect-page (Make page kind level) lsn im = refl
effect-page (Patch page at bytes) lsn im = refl
effect-page (InsertSlot page index bytes) lsn im = refl
effect-page (RemoveSlot page index) lsn im = refl
effect-page (Cut page from) lsn im = refl
effect-page (Link page next) lsn im = refl

effect-lsn : (r : Record) (lsn : ℕ) (im : Image) → (effect r lsn im).lsn ≡ lsn
effect-lsn (Make page kind level) lsn im = refl
effect-lsn (Patch page at bytes) lsn im = refl
effect-lsn (InsertSlot page index bytes) lsn im = refl
effect-lsn (RemoveSlot page index) lsn im = refl
effect-lsn (Cut page from) lsn im = refl
effect-lsn (Link page next) lsn im = refl

chosen-page : (b : Bool) (r : Record) (lsn : ℕ) (im : Image) → (cond b (effect r lsn im) im).page ≡ im.page
chosen-page true r lsn im = effect-page r lsn im
chosen-page false r lsn im = refl

chosen-lsn : (b : Bool) (r : Record) (lsn : ℕ) (im : Image) → (cond b (effect r lsn im) im).lsn ≡ cond b lsn im.lsn
chosen-lsn true r lsn im = effect-lsn r lsn im
chosen-lsn false r lsn im = refl

pub step-page : (lsn : ℕ) (im : Image) (r : Record) → (step lsn im r).page ≡ im.page
step-page lsn im r = chosen-page (eqb (page_of r) im.page) r lsn im

pub after_records-page : (lsn : ℕ) (rs : List Record) (im : Image) → (after_records lsn rs im).page ≡ im.page
after_records-page lsn [] im = refl
after_records-page lsn (r ∷ rs) im = after_records-page lsn rs (step lsn im r) ∙ step-page lsn im r

pub after_groups-page : (gs : List Group) (im : Image) → (after_groups gs im).page ≡ im.page
after_groups-page [] im = refl
after_groups-page (g ∷ gs) im = after_groups-page gs (after_records g.lsn g.records im) ∙ after_records-page g.lsn g.records im

pub page_at-page : (gs : List Group) (p n : ℕ) → (page_at gs p n).page ≡ p
page_at-page gs p n = after_groups-page (up_to n gs) (unmade p)

-- ---- the page's LSN is that of the last group with a record for it

either : (b c : Bool) (x y : ℕ) → cond c x (cond b x y) ≡ cond (b || c) x y
either true true x y = refl
either true false x y = refl
either false true x y = refl
either false false x y = refl

pub after_records-lsn : (lsn : ℕ) (rs : List Record) (im : Image)
    → (after_records lsn rs im).lsn ≡ cond (list_any (λ r. eqb (page_of r) im.page) rs) lsn im.lsn
after_records-lsn lsn [] im = refl
after_records-lsn lsn (r ∷ rs) im =
    after_records-lsn lsn rs (step lsn im r)
    ∙ ap (λ (p : ℕ). cond (list_any (λ r. eqb (page_of r) p) rs) lsn (step lsn im r).lsn) (step-page lsn im r)
    ∙ ap (λ (k : ℕ). cond (list_any (λ r. eqb (page_of r) im.page) rs) lsn k) (chosen-lsn (eqb (page_of r) im.page) r lsn im)
    ∙ either (eqb (page_of r) im.page) (list_any (λ r. eqb (page_of r) im.page) rs) lsn im.lsn

pub after_groups-lsn : (gs : List Group) (im : Image) → (after_groups gs im).lsn ≡ last_from im.lsn gs im.page
after_groups-lsn [] im = refl
after_groups-lsn (g ∷ gs) im =
    after_groups-lsn gs (after_records g.lsn g.records im)
    ∙ ap (λ (p : ℕ). last_from (after_records g.lsn g.records im).lsn gs p) (after_records-page g.lsn g.records im)
    ∙ ap (λ (k : ℕ). last_from k gs im.page) (after_records-lsn g.lsn g.records im)

pub page_at-lsn : (gs : List Group) (p n : ℕ) → (page_at gs p n).lsn ≡ last (up_to n gs) p
page_at-lsn gs p n = after_groups-lsn (up_to n gs) (unmade p)

-- ---- the page's LSN is at most that of the groups

chosen_le : (b : Bool) (lsn k : ℕ) → k ≤ lsn → cond b lsn k ≤ lsn
chosen_le true lsn k h = omega arith
chosen_le false lsn k h = h

pub after_records-lsn_le : (lsn : ℕ) (rs : List Record) (im : Image) → im.lsn ≤ lsn → (after_records lsn rs im).lsn ≤ lsn
after_records-lsn_le lsn rs im h =
    omega (arith, after_records-lsn lsn rs im, chosen_le (list_any (λ r. eqb (page_of r) im.page) rs) lsn im.lsn h)

after_records-lsn_within : (b : Bool) (n lsn k : ℕ) → lsn ≤ n → k ≤ n → cond b lsn k ≤ n
after_records-lsn_within true n lsn k h i = h
after_records-lsn_within false n lsn k h i = i

pub after_groups-lsn_le : (n : ℕ) (gs : List Group) (im : Image) → AreUpTo n gs → im.lsn ≤ n → (after_groups gs im).lsn ≤ n
after_groups-lsn_le n [] im h le = le
after_groups-lsn_le n (g ∷ gs) im h le =
    after_groups-lsn_le n gs (after_records g.lsn g.records im) h.1
    (omega (arith, after_records-lsn g.lsn g.records im, after_records-lsn_within (list_any (λ r. eqb (page_of r) im.page) g.records) n g.lsn im.lsn h.0 le))

all_up_to : (n : ℕ) (gs : List Group) (b : Bool) (g : Group) → (b ≡ true → g.lsn ≤ n) → AreUpTo n gs → AreUpTo n (cond b (g ∷ gs) gs)
all_up_to n gs true g h hs = (h refl, hs)
all_up_to n gs false g h hs = hs

le_from : (m n : ℕ) → leb m n ≡ true → m ≤ n
le_from m n e = grind (arith, nat_tests)

pub up_to-are : (n : ℕ) (gs : List Group) → AreUpTo n (up_to n gs)
up_to-are n [] = tt
up_to-are n (g ∷ gs) = all_up_to n (up_to n gs) (leb g.lsn n) g (λ e. le_from g.lsn n e) (up_to-are n gs)

pub page_at-lsn_le : (gs : List Group) (p n : ℕ) → (page_at gs p n).lsn ≤ n
page_at-lsn_le gs p n = after_groups-lsn_le n (up_to n gs) (unmade p) (up_to-are n gs) (omega arith)

-- ---- records that apply in order

pub RecordsApply-append : (lsn : ℕ) (rs ss : List Record) (im : Image) → RecordsApply lsn rs im → RecordsApply lsn ss (after_records lsn rs im) → RecordsApply lsn (rs ++ ss) im
RecordsApply-append lsn [] ss im h i = i
RecordsApply-append lsn (r ∷ rs) ss im h i = (h.0, RecordsApply-append lsn rs ss (step lsn im r) h.1 i)

pub GroupsApply-append : (gs hs : List Group) (im : Image) → GroupsApply gs im → GroupsApply hs (after_groups gs im) → GroupsApply (gs ++ hs) im
GroupsApply-append [] hs im h i = i
GroupsApply-append (g ∷ gs) hs im h i = (h.0, GroupsApply-append gs hs (after_records g.lsn g.records im) h.1 i)

pub GroupsApply-first : (gs hs : List Group) (im : Image) → GroupsApply (gs ++ hs) im → GroupsApply gs im
GroupsApply-first [] hs im h = tt
GroupsApply-first (g ∷ gs) hs im h = (h.0, GroupsApply-first gs hs (after_records g.lsn g.records im) h.1)

pub GroupsApply-rest : (gs hs : List Group) (im : Image) → GroupsApply (gs ++ hs) im → GroupsApply hs (after_groups gs im)
GroupsApply-rest [] hs im h = h
GroupsApply-rest (g ∷ gs) hs im h = GroupsApply-rest gs hs (after_records g.lsn g.records im) h.1

-- ---- groups without a record for the page change nothing

other : (b : Bool) (r : Record) (lsn : ℕ) (im : Image) → b ≡ false → cond b (effect r lsn im) im ≡ im
other true r lsn im e = absurd cc
other false r lsn im e = refl

pub after_records-other : (lsn : ℕ) (rs : List Record) (im : Image) → list_any (λ r. eqb (page_of r) im.page) rs ≡ false → after_records lsn rs im ≡ im
after_records-other lsn [] im e = refl
after_records-other lsn (r ∷ rs) im e =
    let none = or_parts (eqb (page_of r) im.page) (list_any (λ r. eqb (page_of r) im.page) rs) e in
    ap (after_records lsn rs) (other (eqb (page_of r) im.page) r lsn im none.0) ∙ after_records-other lsn rs im none.1

pub after_groups-other : (gs : List Group) (im : Image) → LeaveAlone im.page gs → after_groups gs im ≡ im
after_groups-other [] im e = refl
after_groups-other (g ∷ gs) im e = ap (after_groups gs) (after_records-other g.lsn g.records im e.0) ∙ after_groups-other gs im e.1

-- ---- groups by their LSN

pub kept : (b : Bool) (g : Group) (gs : List Group) → b ≡ true → cond b (g ∷ gs) gs ≡ g ∷ gs
kept true g gs e = refl
kept false g gs e = absurd cc

pub left_out : (b : Bool) (g : Group) (gs : List Group) → b ≡ false → cond b (g ∷ gs) gs ≡ gs
left_out true g gs e = absurd cc
left_out false g gs e = refl

pub at_most : (m n : ℕ) → m ≤ n → leb m n ≡ true
at_most m n h = grind (arith, nat_tests)

pub not_at_most : (m n : ℕ) → n < m → leb m n ≡ false
not_at_most m n h = grind (arith, nat_tests)

pub below : (m n : ℕ) → m < n → ltb m n ≡ true
below m n h = grind (arith, nat_tests)

pub not_below : (m n : ℕ) → n ≤ m → ltb m n ≡ false
not_below m n h = grind (arith, nat_tests)

pub up_to-all : (n : ℕ) (gs : List Group) → AreUpTo n gs → up_to n gs ≡ gs
up_to-all n [] h = refl
up_to-all n (g ∷ gs) h = kept (leb g.lsn n) g (up_to n gs) (at_most g.lsn n h.0) ∙ ap (λ (ls : List Group). g ∷ ls) (up_to-all n gs h.1)

pub up_to-past : (n : ℕ) (gs : List Group) → ArePast n gs → up_to n gs ≡ []
up_to-past n [] h = refl
up_to-past n (g ∷ gs) h = left_out (leb g.lsn n) g (up_to n gs) (not_at_most g.lsn n h.0) ∙ up_to-past n gs h.1

pub past-all : (n : ℕ) (gs : List Group) → ArePast n gs → past n gs ≡ gs
past-all n [] h = refl
past-all n (g ∷ gs) h = kept (ltb n g.lsn) g (past n gs) (below n g.lsn h.0) ∙ ap (λ (ls : List Group). g ∷ ls) (past-all n gs h.1)

split_alone : (b : Bool) (p : ℕ) (g : Group) (gs : List Group) → changes p g ≡ false → LeaveAlone p gs → LeaveAlone p (cond b (g ∷ gs) gs)
split_alone true p g gs h hs = (h, hs)
split_alone false p g gs h hs = hs

alone : (n : ℕ) (p : ℕ) (gs : List Group) → LeaveAlone p gs → LeaveAlone p (up_to n gs)
alone n p [] h = tt
alone n p (g ∷ gs) h = split_alone (leb g.lsn n) p g (up_to n gs) h.0 (alone n p gs h.1)

pub ArePast-weaker : (m n : ℕ) (gs : List Group) → m ≤ n → ArePast n gs → ArePast m gs
ArePast-weaker m n [] le h = tt
ArePast-weaker m n (g ∷ gs) le h = (omega (arith, h.0), ArePast-weaker m n gs le h.1)

pub Ascends-past : (n : ℕ) (gs : List Group) → Ascends n gs → ArePast n gs
Ascends-past n [] h = tt
Ascends-past n (g ∷ gs) h = (h.0, ArePast-weaker n g.lsn gs (omega (arith, h.0)) (Ascends-past g.lsn gs h.1))

pub Ascends-weaker : (m n : ℕ) (gs : List Group) → m ≤ n → Ascends n gs → Ascends m gs
Ascends-weaker m n [] le h = tt
Ascends-weaker m n (g ∷ gs) le h = (omega (arith, h.0), h.1)

pub CountsFrom-ascends : (n : ℕ) (gs : List Group) → CountsFrom n gs → Ascends n gs
CountsFrom-ascends n [] h = tt
CountsFrom-ascends n (g ∷ gs) h =
    (omega (arith, h.0), subst (λ (k : ℕ). Ascends k gs) (sym h.0) (CountsFrom-ascends (n + 1) gs h.1))

pub CountsFrom-up_to : (n m : ℕ) (gs : List Group) → n + length gs ≤ m → CountsFrom n gs → AreUpTo m gs
CountsFrom-up_to n m [] le h = tt
CountsFrom-up_to n m (g ∷ gs) le h = (omega (arith, h.0), CountsFrom-up_to (n + 1) m gs (omega arith) h.1)

pub CountsFrom-append : (n : ℕ) (gs hs : List Group) → CountsFrom n gs → CountsFrom (n + length gs) hs → CountsFrom n (gs ++ hs)
CountsFrom-append n [] hs g h = let here : n + 0 ≡ n = omega arith in subst (λ (k : ℕ). CountsFrom k hs) here h
CountsFrom-append n (x ∷ gs) hs g h =
    let here : n + suc (length gs) ≡ (n + 1) + length gs = omega arith in
    (g.0, CountsFrom-append (n + 1) gs hs g.1 (subst (λ (k : ℕ). CountsFrom k hs) here h))

-- ---- a log that goes on

pub page_at-past : (gs hs : List Group) (p n : ℕ) → ArePast n hs → page_at (gs ++ hs) p n ≡ page_at gs p n
page_at-past gs hs p n h = page_at-append gs hs p n ∙ ap (λ (ls : List Group). after_groups ls (page_at gs p n)) (up_to-past n hs h)

pub page_at-all : (gs : List Group) (p n : ℕ) → AreUpTo n gs → page_at gs p n ≡ after_groups gs (unmade p)
page_at-all gs p n h = ap (λ (ls : List Group). after_groups ls (unmade p)) (up_to-all n gs h)

pub page_at-one_more : (gs : List Group) (g : Group) (p n : ℕ) → g.lsn ≤ n → page_at (gs ++ g ∷ []) p n ≡ after_records g.lsn g.records (page_at gs p n)
page_at-one_more gs g p n h =
    page_at-append gs (g ∷ []) p n ∙ ap (λ (ls : List Group). after_groups ls (page_at gs p n)) (up_to-all n (g ∷ []) (h, tt))

pub page_at-other : (gs : List Group) (p n : ℕ) → LeaveAlone p gs → page_at gs p n ≡ unmade p
page_at-other gs p n h = after_groups-other (up_to n gs) (unmade p) (alone n p gs h)
