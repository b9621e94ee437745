-- Stated: what records do to a page, and the page that a log leaves.
use Rattle.std.specs.Prelude.{◌≡◌, ◌≤◌, ◌<◌, ◌+◌, ℕ, Bool, false, List, [], ◌∷◌, filter, nat_lt, nat_le, ◌==◌, if◌then◌else◌}
use Rattle.std.specs.List.{list_any, AllByRecursion}
use Rattle.page_image.specs.Image.{Image, unmade, CanMake, made, CanPatch, patched, CanInsert, inserted, CanRemove, removed, CanCut, cut_from, CanLink, linked}
use Rattle.redo_record.specs.declared.redo.Record.{Record}
use Rattle.redo_record.specs.declared.redo.Record.TheVariants.{Make, Patch, InsertSlot, RemoveSlot, Cut, Link}
use Rattle.redo_record.specs.declared.redo.Group.{Group}

-- the page that a record changes
abbrev pub page_of : Record → ℕ
page_of (Make page kind level) = page
page_of (Patch page at bytes) = page
page_of (InsertSlot page index bytes) = page
page_of (RemoveSlot page index) = page
page_of (Cut page from) = page
page_of (Link page next) = page

-- the record can change a page that is so
abbrev pub Applies : Record → Image → Type 0
Applies (Make page kind level) im = CanMake im kind level
Applies (Patch page at bytes) im = CanPatch im at bytes
Applies (InsertSlot page index bytes) im = CanInsert im index bytes
Applies (RemoveSlot page index) im = CanRemove im index
Applies (Cut page from) im = CanCut im from
Applies (Link page next) im = CanLink im next

-- the page after a record of a group with this LSN
abbrev pub effect : Record → ℕ → Image → Image
effect (Make page kind level) lsn im = made im kind level lsn
effect (Patch page at bytes) lsn im = patched im at bytes lsn
effect (InsertSlot page index bytes) lsn im = inserted im index bytes lsn
effect (RemoveSlot page index) lsn im = removed im index lsn
effect (Cut page from) lsn im = cut_from im from lsn
effect (Link page next) lsn im = linked im next lsn

-- a record for another page changes nothing
abbrev pub step : ℕ → Image → Record → Image
step lsn im r = if page_of r == im.page then effect r lsn im else im

-- the page after the records of a group with this LSN
abbrev pub after_records : ℕ → List Record → Image → Image
after_records lsn [] im = im
after_records lsn (r ∷ rs) im = after_records lsn rs (step lsn im r)

-- the page after the groups
abbrev pub after_groups : List Group → Image → Image
after_groups [] im = im
after_groups (g ∷ gs) im = after_groups gs (after_records g.lsn g.records im)

-- the groups with an LSN of at most n
abbrev pub up_to : ℕ → List Group → List Group
up_to n groups = filter (λ g. nat_le g.lsn n) groups

-- the groups with an LSN past n
abbrev pub past : ℕ → List Group → List Group
past n groups = filter (λ g. nat_lt n g.lsn) groups

-- page p as the log leaves it at LSN n: the records for it in the groups up to n, done to the unmade page
abbrev pub page_at : List Group → ℕ → ℕ → Image
page_at groups p n = after_groups (up_to n groups) (unmade p)

-- a base image brought up to LSN n: the records for its page past its own LSN, done to it
abbrev pub merged : Image → List Group → ℕ → Image
merged base groups n = after_groups (past base.lsn (up_to n groups)) base

-- some record of the group is for page p
abbrev pub changes : ℕ → Group → Bool
changes p g = list_any (λ r. page_of r == p) g.records

-- the LSN of the last group with a record for page p, or `before` where there is none
abbrev pub last_from : ℕ → List Group → ℕ → ℕ
last_from before [] p = before
last_from before (g ∷ gs) p = last_from (if changes p g then g.lsn else before) gs p

-- the LSN of the last group with a record for page p, or 0
abbrev pub last : List Group → ℕ → ℕ
last groups p = last_from 0 groups p

-- each LSN is past n
abbrev pub ArePast : ℕ → List Group → Type 0
ArePast n groups = AllByRecursion (λ g. n < g.lsn) groups

-- each LSN is at most n
abbrev pub AreUpTo : ℕ → List Group → Type 0
AreUpTo n groups = AllByRecursion (λ g. g.lsn ≤ n) groups

-- no group has a record for page p
abbrev pub LeaveAlone : ℕ → List Group → Type 0
LeaveAlone p groups = AllByRecursion (λ g. changes p g ≡ false) groups

-- the LSNs ascend, and all are past n
abbrev pub Ascends : ℕ → List Group → Type 0
Ascends n [] = Unit {0}
Ascends n (g ∷ gs) = (n < g.lsn) × Ascends g.lsn gs

-- the LSNs are n + 1, n + 2 and so on
abbrev pub CountsFrom : ℕ → List Group → Type 0
CountsFrom n [] = Unit {0}
CountsFrom n (g ∷ gs) = (g.lsn ≡ n + 1) × CountsFrom (n + 1) gs

-- the records of a group with this LSN apply in order to a page, those of them that are for it
abbrev pub RecordsApply : ℕ → List Record → Image → Type 0
RecordsApply lsn [] im = Unit {0}
RecordsApply lsn (r ∷ rs) im = (page_of r ≡ im.page → Applies r im) × RecordsApply lsn rs (step lsn im r)

-- the records of the groups apply in order to a page
abbrev pub GroupsApply : List Group → Image → Type 0
GroupsApply [] im = Unit {0}
GroupsApply (g ∷ gs) im = RecordsApply g.lsn g.records im × GroupsApply gs (after_records g.lsn g.records im)
