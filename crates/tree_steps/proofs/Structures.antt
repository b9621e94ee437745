-- No structure number that a log leaves is past its LSN.
use Rattle.std.proofs.Common.{◌≤◌, ℕ, Bool, true, false, cond, List, [], ◌∷◌, arith}
use Rattle.std.specs.Prelude.{nat_eq}
use Rattle.page_image.specs.Image.{Image, unmade, is_inner}
use Rattle.redo_record.proofs.Fold.{up_to-are}
use Rattle.redo_record.specs.Effect.{page_of, effect, step, after_records, after_groups, up_to, page_at, AreUpTo}
use Rattle.redo_record.specs.declared.redo.Group.{Group}
use Rattle.redo_record.specs.declared.redo.Record.{Record}
use Rattle.redo_record.specs.declared.redo.Record.TheVariants.{Make, Patch, InsertSlot, RemoveSlot, Cut, Link}
use Rattle.tree_change.proofs.WayLaws.{at}

chosen : (b : Bool) (n lsn k : ℕ) → lsn ≤ n → k ≤ n → cond b lsn k ≤ n
chosen true n lsn k h i = h
chosen false n lsn k h i = i

effect_structure : (r : Record) (n lsn : ℕ) (im : Image) → lsn ≤ n → im.structure ≤ n
    → (effect r lsn im).structure ≤ n
effect_structure (Make page kind level) n lsn im h i = h
effect_structure (Patch page at bytes) n lsn im h i = i
effect_structure (InsertSlot page index bytes) n lsn im h i =
    chosen (is_inner im.kind) n lsn im.structure h i
effect_structure (RemoveSlot page index) n lsn im h i =
    chosen (is_inner im.kind) n lsn im.structure h i
effect_structure (Cut page from) n lsn im h i = h
effect_structure (Link page next) n lsn im h i = h

step_structure : (r : Record) (n lsn : ℕ) (im : Image) → lsn ≤ n → im.structure ≤ n
    → (step lsn im r).structure ≤ n
step_structure r n lsn im h i = go (nat_eq (page_of r) im.page)
  where
    go : (b : Bool) → (cond b (effect r lsn im) im).structure ≤ n
    go true = effect_structure r n lsn im h i
    go false = i

records_structure : (rs : List Record) (n lsn : ℕ) (im : Image) → lsn ≤ n → im.structure ≤ n
    → (after_records lsn rs im).structure ≤ n
records_structure [] n lsn im h i = i
records_structure (r ∷ rs) n lsn im h i =
    records_structure rs n lsn (step lsn im r) h (step_structure r n lsn im h i)

groups_structure : (gs : List Group) (n : ℕ) (im : Image) → AreUpTo n gs → im.structure ≤ n
    → (after_groups gs im).structure ≤ n
groups_structure [] n im h i = i
groups_structure (g ∷ gs) n im h i =
    groups_structure gs n (after_records g.lsn g.records im) h.1
    (records_structure g.records n g.lsn im h.0 i)

pub page_structure : (gs : List Group) (p n : ℕ) → (page_at gs p n).structure ≤ n
page_structure gs p n = groups_structure (up_to n gs) n (unmade p) (up_to-are n gs) (omega arith)
