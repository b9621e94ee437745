-- For the proofs: begins, commits, freed slots and splits are events; the roots of trees.
use Rattle.std.proofs.Common.{◌≡◌, ◌≤◌, ◌+◌, ◌&&◌, Bool, true, false, inr, refl, sym, subst}
use Rattle.std.specs.Prelude.{nat_eq, nat_le, nat_lt}
use Rattle.std.specs.List.{AllByRecursion}
use Rattle.std.proofs.lemmas.Bool.{leb-true}
use Rattle.rm_base.specs.declared.limits.TheConstants.{MAX_TRX_ID}
use Rattle.page_image.specs.Image.{Image}
use Rattle.page_image.specs.Meta.{counters_of}
use Rattle.page_image.specs.Rules.{IsImage}
use Rattle.version_store.specs.Stores.{UndoEntry}
use Rattle.history.specs.Clusters.{now}
use Rattle.history.proofs.Installs.{may_write}
use Rattle.held_versions.specs.Trees.{IsRoot}
use Rattle.table_machine.specs.Language.{Language}
use Rattle.tree_plan_steps.proofs.Following.{begin_follows, commit_follows, free_follows}
use Rattle.tree_plan_steps.proofs.UndoItems.{last_undo_is_newest}
use Rattle.tree_plan_steps.proofs.Widening.{room_follows}
use Rattle.transaction_edits.specs.declared.numbering.Number.TheVariants as number
use Rattle.transaction_edits.specs.Works.{by, number_of}
use Rattle.edit_events.specs.Events.{BeginIsEvent, CommitIsEvent, FreeIsEvent, SplitIsEvent, UndoneIsRooted, WrittenIsRooted}
use Rattle.edit_events.proofs.Reading.{first_is, read_is_path}

-- ---- the number of a transaction that begins

second_test : (a b e : Bool) → by (a && b) number.Next (by e number.AllGiven number.Wrong) ≡ number.Next
    → b ≡ true
second_test a true e h = refl
second_test true false true h = absurd (let f : number.AllGiven ≡ number.Next = h in cc)
second_test true false false h = absurd (let f : number.Wrong ≡ number.Next = h in cc)
second_test false false true h = absurd (let f : number.AllGiven ≡ number.Next = h in cc)
second_test false false false h = absurd (let f : number.Wrong ≡ number.Next = h in cc)

next_within : (meta : Image) → number_of meta ≡ number.Next → (counters_of meta).next ≤ MAX_TRX_ID
next_within meta e =
    leb-true (counters_of meta).next MAX_TRX_ID
    (second_test (nat_lt 0 (counters_of meta).next) (nat_le (counters_of meta).next MAX_TRX_ID)
    (nat_eq (counters_of meta).next (MAX_TRX_ID + 1)) e)

pub begin_is_event : (language : Language) → BeginIsEvent language
begin_is_event language was c items pages lsn s plan g st may low next fits =
    begin_follows language was c items pages lsn s plan.records g st may low
    (next_within (pages 0) next) fits.1

pub commit_is_event : (language : Language) → CommitIsEvent language
commit_is_event language was c items pages lsn s n plan g st may fits =
    commit_follows language was c items pages lsn s n plan.records g st may fits.1

pub free_is_event : (language : Language) → FreeIsEvent language
free_is_event language was c items pages lsn s n plan g st may none fits =
    free_follows language was c items pages lsn s n plan.records g st may none fits.1

-- ---- the roots of trees

pub written_is_rooted : (language : Language) → WrittenIsRooted language
written_is_rooted language was c s n root h g may =
    inr (h.table, (may_write was c s n root may.transaction h may.others g may.may may.is_row may.sees).root)

pub undone_is_rooted : UndoneIsRooted
undone_is_rooted c items pages s n undo st may last =
    (subst (AllByRecursion (λ (x : UndoEntry). IsRoot (now c) x.root))
    (last_undo_is_newest items pages (now c) s n undo st.holds may.slot last).list
    (st.entries s n may.slot)).0

-- ---- a split

pub split_is_event : (language : Language) → SplitIsEvent language
split_is_event language was c items pages lsn s root item path plan g st may named read rules image
    fits =
    room_follows language was c items pages lsn s root item path plan g st may named
    (read_is_path pages root (items root) item.key path read) rules
    (subst IsImage (sym (first_is pages root item.key path read)) image) fits.space fits.splits
    fits.keeps
