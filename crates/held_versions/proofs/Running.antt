-- For the proofs: a run of groups, each of which keeps what pages hold.
use Rattle.std.proofs.Common.{◌≡◌, ◌≤◌, ◌<◌, ◌+◌, ◌^◌, ℕ, Bool, true, false, eqb, List, [], ◌∷◌, refl, sym, subst, arith}
use Rattle.std.specs.Prelude.{if◌then◌else◌}
use Rattle.std.proofs.lemmas.Bool.{eqb-true}
use Rattle.page_image.specs.Meta.{counters_of}
use Rattle.page_image.specs.Image.{Follows, Image, unmade}
use Rattle.page_image.specs.Rules.{IsImage}
use Rattle.page_image.proofs.ChangeLaws.{inserted_good, made_good, unmade_good}
use Rattle.page_image.proofs.LessLaws.{cut_good, linked_good, patched_good}
use Rattle.page_image.proofs.RemoveLaws.{removed_good}
use Rattle.redo_record.specs.declared.redo.Record.{Record}
use Rattle.redo_record.specs.declared.redo.Record.TheVariants.{Cut, InsertSlot, Link, Make, Patch, RemoveSlot}
use Rattle.redo_record.specs.Effect.{Applies, RecordsApply, after_records, effect, page_of, step}
use Rattle.redo_record.specs.Opening.{opening_records}
use Rattle.redo_record.proofs.OpeningLaws.{opening_applies}
use Rattle.commit_stamps.specs.Effects.{Begins, Commits}
use Rattle.commit_stamps.specs.Fields.{slot_of}
use Rattle.commit_stamps.specs.Plans.{begin_records, commit_records, free_records}
use Rattle.commit_stamps.specs.Stamping.{IsStampPage}
use Rattle.commit_stamps.proofs.BeginLaws.{begins}
use Rattle.commit_stamps.proofs.CommitLaws.{commits, frees}
use Rattle.version_store.specs.Stores.{begun, blank, freed}
use Rattle.held_versions.specs.Holds.{Holds}
use Rattle.held_versions.specs.Laws.{no_items}
use Rattle.held_versions.specs.Run.{RunHolds, after_begin, after_commit, after_free, after_opening, after_second, committed}
use Rattle.held_versions.proofs.Begins.{begin_is_begun}
use Rattle.held_versions.proofs.Commits.{commit_is_stamped}
use Rattle.held_versions.proofs.Frees.{free_is_freed}
use Rattle.held_versions.proofs.Opening.{opening_is_blank}
use Rattle.held_versions.proofs.Parts.{held_trx}

-- ---- records that apply leave an image

effect_good : (r : Record) (lsn : ℕ) (im : Image) → IsImage im → Applies r im → Follows im lsn
    → lsn < 2 ^ 64 → IsImage (effect r lsn im)
effect_good (Make page kind level) lsn im good applies follows small =
    made_good im kind level lsn good applies follows small
effect_good (Patch page at bytes) lsn im good applies follows small =
    patched_good im at bytes lsn good applies follows small
effect_good (InsertSlot page index bytes) lsn im good applies follows small =
    inserted_good im index bytes lsn good applies follows small
effect_good (RemoveSlot page index) lsn im good applies follows small =
    removed_good im index lsn good applies follows small
effect_good (Cut page from) lsn im good applies follows small =
    cut_good im from lsn good applies follows small
effect_good (Link page next) lsn im good applies follows small =
    linked_good im next lsn good applies follows small

effect_lsn : (r : Record) (lsn : ℕ) (im : Image) → (effect r lsn im).lsn ≡ lsn
effect_lsn (Make page kind level) lsn im = refl
effect_lsn (Patch page at bytes) lsn im = refl
effect_lsn (InsertSlot page index bytes) lsn im = refl
effect_lsn (RemoveSlot page index) lsn im = refl
effect_lsn (Cut page from) lsn im = refl
effect_lsn (Link page next) lsn im = refl

-- an image of this LSN or an earlier one
abbrev IsUpTo : ℕ → Image → Type 0
IsUpTo lsn im = IsImage im × (im.lsn ≤ lsn)

step_good : (r : Record) (lsn : ℕ) (im : Image) → 1 ≤ lsn → lsn < 2 ^ 64 → IsUpTo lsn im
    → (page_of r ≡ im.page → Applies r im) → IsUpTo lsn (step lsn im r)
step_good r lsn im some small up applies = by_test (eqb (page_of r) im.page) refl
  where
    by_test : (b : Bool) → eqb (page_of r) im.page ≡ b
        → IsUpTo lsn (if b then effect r lsn im else im)
    by_test true e =
        let same = effect_lsn r lsn im in (
          effect_good r lsn im up.0 (applies (eqb-true (page_of r) im.page e))
              (record { some = some; later = up.1 }) small,
          omega (arith, same),
        )
    by_test false e = up

pub records_good : (rs : List Record) (lsn : ℕ) (im : Image) → 1 ≤ lsn → lsn < 2 ^ 64
    → IsUpTo lsn im → RecordsApply lsn rs im → IsUpTo lsn (after_records lsn rs im)
records_good [] lsn im some small up applies = up
records_good (r ∷ rs) lsn im some small up applies =
    records_good rs lsn (step lsn im r) some small (step_good r lsn im some small up applies.0)
    applies.1

later : (lsn : ℕ) (im : Image) → IsUpTo lsn im → IsUpTo (lsn + 1) im
later lsn im up = (up.0, omega (arith, up.1))

-- ---- the opening

opening_good : (p : ℕ) → p ≤ 32767 → IsUpTo 1 (after_opening p)
opening_good p bound =
    records_good opening_records 1 (unmade p) (omega arith) (omega arith)
    (unmade_good p bound, omega arith) (opening_applies 1 p)

-- ---- transaction 1 begins

first_begins : Begins (after_opening 0) (after_opening 1) 0 1
    (begin_records (after_opening 0) (after_opening 1) 0 1)
first_begins =
    begins (after_opening 0) (after_opening 1) 0 1 (opening_good 0 (omega arith)).0
    (opening_good 1 (omega arith)).0 opening_is_blank.counters.meta opening_is_blank.slots.page
    (omega arith) (omega arith)

begin : Holds no_items after_begin (begun blank 0)
begin =
    begin_is_begun no_items after_opening blank 0 2
    (begin_records (after_opening 0) (after_opening 1) 0 1) opening_is_blank (omega arith)
    (omega arith) first_begins

begin_meta : IsUpTo 2 (after_begin 0)
begin_meta =
    records_good (begin_records (after_opening 0) (after_opening 1) 0 1) 2 (after_opening 0)
    (omega arith) (omega arith) (later 1 (after_opening 0) (opening_good 0 (omega arith)))
    (first_begins.runs.applies 2).1.1.0

begin_slots : IsUpTo 2 (after_begin 1)
begin_slots =
    records_good (begin_records (after_opening 0) (after_opening 1) 0 1) 2 (after_opening 1)
    (omega arith) (omega arith) (later 1 (after_opening 1) (opening_good 1 (omega arith)))
    (first_begins.runs.applies 2).1.0

begin_stamps : IsUpTo 2 (after_begin 2)
begin_stamps =
    records_good (begin_records (after_opening 0) (after_opening 1) 0 1) 2 (after_opening 2)
    (omega arith) (omega arith) (later 1 (after_opening 2) (opening_good 2 (omega arith)))
    (first_begins.runs.applies 2).0

-- ---- and is committed

trx_is : (slot_of (after_begin 1) 0).trx ≡ 1
trx_is =
    (held_trx (slot_of (after_begin 1) 0) 1 (sym (begin.slots.slots 0 (omega arith)))).0

first_commits : Commits (after_begin 0) (after_begin 1) (after_begin 2) 0
    (commit_records (after_begin 0) (after_begin 1) (after_begin 2) 0)
first_commits =
    let last : 0 ≡ (counters_of (after_begin 0)).last = begin.counters.last_is in
    commits (after_begin 0) (after_begin 1) (after_begin 2) 0 begin_meta.0 begin_slots.0
    begin_stamps.0 begin.counters.meta begin.slots.page
    (subst (IsStampPage (after_begin 2)) (sym trx_is)
    (begin.stamps.made 1 (omega arith) (omega arith)))
    (omega arith) (omega (arith, last))

commit : Holds no_items after_commit committed
commit =
    commit_is_stamped no_items after_begin (begun blank 0) 0 1 3
    (commit_records (after_begin 0) (after_begin 1) (after_begin 2) 0) begin (omega arith) refl
    (omega arith) first_commits

commit_meta : IsUpTo 3 (after_commit 0)
commit_meta =
    records_good (commit_records (after_begin 0) (after_begin 1) (after_begin 2) 0) 3 (after_begin 0)
    (omega arith) (omega arith) (later 2 (after_begin 0) begin_meta)
    (first_commits.runs.applies 3).1.1.0

commit_slots : IsUpTo 3 (after_commit 1)
commit_slots =
    records_good (commit_records (after_begin 0) (after_begin 1) (after_begin 2) 0) 3 (after_begin 1)
    (omega arith) (omega arith) (later 2 (after_begin 1) begin_slots)
    (first_commits.runs.applies 3).1.0

-- ---- transaction 2 begins, and its slot is freed

second_begins : Begins (after_commit 0) (after_commit 1) 0 2
    (begin_records (after_commit 0) (after_commit 1) 0 2)
second_begins =
    begins (after_commit 0) (after_commit 1) 0 2 commit_meta.0 commit_slots.0 commit.counters.meta
    commit.slots.page (omega arith) (omega arith)

second : Holds no_items after_second (begun committed 0)
second =
    begin_is_begun no_items after_commit committed 0 4
    (begin_records (after_commit 0) (after_commit 1) 0 2) commit (omega arith) (omega arith)
    second_begins

second_slots : IsUpTo 4 (after_second 1)
second_slots =
    records_good (begin_records (after_commit 0) (after_commit 1) 0 2) 4 (after_commit 1)
    (omega arith) (omega arith) (later 3 (after_commit 1) commit_slots)
    (second_begins.runs.applies 4).0

free : Holds no_items after_free (freed (begun committed 0) 0)
free =
    free_is_freed no_items after_second (begun committed 0) 0 5 (free_records (after_second 1) 0)
    second (omega arith)
    (frees (after_second 1) 0 second_slots.0 second.slots.page (omega arith))

pub run_holds : RunHolds
run_holds = record {
  begin = begin;
  commit = commit;
  second = second;
  free = free;
  stamp = sym (free.stamps.stamps 1 (omega arith) (omega arith));
}
