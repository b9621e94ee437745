-- Stated: the plans of a transaction's begin and end, record by record.
use Rattle.std.specs.Prelude.{◌+◌, ◌*◌, ℕ, List, [], ◌∷◌, ◌++◌, nat_eq, if◌then◌else◌}
use Rattle.rm_base.specs.Fields.{field}
use Rattle.rm_base.specs.declared.places.UndoPtr.{UndoPtr}
use Rattle.page_image.specs.Meta.{counters_of}
use Rattle.page_image.specs.declared.kind.Kind.TheVariants.{Stamps}
use Rattle.page_image.specs.Image.{Image}
use Rattle.redo_record.specs.declared.redo.Record.{Record}
use Rattle.redo_record.specs.declared.redo.Record.TheVariants.{Make, Patch}
use Rattle.redo_record.specs.declared.plans.Plan.{Plan}
use Rattle.redo_record.specs.declared.plans.PlanKind.TheVariants.{Begin, Commit, Free}
use Rattle.commit_stamps.specs.declared.slots.Slot.{Slot}
use Rattle.commit_stamps.specs.Fields.{no_undo, free_slot, slot_of, pointer_bytes, slot_bytes}
use Rattle.commit_stamps.specs.Stamping.{stamp_page, stamp_place}

-- the meta page gets another next number, or another last stamp
abbrev pub numbers : Image → ℕ → Record
numbers meta t = Patch meta.page 44 (field 8 t)

abbrev pub publishes : Image → ℕ → Record
publishes meta stamp = Patch meta.page 52 (field 8 stamp)

-- a session's slot is written anew, or its last undo item alone
abbrev pub fills : Image → ℕ → Slot → Record
fills slots s slot = Patch slots.page (32 + 16 * s) (slot_bytes slot)

abbrev pub points : Image → ℕ → UndoPtr → Record
points slots s at = Patch slots.page (40 + 16 * s) (pointer_bytes at)

-- a transaction gets its stamp
abbrev pub stamps_with : Image → ℕ → ℕ → Record
stamps_with page t stamp = Patch page.page (32 + 8 * stamp_place t) (field 8 stamp)

-- the pages that a begin makes: the stamp page, by the first of its transactions
abbrev pub made_for : ℕ → List ℕ
made_for t = if nat_eq (stamp_place t) 0 then stamp_page t ∷ [] else []

abbrev pub makes_for : ℕ → List Record
makes_for t = if nat_eq (stamp_place t) 0 then Make (stamp_page t) Stamps 0 ∷ [] else []

-- transaction t begins, in the session's slot
abbrev pub begin_records : Image → Image → ℕ → ℕ → List Record
begin_records meta slots s t =
    makes_for t ++ fills slots s (record { trx = t; last = no_undo }) ∷ numbers meta (t + 1) ∷ []

abbrev pub begin_plan : Image → Image → ℕ → ℕ → Plan
begin_plan meta slots s t =
    record {
      kind = Begin t;
      pages = made_for t ++ slots.page ∷ meta.page ∷ [];
      made = made_for t;
      records = begin_records meta slots s t;
    }

-- the session's transaction gets the next stamp, and its slot becomes free
abbrev pub commit_records : Image → Image → Image → ℕ → List Record
commit_records meta slots stamps s =
    let stamp = (counters_of meta).last + 1 in
    stamps_with stamps (slot_of slots s).trx stamp ∷ fills slots s free_slot ∷ publishes meta stamp ∷ []

abbrev pub commit_plan : Image → Image → Image → ℕ → Plan
commit_plan meta slots stamps s =
    record {
      kind = Commit;
      pages = stamps.page ∷ slots.page ∷ meta.page ∷ [];
      made = [];
      records = commit_records meta slots stamps s;
    }

-- the session's slot becomes free
abbrev pub free_records : Image → ℕ → List Record
free_records slots s = fills slots s free_slot ∷ []

abbrev pub free_plan : Image → ℕ → Plan
free_plan slots s =
    record { kind = Free; pages = slots.page ∷ []; made = []; records = free_records slots s }
