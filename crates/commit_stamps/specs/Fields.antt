-- Stated: what the slots page holds.
use Rattle.std.specs.Prelude.{◌+◌, ◌*◌, ℕ, List, ◌++◌, drop}
use Rattle.rm_base.specs.Fields.{field, number}
use Rattle.rm_base.specs.declared.places.UndoPtr.{UndoPtr}
use Rattle.page_image.specs.Image.{Image}
use Rattle.commit_stamps.specs.declared.slots.Slot.{Slot}

-- no undo item
abbrev pub no_undo : UndoPtr
no_undo = record { page = 0; slot = 0 }

-- the slot of a session without a transaction
abbrev pub free_slot : Slot
free_slot = record { trx = 0; last = no_undo }

-- the slot of a session, among those of 16 bytes
abbrev pub slot_of : Image → ℕ → Slot
slot_of slots s =
    record {
      trx = number 8 (drop (16 * s) slots.body);
      last = record {
        page = number 4 (drop (16 * s + 8) slots.body);
        slot = number 2 (drop (16 * s + 12) slots.body);
      };
    }

-- the page and the place of an undo item
abbrev pub pointer_bytes : UndoPtr → List ℕ
pointer_bytes at = field 4 at.page ++ field 2 at.slot

-- transaction, last undo item, and two zero bytes
abbrev pub slot_bytes : Slot → List ℕ
slot_bytes slot = field 8 slot.trx ++ (pointer_bytes slot.last ++ field 2 0)
