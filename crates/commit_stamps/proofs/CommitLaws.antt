-- For the proofs: what the records of a commit, of a freed slot and of a new last undo item do.
use Rattle.std.proofs.Common.{◌≡◌, ◌≢◌, ◌≤◌, ◌<◌, ◌+◌, ◌*◌, ◌^◌, ℕ, true, List, [], ◌∷◌, length, refl, sym, ◌∙◌, ap, subst, arith}
use Rattle.rm_base.specs.Fields.{field}
use Rattle.rm_base.proofs.FieldLaws.{length-field}
use Rattle.rm_base.specs.declared.places.UndoPtr.{UndoPtr}
use Rattle.page_image.specs.Meta.{IsMeta, IsSlots, counters_of}
use Rattle.page_image.specs.Image.{Image, has_body, CanPatch, patched}
use Rattle.page_image.specs.Rules.{IsImage}
use Rattle.redo_record.specs.declared.redo.Record.{Record}
use Rattle.redo_record.specs.Spelling.{FitsPage}
use Rattle.commit_stamps.specs.declared.slots.Slot.{Slot}
use Rattle.commit_stamps.specs.Fields.{free_slot, slot_of, pointer_bytes, slot_bytes}
use Rattle.commit_stamps.specs.Stamping.{IsStampPage, stamp_place}
use Rattle.commit_stamps.specs.Plans.{fills, points, publishes, stamps_with, commit_records, free_records}
use Rattle.commit_stamps.specs.Effects.{SetsSlot, SetsStamp, SetsCounters, Commits, Frees, Points}
use Rattle.commit_stamps.proofs.EffectLaws.{untouched, own_apply, other_apply, own_after, other_after}
use Rattle.commit_stamps.proofs.FieldLaws.{length-slot, length-pointer, fills_slot, points_slot, sets_last}
use Rattle.commit_stamps.proofs.StampLaws.{place_below, sets_stamp}

pub body_long : (im : Image) → IsImage im → has_body im.kind ≡ true → length im.body ≡ 4064
body_long im rules has = rules.whole_body has

pub slots_long : (im : Image) → IsImage im → IsSlots im → length im.body ≡ 4064
slots_long im rules is = body_long im rules (ap has_body is.kind)

pub meta_long : (im : Image) → IsImage im → IsMeta im → length im.body ≡ 4064
meta_long im rules is = body_long im rules (ap has_body is.kind)

stamps_long : (im : Image) (t : ℕ) → IsImage im → IsStampPage im t → length im.body ≡ 4064
stamps_long im t rules is = body_long im rules (ap has_body is.kind)

-- bytes of a body at a place can be patched
can_patch : (im : Image) (at : ℕ) (bytes : List ℕ) → has_body im.kind ≡ true → 32 ≤ at → at + length bytes ≤ 4096 → CanPatch im at bytes
can_patch im at bytes has a b = record { fields = has; past_header = a; within = b }

pub can_fill : (im : Image) (s : ℕ) (slot : Slot) → IsSlots im → s < 64 → CanPatch im (32 + 16 * s) (slot_bytes slot)
can_fill im s slot is below =
    let size = length-slot slot in can_patch im (32 + 16 * s) (slot_bytes slot) (ap has_body is.kind) (omega arith) (omega arith)

pub can_point : (im : Image) (s : ℕ) (at : UndoPtr) → IsSlots im → s < 64 → CanPatch im (40 + 16 * s) (pointer_bytes at)
can_point im s at is below =
    let size = length-pointer at in can_patch im (40 + 16 * s) (pointer_bytes at) (ap has_body is.kind) (omega arith) (omega arith)

pub can_count : (im : Image) (at x : ℕ) → IsMeta im → 32 ≤ at → at ≤ 4088 → CanPatch im at (field 8 x)
can_count im at x is a b =
    let size = length-field 8 x in can_patch im at (field 8 x) (ap has_body is.kind) a (omega arith)

can_stamp : (im : Image) (t x : ℕ) → IsStampPage im t → CanPatch im (32 + 8 * stamp_place t) (field 8 x)
can_stamp im t x is =
    let size = length-field 8 x in
    let below = place_below t in
    can_patch im (32 + 8 * stamp_place t) (field 8 x) (ap has_body is.kind) (omega arith) (omega arith)

-- they are admitted
pub field_fits : (x : ℕ) → FitsPage (field 8 x)
field_fits x = let size = length-field 8 x in ((omega arith), (omega arith))

pub slot_fits : (slot : Slot) → FitsPage (slot_bytes slot)
slot_fits slot = let size = length-slot slot in ((omega arith), (omega arith))

pub pointer_fits : (at : UndoPtr) → FitsPage (pointer_bytes at)
pointer_fits at = let size = length-pointer at in ((omega arith), (omega arith))

pub commits : (meta slots stamps : Image) (s : ℕ) → IsImage meta → IsImage slots → IsImage stamps → IsMeta meta → IsSlots slots
    → IsStampPage stamps (slot_of slots s).trx → s < 64 → (counters_of meta).last + 1 < 2 ^ 64 → Commits meta slots stamps s (commit_records meta slots stamps s)
commits meta slots stamps s rm rs rt im is it below room =
    let t : ℕ = (slot_of slots s).trx in
    let x : ℕ = (counters_of meta).last + 1 in
    let a : Record = stamps_with stamps t x in
    let b : Record = fills slots s free_slot in
    let c : Record = publishes meta x in
    let m = im.number in
    let l = is.number in
    let n = it.number in
    let ab : stamps.page ≢ slots.page = λ e. omega arith in
    let ac : stamps.page ≢ meta.page = λ e. omega arith in
    let bc : slots.page ≢ meta.page = λ e. omega arith in
    let ba : slots.page ≢ stamps.page = λ e. ab (sym e) in
    let ca : meta.page ≢ stamps.page = λ e. ac (sym e) in
    let cb : meta.page ≢ slots.page = λ e. bc (sym e) in
    record {
      runs = record {
        some = omega arith;
        most = omega arith;
        each = (field_fits x, (slot_fits free_slot, (field_fits x, tt)));
        applies = λ lsn. (
          own_apply lsn a (b ∷ c ∷ []) stamps refl (can_stamp stamps t x it)
              (other_apply lsn b (c ∷ []) (patched stamps (32 + 8 * stamp_place t) (field 8 x) lsn) ba (other_apply lsn c [] (patched stamps (32 + 8 * stamp_place t) (field 8 x) lsn) ca tt)),
          (
            other_apply lsn a (b ∷ c ∷ []) slots ab
                (own_apply lsn b (c ∷ []) slots refl (can_fill slots s free_slot is below) (other_apply lsn c [] (patched slots (32 + 16 * s) (slot_bytes free_slot) lsn) cb tt)),
            (
              other_apply lsn a (b ∷ c ∷ []) meta ac
                  (other_apply lsn b (c ∷ []) meta bc (own_apply lsn c [] meta refl (can_count meta 52 x im (omega arith) (omega arith)) tt)),
              tt,
            ),
          ),
        );
        only = λ lsn page h. untouched lsn (a ∷ b ∷ c ∷ []) page (h.0, (h.1.0, (h.1.1.0, tt)));
      };
      stamp = λ lsn. subst (λ (new : Image). SetsStamp stamps new t x)
          (sym (own_after lsn a (b ∷ c ∷ []) stamps refl ∙ untouched lsn (b ∷ c ∷ []) (patched stamps (32 + 8 * stamp_place t) (field 8 x) lsn) (ba, (ca, tt))))
          (sets_stamp stamps t x lsn it (stamps_long stamps t rt it) room);
      slot = λ lsn. subst (λ (new : Image). SetsSlot slots new s free_slot)
          (sym (other_after lsn a (b ∷ c ∷ []) slots ab ∙ own_after lsn b (c ∷ []) slots refl ∙ untouched lsn (c ∷ []) (patched slots (32 + 16 * s) (slot_bytes free_slot) lsn) (cb, tt)))
          (fills_slot slots s free_slot lsn is (slots_long slots rs is) below (omega arith) (omega arith) (omega arith));
      last = λ lsn. subst (λ (new : Image). SetsCounters new (record (counters_of meta) { last = x }))
          (sym (other_after lsn a (b ∷ c ∷ []) meta ac ∙ other_after lsn b (c ∷ []) meta bc ∙ own_after lsn c [] meta refl))
          (sets_last meta x lsn im (meta_long meta rm im) room);
    }

pub frees : (slots : Image) (s : ℕ) → IsImage slots → IsSlots slots → s < 64 → Frees slots s (free_records slots s)
frees slots s rs is below =
    let b : Record = fills slots s free_slot in
    record {
      runs = record {
        some = omega arith;
        most = omega arith;
        each = (slot_fits free_slot, tt);
        applies = λ lsn. (own_apply lsn b [] slots refl (can_fill slots s free_slot is below) tt, tt);
        only = λ lsn page h. untouched lsn (b ∷ []) page (h.0, tt);
      };
      slot = λ lsn. subst (λ (new : Image). SetsSlot slots new s free_slot) (sym (own_after lsn b [] slots refl))
          (fills_slot slots s free_slot lsn is (slots_long slots rs is) below (omega arith) (omega arith) (omega arith));
    }

pub points_at : (slots : Image) (s : ℕ) (at : UndoPtr) → IsImage slots → IsSlots slots → s < 64 → at.page < 2 ^ 32 → at.slot < 2 ^ 16 → Points slots s at (points slots s at ∷ [])
points_at slots s at rs is below p q =
    let b : Record = points slots s at in
    record {
      runs = record {
        some = omega arith;
        most = omega arith;
        each = (pointer_fits at, tt);
        applies = λ lsn. (own_apply lsn b [] slots refl (can_point slots s at is below) tt, tt);
        only = λ lsn page h. untouched lsn (b ∷ []) page (h.0, tt);
      };
      slot = λ lsn. subst (λ (new : Image). SetsSlot slots new s (record (slot_of slots s) { last = at })) (sym (own_after lsn b [] slots refl))
          (points_slot slots s at lsn is (slots_long slots rs is) below p q);
    }
