-- For the proofs: what the records of a begin do.
use Rattle.std.proofs.Common.{◌≡◌, ◌≢◌, ◌≤◌, ◌<◌, ◌+◌, ◌-◌, ◌*◌, ◌^◌, ℕ, Bool, true, false, List, [], ◌∷◌, ◌++◌, drop, replicate, nat_eq, inl, refl, sym, ◌∙◌, ap, subst, arith}
use Rattle.std.specs.Prelude.{if◌then◌else◌}
use Rattle.std.proofs.lemmas.Bool.{eq-eqb}
use Rattle.std.proofs.lemmas.List.{drop-replicate, replicate-append-replicate}
use Rattle.rm_base.proofs.FieldLaws.{number-field}
use Rattle.rm_base.specs.Fields.{field, number}
use Rattle.page_image.specs.Meta.{IsMeta, IsSlots, counters_of}
use Rattle.page_image.specs.declared.kind.Kind.TheVariants.{Unmade, Stamps}
use Rattle.page_image.specs.Image.{Image, CanMake, unmade, made, patched, zeros}
use Rattle.page_image.specs.Rules.{IsImage}
use Rattle.redo_record.specs.declared.redo.Record.{Record}
use Rattle.redo_record.specs.declared.redo.Record.TheVariants.{Make}
use Rattle.redo_record.specs.Effect.{after_records, RecordsApply}
use Rattle.commit_stamps.specs.declared.slots.Slot.{Slot}
use Rattle.commit_stamps.specs.Fields.{no_undo, slot_bytes}
use Rattle.commit_stamps.specs.Stamping.{stamp_page, stamp_place}
use Rattle.commit_stamps.specs.Plans.{numbers, fills, begin_records}
use Rattle.commit_stamps.specs.Effects.{RunsOn, SetsSlot, SetsCounters, HasNoStamps, Begins}
use Rattle.commit_stamps.proofs.EffectLaws.{untouched, own_apply, other_apply, own_after, other_after}
use Rattle.commit_stamps.proofs.FieldLaws.{fills_slot, sets_next}
use Rattle.commit_stamps.proofs.StampLaws.{place_below}
use Rattle.commit_stamps.proofs.CommitLaws.{slots_long, meta_long, can_fill, can_count, field_fits, slot_fits}

-- ---- a page without stamps

can_make : (p : ℕ) → CanMake (unmade p) Stamps 0
can_make p = record { some = λ e. (let f : Stamps ≡ Unmade = e in cc); fits = refl; from = inl refl }

field_of_zero : field 8 0 ≡ replicate 8 0
unfolding field
field_of_zero = refl

-- bytes that are zeros give the number 0
zeros_say : (n : ℕ) → 8 ≤ n → number 8 (replicate n 0) ≡ 0
zeros_say n h =
    let rest : ℕ = n - 8 in
    let parts : 8 + rest ≡ n = omega arith in
    ap (number 8) (ap (λ (k : ℕ). replicate k 0) (sym parts) ∙ sym (replicate-append-replicate 8 rest 0) ∙ ap (λ (q : List ℕ). q ++ replicate rest 0) (sym field_of_zero))
    ∙ number-field 8 0 (replicate rest 0) (omega arith)

zeros_from : (k : ℕ) → k + 8 ≤ 4064 → number 8 (drop k (zeros 4064)) ≡ 0
unfolding zeros
zeros_from k h = ap (number 8) (drop-replicate k 4064 0) ∙ zeros_say (4064 - k) (omega arith)

no_stamps : (p lsn : ℕ) → HasNoStamps (made (unmade p) Stamps 0 lsn) p
no_stamps p lsn =
    record { kind = refl; number = refl; none = λ u _. (let below = place_below u in zeros_from (8 * stamp_place u) (omega arith)) }

-- ---- the records, with the page's and without

abbrev begun_slot : ℕ → Slot
begun_slot t = record { trx = t; last = no_undo }

-- the records behind the page's
abbrev behind_page : Image → Image → ℕ → ℕ → List Record
behind_page meta slots s t = fills slots s (begun_slot t) ∷ numbers meta (t + 1) ∷ []

-- all of them, where the page p is made or not
abbrev records_by : Bool → ℕ → Image → Image → ℕ → ℕ → List Record
records_by made p meta slots s t = (if made then Make p Stamps 0 ∷ [] else []) ++ behind_page meta slots s t

abbrev pages_by : Bool → ℕ → Image → Image → List Image
pages_by made p meta slots = if made then unmade p ∷ slots ∷ meta ∷ [] else slots ∷ meta ∷ []

slots_after : (lsn s t : ℕ) (meta slots : Image) → IsMeta meta → IsSlots slots
    → after_records lsn (behind_page meta slots s t) slots ≡ patched slots (32 + 16 * s) (slot_bytes (begun_slot t)) lsn
slots_after lsn s t meta slots im is =
    let m = im.number in
    let l = is.number in
    let cb : meta.page ≢ slots.page = λ e. omega arith in
    own_after lsn (fills slots s (begun_slot t)) (numbers meta (t + 1) ∷ []) slots refl
    ∙ other_after lsn (numbers meta (t + 1)) [] (patched slots (32 + 16 * s) (slot_bytes (begun_slot t)) lsn) cb

meta_after : (lsn s t : ℕ) (meta slots : Image) → IsMeta meta → IsSlots slots
    → after_records lsn (behind_page meta slots s t) meta ≡ patched meta 44 (field 8 (t + 1)) lsn
meta_after lsn s t meta slots im is =
    let m = im.number in
    let l = is.number in
    let bc : slots.page ≢ meta.page = λ e. omega arith in
    other_after lsn (fills slots s (begun_slot t)) (numbers meta (t + 1) ∷ []) meta bc ∙ own_after lsn (numbers meta (t + 1)) [] meta refl

slots_apply : (lsn s t : ℕ) (meta slots : Image) → IsMeta meta → IsSlots slots → s < 64 → RecordsApply lsn (behind_page meta slots s t) slots
slots_apply lsn s t meta slots im is below =
    let m = im.number in
    let l = is.number in
    let cb : meta.page ≢ slots.page = λ e. omega arith in
    own_apply lsn (fills slots s (begun_slot t)) (numbers meta (t + 1) ∷ []) slots refl (can_fill slots s (begun_slot t) is below)
    (other_apply lsn (numbers meta (t + 1)) [] (patched slots (32 + 16 * s) (slot_bytes (begun_slot t)) lsn) cb tt)

meta_apply : (lsn s t : ℕ) (meta slots : Image) → IsMeta meta → IsSlots slots → RecordsApply lsn (behind_page meta slots s t) meta
meta_apply lsn s t meta slots im is =
    let m = im.number in
    let l = is.number in
    let bc : slots.page ≢ meta.page = λ e. omega arith in
    other_apply lsn (fills slots s (begun_slot t)) (numbers meta (t + 1) ∷ []) meta bc
    (own_apply lsn (numbers meta (t + 1)) [] meta refl (can_count meta 44 (t + 1) im (omega arith) (omega arith)) tt)

runs_by : (b : Bool) (p s t : ℕ) (meta slots : Image) → IsMeta meta → IsSlots slots → s < 64 → 2 ≤ p
    → RunsOn (pages_by b p meta slots) (records_by b p meta slots s t)
runs_by false p s t meta slots im is below h = record {
  some = omega arith;
  most = omega arith;
  each = (slot_fits (begun_slot t), (field_fits (t + 1), tt));
  applies = λ lsn. (slots_apply lsn s t meta slots im is below, (meta_apply lsn s t meta slots im is, tt));
  only = λ lsn page e. untouched lsn (behind_page meta slots s t) page (e.0, (e.1.0, tt));
}
runs_by true p s t meta slots im is below h =
    let m = im.number in
    let l = is.number in
    let made_one : Record = Make p Stamps 0 in
    let rest : List Record = behind_page meta slots s t in
    let pb : p ≢ slots.page = λ e. omega arith in
    let pc : p ≢ meta.page = λ e. omega arith in
    let bp : slots.page ≢ p = λ e. pb (sym e) in
    let cp : meta.page ≢ p = λ e. pc (sym e) in
    record {
      some = omega arith;
      most = omega arith;
      each = ((λ e. (let f : Stamps ≡ Unmade = e in cc), refl), (slot_fits (begun_slot t), (field_fits (t + 1), tt)));
      applies = λ lsn. (
        own_apply lsn made_one rest (unmade p) refl (can_make p)
            (other_apply lsn (fills slots s (begun_slot t)) (numbers meta (t + 1) ∷ []) (made (unmade p) Stamps 0 lsn) bp
            (other_apply lsn (numbers meta (t + 1)) [] (made (unmade p) Stamps 0 lsn) cp tt)),
        (
          other_apply lsn made_one rest slots pb (slots_apply lsn s t meta slots im is below),
          (
            other_apply lsn made_one rest meta pc (meta_apply lsn s t meta slots im is),
            tt,
          ),
        ),
      );
      only = λ lsn page e. untouched lsn (made_one ∷ rest) page (e.0, (e.1.0, (e.1.1.0, tt)));
    }

slot_by : (b : Bool) (p s t lsn : ℕ) (meta slots : Image) → IsImage slots → IsMeta meta → IsSlots slots → s < 64 → t < 2 ^ 64 → 2 ≤ p
    → SetsSlot slots (after_records lsn (records_by b p meta slots s t) slots) s (begun_slot t)
slot_by false p s t lsn meta slots rs im is below few h =
    subst (λ (new : Image). SetsSlot slots new s (begun_slot t)) (sym (slots_after lsn s t meta slots im is))
    (fills_slot slots s (begun_slot t) lsn is (slots_long slots rs is) below few (omega arith) (omega arith))
slot_by true p s t lsn meta slots rs im is below few h =
    let l = is.number in
    let pb : p ≢ slots.page = λ e. omega arith in
    subst (λ (new : Image). SetsSlot slots new s (begun_slot t)) (sym (other_after lsn (Make p Stamps 0) (behind_page meta slots s t) slots pb ∙ slots_after lsn s t meta slots im is))
    (fills_slot slots s (begun_slot t) lsn is (slots_long slots rs is) below few (omega arith) (omega arith))

number_by : (b : Bool) (p s t lsn : ℕ) (meta slots : Image) → IsImage meta → IsMeta meta → IsSlots slots → t + 1 < 2 ^ 64 → 2 ≤ p
    → SetsCounters (after_records lsn (records_by b p meta slots s t) meta) (record (counters_of meta) { next = t + 1 })
number_by false p s t lsn meta slots rm im is few h =
    subst (λ (new : Image). SetsCounters new (record (counters_of meta) { next = t + 1 })) (sym (meta_after lsn s t meta slots im is))
    (sets_next meta (t + 1) lsn im (meta_long meta rm im) few)
number_by true p s t lsn meta slots rm im is few h =
    let m = im.number in
    let pc : p ≢ meta.page = λ e. omega arith in
    subst (λ (new : Image). SetsCounters new (record (counters_of meta) { next = t + 1 })) (sym (other_after lsn (Make p Stamps 0) (behind_page meta slots s t) meta pc ∙ meta_after lsn s t meta slots im is))
    (sets_next meta (t + 1) lsn im (meta_long meta rm im) few)

page_made : (p s t lsn : ℕ) (meta slots : Image) → IsMeta meta → IsSlots slots → 2 ≤ p
    → HasNoStamps (after_records lsn (records_by true p meta slots s t) (unmade p)) p
page_made p s t lsn meta slots im is h =
    let m = im.number in
    let l = is.number in
    let bp : slots.page ≢ p = λ e. omega arith in
    let cp : meta.page ≢ p = λ e. omega arith in
    subst (λ (new : Image). HasNoStamps new p)
    (sym (own_after lsn (Make p Stamps 0) (behind_page meta slots s t) (unmade p) refl ∙ untouched lsn (behind_page meta slots s t) (made (unmade p) Stamps 0 lsn) (bp, (cp, tt))))
    (no_stamps p lsn)

pub begins : (meta slots : Image) (s t : ℕ) → IsImage meta → IsImage slots → IsMeta meta → IsSlots slots → s < 64 → t + 1 < 2 ^ 64
    → Begins meta slots s t (begin_records meta slots s t)
begins meta slots s t rm rs im is below few =
    let p : ℕ = stamp_page t in
    let first : Bool = nat_eq (stamp_place t) 0 in
    let past : 2 ≤ p = omega arith in
    record {
      runs = runs_by first p s t meta slots im is below past;
      slot = λ lsn. slot_by first p s t lsn meta slots rs im is below (omega arith) past;
      number = λ lsn. number_by first p s t lsn meta slots rm im is few past;
      page = λ zero_is lsn. (let same : first ≡ true = eq-eqb (stamp_place t) 0 zero_is in
          subst (λ (b : Bool). HasNoStamps (after_records lsn (records_by b p meta slots s t) (unmade p)) p) (sym same) (page_made p s t lsn meta slots im is past));
    }
