-- For the proofs: the meta page after it counts other pages.
use Rattle.std.proofs.Common.{◌≡◌, ◌<◌, ◌^◌, ℕ, List, [], length, drop, refl, sym, ap, subst, ◌∙◌, arith, append-nil}
use Rattle.rm_base.specs.Fields.{field, number}
use Rattle.rm_base.proofs.FieldLaws.{length-field, number-field}
use Rattle.page_image.specs.Image.{Image, has_body}
use Rattle.commit_stamps.specs.Effects.{SetsCounters}
use Rattle.page_image.specs.Meta.{Counters, counters_of}
use Rattle.commit_stamps.proofs.EffectLaws.{own_after}
use Rattle.commit_stamps.proofs.PatchLaws.{number_above, number_within, overwritten}
use Rattle.plan_steps.specs.Counting.{CountsAlone, counts_pages}

abbrev counters_with : ℕ → ℕ → ℕ → ℕ → Counters
counters_with pages undo_page next last =
    record { pages = pages; undo_page = undo_page; next = next; last = last }

own_number : (x : ℕ) → x < 2 ^ 32 → number 4 (drop 0 (field 4 x)) ≡ x
own_number x h = ap (number 4) (sym (append-nil (field 4 x))) ∙ number-field 4 x [] h

pub counts_alone : CountsAlone
counts_alone meta count lsn is rules few =
    let size = length-field 4 count in
    let long : length meta.body ≡ 4064 = rules.whole_body (ap has_body is.kind) in
    let body : List ℕ = meta.body in
    let new : List ℕ = overwritten 4 (field 4 count) body in
    let pages : number 4 (drop 4 new) ≡ count =
    number_within 4 4 0 (field 4 count) body (omega arith) (omega arith)
    ∙ own_number count (omega (arith, few)) in
    let undo_page : number 4 (drop 8 new) ≡ number 4 (drop 8 body) =
    number_above 4 4 8 (field 4 count) body (omega arith) (omega arith) in
    let next : number 8 (drop 12 new) ≡ number 8 (drop 12 body) =
    number_above 8 4 12 (field 4 count) body (omega arith) (omega arith) in
    let last : number 8 (drop 20 new) ≡ number 8 (drop 20 body) =
    number_above 8 4 20 (field 4 count) body (omega arith) (omega arith) in
    subst (λ (im : Image). SetsCounters im (record (counters_of meta) { pages = count }))
    (sym (own_after lsn (counts_pages meta count) [] meta refl)) (record {
      kept = record { kind = is.kind; number = is.number };
      counters_are = λ i. counters_with (pages i) (undo_page i) (next i) (last i);
    })
