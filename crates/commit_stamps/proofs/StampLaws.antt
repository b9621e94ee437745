-- For the proofs: the stamps of a page after a patch, and of a page that was made.
use Rattle.std.proofs.Common.{◌≡◌, ◌≢◌, ◌≤◌, ◌<◌, ◌+◌, ◌-◌, ◌*◌, ◌^◌, ℕ, true, false, List, [], length, drop, nat_eq, ◌⊎◌, inl, inr, sym, ◌∙◌, ap, arith, append-nil}
use Rattle.std.specs.Prelude.{if◌then◌else◌}
use Rattle.std.proofs.lemmas.Bool.{cases_eq, cases_order, eq-eqb, ne_eqb}
use Rattle.rm_base.specs.Fields.{field, number}
use Rattle.rm_base.proofs.FieldLaws.{length-field, number-field}
use Rattle.page_image.specs.Image.{Image, patched}
use Rattle.commit_stamps.specs.Stamping.{IsStampPage, stamp_page, stamp_place, stamp_in}
use Rattle.commit_stamps.specs.Effects.{SetsStamp}
use Rattle.commit_stamps.proofs.PatchLaws.{overwritten, number_within, number_below, number_above}

pub place_below : (t : ℕ) → stamp_place t < 508
place_below t = omega arith

-- transactions of one page have places of their own
places_apart : (u t : ℕ) → 1 ≤ u → 1 ≤ t → stamp_page u ≡ stamp_page t → u ≢ t → (stamp_place u < stamp_place t) ⊎ (stamp_place t < stamp_place u)
places_apart u t a b e ne =
    elim (cases_order (stamp_place u) (stamp_place t)) [
      | inl same ↦ absurd (ne (omega arith))
      | inr h ↦ h
    ]

own_stamp : (p x : ℕ) (body : List ℕ) → p ≤ length body → x < 2 ^ 64 → number 8 (drop p (overwritten p (field 8 x) body)) ≡ x
own_stamp p x body h k =
    let size = length-field 8 x in
    let here : p ≡ p + 0 = omega arith in
    ap (λ (q : ℕ). number 8 (drop q (overwritten p (field 8 x) body))) here
    ∙ number_within 8 p 0 (field 8 x) body h (omega arith)
    ∙ ap (number 8) (sym (append-nil (field 8 x))) ∙ number-field 8 x [] k

other_stamp : (i j x : ℕ) (body : List ℕ) → (i < j) ⊎ (j < i) → 8 * j ≤ length body
    → number 8 (drop (8 * i) (overwritten (8 * j) (field 8 x) body)) ≡ number 8 (drop (8 * i) body)
other_stamp i j x body (inl h) k = number_below 8 (8 * j) (8 * i) (field 8 x) body k (omega arith)
other_stamp i j x body (inr h) k = let size = length-field 8 x in number_above 8 (8 * j) (8 * i) (field 8 x) body k (omega arith)

chosen : (u t new old x : ℕ) → (u ≡ t → new ≡ x) → (u ≢ t → new ≡ old) → new ≡ (if nat_eq u t then x else old)
chosen u t new old x own other =
    elim (cases_eq u t) [
      | inl e ↦ (let same : nat_eq u t ≡ true = eq-eqb u t e in rw same (own e))
      | inr ne ↦ (let not : nat_eq u t ≡ false = ne_eqb u t ne in rw not (other ne))
    ]

pub sets_stamp : (im : Image) (t x lsn : ℕ) → IsStampPage im t → length im.body ≡ 4064 → x < 2 ^ 64
    → SetsStamp im (patched im (32 + 8 * stamp_place t) (field 8 x) lsn) t x
sets_stamp im t x lsn is long h =
    let below = place_below t in
    let p : ℕ = 8 * stamp_place t in
    let inside : p ≤ length im.body = omega arith in
    let place : (32 + 8 * stamp_place t) - 32 ≡ 8 * stamp_place t = omega arith in
    let body : overwritten ((32 + 8 * stamp_place t) - 32) (field 8 x) im.body ≡ overwritten p (field 8 x) im.body =
    ap (λ (q : ℕ). overwritten q (field 8 x) im.body) place in
    record {
      kept = record { some = is.some; kind = is.kind; number = is.number };
      stamps = λ u on. ap (λ (b : List ℕ). number 8 (drop (8 * stamp_place u) b)) body
          ∙ chosen u t (number 8 (drop (8 * stamp_place u) (overwritten p (field 8 x) im.body))) (stamp_in im u) x
          (λ e. ap (λ (v : ℕ). number 8 (drop (8 * stamp_place v) (overwritten p (field 8 x) im.body))) e ∙ own_stamp p x im.body inside h)
          (λ ne. other_stamp (stamp_place u) (stamp_place t) x im.body (places_apart u t on.some is.some (sym on.number ∙ is.number) ne) inside);
    }
