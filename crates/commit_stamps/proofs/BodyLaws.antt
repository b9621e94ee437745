-- For the proofs: fields of a page with a body, in its bytes.
use Rattle.std.proofs.Common.{◌≡◌, ◌+◌, ◌-◌, ℕ, true, List, ◌++◌, drop, refl, sym, ◌∙◌, ap}
use Rattle.rm_base.specs.declared.limits.TheConstants.{PAGE_BYTES, PAGE_HEADER_BYTES}
use Rattle.std.specs.Prelude.{if◌then◌else◌}
use Rattle.std.proofs.lemmas.List.{drop-drop}
use Rattle.std.proofs.Math.Seq.{drop-append_seam}
use Rattle.rm_base.specs.Fields.{number}
use Rattle.page_image.specs.declared.kind.Kind.{Kind}
use Rattle.page_image.specs.declared.kind.Kind.TheVariants.{Unmade, Meta, Slots, Stamps, Leaf, Inner, Undo}
use Rattle.page_image.specs.Image.{Image, is_slotted, has_body, zeros, free_of}
use Rattle.page_image.specs.Layout.{header_bytes, header_of, rest_bytes, page_bytes, slot_bytes, packed}
use Rattle.page_image.proofs.HeaderLaws.{length-header_bytes}

behind_header : (im : Image) → drop 32 (page_bytes im) ≡ rest_bytes im
unfolding page_bytes
behind_header im =
    ap (λ (n : ℕ). drop n (header_bytes (header_of im) ++ rest_bytes im)) (sym (length-header_bytes (header_of im)))
    ∙ drop-append_seam (header_bytes (header_of im)) (rest_bytes im)

body_picked : (a b c : List ℕ) (k : Kind) → has_body k ≡ true → (if is_slotted k then a else (if has_body k then b else c)) ≡ b
body_picked a b c Unmade e = absurd cc
body_picked a b c Meta e = refl
body_picked a b c Slots e = refl
body_picked a b c Stamps e = refl
body_picked a b c Leaf e = absurd cc
body_picked a b c Inner e = absurd cc
body_picked a b c Undo e = absurd cc

body_is : (im : Image) → has_body im.kind ≡ true → rest_bytes im ≡ im.body
unfolding rest_bytes
body_is im e = body_picked (slot_bytes PAGE_BYTES im.items ++ (zeros (free_of im) ++ packed im.items)) im.body (zeros (PAGE_BYTES - PAGE_HEADER_BYTES)) im.kind e

-- a field of a page's bytes is a field of its body
pub field_is : (n at : ℕ) (im : Image) → has_body im.kind ≡ true → number n (drop (32 + at) (page_bytes im)) ≡ number n (drop at im.body)
field_is n at im e =
    ap (number n) (sym (drop-drop at 32 (page_bytes im)) ∙ ap (drop at) (behind_header im ∙ body_is im e))
