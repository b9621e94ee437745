-- Stamps in a page's body.
use Rattle.std.proofs.Common.{◌≡◌, ◌+◌, ◌-◌, ◌*◌, ℕ, List, ◌++◌, drop, refl, sym, ◌∙◌, ap, subst}
use Rattle.rm_base.specs.declared.limits.TheConstants.{PAGE_BYTES, PAGE_HEADER_BYTES}
use Rattle.std.proofs.lemmas.List.{drop-drop}
use Rattle.std.proofs.Math.Seq.{drop-append_seam}
use Rattle.rm_base.specs.Fields.{number}
use Rattle.page_image.specs.declared.kind.Kind.{Kind}
use Rattle.page_image.specs.declared.kind.Kind.TheVariants.{Stamps}
use Rattle.page_image.specs.Image.{Image, is_slotted, has_body, zeros, free_of}
use Rattle.page_image.specs.Layout.{header_bytes, header_of, rest_bytes, page_bytes, slot_bytes, packed}
use Rattle.page_image.proofs.HeaderLaws.{length-header_bytes}
use Rattle.std.proofs.Common.{if◌then◌else◌}

behind_header : (im : Image) → drop 32 (page_bytes im) ≡ rest_bytes im
unfolding page_bytes
behind_header im =
    ap (λ (n : ℕ). drop n (header_bytes (header_of im) ++ rest_bytes im)) (sym (length-header_bytes (header_of im)))
    ∙ drop-append_seam (header_bytes (header_of im)) (rest_bytes im)

body_picked : (a b c : List ℕ) (k : Kind) → k ≡ Stamps → (if is_slotted k then a else (if has_body k then b else c)) ≡ b
body_picked a b c k e = subst (λ (q : Kind). (if is_slotted q then a else (if has_body q then b else c)) ≡ b) (sym e) refl

body_is : (im : Image) → im.kind ≡ Stamps → rest_bytes im ≡ im.body
unfolding rest_bytes
body_is im e = body_picked (slot_bytes PAGE_BYTES im.items ++ (zeros (free_of im) ++ packed im.items)) im.body (zeros (PAGE_BYTES - PAGE_HEADER_BYTES)) im.kind e

-- a field of a stamp page's bytes is a field of its body
pub stamp_at : (im : Image) (i : ℕ) → im.kind ≡ Stamps → number 8 (drop (32 + 8 * i) (page_bytes im)) ≡ number 8 (drop (8 * i) im.body)
stamp_at im i e =
    ap (number 8) (sym (drop-drop (8 * i) 32 (page_bytes im)) ∙ ap (drop (8 * i)) (behind_header im ∙ body_is im e))
