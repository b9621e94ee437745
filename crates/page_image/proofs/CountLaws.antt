-- For the proofs: the number of pages in a meta page's body.
use Rattle.std.proofs.Common.{◌≡◌, ◌-◌, ℕ, List, ◌++◌, drop, refl, sym, ◌∙◌, ap, subst}
use Rattle.rm_base.specs.declared.limits.TheConstants.{PAGE_BYTES, PAGE_HEADER_BYTES}
use Rattle.std.specs.Prelude.{if◌then◌else◌}
use Rattle.std.proofs.lemmas.List.{drop-drop}
use Rattle.std.proofs.Math.Seq.{drop-append_seam}
use Rattle.rm_base.specs.Fields.{number}
use Rattle.page_image.specs.declared.kind.Kind.{Kind}
use Rattle.page_image.specs.declared.kind.Kind.TheVariants.{Meta}
use Rattle.page_image.specs.Image.{Image, is_slotted, has_body, zeros, free_of}
use Rattle.page_image.specs.Layout.{header_bytes, header_of, rest_bytes, page_bytes, slot_bytes, packed}
use Rattle.page_image.proofs.HeaderLaws.{length-header_bytes}

behind_header : (im : Image) → drop 32 (page_bytes im) ≡ rest_bytes im
unfolding page_bytes
behind_header im =
    ap (λ (n : ℕ). drop n (header_bytes (header_of im) ++ rest_bytes im)) (sym (length-header_bytes (header_of im)))
    ∙ drop-append_seam (header_bytes (header_of im)) (rest_bytes im)

body_picked : (a b c : List ℕ) (k : Kind) → k ≡ Meta → (if is_slotted k then a else (if has_body k then b else c)) ≡ b
body_picked a b c k e = subst (λ (q : Kind). (if is_slotted q then a else (if has_body q then b else c)) ≡ b) (sym e) refl

body_is : (im : Image) → im.kind ≡ Meta → rest_bytes im ≡ im.body
unfolding rest_bytes
body_is im e = body_picked (slot_bytes PAGE_BYTES im.items ++ (zeros (free_of im) ++ packed im.items)) im.body (zeros (PAGE_BYTES - PAGE_HEADER_BYTES)) im.kind e

-- the number in a meta page's bytes is that in its body
pub count_in : (im : Image) → im.kind ≡ Meta → number 4 (drop 36 (page_bytes im)) ≡ number 4 (drop 4 im.body)
count_in im e = ap (number 4) (sym (drop-drop 4 32 (page_bytes im)) ∙ ap (drop 4) (behind_header im ∙ body_is im e))
