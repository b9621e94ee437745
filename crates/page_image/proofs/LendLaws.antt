-- Whatever is written to bytes of a body that were lent, the page is a page.
use Rattle.std.proofs.Common.{◌≡◌, ◌≤◌, ◌+◌, ◌-◌, ℕ, List, [], ◌++◌, length, take, drop, sym, ◌∙◌, ap, arith, append_assoc, append-nil, length-append, length-drop}
use Rattle.std.proofs.lemmas.List.{drop-drop, drop_all, length-take-le}
use Rattle.std.proofs.Math.Seq.{take-append-add, drop-append-add}
use Rattle.std.proofs.lemmas.Bool.{false≢true}
use Rattle.page_image.specs.Image.{Image}
use Rattle.page_image.specs.Layout.{header_bytes, header_of, page_bytes}
use Rattle.page_image.specs.Rules.{IsImage}
use Rattle.page_image.specs.Lending.{CanLend, with_part}
use Rattle.page_image.proofs.HeaderLaws.{length-header_bytes}
use Rattle.page_image.proofs.PageLaws.{rest-body}
use Rattle.page_image.proofs.LessLaws.{patch_plain}

-- the body with w written over it is long enough
part_long : (im : Image) (at n : ℕ) (w : List ℕ) → IsImage im → CanLend im at n → 4064 ≤ length (take (at - 32) im.body ++ (w ++ drop (at - 32 + length w) im.body))
part_long im at n w good can =
    let whole : length im.body ≡ 4064 = good.whole_body can.fields in
    omega (arith, length-append (take (at - 32) im.body) (w ++ drop (at - 32 + length w) im.body), length-append w (drop (at - 32 + length w) im.body), length-take-le (at - 32) im.body (omega (arith, can.within, can.past_header)), length-drop (at - 32 + length w) im.body, can.within, can.past_header)

pub part_good : (im : Image) (at n : ℕ) (w : List ℕ) → IsImage im → CanLend im at n → IsImage (with_part im at w)
part_good im at n w good can =
    record {
      page_bound = good.page_bound;
      lsn_bound = good.lsn_bound;
      unmade_only = good.unmade_only;
      structure_bound = good.structure_bound;
      next_bound = good.next_bound;
      next_of_items = good.next_of_items;
      level_fits = good.level_fits;
      no_items = good.no_items;
      some_bytes = good.some_bytes;
      room = good.room;
      no_body = λ none. absurd (false≢true (sym none ∙ can.fields));
      whole_body = λ _. length-take-le 4064 (take (at - 32) im.body ++ (w ++ drop (at - 32 + length w) im.body)) (part_long im at n w good can);
    }

-- what the Vec holds when the loan ends
pub part_bytes : (im : Image) (at n len : ℕ) (w bytes : List ℕ) → IsImage im → CanLend im at n → bytes ≡ page_bytes im → len ≡ 4096
    → take len (take at bytes ++ (w ++ drop (length w) (drop at bytes)) ++ drop (length (take at bytes ++ (w ++ drop (length w) (drop at bytes)))) bytes) ≡ page_bytes (with_part im at w)
unfolding page_bytes
part_bytes im at n len w bytes good can spelled long =
    let h : List ℕ = header_bytes (header_of im) in
    let place : ℕ = at - 32 in
    let whole : length im.body ≡ 4064 = good.whole_body can.fields in
    let plain = patch_plain im can.fields in
    let parts : bytes ≡ h ++ im.body = spelled ∙ ap (λ (q : List ℕ). h ++ q) (rest-body im plain can.fields) in
    let there : at ≡ length h + place = omega (arith, length-header_bytes (header_of im), can.past_header) in
    let front : take at bytes ≡ h ++ take place im.body = ap (λ (q : ℕ). take q bytes) there ∙ ap (take (length h + place)) parts ∙ take-append-add h im.body place in
    let behind : drop (length w) (drop at bytes) ≡ drop (place + length w) im.body =
    ap (λ (q : ℕ). drop (length w) (drop q bytes)) there ∙ ap (λ (q : List ℕ). drop (length w) (drop (length h + place) q)) parts
    ∙ ap (drop (length w)) (drop-append-add h im.body place) ∙ drop-drop (length w) place im.body in
    let c : List ℕ = take place im.body ++ (w ++ drop (place + length w) im.body) in
    let mid : take at bytes ++ (w ++ drop (length w) (drop at bytes)) ≡ h ++ c =
    ap (λ (q : List ℕ). q ++ (w ++ drop (length w) (drop at bytes))) front ∙ ap (λ (q : List ℕ). (h ++ take place im.body) ++ (w ++ q)) behind ∙ append_assoc h (take place im.body) (w ++ drop (place + length w) im.body) in
    let size : 4096 ≤ length (h ++ c) = omega (arith, length-append h c, length-header_bytes (header_of im), part_long im at n w good can) in
    let all : length bytes ≡ 4096 = ap (λ (q : List ℕ). length q) parts ∙ length-append h im.body ∙ omega (arith, length-header_bytes (header_of im)) in
    let none : drop (length (h ++ c)) bytes ≡ [] = drop_all (length (h ++ c)) bytes (omega arith) in
    let room : len ≡ length h + 4064 = omega (arith, length-header_bytes (header_of im)) in
    ap (λ (q : List ℕ). take len (q ++ drop (length q) bytes)) mid
    ∙ ap (λ (q : List ℕ). take len ((h ++ c) ++ q)) none
    ∙ ap (take len) (append-nil (h ++ c))
    ∙ ap (λ (q : ℕ). take q (h ++ c)) room
    ∙ take-append-add h c 4064
    ∙ ap (λ (q : List ℕ). h ++ q) (sym (rest-body (with_part im at w) plain can.fields))
