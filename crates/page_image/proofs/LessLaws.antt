-- What the steps of a removal, a cut, a link and a patch leave.
use Rattle.std.proofs.Common.{◌≡◌, ◌≤◌, ◌<◌, ◌+◌, ◌-◌, ◌*◌, ◌^◌, ℕ, Bool, true, false, cond, List, [], ◌++◌, length, take, drop, refl, sym, ◌∙◌, ap, ⊎_elim, arith, append_assoc, append-nil, length-append, length-drop}
use Rattle.std.proofs.lemmas.List.{drop_at, take-append-drop, length-take-le, drop-drop}
use Rattle.std.proofs.lemmas.List.Elements.{All-take}
use Rattle.std.proofs.lemmas.List.Sums.{sum_by-take-le}
use Rattle.std.proofs.lemmas.Bool.{cases_Bool, false≢true}
use Rattle.page_image.specs.declared.header.Header.{Header}
use Rattle.page_image.specs.Image.{Image, is_slotted, has_body, used, zeros, patched, cut_from, linked, CanPatch, CanCut, CanLink, Follows}
use Rattle.page_image.specs.Layout.{header_bytes, header_of, packed, slot_bytes, rest_bytes, page_bytes}
use Rattle.page_image.specs.Rules.{IsImage}
use Rattle.page_image.proofs.HeaderLaws.{length-header_bytes, same_headers}
use Rattle.page_image.proofs.ItemLaws.{used_is}
use Rattle.page_image.proofs.PageLaws.{page_parts, length-zeros, no_both, rest-body, drop-page_bytes}
use Rattle.page_image.proofs.ChangeLaws.{kept_good, with_header}
use Rattle.page_image.proofs.InsertLaws.{Sizes, sizes, edge, front, cut_at}

-- a link
pub linked_good : (im : Image) (next lsn : ℕ) → IsImage im → CanLink im next → Follows im lsn → lsn < 2 ^ 64 → IsImage (linked im next lsn)
linked_good im next lsn good can follows small =
    kept_good im lsn lsn next im.items good can.slotted follows.some small (omega arith) can.bound good.some_bytes good.room

rest-linked : (im : Image) (next lsn : ℕ) → rest_bytes im ≡ rest_bytes (linked im next lsn)
unfolding rest_bytes
rest-linked im next lsn = refl

pub linked_bytes : (im : Image) (next lsn : ℕ) (h : Header) (old new : List ℕ) → old ≡ page_bytes im → h ≡ header_of im → new ≡ header_bytes (record h { lsn = lsn; structure = lsn; next = next }) ++ drop 32 old → new ≡ page_bytes (linked im next lsn)
linked_bytes im next lsn h old new before same written =
    with_header (linked im next lsn) (record h { lsn = lsn; structure = lsn; next = next }) old new written
    (ap (λ (q : Header). record q { lsn = lsn; structure = lsn; next = next }) same)
    (ap (drop 32) before ∙ drop-page_bytes im ∙ rest-linked im next lsn)

-- a cut
pub cut_good : (im : Image) (from lsn : ℕ) → IsImage im → CanCut im from → Follows im lsn → lsn < 2 ^ 64 → IsImage (cut_from im from lsn)
cut_good im from lsn good can follows small =
    kept_good im lsn lsn im.next (take from im.items) good can.slotted follows.some small (omega arith) good.next_bound
    (All-take (λ (x : List ℕ). 1 ≤ length x) from im.items good.some_bytes)
    (omega (arith, sum_by-take-le (λ (x : List ℕ). length x + 2) im.items from, good.room))

group_cut : (f b z pb pa : List ℕ) → f ++ (b ++ (z ++ (pb ++ pa))) ≡ f ++ ((b ++ (z ++ pb)) ++ pa)
group_cut f b z pb pa = simp append_assoc

-- the bytes of the items that are left
used_left : (im : Image) (i : ℕ) → i ≤ length im.items → used (take i im.items) ≡ length (packed (take i im.items)) + 2 * i
used_left im i within = used_is (take i im.items) ∙ ap (λ (q : ℕ). length (packed (take i im.items)) + 2 * q) (length-take-le i im.items within)

pub cut_fits : (im : Image) (from end : ℕ) → IsImage im → CanCut im from → end ≡ edge im from → 32 + 2 * from ≤ end
cut_fits im from end good can end-is = let s : Sizes im from = sizes im from good can.within in omega (arith, s.items, s.all, s.room, s.place)

-- when the slots and items from the place on are zero
pub cut_cleared : (im : Image) (from end : ℕ) (bytes new : List ℕ) → IsImage im → CanCut im from → bytes ≡ page_bytes im → end ≡ edge im from
    → ((p m s : List ℕ) → length p ≡ 32 + 2 * from → 32 + 2 * from + length m ≡ end → bytes ≡ p ++ (m ++ s) → new ≡ p ++ (zeros (length m) ++ s))
    → new ≡ front im from ++ (zeros (4064 - used (take from im.items)) ++ packed (take from im.items))
cut_cleared im from end bytes new good can spelled end-is step =
    let s : Sizes im from = sizes im from good can.within in
    let f : List ℕ = front im from in
    let b : List ℕ = slot_bytes (edge im from) (drop from im.items) in
    let z : List ℕ = zeros (4064 - used im.items) in
    let pb : List ℕ = packed (drop from im.items) in
    let pa : List ℕ = packed (take from im.items) in
    let size : length (b ++ (z ++ pb)) ≡ 4064 - used (take from im.items) =
    length-append b (z ++ pb) ∙ omega (arith, length-append z pb, length-zeros (4064 - used im.items), s.items, s.behind, s.room, s.place, used_left im from can.within) in
    step f (b ++ (z ++ pb)) pa s.before (omega (arith, used_left im from can.within, s.items, s.room, s.place)) (spelled ∙ cut_at im from can.slotted ∙ group_cut f b z pb pa)
    ∙ ap (λ (q : ℕ). f ++ (zeros q ++ pa)) size

pub cut_header : (im : Image) (from lsn slots low : ℕ) (h : Header) → CanCut im from → h ≡ header_of im → slots ≡ from → low ≡ edge im from
    → ◌≡◌ {A = Header} (record h { slots = slots; lsn = lsn; structure = lsn; low = low }) (header_of (cut_from im from lsn))
cut_header im from lsn slots low h can same count low-is =
    same_headers (record h { slots = slots; lsn = lsn; structure = lsn; low = low }) (header_of (cut_from im from lsn))
    (ap (λ (q : Header). q.kind) same)
    (count ∙ sym (length-take-le from im.items can.within))
    (ap (λ (q : Header). q.page) same)
    refl
    refl
    (ap (λ (q : Header). q.next) same)
    (low-is ∙ ap (λ (b : Bool). cond b (edge im from) 0) (sym can.slotted))
    (ap (λ (q : Header). q.level) same)

pub cut_bytes : (im : Image) (from lsn : ℕ) (h : Header) (bytes new : List ℕ) → CanCut im from
    → bytes ≡ front im from ++ (zeros (4064 - used (take from im.items)) ++ packed (take from im.items))
    → h ≡ header_of (cut_from im from lsn) → new ≡ header_bytes h ++ drop 32 bytes → new ≡ page_bytes (cut_from im from lsn)
cut_bytes im from lsn h bytes new can parts same written =
    let a : List ℕ = slot_bytes 4096 (take from im.items) in
    let tail : List ℕ = zeros (4064 - used (take from im.items)) ++ packed (take from im.items) in
    let rest : drop 32 bytes ≡ a ++ tail =
    ap (drop 32) (parts ∙ append_assoc (header_bytes (header_of im)) a tail) ∙ drop_at (header_bytes (header_of im)) (a ++ tail) 32 (length-header_bytes (header_of im)) in
    written
    ∙ ap (λ (q : List ℕ). header_bytes h ++ q) rest
    ∙ ap (λ (q : Header). header_bytes q ++ (a ++ tail)) same
    ∙ sym (page_parts (cut_from im from lsn) (take from im.items) [] can.slotted (sym (append-nil (take from im.items))))

-- a patch
pub patch_plain : (im : Image) → has_body im.kind ≡ true → is_slotted im.kind ≡ false
patch_plain im body = ⊎_elim (λ slotted. absurd (false≢true (sym (no_both im.kind slotted) ∙ body))) (λ p. p) (cases_Bool (is_slotted im.kind))

body_split : (body : List ℕ) (place n : ℕ) → body ≡ take place body ++ (take n (drop place body) ++ drop (place + n) body)
body_split body place n =
    sym (take-append-drop place body) ∙ ap (λ (q : List ℕ). take place body ++ q) (sym (take-append-drop n (drop place body)))
    ∙ ap (λ (q : List ℕ). take place body ++ (take n (drop place body) ++ q)) (drop-drop n place body)

pub patched_good : (im : Image) (at : ℕ) (new : List ℕ) (lsn : ℕ) → IsImage im → CanPatch im at new → Follows im lsn → lsn < 2 ^ 64 → IsImage (patched im at new lsn)
patched_good im at new lsn good can follows small =
    let place : ℕ = at - 32 in
    let whole : length im.body ≡ 4064 = good.whole_body can.fields in
    record {
      page_bound = good.page_bound;
      lsn_bound = small;
      unmade_only = ((λ none. absurd (omega (arith, follows.some))), (λ unmade. absurd (false≢true (sym (ap has_body unmade) ∙ can.fields))));
      structure_bound = omega (arith, good.structure_bound, follows.later);
      next_bound = good.next_bound;
      next_of_items = good.next_of_items;
      level_fits = good.level_fits;
      no_items = good.no_items;
      some_bytes = good.some_bytes;
      room = good.room;
      no_body = λ none. absurd (false≢true (sym none ∙ can.fields));
      whole_body = λ _.
          length-append (take place im.body) (new ++ drop (place + length new) im.body)
          ∙ omega (arith, length-append new (drop (place + length new) im.body), length-take-le place im.body (omega (arith, can.within, can.past_header)), length-drop (place + length new) im.body, can.within, can.past_header);
    }

-- when the bytes stand in the body
pub patched_body : (im : Image) (at : ℕ) (new bytes mid : List ℕ) → IsImage im → CanPatch im at new → bytes ≡ page_bytes im
    → ((p m s : List ℕ) → length p ≡ at → length m ≡ length new → bytes ≡ p ++ (m ++ s) → mid ≡ p ++ (new ++ s))
    → drop 32 mid ≡ take (at - 32) im.body ++ (new ++ drop (at - 32 + length new) im.body)
unfolding page_bytes
patched_body im at new bytes mid good can spelled step =
    let h : List ℕ = header_bytes (header_of im) in
    let place : ℕ = at - 32 in
    let whole : length im.body ≡ 4064 = good.whole_body can.fields in
    let a : List ℕ = take place im.body in
    let m : List ℕ = take (length new) (drop place im.body) in
    let s : List ℕ = drop (place + length new) im.body in
    let parts : bytes ≡ (h ++ a) ++ (m ++ s) =
    spelled ∙ ap (λ (q : List ℕ). h ++ q) (rest-body im (patch_plain im can.fields) can.fields ∙ body_split im.body place (length new)) ∙ sym (append_assoc h a (m ++ s)) in
    let begins : length (h ++ a) ≡ at =
    length-append h a ∙ omega (arith, length-header_bytes (header_of im), length-take-le place im.body (omega (arith, can.within, can.past_header)), can.past_header) in
    let size : length m ≡ length new = length-take-le (length new) (drop place im.body) (omega (arith, length-drop place im.body, can.within, can.past_header)) in
    ap (drop 32) (step (h ++ a) m s begins size parts ∙ append_assoc h a (new ++ s))
    ∙ drop_at h (a ++ (new ++ s)) 32 (length-header_bytes (header_of im))

pub patched_bytes : (im : Image) (at : ℕ) (patch : List ℕ) (lsn : ℕ) (h : Header) (mid new : List ℕ) → CanPatch im at patch → h ≡ header_of im
    → drop 32 mid ≡ take (at - 32) im.body ++ (patch ++ drop (at - 32 + length patch) im.body)
    → new ≡ header_bytes (record h { lsn = lsn }) ++ drop 32 mid → new ≡ page_bytes (patched im at patch lsn)
patched_bytes im at patch lsn h mid new can same body written =
    with_header (patched im at patch lsn) (record h { lsn = lsn }) mid new written
    (ap (λ (q : Header). record q { lsn = lsn }) same)
    (body ∙ sym (rest-body (patched im at patch lsn) (patch_plain im can.fields) can.fields))
