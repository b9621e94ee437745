-- A page is the spelling of its image, and the image is read back from it.
use Rattle.std.proofs.Common.{◌≡◌, ◌≤◌, ◌<◌, ◌+◌, ◌-◌, ◌*◌, ℕ, zero, suc, Bool, true, false, cond, List, [], ◌∷◌, ◌++◌, length, take, drop, get_or, slice_get, slice_range, Some, All, refl, sym, ◌∙◌, ap, subst, ⊎_elim, arith, append_assoc, append-nil, length-append}
use Rattle.std.proofs.lemmas.List.{drop_at, drop-drop, take-append-drop, drop_more, take_more, length-take-le, length-replicate}
use Rattle.std.proofs.lemmas.List.Elements.{All-head, All-tail}
use Rattle.std.proofs.lemmas.Option.{slice_get-get_or}
use Rattle.std.proofs.lemmas.Bool.{cases_Bool, false≢true, ne_eqb}
use Rattle.rm_base.specs.Fields.{number}
use Rattle.page_image.specs.declared.header.Header.{Header}
use Rattle.page_image.specs.declared.kind.Kind.{Kind}
use Rattle.page_image.specs.declared.kind.Kind.TheVariants.{Unmade, Meta, Slots, Stamps, Leaf, Inner, Undo}
use Rattle.page_image.specs.Image.{Image, is_slotted, has_body, used, zeros, free_of}
use Rattle.page_image.specs.Layout.{header_bytes, header_at, header_of, packed, slot_bytes, items_at, end_of, rest_bytes, page_bytes, image_of, image_with}
use Rattle.page_image.specs.Rules.{IsImage, IsPage, IsPlaced}
use Rattle.page_image.proofs.HeaderLaws.{HeaderFits, header_at-header_bytes, length-header_bytes}
use Rattle.page_image.proofs.ItemLaws.{between_pieces, used_is, length-slot_bytes, packed-append, slot_bytes-append, slot-between, items_at-slot_bytes}

pub length-zeros : (n : ℕ) → length (zeros n) ≡ n
unfolding zeros
length-zeros n = length-replicate n 0

-- a kind with items has no body
pub no_both : (k : Kind) → is_slotted k ≡ true → has_body k ≡ false
no_both Unmade e = refl
no_both Meta e = absurd (false≢true e)
no_both Slots e = absurd (false≢true e)
no_both Stamps e = absurd (false≢true e)
no_both Leaf e = refl
no_both Inner e = refl
no_both Undo e = refl

-- what stands behind the header of a page with items
pub rest-slotted : (im : Image) → is_slotted im.kind ≡ true → rest_bytes im ≡ slot_bytes 4096 im.items ++ (zeros (4064 - used im.items) ++ packed im.items)
unfolding rest_bytes
rest-slotted im e =
    ap (λ (b : Bool). cond b (slot_bytes 4096 im.items ++ (zeros (cond b (4064 - used im.items) 0) ++ packed im.items)) (cond (has_body im.kind) im.body (zeros 4064))) e

-- and of one with a body
pub rest-body : (im : Image) → is_slotted im.kind ≡ false → has_body im.kind ≡ true → rest_bytes im ≡ im.body
unfolding rest_bytes
rest-body im e b =
    ap (λ (q : Bool). cond q (slot_bytes 4096 im.items ++ (zeros (cond (is_slotted im.kind) (4064 - used im.items) 0) ++ packed im.items)) (cond (has_body im.kind) im.body (zeros 4064))) e
    ∙ ap (λ (q : Bool). cond q im.body (zeros 4064)) b

-- and of one with neither
pub rest-unmade : (im : Image) → is_slotted im.kind ≡ false → has_body im.kind ≡ false → rest_bytes im ≡ zeros 4064
unfolding rest_bytes
rest-unmade im e b =
    ap (λ (q : Bool). cond q (slot_bytes 4096 im.items ++ (zeros (cond (is_slotted im.kind) (4064 - used im.items) 0) ++ packed im.items)) (cond (has_body im.kind) im.body (zeros 4064))) e
    ∙ ap (λ (q : Bool). cond q im.body (zeros 4064)) b

-- the parts of a page whose items are those of xs and then those of ys
pub page_parts : (im : Image) (xs ys : List (List ℕ)) → is_slotted im.kind ≡ true → im.items ≡ xs ++ ys
    → page_bytes im ≡ header_bytes (header_of im) ++ (slot_bytes 4096 xs ++ (slot_bytes (4096 - length (packed xs)) ys ++ (zeros (4064 - used im.items) ++ (packed ys ++ packed xs))))
unfolding page_bytes
page_parts im xs ys e split =
    let h : List ℕ = header_bytes (header_of im) in
    let z : List ℕ = zeros (4064 - used im.items) in
    ap (λ (q : List ℕ). h ++ q) (rest-slotted im e)
    ∙ ap (λ (q : List (List ℕ)). h ++ (slot_bytes 4096 q ++ (z ++ packed q))) split
    ∙ ap (λ (q : List ℕ). h ++ (q ++ (z ++ packed (xs ++ ys)))) (slot_bytes-append 4096 xs ys)
    ∙ ap (λ (q : List ℕ). h ++ ((slot_bytes 4096 xs ++ slot_bytes (4096 - length (packed xs)) ys) ++ (z ++ q))) (packed-append xs ys)
    ∙ ap (λ (q : List ℕ). h ++ q) (append_assoc (slot_bytes 4096 xs) (slot_bytes (4096 - length (packed xs)) ys) (z ++ (packed ys ++ packed xs)))

-- an item has at least a byte and a slot of two
slots_room : (items : List (List ℕ)) → All (λ item. 1 ≤ length item) items → 3 * length items ≤ used items
slots_room [] some = omega arith
slots_room (item ∷ items) some =
    let first : 1 ≤ length item = All-head (λ (x : List ℕ). 1 ≤ length x) item items some in
    let later : 3 * length items ≤ used items = slots_room items (All-tail (λ (x : List ℕ). 1 ≤ length x) item items some) in
    omega (arith, used_is items, used_is (item ∷ items), length-append (packed items) item)

pub count_bound : (im : Image) → IsImage im → length im.items ≤ 1354
count_bound im good = let three : 3 * length im.items ≤ used im.items = slots_room im.items good.some_bytes in omega (arith, good.room)

low_small : (b : Bool) (n : ℕ) → cond b (4096 - n) 0 < 65536
low_small true n = omega arith
low_small false n = omega arith

header_fits : (im : Image) → IsImage im → HeaderFits (header_of im)
header_fits im good =
    record {
      slots_fit = omega (arith, count_bound im good);
      page_fits = omega (arith, good.page_bound);
      lsn_fits = good.lsn_bound;
      structure_fits = omega (arith, good.structure_bound, good.lsn_bound);
      next_fits = omega (arith, good.next_bound);
      low_fits = low_small (is_slotted im.kind) (length (packed im.items));
    }

-- the header of a page is its image's
pub header_at-page_bytes : (im : Image) → IsImage im → header_at (page_bytes im) ≡ header_of im
unfolding page_bytes
header_at-page_bytes im good = header_at-header_bytes (header_of im) (rest_bytes im) (header_fits im good)

pub length-rest_bytes : (im : Image) → IsImage im → length (rest_bytes im) ≡ 4064
length-rest_bytes im good =
    ⊎_elim (λ slotted.
    ap (λ (q : List ℕ). length q) (rest-slotted im slotted)
    ∙ length-append (slot_bytes 4096 im.items) (zeros (4064 - used im.items) ++ packed im.items)
    ∙ omega (arith, good.room, used_is im.items, length-slot_bytes 4096 im.items, length-zeros (4064 - used im.items), length-append (zeros (4064 - used im.items)) (packed im.items)))
    (λ plain. ⊎_elim (λ body. ap (λ (q : List ℕ). length q) (rest-body im plain body) ∙ good.whole_body body)
    (λ none. ap (λ (q : List ℕ). length q) (rest-unmade im plain none) ∙ length-zeros 4064) (cases_Bool (has_body im.kind)))
    (cases_Bool (is_slotted im.kind))

pub length-page_bytes : (im : Image) → IsImage im → length (page_bytes im) ≡ 4096
unfolding page_bytes
length-page_bytes im good =
    length-append (header_bytes (header_of im)) (rest_bytes im)
    ∙ omega (arith, length-header_bytes (header_of im), length-rest_bytes im good)

pub drop-page_bytes : (im : Image) → drop 32 (page_bytes im) ≡ rest_bytes im
unfolding page_bytes
drop-page_bytes im = drop_at (header_bytes (header_of im)) (rest_bytes im) 32 (length-header_bytes (header_of im))

front_parts : (h slots z items : List ℕ) → h ++ (slots ++ (z ++ items)) ≡ ((h ++ slots) ++ z) ++ (items ++ [])
front_parts h slots z items = simp (append_assoc, append-nil)

-- the items of a page stand at its end
whole_parts : (im : Image) → is_slotted im.kind ≡ true → page_bytes im ≡ ((header_bytes (header_of im) ++ slot_bytes 4096 im.items) ++ zeros (4064 - used im.items)) ++ (packed im.items ++ [])
unfolding page_bytes
whole_parts im slotted =
    ap (λ (q : List ℕ). header_bytes (header_of im) ++ q) (rest-slotted im slotted)
    ∙ front_parts (header_bytes (header_of im)) (slot_bytes 4096 im.items) (zeros (4064 - used im.items)) (packed im.items)

items_back : (im : Image) → IsImage im → cond (is_slotted im.kind) (items_at (length im.items) 4096 (drop 32 (page_bytes im)) (page_bytes im)) [] ≡ im.items
items_back im good =
    let bytes : List ℕ = page_bytes im in
    ⊎_elim (λ slotted.
    let z : List ℕ = zeros (4064 - used im.items) in
    let h : List ℕ = header_bytes (header_of im) in
    let slots : List ℕ = slot_bytes 4096 im.items in
    let front : List ℕ = (h ++ slots) ++ z in
    let parts : bytes ≡ front ++ (packed im.items ++ []) =
    whole_parts im slotted in
    let sizes : length front + length (packed im.items) ≡ 4096 =
    omega (arith, good.room, used_is im.items, length-append (h ++ slots) z, length-append h slots, length-header_bytes (header_of im), length-slot_bytes 4096 im.items, length-zeros (4064 - used im.items)) in
    ap (λ (b : Bool). cond b (items_at (length im.items) 4096 (drop 32 bytes) bytes) []) slotted
    ∙ ap (λ (q : List ℕ). items_at (length im.items) 4096 q bytes) (drop-page_bytes im ∙ rest-slotted im slotted)
    ∙ items_at-slot_bytes 4096 im.items bytes front [] (z ++ packed im.items) (omega arith) parts sizes)
    (λ plain. ap (λ (b : Bool). cond b (items_at (length im.items) 4096 (drop 32 bytes) bytes) []) plain ∙ sym (good.no_items plain))
    (cases_Bool (is_slotted im.kind))

body_back : (im : Image) → IsImage im → cond (has_body im.kind) (drop 32 (page_bytes im)) [] ≡ im.body
body_back im good =
    ⊎_elim (λ body.
    let plain : is_slotted im.kind ≡ false = ⊎_elim (λ slotted. absurd (false≢true (sym (no_both im.kind slotted) ∙ body))) (λ p. p) (cases_Bool (is_slotted im.kind)) in
    ap (λ (b : Bool). cond b (drop 32 (page_bytes im)) []) body ∙ drop-page_bytes im ∙ rest-body im plain body)
    (λ none. ap (λ (b : Bool). cond b (drop 32 (page_bytes im)) []) none ∙ sym (good.no_body none))
    (cases_Bool (has_body im.kind))

-- the image is read back from its spelling
pub image_of-page_bytes : (im : Image) → IsImage im → image_of (page_bytes im) ≡ im
image_of-page_bytes im good =
    let bytes : List ℕ = page_bytes im in
    ap (λ (h : Header). image_with h bytes) (header_at-page_bytes im good)
    ∙ ap (λ (items : List (List ℕ)). record im { items = items; body = cond (has_body im.kind) (drop 32 bytes) [] }) (items_back im good)
    ∙ ap (λ (body : List ℕ). record im { body = body }) (body_back im good)

-- the field behind the header
past_header : (h rest : List ℕ) (k : ℕ) → length h ≡ 32 → drop (32 + k) (h ++ rest) ≡ drop k rest
past_header h rest k e = sym (drop-drop k 32 (h ++ rest)) ∙ ap (drop k) (drop_at h rest 32 e)

-- items up to a place, with the item there
split_items : (items : List (List ℕ)) (i : ℕ) → i < length items → items ≡ take i items ++ (get_or items i [] ∷ drop (i + 1) items)
split_items items i within = sym (take-append-drop i items) ∙ ap (λ (q : List (List ℕ)). take i items ++ q) (drop_more items i [] within)

-- the slot of item i holds the end of the items after it
slot_holds : (im : Image) (i : ℕ) → is_slotted im.kind ≡ true → i < length im.items
    → number 2 (drop (32 + 2 * i) (page_bytes im)) ≡ 4096 - length (packed (take (i + 1) im.items))
unfolding page_bytes
slot_holds im i slotted within =
    let items : List (List ℕ) = im.items in
    let xs : List (List ℕ) = take i items in
    let x : List ℕ = get_or items i [] in
    let ys : List (List ℕ) = drop (i + 1) items in
    let rest : List ℕ = zeros (4064 - used items) ++ packed items in
    let count : length xs ≡ i = length-take-le i items (omega arith) in
    ap (number 2) (past_header (header_bytes (header_of im)) (rest_bytes im) (2 * i) (length-header_bytes (header_of im)))
    ∙ ap (λ (q : List ℕ). number 2 (drop (2 * i) q)) (rest-slotted im slotted)
    ∙ ap (λ (q : List (List ℕ)). number 2 (drop (2 * i) (slot_bytes 4096 q ++ rest))) (split_items items i within)
    ∙ ap (λ (q : ℕ). number 2 (drop (2 * q) (slot_bytes 4096 (xs ++ (x ∷ ys)) ++ rest))) (sym count)
    ∙ slot-between 4096 xs x ys rest (omega arith)
    ∙ ap (λ (q : List (List ℕ)). 4096 - length (packed q)) (sym (take_more items i [] within))

-- item i ends where the items before it begin
pub end_of-page_bytes : (im : Image) (i : ℕ) → is_slotted im.kind ≡ true → i ≤ length im.items → end_of (page_bytes im) i ≡ 4096 - length (packed (take i im.items))
end_of-page_bytes im zero slotted within = refl
end_of-page_bytes im (suc i) slotted within =
    let same : suc i - 1 ≡ i = omega arith in
    let next : i + 1 ≡ suc i = omega arith in
    ap (λ (b : Bool). cond b 4096 (number 2 (drop (32 + 2 * (suc i - 1)) (page_bytes im)))) (ne_eqb (suc i) 0 (λ e. absurd (omega arith)))
    ∙ ap (λ (q : ℕ). number 2 (drop (32 + 2 * q) (page_bytes im))) same
    ∙ slot_holds im i slotted (omega arith)
    ∙ ap (λ (q : ℕ). 4096 - length (packed (take q im.items))) next

-- the item between others, in the bytes
item_between : (h a b z ys x xs : List ℕ) → h ++ (a ++ (b ++ (z ++ ((ys ++ x) ++ xs)))) ≡ (h ++ (a ++ (b ++ (z ++ ys)))) ++ (x ++ xs)
item_between h a b z ys x xs = simp append_assoc

slotted_if_some : (im : Image) (i : ℕ) → IsImage im → i < length im.items → is_slotted im.kind ≡ true
slotted_if_some im i good within =
    ⊎_elim (λ slotted. slotted) (λ plain. absurd (omega (arith, ap (λ (q : List (List ℕ)). length q) (good.no_items plain)))) (cases_Bool (is_slotted im.kind))

-- what the items take ends at the page's end
packed_bound : (im : Image) (i : ℕ) → IsImage im → i ≤ length im.items → length (packed (take i im.items)) + (length (packed (drop i im.items)) + 2 * length im.items + 32) ≤ 4096
packed_bound im i good within =
    let whole : length (packed im.items) ≡ length (packed (drop i im.items)) + length (packed (take i im.items)) =
    ap (λ (q : List (List ℕ)). length (packed q)) (sym (take-append-drop i im.items)) ∙ ap (λ (q : List ℕ). length q) (packed-append (take i im.items) (drop i im.items)) ∙ length-append (packed (drop i im.items)) (packed (take i im.items)) in
    omega (arith, good.room, used_is im.items)

slice_of_item : (im : Image) (i : ℕ) → IsImage im → i < length im.items
    → slice_range (page_bytes im) (4096 - length (packed (take (i + 1) im.items))) (4096 - length (packed (take i im.items))) ≡ get_or im.items i []
slice_of_item im i good within =
    let items : List (List ℕ) = im.items in
    let xs : List (List ℕ) = take i items in
    let x : List ℕ = get_or items i [] in
    let ys : List (List ℕ) = drop (i + 1) items in
    let h : List ℕ = header_bytes (header_of im) in
    let a : List ℕ = slot_bytes 4096 xs in
    let b : List ℕ = slot_bytes (4096 - length (packed xs)) (x ∷ ys) in
    let z : List ℕ = zeros (4064 - used items) in
    let parts : page_bytes im ≡ (h ++ (a ++ (b ++ (z ++ packed ys)))) ++ (x ++ packed xs) =
    page_parts im xs (x ∷ ys) (slotted_if_some im i good within) (split_items items i within)
    ∙ item_between h a b z (packed ys) x (packed xs) in
    let more : length (packed (take (i + 1) items)) ≡ length x + length (packed xs) =
    ap (λ (q : List (List ℕ)). length (packed q)) (take_more items i [] within) ∙ ap (λ (q : List ℕ). length q) (packed-append xs (x ∷ [])) ∙ length-append x (packed xs) in
    let all : length (page_bytes im) ≡ 4096 = length-page_bytes im good in
    let total : length (page_bytes im) ≡ length (h ++ (a ++ (b ++ (z ++ packed ys)))) + (length x + length (packed xs)) =
    ap (λ (q : List ℕ). length q) parts ∙ length-append (h ++ (a ++ (b ++ (z ++ packed ys)))) (x ++ packed xs) ∙ ap (λ (q : ℕ). length (h ++ (a ++ (b ++ (z ++ packed ys)))) + q) (length-append x (packed xs)) in
    ap (λ (q : List ℕ). slice_range q (4096 - length (packed (take (i + 1) items))) (4096 - length (packed xs))) parts
    ∙ between_pieces (4096 - length (packed (take (i + 1) items))) (4096 - length (packed xs)) (h ++ (a ++ (b ++ (z ++ packed ys)))) x (packed xs) (omega arith) (omega arith)

-- each item stands at its place
placed_items : (im : Image) → IsImage im → (i : ℕ) → i < length im.items → (image_of (page_bytes im)).items ≡ im.items → IsPlaced (page_bytes im) i
placed_items im good i within same =
    let slotted : is_slotted im.kind ≡ true = slotted_if_some im i good within in
    let after : end_of (page_bytes im) (i + 1) ≡ 4096 - length (packed (take (i + 1) im.items)) = end_of-page_bytes im (i + 1) slotted (omega arith) in
    let here : end_of (page_bytes im) i ≡ 4096 - length (packed (take i im.items)) = end_of-page_bytes im i slotted (omega arith) in
    let more : length (packed (take (i + 1) im.items)) ≡ length (get_or im.items i []) + length (packed (take i im.items)) =
    ap (λ (q : List (List ℕ)). length (packed q)) (take_more im.items i [] within) ∙ ap (λ (q : List ℕ). length q) (packed-append (take i im.items) (get_or im.items i [] ∷ [])) ∙ length-append (get_or im.items i []) (packed (take i im.items)) in
    record {
      from = omega arith;
      to = omega arith;
      item =
          ap (λ (q : List (List ℕ)). slice_get q i) same
          ∙ slice_get-get_or im.items i [] within
          ∙ ap (λ (q : List ℕ). Some q) (sym (slice_of_item im i good within)
          ∙ ap (λ (q : ℕ). slice_range (page_bytes im) q (4096 - length (packed (take i im.items)))) (sym after)
          ∙ ap (λ (q : ℕ). slice_range (page_bytes im) (end_of (page_bytes im) (i + 1)) q) (sym here));
    }

-- the free bytes are those between the slots and the lowest item
free_back : (im : Image) → IsImage im → (bytes : List ℕ) → image_of bytes ≡ im → number 2 (drop 28 bytes) ≡ cond (is_slotted im.kind) (4096 - length (packed im.items)) 0 → number 2 (drop 2 bytes) ≡ length im.items
    → number 2 (drop 28 bytes) - (32 + 2 * number 2 (drop 2 bytes)) ≡ free_of (image_of bytes)
free_back im good bytes back low slots =
    let free : cond (is_slotted im.kind) (4096 - length (packed im.items)) 0 - (32 + 2 * length im.items) ≡ cond (is_slotted im.kind) (4064 - used im.items) 0 =
    ⊎_elim (λ slotted. ap (λ (b : Bool). cond b (4096 - length (packed im.items)) 0 - (32 + 2 * length im.items)) slotted ∙ omega (arith, good.room, used_is im.items) ∙ ap (λ (b : Bool). cond b (4064 - used im.items) 0) (sym slotted))
    (λ plain. ap (λ (b : Bool). cond b (4096 - length (packed im.items)) 0 - (32 + 2 * length im.items)) plain ∙ omega arith ∙ ap (λ (b : Bool). cond b (4064 - used im.items) 0) (sym plain))
    (cases_Bool (is_slotted im.kind)) in
    ap (λ (q : ℕ). q - (32 + 2 * number 2 (drop 2 bytes))) low
    ∙ ap (λ (q : ℕ). cond (is_slotted im.kind) (4096 - length (packed im.items)) 0 - (32 + 2 * q)) slots
    ∙ free ∙ ap free_of (sym back)

-- the spelling of an image is a page
pub IsPage-page_bytes : (im : Image) → IsImage im → IsPage (page_bytes im)
IsPage-page_bytes im good =
    let bytes : List ℕ = page_bytes im in
    let back : image_of bytes ≡ im = image_of-page_bytes im good in
    let header : header_at bytes ≡ header_of im = header_at-page_bytes im good in
    let page : number 4 (drop 4 bytes) ≡ im.page = ap (λ (h : Header). h.page) header in
    let slots : number 2 (drop 2 bytes) ≡ length im.items = ap (λ (h : Header). h.slots) header in
    let low : number 2 (drop 28 bytes) ≡ cond (is_slotted im.kind) (4096 - length (packed im.items)) 0 = ap (λ (h : Header). h.low) header in
    let items : (image_of bytes).items ≡ im.items = ap (λ (q : Image). q.items) back in
    record {
      spelled = ap page_bytes (sym back);
      good = subst (λ (q : Image). IsImage q) (sym back) good;
      length_is = length-page_bytes im good;
      header_is = header ∙ ap header_of (sym back);
      page_bound = omega (arith, good.page_bound);
      slots_bound = omega (arith, count_bound im good);
      free_is = free_back im good bytes back low slots;
      count = slots ∙ ap (λ (q : List (List ℕ)). length q) (sym items);
      placed = λ i within. placed_items im good i (subst (λ (q : List (List ℕ)). i < length q) items within) items;
    }
