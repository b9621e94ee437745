-- What the steps of a removal leave, from the page to the page without the item.
use Rattle.std.proofs.Common.{◌≡◌, ◌≤◌, ◌<◌, ◌+◌, ◌-◌, ◌*◌, ◌^◌, ℕ, suc, Bool, cond, List, [], ◌∷◌, ◌++◌, length, take, drop, get_or, remove, refl, sym, ◌∙◌, ap, arith, append_assoc, length-append, length-drop}
use Rattle.std.proofs.lemmas.List.{drop_at, drop_more, take_more}
use Rattle.std.proofs.lemmas.List.Edits.{length-remove}
use Rattle.std.proofs.lemmas.List.Elements.{All-take, All-drop, All-append}
use Rattle.std.proofs.lemmas.List.Sums.{sum_by-remove}
use Rattle.rm_base.specs.Fields.{field}
use Rattle.rm_base.proofs.FieldLaws.{length-field}
use Rattle.page_image.specs.declared.header.Header.{Header}
use Rattle.page_image.specs.Image.{Image, is_inner, used, zeros, structure_after, removed, CanRemove, Follows}
use Rattle.page_image.specs.Layout.{header_bytes, header_of, packed, slot_bytes, page_bytes}
use Rattle.page_image.specs.Rules.{IsImage}
use Rattle.page_image.specs.Moves.{HasSlots}
use Rattle.page_image.proofs.HeaderLaws.{length-header_bytes, same_headers}
use Rattle.page_image.proofs.ItemLaws.{packed-append}
use Rattle.page_image.proofs.PageLaws.{page_parts, length-zeros}
use Rattle.page_image.proofs.ChangeLaws.{zeros-add, kept_good, structure_small}
use Rattle.page_image.proofs.InsertLaws.{Sizes, sizes, edge, front, cut_at, low_is}

-- the item that leaves
abbrev gone : Image → ℕ → List ℕ
gone im i = get_or im.items i []

-- the items behind it
abbrev later : Image → ℕ → List (List ℕ)
later im i = drop (i + 1) im.items

-- what is known of the item's place
record Leaves (im : Image) (i : ℕ) : Type 0 where
  cut : Sizes im i
  next : edge im (i + 1) ≡ edge im i - length (gone im i)
  room : length (gone im i) ≤ edge im i
  items : length (packed im.items) ≡ length (packed (later im i)) + length (gone im i) + length (packed (take i im.items))
  below : length (packed (later im i)) ≤ edge im i - length (gone im i)

leaves : (im : Image) (i : ℕ) → IsImage im → CanRemove im i → Leaves im i
leaves im i good can =
    let s : Sizes im i = sizes im i good (omega (arith, can.there)) in
    let behind : length (packed (drop i im.items)) ≡ length (packed (later im i)) + length (gone im i) =
    ap (λ (q : List (List ℕ)). length (packed q)) (drop_more im.items i [] can.there) ∙ length-append (packed (later im i)) (gone im i) in
    let more : length (packed (take (i + 1) im.items)) ≡ length (gone im i) + length (packed (take i im.items)) =
    ap (λ (q : List (List ℕ)). length (packed q)) (take_more im.items i [] can.there) ∙ ap (λ (q : List ℕ). length q) (packed-append (take i im.items) (gone im i ∷ [])) ∙ length-append (gone im i) (packed (take i im.items)) in
    record {
      cut = s;
      next = omega arith;
      room = omega (arith, s.items, s.room);
      items = omega (arith, s.all);
      below = omega (arith, s.items, s.room);
    }

-- its room
pub gone_size : (im : Image) (i end begin : ℕ) → IsImage im → CanRemove im i → end ≡ edge im i → begin ≡ edge im (i + 1) → end - begin ≡ length (gone im i)
gone_size im i end begin good can end-is begin-is = let l : Leaves im i = leaves im i good can in omega (arith, l.next, l.room)

pub remove_fits : (im : Image) (i low end begin : ℕ) → IsImage im → CanRemove im i → low ≡ 4096 - length (packed im.items) → end ≡ edge im i → begin ≡ edge im (i + 1) → low + (end - begin) ≤ end
remove_fits im i low end begin good can low-is end-is begin-is =
    let l : Leaves im i = leaves im i good can in
    omega (arith, gone_size im i end begin good can end-is begin-is, l.items, l.cut.items, l.cut.room)

pub removed_good : (im : Image) (i lsn : ℕ) → IsImage im → CanRemove im i → Follows im lsn → lsn < 2 ^ 64 → IsImage (removed im i lsn)
removed_good im i lsn good can follows small =
    kept_good im lsn (structure_after im lsn) im.next (remove im.items i) good can.slotted follows.some small
    (structure_small (is_inner im.kind) lsn im.structure (omega (arith, good.structure_bound, follows.later)))
    good.next_bound
    (All-append (λ (x : List ℕ). 1 ≤ length x) (take i im.items) (drop (suc i) im.items)
    (All-take (λ (x : List ℕ). 1 ≤ length x) i im.items good.some_bytes)
    (All-drop (λ (x : List ℕ). 1 ≤ length x) (suc i) im.items good.some_bytes))
    (omega (arith, sum_by-remove (λ (x : List ℕ). length x + 2) im.items i [] can.there, good.room))

group_item : (f b z ys x pa : List ℕ) → f ++ (b ++ (z ++ ((ys ++ x) ++ pa))) ≡ (f ++ (b ++ z)) ++ (ys ++ (x ++ pa))
group_item f b z ys x pa = simp append_assoc

group_slot : (f g b z zx ys pa : List ℕ) → (f ++ ((g ++ b) ++ z)) ++ (zx ++ (ys ++ pa)) ≡ f ++ (g ++ (b ++ (z ++ (zx ++ (ys ++ pa)))))
group_slot f g b z zx ys pa = simp append_assoc

group_zeros : (a b zg z zx ys pa : List ℕ) → a ++ (b ++ (zg ++ (z ++ (zx ++ (ys ++ pa))))) ≡ a ++ (b ++ ((zg ++ (z ++ zx)) ++ (ys ++ pa)))
group_zeros a b zg z zx ys pa = simp append_assoc

-- when the item is gone
pub item_out : (im : Image) (i low end size : ℕ) (bytes new : List ℕ) → IsImage im → CanRemove im i → bytes ≡ page_bytes im
    → low ≡ 4096 - length (packed im.items) → end ≡ edge im i → size ≡ length (gone im i)
    → ((p b x s : List ℕ) → length p ≡ low → length x ≡ size → low + length b + length x ≡ end → bytes ≡ p ++ (b ++ (x ++ s)) → new ≡ p ++ (zeros size ++ (b ++ s)))
    → new ≡ front im i ++ (field 2 (edge im i - length (gone im i)) ++ (slot_bytes (edge im i - length (gone im i)) (later im i) ++ (zeros (4064 - used im.items) ++ (zeros (length (gone im i)) ++ (packed (later im i) ++ packed (take i im.items))))))
item_out im i low end size bytes new good can spelled low-is end-is size-is step =
    let l : Leaves im i = leaves im i good can in
    let x : List ℕ = gone im i in
    let ys : List (List ℕ) = later im i in
    let f : List ℕ = front im i in
    let e : ℕ = edge im i - length x in
    let b : List ℕ = field 2 e ++ slot_bytes e ys in
    let z : List ℕ = zeros (4064 - used im.items) in
    let pa : List ℕ = packed (take i im.items) in
    let parts : bytes ≡ (f ++ (b ++ z)) ++ (packed ys ++ (x ++ pa)) =
    spelled ∙ cut_at im i can.slotted
    ∙ ap (λ (q : List (List ℕ)). f ++ (slot_bytes (edge im i) q ++ (z ++ (packed q ++ pa)))) (drop_more im.items i [] can.there)
    ∙ group_item f b z (packed ys) x pa in
    let slots : length b ≡ 2 * (length im.items - i) = ap (λ (q : List (List ℕ)). length (slot_bytes (edge im i) q)) (sym (drop_more im.items i [] can.there)) ∙ l.cut.behind in
    let begins : length (f ++ (b ++ z)) ≡ low =
    length-append f (b ++ z) ∙ omega (arith, length-append b z, length-zeros (4064 - used im.items), l.cut.before, l.cut.items, l.cut.all, l.cut.room, l.cut.place) in
    step (f ++ (b ++ z)) (packed ys) x pa begins (sym size-is) (omega (arith, l.items, l.cut.items, l.cut.room)) parts
    ∙ ap (λ (q : ℕ). (f ++ (b ++ z)) ++ (zeros q ++ (packed ys ++ pa))) size-is
    ∙ group_slot f (field 2 e) (slot_bytes e ys) z (zeros (length x)) (packed ys) pa

remove_slots : (im : Image) (i begin end : ℕ) → IsImage im → CanRemove im i → begin ≡ edge im i - length (gone im i) → end ≡ edge im i → HasSlots (slot_bytes begin (later im i)) begin end (later im i)
remove_slots im i begin end good can begin-is end-is =
    let l : Leaves im i = leaves im i good can in
    record {
      spelled = refl;
      in_page = omega arith;
      stays_in_page = omega arith;
      room = omega (arith, l.below);
      new_room = omega (arith, l.below);
    }

-- what the closing of a slot needs to know
pub slots_ready : (im : Image) (i at count begin end : ℕ) (bytes : List ℕ) → IsImage im → CanRemove im i
    → bytes ≡ front im i ++ (field 2 (edge im i - length (gone im i)) ++ (slot_bytes (edge im i - length (gone im i)) (later im i) ++ (zeros (4064 - used im.items) ++ (zeros (length (gone im i)) ++ (packed (later im i) ++ packed (take i im.items))))))
    → at ≡ 32 + 2 * i → count ≡ length im.items - i - 1 → begin ≡ edge im (i + 1) → end ≡ edge im i
    → (p g s : List ℕ) × (items : List (List ℕ)) × (length p ≡ at) × (length g ≡ 2) × (length items ≡ count) × (bytes ≡ p ++ (g ++ (slot_bytes begin items ++ s))) × HasSlots (slot_bytes begin items) begin end items
slots_ready im i at count begin end bytes good can parts place number begin-is end-is =
    let l : Leaves im i = leaves im i good can in
    let e : ℕ = edge im i - length (gone im i) in
    let from : begin ≡ e = begin-is ∙ l.next in
    let tail : List ℕ = zeros (4064 - used im.items) ++ (zeros (length (gone im i)) ++ (packed (later im i) ++ packed (take i im.items))) in
    let begins : length (front im i) ≡ at = omega (arith, l.cut.before) in
    let counted : length (later im i) ≡ count = length-drop (i + 1) im.items ∙ omega arith in
    let there : bytes ≡ front im i ++ (field 2 e ++ (slot_bytes begin (later im i) ++ tail)) = parts ∙ ap (λ (q : ℕ). front im i ++ (field 2 e ++ (slot_bytes q (later im i) ++ tail))) (sym from) in
    (front im i, field 2 e, tail, later im i, begins, length-field 2 e, counted, there, remove_slots im i begin end good can from end-is)

-- when its slot is gone too
pub slot_out : (im : Image) (i at count begin end : ℕ) (bytes new : List ℕ) → IsImage im → CanRemove im i
    → bytes ≡ front im i ++ (field 2 (edge im i - length (gone im i)) ++ (slot_bytes (edge im i - length (gone im i)) (later im i) ++ (zeros (4064 - used im.items) ++ (zeros (length (gone im i)) ++ (packed (later im i) ++ packed (take i im.items))))))
    → at ≡ 32 + 2 * i → count ≡ length im.items - i - 1 → begin ≡ edge im (i + 1) → end ≡ edge im i
    → ((p g s : List ℕ) (items : List (List ℕ)) → length p ≡ at → length items ≡ count → length g ≡ 2 → bytes ≡ p ++ (g ++ (slot_bytes begin items ++ s)) → HasSlots (slot_bytes begin items) begin end items → new ≡ p ++ (slot_bytes end items ++ (zeros 2 ++ s)))
    → new ≡ front im i ++ (slot_bytes (edge im i) (later im i) ++ (zeros 2 ++ (zeros (4064 - used im.items) ++ (zeros (length (gone im i)) ++ (packed (later im i) ++ packed (take i im.items))))))
slot_out im i at count begin end bytes new good can parts place number begin-is end-is step =
    let l : Leaves im i = leaves im i good can in
    let e : ℕ = edge im i - length (gone im i) in
    let from : begin ≡ e = begin-is ∙ l.next in
    let tail : List ℕ = zeros (4064 - used im.items) ++ (zeros (length (gone im i)) ++ (packed (later im i) ++ packed (take i im.items))) in
    let begins : length (front im i) ≡ at = omega (arith, l.cut.before) in
    let counted : length (later im i) ≡ count = length-drop (i + 1) im.items ∙ omega arith in
    let there : bytes ≡ front im i ++ (field 2 e ++ (slot_bytes begin (later im i) ++ tail)) = parts ∙ ap (λ (q : ℕ). front im i ++ (field 2 e ++ (slot_bytes q (later im i) ++ tail))) (sym from) in
    step (front im i) (field 2 e) tail (later im i) begins counted (length-field 2 e) there (remove_slots im i begin end good can from end-is)
    ∙ ap (λ (q : ℕ). front im i ++ (slot_bytes q (later im i) ++ (zeros 2 ++ tail))) end-is

-- the items without the one that left
items_left : (im : Image) (i : ℕ) → remove im.items i ≡ take i im.items ++ later im i
items_left im i = let same : suc i ≡ i + 1 = omega arith in ap (λ (q : ℕ). take i im.items ++ drop q im.items) same

pub removed_header : (im : Image) (i lsn slots shape low size : ℕ) (h : Header) → IsImage im → CanRemove im i → h ≡ header_of im
    → slots ≡ h.slots - 1 → shape ≡ cond (is_inner h.kind) lsn h.structure → low ≡ h.low + size → size ≡ length (gone im i)
    → ◌≡◌ {A = Header} (record h { slots = slots; lsn = lsn; structure = shape; low = low }) (header_of (removed im i lsn))
removed_header im i lsn slots shape low size h good can same count shape-is low-is size-is =
    let l : Leaves im i = leaves im i good can in
    let kind : h.kind ≡ im.kind = ap (λ (q : Header). q.kind) same in
    let old : h.structure ≡ im.structure = ap (λ (q : Header). q.structure) same in
    let fewer : length (remove im.items i) + 1 ≡ length im.items = length-remove im.items i can.there in
    let whole : length (packed (remove im.items i)) ≡ length (packed (later im i)) + length (packed (take i im.items)) =
    ap (λ (q : List (List ℕ)). length (packed q)) (items_left im i) ∙ ap (λ (q : List ℕ). length q) (packed-append (take i im.items) (later im i)) ∙ length-append (packed (later im i)) (packed (take i im.items)) in
    same_headers (record h { slots = slots; lsn = lsn; structure = shape; low = low }) (header_of (removed im i lsn))
    kind
    (count ∙ ap (λ (q : Header). q.slots - 1) same ∙ omega arith)
    (ap (λ (q : Header). q.page) same)
    refl
    (shape-is ∙ ap (λ k. cond (is_inner k) lsn h.structure) kind ∙ ap (λ (q : ℕ). cond (is_inner im.kind) lsn q) old)
    (ap (λ (q : Header). q.next) same)
    (low-is ∙ ap (λ (q : ℕ). q + size) (low_is im h can.slotted same) ∙ omega (arith, l.items, l.cut.items, l.cut.room) ∙ ap (λ (b : Bool). cond b (4096 - length (packed (remove im.items i))) 0) (sym can.slotted))
    (ap (λ (q : Header). q.level) same)

-- when the header is written too
pub removed_bytes : (im : Image) (i lsn : ℕ) (h : Header) (bytes new : List ℕ) → IsImage im → CanRemove im i
    → bytes ≡ front im i ++ (slot_bytes (edge im i) (later im i) ++ (zeros 2 ++ (zeros (4064 - used im.items) ++ (zeros (length (gone im i)) ++ (packed (later im i) ++ packed (take i im.items))))))
    → h ≡ header_of (removed im i lsn) → new ≡ header_bytes h ++ drop 32 bytes → new ≡ page_bytes (removed im i lsn)
removed_bytes im i lsn h bytes new good can parts same written =
    let done : Image = removed im i lsn in
    let x : List ℕ = gone im i in
    let a : List ℕ = slot_bytes 4096 (take i im.items) in
    let b : List ℕ = slot_bytes (edge im i) (later im i) in
    let free : ℕ = 4064 - used im.items in
    let pb : List ℕ = packed (later im i) in
    let pa : List ℕ = packed (take i im.items) in
    let tail : List ℕ = b ++ (zeros 2 ++ (zeros free ++ (zeros (length x) ++ (pb ++ pa)))) in
    let rest : drop 32 bytes ≡ a ++ tail =
    ap (drop 32) (parts ∙ append_assoc (header_bytes (header_of im)) a tail) ∙ drop_at (header_bytes (header_of im)) (a ++ tail) 32 (length-header_bytes (header_of im)) in
    let clear : zeros 2 ++ (zeros free ++ zeros (length x)) ≡ zeros (2 + (free + length x)) =
    ap (λ (q : List ℕ). zeros 2 ++ q) (sym (zeros-add free (length x))) ∙ sym (zeros-add 2 (free + length x)) in
    let left : 2 + (free + length x) ≡ 4064 - used (remove im.items i) =
    omega (arith, sum_by-remove (λ (y : List ℕ). length y + 2) im.items i [] can.there, good.room) in
    written
    ∙ ap (λ (q : List ℕ). header_bytes h ++ q) rest
    ∙ ap (λ (q : Header). header_bytes q ++ (a ++ tail)) same
    ∙ ap (λ (q : List ℕ). header_bytes (header_of done) ++ q) (group_zeros a b (zeros 2) (zeros free) (zeros (length x)) pb pa)
    ∙ ap (λ (q : List ℕ). header_bytes (header_of done) ++ (a ++ (b ++ (q ++ (pb ++ pa))))) (clear ∙ ap zeros left)
    ∙ sym (page_parts done (take i im.items) (later im i) can.slotted (items_left im i))
