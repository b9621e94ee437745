-- What the steps of an insert leave, from the page to the page with the item.
use Rattle.std.proofs.Common.{◌≡◌, ◌≤◌, ◌+◌, ◌-◌, ◌*◌, ℕ, Bool, true, cond, List, ◌∷◌, ◌++◌, length, take, drop, insert, refl, sym, ◌∙◌, ap, arith, append_assoc, length-append, length-drop}
use Rattle.std.proofs.lemmas.List.{drop_at, take-append-drop, length-take-le}
use Rattle.std.proofs.lemmas.List.Edits.{length-insert}
use Rattle.std.proofs.lemmas.List.Sums.{sum_by-insert}
use Rattle.rm_base.specs.Fields.{field}
use Rattle.page_image.specs.declared.header.Header.{Header}
use Rattle.page_image.specs.Image.{Image, is_slotted, is_inner, used, zeros, inserted, CanInsert}
use Rattle.page_image.specs.Layout.{header_bytes, header_of, packed, slot_bytes, end_of, page_bytes}
use Rattle.page_image.specs.Rules.{IsImage}
use Rattle.page_image.specs.Moves.{HasSlots}
use Rattle.page_image.proofs.HeaderLaws.{length-header_bytes, same_headers}
use Rattle.page_image.proofs.ItemLaws.{used_is, length-slot_bytes, packed-append}
use Rattle.page_image.proofs.PageLaws.{page_parts, end_of-page_bytes, length-zeros}
use Rattle.page_image.proofs.ChangeLaws.{zeros-add, free_is_left}

-- the items before a place and from it on take what all take
pub packed_both : (items : List (List ℕ)) (i : ℕ) → length (packed items) ≡ length (packed (drop i items)) + length (packed (take i items))
packed_both items i =
    ap (λ (q : List (List ℕ)). length (packed q)) (sym (take-append-drop i items)) ∙ ap (λ (q : List ℕ). length q) (packed-append (take i items) (drop i items)) ∙ length-append (packed (drop i items)) (packed (take i items))

-- where the items from a place on end
abbrev pub edge : Image → ℕ → ℕ
edge im i = 4096 - length (packed (take i im.items))

-- the header and the slots before a place
abbrev pub front : Image → ℕ → List ℕ
front im i = header_bytes (header_of im) ++ slot_bytes 4096 (take i im.items)

-- where the lowest item begins
pub low_is : (im : Image) (h : Header) → is_slotted im.kind ≡ true → h ≡ header_of im → h.low ≡ 4096 - length (packed im.items)
low_is im h slotted same = ap (λ (q : Header). q.low) same ∙ ap (λ (b : Bool). cond b (4096 - length (packed im.items)) 0) slotted

pub end_is : (im : Image) (bytes : List ℕ) (i : ℕ) → bytes ≡ page_bytes im → is_slotted im.kind ≡ true → i ≤ length im.items → end_of bytes i ≡ edge im i
end_is im bytes i spelled slotted within = ap (λ (q : List ℕ). end_of q i) spelled ∙ end_of-page_bytes im i slotted within

-- the sizes of the parts of a page that is cut at a place
pub record Sizes (im : Image) (i : ℕ) : Type 0 where
  pub items : used im.items ≡ length (packed (drop i im.items)) + length (packed (take i im.items)) + 2 * length im.items
  pub all : length (packed im.items) ≡ length (packed (drop i im.items)) + length (packed (take i im.items))
  pub before : length (front im i) ≡ 32 + 2 * i
  pub behind : length (slot_bytes (edge im i) (drop i im.items)) ≡ 2 * (length im.items - i)
  pub room : used im.items ≤ 4064
  pub place : i ≤ length im.items

pub sizes : (im : Image) (i : ℕ) → IsImage im → i ≤ length im.items → Sizes im i
sizes im i good within =
    record {
      items = omega (arith, used_is im.items, packed_both im.items i);
      all = packed_both im.items i;
      before =
          length-append (header_bytes (header_of im)) (slot_bytes 4096 (take i im.items))
          ∙ omega (arith, length-header_bytes (header_of im), length-slot_bytes 4096 (take i im.items), length-take-le i im.items within);
      behind = length-slot_bytes (edge im i) (drop i im.items) ∙ ap (λ (q : ℕ). 2 * q) (length-drop i im.items);
      room = good.room;
      place = within;
    }

-- a page cut at a place
pub cut_at : (im : Image) (i : ℕ) → is_slotted im.kind ≡ true → page_bytes im ≡ front im i ++ (slot_bytes (edge im i) (drop i im.items) ++ (zeros (4064 - used im.items) ++ (packed (drop i im.items) ++ packed (take i im.items))))
cut_at im i slotted =
    page_parts im (take i im.items) (drop i im.items) slotted (sym (take-append-drop i im.items))
    ∙ sym (append_assoc (header_bytes (header_of im)) (slot_bytes 4096 (take i im.items)) (slot_bytes (edge im i) (drop i im.items) ++ (zeros (4064 - used im.items) ++ (packed (drop i im.items) ++ packed (take i im.items)))))

-- the bytes that an item and its slot leave free
abbrev left : Image → List ℕ → ℕ
left im item = 4064 - used im.items - length item - 2

insert_room : (im : Image) (i : ℕ) (item : List ℕ) → CanInsert im i item → length item + 2 ≤ 4064 - used im.items
insert_room im i item can = omega (arith, can.room, free_is_left im can.slotted)

-- the slots behind the place can move down by the item
pub insert_slots : (im : Image) (i : ℕ) (item : List ℕ) → IsImage im → CanInsert im i item → HasSlots (slot_bytes (edge im i) (drop i im.items)) (edge im i) (edge im i - length item) (drop i im.items)
insert_slots im i item good can =
    let s : Sizes im i = sizes im i good can.place in
    record {
      spelled = refl;
      in_page = omega arith;
      stays_in_page = omega arith;
      room = omega (arith, s.items, s.room);
      new_room = omega (arith, s.items, s.room, insert_room im i item can);
    }

group_free : (f b g zf z pb pa : List ℕ) → f ++ (b ++ (((g ++ zf) ++ z) ++ (pb ++ pa))) ≡ (f ++ (b ++ (g ++ zf))) ++ (z ++ (pb ++ pa))
group_free f b g zf z pb pa = simp append_assoc

group_slots : (f b g zf pb x pa : List ℕ) → (f ++ (b ++ (g ++ zf))) ++ (pb ++ (x ++ pa)) ≡ f ++ (b ++ (g ++ (zf ++ (pb ++ (x ++ pa)))))
group_slots f b g zf pb x pa = simp append_assoc

group_done : (a s b z pb x pa : List ℕ) → a ++ (s ++ (b ++ (z ++ (pb ++ (x ++ pa))))) ≡ a ++ ((s ++ b) ++ (z ++ ((pb ++ x) ++ pa)))
group_done a s b z pb x pa = simp append_assoc

-- when the item stands at its place
pub item_in : (im : Image) (i : ℕ) (item bytes new : List ℕ) (from to : ℕ) → IsImage im → CanInsert im i item → bytes ≡ page_bytes im
    → from ≡ 4096 - length (packed im.items) - length item → to ≡ edge im i
    → ((p z b s : List ℕ) → length p ≡ from → length z ≡ length item → from + length z + length b ≡ to → bytes ≡ p ++ (z ++ (b ++ s)) → new ≡ p ++ (b ++ (item ++ s)))
    → new ≡ front im i ++ (slot_bytes (edge im i) (drop i im.items) ++ (zeros 2 ++ (zeros (left im item) ++ (packed (drop i im.items) ++ (item ++ packed (take i im.items))))))
item_in im i item bytes new from to good can spelled begins ends step =
    let s : Sizes im i = sizes im i good can.place in
    let room : length item + 2 ≤ 4064 - used im.items = insert_room im i item can in
    let f : List ℕ = front im i in
    let b : List ℕ = slot_bytes (edge im i) (drop i im.items) in
    let zf : List ℕ = zeros (left im item) in
    let pb : List ℕ = packed (drop i im.items) in
    let pa : List ℕ = packed (take i im.items) in
    let p : List ℕ = f ++ (b ++ (zeros 2 ++ zf)) in
    let split : 4064 - used im.items ≡ (2 + left im item) + length item = omega arith in
    let free : zeros (4064 - used im.items) ≡ (zeros 2 ++ zf) ++ zeros (length item) =
    ap zeros split ∙ zeros-add (2 + left im item) (length item) ∙ ap (λ (q : List ℕ). q ++ zeros (length item)) (zeros-add 2 (left im item)) in
    let parts : bytes ≡ p ++ (zeros (length item) ++ (pb ++ pa)) =
    spelled ∙ cut_at im i can.slotted ∙ ap (λ (q : List ℕ). f ++ (b ++ (q ++ (pb ++ pa)))) free ∙ group_free f b (zeros 2) zf (zeros (length item)) pb pa in
    let size : length p ≡ from =
    length-append f (b ++ (zeros 2 ++ zf)) ∙ omega (arith, s.items, s.all, s.before, s.behind, s.room, s.place, length-append b (zeros 2 ++ zf), length-append (zeros 2) zf, length-zeros 2, length-zeros (left im item)) in
    step p (zeros (length item)) pb pa size (length-zeros (length item)) (omega (arith, s.items, s.all, s.room, length-zeros (length item))) parts
    ∙ group_slots f b (zeros 2) zf pb item pa

-- when its slot stands there too
pub slot_in : (im : Image) (i : ℕ) (item bytes new : List ℕ) (at count end to : ℕ) → IsImage im → CanInsert im i item
    → bytes ≡ front im i ++ (slot_bytes (edge im i) (drop i im.items) ++ (zeros 2 ++ (zeros (left im item) ++ (packed (drop i im.items) ++ (item ++ packed (take i im.items))))))
    → at ≡ 32 + 2 * i → count ≡ length im.items - i → end ≡ edge im i → to ≡ edge im i - length item
    → ((p g s : List ℕ) (items : List (List ℕ)) → length p ≡ at → length items ≡ count → length g ≡ 2 → bytes ≡ p ++ (slot_bytes end items ++ (g ++ s)) → HasSlots (slot_bytes end items) end to items → new ≡ p ++ (field 2 to ++ (slot_bytes to items ++ s)))
    → new ≡ front im i ++ (field 2 (edge im i - length item) ++ (slot_bytes (edge im i - length item) (drop i im.items) ++ (zeros (left im item) ++ (packed (drop i im.items) ++ (item ++ packed (take i im.items))))))
slot_in im i item bytes new at count end to good can parts place number from-is to-is step =
    let s : Sizes im i = sizes im i good can.place in
    let f : List ℕ = front im i in
    let tail : List ℕ = zeros (left im item) ++ (packed (drop i im.items) ++ (item ++ packed (take i im.items))) in
    let there : bytes ≡ f ++ (slot_bytes end (drop i im.items) ++ (zeros 2 ++ tail)) = parts ∙ ap (λ (q : ℕ). f ++ (slot_bytes q (drop i im.items) ++ (zeros 2 ++ tail))) (sym from-is) in
    let slots : HasSlots (slot_bytes end (drop i im.items)) end to (drop i im.items) =
    rw (from-is, to-is) (insert_slots im i item good can) in
    step f (zeros 2) tail (drop i im.items) (omega (arith, s.before)) (length-drop i im.items ∙ sym number) (length-zeros 2) there slots
    ∙ ap (λ (q : ℕ). f ++ (field 2 q ++ (slot_bytes q (drop i im.items) ++ tail))) to-is

-- the new image's header
pub inserted_header : (im : Image) (i : ℕ) (item : List ℕ) (lsn slots shape low : ℕ) (h : Header) → IsImage im → CanInsert im i item → h ≡ header_of im
    → slots ≡ h.slots + 1 → shape ≡ cond (is_inner h.kind) lsn h.structure → low ≡ h.low - length item
    → ◌≡◌ {A = Header} (record h { slots = slots; lsn = lsn; structure = shape; low = low }) (header_of (inserted im i item lsn))
inserted_header im i item lsn slots shape low h good can same count shape-is low-is =
    let s : Sizes im i = sizes im i good can.place in
    let kind : h.kind ≡ im.kind = ap (λ (q : Header). q.kind) same in
    let old : h.structure ≡ im.structure = ap (λ (q : Header). q.structure) same in
    let whole : length (packed (insert im.items i item)) ≡ length (packed im.items) + length item =
    ap (λ (q : List ℕ). length q) (packed-append (take i im.items) (item ∷ drop i im.items)) ∙ length-append (packed (drop i im.items) ++ item) (packed (take i im.items)) ∙ omega (arith, length-append (packed (drop i im.items)) item, s.all) in
    same_headers (record h { slots = slots; lsn = lsn; structure = shape; low = low }) (header_of (inserted im i item lsn))
    kind
    (count ∙ ap (λ (q : Header). q.slots + 1) same ∙ sym (length-insert im.items i item can.place))
    (ap (λ (q : Header). q.page) same)
    refl
    (shape-is ∙ ap (λ k. cond (is_inner k) lsn h.structure) kind ∙ ap (λ (q : ℕ). cond (is_inner im.kind) lsn q) old)
    (ap (λ (q : Header). q.next) same)
    (low-is ∙ ap (λ (q : ℕ). q - length item) (low_is im h can.slotted same) ∙ omega (arith, whole) ∙ ap (λ (b : Bool). cond b (4096 - length (packed (insert im.items i item))) 0) (sym can.slotted))
    (ap (λ (q : Header). q.level) same)

-- when the header is written too
pub inserted_bytes : (im : Image) (i : ℕ) (item : List ℕ) (lsn : ℕ) (h : Header) (bytes new : List ℕ) → IsImage im → CanInsert im i item
    → bytes ≡ front im i ++ (field 2 (edge im i - length item) ++ (slot_bytes (edge im i - length item) (drop i im.items) ++ (zeros (left im item) ++ (packed (drop i im.items) ++ (item ++ packed (take i im.items))))))
    → h ≡ header_of (inserted im i item lsn) → new ≡ header_bytes h ++ drop 32 bytes → new ≡ page_bytes (inserted im i item lsn)
inserted_bytes im i item lsn h bytes new good can parts same written =
    let done : Image = inserted im i item lsn in
    let a : List ℕ = slot_bytes 4096 (take i im.items) in
    let sx : List ℕ = field 2 (edge im i - length item) in
    let sb : List ℕ = slot_bytes (edge im i - length item) (drop i im.items) in
    let pb : List ℕ = packed (drop i im.items) in
    let pa : List ℕ = packed (take i im.items) in
    let tail : List ℕ = sx ++ (sb ++ (zeros (left im item) ++ (pb ++ (item ++ pa)))) in
    let rest : drop 32 bytes ≡ a ++ tail =
    ap (drop 32) (parts ∙ append_assoc (header_bytes (header_of im)) a tail) ∙ drop_at (header_bytes (header_of im)) (a ++ tail) 32 (length-header_bytes (header_of im)) in
    let free : left im item ≡ 4064 - used (insert im.items i item) = omega (arith, sum_by-insert (λ (x : List ℕ). length x + 2) im.items i item) in
    written
    ∙ ap (λ (q : List ℕ). header_bytes h ++ q) rest
    ∙ ap (λ (q : Header). header_bytes q ++ (a ++ tail)) same
    ∙ ap (λ (q : List ℕ). header_bytes (header_of done) ++ q) (group_done a sx sb (zeros (left im item)) pb item pa)
    ∙ ap (λ (q : ℕ). header_bytes (header_of done) ++ (a ++ ((sx ++ sb) ++ (zeros q ++ ((pb ++ item) ++ pa))))) free
    ∙ sym (page_parts done (take i im.items) (item ∷ drop i im.items) can.slotted refl)

-- there is room for the item below the place
pub insert_fits : (im : Image) (i : ℕ) (item : List ℕ) (low to : ℕ) → IsImage im → CanInsert im i item → low ≡ 4096 - length (packed im.items) → to ≡ edge im i → (low - length item + length item ≤ to) × (length item ≤ to)
insert_fits im i item low to good can low-is to-is =
    let s : Sizes im i = sizes im i good can.place in
    let room : length item + 2 ≤ 4064 - used im.items = insert_room im i item can in
    (omega (arith, s.items, s.all, s.room), omega (arith, s.items, s.all, s.room))

-- what the opening of a slot needs to know
pub slots_ready : (im : Image) (i : ℕ) (item bytes : List ℕ) (at count end to : ℕ) → IsImage im → CanInsert im i item
    → bytes ≡ front im i ++ (slot_bytes (edge im i) (drop i im.items) ++ (zeros 2 ++ (zeros (left im item) ++ (packed (drop i im.items) ++ (item ++ packed (take i im.items))))))
    → at ≡ 32 + 2 * i → count ≡ length im.items - i → end ≡ edge im i → to ≡ edge im i - length item
    → (p s : List ℕ) × (items : List (List ℕ)) × (length p ≡ at) × (length items ≡ count) × (bytes ≡ p ++ (slot_bytes end items ++ s)) × HasSlots (slot_bytes end items) end to items
slots_ready im i item bytes at count end to good can parts place number from-is to-is =
    let s : Sizes im i = sizes im i good can.place in
    let f : List ℕ = front im i in
    let tail : List ℕ = zeros 2 ++ (zeros (left im item) ++ (packed (drop i im.items) ++ (item ++ packed (take i im.items)))) in
    let there : bytes ≡ f ++ (slot_bytes end (drop i im.items) ++ tail) = parts ∙ ap (λ (q : ℕ). f ++ (slot_bytes q (drop i im.items) ++ tail)) (sym from-is) in
    let slots : HasSlots (slot_bytes end (drop i im.items)) end to (drop i im.items) = rw (from-is, to-is) (insert_slots im i item good can) in
    let begins : length f ≡ at = omega (arith, s.before) in
    (f, tail, drop i im.items, begins, length-drop i im.items ∙ sym number, there, slots)
