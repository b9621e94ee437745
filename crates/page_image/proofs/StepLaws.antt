-- What moving, writing and clearing a part of the bytes leaves, by the pieces that stand there.
use Rattle.std.proofs.Common.{◌≡◌, ◌≤◌, ◌<◌, ◌+◌, ◌-◌, ◌*◌, ℕ, List, [], ◌∷◌, ◌++◌, length, take, drop, get_or, refl, sym, ◌∙◌, ap, arith, append_assoc, append-nil, length-append, length-drop}
use Rattle.std.proofs.lemmas.List.{take_at, drop_at, drop-drop, drop-append-le, take-append-drop, drop_more, take_more, length-take-le, take_all, drop_all, take-append-le, take-take}
use lib.Seq.{paste}
use borrow.Rule.Slice.PartMut.{put_mid}
use Rattle.rm_base.specs.Fields.{field, number, with_field}
use Rattle.rm_base.proofs.FieldLaws.{length-field, number-field}
use Rattle.page_image.specs.Image.{zeros}
use Rattle.page_image.specs.Layout.{packed, slot_bytes}
use Rattle.page_image.specs.Moves.{HasSlots}
use Rattle.page_image.proofs.ItemLaws.{length-slot_bytes, packed-append, slot_bytes-append}

-- a write to one of the pieces
pub put_mid_pieces : (at k : ℕ) (p m s new : List ℕ) → length p ≡ at → length m ≡ k → put_mid at k (p ++ (m ++ s)) new ≡ p ++ (new ++ s)
put_mid_pieces at k p m s new begins size =
    ap (λ (q : List ℕ). q ++ (new ++ drop k (drop at (p ++ (m ++ s))))) (take_at p (m ++ s) at begins)
    ∙ ap (λ (q : List ℕ). p ++ (new ++ q)) (ap (drop k) (drop_at p (m ++ s) at begins) ∙ drop_at m s k size)

-- a move of a piece over bytes of which the last, w, stand behind it then
pub paste_pieces : (from to n : ℕ) (p z b w s old now : List ℕ) → now ≡ paste old to (drop from old) n
    → length (p ++ z) ≡ from → length p ≡ to → length b ≡ n → old ≡ (p ++ z) ++ (b ++ s) → drop (to + n) old ≡ w ++ s
    → now ≡ p ++ (b ++ (w ++ s))
paste_pieces from to n p z b w s old now moved ahead begins size parts behind =
    let lifted : take n (drop from old) ≡ b = ap (λ (q : List ℕ). take n (drop from q)) parts ∙ ap (take n) (drop_at (p ++ z) (b ++ s) from ahead) ∙ take_at b s n size in
    let front : take to old ≡ p = ap (take to) (parts ∙ append_assoc p z (b ++ s)) ∙ take_at p (z ++ (b ++ s)) to begins in
    moved
    ∙ ap (λ (q : List ℕ). (q ++ take n (drop from old)) ++ drop (to + n) old) front
    ∙ ap (λ (q : List ℕ). (p ++ q) ++ drop (to + n) old) lifted
    ∙ ap (λ (q : List ℕ). (p ++ b) ++ q) behind
    ∙ append_assoc p b (w ++ s)

behind_pieces : (at n : ℕ) (p zb s old : List ℕ) → old ≡ p ++ (zb ++ s) → length p ≡ at → n ≤ length zb → drop (at + n) old ≡ drop n zb ++ s
behind_pieces at n p zb s old parts begins within =
    ap (drop (at + n)) parts ∙ sym (drop-drop n at (p ++ (zb ++ s))) ∙ ap (drop n) (drop_at p (zb ++ s) at begins) ∙ drop-append-le n zb s within

-- an item put in front of `to`, over free bytes z
pub placed_item : (from to : ℕ) (old mid item part p z b s : List ℕ)
    → mid ≡ paste old from (drop (from + length item) old) (to - (from + length item)) → part ≡ item
    → length p ≡ from → length z ≡ length item → from + length z + length b ≡ to → old ≡ p ++ (z ++ (b ++ s))
    → put_mid (to - length item) (to - (to - length item)) mid part ≡ p ++ (b ++ (item ++ s))
placed_item from to old mid item part p z b s moved written begins room ends parts =
    let n : ℕ = to - (from + length item) in
    let w : List ℕ = drop n (z ++ b) in
    let n_is : length b ≡ n = omega arith in
    let sizes : length (z ++ b) ≡ length z + length b = length-append z b in
    let left : length w ≡ length item = length-drop n (z ++ b) ∙ omega arith in
    let split : old ≡ (p ++ z) ++ (b ++ s) = parts ∙ sym (append_assoc p z (b ++ s)) in
    let joined : old ≡ p ++ ((z ++ b) ++ s) = parts ∙ ap (λ (q : List ℕ). p ++ q) (sym (append_assoc z b s)) in
    let ahead : length (p ++ z) ≡ from + length item = length-append p z ∙ omega arith in
    let behind : drop (from + n) old ≡ w ++ s = behind_pieces from n p (z ++ b) s old joined begins (omega arith) in
    let after : mid ≡ (p ++ b) ++ (w ++ s) =
    paste_pieces (from + length item) from n p z b w s old mid moved ahead begins n_is split behind ∙ sym (append_assoc p b (w ++ s)) in
    let place : length (p ++ b) ≡ to - length item = length-append p b ∙ omega arith in
    ap (λ (q : List ℕ). put_mid (to - length item) (to - (to - length item)) q part) after
    ∙ put_mid_pieces (to - length item) (to - (to - length item)) (p ++ b) w s part place (omega arith)
    ∙ append_assoc p b (part ++ s)
    ∙ ap (λ (q : List ℕ). p ++ (b ++ (q ++ s))) written

-- the first i items take no more than all
packed_part : (items : List (List ℕ)) (i : ℕ) → length (packed (take i items)) ≤ length (packed items)
packed_part items i =
    let whole : length (packed items) ≡ length (packed (drop i items)) + length (packed (take i items)) =
    ap (λ (q : List (List ℕ)). length (packed q)) (sym (take-append-drop i items)) ∙ ap (λ (q : List ℕ). length q) (packed-append (take i items) (drop i items)) ∙ length-append (packed (drop i items)) (packed (take i items)) in
    omega arith

-- one item more
packed_more : (items : List (List ℕ)) (i : ℕ) → i < length items → length (packed (take (i + 1) items)) ≡ length (get_or items i []) + length (packed (take i items))
packed_more items i within =
    ap (λ (q : List (List ℕ)). length (packed q)) (take_more items i [] within) ∙ ap (λ (q : List ℕ). length q) (packed-append (take i items) (get_or items i [] ∷ [])) ∙ length-append (get_or items i []) (packed (take i items))

slot_bytes-more : (end i : ℕ) (items : List (List ℕ)) → i < length items → slot_bytes end (take (i + 1) items) ≡ slot_bytes end (take i items) ++ field 2 (end - length (packed (take (i + 1) items)))
slot_bytes-more end i items within =
    let same : end - length (packed (take i items)) - length (get_or items i []) ≡ end - length (packed (take (i + 1) items)) = omega (arith, packed_more items i within) in
    ap (slot_bytes end) (take_more items i [] within) ∙ slot_bytes-append end (take i items) (get_or items i [] ∷ [])
    ∙ ap (λ (q : List ℕ). slot_bytes end (take i items) ++ q) (append-nil (field 2 (end - length (packed (take i items)) - length (get_or items i []))))
    ∙ ap (λ (q : ℕ). slot_bytes end (take i items) ++ field 2 q) same

slot_bytes-drop : (end i : ℕ) (items : List (List ℕ)) → i < length items
    → slot_bytes (end - length (packed (take i items))) (drop i items) ≡ field 2 (end - length (packed (take (i + 1) items))) ++ slot_bytes (end - length (packed (take (i + 1) items))) (drop (i + 1) items)
slot_bytes-drop end i items within =
    let same : end - length (packed (take i items)) - length (get_or items i []) ≡ end - length (packed (take (i + 1) items)) = omega (arith, packed_more items i within) in
    ap (slot_bytes (end - length (packed (take i items)))) (drop_more items i [] within)
    ∙ ap (λ (q : ℕ). field 2 q ++ slot_bytes q (drop (i + 1) items)) same

-- after i slots
abbrev pub moved_slots : ℕ → ℕ → ℕ → List (List ℕ) → List ℕ
moved_slots from to i items = slot_bytes to (take i items) ++ slot_bytes (from - length (packed (take i items))) (drop i items)

pub moved_none : (from to : ℕ) (items : List (List ℕ)) (start : List ℕ) → HasSlots start from to items → start ≡ moved_slots from to 0 items
moved_none from to items start slots =
    let same : from ≡ from - 0 = omega arith in
    slots.spelled ∙ ap (λ (q : ℕ). slot_bytes q items) same

pub moved_all : (from to i : ℕ) (items : List (List ℕ)) → length items ≤ i → moved_slots from to i items ≡ slot_bytes to items
moved_all from to i items past =
    ap (λ (q : List (List ℕ)). slot_bytes to q ++ slot_bytes (from - length (packed (take i items))) (drop i items)) (take_all i items past)
    ∙ ap (λ (q : List (List ℕ)). slot_bytes to items ++ slot_bytes (from - length (packed (take i items))) q) (drop_all i items past)
    ∙ append-nil (slot_bytes to items)

-- slot i before it is moved
pub slot_read : (from to i : ℕ) (items : List (List ℕ)) (start now : List ℕ) → HasSlots start from to items → i < length items → now ≡ moved_slots from to i items
    → number 2 (drop (2 * i) now) ≡ from - length (packed (take (i + 1) items))
slot_read from to i items start now slots within before =
    let place : ℕ = from - length (packed (take (i + 1) items)) in
    let tail : List ℕ = slot_bytes place (drop (i + 1) items) in
    let front : length (slot_bytes to (take i items)) ≡ 2 * i = length-slot_bytes to (take i items) ∙ ap (λ (q : ℕ). 2 * q) (length-take-le i items (omega arith)) in
    ap (λ (q : List ℕ). number 2 (drop (2 * i) q)) before
    ∙ ap (number 2) (drop_at (slot_bytes to (take i items)) (slot_bytes (from - length (packed (take i items))) (drop i items)) (2 * i) front)
    ∙ ap (number 2) (slot_bytes-drop from i items within)
    ∙ number-field 2 place tail (omega (arith, slots.in_page))

-- and so many slots there are
pub slots_there : (from to : ℕ) (items : List (List ℕ)) (start : List ℕ) → HasSlots start from to items → length start ≡ 2 * length items
slots_there from to items start slots = ap (λ (q : List ℕ). length q) slots.spelled ∙ length-slot_bytes from items

-- the place goes up before it goes down
pub slot_goes : (from to i place : ℕ) (items : List (List ℕ)) (start : List ℕ) → HasSlots start from to items → place ≡ from - length (packed (take (i + 1) items))
    → (from ≤ place + to) × (place + to - from ≡ to - length (packed (take (i + 1) items))) × (place ≤ 4096)
slot_goes from to i place items start slots e =
    let part : length (packed (take (i + 1) items)) ≤ length (packed items) = packed_part items (i + 1) in
    (omega (arith, slots.room, slots.new_room), omega (arith, slots.room, slots.new_room), omega (arith, slots.in_page))

-- one slot more is moved
pub moved_more : (from to i place : ℕ) (items : List (List ℕ)) (start now : List ℕ) → HasSlots start from to items → i < length items → now ≡ moved_slots from to i items → place ≡ from - length (packed (take (i + 1) items))
    → with_field 2 now (2 * i) (place + to - from) ≡ moved_slots from to (i + 1) items
moved_more from to i place items start now slots within before read =
    let new : ℕ = to - length (packed (take (i + 1) items)) in
    let old : ℕ = from - length (packed (take (i + 1) items)) in
    let done : List ℕ = slot_bytes to (take i items) in
    let tail : List ℕ = slot_bytes old (drop (i + 1) items) in
    let front : length done ≡ 2 * i = length-slot_bytes to (take i items) ∙ ap (λ (q : ℕ). 2 * q) (length-take-le i items (omega arith)) in
    let parts : now ≡ done ++ (field 2 old ++ tail) = before ∙ ap (λ (q : List ℕ). done ++ q) (slot_bytes-drop from i items within) in
    let behind : drop (2 * i + 2) now ≡ tail =
    ap (drop (2 * i + 2)) parts ∙ sym (drop-drop 2 (2 * i) (done ++ (field 2 old ++ tail))) ∙ ap (drop 2) (drop_at done (field 2 old ++ tail) (2 * i) front) ∙ drop_at (field 2 old) tail 2 (length-field 2 old) in
    let head : take (2 * i) now ≡ done = ap (take (2 * i)) parts ∙ take_at done (field 2 old ++ tail) (2 * i) front in
    ap (λ (q : ℕ). with_field 2 now (2 * i) q) ((slot_goes from to i place items start slots read).1)
    ∙ ap (λ (q : List ℕ). q ++ (field 2 new ++ drop (2 * i + 2) now)) head
    ∙ ap (λ (q : List ℕ). done ++ (field 2 new ++ q)) behind
    ∙ sym (append_assoc done (field 2 new) tail)
    ∙ ap (λ (q : List ℕ). q ++ tail) (sym (slot_bytes-more to i items within))

-- a piece b of n bytes moved up by two
pub moved_up : (at n : ℕ) (p b s old mid : List ℕ) → mid ≡ paste old (at + 2) (drop at old) (at + n - at) → length p ≡ at → length b ≡ n → old ≡ p ++ (b ++ s)
    → mid ≡ take (at + 2) old ++ (b ++ drop (at + 2 + n) old)
moved_up at n p b s old mid moved begins size parts =
    let same : at + n - at ≡ n = omega arith in
    let lifted : take n (drop at old) ≡ b = ap (λ (q : List ℕ). take n (drop at q)) parts ∙ ap (take n) (drop_at p (b ++ s) at begins) ∙ take_at b s n size in
    moved
    ∙ ap (λ (q : ℕ). (take (at + 2) old ++ take q (drop at old)) ++ drop (at + 2 + q) old) same
    ∙ ap (λ (q : List ℕ). (take (at + 2) old ++ q) ++ drop (at + 2 + n) old) lifted
    ∙ append_assoc (take (at + 2) old) b (drop (at + 2 + n) old)

-- the part that holds it then
pub lifted_part : (at n : ℕ) (b old mid : List ℕ) → mid ≡ take (at + 2) old ++ (b ++ drop (at + 2 + n) old) → at + n + 2 ≤ length old → length b ≡ n
    → take (at + n + 2 - (at + 2)) (drop (at + 2) mid) ≡ b
lifted_part at n b old mid parts within size =
    let front : length (take (at + 2) old) ≡ at + 2 = length-take-le (at + 2) old (omega arith) in
    ap (λ (q : List ℕ). take (at + n + 2 - (at + 2)) (drop (at + 2) q)) parts
    ∙ ap (take (at + n + 2 - (at + 2))) (drop_at (take (at + 2) old) (b ++ drop (at + 2 + n) old) (at + 2) front)
    ∙ take_at b (drop (at + 2 + n) old) (at + n + 2 - (at + 2)) (omega arith)

-- a slot put in front of others that were moved up and changed to `new`
pub opened_slot : (at n to : ℕ) (p b g s new old mid now : List ℕ)
    → mid ≡ take (at + 2) old ++ (b ++ drop (at + 2 + n) old)
    → now ≡ with_field 2 (put_mid (at + 2) (at + n + 2 - (at + 2)) mid new) at to
    → length p ≡ at → length b ≡ n → length g ≡ 2 → old ≡ p ++ (b ++ (g ++ s))
    → now ≡ p ++ (field 2 to ++ (new ++ s))
opened_slot at n to p b g s new old mid now lifted written begins size gap parts =
    let w : List ℕ = take (at + 2) old in
    let joined : old ≡ p ++ ((b ++ g) ++ s) = parts ∙ ap (λ (q : List ℕ). p ++ q) (sym (append_assoc b g s)) in
    let long : length old ≡ at + n + 2 + length s = ap (λ (q : List ℕ). length q) joined ∙ length-append p ((b ++ g) ++ s) ∙ omega (arith, length-append (b ++ g) s, length-append b g) in
    let front : length w ≡ at + 2 = length-take-le (at + 2) old (omega arith) in
    let same : at + 2 + n ≡ at + (n + 2) = omega arith in
    let behind : drop (at + 2 + n) old ≡ s =
    ap (λ (q : ℕ). drop q old) same ∙ behind_pieces at (n + 2) p (b ++ g) s old joined begins (omega (arith, length-append b g))
    ∙ ap (λ (q : List ℕ). q ++ s) (drop_all (n + 2) (b ++ g) (omega (arith, length-append b g))) in
    let parted : put_mid (at + 2) (at + n + 2 - (at + 2)) mid new ≡ w ++ (new ++ s) =
    ap (λ (q : List ℕ). put_mid (at + 2) (at + n + 2 - (at + 2)) q new) lifted
    ∙ put_mid_pieces (at + 2) (at + n + 2 - (at + 2)) w b (drop (at + 2 + n) old) new front (omega arith)
    ∙ ap (λ (q : List ℕ). w ++ (new ++ q)) behind in
    let start : take at (w ++ (new ++ s)) ≡ p =
    take-append-le at w (new ++ s) (omega arith) ∙ take-take at (at + 2) old (omega arith) ∙ ap (take at) parts ∙ take_at p (b ++ (g ++ s)) at begins in
    written
    ∙ ap (λ (q : List ℕ). with_field 2 q at to) parted
    ∙ ap (λ (q : List ℕ). q ++ (field 2 to ++ drop (at + 2) (w ++ (new ++ s)))) start
    ∙ ap (λ (q : List ℕ). p ++ (field 2 to ++ q)) (drop_at w (new ++ s) (at + 2) front)

-- a piece made zero
pub cleared : (from to : ℕ) (old now part p m s : List ℕ) → part ≡ zeros (length (take (to - from) (drop from old))) → now ≡ put_mid from (to - from) old part
    → length p ≡ from → from + length m ≡ to → old ≡ p ++ (m ++ s) → now ≡ p ++ (zeros (length m) ++ s)
cleared from to old now part p m s zero written begins ends parts =
    let size : length m ≡ to - from = omega arith in
    let piece : take (to - from) (drop from old) ≡ m = ap (λ (q : List ℕ). take (to - from) (drop from q)) parts ∙ ap (take (to - from)) (drop_at p (m ++ s) from begins) ∙ take_at m s (to - from) size in
    written
    ∙ ap (λ (q : List ℕ). put_mid from (to - from) q part) parts
    ∙ put_mid_pieces from (to - from) p m s part begins size
    ∙ ap (λ (q : List ℕ). p ++ (q ++ s)) (zero ∙ ap (λ (q : List ℕ). zeros (length q)) piece)

-- an item x below which b stands, taken away, and b moved up over it
pub taken_item : (from to size : ℕ) (old mid now part p b x s : List ℕ)
    → mid ≡ paste old (from + size) (drop from old) (to - size - from)
    → part ≡ zeros (length (take (from + size - from) (drop from mid)))
    → now ≡ put_mid from (from + size - from) mid part
    → length p ≡ from → length x ≡ size → from + length b + length x ≡ to → old ≡ p ++ (b ++ (x ++ s)) → now ≡ p ++ (zeros size ++ (b ++ s))
taken_item from to size old mid now part p b x s moved zero written begins item ends parts =
    let n : ℕ = to - size - from in
    let n_is : length b ≡ n = omega arith in
    let w : List ℕ = take (from + size) old in
    let joined : old ≡ p ++ ((b ++ x) ++ s) = parts ∙ ap (λ (q : List ℕ). p ++ q) (sym (append_assoc b x s)) in
    let long : length old ≡ from + length b + size + length s = ap (λ (q : List ℕ). length q) joined ∙ length-append p ((b ++ x) ++ s) ∙ omega (arith, length-append (b ++ x) s, length-append b x) in
    let lifted : take n (drop from old) ≡ b = ap (λ (q : List ℕ). take n (drop from q)) parts ∙ ap (take n) (drop_at p (b ++ (x ++ s)) from begins) ∙ take_at b (x ++ s) n n_is in
    let same : from + size + n ≡ from + (size + n) = omega arith in
    let behind : drop (from + size + n) old ≡ s =
    ap (λ (q : ℕ). drop q old) same ∙ behind_pieces from (size + n) p (b ++ x) s old joined begins (omega (arith, length-append b x))
    ∙ ap (λ (q : List ℕ). q ++ s) (drop_all (size + n) (b ++ x) (omega (arith, length-append b x))) in
    let after : mid ≡ w ++ (b ++ s) =
    moved ∙ ap (λ (q : List ℕ). (w ++ q) ++ drop (from + size + n) old) lifted ∙ ap (λ (q : List ℕ). (w ++ b) ++ q) behind ∙ append_assoc w b s in
    let width : length w ≡ from + size = length-take-le (from + size) old (omega arith) in
    let start : take from w ≡ p = take-take from (from + size) old (omega arith) ∙ ap (take from) parts ∙ take_at p (b ++ (x ++ s)) from begins in
    let gap : List ℕ = drop from w in
    let gap_is : length gap ≡ size = length-drop from w ∙ omega arith in
    let split : mid ≡ p ++ (gap ++ (b ++ s)) =
    after ∙ ap (λ (q : List ℕ). q ++ (b ++ s)) (sym (take-append-drop from w)) ∙ ap (λ (q : List ℕ). (q ++ gap) ++ (b ++ s)) start ∙ append_assoc p gap (b ++ s) in
    cleared from (from + size) mid now part p gap (b ++ s) zero written begins (omega arith) split
    ∙ ap (λ (q : ℕ). p ++ (zeros q ++ (b ++ s))) gap_is

-- the part that slots b take when they moved down by two
pub lowered : (at n : ℕ) (p g b s old mid : List ℕ) → mid ≡ paste old at (drop (at + 2) old) (at + n + 2 - (at + 2)) → length p ≡ at → length g ≡ 2 → length b ≡ n → old ≡ p ++ (g ++ (b ++ s))
    → mid ≡ p ++ (b ++ (drop n (g ++ b) ++ s))
lowered at n p g b s old mid moved begins gap size parts =
    let same : length b ≡ at + n + 2 - (at + 2) = omega arith in
    let less : at + n + 2 - (at + 2) ≡ n = omega arith in
    let joined : old ≡ p ++ ((g ++ b) ++ s) = parts ∙ ap (λ (q : List ℕ). p ++ q) (sym (append_assoc g b s)) in
    let split : old ≡ (p ++ g) ++ (b ++ s) = parts ∙ sym (append_assoc p g (b ++ s)) in
    let behind : drop (at + (at + n + 2 - (at + 2))) old ≡ drop n (g ++ b) ++ s =
    ap (λ (q : ℕ). drop (at + q) old) less ∙ behind_pieces at n p (g ++ b) s old joined begins (omega (arith, length-append g b)) in
    paste_pieces (at + 2) at (at + n + 2 - (at + 2)) p g b (drop n (g ++ b)) s old mid moved (length-append p g ∙ omega arith) begins same split behind

pub lowered_part : (at n : ℕ) (p b w mid : List ℕ) → mid ≡ p ++ (b ++ w) → length p ≡ at → length b ≡ n → take (at + n - at) (drop at mid) ≡ b
lowered_part at n p b w mid parts begins size =
    ap (λ (q : List ℕ). take (at + n - at) (drop at q)) parts ∙ ap (take (at + n - at)) (drop_at p (b ++ w) at begins) ∙ take_at b w (at + n - at) (omega arith)

field-zero : field 2 0 ≡ zeros 2
unfolding field zeros
field-zero = refl

-- slots that moved down and changed to `new`, with zero bytes behind them
pub closed_slot : (at n : ℕ) (p g b s new old mid now : List ℕ)
    → mid ≡ p ++ (b ++ (drop n (g ++ b) ++ s))
    → now ≡ with_field 2 (put_mid at (at + n - at) mid new) (at + n) 0
    → length p ≡ at → length g ≡ 2 → length b ≡ n → length new ≡ n
    → now ≡ p ++ (new ++ (zeros 2 ++ s))
closed_slot at n p g b s new old mid now parts written begins gap size kept =
    let w : List ℕ = drop n (g ++ b) in
    let w_is : length w ≡ 2 = length-drop n (g ++ b) ∙ omega (arith, length-append g b) in
    let place : length (p ++ new) ≡ at + n = length-append p new ∙ omega arith in
    let parted : put_mid at (at + n - at) mid new ≡ (p ++ new) ++ (w ++ s) =
    ap (λ (q : List ℕ). put_mid at (at + n - at) q new) parts ∙ put_mid_pieces at (at + n - at) p b (w ++ s) new begins (omega arith) ∙ sym (append_assoc p new (w ++ s)) in
    let front : take (at + n) ((p ++ new) ++ (w ++ s)) ≡ p ++ new = take_at (p ++ new) (w ++ s) (at + n) place in
    let behind : drop (at + n + 2) ((p ++ new) ++ (w ++ s)) ≡ s =
    sym (drop-drop 2 (at + n) ((p ++ new) ++ (w ++ s))) ∙ ap (drop 2) (drop_at (p ++ new) (w ++ s) (at + n) place) ∙ drop_at w s 2 w_is in
    written
    ∙ ap (λ (q : List ℕ). with_field 2 q (at + n) 0) parted
    ∙ ap (λ (q : List ℕ). q ++ (field 2 0 ++ drop (at + n + 2) ((p ++ new) ++ (w ++ s)))) front
    ∙ ap (λ (q : List ℕ). (p ++ new) ++ (field 2 0 ++ q)) behind
    ∙ ap (λ (q : List ℕ). (p ++ new) ++ (q ++ s)) field-zero
    ∙ append_assoc p new (zeros 2 ++ s)

-- new bytes in a piece's place
pub overwritten : (at n : ℕ) (old now part new p m s : List ℕ) → part ≡ new → now ≡ put_mid at (at + n - at) old part → n ≡ length new → length p ≡ at → length m ≡ length new → old ≡ p ++ (m ++ s) → now ≡ p ++ (new ++ s)
overwritten at n old now part new p m s same written size begins piece parts =
    written
    ∙ ap (λ (q : List ℕ). put_mid at (at + n - at) q part) parts
    ∙ put_mid_pieces at (at + n - at) p m s part begins (omega arith)
    ∙ ap (λ (q : List ℕ). p ++ (q ++ s)) same
