-- Slots and items: their lengths, their parts, and that they are read back.
use Rattle.std.proofs.Common.{◌≡◌, ◌<◌, ◌+◌, ◌-◌, ◌*◌, ◌^◌, ℕ, List, [], ◌∷◌, ◌++◌, length, take, drop, slice_range, refl, sym, ◌∙◌, ap, arith, append_assoc, append-nil, length-append}
use Rattle.std.proofs.lemmas.List.{take_at, drop_at}
use Rattle.std.proofs.lemmas.List.Sums.{sum_by-cons}
use Rattle.rm_base.specs.Fields.{field, number}
use Rattle.rm_base.proofs.FieldLaws.{length-field, number-field}
use Rattle.page_image.specs.Image.{used}
use Rattle.page_image.specs.Layout.{packed, slot_bytes, items_at}

-- the part of joined lists that one of them is
pub between_pieces : (from to : ℕ) (p m s : List ℕ) → length p ≡ from → length p + length m ≡ to → slice_range (p ++ (m ++ s)) from to ≡ m
between_pieces from to p m s begins ends =
    ap (λ (q : List ℕ). take (to - from) q) (drop_at p (m ++ s) from begins) ∙ take_at m s (to - from) (omega arith)

-- the room that items take is their bytes and two for each slot
pub used_is : (items : List (List ℕ)) → used items ≡ length (packed items) + 2 * length items
used_is [] = refl
used_is (item ∷ items) =
    sum_by-cons (λ (x : List ℕ). length x + 2) item items ∙ omega (arith, used_is items, length-append (packed items) item)

pub length-slot_bytes : (end : ℕ) (items : List (List ℕ)) → length (slot_bytes end items) ≡ 2 * length items
length-slot_bytes end [] = refl
length-slot_bytes end (item ∷ items) =
    omega (arith, length-append (field 2 (end - length item)) (slot_bytes (end - length item) items), length-field 2 (end - length item), length-slot_bytes (end - length item) items)

-- later items lie below earlier ones
pub packed-append : (xs ys : List (List ℕ)) → packed (xs ++ ys) ≡ packed ys ++ packed xs
packed-append [] ys = sym (append-nil (packed ys))
packed-append (x ∷ xs) ys = ap (λ (q : List ℕ). q ++ x) (packed-append xs ys) ∙ append_assoc (packed ys) (packed xs) x

pub slot_bytes-append : (end : ℕ) (xs ys : List (List ℕ)) → slot_bytes end (xs ++ ys) ≡ slot_bytes end xs ++ slot_bytes (end - length (packed xs)) ys
slot_bytes-append end [] ys = let same : end ≡ end - 0 = omega arith in ap (λ (q : ℕ). slot_bytes q ys) same
slot_bytes-append end (x ∷ xs) ys =
    let same : (end - length x) - length (packed xs) ≡ end - length (packed xs ++ x) = omega (arith, length-append (packed xs) x) in
    ap (λ (q : List ℕ). field 2 (end - length x) ++ q) (slot_bytes-append (end - length x) xs ys)
    ∙ sym (append_assoc (field 2 (end - length x)) (slot_bytes (end - length x) xs) (slot_bytes ((end - length x) - length (packed xs)) ys))
    ∙ ap (λ (q : ℕ). (field 2 (end - length x) ++ slot_bytes (end - length x) xs) ++ slot_bytes q ys) same

-- the slot of an item between others holds its offset
pub slot-between : (end : ℕ) (xs : List (List ℕ)) (x : List ℕ) (ys : List (List ℕ)) (rest : List ℕ) → end < 2 ^ 16
    → number 2 (drop (2 * length xs) (slot_bytes end (xs ++ x ∷ ys) ++ rest)) ≡ end - length (packed (xs ++ x ∷ []))
slot-between end xs x ys rest small =
    let place : ℕ = end - length (packed xs) - length x in
    let tail : List ℕ = slot_bytes place ys ++ rest in
    let parts : slot_bytes end (xs ++ x ∷ ys) ++ rest ≡ slot_bytes end xs ++ (field 2 place ++ tail) =
    ap (λ (q : List ℕ). q ++ rest) (slot_bytes-append end xs (x ∷ ys))
    ∙ append_assoc (slot_bytes end xs) (field 2 place ++ slot_bytes place ys) rest
    ∙ ap (λ (q : List ℕ). slot_bytes end xs ++ q) (append_assoc (field 2 place) (slot_bytes place ys) rest) in
    let there : drop (2 * length xs) (slot_bytes end (xs ++ x ∷ ys) ++ rest) ≡ field 2 place ++ tail =
    ap (drop (2 * length xs)) parts ∙ drop_at (slot_bytes end xs) (field 2 place ++ tail) (2 * length xs) (length-slot_bytes end xs) in
    let bytes : length (packed (xs ++ x ∷ [])) ≡ length x + length (packed xs) =
    ap (λ (q : List ℕ). length q) (packed-append xs (x ∷ [])) ∙ length-append x (packed xs) in
    ap (number 2) there ∙ number-field 2 place tail (omega arith) ∙ omega arith

-- items are read back from their slots and bytes
pub items_at-slot_bytes : (end : ℕ) (items : List (List ℕ)) (bytes p s rest : List ℕ) → end < 2 ^ 16
    → bytes ≡ p ++ (packed items ++ s) → length p + length (packed items) ≡ end
    → items_at (length items) end (slot_bytes end items ++ rest) bytes ≡ items
items_at-slot_bytes end [] bytes p s rest small parts ends = refl
items_at-slot_bytes end (item ∷ items) bytes p s rest small parts ends =
    let place : ℕ = end - length item in
    let sizes : length (packed items ++ item) ≡ length (packed items) + length item = length-append (packed items) item in
    let slots : slot_bytes end (item ∷ items) ++ rest ≡ field 2 place ++ (slot_bytes place items ++ rest) =
    append_assoc (field 2 place) (slot_bytes place items) rest in
    let first : number 2 (slot_bytes end (item ∷ items) ++ rest) ≡ place =
    ap (number 2) slots ∙ number-field 2 place (slot_bytes place items ++ rest) (omega arith) in
    let later : drop 2 (slot_bytes end (item ∷ items) ++ rest) ≡ slot_bytes place items ++ rest =
    ap (drop 2) slots ∙ drop_at (field 2 place) (slot_bytes place items ++ rest) 2 (length-field 2 place) in
    let moved : bytes ≡ p ++ (packed items ++ (item ++ s)) = parts ∙ ap (λ (q : List ℕ). p ++ q) (append_assoc (packed items) item s) in
    let split : bytes ≡ (p ++ packed items) ++ (item ++ s) = moved ∙ sym (append_assoc p (packed items) (item ++ s)) in
    let before : length (p ++ packed items) ≡ place = length-append p (packed items) ∙ omega arith in
    let here : slice_range bytes place end ≡ item =
    ap (λ (q : List ℕ). slice_range q place end) split ∙ between_pieces place end (p ++ packed items) item s before (omega arith) in
    ap (λ (q : ℕ). slice_range bytes q end ∷ items_at (length items) q (drop 2 (slot_bytes end (item ∷ items) ++ rest)) bytes) first
    ∙ ap (λ (q : List ℕ). slice_range bytes place end ∷ items_at (length items) place q bytes) later
    ∙ ap (λ (q : List (List ℕ)). slice_range bytes place end ∷ q) (items_at-slot_bytes place items bytes p (item ++ s) rest (omega arith) moved (omega arith))
    ∙ ap (λ (q : List ℕ). q ∷ items) here
