-- What is read as a leaf item is its one spelling.
use Rattle.std.proofs.Common.{◌≡◌, ◌≤◌, ◌+◌, ◌-◌, ◌==◌, ℕ, suc, Bool, true, false, List, [], ◌∷◌, ◌++◌, length, take, drop, slice_index, refl, sym, ◌∙◌, ap, subst, arith, append_assoc, length-append, length-drop, if◌then◌else◌}
use Rattle.std.proofs.lemmas.Bool.Decides.{nat_tests}
use Rattle.std.proofs.lemmas.List.{length-take-le}
use Rattle.std.proofs.Math.Seq.{take-append_seam, drop-append_seam}
use Rattle.rm_base.specs.Fields.{field, number, AreBytes}
use Rattle.rm_base.proofs.FieldLaws.{length-field, number-field}
use Rattle.page_view.specs.declared.leaf.LeafItem.{LeafItem}
use Rattle.page_view.specs.Leaf.{leaf_bytes, leaf_of, IsLeaf, HoldsLeaf, OneLeaf}
use Rattle.page_view.proofs.FieldParts.{split_field, split_byte, split_part, field-lt, past_field}

flag_is : (f : ℕ) → f ≤ 1 → (if f == 1 then 1 else 0) ≡ f
flag_is f h = grind (arith, nat_tests)

-- bytes that spell a leaf item spell the one that is read
pub leaf_reads : (item : List ℕ) → AreBytes item → HoldsLeaf item → IsLeaf (leaf_of item) × (item ≡ leaf_bytes (leaf_of item))
leaf_reads item bs h =
    let k : ℕ = slice_index item 0 in
    let long = h.long in
    let inside : k ≤ length (drop 1 item) = rw length-drop (omega arith) in
    let exact : length (take k (drop 1 item)) ≡ k = length-take-le k (drop 1 item) inside in
    let value : length (drop (16 + k) item) ≡ length item - (16 + k) = length-drop (16 + k) item in
    let older_page = field-lt 4 (10 + k) item bs in
    let older_slot = field-lt 2 (14 + k) item bs in
    let is : IsLeaf (leaf_of item) = record {
      short_key = subst (λ (n : ℕ). n ≤ 64) (sym exact) h.short_key;
      short = (let short = h.short in omega (arith, exact, value));
      trx = field-lt 8 (2 + k) item bs;
      older_page = older_page;
      older_slot = older_slot;
    } in
    let e0 : item ≡ k ∷ drop 1 item = split_byte 0 1 item refl (omega arith) in
    let e1 : drop 1 item ≡ take k (drop 1 item) ++ drop (1 + k) item = split_part k 1 (1 + k) item refl in
    let e2 : drop (1 + k) item ≡ slice_index item (1 + k) ∷ drop (2 + k) item = split_byte (1 + k) (2 + k) item (omega arith) (omega arith) in
    let e3 : drop (2 + k) item ≡ field 8 (number 8 (drop (2 + k) item)) ++ drop (10 + k) item = split_field 8 (2 + k) (10 + k) item bs (omega arith) (omega arith) in
    let e4 : drop (10 + k) item ≡ field 4 (number 4 (drop (10 + k) item)) ++ drop (14 + k) item = split_field 4 (10 + k) (14 + k) item bs (omega arith) (omega arith) in
    let e5 : drop (14 + k) item ≡ field 2 (number 2 (drop (14 + k) item)) ++ drop (16 + k) item = split_field 2 (14 + k) (16 + k) item bs (omega arith) (omega arith) in
    let flag : slice_index item (1 + k) ≡ (if slice_index item (1 + k) == 1 then 1 else 0) = sym (flag_is (slice_index item (1 + k)) h.flag) in (
      is,
      e0 ∙ ap (λ (q : List ℕ). k ∷ q) (e1 ∙ ap (λ (q : List ℕ). take k (drop 1 item) ++ q)
          (e2 ∙ ap (λ (q : List ℕ). slice_index item (1 + k) ∷ q)
          (e3 ∙ ap (λ (q : List ℕ). field 8 (number 8 (drop (2 + k) item)) ++ q)
          (e4 ∙ ap (λ (q : List ℕ). field 4 (number 4 (drop (10 + k) item)) ++ q) e5))
          ∙ ap (λ (f : ℕ). f ∷ (field 8 (number 8 (drop (2 + k) item)) ++ (field 4 (number 4 (drop (10 + k) item)) ++ (field 2 (number 2 (drop (14 + k) item)) ++ drop (16 + k) item)))) flag))
          ∙ ap (λ (n : ℕ). n ∷ (take k (drop 1 item) ++ ((if slice_index item (1 + k) == 1 then 1 else 0) ∷ (field 8 (number 8 (drop (2 + k) item)) ++ (field 4 (number 4 (drop (10 + k) item)) ++ (field 2 (number 2 (drop (14 + k) item)) ++ drop (16 + k) item)))))) (sym exact),
    )

flag_of : Bool → ℕ
flag_of b = if b then 1 else 0

flag_le : (b : Bool) → (if b then 1 else 0) ≤ 1
flag_le true = omega arith
flag_le false = omega arith

flag_back : (b : Bool) → ((if b then 1 else 0) == 1) ≡ b
flag_back true = refl
flag_back false = refl

-- what stands at a place behind a part
at_seam : (xs : List ℕ) (y : ℕ) (ys : List ℕ) → slice_index (xs ++ (y ∷ ys)) (length xs) ≡ y
at_seam [] y ys = refl
at_seam (x ∷ xs) y ys = at_seam xs y ys

-- the bytes of a leaf item within its limits spell one
pub leaf_holds : (leaf : LeafItem) → IsLeaf leaf → HoldsLeaf (leaf_bytes leaf)
leaf_holds leaf is =
    let k : ℕ = length leaf.key in
    let f : ℕ = if leaf.deleted then 1 else 0 in
    let slot : List ℕ = field 2 leaf.older.slot ++ leaf.value in
    let page : List ℕ = field 4 leaf.older.page ++ slot in
    let trx : List ℕ = field 8 leaf.trx ++ page in
    let whole : length (leaf_bytes leaf) ≡ 16 + k + length leaf.value =
    simp (length-append, length-field) (omega arith) in
    let one : 1 + k ≡ suc k = omega arith in
    let flag : slice_index (leaf_bytes leaf) (1 + k) ≡ f = ap (slice_index (leaf_bytes leaf)) one ∙ at_seam leaf.key f trx in
    let short = is.short in
    record {
      short_key = is.short_key;
      long = omega (arith, whole);
      short = omega (arith, whole, short);
      flag = subst (λ (n : ℕ). n ≤ 1) (sym flag) (flag_le leaf.deleted);
    }

-- the leaf item that is read from its bytes is it again
pub leaf_back : (leaf : LeafItem) → IsLeaf leaf → leaf_of (leaf_bytes leaf) ≡ leaf
leaf_back leaf is =
    let k : ℕ = length leaf.key in
    let f : ℕ = if leaf.deleted then 1 else 0 in
    let slot : List ℕ = field 2 leaf.older.slot ++ leaf.value in
    let page : List ℕ = field 4 leaf.older.page ++ slot in
    let trx : List ℕ = field 8 leaf.trx ++ page in
    let item : List ℕ = leaf_bytes leaf in
    let one : 1 + k ≡ suc k = omega arith in
    let two : 2 + k ≡ suc (k + 1) = omega arith in
    let key : take k (drop 1 item) ≡ leaf.key = take-append_seam leaf.key (f ∷ trx) in
    let flag : (slice_index item (1 + k) == 1) ≡ leaf.deleted =
    ap (λ (n : ℕ). slice_index item n == 1) one ∙ ap (λ (n : ℕ). n == 1) (at_seam leaf.key f trx) ∙ flag_back leaf.deleted in
    let grouped : leaf.key ++ (f ∷ trx) ≡ (leaf.key ++ (f ∷ [])) ++ trx = sym (append_assoc leaf.key (f ∷ []) trx) in
    let front : length (leaf.key ++ (f ∷ [])) ≡ k + 1 = length-append leaf.key (f ∷ []) in
    let d2 : drop (2 + k) item ≡ trx =
    ap (λ (n : ℕ). drop n item) two ∙ ap (drop (k + 1)) grouped ∙ ap (λ (n : ℕ). drop n ((leaf.key ++ (f ∷ [])) ++ trx)) (sym front)
    ∙ drop-append_seam (leaf.key ++ (f ∷ [])) trx in
    let d10 : drop (10 + k) item ≡ page = past_field 8 (2 + k) (10 + k) leaf.trx item page (omega arith) d2 in
    let d14 : drop (14 + k) item ≡ slot = past_field 4 (10 + k) (14 + k) leaf.older.page item slot (omega arith) d10 in
    let d16 : drop (16 + k) item ≡ leaf.value = past_field 2 (14 + k) (16 + k) leaf.older.slot item leaf.value (omega arith) d14 in
    let n8 : number 8 (drop (2 + k) item) ≡ leaf.trx = ap (number 8) d2 ∙ number-field 8 leaf.trx page is.trx in
    let n4 : number 4 (drop (10 + k) item) ≡ leaf.older.page = ap (number 4) d10 ∙ number-field 4 leaf.older.page slot is.older_page in
    let n2 : number 2 (drop (14 + k) item) ≡ leaf.older.slot = ap (number 2) d14 ∙ number-field 2 leaf.older.slot leaf.value is.older_slot in
    λ i. record {
      key = key i;
      deleted = flag i;
      trx = n8 i;
      older = record { page = n4 i; slot = n2 i };
      value = d16 i;
    }

pub one_leaf : OneLeaf
one_leaf a b is_a is_b e = sym (leaf_back a is_a) ∙ ap leaf_of e ∙ leaf_back b is_b

-- an item that does not hold a leaf item spells none
pub no_leaf : (item : List ℕ) → ¬ HoldsLeaf item → (leaf : LeafItem) → IsLeaf leaf → ¬ (item ≡ leaf_bytes leaf)
no_leaf item lacks leaf is e = lacks (subst HoldsLeaf (sym e) (leaf_holds leaf is))
