-- What is read as an inner item is its one spelling.
use Rattle.std.proofs.Common.{◌≡◌, ◌≤◌, ◌<◌, ◌+◌, ℕ, suc, List, [], ◌∷◌, ◌++◌, length, take, drop, slice_index, refl, sym, ◌∙◌, ap, subst, arith, append-nil, length-append, length-drop}
use Rattle.std.proofs.lemmas.List.{length-take-le}
use Rattle.std.proofs.Math.Seq.{take-append_seam, drop-append_seam, drop-length}
use Rattle.rm_base.specs.Fields.{field, number, AreBytes}
use Rattle.rm_base.proofs.FieldLaws.{length-field, number-field}
use Rattle.page_view.specs.Inner.{InnerItem, inner_bytes, inner_of, IsInner, HoldsInner, OneInner}
use Rattle.page_view.proofs.FieldParts.{split_field, split_byte, split_part}

-- bytes that spell an inner item spell the one that is read
pub inner_reads : (item : List ℕ) → AreBytes item → HoldsInner item → IsInner (inner_of item) × (item ≡ inner_bytes (inner_of item))
inner_reads item bs h =
    let k : ℕ = slice_index item 0 in
    let byte : k < 256 = bs 0 in
    let long = h.long in
    let inside : k ≤ length (drop 1 item) = rw length-drop (omega arith) in
    let exact : length (take k (drop 1 item)) ≡ k = length-take-le k (drop 1 item) inside in
    let e0 : item ≡ k ∷ drop 1 item = split_byte 0 1 item refl (omega arith) in
    let e1 : drop 1 item ≡ take k (drop 1 item) ++ drop (1 + k) item = split_part k 1 (1 + k) item refl in
    let e2 : drop (1 + k) item ≡ field 4 (number 4 (drop (1 + k) item)) ++ drop (5 + k) item = split_field 4 (1 + k) (5 + k) item bs (omega arith) (omega arith) in
    let e3 : drop (5 + k) item ≡ [] = ap (λ (n : ℕ). drop n item) (sym h.long) ∙ drop-length item in (
      record { short_key = omega (arith, exact); child = h.child },
      e0 ∙ ap (λ (q : List ℕ). k ∷ q) (e1 ∙ ap (λ (q : List ℕ). take k (drop 1 item) ++ q)
          (e2 ∙ ap (λ (q : List ℕ). field 4 (number 4 (drop (1 + k) item)) ++ q) e3 ∙ append-nil (field 4 (number 4 (drop (1 + k) item)))))
          ∙ ap (λ (n : ℕ). n ∷ (take k (drop 1 item) ++ field 4 (number 4 (drop (1 + k) item)))) (sym exact),
    )

child_at : (inner : InnerItem) → IsInner inner → number 4 (drop (1 + length inner.key) (inner_bytes inner)) ≡ inner.child
child_at inner is =
    let one : 1 + length inner.key ≡ suc (length inner.key) = omega arith in
    let child = is.child in
    ap (λ (n : ℕ). number 4 (drop n (inner_bytes inner))) one
    ∙ ap (number 4) (drop-append_seam inner.key (field 4 inner.child) ∙ sym (append-nil (field 4 inner.child)))
    ∙ number-field 4 inner.child [] (omega arith)

-- the bytes of an inner item within its limits spell one
pub inner_holds : (inner : InnerItem) → IsInner inner → HoldsInner (inner_bytes inner)
inner_holds inner is =
    record {
      long = simp (length-append, length-field) (omega arith);
      child = subst (λ (n : ℕ). n ≤ 32767) (sym (child_at inner is)) is.child;
    }

-- the inner item that is read from its bytes is it again
pub inner_back : (inner : InnerItem) → IsInner inner → inner_of (inner_bytes inner) ≡ inner
inner_back inner is =
    let key : take (length inner.key) (inner.key ++ field 4 inner.child) ≡ inner.key = take-append_seam inner.key (field 4 inner.child) in
    let child = child_at inner is in
    λ i. record { key = key i; child = child i }

pub one_inner : OneInner
one_inner a b is_a is_b e = sym (inner_back a is_a) ∙ ap inner_of e ∙ inner_back b is_b

-- an item that does not hold an inner item spells none
pub no_inner : (item : List ℕ) → ¬ HoldsInner item → (inner : InnerItem) → IsInner inner → ¬ (item ≡ inner_bytes inner)
no_inner item lacks inner is e = lacks (subst HoldsInner (sym e) (inner_holds inner is))
