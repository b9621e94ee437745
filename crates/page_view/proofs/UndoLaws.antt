-- What is read as an undo item is its one spelling.
use Rattle.std.proofs.Common.{◌≡◌, ◌≤◌, ◌+◌, ◌==◌, ℕ, zero, suc, List, [], ◌∷◌, ◌++◌, length, take, drop, slice_index, Option, Some, None, refl, sym, ◌∙◌, ap, subst, arith, length-append, length-drop, if◌then◌else◌, ◌⊎◌, inl, inr}
use Rattle.std.proofs.lemmas.List.{length-take-le, drop-drop, get_or-drop}
use Rattle.std.proofs.Math.Seq.{take-append_seam, take-length}
use Rattle.rm_base.specs.Fields.{field, number, AreBytes}
use Rattle.rm_base.proofs.FieldLaws.{length-field, number-field}
use Rattle.page_view.specs.declared.leaf.LeafItem.{LeafItem}
use Rattle.page_view.specs.Leaf.{leaf_of}
use Rattle.page_view.specs.Undo.{Undone, old_bytes, undo_bytes, undo_of, IsOld, IsUndo, HoldsKey, HoldsOld, HoldsUndo, OneUndo}
use Rattle.page_view.proofs.FieldParts.{AreBytes-drop, split_field, split_byte, field-lt, past_field}
use Rattle.page_view.proofs.LeafLaws.{leaf_reads, leaf_holds, leaf_back}

-- what was there, with its flag, read from the bytes behind the head
old_of : ℕ → List ℕ → Option LeafItem
old_of mark old = if mark == 1 then Some (leaf_of old) else None

zero_or_one : (n : ℕ) → n ≤ 1 → (n ≡ 0) ⊎ (n ≡ 1)
zero_or_one zero h = inl refl
zero_or_one (suc zero) h = inr refl
zero_or_one (suc (suc n)) h = absurd (omega arith)

key_reads : (old : List ℕ) → HoldsKey old → old ≡ length (take (slice_index old 0) (drop 1 old)) ∷ take (slice_index old 0) (drop 1 old)
key_reads [] h = absurd (let long = h.long in omega arith)
key_reads (n ∷ key) h =
    let long = h.long in
    let same : length key ≡ n = omega arith in
    let whole : take n key ≡ key = ap (λ (k : ℕ). take k key) (sym same) ∙ take-length key in
    ap (λ (q : List ℕ). n ∷ q) (sym whole) ∙ ap (λ (k : ℕ). k ∷ take n key) (sym (ap length whole ∙ same))

-- the part behind the head is spelled by its key and what was there
old_reads : (mark : ℕ) (old : List ℕ) → AreBytes old → HoldsOld mark old
    → IsOld (take (slice_index old 0) (drop 1 old)) (old_of mark old) × (mark ∷ old ≡ old_bytes (take (slice_index old 0) (drop 1 old)) (old_of mark old))
unfolding old_of
old_reads mark old bs h =
    elim (zero_or_one mark h.known) [
      | inl e ↦ subst (λ (m : ℕ). IsOld (take (slice_index old 0) (drop 1 old)) (old_of m old) × (m ∷ old ≡ old_bytes (take (slice_index old 0) (drop 1 old)) (old_of m old))) (sym e)
          (tt, ap (λ (q : List ℕ). 0 ∷ q) (key_reads old (h.key e)))
      | inr e ↦ subst (λ (m : ℕ). IsOld (take (slice_index old 0) (drop 1 old)) (old_of m old) × (m ∷ old ≡ old_bytes (take (slice_index old 0) (drop 1 old)) (old_of m old))) (sym e)
          (let leaf = leaf_reads old bs (h.leaf e) in ((leaf.0, refl), ap (λ (q : List ℕ). 1 ∷ q) leaf.1))
    ]

key_of-lt : (mark : ℕ) (old : List ℕ) → HoldsOld mark old → length (take (slice_index old 0) (drop 1 old)) ≤ 64
key_of-lt mark old h =
    elim (zero_or_one mark h.known) [
      | inl e ↦ let key = h.key e in let long = key.long in let short = key.short in
          let inside : slice_index old 0 ≤ length (drop 1 old) = rw length-drop (omega arith) in
          let exact = length-take-le (slice_index old 0) (drop 1 old) inside in omega arith
      | inr e ↦ let leaf = h.leaf e in let long = leaf.long in let short = leaf.short_key in
          let inside : slice_index old 0 ≤ length (drop 1 old) = rw length-drop (omega arith) in
          let exact = length-take-le (slice_index old 0) (drop 1 old) inside in omega arith
    ]

-- bytes that spell an undo item spell the one that is read
pub undo_reads : (item : List ℕ) → AreBytes item → HoldsUndo item → IsUndo (undo_of item) × (item ≡ undo_bytes (undo_of item))
unfolding old_of
undo_reads item bs h =
    let long = h.long in
    let old : List ℕ = drop 19 item in
    let first : slice_index old 0 ≡ slice_index item 19 = get_or-drop 19 item 0 0 in
    let rest : drop 1 old ≡ drop 20 item = drop-drop 1 19 item in
    let key : take (slice_index old 0) (drop 1 old) ≡ take (slice_index item 19) (drop 20 item) =
    ap (λ (n : ℕ). take n (drop 1 old)) first ∙ ap (take (slice_index item 19)) rest in
    let part = old_reads (slice_index item 18) old (AreBytes-drop 19 item bs) h.old in
    let short : length (take (slice_index item 19) (drop 20 item)) ≤ 64 =
    subst (λ (q : List ℕ). length q ≤ 64) key (key_of-lt (slice_index item 18) old h.old) in
    let e0 : item ≡ field 8 (number 8 item) ++ drop 8 item = split_field 8 0 8 item bs refl (omega arith) in
    let e1 : drop 8 item ≡ field 4 (number 4 (drop 8 item)) ++ drop 12 item = split_field 4 8 12 item bs refl (omega arith) in
    let e2 : drop 12 item ≡ field 4 (number 4 (drop 12 item)) ++ drop 16 item = split_field 4 12 16 item bs refl (omega arith) in
    let e3 : drop 16 item ≡ field 2 (number 2 (drop 16 item)) ++ drop 18 item = split_field 2 16 18 item bs refl (omega arith) in
    let e4 : drop 18 item ≡ slice_index item 18 ∷ drop 19 item = split_byte 18 19 item refl (omega arith) in
    let e5 : slice_index item 18 ∷ old ≡ old_bytes (take (slice_index item 19) (drop 20 item)) (old_of (slice_index item 18) old) =
    part.1 ∙ ap (λ (q : List ℕ). old_bytes q (old_of (slice_index item 18) old)) key in (
      record {
        trx = field-lt 8 0 item bs;
        root = h.root;
        before_page = field-lt 4 12 item bs;
        before_slot = field-lt 2 16 item bs;
        short_key = short;
        old = subst (λ (q : List ℕ). IsOld q (old_of (slice_index item 18) old)) key part.0;
      },
      e0 ∙ ap (λ (q : List ℕ). field 8 (number 8 item) ++ q) (e1 ∙ ap (λ (q : List ℕ). field 4 (number 4 (drop 8 item)) ++ q)
          (e2 ∙ ap (λ (q : List ℕ). field 4 (number 4 (drop 12 item)) ++ q) (e3 ∙ ap (λ (q : List ℕ). field 2 (number 2 (drop 16 item)) ++ q) (e4 ∙ e5)))),
    )

-- how an undo item's bytes lie
record Lies (undo : Undone) : Type 0 where
  root : drop 8 (undo_bytes undo) ≡ field 4 undo.root ++ (field 4 undo.before.page ++ (field 2 undo.before.slot ++ old_bytes undo.key undo.old))
  page : drop 12 (undo_bytes undo) ≡ field 4 undo.before.page ++ (field 2 undo.before.slot ++ old_bytes undo.key undo.old)
  slot : drop 16 (undo_bytes undo) ≡ field 2 undo.before.slot ++ old_bytes undo.key undo.old
  mark : slice_index (undo_bytes undo) 18 ≡ slice_index (old_bytes undo.key undo.old) 0
  tail : drop 19 (undo_bytes undo) ≡ drop 1 (old_bytes undo.key undo.old)

lies : (undo : Undone) → Lies undo
lies undo =
    let item : List ℕ = undo_bytes undo in
    let old : List ℕ = old_bytes undo.key undo.old in
    let slot : List ℕ = field 2 undo.before.slot ++ old in
    let page : List ℕ = field 4 undo.before.page ++ slot in
    let root : List ℕ = field 4 undo.root ++ page in
    let d8 : drop 8 item ≡ root = past_field 8 0 8 undo.trx item root refl refl in
    let d12 : drop 12 item ≡ page = past_field 4 8 12 undo.root item page refl d8 in
    let d16 : drop 16 item ≡ slot = past_field 4 12 16 undo.before.page item slot refl d12 in
    let d18 : drop 18 item ≡ old = past_field 2 16 18 undo.before.slot item old refl d16 in
    record {
      root = d8;
      page = d12;
      slot = d16;
      mark = sym (get_or-drop 18 item 0 0) ∙ ap (λ (q : List ℕ). slice_index q 0) d18;
      tail = sym (drop-drop 1 18 item) ∙ ap (drop 1) d18;
    }

zero_not_one : {B : Type 0} → ◌≡◌ {A = ℕ} 0 1 → B
zero_not_one e = absurd (omega arith)

one_not_zero : {B : Type 0} → ◌≡◌ {A = ℕ} 1 0 → B
one_not_zero e = absurd (omega arith)

old_holds : (key : List ℕ) (old : Option LeafItem) → IsOld key old → length key ≤ 64
    → HoldsOld (slice_index (old_bytes key old) 0) (drop 1 (old_bytes key old))
old_holds key None is h = record { known = omega arith; key = λ _. record { long = omega arith; short = h }; leaf = λ e. zero_not_one e }
old_holds key (Some leaf) is h = record { known = omega arith; key = λ e. one_not_zero e; leaf = λ _. leaf_holds leaf is.0 }

old_long : (key : List ℕ) (old : Option LeafItem) → 2 ≤ length (old_bytes key old)
old_long key None = omega arith
old_long key (Some leaf) = omega arith

root_back : (undo : Undone) → IsUndo undo → number 4 (drop 8 (undo_bytes undo)) ≡ undo.root
root_back undo is =
    let l = lies undo in
    let root = is.root in
    ap (number 4) l.root ∙ number-field 4 undo.root (field 4 undo.before.page ++ (field 2 undo.before.slot ++ old_bytes undo.key undo.old)) (omega arith)

-- the bytes of an undo item within its limits spell one
undo_holds : (undo : Undone) → IsUndo undo → HoldsUndo (undo_bytes undo)
undo_holds undo is =
    let l = lies undo in
    let old = old_long undo.key undo.old in
    let whole : length (undo_bytes undo) ≡ 18 + length (old_bytes undo.key undo.old) = simp (length-append, length-field) (omega arith) in
    record {
      long = omega arith;
      root = subst (λ (n : ℕ). n ≤ 32767) (sym (root_back undo is)) is.root;
      old = subst (λ (m : ℕ). HoldsOld m (drop 19 (undo_bytes undo))) (sym l.mark)
          (subst (λ (q : List ℕ). HoldsOld (slice_index (old_bytes undo.key undo.old) 0) q) (sym l.tail) (old_holds undo.key undo.old is.old is.short_key));
    }

key_back : (key : List ℕ) (old : Option LeafItem) → IsOld key old
    → take (slice_index (drop 1 (old_bytes key old)) 0) (drop 1 (drop 1 (old_bytes key old))) ≡ key
key_back key None is = take-length key
key_back key (Some leaf) is =
    take-append_seam leaf.key ((if leaf.deleted then 1 else 0) ∷ (field 8 leaf.trx ++ (field 4 leaf.older.page ++ (field 2 leaf.older.slot ++ leaf.value)))) ∙ is.1

old_back : (key : List ℕ) (old : Option LeafItem) → IsOld key old → old_of (slice_index (old_bytes key old) 0) (drop 1 (old_bytes key old)) ≡ old
unfolding old_of
old_back key None is = refl
old_back key (Some leaf) is = ap Some (leaf_back leaf is.0)

-- the undo item that is read from its bytes is it again
undo_back : (undo : Undone) → IsUndo undo → undo_of (undo_bytes undo) ≡ undo
unfolding old_of
undo_back undo is =
    let l = lies undo in
    let item : List ℕ = undo_bytes undo in
    let bytes : List ℕ = old_bytes undo.key undo.old in
    let slots : List ℕ = field 2 undo.before.slot ++ bytes in
    let pages : List ℕ = field 4 undo.before.page ++ slots in
    let trx : number 8 item ≡ undo.trx = number-field 8 undo.trx (field 4 undo.root ++ pages) is.trx in
    let root = root_back undo is in
    let page : number 4 (drop 12 item) ≡ undo.before.page = ap (number 4) l.page ∙ number-field 4 undo.before.page slots is.before_page in
    let slot : number 2 (drop 16 item) ≡ undo.before.slot = ap (number 2) l.slot ∙ number-field 2 undo.before.slot bytes is.before_slot in
    let first : slice_index item 19 ≡ slice_index (drop 1 bytes) 0 = sym (get_or-drop 19 item 0 0) ∙ ap (λ (q : List ℕ). slice_index q 0) l.tail in
    let rest : drop 20 item ≡ drop 1 (drop 1 bytes) = sym (drop-drop 1 19 item) ∙ ap (drop 1) l.tail in
    let key : take (slice_index item 19) (drop 20 item) ≡ undo.key =
    ap (λ (n : ℕ). take n (drop 20 item)) first ∙ ap (take (slice_index (drop 1 bytes) 0)) rest ∙ key_back undo.key undo.old is.old in
    let old : old_of (slice_index item 18) (drop 19 item) ≡ undo.old =
    ap (λ (m : ℕ). old_of m (drop 19 item)) l.mark ∙ ap (old_of (slice_index bytes 0)) l.tail ∙ old_back undo.key undo.old is.old in
    λ i. record { trx = trx i; root = root i; before = record { page = page i; slot = slot i }; key = key i; old = old i }

pub no_undo : (item : List ℕ) → ¬ HoldsUndo item → (undo : Undone) → IsUndo undo → ¬ (item ≡ undo_bytes undo)
no_undo item lacks undo is e = lacks (subst HoldsUndo (sym e) (undo_holds undo is))

pub one_undo : OneUndo
one_undo a b is_a is_b e = sym (undo_back a is_a) ∙ ap undo_of e ∙ undo_back b is_b
