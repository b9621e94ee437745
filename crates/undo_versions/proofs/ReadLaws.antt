-- For the proofs: the undo item that bytes spell is the one that is read.
use Rattle.std.proofs.Common.{◌≡◌, ◌+◌, ℕ, zero, suc, Bool, true, false, nat_eq, nat_le, nat_lt, ◌&&◌, List, length, drop, slice_index, Option, Some, None, refl, sym, ◌∙◌, ap, arith}
use Rattle.std.specs.Prelude.{if◌then◌else◌}
use Rattle.std.proofs.lemmas.Bool.{leb-true, le-leb, lt-ltb, ltb-true, eqb-true, eq-eqb, and_parts, and_from}
use Rattle.rm_base.specs.Fields.{number, AreBytes}
use Rattle.page_view.specs.Leaf.{HoldsLeaf}
use Rattle.page_view.specs.Undo.{Undone, undo_bytes, undo_of, IsUndo, HoldsKey, HoldsOld, HoldsUndo, IsUndoOrNone}
use Rattle.page_view.proofs.UndoLaws.{undo_reads, no_undo, one_undo}
use Rattle.undo_versions.specs.Reading.{holds_leaf, holds_key, holds_old, holds_undo, undo_in}

-- ---- the tests tell what they test

leaf_told : (item : List ℕ) → holds_leaf item ≡ true → HoldsLeaf item
leaf_told item e =
    let a = and_parts (nat_le (slice_index item 0) 64 && nat_le (16 + slice_index item 0) (length item) && nat_le (length item) 1000) (nat_le (slice_index item (1 + slice_index item 0)) 1) e in
    let b = and_parts (nat_le (slice_index item 0) 64 && nat_le (16 + slice_index item 0) (length item)) (nat_le (length item) 1000) a.0 in
    let c = and_parts (nat_le (slice_index item 0) 64) (nat_le (16 + slice_index item 0) (length item)) b.0 in
    record {
      short_key = leb-true (slice_index item 0) 64 c.0;
      long = leb-true (16 + slice_index item 0) (length item) c.1;
      short = leb-true (length item) 1000 b.1;
      flag = leb-true (slice_index item (1 + slice_index item 0)) 1 a.1;
    }

leaf_tells : (item : List ℕ) → HoldsLeaf item → holds_leaf item ≡ true
leaf_tells item h =
    and_from (nat_le (slice_index item 0) 64 && nat_le (16 + slice_index item 0) (length item) && nat_le (length item) 1000) (nat_le (slice_index item (1 + slice_index item 0)) 1)
    (and_from (nat_le (slice_index item 0) 64 && nat_le (16 + slice_index item 0) (length item)) (nat_le (length item) 1000)
    (and_from (nat_le (slice_index item 0) 64) (nat_le (16 + slice_index item 0) (length item))
    (le-leb (slice_index item 0) 64 h.short_key) (le-leb (16 + slice_index item 0) (length item) h.long))
    (le-leb (length item) 1000 h.short))
    (le-leb (slice_index item (1 + slice_index item 0)) 1 h.flag)

key_told : (old : List ℕ) → holds_key old ≡ true → HoldsKey old
key_told old e =
    let a = and_parts (nat_eq (length old) (1 + slice_index old 0)) (nat_le (slice_index old 0) 64) e in
    record { long = eqb-true (length old) (1 + slice_index old 0) a.0; short = leb-true (slice_index old 0) 64 a.1 }

key_tells : (old : List ℕ) → HoldsKey old → holds_key old ≡ true
key_tells old h =
    and_from (nat_eq (length old) (1 + slice_index old 0)) (nat_le (slice_index old 0) 64)
    (eq-eqb (length old) (1 + slice_index old 0) h.long) (le-leb (slice_index old 0) 64 h.short)

zero_one : ◌≡◌ {A = ℕ} 0 1 → ⊥
zero_one e = omega arith

one_zero : ◌≡◌ {A = ℕ} 1 0 → ⊥
one_zero e = omega arith

old_by : (b c : Bool) (mark : ℕ) (old : List ℕ) → nat_eq mark 0 ≡ b → nat_eq mark 1 ≡ c → (if b then holds_key old else (c && holds_leaf old)) ≡ true → HoldsOld mark old
old_by true c mark old is other e =
    let zero_is : mark ≡ 0 = eqb-true mark 0 is in
    record { known = omega arith; key = λ _. key_told old e; leaf = λ f. absurd (zero_one (sym zero_is ∙ f)) }
old_by false true mark old is other e =
    let one_is : mark ≡ 1 = eqb-true mark 1 other in
    record { known = omega arith; key = λ f. absurd (one_zero (sym one_is ∙ f)); leaf = λ _. leaf_told old e }
old_by false false mark old is other e = absurd (let f : false ≡ true = e in cc)

old_told : (mark : ℕ) (old : List ℕ) → holds_old mark old ≡ true → HoldsOld mark old
old_told mark old e = old_by (nat_eq mark 0) (nat_eq mark 1) mark old refl refl e

old_tells : (mark : ℕ) (old : List ℕ) → HoldsOld mark old → holds_old mark old ≡ true
old_tells zero old h = key_tells old (h.key refl)
old_tells (suc zero) old h = leaf_tells old (h.leaf refl)
old_tells (suc (suc n)) old h = absurd (let known = h.known in omega arith)

pub undo_told : (item : List ℕ) → holds_undo item ≡ true → HoldsUndo item
unfolding holds_undo
undo_told item e =
    let a = and_parts (nat_lt 19 (length item) && nat_le (number 4 (drop 8 item)) 32767) (holds_old (slice_index item 18) (drop 19 item)) e in
    let b = and_parts (nat_lt 19 (length item)) (nat_le (number 4 (drop 8 item)) 32767) a.0 in
    record {
      long = ltb-true 19 (length item) b.0;
      root = leb-true (number 4 (drop 8 item)) 32767 b.1;
      old = old_told (slice_index item 18) (drop 19 item) a.1;
    }

pub undo_tells : (item : List ℕ) → HoldsUndo item → holds_undo item ≡ true
unfolding holds_undo
undo_tells item h =
    and_from (nat_lt 19 (length item) && nat_le (number 4 (drop 8 item)) 32767) (holds_old (slice_index item 18) (drop 19 item))
    (and_from (nat_lt 19 (length item)) (nat_le (number 4 (drop 8 item)) 32767)
    (lt-ltb 19 (length item) h.long) (le-leb (number 4 (drop 8 item)) 32767 h.root))
    (old_tells (slice_index item 18) (drop 19 item) h.old)

-- ---- what is read

read_by : (b : Bool) (item : List ℕ) (x : Undone) → holds_undo item ≡ b → AreBytes item → IsUndo x → item ≡ undo_bytes x → undo_in item ≡ Some x
read_by false item x fails bs is e =
    absurd (no_undo item (λ h. (let f : true ≡ false = sym (undo_tells item h) ∙ fails in cc)) x is e)
read_by true item x holds bs is e =
    let reads = undo_reads item bs (undo_told item holds) in
    let same : undo_of item ≡ x = one_undo (undo_of item) x reads.0 is (sym reads.1 ∙ e) in
    rw holds (ap Some same)

-- bytes that spell an item give it
pub undo_in-bytes : (item : List ℕ) (x : Undone) → AreBytes item → IsUndo x → item ≡ undo_bytes x → undo_in item ≡ Some x
undo_in-bytes item x bs is e = read_by (holds_undo item) item x refl bs is e

none_by : (b : Bool) (item : List ℕ) → holds_undo item ≡ b → AreBytes item → ((x : Undone) → IsUndo x → ¬ (item ≡ undo_bytes x)) → undo_in item ≡ None
none_by false item fails bs none = rw fails refl
none_by true item holds bs none =
    let reads = undo_reads item bs (undo_told item holds) in absurd (none (undo_of item) reads.0 reads.1)

-- what reading answers is what the bytes give
pub read_is : (item : List ℕ) (found : Option Undone) → AreBytes item → IsUndoOrNone item found → found ≡ undo_in item
read_is item None bs none = sym (none_by (holds_undo item) item refl bs none)
read_is item (Some x) bs some = sym (undo_in-bytes item x bs some.0 some.1)
