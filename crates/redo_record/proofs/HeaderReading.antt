-- A group's header: what is read is spelled so, and what is spelled is read.
use Rattle.std.proofs.Common.{◌≡◌, ◌≤◌, ◌<◌, ◌^◌, ℕ, true, leb, List, ◌++◌, length, take, drop, refl, sym, ap, subst, ◌∙◌, append_assoc, arith}
use Rattle.std.proofs.lemmas.Bool.{and_parts}
use Rattle.std.proofs.lemmas.Bool.Decides.{nat_tests}
use Rattle.std.proofs.lemmas.List.{drop_at, take-append-drop, length-append, length-drop, drop-drop}
use Rattle.rm_base.specs.Fields.{field, number, AreBytes}
use Rattle.rm_base.proofs.FieldLaws.{length-field, number-field, field-number}
use Rattle.redo_record.specs.Spelling.{header_bytes}
use Rattle.redo_record.specs.Header.{Header, header_of, HasHeader}
use Rattle.redo_record.specs.Decoding.{has_header}
use Rattle.redo_record.proofs.Steps.{AreBytes-rest, AreBytes-front}

le_true : (a b : ℕ) → leb a b ≡ true → a ≤ b
le_true a b e = grind (arith, nat_tests)

true_le : (a b : ℕ) → a ≤ b → leb a b ≡ true
true_le a b h = grind (arith, nat_tests)

pub header_is : (bytes : List ℕ) → has_header bytes ≡ true → HasHeader bytes
header_is bytes e =
    let a = and_parts _ _ e in
    let b = and_parts _ _ a.1 in
    let c = and_parts _ _ b.1 in
    let d = and_parts _ _ c.1 in
    record { whole = le_true _ _ a.0; long = le_true _ _ b.0; there = le_true _ _ c.0; first = le_true _ _ d.0; some = le_true _ _ d.1 }

pub header_again : (bytes : List ℕ) → HasHeader bytes → has_header bytes ≡ true
header_again bytes h =
    rw (true_le 14 (length bytes) h.whole, true_le 14 (header_of bytes).size h.long, true_le (header_of bytes).size (length bytes) h.there, true_le 1 (header_of bytes).lsn h.first, true_le 1 (header_of bytes).count h.some) refl

pub AreBytes-drop : (n : ℕ) (bytes : List ℕ) → AreBytes bytes → AreBytes (drop n bytes)
AreBytes-drop n bytes fits =
    let P : List ℕ → Type 0 = λ b. AreBytes b in
    AreBytes-rest (take n bytes) (drop n bytes) (subst P (sym (take-append-drop n bytes)) fits)

pub AreBytes-take : (n : ℕ) (bytes : List ℕ) → AreBytes bytes → AreBytes (take n bytes)
AreBytes-take n bytes fits =
    let P : List ℕ → Type 0 = λ b. AreBytes b in
    AreBytes-front (take n bytes) (drop n bytes) (subst P (sym (take-append-drop n bytes)) fits)

-- a number and the bytes behind it
number_parts : (n : ℕ) (bytes : List ℕ) → AreBytes bytes → n ≤ length bytes → bytes ≡ field n (number n bytes) ++ drop n bytes
number_parts n bytes fits long = sym (take-append-drop n bytes) ∙ ap (λ (t : List ℕ). t ++ drop n bytes) (sym (field-number n bytes fits long))

three_fields : (a b c rest : List ℕ) → (a ++ (b ++ c)) ++ rest ≡ a ++ (b ++ (c ++ rest))
three_fields a b c rest = append_assoc a (b ++ c) rest ∙ ap (λ (t : List ℕ). a ++ t) (append_assoc b c rest)

-- the header and the bytes behind it
pub header_parts : (bytes : List ℕ) → AreBytes bytes → 14 ≤ length bytes
    → bytes ≡ header_bytes (header_of bytes).size (header_of bytes).lsn (header_of bytes).count ++ drop 14 bytes
header_parts bytes fits long =
    let a : bytes ≡ field 4 (number 4 bytes) ++ drop 4 bytes = number_parts 4 bytes fits (omega arith) in
    let b : drop 4 bytes ≡ field 8 (number 8 (drop 4 bytes)) ++ drop 12 bytes =
    number_parts 8 (drop 4 bytes) (AreBytes-drop 4 bytes fits) (omega (arith, length-drop 4 bytes))
    ∙ ap (λ (t : List ℕ). field 8 (number 8 (drop 4 bytes)) ++ t) (drop-drop 8 4 bytes) in
    let c : drop 12 bytes ≡ field 2 (number 2 (drop 12 bytes)) ++ drop 14 bytes =
    number_parts 2 (drop 12 bytes) (AreBytes-drop 12 bytes fits) (omega (arith, length-drop 12 bytes))
    ∙ ap (λ (t : List ℕ). field 2 (number 2 (drop 12 bytes)) ++ t) (drop-drop 2 12 bytes) in
    a
    ∙ ap (λ (t : List ℕ). field 4 (number 4 bytes) ++ t) (b ∙ ap (λ (t : List ℕ). field 8 (number 8 (drop 4 bytes)) ++ t) c)
    ∙ sym (three_fields (field 4 (number 4 bytes)) (field 8 (number 8 (drop 4 bytes))) (field 2 (number 2 (drop 12 bytes))) (drop 14 bytes))

abbrev header : ℕ → ℕ → ℕ → Header
header size lsn count = record { size = size; lsn = lsn; count = count }

module _ (size lsn count : ℕ) (rest : List ℕ) where
  behind : drop 4 (field 4 size ++ (field 8 lsn ++ (field 2 count ++ rest))) ≡ field 8 lsn ++ (field 2 count ++ rest)
  behind = drop_at (field 4 size) (field 8 lsn ++ (field 2 count ++ rest)) 4 (length-field 4 size)

  last_field : drop 12 (field 4 size ++ (field 8 lsn ++ (field 2 count ++ rest))) ≡ field 2 count ++ rest
  last_field =
      sym (drop-drop 8 4 (field 4 size ++ (field 8 lsn ++ (field 2 count ++ rest)))) ∙ ap (drop 8) behind
      ∙ drop_at (field 8 lsn) (field 2 count ++ rest) 8 (length-field 8 lsn)

  regrouped : header_bytes size lsn count ++ rest ≡ field 4 size ++ (field 8 lsn ++ (field 2 count ++ rest))
  regrouped = three_fields (field 4 size) (field 8 lsn) (field 2 count) rest

  -- the header is read again, whatever follows it
  pub header_reads : size < 2 ^ 32 → lsn < 2 ^ 64 → count < 2 ^ 16 → header_of (header_bytes size lsn count ++ rest) ≡ record { size = size; lsn = lsn; count = count }
  header_reads small bound few =
      let whole : List ℕ = field 4 size ++ (field 8 lsn ++ (field 2 count ++ rest)) in
      let a : number 4 whole ≡ size = number-field 4 size (field 8 lsn ++ (field 2 count ++ rest)) small in
      let b : number 8 (drop 4 whole) ≡ lsn = ap (number 8) behind ∙ number-field 8 lsn (field 2 count ++ rest) bound in
      let c : number 2 (drop 12 whole) ≡ count = ap (number 2) last_field ∙ number-field 2 count rest few in
      ap header_of regrouped
      ∙ ap (λ (n : ℕ). header n (number 8 (drop 4 whole)) (number 2 (drop 12 whole))) a
      ∙ ap (λ (n : ℕ). header size n (number 2 (drop 12 whole))) b
      ∙ ap (λ (n : ℕ). header size lsn n) c

  -- and the rest is behind it
  pub rest_behind : drop 14 (header_bytes size lsn count ++ rest) ≡ rest
  rest_behind =
      ap (drop 14) regrouped ∙ sym (drop-drop 2 12 (field 4 size ++ (field 8 lsn ++ (field 2 count ++ rest))))
      ∙ ap (drop 2) last_field ∙ drop_at (field 2 count) rest 2 (length-field 2 count)

pub length-header_bytes : (size lsn count : ℕ) → length (header_bytes size lsn count) ≡ 14
length-header_bytes size lsn count =
    omega (arith, length-append (field 4 size) (field 8 lsn ++ field 2 count), length-append (field 8 lsn) (field 2 count), length-field 4 size, length-field 8 lsn, length-field 2 count)
