-- What is read is what was spelled, and the other way round.
use Rattle.std.proofs.Common.{◌≡◌, ◌≢◌, ◌≤◌, ◌<◌, ◌+◌, ◌^◌, ◌&&◌, ℕ, zero, suc, Bool, true, false, ℤ, pos, negsuc, ◌+ℤ◌, FitsSigned, nat_eq, nat_le, List, [], ◌∷◌, ◌++◌, length, take, drop, slice_get, Some, None, Option, option_and_then, if◌then◌else◌, ◌⊎◌, inl, inr, refl, sym, ◌∙◌, ap, subst, arith, append_assoc, append-nil, length-append, length-drop, IsSomeAnd, Result, Ok, Err, IfOk}
use Rattle.rm_base.specs.declared.limits.TheConstants.{MAX_KEY_BYTES, MAX_RECORD_BYTES}
use Rattle.std.proofs.lemmas.Bool.Decides.{nat_tests}
use Rattle.std.proofs.lemmas.Int.{ints, of_z-to_z, to_z-of_z}
use Rattle.std.proofs.lemmas.List.{take-append-drop, drop-drop, get_or-drop, length-take-le}
use Rattle.std.proofs.lemmas.Option.{get_or_from_slice_get, slice_get_within}
use Rattle.std.proofs.Math.Seq.{take-length, take-append_seam, drop-append_seam, drop-append-add}
use Rattle.std.specs.Int.{w64, cast_signed, cast_unsigned}
use Rattle.rm_base.specs.Fields.{field, number, AreBytes}
use Rattle.rm_base.proofs.FieldLaws.{length-field, number-field, number-lt, field-number}
use Rattle.sql_values.specs.declared.values.Value.{Value}
use Rattle.sql_values.specs.declared.values.Value.TheVariants.{Null, Int, Text}
use Rattle.sql_values.specs.declared.values.Sort.{Sort}
use Rattle.sql_values.specs.declared.values.Sort.TheVariants as sort
use Rattle.sql_values.specs.declared.schemas.Column.{Column}
use Rattle.sql_values.specs.declared.schemas.Schema.{Schema}
use Rattle.sql_values.specs.Order.{Fits}
use Rattle.row_codec.specs.Keys.{IsKey, rank, key_bytes}
use Rattle.row_codec.specs.Records.{cell_bytes, cells_bytes, record_length, key_cell, FitColumns, AreI64, IsRecord, OneRow}
use Rattle.row_codec.specs.Reading.{ReadsKeysBack, read_int, read_text, read_cell, read_onto, read_key, whole, read_row, IsRowOrNone}

some_is : {A : Type 0} {x y : A} → Some x ≡ Some y → x ≡ y
some_is e = cc

-- where a chain of two steps gives a value, each gives one
record Chained {A B : Type 0} (f : A → Option B) (o : Option A) (y : B) : Type 0 where
  first : A
  first_is : o ≡ Some first
  then_is : f first ≡ Some y

chained : {A B : Type 0} (f : A → Option B) (o : Option A) (y : B) → option_and_then f o ≡ Some y → Chained f o y
chained f None y e = cc
chained f (Some x) y e = record { first = x; first_is = refl; then_is = e }

AreBytes-drop : (n : ℕ) (xs : List ℕ) → AreBytes xs → AreBytes (drop n xs)
AreBytes-drop n xs bs = λ k. rw (get_or-drop n xs k 0) (bs (n + k))

-- a cell that is read
record ReadsCell (s : Sort) (bytes : List ℕ) (v : Value) (n : ℕ) : Type 0 where
  fits : Fits v s
  ints : AreI64 (v ∷ [])
  spelled : bytes ≡ cell_bytes v ++ drop n bytes

signed_fits : (n : ℕ) → n < 2 ^ 64 → FitsSigned w64 (cast_signed w64 n)
signed_fits n h = omega (arith, ints)

-- the bytes of an INT's cell, read
int_cell : (rest : List ℕ) → AreBytes rest → 8 ≤ length rest → ReadsCell sort.Int (1 ∷ rest) (Int (cast_signed w64 (number 8 rest))) 9
int_cell rest bs h =
    let below : number 8 rest < 2 ^ 64 = number-lt 8 rest bs in
    let back : cast_unsigned w64 (cast_signed w64 (number 8 rest)) ≡ number 8 rest = of_z-to_z w64 (number 8 rest) below in
    let bytes : field 8 (cast_unsigned w64 (cast_signed w64 (number 8 rest))) ≡ take 8 rest = ap (field 8) back ∙ field-number 8 rest bs h in
    record {
      fits = tt;
      ints = (signed_fits (number 8 rest) below, tt);
      spelled = ap (λ (q : List ℕ). 1 ∷ q) (sym (ap (λ (q : List ℕ). q ++ drop 8 rest) bytes ∙ take-append-drop 8 rest));
    }

text_cell : (rest : List ℕ) → AreBytes rest → 2 ≤ length rest → 2 + number 2 rest ≤ length rest
    → ReadsCell sort.Text (2 ∷ rest) (Text (take (number 2 rest) (drop 2 rest))) (3 + number 2 rest)
text_cell rest bs h g =
    let n : ℕ = number 2 rest in
    let long : n ≤ length (drop 2 rest) = rw length-drop (omega arith) in
    let exact : length (take n (drop 2 rest)) ≡ n = length-take-le n (drop 2 rest) long in
    let head : field 2 (length (take n (drop 2 rest))) ≡ take 2 rest = ap (field 2) exact ∙ field-number 2 rest bs h in
    let count : 3 + n ≡ suc (2 + n) = omega arith in
    let tail : drop (3 + n) (2 ∷ rest) ≡ drop n (drop 2 rest) = ap (λ (k : ℕ). drop k (2 ∷ rest)) count ∙ sym (drop-drop n 2 rest) in
    let joined : (take 2 rest ++ take n (drop 2 rest)) ++ drop n (drop 2 rest) ≡ rest =
    append_assoc (take 2 rest) (take n (drop 2 rest)) (drop n (drop 2 rest))
    ∙ ap (λ (q : List ℕ). take 2 rest ++ q) (take-append-drop n (drop 2 rest)) ∙ take-append-drop 2 rest in
    record {
      fits = tt;
      ints = tt;
      spelled = ap (λ (q : List ℕ). 2 ∷ q)
          (sym (ap (λ (q : List ℕ). (field 2 (length (take n (drop 2 rest))) ++ take n (drop 2 rest)) ++ q) tail
          ∙ ap (λ (q : List ℕ). (q ++ take n (drop 2 rest)) ++ drop n (drop 2 rest)) head ∙ joined));
    }

none_not_some : {A : Type 0} {x : A} {B : Type 0} → None ≡ Some x → B
none_not_some e = cc

-- a test of two parts
both_true : (a b : Bool) → (a && b) ≡ true → (a ≡ true) × (b ≡ true)
both_true true b e = (refl, e)
both_true false b e = cc

-- from a read with a test, the test was passed
tested : {A : Type 0} (b : Bool) (x : A) (y : A) → (if b then Some x else None) ≡ Some y → (b ≡ true) × (x ≡ y)
tested true x y e = (refl, some_is e)
tested false x y e = none_not_some e

le_of : (m n : ℕ) → nat_le m n ≡ true → m ≤ n
le_of m n h = grind (arith, nat_tests)

reads_int : (s : Sort) (rest : List ℕ) (v : Value) (n : ℕ) → AreBytes rest → read_int s rest ≡ Some (v, n) → ReadsCell s (1 ∷ rest) v n
reads_int sort.Text rest v n bs e = none_not_some e
reads_int sort.Int rest v n bs e =
    let t = tested (nat_le 8 (length rest)) (Int (cast_signed w64 (number 8 rest)), 9) (v, n) e in
    subst (λ (p : Value × ℕ). ReadsCell sort.Int (1 ∷ rest) p.0 p.1) t.1 (int_cell rest bs (le_of 8 (length rest) t.0))

reads_text : (s : Sort) (rest : List ℕ) (v : Value) (n : ℕ) → AreBytes rest → read_text s rest ≡ Some (v, n) → ReadsCell s (2 ∷ rest) v n
reads_text sort.Int rest v n bs e = none_not_some e
reads_text sort.Text rest v n bs e =
    let t = tested (nat_le 2 (length rest) && nat_le (2 + number 2 rest) (length rest)) (Text (take (number 2 rest) (drop 2 rest)), 3 + number 2 rest) (v, n) e in
    let parts = both_true (nat_le 2 (length rest)) (nat_le (2 + number 2 rest) (length rest)) t.0 in
    subst (λ (p : Value × ℕ). ReadsCell sort.Text (2 ∷ rest) p.0 p.1) t.1
    (text_cell rest bs (le_of 2 (length rest) parts.0) (le_of (2 + number 2 rest) (length rest) parts.1))

nat_eq_is : (m n : ℕ) → nat_eq m n ≡ true → m ≡ n
nat_eq_is m n h = grind (arith, nat_tests)

-- what is read as a cell is its spelling
reads_cell : (s : Sort) (bytes : List ℕ) (v : Value) (n : ℕ) → AreBytes bytes → read_cell s bytes ≡ Some (v, n) → ReadsCell s bytes v n
reads_cell s [] v n bs e = none_not_some e
reads_cell s (tag ∷ rest) v n bs e = zeroth (nat_eq tag 0) refl e
  where
    tail : AreBytes rest
    tail = λ k. bs (suc k)

    at_tag : (t : ℕ) → tag ≡ t → ReadsCell s (t ∷ rest) v n → ReadsCell s (tag ∷ rest) v n
    at_tag t q r = subst (λ (x : ℕ). ReadsCell s (x ∷ rest) v n) (sym q) r

    null : ◌≡◌ {A = Value × ℕ} (Null, 1) (v, n) → ReadsCell s (0 ∷ rest) v n
    null q = subst (λ (p : Value × ℕ). ReadsCell s (0 ∷ rest) p.0 p.1) q (record { fits = tt; ints = tt; spelled = refl })

    second : (b : Bool) → nat_eq tag 2 ≡ b → (if b then read_text s rest else None) ≡ Some (v, n) → ReadsCell s (tag ∷ rest) v n
    second true q e = at_tag 2 (nat_eq_is tag 2 q) (reads_text s rest v n tail e)
    second false q e = none_not_some e

    first : (b : Bool) → nat_eq tag 1 ≡ b → (if b then read_int s rest else (if nat_eq tag 2 then read_text s rest else None)) ≡ Some (v, n) → ReadsCell s (tag ∷ rest) v n
    first true q e = at_tag 1 (nat_eq_is tag 1 q) (reads_int s rest v n tail e)
    first false q e = second (nat_eq tag 2) refl e

    zeroth : (b : Bool) → nat_eq tag 0 ≡ b → (if b then Some (Null, 1) else (if nat_eq tag 1 then read_int s rest else (if nat_eq tag 2 then read_text s rest else None))) ≡ Some (v, n) → ReadsCell s (tag ∷ rest) v n
    zeroth true q e = at_tag 0 (nat_eq_is tag 0 q) (null (some_is e))
    zeroth false q e = first (nat_eq tag 1) refl e

le_true : (m n : ℕ) → m ≤ n → nat_le m n ≡ true
le_true m n h = grind (arith, nat_tests)

and_true : (a b : Bool) → a ≡ true → b ≡ true → (a && b) ≡ true
and_true true b p q = q
and_true false b p q = p

passed : {A : Type 0} (b : Bool) (x : A) → b ≡ true → (if b then Some x else None) ≡ Some x
passed true x p = refl
passed false x p = cc

unsigned-lt : (z : ℤ) → FitsSigned w64 z → cast_unsigned w64 z < 256 ^ 8
unsigned-lt z h = omega (arith, ints)

-- what is spelled as a cell is read, whatever follows
cell_read : (s : Sort) (v : Value) (tail : List ℕ) → Fits v s → AreI64 (v ∷ []) → length (cell_bytes v) ≤ 65535
    → read_cell s (cell_bytes v ++ tail) ≡ Some (v, length (cell_bytes v))
cell_read s Null tail f i h = refl
cell_read sort.Text (Int z) tail f i h = absurd f
cell_read sort.Int (Text t) tail f i h = absurd f
cell_read sort.Int (Int z) tail f i h =
    let u : ℕ = cast_unsigned w64 z in
    let rest : List ℕ = field 8 u ++ tail in
    let eight : length (field 8 u) ≡ 8 = length-field 8 u in
    let long : nat_le 8 (length rest) ≡ true = le_true 8 (length rest) (omega (arith, length-append (field 8 u) tail)) in
    let value : cast_signed w64 (number 8 rest) ≡ z = ap (cast_signed w64) (number-field 8 u tail (unsigned-lt z i.0)) ∙ to_z-of_z w64 z i.0 in
    passed (nat_le 8 (length rest)) (Int (cast_signed w64 (number 8 rest)), 9) long
    ∙ ap (λ (q : ℤ). Some (Int q, 9)) value
    ∙ ap (λ (k : ℕ). Some (Int z, suc k)) (sym eight)
cell_read sort.Text (Text t) tail f i h =
    let n : ℕ = length t in
    let rest : List ℕ = (field 2 n ++ t) ++ tail in
    let two : length (field 2 n) ≡ 2 = length-field 2 n in
    let inner = length-append (field 2 n) t in
    let outer = length-append (field 2 n ++ t) tail in
    let small : n < 256 ^ 2 = omega (arith, inner, two) in
    let grouped : rest ≡ field 2 n ++ (t ++ tail) = append_assoc (field 2 n) t tail in
    let value : number 2 rest ≡ n = ap (number 2) grouped ∙ number-field 2 n (t ++ tail) small in
    let left : drop 2 rest ≡ t ++ tail = ap (drop 2) grouped ∙ ap (λ (k : ℕ). drop k (field 2 n ++ (t ++ tail))) (sym two) ∙ drop-append_seam (field 2 n) (t ++ tail) in
    let text : take n (drop 2 rest) ≡ t = ap (take n) left ∙ take-append_seam t tail in
    let long : (nat_le 2 (length rest) && nat_le (2 + number 2 rest) (length rest)) ≡ true =
    and_true (nat_le 2 (length rest)) (nat_le (2 + number 2 rest) (length rest))
    (le_true 2 (length rest) (omega (arith, inner, outer, two)))
    (le_true (2 + number 2 rest) (length rest) (omega (arith, inner, outer, two, value))) in
    let count : 3 + n ≡ suc (length (field 2 n ++ t)) = omega (arith, inner, two) in
    passed (nat_le 2 (length rest) && nat_le (2 + number 2 rest) (length rest)) (Text (take (number 2 rest) (drop 2 rest)), 3 + number 2 rest) long
    ∙ ap (λ (k : ℕ). Some (Text (take k (drop 2 rest)), 3 + k)) value
    ∙ ap (λ (q : List ℕ). Some (Text q, 3 + n)) text
    ∙ ap (λ (k : ℕ). Some (Text t, k)) count

-- the cells that are read
record ReadsCells (cells : List Value) (columns : List Column) (bytes : List ℕ) (all : List Value) (rest : List ℕ) : Type 0 where
  more : List Value
  joined : all ≡ cells ++ more
  fits : FitColumns columns more
  ints : AreI64 more
  spelled : bytes ≡ cells_bytes more ++ rest

AreI64-cons : (v : Value) (vs : List Value) → AreI64 (v ∷ []) → AreI64 vs → AreI64 (v ∷ vs)
AreI64-cons Null vs i j = j
AreI64-cons (Int n) vs i j = (i.0, j)
AreI64-cons (Text t) vs i j = j

reads_onto : (cells : List Value) (columns : List Column) (bytes : List ℕ) (all : List Value) (rest : List ℕ) → AreBytes bytes
    → read_onto cells columns bytes ≡ Some (all, rest) → ReadsCells cells columns bytes all rest
reads_onto cells [] bytes all rest bs e =
    let same : (cells, bytes) ≡ (all, rest) = some_is e in
    record { more = []; joined = sym (ap (λ (p : List Value × List ℕ). p.0) same) ∙ sym (append-nil cells); fits = tt; ints = tt; spelled = ap (λ (p : List Value × List ℕ). p.1) same }
reads_onto cells (c ∷ cs) bytes all rest bs e =
    let step = chained (λ (read : Value × ℕ). read_onto (cells ++ read.0 ∷ []) cs (drop read.1 bytes)) (read_cell c.sort bytes) (all, rest) e in
    let v : Value = step.first.0 in
    let n : ℕ = step.first.1 in
    let cell : ReadsCell c.sort bytes v n = reads_cell c.sort bytes v n bs step.first_is in
    let others : ReadsCells (cells ++ v ∷ []) cs (drop n bytes) all rest =
    reads_onto (cells ++ v ∷ []) cs (drop n bytes) all rest (AreBytes-drop n bytes bs) step.then_is in
    record {
      more = v ∷ others.more;
      joined = others.joined ∙ append_assoc cells (v ∷ []) others.more;
      fits = (cell.fits, others.fits);
      ints = AreI64-cons v others.more cell.ints others.ints;
      spelled = cell.spelled ∙ ap (λ (q : List ℕ). cell_bytes v ++ q) others.spelled ∙ sym (append_assoc (cell_bytes v) (cells_bytes others.more) rest);
    }

AreI64-head : (v : Value) (vs : List Value) → AreI64 (v ∷ vs) → AreI64 (v ∷ [])
AreI64-head Null vs i = tt
AreI64-head (Int n) vs i = (i.0, tt)
AreI64-head (Text t) vs i = tt

AreI64-tail : (v : Value) (vs : List Value) → AreI64 (v ∷ vs) → AreI64 vs
AreI64-tail Null vs i = i
AreI64-tail (Int n) vs i = i.1
AreI64-tail (Text t) vs i = i

-- cells that are spelled are read, whatever follows
onto_read : (cells : List Value) (columns : List Column) (vs : List Value) (rest : List ℕ) → FitColumns columns vs → AreI64 vs
    → length (cells_bytes vs) ≤ 65535 → read_onto cells columns (cells_bytes vs ++ rest) ≡ Some (cells ++ vs, rest)
onto_read cells [] [] rest f i h = ap (λ (q : List Value). Some (q, rest)) (sym (append-nil cells))
onto_read cells [] (v ∷ vs) rest f i h = absurd f
onto_read cells (c ∷ cs) [] rest f i h = absurd f
onto_read cells (c ∷ cs) (v ∷ vs) rest f i h =
    let lengths = length-append (cell_bytes v) (cells_bytes vs) in
    let split : (cell_bytes v ++ cells_bytes vs) ++ rest ≡ cell_bytes v ++ (cells_bytes vs ++ rest) = append_assoc (cell_bytes v) (cells_bytes vs) rest in
    let first : read_cell c.sort (cell_bytes v ++ (cells_bytes vs ++ rest)) ≡ Some (v, length (cell_bytes v)) =
    cell_read c.sort v (cells_bytes vs ++ rest) f.0 (AreI64-head v vs i) (omega (arith, lengths)) in
    let left : drop (length (cell_bytes v)) (cell_bytes v ++ (cells_bytes vs ++ rest)) ≡ cells_bytes vs ++ rest =
    drop-append_seam (cell_bytes v) (cells_bytes vs ++ rest) in
    ap (λ (q : List ℕ). read_onto cells (c ∷ cs) q) split
    ∙ ap (option_and_then (λ (read : Value × ℕ). read_onto (cells ++ read.0 ∷ []) cs (drop read.1 (cell_bytes v ++ (cells_bytes vs ++ rest))))) first
    ∙ ap (read_onto (cells ++ v ∷ []) cs) left
    ∙ onto_read (cells ++ v ∷ []) cs vs rest f.1 (AreI64-tail v vs i) (omega (arith, lengths))
    ∙ ap (λ (q : List Value). Some (q, rest)) (append_assoc cells (v ∷ []) vs)

-- a key that is read
record ReadsKey (s : Sort) (key : List ℕ) (k : Value) : Type 0 where
  fits : Fits k s
  ints : AreI64 (k ∷ [])
  there : k ≢ Null
  spelled : key ≡ key_bytes k

ranked_again : (n : ℕ) → n < 2 ^ 64 → rank (negsuc 9223372036854775807 +ℤ pos n) ≡ n
ranked_again n h = omega (arith, ints)

rank_fits : (n : ℕ) → n < 2 ^ 64 → FitsSigned w64 (negsuc 9223372036854775807 +ℤ pos n)
rank_fits n h = omega (arith, ints)

reads_key : (s : Sort) (key : List ℕ) (k : Value) → AreBytes key → read_key s key ≡ Some k → ReadsKey s key k
reads_key sort.Text key k bs e =
    subst (ReadsKey sort.Text key) (some_is e) (record { fits = tt; ints = tt; there = λ q. cc; spelled = refl })
reads_key sort.Int key k bs e =
    let n : ℕ = number 8 key in
    let t = tested (nat_eq (length key) 8) (Int (negsuc 9223372036854775807 +ℤ pos n)) k e in
    let eight : length key ≡ 8 = nat_eq_is (length key) 8 t.0 in
    let below : n < 2 ^ 64 = number-lt 8 key bs in
    let whole_key : take 8 key ≡ key = ap (λ (q : ℕ). take q key) (sym eight) ∙ take-length key in
    let spelled : key ≡ field 8 (rank (negsuc 9223372036854775807 +ℤ pos n)) =
    sym (ap (field 8) (ranked_again n below) ∙ field-number 8 key bs (omega arith) ∙ whole_key) in
    subst (ReadsKey sort.Int key) t.1 (record { fits = tt; ints = (rank_fits n below, tt); there = λ q. cc; spelled = spelled })

rank-lt : (z : ℤ) → FitsSigned w64 z → rank z < 256 ^ 8
rank-lt z h = omega (arith, ints)

from_rank : (z : ℤ) → FitsSigned w64 z → negsuc 9223372036854775807 +ℤ pos (rank z) ≡ z
from_rank z h = omega (arith, ints)

nat_eq_true : (m n : ℕ) → m ≡ n → nat_eq m n ≡ true
nat_eq_true m n h = grind (arith, nat_tests)

key_read : (s : Sort) (k : Value) → Fits k s → AreI64 (k ∷ []) → k ≢ Null → read_key s (key_bytes k) ≡ Some k
key_read s Null f i h = absurd (h refl)
key_read sort.Int (Text t) f i h = absurd f
key_read sort.Text (Int z) f i h = absurd f
key_read sort.Text (Text t) f i h = refl
key_read sort.Int (Int z) f i h =
    let eight : length (field 8 (rank z)) ≡ 8 = length-field 8 (rank z) in
    let back : number 8 (field 8 (rank z)) ≡ rank z =
    ap (number 8) (sym (append-nil (field 8 (rank z)))) ∙ number-field 8 (rank z) [] (rank-lt z i.0) in
    passed (nat_eq (length (field 8 (rank z))) 8) (Int (negsuc 9223372036854775807 +ℤ pos (number 8 (field 8 (rank z))))) (nat_eq_true (length (field 8 (rank z))) 8 eight)
    ∙ ap (λ (q : ℕ). Some (Int (negsuc 9223372036854775807 +ℤ pos q))) back
    ∙ ap (λ (q : ℤ). Some (Int q)) (from_rank z i.0)

pub reads_back : ReadsKeysBack
reads_back s Null is f = absurd is
reads_back s (Int z) is f = key_read s (Int z) f (is, tt) (λ e. cc)
reads_back s (Text t) is f = key_read s (Text t) f tt (λ e. cc)

-- ---- rows

whole_is : (o : Option (List Value × List ℕ)) (row : List Value) → whole o ≡ Some row → o ≡ Some (row, [])
whole_is None row e = none_not_some e
whole_is (Some (r, [])) row e = ap (λ (q : List Value). Some (q, [])) (some_is e)
whole_is (Some (r, b ∷ bs)) row e = none_not_some e

fit_append : (cs ds : List Column) (vs ws : List Value) → FitColumns cs vs → FitColumns ds ws → FitColumns (cs ++ ds) (vs ++ ws)
fit_append [] ds [] ws f g = g
fit_append [] ds (v ∷ vs) ws f g = absurd f
fit_append (c ∷ cs) ds [] ws f g = absurd f
fit_append (c ∷ cs) ds (v ∷ vs) ws f g = (f.0, fit_append cs ds vs ws f.1 g)

fit_take : (n : ℕ) (cs : List Column) (vs : List Value) → FitColumns cs vs → FitColumns (take n cs) (take n vs)
fit_take zero cs vs f = tt
fit_take (suc n) [] [] f = tt
fit_take (suc n) [] (v ∷ vs) f = absurd f
fit_take (suc n) (c ∷ cs) [] f = absurd f
fit_take (suc n) (c ∷ cs) (v ∷ vs) f = (f.0, fit_take n cs vs f.1)

fit_drop : (n : ℕ) (cs : List Column) (vs : List Value) → FitColumns cs vs → FitColumns (drop n cs) (drop n vs)
fit_drop zero cs vs f = f
fit_drop (suc n) [] [] f = tt
fit_drop (suc n) [] (v ∷ vs) f = absurd f
fit_drop (suc n) (c ∷ cs) [] f = absurd f
fit_drop (suc n) (c ∷ cs) (v ∷ vs) f = fit_drop n cs vs f.1

fit_at : (n : ℕ) (cs : List Column) (vs : List Value) (c : Column) (v : Value) → FitColumns cs vs
    → slice_get cs n ≡ Some c → slice_get vs n ≡ Some v → Fits v c.sort
fit_at n [] vs c v f p q = none_not_some p
fit_at n (d ∷ cs) [] c v f p q = absurd f
fit_at zero (d ∷ cs) (w ∷ vs) c v f p q = subst (λ (x : Column). Fits v x.sort) (some_is p) (subst (λ (x : Value). Fits x d.sort) (some_is q) f.0)
fit_at (suc n) (d ∷ cs) (w ∷ vs) c v f p q = fit_at n cs vs c v f.1 p q

parted-suc : {A : Type 0} (n : ℕ) (xs : List A) (x : A) → slice_get xs n ≡ Some x → xs ≡ take n xs ++ (x ∷ drop (suc n) xs)
parted-suc n [] x e = none_not_some e
parted-suc zero (y ∷ xs) x e = ap (λ q. q ∷ xs) (some_is e)
parted-suc (suc n) (y ∷ xs) x e = ap (λ q. y ∷ q) (parted-suc n xs x e)

-- a list is the part before a place, what stands there, and the part after it
parted : {A : Type 0} (n : ℕ) (xs : List A) (x : A) → slice_get xs n ≡ Some x → xs ≡ take n xs ++ (x ∷ drop (n + 1) xs)
parted n xs x e = let one : n + 1 ≡ suc n = omega arith in parted-suc n xs x e ∙ ap (λ (q : ℕ). take n xs ++ (x ∷ drop q xs)) (sym one)

slice_get_parted : {A : Type 0} (xs : List A) (x : A) (ys : List A) → slice_get (xs ++ (x ∷ ys)) (length xs) ≡ Some x
slice_get_parted [] x ys = refl
slice_get_parted (y ∷ xs) x ys = slice_get_parted xs x ys

pub FitColumns-length : (cs : List Column) (vs : List Value) → FitColumns cs vs → length vs ≡ length cs
FitColumns-length [] [] f = refl
FitColumns-length [] (v ∷ vs) f = absurd f
FitColumns-length (c ∷ cs) [] f = absurd f
FitColumns-length (c ∷ cs) (v ∷ vs) f = ap suc (FitColumns-length cs vs f.1)

AreI64-append : (vs ws : List Value) → AreI64 vs → AreI64 ws → AreI64 (vs ++ ws)
AreI64-append [] ws i j = j
AreI64-append (v ∷ vs) ws i j = AreI64-cons v (vs ++ ws) (AreI64-head v vs i) (AreI64-append vs ws (AreI64-tail v vs i) j)

AreI64-take : (n : ℕ) (vs : List Value) → AreI64 vs → AreI64 (take n vs)
AreI64-take zero vs i = tt
AreI64-take (suc n) [] i = tt
AreI64-take (suc n) (v ∷ vs) i = AreI64-cons v (take n vs) (AreI64-head v vs i) (AreI64-take n vs (AreI64-tail v vs i))

AreI64-drop : (n : ℕ) (vs : List Value) → AreI64 vs → AreI64 (drop n vs)
AreI64-drop zero vs i = i
AreI64-drop (suc n) [] i = tt
AreI64-drop (suc n) (v ∷ vs) i = AreI64-drop n vs (AreI64-tail v vs i)

AreI64-at : (n : ℕ) (vs : List Value) (v : Value) → AreI64 vs → slice_get vs n ≡ Some v → AreI64 (v ∷ [])
AreI64-at n [] v i e = none_not_some e
AreI64-at zero (w ∷ vs) v i e = subst (λ (x : Value). AreI64 (x ∷ [])) (some_is e) (AreI64-head w vs i)
AreI64-at (suc n) (w ∷ vs) v i e = AreI64-at n vs v (AreI64-tail w vs i) e

AreBytes-right : (xs ys : List ℕ) → AreBytes (xs ++ ys) → AreBytes ys
AreBytes-right [] ys bs = bs
AreBytes-right (x ∷ xs) ys bs = AreBytes-right xs ys (λ k. bs (suc k))

-- the row of the cells before the key, the key and the cells after it
row_from : (schema : Schema) (key value : List ℕ) (column : Column) (before : List Value) (k : Value) (after : List Value)
    → slice_get schema.columns schema.key ≡ Some column → FitColumns (take schema.key schema.columns) before → FitColumns (drop (schema.key + 1) schema.columns) after
    → Fits k column.sort → k ≢ Null → AreI64 before → AreI64 (k ∷ after) → key ≡ key_bytes k → value ≡ cells_bytes before ++ cells_bytes after
    → length key ≤ MAX_KEY_BYTES → record_length key value ≤ MAX_RECORD_BYTES → IsRecord schema (before ++ (k ∷ after)) key value
row_from schema key value column before k after there f g fk nk i j ek ev hk hv =
    let at : ℕ = schema.key in
    let cols : List Column = schema.columns in
    let row : List Value = before ++ (k ∷ after) in
    let inside : at < length cols = slice_get_within cols at column there in
    let long : length before ≡ at = FitColumns-length (take at cols) before f ∙ length-take-le at cols (omega arith) in
    let got : slice_get row at ≡ Some k = ap (slice_get row) (sym long) ∙ slice_get_parted before k after in
    let front : take at row ≡ before = ap (λ (n : ℕ). take n row) (sym long) ∙ take-append_seam before (k ∷ after) in
    let one : at + 1 ≡ length before + 1 = omega arith in
    let back : drop (at + 1) row ≡ after = ap (λ (n : ℕ). drop n row) one ∙ drop-append-add before (k ∷ after) 1 in
    record {
      fits = record {
        cells = subst (λ (q : List Column). FitColumns q row) (sym (parted at cols column there)) (fit_append (take at cols) (column ∷ drop (at + 1) cols) before (k ∷ after) f (fk, g));
        key = subst (λ (o : Option Value). IsSomeAnd o (λ v. v ≢ Null)) (sym got) nk;
      };
      ints = AreI64-append before (k ∷ after) i j;
      key_is = ek ∙ ap key_bytes (sym (get_or_from_slice_get row at k Null got));
      value_is = ev ∙ sym (ap (λ (q : List Value). cells_bytes q ++ cells_bytes (drop (at + 1) row)) front ∙ ap (λ (q : List Value). cells_bytes before ++ cells_bytes q) back);
      short_key = hk;
      short_record = hv;
    }

-- what is read is a row with that key and value
row_reads : (schema : Schema) (key value : List ℕ) (column : Column) (row : List Value) → AreBytes key → AreBytes value
    → slice_get schema.columns schema.key ≡ Some column → length key ≤ MAX_KEY_BYTES → record_length key value ≤ MAX_RECORD_BYTES
    → read_row schema.columns schema.key column.sort key value ≡ Some row → IsRecord schema row key value
row_reads schema key value column row bk bv there hk hv e =
    let at : ℕ = schema.key in
    let cols : List Column = schema.columns in
    let one = chained (λ (before : List Value × List ℕ). option_and_then
    (λ (k : Value). whole (read_onto (before.0 ++ k ∷ []) (drop (at + 1) cols) before.1)) (read_key column.sort key))
    (read_onto [] (take at cols) value) row e in
    let before : List Value = one.first.0 in
    let rest : List ℕ = one.first.1 in
    let front : ReadsCells [] (take at cols) value before rest = reads_onto [] (take at cols) value before rest bv one.first_is in
    let two = chained (λ (k : Value). whole (read_onto (before ++ k ∷ []) (drop (at + 1) cols) rest)) (read_key column.sort key) row one.then_is in
    let k : Value = two.first in
    let found : ReadsKey column.sort key k = reads_key column.sort key k bk two.first_is in
    let three : read_onto (before ++ k ∷ []) (drop (at + 1) cols) rest ≡ Some (row, []) =
    whole_is (read_onto (before ++ k ∷ []) (drop (at + 1) cols) rest) row two.then_is in
    let left : AreBytes rest = AreBytes-right (cells_bytes front.more) rest (subst AreBytes front.spelled bv) in
    let back : ReadsCells (before ++ k ∷ []) (drop (at + 1) cols) rest row [] =
    reads_onto (before ++ k ∷ []) (drop (at + 1) cols) rest row [] left three in
    let joined : row ≡ front.more ++ (k ∷ back.more) =
    back.joined ∙ append_assoc before (k ∷ []) back.more ∙ ap (λ (q : List Value). q ++ (k ∷ back.more)) front.joined in
    let bytes : value ≡ cells_bytes front.more ++ cells_bytes back.more =
    front.spelled ∙ ap (λ (q : List ℕ). cells_bytes front.more ++ q) (back.spelled ∙ append-nil (cells_bytes back.more)) in
    subst (λ (q : List Value). IsRecord schema q key value) (sym joined)
    (row_from schema key value column front.more k back.more there front.fits back.fits found.fits found.there front.ints (AreI64-cons k back.more found.ints back.ints) found.spelled bytes hk hv)

-- a value that is there
record There {A : Type 0} (o : Option A) (P : A → Type 0) : Type 0 where
  item : A
  is : o ≡ Some item
  holds : P item

there_is : {A : Type 0} (o : Option A) (P : A → Type 0) → IsSomeAnd o P → There o P
there_is None P h = absurd h
there_is (Some x) P h = record { item = x; is = refl; holds = h }

-- a row with that key and value is read
row_read : (schema : Schema) (key value : List ℕ) (column : Column) (row : List Value)
    → slice_get schema.columns schema.key ≡ Some column → IsRecord schema row key value
    → read_row schema.columns schema.key column.sort key value ≡ Some row
row_read schema key value column row there r =
    let at : ℕ = schema.key in
    let cols : List Column = schema.columns in
    let front : List Value = take at row in
    let back : List Value = drop (at + 1) row in
    let found = there_is (slice_get row at) (λ v. v ≢ Null) r.fits.key in
    let k : Value = found.item in
    let cell : key_cell at row ≡ k = get_or_from_slice_get row at k Null found.is in
    let lengths = length-append (cells_bytes front) (cells_bytes back) in
    let total : length value ≡ length (cells_bytes front ++ cells_bytes back) = ap length r.value_is in
    let short = r.short_record in
    let first : read_onto [] (take at cols) value ≡ Some (front, cells_bytes back) =
    ap (read_onto [] (take at cols)) r.value_is
    ∙ onto_read [] (take at cols) front (cells_bytes back) (fit_take at cols row r.fits.cells) (AreI64-take at row r.ints) (omega (arith, lengths, total, short)) in
    let second : read_key column.sort key ≡ Some k =
    ap (read_key column.sort) (r.key_is ∙ ap key_bytes cell)
    ∙ key_read column.sort k (fit_at at cols row column k r.fits.cells there found.is) (AreI64-at at row k r.ints found.is) found.holds in
    let third : read_onto (front ++ k ∷ []) (drop (at + 1) cols) (cells_bytes back) ≡ Some ((front ++ k ∷ []) ++ back, []) =
    ap (read_onto (front ++ k ∷ []) (drop (at + 1) cols)) (sym (append-nil (cells_bytes back)))
    ∙ onto_read (front ++ k ∷ []) (drop (at + 1) cols) back [] (fit_drop (at + 1) cols row r.fits.cells) (AreI64-drop (at + 1) row r.ints) (omega (arith, lengths, total, short)) in
    ap (option_and_then (λ (before : List Value × List ℕ). option_and_then
    (λ (k : Value). whole (read_onto (before.0 ++ k ∷ []) (drop (at + 1) cols) before.1)) (read_key column.sort key))) first
    ∙ ap (option_and_then (λ (k : Value). whole (read_onto (front ++ k ∷ []) (drop (at + 1) cols) (cells_bytes back)))) second
    ∙ ap whole third
    ∙ ap Some (append_assoc front (k ∷ []) back ∙ sym (parted at row k found.is))

-- within the limits, what is read is the row with that key and value, or there is none
pub row_is : (schema : Schema) (key value : List ℕ) (column : Column) (row : Option (List Value)) → AreBytes key → AreBytes value
    → slice_get schema.columns schema.key ≡ Some column → length key ≤ MAX_KEY_BYTES → record_length key value ≤ MAX_RECORD_BYTES
    → row ≡ read_row schema.columns schema.key column.sort key value → IsRowOrNone schema key value row
row_is schema key value column None bk bv there hk hv e = λ r is. none_not_some (e ∙ row_read schema key value column r there is)
row_is schema key value column (Some row) bk bv there hk hv e = row_reads schema key value column row bk bv there hk hv (sym e)

-- past the limits there is none, and none where the schema lacks its key column
pub no_row : (schema : Schema) (key value : List ℕ)
    → (length schema.columns ≤ schema.key) ⊎ ((MAX_KEY_BYTES < length key) ⊎ (MAX_RECORD_BYTES < record_length key value)) → IsRowOrNone schema key value None
no_row schema key value (inr (inl h)) = λ r is. absurd (let short = is.short_key in omega arith)
no_row schema key value (inr (inr h)) = λ r is. absurd (let short = is.short_record in omega arith)
no_row schema key value (inl h) = λ r is.
    let found = there_is (slice_get r schema.key) (λ v. v ≢ Null) is.fits.key in
    let inside = slice_get_within r schema.key found.item found.is in
    let long = FitColumns-length schema.columns r is.fits.cells in
    absurd (omega (arith, inside, long))

column_at : (n : ℕ) (cs : List Column) (vs : List Value) (v : Value) → FitColumns cs vs → slice_get vs n ≡ Some v → There (slice_get cs n) (λ _. Unit {0})
column_at n cs [] v f e = none_not_some e
column_at n [] (w ∷ vs) v f e = absurd f
column_at zero (c ∷ cs) (w ∷ vs) v f e = record { item = c; is = refl; holds = tt }
column_at (suc n) (c ∷ cs) (w ∷ vs) v f e = column_at n cs vs v f.1 e

-- a key and a value are those of one row alone
pub one_row : OneRow
one_row schema r s key value is_r is_s =
    let found = there_is (slice_get r schema.key) (λ v. v ≢ Null) is_r.fits.key in
    let column = column_at schema.key schema.columns r found.item is_r.fits.cells found.is in
    some_is (sym (row_read schema key value column.item r column.is is_r) ∙ row_read schema key value column.item s column.is is_s)

-- the same of an answer that may want memory
pub answer_is : {E : Type 0} (schema : Schema) (key value : List ℕ) (column : Column) (r : Result (Option (List Value)) E) → AreBytes key → AreBytes value
    → slice_get schema.columns schema.key ≡ Some column → length key ≤ MAX_KEY_BYTES → record_length key value ≤ MAX_RECORD_BYTES
    → IfOk r (λ row. row ≡ read_row schema.columns schema.key column.sort key value) → IfOk r (IsRowOrNone schema key value)
answer_is schema key value column (Err e) bk bv there hk hv h = tt
answer_is schema key value column (Ok row) bk bv there hk hv h = row_is schema key value column row bk bv there hk hv h
