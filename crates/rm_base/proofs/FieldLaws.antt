-- The laws of a number in bytes.
use Rattle.std.proofs.Common.{◌≡◌, ◌≤◌, ◌<◌, ◌+◌, ◌-◌, ◌*◌, ◌/◌, ◌%◌, ◌^◌, ℕ, zero, suc, List, [], ◌∷◌, ◌++◌, length, take, drop, get_or, slice_index, refl, sym, ◌∙◌, ap, arith, append_assoc, append-nil, length-append, length-drop, length-take, add-suc}
use Rattle.std.proofs.lemmas.List.{take-append-drop, drop_more, drop-drop, take-append-le, get_or-drop}
use Rattle.std.proofs.lemmas.Slice.{between_to_end}
use Rattle.std.proofs.lemmas.Nat.{pow-add, div-mul-add}
use Rattle.std.proofs.Math.Nat.{add-mul-mod_self_right, mul-add-div_right, one-le-pow, mod-eq_of_lt, div-one}
use Rattle.std.proofs.Math.Seq.{drop-length, take-append_seam, drop-append_seam, take-suc, drop-cons}
use Rattle.std.specs.Int.{bytes_high_first, byte_at}
use Rattle.byteorder.specs.Endian.{big_bytes, big_number, big_from}
use Rattle.byteorder.specs.Numbers.{length-bytes_high_first, big_number-reads_back, big_from-append, big_from-lt}
use borrow.Rule.Slice.PartMut.{put_mid}
use Rattle.rm_base.specs.Fields.{field, number, with_field, AreBytes, ReadsBack, PutsBack}

-- a field of n bytes has n bytes
pub length-field : (n x : ℕ) → length (field n x) ≡ n
unfolding field
length-field n x = length-bytes_high_first n x

-- the number read is the one that was put, whatever follows
pub number-field : (n x : ℕ) (rest : List ℕ) → x < 256 ^ n → number n (field n x ++ rest) ≡ x
unfolding field number
number-field n x rest h = big_number-reads_back n x rest h

-- the number reads only the first n bytes
pub number-append : (n : ℕ) (xs ys : List ℕ) → n ≤ length xs → number n (xs ++ ys) ≡ number n xs
unfolding number
number-append n xs ys h = big_from-append n xs ys h

-- a number of n bytes is below 256 ^ n
pub number-lt : (n : ℕ) (xs : List ℕ) → AreBytes xs → number n xs < 256 ^ n
unfolding number
number-lt n xs h = big_from-lt 0 n xs h

byte_at-is : (k x : ℕ) → byte_at k x ≡ x / 256 ^ k % 256
byte_at-is zero x = ap (λ (y : ℕ). y % 256) (sym (div-one x))
byte_at-is (suc k) x = refl

pow256_pos : (n : ℕ) → 0 < 256 ^ n
pow256_pos n = let h = one-le-pow n 256 (omega arith) in omega arith

regroup : (a p q : ℕ) → a * (p * 256 * q) ≡ a * p * 256 * q
regroup a p q = grind arith

-- a byte below place n does not see what stands from place n on
byte_at-above : (k n a r : ℕ) → k < n → byte_at k (a * 256 ^ n + r) ≡ byte_at k r
byte_at-above k n a r h =
    let m : ℕ = n - suc k in
    let split : n ≡ (m + 1) + k = omega arith in
    let one_more : 256 ^ (m + 1) ≡ 256 ^ m * 256 = pow-add 256 m 1 in
    let powers : a * (256 ^ (m + 1) * 256 ^ k) ≡ a * 256 ^ m * 256 * 256 ^ k =
    ap (λ (q : ℕ). a * (q * 256 ^ k)) one_more ∙ regroup a (256 ^ m) (256 ^ k) in
    let p : a * 256 ^ n ≡ (a * 256 ^ m * 256) * 256 ^ k = ap (λ (q : ℕ). a * 256 ^ q) split ∙ ap (λ (q : ℕ). a * q) (pow-add 256 (m + 1) k) ∙ powers in
    let moved : (a * 256 ^ n + r) / 256 ^ k ≡ a * 256 ^ m * 256 + r / 256 ^ k =
    ap (λ (q : ℕ). (q + r) / 256 ^ k) p ∙ mul-add-div_right (pow256_pos k) (a * 256 ^ m * 256) r in
    byte_at-is k (a * 256 ^ n + r) ∙ ap (λ (q : ℕ). q % 256) moved
    ∙ (let swapped : a * 256 ^ m * 256 + r / 256 ^ k ≡ r / 256 ^ k + a * 256 ^ m * 256 = omega arith in ap (λ (q : ℕ). q % 256) swapped)
    ∙ add-mul-mod_self_right (r / 256 ^ k) (a * 256 ^ m) 256 ∙ sym (byte_at-is k r)

bytes-above : (k n a r : ℕ) → k ≤ n → bytes_high_first k (a * 256 ^ n + r) ≡ bytes_high_first k r
bytes-above zero n a r h = refl
bytes-above (suc k) n a r h =
    ap (λ (b : ℕ). b ∷ bytes_high_first k (a * 256 ^ n + r)) (byte_at-above k n a r (omega arith))
    ∙ ap (λ (bs : List ℕ). byte_at k r ∷ bs) (bytes-above k n a r (omega arith))

top_byte : (n b r : ℕ) → b < 256 → r < 256 ^ n → byte_at n (b * 256 ^ n + r) ≡ b
top_byte n b r hb hr =
    byte_at-is n (b * 256 ^ n + r) ∙ ap (λ (q : ℕ). q % 256) (div-mul-add b (256 ^ n) r hr) ∙ mod-eq_of_lt hb

bytes-big_from : (i n : ℕ) (xs : List ℕ) → AreBytes xs → i + n ≤ length xs → bytes_high_first n (big_from i n xs) ≡ take n (drop i xs)
bytes-big_from i zero xs bs h = refl
bytes-big_from i (suc n) xs bs h =
    let b : ℕ = slice_index xs i in
    let r : ℕ = big_from (suc i) n xs in
    let below : r < 256 ^ n = big_from-lt (suc i) n xs bs in
    let rest : bytes_high_first n (b * 256 ^ n + r) ≡ take n (drop (suc i) xs) =
    bytes-above n n b r (omega arith) ∙ bytes-big_from (suc i) n xs bs (omega arith) in
    ap (λ (q : ℕ). q ∷ bytes_high_first n (b * 256 ^ n + r)) (top_byte n b r (bs i) below)
    ∙ ap (λ (q : List ℕ). b ∷ q) rest
    ∙ ap (take (suc n)) (sym (drop-cons xs i 0 (omega arith)))

-- the bytes of the number read are the bytes that were read
pub field-number : (n : ℕ) (xs : List ℕ) → AreBytes xs → n ≤ length xs → field n (number n xs) ≡ take n xs
unfolding field number
field-number n xs bs h = bytes-big_from 0 n xs bs (omega arith)

AreBytes-drop : (at : ℕ) (xs : List ℕ) → AreBytes xs → AreBytes (drop at xs)
AreBytes-drop at xs bs = λ k. rw (get_or-drop at xs k 0) (bs (at + k))

-- what stands after a write at the end of `bytes[at..]`
pub put_field : (n at x : ℕ) (old part : List ℕ) → at + n ≤ length old → part ≡ field n x ++ drop n (take (length old - at) (drop at old))
    → put_mid at (length old - at) old part ≡ with_field n old at x
put_field n at x old part h e =
    let whole : take (length old - at) (drop at old) ≡ drop at old =
    between_to_end old at (length old) (omega arith) in
    let tail : drop n (take (length old - at) (drop at old)) ≡ drop (at + n) old = ap (drop n) whole ∙ drop-drop n at old in
    let none : drop (length old - at) (drop at old) ≡ [] =
    ap (λ (q : ℕ). drop q (drop at old)) (sym (length-drop at old)) ∙ drop-length (drop at old) in
    ap (λ (q : List ℕ). take at old ++ (part ++ q)) none
    ∙ ap (λ (q : List ℕ). take at old ++ q) (append-nil part ∙ e)
    ∙ ap (λ (q : List ℕ). take at old ++ (field n x ++ q)) tail

pub reads_back : ReadsBack
reads_back n at x bytes below inside =
    let there : length (take at bytes) ≡ at = length-take at bytes ∙ omega arith in
    ap (number n) (ap (λ (q : ℕ). drop q (with_field n bytes at x)) (sym there) ∙ drop-append_seam (take at bytes) (field n x ++ drop (at + n) bytes))
    ∙ number-field n x (drop (at + n) bytes) below

pub puts_back : PutsBack
puts_back n at bytes bs inside =
    let part : field n (number n (drop at bytes)) ≡ take n (drop at bytes) =
    field-number n (drop at bytes) (AreBytes-drop at bytes bs) (rw length-drop (omega arith)) in
    ap (λ (q : List ℕ). take at bytes ++ (q ++ drop (at + n) bytes)) part
    ∙ ap (λ (q : List ℕ). take at bytes ++ (take n (drop at bytes) ++ q)) (sym (drop-drop n at bytes))
    ∙ ap (λ (q : List ℕ). take at bytes ++ q) (take-append-drop n (drop at bytes))
    ∙ take-append-drop at bytes
