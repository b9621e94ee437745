-- Bytes in chunks.
use Rattle.std.proofs.Common.{◌≡◌, ◌≤◌, ◌+◌, ◌*◌, ℕ, zero, suc, List, [], ◌∷◌, ◌++◌, length, take, drop, Some, None, sym, ap, ◌∙◌, append_assoc, append-nil, length-append, inl, inr, arith}
use Rattle.std.proofs.Math.Nat.{mul-le-mul_left}
use Rattle.std.proofs.lemmas.Bool.{cases_lt}
use Rattle.std.specs.List.{concat, AllByRecursion, slice_get}
use Rattle.std.proofs.lemmas.List.{take_at, drop_at, take_all, drop-drop}
use Rattle.std.proofs.lemmas.List.Folds.{concat-append}
use Rattle.log_chunks.specs.Chunked.{AreFull}

abbrev Each : ℕ → List (List ℕ) → Type 0
Each n chunks = AllByRecursion (λ chunk. length chunk ≡ n) chunks

pub AreFull-append : (xs ys : List (List ℕ)) → AreFull xs → AreFull ys → AreFull (xs ++ ys)
AreFull-append [] ys a b = b
AreFull-append (x ∷ xs) ys a b = (a.0, AreFull-append xs ys a.1 b)

-- one more chunk
pub concat-push : (xs : List (List ℕ)) (x rest : List ℕ) → concat (xs ++ x ∷ []) ++ rest ≡ concat xs ++ (x ++ rest)
concat-push xs x rest =
    ap (λ (b : List ℕ). b ++ rest) (concat-append xs (x ∷ []))
    ∙ ap (λ (b : List ℕ). (concat xs ++ b) ++ rest) (append-nil x)
    ∙ append_assoc (concat xs) x rest

-- chunks that hold the open one and the new bytes, behind those that are full
pub concat-filled : (xs ys : List (List ℕ)) (o first rest more : List ℕ) → concat ys ++ rest ≡ concat ((o ++ first) ∷ []) ++ more
    → concat (xs ++ ys) ++ rest ≡ (concat xs ++ o) ++ (first ++ more)
concat-filled xs ys o first rest more e =
    ap (λ (b : List ℕ). b ++ rest) (concat-append xs ys)
    ∙ append_assoc (concat xs) (concat ys) rest
    ∙ ap (λ (b : List ℕ). concat xs ++ b) (e ∙ ap (λ (b : List ℕ). b ++ more) (append-nil (o ++ first)) ∙ append_assoc o first more)
    ∙ sym (append_assoc (concat xs) o (first ++ more))

pub length-concat : (n : ℕ) (xs : List (List ℕ)) → Each n xs → length (concat xs) ≡ n * length xs
length-concat n [] h = omega arith
length-concat n (x ∷ xs) h = omega (arith, length-append x (concat xs), h.0, length-concat n xs h.1)

-- a full chunk stands at its place
pub chunk_at : (n i : ℕ) (xs : List (List ℕ)) (o c : List ℕ) → Each n xs → slice_get xs i ≡ Some c → take n (drop (n * i) (concat xs ++ o)) ≡ c
chunk_at n i [] o c h e = absurd cc
chunk_at n zero (x ∷ xs) o c h e =
    let none : n * 0 ≡ 0 = omega arith in
    let is : x ≡ c = cc in
    ap (λ (k : ℕ). take n (drop k ((x ++ concat xs) ++ o))) none
    ∙ ap (take n) (append_assoc x (concat xs) o) ∙ take_at x (concat xs ++ o) n h.0 ∙ is
chunk_at n (suc i) (x ∷ xs) o c h e =
    let more : n * suc i ≡ n + n * i = omega arith in
    ap (λ (k : ℕ). take n (drop k ((x ++ concat xs) ++ o))) more
    ∙ ap (take n) (sym (drop-drop (n * i) n ((x ++ concat xs) ++ o)))
    ∙ ap (λ (b : List ℕ). take n (drop (n * i) b)) (ap (drop n) (append_assoc x (concat xs) o) ∙ drop_at x (concat xs ++ o) n h.0)
    ∙ chunk_at n i xs o c h.1 e

-- the open one stands at the end
pub open_at : (n : ℕ) (xs : List (List ℕ)) (o : List ℕ) → Each n xs → length o ≤ n → take n (drop (n * length xs) (concat xs ++ o)) ≡ o
open_at n xs o h le = ap (take n) (drop_at (concat xs) o (n * length xs) (length-concat n xs h)) ∙ take_all n o le

-- past the last full chunk, or the open one where it has bytes, none stands
pub none_at : (n i : ℕ) (xs : List (List ℕ)) (o : List ℕ) → Each n xs → length o ≤ n → length xs ≤ i → ((i ≡ length xs) → o ≡ []) → length (concat xs ++ o) ≤ n * i
none_at n i xs o h le past none =
    let whole : length (concat xs ++ o) ≡ n * length xs + length o = length-append (concat xs) o ∙ ap (λ (k : ℕ). k + length o) (length-concat n xs h) in
    elim (cases_lt (length xs) i) [
      | inl later ↦
          let further : n * (length xs + 1) ≤ n * i = mul-le-mul_left n (omega arith) in
          let here : n * (length xs + 1) ≡ n * length xs + n = omega arith in
          omega (arith, whole, further, here)
      | inr here ↦
          let same : i ≡ length xs = omega arith in
          let empty : length o ≡ 0 = ap length (none same) in
          let at : n * i ≡ n * length xs = ap (λ (k : ℕ). n * k) same in
          omega (arith, whole, empty, at)
    ]

pub past_end : (i : ℕ) (xs : List (List ℕ)) → slice_get xs i ≡ None → length xs ≤ i
past_end i [] e = omega arith
past_end zero (x ∷ xs) e = absurd cc
past_end (suc i) (x ∷ xs) e = let rest = past_end i xs e in omega (arith, rest)
