-- Chunks by their numbers.
use Rattle.std.proofs.Common.{◌≡◌, ◌≢◌, ◌≤◌, ◌<◌, ◌+◌, ◌-◌, ℕ, zero, suc, Bool, true, false, cond, nat_eq, nat_lt, eqb-true, List, [], ◌∷◌, ◌++◌, length, length-append, set, get_or-set_same, get_or-set_other, refl, sym, ap, subst, ◌∙◌, arith}
use Rattle.std.proofs.lemmas.Bool.{ltb-true, ltb-false}
use Rattle.std.proofs.lemmas.List.Sums.{sum_by-set, sum_by-cons}
use Rattle.std.proofs.Math.ListN.{get_or-append}
use Rattle.std.proofs.Math.Seq.{get_or-append_seam}
use Rattle.page_chunks.specs.Chunk.{Chunk}
use Rattle.storage_service.specs.Storage.{no_chunk, chunk_at}
use Rattle.storage_service.specs.Keeping.{count_behind, IsBlank}

-- what holds of each of the chunks, also of one more
pub each_more : (P : ℕ → Chunk → Type 0) (cs : List Chunk) (x : Chunk) → ((i : ℕ) → i < length cs → P i (chunk_at cs i)) → P (length cs) x
    → (i : ℕ) → i < length (cs ++ x ∷ []) → P i (chunk_at (cs ++ x ∷ []) i)
each_more P cs x all one i within = by (nat_lt i (length cs)) refl
  where
    by : (b : Bool) → nat_lt i (length cs) ≡ b → P i (chunk_at (cs ++ x ∷ []) i)
    by true h =
        let less : i < length cs = ltb-true i (length cs) h in
        subst (λ (k : Chunk). P i k) (sym (get_or-append cs (x ∷ []) no_chunk i less)) (all i less)
    by false h =
        let more : length cs ≤ i = ltb-false i (length cs) h in
        let here : i ≡ length cs = omega (arith, length-append cs (x ∷ [])) in
        subst (λ (k : ℕ). P k (chunk_at (cs ++ x ∷ []) k)) (sym here) (subst (λ (k : Chunk). P (length cs) k) (sym (get_or-append_seam cs x [] no_chunk)) one)

pub one_more_blank : (cs : List Chunk) (x : Chunk) (n : ℕ) → length cs ≡ n → ((c : ℕ) → c < length cs → IsBlank c (chunk_at cs c)) → IsBlank n x
    → (c : ℕ) → c < length (cs ++ x ∷ []) → IsBlank c (chunk_at (cs ++ x ∷ []) c)
one_more_blank cs x n size all one = each_more IsBlank cs x all (subst (λ (k : ℕ). IsBlank k x) (sym size) one)

pub chunk_here : (cs : List Chunk) (c d : ℕ) (x : Chunk) → c < length cs → d ≡ c → chunk_at (set cs c x) d ≡ x
chunk_here cs c d x within same = ap (chunk_at (set cs c x)) same ∙ get_or-set_same cs c x no_chunk within

pub chunk_beside : (cs : List Chunk) (c d : ℕ) (x : Chunk) → d ≢ c → chunk_at (set cs c x) d ≡ chunk_at cs d
chunk_beside cs c d x apart = get_or-set_other cs c d x no_chunk apart

-- what holds of each of the first n, also where one of them changes
pub each_set : (P : ℕ → Chunk → Type 0) (cs : List Chunk) (c n : ℕ) (x : Chunk) → c < length cs → ((i : ℕ) → i < n → P i (chunk_at cs i)) → P c x
    → (i : ℕ) → i < n → P i (chunk_at (set cs c x) i)
each_set P cs c n x inside all one i within = by (nat_eq i c) refl
  where
    by : (b : Bool) → nat_eq i c ≡ b → P i (chunk_at (set cs c x) i)
    by true h =
        let here : i ≡ c = eqb-true i c h in
        subst (λ (k : Chunk). P i k) (sym (chunk_here cs c i x inside here)) (subst (λ (k : ℕ). P k x) (sym here) one)
    by false h =
        let apart : i ≢ c = grind (arith, h) in
        subst (λ (k : Chunk). P i k) (sym (chunk_beside cs c i x apart)) (all i within)

-- ---- how many are behind

pub count_set : (n : ℕ) (cs : List Chunk) (c : ℕ) (x : Chunk) → c < length cs
    → count_behind n (set cs c x) + cond (nat_lt (chunk_at cs c).applied n) 1 0 ≡ count_behind n cs + cond (nat_lt x.applied n) 1 0
count_set n cs c x within = sum_by-set (λ (k : Chunk). cond (nat_lt k.applied n) 1 0) cs c x no_chunk within

less : (m n : ℕ) → m < n → nat_lt m n ≡ true
less m n h = grind arith

one_of : (b : Bool) → b ≡ true → ◌≡◌ {A = ℕ} (cond b 1 0) 1
one_of true h = refl
one_of false h = absurd cc

none_of : (b : Bool) → b ≡ false → ◌≡◌ {A = ℕ} (cond b 1 0) 0
none_of true h = absurd cc
none_of false h = refl

count_cons : (n : ℕ) (x : Chunk) (cs : List Chunk) → count_behind n (x ∷ cs) ≡ cond (nat_lt x.applied n) 1 0 + count_behind n cs
count_cons n x cs = sum_by-cons (λ (k : Chunk). let v : ℕ = cond (nat_lt k.applied n) 1 0 in v) x cs

pub count_all : (n : ℕ) (cs : List Chunk) → ((c : ℕ) → c < length cs → (chunk_at cs c).applied < n) → count_behind n cs ≡ length cs
count_all n [] all = refl
count_all n (x ∷ cs) all =
    let here : ◌≡◌ {A = ℕ} (cond (nat_lt x.applied n) 1 0) 1 = one_of (nat_lt x.applied n) (less x.applied n (all 0 (omega arith))) in
    let rest : count_behind n cs ≡ length cs = count_all n cs (λ c h. all (suc c) (omega arith)) in
    omega (arith, count_cons n x cs)

pub one_behind : (n : ℕ) (cs : List Chunk) (c : ℕ) → c < length cs → (chunk_at cs c).applied < n → 0 < count_behind n cs
one_behind n [] c within h = absurd (omega arith)
one_behind n (x ∷ cs) zero within h =
    let here : ◌≡◌ {A = ℕ} (cond (nat_lt x.applied n) 1 0) 1 = one_of (nat_lt x.applied n) (less x.applied n h) in
    omega (arith, count_cons n x cs)
one_behind n (x ∷ cs) (suc c) within h = let rest = one_behind n cs c (omega arith) h in omega (arith, count_cons n x cs)

pub some_behind : (n : ℕ) (cs : List Chunk) → 0 < count_behind n cs → (c : ℕ) × (c < length cs) × ((chunk_at cs c).applied < n)
some_behind n [] h = absurd (omega arith)
some_behind n (x ∷ cs) h = by (nat_lt x.applied n) refl (some_behind n cs)
  where
    by : (b : Bool) → nat_lt x.applied n ≡ b → (0 < count_behind n cs → (c : ℕ) × (c < length cs) × ((chunk_at cs c).applied < n))
        → (c : ℕ) × (c < length (x ∷ cs)) × ((chunk_at (x ∷ cs) c).applied < n)
    by true is rest = (0, omega arith, ltb-true x.applied n is)
    by false is rest =
        let none : ◌≡◌ {A = ℕ} (cond (nat_lt x.applied n) 1 0) 0 = none_of (nat_lt x.applied n) is in
        let found = rest (omega (arith, count_cons n x cs)) in
        (suc found.0, (let within = found.1 in omega arith), found.2)

-- none is behind of no groups
pub count_none : (cs : List Chunk) → count_behind 0 cs ≡ 0
count_none [] = refl
count_none (x ∷ cs) =
    let here : ◌≡◌ {A = ℕ} (cond (nat_lt x.applied 0) 1 0) 0 = none_of (nat_lt x.applied 0) (grind arith) in
    let rest = count_none cs in omega (arith, count_cons 0 x cs)

-- after a chunk that was behind has got more
pub count_shipped : (n : ℕ) (cs : List Chunk) (c : ℕ) (x : Chunk) → c < length cs → (chunk_at cs c).applied < n
    → cond (nat_lt x.applied n) (count_behind n cs) (count_behind n cs - 1) ≡ count_behind n (set cs c x)
count_shipped n cs c x within behind =
    let was : ◌≡◌ {A = ℕ} (cond (nat_lt (chunk_at cs c).applied n) 1 0) 1 = one_of (nat_lt (chunk_at cs c).applied n) (less (chunk_at cs c).applied n behind) in
    by (nat_lt x.applied n) was (count_set n cs c x within)
  where
    by : (b : Bool) → ◌≡◌ {A = ℕ} (cond (nat_lt (chunk_at cs c).applied n) 1 0) 1
        → count_behind n (set cs c x) + cond (nat_lt (chunk_at cs c).applied n) 1 0 ≡ count_behind n cs + cond b 1 0
        → cond b (count_behind n cs) (count_behind n cs - 1) ≡ count_behind n (set cs c x)
    by true was h = omega arith
    by false was h = omega arith

-- after one has changed, but not what it has got
pub count_same : (n : ℕ) (cs : List Chunk) (c : ℕ) (x : Chunk) → c < length cs → x.applied ≡ (chunk_at cs c).applied → count_behind n (set cs c x) ≡ count_behind n cs
count_same n cs c x within same =
    let both : ◌≡◌ {A = ℕ} (cond (nat_lt x.applied n) 1 0) (cond (nat_lt (chunk_at cs c).applied n) 1 0) = ap (λ (k : ℕ). let v : ℕ = cond (nat_lt k n) 1 0 in v) same in
    let sum = count_set n cs c x within in omega arith
