-- Lemmas on how many slots are free.
use Rattle.std.proofs.Common.{◌≡◌, ◌≤◌, ◌<◌, ◌+◌, ℕ, zero, suc, Bool, true, false, not, List, [], ◌∷◌, length, replicate, set, refl, ◌∙◌, ap, arith}
use Rattle.std.proofs.Common.{◌≢◌, min, nat_eq, eqb-true, get_or-set_same, get_or-set_other}
use Rattle.std.proofs.lemmas.Bool.{ltb-true, ltb-false}
use lib.Dec.{ltb}
use Rattle.slab_node.specs.Free.{is_free, count_free, IsCounted}

pub count_taken : (taken : List Bool) (s : ℕ) → is_free taken s ≡ true → count_free (set taken s true) + 1 ≡ count_free taken
count_taken [] s h = absurd cc
count_taken (true ∷ taken) zero h = absurd cc
count_taken (false ∷ taken) zero h = omega arith
count_taken (t ∷ taken) (suc s) h = let more = count_taken taken s h in omega arith

pub count_given_back : (taken : List Bool) (s : ℕ) → s < length taken → is_free taken s ≡ false → count_free (set taken s false) ≡ count_free taken + 1
count_given_back [] s l h = absurd (omega arith)
count_given_back (true ∷ taken) zero l h = omega arith
count_given_back (false ∷ taken) zero l h = absurd cc
count_given_back (t ∷ taken) (suc s) l h = let more = count_given_back taken s (omega arith) h in omega arith

pub count_short : (taken : List Bool) → count_free taken ≤ length taken
count_short [] = omega arith
count_short (true ∷ taken) = let more = count_short taken in omega arith
count_short (false ∷ taken) = let more = count_short taken in omega arith

pub count_none : (taken : List Bool) (s : ℕ) → count_free taken ≡ 0 → is_free taken s ≡ false
count_none [] s h = refl
count_none (true ∷ taken) zero h = refl
count_none (false ∷ taken) zero h = absurd (omega arith)
count_none (t ∷ taken) (suc s) h = let rest : count_free taken ≡ 0 = omega arith in count_none taken s rest

pub count_all_free : (n : ℕ) → n ≡ count_free (replicate n false)
count_all_free zero = refl
count_all_free (suc n) = let more = count_all_free n in omega arith

-- after the least free slot was taken, none before it and not itself is free
pub taken_before : (taken : List Bool) (first slot : ℕ) → ((t : ℕ) → t < first → is_free taken t ≡ false) → ((t : ℕ) → first ≤ t → t < slot → is_free taken t ≡ false)
    → slot < length taken → (t : ℕ) → t < slot + 1 → is_free (set taken slot true) t ≡ false
taken_before taken first slot old more within t below = by (nat_eq t slot) refl
  where
    before : (b : Bool) → ltb t first ≡ b → t < slot → is_free taken t ≡ false
    before true e less = old t (ltb-true t first e)
    before false e less = more t (ltb-false t first e) less

    by : (b : Bool) → nat_eq t slot ≡ b → is_free (set taken slot true) t ≡ false
    by true e = let here : t ≡ slot = eqb-true t slot e in rw here (ap not (get_or-set_same taken slot true true within))
    by false e =
        let apart : t ≢ slot = grind (arith, e) in
        let less : t < slot = omega arith in
        ap not (get_or-set_other taken slot t true true apart) ∙ before (ltb t first) refl less

pub back_before : (taken : List Bool) (first slot : ℕ) → ((t : ℕ) → t < first → is_free taken t ≡ false) → (t : ℕ) → t < min first slot → is_free (set taken slot false) t ≡ false
back_before taken first slot old t below =
    let apart : t ≢ slot = omega arith in
    let less : t < first = omega arith in
    ap not (get_or-set_other taken slot t false true apart) ∙ old t less

pub all_free : (n free : ℕ) → free ≡ n → IsCounted (replicate n false) 0 free
all_free n free e = record { before = λ t h. absurd (omega arith); count = e ∙ count_all_free n }
