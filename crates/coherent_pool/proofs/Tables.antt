-- Lemmas on tables with a place for each page.
use Rattle.std.proofs.Common.{◌≡◌, ◌<◌, ◌≤◌, ◌+◌, ℕ, zero, suc, Bool, true, false, nat_eq, nat_lt, eqb-true, subst, List, [], ◌∷◌, length, replicate, set, slice_index_or, refl, sym, ◌∙◌, arith, get_or-set_same, get_or-set_other}
use Rattle.std.proofs.lemmas.List.{length-replicate, get_or_default}
use Rattle.home_tables.specs.Numbers.{IsLeast}
use Rattle.coherent_pool.specs.declared.known.Known.{Known}
use Rattle.coherent_pool.specs.Known.{IsTable, nothing_known, SetsKnown, SetsLeaving, Clears}

pub nothing_at : (n p : ℕ) → slice_index_or (replicate n nothing_known) p nothing_known ≡ nothing_known
nothing_at zero p = refl
nothing_at (suc n) zero = refl
nothing_at (suc n) (suc p) = nothing_at n p

pub whole : (n : ℕ) (leaving : List Bool) → n ≡ 32768 → length leaving ≡ 32768 → IsTable (record { pages = replicate n nothing_known; leaving = leaving })
whole n leaving e h = record { pages = length-replicate {A = Known} n nothing_known ∙ e; leaving = h }

pub read_at : (pages : List Known) (p : ℕ) (d : Known) → p < length pages → d ≡ slice_index_or pages p d → d ≡ slice_index_or pages p nothing_known
read_at pages p d h e = e ∙ get_or_default pages p d nothing_known h

pub sets_known : (pages : List Known) (leaving : List Bool) (p : ℕ) (k : Known) → p < length pages
    → SetsKnown p k (record { pages = pages; leaving = leaving }) (record { pages = set pages p k; leaving = leaving })
sets_known pages leaving p k h = record {
  here = get_or-set_same pages p k nothing_known h;
  beside = λ q ne. get_or-set_other pages p q k nothing_known ne;
  leaving = refl;
}

pub sets_leaving : (pages : List Known) (leaving : List Bool) (p : ℕ) (b : Bool) → p < length leaving
    → SetsLeaving p b (record { pages = pages; leaving = leaving }) (record { pages = pages; leaving = set leaving p b })
sets_leaving pages leaving p b h = record {
  here = get_or-set_same leaving p b false h;
  beside = λ q ne. get_or-set_other leaving p q b false ne;
  pages = refl;
}

pub least_page : (leaving : List Bool) (x : ℕ) → IsLeast leaving 0 32768 x → x < 32768
least_page leaving x h = h.until

past_end : (pages : List Known) (p : ℕ) → length pages ≤ p → slice_index_or pages p nothing_known ≡ nothing_known
past_end [] p h = refl
past_end (k ∷ pages) zero h = absurd (omega arith)
past_end (k ∷ pages) (suc p) h = past_end pages p (omega arith)

-- what is cleared below its length is cleared
pub clears : (before now : List Known) (n : ℕ) → length now ≡ length before → length now ≤ n
    → ((p : ℕ) → p < n → slice_index_or now p nothing_known ≡ nothing_known) → Clears before now
clears before now n long whole h = record { long = long; none = λ p. by p (nat_lt p n) refl }
  where
    by : (p : ℕ) (b : Bool) → nat_lt p n ≡ b → slice_index_or now p nothing_known ≡ nothing_known
    by p true t = h p (grind (arith, t))
    by p false t = past_end now p (grind (arith, t, whole))

pub cleared_more : (pages : List Known) (i : ℕ) → i < length pages → ((p : ℕ) → p < i → slice_index_or pages p nothing_known ≡ nothing_known)
    → (p : ℕ) → p < i + 1 → slice_index_or (set pages i nothing_known) p nothing_known ≡ nothing_known
cleared_more pages i within h p l = by (nat_eq p i) refl
  where
    by : (b : Bool) → nat_eq p i ≡ b → slice_index_or (set pages i nothing_known) p nothing_known ≡ nothing_known
    by true t = let e : p ≡ i = eqb-true p i t in subst (λ (q : ℕ). slice_index_or (set pages i nothing_known) q nothing_known ≡ nothing_known) (sym e) (get_or-set_same pages i nothing_known nothing_known within)
    by false t = get_or-set_other pages i p nothing_known nothing_known (grind (arith, t)) ∙ h p (grind (arith, t, l))
