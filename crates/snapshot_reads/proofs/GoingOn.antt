-- A past goes on by one more store.
use Rattle.std.proofs.Common.{◌≡◌, ◌≤◌, ◌<◌, ℕ, suc, true, false, nat_eq, List, [], ◌∷◌, if◌then◌else◌, Option, refl, sym, ap, subst, ◌∙◌, arith, ◌⊎◌, inl, inr, le_trans}
use Rattle.version_store.specs.Contents.{Content, chain_of}
use Rattle.version_store.specs.Rooted.{IsLone}
use Rattle.version_store.specs.Stores.{Store, catalog, put}
use Rattle.version_store.specs.Versions.{Version, seen}
use Rattle.snapshot_reads.specs.Pasts.{IsFixed, Past, PastGoesOn, PastStep, StampsLater}

-- one store after the other
pub later_on : (S R Q : Store) (t : ℕ) → S.last ≤ R.last → StampsLater S R t → StampsLater R Q t
    → StampsLater S Q t
later_on S R Q t l (inl a) (inl b) = inl (b ∙ a)
later_on S R Q t l (inl a) (inr b) = inr (sym a ∙ b.0, le_trans_less l b.1)
  where
    le_trans_less : S.last ≤ R.last → R.last < Q.stamp t → S.last < Q.stamp t
    le_trans_less p q = omega (arith, p, q)
later_on S R Q t l (inr a) (inl b) = inr (a.0, subst (λ x. S.last < x) (sym b) a.1)
later_on S R Q t l (inr a) (inr b) =
    absurd (let x = b.0 in let y = a.1 in let z : S.last < 0 = subst (λ w. S.last < w) x y in
    omega (arith, z))

pub stays_fixed : (S R : Store) (own : Option ℕ) (v : Version) → StampsLater S R v.trx
    → IsFixed S own v → IsFixed R own v
stays_fixed S R own v (inl e) (inl s) = inl (λ z. s (sym e ∙ z))
stays_fixed S R own v (inr p) (inl s) = absurd (s p.0)
stays_fixed S R own v l (inr o) = inr o

module _ (S : ℕ → Store) (R : Store) (base end n : ℕ) (own : Option ℕ) (f : Content)
    (le : base ≤ end) (past : Past S base end n own f) (step : PastStep (S end) R n own f)
  where
    upto : (j : ℕ) → j ≤ suc end → (j ≤ end) ⊎ (j ≡ suc end)
    upto j l = grind (arith, l)

    there : (j : ℕ) → j ≤ end → put S (suc end) R j ≡ S j
    there j l = ap (λ b. if b then R else S j) (apart l)
      where
        apart : j ≤ end → nat_eq j (suc end) ≡ false
        apart h = grind (arith, h)

    here : put S (suc end) R (suc end) ≡ R
    here = ap (λ b. if b then R else S (suc end)) same
      where
        same : nat_eq (suc end) (suc end) ≡ true
        same = grind arith

    same_end : end ≤ end
    same_end = omega arith

    -- of one state
    each : (Q : Store → Type 0) → ((j : ℕ) → base ≤ j → j ≤ end → Q (S j)) → Q R
        → (j : ℕ) → base ≤ j → j ≤ suc end → Q (put S (suc end) R j)
    each Q old new j b l = go (upto j l)
      where
        go : (j ≤ end) ⊎ (j ≡ suc end) → Q (put S (suc end) R j)
        go (inl h) = subst Q (sym (there j h)) (old j b h)
        go (inr e) = subst Q (sym (ap (put S (suc end) R) e ∙ here)) new

    -- of two states, one after the other
    pairs : (Q : Store → Store → Type 0)
        → ((i j : ℕ) → base ≤ i → i ≤ j → j ≤ end → Q (S i) (S j))
        → ((i : ℕ) → base ≤ i → i ≤ end → Q (S i) R) → Q R R
        → (i j : ℕ) → base ≤ i → i ≤ j → j ≤ suc end
        → Q (put S (suc end) R i) (put S (suc end) R j)
    pairs Q old new self i j b ij l = go (upto j l) (upto i (le_trans ij l))
      where
        last : j ≡ suc end → put S (suc end) R j ≡ R
        last e = ap (put S (suc end) R) e ∙ here

        over : i ≡ suc end → j ≤ end → ⊥
        over e h = omega (arith, e, h, ij)

        go : (j ≤ end) ⊎ (j ≡ suc end) → (i ≤ end) ⊎ (i ≡ suc end)
            → Q (put S (suc end) R i) (put S (suc end) R j)
        go (inl h) (inl k) =
            subst (λ x. Q x (put S (suc end) R j)) (sym (there i k))
            (subst (λ y. Q (S i) y) (sym (there j h)) (old i j b ij h))
        go (inl h) (inr e) = absurd (over e h)
        go (inr e) (inl k) =
            subst (λ x. Q x (put S (suc end) R j)) (sym (there i k))
            (subst (λ y. Q (S i) y) (sym (last e)) (new i b k))
        go (inr e) (inr k) =
            subst (λ x. Q x (put S (suc end) R j)) (sym (ap (put S (suc end) R) k ∙ here))
            (subst (λ y. Q R y) (sym (last e)) self)

    abbrev Lasts : Store → Store → Type 0
    Lasts P Q =
        (a : List ℕ) (v : Version) → P.rows catalog a ≡ v ∷ [] → IsFixed P own v
        → Q.rows catalog a ≡ v ∷ []

    pub goes : Past (put S (suc end) R) base (suc end) n own f
    goes = record {
      read = each
          (λ P. n ≤ P.last → (a k : List ℕ) → seen (chain_of P a k) P.stamp n own ≡ f a k)
          past.read (λ low. step.read);
      rises = pairs (λ P Q. P.last ≤ Q.last) past.rises
          (λ i b l. le_trans (past.rises i end b l same_end) step.rises) (omega arith);
      later = λ i j t b ij l. pairs (λ P Q. StampsLater P Q t)
          (λ i j b ij l. past.later i j t b ij l)
          (λ i b l. later_on (S i) (S end) R t (past.rises i end b l same_end)
          (past.later i end t b l same_end) (step.later t)) (inl refl) i j b ij l;
      lasts = pairs Lasts past.lasts
          (λ i b l a v only fixed. step.lasts a v (past.lasts i end b l same_end a v only fixed)
          (stays_fixed (S i) (S end) own v (past.later i end (Version.trx v) b l same_end) fixed))
          (λ a v only fixed. only);
      lone = each (λ P. (a : List ℕ) → IsLone (P.rows catalog a)) past.lone step.lone;
    }

pub goes_on : PastGoesOn
goes_on S R base end n own f le past step = goes S R base end n own f le past step
