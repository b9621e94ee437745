-- The groups that commit stand in the log in the order of their numbers.
use Rattle.std.proofs.Common.{◌≡◌, ℕ, zero, suc, ◌≤◌, ◌<◌, arith, ap, ◌⊎◌, inl, inr}
use Rattle.table_machine.specs.Language.{Language}
use Rattle.version_store.specs.Contents.{Content}
use Rattle.history.proofs.TimelineLaws.{le_or_less}
use Rattle.history.specs.Clusters.{Cluster, now}
use Rattle.history.specs.Invariant.{Refines}
use Rattle.history.specs.Laws.{CommitsAt, CommitsInOrder, ForgetKeepsDurable, IsWithin}

module _ {language : Language} (was : Content) (c : Cluster) (g : Refines language was c) where
  has : (i j : ℕ) → c.machine.first < i → j ≤ c.lsn → i ≤ (c.at j).last → IsWithin c i j
  has i zero f l h = absurd (let b = g.begun_at in omega (arith, b, f, h))
  has i (suc j) f l h = by_order (λ p. has i j f (omega (arith, l)) p) (le_or_less i (c.at j).last)
    where
      by_order : (i ≤ (c.at j).last → IsWithin c i j) → (i ≤ (c.at j).last) ⊎ ((c.at j).last < i)
          → IsWithin c i (suc j)
      by_order more (inl e) = let w = more e in (w.0, (let p = w.1 in omega (arith, p)), w.2)
      by_order more (inr past) =
          let one = g.single j (omega (arith, l)) in
          (j, omega arith, (omega (arith, past, one, h), omega (arith, past, one, h)))

  within : (i j : ℕ) → j ≤ c.lsn → IsWithin c i j → (c.machine.first < i) × (i ≤ (c.at j).last)
  within i j l w =
      let gl = w.1 in
      let old = w.2.0 in
      let new = w.2.1 in
      let low = g.rises 0 w.0 (omega arith) (omega (arith, gl, l)) in
      let high = g.rises (suc w.0) j (omega (arith, gl)) l in
      let b = g.begun_at in
      (omega (arith, old, low, b), omega (arith, new, high))

  rises : (i j k l : ℕ) → j < c.lsn → l < c.lsn → CommitsAt c i j → CommitsAt c k l → i < k → j < l
  rises i j k l a b p q h = by_order (le_or_less l j)
    where
      by_order : (l ≤ j) ⊎ (j < l) → j < l
      by_order (inr e) = e
      by_order (inl e) =
          let r = g.rises (suc l) (suc j) (omega (arith, e)) (omega (arith, a)) in
          let old = p.1 in
          let new = q.1 in
          absurd (omega (arith, r, old, new, h))

  not_before : (i j k : ℕ) → k < c.lsn → CommitsAt c i j → CommitsAt c i k → j < k → ⊥
  not_before i j k b p q l =
      let r = g.rises (suc j) k (omega (arith, l)) (omega (arith, b)) in
      let old = p.1 in
      let new = q.0 in
      omega (arith, r, old, new)

  one : (i j k : ℕ) → j < c.lsn → k < c.lsn → CommitsAt c i j → CommitsAt c i k → j ≡ k
  one i j k a b p q = by_order (le_or_less j k) (le_or_less k j)
    where
      by_order : (j ≤ k) ⊎ (k < j) → (k ≤ j) ⊎ (j < k) → j ≡ k
      by_order (inl e) (inl f) = omega (arith, e, f)
      by_order (inl e) (inr f) = absurd (not_before i j k b p q f)
      by_order (inr e) f = absurd (not_before i k j a q p e)

  pub in_order : CommitsInOrder c
  in_order = record { has = has; within = within; one = one; rises = rises }

  pub forget_keeps : ForgetKeepsDurable c
  forget_keeps n i o p q =
      let d : (c.at c.durable).last ≡ (now c).last = ap (λ j. (c.at j).last) o.whole in
      let k = g.kept in
      let f = g.fair.low in (
        (λ w. let x = (within i c.durable g.order w).1 in omega (arith, x, d, k)),
        (λ l. has i c.durable (omega (arith, f, p)) g.order (omega (arith, l, d, k, p))),
      )
