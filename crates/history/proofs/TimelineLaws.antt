-- The timeline, one commit after the other.
use Rattle.std.proofs.Common.{◌≡◌, ℕ, zero, suc, ◌≢◌, ◌≤◌, ◌<◌, ◌+◌, ◌-◌, Bool, true, false, List, if◌then◌else◌, nat_eq, arith, eqb-true, refl, sym, subst, ap, ◌∙◌, ◌⊎◌, inl, inr, nat_le}
use Rattle.history.specs.Places.{says, is_said, over}
use Rattle.history.specs.Timelines.{content_after, content_at, latest_after, latest, Timeline}
use Rattle.sql_database.specs.declared.changes.Change.{Change}
use Rattle.version_store.specs.Contents.{Content}

-- ---- numbers

pub le_or_less : (a b : ℕ) → (a ≤ b) ⊎ (b < a)
le_or_less a b = by_test (nat_le a b) refl
  where
    by_test : (t : Bool) → nat_le a b ≡ t → (a ≤ b) ⊎ (b < a)
    by_test true e = inl (grind arith)
    by_test false e = inr (grind arith)

-- ---- the timeline

pub stood_same : (was : Content) (f g : ℕ → List Change) (first n : ℕ) (a k : List ℕ)
    → ((i : ℕ) → first < i → i ≤ first + n → f i ≡ g i)
    → content_after was f first n a k ≡ content_after was g first n a k
stood_same was f g first zero a k h = refl
stood_same was f g first (suc n) a k h =
    ap (λ cs. over (says cs a k) (content_after was f first n a k)) (h (first + suc n) (omega arith) (omega arith))
    ∙ ap (λ r. over (says (g (first + suc n)) a k) r)
    (stood_same was f g first n a k (λ i p q. h i p (omega (arith, q))))

pub since_same : (f g : ℕ → List Change) (first n : ℕ) (a k : List ℕ)
    → ((i : ℕ) → first < i → i ≤ first + n → f i ≡ g i) → latest_after f first n a k ≡ latest_after g first n a k
since_same f g first zero a k h = refl
since_same f g first (suc n) a k h =
    ap (λ cs. if is_said (says cs a k) then first + suc n else latest_after f first n a k)
    (h (first + suc n) (omega arith) (omega arith))
    ∙ ap (λ r. if is_said (says (g (first + suc n)) a k) then first + suc n else r)
    (since_same f g first n a k (λ i p q. h i p (omega (arith, q))))

-- two timelines that agree up to a number
pub at_same : (line new : Timeline) (n : ℕ) (a k : List ℕ) → new.was ≡ line.was → new.first ≡ line.first
    → ((i : ℕ) → i ≤ n → new.changes i ≡ line.changes i) → line.first ≤ n
    → content_at new n a k ≡ content_at line n a k
at_same line new n a k w f h le =
    ap (λ x. content_after x new.changes new.first (n - new.first) a k) w
    ∙ ap (λ x. content_after line.was new.changes x (n - x) a k) f
    ∙ stood_same line.was new.changes line.changes line.first (n - line.first) a k
    (λ i p q. h i (omega (arith, q, le)))

pub latest_same : (line new : Timeline) (n : ℕ) (a k : List ℕ) → new.first ≡ line.first
    → ((i : ℕ) → i ≤ n → new.changes i ≡ line.changes i) → line.first ≤ n → latest new n a k ≡ latest line n a k
latest_same line new n a k f h le =
    ap (λ x. latest_after new.changes x (n - x) a k) f
    ∙ since_same new.changes line.changes line.first (n - line.first) a k (λ i p q. h i (omega (arith, q, le)))

-- one commit more
pub at_next : (line : Timeline) (n : ℕ) (a k : List ℕ) → line.first ≤ n
    → content_at line (suc n) a k ≡ over (says (line.changes (suc n)) a k) (content_at line n a k)
at_next line n a k le =
    ap (λ m. content_after line.was line.changes line.first m a k)
    (let e : suc n - line.first ≡ suc (n - line.first) = omega (arith, le) in e)
    ∙ ap (λ m. over (says (line.changes m) a k) (content_at line n a k))
    (let e : line.first + suc (n - line.first) ≡ suc n = omega (arith, le) in e)

pub latest_next : (line : Timeline) (n : ℕ) (a k : List ℕ) → line.first ≤ n
    → latest line (suc n) a k ≡ (if is_said (says (line.changes (suc n)) a k) then suc n else latest line n a k)
latest_next line n a k le =
    ap (λ m. latest_after line.changes line.first m a k)
    (let e : suc n - line.first ≡ suc (n - line.first) = omega (arith, le) in e)
    ∙ ap (λ m. if is_said (says (line.changes m) a k) then m else latest line n a k)
    (let e : line.first + suc (n - line.first) ≡ suc n = omega (arith, le) in e)

-- the last commit with a place, in words
since_is : (f : ℕ → List Change) (first n i : ℕ) (a k : List ℕ) → first < i → i ≤ first + n
    → is_said (says (f i) a k) ≡ true → i ≤ latest_after f first n a k
since_is f first zero i a k z l h = omega (arith, z, l)
since_is f first (suc n) i a k z l h =
    by_test (λ le. since_is f first n i a k z le h) (nat_eq i (first + suc n)) refl
  where
    by_test : (i ≤ first + n → i ≤ latest_after f first n a k) → (b : Bool) → nat_eq i (first + suc n) ≡ b
        → i ≤ (if is_said (says (f (first + suc n)) a k) then first + suc n else latest_after f first n a k)
    by_test more true e = let q : i ≡ first + suc n = eqb-true i (first + suc n) e in
        let h2 : is_said (says (f (first + suc n)) a k) ≡ true = subst (λ j. is_said (says (f j) a k) ≡ true) q h in
        grind arith
    by_test more false e = let ne : i ≢ first + suc n = grind arith in
        let le : i ≤ first + n = omega (arith, ne, l) in let r = more le in
        split (is_said (says (f (first + suc n)) a k)) r
      where
        split : (b : Bool) → i ≤ latest_after f first n a k
            → i ≤ (if b then first + suc n else latest_after f first n a k)
        split true r = l
        split false r = r

since_has : (f : ℕ → List Change) (first n : ℕ) (a k : List ℕ) → first < latest_after f first n a k
    → is_said (says (f (latest_after f first n a k)) a k) ≡ true
since_has f first zero a k l = grind arith
since_has f first (suc n) a k l = by_test (since_has f first n a k) (is_said (says (f (first + suc n)) a k)) refl l
  where
    by_test : (first < latest_after f first n a k → is_said (says (f (latest_after f first n a k)) a k) ≡ true)
        → (b : Bool) → is_said (says (f (first + suc n)) a k) ≡ b
        → first < (if b then first + suc n else latest_after f first n a k)
        → is_said (says (f (if b then first + suc n else latest_after f first n a k)) a k) ≡ true
    by_test more true e l = e
    by_test more false e l = more l

since_bound : (f : ℕ → List Change) (first n : ℕ) (a k : List ℕ)
    → (first ≤ latest_after f first n a k) × (latest_after f first n a k ≤ first + n)
since_bound f first zero a k = (omega arith, omega arith)
since_bound f first (suc n) a k = let b = since_bound f first n a k in
    by_test (is_said (says (f (first + suc n)) a k)) b.0 b.1
  where
    by_test : (b : Bool) → first ≤ latest_after f first n a k → latest_after f first n a k ≤ first + n
        → (first ≤ (if b then first + suc n else latest_after f first n a k))
        × ((if b then first + suc n else latest_after f first n a k) ≤ first + suc n)
    by_test true x y = (omega arith, omega arith)
    by_test false x y = (x, omega arith)

pub latest_is : (line : Timeline) (n i : ℕ) (a k : List ℕ) → line.first < i → i ≤ n
    → is_said (says (line.changes i) a k) ≡ true → i ≤ latest line n a k
latest_is line n i a k z l h = since_is line.changes line.first (n - line.first) i a k z (omega (arith, z, l)) h

pub latest_has : (line : Timeline) (n : ℕ) (a k : List ℕ) → line.first < latest line n a k
    → is_said (says (line.changes (latest line n a k)) a k) ≡ true
latest_has line n a k l = since_has line.changes line.first (n - line.first) a k l

pub latest_low : (line : Timeline) (n : ℕ) (a k : List ℕ) → line.first ≤ latest line n a k
latest_low line n a k = (since_bound line.changes line.first (n - line.first) a k).0

pub latest_high : (line : Timeline) (n : ℕ) (a k : List ℕ) → line.first ≤ n → latest line n a k ≤ n
latest_high line n a k le = let b = (since_bound line.changes line.first (n - line.first) a k).1 in
    omega (arith, le)

pub latest_rises : (line : Timeline) (m n : ℕ) (a k : List ℕ) → line.first ≤ m → m ≤ n
    → latest line m a k ≤ latest line n a k
latest_rises line m n a k f l = by_test (nat_eq (latest line m a k) line.first) refl
  where
    low : line.first ≤ latest line n a k
    low = latest_low line n a k

    by_test : (b : Bool) → nat_eq (latest line m a k) line.first ≡ b → latest line m a k ≤ latest line n a k
    by_test true e = subst (λ x. x ≤ latest line n a k) (sym (eqb-true (latest line m a k) line.first e)) low
    by_test false e =
        let lo = latest_low line m a k in
        let hi = latest_high line m a k f in
        let p : line.first < latest line m a k = grind arith in
        latest_is line n (latest line m a k) a k p (omega arith) (latest_has line m a k p)
