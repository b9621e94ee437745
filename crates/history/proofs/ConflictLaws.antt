-- Conflicts, in words.
use Rattle.std.proofs.Common.{◌≡◌, ℕ, zero, suc, ◌≢◌, ◌≤◌, ◌<◌, ◌+◌, ◌-◌, Bool, true, false, Option, Some, None, List, [], ◌∷◌, if◌then◌else◌, nat_eq, ◌&&◌, ◌||◌, not, arith, ◌⊎◌, inl, inr, eqb-true, refl, sym, subst, ap, ◌∙◌, filter}
use Rattle.std.specs.List.{list_any, range_with_len}
use Rattle.history.proofs.PlaceLaws.{or_else_none}
use Rattle.history.specs.Places.{is_at, or_else, says, is_said}
use Rattle.sql_database.specs.declared.changes.Change.{Change}
use Rattle.table_machine.specs.Conflicts.{has_key, is_pending, is_newer, is_conflict}
use Rattle.table_machine.specs.Machine.{last, pending_of, Transaction, Machine}
use Rattle.version_store.proofs.Places.{bytes_same}
use Rattle.version_store.specs.Versions.{Row}

-- ---- conflicts, in words

pub has_said : (c : Change) (cs : List Change) → has_key c cs ≡ is_said (says cs c.table c.key)
has_said c [] = refl
has_said c (d ∷ ds) = ap (λ b. is_at d c.table c.key || b) (has_said c ds)
    ∙ by_test (is_at d c.table c.key) (says ds c.table c.key)
  where
    by_test : (b : Bool) (o : Option (Option Row))
        → (b || is_said o) ≡ is_said (or_else o (if b then Some d.row else None))
    by_test true None = refl
    by_test true (Some r) = refl
    by_test false None = refl
    by_test false (Some r) = refl

pub any_in : (p : ℕ → Bool) (a n i : ℕ) → a ≤ i → i < a + n → p i ≡ true → list_any p (range_with_len a n) ≡ true
any_in p a zero i l h e = absurd (omega (arith, l, h))
any_in p a (suc n) i l h e = by_test (λ q. any_in p (a + 1) n i q (omega (arith, h)) e) (nat_eq i a) refl
  where
    by_test : (a + 1 ≤ i → list_any p (range_with_len (a + 1) n) ≡ true) → (b : Bool) → nat_eq i a ≡ b
        → (p a || list_any p (range_with_len (a + 1) n)) ≡ true
    by_test more true q = let ia : i ≡ a = eqb-true i a q in let pa : p a ≡ true = subst (λ z. p z ≡ true) ia e in
        ap (λ b. b || list_any p (range_with_len (a + 1) n)) pa
    by_test more false q = let ne : i ≢ a = grind arith in let m = more (omega (arith, ne, l)) in either (p a) m
      where
        either : (b : Bool) → list_any p (range_with_len (a + 1) n) ≡ true
            → (b || list_any p (range_with_len (a + 1) n)) ≡ true
        either true m = refl
        either false m = m

pub any_has : (p : ℕ → Bool) (a n : ℕ) → list_any p (range_with_len a n) ≡ true
    → (i : ℕ) × (a ≤ i) × (i < a + n) × (p i ≡ true)
any_has p a zero h = absurd (grind arith)
any_has p a (suc n) h = by_test (any_has p (a + 1) n) (p a) refl h
  where
    by_test : (list_any p (range_with_len (a + 1) n) ≡ true
        → (i : ℕ) × (a + 1 ≤ i) × (i < (a + 1) + n) × (p i ≡ true)) → (b : Bool) → p a ≡ b
        → (b || list_any p (range_with_len (a + 1) n)) ≡ true → (i : ℕ) × (a ≤ i) × (i < a + suc n) × (p i ≡ true)
    by_test more true e h = (a, omega arith, omega arith, e)
    by_test more false e h = let m = more h in
        (m.0, (let l = m.1 in omega (arith, l)), (let l = m.2 in omega (arith, l)), m.3)

-- another session's own changes have the place, or a commit past the snapshot or one that waits
abbrev pub Clashes : Machine → ℕ → Transaction → List ℕ → List ℕ → Type 0
Clashes m s t a k = ((u : ℕ) × (u ≢ s) × (u < m.joined) × (is_said (says (pending_of (m.sessions u)) a k) ≡ true))
    ⊎ ((i : ℕ) × (t.snap < i) × (i ≤ last m) × (is_said (says (m.changes i) a k) ≡ true))

pub conflict_clashes : (m : Machine) (s : ℕ) (t : Transaction) (c : Change) → is_conflict m s t c ≡ true
    → Clashes m s t c.table c.key
conflict_clashes m s t c h = by_test (is_pending m s c) refl h
  where
    by_test : (b : Bool) → is_pending m s c ≡ b → (b || is_newer m t.snap c) ≡ true → Clashes m s t c.table c.key
    by_test true e h =
        let x = any_has (λ u. not (nat_eq u s) && has_key c (pending_of (m.sessions u))) 0 m.joined e in
        let x3 = x.3 in
        inl (
          x.0,
          (λ q. grind arith),
          (let l = x.2 in omega (arith, l)),
          sym (has_said c (pending_of (m.sessions x.0))) ∙ grind arith,
        )
    by_test false e h = let x = any_has (λ n. has_key c (m.changes n)) (t.snap + 1) (last m - t.snap) h in
        inr (
          x.0,
          (let l = x.1 in omega (arith, l)),
          (let l = x.1 in let r = x.2 in omega (arith, l, r)),
          sym (has_said c (m.changes x.0)) ∙ x.3,
        )

pub clashes_conflict : (m : Machine) (s : ℕ) (t : Transaction) (c : Change) → Clashes m s t c.table c.key
    → is_conflict m s t c ≡ true
clashes_conflict m s t c (inl x) =
    let h : has_key c (pending_of (m.sessions x.0)) ≡ true = has_said c (pending_of (m.sessions x.0)) ∙ x.3 in
    let ne = x.1 in
    let n : nat_eq x.0 s ≡ false = grind arith in
    let p : is_pending m s c ≡ true = any_in
    (λ u. not (nat_eq u s) && has_key c (pending_of (m.sessions u))) 0 m.joined x.0 (omega arith)
    (let l = x.2 in omega (arith, l)) (ap (λ b. not b && has_key c (pending_of (m.sessions x.0))) n ∙ h) in
    ap (λ b. b || is_newer m t.snap c) p
clashes_conflict m s t c (inr x) =
    let p : is_newer m t.snap c ≡ true = any_in (λ n. has_key c (m.changes n)) (t.snap + 1) (last m - t.snap) x.0
    (let l = x.1 in omega (arith, l)) (let l = x.1 in let r = x.2 in omega (arith, l, r))
    (has_said c (m.changes x.0) ∙ x.3) in
    ap (λ b. is_pending m s c || b) p ∙ either (is_pending m s c)
  where
    either : (b : Bool) → (b || true) ≡ true
    either true = refl
    either false = refl

pub no_conflict : (m : Machine) (s : ℕ) (t : Transaction) (cs : List Change) (a k : List ℕ)
    → filter (is_conflict m s t) cs ≡ [] → is_said (says cs a k) ≡ true → Clashes m s t a k → ⊥
no_conflict m s t [] a k f h x = absurd (grind arith)
no_conflict m s t (c ∷ cs) a k f h x = by_test (λ g q. no_conflict m s t cs a k g q x) (is_conflict m s t c) refl f
  where
    place : (b : Bool) → is_at c a k ≡ b → is_conflict m s t c ≡ false
        → is_said (or_else (says cs a k) (if b then Some c.row else None)) ≡ true → (is_said (says cs a k) ≡ true → ⊥)
        → ⊥
    place true e n h f =
        let ca : c.table ≡ a = bytes_same c.table a (grind arith) in
        let ck : c.key ≡ k = bytes_same c.key k (grind arith) in
        let y : is_conflict m s t c ≡ true = clashes_conflict m s t c
        (subst (λ b. Clashes m s t b c.key) (sym ca) (subst (λ j. Clashes m s t a j) (sym ck) x)) in
        absurd (grind arith)
    place false e n h f = f (subst (λ o. is_said o ≡ true) (or_else_none (says cs a k)) h)

    by_test : (filter (is_conflict m s t) cs ≡ [] → is_said (says cs a k) ≡ true → ⊥) → (b : Bool)
        → is_conflict m s t c ≡ b
        → (if b then c ∷ filter (is_conflict m s t) cs else filter (is_conflict m s t) cs) ≡ [] → ⊥
    by_test more true e g = absurd (grind arith)
    by_test more false e g = place (is_at c a k) refl e h (more g)
