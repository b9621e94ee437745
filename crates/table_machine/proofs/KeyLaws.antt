-- Lists of changes that share no key.
use Rattle.std.proofs.Common.{◌≡◌, ◌≢◌, ◌≤◌, ◌<◌, ◌+◌, ◌-◌, ◌⊎◌, ℕ, zero, suc, Bool, true, false, ◌||◌, ◌&&◌, cond, if◌then◌else◌, is_some, nat_eq, List, [], ◌∷◌, ◌++◌, filter, fold, Option, Some, None, arith, bytes_eq, refl, sym, ap, subst, ◌∙◌}
use Rattle.std.specs.List.{AllByRecursion, list_any, range_with_len}
use Rattle.std.specs.Ordering.{is_lt}
use Rattle.std.proofs.lemmas.List.Folds.{list_any-append}
use Rattle.std.proofs.lemmas.Slice.Eq.{bytes_eq-Decides}
use Rattle.sql_values.specs.Order.{text_cmp}
use Rattle.sql_database.specs.declared.changes.Change.{Change}
use Rattle.table_machine.specs.Conflicts.{has_key, least, lesser}
use Rattle.table_machine.specs.Laws.{ShareNoKey}

pub or_parts : (a b : Bool) → (a || b) ≡ false → (a ≡ false) × (b ≡ false)
or_parts true b e = absurd (grind arith)
or_parts false b e = (refl, e)

or_both : (a b : Bool) → a ≡ false → b ≡ false → (a || b) ≡ false
or_both a b p q = ap (λ x. x || b) p ∙ q

bytes_turn : (a b : List ℕ) → bytes_eq a b ≡ bytes_eq b a
bytes_turn a b = by_both (bytes_eq a b) (bytes_eq b a) refl refl
  where
    by_both : (p q : Bool) → bytes_eq a b ≡ p → bytes_eq b a ≡ q → p ≡ q
    by_both true true e f = refl
    by_both false false e f = refl
    by_both true false e f = sym ((bytes_eq-Decides b a).1 (sym ((bytes_eq-Decides a b).0 e))) ∙ f
    by_both false true e f = sym e ∙ (bytes_eq-Decides a b).1 (sym ((bytes_eq-Decides b a).0 f))

abbrev same_key : Change → Change → Bool
same_key c d = bytes_eq d.table c.table && bytes_eq d.key c.key

key_turn : (c d : Change) → same_key c d ≡ same_key d c
key_turn c d = ap (λ b. b && bytes_eq d.key c.key) (bytes_turn d.table c.table) ∙ ap (λ b. bytes_eq c.table d.table && b) (bytes_turn d.key c.key)

pub share_none : (cs : List Change) → ShareNoKey cs []
share_none [] = tt
share_none (c ∷ cs) = (refl, share_none cs)

share_first : (c : Change) (ds cs : List Change) → has_key c ds ≡ false → ShareNoKey ds cs → ShareNoKey ds (c ∷ cs)
share_first c [] cs h g = tt
share_first c (d ∷ ds) cs h g =
    let p : (same_key c d ≡ false) × (has_key c ds ≡ false) = or_parts (same_key c d) (has_key c ds) h in
    (or_both (same_key d c) (has_key d cs) (sym (key_turn c d) ∙ p.0) g.0, share_first c ds cs p.1 g.1)

pub share_turn : (cs ds : List Change) → ShareNoKey cs ds → ShareNoKey ds cs
share_turn [] ds h = share_none ds
share_turn (c ∷ cs) ds h = share_first c ds cs h.0 (share_turn cs ds h.1)

pub share_append : (cs more ds : List Change) → ShareNoKey cs ds → ShareNoKey more ds → ShareNoKey (cs ++ more) ds
share_append [] more ds h g = g
share_append (c ∷ cs) more ds h g = (h.0, share_append cs more ds h.1 g)

-- none of a range has the property, so no number in it has
pub none_in_range : (p : ℕ → Bool) (n low k : ℕ) → list_any p (range_with_len low n) ≡ false → low ≤ k → k < low + n → p k ≡ false
none_in_range p zero low k h a b = absurd (omega (arith, a, b))
none_in_range p (suc n) low k h a b =
    by_test (nat_eq k low) refl (or_parts (p low) (list_any p (range_with_len (low + 1) n)) h).0
    (λ up. none_in_range p n (low + 1) k (or_parts (p low) (list_any p (range_with_len (low + 1) n)) h).1 up (omega (arith, b)))
  where
    by_test : (t : Bool) → nat_eq k low ≡ t → p low ≡ false → (low + 1 ≤ k → p k ≡ false) → p k ≡ false
    by_test true e first more = let same : k ≡ low = grind arith in ap p same ∙ first
    by_test false e first more = more (let x : low + 1 ≤ k = grind arith in x)

-- where nothing is the least, nothing passed the test
some_least : (cs : List Change) (b : Change) → is_some (fold lesser (Some b) cs) ≡ true
some_least [] b = refl
some_least (c ∷ cs) b = by_test (is_lt (text_cmp c.key b.key)) (some_least cs c) (some_least cs b)
  where
    by_test : (t : Bool) → is_some (fold lesser (Some c) cs) ≡ true → is_some (fold lesser (Some b) cs) ≡ true → is_some (fold lesser (if t then Some c else Some b) cs) ≡ true
    by_test true x y = x
    by_test false x y = y

pub none_pass : (p : Change → Bool) (cs : List Change) → least (filter p cs) ≡ None → AllByRecursion (λ c. p c ≡ false) cs
none_pass p [] e = tt
none_pass p (c ∷ cs) e = by_test (p c) refl e (none_pass p cs)
  where
    by_test : (t : Bool) → p c ≡ t → least (cond t (c ∷ filter p cs) (filter p cs)) ≡ None → (least (filter p cs) ≡ None → AllByRecursion (λ d. p d ≡ false) cs)
        → (p c ≡ false) × AllByRecursion (λ d. p d ≡ false) cs
    by_test true q n more = absurd (let x : is_some (fold lesser (Some c) (filter p cs)) ≡ true = some_least (filter p cs) c in let y : is_some (fold lesser (Some c) (filter p cs)) ≡ false = ap is_some n in grind arith)
    by_test false q n more = (q, more n)

pub all_weaker : (p q : Change → Bool) (cs : List Change) → ((c : Change) → p c ≡ false → q c ≡ false) → AllByRecursion (λ c. p c ≡ false) cs → AllByRecursion (λ c. q c ≡ false) cs
all_weaker p q [] f h = tt
all_weaker p q (c ∷ cs) f h = (f c h.0, all_weaker p q cs f h.1)
