-- Lemmas on the copies of a cache, by page.
use Rattle.std.proofs.Common.{◌≡◌, ◌≢◌, ◌<◌, ◌≤◌, ◌-◌, ◌==◌, ℕ, suc, length, reverse, get_or, option_map, Bool, true, false, cond, Option, Some, None, List, [], ◌∷◌, IsSomeAnd, IfSome, is_some, nat_eq, eqb-true, refl, sym, ◌∙◌, ap, subst, arith}
use Rattle.std.specs.Option.{option_map_or}
use Rattle.std.specs.Map.{lookup, lookup_entry, remove_entry, set_value}
use Rattle.std.specs.Cmp.{nat_eq_equiv}
use Rattle.std.specs.List.{find}
use Rattle.std.proofs.lemmas.List.{get_or-reverse, length-reverse}
use Rattle.std.proofs.lemmas.Map.{lookup-remove_entry}
use Rattle.std.proofs.lemmas.Map.Views.{lookup-from_Contains}
use Rattle.lru.specs.LruCache.{promoted}
use Rattle.local_cache.specs.declared.cache.Cached.{Cached}
use Rattle.local_cache.specs.Cache.{Cache, IsCache, is_unpinned, oldest_unpinned, copy_of, put_first, with_copy, dropped, used, pinned, unpinned}
use Rattle.coherent_pool.specs.Changing.{pins_in, freed, had}

-- another page's copy is none of this page's changes
pub beside_removed : {X : Type 0} (p q : ℕ) (es : List (ℕ × X)) → q ≢ p → lookup (nat_eq q) (remove_entry (nat_eq p) es) ≡ lookup (nat_eq q) es
beside_removed p q [] ne = refl
beside_removed {X = X} p q (e ∷ es) ne = by (nat_eq p e.0) refl (beside_removed p q es ne)
  where
    by : (b : Bool) → nat_eq p e.0 ≡ b → lookup (nat_eq q) (remove_entry (nat_eq p) es) ≡ lookup (nat_eq q) es
        → lookup (nat_eq q) (cond b es (e ∷ remove_entry (nat_eq p) es)) ≡ cond (nat_eq q e.0) (Some e.1) (lookup (nat_eq q) es)
    by true t more = let k : p ≡ e.0 = eqb-true p e.0 t in rw (let f : nat_eq q e.0 ≡ false = grind (arith, k) in f) refl
    by false t more = ap (λ (o : Option X). cond (nat_eq q e.0) (Some e.1) o) more

pub beside_put : (C : Cache) (p q : ℕ) (c : Cached) → q ≢ p → copy_of (put_first C p c) q ≡ copy_of C q
beside_put C p q c ne = rw (let f : nat_eq q p ≡ false = grind arith in f) (beside_removed p q C.copies ne)

pub here_put : (C : Cache) (p : ℕ) (c : Cached) → copy_of (put_first C p c) p ≡ Some c
here_put C p c = rw (let f : nat_eq p p ≡ true = grind arith in f) refl

pub beside_dropped : (C : Cache) (p q : ℕ) → q ≢ p → copy_of (dropped C p) q ≡ copy_of C q
beside_dropped C p q ne = beside_removed p q C.copies ne

-- a copy that is changed in its place
pub here_changed : {X : Type 0} (p : ℕ) (es : List (ℕ × X)) (v w : X) → lookup (nat_eq p) es ≡ Some v → lookup (nat_eq p) (set_value (nat_eq p) es w) ≡ Some w
here_changed p [] v w h = absurd (cc)
here_changed {X = X} p (e ∷ es) v w h = by (nat_eq p e.0) refl h (here_changed p es v w)
  where
    by : (b : Bool) → nat_eq p e.0 ≡ b → cond b (Some e.1) (lookup (nat_eq p) es) ≡ Some v → (lookup (nat_eq p) es ≡ Some v → lookup (nat_eq p) (set_value (nat_eq p) es w) ≡ Some w)
        → lookup (nat_eq p) (cond b ((e.0, w) ∷ es) (e ∷ set_value (nat_eq p) es w)) ≡ Some w
    by true t k more = rw t refl
    by false t k more = rw t (more k)

pub beside_changed : {X : Type 0} (p q : ℕ) (es : List (ℕ × X)) (w : X) → q ≢ p → lookup (nat_eq q) (set_value (nat_eq p) es w) ≡ lookup (nat_eq q) es
beside_changed p q [] w ne = refl
beside_changed {X = X} p q (e ∷ es) w ne = by (nat_eq p e.0) refl (beside_changed p q es w ne)
  where
    by : (b : Bool) → nat_eq p e.0 ≡ b → lookup (nat_eq q) (set_value (nat_eq p) es w) ≡ lookup (nat_eq q) es
        → lookup (nat_eq q) (cond b ((e.0, w) ∷ es) (e ∷ set_value (nat_eq p) es w)) ≡ cond (nat_eq q e.0) (Some e.1) (lookup (nat_eq q) es)
    by true t more = let k : p ≡ e.0 = eqb-true p e.0 t in let f : nat_eq q e.0 ≡ false = grind (arith, k) in rw f refl
    by false t more = ap (λ (o : Option X). cond (nat_eq q e.0) (Some e.1) o) more

-- a use changes the order alone
found_first : {X : Type 0} (p : ℕ) (es : List (ℕ × X)) (f : ℕ × X) → lookup_entry (nat_eq p) es ≡ Some f → (f.0 ≡ p) × (lookup (nat_eq p) es ≡ Some f.1)
found_first p [] f h = absurd (cc)
found_first {X = X} p (e ∷ es) f h = by (nat_eq p e.0) refl h (found_first p es f)
  where
    by : (b : Bool) → nat_eq p e.0 ≡ b → cond b (Some e) (lookup_entry (nat_eq p) es) ≡ Some f → (lookup_entry (nat_eq p) es ≡ Some f → (f.0 ≡ p) × (lookup (nat_eq p) es ≡ Some f.1))
        → (f.0 ≡ p) × (cond b (Some e.1) (lookup (nat_eq p) es) ≡ Some f.1)
    by true t k more =
        let same : e ≡ f = cc in
        let at : p ≡ e.0 = eqb-true p e.0 t in
        (sym (ap (λ (x : ℕ × X). x.0) same) ∙ sym at, ap (λ (x : ℕ × X). let o : Option X = Some x.1 in o) same)
    by false t k more = more k

pub copies_promoted : {X : Type 0} (p q : ℕ) (es : List (ℕ × X)) → lookup (nat_eq q) (promoted (nat_eq p) es) ≡ lookup (nat_eq q) es
copies_promoted {X = X} p q es = by (lookup_entry (nat_eq p) es) refl
  where
    by : (o : Option (ℕ × X)) → lookup_entry (nat_eq p) es ≡ o → lookup (nat_eq q) (option_map_or (λ e. e ∷ remove_entry (nat_eq p) es) o es) ≡ lookup (nat_eq q) es
    by None h = refl
    by (Some f) h =
        let k = found_first p es f h in
        at f k.0 k.1 (nat_eq q f.0) refl
      where
        at : (g : ℕ × X) → g.0 ≡ p → lookup (nat_eq p) es ≡ Some g.1 → (b : Bool) → nat_eq q g.0 ≡ b → cond b (Some g.1) (lookup (nat_eq q) (remove_entry (nat_eq p) es)) ≡ lookup (nat_eq q) es
        at g e l true t = let z : q ≡ p = eqb-true q g.0 t ∙ e in subst (λ (m : ℕ). Some g.1 ≡ lookup (nat_eq m) es) (sym z) (sym l)
        at g e l false t = beside_removed p q es (λ z. let no : ⊥ = grind (arith, t, e, z) in no)

pub used_copy : (C : Cache) (p q : ℕ) → copy_of (used C p) q ≡ copy_of C q
used_copy C p q = copies_promoted p q C.copies

-- a fetch has the copy no longer
pub here_unpinned : (C D : Cache) (p : ℕ) → IfSome (copy_of C p) (λ copy. D ≡ with_copy C p (unpinned copy)) → 0 < pins_in (copy_of C p) → copy_of D p ≡ freed (copy_of C p)
here_unpinned C D p h some = by (copy_of C p) refl h some
  where
    by : (o : Option Cached) → copy_of C p ≡ o → IfSome o (λ copy. D ≡ with_copy C p (unpinned copy)) → 0 < pins_in o → copy_of D p ≡ freed o
    by None e g s = absurd (omega arith)
    by (Some c) e g s = ap (λ (E : Cache). copy_of E p) g ∙ here_changed p C.copies c (unpinned c) e

pub beside_unpinned : (C D : Cache) (p q : ℕ) → IfSome (copy_of C p) (λ copy. D ≡ with_copy C p (unpinned copy)) → 0 < pins_in (copy_of C p) → q ≢ p → copy_of D q ≡ copy_of C q
beside_unpinned C D p q h some ne = by (copy_of C p) h some
  where
    by : (o : Option Cached) → IfSome o (λ copy. D ≡ with_copy C p (unpinned copy)) → 0 < pins_in o → copy_of D q ≡ copy_of C q
    by None g s = absurd (omega arith)
    by (Some c) g s = ap (λ (E : Cache). copy_of E q) g ∙ beside_changed p q C.copies (unpinned c) ne

pub free_already : (o : Option Cached) → pins_in o ≤ 0 → freed o ≡ o
free_already None h = refl
free_already (Some c) h =
    let e : c.pins - 1 ≡ c.pins = omega arith in
    ap (λ (k : ℕ). let x : Option Cached = Some (record c { pins = k }) in x) e

pub has_pins : (o : Option Cached) → 0 < pins_in o → IsSomeAnd o (λ copy. 0 < copy.pins)
has_pins None h = absurd (omega arith)
has_pins (Some c) h = h

-- one fetch more has the copy
pub here_pinned : (C D : Cache) (p : ℕ) → IfSome (copy_of C p) (λ copy. D ≡ with_copy C p (pinned copy)) → is_some (copy_of C p) ≡ true → copy_of D p ≡ had (copy_of C p)
here_pinned C D p h some = by (copy_of C p) refl h some
  where
    by : (o : Option Cached) → copy_of C p ≡ o → IfSome o (λ copy. D ≡ with_copy C p (pinned copy)) → is_some o ≡ true → copy_of D p ≡ had o
    by None e g s = absurd (cc)
    by (Some c) e g s = ap (λ (E : Cache). copy_of E p) g ∙ here_changed p C.copies c (pinned c) e

pub beside_pinned : (C D : Cache) (p q : ℕ) → IfSome (copy_of C p) (λ copy. D ≡ with_copy C p (pinned copy)) → is_some (copy_of C p) ≡ true → q ≢ p → copy_of D q ≡ copy_of C q
beside_pinned C D p q h some ne = by (copy_of C p) h some
  where
    by : (o : Option Cached) → IfSome o (λ copy. D ≡ with_copy C p (pinned copy)) → is_some o ≡ true → copy_of D q ≡ copy_of C q
    by None g s = absurd (cc)
    by (Some c) g s = ap (λ (E : Cache). copy_of E q) g ∙ beside_changed p q C.copies (pinned c) ne

-- a copy that is dropped
one_key : (p x : ℕ) → nat_eq p x ≡ true → (y : ℕ) → nat_eq p y ≡ nat_eq x y
one_key p x h y = ap (λ (z : ℕ). nat_eq z y) (eqb-true p x h)

pub here_dropped : (C : Cache) (p : ℕ) → IsCache C → copy_of (dropped C p) p ≡ None
here_dropped C p rules = lookup-remove_entry nat_eq_equiv (nat_eq p) (λ x y h. one_key p x h y) p C.copies rules.distinct ∙ at (nat_eq p p) (grind arith)
  where
    at : (b : Bool) → b ≡ true → cond b None (lookup (nat_eq p) C.copies) ≡ None
    at true h = refl
    at false h = absurd (cc)

-- the copy that is found to go is there, and has no pin
found_in : {X : Type 0} (test : X → Bool) (xs : List X) (e : X) → find test xs ≡ Some e → (k : ℕ) × (k < length xs) × (get_or xs k e ≡ e) × (test e ≡ true)
found_in test [] e h = absurd (cc)
found_in {X = X} test (x ∷ xs) e h = by (test x) refl h (found_in test xs e)
  where
    by : (b : Bool) → test x ≡ b → cond b (Some x) (find test xs) ≡ Some e → (find test xs ≡ Some e → (k : ℕ) × (k < length xs) × (get_or xs k e ≡ e) × (test e ≡ true))
        → (k : ℕ) × (k < length (x ∷ xs)) × (get_or (x ∷ xs) k e ≡ e) × (test e ≡ true)
    by true t g more = let same : x ≡ e = cc in (0, omega arith, same, subst (λ (y : X). test y ≡ true) same t)
    by false t g more = let rest = more g in (suc rest.0, omega (arith, rest.1), rest.2, rest.3)

oldest_in : (C : Cache) (p : ℕ) (o : Option (ℕ × Cached)) → IsCache C → find is_unpinned (reverse C.copies) ≡ o → option_map (λ (e : ℕ × Cached). e.0) o ≡ Some p
    → (c : Cached) × (copy_of C p ≡ Some c) × (c.pins ≡ 0)
oldest_in C p None rules h e = absurd (cc)
oldest_in C p (Some e) rules h g =
    let es = C.copies in
    let at = found_in is_unpinned (reverse es) e h in
    let k : ℕ = at.0 in
    let long : length (reverse es) ≡ length es = length-reverse es in
    let inside : k < length es = omega (arith, at.1, long) in
    let place : ℕ = length es - 1 - k in
    let there : get_or es place e ≡ e = sym (get_or-reverse es k e inside) ∙ at.2 in
    let within : place < length es = omega arith in
    let key : e.0 ≡ p = cc in
    let kept : lookup (nat_eq e.0) es ≡ Some e.1 = lookup-from_Contains nat_eq_equiv e.0 e.1 es rules.distinct (place, within, there) in
    (e.1, subst (λ (q : ℕ). lookup (nat_eq q) es ≡ Some e.1) key kept, no_pins e.1 at.3)
  where
    no_pins : (c : Cached) → (c.pins == 0) ≡ true → c.pins ≡ 0
    no_pins c h = eqb-true c.pins 0 h

pub oldest_free : (C : Cache) (p : ℕ) → IsCache C → Some p ≡ oldest_unpinned C → (c : Cached) × (copy_of C p ≡ Some c) × (c.pins ≡ 0)
oldest_free C p rules h = oldest_in C p (find is_unpinned (reverse C.copies)) rules refl (sym h)
