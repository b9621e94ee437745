-- Lemmas on lists of copies: how long they are after each change.
use Rattle.std.proofs.Common.{◌≡◌, ◌≤◌, ◌+◌, ◌-◌, ℕ, Bool, true, false, cond, List, [], ◌∷◌, length, take, Option, Some, None, IsSome, is_some, refl, sym, ◌∙◌, ap, arith, nat_eq, eqb-true}
use Rattle.std.specs.Option.{option_map_or}
use Rattle.std.specs.Map.{lookup, lookup_entry, remove_entry, set_value}
use Rattle.lru.specs.LruCache.{LruCache, promoted, put_entries}
use Rattle.std.proofs.lemmas.List.{take_all}
use Rattle.std.proofs.lemmas.Map.{length-set_value}
use Rattle.std.proofs.lemmas.Bool.{false≢true}

-- what is taken out leaves the list no longer than it was
pub length_removed : {K X : Type 0} (test : K → Bool) (es : List (K × X)) → length (remove_entry test es) ≤ length es
length_removed test [] = omega arith
length_removed test (e ∷ es) = by (test e.0) (length_removed test es)
  where
    by : (b : Bool) → length (remove_entry test es) ≤ length es → length (cond b es (e ∷ remove_entry test es)) ≤ length (e ∷ es)
    by true h = omega arith
    by false h = omega arith

length_found : {K X : Type 0} (test : K → Bool) (es : List (K × X)) (f : K × X) → lookup_entry test es ≡ Some f → length (remove_entry test es) + 1 ≡ length es
length_found test [] f h = cc
length_found test (e ∷ es) f h = by (test e.0) h (length_found test es f)
  where
    by : (b : Bool) → cond b (Some e) (lookup_entry test es) ≡ Some f → (lookup_entry test es ≡ Some f → length (remove_entry test es) + 1 ≡ length es) → length (cond b es (e ∷ remove_entry test es)) + 1 ≡ length (e ∷ es)
    by true h more = omega arith
    by false h more = let k = more h in omega arith

-- a use leaves their number
pub length_promoted : {K X : Type 0} (test : K → Bool) (es : List (K × X)) → length (promoted test es) ≡ length es
length_promoted {K = K} {X = X} test es = by (lookup_entry test es) refl
  where
    by : (o : Option (K × X)) → lookup_entry test es ≡ o → length (option_map_or (λ e. e ∷ remove_entry test es) o es) ≡ length es
    by None h = refl
    by (Some f) h = let k = length_found test es f h in omega arith

removed_none : {X : Type 0} (p : ℕ) (es : List (ℕ × X)) → lookup_entry (nat_eq p) es ≡ None → remove_entry (nat_eq p) es ≡ es
removed_none p [] h = refl
removed_none p (e ∷ es) h = by (nat_eq p e.0) h (removed_none p es)
  where
    by : (b : Bool) → cond b (Some e) (lookup_entry (nat_eq p) es) ≡ None → (lookup_entry (nat_eq p) es ≡ None → remove_entry (nat_eq p) es ≡ es) → cond b es (e ∷ remove_entry (nat_eq p) es) ≡ e ∷ es
    by true h more = cc
    by false h more = ap (λ l. e ∷ l) (more h)

key_found : {X : Type 0} (p : ℕ) (es : List (ℕ × X)) (f : ℕ × X) → lookup_entry (nat_eq p) es ≡ Some f → f.0 ≡ p
key_found p [] f h = cc
key_found {X = X} p (e ∷ es) f h = by (nat_eq p e.0) refl h (key_found p es f)
  where
    by : (b : Bool) → nat_eq p e.0 ≡ b → cond b (Some e) (lookup_entry (nat_eq p) es) ≡ Some f → (lookup_entry (nat_eq p) es ≡ Some f → f.0 ≡ p) → f.0 ≡ p
    by true t h more = let k : p ≡ e.0 = eqb-true p e.0 t in let same : e ≡ f = cc in sym (ap (λ (q : ℕ × X). q.0) same) ∙ sym k
    by false t h more = more h

no_lookup : {X : Type 0} (p : ℕ) (es : List (ℕ × X)) → lookup_entry (nat_eq p) es ≡ None → lookup (nat_eq p) es ≡ None
no_lookup p [] h = refl
no_lookup p (e ∷ es) h = by (nat_eq p e.0) h (no_lookup p es)
  where
    by : (b : Bool) → cond b (Some e) (lookup_entry (nat_eq p) es) ≡ None → (lookup_entry (nat_eq p) es ≡ None → lookup (nat_eq p) es ≡ None) → cond b (Some e.1) (lookup (nat_eq p) es) ≡ None
    by true h more = cc
    by false h more = more h

not_some : {X : Type 0} (o : Option X) → o ≡ None → IsSome o → ⊥
not_some o h some = let e : is_some o ≡ false = ap is_some h in false≢true (sym e ∙ some)

below : (n capacity cap : ℕ) → capacity ≤ cap → (capacity ≤ n → ⊥) → n ≤ cap - 1
below n capacity cap wide h = omega arith

-- where the page has a copy or there is room, a copy goes first and no other page's goes
pub put_with_room : {X : Type 0} (C : LruCache ℕ X) (capacity : ℕ) (p : ℕ) (c : X) → capacity ≤ C.cap → (capacity ≤ length C.entries → IsSome (lookup (nat_eq p) C.entries)) → put_entries nat_eq C p c ≡ (p, c) ∷ remove_entry (nat_eq p) C.entries
put_with_room {X = X} C capacity p c wide room = by (lookup_entry (nat_eq p) C.entries) refl
  where
    by : (o : Option (ℕ × X)) → lookup_entry (nat_eq p) C.entries ≡ o → option_map_or (λ e. (e.0, c) ∷ remove_entry (nat_eq p) C.entries) o ((p, c) ∷ take (C.cap - 1) C.entries) ≡ (p, c) ∷ remove_entry (nat_eq p) C.entries
    by None h =
        let absent : IsSome (lookup (nat_eq p) C.entries) → ⊥ = not_some (lookup (nat_eq p) C.entries) (no_lookup p C.entries h) in
        let short : length C.entries ≤ C.cap - 1 = below (length C.entries) capacity C.cap wide (λ full. absent (room full)) in
        ap (λ (q : List (ℕ × X)). (p, c) ∷ q) (take_all (C.cap - 1) C.entries short ∙ sym (removed_none p C.entries h))
    by (Some f) h = ap (λ (q : ℕ). (q, c) ∷ remove_entry (nat_eq p) C.entries) (key_found p C.entries f h)

-- then there are no more than may be
pub length_put : {X : Type 0} (es : List (ℕ × X)) (capacity : ℕ) (p : ℕ) (c : X) → length es ≤ capacity → (capacity ≤ length es → IsSome (lookup (nat_eq p) es)) → length ((p, c) ∷ remove_entry (nat_eq p) es) ≤ capacity
length_put {X = X} es capacity p c short room = by (lookup_entry (nat_eq p) es) refl
  where
    by : (o : Option (ℕ × X)) → lookup_entry (nat_eq p) es ≡ o → length ((p, c) ∷ remove_entry (nat_eq p) es) ≤ capacity
    by None h =
        let absent : IsSome (lookup (nat_eq p) es) → ⊥ = not_some (lookup (nat_eq p) es) (no_lookup p es h) in
        let apart : capacity ≤ length es → ⊥ = λ full. absent (room full) in
        let same : length (remove_entry (nat_eq p) es) ≡ length es = ap (λ (q : List (ℕ × X)). length q) (removed_none p es h) in
        omega arith
    by (Some f) h = let k = length_found (nat_eq p) es f h in omega arith

pub length_changed : {K X : Type 0} (test : K → Bool) (es : List (K × X)) (w : X) → length (set_value test es w) ≡ length es
length_changed test es w = length-set_value test es w
