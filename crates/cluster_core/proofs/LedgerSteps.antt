-- For the proofs: commits that settle, one after the other.
use Rattle.std.proofs.Common.{◌≡◌, ◌≢◌, ◌<◌, ◌≤◌, ◌+◌, ℕ, Bool, true, false, List, [], ◌∷◌, length, nat_le, if◌then◌else◌, refl, sym, ap, subst, ◌∙◌, arith}
use Rattle.session_state.specs.declared.queue.Queued.{Queued}
use Rattle.cluster_core.specs.Ledgers.{Account, behind, is_kept, settled, settled_of, settles}

chosen : (b : Bool) (x y : Account) → b ≡ true → (if b then x else y) ≡ x
chosen true x y e = refl
chosen false x y e = absurd (clash e)
  where
    clash : false ≡ true → ⊥
    clash e = cc

left_out : (b : Bool) (x y : Account) → b ≡ false → (if b then x else y) ≡ y
left_out false x y e = refl
left_out true x y e = absurd (clash e)
  where
    clash : true ≡ false → ⊥
    clash e = cc

none_kept : false ≡ true → ⊥
none_kept e = cc

one_on : (tail : ℕ) (items : List Queued) (a : Account) → is_kept tail items ≡ true → settled_of tail (behind items) (settles a) ≡ settled_of tail items a
unfolding settled_of
one_on tail [] a k = absurd (none_kept k)
one_on tail (item ∷ items) a k = sym (chosen (nat_le item.end tail) (settled_of tail items (settles a)) a k)

ends : (tail : ℕ) (items : List Queued) (a : Account) → is_kept tail items ≡ false → settled_of tail items a ≡ a
unfolding settled_of
ends tail [] a k = refl
ends tail (item ∷ items) a k = left_out (nat_le item.end tail) (settled_of tail items (settles a)) a k

pub settled_on : (tail : ℕ) (a b : Account) → b ≡ settles a → is_kept tail a.queue ≡ true → settled tail b ≡ settled tail a
unfolding settled
settled_on tail a b e k = ap (λ (x : Account). settled_of tail x.queue x) e ∙ one_on tail a.queue a k

pub settled_end : (tail : ℕ) (a : Account) → is_kept tail a.queue ≡ false → settled tail a ≡ a
unfolding settled
settled_end tail a k = ends tail a.queue a k

pub has_first : (tail : ℕ) (items : List Queued) → is_kept tail items ≡ true → items ≢ []
has_first tail [] k = absurd (none_kept k)
has_first tail (item ∷ items) k = λ e. no_items item items e
  where
    no_items : (item : Queued) (items : List Queued) → item ∷ items ≡ [] → ⊥
    no_items item items e = cc
