-- What a page tells a search, case by case.
use Rattle.std.proofs.Common.{◌≡◌, ◌≢◌, ◌<◌, ◌≤◌, ◌+◌, ◌||◌, ◌==◌, nat_le, ℕ, Bool, true, false, List, Some, None, ◌⊎◌, inl, inr, refl, sym, ◌∙◌, ap, subst, arith}
use Rattle.std.specs.Ordering.{is_eq}
use Rattle.std.proofs.lemmas.Bool.{cases_lt}
use Rattle.std.proofs.lemmas.Cmp.{nat_list_cmp_total, tied_itself}
use Rattle.page_image.specs.declared.kind.Kind.{Kind}
use Rattle.page_image.specs.declared.kind.Kind.TheVariants as kind
use Rattle.page_image.specs.Image.{Image}
use Rattle.bplus_tree.specs.declared.want.Want.{Want}
use Rattle.bplus_tree.specs.declared.want.Want.TheVariants.{Need, Leaf, Finished}
use Rattle.bplus_tree.specs.declared.want.TheConstants.{MOST_STEPS}
use Rattle.bplus_tree.specs.Walk.{Walking, Moves, Told, LeadsTo, sought, is_last, reaches, one_key, after_leaf, IsToRead, wanted, pages_left, left_by}

pub named : (at : ℕ) (k : Kind) (w : Walking) (im : Image) (new : Walking) → k ≡ kind.Leaf → new ≡ record w { want = Leaf at }
    → Moves (Need at) k w im new
named at k w im new e h = subst (λ (k : Kind). Moves (Need at) k w im new) (sym e) h

pub deeper : (at : ℕ) (k : Kind) (w : Walking) (im : Image) (new : Walking) (child : ℕ) → k ≢ kind.Leaf → w.depth < 8
    → LeadsTo im (sought w.low) child → new ≡ record w { want = Need child; depth = w.depth + 1 } → Moves (Need at) k w im new
deeper at kind.Unmade w im new child other h leads e = tt
deeper at kind.Meta w im new child other h leads e = tt
deeper at kind.Slots w im new child other h leads e = tt
deeper at kind.Stamps w im new child other h leads e = tt
deeper at kind.Leaf w im new child other h leads e = absurd (other refl)
deeper at kind.Inner w im new child other h leads e = ((λ deep. absurd (omega (arith, deep, h))), λ _. (child, leads, e))
deeper at kind.Undo w im new child other h leads e = tt

pub too_deep : (at : ℕ) (k : Kind) (w : Walking) (im : Image) (new : Walking) → k ≢ kind.Leaf → 8 ≤ w.depth
    → new ≡ record w { want = Finished } → Moves (Need at) k w im new
too_deep at kind.Unmade w im new other h e = tt
too_deep at kind.Meta w im new other h e = tt
too_deep at kind.Slots w im new other h e = tt
too_deep at kind.Stamps w im new other h e = tt
too_deep at kind.Leaf w im new other h e = absurd (other refl)
too_deep at kind.Inner w im new other h e = ((λ _. e), λ flat. absurd (omega (arith, flat, h)))
too_deep at kind.Undo w im new other h e = tt

pub goes_on : (at : ℕ) (k : Kind) (w : Walking) (im : Image) (new : Walking) → k ≡ kind.Leaf → is_last w im ≡ false
    → new ≡ record w { want = Leaf im.next; passed = w.passed + 1 } → Moves (Leaf at) k w im new
goes_on at k w im new e last h = subst (λ (k : Kind). Moves (Leaf at) k w im new) (sym e) (rw last h)

pub ends : (at : ℕ) (k : Kind) (w : Walking) (im : Image) (new : Walking) → (k ≡ kind.Leaf → is_last w im ≡ true)
    → new ≡ record w { want = Finished } → Moves (Leaf at) k w im new
ends at kind.Unmade w im new last h = tt
ends at kind.Meta w im new last h = tt
ends at kind.Slots w im new last h = tt
ends at kind.Stamps w im new last h = tt
ends at kind.Leaf w im new last h = rw (last refl) h
ends at kind.Inner w im new last h = h
ends at kind.Undo w im new last h = tt

third : (a b c d : Bool) → c ≡ true → (a || (b || (c || d))) ≡ true
third true b c d e = refl
third false true c d e = refl
third false false c d e = ap (λ (x : Bool). x || d) e

-- a search for one key ends at its first leaf
pub one_leaf : (w : Walking) (im : Image) (key : List ℕ) → w.low ≡ Some key → w.high ≡ Some key → is_last w im ≡ true
one_leaf w im key low high =
    let same : one_key w.low w.high ≡ true = rw low (rw high (ap is_eq (tied_itself nat_list_cmp_total key))) in third (im.next == 0) (reaches w.high im.items) (one_key w.low w.high) (nat_le MOST_STEPS w.passed) same

-- each page that is given brings a search nearer to its end
pub nearer : (w : Walking) (im : Image) (new : Walking) (page : ℕ) → wanted w.want ≡ Some page → IsToRead im → w.depth ≤ 8 → w.passed ≤ 32767
    → Told w im new → pages_left new < pages_left w
nearer w im new page named read flat few told = go w.want im.kind refl refl named told
  where
    not_kind : (k : Kind) → im.kind ≡ k → (k ≢ kind.Leaf) → (k ≢ kind.Inner) → ⊥
    not_kind k e a b = elim read [ inl leaf ↦ a (sym e ∙ leaf.kind) | inr inner ↦ b (sym e ∙ inner.kind) ]

    left_at : (v : Walking) → new ≡ v → pages_left new ≡ pages_left v
    left_at v e = ap pages_left e

    nothing : None ≡ Some page → ⊥
    nothing q = cc

    after : (at : ℕ) → w.want ≡ Leaf at → (b : Bool) → is_last w im ≡ b → new ≡ after_leaf w im → pages_left new < pages_left w
    after at e true last t =
        let ended : after_leaf w im ≡ record w { want = Finished } = rw last refl in
        omega (arith, left_at (record w { want = Finished }) (t ∙ ended), ap (λ (v : Want). left_by v w.depth w.passed) e, few)
    after at e false last t =
        let went : after_leaf w im ≡ record w { want = Leaf im.next; passed = w.passed + 1 } = rw last refl in
        omega (arith, left_at (record w { want = Leaf im.next; passed = w.passed + 1 }) (t ∙ went), ap (λ (v : Want). left_by v w.depth w.passed) e, few)

    go : (v : Want) (k : Kind) → w.want ≡ v → im.kind ≡ k → wanted v ≡ Some page → Moves v k w im new → pages_left new < pages_left w
    go Finished k e f named t = absurd (nothing named)
    go (Need at) kind.Leaf e f named t = omega (arith, left_at (record w { want = Leaf at }) t, ap (λ (v : Want). left_by v w.depth w.passed) e, flat)
    go (Need at) kind.Inner e f named t = elim (deep w.depth) [
      | inl h ↦ omega (arith, left_at (record w { want = Finished }) (t.0 h), ap (λ (v : Want). left_by v w.depth w.passed) e, flat)
      | inr h ↦ let moved = t.1 h in
          omega (arith, left_at (record w { want = Need moved.0; depth = w.depth + 1 }) moved.2, ap (λ (v : Want). left_by v w.depth w.passed) e, h)
    ]
      where
        deep : (d : ℕ) → (8 ≤ d) ⊎ (d < 8)
        deep d = elim (cases_lt d 8) [ inl h ↦ inr h | inr h ↦ inl h ]
    go (Leaf at) kind.Leaf e f named t = after at e (is_last w im) refl t
    go (Leaf at) kind.Inner e f named t = omega (arith, left_at (record w { want = Finished }) t, ap (λ (v : Want). left_by v w.depth w.passed) e, few)
    go (Need at) kind.Unmade e f named t = absurd (not_kind kind.Unmade f (λ q. cc) (λ q. cc))
    go (Need at) kind.Meta e f named t = absurd (not_kind kind.Meta f (λ q. cc) (λ q. cc))
    go (Need at) kind.Slots e f named t = absurd (not_kind kind.Slots f (λ q. cc) (λ q. cc))
    go (Need at) kind.Stamps e f named t = absurd (not_kind kind.Stamps f (λ q. cc) (λ q. cc))
    go (Need at) kind.Undo e f named t = absurd (not_kind kind.Undo f (λ q. cc) (λ q. cc))
    go (Leaf at) kind.Unmade e f named t = absurd (not_kind kind.Unmade f (λ q. cc) (λ q. cc))
    go (Leaf at) kind.Meta e f named t = absurd (not_kind kind.Meta f (λ q. cc) (λ q. cc))
    go (Leaf at) kind.Slots e f named t = absurd (not_kind kind.Slots f (λ q. cc) (λ q. cc))
    go (Leaf at) kind.Stamps e f named t = absurd (not_kind kind.Stamps f (λ q. cc) (λ q. cc))
    go (Leaf at) kind.Undo e f named t = absurd (not_kind kind.Undo f (λ q. cc) (λ q. cc))
