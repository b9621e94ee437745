-- The entries stay seated when a node is kicked and when a slab is dropped.
use Rattle.std.proofs.Common.{◌≡◌, ◌≢◌, ℕ, Bool, true, false, List, Option, Some, None, if◌then◌else◌, nat_eq, eqb-true, refl, sym, ◌∙◌, ap, subst, arith}
use Rattle.home_model.specs.Entry.{Entry as HomeEntry, dropped}
use Rattle.slab_node.specs.Slab.{SlabState}
use Rattle.home_tables.specs.Table.{slab_in}
use Rattle.home_tables.specs.Home.{HomeState, entry_at}
use Rattle.home_tables.specs.Losing.{AllBecome, kept_from, lost_on, is_at}
use Rattle.rmem_calls.specs.Seating.{AreSeated}
use Rattle.rmem_calls.proofs.SeatingLemmas.{fewer_seated}

-- the address of page p, where each entry became f of what it was
after_all : (H H' : HomeState) (f : HomeEntry → HomeEntry) (p x : ℕ) → AllBecome H H' f → (entry_at H' p).address ≡ Some x → (f (entry_at H p)).address ≡ Some x
after_all H H' f p x step at = sym (ap (λ (g : ℕ → HomeEntry). (g p).address) step.entries) ∙ at

pub kick_seated : (H H' : HomeState) (S : List SlabState) (n : ℕ) → AllBecome H H' (kept_from n) → AreSeated H S → AreSeated H' S
kick_seated H H' S n step seats = fewer_seated H H' S (λ q x at. after_all H H' (kept_from n) q x step at) seats

-- an address that is left is one from before, and not on the slab
left : (k : ℕ) (E : HomeEntry) (x : ℕ) → (lost_on k E).address ≡ Some x → (E.address ≡ Some x) × (slab_in x ≢ k)
left k E x at = by E.address refl
  where
    by : (o : Option ℕ) → E.address ≡ o → (E.address ≡ Some x) × (slab_in x ≢ k)
    by None is = absurd (let gone : (if is_at k None then dropped E else E).address ≡ Some x = subst (λ (a : Option ℕ). (if is_at k a then dropped E else E).address ≡ Some x) is at in let none : None ≡ Some x = sym is ∙ gone in cc)
    by (Some y) is = on (nat_eq (slab_in y) k) refl (subst (λ (a : Option ℕ). (if is_at k a then dropped E else E).address ≡ Some x) is at)
      where
        on : (b : Bool) → nat_eq (slab_in y) k ≡ b → (if b then dropped E else E).address ≡ Some x → (E.address ≡ Some x) × (slab_in x ≢ k)
        on true t h = absurd cc
        on false t h =
            let same : Some y ≡ Some x = sym is ∙ h in
            let one : y ≡ x = cc in
            (h, λ here. apart (subst (λ (z : ℕ). slab_in z ≡ k) (sym one) here))
          where
            apart : slab_in y ≡ k → ⊥
            apart here = grind (arith, t, here)

pub drop_seated : (H H' : HomeState) (S : List SlabState) (k : ℕ) → AllBecome H H' (lost_on k) → AreSeated H S → AreSeated H' S
drop_seated H H' S k step seats = fewer_seated H H' S (λ q x at. (left k (entry_at H q) x (after_all H H' (lost_on k) q x step at)).0) seats

pub none_there : (H H' : HomeState) (k : ℕ) → AllBecome H H' (lost_on k) → (p x : ℕ) → (entry_at H' p).address ≡ Some x → slab_in x ≢ k
none_there H H' k step p x at = (left k (entry_at H p) x (after_all H H' (lost_on k) p x step at)).1

pub others_stay : (H H' : HomeState) (k : ℕ) → AllBecome H H' (lost_on k) → (p x : ℕ) → (entry_at H p).address ≡ Some x → slab_in x ≢ k → (entry_at H' p).address ≡ Some x
others_stay H H' k step p x at apart =
    ap (λ (g : ℕ → HomeEntry). (g p).address) step.entries
    ∙ ap (λ (b : Bool). (if b then dropped (entry_at H p) else entry_at H p).address) (ap (is_at k) at ∙ not_on (nat_eq (slab_in x) k) refl)
    ∙ at
  where
    not_on : (b : Bool) → nat_eq (slab_in x) k ≡ b → nat_eq (slab_in x) k ≡ false
    not_on true t = absurd (apart (eqb-true (slab_in x) k t))
    not_on false t = t
