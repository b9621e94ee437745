-- The entries stay seated in a sweep.
use Rattle.std.proofs.Common.{◌≡◌, ℕ, Bool, true, false, List, Some, None, if◌then◌else◌, refl, sym, ◌∙◌, ap, subst, arith}
use Rattle.std.proofs.lemmas.Bool.{true≢false}
use Rattle.home_model.specs.Numbered.{nobody}
use Rattle.home_model.specs.Latch.{free_latch}
use Rattle.home_model.specs.Entry.{Entry as HomeEntry, no_entry, stays, swept}
use Rattle.slab_node.specs.Slab.{SlabState}
use Rattle.slab_node.specs.Slabs.{slab_at}
use Rattle.home_tables.specs.Table.{slot_in, slab_in, incarnation_in}
use Rattle.home_tables.specs.Home.{HomeState, entry_at}
use Rattle.rmem_calls.specs.Seating.{AreSeated}
use Rattle.cluster_manager.specs.Freeing.{Frees, IsLive, GoesAt}

-- what is left of an entry has its address
left : (E : HomeEntry) (tail x : ℕ) → (swept E tail).address ≡ Some x → (E.address ≡ Some x) × (stays E tail ≡ true)
left E tail x h = by (stays E tail) refl h
  where
    by : (b : Bool) → stays E tail ≡ b → (if b then record E { floor = tail; refs = nobody; due = nobody; latch = free_latch } else no_entry).address ≡ Some x → (E.address ≡ Some x) × (stays E tail ≡ true)
    by true s at = (at, s)
    by false s at = absurd cc

one_address : (x y : ℕ) → slab_in x ≡ slab_in y → slot_in x ≡ slot_in y → incarnation_in x ≡ incarnation_in y → x ≡ y
one_address x y slab slot incarnation = omega arith

pub sweep_seated : (H H' : HomeState) (S S' : List SlabState) (tail : ℕ) → entry_at H' ≡ (λ p. swept (entry_at H p) tail) → Frees (GoesAt H tail) S S' → AreSeated H S → AreSeated H' S'
sweep_seated H H' S S' tail step frees seats =
    record {
      incarnation = λ p x at up. seats.incarnation p x (old p x at).0 (was_up x up) ∙ sym (ap (λ (U : SlabState). U.incarnation) (frees.rest (slab_in x)));
      taken = λ p x at up. frees.others (slab_in x) (slot_in x) (nobody p x at up) ∙ seats.taken p x (old p x at).0 (was_up x up);
      apart = λ p q x at also. seats.apart p q x (old p x at).0 (old q x also).0;
    }
  where
    old : (p x : ℕ) → (entry_at H' p).address ≡ Some x → ((entry_at H p).address ≡ Some x) × (stays (entry_at H p) tail ≡ true)
    old p x at = left (entry_at H p) tail x (sym (ap (λ (g : ℕ → HomeEntry). (g p).address) step) ∙ at)

    was_up : (x : ℕ) → (slab_at S' (slab_in x)).up ≡ true → (slab_at S (slab_in x)).up ≡ true
    was_up x up = sym (ap (λ (U : SlabState). U.up) (frees.rest (slab_in x))) ∙ up

    -- no entry that goes has the slot
    nobody : (p x : ℕ) → (entry_at H' p).address ≡ Some x → (slab_at S' (slab_in x)).up ≡ true → (y : ℕ) → GoesAt H tail y → IsLive S y → slab_in y ≡ slab_in x → slot_in y ≡ slot_in x → ⊥
    nobody p x at up y gone live slab slot =
        let mine = old p x at in
        let incarnation : incarnation_in y ≡ incarnation_in x = live.incarnation ∙ ap (λ (k : ℕ). (slab_at S k).incarnation) slab ∙ sym (seats.incarnation p x mine.0 (was_up x up)) in
        let same : y ≡ x = one_address y x slab slot incarnation in
        let one : gone.0 ≡ p = seats.apart gone.0 p x (subst (λ (z : ℕ). (entry_at H gone.0).address ≡ Some z) same gone.1.0) mine.0 in
        true≢false (sym mine.1 ∙ subst (λ (q : ℕ). stays (entry_at H q) tail ≡ false) one gone.1.1)

pub empty_seated : (H : HomeState) (S : List SlabState) → entry_at H ≡ (λ p. no_entry) → AreSeated H S
empty_seated H S none =
    record {
      incarnation = λ p x at up. absurd (nothing p x at);
      taken = λ p x at up. absurd (nothing p x at);
      apart = λ p q x at also. absurd (nothing p x at);
    }
  where
    nothing : (p x : ℕ) → (entry_at H p).address ≡ Some x → ⊥
    nothing p x at = let gone : None ≡ Some x = sym (ap (λ (g : ℕ → HomeEntry). (g p).address) none) ∙ at in cc
