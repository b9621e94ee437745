-- Slots that are freed one after the other.
use Rattle.std.proofs.Common.{◌≡◌, ◌≢◌, ◌<◌, ◌+◌, ◌*◌, ◌⊎◌, inl, inr, ℕ, zero, suc, Bool, true, false, not, List, [], ◌∷◌, length, set, Option, Some, None, if◌then◌else◌, nat_eq, eqb-true, refl, sym, ◌∙◌, ap, subst, arith}
use Rattle.std.proofs.lemmas.List.{get_or-set_same, get_or-set_other}
use Rattle.rm_base.specs.declared.places.Addr.{Addr}
use Rattle.home_model.specs.Entry.{stays}
use Rattle.slab_node.specs.Free.{is_free}
use Rattle.slab_node.specs.Slab.{SlabState, gave_back}
use Rattle.slab_node.specs.Slabs.{no_slab, slab_at, AreSlabs, IsSlotOf, gave_back_at}
use Rattle.std.specs.Option.{option_map}
use Rattle.home_tables.specs.declared.entry.Entry.{Entry}
use Rattle.home_tables.specs.Table.{entry_of, address_number, slot_in, slab_in, incarnation_in}
use Rattle.cluster_manager.specs.Freeing.{Frees, IsLive, IsSameButTaken, Goes}

-- nothing is freed where no live address is to be
pub none_freed : (T : ℕ → Type 0) (S : List SlabState) → ((x : ℕ) → T x → IsLive S x → ⊥) → Frees T S S
none_freed T S none = record { rest = λ k. refl; freed = λ x t live. absurd (none x t live); stays = λ k s free. free; others = λ k s h. refl }

free_now : (taken : List Bool) (s : ℕ) → s < length taken → is_free (set taken s false) s ≡ true
free_now [] s h = absurd (omega arith)
free_now (b ∷ taken) zero h = refl
free_now (b ∷ taken) (suc s) h = free_now taken s (omega arith)

slab_of : (i k s : ℕ) → k < 32 → s < 65536 → slab_in ((i * 32 + k) * 65536 + s) ≡ k
slab_of i k s hk hs = omega arith

slot_of : (i k s : ℕ) → s < 65536 → slot_in ((i * 32 + k) * 65536 + s) ≡ s
slot_of i k s hs = omega arith

incarnation_of : (i k s : ℕ) → k < 32 → s < 65536 → incarnation_in ((i * 32 + k) * 65536 + s) ≡ i
incarnation_of i k s hk hs = omega arith

-- the address of a slot is live
pub slot_live : (S : List SlabState) (a : Addr) → AreSlabs S → IsSlotOf S a → IsLive S (address_number a)
slot_live S a slabs slot =
    record {
      up = ap (λ (k : ℕ). (slab_at S k).up) here ∙ slot.up;
      incarnation = incarnation_of a.incarnation a.slab a.slot small low ∙ slot.incarnation ∙ ap (λ (k : ℕ). (slab_at S k).incarnation) (sym here);
      within = subst (λ (k : ℕ). slot_in (address_number a) < length (slab_at S k).pages) (sym here) (subst (λ (s : ℕ). s < length (slab_at S a.slab).pages) (sym (slot_of a.incarnation a.slab a.slot low)) slot.within);
    }
  where
    small : a.slab < 32
    small = let few = slabs.few in let inside = slot.slab in omega (arith, few, inside)

    low : a.slot < 65536
    low = let size = slabs.sizes a.slab slot.slab in let within = slot.within in omega (arith, size, within)

    here : slab_in (address_number a) ≡ a.slab
    here = slab_of a.incarnation a.slab a.slot small low

-- the slot at the one address with T is given back
pub one_freed : (T : ℕ → Type 0) (S : List SlabState) (a : Addr) → AreSlabs S → IsSlotOf S a → T (address_number a) → ((x : ℕ) → T x → x ≡ address_number a) → Frees T S (gave_back_at S a)
one_freed T S a slabs slot at only =
    record {
      rest = λ k. same k (nat_eq k a.slab) refl;
      freed = λ x t live. subst (λ (y : ℕ). is_free (slab_at (gave_back_at S a) (slab_in y)).taken (slot_in y) ≡ true) (sym (only x t)) freed_here;
      stays = λ k s free. still k s (nat_eq k a.slab) refl (nat_eq s a.slot) refl free;
      others = λ k s none. beside k s (nat_eq k a.slab) refl (nat_eq s a.slot) refl none;
    }
  where
    small : a.slab < 32
    small = let few = slabs.few in let inside = slot.slab in omega (arith, few, inside)

    low : a.slot < 65536
    low = let size = slabs.sizes a.slab slot.slab in let within = slot.within in omega (arith, size, within)

    here : slab_in (address_number a) ≡ a.slab
    here = slab_of a.incarnation a.slab a.slot small low

    spot : slot_in (address_number a) ≡ a.slot
    spot = slot_of a.incarnation a.slab a.slot low

    there : slab_at (gave_back_at S a) a.slab ≡ gave_back (slab_at S a.slab) a.slot
    there = get_or-set_same S a.slab (gave_back (slab_at S a.slab) a.slot) no_slab slot.slab

    apart : (k : ℕ) → nat_eq k a.slab ≡ false → slab_at (gave_back_at S a) k ≡ slab_at S k
    apart k t = let other : k ≢ a.slab = grind (arith, t) in get_or-set_other S a.slab k (gave_back (slab_at S a.slab) a.slot) no_slab other

    is_now : is_free (slab_at (gave_back_at S a) a.slab).taken a.slot ≡ true
    is_now =
        let whole : length (slab_at S a.slab).taken ≡ length (slab_at S a.slab).pages = slabs.whole a.slab slot.slab in
        let within : a.slot < length (slab_at S a.slab).taken = subst (λ (n : ℕ). a.slot < n) (sym whole) slot.within in
        ap (λ (U : SlabState). is_free U.taken a.slot) there ∙ free_now (slab_at S a.slab).taken a.slot within

    freed_here : is_free (slab_at (gave_back_at S a) (slab_in (address_number a))).taken (slot_in (address_number a)) ≡ true
    freed_here = ap (λ (k : ℕ). is_free (slab_at (gave_back_at S a) k).taken (slot_in (address_number a))) here ∙ ap (λ (s : ℕ). is_free (slab_at (gave_back_at S a) a.slab).taken s) spot ∙ is_now

    same : (k : ℕ) (b : Bool) → nat_eq k a.slab ≡ b → IsSameButTaken (slab_at S k) (slab_at (gave_back_at S a) k)
    same k true t =
        let is : k ≡ a.slab = eqb-true k a.slab t in
        subst (λ (j : ℕ). IsSameButTaken (slab_at S j) (slab_at (gave_back_at S a) j)) (sym is) (subst (λ (U : SlabState). IsSameButTaken (slab_at S a.slab) U) (sym there) refl)
    same k false t = subst (λ (U : SlabState). IsSameButTaken (slab_at S k) U) (sym (apart k t)) refl

    -- another slot of the slab is as it was
    other_slot : (s : ℕ) → nat_eq s a.slot ≡ false → is_free (slab_at (gave_back_at S a) a.slab).taken s ≡ is_free (slab_at S a.slab).taken s
    other_slot s t =
        let other : s ≢ a.slot = grind (arith, t) in
        ap (λ (U : SlabState). is_free U.taken s) there ∙ ap not (get_or-set_other (slab_at S a.slab).taken a.slot s false true other)

    still : (k s : ℕ) (b : Bool) → nat_eq k a.slab ≡ b → (c : Bool) → nat_eq s a.slot ≡ c → is_free (slab_at S k).taken s ≡ true → is_free (slab_at (gave_back_at S a) k).taken s ≡ true
    still k s true t true u free =
        subst (λ (j : ℕ). is_free (slab_at (gave_back_at S a) j).taken s ≡ true) (sym (eqb-true k a.slab t)) (subst (λ (r : ℕ). is_free (slab_at (gave_back_at S a) a.slab).taken r ≡ true) (sym (eqb-true s a.slot u)) is_now)
    still k s true t false u free =
        let is : k ≡ a.slab = eqb-true k a.slab t in
        subst (λ (j : ℕ). is_free (slab_at (gave_back_at S a) j).taken s ≡ true) (sym is) (other_slot s u ∙ subst (λ (j : ℕ). is_free (slab_at S j).taken s ≡ true) is free)
    still k s false t c u free = ap (λ (U : SlabState). is_free U.taken s) (apart k t) ∙ free

    beside : (k s : ℕ) (b : Bool) → nat_eq k a.slab ≡ b → (c : Bool) → nat_eq s a.slot ≡ c → ((x : ℕ) → T x → IsLive S x → slab_in x ≡ k → slot_in x ≡ s → ⊥)
        → is_free (slab_at (gave_back_at S a) k).taken s ≡ is_free (slab_at S k).taken s
    beside k s true t true u none = absurd (none (address_number a) at (slot_live S a slabs slot) (here ∙ sym (eqb-true k a.slab t)) (spot ∙ sym (eqb-true s a.slot u)))
    beside k s true t false u none =
        let is : k ≡ a.slab = eqb-true k a.slab t in
        subst (λ (j : ℕ). is_free (slab_at (gave_back_at S a) j).taken s ≡ is_free (slab_at S j).taken s) (sym is) (other_slot s u)
    beside k s false t c u none = ap (λ (U : SlabState). is_free U.taken s) (apart k t)

live_after : (S S' : List SlabState) → ((k : ℕ) → IsSameButTaken (slab_at S k) (slab_at S' k)) → (x : ℕ) → IsLive S x → IsLive S' x
live_after S S' same x live =
    let k : ℕ = slab_in x in
    record {
      up = ap (λ (U : SlabState). U.up) (same k) ∙ live.up;
      incarnation = live.incarnation ∙ sym (ap (λ (U : SlabState). U.incarnation) (same k));
      within = subst (λ (n : ℕ). slot_in x < n) (sym (ap (λ (U : SlabState). length U.pages) (same k))) live.within;
    }

live_before : (S S' : List SlabState) → ((k : ℕ) → IsSameButTaken (slab_at S k) (slab_at S' k)) → (x : ℕ) → IsLive S' x → IsLive S x
live_before S S' same x live =
    let k : ℕ = slab_in x in
    record {
      up = sym (ap (λ (U : SlabState). U.up) (same k)) ∙ live.up;
      incarnation = live.incarnation ∙ ap (λ (U : SlabState). U.incarnation) (same k);
      within = subst (λ (n : ℕ). slot_in x < n) (ap (λ (U : SlabState). length U.pages) (same k)) live.within;
    }

-- first the one, then the other
pub both_freed : (T U : ℕ → Type 0) (A B C : List SlabState) → Frees T A B → Frees U B C → Frees (λ x. T x ⊎ U x) A C
both_freed T U A B C first second =
    record {
      rest = λ k. second.rest k ∙ ap (λ (V : SlabState). record V { taken = (slab_at C k).taken }) (first.rest k);
      freed = λ x t live. either x live t;
      stays = λ k s free. second.stays k s (first.stays k s free);
      others = λ k s none. second.others k s (λ x u live. none x (inr u) (live_before A B first.rest x live)) ∙ first.others k s (λ x t live. none x (inl t) live);
    }
  where
    either : (x : ℕ) → IsLive A x → T x ⊎ U x → is_free (slab_at C (slab_in x)).taken (slot_in x) ≡ true
    either x live (inl t) = second.stays (slab_in x) (slot_in x) (first.freed x t live)
    either x live (inr u) = second.freed x u (live_after A B first.rest x live)

-- the same addresses, said in another way
pub freed_same : (T U : ℕ → Type 0) (A B : List SlabState) → ((x : ℕ) → T x → U x) → ((x : ℕ) → U x → T x) → Frees T A B → Frees U A B
freed_same T U A B to from old =
    record {
      rest = old.rest;
      freed = λ x u live. old.freed x (from x u) live;
      stays = old.stays;
      others = λ k s none. old.others k s (λ x t live. none x (to x t) live);
    }

chosen : (b : Bool) (o : Option Addr) (a : Addr) → Some a ≡ (if b then None else o) → (b ≡ false) × (o ≡ Some a)
chosen true o a h = absurd cc
chosen false o a h = (refl, sym h)

-- the slot of an entry that is removed is given back
pub entry_freed : (e : Entry) (tail : ℕ) (S S' : List SlabState) (a : Addr) → AreSlabs S → IsSlotOf S a → Some a ≡ (if stays (entry_of (Some e)) tail then None else e.addr) → S' ≡ gave_back_at S a
    → Frees (Goes (entry_of (Some e)) tail) S S'
entry_freed e tail S S' a slabs slot choice given =
    let parts = chosen (stays (entry_of (Some e)) tail) e.addr a choice in
    let at : (entry_of (Some e)).address ≡ Some (address_number a) = ap (λ (o : Option Addr). option_map address_number o) parts.1 in
    subst (λ (T : List SlabState). Frees (Goes (entry_of (Some e)) tail) S T) (sym given)
    (one_freed (Goes (entry_of (Some e)) tail) S a slabs slot (at, parts.0) (λ x h. let same : Some x ≡ Some (address_number a) = sym h.0 ∙ at in cc))
