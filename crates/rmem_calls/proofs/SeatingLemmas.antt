-- The entries stay seated when a page is registered.
use Rattle.std.proofs.Common.{◌≡◌, ◌≢◌, ◌<◌, ◌+◌, ◌*◌, ◌⊎◌, inl, inr, ℕ, zero, suc, Bool, true, false, not, List, [], ◌∷◌, length, set, Option, Some, None, if◌then◌else◌, nat_eq, eqb-true, refl, sym, ◌∙◌, ap, subst, arith}
use Rattle.std.proofs.lemmas.Bool.{true≢false}
use Rattle.std.proofs.lemmas.List.{get_or-set_same, get_or-set_other}
use Rattle.rm_base.specs.declared.places.Addr.{Addr}
use Rattle.std.specs.Option.{option_map}
use Rattle.home_model.specs.Numbered.{put}
use Rattle.home_model.specs.Entry.{Entry as HomeEntry, no_entry, registered, address_or, takes_slot}
use Rattle.slab_node.specs.Free.{is_free}
use Rattle.slab_node.specs.Slab.{SlabState, took, crashed, restarted}
use Rattle.slab_node.specs.Slabs.{no_slab, slab_at, AreSlabs, IsLeastSlot, took_at, crashed_at, restarted_at}
use Rattle.home_tables.specs.Table.{entry_of, address_number}
use Rattle.home_tables.specs.Home.{HomeState, kept, entry_at}
use Rattle.home_tables.specs.declared.entry.Entry.{Entry}
use Rattle.message_network.specs.declared.calls.Reply.{Reply}
use Rattle.message_network.specs.declared.calls.Reply.TheVariants.{Registered, PoolFull, Unregistered, Started, Done, Appended, Got, Fenced}
use Rattle.rmem_calls.specs.Registering.{Joins, TakesFree, TakesGiven, RegisterAnswers}
use Rattle.rmem_calls.specs.Seating.{slot_in, slab_in, incarnation_in, AreSeated}

slab_of : (i k s : ℕ) → k < 32 → s < 65536 → slab_in ((i * 32 + k) * 65536 + s) ≡ k
slab_of i k s hk hs = omega arith

slot_of : (i k s : ℕ) → s < 65536 → slot_in ((i * 32 + k) * 65536 + s) ≡ s
slot_of i k s hs = omega arith

incarnation_of : (i k s : ℕ) → k < 32 → s < 65536 → incarnation_in ((i * 32 + k) * 65536 + s) ≡ i
incarnation_of i k s hk hs = omega arith

some_one : (x y : ℕ) → Some x ≡ Some y → x ≡ y
some_one x y h = cc

-- the address of a registered entry: its own, or else the fresh one
registered_address : (o : Option Entry) (w a n x : ℕ) → (registered (entry_of o) w a n).address ≡ Some x → ((entry_of o).address ≡ Some x) ⊎ ((takes_slot (entry_of o) ≡ true) × (x ≡ a))
registered_address None w a n x h = inr (refl, sym (some_one a x h))
registered_address (Some e) w a n x h = by (option_map address_number e.addr) h
  where
    by : (o : Option ℕ) → Some (address_or o a) ≡ Some x → (o ≡ Some x) ⊎ ((takes_slot (record (entry_of (Some e)) { address = o }) ≡ true) × (x ≡ a))
    by (Some b) h = inl h
    by None h = inr (refl, sym (some_one a x h))

-- an entry that takes a slot has no address
unseated : (o : Option Entry) (x : ℕ) → takes_slot (entry_of o) ≡ true → (entry_of o).address ≡ Some x → ⊥
unseated None x h is = cc
unseated (Some e) x h is = by (option_map address_number e.addr) (entry_of (Some e)) h is
  where
    by : (o : Option ℕ) (E : HomeEntry) → takes_slot (record E { there = true; address = o }) ≡ true → o ≡ Some x → ⊥
    by None E h is = cc
    by (Some b) E h is = true≢false (sym h)

put_here : (f : ℕ → HomeEntry) (p q : ℕ) (E : HomeEntry) → nat_eq q p ≡ true → put f p E q ≡ E
put_here f p q E t = ap (λ (b : Bool). if b then E else f q) t

put_beside : (f : ℕ → HomeEntry) (p q : ℕ) (E : HomeEntry) → nat_eq q p ≡ false → put f p E q ≡ f q
put_beside f p q E t = ap (λ (b : Bool). if b then E else f q) t

-- the addresses after are addresses from before, each of a page of its own
seated_by : (H H' : HomeState) (S : List SlabState) (owner : ℕ → ℕ) → ((q x : ℕ) → (entry_at H' q).address ≡ Some x → (entry_at H (owner q)).address ≡ Some x)
    → ((q r x : ℕ) → (entry_at H' q).address ≡ Some x → (entry_at H' r).address ≡ Some x → owner q ≡ owner r → q ≡ r) → AreSeated H S → AreSeated H' S
seated_by H H' S owner from own seats =
    record {
      incarnation = λ q x at up. seats.incarnation (owner q) x (from q x at) up;
      taken = λ q x at up. seats.taken (owner q) x (from q x at) up;
      apart = λ q r x at also. own q r x at also (seats.apart (owner q) (owner r) x (from q x at) (from r x also));
    }

-- the address of page q, where page p was registered
address_after : (H H' : HomeState) (f : ℕ → HomeEntry) (p w a n q x : ℕ) → entry_at H' ≡ put f p (registered (entry_at H p) w a n) → (entry_at H' q).address ≡ Some x
    → ((nat_eq q p ≡ true) × (((entry_at H p).address ≡ Some x) ⊎ ((takes_slot (entry_at H p) ≡ true) × (x ≡ a)))) ⊎ ((nat_eq q p ≡ false) × ((f q).address ≡ Some x))
address_after H H' f p w a n q x h at = by (nat_eq q p) refl
  where
    by : (b : Bool) → nat_eq q p ≡ b → ((nat_eq q p ≡ true) × (((entry_at H p).address ≡ Some x) ⊎ ((takes_slot (entry_at H p) ≡ true) × (x ≡ a)))) ⊎ ((nat_eq q p ≡ false) × ((f q).address ≡ Some x))
    by true t = inl (t, registered_address (kept H p) w a n x (sym (ap (λ (F : HomeEntry). F.address) (put_here f p q (registered (entry_at H p) w a n) t)) ∙ sym (ap (λ (g : ℕ → HomeEntry). (g q).address) h) ∙ at))
    by false t = inr (t, sym (ap (λ (F : HomeEntry). F.address) (put_beside f p q (registered (entry_at H p) w a n) t)) ∙ sym (ap (λ (g : ℕ → HomeEntry). (g q).address) h) ∙ at)

keeps_joins : (H H' : HomeState) (S S' : List SlabState) (n p : ℕ) → Joins H H' S S' n p → AreSeated H S → AreSeated H' S'
keeps_joins H H' S S' n p join seats = subst (λ (T : List SlabState). AreSeated H' T) (sym join.rest) (seated_by H H' S (λ q. q) from (λ q r x at also same. same) seats)
  where
    from : (q x : ℕ) → (entry_at H' q).address ≡ Some x → (entry_at H q).address ≡ Some x
    from q x at =
        elim (address_after H H' (entry_at H) p H.watermark 0 n q x join.entry at) [
          | inl here ↦ elim here.1 [
            | inl old ↦ subst (λ (k : ℕ). (entry_at H k).address ≡ Some x) (sym (eqb-true q p here.0)) old
            | inr new ↦ absurd (true≢false (sym new.0 ∙ join.slot))
          ]
          | inr beside ↦ beside.1
        ]

keeps_given : (H H' : HomeState) (S S' : List SlabState) (n p given : ℕ) (a : Addr) → TakesGiven H H' S S' n p given a → AreSeated H S → AreSeated H' S'
keeps_given H H' S S' n p given a takes seats =
    subst (λ (T : List SlabState). AreSeated H' T) (sym takes.rest) (seated_by H H' S owner (λ q x at. (step q x at).0) own seats)
  where
    owner : ℕ → ℕ
    owner q = if nat_eq q p then given else q

    f : ℕ → HomeEntry
    f = put (entry_at H) given no_entry

    beside_given : (q x : ℕ) (b : Bool) → nat_eq q given ≡ b → (f q).address ≡ Some x → ((entry_at H q).address ≡ Some x) × (nat_eq q given ≡ false)
    beside_given q x true t at = absurd (let none = sym (ap (λ (E : HomeEntry). E.address) (put_here (entry_at H) given q no_entry t)) ∙ at in cc)
    beside_given q x false t at = (sym (ap (λ (E : HomeEntry). E.address) (put_beside (entry_at H) given q no_entry t)) ∙ at, t)

    -- the owner's address, and that a page beside p is not the given one
    step : (q x : ℕ) → (entry_at H' q).address ≡ Some x → ((entry_at H (owner q)).address ≡ Some x) × (nat_eq q p ≡ false → nat_eq q given ≡ false)
    step q x at =
        elim (address_after H H' f p H'.watermark (address_number a) n q x takes.entry.entries at) [
          | inl here ↦ elim here.1 [
            | inl old ↦ absurd (unseated (kept H p) x takes.takes old)
            | inr new ↦ (
              ap (λ (b : Bool). (entry_at H (if b then given else q)).address) here.0 ∙ takes.slot ∙ ap (λ (y : ℕ). Some y) (sym new.1),
              λ other. absurd (true≢false (sym here.0 ∙ other)),
            )
          ]
          | inr beside ↦
              let old = beside_given q x (nat_eq q given) refl beside.1 in
              (ap (λ (b : Bool). (entry_at H (if b then given else q)).address) beside.0 ∙ old.0, λ other. old.1)
        ]

    own : (q r x : ℕ) → (entry_at H' q).address ≡ Some x → (entry_at H' r).address ≡ Some x → owner q ≡ owner r → q ≡ r
    own q r x at also same = by (nat_eq q p) refl (nat_eq r p) refl
      where
        by : (b : Bool) → nat_eq q p ≡ b → (c : Bool) → nat_eq r p ≡ c → q ≡ r
        by true hq true hr = eqb-true q p hq ∙ sym (eqb-true r p hr)
        by false hq false hr = sym (ap (λ (b : Bool). if b then given else q) hq) ∙ same ∙ ap (λ (b : Bool). if b then given else r) hr
        by true hq false hr =
            let is_given : given ≡ r = sym (ap (λ (b : Bool). if b then given else q) hq) ∙ same ∙ ap (λ (b : Bool). if b then given else r) hr in
            let not_given = (step r x also).1 hr in
            absurd (grind (arith, is_given, not_given))
        by false hq true hr =
            let is_given : q ≡ given = sym (ap (λ (b : Bool). if b then given else q) hq) ∙ same ∙ ap (λ (b : Bool). if b then given else r) hr in
            let not_given = (step q x at).1 hq in
            absurd (grind (arith, is_given, not_given))

taken_now : (taken : List Bool) (s : ℕ) → is_free (set taken s true) s ≡ false
taken_now [] s = refl
taken_now (b ∷ taken) zero = refl
taken_now (b ∷ taken) (suc s) = taken_now taken s

free_after : (taken : List Bool) (s t : ℕ) → is_free taken t ≡ false → is_free (set taken s true) t ≡ false
free_after taken s t h = by (nat_eq t s) refl
  where
    by : (b : Bool) → nat_eq t s ≡ b → is_free (set taken s true) t ≡ false
    by true e = subst (λ (k : ℕ). is_free (set taken s true) k ≡ false) (sym (eqb-true t s e)) (taken_now taken s)
    by false e = let apart : t ≢ s = grind (arith, e) in ap not (get_or-set_other taken s t true true apart) ∙ h

-- the slab with that number after a slot was taken is up in the same incarnation, and what was taken is
took_keeps : (S : List SlabState) (a : Addr) (k s : ℕ) → a.slab < length S
    → ((slab_at (took_at S a) k).up ≡ (slab_at S k).up) × ((slab_at (took_at S a) k).incarnation ≡ (slab_at S k).incarnation)
    × (is_free (slab_at S k).taken s ≡ false → is_free (slab_at (took_at S a) k).taken s ≡ false)
took_keeps S a k s inside = by (nat_eq k a.slab) refl
  where
    by : (b : Bool) → nat_eq k a.slab ≡ b
        → ((slab_at (took_at S a) k).up ≡ (slab_at S k).up) × ((slab_at (took_at S a) k).incarnation ≡ (slab_at S k).incarnation)
        × (is_free (slab_at S k).taken s ≡ false → is_free (slab_at (took_at S a) k).taken s ≡ false)
    by true e =
        let here : k ≡ a.slab = eqb-true k a.slab e in
        let there : slab_at (took_at S a) a.slab ≡ took (slab_at S a.slab) a.slot = get_or-set_same S a.slab (took (slab_at S a.slab) a.slot) no_slab inside in
        subst (λ (j : ℕ). ((slab_at (took_at S a) j).up ≡ (slab_at S j).up) × ((slab_at (took_at S a) j).incarnation ≡ (slab_at S j).incarnation) × (is_free (slab_at S j).taken s ≡ false → is_free (slab_at (took_at S a) j).taken s ≡ false)) (sym here) (
          ap (λ (U : SlabState). U.up) there,
          ap (λ (U : SlabState). U.incarnation) there,
          λ was. ap (λ (U : SlabState). is_free U.taken s) there ∙ free_after (slab_at S a.slab).taken a.slot s was,
        )
    by false e =
        let apart : k ≢ a.slab = grind (arith, e) in
        let same : slab_at (took_at S a) k ≡ slab_at S k = get_or-set_other S a.slab k (took (slab_at S a.slab) a.slot) no_slab apart in
        (ap (λ (U : SlabState). U.up) same, ap (λ (U : SlabState). U.incarnation) same, λ was. ap (λ (U : SlabState). is_free U.taken s) same ∙ was)

-- no entry has the address of a free slot of a live slab
pub unused : (H : HomeState) (S : List SlabState) (a : Addr) → AreSlabs S → AreSeated H S → IsLeastSlot S a → (q : ℕ) → (entry_at H q).address ≡ Some (address_number a) → ⊥
unused H S a slabs seats least q at =
    let few = slabs.few in
    let inside = least.slab in
    let small : a.slab < 32 = omega arith in
    let within = least.within in
    let size = slabs.sizes a.slab least.slab in
    let low : a.slot < 65536 = omega arith in
    let slab : slab_in (address_number a) ≡ a.slab = slab_of a.incarnation a.slab a.slot small low in
    let slot : slot_in (address_number a) ≡ a.slot = slot_of a.incarnation a.slab a.slot low in
    let up : (slab_at S (slab_in (address_number a))).up ≡ true = ap (λ (k : ℕ). (slab_at S k).up) slab ∙ least.up in
    let was : is_free (slab_at S (slab_in (address_number a))).taken (slot_in (address_number a)) ≡ false = seats.taken q (address_number a) at up in
    let now : is_free (slab_at S a.slab).taken a.slot ≡ false = subst (λ (k : ℕ). is_free (slab_at S k).taken a.slot ≡ false) slab (subst (λ (s : ℕ). is_free (slab_at S (slab_in (address_number a))).taken s ≡ false) slot was) in
    true≢false (sym least.slot.0 ∙ now)

keeps_free : (H H' : HomeState) (S S' : List SlabState) (n p : ℕ) (a : Addr) → AreSlabs S → TakesFree H H' S S' n p a → AreSeated H S → AreSeated H' S'
keeps_free H H' S S' n p a slabs takes seats =
    subst (λ (T : List SlabState). AreSeated H' T) (sym takes.taken)
    (
    record {
      incarnation = λ q x at up. incarnation q x at up (after q x at);
      taken = λ q x at up. taken q x at up (after q x at);
      apart = λ q r x at also. apart q r x (after q x at) (after r x also);
    }
    )
  where
    after : (q x : ℕ) → (entry_at H' q).address ≡ Some x → ((nat_eq q p ≡ true) × (x ≡ address_number a)) ⊎ ((nat_eq q p ≡ false) × ((entry_at H q).address ≡ Some x))
    after q x at =
        elim (address_after H H' (entry_at H) p H.watermark (address_number a) n q x takes.entry at) [
          | inl here ↦ elim here.1 [
            | inl old ↦ absurd (unseated (kept H p) x takes.takes old)
            | inr new ↦ inl (here.0, new.1)
          ]
          | inr beside ↦ inr beside
        ]

    small : a.slab < 32
    small = let few = slabs.few in let inside = takes.least.slab in omega arith

    low : a.slot < 65536
    low = let within = takes.least.within in let size = slabs.sizes a.slab takes.least.slab in omega arith

    same_slab : slab_in (address_number a) ≡ a.slab
    same_slab = slab_of a.incarnation a.slab a.slot small low

    there : slab_at (took_at S a) a.slab ≡ took (slab_at S a.slab) a.slot
    there = get_or-set_same S a.slab (took (slab_at S a.slab) a.slot) no_slab takes.least.slab

    incarnation : (q x : ℕ) → (entry_at H' q).address ≡ Some x → (slab_at (took_at S a) (slab_in x)).up ≡ true
        → ((nat_eq q p ≡ true) × (x ≡ address_number a)) ⊎ ((nat_eq q p ≡ false) × ((entry_at H q).address ≡ Some x)) → incarnation_in x ≡ (slab_at (took_at S a) (slab_in x)).incarnation
    incarnation q x at up (inl new) =
        subst (λ (y : ℕ). incarnation_in y ≡ (slab_at (took_at S a) (slab_in y)).incarnation) (sym new.1)
        (incarnation_of a.incarnation a.slab a.slot small low ∙ takes.least.incarnation ∙ sym (ap (λ (U : SlabState). U.incarnation) there) ∙ ap (λ (k : ℕ). (slab_at (took_at S a) k).incarnation) (sym same_slab))
    incarnation q x at up (inr old) =
        let keep = took_keeps S a (slab_in x) (slot_in x) takes.least.slab in
        seats.incarnation q x old.1 (sym keep.0 ∙ up) ∙ sym keep.1

    taken : (q x : ℕ) → (entry_at H' q).address ≡ Some x → (slab_at (took_at S a) (slab_in x)).up ≡ true
        → ((nat_eq q p ≡ true) × (x ≡ address_number a)) ⊎ ((nat_eq q p ≡ false) × ((entry_at H q).address ≡ Some x)) → is_free (slab_at (took_at S a) (slab_in x)).taken (slot_in x) ≡ false
    taken q x at up (inl new) =
        subst (λ (y : ℕ). is_free (slab_at (took_at S a) (slab_in y)).taken (slot_in y) ≡ false) (sym new.1)
        (
        ap (λ (k : ℕ). is_free (slab_at (took_at S a) k).taken (slot_in (address_number a))) same_slab ∙ ap (λ (s : ℕ). is_free (slab_at (took_at S a) a.slab).taken s) (slot_of a.incarnation a.slab a.slot low)
        ∙ ap (λ (U : SlabState). is_free U.taken a.slot) there ∙ taken_now (slab_at S a.slab).taken a.slot
        )
    taken q x at up (inr old) =
        let keep = took_keeps S a (slab_in x) (slot_in x) takes.least.slab in
        keep.2 (seats.taken q x old.1 (sym keep.0 ∙ up))

    apart : (q r x : ℕ) → ((nat_eq q p ≡ true) × (x ≡ address_number a)) ⊎ ((nat_eq q p ≡ false) × ((entry_at H q).address ≡ Some x))
        → ((nat_eq r p ≡ true) × (x ≡ address_number a)) ⊎ ((nat_eq r p ≡ false) × ((entry_at H r).address ≡ Some x)) → q ≡ r
    apart q r x (inl one) (inl other) = eqb-true q p one.0 ∙ sym (eqb-true r p other.0)
    apart q r x (inl one) (inr other) = absurd (unused H S a slabs seats takes.least r (other.1 ∙ ap (λ (y : ℕ). Some y) one.1))
    apart q r x (inr one) (inl other) = absurd (unused H S a slabs seats takes.least q (one.1 ∙ ap (λ (y : ℕ). Some y) other.1))
    apart q r x (inr one) (inr other) = seats.apart q r x one.1 other.1

pub keeps_seated : (H H' : HomeState) (S S' : List SlabState) (n p : ℕ) (reply : Reply) → AreSlabs S → AreSeated H S → RegisterAnswers H H' S S' n p reply → AreSeated H' S'
keeps_seated H H' S S' n p (Registered a bit floor) slabs seats answer =
    elim answer.0 [
      | inl join ↦ keeps_joins H H' S S' n p join seats
      | inr other ↦ elim other [
        | inl free ↦ keeps_free H H' S S' n p free.0 slabs free.1 seats
        | inr given ↦ keeps_given H H' S S' n p given.0 given.1 given.2 seats
      ]
    ]
keeps_seated H H' S S' n p (PoolFull slots) slabs seats answer =
    subst (λ (T : List SlabState). AreSeated H' T) (sym answer.rest) (subst (λ (G : HomeState). AreSeated G S) (sym answer.home) seats)
keeps_seated H H' S S' n p Unregistered slabs seats answer = absurd answer
keeps_seated H H' S S' n p (Started due) slabs seats answer = absurd answer
keeps_seated H H' S S' n p Done slabs seats answer = absurd answer
keeps_seated H H' S S' n p (Appended other) slabs seats answer = absurd answer
keeps_seated H H' S S' n p (Got other) slabs seats answer = absurd answer
keeps_seated H H' S S' n p (Fenced epoch) slabs seats answer = absurd answer

-- the entries stay seated where each address is one that its page had before
pub fewer_seated : (H H' : HomeState) (S : List SlabState) → ((q x : ℕ) → (entry_at H' q).address ≡ Some x → (entry_at H q).address ≡ Some x) → AreSeated H S → AreSeated H' S
fewer_seated H H' S from seats = seated_by H H' S (λ q. q) from (λ q r x at also same. same) seats

-- slab k becomes T, which is down or has no entry
set_seated : (H : HomeState) (S : List SlabState) (k : ℕ) (T : SlabState) → k < length S → ((p x : ℕ) → (entry_at H p).address ≡ Some x → slab_in x ≡ k → T.up ≡ true → ⊥) → AreSeated H S → AreSeated H (set S k T)
set_seated H S k T inside apart seats =
    record {
      incarnation = λ p x at up. by_incarnation p x at up (nat_eq (slab_in x) k) refl;
      taken = λ p x at up. by_taken p x at up (nat_eq (slab_in x) k) refl;
      apart = seats.apart;
    }
  where
    -- the slab of an address is not k
    not_here : (p x : ℕ) → (entry_at H p).address ≡ Some x → (slab_at (set S k T) (slab_in x)).up ≡ true → nat_eq (slab_in x) k ≡ true → ⊥
    not_here p x at up e =
        let here : slab_in x ≡ k = eqb-true (slab_in x) k e in
        let is_up : T.up ≡ true = sym (ap (λ (U : SlabState). U.up) (get_or-set_same S k T no_slab inside)) ∙ ap (λ (j : ℕ). (slab_at (set S k T) j).up) (sym here) ∙ up in
        apart p x at here is_up

    same : (x : ℕ) → nat_eq (slab_in x) k ≡ false → slab_at (set S k T) (slab_in x) ≡ slab_at S (slab_in x)
    same x e = let other : slab_in x ≢ k = grind (arith, e) in get_or-set_other S k (slab_in x) T no_slab other

    by_incarnation : (p x : ℕ) → (entry_at H p).address ≡ Some x → (slab_at (set S k T) (slab_in x)).up ≡ true → (b : Bool) → nat_eq (slab_in x) k ≡ b → incarnation_in x ≡ (slab_at (set S k T) (slab_in x)).incarnation
    by_incarnation p x at up true e = absurd (not_here p x at up e)
    by_incarnation p x at up false e =
        seats.incarnation p x at (sym (ap (λ (U : SlabState). U.up) (same x e)) ∙ up) ∙ sym (ap (λ (U : SlabState). U.incarnation) (same x e))

    by_taken : (p x : ℕ) → (entry_at H p).address ≡ Some x → (slab_at (set S k T) (slab_in x)).up ≡ true → (b : Bool) → nat_eq (slab_in x) k ≡ b → is_free (slab_at (set S k T) (slab_in x)).taken (slot_in x) ≡ false
    by_taken p x at up true e = absurd (not_here p x at up e)
    by_taken p x at up false e =
        ap (λ (U : SlabState). is_free U.taken (slot_in x)) (same x e) ∙ seats.taken p x at (sym (ap (λ (U : SlabState). U.up) (same x e)) ∙ up)

pub crash_seated : (H : HomeState) (S : List SlabState) (k : ℕ) → k < length S → AreSeated H S → AreSeated H (crashed_at S k)
crash_seated H S k inside seats = set_seated H S k (crashed (slab_at S k)) inside (λ p x at here up. true≢false (sym up)) seats

pub restart_seated : (H : HomeState) (S : List SlabState) (k : ℕ) → k < length S → ((p x : ℕ) → (entry_at H p).address ≡ Some x → slab_in x ≢ k) → AreSeated H S → AreSeated H (restarted_at S k)
restart_seated H S k inside none seats = set_seated H S k (restarted (slab_at S k)) inside (λ p x at here up. none p x at here) seats
