-- `register` in the words of the laws of the pool.
use Rattle.std.proofs.Common.{◌≡◌, ◌≢◌, ◌<◌, ℕ, Bool, true, false, cond, nat_eq, eqb-true, ◌&&◌, ◌||◌, List, [], ◌∷◌, length, Option, Some, None, option_map, get_or-set_same, get_or-set_other, length-set, refl, sym, ap, subst, ◌∙◌, arith}
use Rattle.std.proofs.lemmas.Bool.{true≢false}
use Rattle.rm_base.specs.declared.places.Addr.{Addr}
use Rattle.call_model.specs.Stages.{Effect.Handles as HandlesCall}
use Rattle.message_network.specs.declared.calls.Reply.{Reply}
use Rattle.message_network.specs.declared.calls.Reply.TheVariants.{Registered, PoolFull, Unregistered, Started, Done, Appended, Got, Fenced}
use Rattle.home_model.specs.Numbered.{put}
use Rattle.home_model.specs.Entry.{Entry as HomeEntry, no_entry, entered, registered, takes_slot, told_address, address_or, raised}
use Rattle.page_latches.specs.Set.{has}
use Rattle.page_latches.specs.Holding.{latch_of}
use Rattle.page_latches.specs.declared.latch.Holders.{Holders}
use Rattle.page_latches.specs.declared.latch.Holders.TheVariants.{Free, Shared, Exclusive}
use Rattle.node_model.specs.Slots.{Slots}
use Rattle.slab_node.specs.Slab.{SlabState, IsPart, took}
use Rattle.slab_node.specs.Slabs.{AreSlabs, slab_at, no_slab, IsSlotOf, took_at}
use Rattle.home_tables.specs.Table.{address_number, entry_of, is_none_of, is_free, is_idle, is_idle_on, is_on}
use Rattle.home_tables.specs.Home.{HomeState, kept, entry_at}
use Rattle.home_tables.specs.declared.entry.Entry.{Entry}
use Rattle.rmem_calls.specs.Giving.{gives, may_give}
use Rattle.rmem_calls.specs.Registering.{Joins, TakesFree, TakesGiven, TellsEntry, Refuses}
use Rattle.rmem_calls.specs.Seating.{AreSeated}
use Rattle.rmem_calls.proofs.SeatingLemmas.{unused}
use Rattle.page_coherence.specs.Page.{Page}
use Rattle.page_coherence.specs.Mode.{Mode.Normal}
use Rattle.page_coherence.specs.Moves.{handled_register}
use Rattle.page_coherence.specs.Cluster.{State as Pages, Event.Remove, Happens as PagesDo, IsFree, IsUnused, removed}
use Rattle.pool_laws.specs.Calls.{HomeCall.RegisterPage}
use Rattle.pool_laws.specs.Serving.{MayTake, Serves}
use Rattle.home_service.specs.HomeSide.{HomeSide}
use Rattle.home_service.specs.Joining.{AreParts, Sees, without_page, handled, answer_as}
use Rattle.home_service.proofs.Framing.{put_at, put_beside, at_here, at_beside}
use Rattle.home_service.proofs.Moving.{same_number}

address_of : (b : Bool) (E N : HomeEntry) (fresh : ℕ) → N.address ≡ Some fresh → (cond b (record E { address = Some (address_or E.address fresh) }) N).address ≡ Some (cond b (address_or E.address fresh) fresh)
address_of true E N fresh is = refl
address_of false E N fresh is = is

registered_told : (E : HomeEntry) (w fresh n : ℕ) → (registered E w fresh n).address ≡ Some (told_address E fresh)
registered_told E w fresh n = address_of E.there E (entered (record E { there = false }) w fresh) fresh refl

some_same : (a b : ℕ) → Some a ≡ Some b → a ≡ b
some_same a b h = cc

-- from pages that have these entries: page p is registered with that slot, if it takes one
pub registers : (s : Pages) (T : HomeSide) (E : ℕ → HomeEntry) (w n p fresh : ℕ) (r : Reply) → ((q : ℕ) → (s.page q).entry ≡ E q) → s.watermark ≡ w
    → MayTake s p fresh → entry_at T.home ≡ put E p (registered (E p) w fresh n) → T.home.watermark ≡ w → AreParts T.slabs s.slots → TellsEntry T.home p r
    → Serves (HandlesCall n (RegisterPage p) (answer_as r)) s (handled s p fresh n) × Sees (handled s p fresh n) T
registers s T E w n p fresh (Registered a bit floor) entries mark may is same parts tell =
    let f : Page → Page = λ P. handled_register P s.watermark fresh (s.slots.holds fresh) n in
    let new : entry_at T.home p ≡ registered (E p) w fresh n = ap (λ (g : ℕ → HomeEntry). g p) is ∙ put_at E p (registered (E p) w fresh n) in
    let told : address_number a ≡ told_address (s.page p).entry fresh =
    some_same (address_number a) (told_address (E p) fresh) (sym tell.address ∙ ap (λ (F : HomeEntry). F.address) new ∙ registered_told (E p) w fresh n)
    ∙ ap (λ (F : HomeEntry). told_address F fresh) (sym (entries p)) in (
      (fresh, may, told, refl),
      record {
        entries = λ q. by q (nat_eq q p) refl;
        watermark = mark ∙ sym same;
        parts = parts;
      },
    )
  where
    by : (q : ℕ) (b : Bool) → nat_eq q p ≡ b → ((handled s p fresh n).page q).entry ≡ entry_at T.home q
    by q true h =
        let here : q ≡ p = eqb-true q p h in
        ap (λ (k : ℕ). ((handled s p fresh n).page k).entry) here
        ∙ ap (λ (P : Page). P.entry) (at_here s p (λ P. handled_register P s.watermark fresh (s.slots.holds fresh) n))
        ∙ ap (λ (F : HomeEntry). registered F s.watermark fresh n) (entries p)
        ∙ ap (λ (k : ℕ). registered (E p) k fresh n) mark
        ∙ sym (ap (λ (g : ℕ → HomeEntry). g p) is ∙ put_at E p (registered (E p) w fresh n))
        ∙ ap (entry_at T.home) (sym here)
    by q false h =
        let apart : q ≢ p = grind (arith, h) in
        ap (λ (P : Page). P.entry) (at_beside s p q (λ P. handled_register P s.watermark fresh (s.slots.holds fresh) n) apart)
        ∙ entries q ∙ sym (put_beside E p q (registered (E p) w fresh n) apart) ∙ ap (λ (g : ℕ → HomeEntry). g q) (sym is)
registers s T E w n p fresh (PoolFull slots) entries mark may is same parts tell = absurd tell
registers s T E w n p fresh Unregistered entries mark may is same parts tell = absurd tell
registers s T E w n p fresh (Started due) entries mark may is same parts tell = absurd tell
registers s T E w n p fresh Done entries mark may is same parts tell = absurd tell
registers s T E w n p fresh (Appended answer) entries mark may is same parts tell = absurd tell
registers s T E w n p fresh (Got answer) entries mark may is same parts tell = absurd tell
registers s T E w n p fresh (Fenced epoch) entries mark may is same parts tell = absurd tell

-- a page that has its slot
pub joins_serves : (s : Pages) (S T : HomeSide) (n p : ℕ) (r : Reply) → Sees s S → Joins S.home T.home S.slabs T.slabs n p → TellsEntry T.home p r
    → Serves (HandlesCall n (RegisterPage p) (answer_as r)) s (handled s p 0 n) × Sees (handled s p 0 n) T
joins_serves s S T n p r sees h tell =
    registers s T (entry_at S.home) S.home.watermark n p 0 r sees.entries sees.watermark
    (λ takes. absurd (true≢false (sym takes ∙ ap takes_slot (sees.entries p) ∙ h.slot))) h.entry h.watermark
    (subst (λ (slabs : List SlabState). AreParts slabs s.slots) (sym h.rest) sees.parts) tell

-- ---- a free slot

part_taken : (T : SlabState) (M : Slots) (slot : ℕ) → IsPart T M → IsPart (took T slot) M
part_taken T M slot h = record { holds = h.holds; live = h.live; past = h.past; down = h.down; unwritten = h.unwritten; unlost = h.unlost }

parts_taken : (slabs : List SlabState) (M : Slots) (a : Addr) → a.slab < length slabs → AreParts slabs M → AreParts (took_at slabs a) M
parts_taken slabs M a inside parts k within = by (nat_eq k a.slab) refl
  where
    less : k < length slabs
    less = subst (λ (n : ℕ). k < n) (length-set {A = SlabState} slabs a.slab (took (slab_at slabs a.slab) a.slot)) within

    by : (b : Bool) → nat_eq k a.slab ≡ b → IsPart (slab_at (took_at slabs a) k) M
    by true h =
        let same : k ≡ a.slab = eqb-true k a.slab h in
        let at : slab_at (took_at slabs a) k ≡ took (slab_at slabs a.slab) a.slot =
        ap (slab_at (took_at slabs a)) same ∙ get_or-set_same slabs a.slab (took (slab_at slabs a.slab) a.slot) no_slab inside in
        subst (λ (T : SlabState). IsPart T M) (sym at) (part_taken (slab_at slabs a.slab) M a.slot (parts a.slab inside))
    by false h =
        let apart : k ≢ a.slab = grind (arith, h) in
        subst (λ (T : SlabState). IsPart T M) (sym (get_or-set_other slabs a.slab k (took (slab_at slabs a.slab) a.slot) no_slab apart)) (parts k less)

-- a slot of a slab that is up is not lost
pub slot_lives : (slabs : List SlabState) (M : Slots) (a : Addr) → AreSlabs slabs → AreParts slabs M → IsSlotOf slabs a → M.dead (address_number a) ≡ false
slot_lives slabs M a are parts slot =
    ap M.dead (sym (same_number a (slab_at slabs a.slab).id (slab_at slabs a.slab).incarnation (sym (are.numbered a.slab slot.slab)) slot.incarnation))
    ∙ (parts a.slab slot.slab).live slot.up a.slot slot.within

pub free_serves : (s : Pages) (S T : HomeSide) (n p : ℕ) (a : Addr) (r : Reply) → Sees s S → AreSlabs S.slabs → AreSeated S.home S.slabs
    → TakesFree S.home T.home S.slabs T.slabs n p a → TellsEntry T.home p r
    → Serves (HandlesCall n (RegisterPage p) (answer_as r)) s (handled s p (address_number a) n) × Sees (handled s p (address_number a) n) T
free_serves s S T n p a r sees are seats h tell =
    let slot : IsSlotOf S.slabs a = record { slab = h.least.slab; up = h.least.up; incarnation = h.least.incarnation; within = h.least.within } in
    let free : IsFree s (address_number a) = λ q at. unused S.home S.slabs a are seats h.least q (ap (λ (F : HomeEntry). F.address) (sym (sees.entries q)) ∙ at) in
    registers s T (entry_at S.home) S.home.watermark n p (address_number a) r sees.entries sees.watermark
    (λ takes. (slot_lives S.slabs s.slots a are sees.parts slot, free)) h.entry h.watermark
    (subst (λ (slabs : List SlabState). AreParts slabs s.slots) (sym h.taken) (parts_taken S.slabs s.slots a h.least.slab sees.parts)) tell

-- ---- a full pool

pub full_serves : (s : Pages) (S T : HomeSide) (n p count : ℕ) → Sees s S → Refuses S.home T.home S.slabs T.slabs p count
    → Serves (HandlesCall n (RegisterPage p) (answer_as (PoolFull count))) s s × Sees s T
full_serves s S T n p count sees h = (
  refl,
  record {
    entries = λ q. sees.entries q ∙ ap (λ (H : HomeState). entry_at H q) (sym h.home);
    watermark = sees.watermark ∙ ap (λ (H : HomeState). H.watermark) (sym h.home);
    parts = subst (λ (slabs : List SlabState). AreParts slabs s.slots) (sym h.rest) sees.parts;
  },
)

-- ---- a page that is given away

nobody_refers : (refs : List ℕ) (n : ℕ) → is_none_of refs ≡ true → has refs n ≡ false
nobody_refers [] n h = refl
nobody_refers (m ∷ refs) n h = absurd cc

nobody_shares : (holders : Holders) (n : ℕ) → is_free holders ≡ true → (latch_of holders).shared n ≡ false
nobody_shares Free n h = refl
nobody_shares (Shared nodes) n h = absurd cc
nobody_shares (Exclusive m) n h = absurd cc

nobody_excludes : (holders : Holders) → is_free holders ≡ true → (latch_of holders).exclusive ≡ None
nobody_excludes Free h = refl
nobody_excludes (Shared nodes) h = absurd cc
nobody_excludes (Exclusive m) h = absurd cc

both : (b d : Bool) → (b && d) ≡ true → (b ≡ true) × (d ≡ true)
both true d h = (refl, h)
both false d h = absurd cc

-- what is kept of a page that may be given away
pub record IsGiven (H : HomeState) (p : ℕ) : Type 0 where
  pub entry : Entry
  pub found : kept H p ≡ Some entry
  pub idle : is_idle entry ≡ true

given_on : (H : HomeState) (p slab : ℕ) (o : Option Entry) → kept H p ≡ o → is_idle_on slab o ≡ true → IsGiven H p
given_on H p slab None found h = absurd cc
given_on H p slab (Some e) found h = record { entry = e; found = found; idle = (both (is_on slab e.addr) (is_idle e) h).1 }

given_of : (H : HomeState) (p : ℕ) (slabs : List SlabState) → may_give H slabs p ≡ true → IsGiven H p
given_of H p [] h = absurd cc
given_of H p (x ∷ slabs) h = by (λ k. given_of H p slabs k) (gives H p x) refl h
  where
    by : (may_give H slabs p ≡ true → IsGiven H p) → (b : Bool) → gives H p x ≡ b → (b || may_give H slabs p) ≡ true → IsGiven H p
    by later true is some = given_on H p x.id (kept H p) refl (both x.up (is_idle_on x.id (kept H p)) is).1
    by later false is some = later some

unused_entry : (e : Entry) → is_idle e ≡ true → IsUnused (entry_of (Some e))
unused_entry e h =
    let parts = both (is_none_of e.refs) (is_free e.latch) h in
    ((λ n. nobody_refers e.refs n parts.0), (λ n. nobody_shares e.latch n parts.1), nobody_excludes e.latch parts.1)

has_slot : (o : Option Addr) (E : HomeEntry) (x : ℕ) → takes_slot (record E { there = true; address = option_map address_number o }) ≡ true
    → option_map address_number o ≡ Some x → ⊥
has_slot None E x takes at = cc
has_slot (Some a) E x takes at = true≢false (sym takes)

given_apart : (H : HomeState) (p given x : ℕ) → IsGiven H given → (entry_at H given).address ≡ Some x → takes_slot (entry_at H p) ≡ true → p ≢ given
given_apart H p given x g at takes same =
    let e : Entry = g.entry in
    let there : entry_at H given ≡ entry_of (Some e) = ap entry_of g.found in
    let takes_given : takes_slot (entry_of (Some e)) ≡ true = ap takes_slot (sym there) ∙ ap (λ (k : ℕ). takes_slot (entry_at H k)) (sym same) ∙ takes in
    has_slot e.addr (entry_of (Some e)) x takes_given (ap (λ (F : HomeEntry). F.address) (sym there) ∙ at)

-- the given page goes first, and then the page is registered with its slot
pub given_serves : (s : Pages) (S T : HomeSide) (n p given : ℕ) (a : Addr) (r : Reply) → Sees s S → AreSlabs S.slabs → AreSeated S.home S.slabs
    → s.mode ≡ Normal → s.home_up ≡ true → IsSlotOf S.slabs a → TakesGiven S.home T.home S.slabs T.slabs n p given a → TellsEntry T.home p r
    → PagesDo (Remove given) s (without_page s given)
    × Serves (HandlesCall n (RegisterPage p) (answer_as r)) (without_page s given) (handled (without_page s given) p (address_number a) n)
    × Sees (handled (without_page s given) p (address_number a) n) T
given_serves s S T n p given a r sees are seats mode up slot h tell =
    let g : IsGiven S.home given = given_of S.home given S.slabs h.least.0 in
    let e : Entry = g.entry in
    let there : (s.page given).entry ≡ entry_of (Some e) = sees.entries given ∙ ap entry_of g.found in
    let u : Pages = without_page s given in
    let E : ℕ → HomeEntry = put (entry_at S.home) given no_entry in
    let apart : p ≢ given = given_apart S.home p given (address_number a) g h.slot h.takes in
    let same : E p ≡ entry_at S.home p = put_beside (entry_at S.home) given p no_entry apart in
    let entries : (q : ℕ) → (u.page q).entry ≡ E q = λ q. gone q (nat_eq q given) refl in
    let mark : u.watermark ≡ T.home.watermark =
    ap (λ (F : HomeEntry). raised F s.watermark) (sees.entries given) ∙ ap (raised (entry_at S.home given)) sees.watermark ∙ sym h.entry.watermark in
    let free : IsFree u (address_number a) = λ q at. lone q (nat_eq q given) refl (ap (λ (F : HomeEntry). F.address) (sym (entries q)) ∙ at) in
    let removes : PagesDo (Remove given) s u =
    (mode, up, subst (λ (F : HomeEntry). IsUnused F) (sym there) (unused_entry e g.idle), ap (λ (F : HomeEntry). F.there) there, refl) in
    let registered_there : entry_at T.home ≡ put E p (registered (E p) T.home.watermark (address_number a) n) =
    h.entry.entries ∙ ap (λ (F : HomeEntry). put E p (registered F T.home.watermark (address_number a) n)) (sym same) in
    let after = registers u T E T.home.watermark n p (address_number a) r entries mark (λ takes. (slot_lives S.slabs s.slots a are sees.parts slot, free)) registered_there refl
    (subst (λ (slabs : List SlabState). AreParts slabs s.slots) (sym h.rest) sees.parts) tell in
    (removes, after.0, after.1)
  where
    gone : (q : ℕ) (b : Bool) → nat_eq q given ≡ b → (cond b (removed (s.page given)) (s.page q)).entry ≡ cond b no_entry (entry_at S.home q)
    gone q true is = refl
    gone q false is = sees.entries q

    lone : (q : ℕ) (b : Bool) → nat_eq q given ≡ b → (cond b no_entry (entry_at S.home q)).address ≡ Some (address_number a) → ⊥
    lone q true is at = cc
    lone q false is at =
        let apart : q ≢ given = grind (arith, is) in
        apart (seats.apart q given (address_number a) at h.slot)
