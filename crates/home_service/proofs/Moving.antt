-- What the home's side does is what the laws of the pool say of it.
use Rattle.std.proofs.Common.{◌≡◌, ◌≢◌, ◌<◌, ℕ, Bool, true, false, nat_eq, eqb-true, List, length, Some, slice_get, get_or-set_same, get_or-set_other, length-set, refl, sym, ap, subst, ◌∙◌, arith}
use Rattle.rm_base.specs.declared.places.Addr.{Addr}
use Rattle.page_image.specs.Image.{Image}
use Rattle.call_model.specs.Callers.{Label}
use Rattle.call_model.specs.Stages.{Effect.Handles as HandlesCall}
use Rattle.message_network.specs.declared.calls.Reply.{Reply}
use Rattle.home_model.specs.Numbered.{put}
use Rattle.home_model.specs.Latch.{may_share, MayExclude}
use Rattle.home_model.specs.Entry.{Entry as HomeEntry, unregistered}
use Rattle.page_latches.specs.declared.latch.Mode.{Mode}
use Rattle.page_latches.specs.declared.latch.Mode.TheVariants.{S as Shares, X as Excludes}
use Rattle.page_latches.specs.declared.latch.Latch.TheVariants.{Granted}
use Rattle.node_model.specs.Slots.{Slots, address_number as number_of, written as memory_written}
use Rattle.slab_node.specs.Slab.{SlabState, IsPart, written}
use Rattle.slab_node.specs.Slabs.{AreSlabs, slab_at, no_slab, IsSlotOf, wrote_at}
use Rattle.slab_node.proofs.Parts.{write_part, beside_part}
use Rattle.home_tables.specs.Table.{address_number}
use Rattle.home_tables.specs.Access.{taken_by}
use Rattle.home_tables.specs.Home.{entry_at, ChangesAt}
use Rattle.home_tables.specs.Trying.{Tries}
use Rattle.page_coherence.specs.Page.{Page, set_entry}
use Rattle.page_coherence.specs.Moves.{handled_unregister}
use Rattle.page_coherence.specs.Cluster.{State as Pages}
use Rattle.pool_laws.specs.Calls.{HomeCall.UnregisterPage, only}
use Rattle.pool_laws.specs.Serving.{at_pages, Serves}
use Rattle.home_service.specs.HomeSide.{HomeSide}
use Rattle.home_service.specs.Serving.{HandlesUnregister, OnlyHome}
use Rattle.home_service.specs.Joining.{AreParts, Sees, with_page, answer_as}
use Rattle.home_service.proofs.Framing.{put_at, put_beside, changes_put, unregistered_none, sees_at, at_here, at_beside}

-- ---- calls

pub unregister_serves : (s : Pages) (S T : HomeSide) (l : Label) (p : ℕ) (r : Reply) → Sees s S → HandlesUnregister l p S r T
    → Serves (HandlesCall l.node (UnregisterPage p) (answer_as r)) s (at_pages (only p) (λ P. handled_unregister P l.node) s)
    × Sees (at_pages (only p) (λ P. handled_unregister P l.node) s) T
unregister_serves s S T l p r sees h =
    let f : Page → Page = λ P. handled_unregister P l.node in
    let t : Pages = at_pages (only p) f s in
    let serves = subst (λ (x : Reply). Serves (HandlesCall l.node (UnregisterPage p) (answer_as x)) s t) (sym h.reply) refl in
    let entry : entry_at T.home ≡ put (entry_at S.home) p (unregistered (entry_at S.home p) l.node) =
    changes_put S.home T.home p (λ E. unregistered E l.node) (unregistered_none l.node) h.entry in (
      serves,
      sees_at s t S T p (unregistered (entry_at S.home p) l.node) sees (sees.watermark ∙ sym h.entry.watermark)
          (subst (λ (slabs : List SlabState). AreParts slabs s.slots) (sym h.slabs) sees.parts) entry
          (ap (λ (P : Page). P.entry) (at_here s p f) ∙ ap (λ (E : HomeEntry). unregistered E l.node) (sees.entries p))
          (λ q apart. ap (λ (P : Page). P.entry) (at_beside s p q f apart)),
    )

-- ---- accesses: the entry of one page alone changes

pub entry_changes : (s : Pages) (S T : HomeSide) (p : ℕ) (f : HomeEntry → HomeEntry) (Q : Page) → Sees s S → OnlyHome S T → ChangesAt S.home T.home p f
    → (entry_at S.home p).there ≡ true → Q.entry ≡ f (s.page p).entry → Sees (with_page s p Q) T
entry_changes s S T p f Q sees rest change there is =
    sees_at s (with_page s p Q) S T p (f (entry_at S.home p)) sees (sees.watermark ∙ sym change.watermark)
    (subst (λ (slabs : List SlabState). AreParts slabs s.slots) (sym (ap (λ (x : HomeSide). x.slabs) rest)) sees.parts) (change.there there)
    (ap (λ (P : Page). P.entry) (put_at s.page p Q) ∙ is ∙ ap f (sees.entries p))
    (λ q apart. ap (λ (P : Page). P.entry) (put_beside s.page p q Q apart))

pub latch_changes : (s : Pages) (S T : HomeSide) (p n : ℕ) (mode : Mode) → Sees s S → OnlyHome S T → Tries S.home T.home p n mode Granted
    → Sees (with_page s p (set_entry (s.page p) (taken_by mode (s.page p).entry n))) T
latch_changes s S T p n mode sees rest tries =
    let Q : Page = set_entry (s.page p) (taken_by mode (s.page p).entry n) in
    sees_at s (with_page s p Q) S T p (taken_by mode (entry_at S.home p) n) sees (sees.watermark ∙ sym tries.watermark)
    (subst (λ (slabs : List SlabState). AreParts slabs s.slots) (sym (ap (λ (x : HomeSide). x.slabs) rest)) sees.parts) tries.taken
    (ap (λ (P : Page). P.entry) (put_at s.page p Q) ∙ ap (λ (E : HomeEntry). taken_by mode E n) (sees.entries p))
    (λ q apart. ap (λ (P : Page). P.entry) (put_beside s.page p q Q apart))

-- the rule of a try is the rule of the move
pub may_share_page : (s : Pages) (S T : HomeSide) (p n : ℕ) → Sees s S → Tries S.home T.home p n Shares Granted → may_share (s.page p).entry.latch n ≡ true
may_share_page s S T p n sees tries = ap (λ (E : HomeEntry). may_share E.latch n) (sees.entries p) ∙ tries.rule.0 tt

pub may_exclude_page : (s : Pages) (S T : HomeSide) (p n : ℕ) → Sees s S → Tries S.home T.home p n Excludes Granted → MayExclude (s.page p).entry.latch n
may_exclude_page s S T p n sees tries = subst (λ (E : HomeEntry). MayExclude E.latch n) (sym (sees.entries p)) (tries.rule.0 tt)

-- ---- slabs

-- an address is the number of its parts
pub same_number : (a : Addr) (id incarnation : ℕ) → a.slab ≡ id → a.incarnation ≡ incarnation → number_of id incarnation a.slot ≡ address_number a
same_number a id incarnation slab inc = ap (λ (k : ℕ). number_of k incarnation a.slot) (sym slab) ∙ ap (λ (i : ℕ). number_of a.slab i a.slot) (sym inc)

pub reads_slot : (s : Pages) (S : HomeSide) (a : Addr) (image : Image) → Sees s S → AreSlabs S.slabs → IsSlotOf S.slabs a
    → slice_get (slab_at S.slabs a.slab).pages a.slot ≡ Some image → (s.slots.holds (address_number a) ≡ image) × (s.slots.dead (address_number a) ≡ false)
reads_slot s S a image sees are slot at =
    let part = sees.parts a.slab slot.slab in
    let number : number_of (slab_at S.slabs a.slab).id (slab_at S.slabs a.slab).incarnation a.slot ≡ address_number a =
    same_number a (slab_at S.slabs a.slab).id (slab_at S.slabs a.slab).incarnation (sym (are.numbered a.slab slot.slab)) slot.incarnation in (
      ap s.slots.holds (sym number) ∙ part.holds slot.up a.slot image at,
      ap s.slots.dead (sym number) ∙ part.live slot.up a.slot slot.within,
    )

written_parts : (slabs : List SlabState) (M : Slots) (a : Addr) (image : Image) → AreSlabs slabs → IsSlotOf slabs a → AreParts slabs M
    → AreParts (wrote_at slabs a image) (memory_written M (address_number a) image)
written_parts slabs M a image are slot parts k within = by (nat_eq k a.slab) refl
  where
    less : k < length slabs
    less = subst (λ (n : ℕ). k < n) (length-set {A = SlabState} slabs a.slab (written (slab_at slabs a.slab) a.slot image)) within

    number : number_of (slab_at slabs a.slab).id (slab_at slabs a.slab).incarnation a.slot ≡ address_number a
    number = same_number a (slab_at slabs a.slab).id (slab_at slabs a.slab).incarnation (sym (are.numbered a.slab slot.slab)) slot.incarnation

    by : (b : Bool) → nat_eq k a.slab ≡ b → IsPart (slab_at (wrote_at slabs a image) k) (memory_written M (address_number a) image)
    by true h =
        let same : k ≡ a.slab = eqb-true k a.slab h in
        let at : slab_at (wrote_at slabs a image) k ≡ written (slab_at slabs a.slab) a.slot image =
        ap (slab_at (wrote_at slabs a image)) same ∙ get_or-set_same slabs a.slab (written (slab_at slabs a.slab) a.slot image) no_slab slot.slab in
        let few = are.sizes a.slab slot.slab in
        let part = write_part (slab_at slabs a.slab) M a.slot image (parts a.slab slot.slab) slot.within (omega arith) in
        subst (λ (T : SlabState). IsPart T (memory_written M (address_number a) image)) (sym at)
        (subst (λ (x : ℕ). IsPart (written (slab_at slabs a.slab) a.slot image) (memory_written M x image)) number part)
    by false h =
        let apart : k ≢ a.slab = grind (arith, h) in
        let at = get_or-set_other slabs a.slab k (written (slab_at slabs a.slab) a.slot image) no_slab apart in
        let beside = beside_part (slab_at slabs k) M (address_number a) image (parts k less) (λ i t later inside is.
        let below = less in
        let few = are.few in
        let size = are.sizes k less in
        let own = are.sizes a.slab slot.slab in
        let fits = slot.within in
        let here = slot.slab in
        let id = are.numbered k less in
        absurd (apart (omega arith))) in
        subst (λ (T : SlabState). IsPart T (memory_written M (address_number a) image)) (sym at) beside

pub write_changes : (s : Pages) (S T : HomeSide) (a : Addr) (image : Image) → Sees s S → AreSlabs S.slabs → IsSlotOf S.slabs a
    → T ≡ record S { slabs = wrote_at S.slabs a image } → Sees (record s { slots = memory_written s.slots (address_number a) image }) T
write_changes s S T a image sees are slot is =
    let t : Pages = record s { slots = memory_written s.slots (address_number a) image } in
    subst (λ (x : HomeSide). Sees t x) (sym is)
    (record { entries = sees.entries; watermark = sees.watermark; parts = written_parts S.slabs s.slots a image are slot sees.parts })
