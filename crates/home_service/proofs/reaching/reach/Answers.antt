use Rattle.std.proofs.Common.{◌≡◌, true, false, length, refl, sym, ap, ◌∙◌, arith}
use Rattle.std.specs.Option.{option_copied}
use Rattle.std.proofs.lemmas.Bool.{true≢false}
use Rattle.std.proofs.lemmas.Option.{slice_get_within}
use Rattle.slab_node.specs.Slab.{SlabState}
use Rattle.slab_node.specs.Slabs.{slab_at}
use Rattle.home_service.proofs.Reached.{slab_there, none_down}
use Rattle.home_service.proofs.reaching.reach.Goals as goal

pub returns-in_default-clause-down : goal.returns-in_default-clause-down
returns-in_default-clause-down c =
    (λ h. none_down c.args.slabs.now c.args.address.now.slab (sym c.get.ensures ∙ ap option_copied c.in_default.is), λ h. refl)

there : (c : goal.Then-not-is_up) → slab_at c.args.slabs.now c.args.address.now.slab ≡ c.in-Some.slab.now
there c = slab_there c.args.slabs.now c.args.address.now.slab c.in-Some.slab.now (sym c.get.ensures ∙ ap option_copied c.in-Some.is)

down : (c : goal.Then-not-is_up) → (slab_at c.args.slabs.now c.args.address.now.slab).up ≡ false
down c = ap (λ (S : SlabState). S.up) (there c) ∙ sym c.is_up.ensures ∙ c.if-not-is_up.true

pub returns-then-not-is_up-clause-slot : goal.returns-then-not-is_up-clause-slot
returns-then-not-is_up-clause-slot c = (λ h. absurd cc, λ s. absurd (true≢false (sym s.up ∙ down c)))

pub returns-then-not-is_up-clause-down : goal.returns-then-not-is_up-clause-down
returns-then-not-is_up-clause-down c = (λ h. down c, λ h. refl)

pub returns-then-asked-kept-clause-slot : goal.returns-then-asked-kept-clause-slot
returns-then-asked-kept-clause-slot c =
    let at = slab_there c.args.slabs.now c.args.address.now.slab c.in-Some.slab.now (sym c.get.ensures ∙ ap option_copied c.in-Some.is) in (
      λ h. absurd cc,
      λ s. absurd (c.if-asked-kept.true (c.number-asked.ensures.value ∙ s.incarnation ∙ ap (λ (S : SlabState). S.incarnation) at
          ∙ sym (c.number-kept.ensures.value ∙ c.incarnation.ensures))),
    )

pub returns-then-asked-kept-clause-down : goal.returns-then-asked-kept-clause-down
returns-then-asked-kept-clause-down c =
    let at = slab_there c.args.slabs.now c.args.address.now.slab c.in-Some.slab.now (sym c.get.ensures ∙ ap option_copied c.in-Some.is) in
    let up : (slab_at c.args.slabs.now c.args.address.now.slab).up ≡ true = ap (λ (S : SlabState). S.up) at ∙ sym c.is_up.ensures ∙ c.if-not-is_up.false in
    (λ h. absurd cc, λ h. absurd (true≢false (sym up ∙ h)))

pub returns-then-slots-slot-clause-slot : goal.returns-then-slots-slot-clause-slot
returns-then-slots-slot-clause-slot c =
    let at = slab_there c.args.slabs.now c.args.address.now.slab c.in-Some.slab.now (sym c.get.ensures ∙ ap option_copied c.in-Some.is) in
    let size : length (slab_at c.args.slabs.now c.args.address.now.slab).pages ≡ c.slots-slots.result = ap (λ (S : SlabState). length S.pages) at ∙ sym c.slots-slots.ensures.count in
    (λ h. absurd cc, λ s. absurd (omega (arith, s.within, size, c.if-slots-slot.true, c.from-slot.ensures)))

pub returns-then-slots-slot-clause-down : goal.returns-then-slots-slot-clause-down
returns-then-slots-slot-clause-down c =
    let at = slab_there c.args.slabs.now c.args.address.now.slab c.in-Some.slab.now (sym c.get.ensures ∙ ap option_copied c.in-Some.is) in
    let up : (slab_at c.args.slabs.now c.args.address.now.slab).up ≡ true = ap (λ (S : SlabState). S.up) at ∙ sym c.is_up.ensures ∙ c.if-not-is_up.false in
    (λ h. absurd cc, λ h. absurd (true≢false (sym up ∙ h)))

pub returns-clause-slot : goal.returns-clause-slot
returns-clause-slot c =
    let found = sym c.get.ensures ∙ ap option_copied c.in-Some.is in
    let at = slab_there c.args.slabs.now c.args.address.now.slab c.in-Some.slab.now found in
    let up : (slab_at c.args.slabs.now c.args.address.now.slab).up ≡ true = ap (λ (S : SlabState). S.up) at ∙ sym c.is_up.ensures ∙ c.if-not-is_up.false in
    let size : length (slab_at c.args.slabs.now c.args.address.now.slab).pages ≡ c.slots-slots.result = ap (λ (S : SlabState). length S.pages) at ∙ sym c.slots-slots.ensures.count in
    let numbers : c.number-asked.result ≡ c.number-kept.result = c.if-asked-kept.false in (
      (λ h. record {
        slab = slice_get_within c.args.slabs.now c.args.address.now.slab c.in-Some.slab.now found;
        up = up;
        incarnation = sym c.number-asked.ensures.value ∙ numbers ∙ c.number-kept.ensures.value ∙ c.incarnation.ensures ∙ sym (ap (λ (S : SlabState). S.incarnation) at);
        within = omega (arith, size, c.if-slots-slot.false, c.from-slot.ensures);
      }),
      (λ s. refl),
    )

pub returns-clause-down : goal.returns-clause-down
returns-clause-down c =
    let at = slab_there c.args.slabs.now c.args.address.now.slab c.in-Some.slab.now (sym c.get.ensures ∙ ap option_copied c.in-Some.is) in
    let up : (slab_at c.args.slabs.now c.args.address.now.slab).up ≡ true = ap (λ (S : SlabState). S.up) at ∙ sym c.is_up.ensures ∙ c.if-not-is_up.false in
    (λ h. absurd cc, λ h. absurd (true≢false (sym up ∙ h)))
