use Rattle.std.proofs.Common.{◌≡◌, ◌<◌, ℕ, List, [], length, take, get_or, slice_get, Some, arith, ap, sym, ◌∙◌, below_more}
use Rattle.std.specs.Option.{option_copied}
use Rattle.std.proofs.lemmas.Option.{get_or_from_slice_get}
use Rattle.page_image.specs.Image.{used}
use Rattle.tree_change.specs.declared.halves.TheConstants.{HALF_BYTES}
use Rattle.tree_change.proofs.HalfLaws.{used_more, place_found, full_without_place}
use Rattle.tree_change.proofs.halves.split_place.Goals as goal

pub loop-i-preserved : goal.loop-i-preserved
loop-i-preserved c =
    let items : List (List ℕ) = c.args.page.now.items in
    let get : slice_get items c.from.result ≡ Some c.unwrap.result.now = sym c.item.ensures ∙ ap option_copied c.unwrap.ensures in
    let here : get_or items c.from.result [] ≡ c.unwrap.result.now = get_or_from_slice_get items c.from.result c.unwrap.result.now [] get in
    let at : get_or items c.loop-i.i [] ≡ c.unwrap.result.now = ap (λ (n : ℕ). get_or items n []) (sym c.from.ensures) ∙ here in
    let inside : c.loop-i.i < length items = let bound = c.slots-i-end.ensures.value in omega arith in
    let more = used_more items c.loop-i.i inside in
    let long = ap length at in
    let was = c.loop-i.invariant.is in
    let less : used (take c.loop-i.i items) < HALF_BYTES = omega arith in
    record {
      is = omega (arith, more, long, was);
      lesser = below_more (λ k. used (take k items) < HALF_BYTES) c.loop-i.i c.loop-i.invariant.lesser less;
    }

pub returns-then-used-ge-HALF_BYTES : goal.returns-then-used-ge-HALF_BYTES
returns-then-used-ge-HALF_BYTES c =
    place_found c.args.page.now.items c.loop-i.i c.requires (let bound = c.slots-i-end.ensures.value in omega arith) (let is = c.loop-i.invariant.is in omega arith) c.loop-i.invariant.lesser

pub returns : goal.returns
returns c =
    full_without_place c.args.page.now.items c.slots.result c.loop-i.i c.requires c.slots.ensures.value (let bound = c.slots-i-end.ensures.value in omega arith) c.loop-i.invariant.lesser
