use Rattle.std.proofs.Common.{◌≡◌, List, ℕ, [], ◌∷◌, length, slice_get, get_or, Some, arith, ap, sym, ◌∙◌}
use Rattle.std.specs.Option.{option_copied}
use Rattle.std.proofs.lemmas.Option.{get_or_from_slice_get}
use Rattle.std.proofs.lemmas.List.Elements.{All-get_or, All-from_recursion}
use Rattle.page_image.specs.Image.{used}
use Rattle.page_view.specs.Leaf.{HoldsLeaf}
use Rattle.tree_change.proofs.PlaceLaws.{with_key_found, with_key_absent}
use Rattle.tree_change.proofs.room.freed.Goals as goal

the_item : (items : List (List ℕ)) (i : ℕ) (item : List ℕ) → slice_get items i ≡ Some item → get_or items i [] ≡ item
the_item items i item e = get_or_from_slice_get items i item [] e

pub returns-in-Ok-clause-freed : goal.returns-in-Ok-clause-freed
returns-in-Ok-clause-freed c =
    let found = with_key_found c.args.key.now c.args.leaf.now.items c.in-Ok.place c.requires.ascend c.in-Ok.ensures in
    let here : get_or c.args.leaf.now.items c.in-Ok.place [] ≡ c.unwrap.result.now =
    the_item c.args.leaf.now.items c.in-Ok.place c.unwrap.result.now (sym c.item.ensures ∙ ap option_copied c.unwrap.ensures) in
    let one = ap used (found.1 ∙ ap (λ (x : List ℕ). x ∷ []) here) in
    omega (arith, one)

pub returns-in-Ok-clause-bound : goal.returns-in-Ok-clause-bound
returns-in-Ok-clause-bound c =
    let found = with_key_found c.args.key.now c.args.leaf.now.items c.in-Ok.place c.requires.ascend c.in-Ok.ensures in
    let here : get_or c.args.leaf.now.items c.in-Ok.place [] ≡ c.unwrap.result.now =
    the_item c.args.leaf.now.items c.in-Ok.place c.unwrap.result.now (sym c.item.ensures ∙ ap option_copied c.unwrap.ensures) in
    let holds : HoldsLeaf (get_or c.args.leaf.now.items c.in-Ok.place []) =
    All-get_or HoldsLeaf c.args.leaf.now.items c.in-Ok.place [] found.0 (All-from_recursion HoldsLeaf c.args.leaf.now.items c.requires.items) in
    omega (arith, holds.short, ap length here)

pub returns-in-Err-clause-freed : goal.returns-in-Err-clause-freed
returns-in-Err-clause-freed c =
    let none = ap used (with_key_absent c.args.key.now c.args.leaf.now.items c.in-Err.field-0 c.in-Err.ensures.1 c.in-Err.ensures.2) in
    omega (arith, none)
