use Rattle.std.proofs.Common.{◌≡◌, ℕ, List, sym, ap, subst, ◌∙◌}
use Rattle.std.specs.Prelude.{filter}
use Rattle.std.specs.List.{AllByRecursion}
use Rattle.rm_base.specs.declared.key_range.KeyRange.{KeyRange}
use Rattle.bplus_tree.specs.Found.{items_of}
use Rattle.bplus_tree.specs.Walk as walk
use Rattle.tree_change.specs.Pages.{HasRows}
use Rattle.page_store.specs.Stored.{pages_of}
use Rattle.paged_tables.proofs.ReadLaws.{ok_gives}
use Rattle.paged_tables.proofs.reading.items_in.Goals as goal

pub items_of_leaves-requires : goal.items_of_leaves-requires
items_of_leaves-requires c =
    let found = c.in_ok-leaves.ensures c.requires.0 c.requires.1 c.requires.2 c.requires.3 in
    subst (λ (ls : List ℕ). AllByRecursion (λ leaf. HasRows (pages_of c.args.store.now leaf)) ls) (sym c.as_slice.ensures) found.rows

pub returns-clause-spelled : goal.returns-clause-spelled
returns-clause-spelled c roots items forest rooted =
    let r : KeyRange = c.args.range.now in
    let found = c.in_ok-leaves.ensures roots items forest rooted in
    let is : c.in_ok-copy_of.field-0 ≡ r = c.in_ok-copy_of.ensures in
    let whole : filter (walk.in_range r.low r.high) (items_of (pages_of c.args.store.now) c.as_slice.result.now) ≡ filter (walk.in_range r.low r.high) (items c.args.root) =
    ap (λ (ls : List ℕ). filter (walk.in_range r.low r.high) (items_of (pages_of c.args.store.now) ls)) c.as_slice.ensures
    ∙ subst (λ (q : KeyRange). filter (walk.in_range q.low q.high) (items_of (pages_of c.args.store.now) c.in_ok-leaves.leaves) ≡ filter (walk.in_range q.low q.high) (items c.args.root)) is found.finds in
    ok_gives c.items_of_leaves.result _ _ (λ xs is. is ∙ whole) c.items_of_leaves.ensures.spelled
