use Rattle.std.proofs.Common.{◌≡◌, ℕ, List, ap, subst, ◌∙◌}
use Rattle.page_view.specs.declared.leaf.LeafItem.{LeafItem}
use Rattle.page_store.specs.Stored.{pages_of}
use Rattle.bplus_tree.specs.Forest.{Forest, with_tree}
use Rattle.paged_tables.specs.Items.{live_item}
use Rattle.paged_tables.proofs.ReadLaws.{ok_gives}
use Rattle.paged_tables.proofs.RowLaws.{ok_part, item_put}
use Rattle.paged_tables.proofs.rows.put_row.Goals as goal

pub returns-clause-ok : goal.returns-clause-ok
returns-clause-ok c roots items forest rooted =
    let item : LeafItem = c.live_item.result in
    let value = ok_part c.in_ok-value.field-0 _ _ c.in-Ok.value c.in_ok-value.ensures c.in-Ok.is in
    let is : item ≡ live_item c.args.key.now c.in-Ok.value = c.live_item.ensures ∙ ap (λ (k : List ℕ). live_item k c.in-Ok.value) c.in_ok-copy.ensures in
    let same = item_put c.args.schema.now c.args.row.now c.args.key.now c.in-Ok.value item (items c.args.root) c.requires.stored is value in
    ok_gives c.put.result _ _
    (λ answer h. ok_gives answer _ _ (λ done f. subst (λ (new : List (List ℕ)). Forest (pages_of c.put.new.store) roots (with_tree items c.args.root new)) same f) h)
    (c.put.ensures.ok roots items forest rooted)
