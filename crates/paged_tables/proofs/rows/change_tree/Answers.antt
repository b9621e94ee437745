use Rattle.std.proofs.Common.{◌≡◌, ℕ, List, Option, sym, ap, subst, ◌∙◌}
use Rattle.std.specs.Option.{option_map_or}
use Rattle.sql_values.specs.declared.values.Value.{Value}
use Rattle.tree_change.specs.Effects.{with_item, without_item}
use Rattle.page_store.specs.Stored.{pages_of}
use Rattle.bplus_tree.specs.Forest.{Forest, with_tree}
use Rattle.paged_tables.specs.Items.{row_item}
use Rattle.paged_tables.specs.Changes.{changed_items}
use Rattle.paged_tables.proofs.ReadLaws.{ok_gives}
use Rattle.paged_tables.proofs.rows.change_tree.Goals as goal

pub returns-in-None-clause-ok : goal.returns-in-None-clause-ok
returns-in-None-clause-ok c roots items forest rooted =
    let xs : List (List ℕ) = items c.args.root in
    let k : ℕ = c.args.schema.now.key in
    let same : without_item c.as_slice.result.now xs ≡ changed_items k c.args.change.now xs =
    ap (λ (key : List ℕ). without_item key xs) c.as_slice.ensures
    ∙ sym (ap (λ (o : Option (List Value)). option_map_or (λ row. with_item c.args.change.now.key (row_item k row) xs) o (without_item c.args.change.now.key xs)) c.in-None.is) in
    ok_gives c.take_out.result _ _
    (λ answer h. ok_gives answer _ _ (λ done f. subst (λ (new : List (List ℕ)). Forest (pages_of c.take_out.new.store) roots (with_tree items c.args.root new)) same f) h)
    (c.take_out.ensures.ok roots items forest rooted)

pub returns-in-Some-clause-ok : goal.returns-in-Some-clause-ok
returns-in-Some-clause-ok c roots items forest rooted =
    let xs : List (List ℕ) = items c.args.root in
    let k : ℕ = c.args.schema.now.key in
    let same : with_item c.args.change.now.key (row_item k c.in-Some.row) xs ≡ changed_items k c.args.change.now xs =
    sym (ap (λ (o : Option (List Value)). option_map_or (λ row. with_item c.args.change.now.key (row_item k row) xs) o (without_item c.args.change.now.key xs)) c.in-Some.is) in
    ok_gives c.put_row.result _ _
    (λ answer h. ok_gives answer _ _ (λ done f. subst (λ (new : List (List ℕ)). Forest (pages_of c.put_row.new.store) roots (with_tree items c.args.root new)) same f) h)
    (c.put_row.ensures.ok roots items forest rooted)
