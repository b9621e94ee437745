use Rattle.std.proofs.Common.{◌≡◌, ℕ, List, Option, Some, None, sym, ap, ◌∙◌}
use Rattle.std.specs.Prelude.{option_map, slice_get}
use Rattle.std.specs.Option.{option_copied}
use Rattle.page_view.specs.declared.leaf.LeafItem.{LeafItem}
use Rattle.page_view.specs.Leaf.{IsLeaf}
use Rattle.page_store.specs.Stored.{pages_of}
use Rattle.sql_values.specs.declared.schemas.Schema.{Schema}
use Rattle.paged_tables.specs.Items.{Entry}
use Rattle.paged_tables.specs.Content.{IsEntry}
use Rattle.paged_tables.proofs.EntryLaws.{each_found}
use Rattle.paged_tables.proofs.ReadLaws.{all_at}
use Rattle.paged_tables.proofs.CatalogLaws.{named_items, name_absent, name_found}
use Rattle.paged_tables.proofs.catalog.find_entry.Goals as goal

abbrev pair_of : Entry → Schema × ℕ
pair_of e = (e.schema, e.root)

pub returns-in-None : goal.returns-in-None
returns-in-None c d h =
    let name : List ℕ = c.args.name.now in
    let items : List LeafItem = c.in_ok-items.items in
    let text = ap (λ (t : List ℕ). Some t) c.as_slice.ensures.text in
    let same = named_items (pages_of c.args.store.now) d h c.in_ok-range.range name c.catalog_root.result items c.catalog_root.ensures
    (c.in_ok-range.ensures.low ∙ text) (c.in_ok-range.ensures.high ∙ text) c.in_ok-items.ensures.spelled in
    let none : slice_get items 0 ≡ None = sym c.get.ensures ∙ ap option_copied c.in-None.is in
    sym (ap (option_map pair_of) (name_absent items h.entries name same none))

pub entry_of-requires-clause-spelled : goal.entry_of-requires-clause-spelled
entry_of-requires-clause-spelled c =
    let d = c.requires.0 in
    let h = c.requires.1 in
    let name : List ℕ = c.args.name.now in
    let items : List LeafItem = c.in_ok-items.items in
    let text = ap (λ (t : List ℕ). Some t) c.as_slice.ensures.text in
    let same = named_items (pages_of c.args.store.now) d h c.in_ok-range.range name c.catalog_root.result items c.catalog_root.ensures
    (c.in_ok-range.ensures.low ∙ text) (c.in_ok-range.ensures.high ∙ text) c.in_ok-items.ensures.spelled in
    let some : slice_get items 0 ≡ Some c.in-Some.item.now = sym c.get.ensures ∙ ap option_copied c.in-Some.is in
    let found = name_found items h.entries name c.in-Some.item.now same some in
    (found.0, each_found IsEntry h.entries name found.0 h.each found.1, found.2)

pub entry_of-requires-clause-is_leaf : goal.entry_of-requires-clause-is_leaf
entry_of-requires-clause-is_leaf c =
    all_at IsLeaf c.in_ok-items.items 0 c.in-Some.item.now c.in_ok-items.ensures.are_leaves (sym c.get.ensures ∙ ap option_copied c.in-Some.is)

pub returns : goal.returns
returns c d h =
    let name : List ℕ = c.args.name.now in
    let items : List LeafItem = c.in_ok-items.items in
    let text = ap (λ (t : List ℕ). Some t) c.as_slice.ensures.text in
    let same = named_items (pages_of c.args.store.now) d h c.in_ok-range.range name c.catalog_root.result items c.catalog_root.ensures
    (c.in_ok-range.ensures.low ∙ text) (c.in_ok-range.ensures.high ∙ text) c.in_ok-items.ensures.spelled in
    let some : slice_get items 0 ≡ Some c.in-Some.item.now = sym c.get.ensures ∙ ap option_copied c.in-Some.is in
    let found = name_found items h.entries name c.in-Some.item.now same some in
    let is = c.in_ok-entry_of-in-Some.ensures found.0 (each_found IsEntry h.entries name found.0 h.each found.1) found.2 in
    ap (λ (p : Schema × ℕ). let o : Option (Schema × ℕ) = Some p in o) is ∙ sym (ap (option_map pair_of) found.1)
