use Rattle.std.proofs.Common.{sym, subst}
use Rattle.std.specs.Prelude.{Contains}
use Rattle.page_store.specs.Stored.{pages_of}
use Rattle.tree_store.specs.Rooms.{HasRoom}
use Rattle.paged_tables.proofs.TableLaws.{held, ok_at, entry_room, create_made}
use Rattle.paged_tables.proofs.tables.PagedTablesTableStore.create.Goals as goal

pub put_with_tree-requires-clause-room : goal.put_with_tree-requires-clause-room
put_with_tree-requires-clause-room c =
    let room = ok_at c.in_ok-path.field-0 (HasRoom (pages_of c.make_room.new.store) c.catalog_root-catalog.result c.in_ok-item.item) c.in-Ok.path c.in-Ok.is c.in_ok-path.ensures.room in
    entry_room (pages_of c.make_room.new.store) c.catalog_root-catalog.result c.in-Some.root c.catalog_root-catalog.result c.args.schema.now c.in_ok-item.item c.in_ok-item-2.item c.in-Ok.path
    c.in_ok-item.ensures.item c.in_ok-item-2.ensures.item room

pub returns-clause-made : goal.returns-clause-made
returns-clause-made c d old can ok =
    let h = held c.self.inside.store c.args.self.now d c.self.view_is old in
    let rooted = subst (Contains h.roots) (sym c.catalog_root-catalog.ensures) h.rooted in
    let mid = c.in_ok-path.ensures.forest h.roots h.items h.forest rooted in
    create_made (pages_of c.self.inside.store) (pages_of c.make_room.new.store) (pages_of c.put_with_tree.new.store) d h c.args.schema.now c.in-Some.root c.catalog_root-catalog.result c.in_ok-item-2.item
    can mid c.in-Some.ensures.0 c.in-Some.ensures.1 c.catalog_root-catalog.ensures c.in_ok-item-2.ensures.item (c.in_ok-put_with_tree.ensures.ok h.roots h.items mid rooted)
