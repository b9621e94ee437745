use Rattle.std.proofs.Common.{ℕ, sym, subst, ◌∙◌}
use Rattle.page_image.specs.Image.{Image}
use Rattle.page_store.specs.Stored.{Stored, pages_of}
use Rattle.bplus_tree.specs.Forest.{IsFull}
use Rattle.sql_values.specs.declared.schemas.Schema.{Schema}
use Rattle.sql_engine.specs.Sound.{IsPlaced}
use Rattle.paged_tables.specs.Content.{IsFullNow, IsFullTable}
use Rattle.paged_tables.proofs.TableLaws.{held, on_ok, on_err, err_gives, same_pair, found_entry, entry_root, change_made}
use Rattle.paged_tables.proofs.tables.PagedTablesTableStore.change.Goals as goal

pub unreachable-requires : goal.unreachable-requires
unreachable-requires c =
    let d = c.requires.0 in
    let h = held c.self.inside.store c.args.self.now d c.self.view_is c.requires.1 in
    let can = c.requires.2 in
    let found = found_entry (pages_of c.self.inside.store) d h c.args.change.now.table can.schema c.in_ok-schema.field-0 can.named (c.in_ok-schema.ensures d h) in
    let none = found.3 in
    absurd cc

pub change_tree-requires-clause-forest : goal.change_tree-requires-clause-forest
change_tree-requires-clause-forest c =
    let d = c.requires.0 in
    let h = held c.self.inside.store c.args.self.now d c.self.view_is c.requires.1 in
    let can = c.requires.2 in
    let found = found_entry (pages_of c.self.inside.store) d h c.args.change.now.table can.schema c.in_ok-schema.field-0 can.named (c.in_ok-schema.ensures d h) in
    let pair = same_pair c.in_ok-schema.field-0 c.in-Some.schema c.in-Some.root found.0 c.in-Some.is found.3 in
    (h.roots, h.items, h.forest, entry_root (pages_of c.self.inside.store) d h c.args.change.now.table found.0 c.in-Some.root found.1 pair.1)

pub change_tree-requires-clause-placed : goal.change_tree-requires-clause-placed
change_tree-requires-clause-placed c =
    let d = c.requires.0 in
    let h = held c.self.inside.store c.args.self.now d c.self.view_is c.requires.1 in
    let can = c.requires.2 in
    let found = found_entry (pages_of c.self.inside.store) d h c.args.change.now.table can.schema c.in_ok-schema.field-0 can.named (c.in_ok-schema.ensures d h) in
    let pair = same_pair c.in_ok-schema.field-0 c.in-Some.schema c.in-Some.root found.0 c.in-Some.is found.3 in
    subst (λ (q : Schema). IsPlaced q c.args.change.now.key c.args.change.now.row) (sym found.2 ∙ sym pair.0) can.placed

pub returns-clause-made : goal.returns-clause-made
returns-clause-made c d old can ok =
    let h = held c.self.inside.store c.args.self.now d c.self.view_is old in
    let found = found_entry (pages_of c.self.inside.store) d h c.args.change.now.table can.schema c.in_ok-schema.field-0 can.named (c.in_ok-schema.ensures d h) in
    let pair = same_pair c.in_ok-schema.field-0 c.in-Some.schema c.in-Some.root found.0 c.in-Some.is found.3 in
    let rooted = entry_root (pages_of c.self.inside.store) d h c.args.change.now.table found.0 c.in-Some.root found.1 pair.1 in
    let forest = on_ok c.in_ok-answer.answer _ (c.done.ensures.0 ok) (c.in_ok-answer.ensures.ok h.roots h.items h.forest rooted) in
    let placed = subst (λ (q : Schema). IsPlaced q c.args.change.now.key c.args.change.now.row) (sym found.2 ∙ sym pair.0) can.placed in
    change_made (pages_of c.self.inside.store) (pages_of c.change_tree.new.store) d h c.args.change.now c.in-Some.schema c.in-Some.root found.0 found.1 pair.0 pair.1 placed forest

pub returns-clause-full : goal.returns-clause-full
returns-clause-full c =
    let d = c.requires.0 in
    let h = held c.self.inside.store c.args.self.now d c.self.view_is c.requires.1 in
    let can = c.requires.2 in
    let table = c.args.change.now.table in
    let new : ℕ → Image = pages_of c.change_tree.new.store in
    let found = found_entry (pages_of c.self.inside.store) d h table can.schema c.in_ok-schema.field-0 can.named (c.in_ok-schema.ensures d h) in
    let pair = same_pair c.in_ok-schema.field-0 c.in-Some.schema c.in-Some.root found.0 c.in-Some.is found.3 in
    on_err c.done.result c.in_ok-answer.answer (IsFullTable (pages_of c.args.self.now) table new) c.done.ensures.1
    (err_gives c.in_ok-answer.answer (IsFull new c.in-Some.root) _
    (λ full. subst (λ (s : Stored). IsFullTable (pages_of s) table new) c.self.view_is (d, h, found.0, found.1, subst (IsFull new) pair.1 full)) c.in_ok-answer.ensures.full)

pub returns-clause-room : goal.returns-clause-room
returns-clause-room c =
    on_err c.done.result c.in_ok-answer.answer (IsFullNow c.change_tree.new.store) c.done.ensures.1
    (err_gives c.in_ok-answer.answer (IsFull (pages_of c.change_tree.new.store) c.in-Some.root) _ (λ full. (c.in-Some.root, full)) c.in_ok-answer.ensures.full)
