-- What the calls on tables make of the database.
use Rattle.std.proofs.Common.{◌≡◌, ◌≤◌, ℕ, List, [], ◌∷◌, ◌++◌, length, Option, Some, None, Result, Ok, Err, IfOk, OnOk, OnErr, refl, sym, ap, subst, ◌∙◌, arith}
use Rattle.rm_base.specs.declared.limits.TheConstants.{CATALOG_ROOT_PAGE_ID}
use Rattle.std.specs.Prelude.{IsOk, map, filter, option_map, option_to_list, Contains}
use Rattle.std.specs.List.{AllByRecursion}
use Rattle.rm_base.specs.declared.key_range.KeyRange.{KeyRange}
use Rattle.bplus_tree.specs.Forest.{Forest, IsFull, with_tree}
use Rattle.page_image.specs.Image.{Image}
use Rattle.page_view.specs.declared.leaf.LeafItem.{LeafItem}
use Rattle.page_view.specs.Leaf.{leaf_bytes}
use Rattle.page_store.specs.Stored.{Stored, pages_of, all_kept}
use Rattle.page_store.proofs.StoredLaws.{after_keep}
use Rattle.bplus_tree.specs.Walk as walk
use Rattle.tree_change.specs.Effects.{with_item}
use Rattle.page_image.specs.Meta.{page_count}
use Rattle.tree_change.specs.Room.{size_of, room_for}
use Rattle.tree_change.specs.Places.{leaf_on}
use Rattle.tree_store.specs.Rooms.{HasRoom, IsWayIn}
use Rattle.tree_store.proofs.ForestLaws.{not_a_root}
use Rattle.sql_values.specs.declared.schemas.Schema.{Schema}
use Rattle.sql_values.specs.declared.values.Value.{Value}
use Rattle.row_codec.specs.Records.{IsRecord, value_bytes}
use Rattle.sql_values.specs.Tables.{table_named}
use Rattle.sql_meaning.specs.Ranges.{in_range}
use Rattle.sql_database.specs.declared.changes.Change.{Change}
use Rattle.sql_database.specs.Database.{Database}
use Rattle.sql_database.specs.Applied.{with_row, with_table}
use Rattle.sql_engine.specs.Sound.{CanCreate, IsPlaced}
use Rattle.paged_tables.specs.Items.{Entry, live_item, entry_named, row_items}
use Rattle.paged_tables.specs.Catalog.{catalog_value}
use Rattle.paged_tables.specs.Changes.{changed_items}
use Rattle.paged_tables.specs.Content.{IsFullNow, IsStored, Holds}
use Rattle.paged_tables.proofs.ItemLaws.{row_key_of, rows_in_range}
use Rattle.paged_tables.proofs.EntryLaws.{filter_all}
use Rattle.paged_tables.proofs.CatalogLaws.{length-catalog_value}
use Rattle.paged_tables.proofs.HoldLaws.{holds_same, entry_of, row_changed, table_made}

-- ---- answers

pub on_ok : {T E : Type 0} (r : Result T E) (P : Type 0) → IsOk r → OnOk r P → P
on_ok (Ok x) P is h = h
on_ok (Err e) P is h = absurd cc

pub ok_at : {T E : Type 0} (r : Result T E) (P : T → Type 0) (x : T) → r ≡ Ok x → IfOk r P → P x
ok_at (Ok y) P x is h = let same : y ≡ x = cc in subst P same h
ok_at (Err e) P x is h = absurd cc

-- an answer that is Err where another is
pub on_err : {T U E F : Type 0} (r : Result T E) (q : Result U F) (P : Type 0) → (IsOk q → IsOk r) → OnErr q P → OnErr r P
on_err (Ok x) q P same h = tt
on_err {T} {U} {E} {F} (Err e) (Ok y) P same h = let no = same refl in absurd cc
on_err (Err e) (Err f) P same h = h

pub err_gives : {T E : Type 0} (r : Result T E) (P Q : Type 0) → (P → Q) → OnErr r P → OnErr r Q
err_gives (Ok x) P Q f h = tt
err_gives (Err e) P Q f h = f h

abbrev pub pair_of : Entry → Schema × ℕ
pair_of e = (e.schema, e.root)

abbrev some_pair : Schema → ℕ → Option (Schema × ℕ)
some_pair s r = Some (s, r)

pub same_pair : (o : Option (Schema × ℕ)) (s : Schema) (r : ℕ) (e : Entry) → o ≡ some_pair s r → o ≡ some_pair e.schema e.root → (s ≡ e.schema) × (r ≡ e.root)
same_pair o s r e is same =
    let both : some_pair s r ≡ some_pair e.schema e.root = sym is ∙ same in
    let pairs : (s, r) ≡ (e.schema, e.root) = cc in
    (ap (λ (p : Schema × ℕ). p.0) pairs, ap (λ (p : Schema × ℕ). p.1) pairs)

-- the table that is found for a schema
pub found_entry : (pages : ℕ → Image) (d : Database) (h : Holds pages d) (t : List ℕ) (s : Schema) (found : Option (Schema × ℕ)) → table_named d.schemas t ≡ Some s
    → found ≡ option_map pair_of (entry_named h.entries t) → (e : Entry) × (entry_named h.entries t ≡ Some e) × (e.schema ≡ s) × (found ≡ some_pair e.schema e.root)
found_entry pages d h t s found named is =
    let here = entry_of pages d h t s named in
    (here.0, here.1, here.2, is ∙ ap (option_map pair_of) here.1)

-- a tree stands at the root of a table
pub entry_root : (pages : ℕ → Image) (d : Database) (h : Holds pages d) (t : List ℕ) (e : Entry) (root : ℕ) → entry_named h.entries t ≡ Some e → root ≡ e.root → Contains h.roots root
entry_root pages d h t e root found is = subst (Contains h.roots) (sym is) (h.tables t e found).rooted

-- ---- a row changes

placed_each : (s : Schema) (key : List ℕ) (row : Option (List Value)) → IsPlaced s key row → AllByRecursion (IsStored s) (option_to_list row)
placed_each s key None placed = tt
placed_each s key (Some row) placed =
    (subst (λ (k : List ℕ). IsRecord s row k (value_bytes s.key row)) placed.key_is placed, tt)

pub change_made : (pages new : ℕ → Image) (d : Database) (h : Holds pages d) (c : Change) (s : Schema) (root : ℕ) (e : Entry)
    → entry_named h.entries c.table ≡ Some e → s ≡ e.schema → root ≡ e.root → IsPlaced s c.key c.row
    → Forest new h.roots (with_tree h.items root (changed_items s.key c (h.items root))) → Holds new (with_row d c)
change_made pages new d h c s root e found schema_is root_is placed forest =
    row_changed pages new d h c e found
    (subst (λ (q : Schema). AllByRecursion (IsStored q) (option_to_list c.row)) schema_is (placed_each s c.key c.row placed))
    (subst (λ (q : Schema). Forest new h.roots (with_tree h.items e.root (changed_items q.key c (h.items e.root)))) schema_is
    (subst (λ (r : ℕ). Forest new h.roots (with_tree h.items r (changed_items s.key c (h.items r)))) root_is forest))

-- ---- a table is made

-- there is room as well for an item with the same key and a value of the same length
pub same_room : (pages : ℕ → Image) (root : ℕ) (a b : LeafItem) (path : List Image) → a.key ≡ b.key → length a.value ≡ length b.value
    → HasRoom pages root a path → HasRoom pages root b path
same_room pages root a b path key value room =
    let size = room.room in
    let keys : length a.key ≡ length b.key = ap length key in
    let fits : size_of b ≤ room_for a.key (leaf_on path) = omega arith in
    record {
      way = subst (λ (k : List ℕ). IsWayIn pages root k path) key room.way;
      room = subst (λ (k : List ℕ). size_of b ≤ room_for k (leaf_on path)) key fits;
    }

-- the item of a table takes as many bytes whatever its root is
pub entry_room : (pages : ℕ → Image) (catalog root other : ℕ) (s : Schema) (a b : LeafItem) (path : List Image) → a ≡ live_item s.table (catalog_value s other)
    → b ≡ live_item s.table (catalog_value s root) → HasRoom pages catalog a path → HasRoom pages catalog b path
entry_room pages catalog root other s a b path a_is b_is room =
    same_room pages catalog a b path
    (ap (λ (x : LeafItem). x.key) a_is ∙ sym (ap (λ (x : LeafItem). x.key) b_is))
    (ap (λ (x : LeafItem). length x.value) a_is ∙ length-catalog_value s other ∙ sym (length-catalog_value s root) ∙ sym (ap (λ (x : LeafItem). length x.value) b_is))
    room

pub create_made : (pages mid new : ℕ → Image) (d : Database) (h : Holds pages d) (s : Schema) (root catalog : ℕ) (item : LeafItem) → CanCreate d.schemas s
    → Forest mid h.roots h.items → page_count (mid 0) ≤ 32767 → root ≡ page_count (mid 0) → catalog ≡ CATALOG_ROOT_PAGE_ID → item ≡ live_item s.table (catalog_value s root)
    → Forest new (h.roots ++ page_count (mid 0) ∷ []) (with_tree (with_tree h.items catalog (with_item item.key (leaf_bytes item) (h.items catalog))) (page_count (mid 0)) [])
    → Holds new (with_table d s)
create_made pages mid new d h s root catalog item can stands bound root_is catalog_is item_is forest =
    let count : ℕ = page_count (mid 0) in
    let e : Entry = record { schema = s; root = count } in
    let fresh : Contains h.roots count → ⊥ = not_a_root mid h.roots h.items stands in
    let here : item ≡ live_item s.table (catalog_value s count) = item_is ∙ ap (λ (r : ℕ). live_item s.table (catalog_value s r)) root_is in
    table_made pages new d h e
    record {
      absent = can.absent;
      word = can.new.word;
      fresh = fresh;
      other = λ same. fresh (subst (Contains h.roots) (sym same) h.rooted);
      entry = record { table = can.new.table; bounded = record { table = can.name; columns = can.columns; page = bound } };
    }
    (subst (λ (x : LeafItem). Forest new (h.roots ++ count ∷ []) (with_tree (with_tree h.items CATALOG_ROOT_PAGE_ID (with_item x.key (leaf_bytes x) (h.items CATALOG_ROOT_PAGE_ID))) count [])) here
    (subst (λ (p : ℕ). Forest new (h.roots ++ count ∷ []) (with_tree (with_tree h.items p (with_item item.key (leaf_bytes item) (h.items p))) count [])) catalog_is forest))

-- ---- the changes are kept

pub keep_made : (s t : Stored) (d : Database) → t ≡ all_kept s → Holds (pages_of s) d → Holds (pages_of t) d
keep_made s t d is h =
    subst (λ (u : Stored). Holds (pages_of u) d) (sym is) (holds_same (pages_of s) (pages_of (all_kept s)) d (after_keep s) h)

-- the same of a store whose state is known by its fields
pub held : (s t : Stored) (d : Database) → s ≡ t → Holds (pages_of t) d → Holds (pages_of s) d
held s t d is h = subst (λ (u : Stored). Holds (pages_of u) d) (sym is) h

-- ---- the schema of a name

pub schema_found : (o : Option Entry) (found : Option (Schema × ℕ)) (s : Schema) (r : ℕ) → found ≡ option_map pair_of o → found ≡ some_pair s r
    → Some s ≡ option_map (λ e. e.schema) o
schema_found None found s r is some = absurd cc
schema_found (Some e) found s r is some = let pair = same_pair found s r e some is in ap (λ (x : Schema). Some x) pair.0

pub schema_absent : (o : Option Entry) (found : Option (Schema × ℕ)) → found ≡ option_map pair_of o → found ≡ None → None ≡ option_map (λ e. e.schema) o
schema_absent None found is none = refl
schema_absent (Some e) found is none = absurd cc

-- ---- the rows of a range

-- the table that was found
pub entry_back : (o : Option Entry) (found : Option (Schema × ℕ)) (s : Schema) (r : ℕ) → found ≡ option_map pair_of o → found ≡ some_pair s r
    → (e : Entry) × (o ≡ Some e) × (s ≡ e.schema) × (r ≡ e.root)
entry_back None found s r is some = absurd cc
entry_back (Some e) found s r is some = let pair = same_pair found s r e some is in (e, refl, pair.0, pair.1)

abbrev pub rows_between : ℕ → KeyRange → List (List Value) → List (List Value)
rows_between k r rows = filter (λ row. in_range (row_key_of k row) r) rows

pub record AreRead (s : Schema) (items : List LeafItem) (rows : List (List Value)) : Type 0 where
  pub stored : AllByRecursion (IsStored s) rows
  pub spelled : map leaf_bytes items ≡ row_items s.key rows

pub rows_read : (pages : ℕ → Image) (d : Database) (h : Holds pages d) (t : List ℕ) (e : Entry) (s : Schema) (root : ℕ) (r : KeyRange) (items : List LeafItem)
    → entry_named h.entries t ≡ Some e → s ≡ e.schema → root ≡ e.root
    → ((roots : List ℕ) (its : ℕ → List (List ℕ)) → Forest pages roots its → Contains roots root → map leaf_bytes items ≡ filter (walk.in_range r.low r.high) (its root))
    → AreRead s items (rows_between s.key r (d.tables t))
rows_read pages d h t e s root r items found schema_is root_is spelled =
    let here = h.tables t e found in
    subst (λ (q : Schema). AreRead q items (rows_between q.key r (d.tables t))) (sym schema_is)
    record {
      stored = filter_all (IsStored e.schema) (λ row. in_range (row_key_of e.schema.key row) r) (d.tables t) here.stored;
      spelled =
          spelled h.roots h.items h.forest (entry_root pages d h t e root found root_is)
          ∙ ap (λ (p : ℕ). filter (walk.in_range r.low r.high) (h.items p)) root_is
          ∙ ap (filter (walk.in_range r.low r.high)) here.items_are
          ∙ rows_in_range e.schema.key r (d.tables t);
    }

-- a full tree fills the store
pub full_now : (s : Stored) (root : ℕ) → IsFull (pages_of s) root → IsFullNow s
full_now s root full = (root, full)
