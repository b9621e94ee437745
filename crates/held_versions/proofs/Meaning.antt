-- For the proofs: pages hold the store that is read off them.
use Rattle.std.proofs.Common.{◌≡◌, ◌≤◌, ◌<◌, ◌+◌, ◌-◌, ℕ, zero, suc, Bool, true, false, List, [], ◌∷◌, length, map, Option, Some, None, inl, inr, refl, sym, ap, subst, ◌∙◌, arith}
use Rattle.std.specs.Prelude.{if◌then◌else◌, nat_eq, nat_le}
use Rattle.std.specs.List.{AllByRecursion}
use Rattle.std.proofs.lemmas.Bool.{eq-eqb, ne_eqb}
use Rattle.rm_base.specs.declared.places.UndoPtr.{UndoPtr}
use Rattle.page_image.specs.Image.{Image}
use Rattle.page_view.specs.declared.leaf.LeafItem.{LeafItem}
use Rattle.page_view.specs.Leaf.{leaf_of}
use Rattle.sql_values.specs.declared.schemas.Schema.{Schema}
use Rattle.row_codec.specs.Reading.{read_row}
use Rattle.sql_database.specs.Catalog.{schema_of, schema_row}
use Rattle.sql_database.proofs.CatalogLaws as catalog_laws
use Rattle.commit_stamps.specs.Fields.{slot_of}
use Rattle.undo_versions.specs.Chains.{GoesOn, IsChain, told, version_before, versions}
use Rattle.undo_versions.specs.Reading.{older}
use Rattle.undo_versions.specs.Walking.{at_version, is_page}
use Rattle.undo_versions.proofs.ChainLaws.{gives_chain, gives_versions}
use Rattle.version_store.specs.Stores.{UndoEntry, catalog}
use Rattle.version_store.specs.Versions.{Row, Version}
use Rattle.held_versions.specs.Holds.{Holds}
use Rattle.held_versions.specs.Meaning.{BytesSpelled, IsGood, IsGoodAt, IsGoodTable, IsMeaningful, TableSpelled}
use Rattle.held_versions.specs.Storing.{chain_at, entries_by, entries_from, entry_of, key_sort, longest, root_in, row_version, rows_by, schema_at, schema_in, store_of, table_version}
use Rattle.held_versions.specs.Tables.{RowSpelled, SaysRow, SaysTable, SpellsTable}
use Rattle.held_versions.specs.Undoing.{Current, UndoList, current, with_item}
use Rattle.held_versions.specs.Versions.{IsPointer, Versions, VersionsAt, of_key}
use Rattle.held_versions.proofs.Framing.{HasUndo}
use Rattle.held_versions.proofs.Spelling.{root_read, row_read, schema_read}

-- ---- chains

chain_read : (pages : ℕ → Image) (n : ℕ) (item : LeafItem) (vs : List LeafItem)
    → IsChain pages item vs → length vs ≤ n → versions pages n item ≡ vs
chain_read pages n item vs chain short =
    let more : ℕ = n - length vs in
    let parts : n ≡ length vs + more = omega (arith, short) in
    sym (gives_versions pages n item)
    ∙ ap (λ (m : ℕ). told pages m (at_version item)) parts
    ∙ gives_chain pages item vs more chain

rest_said : (P Q : LeafItem → Type 0) (M N : Type 0) (o : Option LeafItem)
    → ((x : LeafItem) → P x → Q x) → (M → N) → GoesOn P M o → GoesOn Q N o
rest_said P Q M N None f g h = g h
rest_said P Q M N (Some x) f g h = f x h

-- the versions that the items of a chain say, one for one
said : (Says : LeafItem → Version → Type 0) (Spelled : LeafItem → Type 0) (say : LeafItem → Version)
    (pages : ℕ → Image) → ((x : LeafItem) → Spelled x → Says x (say x))
    → ((x : LeafItem) → (say x).trx ≡ x.trx) → (item : LeafItem) (vs : List LeafItem)
    → IsChain pages item vs → AllByRecursion (IsGood Spelled pages) vs
    → Versions Says pages item (map say vs)
said Says Spelled say pages says trx item [] c g = absurd c
said Says Spelled say pages says trx item (v ∷ vs) c g = (
  record {
    says = subst (λ (x : LeafItem). Says x (say v)) c.0 (says v g.0.spelled);
    trx = trx v ∙ ap (λ (x : LeafItem). x.trx) c.0;
    some = subst (λ (x : LeafItem). 1 ≤ x.trx) c.0 g.0.some;
    most = subst (λ (x : LeafItem). x.trx ≤ 520192) c.0 g.0.most;
    pointer = subst (λ (x : LeafItem). IsPointer pages x.older) c.0 g.0.pointer;
  },
  rest_said (λ old. IsChain pages old vs) (λ old. Versions Says pages old (map say vs)) (vs ≡ [])
      (map say vs ≡ []) (version_before pages item)
      (λ old more. said Says Spelled say pages says trx old vs more g.1) (λ e. ap (map say) e) c.1,
)

said_at : (Says : LeafItem → Version → Type 0) (Spelled : LeafItem → Type 0)
    (say : LeafItem → Version) (pages : ℕ → Image) → ((x : LeafItem) → Spelled x → Says x (say x))
    → ((x : LeafItem) → (say x).trx ≡ x.trx) → (xs : List (List ℕ)) → IsGoodAt Spelled pages xs
    → VersionsAt Says pages xs (map say (chain_at pages xs))
said_at Says Spelled say pages says trx [] good = refl
said_at Says Spelled say pages says trx (x ∷ []) good =
    subst (λ (vs : List LeafItem). Versions Says pages (leaf_of x) (map say vs))
    (sym (chain_read pages (longest (leaf_of x).older) (leaf_of x) good.items good.chain good.short))
    (said Says Spelled say pages says trx (leaf_of x) good.items good.chain good.each)
said_at Says Spelled say pages says trx (x ∷ (y ∷ rest)) good = absurd good

-- ---- what items say

table_says : (x : LeafItem) → TableSpelled x → SaysTable x (table_version x)
table_says x h = record {
  lives = h.lives;
  schema = schema_in x;
  spells = subst (λ (s : Schema). SpellsTable x s (root_in x)) (sym (schema_read x h.schema h.root h.spells))
      (subst (SpellsTable x h.schema) (sym (root_read x h.schema h.root h.spells)) h.spells);
  row = refl;
}

row_says : (s : Schema) → s.key < length s.columns → (x : LeafItem) → BytesSpelled s x
    → SaysRow s x (row_version s x)
row_says s inside x h = by_row h.row
  where
    by_row : RowSpelled s x → SaysRow s x (row_version s x)
    by_row (inl gone) =
        inl (
          gone,
          ap (λ (b : Bool). if b then None else read_row s.columns s.key (key_sort s) x.key x.value) gone,
        )
    by_row (inr there) =
        inr (
          there.0,
          (
            there.1.0,
            there.1.1,
            ap (λ (b : Bool). if b then None else read_row s.columns s.key (key_sort s) x.key x.value) there.0
                ∙ row_read s there.1.0 x.key x.value inside h.key h.value there.1.1,
          ),
        )

-- ---- undo lists

not_zero : (p : ℕ) → is_page p ≡ true → nat_eq p 0 ≡ false
not_zero p is = by_test (nat_eq p 0) is
  where
    by_test : (b : Bool) → (if b then false else nat_le p 32767) ≡ true → b ≡ false
    by_test true e = absurd cc
    by_test false e = refl

abbrev entry_with : ℕ → List ℕ → UndoEntry
entry_with root key = record { root = root; key = key }

entries_read : (pages : ℕ → Image) (t n : ℕ) (items : Current) (at : UndoPtr)
    (entries : List UndoEntry) → length entries < n → UndoList pages t items at entries
    → entries_from pages n at ≡ entries
entries_read pages t zero items at entries short h = absurd (omega arith)
entries_read pages t (suc n) items at [] short h =
    let none : nat_eq at.page 0 ≡ true = eq-eqb at.page 0 h in
    ap (λ (b : Bool). if b then [] else entries_by (λ before. entries_from pages n before) (older (pages at.page) at)) none
entries_read pages t (suc n) items at (e ∷ es) short h =
    let some : nat_eq at.page 0 ≡ false = not_zero at.page h.0.stands.page in
    let fewer : length es < n = omega (arith, short) in
    ap (λ (b : Bool). if b then [] else entries_by (λ before. entries_from pages n before) (older (pages at.page) at)) some
    ∙ ap (entries_by (λ before. entries_from pages n before)) h.0.stands.item
    ∙ ap (λ (rest : List UndoEntry). entry_of h.0.undo ∷ rest)
    (entries_read pages t n (with_item items e.root e.key h.0.undo.old) h.0.undo.before es fewer h.1)
    ∙ ap (λ (root : ℕ). entry_with root h.0.undo.key ∷ es) (sym h.0.root)
    ∙ ap (λ (key : List ℕ). entry_with e.root key ∷ es) (sym h.0.key)

-- ---- the store

module _ (items : ℕ → List (List ℕ)) (pages : ℕ → Image) (h : IsMeaningful items pages) where
  lists : HasUndo items pages (store_of items pages)
  lists s t low is =
      let list = h.undo s t low is in
      subst (UndoList pages t (current items) (slot_of (pages 1) s).last)
      (sym (entries_read pages t (longest (slot_of (pages 1) s).last) (current items)
      (slot_of (pages 1) s).last list.entries list.short list.list))
      list.list

  tables : (k : List ℕ) → VersionsAt SaysTable pages (of_key k (items catalog))
      (map table_version (chain_at pages (of_key k (items catalog))))
  tables k =
      said_at SaysTable TableSpelled table_version pages table_says (λ x. refl)
      (of_key k (items catalog)) (h.tables k)

  -- the rows of a table that an item of the catalog names
  rows_named : (x : LeafItem) → TableSpelled x → IsGoodTable items pages x → (k : List ℕ)
      → VersionsAt (SaysRow (schema_in x)) pages (of_key k (items (root_in x)))
      ((store_of items pages).rows (root_in x) k)
  rows_named x spelled good k =
      let inside : (schema_in x).key < length (schema_in x).columns =
      subst (λ (s : Schema). s.key < length s.columns)
      (sym (schema_read x spelled.schema spelled.root spelled.spells)) spelled.spells.table.key in
      let other : nat_eq (root_in x) catalog ≡ false = ne_eqb (root_in x) catalog good.root in
      let found : (store_of items pages).rows (root_in x) k
      ≡ map (row_version (schema_in x)) (chain_at pages (of_key k (items (root_in x)))) =
      ap (λ (b : Bool). if b then map table_version (chain_at pages (of_key k (items catalog)))
      else rows_by pages (of_key k (items (root_in x))) (schema_at (root_in x) (items catalog))) other
      ∙ ap (rows_by pages (of_key k (items (root_in x)))) good.only in
      subst (VersionsAt (SaysRow (schema_in x)) pages (of_key k (items (root_in x)))) (sym found)
      (said_at (SaysRow (schema_in x)) (BytesSpelled (schema_in x)) (row_version (schema_in x)) pages
      (row_says (schema_in x) inside) (λ y. refl) (of_key k (items (root_in x))) (good.rows k))

  first_spelled : (x : List ℕ) → IsGoodAt TableSpelled pages (x ∷ []) → TableSpelled (leaf_of x)
  first_spelled x good = by_chain good.items good.chain good.each
    where
      by_chain : (vs : List LeafItem) → IsChain pages (leaf_of x) vs
          → AllByRecursion (IsGood TableSpelled pages) vs → TableSpelled (leaf_of x)
      by_chain [] c g = absurd c
      by_chain (v ∷ vs) c g = subst TableSpelled c.0 g.0.spelled

  rows_by_name : (a : List ℕ) (xs : List (List ℕ)) → of_key a (items catalog) ≡ xs
      → IsGoodAt TableSpelled pages xs → (k : List ℕ) (v : Version) (row : Row)
      → map table_version (chain_at pages xs) ≡ v ∷ [] → v.row ≡ Some row
      → VersionsAt (SaysRow (schema_of row)) pages (of_key k (items v.root))
      ((store_of items pages).rows v.root k)
  rows_by_name a [] e good k v row one is = (let none : [] ≡ v ∷ [] = one in absurd cc)
  rows_by_name a (x ∷ []) e good k v row one is =
      let first : table_version (leaf_of x) ≡ v = cc in
      let there : Some (schema_row (schema_in (leaf_of x))) ≡ Some row =
      ap (λ (w : Version). w.row) first ∙ is in
      let text : schema_row (schema_in (leaf_of x)) ≡ row = cc in
      let means : schema_in (leaf_of x) ≡ schema_of row =
      sym (catalog_laws.says (schema_in (leaf_of x))) ∙ ap schema_of text in
      subst (λ (w : Version). VersionsAt (SaysRow (schema_of row)) pages (of_key k (items w.root))
      ((store_of items pages).rows w.root k)) first
      (subst (λ (s : Schema). VersionsAt (SaysRow s) pages (of_key k (items (root_in (leaf_of x))))
      ((store_of items pages).rows (root_in (leaf_of x)) k)) means
      (rows_named (leaf_of x) (first_spelled x good) (h.rows a x e) k))
  rows_by_name a (x ∷ (y ∷ rest)) e good k v row one is = absurd good

  pub meaningful_holds : Holds items pages (store_of items pages)
  meaningful_holds = record {
    counters = h.counters;
    stamps = h.stamps;
    slots = h.slots;
    undo = lists;
    trees = h.trees;
    tables = tables;
    rows = λ a k v row one is.
        rows_by_name a (of_key a (items catalog)) refl (h.tables a) k v row one is;
  }
