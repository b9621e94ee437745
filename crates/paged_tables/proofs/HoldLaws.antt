-- What each change makes of the database that pages hold.
use Rattle.std.proofs.Common.{◌≡◌, ◌≢◌, ℕ, Bool, true, false, cond, nat_eq, List, [], ◌∷◌, ◌++◌, Option, Some, None, inl, inr, refl, sym, ap, subst, ◌∙◌, arith}
use Rattle.rm_base.specs.declared.limits.TheConstants.{CATALOG_ROOT_PAGE_ID}
use mathlib.Core.Path.{fun_ext}
use Rattle.std.specs.Prelude.{filter, bytes_eq, codes, option_map, option_to_list, Contains}
use Rattle.std.specs.Option.{option_or, option_map_or}
use Rattle.std.specs.List.{AllByRecursion}
use Rattle.std.specs.Ordering.{is_lt, is_gt}
use Rattle.std.proofs.lemmas.Bool.Decides.{nat_tests}
use Rattle.std.proofs.lemmas.List.Elements.{Contains-push, Contains-append_left}
use Rattle.std.proofs.lemmas.List.Folds.{find-append}
use Rattle.page_image.specs.Image.{Image}
use Rattle.sql_values.specs.declared.schemas.Schema.{Schema}
use Rattle.sql_values.specs.declared.values.Value.{Value}
use Rattle.sql_values.specs.Order.{text_cmp}
use Rattle.tree_change.specs.Effects.{with_item, without_item}
use Rattle.bplus_tree.specs.Forest.{Forest, with_tree}
use Rattle.sql_values.specs.Tables.{table_named}
use Rattle.sql_database.specs.declared.changes.Change.{Change}
use Rattle.sql_database.specs.Database.{Database, empty, key_place, row_key}
use Rattle.sql_database.specs.Applied.{placed, with_rows, with_row, with_table}
use Rattle.sql_engine.specs.Sound.{IsRow, IsSound}
use Rattle.paged_tables.specs.Items.{Entry, entry_item, entry_named, row_item, row_items}
use Rattle.paged_tables.specs.Changes.{changed_items}
use Rattle.paged_tables.specs.Content.{IsStored, IsEntry, HoldsRows, Holds}
use Rattle.paged_tables.proofs.ItemLaws.{row_key_of, row_placed, none_placed}
use Rattle.paged_tables.proofs.EntryLaws.{same_name, name_is, other_name, name_cases, with_entry, named_same, named_other, filter_all, both_all, each_with_entry, items_with_entry}

-- ---- pages that are the same

pub holds_same : (old new : ℕ → Image) (d : Database) → ((p : ℕ) → new p ≡ old p) → Holds old d → Holds new d
holds_same old new d same h = subst (λ (pages : ℕ → Image). Holds pages d) (fun_ext (λ p. sym (same p))) h

-- ---- a table by its name

from_map : (o : Option Entry) (s : Schema) → option_map (λ e. e.schema) o ≡ Some s → (e : Entry) × (o ≡ Some e) × (e.schema ≡ s)
from_map None s is = absurd cc
from_map (Some e) s is = (e, refl, cc)

-- the table of a schema
pub entry_of : (pages : ℕ → Image) (d : Database) (h : Holds pages d) (t : List ℕ) (s : Schema) → table_named d.schemas t ≡ Some s
    → (e : Entry) × (entry_named h.entries t ≡ Some e) × (e.schema ≡ s)
entry_of pages d h t s named = from_map (entry_named h.entries t) s (sym (h.schemas t) ∙ named)

pub schema_of_entry : (pages : ℕ → Image) (d : Database) (h : Holds pages d) (t : List ℕ) (e : Entry) → entry_named h.entries t ≡ Some e
    → table_named d.schemas t ≡ Some e.schema
schema_of_entry pages d h t e found = h.schemas t ∙ ap (option_map (λ (x : Entry). x.schema)) found

pub key_place_is : (pages : ℕ → Image) (d : Database) (h : Holds pages d) (t : List ℕ) (e : Entry) → entry_named h.entries t ≡ Some e
    → key_place d t ≡ e.schema.key
key_place_is pages d h t e found = ap (λ (o : Option Schema). option_map_or (λ s. s.key) o 0) (schema_of_entry pages d h t e found)

-- ---- the items of trees, where one has new ones

tree_same : (items : ℕ → List (List ℕ)) (root : ℕ) (new : List (List ℕ)) → with_tree items root new root ≡ new
tree_same items root new =
    let same : nat_eq root root ≡ true = grind (arith, nat_tests) in
    ap (λ (b : Bool). cond b new (items root)) same

tree_other : (items : ℕ → List (List ℕ)) (root r : ℕ) (new : List (List ℕ)) → r ≢ root → with_tree items root new r ≡ items r
tree_other items root r new ne =
    let differ : nat_eq r root ≡ false = grind (arith, nat_tests) in
    ap (λ (b : Bool). cond b new (items r)) differ

-- ---- the rows of one table change

one_entry : (entries : List Entry) (t u : List ℕ) (e f : Entry) → entry_named entries t ≡ Some e → entry_named entries u ≡ Some f → u ≡ t → e ≡ f
one_entry entries t u e f is found same =
    let both : entry_named entries t ≡ Some f = ap (entry_named entries) (sym same) ∙ found in cc

rows_at : (roots : List ℕ) (items : ℕ → List (List ℕ)) (d : Database) (t u : List ℕ) (e f : Entry) (rows : List (List Value)) (b : Bool)
    → bytes_eq u t ≡ b → HoldsRows roots items e (d.tables t) → HoldsRows roots items f (d.tables u) → AllByRecursion (IsStored e.schema) rows
    → (u ≡ t → e ≡ f) → (u ≢ t → f.root ≢ e.root)
    → HoldsRows roots (with_tree items e.root (row_items e.schema.key rows)) f (cond b rows (d.tables u))
rows_at roots items d t u e f rows true is here there stored same differ =
    subst (λ (x : Entry). HoldsRows roots (with_tree items e.root (row_items e.schema.key rows)) x rows) (same (same_name u t is))
    record {
      rooted = here.rooted;
      other = here.other;
      items_are = tree_same items e.root (row_items e.schema.key rows);
      stored = stored;
    }
rows_at roots items d t u e f rows false is here there stored same differ =
    let ne : u ≢ t = λ eq. let yes = name_is u t eq in absurd cc in
    record {
      rooted = there.rooted;
      other = there.other;
      items_are = tree_other items e.root f.root (row_items e.schema.key rows) (differ ne) ∙ there.items_are;
      stored = there.stored;
    }

pub rows_changed : (pages new : ℕ → Image) (d : Database) (h : Holds pages d) (t : List ℕ) (e : Entry) (rows : List (List Value))
    → entry_named h.entries t ≡ Some e → AllByRecursion (IsStored e.schema) rows
    → Forest new h.roots (with_tree h.items e.root (row_items e.schema.key rows)) → Holds new (record d { tables = with_rows d.tables t rows })
rows_changed pages new d h t e rows found stored forest =
    let here : HoldsRows h.roots h.items e (d.tables t) = h.tables t e found in
    record {
      roots = h.roots;
      items = with_tree h.items e.root (row_items e.schema.key rows);
      forest = forest;
      entries = h.entries;
      rooted = h.rooted;
      catalog = tree_other h.items e.root CATALOG_ROOT_PAGE_ID (row_items e.schema.key rows) (λ same. here.other (sym same)) ∙ h.catalog;
      each = h.each;
      schemas = h.schemas;
      tables = λ u f is.
          rows_at h.roots h.items d t u e f rows (bytes_eq u t) refl here (h.tables u f is) stored
          (one_entry h.entries t u e f found is)
          (λ ne same. ne (h.apart u t f e is found same));
      apart = h.apart;
      word = h.word;
    }

placed_stored : (schema : Schema) (key_of : List Value → List ℕ) (key : List ℕ) (row : Option (List Value)) (rows : List (List Value))
    → AllByRecursion (IsStored schema) (option_to_list row) → AllByRecursion (IsStored schema) rows → AllByRecursion (IsStored schema) (placed key_of key row rows)
placed_stored schema key_of key row rows here stored =
    both_all (IsStored schema) (filter (λ r. is_lt (text_cmp (key_of r) key)) rows) (option_to_list row ++ filter (λ r. is_gt (text_cmp (key_of r) key)) rows)
    (filter_all (IsStored schema) (λ r. is_lt (text_cmp (key_of r) key)) rows stored)
    (both_all (IsStored schema) (option_to_list row) (filter (λ r. is_gt (text_cmp (key_of r) key)) rows) here
    (filter_all (IsStored schema) (λ r. is_gt (text_cmp (key_of r) key)) rows stored))

items_placed : (k : ℕ) (key : List ℕ) (row : Option (List Value)) (rows : List (List Value))
    → row_items k (placed (row_key_of k) key row rows) ≡ option_map_or (λ r. with_item key (row_item k r) (row_items k rows)) row (without_item key (row_items k rows))
items_placed k key None rows = none_placed k key rows
items_placed k key (Some row) rows = row_placed k key row rows

pub row_changed : (pages new : ℕ → Image) (d : Database) (h : Holds pages d) (c : Change) (e : Entry)
    → entry_named h.entries c.table ≡ Some e → AllByRecursion (IsStored e.schema) (option_to_list c.row)
    → Forest new h.roots (with_tree h.items e.root (changed_items e.schema.key c (h.items e.root))) → Holds new (with_row d c)
row_changed pages new d h c e found stored forest =
    let here : HoldsRows h.roots h.items e (d.tables c.table) = h.tables c.table e found in
    let rows : List (List Value) = placed (row_key d c.table) c.key c.row (d.tables c.table) in
    let key_is : key_place d c.table ≡ e.schema.key = key_place_is pages d h c.table e found in
    let after : changed_items e.schema.key c (h.items e.root) ≡ row_items e.schema.key rows =
    ap (changed_items e.schema.key c) here.items_are
    ∙ sym (items_placed e.schema.key c.key c.row (d.tables c.table))
    ∙ ap (λ (k : ℕ). row_items e.schema.key (placed (row_key_of k) c.key c.row (d.tables c.table))) (sym key_is) in
    rows_changed pages new d h c.table e rows found
    (placed_stored e.schema (row_key d c.table) c.key c.row (d.tables c.table) stored here.stored)
    (subst (λ (xs : List (List ℕ)). Forest new h.roots (with_tree h.items e.root xs)) after forest)

-- ---- one table more

named_more : (schemas : List Schema) (s : Schema) (t : List ℕ) → table_named (schemas ++ s ∷ []) t ≡ option_or (table_named schemas t) (cond (bytes_eq s.table t) (Some s) None)
named_more schemas s t = find-append (λ x. bytes_eq x.table t) schemas (s ∷ [])

or_none : {A : Type 0} (o : Option A) → option_or o None ≡ o
or_none None = refl
or_none (Some x) = refl

more_same : (schemas : List Schema) (s : Schema) → table_named schemas s.table ≡ None → table_named (schemas ++ s ∷ []) s.table ≡ Some s
more_same schemas s absent =
    named_more schemas s s.table
    ∙ ap (λ (o : Option Schema). option_or o (cond (bytes_eq s.table s.table) (Some s) None)) absent
    ∙ ap (λ (b : Bool). cond b (Some s) None) (name_is s.table s.table refl)

more_other : (schemas : List Schema) (s : Schema) (t : List ℕ) → t ≢ s.table → table_named (schemas ++ s ∷ []) t ≡ table_named schemas t
more_other schemas s t ne =
    named_more schemas s t
    ∙ ap (λ (b : Bool). option_or (table_named schemas t) (cond b (Some s) None)) (other_name s.table t (λ same. ne (sym same)))
    ∙ or_none (table_named schemas t)

-- what a table more does to the others and is itself
pub record IsMore (roots : List ℕ) (items : ℕ → List (List ℕ)) (d : Database) (entries : List Entry) (e : Entry) : Type 0 where
  pub absent : table_named d.schemas e.schema.table ≡ None
  pub word : e.schema.table ≢ codes "table"
  pub fresh : Contains roots e.root → ⊥
  pub other : e.root ≢ CATALOG_ROOT_PAGE_ID
  pub entry : IsEntry e

abbrev with_new_tree : (ℕ → List (List ℕ)) → Entry → ℕ → List (List ℕ)
with_new_tree items e = with_tree (with_tree items CATALOG_ROOT_PAGE_ID (with_item e.schema.table (entry_item e) (items CATALOG_ROOT_PAGE_ID))) e.root []

new_tree_other : (items : ℕ → List (List ℕ)) (e : Entry) (r : ℕ) → r ≢ e.root → r ≢ CATALOG_ROOT_PAGE_ID → with_new_tree items e r ≡ items r
new_tree_other items e r ne not_root =
    let catalog : List (List ℕ) = with_item e.schema.table (entry_item e) (items CATALOG_ROOT_PAGE_ID) in
    tree_other (with_tree items CATALOG_ROOT_PAGE_ID catalog) e.root r [] ne ∙ tree_other items CATALOG_ROOT_PAGE_ID r catalog not_root

rooted_apart : (roots : List ℕ) (r root : ℕ) → Contains roots r → (Contains roots root → ⊥) → r ≢ root
rooted_apart roots r root here fresh same = fresh (subst (Contains roots) same here)

abbrev some_entry : Entry → Option Entry
some_entry e = Some e

some_is : (e f : Entry) → some_entry e ≡ some_entry f → e ≡ f
some_is e f is = cc

pub table_made : (pages new : ℕ → Image) (d : Database) (h : Holds pages d) (e : Entry) → IsMore h.roots h.items d h.entries e
    → Forest new (h.roots ++ e.root ∷ []) (with_new_tree h.items e) → Holds new (with_table d e.schema)
table_made pages new d h e more forest =
    let name : List ℕ = e.schema.table in
    let catalog : List (List ℕ) = with_item name (entry_item e) (h.items CATALOG_ROOT_PAGE_ID) in
    let items : ℕ → List (List ℕ) = with_new_tree h.items e in
    let roots : List ℕ = h.roots ++ e.root ∷ [] in
    let entries : List Entry = with_entry e h.entries in
    let new_is : (f : Entry) → entry_named entries name ≡ Some f → e ≡ f = λ f is. some_is e f (sym (named_same e h.entries) ∙ is) in
    let old_is : (t : List ℕ) (f : Entry) → t ≢ name → entry_named entries t ≡ Some f → entry_named h.entries t ≡ Some f =
    λ t f ne is. sym (named_other e h.entries t ne) ∙ is in
    record {
      roots = roots;
      items = items;
      forest = forest;
      entries = entries;
      rooted = Contains-append_left h.roots (e.root ∷ []) CATALOG_ROOT_PAGE_ID h.rooted;
      catalog =
          tree_other (with_tree h.items CATALOG_ROOT_PAGE_ID catalog) e.root CATALOG_ROOT_PAGE_ID [] (λ same. more.other (sym same))
          ∙ tree_same h.items CATALOG_ROOT_PAGE_ID catalog
          ∙ ap (with_item name (entry_item e)) h.catalog
          ∙ sym (items_with_entry e h.entries);
      each = each_with_entry IsEntry e h.entries h.each more.entry;
      schemas = λ t. elim (name_cases t name) [
        | inl same ↦
            ap (table_named (d.schemas ++ e.schema ∷ [])) same ∙ more_same d.schemas e.schema more.absent
            ∙ sym (ap (option_map (λ (x : Entry). x.schema)) (ap (entry_named entries) same ∙ named_same e h.entries))
        | inr ne ↦
            more_other d.schemas e.schema t ne ∙ h.schemas t
            ∙ sym (ap (option_map (λ (x : Entry). x.schema)) (named_other e h.entries t ne))
      ];
      tables = λ t f is. elim (name_cases t name) [
        | inl same ↦
            let is_new : e ≡ f = new_is f (ap (entry_named entries) (sym same) ∙ is) in
            let none : with_rows d.tables name [] t ≡ [] = ap (λ (b : Bool). cond b [] (d.tables t)) (name_is t name same) in
            subst (λ (x : Entry). HoldsRows roots items x (with_rows d.tables name [] t)) is_new
            (subst (λ (rows : List (List Value)). HoldsRows roots items e rows) (sym none)
            record {
              rooted = Contains-push h.roots e.root;
              other = more.other;
              items_are = tree_same (with_tree h.items CATALOG_ROOT_PAGE_ID catalog) e.root [];
              stored = tt;
            })
        | inr ne ↦
            let old : HoldsRows h.roots h.items f (d.tables t) = h.tables t f (old_is t f ne is) in
            let rows : with_rows d.tables name [] t ≡ d.tables t = ap (λ (b : Bool). cond b [] (d.tables t)) (other_name t name ne) in
            subst (λ (xs : List (List Value)). HoldsRows roots items f xs) (sym rows)
            record {
              rooted = Contains-append_left h.roots (e.root ∷ []) f.root old.rooted;
              other = old.other;
              items_are = new_tree_other h.items e f.root (rooted_apart h.roots f.root e.root old.rooted more.fresh) old.other ∙ old.items_are;
              stored = old.stored;
            }
      ];
      apart = λ t u f g is it same_root. elim (name_cases t name) [
        | inl t_is ↦ elim (name_cases u name) [
          | inl u_is ↦ t_is ∙ sym u_is
          | inr u_ne ↦
              let f_is : e ≡ f = new_is f (ap (entry_named entries) (sym t_is) ∙ is) in
              let old = (h.tables u g (old_is u g u_ne it)).rooted in
              absurd (more.fresh (subst (Contains h.roots) (sym same_root ∙ sym (ap (λ (x : Entry). x.root) f_is)) old))
        ]
        | inr t_ne ↦ elim (name_cases u name) [
          | inl u_is ↦
              let g_is : e ≡ g = new_is g (ap (entry_named entries) (sym u_is) ∙ it) in
              let old = (h.tables t f (old_is t f t_ne is)).rooted in
              absurd (more.fresh (subst (Contains h.roots) (same_root ∙ sym (ap (λ (x : Entry). x.root) g_is)) old))
          | inr u_ne ↦ h.apart t u f g (old_is t f t_ne is) (old_is u g u_ne it) same_root
        ]
      ];
      word = more_other d.schemas e.schema (codes "table") (λ same. more.word (sym same)) ∙ h.word;
    }

-- ---- what holds of each database that pages hold

row_of_stored : (schema : Schema) (rows : List (List Value)) → AllByRecursion (IsStored schema) rows → AllByRecursion (IsRow schema) rows
row_of_stored schema [] all = tt
row_of_stored schema (row ∷ rows) all = (record { fits = all.0.fits; ints = all.0.ints }, row_of_stored schema rows all.1)

pub holds_sound : (pages : ℕ → Image) (d : Database) → Holds pages d → IsSound d
holds_sound pages d h = record {
  rows = λ t s named.
      let found = entry_of pages d h t s named in
      let e : Entry = found.0 in
      subst (λ (x : Schema). AllByRecursion (IsRow x) (d.tables t)) found.2 (row_of_stored e.schema (d.tables t) (h.tables t e found.1).stored);
  word = h.word;
}

-- an empty catalog
pub holds_empty : (pages : ℕ → Image) → Forest pages (CATALOG_ROOT_PAGE_ID ∷ []) (λ r. []) → Holds pages empty
holds_empty pages forest = record {
  roots = CATALOG_ROOT_PAGE_ID ∷ [];
  items = λ r. [];
  forest = forest;
  entries = [];
  rooted = (0, omega arith, refl);
  catalog = refl;
  each = tt;
  schemas = λ t. refl;
  tables = λ t e is. absurd cc;
  apart = λ t u e f is it same. absurd cc;
  word = refl;
}
