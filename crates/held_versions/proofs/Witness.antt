-- For the proofs: the example's pages hold its store, by computation.
use Rattle.std.proofs.Common.{◌≡◌, ◌≢◌, ◌≤◌, ◌<◌, ◌+◌, ◌-◌, ◌*◌, ◌⊎◌, ℕ, Bool, true, false, cond, List, [], ◌∷◌, ◌++◌, length, drop, Some, None, inl, inr, refl, sym, ap, subst, ◌∙◌, arith}
use Rattle.std.specs.Prelude.{if◌then◌else◌, nat_eq, Contains, codes, slice_index}
use Rattle.std.specs.List.{IsDistinct}
use Rattle.std.specs.Str.{bytes_eq}
use Rattle.std.proofs.lemmas.Bool.{cases_eq, ne_eqb}
use Rattle.std.proofs.lemmas.List.Elements.{All-from_recursion, All-contains}
use Rattle.std.proofs.Math.Seq.{drop-append-add}
use Rattle.rm_base.specs.Fields.{field, number}
use Rattle.page_image.specs.Meta.{counters_of}
use Rattle.page_image.specs.Image.{Image, unmade, zeros}
use Rattle.page_view.specs.declared.leaf.LeafItem.{LeafItem}
use Rattle.page_view.specs.Leaf.{HoldsLeaf, leaf_bytes, leaf_of}
use Rattle.bplus_tree.specs.Tree.{IsLeafPage, Linked, Tree, is_leaf}
use Rattle.commit_stamps.specs.declared.slots.Slot.{Slot}
use Rattle.commit_stamps.specs.Fields.{slot_bytes, slot_of}
use Rattle.commit_stamps.specs.Stamping.{stamp_in, stamp_page, stamp_place}
use Rattle.row_codec.specs.Records.{IsRecord, value_bytes}
use Rattle.sql_catalog.specs.Catalog.{catalog_row}
use Rattle.sql_values.specs.declared.schemas.Schema.{Schema}
use Rattle.sql_database.specs.Catalog.{schema_of, schema_row}
use Rattle.undo_versions.specs.declared.items.UndoItem.{UndoItem}
use Rattle.undo_versions.specs.Reading.{holds_undo}
use Rattle.version_store.specs.Contents.{newest_root}
use Rattle.version_store.specs.Stores.{catalog, put}
use Rattle.version_store.specs.Versions.{Row, Version}
use Rattle.held_versions.specs.Counting.{HasCounters, HasSlots, HasStamps, holder}
use Rattle.held_versions.specs.Example.{first_item, first_version, items, pages, place, root, row, schema, second_item, second_version, store, table_item, table_version, nowhere}
use Rattle.held_versions.specs.Holds.{Holds}
use Rattle.held_versions.specs.Tables.{SaysRow, SaysTable, SpellsTable, catalog_schema}
use Rattle.held_versions.specs.Trees.{HasTrees, IsRoot}
use Rattle.held_versions.specs.Undoing.{UndoList, current}
use Rattle.held_versions.specs.Versions.{IsPointer, Versions, VersionsAt, of_key}
use Rattle.held_versions.proofs.Begins.{unstamped}
use Rattle.held_versions.proofs.Framing.{HasUndo}
use Rattle.held_versions.proofs.Keys.{one_item}
use Rattle.held_versions.proofs.Opening.{zeros_from}
use Rattle.held_versions.proofs.Parts.{put_elsewhere}

-- ---- the pages by their numbers

-- each other page is unmade
pub others : (q : ℕ) → q ≢ 0 → q ≢ 1 → q ≢ 2 → q ≢ 1026 → q ≢ 1027 → q ≢ 1028 → pages q ≡ unmade q
others q a b c d e f =
    let meta : nat_eq q 0 ≡ false = ne_eqb q 0 a in
    let slots : nat_eq q 1 ≡ false = ne_eqb q 1 b in
    let stamps : nat_eq q 2 ≡ false = ne_eqb q 2 c in
    let names : nat_eq q 1026 ≡ false = ne_eqb q 1026 d in
    let undo : nat_eq q 1027 ≡ false = ne_eqb q 1027 e in
    let rows : nat_eq q 1028 ≡ false = ne_eqb q 1028 f in
    simp (meta, slots, stamps, names, undo, rows)

every : (P : ℕ → Type 0) → P 0 → P 1 → P 2 → P 1026 → P 1027 → P 1028
    → ((q : ℕ) → pages q ≡ unmade q → P q) → (q : ℕ) → P q
every P a b c d e f rest q =
    elim (cases_eq q 0) [
      | inl is ↦ subst P (sym is) a
      | inr na ↦ elim (cases_eq q 1) [
        | inl is ↦ subst P (sym is) b
        | inr nb ↦ elim (cases_eq q 2) [
          | inl is ↦ subst P (sym is) c
          | inr nc ↦ elim (cases_eq q 1026) [
            | inl is ↦ subst P (sym is) d
            | inr nd ↦ elim (cases_eq q 1027) [
              | inl is ↦ subst P (sym is) e
              | inr ne ↦ elim (cases_eq q 1028) [
                | inl is ↦ subst P (sym is) f
                | inr nf ↦ rest q (others q na nb nc nd ne nf)
              ]
            ]
          ]
        ]
      ]
    ]

pub numbered : (q : ℕ) → (pages q).page ≡ q
numbered =
    every (λ q. (pages q).page ≡ q) refl refl refl refl refl refl
    (λ q is. ap (λ (page : Image). page.page) is)

-- ---- counters

pub count_is : (counters_of (pages 0)).pages ≡ 1029
unfolding number field
count_is = refl

undo_is : (counters_of (pages 0)).undo_page ≡ 1027
unfolding number field
undo_is = refl

next_is : (counters_of (pages 0)).next ≡ 3
unfolding number field
next_is = refl

last_is : (counters_of (pages 0)).last ≡ 1
unfolding number field
last_is = refl

pub counters : HasCounters pages store
counters = record {
  meta = record { kind = refl; number = refl };
  pages_are = sym count_is;
  next_is = sym next_is;
  last_is = sym last_is;
  numbered = numbered;
  low = omega arith;
  high = omega arith;
  free = λ q past.
      others q (λ e. omega arith) (λ e. omega arith) (λ e. omega arith) (λ e. omega arith)
      (λ e. omega arith) (λ e. omega arith);
  undo_made = ap (λ (q : ℕ). (pages q).kind) undo_is;
}

-- ---- stamps

-- behind the fields a page has zeros
behind_fields : (fields : List ℕ) (left k : ℕ) → length fields ≤ k → k + 8 ≤ length fields + left
    → number 8 (drop k (fields ++ zeros left)) ≡ 0
behind_fields fields left k from to =
    let rest : ℕ = k - length fields in
    let parts : k ≡ length fields + rest = omega arith in
    ap (λ (n : ℕ). number 8 (drop n (fields ++ zeros left))) parts
    ∙ ap (number 8) (drop-append-add fields (zeros left) rest)
    ∙ zeros_from left rest (omega arith)

first_stamp : stamp_in (pages (stamp_page 1)) 1 ≡ 1
unfolding number field
first_stamp = refl

eight : length (field 8 1) ≡ 8
unfolding field
eight = refl

page_two : (t : ℕ) → t ≢ 1 → 1 ≤ t → stamp_page t ≡ 2 → stamp_in (pages (stamp_page t)) t ≡ 0
page_two t ne some is =
    ap (λ (q : ℕ). stamp_in (pages q) t) is
    ∙ behind_fields (field 8 1) 4056 (8 * stamp_place t) (omega (arith, eight)) (omega (arith, eight))

other_page : (t : ℕ) → t ≤ 520192 → stamp_page t ≢ 2 → pages (stamp_page t) ≡ unmade (stamp_page t)
other_page t most ne =
    others (stamp_page t) (λ e. omega arith) (λ e. omega arith) ne (λ e. omega arith)
    (λ e. omega arith) (λ e. omega arith)

pub stamps : HasStamps pages store
stamps = record {
  first = omega arith;
  within = omega arith;
  stamps = λ t some most.
      elim (cases_eq t 1) [
        | inl is ↦ subst (λ (u : ℕ). put (λ (k : ℕ). 0) 1 1 u ≡ stamp_in (pages (stamp_page u)) u)
            (sym is) (sym first_stamp)
        | inr ne ↦ put_elsewhere (λ (k : ℕ). 0) 1 1 t ne
            ∙ elim (cases_eq (stamp_page t) 2) [
              | inl is ↦ sym (page_two t ne some is)
              | inr other_one ↦ sym (ap (λ (page : Image). stamp_in page t) (other_page t most other_one)
                  ∙ unstamped (stamp_page t) t)
            ]
      ];
  made = λ t some less.
      (let is : stamp_page t ≡ 2 = omega arith in
      record {
        some = some;
        kind = ap (λ (q : ℕ). (pages q).kind) is;
        number = numbered (stamp_page t);
      });
  free = λ t past most first. other_page t most (λ e. omega arith);
}

-- ---- slots

pub own_slot : slot_of (pages 1) 0 ≡ record { trx = 2; last = place 2 }
unfolding number field
own_slot = refl

sixteen : length (slot_bytes (record { trx = 2; last = place 2 })) ≡ 16
unfolding field
sixteen = refl

other_slot : (s : ℕ) → s ≢ 0 → s < 64 → number 8 (drop (16 * s) (pages 1).body) ≡ 0
other_slot s ne low =
    behind_fields (slot_bytes (record { trx = 2; last = place 2 })) 4048 (16 * s)
    (omega (arith, sixteen)) (omega (arith, sixteen))

pub slots : HasSlots pages store
slots = record {
  page = record { kind = refl; number = refl };
  slots = λ s low.
      elim (cases_eq s 0) [
        | inl is ↦ subst (λ (r : ℕ). put (λ (k : ℕ). None) 0 (Some 2) r ≡ holder (slot_of (pages 1) r))
            (sym is) (sym (ap holder own_slot))
        | inr ne ↦ put_elsewhere (λ (k : ℕ). None) 0 (Some 2) s ne
            ∙ sym (ap (λ (t : ℕ). if nat_eq t 0 then None else Some t) (other_slot s ne low))
      ];
  others = λ s past. put_elsewhere (λ (k : ℕ). None) 0 (Some 2) s (λ e. omega arith);
}

-- ---- the undo list of transaction 2

abbrev second_kept : UndoItem
second_kept = record {
  trx = 2;
  root = root;
  before = nowhere;
  key = codes "a";
  old = Some first_item;
}

undo_list : UndoList pages 2 (current items) (place 2) (record { root = root; key = codes "a" } ∷ [])
unfolding number field holds_undo
undo_list = (
  record {
    undo = second_kept;
    stands = record { page = refl; item = refl };
    trx = refl;
    root = refl;
    key = refl;
    item = second_item;
    present = refl;
    wrote = refl;
    points = refl;
  },
  refl,
)

pub lists : HasUndo items pages store
lists s t low is =
    elim (cases_eq s 0) [
      | inl e ↦ (let here : Some 2 ≡ Some t =
          subst (λ (r : ℕ). put (λ (k : ℕ). None) 0 (Some 2) r ≡ Some t) e is in
          let two : 2 ≡ t = cc in
          subst (λ (u : ℕ). UndoList pages u (current items) (slot_of (pages 1) s).last (store.undo s)) two
          (subst (λ (r : ℕ). UndoList pages 2 (current items) (slot_of (pages 1) r).last (store.undo r)) (sym e)
          (subst (λ (x : Slot). UndoList pages 2 (current items) x.last (store.undo 0)) (sym own_slot) undo_list)))
      | inr ne ↦ (let none : None ≡ Some t = sym (put_elsewhere (λ (k : ℕ). None) 0 (Some 2) s ne) ∙ is in
          absurd cc)
    ]

-- ---- trees

table_leaf : HoldsLeaf (leaf_bytes table_item)
unfolding field
table_leaf =
    let size : length (leaf_bytes table_item) ≡ 32 = refl in
    record { short_key = omega arith; long = omega (arith, size); short = omega (arith, size); flag = omega arith }

row_leaf : HoldsLeaf (leaf_bytes second_item)
unfolding field
row_leaf =
    let size : length (leaf_bytes second_item) ≡ 21 = refl in
    record { short_key = omega arith; long = omega (arith, size); short = omega (arith, size); flag = omega arith }

table_page : IsLeafPage (pages catalog) catalog None None (items catalog)
table_page = record {
  kind = refl;
  number = refl;
  has = refl;
  each = (table_leaf, tt);
  ascend = λ i j less within. absurd (omega arith);
  from = (tt, tt);
  below = (tt, tt);
}

row_page : IsLeafPage (pages root) root None None (items root)
row_page = record {
  kind = refl;
  number = refl;
  has = refl;
  each = (row_leaf, tt);
  ascend = λ i j less within. absurd (omega arith);
  from = (tt, tt);
  below = (tt, tt);
}

pub alone : (r : ℕ) → IsDistinct nat_eq (r ∷ [])
unfolding IsDistinct
alone r = (tt, tt)

pub linked_by : (r : ℕ) (b : Bool) → b ≡ true → (pages r).next ≡ 0 → Linked pages (cond b (r ∷ []) [])
linked_by r true e none = none
linked_by r false e none = absurd cc

abbrev pub leaf_tree : (r : ℕ) → IsLeafPage (pages r) r None None (items r) → (pages r).next ≡ 0
    → Tree pages r (items r)
leaf_tree r page none = record {
  level = 0;
  nodes = r ∷ [];
  low_enough = omega arith;
  stands = (page, refl);
  linked = linked_by r (is_leaf (pages r).kind) (ap is_leaf page.kind) none;
  apart = alone r;
}

root_by : (b : Bool) (r : ℕ) → newest_root (if b then table_version ∷ [] else []) ≡ Some r → r ≡ root
root_by true r e = let here : Some root ≡ Some r = e in cc
root_by false r e = let none : None ≡ Some r = e in absurd cc

which : (r : ℕ) → IsRoot store r → (r ≡ catalog) ⊎ (r ≡ root)
which r (inl is) = inl is
which r (inr named) = inr (root_by (bytes_eq named.0 (codes "t")) r named.1)

pub page_of : (r : ℕ) → (r ≡ catalog) ⊎ (r ≡ root) → IsLeafPage (pages r) r None None (items r)
page_of r (inl is) =
    subst (λ (q : ℕ). IsLeafPage (pages q) q None None (items q)) (sym is) table_page
page_of r (inr is) =
    subst (λ (q : ℕ). IsLeafPage (pages q) q None None (items q)) (sym is) row_page

pub last_of : (r : ℕ) → (r ≡ catalog) ⊎ (r ≡ root) → (pages r).next ≡ 0
last_of r (inl is) = ap (λ (q : ℕ). (pages q).next) is
last_of r (inr is) = ap (λ (q : ℕ). (pages q).next) is

pub only : (q p : ℕ) → Contains (q ∷ []) p → q ≡ p
only q p member = All-contains (λ x. q ≡ x) (q ∷ []) p (All-from_recursion (λ x. q ≡ x) (q ∷ []) (refl, tt)) member

trees : HasTrees items pages store
trees = record {
  trees = λ r a. leaf_tree r (page_of r (which r a)) (last_of r (which r a));
  apart = λ p q r a b c d. only q p c ∙ sym (only r p d);
}

-- ---- versions

table_spelt : IsRecord catalog_schema (catalog_row schema root) table_item.key table_item.value
unfolding field
table_spelt = record {
  fits = record { cells = (tt, (tt, tt)); key = λ e. cc };
  ints = tt;
  key_is = refl;
  value_is = refl;
  short_key = omega arith;
  short_record = omega arith;
}

other_numbers : (a b : ℕ) → a ≡ 118 → b ≡ 107 → a ≡ b → ⊥
other_numbers a b e f same = omega arith

other_names : codes "v" ≡ codes "k" → ⊥
other_names e = other_numbers 118 107 refl refl (ap (λ (name : List ℕ). slice_index name 0) e)

pub table_spells : SpellsTable table_item schema root
table_spells = record {
  table = record {
    some = omega arith;
    few = omega arith;
    differ = (((λ e. other_names e), tt), (tt, tt));
    key = omega arith;
  };
  bounded = record {
    table = (omega arith, omega arith);
    columns = ((omega arith, omega arith), ((omega arith, omega arith), tt));
    page = omega arith;
  };
  spelt = table_spelt;
}

table_says : SaysTable table_item table_version
table_says = record { lives = refl; schema = schema; spells = table_spells; row = refl }

abbrev table_kept : UndoItem
table_kept = record { trx = 1; root = catalog; before = nowhere; key = codes "t"; old = None }

pub table_versions : Versions SaysTable pages table_item (table_version ∷ [])
unfolding number field holds_undo
table_versions = (
  record {
    says = table_says;
    trx = refl;
    some = omega arith;
    most = omega arith;
    pointer = inr (table_kept, record { page = refl; item = refl });
  },
  refl,
)

pub table_read : leaf_of (leaf_bytes table_item) ≡ table_item
unfolding number field
table_read = refl

tables : (k : List ℕ) → VersionsAt SaysTable pages (of_key k (items catalog)) (store.rows catalog k)
tables k =
    one_item SaysTable pages (leaf_bytes table_item) k (table_version ∷ [])
    (subst (λ (x : LeafItem). Versions SaysTable pages x (table_version ∷ [])) (sym table_read) table_versions)

pub row_spelt : (byte : ℕ)
    → IsRecord schema (row (byte ∷ [])) (codes "a") (value_bytes 0 (row (byte ∷ [])))
unfolding field
row_spelt byte = record {
  fits = record { cells = (tt, (tt, tt)); key = λ e. cc };
  ints = tt;
  key_is = refl;
  value_is = refl;
  short_key = omega arith;
  short_record = omega arith;
}

abbrev first_kept : UndoItem
first_kept = record { trx = 1; root = root; before = place 0; key = codes "a"; old = None }

pub row_versions : Versions (SaysRow schema) pages second_item (second_version ∷ (first_version ∷ []))
unfolding number field holds_undo
row_versions = (
  record {
    says = inr (refl, (row (codes "2"), row_spelt 50, refl));
    trx = refl;
    some = omega arith;
    most = omega arith;
    pointer = inr (second_kept, record { page = refl; item = refl });
  },
  (
    record {
      says = inr (refl, (row (codes "1"), row_spelt 49, refl));
      trx = refl;
      some = omega arith;
      most = omega arith;
      pointer = inr (first_kept, record { page = refl; item = refl });
    },
    refl,
  ),
)

pub second_pointer : IsPointer pages second_item.older
unfolding number field holds_undo
second_pointer = inr (second_kept, record { page = refl; item = refl })

pub first_pointer : IsPointer pages first_item.older
unfolding number field holds_undo
first_pointer = inr (first_kept, record { page = refl; item = refl })

pub row_read : leaf_of (leaf_bytes second_item) ≡ second_item
unfolding number field
row_read = refl

row_at : (k : List ℕ) → VersionsAt (SaysRow schema) pages (of_key k (items root)) (store.rows root k)
row_at k =
    one_item (SaysRow schema) pages (leaf_bytes second_item) k (second_version ∷ (first_version ∷ []))
    (subst (λ (x : LeafItem). Versions (SaysRow schema) pages x (second_version ∷ (first_version ∷ [])))
    (sym row_read) row_versions)

version_by : (b : Bool) (v : Version) → (if b then table_version ∷ [] else []) ≡ v ∷ [] → table_version ≡ v
version_by true v e = let here : table_version ∷ [] ≡ v ∷ [] = e in cc
version_by false v e = let none : [] ≡ v ∷ [] = e in absurd cc

schema_read : schema_of (schema_row schema) ≡ schema
schema_read = refl

rows : (a k : List ℕ) (v : Version) (r : Row) → store.rows catalog a ≡ v ∷ [] → v.row ≡ Some r
    → VersionsAt (SaysRow (schema_of r)) pages (of_key k (items v.root)) (store.rows v.root k)
rows a k v r one is =
    let same : table_version ≡ v = version_by (bytes_eq a (codes "t")) v one in
    let there : Some (schema_row schema) ≡ Some r = ap (λ (w : Version). w.row) same ∙ is in
    let text : schema_row schema ≡ r = cc in
    let means : schema ≡ schema_of r = sym schema_read ∙ ap schema_of text in
    subst (λ (w : Version). VersionsAt (SaysRow (schema_of r)) pages (of_key k (items w.root)) (store.rows w.root k)) same
    (subst (λ (s : Schema). VersionsAt (SaysRow s) pages (of_key k (items root)) (store.rows root k)) means (row_at k))

pub example_holds : Holds items pages store
example_holds = record {
  counters = counters;
  stamps = stamps;
  slots = slots;
  undo = lists;
  trees = trees;
  tables = tables;
  rows = rows;
}
