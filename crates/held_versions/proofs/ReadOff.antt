-- For the proofs: the example's pages have a meaning, and its store is what is read off them.
use Rattle.std.proofs.Common.{◌≡◌, ◌<◌, ◌⊎◌, ℕ, zero, suc, Bool, true, false, cond, List, [], ◌∷◌, length, map, Some, None, inl, inr, refl, sym, ap, subst, ◌∙◌, arith}
use Rattle.std.specs.Prelude.{if◌then◌else◌, nat_eq, codes}
use Rattle.std.specs.List.{AllByRecursion}
use Rattle.std.specs.Ordering.{is_eq}
use Rattle.std.proofs.lemmas.Bool.{cases_eq, eq-eqb}
use Rattle.rm_base.specs.Fields.{AreBytes, field, number}
use Rattle.page_view.specs.declared.leaf.LeafItem.{LeafItem}
use Rattle.page_view.specs.Keys.{key_cmp, key_in}
use Rattle.page_view.specs.Leaf.{leaf_bytes, leaf_of}
use Rattle.sql_values.specs.declared.schemas.Schema.{Schema}
use Rattle.commit_stamps.specs.declared.slots.Slot.{Slot}
use Rattle.commit_stamps.specs.Fields.{slot_of}
use Rattle.undo_versions.specs.Chains.{IsChain}
use Rattle.undo_versions.specs.Reading.{holds_undo}
use Rattle.version_store.specs.Contents.{newest_root}
use Rattle.version_store.specs.Stores.{catalog}
use Rattle.held_versions.specs.Counting.{sessions}
use Rattle.held_versions.specs.Example as example
use Rattle.held_versions.specs.Example.{first_item, items, pages, place, root, schema, second_item, store, table_item}
use Rattle.held_versions.specs.Laws.{ExampleHolds}
use Rattle.held_versions.specs.Meaning.{BytesSpelled, HasUndoList, IsGoodAt, IsGoodChain, IsGoodTable, IsMeaningful, TableSpelled}
use Rattle.held_versions.specs.Storing.{chain_at, longest, root_in, rows_of, schema_at, schema_in, store_of, table_version}
use Rattle.held_versions.specs.Trees.{HasTrees, IsRoot}
use Rattle.held_versions.specs.Versions.{of_key}
use Rattle.held_versions.proofs.Parts.{put_elsewhere}
use Rattle.held_versions.proofs.Numbers.{counters_read, slots_read, stamps_read}
use Rattle.held_versions.proofs.Spelling.{root_read, schema_read}
use Rattle.held_versions.proofs.Witness as witness

-- ---- the undo list

undo_read : (s t : ℕ) → s < sessions → (store_of items pages).slot s ≡ Some t
    → HasUndoList items pages s t
undo_read s t low is =
    let held : store.slot s ≡ Some t =
    witness.slots.slots s low ∙ sym ((slots_read items pages store witness.slots).slots s low) ∙ is in
    record { entries = store.undo s; short = short_by held; list = witness.lists s t low held }
  where
    short_by : store.slot s ≡ Some t → length (store.undo s) < longest (slot_of (pages 1) s).last
    short_by held =
        elim (cases_eq s 0) [
          | inl e ↦ subst (λ (r : ℕ). length (store.undo r) < longest (slot_of (pages 1) r).last) (sym e)
              (subst (λ (x : Slot). 1 < longest x.last) (sym witness.own_slot) (omega arith))
          | inr ne ↦ (let none : None ≡ Some t =
              sym (put_elsewhere (λ (k : ℕ). None) 0 (Some 2) s ne) ∙ held in absurd cc)
        ]

-- ---- the items of a tree of one item

by_one : (P : List (List ℕ) → Type 0) (x k : List ℕ) → P (x ∷ []) → P [] → P (of_key k (x ∷ []))
by_one P x k one none = by_test (is_eq (key_cmp (key_in x) k))
  where
    by_test : (b : Bool) → P (cond b (x ∷ []) [])
    by_test true = one
    by_test false = none

-- ---- the catalog

table_root : root_in table_item ≡ root
table_root = root_read table_item schema root witness.table_spells

table_schema : schema_in table_item ≡ schema
table_schema = schema_read table_item schema root witness.table_spells

table_chain : IsChain pages table_item (table_item ∷ [])
unfolding number field holds_undo
table_chain = (refl, refl)

good_table : IsGoodChain TableSpelled pages table_item
good_table = record {
  items = table_item ∷ [];
  chain = table_chain;
  short = omega arith;
  each = (
    record {
      spelled = record { lives = refl; schema = schema; root = root; spells = witness.table_spells };
      some = omega arith;
      most = omega arith;
      pointer = witness.table_versions.0.pointer;
    },
    tt,
  );
}

tables : (k : List ℕ) → IsGoodAt TableSpelled pages (of_key k (items catalog))
tables k =
    by_one (IsGoodAt TableSpelled pages) (leaf_bytes table_item) k
    (subst (IsGoodChain TableSpelled pages) (sym witness.table_read) good_table) tt

-- ---- the rows

bytes_all : (xs : List ℕ) → AllByRecursion (λ x. x < 256) xs → AreBytes xs
bytes_all [] h k = omega arith
bytes_all (x ∷ xs) h zero = h.0
bytes_all (x ∷ xs) h (suc k) = bytes_all xs h.1 k

key_bytes : AreBytes (codes "a")
key_bytes = bytes_all (97 ∷ []) (omega arith, tt)

second_bytes : AreBytes second_item.value
unfolding field
second_bytes =
    bytes_all (2 ∷ 0 ∷ 1 ∷ 50 ∷ []) (omega arith, (omega arith, (omega arith, (omega arith, tt))))

first_bytes : AreBytes first_item.value
unfolding field
first_bytes =
    bytes_all (2 ∷ 0 ∷ 1 ∷ 49 ∷ []) (omega arith, (omega arith, (omega arith, (omega arith, tt))))

row_chain : IsChain pages second_item (second_item ∷ (first_item ∷ []))
unfolding number field holds_undo
row_chain = (refl, (refl, refl))

good_row : IsGoodChain (BytesSpelled schema) pages second_item
good_row = record {
  items = second_item ∷ (first_item ∷ []);
  chain = row_chain;
  short = omega arith;
  each = (
    record {
      spelled = record {
        key = key_bytes;
        value = second_bytes;
        row = inr (refl, (example.row (codes "2"), witness.row_spelt 50));
      };
      some = omega arith;
      most = omega arith;
      pointer = witness.second_pointer;
    },
    (
      record {
        spelled = record {
          key = key_bytes;
          value = first_bytes;
          row = inr (refl, (example.row (codes "1"), witness.row_spelt 49));
        };
        some = omega arith;
        most = omega arith;
        pointer = witness.first_pointer;
      },
      tt,
    ),
  );
}

rows_good : (k : List ℕ) → IsGoodAt (BytesSpelled schema) pages (of_key k (items root))
rows_good k =
    by_one (IsGoodAt (BytesSpelled schema) pages) (leaf_bytes second_item) k
    (subst (IsGoodChain (BytesSpelled schema) pages) (sym witness.row_read) good_row) tt

named_here : (x : LeafItem) (xs : List (List ℕ)) (r : ℕ) → root_in (leaf_of (leaf_bytes x)) ≡ r
    → leaf_of (leaf_bytes x) ≡ x → schema_at r (leaf_bytes x ∷ xs) ≡ Some (schema_in x)
named_here x xs r is same =
    let here : nat_eq (root_in (leaf_of (leaf_bytes x))) r ≡ true =
    eq-eqb (root_in (leaf_of (leaf_bytes x))) r is in
    ap (λ (b : Bool). if b then Some (schema_in (leaf_of (leaf_bytes x))) else schema_at r xs) here
    ∙ ap (λ (y : LeafItem). Some (schema_in y)) same

good_named : IsGoodTable items pages table_item
good_named = record {
  root = λ e. (let same : 1028 ≡ root_in table_item = sym table_root in omega (arith, same, e));
  only = named_here table_item [] (root_in table_item) (ap root_in witness.table_read) witness.table_read;
  rows = λ k.
      subst (λ (s : Schema). IsGoodAt (BytesSpelled s) pages (of_key k (items (root_in table_item)))) (sym table_schema)
      (subst (λ (r : ℕ). IsGoodAt (BytesSpelled schema) pages (of_key k (items r))) (sym table_root)
      (rows_good k));
}

rows : (a x : List ℕ) → of_key a (items catalog) ≡ x ∷ [] → IsGoodTable items pages (leaf_of x)
rows a x =
    by_one (λ xs. xs ≡ x ∷ [] → IsGoodTable items pages (leaf_of x)) (leaf_bytes table_item) a
    (λ e. let same : leaf_bytes table_item ≡ x = first_same e in
    subst (λ (y : List ℕ). IsGoodTable items pages (leaf_of y)) same
    (subst (IsGoodTable items pages) (sym witness.table_read) good_named))
    (λ e. let none : [] ≡ x ∷ [] = e in absurd cc)
  where
    head_of : List (List ℕ) → List ℕ
    head_of [] = []
    head_of (y ∷ ys) = y

    first_same : leaf_bytes table_item ∷ [] ≡ x ∷ [] → leaf_bytes table_item ≡ x
    first_same e = ap head_of e

-- ---- the trees

root_named : (a : List ℕ) (r : ℕ)
    → newest_root (map table_version (chain_at pages (of_key a (items catalog)))) ≡ Some r → r ≡ root
root_named a r =
    by_one (λ xs. newest_root (map table_version (chain_at pages xs)) ≡ Some r → r ≡ root)
    (leaf_bytes table_item) a
    (λ e. let here : Some (root_in (leaf_of (leaf_bytes table_item))) ≡ Some r = e in
    let same : root_in (leaf_of (leaf_bytes table_item)) ≡ r = cc in
    sym same ∙ ap root_in witness.table_read ∙ table_root)
    (λ e. let none : None ≡ Some r = e in absurd cc)

which : (r : ℕ) → IsRoot (store_of items pages) r → (r ≡ catalog) ⊎ (r ≡ root)
which r (inl is) = inl is
which r (inr named) = inr (root_named named.0 r named.1)

trees : HasTrees items pages (store_of items pages)
trees = record {
  trees = λ r a.
      witness.leaf_tree r (witness.page_of r (which r a)) (witness.last_of r (which r a));
  apart = λ p q r a b c d. witness.only q p c ∙ sym (witness.only r p d);
}

-- ---- the example

meaningful : IsMeaningful items pages
meaningful = record {
  counters = counters_read items pages store witness.counters;
  stamps = stamps_read items pages store witness.counters witness.stamps;
  slots = slots_read items pages store witness.slots;
  undo = undo_read;
  trees = trees;
  tables = tables;
  rows = rows;
}

table_is : rows_of items pages catalog (codes "t") ≡ example.table_version ∷ []
unfolding number field holds_undo
table_is = refl

row_is : rows_of items pages root (codes "a") ≡ example.second_version ∷ (example.first_version ∷ [])
unfolding number field holds_undo
row_is = refl

undo_is : (store_of items pages).undo 0 ≡ store.undo 0
unfolding number field holds_undo
undo_is = refl

pub example_reads : ExampleHolds
example_reads = record {
  holds = witness.example_holds;
  meaningful = meaningful;
  table = table_is;
  row = row_is;
  undo = undo_is;
}
