-- The example's reads, each step by computation.
use Rattle.std.proofs.Common.{◌≡◌, ◌≤◌, ℕ, zero, suc, Bool, true, false, nat_eq, List, [], ◌∷◌, if◌then◌else◌, Option, Some, None, inl, inr, refl, sym, ap, subst, ◌∙◌, arith}
use Rattle.std.specs.Prelude.{codes}
use Rattle.std.specs.List.{AllByRecursion}
use Rattle.std.specs.Str.{bytes_eq}
use Rattle.rm_base.specs.Fields.{field, number}
use Rattle.page_image.specs.Image.{Image, zeros}
use Rattle.page_image.specs.declared.kind.Kind.TheVariants as kind
use Rattle.page_view.specs.declared.leaf.LeafItem.{LeafItem}
use Rattle.page_view.specs.Keys.{Ascend, keys_of}
use Rattle.page_view.specs.Leaf.{HoldsLeaf, leaf_bytes, leaf_of}
use Rattle.bplus_tree.specs.Tree.{Stands, Tree}
use Rattle.bplus_tree.specs.Walk.{IsLeafToRead}
use Rattle.row_codec.specs.Records.{IsRecord, value_bytes}
use Rattle.sql_values.specs.declared.schemas.Schema.{Schema}
use Rattle.sql_database.specs.Catalog.{schema_of, schema_row}
use Rattle.sql_database.proofs.CatalogLaws.{says}
use Rattle.tree_timeline.specs.Timeline.{Timeline}
use Rattle.tree_timeline.specs.Types.{Items}
use Rattle.undo_versions.specs.Chains.{GoesOn}
use Rattle.undo_versions.specs.Reading.{holds_undo}
use Rattle.undo_versions.specs.Walking.{replaced}
use Rattle.version_store.specs.Rooted.{IsLone}
use Rattle.version_store.specs.Stores.{catalog}
use Rattle.version_store.specs.Versions.{Row, Version}
use Rattle.held_versions.specs.Example.{first_item, items, pages, place, root, row, schema, second_item, store, table_item, table_version}
use Rattle.held_versions.specs.Tables.{SaysTable, SpellsTable}
use Rattle.held_versions.specs.Trees.{IsRoot}
use Rattle.held_versions.proofs.Witness.{example_holds}
use Rattle.range_reader.specs.Uses.{Looks, LooksUp}
use Rattle.snapshot_reads.specs.Example.{ExampleReads, all_keys, log, name_uses, own_uses, row_uses, seen_by, use_at}
use Rattle.snapshot_reads.specs.Keeping.{Keeps}
use Rattle.snapshot_reads.specs.Pasts.{Past}
use Rattle.snapshot_reads.specs.Tables.{RowsFound, TableFound}
use Rattle.snapshot_reads.specs.Times.{from_on, image_at}

-- ---- the log

early : (b : Bool) (x y : Image) → x.structure ≤ 1 → y.structure ≤ 1
    → (if b then x else y).structure ≤ 1
early true x y p q = p
early false x y p q = q

structure_low : (q : ℕ) → (pages q).structure ≤ 1
structure_low q =
    early (nat_eq q 0) _ _ (omega arith)
    (early (nat_eq q 1) _ _ (omega arith)
    (early (nat_eq q 2) _ _ (omega arith)
    (early (nat_eq q catalog) _ _ (omega arith)
    (early (nat_eq q 1027) _ _ (omega arith)
    (early (nat_eq q root) _ _ (omega arith) (omega arith))))))

line : (r from : ℕ) → IsRoot store r → 1 ≤ from
    → Timeline (from_on (log pages) from) r from (λ t. items r)
line r from is l = record {
  tree = λ t. example_holds.trees.trees r is;
  step = λ t. inl (record { inner = λ q c e. refl; leaf = λ q c e. (e, refl) });
  stamped = λ t q. (let s = structure_low q in omega (arith, s, l));
}

by_name : (b : Bool) (v : Version) → (if b then table_version ∷ [] else []) ≡ v ∷ []
    → table_version ≡ v
by_name true v e = let here : table_version ∷ [] ≡ v ∷ [] = e in cc
by_name false v e = let none : [] ≡ v ∷ [] = e in absurd cc

lone_by : (b : Bool) → IsLone (if b then table_version ∷ [] else [])
lone_by true = (schema_row schema, refl)
lone_by false = tt

is_root : IsRoot store root
is_root = inr (codes "t", refl)

keeps : Keeps (log pages) (log items) (log store) 1 9
keeps = record {
  holds = λ j b l. example_holds;
  undo = λ i j b le l at undo h. h;
  names = λ from b l. line catalog from (inl refl) b;
  trees = λ from a v b l only.
      subst (λ (w : Version). Timeline (from_on (log pages) from) w.root from (λ t. items w.root))
      (by_name (bytes_eq a (codes "t")) v only) (line root from is_root b);
}

past : (own : Option ℕ) → Past (log store) 1 9 1 own (seen_by own)
past own = record {
  read = λ j b l m a k. refl;
  rises = λ i j b le l. omega arith;
  later = λ i j t b le l. inl refl;
  lasts = λ i j b le l a v only fixed. only;
  lone = λ j b l a. lone_by (bytes_eq a (codes "t"));
}

-- ---- pages that can be read

leaf_page : (r : ℕ) (xs : Items) → Tree pages r xs → (pages r).kind ≡ kind.Leaf
    → IsLeafToRead (pages r)
leaf_page r xs tree leaf = by_level tree.level tree.nodes tree.stands
  where
    by_level : (level : ℕ) (nodes : List ℕ) → Stands pages level r None None xs nodes
        → IsLeafToRead (pages r)
    by_level zero nodes (page, is) = record {
      kind = page.kind;
      each = subst (λ ys. AllByRecursion HoldsLeaf ys)
          (sym page.has) page.each;
      ascend = subst (λ ys. Ascend (keys_of ys))
          (sym page.has) page.ascend;
    }
    by_level (suc level) nodes (entries, below, page, parts, is) =
        absurd (let e : kind.Leaf ≡ kind.Inner = sym leaf ∙ page.kind in cc)

-- ---- the catalog

table_read : leaf_of (leaf_bytes table_item) ≡ table_item
unfolding number field
table_read = refl

stamped : LooksUp (pages 2) 1 None table_item true
unfolding number field
stamped = record {
  other = refl;
  page = record { some = omega arith; kind = refl; number = refl };
  shown = refl;
}

table_spells : SpellsTable table_item schema root
table_spells =
    subst (λ (x : LeafItem). SpellsTable x schema root) table_read
    (subst (λ (s : Schema). SpellsTable (leaf_of (leaf_bytes table_item)) s root) (sym same)
    there.spells)
  where
    there : SaysTable (leaf_of (leaf_bytes table_item)) table_version
    there = (example_holds.tables (codes "t")).0.says

    one_row : (x y : Row) → Some x ≡ Some y → x ≡ y
    one_row x y e = cc

    same : schema ≡ there.schema
    same =
        sym (says schema)
        ∙ (ap schema_of (one_row (schema_row schema) (schema_row there.schema) there.row)
        ∙ says there.schema)

table : TableFound (image_at (log pages)) 1 None (codes "t") name_uses schema root
table = record {
  entry = table_item;
  others = [];
  found = record {
    steps = record {
      use_of = use_at 1 1026;
      asides = use_at 1 2 ∷ [];
      found = table_item ∷ [];
    } ∷ [];
    goes = (
      refl,
      inl (leaf_page catalog (items catalog) (example_holds.trees.trees catalog
          (inl refl)) refl),
      (
        use_at 1 2 ∷ [],
        [],
        Some table_item,
        [],
        refl,
        subst (λ (x : LeafItem). Looks (image_at (log pages)) 1 None x (use_at 1 2 ∷ [])
            (Some table_item)) (sym table_read) (inl (stamped, refl)),
        (refl, refl),
        refl,
      ),
      refl,
    );
    used = refl;
    seen = refl;
  };
  spells = table_spells;
}

-- ---- the row

row_read : leaf_of (leaf_bytes second_item) ≡ second_item
unfolding number field
row_read = refl

unstamped : LooksUp (pages 2) 1 None second_item false
unfolding number field zeros
unstamped = record {
  other = refl;
  page = record { some = omega arith; kind = refl; number = refl };
  shown = refl;
}

first_stamped : LooksUp (pages 2) 1 None first_item true
unfolding number field
first_stamped = record {
  other = refl;
  page = record { some = omega arith; kind = refl; number = refl };
  shown = refl;
}

before : replaced (pages 1027) (place 2) ≡ Some first_item
unfolding number field holds_undo
before = refl

row_spelt : (byte : ℕ)
    → IsRecord schema (row (byte ∷ [])) (codes "a") (value_bytes 0 (row (byte ∷ [])))
unfolding field
row_spelt byte = record {
  fits = record { cells = (tt, (tt, tt)); key = λ e. cc };
  ints = tt;
  key_is = refl;
  value_is = refl;
  short_key = omega arith;
  short_record = omega arith;
}

row_leaf : IsLeafToRead (pages root)
row_leaf = leaf_page root (items root) (example_holds.trees.trees root is_root) refl

looks : Looks (image_at (log pages)) 1 None second_item
    (use_at 3 2 ∷ (use_at 3 1027 ∷ (use_at 5 2 ∷ []))) (Some first_item)
looks = (
  unstamped,
  refl,
  refl,
  subst (λ o. GoesOn
      (λ old. Looks (image_at (log pages)) 1 None old (use_at 5 2 ∷ []) (Some first_item))
      ((use_at 5 2 ∷ [] ≡ []) × (Some first_item ≡ None)) o) (sym before)
      (inl (first_stamped, refl)),
)

rows : RowsFound (image_at (log pages)) 1 None root schema all_keys row_uses (row (codes "1") ∷ [])
rows = record {
  items = first_item ∷ [];
  found = record {
    steps = record {
      use_of = use_at 2 1028;
      asides = use_at 3 2 ∷ (use_at 3 1027 ∷ (use_at 5 2 ∷ []));
      found = first_item ∷ [];
    } ∷ [];
    goes = (
      refl,
      inl row_leaf,
      (
        use_at 3 2 ∷ (use_at 3 1027 ∷ (use_at 5 2 ∷ [])),
        [],
        Some first_item,
        [],
        refl,
        subst (λ (x : LeafItem). Looks (image_at (log pages)) 1 None x
            (use_at 3 2 ∷ (use_at 3 1027 ∷ (use_at 5 2 ∷ []))) (Some first_item))
            (sym row_read) looks,
        (refl, refl),
        refl,
      ),
      refl,
    );
    used = refl;
    seen = refl;
  };
  decoded = (row (codes "1"), [], row_spelt 49, refl, refl);
}

own_rows : RowsFound (image_at (log pages)) 1 (Some 2) root schema all_keys own_uses
    (row (codes "2") ∷ [])
own_rows = record {
  items = second_item ∷ [];
  found = record {
    steps = record { use_of = use_at 2 1028; asides = []; found = second_item ∷ [] } ∷ [];
    goes = (
      refl,
      inl row_leaf,
      (
        [],
        [],
        Some second_item,
        [],
        refl,
        subst (λ (x : LeafItem). Looks (image_at (log pages)) 1 (Some 2) x [] (Some second_item))
            (sym row_read) (refl, refl),
        (refl, refl),
        refl,
      ),
      refl,
    );
    used = refl;
    seen = refl;
  };
  decoded = (row (codes "2"), [], row_spelt 50, refl, refl);
}

leaf_not : kind.Leaf ≡ kind.Inner → ⊥
leaf_not e = cc

stamps_not : kind.Stamps ≡ kind.Inner → ⊥
stamps_not e = cc

undo_not : kind.Undo ≡ kind.Inner → ⊥
undo_not e = cc

pub example_reads : ExampleReads
example_reads = record {
  reads = record { keeps = keeps; past = past None };
  own_reads = record { keeps = keeps; past = past (Some 2) };
  within = record {
    since = omega arith;
    stands = omega arith;
    rises = (
      omega arith,
      (
        omega arith,
        (
          omega arith,
          (
            omega arith,
            (
              omega arith,
              (
                omega arith,
                omega arith,
              ),
            ),
          ),
        ),
      ),
    );
    latched = (
      (λ e. absurd (leaf_not e)),
      (
        (λ e. absurd (stamps_not e)),
        (
          (λ e. absurd (leaf_not e)),
          (
            (λ e. absurd (stamps_not e)),
            ((λ e. absurd (undo_not e)), tt),
          ),
        ),
      ),
    );
  };
  table = table;
  rows = rows;
  own_rows = own_rows;
}
