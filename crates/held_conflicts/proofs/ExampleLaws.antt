-- Two tests over a table with one row of two versions.
use Rattle.std.proofs.Common.{codes, ◌≡◌, ℕ, zero, suc, List, [], ◌∷◌, Some, None, inl, inr, refl, sym, ◌∙◌, subst}
use Rattle.std.specs.List.{AllByRecursion}
use Rattle.rm_base.specs.Fields.{field, number}
use Rattle.page_image.specs.Image.{zeros}
use Rattle.page_image.specs.declared.kind.Kind.TheVariants as kind
use Rattle.page_view.specs.Keys.{keys_of, Ascend}
use Rattle.page_view.specs.Leaf.{HoldsLeaf}
use Rattle.bplus_tree.specs.Tree.{Tree, Stands}
use Rattle.bplus_tree.specs.Walk.{IsLeafToRead}
use Rattle.question_tree.specs.Questions.{Gives}
use Rattle.range_reader.specs.Finding.{Fits}
use Rattle.sql_database.specs.Catalog.{schema_row}
use Rattle.held_versions.specs.Example.{items, pages, root, schema, store, table_version}
use Rattle.held_versions.specs.Trees.{IsRoot}
use Rattle.held_versions.proofs.Witness.{example_holds}
use Rattle.key_conflicts.specs.Testing.{down, item_of, test_from, test_keys}
use Rattle.held_conflicts.specs.Example.{key, writer, uses, own_uses, in_its_way, free_to_write, ExampleTests}
use Rattle.held_conflicts.specs.Verdicts.{HasTable, Stand}
use Rattle.held_conflicts.proofs.VerdictLaws.{tests_tell_verdicts}

-- ---- the leaf of the table

leaf_page : (r : ℕ) (xs : List (List ℕ)) → Tree pages r xs → (pages r).kind ≡ kind.Leaf → IsLeafToRead (pages r)
leaf_page r xs tree leaf = by_level tree.level tree.nodes tree.stands
  where
    by_level : (level : ℕ) (nodes : List ℕ) → Stands pages level r None None xs nodes → IsLeafToRead (pages r)
    by_level zero nodes (page, is) = record {
      kind = page.kind;
      each = subst (λ (ys : List (List ℕ)). AllByRecursion HoldsLeaf ys) (sym page.has) page.each;
      ascend = subst (λ (ys : List (List ℕ)). Ascend (keys_of ys)) (sym page.has) page.ascend;
    }
    by_level (suc level) nodes (entries, below, page, parts, is) = let e : kind.Leaf ≡ kind.Inner = sym leaf ∙ page.kind in absurd cc

table : HasTable store root
table = record { name = codes "t"; version = table_version; row = schema_row schema; only = refl; lives = refl; at = refl }

at_table : IsRoot store root
at_table = inr (codes "t", refl)

row_leaf : IsLeafToRead (pages root)
row_leaf = leaf_page root (items root) (example_holds.trees.trees root at_table) refl

-- ---- the tests

stand : Stand pages uses
stand = (refl, (refl, tt))

own_stand : Stand pages own_uses
own_stand = (refl, tt)

tells : Gives Fits (test_keys (writer None) root (key ∷ [])) uses in_its_way
unfolding test_keys test_from down item_of number field zeros
tells = ((refl, inl row_leaf), ((refl, refl), refl))

own_tells : Gives Fits (test_keys (writer (Some 2)) root (key ∷ [])) own_uses free_to_write
unfolding test_keys test_from down item_of number field zeros
own_tells = ((refl, inl row_leaf), refl)

pub example_tests : ExampleTests
example_tests = record {
  stand = stand;
  tells = tells;
  own_tells = own_tells;
  verdict = tests_tell_verdicts items pages store example_holds root (inr table) (writer None) (key ∷ []) uses in_its_way stand tells;
  own_verdict =
      tests_tell_verdicts items pages store example_holds root (inr table) (writer (Some 2)) (key ∷ []) own_uses free_to_write own_stand own_tells;
}
