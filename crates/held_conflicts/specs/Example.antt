-- Stated: an example, a writer with the snapshot 1 and the key of a row that another transaction,
-- which is open, has replaced; and that transaction's own test.
use Rattle.std.specs.Prelude.{ℕ, List, [], ◌∷◌, Option, Some, None, codes}
use Rattle.page_image.specs.Image.{Image}
use Rattle.question_tree.specs.Questions.{Gives}
use Rattle.range_reader.specs.declared.fetch.Snapshot.{Snapshot}
use Rattle.range_reader.specs.Finding.{Fits}
use Rattle.held_versions.specs.Example.{pages, root, store}
use Rattle.key_conflicts.specs.declared.verdict.Tested.{Tested}
use Rattle.key_conflicts.specs.Testing.{Key, test_keys}
use Rattle.held_conflicts.specs.Verdicts.{IsVerdict, Stand}

abbrev pub key : Key
key = codes "a"

abbrev pub writer : Option ℕ → Snapshot
writer own = record { stamp = 1; own = own }

-- the leaf of the table, and the page with the stamps
abbrev pub uses : List Image
uses = pages root ∷ (pages 2 ∷ [])

abbrev pub own_uses : List Image
own_uses = pages root ∷ []

abbrev pub in_its_way : Tested
in_its_way = record { clash = Some key; found = Some key }

abbrev pub free_to_write : Tested
free_to_write = record { clash = None; found = Some key }

pub record ExampleTests : Type 0 where
  pub stand : Stand pages uses
  pub tells : Gives Fits (test_keys (writer None) root (key ∷ [])) uses in_its_way
  pub own_tells : Gives Fits (test_keys (writer (Some 2)) root (key ∷ [])) own_uses free_to_write
  pub verdict : IsVerdict store root (writer None) (key ∷ []) in_its_way
  pub own_verdict : IsVerdict store root (writer (Some 2)) (key ∷ []) free_to_write
