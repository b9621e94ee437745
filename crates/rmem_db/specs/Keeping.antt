-- Stated: the tables that a run leaves, as the log of their changes.
use Rattle.std.specs.Prelude.{◌≡◌, List, [], Option, Some, None}
use Rattle.page_image.specs.Image.{unmade}
use Rattle.redo_record.specs.declared.redo.Group.{Group}
use Rattle.redo_record.specs.Effect.{after_groups}
use Rattle.page_store.specs.Stored.{Stored}
use Rattle.sql_database.specs.Database.{Database, empty}
use Rattle.paged_tables.specs.Content.{Holds}

-- the pages that the groups of a log make, one group after the other from pages that are not made, hold the database
abbrev pub IsLogOf : List Group → Database → Type 0
IsLogOf groups d = Holds (λ p. after_groups groups (unmade p)) d

-- each group of the tables is kept, and together they are a log of the database
pub record AreKept (tables : Stored) (d : Database) : Type 0 where
  pub all : tables.own ≡ []
  pub log : IsLogOf tables.kept d

-- the tables that are left are kept, and none are left only where the database has none
abbrev pub HasKept : Option Stored → Database → Type 0
HasKept None d = d ≡ empty
HasKept (Some tables) d = AreKept tables d
