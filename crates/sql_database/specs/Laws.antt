-- Stated: laws of databases.
use Rattle.std.specs.Prelude.{◌≡◌, List}
use Rattle.sql_values.specs.declared.schemas.Schema.{Schema}
use Rattle.sql_database.specs.declared.changes.Change.{Change}
use Rattle.sql_database.specs.Applied.{applied}
use Rattle.sql_database.specs.Catalog.{schema_of, schema_row}
use Rattle.sql_database.specs.Database.{Database, SameContent}

-- the row of the catalog that a CREATE writes says its schema
abbrev pub CatalogSaysSchemas : Type 0
CatalogSaysSchemas = (s : Schema) → schema_of (schema_row s) ≡ s

-- having the same content goes both ways and on, and each database has its own
abbrev pub SameContentIsSame : Type 0
SameContentIsSame =
    ((d : Database) → SameContent d d)
    × ((d e : Database) → SameContent d e → SameContent e d)
    × ((d e f : Database) → SameContent d e → SameContent e f → SameContent d f)

-- changes make the same content of the same content
abbrev pub AppliedRespects : Type 0
AppliedRespects = (d e : Database) (cs : List Change) → SameContent d e → SameContent (applied d cs) (applied e cs)
