-- Stated: what the reader of a statement finds answers as its transaction's view does.
use Rattle.std.specs.Prelude.{◌≡◌, ℕ, List, Some, map}
use Rattle.page_view.specs.declared.leaf.LeafItem.{LeafItem}
use Rattle.sql_values.specs.declared.schemas.Schema.{Schema}
use Rattle.row_codec.specs.Records.{IsRecord}
use Rattle.sql_statements.specs.declared.statements.Stmt.{Stmt}
use Rattle.sql_database.specs.Database.{Database}
use Rattle.sql_database.specs.Statements.{IsEvaluated}
use Rattle.range_reader.specs.declared.fetch.Snapshot.{Snapshot}
use Rattle.statement_reader.specs.declared.tables.Found.{Found}
use Rattle.statement_reader.specs.Answered.{StatementFound}
use Rattle.statement_reader.specs.Decoding.{Decoder}
use Rattle.tree_timeline.specs.Types.{Items, PagesAt}
use Rattle.tree_timeline.specs.Walks.{Visit}
use Rattle.version_store.specs.Contents.{Content}
use Rattle.version_store.specs.Stores.{Store}
use Rattle.version_store.specs.Versions.{Row}
use Rattle.held_versions.specs.Tables.{SpellsTable}
use Rattle.history.specs.Databases.{StandsFor}
use Rattle.snapshot_reads.specs.Laws.{Reads, UsesWithin}
use Rattle.snapshot_reads.specs.Times.{image_at}
use Rattle.reads_joined.specs.Answering.{AnswersAs}

-- a decoder that gives the row or the table of each item that spells one
pub record GivesSpelled (decoder : Decoder) : Type 0 where
  pub rows : (s : Schema) (item : LeafItem) (r : Row) → IsRecord s r item.key item.value
      → decoder.row s item ≡ Some r
  pub tables : (item : LeafItem) (s : Schema) (root : ℕ) → SpellsTable item s root
      → decoder.table item ≡ Some (record { schema = s; root = root })

-- The outcome over what a reader found in the images that it was given, with any decoder that gives
-- what items spell, is that over the database that its content stands for.
abbrev pub ReaderIsAnswered : Type 0
ReaderIsAnswered =
    (at : PagesAt) (items : ℕ → ℕ → Items) (S : ℕ → Store) (base end : ℕ) (s : Snapshot)
    (f : Content) (d : Database) → Reads at items S base end s.stamp s.own f → StandsFor f d
    → (from : ℕ) (us : List Visit) → UsesWithin at S base s.stamp from end us
    → (decoder : Decoder) → GivesSpelled decoder
    → (st : Stmt) → IsEvaluated st → (found : Found)
    → StatementFound decoder s st (map (image_at at) us) found
    → AnswersAs found.schemas found.rows d st
