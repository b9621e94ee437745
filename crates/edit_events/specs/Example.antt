-- Stated: an example, the begin of the first transaction of history's small run, by its machine over
-- the pages of the opening.
use Rattle.std.specs.Prelude.{◌≡◌, List, [], ◌∷◌, Some}
use Rattle.question_tree.specs.Questions.{after, told, wanted}
use Rattle.redo_record.specs.declared.plans.Plan.{Plan}
use Rattle.sql_database.specs.Catalog.{creation}
use Rattle.sql_database.specs.Database.{empty}
use Rattle.table_machine.specs.declared.entries.Entry.{Entry}
use Rattle.commit_stamps.specs.Plans.{begin_plan}
use Rattle.version_store.specs.Stores.{blank, catalog}
use Rattle.history.specs.Clusters.{Cluster, now, start}
use Rattle.history.specs.Events.{AllHappen, begins}
use Rattle.history.specs.SmallLanguage.{schema, small}
use Rattle.held_versions.specs.Keeping.{grown}
use Rattle.held_versions.specs.Laws.{no_items}
use Rattle.held_versions.specs.Run.{after_opening}
use Rattle.tree_plan_steps.specs.Example.{before_begin, table_item}
use Rattle.tree_plan_steps.specs.Following.{Follows, Stands}
use Rattle.transaction_edits.specs.declared.wishes.Told.TheVariants.{Begun}
use Rattle.transaction_edits.specs.Wishes.{Begins, Handed, IsPlanFor, Ran, Runs}
use Rattle.transaction_edits.specs.Works.{Work, begin_work}
use Rattle.edit_events.specs.Grounds.{SaysTableAtEach}
use Rattle.edit_events.specs.Reading.{IsRead}

-- the work of the begin, after it was given the meta page and the slots page
abbrev pub given : Work
given = after (after (begin_work 0) (Handed (after_opening 0))) (Handed (after_opening 1))

abbrev pub first_plan : Plan
first_plan = begin_plan (after_opening 0) (after_opening 1) 0 1

-- It then asks for its plan to be run, over these pages, and tells the number 1. Over the pages of
-- the opening that plan makes the event happen, and the pages hold the store that it leaves. The way
-- to the name of a table is the root of the catalog.
pub record ExampleBegins : Type 0 where
  pub asks : wanted given ≡ Some (Runs (Begins 0 (after_opening 0) (after_opening 1)))
  pub tells : told (after given Ran) ≡ Some (Begun 1)
  pub fits : IsPlanFor (Begins 0 (after_opening 0) (after_opening 1)) first_plan
  pub journal : List Entry
  pub judged : Cluster
  pub happens : AllHappen small (start 2 empty 0 blank) before_begin journal judged
  pub stands : Stands no_items after_opening (now judged)
  pub begin : Follows small (begins 0) judged no_items after_opening
      (grown 2 first_plan.records after_opening)
  pub read : IsRead after_opening catalog table_item.key (after_opening catalog ∷ [])

-- The item of its table says the table with whichever root in the four bytes from place 3 on.
abbrev pub ExampleSays : Type 0
ExampleSays = SaysTableAtEach (Some 3) table_item (creation schema).row
