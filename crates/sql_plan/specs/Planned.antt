-- Stated: what a planner was made for.
use Rattle.std.specs.Prelude.{◌≡◌, List, Option, Some, None}
use Rattle.sql_values.specs.declared.schemas.Schema.{Schema}
use Rattle.sql_statements.specs.declared.statements.Stmt.{Stmt}
use Rattle.sql_meaning.specs.declared.actions.Action.{Action}
use Rattle.sql_meaning.specs.declared.refusals.Refusal.{Refusal}
use Rattle.sql_meaning.specs.Names.{scope}
use Rattle.sql_meaning.specs.Places.{placed_action}
use Rattle.sql_meaning.specs.Refusals.{refusal}

pub record Planned : Type 0 where
  pub statement : Stmt
  pub schemas : List Schema

-- the statement is refused before anything is evaluated, or the action is what it does
abbrev pub IsResolved : List Schema → Stmt → Option Action → Type 0
IsResolved schemas s None = (why : Refusal) × (Some why ≡ refusal schemas s)
IsResolved schemas s (Some action) = (None ≡ refusal schemas s) × (action ≡ placed_action (scope schemas s) s)
