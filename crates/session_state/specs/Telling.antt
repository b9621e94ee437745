-- Stated: a table of sessions that tells where the sessions of a table machine stand.
use Rattle.std.specs.Prelude.{◌≡◌, ℕ, ◌+◌, Bool, true, false, length, slice_get, Option, Some, None}
use Rattle.std.specs.Result.{result_ok}
use Rattle.table_machine.specs.Language.{Language}
use Rattle.table_machine.specs.Machine.{Machine, Session, Statement, Transaction}
use Rattle.session_state.specs.declared.places.Asked.{Asked}
use Rattle.session_state.specs.declared.places.Place.{Place}
use Rattle.session_state.specs.declared.places.Place.TheVariants.{Idle, Active, Lost}
use Rattle.session_state.specs.declared.places.SessionRow.{SessionRow}
use Rattle.session_state.specs.declared.places.SessionTable.{SessionTable}
use Rattle.session_state.specs.declared.queue.Queued.{Queued}
use Rattle.session_state.specs.Rows.{class_of, is_active}

-- where a session stands: with no transaction, with one of this snapshot, or with one lost, which it is told before
-- a statement is taken up
abbrev pub PlaceTells : Place → Bool → Session → Type 0
PlaceTells Idle lasting x = (x.transaction ≡ None) × (x.lost ≡ false) × (lasting ≡ false)
PlaceTells (Active snap own) lasting x =
    (t : Transaction) × (x.transaction ≡ Some t) × (t.snap ≡ snap) × (t.lasting ≡ lasting) × (x.lost ≡ false)
PlaceTells Lost lasting x = (x.transaction ≡ None) × (x.lost ≡ true) × (lasting ≡ false) × (x.statement ≡ None)

-- its statement, where it has one: what the text is read as, which was not stopped
abbrev pub AskedTells : Language → Option Asked → Option Statement → Type 0
AskedTells language None None = Unit {0}
AskedTells language None (Some a) = ⊥
AskedTells language (Some q) None = ⊥
AskedTells language (Some q) (Some a) =
    language.parses q.text a.read × (q.class ≡ class_of (result_ok a.read)) × (a.stopped ≡ false)

pub record RowTells (language : Language) (row : SessionRow) (x : Session) : Type 0 where
  pub node : x.node ≡ row.node
  pub place : PlaceTells row.place row.lasting x
  pub asked : AskedTells language row.asked x.statement
  pub rest : row.asked ≡ None → is_active row.place ≡ row.lasting  -- what is open between statements lasts

-- a commit at a place of the queue, by its stamp, and who waits for it
abbrev pub QueuedTells : Machine → ℕ → Queued → Type 0
QueuedTells m i item = (item.stamp ≡ m.count + 1 + i) × (item.owner ≡ m.owner (m.count + 1 + i))

pub record Tells (language : Language) (m : Machine) (table : SessionTable) : Type 0 where
  pub joined : length table.sessions ≡ m.joined
  pub rows : (s : ℕ) (row : SessionRow) → slice_get table.sessions s ≡ Some row → RowTells language row (m.sessions s)
  pub waiting : length table.queue.items ≡ m.waiting
  pub queue : (i : ℕ) (item : Queued) → slice_get table.queue.items i ≡ Some item → QueuedTells m i item
