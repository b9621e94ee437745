-- Stated: what each thing that happens to a session makes of its row.
use Rattle.std.specs.Prelude.{ℕ, ◌+◌, Bool, true, false, ◌&&◌, ◌||◌, not, is_some, if◌then◌else◌, List, [], ◌∷◌, ◌++◌, slice_get, slice_set, Option, Some, None}
use Rattle.std.specs.Option.{option_map_or}
use Rattle.sql_statements.specs.declared.statements.Stmt.{Stmt}
use Rattle.sql_statements.specs.declared.statements.Stmt.TheVariants as stmt
use Rattle.sql_database.specs.declared.replies.SqlReply.{SqlReply}
use Rattle.sql_database.specs.Replies.{is_done, is_giving_up}
use Rattle.session_state.specs.declared.classes.StatementClass.{StatementClass}
use Rattle.session_state.specs.declared.classes.StatementClass.TheVariants.{Wrong, Reads, Writes, Begins, Ends}
use Rattle.session_state.specs.declared.places.Place.{Place}
use Rattle.session_state.specs.declared.places.Place.TheVariants.{Idle, Active, Lost}
use Rattle.session_state.specs.declared.places.SessionRow.{SessionRow}

abbrev pub class_of_statement : Stmt → StatementClass
class_of_statement (stmt.Create s) = Writes
class_of_statement (stmt.Insert t names rows) = Writes
class_of_statement (stmt.Update t sets test) = Writes
class_of_statement (stmt.Delete t test) = Writes
class_of_statement (stmt.Select q) = Reads
class_of_statement stmt.Begin = Begins
class_of_statement stmt.Commit = Ends
class_of_statement stmt.Rollback = Ends

-- a text that is no statement is Wrong
abbrev pub class_of : Option Stmt → StatementClass
class_of read = option_map_or class_of_statement read Wrong

abbrev pub begins : StatementClass → Bool
begins Begins = true
begins Wrong = false
begins Reads = false
begins Writes = false
begins Ends = false

abbrev pub ends : StatementClass → Bool
ends Ends = true
ends Wrong = false
ends Reads = false
ends Writes = false
ends Begins = false

-- a statement of the class that is given up takes the transaction along
abbrev pub changes : StatementClass → Bool
changes Writes = true
changes Ends = true
changes Wrong = false
changes Reads = false
changes Begins = false

abbrev pub idle_on : ℕ → SessionRow
idle_on n = record { node = n; place = Idle; lasting = false; count = 0; asked = None }

-- a statement is handed in
abbrev pub submitted : List ℕ → StatementClass → ℕ → ℕ → SessionRow → SessionRow
submitted text class turn uses row = record row {
  count = row.count + 1;
  asked = Some (record { text = text; class = class; number = row.count + 1; turn = turn; met = false; uses = uses });
}

-- a statement that is refused at its submission: its node is down
abbrev pub counted : SessionRow → SessionRow
counted row = record row { count = row.count + 1 }

-- or its session is told of the transaction that it lost
abbrev pub told_lost : SessionRow → SessionRow
told_lost row = record row { count = row.count + 1; place = Idle }

abbrev pub snapped : ℕ → SessionRow → SessionRow
snapped stamp row = record row { place = Active stamp None; lasting = false }

abbrev pub with_number : ℕ → Place → Place
with_number trx Idle = Idle
with_number trx (Active snap own) = Active snap (Some trx)
with_number trx Lost = Lost

-- the transaction has a number from its first change on
abbrev pub numbered : ℕ → SessionRow → SessionRow
numbered trx row = record row { place = with_number trx row.place }

-- the transaction's commit waits in the queue
abbrev pub enqueued : SessionRow → SessionRow
enqueued row = record row { place = Idle; lasting = false }

-- a transaction that is open goes
abbrev pub closed : Place → Place
closed Idle = Idle
closed (Active snap own) = Idle
closed Lost = Lost

abbrev pub without_transaction : SessionRow → SessionRow
without_transaction row = record row { place = closed row.place; lasting = false; asked = None }

-- the transaction stays open, if there is one
abbrev pub lasts : Bool → SessionRow → SessionRow
lasts lasting row = record row { lasting = lasting; asked = None }

abbrev pub is_active : Place → Bool
is_active Idle = false
is_active (Active snap own) = true
is_active Lost = false

-- After a reply. One that gives up takes the transaction along, and so does a COMMIT or ROLLBACK that is done; BEGIN
-- that is done makes it last; else it stays where it lasts.
abbrev pub after_reply : StatementClass → SqlReply → SessionRow → SessionRow
after_reply class r row =
    if is_giving_up r || (ends class && is_done r) then without_transaction row
    else (if begins class && is_done r then lasts (is_active row.place) row
    else (if row.lasting then lasts true row else without_transaction row))

abbrev pub class_asked : SessionRow → StatementClass
class_asked row = option_map_or (λ a. a.class) row.asked Wrong

abbrev pub replied : SqlReply → SessionRow → SessionRow
replied r row = after_reply (class_asked row) r row

-- the statement is given up: a transaction that lasts stays where the statement changes nothing
abbrev pub given_up : SessionRow → SessionRow
given_up row = if row.lasting && not (changes (class_asked row)) then lasts true row else without_transaction row

-- its node falls: a transaction that lasts is lost, and the session is to be told
abbrev pub fallen : SessionRow → SessionRow
fallen row = record row { place = if row.lasting then Lost else closed row.place; lasting = false; asked = None }

-- the transaction's number, where it has one
abbrev pub number_in : Place → Option ℕ
number_in Idle = None
number_in (Active snap own) = own
number_in Lost = None

-- the row's session has a statement or a transaction
abbrev pub is_busy : SessionRow → Bool
is_busy row = is_some row.asked || is_active row.place

abbrev pub is_asking : SessionRow → Bool
is_asking row = is_some row.asked

-- one row is changed
abbrev pub updated : List SessionRow → ℕ → (SessionRow → SessionRow) → List SessionRow
updated rows s f = option_map_or (λ row. slice_set rows s (f row)) (slice_get rows s) rows

-- the places of the rows with a property, ascending
abbrev pub places_from : (SessionRow → Bool) → ℕ → List SessionRow → List ℕ
places_from has at [] = []
places_from has at (row ∷ rows) = (if has row then at ∷ [] else []) ++ places_from has (at + 1) rows
