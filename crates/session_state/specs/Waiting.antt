-- Stated: the commits that wait, and the sessions whose changes are still to be undone.
use Rattle.std.specs.Prelude.{ℕ, Bool, false, ◌&&◌, not, nat_eq, nat_lt, is_some, if◌then◌else◌, List, [], ◌∷◌, ◌++◌, length, map, slice_get, None}
use Rattle.std.specs.Option.{option_map_or}
use Rattle.session_state.specs.declared.places.Place.{Place}
use Rattle.session_state.specs.declared.places.SessionRow.{SessionRow}
use Rattle.session_state.specs.declared.places.SessionTable.{SessionTable}
use Rattle.session_state.specs.declared.queue.Queued.{Queued}
use Rattle.session_state.specs.Rows.{is_active, number_in, updated}

abbrev pub is_of : ℕ → Queued → Bool
is_of s item = option_map_or (λ owner. nat_eq owner s) item.owner false

-- the session does not wait for the commit
abbrev pub disowned_item : ℕ → Queued → Queued
disowned_item s item = if is_of s item then record item { owner = None } else item

abbrev pub disowned : ℕ → List Queued → List Queued
disowned s items = map (disowned_item s) items

-- a transaction with a number ends without a commit, so its changes are to be undone
abbrev pub leaves_changes : Place → Place → Bool
leaves_changes before after = is_some (number_in before) && not (is_active after)

-- a list of sessions, with the session at its end where it is to be undone; there is room for all sessions
abbrev pub with_undoing : Bool → ℕ → List ℕ → List ℕ
with_undoing left s ss = if left && nat_lt (length ss) 64 then ss ++ s ∷ [] else ss

-- the session's row moves, and its changes are to be undone where its transaction ends so
abbrev pub moved : SessionTable → ℕ → (SessionRow → SessionRow) → SessionTable
moved table s f = record table {
  sessions = updated table.sessions s f;
  undoing = with_undoing (option_map_or (λ row. leaves_changes row.place (f row).place) (slice_get table.sessions s) false) s table.undoing;
}
