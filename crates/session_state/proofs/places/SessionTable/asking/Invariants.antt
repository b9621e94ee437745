use Rattle.std.proofs.Common.{ℕ, Bool, List, ◌≡◌, ◌≤◌, ◌++◌, length, drop}
use Rattle.session_state.specs.declared.places.SessionRow.{SessionRow}
use Rattle.session_state.specs.Rows.{is_asking, places_from}
use Rattle.session_state.proofs.places.SessionTable.asking.Given as goal

pub record Found (found : List ℕ) (at : ℕ) (has : SessionRow → Bool) (rows : List SessionRow) : Type 0 where
  pub rest : found ++ places_from has at (drop at rows) ≡ places_from has 0 rows
  pub few : length found ≤ at

abbrev pub invariant-loop-at : goal.invariant-loop-at
invariant-loop-at l = Found l.found l.at is_asking l.row-items
