-- Stated: work that takes no page for more than it is.
use Rattle.question_tree.specs.Questions.{tells, asks, stops}
use Rattle.statement_work.specs.Works.{Fetches, FetchesFixed, FetchesSure, Releases, Runs, Stamps, Appends, Input, WorkOf}

abbrev pub ClaimsNothing : {A F : Type 0} → WorkOf A F → Type 0
ClaimsNothing (tells a) = Unit {0}
ClaimsNothing (asks (Fetches calm q) k) = (x : Input) → ClaimsNothing (k x)
ClaimsNothing (asks (FetchesFixed calm p) k) = (x : Input) → ClaimsNothing (k x)
ClaimsNothing (asks (FetchesSure calm c) k) = ⊥
ClaimsNothing (asks (Releases p) k) = (x : Input) → ClaimsNothing (k x)
ClaimsNothing (asks (Runs calm a) k) = (x : Input) → ClaimsNothing (k x)
ClaimsNothing (asks Stamps k) = (x : Input) → ClaimsNothing (k x)
ClaimsNothing (asks Appends k) = (x : Input) → ClaimsNothing (k x)
ClaimsNothing stops = Unit {0}
