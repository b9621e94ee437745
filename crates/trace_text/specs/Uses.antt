-- Stated: the uses of one statement.
use Rattle.std.specs.Prelude.{Bool, true, false, not, ◌&&◌, ◌==◌, List, [], ◌∷◌, ◌++◌, if◌then◌else◌}
use Rattle.std.specs.List.{list_any}
use Rattle.cluster_model.specs.declared.traces.Answered.{Answered}
use Rattle.cluster_model.specs.declared.traces.Origin.{Origin}
use Rattle.cluster_model.specs.declared.traces.Origin.TheVariants as origin
use Rattle.cluster_model.specs.declared.traces.Use.{Use}

-- whether the statement used the page
abbrev pub is_of : Answered → Use → Bool
is_of a u = u.session == a.session && u.number == a.number

abbrev pub is_same_origin : Origin → Origin → Bool
is_same_origin origin.Local origin.Local = true
is_same_origin origin.Pool origin.Pool = true
is_same_origin origin.Storage origin.Storage = true
is_same_origin _ _ = false

-- whether two uses have the same page, LSN and origin
abbrev pub is_same : Use → Use → Bool
is_same a b = a.page == b.page && (a.lsn == b.lsn && is_same_origin a.origin b.origin)

-- a use of the statement is noted where it is not noted yet
unfoldable pub with_use : Answered → List Use → Use → List Use
with_use answered uses u = if is_of answered u && not (list_any (λ a. is_same a u) uses) then uses ++ u ∷ [] else uses

-- the uses of the statement, noted one by one behind those that were noted
abbrev pub noted : Answered → List Use → List Use → List Use
noted answered before [] = before
noted answered before (u ∷ uses) = noted answered (with_use answered before u) uses
