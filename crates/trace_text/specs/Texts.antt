-- Stated: the text of a trace.
use Rattle.std.specs.Prelude.{◌<◌, ℕ, List, [], ◌∷◌, ◌++◌, codes, decimal, length, flat_map, slice_index_or}
use Rattle.cluster_model.specs.declared.traces.Answered.{Answered}
use Rattle.cluster_model.specs.declared.traces.Origin.{Origin}
use Rattle.cluster_model.specs.declared.traces.Origin.TheVariants as origin
use Rattle.cluster_model.specs.declared.traces.Trace.{Trace}
use Rattle.cluster_model.specs.declared.traces.Use.{Use}
use Rattle.trace_text.specs.Uses.{noted}

abbrev pub word_of : Origin → List ℕ
word_of origin.Local = codes "local"
word_of origin.Pool = codes "pool"
word_of origin.Storage = codes "storage"

-- `trace a 2`
abbrev pub statement_words : List (List ℕ) → Answered → List ℕ
statement_words names a = codes "trace " ++ (slice_index_or names a.session [] ++ (codes " " ++ decimal a.number))

-- ` page 1028 lsn 6 pool`
abbrev pub page_words : Use → List ℕ
page_words u = (codes " page " ++ decimal u.page) ++ ((codes " lsn " ++ decimal u.lsn) ++ (codes " " ++ word_of u.origin))

abbrev pub line : List (List ℕ) → Answered → Use → List ℕ
line names a u = statement_words names a ++ (page_words u ++ 10 ∷ [])

-- a line for each page that the statement used, once for each LSN and origin
abbrev pub statement_text : List (List ℕ) → Trace → Answered → List ℕ
statement_text names trace a = flat_map (line names a) (noted a [] trace.uses)

-- the statements in the order of their replies
abbrev pub trace_text : List (List ℕ) → Trace → List ℕ
trace_text names trace = flat_map (statement_text names trace) trace.answered

-- where the text has lines of the statement, there is a name for its session
abbrev pub HasName : List (List ℕ) → Trace → Answered → Type 0
HasName names trace a = 0 < length (noted a [] trace.uses) → a.session < length names
