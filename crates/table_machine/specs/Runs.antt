-- Stated: runs of the table machine, and the run that answers each line before the next.
use Rattle.std.specs.Prelude.{◌≡◌, ◌⊎◌, ℕ, List, [], ◌∷◌, ◌++◌}
use Rattle.sql_database.specs.declared.replies.SqlReply.{SqlReply}
use Rattle.sql_database.specs.declared.replies.SqlReply.TheVariants as reply
use Rattle.table_machine.specs.declared.entries.Entry.{Entry}
use Rattle.table_machine.specs.declared.entries.Entry.TheVariants as entry
use Rattle.sql_database.specs.Database.{Database}
use Rattle.table_machine.specs.Language.{Language}
use Rattle.table_machine.specs.Machine.{Machine, committed, start}
use Rattle.table_machine.specs.Steps.{Step}

-- the entries lead from one state to another, each a step
abbrev pub Leads : Language → Machine → List Entry → Machine → Type 0
Leads language m [] new = new ≡ m
Leads language m (e ∷ es) new = (between : Machine) × Step language m e between × Leads language between es new

-- the entries lead on from the start
abbrev pub IsRun : Language → ℕ → Database → ℕ → List Entry → Type 0
IsRun language nodes base first es = (new : Machine) × Leads language (start nodes base first) es new

-- the entries lead on from the start, and after all commits among them there is this database
abbrev pub MakesDatabase : Language → ℕ → Database → ℕ → List Entry → Database → Type 0
MakesDatabase language nodes base first es d =
    (new : Machine) × Leads language (start nodes base first) es new × (committed new new.count ≡ d)

-- the entry stands exactly where it may
abbrev pub IfMay : Language → Machine → Entry → List Entry → Machine → Type 0
IfMay language m e es new =
    (Step language m e new × (es ≡ e ∷ []))
    ⊎ (((any : Machine) → ¬ Step language m e any) × (es ≡ []) × (new ≡ m))

abbrev pub IsPoolFull : SqlReply → Type 0
IsPoolFull r = (k : ℕ) × (r ≡ reply.PoolFull k)

-- one line of a session: its Submit, then Snap, Exec, Enqueue and Settle where they may stand, then its reply
pub record AnswersLine (language : Language) (s : ℕ) (m : Machine) (line : List ℕ) (es : List Entry) (new : Machine) : Type 0 where
  pub asked : Machine
  pub submits : Step language m (entry.Submit s line) asked
  pub seeing : Machine
  pub snap : List Entry
  pub snaps : IfMay language asked (entry.Snap s) snap seeing
  pub evaluated : Machine
  pub exec : List Entry
  pub execs : IfMay language seeing (entry.Exec s) exec evaluated
  pub waiting : Machine
  pub enqueue : List Entry
  pub enqueues : IfMay language evaluated (entry.Enqueue s) enqueue waiting
  pub made : Machine
  pub settle : List Entry
  pub settles : IfMay language waiting entry.Settle settle made
  pub answer : SqlReply
  pub room : ¬ IsPoolFull answer
  pub replies : Step language made (entry.Reply s answer) new
  pub all : es ≡ entry.Submit s line ∷ (snap ++ (exec ++ (enqueue ++ (settle ++ entry.Reply s answer ∷ []))))

-- the lines of one session, each answered before the next
abbrev pub Serves : Language → ℕ → Machine → List (List ℕ) → List Entry → Machine → Type 0
Serves language s m [] es new = (es ≡ []) × (new ≡ m)
Serves language s m (line ∷ lines) es new =
    (between : Machine) × (front : List Entry) × (rest : List Entry)
    × AnswersLine language s m line front between × Serves language s between lines rest new × (es ≡ front ++ rest)

-- the run of the lines of one session, which joins first
abbrev pub IsSerial : Language → ℕ → Database → ℕ → List ℕ → List (List ℕ) → List Entry → Type 0
IsSerial language nodes base first name lines es =
    (ready : Machine) × (new : Machine) × (rest : List Entry)
    × Step language (start nodes base first) (entry.Join 0 name 0) ready × Serves language 0 ready lines rest new
    × (es ≡ entry.Join 0 name 0 ∷ rest)
