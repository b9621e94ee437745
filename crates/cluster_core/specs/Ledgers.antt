-- Stated: what a cluster keeps of its sessions, and what each thing that happens to one makes of it.
use Rattle.std.specs.Prelude.{◌≡◌, ◌≢◌, ◌+◌, ◌<◌, ◌^◌, ◌-◌, ℕ, Bool, true, false, List, [], ◌∷◌, ◌++◌, length, nat_le, if◌then◌else◌, slice_get, Option, Some, None, MatchOption}
use Rattle.std.specs.Option.{option_map_or}
use Rattle.cluster_model.specs.declared.traces.Answered.{Answered}
use Rattle.cluster_model.specs.declared.traces.Origin.{Origin}
use Rattle.cluster_model.specs.declared.traces.Use.{Use}
use Rattle.sql_database.specs.declared.replies.SqlReply.{SqlReply}
use Rattle.table_machine.specs.declared.entries.Entry.{Entry}
use Rattle.table_machine.specs.declared.entries.Entry.TheVariants as entry
use Rattle.session_state.specs.declared.classes.StatementClass.{StatementClass}
use Rattle.session_state.specs.declared.places.Place.{Place}
use Rattle.session_state.specs.declared.places.Place.TheVariants.{Lost}
use Rattle.session_state.specs.declared.places.SessionRow.{SessionRow}
use Rattle.session_state.specs.declared.queue.Queued.{Queued}
use Rattle.session_state.specs.Rows as row
use Rattle.session_state.specs.Rows.{idle_on, updated}
use Rattle.session_state.specs.Waiting.{leaves_changes, with_undoing}
use Rattle.cluster_core.specs.declared.ledger.Ledger.{Ledger}

-- the sessions by their numbers, those whose changes are to be undone, the commits that wait, the journal, what was used and
-- answered, how many commits are published, and how many statements were handed in
pub record Account : Type 0 where
  pub sessions : List SessionRow
  pub undoing : List ℕ
  pub queue : List Queued
  pub entries : List Entry
  pub uses : List Use
  pub answered : List Answered
  pub published : ℕ
  pub submitted : ℕ

abbrev pub account_of : Ledger → Account
account_of l = record {
  sessions = l.sessions.sessions;
  undoing = l.sessions.undoing;
  queue = l.sessions.queue.items;
  entries = l.journal.items;
  uses = l.trace.uses;
  answered = l.trace.answered;
  published = l.published;
  submitted = l.submitted;
}

-- an account of no session yet, with so many commits
abbrev pub IsStarted : ℕ → Account → Type 0
IsStarted published a =
    a ≡ record { sessions = []; undoing = []; queue = []; entries = []; uses = []; answered = []; published = published; submitted = 0 }

-- another commit can be counted
abbrev pub HasRoom : Account → Type 0
HasRoom a = a.published + length a.queue < 2 ^ 64 - 1

-- the commits are counted
abbrev pub IsCounted : Account → Type 0
IsCounted a = a.published + length a.queue < 2 ^ 64

-- a session that has no statement, lost no transaction and can count another statement
abbrev pub CanAsk : SessionRow → Type 0
CanAsk r = (r.asked ≡ None) × (r.place ≢ Lost) × (r.count < 2 ^ 32 - 1)

abbrev pub MaySubmit : Account → ℕ → Type 0
MaySubmit a s = MatchOption (slice_get a.sessions s) ⊥ (λ r. (a.submitted < 2 ^ 64 - 1) × CanAsk r)

-- ---- what happens

-- one entry more
abbrev pub noted : Entry → Account → Account
noted e a = record a { entries = a.entries ++ e ∷ [] }

-- one row changes
abbrev pub with_row : ℕ → (SessionRow → SessionRow) → Account → Account
with_row s f a = record a { sessions = updated a.sessions s f }

-- one row changes, and its session's changes are to be undone where its transaction ends without a commit
abbrev pub moved_row : ℕ → (SessionRow → SessionRow) → Account → Account
moved_row s f a = record a {
  sessions = updated a.sessions s f;
  undoing = with_undoing (option_map_or (λ r. leaves_changes r.place (f r).place) (slice_get a.sessions s) false) s a.undoing;
}

abbrev pub joined : List ℕ → ℕ → Account → Account
joined name n a = noted (entry.Join (length a.sessions) name n) (record a { sessions = a.sessions ++ idle_on n ∷ [] })

abbrev pub submitted : ℕ → List ℕ → StatementClass → Account → Account
submitted s text class a =
    noted (entry.Submit s text) (record (with_row s (row.submitted text class a.submitted (length a.uses)) a) { submitted = a.submitted + 1 })

abbrev pub executed : ℕ → Account → Account
executed s a = noted (entry.Exec s) a

abbrev pub snapped : ℕ → ℕ → Account → Account
snapped s stamp a = noted (entry.Snap s) (with_row s (row.snapped stamp) a)

abbrev pub numbered : ℕ → ℕ → Account → Account
numbered s trx a = with_row s (row.numbered trx) a

-- a commit gets the next stamp, and waits
abbrev pub next_stamp : Account → ℕ
next_stamp a = a.published + length a.queue + 1

abbrev pub queued : ℕ → ℕ → Account → Account
queued s end a = noted (entry.Enqueue s) (record (with_row s row.enqueued a) {
  queue = a.queue ++ (record { owner = Some s; stamp = next_stamp a; end = end }) ∷ [];
})

-- the number of the session's statement
abbrev pub number_in : SessionRow → ℕ
number_in r = option_map_or (λ q. q.number) r.asked 0

abbrev pub number_asked : List SessionRow → ℕ → ℕ
number_asked rows s = option_map_or number_in (slice_get rows s) 0

abbrev pub used : ℕ → ℕ → ℕ → Origin → Account → Account
used s page lsn origin a = record a {
  uses = a.uses ++ (record { session = s; number = number_asked a.sessions s; page = page; lsn = lsn; origin = origin }) ∷ [];
}

abbrev pub replied : ℕ → SqlReply → Account → Account
replied s r a = noted (entry.Reply s r) (record (moved_row s (row.replied r) a) {
  answered = a.answered ++ (record { session = s; number = number_asked a.sessions s }) ∷ [];
})

abbrev pub behind : {A : Type 0} → List A → List A
behind [] = []
behind (x ∷ xs) = xs

-- the first session's changes are undone
abbrev pub rested : Account → Account
rested a = record a { undoing = behind a.undoing }

-- the first commit settles
abbrev pub settles : Account → Account
settles a = noted entry.Settle (record a { queue = behind a.queue; published = a.published + 1 })

-- whether the first group ends at the offset or before it
abbrev pub is_kept : ℕ → List Queued → Bool
is_kept tail [] = false
is_kept tail (item ∷ items) = nat_le item.end tail

-- the commits whose groups end at the offset or before it settle, in their order
unfoldable pub settled_of : ℕ → List Queued → Account → Account
settled_of tail [] a = a
settled_of tail (item ∷ items) a = if nat_le item.end tail then settled_of tail items (settles a) else a

unfoldable pub settled : ℕ → Account → Account
settled tail a = settled_of tail a.queue a
