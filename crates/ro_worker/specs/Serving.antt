-- Stated: what a statement asks for on a node that only reads.
use Rattle.std.specs.Prelude.{◌≡◌, ℕ, Bool, true, false, List, [], ◌∷◌, Option, Some, None}
use Rattle.page_image.specs.Image.{Image}
use Rattle.sql_statements.specs.declared.statements.Stmt.{Stmt}
use Rattle.sql_database.specs.declared.replies.SqlReply.{SqlReply}
use Rattle.sql_database.specs.declared.replies.SqlReply.TheVariants as reply
use Rattle.question_tree.specs.Questions.{Ask, tells, asks, stops}
use Rattle.range_reader.specs.declared.fetch.Fetch.{Fetch}
use Rattle.range_reader.specs.declared.fetch.Snapshot.{Snapshot}
use Rattle.range_reader.specs.Finding.{page_of}
use Rattle.statement_reader.specs.declared.asking.Read.{Read}
use Rattle.statement_reader.specs.Question.{Reading}
use Rattle.statement_reader.specs.Reads as statement
use Rattle.statement_reader.specs.Reads.{IsReadOver}
use Rattle.statement_work.specs.declared.acts.Job.{Job}
use Rattle.statement_work.specs.Works as works
use Rattle.statement_work.specs.Works.{Work, Fetches, Releases, Stamps, Input, Replied, Rested, image_in, stamp_in, uses}
use Rattle.statement_work.specs.Latches.{is_child}
use Rattle.ro_worker.specs.declared.kinds.StatementKind.{StatementKind}
use Rattle.ro_worker.specs.declared.kinds.StatementKind.TheVariants as kind
use Rattle.ro_worker.specs.Kinds.{kind_of}
use Rattle.ro_worker.specs.Wishes.{reads_only}

abbrev pub ReadWork : Type 0
ReadWork = Work reads_only

-- ---- latches

-- what is held is released first
abbrev pub freed : Option ℕ → ReadWork → ReadWork
freed None w = w
freed (Some p) w = asks (Releases p) (λ x. w)

abbrev pub fetched : Bool → Option ℕ → Fetch → (Image → ReadWork) → ReadWork
fetched true held q n = asks (Fetches false q) (λ x. freed held (n (image_in x)))
fetched false held q n = freed held (asks (Fetches false q) (λ x. n (image_in x)))

-- A child is fetched while the page above it is held, which is released then. Every other page is fetched
-- while nothing is held, and nothing is held at the end.
unfoldable pub latched : Option ℕ → Reading Read → ReadWork
latched held (tells a) = freed held (tells (works.Found a))
latched held (asks q k) = fetched (is_child q) held q (λ im. latched (Some (page_of q)) (k im))
latched held stops = freed held stops

-- ---- statements

-- what follows the stamp of a snapshot, which is taken first where there is none
abbrev pub at_stamp : Option ℕ → (ℕ → ReadWork) → ReadWork
at_stamp (Some n) k = k n
at_stamp None k = asks Stamps (λ x. k (stamp_in x))

-- a SELECT reads what it needs at its snapshot
abbrev pub reads : Stmt → Option ℕ → ℕ → ReadWork
reads st own n = latched None (statement.reads (record { stamp = n; own = own }) st)

abbrev pub begun : ℕ → ReadWork
begun n = tells (Replied (reply.Ok 0))

-- BEGIN takes a snapshot, unless the session is in a transaction
abbrev pub begins : Bool → Option ℕ → ReadWork
begins true snapshot = tells (Replied reply.InTransaction)
begins false snapshot = at_stamp snapshot begun

-- what is replied to COMMIT and ROLLBACK
abbrev pub ended : Bool → SqlReply
ended true = reply.Ok 0
ended false = reply.NoTransaction

abbrev pub serves_by : StatementKind → Job → ReadWork
serves_by kind.Write job = tells (Replied reply.ReadOnly)
serves_by kind.Select job = at_stamp job.snapshot (reads job.statement job.trx)
serves_by kind.Begin job = begins job.lasting job.snapshot
serves_by kind.End job = tells (Replied (ended job.lasting))

abbrev pub ro_serves : Job → ReadWork
ro_serves job = serves_by (kind_of job.statement) job

-- nothing is ever to be undone
abbrev pub ro_undoes : ℕ → ReadWork
ro_undoes session = tells Rested

-- ---- what a statement finds

-- the stamp of a snapshot that was there, or was taken first
abbrev pub stamp_for : Option ℕ → List Input → ℕ
stamp_for (Some n) xs = n
stamp_for None [] = 0
stamp_for None (x ∷ xs) = stamp_in x

abbrev pub snapshot_for : Job → List Input → Snapshot
snapshot_for job xs = record { stamp = stamp_for job.snapshot xs; own = job.trx }

-- what it read is found at its snapshot, over just the images that were handed in
abbrev pub ro_finds : Job → List Input → Read → Type 0
ro_finds job xs a = IsReadOver (snapshot_for job xs) job.statement (uses xs) a
