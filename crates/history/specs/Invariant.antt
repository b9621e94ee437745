-- For the proofs: what holds after every event, of each session and of the whole cluster.
use Rattle.std.specs.Prelude.{◌≡◌, ◌≢◌, ◌⊎◌, ℕ, suc, ◌<◌, ◌≤◌, true, false, Some, None, Ok, List, [], ◌∷◌, ◌++◌, is_some, option_map}
use Rattle.sql_statements.specs.declared.statements.Stmt.{Stmt}
use Rattle.sql_database.specs.Answers.{Answer}
use Rattle.sql_database.specs.Database.{Database}
use Rattle.table_machine.specs.Language.{Language}
use Rattle.table_machine.specs.Machine.{Session, Transaction, due_of, last, pending_of}
use Rattle.version_store.specs.Contents.{Content, catalog_name, chain_of, content}
use Rattle.version_store.specs.Held.{none_of}
use Rattle.version_store.specs.Stores.{Store, catalog}
use Rattle.version_store.specs.Versions.{Version}
use Rattle.history.specs.Clusters.{Cluster, Open, Work, evaluated_by, is_taken, now, own_of}
use Rattle.history.specs.Databases.{StandsFor}
use Rattle.history.specs.Machines.{IsFair}
use Rattle.history.specs.Places.{is_said, says}
use Rattle.history.specs.Sound.{Own, Sound}
use Rattle.history.specs.Timelines.{Timeline, timeline_of}

-- what a session's reading and test say now is what was recorded
pub record Judged (language : Language) (S : Store) (s : ℕ) (W : Work) (x : Session) : Type 0 where
  pub transaction : Transaction
  pub database : Database
  pub answer : Answer
  pub statement : Stmt
  pub has : x.transaction ≡ Some transaction
  pub asks : option_map (λ b. b.read) x.statement ≡ Some (Ok statement)
  pub reading : StandsFor (content S transaction.snap (own_of W.ending (S.slot s))) database
  pub answers : language.answers database statement answer
  pub todo : W.todo ≡
      (evaluated_by (is_taken S transaction.snap (own_of W.ending (S.slot s))) database answer).changes
  pub due : due_of x ≡ Some
      (evaluated_by (is_taken S transaction.snap (own_of W.ending (S.slot s))) database answer).reply

-- of a session s with the work W and the place x in the machine: its slot and versions in the store S
pub record KeepsSession (language : Language) (S : Store) (s : ℕ) (W : Work) (x : Session) : Type 0 where
  pub holds : (t : ℕ) → S.slot s ≡ Some t → W.ending ≡ false → (a k : List ℕ)
      → Own t (says W.installed a k) (chain_of S a k)
  pub none : S.slot s ≡ None → W.installed ≡ []
  pub gone : W.ending ≡ true → W.installed ≡ []
  pub pend : pending_of x ≡ W.installed ++ W.todo
  pub names : (a : List ℕ) → is_said (says W.todo catalog_name a) ≡ true → S.rows catalog a ≡ []
  pub judged : W.job ≡ true → Judged language S s W x

-- a stamp that was 0 stays or becomes one past the last; others stay
abbrev pub StampsLater : Store → Store → ℕ → Type 0
StampsLater S R t = (R.stamp t ≡ S.stamp t) ⊎ ((S.stamp t ≡ 0) × (S.last < R.stamp t))

-- the row of a table that is committed is for ever the catalog's only one under the name
abbrev pub KeepsTables : Store → Store → Type 0
KeepsTables S R =
    (a : List ℕ) (v : Version) → S.rows catalog a ≡ v ∷ [] → (S.stamp v.trx ≡ 0 → ⊥) → R.rows catalog a ≡ v ∷ []

abbrev pub line : Content → Cluster → Timeline
line was c = timeline_of was c.machine.first c.machine.changes

pub record Refines (language : Language) (was : Content) (c : Cluster) : Type 0 where
  pub fair : IsFair was c.machine
  pub order : c.durable ≤ c.lsn
  -- of the stores of the log, each by itself and beside the later ones
  pub sound : (j : ℕ) → j ≤ c.lsn → Sound (line was c) (c.at j)
  pub rises : (i j : ℕ) → i ≤ j → j ≤ c.lsn → (c.at i).last ≤ (c.at j).last
  pub single : (j : ℕ) → j < c.lsn → (c.at (suc j)).last ≤ suc (c.at j).last
  pub later : (i j t : ℕ) → i ≤ j → j ≤ c.lsn → StampsLater (c.at i) (c.at j) t
  pub lasts : (i j : ℕ) → i ≤ j → j ≤ c.lsn → KeepsTables (c.at i) (c.at j)
  -- of the log and the machine's numbers
  pub begun_at : (c.at 0).last ≡ c.machine.first
  pub below : (now c).last ≤ last c.machine
  pub kept : c.machine.count ≤ (c.at c.durable).last
  pub is_open : c.mode ≡ Open → (is_some c.machine.writer ≡ true) × ((now c).last ≡ last c.machine)
  pub closed : c.mode ≢ Open
      → (c.machine.writer ≡ None)
      × ((s : ℕ) → ((c.work s).ending ≡ true) × ((c.work s).todo ≡ []) × ((c.work s).job ≡ false))
  -- of the sessions
  pub clear : (s u t : ℕ) (a k : List ℕ) → u ≢ s → (now c).slot u ≡ Some t
      → is_said (says (c.work s).todo a k) ≡ true → none_of t (chain_of (now c) a k) ≡ true
  pub each : (s : ℕ) → KeepsSession language (now c) s (c.work s) (c.machine.sessions s)
