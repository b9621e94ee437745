-- For the small run: sessions 0, 1 and 2 beside those that never join, and what is answered.
use Rattle.std.proofs.Common.{◌≡◌, ℕ, zero, suc, ◌≤◌, ◌<◌, Bool, true, false, None, [], ◌∷◌, if◌then◌else◌, nat_eq, codes, arith, refl, ap}
use Rattle.sql_values.specs.declared.values.Value.TheVariants.{Text}
use Rattle.sql_database.specs.Answers.{Answer, rows, wants}
use Rattle.sql_database.specs.Catalog.{creation}
use Rattle.sql_database.specs.declared.changes.Change.{Change}
use Rattle.table_machine.specs.Conflicts.{Evaluated}
use Rattle.table_machine.specs.Machine.{Machine, NoneForced, Session, Transaction, is_stopped}
use Rattle.table_machine.specs.Moves.{snapshot}
use Rattle.version_store.specs.Stores.{put}
use Rattle.history.specs.Clusters.{Cluster, Work, ended, is_lost, works}
use Rattle.history.specs.Events.{LeavesJobs, NoJob}
use Rattle.history.specs.SmallLanguage.{placing, schema}
use Rattle.sql_database.specs.declared.replies.SqlReply.TheVariants as reply

-- ---- sessions 0, 1 and 2, and those that never join

pub by_session : (Q : ℕ → Type 0) → Q 0 → Q 1 → Q 2 → ((u : ℕ) → 3 ≤ u → Q u) → (u : ℕ) → Q u
by_session Q a b c more zero = a
by_session Q a b c more (suc zero) = b
by_session Q a b c more (suc (suc zero)) = c
by_session Q a b c more (suc (suc (suc u))) = more (suc (suc (suc u))) (omega arith)

pub none_forced : (m : Machine) → m.joined ≤ 3
    → is_stopped (m.sessions 0) ≡ false → is_stopped (m.sessions 1) ≡ false → is_stopped (m.sessions 2) ≡ false
    → NoneForced m
none_forced m j a b c = by_session (λ t. t < m.joined → is_stopped (m.sessions t) ≡ false)
    (λ l. a) (λ l. b) (λ l. c) (λ u h l. absurd (omega (arith, j, h, l)))

-- a function that is the same past session 2
pub past_put : {A : Type 0} (f : ℕ → A) (s : ℕ) (v o : A) → s < 3 → ((u : ℕ) → 3 ≤ u → f u ≡ o) → (u : ℕ) → 3 ≤ u
    → put f s v u ≡ o
past_put {A} f s v o l h u k = by_test (nat_eq u s) refl
  where
    by_test : (b : Bool) → nat_eq u s ≡ b → (if b then v else f u) ≡ o
    by_test true e = absurd (grind (arith, l, k))
    by_test false e = h u k

pub past_works : (old new : ℕ → Session) (w : ℕ → Work) → ((u : ℕ) → 3 ≤ u → w u ≡ ended) → (u : ℕ) → 3 ≤ u
    → works old new w u ≡ ended
past_works old new w h u k = by_test (is_lost (old u) (new u))
  where
    by_test : (b : Bool) → (if b then ended else w u) ≡ ended
    by_test true = refl
    by_test false = h u k

pub rested : (c : Cluster) → (c.work 0).job ≡ false → (c.work 1).job ≡ false → (c.work 2).job ≡ false
    → ((u : ℕ) → 3 ≤ u → c.work u ≡ ended) → NoJob c
rested c a b d h = by_session (λ u. (c.work u).job ≡ false) a b d (λ u k. ap (λ w. Work.job w) (h u k))

pub nothing_left : (c : Cluster) → (c.work 0).todo ≡ [] → (c.work 1).todo ≡ [] → (c.work 2).todo ≡ []
    → ((u : ℕ) → 3 ≤ u → c.work u ≡ ended) → (u : ℕ) → (c.work u).todo ≡ []
nothing_left c a b d h = by_session (λ u. (c.work u).todo ≡ []) a b d (λ u k. ap (λ w. Work.todo w) (h u k))

pub leaves : (c : Cluster) (m : Machine) → NoJob c → LeavesJobs c m
leaves c m h u j = let z = h u in absurd (grind arith)

-- the session table alone goes on
abbrev pub plain : Cluster → Machine → Cluster
plain c m = record c { machine = m; work = works c.machine.sessions m.sessions c.work }

-- ---- what is answered

abbrev pub made : Change
made = creation schema

abbrev pub put_a : Change
put_a = placing (codes "t") schema (Text (codes "a") ∷ [])

abbrev pub put_b : Change
put_b = placing (codes "t") schema (Text (codes "b") ∷ [])

abbrev pub a1 : Answer
a1 = wants (made ∷ []) 0 None

abbrev pub ev1 : Evaluated
ev1 = record { reply = reply.Ok 0; changes = made ∷ [] }

abbrev pub a2 : Answer
a2 = wants (put_b ∷ []) 1 None

abbrev pub ev2 : Evaluated
ev2 = record { reply = reply.Ok 1; changes = put_b ∷ [] }

abbrev pub a3 : Answer
a3 = wants (put_a ∷ []) 1 None

abbrev pub ev3 : Evaluated
ev3 = record { reply = reply.Ok 1; changes = put_a ∷ [] }

abbrev pub t1 : Transaction
t1 = snapshot 0

abbrev pub t1x : Transaction
t1x = record { snap = 0; pending = made ∷ []; lasting = false }

abbrev pub t2 : Transaction
t2 = snapshot 1

abbrev pub t2x : Transaction
t2x = record { snap = 1; pending = put_b ∷ []; lasting = false }

abbrev pub t3 : Transaction
t3 = snapshot 1

abbrev pub t3x : Transaction
t3x = record { snap = 1; pending = put_a ∷ []; lasting = false }

abbrev pub found_rows : Answer
found_rows = rows ((Text (codes "a") ∷ []) ∷ [])
