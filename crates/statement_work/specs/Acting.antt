-- Stated: what a worker is given does to its work, and which acts the work allows.
use Rattle.std.specs.Prelude.{◌≡◌, ℕ, Bool, true, false, IsSome}
use Rattle.redo_record.specs.declared.plans.Plan.{Plan}
use Rattle.sql_database.specs.declared.replies.SqlReply.{SqlReply}
use Rattle.sql_database.specs.declared.replies.SqlReply.TheVariants as reply
use Rattle.question_tree.specs.Questions.{tells, asks, stops, wanted, after}
use Rattle.statement_work.specs.declared.acts.Job.{Job}
use Rattle.statement_work.specs.declared.acts.Obstacle.{Obstacle}
use Rattle.statement_work.specs.declared.acts.Obstacle.TheVariants as obstacle
use Rattle.statement_work.specs.declared.acts.Given.{Given}
use Rattle.statement_work.specs.declared.acts.Given.TheVariants as given
use Rattle.statement_work.specs.declared.acts.Deed.TheVariants as deed
use Rattle.statement_work.specs.declared.acts.Act.{Act}
use Rattle.statement_work.specs.declared.acts.Act.TheVariants as act
use Rattle.statement_work.specs.Terms.{Terms}
use Rattle.statement_work.specs.Works.{Wish, Fetches, FetchesFixed, FetchesSure, claimed, Releases, Runs, Stamps, Appends, Handed, Stamped, Made, Told, Found, Replied, Rested, Again, WorkOf, Work, AskedFor}

-- what may be given: a statement or an undoing at any time, else what the work asks for
abbrev pub Suits : {A F : Type 0} → WorkOf A F → Given → Type 0
Suits w (given.Start job) = Unit {0}
Suits w (given.Undo session) = Unit {0}
Suits w (given.Page page) = AskedFor w (Handed page.now)
Suits w (given.Stamp n) = AskedFor w (Stamped n)
Suits w given.Ran = AskedFor w Made
Suits w (given.Met o) = IsSome (wanted w)

-- ---- obstacles

abbrev pub is_calm : {A : Type 0} → Wish A → Bool
is_calm (Fetches calm q) = calm
is_calm (FetchesFixed calm p) = calm
is_calm (FetchesSure calm c) = calm
is_calm (Releases p) = true
is_calm (Runs calm a) = calm
is_calm Stamps = true
is_calm Appends = true

abbrev pub waits : {A F : Type 0} → Bool → WorkOf A F → ℕ → WorkOf A F
waits true w slots = w
waits false w slots = tells (Replied (reply.PoolFull slots))

-- a full pool ends a statement whose wish is not calm
abbrev pub pool_full : {A F : Type 0} → WorkOf A F → ℕ → WorkOf A F
pool_full (tells a) slots = tells a
pool_full (asks q k) slots = waits (is_calm q) (asks q k) slots
pool_full stops slots = stops

-- any other obstacle leaves the work as it is: the same act is wanted again
abbrev pub met : {A F : Type 0} → WorkOf A F → Obstacle → WorkOf A F
met w (obstacle.Busy holders) = w
met w (obstacle.NotYet lsn) = w
met w (obstacle.Started nodes) = w
met w obstacle.DownPart = w
met w obstacle.Lost = w
met w (obstacle.PoolFull slots) = pool_full w slots

-- ---- the work afterwards

abbrev pub anew_by : {A F : Type 0} → (ℕ → WorkOf A F) → Told F → WorkOf A F
anew_by undoes (Found a) = tells (Found a)
anew_by undoes (Replied r) = tells (Replied r)
anew_by undoes Rested = tells Rested
anew_by undoes (Again session) = undoes session

-- an undoing that begins anew
abbrev pub anew : {A F : Type 0} → (ℕ → WorkOf A F) → WorkOf A F → WorkOf A F
anew undoes (tells a) = anew_by undoes a
anew undoes (asks q k) = asks q k
anew undoes stops = stops

abbrev pub told : (t : Terms) → (Job → Work t) → (ℕ → Work t) → Work t → Given → Work t
told t serves undoes w (given.Start job) = serves job
told t serves undoes w (given.Undo session) = undoes session
told t serves undoes w (given.Page page) = anew undoes (after w (Handed page.now))
told t serves undoes w (given.Stamp n) = anew undoes (after w (Stamped n))
told t serves undoes w given.Ran = anew undoes (after w Made)
told t serves undoes w (given.Met o) = met w o

-- ---- the act

-- what may be done at the end
abbrev pub Tells : (t : Terms) → Told t.Finding → Act → Type 0
Tells t (Found a) x = (r : SqlReply) × (x ≡ act.Reply r) × t.Replies a r
Tells t (Replied r) x = x ≡ act.Reply r
Tells t Rested x = x ≡ act.Rest
Tells t (Again session) x = ⊥

-- what may be done for a wish
abbrev pub Grants : (t : Terms) → Wish t.Aim → Act → Type 0
Grants t (Fetches calm q) x = x ≡ act.Do (deed.Fetch q)
Grants t (FetchesFixed calm p) x = x ≡ act.Do (deed.FetchFixed p)
Grants t (FetchesSure calm c) x = x ≡ act.Do (deed.FetchSure (claimed c))
Grants t (Releases p) x = x ≡ act.Do (deed.Release p)
Grants t (Runs calm a) x = (plan : Plan) × (x ≡ act.Do (deed.Run plan)) × t.Serves a plan
Grants t Stamps x = x ≡ act.Do deed.Stamp
Grants t Appends x = x ≡ act.Do deed.Append

-- an act is one that the work allows; one that has stopped allows none
abbrev pub Does : (t : Terms) → Work t → Act → Type 0
Does t (tells a) x = Tells t a x
Does t (asks q k) x = Grants t q x
Does t stops x = ⊥

-- this work is left: where an act is wanted still, it is the one before
abbrev pub Goes : {A F : Type 0} → WorkOf A F → WorkOf A F → Type 0
Goes w new = IsSome (wanted w) → new ≡ w
