-- The small run until the table is made: its states, and that each event happens.
use Rattle.std.proofs.Common.{◌≡◌, ◌≢◌, ℕ, ◌≤◌, ◌<◌, false, Some, None, List, [], ◌∷◌, Ok, codes, arith, inr, refl, sym, ap, ◌∙◌}
use Rattle.sql_database.specs.Database.{empty}
use Rattle.sql_database.specs.declared.changes.Change.{Change}
use Rattle.table_machine.specs.declared.entries.Entry.{Entry}
use Rattle.table_machine.specs.Machine.{Machine, Transaction, after_commits, view}
use Rattle.table_machine.specs.Moves.{answered, enqueued, joined, settles, snapped, submitted}
use Rattle.table_machine.specs.Replies.{done}
use Rattle.version_store.specs.Contents.{catalog_name}
use Rattle.version_store.specs.Stores.{Store, begun, blank, created, put, split, stamped}
use Rattle.history.specs.Clusters.{Cluster, Work, ended, grown, now, reads, start}
use Rattle.history.specs.Databases.{StandsFor}
use Rattle.history.specs.Events.{AllHappen, Event, Happens, appends, begins, commits, creates, installs, judges, settle, table, taken_up, takes_up, verdict}
use Rattle.history.specs.Invariant.{Refines}
use Rattle.history.specs.SmallLanguage.{create, small}
use Rattle.history.proofs.AnswerLaws.{content_fits}
use Rattle.history.proofs.Blank.{blank_boots, nothing}
use Rattle.history.proofs.Happening.{story}
use Rattle.history.proofs.Outcomes.{start_good}
use Rattle.history.proofs.SmallRules.{keeps_name, small_rules}
use Rattle.history.proofs.Views.{reads_view}
use Rattle.sql_database.specs.declared.replies.SqlReply.TheVariants as reply
use Rattle.table_machine.specs.declared.entries.Entry.TheVariants as entry
use Rattle.history.proofs.SmallSessions.{by_session, none_forced, past_put, past_works, rested, nothing_left, leaves, plain, made, a1, ev1, t1, t1x}

-- ---- the states, and that each event happens

abbrev pub c0 : Cluster
c0 = start 2 empty 0 blank

pub past0 : (u : ℕ) → 3 ≤ u → c0.work u ≡ ended
past0 u k = refl

pub slots0 : (u : ℕ) → 3 ≤ u → (now c0).slot u ≡ None
slots0 u k = refl

abbrev pub m1 : Machine
m1 = joined c0.machine 0 0

abbrev pub c1 : Cluster
c1 = plain c0 m1

pub past1 : (u : ℕ) → 3 ≤ u → c1.work u ≡ ended
past1 = past_works c0.machine.sessions m1.sessions c0.work past0

pub slots1 : (u : ℕ) → 3 ≤ u → (now c1).slot u ≡ None
slots1 = slots0

pub does1 : Happens small (table (entry.Join 0 (codes "x") 0)) c0 c1
does1 = (
  m1,
  tt,
  (none_forced c0.machine (let z : c0.machine.joined ≤ 3 = omega arith in z) refl refl refl, refl, refl),
  leaves c0 m1 (rested c0 refl refl refl past0),
  refl,
)

abbrev pub m2 : Machine
m2 = joined c1.machine 1 0

abbrev pub c2 : Cluster
c2 = plain c1 m2

pub past2 : (u : ℕ) → 3 ≤ u → c2.work u ≡ ended
past2 = past_works c1.machine.sessions m2.sessions c1.work past1

pub slots2 : (u : ℕ) → 3 ≤ u → (now c2).slot u ≡ None
slots2 = slots1

pub does2 : Happens small (table (entry.Join 1 (codes "y") 0)) c1 c2
does2 = (
  m2,
  tt,
  (none_forced c1.machine (let z : c1.machine.joined ≤ 3 = omega arith in z) refl refl refl, refl, refl),
  leaves c1 m2 (rested c1 refl refl refl past1),
  refl,
)

abbrev pub m3 : Machine
m3 = joined c2.machine 2 1

abbrev pub c3 : Cluster
c3 = plain c2 m3

pub past3 : (u : ℕ) → 3 ≤ u → c3.work u ≡ ended
past3 = past_works c2.machine.sessions m3.sessions c2.work past2

pub slots3 : (u : ℕ) → 3 ≤ u → (now c3).slot u ≡ None
slots3 = slots2

pub does3 : Happens small (table (entry.Join 2 (codes "z") 1)) c2 c3
does3 = (
  m3,
  tt,
  (none_forced c2.machine (let z : c2.machine.joined ≤ 3 = omega arith in z) refl refl refl, refl, refl),
  leaves c2 m3 (rested c2 refl refl refl past2),
  refl,
)

abbrev pub m4 : Machine
m4 = submitted c3.machine 0 (Ok create)

abbrev pub c4 : Cluster
c4 = plain c3 m4

pub past4 : (u : ℕ) → 3 ≤ u → c4.work u ≡ ended
past4 = past_works c3.machine.sessions m4.sessions c3.work past3

pub slots4 : (u : ℕ) → 3 ≤ u → (now c4).slot u ≡ None
slots4 = slots3

pub does4 : Happens small (table (entry.Submit 0 (codes "create"))) c3 c4
does4 = (
  m4,
  tt,
  (
    Ok create,
    none_forced c3.machine (let z : c3.machine.joined ≤ 3 = omega arith in z) refl refl refl,
    (let z : 0 < 3 = omega arith in z),
    refl,
    refl,
    refl,
  ),
  leaves c3 m4 (rested c3 refl refl refl past3),
  refl,
)

abbrev pub m5 : Machine
m5 = snapped c4.machine 0

abbrev pub c5 : Cluster
c5 = plain c4 m5

pub past5 : (u : ℕ) → 3 ≤ u → c5.work u ≡ ended
past5 = past_works c4.machine.sessions m5.sessions c4.work past4

pub slots5 : (u : ℕ) → 3 ≤ u → (now c5).slot u ≡ None
slots5 = slots4

pub does5 : Happens small (table (entry.Snap 0)) c4 c5
does5 = (
  m5,
  tt,
  (
    none_forced c4.machine (let z : c4.machine.joined ≤ 3 = omega arith in z) refl refl refl,
    record { statement = create; runs = refl; stays = refl; free = refl; writer = refl },
    refl,
  ),
  leaves c4 m5 (rested c4 refl refl refl past4),
  refl,
)

-- the events from 1 to 5
abbrev pub events1 : List Event
events1 = table (entry.Join 0 (codes "x") 0) ∷
    (table (entry.Join 1 (codes "y") 0) ∷
    (table (entry.Join 2 (codes "z") 1) ∷
    (table (entry.Submit 0 (codes "create")) ∷ (table (entry.Snap 0) ∷ []))))

pub part1 : (journal : List Entry) × AllHappen small c0 events1 journal c5
part1 = (
  _,
  (
    c1,
    _,
    does1,
    refl,
    (c2, _, does2, refl, (c3, _, does3, refl, (c4, _, does4, refl, (c5, _, does5, refl, (refl, refl))))),
  ),
)

pub good5 : Refines small nothing c5
good5 = (story small keeps_name small_rules.by_content (content_fits small_rules) nothing events1 c0 (part1).0 c5
    (part1).1 (start_good nothing 2 0 empty blank blank_boots)).1

pub answers1 : small.answers (view c5.machine t1) create a1
unfolding after_commits
answers1 = refl

pub verdict1 : verdict c5 0 t1 (view c5.machine t1) a1 ≡ ev1
unfolding after_commits catalog_name
verdict1 = refl

pub reading1 : StandsFor (reads c5 0 (Transaction.snap t1)) (view c5.machine t1)
reading1 = reads_view nothing c5 0 t1 good5 refl refl

abbrev pub c6 : Cluster
c6 = taken_up c5 0 ev1

pub past6 : (u : ℕ) → 3 ≤ u → c6.work u ≡ ended
past6 = past_put c5.work 0 _ ended (omega arith) past5

pub slots6 : (u : ℕ) → 3 ≤ u → (now c6).slot u ≡ None
slots6 = slots5

pub does6 : Happens small (takes_up 0) c5 c6
does6 = (
  t1,
  view c5.machine t1,
  a1,
  none_forced c5.machine (let z : c5.machine.joined ≤ 3 = omega arith in z) refl refl refl,
  record {
    no_job = (rested c5 refl refl refl past5);
    open_mode = refl;
    no_todo = nothing_left c5 refl refl refl past5;
    no_undo = by_session (λ u. (t : ℕ) → (now c5).slot u ≡ Some t → (c5.work u).ending ≡ false)
        (λ t e. absurd (grind arith)) (λ t e. absurd (grind arith)) (λ t e. absurd (grind arith))
        (λ u k t e. let z : None ≡ Some t = sym (slots5 u k) ∙ e in absurd (grind arith));
  },
  record {
    statement = create;
    runs = refl;
    kind = refl;
    writer = refl;
    has = refl;
    due = refl;
    reading = reading1;
    answers = answers1;
  },
  sym (ap (taken_up c5 0) verdict1),
)

abbrev pub c7 : Cluster
c7 = record c6 { work = put c6.work 0 (record (c6.work 0) { job = false }) }

pub past7 : (u : ℕ) → 3 ≤ u → c7.work u ≡ ended
past7 = past_put c6.work 0 _ ended (omega arith) past6

pub slots7 : (u : ℕ) → 3 ≤ u → (now c7).slot u ≡ None
slots7 = slots6

pub does7 : Happens small (judges 0) c6 c7
does7 = refl

abbrev pub c8 : Cluster
c8 = grown c7 (begun (now c7) 0) 0 (record (c7.work 0) { ending = false }) c7.machine

pub past8 : (u : ℕ) → 3 ≤ u → c8.work u ≡ ended
past8 = past_put c7.work 0 _ ended (omega arith) past7

pub slots8 : (u : ℕ) → 3 ≤ u → (now c8).slot u ≡ None
slots8 = past_put (Store.slot (now c7)) 0 _ None (omega arith) slots7

pub does8 : Happens small (begins 0) c7 c8
does8 = ((rested c7 refl refl refl past7), refl, refl, refl, refl)

abbrev pub c9 : Cluster
c9 = grown c8 (created (split (now c8) 1028) 0 1 (Change.key made) (Change.row made)) 0 (installs (c8.work 0) made []) c8.machine

pub past9 : (u : ℕ) → 3 ≤ u → c9.work u ≡ ended
past9 = past_put c8.work 0 _ ended (omega arith) past8

pub slots9 : (u : ℕ) → 3 ≤ u → (now c9).slot u ≡ None
slots9 = slots8

pub does9 : Happens small (creates 0 1028) c8 c9
unfolding catalog_name
does9 = (
  t1x,
  1,
  made,
  [],
  record {
    no_job = (rested c8 refl refl refl past8);
    others = by_session (λ u. u ≢ 0 → (c8.work u).todo ≡ []) (λ n. absurd (n refl)) (λ n. refl) (λ n. refl)
        (λ u k n. ap (λ w. Work.todo w) (past8 u k));
    open_mode = refl;
    has = refl;
    slot = refl;
    stays = refl;
    todo = refl;
  },
  refl,
  (let z : (now c8).pages ≤ 1028 = omega arith in z),
  refl,
)

abbrev pub c10 : Cluster
c10 = grown c9 (stamped (now c9) 0 1) 0 (record (c9.work 0) { installed = [] }) (enqueued c9.machine 0)

pub past10 : (u : ℕ) → 3 ≤ u → c10.work u ≡ ended
past10 = past_put c9.work 0 _ ended (omega arith) past9

pub slots10 : (u : ℕ) → 3 ≤ u → (now c10).slot u ≡ None
slots10 = past_put (Store.slot (now c9)) 0 _ None (omega arith) slots9

pub does10 : Happens small (commits 0) c9 c10
does10 = (
  1,
  record {
    no_job = (rested c9 refl refl refl past9);
    free = none_forced c9.machine (let z : c9.machine.joined ≤ 3 = omega arith in z) refl refl refl;
    may = record {
      statement = create;
      runs = refl;
      writer = refl;
      free = refl;
      changes = λ e. grind arith;
      commits = inr (refl, refl, refl);
    };
    open_mode = refl;
    slot = refl;
    stays = refl;
    todo = refl;
  },
  refl,
)

abbrev pub c11 : Cluster
c11 = record c10 { durable = 3 }

pub past11 : (u : ℕ) → 3 ≤ u → c11.work u ≡ ended
past11 = past10

pub slots11 : (u : ℕ) → 3 ≤ u → (now c11).slot u ≡ None
slots11 = slots10

pub does11 : Happens small (appends 3) c10 c11
does11 = ((let z : c10.durable ≤ 3 = omega arith in z), (let z : 3 ≤ c10.lsn = omega arith in z), refl)

abbrev pub c12 : Cluster
c12 = record c11 { machine = settles c11.machine }

pub past12 : (u : ℕ) → 3 ≤ u → c12.work u ≡ ended
past12 = past11

pub slots12 : (u : ℕ) → 3 ≤ u → (now c12).slot u ≡ None
slots12 = slots11

pub does12 : Happens small (settle) c11 c12
does12 = (
  none_forced c11.machine (let z : c11.machine.joined ≤ 3 = omega arith in z) refl refl refl,
  refl,
  (let z : 0 < 1 = omega arith in z),
  refl,
)

abbrev pub m13 : Machine
m13 = answered c12.machine 0 (reply.Ok 0)

abbrev pub c13 : Cluster
c13 = plain c12 m13

pub past13 : (u : ℕ) → 3 ≤ u → c13.work u ≡ ended
past13 = past_works c12.machine.sessions m13.sessions c12.work past12

pub slots13 : (u : ℕ) → 3 ≤ u → (now c13).slot u ≡ None
slots13 = slots12

pub does13 : Happens small (table (entry.Reply 0 (reply.Ok 0))) c12 c13
does13 = (
  m13,
  tt,
  (
    inr (
      none_forced c12.machine (let z : c12.machine.joined ≤ 3 = omega arith in z) refl refl refl,
      inr (create, refl, done (refl, refl, inr (inr refl))),
    ),
    refl,
  ),
  leaves c12 m13 (rested c12 refl refl refl past12),
  refl,
)
