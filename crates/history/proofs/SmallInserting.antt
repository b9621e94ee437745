-- The small run while the rows are written.
use Rattle.std.proofs.Common.{◌≡◌, ◌≢◌, ℕ, ◌≤◌, ◌<◌, false, Some, None, List, [], ◌∷◌, Ok, codes, arith, inr, refl, sym, ap, ◌∙◌}
use Rattle.sql_database.specs.declared.changes.Change.{Change}
use Rattle.table_machine.specs.declared.entries.Entry.{Entry}
use Rattle.table_machine.specs.Machine.{Machine, Transaction, after_commits, view}
use Rattle.table_machine.specs.Moves.{enqueued, snapped, submitted}
use Rattle.version_store.specs.Contents.{catalog_name}
use Rattle.version_store.specs.Stores.{Store, begun, changed, put, split, stamped}
use Rattle.history.specs.Clusters.{Cluster, Work, ended, grown, now, reads}
use Rattle.history.specs.Databases.{StandsFor}
use Rattle.history.specs.Events.{AllHappen, Event, Happens, appends, begins, commits, creates, installs, judges, settle, table, taken_up, takes_up, verdict, writes}
use Rattle.history.specs.Invariant.{Refines}
use Rattle.history.specs.SmallLanguage.{insert, small}
use Rattle.history.proofs.AnswerLaws.{content_fits}
use Rattle.history.proofs.Blank.{nothing}
use Rattle.history.proofs.Happening.{story}
use Rattle.history.proofs.SmallRules.{keeps_name, small_rules}
use Rattle.history.proofs.Views.{reads_view}
use Rattle.sql_database.specs.declared.replies.SqlReply.TheVariants as reply
use Rattle.table_machine.specs.declared.entries.Entry.TheVariants as entry
use Rattle.history.proofs.SmallSessions.{by_session, none_forced, past_put, past_works, rested, nothing_left, leaves, plain, put_a, put_b, a2, ev2, a3, ev3, t2, t2x, t3, t3x}
use Rattle.history.proofs.SmallMaking.{c5, good5, c6, does6, c7, does7, c8, does8, c9, does9, c10, does10, c11, does11, c12, does12, c13, past13, slots13, does13}

abbrev pub m14 : Machine
m14 = submitted c13.machine 1 (Ok (insert (codes "b")))

abbrev pub c14 : Cluster
c14 = plain c13 m14

pub past14 : (u : ℕ) → 3 ≤ u → c14.work u ≡ ended
past14 = past_works c13.machine.sessions m14.sessions c13.work past13

pub slots14 : (u : ℕ) → 3 ≤ u → (now c14).slot u ≡ None
slots14 = slots13

pub does14 : Happens small (table (entry.Submit 1 (codes "insert b"))) c13 c14
does14 = (
  m14,
  tt,
  (
    Ok (insert (codes "b")),
    none_forced c13.machine (let z : c13.machine.joined ≤ 3 = omega arith in z) refl refl refl,
    (let z : 1 < 3 = omega arith in z),
    refl,
    refl,
    refl,
  ),
  leaves c13 m14 (rested c13 refl refl refl past13),
  refl,
)

abbrev pub m15 : Machine
m15 = snapped c14.machine 1

abbrev pub c15 : Cluster
c15 = plain c14 m15

pub past15 : (u : ℕ) → 3 ≤ u → c15.work u ≡ ended
past15 = past_works c14.machine.sessions m15.sessions c14.work past14

pub slots15 : (u : ℕ) → 3 ≤ u → (now c15).slot u ≡ None
slots15 = slots14

pub does15 : Happens small (table (entry.Snap 1)) c14 c15
does15 = (
  m15,
  tt,
  (
    none_forced c14.machine (let z : c14.machine.joined ≤ 3 = omega arith in z) refl refl refl,
    record { statement = (insert (codes "b")); runs = refl; stays = refl; free = refl; writer = refl },
    refl,
  ),
  leaves c14 m15 (rested c14 refl refl refl past14),
  refl,
)

-- the events from 6 to 15
abbrev pub events2 : List Event
events2 = takes_up 0 ∷
    (judges 0 ∷ (begins 0 ∷
    (creates 0 1028 ∷ (commits 0 ∷
    (appends 3 ∷ (settle ∷
    (table (entry.Reply 0 (reply.Ok 0)) ∷
    (table (entry.Submit 1 (codes "insert b")) ∷ (table (entry.Snap 1) ∷ [])))))))))

pub part2 : (journal : List Entry) × AllHappen small c5 events2 journal c15
part2 = (
  _,
  (
    c6,
    _,
    does6,
    refl,
    (
      c7,
      _,
      does7,
      refl,
      (
        c8,
        _,
        does8,
        refl,
        (
          c9,
          _,
          does9,
          refl,
          (
            c10,
            _,
            does10,
            refl,
            (
              c11,
              _,
              does11,
              refl,
              (
                c12,
                _,
                does12,
                refl,
                (
                  c13,
                  _,
                  does13,
                  refl,
                  (c14, _, does14, refl, (c15, _, does15, refl, (refl, refl))),
                ),
              ),
            ),
          ),
        ),
      ),
    ),
  ),
)

pub good15 : Refines small nothing c15
good15 = (story small keeps_name small_rules.by_content (content_fits small_rules) nothing events2 c5 (part2).0 c15
    (part2).1 good5).1

pub answers2 : small.answers (view c15.machine t2) (insert (codes "b")) a2
unfolding after_commits
answers2 = refl

pub verdict2 : verdict c15 1 t2 (view c15.machine t2) a2 ≡ ev2
unfolding after_commits catalog_name
verdict2 = refl

pub reading2 : StandsFor (reads c15 1 (Transaction.snap t2)) (view c15.machine t2)
reading2 = reads_view nothing c15 1 t2 good15 refl refl

abbrev pub c16 : Cluster
c16 = taken_up c15 1 ev2

pub past16 : (u : ℕ) → 3 ≤ u → c16.work u ≡ ended
past16 = past_put c15.work 1 _ ended (omega arith) past15

pub slots16 : (u : ℕ) → 3 ≤ u → (now c16).slot u ≡ None
slots16 = slots15

pub does16 : Happens small (takes_up 1) c15 c16
does16 = (
  t2,
  view c15.machine t2,
  a2,
  none_forced c15.machine (let z : c15.machine.joined ≤ 3 = omega arith in z) refl refl refl,
  record {
    no_job = (rested c15 refl refl refl past15);
    open_mode = refl;
    no_todo = nothing_left c15 refl refl refl past15;
    no_undo = by_session (λ u. (t : ℕ) → (now c15).slot u ≡ Some t → (c15.work u).ending ≡ false)
        (λ t e. absurd (grind arith)) (λ t e. absurd (grind arith)) (λ t e. absurd (grind arith))
        (λ u k t e. let z : None ≡ Some t = sym (slots15 u k) ∙ e in absurd (grind arith));
  },
  record {
    statement = (insert (codes "b"));
    runs = refl;
    kind = refl;
    writer = refl;
    has = refl;
    due = refl;
    reading = reading2;
    answers = answers2;
  },
  sym (ap (taken_up c15 1) verdict2),
)

abbrev pub c17 : Cluster
c17 = record c16 { work = put c16.work 1 (record (c16.work 1) { job = false }) }

pub past17 : (u : ℕ) → 3 ≤ u → c17.work u ≡ ended
past17 = past_put c16.work 1 _ ended (omega arith) past16

pub slots17 : (u : ℕ) → 3 ≤ u → (now c17).slot u ≡ None
slots17 = slots16

pub does17 : Happens small (judges 1) c16 c17
does17 = refl

abbrev pub c18 : Cluster
c18 = grown c17 (begun (now c17) 1) 1 (record (c17.work 1) { ending = false }) c17.machine

pub past18 : (u : ℕ) → 3 ≤ u → c18.work u ≡ ended
past18 = past_put c17.work 1 _ ended (omega arith) past17

pub slots18 : (u : ℕ) → 3 ≤ u → (now c18).slot u ≡ None
slots18 = past_put (Store.slot (now c17)) 1 _ None (omega arith) slots17

pub does18 : Happens small (begins 1) c17 c18
does18 = ((rested c17 refl refl refl past17), refl, refl, refl, refl)

abbrev pub c19 : Cluster
c19 = grown c18 (changed (split (now c18) 1030) 1 2 1028 (Change.key put_b) (Change.row put_b)) 1
    (installs (c18.work 1) put_b []) c18.machine

pub past19 : (u : ℕ) → 3 ≤ u → c19.work u ≡ ended
past19 = past_put c18.work 1 _ ended (omega arith) past18

pub slots19 : (u : ℕ) → 3 ≤ u → (now c19).slot u ≡ None
slots19 = slots18

pub does19 : Happens small (writes 1 1030) c18 c19
unfolding catalog_name
does19 = (
  t2x,
  2,
  put_b,
  [],
  record {
    no_job = (rested c18 refl refl refl past18);
    others = by_session (λ u. u ≢ 1 → (c18.work u).todo ≡ []) (λ n. refl) (λ n. absurd (n refl)) (λ n. refl)
        (λ u k n. ap (λ w. Work.todo w) (past18 u k));
    open_mode = refl;
    has = refl;
    slot = refl;
    stays = refl;
    todo = refl;
  },
  refl,
  (let z : (now c18).pages ≤ 1030 = omega arith in z),
  (1028, refl, refl),
)

abbrev pub m20 : Machine
m20 = submitted c19.machine 0 (Ok (insert (codes "a")))

abbrev pub c20 : Cluster
c20 = plain c19 m20

pub past20 : (u : ℕ) → 3 ≤ u → c20.work u ≡ ended
past20 = past_works c19.machine.sessions m20.sessions c19.work past19

pub slots20 : (u : ℕ) → 3 ≤ u → (now c20).slot u ≡ None
slots20 = slots19

pub does20 : Happens small (table (entry.Submit 0 (codes "insert a"))) c19 c20
does20 = (
  m20,
  tt,
  (
    Ok (insert (codes "a")),
    none_forced c19.machine (let z : c19.machine.joined ≤ 3 = omega arith in z) refl refl refl,
    (let z : 0 < 3 = omega arith in z),
    refl,
    refl,
    refl,
  ),
  leaves c19 m20 (rested c19 refl refl refl past19),
  refl,
)

abbrev pub m21 : Machine
m21 = snapped c20.machine 0

abbrev pub c21 : Cluster
c21 = plain c20 m21

pub past21 : (u : ℕ) → 3 ≤ u → c21.work u ≡ ended
past21 = past_works c20.machine.sessions m21.sessions c20.work past20

pub slots21 : (u : ℕ) → 3 ≤ u → (now c21).slot u ≡ None
slots21 = slots20

pub does21 : Happens small (table (entry.Snap 0)) c20 c21
does21 = (
  m21,
  tt,
  (
    none_forced c20.machine (let z : c20.machine.joined ≤ 3 = omega arith in z) refl refl refl,
    record { statement = (insert (codes "a")); runs = refl; stays = refl; free = refl; writer = refl },
    refl,
  ),
  leaves c20 m21 (rested c20 refl refl refl past20),
  refl,
)

-- the events from 16 to 21
abbrev pub events3 : List Event
events3 = takes_up 1 ∷
    (judges 1 ∷ (begins 1 ∷ (writes 1 1030 ∷ (table (entry.Submit 0 (codes "insert a")) ∷ (table (entry.Snap 0) ∷ [])))))

pub part3 : (journal : List Entry) × AllHappen small c15 events3 journal c21
part3 = (
  _,
  (
    c16,
    _,
    does16,
    refl,
    (
      c17,
      _,
      does17,
      refl,
      (
        c18,
        _,
        does18,
        refl,
        (c19, _, does19, refl, (c20, _, does20, refl, (c21, _, does21, refl, (refl, refl)))),
      ),
    ),
  ),
)

pub good21 : Refines small nothing c21
good21 = (story small keeps_name small_rules.by_content (content_fits small_rules) nothing events3 c15 (part3).0 c21
    (part3).1 good15).1

pub answers3 : small.answers (view c21.machine t3) (insert (codes "a")) a3
unfolding after_commits
answers3 = refl

pub verdict3 : verdict c21 0 t3 (view c21.machine t3) a3 ≡ ev3
unfolding after_commits catalog_name
verdict3 = refl

pub reading3 : StandsFor (reads c21 0 (Transaction.snap t3)) (view c21.machine t3)
reading3 = reads_view nothing c21 0 t3 good21 refl refl

abbrev pub c22 : Cluster
c22 = taken_up c21 0 ev3

pub past22 : (u : ℕ) → 3 ≤ u → c22.work u ≡ ended
past22 = past_put c21.work 0 _ ended (omega arith) past21

pub slots22 : (u : ℕ) → 3 ≤ u → (now c22).slot u ≡ None
slots22 = slots21

pub does22 : Happens small (takes_up 0) c21 c22
does22 = (
  t3,
  view c21.machine t3,
  a3,
  none_forced c21.machine (let z : c21.machine.joined ≤ 3 = omega arith in z) refl refl refl,
  record {
    no_job = (rested c21 refl refl refl past21);
    open_mode = refl;
    no_todo = nothing_left c21 refl refl refl past21;
    no_undo = by_session (λ u. (t : ℕ) → (now c21).slot u ≡ Some t → (c21.work u).ending ≡ false)
        (λ t e. absurd (grind arith)) (λ t e. refl) (λ t e. absurd (grind arith))
        (λ u k t e. let z : None ≡ Some t = sym (slots21 u k) ∙ e in absurd (grind arith));
  },
  record {
    statement = (insert (codes "a"));
    runs = refl;
    kind = refl;
    writer = refl;
    has = refl;
    due = refl;
    reading = reading3;
    answers = answers3;
  },
  sym (ap (taken_up c21 0) verdict3),
)

abbrev pub c23 : Cluster
c23 = record c22 { work = put c22.work 0 (record (c22.work 0) { job = false }) }

pub past23 : (u : ℕ) → 3 ≤ u → c23.work u ≡ ended
past23 = past_put c22.work 0 _ ended (omega arith) past22

pub slots23 : (u : ℕ) → 3 ≤ u → (now c23).slot u ≡ None
slots23 = slots22

pub does23 : Happens small (judges 0) c22 c23
does23 = refl

abbrev pub c24 : Cluster
c24 = grown c23 (begun (now c23) 0) 0 (record (c23.work 0) { ending = false }) c23.machine

pub past24 : (u : ℕ) → 3 ≤ u → c24.work u ≡ ended
past24 = past_put c23.work 0 _ ended (omega arith) past23

pub slots24 : (u : ℕ) → 3 ≤ u → (now c24).slot u ≡ None
slots24 = past_put (Store.slot (now c23)) 0 _ None (omega arith) slots23

pub does24 : Happens small (begins 0) c23 c24
does24 = ((rested c23 refl refl refl past23), refl, refl, refl, refl)

abbrev pub c25 : Cluster
c25 = grown c24 (changed (split (now c24) 1030) 0 3 1028 (Change.key put_a) (Change.row put_a)) 0
    (installs (c24.work 0) put_a []) c24.machine

pub past25 : (u : ℕ) → 3 ≤ u → c25.work u ≡ ended
past25 = past_put c24.work 0 _ ended (omega arith) past24

pub slots25 : (u : ℕ) → 3 ≤ u → (now c25).slot u ≡ None
slots25 = slots24

pub does25 : Happens small (writes 0 1030) c24 c25
unfolding catalog_name
does25 = (
  t3x,
  3,
  put_a,
  [],
  record {
    no_job = (rested c24 refl refl refl past24);
    others = by_session (λ u. u ≢ 0 → (c24.work u).todo ≡ []) (λ n. absurd (n refl)) (λ n. refl) (λ n. refl)
        (λ u k n. ap (λ w. Work.todo w) (past24 u k));
    open_mode = refl;
    has = refl;
    slot = refl;
    stays = refl;
    todo = refl;
  },
  refl,
  (let z : (now c24).pages ≤ 1030 = omega arith in z),
  (1028, refl, refl),
)

abbrev pub c26 : Cluster
c26 = grown c25 (stamped (now c25) 0 3) 0 (record (c25.work 0) { installed = [] }) (enqueued c25.machine 0)

pub past26 : (u : ℕ) → 3 ≤ u → c26.work u ≡ ended
past26 = past_put c25.work 0 _ ended (omega arith) past25

pub slots26 : (u : ℕ) → 3 ≤ u → (now c26).slot u ≡ None
slots26 = past_put (Store.slot (now c25)) 0 _ None (omega arith) slots25

pub does26 : Happens small (commits 0) c25 c26
does26 = (
  3,
  record {
    no_job = (rested c25 refl refl refl past25);
    free = none_forced c25.machine (let z : c25.machine.joined ≤ 3 = omega arith in z) refl refl refl;
    may = record {
      statement = (insert (codes "a"));
      runs = refl;
      writer = refl;
      free = refl;
      changes = λ e. grind arith;
      commits = inr (refl, refl, refl);
    };
    open_mode = refl;
    slot = refl;
    stays = refl;
    todo = refl;
  },
  refl,
)

abbrev pub c27 : Cluster
c27 = record c26 { durable = 5 }

pub past27 : (u : ℕ) → 3 ≤ u → c27.work u ≡ ended
past27 = past26

pub slots27 : (u : ℕ) → 3 ≤ u → (now c27).slot u ≡ None
slots27 = slots26

pub does27 : Happens small (appends 5) c26 c27
does27 = ((let z : c26.durable ≤ 5 = omega arith in z), (let z : 5 ≤ c26.lsn = omega arith in z), refl)
