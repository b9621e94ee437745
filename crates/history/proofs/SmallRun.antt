-- The small run to its end, and all of it.
use Rattle.std.proofs.Common.{◌≡◌, ℕ, ◌≤◌, ◌<◌, None, List, [], ◌∷◌, Ok, codes, arith, inr, refl}
use Rattle.sql_values.specs.declared.values.Value.TheVariants.{Text}
use Rattle.table_machine.specs.declared.entries.Entry.{Entry}
use Rattle.table_machine.specs.Conflicts.{evaluated}
use Rattle.table_machine.specs.Machine.{Machine, after_commits}
use Rattle.table_machine.specs.Moves.{answered, executed, snapped, snapshot, submitted}
use Rattle.table_machine.specs.Replies.{evaluated as evaluated_reply}
use Rattle.history.specs.Clusters.{Cluster, ended, now}
use Rattle.history.specs.Events.{AllHappen, Event, Happens, appends, begins, commits, frees, judges, opens, table, tails, takes_up, undoes, writer_falls, writes}
use Rattle.history.specs.SmallLanguage.{select, small}
use Rattle.history.specs.SmallRun.{SmallRunHappens}
use Rattle.sql_database.specs.declared.replies.SqlReply.TheVariants as reply
use Rattle.table_machine.specs.declared.entries.Entry.TheVariants as entry
use Rattle.history.proofs.SmallSessions.{none_forced, past_works, rested, leaves, plain, found_rows}
use Rattle.history.proofs.SmallMaking.{c1, does1, c2, does2, c3, does3, c4, does4, c5, does5, c6, does6, c7, does7, c8, does8, c9, does9, c10, does10, c11, does11, c12, does12, c13, does13}
use Rattle.history.proofs.SmallInserting.{c14, does14, c15, does15, c16, does16, c17, does17, c18, does18, c19, does19, c20, does20, c21, does21, c22, does22, c23, does23, c24, does24, c25, does25, c26, does26, c27, does27}
use Rattle.history.proofs.SmallTakeover.{c28, does28, c29, does29, c30, does30, c31, does31, c32, does32, c33, does33, c34, does34, c35, does35, c36, past36, slots36, does36}

abbrev pub m37 : Machine
m37 = submitted c36.machine 2 (Ok select)

abbrev pub c37 : Cluster
c37 = plain c36 m37

pub past37 : (u : ℕ) → 3 ≤ u → c37.work u ≡ ended
past37 = past_works c36.machine.sessions m37.sessions c36.work past36

pub slots37 : (u : ℕ) → 3 ≤ u → (now c37).slot u ≡ None
slots37 = slots36

pub does37 : Happens small (table (entry.Submit 2 (codes "select"))) c36 c37
does37 = (
  m37,
  tt,
  (
    Ok select,
    none_forced c36.machine (let z : c36.machine.joined ≤ 3 = omega arith in z) refl refl refl,
    (let z : 2 < 3 = omega arith in z),
    refl,
    refl,
    refl,
  ),
  leaves c36 m37 (rested c36 refl refl refl past36),
  refl,
)

abbrev pub m38 : Machine
m38 = snapped c37.machine 2

abbrev pub c38 : Cluster
c38 = plain c37 m38

pub past38 : (u : ℕ) → 3 ≤ u → c38.work u ≡ ended
past38 = past_works c37.machine.sessions m38.sessions c37.work past37

pub slots38 : (u : ℕ) → 3 ≤ u → (now c38).slot u ≡ None
slots38 = slots37

pub does38 : Happens small (table (entry.Snap 2)) c37 c38
does38 = (
  m38,
  tt,
  (
    none_forced c37.machine (let z : c37.machine.joined ≤ 3 = omega arith in z) refl refl refl,
    record { statement = select; runs = refl; stays = refl; free = refl; writer = refl },
    refl,
  ),
  leaves c37 m38 (rested c37 refl refl refl past37),
  refl,
)

abbrev pub m39 : Machine
m39 = executed c38.machine 2 (evaluated c38.machine 2 (snapshot 2) found_rows)

abbrev pub c39 : Cluster
c39 = plain c38 m39

pub past39 : (u : ℕ) → 3 ≤ u → c39.work u ≡ ended
past39 = past_works c38.machine.sessions m39.sessions c38.work past38

pub slots39 : (u : ℕ) → 3 ≤ u → (now c39).slot u ≡ None
slots39 = slots38

pub does39 : Happens small (table (entry.Exec 2)) c38 c39
unfolding after_commits
does39 = (
  m39,
  (select, refl, refl),
  (
    snapshot 2,
    found_rows,
    none_forced c38.machine (let z : c38.machine.joined ≤ 3 = omega arith in z) refl refl refl,
    record {
      statement = select;
      runs = refl;
      kind = tt;
      writes = λ w. absurd (grind arith);
      has = refl;
      due = refl;
      answers = refl;
    },
    refl,
  ),
  leaves c38 m39 (rested c38 refl refl refl past38),
  refl,
)

abbrev pub m40 : Machine
m40 = answered c39.machine 2 (reply.Rows ((Text (codes "a") ∷ []) ∷ []))

abbrev pub c40 : Cluster
c40 = plain c39 m40

pub past40 : (u : ℕ) → 3 ≤ u → c40.work u ≡ ended
past40 = past_works c39.machine.sessions m40.sessions c39.work past39

pub slots40 : (u : ℕ) → 3 ≤ u → (now c40).slot u ≡ None
slots40 = slots39

pub does40 : Happens small (table (entry.Reply 2 (reply.Rows ((Text (codes "a") ∷ []) ∷ [])))) c39 c40
does40 = (
  m40,
  tt,
  (
    inr (
      none_forced c39.machine (let z : c39.machine.joined ≤ 3 = omega arith in z) refl refl refl,
      inr (select, refl, evaluated_reply (refl, refl)),
    ),
    refl,
  ),
  leaves c39 m40 (rested c39 refl refl refl past39),
  refl,
)

-- the events from 22 to 40
abbrev pub events4 : List Event
events4 = takes_up 0 ∷
    (judges 0 ∷ (begins 0 ∷
    (writes 0 1030 ∷ (commits 0 ∷
    (appends 5 ∷ (writer_falls 0 (0 ∷ (1 ∷ [])) ∷
    (table (entry.Reply 0 reply.Unavailable) ∷
    (table (entry.Reply 1 reply.Unavailable) ∷
    (appends 8 ∷ (tails ∷
    (undoes 1 ∷ (frees 1 ∷
    (appends 10 ∷
    (opens 1 ∷ (table (entry.Submit 2 (codes "select")) ∷
    (table (entry.Snap 2) ∷
    (table (entry.Exec 2) ∷
    (table (entry.Reply 2
    (reply.Rows ((Text
    (codes "a") ∷ []) ∷ []))) ∷ []))))))))))))))))))

pub part4 : (journal : List Entry) × AllHappen small c21 events4 journal c40
part4 = (
  _,
  (
    c22,
    _,
    does22,
    refl,
    (
      c23,
      _,
      does23,
      refl,
      (
        c24,
        _,
        does24,
        refl,
        (
          c25,
          _,
          does25,
          refl,
          (
            c26,
            _,
            does26,
            refl,
            (
              c27,
              _,
              does27,
              refl,
              (
                c28,
                _,
                does28,
                refl,
                (
                  c29,
                  _,
                  does29,
                  refl,
                  (
                    c30,
                    _,
                    does30,
                    refl,
                    (
                      c31,
                      _,
                      does31,
                      refl,
                      (
                        c32,
                        _,
                        does32,
                        refl,
                        (
                          c33,
                          _,
                          does33,
                          refl,
                          (
                            c34,
                            _,
                            does34,
                            refl,
                            (
                              c35,
                              _,
                              does35,
                              refl,
                              (
                                c36,
                                _,
                                does36,
                                refl,
                                (
                                  c37,
                                  _,
                                  does37,
                                  refl,
                                  (
                                    c38,
                                    _,
                                    does38,
                                    refl,
                                    (
                                      c39,
                                      _,
                                      does39,
                                      refl,
                                      (
                                        c40,
                                        _,
                                        does40,
                                        refl,
                                        (refl, refl),
                                      ),
                                    ),
                                  ),
                                ),
                              ),
                            ),
                          ),
                        ),
                      ),
                    ),
                  ),
                ),
              ),
            ),
          ),
        ),
      ),
    ),
  ),
)

pub small_run_happens : SmallRunHappens
small_run_happens = (
  c40,
  (
    c1,
    _,
    does1,
    refl,
    (
      c2,
      _,
      does2,
      refl,
      (
        c3,
        _,
        does3,
        refl,
        (
          c4,
          _,
          does4,
          refl,
          (
            c5,
            _,
            does5,
            refl,
            (
              c6,
              _,
              does6,
              refl,
              (
                c7,
                _,
                does7,
                refl,
                (
                  c8,
                  _,
                  does8,
                  refl,
                  (
                    c9,
                    _,
                    does9,
                    refl,
                    (
                      c10,
                      _,
                      does10,
                      refl,
                      (
                        c11,
                        _,
                        does11,
                        refl,
                        (
                          c12,
                          _,
                          does12,
                          refl,
                          (
                            c13,
                            _,
                            does13,
                            refl,
                            (
                              c14,
                              _,
                              does14,
                              refl,
                              (
                                c15,
                                _,
                                does15,
                                refl,
                                (
                                  c16,
                                  _,
                                  does16,
                                  refl,
                                  (
                                    c17,
                                    _,
                                    does17,
                                    refl,
                                    (
                                      c18,
                                      _,
                                      does18,
                                      refl,
                                      (
                                        c19,
                                        _,
                                        does19,
                                        refl,
                                        (
                                          c20,
                                          _,
                                          does20,
                                          refl,
                                          (
                                            c21,
                                            _,
                                            does21,
                                            refl,
                                            (
                                              c22,
                                              _,
                                              does22,
                                              refl,
                                              (
                                                c23,
                                                _,
                                                does23,
                                                refl,
                                                (
                                                  c24,
                                                  _,
                                                  does24,
                                                  refl,
                                                  (
                                                    c25,
                                                    _,
                                                    does25,
                                                    refl,
                                                    (c26, _, does26, refl, (c27, _, does27, refl, (c28, _, does28, refl, (c29, _, does29, refl, (c30, _, does30, refl, (c31, _, does31, refl, (c32, _, does32, refl, (c33, _, does33, refl, (c34, _, does34, refl, (c35, _, does35, refl, (c36, _, does36, refl, (c37, _, does37, refl, (c38, _, does38, refl, (c39, _, does39, refl, (c40, _, does40, refl, (refl, refl)))))))))))))))),
                                                  ),
                                                ),
                                              ),
                                            ),
                                          ),
                                        ),
                                      ),
                                    ),
                                  ),
                                ),
                              ),
                            ),
                          ),
                        ),
                      ),
                    ),
                  ),
                ),
              ),
            ),
          ),
        ),
      ),
    ),
  ),
  refl,
  refl,
)
