-- Stated: a run of two nodes, event by event: a table is made; a row is committed but not told when its node is lost,
-- beside one that is not committed; the other node takes over, undoes that one, and reads the row that stands.
use Rattle.std.specs.Prelude.{◌≡◌, List, [], ◌∷◌, ◌++◌, codes}
use Rattle.sql_values.specs.declared.values.Value.TheVariants.{Text}
use Rattle.sql_database.specs.Database.{empty}
use Rattle.sql_database.specs.declared.replies.SqlReply.TheVariants as reply
use Rattle.table_machine.specs.declared.entries.Entry.{Entry}
use Rattle.table_machine.specs.declared.entries.Entry.TheVariants as entry
use Rattle.version_store.specs.Stores.{blank}
use Rattle.history.specs.Clusters.{Cluster, start}
use Rattle.history.specs.Events.{AllHappen, Event, appends, begins, commits, creates, frees, judges, opens, settle, table, tails, takes_up, undoes, writer_falls, writes}
use Rattle.history.specs.SmallLanguage.{small}

-- session 0 makes the table, and is told
abbrev pub making : List Event
making =
    table (entry.Join 0 (codes "x") 0) ∷
    (table (entry.Join 1 (codes "y") 0) ∷ (table (entry.Join 2 (codes "z") 1)
    ∷ (table (entry.Submit 0 (codes "create")) ∷ (table (entry.Snap 0) ∷ (takes_up 0 ∷ (judges 0 ∷ (begins 0
    ∷ (creates 0 1028 ∷ (commits 0 ∷ (appends 3 ∷ (settle ∷ (table (entry.Reply 0 (reply.Ok 0)) ∷ []))))))))))))

-- session 1 inserts b, with an undo page made for it, session 0 inserts a and commits, and the log store has the group up to the first of them
abbrev pub inserting_b : List Event
inserting_b =
    table (entry.Submit 1 (codes "insert b")) ∷
    (table (entry.Snap 1) ∷ (takes_up 1 ∷ (judges 1 ∷ (begins 1 ∷ (writes 1 1030 ∷ [])))))

abbrev pub inserting_a : List Event
inserting_a =
    table (entry.Submit 0 (codes "insert a")) ∷
    (table (entry.Snap 0) ∷ (takes_up 0 ∷ (judges 0 ∷ (begins 0 ∷ (writes 0 1030
    ∷ (commits 0 ∷ (appends 5 ∷ [])))))))

-- node 0 is lost; its last append is kept late; node 1 takes over
abbrev pub taking_over : List Event
taking_over =
    writer_falls 0 (0 ∷ (1 ∷ [])) ∷
    (table (entry.Reply 0 reply.Unavailable) ∷ (table (entry.Reply 1 reply.Unavailable)
    ∷ (appends 8 ∷ (tails ∷ (undoes 1 ∷ (frees 1 ∷ (appends 10 ∷ (opens 1 ∷ []))))))))

-- session 2 reads
abbrev pub selecting : List Event
selecting =
    table (entry.Submit 2 (codes "select")) ∷ (table (entry.Snap 2) ∷ (table (entry.Exec 2)
    ∷ (table (entry.Reply 2 (reply.Rows ((Text (codes "a") ∷ []) ∷ []))) ∷ [])))

abbrev pub happening : List Event
happening = making ++ (inserting_b ++ (inserting_a ++ (taking_over ++ selecting)))

-- what the journal says of it
abbrev pub journal : List Entry
journal =
    entry.Join 0 (codes "x") 0 ∷ (entry.Join 1 (codes "y") 0 ∷ (entry.Join 2 (codes "z") 1
    ∷ (entry.Submit 0 (codes "create") ∷ (entry.Snap 0 ∷ (entry.Exec 0 ∷ (entry.Enqueue 0 ∷ (entry.Settle
    ∷ (entry.Reply 0 (reply.Ok 0)
    ∷ (entry.Submit 1 (codes "insert b") ∷ (entry.Snap 1 ∷ (entry.Exec 1
    ∷ (entry.Submit 0 (codes "insert a") ∷ (entry.Snap 0 ∷ (entry.Exec 0 ∷ (entry.Enqueue 0
    ∷ (entry.Down 0 (0 ∷ (1 ∷ [])) ∷ (entry.Reply 0 reply.Unavailable ∷ (entry.Reply 1 reply.Unavailable
    ∷ (entry.Forget 1 ∷ (entry.Opened 1
    ∷ (entry.Submit 2 (codes "select") ∷ (entry.Snap 2 ∷ (entry.Exec 2
    ∷ (entry.Reply 2 (reply.Rows ((Text (codes "a") ∷ []) ∷ [])) ∷ []))))))))))))))))))))))))

-- it happens, and leaves two commits and an empty queue
abbrev pub SmallRunHappens : Type 0
SmallRunHappens =
    (c : Cluster) × AllHappen small (start 2 empty 0 blank) happening journal c
    × (c.machine.count ≡ 2) × (c.machine.waiting ≡ 0)
