-- The small run from the loss of a node to the opening of the other.
use Rattle.std.proofs.Common.{◌≡◌, ℕ, ◌≤◌, None, [], ◌∷◌, arith, inl, refl}
use Rattle.sql_database.specs.declared.changes.Change.{Change}
use Rattle.table_machine.specs.Machine.{Machine}
use Rattle.table_machine.specs.Moves.{answered, downed}
use Rattle.version_store.specs.Stores.{Store, freed, undone}
use Rattle.history.specs.Clusters.{Cluster, ended, grown, now}
use Rattle.history.specs.Events.{Happens, appends, crashed, cut, frees, opening, opens, table, tails, undoes, writer_falls}
use Rattle.history.specs.SmallLanguage.{small}
use Rattle.sql_database.specs.declared.replies.SqlReply.TheVariants as reply
use Rattle.table_machine.specs.declared.entries.Entry.TheVariants as entry
use Rattle.history.proofs.SmallSessions.{by_session, none_forced, past_put, past_works, rested, leaves, plain, put_b}
use Rattle.history.proofs.SmallInserting.{c27, slots27}

abbrev pub m28 : Machine
m28 = downed c27.machine 0 (0 ∷ (1 ∷ []))

abbrev pub c28 : Cluster
c28 = crashed c27 m28

pub past28 : (u : ℕ) → 3 ≤ u → c28.work u ≡ ended
past28 = λ u k. refl

pub slots28 : (u : ℕ) → 3 ≤ u → (now c28).slot u ≡ None
slots28 = slots27

pub does28 : Happens small (writer_falls 0 (0 ∷ (1 ∷ []))) c27 c28
does28 = (
  m28,
  (none_forced c27.machine (let z : c27.machine.joined ≤ 3 = omega arith in z) refl refl refl, refl, refl, refl),
  inl refl,
  refl,
)

abbrev pub m29 : Machine
m29 = answered c28.machine 0 reply.Unavailable

abbrev pub c29 : Cluster
c29 = plain c28 m29

pub past29 : (u : ℕ) → 3 ≤ u → c29.work u ≡ ended
past29 = past_works c28.machine.sessions m29.sessions c28.work past28

pub slots29 : (u : ℕ) → 3 ≤ u → (now c29).slot u ≡ None
slots29 = slots28

pub does29 : Happens small (table (entry.Reply 0 reply.Unavailable)) c28 c29
does29 = (
  m29,
  tt,
  (inl (record { stopped = refl; due = refl }), refl),
  leaves c28 m29 (rested c28 refl refl refl past28),
  refl,
)

abbrev pub m30 : Machine
m30 = answered c29.machine 1 reply.Unavailable

abbrev pub c30 : Cluster
c30 = plain c29 m30

pub past30 : (u : ℕ) → 3 ≤ u → c30.work u ≡ ended
past30 = past_works c29.machine.sessions m30.sessions c29.work past29

pub slots30 : (u : ℕ) → 3 ≤ u → (now c30).slot u ≡ None
slots30 = slots29

pub does30 : Happens small (table (entry.Reply 1 reply.Unavailable)) c29 c30
does30 = (
  m30,
  tt,
  (inl (record { stopped = refl; due = refl }), refl),
  leaves c29 m30 (rested c29 refl refl refl past29),
  refl,
)

abbrev pub c31 : Cluster
c31 = record c30 { durable = 8 }

pub past31 : (u : ℕ) → 3 ≤ u → c31.work u ≡ ended
past31 = past30

pub slots31 : (u : ℕ) → 3 ≤ u → (now c31).slot u ≡ None
slots31 = slots30

pub does31 : Happens small (appends 8) c30 c31
does31 = ((let z : c30.durable ≤ 8 = omega arith in z), (let z : 8 ≤ c30.lsn = omega arith in z), refl)

abbrev pub c32 : Cluster
c32 = cut c31

pub past32 : (u : ℕ) → 3 ≤ u → c32.work u ≡ ended
past32 = past31

pub slots32 : (u : ℕ) → 3 ≤ u → (now c32).slot u ≡ None
slots32 = slots31

pub does32 : Happens small (tails) c31 c32
does32 = ((λ e. absurd (grind arith)), refl)

abbrev pub c33 : Cluster
c33 = grown c32 (undone (now c32) 1 1028 (Change.key put_b) []) 1 (c32.work 1) c32.machine

pub past33 : (u : ℕ) → 3 ≤ u → c33.work u ≡ ended
past33 = past_put c32.work 1 _ ended (omega arith) past32

pub slots33 : (u : ℕ) → 3 ≤ u → (now c33).slot u ≡ None
slots33 = slots32

pub does33 : Happens small (undoes 1) c32 c33
does33 = (
  2,
  record { root = 1028; key = Change.key put_b },
  [],
  record {
    quiet = (rested c32 refl refl refl past32);
    alive = λ e. absurd (grind arith);
    ending = refl;
    slot = refl;
  },
  refl,
  refl,
)

abbrev pub c34 : Cluster
c34 = grown c33 (freed (now c33) 1) 1 (c33.work 1) c33.machine

pub past34 : (u : ℕ) → 3 ≤ u → c34.work u ≡ ended
past34 = past_put c33.work 1 _ ended (omega arith) past33

pub slots34 : (u : ℕ) → 3 ≤ u → (now c34).slot u ≡ None
slots34 = past_put (Store.slot (now c33)) 1 _ None (omega arith) slots33

pub does34 : Happens small (frees 1) c33 c34
does34 = (
  2,
  record {
    quiet = (rested c33 refl refl refl past33);
    alive = λ e. absurd (grind arith);
    ending = refl;
    slot = refl;
  },
  refl,
  refl,
)

abbrev pub c35 : Cluster
c35 = record c34 { durable = 10 }

pub past35 : (u : ℕ) → 3 ≤ u → c35.work u ≡ ended
past35 = past34

pub slots35 : (u : ℕ) → 3 ≤ u → (now c35).slot u ≡ None
slots35 = slots34

pub does35 : Happens small (appends 10) c34 c35
does35 = ((let z : c34.durable ≤ 10 = omega arith in z), (let z : 10 ≤ c34.lsn = omega arith in z), refl)

abbrev pub c36 : Cluster
c36 = opening c35 1

pub past36 : (u : ℕ) → 3 ≤ u → c36.work u ≡ ended
past36 = past35

pub slots36 : (u : ℕ) → 3 ≤ u → (now c36).slot u ≡ None
slots36 = slots35

pub does36 : Happens small (opens 1) c35 c36
does36 = (
  record {
    free = none_forced c35.machine
        (let z : c35.machine.joined ≤ 3 = omega arith in z) refl refl refl;
    taken = refl;
    whole = refl;
    undone = by_session (λ u. (now c35).slot u ≡ None) refl refl refl slots35;
    up = refl;
  },
  refl,
)
