-- What each entry but forced ones makes of a table that tells of a machine.
use Rattle.std.proofs.Common.{◌≡◌, ◌≢◌, ◌<◌, ◌⊎◌, inl, inr, ℕ, zero, suc, ◌+◌, ◌-◌, Bool, true, false, not, if◌then◌else◌, List, [], ◌∷◌, ◌++◌, length, slice_get, Option, Some, None, Result, option_map, option_and_then, ap, subst, sym, refl, arith, ◌∙◌}
use Rattle.std.specs.Option.{option_map_or}
use Rattle.std.specs.Result.{result_ok}
use Rattle.sql_statements.specs.declared.statements.Stmt.{Stmt}
use Rattle.sql_database.specs.declared.replies.SqlReply.TheVariants as reply
use Rattle.table_machine.specs.declared.entries.Entry.TheVariants as entry
use Rattle.table_machine.specs.Conflicts.{Evaluated, evaluated}
use Rattle.table_machine.specs.Language.{Language}
use Rattle.table_machine.specs.Machine.{Machine, Session, Statement, idle, is_some_of, last, running}
use Rattle.table_machine.specs.Moves as move
use Rattle.table_machine.specs.Moves.{put}
use Rattle.session_state.specs.declared.places.Asked.{Asked}
use Rattle.session_state.specs.declared.places.Place.{Place}
use Rattle.session_state.specs.declared.places.Place.TheVariants.{Idle, Active, Lost}
use Rattle.session_state.specs.declared.places.SessionRow.{SessionRow}
use Rattle.session_state.specs.declared.places.SessionTable.{SessionTable}
use Rattle.session_state.specs.declared.queue.Queued.{Queued}
use Rattle.session_state.specs.Laws.{EnqueueTells, ExecTells, ForgetTells, JoinTells, NodesTell, SettleTells, SnapTells, StartTells, SubmitTells, TellsNoneForced, rest, with_row}
use Rattle.session_state.specs.Rows.{class_of, enqueued, idle_on, snapped, submitted, updated}
use Rattle.session_state.specs.Telling.{AskedTells, PlaceTells, QueuedTells, RowTells, Tells}
use Rattle.session_state.proofs.Lists.{has_item}
use Rattle.session_state.proofs.Moving.{RowsTell, either, one_moves, put_beside, put_here, some-injective, updated_length}

-- ---- statements

pub not_stopped : (language : Language) (q : Option Asked) (a : Option Statement) → AskedTells language q a → option_map_or (λ x. x.stopped) a false ≡ false
not_stopped language None None h = refl
not_stopped language None (Some a) h = absurd h
not_stopped language (Some q) None h = absurd h
not_stopped language (Some q) (Some a) h = h.2

pub none_asked : (language : Language) (q : Option Asked) (a : Option Statement) → AskedTells language q a → q ≡ None → a ≡ None
none_asked language None None h e = refl
none_asked language None (Some a) h e = absurd h
none_asked language (Some q) a h e = absurd cc

pub none_forced : (language : Language) → TellsNoneForced language
none_forced language m table tells t below =
    let row = has_item table.sessions t (let long : length table.sessions ≡ m.joined = tells.joined in omega (arith, below, long)) in
    not_stopped language row.0.asked (m.sessions t).statement (tells.rows t row.0 row.1).asked

-- ---- lists

pub below_length : {A : Type 0} (xs : List A) (n : ℕ) (x : A) → slice_get xs n ≡ Some x → n < length xs
below_length [] n x e = absurd cc
below_length (y ∷ ys) zero x e = omega arith
below_length (y ∷ ys) (suc n) x e = let r = below_length ys n x e in omega (arith, r)

-- an item of a list with one more
get_more : {A : Type 0} (xs : List A) (x : A) (n : ℕ) (y : A) → slice_get (xs ++ x ∷ []) n ≡ Some y → (slice_get xs n ≡ Some y) ⊎ ((n ≡ length xs) × (y ≡ x))
get_more [] x zero y e = inr (refl, sym (some-injective x y e))
get_more [] x (suc n) y e = absurd cc
get_more (z ∷ zs) x zero y e = inl e
get_more (z ∷ zs) x (suc n) y e = one_less (get_more zs x n y e)
  where
    one_less : (slice_get zs n ≡ Some y) ⊎ ((n ≡ length zs) × (y ≡ x)) → (slice_get (z ∷ zs) (suc n) ≡ Some y) ⊎ ((suc n ≡ length (z ∷ zs)) × (y ≡ x))
    one_less (inl h) = inl h
    one_less (inr h) = inr (ap suc h.0, h.1)

length_more : {A : Type 0} (xs : List A) (x : A) → length (xs ++ x ∷ []) ≡ length xs + 1
length_more [] x = refl
length_more (y ∷ ys) x = let r = length_more ys x in omega (arith, r)

-- ---- a table whose rows tell of a machine's sessions, with the same queue

pub with_session_tells : (language : Language) (m : Machine) (table new : SessionTable) (s : ℕ) (f : SessionRow → SessionRow) (x : Session) → Tells language m table
    → new.sessions ≡ updated table.sessions s f → new.queue.items ≡ table.queue.items
    → ((row : SessionRow) → slice_get table.sessions s ≡ Some row → RowTells language row (m.sessions s) → RowTells language (f row) x) → Tells language (move.with_session m s x) new
with_session_tells language m table new s f x tells rows queue moves = record {
  joined = ap length rows ∙ updated_length table.sessions s f ∙ tells.joined;
  rows = λ t row at. one_moves language m.sessions table.sessions s f x tells.rows moves t row (ap (λ xs. slice_get xs t) (sym rows) ∙ at);
  waiting = ap length queue ∙ tells.waiting;
  queue = λ i item at. tells.queue i item (ap (λ xs. slice_get xs i) (sym queue) ∙ at);
}

-- ---- the start, and sessions that join

pub start_tells : (language : Language) → StartTells language
start_tells language nodes first base table rows queue = record {
  joined = ap length rows;
  rows = λ s row at. absurd (let none : slice_get table.sessions s ≡ None = ap (λ xs. slice_get xs s) rows in cc);
  waiting = ap length queue;
  queue = λ i item at. absurd (let none : slice_get table.queue.items i ≡ None = ap (λ xs. slice_get xs i) queue in cc);
}

idle_tells : (language : Language) (n : ℕ) → RowTells language (idle_on n) (idle n)
idle_tells language n = record { node = refl; place = (refl, refl, refl); asked = tt; rest = λ e. refl }

pub join_tells : (language : Language) → JoinTells language
join_tells language m table name n tells = (
  (none_forced language m table tells, refl, refl),
  record {
    joined = length_more table.sessions (idle_on n) ∙ ap (λ k. k + 1) tells.joined;
    rows = joined_row;
    waiting = tells.waiting;
    queue = tells.queue;
  },
)
  where
    joined_row : (t : ℕ) (row : SessionRow) → slice_get (table.sessions ++ idle_on n ∷ []) t ≡ Some row → RowTells language row (put m.sessions m.joined (idle n) t)
    joined_row t row at = by_place (get_more table.sessions (idle_on n) t row at)
      where
        by_place : (slice_get table.sessions t ≡ Some row) ⊎ ((t ≡ length table.sessions) × (row ≡ idle_on n)) → RowTells language row (put m.sessions m.joined (idle n) t)
        by_place (inl h) =
            let p = below_length table.sessions t row h in
            let long : length table.sessions ≡ m.joined = tells.joined in
            let other : t ≢ m.joined = omega (arith, p, long) in
            subst (λ y. RowTells language row y) (sym (put_beside m.sessions m.joined t (idle n) other)) (tells.rows t row h)
        by_place (inr h) =
            let here : t ≡ m.joined = h.0 ∙ tells.joined in
            subst (λ k. RowTells language row (put m.sessions m.joined (idle n) k)) (sym here)
            (subst (λ y. RowTells language row y) (sym (put_here m.sessions m.joined (idle n)))
            (subst (λ r. RowTells language r (idle n)) (sym h.1) (idle_tells language n)))

-- ---- a statement

asking_is : (up lost : Bool) (read : Result Stmt ℕ) (x : Session) → up ≡ true → x.lost ≡ false → move.asking up read x ≡ record x { statement = Some (move.fresh read) }
asking_is up lost read x u l =
    ap (λ b. if not b then record x { statement = Some (move.forced reply.Unavailable (move.fresh read)) } else (if x.lost then record x { lost = false; statement = Some (move.forced reply.Lost (move.fresh read)) } else record x { statement = Some (move.fresh read) })) u
    ∙ ap (λ b. if b then record x { lost = false; statement = Some (move.forced reply.Lost (move.fresh read)) } else record x { statement = Some (move.fresh read) }) l

-- one that is not to be told of a lost transaction
pub not_lost : (p : Place) (lasting : Bool) (x : Session) → PlaceTells p lasting x → p ≢ Lost → x.lost ≡ false
not_lost Idle lasting x h d = h.1
not_lost (Active snap own) lasting x h d = h.4
not_lost Lost lasting x h d = absurd (d refl)

-- the statement moves, and the transaction stays
place_stays : (p : Place) (lasting : Bool) (x : Session) (a : Option Statement) → PlaceTells p lasting x → p ≢ Lost → PlaceTells p lasting (record x { statement = a })
place_stays Idle lasting x a h d = h
place_stays (Active snap own) lasting x a h d = h
place_stays Lost lasting x a h d = absurd (d refl)

pub submit_tells : (language : Language) → SubmitTells language
submit_tells language m table s row text read turn uses given up place =
    let told = given.tells.rows s row given.there in
    let below = below_length table.sessions s row given.there in
    let long : length table.sessions ≡ m.joined = given.tells.joined in
    let lost = not_lost row.place row.lasting (m.sessions s) told.place place in
    let up_there : m.up (m.sessions s).node ≡ true = ap m.up told.node ∙ up in
    let asks = asking_is (m.up (m.sessions s).node) (m.sessions s).lost read (m.sessions s) up_there lost in (
      (read, none_forced language m table given.tells, omega (arith, below, long), none_asked language row.asked (m.sessions s).statement told.asked given.free, given.parses, refl),
      with_session_tells language m table (with_row table s (submitted text (class_of (result_ok read)) turn uses)) s (submitted text (class_of (result_ok read)) turn uses) (move.asking (m.up (m.sessions s).node) read (m.sessions s)) given.tells refl refl
          (λ r at h. subst (λ y. RowTells language (submitted text (class_of (result_ok read)) turn uses r) y) (sym asks) (asked r at h)),
    )
  where
    asked : (r : SessionRow) → slice_get table.sessions s ≡ Some r → RowTells language r (m.sessions s) → RowTells language (submitted text (class_of (result_ok read)) turn uses r) (record (m.sessions s) { statement = Some (move.fresh read) })
    asked r at h =
        let same : r ≡ row = some-injective r row (sym at ∙ given.there) in record {
          node = h.node;
          place = place_stays r.place r.lasting (m.sessions s) (Some (move.fresh read)) h.place (λ e. place (ap (λ q. q.place) (sym same) ∙ e));
          asked = (given.parses, refl, refl);
          rest = λ e. absurd cc;
        }

-- a statement that runs is there
running_there : (x : Session) (st : Stmt) (a : Option Statement) → x.statement ≡ a → running x ≡ Some st → a ≢ None
running_there x st None e r = λ n. let none : running x ≡ None = ap (λ o. option_and_then (λ q. if q.stopped then None else result_ok q.read) o) e in cc
running_there x st (Some a) e r = λ n. cc

pub is_not_lost : (p : Place) (lasting : Bool) (x : Session) → PlaceTells p lasting x → x.statement ≢ None → p ≢ Lost
is_not_lost Idle lasting x h some = λ e. cc
is_not_lost (Active snap own) lasting x h some = λ e. cc
is_not_lost Lost lasting x h some = absurd (some h.3)

pub snap_tells : (language : Language) → SnapTells language
snap_tells language m table s tells may = (
  (none_forced language m table tells, may, refl),
  with_session_tells language m table (with_row table s (snapped m.count)) s (snapped m.count) (record (m.sessions s) { transaction = Some (move.snapshot m.count) }) tells refl refl
      (λ r at h. record {
        node = h.node;
        place = (move.snapshot m.count, refl, refl, refl, not_lost r.place r.lasting (m.sessions s) h.place (is_not_lost r.place r.lasting (m.sessions s) h.place (running_there (m.sessions s) may.statement (m.sessions s).statement refl may.runs)));
        asked = h.asked;
        rest = λ e. absurd (running_there (m.sessions s) may.statement (m.sessions s).statement refl may.runs (none_asked language r.asked (m.sessions s).statement h.asked e));
      }),
)

-- ---- what the table does not tell

-- a session moves, and its row does not
same_row : (language : Language) (sessions : ℕ → Session) (rows : List SessionRow) (s : ℕ) (x : Session) → RowsTell language sessions rows
    → ((row : SessionRow) → slice_get rows s ≡ Some row → RowTells language row (sessions s) → RowTells language row x) → RowsTell language (put sessions s x) rows
same_row language sessions rows s x tells moves t row at = by_place (either t s)
  where
    by_place : (t ≡ s) ⊎ (t ≢ s) → RowTells language row (put sessions s x t)
    by_place (inl e) =
        let here : slice_get rows s ≡ Some row = ap (slice_get rows) (sym e) ∙ at in
        subst (λ k. RowTells language row (put sessions s x k)) (sym e) (subst (λ y. RowTells language row y) (sym (put_here sessions s x)) (moves row here (tells s row here)))
    by_place (inr d) = subst (λ y. RowTells language row y) (sym (put_beside sessions s t x d)) (tells t row at)

told_asked : (language : Language) (q : Option Asked) (a : Option Statement) (f : Statement → Statement) → ((b : Statement) → (f b).read ≡ b.read) → ((b : Statement) → (f b).stopped ≡ b.stopped) → AskedTells language q a → AskedTells language q (option_map f a)
told_asked language None None f r t h = tt
told_asked language None (Some a) f r t h = absurd h
told_asked language (Some q) None f r t h = absurd h
told_asked language (Some q) (Some a) f r t h =
    (subst (λ b. language.parses q.text b) (sym (r a)) h.0, h.1 ∙ ap (λ b. class_of (result_ok b)) (sym (r a)), t a ∙ h.2)

none_mapped : (o : Option Statement) (f : Statement → Statement) → o ≡ None → option_map f o ≡ None
none_mapped o f e = ap (option_map f) e

told_place : (p : Place) (lasting : Bool) (x : Session) (e : Evaluated) → PlaceTells p lasting x → PlaceTells p lasting (move.told_session e x)
told_place Idle lasting x e h = (ap (option_map (move.joins e.changes)) h.0, h.1, h.2)
told_place (Active snap own) lasting x e h = (move.joins e.changes h.0, ap (option_map (move.joins e.changes)) h.1, h.2, h.3, h.4)
told_place Lost lasting x e h = (ap (option_map (move.joins e.changes)) h.0, h.1, h.2, none_mapped x.statement (move.is_told e) h.3)

pub exec_tells : (language : Language) → ExecTells language
exec_tells language m new table s tells step =
    let x = move.told_session (evaluated m s step.0 step.1) (m.sessions s) in
    subst (λ n. Tells language n table) (sym step.4) (record {
      joined = tells.joined;
      rows = same_row language m.sessions table.sessions s x tells.rows (λ row at h. record {
        node = h.node;
        place = told_place row.place row.lasting (m.sessions s) (evaluated m s step.0 step.1) h.place;
        asked = told_asked language row.asked (m.sessions s).statement (move.is_told (evaluated m s step.0 step.1)) (λ b. refl) (λ b. refl) h.asked;
        rest = h.rest;
      });
      waiting = tells.waiting;
      queue = tells.queue;
    })

pub nodes_tell : (language : Language) → NodesTell language
nodes_tell language m new table (entry.Up n) tells is step = subst (λ q. Tells language q table) (sym step.2) (record { joined = tells.joined; rows = tells.rows; waiting = tells.waiting; queue = tells.queue })
nodes_tell language m new table (entry.Opened n) tells is step = subst (λ q. Tells language q table) (sym step.4) (record { joined = tells.joined; rows = tells.rows; waiting = tells.waiting; queue = tells.queue })
nodes_tell language m new table (entry.Ignored line) tells is step = subst (λ q. Tells language q table) (sym step.1) (record { joined = tells.joined; rows = tells.rows; waiting = tells.waiting; queue = tells.queue })
nodes_tell language m new table (entry.Missed line) tells is step = subst (λ q. Tells language q table) (sym step.1) (record { joined = tells.joined; rows = tells.rows; waiting = tells.waiting; queue = tells.queue })
nodes_tell language m new table (entry.End ss) tells is step = subst (λ q. Tells language q table) (sym step.2) (record { joined = tells.joined; rows = tells.rows; waiting = tells.waiting; queue = tells.queue })
nodes_tell language m new table (entry.Join _ _ _) tells is step = absurd is
nodes_tell language m new table (entry.Submit _ _) tells is step = absurd is
nodes_tell language m new table (entry.Snap _) tells is step = absurd is
nodes_tell language m new table (entry.Exec _) tells is step = absurd is
nodes_tell language m new table (entry.Enqueue _) tells is step = absurd is
nodes_tell language m new table entry.Settle tells is step = absurd is
nodes_tell language m new table (entry.Forget _) tells is step = absurd is
nodes_tell language m new table (entry.Reply _ _) tells is step = absurd is
nodes_tell language m new table (entry.Timer _) tells is step = absurd is
nodes_tell language m new table (entry.Down _ _) tells is step = absurd is

pub forget_tells : (language : Language) → ForgetTells language
forget_tells language m new table k tells step = subst (λ q. Tells language q (record table { queue = record (table.queue) { items = [] } })) (sym step.3) (record {
  joined = tells.joined;
  rows = tells.rows;
  waiting = refl;
  queue = λ i item at. absurd cc;
})

-- ---- commits

queued_asked : (language : Language) (q : Option Asked) (a : Option Statement) → AskedTells language q a → AskedTells language q (option_map move.in_queue a)
queued_asked language q a h = told_asked language q a move.in_queue (λ b. refl) (λ b. refl) h

one_queued : (m : Machine) (items : List Queued) (s end : ℕ) → length items ≡ m.waiting → ((i : ℕ) (item : Queued) → slice_get items i ≡ Some item → QueuedTells m i item)
    → (i : ℕ) (item : Queued) → slice_get (items ++ (record { owner = Some s; stamp = last m + 1; end = end }) ∷ []) i ≡ Some item
    → (item.stamp ≡ m.count + 1 + i) × (item.owner ≡ put m.owner (last m + 1) (Some s) (m.count + 1 + i))
one_queued m items s end waiting told i item at = by_place (get_more items (record { owner = Some s; stamp = last m + 1; end = end }) i item at)
  where
    by_place : (slice_get items i ≡ Some item) ⊎ ((i ≡ length items) × (item ≡ record { owner = Some s; stamp = last m + 1; end = end })) → (item.stamp ≡ m.count + 1 + i) × (item.owner ≡ put m.owner (last m + 1) (Some s) (m.count + 1 + i))
    by_place (inl h) =
        let below = below_length items i item h in
        let other : m.count + 1 + i ≢ last m + 1 = omega (arith, below, waiting) in
        ((told i item h).0, (told i item h).1 ∙ sym (put_beside m.owner (last m + 1) (m.count + 1 + i) (Some s) other))
    by_place (inr h) =
        let place : last m + 1 ≡ m.count + 1 + i = let here = h.0 in omega (arith, here, waiting) in
        (ap (λ q. q.stamp) h.1 ∙ place, ap (λ q. q.owner) h.1 ∙ (sym (put_here m.owner (last m + 1) (Some s)) ∙ ap (put m.owner (last m + 1) (Some s)) place))

pub enqueue_tells : (language : Language) → EnqueueTells language
enqueue_tells language m new table s end tells step =
    let item : Queued = record { owner = Some s; stamp = last m + 1; end = end } in
    subst (λ q. Tells language q (record table { sessions = updated table.sessions s enqueued; queue = record (table.queue) { items = table.queue.items ++ item ∷ [] } })) (sym step.2) (record {
      joined = updated_length table.sessions s enqueued ∙ tells.joined;
      rows = one_moves language m.sessions table.sessions s enqueued (move.queued_session (m.sessions s)) tells.rows (λ r at h. record {
        node = h.node;
        place = (refl, not_lost r.place r.lasting (m.sessions s) h.place (is_not_lost r.place r.lasting (m.sessions s) h.place (running_there (m.sessions s) step.1.statement (m.sessions s).statement refl step.1.runs)), refl);
        asked = queued_asked language r.asked (m.sessions s).statement h.asked;
        rest = λ e. refl;
      });
      waiting = length_more table.queue.items item ∙ ap (λ k. k + 1) tells.waiting;
      queue = one_queued m table.queue.items s end tells.waiting tells.queue;
    })

settled_place : (p : Place) (lasting : Bool) (x : Session) → PlaceTells p lasting x → PlaceTells p lasting (move.settled_session x)
settled_place Idle lasting x h = h
settled_place (Active snap own) lasting x h = h
settled_place Lost lasting x h = (h.0, h.1, h.2, none_mapped x.statement move.is_made h.3)

settled_row : (language : Language) (row : SessionRow) (x : Session) (waits : Bool) → RowTells language row x → RowTells language row (if waits then move.settled_session x else x)
settled_row language row x true h = record {
  node = h.node;
  place = settled_place row.place row.lasting x h.place;
  asked = told_asked language row.asked x.statement move.is_made (λ b. refl) (λ b. refl) h.asked;
  rest = h.rest;
}
settled_row language row x false h = h

length_rest : (items : List Queued) → length (rest items) ≡ length items - 1
length_rest [] = refl
length_rest (item ∷ items) = let long : length items ≡ suc (length items) - 1 = omega arith in long

get_rest : (items : List Queued) (i : ℕ) (item : Queued) → slice_get (rest items) i ≡ Some item → slice_get items (suc i) ≡ Some item
get_rest [] i item e = absurd cc
get_rest (first ∷ items) i item e = e

pub settle_tells : (language : Language) → SettleTells language
settle_tells language m new table tells step = subst (λ q. Tells language q (record table { queue = record (table.queue) { items = rest table.queue.items } })) (sym step.3) (record {
  joined = tells.joined;
  rows = λ t row at. settled_row language row (m.sessions t) (is_some_of (m.owner (m.count + 1)) t) (tells.rows t row at);
  waiting = length_rest table.queue.items ∙ ap (λ k. k - 1) tells.waiting;
  queue = λ i item at.
      let told = tells.queue (suc i) item (get_rest table.queue.items i item at) in
      let place : m.count + 1 + suc i ≡ (m.count + 1) + 1 + i = omega arith in
      (told.0 ∙ place, told.1 ∙ ap m.owner place);
})
