-- What replies make of a table that tells of a machine, those that are forced among them.
use Rattle.std.proofs.Common.{◌≡◌, ◌≢◌, ◌⊎◌, inl, inr, ℕ, Bool, true, false, ◌&&◌, ◌||◌, not, if◌then◌else◌, List, [], ◌∷◌, length, slice_get, Option, Some, None, Result, option_and_then, ap, subst, sym, refl, arith, ◌∙◌}
use Rattle.std.specs.Option.{option_map_or}
use Rattle.std.specs.Result.{result_ok}
use Rattle.sql_statements.specs.declared.statements.Stmt.{Stmt}
use Rattle.sql_statements.specs.declared.statements.Stmt.TheVariants as stmt
use Rattle.sql_database.specs.declared.replies.SqlReply.{SqlReply}
use Rattle.sql_database.specs.declared.replies.SqlReply.TheVariants as reply
use Rattle.sql_database.specs.Replies.{is_done, is_giving_up}
use Rattle.sql_database.specs.Statements.{is_begin, is_ending, is_write}
use Rattle.table_machine.specs.declared.entries.Entry.TheVariants as entry
use Rattle.table_machine.specs.Language.{Language}
use Rattle.table_machine.specs.Machine.{Machine, Session, Statement, Transaction, is_stopped, running}
use Rattle.table_machine.specs.Moves as move
use Rattle.table_machine.specs.Moves.{put}
use Rattle.table_machine.specs.Replies.{MayReply}
use Rattle.table_machine.specs.Runs.{Leads}
use Rattle.session_state.specs.declared.classes.StatementClass.TheVariants.{Wrong}
use Rattle.session_state.specs.declared.places.Asked.{Asked}
use Rattle.session_state.specs.declared.places.Place.{Place}
use Rattle.session_state.specs.declared.places.Place.TheVariants.{Idle, Active, Lost}
use Rattle.session_state.specs.declared.places.SessionRow.{SessionRow}
use Rattle.session_state.specs.declared.places.SessionTable.{SessionTable}
use Rattle.session_state.specs.Laws.{LostTells, RefusalTells, ReplyTells, Submitting, with_row}
use Rattle.session_state.specs.Rows.{begins, changes, class_asked, class_of, class_of_statement, closed, counted, told_lost, ends, is_active, lasts, replied, updated, without_transaction}
use Rattle.session_state.specs.Telling.{AskedTells, PlaceTells, RowTells, Tells}
use Rattle.session_state.specs.Waiting.{moved}
use Rattle.session_state.proofs.Entries.{below_length, is_not_lost, none_asked, none_forced, not_stopped, with_session_tells}
use Rattle.session_state.proofs.Moving.{RowsTell, either, one_moves, put_beside, put_here, some-injective, updated_length}

-- ---- classes of statements

statement_ends : (st : Stmt) → ends (class_of_statement st) ≡ is_ending st
statement_ends (stmt.Create s) = refl
statement_ends (stmt.Insert t names rows) = refl
statement_ends (stmt.Update t sets test) = refl
statement_ends (stmt.Delete t test) = refl
statement_ends (stmt.Select q) = refl
statement_ends stmt.Begin = refl
statement_ends stmt.Commit = refl
statement_ends stmt.Rollback = refl

statement_begins : (st : Stmt) → begins (class_of_statement st) ≡ is_begin st
statement_begins (stmt.Create s) = refl
statement_begins (stmt.Insert t names rows) = refl
statement_begins (stmt.Update t sets test) = refl
statement_begins (stmt.Delete t test) = refl
statement_begins (stmt.Select q) = refl
statement_begins stmt.Begin = refl
statement_begins stmt.Commit = refl
statement_begins stmt.Rollback = refl

statement_changes : (st : Stmt) → changes (class_of_statement st) ≡ is_write st || is_ending st
statement_changes (stmt.Create s) = refl
statement_changes (stmt.Insert t names rows) = refl
statement_changes (stmt.Update t sets test) = refl
statement_changes (stmt.Delete t test) = refl
statement_changes (stmt.Select q) = refl
statement_changes stmt.Begin = refl
statement_changes stmt.Commit = refl
statement_changes stmt.Rollback = refl

read_ends : (st : Option Stmt) → ends (class_of st) ≡ option_map_or is_ending st false
read_ends None = refl
read_ends (Some st) = statement_ends st

read_begins : (st : Option Stmt) → begins (class_of st) ≡ option_map_or is_begin st false
read_begins None = refl
read_begins (Some st) = statement_begins st

pub read_changes : (st : Option Stmt) → changes (class_of st) ≡ option_map_or (λ s. is_write s || is_ending s) st false
read_changes None = refl
read_changes (Some st) = statement_changes st

-- the class that a row keeps is that of its session's statement
pub asked_class : (language : Language) (row : SessionRow) (x : Session) (q : Option Asked) (a : Option Statement) → row.asked ≡ q → x.statement ≡ a → AskedTells language q a → class_asked row ≡ class_of (move.asked x)
asked_class language row x None None e f h =
    ap (λ o. option_map_or (λ k. k.class) o Wrong) e ∙ sym (ap (λ o. class_of (option_and_then (λ b. result_ok b.read) o)) f)
asked_class language row x None (Some a) e f h = absurd h
asked_class language row x (Some q) None e f h = absurd h
asked_class language row x (Some q) (Some a) e f h =
    ap (λ o. option_map_or (λ k. k.class) o Wrong) e ∙ (h.1 ∙ sym (ap (λ o. class_of (option_and_then (λ b. result_ok b.read) o)) f))

-- ---- after a reply

-- the transaction after a reply, by what the reply and the statement are
abbrev pub kept : (gives ends_it begins_it : Bool) → Transaction → Option Transaction
kept gives ends_it begins_it t = if gives || ends_it then None else (if begins_it then Some (record t { lasting = true }) else (if t.lasting then Some t else None))

abbrev pub row_kept : (gives ends_it begins_it : Bool) → SessionRow → SessionRow
row_kept gives ends_it begins_it row =
    if gives || ends_it then without_transaction row
    else (if begins_it then lasts (is_active row.place) row else (if row.lasting then lasts true row else without_transaction row))

-- a session whose statement is answered, with this transaction
abbrev pub answered_with : Session → Option Transaction → Session
answered_with x t = record x { transaction = t; statement = None }

place_closed : (p : Place) (lasting : Bool) (x : Session) → PlaceTells p lasting x → p ≢ Lost → PlaceTells (closed p) false (answered_with x None)
place_closed Idle lasting x h d = (refl, h.1, refl)
place_closed (Active snap own) lasting x h d = (refl, h.4, refl)
place_closed Lost lasting x h d = absurd (d refl)

then_none : (o : Option Transaction) (f : Transaction → Option Transaction) → ((t : Transaction) → f t ≡ None) → option_and_then f o ≡ None
then_none None f h = refl
then_none (Some t) f h = h t

place_begun : (p : Place) (lasting : Bool) (x : Session) → PlaceTells p lasting x → p ≢ Lost → PlaceTells p (is_active p) (answered_with x (option_and_then (kept false false true) x.transaction))
place_begun Idle lasting x h d = (ap (option_and_then (kept false false true)) h.0, h.1, refl)
place_begun (Active snap own) lasting x h d = (record (h.0) { lasting = true }, ap (option_and_then (kept false false true)) h.1, h.2, refl, h.4)
place_begun Lost lasting x h d = absurd (d refl)

lasting_kept : (t : Transaction) (l : Bool) → t.lasting ≡ l → kept false false false t ≡ (if l then Some t else None)
lasting_kept t l e = ap (λ b. if b then Some t else None) e

place_lasts : (p : Place) (x : Session) → PlaceTells p true x → p ≢ Lost → PlaceTells p true (answered_with x (option_and_then (kept false false false) x.transaction))
place_lasts Idle x h d = absurd (let no : true ≡ false = h.2 in cc)
place_lasts (Active snap own) x h d = (h.0, ap (option_and_then (kept false false false)) h.1 ∙ lasting_kept h.0 true h.3, h.2, h.3, h.4)
place_lasts Lost x h d = absurd (d refl)

place_ends : (p : Place) (x : Session) → PlaceTells p false x → p ≢ Lost → PlaceTells (closed p) false (answered_with x (option_and_then (kept false false false) x.transaction))
place_ends Idle x h d = (ap (option_and_then (kept false false false)) h.0, h.1, refl)
place_ends (Active snap own) x h d = (ap (option_and_then (kept false false false)) h.1 ∙ lasting_kept h.0 false h.3, h.4, refl)
place_ends Lost x h d = absurd (d refl)

pub closed_is_shut : (p : Place) → is_active (closed p) ≡ false
closed_is_shut Idle = refl
closed_is_shut (Active snap own) = refl
closed_is_shut Lost = refl

pub lasting_is_open : (p : Place) (x : Session) → PlaceTells p true x → is_active p ≡ true
lasting_is_open Idle x h = absurd (let no : true ≡ false = h.2 in cc)
lasting_is_open (Active snap own) x h = refl
lasting_is_open Lost x h = absurd (let no : true ≡ false = h.2 in cc)

closed_row : (language : Language) (row : SessionRow) (x : Session) (f : Transaction → Option Transaction) → RowTells language row x → row.place ≢ Lost → ((t : Transaction) → f t ≡ None) → RowTells language (without_transaction row) (answered_with x (option_and_then f x.transaction))
closed_row language row x f h d none = record {
  node = h.node;
  place = subst (λ o. PlaceTells (closed row.place) false (answered_with x o)) (sym (then_none x.transaction f none)) (place_closed row.place row.lasting x h.place d);
  asked = tt;
  rest = λ e. closed_is_shut row.place;
}

stays_row : (language : Language) (row : SessionRow) (x : Session) (l : Bool) → row.lasting ≡ l → RowTells language row x → row.place ≢ Lost
    → RowTells language (if l then lasts true row else without_transaction row) (answered_with x (option_and_then (kept false false false) x.transaction))
stays_row language row x true e h d = record { node = h.node; place = place_lasts row.place x (subst (λ l. PlaceTells row.place l x) e h.place) d; asked = tt; rest = λ n. lasting_is_open row.place x (subst (λ l. PlaceTells row.place l x) e h.place) }
stays_row language row x false e h d = record { node = h.node; place = place_ends row.place x (subst (λ l. PlaceTells row.place l x) e h.place) d; asked = tt; rest = λ n. closed_is_shut row.place }

pub after_row : (language : Language) (gives ends_it begins_it : Bool) (row : SessionRow) (x : Session) → RowTells language row x → row.place ≢ Lost
    → RowTells language (row_kept gives ends_it begins_it row) (answered_with x (option_and_then (kept gives ends_it begins_it) x.transaction))
after_row language true e b row x h d = closed_row language row x (kept true e b) h d (λ t. refl)
after_row language false true b row x h d = closed_row language row x (kept false true b) h d (λ t. refl)
after_row language false false true row x h d = record { node = h.node; place = place_begun row.place row.lasting x h.place d; asked = tt; rest = λ n. refl }
after_row language false false false row x h d = stays_row language row x row.lasting refl h d

-- a row and its session after one reply
pub replied_row : (language : Language) (row : SessionRow) (x : Session) (r : SqlReply) → RowTells language row x → row.place ≢ Lost → RowTells language (replied r row) (move.answered_session r x)
replied_row language row x r h d =
    let class = asked_class language row x row.asked x.statement refl refl h.asked in
    let ends_it : ends (class_asked row) ≡ option_map_or is_ending (move.asked x) false = ap ends class ∙ read_ends (move.asked x) in
    let begins_it : begins (class_asked row) ≡ option_map_or is_begin (move.asked x) false = ap begins class ∙ read_begins (move.asked x) in
    subst (λ e. RowTells language (row_kept (is_giving_up r) (e && is_done r) (begins (class_asked row) && is_done r) row) (move.answered_session r x)) (sym ends_it)
    (subst (λ b. RowTells language (row_kept (is_giving_up r) (option_map_or is_ending (move.asked x) false && is_done r) (b && is_done r) row) (move.answered_session r x)) (sym begins_it)
    (after_row language (is_giving_up r) (option_map_or is_ending (move.asked x) false && is_done r) (option_map_or is_begin (move.asked x) false && is_done r) row x h d))

-- ---- a reply that is not forced

-- a session that is answered has a statement
asked_by : (language : Language) (m : Machine) (table : SessionTable) (s : ℕ) (row : SessionRow) (r : SqlReply) → Tells language m table → slice_get table.sessions s ≡ Some row → MayReply m s r → (m.sessions s).statement ≢ None
asked_by language m table s row r tells at (inl forced) =
    absurd (let going : is_stopped (m.sessions s) ≡ false = not_stopped language row.asked (m.sessions s).statement (tells.rows s row at).asked in let stopped = forced.stopped in cc)
asked_by language m table s row r tells at (inr (free, inl syntax)) = λ e. let has = syntax.has in cc
asked_by language m table s row r tells at (inr (free, inr run)) = λ e.
    let none : running (m.sessions s) ≡ None = ap (λ o. option_and_then (λ q. if q.stopped then None else result_ok q.read) o) e in
    let some = run.1 in cc

pub reply_tells : (language : Language) → ReplyTells language
reply_tells language m new table s r tells step = subst (λ q. Tells language q (moved table s (replied r))) (sym step.1)
    (with_session_tells language m table (moved table s (replied r)) s (replied r) (move.answered_session r (m.sessions s)) tells refl refl
    (λ row at h. replied_row language row (m.sessions s) r h (is_not_lost row.place row.lasting (m.sessions s) h.place (asked_by language m table s row r tells at step.0))))

-- ---- replies that are forced

-- a session moves, and then once more by its reply
pair_is : (sessions : ℕ → Session) (s : ℕ) (y : Session) (r : SqlReply) (t : ℕ) → put (put sessions s y) s (move.answered_session r (put sessions s y s)) t ≡ put sessions s (move.answered_session r y) t
pair_is sessions s y r t = by_place (either t s)
  where
    by_place : (t ≡ s) ⊎ (t ≢ s) → put (put sessions s y) s (move.answered_session r (put sessions s y s)) t ≡ put sessions s (move.answered_session r y) t
    by_place (inl e) =
        ap (put (put sessions s y) s (move.answered_session r (put sessions s y s))) e
        ∙ (put_here (put sessions s y) s (move.answered_session r (put sessions s y s))
        ∙ (ap (move.answered_session r) (put_here sessions s y)
        ∙ (sym (put_here sessions s (move.answered_session r y)) ∙ ap (put sessions s (move.answered_session r y)) (sym e))))
    by_place (inr d) =
        put_beside (put sessions s y) s t (move.answered_session r (put sessions s y s)) d
        ∙ (put_beside sessions s t y d ∙ sym (put_beside sessions s t (move.answered_session r y) d))

pub pair_tells : (language : Language) (sessions : ℕ → Session) (rows : List SessionRow) (s : ℕ) (f : SessionRow → SessionRow) (y : Session) (r : SqlReply) → RowsTell language sessions rows
    → ((row : SessionRow) → slice_get rows s ≡ Some row → RowTells language row (sessions s) → RowTells language (f row) (move.answered_session r y))
    → RowsTell language (put (put sessions s y) s (move.answered_session r (put sessions s y s))) (updated rows s f)
pair_tells language sessions rows s f y r tells moves t row at =
    subst (λ x. RowTells language row x) (sym (pair_is sessions s y r t)) (one_moves language sessions rows s f (move.answered_session r y) tells moves t row at)

-- the statement is stopped with this reply
pub forced_may : (m : Machine) (s : ℕ) (y : Session) (a : Statement) (r : SqlReply) → y.statement ≡ Some (move.forced r a) → m.sessions s ≡ y → MayReply m s r
forced_may m s y a r has here = inl (record {
  stopped = ap is_stopped here ∙ ap (λ o. option_map_or (λ q. q.stopped) o false) has;
  due = ap (λ x. option_and_then (λ q. q.due) x.statement) here ∙ ap (option_and_then (λ q. q.due)) has;
})

and_false : (b : Bool) → b && false ≡ false
and_false true = refl
and_false false = refl

-- after a reply that neither is done nor gives up
pub stays_is : (st : Option Stmt) (t : Transaction) → move.stays st reply.Unavailable t ≡ (if t.lasting then Some t else None)
stays_is st t =
    ap (λ b. if b then None else (if option_map_or is_begin st false && false then Some (record t { lasting = true }) else (if t.lasting then Some t else None))) (and_false (option_map_or is_ending st false))
    ∙ ap (λ b. if b then Some (record t { lasting = true }) else (if t.lasting then Some t else None)) (and_false (option_map_or is_begin st false))

-- a session that has no statement keeps what it has when one is refused
refused_place : (p : Place) (lasting : Bool) (x : Session) (a : Statement) → PlaceTells p lasting x → is_active p ≡ lasting
    → PlaceTells p lasting (move.answered_session reply.Unavailable (record x { statement = Some a }))
refused_place Idle lasting x a h rest = (ap (option_and_then (move.stays (result_ok a.read) reply.Unavailable)) h.0, h.1, h.2)
refused_place (Active snap own) lasting x a h rest =
    let on : h.0.lasting ≡ true = h.3 ∙ sym rest in
    (h.0, ap (option_and_then (move.stays (result_ok a.read) reply.Unavailable)) h.1 ∙ (stays_is (result_ok a.read) h.0 ∙ ap (λ b. if b then Some h.0 else None) on), h.2, h.3, h.4)
refused_place Lost lasting x a h rest = (ap (option_and_then (move.stays (result_ok a.read) reply.Unavailable)) h.0, h.1, h.2, refl)

none_tells : (language : Language) (q : Option Asked) → q ≡ None → AskedTells language q None
none_tells language None e = tt
none_tells language (Some q) e = absurd cc

refused_is : (up : Bool) (read : Result Stmt ℕ) (x : Session) → up ≡ false → move.asking up read x ≡ record x { statement = Some (move.forced reply.Unavailable (move.fresh read)) }
refused_is up read x u =
    ap (λ b. if not b then record x { statement = Some (move.forced reply.Unavailable (move.fresh read)) } else (if x.lost then record x { lost = false; statement = Some (move.forced reply.Lost (move.fresh read)) } else record x { statement = Some (move.fresh read) })) u

lost_is : (up : Bool) (read : Result Stmt ℕ) (x : Session) → up ≡ true → x.lost ≡ true → move.asking up read x ≡ record x { lost = false; statement = Some (move.forced reply.Lost (move.fresh read)) }
lost_is up read x u l =
    ap (λ b. if not b then record x { statement = Some (move.forced reply.Unavailable (move.fresh read)) } else (if x.lost then record x { lost = false; statement = Some (move.forced reply.Lost (move.fresh read)) } else record x { statement = Some (move.fresh read) })) u
    ∙ ap (λ b. if b then record x { lost = false; statement = Some (move.forced reply.Lost (move.fresh read)) } else record x { statement = Some (move.fresh read) }) l

-- a statement that is handed in and refused at once
refused_pair : (language : Language) (m : Machine) (table : SessionTable) (s : ℕ) (row : SessionRow) (text : List ℕ) (read : Result Stmt ℕ) (r : SqlReply) (f : SessionRow → SessionRow) (y : Session)
    → Submitting language m table s row text read → move.asking (m.up (m.sessions s).node) read (m.sessions s) ≡ y → y.statement ≡ Some (move.forced r (move.fresh read))
    → RowTells language (f row) (move.answered_session r y)
    → (new : Machine) × Leads language m (entry.Submit s text ∷ (entry.Reply s r ∷ [])) new × Tells language new (with_row table s f)
refused_pair language m table s row text read r f y given is has moves =
    let first = move.submitted m s read in
    let told = given.tells.rows s row given.there in
    let below = below_length table.sessions s row given.there in
    let long : length table.sessions ≡ m.joined = given.tells.joined in
    let asks = move.asking (m.up (m.sessions s).node) read (m.sessions s) in
    let here : first.sessions s ≡ y = put_here m.sessions s asks ∙ is in (
      move.answered first s r,
      (
        first,
        (read, none_forced language m table given.tells, omega (arith, below, long), none_asked language row.asked (m.sessions s).statement told.asked given.free, given.parses, refl),
        (move.answered first s r, (forced_may first s y (move.fresh read) r has here, refl), refl),
      ),
      record {
        joined = updated_length table.sessions s f ∙ given.tells.joined;
        rows = pair_tells language m.sessions table.sessions s f asks r given.tells.rows
            (λ q at h. subst (λ z. RowTells language (f q) (move.answered_session r z)) (sym is) (subst (λ p. RowTells language (f p) (move.answered_session r y)) (some-injective row q (sym given.there ∙ at)) moves));
        waiting = given.tells.waiting;
        queue = given.tells.queue;
      },
    )

pub refusal_tells : (language : Language) → RefusalTells language
refusal_tells language m table s row text read given up =
    let told = given.tells.rows s row given.there in
    let x = m.sessions s in
    refused_pair language m table s row text read reply.Unavailable counted (record x { statement = Some (move.forced reply.Unavailable (move.fresh read)) }) given
    (refused_is (m.up x.node) read x (ap m.up told.node ∙ up)) refl (record {
      node = told.node;
      place = refused_place row.place row.lasting x (move.forced reply.Unavailable (move.fresh read)) told.place (told.rest given.free);
      asked = none_tells language row.asked given.free;
      rest = told.rest;
    })

lost_place : (p : Place) (lasting : Bool) (x : Session) → PlaceTells p lasting x → p ≡ Lost → (x.transaction ≡ None) × (x.lost ≡ true) × (lasting ≡ false)
lost_place Idle lasting x h e = absurd cc
lost_place (Active snap own) lasting x h e = absurd cc
lost_place Lost lasting x h e = (h.0, h.1, h.2)

pub lost_tells : (language : Language) → LostTells language
lost_tells language m table s row text read given up lost =
    let told = given.tells.rows s row given.there in
    let x = m.sessions s in
    let was = lost_place row.place row.lasting x told.place lost in
    refused_pair language m table s row text read reply.Lost told_lost (record x { lost = false; statement = Some (move.forced reply.Lost (move.fresh read)) }) given
    (lost_is (m.up x.node) read x (ap m.up told.node ∙ up) was.1) refl (record {
      node = told.node;
      place = (ap (option_and_then (move.stays (result_ok read) reply.Lost)) was.0, refl, was.2);
      asked = none_tells language row.asked given.free;
      rest = λ e. sym was.2;
    })
