-- What a timer and a node's fall make of a table that tells of a machine.
use Rattle.std.proofs.Common.{◌≡◌, ◌≢◌, ℕ, zero, suc, ◌+◌, Bool, true, false, ◌&&◌, ◌||◌, not, nat_eq, is_some, if◌then◌else◌, List, [], ◌∷◌, length, map, slice_get, Option, Some, None, option_map, option_and_then, ap, subst, sym, refl, arith, ◌∙◌}
use Rattle.std.specs.Option.{option_map_or}
use Rattle.sql_statements.specs.declared.statements.Stmt.{Stmt}
use Rattle.sql_database.specs.declared.replies.SqlReply.TheVariants as reply
use Rattle.sql_database.specs.Statements.{is_ending, is_write}
use Rattle.table_machine.specs.Language.{Language}
use Rattle.table_machine.specs.Machine.{Session, Statement, Transaction}
use Rattle.table_machine.specs.Moves as move
use Rattle.table_machine.specs.Moves.{is_in, is_in_some, put}
use Rattle.table_machine.specs.Steps.{MayTime}
use Rattle.session_state.specs.declared.places.Asked.{Asked}
use Rattle.session_state.specs.declared.places.Place.{Place}
use Rattle.session_state.specs.declared.places.Place.TheVariants.{Idle, Active, Lost}
use Rattle.session_state.specs.declared.places.SessionRow.{SessionRow}
use Rattle.session_state.specs.declared.queue.Queued.{Queued}
use Rattle.session_state.specs.Laws.{TimerTells}
use Rattle.session_state.specs.Rows.{changes, class_asked, closed, given_up, lasts, without_transaction}
use Rattle.session_state.specs.Telling.{AskedTells, PlaceTells, RowTells}
use Rattle.session_state.specs.Waiting.{disowned, disowned_item, is_of}
use Rattle.session_state.proofs.Entries.{is_not_lost, none_forced, not_stopped}
use Rattle.session_state.proofs.Moving.{put_here, some-injective, updated_length}
use Rattle.session_state.proofs.Replies.{asked_class, closed_is_shut, forced_may, lasting_is_open, pair_tells, read_changes, stays_is}

-- ---- a statement that is given up

abbrev pub is_changing : Option Stmt → Bool
is_changing st = option_map_or (λ s. is_write s || is_ending s) st false

outlasts_is : (st : Option Stmt) (t : Transaction) (l c : Bool) → t.lasting ≡ l → is_changing st ≡ c → move.outlasts st t ≡ (if l && not c then Some t else None)
outlasts_is st t l c e f = ap (λ b. if b && not (is_changing st) then Some t else None) e ∙ ap (λ b. if l && not b then Some t else None) f

-- what is left of a session's transaction when its statement is given up and it is told so
abbrev pub left_of : Option Stmt → Option Stmt → Option Transaction → Option Transaction
left_of st after t = option_and_then (move.stays after reply.Unavailable) (option_and_then (move.outlasts st) t)

abbrev pub left_in : Session → Option Stmt → Session
left_in x after = record x { transaction = left_of (move.asked x) after x.transaction; statement = None }

none_left : (p : Place) (l c : Bool) (x : Session) (after : Option Stmt) → PlaceTells p l x → is_changing (move.asked x) ≡ c → l && not c ≡ false → p ≢ Lost → PlaceTells (closed p) false (left_in x after)
none_left Idle l c x after h f stop d = (ap (left_of (move.asked x) after) h.0, h.1, refl)
none_left (Active snap own) l c x after h f stop d = (
  ap (left_of (move.asked x) after) h.1
      ∙ (ap (option_and_then (move.stays after reply.Unavailable)) (outlasts_is (move.asked x) h.0 l c h.3 f)
      ∙ ap (λ b. option_and_then (move.stays after reply.Unavailable) (if b then Some h.0 else None)) stop),
  h.4,
  refl,
)
none_left Lost l c x after h f stop d = absurd (d refl)

all_left : (p : Place) (x : Session) (after : Option Stmt) → PlaceTells p true x → is_changing (move.asked x) ≡ false → p ≢ Lost → PlaceTells p true (left_in x after)
all_left Idle x after h f d = absurd (let no : true ≡ false = h.2 in cc)
all_left (Active snap own) x after h f d = (
  h.0,
  ap (left_of (move.asked x) after) h.1
      ∙ (ap (option_and_then (move.stays after reply.Unavailable)) (outlasts_is (move.asked x) h.0 true false h.3 f)
      ∙ (stays_is after h.0 ∙ ap (λ b. if b then Some h.0 else None) h.3)),
  h.2,
  h.3,
  h.4,
)
all_left Lost x after h f d = absurd (d refl)

timed_row : (language : Language) (row : SessionRow) (x : Session) (after : Option Stmt) (l c : Bool) → row.lasting ≡ l → is_changing (move.asked x) ≡ c → RowTells language row x → row.place ≢ Lost
    → RowTells language (if l && not c then lasts true row else without_transaction row) (left_in x after)
timed_row language row x after true false e f h d =
    let place = subst (λ l. PlaceTells row.place l x) e h.place in
    record { node = h.node; place = all_left row.place x after place f d; asked = tt; rest = λ n. lasting_is_open row.place x place }
timed_row language row x after true true e f h d = record { node = h.node; place = none_left row.place row.lasting true x after h.place f (ap (λ b. b && not true) e) d; asked = tt; rest = λ n. closed_is_shut row.place }
timed_row language row x after false c e f h d = record { node = h.node; place = none_left row.place row.lasting c x after h.place f (ap (λ b. b && not c) e) d; asked = tt; rest = λ n. closed_is_shut row.place }

given_row : (language : Language) (row : SessionRow) (x : Session) → RowTells language row x → row.place ≢ Lost → RowTells language (given_up row) (move.answered_session reply.Unavailable (move.given_up x))
given_row language row x h d =
    let class = asked_class language row x row.asked x.statement refl refl h.asked in
    let same : changes (class_asked row) ≡ is_changing (move.asked x) = ap changes class ∙ read_changes (move.asked x) in
    subst (λ c. RowTells language (if row.lasting && not c then lasts true row else without_transaction row) (move.answered_session reply.Unavailable (move.given_up x))) (sym same)
    (timed_row language row x (move.asked (move.given_up x)) row.lasting (is_changing (move.asked x)) refl refl h d)

-- ---- the queue

record Mapped {A B : Type 0} (f : A → B) (xs : List A) (i : ℕ) (y : B) : Type 0 where
  item : A
  there : slice_get xs i ≡ Some item
  is : y ≡ f item

get_map : {A B : Type 0} (f : A → B) (xs : List A) (i : ℕ) (y : B) → slice_get (map f xs) i ≡ Some y → Mapped f xs i y
get_map f [] i y e = absurd cc
get_map f (x ∷ xs) zero y e = record { item = x; there = refl; is = sym (some-injective (f x) y e) }
get_map f (x ∷ xs) (suc i) y e = let w = get_map f xs i y e in record { item = w.item; there = w.there; is = w.is }

pub length_map : {A B : Type 0} (f : A → B) (xs : List A) → length (map f xs) ≡ length xs
length_map f [] = refl
length_map f (x ∷ xs) = ap suc (length_map f xs)

in_one : (s : ℕ) (o : Option ℕ) → option_map_or (λ owner. nat_eq owner s) o false ≡ is_in_some (s ∷ []) o
in_one s None = refl
in_one s (Some w) = let e : nat_eq w s ≡ (nat_eq s w || false) = grind arith in e

item_stamp : (item : Queued) (b : Bool) → (if b then record item { owner = None } else item).stamp ≡ item.stamp
item_stamp item true = refl
item_stamp item false = refl

item_owner : (item : Queued) (b : Bool) → (if b then record item { owner = None } else item).owner ≡ (if b then None else item.owner)
item_owner item true = refl
item_owner item false = refl

-- the commits at the places of a queue, and who waits for them
abbrev pub QueueTells : ℕ → (ℕ → Option ℕ) → List Queued → Type 0
QueueTells count owner items = (i : ℕ) (item : Queued) → slice_get items i ≡ Some item → (item.stamp ≡ count + 1 + i) × (item.owner ≡ owner (count + 1 + i))

pub disowned_tells : (count : ℕ) (owner : ℕ → Option ℕ) (s : ℕ) (items : List Queued) → QueueTells count owner items → QueueTells count (move.disowned owner (s ∷ [])) (disowned s items)
disowned_tells count owner s items told i item at =
    let w = get_map (disowned_item s) items i item at in
    let old = told i w.item w.there in (
      ap (λ q. q.stamp) w.is ∙ (item_stamp w.item (is_of s w.item) ∙ old.0),
      ap (λ q. q.owner) w.is
          ∙ (item_owner w.item (is_of s w.item)
          ∙ (ap (λ b. if b then None else w.item.owner) (in_one s w.item.owner)
          ∙ ap (λ o. if is_in_some (s ∷ []) o then None else o) old.1)),
    )

-- ---- a timer

asking_there : (language : Language) (q : Option Asked) (a : Option Statement) → AskedTells language q a → is_some q ≡ true → (b : Statement) × (a ≡ Some b)
asking_there language None a h e = absurd cc
asking_there language (Some q) None h e = absurd h
asking_there language (Some q) (Some b) h e = (b, refl)

pub timer_tells : (language : Language) → TimerTells language
timer_tells language m table s row tells at asks up =
    let told = tells.rows s row at in
    let x = m.sessions s in
    let has = asking_there language row.asked x.statement told.asked asks in
    let first = move.timed_out m s in
    let y = move.given_up x in
    let here : first.sessions s ≡ y = put_here m.sessions s y in
    let stands : y.statement ≡ Some (move.forced reply.Unavailable has.0) = ap (option_map (move.forced reply.Unavailable)) has.1 in
    let may : MayTime m s = record { asks = ap is_some has.1; going = not_stopped language row.asked x.statement told.asked; up = ap m.up told.node ∙ up } in
    let some : x.statement ≢ None = (λ e. let h = has.1 in cc) in (
      move.answered first s reply.Unavailable,
      (first, (none_forced language m table tells, may, refl), (move.answered first s reply.Unavailable, (forced_may first s y has.0 reply.Unavailable stands here, refl), refl)),
      record {
        joined = updated_length table.sessions s given_up ∙ tells.joined;
        rows = pair_tells language m.sessions table.sessions s given_up y reply.Unavailable tells.rows
            (λ q there h. given_row language q x h (is_not_lost q.place q.lasting x h.place some));
        waiting = length_map (disowned_item s) table.queue.items ∙ tells.waiting;
        queue = disowned_tells m.count m.owner s table.queue.items tells.queue;
      },
    )
