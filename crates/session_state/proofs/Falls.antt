-- What a node's fall makes of a table that tells of a machine, and the lists of sessions that are read off it.
use Rattle.std.proofs.Common.{◌≡◌, ◌≢◌, ◌<◌, ◌≤◌, ◌⊎◌, inl, inr, ℕ, suc, ◌+◌, Bool, true, false, ◌&&◌, ◌||◌, nat_eq, is_some, if◌then◌else◌, cond, List, [], ◌∷◌, ◌++◌, length, map, filter, fold, slice_get, slice_set, Option, Some, None, option_map, ap, subst, sym, refl, arith, ◌∙◌}
use Rattle.std.specs.List.{range_with_len}
use Rattle.std.specs.Option.{option_map_or}
use Rattle.sql_database.specs.declared.replies.SqlReply.TheVariants as reply
use Rattle.table_machine.specs.declared.entries.Entry.TheVariants as entry
use Rattle.table_machine.specs.Language.{Language}
use Rattle.table_machine.specs.Machine.{Machine, Session, Statement, Transaction, is_lasting}
use Rattle.table_machine.specs.Moves as move
use Rattle.table_machine.specs.Moves.{is_in, is_in_some, put}
use Rattle.table_machine.specs.Runs.{Leads}
use Rattle.table_machine.specs.Steps.{is_busy_on}
use Rattle.session_state.specs.declared.places.Asked.{Asked}
use Rattle.session_state.specs.declared.places.Place.{Place}
use Rattle.session_state.specs.declared.places.Place.TheVariants.{Idle, Active, Lost}
use Rattle.session_state.specs.declared.places.SessionRow.{SessionRow}
use Rattle.session_state.specs.declared.places.SessionTable.{SessionTable}
use Rattle.session_state.specs.Laws.{FallTells, TellsAsking, TellsBusy, all_fell, fell, is_asking_at}
use Rattle.session_state.specs.Rows.{closed, fallen, is_active, is_asking, is_busy, places_from, updated}
use Rattle.session_state.specs.Telling.{AskedTells, PlaceTells, RowTells}
use Rattle.session_state.specs.Waiting.{disowned_item}
use Rattle.session_state.proofs.Entries.{none_forced}
use Rattle.session_state.proofs.Moving.{either, put_beside, put_here, some-injective, updated_at, updated_beside, updated_length}
use Rattle.session_state.proofs.Replies.{closed_is_shut, forced_may}
use Rattle.session_state.proofs.Stopped.{QueueTells, disowned_tells, length_map}

-- ---- sessions with a property, read off the rows

one_place : (b : Bool) (at : ℕ) (ys : List ℕ) → (if b then at ∷ [] else []) ++ ys ≡ cond b (at ∷ ys) ys
one_place true at ys = refl
one_place false at ys = refl

places_are : (has : SessionRow → Bool) (p : ℕ → Bool) (at : ℕ) (rows : List SessionRow) → ((i : ℕ) (row : SessionRow) → slice_get rows i ≡ Some row → has row ≡ p (at + i)) → places_from has at rows ≡ filter p (range_with_len at (length rows))
places_are has p at [] same = refl
places_are has p at (row ∷ rows) same =
    let here : has row ≡ p at = same 0 row refl ∙ ap p (let e : at + 0 ≡ at = omega arith in e) in
    let later = places_are has p (at + 1) rows (λ i r e. same (suc i) r e ∙ ap p (let q : at + suc i ≡ at + 1 + i = omega arith in q)) in
    one_place (has row) at (places_from has (at + 1) rows)
    ∙ (ap (λ b. cond b (at ∷ places_from has (at + 1) rows) (places_from has (at + 1) rows)) here
    ∙ ap (λ ys. cond (p at) (at ∷ ys) ys) later)

asked_alike : (language : Language) (q : Option Asked) (a : Option Statement) → AskedTells language q a → is_some q ≡ is_some a
asked_alike language None None h = refl
asked_alike language None (Some a) h = absurd h
asked_alike language (Some q) None h = absurd h
asked_alike language (Some q) (Some a) h = refl

open_alike : (p : Place) (l : Bool) (x : Session) → PlaceTells p l x → is_active p ≡ is_some x.transaction
open_alike Idle l x h = ap is_some (sym h.0)
open_alike (Active snap own) l x h = ap is_some (sym h.1)
open_alike Lost l x h = ap is_some (sym h.0)

from_zero : (i : ℕ) → i ≡ 0 + i
from_zero i = omega arith

pub tells_asking : (language : Language) → TellsAsking language
tells_asking language m table tells =
    places_are is_asking (λ s. is_some (m.sessions s).statement) 0 table.sessions
    (λ i row at. asked_alike language row.asked (m.sessions i).statement (tells.rows i row at).asked ∙ ap (λ k. is_some (m.sessions k).statement) (from_zero i))
    ∙ ap (λ k. filter (λ s. is_some (m.sessions s).statement) (range_with_len 0 k)) tells.joined

pub tells_busy : (language : Language) → TellsBusy language
tells_busy language m table n tells =
    places_are (λ row. nat_eq row.node n && is_busy row) (λ s. is_busy_on n (m.sessions s)) 0 table.sessions (λ i row at. alike i row at ∙ ap (λ k. is_busy_on n (m.sessions k)) (from_zero i))
    ∙ ap (λ k. filter (λ s. is_busy_on n (m.sessions s)) (range_with_len 0 k)) tells.joined
  where
    alike : (i : ℕ) (row : SessionRow) → slice_get table.sessions i ≡ Some row → nat_eq row.node n && is_busy row ≡ is_busy_on n (m.sessions i)
    alike i row at =
        let h = tells.rows i row at in
        let x = m.sessions i in
        ap (λ k. nat_eq k n && (is_some row.asked || is_active row.place)) (sym h.node)
        ∙ (ap (λ b. nat_eq x.node n && (b || is_active row.place)) (asked_alike language row.asked x.statement h.asked)
        ∙ ap (λ b. nat_eq x.node n && (is_some x.statement || b)) (open_alike row.place row.lasting x h.place))

-- ---- ascending lists of sessions

abbrev pub Ascends : ℕ → List ℕ → Type 0
Ascends low [] = Unit {0}
Ascends low (s ∷ ss) = (low ≤ s) × Ascends (s + 1) ss

lower : (low below : ℕ) (ss : List ℕ) → below ≤ low → Ascends low ss → Ascends below ss
lower low below [] h a = tt
lower low below (s ∷ ss) h a = (let p = a.0 in omega (arith, p, h), a.1)

one_ascends : (b : Bool) (at : ℕ) (ss : List ℕ) → Ascends (at + 1) ss → Ascends at ((if b then at ∷ [] else []) ++ ss)
one_ascends true at ss h = (omega arith, h)
one_ascends false at ss h = lower (at + 1) at ss (omega arith) h

places_ascend : (has : SessionRow → Bool) (at : ℕ) (rows : List SessionRow) → Ascends at (places_from has at rows)
places_ascend has at [] = tt
places_ascend has at (row ∷ rows) = one_ascends (has row) at (places_from has (at + 1) rows) (places_ascend has (at + 1) rows)

-- a session below is none of them
pub none_below : (t low : ℕ) (ss : List ℕ) → t < low → Ascends low ss → is_in ss t ≡ false
none_below t low [] h a = refl
none_below t low (s ∷ ss) h a =
    let above = a.0 in
    let other : nat_eq s t ≡ false = grind (arith, h, above) in
    ap (λ b. b || is_in ss t) other ∙ none_below t (s + 1) ss (omega (arith, h, above)) a.1

filter_ascends : (p : ℕ → Bool) (low : ℕ) (ss : List ℕ) → Ascends low ss → Ascends low (filter p ss)
filter_ascends p low [] a = tt
filter_ascends p low (s ∷ ss) a = one_kept (p s) s low (filter p ss) a.0 (filter_ascends p (s + 1) ss a.1)
  where
    one_kept : (b : Bool) (s low : ℕ) (ss : List ℕ) → low ≤ s → Ascends (s + 1) ss → Ascends low (cond b (s ∷ ss) ss)
    one_kept true s low ss h a = (h, a)
    one_kept false s low ss h a = lower (s + 1) low ss (omega (arith, h)) a

in_cond : (b : Bool) (s t : ℕ) (ss : List ℕ) → is_in (cond b (s ∷ ss) ss) t ≡ (b && nat_eq s t) || is_in ss t
in_cond true s t ss = refl
in_cond false s t ss = refl

both_ways : (q a i : Bool) → (q && a) || (i && q) ≡ (a || i) && q
both_ways true true true = refl
both_ways true true false = refl
both_ways true false true = refl
both_ways true false false = refl
both_ways false true true = refl
both_ways false true false = refl
both_ways false false true = refl
both_ways false false false = refl

no_more : (q a i : Bool) → a ≡ false → (q && a) || i ≡ i
no_more q a i e = ap (λ b. (q && b) || i) e ∙ none q
  where
    none : (b : Bool) → (b && false) || i ≡ i
    none true = refl
    none false = refl

filtered : (p : ℕ → Bool) (ss : List ℕ) (t : ℕ) → is_in (filter p ss) t ≡ is_in ss t && p t
filtered p [] t = refl
filtered p (s ∷ ss) t = in_cond (p s) s t (filter p ss) ∙ (ap (λ b. (p s && nat_eq s t) || b) (filtered p ss t) ∙ by_place (either t s))
  where
    by_place : (t ≡ s) ⊎ (t ≢ s) → (p s && nat_eq s t) || (is_in ss t && p t) ≡ (nat_eq s t || is_in ss t) && p t
    by_place (inl e) = ap (λ k. (p k && nat_eq s t) || (is_in ss t && p t)) (sym e) ∙ both_ways (p t) (nat_eq s t) (is_in ss t)
    by_place (inr d) =
        let other : nat_eq s t ≡ false = grind (arith, d) in
        no_more (p s) (nat_eq s t) (is_in ss t && p t) other ∙ ap (λ b. (b || is_in ss t) && p t) (sym other)

-- ---- replies that are forced, one after the other

abbrev pub told_all : Machine → List ℕ → Machine
told_all m ss = fold (λ q s. move.answered q s reply.Unavailable) m ss

-- each of these sessions is stopped with that reply
abbrev pub AreStopped : (ℕ → Session) → List ℕ → Type 0
AreStopped sessions [] = Unit {0}
AreStopped sessions (s ∷ ss) = ((a : Statement) × ((sessions s).statement ≡ Some (move.forced reply.Unavailable a))) × AreStopped sessions ss

still_stopped : (sessions : ℕ → Session) (s : ℕ) (x : Session) (low : ℕ) (ss : List ℕ) → s < low → Ascends low ss → AreStopped sessions ss → AreStopped (put sessions s x) ss
still_stopped sessions s x low [] h a stopped = tt
still_stopped sessions s x low (t ∷ ss) h a stopped =
    let above = a.0 in (
      (stopped.0.0, ap (λ y. y.statement) (put_beside sessions s t x (omega (arith, h, above))) ∙ stopped.0.1),
      still_stopped sessions s x (t + 1) ss (omega (arith, h, above)) a.1 stopped.1,
    )

all_told : (language : Language) (m : Machine) (low : ℕ) (ss : List ℕ) → Ascends low ss → AreStopped m.sessions ss → Leads language m (map (λ s. entry.Reply s reply.Unavailable) ss) (told_all m ss)
all_told language m low [] a stopped = refl
all_told language m low (s ∷ ss) a stopped = (
  move.answered m s reply.Unavailable,
  (forced_may m s (m.sessions s) stopped.0.0 reply.Unavailable stopped.0.1 refl, refl),
  all_told language (move.answered m s reply.Unavailable) (s + 1) ss a.1 (still_stopped m.sessions s (move.answered_session reply.Unavailable (m.sessions s)) (s + 1) ss (omega arith) a.1 stopped.1),
)

told_session : (m : Machine) (low : ℕ) (ss : List ℕ) (t : ℕ) → Ascends low ss
    → (told_all m ss).sessions t ≡ (if is_in ss t then move.answered_session reply.Unavailable (m.sessions t) else m.sessions t)
told_session m low [] t a = refl
told_session m low (s ∷ ss) t a = by_place (either t s) (told_session (move.answered m s reply.Unavailable) (s + 1) ss t a.1)
  where
    x : Session
    x = move.answered_session reply.Unavailable (m.sessions s)

    by_place : (t ≡ s) ⊎ (t ≢ s) → (told_all (move.answered m s reply.Unavailable) ss).sessions t ≡ (if is_in ss t then move.answered_session reply.Unavailable (put m.sessions s x t) else put m.sessions s x t)
        → (told_all m (s ∷ ss)).sessions t ≡ (if is_in (s ∷ ss) t then move.answered_session reply.Unavailable (m.sessions t) else m.sessions t)
    by_place (inl e) later =
        let here : nat_eq s t ≡ true = grind (arith, e) in
        let below : t < s + 1 = omega (arith, e) in
        let none = none_below t (s + 1) ss below a.1 in
        later ∙ (ap (λ b. if b then move.answered_session reply.Unavailable (put m.sessions s x t) else put m.sessions s x t) none
        ∙ (ap (put m.sessions s x) e ∙ (put_here m.sessions s x ∙ (ap (λ k. move.answered_session reply.Unavailable (m.sessions k)) (sym e)
        ∙ ap (λ b. if b || is_in ss t then move.answered_session reply.Unavailable (m.sessions t) else m.sessions t) (sym here)))))
    by_place (inr d) later =
        let other : nat_eq s t ≡ false = grind (arith, d) in
        later ∙ (ap (λ y. if is_in ss t then move.answered_session reply.Unavailable y else y) (put_beside m.sessions s t x d)
        ∙ ap (λ b. if b || is_in ss t then move.answered_session reply.Unavailable (m.sessions t) else m.sessions t) (sym other))

-- the replies move sessions alone
record OnlySessions (old new : Machine) : Type 0 where
  joined : new.joined ≡ old.joined
  waiting : new.waiting ≡ old.waiting
  count : new.count ≡ old.count
  owner : new.owner ≡ old.owner

told_only : (m : Machine) (ss : List ℕ) → OnlySessions m (told_all m ss)
told_only m [] = record { joined = refl; waiting = refl; count = refl; owner = refl }
told_only m (s ∷ ss) =
    let later = told_only (move.answered m s reply.Unavailable) ss in
    record { joined = later.joined; waiting = later.waiting; count = later.count; owner = later.owner }

-- ---- the table

none_updated : (rows : List SessionRow) (s : ℕ) (f : SessionRow → SessionRow) (o : Option SessionRow) → slice_get rows s ≡ o → slice_get (updated rows s f) s ≡ option_map f (slice_get rows s)
none_updated rows s f None e = ap (λ o. slice_get (option_map_or (λ r. slice_set rows s (f r)) o rows) s) e ∙ (e ∙ ap (option_map f) (sym e))
none_updated rows s f (Some row) e = updated_at rows s f row e ∙ ap (option_map f) (sym e)

fell_row : (table : SessionTable) (low : ℕ) (ss : List ℕ) (t : ℕ) → Ascends low ss
    → slice_get (all_fell table ss).sessions t ≡ (if is_in ss t then option_map fallen (slice_get table.sessions t) else slice_get table.sessions t)
fell_row table low [] t a = refl
fell_row table low (s ∷ ss) t a = by_place (either t s) (fell_row (fell table s) (s + 1) ss t a.1)
  where
    rows : List SessionRow
    rows = updated table.sessions s fallen

    by_place : (t ≡ s) ⊎ (t ≢ s) → slice_get (all_fell (fell table s) ss).sessions t ≡ (if is_in ss t then option_map fallen (slice_get rows t) else slice_get rows t)
        → slice_get (all_fell table (s ∷ ss)).sessions t ≡ (if is_in (s ∷ ss) t then option_map fallen (slice_get table.sessions t) else slice_get table.sessions t)
    by_place (inl e) later =
        let here : nat_eq s t ≡ true = grind (arith, e) in
        let below : t < s + 1 = omega (arith, e) in
        let none = none_below t (s + 1) ss below a.1 in
        later ∙ (ap (λ b. if b then option_map fallen (slice_get rows t) else slice_get rows t) none
        ∙ (ap (slice_get rows) e ∙ (none_updated table.sessions s fallen (slice_get table.sessions s) refl ∙ (ap (λ k. option_map fallen (slice_get table.sessions k)) (sym e)
        ∙ ap (λ b. if b || is_in ss t then option_map fallen (slice_get table.sessions t) else slice_get table.sessions t) (sym here)))))
    by_place (inr d) later =
        let other : nat_eq s t ≡ false = grind (arith, d) in
        later ∙ (ap (λ o. if is_in ss t then option_map fallen o else o) (updated_beside table.sessions s t fallen d)
        ∙ ap (λ b. if b || is_in ss t then option_map fallen (slice_get table.sessions t) else slice_get table.sessions t) (sym other))

fell_length : (table : SessionTable) (ss : List ℕ) → length (all_fell table ss).sessions ≡ length table.sessions
fell_length table [] = refl
fell_length table (s ∷ ss) = fell_length (fell table s) ss ∙ updated_length table.sessions s fallen

fell_waiting : (table : SessionTable) (ss : List ℕ) → length (all_fell table ss).queue.items ≡ length table.queue.items
fell_waiting table [] = refl
fell_waiting table (s ∷ ss) = fell_waiting (fell table s) ss ∙ length_map (disowned_item s) table.queue.items

-- one session after the other, or all at once
owner_twice : (o : Option ℕ) (s : ℕ) (ss : List ℕ) → (if is_in_some ss (if is_in_some (s ∷ []) o then None else o) then None else (if is_in_some (s ∷ []) o then None else o)) ≡ (if is_in_some (s ∷ ss) o then None else o)
owner_twice None s ss = refl
owner_twice (Some w) s ss = by_tests (nat_eq s w)
  where
    by_tests : (b : Bool) → (if is_in_some ss (if b || false then None else Some w) then None else (if b || false then None else Some w)) ≡ (if b || is_in ss w then None else Some w)
    by_tests true = refl
    by_tests false = refl

none_gone : (o : Option ℕ) → (if is_in_some [] o then None else o) ≡ o
none_gone None = refl
none_gone (Some w) = refl

fell_queue : (count : ℕ) (owner : ℕ → Option ℕ) (table : SessionTable) (ss : List ℕ) → QueueTells count owner table.queue.items → QueueTells count (move.disowned owner ss) (all_fell table ss).queue.items
fell_queue count owner table [] told i item at = let h = told i item at in (h.0, h.1 ∙ sym (none_gone (owner (count + 1 + i))))
fell_queue count owner table (s ∷ ss) told i item at =
    let later = fell_queue count (move.disowned owner (s ∷ [])) (fell table s) ss (disowned_tells count owner s table.queue.items told) i item at in
    (later.0, later.1 ∙ owner_twice (owner (count + 1 + i)) s ss)

-- ---- a node falls

each_stopped : (sessions : ℕ → Session) (p : ℕ → Bool) (part : List ℕ) → ((t : ℕ) → is_in part t ≡ true → p t ≡ true → (a : Statement) × ((sessions t).statement ≡ Some (move.forced reply.Unavailable a)))
    → AreStopped sessions (filter p part)
each_stopped sessions p [] h = tt
each_stopped sessions p (s ∷ part) h = one_more (p s) refl (each_stopped sessions p part (λ t i q. h t (ap (λ b. nat_eq s t || b) i ∙ or_true (nat_eq s t)) q))
  where
    or_true : (b : Bool) → b || true ≡ true
    or_true true = refl
    or_true false = refl

    one_more : (b : Bool) → p s ≡ b → AreStopped sessions (filter p part) → AreStopped sessions (cond b (s ∷ filter p part) (filter p part))
    one_more true e later = (h s (let here : nat_eq s s ≡ true = grind arith in ap (λ b. b || is_in part s) here) e, later)
    one_more false e later = later

asking_has : (language : Language) (q : Option Asked) (a : Option Statement) → AskedTells language q a → is_some q ≡ true → (b : Statement) × (a ≡ Some b)
asking_has language None a h e = absurd cc
asking_has language (Some q) None h e = absurd h
asking_has language (Some q) (Some b) h e = (b, refl)

-- a row that falls, and its session, once it is told
fallen_place : (p : Place) (l : Bool) (x : Session) (t : Option Transaction) → t ≡ None → PlaceTells p l x
    → PlaceTells (if l then Lost else closed p) false (record x { lost = x.lost || is_lasting x; transaction = t; statement = None })
fallen_place Idle true x t e h = absurd (let no : true ≡ false = h.2 in cc)
fallen_place Idle false x t e h = (e, ap (λ b. b || is_lasting x) h.1 ∙ ap (λ o. option_map_or (λ u. u.lasting) o false) h.0, refl)
fallen_place (Active snap own) true x t e h = (e, ap (λ b. b || is_lasting x) h.4 ∙ (ap (λ o. option_map_or (λ u. u.lasting) o false) h.1 ∙ h.3), refl, refl)
fallen_place (Active snap own) false x t e h = (e, ap (λ b. b || is_lasting x) h.4 ∙ (ap (λ o. option_map_or (λ u. u.lasting) o false) h.1 ∙ h.3), refl)
fallen_place Lost true x t e h = absurd (let no : true ≡ false = h.2 in cc)
fallen_place Lost false x t e h = (e, ap (λ b. b || is_lasting x) h.1, refl, refl)

fallen_shut : (l : Bool) (p : Place) → is_active (if l then Lost else closed p) ≡ false
fallen_shut true p = refl
fallen_shut false p = closed_is_shut p

-- asked : whether the session had a statement, which was answered then
fallen_row : (language : Language) (row : SessionRow) (x : Session) (asked : Bool) → RowTells language row x → is_some x.statement ≡ asked
    → RowTells language (fallen row) (if asked then move.answered_session reply.Unavailable (move.fallen x) else move.fallen x)
fallen_row language row x true h e = record { node = h.node; place = fallen_place row.place row.lasting x None refl h.place; asked = tt; rest = λ n. fallen_shut row.lasting row.place }
fallen_row language row x false h e =
    let none = no_statement x.statement e in record {
      node = h.node;
      place = subst (λ a. PlaceTells (fallen row).place false (record x { lost = x.lost || is_lasting x; transaction = None; statement = a })) (sym none) (fallen_place row.place row.lasting x None refl h.place);
      asked = subst (λ a. AskedTells language None a) (sym none) tt;
      rest = λ n. fallen_shut row.lasting row.place;
    }
  where
    no_statement : (a : Option Statement) → is_some a ≡ false → option_map (move.forced reply.Unavailable) a ≡ None
    no_statement None f = refl
    no_statement (Some b) f = absurd cc

record WasRow (o : Option SessionRow) (new : SessionRow) : Type 0 where
  row : SessionRow
  there : o ≡ Some row
  is : new ≡ fallen row

was_row : (o : Option SessionRow) (new : SessionRow) → option_map fallen o ≡ Some new → WasRow o new
was_row None new e = absurd cc
was_row (Some row) new e = record { row = row; there = refl; is = sym (some-injective (fallen row) new e) }

pub fall_tells : (language : Language) → FallTells language
fall_tells language m table n ss tells up is =
    let rs = filter (is_asking_at table.sessions) ss in
    let down = move.downed m n ss in
    let ascends : Ascends 0 ss = subst (Ascends 0) (sym is) (places_ascend (λ row. nat_eq row.node n && is_busy row) 0 table.sessions) in
    let only = told_only down rs in (
      told_all down rs,
      (down, (none_forced language m table tells, up, is ∙ tells_busy language m table n tells, refl), all_told language down 0 rs (filter_ascends (is_asking_at table.sessions) 0 ss ascends) (each_stopped down.sessions (is_asking_at table.sessions) ss stopped)),
      record {
        joined = fell_length table ss ∙ (tells.joined ∙ sym only.joined);
        rows = λ t new at. row_at t new ascends (is_in ss t) refl (sym (fell_row table 0 ss t ascends) ∙ at);
        waiting = fell_waiting table ss ∙ (tells.waiting ∙ sym only.waiting);
        queue = λ i item at.
            let h = fell_queue m.count m.owner table ss tells.queue i item at in
            (h.0 ∙ ap (λ k. k + 1 + i) (sym only.count), h.1 ∙ (ap (λ k. move.disowned m.owner ss (k + 1 + i)) (sym only.count) ∙ ap (λ f. f ((told_all down rs).count + 1 + i)) (sym only.owner)));
      },
    )
  where
    has_row : (t : ℕ) (o : Option SessionRow) → slice_get table.sessions t ≡ o → option_map_or is_asking o false ≡ true → (a : Statement) × ((m.sessions t).statement ≡ Some a)
    has_row t None e asks = absurd cc
    has_row t (Some row) e asks = asking_has language row.asked (m.sessions t).statement (tells.rows t row e).asked asks

    stopped : (t : ℕ) → is_in ss t ≡ true → is_asking_at table.sessions t ≡ true → (a : Statement) × (((move.downed m n ss).sessions t).statement ≡ Some (move.forced reply.Unavailable a))
    stopped t inside asks =
        let has = has_row t (slice_get table.sessions t) refl asks in
        (has.0, ap (λ b. (if b then move.fallen (m.sessions t) else m.sessions t).statement) inside ∙ ap (option_map (move.forced reply.Unavailable)) has.1)

    row_at : (t : ℕ) (new : SessionRow) → Ascends 0 ss → (b : Bool) → is_in ss t ≡ b → (if is_in ss t then option_map fallen (slice_get table.sessions t) else slice_get table.sessions t) ≡ Some new
        → RowTells language new ((told_all (move.downed m n ss) (filter (is_asking_at table.sessions) ss)).sessions t)
    row_at t new ascends true inside at =
        let p = is_asking_at table.sessions in
        let x = m.sessions t in
        let down = move.downed m n ss in
        let was = was_row (slice_get table.sessions t) new (sym (ap (λ b. if b then option_map fallen (slice_get table.sessions t) else slice_get table.sessions t) inside) ∙ at) in
        let h = tells.rows t was.row was.there in
        let member : is_in (filter p ss) t ≡ is_some x.statement =
        filtered p ss t ∙ (ap (λ b. b && p t) inside ∙ (ap (λ o. option_map_or is_asking o false) was.there ∙ asked_alike language was.row.asked x.statement h.asked)) in
        let is_now : (told_all down (filter p ss)).sessions t ≡ (if is_some x.statement then move.answered_session reply.Unavailable (move.fallen x) else move.fallen x) =
        told_session down 0 (filter p ss) t (filter_ascends p 0 ss ascends)
        ∙ (ap (λ b. if b then move.answered_session reply.Unavailable (down.sessions t) else down.sessions t) member
        ∙ ap (λ y. if is_some x.statement then move.answered_session reply.Unavailable y else y) (ap (λ b. if b then move.fallen x else x) inside)) in
        subst (λ y. RowTells language new y) (sym is_now) (subst (λ r. RowTells language r (if is_some x.statement then move.answered_session reply.Unavailable (move.fallen x) else move.fallen x)) (sym was.is)
        (fallen_row language was.row x (is_some x.statement) h refl))
    row_at t new ascends false inside at =
        let p = is_asking_at table.sessions in
        let x = m.sessions t in
        let down = move.downed m n ss in
        let there : slice_get table.sessions t ≡ Some new = sym (ap (λ b. if b then option_map fallen (slice_get table.sessions t) else slice_get table.sessions t) inside) ∙ at in
        let is_now : (told_all down (filter p ss)).sessions t ≡ x =
        told_session down 0 (filter p ss) t (filter_ascends p 0 ss ascends)
        ∙ (ap (λ b. if b then move.answered_session reply.Unavailable (down.sessions t) else down.sessions t) (filtered p ss t ∙ ap (λ b. b && p t) inside)
        ∙ ap (λ b. if b then move.fallen x else x) inside) in
        subst (λ y. RowTells language new y) (sym is_now) (tells.rows t new there)
