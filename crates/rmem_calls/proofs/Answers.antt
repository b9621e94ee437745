-- What `register` answers, by the way in which the page has its slot.
use Rattle.std.proofs.Common.{◌≡◌, inl, inr, ◌↔◌, ℕ, Bool, true, false, List, Option, Some, None, if◌then◌else◌, nat_eq, nat_lt, refl, sym, ◌∙◌, ap, arith}
use Rattle.std.proofs.lemmas.Bool.{true≢false}
use Rattle.std.specs.Option.{option_map}
use Rattle.rm_base.specs.declared.places.Addr.{Addr}
use Rattle.home_model.specs.Numbered.{put}
use Rattle.home_model.specs.Entry.{Entry as HomeEntry, registered, takes_slot}
use Rattle.slab_node.specs.Free.{is_free, count_free}
use Rattle.slab_node.specs.Slab.{SlabState}
use Rattle.slab_node.specs.Slabs.{slab_at, has_room}
use Rattle.slab_node.proofs.Counts.{count_none}
use Rattle.home_tables.specs.Table.{entry_of, address_number, referred}
use Rattle.home_tables.specs.Access.{accessed}
use Rattle.home_tables.specs.Home.{HomeState, kept, entry_at, ChangesAt}
use Rattle.home_tables.specs.declared.entry.Entry.{Entry}
use Rattle.home_tables.specs.declared.entry.Access.TheVariants.{Refer}
use Rattle.message_network.specs.declared.calls.Reply.{Reply}
use Rattle.message_network.specs.declared.calls.Reply.TheVariants.{Registered, PoolFull, Unregistered, Started, Done, Appended, Got, Fenced}
use Rattle.rmem_calls.specs.Registering.{Joins, TakesFree, TakesGiven, IsFull, Tells, TellsEntry, Seats, RegisterAnswers, IsPoolFull}

-- an entry that takes no slot is there, with one
pub with_entry : (o : Option Entry) → takes_slot (entry_of o) ≡ false → (e : Entry) × (o ≡ Some e)
with_entry None h = absurd (true≢false h)
with_entry (Some e) h = (e, refl)

pub with_address : (e : Entry) → takes_slot (entry_of (Some e)) ≡ false → (a : Addr) × (e.addr ≡ Some a)
with_address e h = by e.addr refl (entry_of (Some e)) h
  where
    by : (o : Option Addr) → e.addr ≡ o → (E : HomeEntry) → takes_slot (record E { there = true; address = option_map address_number o }) ≡ false → (a : Addr) × (e.addr ≡ Some a)
    by None is E h = absurd (true≢false h)
    by (Some a) is E h = (a, is)

pub tells : (H : HomeState) (p : ℕ) (e : Entry) (a : Addr) → kept H p ≡ Some e → e.addr ≡ Some a → Tells H p a e.bit e.floor
tells H p e a found slot =
    record {
      address = ap (λ (o : Option Entry). (entry_of o).address) found ∙ ap (option_map address_number) slot;
      is_bit = ap (λ (o : Option Entry). (entry_of o).bit) found;
      is_floor = ap (λ (o : Option Entry). (entry_of o).floor) found;
    }

put_here : (f : ℕ → HomeEntry) (p : ℕ) (E : HomeEntry) → put f p E p ≡ E
put_here f p E = by (nat_eq p p) (grind arith)
  where
    by : (b : Bool) → b ≡ true → (if b then E else f p) ≡ E
    by true h = refl
    by false h = absurd cc

registered_seated : (o : Option Entry) (w a n : ℕ) → takes_slot (registered (entry_of o) w a n) ≡ false
registered_seated None w a n = refl
registered_seated (Some e) w a n = refl

-- a page that was registered has a slot
pub seated : (H : HomeState) (f : ℕ → HomeEntry) (o : Option Entry) (p w a n : ℕ) → entry_at H ≡ put f p (registered (entry_of o) w a n) → takes_slot (entry_at H p) ≡ false
seated H f o p w a n h =
    ap (λ (g : ℕ → HomeEntry). takes_slot (g p)) h ∙ ap takes_slot (put_here f p (registered (entry_of o) w a n)) ∙ registered_seated o w a n

same_reference : (a : Option Addr) (E : HomeEntry) (w n : ℕ) → let F : HomeEntry = record E { there = true; address = option_map address_number a } in takes_slot F ≡ false → registered F w 0 n ≡ referred F n
same_reference None E w n h = absurd (true≢false h)
same_reference (Some a) E w n h = refl

refers : (o : Option Entry) (w n : ℕ) → takes_slot (entry_of o) ≡ false → registered (entry_of o) w 0 n ≡ referred (entry_of o) n
refers None w n h = absurd (true≢false h)
refers (Some e) w n h = same_reference e.addr (entry_of (Some e)) w n h

is_there : (o : Option Entry) → takes_slot (entry_of o) ≡ false → (entry_of o).there ≡ true
is_there None h = absurd (true≢false h)
is_there (Some e) h = refl

pub joins : (H H' : HomeState) (S : List SlabState) (n p : ℕ) → takes_slot (entry_at H p) ≡ false → ChangesAt H H' p (accessed (Refer n)) → Joins H H' S S n p
joins H H' S n p slot change =
    record {
      slot = slot;
      entry = change.there (is_there (kept H p) slot) ∙ ap (put (entry_at H) p) (sym (refers (kept H p) H.watermark n slot));
      watermark = change.watermark;
      rest = refl;
    }

told_answer : (H H' : HomeState) (S S' : List SlabState) (n p : ℕ) (reply : Reply) → Seats H H' S S' n p → TellsEntry H' p reply → RegisterAnswers H H' S S' n p reply
told_answer H H' S S' n p (Registered a bit floor) seat tell = (seat, tell)
told_answer H H' S S' n p (PoolFull slots) seat tell = absurd tell
told_answer H H' S S' n p Unregistered seat tell = tell
told_answer H H' S S' n p (Started due) seat tell = tell
told_answer H H' S S' n p Done seat tell = tell
told_answer H H' S S' n p (Appended answer) seat tell = tell
told_answer H H' S S' n p (Got answer) seat tell = tell
told_answer H H' S S' n p (Fenced epoch) seat tell = tell

pub joins_answer : (H H' : HomeState) (S : List SlabState) (n p : ℕ) (reply : Reply) → Joins H H' S S n p → TellsEntry H' p reply → RegisterAnswers H H' S S n p reply
joins_answer H H' S n p reply join tell = told_answer H H' S S n p reply (inl join) tell

pub free_answer : (H H' : HomeState) (S S' : List SlabState) (n p : ℕ) (a : Addr) (reply : Reply) → TakesFree H H' S S' n p a → TellsEntry H' p reply → RegisterAnswers H H' S S' n p reply
free_answer H H' S S' n p a reply takes tell = told_answer H H' S S' n p reply (inr (inl (a, takes))) tell

pub given_answer : (H H' : HomeState) (S S' : List SlabState) (n p given : ℕ) (a : Addr) (reply : Reply) → TakesGiven H H' S S' n p given a → TellsEntry H' p reply → RegisterAnswers H H' S S' n p reply
given_answer H H' S S' n p given a reply takes tell = told_answer H H' S S' n p reply (inr (inr (given, a, takes))) tell

room_with : (S : SlabState) (s : ℕ) → S.up ≡ true → is_free S.taken s ≡ true → has_room S ≡ false → ⊥
room_with S s up free none = by (nat_lt 0 (count_free S.taken)) refl
  where
    by : (b : Bool) → nat_lt 0 (count_free S.taken) ≡ b → ⊥
    by true h = let room : has_room S ≡ true = rw (up, h) refl in true≢false (sym room ∙ none)
    by false h =
        let empty : count_free S.taken ≡ 0 = grind (arith, h) in
        true≢false (sym free ∙ count_none S.taken s empty)

-- who has a slot for the page is not full
not_full : (H H' : HomeState) (S S' : List SlabState) (n p : ℕ) → Seats H H' S S' n p → IsFull H S p → ⊥
not_full H H' S S' n p (inl join) full = true≢false (sym full.takes ∙ join.slot)
not_full H H' S S' n p (inr (inl free)) full =
    let a : Addr = free.0 in
    let takes = free.1 in
    room_with (slab_at S a.slab) a.slot takes.least.up takes.least.slot.0 (full.full a.slab)
not_full H H' S S' n p (inr (inr given)) full =
    let takes = given.2 in
    true≢false (sym takes.least.0 ∙ full.none given.0 takes.page)

pub full_when : (H H' : HomeState) (S S' : List SlabState) (n p : ℕ) (reply : Reply) → RegisterAnswers H H' S S' n p reply → IsPoolFull reply ↔ IsFull H S p
full_when H H' S S' n p (Registered a bit floor) answer = (λ h. absurd h, λ full. not_full H H' S S' n p answer.0 full)
full_when H H' S S' n p (PoolFull slots) answer = (λ h. answer.full, λ full. tt)
full_when H H' S S' n p Unregistered answer = absurd answer
full_when H H' S S' n p (Started due) answer = absurd answer
full_when H H' S S' n p Done answer = absurd answer
full_when H H' S S' n p (Appended reply) answer = absurd answer
full_when H H' S S' n p (Got reply) answer = absurd answer
full_when H H' S S' n p (Fenced epoch) answer = absurd answer
