-- The acts that are left are those of the longest way.
use Rattle.std.proofs.Common.{◌≡◌, ◌<◌, ◌≤◌, ◌+◌, ℕ, suc, zero, Bool, true, false, Option, Some, None, IsSome, Ok, Err, List, [], ◌∷◌, length, refl, ap, if◌then◌else◌, arith}
use Rattle.rm_base.specs.declared.places.Addr.{Addr}
use Rattle.page_image.specs.Image.{Image}
use Rattle.page_latches.specs.declared.latch.Latch.TheVariants.{Granted, Busy}
use Rattle.message_model.specs.declared.Got.TheVariants.{Image as Given, NotYet}
use Rattle.message_network.specs.declared.calls.Reply.TheVariants.{Registered, PoolFull, Unregistered, Started, Done as DoneReply, Appended, Got as GotReply, Fenced}
use Rattle.fetch_steps.specs.declared.place.Place.{Place}
use Rattle.fetch_steps.specs.declared.place.Place.TheVariants.{Register, Look, Read, ReleaseS, LatchX, LookAgain, BackToS, LookBack, Get, Write, Clean, LastS, Held, ReleaseDown, ReleaseEnd, Done, RwLook, RwRead, RwBack, RwLookBack, RwEnd}
use Rattle.message_network.specs.declared.looks.Seen.{Seen}
use Rattle.fetch_steps.specs.declared.acts.Told.{Told}
use Rattle.fetch_steps.specs.declared.acts.Told.TheVariants.{Answer, Latch as Tried, Seen as Looked, Slab, Cleaned, Installed, NoAnswer}
use Rattle.fetch_steps.specs.declared.acts.Action.TheVariants.{Finished}
use Rattle.node_model.specs.Call.{Call}
use Rattle.fetch_steps.specs.Fetch.{Fetch, IsPlaced, step_at, step_of}
use Rattle.fetch_steps.specs.Acts.{act_of, tells_of}
use Rattle.fetch_steps.specs.Telling.{shown, image_after}
use Rattle.fetch_steps.specs.Work.{left_at, acts_left, obstacle_of}
use Rattle.fetch_steps.specs.Places.{place_granted, address_granted, place_under_x, place_seen, place_moved, place_lost, address_lost, place_cleaned, place_loaded, after}
use Rattle.fetch_steps.specs.Ways.{IsWay}
use Rattle.fetch_steps.proofs.Falls.{falls}

never : false ≡ true → ⊥
never h = cc

abbrev somewhere : Addr
somewhere = record { slab = 0; incarnation = 1; slot = 0 }

abbrev with_bit : Bool → Told
with_bit b = Looked (Some (record { addr = Some somewhere; bit = b; lsn = 0; floor = 0 }))

abbrev fetch_at : Bool → ℕ → Option Addr → Place → ℕ → Bool → Fetch
fetch_at w pg a place l u = record { page = pg; writer = w; address = a; place = place; lsn = l; unheard = u }

-- something may be told that leaves exactly one act fewer
abbrev GoesOn : Fetch → Image → Type 0
GoesOn f v = (told : Told) × (tells_of (act_of f.page f.address (step_of f v Call.Quiet)) told ≡ true) × (obstacle_of f told ≡ None) × (acts_left (after f told) + 1 ≡ acts_left f)

by_place : (w : Bool) (pg : ℕ) (a : Option Addr) (place : Place) (l : ℕ) (u : Bool) (v : Image) → IsPlaced place a → 0 < left_at w place → GoesOn (fetch_at w pg a place l u) v
by_place true pg a Register l u v h k = (Answer (Registered somewhere true 0), refl, refl, refl)
by_place false pg a Register l u v h k = (Answer (Registered somewhere true 0), refl, refl, refl)
by_place w pg a Look l u v h k = (with_bit true, refl, refl, refl)
by_place w pg None Read l u v h k = absurd (never (h refl))
by_place w pg (Some b) Read l u v h k = (Slab (Ok tt), refl, refl, refl)
by_place w pg a LookAgain l u v h k = (with_bit true, refl, refl, refl)
by_place w pg a LookBack l u v h k = (with_bit false, refl, refl, refl)
by_place w pg a Get l u v h k = (Answer (GotReply (Given v)), refl, refl, refl)
by_place w pg None Write l u v h k = absurd (never (h refl))
by_place w pg (Some b) Write l u v h k = (Slab (Ok tt), refl, refl, refl)
by_place true pg a Clean l u v h k = (Cleaned true, refl, refl, refl)
by_place false pg a Clean l u v h k = (Cleaned true, refl, refl, refl)
by_place w pg a Held l u v h k = absurd (omega arith)
by_place true pg a ReleaseDown l u v h k = (Tried Granted, refl, refl, refl)
by_place false pg a ReleaseDown l u v h k = (Tried Granted, refl, refl, refl)
by_place w pg a Done l u v h k = absurd (omega arith)
by_place w pg a RwLook l u v h k = (with_bit true, refl, refl, refl)
by_place w pg None RwRead l u v h k = absurd (never (h refl))
by_place w pg (Some b) RwRead l u v h k = (Slab (Ok tt), refl, refl, refl)
by_place w pg a RwLookBack l u v h k = (with_bit false, refl, refl, refl)
by_place w pg a _ l u v h k = (Tried Granted, refl, refl, refl)

goes_on : (f : Fetch) (v : Image) → IsPlaced f.place f.address → 0 < acts_left f → GoesOn f v
goes_on f v h k = by_place f.writer f.page f.address f.place f.lsn f.unheard v h k

-- a fetch that is to begin again, or is over, needs no address; else it keeps the one it has
either : (b : Bool) (p q : Place) (a : Option Addr) → IsPlaced p a → IsPlaced q a → IsPlaced (if b then p else q) a
either true p q a h k = h
either false p q a h k = k

granted_placed : (place : Place) (a : Option Addr) → IsPlaced place a → IsPlaced (place_granted place) (address_granted place a)
granted_placed Register a h = λ e. absurd (never e)
granted_placed LastS a h = λ e. absurd (never e)
granted_placed Held a h = λ e. absurd (never e)
granted_placed ReleaseDown a h = λ e. absurd (never e)
granted_placed ReleaseEnd a h = λ e. absurd (never e)
granted_placed Done a h = λ e. absurd (never e)
granted_placed RwEnd a h = λ e. absurd (never e)
granted_placed _ a h = λ e. h refl

under_placed : (w bit : Bool) (b a : Option Addr) → IsSome a → IsPlaced (place_under_x w bit b) a
under_placed w bit None a h = λ e. h
under_placed w bit (Some b) a h = either bit Get (if w then RwBack else BackToS) a (λ e. h) (either w RwBack BackToS a (λ e. h) (λ e. h))

seen_placed : (w : Bool) (seen : Seen) (place : Place) (a : Option Addr) → IsPlaced place a → IsPlaced (place_seen w seen place) a
seen_placed w seen Register a h = λ e. absurd (never e)
seen_placed w seen Look a h = either seen.bit ReleaseS Read a (λ e. h refl) (λ e. h refl)
seen_placed w seen LookAgain a h = under_placed w seen.bit seen.addr a (h refl)
seen_placed w seen LookBack a h = either seen.bit ReleaseS Read a (λ e. h refl) (λ e. h refl)
seen_placed w seen Held a h = λ e. absurd (never e)
seen_placed w seen ReleaseEnd a h = λ e. absurd (never e)
seen_placed w seen Done a h = λ e. absurd (never e)
seen_placed w seen RwLook a h = either seen.bit LatchX RwRead a (λ e. h refl) (λ e. h refl)
seen_placed w seen RwLookBack a h = either seen.bit LatchX RwRead a (λ e. h refl) (λ e. h refl)
seen_placed w seen _ a h = λ e. h refl

moved_placed : (place : Place) (a : Option Addr) → IsPlaced place a → IsPlaced (place_moved place) a
moved_placed Register a h = λ e. absurd (never e)
moved_placed Read a h = λ e. absurd (never e)
moved_placed Held a h = λ e. absurd (never e)
moved_placed ReleaseEnd a h = λ e. absurd (never e)
moved_placed Done a h = λ e. absurd (never e)
moved_placed RwRead a h = λ e. absurd (never e)
moved_placed _ a h = λ e. h refl

lost_placed : (place : Place) (a : Option Addr) → IsPlaced place a → IsPlaced (place_lost place) (address_lost place a)
lost_placed Register a h = λ e. absurd (never e)
lost_placed Held a h = λ e. absurd (never e)
lost_placed ReleaseEnd a h = λ e. absurd (never e)
lost_placed Done a h = λ e. absurd (never e)
lost_placed RwRead a h = λ e. absurd (never e)
lost_placed _ a h = λ e. h refl

cleaned_placed : (w there : Bool) (place : Place) (a : Option Addr) → IsPlaced place a → IsPlaced (place_cleaned w there place) a
cleaned_placed w there Register a h = λ e. absurd (never e)
cleaned_placed w there Clean a h = either there (if w then RwEnd else LastS) ReleaseDown a (either w RwEnd LastS a (λ e. h refl) (λ e. h refl)) (λ e. h refl)
cleaned_placed w there Held a h = λ e. absurd (never e)
cleaned_placed w there ReleaseEnd a h = λ e. absurd (never e)
cleaned_placed w there Done a h = λ e. absurd (never e)
cleaned_placed w there _ a h = λ e. h refl

loaded_placed : (place : Place) (a : Option Addr) → IsPlaced place a → IsPlaced (place_loaded place) a
loaded_placed Register a h = λ e. absurd (never e)
loaded_placed Held a h = λ e. absurd (never e)
loaded_placed ReleaseEnd a h = λ e. absurd (never e)
loaded_placed Done a h = λ e. absurd (never e)
loaded_placed _ a h = λ e. h refl

placed : (f : Fetch) (told : Told) → IsPlaced f.place f.address → IsPlaced (after f told).place (after f told).address
placed f (Answer (Registered addr bit floor)) h = λ e. refl
placed f (Answer (PoolFull slots)) h = h
placed f (Answer Unregistered) h = h
placed f (Answer (Started due)) h = h
placed f (Answer DoneReply) h = h
placed f (Answer (Appended appended)) h = h
placed f (Answer (GotReply (Given im))) h = loaded_placed f.place f.address h
placed f (Answer (GotReply (NotYet applied))) h = h
placed f (Answer (Fenced epoch)) h = h
placed f (Tried Granted) h = granted_placed f.place f.address h
placed f (Tried (Busy holders)) h = h
placed f (Looked found) h = seen_placed f.writer (shown found) f.place f.address h
placed f (Slab (Ok u)) h = moved_placed f.place f.address h
placed f (Slab (Err why)) h = lost_placed f.place f.address h
placed f (Cleaned there) h = cleaned_placed f.writer there f.place f.address h
placed f Installed h = h
placed f NoAnswer h = h

-- no way is longer
pub shorter : (way : List Told) (f : Fetch) (v : Image) → IsWay way f v → length way ≤ acts_left f
shorter [] f v h = omega arith
shorter (told ∷ way) f v h =
    let rest : length way ≤ acts_left (after f told) = shorter way (after f told) (image_after f told v) h.1 in
    let fewer : acts_left (after f told) < acts_left f = falls f told v h.0.0 h.0.1 in
    omega arith

-- nothing is left at the end alone
over_at : (w : Bool) (pg : ℕ) (a : Option Addr) (place : Place) (l : ℕ) (v : Image) → left_at w place ≡ 0 → act_of pg a (step_at place l v false) ≡ Finished
over_at w pg a Held l v e = refl
over_at w pg a Done l v e = refl
over_at w pg a _ l v e = absurd (omega arith)

one_more : (told : Told) (way : List Told) (m : ℕ) → length way ≡ m → length (told ∷ way) ≡ suc m
one_more told way m e = ap suc e

-- one way has as many acts
longest : (m : ℕ) (f : Fetch) (v : Image) → IsPlaced f.place f.address → acts_left f ≡ m → (way : List Told) × IsWay way f v × (length way ≡ m)
longest zero f v h e = ([], over_at f.writer f.page f.address f.place f.lsn v e, refl)
longest (suc m) f v h e =
    let next = goes_on f v h (omega arith) in
    let rest = longest m (after f next.0) (image_after f next.0 v) (placed f next.0 h) (omega (arith, next.3)) in
    (next.0 ∷ rest.0, ((next.1, next.2), rest.1), one_more next.0 rest.0 m rest.2)

pub has_longest : (f : Fetch) (v : Image) → IsPlaced f.place f.address → (way : List Told) × IsWay way f v × (length way ≡ acts_left f)
has_longest f v h = longest (acts_left f) f v h refl
