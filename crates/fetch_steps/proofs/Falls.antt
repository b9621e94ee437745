-- What is told without an obstacle leaves fewer acts.
use Rattle.std.proofs.Common.{◌≡◌, ◌<◌, ◌≤◌, ◌+◌, ℕ, Bool, true, false, Option, Some, None, Ok, Err, refl, subst, if◌then◌else◌, lit<, lit≤}
use Rattle.rm_base.specs.declared.places.Addr.{Addr}
use Rattle.page_image.specs.Image.{Image}
use Rattle.page_latches.specs.declared.latch.Latch.TheVariants.{Granted, Busy}
use Rattle.message_model.specs.declared.Got.TheVariants.{Image as Given, NotYet}
use Rattle.message_model.specs.declared.Appended.{Appended as Outcome}
use Rattle.message_network.specs.declared.calls.Reply.TheVariants.{Registered, PoolFull, Unregistered, Started, Done as DoneReply, Appended, Got as GotReply, Fenced}
use Rattle.fetch_steps.specs.declared.place.Place.{Place}
use Rattle.fetch_steps.specs.declared.place.Place.TheVariants.{Register, LatchS, Look, Read, ReleaseS, LatchX, LookAgain, BackToS, LookBack, Get, Write, Clean, LastS, ReleaseDown, ReleaseEnd, RwLook, RwRead, RwBack, RwLookBack, RwEnd}
use Rattle.message_network.specs.declared.looks.Seen.{Seen}
use Rattle.fetch_steps.specs.declared.acts.Told.{Told}
use Rattle.fetch_steps.specs.declared.acts.Told.TheVariants.{Answer, Latch as Tried, Seen as Looked, Slab, Cleaned, Installed, NoAnswer}
use Rattle.fetch_steps.specs.Fetch.{Fetch, step_at}
use Rattle.fetch_steps.specs.Acts.{act_of, tells_of}
use Rattle.fetch_steps.specs.Telling.{shown}
use Rattle.fetch_steps.specs.Work.{whole_fetch, left_at, acts_left, Obstacle, under_x, again, obstacle_in_look, obstacle_of, only_waits}
use Rattle.fetch_steps.specs.Places.{place_granted, place_under_x, place_seen, place_moved, place_cleaned, place_registered, place_loaded, after}

never : false ≡ true → ⊥
never h = cc

some_none : (x : Obstacle) → Some x ≡ None → ⊥
some_none x h = cc

by_granted : (w : Bool) (pg : ℕ) (a : Option Addr) (place : Place) (l : ℕ) (v : Image) → tells_of (act_of pg a (step_at place l v false)) (Tried Granted) ≡ true → left_at w (place_granted place) < left_at w place
by_granted w pg a LatchS l v h = lit< tt
by_granted w pg None Read l v h = absurd (never h)
by_granted w pg (Some b) Read l v h = absurd (never h)
by_granted w pg a ReleaseS l v h = lit< tt
by_granted w pg a LatchX l v h = lit< tt
by_granted w pg a BackToS l v h = lit< tt
by_granted w pg None Write l v h = absurd (never h)
by_granted w pg (Some b) Write l v h = absurd (never h)
by_granted w pg a LastS l v h = lit< tt
by_granted true pg a ReleaseDown l v h = lit< tt
by_granted false pg a ReleaseDown l v h = lit< tt
by_granted w pg a ReleaseEnd l v h = lit< tt
by_granted w pg None RwRead l v h = absurd (never h)
by_granted w pg (Some b) RwRead l v h = absurd (never h)
by_granted w pg a RwBack l v h = lit< tt
by_granted w pg a RwEnd l v h = lit< tt
by_granted w pg a _ l v h = absurd (never h)

-- a look
left_look : (w bit : Bool) → left_at w (if bit then ReleaseS else Read) < 8
left_look w true = lit< tt
left_look w false = lit< tt

left_rw_look : (w bit : Bool) → left_at w (if bit then LatchX else RwRead) < 7
left_rw_look w true = lit< tt
left_rw_look w false = lit< tt

left_back : (w bit : Bool) → again bit ≡ None → left_at w (if bit then ReleaseS else Read) < 2
left_back w true o = absurd (some_none _ o)
left_back w false o = lit< tt

left_rw_back : (w bit : Bool) → again bit ≡ None → left_at w (if bit then LatchX else RwRead) < 2
left_rw_back w true o = absurd (some_none _ o)
left_rw_back w false o = lit< tt

left_turn : (w writer : Bool) → left_at w (if writer then RwBack else BackToS) < 5
left_turn w true = lit< tt
left_turn w false = lit< tt

left_bit : (w writer bit : Bool) → left_at w (if bit then Get else (if writer then RwBack else BackToS)) < 5
left_bit w writer true = lit< tt
left_bit w writer false = left_turn w writer

left_under_x : (w bit : Bool) (b : Option Addr) → under_x b ≡ None → left_at w (place_under_x w bit b) < 5
left_under_x w bit None o = absurd (some_none _ o)
left_under_x w bit (Some b) o = left_bit w w bit

by_look : (found : Option Seen) (w : Bool) (pg : ℕ) (a : Option Addr) (place : Place) (l : ℕ) (v : Image) → tells_of (act_of pg a (step_at place l v false)) (Looked found) ≡ true → obstacle_in_look (shown found) place ≡ None → left_at w (place_seen w (shown found) place) < left_at w place
by_look found w pg a Look l v h o = left_look w (shown found).bit
by_look found w pg None Read l v h o = absurd (never h)
by_look found w pg (Some b) Read l v h o = absurd (never h)
by_look found w pg a LookAgain l v h o = left_under_x w (shown found).bit (shown found).addr o
by_look found w pg a LookBack l v h o = left_back w (shown found).bit o
by_look found w pg None Write l v h o = absurd (never h)
by_look found w pg (Some b) Write l v h o = absurd (never h)
by_look found w pg a RwLook l v h o = left_rw_look w (shown found).bit
by_look found w pg None RwRead l v h o = absurd (never h)
by_look found w pg (Some b) RwRead l v h o = absurd (never h)
by_look found w pg a RwLookBack l v h o = left_rw_back w (shown found).bit o
by_look found w pg a _ l v h o = absurd (never h)

-- a read or a write
by_move : (u : Unit {0}) (w : Bool) (pg : ℕ) (a : Option Addr) (place : Place) (l : ℕ) (v : Image) → tells_of (act_of pg a (step_at place l v false)) (Slab (Ok u)) ≡ true → left_at w (place_moved place) < left_at w place
by_move u w pg None Read l v h = absurd (never h)
by_move u w pg (Some b) Read l v h = lit< tt
by_move u w pg None Write l v h = absurd (never h)
by_move u w pg (Some b) Write l v h = lit< tt
by_move u w pg None RwRead l v h = absurd (never h)
by_move u w pg (Some b) RwRead l v h = lit< tt
by_move u w pg a _ l v h = absurd (never h)

-- a clean
left_clean : (w : Bool) → left_at w (if w then RwEnd else LastS) < 2
left_clean true = lit< tt
left_clean false = lit< tt

by_clean : (w : Bool) (pg : ℕ) (a : Option Addr) (place : Place) (l : ℕ) (v : Image) → tells_of (act_of pg a (step_at place l v false)) (Cleaned true) ≡ true → left_at w (place_cleaned w true place) < left_at w place
by_clean w pg None Read l v h = absurd (never h)
by_clean w pg (Some b) Read l v h = absurd (never h)
by_clean w pg None Write l v h = absurd (never h)
by_clean w pg (Some b) Write l v h = absurd (never h)
by_clean w pg a Clean l v h = left_clean w
by_clean w pg None RwRead l v h = absurd (never h)
by_clean w pg (Some b) RwRead l v h = absurd (never h)
by_clean w pg a _ l v h = absurd (never h)

-- an answer
by_register : (addr : Addr) (bit : Bool) (floor : ℕ) (w : Bool) (pg : ℕ) (a : Option Addr) (place : Place) (l : ℕ) (v : Image) → tells_of (act_of pg a (step_at place l v false)) (Answer (Registered addr bit floor)) ≡ true → left_at w (place_registered w place) < left_at w place
by_register addr bit floor true pg a Register l v h = lit< tt
by_register addr bit floor false pg a Register l v h = lit< tt
by_register addr bit floor w pg None Read l v h = absurd (never h)
by_register addr bit floor w pg (Some b) Read l v h = absurd (never h)
by_register addr bit floor w pg None Write l v h = absurd (never h)
by_register addr bit floor w pg (Some b) Write l v h = absurd (never h)
by_register addr bit floor w pg None RwRead l v h = absurd (never h)
by_register addr bit floor w pg (Some b) RwRead l v h = absurd (never h)
by_register addr bit floor w pg a _ l v h = absurd (never h)

by_image : (im : Image) (w : Bool) (pg : ℕ) (a : Option Addr) (place : Place) (l : ℕ) (v : Image) → tells_of (act_of pg a (step_at place l v false)) (Answer (GotReply (Given im))) ≡ true → left_at w (place_loaded place) < left_at w place
by_image im w pg None Read l v h = absurd (never h)
by_image im w pg (Some b) Read l v h = absurd (never h)
by_image im w pg a Get l v h = lit< tt
by_image im w pg None Write l v h = absurd (never h)
by_image im w pg (Some b) Write l v h = absurd (never h)
by_image im w pg None RwRead l v h = absurd (never h)
by_image im w pg (Some b) RwRead l v h = absurd (never h)
by_image im w pg a _ l v h = absurd (never h)

-- what no fetch is told
by_unregistered : (w : Bool) (pg : ℕ) (a : Option Addr) (place : Place) (l : ℕ) (v : Image) → tells_of (act_of pg a (step_at place l v false)) (Answer Unregistered) ≡ true → left_at w place < left_at w place
by_unregistered w pg None Read l v h = absurd (never h)
by_unregistered w pg (Some b) Read l v h = absurd (never h)
by_unregistered w pg None Write l v h = absurd (never h)
by_unregistered w pg (Some b) Write l v h = absurd (never h)
by_unregistered w pg None RwRead l v h = absurd (never h)
by_unregistered w pg (Some b) RwRead l v h = absurd (never h)
by_unregistered w pg a _ l v h = absurd (never h)

by_done : (w : Bool) (pg : ℕ) (a : Option Addr) (place : Place) (l : ℕ) (v : Image) → tells_of (act_of pg a (step_at place l v false)) (Answer DoneReply) ≡ true → left_at w place < left_at w place
by_done w pg None Read l v h = absurd (never h)
by_done w pg (Some b) Read l v h = absurd (never h)
by_done w pg None Write l v h = absurd (never h)
by_done w pg (Some b) Write l v h = absurd (never h)
by_done w pg None RwRead l v h = absurd (never h)
by_done w pg (Some b) RwRead l v h = absurd (never h)
by_done w pg a _ l v h = absurd (never h)

by_appended : (appended : Outcome) (w : Bool) (pg : ℕ) (a : Option Addr) (place : Place) (l : ℕ) (v : Image) → tells_of (act_of pg a (step_at place l v false)) (Answer (Appended appended)) ≡ true → left_at w place < left_at w place
by_appended appended w pg None Read l v h = absurd (never h)
by_appended appended w pg (Some b) Read l v h = absurd (never h)
by_appended appended w pg None Write l v h = absurd (never h)
by_appended appended w pg (Some b) Write l v h = absurd (never h)
by_appended appended w pg None RwRead l v h = absurd (never h)
by_appended appended w pg (Some b) RwRead l v h = absurd (never h)
by_appended appended w pg a _ l v h = absurd (never h)

by_fenced : (epoch : ℕ) (w : Bool) (pg : ℕ) (a : Option Addr) (place : Place) (l : ℕ) (v : Image) → tells_of (act_of pg a (step_at place l v false)) (Answer (Fenced epoch)) ≡ true → left_at w place < left_at w place
by_fenced epoch w pg None Read l v h = absurd (never h)
by_fenced epoch w pg (Some b) Read l v h = absurd (never h)
by_fenced epoch w pg None Write l v h = absurd (never h)
by_fenced epoch w pg (Some b) Write l v h = absurd (never h)
by_fenced epoch w pg None RwRead l v h = absurd (never h)
by_fenced epoch w pg (Some b) RwRead l v h = absurd (never h)
by_fenced epoch w pg a _ l v h = absurd (never h)

by_installed : (w : Bool) (pg : ℕ) (a : Option Addr) (place : Place) (l : ℕ) (v : Image) → tells_of (act_of pg a (step_at place l v false)) Installed ≡ true → left_at w place < left_at w place
by_installed w pg None Read l v h = absurd (never h)
by_installed w pg (Some b) Read l v h = absurd (never h)
by_installed w pg None Write l v h = absurd (never h)
by_installed w pg (Some b) Write l v h = absurd (never h)
by_installed w pg None RwRead l v h = absurd (never h)
by_installed w pg (Some b) RwRead l v h = absurd (never h)
by_installed w pg a _ l v h = absurd (never h)

-- the acts that are left are fewer after what is told without an obstacle
pub falls : (f : Fetch) (told : Told) (v : Image) → tells_of (act_of f.page f.address (step_at f.place f.lsn v false)) told ≡ true → obstacle_of f told ≡ None → acts_left (after f told) < acts_left f
falls f (Answer (Registered addr bit floor)) v h o = by_register addr bit floor f.writer f.page f.address f.place f.lsn v h
falls f (Answer (PoolFull slots)) v h o = absurd (some_none _ o)
falls f (Answer Unregistered) v h o = by_unregistered f.writer f.page f.address f.place f.lsn v h
falls f (Answer (Started due)) v h o = absurd (some_none _ o)
falls f (Answer DoneReply) v h o = by_done f.writer f.page f.address f.place f.lsn v h
falls f (Answer (Appended appended)) v h o = by_appended appended f.writer f.page f.address f.place f.lsn v h
falls f (Answer (GotReply (Given im))) v h o = by_image im f.writer f.page f.address f.place f.lsn v h
falls f (Answer (GotReply (NotYet applied))) v h o = absurd (some_none _ o)
falls f (Answer (Fenced epoch)) v h o = by_fenced epoch f.writer f.page f.address f.place f.lsn v h
falls f (Tried Granted) v h o = by_granted f.writer f.page f.address f.place f.lsn v h
falls f (Tried (Busy holders)) v h o = absurd (some_none _ o)
falls f (Looked found) v h o = by_look found f.writer f.page f.address f.place f.lsn v h o
falls f (Slab (Ok u)) v h o = by_move u f.writer f.page f.address f.place f.lsn v h
falls f (Slab (Err e)) v h o = absurd (some_none _ o)
falls f (Cleaned true) v h o = by_clean f.writer f.page f.address f.place f.lsn v h
falls f (Cleaned false) v h o = absurd (some_none _ o)
falls f Installed v h o = by_installed f.writer f.page f.address f.place f.lsn v h
falls f NoAnswer v h o = absurd (some_none _ o)

-- an obstacle that only waits leaves them
pub waits_no_x : (b : Option Addr) → only_waits (under_x b) ≡ true → ⊥
waits_no_x None h = never h
waits_no_x (Some b) h = never h

pub waits_no_bit : (bit : Bool) → only_waits (again bit) ≡ true → ⊥
waits_no_bit true h = never h
waits_no_bit false h = never h

looks_on : (seen : Seen) (place : Place) → only_waits (obstacle_in_look seen place) ≡ true → ⊥
looks_on seen LookAgain h = waits_no_x seen.addr h
looks_on seen LookBack h = waits_no_bit seen.bit h
looks_on seen RwLookBack h = waits_no_bit seen.bit h
looks_on seen _ h = never h

pub waits : (f : Fetch) (told : Told) → only_waits (obstacle_of f told) ≡ true → acts_left (after f told) ≡ acts_left f
waits f (Answer (Registered addr bit floor)) h = absurd (never h)
waits f (Answer (PoolFull slots)) h = refl
waits f (Answer Unregistered) h = refl
waits f (Answer (Started due)) h = refl
waits f (Answer DoneReply) h = refl
waits f (Answer (Appended appended)) h = refl
waits f (Answer (GotReply (Given im))) h = absurd (never h)
waits f (Answer (GotReply (NotYet applied))) h = refl
waits f (Answer (Fenced epoch)) h = refl
waits f (Tried Granted) h = absurd (never h)
waits f (Tried (Busy holders)) h = refl
waits f (Looked found) h = absurd (looks_on (shown found) f.place h)
waits f (Slab (Ok u)) h = absurd (never h)
waits f (Slab (Err e)) h = absurd (never h)
waits f (Cleaned true) h = absurd (never h)
waits f (Cleaned false) h = absurd (never h)
waits f Installed h = refl
waits f NoAnswer h = refl

-- no place has more acts left than that before the page is forgotten
left_most : (w : Bool) (place : Place) → left_at w place ≤ 2 + whole_fetch w
left_most true Register = lit≤ tt
left_most false Register = lit≤ tt
left_most true _ = lit≤ tt
left_most false _ = lit≤ tt

pub same : (f : Fetch) (told : Told) → ((after f told).page ≡ f.page) × ((after f told).writer ≡ f.writer)
same f (Answer (Registered addr bit floor)) = (refl, refl)
same f (Answer (PoolFull slots)) = (refl, refl)
same f (Answer Unregistered) = (refl, refl)
same f (Answer (Started due)) = (refl, refl)
same f (Answer DoneReply) = (refl, refl)
same f (Answer (Appended appended)) = (refl, refl)
same f (Answer (GotReply (Given im))) = (refl, refl)
same f (Answer (GotReply (NotYet applied))) = (refl, refl)
same f (Answer (Fenced epoch)) = (refl, refl)
same f (Tried Granted) = (refl, refl)
same f (Tried (Busy holders)) = (refl, refl)
same f (Looked found) = (refl, refl)
same f (Slab (Ok u)) = (refl, refl)
same f (Slab (Err e)) = (refl, refl)
same f (Cleaned there) = (refl, refl)
same f Installed = (refl, refl)
same f NoAnswer = (refl, refl)

pub most : (f : Fetch) (told : Told) → acts_left (after f told) ≤ 2 + whole_fetch f.writer
most f told = subst (λ w. left_at (after f told).writer (after f told).place ≤ 2 + whole_fetch w) (same f told).1 (left_most (after f told).writer (after f told).place)
