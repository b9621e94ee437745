-- For the proofs: what each part of a step makes of what a node keeps of a page.
use Rattle.std.specs.Prelude.{◌≡◌, ℕ, Bool, true, false, Option, Some, None, Ok, not, ◌&&◌, option_map, is_some, if◌then◌else◌}
use Rattle.std.specs.Option.{option_map_or}
use Rattle.page_image.specs.Image.{Image}
use Rattle.local_cache.specs.declared.cache.Cached.{Cached}
use Rattle.local_cache.specs.Cache.{pinned, unpinned}
use Rattle.message_network.specs.declared.looks.Seen.{Seen}
use Rattle.rm_base.specs.declared.places.Addr.{Addr}
use Rattle.message_model.specs.declared.Got.TheVariants.{Image as Given}
use Rattle.message_network.specs.declared.calls.Reply.{Reply}
use Rattle.message_network.specs.declared.calls.Reply.TheVariants.{Got}
use Rattle.fetch_steps.specs.Places.{begun}
use Rattle.fetch_steps.specs.declared.place.Place.{Place}
use Rattle.coherent_pool.specs.declared.works.Stage.{Stage}
use Rattle.coherent_pool.specs.Known.{nothing_known}
use Rattle.coherent_pool.specs.Standing.{is_register, is_read, is_done}
use Rattle.fetch_steps.specs.declared.acts.Told.{Told}
use Rattle.fetch_steps.specs.declared.acts.Told.TheVariants.{Answer, Latch as Tried, Seen as Looked, Slab}
use Rattle.page_latches.specs.declared.latch.Latch.TheVariants.{Granted}
use Rattle.coherent_pool.specs.declared.known.Known.{Known}
use Rattle.coherent_pool.specs.declared.works.FetchWork.{FetchWork}
use Rattle.coherent_pool.specs.Works.{told_work, staged_work, stepped_work, loaded_work}
use Rattle.coherent_pool.specs.declared.works.Stage.TheVariants.{Fetching, Held, Releasing, Over, Latching, Invalidating, Installing, Writing, Cleaning, Entering, Freeing}
use Rattle.coherent_pool.specs.Node.{PageState, address_in, holds_in}

abbrev pub is_fetching : Stage → Bool
is_fetching Fetching = true
is_fetching stage = false

abbrev pub is_releasing : Stage → Bool
is_releasing Releasing = true
is_releasing Freeing = true
is_releasing stage = false

abbrev pub is_over : Stage → Place → Bool
is_over Fetching place = is_done place
is_over Over place = true
is_over stage place = false

-- no fetch has the copy any more
abbrev pub freed : Option Cached → Option Cached
freed copy = option_map (λ (c : Cached). unpinned c) copy

abbrev pub with_known : PageState → Known → PageState
with_known S k = record S { known = k }

abbrev pub with_bit : PageState → Bool → PageState
with_bit S b = record S { known = record S.known { bit = b } }

abbrev pub with_leaving : PageState → Bool → PageState
with_leaving S leaves = record S { leaving = leaves }

abbrev pub with_copy : PageState → Option Cached → PageState
with_copy S c = record S { copy = c }

abbrev pub with_work : PageState → Option FetchWork → PageState
with_work S w = record S { work = w }

-- the fetch is told of its act
abbrev pub told_at : Told → PageState → PageState
told_at told S = with_work S (told_work told S.work)

-- a copy that a fetch has
abbrev pub copy_with : Image → Cached
copy_with image = record { page = image; bit = false; pins = 1 }

-- the image that storage gave becomes the copy, with local bit 0
abbrev pub loaded_image : Option Image → PageState → PageState
loaded_image None S = S
loaded_image (Some image) S = record { known = record S.known { bit = false }; leaving = S.leaving; copy = Some (copy_with image); work = loaded_work None S.work }

abbrev pub loaded : PageState → PageState
loaded S = loaded_image (option_map_or (λ w. w.image) S.work None) S

-- the node has a copy that may be used without a look
abbrev pub is_fresh : Option Cached → Bool → Bool
is_fresh None bit = false
is_fresh (Some c) bit = not bit

abbrev pub used : PageState → PageState
used S = if is_fresh S.copy S.known.bit then with_work S (staged_work Held S.work) else S

-- a fetch that is under way and not given up
abbrev pub fetches : Option FetchWork → Bool
fetches None = false
fetches (Some w) = is_fetching w.stage

-- what is left is the release of a latch that may be held
abbrev pub releases : Option FetchWork → Bool
releases None = false
releases (Some w) = is_releasing w.stage

-- the fetch is to read the slot, or to register the page
abbrev pub reads : Option FetchWork → Bool
reads None = false
reads (Some w) = is_read w.step.place

abbrev pub registers : Option FetchWork → Bool
registers None = false
registers (Some w) = is_register w.step.place

-- nothing is left to do, and no latch is held
abbrev pub has_ended : Option FetchWork → Bool
has_ended None = false
has_ended (Some w) = is_over w.stage w.step.place

abbrev pub addressed : PageState → PageState
addressed S = with_known S (record S.known { addr = address_in S.known S.work })

abbrev pub pins_in : Option Cached → ℕ
pins_in None = 0
pins_in (Some c) = c.pins

-- the fetch is over: what it knows of the page is kept
abbrev pub ended : PageState → PageState
ended S = record {
  known = record S.known { addr = address_in S.known S.work };
  leaving = S.leaving;
  copy = freed S.copy;
  work = None;
}

abbrev pub settled : PageState → PageState
settled S = if has_ended S.work then ended S else S

-- ---------------- the steps

-- S was granted
abbrev pub shared : PageState → PageState
shared S = used (told_at (Tried Granted) (loaded S))

-- X was granted: a page of a plan is to be invalidated then
abbrev pub is_latching : Stage → Bool
is_latching Latching = true
is_latching stage = false

abbrev pub latches : Option FetchWork → Bool
latches None = false
latches (Some w) = is_latching w.stage

abbrev pub excluded : PageState → PageState
excluded S = if latches S.work then with_work S (staged_work Invalidating S.work) else told_at (Tried Granted) S

-- bit 0 was seen under S: the local bit is 0
abbrev pub noted : Bool → PageState → PageState
noted writer S = if (not writer && reads S.work) then with_bit S false else S

abbrev pub seen_at : Bool → Option Seen → PageState → PageState
seen_at writer seen S = noted writer (told_at (Looked seen) S)

-- the slot was read; the RW is done then
abbrev pub bit_read : Bool → PageState → PageState
bit_read writer S = if writer then with_bit S false else S

abbrev pub read_at : Bool → Image → PageState → PageState
read_at writer image S = settled (told_at (Slab (Ok tt)) (bit_read writer (with_copy S (Some (copy_with image)))))

-- the slot is lost: the local bit is 1, and an image that storage gave is dropped
abbrev pub lost_at : Told → PageState → PageState
lost_at told S = with_bit (let T : PageState = told_at told S in with_work T (loaded_work None T.work)) true

-- a latch was released; a page that is to be registered again has local bit 1
abbrev pub forgot : PageState → PageState
forgot S = if registers S.work then with_bit S true else S

abbrev pub let_go : PageState → PageState
let_go S = if releases S.work then with_work S (staged_work Over S.work) else forgot (told_at (Tried Granted) S)

abbrev pub released_at : PageState → PageState
released_at S = settled (let_go (loaded S))

-- ---------------- a fetch begins

abbrev pub new_work : Bool → ℕ → Option Addr → FetchWork
new_work writer page address = record { step = begun page writer address; stage = Fetching; image = None }

-- a page that is wanted again is not to be unregistered, and has local bit 1
abbrev pub wanted : PageState → PageState
wanted S = if S.leaving then with_leaving (with_bit S true) false else S

-- one fetch more has the copy
abbrev pub had : Option Cached → Option Cached
had copy = option_map (λ (c : Cached). pinned c) copy

abbrev pub begun_at : Bool → ℕ → PageState → PageState
begun_at writer page S =
    let T : PageState = wanted (with_work S (Some (new_work writer page S.known.addr))) in with_copy T (had T.copy)

-- ---------------- answers

abbrev pub kept_page : PageState → PageState
kept_page S = with_known S (record S.known { kept = true })

-- the RW uses its own copy at once
abbrev pub owned : Bool → PageState → PageState
owned writer S = if ((fetches S.work && writer) && is_some S.copy) then with_work S (staged_work Over S.work) else S

abbrev pub registered_at : Bool → Reply → PageState → PageState
registered_at writer reply S = settled (owned writer (kept_page (told_at (Answer reply) S)))

abbrev pub given_image : Image → PageState → PageState
given_image image S =
    if fetches S.work then with_work S (loaded_work (Some image) (told_work (Answer (Got (Given image))) S.work)) else S

abbrev pub got_at : Image → PageState → PageState
got_at image S = settled (given_image image S)

-- ---------------- a fetch is given up

-- a page that was looked at under S and not yet read has local bit 1
abbrev pub spoilt : Bool → PageState → PageState
spoilt writer S = if ((fetches S.work && reads S.work) && not writer) then with_bit S true else S

abbrev pub quit_stage : Option FetchWork → Stage
quit_stage work = if holds_in work then Releasing else Over

abbrev pub quit_work : Option FetchWork → Option FetchWork
quit_work work = staged_work (quit_stage work) (loaded_work None work)

abbrev pub quit_at : Bool → PageState → PageState
quit_at writer S = let T : PageState = spoilt writer S in with_work T (quit_work T.work)

abbrev pub gave_up : Bool → Bool → PageState → PageState
gave_up waits writer S = if waits then quit_at writer S else settled (quit_at writer S)

-- ---------------- a page of a plan

abbrev pub plan_work : Bool → ℕ → Option Addr → FetchWork
plan_work writer page address = record { step = begun page writer address; stage = Latching; image = None }

abbrev pub planned_at : Bool → ℕ → PageState → PageState
planned_at writer page S = let T : PageState = with_work S (Some (plan_work writer page S.known.addr)) in with_copy T (had T.copy)

-- the home's answer to the invalidate
abbrev pub is_invalidating : Stage → Bool
is_invalidating Invalidating = true
is_invalidating stage = false

abbrev pub invalidates : Option FetchWork → Bool
invalidates None = false
invalidates (Some w) = is_invalidating w.stage

abbrev pub done_at : Bool → PageState → PageState
done_at done S = if (invalidates S.work && done) then with_work S (staged_work Installing S.work) else S

abbrev pub invalidated_at : Bool → PageState → PageState
invalidated_at done S = settled (done_at done S)

-- the image becomes the copy, where there is one
abbrev pub imaged : Image → Option Cached → Option Cached
imaged image copy = option_map (λ (c : Cached). let x : Cached = record c { page = image } in x) copy

abbrev pub installed_at : Image → PageState → PageState
installed_at image S =
    let T : PageState = with_bit (with_copy S (imaged image S.copy)) false in with_work T (staged_work Writing T.work)

abbrev pub written_at : PageState → PageState
written_at S = with_work S (staged_work Cleaning S.work)

abbrev pub cleaned_at : PageState → PageState
cleaned_at S = with_work S (staged_work Freeing S.work)

-- the slot is lost; the page is registered again
abbrev pub unslotted : ℕ → Bool → PageState → PageState
unslotted page writer S =
    let T : PageState = with_work S (stepped_work (begun page writer None) S.work) in with_work T (staged_work Entering T.work)

abbrev pub entered_at : ℕ → Addr → Bool → PageState → PageState
entered_at page a writer S =
    let T : PageState = kept_page (with_work S (stepped_work (begun page writer (Some a)) S.work)) in with_work T (staged_work Writing T.work)

-- ---------------- a copy goes, a page is parted with

abbrev pub evicted_at : PageState → PageState
evicted_at S = with_leaving (with_copy S None) true

abbrev pub parted_at : PageState → PageState
parted_at S = with_leaving (with_known S nothing_known) false

-- no fetch has the copy that is there
abbrev pub HasFreeCopy : PageState → Type 0
HasFreeCopy S = (c : Cached) × (S.copy ≡ Some c) × (c.pins ≡ 0)
