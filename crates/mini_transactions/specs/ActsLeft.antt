-- Stated: the acts that are left of a plan on its longest way on which nothing gets in the way, and what may get in its way.
use Rattle.std.specs.Prelude.{◌≡◌, ◌<◌, ◌+◌, ℕ, true, Option, Some, None, List, [], ◌∷◌, length, slice_index_or, nat_eq, if◌then◌else◌}
use Rattle.std.specs.Option.{option_map_or}
use Rattle.rm_base.specs.declared.places.Addr.{Addr}
use Rattle.page_image.specs.Image.{Image}
use Rattle.fetch_steps.specs.declared.acts.Told.{Told}
use Rattle.fetch_steps.specs.Acts.{tells_of}
use Rattle.fetch_steps.specs.Work.{acts_left as fetch_acts, Obstacle, obstacle_of as fetch_obstacle}
use Rattle.mini_transactions.specs.declared.stage.Stage.{Stage}
use Rattle.mini_transactions.specs.declared.stage.Stage.TheVariants.{Making, Registering, Fetching, Latching, Invalidating, Installing, Writing, Cleaning, Releasing, Quitting, Ended}
use Rattle.mini_transactions.specs.declared.page_work.PageWork.{PageWork}
use Rattle.mini_transactions.specs.Work.{next_of}
use Rattle.mini_transactions.specs.Progress.{Progress, NextHasImage, next_act, span}

-- so many acts, and one more to register a page without an address
abbrev pub with_slot : Option Addr → ℕ → ℕ
with_slot None acts = acts + 1
with_slot (Some address) acts = acts

-- the acts of one page: it is registered and fetched, latched, written, cleaned and released
abbrev pub acts_at : Stage → PageWork → ℕ
acts_at Making w = 5
acts_at Registering w = 5
acts_at Fetching w = fetch_acts w.fetch + 4
acts_at Latching w = with_slot w.address 4
acts_at Invalidating w = with_slot w.address 3
acts_at Installing w = with_slot w.address 3
acts_at Writing w = with_slot w.address 3
acts_at Cleaning w = 2
acts_at Releasing w = 1
acts_at Quitting w = if w.claimed then 1 else 0
acts_at Ended w = 0

abbrev pub page_acts : PageWork → ℕ
page_acts w = acts_at w.stage w

abbrev pub acts_of_pages : List PageWork → ℕ
acts_of_pages [] = 0
acts_of_pages (w ∷ ws) = page_acts w + acts_of_pages ws

-- the acts of all pages at once: invalidate and install before the install, and install at it
abbrev pub joint_acts : ℕ → ℕ
joint_acts far = if nat_eq far 0 then 2 else (if nat_eq far 1 then 1 else 0)

abbrev pub acts_left : Progress → ℕ
acts_left m = acts_of_pages m.works + option_map_or (λ w. joint_acts (span w.stage)) (next_of m.works) 0

-- what gets in the way of a plan: of the page whose turn it is, what gets in the way of a fetch. A latch that another node
-- holds, a full pool, storage that has not come to the floor, local bits that are still to be set, an access that was lost
-- or unseen or met a home that is down, a slab that is lost, an entry that is gone, a page without an address under X, and
-- bit 1 after bit 0 was seen under X
abbrev pub obstacle_of : Progress → Told → Option Obstacle
obstacle_of m told = option_map_or (λ w. fetch_obstacle w.fetch told) (next_of m.works) None

-- the plan's pages differ
abbrev pub Differ : List ℕ → Type 0
Differ pages = (j : ℕ) → j < length pages → (k : ℕ) → k < length pages → (d : ℕ) → slice_index_or pages j d ≡ slice_index_or pages k d → j ≡ k

-- this may be told of the act that is next, and it is no obstacle
abbrev pub Goes : Progress → Image → Told → Type 0
Goes m v told = NextHasImage m v × (tells_of (next_act m v) told ≡ true) × (obstacle_of m told ≡ None)
