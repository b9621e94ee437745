-- Stated: the ways of a fetch to its end on which nothing gets in the way.
use Rattle.std.specs.Prelude.{◌≡◌, Bool, true, false, Some, None, Ok, List, [], ◌∷◌}
use Rattle.rm_base.specs.declared.places.Addr.{Addr}
use Rattle.page_image.specs.Image.{Image}
use Rattle.page_latches.specs.declared.latch.Latch.TheVariants.{Granted}
use Rattle.message_model.specs.declared.Got.TheVariants.{Image as Given}
use Rattle.message_network.specs.declared.calls.Reply.TheVariants.{Registered, Got}
use Rattle.node_model.specs.Call.{Call}
use Rattle.fetch_steps.specs.declared.acts.Action.TheVariants.{Finished}
use Rattle.fetch_steps.specs.declared.acts.Told.{Told}
use Rattle.fetch_steps.specs.declared.acts.Told.TheVariants.{Answer, Latch as Tried, Seen as Looked, Slab, Cleaned}
use Rattle.fetch_steps.specs.Fetch.{Fetch, step_of}
use Rattle.fetch_steps.specs.Acts.{act_of, tells_of}
use Rattle.fetch_steps.specs.Telling.{image_after}
use Rattle.fetch_steps.specs.Work.{obstacle_of}
use Rattle.fetch_steps.specs.Places.{after}

-- this may be told of the act that is next, and it is no obstacle
abbrev pub Goes : Fetch → Image → Told → Type 0
Goes f v told =
    (tells_of (act_of f.page f.address (step_of f v Call.Quiet)) told ≡ true) × (obstacle_of f told ≡ None)

-- a way to the end: what is told of each act, in order
abbrev pub IsWay : List Told → Fetch → Image → Type 0
IsWay [] f v = act_of f.page f.address (step_of f v Call.Quiet) ≡ Finished
IsWay (told ∷ way) f v = Goes f v told × IsWay way (after f told) (image_after f told v)

-- what a look shows of a page at this address
abbrev pub bit_at : Addr → Bool → Told
bit_at address bit = Looked (Some (record { addr = Some address; bit = bit; lsn = 0; floor = 0 }))

-- a page without an address is registered, and read from the pool
abbrev pub reading_way : Addr → List Told
reading_way address =
    Answer (Registered address true 0) ∷ (Tried Granted ∷ (bit_at address false ∷ (Slab (Ok tt) ∷ [])))

-- a page is loaded from storage, from its first look on: the latch S goes, X comes, and S takes its place
abbrev pub loading_way : Addr → Image → List Told
loading_way address v =
    bit_at address true ∷ (Tried Granted ∷ (Tried Granted ∷ (bit_at address true
    ∷ (Answer (Got (Given v)) ∷ (Slab (Ok tt) ∷ (Cleaned true ∷ (Tried Granted ∷ [])))))))

-- the RW loads a page, from its first look on, and releases X
abbrev pub rw_loading_way : Addr → Image → List Told
rw_loading_way address v =
    bit_at address true ∷ (Tried Granted ∷ (bit_at address true
    ∷ (Answer (Got (Given v)) ∷ (Slab (Ok tt) ∷ (Cleaned true ∷ (Tried Granted ∷ []))))))
