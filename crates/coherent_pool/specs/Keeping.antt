-- For the proofs: what holds of what a node keeps of each page.
use Rattle.std.specs.Prelude.{◌≡◌, ℕ, Bool, true, false, Option, Some, None, is_some, not}
use Rattle.page_image.specs.Image.{Image}
use Rattle.node_model.specs.Step.{Step.Look as LookStep}
use Rattle.node_model.specs.Learning.{have}
use Rattle.local_cache.specs.declared.cache.Cached.{Cached}
use Rattle.fetch_steps.specs.Fetch.{Fetch}
use Rattle.fetch_steps.specs.declared.place.Place.{Place}
use Rattle.fetch_steps.specs.declared.place.Place.TheVariants.{LatchS, Look, Read, ReleaseS, LatchX, LookAgain, BackToS, LookBack, Write, Clean, LastS, RwLook, RwRead, RwBack, RwLookBack, RwEnd, ReleaseEnd, Done}
use Rattle.coherent_pool.specs.declared.works.FetchWork.{FetchWork}
use Rattle.coherent_pool.specs.declared.works.Stage.{Stage}
use Rattle.coherent_pool.specs.declared.works.Stage.TheVariants.{Fetching, Held, Releasing, Over, Latching, Invalidating, Installing, Writing, Cleaning, Entering, Freeing}
use Rattle.coherent_pool.specs.declared.node.PoolNode.{PoolNode}
use Rattle.coherent_pool.specs.Node.{PageState, state_at, copy_in}

-- how many fetches have the copy
abbrev pub pins_of : Option FetchWork → ℕ
pins_of None = 0
pins_of (Some w) = 1

-- so many fetches have the copy, if there is one
abbrev pub PinsAgree : Option Cached → ℕ → Type 0
PinsAgree None n = Unit {0}
PinsAgree (Some c) n = c.pins ≡ n

-- the image that storage gave is kept until it is the copy, and its LSN is the one that the home is told
abbrev pub ImageAgrees : Place → ℕ → Option Image → Type 0
ImageAgrees Write lsn image = (v : Image) × (image ≡ Some v) × (lsn ≡ v.lsn)
ImageAgrees Clean lsn image = (v : Image) × (image ≡ Some v) × (lsn ≡ v.lsn)
ImageAgrees LastS lsn image = (v : Image) × (image ≡ Some v)
ImageAgrees RwEnd lsn image = (v : Image) × (image ≡ Some v)
ImageAgrees place lsn image = image ≡ None

-- a node that looks has no copy that it may use
abbrev pub searches : Place → Bool
searches Look = true
searches ReleaseS = true
searches LatchX = true
searches LookAgain = true
searches BackToS = true
searches LookBack = true
searches RwLook = true
searches RwBack = true
searches RwLookBack = true
searches place = false

-- the RW and the other nodes have some places of their own
abbrev pub suits : Bool → Place → Bool
suits writer LatchS = not writer
suits writer Look = not writer
suits writer Read = not writer
suits writer ReleaseS = not writer
suits writer BackToS = not writer
suits writer LookBack = not writer
suits writer LastS = not writer
suits writer RwLook = writer
suits writer RwRead = writer
suits writer RwBack = writer
suits writer RwLookBack = writer
suits writer RwEnd = writer
suits writer ReleaseEnd = false
suits writer Done = false
suits writer place = true

-- a page of a plan has a copy, and no image of storage
abbrev pub HasOwnCopy : Option Cached → Option Image → Type 0
HasOwnCopy copy image = (image ≡ None) × (is_some copy ≡ true)

abbrev pub StageAgrees : Stage → Option Cached → Bool → Fetch → Option Image → Type 0
StageAgrees Fetching copy bit f image =
    ImageAgrees f.place f.lsn image × (searches f.place ≡ true → have (copy_in copy) bit ≡ LookStep)
    × (suits f.writer f.place ≡ true)
StageAgrees Held copy bit f image = image ≡ None
StageAgrees Releasing copy bit f image = image ≡ None
StageAgrees Over copy bit f image = image ≡ None
StageAgrees Latching copy bit f image = HasOwnCopy copy image
StageAgrees Invalidating copy bit f image = HasOwnCopy copy image
StageAgrees Installing copy bit f image = HasOwnCopy copy image
StageAgrees Writing copy bit f image = HasOwnCopy copy image
StageAgrees Cleaning copy bit f image = HasOwnCopy copy image
StageAgrees Entering copy bit f image = HasOwnCopy copy image
StageAgrees Freeing copy bit f image = HasOwnCopy copy image

abbrev pub WorkAgrees : Bool → Option Cached → Bool → Option FetchWork → Type 0
WorkAgrees writer copy bit None = Unit {0}
WorkAgrees writer copy bit (Some w) = (w.step.writer ≡ writer) × StageAgrees w.stage copy bit w.step w.image

pub record Agrees (writer : Bool) (S : PageState) : Type 0 where
  pub pins : PinsAgree S.copy (pins_of S.work)
  pub work : WorkAgrees writer S.copy S.known.bit S.work

abbrev pub IsNode : PoolNode → Type 0
IsNode N = (p : ℕ) → Agrees N.writer (state_at N p)
