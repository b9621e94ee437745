-- Stated: what a node hears of an access is a move of the law of pages, at the page that the access met.
use Rattle.std.specs.Prelude.{◌≡◌, ◌≢◌, ℕ, true, false, Some, None, Ok, Err}
use Rattle.rm_base.specs.declared.places.Addr.{Addr}
use Rattle.page_image.specs.Image.{Image}
use Rattle.slab_node.specs.declared.slab.SlabNo.{SlabNo}
use Rattle.home_model.specs.Latch.{Without}
use Rattle.message_network.specs.declared.looks.Seen.{Seen}
use Rattle.page_latches.specs.declared.latch.Latch.TheVariants.{Granted}
use Rattle.node_model.specs.Step.{Step, wants_s, wants_x, wants_release}
use Rattle.page_coherence.specs.Page.{Page, HasS, HasX, Alive, set_node}
use Rattle.page_coherence.specs.Moves.{Moves, Move.SeeS, Move.SeeX, Move.SeeRelease, Move.SeeLook, Move.SeeRwLook, Move.SeeLookAgain, Move.SeeNoAddress, Move.DoRead, Move.DoRwRead, Move.SeeWrite, Move.SeeClean, Move.ReadDown, Move.RwReadDown, Move.WriteDown}
use Rattle.fetch_steps.specs.declared.acts.Told.{Told}
use Rattle.fetch_steps.specs.declared.acts.Told.TheVariants.{Latch as Tried, Seen as Looked, Slab, Cleaned}
use Rattle.coherent_pool.specs.Hearing.{heard}

-- the page after node n heard this
abbrev pub heard_page : ℕ → ℕ → Told → Image → Page → Page
heard_page r n told v P = set_node P n (heard r n told v (P.node n))

-- node n is up
abbrev pub IsUp : Page → ℕ → Type 0
IsUp P n = (P.node n).up ≡ true

-- node n stands at this step
abbrev pub StandsAt : Page → ℕ → Step → Type 0
StandsAt P n step = (P.node n).step ≡ step

-- a look shows the page's entry
pub record Shows (P : Page) (seen : Seen) : Type 0 where
  pub bit : seen.bit ≡ P.entry.bit
  pub floor : seen.floor ≡ P.entry.floor

-- after the home granted the latch, or took the release
pub record LatchesMove (r w n : ℕ) (v : Image) (P : Page) : Type 0 where
  pub share : IsUp P n → wants_s (P.node n).step ≡ true → HasS P n
      → Moves r w n SeeS P (heard_page r n (Tried Granted) v P)
  pub exclude : IsUp P n → wants_x (P.node n).step ≡ true → HasX P n
      → Moves r w n SeeX P (heard_page r n (Tried Granted) v P)
  pub release : IsUp P n → wants_release (P.node n).step ≡ true → Without P.entry.latch n
      → Moves r w n SeeRelease P (heard_page r n (Tried Granted) v P)

pub record LooksMove (r w n : ℕ) (v : Image) (P : Page) : Type 0 where
  pub look : (seen : Seen) → IsUp P n → StandsAt P n Step.Look → Shows P seen
      → Moves r w n SeeLook P (heard_page r n (Looked (Some seen)) v P)
  pub rw_look : (seen : Seen) → IsUp P n → StandsAt P n Step.RwLook → Shows P seen
      → Moves r w n SeeRwLook P (heard_page r n (Looked (Some seen)) v P)
  pub look_again : (seen : Seen) (a : Addr) → IsUp P n → StandsAt P n Step.LookAgain → Shows P seen
      → seen.addr ≡ Some a → P.entry.address ≢ None
      → Moves r w n SeeLookAgain P (heard_page r n (Looked (Some seen)) v P)
  pub no_address : (seen : Seen) → IsUp P n → StandsAt P n Step.LookAgain → seen.addr ≡ None
      → P.entry.address ≡ None
      → Moves r w n SeeNoAddress P (heard_page r n (Looked (Some seen)) v P)

-- what was read is the slot's image; what was written stands in the slot, and is clean
pub record SlotsMove (r w n : ℕ) (P : Page) : Type 0 where
  pub read : IsUp P n → StandsAt P n Step.Read → Alive P (P.node n)
      → Moves r w n DoRead P (heard_page r n (Slab (Ok tt)) P.slot P)
  pub rw_read : IsUp P n → StandsAt P n Step.RwRead → Alive P (P.node n)
      → Moves r w n DoRwRead P (heard_page r n (Slab (Ok tt)) P.slot P)
  pub write : (v image : Image) → IsUp P n → StandsAt P n (Step.Write image) → P.slot ≡ image
      → Moves r w n SeeWrite P (heard_page r n (Slab (Ok tt)) v P)
  pub clean : (v image : Image) → IsUp P n → StandsAt P n (Step.Clean image) → P.entry.bit ≡ false
      → P.entry.lsn ≡ image.lsn
      → Moves r w n SeeClean P (heard_page r n (Cleaned true) v P)

-- the slot is lost, or the entry that was to be clean is gone
pub record LossesMove (r w n : ℕ) (v : Image) (P : Page) : Type 0 where
  pub read : (why : SlabNo) → IsUp P n → StandsAt P n Step.Read
      → Moves r w n ReadDown P (heard_page r n (Slab (Err why)) v P)
  pub rw_read : (why : SlabNo) → IsUp P n → StandsAt P n Step.RwRead
      → Moves r w n RwReadDown P (heard_page r n (Slab (Err why)) v P)
  pub write : (why : SlabNo) (image : Image) → IsUp P n → StandsAt P n (Step.Write image)
      → Moves r w n WriteDown P (heard_page r n (Slab (Err why)) v P)
  pub clean : (why : SlabNo) (image : Image) → IsUp P n → StandsAt P n (Step.Clean image)
      → Moves r w n WriteDown P (heard_page r n (Slab (Err why)) v P)
  pub gone : (image : Image) → IsUp P n → StandsAt P n (Step.Clean image)
      → Moves r w n WriteDown P (heard_page r n (Cleaned false) v P)
