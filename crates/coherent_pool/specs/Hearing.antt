-- Stated: what a node learns of an access of its fetch, as one change of the law's node.
use Rattle.std.specs.Prelude.{◌≡◌, ℕ, Bool, true, false, Option, Some, Ok, Err, nat_eq}
use Rattle.page_image.specs.Image.{Image}
use Rattle.page_latches.specs.declared.latch.Latch.TheVariants.{Granted}
use Rattle.node_model.specs.Step.{Step}
use Rattle.node_model.specs.Call.{Call, Call.Quiet, is_of_work}
use Rattle.coherent_pool.specs.declared.node.PoolNode.{PoolNode}
use Rattle.coherent_pool.specs.Node.{node_at, is_writer, is_up, may_hold_at}
use Rattle.node_model.specs.Node.{Node}
use Rattle.node_model.specs.Learning.{s_stale, s_copy, release_stale, release_copy, look_stale, have, begun, gives_up, answered}
use Rattle.fetch_steps.specs.declared.acts.Told.{Told}
use Rattle.fetch_steps.specs.declared.acts.Told.TheVariants.{Latch as Tried, Seen as Looked, Slab, Cleaned}
use Rattle.fetch_steps.specs.Telling.{learned, learned_address, shown, settled}

-- the next act looks, reads the slot, writes it, or says that it is clean; the act meets a slab
abbrev pub looks : Step → Bool
looks Step.Look = true
looks Step.LookAgain = true
looks Step.RwLook = true
looks step = false

abbrev pub reads_slot : Step → Bool
reads_slot Step.Read = true
reads_slot Step.RwRead = true
reads_slot step = false

abbrev pub writes_slot : Step → Bool
writes_slot (Step.Write v) = true
writes_slot step = false

abbrev pub cleans_slot : Step → Bool
cleans_slot (Step.Clean v) = true
cleans_slot step = false

abbrev pub meets_slab : Step → Bool
meets_slab Step.Read = true
meets_slab Step.RwRead = true
meets_slab (Step.Write v) = true
meets_slab (Step.Clean v) = true
meets_slab step = false

-- the local bit: 0 after a look under S that shows bit 0, after a load, and after a read by the RW; 1 where the slot is lost
abbrev pub stale_seen : Bool → Step → Bool → Bool
stale_seen bit Step.Look b = look_stale bit b
stale_seen bit step b = b

abbrev pub stale_read : Step → Bool → Bool
stale_read Step.RwRead b = false
stale_read step b = b

abbrev pub stale_lost : Step → Bool → Bool
stale_lost Step.Read b = true
stale_lost Step.RwRead b = true
stale_lost (Step.Write v) b = true
stale_lost (Step.Clean v) b = true
stale_lost step b = b

abbrev pub stale_cleaned : Bool → Step → Bool → Bool
stale_cleaned false (Step.Clean v) b = true
stale_cleaned there step b = b

abbrev pub heard_stale : Told → Step → Bool → Bool
heard_stale (Tried Granted) step b = release_stale step (s_stale step b)
heard_stale (Looked seen) step b = stale_seen (shown seen).bit step b
heard_stale (Slab (Ok u)) step b = stale_read step b
heard_stale (Slab (Err why)) step b = stale_lost step b
heard_stale (Cleaned there) step b = stale_cleaned there step b
heard_stale _ step b = b

-- the copy: what was read, or the image that storage gave once its load is over
abbrev pub copy_read : Image → Step → Option Image → Option Image
copy_read image Step.Read c = Some image
copy_read image Step.RwRead c = Some image
copy_read image step c = c

abbrev pub heard_copy : Told → Image → Step → Option Image → Option Image
heard_copy (Tried Granted) image step c = release_copy step (s_copy step c)
heard_copy (Slab (Ok u)) image step c = copy_read image step c
heard_copy _ image step c = c

-- a node that gets S uses a copy with local bit 0 as it is
abbrev pub step_tried : Option Image → Bool → Step → Step → Step
step_tried c b Step.LatchS next = have c b
step_tried c b step next = next

abbrev pub heard_step : ℕ → ℕ → Told → Option Image → Bool → Step → Step
heard_step r n (Tried Granted) c b step = step_tried c b step (learned r n (Tried Granted) step)
heard_step r n told c b step = learned r n told step

-- node n after it is told of its act, where r is the RW and a read shows this image
abbrev pub heard : ℕ → ℕ → Told → Image → Node → Node
heard r n told image N = record N {
  address = learned_address told N.step N.address;
  stale = heard_stale told N.step N.stale;
  copy = heard_copy told image N.step N.copy;
  step = heard_step r n told N.copy N.stale N.step;
}

-- the node is told of its act at page p: where n is the node and r the RW, and its call about the page is none of a fetch
abbrev pub Hears : ℕ → Told → Image → PoolNode → PoolNode → Type 0
Hears p told image before now = (r n : ℕ) (call : Call) → nat_eq n r ≡ is_writer before → is_of_work call ≡ false
    → node_at now p call ≡ heard r n told image (node_at before p call)

-- ---------------- answers, and what a node does by itself

-- a fetch that was given up and can hold no latch has nothing to release
abbrev pub settle_node : Bool → Node → Node
settle_node holds N = record N { step = settled N.step holds }

-- the answer to the node's call about page p is accepted: where n is the node and r the RW
abbrev pub Accepts : ℕ → Call → PoolNode → PoolNode → Type 0
Accepts p call before now = (r n : ℕ) → nat_eq n r ≡ is_writer before
    → node_at now p Quiet ≡ settle_node (may_hold_at before p) (answered r n (node_at before p call))

-- a fetch of page p begins
abbrev pub Begins : ℕ → PoolNode → PoolNode → Type 0
Begins p before now = (r n : ℕ) (call : Call) → nat_eq n r ≡ is_writer before
    → node_at now p call ≡ begun r n (node_at before p call)

-- the fetch of page p is given up, while its call is unanswered or not
abbrev pub GivesUp : ℕ → Bool → PoolNode → PoolNode → Type 0
GivesUp p waits before now = (call : Call) → is_of_work call ≡ waits
    → node_at now p call ≡ settle_node (may_hold_at before p) (gives_up (node_at before p call))

-- nothing that the law sees of a page changed
pub record SameNode (before now : PoolNode) : Type 0 where
  pub each : (q : ℕ) (call : Call) → node_at now q call ≡ node_at before q call
  pub up : is_up now ≡ is_up before
  pub writer : is_writer now ≡ is_writer before

-- an answer to a registration, or to a page that storage is asked for, or to a fetch that was given up
abbrev pub takes_register : Step → Bool
takes_register Step.Register = true
takes_register Step.GivenUp = true
takes_register step = false

abbrev pub takes_image : Step → Bool
takes_image (Step.Get floor) = true
takes_image Step.GivenUp = true
takes_image step = false

abbrev pub takes_answer : Step → Bool
takes_answer Step.Register = true
takes_answer (Step.Get floor) = true
takes_answer Step.GivenUp = true
takes_answer step = false

-- an answer that leaves a fetch where it is
abbrev pub is_refusal : Call → Bool
is_refusal Call.ToldFull = true
is_refusal Call.ToldNotYet = true
is_refusal call = false
