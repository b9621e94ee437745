-- Stated: what a node hears of an access is what the law of pages has it learn.
use Rattle.std.specs.Prelude.{◌≡◌, ℕ, true, false, Some, None, Ok, Err}
use Rattle.rm_base.specs.declared.places.Addr.{Addr}
use Rattle.page_image.specs.Image.{Image}
use Rattle.slab_node.specs.declared.slab.SlabNo.{SlabNo}
use Rattle.message_network.specs.declared.looks.Seen.{Seen}
use Rattle.page_latches.specs.declared.latch.Latch.TheVariants.{Granted}
use Rattle.node_model.specs.Step.{Step, wants_s, wants_x, wants_release}
use Rattle.node_model.specs.Node.{Node}
use Rattle.node_model.specs.Learning.{stands, after_s, after_x, after_release, after_look, after_rw_look, after_look_again, after_read, after_rw_read, after_write, after_clean, after_down, after_rw_down}
use Rattle.fetch_steps.specs.declared.acts.Told.TheVariants.{Latch as Tried, Seen as Looked, Slab, Cleaned}
use Rattle.fetch_steps.specs.Telling.{shown}
use Rattle.coherent_pool.specs.Hearing.{heard}

-- a latch was granted or released
pub record HearsLatches (r n : ℕ) (v : Image) (N : Node) : Type 0 where
  pub share : wants_s N.step ≡ true → heard r n (Tried Granted) v N ≡ after_s N
  pub exclude : wants_x N.step ≡ true → heard r n (Tried Granted) v N ≡ stands N (after_x N.step)
  pub release : wants_release N.step ≡ true → heard r n (Tried Granted) v N ≡ after_release N

-- the home's entry was seen, and the home was told that the slot is clean
pub record HearsHome (r n : ℕ) (v : Image) (N : Node) : Type 0 where
  pub look : (seen : Seen) → N.step ≡ Step.Look → heard r n (Looked (Some seen)) v N ≡ after_look seen.bit N
  pub rw_look : (seen : Seen) → N.step ≡ Step.RwLook
      → heard r n (Looked (Some seen)) v N ≡ stands N (after_rw_look seen.bit)
  pub look_again : (seen : Seen) (a : Addr) → N.step ≡ Step.LookAgain → seen.addr ≡ Some a
      → heard r n (Looked (Some seen)) v N ≡ stands N (after_look_again r n seen.bit seen.floor)
  pub no_address : (seen : Seen) → N.step ≡ Step.LookAgain → seen.addr ≡ None
      → heard r n (Looked (Some seen)) v N ≡ stands N Step.ReleaseDown
  -- where the home has no entry
  pub no_entry : heard r n (Looked None) v N ≡ heard r n (Looked (Some (shown None))) v N
  pub clean : (w : Image) → N.step ≡ Step.Clean w → heard r n (Cleaned true) v N ≡ stands N (after_clean r n N.step)
  pub gone : (w : Image) → N.step ≡ Step.Clean w → heard r n (Cleaned false) v N ≡ after_down N

-- the slot was read or written, or is lost
pub record HearsSlabs (r n : ℕ) (v : Image) (N : Node) : Type 0 where
  pub read : N.step ≡ Step.Read → heard r n (Slab (Ok tt)) v N ≡ after_read N v
  pub rw_read : N.step ≡ Step.RwRead → heard r n (Slab (Ok tt)) v N ≡ after_rw_read N v
  pub write : (w : Image) → N.step ≡ Step.Write w → heard r n (Slab (Ok tt)) v N ≡ stands N (after_write N.step)
  pub read_down : (why : SlabNo) → N.step ≡ Step.Read → heard r n (Slab (Err why)) v N ≡ after_down N
  pub rw_read_down : (why : SlabNo) → N.step ≡ Step.RwRead → heard r n (Slab (Err why)) v N ≡ after_rw_down N
  pub write_down : (why : SlabNo) (w : Image) → N.step ≡ Step.Write w → heard r n (Slab (Err why)) v N ≡ after_down N
  pub clean_down : (why : SlabNo) (w : Image) → N.step ≡ Step.Clean w → heard r n (Slab (Err why)) v N ≡ after_down N
