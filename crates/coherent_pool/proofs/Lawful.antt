-- What a node hears is what the law of pages has it learn, step by step.
use Rattle.std.proofs.Common.{◌≡◌, ℕ, true, false, Option, Some, None, Ok, Err, refl, sym, subst}
use Rattle.rm_base.specs.declared.places.Addr.{Addr}
use Rattle.page_image.specs.Image.{Image}
use Rattle.message_network.specs.declared.looks.Seen.{Seen}
use Rattle.page_latches.specs.declared.latch.Latch.TheVariants.{Granted}
use Rattle.node_model.specs.Step.{Step, wants_s, wants_x, wants_release}
use Rattle.node_model.specs.Node.{Node}
use Rattle.node_model.specs.Learning.{stands, after_s, after_x, after_release, after_look, after_rw_look, after_read, after_rw_read, after_write, after_clean, after_down, after_rw_down}
use Rattle.fetch_steps.specs.declared.acts.Told.TheVariants.{Latch as Tried, Seen as Looked, Slab, Cleaned}
use Rattle.fetch_steps.specs.Telling.{after_second_look}
use Rattle.coherent_pool.specs.Hearing.{heard}
use Rattle.coherent_pool.specs.Laws.{HearsLatches, HearsHome, HearsSlabs}
use Rattle.coherent_pool.proofs.Moves.{never}

-- the node at a step
abbrev at : Node → Step → Node
at N step = record N { step = step }

share : (r n : ℕ) (v : Image) (N : Node) (step : Step) → wants_s step ≡ true → heard r n (Tried Granted) v (at N step) ≡ after_s (at N step)
share r n v N Step.LatchS h = refl
share r n v N Step.BackToS h = refl
share r n v N (Step.LastS w) h = refl
share r n v N _ h = absurd (never h)

exclude : (r n : ℕ) (v : Image) (N : Node) (step : Step) → wants_x step ≡ true → heard r n (Tried Granted) v (at N step) ≡ stands (at N step) (after_x step)
exclude r n v N Step.LatchX h = refl
exclude r n v N Step.PlanLatch h = refl
exclude r n v N _ h = absurd (never h)

release : (r n : ℕ) (v : Image) (N : Node) (step : Step) → wants_release step ≡ true → heard r n (Tried Granted) v (at N step) ≡ after_release (at N step)
release r n v N Step.ReleaseS h = refl
release r n v N Step.ReleaseDown h = refl
release r n v N Step.ReleaseEnd h = refl
release r n v N Step.RwBack h = refl
release r n v N (Step.RwEnd w) h = refl
release r n v N Step.PlanRelease h = refl
release r n v N _ h = absurd (never h)

-- of a node that stands at a step
from_step : (F G : Node → Node) (N : Node) (step : Step) → N.step ≡ step → F (at N step) ≡ G (at N step) → F N ≡ G N
from_step F G N step h e = subst (λ (s : Step). F (at N s) ≡ G (at N s)) (sym h) e

again : (r n : ℕ) (v : Image) (N : Node) (seen : Seen) (o : Option Addr) → N.step ≡ Step.LookAgain → seen.addr ≡ o
    → heard r n (Looked (Some seen)) v N ≡ stands N (after_second_look r n o seen)
again r n v N seen o h e = subst (λ (a : Option Addr). heard r n (Looked (Some seen)) v N ≡ stands N (after_second_look r n a seen)) e
    (from_step (heard r n (Looked (Some seen)) v) (λ M. stands M (after_second_look r n seen.addr seen)) N Step.LookAgain h refl)

pub latches : (r n : ℕ) (v : Image) (N : Node) → HearsLatches r n v N
latches r n v N = record {
  share = λ h. share r n v N N.step h;
  exclude = λ h. exclude r n v N N.step h;
  release = λ h. release r n v N N.step h;
}

pub homes : (r n : ℕ) (v : Image) (N : Node) → HearsHome r n v N
homes r n v N = record {
  look = λ seen h. from_step (heard r n (Looked (Some seen)) v) (after_look seen.bit) N Step.Look h refl;
  rw_look = λ seen h. from_step (heard r n (Looked (Some seen)) v) (λ M. stands M (after_rw_look seen.bit)) N Step.RwLook h refl;
  look_again = λ seen a h e. again r n v N seen (Some a) h e;
  no_address = λ seen h e. again r n v N seen None h e;
  no_entry = refl;
  clean = λ w h. from_step (heard r n (Cleaned true) v) (λ M. stands M (after_clean r n M.step)) N (Step.Clean w) h refl;
  gone = λ w h. from_step (heard r n (Cleaned false) v) after_down N (Step.Clean w) h refl;
}

pub slabs : (r n : ℕ) (v : Image) (N : Node) → HearsSlabs r n v N
slabs r n v N = record {
  read = λ h. from_step (heard r n (Slab (Ok tt)) v) (λ M. after_read M v) N Step.Read h refl;
  rw_read = λ h. from_step (heard r n (Slab (Ok tt)) v) (λ M. after_rw_read M v) N Step.RwRead h refl;
  write = λ w h. from_step (heard r n (Slab (Ok tt)) v) (λ M. stands M (after_write M.step)) N (Step.Write w) h refl;
  read_down = λ why h. from_step (heard r n (Slab (Err why)) v) after_down N Step.Read h refl;
  rw_read_down = λ why h. from_step (heard r n (Slab (Err why)) v) after_rw_down N Step.RwRead h refl;
  write_down = λ why w h. from_step (heard r n (Slab (Err why)) v) after_down N (Step.Write w) h refl;
  clean_down = λ why w h. from_step (heard r n (Slab (Err why)) v) after_down N (Step.Clean w) h refl;
}
