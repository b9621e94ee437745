-- Stated: what a node makes of a page of a plan is a move of the law of pages. The latch and the release are among the moves of all
-- pages.
use Rattle.std.specs.Prelude.{◌≡◌, ◌≢◌, ◌⊎◌, ℕ, true, false, Some, None}
use Rattle.page_image.specs.Image.{Image}
use Rattle.node_model.specs.Step.{Step}
use Rattle.node_model.specs.Call.{is_told}
use Rattle.node_model.specs.Learning.{stands, installs, after_write, after_clean, after_plan_down, answered}
use Rattle.page_coherence.specs.Page.{Page, set_node}
use Rattle.page_coherence.specs.Moves.{Moves, installed, Move.BeginPlan, Move.Install, Move.SeeWrite, Move.SeeClean, Move.PlanWriteDown, Move.Accept}
use Rattle.coherent_pool.specs.Moved.{IsUp, StandsAt}

pub record PlansMove (r w n : ℕ) (P : Page) : Type 0 where
  pub begin : IsUp P n → n ≡ r → StandsAt P n Step.Idle → (P.node n).copy ≢ None
      → Moves r w n BeginPlan P (set_node P n (stands (P.node n) Step.PlanLatch))
  -- the page's history grows by the image, which is the copy
  pub install : (image : Image) → IsUp P n → StandsAt P n Step.PlanInstall → Moves r w n (Install image) P (installed P n image)
  pub installs_copy : (image : Image) → (installed P n image).node n ≡ installs (P.node n) image
  -- what was written is the copy
  pub write : (image : Image) → IsUp P n → StandsAt P n Step.PlanWrite → (P.node n).copy ≡ Some image → P.slot ≡ image
      → Moves r w n SeeWrite P (set_node P n (stands (P.node n) (after_write (P.node n).step)))
  pub clean : (image : Image) → IsUp P n → StandsAt P n Step.PlanClean → (P.node n).copy ≡ Some image → P.entry.bit ≡ false
      → P.entry.lsn ≡ image.lsn
      → Moves r w n SeeClean P (set_node P n (stands (P.node n) (after_clean r n (P.node n).step)))
  pub lost : IsUp P n → StandsAt P n Step.PlanWrite ⊎ StandsAt P n Step.PlanClean
      → Moves r w n PlanWriteDown P (set_node P n (after_plan_down (P.node n)))
  pub accept : IsUp P n → is_told (P.node n).call ≡ true → Moves r w n Accept P (set_node P n (answered r n (P.node n)))
