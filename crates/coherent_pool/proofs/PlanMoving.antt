-- What a node makes of a page of a plan is a move of the law of pages.
use Rattle.std.proofs.Common.{◌≡◌, ℕ, Some, nat_eq, sym, subst, refl}
use Rattle.page_image.specs.Image.{Image}
use Rattle.node_model.specs.Step.{Step}
use Rattle.node_model.specs.Node.{Node}
use Rattle.node_model.specs.Learning.{installs, writes, cleans}
use Rattle.page_coherence.specs.Page.{Page}
use Rattle.coherent_pool.specs.PlanMoved.{PlansMove}
use Rattle.coherent_pool.proofs.Joining.{chosen, itself}

-- the copy is what a plan writes and cleans
writes_copy : (N : Node) (image : Image) → N.step ≡ Step.PlanWrite → N.copy ≡ Some image → writes N ≡ Some image
writes_copy N image step copy = subst (λ (s : Step). let M : Node = record N { step = s } in writes M ≡ Some image) (sym step) copy

cleans_copy : (N : Node) (image : Image) → N.step ≡ Step.PlanClean → N.copy ≡ Some image → cleans N ≡ Some image
cleans_copy N image step copy = subst (λ (s : Step). let M : Node = record N { step = s } in cleans M ≡ Some image) (sym step) copy

pub plans_move : (r w n : ℕ) (P : Page) → PlansMove r w n P
plans_move r w n P = record {
  begin = λ up writer step copy. (up, writer, step, copy, refl);
  install = λ image up step. (up, step, refl);
  installs_copy = λ image. chosen (nat_eq n n) (installs (P.node n) image) (P.node n) (itself n);
  write = λ image up step copy slot. (up, image, writes_copy (P.node n) image step copy, slot, refl);
  clean = λ image up step copy bit lsn. (up, image, cleans_copy (P.node n) image step copy, bit, lsn, refl);
  lost = λ up step. (up, step, refl);
  accept = λ up told. (up, told, refl);
}
