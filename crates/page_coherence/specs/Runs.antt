-- Stated: what is reached by a run that is told in the laws, so that they speak of something.
use Rattle.std.specs.Prelude.{◌≡◌, ℕ, Some, []}
use Rattle.page_image.specs.Image.{Image}
use Rattle.page_image.specs.declared.kind.Kind.TheVariants.{Leaf}
use Rattle.node_model.specs.Step.{Step.Held}
use Rattle.page_coherence.specs.Page.{latest}
use Rattle.page_coherence.specs.Cluster.{State, Reached}

-- page 7 as a leaf, changed last at this LSN
abbrev pub leaf_at : ℕ → Image
leaf_at lsn = record { kind = Leaf; page = 7; lsn = lsn; structure = lsn; next = 0; level = 0; items = []; body = [] }

-- node n has finished a fetch of page 7 with this image, which is current
pub record HasFetched (t : State) (n : ℕ) (image : Image) : Type 0 where
  pub reached : Reached t
  pub finished : ((t.page 7).node n).step ≡ Held
  pub copy : ((t.page 7).node n).copy ≡ Some image
  pub current : latest (t.page 7) ≡ image
