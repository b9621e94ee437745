-- Three ways of a fetch, each act by computation.
use Rattle.std.proofs.Common.{ℕ, true, false, Some, None, ◌∷◌, refl}
use Rattle.rm_base.specs.declared.places.Addr.{Addr}
use Rattle.page_image.specs.Image.{Image}
use Rattle.page_latches.specs.declared.latch.Latch.TheVariants.{Granted}
use Rattle.fetch_steps.specs.declared.acts.Told.TheVariants.{Latch as Tried}
use Rattle.fetch_steps.specs.Places.{begun}
use Rattle.fetch_steps.specs.Ways.{IsWay, reading_way, loading_way, rw_loading_way}

pub reads : (p : ℕ) (a : Addr) (v : Image) → IsWay (reading_way a) (begun p false None) v
reads p a v = ((refl, refl), ((refl, refl), ((refl, refl), ((refl, refl), refl))))

pub loads : (p : ℕ) (a : Addr) (v : Image) → IsWay (Tried Granted ∷ loading_way a v) (begun p false (Some a)) v
loads p a v =
    ((refl, refl), ((refl, refl), ((refl, refl), ((refl, refl), ((refl, refl), ((refl, refl), ((refl, refl), ((refl, refl), ((refl, refl), refl)))))))))

pub rw_loads : (p : ℕ) (a : Addr) (v : Image) → IsWay (rw_loading_way a v) (begun p true (Some a)) v
rw_loads p a v =
    ((refl, refl), ((refl, refl), ((refl, refl), ((refl, refl), ((refl, refl), ((refl, refl), ((refl, refl), refl)))))))
