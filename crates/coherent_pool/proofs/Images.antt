-- The image of a copy is replaced.
use Rattle.std.proofs.Common.{◌≡◌, ◌≢◌, ℕ, Option, Some, None, refl}
use Rattle.page_image.specs.Image.{Image}
use Rattle.local_cache.specs.declared.cache.Cached.{Cached}
use Rattle.local_cache.specs.Cache.{Cache, copy_of}
use Rattle.local_cache.specs.Lending.{with_image}
use Rattle.coherent_pool.specs.Changing.{imaged}
use Rattle.coherent_pool.proofs.Copies.{here_changed, beside_changed}

pub here_imaged : (C : Cache) (p : ℕ) (image : Image) → copy_of (with_image C p image) p ≡ imaged image (copy_of C p)
here_imaged C p image = by (copy_of C p) refl
  where
    by : (o : Option Cached) → copy_of C p ≡ o → copy_of (with_image C p image) p ≡ imaged image o
    by None e = rw e e
    by (Some c) e = rw e (here_changed p C.copies c (record c { page = image }) e)

pub beside_imaged : (C : Cache) (p q : ℕ) (image : Image) → q ≢ p → copy_of (with_image C p image) q ≡ copy_of C q
beside_imaged C p q image ne = by (copy_of C p) refl
  where
    by : (o : Option Cached) → copy_of C p ≡ o → copy_of (with_image C p image) q ≡ copy_of C q
    by None e = rw e refl
    by (Some c) e = rw e (beside_changed p q C.copies (record c { page = image }) ne)
