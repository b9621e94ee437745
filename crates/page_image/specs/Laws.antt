-- Stated: the laws of pages and their images.
use Rattle.std.specs.Prelude.{◌≡◌, ◌↔◌, ℕ, List, None}
use Rattle.rm_base.specs.Fields.{AreBytes}
use Rattle.page_image.specs.Image.{Image}
use Rattle.page_image.specs.Layout.{page_bytes, image_of}
use Rattle.page_image.specs.Rules.{IsImage, IsPage}
use Rattle.page_image.specs.Faults.{fault}

-- two pages that show one image, the same header and the same items or body, are the same bytes
abbrev pub IsDetermined : Type 0
IsDetermined = (a b : List ℕ) → IsPage a → IsPage b → image_of a ≡ image_of b → a ≡ b

-- each image that keeps the rules is shown by a page, its spelling
abbrev pub IsSpelled : Type 0
IsSpelled = (im : Image) → IsImage im → IsPage (page_bytes im) × (image_of (page_bytes im) ≡ im)

-- bytes without a fault are a page, and no other bytes are
abbrev pub IsExact : Type 0
IsExact = (bytes : List ℕ) → AreBytes bytes → (fault bytes ≡ None) ↔ IsPage bytes
