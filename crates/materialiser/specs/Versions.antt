-- Stated: which of a page's images stands for an LSN.
use Rattle.std.specs.Prelude.{◌≡◌, ◌≤◌, ◌<◌, ℕ, suc, List, Option, Some, slice_get, MatchOption}
use Rattle.page_image.specs.Image.{Image}

-- each image from place n on is past the LSN
abbrev pub PastFrom : ℕ → List Image → ℕ → Type 0
PastFrom n images at = (i : ℕ) (im : Image) → n ≤ i → slice_get images i ≡ Some im → at < im.lsn

-- the last place whose image has an LSN of at most `at`, or none where each is past it
abbrev pub IsVersion : List Image → ℕ → Option ℕ → Type 0
IsVersion images at place =
    MatchOption place (PastFrom 0 images at)
    (λ i. ((im : Image) × (slice_get images i ≡ Some im) × (im.lsn ≤ at)) × PastFrom (suc i) images at)
