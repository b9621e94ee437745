-- Stated: a page's history: its images after each group that has a record for it, newest first.
use Rattle.std.specs.Prelude.{ℕ, List, [], ◌∷◌, if◌then◌else◌, nat_le}
use Rattle.page_image.specs.Image.{Image, unmade}

-- the image of page p that is current
abbrev pub current : ℕ → List Image → Image
current p [] = unmade p
current p (image ∷ older) = image

-- the image of page p at an LSN
abbrev pub image_at : ℕ → List Image → ℕ → Image
image_at p [] lsn = unmade p
image_at p (image ∷ older) lsn = if nat_le image.lsn lsn then image else image_at p older lsn

-- what is left of a history at a tail
abbrev pub cut_to : ℕ → List Image → List Image
cut_to tail [] = []
cut_to tail (image ∷ older) = if nat_le image.lsn tail then image ∷ older else cut_to tail older
