-- Stated: short names of the types that these definitions speak of.
use Rattle.std.specs.Prelude.{ℕ, List, Option}
use Rattle.page_image.specs.Image.{Image}

-- a key's bytes
abbrev pub Key : Type 0
Key = List ℕ

-- an end of a range of keys; none: the range has no end there
abbrev pub Bound : Type 0
Bound = Option Key

-- items of leaves, each as its bytes
abbrev pub Items : Type 0
Items = List (List ℕ)

-- the image of each page at one time, and at each time
abbrev pub Pages : Type 0
Pages = ℕ → Image

abbrev pub PagesAt : Type 0
PagesAt = ℕ → Pages

-- the items that a tree stands for at each time
abbrev pub ItemsAt : Type 0
ItemsAt = ℕ → Items
