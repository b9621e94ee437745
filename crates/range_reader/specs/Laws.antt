-- Stated: what a reader tells of a range, and in which order it asks.
use Rattle.std.specs.Prelude.{◌≡◌, ℕ, Bool, true, false, List}
use Rattle.rm_base.specs.declared.key_range.KeyRange.{KeyRange}
use Rattle.page_image.specs.Image.{Image}
use Rattle.page_view.specs.declared.leaf.LeafItem.{LeafItem}
use Rattle.question_tree.specs.Questions.{Ask, tells, asks, stops, Gives}
use Rattle.range_reader.specs.declared.fetch.Fetch.{Fetch}
use Rattle.range_reader.specs.declared.fetch.Fetch.TheVariants as fetch
use Rattle.range_reader.specs.declared.fetch.Snapshot.{Snapshot}
use Rattle.range_reader.specs.Uses.{FoundBy}
use Rattle.range_reader.specs.Finding.{find, Fits}

-- what it tells is found over the pages that it was given, in their order
abbrev pub TellsFound : Type 0
TellsFound =
    (s : Snapshot) (root : ℕ) (range : KeyRange) (us : List Image) (found : List LeafItem)
    → Gives Fits (find s root range) us found
    → FoundBy (λ im. im) s.stamp s.own root range.low range.high us found

-- A child is asked for only right after the page above it; `down` says whether the page given last
-- can be that.
abbrev pub IsOrderly : {A : Type 0} → Bool → Ask Fetch Image A → Type 0
IsOrderly down (tells a) = Unit {0}
IsOrderly down (asks (fetch.Root p) k) = (im : Image) → IsOrderly true (k im)
IsOrderly down (asks (fetch.Child p) k) = (down ≡ true) × ((im : Image) → IsOrderly true (k im))
IsOrderly down (asks (fetch.Next p) k) = (im : Image) → IsOrderly false (k im)
IsOrderly down (asks (fetch.Stamps p) k) = (im : Image) → IsOrderly false (k im)
IsOrderly down (asks (fetch.Undo p) k) = (im : Image) → IsOrderly false (k im)
IsOrderly down stops = Unit {0}

abbrev pub FindsOrderly : Type 0
FindsOrderly = (s : Snapshot) (root : ℕ) (range : KeyRange) (down : Bool)
    → IsOrderly down (find s root range)
