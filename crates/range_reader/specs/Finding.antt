-- Stated: what is asked for, one page after the other, until the versions of a range that a reader
-- sees are known.
use Rattle.std.specs.Prelude.{◌≡◌, ◌==◌, ◌&&◌, ℕ, zero, suc, Bool, true, false, nat_le, List, [], map, Option, Some, None}
use Rattle.rm_base.specs.declared.limits.TheConstants.{MAX_TRX_ID}
use Rattle.rm_base.specs.declared.key_range.KeyRange.{KeyRange}
use Rattle.page_image.specs.Image.{Image}
use Rattle.page_image.specs.declared.kind.Kind.TheVariants as kind
use Rattle.page_view.specs.declared.leaf.LeafItem.{LeafItem}
use Rattle.page_view.specs.Leaf.{leaf_of}
use Rattle.bplus_tree.specs.declared.want.Want.{Want}
use Rattle.bplus_tree.specs.declared.want.Want.TheVariants as want
use Rattle.bplus_tree.specs.Walk.{Walking, start, IsToRead}
use Rattle.commit_stamps.specs.Stamping.{stamp_page, stamp_in, visible}
use Rattle.undo_versions.specs.Walking.{is_page, replaced}
use Rattle.version_store.specs.Versions.{is_own}
use Rattle.question_tree.specs.Questions.{Ask, tells, asks, stops, collect}
use Rattle.range_reader.specs.declared.fetch.Fetch.{Fetch}
use Rattle.range_reader.specs.declared.fetch.Fetch.TheVariants as fetch
use Rattle.range_reader.specs.declared.fetch.Snapshot.{Snapshot}
use Rattle.range_reader.specs.declared.fetch.TheConstants.{MOST_FETCHES, MOST_VERSIONS}
use Rattle.range_reader.specs.Uses.{live}
use Rattle.range_reader.specs.Walked.{taken, walked}

-- ---- which pages are fit

abbrev pub page_of : Fetch → ℕ
page_of (fetch.Root p) = p
page_of (fetch.Child p) = p
page_of (fetch.Next p) = p
page_of (fetch.Stamps p) = p
page_of (fetch.Undo p) = p

-- a page of a tree is one that a search can be told of, and a page of stamps has stamps
abbrev pub Suits : Fetch → Image → Type 0
Suits (fetch.Root p) im = IsToRead im
Suits (fetch.Child p) im = IsToRead im
Suits (fetch.Next p) im = IsToRead im
Suits (fetch.Stamps p) im = im.kind ≡ kind.Stamps
Suits (fetch.Undo p) im = Unit {0}

abbrev pub Fits : Fetch → Image → Type 0
Fits q im = (im.page ≡ page_of q) × Suits q im

-- the work asks for a page that this one can be
abbrev pub Asked : {A : Type 0} → Ask Fetch Image A → Image → Type 0
Asked (tells a) im = ⊥
Asked (asks q k) im = Fits q im
Asked stops im = ⊥

-- ---- one version after the other

abbrev pub Finding : Type 0
Finding = Ask Fetch Image (List LeafItem)

-- the page with the version before, where there is one
abbrev pub back_to : (LeafItem → Finding) → Option LeafItem → Finding
back_to k None = tells []
back_to k (Some old) = k old

abbrev pub older_asked : (LeafItem → Finding) → LeafItem → Finding
older_asked k item = asks (fetch.Undo item.older.page) (λ im. back_to k (replaced im item.older))

abbrev pub older_by : Bool → (LeafItem → Finding) → LeafItem → Finding
older_by true k item = older_asked k item
older_by false k item = tells []

-- whether the stamp is seen
abbrev pub judged_by : Bool → (LeafItem → Finding) → LeafItem → Finding
judged_by true k item = tells (live (Some item))
judged_by false k item = older_by (is_page item.older.page) k item

abbrev pub judged : (LeafItem → Finding) → Snapshot → LeafItem → Image → Finding
judged k s item im = judged_by (visible (stamp_in im item.trx) s.stamp) k item

-- the page with the stamp; a number that no transaction can have stops the work
abbrev pub has_stamp : ℕ → Bool
has_stamp t = nat_le 1 t && nat_le t MAX_TRX_ID

abbrev pub stamp_fetch : Bool → ℕ → Option Fetch
stamp_fetch true page = Some (fetch.Stamps page)
stamp_fetch false page = None

abbrev pub stamp_by : Bool → (LeafItem → Finding) → Snapshot → LeafItem → Finding
stamp_by true k s item = asks (fetch.Stamps (stamp_page item.trx)) (judged k s item)
stamp_by false k s item = stops

abbrev pub stamp_asked : (LeafItem → Finding) → Snapshot → LeafItem → Finding
stamp_asked k s item = stamp_by (has_stamp item.trx) k s item

-- an own version is seen without a page
abbrev pub look_by : Bool → (LeafItem → Finding) → Snapshot → LeafItem → Finding
look_by true k s item = tells (live (Some item))
look_by false k s item = stamp_asked k s item

-- the version of an item that a reader sees, among its newest so many
unfoldable pub look : ℕ → Snapshot → LeafItem → Finding
look zero s item = stops
look (suc n) s item = look_by (is_own s.own item.trx) (look n s) s item

abbrev pub look_at : Snapshot → LeafItem → Finding
look_at s item = look MOST_VERSIONS s item

-- ---- one page after the other

-- the items of a page in the range
abbrev pub items_in : KeyRange → Image → List LeafItem
items_in range im = map leaf_of (taken range.low range.high im)

-- the page that a search wants, and how the one before it is held: with all pages left it is the
-- root
abbrev pub down_to : ℕ → Bool → Fetch
down_to p true = fetch.Root p
down_to p false = fetch.Child p

abbrev pub fetch_at : Want → ℕ → Option Fetch
fetch_at (want.Need p) n = Some (down_to p (n == MOST_FETCHES))
fetch_at (want.Leaf p) n = Some (fetch.Next p)
fetch_at want.Finished n = None

abbrev pub go_on : Option Fetch → (Image → Finding) → List LeafItem → Finding
go_on None k seen = tells seen
go_on (Some q) k seen = asks q k

-- where no page is left, a search has to be at its end
abbrev pub end_at : Want → List LeafItem → Finding
end_at (want.Need p) seen = stops
end_at (want.Leaf p) seen = stops
end_at want.Finished seen = tells seen

-- page after page of a search, at most so many, each with its items one after the other
unfoldable pub walk : ℕ → Snapshot → KeyRange → Walking → List LeafItem → Finding
walk zero s range w seen = end_at w.want seen
walk (suc n) s range w seen =
    go_on (fetch_at w.want (suc n))
    (λ im. collect (look_at s) (walk n s range (walked w im)) seen (items_in range im)) seen

-- the versions in the tree's range that the reader sees
unfoldable pub find : Snapshot → ℕ → KeyRange → Finding
find s root range = walk MOST_FETCHES s range (start root range.low range.high) []
