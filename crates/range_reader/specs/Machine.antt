-- For the proofs: the work that is left to a reader.
use Rattle.std.specs.Prelude.{◌≡◌, ℕ, zero, suc, Bool, true, false, List, [], ◌∷◌, ◌++◌, Option, Some, None}
use Rattle.bplus_tree.specs.declared.want.Want.{Want}
use Rattle.bplus_tree.specs.declared.want.Want.TheVariants as want
use Rattle.commit_stamps.specs.Stamping.{stamp_page}
use Rattle.page_view.specs.declared.leaf.LeafItem.{LeafItem}
use Rattle.question_tree.specs.Questions.{tells, asks, stops, then_on, collect}
use Rattle.range_reader.specs.declared.fetch.Fetch.{Fetch}
use Rattle.range_reader.specs.declared.fetch.Fetch.TheVariants as fetch
use Rattle.range_reader.specs.declared.fetch.Snapshot.{Snapshot}
use Rattle.range_reader.specs.declared.versions.Looked.{Looked}
use Rattle.range_reader.specs.declared.versions.Looked.TheVariants.{Seen, Asking}
use Rattle.range_reader.specs.declared.versions.Stage.{Stage}
use Rattle.range_reader.specs.declared.versions.Stage.TheVariants as stage
use Rattle.range_reader.specs.declared.versions.Version.{Version}
use Rattle.range_reader.specs.declared.reader.RangeReader.{RangeReader}
use Rattle.range_reader.specs.Uses.{live}
use Rattle.range_reader.specs.Finding.{Finding, look, look_at, stamp_asked, stamp_fetch, has_stamp, back_to, walk, fetch_at}
use Rattle.undo_versions.specs.Walking.{replaced}

-- ---- one version

abbrev pub version_at : Stage → Snapshot → Version → Finding
version_at stage.Stamp s v = stamp_asked (look v.left s) s v.item
version_at (stage.Older page) s v = asks (fetch.Undo page)
    (λ im. back_to (look v.left s) (replaced im v.item.older))
version_at stage.Stopped s v = stops

unfoldable pub version_of : Snapshot → Version → Finding
version_of s v = version_at v.stage s v

abbrev pub fetch_at_stage : Stage → ℕ → Option Fetch
fetch_at_stage stage.Stamp t = stamp_fetch (has_stamp t) (stamp_page t)
fetch_at_stage (stage.Older page) t = Some (fetch.Undo page)
fetch_at_stage stage.Stopped t = None

-- the page that it asks for
abbrev pub version_fetch : Version → Option Fetch
version_fetch v = fetch_at_stage v.stage v.item.trx

abbrev pub is_older : Stage → Bool
is_older stage.Stamp = false
is_older (stage.Older page) = true
is_older stage.Stopped = false

abbrev pub page_if : Bool → ℕ → Option ℕ
page_if true page = Some page
page_if false page = None

unfoldable pub looked_of : Snapshot → Looked → Finding
looked_of s (Seen r) = tells (live r)
looked_of s (Asking v) = version_of s v

-- nothing is seen that is not among those that were seen
abbrev pub is_kept : Looked → Bool
is_kept (Seen None) = true
is_kept (Seen (Some item)) = false
is_kept (Asking v) = true

-- what was seen is among those that were seen now
abbrev pub Keeps : Looked → Looked → List LeafItem → List LeafItem → Type 0
Keeps (Seen r) new before now = (new ≡ Seen None) × (now ≡ before ++ live r)
Keeps (Asking v) new before now = (new ≡ Asking v) × (now ≡ before)

-- ---- a range

-- the items of the present leaf, and then the search, after what is looked at now
unfoldable pub with_look : RangeReader → Finding → Finding
with_look f m =
    then_on m (λ found. collect (look_at f.snapshot) (walk f.left f.snapshot f.range f.walk)
    (f.seen.items ++ found) f.todo.items)

unfoldable pub finding_of : RangeReader → Finding
finding_of f = with_look f (looked_of f.snapshot f.look)

abbrev pub has_items : List LeafItem → Bool
has_items [] = false
has_items (item ∷ rest) = true

-- an item is to be looked at, and none is
abbrev pub silent_by : Looked → List LeafItem → Bool
silent_by (Seen r) todo = has_items todo
silent_by (Asking v) todo = false

abbrev pub silent : RangeReader → Bool
silent f = silent_by f.look f.todo.items

-- a page is asked for, or everything is known
abbrev pub settled_by : Looked → List LeafItem → Bool
settled_by (Seen None) [] = true
settled_by (Seen None) (item ∷ rest) = false
settled_by (Seen (Some item)) todo = false
settled_by (Asking v) todo = true

unfoldable pub is_settled : RangeReader → Bool
is_settled f = settled_by f.look f.todo.items

-- nothing is looked at, and the search is at its end
abbrev pub is_end : Want → Bool
is_end (want.Need p) = false
is_end (want.Leaf p) = false
is_end want.Finished = true

abbrev pub done_by : Looked → Want → Bool
done_by (Seen r) w = is_end w
done_by (Asking v) w = false

-- the page of the tree that is asked for
abbrev pub tree_fetch : ℕ → Want → Option Fetch
tree_fetch zero w = None
tree_fetch (suc n) w = fetch_at w (suc n)
