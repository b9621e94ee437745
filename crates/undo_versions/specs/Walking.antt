-- Stated: a walk along the versions of an item.
use Rattle.std.specs.Prelude.{ℕ, Bool, false, nat_eq, nat_le, if◌then◌else◌, Option, Some, None, option_and_then}
use Rattle.rm_base.specs.declared.limits.TheConstants.{MAX_PAGE_ID}
use Rattle.rm_base.specs.declared.places.UndoPtr.{UndoPtr}
use Rattle.page_image.specs.Image.{Image}
use Rattle.page_view.specs.declared.leaf.LeafItem.{LeafItem}
use Rattle.undo_versions.specs.declared.items.UndoItem.{UndoItem}
use Rattle.undo_versions.specs.declared.walk.ChainWant.{ChainWant}
use Rattle.undo_versions.specs.declared.walk.ChainWant.TheVariants.{Need, Version, End}
use Rattle.undo_versions.specs.Reading.{older}

-- a walk: the present version, where there is one, and where the older one stands
pub record Walk : Type 0 where
  pub version : Option LeafItem
  pub next : UndoPtr

-- no undo item
abbrev pub no_undo : UndoPtr
no_undo = record { page = 0; slot = 0 }

-- the item that was replaced, at a place of a page
abbrev pub old_of : UndoItem → Option LeafItem
old_of item = item.old

abbrev pub replaced : Image → UndoPtr → Option LeafItem
replaced page at = option_and_then old_of (older page at)

-- the walk at a version
abbrev pub at_version : LeafItem → Walk
at_version item = record { version = Some item; next = item.older }

-- the walk at its end
abbrev pub ended : Walk
ended = record { version = None; next = no_undo }

-- a page that there is, and that is not page 0
abbrev pub is_page : ℕ → Bool
is_page page = if nat_eq page 0 then false else nat_le page MAX_PAGE_ID

-- what a walk wants where it has no version: the page of the older one
abbrev pub want_at : UndoPtr → ChainWant
want_at at = if is_page at.page then Need at.page else End

abbrev pub want_by : Option LeafItem → UndoPtr → ChainWant
want_by None at = want_at at
want_by (Some item) at = Version item.trx

abbrev pub want_of : Walk → ChainWant
want_of walk = want_by walk.version walk.next

-- the walk behind the present version
abbrev pub passed : Walk → Walk
passed walk = record walk { version = None }

abbrev pub at_old : Option LeafItem → Walk
at_old None = ended
at_old (Some item) = at_version item

-- the walk after the page that it wants
abbrev pub given : Walk → Image → Walk
given walk page = at_old (replaced page walk.next)
