-- For the proofs: a chain of two versions over one undo page, computed.
use Rattle.std.proofs.Common.{◌≡◌, ℕ, false, List, [], ◌∷◌, refl}
use Rattle.rm_base.specs.Fields.{number}
use Rattle.page_image.specs.declared.kind.Kind.TheVariants.{Undo}
use Rattle.page_image.specs.Image.{Image}
use Rattle.page_view.specs.declared.leaf.LeafItem.{LeafItem}
use Rattle.undo_versions.specs.Reading.{holds_undo}
use Rattle.undo_versions.specs.Walking.{at_version}
use Rattle.undo_versions.specs.Chains.{IsChain, told}

-- transaction 2 replaced the version of transaction 1, whose value is 9, 9
abbrev newest : LeafItem
newest = record { key = 7 ∷ []; deleted = false; trx = 2; older = record { page = 1040; slot = 0 }; value = [] }

abbrev first : LeafItem
first = record { key = 7 ∷ []; deleted = false; trx = 1; older = record { page = 0; slot = 0 }; value = 9 ∷ 9 ∷ [] }

-- its undo item, in the tree at page 1030
abbrev kept : List ℕ
kept =
    0 ∷ 0 ∷ 0 ∷ 0 ∷ 0 ∷ 0 ∷ 0 ∷ 2 ∷ 0 ∷ 0 ∷ 4 ∷ 6 ∷ 0 ∷ 0 ∷ 0 ∷ 0 ∷ 0 ∷ 0 ∷ 1
    ∷ 1 ∷ 7 ∷ 0 ∷ 0 ∷ 0 ∷ 0 ∷ 0 ∷ 0 ∷ 0 ∷ 0 ∷ 1 ∷ 0 ∷ 0 ∷ 0 ∷ 0 ∷ 0 ∷ 0 ∷ 9 ∷ 9 ∷ []

abbrev pages : ℕ → Image
pages q = record { kind = Undo; page = q; lsn = 1; structure = 1; next = 0; level = 0; items = kept ∷ []; body = [] }

pub two_versions : IsChain pages newest (newest ∷ first ∷ [])
unfolding number holds_undo
two_versions = (refl, (refl, refl))

pub walked_two : told pages 3 (at_version newest) ≡ newest ∷ first ∷ []
unfolding number holds_undo
walked_two = refl
