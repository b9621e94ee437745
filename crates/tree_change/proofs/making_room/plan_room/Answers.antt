use Rattle.std.proofs.Common.{◌<◌, ℕ, List, length, sym, subst}
use Rattle.page_image.specs.Image.{Image}
use Rattle.tree_change.specs.Places.{page_on}
use Rattle.tree_change.specs.Pages.{IsTreePage}
use Rattle.tree_change.proofs.WayLaws.{tree_pages}
use Rattle.tree_change.proofs.making_room.plan_room.Goals as goal

pub first_full-requires-clause-pages : goal.first_full-requires-clause-pages
first_full-requires-clause-pages c =
    subst (λ (l : List Image). (i : ℕ) → i < length l → IsTreePage (page_on l i)) (sym c.as_slice.ensures)
    (tree_pages c.args.item.now.key c.args.path.now c.requires.way)
