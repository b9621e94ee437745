-- For the proofs: which page a split's plan splits.
use Rattle.std.proofs.Common.{◌≡◌, List, Bool, true, Result, IfOk, sym, subst}
use Rattle.page_image.specs.Image.{Image}
use Rattle.page_view.specs.declared.leaf.LeafItem.{LeafItem}
use Rattle.redo_record.specs.declared.plans.Plan.{Plan}
use Rattle.redo_record.specs.declared.plans.TreeNo.{TreeNo}
use Rattle.tree_change.specs.Places.{page_on}
use Rattle.tree_change.specs.Room.{lacks_room}
use Rattle.tree_change.specs.Splits.{IsRootSplit, IsSplitOf}

-- where the root has too little room, a split of it is the split that is asked for
pub root_is_split : (item : LeafItem) (path : List Image) (meta : Image) (answer : Result Plan TreeNo)
    → lacks_room item (page_on path 0) ≡ true → IfOk answer (λ plan. IsRootSplit path meta plan)
    → IfOk answer (λ plan. IsSplitOf (lacks_room item (page_on path 0)) item path meta plan)
root_is_split item path meta answer full split =
    subst (λ (b : Bool). IfOk answer (λ plan. IsSplitOf b item path meta plan)) (sym full) split
