use Rattle.tree_store.proofs.OpenedLaws.{opened_forest}
use Rattle.tree_store.proofs.ItemLaws.{items_good}
use Rattle.tree_store.proofs.ForestLaws.{not_a_root}
use Rattle.tree_store.proofs.laws.forest_laws.Goals as goal

pub returns : goal.returns
returns c = record { opened = opened_forest; items = items_good; fresh = not_a_root }
