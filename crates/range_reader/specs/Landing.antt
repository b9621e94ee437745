-- For the proofs: a search that comes to a leaf on its way down.
use Rattle.std.specs.Prelude.{Bool, true, false}
use Rattle.page_image.specs.declared.kind.Kind.{Kind}
use Rattle.page_image.specs.declared.kind.Kind.TheVariants as kind
use Rattle.bplus_tree.specs.declared.want.Want.{Want}
use Rattle.bplus_tree.specs.declared.want.Want.TheVariants as want

abbrev pub lands : Want → Kind → Bool
lands (want.Need p) kind.Leaf = true
lands _ _ = false
