use Rattle.std.proofs.Common.{◌≡◌, ℕ, Bool, true, false, List, Result, Ok, Err, refl, sym, ap, subst, ◌∙◌}
use Rattle.std.specs.Prelude.{IsTrue, ◌↔◌}
use Rattle.std.specs.Result.{is_ok}
use Rattle.page_image.specs.Image.{Image}
use Rattle.page_view.specs.Keys.{keys_of, IsFound}
use Rattle.tree_change.specs.Places.{HasKey}
use Rattle.tree_change.proofs.SortLaws.{not_there}
use Rattle.tree_change.proofs.putting.has_key.Goals as goal

tells : (leaf : Image) (key : List ℕ) (r : Result ℕ ℕ) → IsFound (keys_of leaf.items) key r → IsTrue (is_ok r) ↔ HasKey key leaf
tells leaf key (Ok i) h = ((λ _. (i, h)), (λ _. refl))
tells leaf key (Err n) h = ((λ e. let f : false ≡ true = e in cc), (λ k. absurd (not_there (keys_of leaf.items) key n k.0 h.1 h.2 k.1)))

pub returns : goal.returns
returns c =
    subst (λ (b : Bool). IsTrue b ↔ HasKey c.args.key.now c.args.leaf.now) (sym c.is_ok.ensures.value)
    (tells c.args.leaf.now c.args.key.now c.found_in.result c.found_in.ensures)
