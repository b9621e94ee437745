-- What a leaf has for a key is what its tree has.
use Rattle.std.proofs.Common.{◌≡◌, ℕ, Bool, true, false, List, [], ◌∷◌, ◌++◌, refl, sym, ap, ◌∙◌}
use Rattle.std.specs.declared.cmp.Ordering.{Ordering}
use Rattle.std.specs.declared.cmp.Ordering.TheVariants.{Less, Greater}
use Rattle.std.specs.Ordering.{is_eq}
use Rattle.std.proofs.lemmas.List.{append-nil}
use Rattle.std.proofs.lemmas.List.Elements.{filter-append}
use Rattle.page_image.specs.Image.{Image}
use Rattle.page_view.specs.Keys.{key_in, key_cmp}
use Rattle.tree_change.specs.Places.{leaf_on, with_key}
use Rattle.tree_change.specs.Way.{IsWayTo}
use Rattle.tree_change.proofs.ListLaws.{all_weaker, keep_none}
use Rattle.tree_change.proofs.SpotLaws.{AllGreater, AllLess}
use Rattle.tree_change.proofs.WayLaws.{at_leaf}
use Rattle.row_edits.specs.Laws.{FoundInTree}
use Rattle.row_edits.specs.RowPlans.{first_of, old_in}

with_key_of : (key : List ℕ) (a m z : List (List ℕ)) → AllLess key a → AllGreater key z → with_key key (a ++ (m ++ z)) ≡ with_key key m
with_key_of key a m z less greater =
    let p = λ (x : List ℕ). is_eq (key_cmp (key_in x) key) in
    filter-append p a (m ++ z)
    ∙ ap (λ (l : List (List ℕ)). l ++ with_key key (m ++ z)) (keep_none p a (all_weaker (λ x. key_cmp (key_in x) key ≡ Less) (λ x. p x ≡ false) (λ x h. ap is_eq h) a less))
    ∙ filter-append p m z
    ∙ ap (λ (l : List (List ℕ)). with_key key m ++ l) (keep_none p z (all_weaker (λ x. key_cmp (key_in x) key ≡ Greater) (λ x. p x ≡ false) (λ x h. ap is_eq h) z greater))
    ∙ append-nil (with_key key m)

pub found_in_tree : FoundInTree
unfolding old_in
found_in_tree key path w =
    let a = at_leaf key path w in
    let s = a.spot in
    ap first_of (sym (ap (with_key key) s.items_are ∙ with_key_of key s.ahead s.mid s.after s.lesser s.greater
    ∙ ap (with_key key) (sym (ap (λ (im : Image). im.items) a.is ∙ s.part.0.has))))
