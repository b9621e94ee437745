-- The items of a list that have one key.
use Rattle.std.proofs.Common.{◌≡◌, [], ◌∷◌, ◌++◌, ap, refl, ◌∙◌}
use Rattle.std.specs.Ordering.{is_eq}
use Rattle.std.specs.declared.cmp.Ordering.TheVariants.{Less, Greater}
use Rattle.std.proofs.lemmas.List.{append-nil}
use Rattle.std.proofs.lemmas.List.Elements.{filter-append}
use Rattle.page_view.specs.Keys.{key_in, key_cmp}
use Rattle.bplus_tree.specs.Found.{AllLess, AllMore}
use Rattle.bplus_tree.proofs.Order.{turned}
use Rattle.tree_timeline.specs.Types.{Key, Items}
use Rattle.tree_timeline.specs.Found.{of_key}

none_less : (key : Key) (xs : Items) → AllLess key xs → of_key key xs ≡ []
none_less key [] a = refl
none_less key (x ∷ xs) a =
    let e : key_cmp (key_in x) key ≡ Less = a.0 in rw e (none_less key xs a.1)

none_more : (key : Key) (xs : Items) → AllMore key xs → of_key key xs ≡ []
none_more key [] a = refl
none_more key (x ∷ xs) a =
    let e : key_cmp (key_in x) key ≡ Greater = turned key (key_in x) a.0 in
    rw e (none_more key xs a.1)

-- lesser items before them, or greater ones behind them, change nothing
pub of_key-behind : (key : Key) (xs ys : Items) → AllLess key xs
    → of_key key (xs ++ ys) ≡ of_key key ys
of_key-behind key xs ys less =
    filter-append (λ item. is_eq (key_cmp (key_in item) key)) xs ys
    ∙ ap (λ (x : Items). x ++ of_key key ys) (none_less key xs less)

pub of_key-before : (key : Key) (xs ys : Items) → AllMore key ys
    → of_key key (xs ++ ys) ≡ of_key key xs
of_key-before key xs ys more =
    filter-append (λ item. is_eq (key_cmp (key_in item) key)) xs ys
    ∙ (ap (λ (y : Items). of_key key xs ++ y) (none_more key ys more)
    ∙ append-nil (of_key key xs))
