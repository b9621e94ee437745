-- Ranges of keys, as tests and as facts.
use Rattle.std.proofs.Common.{◌≡◌, ◌≢◌, ℕ, Bool, true, false, not, List, ◌&&◌, Some, None, refl, sym, ap, ◌∙◌}
use Rattle.std.specs.Ordering.{is_eq, is_lt}
use Rattle.std.specs.declared.cmp.Ordering.{Ordering}
use Rattle.std.specs.declared.cmp.Ordering.TheVariants.{Less, Equal, Greater}
use Rattle.std.proofs.lemmas.Map.Text.{is_eq-slice_cmp}
use Rattle.page_view.specs.Keys.{key_in, key_cmp}
use Rattle.bplus_tree.specs.Tree.{NotBelow}
use Rattle.bplus_tree.specs.Walk.{at_least, from_low, in_range, to_high}
use Rattle.bplus_tree.proofs.Order.{turned, turned_back}
use Rattle.tree_timeline.specs.Found.{InRange, NotOver}
use Rattle.tree_timeline.specs.Types.{Bound, Key}
use Rattle.version_store.proofs.Places.{bytes_same, bytes_self}

first : (a b : Bool) → (a && b) ≡ true → a ≡ true
first true b h = refl
first false b h = h

second : (a b : Bool) → (a && b) ≡ true → b ≡ true
second true b h = h
second false b h = absurd (let x : false ≡ true = h in cc)

-- the first key is at least the second
not_less : (a b : Key) → at_least a b ≡ true → key_cmp b a ≢ Greater
not_less a b e g = absurd (let x : false ≡ true = sym (ap (λ o. not (is_lt o)) (turned_back b a g))
    ∙ e in cc)

pub range_of : (low high : Bound) (x : List ℕ) → in_range low high x ≡ true
    → InRange low high (key_in x)
range_of low high x e = (
  lows low (first (from_low low x) (to_high high x) e),
  highs high (second (from_low low x) (to_high high x) e),
)
  where
    lows : (o : Bound) → from_low o x ≡ true → NotBelow o (key_in x)
    lows None h = tt
    lows (Some l) h = not_less (key_in x) l h

    highs : (o : Bound) → to_high o x ≡ true → NotOver o (key_in x)
    highs None h = tt
    highs (Some l) h = not_less l (key_in x) h

-- a range of one key has that key
equal_only : (a : Key) → key_cmp a a ≢ Greater
equal_only a g =
    let x : is_eq (key_cmp a a) ≡ true = is_eq-slice_cmp a a ∙ bytes_self a in
    let y : false ≡ true = sym (ap is_eq g) ∙ x in
    cc

pub alone_there : (a : Key) → InRange (Some a) (Some a) a
alone_there a = (equal_only a, equal_only a)

pub same_key : (a k : Key) → InRange (Some a) (Some a) k → k ≡ a
same_key a k (low, high) = go (key_cmp a k) refl
  where
    go : (o : Ordering) → key_cmp a k ≡ o → k ≡ a
    go Equal f = sym (bytes_same a k (sym (is_eq-slice_cmp a k) ∙ ap is_eq f))
    go Greater f = absurd (low f)
    go Less f = absurd (high (turned a k f))
