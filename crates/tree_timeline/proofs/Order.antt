-- Keys one after the other.
use Rattle.std.proofs.Common.{◌≡◌, ◌≢◌, true, Some, None, refl, sym, ap, ◌∙◌, not}
use Rattle.std.specs.Ordering.{is_lt}
use Rattle.std.specs.declared.cmp.Ordering.{Ordering}
use Rattle.std.specs.declared.cmp.Ordering.TheVariants.{Less, Greater, Equal}
use Rattle.page_view.specs.Keys.{key_cmp}
use Rattle.bplus_tree.proofs.Order.{turned, turned_back, upto_less, least_key}
use Rattle.bplus_tree.specs.Tree.{NotBelow, Below}
use Rattle.bplus_tree.specs.Walk.{sought}
use Rattle.tree_timeline.specs.Types.{Key, Bound}

pub not_less_upto : (a b : Key) → not (is_lt (key_cmp a b)) ≡ true → key_cmp b a ≢ Greater
not_less_upto a b e g = let h : key_cmp a b ≡ Less = turned_back b a g in
    let x : not (is_lt Less) ≡ true = ap (λ (o : Ordering). not (is_lt o)) (sym h) ∙ e in cc

pub upto_not_less : (a b : Key) → key_cmp b a ≢ Greater → not (is_lt (key_cmp a b)) ≡ true
upto_not_less a b n = go (key_cmp a b) refl
  where
    go : (o : Ordering) → key_cmp a b ≡ o → not (is_lt o) ≡ true
    go Less e = absurd (n (turned a b e))
    go Equal e = refl
    go Greater e = refl

-- three keys one after the other
pub upto_upto : (a b c : Key) → key_cmp a b ≢ Greater → key_cmp b c ≢ Greater
    → key_cmp a c ≢ Greater
upto_upto a b c p q g = p (turned b a (upto_less b c a q (turned_back a c g)))

pub from_upto : (low : Bound) (a b : Key) → NotBelow low a → key_cmp a b ≢ Greater → NotBelow low b
from_upto None a b n e = tt
from_upto (Some low) a b n e = upto_upto low a b n e

pub below_upto : (high : Bound) (a b : Key) → key_cmp a b ≢ Greater → Below high b → Below high a
below_upto None a b e h = tt
below_upto (Some high) a b e h = upto_less a b high e h

-- a key of the range is at least the one that was sought
pub sought_upto : (low : Bound) (k : Key) → NotBelow low k → key_cmp (sought low) k ≢ Greater
sought_upto None k n = least_key k
sought_upto (Some low) k n = n
