-- The trees of the example stand, before the split and after it.
use Rattle.std.proofs.Common.{◌≡◌, ◌≢◌, zero, suc, [], ◌∷◌, Some, None, refl, arith}
use Rattle.std.specs.Prelude.{nat_eq}
use Rattle.std.specs.List.{IsDistinct}
use Rattle.std.proofs.lemmas.Map.Keys.{IsDistinct-cons}
use Rattle.std.specs.declared.cmp.Ordering.TheVariants.{Less, Equal, Greater}
use Rattle.page_view.specs.Inner.{IsInner}
use Rattle.page_view.specs.Keys.{key_cmp, Ascend}
use Rattle.page_view.specs.Leaf.{HoldsLeaf}
use Rattle.bplus_tree.specs.Tree.{IsLeafPage, IsInnerPage, Tree}
use Rattle.tree_timeline.specs.Fences.{entries_in}
use Rattle.tree_timeline.specs.Types.{Key}
use Rattle.tree_timeline.specs.Example.{item, first_entry, second_entry, third_entry, whole, halved}
use Rattle.tree_timeline.proofs.Rows.{entries_are}

ascend_one : (a : Key) → Ascend (a ∷ [])
ascend_one a i j l h = absurd (omega (arith, l, h))

ascend_two : (a b : Key) → key_cmp a b ≡ Less → Ascend (a ∷ b ∷ [])
ascend_two a b e zero zero l h = absurd (omega (arith, l))
ascend_two a b e zero (suc zero) l h = e
ascend_two a b e zero (suc (suc j)) l h = absurd (omega (arith, h))
ascend_two a b e (suc i) zero l h = absurd (omega (arith, l))
ascend_two a b e (suc i) (suc j) l h = absurd (omega (arith, l, h))

ascend_three : (a b c : Key) → key_cmp a b ≡ Less → key_cmp a c ≡ Less → key_cmp b c ≡ Less
    → Ascend (a ∷ b ∷ c ∷ [])
ascend_three a b c e f g zero zero l h = absurd (omega (arith, l))
ascend_three a b c e f g zero (suc zero) l h = e
ascend_three a b c e f g zero (suc (suc zero)) l h = f
ascend_three a b c e f g zero (suc (suc (suc j))) l h = absurd (omega (arith, h))
ascend_three a b c e f g (suc i) zero l h = absurd (omega (arith, l))
ascend_three a b c e f g (suc i) (suc j) l h =
    ascend_two b c g i j (omega (arith, l)) (omega (arith, h))

holds_one : HoldsLeaf (item 1)
holds_one =
    record { short_key = omega arith; long = omega arith; short = omega arith; flag = omega arith }

holds_two : HoldsLeaf (item 2)
holds_two =
    record { short_key = omega arith; long = omega arith; short = omega arith; flag = omega arith }

holds_three : HoldsLeaf (item 3)
holds_three =
    record { short_key = omega arith; long = omega arith; short = omega arith; flag = omega arith }

pub is_first : IsInner first_entry
is_first = record { short_key = omega arith; child = omega arith }

pub is_second : IsInner second_entry
is_second = record { short_key = omega arith; child = omega arith }

pub is_third : IsInner third_entry
is_third = record { short_key = omega arith; child = omega arith }

pub less_greater : Less ≢ Greater
less_greater e = cc

pub equal_greater : Equal ≢ Greater
equal_greater e = cc

-- ---- before the split

pub whole_root : IsInnerPage (whole 1) 1 1 (first_entry ∷ second_entry ∷ [])
whole_root = record {
  kind = refl;
  number = refl;
  height = refl;
  has = refl;
  each = (is_first, (is_second, tt));
  short = (omega arith, (omega arith, tt));
  least = refl;
  ascend = ascend_two [] (2 ∷ []) refl;
}

pub whole_left : IsLeafPage (whole 2) 2 None (Some (2 ∷ [])) (item 1 ∷ [])
whole_left = record {
  kind = refl;
  number = refl;
  has = refl;
  each = (holds_one, tt);
  ascend = ascend_one (1 ∷ []);
  from = (tt, tt);
  below = (refl, tt);
}

pub whole_right : IsLeafPage (whole 3) 3 (Some (2 ∷ [])) None (item 2 ∷ item 3 ∷ [])
whole_right = record {
  kind = refl;
  number = refl;
  has = refl;
  each = (holds_two, (holds_three, tt));
  ascend = ascend_two (2 ∷ []) (3 ∷ []) refl;
  from = (equal_greater, (less_greater, tt));
  below = (tt, (tt, tt));
}

pub distinct_three : IsDistinct nat_eq (1 ∷ 2 ∷ 3 ∷ [])
unfolding IsDistinct
distinct_three =
    IsDistinct-cons nat_eq 1 (2 ∷ 3 ∷ []) (refl, (refl, tt))
    (IsDistinct-cons nat_eq 2 (3 ∷ []) (refl, tt) (IsDistinct-cons nat_eq 3 [] tt tt))

abbrev pub whole_tree : Tree whole 1 (item 1 ∷ item 2 ∷ item 3 ∷ [])
whole_tree = record {
  level = 1;
  nodes = 1 ∷ 2 ∷ 3 ∷ [];
  low_enough = omega arith;
  stands = (
    first_entry ∷ second_entry ∷ [],
    2 ∷ 3 ∷ [],
    whole_root,
    (
      item 1 ∷ [],
      item 2 ∷ item 3 ∷ [],
      2 ∷ [],
      3 ∷ [],
      (whole_left, refl),
      tt,
      tt,
      (whole_right, refl),
      refl,
      refl,
    ),
    refl,
  );
  linked = (refl, omega arith, refl);
  apart = distinct_three;
}

pub whole_entries : entries_in (whole 1) ≡ first_entry ∷ (second_entry ∷ [])
whole_entries =
    entries_are (whole 1) (first_entry ∷ (second_entry ∷ [])) refl (is_first, (is_second, tt))

-- ---- after it

pub halved_root : IsInnerPage (halved 1) 1 1 (first_entry ∷ second_entry ∷ third_entry ∷ [])
halved_root = record {
  kind = refl;
  number = refl;
  height = refl;
  has = refl;
  each = (is_first, (is_second, (is_third, tt)));
  short = (omega arith, (omega arith, (omega arith, tt)));
  least = refl;
  ascend = ascend_three [] (2 ∷ []) (3 ∷ []) refl refl refl;
}

pub halved_first : IsLeafPage (halved 2) 2 None (Some (2 ∷ [])) (item 1 ∷ [])
halved_first = record {
  kind = refl;
  number = refl;
  has = refl;
  each = (holds_one, tt);
  ascend = ascend_one (1 ∷ []);
  from = (tt, tt);
  below = (refl, tt);
}

pub halved_second : IsLeafPage (halved 3) 3 (Some (2 ∷ [])) (Some (3 ∷ [])) (item 2 ∷ [])
halved_second = record {
  kind = refl;
  number = refl;
  has = refl;
  each = (holds_two, tt);
  ascend = ascend_one (2 ∷ []);
  from = (equal_greater, tt);
  below = (refl, tt);
}

pub halved_third : IsLeafPage (halved 4) 4 (Some (3 ∷ [])) None (item 3 ∷ [])
halved_third = record {
  kind = refl;
  number = refl;
  has = refl;
  each = (holds_three, tt);
  ascend = ascend_one (3 ∷ []);
  from = (equal_greater, tt);
  below = (tt, tt);
}

pub distinct_four : IsDistinct nat_eq (1 ∷ 2 ∷ 3 ∷ 4 ∷ [])
unfolding IsDistinct
distinct_four =
    IsDistinct-cons nat_eq 1 (2 ∷ 3 ∷ 4 ∷ []) (refl, (refl, (refl, tt)))
    (IsDistinct-cons nat_eq 2 (3 ∷ 4 ∷ []) (refl, (refl, tt))
    (IsDistinct-cons nat_eq 3 (4 ∷ []) (refl, tt) (IsDistinct-cons nat_eq 4 [] tt tt)))

abbrev pub halved_tree : Tree halved 1 (item 1 ∷ item 2 ∷ item 3 ∷ [])
halved_tree = record {
  level = 1;
  nodes = 1 ∷ 2 ∷ 3 ∷ 4 ∷ [];
  low_enough = omega arith;
  stands = (
    first_entry ∷ second_entry ∷ third_entry ∷ [],
    2 ∷ 3 ∷ 4 ∷ [],
    halved_root,
    (
      item 1 ∷ [],
      item 2 ∷ item 3 ∷ [],
      2 ∷ [],
      3 ∷ 4 ∷ [],
      (halved_first, refl),
      tt,
      tt,
      (
        item 2 ∷ [],
        item 3 ∷ [],
        3 ∷ [],
        4 ∷ [],
        (halved_second, refl),
        refl,
        tt,
        (halved_third, refl),
        refl,
        refl,
      ),
      refl,
      refl,
    ),
    refl,
  );
  linked = (refl, omega arith, (refl, omega arith, refl));
  apart = distinct_four;
}

pub halved_entries : entries_in (halved 1) ≡ first_entry ∷ (second_entry ∷ (third_entry ∷ []))
halved_entries =
    entries_are (halved 1) (first_entry ∷ (second_entry ∷ (third_entry ∷ []))) refl
    (is_first, (is_second, (is_third, tt)))
