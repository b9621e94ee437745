-- The room on a way.
use Rattle.std.proofs.Common.{◌≡◌, ◌≢◌, ◌<◌, ◌≤◌, ◌+◌, ◌-◌, ◌&&◌, ℕ, zero, suc, Bool, true, false, not, List, [], ◌∷◌, length, Option, Some, None, Result, Ok, Err, refl, sym, ◌∙◌, ap, subst, arith}
use Rattle.std.specs.Prelude.{◌↔◌, IsOk, IsNone, nat_lt, nat_le}
use Rattle.std.proofs.lemmas.Bool.Decides.{nat_tests}
use Rattle.rm_base.specs.declared.limits.TheConstants.{MAX_PAGE_ID}
use Rattle.page_image.specs.declared.kind.Kind.TheVariants as kind
use Rattle.page_image.specs.Image.{Image, is_inner}
use Rattle.page_image.specs.Meta.{page_count}
use Rattle.page_view.specs.declared.leaf.LeafItem.{LeafItem}
use Rattle.redo_record.specs.declared.plans.Plan.{Plan}
use Rattle.redo_record.specs.declared.plans.TreeNo.{TreeNo}
use Rattle.tree_change.specs.Places.{leaf_on, page_on}
use Rattle.tree_change.specs.Room.{lacks_room, room_for, size_of}
use Rattle.tree_change.specs.Splits.{HaveRoom, SpaceFor}
use Rattle.tree_change.specs.Way.{IsWayTo}
use Rattle.tree_change.proofs.WayLaws.{leaf_rows, some_pages}
use Rattle.row_edits.specs.declared.room.Room.{Room}
use Rattle.row_edits.specs.declared.room.Room.TheVariants as room
use Rattle.row_edits.specs.Rooms.{by, by_answer, has_room, room_of, space_by}
use Rattle.row_edits.specs.Rooms as rooms

-- ---- each page has room

both : (a b : Bool) → a ≡ false → b ≡ true → not a && b ≡ true
both a b e f = rw (e, f) refl

pub is_room : (item : LeafItem) (path : List Image) → HaveRoom item path → has_room item path ≡ true
unfolding has_room
is_room item [] have = refl
is_room item (page ∷ rest) have = both (lacks_room item page) (has_room item rest) (have 0 (omega arith)) (is_room item rest (λ i l. have (suc i) (omega (arith, l))))

first_has : (a b : Bool) → not a && b ≡ true → a ≡ false
first_has true b e = sym e
first_has false b e = refl

rest_has : (a b : Bool) → not a && b ≡ true → b ≡ true
rest_has true b e = absurd (apart e)
  where
    apart : false ≡ true → ⊥
    apart q = cc
rest_has false b e = e

pub have_room : (item : LeafItem) (path : List Image) → has_room item path ≡ true → HaveRoom item path
unfolding has_room
have_room item [] e i l = absurd (omega (arith, l))
have_room item (page ∷ rest) e zero l = first_has (lacks_room item page) (has_room item rest) e
have_room item (page ∷ rest) e (suc i) l = have_room item rest (rest_has (lacks_room item page) (has_room item rest) e) i (omega (arith, l))

-- ---- there is space for a split

space_is : (b : Bool) (root : Image) (count : ℕ) → SpaceFor b root count → space_by b root count ≡ true
space_is true root count h = let l = h.0 in let m = h.1 in grind (arith, nat_tests)
space_is false root count h = grind (arith, nat_tests)

no_space : (b : Bool) (root : Image) (count : ℕ) → ¬ SpaceFor b root count → space_by b root count ≡ false
no_space true root count h = go (nat_lt root.level 8) (nat_le (count + 1) MAX_PAGE_ID) refl refl
  where
    go : (x y : Bool) → nat_lt root.level 8 ≡ x → nat_le (count + 1) MAX_PAGE_ID ≡ y → x && y ≡ false
    go true true e f = absurd (h (grind (arith, nat_tests), grind (arith, nat_tests)))
    go true false e f = refl
    go false y e f = refl
no_space false root count h = go (nat_le count MAX_PAGE_ID) refl
  where
    go : (x : Bool) → nat_le count MAX_PAGE_ID ≡ x → x ≡ false
    go true e = absurd (h (grind (arith, nat_tests)))
    go false e = refl

space_from : (b : Bool) (root : Image) (count : ℕ) → space_by b root count ≡ true → SpaceFor b root count
space_from true root count e = go (nat_lt root.level 8) (nat_le (count + 1) MAX_PAGE_ID) refl refl e
  where
    go : (x y : Bool) → nat_lt root.level 8 ≡ x → nat_le (count + 1) MAX_PAGE_ID ≡ y → x && y ≡ true → SpaceFor true root count
    go true true p q r = (grind (arith, nat_tests), grind (arith, nat_tests))
    go true false p q r = absurd (apart r)
      where
        apart : false ≡ true → ⊥
        apart z = cc
    go false y p q r = absurd (apart r)
      where
        apart : false ≡ true → ⊥
        apart z = cc
space_from false root count e = grind (arith, nat_tests)

-- ---- the answers

pub enough : (item : LeafItem) (path : List Image) (meta : Image) → HaveRoom item path → room.Enough ≡ room_of item path meta
enough item path meta have = let e = is_room item path have in rw e refl

not_room : (item : LeafItem) (path : List Image) → ¬ HaveRoom item path → has_room item path ≡ false
not_room item path none = go (has_room item path) refl
  where
    go : (b : Bool) → has_room item path ≡ b → b ≡ false
    go true e = absurd (none (have_room item path e))
    go false e = refl

answered : (item : LeafItem) (path : List Image) (meta : Image) (answer : Result Plan TreeNo)
    → (IsOk answer ↔ SpaceFor (lacks_room item (page_on path 0)) (page_on path 0) (page_count meta))
    → by_answer answer ≡ by (rooms.has_space item path meta) room.Split room.Full
unfolding rooms.has_space
answered item path meta (Ok plan) h =
    let e = space_is (lacks_room item (page_on path 0)) (page_on path 0) (page_count meta) (h.0 refl) in rw e refl
answered item path meta (Err why) h =
    let e = no_space (lacks_room item (page_on path 0)) (page_on path 0) (page_count meta) (λ s. apart (h.1 s)) in rw e refl
  where
    apart : false ≡ true → ⊥
    apart q = cc

pub split_or_full : (item : LeafItem) (path : List Image) (meta : Image) (answer : Result Plan TreeNo)
    → ¬ HaveRoom item path
    → (IsOk answer ↔ SpaceFor (lacks_room item (page_on path 0)) (page_on path 0) (page_count meta))
    → by_answer answer ≡ room_of item path meta
split_or_full item path meta answer none h =
    let e = not_room item path none in rw e (answered item path meta answer h)

pub not_enough : (item : LeafItem) (path : List Image) (meta : Image) → room_of item path meta ≡ room.Split → ¬ HaveRoom item path
not_enough item path meta e have = let f : room.Enough ≡ room.Split = enough item path meta have ∙ e in cc

split_space : (a b : Bool) → by a room.Enough (by b room.Split room.Full) ≡ room.Split → b ≡ true
split_space true b e = cc
split_space false true e = refl
split_space false false e = cc

pub has_space : (item : LeafItem) (path : List Image) (meta : Image) → room_of item path meta ≡ room.Split
    → SpaceFor (lacks_room item (page_on path 0)) (page_on path 0) (page_count meta)
unfolding rooms.has_space
has_space item path meta e = space_from (lacks_room item (page_on path 0)) (page_on path 0) (page_count meta) (split_space (has_room item path) (rooms.has_space item path meta) e)

-- ---- room on the leaf

leaf_room : (item : LeafItem) (page : Image) → page.kind ≡ kind.Leaf → lacks_room item page ≡ false → size_of item ≤ room_for item.key page
leaf_room item page e h =
    let i : is_inner page.kind ≡ false = ap is_inner e in
    let g = rw i at h in
    grind (arith, nat_tests)

pub room_on : (item : LeafItem) (path : List Image) → IsWayTo item.key path → has_room item path ≡ true → size_of item ≤ room_for item.key (leaf_on path)
room_on item path w e =
    let some = some_pages item.key path w in
    leaf_room item (leaf_on path) (leaf_rows item.key path w).kind (have_room item path e (length path - 1) (omega (arith, some)))
