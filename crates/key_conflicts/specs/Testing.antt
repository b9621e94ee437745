-- Stated: what a test asks for, one page after the other, until it is known of each key whether its
-- newest version is in a writer's way.
use Rattle.std.specs.Prelude.{◌&&◌, ℕ, zero, suc, Bool, true, false, not, is_none, if◌then◌else◌, List, [], ◌∷◌, Option, Some, None}
use Rattle.std.specs.Ordering.{is_lt, is_eq}
use Rattle.rm_base.specs.declared.limits.TheConstants.{MAX_TREE_LEVEL}
use Rattle.page_image.specs.Image.{Image}
use Rattle.page_image.specs.declared.kind.Kind.{Kind}
use Rattle.page_image.specs.declared.kind.Kind.TheVariants as kind
use Rattle.page_view.specs.declared.leaf.LeafItem.{LeafItem}
use Rattle.page_view.specs.Leaf.{leaf_of}
use Rattle.page_view.specs.Keys.{key_in, key_cmp}
use Rattle.commit_stamps.specs.Stamping.{stamp_page, stamp_in, visible}
use Rattle.version_store.specs.Versions.{is_own}
use Rattle.question_tree.specs.Questions.{Ask, tells, asks, stops, then_on}
use Rattle.range_reader.specs.declared.fetch.Fetch.{Fetch}
use Rattle.range_reader.specs.declared.fetch.Fetch.TheVariants as fetch
use Rattle.range_reader.specs.declared.fetch.Snapshot.{Snapshot}
use Rattle.range_reader.specs.Finding.{has_stamp}
use Rattle.range_reader.specs.Walked.{child_in}
use Rattle.key_conflicts.specs.declared.verdict.Met.{Met}
use Rattle.key_conflicts.specs.declared.verdict.Tested.{Tested}

abbrev pub Key : Type 0
Key = List ℕ

abbrev pub Asking : Type 0 → Type 0
Asking A = Ask Fetch Image A

-- ---- the leaf of a key

-- the leaf is what is sought; below an inner page the search goes on
abbrev pub down_by : Kind → Image → Asking Image → Asking Image
down_by kind.Leaf im below = tells im
down_by kind.Inner im below = below
down_by kind.Unmade im below = stops
down_by kind.Meta im below = stops
down_by kind.Slots im below = stops
down_by kind.Stamps im below = stops
down_by kind.Undo im below = stops

-- from a page down to the leaf of a key, through the child that holds it, at most so many levels
unfoldable pub down : ℕ → Key → Image → Asking Image
down zero key im = down_by im.kind im stops
down (suc n) key im = down_by im.kind im (asks (fetch.Child (child_in im key)) (down n key))

abbrev pub to_leaf : ℕ → Key → Asking Image
to_leaf root key = asks (fetch.Root root) (down MAX_TREE_LEVEL key)

-- ---- its newest version

-- the version that a leaf has of a key, which is its newest one
unfoldable pub item_of : Key → List (List ℕ) → Option LeafItem
item_of key [] = None
item_of key (x ∷ xs) = if is_eq (key_cmp (key_in x) key) then Some (leaf_of x) else item_of key xs

abbrev pub met : Bool → Bool → Met
met clash there = record { clash = clash; there = there }

-- A version is in the way where its transaction is open, or was committed past the snapshot: where
-- the snapshot does not see its stamp. A number that no transaction can have stops the work.
abbrev pub stamp_by : Bool → Snapshot → ℕ → Bool → Asking Met
stamp_by true s trx there =
    asks (fetch.Stamps (stamp_page trx))
    (λ im. tells (met (not (visible (stamp_in im trx) s.stamp)) there))
stamp_by false s trx there = stops

-- an own version is not in the way, and no page is asked for
abbrev pub look_by : Bool → Snapshot → ℕ → Bool → Asking Met
look_by true s trx there = tells (met false there)
look_by false s trx there = stamp_by (has_stamp trx) s trx there

abbrev pub look_at : Snapshot → Option LeafItem → Asking Met
look_at s None = tells (met false false)
look_at s (Some item) = look_by (is_own s.own item.trx) s item.trx (not item.deleted)

abbrev pub look_in : Snapshot → Key → Image → Asking Met
look_in s key leaf = look_at s (item_of key leaf.items)

abbrev pub test_key : Snapshot → ℕ → Key → Asking Met
test_key s root key = then_on (to_leaf root key) (look_in s key)

-- ---- one key after the other

abbrev pub put_by : Bool → Key → Option Key → Option Key
put_by true key old = Some key
put_by false key old = old

abbrev pub put_if : Option Key → Option Key → Option Key
put_if None old = old
put_if (Some key) old = Some key

abbrev pub precedes : Key → Option Key → Bool
precedes key None = true
precedes key (Some other) = is_lt (key_cmp key other)

abbrev pub nothing_known : Tested
nothing_known = record { clash = None; found = None }

-- the least key in the way, and the first that is there
abbrev pub with_key : Tested → Key → Met → Tested
with_key t key m =
    record {
      clash = put_by (m.clash && precedes key t.clash) key t.clash;
      found = put_by (m.there && is_none t.found) key t.found;
    }

unfoldable pub test_from : Snapshot → ℕ → Tested → List Key → Asking Tested
test_from s root t [] = tells t
test_from s root t (key ∷ keys) =
    then_on (test_key s root key) (λ m. test_from s root (with_key t key m) keys)

-- the keys of a list in the tree with that root
unfoldable pub test_keys : Snapshot → ℕ → List Key → Asking Tested
test_keys s root keys = test_from s root nothing_known keys
