-- A child is asked for only right after the page above it.
use Rattle.std.proofs.Common.{ℕ, zero, suc, Bool, true, false, not, List, [], ◌∷◌, Option, Some, None, refl}
use Rattle.page_image.specs.Image.{Image}
use Rattle.page_image.specs.declared.kind.Kind.{Kind}
use Rattle.page_image.specs.declared.kind.Kind.TheVariants as kind
use Rattle.page_view.specs.declared.leaf.LeafItem.{LeafItem}
use Rattle.version_store.specs.Versions.{is_own}
use Rattle.question_tree.specs.Questions.{asks, stops}
use Rattle.range_reader.specs.declared.fetch.Fetch.TheVariants as fetch
use Rattle.range_reader.specs.declared.fetch.Snapshot.{Snapshot}
use Rattle.range_reader.specs.Finding.{has_stamp}
use Rattle.range_reader.specs.Laws.{IsOrderly}
use Rattle.range_reader.specs.Walked.{child_in}
use Rattle.range_reader.proofs.OrderLaws.{orderly_on}
use Rattle.key_conflicts.specs.declared.verdict.Tested.{Tested}
use Rattle.key_conflicts.specs.Testing.{Key, Asking, down, down_by, stamp_by, look_by, look_at, look_in, test_key, test_from, test_keys, with_key, nothing_known}
use Rattle.key_conflicts.specs.Judged.{TestsOrderly}

by_kind : (k : Kind) (im : Image) (below : Asking Image) → IsOrderly true below → IsOrderly true (down_by k im below)
by_kind kind.Leaf im below h = tt
by_kind kind.Inner im below h = h
by_kind kind.Unmade im below h = tt
by_kind kind.Meta im below h = tt
by_kind kind.Slots im below h = tt
by_kind kind.Stamps im below h = tt
by_kind kind.Undo im below h = tt

down_orderly : (n : ℕ) (key : Key) (im : Image) → IsOrderly true (down n key im)
unfolding down
down_orderly zero key im = by_kind im.kind im stops tt
down_orderly (suc n) key im =
    by_kind im.kind im (asks (fetch.Child (child_in im key)) (down n key)) (refl, λ below. down_orderly n key below)

stamp_orderly : (b c : Bool) (s : Snapshot) (trx : ℕ) (there : Bool) → IsOrderly c (stamp_by b s trx there)
stamp_orderly true c s trx there = λ im. tt
stamp_orderly false c s trx there = tt

own_orderly : (b c : Bool) (s : Snapshot) (trx : ℕ) (there : Bool) → IsOrderly c (look_by b s trx there)
own_orderly true c s trx there = tt
own_orderly false c s trx there = stamp_orderly (has_stamp trx) c s trx there

look_orderly : (c : Bool) (s : Snapshot) (o : Option LeafItem) → IsOrderly c (look_at s o)
look_orderly c s None = tt
look_orderly c s (Some item) = own_orderly (is_own s.own item.trx) c s item.trx (not item.deleted)

key_orderly : (c : Bool) (s : Snapshot) (root : ℕ) (key : Key) → IsOrderly c (test_key s root key)
key_orderly c s root key = λ im. orderly_on true (down 8 key im) (look_in s key) (down_orderly 8 key im) (λ d leaf. look_orderly d s _)

keys_orderly : (c : Bool) (s : Snapshot) (root : ℕ) (t : Tested) (keys : List Key) → IsOrderly c (test_from s root t keys)
unfolding test_from
keys_orderly c s root t [] = tt
keys_orderly c s root t (key ∷ keys) =
    orderly_on c (test_key s root key) (λ m. test_from s root (with_key t key m) keys) (key_orderly c s root key)
    (λ d m. keys_orderly d s root (with_key t key m) keys)

pub tests_orderly : TestsOrderly
unfolding test_keys
tests_orderly s root keys down = keys_orderly down s root nothing_known keys
