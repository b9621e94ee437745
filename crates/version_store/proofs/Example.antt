-- The example's groups and reads, by computation.
use Rattle.std.proofs.Common.{◌≡◌, ◌≢◌, ℕ, true, Some, [], refl, sym}
use Rattle.version_store.specs.Contents.{catalog_name}
use Rattle.version_store.specs.Example.{ExampleReads, again, back, done, filled, groups, key, made, name}
use Rattle.version_store.specs.Groups.{AllMake, Writes}
use Rattle.version_store.specs.Held.{none_of}
use Rattle.version_store.specs.Stores.{Store, begun, blank, catalog}

-- no session but 0 has a slot
no_other : (v u : ℕ) → v ≢ 0 → Store.slot again v ≡ Some u → none_of u (Store.rows again 1029 key) ≡ true
no_other v u ne e = refl

writes_row : Writes again 0 2 1029 name key
writes_row = record { slot = refl; root = refl; sees = λ u o. sym o.0; alone = no_other }

log : AllMake groups blank done
unfolding catalog_name
log = (
  begun blank 0,
  (refl, refl),
  (
    made,
    (1, refl, refl, refl),
    (
      _,
      (1, record { root = catalog; key = name }, [], refl, refl, refl),
      (
        back,
        (1, refl, refl, refl),
        (
          begun back 0,
          (refl, refl),
          (
            again,
            (2, refl, refl, refl),
            (filled, (2, 1029, writes_row, refl, refl), (done, (2, refl, refl), refl)),
          ),
        ),
      ),
    ),
  ),
)

pub example_reads : ExampleReads
unfolding catalog_name
example_reads = record {
  log = log;
  first = refl;
  gone = refl;
  second = refl;
  own = refl;
  other = refl;
  committed = refl;
  before = refl;
}
