-- For the proofs: the work that is left to a test.
use Rattle.std.specs.Prelude.{ℕ, List, [], ◌∷◌, drop, Option, Some, None}
use Rattle.commit_stamps.specs.Stamping.{stamp_page}
use Rattle.question_tree.specs.Questions.{tells, asks, stops, then_on}
use Rattle.range_reader.specs.declared.fetch.Fetch.{Fetch}
use Rattle.range_reader.specs.declared.fetch.Fetch.TheVariants as fetch
use Rattle.range_reader.specs.declared.fetch.Snapshot.{Snapshot}
use Rattle.range_reader.specs.Finding.{has_stamp, stamp_fetch}
use Rattle.key_conflicts.specs.declared.asking.AskingTest.{AskingTest}
use Rattle.key_conflicts.specs.declared.stages.Stage.{Stage}
use Rattle.key_conflicts.specs.declared.stages.Stage.TheVariants as stage
use Rattle.key_conflicts.specs.declared.stages.Step.{Step}
use Rattle.key_conflicts.specs.declared.stages.Step.TheVariants as step
use Rattle.key_conflicts.specs.declared.verdict.Met.{Met}
use Rattle.key_conflicts.specs.declared.verdict.Tested.{Tested}
use Rattle.key_conflicts.specs.Testing.{Key, Asking, down, look_in, stamp_by, test_key, test_from, with_key}

-- ---- the key that is tested now

abbrev pub key_left : Snapshot → Key → Stage → Asking Met
key_left s key (stage.Root root) = test_key s root key
key_left s key (stage.Child page left) =
    then_on (asks (fetch.Child page) (down left key)) (look_in s key)
key_left s key (stage.Stamp trx there) = stamp_by (has_stamp trx) s trx there
key_left s key stage.Stopped = stops

abbrev pub step_left : Snapshot → Key → Step → Asking Met
step_left s key (step.Waits st) = key_left s key st
step_left s key (step.Known m) = tells m

-- the page that it asks for
abbrev pub fetch_of : Stage → Option Fetch
fetch_of (stage.Root root) = Some (fetch.Root root)
fetch_of (stage.Child page left) = Some (fetch.Child page)
fetch_of (stage.Stamp trx there) = stamp_fetch (has_stamp trx) (stamp_page trx)
fetch_of stage.Stopped = None

-- ---- all keys

-- the first of the keys, and then the others
abbrev pub with_keys : (Key → Asking Met) → Snapshot → ℕ → Tested → List Key → Asking Tested
with_keys f s root t [] = tells t
with_keys f s root t (key ∷ keys) =
    then_on (f key) (λ m. test_from s root (with_key t key m) keys)

unfoldable pub work_of : AskingTest → Asking Tested
work_of t = with_keys (λ key. key_left t.snapshot key t.stage) t.snapshot t.root t.tested (drop t.at t.keys)

-- the same, where the present key has come so far
unfoldable pub stepped : AskingTest → Step → Asking Tested
stepped t st = with_keys (λ key. step_left t.snapshot key st) t.snapshot t.root t.tested (drop t.at t.keys)
