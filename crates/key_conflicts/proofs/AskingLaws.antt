-- What a test of keys does to the work that is left to it.
use Rattle.std.proofs.Common.{◌≡◌, ◌<◌, ◌≤◌, ◌+◌, ℕ, zero, suc, Bool, true, false, List, [], ◌∷◌, length, drop, slice_get, IsTrue, ◌↔◌, Option, Some, None, refl, sym, ◌∙◌, ap, subst, arith}
use Rattle.page_image.specs.Image.{Image}
use Rattle.commit_stamps.specs.Stamping.{stamp_page}
use Rattle.question_tree.specs.Questions.{tells, asks, stops, wanted, told, after, then_on}
use Rattle.range_reader.specs.declared.fetch.Fetch.{Fetch}
use Rattle.range_reader.specs.declared.fetch.Snapshot.{Snapshot}
use Rattle.range_reader.specs.Finding.{Asked, Fits, Suits, page_of, has_stamp, stamp_fetch}
use Rattle.key_conflicts.specs.declared.asking.AskingTest.{AskingTest}
use Rattle.key_conflicts.specs.declared.stages.Stage.{Stage}
use Rattle.key_conflicts.specs.declared.stages.Stage.TheVariants as stage
use Rattle.key_conflicts.specs.declared.stages.Step.{Step}
use Rattle.key_conflicts.specs.declared.stages.Step.TheVariants as step
use Rattle.key_conflicts.specs.declared.verdict.Met.{Met}
use Rattle.key_conflicts.specs.declared.verdict.Tested.{Tested}
use Rattle.key_conflicts.specs.Testing.{Key, Asking, stamp_by, test_from, test_keys, with_key, nothing_known}
use Rattle.key_conflicts.specs.Machine.{key_left, step_left, fetch_of, with_keys, work_of, stepped}

-- ---- the keys that are left

drop_item : {A : Type 0} (xs : List A) (i : ℕ) (x : A) → slice_get xs i ≡ Some x → drop i xs ≡ x ∷ drop (i + 1) xs
drop_item [] i x e = absurd cc
drop_item {A} (y ∷ ys) zero x e = let same : y ≡ x = cc in ap (λ (z : A). z ∷ ys) same
drop_item {A} (y ∷ ys) (suc i) x e =
    let one : suc (i + 1) ≡ suc i + 1 = omega arith in
    drop_item ys i x e ∙ ap (λ (n : ℕ). x ∷ drop n (y ∷ ys)) one

drop_none : {A : Type 0} (xs : List A) (i : ℕ) → length xs ≤ i → drop i xs ≡ []
drop_none [] zero h = refl
drop_none [] (suc i) h = refl
drop_none (y ∷ ys) zero h = absurd (omega (arith, h))
drop_none (y ∷ ys) (suc i) h = drop_none ys i (omega (arith, h))

drop_some : {A : Type 0} (xs : List A) (i : ℕ) → i < length xs → (x : A) × (drop i xs ≡ x ∷ drop (i + 1) xs)
drop_some [] i h = absurd (omega (arith, h))
drop_some {A} (y ∷ ys) zero h = (y, refl)
drop_some {A} (y ∷ ys) (suc i) h =
    let one : suc (i + 1) ≡ suc i + 1 = omega arith in
    let rest = drop_some ys i (omega (arith, h)) in
    (rest.0, rest.1 ∙ ap (λ (n : ℕ). rest.0 ∷ drop n (y ∷ ys)) one)

-- ---- beginnings

from_keys : (s : Snapshot) (root : ℕ) (t : Tested) (keys : List Key)
    → with_keys (λ key. key_left s key (stage.Root root)) s root t keys ≡ test_from s root t keys
unfolding test_from
from_keys s root t [] = refl
from_keys s root t (key ∷ keys) = refl

pub begins : (t : AskingTest) → t.at ≡ 0 → t.stage ≡ stage.Root t.root → t.tested ≡ nothing_known
    → work_of t ≡ test_keys t.snapshot t.root t.keys
unfolding work_of test_keys
begins t a e k =
    ap (λ (n : ℕ). with_keys (λ key. key_left t.snapshot key t.stage) t.snapshot t.root t.tested (drop n t.keys)) a
    ∙ (ap (λ (st : Stage). with_keys (λ key. key_left t.snapshot key st) t.snapshot t.root t.tested t.keys) e
    ∙ (ap (λ (x : Tested). with_keys (λ key. key_left t.snapshot key (stage.Root t.root)) t.snapshot t.root x t.keys) k
    ∙ from_keys t.snapshot t.root nothing_known t.keys))

-- ---- a test at its end, and one that has a key left

at_end : (t : AskingTest) → length t.keys ≤ t.at → work_of t ≡ tells t.tested
unfolding work_of
at_end t h = ap (with_keys (λ key. key_left t.snapshot key t.stage) t.snapshot t.root t.tested) (drop_none t.keys t.at h)

-- what follows the present key
abbrev others : AskingTest → Key → Met → Asking Tested
others t key m = test_from t.snapshot t.root (with_key t.tested key m) (drop (t.at + 1) t.keys)

at_key : (t : AskingTest) (key : Key) → drop t.at t.keys ≡ key ∷ drop (t.at + 1) t.keys
    → work_of t ≡ then_on (key_left t.snapshot key t.stage) (others t key)
unfolding work_of
at_key t key e = ap (with_keys (λ key. key_left t.snapshot key t.stage) t.snapshot t.root t.tested) e

stepped_key : (t : AskingTest) (key : Key) (st : Step) → drop t.at t.keys ≡ key ∷ drop (t.at + 1) t.keys
    → stepped t st ≡ then_on (step_left t.snapshot key st) (others t key)
unfolding stepped
stepped_key t key st e = ap (with_keys (λ key. step_left t.snapshot key st) t.snapshot t.root t.tested) e

-- ---- what is wanted

pub wants_none : (t : AskingTest) → length t.keys ≤ t.at → None ≡ wanted (work_of t)
wants_none t h = sym (ap wanted (at_end t h))

stamp_wants : {A : Type 0} (b : Bool) (s : Snapshot) (trx : ℕ) (there : Bool) (k : Met → Asking A)
    → wanted (then_on (stamp_by b s trx there) k) ≡ stamp_fetch b (stamp_page trx)
stamp_wants true s trx there k = refl
stamp_wants false s trx there k = refl

key_wants : {A : Type 0} (s : Snapshot) (key : Key) (st : Stage) (k : Met → Asking A) → wanted (then_on (key_left s key st) k) ≡ fetch_of st
key_wants s key (stage.Root root) k = refl
key_wants s key (stage.Child page n) k = refl
key_wants s key (stage.Stamp trx there) k = stamp_wants (has_stamp trx) s trx there k
key_wants s key stage.Stopped k = refl

pub wants_page : (t : AskingTest) (q : Option Fetch) → t.at < length t.keys → q ≡ fetch_of t.stage → q ≡ wanted (work_of t)
wants_page t q h e =
    let key = drop_some t.keys t.at h in
    e ∙ sym (ap wanted (at_key t key.0 key.1) ∙ key_wants t.snapshot key.0 t.stage (others t key.0))

pub asks_nothing : (m : Asking Tested) (im : Image) → None ≡ wanted m → Asked m im → ⊥
asks_nothing (tells a) im e h = h
asks_nothing (asks q k) im e h = apart e
  where
    apart : None ≡ Some q → ⊥
    apart p = cc
asks_nothing stops im e h = h

asks_fitting : (m : Asking Tested) (im : Image) (q : Fetch) → Some q ≡ wanted m → Asked m im → Fits q im
asks_fitting (tells a) im q e h = absurd h
asks_fitting (asks p k) im q e h = subst (λ (r : Fetch). Fits r im) (sym (same e)) h
  where
    same : Some q ≡ Some p → q ≡ p
    same r = cc
asks_fitting stops im q e h = absurd h

fitting_asked : (m : Asking Tested) (im : Image) (q : Fetch) → Some q ≡ wanted m → Fits q im → Asked m im
fitting_asked (tells a) im q e h = absurd (apart e)
  where
    apart : Some q ≡ None → ⊥
    apart p = cc
fitting_asked (asks p k) im q e h = subst (λ (r : Fetch). Fits r im) (same e) h
  where
    same : Some q ≡ Some p → q ≡ p
    same r = cc
fitting_asked stops im q e h = absurd (apart e)
  where
    apart : Some q ≡ None → ⊥
    apart p = cc

pub asks_number : (m : Asking Tested) (im : Image) (q : Fetch) → Some q ≡ wanted m → Asked m im → im.page ≡ page_of q
asks_number m im q e h = (asks_fitting m im q e h).0

pub asks_suiting : (m : Asking Tested) (im : Image) (q : Fetch) (b : Bool) → Some q ≡ wanted m → im.page ≡ page_of q
    → (IsTrue b ↔ Suits q im) → (IsTrue b ↔ Asked m im)
asks_suiting m im q b e n h =
    ((λ t. fitting_asked m im q e (n, h.0 t)), (λ a. h.1 (asks_fitting m im q e a).1))

-- ---- the page that is waited for

pub key_there : (t : AskingTest) (im : Image) → Asked (work_of t) im → t.at < length t.keys
unfolding work_of
key_there t im h = go t.keys t.at h
  where
    go : (keys : List Key) (n : ℕ)
        → Asked (with_keys (λ key. key_left t.snapshot key t.stage) t.snapshot t.root t.tested (drop n keys)) im → n < length keys
    go [] zero h = absurd h
    go [] (suc n) h = absurd h
    go (key ∷ keys) zero h = omega arith
    go (key ∷ keys) (suc n) h = let less = go keys n h in omega (arith, less)

stamp_on : {A : Type 0} (b : Bool) (s : Snapshot) (trx : ℕ) (there : Bool) (im : Image) (k : Met → Asking A)
    → Asked (then_on (stamp_by b s trx there) k) im
    → Asked (stamp_by b s trx there) im × (after (then_on (stamp_by b s trx there) k) im ≡ then_on (after (stamp_by b s trx there) im) k)
stamp_on true s trx there im k h = (h, refl)
stamp_on false s trx there im k h = absurd h

key_on : {A : Type 0} (s : Snapshot) (key : Key) (st : Stage) (im : Image) (k : Met → Asking A) → Asked (then_on (key_left s key st) k) im
    → Asked (key_left s key st) im × (after (then_on (key_left s key st) k) im ≡ then_on (after (key_left s key st) im) k)
key_on s key (stage.Root root) im k h = (h, refl)
key_on s key (stage.Child page n) im k h = (h, refl)
key_on s key (stage.Stamp trx there) im k h = stamp_on (has_stamp trx) s trx there im k h
key_on s key stage.Stopped im k h = absurd h

of_key : (t : AskingTest) (im : Image) (key : Key) → slice_get t.keys t.at ≡ Some key → Asked (work_of t) im
    → Asked (key_left t.snapshot key t.stage) im
    × (after (work_of t) im ≡ then_on (after (key_left t.snapshot key t.stage) im) (others t key))
of_key t im key e h =
    let here : Asking Tested → Type 0 = λ m. Asked m im in
    let one = at_key t key (drop_item t.keys t.at key e) in
    let r = key_on t.snapshot key t.stage im (others t key) (subst here one h) in
    (r.0, ap (λ (m : Asking Tested). after m im) one ∙ r.1)

pub key_asked : (t : AskingTest) (im : Image) (key : Key) → slice_get t.keys t.at ≡ Some key → Asked (work_of t) im
    → Asked (key_left t.snapshot key t.stage) im
key_asked t im key e h = (of_key t im key e h).0

pub key_answered : (t : AskingTest) (im : Image) (key : Key) (st : Step) → slice_get t.keys t.at ≡ Some key → Asked (work_of t) im
    → step_left t.snapshot key st ≡ after (key_left t.snapshot key t.stage) im → stepped t st ≡ after (work_of t) im
key_answered t im key st e h is =
    stepped_key t key st (drop_item t.keys t.at key e)
    ∙ (ap (λ (m : Asking Met). then_on m (others t key)) is ∙ sym (of_key t im key e h).1)

-- ---- the next state

pub waits : (t : AskingTest) (st : Stage) → work_of (record t { stage = st }) ≡ stepped t (step.Waits st)
unfolding work_of stepped
waits t st = refl

pub knows : (t : AskingTest) (m : Met) (key : Key) (k : Tested) → slice_get t.keys t.at ≡ Some key → k ≡ with_key t.tested key m
    → work_of (record t { at = t.at + 1; stage = stage.Root t.root; tested = k }) ≡ stepped t (step.Known m)
unfolding work_of
knows t m key k e is =
    from_keys t.snapshot t.root k (drop (t.at + 1) t.keys)
    ∙ (ap (λ (x : Tested). test_from t.snapshot t.root x (drop (t.at + 1) t.keys)) is
    ∙ sym (stepped_key t key (step.Known m) (drop_item t.keys t.at key e)))

pub same_work : (t : AskingTest) (k : Tested) → k ≡ t.tested → work_of (record t { tested = k }) ≡ work_of t
same_work t k e = ap (λ (x : Tested). work_of (record t { tested = x })) e

-- ---- ends

stamp_none : {A : Type 0} (b : Bool) (s : Snapshot) (trx : ℕ) (there : Bool) (k : Met → Asking A) → told (then_on (stamp_by b s trx there) k) ≡ None
stamp_none true s trx there k = refl
stamp_none false s trx there k = refl

key_none : {A : Type 0} (s : Snapshot) (key : Key) (st : Stage) (k : Met → Asking A) → told (then_on (key_left s key st) k) ≡ None
key_none s key (stage.Root root) k = refl
key_none s key (stage.Child page n) k = refl
key_none s key (stage.Stamp trx there) k = stamp_none (has_stamp trx) s trx there k
key_none s key stage.Stopped k = refl

pub tells_nothing : (t : AskingTest) → t.at < length t.keys → None ≡ told (work_of t)
tells_nothing t h =
    let key = drop_some t.keys t.at h in
    sym (ap told (at_key t key.0 key.1) ∙ key_none t.snapshot key.0 t.stage (others t key.0))

pub tells_tested : (t : AskingTest) → length t.keys ≤ t.at → Some t.tested ≡ told (work_of t)
tells_tested t h = sym (ap told (at_end t h))
