-- What the test of a key does to the work that is left to it.
use Rattle.std.proofs.Common.{◌≡◌, ◌≢◌, ◌-◌, ◌&&◌, ℕ, zero, suc, Bool, true, false, not, is_none, Option, Some, None, inl, inr, refl, sym, ◌∙◌, ap, subst, arith}
use Rattle.rm_base.specs.declared.limits.TheConstants.{MAX_TREE_LEVEL}
use Rattle.page_image.specs.Image.{Image}
use Rattle.page_image.specs.declared.kind.Kind.{Kind}
use Rattle.page_image.specs.declared.kind.Kind.TheVariants as kind
use Rattle.page_view.specs.declared.leaf.LeafItem.{LeafItem}
use Rattle.bplus_tree.specs.Walk.{IsToRead, IsLeafToRead, IsInnerToRead}
use Rattle.commit_stamps.specs.Stamping.{stamp_page, stamp_in, visible}
use Rattle.version_store.specs.Versions.{is_own}
use Rattle.question_tree.specs.Questions.{tells, asks, stops, after, then_on}
use Rattle.range_reader.specs.declared.fetch.Fetch.TheVariants as fetch
use Rattle.range_reader.specs.declared.fetch.Snapshot.{Snapshot}
use Rattle.range_reader.specs.Finding.{Asked, Fits, has_stamp}
use Rattle.range_reader.specs.Walked.{child_in}
use Rattle.key_conflicts.specs.declared.stages.Stage.{Stage}
use Rattle.key_conflicts.specs.declared.stages.Stage.TheVariants as stage
use Rattle.key_conflicts.specs.declared.stages.Step.{Step}
use Rattle.key_conflicts.specs.declared.stages.Step.TheVariants as step
use Rattle.key_conflicts.specs.declared.verdict.Met.{Met}
use Rattle.key_conflicts.specs.declared.verdict.Tested.{Tested}
use Rattle.key_conflicts.specs.Testing.{Key, Asking, down, down_by, item_of, met, stamp_by, look_by, look_at, look_in, put_by, put_if, precedes, with_key}
use Rattle.key_conflicts.specs.Machine.{key_left, step_left}

-- ---- what is known

put_once : (b : Bool) (key : Key) (old : Option Key) → put_if (put_by b key None) old ≡ put_by b key old
put_once true key old = refl
put_once false key old = refl

pub noted : (t : Tested) (key : Key) (m : Met) (a b c d : Option Key)
    → a ≡ put_by (m.clash && precedes key t.clash) key None → b ≡ put_by (m.there && is_none t.found) key None
    → c ≡ put_if a t.clash → d ≡ put_if b t.found → record { clash = c; found = d } ≡ with_key t key m
noted t key m a b c d ea eb ec ed =
    let first : c ≡ put_by (m.clash && precedes key t.clash) key t.clash =
    ec ∙ (ap (λ (x : Option Key). put_if x t.clash) ea ∙ put_once (m.clash && precedes key t.clash) key t.clash) in
    let second : d ≡ put_by (m.there && is_none t.found) key t.found =
    ed ∙ (ap (λ (x : Option Key). put_if x t.found) eb ∙ put_once (m.there && is_none t.found) key t.found) in
    rw (first, second) refl

-- ---- a version

pub own_known : (s : Snapshot) (key : Key) (trx : ℕ) (there : Bool) → is_own s.own trx ≡ true
    → step_left s key (step.Known (met false there)) ≡ look_by (is_own s.own trx) s trx there
own_known s key trx there e = sym (ap (λ (b : Bool). look_by b s trx there) e)

pub other_waits : (s : Snapshot) (key : Key) (trx : ℕ) (there : Bool) → is_own s.own trx ≡ false
    → step_left s key (step.Waits (stage.Stamp trx there)) ≡ look_by (is_own s.own trx) s trx there
other_waits s key trx there e = sym (ap (λ (b : Bool). look_by b s trx there) e)

pub none_met : (s : Snapshot) (key : Key) (leaf : Image) (m : Met) → None ≡ item_of key leaf.items → m ≡ met false false
    → step_left s key (step.Known m) ≡ look_in s key leaf
none_met s key leaf m e n = ap (λ (x : Met). tells x) n ∙ ap (look_at s) e

pub item_met : (s : Snapshot) (key : Key) (leaf : Image) (item : LeafItem) (st : Step) → Some item ≡ item_of key leaf.items
    → step_left s key st ≡ look_by (is_own s.own item.trx) s item.trx (not item.deleted)
    → step_left s key st ≡ look_in s key leaf
item_met s key leaf item st e h = h ∙ ap (look_at s) e

-- ---- the way down

unread : (im : Image) (k : Kind) → im.kind ≡ k → IsToRead im → k ≢ kind.Leaf → k ≢ kind.Inner → ⊥
unread im k e read a b = elim read [ inl leaf ↦ a (sym e ∙ leaf.kind) | inr inner ↦ b (sym e ∙ inner.kind) ]

pub is_leaf : (im : Image) → im.kind ≡ kind.Leaf → IsToRead im → IsLeafToRead im
is_leaf im e (inl leaf) = leaf
is_leaf im e (inr inner) = let apart : kind.Leaf ≡ kind.Inner = sym e ∙ inner.kind in absurd cc

pub is_inner : (im : Image) → im.kind ≢ kind.Leaf → IsToRead im → IsInnerToRead im
is_inner im n (inl leaf) = absurd (n leaf.kind)
is_inner im n (inr inner) = inner

down_leaf : (n : ℕ) (key : Key) (im : Image) → im.kind ≡ kind.Leaf → down n key im ≡ tells im
unfolding down
down_leaf zero key im e = ap (λ (k : Kind). down_by k im stops) e
down_leaf (suc n) key im e = ap (λ (k : Kind). down_by k im (asks (fetch.Child (child_in im key)) (down n key))) e

pub leaf_told : (s : Snapshot) (key : Key) (n : ℕ) (im : Image) (st : Step) → im.kind ≡ kind.Leaf
    → step_left s key st ≡ look_in s key im → step_left s key st ≡ then_on (down n key im) (look_in s key)
leaf_told s key n im st e h = h ∙ sym (ap (λ (m : Asking Image). then_on m (look_in s key)) (down_leaf n key im e))

down_end : (n : ℕ) (key : Key) (im : Image) → IsInnerToRead im → n ≡ 0 → down n key im ≡ stops
unfolding down
down_end zero key im h z = ap (λ (k : Kind). down_by k im stops) h.kind
down_end (suc n) key im h z = absurd (omega (arith, z))

pub ends_below : (s : Snapshot) (key : Key) (n : ℕ) (im : Image) → IsInnerToRead im → n ≡ 0
    → step_left s key (step.Waits stage.Stopped) ≡ then_on (down n key im) (look_in s key)
ends_below s key n im h z = sym (ap (λ (m : Asking Image). then_on m (look_in s key)) (down_end n key im h z))

down_on : (n : ℕ) (key : Key) (im : Image) → IsInnerToRead im → n ≢ 0
    → down n key im ≡ asks (fetch.Child (child_in im key)) (down (n - 1) key)
unfolding down
down_on zero key im h z = absurd (z refl)
down_on (suc n) key im h z =
    let less : n ≡ suc n - 1 = omega arith in
    ap (λ (k : Kind). down_by k im (asks (fetch.Child (child_in im key)) (down n key))) h.kind
    ∙ ap (λ (m : ℕ). asks (fetch.Child (child_in im key)) (down m key)) less

pub goes_below : (s : Snapshot) (key : Key) (n : ℕ) (im : Image) (p m : ℕ) → IsInnerToRead im → n ≢ 0 → p ≡ child_in im key → m ≡ n - 1
    → step_left s key (step.Waits (stage.Child p m)) ≡ then_on (down n key im) (look_in s key)
goes_below s key n im p m h z e f =
    ap (λ (q : ℕ). then_on (asks (fetch.Child q) (down m key)) (look_in s key)) e
    ∙ (ap (λ (j : ℕ). then_on (asks (fetch.Child (child_in im key)) (down j key)) (look_in s key)) f
    ∙ sym (ap (λ (m : Asking Image). then_on m (look_in s key)) (down_on n key im h z)))

-- ---- the page that is waited for

stamp_asks : (b : Bool) (s : Snapshot) (trx : ℕ) (there : Bool) (im : Image) → Asked (stamp_by b s trx there) im
    → (b ≡ true) × Fits (fetch.Stamps (stamp_page trx)) im
    × (after (stamp_by b s trx there) im ≡ tells (met (not (visible (stamp_in im trx) s.stamp)) there))
stamp_asks true s trx there im h = (refl, h, refl)
stamp_asks false s trx there im h = absurd h

pub stamp_kind : (s : Snapshot) (trx : ℕ) (there : Bool) (im : Image) → Asked (stamp_by (has_stamp trx) s trx there) im → im.kind ≡ kind.Stamps
stamp_kind s trx there im h = (stamp_asks (has_stamp trx) s trx there im h).1.1

pub stamp_number : (s : Snapshot) (trx : ℕ) (there : Bool) (im : Image) → Asked (stamp_by (has_stamp trx) s trx there) im → im.page ≡ stamp_page trx
stamp_number s trx there im h = (stamp_asks (has_stamp trx) s trx there im h).1.0

pub stamp_can_be : (s : Snapshot) (trx : ℕ) (there : Bool) (im : Image) → Asked (stamp_by (has_stamp trx) s trx there) im → has_stamp trx ≡ true
stamp_can_be s trx there im h = (stamp_asks (has_stamp trx) s trx there im h).0

pub stamp_judged : (s : Snapshot) (key : Key) (trx : ℕ) (there seen : Bool) (im : Image)
    → Asked (stamp_by (has_stamp trx) s trx there) im → seen ≡ visible (stamp_in im trx) s.stamp
    → step_left s key (step.Known (met (not seen) there)) ≡ after (stamp_by (has_stamp trx) s trx there) im
stamp_judged s key trx there seen im h e =
    ap (λ (b : Bool). tells (met (not b) there)) e ∙ sym (stamp_asks (has_stamp trx) s trx there im h).2

pub stamp_read : (s : Snapshot) (key : Key) (st : Stage) (trx : ℕ) (there : Bool) (im : Image) → st ≡ stage.Stamp trx there
    → Asked (key_left s key st) im → Asked (stamp_by (has_stamp trx) s trx there) im
stamp_read s key st trx there im e h =
    let here : Stage → Type 0 = λ t. Asked (key_left s key t) im in
    subst here e h

pub stamp_after : (s : Snapshot) (key : Key) (st : Stage) (trx : ℕ) (there : Bool) (im : Image) (new : Step) → st ≡ stage.Stamp trx there
    → step_left s key new ≡ after (stamp_by (has_stamp trx) s trx there) im → step_left s key new ≡ after (key_left s key st) im
stamp_after s key st trx there im new e h = h ∙ sym (ap (λ (t : Stage). after (key_left s key t) im) e)

pub root_read : (s : Snapshot) (key : Key) (st : Stage) (root : ℕ) (im : Image) → st ≡ stage.Root root → Asked (key_left s key st) im → IsToRead im
root_read s key st root im e h =
    let here : Stage → Type 0 = λ t. Asked (key_left s key t) im in
    (subst here e h).1

pub child_read : (s : Snapshot) (key : Key) (st : Stage) (page n : ℕ) (im : Image) → st ≡ stage.Child page n → Asked (key_left s key st) im → IsToRead im
child_read s key st page n im e h =
    let here : Stage → Type 0 = λ t. Asked (key_left s key t) im in
    (subst here e h).1

pub root_after : (s : Snapshot) (key : Key) (st : Stage) (root : ℕ) (im : Image) (new : Step) → st ≡ stage.Root root
    → step_left s key new ≡ then_on (down MAX_TREE_LEVEL key im) (look_in s key) → step_left s key new ≡ after (key_left s key st) im
root_after s key st root im new e h = h ∙ sym (ap (λ (t : Stage). after (key_left s key t) im) e)

pub child_after : (s : Snapshot) (key : Key) (st : Stage) (page n : ℕ) (im : Image) (new : Step) → st ≡ stage.Child page n
    → step_left s key new ≡ then_on (down n key im) (look_in s key) → step_left s key new ≡ after (key_left s key st) im
child_after s key st page n im new e h = h ∙ sym (ap (λ (t : Stage). after (key_left s key t) im) e)

pub stopped_after : (s : Snapshot) (key : Key) (st : Stage) (im : Image) → st ≡ stage.Stopped
    → step_left s key (step.Waits stage.Stopped) ≡ after (key_left s key st) im
stopped_after s key st im e = sym (ap (λ (t : Stage). after (key_left s key t) im) e)
