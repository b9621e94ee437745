-- What is known of one version, page after page.
use Rattle.std.proofs.Common.{◌≡◌, ◌≢◌, ◌≤◌, ◌-◌, ℕ, zero, suc, Bool, true, false, List, Some, None, refl, sym, ◌∙◌, ap, subst, arith, nat_le, nat_eq}
use Rattle.rm_base.specs.declared.limits.TheConstants.{MAX_TRX_ID}
use Rattle.page_image.specs.Image.{Image}
use Rattle.page_image.specs.declared.kind.Kind.TheVariants as kind
use Rattle.page_view.specs.declared.leaf.LeafItem.{LeafItem}
use Rattle.commit_stamps.specs.Stamping.{stamp_page, stamp_in, stamp_of, visible}
use Rattle.undo_versions.specs.Walking.{is_page, replaced}
use Rattle.version_store.specs.Versions.{is_own}
use Rattle.question_tree.specs.Questions.{Ask, asks, after, then_on}
use Rattle.range_reader.specs.declared.fetch.Fetch.{Fetch}
use Rattle.range_reader.specs.declared.fetch.Fetch.TheVariants as fetch
use Rattle.range_reader.specs.declared.fetch.Snapshot.{Snapshot}
use Rattle.range_reader.specs.declared.versions.Looked.{Looked}
use Rattle.range_reader.specs.declared.versions.Looked.TheVariants.{Seen, Asking}
use Rattle.range_reader.specs.declared.versions.Stage.{Stage}
use Rattle.range_reader.specs.declared.versions.Stage.TheVariants as stage
use Rattle.range_reader.specs.declared.versions.Version.{Version}
use Rattle.range_reader.specs.Finding.{Finding, Asked, Fits, look, look_by, has_stamp, stamp_by, stamp_asked, judged, judged_by, older_by, back_to}
use Rattle.range_reader.specs.Machine.{version_at, version_of, looked_of, is_older, page_if}

-- ---- the page of a stamp

pub stamp_some : (t : ℕ) → has_stamp t ≡ true → 1 ≤ t
stamp_some t e = grind (arith, e)

pub stamp_most : (t : ℕ) → has_stamp t ≡ true → t ≤ MAX_TRX_ID
stamp_most t e = grind (arith, e)

le_true : (t : ℕ) → 1 ≤ t → nat_le 1 t ≡ true
le_true t h = grind (arith, h)

eq_true : (a b : ℕ) → a ≡ b → nat_eq a b ≡ true
eq_true a b h = grind (arith, h)

pub stamp_there : (im : Image) (t : ℕ) → im.kind ≡ kind.Stamps → im.page ≡ stamp_page t → has_stamp t ≡ true → stamp_of im t ≡ Some (stamp_in im t)
stamp_there im t k n h = rw (le_true t (stamp_some t h), k, eq_true im.page (stamp_page t) n) refl

-- ---- beginnings

pub begins_stopped : (s : Snapshot) (item : LeafItem) (n : ℕ) (v : Version) → n ≡ 0 → v.stage ≡ stage.Stopped → looked_of s (Asking v) ≡ look n s item
unfolding looked_of version_of look
begins_stopped s item n v z e = ap (λ (t : Stage). version_at t s v) e ∙ sym (ap (λ (m : ℕ). look m s item) z)

begun : (n : ℕ) (s : Snapshot) (item : LeafItem) → n ≢ 0 → look n s item ≡ look_by (is_own s.own item.trx) (look (n - 1) s) s item
unfolding look
begun zero s item h = absurd (h refl)
begun (suc n) s item h =
    let less : n ≡ suc n - 1 = omega arith in
    ap (λ (m : ℕ). look_by (is_own s.own item.trx) (look m s) s item) less

pub begins_own : (s : Snapshot) (item : LeafItem) (n : ℕ) → n ≢ 0 → is_own s.own item.trx ≡ true → looked_of s (Seen (Some item)) ≡ look n s item
unfolding looked_of
begins_own s item n h e = sym (begun n s item h ∙ ap (λ (b : Bool). look_by b (look (n - 1) s) s item) e)

pub begins_stamp : (s : Snapshot) (item : LeafItem) (n : ℕ) (v : Version) → n ≢ 0 → is_own s.own item.trx ≡ false
    → v.item ≡ item → v.left ≡ n - 1 → v.stage ≡ stage.Stamp → looked_of s (Asking v) ≡ look n s item
unfolding looked_of version_of
begins_stamp s item n v h e i l t =
    ap (λ (t : Stage). version_at t s v) t
    ∙ (ap (λ (x : LeafItem). stamp_asked (look v.left s) s x) i
    ∙ (ap (λ (m : ℕ). stamp_asked (look m s) s item) l
    ∙ sym (begun n s item h ∙ ap (λ (b : Bool). look_by b (look (n - 1) s) s item) e)))

-- ---- the page of the stamp

-- a version that waits for it
at_stamp : (s : Snapshot) (v : Version) → v.stage ≡ stage.Stamp → version_of s v ≡ stamp_by (has_stamp v.item.trx) (look v.left s) s v.item
unfolding version_of
at_stamp s v e = ap (λ (t : Stage). version_at t s v) e

stamp_asks : (b : Bool) (k : LeafItem → Finding) (s : Snapshot) (item : LeafItem) (im : Image) → Asked (stamp_by b k s item) im
    → (b ≡ true) × Fits (fetch.Stamps (stamp_page item.trx)) im × (after (stamp_by b k s item) im ≡ judged k s item im)
stamp_asks true k s item im h = (refl, h, refl)
stamp_asks false k s item im h = absurd h

stamp_now : (s : Snapshot) (v : Version) (im : Image) → v.stage ≡ stage.Stamp → Asked (version_of s v) im
    → (has_stamp v.item.trx ≡ true) × Fits (fetch.Stamps (stamp_page v.item.trx)) im × (after (version_of s v) im ≡ judged (look v.left s) s v.item im)
stamp_now s v im e h =
    let here : Finding → Type 0 = λ m. Asked m im in
    let r = stamp_asks (has_stamp v.item.trx) (look v.left s) s v.item im (subst here (at_stamp s v e) h) in
    (r.0, r.1, ap (λ (m : Finding). after m im) (at_stamp s v e) ∙ r.2)

pub stamp_kind : (s : Snapshot) (v : Version) (im : Image) → v.stage ≡ stage.Stamp → Asked (version_of s v) im → im.kind ≡ kind.Stamps
stamp_kind s v im e h = (stamp_now s v im e h).1.1

pub stamp_number : (s : Snapshot) (v : Version) (im : Image) → v.stage ≡ stage.Stamp → Asked (version_of s v) im → im.page ≡ stamp_page v.item.trx
stamp_number s v im e h = (stamp_now s v im e h).1.0

pub stamp_can_be : (s : Snapshot) (v : Version) (im : Image) → v.stage ≡ stage.Stamp → Asked (version_of s v) im → has_stamp v.item.trx ≡ true
stamp_can_be s v im e h = (stamp_now s v im e h).0

pub judged_seen : (s : Snapshot) (v : Version) (im : Image) → v.stage ≡ stage.Stamp → Asked (version_of s v) im
    → visible (stamp_in im v.item.trx) s.stamp ≡ true → looked_of s (Seen (Some v.item)) ≡ after (version_of s v) im
unfolding looked_of
judged_seen s v im e h see = sym ((stamp_now s v im e h).2 ∙ ap (λ (b : Bool). judged_by b (look v.left s) v.item) see)

judged_on : (s : Snapshot) (v : Version) (im : Image) (b : Bool) → v.stage ≡ stage.Stamp → Asked (version_of s v) im
    → visible (stamp_in im v.item.trx) s.stamp ≡ false → is_page v.item.older.page ≡ b → after (version_of s v) im ≡ older_by b (look v.left s) v.item
judged_on s v im b e h see page =
    (stamp_now s v im e h).2 ∙ (ap (λ (c : Bool). judged_by c (look v.left s) v.item) see
    ∙ ap (λ (c : Bool). older_by c (look v.left s) v.item) page)

page_none : (b : Bool) (page : ℕ) → None ≡ page_if b page → b ≡ false
page_none true page e = absurd (apart e)
  where
    apart : None ≡ Some page → ⊥
    apart q = cc
page_none false page e = refl

page_some : (b : Bool) (page p : ℕ) → Some p ≡ page_if b page → (b ≡ true) × (p ≡ page)
page_some true page p e = (refl, same e)
  where
    same : Some p ≡ Some page → p ≡ page
    same q = cc
page_some false page p e = absurd (apart e)
  where
    apart : Some p ≡ None → ⊥
    apart q = cc

pub judged_end : (s : Snapshot) (v : Version) (im : Image) → v.stage ≡ stage.Stamp → Asked (version_of s v) im
    → visible (stamp_in im v.item.trx) s.stamp ≡ false → None ≡ page_if (is_page v.item.older.page) v.item.older.page
    → looked_of s (Seen None) ≡ after (version_of s v) im
unfolding looked_of
judged_end s v im e h see page = sym (judged_on s v im false e h see (page_none _ _ page))

pub judged_older : (s : Snapshot) (v w : Version) (im : Image) (p : ℕ) → v.stage ≡ stage.Stamp → Asked (version_of s v) im
    → visible (stamp_in im v.item.trx) s.stamp ≡ false → Some p ≡ page_if (is_page v.item.older.page) v.item.older.page
    → w.item ≡ v.item → w.left ≡ v.left → w.stage ≡ stage.Older p → looked_of s (Asking w) ≡ after (version_of s v) im
unfolding looked_of version_of
judged_older s v w im p e h see page i l t =
    let named = page_some (is_page v.item.older.page) v.item.older.page p page in
    ap (λ (t : Stage). version_at t s w) t
    ∙ (ap (λ (x : LeafItem). asks (fetch.Undo p) (λ im. back_to (look w.left s) (replaced im x.older))) i
    ∙ (ap (λ (m : ℕ). asks (fetch.Undo p) (λ im. back_to (look m s) (replaced im v.item.older))) l
    ∙ (ap (λ (q : ℕ). asks (fetch.Undo q) (λ im. back_to (look v.left s) (replaced im v.item.older))) named.1
    ∙ sym (judged_on s v im true e h see named.0))))

-- ---- the page with the version before

older_asks : (t : Stage) (s : Snapshot) (v : Version) (im : Image) → is_older t ≡ true → Asked (version_at t s v) im
    → after (version_at t s v) im ≡ back_to (look v.left s) (replaced im v.item.older)
older_asks stage.Stamp s v im o h = absurd (apart o)
  where
    apart : false ≡ true → ⊥
    apart q = cc
older_asks (stage.Older p) s v im o h = refl
older_asks stage.Stopped s v im o h = absurd h

older_now : (s : Snapshot) (v : Version) (im : Image) → is_older v.stage ≡ true → Asked (version_of s v) im
    → after (version_of s v) im ≡ back_to (look v.left s) (replaced im v.item.older)
unfolding version_of
older_now s v im o h = older_asks v.stage s v im o h

pub back_end : (s : Snapshot) (v : Version) (im : Image) → is_older v.stage ≡ true → Asked (version_of s v) im
    → None ≡ replaced im v.item.older → looked_of s (Seen None) ≡ after (version_of s v) im
unfolding looked_of
back_end s v im o h e = sym (older_now s v im o h ∙ ap (back_to (look v.left s)) (sym e))

pub back_old : (s : Snapshot) (v : Version) (im : Image) (old : LeafItem) (l : Looked) → is_older v.stage ≡ true → Asked (version_of s v) im
    → Some old ≡ replaced im v.item.older → looked_of s l ≡ look v.left s old → looked_of s l ≡ after (version_of s v) im
back_old s v im old l o h e begins = begins ∙ sym (older_now s v im o h ∙ ap (back_to (look v.left s)) (sym e))

-- ---- a version that asks, behind which more is asked

pub stopped_asks_nothing : (s : Snapshot) (v : Version) (im : Image) → v.stage ≡ stage.Stopped → Asked (version_of s v) im → ⊥
unfolding version_of
stopped_asks_nothing s v im e h =
    let here : Stage → Type 0 = λ t. Asked (version_at t s v) im in
    subst here e h

stamp_on : {A : Type 0} (b : Bool) (k : LeafItem → Finding) (s : Snapshot) (item : LeafItem) (im : Image) (n : List LeafItem → Ask Fetch Image A)
    → Asked (then_on (stamp_by b k s item) n) im
    → Asked (stamp_by b k s item) im × (after (then_on (stamp_by b k s item) n) im ≡ then_on (after (stamp_by b k s item) im) n)
stamp_on true k s item im n h = (h, refl)
stamp_on false k s item im n h = absurd h

pub version_on : {A : Type 0} (s : Snapshot) (v : Version) (im : Image) (n : List LeafItem → Ask Fetch Image A)
    → Asked (then_on (version_of s v) n) im
    → Asked (version_of s v) im × (after (then_on (version_of s v) n) im ≡ then_on (after (version_of s v) im) n)
unfolding version_of
version_on {A} s v im n h = go v.stage h
  where
    go : (t : Stage) → Asked (then_on (version_at t s v) n) im
        → Asked (version_at t s v) im × (after (then_on (version_at t s v) n) im ≡ then_on (after (version_at t s v) im) n)
    go stage.Stamp h = stamp_on (has_stamp v.item.trx) (look v.left s) s v.item im n h
    go (stage.Older p) h = (h, refl)
    go stage.Stopped h = absurd h
