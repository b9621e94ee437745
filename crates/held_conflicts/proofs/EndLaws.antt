-- A test of keys ends over pages that hold a store.
use Rattle.std.proofs.Common.{◌≡◌, ◌<◌, ◌≤◌, ◌&&◌, ℕ, zero, suc, Bool, true, false, not, nat_eq, List, [], ◌∷◌, length, Option, Some, None, ◌⊎◌, inl, inr, refl, sym, ◌∙◌, ap, subst, arith}
use Rattle.std.proofs.lemmas.Bool.{cases_lt}
use Rattle.rm_base.specs.declared.limits.TheConstants.{MAX_TRX_ID}
use Rattle.page_image.specs.Image.{Image}
use Rattle.page_image.specs.declared.kind.Kind.{Kind}
use Rattle.page_image.specs.declared.kind.Kind.TheVariants as kind
use Rattle.page_view.specs.declared.leaf.LeafItem.{LeafItem}
use Rattle.bplus_tree.specs.Walk.{Answers}
use Rattle.bplus_tree.proofs.Descending.{Steps}
use Rattle.commit_stamps.specs.Stamping.{IsStampPage, stamp_in, stamp_page, visible}
use Rattle.version_store.specs.Held.{Held, none_of}
use Rattle.version_store.specs.Stores.{Store}
use Rattle.version_store.specs.Versions.{Version, is_own}
use Rattle.question_tree.specs.Questions.{Ask, tells, asks, stops, then_on, Gives}
use Rattle.range_reader.specs.declared.fetch.Fetch.{Fetch}
use Rattle.range_reader.specs.declared.fetch.Fetch.TheVariants as fetch
use Rattle.range_reader.specs.declared.fetch.Snapshot.{Snapshot}
use Rattle.range_reader.specs.Finding.{Fits, has_stamp}
use Rattle.range_reader.specs.Walked.{child_in}
use Rattle.range_reader.proofs.StepLaws.{leads_in}
use Rattle.held_versions.specs.Counting.{HasStamps}
use Rattle.key_conflicts.specs.declared.verdict.Met.{Met}
use Rattle.key_conflicts.specs.declared.verdict.Tested.{Tested}
use Rattle.key_conflicts.specs.Testing.{Key, down, down_by, item_of, met, stamp_by, look_by, look_at, look_in, test_key, test_from, test_keys, with_key, nothing_known}
use Rattle.held_conflicts.specs.Ending.{EndsWith, TestsEnd}
use Rattle.held_conflicts.specs.Verdicts.{Stand}
use Rattle.held_conflicts.proofs.LeafLaws.{Sought, sought}
use Rattle.held_conflicts.proofs.MeetingLaws.{IsNewest}
use Rattle.held_conflicts.proofs.VerdictLaws.{RowsOf, rows_of_root, tests_tell_verdicts}

-- ---- works that end

ends_on : {A B : Type 0} (pages : ℕ → Image) (m : Ask Fetch Image A) (f : A → Ask Fetch Image B) (a : A) (b : B)
    → EndsWith pages m a → EndsWith pages (f a) b → EndsWith pages (then_on m f) b
ends_on {A} pages (tells c) f a b h g = subst (λ (x : A). EndsWith pages (f x) b) (sym h) g
ends_on pages (asks q k) f a b h g = (h.0, ends_on pages (k (pages _)) f a b h.1 g)
ends_on pages stops f a b h g = absurd h

-- what is given then are pages as they stand
record Given {A : Type 0} (pages : ℕ → Image) (m : Ask Fetch Image A) (a : A) : Type 0 where
  uses : List Image
  stand : Stand pages uses
  gives : Gives Fits m uses a

given : {A : Type 0} (pages : ℕ → Image) (m : Ask Fetch Image A) (a : A) → EndsWith pages m a → Given pages m a
given pages (tells b) a h = record { uses = []; stand = tt; gives = h }
given pages (asks q k) a h =
    let rest = given pages (k (pages _)) a h.1 in
    record { uses = pages _ ∷ rest.uses; stand = (ap pages (sym h.0.0), rest.stand); gives = (h.0, rest.gives) }
given pages stops a h = absurd h

-- ---- the way down

down_leaf : (n : ℕ) (key : Key) (im : Image) → im.kind ≡ kind.Leaf → down n key im ≡ tells im
unfolding down
down_leaf zero key im e = ap (λ (k : Kind). down_by k im stops) e
down_leaf (suc n) key im e = ap (λ (k : Kind). down_by k im (asks (fetch.Child (child_in im key)) (down n key))) e

down_inner : (n : ℕ) (key : Key) (im : Image) (child : ℕ) → im.kind ≡ kind.Inner → child_in im key ≡ child
    → down (suc n) key im ≡ asks (fetch.Child child) (down n key)
unfolding down
down_inner n key im child e c =
    ap (λ (k : Kind). down_by k im (asks (fetch.Child (child_in im key)) (down n key))) e
    ∙ ap (λ (p : ℕ). asks (fetch.Child p) (down n key)) c

here_answers : (pages : ℕ → Image) (page : ℕ) (key : Key) (way : List ℕ) (leaf : ℕ) → Steps pages page key way leaf → Answers pages page
here_answers pages page key [] leaf s = s.2
here_answers pages page key (p ∷ way) leaf s = s.2

down_ends : (pages : ℕ → Image) (n page : ℕ) (key : Key) (way : List ℕ) (leaf : ℕ) → Steps pages page key way leaf → length way ≤ n
    → EndsWith pages (down n key (pages page)) (pages leaf)
down_ends pages n page key [] leaf s l =
    subst (λ (m : Ask Fetch Image Image). EndsWith pages m (pages leaf)) (sym (down_leaf n key (pages page) s.1)) (ap pages s.0)
down_ends pages zero page key (p ∷ way) leaf s l = absurd (omega (arith, l))
down_ends pages (suc n) page key (p ∷ way) leaf s l =
    let answers = here_answers pages s.3 key way leaf s.5 in
    subst (λ (m : Ask Fetch Image Image). EndsWith pages m (pages leaf))
    (sym (down_inner n key (pages page) s.3 s.1 (sym (leads_in (pages page) key s.3 s.4))))
    ((answers.1, answers.0), down_ends pages n s.3 key way leaf s.5 (omega (arith, l)))

-- ---- the newest version

abbrev Ends : (ℕ → Image) → Ask Fetch Image Met → Type 0
Ends pages m = (a : Met) × EndsWith pages m a

has_number : (t : ℕ) → 1 ≤ t → t ≤ MAX_TRX_ID → has_stamp t ≡ true
has_number t some most = grind (arith, some, most)

stamp_ends : (pages : ℕ → Image) (s : Snapshot) (trx : ℕ) (there : Bool) (b : Bool) → b ≡ true → IsStampPage (pages (stamp_page trx)) trx
    → Ends pages (stamp_by b s trx there)
stamp_ends pages s trx there true e page = (met (not (visible (stamp_in (pages (stamp_page trx)) trx) s.stamp)) there, ((page.number, page.kind), refl))
stamp_ends pages s trx there false e page = let apart : false ≡ true = e in absurd cc

look_ends : (pages : ℕ → Image) (s : Snapshot) (trx : ℕ) (there : Bool) (own : Bool) → has_stamp trx ≡ true → IsStampPage (pages (stamp_page trx)) trx
    → Ends pages (look_by own s trx there)
look_ends pages s trx there true e page = (met false there, refl)
look_ends pages s trx there false e page = stamp_ends pages s trx there (has_stamp trx) e page

-- its number was given out
given_out : (S : Store) → Held S → (root : ℕ) (key : Key) (v : Version) (vs : List Version) → S.rows root key ≡ v ∷ vs → v.trx < S.next
given_out S h root key v vs e = go (cases_lt v.trx S.next)
  where
    itself : (t : ℕ) → nat_eq t t ≡ true
    itself t = grind arith

    go : (v.trx < S.next) ⊎ (S.next ≤ v.trx) → v.trx < S.next
    go (inl l) = l
    go (inr l) =
        let none : none_of v.trx (v ∷ vs) ≡ true = ap (none_of v.trx) (sym e) ∙ h.unused v.trx root key l in
        let first : (not (nat_eq v.trx v.trx) && none_of v.trx vs) ≡ false = ap (λ (b : Bool). not b && none_of v.trx vs) (itself v.trx) in
        let apart : false ≡ true = sym first ∙ none in
        absurd cc

version_ends : (Says : LeafItem → Version → Type 0) (pages : ℕ → Image) (S : Store) → HasStamps pages S → Held S
    → (root : ℕ) (key : Key) (s : Snapshot) (o : Option LeafItem) → IsNewest Says pages o (S.rows root key) → Ends pages (look_at s o)
version_ends Says pages S stamps held root key s None h = (met false false, refl)
version_ends Says pages S stamps held root key s (Some item) h =
    let out : h.version.trx < S.next = given_out S held root key h.version h.older h.are in
    let number : item.trx < S.next = subst (λ (t : ℕ). t < S.next) h.has.trx out in
    look_ends pages s item.trx (not item.deleted) (is_own s.own item.trx) (has_number item.trx h.has.some h.has.most)
    (stamps.made item.trx h.has.some number)

-- ---- keys

key_ends : (pages : ℕ → Image) (S : Store) → HasStamps pages S → Held S → (root : ℕ) (items : List Key) → RowsOf pages S root items
    → (s : Snapshot) (key : Key) → Ends pages (test_key s root key)
key_ends pages S stamps held root items rows s key =
    let f : Sought pages root items key = sought pages root items rows.tree key in
    let look : Ends pages (look_at s (item_of key (pages f.leaf).items)) =
    version_ends rows.Says pages S stamps held root key s (item_of key (pages f.leaf).items)
    (subst (λ (o : Option LeafItem). IsNewest rows.Says pages o (S.rows root key)) (sym f.has) (rows.newest key)) in
    let answers = here_answers pages root key f.way f.leaf f.steps in (
      look.0,
      (
        (answers.1, answers.0),
        ends_on pages (down 8 key (pages root)) (look_in s key) (pages f.leaf) look.0 (down_ends pages 8 root key f.way f.leaf f.steps f.short) look.1,
      ),
    )

keys_end : (pages : ℕ → Image) (s : Snapshot) (root : ℕ) → ((key : Key) → Ends pages (test_key s root key))
    → (t : Tested) (keys : List Key) → (a : Tested) × EndsWith pages (test_from s root t keys) a
unfolding test_from
keys_end pages s root each t [] = (t, refl)
keys_end pages s root each t (key ∷ keys) =
    let here = each key in
    let rest = keys_end pages s root each (with_key t key here.0) keys in
    (rest.0, ends_on pages (test_key s root key) (λ m. test_from s root (with_key t key m) keys) here.0 rest.0 here.1 rest.1)

pub tests_end : TestsEnd
unfolding test_keys
tests_end items pages S h held root at s keys =
    let rows : RowsOf pages S root (items root) = rows_of_root items pages S h root at in
    let end = keys_end pages s root (key_ends pages S h.stamps held root (items root) rows s) nothing_known keys in
    let g : Given pages (test_keys s root keys) end.0 = given pages (test_keys s root keys) end.0 end.1 in
    (end.0, end.1, tests_tell_verdicts items pages S h root at s keys g.uses end.0 g.stand g.gives)
