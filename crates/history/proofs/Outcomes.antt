-- What the invariant says of the log and of readers.
use Rattle.std.proofs.Common.{◌≡◌, ℕ, ◌≤◌, Bool, true, false, Option, Some, None, Ok, List, [], ◌∷◌, if◌then◌else◌, arith, inl, refl, sym, subst, ap, ◌∙◌, ◌⊎◌, inr, ◌<◌}
use Rattle.std.specs.Str.{bytes_eq}
use Rattle.std.proofs.Math.Path.{fun_ext}
use Rattle.table_machine.specs.Machine as machine
use Rattle.history.proofs.ContentLaws.{alike}
use Rattle.history.proofs.Happening.{story}
use Rattle.history.proofs.Verdicts.{same_judged}
use Rattle.history.proofs.Views.{content_is, hits_conflict, now_sound, number_is, reads_view}
use Rattle.history.specs.Clusters.{now, own, reads, is_taken, evaluated_by, start, Cluster}
use Rattle.history.specs.Databases.{StandsFor}
use Rattle.history.specs.Invariant.{line, Judged, Refines}
use Rattle.history.specs.Languages.{KeepsCatalogName}
use Rattle.sql_database.specs.Rules.{AnswerRules}
use Rattle.history.specs.Machines.{IsFair}
use Rattle.history.proofs.AnswerLaws.{content_fits}
use Rattle.history.proofs.FairSteps.{run_fair}
use Rattle.history.proofs.LogOrder.{forget_keeps, in_order}
use Rattle.history.specs.Laws.{AnswersStay, EventsMakeHistory, RunsAreFair, VerdictsStand, AllStamped, late_content, AreLookedUp, SlowReadersAgree, BootsFrom, StandsForCommits}
use Rattle.history.specs.Timelines.{content_at}
use Rattle.sql_database.specs.Database.{Database, SameContent}
use Rattle.sql_database.specs.Rules.{OneAnswer, AnswersByContent}
use Rattle.table_machine.specs.Language.{Language}
use Rattle.table_machine.specs.Machine.{committed, last, is_open, Transaction, view, Machine}
use Rattle.version_store.proofs.NameLaws.{chain_some, chain_word}
use Rattle.version_store.proofs.Places.{bytes_same, bytes_self}
use Rattle.version_store.proofs.Versions.{seen_later}
use Rattle.version_store.specs.Contents.{Content, catalog_name, at_root, newest_root, chain_of}
use Rattle.version_store.specs.Held.{IsOwned}
use Rattle.version_store.specs.Rooted.{IsLone}
use Rattle.version_store.specs.Stores.{catalog, Store}
use Rattle.version_store.specs.Versions.{Row, visible, seen, seen_root, Version}
use Rattle.history.proofs.TimelineLaws.{le_or_less}
use Rattle.table_machine.specs.Laws.{KeepsCommits}
use Rattle.table_machine.proofs.CommitLaws.{stay}
use Rattle.sql_database.specs.Applied.{applied}
use Rattle.sql_database.specs.Answers.{Answer}
use Rattle.sql_statements.specs.declared.statements.Stmt.{Stmt}

pub start_fair : (was : Content) (nodes first : ℕ) (base : Database) → StandsFor was base
    → IsFair was (machine.start nodes base first)
start_fair was nodes first base b = record {
  base_is = b;
  low = omega arith;
  high = omega arith;
  snaps = λ s t e. absurd (grind arith);
  outside = λ s l. (refl, refl);
  alone = λ s u a k p q. absurd (grind arith);
  late = λ s t a k e p. absurd (grind arith);
  line = λ n l h. absurd (omega (arith, l, h));
  own = λ s t e. absurd (grind arith);
  writes = λ s ne. absurd (ne refl);
  proper = λ s a st e r. absurd (grind arith);
}

pub start_good : {language : Language} → (was : Content) (nodes first : ℕ) (base : Database) (S : Store)
    → BootsFrom was base first S → Refines language was (start nodes base first S)
start_good {language} was nodes first base S b = record {
  fair = start_fair was nodes first base b.base_is;
  order = omega arith;
  single = λ j l. absurd (omega (arith, l));
  begun_at = b.last;
  sound = λ j y. b.sound;
  rises = λ i j y z. omega arith;
  later = λ i j t y z. inl refl;
  lasts = λ i j y z a v e n. e;
  below = let l = b.last in omega (arith, l);
  kept = let l = b.last in omega (arith, l);
  is_open = λ x. (refl, (let l = b.last in omega (arith, l)));
  closed = λ n. absurd (n refl);
  clear = λ s u t a k ne sl p. absurd (grind arith);
  each = λ s. record {
    holds = λ t q e. let z = b.free s in
        absurd (grind arith);
    none = λ q. refl;
    gone = λ q. refl;
    pend = refl;
    names = λ a p. absurd (grind arith);
    judged = λ j. absurd (grind arith);
  };
}

stamped_all : (vs : List Version) (slot : ℕ → Option ℕ) (stamp : ℕ → ℕ) → ((u : ℕ) → slot u ≡ None)
    → IsOwned slot stamp vs → AllStamped stamp vs
stamped_all [] slot stamp n o = tt
stamped_all (v ∷ vs) slot stamp n o = (
  (λ z. let h = o.0 z in let h1 = h.1 in let n1 = n h.0 in absurd (grind arith)),
  stamped_all vs slot stamp n o.1,
)

pub numbers : {language : Language} → (was : Content) (c : Cluster) (j i : ℕ) → Refines language was c → j ≤ c.lsn
    → c.machine.first ≤ i → i ≤ (c.at j).last → StandsFor (content_at (line was c) i) (committed c.machine i)
numbers {language} was c j i g b f l = let r = g.rises j c.lsn b (omega arith) in let u = g.below in
    number_is was c.machine g.fair i f (omega (arith, l, r, u))

pub durable : {language : Language} → (was : Content) (c : Cluster) → Refines language was c → StandsForCommits c
durable {language} was c g = record {
  published = g.kept;
  contents = λ j i b f l. subst (λ x. StandsFor x (committed c.machine i))
      (sym (content_is (c.at j) i None (content_at (line was c) i) (committed c.machine i) (g.sound j b).rooted.lone
      (λ n k. (g.sound j b).read i f l n k) (numbers was c j i g b f l))) (numbers was c j i g b f l);
  queue = λ j a b. let r = g.rises j c.lsn b (omega arith) in let l = g.below in omega (arith, r, l);
  whole = λ o. (g.is_open o).1;
}

-- a stamp that is looked up later counts where it counted before
pub looked : {language : Language} → (was : Content) (c : Cluster) (i n : ℕ) (given : ℕ → ℕ) (vs : List Version)
    → Refines language was c → n ≤ (c.at i).last → AreLookedUp c i given
    → seen vs given n None ≡ seen vs (c.at i).stamp n None
looked {language} was c i n given vs g l h =
    seen_later vs (c.at i).stamp given n (c.at i).last l (λ t. let x = h t in rw x.3 (g.later i x.0 t x.1 x.2))

pub one_row : (S : Store) (stamp : ℕ → ℕ) (n : ℕ) (a : List ℕ) (row : Row) → IsLone (S.rows catalog a)
    → seen (S.rows catalog a) stamp n None ≡ Some row
    → (v : Version) × (S.rows catalog a ≡ v ∷ []) × (v.row ≡ Some row) × (stamp v.trx ≡ 0 → ⊥)
one_row S stamp n a row l h = by_row (S.rows catalog a) l refl h
  where
    by_row : (vs : List Version) → IsLone vs → S.rows catalog a ≡ vs → seen vs stamp n None ≡ Some row
        → (v : Version) × (S.rows catalog a ≡ v ∷ []) × (v.row ≡ Some row) × (stamp v.trx ≡ 0 → ⊥)
    by_row [] l e h = absurd (grind arith)
    by_row (v ∷ []) l e h = by_test (visible (stamp v.trx) n) refl h
      where
        by_test : (b : Bool) → visible (stamp v.trx) n ≡ b → (if b then v.row else None) ≡ Some row
            → (v : Version) × (S.rows catalog a ≡ v ∷ []) × (v.row ≡ Some row) × (stamp v.trx ≡ 0 → ⊥)
        by_test true q h = (v, e, h, λ z. grind arith)
        by_test false q h = absurd (grind arith)
    by_row (v ∷ (w ∷ vs)) l e h = absurd l

-- the root that is seen in one state is the name's root in another
pub root_there : {language : Language} → (was : Content) (c : Cluster) (i j n : ℕ) (a : List ℕ) (row : Row)
    → Refines language was c → i ≤ c.lsn → j ≤ c.lsn → c.machine.first ≤ n → n ≤ (c.at i).last → n ≤ (c.at j).last
    → content_at (line was c) n catalog_name a ≡ Some row
    → (v : Version) × ((c.at i).rows catalog a ≡ v ∷ []) × ((c.at j).rows catalog a ≡ v ∷ [])
root_there {language} was c i j n a row g li lj f l m h = by_order (le_or_less i j)
  where
    at : (i : ℕ) → i ≤ c.lsn → n ≤ (c.at i).last
        → (v : Version) × ((c.at i).rows catalog a ≡ v ∷ []) × (v.row ≡ Some row) × ((c.at i).stamp v.trx ≡ 0 → ⊥)
    at i e l = one_row (c.at i) (c.at i).stamp n a row ((g.sound i e).rooted.lone a)
        (ap (λ vs. seen vs (c.at i).stamp n None)
        (sym (chain_word (c.at i) catalog_name a (bytes_self catalog_name)))
        ∙ (g.sound i e).read n f l catalog_name a ∙ h)

    by_order : (i ≤ j) ⊎ (j < i)
        → (v : Version) × ((c.at i).rows catalog a ≡ v ∷ []) × ((c.at j).rows catalog a ≡ v ∷ [])
    by_order (inl e) = let x = at i li l in (x.0, x.1, g.lasts i j e lj a x.0 x.1 x.3)
    by_order (inr e) = let x = at j lj m in (x.0, g.lasts j i (omega (arith, e)) li a x.0 x.1 x.3, x.1)

pub slow : {language : Language} → (was : Content) (c : Cluster) → Refines language was c → SlowReadersAgree c
slow {language} was c g i j n given more li lj f l m gi gj =
    subst (λ x. StandsFor x (committed c.machine n)) (sym (fun_ext (λ a. fun_ext (λ k. place a k)))) is
  where
    is : StandsFor (content_at (line was c) n) (committed c.machine n)
    is = numbers was c i n g li f l

    row_of : (a : List ℕ) → seen ((c.at i).rows catalog a) given n None ≡ content_at (line was c) n catalog_name a
    row_of a = looked was c i n given ((c.at i).rows catalog a) g l gi
        ∙ ap (λ vs. seen vs (c.at i).stamp n None)
        (sym (chain_word (c.at i) catalog_name a (bytes_self catalog_name)))
        ∙ (g.sound i li).read n f l catalog_name a

    gone : (a k : List ℕ) → bytes_eq a catalog_name ≡ false → content_at (line was c) n catalog_name a ≡ None
        → (o : Option ℕ) → o ≡ None → seen (at_root (c.at j).rows o k) more n None ≡ content_at (line was c) n a k
    gone a k nw e o q = ap (λ x. seen (at_root (c.at j).rows x k) more n None) q ∙ sym (is.none a k nw e)

    by_row : (a k : List ℕ) → bytes_eq a catalog_name ≡ false → (o : Option Row)
        → content_at (line was c) n catalog_name a ≡ o
        → seen (at_root (c.at j).rows (seen_root ((c.at i).rows catalog a) given n None) k) more n None ≡ content_at
        (line was c) n a k
    by_row a k nw None e =
        gone a k nw e (seen_root ((c.at i).rows catalog a) given n None)
        (unseen ((c.at i).rows catalog a) ((g.sound i li).rooted.lone a) (row_of a ∙ e))
      where
        unseen : (vs : List Version) → IsLone vs → seen vs given n None ≡ None → seen_root vs given n None ≡ None
        unseen [] o h = refl
        unseen (v ∷ []) o h = by_test (visible (given v.trx) n) h
          where
            by_test : (b : Bool) → (if b then v.row else None) ≡ None → (if b then Some v.root else None) ≡ None
            by_test true h = let y : v.row ≡ Some o.0 = o.1 in let z : Some o.0 ≡ None = sym y ∙ h in
                absurd (grind arith)
            by_test false h = refl
        unseen (v ∷ (w ∷ vs)) o h = absurd o
    by_row a k nw (Some row) e =
        let x = root_there was c i j n a row g li lj f l m e in
        let root : seen_root ((c.at i).rows catalog a) given n None ≡ Some (Version.root x.0) = ap
        (λ vs. seen_root vs given n None) x.1
        ∙ shown x.0 (ap (λ vs. seen vs given n None) (sym x.1) ∙ row_of a ∙ e) in
        ap (λ o. seen (at_root (c.at j).rows o k) more n None) root
        ∙ ap (λ vs. seen vs more n None)
        (sym (chain_some (c.at j) a k (Version.root x.0) nw (ap newest_root x.2)))
        ∙ looked was c j n more (chain_of (c.at j) a k) g m gj ∙ (g.sound j lj).read n f m a k
      where
        shown : (v : Version) → seen (v ∷ []) given n None ≡ Some row
            → seen_root (v ∷ []) given n None ≡ Some v.root
        shown v h = by_test (visible (given v.trx) n) h
          where
            by_test : (b : Bool) → (if b then v.row else None) ≡ Some row
                → (if b then Some v.root else None) ≡ Some v.root
            by_test true h = refl
            by_test false h = absurd (grind arith)

    place : (a k : List ℕ) → late_content (c.at i) (c.at j) given more n a k ≡ content_at (line was c) n a k
    place a k = by_name (bytes_eq a catalog_name) refl
      where
        by_name : (b : Bool) → bytes_eq a catalog_name ≡ b
            → (if b then seen ((c.at i).rows catalog k) given n None else seen
            (at_root (c.at j).rows (seen_root ((c.at i).rows catalog a) given n None) k) more n None) ≡ content_at
            (line was c) n a k
        by_name true w = row_of k ∙ ap (λ x. content_at (line was c) n x k) (sym (bytes_same a catalog_name w))
        by_name false nw = by_row a k nw (content_at (line was c) n catalog_name a) refl

pub judges : {language : Language} → AnswersByContent language.answers → OneAnswer language.answers
    → (was : Content) (c : Cluster) → Refines language was c → VerdictsStand language c
judges {language} respects one was c g s t st d a job tr rd is an =
    let j : Judged language (now c) s (c.work s) (c.machine.sessions s) = (g.each s).judged job in
    let tt2 : Some j.transaction ≡ Some t = sym j.has ∙ tr in
    let same_t : j.transaction ≡ t = grind arith in
    let ss2 : Some (Ok j.statement) ≡ Some (Ok st) = sym j.asks ∙ rd in
    let same_s : j.statement ≡ st = grind arith in
    let is2 : StandsFor (reads c s t.snap) j.database = subst
    (λ x. StandsFor (reads c s x.snap) j.database) same_t j.reading in
    let al : SameContent j.database d = alike (reads c s t.snap) j.database d is2 is in
    let an2 : language.answers d st j.answer = subst (λ x. language.answers d x j.answer) same_s
    (respects j.database d j.statement j.answer al j.answers) in
    let ev : evaluated_by (is_taken (now c) j.transaction.snap (own c s)) j.database j.answer ≡ evaluated_by
    (is_taken (now c) t.snap (own c s)) d a =
    ap (λ x. evaluated_by (is_taken (now c) (Transaction.snap x) (own c s)) j.database j.answer) same_t
    ∙ (same_judged (is_taken (now c) t.snap (own c s)) j.database d al j.answer
    ∙ ap (evaluated_by (is_taken (now c) t.snap (own c s)) d) (one d st j.answer a an2 an)) in
    (j.todo ∙ ap (λ v. v.changes) ev, j.due ∙ ap (λ v. Some v.reply) ev)

-- ---- all of it, for every list of events

pub runs_are_fair : (language : Language) → AnswerRules language.answers → KeepsCatalogName language
    → RunsAreFair language
runs_are_fair language rules names was nodes first base journal m b h =
    run_fair language was names (content_fits rules) journal (machine.start nodes base first) m h
    (start_fair was nodes first base b)

pub answers_stay : (language : Language) → AnswerRules language.answers → AnswersStay language
answers_stay language rules old new journal t st a b h l p q =
    let k : KeepsCommits old new = stay language journal old new h in
    let same : view new t ≡ view old t = ap (λ d. applied d t.pending) (k.databases t.snap l) in
    rules.one (view old t) st b a (subst (λ d. language.answers d st b) same q) p

pub events_make_history : (language : Language) → AnswerRules language.answers → KeepsCatalogName language
    → EventsMakeHistory language
events_make_history language rules names was nodes first base S b events journal c h =
    let r = story language names rules.by_content (content_fits rules) was events
    (start nodes base first S) journal c h (start_good was nodes first base S b) in
    let g = r.1 in
    record {
      leads = r.0;
      refines = g;
      commits = durable was c g;
      in_order = in_order was c g;
      forget = forget_keeps was c g;
      views = λ s t e td. reads_view was c s t g e td;
      conflicts = λ s t h y tr there. hits_conflict was c s t h g y tr there;
      verdicts = judges rules.by_content rules.one was c g;
      at_rest = λ n q k. stamped_all ((now c).rows q k) (now c).slot (now c).stamp n
          ((now_sound was c g).held.owned q k);
      slow = slow was c g;
    }
