-- A content that is read is the one that the machine has.
use Rattle.std.proofs.Common.{◌≡◌, ℕ, ◌≤◌, ◌<◌, Bool, true, false, Option, Some, None, List, [], ◌∷◌, ◌++◌, if◌then◌else◌, nat_eq, nat_le, ◌||◌, arith, ◌⊎◌, inl, inr, eqb-true, refl, sym, subst, ap, ◌∙◌}
use Rattle.std.specs.Str.{bytes_eq}
use Rattle.std.proofs.Math.Path.{fun_ext}
use Rattle.history.proofs.ChangeLaws.{is_applied, is_committed}
use Rattle.history.proofs.ConflictLaws.{Clashes, clashes_conflict, conflict_clashes}
use Rattle.history.proofs.OwnLaws.{read_own}
use Rattle.history.proofs.SessionLaws.{pending_none, pending_some}
use Rattle.history.proofs.TimelineLaws.{latest_has, latest_high, latest_is}
use Rattle.history.specs.Clusters.{now, own_of, own, reads, in_the_way, is_taken, Work, Cluster}
use Rattle.history.specs.Databases.{StandsFor}
use Rattle.history.specs.Events.{IsReady}
use Rattle.history.specs.Invariant.{line, KeepsSession, Refines}
use Rattle.history.specs.Machines.{IsFair}
use Rattle.history.specs.Places.{says, is_said, over}
use Rattle.history.specs.Sound.{at_least, Own, Sound}
use Rattle.history.specs.Timelines.{timeline_of, content_at, latest, Timeline}
use Rattle.sql_database.specs.Database.{Database}
use Rattle.sql_database.specs.declared.changes.Change.{Change}
use Rattle.table_machine.specs.Conflicts.{is_conflict}
use Rattle.table_machine.specs.Language.{Language}
use Rattle.table_machine.specs.Machine.{committed, view, last, pending_of, Transaction, Session, Machine}
use Rattle.version_store.proofs.NameLaws.{chain_word}
use Rattle.version_store.proofs.Places.{bytes_self}
use Rattle.version_store.specs.Contents.{Content, catalog_name, at_root, found, content, newest_root, root_of, chain_of}
use Rattle.version_store.specs.Held.{IsLedBy, IsToppedBy, IsOwned, Held}
use Rattle.version_store.specs.Rooted.{IsLone, IsOpenBy, Rooted}
use Rattle.version_store.specs.Stores.{catalog, Store}
use Rattle.version_store.specs.Versions.{Row, is_own, visible, seen, seen_root, newest_stamp, Version}
use Rattle.history.proofs.PlaceLaws.{append_none}

-- ---- the root that is seen is the root

-- where the name's row is not seen nothing of its table is
pub content_chain : (S : Store) (n : ℕ) (own : Option ℕ) (a k : List ℕ) → ((b : List ℕ) → IsLone (S.rows catalog b))
    → (bytes_eq a catalog_name ≡ false → seen (S.rows catalog a) S.stamp n own ≡ None
    → seen (chain_of S a k) S.stamp n own ≡ None)
    → content S n own a k ≡ seen (chain_of S a k) S.stamp n own
content_chain S n own a k g h = by_name (bytes_eq a catalog_name) h
  where
    by_row : (vs : List Version) → IsLone vs
        → (seen vs S.stamp n own ≡ None → seen (at_root S.rows (newest_root vs) k) S.stamp n own ≡ None)
        → seen (at_root S.rows (seen_root vs S.stamp n own) k) S.stamp n own ≡ seen
        (at_root S.rows (newest_root vs) k) S.stamp n own
    by_row [] l f = refl
    by_row (v ∷ []) l f = by_test (is_own own v.trx || visible (S.stamp v.trx) n) f
      where
        by_test : (b : Bool) → ((if b then v.row else None) ≡ None → seen (S.rows v.root k) S.stamp n own ≡ None)
            → seen (at_root S.rows (if b then Some v.root else None) k) S.stamp n own ≡ seen
            (S.rows v.root k) S.stamp n own
        by_test true f = refl
        by_test false f = sym (f refl)
    by_row (v ∷ (w ∷ vs)) l f = absurd l

    by_name : (b : Bool)
        → (b ≡ false → seen (S.rows catalog a) S.stamp n own ≡ None
        → seen (if b then S.rows catalog k else at_root S.rows (root_of S a) k) S.stamp n own ≡ None)
        → seen (if b then S.rows catalog k else at_root S.rows
        (seen_root (S.rows catalog a) S.stamp n own) k) S.stamp n own ≡ seen
        (if b then S.rows catalog k else at_root S.rows (root_of S a) k) S.stamp n own
    by_name true h = refl
    by_name false h = by_row (S.rows catalog a) (g a) (h refl)

-- a name that is seen has one root, and its versions are those that are found
pub seen_is_root : (S : Store) (n : ℕ) (own : Option ℕ) (a : List ℕ) (r : ℕ) → Rooted S
    → seen_root (S.rows catalog a) S.stamp n own ≡ Some r → root_of S a ≡ Some r
seen_is_root S n own a r g h = by_row (S.rows catalog a) (g.lone a) h
  where
    by_row : (vs : List Version) → IsLone vs → seen_root vs S.stamp n own ≡ Some r → newest_root vs ≡ Some r
    by_row [] l h = h
    by_row (v ∷ []) l h = by_test (is_own own v.trx || visible (S.stamp v.trx) n) h
      where
        by_test : (b : Bool) → (if b then Some v.root else None) ≡ Some r → Some v.root ≡ Some r
        by_test true h = h
        by_test false h = absurd (grind arith)
    by_row (v ∷ (w ∷ vs)) l h = absurd l

pub seen_open : (S : Store) (n t : ℕ) (a : List ℕ) (r : ℕ) → Rooted S
    → seen_root (S.rows catalog a) S.stamp n (Some t) ≡ Some r → (w : ℕ) → IsOpenBy S.stamp w (S.rows catalog a)
    → w ≡ t
seen_open S n t a r g h w o = by_row (S.rows catalog a) (g.lone a) h o
  where
    by_row : (vs : List Version) → IsLone vs → seen_root vs S.stamp n (Some t) ≡ Some r → IsOpenBy S.stamp w vs
        → w ≡ t
    by_row [] l h o = absurd o
    by_row (v ∷ []) l h o = let o0 = o.0 in let o1 = o.1 in grind arith
    by_row (v ∷ (y ∷ vs)) l h o = absurd l

pub found_chain : (S : Store) (n : ℕ) (own : Option ℕ) (a k : List ℕ) → Rooted S
    → (bytes_eq a catalog_name ≡ false → seen (S.rows catalog a) S.stamp n own ≡ None → ⊥)
    → found S n own a k ≡ chain_of S a k
found_chain S n own a k g h = by_name (bytes_eq a catalog_name) h
  where
    by_row : (vs : List Version) → IsLone vs → (seen vs S.stamp n own ≡ None → ⊥)
        → at_root S.rows (seen_root vs S.stamp n own) k ≡ at_root S.rows (newest_root vs) k
    by_row [] l f = absurd (f refl)
    by_row (v ∷ []) l f = by_test (is_own own v.trx || visible (S.stamp v.trx) n) f
      where
        by_test : (b : Bool) → ((if b then v.row else None) ≡ None → ⊥)
            → at_root S.rows (if b then Some v.root else None) k ≡ S.rows v.root k
        by_test true f = refl
        by_test false f = absurd (f refl)
    by_row (v ∷ (w ∷ vs)) l f = absurd l

    by_name : (b : Bool) → (b ≡ false → seen (S.rows catalog a) S.stamp n own ≡ None → ⊥)
        → (if b then S.rows catalog k else at_root S.rows (seen_root (S.rows catalog a) S.stamp n own) k) ≡
        (if b then S.rows catalog k else at_root S.rows (root_of S a) k)
    by_name true h = refl
    by_name false h = by_row (S.rows catalog a) (g.lone a) (h refl)

-- ---- a content that is read is the one that the machine has

-- what the versions by name show at a snapshot stands for a database: so does what is found by roots
pub content_is : (S : Store) (n : ℕ) (own : Option ℕ) (f : Content) (d : Database)
    → ((b : List ℕ) → IsLone (S.rows catalog b)) → ((a k : List ℕ) → seen (chain_of S a k) S.stamp n own ≡ f a k)
    → StandsFor f d → content S n own ≡ f
content_is S n own f d g same is = fun_ext (λ a. fun_ext (λ k.
    content_chain S n own a k g
    (λ nw e. same a k
    ∙ is.none a k nw
    (sym (same catalog_name a)
    ∙ ap (λ vs. seen vs S.stamp n own) (chain_word S catalog_name a (bytes_self catalog_name)) ∙ e))
    ∙ same a k))

module _ (was : Content) (m : Machine) (g : IsFair was m) where
  pub number_is : (n : ℕ) → m.first ≤ n → n ≤ last m
      → StandsFor (content_at (timeline_of was m.first m.changes) n) (committed m n)
  number_is n l h = is_committed was m (last m) n g.base_is g.line h l

  pub view_is : (s : ℕ) (t : Transaction) → (m.sessions s).transaction ≡ Some t
      → StandsFor (λ a k. over (says t.pending a k) (content_at (timeline_of was m.first m.changes) t.snap a k))
      (view m t)
  view_is s t e = let p = g.snaps s t e in let p1 = p.1 in let h = g.high in
      is_applied t.pending (content_at (timeline_of was m.first m.changes) t.snap) (committed m t.snap)
      (number_is t.snap p.0 (omega (arith, p1, h))) (g.own s t e)

pub all_installed : {language : Language} → (S : Store) (s : ℕ) (W : Work) (x : Session)
    → KeepsSession language S s W x → W.todo ≡ [] → pending_of x ≡ W.installed
all_installed {language} S s W x e td = e.pend ∙ ap (λ cs. W.installed ++ cs) td ∙ append_none W.installed

-- (1) what a session's transaction sees
pub read_place : {language : Language} → (line : Timeline) (S : Store) (s n : ℕ) (W : Work) (x : Session)
    → Sound line S → KeepsSession language S s W x → W.todo ≡ [] → line.first ≤ n → n ≤ S.last → (a k : List ℕ)
    → seen (chain_of S a k) S.stamp n (own_of W.ending (S.slot s)) ≡ over (says (pending_of x) a k)
    (content_at line n a k)
read_place {language} line S s n W x g e td lo hi a k = by_test W.ending (S.slot s) refl refl
  where
    installed : pending_of x ≡ W.installed
    installed = all_installed S s W x e td

    plain : W.installed ≡ []
        → seen (chain_of S a k) S.stamp n None ≡ over (says (pending_of x) a k) (content_at line n a k)
    plain z = g.read n lo hi a k ∙ sym (ap (λ cs. over (says cs a k) (content_at line n a k)) (installed ∙ z))

    by_test : (b : Bool) (o : Option ℕ) → W.ending ≡ b → S.slot s ≡ o
        → seen (chain_of S a k) S.stamp n (own_of b o) ≡ over (says (pending_of x) a k) (content_at line n a k)
    by_test true o b q = plain (e.gone b)
    by_test false None b q = plain (e.none q)
    by_test false (Some t) b q =
        read_own (chain_of S a k) S.stamp n t (says W.installed a k) (content_at line n a k) (e.holds t q b a k)
        (g.read n lo hi a k) ∙ ap (λ cs. over (says cs a k) (content_at line n a k)) (sym installed)

pub snap_last : {language : Language} → (was : Content) (c : Cluster) (s : ℕ) (t : Transaction)
    → Refines language was c → (c.machine.sessions s).transaction ≡ Some t
    → (c.machine.first ≤ t.snap) × (t.snap ≤ (now c).last)
snap_last {language} was c s t g e = let p = g.fair.snaps s t e in let p1 = p.1 in let kp = g.kept in
    let r = g.rises c.durable c.lsn g.order (omega arith) in (p.0, omega (arith, p1, kp, r))

pub now_sound : {language : Language} → (was : Content) (c : Cluster) → Refines language was c
    → Sound (line was c) (now c)
now_sound {language} was c g = g.sound c.lsn (omega arith)

pub reads_are : {language : Language} → (was : Content) (c : Cluster) (s : ℕ) (t : Transaction)
    → Refines language was c → (c.machine.sessions s).transaction ≡ Some t → (c.work s).todo ≡ []
    → reads c s t.snap ≡ (λ a k. over (says t.pending a k) (content_at (line was c) t.snap a k))
reads_are {language} was c s t g e td = let l = snap_last was c s t g e in
    content_is (now c) t.snap (own c s) (λ a k. over (says t.pending a k) (content_at (line was c) t.snap a k))
    (view c.machine t) (now_sound was c g).rooted.lone
    (λ a k. read_place (line was c) (now c) s t.snap (c.work s) (c.machine.sessions s) (now_sound was c g)
    (g.each s) td l.0 l.1 a k
    ∙ ap (λ cs. over (says cs a k) (content_at (line was c) t.snap a k))
    (pending_some (c.machine.sessions s) t e))
    (view_is was c.machine g.fair s t e)

pub reads_view : {language : Language} → (was : Content) (c : Cluster) (s : ℕ) (t : Transaction)
    → Refines language was c → (c.machine.sessions s).transaction ≡ Some t → (c.work s).todo ≡ []
    → StandsFor (reads c s t.snap) (view c.machine t)
reads_view {language} was c s t g e td =
    subst (λ f. StandsFor f (view c.machine t)) (sym (reads_are was c s t g e td))
    (view_is was c.machine g.fair s t e)

-- (2) the conflict test by the newest version
hit_top : (vs : List Version) (stamp : ℕ → ℕ) (snap : ℕ) (own : Option ℕ) → in_the_way vs stamp snap own ≡ true
    → ((t : ℕ) × IsLedBy t vs × (stamp t ≡ 0) × (is_own own t ≡ false)) ⊎ (snap < newest_stamp vs stamp)
hit_top [] stamp snap own h = absurd (grind arith)
hit_top (v ∷ vs) stamp snap own h = by_test (nat_eq (stamp v.trx) 0) refl
  where
    by_test : (b : Bool) → nat_eq (stamp v.trx) 0 ≡ b
        → ((t : ℕ) × (v.trx ≡ t) × (stamp t ≡ 0) × (is_own own t ≡ false)) ⊎ (snap < newest_stamp (v ∷ vs) stamp)
    by_test true e = inl (v.trx, refl, eqb-true (stamp v.trx) 0 e, grind arith)
    by_test false e = inr (grind arith)

stamp_hit : (vs : List Version) (stamp : ℕ → ℕ) (snap : ℕ) (own : Option ℕ) → snap < newest_stamp vs stamp
    → ((t : ℕ) → IsLedBy t vs → is_own own t ≡ false) → in_the_way vs stamp snap own ≡ true
stamp_hit [] stamp snap own l f = absurd (grind arith)
stamp_hit (v ∷ vs) stamp snap own l f = let f2 : is_own own v.trx ≡ false = f v.trx refl in grind arith

tops_hit : (vs : List Version) (stamp : ℕ → ℕ) (snap t : ℕ) (own : Option ℕ) (r : Option Row) → IsToppedBy t r vs
    → stamp t ≡ 0 → is_own own t ≡ false → in_the_way vs stamp snap own ≡ true
tops_hit [] stamp snap t own r h z n = absurd h
tops_hit (v ∷ vs) stamp snap t own r h z n = let h0 = h.0 in grind arith

own_led : (vs : List Version) (t : ℕ) (c : Option (Option Row)) → Own t c vs → IsLedBy t vs → is_said c ≡ true
unfolding Own
own_led [] t None o h = absurd h
own_led (w ∷ vs) t None o h = absurd (grind arith)
own_led vs t (Some r) o h = refl

own_has : (vs : List Version) (t : ℕ) (c : Option (Option Row)) → Own t c vs → is_said c ≡ true
    → (r : Option Row) × IsToppedBy t r vs
unfolding Own
own_has vs t None o h = absurd (grind arith)
own_has vs t (Some r) o h = (r, o)

led_owned : (vs : List Version) (slot : ℕ → Option ℕ) (stamp : ℕ → ℕ) (t : ℕ) → IsOwned slot stamp vs → IsLedBy t vs
    → stamp t ≡ 0 → (s : ℕ) × (slot s ≡ Some t)
led_owned [] slot stamp t o h z = absurd h
led_owned (w ∷ vs) slot stamp t o h z = let u = o.0 (ap stamp h ∙ z) in (u.0, u.1 ∙ ap (λ n. Some n) h)

chain_owned : (S : Store) (a k : List ℕ) → Held S → IsOwned S.slot S.stamp (chain_of S a k)
chain_owned S a k h = by_name (bytes_eq a catalog_name) (root_of S a)
  where
    by_name : (b : Bool) (o : Option ℕ)
        → IsOwned S.slot S.stamp (if b then S.rows catalog k else at_root S.rows o k)
    by_name true o = h.owned catalog k
    by_name false None = tt
    by_name false (Some r) = h.owned r k

pub inside : (was : Content) (m : Machine) (u : ℕ) (a k : List ℕ) → IsFair was m
    → is_said (says (pending_of (m.sessions u)) a k) ≡ true → u < m.joined
inside was m u a k g p = by_test (nat_le m.joined u) refl
  where
    by_test : (b : Bool) → nat_le m.joined u ≡ b → u < m.joined
    by_test true e =
        let z : is_said (says [] a k) ≡ true = subst (λ cs. is_said (says cs a k) ≡ true)
        (pending_none (m.sessions u) (g.outside u (grind arith)).0) p in absurd (grind arith)
    by_test false e = grind arith

module _ {language : Language} (was : Content) (c : Cluster) (s : ℕ) (t : Transaction) (g : Refines language was c)
    (y : IsReady c) (tr : (c.machine.sessions s).transaction ≡ Some t) (a k : List ℕ) where
  S : Store
  S = now c

  d : Sound (line was c) (now c)
  d = now_sound was c g

  whole : (now c).last ≡ last c.machine
  whole = (g.is_open y.open_mode).1

  newest : at_least c.machine.first (newest_stamp (chain_of (now c) a k) (now c).stamp) ≡ latest (line was c)
      (last c.machine) a k
  newest = d.newest a k ∙ ap (λ n. latest (line was c) n a k) whole

  low : c.machine.first ≤ t.snap
  low = (snap_last was c s t g tr).0

  inst_of : (u : ℕ) → pending_of (c.machine.sessions u) ≡ (c.work u).installed
  inst_of u = all_installed (now c) u (c.work u) (c.machine.sessions u) (g.each u) (y.no_todo u)

  pub hit_clash : in_the_way (chain_of (now c) a k) (now c).stamp t.snap (own c s) ≡ true
      → Clashes c.machine s t a k
  hit_clash h = either (hit_top (chain_of (now c) a k) (now c).stamp t.snap (own c s) h)
    where
      either : ((n : ℕ) × IsLedBy n (chain_of (now c) a k) × ((now c).stamp n ≡ 0) × (is_own (own c s) n ≡ false))
          ⊎ (t.snap < newest_stamp (chain_of (now c) a k) (now c).stamp) → Clashes c.machine s t a k
      either (inl x) =
          let o = led_owned (chain_of (now c) a k) (now c).slot (now c).stamp x.0
          (chain_owned (now c) a k d.held) x.1 x.2 in
          let en = y.no_undo o.0 x.0 o.1 in
          let has : is_said (says (c.work o.0).installed a k) ≡ true = own_led (chain_of (now c) a k) x.0
          (says (c.work o.0).installed a k) ((g.each o.0).holds x.0 o.1 en a k) x.1 in
          let p : is_said (says (pending_of (c.machine.sessions o.0)) a k) ≡ true = subst
          (λ cs. is_said (says cs a k) ≡ true) (sym (inst_of o.0)) has in
          let n = x.3 in
          let o1 = o.1 in
          inl (
            o.0,
            (λ e. let es : (c.work s).ending ≡ false = subst (λ u. (c.work u).ending ≡ false) e en in
                let sl : (now c).slot s ≡ Some x.0 = subst (λ u. (now c).slot u ≡ Some x.0) e o1 in
                let z : own c s ≡ Some x.0 = ap (λ b. own_of b ((now c).slot s)) es ∙ sl in
                let q : is_own (Some x.0) x.0 ≡ false = subst (λ w. is_own w x.0 ≡ false) z n in grind arith),
            inside was c.machine o.0 a k g.fair p,
            p,
          )
      either (inr l) =
          let q = newest in
          let lo = low in
          let z : t.snap < at_least c.machine.first
          (newest_stamp (chain_of (now c) a k) (now c).stamp) = grind arith in
          let w : t.snap < latest (line was c) (last c.machine) a k = subst (λ n. t.snap < n) newest z in
          let f : c.machine.first ≤ last c.machine =
          (let p = g.fair.low in let h = g.fair.high in omega (arith, p, h)) in
          inr (
            latest (line was c) (last c.machine) a k,
            w,
            latest_high (line was c) (last c.machine) a k f,
            latest_has (line was c) (last c.machine) a k (omega (arith, lo, w)),
          )

  pub clash_hit : Clashes c.machine s t a k
      → in_the_way (chain_of (now c) a k) (now c).stamp t.snap (own c s) ≡ true
  clash_hit h = either h
    where
      slots : (u : ℕ) → is_said (says (c.work u).installed a k) ≡ true → (o : Option ℕ) → (now c).slot u ≡ o
          → (n : ℕ) × ((now c).slot u ≡ Some n)
      slots u p None e =
          let z : is_said (says [] a k) ≡ true = subst (λ cs. is_said (says cs a k) ≡ true) ((g.each u).none e) p in
          absurd (grind arith)
      slots u p (Some n) e = (n, e)

      is_mine : (n : ℕ) → (b : Bool) (o : Option ℕ) → is_own (own_of b o) n ≡ true → o ≡ Some n
      is_mine n true o e = absurd (grind arith)
      is_mine n false None e = absurd (grind arith)
      is_mine n false (Some i) e = ap (λ j. Some j) (eqb-true i n e)

      not_mine : (n : ℕ) (b : Bool) → is_own (own c s) n ≡ b → ((now c).slot s ≡ Some n → ⊥) → b ≡ false
      not_mine n true e f = absurd (f (is_mine n (c.work s).ending ((now c).slot s) e))
      not_mine n false e f = refl

      either : Clashes c.machine s t a k → in_the_way (chain_of (now c) a k) (now c).stamp t.snap (own c s) ≡ true
      either (inl x) =
          let p : is_said (says (c.work x.0).installed a k) ≡ true = subst (λ cs. is_said (says cs a k) ≡ true)
          (inst_of x.0) x.3 in
          let n = slots x.0 p ((now c).slot x.0) refl in
          let r = own_has (chain_of (now c) a k) n.0 (says (c.work x.0).installed a k)
          ((g.each x.0).holds n.0 n.1 (y.no_undo x.0 n.0 n.1) a k) p in
          tops_hit (chain_of (now c) a k) (now c).stamp t.snap n.0 (own c s) r.0 r.1 (d.held.open_stamp x.0 n.0 n.1)
          (not_mine n.0 (is_own (own c s) n.0) refl (λ q. x.1 (d.held.unique x.0 s n.0 n.1 q)))
      either (inr x) =
          let lo = low in
          let l = x.1 in
          let i = latest_is (line was c) (last c.machine) x.0 a k (omega (arith, lo, l)) x.2 x.3 in
          let q = newest in
          let z : t.snap < newest_stamp (chain_of (now c) a k) (now c).stamp =
          (let w : t.snap < at_least c.machine.first (newest_stamp (chain_of (now c) a k) (now c).stamp) = subst
          (λ n. t.snap < n) (sym newest) (omega (arith, i, l)) in grind arith) in
          stamp_hit (chain_of (now c) a k) (now c).stamp t.snap (own c s) z
          (λ n led. not_mine n (is_own (own c s) n) refl (λ sl.
          let m = own_led (chain_of (now c) a k) n (says (c.work s).installed a k)
          ((g.each s).holds n sl (y.no_undo s n sl) a k) led in
          let p : is_said (says t.pending a k) ≡ true = subst (λ cs. is_said (says cs a k) ≡ true)
          (sym (inst_of s) ∙ pending_some (c.machine.sessions s) t tr) m in
          let w = g.fair.late s t a k tr p in omega (arith, w, i, l)))

same_bool : (a b : Bool) → (a ≡ true → b ≡ true) → (b ≡ true → a ≡ true) → a ≡ b
same_bool true b f g = sym (f refl)
same_bool false true f g = g refl
same_bool false false f g = refl

-- a change of a table that is seen: the store's test is the machine's
pub hits_conflict : {language : Language} → (was : Content) (c : Cluster) (s : ℕ) (t : Transaction) (h : Change)
    → Refines language was c → IsReady c → (c.machine.sessions s).transaction ≡ Some t
    → (bytes_eq h.table catalog_name ≡ false → reads c s t.snap catalog_name h.table ≡ None → ⊥)
    → is_taken (now c) t.snap (own c s) h ≡ is_conflict c.machine s t h
hits_conflict {language} was c s t h g y tr there =
    ap (λ vs. in_the_way vs (now c).stamp t.snap (own c s))
    (found_chain (now c) t.snap (own c s) h.table h.key (now_sound was c g).rooted
    (λ nw e. there nw
    (ap (λ b. seen
    (if b then (now c).rows catalog h.table else at_root (now c).rows
    (seen_root ((now c).rows catalog catalog_name) (now c).stamp t.snap (own c s)) h.table)
    (now c).stamp t.snap (own c s)) (bytes_self catalog_name) ∙ e)))
    ∙ same_bool (in_the_way (chain_of (now c) h.table h.key) (now c).stamp t.snap (own c s))
    (is_conflict c.machine s t h)
    (λ x. clashes_conflict c.machine s t h (hit_clash was c s t g y tr h.table h.key x))
    (λ x. clash_hit was c s t g y tr h.table h.key (conflict_clashes c.machine s t h x))
