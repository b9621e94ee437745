-- What stays as the cluster goes on.
use Rattle.std.proofs.Common.{◌≡◌, ℕ, suc, ◌≢◌, ◌≤◌, Bool, true, false, Some, None, List, [], if◌then◌else◌, is_some, nat_eq, arith, inl, inr, refl, sym, subst, ap, ◌∙◌, ◌<◌, eqb-true, le_trans}
use Rattle.history.specs.Clusters.{now, ended, grown, Work, Cluster, Mode, Open}
use Rattle.history.specs.Invariant.{StampsLater, KeepsTables, Judged, KeepsSession, Refines}
use Rattle.history.specs.Machines.{IsFair}
use Rattle.history.specs.Places.{says, is_said}
use Rattle.history.specs.Sound.{Own, Sound}
use Rattle.history.specs.Timelines.{timeline_of}
use Rattle.table_machine.specs.Language.{Language}
use Rattle.table_machine.specs.Machine.{last, pending_of, Session, Machine}
use Rattle.version_store.proofs.Places.{put_all, put_here}
use Rattle.version_store.specs.Contents.{Content, catalog_name, chain_of}
use Rattle.version_store.specs.Held.{none_of}
use Rattle.version_store.specs.Stores.{catalog, put, Store}

-- ---- frames

-- what the machine's commits are is the same
pub record Same (m n : Machine) : Type 0 where
  pub first : n.first ≡ m.first
  pub count : n.count ≡ m.count
  pub end : last n ≡ last m
  pub changes : n.changes ≡ m.changes

same_line : (was : Content) (m n : Machine) → Same m n
    → timeline_of was n.first n.changes ≡ timeline_of was m.first m.changes
same_line was m n e = ap (λ f. timeline_of was f n.changes) e.first ∙ ap (λ h. timeline_of was m.first h) e.changes

pub good_machine : {language : Language} → (was : Content) (c : Cluster) (m : Machine) (mode : Mode) (W : ℕ → Work)
    → Refines language was c → IsFair was m → Same c.machine m
    → (mode ≡ Open → (c.mode ≡ Open) × (is_some m.writer ≡ true))
    → (mode ≢ Open
    → (m.writer ≡ None) × ((s : ℕ) → ((W s).ending ≡ true) × ((W s).todo ≡ []) × ((W s).job ≡ false)))
    → ((s u t : ℕ) (a k : List ℕ) → u ≢ s → (now c).slot u ≡ Some t → is_said (says (W s).todo a k) ≡ true
    → none_of t (chain_of (now c) a k) ≡ true)
    → ((s : ℕ) → KeepsSession language (now c) s (W s) (m.sessions s))
    → Refines language was (record c { machine = m; mode = mode; work = W })
good_machine {language} was c m mode W g f e o cl clear each = record {
  fair = f;
  order = g.order;
  single = g.single;
  begun_at = g.begun_at ∙ sym e.first;
  sound = λ j b. subst (λ l. Sound l (c.at j)) (sym (same_line was c.machine m e)) (g.sound j b);
  rises = g.rises;
  later = g.later;
  lasts = g.lasts;
  below = subst (λ n. (now c).last ≤ n) (sym e.end) g.below;
  kept = subst (λ n. n ≤ (c.at c.durable).last) (sym e.count) g.kept;
  is_open = λ x. ((o x).1, (g.is_open (o x).0).1 ∙ sym e.end);
  closed = cl;
  clear = clear;
  each = each;
}

pub each_same : {language : Language} → (S : Store) (s : ℕ) (W : Work) (x y : Session) → pending_of y ≡ pending_of x
    → (W.job ≡ true → Judged language S s W x → Judged language S s W y) → KeepsSession language S s W x
    → KeepsSession language S s W y
each_same {language} S s W x y p q e =
    record {
      judged = λ j. q j (e.judged j);
      holds = e.holds;
      none = e.none;
      gone = e.gone;
      pend = p ∙ e.pend;
      names = e.names;
    }

pub each_ended : {language : Language} → (S : Store) (s : ℕ) (y : Session) → pending_of y ≡ []
    → KeepsSession language S s ended y
each_ended {language} S s y p =
    record {
      judged = λ j. absurd (grind arith);
      holds = λ t q b. absurd (grind arith);
      none = λ q. refl;
      gone = λ q. refl;
      pend = p;
      names = λ a q. absurd (grind arith);
    }

-- a session beside a new group
pub each_beside : {language : Language} → (S R : Store) (u : ℕ) (W : Work) (x : Session) → W.job ≡ false
    → R.slot u ≡ S.slot u
    → ((t : ℕ) (a k : List ℕ) → S.slot u ≡ Some t → W.ending ≡ false → Own t (says W.installed a k) (chain_of S a k)
    → Own t (says W.installed a k) (chain_of R a k))
    → ((a : List ℕ) → is_said (says W.todo catalog_name a) ≡ true → S.rows catalog a ≡ [] → R.rows catalog a ≡ [])
    → KeepsSession language S u W x → KeepsSession language R u W x
each_beside {language} S R u W x nj sl f h e = record {
  judged = λ j. absurd (grind arith);
  holds = λ t q b a k. let q2 : S.slot u ≡ Some t = sym sl ∙ q in f t a k q2 b (e.holds t q2 b a k);
  none = λ q. e.none (sym sl ∙ q);
  gone = e.gone;
  pend = e.pend;
  names = λ a p. h a p (e.names a p);
}

later_more : (A B C : Store) (t : ℕ) → A.last ≤ B.last → StampsLater A B t → StampsLater B C t → StampsLater A C t
later_more A B C t l (inl x) (inl y) = inl (y ∙ x)
later_more A B C t l (inl x) (inr y) = inr (sym x ∙ y.0, (let z = y.1 in omega (arith, z, l)))
later_more A B C t l (inr x) (inl y) = inr (x.0, rw y x.1)
later_more A B C t l (inr x) (inr y) = inr (x.0, (let z = y.1 in let w = x.1 in omega (arith, z, w, l)))

-- what has no stamp later had none before
before : (A B : Store) (t : ℕ) → StampsLater A B t → B.stamp t ≡ 0 → A.stamp t ≡ 0
before A B t (inl x) z = sym x ∙ z
before A B t (inr x) z = x.0

not_last : (i n : ℕ) → i ≤ suc n → nat_eq i (suc n) ≡ false → i ≤ n
not_last i n l e = grind arith

not_next : (i n : ℕ) → i ≤ n → nat_eq i (suc n) ≡ false
not_next i n l = grind arith

past_last : (i j n : ℕ) → i ≤ j → j ≤ suc n → nat_eq i (suc n) ≡ true → nat_eq j (suc n) ≡ false → ⊥
past_last i j n l m e f = grind arith

before_last : (j n : ℕ) → j < suc n → nat_eq (suc j) (suc n) ≡ false → j < n
before_last j n l e = grind arith

-- one more group
pub good_grow : {language : Language} → (was : Content) (c : Cluster) (S : Store) (s : ℕ) (W : Work) (m : Machine)
    → Refines language was c → IsFair was m → m.count ≡ c.machine.count → m.writer ≡ c.machine.writer
    → m.first ≡ c.machine.first
    → ((j : ℕ) → j ≤ c.lsn → Sound (timeline_of was m.first m.changes) (c.at j))
    → Sound (timeline_of was m.first m.changes) S → (now c).last ≤ S.last → S.last ≤ suc (now c).last
    → S.last ≤ last m → (c.mode ≡ Open → S.last ≡ last m)
    → (c.mode ≢ Open → (W.ending ≡ true) × (W.todo ≡ []) × (W.job ≡ false))
    → ((u : ℕ) → KeepsSession language S u (put c.work s W u) (m.sessions u))
    → ((x u t : ℕ) (a k : List ℕ) → u ≢ x → S.slot u ≡ Some t → is_said (says (put c.work s W x).todo a k) ≡ true
    → none_of t (chain_of S a k) ≡ true)
    → ((t : ℕ) → StampsLater (now c) S t) → KeepsTables (now c) S → Refines language was (grown c S s W m)
good_grow {language} was c S s W m g f ec ew ef old new up one under open_last cl e clr lt ls = record {
  lasts = λ i j b d. lasts i j b d (nat_eq i (suc c.lsn)) (nat_eq j (suc c.lsn)) refl refl;
  fair = f;
  order = let o = g.order in omega (arith, o);
  later = λ i j t b d. later i j t b d (nat_eq i (suc c.lsn)) (nat_eq j (suc c.lsn)) refl refl;
  clear = λ x u t a k ne. rw (put_here c.at (suc c.lsn) S) (clr x u t a k ne);
  sound = λ j b. put_all (λ i R. i ≤ suc c.lsn → Sound (timeline_of was m.first m.changes) R) c.at (suc c.lsn) S
      (λ y. new) (λ i ne y. old i (omega (arith, ne, y))) j b;
  single = λ j l. single j l (nat_eq j (suc c.lsn)) (nat_eq (suc j) (suc c.lsn)) refl refl;
  begun_at = begun (nat_eq 0 (suc c.lsn)) refl;
  rises = λ i j b d. rises i j b d (nat_eq i (suc c.lsn)) (nat_eq j (suc c.lsn)) refl refl;
  below = rw (put_here c.at (suc c.lsn) S) under;
  kept = let k = g.kept in let o = g.order in
      let n : nat_eq c.durable (suc c.lsn) ≡ false = not_next c.durable c.lsn g.order in
      subst (λ b. m.count ≤ (if b then S else c.at c.durable).last) (sym n)
      (subst (λ x. x ≤ (c.at c.durable).last) (sym ec) k);
  is_open = λ x. let o = g.is_open x in
      (subst (λ w. is_some w ≡ true) (sym ew) o.0, rw (put_here c.at (suc c.lsn) S) (open_last x));
  closed = λ n. let o = g.closed n in (
    ew ∙ o.0,
    put_all (λ u V. (V.ending ≡ true) × (V.todo ≡ []) × (V.job ≡ false)) c.work s W (cl n)
        (λ u ne. o.1 u),
  );
  each = λ u. rw (put_here c.at (suc c.lsn) S) (e u);
}
  where
    begun : (b : Bool) → nat_eq 0 (suc c.lsn) ≡ b → (if b then S else c.at 0).last ≡ m.first
    begun true q = let e = eqb-true 0 (suc c.lsn) q in absurd (omega (arith, e))
    begun false q = g.begun_at ∙ sym ef

    single : (j : ℕ) → j < suc c.lsn → (a b : Bool) → nat_eq j (suc c.lsn) ≡ a → nat_eq (suc j) (suc c.lsn) ≡ b
        → (if b then S else c.at (suc j)).last ≤ suc (if a then S else c.at j).last
    single j l true b p q = let e = eqb-true j (suc c.lsn) p in absurd (omega (arith, e, l))
    single j l false true p q =
        let e : j ≡ c.lsn = (let f = eqb-true (suc j) (suc c.lsn) q in omega (arith, f)) in
        subst (λ i. S.last ≤ suc (c.at i).last) (sym e) one
    single j l false false p q = g.single j (before_last j c.lsn l q)

    rises : (i j : ℕ) → i ≤ j → j ≤ suc c.lsn → (a b : Bool) → nat_eq i (suc c.lsn) ≡ a → nat_eq j (suc c.lsn) ≡ b
        → (if a then S else c.at i).last ≤ (if b then S else c.at j).last
    rises i j y z true true p q = omega arith
    rises i j y z true false p q = absurd (past_last i j c.lsn y z p q)
    rises i j y z false true p q = let r = g.rises i c.lsn (not_last i c.lsn (le_trans y z) p) (omega arith) in
        omega (arith, r, up)
    rises i j y z false false p q = g.rises i j y (not_last j c.lsn z q)

    lasts : (i j : ℕ) → i ≤ j → j ≤ suc c.lsn → (a b : Bool) → nat_eq i (suc c.lsn) ≡ a → nat_eq j (suc c.lsn) ≡ b
        → KeepsTables (if a then S else c.at i) (if b then S else c.at j)
    lasts i j y z true true p q = λ a v e n. e
    lasts i j y z true false p q = absurd (past_last i j c.lsn y z p q)
    lasts i j y z false true p q =
        λ a v e n. ls a v (g.lasts i c.lsn (not_last i c.lsn (le_trans y z) p) (omega arith) a v e n)
        (λ o. n (before (c.at i) (now c) v.trx
        (g.later i c.lsn v.trx (not_last i c.lsn (le_trans y z) p) (omega arith)) o))
    lasts i j y z false false p q = g.lasts i j y (not_last j c.lsn z q)

    later : (i j t : ℕ) → i ≤ j → j ≤ suc c.lsn → (a b : Bool) → nat_eq i (suc c.lsn) ≡ a → nat_eq j (suc c.lsn) ≡ b
        → StampsLater (if a then S else c.at i) (if b then S else c.at j) t
    later i j t y z true true p q = inl refl
    later i j t y z true false p q = absurd (past_last i j c.lsn y z p q)
    later i j t y z false true p q =
        later_more (c.at i) (now c) S t (g.rises i c.lsn (not_last i c.lsn (le_trans y z) p) (omega arith))
        (g.later i c.lsn t (not_last i c.lsn (le_trans y z) p) (omega arith)) (lt t)
    later i j t y z false false p q = g.later i j t y (not_last j c.lsn z q)
