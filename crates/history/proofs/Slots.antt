-- Slots are taken, undone, given back and committed.
use Rattle.std.proofs.Common.{◌≡◌, ℕ, suc, ◌≢◌, ◌≤◌, ◌<◌, ◌+◌, Bool, true, false, Option, Some, None, List, [], ◌∷◌, if◌then◌else◌, nat_eq, arith, ◌⊎◌, inl, inr, eqb-true, refl, sym, subst, ap, ◌∙◌}
use Rattle.std.specs.Str.{bytes_eq}
use Rattle.history.proofs.Frames.{each_beside, good_grow}
use Rattle.history.proofs.Installs.{none_of_pops, own_pops}
use Rattle.history.proofs.OwnLaws.{own_none}
use Rattle.history.proofs.SoundLaws.{Extends, sound_begun, sound_freed, sound_line, sound_split, sound_stamped, sound_undone}
use Rattle.history.proofs.Views.{all_installed, now_sound}
use Rattle.history.specs.Clusters.{now, grown, Work, Cluster, Open}
use Rattle.history.specs.Events.{NoJob, MayCommit}
use Rattle.history.specs.Invariant.{StampsLater, line, KeepsSession, Refines}
use Rattle.history.specs.Machines.{IsFair}
use Rattle.history.specs.Places.{says, is_said}
use Rattle.history.specs.Sound.{Own, Sound}
use Rattle.history.specs.Timelines.{timeline_of, Timeline}
use Rattle.table_machine.specs.Language.{Language}
use Rattle.table_machine.specs.Machine.{last, pending_of, Machine}
use Rattle.table_machine.specs.Moves.{queued_session, enqueued}
use Rattle.version_store.proofs.NameLaws.{chain_undone, undone_rows}
use Rattle.version_store.proofs.Places.{put_all, put_both, put_here}
use Rattle.version_store.proofs.RootedLaws.{undone_catalog}
use Rattle.version_store.specs.Contents.{Content, catalog_name, at_root, root_of, chain_of}
use Rattle.version_store.specs.Groups.{IsPopped}
use Rattle.version_store.specs.Held.{none_of, IsLedBy}
use Rattle.version_store.specs.Stores.{catalog, put, begun, undone, stamped, freed, split, UndoEntry, Store}
use Rattle.version_store.specs.Versions.{Version}

pub keep_begin : {language : Language} → (was : Content) (c : Cluster) (s : ℕ) → Refines language was c → NoJob c
    → c.mode ≡ Open → (now c).slot s ≡ None
    → Refines language was (grown c (begun (now c) s) s (record (c.work s) { ending = false }) c.machine)
keep_begin {language} was c s g nj o h =
    let d = now_sound was c g in
    let S : Store = now c in
    good_grow was c (begun S s) s W c.machine g g.fair refl refl refl g.sound (sound_begun (line was c) S s d h)
    (omega arith) (omega arith) g.below (λ x. (g.is_open x).1) (λ n. absurd (n o))
    (put_all (λ u V. KeepsSession language (begun S s) u V (c.machine.sessions u)) c.work s W
    (record {
      holds = λ t q b a k. own_none t (says (c.work s).installed a k) (chain_of S a k)
          (ap (λ cs. says cs a k) ((g.each s).none h))
          (let tn : t ≡ S.next =
          (let z : Some S.next ≡ Some t = sym (put_here S.slot s (Some S.next)) ∙ q in grind arith) in
          unused a k t (omega (arith, tn)));
      none = λ q. let z : Some S.next ≡ None = sym (put_here S.slot s (Some S.next)) ∙ q in absurd (grind arith);
      gone = λ q. absurd (grind arith);
      pend = (g.each s).pend;
      names = (g.each s).names;
      judged = λ j. let n = nj s in absurd (grind arith);
    })
    (λ u ne. each_beside S (begun S s) u (c.work u) (c.machine.sessions u) (nj u) (grind arith) (λ t a k q b w. w)
    (λ a p w. w) (g.each u)))
    (λ w u t a k ne q. put_all
    (λ u o. u ≢ w → o ≡ Some t → is_said (says (put c.work s W w).todo a k) ≡ true
    → none_of t (chain_of S a k) ≡ true) S.slot s (Some S.next)
    (λ ne e p. unused a k t (let tn : t ≡ S.next = grind arith in omega (arith, tn)))
    (λ u nu ne e. put_all
    (λ w V. u ≢ w → is_said (says V.todo a k) ≡ true → none_of t (chain_of S a k) ≡ true) c.work s W
    (λ ne. g.clear s u t a k ne e) (λ w nw ne. g.clear w u t a k ne e) w ne) u ne q)
    (λ t. inl refl) (λ a v e o. e)
  where
    W : Work
    W = record (c.work s) { ending = false }

    unused : (a k : List ℕ) (t : ℕ) → (now c).next ≤ t → none_of t (chain_of (now c) a k) ≡ true
    unused a k t l = by_name (bytes_eq a catalog_name) (root_of (now c) a)
      where
        by_name : (b : Bool) (o : Option ℕ)
            → none_of t (if b then (now c).rows catalog k else at_root (now c).rows o k) ≡ true
        by_name true o = (now_sound was c g).held.unused t catalog k l
        by_name false None = refl
        by_name false (Some r) = (now_sound was c g).held.unused t r k l

pub keep_split : {language : Language} → (was : Content) (c : Cluster) (s p : ℕ) → Refines language was c → NoJob c
    → (now c).pages ≤ p → Refines language was (grown c (split (now c) p) s (c.work s) c.machine)
keep_split {language} was c s p g nj l =
    good_grow was c (split (now c) p) s (c.work s) c.machine g g.fair refl refl refl g.sound
    (sound_split (line was c) (now c) p (now_sound was c g) l) (omega arith) (omega arith) g.below
    (λ x. (g.is_open x).1) (λ n. (g.closed n).1 s)
    (put_all (λ u V. KeepsSession language (split (now c) p) u V (c.machine.sessions u)) c.work s (c.work s)
    (same s) (λ u ne. same u))
    (λ w u t a k. put_all
    (λ w V. u ≢ w → (now c).slot u ≡ Some t → is_said (says V.todo a k) ≡ true
    → none_of t (chain_of (now c) a k) ≡ true) c.work s (c.work s) (λ ne q. g.clear s u t a k ne q)
    (λ w nw ne q. g.clear w u t a k ne q) w)
    (λ t. inl refl) (λ a v e o. e)
  where
    same : (u : ℕ) → KeepsSession language (split (now c) p) u (c.work u) (c.machine.sessions u)
    same u = each_beside (now c) (split (now c) p) u (c.work u) (c.machine.sessions u) (nj u) refl
        (λ t a k q b w. w) (λ a p w. w) (g.each u)

pub keep_undo : {language : Language}
    → (was : Content) (c : Cluster) (s n : ℕ) (u : UndoEntry) (us : List UndoEntry) → Refines language was c → NoJob c
    → (c.work s).ending ≡ true → (now c).slot s ≡ Some n → (now c).undo s ≡ u ∷ us
    → Refines language was (grown c (undone (now c) s u.root u.key us) s (c.work s) c.machine)
keep_undo {language} was c s n u us g nj en sl un =
    good_grow was c R s (c.work s) c.machine g g.fair refl refl refl g.sound
    (sound_undone (line was c) (now c) s n u us d sl un) (omega arith) (omega arith) g.below
    (λ x. (g.is_open x).1) (λ m. (g.closed m).1 s)
    (put_all (λ w V. KeepsSession language R w V (c.machine.sessions w)) c.work s (c.work s)
    (record {
      holds = λ t q b. absurd (grind arith);
      none = (g.each s).none;
      gone = (g.each s).gone;
      pend = (g.each s).pend;
      names = λ a p. empty a ((g.each s).names a p);
      judged = λ j. let n = nj s in
          absurd (grind arith);
    })
    (λ w ne. each_beside (now c) R w (c.work w) (c.machine.sessions w) (nj w) refl
    (λ t a k q b o. own_pops n t (says (c.work w).installed a k) (chain_of R a k) (chain_of (now c) a k)
    (λ e. ne (d.held.unique w s t q (sl ∙ ap (λ i. Some i) (sym e)))) (pops a k) o) (λ a p. empty a)
    (g.each w)))
    (λ w v t a k. put_all
    (λ w V. v ≢ w → (now c).slot v ≡ Some t → is_said (says V.todo a k) ≡ true
    → none_of t (chain_of R a k) ≡ true) c.work s (c.work s)
    (λ ne q p. none_of_pops n t (chain_of R a k) (chain_of (now c) a k) (pops a k) (g.clear s v t a k ne q p))
    (λ w nw ne q p. none_of_pops n t (chain_of R a k) (chain_of (now c) a k) (pops a k)
    (g.clear w v t a k ne q p)) w)
    (λ t. inl refl) (λ a v e o. lasts a v e o (undone_rows (now c) s n u us d.rooted d.held sl un catalog a))
  where
    d : Sound (line was c) (now c)
    d = now_sound was c g

    R : Store
    R = undone (now c) s u.root u.key us

    pops : (a k : List ℕ) → IsPopped n (chain_of (undone (now c) s u.root u.key us) a k) (chain_of (now c) a k)
    pops a k = chain_undone (now c) s n u us (now_sound was c g).rooted (now_sound was c g).held sl un a k

    lasts : (a : List ℕ) (v : Version) → (now c).rows catalog a ≡ v ∷ [] → ((now c).stamp v.trx ≡ 0 → ⊥)
        → IsPopped n ((undone (now c) s u.root u.key us).rows catalog a) ((now c).rows catalog a)
        → (undone (now c) s u.root u.key us).rows catalog a ≡ v ∷ []
    lasts a v e o (inl x) = x ∙ e
    lasts a v e o (inr x) = let led : v.trx ≡ n = subst (λ vs. IsLedBy n vs) e x.1 in
        absurd (o (ap (now c).stamp led ∙ (now_sound was c g).held.open_stamp s n sl))

    empty : (a : List ℕ) → (now c).rows catalog a ≡ [] → (undone (now c) s u.root u.key us).rows catalog a ≡ []
    empty a e = either (undone_catalog (now c) s u us a (now_sound was c g).rooted)
      where
        either : ((undone (now c) s u.root u.key us).rows catalog a ≡ (now c).rows catalog a)
            ⊎ ((undone (now c) s u.root u.key us).rows catalog a ≡ [])
            → (undone (now c) s u.root u.key us).rows catalog a ≡ []
        either (inl z) = z ∙ e
        either (inr z) = z

pub keep_free : {language : Language} → (was : Content) (c : Cluster) (s n : ℕ) → Refines language was c → NoJob c
    → (c.work s).ending ≡ true → (now c).slot s ≡ Some n → (now c).undo s ≡ []
    → Refines language was (grown c (freed (now c) s) s (c.work s) c.machine)
keep_free {language} was c s n g nj en sl un =
    good_grow was c (freed (now c) s) s (c.work s) c.machine g g.fair refl refl refl g.sound
    (sound_freed (line was c) (now c) s n (now_sound was c g) sl un) (omega arith) (omega arith) g.below
    (λ x. (g.is_open x).1) (λ m. (g.closed m).1 s)
    (put_all (λ w V. KeepsSession language (freed (now c) s) w V (c.machine.sessions w)) c.work s (c.work s)
    (record {
      holds = λ t q b. absurd (grind arith);
      none = λ q. (g.each s).gone en;
      gone = (g.each s).gone;
      pend = (g.each s).pend;
      names = (g.each s).names;
      judged = λ j. let n = nj s in absurd (grind arith);
    })
    (λ w ne. each_beside (now c) (freed (now c) s) w (c.work w) (c.machine.sessions w) (nj w) (grind arith)
    (λ t a k q b o. o) (λ a p e. e) (g.each w)))
    (λ w v t a k. put_all
    (λ w V. v ≢ w → (freed (now c) s).slot v ≡ Some t → is_said (says V.todo a k) ≡ true
    → none_of t (chain_of (now c) a k) ≡ true) c.work s (c.work s)
    (λ ne q p. g.clear s v t a k ne (grind arith) p) (λ w nw ne q p. g.clear w v t a k ne (grind arith) p) w)
    (λ t. inl refl) (λ a v e o. e)

pub keep_commit : {language : Language} → (was : Content) (c : Cluster) (s n : ℕ) → Refines language was c
    → MayCommit c s n → IsFair was (enqueued c.machine s)
    → Refines language was
    (grown c (stamped (now c) s n) s (record (c.work s) { installed = [] }) (enqueued c.machine s))
keep_commit {language} was c s n g cm f =
    good_grow was c R s W m g f refl refl refl
    (λ j b. sound_line (line was c) new (c.at j)
    (extends (c.at j).last (let r = g.rises j c.lsn b (omega arith) in omega (arith, r, whole))) (g.sound j b))
    (sound_stamped (line was c) new (now c) s n (pending_of (c.machine.sessions s))
    (extends (now c).last (omega (arith, whole))) at d cm.slot hold)
    (omega arith) (omega arith) (omega (arith, whole)) (λ o. omega (arith, whole)) (λ x. absurd (x cm.open_mode))
    (put_both (λ u V x. KeepsSession language R u V x) c.work c.machine.sessions s W
    (queued_session (c.machine.sessions s))
    (record {
      holds = λ v q b. let z : None ≡ Some v = sym (put_here (now c).slot s None) ∙ q in absurd (grind arith);
      none = λ q. refl;
      gone = λ q. refl;
      pend = sym cm.todo;
      names = (g.each s).names;
      judged = λ j. let n = cm.no_job s in absurd (grind arith);
    })
    (λ u ne. each_beside (now c) R u (c.work u) (c.machine.sessions u) (cm.no_job u) (grind arith)
    (λ t a k q b o. o) (λ a p e. e) (g.each u)))
    (λ w u v a k. put_all
    (λ w V. u ≢ w → R.slot u ≡ Some v → is_said (says V.todo a k) ≡ true
    → none_of v (chain_of (now c) a k) ≡ true) c.work s W
    (λ ne q p. g.clear s u v a k ne (grind arith) p) (λ w nw ne q p. g.clear w u v a k ne (grind arith) p) w)
    (λ t. stamp_later t (nat_eq t n) refl) (λ a v e o. e)
  where
    m : Machine
    m = enqueued c.machine s

    R : Store
    R = stamped (now c) s n

    W : Work
    W = record (c.work s) { installed = [] }

    d : Sound (line was c) (now c)
    d = now_sound was c g

    whole : (now c).last ≡ c.machine.count + c.machine.waiting
    whole = (g.is_open cm.open_mode).1

    new : Timeline
    new = timeline_of was c.machine.first
        (put c.machine.changes (last c.machine + 1) (pending_of (c.machine.sessions s)))

    extends : (i : ℕ) → i ≤ c.machine.count + c.machine.waiting
        → Extends (line was c)
        (timeline_of was c.machine.first
        (put c.machine.changes (last c.machine + 1) (pending_of (c.machine.sessions s)))) i
    extends i l =
        record {
          was = refl;
          first = refl;
          changes = λ j p. let e : nat_eq j (last c.machine + 1) ≡ false = grind (arith, l, p) in
              ap (λ b. if b then pending_of (c.machine.sessions s) else c.machine.changes j) e;
        }

    at : put c.machine.changes (last c.machine + 1) (pending_of (c.machine.sessions s))
        (suc (now c).last) ≡ pending_of (c.machine.sessions s)
    at = subst (λ i. put c.machine.changes (last c.machine + 1) (pending_of (c.machine.sessions s)) i ≡ pending_of
        (c.machine.sessions s)) (let z : last c.machine + 1 ≡ suc (now c).last = omega (arith, whole) in z)
        (put_here c.machine.changes (last c.machine + 1) (pending_of (c.machine.sessions s)))

    hold : (a k : List ℕ) → Own n (says (pending_of (c.machine.sessions s)) a k) (chain_of (now c) a k)
    hold a k = subst (λ cs. Own n (says cs a k) (chain_of (now c) a k))
        (sym (all_installed (now c) s (c.work s) (c.machine.sessions s) (g.each s) cm.todo))
        ((g.each s).holds n cm.slot cm.stays a k)

    stamp_later : (t : ℕ) (b : Bool) → nat_eq t n ≡ b → StampsLater (now c) (stamped (now c) s n) t
    stamp_later t true e = let tn : t ≡ n = eqb-true t n e in
        inr (
          ap (now c).stamp tn ∙ d.held.open_stamp s n cm.slot,
          subst (λ i. (now c).last < i) (sym (ap (λ b. if b then suc (now c).last else (now c).stamp t) e))
              (omega arith),
        )
    stamp_later t false e = inl (ap (λ b. if b then suc (now c).last else (now c).stamp t) e)
