-- For the proofs: the groups that begin and end a transaction follow the events of history.
use Rattle.std.proofs.Common.{◌≡◌, ◌≢◌, ◌≤◌, ◌<◌, ℕ, suc, Bool, true, false, if◌then◌else◌, nat_eq, List, [], ◌∷◌, Some, None, refl, sym, ap, subst, ◌∙◌, arith}
use Rattle.std.specs.List.{AllByRecursion}
use Rattle.std.proofs.lemmas.Bool.{eqb-true}
use Rattle.rm_base.specs.declared.limits.TheConstants.{MAX_TRX_ID}
use Rattle.page_image.specs.Image.{Image, unmade}
use Rattle.page_image.specs.Meta.{counters_of}
use Rattle.redo_record.specs.declared.redo.Record.{Record}
use Rattle.redo_record.specs.Effect.{after_records}
use Rattle.commit_stamps.specs.declared.slots.Slot.{Slot}
use Rattle.commit_stamps.specs.Effects.{Begins, Commits, Frees}
use Rattle.commit_stamps.specs.Fields.{slot_of}
use Rattle.commit_stamps.specs.Stamping.{stamp_page, stamp_place}
use Rattle.undo_versions.specs.Reading.{is_undo}
use Rattle.table_machine.specs.Language.{Language}
use Rattle.table_machine.specs.Machine.{Machine}
use Rattle.version_store.specs.Contents.{Content}
use Rattle.version_store.specs.Groups as group
use Rattle.version_store.specs.Held.{Held}
use Rattle.version_store.specs.Rooted.{Rooted}
use Rattle.version_store.specs.Stores.{Store, UndoEntry, begun, freed, stamped}
use Rattle.version_store.proofs.Places.{put_here}
use Rattle.history.specs.Clusters as cluster
use Rattle.history.specs.Clusters.{Cluster, Work, now}
use Rattle.history.specs.Events as event
use Rattle.history.specs.Events.{Event, Happens, MayCommit, MayUndo}
use Rattle.history.specs.Invariant.{Refines}
use Rattle.history.proofs.Views.{now_sound}
use Rattle.held_versions.specs.Counting.{holder, sessions}
use Rattle.held_versions.specs.Holds.{Holds}
use Rattle.held_versions.specs.Keeping.{grown}
use Rattle.held_versions.specs.Undoing.{UndoList, current}
use Rattle.held_versions.proofs.Begins.{begin_is_begun}
use Rattle.held_versions.proofs.Commits.{commit_is_stamped}
use Rattle.held_versions.proofs.Frees.{free_is_freed}
use Rattle.tree_timeline.specs.Types.{Items, Pages}
use Rattle.plan_steps.specs.Growth.{IsGrown, UndoGrows}
use Rattle.plan_steps.proofs.Entries.{entries_stay_rooted}
use Rattle.plan_steps.proofs.Growing.{grown_self}
use Rattle.plan_steps.proofs.Lists.{session_low}
use Rattle.plan_steps.proofs.Sites.{apart}
use Rattle.tree_plan_steps.specs.EventLaws.{BeginFollows, CommitFollows, FreeFollows}
use Rattle.tree_plan_steps.specs.Following.{Follows, MayBegin, Stands}

-- ---- an event with one group

pub held : {language : Language} → (was : Content) (c : Cluster) → Refines language was c → Held (now c)
held was c g = (now_sound was c g).held

pub rooted : {language : Language} → (was : Content) (c : Cluster) → Refines language was c → Rooted (now c)
rooted was c g = (now_sound was c g).rooted

-- the store after its group is the newest of the log
abbrev pub follows : (language : Language) (e : Event) (c : Cluster) (items : ℕ → Items) (old new : Pages)
    (T : Store) (s : ℕ) (W : Work) (m : Machine)
    → Happens language e c (cluster.grown c T s W m) → Stands items new T → UndoGrows old new
    → Follows language e c items old new
follows language e c items old new T s W m happens stands grows = record {
  after = cluster.grown c T s W m;
  happens = happens;
  stands = subst (λ (R : Store). Stands items new R) (sym (put_here c.at (suc c.lsn) T)) stands;
  grows = grows;
}

-- undo pages that a group leaves as they are
pub undo_stays : (pages : Pages) (lsn : ℕ) (records : List Record)
    → ((q : ℕ) → is_undo (pages q).kind ≡ true → after_records lsn records (pages q) ≡ pages q)
    → UndoGrows pages (grown lsn records pages)
undo_stays pages lsn records same q k =
    subst (IsGrown (pages q)) (sym (same q (ap is_undo k))) (grown_self (pages q) k)

module _ (items : ℕ → Items) (pages : Pages) (S : Store) (h : Holds items pages S) where
  -- no undo page is a page of another kind
  pub not_undo : (p q : ℕ) → is_undo (pages p).kind ≡ false → is_undo (pages q).kind ≡ true
      → (pages p).page ≢ (pages q).page
  not_undo p q other undo e =
      apart pages is_undo q p undo other
      (sym (h.counters.numbered q) ∙ (sym e ∙ h.counters.numbered p))

  pub meta_other : is_undo (pages 0).kind ≡ false
  meta_other = ap is_undo h.counters.meta.kind

  pub slots_other : is_undo (pages 1).kind ≡ false
  slots_other = ap is_undo h.slots.page.kind

-- ---- begin

module _ {language : Language} (was : Content) (c : Cluster) (items : ℕ → Items) (pages : Pages)
    (lsn s : ℕ) (records : List Record) (g : Refines language was c)
    (st : Stands items pages (now c)) where
  abbrev S : Store
  S = now c

  abbrev new : Pages
  new = grown lsn records pages

  pub begin_grows : S.next ≤ MAX_TRX_ID → Begins (pages 0) (pages 1) s S.next records
      → UndoGrows pages new
  begin_grows room b =
      undo_stays pages lsn records
      (λ q k. b.runs.only lsn (pages q) (by_place q k (nat_eq (stamp_place S.next) 0) refl))
    where
      by_place : (q : ℕ) → is_undo (pages q).kind ≡ true → (first : Bool)
          → nat_eq (stamp_place S.next) 0 ≡ first
          → AllByRecursion (λ (page : Image). page.page ≢ (pages q).page)
          (if first then unmade (stamp_page S.next) ∷ pages 1 ∷ pages 0 ∷ [] else pages 1 ∷ pages 0 ∷ [])
      by_place q k true e =
          let fresh : pages (stamp_page S.next) ≡ unmade (stamp_page S.next) =
          st.holds.stamps.free S.next (omega arith) room (eqb-true (stamp_place S.next) 0 e) in (
            subst (λ (im : Image). im.page ≢ (pages q).page) fresh
                (not_undo items pages S st.holds (stamp_page S.next) q
                (ap (λ (im : Image). is_undo im.kind) fresh) k),
            (
              not_undo items pages S st.holds 1 q (slots_other items pages S st.holds) k,
              (not_undo items pages S st.holds 0 q (meta_other items pages S st.holds) k, tt),
            ),
          )
      by_place q k false e = (
        not_undo items pages S st.holds 1 q (slots_other items pages S st.holds) k,
        (not_undo items pages S st.holds 0 q (meta_other items pages S st.holds) k, tt),
      )

  abbrev begin_by : MayBegin c s → s < sessions → S.next ≤ MAX_TRX_ID
      → Begins (pages 0) (pages 1) s S.next records
      → Follows language (event.begins s) c items pages new
  begin_by may low room b =
      follows language (event.begins s) c items pages new (begun S s) s
      (record (c.work s) { ending = false }) c.machine
      (may.no_job, may.open_mode, may.free, may.has, refl)
      (record {
        holds = begin_is_begun items pages S s lsn records st.holds low room b;
        entries = entries_stay_rooted.keep (group.begins s) S (begun S s) (may.free, refl)
            (held was c g) (rooted was c g) st.entries;
        behind = st.behind;
      }) (begin_grows room b)

abbrev pub begin_follows : (language : Language) → BeginFollows language
begin_follows language was c items pages lsn s records g st may low room b =
    let next : (counters_of (pages 0)).next ≡ (now c).next = sym st.holds.counters.next_is in
    begin_by was c items pages lsn s records g st may low
    (subst (λ (t : ℕ). t ≤ MAX_TRX_ID) next room)
    (subst (λ (t : ℕ). Begins (pages 0) (pages 1) s t records) next b)

-- ---- commit

-- who has a slot, by the slot
pub holder_is : (slot : Slot) (n : ℕ) → holder slot ≡ Some n → (slot.trx ≡ n) × (1 ≤ n)
holder_is slot n e = by_test (nat_eq slot.trx 0) refl e
  where
    by_test : (b : Bool) → nat_eq slot.trx 0 ≡ b → (if b then None else Some slot.trx) ≡ Some n
        → (slot.trx ≡ n) × (1 ≤ n)
    by_test true z e = absurd (let f : None ≡ Some n = e in cc)
    by_test false z e = let same : slot.trx ≡ n = (let f : Some slot.trx ≡ Some n = e in cc) in
        (same, grind arith)

module _ {language : Language} (was : Content) (c : Cluster) (items : ℕ → Items) (pages : Pages)
    (lsn s n : ℕ) (records : List Record) (g : Refines language was c)
    (st : Stands items pages (now c)) (slot : (now c).slot s ≡ Some n) where
  pub low : s < sessions
  low = session_low pages (now c) s n st.holds.slots slot

  pub trx_is : ((slot_of (pages 1) s).trx ≡ n) × (1 ≤ n)
  trx_is = holder_is (slot_of (pages 1) s) n (sym (st.holds.slots.slots s low) ∙ slot)

  abbrev commit_by : MayCommit c s n → Commits (pages 0) (pages 1) (pages (stamp_page n)) s records
      → Follows language (event.commits s) c items pages (grown lsn records pages)
  commit_by may b =
      let below : n < (now c).next = (held was c g).open_below s n slot in
      let stamps_other : is_undo (pages (stamp_page n)).kind ≡ false =
      ap is_undo (st.holds.stamps.made n trx_is.1 below).kind in
      follows language (event.commits s) c items pages (grown lsn records pages)
      (stamped (now c) s n) s (record (c.work s) { installed = [] }) _
      (n, may, refl)
      (record {
        holds = commit_is_stamped items pages (now c) s n lsn records st.holds low slot below b;
        entries = entries_stay_rooted.keep (group.commits s) (now c) (stamped (now c) s n)
            (n, slot, refl) (held was c g) (rooted was c g) st.entries;
        behind = st.behind;
      })
      (undo_stays pages lsn records
      (λ q k. b.runs.only lsn (pages q) (
        not_undo items pages (now c) st.holds (stamp_page n) q stamps_other k,
        (
          not_undo items pages (now c) st.holds 1 q (slots_other items pages (now c) st.holds) k,
          (not_undo items pages (now c) st.holds 0 q (meta_other items pages (now c) st.holds) k, tt),
        ),
      )))

  -- a slot that points to no undo item has an empty undo list
  none_left : (slot_of (pages 1) s).last.page ≡ 0 → (now c).undo s ≡ []
  none_left none = by_list ((now c).undo s) (st.holds.undo s n low slot)
    where
      by_list : (us : List UndoEntry) → UndoList pages n (current items) (slot_of (pages 1) s).last us → us ≡ []
      by_list [] list = refl
      by_list (u ∷ us) list =
          absurd (let p = list.0.stands.page in let e = none in grind arith)

  free_by : MayUndo c s n → (slot_of (pages 1) s).last.page ≡ 0 → Frees (pages 1) s records
      → Follows language (event.frees s) c items pages (grown lsn records pages)
  free_by may none b =
      follows language (event.frees s) c items pages (grown lsn records pages)
      (freed (now c) s) s (c.work s) c.machine
      (n, may, none_left none, refl)
      (record {
        holds = free_is_freed items pages (now c) s lsn records st.holds low b;
        entries = entries_stay_rooted.keep (group.frees s) (now c) (freed (now c) s)
            (n, slot, none_left none, refl) (held was c g) (rooted was c g) st.entries;
        behind = st.behind;
      })
      (undo_stays pages lsn records
      (λ q k. b.runs.only lsn (pages q)
      (not_undo items pages (now c) st.holds 1 q (slots_other items pages (now c) st.holds) k, tt)))

abbrev pub commit_follows : (language : Language) → CommitFollows language
commit_follows language was c items pages lsn s n records g st may b =
    commit_by was c items pages lsn s n records g st may.slot may
    (subst (λ (t : ℕ). Commits (pages 0) (pages 1) (pages (stamp_page t)) s records)
    (trx_is was c items pages lsn s n records g st may.slot).0 b)

pub free_follows : (language : Language) → FreeFollows language
free_follows language was c items pages lsn s n records g st may none b =
    free_by was c items pages lsn s n records g st may.slot may none b
