-- For the proofs: pages hold the undone store after a change is undone.
use Rattle.std.proofs.Common.{◌≡◌, ◌≢◌, ◌<◌, ℕ, zero, suc, true, false, nat_eq, List, [], ◌∷◌, Option, Some, None, ◌⊎◌, inl, inr, refl, sym, ap, subst, ◌∙◌, arith, eqb-true}
use Rattle.std.specs.Prelude.{Contains}
use Rattle.std.proofs.lemmas.Bool.{and_parts, cases_eq}
use Rattle.rm_base.specs.declared.places.UndoPtr.{UndoPtr}
use Rattle.page_image.specs.Meta.{counters_of}
use Rattle.page_image.specs.Image.{Image, is_slotted}
use Rattle.page_view.specs.declared.leaf.LeafItem.{LeafItem}
use Rattle.page_view.specs.Leaf.{leaf_bytes, leaf_of}
use Rattle.page_view.specs.Undo.{IsOld}
use Rattle.page_view.proofs.LeafLaws.{leaf_back}
use Rattle.redo_record.specs.declared.redo.Record.{Record}
use Rattle.commit_stamps.specs.Effects.{SetsSlot}
use Rattle.commit_stamps.specs.Fields.{slot_of}
use Rattle.commit_stamps.specs.Plans.{points}
use Rattle.sql_database.specs.Catalog.{schema_of}
use Rattle.undo_versions.specs.declared.items.UndoItem.{UndoItem}
use Rattle.undo_versions.specs.Chains.{GoesOn, version_before}
use Rattle.undo_versions.specs.Reading.{older}
use Rattle.version_store.specs.Contents.{newest_root}
use Rattle.version_store.specs.Held.{Held, count, newest_of}
use Rattle.version_store.specs.Rooted.{IsLone, Rooted}
use Rattle.version_store.specs.Stores.{Store, UndoEntry, catalog, put_row, undone}
use Rattle.version_store.specs.Versions.{Row, Version}
use Rattle.version_store.specs.Versions as versions
use Rattle.version_store.proofs.Places.{count_here, either_name, put_row_apart, put_row_here}
use Rattle.held_versions.specs.Counting.{HasCounters, HasSlots, HasStamps, sessions}
use Rattle.held_versions.specs.Holds.{Holds}
use Rattle.held_versions.specs.Keeping.{KeepsOthers, KeepsUndo, grown, is_of_tree}
use Rattle.held_versions.specs.Tables.{SaysRow, SaysTable}
use Rattle.held_versions.specs.Trees.{HasTrees, IsRoot}
use Rattle.held_versions.specs.Undoing.{Undoes, UndoList, current, first_of, with_item}
use Rattle.held_versions.specs.Versions.{StandsAt, Versions, VersionsAt, of_key}
use Rattle.held_versions.proofs.Chains.{undo_list_kept, undo_list_over, versions_kept}
use Rattle.held_versions.proofs.Framing.{HasUndo}
use Rattle.held_versions.proofs.Parts.{put_there, stamps_kept}
use Rattle.held_versions.proofs.Putting.{holds_named, holds_put}
use Rattle.held_versions.proofs.Standing.{node_of_tree}
use Rattle.tree_timeline.specs.Types.{Items, Key, Pages}
use Rattle.plan_steps.specs.Growth.{UndoGrows}
use Rattle.plan_steps.specs.Parts.{TouchOnly}
use Rattle.plan_steps.specs.UndoSteps.{IsUndoStep, UndoStepIsUndone, put_back, undo_records, with_back}
use Rattle.plan_steps.proofs.Growing.{grown_keeps, grown_self}
use Rattle.plan_steps.proofs.KeyLaws.{key_gone, key_of_leaf, key_put, others_gone, others_put, tree_keeps}
use Rattle.plan_steps.proofs.Records.{Group, group_numbered, none_touch, touch_as}
use Rattle.plan_steps.proofs.Sites.{Sites, free_kept, made_below, meta_after, slots_after, slotted_tree, stamp_pages_kept, true_or_false, undo_after, undo_grows}
use Rattle.plan_steps.proofs.Lists.{other_lists, over, session_low, slots_pointed}
use Rattle.plan_steps.proofs.Trees.{Again, tree_again, trees_by}
use Rattle.plan_steps.proofs.Placing.{MetaAfter, counters_after, meta_same}
use Rattle.plan_steps.proofs.Pushing.{before_is}

-- ---- the key's item after it

back_others : (key : Key) (old : Option LeafItem) (items : Items) → IsOld key old → (j : Key)
    → j ≢ key → of_key j (put_back key old items) ≡ of_key j items
back_others key None items is j ne = others_gone key j items ne
back_others key (Some old) items is j ne =
    others_put key j (leaf_bytes old) items (key_of_leaf old ∙ is.1) ne

abbrev one_of : Option LeafItem → Items
one_of None = []
one_of (Some old) = leaf_bytes old ∷ []

back_here : (key : Key) (old : Option LeafItem) (items : Items) → IsOld key old
    → of_key key (put_back key old items) ≡ one_of old
back_here key None items is = key_gone key items
back_here key (Some old) items is = key_put key (leaf_bytes old) items (key_of_leaf old ∙ is.1)

first_back : (key : Key) (old : Option LeafItem) → IsOld key old → first_of (one_of old) ≡ old
first_back key None is = refl
first_back key (Some old) is = ap (λ (x : LeafItem). Some x) (leaf_back old is.0)

-- ---- its versions

-- the versions of an item that is there: its own, and those of the one that it replaced
pub record Topped (Says : LeafItem → Version → Type 0) (pages : Pages) (item : LeafItem)
    (ws : List Version) : Type 0 where
  pub newest : Version
  pub rest : List Version
  pub are : ws ≡ newest ∷ rest
  pub goes : GoesOn (λ old. Versions Says pages old rest) (rest ≡ []) (version_before pages item)

topped : (Says : LeafItem → Version → Type 0) (pages : Pages) (xs : Items) (item : LeafItem)
    (ws : List Version) → first_of xs ≡ Some item → VersionsAt Says pages xs ws
    → Topped Says pages item ws
topped Says pages [] item ws e h = absurd (let f : None ≡ Some item = e in cc)
topped Says pages (x ∷ []) item [] e h = absurd h
topped Says pages (x ∷ []) item (v ∷ vs) e h =
    let same : leaf_of x ≡ item = cc in
    record {
      newest = v;
      rest = vs;
      are = refl;
      goes =
          subst
          (λ (i : LeafItem). GoesOn (λ old. Versions Says pages old vs) (vs ≡ [])
          (version_before pages i)) same h.1;
    }
topped Says pages (x ∷ (y ∷ xs)) item ws e h = absurd h

back_versions : (Says : LeafItem → Version → Type 0) (old new : Pages) → KeepsUndo old new
    → (key : Key) (before : Option LeafItem) → IsOld key before → (vs : List Version)
    → GoesOn (λ item. Versions Says old item vs) (vs ≡ []) before
    → VersionsAt Says new (one_of before) vs
back_versions Says old new keeps key None is vs g = g
back_versions Says old new keeps key (Some item) is vs g =
    subst (λ (i : LeafItem). Versions Says new i vs) (sym (leaf_back item is.0))
    (versions_kept Says old new keeps item vs g)

-- ---- the other sessions

-- the newest version of a place is of one transaction
one_newest : (t v n m : ℕ) (ws : List Version) → newest_of t (suc n) ws ≡ true
    → newest_of v m ws ≡ true → t ≢ v → m ≡ 0
one_newest t v n zero ws a b ne = refl
one_newest t v n (suc m) [] a b ne = absurd (let f : false ≡ true = a in cc)
one_newest t v n (suc m) (x ∷ xs) a b ne =
    let p = and_parts (nat_eq x.trx t) (newest_of t n xs) a in
    let q = and_parts (nat_eq x.trx v) (newest_of v m xs) b in
    absurd (ne (sym (eqb-true x.trx t p.0) ∙ eqb-true x.trx v q.0))

lone_rest : (vs : List Version) → IsLone vs → versions.older vs ≡ []
lone_rest [] l = refl
lone_rest (v ∷ []) l = refl
lone_rest (v ∷ (w ∷ vs)) l = absurd l

-- ---- a change is undone

module _ (items : ℕ → Items) (pages : Pages) (S : Store) (lsn s t leaf : ℕ)
    (on_leaf : List Record) (undo : UndoItem) (entries : List UndoEntry) (h : Holds items pages S)
    (held : Held S) (rooted : Rooted S) (slot : S.slot s ≡ Some t)
    (list : S.undo s ≡ record { root = undo.root; key = undo.key } ∷ entries)
    (named : IsRoot S undo.root) (is : IsUndoStep items pages lsn s leaf on_leaf undo) where
  abbrev last : UndoPtr
  last = (slot_of (pages 1) s).last

  abbrev entry : UndoEntry
  entry = record { root = undo.root; key = undo.key }

  abbrev in_use : ℕ
  in_use = (counters_of (pages 0)).undo_page

  slots_touch : TouchOnly 1 (points (pages 1) s undo.before ∷ [])
  slots_touch =
      touch_as (pages 1).page 1 (points (pages 1) s undo.before ∷ []) h.slots.page.number
      (λ l im ne. is.pointed.runs.only l im (ne, tt))

  abbrev g : Group
  g = record {
    leaf = leaf;
    other = leaf;
    undo = in_use;
    on_leaf = on_leaf;
    on_other = [];
    on_undo = [];
    on_slots = points (pages 1) s undo.before ∷ [];
    on_meta = [];
    leaf_only = is.changes.only;
    other_only = none_touch leaf;
    undo_only = none_touch in_use;
    slots_only = slots_touch;
    meta_only = none_touch 0;
  }

  of_tree : is_of_tree (pages leaf).kind ≡ true
  of_tree =
      node_of_tree pages undo.root (items undo.root) (h.trees.trees undo.root named) leaf
      (is.changes.node (h.trees.trees undo.root named))

  leaf_below : leaf < S.pages
  leaf_below = made_below items pages S h leaf (slotted_tree (pages leaf).kind of_tree)

  in_use_below : in_use < S.pages
  in_use_below = made_below items pages S h in_use (ap is_slotted h.counters.undo_made)

  sites : Sites items pages S h g
  sites = record {
    of_tree = of_tree;
    other_is = inl refl;
    undo_is = inl h.counters.undo_made;
    undo_other = λ e.
        true_or_false (is_of_tree (pages leaf).kind) of_tree
        (ap (λ (q : ℕ). is_of_tree (pages q).kind) (sym e) ∙ ap is_of_tree h.counters.undo_made);
  }

  abbrev now : Pages
  now = grown lsn (undo_records pages s on_leaf undo) pages

  abbrev others : ℕ → Items
  others = with_back items undo

  abbrev T : Store
  T = undone S s undo.root undo.key entries

  low : s < sessions
  low = session_low pages S s t h.slots slot

  grows : UndoGrows pages now
  grows = undo_grows items pages S h lsn g sites (λ k. grown_self (pages in_use) k)

  keeps : KeepsUndo pages now
  keeps = grown_keeps pages now grows

  sets : SetsSlot (pages 1) (now 1) s (record (slot_of (pages 1) s) { last = undo.before })
  sets =
      subst
      (λ (im : Image). SetsSlot (pages 1) im s (record (slot_of (pages 1) s) { last = undo.before }))
      (sym (slots_after items pages S h lsn g sites)) (is.pointed.slot lsn)

  meta_kept : now 0 ≡ pages 0
  meta_kept = meta_after items pages S h lsn g sites

  counters : HasCounters now T
  counters =
      counters_after pages now S T in_use h.counters
      (subst (λ (im : Image). MetaAfter (pages 0) im S.pages in_use) (sym meta_kept)
      (subst (λ (n : ℕ). MetaAfter (pages 0) (pages 0) n in_use) (sym h.counters.pages_are)
      (meta_same (pages 0) h.counters.meta)))
      refl refl (omega arith) h.counters.high (group_numbered pages h.counters.numbered lsn g)
      (ap (λ (im : Image). im.kind) (undo_after items pages S h lsn g sites) ∙ h.counters.undo_made)
      (λ q past.
      (let a = leaf_below in
      let b = in_use_below in
      free_kept items pages S h lsn g sites q past (λ e. omega (arith, e, past, a))
      (λ e. omega (arith, e, past, b))))

  stamps : HasStamps now T
  stamps =
      stamps_kept pages now S T refl refl (stamp_pages_kept items pages S h lsn g sites) h.stamps

  slots : HasSlots now T
  slots = slots_pointed pages now S T s undo.before low h.slots sets refl

  -- ---- the items

  keeps_others : KeepsOthers undo.root undo.key items others
  keeps_others =
      tree_keeps items undo.root undo.key (put_back undo.key undo.old (items undo.root))
      (back_others undo.key undo.old (items undo.root) is.spelt)

  here : of_key undo.key (others undo.root) ≡ one_of undo.old
  here =
      ap (of_key undo.key) (put_there items undo.root (put_back undo.key undo.old (items undo.root)))
      ∙ back_here undo.key undo.old (items undo.root) is.spelt

  current_is : current others undo.root undo.key ≡ undo.old
  current_is = ap first_of here ∙ first_back undo.key undo.old is.spelt

  -- ---- the undo lists

  own_list : UndoList pages t (current items) last (entry ∷ entries)
  own_list = subst (UndoList pages t (current items) last) list (h.undo s t low slot)

  abbrev found : Undoes pages t (current items) last entry
  found = own_list.0

  found_is : found.undo ≡ undo
  found_is = let e : Some found.undo ≡ Some undo = sym found.stands.item ∙ is.last in cc

  rest_list : UndoList pages t (with_item (current items) undo.root undo.key undo.old) undo.before
      entries
  rest_list =
      subst
      (λ (u : UndoItem). UndoList pages t (with_item (current items) undo.root undo.key u.old)
      u.before entries) found_is own_list.1

  beside : (u v : ℕ) → u ≢ s → S.slot u ≡ Some v → count undo.root undo.key (S.undo u) ≡ 0
  beside u v ne e =
      let counted : count undo.root undo.key (S.undo s) ≡ suc (count undo.root undo.key entries) =
      ap (count undo.root undo.key) list ∙ count_here undo.root undo.key entries in
      one_newest t v (count undo.root undo.key entries) (count undo.root undo.key (S.undo u))
      (S.rows undo.root undo.key)
      (subst (λ (n : ℕ). newest_of t n (S.rows undo.root undo.key) ≡ true) counted
      (held.undoes s t undo.root undo.key slot))
      (held.undoes u v undo.root undo.key e)
      (λ same. ne (held.unique u s v e (slot ∙ ap (λ (x : ℕ). Some x) same)))

  lists : HasUndo others now T
  lists =
      other_lists items others pages now S T s t undo.root undo.key undo.before keeps h.undo sets
      keeps_others low slot refl beside entries refl
      (λ v e.
      (let is_t : t ≡ v = (let f : Some t ≡ Some v = sym slot ∙ e in cc) in
      subst (λ (x : ℕ). UndoList now x (current others) undo.before entries) is_t
      (undo_list_over now t (with_item (current items) undo.root undo.key undo.old)
      (current others)
      (over items others pages now S T s t undo.root undo.key undo.before keeps h.undo sets
      keeps_others low slot refl beside undo.old current_is)
      undo.before entries
      (undo_list_kept pages now keeps t (with_item (current items) undo.root undo.key undo.old)
      undo.before entries rest_list))))

  -- ---- the versions

  -- the item that is there points to the undo item
  present : current items undo.root undo.key ≡ Some found.item
  present =
      ap (λ (r : ℕ). current items r undo.key) found.root
      ∙ (ap (λ (k : Key). current items found.undo.root k) found.key ∙ found.present)

  replaced : version_before pages found.item ≡ undo.old
  replaced =
      before_is pages found.item found.undo
      (subst (λ (at : UndoPtr). StandsAt pages at found.undo) (sym found.points) found.stands)
      ∙ ap (λ (u : UndoItem). u.old) found_is

  older_versions : (Says : LeafItem → Version → Type 0)
      → VersionsAt Says pages (of_key undo.key (items undo.root)) (S.rows undo.root undo.key)
      → VersionsAt Says now (of_key undo.key (others undo.root))
      (versions.older (S.rows undo.root undo.key))
  older_versions Says before =
      let top = topped Says pages (of_key undo.key (items undo.root)) found.item
      (S.rows undo.root undo.key) present before in
      subst (λ (xs : Items). VersionsAt Says now xs (versions.older (S.rows undo.root undo.key)))
      (sym here)
      (subst (VersionsAt Says now (one_of undo.old)) (sym (ap versions.older top.are))
      (back_versions Says pages now keeps undo.key undo.old is.spelt top.rest
      (subst (GoesOn (λ old. Versions Says pages old top.rest) (top.rest ≡ [])) replaced top.goes)))

  -- ---- the trees

  again : (r : ℕ) → IsRoot S r → Again items others pages now S T h undo.root r
  again r a =
      let x = tree_again items pages S h lsn g sites undo.root named
      (put_back undo.key undo.old (items undo.root)) is.changes.node is.changes.stands r a in
      (x.0, λ q c. inl (a, subst (λ (ns : List ℕ). Contains ns q) x.1 c))

  trees_from : ((r : ℕ) → IsRoot T r → IsRoot S r) → HasTrees others now T
  trees_from back = trees_by items others pages now S T h undo.root (λ r a. again r (back r a))

  -- ---- a row, or a table

  row_undone : undo.root ≢ catalog → Holds others now T
  row_undone ne =
      holds_put items others pages now S T undo.root undo.key
      (versions.older (S.rows undo.root undo.key)) h keeps keeps_others refl ne
      (λ a v def one is_def e.
      older_versions (SaysRow (schema_of def))
      (subst
      (λ (r : ℕ). VersionsAt (SaysRow (schema_of def)) pages (of_key undo.key (items r))
      (S.rows r undo.key)) e (h.rows a undo.key v def one is_def)))
      counters stamps slots lists (trees_from back)
    where
      back : (r : ℕ) → IsRoot T r → IsRoot S r
      back r (inl e) = inl e
      back r (inr (a, e)) =
          inr (
            a,
            ap newest_root (sym (put_row_apart S.rows undo.root undo.key
                (versions.older (S.rows undo.root undo.key)) catalog a (λ f _. ne (sym f)))) ∙ e,
          )

  table_undone : undo.root ≡ catalog → Holds others now T
  table_undone at =
      holds_named items others pages now S T undo.key (versions.older (S.rows catalog undo.key)) h
      keeps (λ j ne. keeps_others catalog j (λ _ f. ne f)) rows_are
      (subst
      (λ (r : ℕ). VersionsAt SaysTable now (of_key undo.key (others r))
      (versions.older (S.rows r undo.key))) at
      (older_versions SaysTable
      (subst
      (λ (r : ℕ). VersionsAt SaysTable pages (of_key undo.key (items r)) (S.rows r undo.key))
      (sym at) (h.tables undo.key))))
      (λ v def e _. absurd (let f : [] ≡ v ∷ [] = sym gone ∙ e in cc))
      (λ a v ne one.
      (let m = rooted.made a v.root (ap newest_root one) in
      let apart : v.root ≢ catalog = λ e. omega (arith, e, m.0) in
      (apart, λ j. keeps_others v.root j (λ e _. apart (e ∙ at)))))
      counters stamps slots lists (trees_from back)
    where
      gone : versions.older (S.rows catalog undo.key) ≡ []
      gone = lone_rest (S.rows catalog undo.key) (rooted.lone undo.key)

      rows_are : T.rows ≡ put_row S.rows catalog undo.key (versions.older (S.rows catalog undo.key))
      rows_are =
          ap (λ (r : ℕ). put_row S.rows r undo.key (versions.older (S.rows r undo.key))) at

      back : (r : ℕ) → IsRoot T r → IsRoot S r
      back r (inl e) = inl e
      back r (inr (a, e)) = by_name (either_name a undo.key)
        where
          names : T.rows catalog a
              ≡ put_row S.rows catalog undo.key (versions.older (S.rows catalog undo.key)) catalog a
          names = ap (λ (rows : ℕ → List ℕ → List Version). rows catalog a) rows_are

          by_name : (a ≡ undo.key) ⊎ (a ≡ undo.key → ⊥) → IsRoot S r
          by_name (inl same) =
              absurd (let f : None ≡ Some r =
              ap newest_root (sym (names
              ∙ (ap (λ (k : List ℕ). put_row S.rows catalog undo.key
              (versions.older (S.rows catalog undo.key)) catalog k) same
              ∙ (put_row_here S.rows catalog undo.key (versions.older (S.rows catalog undo.key))
              ∙ gone)))) ∙ e in cc)
          by_name (inr ne) =
              inr (
                a,
                ap newest_root (sym (names
                    ∙ put_row_apart S.rows catalog undo.key
                    (versions.older (S.rows catalog undo.key)) catalog a (λ _ f. ne f))) ∙ e,
              )

  change_undone : Holds others now T
  change_undone = by_root (cases_eq undo.root catalog)
    where
      by_root : (undo.root ≡ catalog) ⊎ (undo.root ≢ catalog) → Holds others now T
      by_root (inl e) = table_undone e
      by_root (inr ne) = row_undone ne

-- the entry is that of the undo item
entry_is : (items : ℕ → Items) (pages : Pages) (S : Store) (s t : ℕ) (undo : UndoItem)
    (entry : UndoEntry) (entries : List UndoEntry) → Holds items pages S → S.slot s ≡ Some t
    → S.undo s ≡ entry ∷ entries
    → older (pages (slot_of (pages 1) s).last.page) (slot_of (pages 1) s).last ≡ Some undo
    → entry ≡ record { root = undo.root; key = undo.key }
entry_is items pages S s t undo entry entries h slot list last =
    λ i. record { root = root_is i; key = key_is i }
  where
    own : UndoList pages t (current items) (slot_of (pages 1) s).last (entry ∷ entries)
    own =
        subst (UndoList pages t (current items) (slot_of (pages 1) s).last) list
        (h.undo s t (session_low pages S s t h.slots slot) slot)

    same : own.0.undo ≡ undo
    same = let e : Some own.0.undo ≡ Some undo = sym own.0.stands.item ∙ last in cc

    root_is : entry.root ≡ undo.root
    root_is = own.0.root ∙ ap (λ (u : UndoItem). u.root) same

    key_is : entry.key ≡ undo.key
    key_is = own.0.key ∙ ap (λ (u : UndoItem). u.key) same

pub undo_step_is_undone : UndoStepIsUndone
undo_step_is_undone items pages S lsn s t leaf on_leaf undo entry entries h held rooted slot list
    named is =
    let same = entry_is items pages S s t undo entry entries h slot list is.last in
    let list_is : S.undo s ≡ record { root = undo.root; key = undo.key } ∷ entries =
    list ∙ ap (λ (e : UndoEntry). e ∷ entries) same in
    let named_is : IsRoot S undo.root =
    subst (IsRoot S) (ap (λ (e : UndoEntry). e.root) same) named in
    subst
    (λ (e : UndoEntry). Holds (with_back items undo)
    (grown lsn (undo_records pages s on_leaf undo) pages) (undone S s e.root e.key entries)
    × UndoGrows pages (grown lsn (undo_records pages s on_leaf undo) pages))
    (sym same) (
      change_undone items pages S lsn s t leaf on_leaf undo entries h held rooted slot list_is
          named_is is,
      grows items pages S lsn s t leaf on_leaf undo entries h held rooted slot list_is named_is is,
    )
