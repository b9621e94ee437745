-- For the proofs: the undo lists after a change, and after the undoing of one.
use Rattle.std.proofs.Common.{◌≡◌, ◌≢◌, ◌<◌, ℕ, zero, suc, true, false, nat_eq, List, [], ◌∷◌, Option, Some, None, ◌⊎◌, inl, inr, refl, sym, ap, subst, ◌∙◌}
use Rattle.std.specs.Prelude.{not}
use Rattle.std.proofs.lemmas.Bool.{cases_eq, cases_lt, and_parts}
use Rattle.rm_base.specs.declared.places.UndoPtr.{UndoPtr}
use Rattle.page_view.specs.declared.leaf.LeafItem.{LeafItem}
use Rattle.commit_stamps.specs.declared.slots.Slot.{Slot}
use Rattle.commit_stamps.specs.Effects.{SetsSlot}
use Rattle.commit_stamps.specs.Fields.{slot_of}
use Rattle.undo_versions.specs.declared.items.UndoItem.{UndoItem}
use Rattle.version_store.specs.Held.{count, newest_of, none_of}
use Rattle.version_store.specs.Stores.{Store, UndoEntry, put}
use Rattle.version_store.specs.Versions.{Version}
use Rattle.held_versions.specs.Counting.{HasSlots, holder, sessions}
use Rattle.held_versions.specs.Keeping.{KeepsOthers, KeepsUndo}
use Rattle.held_versions.specs.Undoing.{UndoList, current, with_item}
use Rattle.held_versions.specs.Versions.{StandsAt}
use Rattle.held_versions.proofs.Chains.{undo_list_kept, undo_list_over}
use Rattle.held_versions.proofs.Framing.{HasUndo}
use Rattle.held_versions.proofs.Listing.{current_put, undo_list_apart, undo_list_more}
use Rattle.held_versions.proofs.Parts.{put_elsewhere, put_there, slot_elsewhere, slot_there, slots_set}
use Rattle.tree_timeline.specs.Types.{Items, Key, Pages}
use Rattle.plan_steps.specs.Parts.{KeepsOld}

-- a transaction without a version of a place has no entry of it
pub none_counted : (t n : ℕ) (vs : List Version) → newest_of t n vs ≡ true → none_of t vs ≡ true
    → n ≡ 0
none_counted t zero vs newest none = refl
none_counted t (suc n) [] newest none = absurd (let f : false ≡ true = newest in cc)
none_counted t (suc n) (v ∷ vs) newest none =
    let a = and_parts (nat_eq v.trx t) (newest_of t n vs) newest in
    let b = and_parts (not (nat_eq v.trx t)) (none_of t vs) none in
    absurd (let f : not true ≡ true = ap not (sym a.0) ∙ b.0 in cc)

-- a slot that keeps its transaction
pub put_same : (f : ℕ → Option ℕ) (s : ℕ) (v : Option ℕ) → f s ≡ v → f ≡ put f s v
put_same f s v e = λ i n. by_case n (cases_eq n s) i
  where
    by_case : (n : ℕ) → (n ≡ s) ⊎ (n ≢ s) → f n ≡ put f s v n
    by_case n (inl same) =
        ap f same ∙ (e ∙ (sym (put_there f s v) ∙ ap (put f s v) (sym same)))
    by_case n (inr ne) = sym (put_elsewhere f s v n ne)

-- the session of a slot that is taken is one of those that there are
pub session_low : (pages : Pages) (S : Store) (s t : ℕ) → HasSlots pages S → S.slot s ≡ Some t
    → s < sessions
session_low pages S s t h e =
    elim (cases_lt s 64) [
      | inl below ↦ below
      | inr past ↦ absurd (let f : None ≡ Some t = sym (h.others s past) ∙ e in cc)
    ]

-- the slot points elsewhere, and its transaction stays
pub slots_pointed : (old new : Pages) (S T : Store) (s : ℕ) (at : UndoPtr) → s < sessions
    → HasSlots old S → SetsSlot (old 1) (new 1) s (record (slot_of (old 1) s) { last = at })
    → T.slot ≡ S.slot → HasSlots new T
slots_pointed old new S T s at low h sets same =
    slots_set old new S T s (record (slot_of (old 1) s) { last = at }) low h sets
    (same ∙ put_same S.slot s (holder (slot_of (old 1) s)) (h.slots s low))

module _ (items others : ℕ → Items) (old new : Pages) (S T : Store) (s t root : ℕ) (key : Key)
    (at : UndoPtr) (keeps : KeepsUndo old new) (lists : HasUndo items old S)
    (sets : SetsSlot (old 1) (new 1) s (record (slot_of (old 1) s) { last = at }))
    (apart : KeepsOthers root key items others) (low : s < sessions) (slot : S.slot s ≡ Some t)
    (same : T.slot ≡ S.slot)
    (beside : (u v : ℕ) → u ≢ s → S.slot u ≡ Some v → count root key (S.undo u) ≡ 0) where
  slot_same : (u v : ℕ) → T.slot u ≡ Some v → S.slot u ≡ Some v
  slot_same u v e = ap (λ (f : ℕ → Option ℕ). f u) (sym same) ∙ e

  -- the items that stand after it
  pub over : (x : Option LeafItem) → current others root key ≡ x → (q : ℕ) (j : Key)
      → current others q j ≡ with_item (current items) root key x q j
  over x e q j =
      current_put root key items others apart q j
      ∙ ap (λ (y : Option LeafItem). with_item (current items) root key y q j) e

  -- the other sessions' lists
  pub other_lists : (us : List UndoEntry) → T.undo ≡ put S.undo s us
      → ((v : ℕ) → S.slot s ≡ Some v → UndoList new v (current others) at us)
      → HasUndo others new T
  other_lists us lists_are own u v below is = by_case (cases_eq u s)
    where
      slot' : Slot
      slot' = record (slot_of (old 1) s) { last = at }

      by_case : (u ≡ s) ⊎ (u ≢ s)
          → UndoList new v (current others) (slot_of (new 1) u).last (T.undo u)
      by_case (inl e) =
          subst (λ (r : ℕ). UndoList new v (current others) (slot_of (new 1) r).last (T.undo r))
          (sym e)
          (subst (λ (x : Slot). UndoList new v (current others) x.last (T.undo s))
          (sym (slot_there (old 1) (new 1) s slot' low sets))
          (subst (UndoList new v (current others) at)
          (sym (ap (λ (f : ℕ → List UndoEntry). f s) lists_are ∙ put_there S.undo s us))
          (own v (ap S.slot (sym e) ∙ slot_same u v is))))
      by_case (inr ne) =
          subst (λ (x : Slot). UndoList new v (current others) x.last (T.undo u))
          (sym (slot_elsewhere (old 1) (new 1) s slot' u below ne sets))
          (subst (UndoList new v (current others) (slot_of (old 1) u).last)
          (sym (ap (λ (f : ℕ → List UndoEntry). f u) lists_are ∙ put_elsewhere S.undo s us u ne))
          (undo_list_over new v (with_item (current items) root key (current others root key))
          (current others) (current_put root key items others apart)
          (slot_of (old 1) u).last (S.undo u)
          (undo_list_apart new v (current items) root key (current others root key)
          (slot_of (old 1) u).last (S.undo u) (beside u v ne (slot_same u v is))
          (undo_list_kept old new keeps v (current items) (slot_of (old 1) u).last (S.undo u)
          (lists u v below (slot_same u v is))))))

  -- one entry more
  pub lists_pushed : (undo : UndoItem) (item : LeafItem) → KeepsOld items old s t root key undo
      → current others root key ≡ Some item → StandsAt new at undo → item.trx ≡ t
      → item.older ≡ at
      → T.undo ≡ put S.undo s (record { root = root; key = key } ∷ S.undo s)
      → HasUndo others new T
  lists_pushed undo item keeps_old here stands wrote points lists_are =
      other_lists (entry ∷ S.undo s) lists_are own
    where
      entry : UndoEntry
      entry = record { root = root; key = key }

      before : UndoList new t (current items) undo.before (S.undo s)
      before =
          subst (λ (a : UndoPtr). UndoList new t (current items) a (S.undo s))
          (sym keeps_old.before_is)
          (undo_list_kept old new keeps t (current items) (slot_of (old 1) s).last (S.undo s)
          (lists s t low slot))

      old_there : undo.old ≡ current items undo.root undo.key
      old_there =
          keeps_old.old_is
          ∙ (ap (λ (r : ℕ). current items r key) (sym keeps_old.root_is)
          ∙ ap (λ (k : Key). current items undo.root k) (sym keeps_old.key_is))

      more : UndoList new t (with_item (current items) undo.root undo.key (Some item)) at
          (entry ∷ S.undo s)
      more =
          undo_list_more new t (current items) at entry (S.undo s) undo item stands
          keeps_old.trx_is (sym keeps_old.root_is) (sym keeps_old.key_is) old_there wrote points
          before

      placed : (q : ℕ) (j : Key)
          → current others q j ≡ with_item (current items) undo.root undo.key (Some item) q j
      placed q j =
          over (Some item) here q j
          ∙ (ap (λ (r : ℕ). with_item (current items) r key (Some item) q j) (sym keeps_old.root_is)
          ∙ ap (λ (k : Key). with_item (current items) undo.root k (Some item) q j)
          (sym keeps_old.key_is))

      is_t : (v : ℕ) → S.slot s ≡ Some v → t ≡ v
      is_t v e = let f : Some t ≡ Some v = sym slot ∙ e in cc

      own : (v : ℕ) → S.slot s ≡ Some v → UndoList new v (current others) at (entry ∷ S.undo s)
      own v e =
          subst (λ (x : ℕ). UndoList new x (current others) at (entry ∷ S.undo s)) (is_t v e)
          (undo_list_over new t (with_item (current items) undo.root undo.key (Some item))
          (current others) placed at (entry ∷ S.undo s) more)
