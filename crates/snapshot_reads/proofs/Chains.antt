-- A chain of versions that is read in later states shows what its leaf's state shows.
use Rattle.std.proofs.Common.{◌≡◌, ◌≤◌, ℕ, Bool, true, false, List, [], ◌∷◌, if◌then◌else◌, ◌||◌, Option, Some, None, option_and_then, refl, sym, ap, subst, ◌∙◌, arith, inl, inr, le_trans}
use Rattle.rm_base.specs.declared.limits.TheConstants.{MAX_TRX_ID}
use Rattle.rm_base.specs.declared.places.UndoPtr.{UndoPtr}
use Rattle.page_view.specs.declared.leaf.LeafItem.{LeafItem}
use Rattle.commit_stamps.specs.Stamping.{stamp_in, stamp_page}
use Rattle.undo_versions.specs.Chains.{GoesOn, version_before}
use Rattle.undo_versions.specs.Walking.{is_page, old_of, replaced}
use Rattle.tree_timeline.specs.Types.{PagesAt}
use Rattle.tree_timeline.specs.Walks.{Visit}
use Rattle.version_store.specs.Stores.{Store}
use Rattle.version_store.specs.Versions.{Version, is_own, seen, seen_root, visible}
use Rattle.held_versions.specs.Keeping.{KeepsUndo}
use Rattle.held_versions.specs.Versions.{Has, IsPointer, Versions}
use Rattle.range_reader.specs.Uses.{Looks, LooksUp}
use Rattle.snapshot_reads.specs.Times.{image_at, Rises}
use Rattle.snapshot_reads.specs.Pasts.{StampsLater}
use Rattle.snapshot_reads.specs.Told.{Saying, Shows, Tells}
use Rattle.snapshot_reads.proofs.Rising.{rises_end}

-- a version that is not seen is passed over
passed : (Says : Saying) (v : Version) (vs : List Version) (stamp : ℕ → ℕ) (n : ℕ) (own : Option ℕ)
    (r : Option LeafItem) → (is_own own v.trx || visible (stamp v.trx) n) ≡ false
    → Tells Says vs stamp n own r → Tells Says (v ∷ vs) stamp n own r
passed Says v vs stamp n own None h t =
    ap (λ b. if b then v.row else seen vs stamp n own) h ∙ t
passed Says v vs stamp n own (Some item) h t = record {
  version = t.version;
  says = t.says;
  shown = t.shown;
  row = ap (λ b. if b then v.row else seen vs stamp n own) h ∙ t.row;
  root = ap (λ b. if b then Some v.root else seen_root vs stamp n own) h ∙ t.root;
}

-- one that is seen is the one that is shown
here : (Says : Saying) (v : Version) (vs : List Version) (stamp : ℕ → ℕ) (n : ℕ) (own : Option ℕ)
    (item : LeafItem) → Says item v → (is_own own v.trx || visible (stamp v.trx) n) ≡ true
    → Shows Says (v ∷ vs) stamp n own item
here Says v vs stamp n own item says h = record {
  version = v;
  says = says;
  shown = h;
  row = ap (λ b. if b then v.row else seen vs stamp n own) h;
  root = ap (λ b. if b then Some v.root else seen_root vs stamp n own) h;
}

-- a stamp that is looked up later shows the same
later_visible : (S R : Store) (t n : ℕ) → n ≤ S.last → StampsLater S R t
    → visible (R.stamp t) n ≡ visible (S.stamp t) n
later_visible S R t n l (inl e) = ap (λ x. visible x n) e
later_visible S R t n l (inr p) = let p0 = p.0 in let p1 = p.1 in grind (arith, l)

-- each transaction's stamp is the one on its page
abbrev pub StampsOf : PagesAt → (ℕ → Store) → ℕ → ℕ → Type 0
StampsOf at S base end =
    (j t : ℕ) → base ≤ j → j ≤ end → 1 ≤ t → t ≤ MAX_TRX_ID
    → (S j).stamp t ≡ stamp_in (at j (stamp_page t)) t

-- each page has its number
abbrev pub Numbered : PagesAt → ℕ → ℕ → Type 0
Numbered at base end = (j q : ℕ) → base ≤ j → j ≤ end → (at j q).page ≡ q

module _ (at : PagesAt) (S : ℕ → Store) (base end n : ℕ) (own : Option ℕ)
    (later : (i j t : ℕ) → base ≤ i → i ≤ j → j ≤ end → StampsLater (S i) (S j) t)
    (stamps : StampsOf at S base end) (numbered : Numbered at base end)
    (keeps : (i j : ℕ) → base ≤ i → i ≤ j → j ≤ end → KeepsUndo (at i) (at j))
    (Says : Saying) (i : ℕ) (from : base ≤ i) (low : n ≤ (S i).last)
  where
    looked_up : (u : Visit) (t : ℕ) → i ≤ u.time → u.time ≤ end
        → (at u.time u.page).page ≡ stamp_page t → 1 ≤ t → t ≤ MAX_TRX_ID
        → visible (stamp_in (at u.time u.page) t) n ≡ visible ((S i).stamp t) n
    looked_up u t a b named some most =
        ap (λ q. visible (stamp_in (at u.time q) t) n)
        (sym (numbered u.time u.page (le_trans from a) b) ∙ named)
        ∙ (ap (λ x. visible x n) (sym (stamps u.time t (le_trans from a) b some most))
        ∙ later_visible (S i) (S u.time) t n low (later i u.time t from a b))

    -- whether a version of another transaction is seen, by the use of its page of stamps
    other : (u : Visit) (v : Version) (item : LeafItem) (b : Bool) → i ≤ u.time → u.time ≤ end
        → Has Says (at i) item v → LooksUp (image_at at u) n own item b
        → (is_own own v.trx || visible ((S i).stamp v.trx) n) ≡ b
    other u v item b lo hi has looks =
        ap (λ y. is_own own y || visible ((S i).stamp y) n) has.trx
        ∙ (ap (λ c. c || visible ((S i).stamp item.trx) n) looks.other
        ∙ (sym (looked_up u item.trx lo hi looks.page.number has.some has.most) ∙ looks.shown))

    -- an older item that is read later is the same
    older_there : (w : Visit) (p : UndoPtr) → i ≤ w.time → w.time ≤ end
        → (at w.time w.page).page ≡ p.page → is_page p.page ≡ true → IsPointer (at i) p
        → replaced (at w.time w.page) p ≡ replaced (at i p.page) p
    older_there w p lo hi named some (inl none) = absurd (no_page none)
      where
        no_page : p.page ≡ 0 → ⊥
        no_page e = let x : false ≡ true = sym (ap is_page e) ∙ some in cc
    older_there w p lo hi named some (inr (undo, stands)) =
        ap (λ q. replaced (at w.time q) p) (sym (numbered w.time w.page (le_trans from lo) hi)
        ∙ named)
        ∙ (ap (λ o. option_and_then old_of o) (keeps i w.time from lo hi p undo stands.item)
        ∙ sym (ap (λ o. option_and_then old_of o) stands.item))

    pub reads_chain : (us : List Visit) (t : ℕ) (item : LeafItem) (vs : List Version)
        (r : Option LeafItem) → i ≤ t → Rises end t us → Versions Says (at i) item vs
        → Looks (image_at at) n own item us r → Tells Says vs (S i).stamp n own r
    reads_chain us t item [] r a rise held looks = absurd held
    reads_chain [] t item (v ∷ vs) r a rise (has, more) (mine, is) =
        subst (λ o. Tells Says (v ∷ vs) (S i).stamp n own o) (sym is)
        (here Says v vs (S i).stamp n own item has.says
        (ap (λ y. is_own own y || visible ((S i).stamp y) n) has.trx
        ∙ ap (λ b. b || visible ((S i).stamp item.trx) n) mine))
    reads_chain (u ∷ []) t item (v ∷ vs) r a rise (has, more) (inl (shown, is)) =
        subst (λ o. Tells Says (v ∷ vs) (S i).stamp n own o) (sym is)
        (here Says v vs (S i).stamp n own item has.says
        (other u v item true (le_trans a rise.0) rise.1 has shown))
    reads_chain (u ∷ []) t item (v ∷ vs) r a rise (has, more) (inr (hidden, no_older, is)) =
        let x = other u v item false (le_trans a rise.0) rise.1 has hidden in
        let ends : vs ≡ [] = subst (λ o. GoesOn (λ old. Versions Says (at i) old vs) (vs ≡ []) o)
        (ap (λ b. if b then replaced (at i item.older.page) item.older else None) no_older)
        more in
        subst (λ o. Tells Says (v ∷ vs) (S i).stamp n own o) (sym is)
        (subst (λ ws. Tells Says (v ∷ ws) (S i).stamp n own None) (sym ends)
        (passed Says v [] (S i).stamp n own None x refl))
    reads_chain (u ∷ (w ∷ us)) t item (v ∷ vs) r a rise (has, more) (hidden, some, page, olds) =
        let le : i ≤ w.time = le_trans a (le_trans rise.0 rise.1.0) in
        let hi : w.time ≤ end = rises_end end w.time us rise.1.1 in
        let z = other u v item false (le_trans a rise.0) (le_trans rise.1.0 hi) has hidden in
        let same : replaced (at w.time w.page) item.older ≡ version_before (at i) item =
        older_there w item.older le hi page some has.pointer
        ∙ sym (ap (λ b. if b then replaced (at i item.older.page) item.older else None) some) in
        passed Says v vs (S i).stamp n own r z
        (go (version_before (at i) item) more
        (subst (λ o. GoesOn (λ old. Looks (image_at at) n own old us r) ((us ≡ [])
        × (r ≡ None)) o) same
        olds)
        (λ old held looks. reads_chain us w.time old vs r le rise.1.1 held looks))
      where
        go : (o : Option LeafItem) → GoesOn (λ old. Versions Says (at i) old vs) (vs ≡ []) o
            → GoesOn (λ old. Looks (image_at at) n own old us r) ((us ≡ []) × (r ≡ None)) o
            → ((old : LeafItem) → Versions Says (at i) old vs → Looks (image_at at) n own old us r
            → Tells Says vs (S i).stamp n own r)
            → Tells Says vs (S i).stamp n own r
        go None held looks rec =
            subst (λ ws. Tells Says ws (S i).stamp n own r) (sym held)
            (subst (λ o. Tells Says [] (S i).stamp n own o) (sym looks.1) refl)
        go (Some old) held looks rec = rec old held looks
