-- For the proofs: undo pages that only grow by each group grow for ever.
use Rattle.std.proofs.Common.{◌≡◌, ◌≢◌, ◌≤◌, ◌<◌, ◌+◌, ◌-◌, ℕ, zero, suc, Bool, true, false, List, [], ◌∷◌, ◌++◌, take, drop, Option, Some, None, ◌⊎◌, inl, inr, refl, sym, ap, subst, ◌∙◌, arith}
use Rattle.std.specs.Prelude.{slice_get, if◌then◌else◌, ◌&&◌, nat_eq, option_and_then}
use Rattle.std.specs.List.{AllByRecursion}
use Rattle.std.proofs.lemmas.Bool.{cases_eq, and_parts}
use Rattle.std.proofs.lemmas.Option.{slice_get_within}
use Rattle.rm_base.specs.declared.places.UndoPtr.{UndoPtr}
use Rattle.page_image.specs.declared.kind.Kind.{Kind}
use Rattle.page_image.specs.declared.kind.Kind.TheVariants.{Unmade, Meta, Slots, Stamps, Leaf, Inner, Undo}
use Rattle.page_image.specs.Image.{Image}
use Rattle.redo_record.specs.declared.redo.Record.{Record}
use Rattle.redo_record.specs.declared.redo.Record.TheVariants.{Make, Patch, InsertSlot, RemoveSlot, Cut, Link}
use Rattle.redo_record.specs.Effect.{page_of, effect, step, after_records}
use Rattle.undo_versions.specs.declared.items.UndoItem.{UndoItem}
use Rattle.undo_versions.specs.Reading.{is_undo, item_or_none, older, undo_in}
use Rattle.tree_timeline.specs.Types.{Pages, PagesAt}
use Rattle.held_versions.specs.Keeping.{KeepsUndo, grown}
use Rattle.plan_steps.specs.Growth.{IsGrown, UndoGrows, IsPutBehind, SparesUndo, UndoLasts}
use Rattle.plan_steps.proofs.Records.{step_own, step_other}

-- an item before the place at which another joins
item_before : (xs : List (List ℕ)) (n i : ℕ) (ys : List (List ℕ)) (x : List ℕ)
    → slice_get xs i ≡ Some x → i < n → slice_get (take n xs ++ ys) i ≡ Some x
item_before [] n i ys x e l = absurd (let f : None ≡ Some x = e in cc)
item_before (y ∷ xs) zero i ys x e l = absurd (omega (arith, l))
item_before (y ∷ xs) (suc n) zero ys x e l = e
item_before (y ∷ xs) (suc n) (suc i) ys x e l = item_before xs n i ys x e (omega (arith, l))

pub grown_self : (im : Image) → im.kind ≡ Undo → IsGrown im im
grown_self im k = record { kind = k; number = refl; items = λ i x e. e }

pub grown_trans : (a b c : Image) → IsGrown a b → IsGrown b c → IsGrown a c
grown_trans a b c p q =
    record { kind = q.kind; number = q.number ∙ p.number; items = λ i x e. q.items i x (p.items i x e) }

-- one more record
grows_own : (old im : Image) (r : Record) (lsn : ℕ) → IsGrown old im → IsPutBehind old r
    → IsGrown old (effect r lsn im)
grows_own old im (Make page kind level) lsn g p = absurd p
grows_own old im (Patch page at bytes) lsn g p = absurd p
grows_own old im (InsertSlot page index bytes) lsn g p = record {
  kind = g.kind;
  number = g.number;
  items = λ i x e.
      let within = slice_get_within old.items i x e in
      item_before im.items index i (bytes ∷ drop index im.items) x (g.items i x e)
      (omega (arith, within, p));
}
grows_own old im (RemoveSlot page index) lsn g p = absurd p
grows_own old im (Cut page from) lsn g p = absurd p
grows_own old im (Link page next) lsn g p = absurd p

grows_on : (pages : Pages) (q lsn : ℕ) (rs : List Record) (im : Image) → (pages q).kind ≡ Undo
    → (pages q).page ≡ q → AllByRecursion (SparesUndo pages) rs → IsGrown (pages q) im
    → IsGrown (pages q) (after_records lsn rs im)
grows_on pages q lsn [] im k n all g = g
grows_on pages q lsn (r ∷ rs) im k n all g =
    grows_on pages q lsn rs (step lsn im r) k n all.1 (one (cases_eq (page_of r) im.page))
  where
    one : (page_of r ≡ im.page) ⊎ (page_of r ≢ im.page) → IsGrown (pages q) (step lsn im r)
    one (inl e) =
        let own : page_of r ≡ q = e ∙ (g.number ∙ n) in
        let kind : (pages (page_of r)).kind ≡ Undo = ap (λ (p : ℕ). (pages p).kind) own ∙ k in
        subst (IsGrown (pages q)) (sym (step_own r lsn im e))
        (grows_own (pages q) im r lsn g
        (subst (λ (p : ℕ). IsPutBehind (pages p) r) own (all.0 kind)))
    one (inr ne) = subst (IsGrown (pages q)) (sym (step_other r lsn im ne)) g

pub group_grows : (pages : Pages) (lsn : ℕ) (rs : List Record) → ((q : ℕ) → (pages q).page ≡ q)
    → AllByRecursion (SparesUndo pages) rs → UndoGrows pages (grown lsn rs pages)
group_grows pages lsn rs numbered all q k =
    grows_on pages q lsn rs (pages q) k (numbered q) all (grown_self (pages q) k)

-- ---- over time

pub lasts_by : (at : PagesAt) (base : ℕ)
    → ((t : ℕ) → base ≤ t → UndoGrows (at t) (at (suc t))) → UndoLasts at base
lasts_by at base each t u q b l k =
    subst (λ (v : ℕ). IsGrown (at t q) (at v q))
    (let e : (u - t) + t ≡ u = omega (arith, l) in e) (go (u - t))
  where
    go : (d : ℕ) → IsGrown (at t q) (at (d + t) q)
    go zero =
        subst (λ (v : ℕ). IsGrown (at t q) (at v q)) (let e : t ≡ 0 + t = omega arith in e)
        (grown_self (at t q) k)
    go (suc d) =
        let h = go d in
        subst (λ (v : ℕ). IsGrown (at t q) (at v q))
        (let e : suc (d + t) ≡ suc d + t = omega arith in e)
        (grown_trans (at t q) (at (d + t) q) (at (suc (d + t)) q) h
        (each (d + t) (omega (arith, b)) q h.kind))

-- ---- an undo item that is read

kind_of_undo : (k : Kind) → is_undo k ≡ true → k ≡ Undo
kind_of_undo Unmade e = absurd cc
kind_of_undo Meta e = absurd cc
kind_of_undo Slots e = absurd cc
kind_of_undo Stamps e = absurd cc
kind_of_undo Leaf e = absurd cc
kind_of_undo Inner e = absurd cc
kind_of_undo Undo e = refl

abbrev read_by : Bool → Option (List ℕ) → Option UndoItem
read_by b found = item_or_none (if b then option_and_then undo_in found else None)

-- something stands there
read_there : (b : Bool) (found : Option (List ℕ)) (undo : UndoItem) → read_by b found ≡ Some undo
    → (b ≡ true) × ((x : List ℕ) × (found ≡ Some x))
read_there false found undo e = absurd cc
read_there true None undo e = absurd cc
read_there true (Some x) undo e = (refl, (x, refl))

pub older_kind : (page : Image) (at : UndoPtr) (undo : UndoItem) → older page at ≡ Some undo
    → page.kind ≡ Undo
older_kind page at undo e =
    let r = read_there (is_undo page.kind && nat_eq page.page at.page)
    (slice_get page.items at.slot) undo e in
    kind_of_undo page.kind (and_parts (is_undo page.kind) (nat_eq page.page at.page) r.0).0

pub older_grown : (old new : Image) → IsGrown old new → (at : UndoPtr) (undo : UndoItem)
    → older old at ≡ Some undo → older new at ≡ Some undo
older_grown old new g at undo e =
    let r = read_there (is_undo old.kind && nat_eq old.page at.page)
    (slice_get old.items at.slot) undo e in
    let k : old.kind ≡ Undo = older_kind old at undo e in
    let x : List ℕ = r.1.0 in
    ap (λ (b : Kind). read_by (is_undo b && nat_eq new.page at.page) (slice_get new.items at.slot))
    (g.kind ∙ sym k)
    ∙ (ap (λ (p : ℕ). read_by (is_undo old.kind && nat_eq p at.page) (slice_get new.items at.slot))
    g.number
    ∙ (ap (λ (f : Option (List ℕ)). read_by (is_undo old.kind && nat_eq old.page at.page) f)
    (g.items at.slot x r.1.1 ∙ sym r.1.1)
    ∙ e))

pub grown_keeps : (old new : Pages) → UndoGrows old new → KeepsUndo old new
grown_keeps old new g at undo e =
    older_grown (old at.page) (new at.page)
    (g at.page (older_kind (old at.page) at undo e)) at undo e
