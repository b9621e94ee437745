-- An open statement stays so by a use of a current image and by an install.
use Rattle.std.proofs.Common.{◌≡◌, ◌≤◌, ℕ, suc, List, [], ◌∷◌, ◌++◌, Option, Some, None, refl, sym, ap, subst, ◌∙◌, arith, ◌⊎◌, inl, inr, le_trans}
use Rattle.page_image.specs.Image.{Image}
use Rattle.page_image.specs.declared.kind.Kind.TheVariants as kind
use Rattle.tree_timeline.specs.Timeline.{Unchanged}
use Rattle.tree_timeline.specs.Types.{PagesAt}
use Rattle.tree_timeline.specs.Walks.{Visit}
use Rattle.snapshot_reads.specs.Open.{Begins, Continues, InstallsMore, Spares, StillHeld, UsesMore, last_use}
use Rattle.snapshot_reads.specs.Times.{Kept, Latched, Rises}
use Rattle.snapshot_reads.proofs.Rising.{rises_end}

pub begins : Begins
begins at now = record {
  begun = (let e : now ≤ now = omega arith in e);
  rises = (let e : now ≤ now = omega arith in e);
  latched = tt;
  held = tt;
}

last_added : (us : List Visit) (v : Visit) → last_use (us ++ v ∷ []) ≡ Some v
last_added [] v = refl
last_added (u ∷ []) v = refl
last_added (u ∷ (w ∷ us)) v = last_added (w ∷ us) v

rises_more : (now t : ℕ) (us : List Visit) (v : Visit) → v.time ≡ now → Rises now t us
    → Rises now t (us ++ v ∷ [])
rises_more now t [] v e r =
    (subst (λ x. t ≤ x) (sym e) r, (let q : v.time ≤ now = omega (arith, e) in q))
rises_more now t (u ∷ us) v e r = (r.0, rises_more now u.time us v e r.1)

latched_more : (at : PagesAt) (now : ℕ) (us : List Visit) (v : Visit) → v.time ≡ now
    → Latched at us → StillHeld at now (last_use us) → Latched at (us ++ v ∷ [])
latched_more at now [] v e l h = tt
latched_more at now (u ∷ []) v e l h =
    ((λ i. inl (subst (λ x. Unchanged at u.page u.time x) (sym e) (h i))), tt)
latched_more at now (u ∷ (w ∷ us)) v e l h = (l.0, latched_more at now (w ∷ us) v e l.1 h)

-- one more use, of the image that is current
pub uses_more : UsesMore
uses_more at from now us v e o = record {
  begun = o.begun;
  rises = rises_more now from us v e o.rises;
  latched = latched_more at now us v e o.latched o.held;
  held = subst (λ x. StillHeld at now x) (sym (last_added us v))
      (λ i x a b. ap (λ y. at y v.page) (let q : x ≡ v.time = omega (arith, e, a, b) in q));
}

rises_up : (now t : ℕ) (us : List Visit) → Rises now t us → Rises (suc now) t us
rises_up now t [] r = omega (arith, r)
rises_up now t (u ∷ us) r = (r.0, rises_up now u.time us r.1)

latched_on : (at new : PagesAt) (now t : ℕ) (us : List Visit) → Continues at new now
    → Rises now t us → Latched at us → Latched new us
latched_on at new now t [] c r l = tt
latched_on at new now t (u ∷ []) c r l = tt
latched_on at new now t (u ∷ (w ∷ us)) c r l =
    let up : w.time ≤ now = rises_end now w.time us r.1.1 in
    let low : u.time ≤ now = le_trans r.1.0 up in (
      (λ i. go up low (l.0 (ap (λ (j : Image). j.kind) (sym (c u.time u.page low)) ∙ i))),
      latched_on at new now u.time (w ∷ us) c r.1 l.1,
    )
  where
    go : w.time ≤ now → u.time ≤ now → Kept at u w → Kept new u w
    go up low (inl k) =
        inl (λ x a b. c x u.page (le_trans b up) ∙ (k x a b ∙ sym (c u.time u.page low)))
    go up low (inr k) =
        inr (subst (λ (i : Image). i.structure ≤ u.time) (sym (c w.time w.page up)) k)

last_low : (now t : ℕ) (us : List Visit) (v : Visit) → Rises now t us → last_use us ≡ Some v
    → v.time ≤ now
last_low now t [] v r e = absurd (let q : None ≡ Some v = e in cc)
last_low now t (u ∷ []) v r e = subst (λ (x : Visit). x.time ≤ now) (same u v e) r.1
  where
    same : (x y : Visit) → Some x ≡ Some y → x ≡ y
    same x y q = cc
last_low now t (u ∷ (w ∷ us)) v r e = last_low now u.time (w ∷ us) v r.1 e

-- an install of one more group
pub installs_more : InstallsMore
installs_more at new from now us c spares o = record {
  begun = (let b = o.begun in omega (arith, b));
  rises = rises_up now from us o.rises;
  latched = latched_on at new now from us c o.rises o.latched;
  held = go (last_use us) refl spares o.held;
}
  where
    go : (l : Option Visit) → last_use us ≡ l → Spares at new now l → StillHeld at now l
        → StillHeld new (suc now) l
    go None e s h = tt
    go (Some v) e s h = λ i x a b. by_time i x a (least x b)
      where
        low : v.time ≤ now
        low = last_low now from us v o.rises e

        inner : (new v.time v.page).kind ≡ kind.Inner → (at v.time v.page).kind ≡ kind.Inner
        inner i = ap (λ (j : Image). j.kind) (sym (c v.time v.page low)) ∙ i

        least : (x : ℕ) → x ≤ suc now → (x ≤ now) ⊎ (x ≡ suc now)
        least x b = grind (arith, b)

        by_time : (new v.time v.page).kind ≡ kind.Inner → (x : ℕ) → v.time ≤ x
            → (x ≤ now) ⊎ (x ≡ suc now) → new x v.page ≡ new v.time v.page
        by_time i x a (inl l) =
            c x v.page l ∙ (h (inner i) x a l ∙ sym (c v.time v.page low))
        by_time i x a (inr q) =
            ap (λ y. new y v.page) q
            ∙ (s (inner i) ∙ (h (inner i) now low (let z : now ≤ now = omega arith in z)
            ∙ sym (c v.time v.page low)))
