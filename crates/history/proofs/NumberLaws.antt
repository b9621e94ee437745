-- The machine stays fair as its numbers move.
use Rattle.std.proofs.Common.{◌≡◌, ℕ, suc, ◌≤◌, ◌<◌, ◌+◌, ◌-◌, Bool, true, false, Option, Some, None, List, if◌then◌else◌, nat_eq, arith, eqb-true, refl, sym, subst, ap, le_trans, ◌∙◌}
use Rattle.std.proofs.Math.Path.{fun_ext}
use Rattle.history.proofs.FittingLaws.{fits_transfer, quiet_since, word_stays}
use Rattle.history.proofs.PlaceLaws.{not_said}
use Rattle.history.proofs.TimelineLaws.{at_same, latest_next, latest_rises, latest_same}
use Rattle.history.specs.Fitting.{FitsAll}
use Rattle.history.specs.Machines.{FairParts}
use Rattle.history.specs.Places.{says, is_said}
use Rattle.history.specs.Timelines.{timeline_of, content_at, latest, Timeline}
use Rattle.sql_database.specs.Database.{Database}
use Rattle.sql_database.specs.declared.changes.Change.{Change}
use Rattle.table_machine.specs.Machine.{Transaction, Session}
use Rattle.version_store.proofs.Places.{put_here}
use Rattle.version_store.specs.Contents.{Content, catalog_name}
use Rattle.version_store.specs.Stores.{put}

-- ---- the numbers move

module _ (was : Content) (base : Database) (first count end : ℕ) (changes : ℕ → List Change) (j : ℕ) (w : Option ℕ)
    (ss : ℕ → Session) (g : FairParts was base first count end changes j w ss) where
  pub fair_count : (c : ℕ) → count ≤ c → c ≤ end → FairParts was base first c end changes j w ss
  fair_count c l h = record {
    base_is = g.base_is;
    low = (let a = g.low in omega (arith, a, l));
    high = h;
    snaps = λ s t e. (let x = g.snaps s t e in (x.0, (let y = x.1 in omega (arith, y, l))));
    outside = g.outside;
    alone = g.alone;
    proper = g.proper;
    late = g.late;
    line = g.line;
    own = g.own;
    writes = g.writes;
  }

  pub fair_end : (n : ℕ) → n ≤ end → count ≤ n → FairParts was base first count n changes j w ss
  fair_end n l h = record {
    base_is = g.base_is;
    low = g.low;
    high = h;
    snaps = g.snaps;
    outside = g.outside;
    alone = g.alone;
    proper = g.proper;
    late = λ s t a k e p. le_trans
        (latest_rises (timeline_of was first changes) n end a k (let x = g.low in omega (arith, x, h)) l)
        (g.late s t a k e p);
    line = λ i f u. g.line i f (omega (arith, u, l));
    own = g.own;
    writes = g.writes;
  }

  -- a commit more, whose places no session has
  pub fair_grow : (n : ℕ) (cs : List Change) → n ≡ suc end
      → FitsAll (content_at (timeline_of was first changes) end) cs
      → ((u : ℕ) (t : Transaction) (a k : List ℕ) → (ss u).transaction ≡ Some t → is_said (says t.pending a k) ≡ true
      → is_said (says cs a k) ≡ true → ⊥)
      → FairParts was base first count n (put changes n cs) j w ss
  fair_grow n cs ne fits free = record {
    base_is = g.base_is;
    low = g.low;
    high = (let h = g.high in omega (arith, h, ne));
    snaps = g.snaps;
    outside = g.outside;
    alone = g.alone;
    proper = g.proper;
    late = λ s t a k e p. subst (λ x. latest new x a k ≤ t.snap) (sym ne)
        (subst (λ x. x ≤ t.snap)
        (sym (latest_next new end a k low
        ∙ ap (λ o. if is_said o then suc end else latest new end a k) (nothing s t a k e p)
        ∙ latest_same old new end a k refl same low)) (g.late s t a k e p));
    line = λ i f l. line i f l (nat_eq i end) refl;
    own = λ s t e. subst (λ f. FitsAll f t.pending)
        (fun_ext (λ a. fun_ext
        (λ k. sym (at_same old new t.snap a k refl refl
        (λ i p. same i (let x = (g.snaps s t e).1 in let h = g.high in omega (arith, x, h, p)))
        (g.snaps s t e).0)))) (g.own s t e);
    writes = g.writes;
  }
    where
      old : Timeline
      old = timeline_of was first changes

      new : Timeline
      new = timeline_of was first (put changes n cs)

      low : first ≤ end
      low = let a = g.low in let b = g.high in omega (arith, a, b)

      same : (i : ℕ) → i ≤ end → put changes n cs i ≡ changes i
      same i l = let e : nat_eq i n ≡ false = grind (arith, ne, l) in ap (λ b. if b then cs else changes i) e

      at : put changes n cs (suc end) ≡ cs
      at = subst (λ x. put changes n cs x ≡ cs) ne (put_here changes n cs)

      nothing : (s : ℕ) (t : Transaction) (a k : List ℕ) → (ss s).transaction ≡ Some t
          → is_said (says t.pending a k) ≡ true → says (put changes n cs (suc end)) a k ≡ None
      nothing s t a k e p = ap (λ c. says c a k) at ∙ not_said (says cs a k) (free s t a k e p)

      line : (i : ℕ) → first ≤ i → i < n → (b : Bool) → nat_eq i end ≡ b
          → FitsAll (content_at new i) (put changes n cs (suc i))
      line i f l true e =
          let ie : i ≡ end = eqb-true i end e in
          subst (λ x. FitsAll (content_at new x) (put changes n cs (suc x))) (sym ie)
          (subst (λ c. FitsAll (content_at new end) c) (sym at)
          (subst (λ z. FitsAll z cs)
          (fun_ext (λ a. fun_ext (λ k. sym (at_same old new end a k refl refl same low)))) fits))
      line i f l false e =
          let lt : i < end = grind (arith, ne, l) in
          subst (λ c. FitsAll (content_at new i) c) (sym (same (suc i) (omega (arith, lt))))
          (subst (λ z. FitsAll z (changes (suc i)))
          (fun_ext (λ a. fun_ext
          (λ k. sym (at_same old new i a k refl refl (λ x p. same x (omega (arith, p, lt))) f))))
          (g.line i f lt))

  -- what a transaction has pending fits the last commit too
  pub fits_end : (s : ℕ) (t : Transaction) → (ss s).transaction ≡ Some t
      → FitsAll (content_at (timeline_of was first changes) end) t.pending
  fits_end s t e =
      let lo = (g.snaps s t e).0 in let hi = (g.snaps s t e).1 in let up = g.high in
      let z : t.snap + (end - t.snap) ≡ end = omega (arith, hi, up) in
      fits_transfer t.pending (content_at (timeline_of was first changes) t.snap)
      (content_at (timeline_of was first changes) end)
      (λ a x q. subst (λ n. content_at (timeline_of was first changes) n catalog_name a ≡ Some x) z
      (word_stays (timeline_of was first changes) end g.line t.snap (end - t.snap) a x lo (omega (arith, z)) q))
      (λ a q. subst
      (λ n. content_at (timeline_of was first changes) n catalog_name a ≡ content_at
      (timeline_of was first changes) t.snap catalog_name a) z
      (quiet_since (timeline_of was first changes) t.snap (end - t.snap) catalog_name a lo
      (subst (λ n. latest (timeline_of was first changes) n catalog_name a ≤ t.snap) (sym z)
      (g.late s t catalog_name a e q))))
      (g.own s t e)
