-- One page's entry changes, and the pages of the laws with it.
use Rattle.std.proofs.Common.{◌≡◌, ◌≢◌, ℕ, Bool, true, false, cond, nat_eq, eqb-true, Option, Some, None, refl, sym, ap, ◌∙◌, arith}
use mathlib.Core.Path.{fun_ext}
use Rattle.home_model.specs.Numbered.{put, nobody}
use Rattle.home_model.specs.Entry.{Entry as HomeEntry, no_entry, unregistered}
use Rattle.home_tables.specs.Table.{entry_of}
use Rattle.home_tables.specs.Home.{HomeState, kept, entry_at, ChangesAt}
use Rattle.home_tables.specs.declared.entry.Entry.{Entry}
use Rattle.page_coherence.specs.Page.{Page}
use Rattle.page_coherence.specs.Cluster.{State as Pages}
use Rattle.pool_laws.specs.Calls.{only}
use Rattle.pool_laws.specs.Serving.{at_pages}
use Rattle.home_service.specs.HomeSide.{HomeSide}
use Rattle.home_service.specs.Joining.{AreParts, Sees}

same_number : (p : ℕ) → nat_eq p p ≡ true
same_number p = grind arith

other_number : (q p : ℕ) → q ≢ p → nat_eq q p ≡ false
other_number q p apart = grind arith

pub put_at : {A : Type 0} (f : ℕ → A) (p : ℕ) (v : A) → put f p v p ≡ v
put_at f p v = ap (λ (b : Bool). cond b v (f p)) (same_number p)

pub put_beside : {A : Type 0} (f : ℕ → A) (p q : ℕ) (v : A) → q ≢ p → put f p v q ≡ f q
put_beside f p q v apart = ap (λ (b : Bool). cond b v (f q)) (other_number q p apart)

put_same : {A : Type 0} (f : ℕ → A) (p : ℕ) (v : A) → v ≡ f p → f ≡ put f p v
put_same {A = A} f p v is = fun_ext (λ q. by q (nat_eq q p) refl)
  where
    by : (q : ℕ) (b : Bool) → nat_eq q p ≡ b → f q ≡ cond b v (f q)
    by q true h = ap f (eqb-true q p h) ∙ sym is
    by q false h = refl

-- an entry that is not there is none
not_there : (o : Option Entry) → (entry_of o).there ≡ false → entry_of o ≡ no_entry
not_there None h = refl
not_there (Some e) h = absurd cc

-- a change that leaves no entry as it is changes one page's entry
pub changes_put : (H H' : HomeState) (p : ℕ) (f : HomeEntry → HomeEntry) → f no_entry ≡ no_entry → ChangesAt H H' p f
    → entry_at H' ≡ put (entry_at H) p (f (entry_at H p))
changes_put H H' p f none change = by (entry_at H p).there refl
  where
    by : (b : Bool) → (entry_at H p).there ≡ b → entry_at H' ≡ put (entry_at H) p (f (entry_at H p))
    by true h = change.there h
    by false h =
        let absent : entry_at H p ≡ no_entry = not_there (kept H p) h in
        ap entry_at (change.none h) ∙ put_same (entry_at H) p (f (entry_at H p)) (ap f absent ∙ none ∙ sym absent)

pub unregistered_none : (n : ℕ) → unregistered no_entry n ≡ no_entry
unregistered_none n = ap (λ (r : ℕ → Bool). let E : HomeEntry = record no_entry { refs = r } in E) (sym (put_same nobody n false refl))

-- the entry of one page has become E
pub sees_at : (s t : Pages) (S T : HomeSide) (p : ℕ) (E : HomeEntry) → Sees s S → t.watermark ≡ T.home.watermark → AreParts T.slabs t.slots
    → entry_at T.home ≡ put (entry_at S.home) p E → (t.page p).entry ≡ E → ((q : ℕ) → q ≢ p → (t.page q).entry ≡ (s.page q).entry) → Sees t T
sees_at s t S T p E sees mark parts is here beside = record {
  entries = λ q. by q (nat_eq q p) refl;
  watermark = mark;
  parts = parts;
}
  where
    by : (q : ℕ) (b : Bool) → nat_eq q p ≡ b → (t.page q).entry ≡ entry_at T.home q
    by q true h =
        let same : q ≡ p = eqb-true q p h in
        ap (λ (k : ℕ). (t.page k).entry) same ∙ here ∙ sym (put_at (entry_at S.home) p E)
        ∙ ap (λ (g : ℕ → HomeEntry). g p) (sym is) ∙ ap (entry_at T.home) (sym same)
    by q false h =
        let apart : q ≢ p = grind (arith, h) in
        beside q apart ∙ sees.entries q ∙ sym (put_beside (entry_at S.home) p q E apart) ∙ ap (λ (g : ℕ → HomeEntry). g q) (sym is)

-- the pages with a change at one of them
pub at_here : (s : Pages) (p : ℕ) (f : Page → Page) → (at_pages (only p) f s).page p ≡ f (s.page p)
at_here s p f = ap (λ (b : Bool). cond b (f (s.page p)) (s.page p)) (same_number p)

pub at_beside : (s : Pages) (p q : ℕ) (f : Page → Page) → q ≢ p → (at_pages (only p) f s).page q ≡ s.page q
at_beside s p q f apart = ap (λ (b : Bool). cond b (f (s.page q)) (s.page q)) (other_number q p apart)
