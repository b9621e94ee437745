-- One entry after the other: what is kept of each becomes f of what was kept of it.
use Rattle.std.proofs.Common.{◌≡◌, ◌≢◌, ◌≤◌, ◌<◌, ◌+◌, ◌-◌, ℕ, zero, suc, Bool, true, false, ◌||◌, List, [], ◌∷◌, length, take, set, get_or, nat_lt, Option, Some, None, nat_eq, eqb-true, refl, sym, ◌∙◌, ap, subst, arith}
use Rattle.std.proofs.lemmas.Bool.{true≢false, ltb-true, ltb-false}
use Rattle.std.proofs.lemmas.List.{take_all, get_or-take, get_or-set_other, length-take-le, length-take, length-set}
use Rattle.std.proofs.lemmas.List.Folds.{list_any_more, list_any_at}
use Rattle.std.proofs.lemmas.List.Quantifiers.{position-Some}
use Rattle.std.proofs.lemmas.Option.{slice_get_within, get_or_from_slice_get, slice_get-get_or}
use Rattle.std.proofs.lemmas.Map.Made.{is_some-lookup}
use Rattle.std.proofs.lemmas.Map.Entries.{length-keys_of}
use Rattle.std.proofs.lemmas.Map.Keys.{apart_from_distinct}
use Rattle.std.specs.List.{list_any, position, slice_get, swap_remove, IsDistinct}
use Rattle.indexmap.specs.IndexMap.{swap_remove_by, swap_remove_entry}
use Rattle.indexmap.proofs.SetLemmas.{keys_swap_remove_entry}
use Rattle.std.specs.Option.{option_map_or}
use Rattle.std.specs.Map.{keys_of}
use mathlib.Core.Path.{fun_ext}
use Rattle.home_model.specs.Entry.{Entry as HomeEntry, no_entry}
use Rattle.home_tables.specs.Table.{entry_of}
use Rattle.home_tables.specs.Home.{HomeState, kept, kept_in, entry_at}
use Rattle.home_tables.specs.Losing.{Becomes, AllBecome}
use Rattle.home_tables.specs.Places.{pages_in, is_among, KeepsBefore}
use Rattle.home_tables.specs.declared.entry.Entry.{Entry}
use Rattle.home_tables.proofs.Entries.{not_found}

no_pages : (pages : List ℕ) (q : ℕ) → is_among 0 pages q ≡ false
no_pages [] q = refl
no_pages (p ∷ pages) q = refl

one_more : (pages : List ℕ) (i p q : ℕ) → slice_get pages i ≡ Some p → is_among (i + 1) pages q ≡ (is_among i pages q || nat_eq q p)
one_more pages i p q at =
    list_any_more (nat_eq q) pages i p (slice_get_within pages i p at) ∙ ap (λ (k : ℕ). is_among i pages q || nat_eq q k) (get_or_from_slice_get pages i p p at)

-- no page stands twice
not_before : (pages : List ℕ) (i p : ℕ) → IsDistinct nat_eq pages → slice_get pages i ≡ Some p → (j : ℕ) → j ≤ i → is_among j pages p ≡ false
not_before pages i p distinct at = below
  where
    within : i < length pages
    within = slice_get_within pages i p at

    apart : (j : ℕ) → j < i → nat_eq p (get_or pages j 0) ≡ false
    apart j less =
        let differ : nat_eq (get_or pages j 0) (get_or pages i 0) ≡ false = apart_from_distinct nat_eq pages j i 0 distinct less within in
        let here : get_or pages i 0 ≡ p = get_or_from_slice_get pages i p 0 at in
        grind (arith, differ, here)

    below : (j : ℕ) → j ≤ i → is_among j pages p ≡ false
    below zero h = no_pages pages p
    below (suc j) h =
        let inside : j < length pages = omega (arith, within) in
        let next : j + 1 ≡ suc j = omega arith in
        subst (λ (n : ℕ). is_among n pages p ≡ false) next (list_any_more (nat_eq p) pages j 0 inside ∙ rw (below j (omega arith), apart j (omega arith)) refl)

-- the entries at the first i places have become f of what was kept of their pages, and the others stay
pub record BecomeTo (before after : HomeState) (f : HomeEntry → HomeEntry) (i : ℕ) : Type 0 where
  pub pages : pages_in after ≡ pages_in before
  pub done : (q : ℕ) → is_among i (pages_in before) q ≡ true → entry_at after q ≡ f (entry_at before q)
  pub rest : (q : ℕ) → is_among i (pages_in before) q ≡ false → kept after q ≡ kept before q
  pub watermark : after.watermark ≡ before.watermark

pub become_none : (H : HomeState) (f : HomeEntry → HomeEntry) → BecomeTo H H f 0
become_none H f = record {
  pages = refl;
  done = λ q h. absurd (true≢false (sym h ∙ no_pages (pages_in H) q));
  rest = λ q h. refl;
  watermark = refl;
}

pub become_more : (before mid after : HomeState) (f : HomeEntry → HomeEntry) (i p : ℕ) → IsDistinct nat_eq (pages_in before) → BecomeTo before mid f i
    → slice_get (pages_in mid) i ≡ Some p → Becomes mid after p f → pages_in after ≡ pages_in mid → BecomeTo before after f (i + 1)
become_more before mid after f i p distinct old at step same =
    record {
      pages = same ∙ old.pages;
      done = λ q h. on_page q (nat_eq q p) refl (sym (one_more (pages_in before) i p q here) ∙ h);
      rest = λ q h. beside q (is_among i (pages_in before) q) refl (nat_eq q p) refl (sym (one_more (pages_in before) i p q here) ∙ h);
      watermark = step.watermark ∙ old.watermark;
    }
  where
    here : slice_get (pages_in before) i ≡ Some p
    here = subst (λ (ps : List ℕ). slice_get ps i ≡ Some p) old.pages at

    on_page : (q : ℕ) (b : Bool) → nat_eq q p ≡ b → (is_among i (pages_in before) q || b) ≡ true → entry_at after q ≡ f (entry_at before q)
    on_page q true t h =
        let is : q ≡ p = eqb-true q p t in
        subst (λ (k : ℕ). entry_at after k ≡ f (entry_at before k)) (sym is) (step.here ∙ ap (λ (o : Option Entry). f (entry_of o)) (old.rest p (not_before (pages_in before) i p distinct here i (omega arith))))
    on_page q false t h =
        let apart : q ≢ p = grind (arith, t) in
        ap entry_of (step.beside q apart) ∙ old.done q (on_left (is_among i (pages_in before) q) h)
      where
        on_left : (b : Bool) → (b || false) ≡ true → b ≡ true
        on_left true e = refl
        on_left false e = e

    beside : (q : ℕ) (b : Bool) → is_among i (pages_in before) q ≡ b → (c : Bool) → nat_eq q p ≡ c → (b || c) ≡ false → kept after q ≡ kept before q
    beside q true among c t h = absurd (true≢false h)
    beside q false among true t h = absurd (true≢false h)
    beside q false among false t h =
        let apart : q ≢ p = grind (arith, t) in
        step.beside q apart ∙ old.rest q among

-- a page that is among none has no entry
no_page : (es : List (ℕ × Entry)) (i q : ℕ) → length es ≤ i → is_among i (keys_of es) q ≡ false → kept_in es q ≡ None
no_page es i q all none =
    let count : length (keys_of es) ≡ length es = length-keys_of es in
    not_found es q (is_some-lookup (nat_eq q) es ∙ ap (λ (ps : List ℕ). list_any (nat_eq q) ps) (sym (take_all i (keys_of es) (omega (arith, count)))) ∙ none)

pub become_all : (before after : HomeState) (f : HomeEntry → HomeEntry) (i : ℕ) → f no_entry ≡ no_entry → length before.entries ≤ i → BecomeTo before after f i → AllBecome before after f
become_all before after f i none all old =
    record {
      entries = fun_ext (λ p. by p (is_among i (pages_in before) p) refl);
      watermark = old.watermark;
    }
  where
    by : (p : ℕ) (b : Bool) → is_among i (pages_in before) p ≡ b → entry_at after p ≡ f (entry_at before p)
    by p true h = old.done p h
    by p false h =
        let absent = no_page before.entries i p all h in
        ap entry_of (old.rest p h ∙ absent) ∙ sym (ap (λ (o : Option Entry). f (entry_of o)) absent ∙ none)

-- the entries from place i on have become f of what was kept of their pages, and the others stay at their places
pub record BecomeFrom (before after : HomeState) (f : HomeEntry → HomeEntry) (i : ℕ) : Type 0 where
  pub pages : (j : ℕ) → j < i → slice_get (pages_in after) j ≡ slice_get (pages_in before) j
  pub done : (q : ℕ) → is_among i (pages_in before) q ≡ false → entry_at after q ≡ f (entry_at before q)
  pub rest : (q : ℕ) → is_among i (pages_in before) q ≡ true → kept after q ≡ kept before q
  pub watermark : after.watermark ≡ before.watermark

pub from_end : (H : HomeState) (f : HomeEntry → HomeEntry) (i : ℕ) → f no_entry ≡ no_entry → length H.entries ≤ i → BecomeFrom H H f i
from_end H f i none all = record {
  pages = λ j h. refl;
  done = λ q h. let absent = no_page H.entries i q all h in ap entry_of absent ∙ sym (ap (λ (o : Option Entry). f (entry_of o)) absent ∙ none);
  rest = λ q h. refl;
  watermark = refl;
}

same_among : (ps qs : List ℕ) (i q : ℕ) → ((j : ℕ) → j < i → slice_get ps j ≡ slice_get qs j) → is_among i ps q ≡ is_among i qs q
same_among ps qs zero q same = no_pages ps q ∙ sym (no_pages qs q)
same_among [] [] (suc i) q same = refl
same_among [] (r ∷ qs) (suc i) q same = absurd (let e : None ≡ Some r = same 0 (omega arith) in cc)
same_among (p ∷ ps) [] (suc i) q same = absurd (let e : Some p ≡ None = same 0 (omega arith) in cc)
same_among (p ∷ ps) (r ∷ qs) (suc i) q same =
    let e : Some p ≡ Some r = same 0 (omega arith) in
    let head : p ≡ r = cc in
    rw (head, same_among ps qs i q (λ j less. same (suc j) (omega arith))) refl

-- the last place that is not passed yet is one of the pages
pub not_passed : (before after : HomeState) (f : HomeEntry → HomeEntry) (i j : ℕ) → BecomeFrom before after f i → i ≤ length before.entries → j < i → j < length (pages_in after)
not_passed before after f i j old bound less = by (slice_get (pages_in before) j) refl
  where
    by : (o : Option ℕ) → slice_get (pages_in before) j ≡ o → j < length (pages_in after)
    by None e =
        let count : length (pages_in before) ≡ length before.entries = length-keys_of before.entries in
        let some : slice_get (pages_in before) j ≡ Some (get_or (pages_in before) j 0) = slice_get-get_or (pages_in before) j 0 (omega (arith, count)) in
        absurd (let clash : None ≡ Some (get_or (pages_in before) j 0) = sym e ∙ some in cc)
    by (Some p) e = slice_get_within (pages_in after) j p (old.pages j less ∙ e)

pub one_less : (before mid after : HomeState) (f : HomeEntry → HomeEntry) (i p : ℕ) → IsDistinct nat_eq (pages_in before) → BecomeFrom before mid f (i + 1)
    → slice_get (pages_in mid) i ≡ Some p → Becomes mid after p f → KeepsBefore mid after p → BecomeFrom before after f i
one_less before mid after f i p distinct old at step keeps =
    record {
      pages = λ j less. keeps j (not_so_far j less) ∙ old.pages j (omega arith);
      done = λ q h. on_page q (nat_eq q p) refl h;
      rest = λ q h. beside q (nat_eq q p) refl h;
      watermark = step.watermark ∙ old.watermark;
    }
  where
    here : slice_get (pages_in before) i ≡ Some p
    here = sym (old.pages i (omega arith)) ∙ at

    unpassed : is_among i (pages_in before) p ≡ false
    unpassed = not_before (pages_in before) i p distinct here i (omega arith)

    not_so_far : (j : ℕ) → j < i → is_among (j + 1) (pages_in mid) p ≡ false
    not_so_far j less = same_among (pages_in mid) (pages_in before) (j + 1) p (λ k h. old.pages k (omega arith)) ∙ not_before (pages_in before) i p distinct here (j + 1) (omega arith)

    on_page : (q : ℕ) (b : Bool) → nat_eq q p ≡ b → is_among i (pages_in before) q ≡ false → entry_at after q ≡ f (entry_at before q)
    on_page q true t h =
        let is : q ≡ p = eqb-true q p t in
        let among : is_among (i + 1) (pages_in before) p ≡ true = one_more (pages_in before) i p p here ∙ rw (subst (λ (k : ℕ). nat_eq k p ≡ true) is t) (on_right (is_among i (pages_in before) p)) in
        subst (λ (k : ℕ). entry_at after k ≡ f (entry_at before k)) (sym is) (step.here ∙ ap (λ (o : Option Entry). f (entry_of o)) (old.rest p among))
      where
        on_right : (b : Bool) → (b || true) ≡ true
        on_right true = refl
        on_right false = refl
    on_page q false t h =
        let apart : q ≢ p = grind (arith, t) in
        ap entry_of (step.beside q apart) ∙ old.done q (one_more (pages_in before) i p q here ∙ rw (h, t) refl)

    beside : (q : ℕ) (b : Bool) → nat_eq q p ≡ b → is_among i (pages_in before) q ≡ true → kept after q ≡ kept before q
    beside q true t h =
        let is : q ≡ p = eqb-true q p t in
        absurd (true≢false (sym (subst (λ (k : ℕ). is_among i (pages_in before) k ≡ true) is h) ∙ unpassed))
    beside q false t h =
        let apart : q ≢ p = grind (arith, t) in
        step.beside q apart ∙ old.rest q (one_more (pages_in before) i p q here ∙ rw h refl)

pub to_start : (before after : HomeState) (f : HomeEntry → HomeEntry) → BecomeFrom before after f 0 → entry_at after ≡ (λ p. f (entry_at before p))
to_start before after f old = fun_ext (λ p. old.done p (no_pages (pages_in before) p))

-- where page p was taken out, and the last page took its place
swapped_out : (pages : List ℕ) (p i : ℕ) → is_among (i + 1) pages p ≡ false → slice_get (swap_remove_by (nat_eq p) pages) i ≡ slice_get pages i
swapped_out [] p i h = refl
swapped_out (k ∷ ks) p i h = by (position (nat_eq p) (k ∷ ks)) refl
  where
    by : (o : Option ℕ) → position (nat_eq p) (k ∷ ks) ≡ o → slice_get (option_map_or (λ m. swap_remove (k ∷ ks) m k) o (k ∷ ks)) i ≡ slice_get (k ∷ ks) i
    by None e = refl
    by (Some m) e =
        let found = position-Some (nat_eq p) (k ∷ ks) m 0 e in
        earlier m found.0 found.1 (nat_lt i m) refl
      where
        earlier : (m : ℕ) → m < length (k ∷ ks) → nat_eq p (get_or (k ∷ ks) m 0) ≡ true → (b : Bool) → nat_lt i m ≡ b → slice_get (swap_remove (k ∷ ks) m k) i ≡ slice_get (k ∷ ks) i
        earlier m within is true t =
            let less : i < m = ltb-true i m t in
            let last = get_or (k ∷ ks) (length (k ∷ ks) - 1) k in
            let count : length (set (k ∷ ks) m last) ≡ length (k ∷ ks) = length-set (k ∷ ks) m last in
            let size : length (take (length (k ∷ ks) - 1) (set (k ∷ ks) m last)) ≡ length (k ∷ ks) - 1 = length-take-le (length (k ∷ ks) - 1) (set (k ∷ ks) m last) (omega (arith, count)) in
            slice_get-get_or (take (length (k ∷ ks) - 1) (set (k ∷ ks) m last)) i 0 (omega (arith, size, within))
            ∙ ap (λ (x : ℕ). Some x) (get_or-take (length (k ∷ ks) - 1) (set (k ∷ ks) m last) i 0 (omega (arith, within)) ∙ get_or-set_other (k ∷ ks) m i last 0 (λ (same : i ≡ m). omega arith))
            ∙ sym (slice_get-get_or (k ∷ ks) i 0 (omega (arith, within)))
        earlier m within is false t =
            let past : m ≤ i = ltb-false i m t in
            absurd (true≢false (sym (among m past within is) ∙ h))
          where
            among : (m : ℕ) → m ≤ i → m < length (k ∷ ks) → nat_eq p (get_or (k ∷ ks) m 0) ≡ true → is_among (i + 1) (k ∷ ks) p ≡ true
            among m past within is =
                let size = length-take (i + 1) (k ∷ ks) in
                list_any_at (nat_eq p) (take (i + 1) (k ∷ ks)) m 0 (omega (arith, size, within)) (ap (λ (x : ℕ). nat_eq p x) (get_or-take (i + 1) (k ∷ ks) m 0 (omega arith)) ∙ is)

pub keeps_before : (es : List (ℕ × Entry)) (p i : ℕ) → is_among (i + 1) (keys_of es) p ≡ false → slice_get (keys_of (swap_remove_entry (nat_eq p) es)) i ≡ slice_get (keys_of es) i
keeps_before es p i h = ap (λ (ks : List ℕ). slice_get ks i) (keys_swap_remove_entry (nat_eq p) es) ∙ swapped_out (keys_of es) p i h
