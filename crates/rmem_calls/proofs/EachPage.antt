-- What `invalidate` does to each of several pages that differ.
use Rattle.std.proofs.Common.{◌≡◌, ◌<◌, ◌+◌, ℕ, zero, suc, Bool, true, false, ◌||◌, List, [], ◌∷◌, length, get_or, Option, Some, None, if◌then◌else◌, nat_eq, refl, sym, ◌∙◌, ap, arith}
use Rattle.std.proofs.lemmas.Bool.{true≢false}
use Rattle.std.proofs.lemmas.List.Sums.{sum_by-cons}
use Rattle.home_model.specs.Numbered.{put}
use Rattle.home_model.specs.Entry.{Entry as HomeEntry, invalidated}
use Rattle.page_latches.specs.Set.{has}
use Rattle.home_tables.specs.Table.{entry_of}
use Rattle.home_tables.specs.Home.{HomeState, kept, entry_at}
use Rattle.home_tables.specs.declared.entry.Entry.{Entry}
use Rattle.rmem_calls.specs.Invalidating.{invalidated_all, due_count, due_pairs, AreApart, is_among}

neither_of : (b c : Bool) → (b || c) ≡ false → (b ≡ false) × (c ≡ false)
neither_of true c h = absurd (true≢false h)
neither_of false c h = (refl, h)

put_beside : (f : ℕ → HomeEntry) (p q : ℕ) (E : HomeEntry) → nat_eq q p ≡ false → put f p E q ≡ f q
put_beside f p q E t = ap (λ (b : Bool). if b then E else f q) t

put_here : (f : ℕ → HomeEntry) (p : ℕ) (E : HomeEntry) → put f p E p ≡ E
put_here f p E = let t : nat_eq p p ≡ true = grind arith in ap (λ (b : Bool). if b then E else f p) t

turned : (p q : ℕ) → nat_eq p q ≡ false → nat_eq q p ≡ false
turned p q h = grind arith

-- a page that is not among them stays
pub others_stay : (E : ℕ → HomeEntry) (n : ℕ) (pages : List ℕ) (clear : List (List ℕ)) (q : ℕ) → is_among q pages ≡ false → invalidated_all E n pages clear q ≡ E q
others_stay E n [] clear q h = refl
others_stay E n (p ∷ pages) [] q h = refl
others_stay E n (p ∷ pages) (nodes ∷ clear) q h =
    let parts = neither_of (nat_eq q p) (is_among q pages) h in
    others_stay (put E p (invalidated (E p) (has nodes) n)) n pages clear q parts.1 ∙ put_beside E p q (invalidated (E p) (has nodes) n) parts.0

not_that : (p : ℕ) (pages : List ℕ) (i : ℕ) → is_among p pages ≡ false → i < length pages → nat_eq (get_or pages i 0) p ≡ false
not_that p [] i h l = absurd (omega arith)
not_that p (q ∷ pages) zero h l = turned p q (neither_of (nat_eq p q) (is_among p pages) h).0
not_that p (q ∷ pages) (suc i) h l = not_that p pages i (neither_of (nat_eq p q) (is_among p pages) h).1 (omega arith)

-- each page is invalidated
pub each_changes : (E : ℕ → HomeEntry) (n : ℕ) (pages : List ℕ) (clear : List (List ℕ)) (i : ℕ) → AreApart pages → length clear ≡ length pages → i < length pages
    → invalidated_all E n pages clear (get_or pages i 0) ≡ invalidated (E (get_or pages i 0)) (has (get_or clear i [])) n
each_changes E n [] clear i apart same l = absurd (omega arith)
each_changes E n (p ∷ pages) [] i apart same l = absurd (omega arith)
each_changes E n (p ∷ pages) (nodes ∷ clear) zero apart same l =
    others_stay (put E p (invalidated (E p) (has nodes) n)) n pages clear p apart.0 ∙ put_here E p (invalidated (E p) (has nodes) n)
each_changes E n (p ∷ pages) (nodes ∷ clear) (suc i) apart same l =
    let rest : length clear ≡ length pages = omega arith in
    let less : i < length pages = omega arith in
    each_changes (put E p (invalidated (E p) (has nodes) n)) n pages clear i apart.1 rest less
    ∙ ap (λ (F : HomeEntry). invalidated F (has (get_or clear i [])) n) (put_beside E p (get_or pages i 0) (invalidated (E p) (has nodes) n) (not_that p pages i apart.0 less))

none_in : (nodes : List ℕ) (m : ℕ) → length nodes ≡ 0 → has nodes m ≡ false
none_in [] m h = refl
none_in (k ∷ nodes) m h = absurd (omega arith)

nobody_due : (o : Option Entry) (m : ℕ) → due_count o ≡ 0 → (entry_of o).due m ≡ false
nobody_due None m h = refl
nobody_due (Some e) m h = none_in e.due m h

-- where no pair of the pages is due, no node is due at any of them
pub none_due : (H : HomeState) (pages : List ℕ) (i m : ℕ) → due_pairs H pages ≡ 0 → i < length pages → (entry_at H (get_or pages i 0)).due m ≡ false
none_due H [] i m h l = absurd (omega arith)
none_due H (p ∷ pages) zero m h l =
    let both : due_count (kept H p) + due_pairs H pages ≡ 0 = sym (sum_by-cons (λ q. due_count (kept H q)) p pages) ∙ h in
    let here : due_count (kept H p) ≡ 0 = omega arith in
    nobody_due (kept H p) m here
none_due H (p ∷ pages) (suc i) m h l =
    let both : due_count (kept H p) + due_pairs H pages ≡ 0 = sym (sum_by-cons (λ q. due_count (kept H q)) p pages) ∙ h in
    let rest : due_pairs H pages ≡ 0 = omega arith in
    none_due H pages i m rest (omega arith)
