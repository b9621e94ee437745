-- The entries of pages that are invalidated one after the other.
use Rattle.std.proofs.Common.{◌≡◌, ◌<◌, ◌+◌, ℕ, Bool, true, false, List, ◌∷◌, length, drop, get_or, Option, Some, None, if◌then◌else◌, nat_eq, eqb-true, refl, sym, ◌∙◌, ap, arith}
use Rattle.std.proofs.lemmas.Bool.{true≢false}
use Rattle.std.proofs.lemmas.List.{drop_more}
use mathlib.Core.Path.{fun_ext}
use Rattle.home_model.specs.Numbered.{put}
use Rattle.home_model.specs.Entry.{Entry as HomeEntry, no_entry, invalidated}
use Rattle.page_latches.specs.Set.{has}
use Rattle.home_tables.specs.Table.{entry_of}
use Rattle.home_tables.specs.Home.{HomeState, kept, entry_at, ChangesAt}
use Rattle.home_tables.specs.declared.entry.Entry.{Entry}
use Rattle.rmem_calls.specs.Invalidating.{invalidated_all}

absent_entry : (o : Option Entry) → (entry_of o).there ≡ false → entry_of o ≡ no_entry
absent_entry None h = refl
absent_entry (Some e) h = absurd (true≢false h)

-- a change of the entry of page p, also where it has none
changes_put : (H H' : HomeState) (p : ℕ) (f : HomeEntry → HomeEntry) → ChangesAt H H' p f → f no_entry ≡ no_entry → entry_at H' ≡ put (entry_at H) p (f (entry_at H p))
changes_put H H' p f change stays = by (entry_at H p).there refl
  where
    same : (entry_at H p).there ≡ false → (q : ℕ) (b : Bool) → nat_eq q p ≡ b → entry_at H q ≡ (if b then f (entry_at H p) else entry_at H q)
    same h q true t =
        let absent : entry_at H p ≡ no_entry = absent_entry (kept H p) h in
        ap (entry_at H) (eqb-true q p t) ∙ absent ∙ sym (ap f absent ∙ stays)
    same h q false t = refl

    by : (b : Bool) → (entry_at H p).there ≡ b → entry_at H' ≡ put (entry_at H) p (f (entry_at H p))
    by true h = change.there h
    by false h = ap entry_at (change.none h) ∙ fun_ext (λ q. same h q (nat_eq q p) refl)

none_invalidated : (fresh : ℕ → Bool) (n : ℕ) → invalidated no_entry fresh n ≡ no_entry
none_invalidated fresh n = refl

pub invalidate_step : (H H' : HomeState) (n i p : ℕ) (nodes : List ℕ) (pages : List ℕ) (clear : List (List ℕ)) (all : ℕ → HomeEntry) → i < length pages → length clear ≡ length pages
    → p ≡ get_or pages i p → nodes ≡ get_or clear i nodes → ChangesAt H H' p (λ E. invalidated E (has nodes) n)
    → invalidated_all (entry_at H) n (drop i pages) (drop i clear) ≡ all → invalidated_all (entry_at H') n (drop (i + 1) pages) (drop (i + 1) clear) ≡ all
invalidate_step H H' n i p nodes pages clear all within same is_page is_nodes change before =
    let other : i < length clear = omega arith in
    let more_pages : drop i pages ≡ p ∷ drop (i + 1) pages = drop_more pages i p within ∙ ap (λ (q : ℕ). q ∷ drop (i + 1) pages) (sym is_page) in
    let more_clear : drop i clear ≡ nodes ∷ drop (i + 1) clear = drop_more clear i nodes other ∙ ap (λ (q : List ℕ). q ∷ drop (i + 1) clear) (sym is_nodes) in
    ap (λ (E : ℕ → HomeEntry). invalidated_all E n (drop (i + 1) pages) (drop (i + 1) clear)) (changes_put H H' p (λ E. invalidated E (has nodes) n) change (none_invalidated (has nodes) n))
    ∙ sym (
    ap (λ (ps : List ℕ). invalidated_all (entry_at H) n ps (drop i clear)) more_pages
    ∙ ap (λ (cs : List (List ℕ)). invalidated_all (entry_at H) n (p ∷ drop (i + 1) pages) cs) more_clear
    )
    ∙ before
