-- A search comes on telling by telling.
use Rattle.std.proofs.Common.{◌≡◌, ℕ, List, [], ◌∷◌, ◌++◌, refl, sym, ap, subst, ◌∙◌, append_assoc, Option}
use Rattle.std.proofs.lemmas.List.{append-nil}
use Rattle.bplus_tree.specs.declared.want.Want.TheVariants.{Finished}
use Rattle.tree_timeline.specs.Progress.{Progress, Tells, ComesTo}
use Rattle.tree_timeline.specs.Searching.{read_by, Searches, HoldsTo}
use Rattle.tree_timeline.specs.Types.{PagesAt}
use Rattle.tree_timeline.specs.Walks.{Visit}

pub comes_on : (at : PagesAt) (from : ℕ) (p : Progress) (visits reads : List Visit) (q : Progress)
    (n : Visit) (r : Progress)
    → ComesTo at from p visits reads q → Tells at from q n r
    → ComesTo at from p (visits ++ n ∷ []) (reads ++ read_by q.search.want n) r
comes_on at from p [] reads q n r (same, none) t = (
  r,
  [],
  subst (λ (x : Progress). Tells at from x n r) same t,
  (refl, refl),
  ap (λ (x : List Visit). x ++ read_by q.search.want n) none
      ∙ (ap (λ (x : Progress). read_by x.search.want n) same
      ∙ sym (append-nil (read_by p.search.want n))),
)
comes_on at from p (v ∷ rest) reads q n r (next, more, first, run, are) t = (
  next,
  more ++ read_by q.search.want n,
  first,
  comes_on at from next rest more q n r run t,
  ap (λ (x : List Visit). x ++ read_by q.search.want n) are
      ∙ append_assoc (read_by p.search.want v) more (read_by q.search.want n),
)

pub comes_to_end : (at : PagesAt) (from : ℕ) (p : Progress) (visits reads : List Visit)
    (q : Progress) → ComesTo at from p visits reads q → q.search.want ≡ Finished
    → Searches at from p.search p.time visits reads
comes_to_end at from p [] reads q (same, none) e =
    (ap (λ (x : Progress). x.search.want) (sym same) ∙ e, none)
comes_to_end at from p (v ∷ []) reads q (next, more, t, run, are) e =
    let rest = comes_to_end at from next [] more q run e in (
      next.search,
      more,
      t.wants,
      t.later,
      t.moves,
      tt,
      are,
      subst (λ (k : ℕ). Searches at from next.search k [] more) t.time_is rest,
    )
comes_to_end at from p (v ∷ (n ∷ rest)) reads q (next, more, t, run, are) e =
    let later = comes_to_end at from next (n ∷ rest) more q run e in (
      next.search,
      more,
      t.wants,
      t.later,
      t.moves,
      subst (λ (o : Option Visit). HoldsTo at from o n) t.above_is run.2.holds,
      are,
      subst (λ (k : ℕ). Searches at from next.search k (n ∷ rest) more) t.time_is later,
    )
