use Rattle.std.proofs.Common.{◌≡◌, List, Some, None, sym, subst}
use Rattle.std.specs.List.{position}
use Rattle.coherent_pool.specs.declared.works.FetchWork.{FetchWork}
use Rattle.coherent_pool.specs.Works.{is_of, SetsWork}
use Rattle.coherent_pool.proofs.Fetches.{sets_less, sets_gone}
use Rattle.coherent_pool.proofs.works.Works.end.Goals as goal

pub returns-in_err-at : goal.returns-in_err-at
returns-in_err-at c =
    let ws = c.self.inside.items.items in
    let p = c.args.page in
    let at : position (is_of p) ws ≡ None = subst (λ (xs : List FetchWork). position (is_of p) xs ≡ None) c.as_slice.ensures.value (sym c.in_err-at.ensures) in
    subst (λ (xs : List FetchWork). SetsWork p None xs xs) c.self.view_is (sets_gone ws p at)

pub returns : goal.returns
returns c =
    let ws = c.self.inside.items.items in
    let p = c.args.page in
    let at : position (is_of p) ws ≡ Some c.in_ok-at.at = subst (λ (xs : List FetchWork). position (is_of p) xs ≡ Some c.in_ok-at.at) c.as_slice.ensures.value (sym c.in_ok-at.ensures) in
    let less : SetsWork p None ws c.remove.new.self.items = subst (λ (xs : List FetchWork). SetsWork p None ws xs) (sym c.remove.ensures.items) (sets_less ws p c.in_ok-at.at c.remove.result c.self.invariant at) in
    subst (λ (xs : List FetchWork). SetsWork p None xs c.remove.new.self.items) c.self.view_is less
