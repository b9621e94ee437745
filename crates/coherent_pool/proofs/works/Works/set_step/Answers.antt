use Rattle.std.proofs.Common.{◌≡◌, List, Some, None, set, sym, subst, refl}
use Rattle.std.specs.List.{position}
use Rattle.coherent_pool.specs.declared.works.FetchWork.{FetchWork}
use Rattle.coherent_pool.specs.Works.{is_of, work_at, SetsWork, stepped_work, at_fetch}
use Rattle.coherent_pool.proofs.Fetches.{apart_by, sets_by, sets_none}
use Rattle.coherent_pool.proofs.works.Works.set_step.Goals as goal

pub invariant_of-self : goal.invariant_of-self
invariant_of-self c =
    let ws = c.self.inside.items.items in
    let p = c.args.page in
    let at : position (is_of p) ws ≡ Some c.in-Some.at = subst (λ (xs : List FetchWork). position (is_of p) xs ≡ Some c.in-Some.at) c.as_slice.ensures.value (sym c.in-Some.ensures) in
    apart_by ws p c.in-Some.at _ c.self.invariant at c.requires

pub returns-in-Some : goal.returns-in-Some
returns-in-Some c =
    let ws = c.self.inside.items.items in
    let p = c.args.page in
    let d = c.index_mut.result.now in
    let at : position (is_of p) ws ≡ Some c.in-Some.at = subst (λ (xs : List FetchWork). position (is_of p) xs ≡ Some c.in-Some.at) c.as_slice.ensures.value (sym c.in-Some.ensures) in
    let w : FetchWork = record d { step = c.args.step } in
    let P : List FetchWork → Type 0 = λ xs. SetsWork p (stepped_work c.args.step (work_at xs p)) xs (set ws c.in-Some.at w) in
    subst P c.self.view_is (sets_by (at_fetch c.args.step) ws p c.in-Some.at d w at c.index_mut.ensures.value (refl) c.requires)

pub returns-in_default : goal.returns-in_default
returns-in_default c =
    let ws = c.self.inside.items.items in
    let p = c.args.page in
    let at : position (is_of p) ws ≡ None = subst (λ (xs : List FetchWork). position (is_of p) xs ≡ None) c.as_slice.ensures.value (sym c.in_default.ensures) in
    let P : List FetchWork → Type 0 = λ xs. SetsWork p (stepped_work c.args.step (work_at xs p)) xs xs in
    subst P c.self.view_is (sets_none (at_fetch c.args.step) ws p at)
