use Rattle.std.proofs.Common.{◌≡◌, ℕ, List, None, Some, sym, ◌∙◌, subst, refl}
use Rattle.std.proofs.Math.Facts.{Fits-lt-pow}
use Rattle.rm_base.specs.Fields.{AreBytes}
use Rattle.page_image.specs.Rules.{IsPage}
use Rattle.page_image.specs.Faults.{fault}
use Rattle.page_image.proofs.RuleLaws.{page_from_rules}
use Rattle.page_image.proofs.KeepLaws.{rules_from_page}
use Rattle.page_image.proofs.page.Page.check.Goals as goal

pub invariant_of-result : goal.invariant_of-result
invariant_of-result c =
    let are : AreBytes c.args.bytes.now = λ k. Fits-lt-pow (c.type_inv.bytes k) in
    let none : fault c.args.bytes.now ≡ None = sym c.first_fault.ensures.fault ∙ c.in-None.is in
    subst (λ (q : List ℕ). IsPage q) (sym c.in_ok-bytes-in-None.ensures.items) (page_from_rules c.args.bytes.now are none)

pub returns-in-Some-clause-accepts : goal.returns-in-Some-clause-accepts
returns-in-Some-clause-accepts c =
    let some : fault c.args.bytes.now ≡ Some c.in-Some.at = sym c.first_fault.ensures.fault ∙ c.in-Some.is in
    ((λ never. absurd cc), (λ page. let none : fault c.args.bytes.now ≡ None = rules_from_page c.args.bytes.now page in absurd cc))

pub returns-in_ok-bytes-in-None-clause-accepts : goal.returns-in_ok-bytes-in-None-clause-accepts
returns-in_ok-bytes-in-None-clause-accepts c =
    let are : AreBytes c.args.bytes.now = λ k. Fits-lt-pow (c.type_inv.bytes k) in
    let none : fault c.args.bytes.now ≡ None = sym c.first_fault.ensures.fault ∙ c.in-None.is in
    ((λ _. page_from_rules c.args.bytes.now are none), (λ _. refl))

pub returns-in_ok-bytes-in-None-clause-same : goal.returns-in_ok-bytes-in-None-clause-same
returns-in_ok-bytes-in-None-clause-same c =
    let are : AreBytes c.args.bytes.now = λ k. Fits-lt-pow (c.type_inv.bytes k) in
    let none : fault c.args.bytes.now ≡ None = sym c.first_fault.ensures.fault ∙ c.in-None.is in
    let page : IsPage c.in_ok-bytes-in-None.bytes.items = subst (λ (q : List ℕ). IsPage q) (sym c.in_ok-bytes-in-None.ensures.items) (page_from_rules c.args.bytes.now are none) in
    sym page.spelled ∙ c.in_ok-bytes-in-None.ensures.items
