use Rattle.std.proofs.Common.{◌≡◌, ℕ, Option, None, Some, sym, ◌∙◌, ap, subst}
use Rattle.page_image.specs.Image.{Image}
use Rattle.page_store.specs.Stored.{pages_of}
use Rattle.plain_pool.specs.Plain.{Plain, IsApart}
use Rattle.plain_pool.proofs.Showing.{made_page}
use Rattle.plain_pool.proofs.plain.PlainPool.page.Goals as goal

pub returns-in-Some : goal.returns-in-Some
returns-in-Some c =
    let s = c.self.inside in
    let p = c.args.page in
    let handed : s.handed ≡ Some p = ap (λ (x : Plain). x.handed) c.self.view_is ∙ c.requires in
    let is : c.in-Some.blank ≡ pages_of s.store p = subst (λ (x : Option Image). IsApart s.store p x) c.in-Some.is (c.self.invariant.blank_is p handed) in
    ap (λ (x : Image). Some x) (is ∙ ap (λ (x : Plain). pages_of x.store p) c.self.view_is)

pub returns-in-None : goal.returns-in-None
returns-in-None c =
    let s = c.self.inside in
    let p = c.args.page in
    let handed : s.handed ≡ Some p = ap (λ (x : Plain). x.handed) c.self.view_is ∙ c.requires in
    let made = subst (λ (x : Option Image). IsApart s.store p x) c.in-None.is (c.self.invariant.blank_is p handed) in
    made_page c.page.result p (pages_of s.store p) c.page.ensures made
    ∙ ap (λ (x : Plain). Some (pages_of x.store p)) c.self.view_is
