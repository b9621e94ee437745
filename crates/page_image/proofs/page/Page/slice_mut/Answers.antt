use Rattle.std.proofs.Common.{◌≡◌, ◌+◌, ℕ, List, slice_range, refl, sym, ◌∙◌, ap, subst, ◌-◌, arith}
use Rattle.page_image.specs.Image.{Image}
use Rattle.page_image.specs.Layout.{image_of, page_bytes}
use Rattle.page_image.specs.Lending.{CanLend, with_part}
use Rattle.page_image.proofs.LendLaws.{part_good, part_bytes}
use Rattle.page_image.proofs.ChangeLaws.{is_page_then, shows_then}
use Rattle.page_image.proofs.page.Page.slice_mut.Goals as goal

pub invariant_of-self-lent : goal.invariant_of-self-lent
invariant_of-self-lent c =
    λ w.
    let bytes = c.self.inside.bytes in
    let im : Image = image_of bytes.items in
    let page = c.self.invariant in
    let can : CanLend im c.args.at c.args.n = subst (λ (q : Image). CanLend q c.args.at c.args.n) (sym c.self.view_is) c.requires in
    is_page_then (with_part im c.args.at w) _ (part_good im c.args.at c.args.n w page.good can)
    (part_bytes im c.args.at c.args.n bytes.len w bytes.items page.good can page.spelled (bytes.ok.0 ∙ page.length_is))

pub returns : goal.returns
returns c =
    let bytes = c.self.inside.bytes in
    let im : Image = image_of bytes.items in
    let page = c.self.invariant in
    let can : CanLend im c.args.at c.args.n = subst (λ (q : Image). CanLend q c.args.at c.args.n) (sym c.self.view_is) c.requires in (
      (
        refl,
        λ w.
            shows_then (with_part im c.args.at w) _ (part_good im c.args.at c.args.n w page.good can)
            (part_bytes im c.args.at c.args.n bytes.len w bytes.items page.good can page.spelled (bytes.ok.0 ∙ page.length_is))
            ∙ ap (λ (q : Image). with_part q c.args.at w) c.self.view_is,
      ),
      record { writes_back = tt; value = c.slice_mut.ensures.value ∙ ap (λ (q : List ℕ). slice_range q c.args.at (c.args.at + c.args.n)) (page.spelled ∙ ap page_bytes c.self.view_is); len = c.slice_mut.ensures.len ∙ (let n : c.args.at + c.args.n - c.args.at ≡ c.args.n = omega arith in n) },
    )
