use Rattle.std.proofs.Common.{◌≡◌, ◌<◌, ◌+◌, ℕ, length, List, [], ◌∷◌, ◌++◌, get_or, nat_eq, sym, subst, ap, ◌∙◌, length-append, arith}
use Rattle.std.specs.List.{list_any}
use Rattle.std.proofs.lemmas.List.{get_or_default}
use Rattle.redo_record.specs.declared.plans.Plan.{Plan}
use Rattle.mini_transactions.specs.declared.known.KnownPage.{KnownPage}
use Rattle.mini_transactions.specs.declared.page_work.PageWork.{PageWork}
use Rattle.mini_transactions.specs.Beginning.{makes, AllBegin}
use Rattle.mini_transactions.proofs.Ending.{more_begun, begun_here}
use Rattle.mini_transactions.proofs.mini.begun.Goals as goal

pub loop-i-preserved : goal.loop-i-preserved
loop-i-preserved c =
    let plan : Plan = c.args.plan.now in
    let known : List KnownPage = c.args.known.now in
    let i : ℕ = c.loop-i.i in
    let works : List PageWork = c.loop-i.works.items in
    let w : PageWork = c.new.result in
    let x : ℕ = c.index-pages-i-in-loop-i.result in
    let first : ℕ = c.index-pages-i.result in
    let page_known : KnownPage = c.index-known-i.result in
    let pages : c.as_slice-pages.result.now ≡ plan.pages = c.as_slice-pages.ensures.items in
    let within : i < length plan.pages = omega (arith, ap length pages) in
    let known_within : i < length known = omega (arith, c.requires) in
    let at : (p : ℕ) → x ≡ get_or plan.pages i p = λ p. c.index-pages-i-in-loop-i.is ∙ ap (λ (xs : List ℕ). get_or xs i x) pages ∙ get_or_default plan.pages i x p within in
    let first_at : first ≡ get_or plan.pages i x = c.index-pages-i.is ∙ ap (λ (xs : List ℕ). get_or xs i first) pages ∙ get_or_default plan.pages i first x within in
    let known_at : (page : KnownPage) → page_known ≡ get_or known i page = λ page. c.index-known-i.is ∙ get_or_default known i page_known page known_within in
    let same : first ≡ x = first_at ∙ sym (at x) in
    let made : c.contains-made.result ≡ makes plan x = c.contains-made.ensures.value ∙ ap (λ (qs : List ℕ). list_any (λ q. nat_eq q first) qs) c.as_slice.ensures.items ∙ ap (λ n. list_any (λ q. nat_eq q n) plan.made) same in
    let all : AllBegin plan known (works ++ w ∷ []) = more_begun plan known works w c.loop-i.invariant.begun (begun_here plan known i x page_known c.contains-made.result w c.new.ensures.begins at known_at made (length works) c.loop-i.invariant.long) in
    record {
      long = ap (λ (ws : List PageWork). length ws) c.push.ensures.items ∙ length-append works (w ∷ []) ∙ ap (λ n. n + 1) c.loop-i.invariant.long;
      begun = subst (λ ws. AllBegin plan known ws) (sym c.push.ensures.items) all;
    }
