use Rattle.std.proofs.Common.{◌≡◌, true, false, not, ◌&&◌, sym, ap, ◌∙◌}
use Rattle.fetch_steps.specs.Fetch.{may_hold}
use Rattle.coherent_pool.specs.Standing.{asks_nothing}
use Rattle.coherent_pool.proofs.Places.{done_by}
use Rattle.coherent_pool.proofs.standing.is_done.Goals as goal

pub returns-then-finished : goal.returns-then-finished
returns-then-finished c =
    let f = c.args.step.now in
    let both = done_by f c.next.result c.next.ensures.act c.next.ensures.placed in
    let asks : asks_nothing c.next.result ≡ true = sym c.asks_nothing-finished.ensures ∙ c.if-finished.true in
    ap not c.may_hold.ensures.exact ∙ (ap (λ b. b && not (may_hold f)) (sym asks) ∙ both)

pub returns-else-finished : goal.returns-else-finished
returns-else-finished c =
    let f = c.args.step.now in
    let both = done_by f c.next.result c.next.ensures.act c.next.ensures.placed in
    let asks : asks_nothing c.next.result ≡ false = sym c.asks_nothing-finished.ensures ∙ c.if-finished.false in
    c.if-finished.false ∙ (ap (λ b. b && not (may_hold f)) (sym asks) ∙ both)
