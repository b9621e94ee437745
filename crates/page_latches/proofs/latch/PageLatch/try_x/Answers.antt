use Rattle.std.proofs.Common.{◌≡◌, true, false, ap, sym, ◌∙◌}
use Rattle.std.proofs.lemmas.Bool.{false≢true}
use Rattle.page_latches.specs.Holding.{lets_exclude}
use Rattle.page_latches.specs.declared.latch.Holders.{Holders}
use Rattle.page_latches.proofs.Excluding.{exclude_rule}
use Rattle.page_latches.proofs.latch.PageLatch.try_x.Goals as goal

pub returns-then-not-lets_exclude-clause-granted : goal.returns-then-not-lets_exclude-clause-granted
returns-then-not-lets_exclude-clause-granted c =
    let refused : false ≡ lets_exclude c.args.self.now c.args.node = sym c.if-not-lets_exclude.true ∙ c.lets_exclude.ensures ∙ ap (λ (h : Holders). lets_exclude h c.args.node) c.self.view_is in
    (λ granted. absurd granted, λ rule. false≢true (refused ∙ (exclude_rule c.args.self.now c.args.node).1 rule))

pub returns-clause-granted : goal.returns-clause-granted
returns-clause-granted c =
    let let_in : lets_exclude c.args.self.now c.args.node ≡ true = sym (ap (λ (h : Holders). lets_exclude h c.args.node) c.self.view_is) ∙ sym c.lets_exclude.ensures ∙ c.if-not-lets_exclude.false in
    (λ granted. (exclude_rule c.args.self.now c.args.node).0 let_in, λ rule. tt)
