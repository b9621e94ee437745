use Rattle.std.proofs.Common.{◌≢◌, ◌-◌, ℕ, ◌∙◌, ap, arith}
use Rattle.message_network.specs.Post.{Post}
use Rattle.message_network.proofs.Drafts.{draft_read}
use Rattle.message_network.proofs.traffic.Network.deliver.Goals as goal

pub returns-clause-draft : goal.returns-clause-draft
returns-clause-draft c =
    let some : c.args.number ≢ 0 = grind arith in
    let list = c.deref.ensures.value ∙ ap (λ (p : Post). p.messages) c.self.view_is in
    let index = ap (λ (j : ℕ). j - 1) c.number-2.ensures.value in
    let lookup = c.get.ensures.lookup in
    draft_read c.args.self.now c.args.number c.deref.result.now (c.number-2.result - 1) c.get.result list index some lookup.0 lookup.1
