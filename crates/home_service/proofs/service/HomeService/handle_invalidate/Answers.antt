use Rattle.std.proofs.Common.{sym, subst}
use Rattle.message_network.specs.ServerView.{server_of}
use Rattle.message_network.specs.Labels.{labelled}
use Rattle.message_network.specs.declared.calls.Reply.{Reply}
use Rattle.home_service.specs.Keeping.{IsPlain}
use Rattle.rmem_calls.specs.Invalidating.{due_pairs}
use Rattle.home_service.proofs.Plain.{keeps_plain, invalidate_plain}
use Rattle.home_service.proofs.Seats.{invalidated_seated}
use Rattle.home_service.proofs.DuePages.{invalidated_due}
use Rattle.home_service.proofs.service.HomeService.handle_invalidate.Goals as goal

pub invariant_of-self : goal.invariant_of-self
invariant_of-self c = record {
  plain = keeps_plain (server_of c.self.inside.server) (server_of c.keep.new.self) (labelled c.args.token.now c.args.call) c.same_reply.result c.keep.ensures c.self.invariant.plain
      (subst (λ (r : Reply). IsPlain r) (sym c.same_reply.ensures) (invalidate_plain (due_pairs c.invalidate-reply.new.home c.args.pages.now) c.invalidate-reply.result c.invalidate-reply.ensures.answer));
  seated = invalidated_seated c.self.inside.home c.invalidate-reply.new.home c.self.inside.slabs c.args.token.now.node c.args.pages.now c.args.clear.now c.invalidate-reply.ensures.entries c.self.invariant.seated;
  expects = invalidated_due c.self.inside.home c.invalidate-reply.new.home c.self.inside.expected c.expect.new.nodes c.args.token.now.node c.args.pages.now c.args.clear.now c.invalidate-reply.result
      c.invalidate-reply.ensures.entries c.invalidate-reply.ensures.answer c.expect.ensures.old c.expect.ensures.each c.self.invariant.expects;
}
