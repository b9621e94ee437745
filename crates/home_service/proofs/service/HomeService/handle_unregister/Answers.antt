use Rattle.std.proofs.Common.{refl, sym, subst}
use Rattle.message_network.specs.ServerView.{server_of}
use Rattle.message_network.specs.Labels.{labelled}
use Rattle.message_network.specs.declared.calls.Reply.{Reply}
use Rattle.home_service.specs.Keeping.{IsPlain}
use Rattle.home_model.specs.Entry.{unregistered}
use Rattle.home_service.proofs.Plain.{keeps_plain}
use Rattle.home_service.proofs.Seats.{changes_seated}
use Rattle.home_service.proofs.DuePages.{changes_due}
use Rattle.home_service.proofs.service.HomeService.handle_unregister.Goals as goal

pub invariant_of-self : goal.invariant_of-self
invariant_of-self c = record {
  plain = keeps_plain (server_of c.self.inside.server) (server_of c.keep.new.self) (labelled c.args.token.now c.args.call) c.same_reply.result c.keep.ensures c.self.invariant.plain
      (subst (λ (r : Reply). IsPlain r) (sym c.same_reply.ensures) (subst (λ (r : Reply). IsPlain r) (sym c.unregister-reply.ensures.answer) tt));
  seated = changes_seated c.self.inside.home c.unregister-reply.new.home c.self.inside.slabs c.args.page (λ E. unregistered E c.args.token.now.node) (λ E. refl) c.unregister-reply.ensures.entry c.self.invariant.seated;
  expects = changes_due c.self.inside.home c.unregister-reply.new.home c.self.inside.expected c.args.page (λ E. unregistered E c.args.token.now.node) (λ E m h. h) c.unregister-reply.ensures.entry c.self.invariant.expects;
}
