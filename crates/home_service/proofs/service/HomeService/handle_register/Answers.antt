use Rattle.std.proofs.Common.{sym, subst}
use Rattle.message_network.specs.ServerView.{server_of}
use Rattle.message_network.specs.Labels.{labelled}
use Rattle.message_network.specs.declared.calls.Reply.{Reply}
use Rattle.home_service.specs.Keeping.{IsPlain}
use Rattle.home_service.proofs.Plain.{keeps_plain, register_plain}
use Rattle.rmem_calls.proofs.SeatingLemmas.{keeps_seated}
use Rattle.home_service.proofs.DuePages.{register_due}
use Rattle.home_service.proofs.service.HomeService.handle_register.Goals as goal

pub invariant_of-self-2 : goal.invariant_of-self-2
invariant_of-self-2 c = record {
  plain = keeps_plain (server_of c.self.inside.server) (server_of c.keep.new.self) (labelled c.args.token.now c.args.call) c.same_reply.result c.keep.ensures c.self.invariant.plain
      (subst (λ (r : Reply). IsPlain r) (sym c.same_reply.ensures) (register_plain c.self.inside.home c.register.new.home c.self.inside.slabs c.register.new.slabs c.args.token.now.node c.args.page c.in_ok-reply.reply c.in_ok-reply.ensures.answer));
  seated = keeps_seated c.self.inside.home c.register.new.home c.self.inside.slabs c.register.new.slabs c.args.token.now.node c.args.page c.in_ok-reply.reply c.as_slice-slabs.ensures.rules c.self.invariant.seated c.in_ok-reply.ensures.answer;
  expects = register_due c.self.inside.home c.register.new.home c.self.inside.slabs c.register.new.slabs c.self.inside.expected c.args.token.now.node c.args.page c.in_ok-reply.reply c.in_ok-reply.ensures.answer c.self.invariant.expects;
}
