use Rattle.std.proofs.Common.{ℕ, Option, subst}
use Rattle.home_tables.specs.Order.{due_among}
use Rattle.home_tables.specs.Pairs.{IsFirst}
use Rattle.home_service.specs.HomeSide.{Parts}
use Rattle.home_service.proofs.Seats.{turn_seated}
use Rattle.home_service.proofs.DuePages.{turn_due, fewer_expected, expected_first}
use Rattle.home_service.proofs.service.HomeService.turn.Goals as goal

pub invariant_of-self : goal.invariant_of-self
invariant_of-self c = record {
  plain = c.self.invariant.plain;
  seated = turn_seated c.home_turn.result c.self.inside.home c.home_turn.new.home c.self.inside.slabs c.home_turn.ensures.struck c.home_turn.ensures.same c.self.invariant.seated;
  expects = turn_due c.home_turn.result c.self.inside.home c.home_turn.new.home c.self.inside.expected c.home_turn.ensures.struck c.home_turn.ensures.same c.self.invariant.expects;
}

pub invariant_of-self-in_default : goal.invariant_of-self-in_default
invariant_of-self-in_default c = record {
  plain = c.self.invariant.plain;
  seated = turn_seated c.home_turn.result c.self.inside.home c.home_turn.new.home c.self.inside.slabs c.home_turn.ensures.struck c.home_turn.ensures.same c.self.invariant.seated;
  expects = turn_due c.home_turn.result c.self.inside.home c.home_turn.new.home c.take_out.new.nodes c.home_turn.ensures.struck c.home_turn.ensures.same
      (fewer_expected c.self.inside.home c.self.inside.expected c.both-asked.result c.take_out.new.nodes
      (subst (λ (o : Option (ℕ × ℕ)). IsFirst (due_among c.self.inside.home c.both-asked.result) o) c.in_default.is c.home_turn.ensures.first)
      c.take_out.ensures c.self.invariant.expects);
}

pub returns-clause-first : goal.returns-clause-first
returns-clause-first c =
    subst (λ (o : Option (ℕ × ℕ)). IsFirst (due_among c.args.self.now.home c.args.up.now) o) c.in-Some.is
    (subst (λ (P : Parts). IsFirst (due_among P.home c.args.up.now) c.home_turn.result) c.self.view_is
    (expected_first c.self.inside.home c.args.up.now c.self.inside.expected c.both-asked.result c.home_turn.result c.both-asked.ensures c.self.invariant.expects c.home_turn.ensures.first))

pub returns-in_default-clause-first : goal.returns-in_default-clause-first
returns-in_default-clause-first c =
    subst (λ (o : Option (ℕ × ℕ)). IsFirst (due_among c.args.self.now.home c.args.up.now) o) c.in_default.is
    (subst (λ (P : Parts). IsFirst (due_among P.home c.args.up.now) c.home_turn.result) c.self.view_is
    (expected_first c.self.inside.home c.args.up.now c.self.inside.expected c.both-asked.result c.home_turn.result c.both-asked.ensures c.self.invariant.expects c.home_turn.ensures.first))
