use Rattle.message_network.specs.ServerView.{server_of}
use Rattle.home_service.proofs.Plain.{new_plain}
use Rattle.home_service.proofs.Seats.{none_seated}
use Rattle.home_service.proofs.DuePages.{none_expected}
use Rattle.home_service.proofs.service.HomeService.new.Goals as goal

pub invariant_of-result : goal.invariant_of-result
invariant_of-result c = record {
  plain = new_plain (server_of c.new-4.result) c.new-3.result c.new-4.ensures;
  seated = none_seated c.in_ok-home.home c.in_ok-slabs.slabs c.in_ok-home.ensures.none;
  expects = none_expected c.in_ok-home.home c.new-5.result c.in_ok-home.ensures.none;
}
