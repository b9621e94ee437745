use Rattle.range_reader.proofs.StepLaws.{leads_in}
use Rattle.range_reader.proofs.stepping.child_of.Goals as goal

pub returns : goal.returns
returns c = leads_in c.args.page.now c.args.key.now c.child_under.result c.child_under.ensures
