use Rattle.std.proofs.Common.{Some}
use Rattle.paged_tables.specs.Content.{HoldsKept}
use Rattle.rmem_db.specs.Keeping.{HasKept}
use Rattle.rmem_db.proofs.KeepingLaws.{are_kept, none_kept, Ends-weaker}
use Rattle.rmem_db.proofs.ServingLaws.{IsCutOff-start}
use Rattle.rmem_db.proofs.serving.serve.Goals as goal

pub returns-in_default-clause-ends : goal.returns-in_default-clause-ends
returns-in_default-clause-ends g c = IsCutOff-start c.serving_laws.ensures.lines _ _ (HasKept c.args.kept.now) (none_kept c.args.kept.now c.requires)

pub returns-clause-ends : goal.returns-clause-ends
returns-clause-ends g c =
    Ends-weaker (HoldsKept c.serve_over-status.new.session.tables) (HasKept (Some c.give_back.new.self)) (λ d stays. are_kept c.serve_over-status.new.session.tables c.give_back.new.self d c.give_back.ensures.groups stays) _ _ _ _
    c.serve_over-status.result c.serve_over-status.ensures.ends
