use Rattle.std.proofs.Common.{ℕ, List, subst}
use Rattle.sql_front.specs.Sentences.{Reads}
use Rattle.cluster_core.proofs.TakeLaws.{submits}
use Rattle.cluster_core.specs.Ledgers.{account_of}
use Rattle.cluster_core.proofs.ledger.Ledger.hand_in.Goals as goal

pub returns : goal.returns
returns c =
    submits c.args.session c.args.text c.in_ok-reading.reading c.class_read-class.result (account_of c.args.self.now) (account_of c.submit.new.self)
    (subst (λ (x : List ℕ). Reads x c.in_ok-reading.reading) c.as_slice.ensures c.in_ok-reading.ensures) c.class_read-class.ensures c.in_ok-submit.ensures.submits
