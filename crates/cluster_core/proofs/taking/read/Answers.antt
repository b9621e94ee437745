use Rattle.cluster_core.proofs.taking.read.Goals as goal

pub returns-in-Err : goal.returns-in-Err
returns-in-Err c = (c.in_ok-statement.ensures.syntax c.in-Err.syntax.at).0 c.in-Err.is
