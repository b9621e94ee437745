use Rattle.std.proofs.Common.{subst}
use Rattle.mini_transactions.specs.Beginning.{AllBegin}
use Rattle.mini_transactions.proofs.Ending.{progress_begun}
use Rattle.mini_transactions.proofs.mini.Mini.new.Goals as goal

pub invariant_of-result : goal.invariant_of-result
invariant_of-result c =
    let each : AllBegin c.args.plan c.args.known.pages c.begun-works.result.items = subst (λ ks. AllBegin c.args.plan ks c.begun-works.result.items) c.as_slice.ensures.items c.begun-works.ensures.each in
    progress_begun c.args.plan c.args.known.lsn c.args.known.pages c.begun-works.result.items c.begun-works.ensures.length each

pub returns-clause-begins : goal.returns-clause-begins
returns-clause-begins c = subst (λ ks. AllBegin c.args.plan ks c.begun-works.result.items) c.as_slice.ensures.items c.begun-works.ensures.each
