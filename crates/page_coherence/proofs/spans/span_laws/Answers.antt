use Rattle.page_coherence.proofs.Promises.{bare_span}
use Rattle.page_coherence.proofs.spans.span_laws.Goals as goal

pub returns-clause-bare : goal.returns-clause-bare
returns-clause-bare c = bare_span
