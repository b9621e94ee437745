use Rattle.page_chunks.proofs.MoveLaws.{got_all}
use Rattle.page_chunks.proofs.laws.chunk_laws.Goals as goal

pub returns-clause-got : goal.returns-clause-got
returns-clause-got c = got_all
