use Rattle.storage_service.proofs.Joins.{answer_is, store_is, append_stores, get_stores}
use Rattle.storage_service.proofs.laws.storage_laws.Goals as goal

pub returns-clause-store : goal.returns-clause-store
returns-clause-store c = store_is

pub returns-clause-append : goal.returns-clause-append
returns-clause-append c = append_stores

pub returns-clause-get : goal.returns-clause-get
returns-clause-get c = get_stores

pub returns-clause-answer : goal.returns-clause-answer
returns-clause-answer c = answer_is
