use Rattle.rmem_db.proofs.LineEnds.{IsLineEnd-from_behind, HasNoLf-from_behind}
use Rattle.rmem_db.proofs.reading.first_lf_behind.Goals as goal

pub returns-in-Some-clause-found : goal.returns-in-Some-clause-found
returns-in-Some-clause-found c =
    IsLineEnd-from_behind c.args.bytes.now c.args.clear c.requires.inside c.requires.clear c.in-Some.n c.in-Some.ensures.found

pub returns-in-None-clause-none : goal.returns-in-None-clause-none
returns-in-None-clause-none c =
    HasNoLf-from_behind c.args.bytes.now c.args.clear c.requires.inside c.requires.clear c.in-None.ensures.none
