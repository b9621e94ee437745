use Rattle.page_store.proofs.frame.Frame.change.Goals as goal

pub apply-requires-clause-mine : goal.apply-requires-clause-mine
apply-requires-clause-mine c = (c.requires.fits c.in-Some.page c.in-Some.is).mine

pub apply-requires-clause-follows : goal.apply-requires-clause-follows
apply-requires-clause-follows c = (c.requires.fits c.in-Some.page c.in-Some.is).follows
