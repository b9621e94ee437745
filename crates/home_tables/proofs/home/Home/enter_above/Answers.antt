use Rattle.home_tables.proofs.home.Home.enter_above.Goals as goal

pub returns-then-contains_key-clause-entered : goal.returns-then-contains_key-clause-entered
returns-then-contains_key-clause-entered c = c.enter_lost.ensures.entered c.args.floor
