use Rattle.tree_store.proofs.changing.put.Goals as goal

pub put_on-requires-clause-forest : goal.put_on-requires-clause-forest
put_on-requires-clause-forest c =
    let f = c.requires.forest in
    (f.0, f.1, c.in_ok-path.ensures.forest f.0 f.1 f.2 f.3, f.3)
