use Rattle.tree_store.proofs.changing.take_out.Goals as goal

pub take_from-requires-clause-forest : goal.take_from-requires-clause-forest
take_from-requires-clause-forest c =
    let f = c.requires.forest in
    (f.0, f.1, c.in_ok-path.ensures.forest f.0 f.1 f.2 f.3, f.3)
