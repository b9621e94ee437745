use Rattle.undo_versions.proofs.ReadLaws.{read_is}
use Rattle.undo_versions.proofs.reading.read_undo.Goals as goal

pub returns : goal.returns
returns c = read_is c.args.bytes.now c.read.result (λ k. (c.type_inv.bytes k).fits) c.read.ensures
