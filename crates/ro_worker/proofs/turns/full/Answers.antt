use Rattle.std.proofs.Common.{Option, Some, ◌∙◌, ap}
use Rattle.ro_worker.specs.declared.latching.ReaderWish.{ReaderWish}
use Rattle.ro_worker.specs.States.{state_of}
use Rattle.ro_worker.specs.Wishes.{wish_of}
use Rattle.ro_worker.proofs.TurnLaws.{full_fetch}
use Rattle.ro_worker.proofs.turns.full.Goals as goal

pub returns-in-Fetch : goal.returns-in-Fetch
returns-in-Fetch c =
    full_fetch (state_of c.args.state) c.in-Fetch.field-0 c.args.slots (c.requires ∙ ap (λ (w : ReaderWish). Some (wish_of w)) c.in-Fetch.is)
