use Rattle.std.proofs.Common.{◌≡◌, ◌≤◌, ℕ, List, Option, length}
use Rattle.table_machine.specs.Serving.{TableState}
use Rattle.rmem_db.specs.Serving.{Serves}
use Rattle.rmem_db.specs.Session.{Stands}
use Rattle.rmem_db.proofs.serving.answer_held.Given as goal

-- whatever the run was before, it still stands between two lines
abbrev pub invariant-loop-n : goal.invariant-loop-n
invariant-loop-n g l =
    record {
      stands : (t : TableState) × Stands g.W.TableStore.kept g.W.TableStore.tables l.session t;
      taken : l.input.taken ≡ l.initial.input.taken;
      serves : (left left' taken : Option (List ℕ)) → Serves left left' taken (g.K.Sink.taken l.initial.sink) (Stands g.W.TableStore.kept g.W.TableStore.tables l.initial.session) l.initial.input
          → Serves left left' taken (g.K.Sink.taken l.sink) (Stands g.W.TableStore.kept g.W.TableStore.tables l.session) l.input;
      count : g.K.Sink.faults l.initial.sink ≤ g.K.Sink.faults l.sink;
    }

abbrev pub decreases-loop-n : goal.decreases-loop-n
decreases-loop-n g l = length l.input.bytes
