use Rattle.std.proofs.Common.{◌≤◌, ◌-◌}
use Rattle.table_machine.specs.Serving.{TableState}
use Rattle.rmem_db.specs.Serving.{Serves}
use Rattle.rmem_db.specs.Session.{Stands}
use Rattle.rmem_db.proofs.serving.serve_over.Given as goal

-- the run stands between two lines
abbrev pub invariant-loop-status : goal.invariant-loop-status
invariant-loop-status g l =
    record {
      stands : (t : TableState) × Stands g.W.TableStore.kept g.W.TableStore.tables l.session t;
      serves : Serves (g.S.Source.left l.initial.source) (g.S.Source.left l.source) (g.K.Sink.taken l.initial.sink) (g.K.Sink.taken l.sink) (Stands g.W.TableStore.kept g.W.TableStore.tables l.session) l.input;
      source_count : g.S.Source.faults l.initial.source ≤ g.S.Source.faults l.source;
      sink_count : g.K.Sink.faults l.initial.sink ≤ g.K.Sink.faults l.sink;
    }

-- each turn reads more, and no more than the limit
abbrev pub decreases-loop-status : goal.decreases-loop-status
decreases-loop-status g l = 4194304 - l.input.taken
