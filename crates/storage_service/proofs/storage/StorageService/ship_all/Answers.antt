use Rattle.storage_service.specs.Storage.{storage_of}
use Rattle.storage_service.proofs.Views.{forward_on, done_on}
use Rattle.storage_service.proofs.storage.StorageService.ship_all.Goals as goal

pub returns-in_err-ship_rest-clause-forward : goal.returns-in_err-ship_rest-clause-forward
returns-in_err-ship_rest-clause-forward c =
    forward_on (storage_of c.args.self.now) (storage_of c.loop-c.self) (storage_of c.ship_rest.new.self) c.loop-c.c c.loop-c.invariant.forward c.ship_rest.ensures.ships

pub loop-c-preserved : goal.loop-c-preserved
loop-c-preserved c = record {
  forward = forward_on (storage_of c.args.self.now) (storage_of c.loop-c.self) (storage_of c.ship_rest.new.self) c.loop-c.c c.loop-c.invariant.forward c.ship_rest.ensures.ships;
  done = done_on (storage_of c.args.self.now) (storage_of c.loop-c.self) (storage_of c.ship_rest.new.self) c.loop-c.c c.loop-c.invariant.forward c.ship_rest.ensures.ships
      c.in_ok-ship_rest.ensures.ok c.loop-c.invariant.done;
}
