use Rattle.tree_steps.proofs.steps.step_laws.Goals as goal
use Rattle.tree_steps.proofs.ItemSteps.{change_stays, row_stays, elsewhere_stays, foreign_stays}
use Rattle.tree_steps.proofs.PlanSteps.{insert_keeps, update_keeps, remove_keeps, put_keeps, begin_keeps, split_splits, root_split_splits}
use Rattle.tree_steps.proofs.Logs.{log_timeline}

pub returns : goal.returns
returns c = record {
  items = λ pages root items tree records lsn all.
      change_stays pages root items tree records lsn all;
  row = λ key path w records lsn all. row_stays key path w records lsn all;
  elsewhere = λ pages root items tree records lsn all.
      elsewhere_stays pages root items tree records lsn all;
  foreign = λ pages root items tree named records lsn only apart.
      foreign_stays pages root items tree named records lsn only apart;
  insert = λ key path w item lsn. insert_keeps key path w item lsn;
  update = λ key path w item lsn. update_keeps key path w item lsn;
  remove = λ key path w lsn. remove_keeps key path w lsn;
  put = λ key path w item plan is lsn. put_keeps key path w item plan is lsn;
  begin = λ key path w item put is meta is_meta fresh lsn.
      begin_keeps key path w item put is meta is_meta fresh lsn;
  split = λ item path meta plan is_meta is bound w fresh lsn.
      split_splits item path meta plan is_meta is bound w fresh lsn;
  root_split = λ key path meta plan is_meta is bound image low w fresh lsn.
      root_split_splits key path meta plan is_meta is bound image low w fresh lsn;
  log = λ log root from items counts trees steps. log_timeline log root from items counts trees steps;
}
