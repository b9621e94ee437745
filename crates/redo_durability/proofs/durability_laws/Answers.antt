use Rattle.redo_durability.proofs.Laws.{store_is_a_front, open_log_is_whole, none_is_refused, older_change_nothing, store_grows, acknowledged_lasts}
use Rattle.redo_durability.proofs.durability_laws.Goals as goal

pub returns-clause-front : goal.returns-clause-front
returns-clause-front g c = store_is_a_front

pub returns-clause-whole : goal.returns-clause-whole
returns-clause-whole g c = open_log_is_whole

pub returns-clause-kept : goal.returns-clause-kept
returns-clause-kept g c = none_is_refused

pub returns-clause-older : goal.returns-clause-older
returns-clause-older g c = older_change_nothing

pub returns-clause-grows : goal.returns-clause-grows
returns-clause-grows g c = store_grows

pub returns-clause-lasts : goal.returns-clause-lasts
returns-clause-lasts g c = acknowledged_lasts
