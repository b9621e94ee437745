use Rattle.home_tables.specs.Table.{address_number}
use Rattle.home_tables.proofs.Replacing.{replaces_when}
use Rattle.home_tables.proofs.home.Home.replace.Goals as goal

pub returns-clause-replaced : goal.returns-clause-replaced
returns-clause-replaced c =
    replaces_when c.args.self.now c.enter_above.new.self c.give_away.new.self c.args.given c.args.page c.args.node (address_number c.args.slot) c.watermark_without-floor.result c.give_away.result
    c.requires.takes c.requires.given c.watermark_without-floor.ensures c.in_ok-enter_above.ensures.entered c.in_ok-enter_above.ensures.watermark c.give_away.ensures.none c.give_away.ensures.gone
    c.give_away.ensures.watermark
