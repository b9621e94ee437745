use Rattle.std.proofs.Common.{sym, ◌∙◌}
use Rattle.plain_pool.proofs.Showing.{not_act, admits_act}
use Rattle.plain_pool.proofs.serving.PlainPoolPagePool.admits.Goals as goal

pub returns-in-Act : goal.returns-in-Act
returns-in-Act c = record {
  admits = c.can_end.ensures ∙ sym (admits_act c.args.self.now c.args.event.now c.in-Act.field-0 c.in-Act.action c.in-Act.how c.in-Act.is c.requires.suits);
}

pub returns-in_default : goal.returns-in_default
returns-in_default c = record { admits = sym (not_act c.args.self.now c.args.event.now c.in_default.not-Act) }
