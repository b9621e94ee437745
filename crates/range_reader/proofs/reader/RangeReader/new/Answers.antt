use Rattle.std.proofs.Common.{refl, ap, ◌∙◌}
use Rattle.rm_base.specs.declared.key_range.KeyRange.{KeyRange}
use Rattle.bplus_tree.specs.Walk.{start}
use Rattle.range_reader.proofs.ReaderLaws.{begins, begins_wants}
use Rattle.range_reader.proofs.reader.RangeReader.new.Goals as goal

pub returns-clause-is : goal.returns-clause-is
returns-clause-is c =
    begins _ c.args.root c.args.range.now c.in_ok-copy_of.ensures
    (c.new.ensures ∙ ap (λ (r : KeyRange). start c.args.root r.low r.high) c.in_ok-copy_of-2.ensures) refl refl c.new-2.ensures.items c.new-3.ensures.items

pub returns-clause-wants : goal.returns-clause-wants
returns-clause-wants c = begins_wants _ c.args.root _ _ refl c.new-2.ensures.items c.new.ensures refl
