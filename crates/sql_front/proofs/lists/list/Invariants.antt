use Rattle.std.proofs.Common.{◌≡◌, ◌-◌}
use Rattle.sql_front.specs.Input.{listed, further}
use Rattle.sql_front.proofs.lists.list.Given as goal

-- what is read from here on is what is read in all
abbrev pub invariant-items : goal.invariant-items
invariant-items g l = (listed g.T.Item.reader l.fn.input ≡ further g.T.Item.reader (l._turn-end - l._turn) l.items l.input) × g.T.Item.fits l.items
