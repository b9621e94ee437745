use Rattle.std.proofs.Common.{◌≡◌, take}
use Rattle.tree_change.proofs.splitting.list_of.Given as goal

abbrev pub invariant-loop-page : goal.invariant-loop-page
invariant-loop-page l = l.list ≡ take l.page-index l.pages
