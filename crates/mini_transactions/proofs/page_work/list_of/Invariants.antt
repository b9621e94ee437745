use Rattle.std.proofs.Common.{◌≡◌, take}
use Rattle.mini_transactions.proofs.page_work.list_of.Given as goal

abbrev pub invariant-loop-page : goal.invariant-loop-page
invariant-loop-page l = l.list ≡ take l.page-index l.pages
