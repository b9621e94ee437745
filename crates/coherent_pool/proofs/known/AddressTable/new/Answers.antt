use Rattle.std.proofs.Common.{◌≡◌, List, slice_index_or, sym, subst, replicate, rules}
use Rattle.coherent_pool.specs.declared.known.Known.{Known}
use Rattle.coherent_pool.specs.Known.{nothing_known}
use Rattle.coherent_pool.proofs.Tables.{nothing_at}
use Rattle.coherent_pool.proofs.known.AddressTable.new.Goals as goal

pub returns-clause-known : goal.returns-clause-known
returns-clause-known c = λ p. subst (λ (xs : List Known). slice_index_or xs p nothing_known ≡ nothing_known) (sym (let e : c.in_ok-pages.pages.items ≡ replicate 32768 nothing_known = c.in_ok-pages.ensures.items_if_clones_equal (search rules) in e)) (nothing_at 32768 p)
