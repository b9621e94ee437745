use Rattle.std.proofs.Common.{◌<◌, ◌+◌, ℕ, Option, length, take, sym, subst, arith}
use Rattle.rmem_calls.specs.Giving.{may_give, IsLeastPage}
use Rattle.rmem_calls.proofs.Choosing.{least_step}
use Rattle.rmem_calls.proofs.registering.idle_page.Goals as goal

pub loop-slab-preserved : goal.loop-slab-preserved
loop-slab-preserved c =
    let xs = c.args.slabs.now in
    let i : ℕ = c.loop-slab.slab-index in
    let within : i < length xs = omega arith in
    let step = least_step c.args.home.now xs i c.slab-item.result c.loop-slab.least c.idle_page_of.result within c.slab-item.is c.loop-slab.invariant c.idle_page_of.ensures in
    subst (λ (o : Option ℕ). IsLeastPage (may_give c.args.home.now (take (i + 1) xs)) o) (sym c.lesser-least.ensures) step
