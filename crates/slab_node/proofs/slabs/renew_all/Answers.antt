use Rattle.std.proofs.Common.{◌<◌, ◌∙◌, length, ap, arith}
use Rattle.slab_node.specs.Slab.{may_renew, renewed}
use Rattle.slab_node.specs.Slabs.{no_slab}
use Rattle.slab_node.proofs.SlabLists.{get_or_default}
use Rattle.slab_node.proofs.Renewing.{renewed_none, renewed_more, renewed_done, item_may}
use Rattle.slab_node.proofs.slabs.renew_all.Goals as goal

pub loop-slab-init : goal.loop-slab-init
loop-slab-init c = renewed_none c.args.slabs.now

pub renew-requires : goal.renew-requires
renew-requires c =
    let i = c.loop-slab.slab-index in
    let old = c.loop-slab.invariant in
    let within : i < length c.loop-slab.slabs = omega (arith, old.count, c.loop-slab-test.true) in
    ap may_renew (get_or_default c.loop-slab.slabs i c.slab-item.result no_slab within ∙ old.rest i (omega arith)) ∙ item_may c.args.slabs.now i c.requires c.loop-slab-test.true

pub loop-slab-preserved : goal.loop-slab-preserved
loop-slab-preserved c =
    let i = c.loop-slab.slab-index in
    let old = c.loop-slab.invariant in
    let within : i < length c.loop-slab.slabs = omega (arith, old.count, c.loop-slab-test.true) in
    renewed_more c.args.slabs.now c.loop-slab.slabs i c.renew.new.self c.loop-slab-test.true old (c.renew.ensures ∙ ap renewed (get_or_default c.loop-slab.slabs i c.slab-item.result no_slab within))

pub returns-clause-all : goal.returns-clause-all
returns-clause-all c = renewed_done c.args.slabs.now c.loop-slab.slabs c.loop-slab.slab-index c.loop-slab-test.false c.loop-slab.invariant
