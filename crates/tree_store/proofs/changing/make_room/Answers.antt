use Rattle.std.proofs.Common.{◌<◌, ◌-◌, arith}
use Rattle.page_store.specs.Stored.{pages_of}
use Rattle.page_image.specs.Meta.{page_count}
use Rattle.tree_store.proofs.ChangeLaws.{grew}
use Rattle.tree_store.proofs.changing.make_room.Goals as goal

pub split_or_way-requires-clause-forest : goal.split_or_way-requires-clause-forest
split_or_way-requires-clause-forest c =
    let f = c.requires.forest in
    (f.0, f.1, c.loop-path.invariant.forest f.0 f.1 f.2 f.3, f.3)

pub loop-path-smaller : goal.loop-path-smaller
loop-path-smaller c =
    let f = c.requires.forest in
    let old = c.loop-path.invariant.forest f.0 f.1 f.2 f.3 in
    let new = c.in_ok-path.ensures.forest f.0 f.1 old f.3 in
    let high = new.high in
    let more = grew c.in_ok-path.field-0 c.in-Ok-None.field-0 (page_count (pages_of c.loop-path.store 0) < page_count (pages_of c.split_or_way.new.store 0)) c.in_ok-path.ensures.more c.in-Ok-None.is c.in-Ok-None.field-0-is in
    let h : 32768 - page_count (pages_of c.split_or_way.new.store 0) < 32768 - page_count (pages_of c.loop-path.store 0) = omega (arith, more, high) in
    h
