use Rattle.std.proofs.Common.{◌≡◌, length, arith}
use Rattle.redo_record.proofs.Fold.{CountsFrom-ascends}
use Rattle.storage_service.proofs.Merging.{applies_when}
use Rattle.storage_service.proofs.applying.apply_to.Goals as goal

pub try_merge-requires : goal.try_merge-requires
try_merge-requires c = CountsFrom-ascends 0 c.args.groups.now c.requires

pub returns : goal.returns
returns c =
    let size : c.new-upto.result ≡ length c.args.groups.now = omega (arith, c.new-upto.ensures, c.len.ensures) in
    applies_when c.in_ok-merged.merged c.is_ok.result c.args.groups.now c.new-upto.result c.in_ok-blank.blank c.args.page c.is_ok.ensures.value c.requires size
    c.in_ok-blank.ensures c.in_ok-merged.ensures.applies
