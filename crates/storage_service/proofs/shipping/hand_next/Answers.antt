use Rattle.std.proofs.Common.{◌≡◌, ◌+◌, ℕ, List, Some, None, sym, ap, ◌∙◌, arith}
use Rattle.std.specs.List.{slice_get}
use Rattle.std.specs.Option.{option_copied}
use Rattle.redo_record.specs.declared.redo.Group.{Group}
use Rattle.log_chunks.proofs.StoreLaws.{find-counted}
use Rattle.storage_service.proofs.Bringing.{can_ship, brought_when, not_past}
use Rattle.storage_service.proofs.shipping.hand_next.Goals as goal

pub unreachable-requires : goal.unreachable-requires
unreachable-requires c =
    let groups : List Group = c.args.log.now.groups in
    let n : ℕ = c.args.chunk.now.applied in
    let lsn : c.new-next.result ≡ 0 + n + 1 = omega (arith, c.new-next.ensures, c.number.ensures.value, c.applied.ensures) in
    let none : slice_get groups n ≡ None =
    sym (find-counted 0 n c.new-next.result groups lsn c.requires.log.counted) ∙ sym c.group.ensures ∙ ap option_copied c.in_default.is in
    not_past groups n none c.requires.behind

there : (c : goal.After-ship-arg-1) → slice_get c.args.log.now.groups c.args.chunk.now.applied ≡ Some c.in-Some.group.now
there c =
    let groups : List Group = c.args.log.now.groups in
    let n : ℕ = c.args.chunk.now.applied in
    let lsn : c.new-next.result ≡ 0 + n + 1 = omega (arith, c.new-next.ensures, c.number.ensures.value, c.applied.ensures) in
    sym (find-counted 0 n c.new-next.result groups lsn c.requires.log.counted) ∙ sym c.group.ensures ∙ ap option_copied c.in-Some.is

pub ship-requires : goal.ship-requires
ship-requires c =
    can_ship c.args.log.now.groups c.args.chunk.now c.in-Some.group.now c.requires.log.counted c.requires.applies c.requires.chunk c.requires.got (there c)

there_after : (c : goal.After-ship) → slice_get c.args.log.now.groups c.args.chunk.now.applied ≡ Some c.in-Some.group.now
there_after c =
    let groups : List Group = c.args.log.now.groups in
    let n : ℕ = c.args.chunk.now.applied in
    let lsn : c.new-next.result ≡ 0 + n + 1 = omega (arith, c.new-next.ensures, c.number.ensures.value, c.applied.ensures) in
    sym (find-counted 0 n c.new-next.result groups lsn c.requires.log.counted) ∙ sym c.group.ensures ∙ ap option_copied c.in-Some.is

pub returns-clause-ok : goal.returns-clause-ok
returns-clause-ok c =
    brought_when c.ship.result c.args.log.now.groups c.args.chunk.now c.ship.new.self c.in-Some.group.now c.requires.log.counted c.requires.got (there_after c)
    c.ship.ensures.ok c.ship.ensures.got c.ship.ensures.waiting

pub overflow_add-number : goal.overflow_add-number
overflow_add-number c =
    omega (arith, c.last.ensures, c.number-last.ensures.bound, c.applied.ensures, c.number.ensures.value, c.requires.behind)
