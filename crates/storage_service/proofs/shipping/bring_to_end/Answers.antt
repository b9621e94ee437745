use Rattle.std.proofs.Common.{◌≡◌, ◌≤◌, ◌+◌, ℕ, List, length, sym, ap, subst, ◌∙◌, arith}
use Rattle.redo_record.specs.declared.redo.Group.{Group}
use Rattle.page_chunks.specs.Chunk.{Chunk, skipped}
use Rattle.storage_service.specs.Keeping.{IsBrought}
use Rattle.storage_service.specs.Noting.{last_for}
use Rattle.storage_service.proofs.LastFor.{last_bound, skip_rest}
use Rattle.storage_service.proofs.Bringing.{brought_on}
use Rattle.storage_service.proofs.shipping.bring_to_end.Goals as goal

pub groups-preserved : goal.groups-preserved
groups-preserved c =
    let next : IsBrought c.args.log.now.groups c.groups.chunk (c.groups.chunk.applied + 1) c.hand_next.new.chunk = c.in_ok-hand_next.ensures.ok in
    subst (λ (n : ℕ). IsBrought c.args.log.now.groups c.args.chunk.now n c.hand_next.new.chunk) (sym next.applied)
    (brought_on c.args.log.now.groups c.args.chunk.now c.groups.chunk c.hand_next.new.chunk c.groups.chunk.applied (c.groups.chunk.applied + 1) c.groups.invariant next)

pub hand_next-requires-clause-behind : goal.hand_next-requires-clause-behind
hand_next-requires-clause-behind c =
    let most = last_bound c.number-in-groups.result 0 0 c.args.log.now.groups c.requires.log.counted (omega arith) in
    omega (arith, c.groups-test.true, c.noted.ensures, c.number.ensures.value, c.applied.ensures)

pub returns-clause-brought : goal.returns-clause-brought
returns-clause-brought c =
    let groups : List Group = c.args.log.now.groups in
    let x : Chunk = c.groups.chunk in
    let new : Chunk = c.skip.new.self in
    let number : c.number-in-groups.result ≡ x.number = c.number-in-groups.ensures.value in
    let last : last_for c.number-in-groups.result 0 groups ≤ x.applied = omega (arith, c.groups-test.false, c.noted.ensures, c.number.ensures.value, c.applied.ensures) in
    let most : last_for x.number 0 groups ≤ x.applied = subst (λ (k : ℕ). last_for k 0 groups ≤ x.applied) number last in
    let all : IsBrought groups c.args.chunk.now (length groups) new =
    skip_rest groups c.args.chunk.now x new c.requires.log.counted c.groups.invariant most (c.skip.ensures.skipped ∙ ap (skipped x) c.last-last.ensures)
    (λ front more has counts pass sum. c.skip.ensures.got front more has counts pass (sum ∙ sym c.last-last.ensures)) in
    subst (λ (n : ℕ). IsBrought groups c.args.chunk.now n new) (sym all.applied) all
