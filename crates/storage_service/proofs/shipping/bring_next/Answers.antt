use Rattle.std.proofs.Common.{◌≡◌, ◌≤◌, ◌<◌, ◌+◌, ℕ, List, length, sym, ap, subst, ◌∙◌, arith}
use Rattle.redo_record.specs.declared.redo.Group.{Group}
use Rattle.page_chunks.specs.Chunk.{Chunk, skipped}
use Rattle.storage_service.specs.Noting.{last_for}
use Rattle.storage_service.proofs.LastFor.{skip_to}
use Rattle.storage_service.proofs.shipping.bring_next.Goals as goal

pub overflow_add-applied : goal.overflow_add-applied
overflow_add-applied c =
    omega (arith, c.last.ensures, c.number-last.ensures.bound, c.applied.ensures, c.number-applied.ensures.value, c.requires.behind)

pub returns-clause-ok : goal.returns-clause-ok
returns-clause-ok c =
    let groups : List Group = c.args.log.now.groups in
    let x : Chunk = c.args.chunk.now in
    let behind : x.applied < length groups = c.requires.behind in
    let number : c.number.result ≡ x.number = c.number.ensures.value in
    let last : last_for c.number.result 0 groups ≤ x.applied = omega (arith, c.if-applied-noted.false, c.noted-noted.ensures, c.number-applied.ensures.value, c.applied.ensures) in
    let most : last_for x.number 0 groups ≤ x.applied = subst (λ (k : ℕ). last_for k 0 groups ≤ x.applied) number last in
    let next : c.new-next.result ≡ x.applied + 1 = omega (arith, c.new-next.ensures, c.number-applied.ensures.value, c.applied.ensures) in
    skip_to groups x c.skip.new.self (x.applied + 1) c.requires.log.counted c.requires.got (omega arith) (omega arith) most (c.skip.ensures.skipped ∙ ap (skipped x) next)
    (λ front more has counts pass sum. c.skip.ensures.got front more has counts pass (sum ∙ sym next))
