use Rattle.std.proofs.Common.{◌≡◌, ℕ, cond, nat_lt, length, sym, ap, subst, ◌∙◌}
use Rattle.storage_service.specs.Keeping.{IsKept}
use Rattle.storage_service.proofs.Appending.{start_keeps}
use Rattle.storage_service.proofs.storage.StorageService.new.Goals as goal

pub invariant_of-result : goal.invariant_of-result
invariant_of-result c =
    let epoch : c.new-4.result.epoch ≡ 1 = ap (λ s. s.epoch) c.new-4.ensures ∙ c.new-3.ensures in
    let count : c.behind_after-behind.result ≡ cond (nat_lt 0 (length c.in_ok-log.log.groups)) 128 0 =
    c.behind_after-behind.ensures ∙ ap (λ (n : ℕ). cond (nat_lt n c.last.result) 128 0) c.new-2.ensures
    ∙ ap (λ (n : ℕ). cond (nat_lt 0 n) 128 0) c.last.ensures in
    subst (λ (n : ℕ). IsKept c.new-4.result.epoch c.in_ok-log.log c.in_ok-chunks.chunks.items n) (sym count)
    (start_keeps c.new-4.result.epoch c.in_ok-log.log c.in_ok-chunks.chunks.items c.args.log.now (epoch ∙ sym c.in_ok-log.ensures.epoch) c.requires c.in_ok-log.ensures.groups
    c.in_ok-chunks.ensures.all c.in_ok-chunks.ensures.each)
