use Rattle.std.proofs.Common.{◌≡◌, false, ℕ, ◌+◌, List, ◌++◌, sym, ◌∙◌, ap, subst, append-nil}
use Rattle.page_store.specs.Stored.{Stored, all_kept}
use Rattle.plain_pool.specs.Plain.{IsPlain}
use Rattle.plain_pool.proofs.Keeping.{kept_plain}
use Rattle.plain_pool.proofs.plain.PlainPool.append.Goals as goal

pub invariant_of-self : goal.invariant_of-self
invariant_of-self c =
    let i = c.self.inside in
    subst (λ (x : Stored). IsPlain x i.work i.handed i.blank false i.last i.end) (sym c.keep.ensures) (kept_plain i.store i.work i.handed i.blank i.unkept i.last i.end c.self.invariant)
