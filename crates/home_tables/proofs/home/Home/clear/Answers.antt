use Rattle.std.proofs.Common.{◌≤◌, ℕ, sym, subst}
use Rattle.home_tables.proofs.Entries.{kept_none}
use Rattle.home_tables.proofs.home.Home.clear.Goals as goal

pub invariant_of-self : goal.invariant_of-self
invariant_of-self c =
    kept_none c.clear.new.self.entries c.clear-2.new.self c.clear-3.new.self c.clear.ensures.empty c.clear-2.ensures.none c.clear-3.ensures.none
    (subst (λ (n : ℕ). 524288 ≤ n) (sym c.clear-2.ensures.bound) c.self.invariant.room.0) (subst (λ (n : ℕ). 524288 ≤ n) (sym c.clear-3.ensures.bound) c.self.invariant.room.1)
