-- For the proofs: names for all sessions.
use Rattle.std.proofs.Common.{◌≡◌, ◌<◌, ◌&&◌, Bool, true, false, nat_lt, ℕ, List, [], ◌∷◌, length, refl, arith}
use Rattle.std.specs.List.{list_all, AllByRecursion}
use Rattle.std.proofs.lemmas.Bool.Decides.{nat_tests}
use Rattle.cluster_model.specs.declared.traces.Answered.{Answered}
use Rattle.cluster_model.specs.declared.traces.Trace.{Trace}
use Rattle.trace_text.specs.Texts.{HasName}

both : (a b : Bool) → (a && b) ≡ true → (a ≡ true) × (b ≡ true)
both true true h = (refl, refl)
both true false h = cc
both false b h = cc

below : (a b : ℕ) → nat_lt a b ≡ true → a < b
below a b h = grind (arith, nat_tests)

-- where the number of each session is below the number of names, each has one
pub all_named : (names : List (List ℕ)) (trace : Trace) (answered : List Answered)
    → list_all (λ (a : Answered). nat_lt a.session (length names)) answered ≡ true → AllByRecursion (HasName names trace) answered
all_named names trace [] h = tt
all_named names trace (a ∷ answered) h =
    let t = both (nat_lt a.session (length names)) (list_all (λ (a : Answered). nat_lt a.session (length names)) answered) h in
    (λ _. below a.session (length names) t.0, all_named names trace answered t.1)
