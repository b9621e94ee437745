-- Lemmas on the marks of one page in the sets of all nodes.
use Rattle.std.proofs.Common.{◌≡◌, ◌≢◌, ◌≤◌, ◌<◌, ◌+◌, ◌*◌, ℕ, Bool, true, false, ◌&&◌, List, length, set, if◌then◌else◌, nat_eq, nat_lt, eqb-true, refl, ◌∙◌, ap, arith, get_or-set_same, get_or-set_other}
use Rattle.page_latches.specs.Set.{has as has_node}
use Rattle.home_tables.specs.Numbers.{has, has_page}

in_turn : (q page n k : ℕ) (nodes : List ℕ) (was : Bool) → (n ≡ k → q ≡ page → ⊥)
    → (if (nat_eq q page && nat_lt n k) then has_node nodes n else was) ≡ (if (nat_eq q page && nat_lt n (k + 1)) then has_node nodes n else was)
in_turn q page n k nodes was apart = by (nat_eq q page) refl (nat_lt n k) refl (nat_lt n (k + 1)) refl
  where
    by : (b : Bool) → nat_eq q page ≡ b → (l : Bool) → nat_lt n k ≡ l → (m : Bool) → nat_lt n (k + 1) ≡ m → (if (b && l) then has_node nodes n else was) ≡ (if (b && m) then has_node nodes n else was)
    by false e l f m g = refl
    by true e true f true g = refl
    by true e false f false g = refl
    by true e true f false g = absurd (grind (arith, f, g))
    by true e false f true g = absurd (let same : q ≡ page = eqb-true q page e in let here : n ≡ k = grind (arith, f, g) in apart here same)

pub mark_step : (old due : List Bool) (nodes : List ℕ) (k page : ℕ) (b : Bool) → k < 16 → page < 32768 → 524288 ≤ length due → b ≡ has_node nodes k
    → ((n q : ℕ) → n < 16 → q < 32768 → has_page due n q ≡ (if (nat_eq q page && nat_lt n k) then has_node nodes n else has_page old n q))
    → (n q : ℕ) → n < 16 → q < 32768 → has_page (set due (k * 32768 + page) b) n q ≡ (if (nat_eq q page && nat_lt n (k + 1)) then has_node nodes n else has_page old n q)
mark_step old due nodes k page b hk hp whole is_due so_far n q hn hq = by (nat_eq (n * 32768 + q) (k * 32768 + page)) refl
  where
    by : (t : Bool) → nat_eq (n * 32768 + q) (k * 32768 + page) ≡ t → has_page (set due (k * 32768 + page) b) n q ≡ (if (nat_eq q page && nat_lt n (k + 1)) then has_node nodes n else has_page old n q)
    by true t =
        let same : n * 32768 + q ≡ k * 32768 + page = eqb-true (n * 32768 + q) (k * 32768 + page) t in
        let node : n ≡ k = omega arith in
        let here : q ≡ page = omega arith in
        let inside : k * 32768 + page < length due = omega arith in
        let put_in : has_page (set due (k * 32768 + page) b) n q ≡ has_node nodes k = ap (λ (x : ℕ). has (set due (k * 32768 + page) b) x) same ∙ get_or-set_same due (k * 32768 + page) b false inside ∙ is_due in
        put_in ∙ grind (arith, node, here)
    by false t =
        let other : n * 32768 + q ≢ k * 32768 + page = grind (arith, t) in
        get_or-set_other due (k * 32768 + page) (n * 32768 + q) b false other ∙ so_far n q hn hq
        ∙ in_turn q page n k nodes (has_page old n q) (λ node here. other (omega arith))
