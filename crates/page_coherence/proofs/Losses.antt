-- An access to a slab that is down keeps what holds of a page.
use Rattle.std.proofs.Common.{ℕ, arith, refl, sym, subst}
use Rattle.node_model.specs.Learning.{after_down, after_rw_down, after_plan_down}
use Rattle.page_coherence.specs.Page.{Page}
use Rattle.page_coherence.specs.Mode.{Mode.Normal}
use Rattle.page_coherence.specs.Invariant.{Holds}
use Rattle.page_coherence.specs.Moves.{Moves, Move.ReadDown, Move.RwReadDown, Move.WriteDown, Move.PlanWriteDown}
use Rattle.page_coherence.proofs.Beside.{set_node_holds}

pub keeps_read_down : (r w : ℕ) (P Q : Page) (n : ℕ) → Holds Normal r w P → Moves r w n ReadDown P Q → Holds Normal r w Q
keeps_read_down r w P Q n g h =
    let h0 = h.0 in let h1 = h.1 in
    subst (Holds Normal r w) (sym h.2) (let gn = g.each n h0 in let on = g.orphan n in
    set_node_holds Normal r w P n (after_down (P.node n)) g
    (λ up. record { address = grind arith; refs = grind arith; nothing = grind arith; fresh = grind arith; of_rw = grind arith; needs = grind arith; calls = grind arith; leaves = grind arith })
    (λ x free ne k. grind arith)
    (λ own e b q. grind arith)
    (λ c. grind arith)
    (λ d. grind arith)
    (λ other. absurd (other refl)))

pub keeps_rw_read_down : (r w : ℕ) (P Q : Page) (n : ℕ) → Holds Normal r w P → Moves r w n RwReadDown P Q → Holds Normal r w Q
keeps_rw_read_down r w P Q n g h =
    let h0 = h.0 in let h1 = h.1 in
    subst (Holds Normal r w) (sym h.2) (let gn = g.each n h0 in let on = g.orphan n in
    set_node_holds Normal r w P n (after_rw_down (P.node n)) g
    (λ up. record { address = grind arith; refs = grind arith; nothing = grind arith; fresh = grind arith; of_rw = grind arith; needs = grind arith; calls = grind arith; leaves = grind arith })
    (λ x free ne k. grind arith)
    (λ own e b q. grind arith)
    (λ c. grind arith)
    (λ d. grind arith)
    (λ other. absurd (other refl)))

pub keeps_write_down : (r w : ℕ) (P Q : Page) (n : ℕ) → Holds Normal r w P → Moves r w n WriteDown P Q → Holds Normal r w Q
keeps_write_down r w P Q n g h =
    let h0 = h.0 in let v = h.1 in let h2 = h.2 in
    subst (Holds Normal r w) (sym h.3) (let gn = g.each n h0 in let on = g.orphan n in
    set_node_holds Normal r w P n (after_down (P.node n)) g
    (λ up. record { address = grind arith; refs = grind arith; nothing = grind arith; fresh = grind arith; of_rw = grind arith; needs = grind arith; calls = grind arith; leaves = grind arith })
    (λ x free ne k. grind arith)
    (λ own e b q. grind arith)
    (λ c. grind arith)
    (λ d. grind arith)
    (λ other. absurd (other refl)))

pub keeps_plan_write_down : (r w : ℕ) (P Q : Page) (n : ℕ) → Holds Normal r w P → Moves r w n PlanWriteDown P Q → Holds Normal r w Q
keeps_plan_write_down r w P Q n g h =
    let h0 = h.0 in let h1 = h.1 in
    subst (Holds Normal r w) (sym h.2) (let gn = g.each n h0 in let on = g.orphan n in
    set_node_holds Normal r w P n (after_plan_down (P.node n)) g
    (λ up. record { address = grind arith; refs = grind arith; nothing = grind arith; fresh = grind arith; of_rw = grind arith; needs = grind arith; calls = grind arith; leaves = grind arith })
    (λ x free ne k. grind arith)
    (λ own e b q. grind arith)
    (λ c. grind arith)
    (λ d. grind arith)
    (λ other. absurd (other refl)))
