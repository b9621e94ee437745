-- An answer keeps what holds of a page.
use Rattle.std.proofs.Common.{ℕ, arith, refl, sym, subst}
use Rattle.node_model.specs.Call.{Call.ToldFull}
use Rattle.node_model.specs.Learning.{calls, answered}
use Rattle.page_coherence.specs.Page.{Page}
use Rattle.page_coherence.specs.Mode.{Mode.Normal}
use Rattle.page_coherence.specs.Invariant.{Holds}
use Rattle.page_coherence.specs.Moves.{Moves, Move.HandleFull, Move.HandleGet, Move.Accept, answer_get}
use Rattle.page_coherence.proofs.Beside.{set_node_holds}

pub keeps_handle_full : (r w : ℕ) (P Q : Page) (n : ℕ) → Holds Normal r w P → Moves r w n HandleFull P Q → Holds Normal r w Q
keeps_handle_full r w P Q n g h =
    let h0 = h.0 in
    subst (Holds Normal r w) (sym h.1) (let gn = g.each n in let dn = g.down n in let on = g.orphan n in
    set_node_holds Normal r w P n (calls (P.node n) ToldFull) g
    (λ up. record { address = grind arith; refs = grind arith; nothing = grind arith; fresh = grind arith; of_rw = grind arith; needs = grind arith; calls = grind arith; leaves = grind arith })
    (λ x free ne k. grind arith)
    (λ own e b q. grind arith)
    (λ c. grind arith)
    (λ d. grind arith)
    (λ other. absurd (other refl)))

pub keeps_handle_get : (r w : ℕ) (P Q : Page) (n : ℕ) (applied : ℕ) → Holds Normal r w P → Moves r w n (HandleGet applied) P Q → Holds Normal r w Q
keeps_handle_get r w P Q n applied g h =
    let f = h.0 in let h1 = h.1 in
    subst (Holds Normal r w) (sym h.2) (let gn = g.each n in let dn = g.down n in let on = g.orphan n in
    set_node_holds Normal r w P n (calls (P.node n) (answer_get P f applied)) g
    (λ up. record { address = grind arith; refs = grind arith; nothing = grind arith; fresh = grind arith; of_rw = grind arith; needs = grind arith; calls = grind arith; leaves = grind arith })
    (λ x free ne k. grind arith)
    (λ own e b q. grind arith)
    (λ c. grind arith)
    (λ d. grind arith)
    (λ other. absurd (other refl)))

pub keeps_accept : (r w : ℕ) (P Q : Page) (n : ℕ) → Holds Normal r w P → Moves r w n Accept P Q → Holds Normal r w Q
keeps_accept r w P Q n g h =
    let h0 = h.0 in let h1 = h.1 in
    subst (Holds Normal r w) (sym h.2) (let gn = g.each n h0 in let on = g.orphan n in
    set_node_holds Normal r w P n (answered r n (P.node n)) g
    (λ up. record { address = grind arith; refs = grind arith; nothing = grind arith; fresh = grind arith; of_rw = grind arith; needs = grind arith; calls = grind arith; leaves = grind arith })
    (λ x free ne k. grind arith)
    (λ own e b q. grind arith)
    (λ c. grind arith)
    (λ d. grind arith)
    (λ other. absurd (other refl)))
