-- What a node does by itself keeps what holds of a page.
use Rattle.std.proofs.Common.{ℕ, arith, refl, sym, subst}
use Rattle.page_image.specs.Image.{unmade}
use Rattle.node_model.specs.Step.{Step.ReleaseEnd, Step.PlanLatch, is_reading}
use Rattle.node_model.specs.Call.{Call.AskRegister, Call.AskGet, Call.AskInvalidate}
use Rattle.node_model.specs.Learning.{stands, calls, begun, begun_make, made, evicted, parted, gives_up}
use Rattle.page_coherence.specs.Page.{Page, latest}
use Rattle.page_coherence.specs.Mode.{Mode.Normal}
use Rattle.page_coherence.specs.Invariant.{Holds}
use Rattle.page_coherence.specs.Moves.{Moves, Move.Begin, Move.SendRegister, Move.SendGet, Move.SendInvalidate, Move.SendUnregister, Move.Finish, Move.BeginMake, Move.BeginMade, Move.BeginPlan, Move.GiveUp, Move.Evict}
use Rattle.page_coherence.proofs.Beside.{quit_fresh, set_node_holds}

pub keeps_begin : (r w : ℕ) (P Q : Page) (n : ℕ) → Holds Normal r w P → Moves r w n Begin P Q → Holds Normal r w Q
keeps_begin r w P Q n g h =
    let h0 = h.0 in let h1 = h.1 in let h2 = h.2 in
    subst (Holds Normal r w) (sym h.3) (let gn = g.each n h0 in let on = g.orphan n in
    set_node_holds Normal r w P n (begun r n (P.node n)) g
    (λ up. record { address = grind arith; refs = grind arith; nothing = grind arith; fresh = grind arith; of_rw = grind arith; needs = grind arith; calls = grind arith; leaves = grind arith })
    (λ x free ne k. grind arith)
    (λ own e b q. grind arith)
    (λ c. grind arith)
    (λ d. grind arith)
    (λ other. absurd (other refl)))

pub keeps_send_register : (r w : ℕ) (P Q : Page) (n : ℕ) → Holds Normal r w P → Moves r w n SendRegister P Q → Holds Normal r w Q
keeps_send_register r w P Q n g h =
    let h0 = h.0 in let h1 = h.1 in let h2 = h.2 in
    subst (Holds Normal r w) (sym h.3) (let gn = g.each n h0 in let on = g.orphan n in
    set_node_holds Normal r w P n (calls (P.node n) AskRegister) g
    (λ up. record { address = grind arith; refs = grind arith; nothing = grind arith; fresh = grind arith; of_rw = grind arith; needs = grind arith; calls = grind arith; leaves = grind arith })
    (λ x free ne k. grind arith)
    (λ own e b q. grind arith)
    (λ c. grind arith)
    (λ d. grind arith)
    (λ other. absurd (other refl)))

pub keeps_send_get : (r w : ℕ) (P Q : Page) (n : ℕ) → Holds Normal r w P → Moves r w n SendGet P Q → Holds Normal r w Q
keeps_send_get r w P Q n g h =
    let h0 = h.0 in let f = h.1 in let h2 = h.2 in let h3 = h.3 in
    subst (Holds Normal r w) (sym h.4) (let gn = g.each n h0 in let on = g.orphan n in
    set_node_holds Normal r w P n (calls (P.node n) (AskGet f)) g
    (λ up. record { address = grind arith; refs = grind arith; nothing = grind arith; fresh = grind arith; of_rw = grind arith; needs = grind arith; calls = grind arith; leaves = grind arith })
    (λ x free ne k. grind arith)
    (λ own e b q. grind arith)
    (λ c. grind arith)
    (λ d. grind arith)
    (λ other. absurd (other refl)))

pub keeps_send_invalidate : (r w : ℕ) (P Q : Page) (n : ℕ) → Holds Normal r w P → Moves r w n SendInvalidate P Q → Holds Normal r w Q
keeps_send_invalidate r w P Q n g h =
    let h0 = h.0 in let h1 = h.1 in let h2 = h.2 in
    subst (Holds Normal r w) (sym h.3) (let gn = g.each n h0 in let on = g.orphan n in
    set_node_holds Normal r w P n (calls (P.node n) AskInvalidate) g
    (λ up. record { address = grind arith; refs = grind arith; nothing = grind arith; fresh = grind arith; of_rw = grind arith; needs = grind arith; calls = grind arith; leaves = grind arith })
    (λ x free ne k. grind arith)
    (λ own e b q. grind arith)
    (λ c. grind arith)
    (λ d. grind arith)
    (λ other. absurd (other refl)))

pub keeps_send_unregister : (r w : ℕ) (P Q : Page) (n : ℕ) → Holds Normal r w P → Moves r w n SendUnregister P Q → Holds Normal r w Q
keeps_send_unregister r w P Q n g h =
    let h0 = h.0 in let h1 = h.1 in let h2 = h.2 in
    subst (Holds Normal r w) (sym h.3) (let gn = g.each n h0 in let on = g.orphan n in
    set_node_holds Normal r w P n (parted (P.node n)) g
    (λ up. record { address = grind arith; refs = grind arith; nothing = grind arith; fresh = grind arith; of_rw = grind arith; needs = grind arith; calls = grind arith; leaves = grind arith })
    (λ x free ne k. grind arith)
    (λ own e b q. grind arith)
    (λ c. grind arith)
    (λ d. grind arith)
    (λ other. absurd (other refl)))

pub keeps_finish : (r w : ℕ) (P Q : Page) (n : ℕ) → Holds Normal r w P → Moves r w n Finish P Q → Holds Normal r w Q
keeps_finish r w P Q n g h =
    let h0 = h.0 in let h1 = h.1 in
    subst (Holds Normal r w) (sym h.2) (let gn = g.each n h0 in let on = g.orphan n in
    set_node_holds Normal r w P n (stands (P.node n) ReleaseEnd) g
    (λ up. record { address = grind arith; refs = grind arith; nothing = grind arith; fresh = grind arith; of_rw = grind arith; needs = grind arith; calls = grind arith; leaves = grind arith })
    (λ x free ne k. grind arith)
    (λ own e b q. grind arith)
    (λ c. grind arith)
    (λ d. grind arith)
    (λ other. absurd (other refl)))

pub keeps_begin_make : (r w : ℕ) (P Q : Page) (n : ℕ) → Holds Normal r w P → Moves r w n BeginMake P Q → Holds Normal r w Q
keeps_begin_make r w P Q n g h =
    let h0 = h.0 in let h1 = h.1 in let h2 = h.2 in let h3 = h.3 in let h4 = h.4 in
    subst (Holds Normal r w) (sym h.5) (let gn = g.each n h0 in let on = g.orphan n in
    set_node_holds Normal r w P n (begun_make (P.node n)) g
    (λ up. record { address = grind arith; refs = grind arith; nothing = grind arith; fresh = grind arith; of_rw = grind arith; needs = grind arith; calls = grind arith; leaves = grind arith })
    (λ x free ne k. grind arith)
    (λ own e b q. grind arith)
    (λ c. grind arith)
    (λ d. grind arith)
    (λ other. absurd (other refl)))

pub keeps_begin_made : (r w : ℕ) (P Q : Page) (n : ℕ) → Holds Normal r w P → Moves r w n BeginMade P Q → Holds Normal r w Q
keeps_begin_made r w P Q n g h =
    let h0 = h.0 in let h1 = h.1 in let h2 = h.2 in let h3 = h.3 in let h4 = h.4 in let h5 = h.5 in
    subst (Holds Normal r w) (sym h.6) (let gn = g.each n h0 in let on = g.orphan n in
    set_node_holds Normal r w P n (made (P.node n) (unmade P.number)) g
    (λ up. record { address = grind arith; refs = grind arith; nothing = grind arith; fresh = grind arith; of_rw = grind arith; needs = grind arith; calls = grind arith; leaves = grind arith })
    (λ x free ne k. grind arith)
    (λ own e b q. grind arith)
    (λ c. grind arith)
    (λ d. grind arith)
    (λ other. absurd (other refl)))

pub keeps_begin_plan : (r w : ℕ) (P Q : Page) (n : ℕ) → Holds Normal r w P → Moves r w n BeginPlan P Q → Holds Normal r w Q
keeps_begin_plan r w P Q n g h =
    let h0 = h.0 in let h1 = h.1 in let h2 = h.2 in let h3 = h.3 in
    subst (Holds Normal r w) (sym h.4) (let gn = g.each n h0 in let on = g.orphan n in
    set_node_holds Normal r w P n (stands (P.node n) PlanLatch) g
    (λ up. record { address = grind arith; refs = grind arith; nothing = grind arith; fresh = grind arith; of_rw = grind arith; needs = grind arith; calls = grind arith; leaves = grind arith })
    (λ x free ne k. grind arith)
    (λ own e b q. grind arith)
    (λ c. grind arith)
    (λ d. grind arith)
    (λ other. absurd (other refl)))

pub keeps_give_up : (r w : ℕ) (P Q : Page) (n : ℕ) → Holds Normal r w P → Moves r w n GiveUp P Q → Holds Normal r w Q
keeps_give_up r w P Q n g h =
    let h0 = h.0 in let h1 = h.1 in
    subst (Holds Normal r w) (sym h.2) (let gn = g.each n h0 in let on = g.orphan n in
    set_node_holds Normal r w P n (gives_up (P.node n)) g
    (λ up. record { address = grind arith; refs = grind arith; nothing = grind arith; fresh = λ v c st rd. quit_fresh (is_reading (P.node n).step) (P.node n).stale (latest P) (P.node n).copy gn.fresh v c st; of_rw = grind arith; needs = grind arith; calls = grind arith; leaves = grind arith })
    (λ x free ne k. grind arith)
    (λ own e b q. grind arith)
    (λ c. grind arith)
    (λ d. grind arith)
    (λ other. absurd (other refl)))

pub keeps_evict : (r w : ℕ) (P Q : Page) (n : ℕ) → Holds Normal r w P → Moves r w n Evict P Q → Holds Normal r w Q
keeps_evict r w P Q n g h =
    let h0 = h.0 in let h1 = h.1 in let h2 = h.2 in
    subst (Holds Normal r w) (sym h.3) (let gn = g.each n h0 in let on = g.orphan n in
    set_node_holds Normal r w P n (evicted (P.node n)) g
    (λ up. record { address = grind arith; refs = grind arith; nothing = grind arith; fresh = grind arith; of_rw = grind arith; needs = grind arith; calls = grind arith; leaves = grind arith })
    (λ x free ne k. grind arith)
    (λ own e b q. grind arith)
    (λ c. grind arith)
    (λ d. grind arith)
    (λ other. absurd (other refl)))
