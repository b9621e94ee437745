-- What a node learns of an access keeps what holds of a page.
use Rattle.std.proofs.Common.{ℕ, arith, refl, sym, subst}
use Rattle.node_model.specs.Step.{Step.ReleaseDown}
use Rattle.node_model.specs.Learning.{stands, after_s, after_look, after_rw_look, after_look_again, after_x, after_read, after_rw_read, after_release, after_write, after_clean}
use Rattle.page_coherence.specs.Page.{Page}
use Rattle.page_coherence.specs.Mode.{Mode.Normal}
use Rattle.page_coherence.specs.Invariant.{Holds}
use Rattle.page_coherence.specs.Moves.{Moves, Move.SeeS, Move.SeeLook, Move.SeeRwLook, Move.DoRead, Move.DoRwRead, Move.SeeRelease, Move.SeeX, Move.SeeLookAgain, Move.SeeNoAddress, Move.SeeWrite, Move.SeeClean}
use Rattle.page_coherence.proofs.Beside.{set_node_holds}

pub keeps_see_s : (r w : ℕ) (P Q : Page) (n : ℕ) → Holds Normal r w P → Moves r w n SeeS P Q → Holds Normal r w Q
keeps_see_s r w P Q n g h =
    let h0 = h.0 in let h1 = h.1 in let h2 = h.2 in
    subst (Holds Normal r w) (sym h.3) (let gn = g.each n h0 in let on = g.orphan n in
    set_node_holds Normal r w P n (after_s (P.node n)) g
    (λ up. record { address = grind arith; refs = grind arith; nothing = grind arith; fresh = grind arith; of_rw = grind arith; needs = grind arith; calls = grind arith; leaves = grind arith })
    (λ x free ne k. grind arith)
    (λ own e b q. grind arith)
    (λ c. grind arith)
    (λ d. grind arith)
    (λ other. absurd (other refl)))

pub keeps_see_look : (r w : ℕ) (P Q : Page) (n : ℕ) → Holds Normal r w P → Moves r w n SeeLook P Q → Holds Normal r w Q
keeps_see_look r w P Q n g h =
    let h0 = h.0 in let h1 = h.1 in
    subst (Holds Normal r w) (sym h.2) (let gn = g.each n h0 in let on = g.orphan n in
    set_node_holds Normal r w P n (after_look P.entry.bit (P.node n)) g
    (λ up. record { address = grind arith; refs = grind arith; nothing = grind arith; fresh = grind arith; of_rw = grind arith; needs = grind arith; calls = grind arith; leaves = grind arith })
    (λ x free ne k. grind arith)
    (λ own e b q. grind arith)
    (λ c. grind arith)
    (λ d. grind arith)
    (λ other. absurd (other refl)))

pub keeps_see_rw_look : (r w : ℕ) (P Q : Page) (n : ℕ) → Holds Normal r w P → Moves r w n SeeRwLook P Q → Holds Normal r w Q
keeps_see_rw_look r w P Q n g h =
    let h0 = h.0 in let h1 = h.1 in
    subst (Holds Normal r w) (sym h.2) (let gn = g.each n h0 in let on = g.orphan n in
    set_node_holds Normal r w P n (stands (P.node n) (after_rw_look P.entry.bit)) g
    (λ up. record { address = grind arith; refs = grind arith; nothing = grind arith; fresh = grind arith; of_rw = grind arith; needs = grind arith; calls = grind arith; leaves = grind arith })
    (λ x free ne k. grind arith)
    (λ own e b q. grind arith)
    (λ c. grind arith)
    (λ d. grind arith)
    (λ other. absurd (other refl)))

pub keeps_do_read : (r w : ℕ) (P Q : Page) (n : ℕ) → Holds Normal r w P → Moves r w n DoRead P Q → Holds Normal r w Q
keeps_do_read r w P Q n g h =
    let h0 = h.0 in let h1 = h.1 in let h2 = h.2 in
    subst (Holds Normal r w) (sym h.3) (let gn = g.each n h0 in let on = g.orphan n in
    set_node_holds Normal r w P n (after_read (P.node n) P.slot) g
    (λ up. record { address = grind arith; refs = grind arith; nothing = grind arith; fresh = grind arith; of_rw = grind arith; needs = grind arith; calls = grind arith; leaves = grind arith })
    (λ x free ne k. grind arith)
    (λ own e b q. grind arith)
    (λ c. grind arith)
    (λ d. grind arith)
    (λ other. absurd (other refl)))

pub keeps_do_rw_read : (r w : ℕ) (P Q : Page) (n : ℕ) → Holds Normal r w P → Moves r w n DoRwRead P Q → Holds Normal r w Q
keeps_do_rw_read r w P Q n g h =
    let h0 = h.0 in let h1 = h.1 in let h2 = h.2 in
    subst (Holds Normal r w) (sym h.3) (let gn = g.each n h0 in let on = g.orphan n in
    set_node_holds Normal r w P n (after_rw_read (P.node n) P.slot) g
    (λ up. record { address = grind arith; refs = grind arith; nothing = grind arith; fresh = grind arith; of_rw = grind arith; needs = grind arith; calls = grind arith; leaves = grind arith })
    (λ x free ne k. grind arith)
    (λ own e b q. grind arith)
    (λ c. grind arith)
    (λ d. grind arith)
    (λ other. absurd (other refl)))

pub keeps_see_release : (r w : ℕ) (P Q : Page) (n : ℕ) → Holds Normal r w P → Moves r w n SeeRelease P Q → Holds Normal r w Q
keeps_see_release r w P Q n g h =
    let h0 = h.0 in let h1 = h.1 in let h2 = h.2 in
    subst (Holds Normal r w) (sym h.3) (let gn = g.each n h0 in let on = g.orphan n in
    set_node_holds Normal r w P n (after_release (P.node n)) g
    (λ up. record { address = grind arith; refs = grind arith; nothing = grind arith; fresh = grind arith; of_rw = grind arith; needs = grind arith; calls = grind arith; leaves = grind arith })
    (λ x free ne k. grind arith)
    (λ own e b q. grind arith)
    (λ c. grind arith)
    (λ d. grind arith)
    (λ other. absurd (other refl)))

pub keeps_see_x : (r w : ℕ) (P Q : Page) (n : ℕ) → Holds Normal r w P → Moves r w n SeeX P Q → Holds Normal r w Q
keeps_see_x r w P Q n g h =
    let h0 = h.0 in let h1 = h.1 in let h2 = h.2 in
    subst (Holds Normal r w) (sym h.3) (let gn = g.each n h0 in let on = g.orphan n in
    set_node_holds Normal r w P n (stands (P.node n) (after_x (P.node n).step)) g
    (λ up. record { address = grind arith; refs = grind arith; nothing = grind arith; fresh = grind arith; of_rw = grind arith; needs = grind arith; calls = grind arith; leaves = grind arith })
    (λ x free ne k. grind arith)
    (λ own e b q. grind arith)
    (λ c. grind arith)
    (λ d. grind arith)
    (λ other. absurd (other refl)))

pub keeps_see_look_again : (r w : ℕ) (P Q : Page) (n : ℕ) → Holds Normal r w P → Moves r w n SeeLookAgain P Q → Holds Normal r w Q
keeps_see_look_again r w P Q n g h =
    let h0 = h.0 in let h1 = h.1 in let h2 = h.2 in
    subst (Holds Normal r w) (sym h.3) (let gn = g.each n h0 in let on = g.orphan n in
    set_node_holds Normal r w P n (stands (P.node n) (after_look_again r n P.entry.bit P.entry.floor)) g
    (λ up. record { address = grind arith; refs = grind arith; nothing = grind arith; fresh = grind arith; of_rw = grind arith; needs = grind arith; calls = grind arith; leaves = grind arith })
    (λ x free ne k. grind arith)
    (λ own e b q. grind arith)
    (λ c. grind arith)
    (λ d. grind arith)
    (λ other. absurd (other refl)))

pub keeps_see_no_address : (r w : ℕ) (P Q : Page) (n : ℕ) → Holds Normal r w P → Moves r w n SeeNoAddress P Q → Holds Normal r w Q
keeps_see_no_address r w P Q n g h =
    let h0 = h.0 in let h1 = h.1 in let h2 = h.2 in
    subst (Holds Normal r w) (sym h.3) (let gn = g.each n h0 in let on = g.orphan n in
    set_node_holds Normal r w P n (stands (P.node n) ReleaseDown) g
    (λ up. record { address = grind arith; refs = grind arith; nothing = grind arith; fresh = grind arith; of_rw = grind arith; needs = grind arith; calls = grind arith; leaves = grind arith })
    (λ x free ne k. grind arith)
    (λ own e b q. grind arith)
    (λ c. grind arith)
    (λ d. grind arith)
    (λ other. absurd (other refl)))

pub keeps_see_write : (r w : ℕ) (P Q : Page) (n : ℕ) → Holds Normal r w P → Moves r w n SeeWrite P Q → Holds Normal r w Q
keeps_see_write r w P Q n g h =
    let h0 = h.0 in let v = h.1 in let h2 = h.2 in let h3 = h.3 in
    subst (Holds Normal r w) (sym h.4) (let gn = g.each n h0 in let on = g.orphan n in
    set_node_holds Normal r w P n (stands (P.node n) (after_write (P.node n).step)) g
    (λ up. record { address = grind arith; refs = grind arith; nothing = grind arith; fresh = grind arith; of_rw = grind arith; needs = grind arith; calls = grind arith; leaves = grind arith })
    (λ x free ne k. grind arith)
    (λ own e b q. grind arith)
    (λ c. grind arith)
    (λ d. grind arith)
    (λ other. absurd (other refl)))

pub keeps_see_clean : (r w : ℕ) (P Q : Page) (n : ℕ) → Holds Normal r w P → Moves r w n SeeClean P Q → Holds Normal r w Q
keeps_see_clean r w P Q n g h =
    let h0 = h.0 in let v = h.1 in let h2 = h.2 in let h3 = h.3 in let h4 = h.4 in
    subst (Holds Normal r w) (sym h.5) (let gn = g.each n h0 in let on = g.orphan n in
    set_node_holds Normal r w P n (stands (P.node n) (after_clean r n (P.node n).step)) g
    (λ up. record { address = grind arith; refs = grind arith; nothing = grind arith; fresh = grind arith; of_rw = grind arith; needs = grind arith; calls = grind arith; leaves = grind arith })
    (λ x free ne k. grind arith)
    (λ own e b q. grind arith)
    (λ c. grind arith)
    (λ d. grind arith)
    (λ other. absurd (other refl)))
