-- What no move changes, or only some.
use Rattle.std.proofs.Common.{◌≡◌, ℕ, true, false, Some, arith, inl, inr, refl, sym, subst}
use Rattle.page_coherence.specs.Page.{Page, HasX}
use Rattle.page_coherence.specs.Mode.{Mode.Normal}
use Rattle.page_coherence.specs.Invariant.{Holds}
use Rattle.page_coherence.specs.Moves.{Move, Moves, Move.Begin, Move.SendRegister, Move.SendGet, Move.SendInvalidate, Move.SendUnregister, Move.Finish, Move.BeginMake, Move.BeginMade, Move.BeginPlan, Move.GiveUp, Move.Evict, Move.Install, Move.TryS, Move.SeeS, Move.SeeLook, Move.SeeRwLook, Move.DoRead, Move.DoRwRead, Move.DoRelease, Move.SeeRelease, Move.TryX, Move.SeeX, Move.SeeLookAgain, Move.SeeNoAddress, Move.DoWrite, Move.SeeWrite, Move.DoClean, Move.SeeClean, Move.ReadDown, Move.RwReadDown, Move.WriteDown, Move.PlanWriteDown, Move.HandleRegister, Move.HandleFull, Move.HandleUnregister, Move.HandleGet, Move.HandleInvalidate, Move.Accept, Move.HomeTurn, is_calm, asks_home, installed}
use Rattle.page_coherence.specs.Frame.{Extends}

-- the page has the address, the slot, the lost addresses and the number that it had
abbrev pub SamePlace : Page → Page → Type 0
SamePlace P Q = (Q.entry.address ≡ P.entry.address) × (Q.slot ≡ P.slot) × (Q.dead ≡ P.dead) × (Q.number ≡ P.number)

pub calm_place : (r w n : ℕ) (move : Move) (P Q : Page) → is_calm move ≡ true → Moves r w n move P Q → SamePlace P Q
calm_place r w n Begin P Q l h = subst (λ Z. SamePlace P Z) (sym h.3) (refl, refl, refl, refl)
calm_place r w n SendRegister P Q l h = subst (λ Z. SamePlace P Z) (sym h.3) (refl, refl, refl, refl)
calm_place r w n SendGet P Q l h = subst (λ Z. SamePlace P Z) (sym h.4) (refl, refl, refl, refl)
calm_place r w n SendInvalidate P Q l h = subst (λ Z. SamePlace P Z) (sym h.3) (refl, refl, refl, refl)
calm_place r w n SendUnregister P Q l h = subst (λ Z. SamePlace P Z) (sym h.3) (refl, refl, refl, refl)
calm_place r w n Finish P Q l h = subst (λ Z. SamePlace P Z) (sym h.2) (refl, refl, refl, refl)
calm_place r w n BeginMake P Q l h = subst (λ Z. SamePlace P Z) (sym h.5) (refl, refl, refl, refl)
calm_place r w n BeginMade P Q l h = subst (λ Z. SamePlace P Z) (sym h.6) (refl, refl, refl, refl)
calm_place r w n BeginPlan P Q l h = subst (λ Z. SamePlace P Z) (sym h.4) (refl, refl, refl, refl)
calm_place r w n GiveUp P Q l h = subst (λ Z. SamePlace P Z) (sym h.2) (refl, refl, refl, refl)
calm_place r w n Evict P Q l h = subst (λ Z. SamePlace P Z) (sym h.3) (refl, refl, refl, refl)
calm_place r w n (Install image) P Q l h = subst (λ Z. SamePlace P Z) (sym h.2) (refl, refl, refl, refl)
calm_place r w n TryS P Q l h = subst (λ Z. SamePlace P Z) (sym h.3) (refl, refl, refl, refl)
calm_place r w n SeeS P Q l h = subst (λ Z. SamePlace P Z) (sym h.3) (refl, refl, refl, refl)
calm_place r w n SeeLook P Q l h = subst (λ Z. SamePlace P Z) (sym h.2) (refl, refl, refl, refl)
calm_place r w n SeeRwLook P Q l h = subst (λ Z. SamePlace P Z) (sym h.2) (refl, refl, refl, refl)
calm_place r w n DoRead P Q l h = subst (λ Z. SamePlace P Z) (sym h.3) (refl, refl, refl, refl)
calm_place r w n DoRwRead P Q l h = subst (λ Z. SamePlace P Z) (sym h.3) (refl, refl, refl, refl)
calm_place r w n DoRelease P Q l h = subst (λ Z. SamePlace P Z) (sym h.2) (refl, refl, refl, refl)
calm_place r w n SeeRelease P Q l h = subst (λ Z. SamePlace P Z) (sym h.3) (refl, refl, refl, refl)
calm_place r w n TryX P Q l h = subst (λ Z. SamePlace P Z) (sym h.3) (refl, refl, refl, refl)
calm_place r w n SeeX P Q l h = subst (λ Z. SamePlace P Z) (sym h.3) (refl, refl, refl, refl)
calm_place r w n SeeLookAgain P Q l h = subst (λ Z. SamePlace P Z) (sym h.3) (refl, refl, refl, refl)
calm_place r w n SeeNoAddress P Q l h = subst (λ Z. SamePlace P Z) (sym h.3) (refl, refl, refl, refl)
calm_place r w n SeeWrite P Q l h = subst (λ Z. SamePlace P Z) (sym h.4) (refl, refl, refl, refl)
calm_place r w n DoClean P Q l h = subst (λ Z. SamePlace P Z) (sym h.5) (refl, refl, refl, refl)
calm_place r w n SeeClean P Q l h = subst (λ Z. SamePlace P Z) (sym h.5) (refl, refl, refl, refl)
calm_place r w n ReadDown P Q l h = subst (λ Z. SamePlace P Z) (sym h.2) (refl, refl, refl, refl)
calm_place r w n RwReadDown P Q l h = subst (λ Z. SamePlace P Z) (sym h.2) (refl, refl, refl, refl)
calm_place r w n WriteDown P Q l h = subst (λ Z. SamePlace P Z) (sym h.3) (refl, refl, refl, refl)
calm_place r w n PlanWriteDown P Q l h = subst (λ Z. SamePlace P Z) (sym h.2) (refl, refl, refl, refl)
calm_place r w n HandleFull P Q l h = subst (λ Z. SamePlace P Z) (sym h.1) (refl, refl, refl, refl)
calm_place r w n HandleUnregister P Q l h = subst (λ Z. SamePlace P Z) (sym h.1) (refl, refl, refl, refl)
calm_place r w n (HandleGet applied) P Q l h = subst (λ Z. SamePlace P Z) (sym h.2) (refl, refl, refl, refl)
calm_place r w n (HandleInvalidate done) P Q l h = subst (λ Z. SamePlace P Z) (sym h.3) (refl, refl, refl, refl)
calm_place r w n Accept P Q l h = subst (λ Z. SamePlace P Z) (sym h.2) (refl, refl, refl, refl)
calm_place r w n HomeTurn P Q l h = subst (λ Z. SamePlace P Z) (sym h.2) (refl, refl, refl, refl)
calm_place r w n _ P Q l h = absurd Prim.cc

-- only a move of the home changes the entry
pub home_entry : (r w n : ℕ) (move : Move) (P Q : Page) → asks_home move ≡ false → Moves r w n move P Q → Q.entry ≡ P.entry
home_entry r w n Begin P Q l h = subst (λ Z. Z.entry ≡ P.entry) (sym h.3) refl
home_entry r w n SendRegister P Q l h = subst (λ Z. Z.entry ≡ P.entry) (sym h.3) refl
home_entry r w n SendGet P Q l h = subst (λ Z. Z.entry ≡ P.entry) (sym h.4) refl
home_entry r w n SendInvalidate P Q l h = subst (λ Z. Z.entry ≡ P.entry) (sym h.3) refl
home_entry r w n SendUnregister P Q l h = subst (λ Z. Z.entry ≡ P.entry) (sym h.3) refl
home_entry r w n Finish P Q l h = subst (λ Z. Z.entry ≡ P.entry) (sym h.2) refl
home_entry r w n BeginMake P Q l h = subst (λ Z. Z.entry ≡ P.entry) (sym h.5) refl
home_entry r w n BeginMade P Q l h = subst (λ Z. Z.entry ≡ P.entry) (sym h.6) refl
home_entry r w n BeginPlan P Q l h = subst (λ Z. Z.entry ≡ P.entry) (sym h.4) refl
home_entry r w n GiveUp P Q l h = subst (λ Z. Z.entry ≡ P.entry) (sym h.2) refl
home_entry r w n Evict P Q l h = subst (λ Z. Z.entry ≡ P.entry) (sym h.3) refl
home_entry r w n (Install image) P Q l h = subst (λ Z. Z.entry ≡ P.entry) (sym h.2) refl
home_entry r w n DoRead P Q l h = subst (λ Z. Z.entry ≡ P.entry) (sym h.3) refl
home_entry r w n DoRwRead P Q l h = subst (λ Z. Z.entry ≡ P.entry) (sym h.3) refl
home_entry r w n DoWrite P Q l h = subst (λ Z. Z.entry ≡ P.entry) (sym h.4) refl
home_entry r w n SeeWrite P Q l h = subst (λ Z. Z.entry ≡ P.entry) (sym h.4) refl
home_entry r w n ReadDown P Q l h = subst (λ Z. Z.entry ≡ P.entry) (sym h.2) refl
home_entry r w n RwReadDown P Q l h = subst (λ Z. Z.entry ≡ P.entry) (sym h.2) refl
home_entry r w n WriteDown P Q l h = subst (λ Z. Z.entry ≡ P.entry) (sym h.3) refl
home_entry r w n PlanWriteDown P Q l h = subst (λ Z. Z.entry ≡ P.entry) (sym h.2) refl
home_entry r w n (HandleGet applied) P Q l h = subst (λ Z. Z.entry ≡ P.entry) (sym h.2) refl
home_entry r w n Accept P Q l h = subst (λ Z. Z.entry ≡ P.entry) (sym h.2) refl
home_entry r w n _ P Q l h = absurd Prim.cc

-- only an install changes the history, and the RW holds X then
pub install_log : (r w n : ℕ) (move : Move) (P Q : Page) → Holds Normal r w P → Moves r w n move P Q → Extends r P Q
install_log r w n Begin P Q g h = subst (λ Z. Extends r P Z) (sym h.3) (inl refl)
install_log r w n SendRegister P Q g h = subst (λ Z. Extends r P Z) (sym h.3) (inl refl)
install_log r w n SendGet P Q g h = subst (λ Z. Extends r P Z) (sym h.4) (inl refl)
install_log r w n SendInvalidate P Q g h = subst (λ Z. Extends r P Z) (sym h.3) (inl refl)
install_log r w n SendUnregister P Q g h = subst (λ Z. Extends r P Z) (sym h.3) (inl refl)
install_log r w n Finish P Q g h = subst (λ Z. Extends r P Z) (sym h.2) (inl refl)
install_log r w n BeginMake P Q g h = subst (λ Z. Extends r P Z) (sym h.5) (inl refl)
install_log r w n BeginMade P Q g h = subst (λ Z. Extends r P Z) (sym h.6) (inl refl)
install_log r w n BeginPlan P Q g h = subst (λ Z. Extends r P Z) (sym h.4) (inl refl)
install_log r w n GiveUp P Q g h = subst (λ Z. Extends r P Z) (sym h.2) (inl refl)
install_log r w n Evict P Q g h = subst (λ Z. Extends r P Z) (sym h.3) (inl refl)
install_log r w n (Install image) P Q g h =
    let gn = g.each n h.0 in
    let h1 = h.1 in
    let own : n ≡ r = grind arith in
    let held : HasX P r = grind arith in
    let copy : ((installed P n image).node n).copy ≡ Some image = grind arith in
    subst (λ Z. Extends r P Z) (sym h.2) (inr (image, refl, held, subst (λ k. ((installed P n image).node k).copy ≡ Some image) own copy))
install_log r w n TryS P Q g h = subst (λ Z. Extends r P Z) (sym h.3) (inl refl)
install_log r w n SeeS P Q g h = subst (λ Z. Extends r P Z) (sym h.3) (inl refl)
install_log r w n SeeLook P Q g h = subst (λ Z. Extends r P Z) (sym h.2) (inl refl)
install_log r w n SeeRwLook P Q g h = subst (λ Z. Extends r P Z) (sym h.2) (inl refl)
install_log r w n DoRead P Q g h = subst (λ Z. Extends r P Z) (sym h.3) (inl refl)
install_log r w n DoRwRead P Q g h = subst (λ Z. Extends r P Z) (sym h.3) (inl refl)
install_log r w n DoRelease P Q g h = subst (λ Z. Extends r P Z) (sym h.2) (inl refl)
install_log r w n SeeRelease P Q g h = subst (λ Z. Extends r P Z) (sym h.3) (inl refl)
install_log r w n TryX P Q g h = subst (λ Z. Extends r P Z) (sym h.3) (inl refl)
install_log r w n SeeX P Q g h = subst (λ Z. Extends r P Z) (sym h.3) (inl refl)
install_log r w n SeeLookAgain P Q g h = subst (λ Z. Extends r P Z) (sym h.3) (inl refl)
install_log r w n SeeNoAddress P Q g h = subst (λ Z. Extends r P Z) (sym h.3) (inl refl)
install_log r w n DoWrite P Q g h = subst (λ Z. Extends r P Z) (sym h.4) (inl refl)
install_log r w n SeeWrite P Q g h = subst (λ Z. Extends r P Z) (sym h.4) (inl refl)
install_log r w n DoClean P Q g h = subst (λ Z. Extends r P Z) (sym h.5) (inl refl)
install_log r w n SeeClean P Q g h = subst (λ Z. Extends r P Z) (sym h.5) (inl refl)
install_log r w n ReadDown P Q g h = subst (λ Z. Extends r P Z) (sym h.2) (inl refl)
install_log r w n RwReadDown P Q g h = subst (λ Z. Extends r P Z) (sym h.2) (inl refl)
install_log r w n WriteDown P Q g h = subst (λ Z. Extends r P Z) (sym h.3) (inl refl)
install_log r w n PlanWriteDown P Q g h = subst (λ Z. Extends r P Z) (sym h.2) (inl refl)
install_log r w n (HandleRegister fresh image) P Q g h = subst (λ Z. Extends r P Z) (sym h.2) (inl refl)
install_log r w n HandleFull P Q g h = subst (λ Z. Extends r P Z) (sym h.1) (inl refl)
install_log r w n HandleUnregister P Q g h = subst (λ Z. Extends r P Z) (sym h.1) (inl refl)
install_log r w n (HandleGet applied) P Q g h = subst (λ Z. Extends r P Z) (sym h.2) (inl refl)
install_log r w n (HandleInvalidate done) P Q g h = subst (λ Z. Extends r P Z) (sym h.3) (inl refl)
install_log r w n Accept P Q g h = subst (λ Z. Extends r P Z) (sym h.2) (inl refl)
install_log r w n HomeTurn P Q g h = subst (λ Z. Extends r P Z) (sym h.2) (inl refl)
