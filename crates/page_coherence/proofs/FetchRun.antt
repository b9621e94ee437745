-- The run ends: a third node fetches the page from storage.
use Rattle.std.proofs.Common.{◌≡◌, ℕ, ◌≢◌, false, Some, inl, refl, sym, subst, ◌∙◌}
use Rattle.home_model.specs.Numbered.{put}
use Rattle.node_model.specs.Slots.{written}
use Rattle.node_model.specs.Step.{Step.Write}
use Rattle.node_model.specs.Call.{Call.AskRegister, Call.AskGet}
use Rattle.page_coherence.specs.Page.{Page, set_node, set_entry}
use Rattle.page_coherence.specs.Moves.{handled_register}
use Rattle.page_coherence.specs.Cluster.{State, Event.Act, Event.Write, Event.Enter, Happens, Reached}
use Rattle.node_model.specs.Learning.{stands, calls, begun, after_s, after_look, after_look_again, after_x, after_release, after_write, after_clean, answered}
use Rattle.page_coherence.specs.Moves.{Move.Begin, Move.SendRegister, Move.SendGet, Move.TryS, Move.SeeS, Move.SeeLook, Move.DoRelease, Move.SeeRelease, Move.TryX, Move.SeeX, Move.SeeLookAgain, Move.SeeWrite, Move.DoClean, Move.SeeClean, Move.HandleGet, Move.Accept, answer_get}
use Rattle.home_model.specs.Entry.{cleaned, shared_by, excluded_by, released_by}
use Rattle.page_coherence.specs.Runs.{leaf_at, HasFetched}
use Rattle.page_coherence.proofs.Beside.{by_node, put_off}
use Rattle.page_coherence.proofs.EveryEvent.{goes}
use Rattle.page_coherence.proofs.PlanRun.{only, act_at}
use Rattle.page_coherence.proofs.TakeoverRun.{cleared, base5, s44, off44, reached44}

abbrev q45 : Page
q45 = set_node (s44.page 7) 2 (begun s44.rw 2 ((s44.page 7).node 2))

abbrev s45 : State
s45 = record s44 { page = put s44.page 7 q45 }

step45 : Happens (Act 2 only (λ p. Begin)) s44 s45
step45 = act_at s44 2 Begin q45 refl refl refl (refl, refl, (λ e. inl refl), refl)

off45 : (q : ℕ) → q ≢ 7 → s45.page q ≡ base5 q
off45 q ne = put_off s44.page 7 q45 q ne ∙ off44 q ne

reached45 : Reached s45
reached45 = goes s44 s45 (Act 2 only (λ p. Begin)) reached44 step45

abbrev q46 : Page
q46 = set_node (s45.page 7) 2 (calls ((s45.page 7).node 2) AskRegister)

abbrev s46 : State
s46 = record s45 { page = put s45.page 7 q46 }

step46 : Happens (Act 2 only (λ p. SendRegister)) s45 s46
step46 = act_at s45 2 SendRegister q46 refl refl refl (refl, refl, refl, refl)

off46 : (q : ℕ) → q ≢ 7 → s46.page q ≡ base5 q
off46 q ne = put_off s45.page 7 q46 q ne ∙ off45 q ne

reached46 : Reached s46
reached46 = goes s45 s46 (Act 2 only (λ p. SendRegister)) reached45 step46

abbrev q47 : Page
q47 = handled_register (s46.page 7) s46.watermark 42 (s46.slots.holds 42) 2

abbrev s47 : State
s47 = record s46 { page = put s46.page 7 q47 }

step47 : Happens (Enter 2 7 42) s46 s47
step47 = (refl, refl, (λ t. (refl, by_node (λ q. (s46.page q).entry.address ≢ Some 42) 7 (λ e. absurd cc) (λ q ne. subst (λ Z. Z.entry.address ≢ Some 42) (sym (off46 q ne)) (λ e. absurd cc)))), (q47, (refl, (λ t. refl), refl), refl))

off47 : (q : ℕ) → q ≢ 7 → s47.page q ≡ base5 q
off47 q ne = put_off s46.page 7 q47 q ne ∙ off46 q ne

reached47 : Reached s47
reached47 = goes s46 s47 (Enter 2 7 42) reached46 step47

abbrev q48 : Page
q48 = set_node (s47.page 7) 2 (answered s47.rw 2 ((s47.page 7).node 2))

abbrev s48 : State
s48 = record s47 { page = put s47.page 7 q48 }

step48 : Happens (Act 2 only (λ p. Accept)) s47 s48
step48 = act_at s47 2 Accept q48 refl refl refl (refl, refl, refl)

off48 : (q : ℕ) → q ≢ 7 → s48.page q ≡ base5 q
off48 q ne = put_off s47.page 7 q48 q ne ∙ off47 q ne

reached48 : Reached s48
reached48 = goes s47 s48 (Act 2 only (λ p. Accept)) reached47 step48

abbrev q49 : Page
q49 = set_entry (s48.page 7) (shared_by (s48.page 7).entry 2)

abbrev s49 : State
s49 = record s48 { page = put s48.page 7 q49 }

step49 : Happens (Act 2 only (λ p. TryS)) s48 s49
step49 = act_at s48 2 TryS q49 refl refl refl (refl, refl, refl, refl)

off49 : (q : ℕ) → q ≢ 7 → s49.page q ≡ base5 q
off49 q ne = put_off s48.page 7 q49 q ne ∙ off48 q ne

reached49 : Reached s49
reached49 = goes s48 s49 (Act 2 only (λ p. TryS)) reached48 step49

abbrev q50 : Page
q50 = set_node (s49.page 7) 2 (after_s ((s49.page 7).node 2))

abbrev s50 : State
s50 = record s49 { page = put s49.page 7 q50 }

step50 : Happens (Act 2 only (λ p. SeeS)) s49 s50
step50 = act_at s49 2 SeeS q50 refl refl refl (refl, refl, refl, refl)

off50 : (q : ℕ) → q ≢ 7 → s50.page q ≡ base5 q
off50 q ne = put_off s49.page 7 q50 q ne ∙ off49 q ne

reached50 : Reached s50
reached50 = goes s49 s50 (Act 2 only (λ p. SeeS)) reached49 step50

abbrev q51 : Page
q51 = set_node (s50.page 7) 2 (after_look (s50.page 7).entry.bit ((s50.page 7).node 2))

abbrev s51 : State
s51 = record s50 { page = put s50.page 7 q51 }

step51 : Happens (Act 2 only (λ p. SeeLook)) s50 s51
step51 = act_at s50 2 SeeLook q51 refl refl refl (refl, refl, refl)

off51 : (q : ℕ) → q ≢ 7 → s51.page q ≡ base5 q
off51 q ne = put_off s50.page 7 q51 q ne ∙ off50 q ne

reached51 : Reached s51
reached51 = goes s50 s51 (Act 2 only (λ p. SeeLook)) reached50 step51

abbrev q52 : Page
q52 = set_entry (s51.page 7) (released_by (s51.page 7).entry 2)

abbrev s52 : State
s52 = record s51 { page = put s51.page 7 q52 }

step52 : Happens (Act 2 only (λ p. DoRelease)) s51 s52
step52 = act_at s51 2 DoRelease q52 refl refl refl (refl, refl, refl)

off52 : (q : ℕ) → q ≢ 7 → s52.page q ≡ base5 q
off52 q ne = put_off s51.page 7 q52 q ne ∙ off51 q ne

reached52 : Reached s52
reached52 = goes s51 s52 (Act 2 only (λ p. DoRelease)) reached51 step52

abbrev q53 : Page
q53 = set_node (s52.page 7) 2 (after_release ((s52.page 7).node 2))

abbrev s53 : State
s53 = record s52 { page = put s52.page 7 q53 }

step53 : Happens (Act 2 only (λ p. SeeRelease)) s52 s53
step53 = act_at s52 2 SeeRelease q53 refl refl refl (refl, refl, (refl, λ e. absurd cc), refl)

off53 : (q : ℕ) → q ≢ 7 → s53.page q ≡ base5 q
off53 q ne = put_off s52.page 7 q53 q ne ∙ off52 q ne

reached53 : Reached s53
reached53 = goes s52 s53 (Act 2 only (λ p. SeeRelease)) reached52 step53

abbrev q54 : Page
q54 = set_entry (s53.page 7) (excluded_by (s53.page 7).entry 2)

abbrev s54 : State
s54 = record s53 { page = put s53.page 7 q54 }

step54 : Happens (Act 2 only (λ p. TryX)) s53 s54
step54 = act_at s53 2 TryX q54 refl refl refl (refl, refl, ((λ m ne. cleared m 2 false refl), refl), refl)

off54 : (q : ℕ) → q ≢ 7 → s54.page q ≡ base5 q
off54 q ne = put_off s53.page 7 q54 q ne ∙ off53 q ne

reached54 : Reached s54
reached54 = goes s53 s54 (Act 2 only (λ p. TryX)) reached53 step54

abbrev q55 : Page
q55 = set_node (s54.page 7) 2 (stands ((s54.page 7).node 2) (after_x ((s54.page 7).node 2).step))

abbrev s55 : State
s55 = record s54 { page = put s54.page 7 q55 }

step55 : Happens (Act 2 only (λ p. SeeX)) s54 s55
step55 = act_at s54 2 SeeX q55 refl refl refl (refl, refl, refl, refl)

off55 : (q : ℕ) → q ≢ 7 → s55.page q ≡ base5 q
off55 q ne = put_off s54.page 7 q55 q ne ∙ off54 q ne

reached55 : Reached s55
reached55 = goes s54 s55 (Act 2 only (λ p. SeeX)) reached54 step55

abbrev q56 : Page
q56 = set_node (s55.page 7) 2 (stands ((s55.page 7).node 2) (after_look_again s55.rw 2 (s55.page 7).entry.bit (s55.page 7).entry.floor))

abbrev s56 : State
s56 = record s55 { page = put s55.page 7 q56 }

step56 : Happens (Act 2 only (λ p. SeeLookAgain)) s55 s56
step56 = act_at s55 2 SeeLookAgain q56 refl refl refl (refl, refl, (λ e. absurd cc), refl)

off56 : (q : ℕ) → q ≢ 7 → s56.page q ≡ base5 q
off56 q ne = put_off s55.page 7 q56 q ne ∙ off55 q ne

reached56 : Reached s56
reached56 = goes s55 s56 (Act 2 only (λ p. SeeLookAgain)) reached55 step56

abbrev q57 : Page
q57 = set_node (s56.page 7) 2 (calls ((s56.page 7).node 2) (AskGet 3))

abbrev s57 : State
s57 = record s56 { page = put s56.page 7 q57 }

step57 : Happens (Act 2 only (λ p. SendGet)) s56 s57
step57 = act_at s56 2 SendGet q57 refl refl refl (refl, 3, refl, refl, refl)

off57 : (q : ℕ) → q ≢ 7 → s57.page q ≡ base5 q
off57 q ne = put_off s56.page 7 q57 q ne ∙ off56 q ne

reached57 : Reached s57
reached57 = goes s56 s57 (Act 2 only (λ p. SendGet)) reached56 step57

abbrev q58 : Page
q58 = set_node (s57.page 7) 2 (calls ((s57.page 7).node 2) (answer_get (s57.page 7) 3 3))

abbrev s58 : State
s58 = record s57 { page = put s57.page 7 q58 }

step58 : Happens (Act 2 only (λ p. (HandleGet 3))) s57 s58
step58 = act_at s57 2 (HandleGet 3) q58 refl refl refl (3, refl, refl)

off58 : (q : ℕ) → q ≢ 7 → s58.page q ≡ base5 q
off58 q ne = put_off s57.page 7 q58 q ne ∙ off57 q ne

reached58 : Reached s58
reached58 = goes s57 s58 (Act 2 only (λ p. (HandleGet 3))) reached57 step58

abbrev q59 : Page
q59 = set_node (s58.page 7) 2 (answered s58.rw 2 ((s58.page 7).node 2))

abbrev s59 : State
s59 = record s58 { page = put s58.page 7 q59 }

step59 : Happens (Act 2 only (λ p. Accept)) s58 s59
step59 = act_at s58 2 Accept q59 refl refl refl (refl, refl, refl)

off59 : (q : ℕ) → q ≢ 7 → s59.page q ≡ base5 q
off59 q ne = put_off s58.page 7 q59 q ne ∙ off58 q ne

reached59 : Reached s59
reached59 = goes s58 s59 (Act 2 only (λ p. Accept)) reached58 step59

abbrev q60 : Page
q60 = record (s59.page 7) { slot = (leaf_at 3) }

abbrev s60 : State
s60 = record s59 { slots = written s59.slots 42 (leaf_at 3); page = put s59.page 7 q60 }

step60 : Happens (Write 2 7 42) s59 s60
step60 = (refl, refl, refl, (q60, (refl, (leaf_at 3), refl, (42, refl, refl), refl), refl))

off60 : (q : ℕ) → q ≢ 7 → s60.page q ≡ base5 q
off60 q ne = put_off s59.page 7 q60 q ne ∙ off59 q ne

reached60 : Reached s60
reached60 = goes s59 s60 (Write 2 7 42) reached59 step60

abbrev q61 : Page
q61 = set_node (s60.page 7) 2 (stands ((s60.page 7).node 2) (after_write ((s60.page 7).node 2).step))

abbrev s61 : State
s61 = record s60 { page = put s60.page 7 q61 }

step61 : Happens (Act 2 only (λ p. SeeWrite)) s60 s61
step61 = act_at s60 2 SeeWrite q61 refl refl refl (refl, (leaf_at 3), refl, refl, refl)

off61 : (q : ℕ) → q ≢ 7 → s61.page q ≡ base5 q
off61 q ne = put_off s60.page 7 q61 q ne ∙ off60 q ne

reached61 : Reached s61
reached61 = goes s60 s61 (Act 2 only (λ p. SeeWrite)) reached60 step61

abbrev q62 : Page
q62 = set_entry (s61.page 7) (cleaned (s61.page 7).entry 3)

abbrev s62 : State
s62 = record s61 { page = put s61.page 7 q62 }

step62 : Happens (Act 2 only (λ p. DoClean)) s61 s62
step62 = act_at s61 2 DoClean q62 refl refl refl (refl, (leaf_at 3), refl, (λ e. absurd cc), refl, refl)

off62 : (q : ℕ) → q ≢ 7 → s62.page q ≡ base5 q
off62 q ne = put_off s61.page 7 q62 q ne ∙ off61 q ne

reached62 : Reached s62
reached62 = goes s61 s62 (Act 2 only (λ p. DoClean)) reached61 step62

abbrev q63 : Page
q63 = set_node (s62.page 7) 2 (stands ((s62.page 7).node 2) (after_clean s62.rw 2 ((s62.page 7).node 2).step))

abbrev s63 : State
s63 = record s62 { page = put s62.page 7 q63 }

step63 : Happens (Act 2 only (λ p. SeeClean)) s62 s63
step63 = act_at s62 2 SeeClean q63 refl refl refl (refl, (leaf_at 3), refl, refl, refl, refl)

off63 : (q : ℕ) → q ≢ 7 → s63.page q ≡ base5 q
off63 q ne = put_off s62.page 7 q63 q ne ∙ off62 q ne

reached63 : Reached s63
reached63 = goes s62 s63 (Act 2 only (λ p. SeeClean)) reached62 step63

abbrev q64 : Page
q64 = set_entry (s63.page 7) (shared_by (s63.page 7).entry 2)

abbrev s64 : State
s64 = record s63 { page = put s63.page 7 q64 }

step64 : Happens (Act 2 only (λ p. TryS)) s63 s64
step64 = act_at s63 2 TryS q64 refl refl refl (refl, refl, refl, refl)

off64 : (q : ℕ) → q ≢ 7 → s64.page q ≡ base5 q
off64 q ne = put_off s63.page 7 q64 q ne ∙ off63 q ne

reached64 : Reached s64
reached64 = goes s63 s64 (Act 2 only (λ p. TryS)) reached63 step64

abbrev q65 : Page
q65 = set_node (s64.page 7) 2 (after_s ((s64.page 7).node 2))

abbrev s65 : State
s65 = record s64 { page = put s64.page 7 q65 }

step65 : Happens (Act 2 only (λ p. SeeS)) s64 s65
step65 = act_at s64 2 SeeS q65 refl refl refl (refl, refl, refl, refl)

off65 : (q : ℕ) → q ≢ 7 → s65.page q ≡ base5 q
off65 q ne = put_off s64.page 7 q65 q ne ∙ off64 q ne

reached65 : Reached s65
reached65 = goes s64 s65 (Act 2 only (λ p. SeeS)) reached64 step65

pub fetched_again : (t : State) × HasFetched t 2 (leaf_at 3) × (t.rw ≡ 1)
fetched_again = (s65, record { reached = reached65; finished = refl; copy = refl; current = refl }, refl)
