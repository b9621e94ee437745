-- A run: the RW makes page 7 and plans over it, and another node fetches it.
use Rattle.std.proofs.Common.{◌≡◌, ℕ, ◌≢◌, Bool, true, false, Some, [], if◌then◌else◌, nat_eq, ◌&&◌, not, arith, inl, eqb-true, refl, sym, subst, ◌∙◌}
use Rattle.home_model.specs.Numbered.{put}
use Rattle.page_image.specs.Image.{unmade}
use Rattle.node_model.specs.Slots.{written}
use Rattle.node_model.specs.Step.{Step.Write}
use Rattle.node_model.specs.Call.{Call.AskRegister, Call.AskInvalidate}
use Rattle.page_coherence.specs.Page.{Page, set_node, set_entry, new_page}
use Rattle.page_coherence.specs.Mode.{Mode.Normal}
use Rattle.page_coherence.specs.Moves.{Move, Moves, is_calm, handled_register}
use Rattle.page_coherence.specs.Cluster.{State, Event.Act, Event.Write, Event.Enter, Makes, Happens, start, Reached}
use Rattle.node_model.specs.Learning.{stands, calls, begun, begun_make, made, after_s, after_look, after_x, after_read, after_release, after_write, after_clean, answered}
use Rattle.page_coherence.specs.Moves.{Move.Begin, Move.SendRegister, Move.SendInvalidate, Move.BeginMake, Move.BeginMade, Move.Install, Move.TryS, Move.SeeS, Move.SeeLook, Move.DoRead, Move.DoRelease, Move.SeeRelease, Move.TryX, Move.SeeX, Move.SeeWrite, Move.DoClean, Move.SeeClean, Move.HandleInvalidate, Move.Accept, installed, fresh_of, handled_invalidate}
use Rattle.home_model.specs.Entry.{cleaned, shared_by, excluded_by, released_by}
use Rattle.page_coherence.specs.Runs.{leaf_at, HasFetched}
use Rattle.page_coherence.proofs.Beside.{by_node, put_off}
use Rattle.page_coherence.proofs.EveryEvent.{goes}

abbrev pub only : ℕ → Bool
only p = nat_eq p 7

-- a move at page 7 alone
pub act_at : (s : State) (n : ℕ) (move : Move) (Q : Page) → s.mode ≡ Normal → is_calm move ≡ true → s.home_up ≡ true → Moves s.rw s.watermark n move (s.page 7) Q → Happens (Act n only (λ p. move)) s (record s { page = put s.page 7 Q })
act_at s n move Q m c u h = (m, (put s.page 7 Q, (λ p e. subst (λ k. Makes s n move (s.page k) (put s.page 7 Q k)) (sym (eqb-true p 7 e)) (c, (λ a. u), h)), (λ p e. rw e refl), refl))

-- nobody is due beside the only node with a reference
pub alone : (m : ℕ) (fresh : Bool) → ((if nat_eq m 0 then true else false) && not (nat_eq m 0) && fresh) ≡ false
alone m fresh = by_test (nat_eq m 0)
  where
    by_test : (b : Bool) → ((if b then true else false) && not b && fresh) ≡ false
    by_test true = refl
    by_test false = refl

abbrev pub base0 : ℕ → Page
base0 q = new_page q

abbrev s0 : State
s0 = start 0 0 (λ p. [])

off0 : (q : ℕ) → q ≢ 7 → s0.page q ≡ base0 q
off0 q ne = refl

reached0 : Reached s0
reached0 = (0, 0, (λ p. []), [], (λ p. omega arith), refl)

abbrev q1 : Page
q1 = set_node (s0.page 7) 0 (begun_make ((s0.page 7).node 0))

abbrev s1 : State
s1 = record s0 { page = put s0.page 7 q1 }

step1 : Happens (Act 0 only (λ p. BeginMake)) s0 s1
step1 = act_at s0 0 BeginMake q1 refl refl refl (refl, refl, refl, refl, refl, refl)

off1 : (q : ℕ) → q ≢ 7 → s1.page q ≡ base0 q
off1 q ne = put_off s0.page 7 q1 q ne ∙ off0 q ne

reached1 : Reached s1
reached1 = goes s0 s1 (Act 0 only (λ p. BeginMake)) reached0 step1

abbrev q2 : Page
q2 = set_node (s1.page 7) 0 (calls ((s1.page 7).node 0) AskRegister)

abbrev s2 : State
s2 = record s1 { page = put s1.page 7 q2 }

step2 : Happens (Act 0 only (λ p. SendRegister)) s1 s2
step2 = act_at s1 0 SendRegister q2 refl refl refl (refl, refl, refl, refl)

off2 : (q : ℕ) → q ≢ 7 → s2.page q ≡ base0 q
off2 q ne = put_off s1.page 7 q2 q ne ∙ off1 q ne

reached2 : Reached s2
reached2 = goes s1 s2 (Act 0 only (λ p. SendRegister)) reached1 step2

abbrev q3 : Page
q3 = handled_register (s2.page 7) s2.watermark 40 (s2.slots.holds 40) 0

abbrev s3 : State
s3 = record s2 { page = put s2.page 7 q3 }

step3 : Happens (Enter 0 7 40) s2 s3
step3 = (refl, refl, (λ t. (refl, by_node (λ q. (s2.page q).entry.address ≢ Some 40) 7 (λ e. absurd cc) (λ q ne. subst (λ Z. Z.entry.address ≢ Some 40) (sym (off2 q ne)) (λ e. absurd cc)))), (q3, (refl, (λ t. refl), refl), refl))

off3 : (q : ℕ) → q ≢ 7 → s3.page q ≡ base0 q
off3 q ne = put_off s2.page 7 q3 q ne ∙ off2 q ne

reached3 : Reached s3
reached3 = goes s2 s3 (Enter 0 7 40) reached2 step3

abbrev q4 : Page
q4 = set_node (s3.page 7) 0 (answered s3.rw 0 ((s3.page 7).node 0))

abbrev s4 : State
s4 = record s3 { page = put s3.page 7 q4 }

step4 : Happens (Act 0 only (λ p. Accept)) s3 s4
step4 = act_at s3 0 Accept q4 refl refl refl (refl, refl, refl)

off4 : (q : ℕ) → q ≢ 7 → s4.page q ≡ base0 q
off4 q ne = put_off s3.page 7 q4 q ne ∙ off3 q ne

reached4 : Reached s4
reached4 = goes s3 s4 (Act 0 only (λ p. Accept)) reached3 step4

abbrev q5 : Page
q5 = set_node (s4.page 7) 0 (made ((s4.page 7).node 0) (unmade (s4.page 7).number))

abbrev s5 : State
s5 = record s4 { page = put s4.page 7 q5 }

step5 : Happens (Act 0 only (λ p. BeginMade)) s4 s5
step5 = act_at s4 0 BeginMade q5 refl refl refl (refl, refl, refl, refl, refl, refl, refl)

off5 : (q : ℕ) → q ≢ 7 → s5.page q ≡ base0 q
off5 q ne = put_off s4.page 7 q5 q ne ∙ off4 q ne

reached5 : Reached s5
reached5 = goes s4 s5 (Act 0 only (λ p. BeginMade)) reached4 step5

abbrev q6 : Page
q6 = set_entry (s5.page 7) (excluded_by (s5.page 7).entry 0)

abbrev s6 : State
s6 = record s5 { page = put s5.page 7 q6 }

step6 : Happens (Act 0 only (λ p. TryX)) s5 s6
step6 = act_at s5 0 TryX q6 refl refl refl (refl, refl, ((λ m ne. refl), refl), refl)

off6 : (q : ℕ) → q ≢ 7 → s6.page q ≡ base0 q
off6 q ne = put_off s5.page 7 q6 q ne ∙ off5 q ne

reached6 : Reached s6
reached6 = goes s5 s6 (Act 0 only (λ p. TryX)) reached5 step6

abbrev q7 : Page
q7 = set_node (s6.page 7) 0 (stands ((s6.page 7).node 0) (after_x ((s6.page 7).node 0).step))

abbrev s7 : State
s7 = record s6 { page = put s6.page 7 q7 }

step7 : Happens (Act 0 only (λ p. SeeX)) s6 s7
step7 = act_at s6 0 SeeX q7 refl refl refl (refl, refl, refl, refl)

off7 : (q : ℕ) → q ≢ 7 → s7.page q ≡ base0 q
off7 q ne = put_off s6.page 7 q7 q ne ∙ off6 q ne

reached7 : Reached s7
reached7 = goes s6 s7 (Act 0 only (λ p. SeeX)) reached6 step7

abbrev q8 : Page
q8 = set_node (s7.page 7) 0 (calls ((s7.page 7).node 0) AskInvalidate)

abbrev s8 : State
s8 = record s7 { page = put s7.page 7 q8 }

step8 : Happens (Act 0 only (λ p. SendInvalidate)) s7 s8
step8 = act_at s7 0 SendInvalidate q8 refl refl refl (refl, refl, refl, refl)

off8 : (q : ℕ) → q ≢ 7 → s8.page q ≡ base0 q
off8 q ne = put_off s7.page 7 q8 q ne ∙ off7 q ne

reached8 : Reached s8
reached8 = goes s7 s8 (Act 0 only (λ p. SendInvalidate)) reached7 step8

abbrev q9 : Page
q9 = handled_invalidate (s8.page 7) 0 true

abbrev s9 : State
s9 = record s8 { page = put s8.page 7 q9 }

step9 : Happens (Act 0 only (λ p. (HandleInvalidate true))) s8 s9
step9 = act_at s8 0 (HandleInvalidate true) q9 refl refl refl (refl, refl, (λ e m. alone m (fresh_of (s8.page 7) m)), refl)

off9 : (q : ℕ) → q ≢ 7 → s9.page q ≡ base0 q
off9 q ne = put_off s8.page 7 q9 q ne ∙ off8 q ne

reached9 : Reached s9
reached9 = goes s8 s9 (Act 0 only (λ p. (HandleInvalidate true))) reached8 step9

abbrev q10 : Page
q10 = set_node (s9.page 7) 0 (answered s9.rw 0 ((s9.page 7).node 0))

abbrev s10 : State
s10 = record s9 { page = put s9.page 7 q10 }

step10 : Happens (Act 0 only (λ p. Accept)) s9 s10
step10 = act_at s9 0 Accept q10 refl refl refl (refl, refl, refl)

off10 : (q : ℕ) → q ≢ 7 → s10.page q ≡ base0 q
off10 q ne = put_off s9.page 7 q10 q ne ∙ off9 q ne

reached10 : Reached s10
reached10 = goes s9 s10 (Act 0 only (λ p. Accept)) reached9 step10

abbrev q11 : Page
q11 = installed (s10.page 7) 0 (leaf_at 3)

abbrev s11 : State
s11 = record s10 { page = put s10.page 7 q11 }

step11 : Happens (Act 0 only (λ p. (Install (leaf_at 3)))) s10 s11
step11 = act_at s10 0 (Install (leaf_at 3)) q11 refl refl refl (refl, refl, refl)

off11 : (q : ℕ) → q ≢ 7 → s11.page q ≡ base0 q
off11 q ne = put_off s10.page 7 q11 q ne ∙ off10 q ne

reached11 : Reached s11
reached11 = goes s10 s11 (Act 0 only (λ p. (Install (leaf_at 3)))) reached10 step11

abbrev q12 : Page
q12 = record (s11.page 7) { slot = (leaf_at 3) }

abbrev s12 : State
s12 = record s11 { slots = written s11.slots 40 (leaf_at 3); page = put s11.page 7 q12 }

step12 : Happens (Write 0 7 40) s11 s12
step12 = (refl, refl, refl, (q12, (refl, (leaf_at 3), refl, (40, refl, refl), refl), refl))

off12 : (q : ℕ) → q ≢ 7 → s12.page q ≡ base0 q
off12 q ne = put_off s11.page 7 q12 q ne ∙ off11 q ne

reached12 : Reached s12
reached12 = goes s11 s12 (Write 0 7 40) reached11 step12

abbrev q13 : Page
q13 = set_node (s12.page 7) 0 (stands ((s12.page 7).node 0) (after_write ((s12.page 7).node 0).step))

abbrev s13 : State
s13 = record s12 { page = put s12.page 7 q13 }

step13 : Happens (Act 0 only (λ p. SeeWrite)) s12 s13
step13 = act_at s12 0 SeeWrite q13 refl refl refl (refl, (leaf_at 3), refl, refl, refl)

off13 : (q : ℕ) → q ≢ 7 → s13.page q ≡ base0 q
off13 q ne = put_off s12.page 7 q13 q ne ∙ off12 q ne

reached13 : Reached s13
reached13 = goes s12 s13 (Act 0 only (λ p. SeeWrite)) reached12 step13

abbrev q14 : Page
q14 = set_entry (s13.page 7) (cleaned (s13.page 7).entry 3)

abbrev s14 : State
s14 = record s13 { page = put s13.page 7 q14 }

step14 : Happens (Act 0 only (λ p. DoClean)) s13 s14
step14 = act_at s13 0 DoClean q14 refl refl refl (refl, (leaf_at 3), refl, (λ e. absurd cc), refl, refl)

off14 : (q : ℕ) → q ≢ 7 → s14.page q ≡ base0 q
off14 q ne = put_off s13.page 7 q14 q ne ∙ off13 q ne

reached14 : Reached s14
reached14 = goes s13 s14 (Act 0 only (λ p. DoClean)) reached13 step14

abbrev q15 : Page
q15 = set_node (s14.page 7) 0 (stands ((s14.page 7).node 0) (after_clean s14.rw 0 ((s14.page 7).node 0).step))

abbrev s15 : State
s15 = record s14 { page = put s14.page 7 q15 }

step15 : Happens (Act 0 only (λ p. SeeClean)) s14 s15
step15 = act_at s14 0 SeeClean q15 refl refl refl (refl, (leaf_at 3), refl, refl, refl, refl)

off15 : (q : ℕ) → q ≢ 7 → s15.page q ≡ base0 q
off15 q ne = put_off s14.page 7 q15 q ne ∙ off14 q ne

reached15 : Reached s15
reached15 = goes s14 s15 (Act 0 only (λ p. SeeClean)) reached14 step15

abbrev q16 : Page
q16 = set_entry (s15.page 7) (released_by (s15.page 7).entry 0)

abbrev s16 : State
s16 = record s15 { page = put s15.page 7 q16 }

step16 : Happens (Act 0 only (λ p. DoRelease)) s15 s16
step16 = act_at s15 0 DoRelease q16 refl refl refl (refl, refl, refl)

off16 : (q : ℕ) → q ≢ 7 → s16.page q ≡ base0 q
off16 q ne = put_off s15.page 7 q16 q ne ∙ off15 q ne

reached16 : Reached s16
reached16 = goes s15 s16 (Act 0 only (λ p. DoRelease)) reached15 step16

abbrev q17 : Page
q17 = set_node (s16.page 7) 0 (after_release ((s16.page 7).node 0))

abbrev s17 : State
s17 = record s16 { page = put s16.page 7 q17 }

step17 : Happens (Act 0 only (λ p. SeeRelease)) s16 s17
step17 = act_at s16 0 SeeRelease q17 refl refl refl (refl, refl, (refl, λ e. absurd cc), refl)

off17 : (q : ℕ) → q ≢ 7 → s17.page q ≡ base0 q
off17 q ne = put_off s16.page 7 q17 q ne ∙ off16 q ne

reached17 : Reached s17
reached17 = goes s16 s17 (Act 0 only (λ p. SeeRelease)) reached16 step17

abbrev q18 : Page
q18 = set_node (s17.page 7) 1 (begun s17.rw 1 ((s17.page 7).node 1))

abbrev s18 : State
s18 = record s17 { page = put s17.page 7 q18 }

step18 : Happens (Act 1 only (λ p. Begin)) s17 s18
step18 = act_at s17 1 Begin q18 refl refl refl (refl, refl, (λ e. inl refl), refl)

off18 : (q : ℕ) → q ≢ 7 → s18.page q ≡ base0 q
off18 q ne = put_off s17.page 7 q18 q ne ∙ off17 q ne

reached18 : Reached s18
reached18 = goes s17 s18 (Act 1 only (λ p. Begin)) reached17 step18

abbrev q19 : Page
q19 = set_node (s18.page 7) 1 (calls ((s18.page 7).node 1) AskRegister)

abbrev s19 : State
s19 = record s18 { page = put s18.page 7 q19 }

step19 : Happens (Act 1 only (λ p. SendRegister)) s18 s19
step19 = act_at s18 1 SendRegister q19 refl refl refl (refl, refl, refl, refl)

off19 : (q : ℕ) → q ≢ 7 → s19.page q ≡ base0 q
off19 q ne = put_off s18.page 7 q19 q ne ∙ off18 q ne

reached19 : Reached s19
reached19 = goes s18 s19 (Act 1 only (λ p. SendRegister)) reached18 step19

abbrev q20 : Page
q20 = handled_register (s19.page 7) s19.watermark 41 (s19.slots.holds 41) 1

abbrev s20 : State
s20 = record s19 { page = put s19.page 7 q20 }

step20 : Happens (Enter 1 7 41) s19 s20
step20 = (refl, refl, (λ t. absurd cc), (q20, (refl, (λ t. refl), refl), refl))

off20 : (q : ℕ) → q ≢ 7 → s20.page q ≡ base0 q
off20 q ne = put_off s19.page 7 q20 q ne ∙ off19 q ne

reached20 : Reached s20
reached20 = goes s19 s20 (Enter 1 7 41) reached19 step20

abbrev q21 : Page
q21 = set_node (s20.page 7) 1 (answered s20.rw 1 ((s20.page 7).node 1))

abbrev s21 : State
s21 = record s20 { page = put s20.page 7 q21 }

step21 : Happens (Act 1 only (λ p. Accept)) s20 s21
step21 = act_at s20 1 Accept q21 refl refl refl (refl, refl, refl)

off21 : (q : ℕ) → q ≢ 7 → s21.page q ≡ base0 q
off21 q ne = put_off s20.page 7 q21 q ne ∙ off20 q ne

reached21 : Reached s21
reached21 = goes s20 s21 (Act 1 only (λ p. Accept)) reached20 step21

abbrev q22 : Page
q22 = set_entry (s21.page 7) (shared_by (s21.page 7).entry 1)

abbrev s22 : State
s22 = record s21 { page = put s21.page 7 q22 }

step22 : Happens (Act 1 only (λ p. TryS)) s21 s22
step22 = act_at s21 1 TryS q22 refl refl refl (refl, refl, refl, refl)

off22 : (q : ℕ) → q ≢ 7 → s22.page q ≡ base0 q
off22 q ne = put_off s21.page 7 q22 q ne ∙ off21 q ne

reached22 : Reached s22
reached22 = goes s21 s22 (Act 1 only (λ p. TryS)) reached21 step22

abbrev q23 : Page
q23 = set_node (s22.page 7) 1 (after_s ((s22.page 7).node 1))

abbrev s23 : State
s23 = record s22 { page = put s22.page 7 q23 }

step23 : Happens (Act 1 only (λ p. SeeS)) s22 s23
step23 = act_at s22 1 SeeS q23 refl refl refl (refl, refl, refl, refl)

off23 : (q : ℕ) → q ≢ 7 → s23.page q ≡ base0 q
off23 q ne = put_off s22.page 7 q23 q ne ∙ off22 q ne

reached23 : Reached s23
reached23 = goes s22 s23 (Act 1 only (λ p. SeeS)) reached22 step23

abbrev q24 : Page
q24 = set_node (s23.page 7) 1 (after_look (s23.page 7).entry.bit ((s23.page 7).node 1))

abbrev s24 : State
s24 = record s23 { page = put s23.page 7 q24 }

step24 : Happens (Act 1 only (λ p. SeeLook)) s23 s24
step24 = act_at s23 1 SeeLook q24 refl refl refl (refl, refl, refl)

off24 : (q : ℕ) → q ≢ 7 → s24.page q ≡ base0 q
off24 q ne = put_off s23.page 7 q24 q ne ∙ off23 q ne

reached24 : Reached s24
reached24 = goes s23 s24 (Act 1 only (λ p. SeeLook)) reached23 step24

abbrev q25 : Page
q25 = set_node (s24.page 7) 1 (after_read ((s24.page 7).node 1) (s24.page 7).slot)

abbrev pub s25 : State
s25 = record s24 { page = put s24.page 7 q25 }

step25 : Happens (Act 1 only (λ p. DoRead)) s24 s25
step25 = act_at s24 1 DoRead q25 refl refl refl (refl, refl, (40, refl, refl), refl)

pub off25 : (q : ℕ) → q ≢ 7 → s25.page q ≡ base0 q
off25 q ne = put_off s24.page 7 q25 q ne ∙ off24 q ne

pub reached25 : Reached s25
reached25 = goes s24 s25 (Act 1 only (λ p. DoRead)) reached24 step25

pub fetched : (t : State) × HasFetched t 1 (leaf_at 3)
fetched = (s25, record { reached = reached25; finished = refl; copy = refl; current = refl })
