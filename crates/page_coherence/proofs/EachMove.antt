-- Each move keeps what holds of a page.
use Rattle.std.proofs.Common.{ℕ}
use Rattle.page_coherence.specs.Page.{Page}
use Rattle.page_coherence.specs.Mode.{Mode.Normal}
use Rattle.page_coherence.specs.Invariant.{Holds}
use Rattle.page_coherence.specs.Moves.{Move, Moves, Move.Begin, Move.SendRegister, Move.SendGet, Move.SendInvalidate, Move.SendUnregister, Move.Finish, Move.BeginMake, Move.BeginMade, Move.BeginPlan, Move.GiveUp, Move.Evict, Move.Install, Move.TryS, Move.SeeS, Move.SeeLook, Move.SeeRwLook, Move.DoRead, Move.DoRwRead, Move.DoRelease, Move.SeeRelease, Move.TryX, Move.SeeX, Move.SeeLookAgain, Move.SeeNoAddress, Move.DoWrite, Move.SeeWrite, Move.DoClean, Move.SeeClean, Move.ReadDown, Move.RwReadDown, Move.WriteDown, Move.PlanWriteDown, Move.HandleRegister, Move.HandleFull, Move.HandleUnregister, Move.HandleGet, Move.HandleInvalidate, Move.Accept, Move.HomeTurn}
use Rattle.page_coherence.proofs.Works.{keeps_begin, keeps_send_register, keeps_send_get, keeps_send_invalidate, keeps_send_unregister, keeps_finish, keeps_begin_make, keeps_begin_made, keeps_begin_plan, keeps_give_up, keeps_evict}
use Rattle.page_coherence.proofs.Homes.{keeps_install, keeps_try_s, keeps_do_release, keeps_try_x, keeps_do_write, keeps_do_clean, keeps_handle_register, keeps_handle_unregister, keeps_handle_invalidate, keeps_home_turn}
use Rattle.page_coherence.proofs.Accesses.{keeps_see_s, keeps_see_look, keeps_see_rw_look, keeps_do_read, keeps_do_rw_read, keeps_see_release, keeps_see_x, keeps_see_look_again, keeps_see_no_address, keeps_see_write, keeps_see_clean}
use Rattle.page_coherence.proofs.Losses.{keeps_read_down, keeps_rw_read_down, keeps_write_down, keeps_plan_write_down}
use Rattle.page_coherence.proofs.Replies.{keeps_handle_full, keeps_handle_get, keeps_accept}

pub keeps : (r w : ℕ) (P Q : Page) (n : ℕ) (move : Move) → Holds Normal r w P → Moves r w n move P Q → Holds Normal r w Q
keeps r w P Q n Begin g h = keeps_begin r w P Q n g h
keeps r w P Q n SendRegister g h = keeps_send_register r w P Q n g h
keeps r w P Q n SendGet g h = keeps_send_get r w P Q n g h
keeps r w P Q n SendInvalidate g h = keeps_send_invalidate r w P Q n g h
keeps r w P Q n SendUnregister g h = keeps_send_unregister r w P Q n g h
keeps r w P Q n Finish g h = keeps_finish r w P Q n g h
keeps r w P Q n BeginMake g h = keeps_begin_make r w P Q n g h
keeps r w P Q n BeginMade g h = keeps_begin_made r w P Q n g h
keeps r w P Q n BeginPlan g h = keeps_begin_plan r w P Q n g h
keeps r w P Q n GiveUp g h = keeps_give_up r w P Q n g h
keeps r w P Q n Evict g h = keeps_evict r w P Q n g h
keeps r w P Q n (Install image) g h = keeps_install r w P Q n image g h
keeps r w P Q n TryS g h = keeps_try_s r w P Q n g h
keeps r w P Q n SeeS g h = keeps_see_s r w P Q n g h
keeps r w P Q n SeeLook g h = keeps_see_look r w P Q n g h
keeps r w P Q n SeeRwLook g h = keeps_see_rw_look r w P Q n g h
keeps r w P Q n DoRead g h = keeps_do_read r w P Q n g h
keeps r w P Q n DoRwRead g h = keeps_do_rw_read r w P Q n g h
keeps r w P Q n DoRelease g h = keeps_do_release r w P Q n g h
keeps r w P Q n SeeRelease g h = keeps_see_release r w P Q n g h
keeps r w P Q n TryX g h = keeps_try_x r w P Q n g h
keeps r w P Q n SeeX g h = keeps_see_x r w P Q n g h
keeps r w P Q n SeeLookAgain g h = keeps_see_look_again r w P Q n g h
keeps r w P Q n SeeNoAddress g h = keeps_see_no_address r w P Q n g h
keeps r w P Q n DoWrite g h = keeps_do_write r w P Q n g h
keeps r w P Q n SeeWrite g h = keeps_see_write r w P Q n g h
keeps r w P Q n DoClean g h = keeps_do_clean r w P Q n g h
keeps r w P Q n SeeClean g h = keeps_see_clean r w P Q n g h
keeps r w P Q n ReadDown g h = keeps_read_down r w P Q n g h
keeps r w P Q n RwReadDown g h = keeps_rw_read_down r w P Q n g h
keeps r w P Q n WriteDown g h = keeps_write_down r w P Q n g h
keeps r w P Q n PlanWriteDown g h = keeps_plan_write_down r w P Q n g h
keeps r w P Q n (HandleRegister fresh image) g h = keeps_handle_register r w P Q n fresh image g h
keeps r w P Q n HandleFull g h = keeps_handle_full r w P Q n g h
keeps r w P Q n HandleUnregister g h = keeps_handle_unregister r w P Q n g h
keeps r w P Q n (HandleGet applied) g h = keeps_handle_get r w P Q n applied g h
keeps r w P Q n (HandleInvalidate done) g h = keeps_handle_invalidate r w P Q n done g h
keeps r w P Q n Accept g h = keeps_accept r w P Q n g h
keeps r w P Q n HomeTurn g h = keeps_home_turn r w P Q n g h
