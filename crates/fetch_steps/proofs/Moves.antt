-- The act of a step says what the step wants, and what is told of it is a move of the law.
use Rattle.std.proofs.Common.{◌≡◌, ◌↔◌, ℕ, Bool, true, false, Option, Some, None, Ok, Err, refl, sym, subst, nat_eq, if◌then◌else◌}
use Rattle.rm_base.specs.declared.places.Addr.{Addr}
use Rattle.page_image.specs.Image.{Image}
use Rattle.slab_node.specs.declared.slab.SlabNo.{SlabNo}
use Rattle.page_latches.specs.declared.latch.Mode.TheVariants.{S, X}
use Rattle.page_latches.specs.declared.latch.Latch.TheVariants.{Granted}
use Rattle.node_model.specs.Step.{Step, wants_s, wants_x, wants_release, wants_register}
use Rattle.node_model.specs.Call.{Call}
use Rattle.node_model.specs.Node.{Node}
use Rattle.node_model.specs.Learning.{have, s_step, after_s, after_x, after_release, release_step, after_look, look_step, after_rw_look, after_look_again, after_read, after_rw_read, after_write, after_clean, after_down, after_rw_down, answer_step}
use Rattle.fetch_steps.specs.declared.acts.Action.TheVariants.{Register as AskRegister, Latch as Try, Release}
use Rattle.message_network.specs.declared.looks.Seen.{Seen}
use Rattle.fetch_steps.specs.declared.acts.Told.TheVariants.{Latch as Tried, Seen as Looked, Slab, Cleaned}
use Rattle.fetch_steps.specs.Acts.{act_of}
use Rattle.fetch_steps.specs.Telling.{after_latch, after_second_look, after_seen, after_slab, after_slab_down, after_cleaned, learned, learned_address, address_after_down, with_copy}

never : false ≡ true → ⊥
never h = cc

-- the act of a step, both ways
act_s : (page : ℕ) (a : Option Addr) (step : Step) → act_of page a step ≡ Try page S → wants_s step ≡ true
act_s page a Step.LatchS h = refl
act_s page None Step.Read h = absurd (cc)
act_s page (Some b) Step.Read h = absurd (cc)
act_s page a Step.BackToS h = refl
act_s page None (Step.Write w) h = absurd (cc)
act_s page (Some b) (Step.Write w) h = absurd (cc)
act_s page a (Step.LastS w) h = refl
act_s page None Step.RwRead h = absurd (cc)
act_s page (Some b) Step.RwRead h = absurd (cc)
act_s page a _ h = absurd (cc)

wants_s_act : (page : ℕ) (a : Option Addr) (step : Step) → wants_s step ≡ true → act_of page a step ≡ Try page S
wants_s_act page a Step.LatchS h = refl
wants_s_act page a Step.BackToS h = refl
wants_s_act page a (Step.LastS w) h = refl
wants_s_act page a _ h = absurd (never h)

act_x : (page : ℕ) (a : Option Addr) (step : Step) → act_of page a step ≡ Try page X → wants_x step ≡ true
act_x page None Step.Read h = absurd (cc)
act_x page (Some b) Step.Read h = absurd (cc)
act_x page a Step.LatchX h = refl
act_x page None (Step.Write w) h = absurd (cc)
act_x page (Some b) (Step.Write w) h = absurd (cc)
act_x page None Step.RwRead h = absurd (cc)
act_x page (Some b) Step.RwRead h = absurd (cc)
act_x page a Step.PlanLatch h = refl
act_x page a _ h = absurd (cc)

wants_x_act : (page : ℕ) (a : Option Addr) (step : Step) → wants_x step ≡ true → act_of page a step ≡ Try page X
wants_x_act page a Step.LatchX h = refl
wants_x_act page a Step.PlanLatch h = refl
wants_x_act page a _ h = absurd (never h)

act_release : (page : ℕ) (a : Option Addr) (step : Step) → act_of page a step ≡ Release page → wants_release step ≡ true
act_release page None Step.Read h = absurd (cc)
act_release page (Some b) Step.Read h = absurd (cc)
act_release page a Step.ReleaseS h = refl
act_release page None (Step.Write w) h = absurd (cc)
act_release page (Some b) (Step.Write w) h = absurd (cc)
act_release page a Step.ReleaseDown h = refl
act_release page a Step.ReleaseEnd h = refl
act_release page None Step.RwRead h = absurd (cc)
act_release page (Some b) Step.RwRead h = absurd (cc)
act_release page a Step.RwBack h = refl
act_release page a (Step.RwEnd w) h = refl
act_release page a Step.PlanRelease h = refl
act_release page a _ h = absurd (cc)

wants_release_act : (page : ℕ) (a : Option Addr) (step : Step) → wants_release step ≡ true → act_of page a step ≡ Release page
wants_release_act page a Step.ReleaseS h = refl
wants_release_act page a Step.ReleaseDown h = refl
wants_release_act page a Step.ReleaseEnd h = refl
wants_release_act page a Step.RwBack h = refl
wants_release_act page a (Step.RwEnd w) h = refl
wants_release_act page a Step.PlanRelease h = refl
wants_release_act page a _ h = absurd (never h)

act_register : (page : ℕ) (a : Option Addr) (step : Step) → act_of page a step ≡ AskRegister page → wants_register step ≡ true
act_register page a Step.Register h = refl
act_register page None Step.Read h = absurd (cc)
act_register page (Some b) Step.Read h = absurd (cc)
act_register page None (Step.Write w) h = absurd (cc)
act_register page (Some b) (Step.Write w) h = absurd (cc)
act_register page None Step.RwRead h = absurd (cc)
act_register page (Some b) Step.RwRead h = absurd (cc)
act_register page a Step.PlanMake h = refl
act_register page a Step.PlanRegister h = refl
act_register page a _ h = absurd (cc)

wants_register_act : (page : ℕ) (a : Option Addr) (step : Step) → wants_register step ≡ true → act_of page a step ≡ AskRegister page
wants_register_act page a Step.Register h = refl
wants_register_act page a Step.PlanMake h = refl
wants_register_act page a Step.PlanRegister h = refl
wants_register_act page a _ h = absurd (never h)

pub shares : (page : ℕ) (a : Option Addr) (step : Step) → (act_of page a step ≡ Try page S) ↔ (wants_s step ≡ true)
shares page a step = (act_s page a step, wants_s_act page a step)

pub excludes : (page : ℕ) (a : Option Addr) (step : Step) → (act_of page a step ≡ Try page X) ↔ (wants_x step ≡ true)
excludes page a step = (act_x page a step, wants_x_act page a step)

pub releases : (page : ℕ) (a : Option Addr) (step : Step) → (act_of page a step ≡ Release page) ↔ (wants_release step ≡ true)
releases page a step = (act_release page a step, wants_release_act page a step)

pub registers : (page : ℕ) (a : Option Addr) (step : Step) → (act_of page a step ≡ AskRegister page) ↔ (wants_register step ≡ true)
registers page a step = (act_register page a step, wants_register_act page a step)

-- the moves
first_s : (step : Step) (c : Option Image) (b : Bool) → wants_s step ≡ true → have c b ≡ Step.Look → s_step step c b ≡ after_latch step
first_s Step.LatchS c b h e = e
first_s Step.BackToS c b h e = refl
first_s (Step.LastS w) c b h e = refl
first_s _ c b h e = absurd (never h)

pub see_s : (r n : ℕ) (N : Node) → wants_s N.step ≡ true → have N.copy N.stale ≡ Step.Look → (after_s N).step ≡ learned r n (Tried Granted) N.step
see_s r n N h e = first_s N.step N.copy N.stale h e

pub see_copy : (r n : ℕ) (N : Node) → N.step ≡ Step.LatchS → have N.copy N.stale ≡ Step.Held → (after_s N).step ≡ with_copy (learned r n (Tried Granted) N.step)
see_copy r n N h e = subst (λ st. s_step st N.copy N.stale ≡ with_copy (after_latch st)) (sym h) e

at_x : (step : Step) → wants_x step ≡ true → after_x step ≡ after_latch step
at_x Step.LatchX h = refl
at_x Step.PlanLatch h = refl
at_x _ h = absurd (never h)

pub see_x : (r n : ℕ) (N : Node) → wants_x N.step ≡ true → after_x N.step ≡ learned r n (Tried Granted) N.step
see_x r n N h = at_x N.step h

at_release : (step : Step) → wants_release step ≡ true → release_step step ≡ after_latch step
at_release Step.ReleaseS h = refl
at_release Step.ReleaseDown h = refl
at_release Step.ReleaseEnd h = refl
at_release Step.RwBack h = refl
at_release (Step.RwEnd w) h = refl
at_release Step.PlanRelease h = refl
at_release _ h = absurd (never h)

pub see_release : (r n : ℕ) (N : Node) → wants_release N.step ≡ true → ((after_release N).step ≡ learned r n (Tried Granted) N.step) × ((after_release N).address ≡ learned_address (Tried Granted) N.step N.address)
see_release r n N h = (at_release N.step h, refl)

pub see_look : (r n : ℕ) (N : Node) (seen : Seen) → N.step ≡ Step.Look → (after_look seen.bit N).step ≡ learned r n (Looked (Some seen)) N.step
see_look r n N seen e = subst (λ st. look_step seen.bit ≡ after_seen r n seen st) (sym e) refl

pub see_rw_look : (r n : ℕ) (N : Node) (seen : Seen) → N.step ≡ Step.RwLook → after_rw_look seen.bit ≡ learned r n (Looked (Some seen)) N.step
see_rw_look r n N seen e = subst (λ st. after_rw_look seen.bit ≡ after_seen r n seen st) (sym e) refl

pub see_look_again : (r n : ℕ) (N : Node) (seen : Seen) (a : Addr) → N.step ≡ Step.LookAgain → seen.addr ≡ Some a → after_look_again r n seen.bit seen.floor ≡ learned r n (Looked (Some seen)) N.step
see_look_again r n N seen a e i = subst (λ st. after_look_again r n seen.bit seen.floor ≡ after_seen r n seen st) (sym e) (subst (λ b. after_look_again r n seen.bit seen.floor ≡ after_second_look r n b seen) (sym i) refl)

pub see_no_address : (r n : ℕ) (N : Node) (seen : Seen) → N.step ≡ Step.LookAgain → seen.addr ≡ None → Step.ReleaseDown ≡ learned r n (Looked (Some seen)) N.step
see_no_address r n N seen e i = subst (λ st. Step.ReleaseDown ≡ after_seen r n seen st) (sym e) (subst (λ b. Step.ReleaseDown ≡ after_second_look r n b seen) (sym i) refl)

pub see_read : (r n : ℕ) (N : Node) (im : Image) → N.step ≡ Step.Read → (after_read N im).step ≡ learned r n (Slab (Ok tt)) N.step
see_read r n N im e = subst (λ st. Step.Held ≡ after_slab st) (sym e) refl

pub see_rw_read : (r n : ℕ) (N : Node) (im : Image) → N.step ≡ Step.RwRead → (after_rw_read N im).step ≡ learned r n (Slab (Ok tt)) N.step
see_rw_read r n N im e = subst (λ st. Step.Idle ≡ after_slab st) (sym e) refl

pub see_write : (r n : ℕ) (N : Node) (v : Image) → N.step ≡ Step.Write v → after_write N.step ≡ learned r n (Slab (Ok tt)) N.step
see_write r n N v e = subst (λ st. after_write st ≡ after_slab st) (sym e) refl

pub see_clean : (r n : ℕ) (N : Node) (v : Image) → N.step ≡ Step.Clean v → after_clean r n N.step ≡ learned r n (Cleaned true) N.step
see_clean r n N v e = subst (λ st. after_clean r n st ≡ after_cleaned r n true st) (sym e) refl

pub read_down : (r n : ℕ) (N : Node) (why : SlabNo) → N.step ≡ Step.Read → (after_down N).step ≡ learned r n (Slab (Err why)) N.step
read_down r n N why e = subst (λ st. Step.ReleaseDown ≡ after_slab_down st) (sym e) refl

pub rw_read_down : (r n : ℕ) (N : Node) (why : SlabNo) → N.step ≡ Step.RwRead → ((after_rw_down N).step ≡ learned r n (Slab (Err why)) N.step) × ((after_rw_down N).address ≡ learned_address (Slab (Err why)) N.step N.address)
rw_read_down r n N why e = (subst (λ st. Step.Register ≡ after_slab_down st) (sym e) refl, let none : Option ℕ = None in subst (λ st. none ≡ address_after_down st N.address) (sym e) refl)

pub write_down : (r n : ℕ) (N : Node) (v : Image) (why : SlabNo) → N.step ≡ Step.Write v → (after_down N).step ≡ learned r n (Slab (Err why)) N.step
write_down r n N v why e = subst (λ st. Step.ReleaseDown ≡ after_slab_down st) (sym e) refl

pub clean_down : (r n : ℕ) (N : Node) (v : Image) (why : SlabNo) → N.step ≡ Step.Clean v → (after_down N).step ≡ learned r n (Slab (Err why)) N.step
clean_down r n N v why e = subst (λ st. Step.ReleaseDown ≡ after_slab_down st) (sym e) refl

pub clean_gone : (r n : ℕ) (N : Node) (v : Image) → N.step ≡ Step.Clean v → (after_down N).step ≡ learned r n (Cleaned false) N.step
clean_gone r n N v e = subst (λ st. Step.ReleaseDown ≡ after_cleaned r n false st) (sym e) refl

first_copy : (b : Bool) → (if b then Step.Idle else Step.LatchS) ≡ with_copy (if b then Step.RwLook else Step.LatchS)
first_copy true = refl
first_copy false = refl

pub registered_copy : (r n a : ℕ) (v : Image) → answer_step r n (Some v) (Call.ToldRegistered a) Step.Register ≡ with_copy (answer_step r n None (Call.ToldRegistered a) Step.Register)
registered_copy r n a v = first_copy (nat_eq n r)
