-- The replies of the home hold no page.
use Rattle.std.proofs.Common.{◌≡◌, ◌≤◌, ◌<◌, ℕ, Bool, true, false, cond, nat_eq, nat_lt, List, Option, Some, IfSome, refl, sym, subst, arith}
use Rattle.std.proofs.lemmas.Bool.{ltb-true, ltb-false}
use Rattle.message_network.specs.declared.serving.Server.{Server as Parts}
use Rattle.message_network.specs.ServerView.{server_of, known_of}
use Rattle.call_model.specs.Callers.{Label}
use Rattle.call_model.specs.Servers.{Server, Memory, keeping, fenced, forgetting, nothing_of, new_server}
use Rattle.message_network.specs.declared.calls.Reply.{Reply}
use Rattle.message_network.specs.declared.calls.Reply.TheVariants.{Registered, PoolFull, Unregistered, Started, Done, Appended, Got, Fenced}
use Rattle.slab_node.specs.Slab.{SlabState}
use Rattle.home_tables.specs.Home.{HomeState}
use Rattle.rmem_calls.specs.Registering.{RegisterAnswers}
use Rattle.rmem_calls.specs.Invalidating.{InvalidateAnswers}
use Rattle.home_service.specs.Keeping.{IsPlain, ArePlain}

pub register_plain : (H H' : HomeState) (S S' : List SlabState) (n p : ℕ) (r : Reply) → RegisterAnswers H H' S S' n p r → IsPlain r
register_plain H H' S S' n p (Registered a bit floor) h = tt
register_plain H H' S S' n p (PoolFull slots) h = tt
register_plain H H' S S' n p Unregistered h = tt
register_plain H H' S S' n p (Started due) h = tt
register_plain H H' S S' n p Done h = tt
register_plain H H' S S' n p (Appended answer) h = tt
register_plain H H' S S' n p (Got answer) h = h
register_plain H H' S S' n p (Fenced epoch) h = tt

pub invalidate_plain : (due : ℕ) (r : Reply) → InvalidateAnswers due r → IsPlain r
invalidate_plain due (Registered a bit floor) h = tt
invalidate_plain due (PoolFull slots) h = tt
invalidate_plain due Unregistered h = tt
invalidate_plain due (Started count) h = tt
invalidate_plain due Done h = tt
invalidate_plain due (Appended answer) h = tt
invalidate_plain due (Got answer) h = h
invalidate_plain due (Fenced epoch) h = tt

chosen : (b : Bool) (m k : Memory Reply) → IfSome m.reply IsPlain → IfSome k.reply IsPlain → IfSome (cond b m k).reply IsPlain
chosen true m k one other = one
chosen false m k one other = other

pub keeps_plain : (s t : Server Reply) (l : Label) (r : Reply) → t ≡ keeping s l r → ArePlain s → IsPlain r → ArePlain t
keeps_plain s t l r is all one =
    subst (λ (x : Server Reply). ArePlain x) (sym is) (λ n.
    chosen (nat_eq n l.node) (record { incarnation = l.incarnation; number = l.number; reply = Some r }) (s.memory n) one (all n))

pub fenced_plain : (s t : Server Reply) (e : ℕ) → t ≡ fenced s e → ArePlain s → ArePlain t
fenced_plain s t e is all = subst (λ (x : Server Reply). ArePlain x) (sym is) all

pub forgetting_plain : (s t : Server Reply) (n i : ℕ) → t ≡ forgetting s n i → ArePlain s → ArePlain t
forgetting_plain s t n i is all =
    subst (λ (x : Server Reply). ArePlain x) (sym is) (λ m. chosen (nat_eq m n) (nothing_of i) (s.memory m) tt (all m))

pub new_plain : (t : Server Reply) (e : ℕ) → t ≡ new_server e → ArePlain t
new_plain t e is = subst (λ (x : Server Reply). ArePlain x) (sym is) (λ n. tt)

-- what is kept is plain where it is read
pub read_plain : (kept : Option Reply) (r : Reply) → kept ≡ Some r → IfSome kept IsPlain → IsPlain r
read_plain kept r is h = subst (λ (o : Option Reply). IfSome o IsPlain) is h

pub renewed_plain : (old new : Parts) (n i : ℕ) → known_of (server_of old) n ≤ i → (known_of (server_of old) n < i → server_of new ≡ forgetting (server_of old) n i)
    → (known_of (server_of old) n ≡ i → new ≡ old) → ArePlain (server_of old) → ArePlain (server_of new)
renewed_plain old new n i le newer same all = by (nat_lt (known_of (server_of old) n) i) refl
  where
    by : (b : Bool) → nat_lt (known_of (server_of old) n) i ≡ b → ArePlain (server_of new)
    by true h = forgetting_plain (server_of old) (server_of new) n i (newer (ltb-true (known_of (server_of old) n) i h)) all
    by false h =
        let most : i ≤ known_of (server_of old) n = ltb-false (known_of (server_of old) n) i h in
        subst (λ (x : Parts). ArePlain (server_of x)) (sym (same (omega arith))) all
