-- For the proofs: how many sessions there are behind an order.
use Rattle.std.proofs.Common.{◌≡◌, ℕ, ◌<◌, ◌≤◌, Bool, true, false, cond, nat_lt, Option, Some, None, Result, Ok, Err, List, [], ◌∷◌, length, length-append, refl, arith}
use Rattle.std.specs.List.{position}
use Rattle.std.specs.Str.{bytes_eq}
use Rattle.std.proofs.lemmas.Bool.Decides.{nat_tests}
use Rattle.cluster_model.specs.declared.scripts.Order.{Order}
use Rattle.cluster_model.specs.declared.scripts.Order.TheVariants as order
use Rattle.cluster_model.specs.declared.events.Event.TheVariants as event
use Rattle.cluster_model.specs.declared.shape.Shape.{Shape}
use Rattle.script_text.specs.declared.forms.Form.{Form}
use Rattle.script_text.specs.declared.forms.Form.TheVariants as form
use Rattle.script_text.specs.declared.whys.Why.{Why}
use Rattle.script_text.specs.declared.whys.Why.TheVariants as why
use Rattle.script_text.specs.Orders.{order_of, session, new_in, node_in, ◌>>=◌, names_after}

new-few : (names : List (List ℕ)) (name : List ℕ) (s : ℕ) → new_in names name ≡ Ok s → length names < 64
unfolding new_in
new-few names name s e = by_place (position (λ n. bytes_eq n name) names) e where
  by_test : (b : Bool) → nat_lt (length names) 64 ≡ b → cond b (Ok (length names)) (Err why.Twice) ≡ Ok s → length names < 64
  by_test true t h = grind (arith, nat_tests)
  by_test false t h = cc

  by_place : (p : Option ℕ) → elim p as (λ _. Result ℕ Why) [ Some place ↦ Err why.Twice | None ↦ cond (nat_lt (length names) 64) (Ok (length names)) (Err why.Twice) ] ≡ Ok s → length names < 64
  by_place (Some p) h = cc
  by_place None h = by_test (nat_lt (length names) 64) refl h

session-few : (shape : Shape) (names : List (List ℕ)) (name : List ℕ) (n : ℕ) (o : Order) → session shape names name n ≡ Ok o → length names < 64
unfolding session
session-few shape names name n o e = by_node (node_in shape n) e where
  by_new : (node : ℕ) (r : Result ℕ Why) → new_in names name ≡ r → (r >>= (λ s. Ok (order.One (event.Session s name node)))) ≡ Ok o → length names < 64
  by_new node (Ok s) t h = new-few names name s t
  by_new node (Err w) t h = cc

  by_node : (r : Result ℕ Why) → (r >>= (λ node. new_in names name >>= (λ s. Ok (order.One (event.Session s name node))))) ≡ Ok o → length names < 64
  by_node (Ok node) h = by_new node (new_in names name) refl h
  by_node (Err w) h = cc

-- there are at most 64 sessions
pub names-few : (shape : Shape) (names : List (List ℕ)) (f : Form) (o : Order) → order_of shape names f ≡ Ok o → length names ≤ 64 → length (names_after names f) ≤ 64
names-few shape names (form.Session name n) o e h = omega (arith, session-few shape names name n o e, length-append names (name ∷ []))
names-few shape names (form.Lone v) o e h = h
names-few shape names (form.Numbered v n) o e h = h
names-few shape names (form.OfNode v n) o e h = h
names-few shape names (form.OfSlab v n) o e h = h
names-few shape names (form.Evict n p) o e h = h
names-few shape names (form.Timeout a) o e h = h
names-few shape names (form.Until n k r) o e h = h
names-few shape names (form.Submit a t) o e h = h
