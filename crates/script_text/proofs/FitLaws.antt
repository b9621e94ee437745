-- For the proofs: what is read of a script can be asked of a cluster.
use Rattle.std.proofs.Common.{◌≡◌, inl, inr, ℕ, ◌+◌, ◌-◌, ◌<◌, ◌≤◌, ◌&&◌, Bool, true, false, cond, nat_le, nat_lt, Option, Some, None, Result, Ok, Err, List, [], ◌∷◌, length, length-append, refl, sym, subst, arith}
use Rattle.std.specs.List.{position, position_or_len}
use Rattle.std.specs.Str.{bytes_eq}
use Rattle.std.proofs.lemmas.Bool.Decides.{nat_tests}
use Rattle.cluster_model.specs.Fits.{FitsOrder, count_after, AreFit, IsFit}
use Rattle.cluster_model.specs.declared.events.Event.TheVariants as event
use Rattle.cluster_model.specs.declared.scripts.Line.{Line}
use Rattle.cluster_model.specs.declared.scripts.Order.{Order}
use Rattle.cluster_model.specs.declared.scripts.Order.TheVariants as order
use Rattle.cluster_model.specs.declared.scripts.Script.{Script}
use Rattle.cluster_model.specs.declared.shape.Shape.{Shape}
use Rattle.script_text.specs.declared.forms.Form.{Form}
use Rattle.script_text.specs.declared.forms.Form.TheVariants as form
use Rattle.script_text.specs.declared.verbs.LoneVerb.TheVariants as lone
use Rattle.script_text.specs.declared.verbs.NumberVerb.{NumberVerb}
use Rattle.script_text.specs.declared.verbs.NumberVerb.TheVariants as number
use Rattle.script_text.specs.declared.verbs.NodeVerb.{NodeVerb}
use Rattle.script_text.specs.declared.verbs.NodeVerb.TheVariants as node
use Rattle.script_text.specs.declared.verbs.SlabVerb.{SlabVerb}
use Rattle.script_text.specs.declared.verbs.SlabVerb.TheVariants as slab
use Rattle.script_text.specs.declared.whys.Why.{Why}
use Rattle.script_text.specs.declared.whys.Why.TheVariants as why
use Rattle.script_text.specs.Orders.{◌>>=◌, order_of, numbered, of_node, of_slab, evict, timeout, until, session, submit, node_in, slab_in, message_in, chunk_in, page_in, rounds_in, session_in, new_in, node_event, slab_event, names_after}
use Rattle.script_text.specs.Scripts.{AreOrders, IsScriptFrom, IsScript}

-- P holds of the value, where there is one
unfoldable OnOk : {V : Type 0} → (V → Type 0) → Result V Why → Type 0
OnOk P (Ok v) = P v
OnOk P (Err w) = Unit {0}

on-ok : {V : Type 0} (P : V → Type 0) (v : V) → P v → OnOk P (Ok v)
unfolding OnOk
on-ok P v h = h

on-err : {V : Type 0} (P : V → Type 0) (w : Why) → OnOk P (Err w)
unfolding OnOk
on-err P w = tt

ok-at : {V : Type 0} (P : V → Type 0) (r : Result V Why) (v : V) → OnOk P r → r ≡ Ok v → P v
unfolding OnOk
ok-at P r v h e = subst (OnOk P) e h

chained : {A V : Type 0} (P : V → Type 0) (Q : A → Type 0) (r : Result A Why) (g : A → Result V Why) → OnOk Q r → ((a : A) → Q a → OnOk P (g a)) → OnOk P (r >>= g)
unfolding OnOk
chained P Q (Ok a) g h step = step a h
chained P Q (Err w) g h step = tt

tested : {V : Type 0} (P : V → Type 0) (b : Bool) (v : V) (w : Why) → (b ≡ true → P v) → OnOk P (cond b (Ok v) (Err w))
unfolding OnOk
tested P true v w h = h refl
tested P false v w h = tt

node-fits : (shape : Shape) (n : ℕ) → OnOk (λ m. m < shape.nodes) (node_in shape n)
unfolding node_in
node-fits shape n = tested (λ m. m < shape.nodes) (nat_le 1 n && nat_le n shape.nodes) (n - 1) why.Node (λ h. grind (arith, nat_tests))

slab-fits : (shape : Shape) (n : ℕ) → OnOk (λ m. m < shape.slabs) (slab_in shape n)
unfolding slab_in
slab-fits shape n = tested (λ m. m < shape.slabs) (nat_le 1 n && nat_le n shape.slabs) (n - 1) why.Slab (λ h. grind (arith, nat_tests))

message-fits : (n : ℕ) → OnOk (λ m. 1 ≤ m) (message_in n)
unfolding message_in
message-fits n = tested (λ m. 1 ≤ m) (nat_le 1 n) n why.Number (λ h. grind (arith, nat_tests))

chunk-fits : (n : ℕ) → OnOk (λ m. m < 128) (chunk_in n)
unfolding chunk_in
chunk-fits n = tested (λ m. m < 128) (nat_lt n 128) n why.Number (λ h. grind (arith, nat_tests))

rounds-fit : (n : ℕ) → OnOk (λ m. (1 ≤ m) × (m ≤ 100000)) (rounds_in n)
unfolding rounds_in
rounds-fit n = tested (λ m. (1 ≤ m) × (m ≤ 100000)) (nat_le 1 n && nat_le n 100000) n why.Number (λ h. (grind (arith, nat_tests), grind (arith, nat_tests)))

-- any value at all
any : {V : Type 0} (r : Result V Why) → OnOk (λ _. Unit {0}) r
unfolding OnOk
any (Ok v) = tt
any (Err w) = tt

place-fits : (names : List (List ℕ)) (name : List ℕ) (p : ℕ) → position (λ n. bytes_eq n name) names ≡ Some p → p < length names
place-fits names name p e = by_test (nat_lt (position_or_len (λ n. bytes_eq n name) names) (length names)) refl e where
  by_test : (b : Bool) → nat_lt (position_or_len (λ n. bytes_eq n name) names) (length names) ≡ b → cond b (Some (position_or_len (λ n. bytes_eq n name) names)) None ≡ Some p → p < length names
  by_test true t h = let same : position_or_len (λ n. bytes_eq n name) names ≡ p = cc in grind (arith, nat_tests)
  by_test false t h = cc

session-fits : (names : List (List ℕ)) (name : List ℕ) → OnOk (λ s. s < length names) (session_in names name)
unfolding session_in OnOk
session-fits names name = by_place (position (λ n. bytes_eq n name) names) refl where
  by_place : (p : Option ℕ) → position (λ n. bytes_eq n name) names ≡ p → OnOk (λ s. s < length names) (elim p as (λ _. Result ℕ Why) [ Some place ↦ Ok place | None ↦ Err why.Session ])
  by_place (Some p) e = place-fits names name p e
  by_place None e = tt

new-fits : (names : List (List ℕ)) (name : List ℕ) → OnOk (λ s. (s ≡ length names) × (length names < 64)) (new_in names name)
unfolding new_in OnOk
new-fits names name = by_place (position (λ n. bytes_eq n name) names) where
  by_place : (p : Option ℕ) → OnOk (λ s. (s ≡ length names) × (length names < 64)) (elim p as (λ _. Result ℕ Why) [ Some place ↦ Err why.Twice | None ↦ cond (nat_lt (length names) 64) (Ok (length names)) (Err why.Twice) ])
  by_place (Some p) = tt
  by_place None = tested (λ s. (s ≡ length names) × (length names < 64)) (nat_lt (length names) 64) (length names) why.Twice (λ h. (refl, grind (arith, nat_tests)))

-- the order fits, and behind it so many sessions are declared as there are names
abbrev Fits : Shape → List (List ℕ) → Form → Order → Type 0
Fits shape names f o = FitsOrder shape (length names) o × (count_after (length names) o ≡ length (names_after names f))

node-event-fits : (shape : Shape) (names : List (List ℕ)) (v : NodeVerb) (n m : ℕ) → m < shape.nodes → Fits shape names (form.OfNode v n) (order.One (node_event v m))
node-event-fits shape names node.Turn n m h = (h, refl)
node-event-fits shape names node.TurnLost n m h = (h, refl)
node-event-fits shape names node.TurnUnseen n m h = (h, refl)
node-event-fits shape names node.Crash n m h = (h, refl)
node-event-fits shape names node.Kick n m h = (h, refl)
node-event-fits shape names node.Restart n m h = (h, refl)
node-event-fits shape names node.Takeover n m h = (h, refl)

slab-event-fits : (shape : Shape) (names : List (List ℕ)) (v : SlabVerb) (n m : ℕ) → m < shape.slabs → Fits shape names (form.OfSlab v n) (order.One (slab_event v m))
slab-event-fits shape names slab.Crash n m h = (h, refl)
slab-event-fits shape names slab.Drop n m h = (h, refl)
slab-event-fits shape names slab.Restart n m h = (h, refl)

numbered-fits : (shape : Shape) (names : List (List ℕ)) (v : NumberVerb) (n : ℕ) → OnOk (Fits shape names (form.Numbered v n)) (numbered v n)
unfolding numbered
numbered-fits shape names number.Deliver n =
    let P : Order → Type 0 = Fits shape names (form.Numbered number.Deliver n) in
    chained P (λ m. 1 ≤ m) (message_in n) _ (message-fits n) (λ m h. on-ok P (order.One (event.Deliver m)) (h, refl))
numbered-fits shape names number.Ship n =
    let P : Order → Type 0 = Fits shape names (form.Numbered number.Ship n) in
    chained P (λ m. m < 128) (chunk_in n) _ (chunk-fits n) (λ m h. on-ok P (order.One (event.Ship m)) (h, refl))
numbered-fits shape names number.Fold n =
    let P : Order → Type 0 = Fits shape names (form.Numbered number.Fold n) in
    chained P (λ _. Unit {0}) (page_in n) _ (any (page_in n)) (λ m h. on-ok P (order.One (event.Fold m)) (tt, refl))
numbered-fits shape names number.Drain n =
    let P : Order → Type 0 = Fits shape names (form.Numbered number.Drain n) in
    chained P (λ m. (1 ≤ m) × (m ≤ 100000)) (rounds_in n) _ (rounds-fit n) (λ m h. on-ok P (order.Drain m) (h, refl))

order-fits : (shape : Shape) (names : List (List ℕ)) (f : Form) → OnOk (Fits shape names f) (order_of shape names f)
unfolding of_node of_slab evict timeout until session submit
order-fits shape names (form.Lone lone.DeliverLast) = on-ok _ (order.One event.DeliverLast) (tt, refl)
order-fits shape names (form.Lone lone.DeliverAll) = on-ok _ (order.One event.DeliverAll) (tt, refl)
order-fits shape names (form.Lone lone.Home) = on-ok _ (order.One event.Home) (tt, refl)
order-fits shape names (form.Lone lone.CrashHome) = on-ok _ (order.One event.CrashHome) (tt, refl)
order-fits shape names (form.Lone lone.Renew) = on-ok _ (order.One event.Renew) (tt, refl)
order-fits shape names (form.Numbered v n) = numbered-fits shape names v n
order-fits shape names (form.OfNode v n) =
    let P : Order → Type 0 = Fits shape names (form.OfNode v n) in
    chained P (λ m. m < shape.nodes) (node_in shape n) _ (node-fits shape n) (λ m h. on-ok P (order.One (node_event v m)) (node-event-fits shape names v n m h))
order-fits shape names (form.OfSlab v n) =
    let P : Order → Type 0 = Fits shape names (form.OfSlab v n) in
    chained P (λ m. m < shape.slabs) (slab_in shape n) _ (slab-fits shape n) (λ m h. on-ok P (order.One (slab_event v m)) (slab-event-fits shape names v n m h))
order-fits shape names (form.Evict n p) =
    let P : Order → Type 0 = Fits shape names (form.Evict n p) in
    chained P (λ _. Unit {0}) (page_in p) _ (any (page_in p)) (λ q _.
    chained P (λ m. m < shape.nodes) (node_in shape n) _ (node-fits shape n) (λ m h. on-ok P (order.One (event.Evict m q)) (h, refl)))
order-fits shape names (form.Timeout a) =
    let P : Order → Type 0 = Fits shape names (form.Timeout a) in
    chained P (λ s. s < length names) (session_in names a) _ (session-fits names a) (λ s h. on-ok P (order.One (event.Timeout s)) (h, refl))
order-fits shape names (form.Until n k r) =
    let P : Order → Type 0 = Fits shape names (form.Until n k r) in
    chained P (λ m. (1 ≤ m) × (m ≤ 100000)) (rounds_in r) _ (rounds-fit r) (λ q g.
    chained P (λ m. m < shape.nodes) (node_in shape n) _ (node-fits shape n) (λ m h. on-ok P (order.Until m k q) ((h, g.0, g.1), refl)))
order-fits shape names (form.Session a n) =
    let P : Order → Type 0 = Fits shape names (form.Session a n) in
    chained P (λ m. m < shape.nodes) (node_in shape n) _ (node-fits shape n) (λ m h.
    chained P (λ s. (s ≡ length names) × (length names < 64)) (new_in names a) _ (new-fits names a) (λ s g.
    on-ok P (order.One (event.Session s a m)) ((g.0, g.1, h), sym (length-append names (a ∷ [])))))
order-fits shape names (form.Submit a text) =
    let P : Order → Type 0 = Fits shape names (form.Submit a text) in
    chained P (λ s. s < length names) (session_in names a) _ (session-fits names a) (λ s h. on-ok P (order.One (event.Submit s text)) (h, refl))

orders-fit : (shape : Shape) (names : List (List ℕ)) (n : ℕ) (ls : List (List ℕ)) (orders : List Line) → AreOrders shape names n ls orders → AreFit shape (length names) orders
orders-fit shape names n [] orders h = let P : List Line → Type 0 = AreFit shape (length names) in subst P (sym h) tt
orders-fit shape names n (line ∷ others) orders (inl h) = orders-fit shape names (n + 1) others orders h.1
orders-fit shape names n (line ∷ others) orders (inr h) =
    let fits = ok-at (Fits shape names h.0) (order_of shape names h.0) h.1 (order-fits shape names h.0) h.3.2 in
    let more = orders-fit shape (names_after names h.0) (n + 1) others h.2 h.5 in
    let P : List Line → Type 0 = AreFit shape (length names) in
    let Q : ℕ → Type 0 = λ count. AreFit shape count h.2 in
    subst P (sym h.4) (fits.0, subst Q (sym fits.1) more)

script-fits : (n : ℕ) (ls : List (List ℕ)) (s : Script) → IsScriptFrom n ls s → IsFit s
script-fits n [] s h = absurd h
script-fits n (line ∷ others) s (inl h) = script-fits (n + 1) others s h.1
script-fits n (line ∷ others) s (inr h) = (h.1.1, orders-fit s.shape [] (n + 1) others s.orders h.4)

-- what is a script can be asked of a cluster
pub is_fit : (bytes : List ℕ) (s : Script) → IsScript bytes s → IsFit s
is_fit bytes s h = script-fits 1 _ s h
