-- For the proofs: bytes are read as the script that they are, or refused at the first line that is bad.
use Rattle.std.proofs.Common.{◌≡◌, inl, inr, ℕ, ◌+◌, Bool, false, None, Result, Ok, Err, List, [], ◌∷◌, ◌++◌, refl, sym, ap, ◌∙◌, subst, append_assoc}
use Rattle.std.proofs.lemmas.List.{append-nil}
use Rattle.cluster_model.specs.declared.scripts.Line.{Line}
use Rattle.cluster_model.specs.declared.scripts.Order.{Order}
use Rattle.cluster_model.specs.declared.scripts.Script.{Script}
use Rattle.cluster_model.specs.declared.shape.Shape.{Shape}
use Rattle.script_text.specs.declared.forms.Form.{Form}
use Rattle.script_text.specs.declared.reading.Draft.{Draft}
use Rattle.script_text.specs.declared.whys.BadScript.{BadScript}
use Rattle.script_text.specs.declared.whys.Why.{Why}
use Rattle.script_text.specs.Reading.{with_line, with_order, orders_read, is_empty}
use Rattle.script_text.specs.Orders.{names_after}
use Rattle.script_text.specs.Scripts.{IsPassed, Asks, AreOrders, IsBadFrom}
use Rattle.script_text.proofs.MakingLaws.{Makes, line-makes, passed-line, asks-line, fault-line}

-- the script of these orders behind those of the draft
abbrev pub script_behind : Shape → Draft → List Line → Script
script_behind shape d rest = record { shape = shape; boot = None; orders = d.orders ++ rest }

abbrev with_orders : Shape → List Line → Script
with_orders shape orders = record { shape = shape; boot = None; orders = orders }

made : (shape : Shape) (p q : List Line) → p ≡ q → ◌≡◌ {A = Result Script BadScript} (Ok (with_orders shape p)) (Ok (with_orders shape q))
made shape p q e = ap (λ (x : List Line). Ok (with_orders shape x)) e

failed : (v w : BadScript) → w ≡ v → ◌≡◌ {A = Result Script BadScript} (Err v) (Err w)
failed v w e = ap (λ (x : BadScript). Err x) (sym e)

-- the draft is not clear behind an order
never_empty : (orders : List Line) (l : Line) → is_empty (orders ++ l ∷ []) ≡ false
never_empty [] l = refl
never_empty (x ∷ orders) l = refl

-- what the lines from number n on are read as is right
abbrev pub IsRight : Shape → Draft → ℕ → List (List ℕ) → Result Script BadScript → Type 0
IsRight shape d n ls (Ok s) = (rest : List Line) × (s ≡ script_behind shape d rest) × AreOrders shape d.names n ls rest
IsRight shape d n ls (Err e) = IsBadFrom shape d.names (is_empty d.orders) n ls e

passed-right : (shape : Shape) (d : Draft) (n : ℕ) (line : List ℕ) (others : List (List ℕ)) (r : Result Script BadScript)
    → IsPassed line → IsRight shape d (n + 1) others r → IsRight shape d n (line ∷ others) r
passed-right shape d n line others (Ok s) h t = (t.0, t.1, inl (h, t.2))
passed-right shape d n line others (Err e) h t = inr (inl (h, t))

asks-right : (shape : Shape) (d : Draft) (n : ℕ) (line : List ℕ) (others : List (List ℕ)) (f : Form) (o : Order) (r : Result Script BadScript)
    → Asks shape d.names line f o → IsRight shape (with_order d n f o) (n + 1) others r → IsRight shape d n (line ∷ others) r
asks-right shape d n line others f o (Ok s) h t =
    let l : Line = record { line = n; order = o } in
    (l ∷ t.0, t.1 ∙ ap (λ (q : List Line). with_orders shape q) (append_assoc d.orders (l ∷ []) t.0), inr (f, o, t.0, h, refl, t.2))
asks-right shape d n line others f o (Err e) h t =
    let l : Line = record { line = n; order = o } in
    inr (inr (f, o, h, subst (λ (b : Bool). IsBadFrom shape (names_after d.names f) b (n + 1) others e) (never_empty d.orders l) t))

-- the lines are read rightly
pub orders-right : (shape : Shape) (d : Draft) (n : ℕ) (ls : List (List ℕ)) → IsRight shape d n ls (orders_read shape d n ls)
orders-right shape d n [] = ([], ap (λ (q : List Line). with_orders shape q) (sym (append-nil d.orders)), refl)
orders-right shape d n (line ∷ others) = by_line (with_line shape d n line) (line-makes shape d n line) (λ longer. orders-right shape longer (n + 1) others) where
  by_line : (r : Result Draft Why) → Makes shape d n line r → ((longer : Draft) → IsRight shape longer (n + 1) others (orders_read shape longer (n + 1) others))
      → IsRight shape d n (line ∷ others) (elim r as (λ _. Result Script BadScript) [ Ok longer ↦ orders_read shape longer (n + 1) others | Err w ↦ Err (record { line = n; why = w }) ])
  by_line (Ok longer) (inl h) more = passed-right shape d n line others (orders_read shape longer (n + 1) others) h.0 (subst (λ (q : Draft). IsRight shape q (n + 1) others (orders_read shape longer (n + 1) others)) h.1 (more longer))
  by_line (Ok longer) (inr h) more = asks-right shape d n line others h.0 h.1 (orders_read shape longer (n + 1) others) h.2 (subst (λ (q : Draft). IsRight shape q (n + 1) others (orders_read shape longer (n + 1) others)) h.3 (more longer))
  by_line (Err w) h more = inl (w, h, refl)

along : (shape : Shape) (n : ℕ) (others : List (List ℕ)) (r q : Result Draft Why) → r ≡ q
    → elim r as (λ _. Result Script BadScript) [ Ok longer ↦ orders_read shape longer (n + 1) others | Err w ↦ Err (record { line = n; why = w }) ]
    ≡ elim q as (λ _. Result Script BadScript) [ Ok longer ↦ orders_read shape longer (n + 1) others | Err w ↦ Err (record { line = n; why = w }) ]
along shape n others r q e = ap (λ (x : Result Draft Why). elim x as (λ _. Result Script BadScript) [ Ok longer ↦ orders_read shape longer (n + 1) others | Err w ↦ Err (record { line = n; why = w }) ]) e

-- orders of these lines are what is read
pub orders-complete : (shape : Shape) (d : Draft) (n : ℕ) (ls : List (List ℕ)) (rest : List Line) → AreOrders shape d.names n ls rest → orders_read shape d n ls ≡ Ok (script_behind shape d rest)
orders-complete shape d n [] rest h =
    made shape d.orders (d.orders ++ rest) (sym (append-nil d.orders) ∙ ap (λ (q : List Line). d.orders ++ q) (sym h))
orders-complete shape d n (line ∷ others) rest (inl h) = along shape n others (with_line shape d n line) (Ok d) (passed-line shape d n line h.0) ∙ orders-complete shape d (n + 1) others rest h.1
orders-complete shape d n (line ∷ others) rest (inr h) =
    let l : Line = record { line = n; order = h.1 } in
    along shape n others (with_line shape d n line) (Ok (with_order d n h.0 h.1)) (asks-line shape d n line h.0 h.1 h.3)
    ∙ orders-complete shape (with_order d n h.0 h.1) (n + 1) others h.2 h.5
    ∙ made shape ((d.orders ++ l ∷ []) ++ h.2) (d.orders ++ rest) (append_assoc d.orders (l ∷ []) h.2 ∙ ap (λ (q : List Line). d.orders ++ q) (sym h.4))

-- the first bad line of these is refused
pub bad-complete : (shape : Shape) (d : Draft) (n : ℕ) (ls : List (List ℕ)) (e : BadScript) → IsBadFrom shape d.names (is_empty d.orders) n ls e → orders_read shape d n ls ≡ Err e
bad-complete shape d n [] e h = absurd h
bad-complete shape d n (line ∷ others) e (inl h) = along shape n others (with_line shape d n line) (Err h.0) (fault-line shape d n line h.0 h.1) ∙ failed (record { line = n; why = h.0 }) e h.2
bad-complete shape d n (line ∷ others) e (inr (inl h)) = along shape n others (with_line shape d n line) (Ok d) (passed-line shape d n line h.0) ∙ bad-complete shape d (n + 1) others e h.1
bad-complete shape d n (line ∷ others) e (inr (inr h)) =
    let l : Line = record { line = n; order = h.1 } in
    along shape n others (with_line shape d n line) (Ok (with_order d n h.0 h.1)) (asks-line shape d n line h.0 h.1 h.2)
    ∙ bad-complete shape (with_order d n h.0 h.1) (n + 1) others e (subst (λ (b : Bool). IsBadFrom shape (names_after d.names h.0) b (n + 1) others e) (sym (never_empty d.orders l)) h.3)
