-- What holds of the one value that an answer has, where it has one.
use Rattle.std.proofs.Common.{◌≡◌, ℕ, Result, Ok, Err, refl, sym, subst}
use Rattle.std.specs.Prelude.{◌↔◌, IsOk, IfOk, OnOk}

pub when_planned : {A E F : Type 0} (Room : Type 0) (q : A) (P : A → Type 0) (r : Result (Result A E) F)
    → IfOk r (λ answer. IsOk answer ↔ Room) → IfOk r (λ answer. IfOk answer (λ plan. plan ≡ q)) → (Room → P q)
    → IfOk r (λ answer. IfOk answer P)
when_planned Room q P (Ok (Ok plan)) room is then = subst P (sym is) (then (room.0 refl))
when_planned Room q P (Ok (Err e)) room is then = tt
when_planned Room q P (Err e) room is then = tt

pub on_ok : {A E : Type 0} (P Q : Type 0) (r : Result A E) → OnOk r P → (P → Q) → OnOk r Q
on_ok P Q (Ok x) h f = f h
on_ok P Q (Err e) h f = h

pub when_placed : {A E F : Type 0} (Room : Type 0) (Place : ℕ → Type 0) (q : ℕ → A) (P : A → Type 0) (r : Result (Result A E) F)
    → IfOk r (λ answer. IsOk answer ↔ Room) → IfOk r (λ answer. IfOk answer (λ plan. (at : ℕ) × Place at × (plan ≡ q at))) → (Room → (at : ℕ) → Place at → P (q at))
    → IfOk r (λ answer. IfOk answer P)
when_placed Room Place q P (Ok (Ok plan)) room is then = subst P (sym is.2) (then (room.0 refl) is.0 is.1)
when_placed Room Place q P (Ok (Err e)) room is then = tt
when_placed Room Place q P (Err e) room is then = tt

-- what holds of the one value that there can be
pub if_ok_is : {A E : Type 0} (P : A → Type 0) (q : A) (r : Result A E) → IfOk r (λ x. x ≡ q) → P q → IfOk r P
if_ok_is P q (Ok x) is h = subst P (sym is) h
if_ok_is P q (Err e) is h = tt
