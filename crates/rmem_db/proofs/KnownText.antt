-- Lemmas on texts that a sink takes piece by piece.
use Rattle.std.proofs.Common.{◌≡◌, ◌≤◌, ◌+◌, ◌-◌, ℕ, suc, List, ◌++◌, length, take, drop, Option, Result, Ok, Err, OnErr, flat_map, get_or, ◌<◌, refl, sym, ap, ◌∙◌, subst, arith, append_assoc}
use Rattle.std.proofs.lemmas.List.{take-append-drop}
use Rattle.std.proofs.lemmas.Slice.{between_to_end}
use Rattle.std.proofs.lemmas.Grind.{flat_map-append}
use Rattle.std.proofs.Math.Seq.{take-add, drop-cons}
use Rattle.std.proofs.KnownBytes.{Appends-trans, Appends-kept}
use Rattle.std.specs.Io.KnownBytes.{Appends, Keeps}
use Rattle.rmem_db.specs.Writing.{AppendsFront}

-- a front of a text is a part of it
pub AppendsFront-take : (old new : Option (List ℕ)) (i : ℕ) (text : List ℕ) → Appends old new (take i text) → AppendsFront old new text
AppendsFront-take old new i text h =
    record { front = take i text; rest = drop i text; parts = sym (take-append-drop i text); grew = h }

-- the front that was taken, and n bytes more
pub Appends-take_more : (a b c : Option (List ℕ)) (i n : ℕ) (text : List ℕ) → i ≤ length text → Appends a b (take i text)
    → Appends b c (take n (take (length text - i) (drop i text))) → Appends a c (take (i + n) text)
Appends-take_more a b c i n text inside first more =
    let whole : take (length text - i) (drop i text) ≡ drop i text = between_to_end text i (length text) (omega arith) in
    let joined : take i text ++ take n (drop i text) ≡ take (i + n) text = sym (take-add i n text) in
    subst (Appends a c) (ap (λ (q : List ℕ). take i text ++ take n q) whole ∙ joined) (Appends-trans a b c (take i text) _ first more)

-- nothing more was taken
pub AppendsFront-kept : (a b c : Option (List ℕ)) (i : ℕ) (text : List ℕ) → Appends a b (take i text) → Keeps b c → AppendsFront a c text
AppendsFront-kept a b c i text first kept = AppendsFront-take a c i text (Appends-kept a b c (take i text) first kept)

-- what holds of any error
pub OnErr-any : {T E P : Type 0} (r : Result T E) → P → OnErr r P
OnErr-any (Ok x) h = tt
OnErr-any (Err e) h = h

-- a front of a text's front is a front of it
pub AppendsFront-append : (a b : Option (List ℕ)) (x y : List ℕ) → AppendsFront a b x → AppendsFront a b (x ++ y)
AppendsFront-append a b x y h =
    record { front = h.front; rest = h.rest ++ y; parts = ap (λ (q : List ℕ). q ++ y) h.parts ∙ append_assoc h.front h.rest y; grew = h.grew }

pub AppendsFront-all : (a b : Option (List ℕ)) (x y : List ℕ) → Appends a b x → AppendsFront a b (x ++ y)
AppendsFront-all a b x y h = record { front = x; rest = y; parts = refl; grew = h }

-- the first text whole, and a front of the second
pub AppendsFront-behind : (a b c : Option (List ℕ)) (x y : List ℕ) → Appends a b x → AppendsFront b c y → AppendsFront a c (x ++ y)
AppendsFront-behind a b c x y first more =
    record {
      front = x ++ more.front;
      rest = more.rest;
      parts = ap (λ (q : List ℕ). x ++ q) more.parts ∙ sym (append_assoc x more.front more.rest);
      grew = Appends-trans a b c x more.front first more.grew;
    }

-- the texts of the first items are a front of the texts of all
pub AppendsFront-items : {X : Type 0} (a b : Option (List ℕ)) (f : X → List ℕ) (xs : List X) (i : ℕ) → Appends a b (flat_map f (take i xs)) → AppendsFront a b (flat_map f xs)
AppendsFront-items a b f xs i h =
    let split : flat_map f xs ≡ flat_map f (take i xs) ++ flat_map f (drop i xs) =
    ap (flat_map f) (sym (take-append-drop i xs)) ∙ flat_map-append f (take i xs) (drop i xs) in
    subst (AppendsFront a b) (sym split) (AppendsFront-all a b _ _ h)

-- the texts of the first items, and a front of the text of the next
pub AppendsFront-item : {X : Type 0} (a b c : Option (List ℕ)) (f : X → List ℕ) (xs : List X) (i : ℕ) (d : X) → i < length xs
    → Appends a b (flat_map f (take i xs)) → AppendsFront b c (f (get_or xs i d)) → AppendsFront a c (flat_map f xs)
AppendsFront-item a b c f xs i d inside first more =
    let split : flat_map f xs ≡ flat_map f (take i xs) ++ flat_map f (drop i xs) =
    ap (flat_map f) (sym (take-append-drop i xs)) ∙ flat_map-append f (take i xs) (drop i xs) in
    let next : flat_map f (drop i xs) ≡ f (get_or xs i d) ++ flat_map f (drop (suc i) xs) =
    ap (flat_map f) (drop-cons xs i d inside) in
    subst (AppendsFront a c) (sym (split ∙ ap (λ (q : List ℕ). flat_map f (take i xs) ++ q) next))
    (AppendsFront-behind a b c _ _ first (AppendsFront-append b c _ _ more))
