-- Facts of each element of a list, as a loop over it gathers them.
use Rattle.std.proofs.Common.{◌≡◌, ℕ, zero, suc, ◌+◌, ◌<◌, List, [], ◌∷◌, ◌++◌, length, take, get_or, flat_map, fold, sym, ap, subst, ◌∙◌, arith}
use Rattle.std.proofs.lemmas.Grind.{flat_map-append, fold-append}
use Rattle.std.proofs.lemmas.List.{append-nil, take_more}
use Rattle.std.specs.List.{AllByRecursion}
use Rattle.sql_values.specs.declared.values.Value.{Value}
use Rattle.sql_values.specs.declared.values.Value.TheVariants.{Null, Int, Text}
use Rattle.row_codec.specs.Records.{AreI64}

pub all_at : {X : Type 0} (P : X → Type 0) (xs : List X) (i : ℕ) (d : X) → AllByRecursion P xs → i < length xs → P (get_or xs i d)
all_at P [] i d h l = absurd (omega arith)
all_at P (x ∷ xs) zero d h l = h.0
all_at P (x ∷ xs) (suc i) d h l = all_at P xs i d h.1 (omega arith)

-- the front of a list with one element more
pub front_more : {X : Type 0} (xs : List X) (i : ℕ) (x : X) → i < length xs → x ≡ get_or xs i x → take (i + 1) xs ≡ take i xs ++ x ∷ []
front_more xs i x h e = take_more xs i x h ∙ ap (λ z. take i xs ++ z ∷ []) (sym e)

pub all_here : {X : Type 0} (P : X → Type 0) (xs : List X) (i : ℕ) (x : X) → AllByRecursion P xs → i < length xs → x ≡ get_or xs i x → P x
all_here P xs i x all h e = subst P (sym e) (all_at P xs i x all h)

pub all_weaker : {X : Type 0} (P Q : X → Type 0) → ((x : X) → P x → Q x) → (xs : List X) → AllByRecursion P xs → AllByRecursion Q xs
all_weaker P Q f [] h = tt
all_weaker P Q f (x ∷ xs) h = (f x h.0, all_weaker P Q f xs h.1)

ints_push : (xs : List Value) (x : Value) → AreI64 xs → AreI64 (x ∷ []) → AreI64 (xs ++ x ∷ [])
ints_push [] x h p = p
ints_push (Null ∷ xs) x h p = ints_push xs x h p
ints_push (Int n ∷ xs) x h p = (h.0, ints_push xs x h.1 p)
ints_push (Text t ∷ xs) x h p = ints_push xs x h p

-- the INTs of one cell more are i64
pub ints_front : (xs : List Value) (i : ℕ) (x : Value) → i < length xs → x ≡ get_or xs i x → AreI64 (take i xs) → AreI64 (x ∷ []) → AreI64 (take (i + 1) xs)
ints_front xs i x h e all p =
    subst (λ (ys : List Value). AreI64 ys) (sym (front_more xs i x h e)) (ints_push (take i xs) x all p)

-- one change more
pub fold_front : {X D : Type 0} (f : D → X → D) (d : D) (xs : List X) (i : ℕ) (x : X) → i < length xs → x ≡ get_or xs i x → fold f d (take (i + 1) xs) ≡ f (fold f d (take i xs)) x
fold_front f d xs i x h e = ap (fold f d) (front_more xs i x h e) ∙ fold-append f d (take i xs) (x ∷ [])

-- the rows of one range more
pub flat_front : {X A : Type 0} (f : X → List A) (xs : List X) (i : ℕ) (x : X) → i < length xs → x ≡ get_or xs i x → flat_map f (take (i + 1) xs) ≡ flat_map f (take i xs) ++ f x
flat_front f xs i x h e =
    ap (flat_map f) (front_more xs i x h e) ∙ flat_map-append f (take i xs) (x ∷ []) ∙ ap (λ ys. flat_map f (take i xs) ++ ys) (append-nil (f x))
