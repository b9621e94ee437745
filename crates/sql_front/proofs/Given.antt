-- Rules that are met by what was read, and again by what is printed.
use Rattle.std.proofs.Common.{◌≡◌, ℕ, suc, ◌-◌, ◌≤◌, inl, inr, Bool, true, false, List, [], ◌∷◌, ◌++◌, length, refl, sym, ◌∙◌, ap, subst, arith, append_assoc, append-nil, length-append}
use Rattle.std.proofs.lemmas.Bool.{lt-ltb}
use Rattle.std.specs.Prelude.{ℤ}
use Rattle.sql_statements.specs.declared.expressions.Expr.{Expr}
use Rattle.sql_front.specs.Expressions.{an_expression}
use Rattle.sql_front.specs.Printed.{expr_symbols, others, listed, int_symbols}
use Rattle.sql_front.specs.Short.{IsShort, AllOf}
use Rattle.sql_front.specs.Rules.{Rule, nothing, the, the_if, a_name, a_name_if, a_small_number, Both, ◌or◌, Further, none, another, a_list}
use Rattle.sql_front.specs.Symbols.{Symbol, name, Input}
use Rattle.sql_front.proofs.ExprAgain.{again, lexes_append, sound_front, sound_back}
use Rattle.sql_front.proofs.Lexing.{IsName, AllSound, Fits, Lexes}

-- all symbols are held to the conditions, and are those of tokens
pub record Given (k : ℕ) (i : Input) : Type 0 where
  pub within : length i ≤ k
  pub sound : AllSound i

-- symbols that mean the value, however many are held to the conditions, and can be written
pub record Out {X : Type 0} (R : Rule X) (i : Input) (x : X) : Type 0 where
  pub means : (k : ℕ) → R k i x
  pub lexes : Lexes false i

module _ {X Y : Type 0} {R : Rule X} {S : X → Rule Y} {k : ℕ} {i : Input} {y : Y} (g : Given k i) (m : Both R S k i y) where
  sound_all : AllSound (m.front ++ m.back)
  sound_all = subst AllSound m.whole g.sound

  pub front : Given k m.front
  front = record { within = omega (arith, g.within, ap length m.whole, length-append m.front m.back); sound = sound_front m.front m.back sound_all }

  pub back : Given (k - length m.front) m.back
  back = record { within = omega (arith, g.within, ap length m.whole, length-append m.front m.back); sound = sound_back m.front m.back sound_all }

pub out_both : {X Y : Type 0} {R : Rule X} {S : X → Rule Y} {i j : Input} {x : X} {y : Y} → Out R i x → Out (S x) j y → Out (Both R S) (i ++ j) y
out_both {i = i} {j = j} {x = x} a b = record {
  means = λ k. record { value = x; front = i; back = j; whole = refl; first = a.means k; second = b.means (k - length i) };
  lexes = lexes_append false i j a.lexes b.lexes;
}

-- the last part of a rule, which says what the value is
pub out_last : {X Y : Type 0} {R : Rule X} {f : X → Y} {i : Input} (x : X) → Out R i x → Out (Both R (λ z. nothing (f z))) i (f x)
out_last {i = i} x a = record {
  means = λ k. record { value = x; front = i; back = []; whole = sym (append-nil i); first = a.means k; second = (refl, refl) };
  lexes = a.lexes;
}

pub out_the : (t : Symbol) → Fits false t → Out (the t) (t ∷ []) tt
out_the t f = record { means = λ k. refl; lexes = (f, tt) }

pub out_the_if : (allowed : Bool) (t : Symbol) → Fits false t → allowed ≡ true → Out (the_if allowed t) (t ∷ []) tt
out_the_if allowed t f h = record { means = λ k. (refl, λ _. h); lexes = (f, tt) }

pub out_name : (n : List ℕ) → IsName n → Out a_name (name n ∷ []) n
out_name n h = record { means = λ k. refl; lexes = (h, tt) }

pub out_name_if : (allowed : List ℕ → Bool) (n : List ℕ) → IsName n → allowed n ≡ true → Out (a_name_if allowed) (name n ∷ []) n
out_name_if allowed n h e = record { means = λ k. (refl, λ _. e); lexes = (h, tt) }

pub out_nothing : {X : Type 0} (x : X) → Out (nothing x) [] x
out_nothing x = record { means = λ k. (refl, refl); lexes = tt }

pub out_left : {X : Type 0} {R S : Rule X} {i : Input} {x : X} → Out R i x → Out (R or S) i x
out_left a = record { means = λ k. inl (a.means k); lexes = a.lexes }

pub out_right : {X : Type 0} {R S : Rule X} {i : Input} {x : X} → Out S i x → Out (R or S) i x
out_right a = record { means = λ k. inr (a.means k); lexes = a.lexes }

-- the name of a symbol that was read
pub its_name : {k : ℕ} {i : Input} {n : List ℕ} → Given k i → i ≡ name n ∷ [] → IsName n
its_name g e = (subst AllSound e g.sound).0

pub allowed_name : (allowed : List ℕ → Bool) {k : ℕ} {i : Input} {n : List ℕ} → Given k i → a_name_if allowed k i n → (IsName n) × (allowed n ≡ true)
allowed_name allowed g m = (its_name g m.0, m.1 (omega (arith, g.within, ap length m.0)))

pub out_expr : {k : ℕ} {i : Input} (x : Expr) → Given k i → an_expression k i x → IsShort x → Out an_expression (expr_symbols x) x
out_expr x g m h = let a = again m.0 g.sound in record { means = λ k. (a.whole, λ _. h); lexes = a.lexes }

pub out_small : (k : ℕ) (i : Input) (z : ℤ) → a_small_number k i z → Out a_small_number (int_symbols z) z
unfolding int_symbols
out_small k i z m = subst (λ y. Out a_small_number (int_symbols y) y) (sym m.3) (record { means = λ k. (m.0, refl, m.2, refl); lexes = (lt-ltb m.0 9223372036854775808 m.2, tt) })

-- ---- lists

all_at : {X : Type 0} (P : X → Type 0) (a b : List X) (x : X) → AllOf P ((a ++ x ∷ []) ++ b) → P x
all_at P [] b x h = h.0
all_at P (y ∷ a) b x h = all_at P a b x h.1

module _ {X : Type 0} (item : List X → Rule X) (f : X → Input) (P : X → Type 0)
    (each : (before : List X) (k : ℕ) (i : Input) (x : X) → Given k i → item before k i x → P x → Out (item before) (f x) x) where
  -- what was read behind some items is printed
  pub out_further : {before xs : List X} {k : ℕ} {i : Input} → Given k i → Further item before k i xs → AllOf P xs
      → (new : List X) × (xs ≡ before ++ new) × Out (Further item before) (others f new) xs
  out_further {before} g none h = ([], sym (append-nil before), record { means = λ k. none; lexes = tt })
  out_further {before} {xs} {k} g (another {a = a} {b = b} {x = x} m n) h =
      behind (out_further (record { within = omega (arith, g.within, length-append a b); sound = sound_back a b g.sound.1 }) n h)
    where
      behind : ((new : List X) × (xs ≡ (before ++ x ∷ []) ++ new) × Out (Further item (before ++ x ∷ [])) (others f new) xs)
          → (new : List X) × (xs ≡ before ++ new) × Out (Further item before) (others f new) xs
      behind p =
          let here = each before (k - 1) a x (record { within = omega (arith, g.within, length-append a b); sound = sound_front a b g.sound.1 }) m (all_at P before p.0 x (subst (AllOf P) p.1 h)) in (
            x ∷ p.0,
            p.1 ∙ append_assoc before (x ∷ []) p.0,
            record {
              means = λ k. another (here.means (k - 1)) (p.2.means (k - suc (length (f x))));
              lexes = (tt, lexes_append false (f x) (others f p.0) here.lexes p.2.lexes);
            },
          )

  pub out_list : {k : ℕ} {i : Input} {xs : List X} → Given k i → a_list item k i xs → AllOf P xs → Out (a_list item) (listed f xs) xs
  out_list {k = k} {xs = xs} g m h = whole (out_further (back g m) m.second h) where
    whole : ((new : List X) × (xs ≡ (m.value ∷ []) ++ new) × Out (Further item (m.value ∷ [])) (others f new) xs) → Out (a_list item) (listed f xs) xs
    whole p =
        let here = each [] k m.front m.value (front g m) m.first (subst (AllOf P) p.1 h).0 in
        subst (λ z. Out (a_list item) (listed f z) xs) (sym p.1) (out_both here p.2)
