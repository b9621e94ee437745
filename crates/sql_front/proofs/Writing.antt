-- Symbols as text.
use Rattle.std.proofs.Common.{◌≡◌, ℕ, suc, ◌+◌, ◌-◌, ◌<◌, ◌≤◌, List, [], ◌∷◌, ◌++◌, Option, length, take, drop, get_or, Bool, true, false, cond, not, refl, sym, ◌∙◌, ap, arith, append-nil}
use Rattle.std.proofs.lemmas.Grind.{flat_map-append}
use Rattle.std.proofs.lemmas.Bool.{ltb-true}
use Rattle.std.proofs.lemmas.List.{take_all}
use Rattle.std.proofs.Math.Seq.{take-suc}
use Rattle.sql_words.specs.declared.signs.Sign.TheVariants as s
use Rattle.std.specs.List.{flat_map}
use Rattle.std.specs.Prelude.{ℤ, pos, negsuc, nat_abs}
use lib.Signed.{lt_z}
use Rattle.sql_statements.specs.declared.expressions.Expr.{Expr}
use Rattle.sql_statements.specs.declared.expressions.Expr.TheVariants.{Lit, Col, Neg, Not, IsNull, Two, rolls-Lit, rolls-Col, rolls-Neg, rolls-Not, rolls-IsNull, rolls-Two}
use Rattle.sql_statements.specs.declared.expressions.Expr.TheOpen as layer
use Rattle.sql_statements.specs.declared.expressions.Expr.TheFolds.{fold-roll-Expr}
use Rattle.sql_values.specs.declared.values.Value.{Value}
use Rattle.sql_statements.specs.declared.expressions.Op.{Op}
use Rattle.sql_words.specs.declared.reserved.Word.TheVariants as w
use Rattle.sql_words.specs.Bytes.{is_quote}
use Rattle.sql_words.specs.Tokens.{doubled}
use Rattle.sql_front.specs.Printed.{written, spaced, spelled, others, listed, int_symbols, value_symbols, column_symbols, enclosed, Form, form, form_step, expr_symbols, null_symbols, operator_symbol, is_column, is_plain}
use Rattle.sql_front.specs.Symbols.{Input, sign, word, number}

pub written_append : (out : List ℕ) (i j : Input) → written out (i ++ j) ≡ written (written out i) j
written_append out [] j = refl
written_append out (x ∷ i) j = written_append (spaced out ++ spelled x) i j

-- a space stands behind what is written
pub spaced_none : (o : List ℕ) → o ≡ [] → o ≡ spaced o
unfolding spaced
spaced_none [] e = refl
spaced_none (b ∷ o) e = absurd cc

pub spaced_some : (o : List ℕ) → (o ≡ [] → ⊥) → o ++ 32 ∷ [] ≡ spaced o
unfolding spaced
spaced_some [] h = absurd (h refl)
spaced_some (b ∷ o) h = refl

-- a text by its bytes
pub doubled_each : (bytes : List ℕ) → doubled bytes ≡ flat_map (λ b. doubled (b ∷ [])) bytes
doubled_each [] = refl
doubled_each (b ∷ bytes) = by_test (is_quote b) (doubled_each bytes) where
  by_test : (q : Bool) → doubled bytes ≡ flat_map (λ b. doubled (b ∷ [])) bytes → cond q (39 ∷ 39 ∷ doubled bytes) (b ∷ doubled bytes) ≡ cond q (39 ∷ 39 ∷ []) (b ∷ []) ++ flat_map (λ b. doubled (b ∷ [])) bytes
  by_test true e = ap (λ z. 39 ∷ 39 ∷ z) e
  by_test false e = ap (λ z. b ∷ z) e

-- ---- lists

-- one item more
pub others_more : {X : Type 0} (f : X → Input) (out o q : List ℕ) (xs : List X) (i : ℕ) (x : X) → i < length xs → x ≡ get_or xs i x
    → o ≡ written out (others f (take i xs)) → q ≡ written o (sign s.Comma ∷ f x) → q ≡ written out (others f (take (i + 1) xs))
others_more {X} f out o q xs i x less e h g =
    let next : suc i ≡ i + 1 = omega arith in
    let more : take (i + 1) xs ≡ take i xs ++ x ∷ [] = ap (λ n. take n xs) (sym next) ∙ take-suc xs i x less ∙ ap (λ y. take i xs ++ y ∷ []) (sym e) in
    g ∙ ap (λ z. written z (sign s.Comma ∷ f x)) h
    ∙ sym (written_append out (others f (take i xs)) (sign s.Comma ∷ f x))
    ∙ ap (λ z. written out (others f (take i xs) ++ z)) (sym (append-nil (sign s.Comma ∷ f x)))
    ∙ ap (written out) (sym (flat_map-append (λ y. sign s.Comma ∷ f y) (take i xs) (x ∷ [])))
    ∙ ap (λ ys. written out (others f ys)) (sym more)

-- the first item and the others
pub listed_first : {X : Type 0} (f : X → Input) (out o : List ℕ) (xs : List X) (x : X) → 1 ≤ length xs → x ≡ get_or xs 0 x → o ≡ written out (f x)
    → written o (others f (take (length xs - 1) (drop 1 xs))) ≡ written out (listed f xs)
listed_first f out o [] x some e h = absurd (omega arith)
listed_first f out o (y ∷ xs) x some e h = ap (λ ys. written o (others f ys)) (take_all (suc (length xs) - 1) xs (omega arith)) ∙ ap (λ z. written z (others f xs)) (h ∙ ap (λ z. written out (f z)) e) ∙ sym (written_append out (f y) (others f xs))

pub content_done : (out o bytes : List ℕ) (i : ℕ) → length bytes ≤ i → o ≡ out ++ flat_map (λ b. doubled (b ∷ [])) (take i bytes) → o ≡ out ++ doubled bytes
content_done out o bytes i full h = h ∙ ap (λ z. out ++ flat_map (λ b. doubled (b ∷ [])) z) (take_all i bytes full) ∙ ap (λ z. out ++ z) (sym (doubled_each bytes))

-- ---- numbers

pub int_below : (z : ℤ) → lt_z z (pos 0) ≡ true → (out o : List ℕ) (n : ℕ) → n ≡ nat_abs z → o ≡ written out (sign s.Minus ∷ []) → written o (number n ∷ []) ≡ written out (int_symbols z)
unfolding int_symbols
int_below (pos k) h out o n e g = let less = ltb-true k 0 h in absurd (omega arith)
int_below (negsuc k) h out o n e g = ap (λ z. written z (number n ∷ [])) g ∙ ap (λ m. written out (sign s.Minus ∷ number m ∷ [])) e

pub int_from_zero : (z : ℤ) → lt_z z (pos 0) ≡ false → (out : List ℕ) (n : ℕ) → n ≡ nat_abs z → written out (number n ∷ []) ≡ written out (int_symbols z)
unfolding int_symbols
int_from_zero (pos k) h out n e = ap (λ m. written out (number m ∷ [])) e
int_from_zero (negsuc k) h out n e = absurd (apart h) where
  apart : true ≡ false → ⊥
  apart h = cc

-- ---- expressions

pub form_lit : (v : Value) → form (Lit v) ≡ form_step (layer.Lit v)
unfolding form
form_lit v = ap form (sym (rolls-Lit v)) ∙ fold-roll-Expr Form form_step (layer.Lit v)

pub form_col : (t : Option (List ℕ)) (c : List ℕ) → form (Col t c) ≡ form_step (layer.Col t c)
unfolding form
form_col t c = ap form (sym (rolls-Col t c)) ∙ fold-roll-Expr Form form_step (layer.Col t c)

pub form_neg : (a : Expr) → form (Neg a) ≡ form_step (layer.Neg (form a))
unfolding form
form_neg a = ap form (sym (rolls-Neg a)) ∙ fold-roll-Expr Form form_step (layer.Neg a)

pub form_not : (a : Expr) → form (Not a) ≡ form_step (layer.Not (form a))
unfolding form
form_not a = ap form (sym (rolls-Not a)) ∙ fold-roll-Expr Form form_step (layer.Not a)

pub form_null : (a : Expr) (n : Bool) → form (IsNull a n) ≡ form_step (layer.IsNull (form a) n)
unfolding form
form_null a n = ap form (sym (rolls-IsNull a n)) ∙ fold-roll-Expr Form form_step (layer.IsNull a n)

pub form_two : (o : Op) (a b : Expr) → form (Two o a b) ≡ form_step (layer.Two o (form a) (form b))
unfolding form
form_two o a b = ap form (sym (rolls-Two o a b)) ∙ fold-roll-Expr Form form_step (layer.Two o a b)

-- what a layer says of a value that is known
pub known : (p q : Expr) (f : Form) → p ≡ q → form q ≡ f → form p ≡ f
known p q f e g = ap form e ∙ g

pub lit_flags : (p : Expr) (v : Value) → p ≡ Lit v → (false ≡ is_column p) × (true ≡ is_plain p)
lit_flags p v e = (sym (ap (λ f. f.column) (known p (Lit v) _ e (form_lit v))), sym (ap (λ f. f.plain) (known p (Lit v) _ e (form_lit v))))

pub col_flags : (p : Expr) (t : Option (List ℕ)) (c : List ℕ) → p ≡ Col t c → (true ≡ is_column p) × (true ≡ is_plain p)
col_flags p t c e = (sym (ap (λ f. f.column) (known p (Col t c) _ e (form_col t c))), sym (ap (λ f. f.plain) (known p (Col t c) _ e (form_col t c))))

pub neg_flags : (p a : Expr) → p ≡ Neg a → (false ≡ is_column p) × (false ≡ is_plain p)
neg_flags p a e = (sym (ap (λ f. f.column) (known p (Neg a) _ e (form_neg a))), sym (ap (λ f. f.plain) (known p (Neg a) _ e (form_neg a))))

pub not_flags : (p a : Expr) → p ≡ Not a → (false ≡ is_column p) × (false ≡ is_plain p)
not_flags p a e = (sym (ap (λ f. f.column) (known p (Not a) _ e (form_not a))), sym (ap (λ f. f.plain) (known p (Not a) _ e (form_not a))))

pub null_flags : (p a : Expr) (n : Bool) → p ≡ IsNull a n → (false ≡ is_column p) × (false ≡ is_plain p)
null_flags p a n e = (sym (ap (λ f. f.column) (known p (IsNull a n) _ e (form_null a n))), sym (ap (λ f. f.plain) (known p (IsNull a n) _ e (form_null a n))))

pub two_flags : (p : Expr) (o : Op) (a b : Expr) → p ≡ Two o a b → (false ≡ is_column p) × (false ≡ is_plain p)
two_flags p o a b e = (sym (ap (λ f. f.column) (known p (Two o a b) _ e (form_two o a b))), sym (ap (λ f. f.plain) (known p (Two o a b) _ e (form_two o a b))))

pub neg_text : (out o : List ℕ) (p a x y : Expr) (b : Bool) → p ≡ Neg a → x ≡ a → y ≡ a → b ≡ is_column y → o ≡ written out (sign s.Minus ∷ [])
    → written o (enclosed (not b) (expr_symbols x)) ≡ written out (expr_symbols p)
neg_text out o p a x y b e f g h k =
    ap (λ z. written z (enclosed (not b) (expr_symbols x))) k
    ∙ ap (λ d. written out (sign s.Minus ∷ enclosed (not d) (expr_symbols x))) (h ∙ ap is_column g)
    ∙ ap (λ z. written out (sign s.Minus ∷ enclosed (not (is_column a)) (expr_symbols z))) f
    ∙ ap (λ f. written out f.symbols) (sym (known p (Neg a) _ e (form_neg a)))

pub not_text : (out o : List ℕ) (p a x y : Expr) (b : Bool) → p ≡ Not a → x ≡ a → y ≡ a → b ≡ is_plain y → o ≡ written out (word w.Not ∷ [])
    → written o (enclosed (not b) (expr_symbols x)) ≡ written out (expr_symbols p)
not_text out o p a x y b e f g h k =
    ap (λ z. written z (enclosed (not b) (expr_symbols x))) k
    ∙ ap (λ d. written out (word w.Not ∷ enclosed (not d) (expr_symbols x))) (h ∙ ap is_plain g)
    ∙ ap (λ z. written out (word w.Not ∷ enclosed (not (is_plain a)) (expr_symbols z))) f
    ∙ ap (λ f. written out f.symbols) (sym (known p (Not a) _ e (form_not a)))

enclosed_same : (a x y : Expr) (b : Bool) → x ≡ a → y ≡ a → b ≡ is_plain y → enclosed (not b) (expr_symbols x) ≡ enclosed (not (is_plain a)) (expr_symbols a)
enclosed_same a x y b f g h = ap (λ d. enclosed (not d) (expr_symbols x)) (h ∙ ap is_plain g) ∙ ap (λ z. enclosed (not (is_plain a)) (expr_symbols z)) f

pub null_text : (out o : List ℕ) (p a x y : Expr) (n b : Bool) → p ≡ IsNull a n → x ≡ a → y ≡ a → b ≡ is_plain y → o ≡ written out (enclosed (not b) (expr_symbols x))
    → written o (null_symbols n) ≡ written out (expr_symbols p)
null_text out o p a x y n b e f g h k =
    ap (λ z. written z (null_symbols n)) (k ∙ ap (written out) (enclosed_same a x y b f g h))
    ∙ sym (written_append out (enclosed (not (is_plain a)) (expr_symbols a)) (null_symbols n))
    ∙ ap (λ f. written out f.symbols) (sym (known p (IsNull a n) _ e (form_null a n)))

pub two_text : (out o q : List ℕ) (op : Op) (p l r : Expr) (x y : Expr) (b : Bool) (v z : Expr) (d : Bool) → p ≡ Two op l r → x ≡ l → y ≡ l → b ≡ is_plain y → v ≡ r → z ≡ r → d ≡ is_plain z
    → o ≡ written out (enclosed (not b) (expr_symbols x)) → q ≡ written o (operator_symbol op ∷ []) → written q (enclosed (not d) (expr_symbols v)) ≡ written out (expr_symbols p)
two_text out o q op p l r x y b v z d e f g h f' g' h' k m =
    ap (λ t. written t (enclosed (not d) (expr_symbols v))) (m ∙ ap (λ t. written t (operator_symbol op ∷ [])) (k ∙ ap (written out) (enclosed_same l x y b f g h)))
    ∙ ap (written (written (written out (enclosed (not (is_plain l)) (expr_symbols l))) (operator_symbol op ∷ []))) (enclosed_same r v z d f' g' h')
    ∙ sym (written_append out (enclosed (not (is_plain l)) (expr_symbols l)) (operator_symbol op ∷ enclosed (not (is_plain r)) (expr_symbols r)))
    ∙ ap (λ f. written out f.symbols) (sym (known p (Two op l r) _ e (form_two op l r)))

pub lit_text : (out : List ℕ) (p : Expr) (v : Value) → p ≡ Lit v → written out (value_symbols v) ≡ written out (expr_symbols p)
lit_text out p v e = ap (λ f. written out f.symbols) (sym (known p (Lit v) _ e (form_lit v)))

pub col_text : (out : List ℕ) (p : Expr) (t : Option (List ℕ)) (c : List ℕ) → p ≡ Col t c → written out (column_symbols t c) ≡ written out (expr_symbols p)
col_text out p t c e = ap (λ f. written out f.symbols) (sym (known p (Col t c) _ e (form_col t c)))
