-- A test is No where one of the conjuncts that bound a key is No.
use Rattle.std.proofs.Common.{◌≡◌, ℕ, Bool, true, false, ◌&&◌, nat_lt, if◌then◌else◌, List, [], ◌∷◌, ◌++◌, Option, Some, None, option_map, Result, Ok, Err, ◌⊎◌, inl, inr, refl, sym, ◌∙◌, ap, subst}
use Rattle.std.specs.Option.{option_map_or}
use Rattle.std.specs.declared.cmp.Ordering.{Ordering}
use Rattle.std.specs.declared.cmp.Ordering.TheVariants.{Less, Equal, Greater}
use Rattle.std.specs.Ordering.{ordering_reverse}
use Rattle.std.proofs.lemmas.Cmp.{int_cmp_total, nat_list_cmp_total}
use Rattle.sql_values.specs.declared.arithmetic.Overflow.{Overflow}
use Rattle.sql_values.specs.declared.values.Value.{Value}
use Rattle.sql_values.specs.declared.values.Value.TheVariants.{Null, Int, Text}
use Rattle.sql_values.specs.declared.logic.Truth.{Truth}
use Rattle.sql_values.specs.declared.logic.Truth.TheVariants.{Yes, No, Unknown}
use Rattle.sql_values.specs.Order.{comparison}
use Rattle.sql_statements.specs.declared.expressions.Op.{Op}
use Rattle.sql_statements.specs.declared.expressions.Op.TheVariants.{Or, And, Eq, Ne, Lt, Le, Gt, Ge, Add, Sub, Mul}
use Rattle.sql_meaning.specs.Evaluation.{cell_of, truth_in, test_in, and_of, compared, holds, truth_of, joined}
use Rattle.sql_meaning.specs.Ranges.{conjuncts, KeyPlaces, Bound, by_literal, by_cell, is_right_key, is_key_place, bounds, turned, can_bound, equal_cells, bound, said, leading, bounds_of}
use Rattle.sql_meaning.specs.Terms.{Term, lit, cell, two}

-- the truth of conditions joined by AND
abbrev pub all_of : List Value → List Term → Result Truth Overflow
all_of row [] = Ok Yes
all_of row (t ∷ ts) = and_of (truth_in row t) (all_of row ts)

yes-and : (t : Result Truth Overflow) → and_of (Ok Yes) t ≡ t
yes-and (Ok Yes) = refl
yes-and (Ok No) = refl
yes-and (Ok Unknown) = refl
yes-and (Err e) = refl

and-yes : (t : Result Truth Overflow) → and_of t (Ok Yes) ≡ t
and-yes (Ok Yes) = refl
and-yes (Ok No) = refl
and-yes (Ok Unknown) = refl
and-yes (Err e) = refl

and-no : (t : Truth) → and_of (Ok t) (Ok No) ≡ Ok No
and-no Yes = refl
and-no No = refl
and-no Unknown = refl

and-assoc : (a b c : Result Truth Overflow) → and_of (and_of a b) c ≡ and_of a (and_of b c)
and-assoc (Err e) b c = refl
and-assoc (Ok No) b c = refl
and-assoc (Ok Yes) (Err e) c = refl
and-assoc (Ok Yes) (Ok No) c = refl
and-assoc (Ok Yes) (Ok Yes) (Ok Yes) = refl
and-assoc (Ok Yes) (Ok Yes) (Ok No) = refl
and-assoc (Ok Yes) (Ok Yes) (Ok Unknown) = refl
and-assoc (Ok Yes) (Ok Yes) (Err e) = refl
and-assoc (Ok Yes) (Ok Unknown) (Ok Yes) = refl
and-assoc (Ok Yes) (Ok Unknown) (Ok No) = refl
and-assoc (Ok Yes) (Ok Unknown) (Ok Unknown) = refl
and-assoc (Ok Yes) (Ok Unknown) (Err e) = refl
and-assoc (Ok Unknown) (Err e) c = refl
and-assoc (Ok Unknown) (Ok No) c = refl
and-assoc (Ok Unknown) (Ok Yes) (Ok Yes) = refl
and-assoc (Ok Unknown) (Ok Yes) (Ok No) = refl
and-assoc (Ok Unknown) (Ok Yes) (Ok Unknown) = refl
and-assoc (Ok Unknown) (Ok Yes) (Err e) = refl
and-assoc (Ok Unknown) (Ok Unknown) (Ok Yes) = refl
and-assoc (Ok Unknown) (Ok Unknown) (Ok No) = refl
and-assoc (Ok Unknown) (Ok Unknown) (Ok Unknown) = refl
and-assoc (Ok Unknown) (Ok Unknown) (Err e) = refl

all-append : (row : List Value) (xs ys : List Term) → all_of row (xs ++ ys) ≡ and_of (all_of row xs) (all_of row ys)
all-append row [] ys = sym (yes-and (all_of row ys))
all-append row (x ∷ xs) ys =
    ap (and_of (truth_in row x)) (all-append row xs ys) ∙ sym (and-assoc (truth_in row x) (all_of row xs) (all_of row ys))

-- a test is its conjuncts joined by AND, in order
all-conjuncts : (row : List Value) (t : Term) → truth_in row t ≡ all_of row (conjuncts t)
all-conjuncts row (two And x y) =
    ap (λ a. and_of a (truth_in row y)) (all-conjuncts row x)
    ∙ ap (and_of (all_of row (conjuncts x))) (all-conjuncts row y)
    ∙ sym (all-append row (conjuncts x) (conjuncts y))
all-conjuncts row t = sym (and-yes (truth_in row t))

comparison-turned : (a b : Value) → comparison a b ≡ option_map ordering_reverse (comparison b a)
comparison-turned Null Null = refl
comparison-turned Null (Int n) = refl
comparison-turned Null (Text t) = refl
comparison-turned (Int m) Null = refl
comparison-turned (Int m) (Int n) = ap Some (int_cmp_total.antisymm m n)
comparison-turned (Int m) (Text t) = refl
comparison-turned (Text s) Null = refl
comparison-turned (Text s) (Int n) = refl
comparison-turned (Text s) (Text t) = ap Some (nat_list_cmp_total.antisymm s t)

holds-turned : (op : Op) (o : Ordering) → holds op (ordering_reverse o) ≡ holds (turned op) o
holds-turned Or o = refl
holds-turned And o = refl
holds-turned Add o = refl
holds-turned Sub o = refl
holds-turned Mul o = refl
holds-turned Eq Less = refl
holds-turned Eq Equal = refl
holds-turned Eq Greater = refl
holds-turned Ne Less = refl
holds-turned Ne Equal = refl
holds-turned Ne Greater = refl
holds-turned Lt Less = refl
holds-turned Lt Equal = refl
holds-turned Lt Greater = refl
holds-turned Le Less = refl
holds-turned Le Equal = refl
holds-turned Le Greater = refl
holds-turned Gt Less = refl
holds-turned Gt Equal = refl
holds-turned Gt Greater = refl
holds-turned Ge Less = refl
holds-turned Ge Equal = refl
holds-turned Ge Greater = refl

abbrev truth_by : Op → Option Ordering → Truth
truth_by op o = option_map_or (λ q. truth_of (holds op q)) o Unknown

truth-turned : (op : Op) (o : Option Ordering) → truth_by op (option_map ordering_reverse o) ≡ truth_by (turned op) o
truth-turned op None = refl
truth-turned op (Some o) = ap truth_of (holds-turned op o)

-- a comparison with its sides the other way round
compared-turned : (op : Op) (a b : Value) → compared op a b ≡ compared (turned op) b a
compared-turned op a b = ap (truth_by op) (comparison-turned a b) ∙ truth-turned op (comparison b a)

-- one of = < <= > >= compares its sides
joined-compares : (op : Op) (s t : Result Truth Overflow) (a b : Value) → bounds op ≡ true → joined op s t (Ok a) (Ok b) ≡ Ok (compared op a b)
joined-compares Eq s t a b h = refl
joined-compares Lt s t a b h = refl
joined-compares Le s t a b h = refl
joined-compares Gt s t a b h = refl
joined-compares Ge s t a b h = refl
joined-compares Ne s t a b h = cc
joined-compares Or s t a b h = cc
joined-compares And s t a b h = cc
joined-compares Add s t a b h = cc
joined-compares Sub s t a b h = cc
joined-compares Mul s t a b h = cc

pub turned-bounds : (op : Op) → bounds (turned op) ≡ true → bounds op ≡ true
turned-bounds Eq h = h
turned-bounds Lt h = refl
turned-bounds Le h = refl
turned-bounds Gt h = refl
turned-bounds Ge h = refl
turned-bounds Ne h = h
turned-bounds Or h = h
turned-bounds And h = h
turned-bounds Add h = h
turned-bounds Sub h = h
turned-bounds Mul h = h

-- the truth of the conjunct that gave a bound
abbrev pub bound_truth : List Value → Bound → Truth
bound_truth row (by_literal p op v) = compared op (cell_of row p) v
bound_truth row (by_cell p q) = compared Eq (cell_of row p) (cell_of row q)

pub and_both : (a b : Bool) → (a && b) ≡ true → (a ≡ true) × (b ≡ true)
and_both true true h = (refl, refl)
and_both true false h = cc
and_both false b h = cc

-- the four forms of a conjunct that bounds a key
pub record Forms (keys : KeyPlaces) (P : Term → Bound → Type 0) : Type 0 where
  pub literal : (op : Op) (p : ℕ) (v : Value) → bounds op ≡ true → can_bound v ≡ true → P (two op (cell p) (lit v)) (by_literal p op v)
  pub turned_literal : (op : Op) (p : ℕ) (v : Value) → bounds op ≡ true → can_bound v ≡ true → P (two op (lit v) (cell p)) (by_literal p (turned op) v)
  pub cells : (p q : ℕ) → nat_lt q keys.width ≡ true → P (two Eq (cell p) (cell q)) (by_cell p q)
  pub turned_cells : (p q : ℕ) → nat_lt p keys.width ≡ true → P (two Eq (cell p) (cell q)) (by_cell q p)

of_if : (P : Bound → Type 0) (c : Bool) (x b : Bound) → (c ≡ true → P x) → (if c then Some x else None) ≡ Some b → P b
of_if P true x b f h = let e : x ≡ b = cc in subst P e (f refl)
of_if P false x b f h = cc

of_ifs : (P : Bound → Type 0) (c d : Bool) (x y b : Bound) → (c ≡ true → P x) → (d ≡ true → P y) → (if c then Some x else (if d then Some y else None)) ≡ Some b → P b
of_ifs P true d x y b f g h = let e : x ≡ b = cc in subst P e (f refl)
of_ifs P false d x y b f g h = of_if P d y b g h

of_cells : (keys : KeyPlaces) (P : Term → Bound → Type 0) → Forms keys P → (op : Op) (p q : ℕ) (b : Bound) → equal_cells keys op p q ≡ Some b → P (two op (cell p) (cell q)) b
of_cells keys P f Eq p q b h =
    of_ifs (P (two Eq (cell p) (cell q))) (is_right_key keys p && nat_lt q keys.width) (is_right_key keys q && nat_lt p keys.width) (by_cell p q) (by_cell q p) b
    (λ c. f.cells p q (and_both (is_right_key keys p) (nat_lt q keys.width) c).1)
    (λ c. f.turned_cells p q (and_both (is_right_key keys q) (nat_lt p keys.width) c).1) h
of_cells keys P f Ne p q b h = cc
of_cells keys P f Lt p q b h = cc
of_cells keys P f Le p q b h = cc
of_cells keys P f Gt p q b h = cc
of_cells keys P f Ge p q b h = cc
of_cells keys P f Or p q b h = cc
of_cells keys P f And p q b h = cc
of_cells keys P f Add p q b h = cc
of_cells keys P f Sub p q b h = cc
of_cells keys P f Mul p q b h = cc

pub by_form : (keys : KeyPlaces) (P : Term → Bound → Type 0) → Forms keys P → (t : Term) (b : Bound) → bound keys t ≡ Some b → P t b
by_form keys P f (two op (cell p) (lit v)) b h =
    of_if (P (two op (cell p) (lit v))) (is_key_place keys p && (bounds op && can_bound v)) (by_literal p op v) b
    (λ c. let d = and_both (bounds op) (can_bound v) (and_both (is_key_place keys p) (bounds op && can_bound v) c).1 in f.literal op p v d.0 d.1) h
by_form keys P f (two op (lit v) (cell p)) b h =
    of_if (P (two op (lit v) (cell p))) (is_key_place keys p && (bounds (turned op) && can_bound v)) (by_literal p (turned op) v) b
    (λ c. let d = and_both (bounds (turned op)) (can_bound v) (and_both (is_key_place keys p) (bounds (turned op) && can_bound v) c).1 in f.turned_literal op p v (turned-bounds op d.0) d.1) h
by_form keys P f (two op (cell p) (cell q)) b h = of_cells keys P f op p q b h
by_form keys P f t b h = cc

-- a conjunct that bounds a key has its bound's truth, and does not overflow
truth_of_bound : (keys : KeyPlaces) (row : List Value) (t : Term) (b : Bound) → bound keys t ≡ Some b → truth_in row t ≡ Ok (bound_truth row b)
truth_of_bound keys row = by_form keys (λ t b. truth_in row t ≡ Ok (bound_truth row b)) record {
  literal = λ op p v h _. joined-compares op (Ok Unknown) (Ok Unknown) (cell_of row p) v h;
  turned_literal = λ op p v h _. joined-compares op (Ok Unknown) (Ok Unknown) v (cell_of row p) h ∙ ap Ok (compared-turned op v (cell_of row p));
  cells = λ p q _. refl;
  turned_cells = λ p q _. ap Ok (compared-turned Eq (cell_of row p) (cell_of row q));
}

-- one of the bounds is No in the row
abbrev pub SomeNo : List Value → List Bound → Type 0
SomeNo row [] = ⊥
SomeNo row (b ∷ bs) = (bound_truth row b ≡ No) ⊎ SomeNo row bs

all-no_step :
    (keys : KeyPlaces) (row : List Value) (t : Term) (ts : List Term) (o : Option Bound)
    → (SomeNo row (leading keys ts) → all_of row ts ≡ Ok No) → bound keys t ≡ o → SomeNo row (said o (leading keys ts))
    → and_of (truth_in row t) (all_of row ts) ≡ Ok No
all-no_step keys row t ts None rest e s = absurd s
all-no_step keys row t ts (Some b) rest e (inl n) = ap (λ r. and_of r (all_of row ts)) (truth_of_bound keys row t b e ∙ ap Ok n)
all-no_step keys row t ts (Some b) rest e (inr m) =
    ap (λ r. and_of r (all_of row ts)) (truth_of_bound keys row t b e)
    ∙ ap (and_of (Ok (bound_truth row b))) (rest m) ∙ and-no (bound_truth row b)

all-no : (keys : KeyPlaces) (row : List Value) (ts : List Term) → SomeNo row (leading keys ts) → all_of row ts ≡ Ok No
all-no keys row [] h = absurd h
all-no keys row (t ∷ ts) h = all-no_step keys row t ts (bound keys t) (λ m. all-no keys row ts m) refl h

-- a test of which a leading bound is No is No
pub test_no : (keys : KeyPlaces) (row : List Value) (t : Option Term) → SomeNo row (bounds_of keys t) → test_in row t ≡ Ok No
test_no keys row None h = absurd h
test_no keys row (Some t) h = all-conjuncts row t ∙ all-no keys row (conjuncts t) h
