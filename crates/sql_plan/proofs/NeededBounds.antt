-- The bounds of a test that was not refused are sound: one whose end lies beyond the key is No.
use Rattle.std.proofs.Common.{◌≡◌, ℕ, Bool, true, false, ◌&&◌, ◌==◌, nat_lt, if◌then◌else◌, List, [], ◌∷◌, ◌++◌, Option, Some, None, is_some, ℤ, FitsSigned, refl, sym, ◌∙◌, ap, subst, arith}
use Rattle.std.specs.Option.{option_map_or}
use Rattle.std.specs.declared.cmp.Ordering.{Ordering}
use Rattle.std.specs.declared.cmp.Ordering.TheVariants.{Less, Equal, Greater}
use Rattle.std.specs.Ordering.{is_lt, ordering_reverse}
use Rattle.std.specs.Int.{w64}
use Rattle.std.proofs.lemmas.Int.{ints}
use Rattle.std.proofs.lemmas.Bool.{eqb-true}
use Rattle.std.proofs.lemmas.Cmp.{nat_list_cmp_total}
use Rattle.sql_values.specs.declared.values.Value.{Value}
use Rattle.sql_values.specs.declared.values.Value.TheVariants as value
use Rattle.sql_values.specs.declared.logic.Truth.TheVariants.{No, Unknown}
use Rattle.sql_values.specs.Arithmetic.{fits_i64}
use Rattle.sql_values.specs.Order.{HaveOneSort, text_cmp}
use Rattle.row_codec.specs.Keys.{IsKey, key_bytes}
use Rattle.row_codec.proofs.KeyLaws.{ordered}
use Rattle.sql_statements.specs.declared.expressions.Op.{Op}
use Rattle.sql_statements.specs.declared.expressions.Op.TheVariants.{Or, And, Eq, Ne, Lt, Le, Gt, Ge, Add, Sub, Mul}
use Rattle.sql_meaning.specs.declared.fields.Field.{Field}
use Rattle.sql_meaning.specs.declared.kinds.Kind.{Kind}
use Rattle.sql_meaning.specs.declared.kinds.Kind.TheVariants.{Truth as truth_kind}
use Rattle.sql_meaning.specs.Evaluation.{cell_of, compared, holds, truth_of}
use Rattle.sql_meaning.specs.Kinds.{kind, value_kind, cell_kind, are_comparable, joined}
use Rattle.sql_meaning.specs.Ranges.{conjuncts, KeyPlaces, Bound, by_literal, by_cell, bounds, turned, can_bound, bound, said, leading, bounds_of, is_low, is_high, end_of, cell_bytes}
use Rattle.sql_meaning.specs.Sorts.{FitFields}
use Rattle.sql_meaning.specs.Terms.{Term, lit, cell, two}
use Rattle.sql_plan.proofs.NeededTests.{by_form, and_both}
use Rattle.sql_plan.proofs.NeededEnds.{IsSound, AreSound}
use Rattle.sql_plan.proofs.NeededRows.{IsOfKind, of_value, of_cell, have_one_sort, one_sort_turned}

-- the row in which a key is looked for: its cells fit the fields, its key is one, and where the left row's
-- cell gives a key's bytes they are those of the cell
pub record IsScene (fields : List Field) (keys : KeyPlaces) (key : ℕ) (left : Option (List Value)) (row : List Value) : Type 0 where
  pub cells : FitFields fields row
  pub key_is : IsKey (cell_of row key)
  pub left_keys : (q : ℕ) (e : List ℕ) → nat_lt q keys.width ≡ true → cell_bytes left q ≡ Some e → IsKey (cell_of row q)
  pub left_bytes : (q : ℕ) (e : List ℕ) → nat_lt q keys.width ≡ true → cell_bytes left q ≡ Some e → key_bytes (cell_of row q) ≡ e

abbrev pub HasKind : List Field → Term → Type 0
HasKind fields t = is_some (kind fields t) ≡ true

-- both sides of a comparison have kinds, and these can be compared
record AreCompared (a b : Option Kind) : Type 0 where
  one : Kind
  other : Kind
  one_is : a ≡ Some one
  other_is : b ≡ Some other
  comparable : are_comparable one other ≡ true

if_some : (c : Bool) (k : Kind) → is_some (if c then Some k else None) ≡ true → c ≡ true
if_some true k h = refl
if_some false k h = cc

compared_kinds : (op : Op) (a b : Kind) → bounds op ≡ true → is_some (joined op (Some a) (Some b)) ≡ true → are_comparable a b ≡ true
compared_kinds Eq a b o h = if_some (are_comparable a b) truth_kind h
compared_kinds Lt a b o h = if_some (are_comparable a b) truth_kind h
compared_kinds Le a b o h = if_some (are_comparable a b) truth_kind h
compared_kinds Gt a b o h = if_some (are_comparable a b) truth_kind h
compared_kinds Ge a b o h = if_some (are_comparable a b) truth_kind h
compared_kinds Ne a b o h = cc
compared_kinds Or a b o h = cc
compared_kinds And a b o h = cc
compared_kinds Add a b o h = cc
compared_kinds Sub a b o h = cc
compared_kinds Mul a b o h = cc

are_compared : (op : Op) (a b : Option Kind) → bounds op ≡ true → is_some (joined op a b) ≡ true → AreCompared a b
are_compared op None b o h = cc
are_compared op (Some a) None o h = cc
are_compared op (Some a) (Some b) o h =
    record { one = a; other = b; one_is = refl; other_is = refl; comparable = compared_kinds op a b o h }

of_literal : (v : Value) (k : Kind) → (let o : Option Kind = Some (value_kind v) in o) ≡ Some k → IsOfKind k v
of_literal v k h = let P : Kind → Type 0 = λ q. IsOfKind q v in let e : value_kind v ≡ k = cc in subst P e (of_value v)

-- a cell and a literal that are compared have one sort
cell_literal : (fields : List Field) (row : List Value) (op : Op) (p : ℕ) (v : Value) → FitFields fields row → bounds op ≡ true → HasKind fields (two op (cell p) (lit v)) → HaveOneSort (cell_of row p) v
cell_literal fields row op p v fit o h =
    let c : AreCompared (cell_kind fields p) (Some (value_kind v)) = are_compared op (cell_kind fields p) (Some (value_kind v)) o h in
    have_one_sort c.one c.other (cell_of row p) v (of_cell fields row p c.one fit c.one_is) (of_literal v c.other c.other_is) c.comparable

literal_cell : (fields : List Field) (row : List Value) (op : Op) (p : ℕ) (v : Value) → FitFields fields row → bounds op ≡ true → HasKind fields (two op (lit v) (cell p)) → HaveOneSort (cell_of row p) v
literal_cell fields row op p v fit o h =
    let c : AreCompared (Some (value_kind v)) (cell_kind fields p) = are_compared op (Some (value_kind v)) (cell_kind fields p) o h in
    one_sort_turned v (cell_of row p)
    (have_one_sort c.one c.other v (cell_of row p) (of_literal v c.one c.one_is) (of_cell fields row p c.other fit c.other_is) c.comparable)

cell_cell : (fields : List Field) (row : List Value) (p q : ℕ) → FitFields fields row → HasKind fields (two Eq (cell p) (cell q)) → HaveOneSort (cell_of row p) (cell_of row q)
cell_cell fields row p q fit h =
    let c : AreCompared (cell_kind fields p) (cell_kind fields q) = are_compared Eq (cell_kind fields p) (cell_kind fields q) refl h in
    have_one_sort c.one c.other (cell_of row p) (cell_of row q) (of_cell fields row p c.one fit c.one_is) (of_cell fields row q c.other fit c.other_is) c.comparable

int_fits : (z : ℤ) → fits_i64 z ≡ true → FitsSigned w64 z
int_fits z h = grind (arith, ints)

literal_is_key : (v : Value) → can_bound v ≡ true → IsKey v
literal_is_key value.Null h = cc
literal_is_key (value.Int n) h = int_fits n h
literal_is_key (value.Text t) h = tt

low-no : (op : Op) (o : Ordering) → is_low op ≡ true → is_lt o ≡ true → truth_of (holds op o) ≡ No
low-no Eq Less l h = refl
low-no Gt Less l h = refl
low-no Ge Less l h = refl
low-no Lt Less l h = cc
low-no Le Less l h = cc
low-no Ne Less l h = cc
low-no Or Less l h = cc
low-no And Less l h = cc
low-no Add Less l h = cc
low-no Sub Less l h = cc
low-no Mul Less l h = cc
low-no op Equal l h = cc
low-no op Greater l h = cc

high-no : (op : Op) (o : Ordering) → is_high op ≡ true → is_lt (ordering_reverse o) ≡ true → truth_of (holds op o) ≡ No
high-no Eq Greater l h = refl
high-no Lt Greater l h = refl
high-no Le Greater l h = refl
high-no Gt Greater l h = cc
high-no Ge Greater l h = cc
high-no Ne Greater l h = cc
high-no Or Greater l h = cc
high-no And Greater l h = cc
high-no Add Greater l h = cc
high-no Sub Greater l h = cc
high-no Mul Greater l h = cc
high-no op Equal l h = cc
high-no op Less l h = cc

-- keys are compared as their bytes are
compared_bytes : (op : Op) (a b : Value) → IsKey a → IsKey b → HaveOneSort a b → compared op a b ≡ truth_of (holds op (text_cmp (key_bytes a) (key_bytes b)))
compared_bytes op a b ka kb one = ap (λ (o : Option Ordering). option_map_or (λ q. truth_of (holds op q)) o Unknown) (ordered a b ka kb one)

below_low : (op : Op) (a b : Value) → IsKey a → IsKey b → HaveOneSort a b → is_low op ≡ true → is_lt (text_cmp (key_bytes a) (key_bytes b)) ≡ true → compared op a b ≡ No
below_low op a b ka kb one l h = compared_bytes op a b ka kb one ∙ low-no op (text_cmp (key_bytes a) (key_bytes b)) l h

above_high : (op : Op) (a b : Value) → IsKey a → IsKey b → HaveOneSort a b → is_high op ≡ true → is_lt (text_cmp (key_bytes b) (key_bytes a)) ≡ true → compared op a b ≡ No
above_high op a b ka kb one l h =
    compared_bytes op a b ka kb one
    ∙ high-no op (text_cmp (key_bytes a) (key_bytes b)) l (ap is_lt (sym (nat_list_cmp_total.antisymm (key_bytes b) (key_bytes a))) ∙ h)

-- what an end tells of a bound by a literal, and of one by a cell
record LiteralEnd (side : Op → Bool) (key p : ℕ) (op : Op) (v : Value) (e : List ℕ) : Type 0 where
  place : key ≡ p
  on_side : side op ≡ true
  bytes : key_bytes v ≡ e

literal_end : (side : Op → Bool) (key p : ℕ) (op : Op) (v : Value) (e : List ℕ) (left : Option (List Value)) → end_of side key left (by_literal p op v) ≡ Some e → LiteralEnd side key p op v e
literal_end side key p op v e left h = go ((key == p) && side op) refl h
  where
    go : (c : Bool) → ((key == p) && side op) ≡ c → (if c then Some (key_bytes v) else None) ≡ Some e → LiteralEnd side key p op v e
    go true is h = record {
      place = eqb-true key p (and_both (key == p) (side op) is).0;
      on_side = (and_both (key == p) (side op) is).1;
      bytes = cc;
    }
    go false is h = cc

record CellEnd (key p q : ℕ) (left : Option (List Value)) (e : List ℕ) : Type 0 where
  place : key ≡ p
  bytes : cell_bytes left q ≡ Some e

cell_end : (side : Op → Bool) (key p q : ℕ) (e : List ℕ) (left : Option (List Value)) → end_of side key left (by_cell p q) ≡ Some e → CellEnd key p q left e
cell_end side key p q e left h = go (key == p) refl h
  where
    go : (c : Bool) → (key == p) ≡ c → (if c then cell_bytes left q else None) ≡ Some e → CellEnd key p q left e
    go true is h = record { place = eqb-true key p is; bytes = h }
    go false is h = cc

sound_literal :
    (fields : List Field) (keys : KeyPlaces) (key : ℕ) (left : Option (List Value)) (row : List Value)
    → IsScene fields keys key left row → (op : Op) (p : ℕ) (v : Value) → IsKey v → HaveOneSort (cell_of row p) v
    → IsSound (key_bytes (cell_of row key)) key left row (by_literal p op v)
sound_literal fields keys key left row scene op p v is_key one = record {
  low = λ e h lt.
      let end_is : LiteralEnd is_low key p op v e = literal_end is_low key p op v e left h in
      below_low op (cell_of row p) v (at_place p end_is.place) is_key one end_is.on_side
      (ap (λ q. is_lt (text_cmp (key_bytes (cell_of row q)) (key_bytes v))) (sym end_is.place)
      ∙ ap (λ b. is_lt (text_cmp (key_bytes (cell_of row key)) b)) end_is.bytes ∙ lt);
  high = λ e h lt.
      let end_is : LiteralEnd is_high key p op v e = literal_end is_high key p op v e left h in
      above_high op (cell_of row p) v (at_place p end_is.place) is_key one end_is.on_side
      (ap (λ q. is_lt (text_cmp (key_bytes v) (key_bytes (cell_of row q)))) (sym end_is.place)
      ∙ ap (λ b. is_lt (text_cmp b (key_bytes (cell_of row key)))) end_is.bytes ∙ lt);
}
  where
    at_place : (p : ℕ) → key ≡ p → IsKey (cell_of row p)
    at_place p e = let P : ℕ → Type 0 = λ q. IsKey (cell_of row q) in subst P e scene.key_is

sound_cell :
    (fields : List Field) (keys : KeyPlaces) (key : ℕ) (left : Option (List Value)) (row : List Value)
    → IsScene fields keys key left row → (p q : ℕ) → nat_lt q keys.width ≡ true → HaveOneSort (cell_of row p) (cell_of row q)
    → IsSound (key_bytes (cell_of row key)) key left row (by_cell p q)
sound_cell fields keys key left row scene p q inside one = record {
  low = λ e h lt.
      let end_is : CellEnd key p q left e = cell_end is_low key p q e left h in
      below_low Eq (cell_of row p) (cell_of row q) (at_place p end_is.place) (scene.left_keys q e inside end_is.bytes) one refl
      (ap (λ r. is_lt (text_cmp (key_bytes (cell_of row r)) (key_bytes (cell_of row q)))) (sym end_is.place)
      ∙ ap (λ b. is_lt (text_cmp (key_bytes (cell_of row key)) b)) (scene.left_bytes q e inside end_is.bytes) ∙ lt);
  high = λ e h lt.
      let end_is : CellEnd key p q left e = cell_end is_high key p q e left h in
      above_high Eq (cell_of row p) (cell_of row q) (at_place p end_is.place) (scene.left_keys q e inside end_is.bytes) one refl
      (ap (λ r. is_lt (text_cmp (key_bytes (cell_of row q)) (key_bytes (cell_of row r)))) (sym end_is.place)
      ∙ ap (λ b. is_lt (text_cmp b (key_bytes (cell_of row key)))) (scene.left_bytes q e inside end_is.bytes) ∙ lt);
}
  where
    at_place : (p : ℕ) → key ≡ p → IsKey (cell_of row p)
    at_place p e = let P : ℕ → Type 0 = λ q. IsKey (cell_of row q) in subst P e scene.key_is

-- a conjunct with a kind gives a sound bound
sound :
    (fields : List Field) (keys : KeyPlaces) (key : ℕ) (left : Option (List Value)) (row : List Value)
    → IsScene fields keys key left row → (t : Term) (b : Bound) → bound keys t ≡ Some b → HasKind fields t
    → IsSound (key_bytes (cell_of row key)) key left row b
sound fields keys key left row scene = by_form keys (λ t b. HasKind fields t → IsSound (key_bytes (cell_of row key)) key left row b) record {
  literal = λ op p v o c h.
      sound_literal fields keys key left row scene op p v (literal_is_key v c) (cell_literal fields row op p v scene.cells o h);
  turned_literal = λ op p v o c h.
      sound_literal fields keys key left row scene (turned op) p v (literal_is_key v c) (literal_cell fields row op p v scene.cells o h);
  cells = λ p q inside h.
      sound_cell fields keys key left row scene p q inside (cell_cell fields row p q scene.cells h);
  turned_cells = λ p q inside h.
      sound_cell fields keys key left row scene q p inside (one_sort_turned (cell_of row p) (cell_of row q) (cell_cell fields row p q scene.cells h));
}

abbrev HaveKinds : List Field → List Term → Type 0
HaveKinds fields [] = Unit {0}
HaveKinds fields (t ∷ ts) = HasKind fields t × HaveKinds fields ts

kinds-append : (fields : List Field) (xs ys : List Term) → HaveKinds fields xs → HaveKinds fields ys → HaveKinds fields (xs ++ ys)
kinds-append fields [] ys h i = i
kinds-append fields (x ∷ xs) ys h i = (h.0, kinds-append fields xs ys h.1 i)

both_kinds : (op : Op) (a b : Option Kind) → is_some (joined op a b) ≡ true → (is_some a ≡ true) × (is_some b ≡ true)
both_kinds op None b h = cc
both_kinds op (Some a) None h = cc
both_kinds op (Some a) (Some b) h = (refl, refl)

-- where a test has a kind, each of its conjuncts has one
kinds_of : (fields : List Field) (t : Term) → HasKind fields t → HaveKinds fields (conjuncts t)
kinds_of fields (two And x y) h =
    kinds-append fields (conjuncts x) (conjuncts y)
    (kinds_of fields x (both_kinds And (kind fields x) (kind fields y) h).0)
    (kinds_of fields y (both_kinds And (kind fields x) (kind fields y) h).1)
kinds_of fields t h = (h, tt)

all-sound_step :
    (fields : List Field) (keys : KeyPlaces) (key : ℕ) (left : Option (List Value)) (row : List Value)
    → IsScene fields keys key left row → (t : Term) (ts : List Term) (o : Option Bound)
    → AreSound (key_bytes (cell_of row key)) key left row (leading keys ts) → bound keys t ≡ o → HasKind fields t
    → AreSound (key_bytes (cell_of row key)) key left row (said o (leading keys ts))
all-sound_step fields keys key left row scene t ts None rest e h = tt
all-sound_step fields keys key left row scene t ts (Some b) rest e h = (sound fields keys key left row scene t b e h, rest)

all-sound :
    (fields : List Field) (keys : KeyPlaces) (key : ℕ) (left : Option (List Value)) (row : List Value)
    → IsScene fields keys key left row → (ts : List Term) → HaveKinds fields ts
    → AreSound (key_bytes (cell_of row key)) key left row (leading keys ts)
all-sound fields keys key left row scene [] h = tt
all-sound fields keys key left row scene (t ∷ ts) h =
    all-sound_step fields keys key left row scene t ts (bound keys t) (all-sound fields keys key left row scene ts h.1) refl h.0

abbrev pub TestHasKind : List Field → Option Term → Type 0
TestHasKind fields None = Unit {0}
TestHasKind fields (Some t) = HasKind fields t

-- the bounds of a test that has a kind are sound
pub bounds_are_sound :
    (fields : List Field) (keys : KeyPlaces) (key : ℕ) (left : Option (List Value)) (row : List Value)
    → IsScene fields keys key left row → (test : Option Term) → TestHasKind fields test
    → AreSound (key_bytes (cell_of row key)) key left row (bounds_of keys test)
bounds_are_sound fields keys key left row scene None h = tt
bounds_are_sound fields keys key left row scene (Some t) h = all-sound fields keys key left row scene (conjuncts t) (kinds_of fields t h)
