-- Classes are told apart by their numbers.
use Rattle.std.proofs.Common.{◌≡◌, ◌↔◌, ℕ, Bool, true, false, List, [], ◌∷◌, Some, IsTrue, refl, sym, ◌∙◌, ap, eq-eqb}
use Rattle.std.specs.List.{slice_get}
use Rattle.std.proofs.lemmas.Bool.{eqb-true}
use Rattle.sql_words.specs.declared.reserved.Word.TheVariants as w
use Rattle.sql_words.specs.declared.signs.Sign.TheVariants as s
use Rattle.sql_words.specs.declared.tokens.Class.{Class}
use Rattle.sql_words.specs.declared.tokens.Class.TheVariants as c
use Rattle.sql_words.specs.Lexed.{Lexed}
use Rattle.sql_front.specs.Symbols.{class_code, same_class, class_of, symbol_by, symbol_of}

abbrev classes : List Class
classes = c.Name ∷ c.Number ∷ c.Text ∷ c.Sign s.Open ∷ c.Sign s.Close ∷ c.Sign s.Comma ∷ c.Sign s.Dot ∷ c.Sign s.Semicolon ∷ c.Sign s.Star ∷ c.Sign s.Plus ∷ c.Sign s.Minus ∷ c.Sign s.Eq ∷ c.Sign s.Ne ∷ c.Sign s.Lt ∷ c.Sign s.Le ∷ c.Sign s.Gt ∷ c.Sign s.Ge ∷ c.Reserved w.And ∷ c.Reserved w.Asc ∷ c.Reserved w.Begin ∷ c.Reserved w.By ∷ c.Reserved w.Commit ∷ c.Reserved w.Count ∷ c.Reserved w.Create ∷ c.Reserved w.Delete ∷ c.Reserved w.Desc ∷ c.Reserved w.From ∷ c.Reserved w.Insert ∷ c.Reserved w.Int ∷ c.Reserved w.Into ∷ c.Reserved w.Is ∷ c.Reserved w.Join ∷ c.Reserved w.Key ∷ c.Reserved w.Limit ∷ c.Reserved w.Max ∷ c.Reserved w.Min ∷ c.Reserved w.Not ∷ c.Reserved w.Null ∷ c.Reserved w.On ∷ c.Reserved w.Or ∷ c.Reserved w.Order ∷ c.Reserved w.Primary ∷ c.Reserved w.Rollback ∷ c.Reserved w.Select ∷ c.Reserved w.Set ∷ c.Reserved w.Sum ∷ c.Reserved w.Table ∷ c.Reserved w.Text ∷ c.Reserved w.Update ∷ c.Reserved w.Values ∷ c.Reserved w.Where ∷ []

found : (a : Class) → slice_get classes (class_code a) ≡ Some a
found c.Name = refl
found c.Number = refl
found c.Text = refl
found (c.Sign s.Open) = refl
found (c.Sign s.Close) = refl
found (c.Sign s.Comma) = refl
found (c.Sign s.Dot) = refl
found (c.Sign s.Semicolon) = refl
found (c.Sign s.Star) = refl
found (c.Sign s.Plus) = refl
found (c.Sign s.Minus) = refl
found (c.Sign s.Eq) = refl
found (c.Sign s.Ne) = refl
found (c.Sign s.Lt) = refl
found (c.Sign s.Le) = refl
found (c.Sign s.Gt) = refl
found (c.Sign s.Ge) = refl
found (c.Reserved w.And) = refl
found (c.Reserved w.Asc) = refl
found (c.Reserved w.Begin) = refl
found (c.Reserved w.By) = refl
found (c.Reserved w.Commit) = refl
found (c.Reserved w.Count) = refl
found (c.Reserved w.Create) = refl
found (c.Reserved w.Delete) = refl
found (c.Reserved w.Desc) = refl
found (c.Reserved w.From) = refl
found (c.Reserved w.Insert) = refl
found (c.Reserved w.Int) = refl
found (c.Reserved w.Into) = refl
found (c.Reserved w.Is) = refl
found (c.Reserved w.Join) = refl
found (c.Reserved w.Key) = refl
found (c.Reserved w.Limit) = refl
found (c.Reserved w.Max) = refl
found (c.Reserved w.Min) = refl
found (c.Reserved w.Not) = refl
found (c.Reserved w.Null) = refl
found (c.Reserved w.On) = refl
found (c.Reserved w.Or) = refl
found (c.Reserved w.Order) = refl
found (c.Reserved w.Primary) = refl
found (c.Reserved w.Rollback) = refl
found (c.Reserved w.Select) = refl
found (c.Reserved w.Set) = refl
found (c.Reserved w.Sum) = refl
found (c.Reserved w.Table) = refl
found (c.Reserved w.Text) = refl
found (c.Reserved w.Update) = refl
found (c.Reserved w.Values) = refl
found (c.Reserved w.Where) = refl

inside : {a b : Class} → Some a ≡ Some b → a ≡ b
inside h = cc

one_code : (a b : Class) → class_code a ≡ class_code b → a ≡ b
one_code a b h = inside (sym (found a) ∙ ap (slice_get classes) h ∙ found b)

pub same_class-true : (a b : Class) → same_class a b ≡ true → a ≡ b
unfolding same_class
same_class-true a b h = one_code a b (eqb-true (class_code a) (class_code b) h)

pub same_class-refl : (a : Class) → same_class a a ≡ true
unfolding same_class
same_class-refl a = eq-eqb (class_code a) (class_code a) refl

-- the test is true exactly where the classes are equal
pub same_if : (r : Bool) (a b : Class) → (IsTrue r ↔ (a ≡ b)) → r ≡ same_class a b
same_if true a b h = sym (ap (same_class a) (sym (h.0 refl)) ∙ same_class-refl a)
same_if false a b h = by_test (same_class a b) refl (λ e. let f : ◌≡◌ {A = Bool} false true = h.1 e in absurd cc) where
  by_test : (t : Bool) → same_class a b ≡ t → (a ≡ b → ⊥) → false ≡ same_class a b
  by_test true e differ = absurd (differ (same_class-true a b e))
  by_test false e differ = sym e

pub class_of_symbol : (t : Lexed) → class_of (symbol_of t) ≡ t.class
class_of_symbol t = by_class t.class t.text where
  by_class : (a : Class) (bytes : List ℕ) → class_of (symbol_by a bytes) ≡ a
  by_class (c.Reserved x) bytes = refl
  by_class c.Name bytes = refl
  by_class c.Number bytes = refl
  by_class c.Text bytes = refl
  by_class (c.Sign x) bytes = refl

pub same_class-false : (a b : Class) → (a ≡ b → ⊥) → same_class a b ≡ false
same_class-false a b h = by_test (same_class a b) refl where
  by_test : (t : Bool) → same_class a b ≡ t → same_class a b ≡ false
  by_test true e = absurd (h (same_class-true a b e))
  by_test false e = e
