-- Statements are read by their rules.
use Rattle.std.proofs.Common.{◌≡◌, ℕ, zero, suc, ◌<◌, ◌≤◌, ◌^◌, ◌⊎◌, inl, inr, Bool, true, false, cond, List, [], ◌∷◌, Some, None, Ok, Err, refl, sym, ◌∙◌, ap, subst, arith}
use Rattle.std.proofs.lemmas.Bool.{lt-ltb}
use Rattle.std.specs.Prelude.{ℤ, pos}
use Rattle.sql_values.specs.declared.values.Sort.TheVariants as sort
use Rattle.sql_words.specs.declared.reserved.Word.TheVariants as w
use Rattle.sql_words.specs.declared.signs.Sign.TheVariants as s
use Rattle.sql_words.specs.declared.tokens.Class.{Class}
use Rattle.sql_words.specs.declared.tokens.Class.TheVariants as c
use Rattle.sql_front.specs.declared.definitions.Definition.{Definition}
use Rattle.sql_statements.specs.declared.expressions.Expr.{Expr}
use Rattle.sql_statements.specs.declared.statements.SetItem.{SetItem}
use Rattle.sql_statements.specs.declared.statements.Stmt.TheVariants as stmt
use Rattle.sql_front.specs.Conditions.{is_new_column, is_keyless, has_key, schema, is_new, is_new_set}
use Rattle.sql_front.specs.Grammar as g
use Rattle.sql_front.specs.Input.{Reader, and_then, pure, expect_if, any_name, name_if, named, small_number, numbered, listed}
use Rattle.sql_front.specs.ReadExpr.{goes_on, expression, column, is_end}
use Rattle.sql_front.specs.ReadExpr as e
use Rattle.sql_front.specs.ReadStmt as r
use Rattle.sql_front.specs.Rules.{a_name, a_name_if, a_small_number}
use Rattle.sql_front.specs.Symbols.{Symbol, word, sign, name, number, Input, class_of, same_class, sees, behind}
use Rattle.sql_front.proofs.Commas.{follows_list}
use Rattle.sql_front.proofs.Exact.{sees_same}
use Rattle.sql_front.proofs.ExprFollows.{goes_on-none, Starter, EndsExpr, follows_expression}
use Rattle.sql_front.proofs.Follows.{sees_it, Follows, Starting, starting_heading, Among, Next, First, Anything, heading, heading_all, follows_pure, follows_both, follows_the_if, follows_the, follows_eat, follows_one, follows_choice}
use Rattle.sql_front.proofs.SymbolFacts.{word_is, sign_is, good_any_name, good_name_if, good_small_number}

-- ---- what comes next

-- all of these symbols
abbrev pub AllOf : (Symbol → Type 0) → List Symbol → Type 0
AllOf G [] = Unit {0}
AllOf G (x ∷ xs) = G x × AllOf G xs

among_all : (G : Symbol → Type 0) (ss : List Symbol) → AllOf G ss → (x : Symbol) → Among ss x → G x
among_all G [] a x h = absurd h
among_all G (y ∷ ss) a x (inl e) = subst G (sym e) a.0
among_all G (y ∷ ss) a x (inr h) = among_all G ss a.1 x h

pub next_ends : (ss : List Symbol) → AllOf (λ x. (i : Input) → goes_on (x ∷ i) ≡ false) ss → (i : Input) → Next ss i → EndsExpr i
next_ends ss a i h = heading {F = Among ss} EndsExpr goes_on-none (λ x j m. among_all (λ y. (j : Input) → goes_on (y ∷ j) ≡ false) ss a x m j) i h

pub next_sees : (k : Class) (ss : List Symbol) → AllOf (λ x. same_class k (class_of x) ≡ false) ss → (i : Input) → Next ss i → sees k i ≡ false
unfolding sees
next_sees k ss a i h = heading {F = Among ss} (λ j. sees k j ≡ false) refl (λ x j m. among_all (λ y. same_class k (class_of y) ≡ false) ss a x m) i h

pub next_more : (x : Symbol) (ss : List Symbol) (i : Input) → Next ss i → Next (x ∷ ss) i
next_more x ss i h = heading_all {F = Among ss} {G = Among (x ∷ ss)} (λ y m. inr m) i h

pub first_sees : (k : Class) (ss : List Symbol) → AllOf (λ x. same_class k (class_of x) ≡ false) ss → (i : Input) → First ss i → sees k i ≡ false
first_sees k ss a i h = next_sees k ss a i (starting_heading (Among ss) i h)

pub first_more : (x : Symbol) (ss : List Symbol) (i : Input) → First ss i → First (x ∷ ss) i
first_more x ss [] h = absurd h
first_more x ss (y ∷ i) h = inr h

-- ---- names and numbers

pub data IsName : Symbol → Type 0 where
  is_name : {n : List ℕ} → IsName (name n)

abbrev pub Named : Input → Type 0
Named = Starting IsName

pub follows_name : Follows a_name any_name Named Anything
unfolding any_name named
follows_name = follows_one IsName good_any_name (name [] ∷ [], [], refl) (λ k p x m. (name x, m, is_name, inl (λ r. refl)))

pub follows_name_if : (allowed : List ℕ → Bool) → Follows (a_name_if allowed) (name_if allowed) Named Anything
unfolding name_if named
follows_name_if allowed = follows_one IsName (good_name_if allowed) (name [] ∷ [], [], (refl, λ h. absurd (omega arith)))
    (λ k p x m. (name x, m.0, is_name, by_test k x m.1 (allowed x) refl))
  where
    none : (k : ℕ) (x : List ℕ) → (0 < k → allowed x ≡ true) → allowed x ≡ false → k ≤ 0
    none zero x f e = omega arith
    none (suc k) x f e = absurd (apart e (f (omega arith))) where
      apart : allowed x ≡ false → allowed x ≡ true → ⊥
      apart a b = cc

    by_test : (k : ℕ) (x : List ℕ) → (0 < k → allowed x ≡ true) → (b : Bool) → allowed x ≡ b
        → (((r : Input) → name_if allowed (name x ∷ r) ≡ Ok (x, r)) ⊎ ((k ≤ 0) × ((r : Input) → name_if allowed (name x ∷ r) ≡ Err (name x ∷ r))))
    by_test k x f true e = inl (λ r. ap (λ b. cond {A = Reader (List ℕ)} b (λ i. Ok (x, behind i)) (λ i. Err i) (name x ∷ r)) e)
    by_test k x f false e = inr (none k x f e, λ r. ap (λ b. cond {A = Reader (List ℕ)} b (λ i. Ok (x, behind i)) (λ i. Err i) (name x ∷ r)) e)

pub data IsNumber : Symbol → Type 0 where
  is_number : {n : ℕ} → IsNumber (number n)

pub follows_small_number : Follows a_small_number small_number (Starting IsNumber) Anything
unfolding small_number numbered
follows_small_number = follows_one IsNumber good_small_number (number 0 ∷ [], pos 0, (0, refl, omega arith, refl))
    (λ k p x m. (number m.0, m.1, is_number, inl (λ r. below m.0 x r m.2 m.3)))
  where
    below : (n : ℕ) (x : ℤ) (r : Input) → n < 2 ^ 63 → x ≡ pos n → small_number (number n ∷ r) ≡ Ok (x, r)
    below n x r h e = ap (λ b. cond {A = Reader ℤ} b (λ j. Ok (pos n, behind j)) (λ j. Err j) (number n ∷ r)) (lt-ltb n 9223372036854775808 h) ∙ ap (λ z. Ok (z, r)) (sym e)

-- ---- CREATE

follows_sort : Follows g.a_sort r.sort_word (First (word w.Text ∷ word w.Int ∷ [])) Anything
unfolding r.sort_word same_class
follows_sort = follows_eat (λ b. cond b (pure sort.Text) (λ i. and_then (expect_if true (c.Reserved w.Int) i) (λ _. pure sort.Int))) (word w.Text) (word_is w.Text)
    (follows_pure sort.Text Anything)
    (follows_both (follows_the (word w.Int) (word_is w.Int)) (λ x. follows_pure sort.Int Anything) (λ i h. tt))
    (λ i h. first_sees (c.Reserved w.Text) (word w.Int ∷ []) (refl, tt) i h)
    (λ i. inl refl)
    (λ i h. first_more (word w.Text) (word w.Int ∷ []) i h)

-- ---- symbols that come first

pub first_is : (t : Symbol) (i : Input) → First (t ∷ []) i → sees (class_of t) i ≡ true
first_is t [] h = absurd h
first_is t (x ∷ i) (inl e) = ap (λ z. sees (class_of t) (z ∷ i)) e ∙ sees_it t i
first_is t (x ∷ i) (inr h) = absurd h

-- what may stand behind parts of statements
abbrev pub Ended : Input → Type 0
Ended = Next []

abbrev pub semicolon : List Symbol
semicolon = sign s.Semicolon ∷ []

abbrev pub closed : List Symbol
closed = sign s.Close ∷ []

abbrev pub ordered : List Symbol
ordered = word w.Order ∷ word w.Limit ∷ semicolon

pub close_ends : (i : Input) → First closed i → EndsExpr i
unfolding goes_on e.operator e.comparison sees same_class
close_ends i h = next_ends closed (λ j. refl, tt) i (starting_heading (Among closed) i h)

pub close_no_comma : (i : Input) → First closed i → sees (c.Sign s.Comma) i ≡ false
unfolding same_class
close_no_comma i h = first_sees (c.Sign s.Comma) closed (refl, tt) i h

pub comma_ends : (i : Input) → EndsExpr (sign s.Comma ∷ i)
unfolding goes_on e.operator e.comparison sees same_class
comma_ends i = refl

-- ---- CREATE, behind its sorts

follows_key_mark : (allowed : Bool) → Follows (g.a_key_mark allowed) (r.key_mark allowed) (Next (word w.Primary ∷ sign s.Comma ∷ closed)) (Next (sign s.Comma ∷ closed))
unfolding r.key_mark same_class
follows_key_mark allowed = follows_choice (sees (c.Reserved w.Primary)) (sees_same (c.Reserved w.Primary))
    (λ i. and_then (expect_if allowed (c.Reserved w.Primary) i) (λ _. λ j. and_then (expect_if true (c.Reserved w.Key) j) (λ _. pure true))) (pure false)
    (follows_both (follows_the_if allowed (word w.Primary) (word_is w.Primary)) (λ x. follows_both (follows_the (word w.Key) (word_is w.Key)) (λ y. follows_pure true (Next (sign s.Comma ∷ closed))) (λ i h. tt)) (λ i h. tt))
    (follows_pure false (Next (sign s.Comma ∷ closed)))
    (λ i h. first_is (word w.Primary) i h)
    (λ i h. next_sees (c.Reserved w.Primary) (sign s.Comma ∷ closed) (refl, (refl, tt)) i h)
    (λ i h. starting_heading (Among (word w.Primary ∷ sign s.Comma ∷ closed)) i (first_within (word w.Primary) (sign s.Comma ∷ closed) i h))
    (λ i h. next_more (word w.Primary) (sign s.Comma ∷ closed) i h)
  where
    first_within : (t : Symbol) (ss : List Symbol) (i : Input) → First (t ∷ []) i → First (t ∷ ss) i
    first_within t ss [] h = absurd h
    first_within t ss (x ∷ i) (inl e) = inl e
    first_within t ss (x ∷ i) (inr h) = absurd h

follows_definition : (before : List Definition) → Follows (g.a_definition before) (r.definition before) Named (Next (sign s.Comma ∷ closed))
unfolding r.definition
follows_definition before =
    follows_both (follows_name_if (is_new_column before))
    (λ n. follows_both follows_sort
    (λ t. follows_both (follows_key_mark (is_keyless before))
    (λ k. follows_pure (record { column = record { name = n; sort = t }; is_key = k }) (Next (sign s.Comma ∷ closed)))
    (λ i h. h))
    (λ i h. tt))
    (λ i h. tt)

pub follows_create : Follows g.a_create r.create (First (word w.Table ∷ [])) Anything
unfolding r.create
follows_create =
    follows_both (follows_the (word w.Table) (word_is w.Table))
    (λ _. follows_both follows_name
    (λ table. follows_both (follows_the (sign s.Open) (sign_is s.Open))
    (λ _. follows_both (follows_list g.a_definition r.definition follows_definition {U = First closed} (λ i h. next_more (sign s.Comma) closed i (starting_heading (Among closed) i h)) close_no_comma (λ i. inl refl))
    (λ columns. follows_both (follows_the_if (has_key columns) (sign s.Close) (sign_is s.Close)) (λ _. follows_pure (stmt.Create (schema table columns)) Anything) (λ i h. tt))
    (λ i h. h))
    (λ i h. tt))
    (λ i h. tt))
    (λ i h. tt)

-- ---- INSERT

follows_new_name : (before : List (List ℕ)) → Follows (g.a_new_name before) (r.new_name before) Named Anything
unfolding r.new_name
follows_new_name before = follows_name_if (is_new before)

follows_named_columns : Follows g.named_columns r.named_columns (First (sign s.Open ∷ word w.Values ∷ [])) (First (word w.Values ∷ []))
unfolding r.named_columns same_class
follows_named_columns = follows_eat
    (λ b. cond b (λ i. and_then (listed r.new_name i) (λ names. λ j. and_then (expect_if true (c.Sign s.Close) j) (λ _. pure (Some names)))) (pure None))
    (sign s.Open) (sign_is s.Open)
    (follows_both (follows_list g.a_new_name r.new_name follows_new_name {U = First closed} (λ i h. tt) close_no_comma (λ i. tt))
    (λ names. follows_both (follows_the (sign s.Close) (sign_is s.Close)) (λ _. follows_pure (Some names) (First (word w.Values ∷ []))) (λ i h. tt))
    (λ i h. h))
    (follows_pure None (First (word w.Values ∷ [])))
    (λ i h. first_sees (c.Sign s.Open) (word w.Values ∷ []) (refl, tt) i h)
    (λ i. inl refl)
    (λ i h. first_more (sign s.Open) (word w.Values ∷ []) i h)

pub follows_value : (before : List Expr) → Follows (g.a_value before) (r.value before) (Starting Starter) EndsExpr
unfolding r.value
follows_value before = follows_expression

follows_tuple : (before : List (List Expr)) → Follows (g.a_tuple before) (r.tuple before) (First (sign s.Open ∷ [])) Anything
unfolding r.tuple
follows_tuple before =
    follows_both (follows_the (sign s.Open) (sign_is s.Open))
    (λ _. follows_both (follows_list g.a_value r.value follows_value {U = First closed} close_ends close_no_comma comma_ends)
    (λ values. follows_both (follows_the (sign s.Close) (sign_is s.Close)) (λ _. follows_pure values Anything) (λ i h. tt))
    (λ i h. h))
    (λ i h. tt)

pub follows_insert : Follows g.an_insert r.insert (First (word w.Into ∷ [])) (Next semicolon)
unfolding r.insert same_class
follows_insert =
    follows_both (follows_the (word w.Into) (word_is w.Into))
    (λ _. follows_both follows_name
    (λ table. follows_both follows_named_columns
    (λ columns. follows_both (follows_the (word w.Values) (word_is w.Values))
    (λ _. follows_both (follows_list g.a_tuple r.tuple follows_tuple {U = Next semicolon} (λ i h. tt) (next_sees (c.Sign s.Comma) semicolon (refl, tt)) (λ i. tt))
    (λ rows. follows_pure (stmt.Insert table columns rows) (Next semicolon))
    (λ i h. h))
    (λ i h. tt))
    (λ i h. h))
    (λ i h. tt))
    (λ i h. tt)

-- ---- UPDATE and DELETE

follows_set_item : (before : List SetItem) → Follows (g.a_set_item before) (r.set_item before) Named EndsExpr
unfolding r.set_item
follows_set_item before =
    follows_both (follows_name_if (is_new_set before))
    (λ n. follows_both (follows_the (sign s.Eq) (sign_is s.Eq))
    (λ _. follows_both follows_expression (λ v. follows_pure (record { name = n; value = v }) EndsExpr) (λ i h. h))
    (λ i h. tt))
    (λ i h. tt)

pub ordered_ends : (i : Input) → Next ordered i → EndsExpr i
unfolding goes_on e.operator e.comparison sees same_class
ordered_ends i h = next_ends ordered (λ j. refl, (λ j. refl, (λ j. refl, tt))) i h

pub follows_condition : Follows g.a_condition r.condition (Next (word w.Where ∷ ordered)) (Next ordered)
unfolding r.condition same_class
follows_condition = follows_eat
    (λ b. cond b (λ i. and_then (expression i) (λ test. pure (Some test))) (pure None))
    (word w.Where) (word_is w.Where)
    (follows_both follows_expression (λ test. follows_pure (Some test) (Next ordered)) ordered_ends)
    (follows_pure None (Next ordered))
    (next_sees (c.Reserved w.Where) ordered (refl, (refl, (refl, tt))))
    (λ i. inl refl)
    (next_more (word w.Where) ordered)

pub semicolon_ordered : (i : Input) → Next semicolon i → Next ordered i
semicolon_ordered i h = next_more (word w.Order) (word w.Limit ∷ semicolon) i (next_more (word w.Limit) semicolon i h)

set_ends : (i : Input) → Next (word w.Where ∷ ordered) i → EndsExpr i
unfolding goes_on e.operator e.comparison sees same_class
set_ends i h = next_ends (word w.Where ∷ ordered) (λ j. refl, (λ j. refl, (λ j. refl, (λ j. refl, tt)))) i h

set_no_comma : (i : Input) → Next (word w.Where ∷ ordered) i → sees (c.Sign s.Comma) i ≡ false
unfolding same_class
set_no_comma i h = next_sees (c.Sign s.Comma) (word w.Where ∷ ordered) (refl, (refl, (refl, (refl, tt)))) i h

pub follows_update : Follows g.an_update r.update Named (Next semicolon)
unfolding r.update
follows_update =
    follows_both follows_name
    (λ table. follows_both (follows_the (word w.Set) (word_is w.Set))
    (λ _. follows_both (follows_list g.a_set_item r.set_item follows_set_item {U = Next (word w.Where ∷ ordered)} set_ends set_no_comma comma_ends)
    (λ sets. follows_both follows_condition (λ test. follows_pure (stmt.Update table sets test) (Next semicolon)) semicolon_ordered)
    (λ i h. h))
    (λ i h. tt))
    (λ i h. tt)

pub follows_delete : Follows g.a_delete r.delete (First (word w.From ∷ [])) (Next semicolon)
unfolding r.delete
follows_delete =
    follows_both (follows_the (word w.From) (word_is w.From))
    (λ _. follows_both follows_name
    (λ table. follows_both follows_condition (λ test. follows_pure (stmt.Delete table test) (Next semicolon)) semicolon_ordered)
    (λ i h. tt))
    (λ i h. tt)
