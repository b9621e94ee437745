-- SELECT is read by its rules.
use Rattle.std.proofs.Common.{◌≡◌, ℕ, inl, inr, ◌||◌, true, false, cond, List, [], ◌∷◌, Option, Some, None, refl, ◌∙◌, ap}
use Rattle.std.specs.Prelude.{ℤ}
use Rattle.sql_words.specs.declared.reserved.Word.{Word}
use Rattle.sql_words.specs.declared.reserved.Word.TheVariants as w
use Rattle.sql_words.specs.declared.signs.Sign.TheVariants as s
use Rattle.sql_words.specs.declared.tokens.Class.{Class}
use Rattle.sql_words.specs.declared.tokens.Class.TheVariants as c
use Rattle.sql_statements.specs.declared.expressions.Expr.{Expr}
use Rattle.sql_statements.specs.declared.statements.Agg.{Agg}
use Rattle.sql_statements.specs.declared.statements.Agg.TheVariants as agg
use Rattle.sql_statements.specs.declared.statements.Selected.{Selected}
use Rattle.sql_statements.specs.declared.statements.Selected.TheVariants as selected
use Rattle.sql_statements.specs.declared.statements.OrderKey.{OrderKey}
use Rattle.sql_statements.specs.declared.statements.Stmt.TheVariants as stmt
use Rattle.sql_front.specs.Conditions.{is_other}
use Rattle.sql_front.specs.Grammar as g
use Rattle.sql_front.specs.Input.{Reader, and_then, pure, expect_if, eat, any_name, name_if, small_number, listed}
use Rattle.sql_front.specs.ReadExpr.{goes_on, expression, column}
use Rattle.sql_front.specs.ReadExpr as e
use Rattle.sql_front.specs.ReadStmt as r
use Rattle.sql_front.specs.Rules.{nothing, the, a_list, Both, ◌or◌}
use Rattle.sql_front.specs.Symbols.{Symbol, word, sign, Input, class_of, same_class, sees}
use Rattle.sql_front.proofs.Commas.{follows_list}
use Rattle.sql_front.proofs.Exact.{SameHead, sees_same}
use Rattle.sql_front.proofs.ExprFollows.{Starter, not_word, null_word, minus_sign, open_sign, its_name, its_number, its_text, EndsExpr, follows_expression}
use Rattle.sql_front.proofs.Follows.{Follows, Starting, starting_heading, Among, Next, First, Anything, follows_within, follows_pure, follows_both, follows_the, follows_eat, follows_choice}
use Rattle.sql_front.proofs.StmtFollows.{next_ends, next_sees, next_more, first_sees, first_more, Named, follows_name, follows_name_if, follows_small_number, semicolon, ordered, close_ends, comma_ends, follows_value, follows_condition}
use Rattle.sql_front.proofs.SymbolFacts.{word_is, sign_is}

-- ---- aggregates

-- an expression begins with no such symbol
starts_no : (k : Class) → (has_no : (x : Symbol) → Starter x → same_class k (class_of x) ≡ false) → (i : Input) → Starting Starter i → sees k i ≡ false
unfolding sees
starts_no k f [] h = absurd h
starts_no k f (x ∷ i) h = f x h

no_star : {x : Symbol} → Starter x → same_class (c.Sign s.Star) (class_of x) ≡ false
unfolding same_class
no_star not_word = refl
no_star null_word = refl
no_star minus_sign = refl
no_star open_sign = refl
no_star its_name = refl
no_star its_number = refl
no_star its_text = refl

follows_bracketed : Follows g.bracketed r.bracketed (First (sign s.Open ∷ [])) Anything
unfolding r.bracketed
follows_bracketed =
    follows_both (follows_the (sign s.Open) (sign_is s.Open))
    (λ _. follows_both follows_expression
    (λ arg. follows_both (follows_the (sign s.Close) (sign_is s.Close)) (λ _. follows_pure arg Anything) (λ i h. tt))
    close_ends)
    (λ i h. tt)

follows_counted : Follows g.counted r.counted (First (sign s.Open ∷ [])) Anything
unfolding r.counted
follows_counted =
    follows_both (follows_the (sign s.Open) (sign_is s.Open))
    (λ _. follows_eat {U = Anything}
    (λ b. cond b (λ i. and_then (expect_if true (c.Sign s.Close) i) (λ _. pure agg.CountAll)) (λ i. and_then (expression i) (λ arg. λ j. and_then (expect_if true (c.Sign s.Close) j) (λ _. pure (agg.Count arg)))))
    (sign s.Star) (sign_is s.Star)
    (follows_both (follows_the (sign s.Close) (sign_is s.Close)) (λ _. follows_pure agg.CountAll Anything) (λ i h. tt))
    (follows_both follows_expression
    (λ arg. follows_both (follows_the (sign s.Close) (sign_is s.Close)) (λ _. follows_pure (agg.Count arg) Anything) (λ i h. tt))
    close_ends)
    (starts_no (c.Sign s.Star) (λ x. no_star {x = x}))
    (λ i. tt)
    (λ i h. tt))
    (λ i h. tt)

abbrev sums : List Symbol
sums = word w.Sum ∷ word w.Min ∷ word w.Max ∷ []

abbrev aggregates : List Symbol
aggregates = word w.Count ∷ sums

-- one of the three, with its argument
of_bracketed : (make : Expr → Agg) (t : Word) → Follows (Both (the (word t)) (λ _. Both g.bracketed (λ arg. nothing (make arg)))) (λ i. and_then (expect_if true (c.Reserved t) i) (λ _. λ j. and_then (r.bracketed j) (λ arg. pure (make arg)))) (First (word t ∷ [])) Anything
of_bracketed make t =
    follows_both (follows_the (word t) (word_is t)) (λ _. follows_both follows_bracketed (λ arg. follows_pure (make arg) Anything) (λ i h. tt)) (λ i h. tt)

args_of : (make : Expr → Agg) → Follows (Both g.bracketed (λ arg. nothing (make arg))) (λ j. and_then (r.bracketed j) (λ arg. pure (make arg))) (First (sign s.Open ∷ [])) Anything
args_of make = follows_both follows_bracketed (λ arg. follows_pure (make arg) Anything) (λ i h. tt)

abbrev maximum : Reader Agg
maximum = λ i. and_then (expect_if true (c.Reserved w.Max) i) (λ _. λ j. and_then (r.bracketed j) (λ arg. pure (agg.Max arg)))

abbrev minimum : Reader Agg
minimum = λ i. and_then (eat (c.Reserved w.Min) i) (λ b. cond b (λ j. and_then (r.bracketed j) (λ arg. pure (agg.Min arg))) maximum)

abbrev total : Reader Agg
total = λ i. and_then (eat (c.Reserved w.Sum) i) (λ b. cond b (λ j. and_then (r.bracketed j) (λ arg. pure (agg.Sum arg))) minimum)

follows_minimum : Follows ((Both (the (word w.Min)) (λ _. Both g.bracketed (λ arg. nothing (agg.Min arg)))) or (Both (the (word w.Max)) (λ _. Both g.bracketed (λ arg. nothing (agg.Max arg)))))
    minimum (First (word w.Min ∷ word w.Max ∷ [])) Anything
unfolding same_class
follows_minimum = follows_eat (λ b. cond b (λ j. and_then (r.bracketed j) (λ arg. pure (agg.Min arg))) maximum) (word w.Min) (word_is w.Min)
    (args_of agg.Min) (of_bracketed agg.Max w.Max)
    (first_sees (c.Reserved w.Min) (word w.Max ∷ []) (refl, tt))
    (λ i. inl refl)
    (first_more (word w.Min) (word w.Max ∷ []))

follows_total : Follows ((Both (the (word w.Sum)) (λ _. Both g.bracketed (λ arg. nothing (agg.Sum arg)))) or ((Both (the (word w.Min)) (λ _. Both g.bracketed (λ arg. nothing (agg.Min arg)))) or (Both (the (word w.Max)) (λ _. Both g.bracketed (λ arg. nothing (agg.Max arg))))))
    total (First sums) Anything
unfolding same_class
follows_total = follows_eat (λ b. cond b (λ j. and_then (r.bracketed j) (λ arg. pure (agg.Sum arg))) minimum) (word w.Sum) (word_is w.Sum)
    (args_of agg.Sum) follows_minimum
    (first_sees (c.Reserved w.Sum) (word w.Min ∷ word w.Max ∷ []) (refl, (refl, tt)))
    (λ i. inl refl)
    (first_more (word w.Sum) (word w.Min ∷ word w.Max ∷ []))

follows_aggregate : (before : List Agg) → Follows (g.an_aggregate before) (r.aggregate before) (First aggregates) Anything
unfolding r.aggregate same_class
follows_aggregate before = follows_eat (λ b. cond b r.counted total) (word w.Count) (word_is w.Count)
    follows_counted follows_total
    (first_sees (c.Reserved w.Count) sums (refl, (refl, (refl, tt))))
    (λ i. inl refl)
    (first_more (word w.Count) sums)

-- ---- what is selected

sees_aggregate-same : (i j : Input) → SameHead i j → r.sees_aggregate i ≡ r.sees_aggregate j
unfolding r.sees_aggregate
sees_aggregate-same i j h =
    ap (λ b. b || sees (c.Reserved w.Sum) i || sees (c.Reserved w.Min) i || sees (c.Reserved w.Max) i) (sees_same (c.Reserved w.Count) i j h)
    ∙ ap (λ b. sees (c.Reserved w.Count) j || b || sees (c.Reserved w.Min) i || sees (c.Reserved w.Max) i) (sees_same (c.Reserved w.Sum) i j h)
    ∙ ap (λ b. sees (c.Reserved w.Count) j || sees (c.Reserved w.Sum) j || b || sees (c.Reserved w.Max) i) (sees_same (c.Reserved w.Min) i j h)
    ∙ ap (λ b. sees (c.Reserved w.Count) j || sees (c.Reserved w.Sum) j || sees (c.Reserved w.Min) j || b) (sees_same (c.Reserved w.Max) i j h)

among_aggregates : (x : Symbol) (i : Input) → Among aggregates x → r.sees_aggregate (x ∷ i) ≡ true
unfolding r.sees_aggregate sees same_class
among_aggregates x i (inl e) = ap (λ z. r.sees_aggregate (z ∷ i)) e
among_aggregates x i (inr (inl e)) = ap (λ z. r.sees_aggregate (z ∷ i)) e
among_aggregates x i (inr (inr (inl e))) = ap (λ z. r.sees_aggregate (z ∷ i)) e
among_aggregates x i (inr (inr (inr (inl e)))) = ap (λ z. r.sees_aggregate (z ∷ i)) e
among_aggregates x i (inr (inr (inr (inr h)))) = absurd h

first_aggregate : (i : Input) → First aggregates i → r.sees_aggregate i ≡ true
first_aggregate [] h = absurd h
first_aggregate (x ∷ i) h = among_aggregates x i h

starter_no_aggregate : {x : Symbol} (i : Input) → Starter x → r.sees_aggregate (x ∷ i) ≡ false
unfolding r.sees_aggregate sees same_class
starter_no_aggregate i not_word = refl
starter_no_aggregate i null_word = refl
starter_no_aggregate i minus_sign = refl
starter_no_aggregate i open_sign = refl
starter_no_aggregate i its_name = refl
starter_no_aggregate i its_number = refl
starter_no_aggregate i its_text = refl

starts_no_aggregate : (i : Input) → Starting Starter i → r.sees_aggregate i ≡ false
starts_no_aggregate [] h = absurd h
starts_no_aggregate (x ∷ i) h = starter_no_aggregate i h

abbrev from : List Symbol
from = word w.From ∷ []

from_ends : (i : Input) → First from i → EndsExpr i
unfolding goes_on e.operator e.comparison sees same_class
from_ends i h = next_ends from (λ j. refl, tt) i (starting_heading (Among from) i h)

from_no_comma : (i : Input) → First from i → sees (c.Sign s.Comma) i ≡ false
unfolding same_class
from_no_comma i h = first_sees (c.Sign s.Comma) from (refl, tt) i h

aggregate_no_star : (i : Input) → First aggregates i → sees (c.Sign s.Star) i ≡ false
unfolding same_class
aggregate_no_star i h = first_sees (c.Sign s.Star) aggregates (refl, (refl, (refl, (refl, tt)))) i h

follows_answers : Follows ((Both (a_list g.an_aggregate) (λ items. nothing (selected.Aggs items))) or (Both (a_list g.a_value) (λ items. nothing (selected.Plain items))))
    r.answers (λ i. sees (c.Sign s.Star) i ≡ false) (First from)
unfolding r.answers
follows_answers = follows_choice r.sees_aggregate sees_aggregate-same
    (λ i. and_then (listed r.aggregate i) (λ items. pure (selected.Aggs items)))
    (λ i. and_then (listed r.value i) (λ items. pure (selected.Plain items)))
    (follows_both (follows_list g.an_aggregate r.aggregate follows_aggregate {U = First from} (λ i h. tt) from_no_comma (λ i. tt)) (λ items. follows_pure (selected.Aggs items) (First from)) (λ i h. h))
    (follows_both (follows_list g.a_value r.value follows_value {U = First from} from_ends from_no_comma comma_ends) (λ items. follows_pure (selected.Plain items) (First from)) (λ i h. h))
    first_aggregate starts_no_aggregate aggregate_no_star (starts_no (c.Sign s.Star) (λ x. no_star {x = x}))

follows_items : Follows g.selected_items r.selected_items Anything (First from)
unfolding r.selected_items
follows_items = follows_eat (λ b. cond b (pure selected.Star) r.answers) (sign s.Star) (sign_is s.Star)
    (follows_pure selected.Star (First from)) follows_answers (λ i h. h) (λ i. tt) (λ i h. tt)

-- ---- JOIN

abbrev tested : List Symbol
tested = word w.Where ∷ ordered

tested_ends : (i : Input) → Next tested i → EndsExpr i
unfolding goes_on e.operator e.comparison sees same_class
tested_ends i h = next_ends tested (λ j. refl, (λ j. refl, (λ j. refl, (λ j. refl, tt)))) i h

follows_join : (left : List ℕ) → Follows (g.a_join left) (r.join left) Anything (Next tested)
unfolding r.join same_class
follows_join left = follows_eat
    (λ b. cond b (λ i. and_then (name_if (is_other left) i) (λ right. λ j. and_then (expect_if true (c.Reserved w.On) j) (λ _. λ k. and_then (expression k) (λ on. pure (Some (record { right = right; on = on })))))) (pure None))
    (word w.Join) (word_is w.Join)
    (follows_both (follows_name_if (is_other left))
    (λ right. follows_both (follows_the (word w.On) (word_is w.On))
    (λ _. follows_both follows_expression (λ on. follows_pure (Some (record { right = right; on = on })) (Next tested)) tested_ends)
    (λ i h. tt))
    (λ i h. tt))
    (follows_pure None (Next tested))
    (next_sees (c.Reserved w.Join) tested (refl, (refl, (refl, (refl, tt)))))
    (λ i. tt)
    (λ i h. tt)

-- ---- ORDER BY and LIMIT

abbrev Undotted : Input → Type 0
Undotted i = sees (c.Sign s.Dot) i ≡ false

follows_column : Follows g.a_column column Named Undotted
unfolding column
follows_column =
    follows_both follows_name
    (λ first. follows_eat {U = Anything}
    (λ b. cond b (λ i. and_then (any_name i) (λ second. pure (Some first, second))) (pure (None, first)))
    (sign s.Dot) (sign_is s.Dot)
    (follows_both follows_name (λ second. follows_pure (Some first, second) Undotted) (λ i h. tt))
    (follows_pure (None, first) Undotted)
    (λ i h. h)
    (λ i. tt)
    (λ i h. tt))
    (λ i h. tt)

abbrev limited : List Symbol
limited = word w.Limit ∷ semicolon

abbrev listing : List Symbol
listing = sign s.Comma ∷ limited

follows_direction : Follows g.a_direction r.direction (Next (word w.Desc ∷ word w.Asc ∷ listing)) (Next listing)
unfolding r.direction same_class
follows_direction = follows_eat
    (λ b. cond b (pure true) (λ i. and_then (eat (c.Reserved w.Asc) i) (λ _. pure false)))
    (word w.Desc) (word_is w.Desc)
    (follows_pure true (Next listing))
    (follows_eat (λ _. pure false) (word w.Asc) (word_is w.Asc)
    (follows_pure false (Next listing)) (follows_pure false (Next listing))
    (next_sees (c.Reserved w.Asc) listing (refl, (refl, (refl, tt))))
    (λ i. inl refl)
    (next_more (word w.Asc) listing))
    (next_sees (c.Reserved w.Desc) (word w.Asc ∷ listing) (refl, (refl, (refl, (refl, tt)))))
    (λ i. inl refl)
    (next_more (word w.Desc) (word w.Asc ∷ listing))

directed_undotted : (i : Input) → Next (word w.Desc ∷ word w.Asc ∷ listing) i → Undotted i
unfolding same_class
directed_undotted i h = next_sees (c.Sign s.Dot) (word w.Desc ∷ word w.Asc ∷ listing) (refl, (refl, (refl, (refl, (refl, tt))))) i h

follows_order_key : (before : List OrderKey) → Follows (g.an_order_key before) (r.order_key before) Named (Next listing)
unfolding r.order_key
follows_order_key before =
    follows_both follows_column
    (λ key. follows_both follows_direction (λ desc. follows_pure (record { table = key.0; name = key.1; desc = desc }) (Next listing)) (λ i h. h))
    directed_undotted

limited_no_comma : (i : Input) → Next limited i → sees (c.Sign s.Comma) i ≡ false
unfolding same_class
limited_no_comma i h = next_sees (c.Sign s.Comma) limited (refl, (refl, tt)) i h

follows_orders : Follows g.orders r.orders (Next ordered) (Next limited)
unfolding r.orders same_class
follows_orders = follows_eat
    (λ b. cond b (λ i. and_then (expect_if true (c.Reserved w.By) i) (λ _. listed r.order_key)) (pure []))
    (word w.Order) (word_is w.Order)
    (follows_both (follows_the (word w.By) (word_is w.By))
    (λ _. follows_list g.an_order_key r.order_key follows_order_key {U = Next limited} (next_more (sign s.Comma) limited) limited_no_comma (λ i. inl refl))
    (λ i h. tt))
    (follows_pure [] (Next limited))
    (next_sees (c.Reserved w.Order) limited (refl, (refl, tt)))
    (λ i. inl refl)
    (next_more (word w.Order) limited)

follows_limit : Follows g.a_limit r.limit (Next limited) (Next semicolon)
unfolding r.limit same_class
follows_limit = follows_eat
    (λ b. cond b (λ i. and_then (small_number i) (λ n. pure (Some n))) (pure None))
    (word w.Limit) (word_is w.Limit)
    (follows_both follows_small_number (λ n. follows_pure (Some n) (Next semicolon)) (λ i h. tt))
    (follows_pure None (Next semicolon))
    (next_sees (c.Reserved w.Limit) semicolon (refl, tt))
    (λ i. inl refl)
    (next_more (word w.Limit) semicolon)

ordering : Follows {X = List OrderKey × Option ℤ} (Both g.orders (λ order. Both g.a_limit (λ most. nothing (order, most)))) (λ i. and_then (r.orders i) (λ order. λ j. and_then (r.limit j) (λ most. pure (order, most)))) (Next ordered) (Next semicolon)
ordering = follows_both follows_orders (λ order. follows_both follows_limit (λ most. follows_pure (order, most) (Next semicolon)) (λ i h. h)) (λ i h. h)

follows_endings : (items : Selected) → Follows (g.endings items) (r.endings items) (Next ordered) (Next semicolon)
unfolding r.endings
follows_endings (selected.Aggs items) = follows_within (follows_pure ([], None) (Next semicolon)) (λ i h. h) (λ i h. next_more (word w.Order) limited i (next_more (word w.Limit) semicolon i h))
follows_endings selected.Star = ordering
follows_endings (selected.Plain items) = ordering

-- ---- SELECT

pub follows_select : Follows g.a_select r.select Anything (Next semicolon)
unfolding r.select
follows_select =
    follows_both follows_items
    (λ items. follows_both (follows_the (word w.From) (word_is w.From))
    (λ _. follows_both follows_name
    (λ left. follows_both (follows_join left)
    (λ joined. follows_both follows_condition
    (λ test. follows_both (follows_endings items)
    (λ ends. follows_pure (stmt.Select (record { items = items; left = left; join = joined; test = test; order = ends.0; limit = ends.1 })) (Next semicolon))
    (λ i h. h))
    (λ i h. h))
    (λ i h. h))
    (λ i h. tt))
    (λ i h. tt))
    (λ i h. h)
