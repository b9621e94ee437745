-- The ranges of each kind of statement.
use Rattle.std.proofs.Common.{◌≡◌, ◌+◌, ◌++◌, Bool, true, false, ℕ, List, [], Option, Some, None, Result, Ok, Err, refl, sym, ◌∙◌, ap, subst}
use Rattle.std.specs.Prelude.{IfOk, is_some, option_map}
use Rattle.rm_base.specs.declared.key_range.KeyRange.{KeyRange}
use Rattle.rm_base.specs.declared.errors.WantOfMemory.{WantOfMemory}
use Rattle.sql_values.specs.declared.schemas.Schema.{Schema}
use Rattle.sql_values.specs.declared.values.Value.{Value}
use Rattle.sql_statements.specs.declared.expressions.Expr.{Expr}
use Rattle.sql_statements.specs.declared.statements.Join.{Join}
use Rattle.sql_statements.specs.declared.statements.Select.{Select}
use Rattle.sql_statements.specs.declared.statements.SetItem.{SetItem}
use Rattle.sql_statements.specs.declared.statements.Stmt.{Stmt}
use Rattle.sql_statements.specs.declared.statements.Stmt.TheVariants as stmt
use Rattle.sql_meaning.specs.declared.actions.Action.{Action}
use Rattle.sql_meaning.specs.declared.refusals.Refusal.{Refusal}
use Rattle.sql_meaning.specs.Names.{scope}
use Rattle.sql_meaning.specs.Places.{placed_action}
use Rattle.sql_meaning.specs.Refusals.{refusal}
use Rattle.sql_meaning.specs.Ranges.{key_place, key_places, width_of, insert_ranges, left_ranges, right_ranges, ranges, statement_test}
use Rattle.sql_plan.specs.Ends.{action_range}

-- what a call gives
abbrev pub Gives : Result (List KeyRange) WantOfMemory → List KeyRange → Type 0
Gives r xs = IfOk r (λ ys. ys ≡ xs)

pub same : (r : Result (List KeyRange) WantOfMemory) (xs ys : List KeyRange) → xs ≡ ys → Gives r xs → Gives r ys
same (Ok zs) xs ys e p = p ∙ e
same (Err w) xs ys e p = p

pub insert_left : (r : Result (List KeyRange) WantOfMemory) (schemas : List Schema) (s : Stmt) (action : Action) (t : List ℕ) (names : Option (List (List ℕ)))
    (rows : List (List Expr)) (key : ℕ) → s ≡ stmt.Insert t names rows → action ≡ placed_action (scope schemas s) s → key ≡ key_place schemas t
    → IfOk r (λ ys. ys ≡ insert_ranges key action) → IfOk r (λ ys. ys ≡ left_ranges schemas s)
insert_left r schemas s action t names rows key e f k p =
    same r (insert_ranges key action) (left_ranges schemas s)
    (ap (λ (n : ℕ). insert_ranges n action) k ∙ (ap (insert_ranges (key_place schemas t)) f ∙ subst (λ (s : Stmt). insert_ranges (key_place schemas t) (placed_action (scope schemas s) s) ≡ left_ranges schemas s) (sym e) refl)) p

pub update_left : (r : Result (List KeyRange) WantOfMemory) (schemas : List Schema) (s : Stmt) (action : Action) (t : List ℕ) (sets : List SetItem)
    (test : Option Expr) → s ≡ stmt.Update t sets test → action ≡ placed_action (scope schemas s) s
    → IfOk r (λ ys. ys ≡ action_range (key_places schemas t None) (key_place schemas t) None action) → IfOk r (λ ys. ys ≡ left_ranges schemas s)
unfolding statement_test
update_left r schemas s action t sets test e f p =
    same r (action_range (key_places schemas t None) (key_place schemas t) None action) (left_ranges schemas s)
    (ap (action_range (key_places schemas t None) (key_place schemas t) None) f
    ∙ subst (λ (s : Stmt). action_range (key_places schemas t None) (key_place schemas t) None (placed_action (scope schemas s) s) ≡ left_ranges schemas s) (sym e) refl) p

pub delete_left : (r : Result (List KeyRange) WantOfMemory) (schemas : List Schema) (s : Stmt) (action : Action) (t : List ℕ)
    (test : Option Expr) → s ≡ stmt.Delete t test → action ≡ placed_action (scope schemas s) s
    → IfOk r (λ ys. ys ≡ action_range (key_places schemas t None) (key_place schemas t) None action) → IfOk r (λ ys. ys ≡ left_ranges schemas s)
unfolding statement_test
delete_left r schemas s action t test e f p =
    same r (action_range (key_places schemas t None) (key_place schemas t) None action) (left_ranges schemas s)
    (ap (action_range (key_places schemas t None) (key_place schemas t) None) f
    ∙ subst (λ (s : Stmt). action_range (key_places schemas t None) (key_place schemas t) None (placed_action (scope schemas s) s) ≡ left_ranges schemas s) (sym e) refl) p

joined_left : (schemas : List Schema) (s : Stmt) (q : Select) (right : Option Join) → s ≡ stmt.Select q → q.join ≡ right
    → action_range (key_places schemas q.left (option_map (λ j. j.right) right)) (key_place schemas q.left) None (placed_action (scope schemas s) s) ≡ left_ranges schemas s
unfolding statement_test
joined_left schemas s q right e j =
    subst (λ (x : Option Join). action_range (key_places schemas q.left (option_map (λ j. j.right) x)) (key_place schemas q.left) None (placed_action (scope schemas s) s) ≡ left_ranges schemas s) j
    (subst (λ (s : Stmt). action_range (key_places schemas q.left (option_map (λ j. j.right) q.join)) (key_place schemas q.left) None (placed_action (scope schemas s) s) ≡ left_ranges schemas s) (sym e) refl)

pub select_left : (r : Result (List KeyRange) WantOfMemory) (schemas : List Schema) (s : Stmt) (action : Action) (q : Select) → s ≡ stmt.Select q → q.join ≡ None
    → action ≡ placed_action (scope schemas s) s
    → IfOk r (λ ys. ys ≡ action_range (key_places schemas q.left None) (key_place schemas q.left) None action) → IfOk r (λ ys. ys ≡ left_ranges schemas s)
select_left r schemas s action q e j f p =
    same r (action_range (key_places schemas q.left None) (key_place schemas q.left) None action) (left_ranges schemas s)
    (ap (action_range (key_places schemas q.left None) (key_place schemas q.left) None) f ∙ joined_left schemas s q None e j) p

pub join_left : (r : Result (List KeyRange) WantOfMemory) (schemas : List Schema) (s : Stmt) (action : Action) (q : Select) (join : Join) → s ≡ stmt.Select q → q.join ≡ Some join
    → action ≡ placed_action (scope schemas s) s
    → IfOk r (λ ys. ys ≡ action_range (key_places schemas q.left (Some join.right)) (key_place schemas q.left) None action) → IfOk r (λ ys. ys ≡ left_ranges schemas s)
join_left r schemas s action q join e j f p =
    same r (action_range (key_places schemas q.left (Some join.right)) (key_place schemas q.left) None action) (left_ranges schemas s)
    (ap (action_range (key_places schemas q.left (Some join.right)) (key_place schemas q.left) None) f ∙ joined_left schemas s q (Some join) e j) p

joined_right : (schemas : List Schema) (s : Stmt) (q : Select) (join : Join) (row : List Value) → s ≡ stmt.Select q → q.join ≡ Some join
    → action_range (key_places schemas q.left (Some join.right)) (width_of schemas q.left + key_place schemas join.right) (Some row) (placed_action (scope schemas s) s) ≡ right_ranges schemas s row
unfolding statement_test
joined_right schemas s q join row e j =
    subst (λ (s : Stmt). action_range (key_places schemas q.left (Some join.right)) (width_of schemas q.left + key_place schemas join.right) (Some row) (placed_action (scope schemas s) s) ≡ right_ranges schemas s row) (sym e)
    (rw j refl)

pub join_right : (r : Result (List KeyRange) WantOfMemory) (schemas : List Schema) (s : Stmt) (action : Action) (q : Select) (join : Join) (row : List Value) → s ≡ stmt.Select q
    → q.join ≡ Some join → action ≡ placed_action (scope schemas s) s
    → IfOk r (λ ys. ys ≡ action_range (key_places schemas q.left (Some join.right)) (width_of schemas q.left + key_place schemas join.right) (Some row) action)
    → IfOk r (λ ys. ys ≡ right_ranges schemas s row)
join_right r schemas s action q join row e j f p =
    same r (action_range (key_places schemas q.left (Some join.right)) (width_of schemas q.left + key_place schemas join.right) (Some row) action) (right_ranges schemas s row)
    (ap (action_range (key_places schemas q.left (Some join.right)) (width_of schemas q.left + key_place schemas join.right) (Some row)) f ∙ joined_right schemas s q join row e j) p

pub select_right : (schemas : List Schema) (s : Stmt) (q : Select) (row : List Value) → s ≡ stmt.Select q → q.join ≡ None → [] ≡ right_ranges schemas s row
select_right schemas s q row e j = subst (λ (s : Stmt). [] ≡ right_ranges schemas s row) (sym e) (rw j refl)

-- a statement that is refused has none
pub refused_none : (schemas : List Schema) (s : Stmt) (row : Option (List Value)) (why : Refusal) → Some why ≡ refusal schemas s → [] ≡ ranges schemas s row
unfolding ranges
refused_none schemas s None why e = rw (sym e) refl
refused_none schemas s (Some row) why e = rw (sym e) refl

pub left_if : (r : Result (List KeyRange) WantOfMemory) (schemas : List Schema) (s : Stmt) → None ≡ refusal schemas s → IfOk r (λ ys. ys ≡ left_ranges schemas s)
    → IfOk r (λ ys. ys ≡ ranges schemas s None)
unfolding ranges
left_if r schemas s e p = same r (left_ranges schemas s) (ranges schemas s None) (rw (sym e) refl) p

pub right_if : (r : Result (List KeyRange) WantOfMemory) (schemas : List Schema) (s : Stmt) (row : List Value) → None ≡ refusal schemas s
    → IfOk r (λ ys. ys ≡ right_ranges schemas s row) → IfOk r (λ ys. ys ≡ ranges schemas s (Some row))
unfolding ranges
right_if r schemas s row e p = same r (right_ranges schemas s row) (ranges schemas s (Some row)) (rw (sym e) refl) p
