-- Stated: the printed form of statements: first as symbols, and then as text with a space between two of them.
use Rattle.std.specs.Prelude.{ℕ, suc, ◌+◌, Bool, true, false, not, nat_eq, List, [], ◌∷◌, ◌++◌, Option, Some, None, ℤ, pos, negsuc, decimal}
use Rattle.std.specs.List.{flat_map}
use Rattle.sql_values.specs.declared.schemas.Column.{Column}
use Rattle.sql_values.specs.declared.schemas.Schema.{Schema}
use Rattle.sql_values.specs.declared.values.Sort.{Sort}
use Rattle.sql_values.specs.declared.values.Sort.TheVariants as sort
use Rattle.sql_values.specs.declared.values.Value.{Value}
use Rattle.sql_values.specs.declared.values.Value.TheVariants as value
use Rattle.sql_statements.specs.declared.expressions.Expr.{Expr}
use Rattle.sql_statements.specs.declared.expressions.Expr.TheFolds.{fold-Expr}
use Rattle.sql_statements.specs.declared.expressions.Expr.TheOpen.{Expr-F, Lit, Col, Neg, Not, IsNull, Two}
use Rattle.sql_statements.specs.declared.expressions.Op.{Op}
use Rattle.sql_statements.specs.declared.expressions.Op.TheVariants as op
use Rattle.sql_statements.specs.declared.statements.Agg.{Agg}
use Rattle.sql_statements.specs.declared.statements.Agg.TheVariants as agg
use Rattle.sql_statements.specs.declared.statements.Join.{Join}
use Rattle.sql_statements.specs.declared.statements.OrderKey.{OrderKey}
use Rattle.sql_statements.specs.declared.statements.Select.{Select}
use Rattle.sql_statements.specs.declared.statements.Selected.{Selected}
use Rattle.sql_statements.specs.declared.statements.Selected.TheVariants as selected
use Rattle.sql_statements.specs.declared.statements.SetItem.{SetItem}
use Rattle.sql_statements.specs.declared.statements.Stmt.{Stmt}
use Rattle.sql_statements.specs.declared.statements.Stmt.TheVariants as stmt
use Rattle.sql_words.specs.declared.reserved.Word.TheVariants as w
use Rattle.sql_words.specs.declared.signs.Sign.TheVariants as s
use Rattle.sql_words.specs.Reserved.{spelling}
use Rattle.sql_words.specs.Signs.{sign_spelling}
use Rattle.sql_words.specs.Tokens.{quoted}
use Rattle.sql_front.specs.Symbols.{Symbol, word, sign, name, number, text, Input}

-- ---- text

-- how a symbol is written
abbrev pub spelled : Symbol → List ℕ
spelled (word x) = spelling x
spelled (sign x) = sign_spelling x
spelled (name n) = n
spelled (number n) = decimal n
spelled (text t) = quoted t

-- a space behind what is written, where something is
unfoldable pub spaced : List ℕ → List ℕ
spaced [] = []
spaced (b ∷ out) = (b ∷ out) ++ 32 ∷ []

-- the symbols behind what is written
abbrev pub written : List ℕ → Input → List ℕ
written out [] = out
written out (x ∷ i) = written (spaced out ++ spelled x) i

-- ---- expressions

unfoldable pub int_symbols : ℤ → Input
int_symbols (pos n) = number n ∷ []
int_symbols (negsuc n) = sign s.Minus ∷ number (suc n) ∷ []

abbrev pub value_symbols : Value → Input
value_symbols value.Null = word w.Null ∷ []
value_symbols (value.Int z) = int_symbols z
value_symbols (value.Text t) = text t ∷ []

abbrev pub column_symbols : Option (List ℕ) → List ℕ → Input
column_symbols None c = name c ∷ []
column_symbols (Some t) c = name t ∷ sign s.Dot ∷ name c ∷ []

unfoldable pub operator_symbol : Op → Symbol
operator_symbol op.Or = word w.Or
operator_symbol op.And = word w.And
operator_symbol op.Eq = sign s.Eq
operator_symbol op.Ne = sign s.Ne
operator_symbol op.Lt = sign s.Lt
operator_symbol op.Le = sign s.Le
operator_symbol op.Gt = sign s.Gt
operator_symbol op.Ge = sign s.Ge
operator_symbol op.Add = sign s.Plus
operator_symbol op.Sub = sign s.Minus
operator_symbol op.Mul = sign s.Star

-- brackets round symbols, or none
abbrev pub opening : Bool → Input
opening true = sign s.Open ∷ []
opening false = []

abbrev pub closing : Bool → Input
closing true = sign s.Close ∷ []
closing false = []

abbrev pub enclosed : Bool → Input → Input
enclosed brackets i = opening brackets ++ (i ++ closing brackets)

abbrev pub null_symbols : Bool → Input
null_symbols true = word w.Is ∷ word w.Not ∷ word w.Null ∷ []
null_symbols false = word w.Is ∷ word w.Null ∷ []

-- the symbols of an expression, and whether it is a column, or that or a literal
pub record Form : Type 0 where
  pub column : Bool
  pub plain : Bool
  pub symbols : Input

-- behind a minus
abbrev pub behind_minus : Form → Input
behind_minus x = enclosed (not x.column) x.symbols

-- an operand has brackets where it is no literal and no column; that of a minus also where it is a literal
abbrev pub operand : Form → Input
operand x = enclosed (not x.plain) x.symbols

abbrev pub complex : Input → Form
complex i = record { column = false; plain = false; symbols = i }

-- one layer of an expression, with the form of each part in its place
abbrev pub form_step : Expr-F Form → Form
form_step (Lit v) = record { column = false; plain = true; symbols = value_symbols v }
form_step (Col table c) = record { column = true; plain = true; symbols = column_symbols table c }
form_step (Neg x) = complex (sign s.Minus ∷ behind_minus x)
form_step (Not x) = complex (word w.Not ∷ operand x)
form_step (IsNull x is_not) = complex (operand x ++ null_symbols is_not)
form_step (Two o x y) = complex (operand x ++ (operator_symbol o ∷ operand y))

unfoldable pub form : Expr → Form
form x = fold-Expr Form form_step x

abbrev pub expr_symbols : Expr → Input
expr_symbols x = (form x).symbols

abbrev pub is_column : Expr → Bool
is_column x = (form x).column

abbrev pub is_plain : Expr → Bool
is_plain x = (form x).plain

-- ---- lists

-- a comma and an item, for each of them
abbrev pub others : {X : Type 0} → (X → Input) → List X → Input
others f xs = flat_map (λ x. sign s.Comma ∷ f x) xs

abbrev pub listed : {X : Type 0} → (X → Input) → List X → Input
listed f [] = []
listed f (x ∷ xs) = f x ++ others f xs

-- ---- statements

abbrev pub sort_word : Sort → Symbol
sort_word sort.Int = word w.Int
sort_word sort.Text = word w.Text

abbrev pub key_symbols : Bool → Input
key_symbols true = word w.Primary ∷ word w.Key ∷ []
key_symbols false = []

abbrev pub definition_symbols : Bool → Column → Input
definition_symbols is_key c = name c.name ∷ sort_word c.sort ∷ key_symbols is_key

-- columns from a place on, behind others
abbrev pub further_columns : ℕ → ℕ → List Column → Input
further_columns key at [] = []
further_columns key at (c ∷ cs) = sign s.Comma ∷ (definition_symbols (nat_eq at key) c ++ further_columns key (at + 1) cs)

abbrev pub columns_symbols : ℕ → List Column → Input
columns_symbols key [] = []
columns_symbols key (c ∷ cs) = definition_symbols (nat_eq key 0) c ++ further_columns key 1 cs

abbrev pub name_symbols : List ℕ → Input
name_symbols n = name n ∷ []

abbrev pub named_columns : Option (List (List ℕ)) → Input
named_columns None = []
named_columns (Some names) = sign s.Open ∷ (listed name_symbols names ++ sign s.Close ∷ [])

abbrev pub tuple_symbols : List Expr → Input
tuple_symbols values = sign s.Open ∷ (listed expr_symbols values ++ sign s.Close ∷ [])

abbrev pub set_symbols : SetItem → Input
set_symbols item = name item.name ∷ sign s.Eq ∷ expr_symbols item.value

abbrev pub condition_symbols : Option Expr → Input
condition_symbols None = []
condition_symbols (Some test) = word w.Where ∷ expr_symbols test

abbrev pub bracketed : Expr → Input
bracketed x = sign s.Open ∷ (expr_symbols x ++ sign s.Close ∷ [])

abbrev pub aggregate_symbols : Agg → Input
aggregate_symbols agg.CountAll = word w.Count ∷ sign s.Open ∷ sign s.Star ∷ sign s.Close ∷ []
aggregate_symbols (agg.Count x) = word w.Count ∷ bracketed x
aggregate_symbols (agg.Sum x) = word w.Sum ∷ bracketed x
aggregate_symbols (agg.Min x) = word w.Min ∷ bracketed x
aggregate_symbols (agg.Max x) = word w.Max ∷ bracketed x

abbrev pub selected_symbols : Selected → Input
selected_symbols selected.Star = sign s.Star ∷ []
selected_symbols (selected.Plain items) = listed expr_symbols items
selected_symbols (selected.Aggs items) = listed aggregate_symbols items

abbrev pub join_symbols : Option Join → Input
join_symbols None = []
join_symbols (Some j) = word w.Join ∷ name j.right ∷ word w.On ∷ expr_symbols j.on

abbrev pub direction_symbols : Bool → Input
direction_symbols true = word w.Desc ∷ []
direction_symbols false = []

abbrev pub key_order_symbols : OrderKey → Input
key_order_symbols k = column_symbols k.table k.name ++ direction_symbols k.desc

abbrev pub order_symbols : List OrderKey → Input
order_symbols [] = []
order_symbols (k ∷ keys) = word w.Order ∷ word w.By ∷ listed key_order_symbols (k ∷ keys)

abbrev pub limit_symbols : Option ℤ → Input
limit_symbols None = []
limit_symbols (Some z) = word w.Limit ∷ int_symbols z

abbrev pub create_symbols : Schema → Input
create_symbols schema = word w.Create ∷ word w.Table ∷ name schema.table ∷ sign s.Open ∷ (columns_symbols schema.key schema.columns ++ sign s.Close ∷ [])

abbrev pub insert_symbols : List ℕ → Option (List (List ℕ)) → List (List Expr) → Input
insert_symbols table columns rows = word w.Insert ∷ word w.Into ∷ name table ∷ (named_columns columns ++ (word w.Values ∷ listed tuple_symbols rows))

abbrev pub update_symbols : List ℕ → List SetItem → Option Expr → Input
update_symbols table sets test = word w.Update ∷ name table ∷ word w.Set ∷ (listed set_symbols sets ++ condition_symbols test)

abbrev pub delete_symbols : List ℕ → Option Expr → Input
delete_symbols table test = word w.Delete ∷ word w.From ∷ name table ∷ condition_symbols test

abbrev pub ending_symbols : Select → Input
ending_symbols q = condition_symbols q.test ++ (order_symbols q.order ++ limit_symbols q.limit)

abbrev pub select_symbols : Select → Input
select_symbols q = word w.Select ∷ (selected_symbols q.items ++ (word w.From ∷ name q.left ∷ (join_symbols q.join ++ ending_symbols q)))

abbrev pub symbols : Stmt → Input
symbols (stmt.Create schema) = create_symbols schema
symbols (stmt.Insert table columns rows) = insert_symbols table columns rows
symbols (stmt.Update table sets test) = update_symbols table sets test
symbols (stmt.Delete table test) = delete_symbols table test
symbols (stmt.Select q) = select_symbols q
symbols stmt.Begin = word w.Begin ∷ []
symbols stmt.Commit = word w.Commit ∷ []
symbols stmt.Rollback = word w.Rollback ∷ []

-- the text of a statement
abbrev pub printed : Stmt → List ℕ
printed x = written [] (symbols x)
