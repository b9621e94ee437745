-- Stated: the texts of values, replies and entries.
use Rattle.std.specs.Prelude.{◌<◌, ℕ, ◌+◌, Bool, true, false, if◌then◌else◌, List, [], ◌∷◌, ◌++◌, codes, decimal, length, flat_map, slice_index_or}
use Rattle.std.specs.List.{AllByRecursion}
use Rattle.std.specs.Fmt.{signed_decimal}
use Rattle.sql_words.specs.Tokens.{quoted}
use Rattle.sql_values.specs.declared.values.Value.{Value}
use Rattle.sql_values.specs.declared.values.Value.TheVariants.{Null, Int, Text}
use Rattle.sql_database.specs.declared.replies.SqlReply.{SqlReply}
use Rattle.sql_database.specs.declared.replies.SqlReply.TheVariants as reply
use Rattle.table_machine.specs.declared.entries.Entry.{Entry}
use Rattle.table_machine.specs.declared.entries.Entry.TheVariants as entry

-- NULL, a decimal number, or a text as SQL writes it
abbrev pub value_text : Value → List ℕ
value_text Null = codes "NULL"
value_text (Int n) = signed_decimal n
value_text (Text t) = quoted t

abbrev pub behind_comma : Value → List ℕ
behind_comma v = codes ", " ++ value_text v

-- values with a comma and a space between
abbrev pub row_text : List Value → List ℕ
row_text [] = []
row_text (v ∷ vs) = value_text v ++ flat_map behind_comma vs

-- the words that a reply's last line begins with
unfoldable pub words_of : SqlReply → List ℕ
words_of (reply.Ok n) = codes "ok "
words_of (reply.Rows rows) = codes "rows "
words_of (reply.Syntax at) = codes "error syntax at "
words_of (reply.NoTable t) = codes "error no table "
words_of (reply.TableExists t) = codes "error table exists "
words_of (reply.NoColumn c) = codes "error no column "
words_of reply.WrongType = codes "error wrong type"
words_of reply.NullKey = codes "error null key"
words_of (reply.Duplicate v) = codes "error duplicate "
words_of reply.Overflow = codes "error overflow"
words_of reply.TooLarge = codes "error too large"
words_of reply.ReadOnly = codes "error read only"
words_of reply.NoTransaction = codes "error no transaction"
words_of reply.InTransaction = codes "error in transaction"
words_of (reply.Conflict v) = codes "error conflict "
words_of reply.Lost = codes "error lost"
words_of reply.Unavailable = codes "error unavailable"
words_of (reply.PoolFull n) = codes "error pool full "
words_of reply.SpaceFull = codes "error space full"
words_of reply.TrxFull = codes "error trx full"

-- what stands behind the words: a number, a name or a value
unfoldable pub rest_of : SqlReply → List ℕ
rest_of (reply.Ok n) = decimal n
rest_of (reply.Rows rows) = decimal (length rows)
rest_of (reply.Syntax at) = decimal at
rest_of (reply.NoTable t) = t
rest_of (reply.TableExists t) = t
rest_of (reply.NoColumn c) = c
rest_of (reply.Duplicate v) = value_text v
rest_of (reply.Conflict v) = value_text v
rest_of (reply.PoolFull n) = decimal n
rest_of _ = []

abbrev pub last_text : SqlReply → List ℕ
last_text r = words_of r ++ rest_of r

-- one output line, with what stands before each line of the reply
abbrev pub line : List ℕ → List ℕ → List ℕ
line before text = before ++ (text ++ 10 ∷ [])

abbrev pub row_line : List ℕ → List Value → List ℕ
row_line before row = line before (row_text row)

abbrev pub last_line : List ℕ → SqlReply → List ℕ
last_line before r = line before (last_text r)

-- the rows that a reply has
unfoldable pub rows_of : SqlReply → List (List Value)
rows_of (reply.Rows rows) = rows
rows_of _ = []

-- a line for each row, and a last line
abbrev pub reply_text : List ℕ → SqlReply → List ℕ
reply_text before r = flat_map (row_line before) (rows_of r) ++ last_line before r

-- the name of a session by its number
abbrev pub name_of : List (List ℕ) → ℕ → List ℕ
name_of names s = slice_index_or names s []

-- what stands before each line of a session's reply: where names are asked for, its name
abbrev pub before_of : List (List ℕ) → Bool → ℕ → List ℕ
before_of names true s = name_of names s ++ codes ": "
before_of names false s = []

abbrev pub unanswered : List (List ℕ) → ℕ → List ℕ
unanswered names s = line (name_of names s ++ codes ": ") (codes "unanswered")

-- the text of an entry: replies, orders that were passed over, a node that takes the writes, and at the end,
-- where names are asked for, the sessions that wait; other entries have none
abbrev pub entry_text : List (List ℕ) → Bool → Entry → List ℕ
entry_text names prefix (entry.Reply s r) = reply_text (before_of names prefix s) r
entry_text names prefix (entry.Ignored n) = line [] (codes "ignored " ++ decimal n)
entry_text names prefix (entry.Missed n) = line [] (codes "missed " ++ decimal n)
entry_text names prefix (entry.Opened n) = line [] (codes "open n" ++ decimal (n + 1))
entry_text names prefix (entry.End ss) = if prefix then flat_map (unanswered names) ss else []
entry_text names prefix (entry.Join s name n) = []
entry_text names prefix (entry.Submit s text) = []
entry_text names prefix (entry.Snap s) = []
entry_text names prefix (entry.Exec s) = []
entry_text names prefix (entry.Enqueue s) = []
entry_text names prefix entry.Settle = []
entry_text names prefix (entry.Forget k) = []
entry_text names prefix (entry.Timer s) = []
entry_text names prefix (entry.Down n ss) = []
entry_text names prefix (entry.Up n) = []

-- the text of a journal: its entries' texts in order
abbrev pub journal_text : List (List ℕ) → Bool → List Entry → List ℕ
journal_text names prefix es = flat_map (entry_text names prefix) es

-- the sessions whose names an entry's text has
abbrev pub named_in : Bool → Entry → List ℕ
named_in true (entry.Reply s r) = s ∷ []
named_in true (entry.End ss) = ss
named_in _ _ = []

abbrev pub HasNames : List (List ℕ) → Bool → Entry → Type 0
HasNames names prefix e = AllByRecursion (λ s. s < length names) (named_in prefix e)
