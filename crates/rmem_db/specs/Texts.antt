-- Stated: single output lines, and the text of a run of the table machine.
use Rattle.std.specs.Prelude.{ℕ, false, List, [], ◌∷◌, ◌++◌, flat_map}
use Rattle.sql_database.specs.declared.replies.SqlReply.{SqlReply}
use Rattle.table_machine.specs.declared.entries.Entry.{Entry}
use Rattle.reply_text.specs.Texts.{journal_text, reply_text}

-- one output line
abbrev pub ended : List ℕ → List ℕ
ended text = text ++ 10 ∷ []

-- the text of entries, with no session's name before a reply
abbrev pub text_of : List Entry → List ℕ
text_of es = journal_text [] false es

-- the texts of replies
abbrev pub replies_text : List SqlReply → List ℕ
replies_text rs = flat_map (reply_text []) rs
