-- Stated: changes of keys that another transaction has changed, and what comes of a statement's answer.
use Rattle.std.specs.Prelude.{ℕ, ◌+◌, ◌-◌, Bool, ◌&&◌, ◌||◌, not, nat_eq, if◌then◌else◌, List, [], filter, fold, Option, Some, None, bytes_eq}
use Rattle.std.specs.List.{list_any, range_with_len}
use Rattle.std.specs.Option.{option_map_or}
use Rattle.std.specs.Ordering.{is_lt}
use Rattle.sql_values.specs.declared.values.Value.{Value}
use Rattle.sql_values.specs.Order.{text_cmp}
use Rattle.sql_database.specs.declared.changes.Change.{Change}
use Rattle.sql_database.specs.declared.replies.SqlReply.{SqlReply}
use Rattle.sql_database.specs.declared.replies.SqlReply.TheVariants as reply
use Rattle.sql_database.specs.Answers.{Answer, rows, refused, wants}
use Rattle.sql_database.specs.Applied.{change_key}
use Rattle.table_machine.specs.Machine.{Machine, Transaction, last, pending_of, view}

abbrev pub has_key : Change → List Change → Bool
has_key c cs = list_any (λ d. bytes_eq d.table c.table && bytes_eq d.key c.key) cs

-- another session's own changes have the key
abbrev pub is_pending : Machine → ℕ → Change → Bool
is_pending m s c = list_any (λ t. not (nat_eq t s) && has_key c (pending_of (m.sessions t))) (range_with_len 0 m.joined)

-- a commit past the snapshot has the key, or the queue has it
abbrev pub is_newer : Machine → ℕ → Change → Bool
is_newer m snap c = list_any (λ n. has_key c (m.changes n)) (range_with_len (snap + 1) (last m - snap))

-- the key is in conflict for the session's transaction
abbrev pub is_conflict : Machine → ℕ → Transaction → Change → Bool
is_conflict m s t c = is_pending m s c || is_newer m t.snap c

abbrev pub lesser : Option Change → Change → Option Change
lesser None c = Some c
lesser (Some b) c = if is_lt (text_cmp c.key b.key) then Some c else Some b

-- the change with the least key
abbrev pub least : List Change → Option Change
least cs = fold lesser None cs

-- the reply that becomes due, and the changes that join the transaction's
pub record Evaluated : Type 0 where
  pub reply : SqlReply
  pub changes : List Change

abbrev pub told : SqlReply → Evaluated
told r = record { reply = r; changes = [] }

abbrev pub unless_duplicate : List Change → ℕ → Option Value → Evaluated
unless_duplicate cs n None = record { reply = reply.Ok n; changes = cs }
unless_duplicate cs n (Some v) = told (reply.Duplicate v)

-- Rows and refusals are due as they are. Of changes the least key in conflict comes first, then a duplicate.
abbrev pub evaluated : Machine → ℕ → Transaction → Answer → Evaluated
evaluated m s t (rows rs) = told (reply.Rows rs)
evaluated m s t (refused r) = told r
evaluated m s t (wants cs n dup) =
    option_map_or (λ c. told (reply.Conflict (change_key (view m t) c))) (least (filter (is_conflict m s t) cs)) (unless_duplicate cs n dup)
