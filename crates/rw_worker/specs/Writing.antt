-- Stated: what the changes of a statement ask for, one thing after the other.
use Rattle.std.specs.Prelude.{◌≡◌, ℕ, Bool, true, false, List, [], ◌∷◌, Option, Some, None}
use Rattle.sql_database.specs.declared.replies.SqlReply.TheVariants as reply
use Rattle.question_tree.specs.Questions.{tells, asks, stops}
use Rattle.row_edits.specs.declared.changes.RowChange.{RowChange}
use Rattle.row_edits.specs.declared.wishes.Edited.{Edited}
use Rattle.row_edits.specs.declared.wishes.Edited.TheVariants as edited
use Rattle.row_edits.specs.RowEdits.{row_work}
use Rattle.row_edits.specs.RowPlans.{IsChange}
use Rattle.transaction_edits.specs.declared.wishes.Told.{Told}
use Rattle.transaction_edits.specs.declared.wishes.Told.TheVariants as told
use Rattle.transaction_edits.specs.Works.{begin_work, commit_work}
use Rattle.statement_work.specs.Works.{Appends, Replied}
use Rattle.rw_worker.specs.Aims.{Work}
use Rattle.rw_worker.specs.Lifting.{row_over, transaction_over}
use Rattle.rw_worker.specs.declared.writes.Write.{Write}

-- each change has an item within its limits
abbrev pub AreChanges : List RowChange → Type 0
AreChanges [] = Unit {0}
AreChanges (c ∷ cs) = IsChange c × AreChanges cs

-- a change of the transaction with this number
abbrev pub numbered : ℕ → RowChange → RowChange
numbered trx c =
    record {
      session = c.session;
      root = c.root;
      item = record {
        key = c.item.key;
        deleted = c.item.deleted;
        trx = trx;
        older = c.item.older;
        value = c.item.value;
      };
      begins = c.begins;
    }

abbrev pub replied_ok : ℕ → Work
replied_ok n = tells (Replied (reply.Ok n))

-- what a commit leaves: the log is appended, and then Ok is replied
abbrev pub appended : ℕ → Work
appended n = asks Appends (λ x. replied_ok n)

abbrev pub committed : ℕ → Told → Work
committed n (told.Committed stamp) = appended n
committed n (told.Begun trx) = stops
committed n told.TrxFull = stops
committed n told.Freed = stops

-- behind the last change: outside a transaction that lasts, it commits
abbrev pub ends : Bool → ℕ → ℕ → Work
ends true s n = replied_ok n
ends false s n = transaction_over false (commit_work s) (committed n)

-- a change that was made is followed by the others; without space for it there are no others
abbrev pub edited_then : Work → Edited → Work
edited_then w edited.Made = w
edited_then w edited.SpaceFull = tells (Replied reply.SpaceFull)

-- each change in its order, and then the end
unfoldable pub changing : Bool → ℕ → ℕ → ℕ → List RowChange → Work
changing lasting s n trx [] = ends lasting s n
changing lasting s n trx (c ∷ cs) =
    row_over false (row_work (numbered trx c)) (edited_then (changing lasting s n trx cs))

-- the changes have the number that the transaction got
abbrev pub begun_then : (ℕ → Work) → Told → Work
begun_then k (told.Begun trx) = k trx
begun_then k told.TrxFull = tells (Replied reply.TrxFull)
begun_then k (told.Committed stamp) = stops
begun_then k told.Freed = stops

-- a transaction without a number begins first
abbrev pub numbered_by : Option ℕ → ℕ → (ℕ → Work) → Work
numbered_by (Some trx) s k = k trx
numbered_by None s k = transaction_over false (begin_work s) (begun_then k)

-- with no changes there is nothing to do
abbrev pub writing_of : Option ℕ → Bool → ℕ → ℕ → List RowChange → Work
writing_of number lasting s n [] = replied_ok n
writing_of number lasting s n (c ∷ cs) =
    numbered_by number s (λ trx. changing lasting s n trx (c ∷ cs))

abbrev pub writing : Write → Work
writing w = writing_of w.number w.lasting w.session w.rows w.changes.items
