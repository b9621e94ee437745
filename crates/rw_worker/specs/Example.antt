-- Stated: how a statement's changes and an undoing begin, and how they end.
use Rattle.std.specs.Prelude.{◌≡◌, ℕ, true, false, [], Some, None}
use Rattle.page_image.specs.Image.{unmade}
use Rattle.sql_database.specs.declared.replies.SqlReply.TheVariants as reply
use Rattle.question_tree.specs.Questions.{tells, wanted, after}
use Rattle.transaction_edits.specs.declared.wishes.Told.TheVariants as told
use Rattle.row_edits.specs.declared.wishes.Edited.TheVariants as edited
use Rattle.row_edits.specs.declared.wishes.Taken.TheVariants as taken
use Rattle.statement_work.specs.declared.acts.FixedPage.TheVariants as fixed
use Rattle.statement_work.specs.Works.{FetchesFixed, Appends, Handed, Made, Replied, Rested, Again}
use Rattle.rw_worker.specs.Aims.{Work}
use Rattle.rw_worker.specs.Undoing.{freed, rested, taken_then, undoing}
use Rattle.rw_worker.specs.Writing.{begun_then, committed, edited_then, ends, numbered_by, replied_ok, writing_of}

-- session 3 begins a transaction, in which 2 rows are changed
abbrev pub begins : Work
begins = numbered_by None 3 (λ trx. replied_ok trx)

pub record ExampleEdits : Type 0 where
  pub nothing : writing_of None false 3 0 [] ≡ tells (Replied (reply.Ok 0))
  pub meta : wanted begins ≡ Some (FetchesFixed false fixed.Meta)
  pub slots : wanted (after begins (Handed (unmade 0))) ≡ Some (FetchesFixed false fixed.Slots)
  pub number : begun_then (λ trx. replied_ok trx) (told.Begun 5) ≡ replied_ok 5
  pub full : begun_then (λ trx. replied_ok trx) told.TrxFull ≡ tells (Replied reply.TrxFull)
  pub next : edited_then (replied_ok 2) edited.Made ≡ replied_ok 2
  pub space : edited_then (replied_ok 2) edited.SpaceFull ≡ tells (Replied reply.SpaceFull)
  pub lasts : ends true 3 2 ≡ replied_ok 2
  pub commits : wanted (ends false 3 2) ≡ Some (FetchesFixed false fixed.Meta)
  pub appends : wanted (committed 2 (told.Committed 9)) ≡ Some Appends
  pub reply : after (committed 2 (told.Committed 9)) Made ≡ replied_ok 2
  pub looks : wanted (undoing 3) ≡ Some (FetchesFixed true fixed.Slots)
  pub again : taken_then 3 (λ at. rested) taken.Again ≡ tells (Again 3)
  pub rests : freed told.Freed ≡ tells Rested
