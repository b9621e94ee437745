-- Stated: storage in the words of the laws of the log and of the pool.
use Rattle.std.specs.Prelude.{◌≡◌, ℕ, List, ◌++◌, length}
use Rattle.redo_record.specs.declared.redo.Group.{Group}
use Rattle.redo_record.specs.Spelling.{group_bytes}
use Rattle.redo_durability.specs.Store.{Store, Answer, Answer.Kept as KeptAt, Answer.WrongOffset as WrongAt, Answer.Fenced as FencedAt}
use Rattle.message_model.specs.declared.Appended.{Appended}
use Rattle.message_model.specs.declared.Appended.TheVariants.{Kept, WrongOffset, Fenced}
use Rattle.message_model.specs.declared.Got.{Got}
use Rattle.message_model.specs.declared.Got.TheVariants.{Image, NotYet}
use Rattle.pool_laws.specs.Calls.{StorageAnswer, StorageAnswer.GotImage, StorageAnswer.NotYet as GotNotYet}
use Rattle.log_chunks.specs.Log.{Log}
use Rattle.page_coherence.specs.Page.{Page}
use Rattle.page_coherence.specs.Fold.{history_of}

-- how many bytes a group takes in the log
abbrev pub byte_count : Group → ℕ
byte_count g = length (group_bytes g)

-- the store of the laws of the log
abbrev pub store_of : Log → Store Group
store_of log = record { epoch = log.epoch; groups = log.groups }

-- an answer of the log store as those laws have it
abbrev pub said : Appended → Answer
said (Kept tail) = KeptAt tail
said (WrongOffset tail) = WrongAt tail
said (Fenced epoch) = FencedAt epoch

-- an answer to a request for a page as the laws of the pool have it
abbrev pub got_as : Got → StorageAnswer
got_as (Image image) = GotImage image
got_as (NotYet applied) = GotNotYet

-- the page's history is that of a log that goes on behind these groups
pub record HasLog (P : Page) (p : ℕ) (groups rest : List Group) : Type 0 where
  pub number : P.number ≡ p
  pub history : P.log ≡ history_of p (groups ++ rest)
