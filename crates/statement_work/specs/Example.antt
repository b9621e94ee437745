-- Stated: a work that takes a stamp, reads a root and its child, and tells the child's number; what
-- obstacles do to it, and that it keeps its latches.
use Rattle.std.specs.Prelude.{◌≡◌, ℕ, false, true, [], ◌∷◌, Some}
use Rattle.page_image.specs.Image.{Image, unmade}
use Rattle.sql_database.specs.declared.replies.SqlReply.TheVariants as reply
use Rattle.question_tree.specs.Questions.{tells, asks, wanted, after}
use Rattle.range_reader.specs.declared.fetch.Fetch.TheVariants as fetch
use Rattle.statement_work.specs.declared.acts.Obstacle.TheVariants as obstacle
use Rattle.statement_work.specs.declared.acts.FixedPage.TheVariants as fixed
use Rattle.statement_work.specs.declared.acts.Deed.TheVariants as deed
use Rattle.statement_work.specs.declared.acts.Act.TheVariants as act
use Rattle.statement_work.specs.Terms.{Terms}
use Rattle.statement_work.specs.Works.{Fetches, FetchesFixed, Releases, Stamps, Handed, Stamped, Made, Found, Replied, Again, Work, image_in, uses}
use Rattle.statement_work.specs.Acting.{Does, anew, met}
use Rattle.statement_work.specs.Latches.{KeepsLatches}

-- a reader of numbers, which runs no plan, and replies the number that it found
abbrev pub numbers : Terms
numbers = record {
  Aim = ℕ;
  Serves = λ a plan. ⊥;
  Finding = ℕ;
  Replies = λ n r. r ≡ reply.Ok n;
}

abbrev pub releasing : ℕ → Work numbers → Work numbers
releasing p w = asks (Releases p) (λ x. w)

abbrev pub told_number : Image → Work numbers
told_number im = releasing 7 (releasing 8 (tells (Found im.page)))

abbrev pub down : Work numbers
down = asks (Fetches false (fetch.Child 8)) (λ x. told_number (image_in x))

abbrev pub reading : Work numbers
reading = asks Stamps (λ x. asks (Fetches false (fetch.Root 7)) (λ y. down))

-- an undoing that looks at the slots, and begins anew
abbrev pub undoing : ℕ → Work numbers
undoing session = asks (FetchesFixed true fixed.Slots) (λ x. tells (Again session))

pub record ExampleWorks : Type 0 where
  pub first : wanted reading ≡ Some Stamps
  pub deed : Does numbers (after reading (Stamped 3)) (act.Do (deed.Fetch (fetch.Root 7)))
  pub busy : met down obstacle.Lost ≡ down
  pub full : met down (obstacle.PoolFull 4) ≡ tells (Replied (reply.PoolFull 4))
  pub calm : met (undoing 2) (obstacle.PoolFull 4) ≡ undoing 2
  pub last : after (after (after down (Handed (unmade 8))) Made) Made ≡ tells (Found 8)
  pub reply : Does numbers (tells (Found 8)) (act.Reply (reply.Ok 8))
  pub again : anew undoing (after (undoing 2) (Handed (unmade 1))) ≡ undoing 2
  pub images : uses (Stamped 3 ∷ (Handed (unmade 7) ∷ (Made ∷ []))) ≡ unmade 7 ∷ []
  pub polite : KeepsLatches true reading
  pub silent : KeepsLatches false (undoing 2)
