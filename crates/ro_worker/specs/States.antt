-- For the proofs: the work that is left to a worker, by its fields.
use Rattle.std.specs.Prelude.{◌≡◌, ℕ, Option, Some}
use Rattle.question_tree.specs.Questions.{tells, asks, stops, wanted}
use Rattle.statement_reader.specs.declared.asking.Read.{Read}
use Rattle.statement_reader.specs.Kept.{asking_of}
use Rattle.statement_reader.specs.Question.{Reading}
use Rattle.statement_work.specs.declared.acts.Act.TheVariants as act
use Rattle.statement_work.specs.Works as works
use Rattle.statement_work.specs.Works.{Stamps, stamp_in}
use Rattle.statement_work.specs.Acting.{Does}
use Rattle.ro_worker.specs.declared.serving.Serving.{Serving}
use Rattle.ro_worker.specs.declared.turns.State.{State}
use Rattle.ro_worker.specs.declared.turns.State.TheVariants as state
use Rattle.ro_worker.specs.declared.turns.Turn.{Turn}
use Rattle.ro_worker.specs.declared.turns.Turn.TheVariants as turn
use Rattle.ro_worker.specs.declared.worker.RoWorker.{RoWorker}
use Rattle.ro_worker.specs.Wishes.{reads_only, wish_of}
use Rattle.ro_worker.specs.Serving.{ReadWork, begun, freed, latched, reads}

-- by the page that is to be released, the one that is held, and what is left to read
unfoldable pub serving_with : Option ℕ → Option ℕ → Reading Read → ReadWork
serving_with free held m = freed free (latched held m)

abbrev pub serving_of : Serving → ReadWork
serving_of s = serving_with s.free s.held (asking_of s.asking)

abbrev pub TellsRead : ReadWork → Read → Type 0
TellsRead w read = w ≡ tells (works.Found read)

abbrev pub state_of : State → ReadWork
state_of state.Idle = stops
state_of state.Beginning = asks Stamps (λ x. begun (stamp_in x))
state_of (state.Stamping w) = asks Stamps (λ x. reads w.statement w.own (stamp_in x))
state_of (state.Reading s) = serving_of s

abbrev pub work_of : RoWorker → ReadWork
work_of w = state_of w.state

-- what a turn makes of a work
abbrev pub Comes : ReadWork → Turn → Type 0
Comes w (turn.Works s q) = (state_of s ≡ w) × (wanted w ≡ Some (wish_of q))
Comes w (turn.Replies r) = Does reads_only w (act.Reply r)
Comes w turn.Rests = Does reads_only w act.Rest
