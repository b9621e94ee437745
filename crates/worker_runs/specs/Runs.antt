-- Stated: the turns of a worker, its runs, and what a run comes to.
use Rattle.std.specs.Prelude.{◌≡◌, ◌⊎◌, ◌++◌, ℕ, List, [], ◌∷◌, Option, Some, None}
use Rattle.page_image.specs.Image.{Image}
use Rattle.sql_database.specs.declared.replies.SqlReply.{SqlReply}
use Rattle.question_tree.specs.Questions.{after, Leads}
use Rattle.statement_work.specs.declared.acts.Act.{Act}
use Rattle.statement_work.specs.Terms.{Terms}
use Rattle.statement_work.specs.Works.{Input, Handed, WorkOf, Work, Fits, AskedFor, uses}
use Rattle.statement_work.specs.Acting.{Does, Goes, anew}
use Rattle.statement_work.specs.Replies.{EndsInReply, IsReplyOver}

abbrev pub IsAskedFor : {A F : Type 0} → WorkOf A F → Image → Type 0
IsAskedFor w im = AskedFor w (Handed im)

-- the next act, and what is left
abbrev pub IsNext : (t : Terms) → Work t → Act → Work t → Type 0
IsNext t w act new = Does t w act × Goes w new

-- a turn: something that was asked for was given, and the worker goes on behind it
abbrev pub IsTurn : (t : Terms) → (ℕ → Work t) → Input → Work t → Act → Work t → Type 0
IsTurn t undoes x w act new = AskedFor w x × IsNext t (anew undoes (after w x)) act new

-- it was told of a page, or that there was none
abbrev pub IsTold : (t : Terms) → (ℕ → Work t) → Work t → Option Image → Act → Work t → Type 0
IsTold t undoes w None act new = IsNext t w act new
IsTold t undoes w (Some im) act new = IsTurn t undoes (Handed im) w act new

-- a turn, with the images that were handed out before it and with it; where a try was lost, the worker
-- goes on where it stands
abbrev pub IsTurnOver : (t : Terms) → (ℕ → Work t) → Work t → List Image → Act → Work t → List Image
    → Type 0
IsTurnOver t undoes w before act new later =
    ((x : Input) × IsTurn t undoes x w act new × (later ≡ before ++ uses (x ∷ [])))
    ⊎ (IsNext t w act new × (later ≡ before))

-- a run up to now: what was given so far leads to a work, of which the act and the worker tell
abbrev pub IsRun : (t : Terms) → Work t → List Input → Act → Work t → Type 0
IsRun t w xs act now =
    (m : Work t) × Leads Fits w xs m × EndsInReply m × Does t m act × Goes m now

-- such a run, over just the images that were handed out since it began
abbrev pub IsRunOver : (t : Terms) → Work t → List Image → Act → Work t → List Image → Type 0
IsRunOver t w before act now later =
    (xs : List Input) × IsRun t w xs act now × (later ≡ before ++ uses xs)

-- the reply is the statement's over just the images that were handed out, in their order
abbrev pub IsAnswered : (t : Terms) → Work t → (List Input → t.Finding → Type 0) → List Image
    → List Image → SqlReply → Type 0
IsAnswered t w Finds before later r =
    (xs : List Input) × IsReplyOver t w Finds xs r × (later ≡ before ++ uses xs)
