-- Stated: that a statement ends in a reply, and that a reply is one to what was given for it.
use Rattle.std.specs.Prelude.{◌≡◌, List}
use Rattle.sql_database.specs.declared.replies.SqlReply.{SqlReply}
use Rattle.question_tree.specs.Questions.{tells, asks, stops, Gives}
use Rattle.statement_work.specs.Terms.{Terms}
use Rattle.statement_work.specs.Works.{Input, Told, Found, Replied, Rested, Again, WorkOf, Work, Fits}

abbrev pub IsReply : {F : Type 0} → Told F → Type 0
IsReply (Found a) = Unit {0}
IsReply (Replied r) = Unit {0}
IsReply Rested = ⊥
IsReply (Again session) = ⊥

-- whatever is given, what is told at the end is a reply
abbrev pub EndsInReply : {A F : Type 0} → WorkOf A F → Type 0
EndsInReply (tells a) = IsReply a
EndsInReply (asks q k) = (x : Input) → EndsInReply (k x)
EndsInReply stops = Unit {0}

-- what was told allows the reply; what was found is what the statement finds
abbrev pub Allows : (t : Terms) → (List Input → t.Finding → Type 0) → List Input → Told t.Finding
    → SqlReply → Type 0
Allows t Finds xs (Found a) r = Finds xs a × t.Replies a r
Allows t Finds xs (Replied s) r = r ≡ s
Allows t Finds xs Rested r = ⊥
Allows t Finds xs (Again session) r = ⊥

-- the work was given exactly this, in this order, and tells what allows the reply
abbrev pub IsReplyOver : (t : Terms) → Work t → (List Input → t.Finding → Type 0) → List Input
    → SqlReply → Type 0
IsReplyOver t w Finds xs r = (a : Told t.Finding) × Gives Fits w xs a × Allows t Finds xs a r
