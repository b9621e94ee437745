-- Lines that make turns one after the other are answered in turn.
use Rattle.std.proofs.Common.{◌≡◌, ℕ, List, [], ◌∷◌, ◌++◌, ◌-◌, subst, refl, sym, ap, ◌∙◌, arith, true, nat_lt}
use Rattle.sql_database.specs.Database.{Database}
use Rattle.sql_database.specs.declared.replies.SqlReply.{SqlReply}
use Rattle.table_machine.specs.declared.entries.Entry.{Entry}
use Rattle.table_machine.specs.declared.entries.Entry.TheVariants as entry
use Rattle.table_machine.specs.Laws.{JoinServes, LinesAreAnswered}
use Rattle.sql_database.specs.Rules.{FairAnswers}
use Rattle.table_machine.specs.Language.{Language}
use Rattle.table_machine.specs.Machine.{Machine, after_commits, committed, start}
use Rattle.table_machine.specs.Moves.{joined}
use Rattle.table_machine.specs.Runs.{Serves}
use Rattle.table_machine.specs.Serving.{HaveRoom, IsAnswered, IsServing, ServesInTurn, TableState, Turns, at_rest, replies_in}
use Rattle.table_machine.specs.Steps.{Step}
use Rattle.table_machine.proofs.InTurn.{lines_lead, one_reply}
use Rattle.table_machine.proofs.TurnLaws.{turns}

-- the lines are answered in turn with these replies, and where each has room by every entry that may stand
record AreServed (language : Language) (m : Machine) (lines : List (List ℕ)) (rs : List SqlReply) (t : TableState) : Type 0 where
  entries : List Entry
  next : Machine
  in_turn : ServesInTurn language 0 m lines entries next
  told : replies_in entries ≡ rs
  serves : IsServing next t
  exact : HaveRoom rs → Serves language 0 m lines entries next

serve : (language : Language) → FairAnswers language.answers → (lines : List (List ℕ)) (rs : List SqlReply) (m : Machine) (old new : TableState) → IsServing m old → Turns language old lines rs new → AreServed language m lines rs new
serve language fair [] rs m old new h t =
    record { entries = []; next = m; in_turn = (refl, refl); told = sym t.0; serves = subst (IsServing m) (sym t.1) h; exact = λ room. (refl, refl) }
serve language fair (line ∷ lines) rs m old new h t =
    let one : IsAnswered language m line t.1 t.2 = turns language fair m old t.2 line t.0 t.1 h t.4 t.5 in
    let rest : AreServed language one.next lines t.3 new = serve language fair lines t.3 one.next t.2 new one.serves t.6 in
    record {
      entries = one.entries ++ rest.entries;
      next = rest.next;
      in_turn = (one.next, one.entries, t.1, rest.entries, one.in_turn, rest.in_turn, refl);
      told = one_reply language 0 m line one.entries rest.entries t.1 one.next one.in_turn ∙ (ap (λ l. t.1 ∷ l) rest.told ∙ sym t.7);
      serves = rest.serves;
      exact = λ room.
          let each : HaveRoom (t.1 ∷ t.3) = subst HaveRoom t.7 room in
          (one.next, one.entries, rest.entries, one.exact each.0, rest.exact each.1, refl);
    }

no_commits : (base : Database) (first : ℕ) → committed (joined (start 1 base first) 0 0) first ≡ base
unfolding after_commits
no_commits base first = ap (after_commits base (λ n. []) first) (let e : first - first ≡ 0 = omega arith in e)

pub joins : (language : Language) → JoinServes language
joins language nodes base first name some = (
  joined (start nodes base first) 0 0,
  (λ t below. refl, refl, refl),
  record {
    up = let e : nat_lt 0 nodes ≡ true = grind arith in e;
    writer = refl;
    alone = refl;
    none_waits = refl;
    first = omega arith;
    tables = no_commits base first;
    session = refl;
  },
)

pub lines : (language : Language) → FairAnswers language.answers → LinesAreAnswered language
lines language fair nodes base first name ls rs new some t =
    let ready : (m : Machine) × Step language (start nodes base first) (entry.Join 0 name 0) m × IsServing m (at_rest base) = joins language nodes base first name some in
    let all : AreServed language ready.0 ls rs new = serve language fair ls rs ready.0 (at_rest base) new ready.2 t in (
      entry.Join 0 name 0 ∷ all.entries,
      record {
        in_turn = (ready.0, all.next, all.entries, ready.1, all.in_turn, refl);
        told = all.told;
        serial = λ room. (ready.0, all.next, all.entries, ready.1, all.exact room, refl);
      },
      (all.next, (ready.0, ready.1, lines_lead language 0 ls all.entries ready.0 all.next all.in_turn), all.serves.tables),
    )
