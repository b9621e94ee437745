-- Entries that answer lines in turn.
use Rattle.std.proofs.Common.{◌≡◌, ℕ, List, [], ◌∷◌, ◌++◌, refl, sym, ap, subst, ◌∙◌, inl, inr, append_assoc}
use Rattle.std.specs.List.{AllByRecursion}
use Rattle.sql_database.specs.declared.replies.SqlReply.{SqlReply}
use Rattle.table_machine.specs.declared.entries.Entry.{Entry}
use Rattle.table_machine.specs.declared.entries.Entry.TheVariants as entry
use Rattle.table_machine.specs.Language.{Language}
use Rattle.table_machine.specs.Machine.{Machine, start}
use Rattle.table_machine.specs.Runs.{IfMay, IsPoolFull, Leads}
use Rattle.table_machine.specs.Serving.{AnswersInTurn, IsAnswered, IsServing, IsWork, ServesInTurn, TableState, Turns, replies_in, reply_in}
use Rattle.table_machine.specs.Steps.{Step}
use Rattle.table_machine.specs.Laws.{InTurnIsARun, TurnsGoOn}
use Rattle.table_machine.proofs.RunLaws.{may, on, one}

pub work_on : (xs ys : List Entry) → AllByRecursion (IsWork 0) xs → AllByRecursion (IsWork 0) ys → AllByRecursion (IsWork 0) (xs ++ ys)
work_on [] ys p q = q
work_on (x ∷ xs) ys p q = (p.0, work_on xs ys p.1 q)

may_work : (language : Language) (e : Entry) (es : List Entry) (old new : Machine) → IsWork 0 e → IfMay language old e es new → AllByRecursion (IsWork 0) es
may_work language e es old new w (inl a) = subst (AllByRecursion (IsWork 0)) (sym a.1) (w, tt)
may_work language e es old new w (inr b) = subst (AllByRecursion (IsWork 0)) (sym b.1) tt

no_reply : (s : ℕ) (e : Entry) → IsWork s e → reply_in e ≡ []
no_reply s (entry.Reply t r) w = absurd w
no_reply s e w = refl

pub no_replies : (s : ℕ) (es : List Entry) → AllByRecursion (IsWork s) es → replies_in es ≡ []
no_replies s [] w = refl
no_replies s (e ∷ es) w = ap (λ l. l ++ replies_in es) (no_reply s e w.0) ∙ no_replies s es w.1

replies_on : (xs ys : List Entry) → replies_in (xs ++ ys) ≡ replies_in xs ++ replies_in ys
replies_on [] ys = refl
replies_on (x ∷ xs) ys = ap (λ l. reply_in x ++ l) (replies_on xs ys) ∙ sym (append_assoc (reply_in x) (replies_in xs) (replies_in ys))

-- the one reply of a line that is answered in turn
pub one_reply : (language : Language) (s : ℕ) (m : Machine) (line : List ℕ) (es more : List Entry) (r : SqlReply) (new : Machine)
    → AnswersInTurn language s m line es r new → replies_in (es ++ more) ≡ r ∷ replies_in more
one_reply language s m line es more r new h =
    replies_on es more
    ∙ ap (λ l. l ++ replies_in more) (ap replies_in h.all ∙ (replies_on h.work (entry.Reply s r ∷ []) ∙ ap (λ l. l ++ r ∷ []) (no_replies s h.work h.goes_on)))

-- ---- every entry that may stand

module _ (language : Language) (m asked : Machine) (line : List ℕ) (submits : Step language m (entry.Submit 0 line) asked)
    (snap : List Entry) (seeing : Machine) (snaps : IfMay language asked (entry.Snap 0) snap seeing)
    (exec : List Entry) (evaluated : Machine) (execs : IfMay language seeing (entry.Exec 0) exec evaluated)
    (enqueue : List Entry) (waiting : Machine) (enqueues : IfMay language evaluated (entry.Enqueue 0) enqueue waiting)
    (settle : List Entry) (made : Machine) (settles : IfMay language waiting entry.Settle settle made)
    (r : SqlReply) (room : ¬ IsPoolFull r) (next : Machine) (replies : Step language made (entry.Reply 0 r) next) (t : TableState) (serves : IsServing next t) where
  abbrev work : List Entry
  work = snap ++ (exec ++ (enqueue ++ settle))

  joined : snap ++ (exec ++ (enqueue ++ (settle ++ entry.Reply 0 r ∷ []))) ≡ work ++ entry.Reply 0 r ∷ []
  joined = simp append_assoc

  pub answered : IsAnswered language m line r t
  answered =
      record {
        entries = entry.Submit 0 line ∷ (snap ++ (exec ++ (enqueue ++ (settle ++ entry.Reply 0 r ∷ []))));
        next = next;
        in_turn =
            record {
              asked = asked;
              submits = submits;
              made = made;
              work = work;
              goes_on =
                  work_on snap (exec ++ (enqueue ++ settle)) (may_work language (entry.Snap 0) snap asked seeing refl snaps)
                  (work_on exec (enqueue ++ settle) (may_work language (entry.Exec 0) exec seeing evaluated refl execs)
                  (work_on enqueue settle (may_work language (entry.Enqueue 0) enqueue evaluated waiting refl enqueues)
                  (may_work language entry.Settle settle waiting made tt settles)));
              leads =
                  on language snap (exec ++ (enqueue ++ settle)) asked seeing made (may language (entry.Snap 0) snap asked seeing snaps)
                  (on language exec (enqueue ++ settle) seeing evaluated made (may language (entry.Exec 0) exec seeing evaluated execs)
                  (on language enqueue settle evaluated waiting made (may language (entry.Enqueue 0) enqueue evaluated waiting enqueues)
                  (may language entry.Settle settle waiting made settles)));
              replies = replies;
              all = ap (λ l. entry.Submit 0 line ∷ l) joined;
            };
        serves = serves;
        exact = λ full.
            record {
              asked = asked;
              submits = submits;
              seeing = seeing;
              snap = snap;
              snaps = snaps;
              evaluated = evaluated;
              exec = exec;
              execs = execs;
              waiting = waiting;
              enqueue = enqueue;
              enqueues = enqueues;
              made = made;
              settle = settle;
              settles = settles;
              answer = r;
              room = room;
              replies = replies;
              all = refl;
            };
      }

-- ---- runs

in_turn_leads : (language : Language) (s : ℕ) (m : Machine) (line : List ℕ) (es : List Entry) (r : SqlReply) (new : Machine) → AnswersInTurn language s m line es r new → Leads language m es new
in_turn_leads language s m line es r new h =
    subst (λ l. Leads language m l new) (sym h.all)
    (h.asked, h.submits, on language h.work (entry.Reply s r ∷ []) h.asked h.made new h.leads (one language (entry.Reply s r) h.made new h.replies))

pub lines_lead : (language : Language) (s : ℕ) (lines : List (List ℕ)) (es : List Entry) (old new : Machine) → ServesInTurn language s old lines es new → Leads language old es new
lines_lead language s [] es old new v = subst (λ l. Leads language old l new) (sym v.0) v.1
lines_lead language s (line ∷ lines) es old new v =
    subst (λ l. Leads language old l new) (sym v.6)
    (on language v.1 v.3 old v.0 new (in_turn_leads language s old line v.1 v.2 v.0 v.4) (lines_lead language s lines v.3 v.0 new v.5))

pub is_run : (language : Language) → InTurnIsARun language
is_run language nodes base first name lines es h =
    (h.1, subst (λ l. Leads language (start nodes base first) l h.1) (sym h.5) (h.0, h.3, lines_lead language 0 lines h.2 h.0 h.1 h.4))

-- ---- turns

pub more_turns : (language : Language) → TurnsGoOn language
more_turns language [] more rs ss old between new v w =
    subst (λ l. Turns language old more (l ++ ss) new) (sym v.0) (subst (λ t. Turns language t more ss new) v.1 w)
more_turns language (line ∷ lines) more rs ss old between new v w =
    (v.0, v.1, v.2, v.3 ++ ss, v.4, v.5, more_turns language lines more v.3 ss v.2 between new v.6 w, ap (λ l. l ++ ss) v.7)
