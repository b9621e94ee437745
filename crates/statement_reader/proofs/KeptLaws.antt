-- What a reader that keeps its statement does to the work that is left to it.
use Rattle.std.proofs.Common.{◌≡◌, Bool, true, false, List, [], ◌∷◌, ◌++◌, Option, Some, None, IsTrue, ◌↔◌, refl, sym, ◌∙◌, ap, subst, append-nil}
use Rattle.std.specs.Prelude.{option_map}
use Rattle.page_image.specs.Image.{Image}
use Rattle.sql_statements.specs.declared.statements.Stmt.{Stmt}
use Rattle.sql_exec.specs.declared.outcomes.Outcome.{Outcome}
use Rattle.sql_exec.specs.Answer.{Answers, ComesFrom}
use Rattle.question_tree.specs.Questions.{tells, asks, stops, wanted, told, after, then_on, Gives}
use Rattle.question_tree.proofs.QuestionLaws.{split}
use Rattle.range_reader.specs.declared.fetch.Fetch.{Fetch}
use Rattle.range_reader.specs.declared.fetch.Snapshot.{Snapshot}
use Rattle.range_reader.specs.Finding.{Asked, Fits}
use Rattle.range_reader.proofs.OrderLaws.{orderly_on}
use Rattle.statement_reader.specs.declared.asking.Read.{Read}
use Rattle.statement_reader.specs.declared.reader.StatementReader.{StatementReader}
use Rattle.statement_reader.specs.declared.tables.Found.{Found}
use Rattle.statement_reader.specs.Answered.{StatementFound}
use Rattle.statement_reader.specs.Kept.{Kept, reading_in, asking_of, ReadyIn}
use Rattle.statement_reader.specs.Machine.{IsReady, present, reading_of}
use Rattle.statement_reader.specs.Question.{Reading, question}
use Rattle.statement_reader.specs.Reads.{read_of, told_for, reads, IsReadOver, TellsRead, TellsOutcome, ReadsOrderly}
use Rattle.statement_reader.specs.Spelling.{decoder}
use Rattle.statement_reader.proofs.AnswerLaws.{tells_statement, statements_orderly}
use Rattle.statement_reader.proofs.ReaderLaws.{asked_now}

-- ---- a work that is told with its statement

told_wants : (st : Stmt) (m : Reading Found) → wanted (told_for st m) ≡ wanted m
told_wants st (tells a) = refl
told_wants st (asks q k) = refl
told_wants st stops = refl

told_after : (st : Stmt) (m : Reading Found) (im : Image) → after (told_for st m) im ≡ told_for st (after m im)
told_after st (tells a) im = refl
told_after st (asks q k) im = refl
told_after st stops im = refl

told_asks : (st : Stmt) (m : Reading Found) (im : Image) → Asked (told_for st m) im → Asked m im
told_asks st (tells a) im h = h
told_asks st (asks q k) im h = h
told_asks st stops im h = h

asks_told : (st : Stmt) (m : Reading Found) (im : Image) → Asked m im → Asked (told_for st m) im
asks_told st (tells a) im h = h
asks_told st (asks q k) im h = h
asks_told st stops im h = h

told_tells : (st : Stmt) (m : Reading Found) → told (told_for st m) ≡ option_map (read_of st) (told m)
told_tells st (tells a) = refl
told_tells st (asks q k) = refl
told_tells st stops = refl

-- ---- a reader, or none

pub begins : (s : Snapshot) (st : Stmt) (r : StatementReader) → reading_of decoder st r ≡ question decoder s st
    → asking_of (record { statement = st; reader = Some r }) ≡ reads s st
unfolding asking_of reads
begins s st r e = ap (told_for st) e

pub ready_in : (o : Option StatementReader) (r : StatementReader) → o ≡ Some r → ReadyIn o → IsReady r
ready_in o r e h = subst ReadyIn e h

kept_in : (k : Kept) (st : Stmt) (o x : Option StatementReader) → record { statement = st; reader = o } ≡ k → o ≡ x
    → asking_of k ≡ told_for st (reading_in st x)
unfolding asking_of
kept_in k st o x is e =
    sym (ap asking_of is) ∙ ap (λ (y : Option StatementReader). told_for st (reading_in st y)) e

pub none_wanted : (k : Kept) (st : Stmt) (o : Option StatementReader) → record { statement = st; reader = o } ≡ k → o ≡ None
    → None ≡ wanted (asking_of k)
none_wanted k st o is e = sym (ap wanted (kept_in k st o None is e))

pub some_wanted : (k : Kept) (st : Stmt) (o : Option StatementReader) (r : StatementReader) (q : Option Fetch)
    → record { statement = st; reader = o } ≡ k → o ≡ Some r → q ≡ wanted (reading_of decoder st r) → q ≡ wanted (asking_of k)
some_wanted k st o r q is e w = w ∙ sym (ap wanted (kept_in k st o (Some r) is e) ∙ told_wants st (reading_of decoder st r))

abbrev AskedFor : Image → Reading Read → Type 0
AskedFor im m = Asked m im

kept_asks : (k : Kept) (st : Stmt) (o x : Option StatementReader) (im : Image) → record { statement = st; reader = o } ≡ k → o ≡ x
    → Asked (asking_of k) im → Asked (reading_in st x) im
kept_asks k st o x im is e h = told_asks st (reading_in st x) im (subst (AskedFor im) (kept_in k st o x is e) h)

asks_kept : (k : Kept) (st : Stmt) (o x : Option StatementReader) (im : Image) → record { statement = st; reader = o } ≡ k → o ≡ x
    → Asked (reading_in st x) im → Asked (asking_of k) im
asks_kept k st o x im is e h = subst (AskedFor im) (sym (kept_in k st o x is e)) (asks_told st (reading_in st x) im h)

false_true : {A : Type 0} → false ≡ true → A
false_true e = absurd (apart e)
  where
    apart : false ≡ true → ⊥
    apart q = cc

pub none_asked : (k : Kept) (st : Stmt) (o : Option StatementReader) (im : Image) → record { statement = st; reader = o } ≡ k → o ≡ None
    → (IsTrue false ↔ Asked (asking_of k) im)
none_asked k st o im is e = ((λ t. false_true t), (λ h. absurd (kept_asks k st o None im is e h)))

pub some_asked : (k : Kept) (st : Stmt) (o : Option StatementReader) (r : StatementReader) (im : Image) (b : Bool)
    → record { statement = st; reader = o } ≡ k → o ≡ Some r → (IsTrue b ↔ Asked (reading_of decoder st r) im)
    → (IsTrue b ↔ Asked (asking_of k) im)
some_asked k st o r im b is e h = ((λ t. asks_kept k st o (Some r) im is e (h.0 t)), (λ a. h.1 (kept_asks k st o (Some r) im is e a)))

pub none_told : (k : Kept) (st : Stmt) (o : Option StatementReader) → record { statement = st; reader = o } ≡ k → o ≡ None
    → None ≡ told (asking_of k)
none_told k st o is e = sym (ap told (kept_in k st o None is e))

pub some_told : (k : Kept) (st : Stmt) (o : Option StatementReader) (r : StatementReader) (a : Option Found)
    → record { statement = st; reader = o } ≡ k → o ≡ Some r → a ≡ told (reading_of decoder st r)
    → option_map (read_of st) a ≡ told (asking_of k)
some_told k st o r a is e h =
    sym (ap told (kept_in k st o (Some r) is e) ∙ (told_tells st (reading_of decoder st r) ∙ ap (option_map (read_of st)) (sym h)))

-- ---- a page is given

pub nothing_asked : (k : Kept) (st : Stmt) (o : Option StatementReader) (im : Image) → record { statement = st; reader = o } ≡ k → o ≡ None
    → Asked (asking_of k) im → ⊥
nothing_asked k st o im is e h = kept_asks k st o None im is e h

pub present_asked : (k : Kept) (st : Stmt) (o : Option StatementReader) (r : StatementReader) (im : Image)
    → record { statement = st; reader = o } ≡ k → o ≡ Some r → ReadyIn o → Asked (asking_of k) im → Asked (present r) im
present_asked k st o r im is e ready h =
    asked_now decoder st r.progress r.reader im (ready_in o r e ready) (kept_asks k st o (Some r) im is e h)

pub answered : (k : Kept) (st : Stmt) (o : Option StatementReader) (r new : StatementReader) (im : Image)
    → record { statement = st; reader = o } ≡ k → o ≡ Some r
    → reading_of decoder st new ≡ after (reading_of decoder st r) im
    → asking_of (record { statement = st; reader = Some new }) ≡ after (asking_of k) im
unfolding asking_of
answered k st o r new im is e next =
    ap (told_for st) next
    ∙ (sym (told_after st (reading_of decoder st r) im) ∙ sym (ap (λ (m : Reading Read). after m im) (kept_in k st o (Some r) is e)))

pub given_up : (st : Stmt) (o : Option StatementReader) → o ≡ None → asking_of (record { statement = st; reader = o }) ≡ stops
unfolding asking_of
given_up st o e = ap (λ (x : Option StatementReader). told_for st (reading_in st x)) e

-- ---- what is told

pub tells_read : TellsRead
unfolding reads
tells_read s st us r h =
    let p = split Fits (question decoder s st) (λ a. tells (read_of st a)) us r h in
    go p.0 p.1 p.2 p.3 p.4 p.5
  where
    go : (a : Found) (ys zs : List Image) → us ≡ ys ++ zs → Gives Fits (question decoder s st) ys a
        → Gives Fits (tells (read_of st a)) zs r → IsReadOver s st us r
    go a ys [] e g t =
        let found : StatementFound decoder s st us a =
        tells_statement decoder s st us a (subst (λ (xs : List Image). Gives Fits (question decoder s st) xs a) (sym (e ∙ append-nil ys)) g) in
        record {
          statement = sym (ap (λ (x : Read). x.statement) t);
          found = subst (λ (x : Read). StatementFound decoder s st us x.found) t found;
        }
    go a ys (z ∷ zs) e g t = absurd t

pub tells_outcome : TellsOutcome
tells_outcome s st us r o h is =
    let over = tells_read s st us r h in (
      r.found,
      over.found,
      subst (λ (x : Stmt). ComesFrom (Answers r.found.schemas r.found.rows x) o) over.statement is,
    )

pub reads_orderly : ReadsOrderly
unfolding reads
reads_orderly s st down =
    orderly_on down (question decoder s st) (λ a. tells (read_of st a)) (statements_orderly decoder s st down) (λ d a. tt)
