-- What a reader tells is of a SELECT.
use Rattle.std.proofs.Common.{◌≡◌, Bool, true, List, [], ◌∷◌, Option, Some, None, sym, ◌∙◌, ap, subst}
use Rattle.page_image.specs.Image.{Image}
use Rattle.sql_statements.specs.declared.statements.Stmt.{Stmt}
use Rattle.sql_database.specs.Statements.{is_select}
use Rattle.question_tree.specs.Questions.{Gives, after, asks, stops, tells, told}
use Rattle.range_reader.specs.declared.fetch.Snapshot.{Snapshot}
use Rattle.range_reader.specs.Finding.{Asked, Fits}
use Rattle.statement_reader.specs.declared.asking.Read.{Read}
use Rattle.statement_reader.specs.Kept.{Kept, asking_of}
use Rattle.statement_reader.specs.Question.{Reading}
use Rattle.statement_reader.specs.Reads.{reads}
use Rattle.statement_reader.proofs.KeptLaws.{tells_read}
use Rattle.ro_worker.specs.Selects.{TellsSelects}

nothing : {A : Type 0} {a : A} → None ≡ Some a → ⊥
nothing e = cc

the_same : {A : Type 0} {a b : A} → Some a ≡ Some b → a ≡ b
the_same e = cc

select_reads : (s : Snapshot) (st : Stmt) → is_select st ≡ true → TellsSelects (reads s st)
select_reads s st e us r h = ap is_select (tells_read s st us r h).statement ∙ e

pub begun_selects : (k : Kept) (s : Snapshot) (st : Stmt) → asking_of k ≡ reads s st → is_select st ≡ true → TellsSelects (asking_of k)
begun_selects k s st e select = subst TellsSelects (sym e) (select_reads s st select)

after_gives : (m : Reading Read) (im : Image) (us : List Image) (r : Read) → Asked m im → Gives Fits (after m im) us r → Gives Fits m (im ∷ us) r
after_gives (tells a) im us r h g = absurd h
after_gives (asks q k) im us r h g = (h, g)
after_gives stops im us r h g = absurd h

selects_after : (m : Reading Read) (im : Image) → Asked m im → TellsSelects m → TellsSelects (after m im)
selects_after m im h s us r g = s (im ∷ us) r (after_gives m im us r h g)

pub still_selects : (k new : Kept) (im : Image) → asking_of new ≡ after (asking_of k) im → Asked (asking_of k) im → TellsSelects (asking_of k)
    → TellsSelects (asking_of new)
still_selects k new im e h s = subst TellsSelects (sym e) (selects_after (asking_of k) im h s)

told_gives : (m : Reading Read) (r : Read) → told m ≡ Some r → Gives Fits m [] r
told_gives (tells a) r e = the_same e
told_gives (asks q k) r e = absurd (nothing e)
told_gives stops r e = absurd (nothing e)

pub told_selects : (k : Kept) (o : Option Read) (r : Read) → o ≡ told (asking_of k) → o ≡ Some r → TellsSelects (asking_of k) → is_select r.statement ≡ true
told_selects k o r e some s = s [] r (told_gives (asking_of k) r (sym e ∙ some))
