-- The small language keeps the rules of answers, and the catalog's name.
use Rattle.std.proofs.Common.{◌≡◌, ℕ, zero, Bool, true, false, Option, Some, None, List, [], ◌∷◌, Ok, Err, if◌then◌else◌, is_some, codes, arith, refl, sym, subst, ap, ◌∙◌}
use Rattle.std.specs.Str.{bytes_eq}
use Rattle.std.specs.Option.{option_map_or}
use Rattle.sql_values.specs.Tables.{table_named}
use Rattle.sql_values.specs.declared.schemas.Schema.{Schema}
use Rattle.sql_values.specs.declared.values.Value.{Value}
use Rattle.row_codec.specs.Keys.{key_bytes}
use Rattle.row_codec.specs.Records.{key_cell}
use Rattle.sql_statements.specs.declared.statements.Stmt.{Stmt}
use Rattle.sql_statements.specs.declared.statements.Stmt.TheVariants as stmt
use Rattle.sql_database.specs.Answers.{refused, rows, wants}
use Rattle.sql_database.specs.Catalog.{creation, schema_row}
use Rattle.sql_database.specs.Database.{Database, SameContent}
use Rattle.sql_database.specs.Fitting.{AreKnown, FitsAll, IsProper, NamesNoCatalog}
use Rattle.sql_database.specs.Rules.{AnswerRules, IsFair}
use Rattle.sql_database.specs.declared.changes.Change.{Change}
use Rattle.sql_database.specs.declared.replies.SqlReply.TheVariants as reply
use Rattle.sql_database.proofs.CatalogLaws.{says}
use Rattle.version_store.proofs.Places.{bytes_same}
use Rattle.history.specs.Languages.{KeepsCatalogName}
use Rattle.history.specs.SmallLanguage.{answer, create, insert, placing, row_of, select, small}

fair_of : (d : Database) (st : Stmt) → IsFair st (answer d st)
fair_of d (stmt.Create s) = by_test (is_some (table_named d.schemas s.table))
  where
    by_test : (b : Bool)
        → IsFair (stmt.Create s) (if b then refused (reply.TableExists s.table) else wants (creation s ∷ []) 0 None)
    by_test true = (refl, refl)
    by_test false = refl
fair_of d (stmt.Insert t names tuples) = by_table (table_named d.schemas t)
  where
    by_table : (o : Option Schema)
        → IsFair (stmt.Insert t names tuples)
        (option_map_or (λ s. wants (placing t s (row_of names) ∷ []) 1 None) o (refused (reply.NoTable t)))
    by_table None = (refl, refl)
    by_table (Some s) = refl
fair_of d (stmt.Update t sets test) = (refl, refl)
fair_of d (stmt.Delete t test) = (refl, refl)
fair_of d (stmt.Select q) = tt
fair_of d stmt.Begin = (refl, refl)
fair_of d stmt.Commit = (refl, refl)
fair_of d stmt.Rollback = (refl, refl)

same_answer : (d e : Database) (st : Stmt) → SameContent d e → answer d st ≡ answer e st
same_answer d e (stmt.Create s) h =
    ap (λ o. if is_some o then refused (reply.TableExists s.table) else wants (creation s ∷ []) 0 None)
    (h.schemas s.table)
same_answer d e (stmt.Insert t names tuples) h =
    ap (λ o. option_map_or (λ s. wants (placing t s (row_of names) ∷ []) 1 None) o (refused (reply.NoTable t)))
    (h.schemas t)
same_answer d e (stmt.Update t sets test) h = refl
same_answer d e (stmt.Delete t test) h = refl
same_answer d e (stmt.Select q) h = ap (λ rs. rows rs) (h.rows q.left)
same_answer d e stmt.Begin h = refl
same_answer d e stmt.Commit h = refl
same_answer d e stmt.Rollback h = refl

module _ (d : Database) (cs : List Change) (n : ℕ) (dup : Option Value) (no_catalog : NamesNoCatalog d) where
  create_fits : (s : Schema) → bytes_eq s.table (codes "table") ≡ false → (o : Option Schema)
      → table_named d.schemas s.table ≡ o
      → wants cs n dup ≡ (if is_some o then refused (reply.TableExists s.table) else wants (creation s ∷ []) 0 None)
      → FitsAll d cs × AreKnown d cs
  create_fits s p (Some x) e h = absurd (grind arith)
  create_fits s p None e h =
      let z : creation s ∷ [] ≡ cs = grind arith in
      subst (λ x. FitsAll d x × AreKnown d x) z (
        (
          record {
            makes = λ w. record {
              row = schema_row s;
              says = refl;
              named = ap (λ x. Schema.table x) (says s);
              absent = e;
              free = p;
            };
            places = λ w. absurd (grind arith);
          },
          tt,
        ),
        ((λ w. absurd (grind arith)), tt),
      )

  insert_fits : (t : List ℕ) (names : Option (List (List ℕ))) (o : Option Schema) → table_named d.schemas t ≡ o
      → wants cs n dup ≡ option_map_or (λ s. wants (placing t s (row_of names) ∷ []) 1 None) o
      (refused (reply.NoTable t)) → FitsAll d cs × AreKnown d cs
  insert_fits t names None e h = absurd (grind arith)
  insert_fits t names (Some s) e h =
      let z : placing t s (row_of names) ∷ [] ≡ cs = grind arith in
      subst (λ x. FitsAll d x × AreKnown d x) z (
        (
          record {
            makes = λ w. let y : None ≡ Some s = sym no_catalog
                ∙ ap (table_named d.schemas) (sym (bytes_same t (codes "table") w)) ∙ e in absurd (grind arith);
            places = λ w. record {
              schema = s;
              named = e;
              keyed = λ r q. let y : row_of names ≡ r = grind arith in
                  ap (λ x. key_bytes (key_cell s.key x)) (sym y);
            };
          },
          tt,
        ),
        ((λ w q. let y : Some s ≡ None = sym e ∙ q in absurd (grind arith)), tt),
      )

  all_fit : (st : Stmt) → IsProper st → wants cs n dup ≡ answer d st → FitsAll d cs × AreKnown d cs
  all_fit (stmt.Create s) p h = create_fits s p (table_named d.schemas s.table) refl h
  all_fit (stmt.Insert t names tuples) p h = insert_fits t names (table_named d.schemas t) refl h
  all_fit (stmt.Update t sets test) p h = absurd (grind arith)
  all_fit (stmt.Delete t test) p h = absurd (grind arith)
  all_fit (stmt.Select q) p h = absurd (grind arith)
  all_fit stmt.Begin p h = absurd (grind arith)
  all_fit stmt.Commit p h = absurd (grind arith)
  all_fit stmt.Rollback p h = absurd (grind arith)

pub small_rules : AnswerRules small.answers
small_rules = record {
  one = λ d st a b p q. p ∙ sym q;
  some = λ d st k. (answer d st, refl);
  fair = λ d st a p. subst (λ x. IsFair st x) (sym p) (fair_of d st);
  by_content = λ d e st a h p. p ∙ same_answer d e st h;
  fits = λ d st cs n dup c p h. all_fit d cs n dup c st p h;
}

pub keeps_name : KeepsCatalogName small
keeps_name text st p =
    by_tests (bytes_eq text (codes "create")) (bytes_eq text (codes "insert a")) (bytes_eq text (codes "insert b"))
    (bytes_eq text (codes "select")) p
  where
    by_tests : (a b c d : Bool)
        → Ok st ≡ (if a then Ok create else
        (if b then Ok (insert (codes "a")) else
        (if c then Ok (insert (codes "b")) else (if d then Ok select else Err zero)))) → IsProper st
    by_tests true b c d h = let z : create ≡ st = grind arith in subst (λ x. IsProper x) z refl
    by_tests false true c d h = let z : insert (codes "a") ≡ st = grind arith in subst (λ x. IsProper x) z tt
    by_tests false false true d h = let z : insert (codes "b") ≡ st = grind arith in subst (λ x. IsProper x) z tt
    by_tests false false false true h = let z : select ≡ st = grind arith in subst (λ x. IsProper x) z tt
    by_tests false false false false h = absurd (grind arith)
