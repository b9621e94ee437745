-- The changes that an answer wants fit the database that was read.
use Rattle.std.proofs.Common.{◌≡◌, ◌≢◌, ℕ, Bool, true, false, Option, Some, None, List, [], ◌∷◌, Result, Ok, Err, if◌then◌else◌, codes, length, map, is_some, option_map, MatchOption, ◌&&◌, arith, ◌⊎◌, inl, inr, refl, sym, subst, ap, ◌∙◌, bytes_eq}
use Rattle.std.specs.List.{list_any}
use Rattle.std.specs.Option.{option_or}
use Rattle.std.proofs.lemmas.Slice.Eq.{bytes_eq-Decides}
use Rattle.sql_values.specs.Tables.{table_named}
use Rattle.sql_values.specs.declared.arithmetic.Overflow.{Overflow}
use Rattle.sql_values.specs.declared.schemas.Schema.{Schema}
use Rattle.sql_values.specs.declared.values.Value.{Value}
use Rattle.row_codec.specs.declared.TooLarge.{TooLarge}
use Rattle.row_codec.specs.Keys.{key_bytes}
use Rattle.row_codec.specs.Records.{key_cell, fits_record}
use Rattle.sql_statements.specs.declared.statements.Stmt.{Stmt}
use Rattle.sql_statements.specs.declared.statements.Stmt.TheVariants as stmt
use Rattle.sql_meaning.specs.declared.refusals.Refusal.{Refusal}
use Rattle.sql_meaning.specs.declared.refusals.Refusal.TheVariants.{TableExists}
use Rattle.sql_meaning.specs.declared.resolved.Resolved.{Resolved}
use Rattle.sql_meaning.specs.declared.actions.SetPlace.{SetPlace}
use Rattle.sql_meaning.specs.Names.{scope, tables}
use Rattle.sql_meaning.specs.Places.{placed_action, placed_tuple, placed_set, placed_test}
use Rattle.sql_meaning.specs.Refusals.{refusal, table_refusal, exists, first_missing}
use Rattle.sql_meaning.specs.Terms.{term}
use Rattle.sql_database.specs.declared.changes.Change.{Change}
use Rattle.sql_database.specs.declared.replies.SqlReply.TheVariants as reply
use Rattle.sql_database.specs.Answers.{Answer, refused, wants}
use Rattle.sql_database.specs.Applied.{changed, with_catalog, with_row}
use Rattle.sql_database.specs.Catalog.{creation, is_of_catalog, schema_row}
use Rattle.sql_database.specs.Database.{Database}
use Rattle.sql_database.specs.Fitting.{AreKnown, Fits, FitsAll, IsProper, MakesTable, NamesNoCatalog}
use Rattle.sql_database.specs.Rules.{WantsFit}
use Rattle.sql_database.specs.Statements.{is_write}
use Rattle.sql_exec.specs.Answer.{Does, inserted, inserts, deletes, of_rows, on_target, placed_rows, removed_rows, reply_of, source, target, updates, wanted}
use Rattle.sql_exec.specs.Changes.{first_repeat, fits_key, keys_of, placing, removal}
use Rattle.sql_exec.specs.Kept.{each, kept, set_all, values_in, with_both}
use Rattle.sql_exec.specs.Totals.{is_null}
use Rattle.sql_exec.specs.Whole.{AnswersOver, whole}
use Rattle.sql_exec.proofs.FairLaws.{fair}

abbrev Row : Type 0
Row = List Value

abbrev word : List ℕ
word = codes "table"

pub same_bytes : (a b : List ℕ) → bytes_eq a b ≡ true → a ≡ b
same_bytes a b e = (bytes_eq-Decides a b).0 e

word_is_itself : bytes_eq (codes "table") (codes "table") ≡ true
word_is_itself = refl

-- a list of two: whether it is true
clash : {A : Type 0} → true ≡ false → A
clash e = absurd (grind arith)

abbrev made_if : Bool → Change → Result Change TooLarge
made_if b c = if b then Ok c else Err (record {})

-- they place rows of a table, or take them away
abbrev Made : Schema → List Change → Type 0
Made s cs = ((rs : List Row) × (each (placing s) rs ≡ Ok cs)) ⊎ ((rs : List Row) × (each (removal s) rs ≡ Ok cs))

-- the change that a row makes
abbrev IsOf : Schema → Change → Type 0
IsOf s c = (c.table ≡ s.table) × ((r : Row) → c.row ≡ Some r → key_bytes (key_cell s.key r) ≡ c.key)

one_placing : (s : Schema) (r : Row) (c : Change) → placing s r ≡ Ok c → IsOf s c
unfolding placing
one_placing s r c h = by_test (fits_key (key_bytes (key_cell s.key r)) && fits_record s.key r) h
  where
    by_test : (b : Bool) → made_if b (record { table = s.table; key = key_bytes (key_cell s.key r); row = Some r }) ≡ Ok c → IsOf s c
    by_test true h =
        let z : record { table = s.table; key = key_bytes (key_cell s.key r); row = Some r } ≡ c = grind arith in
        subst (λ x. IsOf s x) z (refl, λ x q. let y : r ≡ x = grind arith in ap (λ v. key_bytes (key_cell s.key v)) (sym y))
    by_test false h = absurd (grind arith)

one_removal : (s : Schema) (r : Row) (c : Change) → removal s r ≡ Ok c → IsOf s c
unfolding removal
one_removal s r c h = by_test (fits_key (key_bytes (key_cell s.key r))) h
  where
    by_test : (b : Bool) → made_if b (record { table = s.table; key = key_bytes (key_cell s.key r); row = None }) ≡ Ok c → IsOf s c
    by_test true h =
        let z : record { table = s.table; key = key_bytes (key_cell s.key r); row = None } ≡ c = grind arith in
        subst (λ x. IsOf s x) z (refl, λ x q. absurd (grind arith))
    by_test false h = absurd (grind arith)

module _ (s : Schema) (apart : bytes_eq s.table word ≡ false) where
  of_row : (c : Change) → IsOf s c → is_of_catalog c ≡ false
  of_row c o = ap (λ t. bytes_eq t word) o.0 ∙ apart

  fits_row : (d : Database) (c : Change) → table_named d.schemas s.table ≡ Some s → IsOf s c → Fits d c
  fits_row d c e o = record {
    makes = λ w. clash (sym w ∙ of_row c o);
    places = λ w. record { schema = s; named = ap (table_named d.schemas) o.0 ∙ e; keyed = o.1 };
  }

  -- a change of a row leaves the schemas
  schema_stays : (d : Database) (c : Change) → table_named d.schemas s.table ≡ Some s → IsOf s c → table_named (changed d c).schemas s.table ≡ Some s
  schema_stays d c e o =
      ap (λ b. table_named (Database.schemas (if b then with_catalog d c.row else with_row d c)) s.table) (of_row c o) ∙ e

  known_row : (d : Database) (c : Change) → table_named d.schemas s.table ≡ Some s → IsOf s c → is_of_catalog c ≡ false → table_named d.schemas c.table ≢ None
  known_row d c e o w n = let y : Some s ≡ None = sym e ∙ (ap (table_named d.schemas) (sym o.0) ∙ n) in grind arith

  fit_each : (make : Row → Result Change TooLarge) → ((r : Row) (c : Change) → make r ≡ Ok c → IsOf s c) → (rs : List Row) (cs : List Change) (d e : Database)
      → table_named d.schemas s.table ≡ Some s → table_named e.schemas s.table ≡ Some s → each make rs ≡ Ok cs → FitsAll d cs × AreKnown e cs
  fit_each make one [] cs d e dn en h = let z : [] ≡ cs = grind arith in subst (λ x. FitsAll d x × AreKnown e x) z (tt, tt)
  fit_each make one (r ∷ rs) cs d e dn en h = by_one (λ ds q d2 dn2. fit_each make one rs ds d2 e dn2 en q) (make r) refl (each make rs) refl h
    where
      by_one : ((ds : List Change) → each make rs ≡ Ok ds → (d2 : Database) → table_named d2.schemas s.table ≡ Some s → FitsAll d2 ds × AreKnown e ds)
          → (x : Result Change TooLarge) → make r ≡ x → (y : Result (List Change) TooLarge) → each make rs ≡ y
          → with_both (λ c cs. c ∷ cs) x y ≡ Ok cs → FitsAll d cs × AreKnown e cs
      by_one more (Ok c) p (Ok ds) q k =
          let o : IsOf s c = one r c p in
          let m : FitsAll (changed d c) ds × AreKnown e ds = more ds q (changed d c) (schema_stays d c dn o) in
          let z : c ∷ ds ≡ cs = grind arith in
          subst (λ x. FitsAll d x × AreKnown e x) z ((fits_row d c dn o, m.0), (known_row e c en o, m.1))
      by_one more (Ok c) p (Err x) q k = absurd (grind arith)
      by_one more (Err x) p y q k = absurd (grind arith)

  made_fits : (cs : List Change) (d : Database) → table_named d.schemas s.table ≡ Some s → Made s cs → FitsAll d cs × AreKnown d cs
  made_fits cs d e (inl x) = fit_each (placing s) (one_placing s) x.0 cs d d e e x.1
  made_fits cs d e (inr x) = fit_each (removal s) (one_removal s) x.0 cs d d e e x.1

of_wanted : (cs : List Change) (n k : ℕ) (dup d : Option Value) (r : Result (List Change) TooLarge) → wants cs n dup ≡ wanted k d r → r ≡ Ok cs
of_wanted cs n k dup d (Ok ds) h = let z : ds ≡ cs = grind arith in ap (λ x. Ok x) z
of_wanted cs n k dup d (Err e) h = absurd (grind arith)

of_rows_are : (cs : List Change) (n : ℕ) (dup : Option Value) (g : List Row → Answer) (r : Result (List Row) Overflow) → wants cs n dup ≡ of_rows g r → (rs : List Row) × (wants cs n dup ≡ g rs)
of_rows_are cs n dup g (Ok rs) h = (rs, h)
of_rows_are cs n dup g (Err e) h = absurd (grind arith)

on_target_is : (cs : List Change) (n : ℕ) (dup : Option Value) (o : Option Schema) (g : Schema → Answer) → wants cs n dup ≡ on_target o g → (s : Schema) × (o ≡ Some s) × (wants cs n dup ≡ g s)
on_target_is cs n dup None g h = absurd (grind arith)
on_target_is cs n dup (Some s) g h = (s, refl, h)

-- what is found by a name has it
pub named_is : (ss : List Schema) (t : List ℕ) (s : Schema) → table_named ss t ≡ Some s → s.table ≡ t
named_is [] t s h = absurd (grind arith)
named_is (x ∷ ss) t s h = by_test (named_is ss t s) (bytes_eq x.table t) refl h
  where
    by_test : (table_named ss t ≡ Some s → s.table ≡ t) → (b : Bool) → bytes_eq x.table t ≡ b → (if b then Some x else table_named ss t) ≡ Some s → s.table ≡ t
    by_test more true e h = let z : x ≡ s = grind arith in subst (λ y. y.table ≡ t) z (same_bytes x.table t e)
    by_test more false e h = more h

no_first : (x y : Option Refusal) → option_or x y ≡ None → x ≡ None
no_first None y h = refl
no_first (Some r) y h = absurd (grind arith)

no_exists : (ss : List Schema) (st : Stmt) → refusal ss st ≡ None → exists ss st ≡ None
unfolding table_refusal
no_exists ss st h = no_first (exists ss st) (first_missing ss (tables st)) (no_first (table_refusal ss st) _ h)

-- a table that is there has not the catalog's word for its name
apart_of : (d : Database) (t : List ℕ) (s : Schema) → NamesNoCatalog d → table_named d.schemas t ≡ Some s → bytes_eq s.table word ≡ false
apart_of d t s free e = by_test (bytes_eq s.table word) refl
  where
    by_test : (b : Bool) → bytes_eq s.table word ≡ b → b ≡ false
    by_test true q =
        let z : None ≡ Some s = sym free ∙ (ap (table_named d.schemas) (sym (same_bytes s.table word q) ∙ named_is d.schemas t s e) ∙ e) in
        absurd (grind arith)
    by_test false q = refl

module _ (d : Database) (cs : List Change) (n : ℕ) (dup : Option Value) (free : NamesNoCatalog d) where
  of_table : (t : List ℕ) (s : Schema) → table_named d.schemas t ≡ Some s → Made s cs → FitsAll d cs × AreKnown d cs
  of_table t s e m = made_fits s (apart_of d t s free e) cs d (ap (table_named d.schemas) (named_is d.schemas t s e) ∙ e) m

  made_table : (s : Schema) → refusal d.schemas (stmt.Create s) ≡ None → bytes_eq s.table word ≡ false → MakesTable d (creation s)
  made_table s r p = record {
    row = schema_row s;
    says = refl;
    named = refl;
    absent = by_name (table_named d.schemas s.table) (no_exists d.schemas (stmt.Create s) r);
    free = p;
  }
    where
      by_name : (o : Option Schema) → (if is_some o then Some (TableExists s.table) else None) ≡ None → o ≡ None
      by_name None q = refl
      by_name (Some y) q = absurd (grind arith)

  makes : (s : Schema) → refusal d.schemas (stmt.Create s) ≡ None → bytes_eq s.table word ≡ false → wants cs n dup ≡ wants (creation s ∷ []) 0 None → FitsAll d cs × AreKnown d cs
  makes s r p h =
      let z : creation s ∷ [] ≡ cs = grind arith in
      subst (λ x. FitsAll d x × AreKnown d x) z
      ((record { makes = λ w. made_table s r p; places = λ w. clash (sym word_is_itself ∙ w) }, tt), ((λ w. clash (sym word_is_itself ∙ w)), tt))

  inserted_made : (s : Schema) (there rs : List Row) → wants cs n dup ≡ inserted s there rs → Made s cs
  inserted_made s there rs h = by_test (list_any (λ r. is_null (key_cell s.key r)) rs) h
    where
      by_test : (b : Bool) → wants cs n dup ≡ (if b then refused reply.NullKey else wanted (length rs) (first_repeat (keys_of s.key there) (keys_of s.key rs)) (each (placing s) rs)) → Made s cs
      by_test true h = absurd (grind arith)
      by_test false h = inl (rs, of_wanted cs n (length rs) dup (first_repeat (keys_of s.key there) (keys_of s.key rs)) (each (placing s) rs) h)

  from_insert : (t : List ℕ) (there : List Row) (tuples : List (List Resolved)) → wants cs n dup ≡ on_target (table_named d.schemas t) (λ s. inserts s there tuples) → FitsAll d cs × AreKnown d cs
  from_insert t there tuples h =
      let x = on_target_is cs n dup (table_named d.schemas t) (λ s. inserts s there tuples) h in
      let y = of_rows_are cs n dup (inserted x.0 there) (each (λ t. values_in [] t) tuples) x.2 in
      of_table t x.0 x.1 (inserted_made x.0 there y.0 y.1)

  from_update : (t : List ℕ) (there : List Row) (sets : List SetPlace) (test : Option Resolved) → wants cs n dup ≡ on_target (table_named d.schemas t) (λ s. updates s there sets test) → FitsAll d cs × AreKnown d cs
  from_update t there sets test h =
      let x = on_target_is cs n dup (table_named d.schemas t) (λ s. updates s there sets test) h in
      let y = of_rows_are cs n dup (λ olds. of_rows (placed_rows x.0) (each (λ r. set_all r r sets) olds)) (kept (option_map term test) there) x.2 in
      let z = of_rows_are cs n dup (placed_rows x.0) (each (λ r. set_all r r sets) y.0) y.1 in
      of_table t x.0 x.1 (inl (z.0, of_wanted cs n (length z.0) dup None (each (placing x.0) z.0) z.1))

  from_delete : (t : List ℕ) (there : List Row) (test : Option Resolved) → wants cs n dup ≡ on_target (table_named d.schemas t) (λ s. deletes s there test) → FitsAll d cs × AreKnown d cs
  from_delete t there test h =
      let x = on_target_is cs n dup (table_named d.schemas t) (λ s. deletes s there test) h in
      let y = of_rows_are cs n dup (removed_rows x.0) (kept (option_map term test) there) x.2 in
      of_table t x.0 x.1 (inr (y.0, of_wanted cs n (length y.0) dup None (each (removal x.0) y.0) y.1))

  of_statement : (st : Stmt) → refusal d.schemas st ≡ None → IsProper st → is_write st ≡ true
      → Does (target d.schemas st) (source st (whole d.tables st)) (placed_action (scope d.schemas st) st) (wants cs n dup) → FitsAll d cs × AreKnown d cs
  of_statement (stmt.Create s) r p w h = makes s r p h
  of_statement (stmt.Insert t names tuples) r p w h = from_insert t (d.tables t) (map (placed_tuple (scope d.schemas (stmt.Insert t names tuples)) names) tuples) h
  of_statement (stmt.Update t sets test) r p w h = from_update t (d.tables t) (map (placed_set (scope d.schemas (stmt.Update t sets test))) sets) (placed_test (scope d.schemas (stmt.Update t sets test)) test) h
  of_statement (stmt.Delete t test) r p w h = from_delete t (d.tables t) (placed_test (scope d.schemas (stmt.Delete t test)) test) h
  of_statement (stmt.Select q) r p w h = absurd (grind arith)
  of_statement stmt.Begin r p w h = absurd (grind arith)
  of_statement stmt.Commit r p w h = absurd (grind arith)
  of_statement stmt.Rollback r p w h = absurd (grind arith)

pub wants_fit : WantsFit AnswersOver
wants_fit d st cs n dup free p an = by_refusal (refusal d.schemas st) refl an
  where
    by_refusal : (o : Option Refusal) → refusal d.schemas st ≡ o
        → MatchOption o (Does (target d.schemas st) (source st (whole d.tables st)) (placed_action (scope d.schemas st) st) (wants cs n dup)) (λ r. wants cs n dup ≡ refused (reply_of r))
        → FitsAll d cs × AreKnown d cs
    by_refusal None e h = of_statement d cs n dup free st e p (fair d st (wants cs n dup) an) h
    by_refusal (Some r) e h = absurd (grind arith)
