-- What a statement finds over the images of uses it finds over the uses.
use Rattle.std.proofs.Common.{ℕ, Bool, true, false, List, [], ◌∷◌, ◌++◌, map, Option, Some, None, sym, ap, subst, ◌∙◌}
use Rattle.page_image.specs.Image.{Image}
use Rattle.rm_base.specs.declared.key_range.KeyRange.{KeyRange}
use Rattle.sql_values.specs.declared.schemas.Schema.{Schema}
use Rattle.sql_statements.specs.declared.statements.Join.{Join}
use Rattle.sql_statements.specs.declared.statements.Stmt.{Stmt}
use Rattle.sql_meaning.specs.Ranges.{ranges}
use Rattle.sql_exec.specs.declared.rows.RangeRows.{RangeRows}
use Rattle.sql_engine.specs.Read.{mentioned}
use Rattle.version_store.specs.Versions.{Row}
use Rattle.snapshot_reads.specs.Tables.{RowsFound}
use Rattle.snapshot_reads.specs.Times.{itself}
use Rattle.snapshot_reads.proofs.Imaging.{empty_uses, no_table_over, parted, rows_over, table_over}
use Rattle.reads_joined.specs.Statements.{JoinRows, LeftRows, NameFound, NamesFound, RightRows, StatementFound, Table, TableRows, first_of, join_of, reads_rows}

module _ {U : Type 0} (image : U → Image) (n : ℕ) (own : Option ℕ) where
  name_over : (a : List ℕ) (us : List U) (t : Table) → NameFound itself n own a (map image us) t
      → NameFound image n own a us t
  name_over a us None f = no_table_over image n own a us f
  name_over a us (Some t) f = table_over image n own a us t.0 t.1 f

  names_over : (names : List (List ℕ)) (us : List U) (tables : List Table)
      → NamesFound itself n own names (map image us) tables → NamesFound image n own names us tables
  names_over [] us tables (none, is) = (empty_uses image n own us none, is)
  names_over (a ∷ names) us tables (here, rest, t, more, parts, name, others, are) =
      let p = parted image n own us here rest parts in (
        p.left,
        p.right,
        t,
        more,
        p.whole,
        name_over a p.left t (subst (λ vs. NameFound itself n own a vs t) (sym p.left_is) name),
        names_over names p.right more
            (subst (λ vs. NamesFound itself n own names vs more) (sym p.right_is) others),
        are,
      )

  ranges_over : (t : Table) (rs : List KeyRange) (us : List U) (rows : List Row)
      → TableRows itself n own t rs (map image us) rows → TableRows image n own t rs us rows
  ranges_over None rs us rows (none, is) = (empty_uses image n own us none, is)
  ranges_over (Some t) [] us rows (none, is) = (empty_uses image n own us none, is)
  ranges_over (Some t) (r ∷ rs) us rows (here, rest, first, more, parts, f, others, are) =
      let p = parted image n own us here rest parts in (
        p.left,
        p.right,
        first,
        more,
        p.whole,
        rows_over image n own t.1 t.0 r p.left first
            (subst (λ vs. RowsFound itself n own t.1 t.0 r vs first)
            (sym p.left_is) f),
        ranges_over (Some t) rs p.right more
            (subst (λ vs. TableRows itself n own (Some t) rs vs more) (sym p.right_is) others),
        are,
      )

  left_over : (b : Bool) (t : Table) (rs : List KeyRange) (us : List U) (rows : List Row)
      → LeftRows itself n own b t rs (map image us) rows → LeftRows image n own b t rs us rows
  left_over true t rs us rows f = ranges_over t rs us rows f
  left_over false t rs us rows (none, is) = (empty_uses image n own us none, is)

  right_over : (t : Table) (rs : Row → List KeyRange) (lefts : List Row) (us : List U)
      (rights : List (List Row)) → RightRows itself n own t rs lefts (map image us) rights
      → RightRows image n own t rs lefts us rights
  right_over t rs [] us rights (none, is) = (empty_uses image n own us none, is)
  right_over t rs (l ∷ lefts) us rights (here, rest, first, more, parts, f, others, are) =
      let p = parted image n own us here rest parts in (
        p.left,
        p.right,
        first,
        more,
        p.whole,
        ranges_over t (rs l) p.left first
            (subst (λ vs. TableRows itself n own t (rs l) vs first) (sym p.left_is) f),
        right_over t rs lefts p.right more
            (subst (λ vs. RightRows itself n own t rs lefts vs more) (sym p.right_is) others),
        are,
      )

  join_over : (tables : List Table) (rs : Row → List KeyRange) (j : Option Join)
      (lefts : List Row) (us : List U) (rights : List (List Row))
      → JoinRows itself n own tables rs j lefts (map image us) rights
      → JoinRows image n own tables rs j lefts us rights
  join_over tables rs None lefts us rights (none, is) = (empty_uses image n own us none, is)
  join_over tables rs (Some j) lefts us rights f =
      right_over (first_of tables) rs lefts us rights f

  pub statement_over : (st : Stmt) (us : List U) (schemas : List Schema) (rows : RangeRows)
      → StatementFound itself n own st (map image us) schemas rows
      → StatementFound image n own st us schemas rows
  statement_over st us schemas rows s =
      let p = parted image n own us s.before (s.lefts ++ s.rights) s.parts in
      let r = parted image n own p.right s.lefts s.rights p.right_is in
      record {
        before = p.left;
        lefts = r.left;
        rights = r.right;
        parts = p.whole ∙ ap (λ vs. p.left ++ vs) r.whole;
        left = s.left;
        others = s.others;
        names = names_over (mentioned st) p.left (s.left ∷ s.others)
            (subst (λ vs. NamesFound itself n own (mentioned st) vs (s.left ∷ s.others))
            (sym p.left_is) s.names);
        schemas_are = s.schemas_are;
        left_rows = left_over (reads_rows st) s.left (ranges schemas st None) r.left rows.left
            (subst (λ vs. LeftRows itself n own (reads_rows st) s.left (ranges schemas st None) vs
            rows.left) (sym r.left_is) s.left_rows);
        right_rows = join_over s.others (λ l. ranges schemas st (Some l)) (join_of st) rows.left
            r.right rows.right
            (subst (λ vs. JoinRows itself n own s.others (λ l. ranges schemas st (Some l))
            (join_of st) rows.left vs rows.right) (sym r.right_is) s.right_rows);
      }
