use Rattle.std.proofs.Common.{rules, refl, ◌≡◌, ◌≤◌, length, drop, slice_index, sym, ◌∙◌, subst, take, ◌-◌}
use Rattle.sql_values.specs.Tables.{IsTable}
use Rattle.sql_catalog.specs.Catalog.{AreColumnsOrNone}
use Rattle.sql_catalog.proofs.Spelled.{PartsOf, parts_of, too_short, made_of, rest_from, all_columns}
use Rattle.sql_catalog.proofs.reading.schema_in.Goals as goal

pub returns-then-bytes-lt6 : goal.returns-then-bytes-lt6
returns-then-bytes-lt6 c = λ s root table bounded named spelled. too_short c.args.bytes.now s root (search rules) spelled

pub returns-in_default : goal.returns-in_default
returns-in_default c = λ s root table bounded named spelled.
    let p : PartsOf c.args.bytes.now s root = parts_of c.args.bytes.now s root (λ k. (c.type_inv.bytes k).fits) (search rules) bounded.page spelled in
    let fits : c.get_u32.result ≤ 32767 = rw c.get_u32.ensures (rw p.root_is bounded.page) in
    search (rules, fits)

pub returns-in_default-3 : goal.returns-in_default-3
returns-in_default-3 c = λ s root table bounded named spelled.
    let p : PartsOf c.args.bytes.now s root = parts_of c.args.bytes.now s root (λ k. (c.type_inv.bytes k).fits) (search rules) bounded.page spelled in
    subst (AreColumnsOrNone (take (length c.args.bytes.now - 6) (drop 6 c.args.bytes.now)) c.from.result) c.in_default-3.is c.in_ok-columns.ensures s.columns bounded.columns (sym p.count_is ∙ sym c.from.ensures) (rest_from 6 c.args.bytes.now ∙ p.columns_are)

pub returns-then-not-is_table : goal.returns-then-not-is_table
returns-then-not-is_table c = λ s root table bounded named spelled.
    let p : PartsOf c.args.bytes.now s root = parts_of c.args.bytes.now s root (λ k. (c.type_inv.bytes k).fits) (search rules) bounded.page spelled in
    let found = subst (AreColumnsOrNone (take (length c.args.bytes.now - 6) (drop 6 c.args.bytes.now)) c.from.result) c.in-Some-3.is c.in_ok-columns.ensures in
    let columns : c.in-Some-3.columns ≡ s.columns = all_columns c.in-Some-3.columns s.columns (found.1 ∙ (c.from.ensures ∙ p.count_is)) (sym found.2 ∙ (rest_from 6 c.args.bytes.now ∙ p.columns_are)) in
    let name : c.in-Some-2.table ≡ s.table = search (rules, named) in
    let good : IsTable record { table = c.in-Some-2.table; columns = c.in-Some-3.columns; key = slice_index c.args.bytes.now 4 } =
    rw name (rw columns (rw p.key_is table)) in
    let yes = c.is_table.ensures.1 good in
    search (rules, yes)

pub returns : goal.returns
returns c =
    let found = subst (AreColumnsOrNone (take (length c.args.bytes.now - 6) (drop 6 c.args.bytes.now)) c.from.result) c.in-Some-3.is c.in_ok-columns.ensures in (
      search rules,
      record { table = search rules; columns = found.0; page = search rules },
      search rules,
      made_of c.args.bytes.now record { table = c.in-Some-2.table; columns = c.in-Some-3.columns; key = slice_index c.args.bytes.now 4 } c.in-Some.root
          (λ k. (c.type_inv.bytes k).fits) (search rules) (search rules) refl (found.1 ∙ c.from.ensures) (sym (rest_from 6 c.args.bytes.now) ∙ found.2),
    )
