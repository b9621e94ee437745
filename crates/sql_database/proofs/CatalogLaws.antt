-- What a row of the catalog says.
use Rattle.std.proofs.Common.{◌≡◌, List, [], ◌∷◌, refl, ap, ◌∙◌}
use Rattle.std.specs.List.{flat_map}
use Rattle.sql_values.specs.declared.values.Sort.{Sort}
use Rattle.sql_values.specs.declared.values.Sort.TheVariants as sort
use Rattle.sql_values.specs.declared.schemas.Column.{Column}
use Rattle.sql_database.specs.Catalog.{column_cells, columns_of, sort_number, sort_of}
use Rattle.sql_database.specs.Laws.{CatalogSaysSchemas}

sort_again : (s : Sort) → sort_of (sort_number s) ≡ s
sort_again sort.Int = refl
sort_again sort.Text = refl

columns_again : (cs : List Column) → columns_of (flat_map column_cells cs) ≡ cs
columns_again [] = refl
columns_again (c ∷ cs) =
    ap (λ s. record { name = c.name; sort = s } ∷ columns_of (flat_map column_cells cs)) (sort_again c.sort)
    ∙ ap (λ l. c ∷ l) (columns_again cs)

pub says : CatalogSaysSchemas
says s = ap (λ cs. record { table = s.table; columns = cs; key = s.key }) (columns_again s.columns)
