-- What an answer wants fits what was read, as it fits the database that this stands for.
use Rattle.std.proofs.Common.{◌≡◌, Option, Some, None, List, [], ◌∷◌, option_map, arith, refl, sym, ap, ◌∙◌}
use Rattle.sql_values.specs.declared.schemas.Schema.{Schema}
use Rattle.row_codec.specs.Keys.{key_bytes}
use Rattle.row_codec.specs.Records.{key_cell}
use Rattle.sql_database.specs.Answers.{Answering, wants}
use Rattle.sql_database.specs.Applied.{changed}
use Rattle.sql_database.specs.Catalog.{schema_of}
use Rattle.sql_database.specs.Database.{Database}
use Rattle.sql_database.specs.Fitting as database
use Rattle.sql_database.specs.Fitting.{IsProper, NamesNoCatalog}
use Rattle.sql_database.specs.Rules.{AnswerRules}
use Rattle.sql_database.specs.declared.changes.Change.{Change}
use Rattle.version_store.specs.Contents.{Content, catalog_name}
use Rattle.version_store.specs.Versions.{Row}
use Rattle.history.specs.Databases.{StandsFor}
use Rattle.history.specs.Fitting.{AreKnown, ContentWantsFit, Fits, FitsAll, after}
use Rattle.history.proofs.ChangeLaws.{is_changed}

-- the row of the catalog that says a schema
defined : (o : Option Row) (s : Schema) → option_map schema_of o ≡ Some s
    → (def : Row) × (o ≡ Some def) × (schema_of def ≡ s)
defined None s h = absurd (grind arith)
defined (Some r) s h = (r, refl, (let z : schema_of r ≡ s = grind arith in z))

undefined : (o : Option Row) → option_map schema_of o ≡ None → o ≡ None
undefined None h = refl
undefined (Some r) h = absurd (grind arith)

module _ (f : Content) (d : Database) (g : StandsFor f d) where
  fits_one : (c : Change) → database.Fits d c → Fits f c
  unfolding catalog_name
  fits_one c h = record {
    makes = λ w. let m = h.makes w in
        (m.row, m.says, m.named, undefined (f catalog_name c.key) (sym (g.tables c.key) ∙ m.absent), m.free);
    places = λ w. let p = h.places w in
        let def = defined (f catalog_name c.table) p.schema (sym (g.tables c.table) ∙ p.named) in
        (def.0, def.1, λ r e. ap (λ s. key_bytes (key_cell (Schema.key s) r)) def.2 ∙ p.keyed r e);
  }

  known_all : (cs : List Change) → database.AreKnown d cs → AreKnown f cs
  unfolding catalog_name
  known_all [] h = tt
  known_all (c ∷ cs) h = ((λ w n. h.0 w (g.tables c.table ∙ ap (option_map schema_of) n)), known_all cs h.1)

  no_catalog : NamesNoCatalog d
  unfolding catalog_name
  no_catalog = g.tables catalog_name ∙ ap (option_map schema_of) g.free

fits_all : (cs : List Change) (f : Content) (d : Database) → StandsFor f d → database.FitsAll d cs → FitsAll f cs
fits_all [] f d g h = tt
fits_all (c ∷ cs) f d g h =
    let one : Fits f c = fits_one f d g c h.0 in
    (one, fits_all cs (after f c) (changed d c) (is_changed f d c g one) h.1)

pub content_fits : {answers : Answering} → AnswerRules answers → ContentWantsFit answers
content_fits {answers} rules f d st cs n dup g p an =
    let w = rules.fits d st cs n dup (no_catalog f d g) p an in
    (rules.fair d st (wants cs n dup) an, fits_all cs f d g w.0, known_all f d g cs w.1)
