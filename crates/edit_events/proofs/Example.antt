-- For the proofs: the example's begin, by computation.
use Rattle.std.proofs.Common.{◌≡◌, ℕ, Some, refl, sym, ap, subst, ◌∙◌, arith}
use Rattle.rm_base.specs.Fields.{field, number, with_field}
use Rattle.row_codec.specs.Records.{IsRecord}
use Rattle.sql_catalog.specs.Catalog.{catalog_row}
use Rattle.commit_stamps.specs.Effects.{Begins}
use Rattle.commit_stamps.specs.Plans.{begin_plan}
use Rattle.question_tree.specs.Questions.{after, told, wanted}
use Rattle.history.proofs.Blank as blank
use Rattle.history.proofs.SmallMaking.{c7, past7}
use Rattle.history.proofs.SmallSessions.{rested}
use Rattle.history.specs.SmallLanguage.{schema, small}
use Rattle.held_versions.specs.Laws.{no_items}
use Rattle.held_versions.specs.Run.{after_opening}
use Rattle.held_versions.specs.Tables.{catalog_schema}
use Rattle.tree_plan_steps.specs.Example.{table_item}
use Rattle.tree_plan_steps.proofs.Example.{first_begins, good7, next_is, opening_stands, run7, spells}
use Rattle.transaction_edits.specs.declared.numbering.Number.{Number}
use Rattle.transaction_edits.specs.declared.numbering.Number.TheVariants as number_as
use Rattle.transaction_edits.specs.declared.wishes.Told.TheVariants.{Begun}
use Rattle.transaction_edits.specs.Wishes as transaction
use Rattle.transaction_edits.specs.Wishes.{IsPlanFor, Ran}
use Rattle.transaction_edits.specs.Works.{by_number, number_of}
use Rattle.edit_events.specs.Example.{ExampleBegins, ExampleSays, first_plan}
use Rattle.edit_events.proofs.Ending.{begin_is_event}

number_is : number_of (after_opening 0) ≡ number_as.Next
unfolding number field
number_is = refl

fits : IsPlanFor (transaction.Begins 0 (after_opening 0) (after_opening 1)) first_plan
fits =
    subst
    (λ (t : ℕ). (first_plan ≡ begin_plan (after_opening 0) (after_opening 1) 0 t)
    × Begins (after_opening 0) (after_opening 1) 0 t first_plan.records) next_is (refl, first_begins)

pub example_begins : ExampleBegins
example_begins = record {
  asks = ap (λ (n : Number). wanted (by_number n 0 (after_opening 0) (after_opening 1))) number_is;
  tells =
      ap (λ (n : Number). told (after (by_number n 0 (after_opening 0) (after_opening 1)) Ran)) number_is
      ∙ ap (λ (t : ℕ). Some (Begun t)) (sym next_is);
  fits = fits;
  journal = run7.0;
  judged = c7;
  happens = run7.1;
  stands = opening_stands;
  begin =
      begin_is_event small blank.nothing c7 no_items after_opening 2 0 first_plan good7 opening_stands
      (record { no_job = rested c7 refl refl refl past7; open_mode = refl; free = refl; has = refl })
      (omega arith) number_is fits;
  read = record { wanted = (refl, tt); ends = refl };
}

-- ---- the item of the table

spelt_at : (root : ℕ)
    → IsRecord catalog_schema (catalog_row schema root) table_item.key (with_field 4 table_item.value 3 root)
unfolding field
spelt_at root = record {
  fits = record { cells = (tt, (tt, tt)); key = λ e. cc };
  ints = tt;
  key_is = refl;
  value_is = refl;
  short_key = omega arith;
  short_record = omega arith;
}

pub example_says : ExampleSays
example_says root room = record {
  lives = refl;
  schema = schema;
  spells = record {
    table = spells.table;
    bounded = record {
      table = spells.bounded.table;
      columns = spells.bounded.columns;
      page = omega (arith, room);
    };
    spelt = spelt_at root;
  };
  row = refl;
}
