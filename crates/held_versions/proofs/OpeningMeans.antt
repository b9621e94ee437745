-- For the proofs: the pages of the opening group have a meaning.
use Rattle.std.proofs.Common.{◌≡◌, ℕ, [], ◌∷◌, Some, None, inl, inr, sym, subst, ◌∙◌}
use Rattle.page_image.specs.Image.{Image, unmade}
use Rattle.redo_record.specs.Opening.{opening_records}
use Rattle.bplus_tree.specs.Tree.{Tree}
use Rattle.version_store.specs.Stores.{blank, catalog}
use Rattle.held_versions.specs.Keeping.{grown}
use Rattle.held_versions.specs.Laws.{no_items}
use Rattle.held_versions.specs.Meaning.{IsMeaningful}
use Rattle.held_versions.specs.Storing.{store_of}
use Rattle.held_versions.specs.Trees.{HasTrees, IsRoot}
use Rattle.held_versions.proofs.Numbers.{counters_read, slots_read, stamps_read}
use Rattle.held_versions.proofs.Opening.{catalog_tree, opening_is_blank}

abbrev opened : ℕ → Image
opened = grown 1 opening_records unmade

only_catalog : (r : ℕ) → IsRoot (store_of no_items opened) r → r ≡ catalog
only_catalog r (inl is) = is
only_catalog r (inr named) = let none : None ≡ Some r = named.1 in absurd cc

trees : HasTrees no_items opened (store_of no_items opened)
trees = record {
  trees = λ r a. subst (λ (q : ℕ). Tree opened q []) (sym (only_catalog r a)) catalog_tree;
  apart = λ p q r a b c d. only_catalog q a ∙ sym (only_catalog r b);
}

pub opening_means : IsMeaningful no_items (grown 1 opening_records unmade)
opening_means =
    let slots = slots_read no_items opened blank opening_is_blank.slots in
    record {
      counters = counters_read no_items opened blank opening_is_blank.counters;
      stamps = stamps_read no_items opened blank opening_is_blank.counters opening_is_blank.stamps;
      slots = slots;
      undo = λ s t low is.
          (let none : None ≡ Some t =
          opening_is_blank.slots.slots s low ∙ sym (slots.slots s low) ∙ is in
          absurd cc);
      trees = trees;
      tables = λ k. tt;
      rows = λ a x e. (let none : [] ≡ x ∷ [] = e in absurd cc);
    }
