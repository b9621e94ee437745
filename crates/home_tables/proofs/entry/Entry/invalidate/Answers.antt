use Rattle.std.proofs.Common.{◌≡◌, ◌∙◌, ℕ, Bool, true, Some, max, ap}
use Rattle.home_model.specs.Entry.{Entry as HomeEntry, invalidated, due_beside}
use Rattle.page_latches.specs.Set.{has}
use Rattle.home_tables.specs.Table.{entry_of}
use Rattle.home_tables.proofs.entry.Entry.invalidate.Goals as goal

changed_to : HomeEntry → ℕ → (ℕ → Bool) → HomeEntry
changed_to E floor due = record E { bit = true; floor = floor; due = due }

as_invalidated : (E : HomeEntry) (floor : ℕ) (due fresh : ℕ → Bool) (n : ℕ) → floor ≡ max E.floor E.lsn → due ≡ due_beside E fresh n → changed_to E floor due ≡ invalidated E fresh n
unfolding changed_to
as_invalidated E floor due fresh n hf hd = ap (λ (k : ℕ). changed_to E k due) hf ∙ ap (λ (d : ℕ → Bool). changed_to E (max E.floor E.lsn) d) hd

pub returns-clause-model : goal.returns-clause-model
unfolding changed_to
returns-clause-model c = as_invalidated (entry_of (Some c.args.self.now)) c.later-self.result (has c.due_beside-self.result) (has c.args.fresh.now) c.args.node c.later-self.ensures c.due_beside-self.ensures
