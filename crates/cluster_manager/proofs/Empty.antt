-- A home without entries.
use Rattle.std.proofs.Common.{◌≡◌, ℕ, List, [], ap}
use mathlib.Core.Path.{fun_ext}
use Rattle.home_model.specs.Entry.{no_entry}
use Rattle.home_tables.specs.Table.{entry_of}
use Rattle.home_tables.specs.Home.{HomeState, kept_in, entry_at}
use Rattle.home_tables.specs.declared.entry.Entry.{Entry}

pub no_entries : (H : HomeState) → H.entries ≡ [] → entry_at H ≡ (λ p. no_entry)
no_entries H none = fun_ext (λ p. ap (λ (es : List (ℕ × Entry)). entry_of (kept_in es p)) none)
