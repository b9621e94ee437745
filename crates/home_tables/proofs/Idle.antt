-- A page to which a node refers may not be given away.
use Rattle.std.specs.Option.{option_map, is_none}
use Rattle.std.proofs.Common.{◌≡◌, Option, Some, None, ℕ, true, false, List, [], ◌∷◌, refl}
use Rattle.page_latches.specs.Set.{has}
use Rattle.home_tables.specs.Table.{entry_of, address_number, is_none_of, is_idle}
use Rattle.rm_base.specs.declared.places.Addr.{Addr}
use Rattle.home_model.specs.Entry.{Entry as HomeEntry, takes_slot}
use Rattle.home_tables.specs.declared.entry.Entry.{Entry}

some_of : (nodes : List ℕ) (n : ℕ) → has nodes n ≡ true → is_none_of nodes ≡ false
some_of [] n h = absurd cc
some_of (m ∷ nodes) n h = refl

pub not_idle : (e : Entry) (n : ℕ) → has e.refs n ≡ true → is_idle e ≡ false
not_idle e n h = rw (some_of e.refs n h) refl

lost_by : (o : Option Addr) (E : HomeEntry) → is_none o ≡ takes_slot (record E { there = true; address = option_map address_number o })
lost_by None E = refl
lost_by (Some a) E = refl

pub lost_when : (e : Entry) → is_none e.addr ≡ takes_slot (entry_of (Some e))
lost_when e = lost_by e.addr (entry_of (Some e))
