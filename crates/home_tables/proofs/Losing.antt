-- A page whose entry became f of what was kept of it.
use Rattle.std.proofs.Common.{◌≡◌, ◌≢◌, ℕ, Bool, true, false, List, Option, Some, None, if◌then◌else◌, nat_eq, eqb-true, refl, sym, ◌∙◌, ap, arith}
use Rattle.std.proofs.lemmas.Map.{keys-set_value}
use Rattle.std.specs.Map.{set_value, keys_of}
use mathlib.Core.Path.{fun_ext}
use Rattle.home_model.specs.Numbered.{put, nobody}
use Rattle.home_model.specs.Entry.{Entry as HomeEntry, no_entry}
use Rattle.home_tables.specs.Table.{entry_of}
use Rattle.home_tables.specs.Home.{HomeState, home_of, kept, kept_in, entry_at}
use Rattle.home_tables.specs.Losing.{Becomes, kept_from}
use Rattle.home_tables.specs.declared.entry.Entry.{Entry}
use Rattle.home_tables.proofs.Entries.{at_changed}

-- a page whose entry changed from e to e'
pub same_pages : (es : List (ℕ × Entry)) (p : ℕ) (e' : Entry) → keys_of (set_value (nat_eq p) es e') ≡ keys_of es
same_pages es p e' = keys-set_value (nat_eq p) es e'

pub becomes : (es : List (ℕ × Entry)) (w p : ℕ) (e e' : Entry) (f : HomeEntry → HomeEntry) → kept_in es p ≡ Some e → entry_of (Some e') ≡ f (entry_of (Some e))
    → Becomes (home_of es w) (home_of (set_value (nat_eq p) es e') w) p f
becomes es w p e e' f found step =
    record {
      here = ap entry_of (at_changed es p p e e' found ∙ at_once (nat_eq p p) (let same : nat_eq p p ≡ true = grind arith in same)) ∙ step ∙ ap (λ (o : Option Entry). f (entry_of o)) (sym found);
      beside = λ q apart. at_changed es p q e e' found ∙ not_here q (nat_eq q p) refl apart;
      watermark = refl;
    }
  where
    at_once : (b : Bool) → b ≡ true → (if b then Some e' else kept_in es p) ≡ Some e'
    at_once true h = refl
    at_once false h = absurd cc

    not_here : (q : ℕ) (b : Bool) → nat_eq q p ≡ b → q ≢ p → (if b then Some e' else kept_in es q) ≡ kept_in es q
    not_here q true t apart = absurd (apart (eqb-true q p t))
    not_here q false t apart = refl

-- a page that has no entry
pub becomes_none : (H : HomeState) (p : ℕ) (f : HomeEntry → HomeEntry) → kept H p ≡ None → f no_entry ≡ no_entry → Becomes H H p f
becomes_none H p f absent none = record { here = ap entry_of absent ∙ sym (ap (λ (o : Option Entry). f (entry_of o)) absent ∙ none); beside = λ q apart. refl; watermark = refl }

nobody_less : (n : ℕ) → ◌≡◌ {A = ℕ → Bool} (put nobody n false) nobody
nobody_less n = fun_ext (λ m. in_case (nat_eq m n))
  where
    in_case : (b : Bool) → (if b then false else false) ≡ false
    in_case true = refl
    in_case false = refl

kicked_with : (ℕ → Bool) → HomeEntry
kicked_with f = record no_entry { refs = f; due = f; latch = record { shared = f; exclusive = None } }

pub kick_none : (n : ℕ) → kept_from n no_entry ≡ no_entry
unfolding kicked_with
kick_none n = ap kicked_with (nobody_less n)

-- a change of page p alone, as the entries of all pages
pub put_of : (before after : HomeState) (p : ℕ) (E : HomeEntry) → entry_at after p ≡ E → ((q : ℕ) → q ≢ p → kept after q ≡ kept before q) → entry_at after ≡ put (entry_at before) p E
put_of before after p E here beside = fun_ext (λ q. by q (nat_eq q p) refl)
  where
    by : (q : ℕ) (b : Bool) → nat_eq q p ≡ b → entry_at after q ≡ (if b then E else entry_at before q)
    by q true t = ap (entry_at after) (eqb-true q p t) ∙ here
    by q false t = let apart : q ≢ p = grind (arith, t) in ap entry_of (beside q apart)
