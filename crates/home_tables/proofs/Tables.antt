-- Each call as one step of the entries.
use Rattle.std.proofs.Common.{◌≡◌, ◌↔◌, ℕ, List, Option, Some, nat_eq, refl, sym, ◌∙◌, ap, subst}
use Rattle.std.proofs.lemmas.Bool.{true≢false}
use Rattle.std.proofs.lemmas.Map.Steps.{set_value_same}
use Rattle.std.specs.Map.{set_value}
use Rattle.home_model.specs.Entry.{Entry as HomeEntry}
use Rattle.page_latches.specs.declared.latch.Mode.{Mode}
use Rattle.page_latches.specs.declared.latch.Holders.{Holders}
use Rattle.page_latches.specs.declared.latch.Latch.{Latch as Answer}
use Rattle.page_latches.specs.declared.latch.Latch.TheVariants.{Granted, Busy}
use Rattle.page_latches.specs.Holding.{IsGranted, OnGranted, OnBusy, latch_of}
use Rattle.home_tables.specs.Table.{entry_of}
use Rattle.home_tables.specs.Access.{MayTake, taken_by}
use Rattle.home_tables.specs.Home.{home_of, kept_in, entry_at, ChangesAt}
use Rattle.home_tables.specs.Trying.{Tries}
use Rattle.home_tables.specs.declared.entry.Entry.{Entry}
use Rattle.home_tables.proofs.Entries.{changed_at}

pub changes_at : (es : List (ℕ × Entry)) (w p : ℕ) (e e' : Entry) (f : HomeEntry → HomeEntry) → kept_in es p ≡ Some e → entry_of (Some e') ≡ f (entry_of (Some e))
    → ChangesAt (home_of es w) (home_of (set_value (nat_eq p) es e') w) p f
changes_at es w p e e' f found step =
    record {
      there = λ there. changed_at es p e e' f found step;
      none = λ none. absurd (true≢false (ap (λ (o : Option Entry). (entry_of o).there) (sym found) ∙ none));
      watermark = refl;
    }

on_granted : (answer : Answer) (P Q : Type 0) → (P → Q) → OnGranted answer P → OnGranted answer Q
on_granted Granted P Q f p = f p
on_granted (Busy holders) P Q f p = tt

on_busy : (answer : Answer) (P Q : Holders → Type 0) → ((h : Holders) → P h → Q h) → OnBusy answer P → OnBusy answer Q
on_busy Granted P Q f p = tt
on_busy (Busy holders) P Q f p = f holders p

-- an entry that was written back as it was
same_entries : (es : List (ℕ × Entry)) (p : ℕ) (e e' : Entry) → kept_in es p ≡ Some e → e' ≡ e → set_value (nat_eq p) es e' ≡ es
same_entries es p e e' found same = set_value_same (nat_eq p) es e' (found ∙ ap (λ (x : Entry). Some x) (sym same))

pub tries_at : (es : List (ℕ × Entry)) (w p n : ℕ) (mode : Mode) (e e' : Entry) (answer : Answer) → kept_in es p ≡ Some e
    → (IsGranted answer ↔ MayTake mode (entry_of (Some e)).latch n)
    → OnGranted answer (entry_of (Some e') ≡ taken_by mode (entry_of (Some e)) n)
    → OnBusy answer (λ holders. holders ≡ e.latch)
    → OnBusy answer (λ holders. e' ≡ e)
    → Tries (home_of es w) (home_of (set_value (nat_eq p) es e') w) p n mode answer
tries_at es w p n mode e e' answer found rule taken busy stays =
    record {
      rule = subst (λ (o : Option Entry). IsGranted answer ↔ MayTake mode (entry_of o).latch n) (sym found) rule;
      taken = on_granted answer _ _ (λ step. changed_at es p e e' (λ E. taken_by mode E n) found step) taken;
      busy = on_busy answer (λ holders. holders ≡ e.latch) (λ holders. latch_of holders ≡ (entry_of (kept_in es p)).latch) (λ h same. ap latch_of same ∙ ap (λ (o : Option Entry). (entry_of o).latch) (sym found)) busy;
      stays = on_busy answer (λ holders. e' ≡ e) (λ holders. entry_at (home_of (set_value (nat_eq p) es e') w) ≡ entry_at (home_of es w)) (λ h same. ap (λ (q : List (ℕ × Entry)). entry_at (home_of q w)) (same_entries es p e e' found same)) stays;
      watermark = refl;
    }
