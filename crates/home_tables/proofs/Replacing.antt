-- A page gets the slot of a page that is given away.
use Rattle.std.proofs.Common.{IsNone, IfSome, ◌↔◌, ◌≡◌, ◌≢◌, ℕ, Bool, true, false, Option, Some, None, if◌then◌else◌, nat_eq, eqb-true, refl, sym, ◌∙◌, ap, subst}
use Rattle.std.proofs.lemmas.Bool.{true≢false}
use mathlib.Core.Path.{fun_ext}
use Rattle.std.specs.Option.{option_map}
use Rattle.rm_base.specs.declared.places.Addr.{Addr}
use Rattle.home_model.specs.Numbered.{put}
use Rattle.home_model.specs.Entry.{Entry as HomeEntry, no_entry, raised, registered, takes_slot}
use Rattle.home_tables.specs.Table.{entry_of, address_number}
use Rattle.home_tables.specs.Home.{HomeState, entry_at, kept}
use Rattle.home_tables.specs.Replacing.{Replaces}
use Rattle.home_tables.specs.declared.entry.Entry.{Entry}

on_slot : (o : Option Addr) (E : HomeEntry) (a : ℕ) → option_map address_number o ≡ Some a → takes_slot (record E { there = true; address = option_map address_number o }) ≡ true → ⊥
on_slot None E a h takes = cc
on_slot (Some b) E a h takes = true≢false (sym takes)

-- a page that has a slot takes none
seated : (o : Option Entry) (a : ℕ) → (entry_of o).address ≡ Some a → takes_slot (entry_of o) ≡ true → ⊥
seated None a h takes = cc
seated (Some e) a h takes = on_slot e.addr (entry_of (Some e)) a h takes

two_puts : (f : ℕ → HomeEntry) (given p : ℕ) (N R : HomeEntry) → given ≢ p → put (put f p R) given N ≡ put (put f given N) p R
two_puts f given p N R apart = fun_ext (λ q. by q (nat_eq q given) refl (nat_eq q p) refl)
  where
    by : (q : ℕ) (b : Bool) → nat_eq q given ≡ b → (c : Bool) → nat_eq q p ≡ c → (if b then N else (if c then R else f q)) ≡ (if c then R else (if b then N else f q))
    by q true hb true hc = absurd (apart (sym (eqb-true q given hb) ∙ eqb-true q p hc))
    by q true hb false hc = refl
    by q false hb true hc = refl
    by q false hb false hc = refl

put_beside : (f : ℕ → HomeEntry) (p q : ℕ) (R : HomeEntry) → q ≢ p → put f p R q ≡ f q
put_beside f p q R apart = by (nat_eq q p) refl
  where
    by : (b : Bool) → nat_eq q p ≡ b → (if b then R else f q) ≡ f q
    by true h = absurd (apart (eqb-true q p h))
    by false h = refl

pub replaces : (before mid after : HomeState) (given p n a floor : ℕ) → takes_slot (entry_at before p) ≡ true → (entry_at before given).address ≡ Some a → floor ≡ raised (entry_at before given) before.watermark
    → entry_at mid ≡ put (entry_at before) p (registered (entry_at before p) floor a n) → mid.watermark ≡ before.watermark
    → entry_at after ≡ put (entry_at mid) given no_entry → after.watermark ≡ raised (entry_at mid given) mid.watermark
    → Replaces before after given p n a
replaces before mid after given p n a floor takes on is_floor first same_mark second raise =
    record {
      watermark = mark;
      entries = second ∙ ap (λ (f : ℕ → HomeEntry). put f given no_entry) first
          ∙ two_puts (entry_at before) given p no_entry (registered (entry_at before p) floor a n) apart
          ∙ ap (λ (w : ℕ). put (put (entry_at before) given no_entry) p (registered (entry_at before p) w a n)) (is_floor ∙ sym mark);
    }
  where
    apart : given ≢ p
    apart same = seated (kept before p) a (subst (λ (k : ℕ). (entry_at before k).address ≡ Some a) same on) takes

    stays : entry_at mid given ≡ entry_at before given
    stays = ap (λ (f : ℕ → HomeEntry). f given) first ∙ put_beside (entry_at before) p given (registered (entry_at before p) floor a n) apart

    mark : after.watermark ≡ raised (entry_at before given) before.watermark
    mark = raise ∙ ap (λ (E : HomeEntry). raised E mid.watermark) stays ∙ ap (λ (w : ℕ). raised (entry_at before given) w) same_mark

-- an answer that cannot be None
some_gives : (o : Option Entry) (P : Type 0) (there : Bool) → (IsNone o ↔ (there ≡ false)) → there ≡ true → IfSome o (λ e. P) → P
some_gives None P there cause is h = absurd (true≢false (sym is ∙ cause.0 refl))
some_gives (Some e) P there cause is h = h

-- an entry with an address is there
there_with : (o : Option Entry) (a : ℕ) → (entry_of o).address ≡ Some a → (entry_of o).there ≡ true
there_with None a h = absurd cc
there_with (Some e) a h = refl

pub replaces_when : (before mid after : HomeState) (given p n a floor : ℕ) (o : Option Entry) → takes_slot (entry_at before p) ≡ true → (entry_at before given).address ≡ Some a → floor ≡ raised (entry_at before given) before.watermark
    → entry_at mid ≡ put (entry_at before) p (registered (entry_at before p) floor a n) → mid.watermark ≡ before.watermark
    → (IsNone o ↔ ((entry_at mid given).there ≡ false))
    → IfSome o (λ e. entry_at after ≡ put (entry_at mid) given no_entry) → IfSome o (λ e. after.watermark ≡ raised (entry_at mid given) mid.watermark)
    → Replaces before after given p n a
replaces_when before mid after given p n a floor o takes on is_floor first same_mark none second raise =
    replaces before mid after given p n a floor takes on is_floor first same_mark (some_gives o _ (entry_at mid given).there none there second) (some_gives o _ (entry_at mid given).there none there raise)
  where
    apart : given ≢ p
    apart same = seated (kept before p) a (subst (λ (k : ℕ). (entry_at before k).address ≡ Some a) same on) takes

    stays : entry_at mid given ≡ entry_at before given
    stays = ap (λ (f : ℕ → HomeEntry). f given) first ∙ put_beside (entry_at before) p given (registered (entry_at before p) floor a n) apart

    there : (entry_at mid given).there ≡ true
    there = ap (λ (E : HomeEntry). E.there) stays ∙ there_with (kept before given) a on
