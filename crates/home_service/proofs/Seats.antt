-- The addresses of entries stay on slots of the slabs.
use Rattle.std.proofs.Common.{◌≡◌, ◌≢◌, ◌<◌, ℕ, Bool, true, false, cond, nat_eq, eqb-true, List, [], ◌∷◌, length, Option, Some, None, IfSome, IsNone, get_or-set_same, get_or-set_other, refl, sym, ap, subst, ◌∙◌, arith}
use Rattle.rm_base.specs.declared.places.Addr.{Addr}
use Rattle.page_image.specs.Image.{Image}
use Rattle.home_model.specs.Numbered.{put}
use Rattle.home_model.specs.Entry.{Entry as HomeEntry, invalidated, struck}
use Rattle.page_latches.specs.Set.{has}
use Rattle.page_latches.specs.declared.latch.Mode.{Mode}
use Rattle.page_latches.specs.declared.latch.Mode.TheVariants.{S, X}
use Rattle.page_latches.specs.declared.latch.Latch.{Latch as Answer}
use Rattle.page_latches.specs.declared.latch.Latch.TheVariants.{Granted, Busy}
use Rattle.slab_node.specs.Slab.{SlabState, written}
use Rattle.slab_node.specs.Slabs.{slab_at, no_slab, wrote_at}
use Rattle.slab_node.specs.Free.{is_free}
use Rattle.home_tables.specs.Access.{taken_by}
use Rattle.home_tables.specs.Home.{HomeState, entry_at, ChangesAt}
use Rattle.home_tables.specs.Trying.{Tries}
use Rattle.rmem_calls.specs.Invalidating.{invalidated_all}
use Rattle.rmem_calls.specs.Seating.{AreSeated, slot_in, slab_in}
use Rattle.rmem_calls.proofs.SeatingLemmas.{fewer_seated}

-- each page has the address that it had
pub same_seated : (H H' : HomeState) (slabs : List SlabState) → ((q : ℕ) → (entry_at H' q).address ≡ (entry_at H q).address) → AreSeated H slabs → AreSeated H' slabs
same_seated H H' slabs same seats = fewer_seated H H' slabs (λ q x at. sym (same q) ∙ at) seats

put_address : (b : Bool) (E F : HomeEntry) → E.address ≡ F.address → (cond b E F).address ≡ F.address
put_address true E F same = same
put_address false E F same = refl

put_keeps : (f : ℕ → HomeEntry) (p : ℕ) (E : HomeEntry) → E.address ≡ (f p).address → (q : ℕ) → (put f p E q).address ≡ (f q).address
put_keeps f p E same q = by (nat_eq q p) refl
  where
    by : (b : Bool) → nat_eq q p ≡ b → (cond b E (f q)).address ≡ (f q).address
    by true h = same ∙ ap (λ (k : ℕ). (f k).address) (sym (eqb-true q p h))
    by false h = refl

pub changes_address : (H H' : HomeState) (p : ℕ) (f : HomeEntry → HomeEntry) → ((E : HomeEntry) → (f E).address ≡ E.address) → ChangesAt H H' p f
    → (q : ℕ) → (entry_at H' q).address ≡ (entry_at H q).address
changes_address H H' p f same change q = by (entry_at H p).there refl
  where
    by : (b : Bool) → (entry_at H p).there ≡ b → (entry_at H' q).address ≡ (entry_at H q).address
    by true h = ap (λ (g : ℕ → HomeEntry). (g q).address) (change.there h) ∙ put_keeps (entry_at H) p (f (entry_at H p)) (same (entry_at H p)) q
    by false h = ap (λ (x : HomeState). (entry_at x q).address) (change.none h)

pub changes_seated : (H H' : HomeState) (slabs : List SlabState) (p : ℕ) (f : HomeEntry → HomeEntry) → ((E : HomeEntry) → (f E).address ≡ E.address)
    → ChangesAt H H' p f → AreSeated H slabs → AreSeated H' slabs
changes_seated H H' slabs p f same change seats = same_seated H H' slabs (changes_address H H' p f same change) seats

taken_address : (mode : Mode) (E : HomeEntry) (n : ℕ) → (taken_by mode E n).address ≡ E.address
taken_address S E n = refl
taken_address X E n = refl

pub tries_seated : (H H' : HomeState) (slabs : List SlabState) (p n : ℕ) (mode : Mode) (answer : Answer) → Tries H H' p n mode answer → AreSeated H slabs → AreSeated H' slabs
tries_seated H H' slabs p n mode Granted tries seats =
    same_seated H H' slabs (λ q. ap (λ (g : ℕ → HomeEntry). (g q).address) tries.taken
    ∙ put_keeps (entry_at H) p (taken_by mode (entry_at H p) n) (taken_address mode (entry_at H p) n) q) seats
tries_seated H H' slabs p n mode (Busy holders) tries seats =
    same_seated H H' slabs (λ q. ap (λ (g : ℕ → HomeEntry). (g q).address) tries.stays) seats

pub invalidated_address : (E : ℕ → HomeEntry) (n : ℕ) (pages : List ℕ) (clear : List (List ℕ)) (q : ℕ) → (invalidated_all E n pages clear q).address ≡ (E q).address
invalidated_address E n [] clear q = refl
invalidated_address E n (p ∷ pages) [] q = refl
invalidated_address E n (p ∷ pages) (nodes ∷ clear) q =
    invalidated_address (put E p (invalidated (E p) (has nodes) n)) n pages clear q ∙ put_keeps E p (invalidated (E p) (has nodes) n) refl q

pub invalidated_seated : (H H' : HomeState) (slabs : List SlabState) (n : ℕ) (pages : List ℕ) (clear : List (List ℕ))
    → entry_at H' ≡ invalidated_all (entry_at H) n pages clear → AreSeated H slabs → AreSeated H' slabs
invalidated_seated H H' slabs n pages clear is seats =
    same_seated H H' slabs (λ q. ap (λ (g : ℕ → HomeEntry). (g q).address) is ∙ invalidated_address (entry_at H) n pages clear q) seats

-- a write changes neither a slab's incarnation, nor whether it is up, nor which slots are taken
pub record IsSame (old new : SlabState) : Type 0 where
  pub up : new.up ≡ old.up
  pub incarnation : new.incarnation ≡ old.incarnation
  pub taken : new.taken ≡ old.taken

wrote_same : (slabs : List SlabState) (a : Addr) (image : Image) (k : ℕ) → a.slab < length slabs → IsSame (slab_at slabs k) (slab_at (wrote_at slabs a image) k)
wrote_same slabs a image k inside = by (nat_eq k a.slab) refl
  where
    here : SlabState
    here = written (slab_at slabs a.slab) a.slot image

    by : (b : Bool) → nat_eq k a.slab ≡ b → IsSame (slab_at slabs k) (slab_at (wrote_at slabs a image) k)
    by true h =
        let same : k ≡ a.slab = eqb-true k a.slab h in
        let at : slab_at (wrote_at slabs a image) k ≡ written (slab_at slabs a.slab) a.slot image =
        ap (slab_at (wrote_at slabs a image)) same ∙ get_or-set_same slabs a.slab (written (slab_at slabs a.slab) a.slot image) no_slab inside in
        subst (λ (T : SlabState). IsSame (slab_at slabs k) T) (sym at)
        (subst (λ (d : ℕ). IsSame (slab_at slabs d) (written (slab_at slabs a.slab) a.slot image)) (sym same) (record { up = refl; incarnation = refl; taken = refl }))
    by false h =
        let apart : k ≢ a.slab = grind (arith, h) in
        let at : slab_at (wrote_at slabs a image) k ≡ slab_at slabs k = get_or-set_other slabs a.slab k (written (slab_at slabs a.slab) a.slot image) no_slab apart in
        subst (λ (T : SlabState). IsSame (slab_at slabs k) T) (sym at) (record { up = refl; incarnation = refl; taken = refl })

pub wrote_seated : (H : HomeState) (slabs : List SlabState) (a : Addr) (image : Image) → a.slab < length slabs → AreSeated H slabs → AreSeated H (wrote_at slabs a image)
wrote_seated H slabs a image inside seats = record {
  incarnation = λ p x at up.
      let same = wrote_same slabs a image (slab_in x) inside in
      seats.incarnation p x at (sym same.up ∙ up) ∙ sym same.incarnation;
  taken = λ p x at up.
      let same = wrote_same slabs a image (slab_in x) inside in
      ap (λ (t : List Bool). is_free t (slot_in x)) same.taken ∙ seats.taken p x at (sym same.up ∙ up);
  apart = seats.apart;
}

pub none_seated : (H : HomeState) (slabs : List SlabState) → H.entries ≡ [] → AreSeated H slabs
none_seated H slabs none = record {
  incarnation = λ p x at up. absurd (no_address p x at);
  taken = λ p x at up. absurd (no_address p x at);
  apart = λ p q x at also. absurd (no_address p x at);
}
  where
    empty : (p : ℕ) → (entry_at H p).address ≡ None
    empty p = ap (λ es. let K : HomeState = record { entries = es; watermark = H.watermark } in (entry_at K p).address) none

    no_address : (p x : ℕ) → (entry_at H p).address ≡ Some x → ⊥
    no_address p x at = let e = empty p in absurd cc

-- ---- as the accesses of the home meet it

pub latch_seated : (o : Option Answer) (H H' : HomeState) (slabs : List SlabState) (p n : ℕ) (mode : Mode) → IfSome o (λ answer. Tries H H' p n mode answer)
    → (IsNone o → H' ≡ H) → AreSeated H slabs → AreSeated H' slabs
latch_seated None H H' slabs p n mode tried same seats = subst (λ (x : HomeState). AreSeated x slabs) (sym (same refl)) seats
latch_seated (Some answer) H H' slabs p n mode tried same seats = tries_seated H H' slabs p n mode answer tried seats

pub turn_seated : (o : Option (ℕ × ℕ)) (H H' : HomeState) (slabs : List SlabState) → IfSome o (λ pair. ChangesAt H H' pair.0 (λ E. struck E pair.1))
    → (IsNone o → H' ≡ H) → AreSeated H slabs → AreSeated H' slabs
turn_seated None H H' slabs struck_one same seats = subst (λ (x : HomeState). AreSeated x slabs) (sym (same refl)) seats
turn_seated (Some pair) H H' slabs struck_one same seats = changes_seated H H' slabs pair.0 (λ E. struck E pair.1) (λ E. refl) struck_one seats
