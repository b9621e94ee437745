-- What a change of a page's items does to its bytes.
use Rattle.std.proofs.Common.{◌≡◌, ◌≢◌, ◌≤◌, ◌<◌, ◌+◌, ◌-◌, ◌^◌, ◌⊎◌, ℕ, Bool, true, false, cond, List, [], ◌∷◌, ◌++◌, length, take, drop, insert, All, refl, sym, ◌∙◌, ap, subst, inl, inr, ⊎_elim, arith, append-nil}
use Rattle.std.proofs.lemmas.List.{drop_at, replicate-append-replicate}
use Rattle.std.proofs.lemmas.List.Sums.{sum_by-insert}
use Rattle.std.proofs.lemmas.List.Elements.{All-take, All-drop, All-cons, All-nil, All-append}
use Rattle.std.proofs.lemmas.Bool.{false≢true}
use Rattle.page_image.specs.declared.header.Header.{Header}
use Rattle.page_image.specs.declared.kind.Kind.{Kind}
use Rattle.page_image.specs.declared.kind.Kind.TheVariants.{Unmade, Meta, Slots, Stamps, Leaf, Inner, Undo}
use Rattle.page_image.specs.Image.{Image, is_slotted, is_inner, has_body, used, zeros, free_of, structure_after, unmade, made, inserted, CanMake, CanInsert, Follows}
use Rattle.page_image.specs.Layout.{header_bytes, header_of, packed, slot_bytes, rest_bytes, page_bytes, image_of}
use Rattle.page_image.specs.Rules.{IsImage, IsPage}
use Rattle.page_image.proofs.PageLaws.{length-zeros, rest-slotted, rest-body, rest-unmade, drop-page_bytes, IsPage-page_bytes, image_of-page_bytes}

pub zeros-add : (m n : ℕ) → zeros (m + n) ≡ zeros m ++ zeros n
unfolding zeros
zeros-add m n = sym (replicate-append-replicate m n 0)

unmade_has_none : (k : Kind) → k ≡ Unmade → is_slotted k ≡ false
unmade_has_none k e = ap is_slotted e

-- a page with items keeps the rules under a change of its LSN, structure, next and items
pub kept_good : (im : Image) (lsn structure next : ℕ) (items : List (List ℕ)) → IsImage im → is_slotted im.kind ≡ true
    → 1 ≤ lsn → lsn < 2 ^ 64 → structure ≤ lsn → next ≤ 32767 → All (λ item. 1 ≤ length item) items → used items ≤ 4064
    → IsImage (record im { lsn = lsn; structure = structure; next = next; items = items })
kept_good im lsn structure next items good slotted some small shape link each room =
    record {
      page_bound = good.page_bound;
      lsn_bound = small;
      unmade_only = ((λ none. absurd (omega arith)), (λ unmade. absurd (false≢true (sym (unmade_has_none im.kind unmade) ∙ slotted))));
      structure_bound = shape;
      next_bound = link;
      next_of_items = λ plain. absurd (false≢true (sym plain ∙ slotted));
      level_fits = good.level_fits;
      no_items = λ plain. absurd (false≢true (sym plain ∙ slotted));
      some_bytes = each;
      room = room;
      no_body = good.no_body;
      whole_body = good.whole_body;
    }

pub structure_small : (b : Bool) (lsn structure : ℕ) → structure ≤ lsn → cond b lsn structure ≤ lsn
structure_small true lsn structure h = omega arith
structure_small false lsn structure h = h

pub free_is_left : (im : Image) → is_slotted im.kind ≡ true → free_of im ≡ 4064 - used im.items
free_is_left im slotted = ap (λ (b : Bool). cond b (4064 - used im.items) 0) slotted

pub inserted_good : (im : Image) (i : ℕ) (item : List ℕ) (lsn : ℕ) → IsImage im → CanInsert im i item → Follows im lsn → lsn < 2 ^ 64 → IsImage (inserted im i item lsn)
inserted_good im i item lsn good can follows small =
    kept_good im lsn (structure_after im lsn) im.next (insert im.items i item) good can.slotted follows.some small
    (structure_small (is_inner im.kind) lsn im.structure (omega (arith, good.structure_bound, follows.later)))
    good.next_bound
    (All-append (λ (x : List ℕ). 1 ≤ length x) (take i im.items) (item ∷ drop i im.items)
    (All-take (λ (x : List ℕ). 1 ≤ length x) i im.items good.some_bytes)
    (All-cons (λ (x : List ℕ). 1 ≤ length x) item (drop i im.items) can.some (All-drop (λ (x : List ℕ). 1 ≤ length x) i im.items good.some_bytes)))
    (omega (arith, sum_by-insert (λ (x : List ℕ). length x + 2) im.items i item, can.room, free_is_left im can.slotted, good.room))

-- a change is done when the bytes spell the new image
pub is_page_then : (im : Image) (new : List ℕ) → IsImage im → new ≡ page_bytes im → IsPage new
is_page_then im new good e = subst (λ (q : List ℕ). IsPage q) (sym e) (IsPage-page_bytes im good)

pub shows_then : (im : Image) (new : List ℕ) → IsImage im → new ≡ page_bytes im → image_of new ≡ im
shows_then im new good e = ap image_of e ∙ image_of-page_bytes im good

-- a header written in front of what the image has there
pub with_header : (im : Image) (h : Header) (old new : List ℕ) → new ≡ header_bytes h ++ drop 32 old → h ≡ header_of im → drop 32 old ≡ rest_bytes im → new ≡ page_bytes im
unfolding page_bytes
with_header im h old new written same rest =
    written ∙ ap (λ (q : Header). header_bytes q ++ drop 32 old) same ∙ ap (λ (q : List ℕ). header_bytes (header_of im) ++ q) rest

-- the unmade page
pub unmade_good : (p : ℕ) → p ≤ 32767 → IsImage (unmade p)
unmade_good p bound =
    record {
      page_bound = bound;
      lsn_bound = omega arith;
      unmade_only = ((λ _. refl), (λ _. refl));
      structure_bound = omega arith;
      next_bound = omega arith;
      next_of_items = λ _. refl;
      level_fits = refl;
      no_items = λ _. refl;
      some_bytes = All-nil (λ (x : List ℕ). 1 ≤ length x);
      room = omega arith;
      no_body = λ _. refl;
      whole_body = λ body. absurd (false≢true body);
    }

pub blank_bytes : (p : ℕ) (h : Header) (old new : List ℕ) → old ≡ zeros 4096 → h ≡ header_of (unmade p) → new ≡ header_bytes h ++ drop 32 old → new ≡ page_bytes (unmade p)
blank_bytes p h old new clear same written =
    with_header (unmade p) h old new written same
    (ap (drop 32) (clear ∙ zeros-add 32 4064) ∙ drop_at (zeros 32) (zeros 4064) 32 (length-zeros 32) ∙ sym (rest-unmade (unmade p) refl refl))

-- a made page
pub made_good : (im : Image) (kind : Kind) (level lsn : ℕ) → IsImage im → CanMake im kind level → Follows im lsn → lsn < 2 ^ 64 → IsImage (made im kind level lsn)
made_good im kind level lsn good can follows small =
    record {
      page_bound = good.page_bound;
      lsn_bound = small;
      unmade_only = ((λ none. absurd (omega (arith, follows.some))), (λ unmade. absurd (can.some unmade)));
      structure_bound = omega arith;
      next_bound = omega arith;
      next_of_items = λ _. refl;
      level_fits = can.fits;
      no_items = λ _. refl;
      some_bytes = All-nil (λ (x : List ℕ). 1 ≤ length x);
      room = omega arith;
      no_body = λ none. ap (λ (b : Bool). cond b (zeros 4064) []) none;
      whole_body = λ body. ap (λ (b : Bool). length (cond b (zeros 4064) [])) body ∙ length-zeros 4064;
    }

-- without items all behind the header is zero
rest-empty : (im : Image) → is_slotted im.kind ≡ true → im.items ≡ [] → rest_bytes im ≡ zeros 4064
rest-empty im slotted none =
    rest-slotted im slotted ∙ ap (λ (q : List (List ℕ)). slot_bytes 4096 q ++ (zeros (4064 - used q) ++ packed q)) none ∙ append-nil (zeros 4064)

kinds : (k : Kind) → (k ≡ Unmade) ⊎ ((is_slotted k ≡ true) ⊎ ((is_slotted k ≡ false) × (has_body k ≡ true)))
kinds Unmade = inl refl
kinds Meta = inr (inr (refl, refl))
kinds Slots = inr (inr (refl, refl))
kinds Stamps = inr (inr (refl, refl))
kinds Leaf = inr (inl refl)
kinds Inner = inr (inl refl)
kinds Undo = inr (inl refl)

rest-made : (im : Image) (kind : Kind) (level lsn : ℕ) → kind ≢ Unmade → rest_bytes (made im kind level lsn) ≡ zeros 4064
rest-made im kind level lsn some =
    ⊎_elim (λ unmade. absurd (some unmade))
    (λ other. ⊎_elim (λ slotted. rest-empty (made im kind level lsn) slotted refl)
    (λ body. rest-body (made im kind level lsn) (body.0) (body.1) ∙ ap (λ (b : Bool). cond b (zeros 4064) []) (body.1)) other)
    (kinds kind)

rest-before : (im : Image) (kind : Kind) (level : ℕ) → CanMake im kind level → rest_bytes im ≡ zeros 4064
rest-before im kind level can =
    ⊎_elim (λ unmade. rest-unmade im (ap is_slotted unmade) (ap has_body unmade))
    (λ empty. rest-empty im (⊎_elim (λ leaf. ap is_slotted leaf) (λ inner. ap is_slotted inner) (empty.0)) (empty.1))
    can.from

pub made_bytes : (im : Image) (kind : Kind) (level lsn : ℕ) (h : Header) (old new : List ℕ) → CanMake im kind level → old ≡ page_bytes im → h ≡ header_of (made im kind level lsn) → new ≡ header_bytes h ++ drop 32 old → new ≡ page_bytes (made im kind level lsn)
made_bytes im kind level lsn h old new can before same written =
    with_header (made im kind level lsn) h old new written same
    (ap (drop 32) before ∙ drop-page_bytes im ∙ rest-before im kind level can ∙ sym (rest-made im kind level lsn can.some))
