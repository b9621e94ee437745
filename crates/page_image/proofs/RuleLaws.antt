-- Bytes have no fault exactly where they are a page.
use Rattle.std.proofs.Common.{◌≡◌, ◌≤◌, ◌<◌, ◌+◌, ◌-◌, ◌*◌, ◌^◌, ◌↔◌, ◌==◌, ◌&&◌, ◌||◌, ℕ, zero, suc, Bool, true, false, cond, List, [], ◌++◌, length, take, drop, slice_index, slice_range, nat_lt, nat_le, Option, None, Some, refl, sym, ◌∙◌, ap, subst, ⊎_elim, arith, length-drop}
use Rattle.std.specs.Option.{option_or, option_map}
use Rattle.std.proofs.lemmas.List.{drop-drop, take-append-drop, take_all, get_or-drop, get_or-take}
use Rattle.std.proofs.lemmas.List.Elements.{All-nil}
use Rattle.std.proofs.lemmas.Bool.{cases_Bool, false≢true, and_parts, and_from, ltb-true, leb-true, eqb-true, lt-ltb, le-leb, eq-eqb, ne_eqb}
use Rattle.rm_base.specs.Fields.{number, AreBytes}
use Rattle.rm_base.proofs.FieldLaws.{number-lt}
use Rattle.page_image.specs.declared.header.Header.{Header}
use Rattle.page_image.specs.declared.kind.Kind.{Kind}
use Rattle.page_image.specs.declared.kind.Kind.TheVariants.{Unmade, Meta, Slots, Stamps, Leaf, Inner, Undo}
use Rattle.page_image.specs.Image.{Image, is_slotted, is_inner, has_body, used, zeros, LevelFits}
use Rattle.page_image.specs.Layout.{header_bytes, header_at, header_of, packed, slot_bytes, items_at, end_of, rest_bytes, page_bytes, image_of}
use Rattle.page_image.specs.Rules.{IsImage, IsPage}
use Rattle.page_image.specs.Faults.{slots_hold, lsn_holds, next_holds, low_holds, level_holds, first_broken, header_rules, first_failing, slot_holds, slot_fault, zero_end, byte_fault, fault}
use Rattle.page_image.proofs.HeaderLaws.{same_headers}
use Rattle.page_image.proofs.ItemLaws.{used_is}
use Rattle.page_image.proofs.PageLaws.{IsPage-page_bytes, rest-slotted, rest-body, rest-unmade, no_both}
use Rattle.page_image.proofs.FaultLaws.{all_pass, slot_says}
use Rattle.page_image.proofs.ReadLaws.{AreBytes-drop, header_bytes-header_at, Descends, last_place, last_place-le, length-range, length-items_at, slot_bytes-items_at, packed-items_at, some-items_at, zeros_from}

-- a rule that holds before others, and these
rule_holds : (holds : Bool) (at : ℕ) (rest : Option ℕ) → cond holds rest (Some at) ≡ None → (holds ≡ true) × (rest ≡ None)
rule_holds true at rest e = (refl, e)
rule_holds false at rest e = absurd cc

-- what the rules of the header say
pub record HeaderHolds (bytes : List ℕ) : Type 0 where
  pub kind : slice_index bytes 0 ≤ 6
  pub first : slice_index bytes 1 ≡ 0
  pub slots : slots_hold (header_at bytes) ≡ true
  pub page : (header_at bytes).page ≤ 32767
  pub lsn : lsn_holds (header_at bytes) ≡ true
  pub structure : (header_at bytes).structure ≤ (header_at bytes).lsn
  pub next : next_holds (header_at bytes) ≡ true
  pub low : low_holds bytes (header_at bytes) ≡ true
  pub level : level_holds (header_at bytes) ≡ true
  pub last : slice_index bytes 31 ≡ 0

header_says : (bytes : List ℕ) → first_broken (header_rules bytes) ≡ None → HeaderHolds bytes
header_says bytes none =
    let h : Header = header_at bytes in
    let r31 : Option ℕ = cond (slice_index bytes 31 == 0) None (Some 31) in
    let r30 : Option ℕ = cond (level_holds h) r31 (Some 30) in
    let r28 : Option ℕ = cond (low_holds bytes h) r30 (Some 28) in
    let r24 : Option ℕ = cond (next_holds h) r28 (Some 24) in
    let r16 : Option ℕ = cond (nat_le h.structure h.lsn) r24 (Some 16) in
    let r8 : Option ℕ = cond (lsn_holds h) r16 (Some 8) in
    let r4 : Option ℕ = cond (nat_le h.page 32767) r8 (Some 4) in
    let r2 : Option ℕ = cond (slots_hold h) r4 (Some 2) in
    let r1 : Option ℕ = cond (slice_index bytes 1 == 0) r2 (Some 1) in
    let s0 = rule_holds (nat_le (slice_index bytes 0) 6) 0 r1 none in
    let s1 = rule_holds (slice_index bytes 1 == 0) 1 r2 (s0.1) in
    let s2 = rule_holds (slots_hold h) 2 r4 (s1.1) in
    let s4 = rule_holds (nat_le h.page 32767) 4 r8 (s2.1) in
    let s8 = rule_holds (lsn_holds h) 8 r16 (s4.1) in
    let s16 = rule_holds (nat_le h.structure h.lsn) 16 r24 (s8.1) in
    let s24 = rule_holds (next_holds h) 24 r28 (s16.1) in
    let s28 = rule_holds (low_holds bytes h) 28 r30 (s24.1) in
    let s30 = rule_holds (level_holds h) 30 r31 (s28.1) in
    let s31 = rule_holds (slice_index bytes 31 == 0) 31 None (s30.1) in
    record {
      kind = leb-true (slice_index bytes 0) 6 (s0.0);
      first = eqb-true (slice_index bytes 1) 0 (s1.0);
      slots = s2.0;
      page = leb-true h.page 32767 (s4.0);
      lsn = s8.0;
      structure = leb-true h.structure h.lsn (s16.0);
      next = s24.0;
      low = s28.0;
      level = s30.0;
      last = eqb-true (slice_index bytes 31) 0 (s31.0);
    }

-- a choice by the sort of the kind
at_true : (b x y : Bool) → cond b x y ≡ true → b ≡ true → x ≡ true
at_true b x y e t = ap (λ (q : Bool). cond q x y) (sym t) ∙ e

at_false : (b x y : Bool) → cond b x y ≡ true → b ≡ false → y ≡ true
at_false b x y e f = ap (λ (q : Bool). cond q x y) (sym f) ∙ e

level_says : (k : Kind) (level : ℕ) → cond (is_inner k) (nat_le 1 level && nat_le level 8) (level == 0) ≡ true → LevelFits k level
level_says Unmade level e = eqb-true level 0 e
level_says Meta level e = eqb-true level 0 e
level_says Slots level e = eqb-true level 0 e
level_says Stamps level e = eqb-true level 0 e
level_says Leaf level e = eqb-true level 0 e
level_says Inner level e = let parts = and_parts (nat_le 1 level) (nat_le level 8) e in (leb-true 1 level (parts.0), leb-true level 8 (parts.1))
level_says Undo level e = eqb-true level 0 e

pub level_said : (k : Kind) (level : ℕ) → LevelFits k level → cond (is_inner k) (nat_le 1 level && nat_le level 8) (level == 0) ≡ true
level_said Unmade level fits = eq-eqb level 0 fits
level_said Meta level fits = eq-eqb level 0 fits
level_said Slots level fits = eq-eqb level 0 fits
level_said Stamps level fits = eq-eqb level 0 fits
level_said Leaf level fits = eq-eqb level 0 fits
level_said Inner level fits = and_from (nat_le 1 level) (nat_le level 8) (le-leb 1 level (fits.0)) (le-leb level 8 (fits.1))
level_said Undo level fits = eq-eqb level 0 fits

lsn_says : (k : Kind) (lsn : ℕ) → cond (is_slotted k || has_body k) (nat_lt 0 lsn) (lsn == 0) ≡ true → (lsn ≡ 0) ↔ (k ≡ Unmade)
lsn_says Unmade lsn e = ((λ _. refl), (λ _. eqb-true lsn 0 e))
lsn_says Meta lsn e = ((λ none. absurd (omega (arith, ltb-true 0 lsn e))), (λ unmade. absurd cc))
lsn_says Slots lsn e = ((λ none. absurd (omega (arith, ltb-true 0 lsn e))), (λ unmade. absurd cc))
lsn_says Stamps lsn e = ((λ none. absurd (omega (arith, ltb-true 0 lsn e))), (λ unmade. absurd cc))
lsn_says Leaf lsn e = ((λ none. absurd (omega (arith, ltb-true 0 lsn e))), (λ unmade. absurd cc))
lsn_says Inner lsn e = ((λ none. absurd (omega (arith, ltb-true 0 lsn e))), (λ unmade. absurd cc))
lsn_says Undo lsn e = ((λ none. absurd (omega (arith, ltb-true 0 lsn e))), (λ unmade. absurd cc))

some_lsn : (lsn : ℕ) → (lsn ≡ 0 → ⊥) → nat_lt 0 lsn ≡ true
some_lsn lsn some = lt-ltb 0 lsn (omega arith)

pub lsn_said : (k : Kind) (lsn : ℕ) → (lsn ≡ 0) ↔ (k ≡ Unmade) → cond (is_slotted k || has_body k) (nat_lt 0 lsn) (lsn == 0) ≡ true
lsn_said Unmade lsn iff = eq-eqb lsn 0 (iff.1 refl)
lsn_said Meta lsn iff = some_lsn lsn (λ none. let e : Meta ≡ Unmade = iff.0 none in absurd cc)
lsn_said Slots lsn iff = some_lsn lsn (λ none. let e : Slots ≡ Unmade = iff.0 none in absurd cc)
lsn_said Stamps lsn iff = some_lsn lsn (λ none. let e : Stamps ≡ Unmade = iff.0 none in absurd cc)
lsn_said Leaf lsn iff = some_lsn lsn (λ none. let e : Leaf ≡ Unmade = iff.0 none in absurd cc)
lsn_said Inner lsn iff = some_lsn lsn (λ none. let e : Inner ≡ Unmade = iff.0 none in absurd cc)
lsn_said Undo lsn iff = some_lsn lsn (λ none. let e : Undo ≡ Unmade = iff.0 none in absurd cc)

next_says : (b : Bool) (next : ℕ) → cond b (nat_le next 32767) (next == 0) ≡ true → (next ≤ 32767) × (b ≡ false → next ≡ 0)
next_says true next e = (leb-true next 32767 e, λ plain. absurd (false≢true (sym plain)))
next_says false next e = let none : next ≡ 0 = eqb-true next 0 e in (omega arith, λ _. none)

-- the end of the item after place i is the place that slot i holds
end_of-more : (bytes : List ℕ) (i : ℕ) → end_of bytes (i + 1) ≡ number 2 (drop (32 + 2 * i) bytes)
end_of-more bytes i =
    let same : i + 1 - 1 ≡ i = omega arith in
    ap (λ (b : Bool). cond b 4096 (number 2 (drop (32 + 2 * (i + 1 - 1)) bytes))) (ne_eqb (i + 1) 0 (λ e. absurd (omega arith)))
    ∙ ap (λ (q : ℕ). number 2 (drop (32 + 2 * q) bytes)) same

-- slots that hold descend
descends : (bytes : List ℕ) (count n i : ℕ) → ((k : ℕ) → i ≤ k → k < i + n → slot_holds bytes count k ≡ true)
    → Descends n (end_of bytes i) (drop (32 + 2 * i) bytes) × (last_place n (end_of bytes i) (drop (32 + 2 * i) bytes) ≡ end_of bytes (i + n))
descends bytes count zero i each = let same : i ≡ i + 0 = omega arith in (tt, ap (end_of bytes) same)
descends bytes count (suc n) i each =
    let place : end_of bytes (i + 1) ≡ number 2 (drop (32 + 2 * i) bytes) = end_of-more bytes i in
    let at : 32 + 2 * i + 2 ≡ 32 + 2 * (i + 1) = omega arith in
    let later : drop 2 (drop (32 + 2 * i) bytes) ≡ drop (32 + 2 * (i + 1)) bytes = drop-drop 2 (32 + 2 * i) bytes ∙ ap (λ (q : ℕ). drop q bytes) at in
    let rest = descends bytes count n (i + 1) (λ k low high. each k (omega arith) (omega arith)) in
    let first : number 2 (drop (32 + 2 * i) bytes) < end_of bytes i = omega (arith, (slot_says bytes count i (each i (omega arith) (omega arith))).0) in
    let same : i + 1 + n ≡ i + suc n = omega arith in (
      (first, subst (λ (q : List ℕ). Descends n (number 2 (drop (32 + 2 * i) bytes)) q) (sym later) (subst (λ (q : ℕ). Descends n q (drop (32 + 2 * (i + 1)) bytes)) place (rest.0))),
      ap (λ (q : List ℕ). last_place n (number 2 (drop (32 + 2 * i) bytes)) q) later
          ∙ ap (λ (q : ℕ). last_place n q (drop (32 + 2 * (i + 1)) bytes)) (sym place)
          ∙ rest.1 ∙ ap (end_of bytes) same,
    )

none_or : (a b : Option ℕ) → option_or a b ≡ None → (a ≡ None) × (b ≡ None)
none_or None b e = (refl, e)
none_or (Some x) b e = absurd cc

none_map : (f : ℕ → ℕ) (o : Option ℕ) → option_map f o ≡ None → o ≡ None
none_map f None e = refl
none_map f (Some x) e = absurd cc

-- all that the rules say
record Kept (bytes : List ℕ) : Type 0 where
  size : length bytes ≡ 4096
  header : HeaderHolds bytes
  slots : (k : ℕ) → 0 ≤ k → k < 0 + (header_at bytes).slots → slot_holds bytes (header_at bytes).slots k ≡ true
  clear : (k : ℕ) → 32 + 2 * (header_at bytes).slots ≤ k → k < 32 + 2 * (header_at bytes).slots + (zero_end (header_at bytes) - (32 + 2 * (header_at bytes).slots)) → (slice_index bytes k == 0) ≡ true

kept : (bytes : List ℕ) → fault bytes ≡ None → Kept bytes
kept bytes none =
    let h : Header = header_at bytes in
    let from : ℕ = 32 + 2 * h.slots in
    let parts : Option ℕ = option_or (slot_fault bytes h.slots) (byte_fault bytes from (zero_end h)) in
    let whole = rule_holds (length bytes == 4096) 4096 (option_or (first_broken (header_rules bytes)) parts) none in
    let front = none_or (first_broken (header_rules bytes)) parts (whole.1) in
    let behind = none_or (slot_fault bytes h.slots) (byte_fault bytes from (zero_end h)) (front.1) in
    record {
      size = eqb-true (length bytes) 4096 (whole.0);
      header = header_says bytes (front.0);
      slots = all_pass (slot_holds bytes h.slots) 0 h.slots (none_map (λ (i : ℕ). 32 + 2 * i) (first_failing (slot_holds bytes h.slots) 0 h.slots) (behind.0));
      clear = all_pass (λ (k : ℕ). slice_index bytes k == 0) from (zero_end h - from) (behind.1);
    }

-- a part that is zero
zero_part : (bytes : List ℕ) (from to : ℕ) → from ≤ to → to ≤ length bytes → ((k : ℕ) → from ≤ k → k < from + (to - from) → (slice_index bytes k == 0) ≡ true) → slice_range bytes from to ≡ zeros (to - from)
zero_part bytes from to low high each =
    let size : length (slice_range bytes from to) ≡ to - from = length-range bytes from to low high in
    zeros_from (slice_range bytes from to) (λ k within.
    let inside : k < to - from = omega arith in
    get_or-take (to - from) (drop from bytes) k 0 inside ∙ get_or-drop from bytes k 0 ∙ eqb-true (slice_index bytes (from + k)) 0 (each (from + k) (omega arith) (omega arith)))
    ∙ ap zeros size

-- bytes behind their header
spelled_then : (bytes : List ℕ) (im : Image) → AreBytes bytes → Kept bytes → header_at bytes ≡ header_of im → drop 32 bytes ≡ rest_bytes im → bytes ≡ page_bytes im
unfolding page_bytes
spelled_then bytes im are k same rest =
    sym (take-append-drop 32 bytes)
    ∙ ap (λ (q : List ℕ). q ++ drop 32 bytes) (sym (header_bytes-header_at bytes are (omega (arith, k.size)) k.header.kind k.header.first k.header.last))
    ∙ ap (λ (q : Header). header_bytes q ++ drop 32 bytes) same
    ∙ ap (λ (q : List ℕ). header_bytes (header_of im) ++ q) rest

-- with the image's rules, the bytes are a page
page_then : (bytes : List ℕ) (im : Image) → image_of bytes ≡ im → IsImage im → bytes ≡ page_bytes im → IsPage bytes
page_then bytes im shown good spelled = subst (λ (q : List ℕ). IsPage q) (sym spelled) (IsPage-page_bytes im good)

lsn_small : (bytes : List ℕ) → AreBytes bytes → (header_at bytes).lsn < 2 ^ 64
lsn_small bytes are = number-lt 8 (drop 8 bytes) (AreBytes-drop 8 bytes are)

-- bytes without items and with a body
body_page : (bytes : List ℕ) → AreBytes bytes → Kept bytes → is_slotted (header_at bytes).kind ≡ false → has_body (header_at bytes).kind ≡ true → IsPage bytes
body_page bytes are k plain body =
    let h : Header = header_at bytes in
    let im : Image = record { kind = h.kind; page = h.page; lsn = h.lsn; structure = h.structure; next = h.next; level = h.level; items = []; body = drop 32 bytes } in
    let items : cond (is_slotted h.kind) (items_at h.slots 4096 (drop 32 bytes) bytes) [] ≡ [] = ap (λ (b : Bool). cond b (items_at h.slots 4096 (drop 32 bytes) bytes) []) plain in
    let held : cond (has_body h.kind) (drop 32 bytes) [] ≡ drop 32 bytes = ap (λ (b : Bool). cond b (drop 32 bytes) []) body in
    let shown : image_of bytes ≡ im =
    ap (λ (q : List (List ℕ)). record im { items = q; body = cond (has_body h.kind) (drop 32 bytes) [] }) items ∙ ap (λ (q : List ℕ). record im { body = q }) held in
    let slots : h.slots ≡ 0 = eqb-true h.slots 0 (at_false (is_slotted h.kind) (nat_le h.slots 1354) (h.slots == 0) k.header.slots plain) in
    let low : h.low ≡ 0 = eqb-true h.low 0 (at_false (is_slotted h.kind) (h.low == end_of bytes h.slots) (h.low == 0) k.header.low plain) in
    let next = next_says (is_slotted h.kind) h.next k.header.next in
    let size : length (drop 32 bytes) ≡ 4064 = length-drop 32 bytes ∙ omega (arith, k.size) in
    let good : IsImage im =
    record {
      page_bound = k.header.page;
      lsn_bound = lsn_small bytes are;
      unmade_only = lsn_says h.kind h.lsn k.header.lsn;
      structure_bound = k.header.structure;
      next_bound = next.0;
      next_of_items = next.1;
      level_fits = level_says h.kind h.level k.header.level;
      no_items = λ _. refl;
      some_bytes = All-nil (λ (x : List ℕ). 1 ≤ length x);
      room = omega arith;
      no_body = λ none. absurd (false≢true (sym none ∙ body));
      whole_body = λ _. size;
    } in
    let same : h ≡ header_of im =
    same_headers h (header_of im) refl slots refl refl refl refl (low ∙ ap (λ (b : Bool). cond b 4096 0) (sym plain)) refl in
    page_then bytes im shown good (spelled_then bytes im are k same (sym (rest-body im plain body)))

-- bytes of an unmade page
unmade_page : (bytes : List ℕ) → AreBytes bytes → Kept bytes → is_slotted (header_at bytes).kind ≡ false → has_body (header_at bytes).kind ≡ false → IsPage bytes
unmade_page bytes are k plain none =
    let h : Header = header_at bytes in
    let im : Image = record { kind = h.kind; page = h.page; lsn = h.lsn; structure = h.structure; next = h.next; level = h.level; items = []; body = [] } in
    let items : cond (is_slotted h.kind) (items_at h.slots 4096 (drop 32 bytes) bytes) [] ≡ [] = ap (λ (b : Bool). cond b (items_at h.slots 4096 (drop 32 bytes) bytes) []) plain in
    let held : cond (has_body h.kind) (drop 32 bytes) [] ≡ [] = ap (λ (b : Bool). cond b (drop 32 bytes) []) none in
    let shown : image_of bytes ≡ im =
    ap (λ (q : List (List ℕ)). record im { items = q; body = cond (has_body h.kind) (drop 32 bytes) [] }) items ∙ ap (λ (q : List ℕ). record im { body = q }) held in
    let slots : h.slots ≡ 0 = eqb-true h.slots 0 (at_false (is_slotted h.kind) (nat_le h.slots 1354) (h.slots == 0) k.header.slots plain) in
    let low : h.low ≡ 0 = eqb-true h.low 0 (at_false (is_slotted h.kind) (h.low == end_of bytes h.slots) (h.low == 0) k.header.low plain) in
    let next = next_says (is_slotted h.kind) h.next k.header.next in
    let end : zero_end h ≡ 4096 = ap (λ (b : Bool). cond b h.low (cond (has_body h.kind) 32 4096)) plain ∙ ap (λ (b : Bool). cond b 32 4096) none in
    let size : length (drop 32 bytes) ≡ 4064 = length-drop 32 bytes ∙ omega (arith, k.size) in
    let good : IsImage im =
    record {
      page_bound = k.header.page;
      lsn_bound = lsn_small bytes are;
      unmade_only = lsn_says h.kind h.lsn k.header.lsn;
      structure_bound = k.header.structure;
      next_bound = next.0;
      next_of_items = next.1;
      level_fits = level_says h.kind h.level k.header.level;
      no_items = λ _. refl;
      some_bytes = All-nil (λ (x : List ℕ). 1 ≤ length x);
      room = omega arith;
      no_body = λ _. refl;
      whole_body = λ body. absurd (false≢true (sym none ∙ body));
    } in
    let same : h ≡ header_of im =
    same_headers h (header_of im) refl slots refl refl refl refl (low ∙ ap (λ (b : Bool). cond b 4096 0) (sym plain)) refl in
    let part : slice_range bytes 32 4096 ≡ zeros 4064 =
    zero_part bytes 32 4096 (omega arith) (omega (arith, k.size)) (λ j low' high'. k.clear j (omega arith) (omega arith)) in
    let rest : drop 32 bytes ≡ zeros 4064 = sym (take_all 4064 (drop 32 bytes) (omega arith)) ∙ part in
    page_then bytes im shown good (spelled_then bytes im are k same (rest ∙ sym (rest-unmade im plain none)))

-- the lowest item begins past the slots
low_room : (bytes : List ℕ) (count : ℕ) → count ≤ 1354 → ((k : ℕ) → 0 ≤ k → k < 0 + count → slot_holds bytes count k ≡ true) → 32 + 2 * count ≤ end_of bytes count
low_room bytes zero few each = omega arith
low_room bytes (suc n) few each =
    let same : n + 1 ≡ suc n = omega arith in
    let last : 32 + 2 * suc n ≤ end_of bytes (n + 1) = (slot_says bytes (suc n) n (each n (omega arith) (omega arith))).1 in
    subst (λ (q : ℕ). 32 + 2 * suc n ≤ end_of bytes q) same last

-- the parts of bytes behind a header: slots, zero bytes, items
three_parts : (bytes : List ℕ) (n low : ℕ) → length bytes ≡ 4096 → 32 + 2 * n ≤ low → low ≤ 4096
    → drop 32 bytes ≡ take (2 * n) (drop 32 bytes) ++ (slice_range bytes (32 + 2 * n) low ++ slice_range bytes low 4096)
three_parts bytes n low size room high =
    let from : ℕ = 32 + 2 * n in
    let there : from + (low - from) ≡ low = omega arith in
    let whole : take (4096 - low) (drop low bytes) ≡ drop low bytes = take_all (4096 - low) (drop low bytes) (omega (arith, length-drop low bytes)) in
    sym (take-append-drop (2 * n) (drop 32 bytes))
    ∙ ap (λ (q : List ℕ). take (2 * n) (drop 32 bytes) ++ q)
    (drop-drop (2 * n) 32 bytes
    ∙ sym (take-append-drop (low - from) (drop from bytes))
    ∙ ap (λ (q : List ℕ). slice_range bytes from low ++ q) (drop-drop (low - from) from bytes ∙ ap (λ (q : ℕ). drop q bytes) there ∙ sym whole))

-- bytes with items
items_page : (bytes : List ℕ) → AreBytes bytes → Kept bytes → is_slotted (header_at bytes).kind ≡ true → IsPage bytes
items_page bytes are k slotted =
    let h : Header = header_at bytes in
    let n : ℕ = h.slots in
    let slots : List ℕ = drop 32 bytes in
    let items : List (List ℕ) = items_at n 4096 slots bytes in
    let im : Image = record { kind = h.kind; page = h.page; lsn = h.lsn; structure = h.structure; next = h.next; level = h.level; items = items; body = [] } in
    let none : has_body h.kind ≡ false = no_both h.kind slotted in
    let read : cond (is_slotted h.kind) items [] ≡ items = ap (λ (b : Bool). cond b items []) slotted in
    let held : cond (has_body h.kind) slots [] ≡ [] = ap (λ (b : Bool). cond b slots []) none in
    let shown : image_of bytes ≡ im =
    ap (λ (q : List (List ℕ)). record im { items = q; body = cond (has_body h.kind) slots [] }) read ∙ ap (λ (q : List ℕ). record im { body = q }) held in
    let few : n ≤ 1354 = leb-true n 1354 (at_true (is_slotted h.kind) (nat_le n 1354) (n == 0) k.header.slots slotted) in
    let low : h.low ≡ end_of bytes n = eqb-true h.low (end_of bytes n) (at_true (is_slotted h.kind) (h.low == end_of bytes n) (h.low == 0) k.header.low slotted) in
    let next = next_says (is_slotted h.kind) h.next k.header.next in
    let room : 32 + 2 * n ≤ end_of bytes n = low_room bytes n few k.slots in
    let steps = descends bytes n n 0 k.slots in
    let order : Descends n 4096 slots = steps.0 in
    let all : 0 + n ≡ n = omega arith in
    let last : last_place n 4096 slots ≡ h.low = steps.1 ∙ ap (end_of bytes) all ∙ sym low in
    let below : last_place n 4096 slots ≤ 4096 = last_place-le n 4096 slots order in
    let count : length items ≡ n = length-items_at n 4096 slots bytes in
    let bytes_of : packed items ≡ slice_range bytes h.low 4096 = packed-items_at n 4096 slots bytes (omega (arith, k.size)) order ∙ ap (λ (q : ℕ). slice_range bytes q 4096) last in
    let size : length (packed items) ≡ 4096 - h.low = ap (λ (q : List ℕ). length q) bytes_of ∙ length-range bytes h.low 4096 (omega arith) (omega (arith, k.size)) in
    let slots_of : slot_bytes 4096 items ≡ take (2 * n) slots = slot_bytes-items_at n 4096 slots bytes (AreBytes-drop 32 bytes are) (omega (arith, k.size, length-drop 32 bytes)) (omega (arith, k.size)) order in
    let taken : used items ≡ 4096 - h.low + 2 * n = omega (arith, used_is items) in
    let good : IsImage im =
    record {
      page_bound = k.header.page;
      lsn_bound = lsn_small bytes are;
      unmade_only = lsn_says h.kind h.lsn k.header.lsn;
      structure_bound = k.header.structure;
      next_bound = next.0;
      next_of_items = next.1;
      level_fits = level_says h.kind h.level k.header.level;
      no_items = λ plain. absurd (false≢true (sym plain ∙ slotted));
      some_bytes = some-items_at n 4096 slots bytes (omega (arith, k.size)) order;
      room = omega arith;
      no_body = λ _. refl;
      whole_body = λ body. absurd (false≢true (sym none ∙ body));
    } in
    let back : h.low ≡ cond (is_slotted h.kind) (4096 - length (packed items)) 0 = (let same : h.low ≡ 4096 - length (packed items) = omega arith in same ∙ ap (λ (b : Bool). cond b (4096 - length (packed items)) 0) (sym slotted)) in
    let same : h ≡ header_of im = same_headers h (header_of im) refl (sym count) refl refl refl refl back refl in
    let end : zero_end h ≡ h.low = ap (λ (b : Bool). cond b h.low (cond (has_body h.kind) 32 4096)) slotted in
    let clear : slice_range bytes (32 + 2 * n) h.low ≡ zeros (h.low - (32 + 2 * n)) =
    zero_part bytes (32 + 2 * n) h.low (omega arith) (omega (arith, k.size)) (λ j low' high'. k.clear j (omega arith) (omega arith)) in
    let free : h.low - (32 + 2 * n) ≡ 4064 - used items = omega arith in
    let rest : slots ≡ rest_bytes im =
    three_parts bytes n h.low k.size (omega arith) (omega arith)
    ∙ ap (λ (q : List ℕ). q ++ (slice_range bytes (32 + 2 * n) h.low ++ slice_range bytes h.low 4096)) (sym slots_of)
    ∙ ap (λ (q : List ℕ). slot_bytes 4096 items ++ (q ++ slice_range bytes h.low 4096)) (clear ∙ ap zeros free)
    ∙ ap (λ (q : List ℕ). slot_bytes 4096 items ++ (zeros (4064 - used items) ++ q)) (sym bytes_of)
    ∙ sym (rest-slotted im slotted) in
    page_then bytes im shown good (spelled_then bytes im are k same rest)

-- bytes without a fault are a page
pub page_from_rules : (bytes : List ℕ) → AreBytes bytes → fault bytes ≡ None → IsPage bytes
page_from_rules bytes are none =
    let k : Kept bytes = kept bytes none in
    ⊎_elim (λ slotted. items_page bytes are k slotted)
    (λ plain. ⊎_elim (λ body. body_page bytes are k plain body) (λ empty. unmade_page bytes are k plain empty) (cases_Bool (has_body (header_at bytes).kind)))
    (cases_Bool (is_slotted (header_at bytes).kind))
